use Rattle.std.proofs.Common.{◌≡◌, ◌++◌, map, drop}
use Rattle.e_trim.specs.Trimmed.{lit_among_kept}
use Rattle.e_trim.proofs.numbering.new_lits.Given as goal

abbrev pub invariant-loop-lit : goal.invariant-loop-lit
invariant-loop-lit l = l.new.items ++ map (lit_among_kept l.kept) (drop l.lit-index l.lits) ≡ map (lit_among_kept l.kept) l.lits
