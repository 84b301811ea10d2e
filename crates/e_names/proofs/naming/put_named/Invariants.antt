use Rattle.std.proofs.Common.{◌≡◌, ◌++◌, map, drop}
use Rattle.e_names.specs.Canonical.{raw_of}
use Rattle.e_names.proofs.naming.put_named.Given as goal

abbrev pub invariant-loop-lit : goal.invariant-loop-lit
invariant-loop-lit l = l.raws ++ map (raw_of l.names) (drop l.lit-index l.lits) ≡ l.initial.raws ++ map (raw_of l.names) l.lits
