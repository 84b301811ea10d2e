use Rattle.std.proofs.Common.{◌≡◌, ◌++◌, drop}
use Rattle.e_spell.specs.inner.Parts.{rows_text}
use Rattle.e_spell.proofs.certificates.put_rows.Given as goal

abbrev pub invariant-loop-row : goal.invariant-loop-row
invariant-loop-row l = l.out.items ++ rows_text l.names (drop l.row-index l.rows) ≡ l.initial.out.items ++ rows_text l.names l.rows
