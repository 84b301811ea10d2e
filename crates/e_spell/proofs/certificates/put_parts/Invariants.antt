use Rattle.std.proofs.Common.{◌≡◌, ◌++◌, drop}
use Rattle.e_spell.specs.inner.Parts.{parts_text}
use Rattle.e_spell.proofs.certificates.put_parts.Given as goal

abbrev pub invariant-loop-part : goal.invariant-loop-part
invariant-loop-part l = l.out.items ++ parts_text l.names (drop l.part-index l.parts) ≡ l.initial.out.items ++ parts_text l.names l.parts
