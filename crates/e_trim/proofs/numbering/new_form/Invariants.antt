use Rattle.std.proofs.Common.{◌≡◌, ◌++◌, map, drop}
use Rattle.e_literal.specs.declared.object.Sort.TheVariants.{Point}
use Rattle.e_literal.specs.Rename.{mono_at}
use Rattle.e_trim.specs.Trimmed.{kept_before}
use Rattle.e_trim.proofs.numbering.new_form.Given as goal

abbrev pub invariant-loop-mono : goal.invariant-loop-mono
invariant-loop-mono l = l.new.items ++ map (mono_at (kept_before l.kept Point)) (drop l.mono-index l.form) ≡ map (mono_at (kept_before l.kept Point)) l.form
