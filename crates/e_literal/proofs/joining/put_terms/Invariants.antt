use Rattle.std.proofs.Common.{◌≡◌, drop}
use Rattle.std.specs.List.{fold}
use Rattle.e_literal.specs.inner.Joining.{put_term}
use Rattle.e_literal.proofs.joining.put_terms.Given as goal

abbrev pub invariant-loop-m : goal.invariant-loop-m
invariant-loop-m l = fold (put_term l.x l.y) l.form.entries (drop l.m-index l.monos) ≡ fold (put_term l.x l.y) l.initial.form.entries l.monos
