use Rattle.std.proofs.Common.{◌≡◌, ◌∙◌, sym, ap, subst}
use Rattle.std.specs.List.{list_any}
use Rattle.e_literal.specs.declared.literal.Lit.{Lit}
use Rattle.e_clause.specs.declared.pattern.Shape.{Shape}
use Rattle.e_clause.specs.Views.{atom_of}
use Rattle.e_transfer.specs.declared.query.Strength.TheVariants as strength
use Rattle.e_transfer.specs.Marks.{NoneSuffices}
use Rattle.e_transfer.specs.inner.Alike.{may_be}
use Rattle.e_transfer.proofs.Alike.{no_fact}
use Rattle.e_transfer.proofs.kinds.may_be_a_fact.Goals as goal

pub returns-in-MagEq : goal.returns-in-MagEq
returns-in-MagEq c = λ e.
    let neg = c.args.neg in
    let x = c.in-MagEq.x.now in
    let y = c.in-MagEq.y.now in
    subst (λ (s : Shape). NoneSuffices strength.Facts c.args.facts.now (record { neg = neg; atom = atom_of s })) (sym c.in-MagEq.is)
    (no_fact neg x y c.args.facts.now (ap (list_any (may_be neg x y)) (sym c.items.ensures) ∙ (sym c.has_equation.ensures ∙ e)))
