use Rattle.std.proofs.Common.{ap, ◌∙◌, sym, subst, not}
use Rattle.std.specs.Prelude.{option_copied, Some}
use Rattle.std.proofs.lemmas.Bool.{not-false}
use Rattle.e_literal.specs.declared.literal.Lit.{Lit}
use Rattle.e_clause.specs.Views.{atom_of}
use Rattle.e_transfer.specs.declared.models.Filling.TheVariants.{Flat}
use Rattle.e_transfer.specs.declared.query.Strength.{Strength}
use Rattle.e_transfer.specs.Marks.{NoneSuffices}
use Rattle.e_transfer.specs.Models.{is_model, value_by}
use Rattle.e_transfer.proofs.MarkedFacts.{none_flat}
use Rattle.e_transfer.proofs.ModelValues.{then}
use Rattle.e_transfer.proofs.marks.may_follow.Goals as goal

pub returns : goal.returns
returns c = λ e.
    let s = c.args.query.now in
    let hints = c.in-Some.hints.now in
    let is = s.hinted hints (ap option_copied c.in-Some.is) in (
      record { neg = c.parts-neg.result.1; atom = atom_of c.parts-neg.result.0.now },
      c.pattern_at-negated.ensures ∙ ap (λ (l : Lit). Some l) c.parts-neg.ensures,
      none_flat s.strength s.facts.now hints.values (not c.parts-neg.result.1) (atom_of c.parts-neg.result.0.now)
          (then hints.flat_model (is_model s.facts.now (value_by Flat hints.values)) is.flat c.if-not-hints.false)
          (sym c.is_strict_of_areas.ensures ∙ not-false c.is_strict_of_areas.result e),
    )

pub returns-then-asks_facts : goal.returns-then-asks_facts
returns-then-asks_facts c = λ e.
    let s = c.args.query.now in
    let need : Lit = record { neg = not c.parts-neg.result.1; atom = atom_of c.parts-neg.result.0.now } in (
      record { neg = c.parts-neg.result.1; atom = atom_of c.parts-neg.result.0.now },
      c.pattern_at-negated.ensures ∙ ap (λ (l : Lit). Some l) c.parts-neg.ensures,
      subst (λ (m : Strength). NoneSuffices m s.facts.now need) (sym (c.asks_facts.ensures c.if-asks_facts.true)) (c.may_be_a_fact.ensures e),
    )
