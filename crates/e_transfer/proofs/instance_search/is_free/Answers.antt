use Rattle.std.proofs.Common.{refl, sym, ap, ◌∙◌}
use Rattle.std.specs.Prelude.{option_copied}
use Rattle.e_transfer.specs.declared.models.Filling.TheVariants.{Each, Spread}
use Rattle.e_transfer.specs.Areas.{is_among_areas}
use Rattle.e_transfer.specs.Models.{is_model, value_by}
use Rattle.e_transfer.proofs.FreeAreas.{is_free_area}
use Rattle.e_transfer.proofs.ModelValues.{then}
use Rattle.e_transfer.proofs.instance_search.is_free.Goals as goal

pub returns-then-hints : goal.returns-then-hints
returns-then-hints c = λ e.
    let s = c.args.query.now in
    let hints = c.in-Some.hints.now in
    let is = s.hinted hints (ap option_copied c.in-Some.is) in
    is_free_area (Each 1) s.facts.now hints.areas.items c.args.area hints.values (λ t. refl) c.requires (sym c.is_degenerate.ensures ∙ c.if-is_degenerate.false)
    (ap (λ v. is_among_areas v c.args.area) (sym c.deref.ensures.value) ∙ sym c.is_one_of.ensures ∙ c.if-is_one_of.false) is.named
    (then hints.plain_model (is_model s.facts.now (value_by (Each 1) hints.values)) is.plain c.if-hints.true)

pub returns-else-hints : goal.returns-else-hints
returns-else-hints c = λ e.
    let s = c.args.query.now in
    let hints = c.in-Some.hints.now in
    let is = s.hinted hints (ap option_copied c.in-Some.is) in
    is_free_area Spread s.facts.now hints.areas.items c.args.area hints.values (λ t. refl) c.requires (sym c.is_degenerate.ensures ∙ c.if-is_degenerate.false)
    (ap (λ v. is_among_areas v c.args.area) (sym c.deref.ensures.value) ∙ sym c.is_one_of.ensures ∙ c.if-is_one_of.false) is.named
    (then hints.spread_model (is_model s.facts.now (value_by Spread hints.values)) is.spread e)
