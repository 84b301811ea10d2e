use Rattle.std.proofs.Common.{◌++◌, ◌∙◌, ℕ, List, subst, ap, length, map}
use Rattle.e_clause.specs.Views.{row_of}
use Rattle.e_transfer.specs.inner.PartsOfChoices.{atom_last}
use Rattle.e_transfer.specs.inner.Plans.{OrderIs, PositionsAre, plan_spans}
use Rattle.e_transfer.proofs.Plans.{plan_is}
use Rattle.e_transfer.proofs.plan.make_plan.Goals as goal

pub returns : goal.returns
returns c =
    let r = row_of c.args.row.now in
    let representatives = c.in_ok-representatives.representatives.items in
    let order = c.in_ok-order.order.items in
    let positions = c.in_ok-positions.positions.items in
    let ordered = subst (λ (l : List ℕ). OrderIs (length c.args.bindings.now) l order) c.deref.ensures.value c.in_ok-order.ensures in
    let placed = subst (λ (l : List ℕ). PositionsAre l c.deref-3.result.now positions) c.deref-2.ensures.value c.in_ok-positions.ensures in
    let placed' = subst (λ (l : List ℕ). PositionsAre representatives l positions) c.deref-3.ensures.value placed in
    let spans = c.in_ok-spans.ensures ∙ ap (λ (l : List ℕ). plan_spans r c.args.scope c.args.bindings.now l) c.deref-4.ensures.value in
    let first = c.in_ok-add_ready_at.ensures ∙ ap (λ (l : List ℕ). c.in_ok-ready_at.ready_at.items ++ map (λ m. atom_last r l m.atom) r.premises) c.deref-5.ensures.value
    ∙ ap (λ (l : List ℕ). l ++ map (λ m. atom_last r positions m.atom) r.premises) c.in_ok-ready_at.ensures.items in
    let second = c.in_ok-add_ready_at-2.ensures ∙ ap (λ (l : List ℕ). c.add_ready_at.new.ready_at.items ++ map (λ m. atom_last r l m.atom) r.conclusions) c.deref-6.ensures.value
    ∙ ap (λ (l : List ℕ). l ++ map (λ m. atom_last r positions m.atom) r.conclusions) first in
    plan_is r c.args.scope c.args.bindings.now representatives order (record { positions = c.in_ok-positions.positions; ready_at = c.add_ready_at-2.new.ready_at; spans = c.in_ok-spans.spans })
    c.requires c.in_ok-representatives.ensures ordered placed' spans second
