use Rattle.std.proofs.Common.{◌≡◌, eqb, get_or, Some, ◌<◌, length, List, ℕ, subst}
use Rattle.std.specs.Prelude.{slice_get}
use Rattle.std.proofs.lemmas.Bool.{not-true}
use Rattle.e_clause.specs.Views.{row_of}
use Rattle.e_transfer.specs.inner.PartsOfChoices.{arguments_by}
use Rattle.e_transfer.proofs.Instances.{arguments_at}
use Rattle.e_transfer.proofs.SearchedPlaces.{excluded}
use Rattle.e_transfer.proofs.instance_search.InstanceSearch.is_excluded_diagram.Goals as goal

pub returns-in-Some : goal.returns-in-Some
returns-in-Some c = λ e.
    let s = c.args.self.now in
    let bound : slice_get s.plan.now.ready_at.items c.args.j ≡ Some (get_or s.plan.now.ready_at.items c.args.j 0) =
    subst (λ (l : List ℕ). slice_get l c.args.j ≡ Some (get_or l c.args.j 0)) c.deref.ensures.value (c.is_completed.ensures.bound c.if-not-is_completed.false) in
    let below : get_or s.plan.now.ready_at.items c.args.j 0 < length c.args.numbers.now.part.now =
    subst (λ (l : List ℕ). get_or l c.args.j 0 < length c.args.numbers.now.part.now) c.deref.ensures.value
    (c.is_completed.ensures.below c.if-not-is_completed.false) in
    excluded s.query.strength s.query.scope s.query.facts.now s.query.goal.now s.rule s.place s.plan.now (row_of c.args.numbers.now.row.now) c.args.numbers.now.part.now (arguments_by c.args.numbers.now) c.args.j
    (get_or s.plan.now.ready_at.items c.args.j 0) c.in-Some.lit
    c.requires.of_table (arguments_at c.args.numbers.now s.plan.now.positions.items c.requires.places) bound below c.in-Some.ensures.is (c.diagram_may_hold.ensures (not-true c.diagram_may_hold.result e))
