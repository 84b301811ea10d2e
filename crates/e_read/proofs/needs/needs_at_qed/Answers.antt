use Rattle.std.proofs.Common.{◌≡◌, Ok, List, map, ap, subst, ◌∙◌}
use Rattle.e_literal.specs.declared.object.Obj.{Obj}
use Rattle.e_literal.specs.declared.object.Sort.{Sort}
use Rattle.e_book.specs.Blocks.{made_in}
use Rattle.e_names.specs.Scope.{qed_in}
use Rattle.e_read.proofs.GoalSorts.{qed_sorts}
use Rattle.e_read.proofs.needs.needs_at_qed.Goals as goal

pub goal_with-requires-clause-sorts : goal.goal_with-requires-clause-sorts
goal_with-requires-clause-sorts c =
    let d = c.args.parser.now in
    let os = c.in_ok-objects.objects in
    let e = subst (λ (m : List Sort). qed_in d.in_scope m c.args.names.now ≡ Ok os) c.goal_made.ensures c.in_ok-objects.ensures in
    ap (λ (l : List Obj). map (λ (o : Obj). o.sort) l) c.items.ensures ∙ qed_sorts d.in_scope (made_in d.blocks d.made) c.args.names.now os e
