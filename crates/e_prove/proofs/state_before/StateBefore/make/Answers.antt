use Rattle.std.proofs.Common.{◌≤◌, length, sym, ap, ◌∙◌, subst, arith}
use Rattle.e_literal.specs.declared.object.Scope.{Scope}
use Rattle.e_construct.specs.Construct.{gives_of_construction}
use Rattle.e_construct.proofs.Sizes.{few_made}
use Rattle.e_prove.proofs.ReachedSteps.{on_ok_map}
use Rattle.e_prove.proofs.NextStates.{made_after, good_given}
use Rattle.e_prove.proofs.state_before.StateBefore.make.Goals as goal

pub gives-requires-clause-points : goal.gives-requires-clause-points
gives-requires-clause-points c =
    let same = ap (λ (s : Scope). s.points) c.scope-scope.ensures in
    omega (arith, same, c.requires.room.points)

pub gives-requires-clause-lines : goal.gives-requires-clause-lines
gives-requires-clause-lines c =
    let same = ap (λ (s : Scope). s.lines) c.scope-scope.ensures in
    omega (arith, same, c.requires.room.lines)

pub gives-requires-clause-circles : goal.gives-requires-clause-circles
gives-requires-clause-circles c =
    let same = ap (λ (s : Scope). s.circles) c.scope-scope.ensures in
    omega (arith, same, c.requires.room.circles)

pub grow-requires-clause-points : goal.grow-requires-clause-points
grow-requires-clause-points c =
    let few : length c.made.result.now ≤ 2 = subst (λ s. length s ≤ 2) (sym c.made.ensures) (few_made c.args.construction.now) in
    omega (arith, few, c.requires.room.points)

pub grow-requires-clause-lines : goal.grow-requires-clause-lines
grow-requires-clause-lines c =
    let few : length c.made.result.now ≤ 2 = subst (λ s. length s ≤ 2) (sym c.made.ensures) (few_made c.args.construction.now) in
    omega (arith, few, c.requires.room.lines)

pub grow-requires-clause-circles : goal.grow-requires-clause-circles
grow-requires-clause-circles c =
    let few : length c.made.result.now ≤ 2 = subst (λ s. length s ≤ 2) (sym c.made.ensures) (few_made c.args.construction.now) in
    omega (arith, few, c.requires.room.circles)

pub join-requires : goal.join-requires
join-requires c =
    let construction = c.args.construction.now in
    good_given construction c.args.self.now.context c.grow.new.self.context c.made.result.now c.in_ok-given.given.items c.made.ensures
    (c.in_ok-given.ensures ∙ ap (gives_of_construction construction) c.scope-scope.ensures) c.in_ok-grow.ensures.scope c.requires.after

pub returns : goal.returns
returns c =
    let construction = c.args.construction.now in
    on_ok_map _ _ c.join.result
    (made_after construction c.args.names.now c.args.self.now c.grow.new.self c.join.new.self c.made.result.now c.in_ok-given.given.items c.made.ensures
    (c.in_ok-given.ensures ∙ ap (gives_of_construction construction) c.scope-scope.ensures) c.in_ok-grow.ensures.scope c.in_ok-grow.ensures.names) c.join.ensures
