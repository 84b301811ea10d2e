use Rattle.std.proofs.Common.{◌≤◌, length, sym, ap, ◌∙◌, subst, arith}
use Rattle.e_literal.specs.declared.object.Scope.{Scope}
use Rattle.e_construct.specs.Superposing as superposing
use Rattle.e_prove.proofs.ReachedSteps.{on_ok_map}
use Rattle.e_prove.proofs.NextStates.{superposed_after, good_superposed}
use Rattle.e_prove.proofs.state_before.StateBefore.superpose.Goals as goal

pub gives-requires : goal.gives-requires
gives-requires c =
    let same = ap (λ (s : Scope). s.points) c.scope-scope.ensures in
    omega (arith, same, c.requires.room.points)

pub grow-requires-clause-points : goal.grow-requires-clause-points
grow-requires-clause-points c =
    let few : length c.made.result.now ≤ 2 = subst (λ sorts. length sorts ≤ 2) (sym c.made.ensures) (omega arith) in
    omega (arith, few, c.requires.room.points)

pub grow-requires-clause-lines : goal.grow-requires-clause-lines
grow-requires-clause-lines c =
    let few : length c.made.result.now ≤ 2 = subst (λ sorts. length sorts ≤ 2) (sym c.made.ensures) (omega arith) in
    omega (arith, few, c.requires.room.lines)

pub grow-requires-clause-circles : goal.grow-requires-clause-circles
grow-requires-clause-circles c =
    let few : length c.made.result.now ≤ 2 = subst (λ sorts. length sorts ≤ 2) (sym c.made.ensures) (omega arith) in
    omega (arith, few, c.requires.room.circles)

pub join-requires : goal.join-requires
join-requires c =
    let superposition = c.args.superposition.now in
    good_superposed superposition c.args.self.now.context c.grow.new.self.context c.made.result.now c.in_ok-given.given.items c.made.ensures
    (c.in_ok-given.ensures ∙ ap (superposing.gives_of_superposition superposition) c.scope-scope.ensures) c.in_ok-grow.ensures.scope c.requires.after

pub returns : goal.returns
returns c =
    let superposition = c.args.superposition.now in
    on_ok_map _ _ c.join.result
    (superposed_after superposition c.args.names.now c.args.self.now c.grow.new.self c.join.new.self c.made.result.now c.in_ok-given.given.items c.made.ensures
    (c.in_ok-given.ensures ∙ ap (superposing.gives_of_superposition superposition) c.scope-scope.ensures) c.in_ok-grow.ensures.scope c.in_ok-grow.ensures.names) c.join.ensures
