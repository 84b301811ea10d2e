use Rattle.std.proofs.Common.{arith, length, ap, ◌∙◌}
use Rattle.e_literal.specs.Scopes.{nothing, with_sorts, next_objects}
use Rattle.e_theorem.specs.Statements.{as_view, as_views}
use Rattle.e_deriv.specs.Script.{script_of}
use Rattle.e_deriv.proofs.Smallness.{few_objects}
use Rattle.e_trim.proofs.kept_scripts.Starting.{start_few, built_trimmed, built_certified}
use Rattle.e_trim.proofs.trimming.trim.Goals as goal

pub next_objects-requires-clause-points : goal.next_objects-requires-clause-points
next_objects-requires-clause-points c = let n = few_objects (as_view c.args.statement.now) c.requires.statement in let e = ap length c.items-declared.ensures in omega (arith, n, e)

pub next_objects-requires-clause-lines : goal.next_objects-requires-clause-lines
next_objects-requires-clause-lines c = let n = few_objects (as_view c.args.statement.now) c.requires.statement in let e = ap length c.items-declared.ensures in omega (arith, n, e)

pub next_objects-requires-clause-circles : goal.next_objects-requires-clause-circles
next_objects-requires-clause-circles c = let n = few_objects (as_view c.args.statement.now) c.requires.statement in let e = ap length c.items-declared.ensures in omega (arith, n, e)

pub with_sorts-requires-clause-points : goal.with_sorts-requires-clause-points
with_sorts-requires-clause-points c = let n = few_objects (as_view c.args.statement.now) c.requires.statement in let e = ap length c.items-declared.ensures in omega (arith, n, e)

pub with_sorts-requires-clause-lines : goal.with_sorts-requires-clause-lines
with_sorts-requires-clause-lines c = let n = few_objects (as_view c.args.statement.now) c.requires.statement in let e = ap length c.items-declared.ensures in omega (arith, n, e)

pub with_sorts-requires-clause-circles : goal.with_sorts-requires-clause-circles
with_sorts-requires-clause-circles c = let n = few_objects (as_view c.args.statement.now) c.requires.statement in let e = ap length c.items-declared.ensures in omega (arith, n, e)

pub build_block-requires-clause-few : goal.build_block-requires-clause-few
build_block-requires-clause-few c = start_few (as_view c.args.statement.now) c.deref.result.now c.with_sorts.result (c.deref.ensures.value ∙ c.in_ok-kept.ensures ∙ ap (next_objects nothing) c.items-declared.ensures) (c.with_sorts.ensures ∙ ap (with_sorts nothing) c.items-declared.ensures)

pub returns-clause-trimmed : goal.returns-clause-trimmed
returns-clause-trimmed c =
    built_trimmed (as_views c.args.before.now) (as_view c.args.statement.now) (script_of c.args.deriv.now) c.deref.result.now c.with_sorts.result c.in_ok-flags.flags.items c.build_block.new.flags.items c.in_ok-trimmed.trimmed (c.deref.ensures.value ∙ c.in_ok-kept.ensures ∙ ap (next_objects nothing) c.items-declared.ensures) (c.with_sorts.ensures ∙ ap (with_sorts nothing) c.items-declared.ensures) c.in_ok-flags.ensures c.in_ok-trimmed.ensures

pub returns-clause-certified : goal.returns-clause-certified
returns-clause-certified c =
    built_certified (as_views c.args.before.now) (as_view c.args.statement.now) (script_of c.args.deriv.now) c.in_ok-trimmed.trimmed c.trimmed_is_certified.ensures c.requires
    (built_trimmed (as_views c.args.before.now) (as_view c.args.statement.now) (script_of c.args.deriv.now) c.deref.result.now c.with_sorts.result c.in_ok-flags.flags.items c.build_block.new.flags.items c.in_ok-trimmed.trimmed (c.deref.ensures.value ∙ c.in_ok-kept.ensures ∙ ap (next_objects nothing) c.items-declared.ensures) (c.with_sorts.ensures ∙ ap (with_sorts nothing) c.items-declared.ensures) c.in_ok-flags.ensures c.in_ok-trimmed.ensures)
