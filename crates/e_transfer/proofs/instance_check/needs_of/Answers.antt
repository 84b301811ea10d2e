use Rattle.std.proofs.Common.{◌≡◌, ◌∙◌, ◌++◌, ◌∷◌, [], List, ap, sym, rules}
use Rattle.std.proofs.lemmas.Iterator.Consumers.{YieldsList-end}
use Rattle.std.proofs.lemmas.Iterator.Adapters.{YieldsList-from_vec}
use Rattle.e_literal.specs.declared.literal.Lit.{Lit}
use Rattle.e_transfer.specs.GivenGoals.{needs_beside}
use Rattle.e_transfer.proofs.Needs.{needs_joined, map_id}
use Rattle.e_transfer.proofs.instance_check.needs_of.Goals as goal

pub loop-lit-preserved : goal.loop-lit-preserved
loop-lit-preserved c =
    c.in_ok-add_need.ensures ∙ ap (λ (ls : List Lit). ls ++ needs_beside (c.in-Some.lit ∷ []) c.args.goal.now) c.loop-lit.invariant
    ∙ sym (needs_joined c.loop-lit.yielded (c.in-Some.lit ∷ []) c.args.goal.now)

pub returns : goal.returns
returns c =
    let ended = YieldsList-end (YieldsList-from_vec {s = c.into_iter-lit-iterator.result} c.args.lits.items (search rules) (search rules)) c.loop-lit.yielded c.loop-lit.lit-iterator c.loop-lit.yielded_by c.next.result c.next.new.self c.in-None.is c.next.ensures.steps in
    let all : c.loop-lit.yielded ≡ c.args.lits.items = sym (map_id c.loop-lit.yielded) ∙ ended.0 in
    c.loop-lit.invariant ∙ ap (λ (ls : List Lit). needs_beside ls c.args.goal.now) all
