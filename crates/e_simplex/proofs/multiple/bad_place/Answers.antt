use Rattle.std.proofs.Common.{◌≡◌, ◌≢◌, pos, rules, tests}
use Rattle.std.proofs.lemmas.Iterator.{first_from_Range}
use Rattle.e_simplex.specs.inner.Multiple.{entry_with_multiple}
use Rattle.e_simplex.proofs.forms_not_zero.Multiples.{bad_found}
use Rattle.e_simplex.proofs.multiple.bad_place.Goals as goal

pub returns : goal.returns
returns c =
    let value = entry_with_multiple c.args.first.now c.args.second.now c.args.t in
    bad_found c.args.first.now c.args.second.now c.args.k c.args.t c.find.result
    (first_from_Range _ _ _ c.find.result (λ j. value j ≡ pos 0) (λ j. value j ≢ pos 0) c.find.ensures.ran (λ x q k. search (rules, tests)) (λ x q k. search (rules, tests)))
