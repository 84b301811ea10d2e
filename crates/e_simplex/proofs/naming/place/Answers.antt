use Rattle.std.proofs.Common.{◌≡◌, ℕ, Option, length, ap, ◌∙◌, rules, tests}
use Rattle.std.specs.List.{position}
use Rattle.std.specs.Option.{unwrap_or}
use Rattle.std.proofs.lemmas.Iterator.{YieldsList-from_slice}
use Rattle.std.proofs.lemmas.Iterator.Search.{position_from_yields_List}
use Rattle.e_literal.specs.Same.{term_eq}
use Rattle.e_simplex.proofs.columns.Places.{place_found}
use Rattle.e_simplex.proofs.naming.place.Goals as goal

pub returns-clause-value : goal.returns-clause-value
returns-clause-value c =
    let found : c.position.result ≡ position (term_eq c.args.term) c.args.terms.now =
    position_from_yields_List (term_eq c.args.term) _ _ _ c.position.ensures.ran (YieldsList-from_slice c.args.terms.now cc) (λ x b q k. search (rules, tests)) in
    c.unwrap_or.ensures ∙ ap (λ (o : Option ℕ). unwrap_or o (length c.args.terms.now)) found ∙ place_found c.args.terms.now c.args.term
