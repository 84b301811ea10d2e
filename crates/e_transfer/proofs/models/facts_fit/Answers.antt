use Rattle.std.proofs.Common.{◌≡◌, true, rules, tests}
use Rattle.std.proofs.lemmas.Iterator.{cases_from_all, YieldsList-from_slice}
use Rattle.e_literal.specs.Truth.{holds}
use Rattle.e_literal.specs.declared.literal.Lit.{Lit}
use Rattle.e_clause.specs.Assignment.{terms_of_atom}
use Rattle.e_transfer.specs.Models.{value_by, fits_terms}
use Rattle.e_transfer.proofs.ModelValues.{fits_all, each_passes}
use Rattle.e_transfer.proofs.models.facts_fit.Goals as goal

pub returns-clause-terms : goal.returns-clause-terms
returns-clause-terms c = λ e.
    let facts = c.args.facts.now in
    let v = value_by c.args.filling c.args.values.now in
    let fits = λ (k : Lit). fits_terms facts v (terms_of_atom k.atom) in
    fits_all facts facts v (each_passes fits facts c.all.result _ e
    (cases_from_all _ _ c.all.result (λ k. fits k ≡ true) (λ k. Unit {0}) c.all.ensures.ran (YieldsList-from_slice facts cc) (λ x q k. search (rules, tests)) (λ x q k. tt)))

pub returns-clause-hold : goal.returns-clause-hold
returns-clause-hold c = λ e.
    let facts = c.args.facts.now in
    let true_by = holds (value_by c.args.filling c.args.values.now) in
    each_passes true_by facts c.all.result _ e
    (cases_from_all _ _ c.all.result (λ k. true_by k ≡ true) (λ k. Unit {0}) c.all.ensures.ran (YieldsList-from_slice facts cc) (λ x q k. search (rules, tests)) (λ x q k. tt))
