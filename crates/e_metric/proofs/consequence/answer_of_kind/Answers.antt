use Rattle.std.proofs.Common.{◌≤◌, ◌^◌, ◌∙◌, ◌∷◌, [], ap, subst, sym, refl}
use Rattle.e_literal.specs.Minor.{IsWide}
use Rattle.e_literal.specs.Width.{width}
use Rattle.e_literal.specs.declared.object.Term.TheVariants.{Right}
use Rattle.e_metric.specs.ListedTerms.{with_listed, distinct_terms}
use Rattle.e_metric.specs.inner.Certificate.{certificate_sums}
use Rattle.std.specs.Prelude.{option_copied}
use Rattle.e_fraction.specs.Views.{views_of_rows}
use Rattle.e_simplex.specs.Answer.{IsVerdict, AreValuesOf, IsRefuted, assigned_value}
use Rattle.e_clause.specs.System.{system}
use Rattle.e_metric.proofs.rows.RowOrder.{same_order}
use Rattle.e_metric.proofs.answers.KindAnswers.{few_rows, small_rows, solved, has_width, refuted, system_width}
use Rattle.e_metric.proofs.consequence.answer_of_kind.Goals as goal

pub decide-requires-clause-few : goal.decide-requires-clause-few
decide-requires-clause-few c = few_rows c.args.which c.args.facts.now (option_copied c.args.wanted) (system c.args.which c.args.facts.now (option_copied c.args.wanted)) (same_order (system c.args.which c.args.facts.now (option_copied c.args.wanted))) c.in_ok-named.named.items c.in_ok-named.ensures.rows c.in_ok-named.ensures.limited c.requires.facts c.requires.few c.requires.wanted c.deref-2.result.now (c.deref-2.ensures.value ∙ c.in_ok-names.ensures.rows)

pub decide-requires-clause-coefficients : goal.decide-requires-clause-coefficients
decide-requires-clause-coefficients c = small_rows c.args.which c.args.facts.now (option_copied c.args.wanted) (system c.args.which c.args.facts.now (option_copied c.args.wanted)) (same_order (system c.args.which c.args.facts.now (option_copied c.args.wanted))) c.in_ok-named.named.items c.in_ok-named.ensures.rows c.in_ok-named.ensures.limited c.requires.facts c.requires.few c.requires.wanted c.deref-2.result.now (c.deref-2.ensures.value ∙ c.in_ok-names.ensures.rows)

pub certificate_of-certified-requires-clause-few : goal.certificate_of-certified-requires-clause-few
certificate_of-certified-requires-clause-few c = few_rows c.args.which c.args.facts.now (option_copied c.args.wanted) (system c.args.which c.args.facts.now (option_copied c.args.wanted)) (same_order (system c.args.which c.args.facts.now (option_copied c.args.wanted))) c.in_ok-named.named.items c.in_ok-named.ensures.rows c.in_ok-named.ensures.limited c.requires.facts c.requires.few c.requires.wanted c.deref-in-Absurd-2.result.now (c.deref-in-Absurd-2.ensures.value ∙ c.in_ok-names.ensures.rows)

pub certificate_of-certified-requires-clause-coefficients : goal.certificate_of-certified-requires-clause-coefficients
certificate_of-certified-requires-clause-coefficients c = small_rows c.args.which c.args.facts.now (option_copied c.args.wanted) (system c.args.which c.args.facts.now (option_copied c.args.wanted)) (same_order (system c.args.which c.args.facts.now (option_copied c.args.wanted))) c.in_ok-named.named.items c.in_ok-named.ensures.rows c.in_ok-named.ensures.limited c.requires.facts c.requires.few c.requires.wanted c.deref-in-Absurd-2.result.now (c.deref-in-Absurd-2.ensures.value ∙ c.in_ok-names.ensures.rows)

pub returns-in-Holds : goal.returns-in-Holds
returns-in-Holds c =
    let v : IsVerdict (views_of_rows c.deref-2.result.now) c.in_ok-values.field-0 = c.in_ok-values.ensures.verdict in
    let h : AreValuesOf (views_of_rows c.deref-2.result.now) c.in-Holds.values = subst (IsVerdict (views_of_rows c.deref-2.result.now)) c.in-Holds.is v in
    solved c.args.which c.args.facts.now (option_copied c.args.wanted) (system c.args.which c.args.facts.now (option_copied c.args.wanted)) (same_order (system c.args.which c.args.facts.now (option_copied c.args.wanted))) c.in_ok-named.named.items c.in_ok-named.ensures.rows c.in_ok-named.ensures.limited c.requires.facts c.requires.few c.requires.wanted c.deref-2.result.now (c.deref-2.ensures.value ∙ c.in_ok-names.ensures.rows) (assigned_value c.in-Holds.values) h.satisfy

pub returns-in-TooWide : goal.returns-in-TooWide
returns-in-TooWide c =
    let v : IsVerdict (views_of_rows c.deref-2.result.now) c.in_ok-values.field-0 = c.in_ok-values.ensures.verdict in
    let h : IsWide (views_of_rows c.deref-2.result.now) × (2 ^ 63 ≤ width (views_of_rows c.deref-2.result.now)) = subst (IsVerdict (views_of_rows c.deref-2.result.now)) c.in-TooWide.is v in
    has_width c.args.which c.args.facts.now (option_copied c.args.wanted) (system c.args.which c.args.facts.now (option_copied c.args.wanted)) (same_order (system c.args.which c.args.facts.now (option_copied c.args.wanted))) c.in_ok-named.named.items c.in_ok-named.ensures.rows c.in_ok-named.ensures.limited c.requires.facts c.requires.few c.requires.wanted c.deref-2.result.now (c.deref-2.ensures.value ∙ c.in_ok-names.ensures.rows) c.width.result
    (c.width.ensures.value ∙ ap (λ rs. width (views_of_rows rs)) (c.deref-in-TooWide.ensures.value ∙ sym c.deref-2.ensures.value)
    ∙ system_width c.args.which c.args.facts.now (option_copied c.args.wanted) c.in_ok-named.named.items c.in_ok-named.ensures.rows c.deref-2.result.now (c.deref-2.ensures.value ∙ c.in_ok-names.ensures.rows)) h.0

pub returns : goal.returns
returns c =
    let v : IsVerdict (views_of_rows c.deref-2.result.now) c.in_ok-values.field-0 = c.in_ok-values.ensures.verdict in
    let h : IsRefuted (views_of_rows c.deref-2.result.now) c.in-Absurd.absurdity = subst (IsVerdict (views_of_rows c.deref-2.result.now)) c.in-Absurd.is v in
    refuted c.args.which c.args.facts.now (option_copied c.args.wanted) (system c.args.which c.args.facts.now (option_copied c.args.wanted)) (same_order (system c.args.which c.args.facts.now (option_copied c.args.wanted))) c.in_ok-named.named.items c.in_ok-named.ensures.rows c.in_ok-named.ensures.limited c.requires.facts c.requires.few c.requires.wanted c.deref-2.result.now (c.deref-2.ensures.value ∙ c.in_ok-names.ensures.rows)
    c.in_ok-names.names.items (with_listed (distinct_terms c.args.which c.args.facts.now (option_copied c.args.wanted)) (Right ∷ [])) c.in-Absurd.absurdity c.in_ok-certified-in-Absurd.field-0.sums
    c.in_ok-names.ensures.names refl h.refutes
    (c.in_ok-certified-in-Absurd.ensures ∙ ap (λ ns. certificate_sums ns c.deref-in-Absurd-2.result.now (with_listed (distinct_terms c.args.which c.args.facts.now (option_copied c.args.wanted)) (Right ∷ [])) c.in-Absurd.absurdity) c.deref-in-Absurd.ensures.value
    ∙ ap (λ rs. certificate_sums c.in_ok-names.names.items rs (with_listed (distinct_terms c.args.which c.args.facts.now (option_copied c.args.wanted)) (Right ∷ [])) c.in-Absurd.absurdity) (c.deref-in-Absurd-2.ensures.value ∙ sym c.deref-2.ensures.value))
