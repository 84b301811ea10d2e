use Rattle.std.proofs.Common.{◌≡◌, List, length, ◌≤◌, ◌∙◌, ◌∷◌, [], ◌++◌, ap, ap₂, subst, sym}
use Rattle.std.specs.Prelude.{option_copied}
use Rattle.e_literal.specs.declared.object.Term.TheVariants.{Right}
use Rattle.e_clause.specs.declared.cert.RowName.{RowName}
use Rattle.e_fraction.specs.declared.row.Row.{Row as GivenRow}
use Rattle.e_fraction.specs.Limits.{all_small}
use Rattle.e_fraction.specs.Views.{views_of_rows}
use Rattle.e_simplex.specs.Answer.{IsAbsurdity}
use Rattle.e_metric.specs.ListedTerms.{with_listed}
use Rattle.e_metric.specs.inner.Certificate.{certificate_sums}
use Rattle.e_metric.proofs.answers.SolvedSystems.{few_named, small_named, as_many, refuted_named}
use Rattle.e_metric.proofs.solved_system.SolvedSystem.certificate_with.Goals as goal

pub sums_of-requires-clause-names : goal.sums_of-requires-clause-names
sums_of-requires-clause-names c =
    let names_are : c.new-names.result ≡ c.args.self.now.names.items ++ c.args.names.now = c.new-names.ensures ∙ ap (λ v. v ++ c.args.names.now) c.deref.ensures.value in
    let rows_are : c.new-rows.result ≡ c.args.self.now.solved_rows ++ c.args.rows.now = c.new-rows.ensures ∙ ap (λ v. v ++ c.args.rows.now) c.rows.ensures in
    ap (λ (ns : List RowName). length ns) names_are ∙ as_many c.args.which c.args.facts.now (option_copied c.args.wanted) (c.args.self.now.names.items ++ c.args.names.now) (c.args.self.now.solved_rows ++ c.args.rows.now) c.requires.together c.requires.facts c.requires.few c.requires.wanted ∙ sym (ap (λ (rs : List GivenRow). length rs) rows_are)

pub sums_of-requires-clause-few : goal.sums_of-requires-clause-few
sums_of-requires-clause-few c =
    let rows_are : c.new-rows.result ≡ c.args.self.now.solved_rows ++ c.args.rows.now = c.new-rows.ensures ∙ ap (λ v. v ++ c.args.rows.now) c.rows.ensures in
    subst (λ rs. length rs ≤ 4096) (sym rows_are) (few_named c.args.which c.args.facts.now (option_copied c.args.wanted) (c.args.self.now.names.items ++ c.args.names.now) (c.args.self.now.solved_rows ++ c.args.rows.now) c.requires.together c.requires.facts c.requires.few c.requires.wanted)

pub sums_of-requires-clause-coefficients : goal.sums_of-requires-clause-coefficients
sums_of-requires-clause-coefficients c =
    let rows_are : c.new-rows.result ≡ c.args.self.now.solved_rows ++ c.args.rows.now = c.new-rows.ensures ∙ ap (λ v. v ++ c.args.rows.now) c.rows.ensures in
    ap all_small rows_are ∙ small_named c.args.which c.args.facts.now (option_copied c.args.wanted) (c.args.self.now.names.items ++ c.args.names.now) (c.args.self.now.solved_rows ++ c.args.rows.now) c.requires.together c.requires.facts c.requires.few c.requires.wanted

pub sums_of-requires-clause-refuted : goal.sums_of-requires-clause-refuted
sums_of-requires-clause-refuted c =
    let rows_are : c.new-rows.result ≡ c.args.self.now.solved_rows ++ c.args.rows.now = c.new-rows.ensures ∙ ap (λ v. v ++ c.args.rows.now) c.rows.ensures in
    subst (λ rs. IsAbsurdity (views_of_rows rs) c.args.absurdity.now) (sym rows_are) c.requires.refuted.refutes

pub returns : goal.returns
returns c =
    let names_are : c.new-names.result ≡ c.args.self.now.names.items ++ c.args.names.now = c.new-names.ensures ∙ ap (λ v. v ++ c.args.names.now) c.deref.ensures.value in
    let rows_are : c.new-rows.result ≡ c.args.self.now.solved_rows ++ c.args.rows.now = c.new-rows.ensures ∙ ap (λ v. v ++ c.args.rows.now) c.rows.ensures in
    refuted_named c.args.which c.args.facts.now (option_copied c.args.wanted) (c.args.self.now.names.items ++ c.args.names.now) (c.args.self.now.solved_rows ++ c.args.rows.now) c.requires.together c.requires.facts c.requires.few c.requires.wanted c.deref-2.result.now c.args.absurdity.now c.in_ok-sums.sums
    (c.deref-2.ensures.value ∙ c.in_ok-terms.ensures ∙ ap (λ ts. with_listed ts (Right ∷ [])) c.requires.terms) c.requires.refuted.refutes
    (c.in_ok-sums.ensures ∙ ap₂ {A = List RowName} {B = List GivenRow} (λ x y. certificate_sums x y c.deref-2.result.now c.args.absurdity.now) names_are rows_are)
