use Rattle.std.proofs.Common.{◌≡◌, ◌≤◌, ◌^◌, ◌∷◌, [], List, length, subst, sym, ◌∙◌, ap, ap₂, None, refl}
use Rattle.std.specs.Prelude.{flat_map}
use Rattle.e_literal.specs.declared.object.Term.TheVariants.{Right}
use Rattle.e_literal.specs.Minor.{IsWide}
use Rattle.e_literal.specs.Width.{width}
use Rattle.e_clause.specs.declared.cert.RowName.{RowName}
use Rattle.e_clause.specs.System.{rows_of_term}
use Rattle.e_fraction.specs.declared.row.Row.{Row as GivenRow}
use Rattle.e_fraction.specs.Limits.{all_small}
use Rattle.e_fraction.specs.Views.{views_of_rows}
use Rattle.e_simplex.specs.Answer.{IsRefuted, IsAbsurdity}
use Rattle.e_simplex.specs.Preparing.{IsPreparedRows}
use Rattle.e_metric.specs.SolvedSystems.{AreRowsOf}
use Rattle.e_metric.specs.ListedTerms.{with_listed, distinct_terms}
use Rattle.e_metric.specs.inner.Certificate.{certificate_sums}
use Rattle.e_metric.proofs.answers.SolvedSystems.{few_named, small_named, as_many, wide_named, refuted_named}
use Rattle.e_metric.proofs.kind_system.system_of_prepared.Goals as goal

pub returns-in_ok-width-in-TooWide : goal.returns-in_ok-width-in-TooWide
returns-in_ok-width-in-TooWide c =
    let h : IsWide (views_of_rows c.requires.prepared.rows) × (2 ^ 63 ≤ width (views_of_rows c.requires.prepared.rows)) = subst (IsPreparedRows c.requires.prepared.rows) c.in-TooWide.is c.requires.prepared.prepared in
    wide_named c.args.which c.args.facts.now None c.args.names.items c.requires.prepared.rows c.requires.prepared.rows_of c.requires.facts c.requires.few refl c.in_ok-width-in-TooWide.width c.in_ok-width-in-TooWide.ensures h.0

pub certificate_of-certified-requires-clause-names : goal.certificate_of-certified-requires-clause-names
certificate_of-certified-requires-clause-names c =
    let h : (c.in-Absurd.rows.items ≡ c.requires.prepared.rows) × IsRefuted (views_of_rows c.requires.prepared.rows) c.in-Absurd.absurdity = subst (IsPreparedRows c.requires.prepared.rows) c.in-Absurd.is c.requires.prepared.prepared in
    let rows_are : c.deref-in-Absurd.result.now ≡ c.requires.prepared.rows = c.deref-in-Absurd.ensures.value ∙ h.0 in
    ap (λ (ns : List RowName). length ns) c.deref.ensures.value ∙ as_many c.args.which c.args.facts.now None c.args.names.items c.requires.prepared.rows c.requires.prepared.rows_of c.requires.facts c.requires.few refl ∙ sym (ap (λ (rs : List GivenRow). length rs) rows_are)

pub certificate_of-certified-requires-clause-few : goal.certificate_of-certified-requires-clause-few
certificate_of-certified-requires-clause-few c =
    let h : (c.in-Absurd.rows.items ≡ c.requires.prepared.rows) × IsRefuted (views_of_rows c.requires.prepared.rows) c.in-Absurd.absurdity = subst (IsPreparedRows c.requires.prepared.rows) c.in-Absurd.is c.requires.prepared.prepared in
    let rows_are : c.deref-in-Absurd.result.now ≡ c.requires.prepared.rows = c.deref-in-Absurd.ensures.value ∙ h.0 in
    subst (λ rs. length rs ≤ 4096) (sym rows_are) (few_named c.args.which c.args.facts.now None c.args.names.items c.requires.prepared.rows c.requires.prepared.rows_of c.requires.facts c.requires.few refl)

pub certificate_of-certified-requires-clause-coefficients : goal.certificate_of-certified-requires-clause-coefficients
certificate_of-certified-requires-clause-coefficients c =
    let h : (c.in-Absurd.rows.items ≡ c.requires.prepared.rows) × IsRefuted (views_of_rows c.requires.prepared.rows) c.in-Absurd.absurdity = subst (IsPreparedRows c.requires.prepared.rows) c.in-Absurd.is c.requires.prepared.prepared in
    let rows_are : c.deref-in-Absurd.result.now ≡ c.requires.prepared.rows = c.deref-in-Absurd.ensures.value ∙ h.0 in
    ap all_small rows_are ∙ small_named c.args.which c.args.facts.now None c.args.names.items c.requires.prepared.rows c.requires.prepared.rows_of c.requires.facts c.requires.few refl

pub certificate_of-certified-requires-clause-refuted : goal.certificate_of-certified-requires-clause-refuted
certificate_of-certified-requires-clause-refuted c =
    let h : (c.in-Absurd.rows.items ≡ c.requires.prepared.rows) × IsRefuted (views_of_rows c.requires.prepared.rows) c.in-Absurd.absurdity = subst (IsPreparedRows c.requires.prepared.rows) c.in-Absurd.is c.requires.prepared.prepared in
    let rows_are : c.deref-in-Absurd.result.now ≡ c.requires.prepared.rows = c.deref-in-Absurd.ensures.value ∙ h.0 in
    subst (λ rs. IsAbsurdity (views_of_rows rs) c.in-Absurd.absurdity) (sym rows_are) h.1.refutes

pub returns-in_ok-certified-in-Absurd : goal.returns-in_ok-certified-in-Absurd
returns-in_ok-certified-in-Absurd c =
    let h : (c.in-Absurd.rows.items ≡ c.requires.prepared.rows) × IsRefuted (views_of_rows c.requires.prepared.rows) c.in-Absurd.absurdity = subst (IsPreparedRows c.requires.prepared.rows) c.in-Absurd.is c.requires.prepared.prepared in
    let rows_are : c.deref-in-Absurd.result.now ≡ c.requires.prepared.rows = c.deref-in-Absurd.ensures.value ∙ h.0 in
    let terms = with_listed (distinct_terms c.args.which c.args.facts.now None) (Right ∷ []) in
    refuted_named c.args.which c.args.facts.now None c.args.names.items c.requires.prepared.rows c.requires.prepared.rows_of c.requires.facts c.requires.few refl terms c.in-Absurd.absurdity c.in_ok-certified-in-Absurd.field-0.sums refl h.1.refutes
    (c.in_ok-certified-in-Absurd.ensures ∙ ap₂ {A = List RowName} {B = List GivenRow} (λ x y. certificate_sums x y terms c.in-Absurd.absurdity) c.deref.ensures.value rows_are)

pub returns-in-SolvedRows : goal.returns-in-SolvedRows
returns-in-SolvedRows c =
    let h : c.in-SolvedRows.solved_rows ≡ c.requires.prepared.rows = subst (IsPreparedRows c.requires.prepared.rows) c.in-SolvedRows.is c.requires.prepared.prepared in
    record {
      rows = subst (AreRowsOf c.args.which c.args.facts.now None c.args.names.items) (sym h) c.requires.prepared.rows_of;
      terms = c.requires.terms;
      raised = c.count_term_rows-raised.ensures ∙ ap (λ ts. length (flat_map (rows_of_term c.args.facts.now) ts)) c.deref-in-SolvedRows.ensures.value;
    }
