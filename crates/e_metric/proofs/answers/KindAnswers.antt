-- What comes of the decision of a system.
use Rattle.std.proofs.Common.{◌≡◌, ℕ, ◌+◌, ◌≤◌, List, [], ◌∷◌, map, length, refl, ap, ◌∙◌, subst, arith, true, Option}
use Rattle.std.specs.Prelude.{Contains}
use Rattle.std.specs.List.{list_all}
use Rattle.std.proofs.lemmas.Bool.{and_from}
use Rattle.std.proofs.lemmas.List.{length-map}
use Rattle.e_literal.specs.declared.object.Kind.{Kind}
use Rattle.e_literal.specs.declared.object.Kind.TheVariants.{Segment, Angle, Area as AreaKind}
use Rattle.e_literal.specs.declared.object.Term.{Term}
use Rattle.e_literal.specs.declared.object.Term.TheVariants.{Right}
use Rattle.e_literal.specs.declared.literal.Lit.{Lit}
use Rattle.e_literal.specs.Minor.{IsWide}
use Rattle.e_literal.specs.Width.{width}
use Rattle.e_literal.specs.Solution.{form_value, IsSo, Satisfy}
use Rattle.e_literal.specs.WellFormed.{is_well_formed}
use Rattle.e_clause.specs.declared.cert.RowName.{RowName}
use Rattle.e_clause.specs.declared.cert.Sums.{Sums}
use Rattle.e_clause.specs.Assignment.{terms_of_lits}
use Rattle.e_clause.specs.MetricCertificate.{sums_refute, are_sums_in}
use Rattle.e_clause.specs.Laws.{is_well_formed_metric}
use Rattle.e_clause.specs.System.{NamedRow, system, rows_of_system, metric_systems}
use Rattle.e_clause.specs.Wide.{HasWidth}
use Rattle.e_clause.proofs.Named.{Each}
use Rattle.e_fraction.specs.declared.row.Row.{Row as GivenRow}
use Rattle.e_fraction.specs.Limits.{has_small_coefficients, all_small}
use Rattle.e_fraction.specs.Views.{views_of_rows}
use Rattle.e_fraction.proofs.Wideness.{wide_rows_width}
use Rattle.e_literal.specs.Rows.{Row}
use Rattle.e_simplex.specs.declared.decision.Absurdity.{Absurdity}
use Rattle.e_simplex.specs.Answer.{IsAbsurdity}
use Rattle.e_metric.specs.AgreeingRows.{AreRows, AllLimited}
use Rattle.e_metric.specs.ListedTerms.{with_listed, distinct_terms}
use Rattle.e_metric.specs.inner.Certificate.{certificate_sums}
use Rattle.e_metric.specs.MetricAnswers.{IsMetricCertificate}
use Rattle.e_clause.specs.declared.cert.Version.TheVariants as version
use Rattle.e_clause.specs.Versions.{are_sums_of}
use Rattle.e_metric.proofs.rows.SameCoefficients.{satisfy_alike, wide_alike, width_alike}
use Rattle.e_metric.proofs.rows.SystemBounds.{system_length}
use Rattle.e_metric.proofs.sums.SystemCertificates.{names_are, rows_alike, length_rows, certified, names_given, rows_given}
use Rattle.e_metric.specs.RowOrder.{AreReordered}
use Rattle.e_metric.proofs.rows.RowOrder.{back_reordered, wide_reordered}
use Rattle.e_metric.proofs.sums.ScopeOfSums.{in_scope}
use Rattle.e_metric.proofs.sums.WrittenSums.{written_well}

abbrev row_of : NamedRow → Row
row_of n = n.row

-- ---- the rows are within the limits of the decision

small : (ps : List (RowName × GivenRow)) → AllLimited ps → all_small (rows_given ps) ≡ true
small [] h = refl
small (p ∷ ps) h = and_from (has_small_coefficients p.1.form) (all_small (rows_given ps)) h.0.small (small ps h.1)

satisfy_each : (v : Term → ℕ) (ns : List NamedRow) → Satisfy v (map row_of ns) → Each (λ n. IsSo n.row.sense (form_value n.row.form v)) ns
satisfy_each v [] h = tt
satisfy_each v (n ∷ ns) h = (h.0, satisfy_each v ns h.1)

each_satisfy : (v : Term → ℕ) (ns : List NamedRow) → Each (λ n. IsSo n.row.sense (form_value n.row.form v)) ns → Satisfy v (map row_of ns)
each_satisfy v [] h = tt
each_satisfy v (n ∷ ns) h = (h.0, each_satisfy v ns h.1)

module _ (which : Kind) (facts : List Lit) (wanted : Option Lit) where
  pub one_system : (k : Kind) → Contains (metric_systems facts wanted) (rows_of_system k facts wanted)
  one_system Segment = (0, omega arith, refl)
  one_system Angle = (1, omega arith, refl)
  one_system AreaKind = (2, omega arith, refl)

  -- ---- rows that are those of the system, in some order

  pub satisfied : (ns : List NamedRow) → AreReordered ns (system which facts wanted) → (ps : List (RowName × GivenRow)) → AreRows ns ps → (rows : List GivenRow) → rows ≡ rows_given ps
      → (v : Term → ℕ) → Satisfy v (views_of_rows rows) → Satisfy v (rows_of_system which facts wanted)
  satisfied ns order ps are rows rows_are v h =
      each_satisfy v (system which facts wanted)
      (back_reordered ns (system which facts wanted) order (λ n. IsSo n.row.sense (form_value n.row.form v))
      (satisfy_each v ns (satisfy_alike (views_of_rows (rows_given ps)) (map row_of ns) v (rows_alike ns ps are) (subst (λ rs. Satisfy v (views_of_rows rs)) rows_are h))))

  module _ (ns : List NamedRow) (order : AreReordered ns (system which facts wanted)) (ps : List (RowName × GivenRow)) (are : AreRows ns ps) (limited : AllLimited ps)
      (good : list_all is_well_formed facts ≡ true) (few : length (terms_of_lits facts) ≤ 1100) (good_wanted : is_well_formed_metric wanted ≡ true) (rows : List GivenRow) (rows_are : rows ≡ rows_given ps) where
    together : length ps + length (with_listed (distinct_terms which facts wanted) (Right ∷ [])) ≤ 4096
    together = omega (arith, length_rows ns ps are, order.many, system_length which facts wanted good good_wanted few)

    pub few_rows : length rows ≤ 4096
    few_rows = omega (arith, ap (λ (rs : List GivenRow). length rs) rows_are, length-map ps (λ (p : RowName × GivenRow). p.1), together)

    pub small_rows : all_small rows ≡ true
    small_rows = ap all_small rows_are ∙ small ps limited

    -- ---- the three answers

    pub solved : (v : Term → ℕ) → Satisfy v (views_of_rows rows) → Satisfy v (rows_of_system which facts wanted)
    solved v h = satisfied ns order ps are rows rows_are v h

    pub has_width : (w : ℕ) → w ≡ width (rows_of_system which facts wanted) → IsWide (views_of_rows rows) → HasWidth (rows_of_system which facts wanted) w
    has_width w e h =
        (let wide : IsWide (rows_of_system which facts wanted) = wide_reordered ns (system which facts wanted) order (wide_alike (views_of_rows (rows_given ps)) (map row_of ns) (rows_alike ns ps are) (subst (λ rs. IsWide (views_of_rows rs)) rows_are h)) in
        record { is_wide = wide; is_width = e; is_large = omega (arith, e, wide_rows_width (rows_of_system which facts wanted) wide) })

    pub refuted : (names : List RowName) (terms : List Term) (a : Absurdity) (sums : Sums) → names ≡ names_given ps → terms ≡ with_listed (distinct_terms which facts wanted) (Right ∷ [])
        → IsAbsurdity (views_of_rows rows) a → sums ≡ certificate_sums names rows terms a → IsMetricCertificate facts wanted (record { sums = sums })
    refuted names terms a sums n t h e =
        (let sums_are : sums ≡ certificate_sums (names_given ps) (rows_given ps) (with_listed (distinct_terms which facts wanted) (Right ∷ [])) a =
        e ∙ ap (λ ns. certificate_sums ns rows terms a) n ∙ ap (λ rs. certificate_sums (names_given ps) rs terms a) rows_are ∙ ap (λ ts. certificate_sums (names_given ps) (rows_given ps) ts a) t in
        record {
          refutes = ap (sums_refute facts wanted) sums_are ∙ certified which facts wanted ns order ps are together a (subst (λ rs. IsAbsurdity (views_of_rows rs) a) rows_are h);
          scoped = λ s k g. ap (are_sums_in s) sums_are ∙ in_scope s facts wanted k g which ns order (names_given ps) (rows_given ps) a (names_are ns ps are);
          written = ap (are_sums_of version.One) sums_are ∙ written_well which facts wanted ns order (names_given ps) (rows_given ps) (with_listed (distinct_terms which facts wanted) (Right ∷ [])) a (names_are ns ps are) good;
        })

  -- the width of the rows in their order
  pub system_width : (ps : List (RowName × GivenRow)) → AreRows (system which facts wanted) ps → (rows : List GivenRow) → rows ≡ rows_given ps → width (views_of_rows rows) ≡ width (rows_of_system which facts wanted)
  system_width ps are rows e =
      ap (λ rs. width (views_of_rows rs)) e ∙ width_alike (views_of_rows (rows_given ps)) (rows_of_system which facts wanted) (rows_alike (system which facts wanted) ps are)
