-- What is left of a derivation is of its version.
use Rattle.std.proofs.Common.{◌≡◌, List, [], ◌∷◌, ◌++◌, map, refl, ap, ◌∙◌, Bool, true, false, ◌&&◌, cond, Option, Some, None, ℤ}
use Rattle.std.specs.Option.{option_map_or, option_map}
use Rattle.std.specs.List.{list_all}
use Rattle.std.proofs.lemmas.Bool.{and_parts, and_from}
use Rattle.e_literal.specs.declared.object.Obj.{Obj}
use Rattle.e_literal.specs.declared.object.Scope.{Scope}
use Rattle.e_literal.specs.declared.literal.Lit.{Lit}
use Rattle.e_literal.specs.Literal.{negation}
use Rattle.e_literal.specs.Facts.{with_fact, with_facts}
use Rattle.e_literal.specs.Scopes.{with_sorts, next_objects}
use Rattle.e_literal.specs.Use.{StatementView, scope_of}
use Rattle.e_literal.proofs.WithImages.{renamed_well_formed}
use Rattle.e_clause.specs.declared.cert.Version.{Version}
use Rattle.e_clause.specs.declared.cert.RowName.{RowName}
use Rattle.e_clause.specs.declared.cert.RowName.TheVariants.{Fact}
use Rattle.e_clause.specs.declared.cert.Sums.{Sums}
use Rattle.e_clause.specs.declared.cert.Sums.TheVariants.{One, Two}
use Rattle.e_clause.specs.declared.cert.Part.{Part}
use Rattle.e_clause.specs.declared.cert.Part.TheVariants.{Fact as FactPart, Metric, FactAt as FactPartAt}
use Rattle.e_clause.specs.declared.cert.Cert.{Cert}
use Rattle.e_clause.specs.declared.cert.Cert.TheVariants.{Plain, Transfer}
use Rattle.e_clause.specs.declared.cert.Against.{Against}
use Rattle.e_clause.specs.declared.cert.Against.TheVariants.{Clash, Metric as MetricAgainst}
use Rattle.e_clause.specs.Versions.{by_literals, is_name_of, is_sum_of, are_sums_of, is_part_of, is_cert_of, is_against_of}
use Rattle.e_construct.specs.Construct.{sorts_made, gives_of_construction}
use Rattle.e_construct.specs.Superposing as superposing
use Rattle.e_deriv.specs.Script.{Script, Cite, Hence, Make, Apply, Claim, Superposed, Qed, Contradiction, Cases}
use Rattle.e_deriv.specs.Goal.{Goal, goal_of, goal_of_statement, facts_of_statement}
use Rattle.e_deriv.specs.PlacedSteps.{theorem_at}
use Rattle.e_deriv.specs.Versions.{has_certs_of}
use Rattle.e_trim.specs.Trimmed.{image_among_kept, row_name_among_kept, sum_at, sums_at, part_at, cert_at, against_at, joins_at, is_kept, wants, trimmed_from, declared_of}
use Rattle.e_trim.specs.Laws.{TrimmedKeepsVersion}

-- whichever of the two is left
pub either : (p : Script → Bool) (b : Bool) (x y : Script) → p x ≡ true → p y ≡ true → p (cond b x y) ≡ true
either p true x y h k = h
either p false x y h k = k

both_same : (a b c d : Bool) → a ≡ b → c ≡ d → (a && c) ≡ (b && d)
both_same a b c d e f = rw (e, f) refl

-- ---- certificates

module _ (v : Version) (kept : List Obj) where
  name_stays : (n : RowName) → is_name_of v (row_name_among_kept kept n) ≡ is_name_of v n
  name_stays (Fact l) = ap (λ (b : Bool). by_literals v && b) (renamed_well_formed (image_among_kept kept) l)
  name_stays n = refl

  sum_stays : (xs : List (ℤ × RowName)) → is_sum_of v (sum_at kept xs) ≡ is_sum_of v xs
  sum_stays [] = refl
  sum_stays (x ∷ xs) = both_same _ _ _ _ (name_stays x.1) (sum_stays xs)

  sums_stay : (x : Sums) → are_sums_of v (sums_at kept x) ≡ are_sums_of v x
  sums_stay (One sum) = sum_stays sum
  sums_stay (Two differs above below) = both_same _ _ _ _ (name_stays differs) (both_same _ _ _ _ (sum_stays above) (sum_stays below))

  part_stays : (p : Part) → is_part_of v (part_at kept p) ≡ is_part_of v p
  part_stays FactPart = refl
  part_stays (Metric m) = sums_stay m.sums
  part_stays (FactPartAt k) = refl

  parts_stay : (ps : List Part) → list_all (is_part_of v) (map (part_at kept) ps) ≡ list_all (is_part_of v) ps
  parts_stay [] = refl
  parts_stay (p ∷ ps) = both_same _ _ _ _ (part_stays p) (parts_stay ps)

  cert_stays : (c : Cert) → is_cert_of v (cert_at kept c) ≡ is_cert_of v c
  cert_stays (Plain p) = part_stays p
  cert_stays (Transfer t) = parts_stay t.parts

  certs_stay : (cs : List Cert) → list_all (is_cert_of v) (map (cert_at kept) cs) ≡ list_all (is_cert_of v) cs
  certs_stay [] = refl
  certs_stay (c ∷ cs) = both_same _ _ _ _ (cert_stays c) (certs_stay cs)

  any_cert_stays : (c : Option Cert) → option_map_or (is_cert_of v) (option_map (cert_at kept) c) true ≡ option_map_or (is_cert_of v) c true
  any_cert_stays None = refl
  any_cert_stays (Some c) = cert_stays c

  against_stays : (a : Option Against) → option_map_or (is_against_of v) (option_map (against_at kept) a) true ≡ option_map_or (is_against_of v) a true
  against_stays None = refl
  against_stays (Some (Clash l)) = refl
  against_stays (Some (MetricAgainst m)) = sums_stay m.sums

-- ---- steps

-- they stay of their version
pub version_left : (v : Version) (before : List StatementView) (d : Script) (kept : List Obj) (s : Scope) (facts : List Lit) (goal : Goal) → has_certs_of v d ≡ true → has_certs_of v (trimmed_from before kept d s facts goal) ≡ true
unfolding trimmed_from has_certs_of
version_left v before (Cite by rest) kept s facts goal h =
    let r = version_left v before rest kept s (with_fact facts by.lit) goal h in
    either (has_certs_of v) (is_kept before (Cite by rest) s facts (wants before rest s (with_fact facts by.lit) goal)) _ _ r r
version_left v before (Hence lit cert rest) kept s facts goal h =
    let p = and_parts (option_map_or (is_cert_of v) cert true) (has_certs_of v rest) h in
    let r = version_left v before rest kept s (with_fact facts lit) goal p.1 in
    either (has_certs_of v) (is_kept before (Hence lit cert rest) s facts (wants before rest s (with_fact facts lit) goal)) _ _ (and_from _ _ (any_cert_stays v kept cert ∙ p.0) r) r
version_left v before (Make construction names certs rest) kept s facts goal h =
    let after = with_facts facts (gives_of_construction construction s) in
    let p = and_parts (list_all (is_cert_of v) certs) (has_certs_of v rest) h in
    either (has_certs_of v) (is_kept before (Make construction names certs rest) s facts (wants before rest (with_sorts s (sorts_made construction)) after goal)) _ _
    (and_from _ _ (certs_stay v kept certs ∙ p.0) (version_left v before rest (kept ++ next_objects s (sorts_made construction)) (with_sorts s (sorts_made construction)) after goal p.1))
    (version_left v before rest kept (with_sorts s (sorts_made construction)) after goal p.1)
version_left v before (Apply theorem args names certs rest) kept s facts goal h =
    let here = Apply theorem args names certs rest in
    let new = (theorem_at before theorem).made in
    let after = with_facts facts (joins_at before here s) in
    let p = and_parts (list_all (is_cert_of v) certs) (has_certs_of v rest) h in
    either (has_certs_of v) (is_kept before here s facts (wants before rest (with_sorts s new) after goal)) _ _
    (and_from _ _ (certs_stay v kept certs ∙ p.0) (version_left v before rest (kept ++ next_objects s new) (with_sorts s new) after goal p.1))
    (version_left v before rest kept (with_sorts s new) after goal p.1)
version_left v before (Claim shown inner rest) kept s facts goal h =
    let q = and_parts (has_certs_of v inner) (has_certs_of v rest) h in
    let r = version_left v before rest kept s (with_facts facts shown) goal q.1 in
    either (has_certs_of v) (is_kept before (Claim shown inner rest) s facts (wants before rest s (with_facts facts shown) goal)) _ _ (and_from _ _ (version_left v before inner kept s facts (goal_of shown) q.0) r) r
version_left v before (Superposed superposition names shown certs inner rest) kept s facts goal h =
    let p = and_parts (list_all (is_cert_of v) certs) (has_certs_of v inner && has_certs_of v rest) h in
    let q = and_parts (has_certs_of v inner) (has_certs_of v rest) p.1 in
    let r = version_left v before rest kept s (with_facts facts shown) goal q.1 in
    let kind = with_facts facts (superposing.gives_of_superposition superposition s) in
    either (has_certs_of v) (is_kept before (Superposed superposition names shown certs inner rest) s facts (wants before rest s (with_facts facts shown) goal)) _ _
    (and_from _ _ (certs_stay v kept certs ∙ p.0) (and_from _ _ (version_left v before inner (kept ++ next_objects s superposing.sorts_copied) (with_sorts s superposing.sorts_copied) kind (goal_of shown) q.0) r)) r
version_left v before (Qed objects certs) kept s facts goal h = certs_stay v kept certs ∙ h
version_left v before (Contradiction against) kept s facts goal h = against_stays v kept against ∙ h
version_left v before (Cases lit first second) kept s facts goal h =
    let q = and_parts (has_certs_of v first) (has_certs_of v second) h in
    and_from _ _ (version_left v before first kept s (with_fact facts lit) goal q.0) (version_left v before second kept s (with_fact facts (negation lit)) goal q.1)

pub trimmed_keeps_version : TrimmedKeepsVersion
trimmed_keeps_version v before t d h = version_left v before d (declared_of t) (scope_of t) (facts_of_statement t) (goal_of_statement t) h
