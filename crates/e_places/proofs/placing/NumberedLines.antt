-- A derivation with places has the same lines, which stay certified, and is of the second version.
use Rattle.std.proofs.Common.{◌≡◌, suc, ◌+◌, ◌<◌, ◌≤◌, ◌^◌, List, [], ◌∷◌, ◌++◌, length, map, refl, ap, ap₂, arith, Bool, true, false, not, cond, ◌&&◌, lt-ltb, ltb-true, Option, Some, None}
use Rattle.std.specs.Prelude.{nat_lt, ℤ}
use Rattle.std.specs.Option.{option_map_or, option_map}
use Rattle.std.specs.List.{list_all}
use Rattle.e_literal.specs.declared.object.Scope.{Scope}
use Rattle.e_literal.specs.declared.literal.Lit.{Lit}
use Rattle.e_literal.specs.Literal.{negation, all_in_scope}
use Rattle.e_literal.specs.Facts.{with_fact, with_facts, others}
use Rattle.e_literal.specs.Same.{same_lit}
use Rattle.e_literal.specs.Scopes.{with_sorts}
use Rattle.e_literal.specs.Use.{StatementView, gives_of_use}
use Rattle.e_literal.proofs.Booleans.{and_left, and_right, all_left, all_right, all_both}
use Rattle.e_clause.specs.declared.cert.Version.TheVariants as version
use Rattle.e_clause.specs.declared.cert.RowName.{RowName}
use Rattle.e_clause.specs.declared.cert.RowName.TheVariants.{Fact, Goal as GoalRow, Pos, Top, Right, Least, Above, Below, FactAt}
use Rattle.e_clause.specs.declared.cert.Sums.{Sums}
use Rattle.e_clause.specs.declared.cert.Sums.TheVariants.{One, Two}
use Rattle.e_clause.specs.declared.cert.Part.{Part}
use Rattle.e_clause.specs.declared.cert.Part.TheVariants.{Fact as FactPart, Metric, FactAt as FactPartAt}
use Rattle.e_clause.specs.declared.cert.Cert.{Cert}
use Rattle.e_clause.specs.declared.cert.Cert.TheVariants.{Plain, Transfer}
use Rattle.e_clause.specs.declared.cert.Against.{Against}
use Rattle.e_clause.specs.declared.cert.Against.TheVariants.{Clash, Metric as MetricAgainst}
use Rattle.e_clause.specs.Instance.{Inst}
use Rattle.e_clause.specs.Versions.{is_name_of, is_sum_of, are_sums_of, is_part_of, is_cert_of, is_against_of}
use Rattle.e_clause.specs.Written.{is_writable_name, is_writable_sum, are_writable_sums, is_writable_part, is_writable_cert, is_writable_against}
use Rattle.e_construct.specs.Construct.{fits_construction, sorts_made, gives_of_construction}
use Rattle.e_construct.specs.Superposing as superposing
use Rattle.e_deriv.specs.Script.{Script, Cite, Hence, Make, Apply, Claim, Superposed, Qed, Contradiction, Cases, bare_script}
use Rattle.e_deriv.specs.Goal.{Goal, goal_of, are_for}
use Rattle.e_deriv.specs.PlacedSteps.{PlacedStep, placed_step, placed_steps, theorem_at}
use Rattle.e_deriv.specs.Parts.{has_no_blank, args_written}
use Rattle.e_deriv.specs.Steps.{are_over, is_applied, needs}
use Rattle.e_deriv.specs.Certified.{is_certified}
use Rattle.e_deriv.specs.Written.{is_written_well}
use Rattle.e_deriv.specs.Versions.{has_certs_of}
use Rattle.e_places.specs.Numbered.{place_of_same, name_with_place, turns, sum_with_places, opposite_side, sides_swapped, two_placed, sums_with_places, part_with_places, parts_with_places, placed_for, cert_with_places, certs_with_places, against_with_places, with_places}
use Rattle.e_places.specs.inner.Numbering.{has_few}
use Rattle.e_verify.proofs.checking.PassedLines.{hence_written, make_written, apply_written, claim_written, superposed_written, qed_written, contradiction_written, cases_written, cite_written}
use Rattle.e_places.proofs.placing.PlacedCertificates.{certs_certified, against_certified}

abbrev are_certified : List StatementView → List PlacedStep → Bool
are_certified before xs = list_all (is_certified before) xs

abbrev lines_of : List StatementView → Script → Scope → List Lit → Goal → List PlacedStep
lines_of before d s facts goal = placed_steps before d d s facts goal

-- ---- certified lines stay certified

-- other certificates of the same needs
with_certs : (a b c d : Bool) → (b ≡ true → c ≡ true) → (a && (b && d)) ≡ true → (a && (c && d)) ≡ true
with_certs a b c d f h =
    let rest = and_right a (b && d) h in
    ap₂ {A = Bool} {B = Bool} (λ x y. x && y) (and_left a (b && d) h) (ap₂ {A = Bool} {B = Bool} (λ x y. x && y) (f (and_left b d rest)) (and_right b d rest))

both_true : (a b : Bool) → a ≡ true → b ≡ true → (a && b) ≡ true
both_true a b h k = ap₂ {A = Bool} {B = Bool} (λ x y. x && y) h k

pub numbered_certified : (before : List StatementView) (d : Script) (s : Scope) (facts : List Lit) (goal : Goal) → are_certified before (lines_of before d s facts goal) ≡ true
    → are_certified before (lines_of before (with_places before d s facts goal) s facts goal) ≡ true
unfolding placed_steps with_places
numbered_certified before (Cite by rest) s facts goal h =
    let first : Bool = is_certified before (placed_step (Cite by rest) (Cite by rest) s facts goal) in
    let next : List PlacedStep = placed_steps before rest rest s (with_fact facts by.lit) goal in
    both_true _ _ (and_left first (are_certified before next) h) (numbered_certified before rest s (with_fact facts by.lit) goal (and_right first (are_certified before next) h))
numbered_certified before (Hence lit cert rest) s facts goal h =
    let first : Bool = is_certified before (placed_step (Hence lit cert rest) (Hence lit cert rest) s facts goal) in
    let next : List PlacedStep = placed_steps before rest rest s (with_fact facts lit) goal in
    both_true _ _ (by cert (and_left first (are_certified before next) h)) (numbered_certified before rest s (with_fact facts lit) goal (and_right first (are_certified before next) h))
  where
    placed : Script
    placed = with_places before rest s (with_fact facts lit) goal

    by : (c : Option Cert) → is_certified before (placed_step (Hence lit c rest) (Hence lit c rest) s facts goal) ≡ true
        → is_certified before (placed_step (Hence lit (option_map (cert_with_places facts lit) c) placed) (Hence lit (option_map (cert_with_places facts lit) c) placed) s facts goal) ≡ true
    by None k = k
    by (Some c) k = with_certs (all_in_scope s lit) _ _ true (certs_certified s facts (lit ∷ []) (c ∷ [])) k
numbered_certified before (Make construction names certs rest) s facts goal h =
    let first : Bool = is_certified before (placed_step (Make construction names certs rest) (Make construction names certs rest) s facts goal) in
    let next : List PlacedStep = placed_steps before rest rest (with_sorts s (sorts_made construction)) (with_facts facts (gives_of_construction construction s)) goal in
    both_true _ _ (with_certs (fits_construction construction s) _ _ true (certs_certified s facts (needs before (placed_step (Make construction names certs rest) (Make construction names certs rest) s facts goal)) certs) (and_left first (are_certified before next) h))
    (numbered_certified before rest (with_sorts s (sorts_made construction)) (with_facts facts (gives_of_construction construction s)) goal (and_right first (are_certified before next) h))
numbered_certified before (Apply theorem args names certs rest) s facts goal h =
    let t : StatementView = theorem_at before theorem in
    let first : Bool = is_certified before (placed_step (Apply theorem args names certs rest) (Apply theorem args names certs rest) s facts goal) in
    let next : List PlacedStep = placed_steps before rest rest (with_sorts s t.made) (with_facts facts (gives_of_use t (args_written args) s)) goal in
    both_true _ _ (with_certs (is_applied before theorem s args (args_written args)) _ _ (has_no_blank args) (certs_certified s facts (needs before (placed_step (Apply theorem args names certs rest) (Apply theorem args names certs rest) s facts goal)) certs) (and_left first (are_certified before next) h))
    (numbered_certified before rest (with_sorts s t.made) (with_facts facts (gives_of_use t (args_written args) s)) goal (and_right first (are_certified before next) h))
numbered_certified before (Claim shown inner rest) s facts goal h =
    let first : Bool = is_certified before (placed_step (Claim shown inner rest) (Claim shown inner rest) s facts goal) in
    let within : List PlacedStep = placed_steps before inner inner s facts (goal_of shown) in
    let next : List PlacedStep = placed_steps before rest rest s (with_facts facts shown) goal in
    let later = and_right first (are_certified before (within ++ next)) h in
    both_true _ _ (and_left first (are_certified before (within ++ next)) h)
    (all_both (is_certified before) (lines_of before (with_places before inner s facts (goal_of shown)) s facts (goal_of shown)) (lines_of before (with_places before rest s (with_facts facts shown) goal) s (with_facts facts shown) goal)
    (numbered_certified before inner s facts (goal_of shown) (all_left (is_certified before) within next later))
    (numbered_certified before rest s (with_facts facts shown) goal (all_right (is_certified before) within next later)))
numbered_certified before (Superposed superposition names shown certs inner rest) s facts goal h =
    let first : Bool = is_certified before (placed_step (Superposed superposition names shown certs inner rest) (Superposed superposition names shown certs inner rest) s facts goal) in
    let within : List PlacedStep = placed_steps before inner inner (with_sorts s superposing.sorts_copied) (with_facts facts (superposing.gives_of_superposition superposition s)) (goal_of shown) in
    let next : List PlacedStep = placed_steps before rest rest s (with_facts facts shown) goal in
    let later = and_right first (are_certified before (within ++ next)) h in
    both_true _ _ (with_certs (superposing.fits_superposition superposition s && are_over s shown) _ _ true (certs_certified s facts (superposing.needs_of_superposition superposition) certs) (and_left first (are_certified before (within ++ next)) h))
    (all_both (is_certified before) (lines_of before (with_places before inner (with_sorts s superposing.sorts_copied) (with_facts facts (superposing.gives_of_superposition superposition s)) (goal_of shown)) (with_sorts s superposing.sorts_copied) (with_facts facts (superposing.gives_of_superposition superposition s)) (goal_of shown))
    (lines_of before (with_places before rest s (with_facts facts shown) goal) s (with_facts facts shown) goal)
    (numbered_certified before inner (with_sorts s superposing.sorts_copied) (with_facts facts (superposing.gives_of_superposition superposition s)) (goal_of shown) (all_left (is_certified before) within next later))
    (numbered_certified before rest s (with_facts facts shown) goal (all_right (is_certified before) within next later)))
numbered_certified before (Qed objects certs) s facts goal h =
    let first : Bool = is_certified before (placed_step (Qed objects certs) (Qed objects certs) s facts goal) in
    both_true _ _ (with_certs (are_for goal s objects) _ _ true (certs_certified s facts (needs before (placed_step (Qed objects certs) (Qed objects certs) s facts goal)) certs) (and_left first true h)) refl
numbered_certified before (Contradiction None) s facts goal h = h
numbered_certified before (Contradiction (Some against)) s facts goal h =
    let first : Bool = is_certified before (placed_step (Contradiction (Some against)) (Contradiction (Some against)) s facts goal) in
    both_true _ _ (against_certified s facts against (and_left first true h)) refl
numbered_certified before (Cases lit one two) s facts goal h =
    let first : Bool = is_certified before (placed_step (Cases lit one two) (Cases lit one two) s facts goal) in
    let within : List PlacedStep = placed_steps before one one s (with_fact facts lit) goal in
    let next : List PlacedStep = placed_steps before two two s (with_fact facts (negation lit)) goal in
    let later = and_right first (are_certified before (within ++ next)) h in
    both_true _ _ (and_left first (are_certified before (within ++ next)) h)
    (all_both (is_certified before) (lines_of before (with_places before one s (with_fact facts lit) goal) s (with_fact facts lit) goal) (lines_of before (with_places before two s (with_fact facts (negation lit)) goal) s (with_fact facts (negation lit)) goal)
    (numbered_certified before one s (with_fact facts lit) goal (all_left (is_certified before) within next later))
    (numbered_certified before two s (with_fact facts (negation lit)) goal (all_right (is_certified before) within next later)))

-- ---- the script is the same

pub numbered_erased : (before : List StatementView) (d : Script) (s : Scope) (facts : List Lit) (goal : Goal) → bare_script (with_places before d s facts goal) ≡ bare_script d
unfolding bare_script with_places
numbered_erased before (Cite by rest) s facts goal = ap (Cite by) (numbered_erased before rest s (with_fact facts by.lit) goal)
numbered_erased before (Hence lit cert rest) s facts goal = ap (Hence lit None) (numbered_erased before rest s (with_fact facts lit) goal)
numbered_erased before (Make construction names certs rest) s facts goal = ap (Make construction names []) (numbered_erased before rest (with_sorts s (sorts_made construction)) (with_facts facts (gives_of_construction construction s)) goal)
numbered_erased before (Apply theorem args names certs rest) s facts goal =
    ap (Apply theorem args names []) (numbered_erased before rest (with_sorts s (theorem_at before theorem).made) (with_facts facts (gives_of_use (theorem_at before theorem) (args_written args) s)) goal)
numbered_erased before (Claim shown inner rest) s facts goal =
    ap₂ {A = Script} {B = Script} (Claim shown) (numbered_erased before inner s facts (goal_of shown)) (numbered_erased before rest s (with_facts facts shown) goal)
numbered_erased before (Superposed superposition names shown certs inner rest) s facts goal =
    ap₂ {A = Script} {B = Script} (Superposed superposition names shown [])
    (numbered_erased before inner (with_sorts s superposing.sorts_copied) (with_facts facts (superposing.gives_of_superposition superposition s)) (goal_of shown)) (numbered_erased before rest s (with_facts facts shown) goal)
numbered_erased before (Qed objects certs) s facts goal = refl
numbered_erased before (Contradiction against) s facts goal = refl
numbered_erased before (Cases lit one two) s facts goal =
    ap₂ {A = Script} {B = Script} (Cases lit) (numbered_erased before one s (with_fact facts lit) goal) (numbered_erased before two s (with_fact facts (negation lit)) goal)

-- ---- the version

place_within : (facts : List Lit) (l : Lit) → place_of_same facts l ≤ length facts
place_within [] l = omega arith
place_within (f ∷ facts) l = by (not (same_lit f l)) (place_within facts l)
  where
    by : (b : Bool) → place_of_same facts l ≤ length facts → cond b (1 + place_of_same facts l) 0 ≤ suc (length facts)
    by true h = omega (arith, h)
    by false h = omega arith

-- what is named is named by its place
module _ (facts : List Lit) (few : length facts < 2 ^ 32) where
  small : (l : Lit) → nat_lt (place_of_same facts l) (2 ^ 32) ≡ true
  small l = lt-ltb (place_of_same facts l) (2 ^ 32) (omega (arith, few, place_within facts l))

  name_of_second : (name : RowName) → is_writable_name name ≡ true → is_name_of version.Two (name_with_place facts name) ≡ true
  name_of_second (Fact l) h = small l
  name_of_second GoalRow h = refl
  name_of_second (Pos t) h = refl
  name_of_second (Top t) h = refl
  name_of_second Right h = refl
  name_of_second (Least t) h = refl
  name_of_second Above h = refl
  name_of_second Below h = refl
  name_of_second (FactAt k) h = h

  sum_of_second : (xs : List (ℤ × RowName)) → is_writable_sum xs ≡ true → is_sum_of version.Two (sum_with_places facts xs) ≡ true
  sum_of_second [] h = refl
  sum_of_second (x ∷ xs) h = both_true _ _ (name_of_second x.1 (and_left (is_writable_name x.1) (is_writable_sum xs) h)) (sum_of_second xs (and_right (is_writable_name x.1) (is_writable_sum xs) h))

  other_of_second : (name : RowName) → is_name_of version.Two name ≡ true → is_name_of version.Two (opposite_side name) ≡ true
  other_of_second (Fact l) h = h
  other_of_second GoalRow h = h
  other_of_second (Pos t) h = h
  other_of_second (Top t) h = h
  other_of_second Right h = h
  other_of_second (Least t) h = h
  other_of_second Above h = refl
  other_of_second Below h = refl
  other_of_second (FactAt k) h = h

  swapped_of_second : (xs : List (ℤ × RowName)) → is_sum_of version.Two xs ≡ true → is_sum_of version.Two (sides_swapped xs) ≡ true
  swapped_of_second [] h = refl
  swapped_of_second (x ∷ xs) h =
      both_true _ _ (other_of_second x.1 (and_left (is_name_of version.Two x.1) (is_sum_of version.Two xs) h)) (swapped_of_second xs (and_right (is_name_of version.Two x.1) (is_sum_of version.Two xs) h))

  sums_of_second : (m : Sums) → are_writable_sums m ≡ true → are_sums_of version.Two (sums_with_places facts m) ≡ true
  sums_of_second (One sum) h = sum_of_second sum h
  sums_of_second (Two differs first second) h = by (turns facts differs)
    where
      both : (is_writable_sum first && is_writable_sum second) ≡ true
      both = and_right (is_writable_name differs) (is_writable_sum first && is_writable_sum second) h

      one : is_sum_of version.Two (sum_with_places facts first) ≡ true
      one = sum_of_second first (and_left (is_writable_sum first) (is_writable_sum second) both)

      two : is_sum_of version.Two (sum_with_places facts second) ≡ true
      two = sum_of_second second (and_right (is_writable_sum first) (is_writable_sum second) both)

      name : is_name_of version.Two (name_with_place facts differs) ≡ true
      name = name_of_second differs (and_left (is_writable_name differs) (is_writable_sum first && is_writable_sum second) h)

      by : (b : Bool) → are_sums_of version.Two (two_placed b (name_with_place facts differs) (sum_with_places facts first) (sum_with_places facts second)) ≡ true
      by true = both_true _ _ name (both_true _ _ (swapped_of_second (sum_with_places facts second) two) (swapped_of_second (sum_with_places facts first) one))
      by false = both_true _ _ name (both_true _ _ one two)

  part_of_second : (l : Lit) (p : Part) → is_writable_part p ≡ true → is_part_of version.Two (part_with_places facts l p) ≡ true
  part_of_second l FactPart h = small l
  part_of_second l (Metric m) h = sums_of_second m.sums h
  part_of_second l (FactPartAt k) h = h

  parts_of_second : (ls : List Lit) (ps : List Part) → list_all is_writable_part ps ≡ true → list_all (is_part_of version.Two) (parts_with_places facts ls ps) ≡ true
  parts_of_second [] ps h = refl
  parts_of_second (l ∷ ls) [] h = refl
  parts_of_second (l ∷ ls) (p ∷ ps) h = both_true _ _ (part_of_second l p (and_left (is_writable_part p) (list_all is_writable_part ps) h)) (parts_of_second ls ps (and_right (is_writable_part p) (list_all is_writable_part ps) h))

  for_of_second : (l : Lit) (ps : List Part) (o : Option (List Lit)) → list_all is_writable_part ps ≡ true → list_all (is_part_of version.Two) (placed_for facts l ps o) ≡ true
  for_of_second l ps (Some lits) h = parts_of_second (map negation (others lits l)) ps h
  for_of_second l ps None h = refl

  cert_of_second : (l : Lit) (c : Cert) → is_writable_cert c ≡ true → is_cert_of version.Two (cert_with_places facts l c) ≡ true
  cert_of_second l (Plain p) h = part_of_second l p h
  cert_of_second l (Transfer t) h = for_of_second l t.parts (Inst t.rule t.args) h

  certs_of_second : (ls : List Lit) (cs : List Cert) → list_all is_writable_cert cs ≡ true → list_all (is_cert_of version.Two) (certs_with_places facts ls cs) ≡ true
  certs_of_second [] cs h = refl
  certs_of_second (l ∷ ls) [] h = refl
  certs_of_second (l ∷ ls) (c ∷ cs) h = both_true _ _ (cert_of_second l c (and_left (is_writable_cert c) (list_all is_writable_cert cs) h)) (certs_of_second ls cs (and_right (is_writable_cert c) (list_all is_writable_cert cs) h))

  against_of_second : (a : Against) → is_writable_against a ≡ true → is_against_of version.Two (against_with_places facts a) ≡ true
  against_of_second (Clash l) h = refl
  against_of_second (MetricAgainst m) h = sums_of_second m.sums h

few_of : (facts : List Lit) (b : Bool) → (nat_lt (length facts) (2 ^ 32) && b) ≡ true → length facts < 2 ^ 32
few_of facts b h = ltb-true (length facts) (2 ^ 32) (and_left (nat_lt (length facts) (2 ^ 32)) b h)

pub numbered_of_second : (before : List StatementView) (d : Script) (s : Scope) (facts : List Lit) (goal : Goal) → is_written_well d ≡ true → list_all has_few (lines_of before d s facts goal) ≡ true
    → has_certs_of version.Two (with_places before d s facts goal) ≡ true
unfolding placed_steps with_places has_certs_of
numbered_of_second before (Cite by rest) s facts goal w h = numbered_of_second before rest s (with_fact facts by.lit) goal (cite_written by rest w).1 (and_right _ _ h)
numbered_of_second before (Hence lit cert rest) s facts goal w h =
    let k = hence_written lit cert rest w in
    both_true _ _ (by cert k.1) (numbered_of_second before rest s (with_fact facts lit) goal k.2 (and_right _ _ h))
  where
    by : (c : Option Cert) → option_map_or is_writable_cert c true ≡ true → option_map_or (is_cert_of version.Two) (option_map (cert_with_places facts lit) c) true ≡ true
    by None k = refl
    by (Some c) k = cert_of_second facts (few_of facts _ h) lit c k
numbered_of_second before (Make construction names certs rest) s facts goal w h =
    let k = make_written construction names certs rest w in
    both_true _ _ (certs_of_second facts (few_of facts _ h) (needs before (placed_step (Make construction names certs rest) (Make construction names certs rest) s facts goal)) certs k.0)
    (numbered_of_second before rest (with_sorts s (sorts_made construction)) (with_facts facts (gives_of_construction construction s)) goal k.1 (and_right _ _ h))
numbered_of_second before (Apply theorem args names certs rest) s facts goal w h =
    let k = apply_written theorem args names certs rest w in
    both_true _ _ (certs_of_second facts (few_of facts _ h) (needs before (placed_step (Apply theorem args names certs rest) (Apply theorem args names certs rest) s facts goal)) certs k.0)
    (numbered_of_second before rest (with_sorts s (theorem_at before theorem).made) (with_facts facts (gives_of_use (theorem_at before theorem) (args_written args) s)) goal k.1 (and_right _ _ h))
numbered_of_second before (Claim shown inner rest) s facts goal w h =
    let within : List PlacedStep = placed_steps before inner inner s facts (goal_of shown) in
    let next : List PlacedStep = placed_steps before rest rest s (with_facts facts shown) goal in
    let later = and_right (nat_lt (length facts) (2 ^ 32)) (list_all has_few (within ++ next)) h in
    let k = claim_written shown inner rest w in
    both_true _ _ (numbered_of_second before inner s facts (goal_of shown) k.1 (all_left has_few within next later))
    (numbered_of_second before rest s (with_facts facts shown) goal k.2 (all_right has_few within next later))
numbered_of_second before (Superposed superposition names shown certs inner rest) s facts goal w h =
    let within : List PlacedStep = placed_steps before inner inner (with_sorts s superposing.sorts_copied) (with_facts facts (superposing.gives_of_superposition superposition s)) (goal_of shown) in
    let next : List PlacedStep = placed_steps before rest rest s (with_facts facts shown) goal in
    let later = and_right (nat_lt (length facts) (2 ^ 32)) (list_all has_few (within ++ next)) h in
    let k = superposed_written superposition names shown certs inner rest w in
    both_true _ _ (certs_of_second facts (few_of facts _ h) (superposing.needs_of_superposition superposition) certs k.1)
    (both_true _ _ (numbered_of_second before inner (with_sorts s superposing.sorts_copied) (with_facts facts (superposing.gives_of_superposition superposition s)) (goal_of shown) k.2 (all_left has_few within next later))
    (numbered_of_second before rest s (with_facts facts shown) goal k.3 (all_right has_few within next later)))
numbered_of_second before (Qed objects certs) s facts goal w h =
    certs_of_second facts (few_of facts _ h) (needs before (placed_step (Qed objects certs) (Qed objects certs) s facts goal)) certs (qed_written objects certs w)
numbered_of_second before (Contradiction None) s facts goal w h = refl
numbered_of_second before (Contradiction (Some against)) s facts goal w h = against_of_second facts (few_of facts _ h) against (contradiction_written (Some against) w)
numbered_of_second before (Cases lit one two) s facts goal w h =
    let within : List PlacedStep = placed_steps before one one s (with_fact facts lit) goal in
    let next : List PlacedStep = placed_steps before two two s (with_fact facts (negation lit)) goal in
    let later = and_right (nat_lt (length facts) (2 ^ 32)) (list_all has_few (within ++ next)) h in
    let k = cases_written lit one two w in
    both_true _ _ (numbered_of_second before one s (with_fact facts lit) goal k.1 (all_left has_few within next later))
    (numbered_of_second before two s (with_fact facts (negation lit)) goal k.2 (all_right has_few within next later))
