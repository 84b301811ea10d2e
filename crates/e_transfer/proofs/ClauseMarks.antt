-- The marks that are listed are those of the negations of the literals of the transfer clauses, and
-- each literal is where it is listed.
use Rattle.std.proofs.Common.{◌≡◌, ◌≢◌, ℕ, zero, suc, ◌+◌, ◌<◌, ◌≤◌, List, [], ◌∷◌, refl, sym, ap, ◌∙◌, subst, arith, Bool, true, false, true≢false, ◌&&◌, ◌||◌, ◌==◌, eqb-true, eq-eqb, get_or, length, drop, map, inl, inr, Some, None, Option, Bor}
use Rattle.std.specs.Prelude.{slice_get, nat_lt}
use Rattle.std.specs.List.{list_all, list_any}
use Rattle.std.specs.Option.{option_map_or}
use Rattle.std.proofs.lemmas.Bool.{ltb-true, or_cases, cases_eq}
use Rattle.std.proofs.lemmas.Option.{same_Some, none-some}
use Rattle.e_literal.specs.declared.literal.Lit.{Lit}
use Rattle.e_literal.specs.declared.object.Scope.{Scope}
use Rattle.e_literal.specs.Literal.{negation}
use Rattle.e_literal.proofs.Booleans.{and_left, and_right}
use Rattle.e_clause.specs.Instance.{clause_of}
use Rattle.e_clause.specs.Rows.{Row}
use Rattle.e_clause.specs.Table.{table}
use Rattle.e_clause.specs.Table.Incidence.{incidence}
use Rattle.e_clause.specs.Table.Sides.{sides}
use Rattle.e_clause.specs.Table.Circles.{circles}
use Rattle.e_clause.specs.Table.Equality.{equality}
use Rattle.e_clause.specs.Table.Lengths.{lengths}
use Rattle.e_clause.specs.Table.Angles.{angles}
use Rattle.e_clause.proofs.Tables.{length_table}
use Rattle.e_transfer.specs.declared.query.Strength.{Strength}
use Rattle.e_transfer.specs.GivenGoals.{NoneAt, NoneGives}
use Rattle.e_transfer.specs.Marks.{lit_mark, NoneHolds}
use Rattle.e_transfer.specs.inner.ClauseMarks.{clause_needs, clause_places}
use Rattle.e_transfer.proofs.MarkedFacts.{none_here, none_elsewhere, some_at}
use Rattle.e_transfer.proofs.RuleSearches.{none_of, none_gives}

-- ---- what a table lends

pub now-get_or : {X : Type 0} (bs : List (Bor (List X))) (n : ℕ) (d : Bor (List X)) → (get_or bs n d).now ≡ get_or (map (λ (b : Bor (List X)). b.now) bs) n d.now
now-get_or [] n d = refl
now-get_or (b ∷ bs) zero d = refl
now-get_or (b ∷ bs) (suc n) d = now-get_or bs n d

-- ---- the marks of negations

abbrev is_needed_by : List Lit → ℕ → Bool
is_needed_by ls n = list_any (λ l. n == lit_mark (negation l)) ls

abbrev all_needed : List (List ℕ) → List Row → Bool
all_needed [] rs = true
all_needed (ns ∷ nss) [] = true
all_needed (ns ∷ nss) (r ∷ rs) = list_all (is_needed_by (clause_of r)) ns && all_needed nss rs

each_needed : all_needed clause_needs (drop 76 table) ≡ true
unfolding table incidence sides circles equality lengths angles
each_needed = refl

one_needed : (nss : List (List ℕ)) (rs : List Row) (k : ℕ) (r : Row) → all_needed nss rs ≡ true → slice_get rs k ≡ Some r → list_all (is_needed_by (clause_of r)) (get_or nss k []) ≡ true
one_needed [] rs k r all at = refl
one_needed (ns ∷ nss) [] k r all at = absurd (none-some r at)
one_needed (ns ∷ nss) (s ∷ rs) zero r all at =
    subst (λ (t : Row). list_all (is_needed_by (clause_of t)) ns ≡ true) (same_Some s r at) (and_left (list_all (is_needed_by (clause_of s)) ns) (all_needed nss rs) all)
one_needed (ns ∷ nss) (s ∷ rs) (suc k) r all at = one_needed nss rs k r (and_right (list_all (is_needed_by (clause_of s)) ns) (all_needed nss rs) all) at

passes_at : (p : ℕ → Bool) (ns : List ℕ) (i : ℕ) → list_all p ns ≡ true → i < length ns → p (get_or ns i 0) ≡ true
passes_at p [] i all less = absurd (omega (arith, less))
passes_at p (n ∷ ns) zero all less = and_left (p n) (list_all p ns) all
passes_at p (n ∷ ns) (suc i) all less = passes_at p ns i (and_right (p n) (list_all p ns) all) (omega (arith, less))

needed_by_one : (n : ℕ) (ls : List Lit) → is_needed_by ls n ≡ true → (i : ℕ) × (i < length ls) × (l : Lit) × (slice_get ls i ≡ Some l) × (n ≡ lit_mark (negation l))
needed_by_one n [] some = absurd (true≢false (sym some))
needed_by_one n (l ∷ ls) some = elim (or_cases (n == lit_mark (negation l)) (is_needed_by ls n) some) [
  | inl here ↦ (0, omega arith, l, refl, eqb-true n (lit_mark (negation l)) here)
  | inr later ↦ (let found = needed_by_one n ls later in let below = found.1 in (suc found.0, omega (arith, below), found.2, found.3, found.4))
]

after : (n k : ℕ) (rs : List Row) → slice_get (drop n rs) k ≡ slice_get rs (n + k)
after zero k rs = let on : k ≡ zero + k = omega arith in ap (slice_get rs) on
after (suc n) k [] = refl
after (suc n) k (r ∷ rs) = let on : suc (n + k) ≡ suc n + k = omega arith in after n k rs ∙ ap (slice_get (r ∷ rs)) on

some_row : (rs : List Row) (n : ℕ) → n < length rs → (r : Row) × (slice_get rs n ≡ Some r)
some_row [] n less = absurd (omega (arith, less))
some_row (r ∷ rs) zero less = (r, refl)
some_row (r ∷ rs) (suc n) less = some_row rs n (omega (arith, less))

-- where a mark that is needed does not fit, no instance has the goal
pub none_lacking : (m : Strength) (scope : Scope) (facts : List Lit) (goal : Lit) (k i needed : ℕ) → k < 29 → i < length (get_or clause_needs k []) → needed ≡ get_or (get_or clause_needs k []) i 0
    → ((l : Lit) → needed ≡ lit_mark (negation l) → (r : Row) (at : ℕ) → slice_get (clause_of r) at ≡ Some l → NoneHolds m facts goal r at) → (place : ℕ) → NoneAt m scope facts goal (76 + k) place
none_lacking m scope facts goal k i needed less below is none = λ place.
    let some = some_row table (76 + k) (let long = length_table in omega (arith, less, long)) in
    let r = some.0 in
    let all = one_needed clause_needs (drop 76 table) k r each_needed (after 76 k table ∙ some.1) in
    let found = needed_by_one needed (clause_of r) (ap (is_needed_by (clause_of r)) is ∙ passes_at (is_needed_by (clause_of r)) (get_or clause_needs k []) i all below) in
    none_elsewhere m scope facts goal (76 + k) place found.0 r some.1 found.1 (none found.2 found.4 r found.0 found.3)

-- ---- the places of marks

abbrev is_pair : ℕ → ℕ → ℕ × ℕ → Bool
is_pair k i p = p.0 == k && p.1 == i

abbrev is_placed : ℕ → ℕ → Lit → Bool
is_placed k i l = list_any (is_pair k i) (get_or clause_places (lit_mark l) [])

abbrev lits_placed : ℕ → ℕ → List Lit → Bool
lits_placed k i [] = true
lits_placed k i (l ∷ ls) = is_placed k i l && lits_placed k (suc i) ls

abbrev rows_placed : ℕ → List Row → Bool
rows_placed k [] = true
rows_placed k (r ∷ rs) = lits_placed k 0 (clause_of r) && rows_placed (suc k) rs

each_placed : rows_placed 0 (drop 76 table) ≡ true
unfolding table incidence sides circles equality lengths angles
each_placed = refl

lit_placed : (k i j : ℕ) (ls : List Lit) (l : Lit) → lits_placed k i ls ≡ true → slice_get ls j ≡ Some l → is_placed k (i + j) l ≡ true
lit_placed k i j [] l all at = absurd (none-some l at)
lit_placed k i zero (s ∷ ls) l all at =
    let on : i + zero ≡ i = omega arith in
    ap (λ n. is_placed k n l) on ∙ subst (λ (t : Lit). is_placed k i t ≡ true) (same_Some s l at) (and_left (is_placed k i s) (lits_placed k (suc i) ls) all)
lit_placed k i (suc j) (s ∷ ls) l all at =
    let on : i + suc j ≡ suc i + j = omega arith in
    ap (λ n. is_placed k n l) on ∙ lit_placed k (suc i) j ls l (and_right (is_placed k i s) (lits_placed k (suc i) ls) all) at

row_placed : (k j : ℕ) (rs : List Row) (r : Row) → rows_placed k rs ≡ true → slice_get rs j ≡ Some r → lits_placed (k + j) 0 (clause_of r) ≡ true
row_placed k j [] r all at = absurd (none-some r at)
row_placed k zero (s ∷ rs) r all at =
    let on : k + zero ≡ k = omega arith in
    ap (λ n. lits_placed n 0 (clause_of r)) on ∙ subst (λ (t : Row). lits_placed k 0 (clause_of t) ≡ true) (same_Some s r at) (and_left (lits_placed k 0 (clause_of s)) (rows_placed (suc k) rs) all)
row_placed k (suc j) (s ∷ rs) r all at =
    let on : k + suc j ≡ suc k + j = omega arith in
    ap (λ n. lits_placed n 0 (clause_of r)) on ∙ row_placed (suc k) j rs r (and_right (lits_placed k 0 (clause_of s)) (rows_placed (suc k) rs) all) at

placed_there : (k i : ℕ) (r : Row) (l : Lit) → slice_get (drop 76 table) k ≡ Some r → slice_get (clause_of r) i ≡ Some l → is_placed k i l ≡ true
placed_there k i r l row lit =
    let clause : 0 + k ≡ k = omega arith in
    let place : 0 + i ≡ i = omega arith in
    let all = subst (λ n. lits_placed n 0 (clause_of r) ≡ true) clause (row_placed 0 k (drop 76 table) r each_placed row) in
    subst (λ n. is_placed k n l ≡ true) place (lit_placed k 0 i (clause_of r) l all lit)

pair_at : (k i : ℕ) (ps : List (ℕ × ℕ)) → list_any (is_pair k i) ps ≡ true → (n : ℕ) × (n < length ps) × ((get_or ps n (0, 0)).0 ≡ k) × ((get_or ps n (0, 0)).1 ≡ i)
pair_at k i [] some = absurd (true≢false (sym some))
pair_at k i (p ∷ ps) some = elim (or_cases (is_pair k i p) (list_any (is_pair k i) ps) some) [
  | inl here ↦ (0, omega arith, eqb-true p.0 k (and_left (p.0 == k) (p.1 == i) here), eqb-true p.1 i (and_right (p.0 == k) (p.1 == i) here))
  | inr later ↦ (let found = pair_at k i ps later in let below = found.1 in (suc found.0, omega (arith, below), found.2, found.3))
]

none_moved : (m : Strength) (scope : Scope) (facts : List Lit) (goal : Lit) (q : ℕ × ℕ) (k p : ℕ) → q.0 ≡ k → q.1 ≡ p → NoneAt m scope facts goal (76 + q.0) q.1 → NoneAt m scope facts goal (76 + k) p
none_moved m scope facts goal q k p clause place none =
    subst (λ (i : ℕ). NoneAt m scope facts goal (76 + k) i) place (subst (λ (i : ℕ). NoneAt m scope facts goal (76 + i) q.1) clause none)

-- where no instance has the goal at the places of its mark, none has it
pub none_placed : (m : Strength) (scope : Scope) (facts : List Lit) (goal : Lit) (mark n : ℕ) (places : List (ℕ × ℕ)) → mark ≡ lit_mark goal → places ≡ get_or clause_places mark [] → length places ≤ n
    → ((i : ℕ) → i < n → NoneAt m scope facts goal (76 + (get_or places i (0, 0)).0) (get_or places i (0, 0)).1) → NoneGives m scope facts goal
none_placed m scope facts goal mark n places is listed most none = none_gives m scope facts goal 29 (omega arith) (λ k less.
    let some = some_row table (76 + k) (let long = length_table in omega (arith, less, long)) in
    let r = some.0 in
    none_of m scope facts goal (76 + k) r (length (clause_of r)) some.1 (omega arith)
    (λ p below.
    let l = some_at (clause_of r) p below in
    elim (cases_eq (lit_mark l.0) (lit_mark goal)) [
      | inl same ↦
          let there : is_placed k p l.0 ≡ true = placed_there k p r l.0 (after 76 k table ∙ some.1) l.1 in
          let found = pair_at k p places (ap (list_any (is_pair k p)) (listed ∙ ap (λ v. get_or clause_places v []) (is ∙ sym same)) ∙ there) in
          let short = found.1 in
          none_moved m scope facts goal (get_or places found.0 (0, 0)) k p found.2 found.3 (none found.0 (omega (arith, short, most)))
      | inr other ↦ none_here m scope facts goal (76 + k) p r l.0.neg l.0.atom some.1 l.1 other
    ]))

abbrev is_in_table : ℕ × ℕ → Bool
is_in_table p = nat_lt p.0 29 && nat_lt p.1 (option_map_or (λ r. length (clause_of r)) (slice_get table (76 + p.0)) 0)

all_in_table : list_all (list_all is_in_table) clause_places ≡ true
unfolding table incidence sides circles equality lengths angles
all_in_table = refl

pair_passes : (p : ℕ × ℕ → Bool) (ps : List (ℕ × ℕ)) (i : ℕ) → list_all p ps ≡ true → i < length ps → p (get_or ps i (0, 0)) ≡ true
pair_passes p [] i all less = absurd (omega (arith, less))
pair_passes p (q ∷ ps) zero all less = and_left (p q) (list_all p ps) all
pair_passes p (q ∷ ps) (suc i) all less = pair_passes p ps i (and_right (p q) (list_all p ps) all) (omega (arith, less))

list_passes : (p : ℕ × ℕ → Bool) (pss : List (List (ℕ × ℕ))) (k : ℕ) → list_all (list_all p) pss ≡ true → list_all p (get_or pss k []) ≡ true
list_passes p [] k all = refl
list_passes p (ps ∷ pss) zero all = and_left (list_all p ps) (list_all (list_all p) pss) all
list_passes p (ps ∷ pss) (suc k) all = list_passes p pss k (and_right (list_all p ps) (list_all (list_all p) pss) all)

-- each of the places is one of a transfer clause
pub placed_in : (mark i : ℕ) (places : List (ℕ × ℕ)) (p : ℕ × ℕ) → places ≡ get_or clause_places mark [] → i < length places → p ≡ get_or places i (0, 0)
    → (p.0 < 29) × ((r : Row) → slice_get table (76 + p.0) ≡ Some r → p.1 < length (clause_of r))
placed_in mark i places p listed less is =
    let all : list_all is_in_table places ≡ true = ap (list_all is_in_table) listed ∙ list_passes is_in_table clause_places mark all_in_table in
    let here : is_in_table p ≡ true = ap is_in_table is ∙ pair_passes is_in_table places i all less in
    let many : Option Row → ℕ = λ o. option_map_or (λ r. length (clause_of r)) o 0 in (
      ltb-true p.0 29 (and_left (nat_lt p.0 29) (nat_lt p.1 (many (slice_get table (76 + p.0)))) here),
      λ r at. ltb-true p.1 (length (clause_of r)) (ap (λ o. nat_lt p.1 (many o)) (sym at) ∙ and_right (nat_lt p.0 29) (nat_lt p.1 (many (slice_get table (76 + p.0)))) here),
    )
