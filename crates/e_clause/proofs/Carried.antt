-- Solutions of the three metric systems, carried to the terms as they are written, are a
-- counterexample.
use Rattle.std.proofs.Common.{◌≡◌, ◌≢◌, ℕ, ◌+◌, ◌*◌, ◌≤◌, List, [], ◌∷◌, ◌++◌, length, refl, sym, ap, ap₂, ◌∙◌, subst, arith, Option, Some, None, Bool, true, false, cond, ◌&&◌, ◌||◌, ◌==◌, eqb, eq-eqb, true≢false, ◌⊎◌, inl, inr, min, max, le-leb, eqb-true}
use Rattle.std.specs.Prelude.{flat_map, nat_le}
use Rattle.std.specs.Option.{option_map, option_map_or}
use Rattle.std.specs.List.{list_all, cons_option}
use Rattle.std.proofs.lemmas.Bool.{and_from, or_left, or_right, or_cases, cases_Bool}
use Rattle.std.proofs.lemmas.Option.{same_Some}
use lib.IntN.{pos, negsuc}
use Rattle.e_literal.specs.declared.object.Kind.{Kind}
use Rattle.e_literal.specs.declared.object.Kind.TheVariants.{Segment, Angle}
use Rattle.e_literal.specs.declared.object.Mono.{Mono}
use Rattle.e_literal.specs.declared.object.Term.{Term}
use Rattle.e_literal.specs.declared.object.Term.TheVariants.{Seg, Ang, Area, Right}
use Rattle.e_literal.specs.declared.literal.Lit.{Lit}
use Rattle.e_literal.specs.declared.literal.Atom.{Atom}
use Rattle.e_literal.specs.declared.literal.Atom.TheVariants.{On, OnC, Inside, Center, Between, Same, MeetLL, MeetLC, MeetCC, EqP, EqL, EqC, MagEq, MagLt}
use Rattle.e_literal.specs.Literal.{negation, kind_of_term, kind_of_sums, kind_of_atom}
use Rattle.e_literal.specs.WellFormed.{same_kind, is_bounded_coefficient, are_well_formed_sums, is_well_formed_atom, is_well_formed}
use Rattle.e_literal.specs.Same.{canonical, term_eq, one_term}
use Rattle.e_literal.specs.Width.{is_among}
use Rattle.e_literal.specs.Truth.{holds, all_hold}
use Rattle.e_literal.specs.Facts.{has, is_metric, are_apart, are_equal_points}
use Rattle.e_literal.specs.Rows.{Row, Zero, AtLeast, More, Not, is_degenerate, times, row, plus, minus, row_of_atom, row_of_lit, has_term, first_terms}
use Rattle.e_literal.specs.Solution.{Satisfy, values_for_all}
use Rattle.e_literal.proofs.Arith.{sums, one_mul, minus_one}
use Rattle.e_literal.proofs.Terms.{term_eq_is, equal_terms, among_either, among_left, among_right, among_first, among_rest}
use Rattle.e_literal.proofs.CanonicalTerms.{kind_canonical, one_term_is, same_degenerate}
use Rattle.e_literal.proofs.Valued.{IsMagEq, IsMagLt, IsDiagram, split, normal_value, holds_of_so}
use Rattle.e_literal.proofs.Sorts.{same_kind_is, same_kind_self}
use Rattle.e_literal.proofs.Booleans.{and_left, and_right}
use Rattle.e_clause.specs.declared.cert.RowName.{RowName}
use Rattle.e_clause.specs.declared.cert.RowName.TheVariants.{Fact, Goal, Pos}
use Rattle.e_clause.specs.Assignment.{terms_of_atom, terms_of_lits, terms_of_wanted, terms_of_step, is_within, is_zero_if_degenerate, is_positive_if_apart, agrees_with}
use Rattle.e_clause.specs.Metric.{wanted_fails, IsCounterexample}
use Rattle.e_clause.specs.System.{NamedRow, named_row, is_of_kind, of_kind, against_goal, rows_named, pos_row, top_row, rows_of_term, rows_of_kind, system, rows_of_system, by_kind}
use Rattle.e_clause.specs.Laws.{is_well_formed_metric, SolutionsRefute}
use Rattle.e_clause.proofs.Spread.{Agree, terms_of_sum, holds_agrees, all_hold_agrees, fails_agrees, among_facts, among_wanted}
use Rattle.e_clause.proofs.Refuted.{IsSoAt, negation_fails}
use Rattle.e_clause.proofs.Solved.{SatisfyNamed, terms_of_system}

-- ---- parts of what is satisfied

satisfy_split : (w : Term → ℕ) (ns ms : List NamedRow) → SatisfyNamed w (ns ++ ms) → SatisfyNamed w ns × SatisfyNamed w ms
satisfy_split w [] ms h = (tt, h)
satisfy_split w (n ∷ ns) ms h = let k = satisfy_split w ns ms h.1 in ((h.0, k.0), k.1)

satisfy_at : (w : Term → ℕ) (f : Term → List NamedRow) (ts : List Term) (t : Term) → SatisfyNamed w (flat_map f ts) → is_among ts t ≡ true → SatisfyNamed w (f t)
satisfy_at w f [] t h a = absurd (true≢false (sym a))
satisfy_at w f (s ∷ ss) t h a =
    let k = satisfy_split w (f s) (flat_map f ss) h in
    elim (or_cases (term_eq t s) (is_among ss t) a) [
      | inl e ↦ subst (λ x. SatisfyNamed w (f x)) (sym (term_eq_is t s e)) k.0
      | inr b ↦ satisfy_at w f ss t k.1 b
    ]

-- ---- kinds

-- each term of a well-formed sum is of its kind
kind_in_sums : (ms : List Mono) (which : Kind) (t : Term) → list_all (λ (m : Mono). same_kind (kind_of_term m.term) which && is_bounded_coefficient m.coeff) ms ≡ true
    → is_among (terms_of_sum ms) t ≡ true → kind_of_term t ≡ which
kind_in_sums [] which t h a = absurd (true≢false (sym a))
kind_in_sums (m ∷ ms) which t h a =
    let here = same_kind (kind_of_term m.term) which && is_bounded_coefficient m.coeff in
    let rest = list_all (λ (n : Mono). same_kind (kind_of_term n.term) which && is_bounded_coefficient n.coeff) ms in
    elim (or_cases (term_eq t m.term) (is_among (terms_of_sum ms) t) a) [
      | inl e ↦ ap kind_of_term (term_eq_is t m.term e) ∙ same_kind_is (kind_of_term m.term) which (and_left (same_kind (kind_of_term m.term) which) (is_bounded_coefficient m.coeff) (and_left here rest h))
      | inr b ↦ kind_in_sums ms which t (and_right here rest h) b
    ]

all_good : (x y : List Mono) → are_well_formed_sums x y ≡ true → list_all (λ (m : Mono). same_kind (kind_of_term m.term) (kind_of_sums x y) && is_bounded_coefficient m.coeff) (x ++ y) ≡ true
all_good x y h =
    let each = list_all (λ (m : Mono). same_kind (kind_of_term m.term) (kind_of_sums x y) && is_bounded_coefficient m.coeff) (x ++ y) in
    and_right (nat_le (length (x ++ y)) 32) each (and_right (nat_le 1 (length (x ++ y))) (nat_le (length (x ++ y)) 32 && each) h)

-- a well-formed atom with this term is of the term's kind
kind_in_atom : (a : Atom) (t : Term) → is_well_formed_atom a ≡ true → is_among (terms_of_atom a) t ≡ true → kind_of_atom a ≡ Some (kind_of_term t)
kind_in_atom (MagEq x y) t h k = ap Some (sym (kind_in_sums (x ++ y) (kind_of_sums x y) t (all_good x y h) k))
kind_in_atom (MagLt x y) t h k = ap Some (sym (kind_in_sums (x ++ y) (kind_of_sums x y) t (all_good x y h) k))
kind_in_atom (On x y) t h k = absurd (true≢false (sym k))
kind_in_atom (OnC x y) t h k = absurd (true≢false (sym k))
kind_in_atom (Inside x y) t h k = absurd (true≢false (sym k))
kind_in_atom (Center x y) t h k = absurd (true≢false (sym k))
kind_in_atom (Between x y z) t h k = absurd (true≢false (sym k))
kind_in_atom (Same x y z) t h k = absurd (true≢false (sym k))
kind_in_atom (MeetLL x y) t h k = absurd (true≢false (sym k))
kind_in_atom (MeetLC x y) t h k = absurd (true≢false (sym k))
kind_in_atom (MeetCC x y) t h k = absurd (true≢false (sym k))
kind_in_atom (EqP x y) t h k = absurd (true≢false (sym k))
kind_in_atom (EqL x y) t h k = absurd (true≢false (sym k))
kind_in_atom (EqC x y) t h k = absurd (true≢false (sym k))

of_own_kind : (l : Lit) (t : Term) → is_well_formed l ≡ true → is_among (terms_of_atom l.atom) t ≡ true → is_of_kind (kind_of_term t) l ≡ true
of_own_kind l t h k =
    ap (λ o. option_map_or (same_kind (kind_of_term t)) o false) (kind_in_atom l.atom t h k) ∙ same_kind_self (kind_of_term t)

-- a term of well-formed literals is one of those of its kind
among_own_kind : (ls : List Lit) (t : Term) → list_all is_well_formed ls ≡ true → is_among (terms_of_lits ls) t ≡ true → is_among (terms_of_lits (of_kind (kind_of_term t) ls)) t ≡ true
among_own_kind [] t h a = a
among_own_kind (l ∷ ls) t h a =
    by (is_of_kind (kind_of_term t) l) refl (among_either (terms_of_atom l.atom) (terms_of_lits ls) t a) (among_own_kind ls t (and_right (is_well_formed l) (list_all is_well_formed ls) h))
  where
    rest : List Lit
    rest = of_kind (kind_of_term t) ls

    by : (b : Bool) → is_of_kind (kind_of_term t) l ≡ b → (is_among (terms_of_atom l.atom) t ≡ true) ⊎ (is_among (terms_of_lits ls) t ≡ true)
        → (is_among (terms_of_lits ls) t ≡ true → is_among (terms_of_lits rest) t ≡ true) → is_among (terms_of_lits (cons_option (cond b (Some l) None) rest)) t ≡ true
    by true e (inl k) ih = among_left (terms_of_atom l.atom) (terms_of_lits rest) t k
    by true e (inr k) ih = among_right (terms_of_atom l.atom) (terms_of_lits rest) t (ih k)
    by false e (inl k) ih = absurd (true≢false (sym (of_own_kind l t (and_left (is_well_formed l) (list_all is_well_formed ls) h) k) ∙ e))
    by false e (inr k) ih = ih k

pub good_against : (wanted : Option Lit) → is_well_formed_metric wanted ≡ true → list_all is_well_formed (against_goal wanted) ≡ true
good_against None h = refl
good_against (Some l) h = ap (λ b. b && true) (and_right (is_metric l) (is_well_formed l) h)

among_against : (wanted : Option Lit) (t : Term) → is_among (terms_of_wanted wanted) t ≡ true → is_among (terms_of_lits (against_goal wanted)) t ≡ true
among_against None t h = h
among_against (Some l) t h = among_left (terms_of_atom l.atom) [] t h

-- a term of the step is right, or one of the system of its kind
among_system : (facts : List Lit) (wanted : Option Lit) (t : Term) → list_all is_well_formed facts ≡ true → is_well_formed_metric wanted ≡ true
    → is_among (terms_of_step facts wanted) t ≡ true → (t ≡ Right) ⊎ (is_among (terms_of_system (kind_of_term t) facts wanted) t ≡ true)
among_system facts wanted t h g a = elim (or_cases (term_eq t Right) (is_among (terms_of_lits facts ++ terms_of_wanted wanted) t) a) [
  | inl e ↦ inl (term_eq_is t Right e)
  | inr b ↦ inr (elim (among_either (terms_of_lits facts) (terms_of_wanted wanted) t b) [
    | inl k ↦ among_left (terms_of_lits (of_kind (kind_of_term t) facts)) (terms_of_lits (of_kind (kind_of_term t) (against_goal wanted))) t (among_own_kind facts t h k)
    | inr k ↦ among_right (terms_of_lits (of_kind (kind_of_term t) facts)) (terms_of_lits (of_kind (kind_of_term t) (against_goal wanted))) t
        (among_own_kind (against_goal wanted) t (good_against wanted g) (among_against wanted t k))
  ])
]

one_term_self : (t : Term) → one_term t t ≡ true
one_term_self t = equal_terms (canonical t) (canonical t) refl

-- each term of a list is one term with one that stands first
first_found : (seen ts : List Term) (t : Term) → is_among ts t ≡ true → (has_term seen t ≡ true) ⊎ (s : Term) × (is_among (first_terms seen ts) s ≡ true) × (one_term t s ≡ true)
first_found seen [] t a = absurd (true≢false (sym a))
first_found seen (x ∷ xs) t a = by (has_term seen x) refl (or_cases (term_eq t x) (is_among xs t) a) (λ bs. first_found bs xs t)
  where
    by : (b : Bool) → has_term seen x ≡ b → (term_eq t x ≡ true) ⊎ (is_among xs t ≡ true)
        → ((bs : List Term) → is_among xs t ≡ true → (has_term bs t ≡ true) ⊎ (s : Term) × (is_among (first_terms bs xs) s ≡ true) × (one_term t s ≡ true))
        → (has_term seen t ≡ true) ⊎ (s : Term) × (is_among (cond b (first_terms seen xs) (x ∷ first_terms (x ∷ seen) xs)) s ≡ true) × (one_term t s ≡ true)
    by true e (inl k) ih = inl (ap (has_term seen) (term_eq_is t x k) ∙ e)
    by true e (inr k) ih = ih seen k
    by false e (inl k) ih = inr (x, among_first x (first_terms (x ∷ seen) xs), ap (one_term t) (sym (term_eq_is t x k)) ∙ one_term_self t)
    by false e (inr k) ih = elim (ih (x ∷ seen) k) [
      | inl m ↦ elim (or_cases (one_term t x) (has_term seen t) m) [
        | inl o ↦ inr (x, among_first x (first_terms (x ∷ seen) xs), o)
        | inr n ↦ inl n
      ]
      | inr m ↦ inr (m.0, among_rest x (first_terms (x ∷ seen) xs) m.0 m.1, m.2)
    ]

-- ---- values of all terms

pub carried_same : (w : Term → ℕ) (s t : Term) → canonical s ≡ canonical t → values_for_all w s ≡ values_for_all w t
carried_same w s t e = ap₂ {A = Bool} {B = ℕ} (λ b n. cond b 0 n) (same_degenerate s t e) (ap w e)

-- a term has the value that the solution for its kind gives it
of_its_kind : (values : Kind → Term → ℕ) (which : Kind) (t : Term) → kind_of_term t ≡ which → values_for_all (values which) t ≡ values_for_all (by_kind values) t
of_its_kind values which t e = ap (λ k. cond (is_degenerate t) 0 (values k (canonical t))) (sym e ∙ sym (kind_canonical t))

metric_row : (a : Atom) (neg : Bool) → IsMagEq a ⊎ IsMagLt a → (r : Row) × (row_of_atom a neg ≡ Some r)
metric_row a neg (inl p) = (row (cond neg Not Zero) (plus p.0 ++ minus p.1), ap (λ b. row_of_atom b neg) p.2)
metric_row a true (inr p) = (row AtLeast (plus p.0 ++ minus p.1), ap (λ b. row_of_atom b true) p.2)
metric_row a false (inr p) = (row More (plus p.1 ++ minus p.0), ap (λ b. row_of_atom b false) p.2)

metric_kind : (a : Atom) → IsMagEq a ⊎ IsMagLt a → (k : Kind) × (kind_of_atom a ≡ Some k)
metric_kind a (inl p) = (kind_of_sums p.0 p.1, ap kind_of_atom p.2)
metric_kind a (inr p) = (kind_of_sums p.0 p.1, ap kind_of_atom p.2)

-- the rows of literals after one
rest_so : (w : Term → ℕ) (which : Kind) (name : Lit → RowName) (l : Lit) (ls : List Lit) → SatisfyNamed w (rows_named name (of_kind which (l ∷ ls))) → SatisfyNamed w (rows_named name (of_kind which ls))
rest_so w which name l ls h = by (is_of_kind which l) h
  where
    rest : List Lit
    rest = of_kind which ls

    past : (o : Option Row) → SatisfyNamed w (cons_option (option_map (named_row (name l)) o) (rows_named name rest)) → SatisfyNamed w (rows_named name rest)
    past None k = k
    past (Some r) k = k.1

    by : (b : Bool) → SatisfyNamed w (rows_named name (cons_option (cond b (Some l) None) rest)) → SatisfyNamed w (rows_named name rest)
    by true k = past (row_of_lit l) k
    by false k = k

-- the row of the first one
first_so : (w : Term → ℕ) (which : Kind) (name : Lit → RowName) (l : Lit) (ls : List Lit) (r : Row) → is_of_kind which l ≡ true → row_of_lit l ≡ Some r
    → SatisfyNamed w (rows_named name (of_kind which (l ∷ ls))) → IsSoAt w r
first_so w which name l ls r k e h =
    (subst (λ o. SatisfyNamed w (cons_option (option_map (named_row (name l)) o) (rows_named name (of_kind which ls)))) e
    (subst (λ b. SatisfyNamed w (rows_named name (cons_option (cond b (Some l) None) (of_kind which ls)))) k h)).0

module _ (values : Kind → Term → ℕ) where
  -- literals whose rows are so are true
  literals_true : (name : Lit → RowName) (ls : List Lit) → list_all is_well_formed ls ≡ true → ((which : Kind) → SatisfyNamed (values which) (rows_named name (of_kind which ls)))
      → all_hold (values_for_all (by_kind values)) ls ≡ true
  literals_true name [] g h = refl
  literals_true name (l ∷ ls) g h =
      and_from (holds (values_for_all (by_kind values)) l) (all_hold (values_for_all (by_kind values)) ls) (one (split l.atom))
      (literals_true name ls (and_right (is_well_formed l) (list_all is_well_formed ls) g) (λ which. rest_so (values which) which name l ls (h which)))
    where
      good : is_well_formed l ≡ true
      good = and_left (is_well_formed l) (list_all is_well_formed ls) g

      metric : IsMagEq l.atom ⊎ IsMagLt l.atom → holds (values_for_all (by_kind values)) l ≡ true
      metric p =
          let k = metric_kind l.atom p in
          let r = metric_row l.atom l.neg p in
          let is : is_of_kind k.0 l ≡ true = ap (λ o. option_map_or (same_kind k.0) o false) k.1 ∙ same_kind_self k.0 in
          let agree : Agree (terms_of_atom l.atom) (values_for_all (by_kind values)) (values_for_all (values k.0)) =
          λ t a. sym (of_its_kind values k.0 t (same_Some (kind_of_term t) k.0 (sym (kind_in_atom l.atom t good a) ∙ k.1))) in
          holds_agrees l (values_for_all (by_kind values)) (values_for_all (values k.0)) agree
          ∙ holds_of_so l r.0 (values k.0) r.1 (first_so (values k.0) k.0 name l ls r.0 is r.1 (h k.0))

      one : (IsMagEq l.atom ⊎ IsMagLt l.atom) ⊎ IsDiagram l.atom → holds (values_for_all (by_kind values)) l ≡ true
      one (inl p) = metric p
      one (inr d) = d.quiet (values_for_all (by_kind values)) l.neg

-- ---- the bounds of the terms

pos_is : (t : Term) (w : Term → ℕ) → IsSoAt w (pos_row t) → 1 ≤ values_for_all w t
pos_is t w h = let e = normal_value (times (pos 1) t ∷ []) w in let k = one_mul (pos (values_for_all w t)) in omega (arith, sums, e, k, h)

top_is : (t : Term) (w : Term → ℕ) → IsSoAt w (top_row t) → values_for_all w t ≤ 2 * values_for_all w Right
top_is t w h =
    let e = normal_value (times (pos 2) Right ∷ (times (negsuc 0) t ∷ [])) w in
    let k = minus_one (pos (values_for_all w t)) in
    omega (arith, sums, e, k, h)

-- two points in one order or the other
turned_points : (a b c d : ℕ) → min a b ≡ min c d → max a b ≡ max c d → ((a ≡ c) × (b ≡ d)) ⊎ ((a ≡ d) × (b ≡ c))
turned_points a b c d h g = elim (cases_Bool (eqb a c)) [
  | inl e ↦ inl (eqb-true a c e, omega (arith, eqb-true a c e, h, g))
  | inr n ↦ (let k : a ≢ c = λ e. true≢false (sym (eq-eqb a c e) ∙ n) in inr (omega (arith, k, h, g), omega (arith, k, h, g)))
]

apart_turned : (facts : List Lit) (a b : ℕ) → are_apart facts a b ≡ true → are_apart facts b a ≡ true
apart_turned facts a b h =
    let here = has facts (negation (are_equal_points a b)) in
    let there = has facts (negation (are_equal_points b a)) in
    elim (or_cases here (there || false) h) [
      | inl e ↦ or_right there (here || false) (or_left here false e)
      | inr k ↦ elim (or_cases there false k) [
        | inl e ↦ or_left there (here || false) e
        | inr n ↦ absurd (true≢false (sym n))
      ]
    ]

-- the same segment is apart, in whichever order its points are written
apart_same : (facts : List Lit) (a b c d : ℕ) → canonical (Seg a b) ≡ canonical (Seg c d) → are_apart facts a b ≡ true → are_apart facts c d ≡ true
apart_same facts a b c d e h =
    let least : min a b ≡ min c d = first_point e in
    let most : max a b ≡ max c d = second_point e in
    elim (turned_points a b c d least most) [
      | inl k ↦ subst (λ m. are_apart facts m d ≡ true) k.0 (subst (λ m. are_apart facts a m ≡ true) k.1 h)
      | inr k ↦ subst (λ m. are_apart facts m d ≡ true) k.1 (subst (λ m. are_apart facts b m ≡ true) k.0 (apart_turned facts a b h))
    ]
  where
    first : Term → ℕ
    first (Seg m n) = m
    first _ = 0

    second : Term → ℕ
    second (Seg m n) = n
    second _ = 0

    first_point : canonical (Seg a b) ≡ canonical (Seg c d) → min a b ≡ min c d
    first_point k = ap first k

    second_point : canonical (Seg a b) ≡ canonical (Seg c d) → max a b ≡ max c d
    second_point k = ap second k

module _ (facts : List Lit) (wanted : Option Lit) (values : Kind → Term → ℕ) (good : list_all is_well_formed facts ≡ true) (good_wanted : is_well_formed_metric wanted ≡ true)
    (solve : (which : Kind) → SatisfyNamed (values which) (system which facts wanted)) where
  abbrev firsts : Kind → List Term
  firsts which = first_terms [] (terms_of_system which facts wanted)

  facts_so : (which : Kind) → SatisfyNamed (values which) (rows_named Fact (of_kind which facts))
  facts_so which =
      (satisfy_split (values which) (rows_named Fact (of_kind which facts))
      (rows_named (λ l. Goal) (of_kind which (against_goal wanted)) ++ (flat_map (rows_of_term facts) (firsts which) ++ rows_of_kind which)) (solve which)).0

  after_facts : (which : Kind) → SatisfyNamed (values which) (rows_named (λ l. Goal) (of_kind which (against_goal wanted)) ++ (flat_map (rows_of_term facts) (firsts which) ++ rows_of_kind which))
  after_facts which =
      (satisfy_split (values which) (rows_named Fact (of_kind which facts))
      (rows_named (λ l. Goal) (of_kind which (against_goal wanted)) ++ (flat_map (rows_of_term facts) (firsts which) ++ rows_of_kind which)) (solve which)).1

  goal_rows_so : (which : Kind) → SatisfyNamed (values which) (rows_named (λ l. Goal) (of_kind which (against_goal wanted)))
  goal_rows_so which =
      (satisfy_split (values which) (rows_named (λ l. Goal) (of_kind which (against_goal wanted))) (flat_map (rows_of_term facts) (firsts which) ++ rows_of_kind which) (after_facts which)).0

  after_goal : (which : Kind) → SatisfyNamed (values which) (flat_map (rows_of_term facts) (firsts which)) × SatisfyNamed (values which) (rows_of_kind which)
  after_goal which =
      satisfy_split (values which) (flat_map (rows_of_term facts) (firsts which)) (rows_of_kind which)
      (satisfy_split (values which) (rows_named (λ l. Goal) (of_kind which (against_goal wanted))) (flat_map (rows_of_term facts) (firsts which) ++ rows_of_kind which) (after_facts which)).1

  abbrev all : Term → ℕ
  all = values_for_all (by_kind values)

  facts_true : all_hold all facts ≡ true
  facts_true = literals_true values Fact facts good facts_so

  wanted_false : wanted_fails all wanted ≡ true
  wanted_false = by wanted good_wanted (literals_true values (λ l. Goal) (against_goal wanted) (good_against wanted good_wanted) goal_rows_so)
    where
      by : (o : Option Lit) → is_well_formed_metric o ≡ true → all_hold all (against_goal o) ≡ true → wanted_fails all o ≡ true
      by None g h = refl
      by (Some l) g h = negation_fails l all (and_left (is_metric l) (is_well_formed l) g) (and_left (holds all (negation l)) true h)

  right_at_least : 1 ≤ all Right
  right_at_least = pos_is Right (values Angle) ((after_goal Angle).1).0

  -- the term that stands first for this one, and its rows
  own_rows : (t : Term) → is_among (terms_of_system (kind_of_term t) facts wanted) t ≡ true
      → (s : Term) × (canonical t ≡ canonical s) × SatisfyNamed (values (kind_of_term t)) (rows_of_term facts s)
  own_rows t a = elim (first_found [] (terms_of_system (kind_of_term t) facts wanted) t a) [
    | inl n ↦ absurd (true≢false (sym n))
    | inr m ↦ (m.0, one_term_is t m.0 m.2, satisfy_at (values (kind_of_term t)) (rows_of_term facts) (firsts (kind_of_term t)) m.0 (after_goal (kind_of_term t)).0 m.1)
  ]

  within_so : (t : Term) → is_among (terms_of_step facts wanted) t ≡ true → is_within all t ≡ true
  within_so (Seg a b) k = refl
  within_so (Area a b c) k = refl
  within_so Right k = le-leb 1 (all Right) right_at_least
  within_so (Ang a b c) k = elim (among_system facts wanted (Ang a b c) good good_wanted k) [
    | inl e ↦ absurd (true≢false (sym (equal_terms (Ang a b c) Right e)))
    | inr m ↦ (let own = own_rows (Ang a b c) m in by own.0 own.1 own.2)
  ]
    where
      by : (s : Term) → canonical (Ang a b c) ≡ canonical s → SatisfyNamed (values Angle) (rows_of_term facts s) → is_within all (Ang a b c) ≡ true
      by (Ang d e f) o h =
          le-leb (all (Ang a b c)) (2 * all Right) (subst (λ n. n ≤ 2 * all Right) (sym (carried_same (values Angle) (Ang a b c) (Ang d e f) o)) (top_is (Ang d e f) (values Angle) h.0))
      by (Seg d e) o h = absurd (true≢false (sym (equal_terms (canonical (Ang a b c)) (canonical (Seg d e)) o)))
      by (Area d e f) o h = absurd (true≢false (sym (equal_terms (canonical (Ang a b c)) (canonical (Area d e f)) o)))
      by Right o h = absurd (true≢false (sym (equal_terms (canonical (Ang a b c)) (canonical Right) o)))

  positive_so : (t : Term) → is_among (terms_of_step facts wanted) t ≡ true → is_positive_if_apart facts all t ≡ true
  positive_so (Ang a b c) k = refl
  positive_so (Area a b c) k = refl
  positive_so Right k = refl
  positive_so (Seg a b) k = at (are_apart facts a b) refl
    where
      rows_say : (s : Term) → canonical (Seg a b) ≡ canonical s → are_apart facts a b ≡ true → SatisfyNamed (values Segment) (rows_of_term facts s) → 1 ≤ all (Seg a b)
      rows_say (Seg d e) o far h =
          let row : SatisfyNamed (values Segment) (named_row (Pos (Seg d e)) (pos_row (Seg d e)) ∷ []) =
          subst (λ c. SatisfyNamed (values Segment) (cond c (named_row (Pos (Seg d e)) (pos_row (Seg d e)) ∷ []) [])) (apart_same facts a b d e o far) h in
          subst (λ n. 1 ≤ n) (sym (carried_same (values Segment) (Seg a b) (Seg d e) o)) (pos_is (Seg d e) (values Segment) row.0)
      rows_say (Ang d e f) o far h = absurd (true≢false (sym (equal_terms (canonical (Seg a b)) (canonical (Ang d e f)) o)))
      rows_say (Area d e f) o far h = absurd (true≢false (sym (equal_terms (canonical (Seg a b)) (canonical (Area d e f)) o)))
      rows_say Right o far h = absurd (true≢false (sym (equal_terms (canonical (Seg a b)) (canonical Right) o)))

      at : (c : Bool) → are_apart facts a b ≡ c → cond c (nat_le 1 (all (Seg a b))) true ≡ true
      at false e = refl
      at true e = elim (among_system facts wanted (Seg a b) good good_wanted k) [
        | inl n ↦ absurd (true≢false (sym (equal_terms (Seg a b) Right n)))
        | inr m ↦ (let own = own_rows (Seg a b) m in le-leb 1 (all (Seg a b)) (rows_say own.0 own.1 e own.2))
      ]

-- ---- assignments with these values at the terms of the step

all_of : (p : Term → Bool) (ts : List Term) → ((t : Term) → is_among ts t ≡ true → p t ≡ true) → list_all p ts ≡ true
all_of p [] h = refl
all_of p (t ∷ ts) h = and_from (p t) (list_all p ts) (h t (among_first t ts)) (all_of p ts (λ s a. h s (among_rest t ts s a)))

pub zero_so : (w : Term → ℕ) (t : Term) → is_zero_if_degenerate (values_for_all w) t ≡ true
zero_so w t = by (is_degenerate t)
  where
    by : (b : Bool) → cond b (cond b 0 (w (canonical t)) == 0) true ≡ true
    by true = refl
    by false = refl

agrees_so : (w v : Term → ℕ) (ts : List Term) (t : Term) → Agree ts v (values_for_all w) → is_among ts t ≡ true → agrees_with v ts t ≡ true
agrees_so w v ts t h a = all_of (λ s. cond (one_term t s) (v t == v s) true) ts (λ s k. by s k (one_term t s) refl)
  where
    by : (s : Term) → is_among ts s ≡ true → (b : Bool) → one_term t s ≡ b → cond b (v t == v s) true ≡ true
    by s k true e = eq-eqb (v t) (v s) (h t a ∙ carried_same w t s (one_term_is t s e) ∙ sym (h s k))
    by s k false e = refl

within_same : (v u : Term → ℕ) (t : Term) → v t ≡ u t → v Right ≡ u Right → is_within v t ≡ is_within u t
within_same v u (Seg a b) e r = refl
within_same v u (Ang a b c) e r = ap₂ {A = ℕ} {B = ℕ} (λ m n. nat_le m (2 * n)) e r
within_same v u (Area a b c) e r = refl
within_same v u Right e r = ap (nat_le 1) r

positive_same : (facts : List Lit) (v u : Term → ℕ) (t : Term) → v t ≡ u t → is_positive_if_apart facts v t ≡ is_positive_if_apart facts u t
positive_same facts v u (Seg a b) e = ap (λ n. cond (are_apart facts a b) (nat_le 1 n) true) e
positive_same facts v u (Ang a b c) e = refl
positive_same facts v u (Area a b c) e = refl
positive_same facts v u Right e = refl

-- an assignment that has the values of the solutions at the terms of the step is a counterexample
pub counterexample_of : (facts : List Lit) (wanted : Option Lit) (values : Kind → Term → ℕ) (v : Term → ℕ)
    → list_all is_well_formed facts ≡ true → is_well_formed_metric wanted ≡ true
    → ((which : Kind) → Satisfy (values which) (rows_of_system which facts wanted))
    → Agree (terms_of_step facts wanted) v (values_for_all (by_kind values)) → IsCounterexample facts wanted v
counterexample_of facts wanted values v good good_wanted solve agree =
    let ts = terms_of_step facts wanted in
    let u = values_for_all (by_kind values) in
    let right : v Right ≡ u Right = agree Right (among_first Right (terms_of_lits facts ++ terms_of_wanted wanted)) in
    record {
      is_admissible = all_of (λ t. is_within v t && (is_zero_if_degenerate v t && (is_positive_if_apart facts v t && agrees_with v ts t))) ts (λ t a.
          and_from (is_within v t) (is_zero_if_degenerate v t && (is_positive_if_apart facts v t && agrees_with v ts t))
          (within_same v u t (agree t a) right ∙ within_so facts wanted values good good_wanted solve t a)
          (and_from (is_zero_if_degenerate v t) (is_positive_if_apart facts v t && agrees_with v ts t)
          (ap (λ n. cond (is_degenerate t) (n == 0) true) (agree t a) ∙ zero_so (by_kind values) t)
          (and_from (is_positive_if_apart facts v t) (agrees_with v ts t)
          (positive_same facts v u t (agree t a) ∙ positive_so facts wanted values good good_wanted solve t a)
          (agrees_so (by_kind values) v ts t agree a))));
      facts_hold = all_hold_agrees facts v u (λ t a. agree t (among_facts facts wanted t a)) ∙ facts_true facts wanted values good good_wanted solve;
      wanted_fails = fails_agrees wanted v u (λ t a. agree t (among_wanted facts wanted t a)) ∙ wanted_false facts wanted values good good_wanted solve;
    }

pub solutions_refute : SolutionsRefute
solutions_refute facts wanted values good good_wanted solve = counterexample_of facts wanted values (values_for_all (by_kind values)) good good_wanted solve (λ t a. refl)
