-- Where a literal is allowed, one that is the same is allowed too: unless it is written with a
-- segment from a point to itself, for which there may be no value.
use Rattle.std.proofs.Common.{◌≡◌, ℕ, ◌+◌, ◌*◌, ◌≤◌, List, [], ◌∷◌, ◌++◌, map, refl, sym, ap, ap₂, ◌∙◌, subst, arith, Some, None, Bool, true, false, not, cond, ◌&&◌, ◌||◌, ◌==◌, eqb, eq-eqb, true≢false, ◌⊎◌, inl, inr, min, max, le-leb, eqb-true}
use Rattle.std.specs.Prelude.{filter, nat_le}
use Rattle.std.specs.List.{list_all, list_any}
use Rattle.std.proofs.lemmas.List.{map-append}
use Rattle.std.proofs.lemmas.Bool.{and_from, or_left, or_right, or_cases, cases_Bool}
use Rattle.e_literal.specs.declared.object.Mono.{Mono}
use Rattle.e_literal.specs.declared.object.Scope.{Scope}
use Rattle.e_literal.specs.declared.object.Term.{Term}
use Rattle.e_literal.specs.declared.object.Term.TheVariants.{Seg, Ang, Area, Right}
use Rattle.e_literal.specs.declared.literal.Lit.{Lit}
use Rattle.e_literal.specs.declared.literal.Atom.{Atom}
use Rattle.e_literal.specs.declared.literal.Atom.TheVariants.{On, OnC, Inside, Center, Between, Same, MeetLL, MeetLC, MeetCC, EqP, EqL, EqC, MagEq, MagLt}
use Rattle.e_literal.specs.Literal.{negation}
use Rattle.e_literal.specs.Same.{canonical, term_eq, one_term, same_lit, same_atom, same_neg}
use Rattle.e_literal.specs.Width.{is_among}
use Rattle.e_literal.specs.Truth.{holds, all_hold}
use Rattle.e_literal.specs.Facts.{has, others, is_metric, are_apart, are_equal_points}
use Rattle.e_literal.specs.Rows.{is_degenerate, has_term}
use Rattle.e_literal.specs.Solution.{values_for_all}
use Rattle.e_literal.proofs.Terms.{term_eq_is, equal_terms, among_left, among_right, among_either, among_first, among_rest}
use Rattle.e_literal.proofs.CanonicalTerms.{canonical_twice, one_term_is, one_term_of}
use Rattle.e_literal.proofs.NormalLiterals.{normals_are_same}
use Rattle.e_literal.proofs.Valued.{holds_same}
use Rattle.e_literal.proofs.Booleans.{and_left, and_right, or_not_left, or_not_right, same_bool, eqb_self}
use Rattle.e_clause.specs.Allowed.{Allowed}
use Rattle.e_clause.specs.Assignment.{terms_of_atom, terms_of_lits, terms_of_step, is_within, is_zero_if_degenerate, is_positive_if_apart, agrees_with, is_admissible_over}
use Rattle.e_clause.specs.Metric.{MetricConsequence}
use Rattle.e_clause.specs.Transfer.{TransferConsequence, NegationsStand}
use Rattle.e_clause.proofs.Spread.{Agree, terms_of_sum, spread, spread_agrees, holds_agrees, all_hold_agrees, among_facts, among_wanted, all_among}
use Rattle.e_clause.proofs.Carried.{carried_same, zero_so}
use Rattle.e_licence.specs.Verdicts.{is_loop, has_loop}

-- ---- what is the same

pub turned : (x y : Lit) → same_lit x y ≡ true → same_lit y x ≡ true
turned x y h = (normals_are_same y x).0 (sym ((normals_are_same x y).1 h))

along : (x y z : Lit) → same_lit x y ≡ true → same_lit y z ≡ true → same_lit x z ≡ true
along x y z h k = (normals_are_same x z).0 ((normals_are_same x y).1 h ∙ (normals_are_same y z).1 k)

as_either : (m l x : Lit) → same_lit l x ≡ true → same_lit m l ≡ same_lit m x
as_either m l x e = same_bool (same_lit m l) (same_lit m x) (λ h. along m l x h e) (λ h. along m x l h (turned l x e))

has_either : (ls : List Lit) (l x : Lit) → same_lit l x ≡ true → has ls l ≡ has ls x
has_either [] l x e = refl
has_either (m ∷ ms) l x e = ap₂ {A = Bool} {B = Bool} (λ a b. a || b) (as_either m l x e) (has_either ms l x e)

others_either : (ls : List Lit) (l x : Lit) → same_lit l x ≡ true → others ls l ≡ others ls x
others_either [] l x e = refl
others_either (m ∷ ms) l x e =
    ap₂ {A = Bool} {B = List Lit} (λ b rest. cond (not b) (m ∷ rest) rest) (as_either m l x e) (others_either ms l x e)

-- ---- values of the terms of a step, for all terms: a segment that is not among them has 1, and what else is not has 0

abbrev alone : Term → ℕ
alone (Seg a b) = 1
alone _ = 0

abbrev values : (Term → ℕ) → List Term → Term → ℕ
values v ts t = cond (has_term ts t) (spread v ts t) (alone t)

among_has : (ts : List Term) (t : Term) → is_among ts t ≡ true → has_term ts (canonical t) ≡ true
among_has [] t a = absurd (true≢false (sym a))
among_has (s ∷ ss) t a = elim (or_cases (term_eq t s) (is_among ss t) a) [
  | inl e ↦ or_left (one_term (canonical t) s) (has_term ss (canonical t)) (one_term_of (canonical t) s (canonical_twice t ∙ ap canonical (term_eq_is t s e)))
  | inr b ↦ or_right (one_term (canonical t) s) (has_term ss (canonical t)) (among_has ss t b)
]

-- a term that is one term with this one
has_one : (ts : List Term) (t : Term) → has_term ts (canonical t) ≡ true → (s : Term) × (is_among ts s ≡ true) × (canonical t ≡ canonical s)
has_one [] t h = absurd (true≢false (sym h))
has_one (s ∷ ss) t h = elim (or_cases (one_term (canonical t) s) (has_term ss (canonical t)) h) [
  | inl e ↦ (s, among_first s ss, sym (canonical_twice t) ∙ one_term_is (canonical t) s e)
  | inr b ↦ (let k = has_one ss t b in (k.0, among_rest s ss k.0 k.1, k.2))
]

all_of : (p : Term → Bool) (ts : List Term) → ((t : Term) → is_among ts t ≡ true → p t ≡ true) → list_all p ts ≡ true
all_of p [] h = refl
all_of p (t ∷ ts) h = and_from (p t) (list_all p ts) (h t (among_first t ts)) (all_of p ts (λ s a. h s (among_rest t ts s a)))

-- two points in one order or the other
turned_points : (a b c d : ℕ) → min a b ≡ min c d → max a b ≡ max c d → ((a ≡ c) × (b ≡ d)) ⊎ ((a ≡ d) × (b ≡ c))
turned_points a b c d h g = elim (cases_Bool (eqb a c)) [
  | inl e ↦ inl (eqb-true a c e, omega (arith, eqb-true a c e, h, g))
  | inr n ↦ (let k : (a ≡ c) → ⊥ = λ e. true≢false (sym (eq-eqb a c e) ∙ n) in inr (omega (arith, k, h, g), omega (arith, k, h, g)))
]

apart_turned : (facts : List Lit) (a b : ℕ) → are_apart facts a b ≡ true → are_apart facts b a ≡ true
apart_turned facts a b h =
    let here = has facts (negation (are_equal_points a b)) in
    let there = has facts (negation (are_equal_points b a)) in
    elim (or_cases here (there || false) h) [
      | inl e ↦ or_right there (here || false) (or_left here false e)
      | inr k ↦ elim (or_cases there false k) [
        | inl e ↦ or_left there (here || false) e
        | inr n ↦ absurd (true≢false (sym n))
      ]
    ]

apart_same : (facts : List Lit) (a b c d : ℕ) → canonical (Seg a b) ≡ canonical (Seg c d) → are_apart facts a b ≡ true → are_apart facts c d ≡ true
apart_same facts a b c d e h =
    elim (turned_points a b c d (ap first e) (ap second e)) [
      | inl k ↦ subst (λ m. are_apart facts m d ≡ true) k.0 (subst (λ m. are_apart facts a m ≡ true) k.1 h)
      | inr k ↦ subst (λ m. are_apart facts m d ≡ true) k.1 (subst (λ m. are_apart facts b m ≡ true) k.0 (apart_turned facts a b h))
    ]
  where
    first : Term → ℕ
    first (Seg m n) = m
    first _ = 0

    second : Term → ℕ
    second (Seg m n) = n
    second _ = 0

-- ---- they are admissible for any literal without a segment from a point to itself

abbrev is_admissible_at : List Lit → List Term → (Term → ℕ) → Term → Bool
is_admissible_at facts ts v t = is_within v t && (is_zero_if_degenerate v t && (is_positive_if_apart facts v t && agrees_with v ts t))

module _ (facts : List Lit) (ts : List Term) (v : Term → ℕ) (good : is_admissible_over facts ts v ≡ true) (right : is_among ts Right ≡ true) where
  abbrev all : Term → ℕ
  all = values_for_all (values v ts)

  at_step : Agree ts v all
  at_step t a =
      spread_agrees facts ts v good t a
      ∙ ap (λ n. cond (is_degenerate t) 0 n) (sym (ap (λ b. cond b (spread v ts (canonical t)) (alone (canonical t))) (among_has ts t a)))

  -- a term that is one term with one of the step has its value
  as_one : (t s : Term) → is_among ts s ≡ true → canonical t ≡ canonical s → all t ≡ v s
  as_one t s a e = carried_same (values v ts) t s e ∙ sym (at_step s a)

  good_at : (t : Term) → is_among ts t ≡ true → is_admissible_at facts ts v t ≡ true
  good_at t a = all_among (is_admissible_at facts ts v) ts t good a

  within_at : (t : Term) → is_among ts t ≡ true → is_within v t ≡ true
  within_at t a = and_left (is_within v t) (is_zero_if_degenerate v t && (is_positive_if_apart facts v t && agrees_with v ts t)) (good_at t a)

  positive_at : (t : Term) → is_among ts t ≡ true → is_positive_if_apart facts v t ≡ true
  positive_at t a =
      and_left (is_positive_if_apart facts v t) (agrees_with v ts t) (and_right (is_zero_if_degenerate v t) (is_positive_if_apart facts v t && agrees_with v ts t)
      (and_right (is_within v t) (is_zero_if_degenerate v t && (is_positive_if_apart facts v t && agrees_with v ts t)) (good_at t a)))

  -- a term that is one term with none of the step
  as_none : (t : Term) → is_degenerate t ≡ false → has_term ts (canonical t) ≡ false → all t ≡ alone (canonical t)
  as_none t d n =
      ap (λ b. cond b 0 (values v ts (canonical t))) d ∙ ap (λ b. cond b (spread v ts (canonical t)) (alone (canonical t))) n

  within : (t : Term) → is_within all t ≡ true
  within (Seg a b) = refl
  within (Area a b c) = refl
  within Right = ap (nat_le 1) (sym (at_step Right right)) ∙ within_at Right right
  within (Ang a b c) = elim (cases_Bool (has_term ts (canonical (Ang a b c)))) [
    | inl h ↦ (let one = has_one ts (Ang a b c) h in by one.0 one.1 one.2)
    | inr n ↦ ap (λ m. nat_le m (2 * all Right)) (as_none (Ang a b c) refl n) ∙ le-leb 0 (2 * all Right) (omega arith)
  ]
    where
      by : (s : Term) → is_among ts s ≡ true → canonical (Ang a b c) ≡ canonical s → is_within all (Ang a b c) ≡ true
      by (Ang d e f) k o =
          ap₂ {A = ℕ} {B = ℕ} (λ m n. nat_le m (2 * n)) (as_one (Ang a b c) (Ang d e f) k o) (sym (at_step Right right)) ∙ within_at (Ang d e f) k
      by (Seg d e) k o = absurd (true≢false (sym (equal_terms (canonical (Ang a b c)) (canonical (Seg d e)) o)))
      by (Area d e f) k o = absurd (true≢false (sym (equal_terms (canonical (Ang a b c)) (canonical (Area d e f)) o)))
      by Right k o = absurd (true≢false (sym (equal_terms (canonical (Ang a b c)) (canonical Right) o)))

  positive : (t : Term) → (is_loop t ≡ false) ⊎ (is_among ts t ≡ true) → is_positive_if_apart facts all t ≡ true
  positive (Ang a b c) h = refl
  positive (Area a b c) h = refl
  positive Right h = refl
  positive (Seg a b) h = at (are_apart facts a b) refl
    where
      by : (s : Term) → is_among ts s ≡ true → canonical (Seg a b) ≡ canonical s → are_apart facts a b ≡ true → nat_le 1 (all (Seg a b)) ≡ true
      by (Seg d e) k o far =
          ap (nat_le 1) (as_one (Seg a b) (Seg d e) k o)
          ∙ sym (ap (λ c. cond c (nat_le 1 (v (Seg d e))) true) (apart_same facts a b d e o far)) ∙ positive_at (Seg d e) k
      by (Ang d e f) k o far = absurd (true≢false (sym (equal_terms (canonical (Seg a b)) (canonical (Ang d e f)) o)))
      by (Area d e f) k o far = absurd (true≢false (sym (equal_terms (canonical (Seg a b)) (canonical (Area d e f)) o)))
      by Right k o far = absurd (true≢false (sym (equal_terms (canonical (Seg a b)) (canonical Right) o)))

      none : (is_loop (Seg a b) ≡ false) ⊎ (is_among ts (Seg a b) ≡ true) → has_term ts (canonical (Seg a b)) ≡ false → nat_le 1 (all (Seg a b)) ≡ true
      none (inl d) n = ap (nat_le 1) (as_none (Seg a b) d n)
      none (inr a') n = absurd (true≢false (sym (among_has ts (Seg a b) a') ∙ n))

      at : (c : Bool) → are_apart facts a b ≡ c → cond c (nat_le 1 (all (Seg a b))) true ≡ true
      at false e = refl
      at true e = elim (cases_Bool (has_term ts (canonical (Seg a b)))) [
        | inl k ↦ (let one = has_one ts (Seg a b) k in by one.0 one.1 one.2 e)
        | inr n ↦ none h n
      ]

  agrees : (more : List Term) (t : Term) → agrees_with all more t ≡ true
  agrees more t = all_of (λ s. cond (one_term t s) (all t == all s) true) more (λ s k. by s (one_term t s) refl)
    where
      by : (s : Term) (b : Bool) → one_term t s ≡ b → cond b (all t == all s) true ≡ true
      by s true e = eq-eqb (all t) (all s) (carried_same (values v ts) t s (one_term_is t s e))
      by s false e = refl

  admissible : (more : List Term) → ((t : Term) → is_among more t ≡ true → (is_loop t ≡ false) ⊎ (is_among ts t ≡ true)) → is_admissible_over facts more all ≡ true
  admissible more h =
      all_of (is_admissible_at facts more all) more (λ t a.
      and_from (is_within all t) (is_zero_if_degenerate all t && (is_positive_if_apart facts all t && agrees_with all more t)) (within t)
      (and_from (is_zero_if_degenerate all t) (is_positive_if_apart facts all t && agrees_with all more t) (zero_so (values v ts) t)
      (and_from (is_positive_if_apart facts all t) (agrees_with all more t) (positive t (h t a)) (agrees more t))))

-- ---- the terms of a literal

loops_none : (ms : List Mono) (t : Term) → list_any (λ (m : Mono). is_loop m.term) ms ≡ false → is_among (terms_of_sum ms) t ≡ true → is_loop t ≡ false
loops_none [] t h a = absurd (true≢false (sym a))
loops_none (m ∷ ms) t h a = elim (or_cases (term_eq t m.term) (is_among (terms_of_sum ms) t) a) [
  | inl e ↦ ap is_loop (term_eq_is t m.term e) ∙ or_not_left (is_loop m.term) (list_any (λ (n : Mono). is_loop n.term) ms) h
  | inr b ↦ loops_none ms t (or_not_right (is_loop m.term) (list_any (λ (n : Mono). is_loop n.term) ms) h) b
]

sums_none : (x y : List Mono) (t : Term) → (list_any (λ (m : Mono). is_loop m.term) x || list_any (λ (m : Mono). is_loop m.term) y) ≡ false
    → is_among (terms_of_sum (x ++ y)) t ≡ true → is_loop t ≡ false
sums_none x y t h a =
    let left = list_any (λ (m : Mono). is_loop m.term) x in
    let right = list_any (λ (m : Mono). is_loop m.term) y in
    elim (among_either (terms_of_sum x) (terms_of_sum y) t (subst (λ ts. is_among ts t ≡ true) (map-append (λ (m : Mono). m.term) x y) a)) [
      | inl k ↦ loops_none x t (or_not_left left right h) k
      | inr k ↦ loops_none y t (or_not_right left right h) k
    ]

atom_none : (a : Atom) (t : Term) → has_loop a ≡ false → is_among (terms_of_atom a) t ≡ true → is_loop t ≡ false
atom_none (MagEq x y) t h k = sums_none x y t h k
atom_none (MagLt x y) t h k = sums_none x y t h k
atom_none (On x y) t h k = absurd (true≢false (sym k))
atom_none (OnC x y) t h k = absurd (true≢false (sym k))
atom_none (Inside x y) t h k = absurd (true≢false (sym k))
atom_none (Center x y) t h k = absurd (true≢false (sym k))
atom_none (Between x y z) t h k = absurd (true≢false (sym k))
atom_none (Same x y z) t h k = absurd (true≢false (sym k))
atom_none (MeetLL x y) t h k = absurd (true≢false (sym k))
atom_none (MeetLC x y) t h k = absurd (true≢false (sym k))
atom_none (MeetCC x y) t h k = absurd (true≢false (sym k))
atom_none (EqP x y) t h k = absurd (true≢false (sym k))
atom_none (EqL x y) t h k = absurd (true≢false (sym k))
atom_none (EqC x y) t h k = absurd (true≢false (sym k))

-- ---- consequences

follows_same : (facts : List Lit) (l x : Lit) → same_lit l x ≡ true → is_metric x ≡ true → has_loop l.atom ≡ false → MetricConsequence facts l → MetricConsequence facts x
follows_same facts l x e m none c = record {
  is_metric = m;
  follows = λ v good hold.
      let ts = terms_of_step facts (Some x) in
      let right : is_among ts Right ≡ true = among_first Right (terms_of_lits facts ++ terms_of_atom x.atom) in
      let agree : Agree ts v (values_for_all (values v ts)) = at_step facts ts v good right in
      let facts_hold = sym (all_hold_agrees facts v (values_for_all (values v ts)) (λ t a. agree t (among_facts facts (Some x) t a))) ∙ hold in
      let known : (t : Term) → is_among (terms_of_step facts (Some l)) t ≡ true → (is_loop t ≡ false) ⊎ (is_among ts t ≡ true) =
      λ t a. elim (or_cases (term_eq t Right) (is_among (terms_of_lits facts ++ terms_of_atom l.atom) t) a) [
        | inl k ↦ inr (subst (λ s. is_among ts s ≡ true) (sym (term_eq_is t Right k)) right)
        | inr k ↦ elim (among_either (terms_of_lits facts) (terms_of_atom l.atom) t k) [
          | inl b ↦ inr (among_facts facts (Some x) t b)
          | inr b ↦ inl (atom_none l.atom t none b)
        ]
      ] in
      holds_agrees x v (values_for_all (values v ts)) (λ t a. agree t (among_wanted facts (Some x) t a))
      ∙ holds_same l x (values v ts) e (c.follows (values_for_all (values v ts)) (admissible facts ts v good right (terms_of_step facts (Some l)) known) facts_hold);
}

metric_same : (l x : Lit) → same_lit l x ≡ true → is_metric l ≡ true → is_metric x ≡ true
metric_same l x e m = by l.atom x.atom (and_right (same_neg l.neg x.neg) (same_atom l.atom x.atom) e) m
  where
    by : (a b : Atom) → same_atom a b ≡ true → is_metric (record { neg = l.neg; atom = a }) ≡ true → is_metric (record { neg = x.neg; atom = b }) ≡ true
    by (MagEq p q) (MagEq r s) h k = refl
    by (MagLt p q) (MagLt r s) h k = refl
    by (MagEq p q) b h k = absurd (true≢false (sym h))
    by (MagLt p q) b h k = absurd (true≢false (sym h))
    by a b h k = absurd (true≢false (sym k))

pub allowed_same : (scope : Scope) (facts : List Lit) (l x : Lit) → same_lit l x ≡ true → has_loop l.atom ≡ false → Allowed scope facts l → Allowed scope facts x
allowed_same scope facts l x e none (inl h) = inl (sym (has_either facts l x e) ∙ h)
allowed_same scope facts l x e none (inr (inl c)) = inr (inl (follows_same facts l x e (metric_same l x e c.is_metric) none c))
allowed_same scope facts l x e none (inr (inr c)) = inr (inr (record {
  lits = c.lits;
  of = record {
    rule = c.of.rule;
    is_transfer = c.of.is_transfer;
    args = c.of.args;
    over_scope = c.of.over_scope;
    instance = c.of.instance;
    is_one = sym (has_either c.lits l x e) ∙ c.of.is_one;
  };
  rest = subst (NegationsStand facts) (others_either c.lits l x e) c.rest;
}))
