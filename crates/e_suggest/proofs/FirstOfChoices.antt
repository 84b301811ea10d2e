-- The first choices are a front of the list of all.
use Rattle.std.proofs.Common.{◌≡◌, ◌⊎◌, ℕ, zero, suc, ◌≤◌, List, [], ◌∷◌, length, take, refl, sym, ap, ap₂, ◌∙◌, subst, arith, Bool, true, false, ltb, eqb, ◌&&◌, true≢false, inl, inr, eqb-true}
use Rattle.std.specs.Prelude.{Contains, nat_lt}
use Rattle.std.specs.List.{list_all}
use Rattle.std.proofs.lemmas.Bool.{ltb-true, lt-ltb, le-ltb, or_cases, cases_lt}
use Rattle.e_literal.specs.declared.object.Obj.{Obj}
use Rattle.e_literal.proofs.Booleans.{and_left, and_right}
use Rattle.e_theorem.specs.Choice.{is_below, IsAllowedChoice}
use Rattle.e_licence.specs.ChoicesInOrder.{is_ascending, is_above}
use Rattle.e_suggest.specs.Laws.{FirstOfChoices}
use Rattle.e_suggest.specs.Suggestions.{blanks}

-- ---- the order of choices

not_less_itself : (n : ℕ) → ltb n n ≡ true → ⊥
not_less_itself n h = let k = ltb-true n n h in omega (arith, k)

not_below_itself : (args : List Obj) → is_below args args ≡ true → ⊥
not_below_itself [] h = true≢false (sym h)
not_below_itself (a ∷ args) h =
    elim (or_cases (ltb a.num a.num) (eqb a.num a.num && is_below args args) h) [
      | inl less ↦ not_less_itself a.num less
      | inr both ↦ not_below_itself args (and_right (eqb a.num a.num) (is_below args args) both)
    ]

-- of two choices one at most is below the other
not_both_below : (xs ys : List Obj) → is_below xs ys ≡ true → is_below ys xs ≡ true → ⊥
not_both_below [] ys h k = true≢false (sym h)
not_both_below (x ∷ xs) [] h k = true≢false (sym h)
not_both_below (x ∷ xs) (y ∷ ys) h k =
    elim (or_cases (ltb x.num y.num) (eqb x.num y.num && is_below xs ys) h) [
      | inl less ↦
          let a = ltb-true x.num y.num less in
          elim (or_cases (ltb y.num x.num) (eqb y.num x.num && is_below ys xs) k) [
            | inl more ↦ let b = ltb-true y.num x.num more in omega (arith, a, b)
            | inr both ↦ let b = eqb-true y.num x.num (and_left (eqb y.num x.num) _ both) in omega (arith, a, b)
          ]
      | inr both ↦
          let a = eqb-true x.num y.num (and_left (eqb x.num y.num) _ both) in
          elim (or_cases (ltb y.num x.num) (eqb y.num x.num && is_below ys xs) k) [
            | inl more ↦ let b = ltb-true y.num x.num more in omega (arith, a, b)
            | inr others ↦ not_both_below xs ys (and_right (eqb x.num y.num) _ both) (and_right (eqb y.num x.num) _ others)
          ]
    ]

-- ---- lists of choices

contains_first : (c : List Obj) (cs : List (List Obj)) → Contains (c ∷ cs) c
contains_first c cs = (0, omega arith, refl)

contains_more : (x c : List Obj) (cs : List (List Obj)) → Contains cs x → Contains (c ∷ cs) x
contains_more x c cs h = (suc h.0, omega (arith, h.1), h.2)

contains_none : (x : List Obj) → Contains [] x → ⊥
contains_none x h = omega (arith, h.1)

-- it is the first of them or one of the others
contains_cases : (x c : List Obj) (cs : List (List Obj)) → Contains (c ∷ cs) x → (c ≡ x) ⊎ Contains cs x
contains_cases x c cs (zero, less, is) = inl is
contains_cases x c cs (suc k, less, is) = inr (k, omega (arith, less), is)

-- what holds of all in a list holds of each
all_at : (p : List Obj → Bool) (xs : List (List Obj)) (x : List Obj) → list_all p xs ≡ true → Contains xs x → p x ≡ true
all_at p [] x h there = absurd (contains_none x there)
all_at p (y ∷ ys) x h there =
    elim (contains_cases x y ys there) [
      | inl is ↦ subst (λ (z : List Obj). p z ≡ true) is (and_left (p y) (list_all p ys) h)
      | inr later ↦ all_at p ys x (and_right (p y) (list_all p ys) h) later
    ]

-- ---- a list of all that a predicate holds of, in order, and the first of them

record IsAll (P : List Obj → Type 0) (list : List (List Obj)) : Type 0 where
  good : (x : List Obj) → Contains list x → P x
  ascending : is_ascending list ≡ true
  all : (x : List Obj) → P x → Contains list x

record IsFront (P : List Obj → Type 0) (most : ℕ) (list : List (List Obj)) (more : Bool) : Type 0 where
  good : (x : List Obj) → Contains list x → P x
  ascending : is_ascending list ≡ true
  few : length list ≤ most
  none_missing : (x : List Obj) → P x → Contains list x ⊎ ((more ≡ true) × (is_above list x ≡ true))
  next : more ≡ true → (length list ≡ most) × ((x : List Obj) × P x × (is_above list x ≡ true))

-- of the same they begin with the same choice
same_first : (P : List Obj → Type 0) (most : ℕ) (c d : List Obj) (cs ds : List (List Obj)) (more : Bool) → IsAll P (d ∷ ds) → IsFront P most (c ∷ cs) more → c ≡ d
same_first P most c d cs ds more a f =
    elim (contains_cases c d ds (a.all c (f.good c (contains_first c cs)))) [
      | inl is ↦ sym is
      | inr later ↦ absurd (not_later (all_at (is_below d) ds c (and_left (list_all (is_below d) ds) _ a.ascending) later))
    ]
  where
    not_later : is_below d c ≡ true → ⊥
    not_later less =
        elim (f.none_missing d (a.good d (contains_first d ds))) [
          | inl there ↦
              elim (contains_cases d c cs there) [
                | inl is ↦ not_below_itself d (subst (λ (x : List Obj). is_below d x ≡ true) is less)
                | inr later ↦ not_both_below d c less (all_at (is_below c) cs d (and_left (list_all (is_below c) cs) _ f.ascending) later)
              ]
          | inr both ↦ not_both_below d c less (and_left (is_below c d) _ both.1)
        ]

-- after the first one, of those that it holds of and that are above that one
abbrev After : (List Obj → Type 0) → List Obj → List Obj → Type 0
After P c x = P x × (is_below c x ≡ true)

rest_all : (P : List Obj → Type 0) (d : List Obj) (ds : List (List Obj)) → IsAll P (d ∷ ds) → IsAll (After P d) ds
rest_all P d ds a =
    record {
      good = λ x there. (a.good x (contains_more x d ds there), all_at (is_below d) ds x (and_left (list_all (is_below d) ds) _ a.ascending) there);
      ascending = and_right (list_all (is_below d) ds) _ a.ascending;
      all = λ x h.
          elim (contains_cases x d ds (a.all x h.0)) [
            | inl is ↦ absurd (not_below_itself d (subst (λ (y : List Obj). is_below d y ≡ true) (sym is) h.1))
            | inr later ↦ later
          ];
    }

rest_front : (P : List Obj → Type 0) (most : ℕ) (c : List Obj) (cs : List (List Obj)) (more : Bool) → IsFront P (suc most) (c ∷ cs) more → IsFront (After P c) most cs more
rest_front P most c cs more f =
    record {
      good = λ x there. (f.good x (contains_more x c cs there), all_at (is_below c) cs x (and_left (list_all (is_below c) cs) _ f.ascending) there);
      ascending = and_right (list_all (is_below c) cs) _ f.ascending;
      few = omega (arith, f.few);
      none_missing = λ x h. missing x h (f.none_missing x h.0);
      next = λ there_are. let n = f.next there_are in (omega (arith, n.0), (n.1.0, (n.1.1, and_left (is_below c n.1.0) _ n.1.2), and_right (is_below c n.1.0) _ n.1.2));
    }
  where
    missing : (x : List Obj) → After P c x → Contains (c ∷ cs) x ⊎ ((more ≡ true) × (is_above (c ∷ cs) x ≡ true)) → Contains cs x ⊎ ((more ≡ true) × (is_above cs x ≡ true))
    missing x h (inl there) =
        elim (contains_cases x c cs there) [
          | inl is ↦ absurd (not_below_itself c (subst (λ (y : List Obj). is_below c y ≡ true) (sym is) h.1))
          | inr later ↦ inl later
        ]
    missing x h (inr both) = inr (both.0, and_right (is_below c x) _ both.1)

abbrev none : List (List Obj)
none = []

none_of : (n : ℕ) → none ≡ take n none
none_of zero = refl
none_of (suc n) = refl

one_more : (m n : ℕ) → ltb m n ≡ ltb (suc m) (suc n)
one_more m n =
    elim (cases_lt m n) [
      | inl less ↦ lt-ltb m n less ∙ sym (lt-ltb (suc m) (suc n) (omega (arith, less)))
      | inr most ↦ le-ltb m n most ∙ sym (le-ltb (suc m) (suc n) (omega (arith, most)))
    ]

-- so the one is a front of the other
front_of_all : (P : List Obj → Type 0) (most : ℕ) (all list : List (List Obj)) (more : Bool) → IsAll P all → IsFront P most list more → (list ≡ take most all) × (more ≡ nat_lt most (length all))
front_of_all P most [] [] more a f = (none_of most, no_more more (λ h. contains_none (f.next h).1.0 (a.all (f.next h).1.0 (f.next h).1.1)))
  where
    no_more : (b : Bool) → (b ≡ true → ⊥) → b ≡ nat_lt most 0
    no_more true h = absurd (h refl)
    no_more false h = sym (le-ltb most 0 (omega arith))
front_of_all P most (d ∷ ds) [] more a f =
    elim (f.none_missing d (a.good d (contains_first d ds))) [
      | inl there ↦ absurd (contains_none d there)
      | inr both ↦
          let e : 0 ≡ most = (f.next both.0).0 in
          (ap (λ n. take n (d ∷ ds)) e, both.0 ∙ sym (lt-ltb most (length (d ∷ ds)) (omega (arith, e))))
    ]
front_of_all P most [] (c ∷ cs) more a f = absurd (contains_none c (a.all c (f.good c (contains_first c cs))))
front_of_all P zero (d ∷ ds) (c ∷ cs) more a f = absurd (omega (arith, f.few))
front_of_all P (suc most) (d ∷ ds) (c ∷ cs) more a f =
    let is = same_first P (suc most) c d cs ds more a f in
    let rest = front_of_all (After P d) most ds cs more (rest_all P d ds a) (subst (λ (x : List Obj). IsFront (After P x) most cs more) is (rest_front P most c cs more f)) in
    (ap₂ (λ x xs. x ∷ xs) is rest.0, rest.1 ∙ one_more most (length ds))

pub first_of_choices : FirstOfChoices
first_of_choices t scope facts all most choices more a f =
    front_of_all (IsAllowedChoice t scope facts (blanks t)) most all choices more
    (record { good = a.good; ascending = a.ascending; all = a.all })
    (record {
      good = f.good;
      ascending = f.ascending;
      few = f.few;
      none_missing = f.none_missing;
      next = λ there_are. let n = f.next there_are in (n.0, (n.1.args, n.1.good, n.1.above));
    })
