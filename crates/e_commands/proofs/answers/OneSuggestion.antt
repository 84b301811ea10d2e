-- What is suggested at a step is one.
use Rattle.std.proofs.Common.{◌≡◌, ◌⊎◌, inl, inr, ℕ, zero, suc, ◌≤◌, List, [], ◌∷◌, length, Bool, true, false, true≢false, ltb, eqb, ◌&&◌, refl, sym, ap₂, subst, arith, eqb-true}
use Rattle.std.specs.Prelude.{Contains}
use Rattle.std.specs.List.{list_all}
use Rattle.std.proofs.lemmas.Bool.{ltb-true, or_cases}
use Rattle.e_literal.specs.declared.object.Obj.{Obj}
use Rattle.e_literal.specs.declared.object.Scope.{Scope}
use Rattle.e_literal.specs.declared.literal.Lit.{Lit}
use Rattle.e_literal.proofs.Booleans.{and_left, and_right}
use Rattle.e_theorem.specs.Choice.{is_below}
use Rattle.e_names.specs.TitledStatements.{TitledStatement}
use Rattle.e_commands.specs.SuggesterAnswers.{Application, MayApply, precedes, is_in_order, is_later, AreFirstApplications}
use Rattle.e_commands.proofs.answers.SuggestedLines.{contains_none, contains_first, contains_more, contains_cases}

-- ---- of two applications one at most precedes the other

not_both_below : (xs ys : List Obj) → is_below xs ys ≡ true → is_below ys xs ≡ true → ⊥
not_both_below [] ys h k = true≢false (sym h)
not_both_below (x ∷ xs) [] h k = true≢false (sym h)
not_both_below (x ∷ xs) (y ∷ ys) h k =
    elim (or_cases (ltb x.num y.num) (eqb x.num y.num && is_below xs ys) h) [
      | inl less ↦
          let a = ltb-true x.num y.num less in
          elim (or_cases (ltb y.num x.num) (eqb y.num x.num && is_below ys xs) k) [
            | inl more ↦ let b = ltb-true y.num x.num more in omega (arith, a, b)
            | inr both ↦ let b = eqb-true y.num x.num (and_left (eqb y.num x.num) _ both) in omega (arith, a, b)
          ]
      | inr both ↦
          let a = eqb-true x.num y.num (and_left (eqb x.num y.num) _ both) in
          elim (or_cases (ltb y.num x.num) (eqb y.num x.num && is_below ys xs) k) [
            | inl more ↦ let b = ltb-true y.num x.num more in omega (arith, a, b)
            | inr others ↦ not_both_below xs ys (and_right (eqb x.num y.num) _ both) (and_right (eqb y.num x.num) _ others)
          ]
    ]

not_both : (a b : Application) → precedes a b ≡ true → precedes b a ≡ true → ⊥
not_both a b h k =
    elim (or_cases (ltb a.place b.place) (eqb a.place b.place && is_below a.args b.args) h) [
      | inl less ↦
          let p = ltb-true a.place b.place less in
          elim (or_cases (ltb b.place a.place) (eqb b.place a.place && is_below b.args a.args) k) [
            | inl more ↦ let q = ltb-true b.place a.place more in omega (arith, p, q)
            | inr both ↦ let q = eqb-true b.place a.place (and_left (eqb b.place a.place) _ both) in omega (arith, p, q)
          ]
      | inr both ↦
          let p = eqb-true a.place b.place (and_left (eqb a.place b.place) _ both) in
          elim (or_cases (ltb b.place a.place) (eqb b.place a.place && is_below b.args a.args) k) [
            | inl more ↦ let q = ltb-true b.place a.place more in omega (arith, p, q)
            | inr others ↦ not_both_below a.args b.args (and_right (eqb a.place b.place) _ both) (and_right (eqb b.place a.place) _ others)
          ]
    ]

-- ---- the first of those that a predicate holds of

record IsFront (P : Application → Type 0) (most : ℕ) (list : List Application) (more : Bool) : Type 0 where
  good : (a : Application) → Contains list a → P a
  in_order : is_in_order list ≡ true
  few : length list ≤ most
  none_missing : (a : Application) → P a → Contains list a ⊎ ((more ≡ true) × (is_later list a ≡ true))
  others : more ≡ true → (length list ≡ most) × ((a : Application) × P a × (is_later list a ≡ true))

all_at : (p : Application → Bool) (xs : List Application) (x : Application) → list_all p xs ≡ true → Contains xs x → p x ≡ true
all_at p [] x h there = absurd (contains_none x there)
all_at p (y ∷ ys) x h there =
    elim (contains_cases x y ys there) [
      | inl is ↦ subst (λ (z : Application). p z ≡ true) is (and_left (p y) (list_all p ys) h)
      | inr later ↦ all_at p ys x (and_right (p y) (list_all p ys) h) later
    ]

-- each that it holds of is the first of the list, or is preceded by that
first_or_later : (P : Application → Type 0) (most : ℕ) (c d : Application) (cs : List Application) (more : Bool) → IsFront P most (c ∷ cs) more → P d → (c ≡ d) ⊎ (precedes c d ≡ true)
first_or_later P most c d cs more f holds =
    elim (f.none_missing d holds) [
      | inl there ↦
          elim (contains_cases d c cs there) [
            | inl is ↦ inl is
            | inr later ↦ inr (all_at (precedes c) cs d (and_left (list_all (precedes c) cs) _ f.in_order) later)
          ]
      | inr both ↦ inr (and_left (precedes c d) _ both.1)
    ]

same_first : (P : Application → Type 0) (most : ℕ) (c d : Application) (cs ds : List Application) (a b : Bool) → IsFront P most (c ∷ cs) a → IsFront P most (d ∷ ds) b → c ≡ d
same_first P most c d cs ds a b f g =
    elim (first_or_later P most c d cs a f (g.good d (contains_first d ds))) [
      | inl is ↦ is
      | inr less ↦
          elim (first_or_later P most d c ds b g (f.good c (contains_first c cs))) [
            | inl is ↦ sym is
            | inr more ↦ absurd (not_both c d less more)
          ]
    ]

abbrev After : (Application → Type 0) → Application → Application → Type 0
After P c x = P x × (precedes c x ≡ true)

rest_front : (P : Application → Type 0) (most : ℕ) (c : Application) (cs : List Application) (more : Bool) → IsFront P (suc most) (c ∷ cs) more → IsFront (After P c) most cs more
rest_front P most c cs more f =
    record {
      good = λ x there. (f.good x (contains_more x c cs there), all_at (precedes c) cs x (and_left (list_all (precedes c) cs) _ f.in_order) there);
      in_order = and_right (list_all (precedes c) cs) _ f.in_order;
      few = omega (arith, f.few);
      none_missing = λ x h. missing x h (f.none_missing x h.0);
      others = λ yes. let n = f.others yes in (omega (arith, n.0), (n.1.0, (n.1.1, and_left (precedes c n.1.0) _ n.1.2), and_right (precedes c n.1.0) _ n.1.2));
    }
  where
    missing : (x : Application) → After P c x → Contains (c ∷ cs) x ⊎ ((more ≡ true) × (is_later (c ∷ cs) x ≡ true)) → Contains cs x ⊎ ((more ≡ true) × (is_later cs x ≡ true))
    missing x h (inl there) =
        elim (contains_cases x c cs there) [
          | inl is ↦ absurd (let own = subst (λ (y : Application). precedes c y ≡ true) (sym is) h.1 in not_both c c own own)
          | inr later ↦ inl later
        ]
    missing x h (inr both) = inr (both.0, and_right (precedes c x) _ both.1)

-- where none is listed there are others of the one as of the other
none_listed : (P : Application → Type 0) (most : ℕ) → IsFront P most [] true → IsFront P most [] false → ⊥
none_listed P most f g =
    let n = (f.others refl).1 in
    elim (g.none_missing n.0 n.1) [
      | inl there ↦ contains_none n.0 there
      | inr both ↦ true≢false (sym both.0)
    ]

same_more : (P : Application → Type 0) (most : ℕ) (a b : Bool) → IsFront P most [] a → IsFront P most [] b → a ≡ b
same_more P most true true f g = refl
same_more P most false false f g = refl
same_more P most true false f g = absurd (none_listed P most f g)
same_more P most false true f g = absurd (none_listed P most g f)

none_before : (P : Application → Type 0) (most : ℕ) (d : Application) (ds : List Application) (a b : Bool) → IsFront P most [] a → IsFront P most (d ∷ ds) b → ⊥
none_before P most d ds a b f g =
    elim (f.none_missing d (g.good d (contains_first d ds))) [
      | inl there ↦ contains_none d there
      | inr both ↦ let n = (f.others both.0).0 in omega (arith, n, g.few)
    ]

one_front : (P : Application → Type 0) (most : ℕ) (xs ys : List Application) (a b : Bool) → IsFront P most xs a → IsFront P most ys b → (xs ≡ ys) × (a ≡ b)
one_front P most [] [] a b f g = (refl, same_more P most a b f g)
one_front P most [] (d ∷ ds) a b f g = absurd (none_before P most d ds a b f g)
one_front P most (c ∷ cs) [] a b f g = absurd (none_before P most c cs b a g f)
one_front P zero (c ∷ cs) (d ∷ ds) a b f g = absurd (omega (arith, f.few))
one_front P (suc most) (c ∷ cs) (d ∷ ds) a b f g =
    let is = same_first P (suc most) c d cs ds a b f g in
    let rest = one_front (After P c) most cs ds a b (rest_front P most c cs a f) (subst (λ (x : Application). IsFront (After P x) most ds b) (sym is) (rest_front P most d ds b g)) in
    (ap₂ (λ x xs. x ∷ xs) is rest.0, rest.1)

pub one_list : (scope : Scope) (facts : List Lit) (known : List TitledStatement) (xs ys : List Application) (a b : Bool) → AreFirstApplications scope facts known xs a → AreFirstApplications scope facts known ys b → (xs ≡ ys) × (a ≡ b)
one_list scope facts known xs ys a b f g = one_front (MayApply scope facts known) 1000 xs ys a b (front xs a f) (front ys b g)
  where
    front : (xs : List Application) (a : Bool) → AreFirstApplications scope facts known xs a → IsFront (MayApply scope facts known) 1000 xs a
    front xs a f = record { good = f.good; in_order = f.in_order; few = f.few; none_missing = f.none_missing; others = f.others }
