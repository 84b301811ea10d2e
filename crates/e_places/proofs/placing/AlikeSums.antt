-- Sums whose rows have one share in each term are absurd together.
use Rattle.std.proofs.Common.{◌≡◌, List, [], ◌∷◌, ◌++◌, map, refl, sym, ap, ap₂, ◌∙◌, arith, Bool, true, false, cond, ◌&&◌, ◌||◌, true≢false, inl, inr}
use Rattle.std.specs.List.{list_any, list_all}
use Rattle.std.specs.Ordering.{int_eq}
use Rattle.std.proofs.lemmas.Bool.{cases_Bool}
use lib.IntN.{ℤ, pos, ◌+ℤ◌, ◌*ℤ◌, *ℤ-zero}
use Rattle.e_literal.specs.declared.object.Term.{Term}
use Rattle.e_literal.specs.Same.{term_eq}
use Rattle.e_literal.specs.Rows.{Summands, coefficient, terms_of_rows}
use Rattle.e_literal.specs.Width.{is_among}
use Rattle.e_literal.specs.Absurd.{Weighed, total, allows_multiplier, is_strict, is_absurd}
use Rattle.e_literal.proofs.Arith.{sums, zero_is, is_zero}
use Rattle.e_literal.proofs.Terms.{term_eq_is, equal_terms, among_left, among_right}
use Rattle.e_literal.proofs.Booleans.{and_left, and_right, or_not_left, or_not_right}

-- one share in each term, and taken away or added alike
pub record HaveOneShare (w v : Weighed) : Type 0 where
  pub share : (t : Term) → v.multiplier *ℤ coefficient v.row.form t ≡ w.multiplier *ℤ coefficient w.row.form t
  pub good : allows_multiplier v.row.sense v.multiplier ≡ allows_multiplier w.row.sense w.multiplier
  pub strict : is_strict v.row.sense v.multiplier ≡ is_strict w.row.sense w.multiplier

abbrev pub AllHaveOneShare : List Weighed → List Weighed → Type 0
AllHaveOneShare [] [] = Unit {0}
AllHaveOneShare (w ∷ ws) (v ∷ vs) = HaveOneShare w v × AllHaveOneShare ws vs
AllHaveOneShare _ _ = ⊥

same_total : (ws vs : List Weighed) (t : Term) → AllHaveOneShare ws vs → total vs t ≡ total ws t
same_total [] [] t h = refl
same_total [] (v ∷ vs) t h = absurd h
same_total (w ∷ ws) [] t h = absurd h
same_total (w ∷ ws) (v ∷ vs) t h = ap₂ {A = ℤ} {B = ℤ} (λ a b. a +ℤ b) (h.0.share t) (same_total ws vs t h.1)

same_good : (ws vs : List Weighed) → AllHaveOneShare ws vs → list_all (λ w. allows_multiplier w.row.sense w.multiplier) vs ≡ list_all (λ w. allows_multiplier w.row.sense w.multiplier) ws
same_good [] [] h = refl
same_good [] (v ∷ vs) h = absurd h
same_good (w ∷ ws) [] h = absurd h
same_good (w ∷ ws) (v ∷ vs) h = ap₂ {A = Bool} {B = Bool} (λ a b. a && b) h.0.good (same_good ws vs h.1)

same_strict : (ws vs : List Weighed) → AllHaveOneShare ws vs → list_any (λ w. is_strict w.row.sense w.multiplier) vs ≡ list_any (λ w. is_strict w.row.sense w.multiplier) ws
same_strict [] [] h = refl
same_strict [] (v ∷ vs) h = absurd h
same_strict (w ∷ ws) [] h = absurd h
same_strict (w ∷ ws) (v ∷ vs) h = ap₂ {A = Bool} {B = Bool} (λ a b. a || b) h.0.strict (same_strict ws vs h.1)

-- ---- a term that is not written has coefficient 0

not_first : (s t : Term) → term_eq t s ≡ false → term_eq s t ≡ false
not_first s t h = elim (cases_Bool (term_eq s t)) [
  | inl e ↦ absurd (true≢false (sym (equal_terms t s (sym (term_eq_is s t e))) ∙ h))
  | inr n ↦ n
]

unwritten : (form : Summands) (t : Term) → is_among (map (λ p. p.1) form) t ≡ false → coefficient form t ≡ pos 0
unwritten [] t h = refl
unwritten (p ∷ ps) t h =
    let here : term_eq p.1 t ≡ false = not_first p.1 t (or_not_left (term_eq t p.1) (is_among (map (λ (q : ℤ × Term). q.1) ps) t) h) in
    let later = unwritten ps t (or_not_right (term_eq t p.1) (is_among (map (λ (q : ℤ × Term). q.1) ps) t) h) in
    ap (λ b. cond b p.0 (pos 0) +ℤ coefficient ps t) here ∙ omega (arith, sums, later)

not_left : (xs ys : List Term) (t : Term) → is_among (xs ++ ys) t ≡ false → is_among xs t ≡ false
not_left xs ys t h = elim (cases_Bool (is_among xs t)) [ inl e ↦ absurd (true≢false (sym (among_left xs ys t e) ∙ h)) | inr n ↦ n ]

not_right : (xs ys : List Term) (t : Term) → is_among (xs ++ ys) t ≡ false → is_among ys t ≡ false
not_right xs ys t h = elim (cases_Bool (is_among ys t)) [ inl e ↦ absurd (true≢false (sym (among_right xs ys t e) ∙ h)) | inr n ↦ n ]

none_in_total : (ws : List Weighed) (t : Term) → is_among (terms_of_rows (map (λ w. w.row) ws)) t ≡ false → total ws t ≡ pos 0
none_in_total [] t h = refl
none_in_total (w ∷ ws) t h =
    let own : List Term = map (λ (p : ℤ × Term). p.1) w.row.form in
    let rest : List Term = terms_of_rows (map (λ (v : Weighed). v.row) ws) in
    let here : w.multiplier *ℤ coefficient w.row.form t ≡ pos 0 = ap (λ z. w.multiplier *ℤ z) (unwritten w.row.form t (not_left own rest t h)) ∙ *ℤ-zero w.multiplier in
    omega (arith, sums, here, none_in_total ws t (not_right own rest t h))

-- ---- all terms cancel

cancelled : (f : Term → ℤ) (ts : List Term) (t : Term) → list_all (λ u. int_eq (f u) (pos 0)) ts ≡ true → is_among ts t ≡ true → f t ≡ pos 0
cancelled f [] t h k = absurd (true≢false (sym k))
cancelled f (u ∷ ts) t h k = by (term_eq t u) refl k (λ m. cancelled f ts t (and_right (int_eq (f u) (pos 0)) (list_all (λ v. int_eq (f v) (pos 0)) ts) h) m)
  where
    by : (b : Bool) → term_eq t u ≡ b → (b || is_among ts t) ≡ true → (is_among ts t ≡ true → f t ≡ pos 0) → f t ≡ pos 0
    by true e m later = ap f (term_eq_is t u e) ∙ zero_is (f u) (and_left (int_eq (f u) (pos 0)) (list_all (λ v. int_eq (f v) (pos 0)) ts) h)
    by false e m later = later m

all_cancel : (ws : List Weighed) → list_all (λ t. int_eq (total ws t) (pos 0)) (terms_of_rows (map (λ w. w.row) ws)) ≡ true → (t : Term) → total ws t ≡ pos 0
all_cancel ws h t = elim (cases_Bool (is_among (terms_of_rows (map (λ (w : Weighed). w.row) ws)) t)) [
  | inl e ↦ cancelled (total ws) (terms_of_rows (map (λ (w : Weighed). w.row) ws)) t h e
  | inr n ↦ none_in_total ws t n
]

cancel_everywhere : (f : Term → ℤ) (ts : List Term) → ((t : Term) → f t ≡ pos 0) → list_all (λ u. int_eq (f u) (pos 0)) ts ≡ true
cancel_everywhere f [] h = refl
cancel_everywhere f (t ∷ ts) h = ap₂ {A = Bool} {B = Bool} (λ a b. a && b) (is_zero (f t) (h t)) (cancel_everywhere f ts h)

-- where the one sum is absurd, so is the other
pub absurd_together : (ws vs : List Weighed) → AllHaveOneShare ws vs → is_absurd ws ≡ true → is_absurd vs ≡ true
absurd_together ws vs h a =
    let terms : Bool = list_all (λ t. int_eq (total ws t) (pos 0)) (terms_of_rows (map (λ (w : Weighed). w.row) ws)) in
    let good : Bool = list_all (λ (w : Weighed). allows_multiplier w.row.sense w.multiplier) ws in
    let strict : Bool = list_any (λ (w : Weighed). is_strict w.row.sense w.multiplier) ws in
    let none = all_cancel ws (and_left terms (good && strict) a) in
    let cancels = cancel_everywhere (total vs) (terms_of_rows (map (λ (w : Weighed). w.row) vs)) (λ t. same_total ws vs t h ∙ none t) in
    rw (cancels, same_good ws vs h, same_strict ws vs h) (and_right terms (good && strict) a)
