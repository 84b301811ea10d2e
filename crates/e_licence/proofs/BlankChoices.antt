-- Choices for the blanks as lists of numbers.
use Rattle.std.proofs.Common.{◌≡◌, ℕ, zero, suc, ◌<◌, ◌≤◌, List, [], ◌∷◌, length, map, drop, refl, sym, ap, ◌∙◌, subst, arith, Bool, true, false, ltb, eqb, ◌&&◌, ◌||◌, true≢false, inl, inr, Option, Some, None, eqb-true}
use Rattle.std.specs.Prelude.{min}
use Rattle.std.specs.List.{list_any}
use Rattle.std.proofs.lemmas.Grind.{common_steps}
use Rattle.std.proofs.lemmas.List.{drop_all}
use Rattle.std.proofs.lemmas.Bool.{ltb-true, lt-ltb, le-ltb, cases_lt, or_cases}
use Rattle.e_literal.specs.declared.object.Obj.{Obj}
use Rattle.e_literal.specs.declared.object.Scope.{Scope}
use Rattle.e_literal.specs.declared.object.Sort.{Sort}
use Rattle.e_literal.specs.Literal.{obj, count_of, is_in_scope}
use Rattle.e_literal.specs.declared.map.Entry.{Entry}
use Rattle.e_literal.specs.Rename.{same_obj, pairs_of}
use Rattle.e_literal.specs.Scopes.{same_sort, nothing, with_one, next_objects, are_of_sorts}
use Rattle.e_literal.proofs.Sorts.{same_sort_is, same_sort_self, same_obj_is, same_obj_self}
use Rattle.e_literal.proofs.GrownScopes.{counts_nothing}
use Rattle.e_literal.proofs.Booleans.{or_not_right, and_left, and_right, eqb_self}
use Rattle.e_theorem.specs.Choice.{fills, is_below}
use Rattle.e_theorem.specs.Pattern.{are_entries}
use Rattle.e_transfer.specs.declared.walk.Span.{Span}
use Rattle.e_transfer.specs.Choice.{FitsSpans, Starts, ComesBefore}
use Rattle.e_licence.specs.inner.BlankChoices.{filled_arguments, spans_of}

-- ---- the numbers of a choice give arguments

-- a blank has a number in scope
abbrev pub has_empty : List Span → Bool
has_empty spans = list_any (λ (s : Span). eqb s.to 0) spans

some_number : (n : ℕ) (rest : Bool) → (eqb n 0 || rest) ≡ false → 0 < n
some_number n rest h = elim (cases_lt 0 n) [
  | inl less ↦ less
  | inr none ↦ absurd (true≢false (sym (ap (λ b. b || rest) (zero_is n none)) ∙ h))
]
  where
    zero_is : (n : ℕ) → n ≤ 0 → eqb n 0 ≡ true
    zero_is n h = let e : n ≡ 0 = omega (arith, h) in ap (λ k. eqb k 0) e

is_there : (s : Scope) (sort : Sort) (num : ℕ) (rest : Bool) → num < count_of s sort → rest ≡ true → (same_sort sort sort && (is_in_scope s (obj sort num) && rest)) ≡ true
is_there s sort num rest less h =
    ap (λ b. b && (is_in_scope s (obj sort num) && rest)) (same_sort_self sort) ∙ ap (λ b. b && rest) (lt-ltb num (count_of s sort) less) ∙ h

-- the first numbers of a choice, and 0 for the others
pub start_is_of_sorts : (s b : Scope) (sorts : List Sort) (entries : List (Option Obj)) (c : List ℕ) → are_entries s sorts entries ≡ true
    → Starts (spans_of s (next_objects b sorts) entries) c → has_empty (spans_of s (next_objects b sorts) entries) ≡ false
    → are_of_sorts s sorts (filled_arguments nothing (next_objects b sorts) entries c) ≡ true
start_is_of_sorts s b [] [] c are starts some = refl
start_is_of_sorts s b [] (e ∷ entries) c are starts some = absurd (true≢false (sym are))
start_is_of_sorts s b (sort ∷ sorts) [] c are starts some = absurd (true≢false (sym are))
start_is_of_sorts s b (sort ∷ sorts) (Some p ∷ entries) c are starts some =
    let rest = and_right (same_sort sort p.sort) _ are in
    ap (λ x. x && (is_in_scope s p && are_of_sorts s sorts (filled_arguments nothing (next_objects (with_one b sort) sorts) entries c))) (and_left (same_sort sort p.sort) _ are)
    ∙ ap (λ x. x && are_of_sorts s sorts (filled_arguments nothing (next_objects (with_one b sort) sorts) entries c)) (and_left (is_in_scope s p) _ rest)
    ∙ start_is_of_sorts s (with_one b sort) sorts entries c (and_right (is_in_scope s p) _ rest) starts some
start_is_of_sorts s b (sort ∷ sorts) (None ∷ entries) [] are starts some =
    is_there s sort (count_of nothing sort) _ (omega (arith, counts_nothing sort, some_number (count_of s sort) _ some))
    (start_is_of_sorts s (with_one b sort) sorts entries [] are (no_start (spans_of s (next_objects (with_one b sort) sorts) entries)) (or_not_right (eqb (count_of s sort) 0) _ some))
  where
    no_start : (spans : List Span) → Starts spans []
    no_start [] = tt
    no_start (n ∷ ns) = tt
start_is_of_sorts s b (sort ∷ sorts) (None ∷ entries) (v ∷ c) are (from, less, starts) some =
    is_there s sort v _ less (start_is_of_sorts s (with_one b sort) sorts entries c are starts (or_not_right (eqb (count_of s sort) 0) _ some))

pub filled_fills : (s m b : Scope) (sorts : List Sort) (entries : List (Option Obj)) (c : List ℕ) → are_entries s sorts entries ≡ true → fills entries (filled_arguments m (next_objects b sorts) entries c) ≡ true
filled_fills s m b [] [] c are = refl
filled_fills s m b [] (e ∷ entries) c are = absurd (true≢false (sym are))
filled_fills s m b (sort ∷ sorts) [] c are = absurd (true≢false (sym are))
filled_fills s m b (sort ∷ sorts) (Some p ∷ entries) c are =
    ap (λ x. x && fills entries (filled_arguments m (next_objects (with_one b sort) sorts) entries c)) (same_obj_self p)
    ∙ filled_fills s m (with_one b sort) sorts entries c (and_right (is_in_scope s p) _ (and_right (same_sort sort p.sort) _ are))
filled_fills s m b (sort ∷ sorts) (None ∷ entries) [] are = filled_fills s m (with_one b sort) sorts entries [] are
filled_fills s m b (sort ∷ sorts) (None ∷ entries) (v ∷ c) are = filled_fills s m (with_one b sort) sorts entries c are

-- of a whole choice nothing is missing
pub whole : (s m k b : Scope) (sorts : List Sort) (entries : List (Option Obj)) (c : List ℕ) → FitsSpans (spans_of s (next_objects b sorts) entries) c
    → filled_arguments m (next_objects b sorts) entries c ≡ filled_arguments k (next_objects b sorts) entries c
whole s m k b [] entries c fits = refl
whole s m k b (sort ∷ sorts) [] c fits = refl
whole s m k b (sort ∷ sorts) (Some p ∷ entries) c fits = ap (λ os. p ∷ os) (whole s m k (with_one b sort) sorts entries c fits)
whole s m k b (sort ∷ sorts) (None ∷ entries) [] fits = absurd fits
whole s m k b (sort ∷ sorts) (None ∷ entries) (v ∷ c) (from, less, fits) = ap (λ os. obj sort v ∷ os) (whole s m k (with_one b sort) sorts entries c fits)

pub fits_starts : (spans : List Span) (c : List ℕ) → FitsSpans spans c → Starts spans c
fits_starts [] [] fits = tt
fits_starts [] (v ∷ c) fits = fits
fits_starts (n ∷ ns) [] fits = tt
fits_starts (n ∷ ns) (v ∷ c) (from, less, fits) = (from, less, fits_starts ns c fits)

-- a blank without numbers has no choice
pub none_fits : (spans : List Span) (c : List ℕ) → has_empty spans ≡ true → FitsSpans spans c → ⊥
none_fits [] c h fits = true≢false (sym h)
none_fits (n ∷ ns) [] h fits = fits
none_fits (n ∷ ns) (v ∷ c) h (from, less, fits) =
    elim (or_cases (eqb n.to 0) (has_empty ns) h) [
      | inl none ↦ let e = eqb-true n.to 0 none in omega (arith, e, less)
      | inr rest ↦ none_fits ns c rest fits
    ]

-- ---- arguments give the numbers of a choice

abbrev pub chosen : List (Option Obj) → List Obj → List ℕ
chosen (Some p ∷ entries) (a ∷ args) = chosen entries args
chosen (None ∷ entries) (a ∷ args) = a.num ∷ chosen entries args
chosen _ _ = []

pub chosen_fit : (s b : Scope) (sorts : List Sort) (entries : List (Option Obj)) (args : List Obj) → fills entries args ≡ true → are_of_sorts s sorts args ≡ true
    → FitsSpans (spans_of s (next_objects b sorts) entries) (chosen entries args)
chosen_fit s b [] [] [] fill fit = tt
chosen_fit s b [] [] (a ∷ args) fill fit = absurd (true≢false (sym fill))
chosen_fit s b [] (e ∷ entries) (a ∷ args) fill fit = absurd (true≢false (sym fit))
chosen_fit s b [] (Some p ∷ entries) [] fill fit = absurd (true≢false (sym fill))
chosen_fit s b [] (None ∷ entries) [] fill fit = absurd (true≢false (sym fill))
chosen_fit s b (sort ∷ sorts) entries [] fill fit = absurd (true≢false (sym fit))
chosen_fit s b (sort ∷ sorts) [] (a ∷ args) fill fit = absurd (true≢false (sym fill))
chosen_fit s b (sort ∷ sorts) (Some p ∷ entries) (a ∷ args) fill fit =
    chosen_fit s (with_one b sort) sorts entries args (and_right (same_obj p a) _ fill) (and_right (is_in_scope s a) _ (and_right (same_sort sort a.sort) _ fit))
chosen_fit s b (sort ∷ sorts) (None ∷ entries) (a ∷ args) fill fit =
    let rest = and_right (same_sort sort a.sort) _ fit in
    let sorted = same_sort_is sort a.sort (and_left (same_sort sort a.sort) _ fit) in (
      omega arith,
      subst (λ x. a.num < count_of s x) (sym sorted) (ltb-true a.num (count_of s a.sort) (and_left (is_in_scope s a) _ rest)),
      chosen_fit s (with_one b sort) sorts entries args fill (and_right (is_in_scope s a) _ rest),
    )

pub chosen_filled : (s m b : Scope) (sorts : List Sort) (entries : List (Option Obj)) (args : List Obj) → fills entries args ≡ true → are_of_sorts s sorts args ≡ true
    → filled_arguments m (next_objects b sorts) entries (chosen entries args) ≡ args
chosen_filled s m b [] entries [] fill fit = refl
chosen_filled s m b [] entries (a ∷ args) fill fit = absurd (true≢false (sym fit))
chosen_filled s m b (sort ∷ sorts) entries [] fill fit = absurd (true≢false (sym fit))
chosen_filled s m b (sort ∷ sorts) [] (a ∷ args) fill fit = absurd (true≢false (sym fill))
chosen_filled s m b (sort ∷ sorts) (Some p ∷ entries) (a ∷ args) fill fit =
    ap (λ x. x ∷ filled_arguments m (next_objects (with_one b sort) sorts) entries (chosen entries args)) (same_obj_is p a (and_left (same_obj p a) _ fill))
    ∙ ap (λ os. a ∷ os)
    (chosen_filled s m (with_one b sort) sorts entries args (and_right (same_obj p a) _ fill) (and_right (is_in_scope s a) _ (and_right (same_sort sort a.sort) _ fit)))
chosen_filled s m b (sort ∷ sorts) (None ∷ entries) (a ∷ args) fill fit =
    ap (λ x. obj x a.num ∷ filled_arguments m (next_objects (with_one b sort) sorts) entries (chosen entries args)) (same_sort_is sort a.sort (and_left (same_sort sort a.sort) _ fit))
    ∙ ap (λ os. a ∷ os) (chosen_filled s m (with_one b sort) sorts entries args fill (and_right (is_in_scope s a) _ (and_right (same_sort sort a.sort) _ fit)))

-- ---- their order

not_itself : (n : ℕ) → ltb n n ≡ false
not_itself n = le-ltb n n (omega arith)

after_same : (n : ℕ) (rest : Bool) → (ltb n n || (eqb n n && rest)) ≡ true → rest ≡ true
after_same n rest h = and_right (eqb n n) rest (sym (ap (λ b. b || (eqb n n && rest)) (not_itself n)) ∙ h)

none_below_zero : (n z : ℕ) (rest : Bool) → z ≡ 0 → (ltb n z || (eqb n z && rest)) ≡ true → rest ≡ true
none_below_zero n z rest is h =
    elim (or_cases (ltb n z) (eqb n z && rest) h) [
      | inl less ↦ absurd (let k = ltb-true n z less in omega (arith, k, is))
      | inr both ↦ and_right (eqb n z) rest both
    ]

not_below_none : (d : List ℕ) → ComesBefore d [] → ⊥
not_below_none [] h = h
not_below_none (v ∷ d) h = h

-- smaller arguments have smaller numbers
pub below : (s m b : Scope) (sorts : List Sort) (entries : List (Option Obj)) (d c : List ℕ) → FitsSpans (spans_of s (next_objects b sorts) entries) d
    → is_below (filled_arguments m (next_objects b sorts) entries d) (filled_arguments nothing (next_objects b sorts) entries c) ≡ true → ComesBefore d c
below s m b [] entries d c fits h = absurd (true≢false (sym h))
below s m b (sort ∷ sorts) [] d c fits h = absurd (true≢false (sym h))
below s m b (sort ∷ sorts) (Some p ∷ entries) d c fits h = below s m (with_one b sort) sorts entries d c fits (after_same p.num _ h)
below s m b (sort ∷ sorts) (None ∷ entries) [] c fits h = absurd fits
below s m b (sort ∷ sorts) (None ∷ entries) (v ∷ d) [] (from, less, fits) h =
    absurd (not_below_none d (below s m (with_one b sort) sorts entries d [] fits (none_below_zero v (count_of nothing sort) _ (counts_nothing sort) h)))
below s m b (sort ∷ sorts) (None ∷ entries) (v ∷ d) (u ∷ c) (from, less, fits) h =
    elim (or_cases (ltb v u) _ h) [
      | inl smaller ↦ inl (ltb-true v u smaller)
      | inr both ↦ inr (eqb-true v u (and_left (eqb v u) _ both), below s m (with_one b sort) sorts entries d c fits (and_right (eqb v u) _ both))
    ]

same_number : (n : ℕ) (rest : Bool) → rest ≡ true → (ltb n n || (eqb n n && rest)) ≡ true
same_number n rest h = ap (λ b. b || (eqb n n && rest)) (not_itself n) ∙ ap (λ b. b && rest) (eqb_self n) ∙ h

-- and smaller numbers give smaller arguments
pub in_order : (s m b : Scope) (sorts : List Sort) (entries : List (Option Obj)) (d c : List ℕ) → FitsSpans (spans_of s (next_objects b sorts) entries) d → FitsSpans (spans_of s (next_objects b sorts) entries) c
    → ComesBefore d c → is_below (filled_arguments m (next_objects b sorts) entries d) (filled_arguments m (next_objects b sorts) entries c) ≡ true
in_order s m b [] entries [] c fits fit less = absurd less
in_order s m b [] entries (v ∷ d) c fits fit less = absurd fits
in_order s m b (sort ∷ sorts) [] [] c fits fit less = absurd less
in_order s m b (sort ∷ sorts) [] (v ∷ d) c fits fit less = absurd fits
in_order s m b (sort ∷ sorts) (Some p ∷ entries) d c fits fit less = same_number p.num _ (in_order s m (with_one b sort) sorts entries d c fits fit less)
in_order s m b (sort ∷ sorts) (None ∷ entries) [] c fits fit less = absurd fits
in_order s m b (sort ∷ sorts) (None ∷ entries) (v ∷ d) [] fits fit less = absurd fit
in_order s m b (sort ∷ sorts) (None ∷ entries) (v ∷ d) (u ∷ c) fits fit (inl less) =
    ap (λ x. x || (eqb v u && is_below (filled_arguments m (next_objects (with_one b sort) sorts) entries d) (filled_arguments m (next_objects (with_one b sort) sorts) entries c))) (lt-ltb v u less)
in_order s m b (sort ∷ sorts) (None ∷ entries) (v ∷ d) (u ∷ c) (from, high, fits) (from', high', fit) (inr (same, less)) =
    subst (λ (x : ℕ). (ltb v x || (eqb v x && is_below (filled_arguments m (next_objects (with_one b sort) sorts) entries d) (filled_arguments m (next_objects (with_one b sort) sorts) entries c))) ≡ true) same
    (same_number v _ (in_order s m (with_one b sort) sorts entries d c fits fit less))

-- ---- the loops over the objects and the entries

no_entries : (m : Scope) (os : List Obj) (c : List ℕ) → filled_arguments m os [] c ≡ []
no_entries m [] c = refl
no_entries m (o ∷ os) c = refl

pub filled_done : (m : Scope) (os : List Obj) (entries : List (Option Obj)) (c : List ℕ) (n : ℕ) → n ≡ min (length os) (length entries) → filled_arguments m (drop n os) (drop n entries) c ≡ []
filled_done m [] entries c n is = ap (λ xs. filled_arguments m xs (drop n entries) c) (drop_all n [] (omega arith))
filled_done m (o ∷ os) [] c n is = ap (λ xs. filled_arguments m (drop n (o ∷ os)) xs c) (drop_all n [] (omega arith)) ∙ no_entries m (drop n (o ∷ os)) c
filled_done m (o ∷ os) (e ∷ entries) c zero is = absurd (omega (arith, is))
filled_done m (o ∷ os) (e ∷ entries) c (suc n) is = filled_done m os entries c n (omega (arith, is))

no_spans : (s : Scope) (os : List Obj) → spans_of s os [] ≡ []
no_spans s [] = refl
no_spans s (o ∷ os) = refl

pub spans_done : (s : Scope) (os : List Obj) (entries : List (Option Obj)) (n : ℕ) → n ≡ min (length os) (length entries) → spans_of s (drop n os) (drop n entries) ≡ []
spans_done s [] entries n is = ap (λ xs. spans_of s xs (drop n entries)) (drop_all n [] (omega arith))
spans_done s (o ∷ os) [] n is = ap (λ xs. spans_of s (drop n (o ∷ os)) xs) (drop_all n [] (omega arith)) ∙ no_spans s (drop n (o ∷ os))
spans_done s (o ∷ os) (e ∷ entries) zero is = absurd (omega (arith, is))
spans_done s (o ∷ os) (e ∷ entries) (suc n) is = spans_done s os entries n (omega (arith, is))

no_pairs : (os : List Obj) → pairs_of os [] ≡ []
no_pairs [] = refl
no_pairs (o ∷ os) = refl

pub images_done : (m : Scope) (os : List Obj) (entries : List (Option Obj)) (c : List ℕ) (n : ℕ) → n ≡ min (length os) (length entries)
    → pairs_of (drop n os) (filled_arguments m (drop n os) (drop n entries) c) ≡ []
images_done m os entries c n is = ap (pairs_of (drop n os)) (filled_done m os entries c n is) ∙ no_pairs (drop n os)

pub ruleset ending = (common_steps, filled_done, images_done, spans_done)

-- ---- sorts

pub filled_sorts : (s m b : Scope) (sorts : List Sort) (entries : List (Option Obj)) (c : List ℕ) → are_entries s sorts entries ≡ true
    → map (λ (o : Obj). o.sort) (next_objects b sorts) ≡ map (λ (o : Obj). o.sort) (filled_arguments m (next_objects b sorts) entries c)
filled_sorts s m b [] entries c are = refl
filled_sorts s m b (sort ∷ sorts) [] c are = absurd (true≢false (sym are))
filled_sorts s m b (sort ∷ sorts) (Some p ∷ entries) c are =
    ap (λ x. x ∷ map (λ (o : Obj). o.sort) (next_objects (with_one b sort) sorts)) (same_sort_is sort p.sort (and_left (same_sort sort p.sort) _ are))
    ∙ ap (λ xs. p.sort ∷ xs) (filled_sorts s m (with_one b sort) sorts entries c (and_right (is_in_scope s p) _ (and_right (same_sort sort p.sort) _ are)))
filled_sorts s m b (sort ∷ sorts) (None ∷ entries) [] are = ap (λ xs. sort ∷ xs) (filled_sorts s m (with_one b sort) sorts entries [] are)
filled_sorts s m b (sort ∷ sorts) (None ∷ entries) (v ∷ c) are = ap (λ xs. sort ∷ xs) (filled_sorts s m (with_one b sort) sorts entries c are)

-- the objects and their arguments are of one sort each
pub one_sort : (s m : Scope) (os args : List Obj) (sorts : List Sort) (entries : List (Option Obj)) (c : List ℕ) → os ≡ next_objects nothing sorts → args ≡ filled_arguments m os entries c
    → are_entries s sorts entries ≡ true → map (λ (o : Obj). o.sort) os ≡ map (λ (o : Obj). o.sort) args
one_sort s m os args sorts entries c is filling are =
    ap (map (λ (o : Obj). o.sort)) is ∙ filled_sorts s m nothing sorts entries c are
    ∙ ap (λ xs. map (λ (o : Obj). o.sort) (filled_arguments m xs entries c)) (sym is) ∙ ap (map (λ (o : Obj). o.sort)) (sym filling)

-- so are those of their pairs
pub pairs_sorts : (os args : List Obj) → map (λ (o : Obj). o.sort) os ≡ map (λ (o : Obj). o.sort) args
    → map (λ (e : Entry). e.source.sort) (pairs_of os args) ≡ map (λ (e : Entry). e.target.sort) (pairs_of os args)
pairs_sorts [] args h = refl
pairs_sorts (o ∷ os) [] h = refl
pairs_sorts (o ∷ os) (a ∷ args) h =
    let here : o.sort ≡ a.sort = cc in
    let rest : map (λ (p : Obj). p.sort) os ≡ map (λ (p : Obj). p.sort) args = cc in
    ap (λ s. s ∷ map (λ (e : Entry). e.source.sort) (pairs_of os args)) here ∙ ap (λ ss. a.sort ∷ ss) (pairs_sorts os args rest)
