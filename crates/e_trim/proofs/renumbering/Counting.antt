-- The new numbers of objects: how many of the kept ones of the sort have a lesser number.
use Rattle.std.proofs.Common.{◌≡◌, ℕ, ◌+◌, ◌<◌, ◌≤◌, List, [], ◌∷◌, ◌++◌, length, map, refl, sym, ap, ◌∙◌, subst, arith, Bool, true, false, ◌&&◌, cond, ltb, eqb, eq-eqb, true≢false, inl, inr, take, get_or}
use Rattle.std.proofs.lemmas.Bool.{ltb-true, lt-ltb, ne_eqb, cases_order, and_parts, and_from, cases_Bool, false_from_ne_true}
use Rattle.std.proofs.lemmas.List.{take_more, append_assoc, append-nil}
use Rattle.std.proofs.lemmas.Grind.{common_steps}
use Rattle.e_literal.specs.declared.object.Obj.{Obj}
use Rattle.e_literal.specs.declared.object.Scope.{Scope}
use Rattle.e_literal.specs.declared.object.Sort.{Sort}
use Rattle.e_literal.specs.declared.object.Sort.TheVariants.{Point, Line, Circle}
use Rattle.e_literal.specs.Literal.{obj, count_of, is_in_scope}
use Rattle.e_literal.specs.Scopes.{same_sort, with_one, with_sorts, next_objects}
use Rattle.e_literal.proofs.Sorts.{same_sort_is, same_sort_self}
use Rattle.e_trim.specs.Trimmed.{is_lesser_of_sort, kept_before, obj_at}
use Rattle.e_trim.proofs.renumbering.Members.{In, in_either}
use Rattle.e_trim.proofs.renumbering.TermsAt.{Keeps}

abbrev one_if : Bool → ℕ
one_if b = cond b 1 0

pub is_one : (b : Bool) → b ≡ true → one_if b ≡ 1
is_one b h = ap one_if h

pub is_none : (b : Bool) → b ≡ false → one_if b ≡ 0
is_none b h = ap one_if h

weight : (b c : Bool) → (b ≡ true → c ≡ true) → one_if b ≤ one_if c
weight true true h = omega arith
weight true false h = absurd (true≢false (sym (h refl)))
weight false true h = omega arith
weight false false h = omega arith

one_at_most : (b : Bool) → one_if b ≤ 1
one_at_most true = omega arith
one_at_most false = omega arith

-- ---- less

pub less_from : (k : Obj) (sort : Sort) (n : ℕ) → k.sort ≡ sort → k.num < n → is_lesser_of_sort k sort n ≡ true
less_from k sort n e h = and_from (same_sort k.sort sort) (ltb k.num n) (ap (λ s. same_sort s sort) e ∙ same_sort_self sort) (lt-ltb k.num n h)

less_is : (k : Obj) (sort : Sort) (n : ℕ) → is_lesser_of_sort k sort n ≡ true → (k.sort ≡ sort) × (k.num < n)
less_is k sort n h =
    let p = and_parts (same_sort k.sort sort) (ltb k.num n) h in (same_sort_is k.sort sort p.0, ltb-true k.num n p.1)

pub not_less : (k : Obj) (sort : Sort) (n : ℕ) → (k.sort ≡ sort → n ≤ k.num) → is_lesser_of_sort k sort n ≡ false
not_less k sort n h = false_from_ne_true (is_lesser_of_sort k sort n) (λ t. let p = less_is k sort n t in omega (arith, h p.0, p.1))

-- ---- numbers grow with the old ones

pub number_grows : (kept : List Obj) (sort : Sort) (m n : ℕ) → m ≤ n → kept_before kept sort m ≤ kept_before kept sort n
number_grows [] sort m n h = omega arith
number_grows (k ∷ kept) sort m n h =
    let here = weight (is_lesser_of_sort k sort m) (is_lesser_of_sort k sort n) (λ e. let p = less_is k sort m e in less_from k sort n p.0 (omega (arith, p.1, h))) in
    let more = number_grows kept sort m n h in
    omega (arith, here, more)

pub number_less : (kept : List Obj) (sort : Sort) (m n : ℕ) → In (obj sort m) kept → m < n → kept_before kept sort m < kept_before kept sort n
number_less [] sort m n i h = absurd i
number_less (k ∷ kept) sort m n (inl e) h =
    let s = ap (λ (o : Obj). o.sort) e in
    let num = ap (λ (o : Obj). o.num) e in
    let no = is_none (is_lesser_of_sort k sort m) (not_less k sort m (λ f. omega (arith, num))) in
    let yes = is_one (is_lesser_of_sort k sort n) (less_from k sort n s (omega (arith, num, h))) in
    let more = number_grows kept sort m n (omega (arith, h)) in
    omega (arith, no, yes, more)
number_less (k ∷ kept) sort m n (inr i) h =
    let here = weight (is_lesser_of_sort k sort m) (is_lesser_of_sort k sort n) (λ e. let p = less_is k sort m e in less_from k sort n p.0 (omega (arith, p.1, h))) in
    let more = number_less kept sort m n i h in
    omega (arith, here, more)

pub same_number : (kept : List Obj) (sort : Sort) (m n : ℕ) → In (obj sort m) kept → In (obj sort n) kept → eqb (kept_before kept sort m) (kept_before kept sort n) ≡ eqb m n
same_number kept sort m n i j = elim (cases_order m n) [
  | inl e ↦ eq-eqb (kept_before kept sort m) (kept_before kept sort n) (ap (kept_before kept sort) e) ∙ sym (eq-eqb m n e)
  | inr h ↦ elim h [
    | inl l ↦ ne_eqb (kept_before kept sort m) (kept_before kept sort n) (λ e. omega (arith, e, number_less kept sort m n i l)) ∙ sym (ne_eqb m n (λ e. omega (arith, e, l)))
    | inr l ↦ ne_eqb (kept_before kept sort m) (kept_before kept sort n) (λ e. omega (arith, e, number_less kept sort n m j l)) ∙ sym (ne_eqb m n (λ e. omega (arith, e, l)))
  ]
]

-- the numbers of kept points
abbrev pub OfSort : List Obj → Sort → ℕ → Type 0
OfSort kept sort n = In (obj sort n) kept

-- the order stays, and kept points stay distinct
pub keeps : (kept : List Obj) → Keeps (kept_before kept Point) (OfSort kept Point)
keeps kept = record { grows = number_grows kept Point; same = λ m n i j. same_number kept Point m n i j }

-- ---- how many are kept

-- of the sort
abbrev pub tally : List Obj → Sort → ℕ
tally [] sort = 0
tally (k ∷ kept) sort = one_if (same_sort k.sort sort) + tally kept sort

-- the scope of the kept objects
abbrev pub scope_kept : List Obj → Scope
scope_kept kept = record { points = tally kept Point; lines = tally kept Line; circles = tally kept Circle }

pub count_kept : (kept : List Obj) (sort : Sort) → count_of (scope_kept kept) sort ≡ tally kept sort
count_kept kept Point = refl
count_kept kept Line = refl
count_kept kept Circle = refl

number_tallied : (kept : List Obj) (sort : Sort) (n : ℕ) → kept_before kept sort n ≤ tally kept sort
number_tallied [] sort n = omega arith
number_tallied (k ∷ kept) sort n =
    let here = weight (is_lesser_of_sort k sort n) (same_sort k.sort sort) (λ e. (and_parts (same_sort k.sort sort) (ltb k.num n) e).0) in
    let more = number_tallied kept sort n in
    omega (arith, here, more)

-- a kept object has a number below their count
pub number_bounded : (kept : List Obj) (o : Obj) → In o kept → kept_before kept o.sort o.num < tally kept o.sort
number_bounded [] o i = absurd i
number_bounded (k ∷ kept) o (inl e) =
    let s = ap (λ (x : Obj). x.sort) e in
    let num = ap (λ (x : Obj). x.num) e in
    let no = is_none (is_lesser_of_sort k o.sort o.num) (not_less k o.sort o.num (λ f. omega (arith, num))) in
    let yes = is_one (same_sort k.sort o.sort) (ap (λ x. same_sort x o.sort) s ∙ same_sort_self o.sort) in
    let more = number_tallied kept o.sort o.num in
    omega (arith, no, yes, more)
number_bounded (k ∷ kept) o (inr i) =
    let here = weight (is_lesser_of_sort k o.sort o.num) (same_sort k.sort o.sort) (λ e. (and_parts (same_sort k.sort o.sort) (ltb k.num o.num) e).0) in
    let more = number_bounded kept o i in
    omega (arith, here, more)

pub in_scope_kept : (kept : List Obj) (o : Obj) → In o kept → is_in_scope (scope_kept kept) (obj_at kept o) ≡ true
in_scope_kept kept o i = lt-ltb (kept_before kept o.sort o.num) (count_of (scope_kept kept) o.sort) (subst (λ n. kept_before kept o.sort o.num < n) (sym (count_kept kept o.sort)) (number_bounded kept o i))

-- where all kept objects of the sort have lesser numbers, the next number is their count
pub number_next : (kept : List Obj) (sort : Sort) (n : ℕ) → ((k : Obj) → In k kept → k.sort ≡ sort → k.num < n) → kept_before kept sort n ≡ tally kept sort
number_next [] sort n h = refl
number_next (k ∷ kept) sort n h = elim (cases_Bool (same_sort k.sort sort)) [
  | inl e ↦
      let yes = is_one (is_lesser_of_sort k sort n) (less_from k sort n (same_sort_is k.sort sort e) (h k (inl refl) (same_sort_is k.sort sort e))) in
      let one = is_one (same_sort k.sort sort) e in
      let more = number_next kept sort n (λ j i. h j (inr i)) in
      omega (arith, yes, one, more)
  | inr e ↦
      let no = is_none (is_lesser_of_sort k sort n) (ap (λ b. b && ltb k.num n) e) in
      let none = is_none (same_sort k.sort sort) e in
      let more = number_next kept sort n (λ j i. h j (inr i)) in
      omega (arith, no, none, more)
]

-- ---- more objects are kept

pub number-append : (ks js : List Obj) (sort : Sort) (n : ℕ) → kept_before (ks ++ js) sort n ≡ kept_before ks sort n + kept_before js sort n
number-append [] js sort n = omega arith
number-append (k ∷ ks) js sort n = let more = number-append ks js sort n in omega (arith, more)

tally-append : (ks js : List Obj) (sort : Sort) → tally (ks ++ js) sort ≡ tally ks sort + tally js sort
tally-append [] js sort = omega arith
tally-append (k ∷ ks) js sort = let more = tally-append ks js sort in omega (arith, more)

pub none_less : (js : List Obj) (sort : Sort) (n : ℕ) → ((k : Obj) → In k js → k.sort ≡ sort → n ≤ k.num) → kept_before js sort n ≡ 0
none_less [] sort n h = refl
none_less (j ∷ js) sort n h =
    let no = is_none (is_lesser_of_sort j sort n) (not_less j sort n (h j (inl refl))) in
    let more = none_less js sort n (λ k i. h k (inr i)) in
    omega (arith, no, more)

-- objects with greater numbers change no number up to theirs
pub number_stays : (ks js : List Obj) (sort : Sort) (n : ℕ) → ((k : Obj) → In k js → k.sort ≡ sort → n ≤ k.num) → kept_before (ks ++ js) sort n ≡ kept_before ks sort n
number_stays ks js sort n h = let a = number-append ks js sort n in let b = none_less js sort n h in omega (arith, a, b)

-- ---- the next objects of a scope

pub counts_grow : (s : Scope) (x y : Sort) → count_of s y ≤ count_of (with_one s x) y
counts_grow s Point Point = omega arith
counts_grow s Point Line = omega arith
counts_grow s Point Circle = omega arith
counts_grow s Line Point = omega arith
counts_grow s Line Line = omega arith
counts_grow s Line Circle = omega arith
counts_grow s Circle Point = omega arith
counts_grow s Circle Line = omega arith
counts_grow s Circle Circle = omega arith

count_more : (s : Scope) (x : Sort) → count_of (with_one s x) x ≡ count_of s x + 1
count_more s Point = refl
count_more s Line = refl
count_more s Circle = refl

-- they have no lesser numbers than those of the scope
pub next_above : (s : Scope) (sorts : List Sort) (o : Obj) → In o (next_objects s sorts) → count_of s o.sort ≤ o.num
next_above s [] o i = absurd i
next_above s (x ∷ sorts) o (inl e) = subst (λ (k : Obj). count_of s k.sort ≤ k.num) e (omega arith)
next_above s (x ∷ sorts) o (inr i) = let more = next_above (with_one s x) sorts o i in let less = counts_grow s x o.sort in omega (arith, more, less)

counts_grown : (s : Scope) (sorts : List Sort) (y : Sort) → count_of s y ≤ count_of (with_sorts s sorts) y
counts_grown s [] y = omega arith
counts_grown s (x ∷ sorts) y = let a = counts_grow s x y in let b = counts_grown (with_one s x) sorts y in omega (arith, a, b)

-- and are in the wider scope
pub next_below : (s : Scope) (sorts : List Sort) (o : Obj) → In o (next_objects s sorts) → o.num < count_of (with_sorts s sorts) o.sort
next_below s [] o i = absurd i
next_below s (x ∷ sorts) o (inl e) =
    subst (λ (k : Obj). k.num < count_of (with_sorts (with_one s x) sorts) k.sort) e
    (let a = count_more s x in let b = counts_grown (with_one s x) sorts x in omega (arith, a, b))
next_below s (x ∷ sorts) o (inr i) = next_below (with_one s x) sorts o i

-- all kept objects are in scope
abbrev pub Bound : Scope → List Obj → Type 0
Bound s kept = (k : Obj) → In k kept → k.num < count_of s k.sort

pub bound_more : (s : Scope) (kept : List Obj) (sorts : List Sort) → Bound s kept → Bound (with_sorts s sorts) (kept ++ next_objects s sorts)
bound_more s kept sorts h k i = elim (in_either k kept (next_objects s sorts) i) [
  | inl j ↦ let a = h k j in let b = counts_grown s sorts k.sort in omega (arith, a, b)
  | inr j ↦ next_below s sorts k j
]

pub bound_wide : (s : Scope) (kept : List Obj) (sorts : List Sort) → Bound s kept → Bound (with_sorts s sorts) kept
bound_wide s kept sorts h k i = let a = h k i in let b = counts_grown s sorts k.sort in omega (arith, a, b)

tally_one : (kept : List Obj) (x : Sort) (n : ℕ) → scope_kept (kept ++ obj x n ∷ []) ≡ with_one (scope_kept kept) x
tally_one kept Point n =
    let a = tally-append kept (obj Point n ∷ []) Point in let b = tally-append kept (obj Point n ∷ []) Line in let c = tally-append kept (obj Point n ∷ []) Circle in
    let b' : tally (kept ++ obj Point n ∷ []) Line ≡ tally kept Line = omega (arith, b) in
    let c' : tally (kept ++ obj Point n ∷ []) Circle ≡ tally kept Circle = omega (arith, c) in
    let a' : tally (kept ++ obj Point n ∷ []) Point ≡ tally kept Point + 1 = omega (arith, a) in
    rw (a', b', c') refl
tally_one kept Line n =
    let a = tally-append kept (obj Line n ∷ []) Point in let b = tally-append kept (obj Line n ∷ []) Line in let c = tally-append kept (obj Line n ∷ []) Circle in
    let a' : tally (kept ++ obj Line n ∷ []) Point ≡ tally kept Point = omega (arith, a) in
    let c' : tally (kept ++ obj Line n ∷ []) Circle ≡ tally kept Circle = omega (arith, c) in
    let b' : tally (kept ++ obj Line n ∷ []) Line ≡ tally kept Line + 1 = omega (arith, b) in
    rw (a', b', c') refl
tally_one kept Circle n =
    let a = tally-append kept (obj Circle n ∷ []) Point in let b = tally-append kept (obj Circle n ∷ []) Line in let c = tally-append kept (obj Circle n ∷ []) Circle in
    let a' : tally (kept ++ obj Circle n ∷ []) Point ≡ tally kept Point = omega (arith, a) in
    let b' : tally (kept ++ obj Circle n ∷ []) Line ≡ tally kept Line = omega (arith, b) in
    let c' : tally (kept ++ obj Circle n ∷ []) Circle ≡ tally kept Circle + 1 = omega (arith, c) in
    rw (a', b', c') refl

pub scope_more : (kept : List Obj) (s : Scope) (sorts : List Sort) → scope_kept (kept ++ next_objects s sorts) ≡ with_sorts (scope_kept kept) sorts
scope_more kept s [] = ap scope_kept (append-nil kept)
scope_more kept s (x ∷ sorts) =
    let o = obj x (count_of s x) in
    ap scope_kept (sym (append_assoc kept (o ∷ []) (next_objects (with_one s x) sorts)))
    ∙ scope_more (kept ++ o ∷ []) (with_one s x) sorts
    ∙ ap (λ t. with_sorts t sorts) (tally_one kept x (count_of s x))

-- the next objects take the next numbers
pub next_at : (kept : List Obj) (s : Scope) (sorts : List Sort) → Bound s kept → map (obj_at (kept ++ next_objects s sorts)) (next_objects s sorts) ≡ next_objects (scope_kept kept) sorts
next_at kept s [] h = refl
next_at kept s (x ∷ sorts) h =
    let o = obj x (count_of s x) in
    let rest = next_objects (with_one s x) sorts in
    let more = kept ++ o ∷ [] in
    let all = sym (append_assoc kept (o ∷ []) rest) in
    let above : (k : Obj) → In k rest → k.sort ≡ x → count_of s x ≤ k.num
    = λ k i e. (let a = next_above (with_one s x) sorts k i in let b = counts_grow s x k.sort in let c = ap (λ y. count_of s y) e in omega (arith, a, b, c)) in
    let own = number_stays more rest x (count_of s x) above ∙ number_stays kept (o ∷ []) x (count_of s x) (λ k i e. elim i [ inl f ↦ omega (arith, ap (λ (y : Obj). y.num) f) | inr f ↦ absurd f ])
    ∙ number_next kept x (count_of s x) (λ k i e. subst (λ y. k.num < count_of s y) e (h k i)) in
    let head : obj_at (more ++ rest) o ≡ obj x (count_of (scope_kept kept) x) = ap (obj x) (own ∙ sym (count_kept kept x)) in
    let bound : Bound (with_one s x) more = bound_more s kept (x ∷ []) h in
    let tail = next_at more (with_one s x) sorts bound ∙ ap (λ t. next_objects t sorts) (tally_one kept x (count_of s x)) in
    ap (λ ks. map (obj_at ks) (o ∷ rest)) all ∙ ap (λ y. y ∷ map (obj_at (more ++ rest)) rest) head ∙ ap (λ ys. obj x (count_of (scope_kept kept) x) ∷ ys) tail

-- ---- one by one

pub counted : (kept : List Obj) (sort : Sort) (i n : ℕ) (d : Obj) → i < length kept → is_lesser_of_sort (get_or kept i d) sort n ≡ true → kept_before (take (i + 1) kept) sort n ≡ kept_before (take i kept) sort n + 1
counted kept sort i n d h k =
    let e = ap (λ ks. kept_before ks sort n) (take_more kept i d h) ∙ number-append (take i kept) (get_or kept i d ∷ []) sort n in
    let yes = is_one (is_lesser_of_sort (get_or kept i d) sort n) k in
    omega (arith, e, yes)

pub passed : (kept : List Obj) (sort : Sort) (i n : ℕ) (d : Obj) → i < length kept → is_lesser_of_sort (get_or kept i d) sort n ≡ false → kept_before (take (i + 1) kept) sort n ≡ kept_before (take i kept) sort n
passed kept sort i n d h k =
    let e = ap (λ ks. kept_before ks sort n) (take_more kept i d h) ∙ number-append (take i kept) (get_or kept i d ∷ []) sort n in
    let none = is_none (is_lesser_of_sort (get_or kept i d) sort n) k in
    omega (arith, e, none)

pub ruleset counting = (common_steps, counted, passed)
