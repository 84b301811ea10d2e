-- The images of a statement's objects.
use Rattle.std.proofs.Common.{◌≡◌, ℕ, zero, suc, ◌+◌, ◌<◌, ◌≤◌, List, [], ◌∷◌, ◌++◌, length, map, refl, sym, ap, ◌∙◌, subst, arith, Bool, true, false, cond, eqb, ◌&&◌, true≢false, inl, inr, Option, Some, None}
use Rattle.std.specs.Prelude.{◌-◌, ◌^◌, nat_lt, slice_get, filter}
use Rattle.std.proofs.lemmas.Bool.{lt-ltb, le-ltb, cases_lt, cases_Bool}
use Rattle.std.proofs.lemmas.Bool.Decides.{nat_tests}
use Rattle.std.proofs.lemmas.Grind.{common_steps}
use Rattle.std.proofs.lemmas.List.{map-append}
use Rattle.e_literal.specs.declared.object.Obj.{Obj}
use Rattle.e_literal.specs.declared.object.Scope.{Scope}
use Rattle.e_literal.specs.declared.object.Sort.{Sort}
use Rattle.e_literal.specs.declared.object.Sort.TheVariants.{Point, Line, Circle}
use Rattle.e_literal.specs.declared.literal.Lit.{Lit}
use Rattle.e_literal.specs.declared.map.Entry.{Entry}
use Rattle.e_literal.specs.Literal.{obj, count_of, is_in_scope}
use Rattle.e_literal.specs.Scopes.{same_sort, nothing, with_one, with_sorts, next_objects, are_of_sorts}
use Rattle.e_literal.specs.Rename.{same_obj, image_in, pairs_of, with_images}
use Rattle.e_literal.specs.Use.{StatementView, scope_of, nth_of_sort, image_in_use, are_arguments}
use Rattle.e_literal.proofs.GrownScopes.{grown_bounds, counts_nothing, sorts_next}
use Rattle.e_literal.proofs.WithImages.{image_in_second}
use Rattle.e_literal.proofs.Sorts.{same_sort_is, sorts_of_objects}
use Rattle.e_literal.proofs.Booleans.{and_left, and_right}

-- ---- counts

-- one more of the sort, and no more of another
pub counted : (s : Scope) (sort x : Sort) → count_of (with_one s sort) x ≡ count_of s x + cond (same_sort sort x) 1 0
counted s Point Point = omega arith
counted s Point Line = omega arith
counted s Point Circle = omega arith
counted s Line Point = omega arith
counted s Line Line = omega arith
counted s Line Circle = omega arith
counted s Circle Point = omega arith
counted s Circle Line = omega arith
counted s Circle Circle = omega arith

pub counted_here : (s : Scope) (sort x : Sort) → same_sort sort x ≡ true → count_of (with_one s sort) x ≡ count_of s x + 1
counted_here s sort x h = counted s sort x ∙ ap (λ b. count_of s x + cond b 1 0) h

pub counted_other : (s : Scope) (sort x : Sort) → same_sort sort x ≡ false → count_of (with_one s sort) x ≡ count_of s x
counted_other s sort x h = counted s sort x ∙ ap (λ b. count_of s x + cond b 1 0) h ∙ omega arith

pub counts_grow : (s : Scope) (sorts : List Sort) (x : Sort) → count_of s x ≤ count_of (with_sorts s sorts) x
counts_grow s [] x = omega arith
counts_grow s (sort ∷ sorts) x = omega (arith, counts_grow (with_one s sort) sorts x, counted s sort x)

-- ---- the next object of a scope is no object that is there before, and none that comes after

apart : (b : Bool) (m n : ℕ) → (b ≡ true → (m ≡ n → ⊥)) → (b && eqb m n) ≡ false
apart false m n h = refl
apart true m n h = let differ = h refl in grind (arith, nat_tests)

same_count : (s : Scope) (sort x : Sort) → same_sort sort x ≡ true → count_of s sort ≡ count_of s x
same_count s sort x h = ap (count_of s) (same_sort_is sort x h)

pub not_before : (s : Scope) (sort : Sort) (o : Obj) → o.num < count_of s o.sort → same_obj (obj sort (count_of s sort)) o ≡ false
not_before s sort o less = apart (same_sort sort o.sort) (count_of s sort) o.num (λ same e. omega (arith, less, same_count s sort o.sort same, e))

pub not_after : (s : Scope) (sort : Sort) (o : Obj) → count_of (with_one s sort) o.sort ≤ o.num → same_obj (obj sort (count_of s sort)) o ≡ false
not_after s sort o more =
    apart (same_sort sort o.sort) (count_of s sort) o.num
    (λ same e. omega (arith, more, counted_here s sort o.sort same, same_count s sort o.sort same, e))

pub other_sort : (s : Scope) (sort : Sort) (o : Obj) → same_sort sort o.sort ≡ false → same_obj (obj sort (count_of s sort)) o ≡ false
other_sort s sort o h = ap (λ b. b && eqb (count_of s sort) o.num) h

pub this_one : (s : Scope) (sort : Sort) (o : Obj) → same_sort sort o.sort ≡ true → o.num ≡ count_of s o.sort → same_obj (obj sort (count_of s sort)) o ≡ true
this_one s sort o same is =
    let e : count_of s sort ≡ o.num = same_count s sort o.sort same ∙ sym is in
    ap (λ b. b && eqb (count_of s sort) o.num) same ∙ grind (arith, nat_tests)

-- ---- images by the objects that come next in a scope

next_head : (o t : Obj) (b : Bool) (rest : Option Obj) → b ≡ false → cond b (Some t) rest ≡ rest
next_head o t b rest h = ap (λ c. cond c (Some t) rest) h

pub none_before : (b : Scope) (sorts : List Sort) (os : List Obj) (o : Obj) → o.num < count_of b o.sort → image_in (pairs_of (next_objects b sorts) os) o ≡ None
none_before b [] os o h = refl
none_before b (sort ∷ sorts) [] o h = refl
none_before b (sort ∷ sorts) (t ∷ os) o h =
    next_head o t _ _ (not_before b sort o h) ∙ none_before (with_one b sort) sorts os o (omega (arith, h, counted b sort o.sort))

pub none_after : (b : Scope) (sorts : List Sort) (os : List Obj) (o : Obj) → count_of (with_sorts b sorts) o.sort ≤ o.num → image_in (pairs_of (next_objects b sorts) os) o ≡ None
none_after b [] os o h = refl
none_after b (sort ∷ sorts) [] o h = refl
none_after b (sort ∷ sorts) (t ∷ os) o h =
    next_head o t _ _ (not_after b sort o (omega (arith, h, counts_grow (with_one b sort) sorts o.sort))) ∙ none_after (with_one b sort) sorts os o h

-- the n-th object of a sort
pub nth_there : (s b : Scope) (sorts : List Sort) (args : List Obj) (o : Obj) (d : ℕ) → are_of_sorts s sorts args ≡ true → o.num ≡ count_of b o.sort + d
    → image_in (pairs_of (next_objects b sorts) args) o ≡ nth_of_sort o.sort d args
nth_there s b [] [] o d fit is = refl
nth_there s b [] (a ∷ args) o d fit is = absurd (true≢false (sym fit))
nth_there s b (sort ∷ sorts) [] o d fit is = absurd (true≢false (sym fit))
nth_there s b (sort ∷ sorts) (a ∷ args) o d fit is =
    let sorted = same_sort_is sort a.sort (and_left (same_sort sort a.sort) _ fit) in
    let rest = and_right (is_in_scope s a) _ (and_right (same_sort sort a.sort) _ fit) in
    elim (cases_Bool (same_sort sort o.sort)) [
      | inl same ↦ here (λ n k. nth_there s (with_one b sort) sorts args o n rest k) d same (subst (λ x. same_sort x o.sort ≡ true) sorted same) is
      | inr other ↦ next_head o a _ _ (other_sort b sort o other)
          ∙ nth_there s (with_one b sort) sorts args o d rest (is ∙ ap (λ n. n + d) (sym (counted_other b sort o.sort other)))
          ∙ sym (ap (λ c. slice_get (cond c (a ∷ filter (λ x. same_sort x.sort o.sort) args) (filter (λ x. same_sort x.sort o.sort) args)) d) (subst (λ x. same_sort x o.sort ≡ false) sorted other))
    ]
  where
    here : ((n : ℕ) → o.num ≡ count_of (with_one b sort) o.sort + n → image_in (pairs_of (next_objects (with_one b sort) sorts) args) o ≡ nth_of_sort o.sort n args)
        → (d : ℕ) → same_sort sort o.sort ≡ true → same_sort a.sort o.sort ≡ true → o.num ≡ count_of b o.sort + d
        → image_in (pairs_of (next_objects b (sort ∷ sorts)) (a ∷ args)) o ≡ nth_of_sort o.sort d (a ∷ args)
    here later zero same kept is =
        ap (λ c. cond c (Some a) (image_in (pairs_of (next_objects (with_one b sort) sorts) args) o)) (this_one b sort o same (is ∙ omega arith))
        ∙ sym (ap (λ c. slice_get (cond c (a ∷ filter (λ x. same_sort x.sort o.sort) args) (filter (λ x. same_sort x.sort o.sort) args)) zero) kept)
    here later (suc d) same kept is =
        next_head o a _ _ (not_after b sort o (omega (arith, is, counted_here b sort o.sort same)))
        ∙ later d (omega (arith, is, counted_here b sort o.sort same))
        ∙ sym (ap (λ c. slice_get (cond c (a ∷ filter (λ x. same_sort x.sort o.sort) args) (filter (λ x. same_sort x.sort o.sort) args)) (suc d)) kept)

-- the next object of another scope
pub new_there : (s b : Scope) (sorts : List Sort) (o : Obj) (d : ℕ) → o.num ≡ count_of b o.sort + d → o.num < count_of (with_sorts b sorts) o.sort
    → image_in (pairs_of (next_objects b sorts) (next_objects s sorts)) o ≡ Some (obj o.sort (count_of s o.sort + d))
new_there s b [] o d is less = absurd (omega (arith, is, less))
new_there s b (sort ∷ sorts) o d is less =
    elim (cases_Bool (same_sort sort o.sort)) [
      | inl same ↦ here (λ n k. new_there (with_one s sort) (with_one b sort) sorts o n k less) d same is
      | inr other ↦ next_head o (obj sort (count_of s sort)) _ _ (other_sort b sort o other)
          ∙ new_there (with_one s sort) (with_one b sort) sorts o d (is ∙ ap (λ n. n + d) (sym (counted_other b sort o.sort other))) less
          ∙ ap (λ n. Some (obj o.sort (n + d))) (counted_other s sort o.sort other)
    ]
  where
    here : ((n : ℕ) → o.num ≡ count_of (with_one b sort) o.sort + n
        → image_in (pairs_of (next_objects (with_one b sort) sorts) (next_objects (with_one s sort) sorts)) o ≡ Some (obj o.sort (count_of (with_one s sort) o.sort + n)))
        → (d : ℕ) → same_sort sort o.sort ≡ true → o.num ≡ count_of b o.sort + d
        → image_in (pairs_of (next_objects b (sort ∷ sorts)) (next_objects s (sort ∷ sorts))) o ≡ Some (obj o.sort (count_of s o.sort + d))
    here later zero same is =
        ap (λ c. cond c (Some (obj sort (count_of s sort))) (image_in (pairs_of (next_objects (with_one b sort) sorts) (next_objects (with_one s sort) sorts)) o))
        (this_one b sort o same (is ∙ omega arith))
        ∙ ap (λ x. Some (obj x (count_of s x))) (same_sort_is sort o.sort same)
        ∙ ap (λ n. Some (obj o.sort n)) (omega arith)
    here later (suc d) same is =
        next_head o (obj sort (count_of s sort)) _ _ (not_after b sort o (omega (arith, is, counted_here b sort o.sort same)))
        ∙ later d (omega (arith, is, counted_here b sort o.sort same))
        ∙ ap (λ n. Some (obj o.sort n)) (omega (arith, counted_here s sort o.sort same))

-- ---- one list of pairs after another

pub only_first : (x y : List Entry) (o : Obj) → image_in y o ≡ None → image_in (x ++ y) o ≡ image_in x o
only_first [] y o h = h
only_first (e ∷ x) y o h = ap (λ r. cond (same_obj e.source o) (Some e.target) r) (only_first x y o h)

pub paired_after : (s b : Scope) (sorts : List Sort) (args more : List Obj) (after : List Obj) → are_of_sorts s sorts args ≡ true
    → pairs_of (next_objects b sorts ++ more) (args ++ after) ≡ pairs_of (next_objects b sorts) args ++ pairs_of more after
paired_after s b [] [] more after fit = refl
paired_after s b [] (a ∷ args) more after fit = absurd (true≢false (sym fit))
paired_after s b (sort ∷ sorts) [] more after fit = absurd (true≢false (sym fit))
paired_after s b (sort ∷ sorts) (a ∷ args) more after fit =
    ap (λ es. record { source = obj sort (count_of b sort); target = a } ∷ es)
    (paired_after s (with_one b sort) sorts args more after (and_right (is_in_scope s a) _ (and_right (same_sort sort a.sort) _ fit)))

-- ---- the images of a statement's objects

-- the objects of a statement
abbrev pub sources : StatementView → List Obj
sources t = next_objects nothing t.declared ++ next_objects (scope_of t) t.made

-- what stands for them
abbrev pub targets : StatementView → List Obj → Scope → List Obj
targets t args s = args ++ next_objects s t.made

abbrev pub made_image : StatementView → Scope → Obj → Option Obj
made_image t s o =
    cond (nat_lt o.num (count_of (with_sorts (scope_of t) t.made) o.sort)) (Some (obj o.sort (count_of s o.sort + (o.num - count_of (scope_of t) o.sort)))) None

pub imaged : (t : StatementView) (args : List Obj) (s : Scope) (o : Obj) → are_arguments t s args ≡ true → image_in (pairs_of (sources t) (targets t args s)) o ≡ image_in_use t args s o
imaged t args s o fit =
    ap (λ es. image_in es o) (paired_after s nothing t.declared args (next_objects (scope_of t) t.made) (next_objects s t.made) fit) ∙
    elim (cases_lt o.num (count_of (scope_of t) o.sort)) [
      | inl less ↦
          only_first (pairs_of (next_objects nothing t.declared) args) _ o (none_before (scope_of t) t.made (next_objects s t.made) o less)
          ∙ nth_there s nothing t.declared args o o.num fit (omega (arith, counts_nothing o.sort))
          ∙ sym (ap (λ b. cond b (nth_of_sort o.sort o.num args) (made_image t s o)) (lt-ltb o.num (count_of (scope_of t) o.sort) less))
      | inr more ↦
          image_in_second (pairs_of (next_objects nothing t.declared) args) _ o (none_after nothing t.declared args o more)
          ∙ made_part t s o more
          ∙ sym (ap (λ b. cond b (nth_of_sort o.sort o.num args) (made_image t s o)) (le-ltb o.num (count_of (scope_of t) o.sort) more))
    ]
  where
    made_part : (t : StatementView) (s : Scope) (o : Obj) → count_of (scope_of t) o.sort ≤ o.num → image_in (pairs_of (next_objects (scope_of t) t.made) (next_objects s t.made)) o ≡ made_image t s o
    made_part t s o more =
        elim (cases_lt o.num (count_of (with_sorts (scope_of t) t.made) o.sort)) [
          | inl less ↦ new_there s (scope_of t) t.made o (o.num - count_of (scope_of t) o.sort) (omega (arith, more)) less
              ∙ sym (ap (λ b. cond b (Some (obj o.sort (count_of s o.sort + (o.num - count_of (scope_of t) o.sort)))) None) (lt-ltb o.num (count_of (with_sorts (scope_of t) t.made) o.sort) less))
          | inr past ↦ none_after (scope_of t) t.made (next_objects s t.made) o past
              ∙ sym (ap (λ b. cond b (Some (obj o.sort (count_of s o.sort + (o.num - count_of (scope_of t) o.sort)))) None) (le-ltb o.num (count_of (with_sorts (scope_of t) t.made) o.sort) past))
        ]

-- ---- sorts of the pairs

pub sorts_agree : (t : StatementView) (args : List Obj) (s : Scope) → are_arguments t s args ≡ true
    → map (λ (o : Obj). o.sort) (sources t) ≡ map (λ (o : Obj). o.sort) (targets t args s)
sorts_agree t args s fit =
    map-append (λ (o : Obj). o.sort) (next_objects nothing t.declared) (next_objects (scope_of t) t.made)
    ∙ ap (λ xs. xs ++ map (λ (o : Obj). o.sort) (next_objects (scope_of t) t.made)) (sorts_next nothing t.declared ∙ sym (sorts_of_objects s t.declared args fit))
    ∙ ap (λ xs. map (λ (o : Obj). o.sort) args ++ xs) (sorts_next (scope_of t) t.made ∙ sym (sorts_next s t.made))
    ∙ sym (map-append (λ (o : Obj). o.sort) args (next_objects s t.made))

-- ---- literals with these images

pub same_images : (f g : Obj → Option Obj) (ls : List Lit) → ((o : Obj) → f o ≡ g o) → map (with_images f) ls ≡ map (with_images g) ls
same_images f g ls h = ap (λ (k : Obj → Option Obj). map (with_images k) ls) (λ i o. h o i)

pub at_images : (r : List Lit) (m : List Entry) (ls : List Lit) (t : StatementView) (args : List Obj) (s : Scope) (lits : List Lit) → r ≡ map (with_images (image_in m)) ls → ls ≡ lits
    → ((o : Obj) → image_in m o ≡ image_in_use t args s o) → r ≡ map (with_images (image_in_use t args s)) lits
at_images r m ls t args s lits is same h = is ∙ ap (map (with_images (image_in m))) same ∙ same_images (image_in m) (image_in_use t args s) lits h

-- ---- numbers of 16 bits are enough

pub few_points : (g : Scope) (ss ms sorts made : List Sort) → g ≡ with_sorts nothing ss → ss ≡ sorts → ms ≡ made → length sorts + length made < 2 ^ 16 → g.points + length ms < 2 ^ 16
few_points g ss ms sorts made is one other h =
    let bounds = grown_bounds nothing sorts in
    rw (is, one, other) (omega (arith, h, bounds.few_points))

pub few_lines : (g : Scope) (ss ms sorts made : List Sort) → g ≡ with_sorts nothing ss → ss ≡ sorts → ms ≡ made → length sorts + length made < 2 ^ 16 → g.lines + length ms < 2 ^ 16
few_lines g ss ms sorts made is one other h =
    let bounds = grown_bounds nothing sorts in
    rw (is, one, other) (omega (arith, h, bounds.few_lines))

pub few_circles : (g : Scope) (ss ms sorts made : List Sort) → g ≡ with_sorts nothing ss → ss ≡ sorts → ms ≡ made → length sorts + length made < 2 ^ 16 → g.circles + length ms < 2 ^ 16
few_circles g ss ms sorts made is one other h =
    let bounds = grown_bounds nothing sorts in
    rw (is, one, other) (omega (arith, h, bounds.few_circles))

-- ---- the map of these pairs

pub one_sort : (x y : List Obj) (t : StatementView) (args : List Obj) (s : Scope) → x ≡ sources t → y ≡ targets t args s → are_arguments t s args ≡ true
    → map (λ (o : Obj). o.sort) x ≡ map (λ (o : Obj). o.sort) y
one_sort x y t args s is other fit = rw (is, other) (sorts_agree t args s fit)

pub imaged_by : (m : List Entry) (x y : List Obj) (t : StatementView) (args : List Obj) (s : Scope) → m ≡ pairs_of x y → x ≡ sources t → y ≡ targets t args s → are_arguments t s args ≡ true
    → (o : Obj) → image_in m o ≡ image_in_use t args s o
imaged_by m x y t args s pairs is other fit o = rw (pairs, is, other) (imaged t args s o fit)

-- ---- sorts that are tested

pub no_sorts : (s : Scope) (sorts : List Sort) (os : List Obj) → length sorts ≡ 0 → 1 ≤ length os → are_of_sorts s sorts os ≡ false
no_sorts s [] [] h k = absurd (omega (arith, k))
no_sorts s [] (o ∷ os) h k = refl
no_sorts s (sort ∷ sorts) os h k = absurd (omega (arith, h))

pub no_objects : (s : Scope) (sorts : List Sort) (os : List Obj) → 1 ≤ length sorts → length os ≡ 0 → are_of_sorts s sorts os ≡ false
no_objects s [] os h k = absurd (omega (arith, h))
no_objects s (sort ∷ sorts) [] h k = refl
no_objects s (sort ∷ sorts) (o ∷ os) h k = absurd (omega (arith, k))

pub ruleset objects = (common_steps, no_sorts, no_objects)
