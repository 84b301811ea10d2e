-- What a use needs and gives is in scope and well formed; which arguments a declared object gets.
use Rattle.std.proofs.Common.{◌≡◌, ℕ, ◌+◌, ◌-◌, ◌<◌, ◌≤◌, List, [], ◌∷◌, map, refl, sym, ap, ◌∙◌, subst, arith, Bool, true, false, cond, ltb, ◌&&◌, true≢false, inl, inr, Option, Some, None}
use Rattle.std.specs.Option.{option_map_or}
use Rattle.std.specs.List.{list_all}
use Rattle.std.proofs.lemmas.Bool.{ltb-true, lt-ltb, le-ltb, cases_lt, cases_Bool}
use Rattle.e_literal.specs.declared.object.Obj.{Obj}
use Rattle.e_literal.specs.declared.object.Scope.{Scope}
use Rattle.e_literal.specs.declared.object.Sort.{Sort}
use Rattle.e_literal.specs.declared.object.Sort.TheVariants.{Point, Line, Circle}
use Rattle.e_literal.specs.declared.literal.Lit.{Lit}
use Rattle.e_literal.specs.Literal.{obj, count_of, is_in_scope, objects_of_atom, all_in_scope}
use Rattle.e_literal.specs.WellFormed.{is_well_formed}
use Rattle.e_literal.specs.Scopes.{same_sort, nothing, with_one, with_sorts, next_objects, are_of_sorts}
use Rattle.e_literal.specs.Rename.{same_obj, image_in, pairs_of, with_images}
use Rattle.e_literal.specs.Use.{StatementView, scope_of, image_in_use, are_arguments, needs_of_use, gives_of_use, nth_of_sort, is_statement}
use Rattle.e_literal.proofs.WithImages.{is_moved_in, renamed_scope, renamed_well_formed}
use Rattle.e_literal.proofs.Sorts.{same_sort_is}
use Rattle.e_literal.proofs.Booleans.{and_left, and_right}
use Rattle.e_clause.specs.LimitedFacts.{is_well_formed_in, are_well_formed_in}
use Rattle.e_theorem.proofs.Imaging.{counted, counts_grow, made_image, counted_here, counted_other, this_one, none_before, imaged, only_first, paired_after}
use Rattle.e_theorem.proofs.Renaming.{same_renamed}

-- ---- the argument for a declared object is in scope

abbrev number_of : Option Obj → ℕ → ℕ
number_of v n = option_map_or (λ (x : Obj). x.num) v n

later : (b : Scope) (sort : Sort) (o : Obj) → same_obj (obj sort (count_of b sort)) o ≡ false → count_of b o.sort ≤ o.num → count_of (with_one b sort) o.sort ≤ o.num
later b sort o differs more =
    elim (cases_Bool (same_sort sort o.sort)) [
      | inl same ↦ elim (cases_lt (count_of b o.sort) o.num) [
        | inl less ↦ omega (arith, less, counted_here b sort o.sort same)
        | inr most ↦ absurd (true≢false (sym (this_one b sort o same (omega (arith, more, most))) ∙ differs))
      ]
      | inr other ↦ omega (arith, more, counted_other b sort o.sort other)
    ]

pub lands : (s b : Scope) (sorts : List Sort) (args : List Obj) (o : Obj) → are_of_sorts s sorts args ≡ true → count_of b o.sort ≤ o.num → o.num < count_of (with_sorts b sorts) o.sort
    → ltb (number_of (image_in (pairs_of (next_objects b sorts) args) o) o.num) (count_of s o.sort) ≡ true
lands s b [] args o fit more less = absurd (omega (arith, more, less))
lands s b (sort ∷ sorts) [] o fit more less = absurd (true≢false (sym fit))
lands s b (sort ∷ sorts) (a ∷ args) o fit more less =
    let rest = and_right (same_sort sort a.sort) _ fit in
    elim (cases_Bool (same_obj (obj sort (count_of b sort)) o)) [
      | inl is ↦
          let sorted : a.sort ≡ o.sort = sym (same_sort_is sort a.sort (and_left (same_sort sort a.sort) _ fit)) ∙ same_sort_is sort o.sort (and_left (same_sort sort o.sort) _ is) in
          ap (λ c. ltb (number_of (cond c (Some a) (image_in (pairs_of (next_objects (with_one b sort) sorts) args) o)) o.num) (count_of s o.sort)) is
          ∙ subst (λ x. ltb a.num (count_of s x) ≡ true) sorted (and_left (is_in_scope s a) _ rest)
      | inr differs ↦
          ap (λ c. ltb (number_of (cond c (Some a) (image_in (pairs_of (next_objects (with_one b sort) sorts) args) o)) o.num) (count_of s o.sort)) differs
          ∙ lands s (with_one b sort) sorts args o (and_right (is_in_scope s a) _ rest) (later b sort o differs more) less
    ]

-- ---- the images of declared objects

abbrev pub declared_images : StatementView → List Obj → Obj → Option Obj
declared_images t args = image_in (pairs_of (next_objects nothing t.declared) args)

nothing_below : (s : Scope) (x : Sort) (n : ℕ) → count_of nothing x ≤ n
nothing_below s Point n = omega arith
nothing_below s Line n = omega arith
nothing_below s Circle n = omega arith

declared_image : (t : StatementView) (args : List Obj) (s : Scope) (o : Obj) → are_arguments t s args ≡ true → is_in_scope (scope_of t) o ≡ true → image_in_use t args s o ≡ declared_images t args o
declared_image t args s o fit declared =
    sym (imaged t args s o fit)
    ∙ ap (λ es. image_in es o) (paired_after s nothing t.declared args (next_objects (scope_of t) t.made) (next_objects s t.made) fit)
    ∙ only_first (pairs_of (next_objects nothing t.declared) args) _ o (none_before (scope_of t) t.made (next_objects s t.made) o (ltb-true o.num (count_of (scope_of t) o.sort) declared))

-- a given literal
abbrev pub is_given : StatementView → Lit → Bool
is_given t l = is_well_formed l && all_in_scope (scope_of t) l

pub given_all : (t : StatementView) → is_statement t ≡ true → list_all (is_given t) t.given ≡ true
given_all t h = and_left (list_all (is_given t) t.given) _ h

one_need : (t : StatementView) (args : List Obj) (s : Scope) (l : Lit) → are_arguments t s args ≡ true → is_given t l ≡ true → with_images (image_in_use t args s) l ≡ with_images (declared_images t args) l
one_need t args s l fit given =
    same_renamed (image_in_use t args s) (declared_images t args) (is_in_scope (scope_of t))
    (λ o h. ap (λ v. number_of v o.num) (declared_image t args s o fit h)) l (and_right (is_well_formed l) _ given)

each_need : (t : StatementView) (args : List Obj) (s : Scope) (ls : List Lit) → are_arguments t s args ≡ true → list_all (is_given t) ls ≡ true
    → map (with_images (image_in_use t args s)) ls ≡ map (with_images (declared_images t args)) ls
each_need t args s [] fit given = refl
each_need t args s (l ∷ ls) fit given =
    ap (λ x. x ∷ map (with_images (image_in_use t args s)) ls) (one_need t args s l fit (and_left (is_given t l) _ given))
    ∙ ap (λ xs. with_images (declared_images t args) l ∷ xs) (each_need t args s ls fit (and_right (is_given t l) _ given))

-- what a use needs, by the images of the declared objects alone
pub needs_declared : (t : StatementView) (args : List Obj) (s : Scope) → is_statement t ≡ true → are_arguments t s args ≡ true
    → needs_of_use t args s ≡ map (with_images (declared_images t args)) t.given
needs_declared t args s states fit = each_need t args s t.given fit (given_all t states)

-- ---- it is good

every : (p q : Obj → Bool) → ((o : Obj) → p o ≡ true → q o ≡ true) → (os : List Obj) → list_all p os ≡ true → list_all q os ≡ true
every p q h [] k = refl
every p q h (o ∷ os) k =
    ap (λ b. b && list_all q os) (h o (and_left (p o) _ k)) ∙ every p q h os (and_right (p o) _ k)

one_good : (t : StatementView) (args : List Obj) (s : Scope) (l : Lit) → are_arguments t s args ≡ true → is_given t l ≡ true → is_well_formed_in s (with_images (declared_images t args) l) ≡ true
one_good t args s l fit given =
    let f = declared_images t args in
    ap (λ b. b && is_well_formed (with_images f l))
    (renamed_scope s f l
    ∙ every (is_in_scope (scope_of t)) (is_moved_in s f)
    (λ o h. lands s nothing t.declared args o fit (nothing_below s o.sort o.num) (ltb-true o.num (count_of (scope_of t) o.sort) h))
    (objects_of_atom l.atom) (and_right (is_well_formed l) _ given))
    ∙ renamed_well_formed f l ∙ and_left (is_well_formed l) _ given

each_good : (t : StatementView) (args : List Obj) (s : Scope) (ls : List Lit) → are_arguments t s args ≡ true → list_all (is_given t) ls ≡ true
    → are_well_formed_in s (map (with_images (declared_images t args)) ls) ≡ true
each_good t args s [] fit given = refl
each_good t args s (l ∷ ls) fit given =
    ap (λ b. b && are_well_formed_in s (map (with_images (declared_images t args)) ls)) (one_good t args s l fit (and_left (is_given t l) _ given))
    ∙ each_good t args s ls fit (and_right (is_given t l) _ given)

pub declared_good : (t : StatementView) (args : List Obj) (s : Scope) → is_statement t ≡ true → are_arguments t s args ≡ true
    → are_well_formed_in s (map (with_images (declared_images t args)) t.given) ≡ true
declared_good t args s states fit = each_good t args s t.given fit (given_all t states)

pub needs_good : (t : StatementView) (args : List Obj) (s : Scope) → is_statement t ≡ true → are_arguments t s args ≡ true → are_well_formed_in s (needs_of_use t args s) ≡ true
needs_good t args s states fit = ap (are_well_formed_in s) (needs_declared t args s states fit) ∙ declared_good t args s states fit

-- ---- what a use gives is good too, with the made objects in scope

same_growth : (s k : Scope) (sorts : List Sort) (x : Sort) → count_of (with_sorts s sorts) x + count_of k x ≡ count_of (with_sorts k sorts) x + count_of s x
same_growth s k [] x = omega arith
same_growth s k (sort ∷ sorts) x = omega (arith, same_growth (with_one s sort) (with_one k sort) sorts x, counted s sort x, counted k sort x)

made_is : (t : StatementView) (args : List Obj) (s : Scope) (o : Obj) → count_of (scope_of t) o.sort ≤ o.num → is_in_scope (with_sorts (scope_of t) t.made) o ≡ true
    → image_in_use t args s o ≡ Some (obj o.sort (count_of s o.sort + (o.num - count_of (scope_of t) o.sort)))
made_is t args s o more all =
    ap (λ b. cond b (nth_of_sort o.sort o.num args) (made_image t s o)) (le-ltb o.num (count_of (scope_of t) o.sort) more)
    ∙ ap (λ b. cond b (Some (obj o.sort (count_of s o.sort + (o.num - count_of (scope_of t) o.sort)))) None) all

shown_lands : (t : StatementView) (args : List Obj) (s : Scope) (o : Obj) → are_arguments t s args ≡ true → is_in_scope (with_sorts (scope_of t) t.made) o ≡ true
    → is_moved_in (with_sorts s t.made) (image_in_use t args s) o ≡ true
shown_lands t args s o fit all =
    elim (cases_lt o.num (count_of (scope_of t) o.sort)) [
      | inl less ↦
          ap (λ v. ltb (number_of v o.num) (count_of (with_sorts s t.made) o.sort)) (declared_image t args s o fit (lt-ltb o.num (count_of (scope_of t) o.sort) less))
          ∙ (let here = ltb-true (number_of (declared_images t args o) o.num) (count_of s o.sort) (lands s nothing t.declared args o fit (nothing_below s o.sort o.num) less) in
          lt-ltb (number_of (declared_images t args o) o.num) (count_of (with_sorts s t.made) o.sort) (omega (arith, here, counts_grow s t.made o.sort)))
      | inr more ↦
          ap (λ v. ltb (number_of v o.num) (count_of (with_sorts s t.made) o.sort)) (made_is t args s o more all)
          ∙ (let here = ltb-true o.num (count_of (with_sorts (scope_of t) t.made) o.sort) all in
          lt-ltb (count_of s o.sort + (o.num - count_of (scope_of t) o.sort)) (count_of (with_sorts s t.made) o.sort) (omega (arith, here, more, same_growth s (scope_of t) t.made o.sort)))
    ]

-- a shown literal
abbrev is_shown : StatementView → Lit → Bool
is_shown t l = is_well_formed l && all_in_scope (with_sorts (scope_of t) t.made) l

one_gift : (t : StatementView) (args : List Obj) (s : Scope) (l : Lit) → are_arguments t s args ≡ true → is_shown t l ≡ true → is_well_formed_in (with_sorts s t.made) (with_images (image_in_use t args s) l) ≡ true
one_gift t args s l fit shown =
    let f = image_in_use t args s in
    ap (λ b. b && is_well_formed (with_images f l))
    (renamed_scope (with_sorts s t.made) f l
    ∙ every (is_in_scope (with_sorts (scope_of t) t.made)) (is_moved_in (with_sorts s t.made) f) (λ o h. shown_lands t args s o fit h)
    (objects_of_atom l.atom) (and_right (is_well_formed l) _ shown))
    ∙ renamed_well_formed f l ∙ and_left (is_well_formed l) _ shown

each_gift : (t : StatementView) (args : List Obj) (s : Scope) (ls : List Lit) → are_arguments t s args ≡ true → list_all (is_shown t) ls ≡ true
    → are_well_formed_in (with_sorts s t.made) (map (with_images (image_in_use t args s)) ls) ≡ true
each_gift t args s [] fit shown = refl
each_gift t args s (l ∷ ls) fit shown =
    ap (λ b. b && are_well_formed_in (with_sorts s t.made) (map (with_images (image_in_use t args s)) ls)) (one_gift t args s l fit (and_left (is_shown t l) _ shown))
    ∙ each_gift t args s ls fit (and_right (is_shown t l) _ shown)

pub gives_good : (t : StatementView) (args : List Obj) (s : Scope) → is_statement t ≡ true → are_arguments t s args ≡ true → are_well_formed_in (with_sorts s t.made) (gives_of_use t args s) ≡ true
gives_good t args s states fit = each_gift t args s t.shown fit (and_right (list_all (is_given t) t.given) _ states)
