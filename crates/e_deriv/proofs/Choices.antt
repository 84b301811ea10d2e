-- Choices for patterns: where no argument is a blank there is one, and the least good choice is one.
use Rattle.std.proofs.Common.{◌≡◌, ℕ, List, [], ◌∷◌, refl, sym, ap, ◌∙◌, Bool, true, false, Some, None, Option, ◌&&◌, true≢false, eqb, ltb, arith}
use Rattle.std.proofs.lemmas.Bool.{eq-eqb}
use Rattle.std.proofs.lemmas.Bool.Decides.{nat_tests}
use Rattle.e_literal.specs.declared.object.Sort.{Sort}
use Rattle.e_literal.specs.declared.object.Obj.{Obj}
use Rattle.e_literal.specs.declared.object.Scope.{Scope}
use Rattle.e_literal.specs.declared.literal.Lit.{Lit}
use Rattle.e_literal.specs.Literal.{is_in_scope}
use Rattle.e_literal.specs.Scopes.{same_sort, are_of_sorts}
use Rattle.e_literal.specs.Rename.{same_obj}
use Rattle.e_literal.specs.Use.{StatementView}
use Rattle.e_literal.proofs.Sorts.{same_sort_is, same_obj_is, same_obj_self}
use Rattle.e_literal.proofs.Booleans.{or_not_left, or_not_right, and_left, and_right}
use Rattle.e_theorem.specs.Choice.{fills, is_choice, is_below, IsAllowedChoice, IsLeastChoice}
use Rattle.e_deriv.specs.Parts.{args_written, has_no_blank, filled_in}

abbrev the_object : Sort → ℕ → Obj
the_object sort n = record { sort = sort; num = n }

objects_equal : (a b : Obj) → a.sort ≡ b.sort → a.num ≡ b.num → a ≡ b
objects_equal a b p q = ap (λ s. the_object s a.num) p ∙ ap (the_object b.sort) q

-- without a blank the written arguments are the choice
pub only_choice : (pattern : List (Option Obj)) (args : List Obj) → has_no_blank pattern ≡ true → fills pattern args ≡ true → args ≡ args_written pattern
only_choice [] [] n h = refl
only_choice [] (o ∷ os) n h = absurd (true≢false (sym h))
only_choice (None ∷ ps) os n h = absurd (true≢false (sym n))
only_choice (Some p ∷ ps) [] n h = absurd (true≢false (sym h))
only_choice (Some p ∷ ps) (o ∷ os) n h =
    let e : p ≡ o = same_obj_is p o (and_left (same_obj p o) (fills ps os) h) in
    let r : os ≡ args_written ps = only_choice ps os n (and_right (same_obj p o) (fills ps os) h) in
    ap (λ x. x ∷ os) (sym e) ∙ ap (λ xs. p ∷ xs) r

-- ---- arguments as a pattern

pub written_again : (args : List Obj) → args_written (filled_in args) ≡ args
written_again [] = refl
written_again (o ∷ os) = ap (λ xs. o ∷ xs) (written_again os)

pub no_blank_again : (args : List Obj) → has_no_blank (filled_in args) ≡ true
no_blank_again [] = refl
no_blank_again (o ∷ os) = no_blank_again os

pub fills_again : (args : List Obj) → fills (filled_in args) args ≡ true
fills_again [] = refl
fills_again (o ∷ os) = rw (same_obj_self o, fills_again os) refl

-- ---- the least choice

pub not_below_self : (args : List Obj) → is_below args args ≡ false
not_below_self [] = refl
not_below_self (o ∷ os) = rw (not_less o.num, eq-eqb o.num o.num refl, not_below_self os) refl
  where
    not_less : (n : ℕ) → ltb n n ≡ false
    not_less n = grind (arith, nat_tests)

neither : (m n : ℕ) → ltb m n ≡ false → ltb n m ≡ false → m ≡ n
neither m n p q = grind (arith, nat_tests)

and_true : (a b : Bool) → a ≡ true → (a && b) ≡ false → b ≡ false
and_true a b p h = sym (ap (λ x. x && b) p) ∙ h

-- of two lists of arguments of the same sorts neither of which is below the other
arguments_equal : (s : Scope) (sorts : List Sort) (a b : List Obj) → are_of_sorts s sorts a ≡ true → are_of_sorts s sorts b ≡ true → is_below a b ≡ false → is_below b a ≡ false → a ≡ b
arguments_equal s [] [] [] h k p q = refl
arguments_equal s [] [] (b ∷ bs) h k p q = absurd (true≢false (sym k))
arguments_equal s [] (a ∷ as') b h k p q = absurd (true≢false (sym h))
arguments_equal s (x ∷ sorts) [] b h k p q = absurd (true≢false (sym h))
arguments_equal s (x ∷ sorts) (a ∷ as') [] h k p q = absurd (true≢false (sym k))
arguments_equal s (x ∷ sorts) (a ∷ as') (b ∷ bs) h k p q =
    let sa : x ≡ a.sort = same_sort_is x a.sort (and_left (same_sort x a.sort) _ h) in
    let sb : x ≡ b.sort = same_sort_is x b.sort (and_left (same_sort x b.sort) _ k) in
    let n : a.num ≡ b.num = neither a.num b.num (or_not_left (ltb a.num b.num) (eqb a.num b.num && is_below as' bs) p) (or_not_left (ltb b.num a.num) (eqb b.num a.num && is_below bs as') q) in
    let ra = and_right (is_in_scope s a) (are_of_sorts s sorts as') (and_right (same_sort x a.sort) _ h) in
    let rb = and_right (is_in_scope s b) (are_of_sorts s sorts bs) (and_right (same_sort x b.sort) _ k) in
    let pb = and_true (eqb a.num b.num) (is_below as' bs) (eq-eqb a.num b.num n) (or_not_right (ltb a.num b.num) (eqb a.num b.num && is_below as' bs) p) in
    let qb = and_true (eqb b.num a.num) (is_below bs as') (eq-eqb b.num a.num (sym n)) (or_not_right (ltb b.num a.num) (eqb b.num a.num && is_below bs as') q) in
    ap (λ y. y ∷ as') (objects_equal a b (sym sa ∙ sb) n) ∙ ap (λ ys. b ∷ ys) (arguments_equal s sorts as' bs ra rb pb qb)

pub least_is_one : (t : StatementView) (s : Scope) (facts : List Lit) (pattern : List (Option Obj)) (a b : List Obj) → IsLeastChoice t s facts pattern a → IsLeastChoice t s facts pattern b → a ≡ b
least_is_one t s facts pattern a b p q =
    arguments_equal s t.declared a b
    (and_right (fills pattern a) (are_of_sorts s t.declared a) p.good.is_choice) (and_right (fills pattern b) (are_of_sorts s t.declared b) q.good.is_choice)
    (q.least a p.good) (p.least b q.good)

-- a good choice for a pattern without blanks is the least
pub least_of_good : (t : StatementView) (s : Scope) (facts : List Lit) (pattern : List (Option Obj)) (args : List Obj) → has_no_blank pattern ≡ true → IsAllowedChoice t s facts pattern args → IsLeastChoice t s facts pattern args
least_of_good t s facts pattern args n g =
    record { good = g; least = λ other o. ap (λ x. is_below x args) (same other o) ∙ not_below_self args }
  where
    same : (other : List Obj) → IsAllowedChoice t s facts pattern other → other ≡ args
    same other o =
        only_choice pattern other n (and_left (fills pattern other) _ o.is_choice)
        ∙ sym (only_choice pattern args n (and_left (fills pattern args) _ g.is_choice))
