-- Sums of well formed literals are small.
use Rattle.std.proofs.Common.{◌≡◌, ◌+◌, ◌≤◌, List, [], ◌∷◌, ◌++◌, length, refl, sym, ◌∙◌, arith, Bool, true, ◌&&◌, length-append, leb-true, le-leb}
use Rattle.std.specs.Prelude.{nat_le, Option, Some, None, IfSome, IsTrue}
use Rattle.std.specs.Option.{option_map_or}
use Rattle.std.specs.List.{list_all}
use Rattle.std.proofs.lemmas.Grind.{common_steps}
use Rattle.std.proofs.lemmas.List.Folds.{list_all-append}
use Rattle.std.proofs.lemmas.Bool.{and_from}
use Rattle.e_literal.specs.declared.object.Kind.{Kind}
use Rattle.e_literal.specs.declared.object.Mono.{Mono}
use Rattle.e_literal.specs.Literal.{kind_of_term, kind_of_sums}
use Rattle.e_literal.specs.WellFormed.{same_kind, is_bounded_coefficient, are_well_formed_sums}
use Rattle.e_literal.proofs.Booleans.{and_left, and_right}
use Rattle.e_verify.specs.inner.Small.{are_small_monomials}

abbrev fits_kind : Kind → Mono → Bool
fits_kind k m = same_kind (kind_of_term m.term) k && is_bounded_coefficient m.coeff

abbrev has_low : List Mono → Bool
has_low ms = list_all (λ m. nat_le m.coeff 1000000) ms

low : (k : Kind) (ms : List Mono) → list_all (fits_kind k) ms ≡ true → has_low ms ≡ true
low k [] h = refl
low k (m ∷ ms) h =
    and_from (nat_le m.coeff 1000000) (has_low ms)
    (and_right (nat_le 1 m.coeff) (nat_le m.coeff 1000000) (and_right (same_kind (kind_of_term m.term) k) (is_bounded_coefficient m.coeff) (and_left (fits_kind k m) (list_all (fits_kind k) ms) h)))
    (low k ms (and_right (fits_kind k m) (list_all (fits_kind k) ms) h))

few : (x y : List Mono) → are_well_formed_sums x y ≡ true → length x + length y ≤ 32
few x y h =
    let n = length (x ++ y) in
    let k = list_all (fits_kind (kind_of_sums x y)) (x ++ y) in
    let e = leb-true n 32 (and_left (nat_le n 32) k (and_right (nat_le 1 n) (nat_le n 32 && k) h)) in
    omega (arith, e, length-append x y)

all_low : (x y : List Mono) → are_well_formed_sums x y ≡ true → (has_low x && has_low y) ≡ true
all_low x y h =
    let n = length (x ++ y) in
    let k = list_all (fits_kind (kind_of_sums x y)) (x ++ y) in
    sym (list_all-append (λ (m : Mono). nat_le m.coeff 1000000) x y) ∙ low (kind_of_sums x y) (x ++ y) (and_right (nat_le n 32) k (and_right (nat_le 1 n) (nat_le n 32 && k) h))

pub first_small : (x y : List Mono) → are_well_formed_sums x y ≡ true → are_small_monomials x ≡ true
first_small x y h = let e = few x y h in and_from (nat_le (length x) 32) (has_low x) (le-leb (length x) 32 (omega (arith, e))) (and_left (has_low x) (has_low y) (all_low x y h))

pub second_small : (x y : List Mono) → are_well_formed_sums x y ≡ true → are_small_monomials y ≡ true
second_small x y h = let e = few x y h in and_from (nat_le (length y) 32) (has_low y) (le-leb (length y) 32 (omega (arith, e))) (and_right (has_low x) (has_low y) (all_low x y h))

pub if_some : {X : Type 0} (p : X → Bool) (o : Option X) → option_map_or p o true ≡ true → IfSome o (λ x. IsTrue (p x))
if_some p (Some x) h = h
if_some p None h = tt

pub ruleset good_sums = (common_steps, first_small, second_small, and_from)
