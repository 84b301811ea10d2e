-- Sums that are well formed, on either side of a comparison.
use Rattle.std.proofs.Common.{◌≡◌, ◌+◌, ◌≤◌, Bool, true, leb, ◌&&◌, List, [], ◌∷◌, ◌++◌, length, refl, sym, subst, ◌∙◌, arith, length-append}
use Rattle.std.specs.List.{list_all}
use Rattle.std.proofs.lemmas.Bool.{leb-true, le-leb, and_parts}
use Rattle.std.proofs.lemmas.List.Folds.{list_all-append}
use Rattle.e_literal.specs.declared.object.Kind.{Kind}
use Rattle.e_literal.specs.declared.object.Mono.{Mono}
use Rattle.e_literal.specs.Literal.{kind_of_term, kind_of_sums}
use Rattle.e_literal.specs.WellFormed.{same_kind, is_bounded_coefficient, are_well_formed_sums}
use Rattle.e_literal.proofs.Sorts.{same_kind_is}

-- terms of this kind with good coefficients
abbrev pub is_bounded_mono : Kind → Mono → Bool
is_bounded_mono k m = same_kind (kind_of_term m.term) k && is_bounded_coefficient m.coeff

abbrev pub AreBounded : Kind → List Mono → Type 0
AreBounded k ms = list_all (is_bounded_mono k) ms ≡ true

pub record GoodSums (k : Kind) (x y : List Mono) : Type 0 where
  pub left : AreBounded k x
  pub right : AreBounded k y
  pub some : 1 ≤ length x + length y
  pub short : length x + length y ≤ 32

pub good_sums : (x y : List Mono) → are_well_formed_sums x y ≡ true → GoodSums (kind_of_sums x y) x y
good_sums x y h =
    let k = kind_of_sums x y in
    let p = and_parts (leb 1 (length (x ++ y))) (leb (length (x ++ y)) 32 && list_all (is_bounded_mono k) (x ++ y)) h in
    let q = and_parts (leb (length (x ++ y)) 32) (list_all (is_bounded_mono k) (x ++ y)) p.1 in
    let l = length-append x y in
    let a = leb-true 1 (length (x ++ y)) p.0 in
    let b = leb-true (length (x ++ y)) 32 q.0 in
    let parts = and_parts (list_all (is_bounded_mono k) x) (list_all (is_bounded_mono k) y) (sym (list_all-append (is_bounded_mono k) x y) ∙ q.1) in
    record { left = parts.0; right = parts.1; some = omega (arith, l, a); short = omega (arith, l, b) }

-- the kind of sums is that of each of their terms
first_kind_is : (k : Kind) (m : Mono) (ms : List Mono) → AreBounded k (m ∷ ms) → kind_of_term m.term ≡ k
first_kind_is k m ms h = same_kind_is (kind_of_term m.term) k (and_parts (same_kind (kind_of_term m.term) k) (is_bounded_coefficient m.coeff) (and_parts (is_bounded_mono k m) (list_all (is_bounded_mono k) ms) h).0).0

pub kind_is : (k : Kind) (x y : List Mono) → GoodSums k x y → kind_of_sums x y ≡ k
kind_is k (m ∷ xs) y g = first_kind_is k m xs g.left
kind_is k [] (m ∷ ys) g = first_kind_is k m ys g.right
kind_is k [] [] g = let s : 1 ≤ 0 + 0 = g.some in absurd (omega (arith, s))

pub sums_good : (k : Kind) (x y : List Mono) → GoodSums k x y → are_well_formed_sums x y ≡ true
sums_good k x y g =
    let is = kind_is k x y g in
    let l = length-append x y in
    let a : leb 1 (length (x ++ y)) ≡ true = le-leb _ _ (omega (arith, l, g.some)) in
    let b : leb (length (x ++ y)) 32 ≡ true = le-leb _ _ (omega (arith, l, g.short)) in
    let all : list_all (is_bounded_mono k) (x ++ y) ≡ true = list_all-append (is_bounded_mono k) x y ∙ rw (g.left, g.right) refl in
    let c : list_all (is_bounded_mono (kind_of_sums x y)) (x ++ y) ≡ true = subst (λ (z : Kind). list_all (is_bounded_mono z) (x ++ y) ≡ true) (sym is) all in
    rw (a, b, c) refl

pub turned : (k : Kind) (x y : List Mono) → GoodSums k x y → GoodSums k y x
turned k x y g = record { left = g.right; right = g.left; some = omega (arith, g.some); short = omega (arith, g.short) }
