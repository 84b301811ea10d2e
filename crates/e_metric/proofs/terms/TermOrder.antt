-- Terms in their order, each once.
use Rattle.std.proofs.Common.{◌≡◌, ℕ, zero, suc, ◌+◌, ◌<◌, List, [], ◌∷◌, length, get_or, refl, sym, ap, ◌∙◌, subst, arith, Bool, true, true≢false, inl, inr}
use Rattle.std.specs.List.{list_all, Contains, AllByRecursion}
use Rattle.std.specs.List.Sorted.{IsSorted, IsPermutation, IsStrictlySortedBy}
use Rattle.std.specs.List.Retain.{IsFiltered, DiffersFromLast}
use Rattle.std.specs.Ordering.{nat_cmp, ordering_then, is_eq, is_lt, eq_by_cmp}
use Rattle.std.specs.declared.cmp.Ordering.{Ordering}
use Rattle.std.specs.declared.cmp.Ordering.TheVariants.{Less, Equal, Greater}
use Rattle.std.specs.Cmp.{IsTotalOrder, IsEquivalence}
use Rattle.std.specs.Cmp.Lexicographic.{slice_cmp, nat_list_cmp_total}
use Rattle.std.specs.FinMap.{slice_cmp-IsAntisymmetric, nat_cmp-IsAntisymmetric}
use Rattle.std.proofs.lemmas.Cmp.{on_total, tied_itself}
use Rattle.std.proofs.lemmas.List.Kept.{IsStrictlySortedBy-dedup, Contains-dedup, Contains-from_dedup}
use Rattle.std.proofs.lemmas.List.Filters.{dedup_is}
use Rattle.std.proofs.lemmas.List.Sorted.{Contains-permutation, IsPermutation-sym}
use Rattle.std.proofs.lemmas.Bool.{and_from, or_left, or_right, or_cases}
use Rattle.e_literal.specs.declared.object.Term.{Term}
use Rattle.e_literal.specs.declared.object.Term.TheVariants.{Seg, Ang, Area, Right}
use Rattle.e_literal.specs.Same.{term_eq}
use Rattle.e_literal.specs.Width.{is_among}
use Rattle.e_literal.specs.NormalForm.{numbers_of}
use Rattle.e_literal.specs.contracts.object.TermOrd.TheImpl as order_impl
use Rattle.e_literal.specs.contracts.object.TermPartialEq.TheImpl as equality_impl
use Rattle.e_literal.proofs.Terms.{term_eq_is, term_eq_same, term_eq_turned, equal_terms}
use Rattle.e_literal.proofs.Booleans.{same_bool}
use Rattle.e_clause.specs.Counterexample.{is_before, are_in_order}

-- ---- the order

abbrev order : Term → Term → Ordering
order a b = slice_cmp nat_cmp (numbers_of a) (numbers_of b)

order_total : IsTotalOrder order
order_total = on_total numbers_of nat_list_cmp_total

-- ---- the derived order and equality

then_equal : (o : Ordering) → o ≡ ordering_then o Equal
then_equal Less = refl
then_equal Equal = refl
then_equal Greater = refl

-- that of the program
abbrev given_order : Term → Term → Ordering
given_order = (order_impl.cmp-value).it

abbrev given_equal : Term → Term → Bool
given_equal = (equality_impl.eq-value).it

two_same : (a b c d : ℕ) → ordering_then (nat_cmp a c) (nat_cmp b d) ≡ ordering_then (nat_cmp a c) (ordering_then (nat_cmp b d) Equal)
two_same a b c d = ap (ordering_then (nat_cmp a c)) (then_equal (nat_cmp b d))

three_same : (a b c d e f : ℕ) → ordering_then (nat_cmp a d) (ordering_then (nat_cmp b e) (nat_cmp c f)) ≡ ordering_then (nat_cmp a d) (ordering_then (nat_cmp b e) (ordering_then (nat_cmp c f) Equal))
three_same a b c d e f = ap (λ o. ordering_then (nat_cmp a d) (ordering_then (nat_cmp b e) o)) (then_equal (nat_cmp c f))

pub order_is : (a b : Term) → given_order a b ≡ order a b
order_is (Seg a b) (Seg c d) = two_same a b c d
order_is (Seg a b) (Ang d e f) = refl
order_is (Seg a b) (Area d e f) = refl
order_is (Seg a b) Right = refl
order_is (Ang a b c) (Seg d e) = refl
order_is (Ang a b c) (Ang d e f) = three_same a b c d e f
order_is (Ang a b c) (Area d e f) = refl
order_is (Ang a b c) Right = refl
order_is (Area a b c) (Seg d e) = refl
order_is (Area a b c) (Ang d e f) = refl
order_is (Area a b c) (Area d e f) = three_same a b c d e f
order_is (Area a b c) Right = refl
order_is Right (Seg d e) = refl
order_is Right (Ang d e f) = refl
order_is Right (Area d e f) = refl
order_is Right Right = refl

pub equal_is : (a b : Term) → given_equal a b ≡ term_eq a b
equal_is (Seg a b) (Seg c d) = refl
equal_is (Seg a b) (Ang d e f) = refl
equal_is (Seg a b) (Area d e f) = refl
equal_is (Seg a b) Right = refl
equal_is (Ang a b c) (Seg d e) = refl
equal_is (Ang a b c) (Ang d e f) = refl
equal_is (Ang a b c) (Area d e f) = refl
equal_is (Ang a b c) Right = refl
equal_is (Area a b c) (Seg d e) = refl
equal_is (Area a b c) (Ang d e f) = refl
equal_is (Area a b c) (Area d e f) = refl
equal_is (Area a b c) Right = refl
equal_is Right (Seg d e) = refl
equal_is Right (Ang d e f) = refl
equal_is Right (Area d e f) = refl
equal_is Right Right = refl

-- ---- equal terms tie, and no others

equal_of : (o : Ordering) → is_eq o ≡ true → o ≡ Equal
equal_of Less h = cc
equal_of Equal h = refl
equal_of Greater h = cc

first : List ℕ → ℕ
first [] = 0
first (n ∷ ns) = n

kinds_differ : (xs ys : List ℕ) → 1 ∷ xs ≡ 2 ∷ ys → ⊥
unfolding first
kinds_differ xs ys h = omega (arith, ap first h)

same_numbers : (a b : Term) → numbers_of a ≡ numbers_of b → a ≡ b
same_numbers (Seg a b) (Seg c d) h = cc
same_numbers (Seg a b) (Ang d e f) h = absurd (cc)
same_numbers (Seg a b) (Area d e f) h = absurd (cc)
same_numbers (Seg a b) Right h = absurd (cc)
same_numbers (Ang a b c) (Seg d e) h = absurd (cc)
same_numbers (Ang a b c) (Ang d e f) h = cc
same_numbers (Ang a b c) (Area d e f) h = absurd (kinds_differ (a ∷ b ∷ c ∷ []) (d ∷ e ∷ f ∷ []) h)
same_numbers (Ang a b c) Right h = absurd (cc)
same_numbers (Area a b c) (Seg d e) h = absurd (cc)
same_numbers (Area a b c) (Ang d e f) h = absurd (kinds_differ (d ∷ e ∷ f ∷ []) (a ∷ b ∷ c ∷ []) (sym h))
same_numbers (Area a b c) (Area d e f) h = cc
same_numbers (Area a b c) Right h = absurd (cc)
same_numbers Right (Seg d e) h = absurd (cc)
same_numbers Right (Ang d e f) h = absurd (cc)
same_numbers Right (Area d e f) h = absurd (cc)
same_numbers Right Right h = refl

pub ties : (a b : Term) → term_eq a b ≡ eq_by_cmp order a b
ties a b = same_bool (term_eq a b) (is_eq (order a b))
    (λ h. ap (λ t. is_eq (order a t)) (sym (term_eq_is a b h)) ∙ ap is_eq (tied_itself order_total a))
    (λ h. equal_terms a b (same_numbers a b (slice_cmp-IsAntisymmetric nat_cmp-IsAntisymmetric (numbers_of a) (numbers_of b) (equal_of (order a b) h))))

-- ---- each before the next

lesser : (o : Ordering) → o ≡ Less → is_lt o ≡ true
lesser o h = ap is_lt h

all_before : (t : Term) (ts : List Term) → AllByRecursion (λ u. order t u ≡ Less) ts → list_all (is_before t) ts ≡ true
all_before t [] h = refl
all_before t (u ∷ us) h = and_from (is_before t u) (list_all (is_before t) us) (lesser (order t u) h.0) (all_before t us h.1)

strictly : (ts : List Term) → IsStrictlySortedBy order ts → are_in_order ts ≡ true
unfolding IsStrictlySortedBy
strictly [] h = refl
strictly (t ∷ ts) h = and_from (list_all (is_before t) ts) (are_in_order ts) (all_before t ts h.0) (strictly ts h.1)

sorted_by : (f : Term → Term → Ordering) → ((a b : Term) → f a b ≡ order a b) → (ts : List Term) → IsSorted f ts → IsSorted order ts
sorted_by f e ts h = λ k d l m. ap is_lt (sym (e (get_or ts (k + 1) d) (get_or ts k d))) ∙ h k d l m

pub in_order : (sorted kept : List Term) → IsSorted given_order sorted → IsFiltered (DiffersFromLast given_equal) [] sorted kept → are_in_order kept ≡ true
in_order sorted kept h f = strictly kept (subst (IsStrictlySortedBy order) (sym (dedup_is given_equal sorted kept f))
    (IsStrictlySortedBy-dedup order_total (λ a b. equal_is a b ∙ ties a b) sorted (sorted_by given_order order_is sorted h)))

-- ---- the same terms

contains_of : (ts : List Term) (t : Term) → is_among ts t ≡ true → Contains ts t
contains_of [] t h = absurd (true≢false (sym h))
contains_of (u ∷ us) t h = elim (or_cases (term_eq t u) (is_among us t) h) [
  | inl e ↦ (0, omega arith, sym (term_eq_is t u e))
  | inr k ↦ (let w = contains_of us t k in (suc w.0, omega (arith, w.1), w.2))
]

of_contains : (ts : List Term) (t : Term) → Contains ts t → is_among ts t ≡ true
of_contains ts t w = go ts w.0 w.1 w.2
  where
    go : (us : List Term) (k : ℕ) → k < length us → get_or us k t ≡ t → is_among us t ≡ true
    go [] k l e = absurd (omega (arith, l))
    go (u ∷ us) zero l e = or_left (term_eq t u) (is_among us t) (equal_terms t u (sym e))
    go (u ∷ us) (suc k) l e = or_right (term_eq t u) (is_among us t) (go us k (omega (arith, l)) e)

equivalence : IsEquivalence given_equal
equivalence = record {
  refl = λ x. equal_is x x ∙ term_eq_same x;
  symm = λ x y. equal_is x y ∙ term_eq_turned x y ∙ sym (equal_is y x);
  congr = λ x y z h. ap (λ t. given_equal t z) (term_eq_is x y (sym (equal_is x y) ∙ h));
}

pub same_terms : (old sorted kept : List Term) → IsPermutation old sorted → IsFiltered (DiffersFromLast given_equal) [] sorted kept → (t : Term) → is_among kept t ≡ is_among old t
same_terms old sorted kept p f t = same_bool (is_among kept t) (is_among old t)
    (λ h. of_contains old t (Contains-permutation sorted old t (IsPermutation-sym old sorted p)
    (Contains-from_dedup given_equal sorted t (subst (λ us. Contains us t) (dedup_is given_equal sorted kept f) (contains_of kept t h)))))
    (λ h. of_contains kept t (subst (λ us. Contains us t) (sym (dedup_is given_equal sorted kept f))
    (Contains-dedup equivalence (λ a b e. term_eq_is a b (sym (equal_is a b) ∙ e)) sorted t (Contains-permutation old sorted t p (contains_of old t h)))))
