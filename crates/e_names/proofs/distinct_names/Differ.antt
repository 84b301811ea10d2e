-- Names that differ: what stands at its place stands nowhere else.
use Rattle.std.proofs.Common.{◌≡◌, ℕ, zero, suc, ◌<◌, Bool, true, false, ltb, not, List, [], ◌∷◌, length, get_or, take, Some, None, refl, sym, ap, ◌∙◌, arith, length-take-le}
use Rattle.std.specs.List.{position, position_or_len, AllByRecursion}
use Rattle.std.specs.Str.{bytes_eq}
use Rattle.std.proofs.lemmas.Bool.{lt-ltb, le-ltb, not-true, and_parts, or_parts}
use Rattle.std.proofs.lemmas.List.{get_or-take}
use Rattle.std.proofs.lemmas.List.Sums.{position_or_len_is}
use Rattle.std.proofs.lemmas.Slice.Eq.{bytes_eq-Decides}
use Rattle.e_text.specs.Names.{is_name}
use Rattle.e_names.specs.Scope.{is_among_names}
use Rattle.e_names.specs.Canonical.{missing_name, name_at}
use Rattle.e_names.specs.Fits.{are_distinct, are_disjoint_names}
use Rattle.e_line.specs.Names.{AreNames}
use Rattle.e_line.proofs.base.Bound.{same_bytes}

turn_by : (t : Bool) (a b : List ℕ) → bytes_eq b a ≡ t → bytes_eq a b ≡ false → t ≡ false
turn_by false a b e h = refl
turn_by true a b e h =
    let s : b ≡ a = (bytes_eq-Decides b a).0 e in
    let k : bytes_eq a a ≡ false = ap (λ (x : List ℕ). bytes_eq a x) (sym s) ∙ h in
    sym (same_bytes a) ∙ k

turned : (a b : List ℕ) → bytes_eq a b ≡ false → bytes_eq b a ≡ false
turned a b h = turn_by (bytes_eq b a) a b refl h

-- ---- which names others do not have

-- none of the names is among the others
abbrev pub Apart : List (List ℕ) → List (List ℕ) → Type 0
Apart others names = AllByRecursion (λ n. is_among_names others n ≡ false) names

pub first_out : (x : List ℕ) (xs ys : List (List ℕ)) → Apart (x ∷ xs) ys → is_among_names ys x ≡ false
first_out x xs [] h = refl
first_out x xs (y ∷ ys) h =
    let n = or_parts (bytes_eq x y) (is_among_names xs y) h.0 in
    rw (turned x y n.0, first_out x xs ys h.1) refl

rest_out : (x : List ℕ) (xs ys : List (List ℕ)) → Apart (x ∷ xs) ys → Apart xs ys
rest_out x xs [] h = tt
rest_out x xs (y ∷ ys) h = ((or_parts (bytes_eq x y) (is_among_names xs y) h.0).1, rest_out x xs ys h.1)

pub Apart-sym : (xs ys : List (List ℕ)) → Apart xs ys → Apart ys xs
Apart-sym [] ys h = tt
Apart-sym (x ∷ xs) ys h = (first_out x xs ys h, Apart-sym xs ys (rest_out x xs ys h))

pub apart : (others names : List (List ℕ)) → are_disjoint_names others names ≡ true → Apart others names
apart others [] h = tt
apart others (n ∷ ns) h = let p = and_parts (not (is_among_names others n)) (are_disjoint_names others ns) h in (not-true (is_among_names others n) p.0, apart others ns p.1)

pub apart_at : (others names : List (List ℕ)) (i : ℕ) → Apart others names → i < length names → is_among_names others (name_at names i) ≡ false
apart_at others [] i h lt = absurd (omega arith)
apart_at others (n ∷ ns) zero h lt = h.0
apart_at others (n ∷ ns) (suc i) h lt = apart_at others ns i h.1 (omega arith)

pub has_not_in_front : (names : List (List ℕ)) (k : ℕ) (name : List ℕ) → is_among_names names name ≡ false → is_among_names (take k names) name ≡ false
has_not_in_front names zero name h = refl
has_not_in_front [] (suc k) name h = refl
has_not_in_front (n ∷ ns) (suc k) name h =
    let a = or_parts (bytes_eq n name) (is_among_names ns name) h in rw (a.0, has_not_in_front ns k name a.1) refl

has_not : (names : List (List ℕ)) (name : List ℕ) (k : ℕ) → is_among_names names name ≡ false → k < length names → bytes_eq (get_or names k missing_name) name ≡ false
has_not [] name k e lt = absurd (omega arith)
has_not (n ∷ ns) name zero e lt = (or_parts (bytes_eq n name) (is_among_names ns name) e).0
has_not (n ∷ ns) name (suc k) e lt = has_not ns name k (or_parts (bytes_eq n name) (is_among_names ns name) e).1 (omega arith)

-- no name stands before its place
pub not_before : (names : List (List ℕ)) (i : ℕ) → are_distinct names ≡ true → i < length names → is_among_names (take i names) (name_at names i) ≡ false
not_before [] i h lt = absurd (omega arith)
not_before (n ∷ ns) zero h lt = refl
not_before (n ∷ ns) (suc i) h lt =
    let p = and_parts (not (is_among_names ns n)) (are_distinct ns) h in
    let first = has_not ns n i (not-true (is_among_names ns n) p.0) (omega arith) in
    rw (turned (get_or ns i missing_name) n first, not_before ns i p.1 (omega arith)) refl

-- ---- where a name stands

pub not_there : (names : List (List ℕ)) (name : List ℕ) → is_among_names names name ≡ false → position (λ n. bytes_eq n name) names ≡ None
not_there names name e =
    let at : position_or_len (λ n. bytes_eq n name) names ≡ length names = position_or_len_is (λ n. bytes_eq n name) names (length names) missing_name (omega arith) (λ k lt. has_not names name k e lt) (λ lt. absurd (omega arith)) in
    let test : ltb (length names) (length names) ≡ false = le-ltb _ _ (omega arith) in
    rw (at, test) refl

-- a name is first at its own place
pub there : (names : List (List ℕ)) (i : ℕ) → are_distinct names ≡ true → i < length names → position (λ n. bytes_eq n (name_at names i)) names ≡ Some i
there names i e lt =
    let name = name_at names i in
    let earlier = not_before names i e lt in
    let len : length (take i names) ≡ i = length-take-le i names (omega arith) in
    let at : position_or_len (λ n. bytes_eq n name) names ≡ i = position_or_len_is (λ n. bytes_eq n name) names i missing_name (omega arith)
    (λ k lk. ap (λ w. bytes_eq w name) (sym (get_or-take i names k missing_name lk)) ∙ has_not (take i names) name k earlier (omega arith)) (λ _. same_bytes name) in
    let test : ltb i (length names) ≡ true = lt-ltb _ _ lt in
    rw (at, test) refl

pub name_there : (names : List (List ℕ)) (i : ℕ) → AreNames names → i < length names → is_name (name_at names i) ≡ true
name_there [] i h lt = absurd (omega arith)
name_there (n ∷ ns) zero h lt = h.0
name_there (n ∷ ns) (suc i) h lt = name_there ns i h.1 (omega arith)
