-- Names and numbers lead to each other.
use Rattle.std.proofs.Common.{◌≡◌, ℕ, zero, suc, ◌+◌, List, [], ◌∷◌, refl, sym, ap, ◌∙◌, arith, Option, Some, None, Bool, true, false, ◌&&◌, ◌==◌, true≢false}
use Rattle.std.specs.Prelude.{slice_get}
use Rattle.std.specs.Option.{option_map, option_map_or}
use Rattle.std.specs.Str.{bytes_eq}
use Rattle.std.proofs.lemmas.Slice.Eq.{bytes_eq-Decides}
use Rattle.std.proofs.lemmas.Bool.Decides.{Decides-eqb}
use Rattle.e_literal.proofs.Booleans.{and_left, and_right}
use Rattle.e_clause.specs.Rows.{Row}
use Rattle.e_clause.specs.Table.{table}
use Rattle.e_clause.specs.Table.Incidence.{incidence}
use Rattle.e_clause.specs.Table.Sides.{sides}
use Rattle.e_clause.specs.Table.Circles.{circles}
use Rattle.e_clause.specs.Table.Equality.{equality}
use Rattle.e_clause.specs.Table.Lengths.{lengths}
use Rattle.e_clause.specs.Table.Angles.{angles}
use Rattle.e_clause.specs.Instance.{number_of_rule, name_of_rule}

-- the place is this one
abbrev is_place : Option ℕ → ℕ → Bool
is_place o n = option_map_or (λ m. m == n) o false

-- each row, from place n on, is found by its name
abbrev are_found : List Row → ℕ → Bool
are_found [] n = true
are_found (r ∷ rows) n = is_place (number_of_rule r.name) n && are_found rows (n + 1)

-- the one run over the whole table
all_found : are_found table 0 ≡ true
unfolding table incidence sides circles equality lengths angles
all_found = refl

place_is : (o : Option ℕ) (n : ℕ) → is_place o n ≡ true → o ≡ Some n
place_is None n h = absurd (true≢false (sym h))
place_is (Some m) n h = ap Some ((Decides-eqb m n).0 h)

found_in : (rows : List Row) (i n : ℕ) (r : Row) → are_found rows i ≡ true → slice_get rows n ≡ Some r → number_of_rule r.name ≡ Some (i + n)
found_in [] i n r h at = absurd (none_some at)
  where
    none_some : None ≡ Some r → ⊥
    none_some e = cc
found_in (x ∷ rows) i zero r h at =
    let e : x ≡ r = cc in
    let k : i ≡ i + 0 = omega arith in
    ap (λ y. number_of_rule y.name) (sym e) ∙ place_is (number_of_rule x.name) i (and_left (is_place (number_of_rule x.name) i) (are_found rows (i + 1)) h) ∙ ap Some k
found_in (x ∷ rows) i (suc n) r h at =
    let k : i + 1 + n ≡ i + suc n = omega arith in
    found_in rows (i + 1) n r (and_right (is_place (number_of_rule x.name) i) (are_found rows (i + 1)) h) at ∙ ap Some k

-- the name of a rule leads to its number
pub found_by_name : (n : ℕ) (r : Row) → slice_get table n ≡ Some r → number_of_rule r.name ≡ Some n
found_by_name n r at = let k : 0 + n ≡ n = omega arith in found_in table 0 n r all_found at ∙ ap Some k

-- a rule whose name is this one has this name
pub has_name : (token name : List ℕ) (n : ℕ) (r : Row) → slice_get table n ≡ Some r → r.name ≡ name → bytes_eq name token ≡ true → name_of_rule n ≡ Some token
has_name token name n r at is e = ap (option_map (λ x. x.name)) at ∙ ap Some (is ∙ (bytes_eq-Decides name token).0 e)
