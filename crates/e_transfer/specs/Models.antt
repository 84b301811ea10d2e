-- Values of all terms, with which a metric literal that does not follow is mostly seen to be false.
use Rattle.std.specs.Prelude.{ℕ, ◌+◌, ◌*◌, ◌%◌, List, [], ◌∷◌, Bool, true, false, ◌&&◌}
use Rattle.std.specs.Prelude.{if◌then◌else◌}
use Rattle.std.specs.List.{list_all}
use Rattle.e_literal.specs.declared.object.Term.{Term}
use Rattle.e_literal.specs.declared.object.Term.TheVariants.{Seg, Ang, Area, Right}
use Rattle.e_literal.specs.declared.literal.Lit.{Lit}
use Rattle.e_literal.specs.Same.{term_eq}
use Rattle.e_transfer.specs.declared.models.Filling.{Filling}
use Rattle.e_transfer.specs.declared.models.Filling.TheVariants.{Each, Spread, Flat}
use Rattle.e_literal.specs.Solution.{values_for_all}
use Rattle.e_literal.specs.Truth.{all_hold}
use Rattle.e_clause.specs.Assignment.{is_within, is_positive_if_apart, terms_of_lits}

-- mostly different numbers; an angle has 1 or 2
abbrev pub spread_number : Term → ℕ
spread_number (Seg a b) = 1 + a + 64 * b
spread_number (Ang a b c) = 1 + (a + b + c) % 2
spread_number (Area a b c) = 1 + a + 64 * b + 4096 * c
spread_number Right = 1

-- one number for each term, or, where they are to be spread, mostly different ones
abbrev pub filling_value : Filling → Term → ℕ
filling_value (Each n) t = n
filling_value Spread t = spread_number t
filling_value Flat t = 1

-- the value that is listed, or else the default one
abbrev pub value_in_list : Filling → List (Term × ℕ) → Term → ℕ
value_in_list filling [] t = filling_value filling t
value_in_list filling (p ∷ ps) t = if term_eq t p.0 then p.1 else value_in_list filling ps t

-- the term is an area, and all areas are to be 0
abbrev pub is_flattened : Filling → Term → Bool
is_flattened Flat (Area a b c) = true
is_flattened _ _ = false

-- the value of a term that is written the one way
abbrev pub value_when_canonical : Filling → List (Term × ℕ) → Term → ℕ
value_when_canonical filling values t =
    if is_flattened filling t then 0 else value_in_list filling values t

-- the same in whatever order the points of the term are written, and 0 for a segment x x and a flat
-- area
abbrev pub value_by : Filling → List (Term × ℕ) → Term → ℕ
value_by filling values t = values_for_all (value_when_canonical filling values) t

-- what the value of a term of a step has to be
abbrev pub fits_term : List Lit → (Term → ℕ) → Term → Bool
fits_term facts v t = is_within v t && is_positive_if_apart facts v t

abbrev pub fits_terms : List Lit → (Term → ℕ) → List Term → Bool
fits_terms facts v ts = list_all (fits_term facts v) ts

-- with these values the facts are true, and their terms and right have values that they may have
abbrev pub is_model : List Lit → (Term → ℕ) → Bool
is_model facts v =
    fits_term facts v Right && (fits_terms facts v (terms_of_lits facts) && all_hold v facts)
