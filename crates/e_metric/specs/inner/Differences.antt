-- The difference of two sums as a form in which each term occurs once.
use Rattle.std.specs.Prelude.{List, [], ◌∷◌, ◌++◌, Bool, ◌||◌, if◌then◌else◌, ℤ, pos, ◌-ℤ◌}
use Rattle.std.specs.List.{list_any}
use Rattle.std.specs.Ordering.{int_eq}
use Rattle.e_literal.specs.declared.object.Mono.{Mono}
use Rattle.e_literal.specs.declared.object.Term.{Term}
use Rattle.e_literal.specs.Same.{canonical, term_eq, coeff_of}
use Rattle.e_literal.specs.Rows.{Summands, is_degenerate}

-- the coefficient of a term in x - y
abbrev pub coefficient_in_difference : List Mono → List Mono → Term → ℤ
coefficient_in_difference x y t = pos (coeff_of x t) -ℤ pos (coeff_of y t)

-- the term occurs in the form
abbrev pub occurs_in : Summands → Term → Bool
occurs_in form t = list_any (λ q. term_eq q.1 t) form

-- a term that is 0 in itself, that has its summand already, or that cancels
abbrev pub is_passed : List Mono → List Mono → Summands → Term → Bool
is_passed x y form t =
    is_degenerate t || (occurs_in form t || int_eq (coefficient_in_difference x y t) (pos 0))

-- the form with the term's summand, unless the term is passed
abbrev pub with_summand : List Mono → List Mono → Summands → Term → Summands
with_summand x y form t =
    if is_passed x y form t then form else form ++ (coefficient_in_difference x y t, t) ∷ []

-- the form with the summands of the monomials' terms
abbrev pub with_summands : List Mono → List Mono → Summands → List Mono → Summands
with_summands x y form [] = form
with_summands x y form (m ∷ ms) = with_summands x y (with_summand x y form (canonical m.term)) ms

-- the form x - y
abbrev pub difference_form : List Mono → List Mono → Summands
difference_form x y = with_summands x y (with_summands x y [] x) y
