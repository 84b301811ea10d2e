-- A normal form as it grows, one monomial after the other.
use Rattle.std.specs.Prelude.{List, if◌then◌else◌, ℤ, pos}
use Rattle.std.specs.Ordering.{int_eq}
use Rattle.std.specs.FinMap.{put}
use Rattle.e_literal.specs.declared.object.Term.{Term}
use Rattle.e_literal.specs.declared.object.Mono.{Mono}
use Rattle.e_literal.specs.Same.{canonical}
use Rattle.e_literal.specs.NormalForm.{term_cmp, Coefficients, difference}

-- the term has this coefficient in the form; with 0 it is dropped
abbrev pub put_unless_zero : Coefficients → Term → ℤ → Coefficients
put_unless_zero form t n = if int_eq n (pos 0) then form else put term_cmp t n form

-- the term of the monomial, in its normal order, has its coefficient in x - y
abbrev pub put_term : List Mono → List Mono → Coefficients → Mono → Coefficients
put_term x y form m = put_unless_zero form (canonical m.term) (difference x y m.term)
