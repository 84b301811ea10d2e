-- Values of the terms of a step, listed in their order, that show that a literal does not follow.
use Rattle.std.specs.Prelude.{◌≡◌, ℕ, List, [], ◌∷◌, map, Bool, true, ◌&&◌, if◌then◌else◌, IsTrue}
use Rattle.std.specs.Prelude.{Option}
use Rattle.std.specs.List.{list_all}
use Rattle.std.specs.Ordering.{nat_cmp, is_lt}
use Rattle.std.specs.Cmp.Lexicographic.{slice_cmp}
use Rattle.e_literal.specs.declared.object.Term.{Term}
use Rattle.e_literal.specs.declared.literal.Lit.{Lit}
use Rattle.e_literal.specs.Same.{canonical, term_eq}
use Rattle.e_literal.specs.Width.{is_among}
use Rattle.e_literal.specs.NormalForm.{numbers_of}
use Rattle.e_clause.specs.Assignment.{terms_of_step}
use Rattle.e_clause.specs.Metric.{IsCounterexample}

-- the value of a term, in whatever order its points are written; one that is not listed has 0
abbrev pub value_in : List (Term × ℕ) → Term → ℕ
value_in [] t = 0
value_in (p ∷ ps) t = if term_eq (canonical t) p.0 then p.1 else value_in ps t

-- segments come before angles, angles before areas, and right is last; within a kind the points'
-- numbers decide
abbrev pub is_before : Term → Term → Bool
is_before s t = is_lt (slice_cmp nat_cmp (numbers_of s) (numbers_of t))

-- each term comes before all later ones
abbrev pub are_in_order : List Term → Bool
are_in_order [] = true
are_in_order (t ∷ ts) = list_all (is_before t) ts && are_in_order ts

abbrev pub listed_terms : List (Term × ℕ) → List Term
listed_terms values = map (λ p. p.0) values

-- the terms of the step, each once, with its points in their normal order, and the terms in theirs;
-- and with these values the facts are true and the wanted literal, where one is wanted, is false
pub record ListsCounterexample (facts : List Lit) (wanted : Option Lit)
    (values : List (Term × ℕ)) : Type 0 where
  pub in_order : IsTrue (are_in_order (listed_terms values))
  pub of_step : (t : Term)
      → is_among (listed_terms values) t ≡ is_among (map canonical (terms_of_step facts wanted)) t
  pub counterexample : IsCounterexample facts wanted (value_in values)
