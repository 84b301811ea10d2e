-- The areas that facts name.
use Rattle.std.specs.Prelude.{◌≡◌, ℕ, List, [], ◌∷◌, Bool, true, false, not, ◌||◌, IsTrue}
use Rattle.std.specs.List.{list_any, list_all}
use Rattle.e_literal.specs.declared.literal.Atom.TheVariants.{MagEq}
use Rattle.e_literal.specs.declared.literal.Lit.{Lit}
use Rattle.e_literal.specs.declared.object.Mono.{Mono}
use Rattle.e_literal.specs.declared.object.Term.{Term}
use Rattle.e_literal.specs.Same.{canonical, term_eq}
use Rattle.e_clause.specs.Assignment.{terms_of_lits}
use Rattle.e_clause.specs.Metric.{MetricConsequence}
use Rattle.e_clause.specs.declared.pattern.Pattern.{Pattern}
use Rattle.e_clause.specs.Views.{lit_of_pattern}
use Rattle.e_transfer.specs.Marks.{is_area_term}

-- the term, in the one way of writing it, is one of the list
abbrev pub is_among_areas : List Term → Term → Bool
is_among_areas areas t = list_any (λ a. term_eq (canonical t) a) areas

-- each area among the terms is listed
abbrev pub are_listed : List Term → List Term → Bool
are_listed areas ts = list_all (λ t. not (is_area_term t) || is_among_areas areas t) ts

abbrev pub name_areas_of : List Term → List Lit → Bool
name_areas_of areas facts = are_listed areas (terms_of_lits facts)

-- what is listed stays so, and the areas among the terms are listed
pub record ListsAlso (ts : List Term) (old new : List Term) : Type 0 where
  pub keeps : (ss : List Term) → IsTrue (are_listed old ss) → IsTrue (are_listed new ss)
  pub lists : IsTrue (are_listed new ts)

-- each is taken as often as the other, and these are their terms
pub record AreTermsAlike (m n : Mono) (both : Term × Term) : Type 0 where
  pub first : m.term ≡ both.0
  pub second : n.term ≡ both.1
  pub coeff : n.coeff ≡ m.coeff

-- each sum is of one such term
pub record AreOneEach (x y : List Mono) (both : Term × Term) : Type 0 where
  pub coeff : ℕ
  pub left : x ≡ record { coeff = coeff; term = both.0 } ∷ []
  pub right : y ≡ record { coeff = coeff; term = both.1 } ∷ []

-- the pattern says of these two terms alone that they are equal
pub record AreEqualTerms (p : Pattern) (both : Term × Term) : Type 0 where
  pub coeff : ℕ
  pub is : lit_of_pattern p ≡ record {
    neg = false;
    atom = MagEq (record { coeff = coeff; term = both.0 } ∷ [])
        (record { coeff = coeff; term = both.1 } ∷ []);
  }

-- no two areas of which this is the first have to differ by what follows
abbrev pub IsFree : List Lit → Term → Type 0
IsFree facts t =
    (coeff : ℕ) (other : Term) → IsTrue (is_area_term other)
    → MetricConsequence facts (record {
      neg = true;
      atom = MagEq (record { coeff = coeff; term = t } ∷ [])
          (record { coeff = coeff; term = other } ∷ []);
    }) → ⊥
