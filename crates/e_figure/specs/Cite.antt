-- Literals that are cited one after the other, and are true where the first facts are.
use Rattle.std.specs.Prelude.{◌≡◌, List, [], ◌∷◌, ◌++◌, ◌&&◌, ◌⊎◌, Bool, false, not, IsTrue}
use Rattle.std.specs.List.{list_all}
use Rattle.e_literal.specs.Facts.{has}
use Rattle.e_literal.specs.declared.literal.Lit.{Lit}
use Rattle.e_literal.specs.declared.object.Scope.{Scope}
use Rattle.e_clause.specs.declared.cert.By.{By}
use Rattle.e_clause.specs.Citing.{is_citation, is_cited}
use Rattle.e_figure.specs.Figure.{FigureView, is_figure}
use Rattle.e_figure.specs.Truth.{is_true}

-- a citation over the scope gives the literal: the instance has it, and the negation of each of its
-- others is a fact
pub record IsCited (scope : Scope) (facts : List Lit) (l : Lit) : Type 0 where
  pub by : By
  pub lit : by.lit ≡ l
  pub citation : IsTrue (is_citation scope by)
  pub cited : IsTrue (is_cited facts by)

-- each literal is a fact, or cited from the facts and the literals before it
abbrev pub IsCiteList : Scope → List Lit → List Lit → Type 0
IsCiteList scope facts [] = Unit {0}
IsCiteList scope facts (l ∷ ls) =
    (IsTrue (has facts l) ⊎ IsCited scope facts l) × IsCiteList scope (facts ++ l ∷ []) ls

-- what is cited from true facts is true
abbrev pub CitedIsTrue : Type 0
CitedIsTrue =
    (d : FigureView) (scope : Scope) (facts ls : List Lit) →
    IsTrue (is_figure d) → IsTrue (list_all (is_true d) facts) →
    IsCiteList scope facts ls → IsTrue (list_all (is_true d) ls)

-- the figure shows that the literal does not follow: the facts are true in it, and the literal is
-- not
abbrev pub is_refuted : FigureView → List Lit → Lit → Bool
is_refuted d facts l = list_all (is_true d) facts && not (is_true d l)

-- no list of literals that are facts, or cited one after the other, has one the same as this
abbrev pub IsUncited : Scope → List Lit → Lit → Type 0
IsUncited scope facts l = (ls : List Lit) → IsCiteList scope facts ls → has ls l ≡ false
