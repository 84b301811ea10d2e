-- Rows of the program as the rows that definitions name.
use Rattle.std.specs.Prelude.{◌≡◌, ◌≤◌, List, [], ◌∷◌, ◌++◌, length, Bool, not, Option, Some, None}
use Rattle.std.specs.Prelude.{IsTrue, pos}
use Rattle.std.specs.List.{list_all}
use Rattle.std.specs.Ordering.{int_eq}
use Rattle.e_literal.specs.declared.object.Term.{Term}
use Rattle.e_literal.specs.Rows.{Row, Summands, coefficient}
use Rattle.e_clause.specs.declared.cert.RowName.{RowName}
use Rattle.e_clause.specs.System.{NamedRow}
use Rattle.e_fraction.specs.declared.row.Row.{Row as GivenRow}
use Rattle.e_fraction.specs.Views.{sense_of}
use Rattle.e_fraction.specs.Limits.{has_small_coefficients}

-- no coefficient is 0
abbrev pub has_no_zero : Summands → Bool
has_no_zero form = list_all (λ p. not (int_eq p.0 (pos 0))) form

-- the row says the same of a form with the same coefficients, in which each term occurs once and
-- none with 0
pub record IsRow (given : GivenRow) (r : Row) : Type 0 where
  pub sense : sense_of given.sense ≡ r.sense
  pub coefficients : (t : Term) → coefficient given.form t ≡ coefficient r.form t
  pub no_zero : IsTrue (has_no_zero given.form)

abbrev pub IsRowOrNone : Option Row → Option GivenRow → Type 0
IsRowOrNone (Some r) (Some given) = IsRow given r
IsRowOrNone None None = Unit {0}
IsRowOrNone _ _ = ⊥

-- the rows are the named ones, in order, each with its name
abbrev pub AreRows : List NamedRow → List (RowName × GivenRow) → Type 0
AreRows [] [] = Unit {0}
AreRows (r ∷ rs) (p ∷ ps) = (p.0 ≡ r.name) × IsRow p.1 r.row × AreRows rs ps
AreRows _ _ = ⊥

-- the row is short, with coefficients within plus or minus 2 ^ 30
pub record IsLimited (given : GivenRow) : Type 0 where
  pub small : IsTrue (has_small_coefficients given.form)
  pub short : length given.form ≤ 32

abbrev pub IsLimitedOrNone : Option GivenRow → Type 0
IsLimitedOrNone (Some given) = IsLimited given
IsLimitedOrNone None = Unit {0}

abbrev pub AllLimited : List (RowName × GivenRow) → Type 0
AllLimited [] = Unit {0}
AllLimited (p ∷ ps) = IsLimited p.1 × AllLimited ps

-- the rows grow by these named ones
pub record GrowBy (more : List NamedRow) (old new : List (RowName × GivenRow)) : Type 0 where
  pub rows : (rs : List NamedRow) → AreRows rs old → AreRows (rs ++ more) new
  pub limited : AllLimited old → AllLimited new
