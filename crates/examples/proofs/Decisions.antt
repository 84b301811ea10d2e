-- What the calls answer decides the questions.
use Rattle.std.specs.Prelude.{◌≡◌, ℕ, List, Bool, true, false, Option, Some, None, IsTrue}
use Rattle.std.proofs.Common.{subst}
use Rattle.e_literal.specs.declared.object.Term.{Term}
use Rattle.e_literal.specs.declared.literal.Lit.{Lit}
use Rattle.e_literal.specs.Rows.{Row}
use Rattle.e_literal.specs.Minor.{IsWide}
use Rattle.e_literal.specs.Solution.{HasSolution}
use Rattle.e_simplex.specs.Answer.{IsVerdict, AreValuesOf, assigned_value}
use Rattle.e_simplex.specs.declared.decision.Verdict.{Verdict}
use Rattle.e_simplex.specs.declared.decision.Verdict.TheVariants.{Absurd, Holds, TooWide}
use Rattle.e_clause.specs.declared.cert.Cert.{Cert}
use Rattle.e_clause.specs.Allowed.{Allowed}
use Rattle.e_clause.proofs.Sound.{allowed_of_certified}
use Rattle.e_licence.specs.Contexts.{Basis}
use Rattle.e_licence.specs.Licences.{IsLicence}
use Rattle.e_licence.specs.declared.licensing.Licensed.{Licensed}
use Rattle.e_licence.specs.declared.licensing.Licensed.TheVariants as licensed
use Rattle.examples.specs.Decided.{Decides}
use Rattle.examples.specs.TooWide.{IsTooWide}

abbrev pub solution_of : Verdict → Option Bool
solution_of (Holds v) = Some true
solution_of (Absurd a) = Some false
solution_of TooWide = None

pub decided : (rows : List Row) (v : Verdict) → IsVerdict rows v → Decides (HasSolution rows) (IsWide rows) (solution_of v)
decided rows (Holds v) is = record { values = assigned_value v; satisfy = is.satisfy }
decided rows (Absurd a) is = is.none
decided rows TooWide is = is.0

abbrev pub allowed_of : Licensed → Option Bool
allowed_of (licensed.Yes c) = Some true
allowed_of (licensed.No v) = Some false
allowed_of (licensed.TooWide w) = None

pub allows : (b : Basis) (l : Lit) (a : Licensed) → IsLicence b l a → Decides (Allowed b.scope b.facts l) (IsTooWide b.scope b.facts l) (allowed_of a)
allows b l (licensed.Yes c) is = allowed_of_certified b.scope b.facts l c is.certifies
allows b l (licensed.No v) is = is.not_allowed
allows b l (licensed.TooWide w) is = record { width = w; wide = is }
