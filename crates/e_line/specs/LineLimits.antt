-- The limits of literals that are written.
use Rattle.std.specs.Prelude.{ℕ, Bool, true, false, List, length, sum_by, nat_le, Result, Ok, Err}
use Rattle.std.specs.List.{list_all}
use Rattle.e_line.specs.declared.fault.FaultKind.{FaultKind}
use Rattle.e_line.specs.declared.fault.FaultKind.TheVariants.{Limit}
use Rattle.e_line.specs.declared.fault.What.{What}
use Rattle.e_line.specs.declared.fault.What.TheVariants as limits
use Rattle.e_line.specs.declared.literal.RawLit.{RawLit}
use Rattle.e_line.specs.Reading.{◌>>=◌}
use Rattle.e_line.specs.Literals.{monos_of}
use Rattle.e_line.specs.Limits.{most_monomials, most_coefficient}

-- ---- literals that are written

-- no literal has more monomials than it may
abbrev pub have_few_monomials : List RawLit → Bool
have_few_monomials raws = list_all (λ l. nat_le (length (monos_of l.atom)) most_monomials) raws

-- no coefficient is larger than it may be
abbrev pub have_low_coefficients : List RawLit → Bool
have_low_coefficients raws =
    list_all (λ l. list_all (λ m. nat_le m.coeff most_coefficient) (monos_of l.atom)) raws

abbrev pub count_raw_monomials : List RawLit → ℕ
count_raw_monomials raws = sum_by (λ l. length (monos_of l.atom)) raws

abbrev pub or_limit : Bool → What → Result (Unit {0}) FaultKind
or_limit true what = Ok tt
or_limit false what = Err (Limit what)

-- the limits of literals that are written
unfoldable pub check_literal_limits : List RawLit → Result (Unit {0}) FaultKind
check_literal_limits raws = do
  short ← or_limit (have_few_monomials raws) limits.Monomials
  or_limit (have_low_coefficients raws) limits.Coefficient
