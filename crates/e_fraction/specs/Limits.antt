-- How many rows there may be, and how large coefficients and multipliers may be.
use Rattle.std.specs.Prelude.{ℕ, ℤ, List, Bool, ◌^◌, nat_le, unsigned_abs}
use Rattle.std.specs.List.{list_all}
use Rattle.e_literal.specs.Rows.{Summands}
use Rattle.e_fraction.specs.declared.row.Row.{Row}

-- this many rows may be decided, or added up, together
abbrev pub most_rows_of_system : ℕ
most_rows_of_system = 4096

-- each coefficient of the form has size at most 2 ^ 30
abbrev pub has_small_coefficients : Summands → Bool
has_small_coefficients form = list_all (λ p. nat_le (unsigned_abs p.0) (2 ^ 30)) form

abbrev pub all_small : List Row → Bool
all_small rows = list_all (λ r. has_small_coefficients r.form) rows

-- each multiplier has size at most 2 ^ 80
abbrev pub small_multipliers : List ℤ → Bool
small_multipliers ms = list_all (λ m. nat_le (unsigned_abs m) (2 ^ 80)) ms
