-- Rows that are short, with coefficients that are small.
use Rattle.std.specs.Prelude.{List, length, Bool, true, ◌&&◌, nat_le}
use Rattle.std.specs.List.{list_all}
use Rattle.e_literal.specs.declared.object.Mono.{Mono}
use Rattle.e_verify.specs.declared.rows.LitRow.{LitRow}
use Rattle.e_verify.specs.declared.rows.Row.{Row}
use Rattle.e_verify.specs.declared.rows.Row.TheVariants.{Sums}

-- at most 32 monomials, with coefficients of at most 1,000,000: the limits of the language
abbrev pub are_small_monomials : List Mono → Bool
are_small_monomials ms = nat_le (length ms) 32 && list_all (λ m. nat_le m.coeff 1000000) ms

-- the sums of a literal's row are small
abbrev pub is_small_lit_row : LitRow → Bool
is_small_lit_row c = are_small_monomials c.plus.now && are_small_monomials c.minus.now

-- the sums of the row are small
abbrev pub is_small_row : Row → Bool
is_small_row (Sums sense x y turned) = are_small_monomials x.now && are_small_monomials y.now
is_small_row _ = true
