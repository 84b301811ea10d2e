-- Certificates whose rows name literals that are well formed, and whose places have 32 bits.
use Rattle.std.specs.Prelude.{◌^◌, List, Bool, true, ◌&&◌, nat_lt, ℤ}
use Rattle.std.specs.List.{list_all}
use Rattle.e_literal.specs.WellFormed.{is_well_formed}
use Rattle.e_clause.specs.declared.cert.RowName.{RowName}
use Rattle.e_clause.specs.declared.cert.RowName.TheVariants.{Fact, FactAt}
use Rattle.e_clause.specs.declared.cert.Sums.{Sums}
use Rattle.e_clause.specs.declared.cert.Sums.TheVariants.{One, Two}
use Rattle.e_clause.specs.declared.cert.Part.{Part}
use Rattle.e_clause.specs.declared.cert.Part.TheVariants.{Fact as FactPart, Metric}
use Rattle.e_clause.specs.declared.cert.Part.TheVariants.{FactAt as FactPartAt}
use Rattle.e_clause.specs.declared.cert.Cert.{Cert}
use Rattle.e_clause.specs.declared.cert.Cert.TheVariants.{Plain, Transfer}
use Rattle.e_clause.specs.declared.cert.Against.{Against}
use Rattle.e_clause.specs.declared.cert.Against.TheVariants.{Clash, Metric as MetricAgainst}

-- the literal of a row is well formed, and a place has 32 bits
abbrev pub is_writable_name : RowName → Bool
is_writable_name (Fact l) = is_well_formed l
is_writable_name (FactAt k) = nat_lt k (2 ^ 32)
is_writable_name _ = true

abbrev pub is_writable_sum : List (ℤ × RowName) → Bool
is_writable_sum xs = list_all (λ x. is_writable_name x.1) xs

abbrev pub are_writable_sums : Sums → Bool
are_writable_sums (One sum) = is_writable_sum sum
are_writable_sums (Two differs above below) =
    is_writable_name differs && (is_writable_sum above && is_writable_sum below)

abbrev pub is_writable_part : Part → Bool
is_writable_part FactPart = true
is_writable_part (Metric m) = are_writable_sums m.sums
is_writable_part (FactPartAt k) = nat_lt k (2 ^ 32)

abbrev pub is_writable_cert : Cert → Bool
is_writable_cert (Plain p) = is_writable_part p
is_writable_cert (Transfer t) = list_all is_writable_part t.parts

abbrev pub is_writable_against : Against → Bool
is_writable_against (Clash l) = true
is_writable_against (MetricAgainst m) = are_writable_sums m.sums
