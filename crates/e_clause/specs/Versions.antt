-- Certificates of one version: all of them cite facts by literals that are the same, or all by
-- their places.
use Rattle.std.specs.Prelude.{◌^◌, List, Bool, true, false, ◌&&◌, nat_lt, ℤ}
use Rattle.std.specs.List.{list_all}
use Rattle.e_literal.specs.WellFormed.{is_well_formed}
use Rattle.e_clause.specs.declared.cert.Version.{Version}
use Rattle.e_clause.specs.declared.cert.Version.TheVariants as version
use Rattle.e_clause.specs.declared.cert.RowName.{RowName}
use Rattle.e_clause.specs.declared.cert.RowName.TheVariants.{Fact, FactAt}
use Rattle.e_clause.specs.declared.cert.Sums.{Sums}
use Rattle.e_clause.specs.declared.cert.Sums.TheVariants.{One, Two}
use Rattle.e_clause.specs.declared.cert.Part.{Part}
use Rattle.e_clause.specs.declared.cert.Part.TheVariants.{Fact as FactPart, Metric}
use Rattle.e_clause.specs.declared.cert.Part.TheVariants.{FactAt as FactPartAt}
use Rattle.e_clause.specs.declared.cert.Cert.{Cert}
use Rattle.e_clause.specs.declared.cert.Cert.TheVariants.{Plain, Transfer}
use Rattle.e_clause.specs.declared.cert.Against.{Against}
use Rattle.e_clause.specs.declared.cert.Against.TheVariants.{Clash, Metric as MetricAgainst}

-- facts are cited by literals that are the same
abbrev pub by_literals : Version → Bool
by_literals version.One = true
by_literals version.Two = false

-- facts are cited by their places
abbrev pub by_places : Version → Bool
by_places version.One = false
by_places version.Two = true

-- a fact's row is named as in this version: by a literal, which is well formed, or by a place of 32
-- bits
abbrev pub is_name_of : Version → RowName → Bool
is_name_of v (Fact l) = by_literals v && is_well_formed l
is_name_of v (FactAt k) = by_places v && nat_lt k (2 ^ 32)
is_name_of v _ = true

abbrev pub is_sum_of : Version → List (ℤ × RowName) → Bool
is_sum_of v xs = list_all (λ x. is_name_of v x.1) xs

abbrev pub are_sums_of : Version → Sums → Bool
are_sums_of v (One sum) = is_sum_of v sum
are_sums_of v (Two differs above below) =
    is_name_of v differs && (is_sum_of v above && is_sum_of v below)

-- a fact that is the wanted literal is cited as in this version: with nothing more, or by a place
-- of 32 bits
abbrev pub is_part_of : Version → Part → Bool
is_part_of v FactPart = by_literals v
is_part_of v (Metric m) = are_sums_of v m.sums
is_part_of v (FactPartAt k) = by_places v && nat_lt k (2 ^ 32)

abbrev pub is_cert_of : Version → Cert → Bool
is_cert_of v (Plain p) = is_part_of v p
is_cert_of v (Transfer t) = list_all (is_part_of v) t.parts

abbrev pub is_against_of : Version → Against → Bool
is_against_of v (Clash l) = true
is_against_of v (MetricAgainst m) = are_sums_of v m.sums
