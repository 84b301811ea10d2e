-- What a certificate without a rule certifies: a fact, or what follows from the facts by sums.
use Rattle.std.specs.Prelude.{ℕ, List, Bool, true, false, slice_get}
use Rattle.std.specs.Option.{option_map_or}
use Rattle.e_literal.specs.declared.object.Scope.{Scope}
use Rattle.e_literal.specs.declared.literal.Lit.{Lit}
use Rattle.e_literal.specs.Same.{same_lit}
use Rattle.e_literal.specs.Facts.{has}
use Rattle.e_clause.specs.declared.cert.Part.{Part}
use Rattle.e_clause.specs.declared.cert.Part.TheVariants.{Fact, Metric, FactAt}
use Rattle.e_clause.specs.MetricCertificate.{metric_certifies, are_sums_in}

-- the fact at this place, counted from 0, is the same as the literal
abbrev pub is_fact_at : List Lit → Lit → ℕ → Bool
is_fact_at facts l k = option_map_or (λ f. same_lit f l) (slice_get facts k) false

-- the literal is among the facts, or at this place among them, or its sums show that it follows
-- from them
abbrev pub part_certifies : List Lit → Lit → Part → Bool
part_certifies facts l Fact = has facts l
part_certifies facts l (Metric m) = metric_certifies facts l m
part_certifies facts l (FactAt k) = is_fact_at facts l k

-- the objects that it names are in the scope before its step
abbrev pub part_in : Scope → Part → Bool
part_in s Fact = true
part_in s (Metric m) = are_sums_in s m.sums
part_in s (FactAt k) = true
