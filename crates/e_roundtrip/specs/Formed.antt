-- When the certificates of a derivation are such as lines of a text can say, whether they certify
-- or not.
use Rattle.std.specs.Prelude.{ℤ, ◌^◌, nat_lt, List, [], ◌∷◌, length, Bool, true, false, not, ◌&&◌}
use Rattle.std.specs.Prelude.{◌==◌, Some, None, IsTrue}
use Rattle.std.specs.Option.{option_map_or}
use Rattle.std.specs.List.{list_all}
use Rattle.e_literal.specs.declared.object.Scope.{Scope}
use Rattle.e_literal.specs.declared.literal.Lit.{Lit}
use Rattle.e_literal.specs.Literal.{all_in_scope}
use Rattle.e_literal.specs.Facts.{is_metric, others}
use Rattle.e_literal.specs.Use.{StatementView}
use Rattle.e_clause.specs.declared.cert.RowName.{RowName}
use Rattle.e_clause.specs.declared.cert.RowName.TheVariants.{Fact, Goal, FactAt}
use Rattle.e_clause.specs.declared.cert.Sums.{Sums}
use Rattle.e_clause.specs.declared.cert.Sums.TheVariants.{One, Two}
use Rattle.e_clause.specs.declared.cert.Part.{Part}
use Rattle.e_clause.specs.declared.cert.Part.TheVariants.{Fact as FactPart, Metric}
use Rattle.e_clause.specs.declared.cert.Part.TheVariants.{FactAt as FactPartAt}
use Rattle.e_clause.specs.declared.cert.Cert.{Cert}
use Rattle.e_clause.specs.declared.cert.Cert.TheVariants.{Plain, Transfer}
use Rattle.e_clause.specs.declared.cert.Against.{Against}
use Rattle.e_clause.specs.declared.cert.Against.TheVariants.{Clash, Metric as MetricAgainst}
use Rattle.e_clause.specs.Instance.{Inst}
use Rattle.e_clause.specs.RuleKinds.{is_transfer}
use Rattle.e_clause.specs.Sum.{is_limited_sum}
use Rattle.e_clause.specs.MetricCertificate.{row_name_in, sum_in}
use Rattle.e_clause.specs.TransferCertificate.{are_args_in}
use Rattle.e_clause.specs.Written.{is_writable_name, is_writable_sum}
use Rattle.e_deriv.specs.Script.{Script, Apply, Contradiction}
use Rattle.e_deriv.specs.PlacedSteps.{PlacedStep}
use Rattle.e_deriv.specs.Parts.{has_no_blank}
use Rattle.e_deriv.specs.Steps.{fits, needs}
use Rattle.e_deriv.specs.Certified.{certs_of, derivation_steps}

-- ---- sums

-- 1 to 4,096 rows with multipliers from 1 to 2^80 in size, their objects in scope and their
-- literals well formed
abbrev pub sum_formed : Scope → List (ℤ × RowName) → Bool
sum_formed s xs = is_limited_sum xs && (sum_in s xs && is_writable_sum xs)

-- the row of two sums is a fact's or that of the goal
abbrev pub names_difference : RowName → Bool
names_difference (Fact l) = true
names_difference Goal = true
names_difference (FactAt k) = true
names_difference row = false

abbrev pub difference_formed : Scope → RowName → Bool
difference_formed s row = names_difference row && (row_name_in s row && is_writable_name row)

abbrev pub sums_formed : Scope → Sums → Bool
sums_formed s (One sum) = sum_formed s sum
sums_formed s (Two differs first second) =
    difference_formed s differs && (sum_formed s first && sum_formed s second)

-- ---- certificates

abbrev pub part_formed : Scope → Part → Bool
part_formed s FactPart = true
part_formed s (Metric m) = sums_formed s m.sums
part_formed s (FactPartAt k) = nat_lt k (2 ^ 32)

-- an instance of a transfer rule, in scope, with one part for each place that has another literal
-- than this one
abbrev pub has_parts : Lit → List Part → List Lit → Bool
has_parts l parts lits = length parts == length (others lits l)

abbrev pub cert_formed : Scope → Lit → Cert → Bool
cert_formed s l (Plain p) = part_formed s p
cert_formed s l (Transfer t) =
    is_transfer t.rule && (option_map_or (has_parts l t.parts) (Inst t.rule t.args) false
    && (are_args_in s t && list_all (part_formed s) t.parts))

-- as many certificates as literals, each of the form of one for its literal
abbrev pub certs_formed : Scope → List Lit → List Cert → Bool
certs_formed s [] [] = true
certs_formed s (l ∷ ls) (c ∷ cs) = cert_formed s l c && certs_formed s ls cs
certs_formed s _ _ = false

-- a diagram literal in scope, or sums
abbrev pub against_formed : Scope → Against → Bool
against_formed s (Clash l) = all_in_scope s l && not (is_metric l)
against_formed s (MetricAgainst m) = sums_formed s m.sums

-- ---- steps

-- beside the needs: an application has no blank, and a contradiction has its certificate
abbrev pub formed_beside : Script → Scope → Bool
formed_beside (Apply theorem args names certs rest) s = has_no_blank args
formed_beside (Contradiction (Some against)) s = against_formed s against
formed_beside (Contradiction None) s = false
formed_beside _ s = true

-- the step fits, and has a certificate of its form for each literal that it needs
abbrev pub is_formed : List StatementView → PlacedStep → Bool
is_formed before x =
    fits before x
    && (certs_formed x.scope (needs before x) (certs_of x.here) && formed_beside x.here x.scope)

-- each step of the derivation does
abbrev pub Formed : List StatementView → StatementView → Script → Type 0
Formed before t d = IsTrue (list_all (is_formed before) (derivation_steps before t d))
