-- The lines of certificates, as their words.
use Rattle.std.specs.Prelude.{ℕ, ℤ, List, [], ◌∷◌, ◌++◌, map, codes, decimal, Option, Some, None}
use Rattle.std.specs.Fmt.{signed_decimal}
use Rattle.std.specs.List.{flat_map}
use Rattle.e_clause.specs.declared.cert.RowName.{RowName}
use Rattle.e_clause.specs.declared.cert.RowName.TheVariants as rows
use Rattle.e_clause.specs.declared.cert.Sums.{Sums}
use Rattle.e_clause.specs.declared.cert.Sums.TheVariants.{One, Two}
use Rattle.e_clause.specs.declared.cert.MetricCert.{MetricCert}
use Rattle.e_clause.specs.declared.cert.Part.{Part}
use Rattle.e_clause.specs.declared.cert.Part.TheVariants.{Fact, Metric, FactAt}
use Rattle.e_clause.specs.declared.cert.TransferCert.{TransferCert}
use Rattle.e_clause.specs.declared.cert.Cert.{Cert}
use Rattle.e_clause.specs.declared.cert.Cert.TheVariants.{Plain, Transfer}
use Rattle.e_clause.specs.declared.cert.Against.{Against}
use Rattle.e_clause.specs.declared.cert.Against.TheVariants.{Clash, Metric as MetricAgainst}
use Rattle.e_deriv.specs.declared.names.Names.{Names}
use Rattle.e_literal.specs.declared.object.Term.{Term}
use Rattle.e_text.specs.Tokens.{joined_words}
use Rattle.e_line.specs.Canonical.{term_words, lit_words}
use Rattle.e_names.specs.Canonical.{raw_term, raw_of, rule_name, name_of_object}

-- ---- rows

-- a term with the names of its points
abbrev pub named_term : Names → Term → List (List ℕ)
named_term ns t = term_words (raw_term ns t)

abbrev pub row_words : Names → RowName → List (List ℕ)
row_words ns (rows.Fact l) = codes "fact" ∷ lit_words (raw_of ns l)
row_words ns rows.Goal = codes "goal" ∷ []
row_words ns (rows.Pos t) = codes "pos" ∷ named_term ns t
row_words ns (rows.Top t) = codes "top" ∷ named_term ns t
row_words ns rows.Right = codes "right" ∷ []
row_words ns (rows.Least t) = codes "least" ∷ named_term ns t
row_words ns rows.Above = codes "above" ∷ []
row_words ns rows.Below = codes "below" ∷ []
row_words ns (rows.FactAt k) = codes "fact" ∷ decimal k ∷ []

-- a row after its multiplier
abbrev pub row_line : Names → ℤ × RowName → List (List ℕ)
row_line ns r = codes "|" ∷ signed_decimal r.0 ∷ row_words ns r.1

-- ---- certificates: each line begins with the sign `|`

-- one row a line, in order
abbrev pub sum_lines : Names → List (ℤ × RowName) → List (List (List ℕ))
sum_lines ns sum = (codes "|" ∷ codes "sum" ∷ []) ∷ map (row_line ns) sum

-- the row that differs comes before its two sums. It is the goal's or a fact's: another one
-- certifies nothing and is malformed in a text, and is written as a row all the same
abbrev pub sums_lines : Names → Sums → List (List (List ℕ))
sums_lines ns (One sum) = sum_lines ns sum
sums_lines ns (Two differs above below) =
    (codes "|" ∷ codes "differs" ∷ row_words ns differs)
    ∷ (sum_lines ns above ++ sum_lines ns below)

abbrev pub metric_lines : Names → MetricCert → List (List (List ℕ))
metric_lines ns m = (codes "|" ∷ codes "metric" ∷ []) ∷ sums_lines ns m.sums

abbrev pub part_lines : Names → Part → List (List (List ℕ))
part_lines ns Fact = (codes "|" ∷ codes "fact" ∷ []) ∷ []
part_lines ns (Metric m) = metric_lines ns m
part_lines ns (FactAt k) = (codes "|" ∷ codes "fact" ∷ decimal k ∷ []) ∷ []

-- the rule and its arguments, and the certificates of the parts in order
abbrev pub transfer_lines : Names → TransferCert → List (List (List ℕ))
transfer_lines ns t =
    (codes "|" ∷ codes "transfer" ∷ rule_name t.rule ∷ map (name_of_object ns) t.args)
    ∷ flat_map (part_lines ns) t.parts

abbrev pub cert_lines : Names → Cert → List (List (List ℕ))
cert_lines ns (Plain p) = part_lines ns p
cert_lines ns (Transfer t) = transfer_lines ns t

-- the lines of certificates, one after the other
abbrev pub certs_lines : Names → List Cert → List (List ℕ)
certs_lines ns cs = map joined_words (flat_map (cert_lines ns) cs)

-- ---- contradictions

abbrev pub against_lines : Names → Against → List (List (List ℕ))
against_lines ns (Clash l) = (codes "|" ∷ codes "clash" ∷ lit_words (raw_of ns l)) ∷ []
against_lines ns (MetricAgainst m) = metric_lines ns m

-- the lines of the certificate of a contradiction, where it has one
abbrev pub contradiction_lines : Names → Option Against → List (List ℕ)
contradiction_lines ns None = []
contradiction_lines ns (Some a) = map joined_words (against_lines ns a)
