-- Each line of a certificate begins with the sign `|`.
use Rattle.std.proofs.Common.{◌≡◌, ℕ, ℤ, List, [], ◌∷◌, ◌++◌, map, refl, ap, ◌∙◌}
use Rattle.std.specs.Prelude.{filter, Option, Some, None}
use Rattle.std.specs.List.{flat_map}
use Rattle.std.proofs.lemmas.List.Elements.{filter-append}
use Rattle.e_clause.specs.declared.cert.RowName.{RowName}
use Rattle.e_clause.specs.declared.cert.Sums.{Sums}
use Rattle.e_clause.specs.declared.cert.Sums.TheVariants.{One, Two}
use Rattle.e_clause.specs.declared.cert.Part.{Part}
use Rattle.e_clause.specs.declared.cert.Part.TheVariants.{Fact, Metric, FactAt}
use Rattle.e_clause.specs.declared.cert.Cert.{Cert}
use Rattle.e_clause.specs.declared.cert.Cert.TheVariants.{Plain, Transfer}
use Rattle.e_clause.specs.declared.cert.Against.{Against}
use Rattle.e_clause.specs.declared.cert.Against.TheVariants.{Clash, Metric as MetricAgainst}
use Rattle.e_deriv.specs.declared.names.Names.{Names}
use Rattle.e_text.specs.Tokens.{joined_words}
use Rattle.e_spell.specs.Certificates.{row_line, sum_lines, sums_lines, part_lines, cert_lines, certs_lines, contradiction_lines}
use Rattle.e_spell.specs.Laws.{is_plain_line}

-- none of the lines with these words stays
abbrev pub Go : List (List (List ℕ)) → Type 0
Go ls = filter is_plain_line (map joined_words ls) ≡ []

joined_append : (xs ys : List (List (List ℕ))) → map joined_words (xs ++ ys) ≡ map joined_words xs ++ map joined_words ys
joined_append [] ys = refl
joined_append (x ∷ xs) ys = ap (λ (l : List (List ℕ)). joined_words x ∷ l) (joined_append xs ys)

both_go : (xs ys : List (List (List ℕ))) → Go xs → Go ys → Go (xs ++ ys)
both_go xs ys x y =
    ap (filter is_plain_line) (joined_append xs ys) ∙ filter-append is_plain_line (map joined_words xs) (map joined_words ys) ∙ ap (λ (l : List (List ℕ)). l ++ filter is_plain_line (map joined_words ys)) x ∙ y

rows_go : (ns : Names) (rs : List (ℤ × RowName)) → Go (map (row_line ns) rs)
rows_go ns [] = refl
rows_go ns (r ∷ rs) = rows_go ns rs

sums_go : (ns : Names) (s : Sums) → Go (sums_lines ns s)
sums_go ns (One sum) = rows_go ns sum
sums_go ns (Two differs above below) = both_go (sum_lines ns above) (sum_lines ns below) (rows_go ns above) (rows_go ns below)

part_goes : (ns : Names) (p : Part) → Go (part_lines ns p)
part_goes ns Fact = refl
part_goes ns (Metric m) = sums_go ns m.sums
part_goes ns (FactAt k) = refl

parts_go : (ns : Names) (ps : List Part) → Go (flat_map (part_lines ns) ps)
parts_go ns [] = refl
parts_go ns (p ∷ ps) = both_go (part_lines ns p) (flat_map (part_lines ns) ps) (part_goes ns p) (parts_go ns ps)

cert_goes : (ns : Names) (c : Cert) → Go (cert_lines ns c)
cert_goes ns (Plain p) = part_goes ns p
cert_goes ns (Transfer t) = parts_go ns t.parts

pub certs_go : (ns : Names) (cs : List Cert) → filter is_plain_line (certs_lines ns cs) ≡ []
certs_go ns [] = refl
certs_go ns (c ∷ cs) = both_go (cert_lines ns c) (flat_map (cert_lines ns) cs) (cert_goes ns c) (certs_go ns cs)

pub contradiction_goes : (ns : Names) (a : Option Against) → filter is_plain_line (contradiction_lines ns a) ≡ []
contradiction_goes ns None = refl
contradiction_goes ns (Some (Clash l)) = refl
contradiction_goes ns (Some (MetricAgainst m)) = sums_go ns m.sums
