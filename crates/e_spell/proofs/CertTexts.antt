-- The texts of certificates are those of their lines.
use Rattle.std.proofs.Common.{◌≡◌, ℕ, ℤ, List, [], ◌∷◌, ◌++◌, map, refl, sym, ap, ◌∙◌, append_assoc}
use Rattle.std.specs.Prelude.{Option, Some, None, codes}
use Rattle.std.specs.List.{flat_map}
use Rattle.std.proofs.lemmas.List.{append-nil}
use Rattle.e_clause.specs.declared.cert.RowName.{RowName}
use Rattle.e_clause.specs.declared.cert.Sums.{Sums}
use Rattle.e_clause.specs.declared.cert.Sums.TheVariants.{One, Two}
use Rattle.e_clause.specs.declared.cert.MetricCert.{MetricCert}
use Rattle.e_clause.specs.declared.cert.Part.{Part}
use Rattle.e_clause.specs.declared.cert.Part.TheVariants.{Fact, Metric, FactAt}
use Rattle.e_clause.specs.declared.cert.Cert.{Cert}
use Rattle.e_clause.specs.declared.cert.Cert.TheVariants.{Plain, Transfer}
use Rattle.e_clause.specs.declared.cert.Against.{Against}
use Rattle.e_clause.specs.declared.cert.Against.TheVariants.{Clash, Metric as MetricAgainst}
use Rattle.e_deriv.specs.declared.names.Names.{Names}
use Rattle.e_text.specs.Tokens.{joined_words}
use Rattle.e_book.specs.Canonical.{text_of}
use Rattle.e_spell.specs.Certificates.{row_line, sum_lines, sums_lines, metric_lines, part_lines, cert_lines, certs_lines, contradiction_lines}
use Rattle.e_spell.specs.inner.Parts.{bar_text, row_text, rows_text, sum_text, differs_text, sums_text, metric_text, part_text, parts_text, instance_text, cert_text, certs_text, against_text, contradiction_text}

-- the text of lines that are given by their words
abbrev pub words_text : List (List (List ℕ)) → List ℕ
words_text ls = text_of (map joined_words ls)

pub of_words : (xs ys : List (List (List ℕ))) → words_text (xs ++ ys) ≡ words_text xs ++ words_text ys
of_words [] ys = refl
of_words (x ∷ xs) ys = ap (λ (t : List ℕ). (joined_words x ++ 10 ∷ []) ++ t) (of_words xs ys) ∙ sym (append_assoc (joined_words x ++ 10 ∷ []) (words_text xs) (words_text ys))

of_rows : (ns : Names) (rs : List (ℤ × RowName)) → words_text (map (row_line ns) rs) ≡ rows_text ns rs
of_rows ns [] = refl
of_rows ns (r ∷ rs) = ap (λ (t : List ℕ). row_text ns r ++ t) (of_rows ns rs)

of_sum : (ns : Names) (rs : List (ℤ × RowName)) → words_text (sum_lines ns rs) ≡ sum_text ns rs
of_sum ns rs = ap (λ (t : List ℕ). bar_text (codes "sum" ∷ []) ++ t) (of_rows ns rs)

of_sums : (ns : Names) (s : Sums) → words_text (sums_lines ns s) ≡ sums_text ns s
of_sums ns (One sum) = of_sum ns sum
of_sums ns (Two differs above below) =
    ap (λ (t : List ℕ). differs_text ns differs ++ t)
    (of_words (sum_lines ns above) (sum_lines ns below) ∙ ap (λ (t : List ℕ). t ++ words_text (sum_lines ns below)) (of_sum ns above) ∙ ap (λ (t : List ℕ). sum_text ns above ++ t) (of_sum ns below))

of_metric : (ns : Names) (m : MetricCert) → words_text (metric_lines ns m) ≡ metric_text ns m
of_metric ns m = ap (λ (t : List ℕ). bar_text (codes "metric" ∷ []) ++ t) (of_sums ns m.sums)

of_part : (ns : Names) (p : Part) → words_text (part_lines ns p) ≡ part_text ns p
of_part ns Fact = refl
of_part ns (Metric m) = of_metric ns m
of_part ns (FactAt k) = append-nil (part_text ns (FactAt k))

of_parts : (ns : Names) (ps : List Part) → words_text (flat_map (part_lines ns) ps) ≡ parts_text ns ps
of_parts ns [] = refl
of_parts ns (p ∷ ps) =
    of_words (part_lines ns p) (flat_map (part_lines ns) ps) ∙ ap (λ (t : List ℕ). t ++ words_text (flat_map (part_lines ns) ps)) (of_part ns p) ∙ ap (λ (t : List ℕ). part_text ns p ++ t) (of_parts ns ps)

of_cert : (ns : Names) (c : Cert) → words_text (cert_lines ns c) ≡ cert_text ns c
of_cert ns (Plain p) = of_part ns p
of_cert ns (Transfer t) = ap (λ (x : List ℕ). instance_text ns t.rule t.args ++ x) (of_parts ns t.parts)

pub of_certs : (ns : Names) (cs : List Cert) → text_of (certs_lines ns cs) ≡ certs_text ns cs
of_certs ns [] = refl
of_certs ns (c ∷ cs) =
    of_words (cert_lines ns c) (flat_map (cert_lines ns) cs) ∙ ap (λ (t : List ℕ). t ++ text_of (certs_lines ns cs)) (of_cert ns c) ∙ ap (λ (t : List ℕ). cert_text ns c ++ t) (of_certs ns cs)

pub of_contradiction : (ns : Names) (a : Option Against) → text_of (contradiction_lines ns a) ≡ contradiction_text ns a
of_contradiction ns None = refl
of_contradiction ns (Some (Clash l)) = append-nil (against_text ns (Clash l))
of_contradiction ns (Some (MetricAgainst m)) = of_metric ns m
