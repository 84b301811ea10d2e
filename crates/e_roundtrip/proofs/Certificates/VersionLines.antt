-- The lines of certificates of one version have a form in that version.
use Rattle.std.proofs.Common.{◌≡◌, ◌^◌, ℕ, ℤ, true, ltb, List, [], ◌∷◌, ◌++◌, map, Ok, refl, sym, ap, ◌∙◌}
use Rattle.std.specs.Prelude.{codes, Result}
use Rattle.std.specs.Fmt.{signed_decimal}
use Rattle.std.specs.List.{list_all, flat_map, AllByRecursion}
use Rattle.std.proofs.lemmas.Bool.{and_parts}
use Rattle.e_literal.specs.WellFormed.{is_well_formed}
use Rattle.e_clause.specs.declared.cert.Version.{Version}
use Rattle.e_clause.specs.declared.cert.RowName.{RowName}
use Rattle.e_clause.specs.declared.cert.RowName.TheVariants as names
use Rattle.e_clause.specs.declared.cert.Sums.{Sums}
use Rattle.e_clause.specs.declared.cert.Sums.TheVariants.{One, Two}
use Rattle.e_clause.specs.declared.cert.MetricCert.{MetricCert}
use Rattle.e_clause.specs.declared.cert.Part.{Part}
use Rattle.e_clause.specs.declared.cert.Part.TheVariants as parts
use Rattle.e_clause.specs.Versions.{by_literals, by_places, is_name_of, is_sum_of, are_sums_of, is_part_of}
use Rattle.e_deriv.specs.declared.names.Names.{Names}
use Rattle.e_line.specs.declared.fault.FaultKind.{FaultKind}
use Rattle.e_names.proofs.resolution.Lookups.{InOrder}
use Rattle.e_line.proofs.base.Bound.{ok_is}
use Rattle.e_cert.specs.declared.cert_line.CertLine.{CertLine}
use Rattle.e_cert.specs.declared.cert_line.CertLine.TheVariants as certlines
use Rattle.e_cert.specs.CertLines.{cert_line_of, cert_line_words, row_is_of, cert_line_is_of}
use Rattle.e_spell.specs.Certificates.{row_line, sum_lines, sums_lines, metric_lines, part_lines}
use Rattle.e_roundtrip.proofs.Certificates.CertLinesAgain.{CertLineNamed, cert_line_again}
use Rattle.e_roundtrip.proofs.Certificates.RowsAgain.{raw_row, row_spelled, row_named_again}
use Rattle.e_roundtrip.proofs.Certificates.Feeding.{bar_words, GoodRow, GoodSum, GoodSums, GoodPart}

-- the words are those of a line that has a form in the version
abbrev pub LineOf : Version → List (List ℕ) → Type 0
LineOf v words = (m : CertLine) × (words ≡ bar_words m) × CertLineNamed m × (cert_line_is_of v m ≡ true)

abbrev pub LinesOf : Version → List (List (List ℕ)) → Type 0
LinesOf v lines = AllByRecursion (LineOf v) lines

pub lines_append : (v : Version) (xs ys : List (List (List ℕ))) → LinesOf v xs → LinesOf v ys → LinesOf v (xs ++ ys)
lines_append v [] ys h k = k
lines_append v (x ∷ xs) ys h k = (h.0, lines_append v xs ys h.1 k)

-- ---- one line of certificates has these words

after_bar : List (List ℕ) → List (List ℕ)
after_bar [] = []
after_bar (w ∷ ws) = ws

pub same_cert_line : (a b : CertLine) → CertLineNamed a → CertLineNamed b → bar_words a ≡ bar_words b → a ≡ b
unfolding after_bar
same_cert_line a b h k e =
    let read : CertLine → Result CertLine FaultKind = λ m. Ok m in
    let words : cert_line_words a ≡ cert_line_words b = ap after_bar e in
    let is : read a ≡ read b = sym (cert_line_again a h) ∙ ap cert_line_of words ∙ cert_line_again b k in
    ok_is a b is

-- ---- rows

row_version : (v : Version) (ns : Names) (r : RowName) → is_name_of v r ≡ true → row_is_of v (raw_row ns r) ≡ true
row_version v ns (names.Fact l) h = (and_parts (by_literals v) (is_well_formed l) h).0
row_version v ns (names.FactAt k) h = (and_parts (by_places v) (ltb k (2 ^ 32)) h).0
row_version v ns names.Goal h = refl
row_version v ns (names.Pos t) h = refl
row_version v ns (names.Top t) h = refl
row_version v ns names.Right h = refl
row_version v ns (names.Least t) h = refl
row_version v ns names.Above h = refl
row_version v ns names.Below h = refl

rows_of : (v : Version) (ns : Names) (xs : List (ℤ × RowName)) → InOrder ns → AllByRecursion (GoodRow ns) xs → is_sum_of v xs ≡ true → LinesOf v (map (row_line ns) xs)
rows_of v ns [] o g h = tt
rows_of v ns (x ∷ xs) o g h =
    let p = and_parts (is_name_of v x.1) (is_sum_of v xs) h in (
      (
        certlines.Row x.0 (raw_row ns x.1),
        ap (λ (ws : List (List ℕ)). codes "|" ∷ signed_decimal x.0 ∷ ws) (row_spelled ns x.1),
        (g.0.size, row_named_again ns x.1 o g.0.name),
        row_version v ns x.1 p.0,
      ),
      rows_of v ns xs o g.1 p.1,
    )

sum_of : (v : Version) (ns : Names) (xs : List (ℤ × RowName)) → InOrder ns → GoodSum ns xs → is_sum_of v xs ≡ true → LinesOf v (sum_lines ns xs)
sum_of v ns xs o g h = ((certlines.Sum, refl, tt, refl), rows_of v ns xs o g.each h)

sums_of : (v : Version) (ns : Names) (s : Sums) → InOrder ns → GoodSums ns s → are_sums_of v s ≡ true → LinesOf v (sums_lines ns s)
sums_of v ns (One xs) o g h = sum_of v ns xs o g h
sums_of v ns (Two differs above below) o g h =
    let p = and_parts (is_name_of v differs) _ h in
    let q = and_parts (is_sum_of v above) (is_sum_of v below) p.1 in (
      (
        certlines.Differs (raw_row ns differs),
        ap (λ (ws : List (List ℕ)). codes "|" ∷ codes "differs" ∷ ws) (row_spelled ns differs),
        (row_named_again ns differs o g.name, g.may),
        row_version v ns differs p.0,
      ),
      lines_append v (sum_lines ns above) (sum_lines ns below) (sum_of v ns above o g.first q.0) (sum_of v ns below o g.second q.1),
    )

pub metric_of : (v : Version) (ns : Names) (m : MetricCert) → InOrder ns → GoodSums ns m.sums → are_sums_of v m.sums ≡ true → LinesOf v (metric_lines ns m)
metric_of v ns m o g h = ((certlines.Metric, refl, tt, refl), sums_of v ns m.sums o g h)

-- ---- parts

pub part_of : (v : Version) (ns : Names) (p : Part) → InOrder ns → GoodPart ns p → is_part_of v p ≡ true → LinesOf v (part_lines ns p)
part_of v ns parts.Fact o g h = ((certlines.Fact, refl, tt, h), tt)
part_of v ns (parts.FactAt k) o g h = ((certlines.FactAt k, refl, g, (and_parts (by_places v) (ltb k (2 ^ 32)) h).0), tt)
part_of v ns (parts.Metric m) o g h = metric_of v ns m o g h

pub parts_of : (v : Version) (ns : Names) (ps : List Part) → InOrder ns → AllByRecursion (GoodPart ns) ps → list_all (is_part_of v) ps ≡ true → LinesOf v (flat_map (part_lines ns) ps)
parts_of v ns [] o g h = tt
parts_of v ns (p ∷ ps) o g h =
    let q = and_parts (is_part_of v p) (list_all (is_part_of v) ps) h in
    lines_append v (part_lines ns p) (flat_map (part_lines ns) ps) (part_of v ns p o g.0 q.0) (parts_of v ns ps o g.1 q.1)
