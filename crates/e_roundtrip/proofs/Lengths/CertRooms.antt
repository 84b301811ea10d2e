-- The lines of certificates are short.
use Rattle.std.proofs.Common.{◌≡◌, ℕ, suc, ◌+◌, ◌*◌, ◌^◌, ◌≤◌, ℤ, pos, negsuc, true, leb, ltb, not, List, [], ◌∷◌, ◌++◌, length, map, Some, refl, arith}
use Rattle.std.specs.Prelude.{codes, decimal}
use Rattle.std.specs.Ordering.{int_eq}
use Rattle.std.specs.Fmt.{signed_decimal}
use Rattle.std.specs.List.{list_all, flat_map, AllByRecursion}
use Rattle.std.proofs.lemmas.Bool.{leb-true, ltb-true, and_parts}
use Rattle.e_text.specs.Lines.{is_allowed, AreShort}
use Rattle.e_text.specs.Tokens.{joined_words}
use Rattle.e_literal.specs.declared.literal.Lit.{Lit}
use Rattle.e_clause.specs.declared.cert.RowName.{RowName}
use Rattle.e_clause.specs.declared.cert.RowName.TheVariants as rows
use Rattle.e_clause.specs.declared.cert.Sums.{Sums}
use Rattle.e_clause.specs.declared.cert.Sums.TheVariants.{One, Two}
use Rattle.e_clause.specs.declared.cert.Part.{Part}
use Rattle.e_clause.specs.declared.cert.Part.TheVariants as parts
use Rattle.e_clause.specs.declared.cert.Cert.{Cert}
use Rattle.e_clause.specs.declared.cert.Cert.TheVariants.{Plain, Transfer}
use Rattle.e_clause.specs.declared.cert.Against.{Against}
use Rattle.e_clause.specs.declared.cert.Against.TheVariants as against
use Rattle.e_clause.specs.Sum.{is_nonzero_bounded}
use Rattle.e_deriv.specs.declared.names.Names.{Names}
use Rattle.e_clause.specs.Written.{is_writable_name}
use Rattle.e_names.specs.Canonical.{rule_name, name_of_object}
use Rattle.e_names.proofs.resolution.Lookups.{InOrder}
use Rattle.e_names.proofs.resolution.LitLookups.{diagram_is_well_formed}
use Rattle.e_spell.specs.Certificates.{row_words, row_line, sum_lines, sums_lines, part_lines, cert_lines, certs_lines, against_lines, contradiction_lines}
use Rattle.e_roundtrip.proofs.Certificates.Feeding.{GoodRow, GoodSum, GoodSums, GoodPart}
use Rattle.e_roundtrip.proofs.Certificates.CertsPut.{GoodCert, GoodCerts, GoodAgainst}
use Rattle.e_roundtrip.proofs.Lengths.Rooms.{is_short, short_word, short_number, Room, room_none, room_more, room_word, room_line}
use Rattle.e_roundtrip.proofs.Lengths.LitRooms.{room_objects, room_term, room_one}
use Rattle.e_roundtrip.proofs.Lengths.RuleRooms.{short_rule, few_arguments}

-- ---- rows

-- a fact by its place
room_place : (k : ℕ) → ltb k (2 ^ 32) ≡ true → Room 16 (codes "fact" ∷ decimal k ∷ [])
room_place k h =
    let few = ltb-true k (2 ^ 32) h in
    room_word 4 11 (codes "fact") _ refl (room_word 10 0 (decimal k) [] (short_number 10 k (omega arith) (omega (arith, few)) (omega (arith, few))) room_none)

-- the words of a row
room_row : (ns : Names) (r : RowName) → InOrder ns → is_writable_name r ≡ true → Room 2182 (row_words ns r)
room_row ns (rows.Fact l) o g = room_word 4 2177 (codes "fact") _ refl (room_one ns l o g)
room_row ns rows.Goal o g = room_more 5 2182 _ (omega arith) (room_word 4 0 (codes "goal") [] refl room_none)
room_row ns (rows.Pos t) o g = room_more 60 2182 _ (omega arith) (room_word 3 56 (codes "pos") _ refl (room_term ns t o))
room_row ns (rows.Top t) o g = room_more 60 2182 _ (omega arith) (room_word 3 56 (codes "top") _ refl (room_term ns t o))
room_row ns rows.Right o g = room_more 6 2182 _ (omega arith) (room_word 5 0 (codes "right") [] refl room_none)
room_row ns (rows.Least t) o g = room_more 62 2182 _ (omega arith) (room_word 5 56 (codes "least") _ refl (room_term ns t o))
room_row ns rows.Above o g = room_more 6 2182 _ (omega arith) (room_word 5 0 (codes "above") [] refl room_none)
room_row ns rows.Below o g = room_more 6 2182 _ (omega arith) (room_word 5 0 (codes "below") [] refl room_none)
room_row ns (rows.FactAt k) o g = room_more 16 2182 _ (omega arith) (room_place k g)

-- one more byte
one_more : (k b : ℕ) (w : List ℕ) → is_allowed b ≡ true → is_short k w ≡ true → is_short (k + 1) (b ∷ w) ≡ true
one_more k b w h s =
    let p = and_parts (list_all is_allowed w) (leb (length w) k) s in
    short_word (k + 1) (b ∷ w) (rw (h, p.0) refl) (omega (arith, leb-true (length w) k p.1))

-- a multiplier, of size at most 2 ^ 80
short_multiplier : (z : ℤ) → is_nonzero_bounded z ≡ true → is_short 26 (signed_decimal z) ≡ true
short_multiplier (pos n) h =
    let le = leb-true n (2 ^ 80) (and_parts (not (int_eq (pos n) (pos 0))) (leb n (2 ^ 80)) h).1 in
    short_number 26 n (omega arith) (omega (arith, le)) (omega (arith, le))
short_multiplier (negsuc n) h =
    let le = leb-true (suc n) (2 ^ 80) (and_parts (not (int_eq (negsuc n) (pos 0))) (leb (suc n) (2 ^ 80)) h).1 in
    one_more 25 45 (decimal (suc n)) refl (short_number 25 (suc n) (omega arith) (omega (arith, le)) (omega (arith, le)))

-- ---- lines of certificates

-- each line has room
abbrev pub AllRoom : List (List (List ℕ)) → Type 0
AllRoom lines = AllByRecursion (Room 3000) lines

-- lines after lines
all_append : (xs ys : List (List (List ℕ))) → AllRoom xs → AllRoom ys → AllRoom (xs ++ ys)
all_append [] ys h k = k
all_append (x ∷ xs) ys h k = (h.0, all_append xs ys h.1 k)

-- as lines of bytes
pub all_joined : (lines : List (List (List ℕ))) → AllRoom lines → AreShort 262144 (map joined_words lines)
all_joined [] h = tt
all_joined (l ∷ lines) h = (room_line 3000 l (omega arith) h.0, all_joined lines h.1)

-- a line of words after the sign
after_bar : (n : ℕ) (ws : List (List ℕ)) → n ≤ 2900 → Room n ws → Room 3000 (codes "|" ∷ ws)
after_bar n ws le r = room_more (1 + 1 + n) 3000 _ (omega (arith, le)) (room_word 1 n (codes "|") ws refl r)

-- a line of one word after the sign
bar_word : (w : List ℕ) → is_short 16 w ≡ true → Room 3000 (codes "|" ∷ w ∷ [])
bar_word w h = after_bar 17 (w ∷ []) (omega arith) (room_word 16 0 w [] h room_none)

-- one line for each row
all_rows : (ns : Names) (xs : List (ℤ × RowName)) → InOrder ns → AllByRecursion (GoodRow ns) xs → AllRoom (map (row_line ns) xs)
all_rows ns [] o g = tt
all_rows ns (x ∷ xs) o g =
    (after_bar 2209 _ (omega arith) (room_word 26 2182 (signed_decimal x.0) (row_words ns x.1) (short_multiplier x.0 g.0.size) (room_row ns x.1 o g.0.name.good)), all_rows ns xs o g.1)

-- a sum
all_sum : (ns : Names) (xs : List (ℤ × RowName)) → InOrder ns → GoodSum ns xs → AllRoom (sum_lines ns xs)
all_sum ns xs o g = (bar_word (codes "sum") refl, all_rows ns xs o g.each)

-- the sums of a metric certificate
all_sums : (ns : Names) (s : Sums) → InOrder ns → GoodSums ns s → AllRoom (sums_lines ns s)
all_sums ns (One xs) o g = all_sum ns xs o g
all_sums ns (Two differs above below) o g = (
  after_bar 2190 _ (omega arith) (room_word 7 2182 (codes "differs") (row_words ns differs) refl (room_row ns differs o g.name.good)),
  all_append (sum_lines ns above) (sum_lines ns below) (all_sum ns above o g.first) (all_sum ns below o g.second),
)

-- the certificate of a part
all_part : (ns : Names) (p : Part) → InOrder ns → GoodPart ns p → AllRoom (part_lines ns p)
all_part ns parts.Fact o g = (bar_word (codes "fact") refl, tt)
all_part ns (parts.FactAt k) o g = (after_bar 16 _ (omega arith) (room_place k g), tt)
all_part ns (parts.Metric m) o g = (bar_word (codes "metric") refl, all_sums ns m.sums o g)

-- all parts
all_parts : (ns : Names) (ps : List Part) → InOrder ns → AllByRecursion (GoodPart ns) ps → AllRoom (flat_map (part_lines ns) ps)
all_parts ns [] o g = tt
all_parts ns (p ∷ ps) o g = all_append (part_lines ns p) (flat_map (part_lines ns) ps) (all_part ns p o g.0) (all_parts ns ps o g.1)

-- one certificate
all_cert : (ns : Names) (l : Lit) (c : Cert) → InOrder ns → GoodCert ns l c → AllRoom (cert_lines ns c)
all_cert ns l (Plain p) o g = all_part ns p o g
all_cert ns l (Transfer t) o g =
    let n = 17 * length t.args in (
      after_bar (8 + 1 + (24 + 1 + n)) _ (omega (arith, few_arguments t.rule t.args g.lits g.instance))
          (room_word 8 (24 + 1 + n) (codes "transfer") _ refl (room_word 24 n (rule_name t.rule) (map (name_of_object ns) t.args) (short_rule t.rule) (room_objects ns t.args o))),
      all_parts ns t.parts o g.parts,
    )

-- all certificates of a line
all_certs : (ns : Names) (ls : List Lit) (cs : List Cert) → InOrder ns → GoodCerts ns ls cs → AllRoom (flat_map (cert_lines ns) cs)
all_certs ns [] [] o g = tt
all_certs ns [] (c ∷ cs) o g = absurd g
all_certs ns (l ∷ ls) [] o g = absurd g
all_certs ns (l ∷ ls) (c ∷ cs) o g = all_append (cert_lines ns c) (flat_map (cert_lines ns) cs) (all_cert ns l c o g.0) (all_certs ns ls cs o g.1)

-- as lines of bytes
pub short_certs : (ns : Names) (ls : List Lit) (cs : List Cert) → InOrder ns → GoodCerts ns ls cs → AreShort 262144 (certs_lines ns cs)
short_certs ns ls cs o g = all_joined (flat_map (cert_lines ns) cs) (all_certs ns ls cs o g)

-- the certificate of a contradiction
all_against : (ns : Names) (a : Against) → InOrder ns → GoodAgainst ns a → AllRoom (against_lines ns a)
all_against ns (against.Clash l) o g = (after_bar 2183 _ (omega arith) (room_word 5 2177 (codes "clash") _ refl (room_one ns l o (diagram_is_well_formed l g.1))), tt)
all_against ns (against.Metric m) o g = (bar_word (codes "metric") refl, all_sums ns m.sums o g)

-- as lines of bytes
pub short_against : (ns : Names) (a : Against) → InOrder ns → GoodAgainst ns a → AreShort 262144 (contradiction_lines ns (Some a))
short_against ns a o g = all_joined (against_lines ns a) (all_against ns a o g)
