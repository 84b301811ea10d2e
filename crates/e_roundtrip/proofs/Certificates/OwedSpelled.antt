-- What is owed so far is spelled by the lines of certificates that were taken.
use Rattle.std.proofs.Common.{◌≡◌, ℕ, zero, suc, ℤ, ◌+◌, ◌<◌, ◌≤◌, Bool, true, false, cond, eqb, ltb, List, [], ◌∷◌, ◌++◌, length, map, Option, Some, None, Result, Ok, Err, refl, sym, ap, subst, ◌∙◌, arith, append_assoc, length-append}
use Rattle.std.specs.Prelude.{codes, slice_get}
use Rattle.std.specs.List.{flat_map}
use Rattle.std.specs.Fmt.{signed_decimal}
use Rattle.std.proofs.lemmas.Bool.{ltb-true}
use Rattle.std.proofs.lemmas.Grind.{flat_map-append}
use Rattle.std.proofs.lemmas.List.{append-nil, map-append}
use Rattle.e_text.specs.Tokens.{joined_words}
use Rattle.e_literal.specs.declared.literal.Lit.{Lit}
use Rattle.e_literal.specs.declared.object.Obj.{Obj}
use Rattle.e_clause.specs.declared.cert.RowName.{RowName}
use Rattle.e_clause.specs.declared.cert.RowName.TheVariants as names
use Rattle.e_clause.specs.declared.cert.Sums.{Sums}
use Rattle.e_clause.specs.declared.cert.Sums.TheVariants.{One, Two}
use Rattle.e_clause.specs.declared.cert.MetricCert.{MetricCert}
use Rattle.e_clause.specs.declared.cert.Part.{Part}
use Rattle.e_clause.specs.declared.cert.Part.TheVariants as parts
use Rattle.e_clause.specs.declared.cert.Cert.{Cert}
use Rattle.e_clause.specs.declared.cert.Cert.TheVariants.{Plain}
use Rattle.e_clause.specs.declared.cert.Against.TheVariants as against
use Rattle.e_clause.specs.Instance.{Inst, number_of_rule}
use Rattle.e_clause.specs.Sigs.{sig_of}
use Rattle.e_clause.specs.RuleKinds.{is_transfer}
use Rattle.e_deriv.specs.declared.names.Names.{Names}
use Rattle.e_line.specs.declared.fault.FaultKind.{FaultKind}
use Rattle.e_line.specs.declared.fault.FaultKind.TheVariants.{Malformed}
use Rattle.e_line.specs.declared.sum.RawTerm.{RawTerm}
use Rattle.e_line.specs.declared.literal.RawLit.{RawLit}
use Rattle.e_line.specs.Reading.{◌>>=◌, or_malformed}
use Rattle.e_names.specs.Scope.{lit_in, term_in, args_in, variables_of, right_count}
use Rattle.e_line.specs.LineLimits.{check_literal_limits}
use Rattle.e_line.specs.Canonical.{lit_words, term_words}
use Rattle.e_names.specs.Canonical.{raw_of, rule_name, name_of_object}
use Rattle.e_line.proofs.base.Bound.{bind_ok, ok_is, read_ok}
use Rattle.e_line.proofs.base.Choices.{passed}
use Rattle.e_cert.specs.declared.cert_line.RawRow.{RawRow}
use Rattle.e_cert.specs.declared.cert_line.RawRow.TheVariants as rows
use Rattle.e_cert.specs.declared.cert_line.CertLine.{CertLine}
use Rattle.e_cert.specs.declared.cert_line.CertLine.TheVariants as certlines
use Rattle.e_cert.specs.declared.owed.OpenSums.{OpenSums}
use Rattle.e_cert.specs.declared.owed.OpenSums.TheVariants as sums
use Rattle.e_cert.specs.declared.owed.OpenTransfer.{OpenTransfer}
use Rattle.e_cert.specs.declared.owed.Obligation.{Obligation}
use Rattle.e_cert.specs.declared.owed.Obligation.TheVariants as due
use Rattle.e_cert.specs.declared.owed.Pending.{Pending}
use Rattle.e_cert.specs.declared.kept.StepCerts.{StepCerts}
use Rattle.e_cert.specs.declared.kept.StepCerts.TheVariants as kept
use Rattle.e_cert.specs.CertLines.{cert_line_words, cert_line_text}
use Rattle.e_cert.specs.CertLines as reading
use Rattle.e_cert.specs.Owed.{with_row, row_put, sum_begun, differs_put, sums_ended, has_more, certificate, transfer_put, part_put, metric_put, takes_metric, clash_put, count_others, transfer_at, open_transfer_in, transfer_begun, with_sums_ended, sums_after, due_after, after_cert_line, kept_of, finish_certs}
use Rattle.e_cert.specs.Rows.{most_rows, fact_in, row_in, transfer_rule}
use Rattle.e_spell.specs.Certificates.{row_words, row_line, sum_lines, metric_lines, part_lines, transfer_lines, cert_lines, certs_lines, against_lines, contradiction_lines}
use Rattle.e_roundtrip.proofs.OneLine.NamesSpelled.{keeps_all}
use Rattle.e_roundtrip.proofs.OneLine.LitsSpelled.{term_named, lit_named}
use Rattle.e_roundtrip.proofs.OneLine.RulesSpelled.{rule_named, args_named}
use Rattle.e_roundtrip.proofs.Certificates.CertLinesRead.{CanonicalRow, CanonicalCertLine}

-- ---- what was said so far

-- lines by their words
abbrev pub Lines : Type 0
Lines = List (List (List ℕ))

abbrev metric_head : List (List ℕ)
metric_head = codes "|" ∷ codes "metric" ∷ []

abbrev differs_line : Names → RowName → List (List ℕ)
differs_line ns r = codes "|" ∷ codes "differs" ∷ row_words ns r

-- the lines of a metric certificate that is begun
abbrev open_lines : Names → Option OpenSums → Lines
open_lines ns None = []
open_lines ns (Some sums.Begun) = metric_head ∷ []
open_lines ns (Some (sums.One sum)) = metric_head ∷ sum_lines ns sum
open_lines ns (Some (sums.Differs r)) = metric_head ∷ differs_line ns r ∷ []
open_lines ns (Some (sums.Above r sum)) = metric_head ∷ differs_line ns r ∷ sum_lines ns sum
open_lines ns (Some (sums.Below r above sum)) = metric_head ∷ differs_line ns r ∷ (sum_lines ns above ++ sum_lines ns sum)

abbrev all_lines : Names → List Cert → Lines
all_lines ns cs = flat_map (cert_lines ns) cs

abbrev begun_lines : Names → OpenTransfer → Lines
begun_lines ns t = transfer_lines ns (record { rule = t.rule; args = t.args; parts = t.parts })

-- the lines of certificates, and of a transfer that is begun
abbrev due_lines : Names → Obligation → Lines
due_lines ns due.Nothing = []
due_lines ns (due.Literals wanted cs None) = all_lines ns cs
due_lines ns (due.Literals wanted cs (Some t)) = all_lines ns cs ++ begun_lines ns t
due_lines ns (due.Contradiction None) = []
due_lines ns (due.Contradiction (Some a)) = against_lines ns a

abbrev owed_lines : Pending → Lines
owed_lines o = due_lines o.names o.due ++ open_lines o.names o.sums

-- what the lines of certificates are that were taken
abbrev pub owed_text : Pending → List (List ℕ)
owed_text o = map joined_words (owed_lines o)

abbrev pub kept_text : Names → Option StepCerts → List (List ℕ)
kept_text ns None = []
kept_text ns (Some (kept.Certs cs)) = certs_lines ns cs
kept_text ns (Some (kept.Against a)) = contradiction_lines ns (Some a)

-- what was owed before the first certificate
abbrev pub due_at_first : Obligation → Obligation
due_at_first due.Nothing = due.Nothing
due_at_first (due.Literals wanted cs t) = due.Literals wanted [] None
due_at_first (due.Contradiction a) = due.Contradiction None

-- not more certificates than literals
abbrev pub FitsDue : Obligation → Type 0
FitsDue (due.Literals wanted cs None) = length cs ≤ length wanted
FitsDue (due.Literals wanted cs (Some t)) = length cs < length wanted
FitsDue d = Unit {0}

-- ---- rows

pub row_spelled : (ns : Names) (raw : RawRow) (r : RowName) → CanonicalRow raw → row_in ns raw ≡ Ok r → row_words ns r ≡ reading.raw_row_words raw
unfolding row_in
row_spelled ns (rows.Fact l) r c e =
    let fact : Lit → Result RowName FaultKind = λ x. read_ok (names.Fact x) in
    let a = bind_ok (fact_in ns l) fact r e in
    let b = bind_ok (lit_in ns l) (λ x. check_literal_limits (l ∷ []) >>= λ few. read_ok x) a.0 a.1 in
    let f = bind_ok (check_literal_limits (l ∷ [])) (λ few. read_ok b.0) a.0 b.2 in
    ap (row_words ns) (sym (ok_is (names.Fact a.0) r a.2)) ∙ ap (λ (x : Lit). codes "fact" ∷ lit_words (raw_of ns x)) (sym (ok_is b.0 a.0 f.2))
    ∙ ap (λ (x : RawLit). codes "fact" ∷ lit_words x) (lit_named ns ns l b.0 (keeps_all ns) c b.1)
row_spelled ns rows.Goal r c e = ap (row_words ns) (sym (ok_is names.Goal r e))
row_spelled ns (rows.Pos t) r c e =
    let a = bind_ok (term_in ns t) (λ x. read_ok (names.Pos x)) r e in
    ap (row_words ns) (sym (ok_is (names.Pos a.0) r a.2)) ∙ ap (λ (x : RawTerm). codes "pos" ∷ term_words x) (term_named ns ns t a.0 (keeps_all ns) a.1)
row_spelled ns (rows.Top t) r c e =
    let a = bind_ok (term_in ns t) (λ x. read_ok (names.Top x)) r e in
    ap (row_words ns) (sym (ok_is (names.Top a.0) r a.2)) ∙ ap (λ (x : RawTerm). codes "top" ∷ term_words x) (term_named ns ns t a.0 (keeps_all ns) a.1)
row_spelled ns rows.Right r c e = ap (row_words ns) (sym (ok_is names.Right r e))
row_spelled ns (rows.Least t) r c e =
    let a = bind_ok (term_in ns t) (λ x. read_ok (names.Least x)) r e in
    ap (row_words ns) (sym (ok_is (names.Least a.0) r a.2)) ∙ ap (λ (x : RawTerm). codes "least" ∷ term_words x) (term_named ns ns t a.0 (keeps_all ns) a.1)
row_spelled ns rows.Above r c e = ap (row_words ns) (sym (ok_is names.Above r e))
row_spelled ns rows.Below r c e = ap (row_words ns) (sym (ok_is names.Below r e))
row_spelled ns (rows.FactAt k) r c e = ap (row_words ns) (sym (ok_is (names.FactAt k) r e))

-- ---- sums

one_row : (sum new : List (ℤ × RowName)) (m : ℤ) (r : RowName) → with_row sum m r ≡ Ok new → new ≡ sum ++ (m, r) ∷ []
one_row sum new m r e = sym (ok_is (sum ++ (m, r) ∷ []) new (passed (ltb (length sum) most_rows) (read_ok (sum ++ (m, r) ∷ [])) new e).1)

sum_more : (ns : Names) (sum : List (ℤ × RowName)) (m : ℤ) (r : RowName) → sum_lines ns (sum ++ (m, r) ∷ []) ≡ sum_lines ns sum ++ row_line ns (m, r) ∷ []
sum_more ns sum m r = ap (λ (l : Lines). (codes "|" ∷ codes "sum" ∷ []) ∷ l) (map-append (row_line ns) sum ((m, r) ∷ []))

row_put_spelled : (ns : Names) (o : Option OpenSums) (m : ℤ) (r : RowName) (s : OpenSums) → row_put o m r ≡ Ok s → open_lines ns (Some s) ≡ open_lines ns o ++ row_line ns (m, r) ∷ []
row_put_spelled ns (Some (sums.One sum)) m r s e =
    let a = bind_ok (with_row sum m r) (λ new. read_ok (sums.One new)) s e in
    ap (λ (x : OpenSums). open_lines ns (Some x)) (sym (ok_is (sums.One a.0) s a.2)) ∙ ap (λ (x : List (ℤ × RowName)). metric_head ∷ sum_lines ns x) (one_row sum a.0 m r a.1)
    ∙ ap (λ (l : Lines). metric_head ∷ l) (sum_more ns sum m r)
row_put_spelled ns (Some (sums.Above d sum)) m r s e =
    let a = bind_ok (with_row sum m r) (λ new. read_ok (sums.Above d new)) s e in
    ap (λ (x : OpenSums). open_lines ns (Some x)) (sym (ok_is (sums.Above d a.0) s a.2)) ∙ ap (λ (x : List (ℤ × RowName)). metric_head ∷ differs_line ns d ∷ sum_lines ns x) (one_row sum a.0 m r a.1)
    ∙ ap (λ (l : Lines). metric_head ∷ differs_line ns d ∷ l) (sum_more ns sum m r)
row_put_spelled ns (Some (sums.Below d above sum)) m r s e =
    let a = bind_ok (with_row sum m r) (λ new. read_ok (sums.Below d above new)) s e in
    ap (λ (x : OpenSums). open_lines ns (Some x)) (sym (ok_is (sums.Below d above a.0) s a.2))
    ∙ ap (λ (x : List (ℤ × RowName)). metric_head ∷ differs_line ns d ∷ (sum_lines ns above ++ sum_lines ns x)) (one_row sum a.0 m r a.1)
    ∙ ap (λ (l : Lines). metric_head ∷ differs_line ns d ∷ (sum_lines ns above ++ l)) (sum_more ns sum m r)
    ∙ ap (λ (l : Lines). metric_head ∷ differs_line ns d ∷ l) (sym (append_assoc (sum_lines ns above) (sum_lines ns sum) (row_line ns (m, r) ∷ [])))
row_put_spelled ns None m r s e = absurd cc
row_put_spelled ns (Some sums.Begun) m r s e = absurd cc
row_put_spelled ns (Some (sums.Differs d)) m r s e = absurd cc

sum_begun_spelled : (ns : Names) (o : Option OpenSums) (s : OpenSums) → sum_begun o ≡ Ok s → open_lines ns (Some s) ≡ open_lines ns o ++ (codes "|" ∷ codes "sum" ∷ []) ∷ []
sum_begun_spelled ns (Some sums.Begun) s e = ap (λ (x : OpenSums). open_lines ns (Some x)) (sym (ok_is (sums.One []) s e))
sum_begun_spelled ns (Some (sums.Differs d)) s e = ap (λ (x : OpenSums). open_lines ns (Some x)) (sym (ok_is (sums.Above d []) s e))
sum_begun_spelled ns (Some (sums.Above d sum)) s e =
    ap (λ (x : OpenSums). open_lines ns (Some x)) (sym (ok_is (sums.Below d sum []) s (passed (ltb 0 (length sum)) (read_ok (sums.Below d sum [])) s e).1))
sum_begun_spelled ns None s e = absurd cc
sum_begun_spelled ns (Some (sums.One sum)) s e = absurd cc
sum_begun_spelled ns (Some (sums.Below d above sum)) s e = absurd cc

differs_put_spelled : (ns : Names) (o : Option OpenSums) (r : RowName) (s : OpenSums) → differs_put o r ≡ Ok s → open_lines ns (Some s) ≡ open_lines ns o ++ differs_line ns r ∷ []
differs_put_spelled ns (Some sums.Begun) r s e = ap (λ (x : OpenSums). open_lines ns (Some x)) (sym (ok_is (sums.Differs r) s e))
differs_put_spelled ns None r s e = absurd cc
differs_put_spelled ns (Some (sums.One sum)) r s e = absurd cc
differs_put_spelled ns (Some (sums.Differs d)) r s e = absurd cc
differs_put_spelled ns (Some (sums.Above d sum)) r s e = absurd cc
differs_put_spelled ns (Some (sums.Below d above sum)) r s e = absurd cc

abbrev metric : Sums → MetricCert
metric s = record { sums = s }

sums_ended_spelled : (ns : Names) (s : OpenSums) (all : Sums) → sums_ended s ≡ Ok all → open_lines ns (Some s) ≡ metric_lines ns (metric all)
sums_ended_spelled ns (sums.One sum) all e = ap (λ (x : Sums). metric_lines ns (metric x)) (ok_is (One sum) all (passed (ltb 0 (length sum)) (read_ok (One sum)) all e).1)
sums_ended_spelled ns (sums.Below d above sum) all e =
    ap (λ (x : Sums). metric_lines ns (metric x)) (ok_is (Two d above sum) all (passed (ltb 0 (length sum)) (read_ok (Two d above sum)) all e).1)
sums_ended_spelled ns sums.Begun all e = absurd cc
sums_ended_spelled ns (sums.Differs d) all e = absurd cc
sums_ended_spelled ns (sums.Above d sum) all e = absurd cc

-- ---- certificates

-- what is owed grows by these lines
record Grows (ns : Names) (d new : Obligation) (more : Lines) : Type 0 where
  lines : due_lines ns new ≡ due_lines ns d ++ more
  first : due_at_first new ≡ due_at_first d
  fits : FitsDue new

certs_more : (ns : Names) (cs : List Cert) (c : Cert) → all_lines ns (cs ++ c ∷ []) ≡ all_lines ns cs ++ cert_lines ns c
certs_more ns cs c = flat_map-append (cert_lines ns) cs (c ∷ []) ∙ ap (λ (l : Lines). all_lines ns cs ++ l) (append-nil (cert_lines ns c))

one_longer : (cs : List Cert) (c : Cert) (wanted : List Lit) → length cs < length wanted → length (cs ++ c ∷ []) ≤ length wanted
one_longer cs c wanted lt = omega (arith, lt, length-append cs (c ∷ []))

-- a transfer with its parts so far stands after the certificates
abbrev TransferStands : Names → List Lit → List Cert → OpenTransfer → Obligation → Type 0
TransferStands ns wanted cs t x = (due_lines ns x ≡ all_lines ns cs ++ begun_lines ns t) × (due_at_first x ≡ due.Literals wanted [] None) × FitsDue x

transfer_put_spelled : (ns : Names) (wanted : List Lit) (cs : List Cert) (t : OpenTransfer) (new : Obligation) → length cs < length wanted → transfer_put wanted cs t ≡ Ok new → TransferStands ns wanted cs t new
transfer_put_spelled ns wanted cs t new lt e = by_test (eqb (length t.parts) t.owed) e
  where
    by_test : (b : Bool) → cond b (read_ok (due.Literals wanted (cs ++ certificate t ∷ []) None)) (read_ok (due.Literals wanted cs (Some t))) ≡ Ok new → TransferStands ns wanted cs t new
    by_test true h = subst (λ (x : Obligation). TransferStands ns wanted cs t x) (ok_is (due.Literals wanted (cs ++ certificate t ∷ []) None) new h) (certs_more ns cs (certificate t), refl, one_longer cs (certificate t) wanted lt)
    by_test false h = subst (λ (x : Obligation). TransferStands ns wanted cs t x) (ok_is (due.Literals wanted cs (Some t)) new h) (refl, refl, lt)

part_put_spelled : (ns : Names) (d new : Obligation) (p : Part) → FitsDue d → part_put d p ≡ Ok new → Grows ns d new (part_lines ns p)
part_put_spelled ns (due.Literals wanted cs None) new p f e =
    let t = passed (has_more wanted cs) (read_ok (due.Literals wanted (cs ++ Plain p ∷ []) None)) new e in
    subst (λ (x : Obligation). Grows ns (due.Literals wanted cs None) x (part_lines ns p)) (ok_is (due.Literals wanted (cs ++ Plain p ∷ []) None) new t.1)
    (record { lines = certs_more ns cs (Plain p); first = refl; fits = one_longer cs (Plain p) wanted (ltb-true (length cs) (length wanted) t.0) })
part_put_spelled ns (due.Literals wanted cs (Some t)) new p f e =
    let g = transfer_put_spelled ns wanted cs (record t { parts = t.parts ++ p ∷ [] }) new f e in
    record { lines = g.0 ∙ longer (codes "|" ∷ codes "transfer" ∷ rule_name t.rule ∷ map (name_of_object ns) t.args); first = g.1; fits = g.2 }
  where
    longer : (head : List (List ℕ)) → all_lines ns cs ++ (head ∷ flat_map (part_lines ns) (t.parts ++ p ∷ [])) ≡ (all_lines ns cs ++ (head ∷ flat_map (part_lines ns) t.parts)) ++ part_lines ns p
    longer head =
        ap (λ (l : Lines). all_lines ns cs ++ head ∷ l) (flat_map-append (part_lines ns) t.parts (p ∷ []) ∙ ap (λ (l : Lines). flat_map (part_lines ns) t.parts ++ l) (append-nil (part_lines ns p)))
        ∙ sym (append_assoc (all_lines ns cs) (head ∷ flat_map (part_lines ns) t.parts) (part_lines ns p))
part_put_spelled ns due.Nothing new p f e = absurd cc
part_put_spelled ns (due.Contradiction a) new p f e = absurd cc

metric_put_spelled : (ns : Names) (d new : Obligation) (m : MetricCert) → FitsDue d → metric_put d m ≡ Ok new → Grows ns d new (metric_lines ns m)
metric_put_spelled ns (due.Contradiction None) new m f e =
    subst (λ (x : Obligation). Grows ns (due.Contradiction None) x (metric_lines ns m)) (ok_is (due.Contradiction (Some (against.Metric m))) new e) (record { lines = refl; first = refl; fits = tt })
metric_put_spelled ns (due.Contradiction (Some a)) new m f e = absurd cc
metric_put_spelled ns due.Nothing new m f e = absurd cc
metric_put_spelled ns (due.Literals wanted cs t) new m f e = part_put_spelled ns (due.Literals wanted cs t) new (parts.Metric m) f e

clash_put_spelled : (ns : Names) (d new : Obligation) (l : Lit) → clash_put d l ≡ Ok new → Grows ns d new ((codes "|" ∷ codes "clash" ∷ lit_words (raw_of ns l)) ∷ [])
clash_put_spelled ns (due.Contradiction None) new l e =
    subst (λ (x : Obligation). Grows ns (due.Contradiction None) x ((codes "|" ∷ codes "clash" ∷ lit_words (raw_of ns l)) ∷ [])) (ok_is (due.Contradiction (Some (against.Clash l))) new e)
    (record { lines = refl; first = refl; fits = tt })
clash_put_spelled ns (due.Contradiction (Some a)) new l e = absurd cc
clash_put_spelled ns due.Nothing new l e = absurd cc
clash_put_spelled ns (due.Literals wanted cs t) new l e = absurd cc

-- ---- transfers

transfer_rule_is : (o : Option ℕ) (r : ℕ) → transfer_rule o ≡ Ok r → o ≡ Some r
transfer_rule_is None r e = absurd cc
transfer_rule_is (Some k) r e = ap Some (ok_is k r (passed (is_transfer k) (read_ok k) r e).1)

abbrev transfer : ℕ → List Obj → List Part → ℕ → OpenTransfer
transfer r args ps n = record { rule = r; args = args; parts = ps; owed = n }

-- a transfer that is begun has its own line
record Begun (ns : Names) (title : List ℕ) (raws : List (List ℕ)) (t : OpenTransfer) : Type 0 where
  rule : rule_name t.rule ≡ title
  args : map (name_of_object ns) t.args ≡ raws
  parts : t.parts ≡ []

transfer_in_spelled : (ns : Names) (wanted : Lit) (title : List ℕ) (raws : List (List ℕ)) (t : OpenTransfer) → open_transfer_in ns wanted title raws ≡ Ok t → Begun ns title raws t
unfolding open_transfer_in transfer_at
transfer_in_spelled ns wanted title raws t e =
    let r = bind_ok (transfer_rule (number_of_rule title)) (λ r. variables_of (sig_of r) >>= λ s. right_count (eqb (length raws) (s.points + s.lines + s.circles)) >>= λ right. args_in ns s raws >>= λ args. transfer_at wanted r args) t e in
    let s = bind_ok (variables_of (sig_of r.0)) (λ s. right_count (eqb (length raws) (s.points + s.lines + s.circles)) >>= λ right. args_in ns s raws >>= λ args. transfer_at wanted r.0 args) t r.2 in
    let n = bind_ok (right_count (eqb (length raws) (s.0.points + s.0.lines + s.0.circles))) (λ right. args_in ns s.0 raws >>= λ args. transfer_at wanted r.0 args) t s.2 in
    let a = bind_ok (args_in ns s.0 raws) (λ args. transfer_at wanted r.0 args) t n.2 in
    let l = bind_ok (or_malformed (Inst r.0 a.0)) (λ lits. read_ok (transfer r.0 a.0 [] (count_others wanted lits))) t a.2 in
    subst (λ (x : OpenTransfer). Begun ns title raws x) (ok_is (transfer r.0 a.0 [] (count_others wanted l.0)) t l.2)
    (record { rule = rule_named title r.0 (transfer_rule_is (number_of_rule title) r.0 r.1); args = args_named ns ns s.0 raws a.0 (keeps_all ns) a.1; parts = refl })

-- what a place of a list has is one of its elements
more_at : (wanted : List Lit) (n : ℕ) (l : Lit) → or_malformed (slice_get wanted n) ≡ Ok l → n < length wanted
more_at [] n l e = absurd cc
more_at (w ∷ ws) zero l e = omega arith
more_at (w ∷ ws) (suc n) l e = let lt = more_at ws n l e in omega (arith, lt)

transfer_begun_spelled : (ns : Names) (d new : Obligation) (title : List ℕ) (raws : List (List ℕ)) → FitsDue d → transfer_begun ns d title raws ≡ Ok new → Grows ns d new ((codes "|" ∷ codes "transfer" ∷ title ∷ raws) ∷ [])
transfer_begun_spelled ns (due.Literals wanted cs None) new title raws f e =
    let l = bind_ok (or_malformed (slice_get wanted (length cs))) (λ l. open_transfer_in ns l title raws >>= λ t. transfer_put wanted cs t) new e in
    let t = bind_ok (open_transfer_in ns l.0 title raws) (λ t. transfer_put wanted cs t) new l.2 in
    let b = transfer_in_spelled ns l.0 title raws t.0 t.1 in
    let g = transfer_put_spelled ns wanted cs t.0 new (more_at wanted (length cs) l.0 l.1) t.2 in
    record { lines = g.0 ∙ ap (λ (x : Lines). all_lines ns cs ++ x) (line t.0.parts (rule_name t.0.rule) title (map (name_of_object ns) t.0.args) raws b.parts b.rule b.args); first = g.1; fits = g.2 }
  where
    line : (ps : List Part) (rule title : List ℕ) (names raws : List (List ℕ)) → ps ≡ [] → rule ≡ title → names ≡ raws
        → (codes "|" ∷ codes "transfer" ∷ rule ∷ names) ∷ flat_map (part_lines ns) ps ≡ (codes "|" ∷ codes "transfer" ∷ title ∷ raws) ∷ []
    line ps rule title names raws p q r = rw (p, q, r) refl
transfer_begun_spelled ns (due.Literals wanted cs (Some t)) new title raws f e = absurd cc
transfer_begun_spelled ns due.Nothing new title raws f e = absurd cc
transfer_begun_spelled ns (due.Contradiction a) new title raws f e = absurd cc

-- ---- what is owed after a line

-- what is owed where no sums are open
record Ended (o e : Pending) : Type 0 where
  names : e.names ≡ o.names
  sums : e.sums ≡ None
  lines : due_lines o.names e.due ≡ owed_lines o
  first : due_at_first e.due ≡ due_at_first o.due
  fits : FitsDue e.due

abbrev owed : Names → Obligation → Option OpenSums → Pending
owed ns d s = record { names = ns; due = d; sums = s }

ended_spelled : (ns : Names) (d : Obligation) (s : Option OpenSums) (e : Pending) → FitsDue d → with_sums_ended (owed ns d s) s ≡ Ok e → Ended (owed ns d s) e
ended_spelled ns d None e f h =
    subst (λ (x : Pending). Ended (owed ns d None) x) (ok_is (owed ns d None) e h) (record { names = refl; sums = refl; lines = sym (append-nil (due_lines ns d)); first = refl; fits = f })
ended_spelled ns d (Some s) e f h =
    let all = bind_ok (sums_ended s) (λ all. metric_put d (metric all) >>= λ x. read_ok (owed ns x None)) e h in
    let x = bind_ok (metric_put d (metric all.0)) (λ x. read_ok (owed ns x None)) e all.2 in
    let g = metric_put_spelled ns d x.0 (metric all.0) f x.1 in
    subst (λ (y : Pending). Ended (owed ns d (Some s)) y) (ok_is (owed ns x.0 None) e x.2)
    (record { names = refl; sums = refl; lines = g.lines ∙ ap (λ (l : Lines). due_lines ns d ++ l) (sym (sums_ended_spelled ns s all.0 all.1)); first = g.first; fits = g.fits })

-- a line of a certificate is one more line of what is owed
pub record Marked (o new : Pending) (m : CertLine) : Type 0 where
  pub names : new.names ≡ o.names
  pub lines : owed_text new ≡ owed_text o ++ cert_line_text m ∷ []
  pub first : due_at_first new.due ≡ due_at_first o.due
  pub fits : FitsDue new.due

-- the words of one more line
one_more : (o new : Pending) (m : CertLine) → new.names ≡ o.names → due_at_first new.due ≡ due_at_first o.due → FitsDue new.due → owed_lines new ≡ owed_lines o ++ (codes "|" ∷ cert_line_words m) ∷ [] → Marked o new m
one_more o new m n f g e = record { names = n; lines = ap (map joined_words) e ∙ map-append joined_words (owed_lines o) ((codes "|" ∷ cert_line_words m) ∷ []); first = f; fits = g }

-- after the end of the sums what is due grows
due_after_cert_line : (o e : Pending) (d : Obligation) (m : CertLine) → Ended o e → Grows e.names e.due d ((codes "|" ∷ cert_line_words m) ∷ []) → Marked o (due_after e d) m
due_after_cert_line o e d m h g =
    one_more o (due_after e d) m h.names (g.first ∙ h.first) g.fits
    (ap (λ (s : Option OpenSums). due_lines e.names d ++ open_lines e.names s) h.sums ∙ append-nil (due_lines e.names d) ∙ g.lines
    ∙ ap (λ (l : Lines). l ++ (codes "|" ∷ cert_line_words m) ∷ []) (ap (λ (ns : Names). due_lines ns e.due) h.names ∙ h.lines))

-- or sums go on
sums_after_cert_line : (o : Pending) (s : OpenSums) (m : CertLine) → FitsDue o.due → open_lines o.names (Some s) ≡ open_lines o.names o.sums ++ (codes "|" ∷ cert_line_words m) ∷ [] → Marked o (sums_after o s) m
sums_after_cert_line o s m f e =
    one_more o (sums_after o s) m refl refl f
    (ap (λ (l : Lines). due_lines o.names o.due ++ l) e ∙ sym (append_assoc (due_lines o.names o.due) (open_lines o.names o.sums) ((codes "|" ∷ cert_line_words m) ∷ [])))

abbrev line_of_row : ℤ → List (List ℕ) → List (List ℕ)
line_of_row m words = codes "|" ∷ signed_decimal m ∷ words

pub after_cert_line_spelled : (o new : Pending) (m : CertLine) → FitsDue o.due → CanonicalCertLine m → after_cert_line o m ≡ Ok new → Marked o new m
unfolding after_cert_line
after_cert_line_spelled o new certlines.Fact f c h =
    let e = bind_ok (with_sums_ended o o.sums) (λ e. part_put e.due parts.Fact >>= λ d. read_ok (due_after e d)) new h in
    let d = bind_ok (part_put e.0.due parts.Fact) (λ d. read_ok (due_after e.0 d)) new e.2 in
    let end = ended_spelled o.names o.due o.sums e.0 f e.1 in
    subst (λ (x : Pending). Marked o x certlines.Fact) (ok_is (due_after e.0 d.0) new d.2) (due_after_cert_line o e.0 d.0 certlines.Fact end (part_put_spelled e.0.names e.0.due d.0 parts.Fact end.fits d.1))
after_cert_line_spelled o new (certlines.FactAt k) f c h =
    let e = bind_ok (with_sums_ended o o.sums) (λ e. part_put e.due (parts.FactAt k) >>= λ d. read_ok (due_after e d)) new h in
    let d = bind_ok (part_put e.0.due (parts.FactAt k)) (λ d. read_ok (due_after e.0 d)) new e.2 in
    let end = ended_spelled o.names o.due o.sums e.0 f e.1 in
    subst (λ (x : Pending). Marked o x (certlines.FactAt k)) (ok_is (due_after e.0 d.0) new d.2) (due_after_cert_line o e.0 d.0 (certlines.FactAt k) end (part_put_spelled e.0.names e.0.due d.0 (parts.FactAt k) end.fits d.1))
after_cert_line_spelled o new certlines.Metric f c h =
    let e = bind_ok (with_sums_ended o o.sums) (λ e. cond (takes_metric e.due) (read_ok (sums_after e sums.Begun)) (Err Malformed)) new h in
    let t = passed (takes_metric e.0.due) (read_ok (sums_after e.0 sums.Begun)) new e.2 in
    let end = ended_spelled o.names o.due o.sums e.0 f e.1 in
    subst (λ (x : Pending). Marked o x certlines.Metric) (ok_is (sums_after e.0 sums.Begun) new t.1)
    (one_more o (sums_after e.0 sums.Begun) certlines.Metric end.names end.first end.fits
    (ap (λ (l : Lines). l ++ metric_head ∷ []) (ap (λ (ns : Names). due_lines ns e.0.due) end.names ∙ end.lines)))
after_cert_line_spelled o new (certlines.Transfer title raws) f c h =
    let e = bind_ok (with_sums_ended o o.sums) (λ e. transfer_begun e.names e.due title raws >>= λ d. read_ok (due_after e d)) new h in
    let d = bind_ok (transfer_begun e.0.names e.0.due title raws) (λ d. read_ok (due_after e.0 d)) new e.2 in
    let end = ended_spelled o.names o.due o.sums e.0 f e.1 in
    subst (λ (x : Pending). Marked o x (certlines.Transfer title raws)) (ok_is (due_after e.0 d.0) new d.2)
    (due_after_cert_line o e.0 d.0 (certlines.Transfer title raws) end (transfer_begun_spelled e.0.names e.0.due d.0 title raws end.fits d.1))
after_cert_line_spelled o new (certlines.Clash raw) f c h =
    let e = bind_ok (with_sums_ended o o.sums) (λ e. lit_in e.names raw >>= λ l. clash_put e.due l >>= λ d. read_ok (due_after e d)) new h in
    let l = bind_ok (lit_in e.0.names raw) (λ l. clash_put e.0.due l >>= λ d. read_ok (due_after e.0 d)) new e.2 in
    let d = bind_ok (clash_put e.0.due l.0) (λ d. read_ok (due_after e.0 d)) new l.2 in
    let end = ended_spelled o.names o.due o.sums e.0 f e.1 in
    let named = lit_named e.0.names e.0.names raw l.0 (keeps_all e.0.names) c l.1 in
    subst (λ (x : Pending). Marked o x (certlines.Clash raw)) (ok_is (due_after e.0 d.0) new d.2)
    (due_after_cert_line o e.0 d.0 (certlines.Clash raw) end
    (subst (λ (x : RawLit). Grows e.0.names e.0.due d.0 ((codes "|" ∷ codes "clash" ∷ lit_words x) ∷ [])) named (clash_put_spelled e.0.names e.0.due d.0 l.0 d.1)))
after_cert_line_spelled o new certlines.Sum f c h =
    let s = bind_ok (sum_begun o.sums) (λ s. read_ok (sums_after o s)) new h in
    subst (λ (x : Pending). Marked o x certlines.Sum) (ok_is (sums_after o s.0) new s.2) (sums_after_cert_line o s.0 certlines.Sum f (sum_begun_spelled o.names o.sums s.0 s.1))
after_cert_line_spelled o new (certlines.Differs raw) f c h =
    let r = bind_ok (row_in o.names raw) (λ r. differs_put o.sums r >>= λ s. read_ok (sums_after o s)) new h in
    let s = bind_ok (differs_put o.sums r.0) (λ s. read_ok (sums_after o s)) new r.2 in
    subst (λ (x : Pending). Marked o x (certlines.Differs raw)) (ok_is (sums_after o s.0) new s.2)
    (sums_after_cert_line o s.0 (certlines.Differs raw) f
    (differs_put_spelled o.names o.sums r.0 s.0 s.1 ∙ ap (λ (w : List (List ℕ)). open_lines o.names o.sums ++ (codes "|" ∷ codes "differs" ∷ w) ∷ []) (row_spelled o.names raw r.0 c r.1)))
after_cert_line_spelled o new (certlines.Row m raw) f c h =
    let r = bind_ok (row_in o.names raw) (λ r. row_put o.sums m r >>= λ s. read_ok (sums_after o s)) new h in
    let s = bind_ok (row_put o.sums m r.0) (λ s. read_ok (sums_after o s)) new r.2 in
    subst (λ (x : Pending). Marked o x (certlines.Row m raw)) (ok_is (sums_after o s.0) new s.2)
    (sums_after_cert_line o s.0 (certlines.Row m raw) f
    (row_put_spelled o.names o.sums m r.0 s.0 s.1 ∙ ap (λ (w : List (List ℕ)). open_lines o.names o.sums ++ line_of_row m w ∷ []) (row_spelled o.names raw r.0 c r.1)))

-- ---- where nothing is owed any more

kept_spelled : (ns : Names) (d : Obligation) (k : Option StepCerts) → kept_of d ≡ Ok k → map joined_words (due_lines ns d) ≡ kept_text ns k
kept_spelled ns due.Nothing k h = subst (λ (x : Option StepCerts). [] ≡ kept_text ns x) (ok_is None k h) refl
kept_spelled ns (due.Literals wanted cs None) k h =
    let t = kind (has_more wanted cs) (read_ok (Some (kept.Certs cs))) k h in
    subst (λ (x : Option StepCerts). map joined_words (all_lines ns cs) ≡ kept_text ns x) (ok_is (Some (kept.Certs cs)) k t) refl
  where
    kind : (b : Bool) (x : Result (Option StepCerts) FaultKind) (y : Option StepCerts) → cond b (Err Malformed) x ≡ Ok y → x ≡ Ok y
    kind true x y e = absurd cc
    kind false x y e = e
kept_spelled ns (due.Literals wanted cs (Some t)) k h = absurd cc
kept_spelled ns (due.Contradiction None) k h = absurd cc
kept_spelled ns (due.Contradiction (Some a)) k h = subst (λ (x : Option StepCerts). map joined_words (against_lines ns a) ≡ kept_text ns x) (ok_is (Some (kept.Against a)) k h) refl

-- what is kept is what the lines spell
pub settled_spelled : (o : Pending) (k : Option StepCerts) → FitsDue o.due → finish_certs o ≡ Ok k → owed_text o ≡ kept_text o.names k
unfolding finish_certs
settled_spelled o k f h =
    let e = bind_ok (with_sums_ended o o.sums) (λ e. kept_of e.due) k h in
    let end = ended_spelled o.names o.due o.sums e.0 f e.1 in
    ap (map joined_words) (sym end.lines) ∙ kept_spelled o.names e.0.due k e.2
