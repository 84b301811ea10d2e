-- What is owed after a line of a certificate has its form, and so has what is kept after the last one.
use Rattle.std.proofs.Common.{◌≡◌, ℕ, zero, suc, ℤ, pos, negsuc, ◌≤◌, ◌<◌, ◌^◌, ◌+◌, Bool, true, false, cond, not, ltb, leb, eqb, ◌&&◌, List, [], ◌∷◌, ◌++◌, length, Option, Some, None, is_some, Result, Ok, Err, refl, sym, ap, subst, ◌∙◌, arith}
use Rattle.std.specs.Prelude.{◌==◌, neg_ℤ, codes, slice_get}
use Rattle.std.specs.Ordering.{int_eq}
use Rattle.std.specs.Str.{bytes_eq}
use Rattle.std.proofs.lemmas.Bool.{and_parts, and_from, not_from_false, false_from_ne_true, ltb-true, leb-true, le-leb, eqb-true}
use Rattle.std.proofs.lemmas.Bool.Decides.{Decides-int_eq}
use Rattle.e_text.specs.Numerals.{number_of}
use Rattle.e_literal.specs.declared.object.Obj.{Obj}
use Rattle.e_literal.specs.declared.object.Scope.{Scope}
use Rattle.e_literal.specs.declared.literal.Atom.{Atom}
use Rattle.e_literal.specs.declared.literal.Atom.TheVariants as atoms
use Rattle.e_literal.specs.declared.literal.Lit.{Lit}
use Rattle.e_literal.specs.Literal.{kind_of_atom, all_in_scope}
use Rattle.e_literal.specs.Facts.{is_metric}
use Rattle.e_clause.specs.declared.rule.Sig.{Sig}
use Rattle.e_clause.specs.declared.cert.MetricCert.{MetricCert}
use Rattle.e_clause.specs.declared.cert.Part.{Part}
use Rattle.e_clause.specs.declared.cert.Part.TheVariants as parts
use Rattle.e_clause.specs.declared.cert.Cert.{Cert}
use Rattle.e_clause.specs.declared.cert.Cert.TheVariants.{Plain}
use Rattle.e_clause.specs.declared.cert.Against.TheVariants as against
use Rattle.e_clause.specs.Instance.{Inst, number_of_rule}
use Rattle.e_clause.specs.Sigs.{sig_of}
use Rattle.e_clause.specs.RuleKinds.{is_transfer}
use Rattle.e_clause.specs.Sum.{is_nonzero_bounded}
use Rattle.e_deriv.specs.declared.names.Names.{Names}
use Rattle.e_line.specs.declared.fault.FaultKind.{FaultKind}
use Rattle.e_line.specs.declared.fault.FaultKind.TheVariants.{Malformed}
use Rattle.e_line.specs.Reading.{◌>>=◌, or_malformed, first_title, names_of, no_word_left}
use Rattle.e_line.specs.Literals.{diagram_lit_of}
use Rattle.e_names.specs.Scope.{scope_of_names, lit_in, args_in, variables_of, right_count}
use Rattle.e_names.specs.Fits.{is_diagram_atom}
use Rattle.e_line.proofs.base.Bound.{bind_ok, ok_is, read_ok}
use Rattle.e_names.proofs.read_lines.InScope.{lit_in_scope}
use Rattle.e_line.proofs.base.Choices.{either, passed}
use Rattle.e_names.proofs.read_lines.Citations.{good_args}
use Rattle.e_names.proofs.read_lines.LiteralsOfRawLines.{lit_plain}
use Rattle.e_cert.specs.declared.cert_line.CertLine.{CertLine}
use Rattle.e_cert.specs.declared.cert_line.CertLine.TheVariants as certlines
use Rattle.e_cert.specs.declared.owed.OpenSums.{OpenSums}
use Rattle.e_cert.specs.declared.owed.OpenSums.TheVariants as sums
use Rattle.e_cert.specs.declared.owed.OpenTransfer.{OpenTransfer}
use Rattle.e_cert.specs.declared.owed.Obligation.{Obligation}
use Rattle.e_cert.specs.declared.owed.Obligation.TheVariants as due
use Rattle.e_cert.specs.declared.owed.Pending.{Pending}
use Rattle.e_cert.specs.declared.kept.StepCerts.{StepCerts}
use Rattle.e_cert.specs.declared.kept.StepCerts.TheVariants as kept
use Rattle.e_cert.specs.CertLines.{limited_size, size_of, multiplier_of, raw_row_of, may_differ, bare_cert_line, differs_of, transfer_of, row_cert_line_of, cert_line_named, cert_line_of, cert_line_text, place_of_digits as place_in, fact_cert_line_of}
use Rattle.e_cert.specs.CanonicalCertLines.{is_canonical_cert_line, canonical_cert_line}
use Rattle.e_cert.specs.Owed.{has_more, certificate, row_put, sum_begun, differs_put, sums_ended, transfer_put, part_put, metric_put, takes_metric, clash_put, count_others, transfer_at, open_transfer_in, transfer_begun, with_sums_ended, sums_after, due_after, after_cert_line, kept_of, finish_certs}
use Rattle.e_cert.specs.Rows.{row_in, transfer_rule}
use Rattle.e_cert.proofs.FormsOfCertLines.{CertLineSaid, strict_said}
use Rattle.e_roundtrip.specs.Formed.{against_formed}
use Rattle.e_roundtrip.proofs.Certificates.CertLinesRead.{CertLineSigned, cert_line_signed}
use Rattle.e_roundtrip.proofs.Certificates.OwedSpelled.{due_at_first}
use Rattle.e_roundtrip.proofs.Certificates.FormsOfOwedCertificates.{row_formed, difference_put, OpenFormed, row_put_formed, sum_begun_formed, differs_put_formed, sums_ended_formed, TransferFormed, DueFormed, transfer_put_formed, part_put_formed, metric_put_formed, KeptIsFormed, kept_formed}

-- ---- multipliers

record Small (n : ℕ) : Type 0 where
  some : 0 < n
  few : n ≤ 2 ^ 80

sized_small : (o : Option ℕ) (n : ℕ) → limited_size o ≡ Ok n → Small n
sized_small None n e = absurd cc
sized_small (Some k) n e =
    let p = passed (ltb 0 k && leb k (2 ^ 80)) (read_ok k) n e in
    let q = and_parts (ltb 0 k) (leb k (2 ^ 80)) p.0 in
    subst Small (ok_is k n p.1) (record { some = ltb-true 0 k q.0; few = leb-true k (2 ^ 80) q.1 })

not_zero : (m : ℤ) → (m ≡ pos 0 → ⊥) → not (int_eq m (pos 0)) ≡ true
not_zero m h = not_from_false (int_eq m (pos 0)) (false_from_ne_true (int_eq m (pos 0)) (λ e. h ((Decides-int_eq m (pos 0)).0 e)))

good_pos : (n : ℕ) → Small n → is_nonzero_bounded (pos n) ≡ true
good_pos zero h = absurd (let lt = h.some in omega (arith, lt))
good_pos (suc n) h = and_from _ _ (not_zero (pos (suc n)) (λ e. absurd cc)) (le-leb (suc n) (2 ^ 80) h.few)

good_neg : (n : ℕ) → Small n → is_nonzero_bounded (neg_ℤ (pos n)) ≡ true
good_neg zero h = absurd (let lt = h.some in omega (arith, lt))
good_neg (suc n) h = and_from _ _ (not_zero (negsuc n) (λ e. absurd cc)) (le-leb (suc n) (2 ^ 80) h.few)

size_is : (ds : List ℕ) (m : ℤ) → size_of ds ≡ Ok m → (n : ℕ) × (pos n ≡ m) × Small n
size_is ds m e =
    let n = bind_ok (limited_size (number_of ds)) (λ n. read_ok (pos n)) m e in
    (n.0, ok_is (pos n.0) m n.2, sized_small (number_of ds) n.0 n.1)

multiplier_good : (w : List ℕ) (m : ℤ) → multiplier_of w ≡ Ok m → is_nonzero_bounded m ≡ true
multiplier_good [] m e = absurd cc
multiplier_good (b ∷ bs) m e = by_sign (eqb b 45) e
  where
    by_sign : (c : Bool) → cond c (size_of bs >>= λ n. read_ok (neg_ℤ n)) (size_of (b ∷ bs)) ≡ Ok m → is_nonzero_bounded m ≡ true
    by_sign true h =
        let x = bind_ok (size_of bs) (λ n. read_ok (neg_ℤ n)) m h in
        let n = size_is bs x.0 x.1 in
        subst (λ (k : ℤ). is_nonzero_bounded k ≡ true) (ap neg_ℤ n.1 ∙ ok_is (neg_ℤ x.0) m x.2) (good_neg n.0 n.2)
    by_sign false h =
        let n = size_is (b ∷ bs) m h in
        subst (λ (k : ℤ). is_nonzero_bounded k ≡ true) n.1 (good_pos n.0 n.2)

-- ---- lines by their words

-- the multiplier of a row, and the row that differs
abbrev Numbers : CertLine → Type 0
Numbers (certlines.Differs r) = may_differ r ≡ true
Numbers (certlines.Row m r) = is_nonzero_bounded m ≡ true
Numbers cert_line = Unit {0}

bare_numbers : (ws : List (List ℕ)) (cert_line m : CertLine) → Numbers cert_line → bare_cert_line ws cert_line ≡ Ok m → Numbers m
bare_numbers ws cert_line m h e = let n = bind_ok (no_word_left ws) (λ none. read_ok cert_line) m e in subst Numbers (ok_is cert_line m n.2) h

differs_numbers : (ws : List (List ℕ)) (m : CertLine) → differs_of ws ≡ Ok m → Numbers m
unfolding differs_of
differs_numbers ws m e =
    let r = bind_ok (raw_row_of ws) (λ r. cond (may_differ r) (read_ok (certlines.Differs r)) (Err Malformed)) m e in
    let p = passed (may_differ r.0) (read_ok (certlines.Differs r.0)) m r.2 in
    subst Numbers (ok_is (certlines.Differs r.0) m p.1) p.0

row_numbers : (w : List ℕ) (ws : List (List ℕ)) (m : CertLine) → row_cert_line_of w ws ≡ Ok m → Numbers m
unfolding row_cert_line_of
row_numbers w ws m e =
    let n = bind_ok (multiplier_of w) (λ n. raw_row_of ws >>= λ r. read_ok (certlines.Row n r)) m e in
    let r = bind_ok (raw_row_of ws) (λ r. read_ok (certlines.Row n.0 r)) m n.2 in
    subst Numbers (ok_is (certlines.Row n.0 r.0) m r.2) (multiplier_good w n.0 n.1)

fact_numbers : (ws : List (List ℕ)) (m : CertLine) → fact_cert_line_of ws ≡ Ok m → Numbers m
unfolding fact_cert_line_of
fact_numbers [] m e = subst Numbers (ok_is certlines.Fact m e) tt
fact_numbers (w ∷ ws) m e =
    let n = bind_ok (no_word_left ws) (λ none. place_in w >>= λ k. read_ok (certlines.FactAt k)) m e in
    let k = bind_ok (place_in w) (λ k. read_ok (certlines.FactAt k)) m n.2 in
    subst Numbers (ok_is (certlines.FactAt k.0) m k.2) tt

transfer_numbers : (ws : List (List ℕ)) (m : CertLine) → transfer_of ws ≡ Ok m → Numbers m
unfolding transfer_of
transfer_numbers ws m e =
    let t = bind_ok (first_title ws) (λ t. names_of t.1 >>= λ ns. read_ok (certlines.Transfer t.0 ns)) m e in
    let ns = bind_ok (names_of t.0.1) (λ ns. read_ok (certlines.Transfer t.0.0 ns)) m t.2 in
    subst Numbers (ok_is (certlines.Transfer t.0.0 ns.0) m ns.2) tt

clash_numbers : (ws : List (List ℕ)) (m : CertLine) → (diagram_lit_of ws >>= λ l. read_ok (certlines.Clash l)) ≡ Ok m → Numbers m
clash_numbers ws m e =
    let l = bind_ok (diagram_lit_of ws) (λ l. read_ok (certlines.Clash l)) m e in
    subst Numbers (ok_is (certlines.Clash l.0) m l.2) tt

named_numbers : (w : List ℕ) (ws : List (List ℕ)) (m : CertLine) → cert_line_named w ws ≡ Ok m → Numbers m
unfolding cert_line_named
named_numbers w ws m e =
    let m5 : Result CertLine FaultKind = cond (bytes_eq w (codes "differs")) (differs_of ws) (row_cert_line_of w ws) in
    let m4 : Result CertLine FaultKind = cond (bytes_eq w (codes "sum")) (bare_cert_line ws certlines.Sum) m5 in
    let m3 : Result CertLine FaultKind = cond (bytes_eq w (codes "clash")) (diagram_lit_of ws >>= λ l. read_ok (certlines.Clash l)) m4 in
    let m2 : Result CertLine FaultKind = cond (bytes_eq w (codes "transfer")) (transfer_of ws) m3 in
    let m1 : Result CertLine FaultKind = cond (bytes_eq w (codes "metric")) (bare_cert_line ws certlines.Metric) m2 in
    either Numbers (bytes_eq w (codes "fact")) (fact_cert_line_of ws) m1 m e (fact_numbers ws m) (λ e1.
    either Numbers (bytes_eq w (codes "metric")) (bare_cert_line ws certlines.Metric) m2 m e1 (bare_numbers ws certlines.Metric m tt) (λ e2.
    either Numbers (bytes_eq w (codes "transfer")) (transfer_of ws) m3 m e2 (transfer_numbers ws m) (λ e3.
    either Numbers (bytes_eq w (codes "clash")) (diagram_lit_of ws >>= λ l. read_ok (certlines.Clash l)) m4 m e3 (clash_numbers ws m) (λ e4.
    either Numbers (bytes_eq w (codes "sum")) (bare_cert_line ws certlines.Sum) m5 m e4 (bare_numbers ws certlines.Sum m tt) (λ e5.
    either Numbers (bytes_eq w (codes "differs")) (differs_of ws) (row_cert_line_of w ws) m e5 (differs_numbers ws m) (row_numbers w ws m))))))

cert_line_numbers : (ws : List (List ℕ)) (m : CertLine) → cert_line_of ws ≡ Ok m → Numbers m
unfolding cert_line_of
cert_line_numbers [] m e = absurd cc
cert_line_numbers (w ∷ ws) m e = named_numbers w ws m e

-- ---- what is owed

pub record OwedFormed (o : Pending) : Type 0 where
  pub certs : DueFormed (scope_of_names o.names) o.due
  pub rows_of_sums : OpenFormed (scope_of_names o.names) o.sums

to_owed : (x o : Pending) → OwedFormed x → read_ok x ≡ Ok o → OwedFormed o
to_owed x o h e = subst OwedFormed (ok_is x o e) h

ended_formed : (o : Pending) (s : Option OpenSums) (e : Pending) → OwedFormed o → OpenFormed (scope_of_names o.names) s → with_sums_ended o s ≡ Ok e → OwedFormed e
ended_formed o None e h k same = to_owed o e h same
ended_formed o (Some s) e h k same =
    let ns = scope_of_names o.names in
    let then : Obligation → Pending = λ d. record o { due = d; sums = None } in
    let all = bind_ok (sums_ended s) (λ all. metric_put o.due (record { sums = all }) >>= λ d. read_ok (then d)) e same in
    let d = bind_ok (metric_put o.due (record { sums = all.0 })) (λ d. read_ok (then d)) e all.2 in
    to_owed (then d.0) e (record { certs = metric_put_formed ns o.due (record { sums = all.0 }) d.0 h.certs (sums_ended_formed ns s all.0 k all.1) d.1; rows_of_sums = tt }) d.2

-- a transfer that is begun
counted_right : (b : Bool) (u : Unit {0}) → right_count b ≡ Ok u → b ≡ true
counted_right true u e = refl
counted_right false u e = absurd cc

rule_is : (o : Option ℕ) (r : ℕ) → transfer_rule o ≡ Ok r → is_transfer r ≡ true
rule_is None r e = absurd cc
rule_is (Some k) r e =
    let p = passed (is_transfer k) (read_ok k) r e in
    subst (λ (n : ℕ). is_transfer n ≡ true) (ok_is k r p.1) p.0

some_is : {A : Type 0} (o : Option A) (x : A) → or_malformed o ≡ Ok x → o ≡ Some x
some_is {A} None x e = absurd cc
some_is {A} (Some y) x e = ap (λ (z : A). Some z) (ok_is y x e)

begun_formed : (ns : Names) (l : Lit) (title : List ℕ) (raws : List (List ℕ)) (t : OpenTransfer) → open_transfer_in ns l title raws ≡ Ok t → TransferFormed (scope_of_names ns) l t
unfolding open_transfer_in transfer_at
begun_formed ns l title raws t e =
    let then : ℕ → List Obj → List Lit → OpenTransfer = λ r args lits. record { rule = r; args = args; parts = []; owed = count_others l lits } in
    let last : ℕ → List Obj → Result OpenTransfer FaultKind = λ r args. transfer_at l r args in
    let third : ℕ → Sig → Result OpenTransfer FaultKind = λ r s. args_in ns s raws >>= λ args. last r args in
    let second : ℕ → Sig → Result OpenTransfer FaultKind = λ r s. right_count (length raws == s.points + s.lines + s.circles) >>= λ right. third r s in
    let r = bind_ok (transfer_rule (number_of_rule title)) (λ r. variables_of (sig_of r) >>= λ s. second r s) t e in
    let s = bind_ok (variables_of (sig_of r.0)) (λ s. second r.0 s) t r.2 in
    let right = bind_ok (right_count (length raws == s.0.points + s.0.lines + s.0.circles)) (λ right. third r.0 s.0) t s.2 in
    let args = bind_ok (args_in ns s.0 raws) (λ args. last r.0 args) t right.2 in
    let lits = bind_ok (or_malformed (Inst r.0 args.0)) (λ lits. read_ok (then r.0 args.0 lits)) t args.2 in
    let count = eqb-true (length raws) (s.0.points + s.0.lines + s.0.circles) (counted_right (length raws == s.0.points + s.0.lines + s.0.circles) right.0 right.1) in
    subst (λ (x : OpenTransfer). TransferFormed (scope_of_names ns) l x) (ok_is (then r.0 args.0 lits.0) t lits.2) (record {
      rule = rule_is (number_of_rule title) r.0 r.1;
      lits = lits.0;
      instance = some_is (Inst r.0 args.0) lits.0 lits.1;
      owed = refl;
      args = (good_args ns s.0 raws args.0 count args.1).within;
      parts = refl;
    })

transfer_begun_formed : (ns : Names) (d : Obligation) (title : List ℕ) (raws : List (List ℕ)) (new : Obligation) → DueFormed (scope_of_names ns) d → transfer_begun ns d title raws ≡ Ok new → DueFormed (scope_of_names ns) new
transfer_begun_formed ns (due.Literals wanted certs None) title raws new h e =
    let l = bind_ok (or_malformed (slice_get wanted (length certs))) (λ l. open_transfer_in ns l title raws >>= λ t. transfer_put wanted certs t) new e in
    let t = bind_ok (open_transfer_in ns l.0 title raws) (λ t. transfer_put wanted certs t) new l.2 in
    transfer_put_formed (scope_of_names ns) wanted certs t.0 new h (l.0, some_is (slice_get wanted (length certs)) l.0 l.1, begun_formed ns l.0 title raws t.0 t.1) t.2
transfer_begun_formed ns d title raws new h e = absurd cc

-- a diagram literal in scope
not_metric : (a : Atom) → is_diagram_atom a ≡ true → not (is_some (kind_of_atom a)) ≡ true
not_metric (atoms.MagEq x y) h = absurd cc
not_metric (atoms.MagLt x y) h = absurd cc
not_metric a h = refl

clash_put_formed : (s : Scope) (d : Obligation) (l : Lit) (new : Obligation) → against_formed s (against.Clash l) ≡ true → clash_put d l ≡ Ok new → DueFormed s new
clash_put_formed s (due.Contradiction None) l new k e = subst (DueFormed s) (ok_is (due.Contradiction (Some (against.Clash l))) new e) k
clash_put_formed s d l new k e = absurd cc

-- ---- a line

after_cert_line_formed : (o : Pending) (m : CertLine) (new : Pending) → OwedFormed o → CertLineSaid m → CertLineSigned m → Numbers m → after_cert_line o m ≡ Ok new → OwedFormed new
unfolding after_cert_line
after_cert_line_formed o certlines.Fact new h said signed numbers same =
    let e = bind_ok (with_sums_ended o o.sums) (λ e. part_put e.due parts.Fact >>= λ d. read_ok (due_after e d)) new same in
    let g = ended_formed o o.sums e.0 h h.rows_of_sums e.1 in
    let d = bind_ok (part_put e.0.due parts.Fact) (λ d. read_ok (due_after e.0 d)) new e.2 in
    to_owed (due_after e.0 d.0) new (record { certs = part_put_formed (scope_of_names e.0.names) e.0.due parts.Fact d.0 g.certs refl d.1; rows_of_sums = g.rows_of_sums }) d.2
after_cert_line_formed o (certlines.FactAt k) new h said signed numbers same =
    let e = bind_ok (with_sums_ended o o.sums) (λ e. part_put e.due (parts.FactAt k) >>= λ d. read_ok (due_after e d)) new same in
    let g = ended_formed o o.sums e.0 h h.rows_of_sums e.1 in
    let d = bind_ok (part_put e.0.due (parts.FactAt k)) (λ d. read_ok (due_after e.0 d)) new e.2 in
    to_owed (due_after e.0 d.0) new (record { certs = part_put_formed (scope_of_names e.0.names) e.0.due (parts.FactAt k) d.0 g.certs said d.1; rows_of_sums = g.rows_of_sums }) d.2
after_cert_line_formed o certlines.Metric new h said signed numbers same =
    let e = bind_ok (with_sums_ended o o.sums) (λ e. cond (takes_metric e.due) (read_ok (sums_after e sums.Begun)) (Err Malformed)) new same in
    let g = ended_formed o o.sums e.0 h h.rows_of_sums e.1 in
    let p = passed (takes_metric e.0.due) (read_ok (sums_after e.0 sums.Begun)) new e.2 in
    to_owed (sums_after e.0 sums.Begun) new (record { certs = g.certs; rows_of_sums = tt }) p.1
after_cert_line_formed o (certlines.Transfer title raws) new h said signed numbers same =
    let e = bind_ok (with_sums_ended o o.sums) (λ e. transfer_begun e.names e.due title raws >>= λ d. read_ok (due_after e d)) new same in
    let g = ended_formed o o.sums e.0 h h.rows_of_sums e.1 in
    let d = bind_ok (transfer_begun e.0.names e.0.due title raws) (λ d. read_ok (due_after e.0 d)) new e.2 in
    to_owed (due_after e.0 d.0) new (record { certs = transfer_begun_formed e.0.names e.0.due title raws d.0 g.certs d.1; rows_of_sums = g.rows_of_sums }) d.2
after_cert_line_formed o (certlines.Clash raw) new h said signed numbers same =
    let e = bind_ok (with_sums_ended o o.sums) (λ e. lit_in e.names raw >>= λ l. clash_put e.due l >>= λ d. read_ok (due_after e d)) new same in
    let g = ended_formed o o.sums e.0 h h.rows_of_sums e.1 in
    let l = bind_ok (lit_in e.0.names raw) (λ l. clash_put e.0.due l >>= λ d. read_ok (due_after e.0 d)) new e.2 in
    let d = bind_ok (clash_put e.0.due l.0) (λ d. read_ok (due_after e.0 d)) new l.2 in
    let s = scope_of_names e.0.names in
    let formed : against_formed s (against.Clash l.0) ≡ true =
    and_from (all_in_scope s l.0) (not (is_metric l.0)) (lit_in_scope e.0.names raw l.0 l.1) (not_metric l.0.atom (lit_plain e.0.names raw l.0 signed l.1)) in
    to_owed (due_after e.0 d.0) new (record { certs = clash_put_formed s e.0.due l.0 d.0 formed d.1; rows_of_sums = g.rows_of_sums }) d.2
after_cert_line_formed o certlines.Sum new h said signed numbers same =
    let s = bind_ok (sum_begun o.sums) (λ s. read_ok (sums_after o s)) new same in
    to_owed (sums_after o s.0) new (record { certs = h.certs; rows_of_sums = sum_begun_formed (scope_of_names o.names) o.sums s.0 h.rows_of_sums s.1 }) s.2
after_cert_line_formed o (certlines.Differs raw) new h said signed numbers same =
    let r = bind_ok (row_in o.names raw) (λ r. differs_put o.sums r >>= λ s. read_ok (sums_after o s)) new same in
    let s = bind_ok (differs_put o.sums r.0) (λ s. read_ok (sums_after o s)) new r.2 in
    to_owed (sums_after o s.0) new (record { certs = h.certs; rows_of_sums = differs_put_formed (scope_of_names o.names) o.sums r.0 s.0 (difference_put o.names raw r.0 numbers said r.1) s.1 }) s.2
after_cert_line_formed o (certlines.Row m raw) new h said signed numbers same =
    let r = bind_ok (row_in o.names raw) (λ r. row_put o.sums m r >>= λ s. read_ok (sums_after o s)) new same in
    let s = bind_ok (row_put o.sums m r.0) (λ s. read_ok (sums_after o s)) new r.2 in
    to_owed (sums_after o s.0) new (record { certs = h.certs; rows_of_sums = row_put_formed (scope_of_names o.names) o.sums m r.0 s.0 h.rows_of_sums (row_formed o.names m raw r.0 numbers said r.1) s.1 }) s.2

-- a line of a certificate by its bytes
pub strict_formed : (o : Pending) (line : List ℕ) (ws : List (List ℕ)) (m : CertLine) (new : Pending) → OwedFormed o → canonical_cert_line line ws ≡ Ok m → after_cert_line o m ≡ Ok new → OwedFormed new
unfolding canonical_cert_line
strict_formed o line ws m new h e same =
    let x = bind_ok (cert_line_of ws) (λ m. cond (is_canonical_cert_line m && bytes_eq line (cert_line_text m)) (read_ok m) (Err Malformed)) m e in
    let is : x.0 ≡ m = ok_is x.0 m (passed (is_canonical_cert_line x.0 && bytes_eq line (cert_line_text x.0)) (read_ok x.0) m x.2).1 in
    after_cert_line_formed o m new h (strict_said line ws m e) (subst CertLineSigned is (cert_line_signed ws x.0 x.1)) (subst Numbers is (cert_line_numbers ws x.0 x.1)) same

-- ---- what is kept

-- what was owed at first, whatever has been put
put_first : (wanted : List Lit) (cs : List Cert) (t : OpenTransfer) (new : Obligation) → transfer_put wanted cs t ≡ Ok new → due_at_first new ≡ due.Literals wanted [] None
put_first wanted cs t new e = by_count (eqb (length t.parts) t.owed) e
  where
    by_count : (b : Bool) → cond b (read_ok (due.Literals wanted (cs ++ certificate t ∷ []) None)) (read_ok (due.Literals wanted cs (Some t))) ≡ Ok new → due_at_first new ≡ due.Literals wanted [] None
    by_count true f = ap due_at_first (sym (ok_is (due.Literals wanted (cs ++ certificate t ∷ []) None) new f))
    by_count false f = ap due_at_first (sym (ok_is (due.Literals wanted cs (Some t)) new f))

part_first : (d : Obligation) (p : Part) (new : Obligation) → part_put d p ≡ Ok new → due_at_first new ≡ due_at_first d
part_first (due.Literals wanted cs None) p new e =
    let x = passed (has_more wanted cs) (read_ok (due.Literals wanted (cs ++ Plain p ∷ []) None)) new e in
    ap due_at_first (sym (ok_is (due.Literals wanted (cs ++ Plain p ∷ []) None) new x.1))
part_first (due.Literals wanted cs (Some t)) p new e = put_first wanted cs (record t { parts = t.parts ++ p ∷ [] }) new e
part_first d p new e = absurd cc

metric_first : (d : Obligation) (m : MetricCert) (new : Obligation) → metric_put d m ≡ Ok new → due_at_first new ≡ due_at_first d
metric_first (due.Contradiction None) m new e = ap due_at_first (sym (ok_is (due.Contradiction (Some (against.Metric m))) new e))
metric_first (due.Contradiction (Some a)) m new e = part_first (due.Contradiction (Some a)) (parts.Metric m) new e
metric_first due.Nothing m new e = part_first due.Nothing (parts.Metric m) new e
metric_first (due.Literals wanted cs t) m new e = part_first (due.Literals wanted cs t) (parts.Metric m) new e

-- where the sums end the names are the same, and what was owed at first
record SameOwed (o e : Pending) : Type 0 where
  names : e.names ≡ o.names
  first : due_at_first e.due ≡ due_at_first o.due

ended_same : (o : Pending) (s : Option OpenSums) (e : Pending) → with_sums_ended o s ≡ Ok e → SameOwed o e
ended_same o None e same = subst (SameOwed o) (ok_is o e same) (record { names = refl; first = refl })
ended_same o (Some s) e same =
    let then : Obligation → Pending = λ d. record o { due = d; sums = None } in
    let all = bind_ok (sums_ended s) (λ all. metric_put o.due (record { sums = all }) >>= λ d. read_ok (then d)) e same in
    let d = bind_ok (metric_put o.due (record { sums = all.0 })) (λ d. read_ok (then d)) e all.2 in
    subst (SameOwed o) (ok_is (then d.0) e d.2) (record { names = refl; first = metric_first o.due (record { sums = all.0 }) d.0 d.1 })

at_first : (s : Scope) (d : Obligation) (k : Option StepCerts) → KeptIsFormed s d k → KeptIsFormed s (due_at_first d) k
at_first s due.Nothing None h = h
at_first s due.Nothing (Some k) h = absurd h
at_first s (due.Literals wanted cs t) None h = absurd h
at_first s (due.Literals wanted cs t) (Some (kept.Certs certs)) h = h
at_first s (due.Literals wanted cs t) (Some (kept.Against a)) h = absurd h
at_first s (due.Contradiction a) None h = absurd h
at_first s (due.Contradiction a) (Some (kept.Certs certs)) h = absurd h
at_first s (due.Contradiction a) (Some (kept.Against b)) h = h

-- what is kept for a line has the form of what it owes
pub settled_formed : (o : Pending) (k : Option StepCerts) → OwedFormed o → finish_certs o ≡ Ok k → KeptIsFormed (scope_of_names o.names) (due_at_first o.due) k
unfolding finish_certs
settled_formed o k h same =
    let e = bind_ok (with_sums_ended o o.sums) (λ e. kept_of e.due) k same in
    let g = ended_formed o o.sums e.0 h h.rows_of_sums e.1 in
    let is = ended_same o o.sums e.0 e.1 in
    subst (λ (ns : Names). KeptIsFormed (scope_of_names ns) (due_at_first o.due) k) is.names
    (subst (λ (d : Obligation). KeptIsFormed (scope_of_names e.0.names) d k) is.first
    (at_first (scope_of_names e.0.names) e.0.due k (kept_formed (scope_of_names e.0.names) e.0.due k g.certs e.2)))

-- before its first certificate a line owes nothing wrong
pub owed_at_first : (ns : Names) (wanted : List Lit) → OwedFormed (record { names = ns; due = due.Literals wanted [] None; sums = None })
owed_at_first ns wanted = record { certs = refl; rows_of_sums = tt }
