-- The certificates that are read are of the version of the text, and their literals are well formed.
use Rattle.std.proofs.Common.{◌≡◌, ℕ, ◌+◌, Bool, true, false, cond, ◌&&◌, ◌^◌, ltb, List, [], ◌∷◌, ◌++◌, length, Option, Some, None, Result, Ok, Err, refl, subst}
use Rattle.std.specs.Prelude.{ℤ, slice_get, ◌==◌}
use Rattle.std.specs.List.{list_all}
use Rattle.std.specs.Str.{bytes_eq}
use Rattle.std.specs.Option.{option_to_list}
use Rattle.std.proofs.lemmas.Bool.{and_parts, and_from}
use Rattle.e_literal.specs.declared.literal.Lit.{Lit}
use Rattle.e_literal.specs.declared.object.Obj.{Obj}
use Rattle.e_literal.specs.WellFormed.{is_well_formed}
use Rattle.e_literal.proofs.Booleans.{all_both}
use Rattle.e_clause.specs.declared.cert.RowName.{RowName}
use Rattle.e_clause.specs.declared.cert.RowName.TheVariants as names
use Rattle.e_clause.specs.declared.cert.Sums.{Sums}
use Rattle.e_clause.specs.declared.cert.Sums.TheVariants.{One, Two}
use Rattle.e_clause.specs.declared.cert.MetricCert.{MetricCert}
use Rattle.e_clause.specs.declared.cert.Part.{Part}
use Rattle.e_clause.specs.declared.cert.Part.TheVariants as parts
use Rattle.e_clause.specs.declared.cert.Cert.{Cert}
use Rattle.e_clause.specs.declared.cert.Cert.TheVariants.{Plain}
use Rattle.e_clause.specs.declared.cert.Against.TheVariants as against
use Rattle.e_clause.specs.declared.rule.Sig.{Sig}
use Rattle.e_clause.specs.Instance.{Inst, number_of_rule}
use Rattle.e_clause.specs.Sigs.{sig_of}
use Rattle.e_deriv.specs.declared.names.Names.{Names}
use Rattle.e_line.specs.declared.fault.FaultKind.{FaultKind}
use Rattle.e_line.specs.declared.fault.FaultKind.TheVariants.{Malformed}
use Rattle.e_line.specs.declared.literal.RawLit.{RawLit}
use Rattle.e_line.specs.Reading.{◌>>=◌, or_malformed}
use Rattle.e_names.specs.Scope.{lit_in, term_in, args_in, variables_of, right_count}
use Rattle.e_line.specs.LineLimits.{check_literal_limits}
use Rattle.e_line.proofs.base.Bound.{bind_ok, ok_is, read_ok}
use Rattle.e_names.proofs.literals.FewSums.{few_ok, one_lit}
use Rattle.e_line.proofs.read_lines.SumsOfLiterals.{AtomSaid, lit_said}
use Rattle.e_names.proofs.read_lines.WellRead.{good_lits}
use Rattle.e_line.proofs.base.Choices.{either, passed}
use Rattle.e_cert.specs.declared.cert_line.RawRow.{RawRow}
use Rattle.e_cert.specs.declared.cert_line.RawRow.TheVariants as rows
use Rattle.e_cert.specs.declared.cert_line.CertLine.{CertLine}
use Rattle.e_cert.specs.declared.cert_line.CertLine.TheVariants as certlines
use Rattle.e_cert.specs.declared.owed.OpenSums.{OpenSums}
use Rattle.e_cert.specs.declared.owed.OpenSums.TheVariants as sums
use Rattle.e_cert.specs.declared.owed.OpenTransfer.{OpenTransfer}
use Rattle.e_cert.specs.declared.owed.Obligation.{Obligation}
use Rattle.e_cert.specs.declared.owed.Obligation.TheVariants as due
use Rattle.e_cert.specs.declared.owed.Pending.{Pending}
use Rattle.e_cert.specs.declared.kept.StepCerts.{StepCerts}
use Rattle.e_cert.specs.declared.kept.StepCerts.TheVariants as kept
use Rattle.e_cert.specs.CertLines.{cert_line_of, cert_line_text, row_is_of, cert_line_is_of}
use Rattle.e_cert.specs.CanonicalCertLines.{is_canonical_cert_line, canonical_cert_line}
use Rattle.e_cert.specs.Owed.{with_row, row_put, sum_begun, differs_put, sums_ended, has_more, certificate, transfer_put, part_put, metric_put, takes_metric, clash_put, count_others, transfer_at, open_transfer_in, transfer_begun, with_sums_ended, sums_after, due_after, after_cert_line, kept_of, finish_certs}
use Rattle.e_cert.specs.Rows.{most_rows, fact_in, row_in, transfer_rule}
use Rattle.e_clause.specs.Written.{is_writable_name}
use Rattle.e_clause.specs.declared.cert.Version.{Version}
use Rattle.e_clause.specs.Versions.{by_literals, by_places, is_name_of, is_sum_of, are_sums_of, is_part_of, is_cert_of, is_against_of}
use Rattle.e_cert.proofs.FormsOfCertificates.{AreOfVersion}
use Rattle.e_cert.proofs.CertLineLits.{OfRow, OfCertLine, cert_line_lit}

-- ---- what is said: no coefficient of a row's literal is 0

abbrev pub Said : RawLit → Type 0
Said l = AtomSaid l.atom

abbrev pub Anything : RawLit → Type 0
Anything l = Unit {0}

abbrev pub RowSaid : RawRow → Type 0
RowSaid row = OfRow Said row

abbrev pub CertLineSaid : CertLine → Type 0
CertLineSaid cert_line = OfCertLine Said Anything cert_line

pub strict_said : (line : List ℕ) (ws : List (List ℕ)) (m : CertLine) → canonical_cert_line line ws ≡ Ok m → CertLineSaid m
unfolding canonical_cert_line
strict_said line ws m e =
    let x = bind_ok (cert_line_of ws) (λ m. cond (is_canonical_cert_line m && bytes_eq line (cert_line_text m)) (read_ok m) (Err Malformed)) m e in
    subst CertLineSaid (ok_is x.0 m (passed (is_canonical_cert_line x.0 && bytes_eq line (cert_line_text x.0)) (read_ok x.0) m x.2).1)
    (cert_line_lit Said lit_said Anything (λ ws l h. tt) ws x.0 x.1)

-- ---- rows

good_fact : (ns : Names) (raw : RawLit) (l : Lit) → AtomSaid raw.atom → fact_in ns raw ≡ Ok l → is_well_formed l ≡ true
good_fact ns raw l said e =
    let x = bind_ok (lit_in ns raw) (λ x. check_literal_limits (raw ∷ []) >>= λ few. read_ok x) l e in
    let f = bind_ok (check_literal_limits (raw ∷ [])) (λ few. read_ok x.0) l x.2 in
    let few = few_ok (raw ∷ []) f.0 f.1 in
    let good = good_lits ns (raw ∷ []) (x.0 ∷ []) (one_lit ns raw x.0 x.1) (said, tt) few.short few.small in
    subst (λ (y : Lit). is_well_formed y ≡ true) (ok_is x.0 l f.2) (and_parts (is_well_formed x.0) true good).0

abbrev pub GoodName : RowName → Type 0
GoodName r = is_writable_name r ≡ true

pub good_row : (ns : Names) (raw : RawRow) (r : RowName) → RowSaid raw → row_in ns raw ≡ Ok r → GoodName r
unfolding row_in
good_row ns (rows.Fact raw) r said e =
    let l = bind_ok (fact_in ns raw) (λ l. read_ok (names.Fact l)) r e in
    subst GoodName (ok_is (names.Fact l.0) r l.2) (good_fact ns raw l.0 said l.1)
good_row ns rows.Goal r said e = subst GoodName (ok_is names.Goal r e) refl
good_row ns (rows.Pos raw) r said e = let t = bind_ok (term_in ns raw) (λ t. read_ok (names.Pos t)) r e in subst GoodName (ok_is (names.Pos t.0) r t.2) refl
good_row ns (rows.Top raw) r said e = let t = bind_ok (term_in ns raw) (λ t. read_ok (names.Top t)) r e in subst GoodName (ok_is (names.Top t.0) r t.2) refl
good_row ns rows.Right r said e = subst GoodName (ok_is names.Right r e) refl
good_row ns (rows.Least raw) r said e = let t = bind_ok (term_in ns raw) (λ t. read_ok (names.Least t)) r e in subst GoodName (ok_is (names.Least t.0) r t.2) refl
good_row ns rows.Above r said e = subst GoodName (ok_is names.Above r e) refl
good_row ns rows.Below r said e = subst GoodName (ok_is names.Below r e) refl
good_row ns (rows.FactAt k) r said e = subst GoodName (ok_is (names.FactAt k) r e) said

-- the name of a row that has a form in a version is of that version
pub version_row : (v : Version) (ns : Names) (raw : RawRow) (r : RowName) → row_is_of v raw ≡ true → RowSaid raw → row_in ns raw ≡ Ok r → is_name_of v r ≡ true
unfolding row_in
version_row v ns (rows.Fact raw) r of said e =
    let l = bind_ok (fact_in ns raw) (λ l. read_ok (names.Fact l)) r e in
    subst (λ (x : RowName). is_name_of v x ≡ true) (ok_is (names.Fact l.0) r l.2) (and_from (by_literals v) (is_well_formed l.0) of (good_fact ns raw l.0 said l.1))
version_row v ns (rows.FactAt k) r of said e = subst (λ (x : RowName). is_name_of v x ≡ true) (ok_is (names.FactAt k) r e) (and_from (by_places v) (ltb k (2 ^ 32)) of said)
version_row v ns rows.Goal r of said e = subst (λ (x : RowName). is_name_of v x ≡ true) (ok_is names.Goal r e) refl
version_row v ns (rows.Pos raw) r of said e = let t = bind_ok (term_in ns raw) (λ t. read_ok (names.Pos t)) r e in subst (λ (x : RowName). is_name_of v x ≡ true) (ok_is (names.Pos t.0) r t.2) refl
version_row v ns (rows.Top raw) r of said e = let t = bind_ok (term_in ns raw) (λ t. read_ok (names.Top t)) r e in subst (λ (x : RowName). is_name_of v x ≡ true) (ok_is (names.Top t.0) r t.2) refl
version_row v ns rows.Right r of said e = subst (λ (x : RowName). is_name_of v x ≡ true) (ok_is names.Right r e) refl
version_row v ns (rows.Least raw) r of said e = let t = bind_ok (term_in ns raw) (λ t. read_ok (names.Least t)) r e in subst (λ (x : RowName). is_name_of v x ≡ true) (ok_is (names.Least t.0) r t.2) refl
version_row v ns rows.Above r of said e = subst (λ (x : RowName). is_name_of v x ≡ true) (ok_is names.Above r e) refl
version_row v ns rows.Below r of said e = subst (λ (x : RowName). is_name_of v x ≡ true) (ok_is names.Below r e) refl

module _ (v : Version) where
  -- ---- what is owed

  abbrev pub is_open_of : Option OpenSums → Bool
  is_open_of None = true
  is_open_of (Some sums.Begun) = true
  is_open_of (Some (sums.One sum)) = is_sum_of v sum
  is_open_of (Some (sums.Differs differs)) = is_name_of v differs
  is_open_of (Some (sums.Above differs sum)) = is_name_of v differs && is_sum_of v sum
  is_open_of (Some (sums.Below differs above sum)) = is_name_of v differs && (is_sum_of v above && is_sum_of v sum)

  abbrev pub are_certs_of : List Cert → Bool
  are_certs_of cs = list_all (is_cert_of v) cs

  abbrev pub are_parts_of : List Part → Bool
  are_parts_of ps = list_all (is_part_of v) ps

  abbrev pub is_obligation_of : Obligation → Bool
  is_obligation_of due.Nothing = true
  is_obligation_of (due.Literals wanted certs None) = are_certs_of certs
  is_obligation_of (due.Literals wanted certs (Some t)) = are_certs_of certs && are_parts_of t.parts
  is_obligation_of (due.Contradiction None) = true
  is_obligation_of (due.Contradiction (Some a)) = is_against_of v a

  abbrev pub GoodOpen : Option OpenSums → Type 0
  GoodOpen s = is_open_of s ≡ true

  abbrev pub GoodDue : Obligation → Type 0
  GoodDue d = is_obligation_of d ≡ true

  pub record GoodOwed (o : Pending) : Type 0 where
    pub certs : GoodDue o.due
    pub rows_of_sums : GoodOpen o.sums

  to_open : (x s : OpenSums) → GoodOpen (Some x) → read_ok x ≡ Ok s → GoodOpen (Some s)
  to_open x s h e = subst (λ (y : OpenSums). GoodOpen (Some y)) (ok_is x s e) h

  to_due : (x d : Obligation) → GoodDue x → read_ok x ≡ Ok d → GoodDue d
  to_due x d h e = subst GoodDue (ok_is x d e) h

  to_owed : (x o : Pending) → GoodOwed x → read_ok x ≡ Ok o → GoodOwed o
  to_owed x o h e = subst GoodOwed (ok_is x o e) h

  with_row_good : (sum new : List (ℤ × RowName)) (m : ℤ) (r : RowName) → is_sum_of v sum ≡ true → is_name_of v r ≡ true → with_row sum m r ≡ Ok new → is_sum_of v new ≡ true
  with_row_good sum new m r h k e =
      let p = passed (ltb (length sum) most_rows) (read_ok (sum ++ (m, r) ∷ [])) new e in
      subst (λ (x : List (ℤ × RowName)). is_sum_of v x ≡ true) (ok_is (sum ++ (m, r) ∷ []) new p.1) (all_both (λ (x : ℤ × RowName). is_name_of v x.1) sum ((m, r) ∷ []) h (and_from _ _ k refl))

  row_put_good : (s : Option OpenSums) (m : ℤ) (r : RowName) (new : OpenSums) → GoodOpen s → is_name_of v r ≡ true → row_put s m r ≡ Ok new → GoodOpen (Some new)
  row_put_good (Some (sums.One sum)) m r new h k e =
      let x = bind_ok (with_row sum m r) (λ x. read_ok (sums.One x)) new e in
      to_open (sums.One x.0) new (with_row_good sum x.0 m r h k x.1) x.2
  row_put_good (Some (sums.Above differs sum)) m r new h k e =
      let x = bind_ok (with_row sum m r) (λ x. read_ok (sums.Above differs x)) new e in
      let p = and_parts (is_name_of v differs) (is_sum_of v sum) h in
      to_open (sums.Above differs x.0) new (and_from _ _ p.0 (with_row_good sum x.0 m r p.1 k x.1)) x.2
  row_put_good (Some (sums.Below differs above sum)) m r new h k e =
      let x = bind_ok (with_row sum m r) (λ x. read_ok (sums.Below differs above x)) new e in
      let p = and_parts (is_name_of v differs) (is_sum_of v above && is_sum_of v sum) h in
      let q = and_parts (is_sum_of v above) (is_sum_of v sum) p.1 in
      to_open (sums.Below differs above x.0) new (and_from _ _ p.0 (and_from _ _ q.0 (with_row_good sum x.0 m r q.1 k x.1))) x.2
  row_put_good s m r new h k e = absurd cc

  sum_begun_good : (s : Option OpenSums) (new : OpenSums) → GoodOpen s → sum_begun s ≡ Ok new → GoodOpen (Some new)
  sum_begun_good (Some sums.Begun) new h e = to_open (sums.One []) new refl e
  sum_begun_good (Some (sums.Differs differs)) new h e = to_open (sums.Above differs []) new (and_from _ _ h refl) e
  sum_begun_good (Some (sums.Above differs sum)) new h e =
      let p = and_parts (is_name_of v differs) (is_sum_of v sum) h in
      let x = passed (ltb 0 (length sum)) (read_ok (sums.Below differs sum [])) new e in
      to_open (sums.Below differs sum []) new (and_from _ _ p.0 (and_from _ _ p.1 refl)) x.1
  sum_begun_good s new h e = absurd cc

  differs_put_good : (s : Option OpenSums) (r : RowName) (new : OpenSums) → is_name_of v r ≡ true → differs_put s r ≡ Ok new → GoodOpen (Some new)
  differs_put_good (Some sums.Begun) r new k e = to_open (sums.Differs r) new k e
  differs_put_good s r new k e = absurd cc

  sums_ended_good : (s : OpenSums) (all : Sums) → GoodOpen (Some s) → sums_ended s ≡ Ok all → are_sums_of v all ≡ true
  sums_ended_good (sums.One sum) all h e =
      let x = passed (ltb 0 (length sum)) (read_ok (One sum)) all e in
      subst (λ (y : Sums). are_sums_of v y ≡ true) (ok_is (One sum) all x.1) h
  sums_ended_good (sums.Below differs above sum) all h e =
      let x = passed (ltb 0 (length sum)) (read_ok (Two differs above sum)) all e in
      subst (λ (y : Sums). are_sums_of v y ≡ true) (ok_is (Two differs above sum) all x.1) h
  sums_ended_good s all h e = absurd cc

  -- ---- certificates

  transfer_put_good : (wanted : List Lit) (certs : List Cert) (t : OpenTransfer) (new : Obligation) → are_certs_of certs ≡ true → are_parts_of t.parts ≡ true → transfer_put wanted certs t ≡ Ok new → GoodDue new
  transfer_put_good wanted certs t new h k e =
      either GoodDue (length t.parts == t.owed) (read_ok (due.Literals wanted (certs ++ certificate t ∷ []) None)) (read_ok (due.Literals wanted certs (Some t))) new e
      (to_due (due.Literals wanted (certs ++ certificate t ∷ []) None) new (all_both (is_cert_of v) certs (certificate t ∷ []) h (and_from _ _ k refl)))
      (to_due (due.Literals wanted certs (Some t)) new (and_from _ _ h k))

  part_put_good : (d : Obligation) (p : Part) (new : Obligation) → GoodDue d → is_part_of v p ≡ true → part_put d p ≡ Ok new → GoodDue new
  part_put_good (due.Literals wanted certs None) p new h k e =
      let x = passed (has_more wanted certs) (read_ok (due.Literals wanted (certs ++ Plain p ∷ []) None)) new e in
      to_due (due.Literals wanted (certs ++ Plain p ∷ []) None) new (all_both (is_cert_of v) certs (Plain p ∷ []) h (and_from _ _ k refl)) x.1
  part_put_good (due.Literals wanted certs (Some t)) p new h k e =
      let q = and_parts (are_certs_of certs) (are_parts_of t.parts) h in
      transfer_put_good wanted certs (record t { parts = t.parts ++ p ∷ [] }) new q.0 (all_both (is_part_of v) t.parts (p ∷ []) q.1 (and_from _ _ k refl)) e
  part_put_good d p new h k e = absurd cc

  metric_put_good : (d : Obligation) (m : MetricCert) (new : Obligation) → GoodDue d → are_sums_of v m.sums ≡ true → metric_put d m ≡ Ok new → GoodDue new
  metric_put_good (due.Contradiction None) m new h k e = to_due (due.Contradiction (Some (against.Metric m))) new k e
  metric_put_good (due.Contradiction (Some a)) m new h k e = part_put_good (due.Contradiction (Some a)) (parts.Metric m) new h k e
  metric_put_good due.Nothing m new h k e = part_put_good due.Nothing (parts.Metric m) new h k e
  metric_put_good (due.Literals wanted certs t) m new h k e = part_put_good (due.Literals wanted certs t) (parts.Metric m) new h k e

  clash_put_good : (d : Obligation) (l : Lit) (new : Obligation) → clash_put d l ≡ Ok new → GoodDue new
  clash_put_good (due.Contradiction None) l new e = to_due (due.Contradiction (Some (against.Clash l))) new refl e
  clash_put_good d l new e = absurd cc

  -- a transfer that is begun has no part yet
  no_parts : (ns : Names) (l : Lit) (title : List ℕ) (raws : List (List ℕ)) (t : OpenTransfer) → open_transfer_in ns l title raws ≡ Ok t → are_parts_of t.parts ≡ true
  unfolding open_transfer_in transfer_at
  no_parts ns l title raws t e =
      let then : ℕ → List Obj → List Lit → OpenTransfer = λ r args lits. record { rule = r; args = args; parts = []; owed = count_others l lits } in
      let last : ℕ → List Obj → Result OpenTransfer FaultKind = λ r args. transfer_at l r args in
      let third : ℕ → Sig → Result OpenTransfer FaultKind = λ r s. args_in ns s raws >>= λ args. last r args in
      let second : ℕ → Sig → Result OpenTransfer FaultKind = λ r s. right_count (length raws == s.points + s.lines + s.circles) >>= λ right. third r s in
      let r = bind_ok (transfer_rule (number_of_rule title)) (λ r. variables_of (sig_of r) >>= λ s. second r s) t e in
      let s = bind_ok (variables_of (sig_of r.0)) (λ s. second r.0 s) t r.2 in
      let right = bind_ok (right_count (length raws == s.0.points + s.0.lines + s.0.circles)) (λ right. third r.0 s.0) t s.2 in
      let args = bind_ok (args_in ns s.0 raws) (λ args. last r.0 args) t right.2 in
      let lits = bind_ok (or_malformed (Inst r.0 args.0)) (λ lits. read_ok (then r.0 args.0 lits)) t args.2 in
      subst (λ (x : OpenTransfer). are_parts_of x.parts ≡ true) (ok_is (then r.0 args.0 lits.0) t lits.2) refl

  transfer_begun_good : (ns : Names) (d : Obligation) (title : List ℕ) (raws : List (List ℕ)) (new : Obligation) → GoodDue d → transfer_begun ns d title raws ≡ Ok new → GoodDue new
  transfer_begun_good ns (due.Literals wanted certs None) title raws new h e =
      let l = bind_ok (or_malformed (slice_get wanted (length certs))) (λ l. open_transfer_in ns l title raws >>= λ t. transfer_put wanted certs t) new e in
      let t = bind_ok (open_transfer_in ns l.0 title raws) (λ t. transfer_put wanted certs t) new l.2 in
      transfer_put_good wanted certs t.0 new h (no_parts ns l.0 title raws t.0 t.1) t.2
  transfer_begun_good ns d title raws new h e = absurd cc

  -- ---- lines

  ended_good : (o : Pending) (s : Option OpenSums) (e : Pending) → GoodOwed o → GoodOpen s → with_sums_ended o s ≡ Ok e → GoodOwed e
  ended_good o None e h k same = to_owed o e h same
  ended_good o (Some s) e h k same =
      let then : Obligation → Pending = λ d. record o { due = d; sums = None } in
      let all = bind_ok (sums_ended s) (λ all. metric_put o.due (record { sums = all }) >>= λ d. read_ok (then d)) e same in
      let d = bind_ok (metric_put o.due (record { sums = all.0 })) (λ d. read_ok (then d)) e all.2 in
      to_owed (then d.0) e (record { certs = metric_put_good o.due (record { sums = all.0 }) d.0 h.certs (sums_ended_good s all.0 k all.1) d.1; rows_of_sums = refl }) d.2

  -- after a line of a certificate what was read is good
  after_cert_line_good : (o : Pending) (m : CertLine) (new : Pending) → GoodOwed o → cert_line_is_of v m ≡ true → CertLineSaid m → after_cert_line o m ≡ Ok new → GoodOwed new
  unfolding after_cert_line
  after_cert_line_good o certlines.Fact new h of said same =
      let e = bind_ok (with_sums_ended o o.sums) (λ e. part_put e.due parts.Fact >>= λ d. read_ok (due_after e d)) new same in
      let g = ended_good o o.sums e.0 h h.rows_of_sums e.1 in
      let d = bind_ok (part_put e.0.due parts.Fact) (λ d. read_ok (due_after e.0 d)) new e.2 in
      to_owed (due_after e.0 d.0) new (record { certs = part_put_good e.0.due parts.Fact d.0 g.certs of d.1; rows_of_sums = g.rows_of_sums }) d.2
  after_cert_line_good o (certlines.FactAt k) new h of said same =
      let e = bind_ok (with_sums_ended o o.sums) (λ e. part_put e.due (parts.FactAt k) >>= λ d. read_ok (due_after e d)) new same in
      let g = ended_good o o.sums e.0 h h.rows_of_sums e.1 in
      let d = bind_ok (part_put e.0.due (parts.FactAt k)) (λ d. read_ok (due_after e.0 d)) new e.2 in
      to_owed (due_after e.0 d.0) new (record { certs = part_put_good e.0.due (parts.FactAt k) d.0 g.certs (and_from (by_places v) (ltb k (2 ^ 32)) of said) d.1; rows_of_sums = g.rows_of_sums }) d.2
  after_cert_line_good o certlines.Metric new h of said same =
      let e = bind_ok (with_sums_ended o o.sums) (λ e. cond (takes_metric e.due) (read_ok (sums_after e sums.Begun)) (Err Malformed)) new same in
      let g = ended_good o o.sums e.0 h h.rows_of_sums e.1 in
      let p = passed (takes_metric e.0.due) (read_ok (sums_after e.0 sums.Begun)) new e.2 in
      to_owed (sums_after e.0 sums.Begun) new (record { certs = g.certs; rows_of_sums = refl }) p.1
  after_cert_line_good o (certlines.Transfer title raws) new h of said same =
      let e = bind_ok (with_sums_ended o o.sums) (λ e. transfer_begun e.names e.due title raws >>= λ d. read_ok (due_after e d)) new same in
      let g = ended_good o o.sums e.0 h h.rows_of_sums e.1 in
      let d = bind_ok (transfer_begun e.0.names e.0.due title raws) (λ d. read_ok (due_after e.0 d)) new e.2 in
      to_owed (due_after e.0 d.0) new (record { certs = transfer_begun_good e.0.names e.0.due title raws d.0 g.certs d.1; rows_of_sums = g.rows_of_sums }) d.2
  after_cert_line_good o (certlines.Clash raw) new h of said same =
      let e = bind_ok (with_sums_ended o o.sums) (λ e. lit_in e.names raw >>= λ l. clash_put e.due l >>= λ d. read_ok (due_after e d)) new same in
      let g = ended_good o o.sums e.0 h h.rows_of_sums e.1 in
      let l = bind_ok (lit_in e.0.names raw) (λ l. clash_put e.0.due l >>= λ d. read_ok (due_after e.0 d)) new e.2 in
      let d = bind_ok (clash_put e.0.due l.0) (λ d. read_ok (due_after e.0 d)) new l.2 in
      to_owed (due_after e.0 d.0) new (record { certs = clash_put_good e.0.due l.0 d.0 d.1; rows_of_sums = g.rows_of_sums }) d.2
  after_cert_line_good o certlines.Sum new h of said same =
      let s = bind_ok (sum_begun o.sums) (λ s. read_ok (sums_after o s)) new same in
      to_owed (sums_after o s.0) new (record { certs = h.certs; rows_of_sums = sum_begun_good o.sums s.0 h.rows_of_sums s.1 }) s.2
  after_cert_line_good o (certlines.Differs raw) new h of said same =
      let r = bind_ok (row_in o.names raw) (λ r. differs_put o.sums r >>= λ s. read_ok (sums_after o s)) new same in
      let s = bind_ok (differs_put o.sums r.0) (λ s. read_ok (sums_after o s)) new r.2 in
      to_owed (sums_after o s.0) new (record { certs = h.certs; rows_of_sums = differs_put_good o.sums r.0 s.0 (version_row v o.names raw r.0 of said r.1) s.1 }) s.2
  after_cert_line_good o (certlines.Row m raw) new h of said same =
      let r = bind_ok (row_in o.names raw) (λ r. row_put o.sums m r >>= λ s. read_ok (sums_after o s)) new same in
      let s = bind_ok (row_put o.sums m r.0) (λ s. read_ok (sums_after o s)) new r.2 in
      to_owed (sums_after o s.0) new (record { certs = h.certs; rows_of_sums = row_put_good o.sums m r.0 s.0 h.rows_of_sums (version_row v o.names raw r.0 of said r.1) s.1 }) s.2

  pub strict_good : (o : Pending) (line : List ℕ) (ws : List (List ℕ)) (m : CertLine) (new : Pending) → GoodOwed o → cert_line_is_of v m ≡ true → canonical_cert_line line ws ≡ Ok m → after_cert_line o m ≡ Ok new → GoodOwed new
  strict_good o line ws m new h of e same = after_cert_line_good o m new h of (strict_said line ws m e) same

  to_kept : (x k : Option StepCerts) → AreOfVersion v (option_to_list x) → read_ok x ≡ Ok k → AreOfVersion v (option_to_list k)
  to_kept x k h e = subst (λ (y : Option StepCerts). AreOfVersion v (option_to_list y)) (ok_is x k e) h

  kept_good : (d : Obligation) (k : Option StepCerts) → GoodDue d → kept_of d ≡ Ok k → AreOfVersion v (option_to_list k)
  kept_good due.Nothing k h e = to_kept None k refl e
  kept_good (due.Literals wanted certs None) k h e = by (has_more wanted certs) e
    where
      by : (b : Bool) → cond b (Err Malformed) (read_ok (Some (kept.Certs certs))) ≡ Ok k → AreOfVersion v (option_to_list k)
      by true x = absurd cc
      by false x = to_kept (Some (kept.Certs certs)) k (and_from _ _ h refl) x
  kept_good (due.Literals wanted certs (Some t)) k h e = absurd cc
  kept_good (due.Contradiction None) k h e = absurd cc
  kept_good (due.Contradiction (Some a)) k h e = to_kept (Some (kept.Against a)) k (and_from _ _ h refl) e

  pub settled_good : (o : Pending) (k : Option StepCerts) → GoodOwed o → finish_certs o ≡ Ok k → AreOfVersion v (option_to_list k)
  unfolding finish_certs
  settled_good o k h same =
      let e = bind_ok (with_sums_ended o o.sums) (λ e. kept_of e.due) k same in
      kept_good e.0.due k (ended_good o o.sums e.0 h h.rows_of_sums e.1).certs e.2
