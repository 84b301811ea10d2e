-- The certificates that lines of a text put have the form of what they are owed for.
use Rattle.std.proofs.Common.{◌≡◌, ℕ, zero, suc, ℤ, ◌≤◌, ◌<◌, Bool, true, false, cond, ltb, leb, eqb, ◌&&◌, List, [], ◌∷◌, ◌++◌, length, Option, Some, None, Ok, Err, refl, sym, ap, subst, ◌∙◌, arith, length-append}
use Rattle.std.specs.Prelude.{slice_get}
use Rattle.std.specs.Option.{option_map_or}
use Rattle.std.specs.List.{list_all}
use Rattle.std.proofs.lemmas.Bool.{and_parts, and_from, ltb-true, ltb-false, le-leb, eqb-true, eq-eqb}
use Rattle.e_literal.specs.declared.object.Scope.{Scope}
use Rattle.e_literal.specs.declared.literal.Lit.{Lit}
use Rattle.e_literal.specs.Literal.{is_in_scope}
use Rattle.e_literal.specs.Facts.{others}
use Rattle.e_literal.proofs.Booleans.{all_both}
use Rattle.e_clause.specs.declared.cert.RowName.{RowName}
use Rattle.e_clause.specs.declared.cert.RowName.TheVariants as names
use Rattle.e_clause.specs.declared.cert.Sums.{Sums}
use Rattle.e_clause.specs.declared.cert.Sums.TheVariants.{One, Two}
use Rattle.e_clause.specs.declared.cert.MetricCert.{MetricCert}
use Rattle.e_clause.specs.declared.cert.Part.{Part}
use Rattle.e_clause.specs.declared.cert.Part.TheVariants as parts
use Rattle.e_clause.specs.declared.cert.Cert.{Cert}
use Rattle.e_clause.specs.declared.cert.Cert.TheVariants.{Plain}
use Rattle.e_clause.specs.declared.cert.Against.TheVariants as against
use Rattle.e_clause.specs.Instance.{Inst}
use Rattle.e_clause.specs.RuleKinds.{is_transfer}
use Rattle.e_clause.specs.Sum.{is_nonzero_bounded, is_limited_sum}
use Rattle.e_clause.specs.MetricCertificate.{row_name_in, sum_in}
use Rattle.e_clause.specs.Written.{is_writable_name, is_writable_sum}
use Rattle.e_deriv.specs.declared.names.Names.{Names}
use Rattle.e_line.specs.declared.fault.FaultKind.TheVariants.{Malformed}
use Rattle.e_line.specs.Reading.{◌>>=◌}
use Rattle.e_line.specs.LineLimits.{check_literal_limits}
use Rattle.e_names.specs.Scope.{scope_of_names, lit_in, term_in}
use Rattle.e_line.proofs.base.Bound.{bind_ok, ok_is, read_ok}
use Rattle.e_names.proofs.read_lines.InScope.{term_in_scope, lit_in_scope}
use Rattle.e_line.proofs.base.Choices.{passed}
use Rattle.e_cert.specs.declared.cert_line.RawRow.{RawRow}
use Rattle.e_cert.specs.declared.cert_line.RawRow.TheVariants as rows
use Rattle.e_cert.specs.declared.owed.OpenSums.{OpenSums}
use Rattle.e_cert.specs.declared.owed.OpenSums.TheVariants as sums
use Rattle.e_cert.specs.declared.owed.OpenTransfer.{OpenTransfer}
use Rattle.e_cert.specs.declared.owed.Obligation.{Obligation}
use Rattle.e_cert.specs.declared.owed.Obligation.TheVariants as due
use Rattle.e_cert.specs.declared.kept.StepCerts.{StepCerts}
use Rattle.e_cert.specs.declared.kept.StepCerts.TheVariants as kept
use Rattle.e_cert.specs.CertLines.{may_differ}
use Rattle.e_cert.specs.Owed.{with_row, row_put, sum_begun, differs_put, sums_ended, has_more, certificate, transfer_put, part_put, metric_put, kept_of}
use Rattle.e_cert.specs.Rows.{most_rows, fact_in, row_in}
use Rattle.e_cert.proofs.FormsOfCertLines.{RowSaid, good_row}
use Rattle.e_roundtrip.specs.Formed.{sum_formed, names_difference, difference_formed, sums_formed, part_formed, has_parts, cert_formed, certs_formed, against_formed}
use Rattle.e_roundtrip.proofs.Formed.CertifiedFormed.{on_found}

-- ---- rows

abbrev InScope : Scope → RowName → Type 0
InScope s r = row_name_in s r ≡ true

row_in_scope : (ns : Names) (raw : RawRow) (r : RowName) → row_in ns raw ≡ Ok r → InScope (scope_of_names ns) r
unfolding row_in
row_in_scope ns (rows.Fact raw) r e =
    let l = bind_ok (fact_in ns raw) (λ l. read_ok (names.Fact l)) r e in
    let x = bind_ok (lit_in ns raw) (λ x. check_literal_limits (raw ∷ []) >>= λ few. read_ok x) l.0 l.1 in
    let f = bind_ok (check_literal_limits (raw ∷ [])) (λ few. read_ok x.0) l.0 x.2 in
    let is : names.Fact x.0 ≡ r = ap (λ (y : Lit). names.Fact y) (ok_is x.0 l.0 f.2) ∙ ok_is (names.Fact l.0) r l.2 in
    subst (InScope (scope_of_names ns)) is (lit_in_scope ns raw x.0 x.1)
row_in_scope ns rows.Goal r e = subst (InScope (scope_of_names ns)) (ok_is names.Goal r e) refl
row_in_scope ns (rows.Pos raw) r e =
    let t = bind_ok (term_in ns raw) (λ t. read_ok (names.Pos t)) r e in
    subst (InScope (scope_of_names ns)) (ok_is (names.Pos t.0) r t.2) (term_in_scope ns raw t.0 t.1)
row_in_scope ns (rows.Top raw) r e =
    let t = bind_ok (term_in ns raw) (λ t. read_ok (names.Top t)) r e in
    subst (InScope (scope_of_names ns)) (ok_is (names.Top t.0) r t.2) (term_in_scope ns raw t.0 t.1)
row_in_scope ns rows.Right r e = subst (InScope (scope_of_names ns)) (ok_is names.Right r e) refl
row_in_scope ns (rows.Least raw) r e =
    let t = bind_ok (term_in ns raw) (λ t. read_ok (names.Least t)) r e in
    subst (InScope (scope_of_names ns)) (ok_is (names.Least t.0) r t.2) (term_in_scope ns raw t.0 t.1)
row_in_scope ns rows.Above r e = subst (InScope (scope_of_names ns)) (ok_is names.Above r e) refl
row_in_scope ns rows.Below r e = subst (InScope (scope_of_names ns)) (ok_is names.Below r e) refl
row_in_scope ns (rows.FactAt k) r e = subst (InScope (scope_of_names ns)) (ok_is (names.FactAt k) r e) refl

-- a row of a line, with its names and its limits
pub record RowFormed (s : Scope) (m : ℤ) (r : RowName) : Type 0 where
  pub size : is_nonzero_bounded m ≡ true
  pub within : row_name_in s r ≡ true
  pub good : is_writable_name r ≡ true

pub row_formed : (ns : Names) (m : ℤ) (raw : RawRow) (r : RowName) → is_nonzero_bounded m ≡ true → RowSaid raw → row_in ns raw ≡ Ok r → RowFormed (scope_of_names ns) m r
row_formed ns m raw r size said e = record { size = size; within = row_in_scope ns raw r e; good = good_row ns raw r said e }

difference_read : (ns : Names) (raw : RawRow) (r : RowName) → may_differ raw ≡ true → row_in ns raw ≡ Ok r → names_difference r ≡ true
unfolding row_in
difference_read ns (rows.Fact raw) r m e =
    let l = bind_ok (fact_in ns raw) (λ l. read_ok (names.Fact l)) r e in
    subst (λ (x : RowName). names_difference x ≡ true) (ok_is (names.Fact l.0) r l.2) refl
difference_read ns rows.Goal r m e = subst (λ (x : RowName). names_difference x ≡ true) (ok_is names.Goal r e) refl
difference_read ns (rows.FactAt k) r m e = subst (λ (x : RowName). names_difference x ≡ true) (ok_is (names.FactAt k) r e) refl
difference_read ns raw r m e = absurd cc

pub difference_put : (ns : Names) (raw : RawRow) (r : RowName) → may_differ raw ≡ true → RowSaid raw → row_in ns raw ≡ Ok r → difference_formed (scope_of_names ns) r ≡ true
difference_put ns raw r m said e =
    and_from (names_difference r) (row_name_in (scope_of_names ns) r && is_writable_name r) (difference_read ns raw r m e)
    (and_from (row_name_in (scope_of_names ns) r) (is_writable_name r) (row_in_scope ns raw r e) (good_row ns raw r said e))

-- ---- sums that are open

-- these rows, of which more may come
pub record RowsFormed (s : Scope) (xs : List (ℤ × RowName)) : Type 0 where
  pub few : length xs ≤ 4096
  pub sizes : list_all (λ (x : ℤ × RowName). is_nonzero_bounded x.0) xs ≡ true
  pub within : sum_in s xs ≡ true
  pub good : is_writable_sum xs ≡ true

no_rows : (s : Scope) → RowsFormed s []
no_rows s = record { few = omega arith; sizes = refl; within = refl; good = refl }

whole_sum : (s : Scope) (xs : List (ℤ × RowName)) → 0 < length xs → RowsFormed s xs → sum_formed s xs ≡ true
whole_sum s xs some r =
    let all = list_all (λ (x : ℤ × RowName). is_nonzero_bounded x.0) xs in
    let size : is_limited_sum xs ≡ true = and_from (leb 1 (length xs)) (leb (length xs) 4096 && all) (le-leb _ _ (omega (arith, some))) (and_from (leb (length xs) 4096) all (le-leb _ _ r.few) r.sizes) in
    and_from (is_limited_sum xs) (sum_in s xs && is_writable_sum xs) size (and_from (sum_in s xs) (is_writable_sum xs) r.within r.good)

abbrev pub OpenFormed : Scope → Option OpenSums → Type 0
OpenFormed s None = Unit {0}
OpenFormed s (Some sums.Begun) = Unit {0}
OpenFormed s (Some (sums.One sum)) = RowsFormed s sum
OpenFormed s (Some (sums.Differs differs)) = difference_formed s differs ≡ true
OpenFormed s (Some (sums.Above differs sum)) = (difference_formed s differs ≡ true) × RowsFormed s sum
OpenFormed s (Some (sums.Below differs above sum)) = (difference_formed s differs ≡ true) × (sum_formed s above ≡ true) × RowsFormed s sum

to_open : (s : Scope) (x y : OpenSums) → OpenFormed s (Some x) → read_ok x ≡ Ok y → OpenFormed s (Some y)
to_open s x y h e = subst (λ (z : OpenSums). OpenFormed s (Some z)) (ok_is x y e) h

with_row_formed : (s : Scope) (sum new : List (ℤ × RowName)) (m : ℤ) (r : RowName) → RowsFormed s sum → RowFormed s m r → with_row sum m r ≡ Ok new → RowsFormed s new
with_row_formed s sum new m r h k e =
    let p = passed (ltb (length sum) most_rows) (read_ok (sum ++ (m, r) ∷ [])) new e in
    let lt = ltb-true (length sum) most_rows p.0 in
    subst (RowsFormed s) (ok_is (sum ++ (m, r) ∷ []) new p.1) (record {
      few = omega (arith, lt, length-append sum ((m, r) ∷ []));
      sizes = all_both (λ (x : ℤ × RowName). is_nonzero_bounded x.0) sum ((m, r) ∷ []) h.sizes (and_from _ _ k.size refl);
      within = all_both (λ (x : ℤ × RowName). row_name_in s x.1) sum ((m, r) ∷ []) h.within (and_from _ _ k.within refl);
      good = all_both (λ (x : ℤ × RowName). is_writable_name x.1) sum ((m, r) ∷ []) h.good (and_from _ _ k.good refl);
    })

pub row_put_formed : (s : Scope) (o : Option OpenSums) (m : ℤ) (r : RowName) (new : OpenSums) → OpenFormed s o → RowFormed s m r → row_put o m r ≡ Ok new → OpenFormed s (Some new)
row_put_formed s (Some (sums.One sum)) m r new h k e =
    let x = bind_ok (with_row sum m r) (λ x. read_ok (sums.One x)) new e in
    to_open s (sums.One x.0) new (with_row_formed s sum x.0 m r h k x.1) x.2
row_put_formed s (Some (sums.Above differs sum)) m r new h k e =
    let x = bind_ok (with_row sum m r) (λ x. read_ok (sums.Above differs x)) new e in
    to_open s (sums.Above differs x.0) new (h.0, with_row_formed s sum x.0 m r h.1 k x.1) x.2
row_put_formed s (Some (sums.Below differs above sum)) m r new h k e =
    let x = bind_ok (with_row sum m r) (λ x. read_ok (sums.Below differs above x)) new e in
    to_open s (sums.Below differs above x.0) new (h.0, h.1, with_row_formed s sum x.0 m r h.2 k x.1) x.2
row_put_formed s o m r new h k e = absurd cc

pub sum_begun_formed : (s : Scope) (o : Option OpenSums) (new : OpenSums) → OpenFormed s o → sum_begun o ≡ Ok new → OpenFormed s (Some new)
sum_begun_formed s (Some sums.Begun) new h e = to_open s (sums.One []) new (no_rows s) e
sum_begun_formed s (Some (sums.Differs differs)) new h e = to_open s (sums.Above differs []) new (h, no_rows s) e
sum_begun_formed s (Some (sums.Above differs sum)) new h e =
    let x = passed (ltb 0 (length sum)) (read_ok (sums.Below differs sum [])) new e in
    to_open s (sums.Below differs sum []) new (h.0, whole_sum s sum (ltb-true 0 (length sum) x.0) h.1, no_rows s) x.1
sum_begun_formed s o new h e = absurd cc

pub differs_put_formed : (s : Scope) (o : Option OpenSums) (r : RowName) (new : OpenSums) → difference_formed s r ≡ true → differs_put o r ≡ Ok new → OpenFormed s (Some new)
differs_put_formed s (Some sums.Begun) r new k e = to_open s (sums.Differs r) new k e
differs_put_formed s o r new k e = absurd cc

pub sums_ended_formed : (s : Scope) (o : OpenSums) (all : Sums) → OpenFormed s (Some o) → sums_ended o ≡ Ok all → sums_formed s all ≡ true
sums_ended_formed s (sums.One sum) all h e =
    let x = passed (ltb 0 (length sum)) (read_ok (One sum)) all e in
    subst (λ (y : Sums). sums_formed s y ≡ true) (ok_is (One sum) all x.1) (whole_sum s sum (ltb-true 0 (length sum) x.0) h)
sums_ended_formed s (sums.Below differs above sum) all h e =
    let x = passed (ltb 0 (length sum)) (read_ok (Two differs above sum)) all e in
    subst (λ (y : Sums). sums_formed s y ≡ true) (ok_is (Two differs above sum) all x.1)
    (and_from (difference_formed s differs) (sum_formed s above && sum_formed s sum) h.0 (and_from (sum_formed s above) (sum_formed s sum) h.1 (whole_sum s sum (ltb-true 0 (length sum) x.0) h.2)))
sums_ended_formed s o all h e = absurd cc

-- ---- certificates, of which more may come

-- they are for the first of the literals
abbrev pub front_formed : Scope → List Lit → List Cert → Bool
front_formed s wanted [] = true
front_formed s [] (c ∷ cs) = false
front_formed s (l ∷ ls) (c ∷ cs) = cert_formed s l c && front_formed s ls cs

front_more : (s : Scope) (wanted : List Lit) (cs : List Cert) (l : Lit) (c : Cert) → front_formed s wanted cs ≡ true → slice_get wanted (length cs) ≡ Some l → cert_formed s l c ≡ true → front_formed s wanted (cs ++ c ∷ []) ≡ true
front_more s [] [] l c h at k = absurd cc
front_more s (x ∷ ls) [] l c h at k =
    let is : x ≡ l = same_lit x l at in
    and_from (cert_formed s x c) true (subst (λ (y : Lit). cert_formed s y c ≡ true) (sym is) k) refl
  where
    same_lit : (x l : Lit) → let some : Option Lit = Some x in some ≡ Some l → x ≡ l
    same_lit x l e = cc
front_more s [] (d ∷ cs) l c h at k = absurd cc
front_more s (x ∷ ls) (d ∷ cs) l c h at k =
    let p = and_parts (cert_formed s x d) (front_formed s ls cs) h in
    and_from (cert_formed s x d) (front_formed s ls (cs ++ c ∷ [])) p.0 (front_more s ls cs l c p.1 at k)

-- as many as there are literals
front_all : (s : Scope) (wanted : List Lit) (cs : List Cert) → front_formed s wanted cs ≡ true → length wanted ≤ length cs → certs_formed s wanted cs ≡ true
front_all s [] [] h le = refl
front_all s (l ∷ ls) [] h le = absurd (omega (arith, le))
front_all s [] (c ∷ cs) h le = absurd cc
front_all s (l ∷ ls) (c ∷ cs) h le =
    let p = and_parts (cert_formed s l c) (front_formed s ls cs) h in
    and_from (cert_formed s l c) (certs_formed s ls cs) p.0 (front_all s ls cs p.1 (omega (arith, le)))

-- the next literal, where there is one
next_lit : (wanted : List Lit) (n : ℕ) → n < length wanted → (l : Lit) × (slice_get wanted n ≡ Some l)
next_lit [] n lt = absurd (omega (arith, lt))
next_lit (l ∷ ls) zero lt = (l, refl)
next_lit (l ∷ ls) (suc n) lt = next_lit ls n (omega (arith, lt))

-- a transfer for the next literal, of which parts may come
pub record TransferFormed (s : Scope) (l : Lit) (t : OpenTransfer) : Type 0 where
  pub rule : is_transfer t.rule ≡ true
  pub lits : List Lit
  pub instance : Inst t.rule t.args ≡ Some lits
  pub owed : t.owed ≡ length (others lits l)
  pub args : list_all (is_in_scope s) t.args ≡ true
  pub parts : list_all (part_formed s) t.parts ≡ true

abbrev pub NextTransfer : Scope → List Lit → List Cert → OpenTransfer → Type 0
NextTransfer s wanted cs t = (l : Lit) × (slice_get wanted (length cs) ≡ Some l) × TransferFormed s l t

abbrev pub DueFormed : Scope → Obligation → Type 0
DueFormed s due.Nothing = Unit {0}
DueFormed s (due.Literals wanted cs None) = front_formed s wanted cs ≡ true
DueFormed s (due.Literals wanted cs (Some t)) = (front_formed s wanted cs ≡ true) × NextTransfer s wanted cs t
DueFormed s (due.Contradiction None) = Unit {0}
DueFormed s (due.Contradiction (Some a)) = against_formed s a ≡ true

to_due : (s : Scope) (x d : Obligation) → DueFormed s x → read_ok x ≡ Ok d → DueFormed s d
to_due s x d h e = subst (DueFormed s) (ok_is x d e) h

-- a transfer that has all its parts
transfer_whole : (s : Scope) (l : Lit) (t : OpenTransfer) → TransferFormed s l t → length t.parts ≡ t.owed → cert_formed s l (certificate t) ≡ true
transfer_whole s l t h count =
    let instance = option_map_or (has_parts l t.parts) (Inst t.rule t.args) false in
    and_from (is_transfer t.rule) (instance && (list_all (is_in_scope s) t.args && list_all (part_formed s) t.parts)) h.rule
    (and_from instance (list_all (is_in_scope s) t.args && list_all (part_formed s) t.parts)
    (on_found (has_parts l t.parts) (Inst t.rule t.args) h.lits h.instance (eq-eqb (length t.parts) (length (others h.lits l)) (count ∙ h.owed)))
    (and_from (list_all (is_in_scope s) t.args) (list_all (part_formed s) t.parts) h.args h.parts))

pub transfer_put_formed : (s : Scope) (wanted : List Lit) (cs : List Cert) (t : OpenTransfer) (new : Obligation) → front_formed s wanted cs ≡ true → NextTransfer s wanted cs t → transfer_put wanted cs t ≡ Ok new → DueFormed s new
transfer_put_formed s wanted cs t new h k e = by_count (eqb (length t.parts) t.owed) refl e
  where
    by_count : (b : Bool) → eqb (length t.parts) t.owed ≡ b → cond b (read_ok (due.Literals wanted (cs ++ certificate t ∷ []) None)) (read_ok (due.Literals wanted cs (Some t))) ≡ Ok new → DueFormed s new
    by_count true is f =
        to_due s (due.Literals wanted (cs ++ certificate t ∷ []) None) new (front_more s wanted cs k.0 (certificate t) h k.1 (transfer_whole s k.0 t k.2 (eqb-true (length t.parts) t.owed is))) f
    by_count false is f = to_due s (due.Literals wanted cs (Some t)) new (h, k) f

part_more : (s : Scope) (l : Lit) (t : OpenTransfer) (p : Part) → TransferFormed s l t → part_formed s p ≡ true → TransferFormed s l (record t { parts = t.parts ++ p ∷ [] })
part_more s l t p h k = record {
  rule = h.rule;
  lits = h.lits;
  instance = h.instance;
  owed = h.owed;
  args = h.args;
  parts = all_both (part_formed s) t.parts (p ∷ []) h.parts (and_from _ _ k refl);
}

next_more : (s : Scope) (wanted : List Lit) (cs : List Cert) (t : OpenTransfer) (p : Part) → NextTransfer s wanted cs t → part_formed s p ≡ true → NextTransfer s wanted cs (record t { parts = t.parts ++ p ∷ [] })
next_more s wanted cs t p n k = (n.0, n.1, part_more s n.0 t p n.2 k)

second_of : {A B : Type 0} → A × B → B
second_of {A} {B} p = p.1

pub part_put_formed : (s : Scope) (d : Obligation) (p : Part) (new : Obligation) → DueFormed s d → part_formed s p ≡ true → part_put d p ≡ Ok new → DueFormed s new
part_put_formed s (due.Literals wanted cs None) p new h k e =
    let x = passed (has_more wanted cs) (read_ok (due.Literals wanted (cs ++ Plain p ∷ []) None)) new e in
    let l = next_lit wanted (length cs) (ltb-true (length cs) (length wanted) x.0) in
    to_due s (due.Literals wanted (cs ++ Plain p ∷ []) None) new (front_more s wanted cs l.0 (Plain p) h l.1 k) x.1
part_put_formed s (due.Literals wanted cs (Some t)) p new h k e =
    let next : NextTransfer s wanted cs t = second_of h in
    transfer_put_formed s wanted cs (record t { parts = t.parts ++ p ∷ [] }) new h.0 (next_more s wanted cs t p next k) e
part_put_formed s d p new h k e = absurd cc

pub metric_put_formed : (s : Scope) (d : Obligation) (m : MetricCert) (new : Obligation) → DueFormed s d → sums_formed s m.sums ≡ true → metric_put d m ≡ Ok new → DueFormed s new
metric_put_formed s (due.Contradiction None) m new h k e = to_due s (due.Contradiction (Some (against.Metric m))) new k e
metric_put_formed s (due.Contradiction (Some a)) m new h k e = part_put_formed s (due.Contradiction (Some a)) (parts.Metric m) new h k e
metric_put_formed s due.Nothing m new h k e = part_put_formed s due.Nothing (parts.Metric m) new h k e
metric_put_formed s (due.Literals wanted cs t) m new h k e = part_put_formed s (due.Literals wanted cs t) (parts.Metric m) new h k e

-- ---- what is kept

-- what is kept for a line that owes this, with these names in scope
abbrev pub KeptIsFormed : Scope → Obligation → Option StepCerts → Type 0
KeptIsFormed s due.Nothing None = Unit {0}
KeptIsFormed s (due.Literals wanted cs t) (Some (kept.Certs certs)) = certs_formed s wanted certs ≡ true
KeptIsFormed s (due.Contradiction a) (Some (kept.Against b)) = against_formed s b ≡ true
KeptIsFormed s d k = ⊥

to_kept : (s : Scope) (d : Obligation) (x k : Option StepCerts) → KeptIsFormed s d x → read_ok x ≡ Ok k → KeptIsFormed s d k
to_kept s d x k h e = subst (KeptIsFormed s d) (ok_is x k e) h

pub kept_formed : (s : Scope) (d : Obligation) (k : Option StepCerts) → DueFormed s d → kept_of d ≡ Ok k → KeptIsFormed s d k
kept_formed s due.Nothing k h e = to_kept s due.Nothing None k tt e
kept_formed s (due.Literals wanted cs None) k h e = by_more (has_more wanted cs) refl e
  where
    by_more : (b : Bool) → has_more wanted cs ≡ b → cond b (Err Malformed) (read_ok (Some (kept.Certs cs))) ≡ Ok k → KeptIsFormed s (due.Literals wanted cs None) k
    by_more true is f = absurd cc
    by_more false is f = to_kept s (due.Literals wanted cs None) (Some (kept.Certs cs)) k (front_all s wanted cs h (ltb-false (length cs) (length wanted) is)) f
kept_formed s (due.Literals wanted cs (Some t)) k h e = absurd cc
kept_formed s (due.Contradiction None) k h e = absurd cc
kept_formed s (due.Contradiction (Some a)) k h e = to_kept s (due.Contradiction (Some a)) (Some (kept.Against a)) k h e
