-- The certificates that a line owes, while their lines come.
use Rattle.std.specs.Prelude.{ℕ, ℤ, ◌+◌, Bool, true, false, ◌==◌, nat_lt, List, [], ◌∷◌, ◌++◌}
use Rattle.std.specs.Prelude.{length, slice_get, Option, Some, None, Result, Ok, Err, if◌then◌else◌}
use Rattle.e_literal.specs.declared.literal.Lit.{Lit}
use Rattle.e_literal.specs.declared.object.Obj.{Obj}
use Rattle.e_literal.specs.Facts.{others}
use Rattle.e_clause.specs.declared.cert.RowName.{RowName}
use Rattle.e_clause.specs.declared.cert.Sums.{Sums}
use Rattle.e_clause.specs.declared.cert.Sums.TheVariants.{One, Two}
use Rattle.e_clause.specs.declared.cert.MetricCert.{MetricCert}
use Rattle.e_clause.specs.declared.cert.Part.{Part}
use Rattle.e_clause.specs.declared.cert.Part.TheVariants as parts
use Rattle.e_clause.specs.declared.cert.Cert.{Cert}
use Rattle.e_clause.specs.declared.cert.Cert.TheVariants.{Plain, Transfer}
use Rattle.e_clause.specs.declared.cert.Against.TheVariants as against
use Rattle.e_clause.specs.Instance.{Inst, number_of_rule}
use Rattle.e_clause.specs.Sigs.{sig_of}
use Rattle.e_deriv.specs.declared.names.Names.{Names}
use Rattle.e_line.specs.declared.fault.FaultKind.{FaultKind}
use Rattle.e_line.specs.declared.fault.FaultKind.TheVariants.{Malformed}
use Rattle.e_line.specs.Reading.{◌>>=◌, or_malformed}
use Rattle.e_names.specs.Scope.{lit_in, args_in, variables_of, right_count}
use Rattle.e_cert.specs.Rows.{most_rows, row_in, transfer_rule}
use Rattle.e_cert.specs.declared.cert_line.CertLine.{CertLine}
use Rattle.e_cert.specs.declared.cert_line.CertLine.TheVariants as certlines
use Rattle.e_cert.specs.declared.owed.OpenSums.{OpenSums}
use Rattle.e_cert.specs.declared.owed.OpenSums.TheVariants as sums
use Rattle.e_cert.specs.declared.owed.OpenTransfer.{OpenTransfer}
use Rattle.e_cert.specs.declared.owed.Obligation.{Obligation}
use Rattle.e_cert.specs.declared.owed.Obligation.TheVariants as due
use Rattle.e_cert.specs.declared.owed.Pending.{Pending}
use Rattle.e_cert.specs.declared.kept.StepCerts.{StepCerts}
use Rattle.e_cert.specs.declared.kept.StepCerts.TheVariants as kept

-- ---- sums

-- one more row
abbrev pub with_row : List (ℤ × RowName) → ℤ → RowName → Result (List (ℤ × RowName)) FaultKind
with_row sum m r = if nat_lt (length sum) most_rows then Ok (sum ++ (m, r) ∷ []) else Err Malformed

-- a row comes where a sum is begun
abbrev pub row_put : Option OpenSums → ℤ → RowName → Result OpenSums FaultKind
row_put (Some (sums.One sum)) m r = with_row sum m r >>= λ new. Ok (sums.One new)
row_put (Some (sums.Above differs sum)) m r =
    with_row sum m r >>= λ new. Ok (sums.Above differs new)
row_put (Some (sums.Below differs above sum)) m r =
    with_row sum m r >>= λ new. Ok (sums.Below differs above new)
row_put _ m r = Err Malformed

-- a sum is begun after the head of a metric certificate, after the row that differs, and after the
-- first of two sums, which has a row
abbrev pub sum_begun : Option OpenSums → Result OpenSums FaultKind
sum_begun (Some sums.Begun) = Ok (sums.One [])
sum_begun (Some (sums.Differs differs)) = Ok (sums.Above differs [])
sum_begun (Some (sums.Above differs sum)) =
    if nat_lt 0 (length sum) then Ok (sums.Below differs sum []) else Err Malformed
sum_begun _ = Err Malformed

-- a row that differs comes right after the head
abbrev pub differs_put : Option OpenSums → RowName → Result OpenSums FaultKind
differs_put (Some sums.Begun) differs = Ok (sums.Differs differs)
differs_put _ differs = Err Malformed

-- the sums of a metric certificate that ends here: one sum, or both
abbrev pub sums_ended : OpenSums → Result Sums FaultKind
sums_ended (sums.One sum) = if nat_lt 0 (length sum) then Ok (One sum) else Err Malformed
sums_ended (sums.Below differs above sum) =
    if nat_lt 0 (length sum) then Ok (Two differs above sum) else Err Malformed
sums_ended _ = Err Malformed

-- ---- certificates

-- one of the literals has no certificate yet
abbrev pub has_more : List Lit → List Cert → Bool
has_more wanted certs = nat_lt (length certs) (length wanted)

abbrev pub certificate : OpenTransfer → Cert
certificate t = Transfer (record { rule = t.rule; args = t.args; parts = t.parts })

-- a transfer that has all its parts is a certificate
abbrev pub transfer_put : List Lit → List Cert → OpenTransfer → Result Obligation FaultKind
transfer_put wanted certs t =
    if length t.parts == t.owed
    then Ok (due.Literals wanted (certs ++ certificate t ∷ []) None)
    else Ok (due.Literals wanted certs (Some t))

-- what needs no rule certifies a part of the transfer that is begun, and else the next literal
abbrev pub part_put : Obligation → Part → Result Obligation FaultKind
part_put (due.Literals wanted certs None) p =
    if has_more wanted certs then Ok (due.Literals wanted (certs ++ Plain p ∷ []) None) else
    Err Malformed
part_put (due.Literals wanted certs (Some t)) p =
    transfer_put wanted certs (record t { parts = t.parts ++ p ∷ [] })
part_put _ p = Err Malformed

-- a metric certificate may be of a contradiction too
abbrev pub metric_put : Obligation → MetricCert → Result Obligation FaultKind
metric_put (due.Contradiction None) m = Ok (due.Contradiction (Some (against.Metric m)))
metric_put d m = part_put d (parts.Metric m)

abbrev pub takes_metric : Obligation → Bool
takes_metric (due.Literals wanted certs None) = has_more wanted certs
takes_metric (due.Literals wanted certs (Some t)) = true
takes_metric (due.Contradiction None) = true
takes_metric d = false

abbrev pub clash_put : Obligation → Lit → Result Obligation FaultKind
clash_put (due.Contradiction None) l = Ok (due.Contradiction (Some (against.Clash l)))
clash_put d l = Err Malformed

-- how many places of a list have another literal than the wanted one
abbrev pub count_others : Lit → List Lit → ℕ
count_others wanted lits = length (others lits wanted)

-- a transfer of which no part has come. It owes a part for each place of its instance that has not
-- the wanted literal
unfoldable pub transfer_at : Lit → ℕ → List Obj → Result OpenTransfer FaultKind
transfer_at wanted r args =
    or_malformed (Inst r args)
    >>= λ lits. Ok (record { rule = r; args = args; parts = []; owed = count_others wanted lits })

-- a rule with an object for each of its variables
unfoldable pub open_transfer_in : Names → Lit → List ℕ → List (List ℕ)
    → Result OpenTransfer FaultKind
open_transfer_in ns wanted title raws = do
  r ← transfer_rule (number_of_rule title)
  s ← variables_of (sig_of r)
  right ← right_count (length raws == s.points + s.lines + s.circles)
  args ← args_in ns s raws
  transfer_at wanted r args

-- a transfer is begun for the next literal, and is no part of another one
abbrev pub transfer_begun : Names → Obligation → List ℕ → List (List ℕ)
    → Result Obligation FaultKind
transfer_begun ns (due.Literals wanted certs None) title raws =
    or_malformed (slice_get wanted (length certs)) >>= λ l. open_transfer_in ns l title raws
    >>= λ t. transfer_put wanted certs t
transfer_begun ns d title raws = Err Malformed

-- ---- lines

-- a line that is no row and no sum ends the sums before it
abbrev pub with_sums_ended : Pending → Option OpenSums → Result Pending FaultKind
with_sums_ended o None = Ok o
with_sums_ended o (Some s) =
    sums_ended s >>= λ all. metric_put o.due (record { sums = all })
    >>= λ d. Ok (record o { due = d; sums = None })

abbrev pub sums_after : Pending → OpenSums → Pending
sums_after o s = record o { sums = Some s }

abbrev pub due_after : Pending → Obligation → Pending
due_after o d = record o { due = d }

-- what is owed after a line of a certificate
unfoldable pub after_cert_line : Pending → CertLine → Result Pending FaultKind
after_cert_line o certlines.Fact =
    with_sums_ended o o.sums >>= λ e. part_put e.due parts.Fact >>= λ d. Ok (due_after e d)
after_cert_line o (certlines.FactAt k) =
    with_sums_ended o o.sums >>= λ e. part_put e.due (parts.FactAt k) >>= λ d. Ok (due_after e d)
after_cert_line o certlines.Metric =
    with_sums_ended o o.sums
    >>= λ e. if takes_metric e.due then Ok (sums_after e sums.Begun) else Err Malformed
after_cert_line o (certlines.Transfer title raws) =
    with_sums_ended o o.sums >>= λ e. transfer_begun e.names e.due title raws
    >>= λ d. Ok (due_after e d)
after_cert_line o (certlines.Clash raw) =
    with_sums_ended o o.sums >>= λ e. lit_in e.names raw >>= λ l. clash_put e.due l
    >>= λ d. Ok (due_after e d)
after_cert_line o certlines.Sum = sum_begun o.sums >>= λ s. Ok (sums_after o s)
after_cert_line o (certlines.Differs raw) =
    row_in o.names raw >>= λ r. differs_put o.sums r >>= λ s. Ok (sums_after o s)
after_cert_line o (certlines.Row m raw) =
    row_in o.names raw >>= λ r. row_put o.sums m r >>= λ s. Ok (sums_after o s)

-- what was read for a line, where nothing is owed any more; a line without certificates has nothing
abbrev pub kept_of : Obligation → Result (Option StepCerts) FaultKind
kept_of due.Nothing = Ok None
kept_of (due.Literals wanted certs None) =
    if has_more wanted certs then Err Malformed else Ok (Some (kept.Certs certs))
kept_of (due.Literals wanted certs (Some t)) = Err Malformed
kept_of (due.Contradiction None) = Err Malformed
kept_of (due.Contradiction (Some a)) = Ok (Some (kept.Against a))

unfoldable pub finish_certs : Pending → Result (Option StepCerts) FaultKind
finish_certs o = with_sums_ended o o.sums >>= λ e. kept_of e.due
