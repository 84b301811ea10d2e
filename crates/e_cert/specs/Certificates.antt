-- The certificates that lines say, one after another, and which lines are a front of them.
use Rattle.std.specs.Prelude.{ℕ, ℤ, ◌+◌, ◌==◌, nat_lt, List, [], ◌∷◌, ◌++◌, length, Option, Some}
use Rattle.std.specs.Prelude.{None, Result, Ok, Err, if◌then◌else◌}
use Rattle.e_literal.specs.declared.literal.Lit.{Lit}
use Rattle.e_literal.specs.declared.object.Obj.{Obj}
use Rattle.e_literal.specs.Facts.{others}
use Rattle.e_clause.specs.declared.cert.RowName.{RowName}
use Rattle.e_clause.specs.declared.cert.Sums.{Sums}
use Rattle.e_clause.specs.declared.cert.Sums.TheVariants.{One, Two}
use Rattle.e_clause.specs.declared.cert.Part.{Part}
use Rattle.e_clause.specs.declared.cert.Part.TheVariants as parts
use Rattle.e_clause.specs.declared.cert.Cert.{Cert}
use Rattle.e_clause.specs.declared.cert.Cert.TheVariants.{Plain, Transfer}
use Rattle.e_clause.specs.declared.cert.Against.{Against}
use Rattle.e_clause.specs.declared.cert.Against.TheVariants as against
use Rattle.e_clause.specs.Instance.{Inst, number_of_rule}
use Rattle.e_clause.specs.Sigs.{sig_of}
use Rattle.e_deriv.specs.declared.names.Names.{Names}
use Rattle.e_line.specs.declared.fault.FaultKind.{FaultKind}
use Rattle.e_line.specs.Reading.{◌>>=◌, or_malformed}
use Rattle.e_names.specs.Scope.{lit_in, args_in, variables_of, right_count}
use Rattle.e_cert.specs.declared.cert_line.CertLine.{CertLine}
use Rattle.e_cert.specs.declared.cert_line.CertLine.TheVariants as certlines
use Rattle.e_cert.specs.declared.kept.StepCerts.{StepCerts}
use Rattle.e_cert.specs.declared.kept.StepCerts.TheVariants as kept
use Rattle.e_cert.specs.Rows.{most_rows, row_in, transfer_rule}

-- more lines have to come, or the last is wrong
pub data Lack : Type 0 where
  More : Lack
  Wrong : Lack

-- what lines begin with, and the lines after it
abbrev pub Begins : Type 0 → Type 0
Begins A = Result (A × List CertLine) Lack

abbrev pub or_wrong : {A : Type 0} → Result A FaultKind → Result A Lack
or_wrong (Ok x) = Ok x
or_wrong (Err e) = Err Wrong

-- something has to begin here that no line begins
abbrev pub none_of : {A : Type 0} → List CertLine → Begins A
none_of [] = Err More
none_of (m ∷ ms) = Err Wrong

-- the rows of a sum, after those so far: at least one
abbrev pub rows_from : Names → List (ℤ × RowName) → List CertLine
    → Begins (List (ℤ × RowName))
rows_from ns sum (certlines.Row m raw ∷ ms) =
    or_wrong (row_in ns raw) >>= λ r. if nat_lt (length sum) most_rows
    then rows_from ns (sum ++ (m, r) ∷ []) ms else Err Wrong
rows_from ns [] ms = none_of ms
rows_from ns (r ∷ rs) ms = Ok (r ∷ rs, ms)

abbrev pub sum_from : Names → List CertLine → Begins (List (ℤ × RowName))
sum_from ns (certlines.Sum ∷ ms) = rows_from ns [] ms
sum_from ns ms = none_of ms

-- one sum, or the row that differs and two
abbrev pub sums_from : Names → List CertLine → Begins Sums
sums_from ns (certlines.Differs raw ∷ ms) =
    or_wrong (row_in ns raw) >>= λ differs. sum_from ns ms >>= λ above. sum_from ns above.1
    >>= λ below. Ok (Two differs above.0 below.0, below.1)
sums_from ns ms = sum_from ns ms >>= λ sum. Ok (One sum.0, sum.1)

-- what needs no rule
abbrev pub part_from : Names → List CertLine → Begins Part
part_from ns (certlines.Fact ∷ ms) = Ok (parts.Fact, ms)
part_from ns (certlines.FactAt k ∷ ms) = Ok (parts.FactAt k, ms)
part_from ns (certlines.Metric ∷ ms) =
    sums_from ns ms >>= λ all. Ok (parts.Metric (record { sums = all.0 }), all.1)
part_from ns ms = none_of ms

-- one after another, for each literal of a list
abbrev pub each_from : {A : Type 0} → (Lit → List CertLine → Begins A) → List Lit → List CertLine
    → Begins (List A)
each_from from [] ms = Ok ([], ms)
each_from from (l ∷ ls) ms =
    from l ms >>= λ x. each_from from ls x.1 >>= λ xs. Ok (x.0 ∷ xs.0, xs.1)

-- a transfer rule, an object for each of its variables, and the literals of the instance
unfoldable pub instance_in : Names → List ℕ → List (List ℕ)
    → Result (ℕ × List Obj × List Lit) FaultKind
instance_in ns title raws = do
  r ← transfer_rule (number_of_rule title)
  s ← variables_of (sig_of r)
  right ← right_count (length raws == s.points + s.lines + s.circles)
  args ← args_in ns s raws
  lits ← or_malformed (Inst r args)
  Ok (r, args, lits)

-- a certificate of a literal: a transfer has a part for each other literal of its instance
abbrev pub cert_from : Names → Lit → List CertLine → Begins Cert
cert_from ns wanted (certlines.Transfer title raws ∷ ms) =
    or_wrong (instance_in ns title raws)
    >>= λ i. each_from (λ l. part_from ns) (others i.2 wanted) ms
    >>= λ ps. Ok (Transfer (record { rule = i.0; args = i.1; parts = ps.0 }), ps.1)
cert_from ns wanted ms = part_from ns ms >>= λ p. Ok (Plain p.0, p.1)

abbrev pub against_from : Names → List CertLine → Begins Against
against_from ns (certlines.Clash raw ∷ ms) =
    or_wrong (lit_in ns raw) >>= λ l. Ok (against.Clash l, ms)
against_from ns (certlines.Metric ∷ ms) =
    sums_from ns ms >>= λ all. Ok (against.Metric (record { sums = all.0 }), all.1)
against_from ns ms = none_of ms

-- what a line owes: nothing, a certificate for each of these literals, or one of a contradiction
pub data Due : Type 0 where
  Nothing : Due
  Certificates : (wanted : List Lit) → Due
  OfContradiction : Due

abbrev pub due_from : Names → Due → List CertLine → Begins (Option StepCerts)
due_from ns Nothing ms = Ok (None, ms)
due_from ns (Certificates wanted) ms =
    each_from (cert_from ns) wanted ms >>= λ cs. Ok (Some (kept.Certs cs.0), cs.1)
due_from ns OfContradiction ms =
    against_from ns ms >>= λ a. Ok (Some (kept.Against a.0), a.1)

-- no line is left
abbrev pub if_none_left : {A : Type 0} → A → List CertLine → Result A Lack
if_none_left x [] = Ok x
if_none_left x (m ∷ ms) = Err Wrong

-- the lines below a line: all that it owes, or a front of it, or one is wrong
abbrev pub below : Names → Due → List CertLine → Result (Option StepCerts) Lack
below ns due ms = due_from ns due ms >>= λ x. if_none_left x.0 x.1

-- the first of a line's certificates
abbrev pub first_cert : List Cert → Option Cert
first_cert [] = None
first_cert (c ∷ cs) = Some c
