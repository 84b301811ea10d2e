-- Lines of certificates that are taken one after another, and what is owed after them.
use Rattle.std.proofs.Common.{◌≡◌, ◌^◌, ℕ, ◌+◌, ◌≤◌, ◌<◌, ℤ, Bool, true, false, cond, ltb, List, [], ◌∷◌, ◌++◌, length, map, Option, Some, None, Ok, Err, refl, sym, ap, subst, arith, append_assoc, length-append}
use Rattle.std.specs.Prelude.{codes}
use Rattle.std.specs.Fmt.{signed_decimal}
use Rattle.std.specs.List.{AllByRecursion}
use Rattle.std.proofs.lemmas.Bool.{lt-ltb}
use Rattle.std.proofs.lemmas.List.{append-nil}
use Rattle.e_clause.specs.declared.cert.RowName.{RowName}
use Rattle.e_clause.specs.declared.cert.Sums.{Sums}
use Rattle.e_clause.specs.declared.cert.Sums.TheVariants.{One, Two}
use Rattle.e_clause.specs.declared.cert.MetricCert.{MetricCert}
use Rattle.e_clause.specs.declared.cert.Part.{Part}
use Rattle.e_clause.specs.declared.cert.Part.TheVariants as parts
use Rattle.e_clause.specs.Sum.{is_nonzero_bounded}
use Rattle.e_deriv.specs.declared.names.Names.{Names}
use Rattle.e_line.specs.declared.fault.FaultKind.TheVariants.{Malformed}
use Rattle.e_line.specs.Reading.{◌>>=◌}
use Rattle.e_names.proofs.resolution.Lookups.{InOrder}
use Rattle.e_cert.specs.declared.cert_line.CertLine.{CertLine}
use Rattle.e_cert.specs.declared.cert_line.CertLine.TheVariants as certlines
use Rattle.e_cert.specs.declared.owed.OpenSums.{OpenSums}
use Rattle.e_cert.specs.declared.owed.OpenSums.TheVariants as sums
use Rattle.e_cert.specs.declared.owed.Obligation.{Obligation}
use Rattle.e_cert.specs.declared.owed.Obligation.TheVariants as due
use Rattle.e_cert.specs.declared.owed.Pending.{Pending}
use Rattle.e_cert.specs.CertLines.{may_differ, cert_line_words}
use Rattle.e_cert.specs.Owed.{with_row, row_put, sum_begun, sums_ended, part_put, metric_put, takes_metric, with_sums_ended, after_cert_line}
use Rattle.e_spell.specs.Certificates.{row_line, sum_lines, sums_lines, metric_lines, part_lines}
use Rattle.e_roundtrip.proofs.Certificates.CertLinesAgain.{CertLineNamed}
use Rattle.e_roundtrip.proofs.Certificates.RowsAgain.{raw_row, row_spelled, GoodName, row_in_again, row_named_again}

-- ---- lines

abbrev pub bar_words : CertLine → List (List ℕ)
bar_words m = codes "|" ∷ cert_line_words m

-- the words are a line of a certificate, after which this is owed
pub record OneCertLine (o : Pending) (words : List (List ℕ)) (next : Pending) : Type 0 where
  pub cert_line : CertLine
  pub spelled : words ≡ bar_words cert_line
  pub named : CertLineNamed cert_line
  pub leads : after_cert_line o cert_line ≡ Ok next

-- all of them are, one after another
abbrev pub Fed : Pending → List (List (List ℕ)) → Pending → Type 0
Fed o [] last = o ≡ last
Fed o (words ∷ more) last = (next : Pending) × OneCertLine o words next × Fed next more last

pub fed_append : (o next last : Pending) (xs ys : List (List (List ℕ))) → Fed o xs next → Fed next ys last → Fed o (xs ++ ys) last
fed_append o next last [] ys a b = subst (λ (x : Pending). Fed x ys last) (sym a) b
fed_append o next last (x ∷ xs) ys a b = (a.0, a.1, fed_append a.0 next last xs ys a.2 b)

abbrev pub owing : Names → Obligation → Option OpenSums → Pending
owing ns d begun = record { names = ns; due = d; sums = begun }

-- this is due once the sums end
abbrev pub Ends : Names → Pending → Obligation → Type 0
Ends ns o d = with_sums_ended o o.sums ≡ Ok (owing ns d None)

-- the lines are taken, and then this is due
pub record Puts (ns : Names) (o : Pending) (lines : List (List (List ℕ))) (d : Obligation) : Type 0 where
  pub last : Pending
  pub fed : Fed o lines last
  pub ends : Ends ns last d

pub puts_append : (ns : Names) (o : Pending) (xs ys : List (List (List ℕ))) (d e : Obligation) → (p : Puts ns o xs d) → Puts ns p.last ys e → Puts ns o (xs ++ ys) e
puts_append ns o xs ys d e p q = record { last = q.last; fed = fed_append o p.last q.last xs ys p.fed q.fed; ends = q.ends }

-- ---- rows

-- a row with a multiplier that has a form
pub record GoodRow (ns : Names) (x : ℤ × RowName) : Type 0 where
  pub name : GoodName ns x.1
  pub size : is_nonzero_bounded x.0 ≡ true

-- a sum that comes at this place takes one row after another
abbrev TakesRows : (List (ℤ × RowName) → OpenSums) → Type 0
TakesRows at = (rows : List (ℤ × RowName)) (m : ℤ) (r : RowName) → row_put (Some (at rows)) m r ≡ (with_row rows m r >>= λ new. Ok (at new))

one_row : (ns : Names) (d : Obligation) (at : List (ℤ × RowName) → OpenSums) (rows : List (ℤ × RowName)) (x : ℤ × RowName) → TakesRows at → InOrder ns → GoodRow ns x → length rows < 4096
    → OneCertLine (owing ns d (Some (at rows))) (row_line ns x) (owing ns d (Some (at (rows ++ x ∷ []))))
unfolding after_cert_line
one_row ns d at rows x takes o g few =
    let room : ltb (length rows) 4096 ≡ true = lt-ltb _ _ few in
    record {
      cert_line = certlines.Row x.0 (raw_row ns x.1);
      spelled = ap (λ (ws : List (List ℕ)). codes "|" ∷ signed_decimal x.0 ∷ ws) (row_spelled ns x.1);
      named = (g.size, row_named_again ns x.1 o g.name);
      leads = rw (row_in_again ns x.1 o g.name, takes rows x.0 x.1, room) refl;
    }

rows_fed : (ns : Names) (d : Obligation) (at : List (ℤ × RowName) → OpenSums) (done more : List (ℤ × RowName)) → TakesRows at → InOrder ns → AllByRecursion (GoodRow ns) more → length done + length more ≤ 4096
    → Fed (owing ns d (Some (at done))) (map (row_line ns) more) (owing ns d (Some (at (done ++ more))))
rows_fed ns d at done [] takes o g few = ap (λ (rows : List (ℤ × RowName)). owing ns d (Some (at rows))) (sym (append-nil done))
rows_fed ns d at done (x ∷ more) takes o g few =
    let next = done ++ x ∷ [] in
    let rest = rows_fed ns d at next more takes o g.1 (omega (arith, few, length-append done (x ∷ []))) in (
      owing ns d (Some (at next)),
      one_row ns d at done x takes o g.0 (omega (arith, few)),
      subst (λ (rows : List (ℤ × RowName)). Fed (owing ns d (Some (at next))) (map (row_line ns) more) (owing ns d (Some (at rows)))) (append_assoc done (x ∷ []) more) rest,
    )

pub record GoodSum (ns : Names) (rows : List (ℤ × RowName)) : Type 0 where
  pub some : 0 < length rows
  pub few : length rows ≤ 4096
  pub each : AllByRecursion (GoodRow ns) rows

sum_fed : (ns : Names) (d : Obligation) (before : Option OpenSums) (at : List (ℤ × RowName) → OpenSums) (rows : List (ℤ × RowName)) → TakesRows at → sum_begun before ≡ Ok (at []) → InOrder ns → GoodSum ns rows
    → Fed (owing ns d before) (sum_lines ns rows) (owing ns d (Some (at rows)))
unfolding after_cert_line
sum_fed ns d before at rows takes begun o g = (
  owing ns d (Some (at [])),
  record { cert_line = certlines.Sum; spelled = refl; named = tt; leads = rw begun refl },
  rows_fed ns d at [] rows takes o g.each (omega (arith, g.few)),
)

-- ---- metric certificates

-- the row that differs, and both sums
pub record GoodTwo (ns : Names) (differs : RowName) (above below : List (ℤ × RowName)) : Type 0 where
  pub name : GoodName ns differs
  pub may : may_differ (raw_row ns differs) ≡ true
  pub first : GoodSum ns above
  pub second : GoodSum ns below

abbrev pub GoodSums : Names → Sums → Type 0
GoodSums ns (One rows) = GoodSum ns rows
GoodSums ns (Two differs above below) = GoodTwo ns differs above below

-- the lines of sums are taken, and end as these sums
record SumsFed (ns : Names) (d : Obligation) (s : Sums) : Type 0 where
  last : OpenSums
  fed : Fed (owing ns d (Some sums.Begun)) (sums_lines ns s) (owing ns d (Some last))
  ends : sums_ended last ≡ Ok s

sums_fed : (ns : Names) (d : Obligation) (s : Sums) → InOrder ns → GoodSums ns s → SumsFed ns d s
unfolding after_cert_line
sums_fed ns d (One rows) o g =
    let some : ltb 0 (length rows) ≡ true = lt-ltb _ _ g.some in
    record {
      last = sums.One rows;
      fed = sum_fed ns d (Some sums.Begun) sums.One rows (λ rows m r. refl) refl o g;
      ends = rw some refl;
    }
sums_fed ns d (Two differs above below) o g =
    let first : ltb 0 (length above) ≡ true = lt-ltb _ _ g.first.some in
    let second : ltb 0 (length below) ≡ true = lt-ltb _ _ g.second.some in
    let begun : sum_begun (Some (sums.Above differs above)) ≡ Ok (sums.Below differs above []) = rw first refl in
    record {
      last = sums.Below differs above below;
      fed = (
        owing ns d (Some (sums.Differs differs)),
        record {
          cert_line = certlines.Differs (raw_row ns differs);
          spelled = ap (λ (ws : List (List ℕ)). codes "|" ∷ codes "differs" ∷ ws) (row_spelled ns differs);
          named = (row_named_again ns differs o g.name, g.may);
          leads = rw (row_in_again ns differs o g.name) refl;
        },
        fed_append (owing ns d (Some (sums.Differs differs))) (owing ns d (Some (sums.Above differs above))) (owing ns d (Some (sums.Below differs above below))) (sum_lines ns above) (sum_lines ns below)
            (sum_fed ns d (Some (sums.Differs differs)) (sums.Above differs) above (λ rows m r. refl) refl o g.first)
            (sum_fed ns d (Some (sums.Above differs above)) (sums.Below differs above) below (λ rows m r. refl) begun o g.second),
      );
      ends = rw second refl;
    }

takes : (d e : Obligation) (m : MetricCert) → metric_put d m ≡ Ok e → takes_metric d ≡ true
takes due.Nothing e m h = absurd cc
takes (due.Literals wanted certs None) e m h = more (ltb (length certs) (length wanted)) _ h
  where
    more : (b : Bool) (x : Obligation) → cond b (Ok x) (Err Malformed) ≡ Ok e → b ≡ true
    more true x k = refl
    more false x k = absurd cc
takes (due.Literals wanted certs (Some t)) e m h = refl
takes (due.Contradiction None) e m h = refl
takes (due.Contradiction (Some a)) e m h = absurd cc

pub metric_fed : (ns : Names) (o : Pending) (d e : Obligation) (m : MetricCert) → InOrder ns → Ends ns o d → GoodSums ns m.sums → metric_put d m ≡ Ok e → Puts ns o (metric_lines ns m) e
unfolding after_cert_line
metric_fed ns o d e m order ends g put =
    let s = sums_fed ns d m.sums order g in
    record {
      last = owing ns d (Some s.last);
      fed = (owing ns d (Some sums.Begun), record { cert_line = certlines.Metric; spelled = refl; named = tt; leads = rw (ends, takes d e m put) refl }, s.fed);
      ends = rw (s.ends, put) refl;
    }

abbrev pub GoodPart : Names → Part → Type 0
GoodPart ns parts.Fact = Unit {0}
GoodPart ns (parts.Metric m) = GoodSums ns m.sums
GoodPart ns (parts.FactAt k) = ltb k (2 ^ 32) ≡ true

metric_part : (d e : Obligation) (m : MetricCert) → part_put d (parts.Metric m) ≡ Ok e → metric_put d m ≡ Ok e
metric_part due.Nothing e m h = h
metric_part (due.Literals wanted certs t) e m h = h
metric_part (due.Contradiction None) e m h = absurd cc
metric_part (due.Contradiction (Some a)) e m h = h

pub part_fed : (ns : Names) (o : Pending) (d e : Obligation) (p : Part) → InOrder ns → Ends ns o d → GoodPart ns p → part_put d p ≡ Ok e → Puts ns o (part_lines ns p) e
unfolding after_cert_line
part_fed ns o d e parts.Fact order ends g put = record {
  last = owing ns e None;
  fed = (owing ns e None, record { cert_line = certlines.Fact; spelled = refl; named = tt; leads = rw (ends, put) refl }, refl);
  ends = refl;
}
part_fed ns o d e (parts.FactAt k) order ends g put = record {
  last = owing ns e None;
  fed = (owing ns e None, record { cert_line = certlines.FactAt k; spelled = refl; named = g; leads = rw (ends, put) refl }, refl);
  ends = refl;
}
part_fed ns o d e (parts.Metric m) order ends g put = metric_fed ns o d e m order ends g (metric_part d e m put)
