-- The lines of certificates read one by one, and all together: the one follows from the other.
use Rattle.std.proofs.Common.{◌≡◌, ℕ, ◌+◌, Bool, true, false, cond, List, [], ◌∷◌, ◌++◌, length, Option, Some, None, Result, Ok, Err, refl, sym, ap, subst, ◌∙◌}
use Rattle.std.specs.Prelude.{ℤ, nat_lt}
use Rattle.std.proofs.Common.{arith, inl, inr}
use Rattle.std.specs.Prelude.{◌⊎◌, ◌==◌, slice_get}
use Rattle.std.proofs.Common.{append_assoc, length-append, eqb, suc}
use Rattle.std.proofs.lemmas.List.{append-nil}
use Rattle.std.proofs.lemmas.Option.{slice_get_past}
use Rattle.e_literal.specs.declared.object.Obj.{Obj}
use Rattle.e_literal.specs.Facts.{others}
use Rattle.e_clause.specs.declared.cert.Cert.{Cert}
use Rattle.e_clause.specs.declared.cert.Cert.TheVariants.{Plain, Transfer}
use Rattle.e_clause.specs.Instance.{Inst, number_of_rule}
use Rattle.e_clause.specs.Sigs.{sig_of}
use Rattle.e_line.specs.Reading.{or_malformed}
use Rattle.e_names.specs.Scope.{args_in, variables_of, right_count}
use Rattle.e_cert.specs.declared.owed.OpenTransfer.{OpenTransfer}
use Rattle.e_cert.specs.Rows.{transfer_rule}
use Rattle.e_clause.specs.declared.cert.MetricCert.{MetricCert}
use Rattle.e_clause.specs.declared.cert.Part.{Part}
use Rattle.e_clause.specs.declared.cert.Part.TheVariants as parts
use Rattle.e_names.specs.Scope.{lit_in}
use Rattle.std.proofs.lemmas.Bool.{lt-ltb, le-ltb, eq-eqb, eqb-true, false_from_ne_true}
use Rattle.e_literal.specs.declared.literal.Lit.{Lit}
use Rattle.e_clause.specs.declared.cert.RowName.{RowName}
use Rattle.e_clause.specs.declared.cert.Sums.{Sums}
use Rattle.e_clause.specs.declared.cert.Sums.TheVariants.{One, Two}
use Rattle.e_deriv.specs.declared.names.Names.{Names}
use Rattle.e_line.specs.declared.fault.FaultKind.{FaultKind}
use Rattle.e_line.specs.declared.fault.FaultKind.TheVariants.{Malformed}
use Rattle.e_line.specs.Reading.{◌>>=◌}
use Rattle.e_cert.specs.declared.cert_line.CertLine.{CertLine}
use Rattle.e_cert.specs.declared.cert_line.CertLine.TheVariants as certlines
use Rattle.e_cert.specs.declared.owed.OpenSums.{OpenSums}
use Rattle.e_cert.specs.declared.owed.OpenSums.TheVariants as sums
use Rattle.e_cert.specs.declared.owed.Obligation.{Obligation}
use Rattle.e_cert.specs.declared.owed.Obligation.TheVariants as due
use Rattle.e_cert.specs.declared.owed.Pending.{Pending}
use Rattle.e_cert.specs.declared.kept.StepCerts.{StepCerts}
use Rattle.e_cert.specs.declared.kept.StepCerts.TheVariants as kept
use Rattle.e_clause.specs.declared.cert.Against.{Against}
use Rattle.e_clause.specs.declared.cert.Against.TheVariants as against
use Rattle.e_cert.specs.Owed.{after_cert_line, with_sums_ended, sums_ended, finish_certs, row_put, sums_after, due_after, part_put, metric_put, takes_metric, clash_put, transfer_begun, kept_of, has_more, certificate, transfer_put, open_transfer_in, transfer_at}
use Rattle.e_cert.specs.Rows.{most_rows, row_in}
use Rattle.e_cert.specs.Certificates.{Lack, More, Wrong, Begins, or_wrong, rows_from, sum_from, sums_from, part_from, each_from, instance_in, cert_from, against_from, Due, Nothing, Certificates, OfContradiction, due_from, if_none_left, below}

-- what is owed after lines, one after another
abbrev pub fed : Pending → List CertLine → Result Pending FaultKind
fed o [] = Ok o
fed o (m ∷ ms) = after_cert_line o m >>= λ p. fed p ms

same : (r : Result Pending FaultKind) → (r >>= λ p. Ok p) ≡ r
same (Ok p) = refl
same (Err e) = refl

by_first : (r : Result Pending FaultKind) (ms : List CertLine) (m : CertLine) → ((p : Pending) → fed p (ms ++ m ∷ []) ≡ (fed p ms >>= λ q. after_cert_line q m)) → (r >>= λ p. fed p (ms ++ m ∷ [])) ≡ ((r >>= λ p. fed p ms) >>= λ q. after_cert_line q m)
by_first (Ok p) ms m h = h p
by_first (Err e) ms m h = refl

pub fed_last : (o : Pending) (ms : List CertLine) (m : CertLine) → fed o (ms ++ m ∷ []) ≡ (fed o ms >>= λ p. after_cert_line p m)
fed_last o [] m = same (after_cert_line o m)
fed_last o (l ∷ ms) m = by_first (after_cert_line o l) ms m (λ p. fed_last p ms m)

-- ---- what lines make, and what they begin with

abbrev pub IsFault : {A : Type 0} → Result A FaultKind → Type 0
IsFault (Ok x) = ⊥
IsFault (Err e) = Unit {0}

abbrev After : Type 0 → Type 1
After A = A → Pending → List CertLine → Type 0

abbrev pub Goes : {A : Type 0} → Result Pending FaultKind → Begins A → After A → Type 0
Goes r (Ok x) K = (p : Pending) × (r ≡ fed p x.1) × K x.0 p x.1
Goes r (Err More) K = (p : Pending) × (r ≡ Ok p) × IsFault (finish_certs p)
Goes r (Err Wrong) K = IsFault r

fault_after : {A B : Type 0} (q : Result A FaultKind) (g : A → Result B FaultKind) → ((x : A) → IsFault (g x)) → IsFault (q >>= g)
fault_after (Ok x) g h = h x
fault_after (Err e) g h = tt

fault_then : {A B : Type 0} (q : Result A FaultKind) (g : A → Result B FaultKind) → IsFault q → IsFault (q >>= g)
fault_then (Ok x) g h = absurd h
fault_then (Err e) g h = tt

-- what is looked up on both sides
looked : {A B : Type 0} (q : Result B FaultKind) (g : B → Result Pending FaultKind) (k : Pending → Result Pending FaultKind) (f : B → Begins A) (K : After A) → ((x : B) → Goes (g x >>= k) (f x) K) → Goes ((q >>= g) >>= k) (or_wrong q >>= f) K
looked (Ok x) g k f K h = h x
looked (Err e) g k f K h = tt

-- one after the other
goes_same : {A : Type 0} (r q : Result Pending FaultKind) (b : Begins A) (K : After A) → r ≡ q → Goes q b K → Goes r b K
goes_same r q b K e g = subst (λ (x : Result Pending FaultKind). Goes x b K) (sym e) g

goes_on : {A B : Type 0} (r : Result Pending FaultKind) (b : Begins A) (f : A × List CertLine → Begins B) (K : After A) (L : After B) → Goes r b K → ((x : A) (p : Pending) (rest : List CertLine) → K x p rest → Goes (fed p rest) (f (x, rest)) L) → Goes r (b >>= f) L
goes_on r (Ok x) f K L g h = goes_same r (fed g.0 x.1) (f x) L g.1 (h x.0 g.0 x.1 g.2)
goes_on r (Err More) f K L g h = g
goes_on r (Err Wrong) f K L g h = g

-- ---- rows

-- which of the sums of a metric certificate comes
data Place : Type 0 where
  Only : Place
  First : RowName → Place
  Second : RowName → List (ℤ × RowName) → Place

abbrev wrapped : Place → List (ℤ × RowName) → OpenSums
wrapped Only sum = sums.One sum
wrapped (First differs) sum = sums.Above differs sum
wrapped (Second differs above) sum = sums.Below differs above sum

abbrev NoRow : List CertLine → Type 0
NoRow (certlines.Row m raw ∷ ms) = ⊥
NoRow ms = Unit {0}

abbrev at : Names → Obligation → OpenSums → Pending
at ns d s = record { names = ns; due = d; sums = Some s }

abbrev RowsRead : Names → Obligation → Place → After (List (ℤ × RowName))
RowsRead ns d w sum p rest = (p ≡ at ns d (wrapped w sum)) × (nat_lt 0 (length sum) ≡ true) × NoRow rest

-- a sum without rows does not end
no_rows : (ns : Names) (d : Obligation) (w : Place) (m : CertLine) (ms : List CertLine) → NoRow (m ∷ ms) → IsFault (fed (at ns d (wrapped w [])) (m ∷ ms))
unfolding after_cert_line
no_rows ns d w (certlines.Row k raw) ms n = absurd n
no_rows ns d Only certlines.Fact ms n = tt
no_rows ns d (First x) certlines.Fact ms n = tt
no_rows ns d (Second x a) certlines.Fact ms n = tt
no_rows ns d Only (certlines.FactAt k) ms n = tt
no_rows ns d (First x) (certlines.FactAt k) ms n = tt
no_rows ns d (Second x a) (certlines.FactAt k) ms n = tt
no_rows ns d Only certlines.Metric ms n = tt
no_rows ns d (First x) certlines.Metric ms n = tt
no_rows ns d (Second x a) certlines.Metric ms n = tt
no_rows ns d Only (certlines.Transfer t raws) ms n = tt
no_rows ns d (First x) (certlines.Transfer t raws) ms n = tt
no_rows ns d (Second x a) (certlines.Transfer t raws) ms n = tt
no_rows ns d Only (certlines.Clash raw) ms n = tt
no_rows ns d (First x) (certlines.Clash raw) ms n = tt
no_rows ns d (Second x a) (certlines.Clash raw) ms n = tt
no_rows ns d Only certlines.Sum ms n = tt
no_rows ns d (First x) certlines.Sum ms n = tt
no_rows ns d (Second x a) certlines.Sum ms n = tt
no_rows ns d Only (certlines.Differs raw) ms n = fault_then (row_in ns raw >>= λ r. Err Malformed) _ (fault_after (row_in ns raw) _ (λ r. tt))
no_rows ns d (First x) (certlines.Differs raw) ms n = fault_then (row_in ns raw >>= λ r. Err Malformed) _ (fault_after (row_in ns raw) _ (λ r. tt))
no_rows ns d (Second x a) (certlines.Differs raw) ms n = fault_then (row_in ns raw >>= λ r. Err Malformed) _ (fault_after (row_in ns raw) _ (λ r. tt))

no_end : (ns : Names) (d : Obligation) (w : Place) → IsFault (finish_certs (at ns d (wrapped w [])))
unfolding finish_certs
no_end ns d Only = tt
no_end ns d (First x) = tt
no_end ns d (Second x a) = tt

some_row : (r : ℤ × RowName) (rs : List (ℤ × RowName)) → nat_lt 0 (length (r ∷ rs)) ≡ true
some_row r rs = lt-ltb 0 (length (r ∷ rs)) (omega arith)

-- one more row
row_case : (ns : Names) (d : Obligation) (w : Place) (sum new : List (ℤ × RowName)) (b : Bool) (ms : List CertLine) → Goes (fed (at ns d (wrapped w new)) ms) (rows_from ns new ms) (RowsRead ns d w)
    → Goes (((cond b (Ok new) (Err Malformed) >>= λ x. Ok (wrapped w x)) >>= λ s. Ok (sums_after (at ns d (wrapped w sum)) s)) >>= λ p. fed p ms) (cond b (rows_from ns new ms) (Err Wrong)) (RowsRead ns d w)
row_case ns d w sum new true ms h = h
row_case ns d w sum new false ms h = tt

rows_run : (ns : Names) (d : Obligation) (w : Place) (sum : List (ℤ × RowName)) (ms : List CertLine) → Goes (fed (at ns d (wrapped w sum)) ms) (rows_from ns sum ms) (RowsRead ns d w)
unfolding after_cert_line
rows_run ns d Only sum (certlines.Row k raw ∷ ms) = looked (row_in ns raw) (λ r. row_put (Some (sums.One sum)) k r >>= λ s. Ok (sums_after (at ns d (sums.One sum)) s)) (λ p. fed p ms) _ (RowsRead ns d Only)
    (λ r. row_case ns d Only sum (sum ++ (k, r) ∷ []) (nat_lt (length sum) most_rows) ms (rows_run ns d Only (sum ++ (k, r) ∷ []) ms))
rows_run ns d (First x) sum (certlines.Row k raw ∷ ms) = looked (row_in ns raw) (λ r. row_put (Some (sums.Above x sum)) k r >>= λ s. Ok (sums_after (at ns d (sums.Above x sum)) s)) (λ p. fed p ms) _ (RowsRead ns d (First x))
    (λ r. row_case ns d (First x) sum (sum ++ (k, r) ∷ []) (nat_lt (length sum) most_rows) ms (rows_run ns d (First x) (sum ++ (k, r) ∷ []) ms))
rows_run ns d (Second x a) sum (certlines.Row k raw ∷ ms) = looked (row_in ns raw) (λ r. row_put (Some (sums.Below x a sum)) k r >>= λ s. Ok (sums_after (at ns d (sums.Below x a sum)) s)) (λ p. fed p ms) _ (RowsRead ns d (Second x a))
    (λ r. row_case ns d (Second x a) sum (sum ++ (k, r) ∷ []) (nat_lt (length sum) most_rows) ms (rows_run ns d (Second x a) (sum ++ (k, r) ∷ []) ms))
rows_run ns d w [] [] = (at ns d (wrapped w []), refl, no_end ns d w)
rows_run ns d w (r ∷ rs) [] = (at ns d (wrapped w (r ∷ rs)), refl, (refl, some_row r rs, tt))
rows_run ns d w [] (certlines.Fact ∷ ms) = no_rows ns d w certlines.Fact ms tt
rows_run ns d w (r ∷ rs) (certlines.Fact ∷ ms) = (at ns d (wrapped w (r ∷ rs)), refl, (refl, some_row r rs, tt))
rows_run ns d w [] (certlines.FactAt k ∷ ms) = no_rows ns d w (certlines.FactAt k) ms tt
rows_run ns d w (r ∷ rs) (certlines.FactAt k ∷ ms) = (at ns d (wrapped w (r ∷ rs)), refl, (refl, some_row r rs, tt))
rows_run ns d w [] (certlines.Metric ∷ ms) = no_rows ns d w certlines.Metric ms tt
rows_run ns d w (r ∷ rs) (certlines.Metric ∷ ms) = (at ns d (wrapped w (r ∷ rs)), refl, (refl, some_row r rs, tt))
rows_run ns d w [] (certlines.Transfer t raws ∷ ms) = no_rows ns d w (certlines.Transfer t raws) ms tt
rows_run ns d w (r ∷ rs) (certlines.Transfer t raws ∷ ms) = (at ns d (wrapped w (r ∷ rs)), refl, (refl, some_row r rs, tt))
rows_run ns d w [] (certlines.Clash raw ∷ ms) = no_rows ns d w (certlines.Clash raw) ms tt
rows_run ns d w (r ∷ rs) (certlines.Clash raw ∷ ms) = (at ns d (wrapped w (r ∷ rs)), refl, (refl, some_row r rs, tt))
rows_run ns d w [] (certlines.Sum ∷ ms) = no_rows ns d w certlines.Sum ms tt
rows_run ns d w (r ∷ rs) (certlines.Sum ∷ ms) = (at ns d (wrapped w (r ∷ rs)), refl, (refl, some_row r rs, tt))
rows_run ns d w [] (certlines.Differs raw ∷ ms) = no_rows ns d w (certlines.Differs raw) ms tt
rows_run ns d w (r ∷ rs) (certlines.Differs raw ∷ ms) = (at ns d (wrapped w (r ∷ rs)), refl, (refl, some_row r rs, tt))

-- ---- sums

abbrev begun : Place → OpenSums
begun Only = sums.Begun
begun (First differs) = sums.Differs differs
begun (Second differs above) = sums.Above differs above

abbrev NoDiffers : List CertLine → Type 0
NoDiffers (certlines.Differs raw ∷ ms) = ⊥
NoDiffers ms = Unit {0}

abbrev Ready : Place → List CertLine → Type 0
Ready Only ms = NoDiffers ms
Ready (First differs) ms = Unit {0}
Ready (Second differs above) ms = (nat_lt 0 (length above) ≡ true) × NoRow ms

-- the second sum begins where the first has rows
second_begun : (ns : Names) (d : Obligation) (x : RowName) (a : List (ℤ × RowName)) (b : Bool) (ms : List CertLine) (r : Begins (List (ℤ × RowName))) (K : After (List (ℤ × RowName))) → b ≡ true → Goes (fed (at ns d (sums.Below x a [])) ms) r K
    → Goes ((cond b (Ok (sums.Below x a [])) (Err Malformed) >>= λ s. Ok (sums_after (at ns d (sums.Above x a)) s)) >>= λ p. fed p ms) r K
second_begun ns d x a true ms r K e h = h
second_begun ns d x a false ms r K e h = absurd cc

sum_run : (ns : Names) (d : Obligation) (w : Place) (ms : List CertLine) → Ready w ms → Goes (fed (at ns d (begun w)) ms) (sum_from ns ms) (RowsRead ns d w)
unfolding after_cert_line finish_certs
sum_run ns d Only [] h = (at ns d sums.Begun, refl, tt)
sum_run ns d (First x) [] h = (at ns d (sums.Differs x), refl, tt)
sum_run ns d (Second x a) [] h = (at ns d (sums.Above x a), refl, tt)
sum_run ns d Only (certlines.Sum ∷ ms) h = rows_run ns d Only [] ms
sum_run ns d (First x) (certlines.Sum ∷ ms) h = rows_run ns d (First x) [] ms
sum_run ns d (Second x a) (certlines.Sum ∷ ms) h = second_begun ns d x a (nat_lt 0 (length a)) ms _ _ h.0 (rows_run ns d (Second x a) [] ms)
sum_run ns d Only (certlines.Row k raw ∷ ms) h = fault_then (row_in ns raw >>= λ r. Err Malformed) _ (fault_after (row_in ns raw) _ (λ r. tt))
sum_run ns d (First x) (certlines.Row k raw ∷ ms) h = fault_then (row_in ns raw >>= λ r. Err Malformed) _ (fault_after (row_in ns raw) _ (λ r. tt))
sum_run ns d (Second x a) (certlines.Row k raw ∷ ms) h = absurd h.1
sum_run ns d Only (certlines.Differs raw ∷ ms) h = absurd h
sum_run ns d (First x) (certlines.Differs raw ∷ ms) h = fault_then (row_in ns raw >>= λ r. Err Malformed) _ (fault_after (row_in ns raw) _ (λ r. tt))
sum_run ns d (Second x a) (certlines.Differs raw ∷ ms) h = fault_then (row_in ns raw >>= λ r. Err Malformed) _ (fault_after (row_in ns raw) _ (λ r. tt))
sum_run ns d Only (certlines.Fact ∷ ms) h = tt
sum_run ns d (First x) (certlines.Fact ∷ ms) h = tt
sum_run ns d (Second x a) (certlines.Fact ∷ ms) h = tt
sum_run ns d Only (certlines.FactAt k ∷ ms) h = tt
sum_run ns d (First x) (certlines.FactAt k ∷ ms) h = tt
sum_run ns d (Second x a) (certlines.FactAt k ∷ ms) h = tt
sum_run ns d Only (certlines.Metric ∷ ms) h = tt
sum_run ns d (First x) (certlines.Metric ∷ ms) h = tt
sum_run ns d (Second x a) (certlines.Metric ∷ ms) h = tt
sum_run ns d Only (certlines.Transfer t raws ∷ ms) h = tt
sum_run ns d (First x) (certlines.Transfer t raws ∷ ms) h = tt
sum_run ns d (Second x a) (certlines.Transfer t raws ∷ ms) h = tt
sum_run ns d Only (certlines.Clash raw ∷ ms) h = tt
sum_run ns d (First x) (certlines.Clash raw ∷ ms) h = tt
sum_run ns d (Second x a) (certlines.Clash raw ∷ ms) h = tt

abbrev SumsRead : Names → Obligation → After Sums
SumsRead ns d all p rest = (s : OpenSums) × (p ≡ at ns d s) × (sums_ended s ≡ Ok all) × NoRow rest

abbrev answer : {A : Type 0} → A → Result A FaultKind
answer x = Ok x

if_some : {A : Type 0} (b : Bool) (x : A) → b ≡ true → cond b (answer x) (Err Malformed) ≡ answer x
if_some true x e = refl
if_some false x e = absurd cc

two_sums : (ns : Names) (d : Obligation) (ms : List CertLine) (x : RowName) → Goes (fed (at ns d (sums.Differs x)) ms) (sum_from ns ms >>= λ above. sum_from ns above.1 >>= λ below. Ok (Two x above.0 below.0, below.1)) (SumsRead ns d)
two_sums ns d ms x =
    goes_on (fed (at ns d (sums.Differs x)) ms) (sum_from ns ms) _ (RowsRead ns d (First x)) (SumsRead ns d) (sum_run ns d (First x) ms tt)
    (λ above p rest k. goes_same (fed p rest) (fed (at ns d (sums.Above x above)) rest) _ (SumsRead ns d) (ap (λ (o : Pending). fed o rest) k.0)
    (goes_on (fed (at ns d (sums.Above x above)) rest) (sum_from ns rest) _ (RowsRead ns d (Second x above)) (SumsRead ns d) (sum_run ns d (Second x above) rest (k.1, k.2))
    (λ below q last l. (q, refl, (sums.Below x above below, l.0, if_some (nat_lt 0 (length below)) (Two x above below) l.1, l.2)))))

one_sum : (ns : Names) (d : Obligation) (ms : List CertLine) → NoDiffers ms → Goes (fed (at ns d sums.Begun) ms) (sum_from ns ms >>= λ sum. Ok (One sum.0, sum.1)) (SumsRead ns d)
one_sum ns d ms n =
    goes_on (fed (at ns d sums.Begun) ms) (sum_from ns ms) _ (RowsRead ns d Only) (SumsRead ns d) (sum_run ns d Only ms n)
    (λ sum p rest k. (p, refl, (sums.One sum, k.0, if_some (nat_lt 0 (length sum)) (One sum) k.1, k.2)))

sums_run : (ns : Names) (d : Obligation) (ms : List CertLine) → Goes (fed (at ns d sums.Begun) ms) (sums_from ns ms) (SumsRead ns d)
unfolding after_cert_line
sums_run ns d [] = one_sum ns d [] tt
sums_run ns d (certlines.Differs raw ∷ ms) = looked (row_in ns raw) (λ x. Ok (sums_after (at ns d sums.Begun) (sums.Differs x))) (λ p. fed p ms) _ (SumsRead ns d) (λ x. two_sums ns d ms x)
sums_run ns d (certlines.Fact ∷ ms) = one_sum ns d (certlines.Fact ∷ ms) tt
sums_run ns d (certlines.FactAt k ∷ ms) = one_sum ns d (certlines.FactAt k ∷ ms) tt
sums_run ns d (certlines.Metric ∷ ms) = one_sum ns d (certlines.Metric ∷ ms) tt
sums_run ns d (certlines.Transfer t raws ∷ ms) = one_sum ns d (certlines.Transfer t raws ∷ ms) tt
sums_run ns d (certlines.Clash raw ∷ ms) = one_sum ns d (certlines.Clash raw ∷ ms) tt
sums_run ns d (certlines.Sum ∷ ms) = one_sum ns d (certlines.Sum ∷ ms) tt
sums_run ns d (certlines.Row k raw ∷ ms) = one_sum ns d (certlines.Row k raw ∷ ms) tt

-- ---- what is due after sums that may have ended

abbrev clear : Names → Obligation → Pending
clear ns d = record { names = ns; due = d; sums = None }

-- sums that have ended are counted where the next line comes
record Full (ns : Names) (d : Obligation) (p : Pending) (rest : List CertLine) : Type 0 where
  due : Obligation
  open_sums : OpenSums
  all : Sums
  is : p ≡ at ns due open_sums
  ends : sums_ended open_sums ≡ Ok all
  put : metric_put due (record { sums = all }) ≡ Ok d
  over : NoRow rest

abbrev Settled : Names → Obligation → Pending → List CertLine → Type 0
Settled ns d p rest = (p ≡ clear ns d) ⊎ Full ns d p rest

-- a line that ends sums
abbrev Heads : CertLine → Type 0
Heads (certlines.Row k raw) = ⊥
Heads certlines.Sum = ⊥
Heads (certlines.Differs raw) = ⊥
Heads m = Unit {0}

ended_by : (ns : Names) (d e : Obligation) (s : OpenSums) (all : Sums) → sums_ended s ≡ Ok all → metric_put e (record { sums = all }) ≡ Ok d → with_sums_ended (at ns e s) (Some s) ≡ Ok (clear ns d)
ended_by ns d e s all ends put = two (sums_ended s) ends (metric_put e (record { sums = all })) put
  where
    done : Obligation → Result Pending FaultKind
    done x = Ok (record (at ns e s) { due = x; sums = None })

    one : (q : Result Obligation FaultKind) → q ≡ Ok d → (q >>= λ x. Ok (record (at ns e s) { due = x; sums = None })) ≡ Ok (clear ns d)
    one q h = subst (λ (x : Result Obligation FaultKind). (x >>= λ y. Ok (record (at ns e s) { due = y; sums = None })) ≡ Ok (clear ns d)) (sym h) refl

    two : (r : Result Sums FaultKind) → r ≡ Ok all → (q : Result Obligation FaultKind) → metric_put e (record { sums = all }) ≡ Ok d → (r >>= λ a. metric_put e (record { sums = a }) >>= λ x. Ok (record (at ns e s) { due = x; sums = None })) ≡ Ok (clear ns d)
    two r h q k = subst (λ (x : Result Sums FaultKind). (x >>= λ a. metric_put e (record { sums = a }) >>= λ y. Ok (record (at ns e s) { due = y; sums = None })) ≡ Ok (clear ns d)) (sym h) (one (metric_put e (record { sums = all })) k)

-- such a line is read as if they had been counted
as_clear : (ns : Names) (d e : Obligation) (s : OpenSums) (m : CertLine) → Heads m → with_sums_ended (at ns e s) (Some s) ≡ Ok (clear ns d) → after_cert_line (at ns e s) m ≡ after_cert_line (clear ns d) m
unfolding after_cert_line
as_clear ns d e s certlines.Fact h w = ap (λ (r : Result Pending FaultKind). r >>= λ e. part_put e.due parts.Fact >>= λ d. Ok (due_after e d)) w
as_clear ns d e s (certlines.FactAt k) h w = ap (λ (r : Result Pending FaultKind). r >>= λ e. part_put e.due (parts.FactAt k) >>= λ d. Ok (due_after e d)) w
as_clear ns d e s certlines.Metric h w = ap (λ (r : Result Pending FaultKind). r >>= λ e. cond (takes_metric e.due) (Ok (sums_after e sums.Begun)) (Err Malformed)) w
as_clear ns d e s (certlines.Transfer t raws) h w = ap (λ (r : Result Pending FaultKind). r >>= λ e. transfer_begun e.names e.due t raws >>= λ d. Ok (due_after e d)) w
as_clear ns d e s (certlines.Clash raw) h w = ap (λ (r : Result Pending FaultKind). r >>= λ e. lit_in e.names raw >>= λ l. clash_put e.due l >>= λ d. Ok (due_after e d)) w
as_clear ns d e s (certlines.Row k raw) h w = absurd h
as_clear ns d e s certlines.Sum h w = absurd h
as_clear ns d e s (certlines.Differs raw) h w = absurd h

fed_clear : (ns : Names) (d : Obligation) (p : Pending) (m : CertLine) (ms : List CertLine) → Heads m → Settled ns d p (m ∷ ms) → fed p (m ∷ ms) ≡ fed (clear ns d) (m ∷ ms)
fed_clear ns d p m ms h (inl e) = ap (λ (o : Pending). fed o (m ∷ ms)) e
fed_clear ns d p m ms h (inr f) =
    ap (λ (o : Pending). fed o (m ∷ ms)) f.is ∙ ap (λ (r : Result Pending FaultKind). r >>= λ o. fed o ms) (as_clear ns d f.due f.open_sums m h (ended_by ns d f.due f.open_sums f.all f.ends f.put))

finish_clear : (ns : Names) (d : Obligation) (p : Pending) (rest : List CertLine) → Settled ns d p rest → finish_certs p ≡ kept_of d
unfolding finish_certs
finish_clear ns d p rest (inl e) = ap finish_certs e
finish_clear ns d p rest (inr f) = ap finish_certs f.is ∙ ap (λ (r : Result Pending FaultKind). r >>= λ e. kept_of e.due) (ended_by ns d f.due f.open_sums f.all f.ends f.put)

-- a line that goes on with sums has no place
off_full : (ns : Names) (e : Obligation) (s : OpenSums) (all : Sums) (m : CertLine) (ms : List CertLine) → (Heads m → ⊥) → NoRow (m ∷ ms) → sums_ended s ≡ Ok all → IsFault (fed (at ns e s) (m ∷ ms))
unfolding after_cert_line
off_full ns e s all (certlines.Row k raw) ms h n x = absurd n
off_full ns e sums.Begun all certlines.Sum ms h n x = absurd cc
off_full ns e (sums.One a) all certlines.Sum ms h n x = tt
off_full ns e (sums.Differs d) all certlines.Sum ms h n x = absurd cc
off_full ns e (sums.Above d a) all certlines.Sum ms h n x = absurd cc
off_full ns e (sums.Below d a b) all certlines.Sum ms h n x = tt
off_full ns e sums.Begun all (certlines.Differs raw) ms h n x = absurd cc
off_full ns e (sums.One a) all (certlines.Differs raw) ms h n x = fault_then (row_in ns raw >>= λ r. Err Malformed) _ (fault_after (row_in ns raw) _ (λ r. tt))
off_full ns e (sums.Differs d) all (certlines.Differs raw) ms h n x = absurd cc
off_full ns e (sums.Above d a) all (certlines.Differs raw) ms h n x = absurd cc
off_full ns e (sums.Below d a b) all (certlines.Differs raw) ms h n x = fault_then (row_in ns raw >>= λ r. Err Malformed) _ (fault_after (row_in ns raw) _ (λ r. tt))
off_full ns e s all certlines.Fact ms h n x = absurd (h tt)
off_full ns e s all (certlines.FactAt k) ms h n x = absurd (h tt)
off_full ns e s all certlines.Metric ms h n x = absurd (h tt)
off_full ns e s all (certlines.Transfer t raws) ms h n x = absurd (h tt)
off_full ns e s all (certlines.Clash raw) ms h n x = absurd (h tt)

off_clear : (ns : Names) (d : Obligation) (m : CertLine) (ms : List CertLine) → (Heads m → ⊥) → IsFault (fed (clear ns d) (m ∷ ms))
unfolding after_cert_line
off_clear ns d (certlines.Row k raw) ms h = fault_then (row_in ns raw >>= λ r. Err Malformed) _ (fault_after (row_in ns raw) _ (λ r. tt))
off_clear ns d certlines.Sum ms h = tt
off_clear ns d (certlines.Differs raw) ms h = fault_then (row_in ns raw >>= λ r. Err Malformed) _ (fault_after (row_in ns raw) _ (λ r. tt))
off_clear ns d certlines.Fact ms h = absurd (h tt)
off_clear ns d (certlines.FactAt k) ms h = absurd (h tt)
off_clear ns d certlines.Metric ms h = absurd (h tt)
off_clear ns d (certlines.Transfer t raws) ms h = absurd (h tt)
off_clear ns d (certlines.Clash raw) ms h = absurd (h tt)

off : (ns : Names) (d : Obligation) (p : Pending) (m : CertLine) (ms : List CertLine) → (Heads m → ⊥) → Settled ns d p (m ∷ ms) → IsFault (fed p (m ∷ ms))
off ns d p m ms h (inl e) = subst (λ (o : Pending). IsFault (fed o (m ∷ ms))) (sym e) (off_clear ns d m ms h)
off ns d p m ms h (inr f) = subst (λ (o : Pending). IsFault (fed o (m ∷ ms))) (sym f.is) (off_full ns f.due f.open_sums f.all m ms h f.over f.ends)

-- ---- a part

record Expects (d : Obligation) (next : Part → Obligation) : Type 0 where
  put : (x : Part) → part_put d x ≡ Ok (next x)
  metric : (m : MetricCert) → metric_put d m ≡ part_put d (parts.Metric m)
  takes : takes_metric d ≡ true
  lacks : IsFault (kept_of d)
  clash : (l : Lit) → IsFault (clash_put d l)

abbrev NoTransfer : Names → Obligation → List CertLine → Type 0
NoTransfer ns d (certlines.Transfer t raws ∷ ms) = IsFault (transfer_begun ns d t raws)
NoTransfer ns d ms = Unit {0}

abbrev Counts : Names → (A : Type 0) → (A → Obligation) → After A
Counts ns A next x q rest = Settled ns (next x) q rest

part_run : (ns : Names) (d : Obligation) (next : Part → Obligation) → Expects d next → (p : Pending) (ms : List CertLine) → Settled ns d p ms → NoTransfer ns d ms → Goes (fed p ms) (part_from ns ms) (Counts ns Part next)
unfolding after_cert_line
part_run ns d next e p [] s n = (p, refl, subst IsFault (sym (finish_clear ns d p [] s)) e.lacks)
part_run ns d next e p (certlines.Fact ∷ ms) s n =
    (clear ns (next parts.Fact), fed_clear ns d p certlines.Fact ms tt s ∙ ap (λ (r : Result Obligation FaultKind). (r >>= λ x. Ok (due_after (clear ns d) x)) >>= λ o. fed o ms) (e.put parts.Fact), inl refl)
part_run ns d next e p (certlines.FactAt k ∷ ms) s n =
    (clear ns (next (parts.FactAt k)), fed_clear ns d p (certlines.FactAt k) ms tt s ∙ ap (λ (r : Result Obligation FaultKind). (r >>= λ x. Ok (due_after (clear ns d) x)) >>= λ o. fed o ms) (e.put (parts.FactAt k)), inl refl)
part_run ns d next e p (certlines.Metric ∷ ms) s n =
    goes_same (fed p (certlines.Metric ∷ ms)) (fed (at ns d sums.Begun) ms) _ (Counts ns Part next)
    (fed_clear ns d p certlines.Metric ms tt s ∙ ap (λ (b : Bool). cond b (Ok (sums_after (clear ns d) sums.Begun)) (Err Malformed) >>= λ o. fed o ms) e.takes)
    (goes_on (fed (at ns d sums.Begun) ms) (sums_from ns ms) _ (SumsRead ns d) (Counts ns Part next) (sums_run ns d ms)
    (λ all q rest k. (q, refl, inr (record { due = d; open_sums = k.0; all = all; is = k.1; ends = k.2; put = e.metric (record { sums = all }) ∙ e.put (parts.Metric (record { sums = all })); over = k.3 }))))
part_run ns d next e p (certlines.Transfer t raws ∷ ms) s n =
    subst IsFault (sym (fed_clear ns d p (certlines.Transfer t raws) ms tt s)) (fault_then (transfer_begun ns d t raws >>= λ x. Ok (due_after (clear ns d) x)) _ (fault_then (transfer_begun ns d t raws) _ n))
part_run ns d next e p (certlines.Clash raw ∷ ms) s n =
    subst IsFault (sym (fed_clear ns d p (certlines.Clash raw) ms tt s))
    (fault_then (lit_in ns raw >>= λ l. clash_put d l >>= λ x. Ok (due_after (clear ns d) x)) _ (fault_after (lit_in ns raw) _ (λ l. fault_then (clash_put d l) _ (e.clash l))))
part_run ns d next e p (certlines.Row k raw ∷ ms) s n = off ns d p (certlines.Row k raw) ms (λ h. h) s
part_run ns d next e p (certlines.Sum ∷ ms) s n = off ns d p certlines.Sum ms (λ h. h) s
part_run ns d next e p (certlines.Differs raw ∷ ms) s n = off ns d p (certlines.Differs raw) ms (λ h. h) s

-- ---- the parts of a transfer

abbrev closed : List Lit → List Cert → OpenTransfer → Obligation
closed wanted certs t = due.Literals wanted (certs ++ certificate t ∷ []) None

abbrev partly : List Lit → List Cert → OpenTransfer → Obligation
partly wanted certs t = due.Literals wanted certs (Some t)

abbrev so_far : List Lit → List Cert → OpenTransfer → Obligation
so_far wanted certs t = cond (length t.parts == t.owed) (closed wanted certs t) (partly wanted certs t)

abbrev due_is : Obligation → Result Obligation FaultKind
due_is d = Ok d

either_due : (b : Bool) (x y : Obligation) → cond b (due_is x) (due_is y) ≡ due_is (cond b x y)
either_due true x y = refl
either_due false x y = refl

put_is : (wanted : List Lit) (certs : List Cert) (t : OpenTransfer) → transfer_put wanted certs t ≡ due_is (so_far wanted certs t)
put_is wanted certs t = either_due (length t.parts == t.owed) (closed wanted certs t) (partly wanted certs t)

no_transfer : (ns : Names) (wanted : List Lit) (certs : List Cert) (t : OpenTransfer) (ms : List CertLine) → NoTransfer ns (partly wanted certs t) ms
no_transfer ns wanted certs t [] = tt
no_transfer ns wanted certs t (certlines.Transfer r raws ∷ ms) = tt
no_transfer ns wanted certs t (certlines.Fact ∷ ms) = tt
no_transfer ns wanted certs t (certlines.FactAt k ∷ ms) = tt
no_transfer ns wanted certs t (certlines.Metric ∷ ms) = tt
no_transfer ns wanted certs t (certlines.Clash raw ∷ ms) = tt
no_transfer ns wanted certs t (certlines.Row k raw ∷ ms) = tt
no_transfer ns wanted certs t (certlines.Sum ∷ ms) = tt
no_transfer ns wanted certs t (certlines.Differs raw ∷ ms) = tt

abbrev with_part : OpenTransfer → Part → OpenTransfer
with_part t x = record t { parts = t.parts ++ x ∷ [] }

abbrev with_parts : OpenTransfer → List Part → OpenTransfer
with_parts t xs = record t { parts = t.parts ++ xs }

expects_part : (wanted : List Lit) (certs : List Cert) (t : OpenTransfer) → Expects (partly wanted certs t) (λ x. so_far wanted certs (with_part t x))
expects_part wanted certs t = record { put = λ x. put_is wanted certs (with_part t x); metric = λ m. refl; takes = refl; lacks = tt; clash = λ l. tt }

-- ---- an instance

bind_over : {A B C : Type 0} (q : Result A FaultKind) (f : A → Result B FaultKind) (g : B → Result C FaultKind) (h : A → Result C FaultKind) → ((x : A) → h x ≡ (f x >>= g)) → (q >>= h) ≡ ((q >>= f) >>= g)
bind_over (Ok x) f g h e = e x
bind_over (Err k) f g h e = refl

abbrev opened : Lit → ℕ × List Obj × List Lit → OpenTransfer
opened l i = record { rule = i.0; args = i.1; parts = []; owed = length (others i.2 l) }

same_instance : (ns : Names) (l : Lit) (title : List ℕ) (raws : List (List ℕ)) → open_transfer_in ns l title raws ≡ (instance_in ns title raws >>= λ i. Ok (opened l i))
unfolding open_transfer_in instance_in transfer_at
same_instance ns l title raws =
    bind_over (transfer_rule (number_of_rule title)) _ _ _
    (λ r. bind_over (variables_of (sig_of r)) _ _ _
    (λ s. bind_over (right_count (length raws == s.points + s.lines + s.circles)) _ _ _
    (λ x. bind_over (args_in ns s raws) _ _ _
    (λ args. bind_over (or_malformed (Inst r args)) _ _ _ (λ lits. refl)))))

-- all parts have come, or more are owed
all_come : (wanted : List Lit) (certs : List Cert) (t : OpenTransfer) (b : Bool) → b ≡ true → cond b (closed wanted certs t) (partly wanted certs t) ≡ closed wanted certs t
all_come wanted certs t true e = refl
all_come wanted certs t false e = absurd cc

some_owed : (wanted : List Lit) (certs : List Cert) (t : OpenTransfer) (b : Bool) → b ≡ false → cond b (closed wanted certs t) (partly wanted certs t) ≡ partly wanted certs t
some_owed wanted certs t false e = refl
some_owed wanted certs t true e = absurd cc

same_count : (n m : ℕ) → m ≡ n + 0 → eqb n m ≡ true
same_count n m e = eq-eqb n m (omega (arith, e))

other_count : (n m k : ℕ) → m ≡ n + suc k → eqb n m ≡ false
other_count n m k e = false_from_ne_true (eqb n m) (λ h. omega (arith, e, eqb-true n m h))

-- where the due is another way to write it
settled_as : (ns : Names) (d e : Obligation) (p : Pending) (ms : List CertLine) → d ≡ e → Settled ns d p ms → Settled ns e p ms
settled_as ns d e p ms h s = subst (λ (x : Obligation). Settled ns x p ms) h s

abbrev Closes : Names → List Lit → List Cert → OpenTransfer → After (List Part)
Closes ns wanted certs t ps q rest = Settled ns (closed wanted certs (with_parts t ps)) q rest

parts_run : (ns : Names) (wanted : List Lit) (certs : List Cert) (ls : List Lit) (t : OpenTransfer) (p : Pending) (ms : List CertLine) → t.owed ≡ length t.parts + length ls → Settled ns (so_far wanted certs t) p ms
    → Goes (fed p ms) (each_from (λ l. part_from ns) ls ms) (Closes ns wanted certs t)
parts_run ns wanted certs [] t p ms e s = (
  p,
  refl,
  settled_as ns (so_far wanted certs t) (closed wanted certs (with_parts t [])) p ms
      (all_come wanted certs t (length t.parts == t.owed) (same_count (length t.parts) t.owed e) ∙ ap (λ (xs : List Part). closed wanted certs (record t { parts = xs })) (sym (append-nil t.parts))) s,
)
parts_run ns wanted certs (l ∷ ls) t p ms e s =
    let d = settled_as ns (so_far wanted certs t) (partly wanted certs t) p ms (some_owed wanted certs t (length t.parts == t.owed) (other_count (length t.parts) t.owed (length ls) e)) s in
    goes_on (fed p ms) (part_from ns ms) _ (Counts ns Part (λ x. so_far wanted certs (with_part t x))) (Closes ns wanted certs t)
    (part_run ns (partly wanted certs t) (λ x. so_far wanted certs (with_part t x)) (expects_part wanted certs t) p ms d (no_transfer ns wanted certs t ms))
    (λ x q rest k. goes_on (fed q rest) (each_from (λ l. part_from ns) ls rest) _ (Closes ns wanted certs (with_part t x)) (Closes ns wanted certs t)
    (parts_run ns wanted certs ls (with_part t x) q rest (omega (arith, e, length-append t.parts (x ∷ []))) k)
    (λ xs r last c. (
      r,
      refl,
      settled_as ns (closed wanted certs (with_parts (with_part t x) xs)) (closed wanted certs (with_parts t (x ∷ xs))) r last
          (ap (λ (ys : List Part). closed wanted certs (record t { parts = ys })) (append_assoc t.parts (x ∷ []) xs)) c,
    )))

-- ---- a certificate

abbrev whole : List Lit → List Cert → Obligation
whole wanted certs = due.Literals wanted certs None

abbrev one_more : List Lit → List Cert → Cert → Obligation
one_more wanted certs c = whole wanted (certs ++ c ∷ [])

put_where : (b : Bool) (d : Obligation) → b ≡ true → cond b (due_is d) (Err Malformed) ≡ due_is d
put_where true d e = refl
put_where false d e = absurd cc

lacks_where : (b : Bool) (k : Result (Option StepCerts) FaultKind) → b ≡ true → IsFault (cond b (Err Malformed) k)
lacks_where true k e = tt
lacks_where false k e = absurd cc

expects_cert : (wanted : List Lit) (certs : List Cert) → has_more wanted certs ≡ true → Expects (whole wanted certs) (λ x. one_more wanted certs (Plain x))
expects_cert wanted certs h = record {
  put = λ x. put_where (has_more wanted certs) (one_more wanted certs (Plain x)) h;
  metric = λ m. refl;
  takes = h;
  lacks = lacks_where (has_more wanted certs) _ h;
  clash = λ l. tt;
}

plain_run : (ns : Names) (wanted : List Lit) (certs : List Cert) (p : Pending) (ms : List CertLine) → has_more wanted certs ≡ true → Settled ns (whole wanted certs) p ms → NoTransfer ns (whole wanted certs) ms
    → Goes (fed p ms) (part_from ns ms >>= λ p. Ok (Plain p.0, p.1)) (Counts ns Cert (one_more wanted certs))
plain_run ns wanted certs p ms h s n =
    goes_on (fed p ms) (part_from ns ms) _ (Counts ns Part (λ x. one_more wanted certs (Plain x))) (Counts ns Cert (one_more wanted certs))
    (part_run ns (whole wanted certs) (λ x. one_more wanted certs (Plain x)) (expects_cert wanted certs h) p ms s n) (λ x q rest k. (q, refl, k))

transfer_run : (ns : Names) (wanted : List Lit) (certs : List Cert) (l : Lit) (ms : List CertLine) (i : ℕ × List Obj × List Lit)
    → Goes ((transfer_put wanted certs (opened l i) >>= λ x. Ok (due_after (clear ns (whole wanted certs)) x)) >>= λ o. fed o ms) (each_from (λ l. part_from ns) (others i.2 l) ms >>= λ ps. Ok (Transfer (record { rule = i.0; args = i.1; parts = ps.0 }), ps.1)) (Counts ns Cert (one_more wanted certs))
transfer_run ns wanted certs l ms i =
    let d = so_far wanted certs (opened l i) in
    goes_same _ (fed (clear ns d) ms) _ (Counts ns Cert (one_more wanted certs)) (ap (λ (r : Result Obligation FaultKind). (r >>= λ x. Ok (due_after (clear ns (whole wanted certs)) x)) >>= λ o. fed o ms) (put_is wanted certs (opened l i)))
    (goes_on (fed (clear ns d) ms) (each_from (λ l. part_from ns) (others i.2 l) ms) _ (Closes ns wanted certs (opened l i)) (Counts ns Cert (one_more wanted certs))
    (parts_run ns wanted certs (others i.2 l) (opened l i) (clear ns d) ms (omega arith) (inl refl)) (λ ps q rest k. (q, refl, k)))

begun_so : (ns : Names) (wanted : List Lit) (certs : List Cert) (l : Lit) (title : List ℕ) (raws : List (List ℕ)) → slice_get wanted (length certs) ≡ Some l
    → transfer_begun ns (whole wanted certs) title raws ≡ (instance_in ns title raws >>= λ i. transfer_put wanted certs (opened l i))
begun_so ns wanted certs l title raws e =
    ap (λ (o : Option Lit). or_malformed o >>= λ l. open_transfer_in ns l title raws >>= λ t. transfer_put wanted certs t) e ∙ ap (λ (r : Result OpenTransfer FaultKind). r >>= λ t. transfer_put wanted certs t) (same_instance ns l title raws)
    ∙ sym (bind_over (instance_in ns title raws) (λ i. Ok (opened l i)) (λ t. transfer_put wanted certs t) (λ i. transfer_put wanted certs (opened l i)) (λ i. refl))

looked_in : {A B C : Type 0} (q : Result B FaultKind) (g : B → Result C FaultKind) (k : C → Result Pending FaultKind) (k' : Pending → Result Pending FaultKind) (f : B → Begins A) (K : After A) → ((x : B) → Goes ((g x >>= k) >>= k') (f x) K) → Goes (((q >>= g) >>= k) >>= k') (or_wrong q >>= f) K
looked_in (Ok x) g k k' f K h = h x
looked_in (Err e) g k k' f K h = tt

cert_run : (ns : Names) (wanted : List Lit) (certs : List Cert) (l : Lit) (p : Pending) (ms : List CertLine) → has_more wanted certs ≡ true → slice_get wanted (length certs) ≡ Some l → Settled ns (whole wanted certs) p ms
    → Goes (fed p ms) (cert_from ns l ms) (Counts ns Cert (one_more wanted certs))
unfolding after_cert_line
cert_run ns wanted certs l p (certlines.Transfer t raws ∷ ms) h e s =
    goes_same _ _ _ (Counts ns Cert (one_more wanted certs))
    (fed_clear ns (whole wanted certs) p (certlines.Transfer t raws) ms tt s ∙ ap (λ (r : Result Obligation FaultKind). (r >>= λ x. Ok (due_after (clear ns (whole wanted certs)) x)) >>= λ o. fed o ms) (begun_so ns wanted certs l t raws e))
    (looked_in (instance_in ns t raws) (λ i. transfer_put wanted certs (opened l i)) (λ x. Ok (due_after (clear ns (whole wanted certs)) x)) (λ o. fed o ms) _ (Counts ns Cert (one_more wanted certs)) (transfer_run ns wanted certs l ms))
cert_run ns wanted certs l p [] h e s = plain_run ns wanted certs p [] h s tt
cert_run ns wanted certs l p (certlines.Fact ∷ ms) h e s = plain_run ns wanted certs p (certlines.Fact ∷ ms) h s tt
cert_run ns wanted certs l p (certlines.FactAt k ∷ ms) h e s = plain_run ns wanted certs p (certlines.FactAt k ∷ ms) h s tt
cert_run ns wanted certs l p (certlines.Metric ∷ ms) h e s = plain_run ns wanted certs p (certlines.Metric ∷ ms) h s tt
cert_run ns wanted certs l p (certlines.Clash raw ∷ ms) h e s = plain_run ns wanted certs p (certlines.Clash raw ∷ ms) h s tt
cert_run ns wanted certs l p (certlines.Sum ∷ ms) h e s = plain_run ns wanted certs p (certlines.Sum ∷ ms) h s tt
cert_run ns wanted certs l p (certlines.Row k raw ∷ ms) h e s = plain_run ns wanted certs p (certlines.Row k raw ∷ ms) h s tt
cert_run ns wanted certs l p (certlines.Differs raw ∷ ms) h e s = plain_run ns wanted certs p (certlines.Differs raw ∷ ms) h s tt

-- ---- certificates

at_front : (front : List Lit) (l : Lit) (ls : List Lit) → slice_get (front ++ l ∷ ls) (length front) ≡ Some l
at_front [] l ls = refl
at_front (x ∷ front) l ls = at_front front l ls

abbrev AllCertified : Names → List Lit → List Cert → List Lit → After (List Cert)
AllCertified ns wanted certs ls cs q rest = Settled ns (whole wanted (certs ++ cs)) q rest × (length cs ≡ length ls)

certs_run : (ns : Names) (wanted front : List Lit) (certs : List Cert) (ls : List Lit) (p : Pending) (ms : List CertLine) → wanted ≡ front ++ ls → length certs ≡ length front → Settled ns (whole wanted certs) p ms
    → Goes (fed p ms) (each_from (cert_from ns) ls ms) (AllCertified ns wanted certs ls)
certs_run ns wanted front certs [] p ms e c s = (p, refl, (settled_as ns (whole wanted certs) (whole wanted (certs ++ [])) p ms (ap (λ (xs : List Cert). whole wanted xs) (sym (append-nil certs))) s, refl))
certs_run ns wanted front certs (l ∷ ls) p ms e c s =
    let more : has_more wanted certs ≡ true = lt-ltb (length certs) (length wanted) (omega (arith, c, ap length e, length-append front (l ∷ ls))) in
    let next : slice_get wanted (length certs) ≡ Some l = ap (λ (n : ℕ). slice_get wanted n) c ∙ ap (λ (xs : List Lit). slice_get xs (length front)) e ∙ at_front front l ls in
    goes_on (fed p ms) (cert_from ns l ms) _ (Counts ns Cert (one_more wanted certs)) (AllCertified ns wanted certs (l ∷ ls)) (cert_run ns wanted certs l p ms more next s)
    (λ x q rest k. goes_on (fed q rest) (each_from (cert_from ns) ls rest) _ (AllCertified ns wanted (certs ++ x ∷ []) ls) (AllCertified ns wanted certs (l ∷ ls))
    (certs_run ns wanted (front ++ l ∷ []) (certs ++ x ∷ []) ls q rest (e ∙ sym (append_assoc front (l ∷ []) ls)) (omega (arith, c, length-append certs (x ∷ []), length-append front (l ∷ []))) k)
    (λ xs r last a. (r, refl, (settled_as ns (whole wanted ((certs ++ x ∷ []) ++ xs)) (whole wanted (certs ++ x ∷ xs)) r last (ap (λ (ys : List Cert). whole wanted ys) (append_assoc certs (x ∷ []) xs)) a.0, ap suc a.1))))

-- ---- a contradiction

against_run : (ns : Names) (ms : List CertLine) → Goes (fed (clear ns (due.Contradiction None)) ms) (against_from ns ms) (Counts ns Against (λ a. due.Contradiction (Some a)))
unfolding after_cert_line finish_certs
against_run ns [] = (clear ns (due.Contradiction None), refl, tt)
against_run ns (certlines.Clash raw ∷ ms) = looked (lit_in ns raw) (λ l. Ok (clear ns (due.Contradiction (Some (against.Clash l))))) (λ o. fed o ms) _ (Counts ns Against (λ a. due.Contradiction (Some a)))
    (λ l. (clear ns (due.Contradiction (Some (against.Clash l))), refl, inl refl))
against_run ns (certlines.Metric ∷ ms) =
    goes_on (fed (at ns (due.Contradiction None) sums.Begun) ms) (sums_from ns ms) _ (SumsRead ns (due.Contradiction None)) (Counts ns Against (λ a. due.Contradiction (Some a))) (sums_run ns (due.Contradiction None) ms)
    (λ all q rest k. (q, refl, inr (record { due = due.Contradiction None; open_sums = k.0; all = all; is = k.1; ends = k.2; put = refl; over = k.3 })))
against_run ns (certlines.Fact ∷ ms) = tt
against_run ns (certlines.FactAt k ∷ ms) = tt
against_run ns (certlines.Transfer t raws ∷ ms) = tt
against_run ns (certlines.Row k raw ∷ ms) = off_clear ns (due.Contradiction None) (certlines.Row k raw) ms (λ h. h)
against_run ns (certlines.Sum ∷ ms) = off_clear ns (due.Contradiction None) certlines.Sum ms (λ h. h)
against_run ns (certlines.Differs raw ∷ ms) = off_clear ns (due.Contradiction None) (certlines.Differs raw) ms (λ h. h)

-- ---- all that is owed

record Finished (e : Obligation) : Type 0 where
  parts : (x : Part) → IsFault (part_put e x)
  metric : takes_metric e ≡ false
  transfer : (ns : Names) (t : List ℕ) (raws : List (List ℕ)) → IsFault (transfer_begun ns e t raws)
  clash : (l : Lit) → IsFault (clash_put e l)

abbrev pending_is : Pending → Result Pending FaultKind
pending_is x = Ok x

refused_if : (b : Bool) (x : Pending) → b ≡ false → IsFault (cond b (pending_is x) (Err Malformed))
refused_if false x e = tt
refused_if true x e = absurd cc

past_clear : (ns : Names) (e : Obligation) (m : CertLine) (ms : List CertLine) → Finished e → IsFault (fed (clear ns e) (m ∷ ms))
unfolding after_cert_line
past_clear ns e certlines.Fact ms f = fault_then (part_put e parts.Fact >>= λ x. Ok (due_after (clear ns e) x)) _ (fault_then (part_put e parts.Fact) _ (f.parts parts.Fact))
past_clear ns e (certlines.FactAt k) ms f = fault_then (part_put e (parts.FactAt k) >>= λ x. Ok (due_after (clear ns e) x)) _ (fault_then (part_put e (parts.FactAt k)) _ (f.parts (parts.FactAt k)))
past_clear ns e certlines.Metric ms f = fault_then (cond (takes_metric e) (Ok (sums_after (clear ns e) sums.Begun)) (Err Malformed)) _ (refused_if (takes_metric e) (sums_after (clear ns e) sums.Begun) f.metric)
past_clear ns e (certlines.Transfer t raws) ms f = fault_then (transfer_begun ns e t raws >>= λ x. Ok (due_after (clear ns e) x)) _ (fault_then (transfer_begun ns e t raws) _ (f.transfer ns t raws))
past_clear ns e (certlines.Clash raw) ms f = fault_then (lit_in ns raw >>= λ l. clash_put e l >>= λ x. Ok (due_after (clear ns e) x)) _ (fault_after (lit_in ns raw) _ (λ l. fault_then (clash_put e l) _ (f.clash l)))
past_clear ns e (certlines.Row k raw) ms f = off_clear ns e (certlines.Row k raw) ms (λ h. h)
past_clear ns e certlines.Sum ms f = off_clear ns e certlines.Sum ms (λ h. h)
past_clear ns e (certlines.Differs raw) ms f = off_clear ns e (certlines.Differs raw) ms (λ h. h)

past : (ns : Names) (e : Obligation) (p : Pending) (m : CertLine) (ms : List CertLine) → Finished e → Settled ns e p (m ∷ ms) → IsFault (fed p (m ∷ ms))
past ns e p certlines.Fact ms f s = subst IsFault (sym (fed_clear ns e p certlines.Fact ms tt s)) (past_clear ns e certlines.Fact ms f)
past ns e p (certlines.FactAt k) ms f s = subst IsFault (sym (fed_clear ns e p (certlines.FactAt k) ms tt s)) (past_clear ns e (certlines.FactAt k) ms f)
past ns e p certlines.Metric ms f s = subst IsFault (sym (fed_clear ns e p certlines.Metric ms tt s)) (past_clear ns e certlines.Metric ms f)
past ns e p (certlines.Transfer t raws) ms f s = subst IsFault (sym (fed_clear ns e p (certlines.Transfer t raws) ms tt s)) (past_clear ns e (certlines.Transfer t raws) ms f)
past ns e p (certlines.Clash raw) ms f s = subst IsFault (sym (fed_clear ns e p (certlines.Clash raw) ms tt s)) (past_clear ns e (certlines.Clash raw) ms f)
past ns e p (certlines.Row k raw) ms f s = off ns e p (certlines.Row k raw) ms (λ h. h) s
past ns e p certlines.Sum ms f s = off ns e p certlines.Sum ms (λ h. h) s
past ns e p (certlines.Differs raw) ms f s = off ns e p (certlines.Differs raw) ms (λ h. h) s

abbrev Done : Names → After (Option StepCerts)
Done ns k q rest = (e : Obligation) × Settled ns e q rest × (kept_of e ≡ Ok k) × Finished e

abbrev pub obligation_of : Due → Obligation
obligation_of Nothing = due.Nothing
obligation_of (Certificates wanted) = due.Literals wanted [] None
obligation_of OfContradiction = due.Contradiction None

abbrev kept_is : Option StepCerts → Result (Option StepCerts) FaultKind
kept_is k = Ok k

kept_where : (b : Bool) (k : Option StepCerts) → b ≡ false → cond b (Err Malformed) (kept_is k) ≡ kept_is k
kept_where false k e = refl
kept_where true k e = absurd cc

no_more_put : (b : Bool) (d : Obligation) → b ≡ false → IsFault (cond b (due_is d) (Err Malformed))
no_more_put false d e = tt
no_more_put true d e = absurd cc

fault_of : (o : Option Lit) (g : Lit → Result Obligation FaultKind) → o ≡ None → IsFault (or_malformed o >>= g)
fault_of None g e = tt
fault_of (Some l) g e = absurd cc

finished_certs : (wanted : List Lit) (cs : List Cert) → length cs ≡ length wanted → Finished (whole wanted cs)
finished_certs wanted cs e =
    let full : has_more wanted cs ≡ false = le-ltb (length cs) (length wanted) (omega (arith, e)) in
    record {
      parts = λ x. no_more_put (has_more wanted cs) (one_more wanted cs (Plain x)) full;
      metric = full;
      transfer = λ ns t raws. fault_of (slice_get wanted (length cs)) _ (slice_get_past wanted (length cs) (omega (arith, e)));
      clash = λ l. tt;
    }

due_run : (ns : Names) (d : Due) (ms : List CertLine) → Goes (fed (clear ns (obligation_of d)) ms) (due_from ns d ms) (Done ns)
due_run ns Nothing ms = (clear ns due.Nothing, refl, (due.Nothing, inl refl, refl, record { parts = λ x. tt; metric = refl; transfer = λ ns t raws. tt; clash = λ l. tt }))
due_run ns (Certificates wanted) ms =
    goes_on (fed (clear ns (whole wanted [])) ms) (each_from (cert_from ns) wanted ms) _ (AllCertified ns wanted [] wanted) (Done ns) (certs_run ns wanted [] [] wanted (clear ns (whole wanted [])) ms refl refl (inl refl))
    (λ cs q rest k. (q, refl, (whole wanted cs, k.0, kept_where (has_more wanted cs) (Some (kept.Certs cs)) (le-ltb (length cs) (length wanted) (omega (arith, k.1))), finished_certs wanted cs k.1)))
due_run ns OfContradiction ms =
    goes_on (fed (clear ns (due.Contradiction None)) ms) (against_from ns ms) _ (Counts ns Against (λ a. due.Contradiction (Some a))) (Done ns) (against_run ns ms)
    (λ a q rest k. (q, refl, (due.Contradiction (Some a), k, refl, record { parts = λ x. tt; metric = refl; transfer = λ ns t raws. tt; clash = λ l. tt })))

-- what lines make of what is owed, and what they are: all of it, a front of it, or wrong
abbrev pub Agrees : Result Pending FaultKind → Result (Option StepCerts) Lack → Type 0
Agrees r (Ok k) = (p : Pending) × (r ≡ Ok p) × (finish_certs p ≡ Ok k)
Agrees r (Err More) = (p : Pending) × (r ≡ Ok p) × IsFault (finish_certs p)
Agrees r (Err Wrong) = IsFault r

agrees : (ns : Names) (r : Result Pending FaultKind) (b : Begins (Option StepCerts)) → Goes r b (Done ns) → Agrees r (b >>= λ x. if_none_left x.0 x.1)
agrees ns r (Ok (k, [])) g = (g.0, g.1, finish_clear ns g.2.0 g.0 [] g.2.1 ∙ g.2.2)
agrees ns r (Ok (k, m ∷ ms)) g = subst IsFault (sym g.1) (past ns g.2.0 g.0 m ms g.2.3 g.2.1)
agrees ns r (Err More) g = g
agrees ns r (Err Wrong) g = g

pub below_fed : (ns : Names) (d : Due) (ms : List CertLine) → Agrees (fed (record { names = ns; due = obligation_of d; sums = None }) ms) (below ns d ms)
below_fed ns d ms = agrees ns (fed (clear ns (obligation_of d)) ms) (due_from ns d ms) (due_run ns d ms)
