-- The lines of certificates are read as these certificates.
use Rattle.std.proofs.Common.{◌≡◌, ℕ, ◌+◌, ◌<◌, Bool, true, false, cond, eqb, ltb, List, [], ◌∷◌, ◌++◌, length, map, Option, Some, None, Result, Ok, refl, sym, ap, subst, ◌∙◌, arith, append_assoc, length-append}
use Rattle.std.specs.Prelude.{slice_get}
use Rattle.std.specs.List.{list_all, flat_map, AllByRecursion}
use Rattle.std.specs.Option.{option_to_list}
use Rattle.std.proofs.lemmas.Bool.{lt-ltb, le-ltb, eq-eqb, ne_eqb, and_parts}
use Rattle.std.proofs.lemmas.List.{append-nil}
use Rattle.e_literal.specs.declared.object.Obj.{Obj}
use Rattle.e_literal.specs.declared.literal.Lit.{Lit}
use Rattle.e_literal.specs.Literal.{all_in_scope}
use Rattle.e_clause.specs.declared.cert.Part.{Part}
use Rattle.e_clause.specs.declared.cert.Cert.{Cert}
use Rattle.e_clause.specs.declared.cert.Cert.TheVariants.{Plain, Transfer}
use Rattle.e_clause.specs.declared.cert.Against.{Against}
use Rattle.e_clause.specs.declared.cert.Against.TheVariants as against
use Rattle.e_deriv.specs.declared.names.Names.{Names}
use Rattle.e_line.specs.declared.fault.FaultKind.{FaultKind}
use Rattle.e_names.specs.Scope.{scope_of_names}
use Rattle.e_names.specs.Fits.{is_diagram_lit}
use Rattle.e_names.specs.Canonical.{raw_of, name_of_object, rule_name}
use Rattle.e_names.proofs.resolution.Lookups.{InOrder, objects_named}
use Rattle.e_names.proofs.resolution.LitLookups.{lit_number_again, lit_named, diagram_is_well_formed, diagram_is_raw}
use Rattle.e_cert.specs.declared.cert_line.CertLine.TheVariants as certlines
use Rattle.e_cert.specs.declared.owed.Obligation.{Obligation}
use Rattle.e_cert.specs.declared.owed.Obligation.TheVariants as due
use Rattle.e_cert.specs.declared.owed.Pending.{Pending}
use Rattle.e_cert.specs.declared.kept.StepCerts.{StepCerts}
use Rattle.e_cert.specs.declared.kept.StepCerts.TheVariants as kept
use Rattle.e_cert.specs.Owed.{certificate, transfer_put, part_put, after_cert_line, finish_certs}
use Rattle.e_read.specs.inner.Needs.{one_each}
use Rattle.e_spell.specs.Certificates.{part_lines, cert_lines, against_lines}
use Rattle.e_roundtrip.proofs.Certificates.Feeding.{Fed, owing, Ends, Puts, puts_append, GoodSums, metric_fed, GoodPart, part_fed}
use Rattle.e_clause.specs.declared.cert.Version.{Version}
use Rattle.e_clause.specs.Versions.{is_cert_of, is_against_of}
use Rattle.e_cert.proofs.FormsOfCertificates.{AreOfVersion}
use Rattle.e_roundtrip.proofs.Certificates.VersionLines.{LinesOf, lines_append, metric_of, part_of, parts_of}
use Rattle.e_roundtrip.proofs.Certificates.TransfersAgain.{GoodTransfer, part_way, rule_titled, transfer_again}

-- ---- transfers

-- what is due after these parts of a transfer that has this many in all
abbrev after : List Lit → List Cert → ℕ → List Obj → ℕ → List Part → Obligation
after wanted certs rule args n done =
    let t = part_way rule args done n in
    cond (eqb (length done) n) (due.Literals wanted (certs ++ certificate t ∷ []) None) (due.Literals wanted certs (Some t))

chosen : (b : Bool) (x y : Obligation) → let ok : Obligation → Result Obligation FaultKind = λ d. Ok d in cond b (ok x) (ok y) ≡ ok (cond b x y)
chosen true x y = refl
chosen false x y = refl

put_is : (wanted : List Lit) (certs : List Cert) (rule : ℕ) (args : List Obj) (n : ℕ) (done : List Part) → transfer_put wanted certs (part_way rule args done n) ≡ Ok (after wanted certs rule args n done)
put_is wanted certs rule args n done =
    let t = part_way rule args done n in
    chosen (eqb (length done) n) (due.Literals wanted (certs ++ certificate t ∷ []) None) (due.Literals wanted certs (Some t))

-- the certificate with these parts
abbrev whole : ℕ → List Obj → List Part → Cert
whole rule args done = Transfer (record { rule = rule; args = args; parts = done })

parts_fed : (ns : Names) (o : Pending) (wanted : List Lit) (certs : List Cert) (rule : ℕ) (args : List Obj) (n : ℕ) (done more : List Part) → InOrder ns → Ends ns o (after wanted certs rule args n done)
    → AllByRecursion (GoodPart ns) more → length done + length more ≡ n → Puts ns o (flat_map (part_lines ns) more) (due.Literals wanted (certs ++ whole rule args (done ++ more) ∷ []) None)
parts_fed ns o wanted certs rule args n done [] order ends g count =
    let all : eqb (length done) n ≡ true = eq-eqb _ _ (omega (arith, count)) in
    let is : after wanted certs rule args n done ≡ due.Literals wanted (certs ++ whole rule args (done ++ []) ∷ []) None =
    rw all (ap (λ (ps : List Part). due.Literals wanted (certs ++ whole rule args ps ∷ []) None) (sym (append-nil done))) in
    record { last = o; fed = refl; ends = ends ∙ ap (λ (d : Obligation). Ok (owing ns d None)) is }
parts_fed ns o wanted certs rule args n done (p ∷ more) order ends g count =
    let next = done ++ p ∷ [] in
    let part : eqb (length done) n ≡ false = ne_eqb _ _ (λ e. absurd (omega (arith, e, count))) in
    let begun : Obligation = due.Literals wanted certs (Some (part_way rule args done n)) in
    let is : after wanted certs rule args n done ≡ begun = rw part refl in
    let one = part_fed ns o begun (after wanted certs rule args n next) p order (ends ∙ ap (λ (d : Obligation). Ok (owing ns d None)) is) g.0 (put_is wanted certs rule args n next) in
    let rest = parts_fed ns one.last wanted certs rule args n next more order one.ends g.1 (omega (arith, count, length-append done (p ∷ []))) in
    let all = puts_append ns o (part_lines ns p) (flat_map (part_lines ns) more) (after wanted certs rule args n next) (due.Literals wanted (certs ++ whole rule args (next ++ more) ∷ []) None) one rest in
    subst (λ (ps : List Part). Puts ns o (flat_map (part_lines ns) (p ∷ more)) (due.Literals wanted (certs ++ whole rule args ps ∷ []) None)) (append_assoc done (p ∷ []) more) all

-- ---- certificates

-- a certificate of this literal that has a form
abbrev pub GoodCert : Names → Lit → Cert → Type 0
GoodCert ns l (Plain p) = GoodPart ns p
GoodCert ns l (Transfer t) = GoodTransfer ns l t

cert_fed : (ns : Names) (o : Pending) (wanted : List Lit) (done : List Cert) (l : Lit) (c : Cert) → InOrder ns → Ends ns o (due.Literals wanted done None) → slice_get wanted (length done) ≡ Some l → length done < length wanted
    → GoodCert ns l c → Puts ns o (cert_lines ns c) (due.Literals wanted (done ++ c ∷ []) None)
unfolding after_cert_line
cert_fed ns o wanted done l (Plain p) order ends at more g =
    let room : ltb (length done) (length wanted) ≡ true = lt-ltb _ _ more in
    let put : part_put (due.Literals wanted done None) p ≡ Ok (due.Literals wanted (done ++ Plain p ∷ []) None) = rw room refl in
    part_fed ns o (due.Literals wanted done None) (due.Literals wanted (done ++ Plain p ∷ []) None) p order ends g put
cert_fed ns o wanted done l (Transfer t) order ends at more g =
    let n = length t.parts in
    let begun = owing ns (after wanted done t.rule t.args n []) None in
    let rest = parts_fed ns begun wanted done t.rule t.args n [] t.parts order refl g.parts (omega arith) in
    record {
      last = rest.last;
      fed = (
        begun,
        record {
          cert_line = certlines.Transfer (rule_name t.rule) (map (name_of_object ns) t.args);
          spelled = refl;
          named = (rule_titled t.rule t.args g.lits g.instance, objects_named ns t.args order g.args);
          leads = rw (ends, at, transfer_again ns l t order g, put_is wanted done t.rule t.args n []) refl;
        },
        rest.fed,
      );
      ends = rest.ends;
    }

-- one for each literal
abbrev pub GoodCerts : Names → List Lit → List Cert → Type 0
GoodCerts ns [] [] = Unit {0}
GoodCerts ns [] (c ∷ cs) = ⊥
GoodCerts ns (l ∷ ls) [] = ⊥
GoodCerts ns (l ∷ ls) (c ∷ cs) = GoodCert ns l c × GoodCerts ns ls cs

as_many : (ns : Names) (ls : List Lit) (cs : List Cert) → GoodCerts ns ls cs → length cs ≡ length ls
as_many ns [] [] g = refl
as_many ns [] (c ∷ cs) g = absurd g
as_many ns (l ∷ ls) [] g = absurd g
as_many ns (l ∷ ls) (c ∷ cs) g = omega (arith, as_many ns ls cs g.1)

at_front : (front : List Lit) (l : Lit) (ls : List Lit) → slice_get (front ++ l ∷ ls) (length front) ≡ Some l
at_front [] l ls = refl
at_front (x ∷ front) l ls = at_front front l ls

certs_fed : (ns : Names) (o : Pending) (front ls : List Lit) (done cs : List Cert) → InOrder ns → Ends ns o (due.Literals (front ++ ls) done None) → length done ≡ length front → GoodCerts ns ls cs
    → Puts ns o (flat_map (cert_lines ns) cs) (due.Literals (front ++ ls) (done ++ cs) None)
certs_fed ns o front [] done [] order ends count g =
    subst (λ (all : List Cert). Puts ns o [] (due.Literals (front ++ []) all None)) (sym (append-nil done)) (record { last = o; fed = refl; ends = ends })
certs_fed ns o front [] done (c ∷ cs) order ends count g = absurd g
certs_fed ns o front (l ∷ ls) done [] order ends count g = absurd g
certs_fed ns o front (l ∷ ls) done (c ∷ cs) order ends count g =
    let wanted = front ++ l ∷ ls in
    let next = front ++ l ∷ [] in
    let more = done ++ c ∷ [] in
    let same : next ++ ls ≡ wanted = append_assoc front (l ∷ []) ls in
    let at : slice_get wanted (length done) ≡ Some l = ap (slice_get wanted) count ∙ at_front front l ls in
    let one = cert_fed ns o wanted done l c order ends at (omega (arith, count, length-append front (l ∷ ls))) g.0 in
    let rest = certs_fed ns one.last next ls more cs order (one.ends ∙ ap (λ (w : List Lit). Ok (owing ns (due.Literals w more None) None)) (sym same)) (omega (arith, count, length-append done (c ∷ []), length-append front (l ∷ []))) g.1 in
    let moved = subst (λ (w : List Lit). Puts ns one.last (flat_map (cert_lines ns) cs) (due.Literals w (more ++ cs) None)) same rest in
    let all = puts_append ns o (cert_lines ns c) (flat_map (cert_lines ns) cs) (due.Literals wanted more None) (due.Literals wanted (more ++ cs) None) one moved in
    subst (λ (x : List Cert). Puts ns o (flat_map (cert_lines ns) (c ∷ cs)) (due.Literals wanted x None)) (append_assoc done (c ∷ []) cs) all

-- ---- lines of one version

cert_of : (v : Version) (ns : Names) (l : Lit) (c : Cert) → InOrder ns → GoodCert ns l c → is_cert_of v c ≡ true → LinesOf v (cert_lines ns c)
cert_of v ns l (Plain p) o g h = part_of v ns p o g h
cert_of v ns l (Transfer t) o g h = (
  (
    certlines.Transfer (rule_name t.rule) (map (name_of_object ns) t.args),
    refl,
    (rule_titled t.rule t.args g.lits g.instance, objects_named ns t.args o g.args),
    refl,
  ),
  parts_of v ns t.parts o g.parts h,
)

certs_of : (v : Version) (ns : Names) (ls : List Lit) (cs : List Cert) → InOrder ns → GoodCerts ns ls cs → list_all (is_cert_of v) cs ≡ true → LinesOf v (flat_map (cert_lines ns) cs)
certs_of v ns [] [] o g h = tt
certs_of v ns [] (c ∷ cs) o g h = absurd g
certs_of v ns (l ∷ ls) [] o g h = absurd g
certs_of v ns (l ∷ ls) (c ∷ cs) o g h =
    let p = and_parts (is_cert_of v c) (list_all (is_cert_of v) cs) h in
    lines_append v (cert_lines ns c) (flat_map (cert_lines ns) cs) (cert_of v ns l c o g.0 p.0) (certs_of v ns ls cs o g.1 p.1)

-- ---- what is kept after them

-- the lines are taken, and then this is kept; where that is of a version, the lines have a form in it
pub record Keeps (ns : Names) (d : Obligation) (lines : List (List (List ℕ))) (k : Option StepCerts) : Type 0 where
  pub last : Pending
  pub fed : Fed (owing ns d None) lines last
  pub settles : finish_certs last ≡ Ok k
  pub of : (v : Version) → AreOfVersion v (option_to_list k) → LinesOf v lines

pub certs_kept : (ns : Names) (wanted : List Lit) (cs : List Cert) → InOrder ns → GoodCerts ns wanted cs → Keeps ns (one_each wanted) (flat_map (cert_lines ns) cs) (Some (kept.Certs cs))
unfolding finish_certs
certs_kept ns wanted cs order g =
    let p = certs_fed ns (owing ns (one_each wanted) None) [] wanted [] cs order refl refl g in
    let all : ltb (length cs) (length wanted) ≡ false = le-ltb _ _ (omega (arith, as_many ns wanted cs g)) in
    record { last = p.last; fed = p.fed; settles = rw (p.ends, all) refl; of = λ v h. certs_of v ns wanted cs order g (and_parts (list_all (is_cert_of v) cs) true h).0 }

pub nothing_kept : (ns : Names) → Keeps ns due.Nothing [] None
unfolding finish_certs
nothing_kept ns = record { last = owing ns due.Nothing None; fed = refl; settles = refl; of = λ v h. tt }

-- a certificate of a contradiction that has a form
abbrev pub GoodAgainst : Names → Against → Type 0
GoodAgainst ns (against.Clash l) = (all_in_scope (scope_of_names ns) l ≡ true) × (is_diagram_lit l ≡ true)
GoodAgainst ns (against.Metric m) = GoodSums ns m.sums

pub against_kept : (ns : Names) (a : Against) → InOrder ns → GoodAgainst ns a → Keeps ns (due.Contradiction None) (against_lines ns a) (Some (kept.Against a))
unfolding after_cert_line finish_certs
against_kept ns (against.Clash l) order g =
    let good = diagram_is_well_formed l g.1 in
    record {
      last = owing ns (due.Contradiction (Some (against.Clash l))) None;
      fed = (
        owing ns (due.Contradiction (Some (against.Clash l))) None,
        record {
          cert_line = certlines.Clash (raw_of ns l);
          spelled = refl;
          named = (lit_named ns l order g.0 good, diagram_is_raw ns l g.1);
          leads = rw (lit_number_again ns l order g.0 good) refl;
        },
        refl,
      );
      settles = refl;
      of = λ v h. ((certlines.Clash (raw_of ns l), refl, (lit_named ns l order g.0 good, diagram_is_raw ns l g.1), refl), tt);
    }
against_kept ns (against.Metric m) order g =
    let p = metric_fed ns (owing ns (due.Contradiction None) None) (due.Contradiction None) (due.Contradiction (Some (against.Metric m))) m order refl g refl in
    record { last = p.last; fed = p.fed; settles = rw p.ends refl; of = λ v h. metric_of v ns m order g (and_parts (is_against_of v (against.Metric m)) true h).0 }
