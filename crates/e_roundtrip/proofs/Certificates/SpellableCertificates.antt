-- Certificates that have a form can be spelled.
use Rattle.std.proofs.Common.{◌≡◌, ℤ, true, false, not, leb, ◌&&◌, List, [], ◌∷◌, length, is_some, refl, arith}
use Rattle.std.specs.Option.{option_map_or}
use Rattle.std.specs.List.{list_all, AllByRecursion}
use Rattle.std.proofs.lemmas.Bool.{leb-true, eqb-true, and_parts}
use Rattle.e_literal.specs.declared.literal.Atom.{Atom}
use Rattle.e_literal.specs.declared.literal.Atom.TheVariants as atoms
use Rattle.e_literal.specs.declared.literal.Lit.{Lit}
use Rattle.e_literal.specs.Literal.{kind_of_atom, all_in_scope}
use Rattle.e_literal.specs.Facts.{is_metric, others}
use Rattle.e_clause.specs.declared.cert.RowName.{RowName}
use Rattle.e_clause.specs.declared.cert.RowName.TheVariants as names
use Rattle.e_clause.specs.declared.cert.Sums.{Sums}
use Rattle.e_clause.specs.declared.cert.Sums.TheVariants.{One, Two}
use Rattle.e_clause.specs.declared.cert.Part.{Part}
use Rattle.e_clause.specs.declared.cert.Part.TheVariants as parts
use Rattle.e_clause.specs.declared.cert.Cert.{Cert}
use Rattle.e_clause.specs.declared.cert.Cert.TheVariants.{Plain, Transfer}
use Rattle.e_clause.specs.declared.cert.Against.{Against}
use Rattle.e_clause.specs.declared.cert.Against.TheVariants as against
use Rattle.e_clause.specs.Instance.{Inst}
use Rattle.e_clause.specs.RuleKinds.{is_transfer}
use Rattle.e_clause.specs.Sum.{is_nonzero_bounded, is_limited_sum}
use Rattle.e_clause.specs.MetricCertificate.{row_name_in, sum_in}
use Rattle.e_clause.specs.TransferCertificate.{are_args_in}
use Rattle.e_deriv.specs.declared.names.Names.{Names}
use Rattle.e_clause.specs.Written.{is_writable_name, is_writable_sum}
use Rattle.e_clause.proofs.Refuted.{found}
use Rattle.e_names.specs.Scope.{scope_of_names}
use Rattle.e_names.specs.Fits.{is_diagram_atom}
use Rattle.e_cert.specs.CertLines.{may_differ}
use Rattle.e_roundtrip.specs.Formed.{sum_formed, names_difference, difference_formed, sums_formed, part_formed, has_parts, cert_formed, certs_formed, against_formed}
use Rattle.e_roundtrip.proofs.Certificates.RowsAgain.{raw_row}
use Rattle.e_roundtrip.proofs.Certificates.Feeding.{GoodRow, GoodSum, GoodSums, GoodPart}
use Rattle.e_roundtrip.proofs.Certificates.CertsPut.{GoodCert, GoodCerts, GoodAgainst}

-- ---- sums

good_rows : (ns : Names) (xs : List (ℤ × RowName)) → sum_in (scope_of_names ns) xs ≡ true → is_writable_sum xs ≡ true → list_all (λ (x : ℤ × RowName). is_nonzero_bounded x.0) xs ≡ true → AllByRecursion (GoodRow ns) xs
good_rows ns [] w g m = tt
good_rows ns (x ∷ xs) w g m =
    let a = and_parts (row_name_in (scope_of_names ns) x.1) (sum_in (scope_of_names ns) xs) w in
    let b = and_parts (is_writable_name x.1) (is_writable_sum xs) g in
    let c = and_parts (is_nonzero_bounded x.0) (list_all (λ (x : ℤ × RowName). is_nonzero_bounded x.0) xs) m in
    (record { name = record { within = a.0; good = b.0 }; size = c.0 }, good_rows ns xs a.1 b.1 c.1)

good_sum : (ns : Names) (xs : List (ℤ × RowName)) → sum_formed (scope_of_names ns) xs ≡ true → GoodSum ns xs
good_sum ns xs h =
    let all = list_all (λ (x : ℤ × RowName). is_nonzero_bounded x.0) xs in
    let p = and_parts (is_limited_sum xs) (sum_in (scope_of_names ns) xs && is_writable_sum xs) h in
    let q = and_parts (sum_in (scope_of_names ns) xs) (is_writable_sum xs) p.1 in
    let a = and_parts (leb 1 (length xs)) (leb (length xs) 4096 && all) p.0 in
    let b = and_parts (leb (length xs) 4096) all a.1 in
    let some = leb-true 1 (length xs) a.0 in
    record { some = omega (arith, some); few = leb-true (length xs) 4096 b.0; each = good_rows ns xs q.0 q.1 b.1 }

-- a row that differs is the goal's or a fact's
may : (ns : Names) (differs : RowName) → names_difference differs ≡ true → may_differ (raw_row ns differs) ≡ true
may ns (names.Fact l) h = refl
may ns names.Goal h = refl
may ns (names.FactAt k) h = refl
may ns row h = absurd cc

good_sums : (ns : Names) (s : Sums) → sums_formed (scope_of_names ns) s ≡ true → GoodSums ns s
good_sums ns (One xs) h = good_sum ns xs h
good_sums ns (Two differs above below) h =
    let s = scope_of_names ns in
    let a = and_parts (difference_formed s differs) (sum_formed s above && sum_formed s below) h in
    let b = and_parts (sum_formed s above) (sum_formed s below) a.1 in
    let c = and_parts (names_difference differs) (row_name_in s differs && is_writable_name differs) a.0 in
    let d = and_parts (row_name_in s differs) (is_writable_name differs) c.1 in
    record {
      name = record { within = d.0; good = d.1 };
      may = may ns differs c.0;
      first = good_sum ns above b.0;
      second = good_sum ns below b.1;
    }

-- ---- certificates of literals

good_part : (ns : Names) (p : Part) → part_formed (scope_of_names ns) p ≡ true → GoodPart ns p
good_part ns parts.Fact h = tt
good_part ns (parts.Metric m) h = good_sums ns m.sums h
good_part ns (parts.FactAt k) h = h

good_parts : (ns : Names) (ps : List Part) → list_all (part_formed (scope_of_names ns)) ps ≡ true → AllByRecursion (GoodPart ns) ps
good_parts ns [] h = tt
good_parts ns (p ∷ ps) h = let a = and_parts (part_formed (scope_of_names ns) p) (list_all (part_formed (scope_of_names ns)) ps) h in (good_part ns p a.0, good_parts ns ps a.1)

good_cert : (ns : Names) (l : Lit) (c : Cert) → cert_formed (scope_of_names ns) l c ≡ true → GoodCert ns l c
good_cert ns l (Plain p) h = good_part ns p h
good_cert ns l (Transfer t) h =
    let s = scope_of_names ns in
    let instance = option_map_or (has_parts l t.parts) (Inst t.rule t.args) false in
    let a = and_parts (is_transfer t.rule) (instance && (are_args_in s t && list_all (part_formed s) t.parts)) h in
    let b = and_parts instance (are_args_in s t && list_all (part_formed s) t.parts) a.1 in
    let c = and_parts (are_args_in s t) (list_all (part_formed s) t.parts) b.1 in
    let i = found (has_parts l t.parts) (Inst t.rule t.args) b.0 in
    record { rule = a.0; lits = i.0; instance = i.1; count = eqb-true (length t.parts) (length (others i.0 l)) i.2; args = c.0; parts = good_parts ns t.parts c.1 }

pub good_certs : (ns : Names) (ls : List Lit) (cs : List Cert) → certs_formed (scope_of_names ns) ls cs ≡ true → GoodCerts ns ls cs
good_certs ns [] [] h = tt
good_certs ns [] (c ∷ cs) h = absurd cc
good_certs ns (l ∷ ls) [] h = absurd cc
good_certs ns (l ∷ ls) (c ∷ cs) h =
    let a = and_parts (cert_formed (scope_of_names ns) l c) (certs_formed (scope_of_names ns) ls cs) h in
    (good_cert ns l c a.0, good_certs ns ls cs a.1)

-- ---- certificates of contradictions

-- what does not compare magnitudes
diagram : (a : Atom) → not (is_some (kind_of_atom a)) ≡ true → is_diagram_atom a ≡ true
diagram (atoms.MagEq x y) h = absurd cc
diagram (atoms.MagLt x y) h = absurd cc
diagram a h = refl

pub good_against : (ns : Names) (a : Against) → against_formed (scope_of_names ns) a ≡ true → GoodAgainst ns a
good_against ns (against.Clash l) h =
    let a = and_parts (all_in_scope (scope_of_names ns) l) (not (is_metric l)) h in
    (a.0, diagram l.atom a.1)
good_against ns (against.Metric m) h = good_sums ns m.sums h
