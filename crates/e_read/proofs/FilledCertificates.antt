-- With certificates of one version, a script that is filled has such certificates.
use Rattle.std.proofs.Common.{◌≡◌, true, List, [], ◌∷◌, refl}
use Rattle.std.specs.List.{list_all}
use Rattle.std.specs.Option.{option_map_or}
use Rattle.std.proofs.lemmas.Bool.{and_parts, and_from}
use Rattle.e_clause.specs.declared.cert.Cert.{Cert}
use Rattle.e_deriv.specs.Script.{Script, Cite, Hence, Make, Apply, Claim, Superposed, Qed, Contradiction, Cases}
use Rattle.e_deriv.specs.Versions.{has_certs_of}
use Rattle.e_cert.proofs.FormsOfCertificates.{are_certs_of_version, AreOfVersion}
use Rattle.e_cert.specs.declared.kept.StepCerts.{StepCerts}
use Rattle.e_cert.specs.declared.kept.StepCerts.TheVariants as kept
use Rattle.e_cert.specs.Certificates.{first_cert}
use Rattle.e_read.specs.Filled.{next_certs, next_against, after_next, script_with_certs}
use Rattle.e_clause.specs.declared.cert.Version.{Version}
use Rattle.e_clause.specs.Versions.{is_cert_of, is_against_of}

module _ (v : Version) where
  first_good : (cs : List Cert) → list_all (is_cert_of v) cs ≡ true → option_map_or (is_cert_of v) (first_cert cs) true ≡ true
  first_good [] h = refl
  first_good (c ∷ cs) h = (and_parts (is_cert_of v c) (list_all (is_cert_of v) cs) h).0

  certs_good : (ks : List StepCerts) → AreOfVersion v ks → list_all (is_cert_of v) (next_certs ks) ≡ true
  certs_good [] h = refl
  certs_good (kept.Certs cs ∷ ks) h = (and_parts (list_all (is_cert_of v) cs) (list_all (are_certs_of_version v) ks) h).0
  certs_good (kept.Against a ∷ ks) h = refl

  against_good : (ks : List StepCerts) → AreOfVersion v ks → option_map_or (is_against_of v) (next_against ks) true ≡ true
  against_good [] h = refl
  against_good (kept.Certs cs ∷ ks) h = refl
  against_good (kept.Against a ∷ ks) h = (and_parts (is_against_of v a) (list_all (are_certs_of_version v) ks) h).0

  after_good : (ks : List StepCerts) → AreOfVersion v ks → AreOfVersion v (after_next ks)
  after_good [] h = refl
  after_good (k ∷ ks) h = (and_parts (are_certs_of_version v k) (list_all (are_certs_of_version v) ks) h).1

  -- with good certificates the script has good ones, and good ones are left
  pub filled_good : (d : Script) (ks : List StepCerts) → AreOfVersion v ks → (has_certs_of v (script_with_certs d ks).0 ≡ true) × AreOfVersion v (script_with_certs d ks).1
  unfolding has_certs_of script_with_certs
  filled_good (Cite by rest) ks h = filled_good rest ks h
  filled_good (Hence lit cert rest) ks h =
      let r = filled_good rest (after_next ks) (after_good ks h) in
      (and_from _ _ (first_good (next_certs ks) (certs_good ks h)) r.0, r.1)
  filled_good (Make construction names certs rest) ks h =
      let r = filled_good rest (after_next ks) (after_good ks h) in
      (and_from _ _ (certs_good ks h) r.0, r.1)
  filled_good (Apply theorem args names certs rest) ks h =
      let r = filled_good rest (after_next ks) (after_good ks h) in
      (and_from _ _ (certs_good ks h) r.0, r.1)
  filled_good (Claim shown inner rest) ks h =
      let i = filled_good inner ks h in
      let r = filled_good rest (script_with_certs inner ks).1 i.1 in
      (and_from _ _ i.0 r.0, r.1)
  filled_good (Superposed superposition names shown certs inner rest) ks h =
      let i = filled_good inner (after_next ks) (after_good ks h) in
      let r = filled_good rest (script_with_certs inner (after_next ks)).1 i.1 in
      (and_from _ _ (certs_good ks h) (and_from _ _ i.0 r.0), r.1)
  filled_good (Qed objects certs) ks h = (certs_good ks h, after_good ks h)
  filled_good (Contradiction against) ks h = (against_good ks h, after_good ks h)
  filled_good (Cases lit first second) ks h =
      let i = filled_good first ks h in
      let r = filled_good second (script_with_certs first ks).1 i.1 in
      (and_from _ _ i.0 r.0, r.1)
