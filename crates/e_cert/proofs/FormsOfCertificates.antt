-- What was read below a line has the form of certificates of one version.
use Rattle.std.proofs.Common.{◌≡◌, Bool, true, List}
use Rattle.std.specs.List.{list_all}
use Rattle.e_cert.specs.declared.kept.StepCerts.{StepCerts}
use Rattle.e_cert.specs.declared.kept.StepCerts.TheVariants as kept
use Rattle.e_clause.specs.declared.cert.Version.{Version}
use Rattle.e_clause.specs.Versions.{is_cert_of, is_against_of}

module _ (v : Version) where
  -- what was read below a line is of the version
  abbrev pub are_certs_of_version : StepCerts → Bool
  are_certs_of_version (kept.Certs cs) = list_all (is_cert_of v) cs
  are_certs_of_version (kept.Against a) = is_against_of v a

  abbrev pub AreOfVersion : List StepCerts → Type 0
  AreOfVersion ks = list_all are_certs_of_version ks ≡ true
