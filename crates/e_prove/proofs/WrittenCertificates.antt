-- A derivation has the literals of its script.
use Rattle.std.proofs.Common.{◌≡◌, List, [], ◌∷◌, ◌++◌, refl, sym, ap, ◌∙◌, true}
use Rattle.std.specs.List.{list_all}
use Rattle.std.proofs.lemmas.Bool.{and_from}
use Rattle.e_literal.proofs.Booleans.{and_left, and_right}
use Rattle.e_clause.specs.declared.cert.Cert.{Cert}
use Rattle.e_book.specs.Fits.{has_well_formed_literals}
use Rattle.e_book.proofs.fit_theorems.WrittenScripts.{erased_literals, filled_literals, written_well}
use Rattle.e_deriv.specs.Script.{Script, bare_script}
use Rattle.e_deriv.specs.Parts.{filled_by}
use Rattle.e_clause.specs.declared.cert.Version.TheVariants as version
use Rattle.e_clause.specs.Versions.{is_cert_of}
use Rattle.e_deriv.specs.Written.{is_written_well}
use Rattle.e_deriv.specs.Versions.{has_certs_of}
use Rattle.e_deriv.proofs.Versions.{good_of_version}

-- ---- certificates and blanks are no part of the literals

same_literals : (script derived : Script) → bare_script derived ≡ filled_by (bare_script script) derived → has_well_formed_literals derived ≡ has_well_formed_literals script
same_literals script derived e =
    sym (erased_literals derived) ∙ ap has_well_formed_literals e ∙ filled_literals (bare_script script) derived ∙ erased_literals script

-- ---- good literals and good certificates

-- what is derived from a script with good literals, with good certificates, is written well
pub each_written_well : (script d : Script) → bare_script d ≡ filled_by (bare_script script) d → has_certs_of version.One d ≡ true → has_well_formed_literals script ≡ true → is_written_well d ≡ true
each_written_well script d e k h = written_well d (same_literals script d e ∙ h) (good_of_version version.One d k)

-- ---- certificates one after the other

pub certs_more : (cs : List Cert) (c : Cert) → list_all (is_cert_of version.One) cs ≡ true → is_cert_of version.One c ≡ true → list_all (is_cert_of version.One) (cs ++ c ∷ []) ≡ true
certs_more [] c h k = and_from (is_cert_of version.One c) true k refl
certs_more (d ∷ cs) c h k =
    and_from (is_cert_of version.One d) (list_all (is_cert_of version.One) (cs ++ c ∷ [])) (and_left (is_cert_of version.One d) (list_all (is_cert_of version.One) cs) h)
    (certs_more cs c (and_right (is_cert_of version.One d) (list_all (is_cert_of version.One) cs) h) k)
