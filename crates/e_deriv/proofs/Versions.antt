-- The literals that the certificates of a derivation of one version name are well formed.
use Rattle.std.proofs.Common.{◌≡◌, true, ◌&&◌, Option, Some, None, refl}
use Rattle.std.specs.Option.{option_map_or}
use Rattle.std.specs.List.{list_all}
use Rattle.std.proofs.lemmas.Bool.{and_parts, and_from}
use Rattle.e_clause.specs.declared.cert.Version.{Version}
use Rattle.e_clause.specs.declared.cert.Cert.{Cert}
use Rattle.e_clause.specs.declared.cert.Against.{Against}
use Rattle.e_clause.specs.Versions.{is_cert_of, is_against_of}
use Rattle.e_clause.proofs.Versions.{good_cert, good_certs, good_against}
use Rattle.e_clause.specs.Written.{is_writable_cert, is_writable_against}
use Rattle.e_deriv.specs.Script.{Script, Cite, Hence, Make, Apply, Claim, Superposed, Qed, Contradiction, Cases}
use Rattle.e_deriv.specs.Written.{has_writable_certs}
use Rattle.e_deriv.specs.Versions.{has_certs_of}

good_if_any : (v : Version) (c : Option Cert) → option_map_or (is_cert_of v) c true ≡ true → option_map_or is_writable_cert c true ≡ true
good_if_any v None h = refl
good_if_any v (Some c) h = good_cert v c h

good_against_if_any : (v : Version) (a : Option Against) → option_map_or (is_against_of v) a true ≡ true → option_map_or is_writable_against a true ≡ true
good_against_if_any v None h = refl
good_against_if_any v (Some a) h = good_against v a h

pub good_of_version : (v : Version) (d : Script) → has_certs_of v d ≡ true → has_writable_certs d ≡ true
unfolding has_certs_of has_writable_certs
good_of_version v (Cite by rest) h = good_of_version v rest h
good_of_version v (Hence lit cert rest) h =
    let k = and_parts (option_map_or (is_cert_of v) cert true) (has_certs_of v rest) h in and_from _ _ (good_if_any v cert k.0) (good_of_version v rest k.1)
good_of_version v (Make construction names certs rest) h =
    let k = and_parts (list_all (is_cert_of v) certs) (has_certs_of v rest) h in and_from _ _ (good_certs v certs k.0) (good_of_version v rest k.1)
good_of_version v (Apply theorem args names certs rest) h =
    let k = and_parts (list_all (is_cert_of v) certs) (has_certs_of v rest) h in and_from _ _ (good_certs v certs k.0) (good_of_version v rest k.1)
good_of_version v (Claim shown inner rest) h =
    let k = and_parts (has_certs_of v inner) (has_certs_of v rest) h in and_from _ _ (good_of_version v inner k.0) (good_of_version v rest k.1)
good_of_version v (Superposed superposition names shown certs inner rest) h =
    let k = and_parts (list_all (is_cert_of v) certs) (has_certs_of v inner && has_certs_of v rest) h in
    let m = and_parts (has_certs_of v inner) (has_certs_of v rest) k.1 in
    and_from _ _ (good_certs v certs k.0) (and_from _ _ (good_of_version v inner m.0) (good_of_version v rest m.1))
good_of_version v (Qed objects certs) h = good_certs v certs h
good_of_version v (Contradiction against) h = good_against_if_any v against h
good_of_version v (Cases lit first second) h =
    let k = and_parts (has_certs_of v first) (has_certs_of v second) h in and_from _ _ (good_of_version v first k.0) (good_of_version v second k.1)
