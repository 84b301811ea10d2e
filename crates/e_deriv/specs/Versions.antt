-- Derivations of one version: all certificates cite facts by literals that are the same, or all by
-- their places.
use Rattle.std.specs.Prelude.{Bool, true, ◌&&◌}
use Rattle.std.specs.Option.{option_map_or}
use Rattle.std.specs.List.{list_all}
use Rattle.e_clause.specs.declared.cert.Version.{Version}
use Rattle.e_clause.specs.Versions.{is_cert_of, is_against_of}
use Rattle.e_deriv.specs.Script.{Script, Cite, Hence, Make, Apply, Claim, Superposed, Qed}
use Rattle.e_deriv.specs.Script.{Contradiction, Cases}

-- the certificates of the script are of this version, and the literals that they name are well
-- formed
unfoldable pub has_certs_of : Version → Script → Bool
has_certs_of v (Cite by rest) = has_certs_of v rest
has_certs_of v (Hence lit cert rest) = option_map_or (is_cert_of v) cert true && has_certs_of v rest
has_certs_of v (Make construction names certs rest) =
    list_all (is_cert_of v) certs && has_certs_of v rest
has_certs_of v (Apply theorem args names certs rest) =
    list_all (is_cert_of v) certs && has_certs_of v rest
has_certs_of v (Claim shown inner rest) = has_certs_of v inner && has_certs_of v rest
has_certs_of v (Superposed superposition names shown certs inner rest) =
    list_all (is_cert_of v) certs && (has_certs_of v inner && has_certs_of v rest)
has_certs_of v (Qed objects certs) = list_all (is_cert_of v) certs
has_certs_of v (Contradiction against) = option_map_or (is_against_of v) against true
has_certs_of v (Cases lit first second) = has_certs_of v first && has_certs_of v second
