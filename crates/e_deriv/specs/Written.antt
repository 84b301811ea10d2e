-- Scripts whose literals are well formed, and whose certificates name literals that are.
use Rattle.std.specs.Prelude.{Bool, true, ◌&&◌}
use Rattle.std.specs.Option.{option_map_or}
use Rattle.std.specs.List.{list_all}
use Rattle.e_literal.specs.WellFormed.{is_well_formed}
use Rattle.e_clause.specs.Written.{is_writable_cert, is_writable_against}
use Rattle.e_deriv.specs.Script.{Script, Cite, Hence, Make, Apply, Claim, Superposed, Qed}
use Rattle.e_deriv.specs.Script.{Contradiction, Cases}

-- each literal of the script, and each of a row that its certificates name, is well formed
unfoldable pub is_written_well : Script → Bool
is_written_well (Cite by rest) = is_well_formed by.lit && is_written_well rest
is_written_well (Hence lit cert rest) =
    is_well_formed lit && (option_map_or is_writable_cert cert true && is_written_well rest)
is_written_well (Make construction names certs rest) =
    list_all is_writable_cert certs && is_written_well rest
is_written_well (Apply theorem args names certs rest) =
    list_all is_writable_cert certs && is_written_well rest
is_written_well (Claim shown inner rest) =
    list_all is_well_formed shown && (is_written_well inner && is_written_well rest)
is_written_well (Superposed superposition names shown certs inner rest) =
    list_all is_well_formed shown
    && (list_all is_writable_cert certs && (is_written_well inner && is_written_well rest))
is_written_well (Qed objects certs) = list_all is_writable_cert certs
is_written_well (Contradiction against) = option_map_or is_writable_against against true
is_written_well (Cases lit first second) =
    is_well_formed lit && (is_written_well first && is_written_well second)

-- each literal of a row that the certificates name is well formed
unfoldable pub has_writable_certs : Script → Bool
has_writable_certs (Cite by rest) = has_writable_certs rest
has_writable_certs (Hence lit cert rest) =
    option_map_or is_writable_cert cert true && has_writable_certs rest
has_writable_certs (Make construction names certs rest) =
    list_all is_writable_cert certs && has_writable_certs rest
has_writable_certs (Apply theorem args names certs rest) =
    list_all is_writable_cert certs && has_writable_certs rest
has_writable_certs (Claim shown inner rest) = has_writable_certs inner && has_writable_certs rest
has_writable_certs (Superposed superposition names shown certs inner rest) =
    list_all is_writable_cert certs && (has_writable_certs inner && has_writable_certs rest)
has_writable_certs (Qed objects certs) = list_all is_writable_cert certs
has_writable_certs (Contradiction against) = option_map_or is_writable_against against true
has_writable_certs (Cases lit first second) = has_writable_certs first && has_writable_certs second
