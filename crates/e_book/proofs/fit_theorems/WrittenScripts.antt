-- The literals of a script: certificates and blanks are no part of them, and with good certificates it is written well.
use Rattle.std.proofs.Common.{◌≡◌, refl, ap, ap₂, Bool, true, ◌&&◌}
use Rattle.std.specs.Option.{option_map_or}
use Rattle.std.specs.List.{list_all}
use Rattle.std.proofs.lemmas.Bool.{and_from, and_parts}
use Rattle.e_literal.specs.WellFormed.{is_well_formed}
use Rattle.e_clause.specs.Written.{is_writable_cert}
use Rattle.e_deriv.specs.Script.{Script, Cite, Hence, Make, Apply, Claim, Superposed, Qed, Contradiction, Cases, bare_script}
use Rattle.e_deriv.specs.Parts.{filled_by, rest_of, inner_of}
use Rattle.e_deriv.specs.Written.{has_writable_certs, is_written_well}
use Rattle.e_names.specs.Fits.{is_diagram_lit}
use Rattle.e_book.specs.Fits.{has_well_formed_literals}
use Rattle.e_names.proofs.literals.Diagrams.{good_diagram}

-- ---- certificates and blanks are no part of the literals

pub erased_literals : (d : Script) → has_well_formed_literals (bare_script d) ≡ has_well_formed_literals d
unfolding bare_script has_well_formed_literals
erased_literals (Cite by rest) = ap (λ b. is_diagram_lit by.lit && b) (erased_literals rest)
erased_literals (Hence lit cert rest) = ap (λ b. is_well_formed lit && b) (erased_literals rest)
erased_literals (Make construction names certs rest) = erased_literals rest
erased_literals (Apply theorem args names certs rest) = erased_literals rest
erased_literals (Claim shown inner rest) =
    ap₂ {A = Bool} {B = Bool} (λ a b. list_all is_well_formed shown && (a && b)) (erased_literals inner) (erased_literals rest)
erased_literals (Superposed superposition names shown certs inner rest) =
    ap₂ {A = Bool} {B = Bool} (λ a b. list_all is_well_formed shown && (a && b)) (erased_literals inner) (erased_literals rest)
erased_literals (Qed objects certs) = refl
erased_literals (Contradiction against) = refl
erased_literals (Cases lit first second) =
    ap₂ {A = Bool} {B = Bool} (λ a b. is_well_formed lit && (a && b)) (erased_literals first) (erased_literals second)

pub filled_literals : (d f : Script) → has_well_formed_literals (filled_by d f) ≡ has_well_formed_literals d
unfolding filled_by has_well_formed_literals
filled_literals (Cite by rest) f = ap (λ b. is_diagram_lit by.lit && b) (filled_literals rest (rest_of f))
filled_literals (Hence lit cert rest) f = ap (λ b. is_well_formed lit && b) (filled_literals rest (rest_of f))
filled_literals (Make construction names certs rest) f = filled_literals rest (rest_of f)
filled_literals (Apply theorem args names certs rest) f = filled_literals rest (rest_of f)
filled_literals (Claim shown inner rest) f =
    ap₂ {A = Bool} {B = Bool} (λ a b. list_all is_well_formed shown && (a && b)) (filled_literals inner (inner_of f)) (filled_literals rest (rest_of f))
filled_literals (Superposed superposition names shown certs inner rest) f =
    ap₂ {A = Bool} {B = Bool} (λ a b. list_all is_well_formed shown && (a && b)) (filled_literals inner (inner_of f)) (filled_literals rest (rest_of f))
filled_literals (Qed objects certs) f = refl
filled_literals (Contradiction against) f = refl
filled_literals (Cases lit first second) f =
    ap₂ {A = Bool} {B = Bool} (λ a b. is_well_formed lit && (a && b)) (filled_literals first (inner_of f)) (filled_literals second (rest_of f))

-- ---- good literals and good certificates

pub written_well : (d : Script) → has_well_formed_literals d ≡ true → has_writable_certs d ≡ true → is_written_well d ≡ true
unfolding has_well_formed_literals has_writable_certs is_written_well
written_well (Cite by rest) h k =
    let p = and_parts (is_diagram_lit by.lit) (has_well_formed_literals rest) h in
    and_from _ _ (good_diagram by.lit.atom p.0) (written_well rest p.1 k)
written_well (Hence lit cert rest) h k =
    let p = and_parts (is_well_formed lit) (has_well_formed_literals rest) h in
    let q = and_parts (option_map_or is_writable_cert cert true) (has_writable_certs rest) k in
    and_from _ _ p.0 (and_from _ _ q.0 (written_well rest p.1 q.1))
written_well (Make construction names certs rest) h k =
    let q = and_parts (list_all is_writable_cert certs) (has_writable_certs rest) k in
    and_from _ _ q.0 (written_well rest h q.1)
written_well (Apply theorem args names certs rest) h k =
    let q = and_parts (list_all is_writable_cert certs) (has_writable_certs rest) k in
    and_from _ _ q.0 (written_well rest h q.1)
written_well (Claim shown inner rest) h k =
    let p = and_parts (list_all is_well_formed shown) (has_well_formed_literals inner && has_well_formed_literals rest) h in
    let l = and_parts (has_well_formed_literals inner) (has_well_formed_literals rest) p.1 in
    let q = and_parts (has_writable_certs inner) (has_writable_certs rest) k in
    and_from _ _ p.0 (and_from _ _ (written_well inner l.0 q.0) (written_well rest l.1 q.1))
written_well (Superposed superposition names shown certs inner rest) h k =
    let p = and_parts (list_all is_well_formed shown) (has_well_formed_literals inner && has_well_formed_literals rest) h in
    let l = and_parts (has_well_formed_literals inner) (has_well_formed_literals rest) p.1 in
    let c = and_parts (list_all is_writable_cert certs) (has_writable_certs inner && has_writable_certs rest) k in
    let q = and_parts (has_writable_certs inner) (has_writable_certs rest) c.1 in
    and_from _ _ p.0 (and_from _ _ c.0 (and_from _ _ (written_well inner l.0 q.0) (written_well rest l.1 q.1)))
written_well (Qed objects certs) h k = k
written_well (Contradiction against) h k = k
written_well (Cases lit first second) h k =
    let p = and_parts (is_well_formed lit) (has_well_formed_literals first && has_well_formed_literals second) h in
    let l = and_parts (has_well_formed_literals first) (has_well_formed_literals second) p.1 in
    let q = and_parts (has_writable_certs first) (has_writable_certs second) k in
    and_from _ _ p.0 (and_from _ _ (written_well first l.0 q.0) (written_well second l.1 q.1))
