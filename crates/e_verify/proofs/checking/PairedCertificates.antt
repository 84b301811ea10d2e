-- Certificates and the literals that they are for, one by one.
use Rattle.std.proofs.Common.{◌≡◌, ◌≤◌, List, [], ◌∷◌, length, map, refl, sym, ap, ◌∙◌, arith, Bool, true, false, ◌&&◌, Some, Result, Ok, Err}
use Rattle.std.specs.Prelude.{IfOk}
use Rattle.std.specs.Option.{option_map_or}
use Rattle.std.proofs.lemmas.Grind.{common_steps}
use mathlib.Core.Bool.{not-not}
use Rattle.e_literal.specs.declared.object.Scope.{Scope}
use Rattle.e_literal.specs.declared.literal.Lit.{Lit}
use Rattle.e_literal.specs.Literal.{negation}
use Rattle.e_clause.specs.declared.cert.Cert.{Cert}
use Rattle.e_clause.specs.declared.cert.Part.{Part}
use Rattle.e_clause.specs.Certify.{certify_all}
use Rattle.e_clause.specs.declared.cert.TransferCert.{TransferCert}
use Rattle.e_clause.specs.Instance.{Inst}
use Rattle.e_clause.specs.RuleKinds.{is_transfer}
use Rattle.e_clause.specs.TransferCertificate.{parts_certify, instance_certifies, transfer_certifies}
use Rattle.e_literal.specs.Facts.{has, others}

pub no_literals : (s : Scope) (facts ls : List Lit) (cs : List Cert) → length ls ≡ 0 → 1 ≤ length cs → certify_all s facts ls cs ≡ false
no_literals s facts [] [] h k = absurd (omega (arith, k))
no_literals s facts [] (c ∷ cs) h k = refl
no_literals s facts (l ∷ ls) cs h k = absurd (omega (arith, h))

pub no_certs : (s : Scope) (facts ls : List Lit) (cs : List Cert) → 1 ≤ length ls → length cs ≡ 0 → certify_all s facts ls cs ≡ false
no_certs s facts [] cs h k = absurd (omega (arith, h))
no_certs s facts (l ∷ ls) [] h k = refl
no_certs s facts (l ∷ ls) (c ∷ cs) h k = absurd (omega (arith, k))

pub ruleset literals = (common_steps, no_literals, no_certs)

pub negation_twice : (l : Lit) → negation (negation l) ≡ l
negation_twice l = ap (λ b. record { neg = b; atom = l.atom }) (not-not l.neg)

pub negations_twice : (ls : List Lit) → map negation (map negation ls) ≡ ls
negations_twice [] = refl
negations_twice (l ∷ ls) = ap (λ m. m ∷ map negation (map negation ls)) (negation_twice l) ∙ ap (λ ms. l ∷ ms) (negations_twice ls)

pub no_others : (facts ls : List Lit) (ps : List Part) → length ls ≡ 0 → 1 ≤ length ps → parts_certify facts (map negation ls) ps ≡ false
no_others facts [] [] h k = absurd (omega (arith, k))
no_others facts [] (p ∷ ps) h k = refl
no_others facts (l ∷ ls) ps h k = absurd (omega (arith, h))

pub no_parts : (facts ls : List Lit) (ps : List Part) → 1 ≤ length ls → length ps ≡ 0 → parts_certify facts (map negation ls) ps ≡ false
no_parts facts [] ps h k = absurd (omega (arith, h))
no_parts facts (l ∷ ls) [] h k = refl
no_parts facts (l ∷ ls) (p ∷ ps) h k = absurd (omega (arith, k))

pub ruleset parts = (common_steps, no_others, no_parts, negation_twice)

pub transfer_is : (facts : List Lit) (l : Lit) (t : TransferCert) (lits needs : List Lit) (ps : List Part) → is_transfer t.rule ≡ true → Inst t.rule t.args ≡ Some lits → has lits l ≡ true
    → needs ≡ map negation (others lits l) → ps ≡ t.parts → parts_certify facts (map negation needs) ps ≡ transfer_certifies facts l t
transfer_is facts l t lits needs ps kind inst one is same =
    ap (λ ms. parts_certify facts (map negation ms) ps) is
    ∙ ap (λ ms. parts_certify facts ms ps) (negations_twice (others lits l))
    ∙ ap (parts_certify facts (others lits l)) same
    ∙ sym (ap (λ b. b && parts_certify facts (others lits l) t.parts) one)
    ∙ sym (ap (λ o. option_map_or (instance_certifies facts l t.parts) o false) inst)
    ∙ sym (ap (λ b. b && option_map_or (instance_certifies facts l t.parts) (Inst t.rule t.args) false) kind)

pub ok_as : {E : Type 0} (r : Result Bool E) (x y : Bool) → IfOk r (λ b. b ≡ x) → x ≡ y → IfOk r (λ b. b ≡ y)
ok_as (Ok b) x y h e = h ∙ e
ok_as (Err e) x y h f = h
