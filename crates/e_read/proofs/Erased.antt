-- A script with certificates is the script without them.
use Rattle.std.proofs.Common.{◌≡◌, false, true, ltb, ◌&&◌, List, [], ◌∷◌, length, Some, None, refl, ap, ◌∙◌}
use Rattle.std.specs.List.{list_all}
use Rattle.std.proofs.lemmas.Bool.{and_parts}
use Rattle.e_text.specs.Names.{is_name}
use Rattle.e_deriv.specs.Script.{Script, Cite, Hence, Make, Apply, Claim, Superposed, Qed, Contradiction, Cases, bare_script}
use Rattle.e_book.specs.HasSpelling.{is_plain}
use Rattle.e_cert.specs.declared.kept.StepCerts.{StepCerts}
use Rattle.e_read.specs.Filled.{after_next, script_with_certs}

pub erased_filled : (s : Script) (ks : List StepCerts) → bare_script (script_with_certs s ks).0 ≡ bare_script s
unfolding bare_script script_with_certs
erased_filled (Cite by rest) ks = ap (λ (x : Script). Cite by x) (erased_filled rest ks)
erased_filled (Hence lit cert rest) ks = ap (λ (x : Script). Hence lit None x) (erased_filled rest (after_next ks))
erased_filled (Make construction names certs rest) ks = ap (λ (x : Script). Make construction names [] x) (erased_filled rest (after_next ks))
erased_filled (Apply theorem args names certs rest) ks = ap (λ (x : Script). Apply theorem args names [] x) (erased_filled rest (after_next ks))
erased_filled (Claim shown inner rest) ks =
    ap (λ (x : Script). Claim shown x (bare_script (script_with_certs rest (script_with_certs inner ks).1).0)) (erased_filled inner ks)
    ∙ ap (λ (x : Script). Claim shown (bare_script inner) x) (erased_filled rest (script_with_certs inner ks).1)
erased_filled (Superposed superposition names shown certs inner rest) ks =
    let i = script_with_certs inner (after_next ks) in
    ap (λ (x : Script). Superposed superposition names shown [] x (bare_script (script_with_certs rest i.1).0)) (erased_filled inner (after_next ks))
    ∙ ap (λ (x : Script). Superposed superposition names shown [] (bare_script inner) x) (erased_filled rest i.1)
erased_filled (Qed objects certs) ks = refl
erased_filled (Contradiction against) ks = refl
erased_filled (Cases lit first second) ks =
    ap (λ (x : Script). Cases lit x (bare_script (script_with_certs second (script_with_certs first ks).1).0)) (erased_filled first ks)
    ∙ ap (λ (x : Script). Cases lit (bare_script first) x) (erased_filled second (script_with_certs first ks).1)

-- a line with a certificate is not plain
no_cert : false ≡ true → ⊥
no_cert e = absurd cc

-- a script without certificates is its own
pub erased_plain : (s : Script) → is_plain s ≡ true → bare_script s ≡ s
unfolding bare_script is_plain
erased_plain (Cite by rest) p = ap (λ (x : Script). Cite by x) (erased_plain rest p)
erased_plain (Hence lit None rest) p = ap (λ (x : Script). Hence lit None x) (erased_plain rest p)
erased_plain (Hence lit (Some cert) rest) p = absurd (no_cert p)
erased_plain (Make construction names [] rest) p = ap (λ (x : Script). Make construction names [] x) (erased_plain rest (and_parts (list_all is_name names) (is_plain rest) p).1)
erased_plain (Make construction names (c ∷ cs) rest) p = absurd (no_cert p)
erased_plain (Apply theorem args names [] rest) p = ap (λ (x : Script). Apply theorem args names [] x) (erased_plain rest (and_parts (list_all is_name names) (is_plain rest) p).1)
erased_plain (Apply theorem args names (c ∷ cs) rest) p = absurd (no_cert p)
erased_plain (Claim shown inner rest) p =
    let q = and_parts (is_plain inner) (is_plain rest) (and_parts (ltb 0 (length shown)) (is_plain inner && is_plain rest) p).1 in
    ap (λ (x : Script). Claim shown x (bare_script rest)) (erased_plain inner q.0) ∙ ap (λ (x : Script). Claim shown inner x) (erased_plain rest q.1)
erased_plain (Superposed superposition names shown [] inner rest) p =
    let n = and_parts (list_all is_name names) (ltb 0 (length shown) && (is_plain inner && is_plain rest)) p in
    let q = and_parts (is_plain inner) (is_plain rest) (and_parts (ltb 0 (length shown)) (is_plain inner && is_plain rest) n.1).1 in
    ap (λ (x : Script). Superposed superposition names shown [] x (bare_script rest)) (erased_plain inner q.0) ∙ ap (λ (x : Script). Superposed superposition names shown [] inner x) (erased_plain rest q.1)
erased_plain (Superposed superposition names shown (c ∷ cs) inner rest) p = absurd (no_cert p)
erased_plain (Qed objects []) p = refl
erased_plain (Qed objects (c ∷ cs)) p = absurd (no_cert p)
erased_plain (Contradiction None) p = refl
erased_plain (Contradiction (Some against)) p = absurd (no_cert p)
erased_plain (Cases lit first second) p =
    let q = and_parts (is_plain first) (is_plain second) p in
    ap (λ (x : Script). Cases lit x (bare_script second)) (erased_plain first q.0) ∙ ap (λ (x : Script). Cases lit first x) (erased_plain second q.1)
