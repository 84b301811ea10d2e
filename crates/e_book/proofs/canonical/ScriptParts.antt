-- A script as steps and the line that closes its block.
use Rattle.std.proofs.Common.{◌≡◌, ◌≤◌, true, false, ltb, ◌&&◌, List, [], ◌∷◌, length, Some, None, refl, ap, arith}
use Rattle.std.specs.List.{list_all}
use Rattle.std.proofs.lemmas.Bool.{and_parts}
use Rattle.e_text.specs.Names.{is_name}
use Rattle.e_deriv.specs.PlainStep.{PlainStep, Cited, Inferred, Made, Applied, Claimed, Copied}
use Rattle.e_deriv.specs.Script.{Script, Cite, Hence, Make, Apply, Claim, Superposed, Qed, Contradiction, Cases, size, depth}
use Rattle.e_book.specs.declared.steps.CloseLine.{CloseLine}
use Rattle.e_book.specs.declared.steps.CloseLine.TheVariants as closes
use Rattle.e_book.specs.HasSpelling.{is_plain}
use Rattle.e_book.proofs.canonical.LinesRead.{Closes}

-- up to its close
abbrev pub steps_of : Script → List PlainStep
steps_of (Cite by rest) = Cited by ∷ steps_of rest
steps_of (Hence lit cert rest) = Inferred lit cert ∷ steps_of rest
steps_of (Make construction names certs rest) = Made construction names certs ∷ steps_of rest
steps_of (Apply theorem args names certs rest) = Applied theorem args names certs ∷ steps_of rest
steps_of (Claim shown inner rest) = Claimed shown inner ∷ steps_of rest
steps_of (Superposed superposition names shown certs inner rest) = Copied superposition names shown certs inner ∷ steps_of rest
steps_of (Qed objects certs) = []
steps_of (Contradiction against) = []
steps_of (Cases lit first second) = []

abbrev pub close_of : Script → CloseLine
close_of (Cite by rest) = close_of rest
close_of (Hence lit cert rest) = close_of rest
close_of (Make construction names certs rest) = close_of rest
close_of (Apply theorem args names certs rest) = close_of rest
close_of (Claim shown inner rest) = close_of rest
close_of (Superposed superposition names shown certs inner rest) = close_of rest
close_of (Qed objects certs) = closes.Qed objects
close_of (Contradiction against) = closes.Contradiction
close_of (Cases lit first second) = closes.Cases lit first second

-- a line with a certificate is not plain
no_cert : false ≡ true → ⊥
no_cert e = absurd cc

pub same_script : (script : Script) → is_plain script ≡ true → Closes (steps_of script) (close_of script) script
unfolding is_plain
same_script (Cite by rest) p = ap (λ (s : Script). Cite by s) (same_script rest p)
same_script (Hence lit None rest) p = ap (λ (s : Script). Hence lit None s) (same_script rest p)
same_script (Hence lit (Some cert) rest) p = absurd (no_cert p)
same_script (Make construction names [] rest) p = ap (λ (s : Script). Make construction names [] s) (same_script rest (and_parts (list_all is_name names) (is_plain rest) p).1)
same_script (Make construction names (c ∷ cs) rest) p = absurd (no_cert p)
same_script (Apply theorem args names [] rest) p = ap (λ (s : Script). Apply theorem args names [] s) (same_script rest (and_parts (list_all is_name names) (is_plain rest) p).1)
same_script (Apply theorem args names (c ∷ cs) rest) p = absurd (no_cert p)
same_script (Claim shown inner rest) p =
    let q = and_parts (ltb 0 (length shown)) (is_plain inner && is_plain rest) p in
    ap (λ (s : Script). Claim shown inner s) (same_script rest (and_parts (is_plain inner) (is_plain rest) q.1).1)
same_script (Superposed superposition names shown [] inner rest) p =
    let n = and_parts (list_all is_name names) (ltb 0 (length shown) && (is_plain inner && is_plain rest)) p in
    let q = and_parts (ltb 0 (length shown)) (is_plain inner && is_plain rest) n.1 in
    ap (λ (s : Script). Superposed superposition names shown [] inner s) (same_script rest (and_parts (is_plain inner) (is_plain rest) q.1).1)
same_script (Superposed superposition names shown (c ∷ cs) inner rest) p = absurd (no_cert p)
same_script (Qed os []) p = refl
same_script (Qed os (c ∷ cs)) p = absurd (no_cert p)
same_script (Contradiction None) p = refl
same_script (Contradiction (Some against)) p = absurd (no_cert p)
same_script (Cases lit first second) p = refl

pub at_least : (x : Script) → 1 ≤ size x
unfolding size
at_least (Cite b r) = omega arith
at_least (Hence l c r) = omega arith
at_least (Make f ns cs r) = omega arith
at_least (Apply k args ns cs r) = omega arith
at_least (Claim shown i r) = omega arith
at_least (Superposed f ns shown cs i r) = omega arith
at_least (Qed os cs) = omega arith
at_least (Contradiction against) = omega arith
at_least (Cases lit first second) = omega arith

pub deep_at_least : (x : Script) → 1 ≤ depth x
unfolding depth
deep_at_least (Cite b r) = deep_at_least r
deep_at_least (Hence l c r) = deep_at_least r
deep_at_least (Make f ns cs r) = deep_at_least r
deep_at_least (Apply k args ns cs r) = deep_at_least r
deep_at_least (Claim shown i r) = let h = deep_at_least r in omega (arith, h)
deep_at_least (Superposed f ns shown cs i r) = let h = deep_at_least r in omega (arith, h)
deep_at_least (Qed os cs) = omega arith
deep_at_least (Contradiction against) = omega arith
deep_at_least (Cases lit first second) = omega arith
