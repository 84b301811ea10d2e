-- The theorems that scripts apply, noted one after another.
use Rattle.std.proofs.Common.{◌≡◌, ℕ, List, [], ◌∷◌, ◌++◌, refl, sym, ap, ◌∙◌, Bool, true, false, cond, eqb, Option}
use Rattle.std.specs.List.{list_any}
use Rattle.std.proofs.lemmas.List.{append_assoc, append-nil}
use Rattle.std.proofs.lemmas.Grind.{common_steps}
use Rattle.e_literal.specs.declared.literal.Lit.{Lit}
use Rattle.e_literal.specs.declared.object.Obj.{Obj}
use Rattle.e_construct.specs.declared.construction.Construction.{Construction}
use Rattle.e_construct.specs.declared.superpose.Superpose.{Superpose}
use Rattle.e_clause.specs.declared.cert.Against.{Against}
use Rattle.e_clause.specs.declared.cert.By.{By}
use Rattle.e_clause.specs.declared.cert.Cert.{Cert}
use Rattle.e_deriv.specs.declared.block.Step.{Step}
use Rattle.e_deriv.specs.declared.block.Step.TheVariants.{Cite as CiteStep, Hence as HenceStep, Make as MakeStep, Apply as ApplyStep, Claim' as ClaimStep, Superposed' as SuperposedStep}
use Rattle.e_deriv.specs.Script.{Script, Cite, Hence, Make, Apply, Claim, Superposed, Qed, Contradiction, Cases, step_script, row_script, close_script}
use Rattle.e_deriv.proofs.Scripts.{scripts}
use Rattle.e_trim.specs.Applied.{places_of, with_new_place, with_new_places, places_of_step}

pub noted-append : (ps qs rs : List ℕ) → with_new_places ps (qs ++ rs) ≡ with_new_places (with_new_places ps qs) rs
noted-append ps [] rs = refl
noted-append ps (q ∷ qs) rs = noted-append (with_new_place ps q) qs rs

-- the places of a step, and then those of what comes after it
pub places-step : (s : Step) (rest : Script) → places_of (step_script s rest) ≡ places_of_step s ++ places_of rest
unfolding places_of step_script
places-step (CiteStep by) rest = refl
places-step (HenceStep lit cert) rest = refl
places-step (MakeStep construction names certs) rest = refl
places-step (ApplyStep theorem args names certs) rest = refl
places-step (ClaimStep shown p0 n0 row0 close0) rest = sym (append_assoc (places_of (row_script row0 (close_script close0))) [] (places_of rest))
places-step (SuperposedStep superposition names shown certs p0 n0 row0 close0) rest = sym (append_assoc (places_of (row_script row0 (close_script close0))) [] (places_of rest))

pub noted_step : (ps : List ℕ) (s : Step) (rest : Script) → with_new_places (with_new_places ps (places_of_step s)) (places_of rest) ≡ with_new_places ps (places_of (step_script s rest))
noted_step ps s rest = sym (noted-append ps (places_of_step s) (places_of rest)) ∙ ap (with_new_places ps) (sym (places-step s rest))

-- ---- by form

pub places-Cite : (by : By) (rest : Script) → places_of (Cite by rest) ≡ places_of rest
unfolding places_of
places-Cite by rest = refl

pub places-Hence : (lit : Lit) (cert : Option Cert) (rest : Script) → places_of (Hence lit cert rest) ≡ places_of rest
unfolding places_of
places-Hence lit cert rest = refl

pub places-Make : (construction : Construction) (names : List (List ℕ)) (certs : List Cert) (rest : Script) → places_of (Make construction names certs rest) ≡ places_of rest
unfolding places_of
places-Make construction names certs rest = refl

pub places-Apply : (theorem : ℕ) (args : List (Option Obj)) (names : List (List ℕ)) (certs : List Cert) (rest : Script) → places_of (Apply theorem args names certs rest) ≡ theorem ∷ places_of rest
unfolding places_of
places-Apply theorem args names certs rest = refl

pub places-Claim : (shown : List Lit) (inner : Script) (rest : Script) → places_of (Claim shown inner rest) ≡ places_of inner ++ places_of rest
unfolding places_of
places-Claim shown inner rest = refl

pub places-Superposed : (superposition : Superpose) (names : List (List ℕ)) (shown : List Lit) (certs : List Cert) (inner : Script) (rest : Script) → places_of (Superposed superposition names shown certs inner rest) ≡ places_of inner ++ places_of rest
unfolding places_of
places-Superposed superposition names shown certs inner rest = refl

pub places-Qed : (objects : List Obj) (certs : List Cert) → places_of (Qed objects certs) ≡ []
unfolding places_of
places-Qed objects certs = refl

pub places-Contradiction : (against : Option Against) → places_of (Contradiction against) ≡ []
unfolding places_of
places-Contradiction against = refl

pub places-Cases : (lit : Lit) (first : Script) (second : Script) → places_of (Cases lit first second) ≡ places_of first ++ places_of second
unfolding places_of
places-Cases lit first second = refl

pub ruleset places = (places-Cite, places-Hence, places-Make, places-Apply, places-Claim, places-Superposed, places-Qed, places-Contradiction, places-Cases)

-- ---- noted

pub noted_there : (ps : List ℕ) (p : ℕ) → list_any (λ q. eqb q p) ps ≡ true → ps ≡ with_new_place ps p
noted_there ps p h = sym (ap (λ b. cond b ps (ps ++ p ∷ [])) h)

pub noted_last : (ps : List ℕ) (p : ℕ) → list_any (λ q. eqb q p) ps ≡ false → ps ++ p ∷ [] ≡ with_new_place ps p
noted_last ps p h = sym (ap (λ b. cond b ps (ps ++ p ∷ [])) h)

pub ruleset noting = (common_steps, noted-append, noted_step, noted_there, noted_last, append-nil, scripts, places)
