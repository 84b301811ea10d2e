-- The earlier theorems that a derivation applies.
use Rattle.std.specs.Prelude.{ℕ, List, [], ◌∷◌, ◌++◌, ◌==◌, if◌then◌else◌}
use Rattle.std.specs.List.{list_any}
use Rattle.e_deriv.specs.declared.block.Step.{Step}
use Rattle.e_deriv.specs.Script.{Script, step_script, Cite, Hence, Make, Apply, Claim, Superposed}
use Rattle.e_deriv.specs.Script.{Qed, Contradiction, Cases}

-- the places of the theorems that its steps apply, in text order
unfoldable pub places_of : Script → List ℕ
places_of (Cite by rest) = places_of rest
places_of (Hence lit cert rest) = places_of rest
places_of (Make construction names certs rest) = places_of rest
places_of (Apply theorem args names certs rest) = theorem ∷ places_of rest
places_of (Claim shown inner rest) = places_of inner ++ places_of rest
places_of (Superposed superposition names shown certs inner rest) =
    places_of inner ++ places_of rest
places_of (Qed objects certs) = []
places_of (Contradiction against) = []
places_of (Cases lit first second) = places_of first ++ places_of second

-- it is put last, unless it is there
abbrev pub with_new_place : List ℕ → ℕ → List ℕ
with_new_place ps p = if list_any (λ q. q == p) ps then ps else ps ++ p ∷ []

-- one after the other
abbrev pub with_new_places : List ℕ → List ℕ → List ℕ
with_new_places ps [] = ps
with_new_places ps (q ∷ qs) = with_new_places (with_new_place ps q) qs

-- the places in the order of their first use, each once
abbrev pub applied_by : Script → List ℕ
applied_by d = with_new_places [] (places_of d)

-- those of a step alone, and of the block inside of it
abbrev pub places_of_step : Step → List ℕ
places_of_step s = places_of (step_script s (Qed [] []))
