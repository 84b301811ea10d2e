-- The objects of a qed, and its goal.
use Rattle.std.proofs.Common.{◌≡◌, List, [], ◌∷◌, map, refl, sym, ap, ◌∙◌, true, ◌&&◌}
use Rattle.std.specs.List.{list_all}
use mathlib.Core.Bool.{and-true}
use Rattle.e_literal.specs.declared.object.Obj.{Obj}
use Rattle.e_literal.specs.declared.literal.Lit.{Lit}
use Rattle.e_literal.specs.Rename.{with_images, image_in, pairs_of}
use Rattle.e_literal.specs.Use.{StatementView}
use Rattle.e_literal.specs.WellFormed.{is_well_formed}
use Rattle.e_literal.proofs.WithImages.{renamed_well_formed}
use Rattle.e_literal.proofs.Booleans.{and_left, and_right}
use Rattle.e_clause.specs.declared.cert.Cert.{Cert}
use Rattle.e_clause.specs.Certify.{certify_all}
use Rattle.e_deriv.specs.Script.{Qed}
use Rattle.e_deriv.specs.Goal.{Goal, are_for, goal_with}
use Rattle.e_deriv.specs.Certified.{is_certified}
use Rattle.e_verify.specs.declared.step_state.StepState.{StepState}
use Rattle.e_verify.specs.Checking.{step_in_state}

each_formed : (f : Lit → Lit) → ((l : Lit) → is_well_formed (f l) ≡ is_well_formed l) → (ls : List Lit) → list_all is_well_formed ls ≡ true → list_all is_well_formed (map f ls) ≡ true
each_formed f e [] h = refl
each_formed f e (l ∷ ls) h =
    ap (λ b. b && list_all is_well_formed (map f ls)) (e l ∙ and_left (is_well_formed l) (list_all is_well_formed ls) h) ∙ each_formed f e ls (and_right (is_well_formed l) (list_all is_well_formed ls) h)

pub goal_formed : (goal : Goal) (objects : List Obj) → list_all is_well_formed goal.shown ≡ true → list_all is_well_formed (goal_with goal objects) ≡ true
goal_formed goal objects h = each_formed (with_images (image_in (pairs_of goal.made objects))) (renamed_well_formed (image_in (pairs_of goal.made objects))) goal.shown h

pub qed_certified : (objects : List Obj) (certs : List Cert) (goal : Goal) (x : StepState) → are_for goal x.scope objects ≡ true → (before : List StatementView)
    → certify_all x.scope x.facts (goal_with goal objects) certs ≡ is_certified before (step_in_state (Qed objects certs) x goal)
qed_certified objects certs goal x h before =
    sym (ap (λ b. b && (certify_all x.scope x.facts (goal_with goal objects) certs && true)) h ∙ and-true (certify_all x.scope x.facts (goal_with goal objects) certs))
