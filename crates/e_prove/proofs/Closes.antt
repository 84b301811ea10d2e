-- What a qed is licensed as.
use Rattle.std.proofs.Common.{◌≡◌, ℕ, Option, Some, List, refl, subst, true}
use Rattle.std.specs.Prelude.{IsTrue, IfOk, IfErr}
use Rattle.std.specs.List.{list_all}
use Rattle.std.proofs.lemmas.Bool.{and_from}
use Rattle.e_literal.specs.declared.object.Obj.{Obj}
use Rattle.e_literal.specs.declared.literal.Lit.{Lit}
use Rattle.e_literal.specs.Use.{StatementView}
use Rattle.e_clause.specs.declared.cert.Cert.{Cert}
use Rattle.e_clause.specs.declared.cert.Against.{Against}
use Rattle.e_clause.specs.Certify.{certify_all}
use Rattle.e_clause.specs.LimitedFacts.{are_well_formed_in}
use Rattle.e_clause.proofs.Sound.{all_allowed_of_certified, contradictory_of_certified}
use Rattle.e_clause.specs.Wide.{IsTooWideContradiction}
use Rattle.e_literal.specs.declared.object.Term.{Term}
use Rattle.e_literal.proofs.Booleans.{and_left}
use Rattle.e_clause.specs.declared.cert.Version.TheVariants as version
use Rattle.e_clause.specs.Versions.{is_cert_of}
use Rattle.e_licence.specs.declared.contradiction.Refuted.{Refuted}
use Rattle.e_licence.specs.declared.contradiction.Refuted.TheVariants as refuted
use Rattle.e_licence.specs.Licences.{IsCertifiedAgainst, IsConsistentBy, IsAnswerAgainst}
use Rattle.e_deriv.specs.declared.block.Close.TheVariants.{Qed as QedClose, Contradiction as ContradictionClose}
use Rattle.e_deriv.specs.declared.stop.Wanted.TheVariants.{Literal, Match, Contradiction as AContradiction}
use Rattle.e_deriv.specs.Script.{Qed, close_script, bare_script}
use Rattle.e_prove.specs.declared.state_before.StateBefore.{StateBefore}
use Rattle.e_prove.specs.inner.PassedSteps.{IsReadyFor}
use Rattle.e_deriv.specs.Goal.{Goal, are_for, goal_with}
use Rattle.e_deriv.specs.Parts.{filled_by}
use Rattle.e_deriv.specs.PlacedSteps.{placed_steps}
use Rattle.e_deriv.specs.Versions.{has_certs_of}
use Rattle.e_licence.specs.Contexts.{Basis}
use Rattle.e_prove.specs.declared.stop_reason.StopReason.{StopReason}
use Rattle.e_prove.specs.declared.stop_reason.StopReason.TheVariants as stop_reason
use Rattle.e_prove.specs.inner.StopsOfSteps.{StepStopsAmong, contradiction_by}
use Rattle.e_prove.specs.inner.LicensedSteps.{IsLicensedClose, IsStopOfClose}

-- what a qed that is ready says
pub record QedFits (objects : List Obj) (x : Basis) (goal : Goal) : Type 0 where
  pub form : are_for goal x.scope objects ≡ true
  pub lits : are_well_formed_in x.scope (goal_with goal objects) ≡ true

qed_lines : (before : List StatementView) (objects : List Obj) (certs : List Cert) (x : StateBefore) (goal : Goal) → IsReadyFor before (Qed objects certs) x goal → QedFits objects x.context goal
unfolding placed_steps
qed_lines before objects certs x goal r =
    let form = and_left (are_for goal x.context.scope objects) true r.forms in
    record { form = form; lits = ((r.lits (Qed objects certs)).1 form).0 }

pub qed_fits : (before : List StatementView) (objects : List Obj) (certs : List Cert) (x : StateBefore) (goal : Goal) → IsReadyFor before (close_script (QedClose objects certs)) x goal → QedFits objects x.context goal
unfolding close_script
qed_fits before objects certs x goal r = qed_lines before objects certs x goal r

closed_by : (before : List StatementView) (objects : List Obj) (written certs : List Cert) (x : Basis) (goal : Goal) → are_for goal x.scope objects ≡ true →
    IsTrue (certify_all x.scope x.facts (goal_with goal objects) certs) → IsTrue (list_all (is_cert_of version.One) certs) → IsLicensedClose before (QedClose objects written) x goal (QedClose objects certs)
unfolding placed_steps bare_script filled_by close_script has_certs_of
closed_by before objects written certs x goal form h g =
    record {
      licensed = (record { fits = form; allowed = all_allowed_of_certified x.scope x.facts (goal_with goal objects) certs h; others = tt }, tt);
      certified = and_from _ _ (and_from _ _ form (and_from _ _ h refl)) refl;
      erased = refl;
      version = g;
    }

-- a qed of which each literal has its certificate
pub closed_qed : (before : List StatementView) (objects kept : List Obj) (written certs given : List Cert) (wanted : List Lit) (x : Basis) (goal : Goal) →
    kept ≡ objects → given ≡ certs → wanted ≡ goal_with goal objects → are_for goal x.scope objects ≡ true → IsTrue (certify_all x.scope x.facts wanted certs) →
    IsTrue (list_all (is_cert_of version.One) certs) → IsLicensedClose before (QedClose objects written) x goal (QedClose kept given)
closed_qed before objects kept written certs given wanted x goal same these all form h g =
    rw (same, these) (closed_by before objects written certs x goal form (subst (λ ls. certify_all x.scope x.facts ls certs ≡ true) all h) g)

qed_stops_by : (before : List StatementView) (objects : List Obj) (written : List Cert) (x : Basis) (goal : Goal) (h : StopReason) → StepStopsAmong x (goal_with goal objects) h →
    IsStopOfClose before (QedClose objects written) x goal h
unfolding close_script
qed_stops_by before objects written x goal (stop_reason.Lacks (Literal l) values) k filled = (k.0, k.1)
qed_stops_by before objects written x goal (stop_reason.Lacks Match values) k filled = absurd k
qed_stops_by before objects written x goal (stop_reason.Lacks AContradiction values) k filled = absurd k
qed_stops_by before objects written x goal (stop_reason.TooWide (Literal l) width) k filled = (k.0, k.1)
qed_stops_by before objects written x goal (stop_reason.TooWide Match width) k filled = absurd k
qed_stops_by before objects written x goal (stop_reason.TooWide AContradiction width) k filled = absurd k
qed_stops_by before objects written x goal stop_reason.NoMemory k filled = tt

-- where licensing the literals of its goal stops, the qed does
pub qed_stops : (before : List StatementView) (objects : List Obj) (written : List Cert) (wanted : List Lit) (x : Basis) (goal : Goal) (h : StopReason) → wanted ≡ goal_with goal objects → StepStopsAmong x wanted h →
    IsStopOfClose before (QedClose objects written) x goal h
qed_stops before objects written wanted x goal h all k = qed_stops_by before objects written x goal h (subst (λ ls. StepStopsAmong x ls h) all k)

-- a contradiction with its certificate
closed_by_against : (before : List StatementView) (written : Option Against) (a : Against) (x : Basis) (goal : Goal) → IsCertifiedAgainst x a →
    IsLicensedClose before (ContradictionClose written) x goal (ContradictionClose (Some a))
unfolding placed_steps bare_script filled_by close_script has_certs_of
closed_by_against before written a x goal h =
    record {
      licensed = (record { fits = refl; allowed = tt; others = contradictory_of_certified x.scope x.facts a h.certifies }, tt);
      certified = and_from _ _ h.certifies refl;
      erased = refl;
      version = h.written;
    }

-- facts that do not contradict each other
contradiction_lacks : (before : List StatementView) (written : Option Against) (x : Basis) (goal : Goal) (values : List (Term × ℕ)) → IsConsistentBy x.facts values →
    IsStopOfClose before (ContradictionClose written) x goal (stop_reason.Lacks AContradiction (Some values))
unfolding close_script
contradiction_lacks before written x goal values h filled = (h.not_contradictory, h.shown)

-- or one that is too wide
contradiction_wide : (before : List StatementView) (written : Option Against) (x : Basis) (goal : Goal) (width : ℕ) → IsTooWideContradiction x.facts width →
    IsStopOfClose before (ContradictionClose written) x goal (stop_reason.TooWide AContradiction width)
unfolding close_script
contradiction_wide before written x goal width h filled = h

-- what the answer on a contradiction makes of the close is right
pub closed_so : (x : Basis) (a : Refuted) → IsAnswerAgainst x a →
    IfOk (contradiction_by a) (λ d. (before : List StatementView) (goal : Goal) (written : Option Against) → IsLicensedClose before (ContradictionClose written) x goal d)
closed_so x (refuted.Yes against) h = λ before goal written. closed_by_against before written against x goal h
closed_so x (refuted.No values) h = tt
closed_so x (refuted.TooWide width) h = tt

pub stopped_so : (x : Basis) (a : Refuted) → IsAnswerAgainst x a →
    IfErr (contradiction_by a) (λ h. (before : List StatementView) (goal : Goal) (written : Option Against) → IsStopOfClose before (ContradictionClose written) x goal h)
stopped_so x (refuted.Yes against) h = tt
stopped_so x (refuted.No values) h = λ before goal written. contradiction_lacks before written x goal values h
stopped_so x (refuted.TooWide width) h = λ before goal written. contradiction_wide before written x goal width h
