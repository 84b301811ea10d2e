-- What an application is licensed as.
use Rattle.std.proofs.Common.{◌≡◌, ℕ, ◌+◌, ◌<◌, ◌^◌, List, [], ◌∷◌, ◌++◌, length, take, get_or, map, refl, sym, ap, ap₂, ◌∙◌, subst, Bool, true, false, ◌&&◌, true≢false, ltb, Option, Some, None, arith}
use Rattle.std.specs.Prelude.{IsTrue, IsFalse, IfOk, MatchBool, MatchOption, Result, Ok, Err, unwrap_or, if◌then◌else◌}
use Rattle.std.proofs.lemmas.Option.{same_Some, none-some}
use Rattle.std.specs.List.{list_all}
use Rattle.std.proofs.lemmas.Bool.{and_from}
use Rattle.std.proofs.lemmas.List.{map_more}
use Rattle.e_literal.specs.declared.object.Sort.{Sort}
use Rattle.e_literal.specs.declared.object.Obj.{Obj}
use Rattle.e_literal.specs.declared.object.Scope.{Scope}
use Rattle.e_literal.specs.declared.literal.Lit.{Lit}
use Rattle.e_literal.specs.Literal.{is_in_scope}
use Rattle.e_literal.specs.Scopes.{same_sort, are_of_sorts}
use Rattle.e_literal.specs.Rename.{same_obj}
use Rattle.e_literal.specs.Use.{StatementView, are_arguments, needs_of_use, gives_of_use}
use Rattle.e_literal.proofs.Sorts.{same_obj_self}
use Rattle.e_literal.proofs.Booleans.{and_left, and_right}
use Rattle.e_clause.specs.declared.cert.Cert.{Cert}
use Rattle.e_clause.specs.Certify.{certify_all}
use Rattle.e_clause.specs.LimitedFacts.{are_well_formed_in}
use Rattle.e_clause.proofs.Sound.{all_allowed_of_certified}
use Rattle.e_theorem.specs.Choice.{fills, is_choice, IsLeastChoice}
use Rattle.e_theorem.specs.Pattern.{is_pattern, are_entries}
use Rattle.e_deriv.specs.declared.block.Step.TheVariants.{Apply as ApplyStep}
use Rattle.e_deriv.specs.declared.stop.Wanted.TheVariants.{Literal, Match, Contradiction}
use Rattle.e_deriv.specs.Script.{Apply, step_script, bare_script}
use Rattle.e_deriv.specs.Parts.{args_written, has_no_blank, filled_in, filled_by}
use Rattle.e_deriv.specs.PlacedSteps.{placed_steps, theorem_at}
use Rattle.e_deriv.specs.Naming.{names_of_steps}
use Rattle.e_deriv.specs.Fitting.{is_small, is_small_statement}
use Rattle.e_deriv.proofs.Choices.{written_again, no_blank_again, fills_again, least_of_good}
use Rattle.e_deriv.proofs.Stops.{none_not_allowed}
use Rattle.e_clause.specs.declared.cert.Version.TheVariants as version
use Rattle.e_clause.specs.Versions.{is_cert_of}
use Rattle.e_licence.specs.Contexts.{Basis}
use Rattle.e_prove.specs.declared.application.Use.{Use}
use Rattle.e_prove.specs.declared.stop_reason.StopReason.{StopReason}
use Rattle.e_prove.specs.declared.stop_reason.StopReason.TheVariants as stop_reason
use Rattle.e_prove.specs.declared.state_before.StateBefore.{StateBefore}
use Rattle.e_prove.specs.inner.NextStates.{after_apply}
use Rattle.e_prove.specs.inner.StopsOfSteps.{StepStopsAmong, StepStopsFilling, StepStopsApplying, match_stop}
use Rattle.e_prove.specs.inner.LicensedSteps.{IsLicensedStep, IsStopOfStep}
use Rattle.e_prove.specs.inner.Applications.{CanApply, IsUse}
use Rattle.e_deriv.specs.Versions.{has_certs_of}
use Rattle.e_deriv.proofs.Smallness.{few_of_small, few_objects}

-- ---- arguments without blanks

record Chosen (s : Scope) (sorts : List Sort) (pattern : List (Option Obj)) : Type 0 where
  fill : fills pattern (args_written pattern) ≡ true
  fit : are_of_sorts s sorts (args_written pattern) ≡ true

chosen_more : (s : Scope) (sort : Sort) (sorts : List Sort) (o : Obj) (entries : List (Option Obj)) → (same_sort sort o.sort && (is_in_scope s o && are_entries s sorts entries)) ≡ true →
    Chosen s sorts entries → Chosen s (sort ∷ sorts) (Some o ∷ entries)
chosen_more s sort sorts o entries h r =
    let a = same_sort sort o.sort in
    let b = is_in_scope s o in
    let c = are_entries s sorts entries in
    record {
      fill = and_from (same_obj o o) (fills entries (args_written entries)) (same_obj_self o) r.fill;
      fit = and_from a (b && are_of_sorts s sorts (args_written entries)) (and_left a (b && c) h) (and_from b (are_of_sorts s sorts (args_written entries)) (and_left b c (and_right a (b && c) h)) r.fit);
    }

chosen : (s : Scope) (sorts : List Sort) (pattern : List (Option Obj)) → has_no_blank pattern ≡ true → are_entries s sorts pattern ≡ true → Chosen s sorts pattern
chosen s [] [] n h = record { fill = refl; fit = refl }
chosen s [] (e ∷ entries) n h = absurd (true≢false (sym h))
chosen s (sort ∷ sorts) [] n h = absurd (true≢false (sym h))
chosen s (sort ∷ sorts) (None ∷ entries) n h = absurd (true≢false (sym n))
chosen s (sort ∷ sorts) (Some o ∷ entries) n h =
    let a = same_sort sort o.sort in
    let b = is_in_scope s o in
    let c = are_entries s sorts entries in
    chosen_more s sort sorts o entries h (chosen s sorts entries n (and_right b c (and_right a (b && c) h)))

-- where no argument is a blank those that are written are a choice
pub written_choice : (t : StatementView) (s : Scope) (pattern : List (Option Obj)) → has_no_blank pattern ≡ true → is_pattern t s pattern ≡ true → is_choice t s pattern (args_written pattern) ≡ true
written_choice t s pattern n h =
    let c = chosen s t.declared pattern n h in
    and_from (fills pattern (args_written pattern)) (are_arguments t s (args_written pattern)) c.fill c.fit

pub choice_fits : (t : StatementView) (s : Scope) (pattern : List (Option Obj)) (args : List Obj) → is_choice t s pattern args ≡ true → are_arguments t s args ≡ true
choice_fits t s pattern args h = and_right (fills pattern args) (are_arguments t s args) h

-- what is used at the written arguments is used as the least good choice
pub use_written : (t : StatementView) (pattern : List (Option Obj)) (x : Basis) (u : Use) (args : List Obj) → has_no_blank pattern ≡ true → is_pattern t x.scope pattern ≡ true → args ≡ args_written pattern → u.args ≡ args →
    certify_all x.scope x.facts (needs_of_use t args x.scope) u.certs.items ≡ true → list_all (is_cert_of version.One) u.certs.items ≡ true → u.gives ≡ gives_of_use t args x.scope → IsUse t pattern x u
use_written t pattern x u args n h is same c good g =
    let here : u.args ≡ args_written pattern = same ∙ is in
    let certs : certify_all x.scope x.facts (needs_of_use t u.args x.scope) u.certs.items ≡ true = subst (λ os. certify_all x.scope x.facts (needs_of_use t os x.scope) u.certs.items ≡ true) (sym same) c in
    record {
      least =
          least_of_good t x.scope x.facts pattern u.args n (record {
            is_choice = subst (λ os. is_choice t x.scope pattern os ≡ true) (sym here) (written_choice t x.scope pattern n h);
            allowed = all_allowed_of_certified x.scope x.facts (needs_of_use t u.args x.scope) u.certs.items certs;
          });
      certified = certs;
      version = good;
      gives = g ∙ ap (λ os. gives_of_use t os x.scope) (sym same);
    }

-- ---- a step

-- the entries are the least good choice, none of them a blank; the certificates name literals that are well formed
record Filled (t : StatementView) (pattern entries : List (Option Obj)) (x : Basis) (certs : List Cert) : Type 0 where
  least : IsLeastChoice t x.scope x.facts pattern (args_written entries)
  certified : certify_all x.scope x.facts (needs_of_use t (args_written entries) x.scope) certs ≡ true
  good_certs : list_all (is_cert_of version.One) certs ≡ true
  no_blank : has_no_blank entries ≡ true
  fill : fills entries (args_written entries) ≡ true
  again : filled_in (args_written entries) ≡ entries

licensed_by_choice : (before : List StatementView) (theorem : ℕ) (pattern entries : List (Option Obj)) (names : List (List ℕ)) (old certs : List Cert) (x : StateBefore) → Filled (theorem_at before theorem) pattern entries x.context certs →
    IsLicensedStep before (ApplyStep theorem pattern names old) x (ApplyStep theorem entries names certs) (after_apply (theorem_at before theorem) (args_written entries) names x)
unfolding placed_steps bare_script filled_by names_of_steps step_script has_certs_of
licensed_by_choice before theorem pattern entries names old certs x h =
    let t = theorem_at before theorem in
    let s = x.context.scope in
    let args = args_written entries in
    let low = ltb theorem (length before) in
    record {
      licensed = λ rest more goal form.
          record {
            fits = and_from low (is_choice t s pattern args) (and_left low (is_pattern t s pattern) form) h.least.good.is_choice;
            allowed = all_allowed_of_certified s x.context.facts (needs_of_use t args s) certs h.certified;
            others = h.least;
          };
      certified = λ rest more goal form.
          and_from _ _
          (and_from low (is_choice t s entries args) (and_left low (is_pattern t s pattern) form)
          (and_from (fills entries args) (are_arguments t s args) h.fill (choice_fits t s pattern args h.least.good.is_choice)))
          (and_from _ _ h.certified h.no_blank);
      erased = λ rest more e. ap₂ (λ es w. Apply theorem es names [] w) (sym h.again) e;
      version = λ more k. and_from _ _ h.good_certs k;
      next = λ rest more goal. refl;
      derived_next = λ more goal. refl;
      named = λ rest. refl;
      kept = refl;
    }

filled_of_use : (t : StatementView) (pattern : List (Option Obj)) (x : Basis) (u : Use) → IsUse t pattern x u → Filled t pattern (filled_in u.args) x u.certs.items
filled_of_use t pattern x u h =
    let same : args_written (filled_in u.args) ≡ u.args = written_again u.args in
    record {
      least = subst (IsLeastChoice t x.scope x.facts pattern) (sym same) h.least;
      certified = subst (λ os. certify_all x.scope x.facts (needs_of_use t os x.scope) u.certs.items ≡ true) (sym same) h.certified;
      good_certs = h.version;
      no_blank = no_blank_again u.args;
      fill = subst (λ os. fills (filled_in u.args) os ≡ true) (sym same) (fills_again u.args);
      again = ap filled_in same;
    }

licensed_by_use : (before : List StatementView) (theorem : ℕ) (pattern : List (Option Obj)) (names : List (List ℕ)) (old : List Cert) (x : StateBefore) (u : Use) → IsUse (theorem_at before theorem) pattern x.context u →
    IsLicensedStep before (ApplyStep theorem pattern names old) x (ApplyStep theorem (filled_in u.args) names u.certs.items) (after_apply (theorem_at before theorem) u.args names x)
licensed_by_use before theorem pattern names old x u h =
    let t = theorem_at before theorem in
    subst (λ os. IsLicensedStep before (ApplyStep theorem pattern names old) x (ApplyStep theorem (filled_in u.args) names u.certs.items) (after_apply t os names x)) (written_again u.args)
    (licensed_by_choice before theorem pattern (filled_in u.args) names old u.certs.items x (filled_of_use t pattern x.context u h))

pub licensed_apply : (before : List StatementView) (theorem : ℕ) (pattern entries : List (Option Obj)) (names kept : List (List ℕ)) (old certs : List Cert) (t : StatementView) (x after : StateBefore) (u : Use) → theorem_at before theorem ≡ t →
    IsUse t pattern x.context u → entries ≡ filled_in u.args → kept ≡ names → certs ≡ u.certs.items → after ≡ after_apply t u.args names x →
    IsLicensedStep before (ApplyStep theorem pattern names old) x (ApplyStep theorem entries kept certs) after
licensed_apply before theorem pattern entries names kept old certs t x after u e h a b c d =
    rw (a, b, c, d)
    (subst (λ w. IsLicensedStep before (ApplyStep theorem pattern names old) x (ApplyStep theorem (filled_in u.args) names u.certs.items) (after_apply w u.args names x)) e
    (licensed_by_use before theorem pattern names old x u (subst (λ w. IsUse w pattern x.context u) (sym e) h)))

-- the given literals of a use at these arguments, under these names
pub needs_there : (t : StatementView) (s other : Scope) (args same : List Obj) (needs given : List Lit) → same ≡ args → other ≡ s → needs ≡ needs_of_use t same other → given ≡ needs → given ≡ needs_of_use t args s
needs_there t s other args same needs given a b is k = k ∙ is ∙ ap (λ os. needs_of_use t os other) a ∙ ap (needs_of_use t args) b

-- the arguments that are written so far, and the next one
pub entries_next : (args : List Obj) (i : ℕ) (d : Obj) (entries after : List (Option Obj)) → i < length args → entries ≡ map Some (take i args) → after ≡ entries ++ Some (get_or args i d) ∷ [] →
    after ≡ map Some (take (i + 1) args)
entries_next args i d entries after lt so_far is = is ∙ ap (λ es. es ++ Some (get_or args i d) ∷ []) so_far ∙ sym (map_more Some args i d lt)

-- ---- what stops

-- without blanks: at a given literal
stops_written : (before : List StatementView) (theorem : ℕ) (pattern : List (Option Obj)) (names : List (List ℕ)) (old : List Cert) (x : StateBefore) (h : StopReason) → has_no_blank pattern ≡ true →
    StepStopsAmong x.context (needs_of_use (theorem_at before theorem) (args_written pattern) x.context.scope) h → IsStopOfStep before (ApplyStep theorem pattern names old) x h
unfolding step_script
stops_written before theorem pattern names old x (stop_reason.Lacks (Literal l) values) n k rest filled goal = ((n, k.0), k.1)
stops_written before theorem pattern names old x (stop_reason.Lacks Match values) n k rest filled goal = absurd k
stops_written before theorem pattern names old x (stop_reason.Lacks Contradiction values) n k rest filled goal = absurd k
stops_written before theorem pattern names old x (stop_reason.TooWide (Literal l) width) n k rest filled goal = (n, k.0, k.1)
stops_written before theorem pattern names old x (stop_reason.TooWide Match width) n k rest filled goal = absurd k
stops_written before theorem pattern names old x (stop_reason.TooWide Contradiction width) n k rest filled goal = absurd k
stops_written before theorem pattern names old x stop_reason.NoMemory n k rest filled goal = tt

-- with blanks: at their filling
stops_filling : (before : List StatementView) (theorem : ℕ) (pattern : List (Option Obj)) (names : List (List ℕ)) (old : List Cert) (x : StateBefore) (h : StopReason) → has_no_blank pattern ≡ false →
    StepStopsFilling (theorem_at before theorem) x.context pattern h → IsStopOfStep before (ApplyStep theorem pattern names old) x h
unfolding step_script
stops_filling before theorem pattern names old x (stop_reason.Lacks (Literal l) values) n k rest filled goal = absurd k
stops_filling before theorem pattern names old x (stop_reason.Lacks Match values) n k rest filled goal = ((n, k.0), k.1)
stops_filling before theorem pattern names old x (stop_reason.Lacks Contradiction values) n k rest filled goal = absurd k
stops_filling before theorem pattern names old x (stop_reason.TooWide (Literal l) width) n k rest filled goal = absurd k
stops_filling before theorem pattern names old x (stop_reason.TooWide Match width) n k rest filled goal = (n, k)
stops_filling before theorem pattern names old x (stop_reason.TooWide Contradiction width) n k rest filled goal = absurd k
stops_filling before theorem pattern names old x stop_reason.NoMemory n k rest filled goal = tt

stops_by : (before : List StatementView) (theorem : ℕ) (pattern : List (Option Obj)) (names : List (List ℕ)) (old : List Cert) (x : StateBefore) (h : StopReason) (b : Bool) → has_no_blank pattern ≡ b →
    MatchBool b (StepStopsAmong x.context (needs_of_use (theorem_at before theorem) (args_written pattern) x.context.scope) h) (StepStopsFilling (theorem_at before theorem) x.context pattern h) →
    IsStopOfStep before (ApplyStep theorem pattern names old) x h
stops_by before theorem pattern names old x h true n k = stops_written before theorem pattern names old x h n k
stops_by before theorem pattern names old x h false n k = stops_filling before theorem pattern names old x h n k

pub apply_stops : (before : List StatementView) (theorem : ℕ) (pattern : List (Option Obj)) (names : List (List ℕ)) (old : List Cert) (t : StatementView) (x : StateBefore) (h : StopReason) → theorem_at before theorem ≡ t →
    StepStopsApplying t x.context pattern h → IsStopOfStep before (ApplyStep theorem pattern names old) x h
apply_stops before theorem pattern names old t x h e k =
    stops_by before theorem pattern names old x h (has_no_blank pattern) refl (subst (λ w. StepStopsApplying w x.context pattern h) (sym e) k)

-- without blanks what stops there stops at the application
pub stops_without : (t : StatementView) (x : Basis) (pattern : List (Option Obj)) (args : List Obj) (h : StopReason) → has_no_blank pattern ≡ true → args ≡ args_written pattern → StepStopsAmong x (needs_of_use t args x.scope) h → StepStopsApplying t x pattern h
stops_without t x pattern args h n is k =
    subst (λ b. MatchBool b (StepStopsAmong x (needs_of_use t (args_written pattern) x.scope) h) (StepStopsFilling t x pattern h)) (sym n) (subst (λ os. StepStopsAmong x (needs_of_use t os x.scope) h) is k)

-- at the least good choice no given literal is refused, and one that is too wide is a match that is
match_stops : (t : StatementView) (x : Basis) (pattern : List (Option Obj)) (args : List Obj) (h : StopReason) → IsLeastChoice t x.scope x.facts pattern args → StepStopsAmong x (needs_of_use t args x.scope) h → StepStopsFilling t x pattern (match_stop h)
match_stops t x pattern args (stop_reason.Lacks (Literal l) values) least k = absurd (none_not_allowed x.scope x.facts (needs_of_use t args x.scope) l least.good.allowed k.0)
match_stops t x pattern args (stop_reason.Lacks Match values) least k = absurd k
match_stops t x pattern args (stop_reason.Lacks Contradiction values) least k = absurd k
match_stops t x pattern args (stop_reason.TooWide (Literal l) width) least k =
    record { args = args; is_choice = least.good.is_choice; not_above = λ other o. least.least other o.good; lit = l; is_given = k.0; is_wide = k.1 }
match_stops t x pattern args (stop_reason.TooWide Match width) least k = absurd k
match_stops t x pattern args (stop_reason.TooWide Contradiction width) least k = absurd k
match_stops t x pattern args stop_reason.NoMemory least k = tt

pub match_stops_so : (t : StatementView) (x : Basis) (pattern : List (Option Obj)) (args : List Obj) (h k : StopReason) → IsLeastChoice t x.scope x.facts pattern args → StepStopsAmong x (needs_of_use t args x.scope) h → k ≡ match_stop h → StepStopsFilling t x pattern k
match_stops_so t x pattern args h k least stops_at is = subst (StepStopsFilling t x pattern) (sym is) (match_stops t x pattern args h least stops_at)

-- ---- what the code says

pub used_is_written : (t : StatementView) (pattern : List (Option Obj)) (x : Basis) (args : List Obj) (r : Result Use StopReason) → has_no_blank pattern ≡ true → is_pattern t x.scope pattern ≡ true → args ≡ args_written pattern →
    IfOk r (λ u. u.args ≡ args) → IfOk r (λ u. certify_all x.scope x.facts (needs_of_use t args x.scope) u.certs.items ≡ true) → IfOk r (λ u. list_all (is_cert_of version.One) u.certs.items ≡ true) →
    IfOk r (λ u. u.gives ≡ gives_of_use t args x.scope) → IfOk r (IsUse t pattern x)
used_is_written t pattern x args (Err h) n f is a b g c = tt
used_is_written t pattern x args (Ok u) n f is a b g c = use_written t pattern x u args n f is a b g c

-- each statement that can be applied has few objects, and so has the scope
pub record RoomFor (t : StatementView) (s : Scope) : Type 0 where
  pub few : length t.declared + length t.made < 2 ^ 16
  pub points : s.points + length t.made < 2 ^ 16
  pub lines : s.lines + length t.made < 2 ^ 16
  pub circles : s.circles + length t.made < 2 ^ 16

pub room_for : (t : StatementView) (s kept : Scope) → is_small_statement t ≡ true → is_small s ≡ true → kept ≡ s → RoomFor t kept
room_for t s kept h k same =
    let objects = few_objects t h in
    let few = few_of_small s k in
    let here : RoomFor t s = record { few = omega (arith, objects); points = omega (arith, objects, few.points); lines = omega (arith, objects, few.lines); circles = omega (arith, objects, few.circles) } in
    subst (RoomFor t) (sym same) here

-- the arguments are all written
pub record WrittenIs (pattern : List (Option Obj)) (args : List Obj) : Type 0 where
  pub no_blank : has_no_blank pattern ≡ true
  pub is : args ≡ args_written pattern

written_of : (v w : List Obj) (b : Bool) → Some v ≡ (if b then Some w else None) → (b ≡ true) × (v ≡ w)
written_of v w true e = (refl, same_Some v w e)
written_of v w false e = absurd (none-some v (sym e))

pub written_is : (pattern : List (Option Obj)) (items args : List Obj) → Some items ≡ (if has_no_blank pattern then Some (args_written pattern) else None) → args ≡ items → WrittenIs pattern args
written_is pattern items args e same =
    let w = written_of items (args_written pattern) (has_no_blank pattern) e in
    record { no_blank = w.0; is = same ∙ w.1 }

pub written_fits : (t : StatementView) (x : Basis) (pattern : List (Option Obj)) (args : List Obj) → WrittenIs pattern args → CanApply t pattern x → are_arguments t x.scope args ≡ true
written_fits t x pattern args w can =
    subst (λ os. are_arguments t x.scope os ≡ true) (sym w.is) (choice_fits t x.scope pattern (args_written pattern) (written_choice t x.scope pattern w.no_blank can.fits))

pub written_needs : (t : StatementView) (x : Basis) (pattern : List (Option Obj)) (args : List Obj) → WrittenIs pattern args → CanApply t pattern x → are_well_formed_in x.scope (needs_of_use t args x.scope) ≡ true
written_needs t x pattern args w can =
    subst (λ os. are_well_formed_in x.scope (needs_of_use t os x.scope) ≡ true) (sym w.is) (can.lits (args_written pattern) (written_choice t x.scope pattern w.no_blank can.fits)).needs
