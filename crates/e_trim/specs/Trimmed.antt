-- A derivation without the steps that nothing needs.
use Rattle.std.specs.Prelude.{ℕ, ◌+◌, List, [], ◌∷◌, ◌++◌, map, filter, Bool, not, ◌&&◌, ◌||◌}
use Rattle.std.specs.Prelude.{nat_lt, if◌then◌else◌, ℤ, Option, Some}
use Rattle.std.specs.Option.{option_map}
use Rattle.std.specs.List.{list_any}
use Rattle.e_literal.specs.declared.object.Obj.{Obj}
use Rattle.e_literal.specs.declared.object.Sort.{Sort}
use Rattle.e_literal.specs.declared.object.Sort.TheVariants.{Point, Line as ALine}
use Rattle.e_literal.specs.declared.object.Scope.{Scope}
use Rattle.e_literal.specs.declared.literal.Lit.{Lit}
use Rattle.e_literal.specs.Literal.{negation, obj, is_in_scope}
use Rattle.e_literal.specs.Facts.{has, with_fact, with_facts}
use Rattle.e_literal.specs.Rename.{with_images, term_at, same_obj}
use Rattle.e_literal.specs.Scopes.{same_sort, nothing, with_sorts, next_objects}
use Rattle.e_literal.specs.Use.{StatementView, scope_of, gives_of_use}
use Rattle.e_construct.specs.declared.construction.Construction.{Construction}
use Rattle.e_construct.specs.declared.superpose.Superpose.{Superpose}
use Rattle.e_construct.specs.Construct.{sorts_made, gives_of_construction}
use Rattle.e_construct.specs.Superposing as superposing
use Rattle.e_clause.specs.declared.cert.By.{By}
use Rattle.e_clause.specs.declared.cert.Cert.{Cert}
use Rattle.e_clause.specs.declared.cert.Cert.TheVariants.{Plain, Transfer}
use Rattle.e_clause.specs.declared.cert.Part.{Part}
use Rattle.e_clause.specs.declared.cert.Part.TheVariants.{Fact as FactPart, Metric}
use Rattle.e_clause.specs.declared.cert.Part.TheVariants.{FactAt as FactPartAt}
use Rattle.e_clause.specs.declared.cert.TransferCert.{TransferCert}
use Rattle.e_clause.specs.declared.cert.MetricCert.{MetricCert}
use Rattle.e_clause.specs.declared.cert.Against.{Against}
use Rattle.e_clause.specs.declared.cert.Against.TheVariants.{Clash, Metric as MetricAgainst}
use Rattle.e_clause.specs.declared.cert.RowName.{RowName}
use Rattle.e_clause.specs.declared.cert.RowName.TheVariants.{Fact, Pos, Top, Least}
use Rattle.e_clause.specs.declared.cert.Sums.{Sums}
use Rattle.e_clause.specs.declared.cert.Sums.TheVariants.{One, Two}
use Rattle.e_deriv.specs.Script.{Script, Cite, Hence, Make, Apply, Claim, Superposed, Qed}
use Rattle.e_deriv.specs.Script.{Contradiction, Cases}
use Rattle.e_deriv.specs.Parts.{args_of}
use Rattle.e_deriv.specs.Goal.{Goal, goal_of, goal_of_statement, facts_of_statement}
use Rattle.e_deriv.specs.PlacedSteps.{PlacedStep, placed_step, theorem_at}
use Rattle.e_trim.specs.Looked.{Wants, no_wants, both, of_step}

-- ---- what a step supplies

-- the literals that the step makes facts
abbrev pub joins_at : List StatementView → Script → Scope → List Lit
joins_at before (Cite by rest) s = by.lit ∷ []
joins_at before (Hence lit cert rest) s = lit ∷ []
joins_at before (Make construction names certs rest) s = gives_of_construction construction s
joins_at before (Apply theorem args names certs rest) s =
    gives_of_use (theorem_at before theorem) (args_of (Apply theorem args names certs rest)) s
joins_at before (Claim shown inner rest) s = shown
joins_at before (Superposed superposition names shown certs inner rest) s = shown
joins_at before _ s = []

-- the sorts of the objects that the step makes and that live on
abbrev pub makes_at : List StatementView → Script → List Sort
makes_at before (Make construction names certs rest) = sorts_made construction
makes_at before (Apply theorem args names certs rest) = (theorem_at before theorem).made
makes_at before _ = []

-- it makes a literal a fact that is looked up after it, and none the same was a fact before
abbrev pub supplies : List Lit → Wants → Lit → Bool
supplies facts w l = not (has facts l) && has w.lits l

abbrev pub is_needed : Wants → Obj → Bool
is_needed w o = list_any (same_obj o) w.objects

-- a step is kept where it supplies a literal, or makes an object, that is wanted after it
abbrev pub is_kept : List StatementView → Script → Scope → List Lit → Wants → Bool
is_kept before here s facts w =
    list_any (supplies facts w) (joins_at before here s)
    || list_any (is_needed w) (next_objects s (makes_at before here))

-- of what a block wants, what is outside of it: facts that stood before it, and objects that were
-- in scope
abbrev pub wants_outside : Scope → List Lit → Wants → Wants
wants_outside s facts w =
    record { lits = filter (has facts) w.lits; objects = filter (is_in_scope s) w.objects }

-- ---- from the close backwards

-- the step at the beginning of a script, which has no blanks to fill
abbrev pub as_step : Script → Scope → List Lit → Goal → PlacedStep
as_step here s facts goal = placed_step here here s facts goal

-- Where this is wanted after a step, and that by the block inside it, what is wanted from the step
-- on: a step that is not kept wants nothing.
abbrev pub wants_with_step : List StatementView → Script → Scope → List Lit → Goal
    → Wants → Wants → Wants
wants_with_step before here s facts goal inner w =
    if is_kept before here s facts w
    then both w (both (of_step before (as_step here s facts goal)) inner)
    else w

-- what the kept steps and the close look up and need, from here to the end of the block
unfoldable pub wants : List StatementView → Script → Scope → List Lit → Goal → Wants
wants before (Cite by rest) s facts goal =
    wants_with_step before (Cite by rest) s facts goal no_wants
    (wants before rest s (with_fact facts by.lit) goal)
wants before (Hence lit cert rest) s facts goal =
    wants_with_step before (Hence lit cert rest) s facts goal no_wants
    (wants before rest s (with_fact facts lit) goal)
wants before (Make construction names certs rest) s facts goal =
    wants_with_step before (Make construction names certs rest) s facts goal no_wants
    (wants before rest (with_sorts s (sorts_made construction))
    (with_facts facts (gives_of_construction construction s)) goal)
wants before (Apply theorem args names certs rest) s facts goal =
    let here = Apply theorem args names certs rest in
    wants_with_step before here s facts goal no_wants
    (wants before rest (with_sorts s (theorem_at before theorem).made)
    (with_facts facts (joins_at before here s)) goal)
wants before (Claim shown inner rest) s facts goal =
    wants_with_step before (Claim shown inner rest) s facts goal
    (wants_outside s facts (wants before inner s facts (goal_of shown)))
    (wants before rest s (with_facts facts shown) goal)
wants before (Superposed superposition names shown certs inner rest) s facts goal =
    wants_with_step before (Superposed superposition names shown certs inner rest) s facts goal
    (wants_outside s facts (wants before inner (with_sorts s superposing.sorts_copied)
    (with_facts facts (superposing.gives_of_superposition superposition s)) (goal_of shown)))
    (wants before rest s (with_facts facts shown) goal)
wants before (Qed objects certs) s facts goal =
    of_step before (as_step (Qed objects certs) s facts goal)
wants before (Contradiction against) s facts goal =
    of_step before (as_step (Contradiction against) s facts goal)
wants before (Cases lit first second) s facts goal =
    both (of_step before (as_step (Cases lit first second) s facts goal))
    (both (wants_outside s facts (wants before second s (with_fact facts (negation lit)) goal))
    (wants_outside s facts (wants before first s (with_fact facts lit) goal)))

-- ---- the objects take the next numbers anew

abbrev pub is_lesser_of_sort : Obj → Sort → ℕ → Bool
is_lesser_of_sort k sort n = same_sort k.sort sort && nat_lt k.num n

-- how many of the kept objects of the sort have a lesser number
abbrev pub kept_before : List Obj → Sort → ℕ → ℕ
kept_before [] sort n = 0
kept_before (k ∷ kept) sort n =
    (if is_lesser_of_sort k sort n then 1 else 0) + kept_before kept sort n

abbrev pub obj_at : List Obj → Obj → Obj
obj_at kept o = obj o.sort (kept_before kept o.sort o.num)

abbrev pub image_among_kept : List Obj → Obj → Option Obj
image_among_kept kept o = Some (obj_at kept o)

abbrev pub lit_among_kept : List Obj → Lit → Lit
lit_among_kept kept l = with_images (image_among_kept kept) l

abbrev pub row_name_among_kept : List Obj → RowName → RowName
row_name_among_kept kept (Fact l) = Fact (lit_among_kept kept l)
row_name_among_kept kept (Pos t) = Pos (term_at (kept_before kept Point) t)
row_name_among_kept kept (Top t) = Top (term_at (kept_before kept Point) t)
row_name_among_kept kept (Least t) = Least (term_at (kept_before kept Point) t)
row_name_among_kept kept name = name

abbrev pub sum_at : List Obj → List (ℤ × RowName) → List (ℤ × RowName)
sum_at kept xs = map (λ x. (x.0, row_name_among_kept kept x.1)) xs

abbrev pub sums_at : List Obj → Sums → Sums
sums_at kept (One sum) = One (sum_at kept sum)
sums_at kept (Two differs above below) =
    Two (row_name_among_kept kept differs) (sum_at kept above) (sum_at kept below)

abbrev pub metric_at : List Obj → MetricCert → MetricCert
metric_at kept m = record { sums = sums_at kept m.sums }

abbrev pub part_at : List Obj → Part → Part
part_at kept FactPart = FactPart
part_at kept (Metric m) = Metric (metric_at kept m)
part_at kept (FactPartAt k) = FactPartAt k

abbrev pub transfer_among_kept : List Obj → TransferCert → TransferCert
transfer_among_kept kept t =
    record { rule = t.rule; args = map (obj_at kept) t.args; parts = map (part_at kept) t.parts }

abbrev pub cert_at : List Obj → Cert → Cert
cert_at kept (Plain p) = Plain (part_at kept p)
cert_at kept (Transfer t) = Transfer (transfer_among_kept kept t)

abbrev pub against_at : List Obj → Against → Against
against_at kept (Clash l) = Clash (lit_among_kept kept l)
against_at kept (MetricAgainst m) = MetricAgainst (metric_at kept m)

abbrev pub by_at : List Obj → By → By
by_at kept by =
    record { rule = by.rule; args = map (obj_at kept) by.args; lit = lit_among_kept kept by.lit }

abbrev pub construction_among_kept : List Obj → Construction → Construction
construction_among_kept kept construction =
    record {
      shape = construction.shape;
      args = map (obj_at kept) construction.args;
      avoid = map (obj_at kept) construction.avoid;
    }

abbrev pub superpose_at : List Obj → Superpose → Superpose
superpose_at kept superposition =
    record superposition {
      points = map (kept_before kept Point) superposition.points;
      lines = map (kept_before kept ALine) superposition.lines;
    }

abbrev pub args_at : List Obj → List (Option Obj) → List (Option Obj)
args_at kept args = map (option_map (obj_at kept)) args

-- ---- trimmed

-- the kept steps and the close, over the kept objects; the objects that a kept step makes are kept
unfoldable pub trimmed_from : List StatementView → List Obj → Script → Scope
    → List Lit → Goal → Script
trimmed_from before kept (Cite by rest) s facts goal =
    let more = trimmed_from before kept rest s (with_fact facts by.lit) goal in
    if is_kept before (Cite by rest) s facts (wants before rest s (with_fact facts by.lit) goal)
    then Cite (by_at kept by) more
    else more
trimmed_from before kept (Hence lit cert rest) s facts goal =
    let more = trimmed_from before kept rest s (with_fact facts lit) goal in
    if is_kept before (Hence lit cert rest) s facts (wants before rest s (with_fact facts lit) goal)
    then Hence (lit_among_kept kept lit) (option_map (cert_at kept) cert) more else more
trimmed_from before kept (Make construction names certs rest) s facts goal =
    let after = with_facts facts (gives_of_construction construction s) in
    let wide = with_sorts s (sorts_made construction) in
    if is_kept before (Make construction names certs rest) s facts
    (wants before rest wide after goal)
    then Make (construction_among_kept kept construction) names (map (cert_at kept) certs)
    (trimmed_from before (kept ++ next_objects s (sorts_made construction)) rest wide after goal)
    else trimmed_from before kept rest wide after goal
trimmed_from before kept (Apply theorem args names certs rest) s facts goal =
    let here = Apply theorem args names certs rest in
    let new = (theorem_at before theorem).made in
    let after = with_facts facts (joins_at before here s) in
    if is_kept before here s facts (wants before rest (with_sorts s new) after goal)
    then Apply theorem (args_at kept args) names (map (cert_at kept) certs)
    (trimmed_from before (kept ++ next_objects s new) rest (with_sorts s new) after goal)
    else trimmed_from before kept rest (with_sorts s new) after goal
trimmed_from before kept (Claim shown inner rest) s facts goal =
    let more = trimmed_from before kept rest s (with_facts facts shown) goal in
    if is_kept before (Claim shown inner rest) s facts (wants before rest s
    (with_facts facts shown) goal)
    then Claim (map (lit_among_kept kept) shown)
    (trimmed_from before kept inner s facts (goal_of shown)) more else more
trimmed_from before kept (Superposed superposition names shown certs inner rest) s facts goal =
    let more = trimmed_from before kept rest s (with_facts facts shown) goal in
    let opened = with_facts facts (superposing.gives_of_superposition superposition s) in
    if is_kept before (Superposed superposition names shown certs inner rest) s facts
    (wants before rest s (with_facts facts shown) goal)
    then Superposed (superpose_at kept superposition) names (map (lit_among_kept kept) shown)
    (map (cert_at kept) certs)
    (trimmed_from before (kept ++ next_objects s superposing.sorts_copied) inner
    (with_sorts s superposing.sorts_copied) opened (goal_of shown)) more
    else more
trimmed_from before kept (Qed objects certs) s facts goal =
    Qed (map (obj_at kept) objects) (map (cert_at kept) certs)
trimmed_from before kept (Contradiction against) s facts goal =
    Contradiction (option_map (against_at kept) against)
trimmed_from before kept (Cases lit first second) s facts goal =
    Cases (lit_among_kept kept lit) (trimmed_from before kept first s (with_fact facts lit) goal)
    (trimmed_from before kept second s (with_fact facts (negation lit)) goal)

-- the declared objects are kept
abbrev pub declared_of : StatementView → List Obj
declared_of t = next_objects nothing t.declared

-- of the derivation of a statement
abbrev pub trimmed_script : List StatementView → StatementView → Script → Script
trimmed_script before t d =
    trimmed_from before (declared_of t) d (scope_of t) (facts_of_statement t) (goal_of_statement t)
