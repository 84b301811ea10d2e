-- The choices that a sweep finds are the first of the good ones.
use Rattle.std.proofs.Common.{◌≡◌, ◌⊎◌, ℕ, zero, suc, ◌<◌, ◌≤◌, List, [], ◌∷◌, length, map, refl, sym, ap, ◌∙◌, subst, arith, Bool, true, false, true≢false, inl, inr, Option, Result, Ok, Err, append-nil}
use Rattle.std.specs.Prelude.{Contains, IfOk, IsTrue, slice_index_or}
use Rattle.std.specs.List.{list_all}
use Rattle.std.proofs.lemmas.Bool.{and_from}
use Rattle.e_literal.specs.declared.object.Obj.{Obj}
use Rattle.e_literal.specs.declared.literal.Lit.{Lit}
use Rattle.e_literal.specs.Rename.{pairs_of}
use Rattle.e_literal.specs.Scopes.{nothing}
use Rattle.e_literal.specs.Use.{StatementView}
use Rattle.e_clause.specs.Wide.{IsTooWideLit}
use Rattle.e_theorem.specs.Choice.{is_below, IsAllowedChoice}
use Rattle.e_theorem.proofs.Uses.{needs_declared}
use Rattle.e_transfer.specs.declared.walk.Span.{Span}
use Rattle.e_transfer.specs.Choice.{FitsSpans, Starts, ComesBefore, EachKept}
use Rattle.e_licence.specs.Contexts.{Basis}
use Rattle.e_licence.specs.declared.choices.FirstChoices.{FirstChoices}
use Rattle.e_licence.specs.declared.choices.FirstChoices.TheVariants as first
use Rattle.e_licence.specs.declared.sweep.Swept.{Swept}
use Rattle.e_licence.specs.declared.sweep.Swept.TheVariants as sweep
use Rattle.e_licence.specs.ChoicesInOrder.{is_ascending, is_above, AreFirst, AnyChoiceIsTooWide, FirstAre}
use Rattle.e_licence.specs.inner.BlankChoices.{filled_arguments, spans_of, IsWanted}
use Rattle.e_licence.specs.inner.Sweeps.{Each, IsAmongChoices, AreAscending, IsAbove, IsKeptWhole, AreAll, AreFirstOf, Sweeps}
use Rattle.e_licence.proofs.BlankChoices.{has_empty, fits_starts, whole, chosen, in_order}
use Rattle.e_licence.proofs.KnownLiterals.{KeptAt, WideAt, at, stays, contains_at}
use Rattle.e_licence.proofs.FilledBlanks.{objects, spans, Wanted, Kept, Wide, IsAsked, good_fits, good_filled, good_wanted, none_where_empty, start_fits, start_choice, kept_allowed, IsSearch, none_empty}
use Rattle.e_licence.proofs.SweptChoices.{each_map}

-- the arguments by the numbers of a choice
abbrev Args : Basis → StatementView → List (Option Obj) → List ℕ → List Obj
Args b t pattern c = filled_arguments b.scope (objects t) pattern c

abbrev AllArgs : Basis → StatementView → List (Option Obj) → List (List ℕ) → List (List Obj)
AllArgs b t pattern cs = map (λ c. filled_arguments b.scope (objects t) pattern c) cs

-- ---- one choice

-- a whole choice whose parts are all kept is good
whole_good : (b : Basis) (t : StatementView) (pattern : List (Option Obj)) (c : List ℕ) → IsAsked b t pattern → has_empty (spans b t pattern) ≡ false → FitsSpans (spans b t pattern) c
    → EachKept (Kept b t pattern) [] c → IsAllowedChoice t b.scope b.facts pattern (Args b t pattern c)
whole_good b t pattern c asked some fits kept =
    let starts = fits_starts (spans b t pattern) c fits in
    subst (λ (os : List Obj). IsAllowedChoice t b.scope b.facts pattern os) (whole b.scope nothing b.scope nothing t.declared pattern c fits)
    (record {
      is_choice = start_choice b t pattern c asked some starts;
      allowed = kept_allowed b t pattern c (filled_arguments nothing (objects t) pattern c) asked.states (whole b.scope b.scope nothing nothing t.declared pattern c fits)
          (start_fits b t pattern c asked some starts) fits kept;
    })

fits_of : (b : Basis) (t : StatementView) (pattern : List (Option Obj)) (c : List ℕ) → IsKeptWhole (Kept b t pattern) [] (spans b t pattern) c → FitsSpans (spans b t pattern) c
fits_of b t pattern c w = subst (λ (x : List ℕ). FitsSpans (spans b t pattern) x) (sym w.is) w.fits

good_of : (b : Basis) (t : StatementView) (pattern : List (Option Obj)) (c : List ℕ) → IsAsked b t pattern → has_empty (spans b t pattern) ≡ false
    → IsKeptWhole (Kept b t pattern) [] (spans b t pattern) c → IsAllowedChoice t b.scope b.facts pattern (Args b t pattern c)
good_of b t pattern c asked some w =
    whole_good b t pattern c asked some (fits_of b t pattern c w) (subst (λ (x : List ℕ). EachKept (Kept b t pattern) [] x) (sym w.is) w.each)

-- ---- lists of choices

-- each of the arguments are those of a choice
all_good : (b : Basis) (t : StatementView) (pattern : List (Option Obj)) (cs : List (List ℕ)) (args : List Obj) (k : ℕ) → IsAsked b t pattern → has_empty (spans b t pattern) ≡ false
    → Each (IsKeptWhole (Kept b t pattern) [] (spans b t pattern)) cs → k < length (AllArgs b t pattern cs) → slice_index_or (AllArgs b t pattern cs) k args ≡ args → IsAllowedChoice t b.scope b.facts pattern args
all_good b t pattern [] args k asked some h less is = absurd (omega (arith, less))
all_good b t pattern (c ∷ cs) args zero asked some (h, hs) less is = subst (λ (x : List Obj). IsAllowedChoice t b.scope b.facts pattern x) is (good_of b t pattern c asked some h)
all_good b t pattern (c ∷ cs) args (suc k) asked some (h, hs) less is = all_good b t pattern cs args k asked some hs (omega (arith, less)) is

below_args : (b : Basis) (t : StatementView) (pattern : List (Option Obj)) (c d : List ℕ) → FitsSpans (spans b t pattern) c → FitsSpans (spans b t pattern) d → ComesBefore c d
    → is_below (Args b t pattern c) (Args b t pattern d) ≡ true
below_args b t pattern c d fits fit less = in_order b.scope b.scope nothing t.declared pattern c d fits fit less

all_after : (b : Basis) (t : StatementView) (pattern : List (Option Obj)) (c : List ℕ) (cs : List (List ℕ)) → FitsSpans (spans b t pattern) c → Each (FitsSpans (spans b t pattern)) cs → Each (ComesBefore c) cs
    → list_all (is_below (Args b t pattern c)) (AllArgs b t pattern cs) ≡ true
all_after b t pattern c [] fits fit less = refl
all_after b t pattern c (d ∷ ds) fits (f, fs) (l, ls) =
    and_from (is_below (Args b t pattern c) (Args b t pattern d)) _ (below_args b t pattern c d fits f l) (all_after b t pattern c ds fits fs ls)

ascending_args : (b : Basis) (t : StatementView) (pattern : List (Option Obj)) (cs : List (List ℕ)) → Each (FitsSpans (spans b t pattern)) cs → AreAscending cs → is_ascending (AllArgs b t pattern cs) ≡ true
ascending_args b t pattern [] fits less = refl
ascending_args b t pattern (c ∷ cs) (f, fs) (l, ls) =
    and_from (list_all (is_below (Args b t pattern c)) (AllArgs b t pattern cs)) _ (all_after b t pattern c cs f fs l) (ascending_args b t pattern cs fs ls)

above_args : (b : Basis) (t : StatementView) (pattern : List (Option Obj)) (cs : List (List ℕ)) (d : List ℕ) → Each (FitsSpans (spans b t pattern)) cs → FitsSpans (spans b t pattern) d → IsAbove cs d
    → is_above (AllArgs b t pattern cs) (Args b t pattern d) ≡ true
above_args b t pattern [] d fits fit less = refl
above_args b t pattern (c ∷ cs) d (f, fs) fit (l, ls) =
    and_from (is_below (Args b t pattern c) (Args b t pattern d)) _ (below_args b t pattern c d f fit l) (above_args b t pattern cs d fs fit ls)

in_args : (b : Basis) (t : StatementView) (pattern : List (Option Obj)) (cs : List (List ℕ)) (c : List ℕ) (args : List Obj) → Args b t pattern c ≡ args → IsAmongChoices c cs → Contains (AllArgs b t pattern cs) args
in_args b t pattern [] c args are h = absurd h
in_args b t pattern (d ∷ ds) c args are (inl is) = (0, omega arith, ap (λ x. filled_arguments b.scope (objects t) pattern x) is ∙ are)
in_args b t pattern (d ∷ ds) c args are (inr h) = let k = in_args b t pattern ds c args are h in (suc k.0, omega (arith, k.1), k.2)

each_fits : (b : Basis) (t : StatementView) (pattern : List (Option Obj)) (cs : List (List ℕ)) → Each (IsKeptWhole (Kept b t pattern) [] (spans b t pattern)) cs → Each (FitsSpans (spans b t pattern)) cs
each_fits b t pattern cs h = each_map (IsKeptWhole (Kept b t pattern) [] (spans b t pattern)) (FitsSpans (spans b t pattern)) cs (fits_of b t pattern) h

-- ---- all of them, and the first of them

few_args : (b : Basis) (t : StatementView) (pattern : List (Option Obj)) (cs : List (List ℕ)) → length (AllArgs b t pattern cs) ≡ length cs
few_args b t pattern [] = refl
few_args b t pattern (c ∷ cs) = ap suc (few_args b t pattern cs)

are_all : (b : Basis) (t : StatementView) (pattern : List (Option Obj)) (most : ℕ) (cs : List (List ℕ)) → IsAsked b t pattern → has_empty (spans b t pattern) ≡ false → length cs ≤ most
    → AreAll (Kept b t pattern) (Wanted b t pattern) [] (spans b t pattern) cs → AreFirst t b.scope b.facts pattern most (AllArgs b t pattern cs) false
are_all b t pattern most cs asked some few h =
    record {
      good = λ args is. all_good b t pattern cs args is.0 asked some h.whole is.1 is.2;
      ascending = ascending_args b t pattern cs (each_fits b t pattern cs h.whole) h.ascending;
      few = omega (arith, few_args b t pattern cs, few);
      none_missing = λ other good.
          inl (in_args b t pattern cs (chosen pattern other) other (good_filled b t pattern other good)
          (h.none_missing (chosen pattern other) (good_fits b t pattern other good) (good_wanted b t pattern other asked.states good)));
      next = λ more. absurd (true≢false (sym more));
    }

are_first : (b : Basis) (t : StatementView) (pattern : List (Option Obj)) (most : ℕ) (cs : List (List ℕ)) → IsAsked b t pattern → has_empty (spans b t pattern) ≡ false → length cs ≡ most
    → AreFirstOf (Kept b t pattern) (Wanted b t pattern) [] (spans b t pattern) cs → AreFirst t b.scope b.facts pattern most (AllArgs b t pattern cs) true
are_first b t pattern most cs asked some full h =
    record {
      good = λ args is. all_good b t pattern cs args is.0 asked some h.whole is.1 is.2;
      ascending = ascending_args b t pattern cs fits h.ascending;
      few = omega (arith, few_args b t pattern cs, full);
      none_missing = λ other good.
          let fit = good_fits b t pattern other good in
          missing other (good_filled b t pattern other good) fit (h.none_missing (chosen pattern other) fit (good_wanted b t pattern other asked.states good));
      next = λ more. (
        few_args b t pattern cs ∙ full,
        record {
          args = Args b t pattern h.next;
          good = good_of b t pattern h.next asked some h.next_whole;
          above = above_args b t pattern cs h.next fits (fits_of b t pattern h.next h.next_whole) h.next_above;
        },
      );
    }
  where
    fits : Each (FitsSpans (spans b t pattern)) cs
    fits = each_fits b t pattern cs h.whole

    missing : (other : List Obj) → Args b t pattern (chosen pattern other) ≡ other → FitsSpans (spans b t pattern) (chosen pattern other)
        → IsAmongChoices (chosen pattern other) cs ⊎ IsAbove cs (chosen pattern other) → Contains (AllArgs b t pattern cs) other ⊎ (IsTrue true × IsTrue (is_above (AllArgs b t pattern cs) other))
    missing other is fit (inl there) = inl (in_args b t pattern cs (chosen pattern other) other is there)
    missing other is fit (inr above) =
        inr (refl, subst (λ (x : List Obj). is_above (AllArgs b t pattern cs) x ≡ true) is (above_args b t pattern cs (chosen pattern other) fits fit above))

-- a part that is too wide is so under some choice
any_wide : (b : Basis) (t : StatementView) (pattern : List (Option Obj)) (c : List ℕ) (w : ℕ) → IsAsked b t pattern → has_empty (spans b t pattern) ≡ false → Starts (spans b t pattern) c
    → Wide b t pattern c w → AnyChoiceIsTooWide t b.scope b.facts pattern w
any_wide b t pattern c w asked some starts wide =
    let fit = start_fits b t pattern c asked some starts in
    let args = filled_arguments nothing (objects t) pattern c in
    record {
      args = args;
      is_choice = start_choice b t pattern c asked some starts;
      lit = at (pairs_of (objects t) args) wide.lit;
      is_given = subst (λ (ls : List Lit). Contains ls (at (pairs_of (objects t) args) wide.lit)) (sym (needs_declared t args b.scope asked.states fit))
          (contains_at (at (pairs_of (objects t) args)) t.given wide.lit wide.is_one);
      is_wide = subst (λ (l : Lit). IsTooWideLit b.scope b.facts l w)
          (stays b.scope nothing t.declared pattern c [] wide.lit wide.is_wide.good
          ∙ ap (λ d. at (pairs_of (objects t) (filled_arguments nothing (objects t) pattern d)) wide.lit) (append-nil c)) wide.is_wide.is_wide;
    }

-- where a blank has no number there is none
pub none_first : (b : Basis) (t : StatementView) (pattern : List (Option Obj)) (most : ℕ) (os : List Obj) (ns : List Span) (choices : List (List Obj)) → choices ≡ [] → os ≡ objects t → ns ≡ spans_of b.scope os pattern
    → has_empty ns ≡ true → AreFirst t b.scope b.facts pattern most choices false
none_first b t pattern most os ns choices none are is empty =
    subst (λ (xs : List (List Obj)). AreFirst t b.scope b.facts pattern most xs false) (sym none)
    (record {
      good = λ args is. absurd (omega (arith, is.1));
      ascending = refl;
      few = omega arith;
      none_missing = λ other good. absurd (none_where_empty b t pattern (sym (ap has_empty (is ∙ ap (λ y. spans_of b.scope y pattern) are)) ∙ empty) other good);
      next = λ more. absurd (true≢false (sym more));
    })

-- ---- the outcome of a sweep over the objects

abbrev pub SweepAnswer : Basis → StatementView → List (Option Obj) → List Obj → List Span → ℕ → List ℕ → List ℕ → List (List ℕ) → List (List ℕ) → Swept → Type 0
SweepAnswer b t pattern os ns most before after old new s =
    Sweeps (KeptAt b os pattern t.given) (WideAt b os pattern t.given) (IsWanted b os pattern t.given) ns most before after old new s

claim : (b : Basis) (t : StatementView) (pattern : List (Option Obj)) (os : List Obj) (ns : List Span) (most : ℕ) (before after : List ℕ) (old new : List (List ℕ)) (s x : Swept) → IsSearch b t pattern os ns before
    → old ≡ [] → s ≡ x → SweepAnswer b t pattern os ns most before after old new s → SweepAnswer b t pattern (objects t) (spans b t pattern) most [] after [] new x
claim b t pattern os ns most before after old new s x search none is claims =
    subst (λ (y : Swept). SweepAnswer b t pattern (objects t) (spans b t pattern) most [] after [] new y) is
    (subst (λ (y : List (List ℕ)). SweepAnswer b t pattern (objects t) (spans b t pattern) most [] after y new s) none
    (subst (λ (y : List ℕ). SweepAnswer b t pattern (objects t) (spans b t pattern) most y after old new s) search.starts
    (subst (λ (y : List Span). SweepAnswer b t pattern (objects t) y most before after old new s) (search.spans ∙ ap (λ y. spans_of b.scope y pattern) search.objects)
    (subst (λ (y : List Obj). SweepAnswer b t pattern y ns most before after old new s) search.objects claims))))

-- the arguments are those of what was found
args_are : (b : Basis) (t : StatementView) (pattern : List (Option Obj)) (os : List Obj) (ns : List Span) (before : List ℕ) (cs new : List (List ℕ)) → IsSearch b t pattern os ns before → new ≡ cs
    → map (filled_arguments b.scope os pattern) new ≡ AllArgs b t pattern cs
args_are b t pattern os ns before cs new search is = ap (λ y. map (filled_arguments b.scope y pattern) new) search.objects ∙ ap (map (filled_arguments b.scope (objects t) pattern)) is

found_as : {E : Type 0} (r : Result FirstChoices E) (b : Basis) (t : StatementView) (pattern : List (Option Obj)) (most : ℕ) (choices args : List (List Obj)) (more : Bool) → choices ≡ args
    → IfOk r (λ f. f ≡ first.Found choices more) → AreFirst t b.scope b.facts pattern most args more → IfOk r (FirstAre t b pattern most)
found_as (Err e) b t pattern most choices args more are is h = tt
found_as (Ok f) b t pattern most choices args more are is h =
    subst (λ (x : FirstChoices). FirstAre t b pattern most x) (sym is) (subst (λ (xs : List (List Obj)). AreFirst t b.scope b.facts pattern most xs more) (sym are) h)

pub swept_all : {E : Type 0} (r : Result FirstChoices E) (b : Basis) (t : StatementView) (pattern : List (Option Obj)) (os : List Obj) (ns : List Span) (most : ℕ) (before after : List ℕ) (old new : List (List ℕ)) (s : Swept)
    → IsAsked b t pattern → IsSearch b t pattern os ns before → has_empty ns ≡ false → old ≡ [] → s ≡ sweep.Done
    → IfOk r (λ f. f ≡ first.Found (map (filled_arguments b.scope os pattern) new) false) → SweepAnswer b t pattern os ns most before after old new s → IfOk r (FirstAre t b pattern most)
swept_all r b t pattern os ns most before after old new s asked search some none is found claims =
    let all = claim b t pattern os ns most before after old new s sweep.Done search none is claims in
    found_as r b t pattern most (map (filled_arguments b.scope os pattern) new) (AllArgs b t pattern all.1.0) false (args_are b t pattern os ns before all.1.0 new search all.1.1) found
    (are_all b t pattern most all.1.0 asked (none_empty b t pattern os ns before search some) (subst (λ (xs : List (List ℕ)). length xs ≤ most) all.1.1 all.2) all.1.2)

pub swept_full : {E : Type 0} (r : Result FirstChoices E) (b : Basis) (t : StatementView) (pattern : List (Option Obj)) (os : List Obj) (ns : List Span) (most : ℕ) (before after : List ℕ) (old new : List (List ℕ)) (s : Swept)
    → IsAsked b t pattern → IsSearch b t pattern os ns before → has_empty ns ≡ false → old ≡ [] → s ≡ sweep.Full
    → IfOk r (λ f. f ≡ first.Found (map (filled_arguments b.scope os pattern) new) true) → SweepAnswer b t pattern os ns most before after old new s → IfOk r (FirstAre t b pattern most)
swept_full r b t pattern os ns most before after old new s asked search some none is found claims =
    let full = claim b t pattern os ns most before after old new s sweep.Full search none is claims in
    found_as r b t pattern most (map (filled_arguments b.scope os pattern) new) (AllArgs b t pattern full.0.0) true (args_are b t pattern os ns before full.0.0 new search full.0.1) found
    (are_first b t pattern most full.0.0 asked (none_empty b t pattern os ns before search some) (sym (ap length full.0.1) ∙ full.1) full.0.2)

pub swept_wide : (b : Basis) (t : StatementView) (pattern : List (Option Obj)) (os : List Obj) (ns : List Span) (most : ℕ) (before after : List ℕ) (old new : List (List ℕ)) (s : Swept) (w : ℕ)
    → IsAsked b t pattern → IsSearch b t pattern os ns before → has_empty ns ≡ false → old ≡ [] → s ≡ sweep.TooWide w
    → SweepAnswer b t pattern os ns most before after old new s → AnyChoiceIsTooWide t b.scope b.facts pattern w
swept_wide b t pattern os ns most before after old new s w asked search some none is claims =
    let stop = claim b t pattern os ns most before after old new s (sweep.TooWide w) search none is claims in
    any_wide b t pattern stop.0 w asked (none_empty b t pattern os ns before search some) stop.1 (subst (λ (x : List ℕ). Wide b t pattern x w) stop.2 stop.3)
