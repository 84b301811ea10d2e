-- What a search answers on the choices for the blanks.
use Rattle.std.proofs.Common.{◌≡◌, ℕ, List, [], map, sym, ap, ◌∙◌, subst, true, false, inl, inr, Option, append-nil}
use Rattle.std.specs.Prelude.{Contains}
use Rattle.std.proofs.lemmas.Bool.{and_from, cases_Bool}
use Rattle.e_literal.specs.declared.object.Obj.{Obj}
use Rattle.e_literal.specs.declared.literal.Lit.{Lit}
use Rattle.e_literal.specs.Rename.{pairs_of}
use Rattle.e_literal.specs.Scopes.{nothing, next_objects}
use Rattle.e_literal.specs.Use.{StatementView, are_arguments, needs_of_use, is_statement}
use Rattle.e_literal.proofs.Booleans.{and_left, and_right}
use Rattle.e_clause.specs.Allowed.{AllAllowed}
use Rattle.e_clause.specs.LimitedFacts.{are_well_formed_in}
use Rattle.e_clause.specs.Wide.{IsTooWideLit}
use Rattle.e_theorem.specs.Choice.{fills, is_choice, is_below, IsAllowedChoice, IsLeastChoice, NoneIsAllowed}
use Rattle.e_theorem.specs.Pattern.{is_pattern}
use Rattle.e_theorem.specs.WideChoice.{SomeChoiceIsTooWide}
use Rattle.e_theorem.proofs.Uses.{needs_declared, declared_good}
use Rattle.e_transfer.specs.declared.walk.Span.{Span}
use Rattle.e_transfer.specs.declared.walk.Verdict.{Verdict}
use Rattle.e_transfer.specs.declared.walk.Verdict.TheVariants as verdict
use Rattle.e_transfer.specs.Choice.{FitsSpans, Starts, EachKept, NoneWanted, NoneBelow}
use Rattle.e_transfer.specs.Verdicts.{SearchIs}
use Rattle.e_licence.specs.Contexts.{Basis}
use Rattle.e_licence.specs.inner.BlankChoices.{filled_arguments, spans_of, images_of_choice, IsKeptChoice, IsWanted, SomeIsWideAt}
use Rattle.e_licence.proofs.BlankChoices.{has_empty, start_is_of_sorts, filled_fills, whole, fits_starts, none_fits, chosen, chosen_fit, chosen_filled, below}
use Rattle.e_licence.proofs.KnownLiterals.{KeptAt, ShownAt, WideAt, at, stays, all_bound, allowed_all, contains_at}

-- the declared objects
abbrev pub objects : StatementView → List Obj
objects t = next_objects nothing t.declared

-- the numbers for the blanks
abbrev pub spans : Basis → StatementView → List (Option Obj) → List Span
spans b t pattern = spans_of b.scope (objects t) pattern

abbrev pub Wanted : Basis → StatementView → List (Option Obj) → List ℕ → Type 0
Wanted b t pattern c = IsWanted b (objects t) pattern t.given c

abbrev pub Kept : Basis → StatementView → List (Option Obj) → List ℕ → Type 0
Kept b t pattern part = IsKeptChoice b (objects t) pattern t.given part

abbrev pub Wide : Basis → StatementView → List (Option Obj) → List ℕ → ℕ → Type 0
Wide b t pattern part w = SomeIsWideAt b (images_of_choice b.scope (objects t) pattern part) t.given w

-- what match_blanks asks for
pub record IsAsked (b : Basis) (t : StatementView) (pattern : List (Option Obj)) : Type 0 where
  pub states : is_statement t ≡ true
  pub fits : is_pattern t b.scope pattern ≡ true

-- ---- a good choice is wanted

pub good_fits : (b : Basis) (t : StatementView) (pattern : List (Option Obj)) (args : List Obj) → IsAllowedChoice t b.scope b.facts pattern args → FitsSpans (spans b t pattern) (chosen pattern args)
good_fits b t pattern args good =
    chosen_fit b.scope nothing t.declared pattern args (and_left (fills pattern args) _ good.is_choice) (and_right (fills pattern args) _ good.is_choice)

pub good_filled : (b : Basis) (t : StatementView) (pattern : List (Option Obj)) (args : List Obj) → IsAllowedChoice t b.scope b.facts pattern args
    → filled_arguments b.scope (objects t) pattern (chosen pattern args) ≡ args
good_filled b t pattern args good =
    chosen_filled b.scope b.scope nothing t.declared pattern args (and_left (fills pattern args) _ good.is_choice) (and_right (fills pattern args) _ good.is_choice)

pub good_wanted : (b : Basis) (t : StatementView) (pattern : List (Option Obj)) (args : List Obj) → is_statement t ≡ true → IsAllowedChoice t b.scope b.facts pattern args
    → Wanted b t pattern (chosen pattern args)
good_wanted b t pattern args states good = (
  good_fits b t pattern args good,
  subst (λ (os : List Obj). AllAllowed b.scope b.facts (map (at (pairs_of (objects t) os)) t.given)) (sym (good_filled b t pattern args good))
      (subst (λ (ls : List Lit). AllAllowed b.scope b.facts ls) (needs_declared t args b.scope states (and_right (fills pattern args) _ good.is_choice)) good.allowed),
)

-- so where none is wanted, none is good
pub none_good : (b : Basis) (t : StatementView) (pattern : List (Option Obj)) → is_statement t ≡ true → NoneWanted (Wanted b t pattern) [] (spans b t pattern) → NoneIsAllowed t b.scope b.facts pattern
none_good b t pattern states none args good = none (chosen pattern args) (good_fits b t pattern args good) (good_wanted b t pattern args states good)

pub none_where_empty : (b : Basis) (t : StatementView) (pattern : List (Option Obj)) → has_empty (spans b t pattern) ≡ true → NoneIsAllowed t b.scope b.facts pattern
none_where_empty b t pattern empty args good = none_fits (spans b t pattern) (chosen pattern args) empty (good_fits b t pattern args good)

-- and where none below is wanted, no good choice is below
none_below : (b : Basis) (t : StatementView) (pattern : List (Option Obj)) (c : List ℕ) (other : List Obj) → is_statement t ≡ true → NoneBelow (Wanted b t pattern) [] (spans b t pattern) c
    → IsAllowedChoice t b.scope b.facts pattern other → is_below other (filled_arguments nothing (objects t) pattern c) ≡ false
none_below b t pattern c other states none good =
    elim (cases_Bool (is_below other (filled_arguments nothing (objects t) pattern c))) [
      | inl is ↦
          absurd (none (chosen pattern other) (good_fits b t pattern other good)
          (below b.scope b.scope nothing t.declared pattern (chosen pattern other) c (good_fits b t pattern other good)
          (ap (λ os. is_below os (filled_arguments nothing (objects t) pattern c)) (good_filled b t pattern other good) ∙ is))
          (good_wanted b t pattern other states good))
      | inr not ↦ not
    ]

-- ---- the least good choice

pub start_fits : (b : Basis) (t : StatementView) (pattern : List (Option Obj)) (c : List ℕ) → IsAsked b t pattern → has_empty (spans b t pattern) ≡ false → Starts (spans b t pattern) c
    → are_arguments t b.scope (filled_arguments nothing (objects t) pattern c) ≡ true
start_fits b t pattern c asked some starts = start_is_of_sorts b.scope nothing t.declared pattern c asked.fits starts some

pub start_choice : (b : Basis) (t : StatementView) (pattern : List (Option Obj)) (c : List ℕ) → IsAsked b t pattern → has_empty (spans b t pattern) ≡ false → Starts (spans b t pattern) c
    → is_choice t b.scope pattern (filled_arguments nothing (objects t) pattern c) ≡ true
start_choice b t pattern c asked some starts =
    and_from (fills pattern (filled_arguments nothing (objects t) pattern c)) _ (filled_fills b.scope nothing nothing t.declared pattern c asked.fits) (start_fits b t pattern c asked some starts)

pub kept_allowed : (b : Basis) (t : StatementView) (pattern : List (Option Obj)) (c : List ℕ) (args : List Obj) → is_statement t ≡ true → filled_arguments b.scope (objects t) pattern c ≡ args
    → are_arguments t b.scope args ≡ true → FitsSpans (spans b t pattern) c → EachKept (Kept b t pattern) [] c → AllAllowed b.scope b.facts (needs_of_use t args b.scope)
kept_allowed b t pattern c args states is fit fits kept =
    subst (λ (ls : List Lit). AllAllowed b.scope b.facts ls) (sym (needs_declared t args b.scope states fit))
    (subst (λ (os : List Obj). AllAllowed b.scope b.facts (map (at (pairs_of (objects t) os)) t.given)) is
    (allowed_all b (images_of_choice b.scope (objects t) pattern c) t.given (all_bound b (objects t) pattern t.given c fits kept)
    (ap (λ os. are_well_formed_in b.scope (map (at (pairs_of (objects t) os)) t.given)) is ∙ declared_good t args b.scope states fit)))

least_at : (b : Basis) (t : StatementView) (pattern : List (Option Obj)) (c : List ℕ) → IsAsked b t pattern → has_empty (spans b t pattern) ≡ false → FitsSpans (spans b t pattern) c
    → EachKept (Kept b t pattern) [] c → NoneBelow (Wanted b t pattern) [] (spans b t pattern) c → IsLeastChoice t b.scope b.facts pattern (filled_arguments nothing (objects t) pattern c)
least_at b t pattern c asked some fits kept none =
    let starts = fits_starts (spans b t pattern) c fits in
    record {
      good = record {
        is_choice = start_choice b t pattern c asked some starts;
        allowed = kept_allowed b t pattern c (filled_arguments nothing (objects t) pattern c) asked.states (whole b.scope b.scope nothing nothing t.declared pattern c fits)
            (start_fits b t pattern c asked some starts) fits kept;
      };
      least = λ other good. none_below b t pattern c other asked.states none good;
    }

pub least : (b : Basis) (t : StatementView) (pattern : List (Option Obj)) (c : List ℕ) → IsAsked b t pattern → has_empty (spans b t pattern) ≡ false → FitsSpans (spans b t pattern) c
    → EachKept (Kept b t pattern) [] c → NoneBelow (Wanted b t pattern) [] (spans b t pattern) c → IsLeastChoice t b.scope b.facts pattern (filled_arguments b.scope (objects t) pattern c)
least b t pattern c asked some fits kept none =
    subst (λ (os : List Obj). IsLeastChoice t b.scope b.facts pattern os) (whole b.scope nothing b.scope nothing t.declared pattern c fits) (least_at b t pattern c asked some fits kept none)

-- ---- a choice that is too wide

pub too_wide : (b : Basis) (t : StatementView) (pattern : List (Option Obj)) (c : List ℕ) (w : ℕ) → IsAsked b t pattern → has_empty (spans b t pattern) ≡ false → Starts (spans b t pattern) c
    → Wide b t pattern c w → NoneBelow (Wanted b t pattern) [] (spans b t pattern) c → SomeChoiceIsTooWide t b.scope b.facts pattern w
too_wide b t pattern c w asked some starts wide none =
    let fit = start_fits b t pattern c asked some starts in
    let args = filled_arguments nothing (objects t) pattern c in
    record {
      args = args;
      is_choice = start_choice b t pattern c asked some starts;
      not_above = λ other h. none_below b t pattern c other asked.states none h.good;
      lit = at (pairs_of (objects t) args) wide.lit;
      is_given = subst (λ (ls : List Lit). Contains ls (at (pairs_of (objects t) args) wide.lit)) (sym (needs_declared t args b.scope asked.states fit))
          (contains_at (at (pairs_of (objects t) args)) t.given wide.lit wide.is_one);
      is_wide = subst (λ (l : Lit). IsTooWideLit b.scope b.facts l w)
          (stays b.scope nothing t.declared pattern c [] wide.lit wide.is_wide.good
          ∙ ap (λ d. at (pairs_of (objects t) (filled_arguments nothing (objects t) pattern d)) wide.lit) (append-nil c)) wide.is_wide.is_wide;
    }

-- ---- the outcome of a search over the objects

abbrev pub SearchAnswer : Basis → StatementView → List (Option Obj) → List Obj → List Span → List ℕ → List ℕ → Verdict (Unit {0}) → Type 0
SearchAnswer b t pattern os ns before after o =
    SearchIs (KeptAt b os pattern t.given) ShownAt (WideAt b os pattern t.given) (IsWanted b os pattern t.given) ns before after o

-- the search is over the declared objects and begins with no number
pub record IsSearch (b : Basis) (t : StatementView) (pattern : List (Option Obj)) (os : List Obj) (ns : List Span) (before : List ℕ) : Type 0 where
  pub objects : os ≡ objects t
  pub spans : ns ≡ spans_of b.scope os pattern
  pub starts : before ≡ []

claim : (b : Basis) (t : StatementView) (pattern : List (Option Obj)) (os : List Obj) (ns : List Span) (before after : List ℕ) (o x : Verdict (Unit {0})) → IsSearch b t pattern os ns before
    → o ≡ x → SearchAnswer b t pattern os ns before after o → SearchAnswer b t pattern (objects t) (spans b t pattern) [] after x
claim b t pattern os ns before after o x search is claims =
    subst (λ (y : Verdict (Unit {0})). SearchAnswer b t pattern (objects t) (spans b t pattern) [] after y) is
    (subst (λ (y : List ℕ). SearchAnswer b t pattern (objects t) (spans b t pattern) y after o) search.starts
    (subst (λ (y : List Span). SearchAnswer b t pattern (objects t) y before after o) (search.spans ∙ ap (λ y. spans_of b.scope y pattern) search.objects)
    (subst (λ (y : List Obj). SearchAnswer b t pattern y ns before after o) search.objects claims)))

pub none_empty : (b : Basis) (t : StatementView) (pattern : List (Option Obj)) (os : List Obj) (ns : List Span) (before : List ℕ) → IsSearch b t pattern os ns before → has_empty ns ≡ false
    → has_empty (spans b t pattern) ≡ false
none_empty b t pattern os ns before search some = sym (ap has_empty (search.spans ∙ ap (λ y. spans_of b.scope y pattern) search.objects)) ∙ some

pub found : (b : Basis) (t : StatementView) (pattern : List (Option Obj)) (os : List Obj) (ns : List Span) (before after : List ℕ) (args : List Obj) (o : Verdict (Unit {0})) (p : Unit {0})
    → IsAsked b t pattern → IsSearch b t pattern os ns before → has_empty ns ≡ false → o ≡ verdict.Yes p → args ≡ filled_arguments b.scope os pattern after
    → SearchAnswer b t pattern os ns before after o → IsLeastChoice t b.scope b.facts pattern args
found b t pattern os ns before after args o p asked search some is at_end claims = end (claim b t pattern os ns before after o (verdict.Yes p) search is claims)
  where
    end : SearchAnswer b t pattern (objects t) (spans b t pattern) [] after (verdict.Yes p) → IsLeastChoice t b.scope b.facts pattern args
    end (c, fits, kept, ends, shown, less) =
        subst (λ (x : List Obj). IsLeastChoice t b.scope b.facts pattern x)
        (ap (filled_arguments b.scope (objects t) pattern) (sym ends) ∙ sym (at_end ∙ ap (λ x. filled_arguments b.scope x pattern after) search.objects))
        (least b t pattern c asked (none_empty b t pattern os ns before search some) fits kept less)

pub nothing_found : (b : Basis) (t : StatementView) (pattern : List (Option Obj)) (os : List Obj) (ns : List Span) (before after : List ℕ) (o : Verdict (Unit {0})) → is_statement t ≡ true
    → IsSearch b t pattern os ns before → o ≡ verdict.No → SearchAnswer b t pattern os ns before after o → NoneIsAllowed t b.scope b.facts pattern
nothing_found b t pattern os ns before after o states search is claims = none_good b t pattern states (claim b t pattern os ns before after o verdict.No search is claims).1

pub stopped : (b : Basis) (t : StatementView) (pattern : List (Option Obj)) (os : List Obj) (ns : List Span) (before after : List ℕ) (o : Verdict (Unit {0})) (w : ℕ) → IsAsked b t pattern
    → IsSearch b t pattern os ns before → has_empty ns ≡ false → o ≡ verdict.TooWide w → SearchAnswer b t pattern os ns before after o → SomeChoiceIsTooWide t b.scope b.facts pattern w
stopped b t pattern os ns before after o w asked search some is claims = end (claim b t pattern os ns before after o (verdict.TooWide w) search is claims)
  where
    end : SearchAnswer b t pattern (objects t) (spans b t pattern) [] after (verdict.TooWide w) → SomeChoiceIsTooWide t b.scope b.facts pattern w
    end (c, starts, ends, wide, less) =
        too_wide b t pattern c w asked (none_empty b t pattern os ns before search some) starts (subst (λ (x : List ℕ). Wide b t pattern x w) ends wide) less

pub empty_span : (b : Basis) (t : StatementView) (pattern : List (Option Obj)) (os : List Obj) (ns : List Span) → os ≡ objects t → ns ≡ spans_of b.scope os pattern → has_empty ns ≡ true
    → NoneIsAllowed t b.scope b.facts pattern
empty_span b t pattern os ns are is empty = none_where_empty b t pattern (sym (ap has_empty (is ∙ ap (λ y. spans_of b.scope y pattern) are)) ∙ empty)
