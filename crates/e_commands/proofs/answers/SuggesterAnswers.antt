-- What is due with an answer to `suggest`, and which answer a book can have.
use Rattle.std.proofs.Common.{◌≡◌, ◌⊎◌, inl, inr, ℕ, ◌<◌, ◌≤◌, List, [], ◌∷◌, ◌++◌, length, map, Bool, ◌||◌, true, false, true≢false, Option, Some, None, Result, Ok, Err, refl, sym, ap, subst, ◌∙◌, arith}
use Rattle.std.specs.Prelude.{MatchBool, IfOk}
use Rattle.std.specs.Str.{bytes_eq}
use Rattle.std.proofs.lemmas.Bool.{cases_Bool}
use Rattle.std.proofs.lemmas.Slice.Eq.{bytes_eq-Decides}
use Rattle.e_literal.specs.declared.literal.Lit.{Lit}
use Rattle.e_literal.specs.declared.object.Scope.{Scope}
use Rattle.e_literal.proofs.Booleans.{or_not_left, or_not_right}
use Rattle.e_theorem.specs.Statements.{as_view}
use Rattle.e_deriv.specs.declared.stop.Stop.{Stop}
use Rattle.e_deriv.specs.declared.stop.Stop.TheVariants as stops
use Rattle.e_deriv.specs.declared.stop.Wanted.{Wanted}
use Rattle.e_deriv.specs.declared.stop.Wanted.TheVariants.{Match}
use Rattle.e_deriv.specs.declared.names.Names.{Names}
use Rattle.e_deriv.specs.PlacedSteps.{PlacedStep, proof_steps}
use Rattle.e_deriv.specs.Licensed.{IsContext, IsFirstUnlicensed}
use Rattle.e_deriv.proofs.Stops.{earlier_line, lines_length, one_context, lacks_not, no_stop_of_licensed}
use Rattle.e_literal.specs.Use.{StatementView, scope_of}
use Rattle.e_deriv.specs.Script.{Script, size}
use Rattle.e_deriv.specs.Goal.{goal_of_statement, facts_of_statement}
use Rattle.e_deriv.specs.Fitting.{is_small_statement}
use Rattle.e_line.specs.declared.fault.BookFault.{BookFault}
use Rattle.e_names.specs.TitledStatements.{TitledStatement, is_known, stated_by}
use Rattle.e_book.specs.TheoremViews.{TheoremView}
use Rattle.e_line.specs.declared.fault.BookFault.TheVariants as faults
use Rattle.e_names.specs.declared.known.Known.{Known}
use Rattle.e_names.specs.Titled.{Titled, is_notion}
use Rattle.e_names.specs.Taken.{nothing_known}
use Rattle.e_book.specs.Definitions.{BookItem, OfTheorem, OfNotion, item_from}
use Rattle.e_book.specs.Grammar.{BookFails, Rest}
use Rattle.e_book.proofs.fit_theorems.Fitting.{one_more_stated}
use Rattle.e_names.proofs.titles.NotionsBeside.{one_more_notion}
use Rattle.e_prove.proofs.StopsInLists.{at_less}
use Rattle.e_suggest.specs.Suggestions.{SomeArgsAreTooWide}
use Rattle.e_prove.specs.StatesBefore.{IsStateBeforeStep}
use Rattle.e_prove.specs.Stops.{StopIs, HasNames, IsStopBefore}
use Rattle.e_prove.specs.declared.state_before.StateBefore.{StateBefore}
use Rattle.e_spell.specs.Spelling.{stop_text, too_wide_text, IsStop}
use Rattle.e_book.specs.Canonical.{text_of}
use Rattle.e_commands.specs.declared.output.Answer.{Answer}
use Rattle.e_commands.specs.declared.output.Failure.{Failure}
use Rattle.e_commands.specs.inner.Finished.{HasDue, HasDueOfText}
use Rattle.e_commands.specs.declared.status.Status.{Status}
use Rattle.e_commands.specs.declared.status.Status.TheVariants as status
use Rattle.e_commands.specs.Answers.{IsReadFault, WroteOfText}
use Rattle.e_commands.specs.DrawerAnswers.{lacks_memory}
use Rattle.e_commands.specs.Input.{IsTextOf}
use Rattle.e_commands.specs.LastLines.{fault_line, no_step_line, suggested_line}
use Rattle.e_commands.specs.Outcome as outcome
use Rattle.e_commands.specs.Outcome.{BookOutcome, NextIs, Takes, AreDefined, IsLicensed, StopsAt, RefusedAt, and_theorem, and_notion, end_line_number, lines_of_book}
use Rattle.e_commands.specs.SuggesterAnswers.{Application, line_of, AreFirstApplications, UpToTheorem, NextUpTo, IsEarlier, IsAsked, HasTooFewSteps, WayOutcome, AtStep, NoStep, Unlicensed, Faulty, IsWayOf, Suggests, Widens, SuggestAnswer, HasWideOnWay, IsWayAnswer, AnswersSuggest}
use Rattle.e_commands.specs.Wrote.{Wrote}
use Rattle.e_commands.specs.inner.BookResults.{stop_answer}
use Rattle.e_commands.specs.inner.Suggesting.{AreListed, AnswersAt, IsBookAnswer, IsNextTitled, AnswersNext, PassesNext, IsStopAnswer, IsOnWay, SomeIsTooWide, is_out_of_memory}
use Rattle.e_commands.proofs.answers.OneSuggestion.{one_list}
use Rattle.e_commands.proofs.outcomes.Completeness.{wide_line, stop_of_refusal}
use Rattle.e_commands.proofs.progress.History.{takes_more, takes_notion, defined_same}
use Rattle.e_commands.proofs.outcomes.OneOutcome.{found, none_left, found_not_none, found_not_faulty, none_not_faulty, same_faulty, one_stop_at, stop_of_same, same_first, takes_at, same_rest, NoNotion, theorem_here, spot_of}
use Rattle.e_commands.proofs.answers.Trials.{book_lines}
use Rattle.e_judgement.specs.Judged.{with_theorem}

-- ---- titles

same_title : (a b : List ℕ) → bytes_eq a b ≡ true → a ≡ b
same_title a b h = (bytes_eq-Decides a b).0 h

is_same_title : (a b : List ℕ) → a ≡ b → bytes_eq a b ≡ true
is_same_title a b h = (bytes_eq-Decides a b).1 h

-- a theorem with another title is no place
earlier_other : (title : List ℕ) (step : ℕ) (t : TheoremView) (n : ℕ) → bytes_eq t.title title ≡ false → IsEarlier title step t n
earlier_other title step t n h = by (bytes_eq t.title title) h
  where
    by : (b : Bool) → b ≡ false → MatchBool b ((step ≤ size t.script) × (n < step)) (Unit {0})
    by true e = absurd (true≢false e)
    by false e = tt

earlier_own : (title : List ℕ) (step : ℕ) (t : TheoremView) (n : ℕ) → step ≤ size t.script → n < step → IsEarlier title step t n
earlier_own title step t n has less = by (bytes_eq t.title title)
  where
    by : (b : Bool) → MatchBool b ((step ≤ size t.script) × (n < step)) (Unit {0})
    by true = (has, less)
    by false = tt

-- of the theorem with the title only a step before the place is one
own_earlier : (title : List ℕ) (step : ℕ) (t : TheoremView) (n : ℕ) → t.title ≡ title → IsEarlier title step t n → (step ≤ size t.script) × (n < step)
own_earlier title step t n e h = by (bytes_eq t.title title) (is_same_title t.title title e) h
  where
    by : (b : Bool) → b ≡ true → MatchBool b ((step ≤ size t.script) × (n < step)) (Unit {0}) → (step ≤ size t.script) × (n < step)
    by true e h = h
    by false e h = absurd (true≢false (sym e))

-- ---- on the way

pub way_start : (lines : Rest) (title : List ℕ) → IsOnWay lines title nothing_known lines
way_start lines title = record { theorems = []; begins = record { notions = []; defines = (refl, refl) }; untitled = refl; small = refl; notions = refl }

both_false : (a b : Bool) → a ≡ false → b ≡ false → (a || b) ≡ false
both_false true b e f = absurd (true≢false e)
both_false false b e f = f

turned : (a b : List ℕ) → bytes_eq a b ≡ false → bytes_eq b a ≡ false
turned a b h =
    elim (cases_Bool (bytes_eq b a)) [
      | inl same ↦ absurd (true≢false (sym (is_same_title a b (sym (same_title b a same))) ∙ h))
      | inr differ ↦ differ
    ]

untitled_more : (known : List TitledStatement) (t : TheoremView) (title : List ℕ) → is_known known title ≡ false → bytes_eq t.title title ≡ false → is_known (with_theorem known t) title ≡ false
untitled_more [] t title none differ = both_false (bytes_eq title t.title) false (turned t.title title differ) refl
untitled_more (h ∷ hs) t title none differ =
    both_false (bytes_eq title h.title) _ (or_not_left (bytes_eq title h.title) _ none) (untitled_more hs t title (or_not_right (bytes_eq title h.title) _ none) differ)

-- the next theorem has another title and is licensed
pub way_more : (lines : Rest) (title : List ℕ) (known : Known) (rest after : Rest) (t : TheoremView) → IsOnWay lines title known rest → item_from known (end_line_number lines) None rest ≡ found (OfTheorem t) after → IsLicensed known.theorems t
    → bytes_eq t.title title ≡ false → is_small_statement (as_view t.statement) ≡ true → IsOnWay lines title (and_theorem known t) after
way_more lines title known rest after t w read licensed differ small =
    record {
      theorems = w.theorems ++ t ∷ [];
      begins = takes_more (end_line_number lines) nothing_known lines w.theorems known rest t after w.begins read licensed;
      untitled = untitled_more known.theorems t title w.untitled differ;
      small = one_more_stated known.theorems t.title t.statement w.small small;
      notions = w.notions;
    }

-- a definition comes
pub way_notion : (lines : Rest) (title : List ℕ) (known : Known) (rest after : Rest) (n : Titled) → IsOnWay lines title known rest → item_from known (end_line_number lines) None rest ≡ found (OfNotion n) after → is_notion n.notion ≡ true
    → IsOnWay lines title (and_notion known n) after
way_notion lines title known rest after n w read means =
    record {
      theorems = w.theorems;
      begins = takes_notion (end_line_number lines) nothing_known lines w.theorems known rest n after w.begins read;
      untitled = w.untitled;
      small = w.small;
      notions = one_more_notion known.notions n w.notions means;
    }

pub next_of : (lines : Rest) (title : List ℕ) (known : Known) (rest after : Rest) (t : TheoremView) → IsOnWay lines title known rest → item_from known (end_line_number lines) None rest ≡ found (OfTheorem t) after
    → IsNextTitled lines title known.theorems t
next_of lines title known rest after t w read = record { known = known; rest = rest; after = after; same = refl; way = w; read = read }

-- ---- what is due

up_to : (lines : Rest) (title : List ℕ) (known : Known) (rest : Rest) (Holds : Known → Rest → Type 0) → IsOnWay lines title known rest → Holds known rest → UpToTheorem lines title Holds
up_to lines title known rest Holds w h = record { theorems = w.theorems; known = known; rest = rest; begins = w.begins; untitled = w.untitled; holds = h }

next_up_to : (lines : Rest) (title : List ℕ) (before : List TitledStatement) (t : TheoremView) (Holds : List TitledStatement → TheoremView → Type 0) → IsNextTitled lines title before t → Holds before t → NextUpTo lines title Holds
next_up_to lines title before t Holds n h =
    record {
      theorems = n.way.theorems;
      known = n.known;
      rest = n.rest;
      begins = n.way.begins;
      untitled = n.way.untitled;
      holds = (t, n.after, n.read, subst (λ (k : List TitledStatement). Holds k t) (sym n.same) h);
    }

answer_is : (lines : Rest) (title : List ℕ) (step : ℕ) (answer given : Status) (out bytes : List ℕ) → answer ≡ given → out ≡ bytes → (IsReadFault given → ⊥) → SuggestAnswer lines title step given bytes
    → IsBookAnswer lines title step answer out
answer_is lines title step answer given out bytes e f unread h =
    subst (λ (a : Status). IsBookAnswer lines title step a out) (sym e)
    (subst (λ (b : List ℕ). IsBookAnswer lines title step given b) (sym f) (record { due = h; no_read = unread }))

-- no theorem has the title
pub none_titled : (lines : Rest) (title : List ℕ) (step : ℕ) (known : Known) (rest : Rest) (answer : Status) (out : List ℕ) → IsOnWay lines title known rest → item_from known (end_line_number lines) None rest ≡ none_left
    → answer ≡ status.NoStep → out ≡ no_step_line → IsBookAnswer lines title step answer out
none_titled lines title step known rest answer out w read e f =
    answer_is lines title step answer status.NoStep out no_step_line e f (λ h. h)
    (up_to lines title known rest (λ k r. (item_from k (end_line_number lines) None r ≡ Ok None) ⊎ NextIs (end_line_number lines) k r (HasTooFewSteps title step)) w (inl read), refl)

-- the theorem has fewer steps
pub too_short : (lines : Rest) (title : List ℕ) (step : ℕ) (before : List TitledStatement) (t : TheoremView) (answer : Status) (out : List ℕ) → IsNextTitled lines title before t → t.title ≡ title → size t.script < step
    → answer ≡ status.NoStep → out ≡ no_step_line → IsBookAnswer lines title step answer out
too_short lines title step before t answer out n titled short e f =
    answer_is lines title step answer status.NoStep out no_step_line e f (λ h. h) (
      up_to lines title n.known n.rest (λ k r. (item_from k (end_line_number lines) None r ≡ Ok None) ⊎ NextIs (end_line_number lines) k r (HasTooFewSteps title step)) n.way
          (inr (t, n.after, n.read, record { titled = titled; short = short })),
      refl,
    )

fails_with : (f : BookFault) (r : Result (Option (BookItem × Rest)) BookFault) → lacks_memory f ≡ false → BookFails f r → r ≡ Err f
fails_with (faults.Malformed line) r some h = h
fails_with (faults.UnknownName line) r some h = h
fails_with (faults.NameTaken line) r some h = h
fails_with (faults.WrongSort line) r some h = h
fails_with (faults.Limit line what) r some h = h
fails_with (faults.Unended line) r some h = h
fails_with faults.NoMemory r some h = absurd (true≢false some)

-- a line has a fault
pub is_faulty : (lines : Rest) (title : List ℕ) (step : ℕ) (known : Known) (rest : Rest) (f : BookFault) (answer : Status) (out : List ℕ) → IsOnWay lines title known rest
    → BookFails f (item_from known (end_line_number lines) None rest) → lacks_memory f ≡ false → answer ≡ status.Fault f → out ≡ fault_line f → IsBookAnswer lines title step answer out
is_faulty lines title step known rest f answer out w fails some e g =
    answer_is lines title step answer (status.Fault f) out (fault_line f) e g (λ h. h)
    (up_to lines title known rest (λ k r. item_from k (end_line_number lines) None r ≡ Err f) w (fails_with f (item_from known (end_line_number lines) None rest) some fails), refl)

-- ---- a stop

-- the stop is at a step before the place
abbrev pub StopsEarlier : List ℕ → ℕ → TheoremView → Stop → Type 0
StopsEarlier title step t (stops.Unlicensed n wanted values names) = IsEarlier title step t n
StopsEarlier title step t (stops.TooWide n wanted width names) = IsEarlier title step t n
StopsEarlier title step t stops.NoMemory = Unit {0}

pub stops_other : (title : List ℕ) (step : ℕ) (t : TheoremView) (stop : Stop) → bytes_eq t.title title ≡ false → StopsEarlier title step t stop
stops_other title step t (stops.Unlicensed n wanted values names) h = earlier_other title step t n h
stops_other title step t (stops.TooWide n wanted width names) h = earlier_other title step t n h
stops_other title step t stops.NoMemory h = tt

pub stops_own : (title : List ℕ) (step : ℕ) (t : TheoremView) (stop : Stop) → step ≤ size t.script → IsStopBefore step stop → StopsEarlier title step t stop
stops_own title step t (stops.Unlicensed n wanted values names) has less = earlier_own title step t n has less
stops_own title step t (stops.TooWide n wanted width names) has less = earlier_own title step t n has less
stops_own title step t stops.NoMemory has less = tt

pub is_stopped : (lines : Rest) (title : List ℕ) (step : ℕ) (known : List TitledStatement) (t : TheoremView) (stop : Stop) (answer : Status) (out : List ℕ) → IsNextTitled lines title known t → StopsEarlier title step t stop
    → StopIs (stated_by known) (as_view t.statement) t.script stop → HasNames (stated_by known) (as_view t.statement) t.names t.script stop → IsStopAnswer t.title stop answer out → IsBookAnswer lines title step answer out
is_stopped lines title step known t (stops.Unlicensed n wanted values names) answer out next earlier refused named a =
    answer_is lines title step answer (status.Unlicensed t.title n wanted values) out (stop_text t.title (stops.Unlicensed n wanted values names)) a.is_answer a.bytes (λ h. h) (
      names,
      next_up_to lines title known t (λ k u. RefusedAt k u t.title n wanted values names × IsEarlier title step u n) next (record { titled = refl; refused = refused; named = named }, earlier),
      refl,
    )
is_stopped lines title step known t (stops.TooWide n wanted width names) answer out next earlier wide named a =
    answer_is lines title step answer (status.TooWide t.title n wanted width) out (stop_text t.title (stops.TooWide n wanted width names)) a.is_answer a.bytes (λ h. h) (
      names,
      next_up_to lines title known t (Widens title step t.title n wanted width names) next (inl (record { titled = refl; too_wide = wide; named = named }, earlier)),
      refl,
    )
is_stopped lines title step known t stops.NoMemory answer out next earlier wide named a = absurd a.stops

-- ---- the place

answers_at : (lines : Rest) (title : List ℕ) (step : ℕ) (known : List TitledStatement) (t : TheoremView) (p : StateBefore) (answer : Status) (out : List ℕ) → IsNextTitled lines title known t → t.title ≡ title
    → IsStateBeforeStep (stated_by known) (as_view t.statement) t.names t.script step p → AnswersAt p.names p.context.scope p.context.facts known title step answer out → IsBookAnswer lines title step answer out
answers_at lines title step known t p (status.Suggested n more) out next titled place (list, count, first, bytes) =
    record {
      due = next_up_to lines title known t (Suggests title step n more out) next
          (record {
            placed = place.step;
            asked = record { titled = titled; context = place.context };
            names = p.names;
            named = place.named;
            applications = list;
            first = subst (λ (s : Scope). AreFirstApplications s place.step.facts known list more) place.scope (subst (λ (fs : List Lit). AreFirstApplications p.context.scope fs known list more) place.facts first);
            count = count;
            bytes = bytes;
          });
      no_read = λ h. h;
    }
answers_at lines title step known t p (status.TooWide q n wanted width) out next titled place (same, is, wanted_is, some, bytes) =
    record {
      due = (
        p.names,
        next_up_to lines title known t (Widens title step q n wanted width p.names) next
            (inr (
              same,
              is,
              wanted_is,
              record {
                placed = place.step;
                asked = record { titled = titled; context = place.context };
                named = place.named;
                theorem = some.theorem;
                is_one = some.is_one;
                is_asked_for = some.is_asked_for;
                too_wide = subst (λ (s : Scope). SomeArgsAreTooWide (as_view some.theorem.statement) s place.step.facts width) place.scope
                    (subst (λ (fs : List Lit). SomeArgsAreTooWide (as_view some.theorem.statement) p.context.scope fs width) place.facts some.too_wide);
              },
            )),
        bytes,
      );
      no_read = λ h. h;
    }
answers_at lines title step known t p answer out next titled place a = absurd a

pub is_answered : (known : List TitledStatement) (t : TheoremView) (title : List ℕ) (step : ℕ) (p : StateBefore) (answer : Status) (out : List ℕ) → t.title ≡ title → IsStateBeforeStep (stated_by known) (as_view t.statement) t.names t.script step p
    → AnswersAt p.names p.context.scope p.context.facts known title step answer out → AnswersNext known t title step answer out
is_answered known t title step p answer out titled place a lines next = answers_at lines title step known t p answer out next titled place a

-- ---- a book has one way to the step

-- a step before one that is reached is licensed
not_before : (before : List StatementView) (t : StatementView) (script : Script) (n m : ℕ) (w : Wanted) (x : PlacedStep) → IsFirstUnlicensed before t script n w → IsContext before t script m x → n < m → ⊥
not_before before t script n m w x stop d less =
    let c = stop.context in
    let e = earlier_line before (proof_steps before t script d.filled) c.place d.place x (omega (arith, c.number, d.number, less)) (record { at = d.at; earlier = d.earlier }) in
    lacks_not before stop.step e.step w
    (one_context before t script n stop.step e.step c (record { filled = d.filled; place = c.place; number = c.number; at = e.stands.at; earlier = e.stands.earlier })) stop.lacks e.licensed

-- the way ends here, with this known
abbrev WayAt : ℕ → Known → Rest → List ℕ → ℕ → WayOutcome → Type 0
WayAt last known rest title step AtStep = NextIs last known rest (λ t. (x : PlacedStep) × IsAsked title step known.theorems t x)
WayAt last known rest title step NoStep = (item_from known last None rest ≡ Ok None) ⊎ NextIs last known rest (HasTooFewSteps title step)
WayAt last known rest title step (Unlicensed p n wanted names) = NextIs last known rest (λ t. StopsAt known.theorems t p n wanted names × IsEarlier title step t n)
WayAt last known rest title step (Faulty f) = item_from known last None rest ≡ Err f

way_at : (lines : Rest) (title : List ℕ) (step : ℕ) (way : WayOutcome) (h : IsWayOf lines title step way) → UpToTheorem lines title (λ known rest. WayAt (end_line_number lines) known rest title step way)
way_at lines title step AtStep h = h
way_at lines title step NoStep h = h
way_at lines title step (Unlicensed p n wanted names) h = h
way_at lines title step (Faulty f) h = h

-- a step that the theorem has
has_step : (before : List StatementView) (t : StatementView) (script : Script) (n : ℕ) (x : PlacedStep) → IsContext before t script n x → n ≤ size script
has_step before t script n x c =
    let many = lines_length before script c.filled (scope_of t) (facts_of_statement t) (goal_of_statement t) in omega (arith, many, c.number, at_less _ c.place x c.at)

-- two ways that are not the same do not both end here
at_or_none : (last : ℕ) (known : Known) (rest : Rest) (title : List ℕ) (step : ℕ) → WayAt last known rest title step AtStep → WayAt last known rest title step NoStep → ⊥
at_or_none last known rest title step h (inl k) = found_not_none (OfTheorem h.0) h.1 (sym h.2 ∙ k)
at_or_none last known rest title step h (inr k) =
    let same = same_first h.0 k.0 h.1 k.1 (sym h.2 ∙ k.2) in
    let has = has_step (stated_by known.theorems) (as_view h.0.statement) h.0.script step h.3.0 h.3.1.context in
    let short = subst (λ (u : TheoremView). size u.script < step) (sym same) k.3.short in
    omega (arith, has, short)

at_or_stop : (last : ℕ) (known : Known) (rest : Rest) (title : List ℕ) (step : ℕ) (p : List ℕ) (n : ℕ) (wanted : Wanted) (names : Names) → WayAt last known rest title step AtStep
    → WayAt last known rest title step (Unlicensed p n wanted names) → ⊥
at_or_stop last known rest title step p n wanted names h k =
    let same = same_first k.0 h.0 k.1 h.1 (sym k.2 ∙ h.2) in
    let stop = subst (λ (u : TheoremView). StopsAt known.theorems u p n wanted names) same k.3.0 in
    let earlier = subst (λ (u : TheoremView). IsEarlier title step u n) same k.3.1 in
    not_before (stated_by known.theorems) (as_view h.0.statement) h.0.script n step wanted h.3.0 stop.first h.3.1.context (own_earlier title step h.0 n h.3.1.titled earlier).1

none_or_stop : (last : ℕ) (known : Known) (rest : Rest) (title : List ℕ) (step : ℕ) (p : List ℕ) (n : ℕ) (wanted : Wanted) (names : Names) → WayAt last known rest title step NoStep
    → WayAt last known rest title step (Unlicensed p n wanted names) → ⊥
none_or_stop last known rest title step p n wanted names (inl h) k = found_not_none (OfTheorem k.0) k.1 (sym k.2 ∙ h)
none_or_stop last known rest title step p n wanted names (inr h) k =
    let same = same_first k.0 h.0 k.1 h.1 (sym k.2 ∙ h.2) in
    let earlier = subst (λ (u : TheoremView). IsEarlier title step u n) same k.3.1 in
    let has = (own_earlier title step h.0 n h.3.titled earlier).0 in
    omega (arith, has, h.3.short)

none_or_fault : (last : ℕ) (known : Known) (rest : Rest) (title : List ℕ) (step : ℕ) (f : BookFault) → WayAt last known rest title step NoStep → item_from known last None rest ≡ Err f → ⊥
none_or_fault last known rest title step f (inl h) k = none_not_faulty f (sym h ∙ k)
none_or_fault last known rest title step f (inr h) k = found_not_faulty (OfTheorem h.0) h.1 f (sym h.2 ∙ k)

-- by what the outcome of a book says of a stop
as_way : BookOutcome → WayOutcome
as_way (outcome.Unlicensed a b c d) = Unlicensed a b c d
as_way other = AtStep

one_way_at : (last : ℕ) (known : Known) (rest : Rest) (title : List ℕ) (step : ℕ) (a b : WayOutcome) → WayAt last known rest title step a → WayAt last known rest title step b → a ≡ b
unfolding as_way
one_way_at last known rest title step AtStep AtStep h k = refl
one_way_at last known rest title step AtStep NoStep h k = absurd (at_or_none last known rest title step h k)
one_way_at last known rest title step AtStep (Unlicensed p n wanted names) h k = absurd (at_or_stop last known rest title step p n wanted names h k)
one_way_at last known rest title step AtStep (Faulty f) h k = absurd (found_not_faulty (OfTheorem h.0) h.1 f (sym h.2 ∙ k))
one_way_at last known rest title step NoStep AtStep h k = absurd (at_or_none last known rest title step k h)
one_way_at last known rest title step NoStep NoStep h k = refl
one_way_at last known rest title step NoStep (Unlicensed p n wanted names) h k = absurd (none_or_stop last known rest title step p n wanted names h k)
one_way_at last known rest title step NoStep (Faulty f) h k = absurd (none_or_fault last known rest title step f h k)
one_way_at last known rest title step (Unlicensed p n wanted names) AtStep h k = absurd (at_or_stop last known rest title step p n wanted names k h)
one_way_at last known rest title step (Unlicensed p n wanted names) NoStep h k = absurd (none_or_stop last known rest title step p n wanted names k h)
one_way_at last known rest title step (Unlicensed p n v x) (Unlicensed q m w y) h k =
    ap as_way (one_stop_at known.theorems h.0 p q n m v w x y h.3.0 (stop_of_same known.theorems k.0 h.0 q m w y (same_first k.0 h.0 k.1 h.1 (sym k.2 ∙ h.2)) k.3.0))
one_way_at last known rest title step (Unlicensed p n wanted names) (Faulty f) h k = absurd (found_not_faulty (OfTheorem h.0) h.1 f (sym h.2 ∙ k))
one_way_at last known rest title step (Faulty f) AtStep h k = absurd (found_not_faulty (OfTheorem k.0) k.1 f (sym k.2 ∙ h))
one_way_at last known rest title step (Faulty f) NoStep h k = absurd (none_or_fault last known rest title step f k h)
one_way_at last known rest title step (Faulty f) (Unlicensed p n wanted names) h k = absurd (found_not_faulty (OfTheorem k.0) k.1 f (sym k.2 ∙ h))
one_way_at last known rest title step (Faulty f) (Faulty g) h k = ap Faulty (same_faulty f g (sym h ∙ k))

-- where the next theorem is licensed and has another title the way does not end
goes_on : (last : ℕ) (known : Known) (rest after : Rest) (u : TheoremView) (title : List ℕ) (step : ℕ) (a : WayOutcome) → item_from known last None rest ≡ found (OfTheorem u) after → IsLicensed known.theorems u
    → bytes_eq u.title title ≡ false → WayAt last known rest title step a → ⊥
goes_on last known rest after u title step AtStep read l differ h =
    let same = same_first h.0 u h.1 after (sym h.2 ∙ read) in
    true≢false (sym (is_same_title u.title title (ap (λ (x : TheoremView). x.title) (sym same) ∙ h.3.1.titled)) ∙ differ)
goes_on last known rest after u title step NoStep read l differ (inl h) = found_not_none (OfTheorem u) after (sym read ∙ h)
goes_on last known rest after u title step NoStep read l differ (inr h) =
    let same = same_first h.0 u h.1 after (sym h.2 ∙ read) in
    true≢false (sym (is_same_title u.title title (ap (λ (x : TheoremView). x.title) (sym same) ∙ h.3.titled)) ∙ differ)
goes_on last known rest after u title step (Unlicensed p n wanted names) read l differ h =
    no_stop_of_licensed (stated_by known.theorems) (as_view u.statement) u.script l.filled n wanted l.licensed
    (stop_of_same known.theorems h.0 u p n wanted names (same_first h.0 u h.1 after (sym h.2 ∙ read)) h.3.0).first
goes_on last known rest after u title step (Faulty f) read l differ h = found_not_faulty (OfTheorem u) after f (sym read ∙ h)

ends_at : (last : ℕ) (known now : Known) (lines rest : Rest) (title : List ℕ) (step : ℕ) (a : WayOutcome) → known ≡ now → lines ≡ rest → WayAt last now rest title step a → WayAt last known lines title step a
ends_at last known now lines rest title step a e f h =
    subst (λ (k : Known). WayAt last k lines title step a) (sym e) (subst (λ (l : Rest). WayAt last now l title step a) (sym f) h)

-- no definition is read where the way ends
end_here : (last : ℕ) (known : Known) (rest : Rest) (title : List ℕ) (step : ℕ) (a : WayOutcome) → WayAt last known rest title step a → NoNotion last known rest
end_here last known rest title step AtStep h = theorem_here last known rest h.0 h.1 h.2
end_here last known rest title step NoStep (inl h) = λ n after e. found_not_none (OfNotion n) after (sym e ∙ h)
end_here last known rest title step NoStep (inr h) = theorem_here last known rest h.0 h.1 h.2
end_here last known rest title step (Unlicensed p n wanted names) h = theorem_here last known rest h.0 h.1 h.2
end_here last known rest title step (Faulty f) h = λ n after e. found_not_faulty (OfNotion n) after f (sym e ∙ h)

-- where one way ends before a theorem, no other way has one there
ends_before : (last : ℕ) (known : Known) (lines : Rest) (k1 here : Known) (r1 before after : Rest) (u : TheoremView) (title : List ℕ) (step : ℕ) (a : WayOutcome) → AreDefined last known lines k1 r1 → WayAt last k1 r1 title step a
    → AreDefined last known lines here before → item_from here last None before ≡ found (OfTheorem u) after → IsLicensed here.theorems u → bytes_eq u.title title ≡ false → ⊥
ends_before last known lines k1 here r1 before after u title step a p h d read l differ =
    let spot = spot_of last known lines here k1 before r1 d p (theorem_here last here before u after read) (end_here last k1 r1 title step a h) in
    goes_on last here before after u title step a read l differ (ends_at last here k1 before r1 title step a spot.0 spot.1 h)

-- what is known later was not known before
known_front : (known : List TitledStatement) (t : TheoremView) (title : List ℕ) → is_known (with_theorem known t) title ≡ false → is_known known title ≡ false
known_front [] t title h = refl
known_front (x ∷ xs) t title h = both_false (bytes_eq title x.title) _ (or_not_left (bytes_eq title x.title) _ h) (known_front xs t title (or_not_right (bytes_eq title x.title) _ h))

not_known : (last : ℕ) (known : Known) (lines : Rest) (ts : List TheoremView) (now : Known) (rest : Rest) (title : List ℕ) → Takes last known lines ts now rest → is_known now.theorems title ≡ false → is_known known.theorems title ≡ false
not_known last known lines [] now rest title r h = ap (λ (k : List TitledStatement). is_known k title) (defined_same last known lines now rest r) ∙ h
not_known last known lines (t ∷ ts) now rest title r h =
    ap (λ (k : List TitledStatement). is_known k title) (defined_same last known lines r.0 r.1 r.2)
    ∙ known_front r.0.theorems t title (not_known last (and_theorem r.0 t) r.3 ts now rest title r.6 h)

last_differs : (known : List TitledStatement) (t : TheoremView) (title : List ℕ) → is_known (with_theorem known t) title ≡ false → bytes_eq t.title title ≡ false
last_differs [] t title h = turned title t.title (or_not_left (bytes_eq title t.title) false h)
last_differs (x ∷ xs) t title h = last_differs xs t title (or_not_right (bytes_eq title x.title) _ h)

-- two ways to where the way ends are one
one_spot : (last : ℕ) (known : Known) (lines : Rest) (title : List ℕ) (step : ℕ) (ts us : List TheoremView) (k1 k2 : Known) (r1 r2 : Rest) (a b : WayOutcome) → Takes last known lines ts k1 r1 → Takes last known lines us k2 r2
    → is_known k1.theorems title ≡ false → is_known k2.theorems title ≡ false → WayAt last k1 r1 title step a → WayAt last k2 r2 title step b → (k1 ≡ k2) × (r1 ≡ r2)
one_spot last known lines title step [] [] k1 k2 r1 r2 a b p q m n h k =
    spot_of last known lines k1 k2 r1 r2 p q (end_here last k1 r1 title step a h) (end_here last k2 r2 title step b k)
one_spot last known lines title step [] (u ∷ us) k1 k2 r1 r2 a b p q m n h k =
    absurd (ends_before last known lines k1 q.0 r1 q.1 q.3 u title step a p h q.2 q.4 q.5 (last_differs q.0.theorems u title (not_known last (and_theorem q.0 u) q.3 us k2 r2 title q.6 n)))
one_spot last known lines title step (t ∷ ts) [] k1 k2 r1 r2 a b p q m n h k =
    absurd (ends_before last known lines k2 p.0 r2 p.1 p.3 t title step b q k p.2 p.4 p.5 (last_differs p.0.theorems t title (not_known last (and_theorem p.0 t) p.3 ts k1 r1 title p.6 m)))
one_spot last known lines title step (t ∷ ts) (u ∷ us) k1 k2 r1 r2 a b p q m n h k =
    let spot = spot_of last known lines p.0 q.0 p.1 q.1 p.2 q.2 (theorem_here last p.0 p.1 t p.3 p.4) (theorem_here last q.0 q.1 u q.3 q.4) in
    let there : item_from p.0 last None p.1 ≡ item_from q.0 last None q.1 = ap (λ (x : Known). item_from x last None p.1) spot.0 ∙ ap (λ (l : Rest). item_from q.0 last None l) spot.1 in
    let e = sym q.4 ∙ sym there ∙ p.4 in
    one_spot last (and_theorem p.0 t) p.3 title step ts us k1 k2 r1 r2 a b p.6
    (takes_at last p.0 q.0 k2 p.3 q.3 r2 us t u (sym spot.0) (same_first u t q.3 p.3 e) (same_rest (OfTheorem u) (OfTheorem t) q.3 p.3 e) q.6) m n h k

pub way_is_one : (lines : Rest) (title : List ℕ) (step : ℕ) (a b : WayOutcome) → IsWayOf lines title step a → IsWayOf lines title step b → a ≡ b
way_is_one lines title step a b h k =
    let last = end_line_number lines in
    let p = way_at lines title step a h in
    let q = way_at lines title step b k in
    let spot = one_spot last nothing_known lines title step p.theorems q.theorems p.known q.known p.rest q.rest a b p.begins q.begins p.untitled q.untitled p.holds q.holds in
    one_way_at last p.known p.rest title step a b p.holds (ends_at last p.known q.known p.rest q.rest title step b spot.0 spot.1 q.holds)

-- ---- what is suggested is one

abbrev AreSame : ℕ → ℕ → Bool → Bool → List ℕ → List ℕ → Type 0
AreSame n m more other out text = (n ≡ m) × (more ≡ other) × (out ≡ text)

same_names : (x y : Names) → Some x ≡ Some y → x ≡ y
same_names x y e = cc

one_suggestion : (title : List ℕ) (step : ℕ) (known : List TitledStatement) (t : TheoremView) (n m : ℕ) (more other : Bool) (out text : List ℕ) → Suggests title step n more out known t → Suggests title step m other text known t → AreSame n m more other out text
one_suggestion title step known t n m more other out text s u =
    let place = one_context (stated_by known) (as_view t.statement) t.script step s.placed u.placed s.asked.context u.asked.context in
    let names : s.names ≡ u.names = same_names s.names u.names (s.named ∙ sym u.named) in
    let first : AreFirstApplications s.placed.scope s.placed.facts known u.applications other =
    subst (λ (c : Scope). AreFirstApplications c s.placed.facts known u.applications other) (sym place.scope) (subst (λ (fs : List Lit). AreFirstApplications u.placed.scope fs known u.applications other) (sym place.facts) u.first) in
    let list = one_list s.placed.scope s.placed.facts known s.applications u.applications more other s.first first in
    let count : n ≡ m = s.count ∙ ap length list.0 ∙ sym u.count in (
      count,
      list.1,
      s.bytes ∙ ap (λ (x : Names). text_of (map (line_of x) s.applications) ++ suggested_line n more) names
          ∙ ap (λ (xs : List Application). text_of (map (line_of u.names) xs) ++ suggested_line n more) list.0
          ∙ ap (λ (i : ℕ). text_of (map (line_of u.names) u.applications) ++ suggested_line i more) count
          ∙ ap (λ (b : Bool). text_of (map (line_of u.names) u.applications) ++ suggested_line m b) list.1 ∙ sym u.bytes,
    )

one_next : (last : ℕ) (known : Known) (rest : Rest) (title : List ℕ) (step n m : ℕ) (more other : Bool) (out text : List ℕ) → NextIs last known rest (Suggests title step n more out known.theorems) → NextIs last known rest (Suggests title step m other text known.theorems)
    → AreSame n m more other out text
one_next last known rest title step n m more other out text h k =
    one_suggestion title step known.theorems h.0 n m more other out text h.3
    (subst (λ (u : TheoremView). Suggests title step m other text known.theorems u) (same_first k.0 h.0 k.1 h.1 (sym k.2 ∙ h.2)) k.3)

pub suggestion_is_one : (lines : Rest) (title : List ℕ) (step n m : ℕ) (more other : Bool) (out text : List ℕ) → NextUpTo lines title (Suggests title step n more out) → NextUpTo lines title (Suggests title step m other text) → AreSame n m more other out text
suggestion_is_one lines title step n m more other out text p q =
    let last = end_line_number lines in
    let spot = one_spot last nothing_known lines title step p.theorems q.theorems p.known q.known p.rest q.rest AtStep AtStep p.begins q.begins p.untitled q.untitled
    (p.holds.0, p.holds.1, p.holds.2, (p.holds.3.placed, p.holds.3.asked)) (q.holds.0, q.holds.1, q.holds.2, (q.holds.3.placed, q.holds.3.asked)) in
    one_next last p.known p.rest title step n m more other out text p.holds
    (subst (λ (r : Rest). NextIs last p.known r (Suggests title step m other text p.known.theorems)) (sym spot.1)
    (subst (λ (k : Known). NextIs last k q.rest (Suggests title step m other text k.theorems)) (sym spot.0) q.holds))

-- ---- the answer is that of the way

so_answered : (lines : Rest) (title : List ℕ) (step : ℕ) (way own : WayOutcome) (answer : Status) → IsWayOf lines title step way → IsWayOf lines title step own → IsWayAnswer lines title step own answer → IsWayAnswer lines title step way answer
so_answered lines title step way own answer h k a = subst (λ (w : WayOutcome). IsWayAnswer lines title step w answer) (way_is_one lines title step own way k h) a

wide_answer : (lines : Rest) (title : List ℕ) (step : ℕ) (way : WayOutcome) (p : List ℕ) (n : ℕ) (wanted : Wanted) (width : ℕ) → NextUpTo lines title (HasWideOnWay title step) → IsWayAnswer lines title step way (status.TooWide p n wanted width)
wide_answer lines title step AtStep p n wanted width h = h
wide_answer lines title step NoStep p n wanted width h = h
wide_answer lines title step (Unlicensed a b c d) p n wanted width h = h
wide_answer lines title step (Faulty f) p n wanted width h = h

is_wide : (title : List ℕ) (step : ℕ) (p : List ℕ) (n : ℕ) (wanted : Wanted) (width : ℕ) (names : Names) (known : List TitledStatement) (t : TheoremView) → Widens title step p n wanted width names known t → HasWideOnWay title step known t
is_wide title step p n wanted width names known t (inl (w, earlier)) =
    let at = w.too_wide in
    inl (record { number = n; placed = at.step; earlier = earlier; context = at.context; is_wide = wide_line (stated_by known) at.step at.step.here wanted width at.too_wide })
is_wide title step p n wanted width names known t (inr (same, is, wanted_is, w)) = inr (width, names, w)

widens_way : (lines : Rest) (title : List ℕ) (step : ℕ) (p : List ℕ) (n : ℕ) (wanted : Wanted) (width : ℕ) (names : Names) → NextUpTo lines title (Widens title step p n wanted width names) → NextUpTo lines title (HasWideOnWay title step)
widens_way lines title step p n wanted width names u =
    record {
      theorems = u.theorems;
      known = u.known;
      rest = u.rest;
      begins = u.begins;
      untitled = u.untitled;
      holds = (u.holds.0, u.holds.1, u.holds.2, is_wide title step p n wanted width names u.known.theorems u.holds.0 u.holds.3);
    }

failed : (lines : Rest) (title : List ℕ) (step : ℕ) (way : WayOutcome) → IsWayAnswer lines title step way status.ReadFault × IsWayAnswer lines title step way status.WriteFault × IsWayAnswer lines title step way status.NoMemory
failed lines title step AtStep = (tt, tt, tt)
failed lines title step NoStep = (tt, tt, tt)
failed lines title step (Unlicensed a b c d) = (tt, tt, tt)
failed lines title step (Faulty f) = (tt, tt, tt)

due_answers : (lines : Rest) (title : List ℕ) (step : ℕ) (way : WayOutcome) (answer : Status) (out : List ℕ) → IsWayOf lines title step way → SuggestAnswer lines title step answer out → IsWayAnswer lines title step way answer
due_answers lines title step way (status.Suggested n more) out h u =
    so_answered lines title step way AtStep (status.Suggested n more) h
    (record { theorems = u.theorems; known = u.known; rest = u.rest; begins = u.begins; untitled = u.untitled; holds = (u.holds.0, u.holds.1, u.holds.2, (u.holds.3.placed, u.holds.3.asked)) }) tt
due_answers lines title step way status.NoStep out h d = so_answered lines title step way NoStep status.NoStep h d.0 tt
due_answers lines title step way (status.Fault f) out h d = so_answered lines title step way (Faulty f) (status.Fault f) h d.0 refl
due_answers lines title step way (status.Unlicensed p n wanted values) out h d =
    let u = d.1 in
    so_answered lines title step way (Unlicensed p n wanted d.0) (status.Unlicensed p n wanted values) h
    (record {
      theorems = u.theorems;
      known = u.known;
      rest = u.rest;
      begins = u.begins;
      untitled = u.untitled;
      holds = (u.holds.0, u.holds.1, u.holds.2, (stop_of_refusal u.known.theorems u.holds.0 p n wanted values d.0 u.holds.3.0, u.holds.3.1));
    }) (refl, refl, refl)
due_answers lines title step way (status.TooWide p n wanted width) out h d =
    wide_answer lines title step way p n wanted width (widens_way lines title step p n wanted width d.0 d.1)
due_answers lines title step way status.ReadFault out h d = (failed lines title step way).0
due_answers lines title step way status.NoMemory out h d = (failed lines title step way).2
due_answers lines title step way answer out h d = absurd d

answered : (lines : Rest) (title : List ℕ) (step : ℕ) (way : WayOutcome) (old new : Option (List ℕ)) (answer : Status) → IsWayOf lines title step way → Wrote (SuggestAnswer lines title step) old new answer → IsWayAnswer lines title step way answer
answered lines title step way old new answer h (inl w) = due_answers lines title step way answer w.out h w.due
answered lines title step way old new answer h (inr w) = subst (λ (a : Status). IsWayAnswer lines title step way a) (sym w.0) (failed lines title step way).1

-- where the source exposes its bytes
pub answers_suggest : (title : List ℕ) (step : ℕ) (left old new : Option (List ℕ)) (answer : Status) → WroteOfText (λ text. SuggestAnswer (lines_of_book text) title step) left old new answer → AnswersSuggest title step left answer
answers_suggest title step left old new answer c text way is_answer h =
    let all = subst (λ (l : Option (List ℕ)). WroteOfText (λ text. SuggestAnswer (lines_of_book text) title step) l old new answer) is_answer c in
    answered (lines_of_book text) title step way old new answer h (subst (λ (t : List ℕ). Wrote (SuggestAnswer (lines_of_book t) title step) old new answer) all.1 all.2)

-- ---- what was read

pub read_book : (title : List ℕ) (step : ℕ) (left : Option (List ℕ)) (read : List ℕ) (answer : Result Answer Failure) → IsTextOf 4194305 left read → HasDue (SuggestAnswer (lines_of_book read) title step) answer
    → HasDueOfText (λ text. SuggestAnswer (lines_of_book text) title step) left answer
read_book title step None read answer e d = (read, tt, d)
read_book title step (Some text) read answer e d = (text, refl, subst (λ (l : Rest). HasDue (SuggestAnswer l title step) answer) (book_lines read text e) d)

-- ---- what the code answers

abbrev AnswersIf : {E : Type 0} → Result Answer E → (Status → List ℕ → Type 0) → Type 0
AnswersIf r Holds = IfOk r (λ a. Holds a.status a.line.items)

pub too_short_next : {E : Type 0} (r : Result Answer E) (known : List TitledStatement) (t : TheoremView) (step : ℕ) → size t.script < step → IfOk r (λ a. (a.status ≡ status.NoStep) × (a.line.items ≡ no_step_line))
    → AnswersIf r (AnswersNext known t t.title step)
too_short_next (Err e) known t step short h = tt
too_short_next (Ok a) known t step short h = λ lines next. too_short lines t.title step known t a.status a.line.items next refl short h.0 h.1

pub stopped_next : {E : Type 0} (r : Result Answer E) (known : List TitledStatement) (t : TheoremView) (step : ℕ) (stop : Stop) → step ≤ size t.script → IsStopBefore step stop → StopIs (stated_by known) (as_view t.statement) t.script stop
    → HasNames (stated_by known) (as_view t.statement) t.names t.script stop → IfOk r (λ a. IsStopAnswer t.title stop a.status a.line.items) → AnswersIf r (AnswersNext known t t.title step)
stopped_next (Err e) known t step stop has less refused named h = tt
stopped_next (Ok a) known t step stop has less refused named h =
    λ lines next. is_stopped lines t.title step known t stop a.status a.line.items next (stops_own t.title step t stop has less) refused named h

pub answered_next : {E : Type 0} (r : Result Answer E) (known : List TitledStatement) (t : TheoremView) (step : ℕ) (p : StateBefore) → IsStateBeforeStep (stated_by known) (as_view t.statement) t.names t.script step p
    → AnswersIf r (AnswersAt p.names p.context.scope p.context.facts known t.title step) → AnswersIf r (AnswersNext known t t.title step)
answered_next (Err e) known t step p place h = tt
answered_next (Ok a) known t step p place h = is_answered known t t.title step p a.status a.line.items refl place h

-- at the end of the book
pub no_step_here : {E : Type 0} (r : Result Answer E) (lines : Rest) (title : List ℕ) (step : ℕ) (known : Known) (rest : Rest) → IsOnWay lines title known rest → item_from known (end_line_number lines) None rest ≡ none_left
    → IfOk r (λ a. (a.status ≡ status.NoStep) × (a.line.items ≡ no_step_line)) → AnswersIf r (IsBookAnswer lines title step)
no_step_here (Err e) lines title step known rest w read h = tt
no_step_here (Ok a) lines title step known rest w read h = none_titled lines title step known rest a.status a.line.items w read h.0 h.1

-- at a fault
pub faulty_here : {E : Type 0} (r : Result Answer E) (lines : Rest) (title : List ℕ) (step : ℕ) (known : Known) (rest : Rest) (f : BookFault) → IsOnWay lines title known rest
    → BookFails f (item_from known (end_line_number lines) None rest) → IfOk r (λ a. (lacks_memory f ≡ false) × (a.status ≡ status.Fault f) × (a.line.items ≡ fault_line f)) → AnswersIf r (IsBookAnswer lines title step)
faulty_here (Err e) lines title step known rest f w fails h = tt
faulty_here (Ok a) lines title step known rest f w fails h = is_faulty lines title step known rest f a.status a.line.items w fails h.0 h.1 h.2

-- at the theorem with the title
pub titled_passes : (known now : Known) (title : List ℕ) (step : ℕ) (t : TheoremView) (a : Answer) → bytes_eq t.title title ≡ true → AnswersNext known.theorems t t.title step a.status a.line.items
    → PassesNext known (OfTheorem t) title step now (Some a)
titled_passes known now title step t a same h lines rest after w read =
    subst (λ (l : List ℕ). AnswersNext known.theorems t l step a.status a.line.items) (same_title t.title title same) h lines (next_of lines title known rest after t w read)

-- at a stop of another theorem
pub stopped_passes : (known now : Known) (title : List ℕ) (step : ℕ) (t : TheoremView) (stop : Stop) (a : Answer) → bytes_eq t.title title ≡ false → StopIs (stated_by known.theorems) (as_view t.statement) t.script stop
    → HasNames (stated_by known.theorems) (as_view t.statement) t.names t.script stop → IsStopAnswer t.title stop a.status a.line.items → PassesNext known (OfTheorem t) title step now (Some a)
stopped_passes known now title step t stop a differ refused named h lines rest after w read =
    is_stopped lines title step known.theorems t stop a.status a.line.items (next_of lines title known rest after t w read) (stops_other title step t stop differ) refused named h

-- another theorem is licensed
pub licensed_passes : (known now : Known) (title : List ℕ) (step : ℕ) (t : TheoremView) → bytes_eq t.title title ≡ false → IsLicensed known.theorems t → is_small_statement (as_view t.statement) ≡ true → now ≡ and_theorem known t
    → PassesNext known (OfTheorem t) title step now None
licensed_passes known now title step t differ licensed small is lines rest after w read =
    subst (λ (k : Known). IsOnWay lines title k after) (sym is) (way_more lines title known rest after t w read licensed differ small)

-- a definition is known
pub notion_passes : (known now : Known) (title : List ℕ) (step : ℕ) (n : Titled) → is_notion n.notion ≡ true → now ≡ and_notion known n → PassesNext known (OfNotion n) title step now None
notion_passes known now title step n means is lines rest after w read =
    subst (λ (k : Known). IsOnWay lines title k after) (sym is) (way_notion lines title known rest after n w read means)

-- at the place
pub listed_answer : {E : Type 0} (r : Result Answer E) (names : Names) (scope : Scope) (facts : List Lit) (known : List TitledStatement) (title : List ℕ) (step n m : ℕ) (more : Bool) (out text : List ℕ) → text ≡ out → m ≡ n → AreListed names scope facts known out n more
    → IfOk r (λ a. (a.status ≡ status.Suggested m more) × (a.line.items ≡ text ++ suggested_line m more)) → AnswersIf r (AnswersAt names scope facts known title step)
listed_answer (Err e) names scope facts known title step n m more out text same is l h = tt
listed_answer (Ok a) names scope facts known title step n m more out text same is l (e, f) =
    subst (λ (s : Status). AnswersAt names scope facts known title step s a.line.items) (sym e)
    (l.applications, is ∙ l.count, l.first, f ∙ ap (λ (x : List ℕ). x ++ suggested_line m more) (same ∙ l.bytes))

pub wide_at_place : {E : Type 0} (r : Result Answer E) (names seen : Names) (scope : Scope) (facts : List Lit) (known : List TitledStatement) (title : List ℕ) (step width : ℕ) → seen ≡ names → SomeIsTooWide scope facts known width
    → IfOk r (λ a. IsStopAnswer title (stops.TooWide step Match width seen) a.status a.line.items) → AnswersIf r (AnswersAt names scope facts known title step)
wide_at_place (Err e) names seen scope facts known title step width same some h = tt
wide_at_place (Ok a) names seen scope facts known title step width same some h =
    subst (λ (s : Status). AnswersAt names scope facts known title step s a.line.items) (sym h.is_answer)
    (refl, refl, refl, some, h.bytes ∙ ap (λ (ns : Names). too_wide_text title step Match width ns) same)

pub is_stop : (stop : Stop) → is_out_of_memory stop ≡ false → IsStop stop
is_stop (stops.Unlicensed n wanted values names) h = tt
is_stop (stops.TooWide n wanted width names) h = tt
is_stop stops.NoMemory h = absurd (true≢false h)

pub stop_answered : (title : List ℕ) (stop : Stop) (answer : Status) (out : List ℕ) → IsStop stop → answer ≡ stop_answer title stop → out ≡ stop_text title stop → IsStopAnswer title stop answer out
stop_answered title stop answer out s e f = record { stops = s; is_answer = e; bytes = f }

-- ---- the answer on a book

pub book_due : {E : Type 0} (r : Result Answer E) (bytes read title : List ℕ) (step : ℕ) → bytes ≡ read → AnswersIf r (IsBookAnswer (lines_of_book bytes) title step) → AnswersIf r (SuggestAnswer (lines_of_book read) title step)
book_due (Err e) bytes read title step same h = tt
book_due (Ok a) bytes read title step same h = subst (λ (t : List ℕ). SuggestAnswer (lines_of_book t) title step a.status a.line.items) same h.due

pub book_unread : {E : Type 0} (r : Result Answer E) (lines : Rest) (title : List ℕ) (step : ℕ) → AnswersIf r (IsBookAnswer lines title step) → IfOk r (λ a. IsReadFault a.status → ⊥)
book_unread (Err e) lines title step h = tt
book_unread (Ok a) lines title step h = h.no_read
