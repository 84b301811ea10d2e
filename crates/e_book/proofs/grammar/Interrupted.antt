-- The blocks that are interrupted.
use Rattle.std.proofs.Common.{◌≡◌, ℕ, ◌+◌, ◌≤◌, Bool, List, [], ◌∷◌, ◌++◌, length, reverse, Some, None, Result, Ok, Err, refl, sym, ap, subst, ◌∙◌}
use Rattle.std.specs.List.{list_any}
use Rattle.std.proofs.lemmas.List.Sorted.{list_any-IsPermutation, IsPermutation-reverse}
use Rattle.e_literal.specs.declared.literal.Lit.{Lit}
use Rattle.e_deriv.specs.Script.{Script}
use Rattle.e_deriv.specs.PlainStep.{PlainStep, Claimed, Copied, all_before}
use Rattle.e_book.specs.declared.blocks.OpenBlock.{OpenBlock}
use Rattle.e_book.specs.declared.blocks.BlockKind.{BlockKind}
use Rattle.e_book.specs.declared.blocks.BlockKind.TheVariants as kind
use Rattle.e_book.specs.declared.parser.TheoremParser.{TheoremParser}
use Rattle.e_line.specs.declared.fault.FaultKind.{FaultKind}
use Rattle.e_line.specs.declared.fault.What.TheVariants as limits
use Rattle.e_line.specs.declared.fault.LineError.{LineError}
use Rattle.e_book.specs.declared.steps.CloseLine.{CloseLine}
use Rattle.e_book.specs.declared.steps.CloseLine.TheVariants as closes
use Rattle.e_line.specs.Reading.{◌>>=◌, Fails, Moves}
use Rattle.e_book.specs.ParserViews.{script_of_close}
use Rattle.e_line.specs.Limits.{most_facts, most_depth, within}
use Rattle.e_book.specs.Steps.{terms_after, counted_from, outer_of, after_inner_block, closed_inside, parser_after_close, ClosesInside, FitsOuter, FitsScope}

-- a test finds something in a list whichever way it goes
pub any_reversed : {X : Type 0} (p : X → Bool) (xs : List X) → list_any p (reverse xs) ≡ list_any p xs
any_reversed p xs = sym (list_any-IsPermutation p xs (reverse xs) (IsPermutation-reverse xs))

-- ---- closing looks at neither the steps nor the blocks around that a parser has

abbrev resumed_by : TheoremParser → OpenBlock → List OpenBlock → ℕ → PlainStep → Result (Unit {0}) FaultKind → Result ℕ FaultKind → Result TheoremParser FaultKind
resumed_by d o os n s few terms = (few >>= λ u. terms >>= λ m. Ok (record d { facts = n; terms = m })) >>= λ e. Ok (record e { steps = o.steps ++ s ∷ []; in_scope = o.in_scope; blocks = os })

resumed_by_alike : (d : TheoremParser) (xs : List OpenBlock) (ss : List PlainStep) (o : OpenBlock) (os : List OpenBlock) (n : ℕ) (s : PlainStep) (few : Result (Unit {0}) FaultKind) (terms : Result ℕ FaultKind)
    → resumed_by (record d { blocks = xs; steps = ss }) o os n s few terms ≡ resumed_by d o os n s few terms
resumed_by_alike d xs ss o os n s (Ok u) (Ok m) = refl
resumed_by_alike d xs ss o os n s (Ok u) (Err e) = refl
resumed_by_alike d xs ss o os n s (Err e) terms = refl

resumed_alike : (d : TheoremParser) (xs : List OpenBlock) (ss : List PlainStep) (o : OpenBlock) (os : List OpenBlock) (shown : List Lit) (s : PlainStep)
    → after_inner_block (record d { blocks = xs; steps = ss }) o os shown s ≡ after_inner_block d o os shown s
unfolding after_inner_block counted_from
resumed_alike d xs ss o os shown s =
    resumed_by_alike d xs ss o os (o.facts + length shown) s (within (o.facts + length shown) most_facts limits.Facts) (terms_after o.terms shown)

-- nor at its names in scope and its counts: they are put back
abbrev pub around : TheoremParser → OpenBlock → TheoremParser
around d o = record d { steps = o.steps; in_scope = o.in_scope; facts = o.facts; terms = o.terms }

around_by : (d : TheoremParser) (o : OpenBlock) (os : List OpenBlock) (n : ℕ) (s : PlainStep) (few : Result (Unit {0}) FaultKind) (terms : Result ℕ FaultKind) → resumed_by d o os n s few terms ≡ resumed_by (around d o) o os n s few terms
around_by d o os n s (Ok u) (Ok m) = refl
around_by d o os n s (Ok u) (Err e) = refl
around_by d o os n s (Err e) terms = refl

pub goes_on : (d : TheoremParser) (o : OpenBlock) (os : List OpenBlock) (shown : List Lit) (s : PlainStep) → after_inner_block d o os shown s ≡ after_inner_block (around d o) o os shown s
unfolding after_inner_block counted_from
goes_on d o os shown s = around_by d o os (o.facts + length shown) s (within (o.facts + length shown) most_facts limits.Facts) (terms_after o.terms shown)

inside_alike : (d : TheoremParser) (xs : List OpenBlock) (ss : List PlainStep) (o : OpenBlock) (os : List OpenBlock) (inner : Script) (again : CloseLine → Result TheoremParser FaultKind) (what : BlockKind)
    → closed_inside (record d { blocks = xs; steps = ss }) o os inner again what ≡ closed_inside d o os inner again what
inside_alike d xs ss o os inner again (kind.Claim shown) = resumed_alike d xs ss o os shown (Claimed shown inner)
inside_alike d xs ss o os inner again (kind.Superpose superposition names shown) = resumed_alike d xs ss o os shown (Copied superposition names shown [] inner)
inside_alike d xs ss o os inner again (kind.First lit) = refl
inside_alike d xs ss o os inner again (kind.Second lit first) = refl

again_alike : (d : TheoremParser) (xs : List OpenBlock) (ss : List PlainStep) (o : OpenBlock) (os : List OpenBlock) (inner : Script) (f g : CloseLine → Result TheoremParser FaultKind) (what : BlockKind)
    → ((c : CloseLine) → f c ≡ g c) → closed_inside (record d { blocks = xs; steps = ss }) o os inner f what ≡ closed_inside d o os inner g what
again_alike d xs ss o os inner f g (kind.Claim shown) same = resumed_alike d xs ss o os shown (Claimed shown inner)
again_alike d xs ss o os inner f g (kind.Superpose superposition names shown) same = resumed_alike d xs ss o os shown (Copied superposition names shown [] inner)
again_alike d xs ss o os inner f g (kind.First lit) same = refl
again_alike d xs ss o os inner f g (kind.Second lit first) same = same (closes.Cases lit first inner)

closed_alike : (d : TheoremParser) (xs : List OpenBlock) (ss : List PlainStep) (os : List OpenBlock) (steps : List PlainStep) (close : CloseLine)
    → parser_after_close (record d { blocks = xs; steps = ss }) os steps close ≡ parser_after_close d os steps close
unfolding parser_after_close
closed_alike d xs ss [] steps close = refl
closed_alike d xs ss (o ∷ os) steps close =
    again_alike d xs ss o os (all_before steps (script_of_close close)) (λ c. parser_after_close (record d { blocks = xs; steps = ss }) os o.steps c) (λ c. parser_after_close d os o.steps c) o.kind
    (λ c. closed_alike d xs ss os o.steps c)

-- ---- the innermost of the blocks around is taken out

top_alike : (d : TheoremParser) (o : OpenBlock) (os : List OpenBlock) (close : CloseLine) → d.blocks ≡ o ∷ os
    → closed_inside (record d { blocks = os }) o os (all_before d.steps (script_of_close close)) (λ c. parser_after_close d os o.steps c) o.kind ≡ parser_after_close d d.blocks d.steps close
unfolding parser_after_close
top_alike d o os close is =
    inside_alike d os d.steps o os (all_before d.steps (script_of_close close)) (λ c. parser_after_close d os o.steps c) o.kind
    ∙ ap (λ (xs : List OpenBlock). parser_after_close d xs d.steps close) (sym is)

-- closing stops there, or goes on, or fails
pub top_stops : (d q : TheoremParser) (o : OpenBlock) (os : List OpenBlock) (close : CloseLine) → d.blocks ≡ o ∷ os → ClosesInside (record d { blocks = os }) o close (Ok None) q
    → parser_after_close d d.blocks d.steps close ≡ Ok q
top_stops d q o os close is inside = sym (top_alike d o os close is) ∙ inside (λ c. parser_after_close d os o.steps c)

pub top_goes_on : (d q new : TheoremParser) (o : OpenBlock) (os : List OpenBlock) (close next : CloseLine) (result : Result (Unit {0}) LineError) → d.blocks ≡ o ∷ os
    → ClosesInside (record d { blocks = os }) o close (Ok (Some next)) q → Moves result new (parser_after_close q q.blocks q.steps next) → Moves result new (parser_after_close d d.blocks d.steps close)
top_goes_on d q new o os close next result is inside moves =
    let again : CloseLine → Result TheoremParser FaultKind = λ c. parser_after_close d os o.steps c in
    let p : TheoremParser = record d { blocks = os; steps = o.steps } in
    let there : parser_after_close q q.blocks q.steps next ≡ parser_after_close p os o.steps next = ap (λ (x : TheoremParser). parser_after_close x x.blocks x.steps next) inside.1 in
    subst (Moves result new) (there ∙ closed_alike d os o.steps os o.steps next ∙ sym (inside.0 again) ∙ top_alike d o os close is) moves

pub top_fails : (d q : TheoremParser) (o : OpenBlock) (os : List OpenBlock) (close : CloseLine) (e : LineError) → d.blocks ≡ o ∷ os → ClosesInside (record d { blocks = os }) o close (Err e) q
    → Fails e (parser_after_close d d.blocks d.steps close)
top_fails d q o os close e is inside = subst (Fails e) (top_alike d o os close is) (inside (λ c. parser_after_close d os o.steps c))

-- ---- what fits

pub record TopFits (d : TheoremParser) (o : OpenBlock) (os : List OpenBlock) : Type 0 where
  pub parser : FitsScope (record d { blocks = os })
  pub room : length os + 2 ≤ most_depth
  pub outer : FitsOuter o

-- ---- what a block shows is too much

pub back_around : (d t p : TheoremParser) (o : OpenBlock) (steps : List PlainStep) → t ≡ record d { steps = [] } → steps ≡ o.steps
    → p ≡ record t { steps = steps; in_scope = o.in_scope; facts = o.facts; terms = o.terms } → p ≡ around d o
back_around d t p o steps taken put back =
    back ∙ ap (λ (ss : List PlainStep). record t { steps = ss; in_scope = o.in_scope; facts = o.facts; terms = o.terms }) put ∙ ap (λ (x : TheoremParser). around x o) taken

pub resumed_fails : (d p new : TheoremParser) (o : OpenBlock) (close : CloseLine) (shown : List Lit) (step : PlainStep) (inner : Script) (what : BlockKind) (e : LineError) → o.kind ≡ what → p ≡ around d o
    → inner ≡ all_before d.steps (script_of_close close) → ((again : CloseLine → Result TheoremParser FaultKind) → closed_inside d o d.blocks inner again what ≡ after_inner_block d o d.blocks shown step)
    → Fails e (after_inner_block p (outer_of p what) p.blocks shown step) → ClosesInside d o close (Err e) new
resumed_fails d p new o close shown step inner what e is taken block shows fails again =
    let whole : record o { kind = what } ≡ o = sym (ap (λ (x : BlockKind). record o { kind = x }) is) in
    let there : after_inner_block p (outer_of p what) p.blocks shown step ≡ after_inner_block d o d.blocks shown step =
    ap (λ (x : TheoremParser). after_inner_block x (outer_of x what) x.blocks shown step) taken ∙ ap (λ (x : OpenBlock). after_inner_block (around d o) x d.blocks shown step) whole ∙ sym (goes_on d o d.blocks shown step) in
    let here : closed_inside d o d.blocks (all_before d.steps (script_of_close close)) again o.kind ≡ after_inner_block d o d.blocks shown step =
    ap (λ (s : Script). closed_inside d o d.blocks s again o.kind) (sym block) ∙ ap (λ (x : BlockKind). closed_inside d o d.blocks inner again x) is ∙ shows again in
    subst (Fails e) (there ∙ sym here) fails

-- ---- a block goes on with what the one inside shows

shown_as : (d : TheoremParser) (n : ℕ) (s : PlainStep) (few : Result (Unit {0}) FaultKind) (terms : Result ℕ FaultKind)
    → ((few >>= λ u. terms >>= λ m. Ok (record d { facts = n; terms = m })) >>= λ e. Ok (record e { steps = d.steps ++ s ∷ []; in_scope = d.in_scope; blocks = d.blocks }))
    ≡ ((few >>= λ u. terms >>= λ m. Ok (record d { facts = n; terms = m })) >>= λ e. Ok (record e { steps = e.steps ++ s ∷ [] }))
shown_as d n s (Ok u) (Ok m) = refl
shown_as d n s (Ok u) (Err e) = refl
shown_as d n s (Err e) terms = refl

pub with_shown : (d : TheoremParser) (what : BlockKind) (shown : List Lit) (s : PlainStep)
    → after_inner_block d (outer_of d what) d.blocks shown s ≡ (counted_from d d.facts d.terms shown >>= λ e. Ok (record e { steps = e.steps ++ s ∷ [] }))
unfolding after_inner_block counted_from
with_shown d what shown s =
    shown_as d (d.facts + length shown) s (within (d.facts + length shown) most_facts limits.Facts) (terms_after d.terms shown)
