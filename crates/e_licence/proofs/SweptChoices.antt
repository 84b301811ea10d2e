-- Choices that a sweep finds, span by span.
use Rattle.std.proofs.Common.{◌≡◌, ℕ, ◌+◌, ◌-◌, ◌<◌, ◌≤◌, ◌⊎◌, List, [], ◌∷◌, ◌++◌, length, length-append, take, get_or, refl, sym, ap, ◌∙◌, subst, arith, inl, inr, Result, Ok, Err}
use Rattle.std.specs.Prelude.{IfOk}
use Rattle.std.proofs.lemmas.Bool.{cases_lt}
use Rattle.std.proofs.lemmas.List.{append_assoc, append-nil}
use Rattle.std.proofs.Math.Seq.{take-append_seam}
use Rattle.e_transfer.specs.declared.walk.Span.{Span}
use Rattle.e_transfer.specs.declared.walk.Verdict.{Verdict}
use Rattle.e_transfer.specs.declared.walk.Verdict.TheVariants as verdict
use Rattle.e_transfer.specs.Choice.{FitsSpans, Starts, ComesBefore}
use Rattle.e_transfer.specs.Verdicts.{VerdictIs}
use Rattle.e_transfer.proofs.Choices.{none_span, tail_of, split}
use Rattle.e_licence.specs.declared.sweep.Swept.{Swept}
use Rattle.e_licence.specs.declared.sweep.Swept.TheVariants as sweep
use Rattle.e_licence.specs.inner.Sweeps.{Each, IsAmongChoices, AreAscending, IsAbove, IsKeptWhole, AreAll, AreFirstOf, Sweeps, FoundIs, IsKeptUnder, AreUnder}

-- ---- lists of choices

pub each_map : (P Q : List ℕ → Type 0) (cs : List (List ℕ)) → ((c : List ℕ) → P c → Q c) → Each P cs → Each Q cs
each_map P Q [] f h = tt
each_map P Q (c ∷ cs) f (h, hs) = (f c h, each_map P Q cs f hs)

pub each_both : (P : List ℕ → Type 0) (xs ys : List (List ℕ)) → Each P xs → Each P ys → Each P (xs ++ ys)
each_both P [] ys h k = k
each_both P (x ∷ xs) ys (h, hs) k = (h, each_both P xs ys hs k)

in_left : (c : List ℕ) (xs ys : List (List ℕ)) → IsAmongChoices c xs → IsAmongChoices c (xs ++ ys)
in_left c [] ys h = absurd h
in_left c (x ∷ xs) ys (inl is) = inl is
in_left c (x ∷ xs) ys (inr h) = inr (in_left c xs ys h)

in_right : (c : List ℕ) (xs ys : List (List ℕ)) → IsAmongChoices c ys → IsAmongChoices c (xs ++ ys)
in_right c [] ys h = h
in_right c (x ∷ xs) ys h = inr (in_right c xs ys h)

ascending_both : (xs ys : List (List ℕ)) → AreAscending xs → AreAscending ys → Each (λ x. Each (ComesBefore x) ys) xs → AreAscending (xs ++ ys)
ascending_both [] ys h k below = k
ascending_both (x ∷ xs) ys (h, hs) k (first, others) = (each_both (ComesBefore x) xs ys h first, ascending_both xs ys hs k others)

-- ---- their order

-- the first number that differs is that after these
below_after : (before : List ℕ) (u v : ℕ) (c d : List ℕ) → u < v → ComesBefore (before ++ u ∷ c) (before ++ v ∷ d)
below_after [] u v c d less = inl less
below_after (b ∷ before) u v c d less = inr (refl, below_after before u v c d less)

-- a choice with the number u after these is below one with the number v
below_numbers : (kept : List ℕ → Type 0) (before : List ℕ) (rest : List Span) (u v : ℕ) (c : List ℕ) (d : List ℕ) → u < v
    → IsKeptWhole kept (before ++ u ∷ []) rest c → ComesBefore c (before ++ v ∷ d)
below_numbers kept before rest u v c d less w =
    subst (λ (x : List ℕ). ComesBefore x (before ++ v ∷ d)) (sym (w.is ∙ append_assoc before (u ∷ []) w.rest)) (below_after before u v w.rest d less)

below_whole : (kept : List ℕ → Type 0) (before : List ℕ) (rest : List Span) (u v : ℕ) (c d : List ℕ) → u < v
    → IsKeptWhole kept (before ++ u ∷ []) rest c → IsKeptWhole kept (before ++ v ∷ []) rest d → ComesBefore c d
below_whole kept before rest u v c d less w x =
    subst (λ (y : List ℕ). ComesBefore c y) (sym (x.is ∙ append_assoc before (v ∷ []) x.rest)) (below_numbers kept before rest u v c x.rest less w)

-- ---- one span

later : (kept : List ℕ → Type 0) (before : List ℕ) (span : Span) (rest : List Span) (v : ℕ) (c : List ℕ) → IsKeptUnder kept before span rest v c → IsKeptUnder kept before span rest (v + 1) c
later kept before span rest v c h = record { number = h.number; low = h.low; high = h.high; less = omega (arith, h.less); whole = h.whole }

new_under : (kept : List ℕ → Type 0) (before : List ℕ) (span : Span) (rest : List Span) (v : ℕ) (c : List ℕ) → span.from ≤ v → v < span.to
    → IsKeptWhole kept (before ++ v ∷ []) rest c → IsKeptUnder kept before span rest (v + 1) c
new_under kept before span rest v c low high w = record { number = v; low = low; high = high; less = omega arith; whole = w }

-- a kept choice from one number on is one from before it on
wider : (kept : List ℕ → Type 0) (before : List ℕ) (span : Span) (rest : List Span) (v : ℕ) (c : List ℕ) → kept before → span.from ≤ v → v < span.to
    → IsKeptWhole kept (before ++ v ∷ []) rest c → IsKeptWhole kept before (span ∷ rest) c
wider kept before span rest v c here low high w =
    record { rest = v ∷ w.rest; is = w.is ∙ append_assoc before (v ∷ []) w.rest; fits = (low, high, w.fits); each = (here, w.each) }

under_wider : (kept : List ℕ → Type 0) (before : List ℕ) (span : Span) (rest : List Span) (v : ℕ) (c : List ℕ) → kept before
    → IsKeptUnder kept before span rest v c → IsKeptWhole kept before (span ∷ rest) c
under_wider kept before span rest v c here h = wider kept before span rest h.number c here h.low h.high h.whole

-- what was found before this number is below all that begins with it
all_below : (kept : List ℕ → Type 0) (before : List ℕ) (span : Span) (rest : List Span) (v : ℕ) (cs : List (List ℕ)) (d : List ℕ)
    → Each (IsKeptUnder kept before span rest v) cs → IsKeptWhole kept (before ++ v ∷ []) rest d → IsAbove cs d
all_below kept before span rest v cs d h w =
    each_map (IsKeptUnder kept before span rest v) (λ c. ComesBefore c d) cs (λ c k. below_whole kept before rest k.number v c d k.less k.whole w) h

each_below : (kept : List ℕ → Type 0) (before : List ℕ) (span : Span) (rest : List Span) (v : ℕ) (cs new : List (List ℕ))
    → Each (IsKeptUnder kept before span rest v) cs → Each (IsKeptWhole kept (before ++ v ∷ []) rest) new → Each (λ c. Each (ComesBefore c) new) cs
each_below kept before span rest v cs new h k =
    each_map (IsKeptUnder kept before span rest v) (λ c. Each (ComesBefore c) new) cs
    (λ c u. each_map (IsKeptWhole kept (before ++ v ∷ []) rest) (ComesBefore c) new (λ d w. below_whole kept before rest u.number v c d u.less u.whole w) k) h

-- nothing is tried yet
pub none_under : (kept wanted : List ℕ → Type 0) (before : List ℕ) (span : Span) (rest : List Span) → AreUnder kept wanted before span rest span.from []
none_under kept wanted before span rest = record { whole = tt; ascending = tt; none_missing = λ u low less d fits good. absurd (omega (arith, low, less)) }

-- one number more was tried
more_under : (kept wanted : List ℕ → Type 0) (before : List ℕ) (span : Span) (rest : List Span) (v : ℕ) (cs new : List (List ℕ)) → span.from ≤ v → v < span.to
    → AreUnder kept wanted before span rest v cs → AreAll kept wanted (before ++ v ∷ []) rest new → AreUnder kept wanted before span rest (v + 1) (cs ++ new)
more_under kept wanted before span rest v cs new low high h k =
    record {
      whole = each_both (IsKeptUnder kept before span rest (v + 1)) cs new
          (each_map (IsKeptUnder kept before span rest v) (IsKeptUnder kept before span rest (v + 1)) cs (later kept before span rest v) h.whole)
          (each_map (IsKeptWhole kept (before ++ v ∷ []) rest) (IsKeptUnder kept before span rest (v + 1)) new (λ c w. new_under kept before span rest v c low high w) k.whole);
      ascending = ascending_both cs new h.ascending k.ascending (each_below kept before span rest v cs new h.whole k.whole);
      none_missing = λ u from less d fits good.
          elim (cases_lt u v) [
            | inl smaller ↦ in_left ((before ++ u ∷ []) ++ d) cs new (h.none_missing u from smaller d fits good)
            | inr most ↦
                let e : v ≡ u = omega (arith, less, most) in
                in_right ((before ++ u ∷ []) ++ d) cs new
                (subst (λ (x : ℕ). IsAmongChoices ((before ++ x ∷ []) ++ d) new) e
                (k.none_missing d fits (subst (λ (x : ℕ). wanted ((before ++ x ∷ []) ++ d)) (sym e) good)))
          ];
    }

-- all numbers of the span were tried
pub all_under : (kept wanted : List ℕ → Type 0) (before : List ℕ) (span : Span) (rest : List Span) (v : ℕ) (cs : List (List ℕ)) → kept before → span.to ≤ v
    → AreUnder kept wanted before span rest v cs → AreAll kept wanted before (span ∷ rest) cs
all_under kept wanted before span rest v cs here most h =
    record {
      whole = each_map (IsKeptUnder kept before span rest v) (IsKeptWhole kept before (span ∷ rest)) cs (λ c u. under_wider kept before span rest v c here u) h.whole;
      ascending = h.ascending;
      none_missing = missing;
    }
  where
    missing : (d : List ℕ) → FitsSpans (span ∷ rest) d → wanted (before ++ d) → IsAmongChoices (before ++ d) cs
    missing [] fits good = absurd fits
    missing (u ∷ us) (low, less, fits) good =
        subst (λ (x : List ℕ). IsAmongChoices x cs) (append_assoc before (u ∷ []) us)
        (h.none_missing u low (omega (arith, less, most)) us fits (subst (λ (x : List ℕ). wanted x) (sym (append_assoc before (u ∷ []) us)) good))

-- one more was found than the most
pub first_under : (kept wanted : List ℕ → Type 0) (before : List ℕ) (span : Span) (rest : List Span) (v : ℕ) (cs new : List (List ℕ)) → kept before → span.from ≤ v → v < span.to
    → AreUnder kept wanted before span rest v cs → AreFirstOf kept wanted (before ++ v ∷ []) rest new → AreFirstOf kept wanted before (span ∷ rest) (cs ++ new)
first_under kept wanted before span rest v cs new here low high h k =
    record {
      whole = each_both (IsKeptWhole kept before (span ∷ rest)) cs new
          (each_map (IsKeptUnder kept before span rest v) (IsKeptWhole kept before (span ∷ rest)) cs (λ c u. under_wider kept before span rest v c here u) h.whole)
          (each_map (IsKeptWhole kept (before ++ v ∷ []) rest) (IsKeptWhole kept before (span ∷ rest)) new (λ c w. wider kept before span rest v c here low high w) k.whole);
      ascending = ascending_both cs new h.ascending k.ascending (each_below kept before span rest v cs new h.whole k.whole);
      none_missing = missing;
      next = k.next;
      next_whole = wider kept before span rest v k.next here low high k.next_whole;
      next_above = each_both (λ c. ComesBefore c k.next) cs new (all_below kept before span rest v cs k.next h.whole k.next_whole) k.next_above;
    }
  where
    -- what was found before this number is below a choice with this number or a greater one
    under : (u : ℕ) (us : List ℕ) → v ≤ u → IsAbove cs (before ++ u ∷ us)
    under u us most =
        each_map (IsKeptUnder kept before span rest v) (λ c. ComesBefore c (before ++ u ∷ us)) cs (λ c x. below_numbers kept before rest x.number u c us (omega (arith, x.less, most)) x.whole) h.whole

    -- and what was found with it is below one with a greater one
    new_below : (u : ℕ) (us : List ℕ) → v < u → IsAbove new (before ++ u ∷ us)
    new_below u us less =
        each_map (IsKeptWhole kept (before ++ v ∷ []) rest) (λ c. ComesBefore c (before ++ u ∷ us)) new (λ c w. below_numbers kept before rest v u c us less w) k.whole

    here_missing : (us : List ℕ) → IsAmongChoices ((before ++ v ∷ []) ++ us) new ⊎ IsAbove new ((before ++ v ∷ []) ++ us) → IsAmongChoices (before ++ v ∷ us) (cs ++ new) ⊎ IsAbove (cs ++ new) (before ++ v ∷ us)
    here_missing us (inl is) = inl (in_right (before ++ v ∷ us) cs new (subst (λ (x : List ℕ). IsAmongChoices x new) (append_assoc before (v ∷ []) us) is))
    here_missing us (inr above) =
        inr (each_both (λ c. ComesBefore c (before ++ v ∷ us)) cs new (under v us (omega arith)) (subst (λ (x : List ℕ). IsAbove new x) (append_assoc before (v ∷ []) us) above))

    missing : (d : List ℕ) → FitsSpans (span ∷ rest) d → wanted (before ++ d) → IsAmongChoices (before ++ d) (cs ++ new) ⊎ IsAbove (cs ++ new) (before ++ d)
    missing [] fits good = absurd fits
    missing (u ∷ us) (from, less, fits) good =
        let good_there = subst (λ (x : List ℕ). wanted x) (sym (append_assoc before (u ∷ []) us)) good in
        elim (cases_lt u v) [
          | inl smaller ↦
              inl (in_left (before ++ u ∷ us) cs new (subst (λ (x : List ℕ). IsAmongChoices x cs) (append_assoc before (u ∷ []) us) (h.none_missing u from smaller us fits good_there)))
          | inr most ↦
              elim (cases_lt v u) [
                | inl greater ↦ inr (each_both (λ c. ComesBefore c (before ++ u ∷ us)) cs new (under u us most) (new_below u us greater))
                | inr least ↦
                    let e : v ≡ u = omega (arith, most, least) in
                    subst (λ (x : ℕ). IsAmongChoices (before ++ x ∷ us) (cs ++ new) ⊎ IsAbove (cs ++ new) (before ++ x ∷ us)) e
                    (here_missing us (k.none_missing us fits (subst (λ (x : ℕ). wanted ((before ++ x ∷ []) ++ us)) (sym e) good_there)))
              ]
        ]

-- ---- verdicts on a part

-- no choice that begins so is wanted
pub swept_none : {P : Type 0} (kept : List ℕ → Type 0) (shown : List ℕ → P → Type 0) (wide : List ℕ → ℕ → Type 0) (wanted : List ℕ → Type 0) (spans : List Span) (most : ℕ) (before part : List ℕ) (old : List (List ℕ)) (v : Verdict P)
    → length old ≤ most → part ≡ before → v ≡ verdict.No → VerdictIs kept shown wide wanted part v → Sweeps kept wide wanted spans most before before old old sweep.Done
swept_none {P} kept shown wide wanted spans most before part old v few at is claim =
    let none = subst (λ (b : List ℕ). (rest : List ℕ) → wanted (b ++ rest) → ⊥) at (subst (λ (x : Verdict P). VerdictIs kept shown wide wanted part x) is claim) in
    (refl, ([], sym (append-nil old), record { whole = tt; ascending = tt; none_missing = λ d fits good. absurd (none d good) }), few)

pub swept_wide : {P : Type 0} (kept : List ℕ → Type 0) (shown : List ℕ → P → Type 0) (wide : List ℕ → ℕ → Type 0) (wanted : List ℕ → Type 0) (spans : List Span) (most : ℕ) (before part : List ℕ) (old : List (List ℕ)) (v : Verdict P) (w : ℕ)
    → part ≡ before → v ≡ verdict.TooWide w → VerdictIs kept shown wide wanted part v → Sweeps kept wide wanted spans most before before old old (sweep.TooWide w)
swept_wide {P} kept shown wide wanted spans most before part old v w at is claim =
    ([], no_start spans, sym (append-nil before), subst (λ (b : List ℕ). wide b w) at (subst (λ (x : Verdict P). VerdictIs kept shown wide wanted part x) is claim))
  where
    no_start : (ns : List Span) → Starts ns []
    no_start [] = tt
    no_start (n ∷ ns) = tt

-- ---- a whole choice

is_whole : (kept : List ℕ → Type 0) (before : List ℕ) → kept before → IsKeptWhole kept before [] before
is_whole kept before here = record { rest = []; is = sym (append-nil before); fits = tt; each = here }

no_more : (before d : List ℕ) → FitsSpans [] d → before ++ d ≡ before
no_more before [] fits = append-nil before
no_more before (v ∷ d) fits = absurd fits

found_so : (kept : List ℕ → Type 0) (wide : List ℕ → ℕ → Type 0) (wanted : List ℕ → Type 0) (most : ℕ) (before : List ℕ) (old new : List (List ℕ)) (s : Swept) → kept before
    → FoundIs most before old new s → Sweeps kept wide wanted [] most before before old new s
found_so kept wide wanted most before old new sweep.Done here (is, few) = (
  refl,
  (
    before ∷ [],
    is,
    record { whole = (is_whole kept before here, tt); ascending = (tt, tt); none_missing = λ d fits good. inl (sym (no_more before d fits)) },
  ),
  few,
)
found_so kept wide wanted most before old new sweep.Full here (is, full) = (
  (
    [],
    is ∙ sym (append-nil old),
    record { whole = tt; ascending = tt; none_missing = λ d fits good. inr tt; next = before; next_whole = is_whole kept before here; next_above = tt },
  ),
  full,
)
found_so kept wide wanted most before old new (sweep.TooWide w) here is = absurd is

none_left : (ns : List Span) → length ns < 1 → ns ≡ []
none_left [] few = refl
none_left (n ∷ ns) few = absurd (omega (arith, few))

pub found_here : {E : Type 0} (r : Result Swept E) (kept : List ℕ → Type 0) (wide : List ℕ → ℕ → Type 0) (wanted : List ℕ → Type 0) (spans : List Span) (most : ℕ) (before part : List ℕ) (old new : List (List ℕ))
    → length spans < 1 → part ≡ before → kept before → IfOk r (FoundIs most part old new) → IfOk r (Sweeps kept wide wanted spans most before before old new)
found_here (Err e) kept wide wanted spans most before part old new none at here h = tt
found_here (Ok s) kept wide wanted spans most before part old new none at here h =
    subst (λ (ns : List Span). Sweeps kept wide wanted ns most before before old new s) (sym (none_left spans none))
    (found_so kept wide wanted most before old new s here (subst (λ (c : List ℕ). FoundIs most c old new s) at h))

-- ---- the loop over the numbers of the first span

-- what was found with the numbers before this one
abbrev pub FoundUnder : (List ℕ → Type 0) → (List ℕ → Type 0) → List ℕ → Span → List Span → ℕ → List (List ℕ) → List (List ℕ) → Type 0
FoundUnder kept wanted before span rest v old new = (cs : List (List ℕ)) × (new ≡ old ++ cs) × AreUnder kept wanted before span rest v cs

pub under_start : (kept wanted : List ℕ → Type 0) (before : List ℕ) (span : Span) (rest : List Span) (old : List (List ℕ)) → FoundUnder kept wanted before span rest span.from old old
under_start kept wanted before span rest old = ([], sym (append-nil old), none_under kept wanted before span rest)

joined : (old mid new cs more : List (List ℕ)) → mid ≡ old ++ cs → new ≡ mid ++ more → new ≡ old ++ (cs ++ more)
joined old mid new cs more h k = k ∙ ap (λ (x : List (List ℕ)). x ++ more) h ∙ append_assoc old cs more

-- all choices with this number were tried
pub under_more : (kept : List ℕ → Type 0) (wide : List ℕ → ℕ → Type 0) (wanted : List ℕ → Type 0) (before now mid after : List ℕ) (span : Span) (rest : List Span) (most v : ℕ) (old found new : List (List ℕ)) (s : Swept)
    → span.from ≤ v → v < span.to → now ≡ before → mid ≡ now ++ v ∷ [] → s ≡ sweep.Done → FoundUnder kept wanted before span rest v old found
    → Sweeps kept wide wanted rest most mid after found new s → FoundUnder kept wanted before span rest (v + 1) old new
under_more kept wide wanted before now mid after span rest most v old found new s low high same put is h k =
    let at : mid ≡ before ++ v ∷ [] = put ∙ ap (λ (xs : List ℕ). xs ++ v ∷ []) same in
    let done = subst (λ (m : List ℕ). Sweeps kept wide wanted rest most m after found new sweep.Done) at
    (subst (λ (x : Swept). Sweeps kept wide wanted rest most mid after found new x) is k)
    in
    (h.0 ++ done.1.0, joined old found new h.0 done.1.0 h.1 done.1.1, more_under kept wanted before span rest v h.0 done.1.0 low high h.2 done.1.2)

-- and what is known of the other two after it
pub after_more : (kept : List ℕ → Type 0) (wide : List ℕ → ℕ → Type 0) (wanted : List ℕ → Type 0) (rest : List Span) (most : ℕ) (mid after : List ℕ) (found new : List (List ℕ)) (s : Swept)
    → s ≡ sweep.Done → Sweeps kept wide wanted rest most mid after found new s → (after ≡ mid) × (length new ≤ most)
after_more kept wide wanted rest most mid after found new s is k =
    let done = subst (λ (x : Swept). Sweeps kept wide wanted rest most mid after found new x) is k in (done.0, done.2)

-- all but the last of a list
all_but_last : (xs : List ℕ) (x : ℕ) → take (length (xs ++ x ∷ []) - 1) (xs ++ x ∷ []) ≡ xs
all_but_last xs x =
    let e : length (xs ++ x ∷ []) - 1 ≡ length xs = omega (arith, length-append xs (x ∷ [])) in
    rw e (take-append_seam xs (x ∷ []))

-- the number is taken away again
pub popped : (before now mid after rest : List ℕ) (v n : ℕ) → now ≡ before → mid ≡ now ++ v ∷ [] → after ≡ mid → n ≡ length after → rest ≡ take (n - 1) after → rest ≡ before
popped before now mid after rest v n kept put same count cut =
    cut ∙ ap (λ k. take (k - 1) after) count ∙ ap (λ (xs : List ℕ). take (length xs - 1) xs) (same ∙ put) ∙ all_but_last now v ∙ kept

-- all numbers were tried
pub under_all : (kept : List ℕ → Type 0) (wide : List ℕ → ℕ → Type 0) (wanted : List ℕ → Type 0) (before after : List ℕ) (spans : List Span) (most v : ℕ) (old new : List (List ℕ)) → 1 ≤ length spans
    → (get_or spans 0 none_span).to ≤ v → kept before → after ≡ before → length new ≤ most → FoundUnder kept wanted before (get_or spans 0 none_span) (tail_of spans) v old new
    → Sweeps kept wide wanted spans most before after old new sweep.Done
under_all kept wide wanted before after spans most v old new some last here same few h =
    subst (λ (ns : List Span). Sweeps kept wide wanted ns most before after old new sweep.Done) (sym (split spans some))
    (same, (h.0, h.1, all_under kept wanted before (get_or spans 0 none_span) (tail_of spans) v h.0 here last h.2), few)

-- one more was found than the most
pub under_full : (kept : List ℕ → Type 0) (wide : List ℕ → ℕ → Type 0) (wanted : List ℕ → Type 0) (before mid after : List ℕ) (spans : List Span) (most v : ℕ) (old found new : List (List ℕ)) (s : Swept) → 1 ≤ length spans
    → (get_or spans 0 none_span).from ≤ v → v < (get_or spans 0 none_span).to → kept before → mid ≡ before ++ v ∷ [] → s ≡ sweep.Full
    → FoundUnder kept wanted before (get_or spans 0 none_span) (tail_of spans) v old found → Sweeps kept wide wanted (tail_of spans) most mid after found new s
    → Sweeps kept wide wanted spans most before after old new sweep.Full
under_full kept wide wanted before mid after spans most v old found new s some low high here at is h k =
    let full = subst (λ (m : List ℕ). Sweeps kept wide wanted (tail_of spans) most m after found new sweep.Full) at
    (subst (λ (x : Swept). Sweeps kept wide wanted (tail_of spans) most mid after found new x) is k)
    in
    subst (λ (ns : List Span). Sweeps kept wide wanted ns most before after old new sweep.Full) (sym (split spans some)) (
      (
        h.0 ++ full.0.0,
        joined old found new h.0 full.0.0 h.1 full.0.1,
        first_under kept wanted before (get_or spans 0 none_span) (tail_of spans) v h.0 full.0.0 here low high h.2 full.0.2,
      ),
      full.1,
    )

-- a part with this number is too wide
pub under_wide : (kept : List ℕ → Type 0) (wide : List ℕ → ℕ → Type 0) (wanted : List ℕ → Type 0) (before mid after : List ℕ) (spans : List Span) (most v : ℕ) (old found new : List (List ℕ)) (s : Swept) (w : ℕ) → 1 ≤ length spans
    → (get_or spans 0 none_span).from ≤ v → v < (get_or spans 0 none_span).to → mid ≡ before ++ v ∷ [] → s ≡ sweep.TooWide w
    → Sweeps kept wide wanted (tail_of spans) most mid after found new s → Sweeps kept wide wanted spans most before after old new (sweep.TooWide w)
under_wide kept wide wanted before mid after spans most v old found new s w some low high at is k =
    let stop = subst (λ (m : List ℕ). Sweeps kept wide wanted (tail_of spans) most m after found new (sweep.TooWide w)) at
    (subst (λ (x : Swept). Sweeps kept wide wanted (tail_of spans) most mid after found new x) is k)
    in
    subst (λ (ns : List Span). Sweeps kept wide wanted ns most before after old new (sweep.TooWide w)) (sym (split spans some))
    (v ∷ stop.0, (low, high, stop.1), stop.2 ∙ append_assoc before (v ∷ []) stop.0, stop.3)
