-- Choices, part by part.
use Rattle.std.proofs.Common.{◌≡◌, ℕ, List, [], ◌∷◌, ◌++◌, ◌<◌, ◌≤◌, ◌-◌, Result, Ok, Err, OnErr, inl, inr, sym, subst, ap, ◌∙◌, arith, length, take, drop, get_or}
use Rattle.std.proofs.lemmas.List.{append_assoc, append-nil, take_all}
use Rattle.e_transfer.specs.declared.walk.Span.{Span}
use Rattle.e_transfer.specs.declared.walk.Verdict.{Verdict}
use Rattle.e_transfer.specs.declared.walk.Verdict.TheVariants as verdict
use Rattle.e_transfer.specs.Choice.{FitsSpans, NoneWanted, NoneBelow}
use Rattle.e_transfer.specs.Verdicts.{VerdictIs, SearchIs}

-- what a refused search leaves: more numbers may hold after
pub refused_grows : {T E : Type 0} (r : Result T E) (old new more : List ℕ) → new ≡ old ++ more → OnErr r ((rest : List ℕ) × (new ≡ old ++ rest))
refused_grows (Ok x) old new more is = tt
refused_grows (Err e) old new more is = (more, is)

-- the same where a number was put after before
pub grown_after : {T E : Type 0} (r : Result T E) (old before pushed new rest : List ℕ) (v : ℕ) → before ≡ old → pushed ≡ before ++ v ∷ [] → new ≡ pushed ++ rest → OnErr r ((more : List ℕ) × (new ≡ old ++ more))
grown_after r old before pushed new rest v same put grew =
    refused_grows r old new (v ∷ rest)
    (grew ∙ ap (λ (xs : List ℕ). xs ++ rest) (put ∙ ap (λ (xs : List ℕ). xs ++ v ∷ []) same) ∙ append_assoc old (v ∷ []) rest)

-- the three predicates of a check
abbrev pub Kept : Type 1
Kept = List ℕ → Type 0

abbrev pub Shown : Type 0 → Type 1
Shown P = List ℕ → P → Type 0

abbrev pub Wide : Type 1
Wide = List ℕ → ℕ → Type 0

pub none_below_empty : (wanted : Kept) (before : List ℕ) (spans : List Span) → NoneBelow wanted before spans []
none_below_empty wanted before spans [] fits below good = below
none_below_empty wanted before spans (v ∷ vs) fits below good = below

-- no choice with a number below this one first is wanted
abbrev pub NoneUnder : Kept → List ℕ → List Span → ℕ → ℕ → Type 0
NoneUnder wanted before rest from v = (u : ℕ) → from ≤ u → u < v → (d : List ℕ) → FitsSpans rest d → wanted ((before ++ u ∷ []) ++ d) → ⊥

-- a choice after a number
after_chosen : (wanted : Kept) (before : List ℕ) (v : ℕ) (vs : List ℕ) → wanted (before ++ v ∷ vs) → wanted ((before ++ v ∷ []) ++ vs)
after_chosen wanted before v vs good = subst (λ (l : List ℕ). wanted l) (sym (append_assoc before (v ∷ []) vs)) good

pub under_all : (wanted : Kept) (before : List ℕ) (rest : List Span) (n : Span) → NoneUnder wanted before rest n.from n.to → NoneWanted wanted before (n ∷ rest)
under_all wanted before rest n none [] fits good = fits
under_all wanted before rest n none (v ∷ vs) fits good = none v fits.0 fits.1 vs fits.2 (after_chosen wanted before v vs good)

pub below_one : (wanted : Kept) (before : List ℕ) (rest : List Span) (n : Span) (v : ℕ) (c : List ℕ) → NoneUnder wanted before rest n.from v →
    NoneBelow wanted (before ++ v ∷ []) rest c → NoneBelow wanted before (n ∷ rest) (v ∷ c)
below_one wanted before rest n v c none below [] fits under good = fits
below_one wanted before rest n v c none below (u ∷ us) fits (inl less) good = none u fits.0 less us fits.2 (after_chosen wanted before u us good)
below_one wanted before rest n v c none below (u ∷ us) fits (inr (same, under)) good =
    below us fits.2 under (subst (λ (x : ℕ). wanted ((before ++ x ∷ []) ++ us)) same (after_chosen wanted before u us good))

-- ---- the spans after the first

abbrev pub none_span : Span
none_span = record { from = 0; to = 0 }

abbrev pub tail_of : List Span → List Span
tail_of spans = take (length spans - 1) (drop 1 spans)

pub split : (spans : List Span) → 1 ≤ length spans → spans ≡ get_or spans 0 none_span ∷ tail_of spans
split [] some = absurd (omega (arith, some))
split (n ∷ ns) some = ap (λ (l : List Span). n ∷ l) (sym (take_all (length (n ∷ ns) - 1) ns (omega arith)))

pub all_refused : (wanted : Kept) (before : List ℕ) (spans : List Span) (n : ℕ) → 1 ≤ length spans → (get_or spans 0 none_span).to ≤ n
    → NoneUnder wanted before (tail_of spans) (get_or spans 0 none_span).from n → NoneWanted wanted before spans
all_refused wanted before spans n some most none =
    subst (λ (s : List Span). NoneWanted wanted before s) (sym (split spans some))
    (under_all wanted before (tail_of spans) (get_or spans 0 none_span) (λ u from less. none u from (omega (arith, less, most))))

-- ---- verdicts

pub verdict_yes : {P : Type 0} (kept : Kept) (shown : Shown P) (wide : Wide) (wanted : Kept) (before part : List ℕ) (v : Verdict P) (p : P) →
    part ≡ before → v ≡ verdict.Yes p → VerdictIs kept shown wide wanted part v → kept before
verdict_yes {P} kept shown wide wanted before part v p at is claim =
    subst (λ (b : List ℕ). kept b) at (subst (λ (x : Verdict P). VerdictIs kept shown wide wanted part x) is claim).0

-- a whole choice is found, and none is below it
pub found_whole : {P : Type 0} (kept : Kept) (shown : Shown P) (wide : Wide) (wanted : Kept) (before part : List ℕ) (spans : List Span) (v : Verdict P) (p : P) →
    part ≡ before → length spans < 1 → v ≡ verdict.Yes p → VerdictIs kept shown wide wanted part v → SearchIs kept shown wide wanted spans before before (verdict.Yes p)
found_whole {P} kept shown wide wanted before part (n ∷ ns) v p at none is claim = absurd (omega (arith, none))
found_whole {P} kept shown wide wanted before part [] v p at none is claim =
    let all = subst (λ (b : List ℕ). VerdictIs kept shown wide wanted b (verdict.Yes p)) at (subst (λ (x : Verdict P). VerdictIs kept shown wide wanted part x) is claim) in
    ([], tt, all.0, sym (append-nil before), all.1, none_below_empty wanted before [])

pub verdict_no : {P : Type 0} (kept : Kept) (shown : Shown P) (wide : Wide) (wanted : Kept) (before part : List ℕ) (spans : List Span) (v : Verdict P) →
    part ≡ before → v ≡ verdict.No → VerdictIs kept shown wide wanted part v → NoneWanted wanted before spans
verdict_no {P} kept shown wide wanted before part spans v at is claim d fits good =
    subst (λ (b : List ℕ). (rest : List ℕ) → wanted (b ++ rest) → ⊥) at (subst (λ (x : Verdict P). VerdictIs kept shown wide wanted part x) is claim) d good

pub verdict_wide : {P : Type 0} (kept : Kept) (shown : Shown P) (wide : Wide) (wanted : Kept) (before part : List ℕ) (spans : List Span) (v : Verdict P) (w : ℕ) →
    part ≡ before → v ≡ verdict.TooWide w → VerdictIs kept shown wide wanted part v → SearchIs kept shown wide wanted spans before before (verdict.TooWide w)
verdict_wide {P} kept shown wide wanted before part spans v w at is claim = (
  [],
  tt,
  sym (append-nil before),
  subst (λ (b : List ℕ). wide b w) at (subst (λ (x : Verdict P). VerdictIs kept shown wide wanted part x) is claim),
  none_below_empty wanted before spans,
)

-- ---- one span further

pub found_under : {P : Type 0} (kept : Kept) (shown : Shown P) (wide : Wide) (wanted : Kept) (before after : List ℕ) (rest : List Span) (n : Span) (v : ℕ) (p : P) →
    n.from ≤ v → v < n.to → kept before → NoneUnder wanted before rest n.from v
    → SearchIs kept shown wide wanted rest (before ++ v ∷ []) after (verdict.Yes p) → SearchIs kept shown wide wanted (n ∷ rest) before after (verdict.Yes p)
found_under kept shown wide wanted before after rest n v p from less here none (c, fits, good, ends, proof, below) =
    (v ∷ c, (from, less, fits), (here, good), ends ∙ append_assoc before (v ∷ []) c, proof, below_one wanted before rest n v c none below)

pub stop_under : {P : Type 0} (kept : Kept) (shown : Shown P) (wide : Wide) (wanted : Kept) (before after : List ℕ) (rest : List Span) (n : Span) (v : ℕ) (w : ℕ) →
    n.from ≤ v → v < n.to → NoneUnder wanted before rest n.from v
    → SearchIs kept shown wide wanted rest (before ++ v ∷ []) after (verdict.TooWide w) → SearchIs kept shown wide wanted (n ∷ rest) before after (verdict.TooWide w)
stop_under kept shown wide wanted before after rest n v w from less none (c, fits, ends, is, below) =
    (v ∷ c, (from, less, fits), ends ∙ append_assoc before (v ∷ []) c, is, below_one wanted before rest n v c none below)

pub found_one : {P : Type 0} (kept : Kept) (shown : Shown P) (wide : Wide) (wanted : Kept) (before mid after : List ℕ) (spans : List Span) (v : ℕ) (o : Verdict P) (p : P) →
    1 ≤ length spans → (get_or spans 0 none_span).from ≤ v → v < (get_or spans 0 none_span).to → kept before
    → NoneUnder wanted before (tail_of spans) (get_or spans 0 none_span).from v → mid ≡ before ++ v ∷ [] → o ≡ verdict.Yes p
    → SearchIs kept shown wide wanted (tail_of spans) mid after o → SearchIs kept shown wide wanted spans before after (verdict.Yes p)
found_one {P} kept shown wide wanted before mid after spans v o p some from less here none at is claim =
    subst (λ (s : List Span). SearchIs kept shown wide wanted s before after (verdict.Yes p)) (sym (split spans some))
    (found_under kept shown wide wanted before after (tail_of spans) (get_or spans 0 none_span) v p from less here none
    (subst (λ (m : List ℕ). SearchIs kept shown wide wanted (tail_of spans) m after (verdict.Yes p)) at
    (subst (λ (x : Verdict P). SearchIs kept shown wide wanted (tail_of spans) mid after x) is claim)))

pub stop_one : {P : Type 0} (kept : Kept) (shown : Shown P) (wide : Wide) (wanted : Kept) (before mid after : List ℕ) (spans : List Span) (v : ℕ) (o : Verdict P) (w : ℕ) →
    1 ≤ length spans → (get_or spans 0 none_span).from ≤ v → v < (get_or spans 0 none_span).to
    → NoneUnder wanted before (tail_of spans) (get_or spans 0 none_span).from v → mid ≡ before ++ v ∷ [] → o ≡ verdict.TooWide w
    → SearchIs kept shown wide wanted (tail_of spans) mid after o → SearchIs kept shown wide wanted spans before after (verdict.TooWide w)
stop_one {P} kept shown wide wanted before mid after spans v o w some from less none at is claim =
    subst (λ (s : List Span). SearchIs kept shown wide wanted s before after (verdict.TooWide w)) (sym (split spans some))
    (stop_under kept shown wide wanted before after (tail_of spans) (get_or spans 0 none_span) v w from less none
    (subst (λ (m : List ℕ). SearchIs kept shown wide wanted (tail_of spans) m after (verdict.TooWide w)) at
    (subst (λ (x : Verdict P). SearchIs kept shown wide wanted (tail_of spans) mid after x) is claim)))
