-- A derivation text has one judgement.
use Rattle.std.proofs.Common.{◌≡◌, inl, inr, ℕ, ◌+◌, Bool, true, false, true≢false, cond, ◌&&◌, List, [], ◌∷◌, length, Result, Ok, Err, sym, ap, subst, ◌∙◌}
use Rattle.std.specs.Prelude.{Option, Some, None}
use Rattle.std.specs.List.{list_all}
use Rattle.e_clause.specs.declared.cert.Version.{Version}
use Rattle.e_theorem.specs.Statements.{as_view}
use Rattle.e_deriv.specs.PlacedSteps.{PlacedStep, first_failure}
use Rattle.e_deriv.specs.Certified.{is_certified, derivation_steps, verdict}
use Rattle.e_names.specs.TitledStatements.{TitledStatement, stated_by}
use Rattle.e_book.specs.TheoremViews.{TheoremView}
use Rattle.e_book.specs.Grammar.{Rest}
use Rattle.e_read.specs.Text.{TextPiece, Derived, Last}
use Rattle.e_read.proofs.Bridge.{no_last, derived_is}
use Rattle.e_judgement.specs.declared.judgement.Judgement.{Judgement}
use Rattle.e_judgement.specs.declared.judgement.Judgement.TheVariants.{Bad, Garbled}
use Rattle.e_judgement.specs.Judged.{with_theorem, ReadsNext, IsCertified, Passes, JudgedAfter, Closes, IsJudged, version_of, JudgedAfterHead, JudgesLines, JudgesText, lines_of_text}

-- what was read, and the lines after it
abbrev Found : Type 0
Found = TextPiece × Rest

-- what reading gives
abbrev Answer : Type 0
Answer = Result Found ℕ

abbrev found : TheoremView → Rest → Answer
found t rest = Ok (Derived t, rest)

abbrev ended : Rest → Answer
ended rest = Ok (Last, rest)

abbrev broken : ℕ → Answer
broken line = Err line

inside : (a b : Found) → let x : Answer = Ok a in x ≡ Ok b → a ≡ b
inside a b e = cc

same_entry : (t u : TheoremView) (xs ys : Rest) → found t xs ≡ found u ys → t ≡ u
same_entry t u xs ys e = (derived_is t u xs ys e).0

same_rest : (t u : TheoremView) (xs ys : Rest) → found t xs ≡ found u ys → xs ≡ ys
same_rest t u xs ys e = (derived_is t u xs ys e).1

same_end : (xs ys : Rest) → ended xs ≡ ended ys → xs ≡ ys
same_end xs ys e = ap (λ (a : Found). a.1) (inside (Last, xs) (Last, ys) e)

same_line : (n m : ℕ) → broken n ≡ broken m → n ≡ m
same_line n m e = cc

found_not_ended : (t : TheoremView) (xs ys : Rest) → found t xs ≡ ended ys → ⊥
found_not_ended t xs ys e = no_last ys xs t (sym e)

found_not_broken : (t : TheoremView) (xs : Rest) (n : ℕ) → found t xs ≡ broken n → ⊥
found_not_broken t xs n e = absurd cc

ended_not_broken : (xs : Rest) (n : ℕ) → ended xs ≡ broken n → ⊥
ended_not_broken xs n e = absurd cc

abbrev fails_at : ℕ → Result ℕ ℕ
fails_at n = Err n

same_step : (n m : ℕ) → fails_at n ≡ fails_at m → n ≡ m
same_step n m e = cc

passes_not : (n k : ℕ) → let x : Result ℕ ℕ = Ok n in x ≡ fails_at k → ⊥
passes_not n k e = absurd cc

-- where each line passes there is no first failure
no_failure : (p : PlacedStep → Bool) (xs : List PlacedStep) (n k : ℕ) → list_all p xs ≡ true → first_failure p xs n ≡ Err k → ⊥
no_failure p [] n k h e = passes_not n k e
no_failure p (x ∷ xs) n k h e = by (p x) (λ good later. no_failure p xs (n + 1) k good later) h e
  where
    by : (b : Bool) → (list_all p xs ≡ true → first_failure p xs (n + 1) ≡ Err k → ⊥) → (b && list_all p xs) ≡ true → cond b (first_failure p xs (n + 1)) (fails_at n) ≡ fails_at k → ⊥
    by true more h e = more h e
    by false more h e = true≢false (sym h)

pub certified_no_failure : (known : List TitledStatement) (t : TheoremView) (step : ℕ) → IsCertified known t → verdict (stated_by known) (as_view t.statement) t.script ≡ Err step → ⊥
certified_no_failure known t step c e =
    no_failure (is_certified (stated_by known)) (derivation_steps (stated_by known) (as_view t.statement) t.script) 1 step c e

same_bad : (known : List TitledStatement) (t u : TheoremView) (n m : ℕ) → t ≡ u → verdict (stated_by known) (as_view t.statement) t.script ≡ Err n → verdict (stated_by known) (as_view u.statement) u.script ≡ Err m → Bad t.title n ≡ Bad u.title m
same_bad known t u n m e h k =
    let v = ap (λ (x : TheoremView). verdict (stated_by known) (as_view x.statement) x.script) e in
    let s = same_step n m (sym h ∙ v ∙ k) in
    ap (λ (x : TheoremView). Bad x.title n) e ∙ ap (Bad u.title) s

module _ (v : Version) where
  -- with the same known, the same lines end in one way
  one_close : (last : ℕ) (known : List TitledStatement) (lines : Rest) (a b : Judgement) → Closes v last known lines a → Closes v last known lines b → a ≡ b
  one_close last known lines a b (inl h) (inl k) = h.2 ∙ ap (JudgedAfter (length known)) (same_end h.0 k.0 (sym h.1 ∙ k.1)) ∙ sym k.2
  one_close last known lines a b (inl h) (inr (inl k)) = absurd (ended_not_broken h.0 k.0 (sym h.1 ∙ k.1))
  one_close last known lines a b (inl h) (inr (inr k)) = absurd (found_not_ended k.0 k.1 h.0 (sym k.3 ∙ h.1))
  one_close last known lines a b (inr (inl h)) (inl k) = absurd (ended_not_broken k.0 h.0 (sym k.1 ∙ h.1))
  one_close last known lines a b (inr (inl h)) (inr (inl k)) = h.2 ∙ ap Garbled (same_line h.0 k.0 (sym h.1 ∙ k.1)) ∙ sym k.2
  one_close last known lines a b (inr (inl h)) (inr (inr k)) = absurd (found_not_broken k.0 k.1 h.0 (sym k.3 ∙ h.1))
  one_close last known lines a b (inr (inr h)) (inl k) = absurd (found_not_ended h.0 h.1 k.0 (sym h.3 ∙ k.1))
  one_close last known lines a b (inr (inr h)) (inr (inl k)) = absurd (found_not_broken h.0 h.1 k.0 (sym h.3 ∙ k.1))
  one_close last known lines a b (inr (inr h)) (inr (inr k)) =
      h.5 ∙ same_bad known h.0 k.0 h.2 k.2 (same_entry h.0 k.0 h.1 k.1 (sym h.3 ∙ k.3)) h.4 k.4 ∙ sym k.5

  -- where the next theorem passes the lines do not end
  no_close : (last : ℕ) (known : List TitledStatement) (lines : Rest) (t : TheoremView) (after : Rest) (a : Judgement) → ReadsNext v last known lines t after → IsCertified known t → Closes v last known lines a → ⊥
  no_close last known lines t after a r c (inl h) = found_not_ended t after h.0 (sym r ∙ h.1)
  no_close last known lines t after a r c (inr (inl h)) = found_not_broken t after h.0 (sym r ∙ h.1)
  no_close last known lines t after a r c (inr (inr h)) =
      certified_no_failure known t h.2 c
      (ap (λ (x : TheoremView). verdict (stated_by known) (as_view x.statement) x.script) (same_entry t h.0 after h.1 (sym r ∙ h.3)) ∙ h.4)

  closes_at : (last : ℕ) (known now : List TitledStatement) (lines rest : Rest) (a : Judgement) → known ≡ now → lines ≡ rest → Closes v last now rest a → Closes v last known lines a
  closes_at last known now lines rest a e f h =
      subst (λ (k : List TitledStatement). Closes v last k lines a) (sym e) (subst (λ (l : Rest). Closes v last now l a) (sym f) h)

  passes_at : (last : ℕ) (known now : List TitledStatement) (lines after rest : Rest) (ts : List TheoremView) (t u : TheoremView) → u ≡ t → after ≡ lines
      → Passes v last (with_theorem known u) after ts now rest → Passes v last (with_theorem known t) lines ts now rest
  passes_at last known now lines after rest ts t u e f h =
      subst (λ (l : Rest). Passes v last (with_theorem known t) l ts now rest) f
      (subst (λ (x : TheoremView). Passes v last (with_theorem known x) after ts now rest) e h)

  -- the same lines are judged in one way
  one_way : (last : ℕ) (known : List TitledStatement) (lines : Rest) (ts us : List TheoremView) (k1 k2 : List TitledStatement) (r1 r2 : Rest) (a b : Judgement)
      → Passes v last known lines ts k1 r1 → Passes v last known lines us k2 r2 → Closes v last k1 r1 a → Closes v last k2 r2 b → a ≡ b
  one_way last known lines [] [] k1 k2 r1 r2 a b p q h k =
      one_close last known lines a b (closes_at last known k1 lines r1 a p.0 p.1 h) (closes_at last known k2 lines r2 b q.0 q.1 k)
  one_way last known lines [] (u ∷ us) k1 k2 r1 r2 a b p q h k =
      absurd (no_close last known lines u q.0 a q.1 q.2 (closes_at last known k1 lines r1 a p.0 p.1 h))
  one_way last known lines (t ∷ ts) [] k1 k2 r1 r2 a b p q h k =
      absurd (no_close last known lines t p.0 b p.1 p.2 (closes_at last known k2 lines r2 b q.0 q.1 k))
  one_way last known lines (t ∷ ts) (u ∷ us) k1 k2 r1 r2 a b p q h k =
      let e = sym q.1 ∙ p.1 in
      one_way last (with_theorem known t) p.0 ts us k1 k2 r1 r2 a b p.3
      (passes_at last known k2 p.0 q.0 r2 us t u (same_entry u t q.0 p.0 e) (same_rest u t q.0 p.0 e) q.3) h k

  one_judged : (last : ℕ) (lines : Rest) (a b : Judgement) → IsJudged v last lines a → IsJudged v last lines b → a ≡ b
  one_judged last lines a b p q = one_way last [] lines p.theorems q.theorems p.known q.known p.rest q.rest a b p.passes q.passes p.closes q.closes

-- and so are those after a head line
pub one_after_head : (o : Option Version) (lines : Rest) (a b : Judgement) → JudgedAfterHead o lines a → JudgedAfterHead o lines b → a ≡ b
one_after_head None lines a b h k = h ∙ sym k
one_after_head (Some v) lines a b h k = one_judged v (2 + length lines) lines a b h k

by_lines : (lines : Rest) (a b : Judgement) → JudgesLines lines a → JudgesLines lines b → a ≡ b
by_lines [] a b h k = h ∙ sym k
by_lines (Err f ∷ lines) a b h k = h ∙ sym k
by_lines (Ok l ∷ lines) a b h k = one_after_head (version_of l) lines a b h k

pub one_judgement : (text : List ℕ) (a b : Judgement) → JudgesText text a → JudgesText text b → a ≡ b
one_judgement text a b h k = by_lines (lines_of_text text) a b h k
