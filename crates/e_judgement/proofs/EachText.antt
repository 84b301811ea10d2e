-- Each derivation text has a judgement.
use Rattle.std.proofs.Common.{◌≡◌, inl, inr, ℕ, zero, suc, ◌+◌, ◌<◌, ◌≤◌, List, [], ◌∷◌, length, Option, Some, None, Result, Ok, Err, refl, ap, arith}
use Rattle.std.specs.Prelude.{option_and_then}
use Rattle.e_clause.specs.declared.cert.Version.{Version}
use Rattle.e_theorem.specs.Statements.{as_view}
use Rattle.e_deriv.specs.Certified.{is_certified, derivation_steps, verdict}
use Rattle.e_line.specs.Reading.{◌>>=◌}
use Rattle.e_names.specs.TitledStatements.{TitledStatement, stated_by}
use Rattle.e_book.specs.TheoremViews.{TheoremView}
use Rattle.e_book.specs.Grammar.{Rest, theorem_ended}
use Rattle.e_line.proofs.base.Bound.{bind_ok}
use Rattle.e_read.specs.Text.{TextPiece, Derived, Last, Block, at_start, with_line, garbled_at, or_on, is_end, piece_from}
use Rattle.e_read.proofs.Bridge.{with_certs}
use Rattle.e_read.proofs.TakenLines.{either}
use Rattle.e_verify.proofs.checking.PassedLines.{all_pass}
use Rattle.e_judgement.specs.declared.judgement.Judgement.{Judgement}
use Rattle.e_judgement.specs.declared.judgement.Judgement.TheVariants.{Bad, Garbled}
use Rattle.e_judgement.specs.Judged.{with_theorem, ReadsNext, IsCertified, Passes, JudgedAfter, Closes, IsJudged, version_of, JudgedAfterHead, JudgesLines, lines_of_text}
use Rattle.e_judgement.specs.Laws.{EachTextIsJudged}

-- ---- fewer lines are left after what is read

abbrev Found : Type 0
Found = TextPiece × Rest

abbrev found : TextPiece → Rest → Result Found ℕ
found p rest = Ok (p, rest)

same_rest : (p q : TextPiece) (xs ys : Rest) → found p xs ≡ found q ys → xs ≡ ys
same_rest p q xs ys e = ap (λ (a : Found). a.1) (inside (p, xs) (q, ys) e) where
  inside : (a b : Found) → let x : Result Found ℕ = Ok a in x ≡ Ok b → a ≡ b
  inside a b e = cc

shorter_on : (t : Option TheoremView) (b : Block) (lines rest : Rest) (more : Result Found ℕ) (p : TextPiece) → or_on t b.kept lines more ≡ found p rest → (more ≡ found p rest → length rest < length lines) → length rest < suc (length lines)
shorter_on None b lines rest more p e h = omega (arith, h e)
shorter_on (Some x) b lines rest more p e h = omega (arith, ap length (same_rest (Derived (with_certs x b.kept)) p lines rest e))

shorter : (known : List TitledStatement) (last : ℕ) (b : Block) (lines : Rest) (p : TextPiece) (rest : Rest) → piece_from known last b lines ≡ found p rest → length rest < length lines
unfolding piece_from
shorter known last b [] p rest e = absurd cc
shorter known last b (Err f ∷ lines) p rest e = absurd cc
shorter known last b (Ok l ∷ lines) p rest e =
    let next : Result Block ℕ = garbled_at l.number (with_line known b l) in
    let then : Block → Result Found ℕ = λ x. or_on (option_and_then theorem_ended x.said) x.kept lines (piece_from known last x lines) in
    elim (either (is_end known b.said l) (found Last lines) (next >>= then) (found p rest) e) [
      | inl q ↦ omega (arith, ap length (same_rest Last p lines rest q.1))
      | inr q ↦
          let x = bind_ok next then (p, rest) q.1 in
          shorter_on (option_and_then theorem_ended x.0.said) x.0 lines rest (piece_from known last x.0 lines) p x.2 (λ h. shorter known last x.0 lines p rest h)
    ]

module _ (v : Version) where
  -- ---- theorems one after another

  -- with this known, these lines are judged in some way
  abbrev Runs : ℕ → List TitledStatement → Rest → Type 0
  Runs last known lines =
      (j : Judgement) × (ts : List TheoremView) × (now : List TitledStatement) × (rest : Rest) × Passes v last known lines ts now rest × Closes v last now rest j

  ends_here : (last : ℕ) (known : List TitledStatement) (lines : Rest) (j : Judgement) → Closes v last known lines j → Runs last known lines
  ends_here last known lines j c = (j, [], known, lines, (refl, refl), c)

  goes_on : (last : ℕ) (known : List TitledStatement) (lines after : Rest) (t : TheoremView) → ReadsNext v last known lines t after → IsCertified known t → Runs last (with_theorem known t) after → Runs last known lines
  goes_on last known lines after t reads certified r = (r.0, t ∷ r.1, r.2, r.3, (after, reads, certified, r.4), r.5)

  by_verdict : (last : ℕ) (known : List TitledStatement) (lines after : Rest) (t : TheoremView) → ReadsNext v last known lines t after → (a : Result ℕ ℕ) → verdict (stated_by known) (as_view t.statement) t.script ≡ a
      → Runs last (with_theorem known t) after → Runs last known lines
  by_verdict last known lines after t reads (Ok n) is more =
      let before = stated_by known in
      goes_on last known lines after t reads (all_pass (is_certified before) (derivation_steps before (as_view t.statement) t.script) 1 n is) more
  by_verdict last known lines after t reads (Err step) is more = ends_here last known lines (Bad t.title step) (inr (inr (t, after, step, reads, is, refl)))

  by_piece : (last : ℕ) (known : List TitledStatement) (lines : Rest) (a : Result Found ℕ) → piece_from known last (at_start v) lines ≡ a
      → ((t : TheoremView) (after : Rest) → ReadsNext v last known lines t after → Runs last (with_theorem known t) after) → Runs last known lines
  by_piece last known lines (Err line) e more = ends_here last known lines (Garbled line) (inr (inl (line, e, refl)))
  by_piece last known lines (Ok (Last, rest)) e more = ends_here last known lines (JudgedAfter (length known) rest) (inl (rest, e, refl))
  by_piece last known lines (Ok (Derived t, after)) e more =
      by_verdict last known lines after t e (verdict (stated_by known) (as_view t.statement) t.script) refl (more t after e)

  by_size : (size last : ℕ) (known : List TitledStatement) (lines : Rest) → length lines ≤ size → Runs last known lines
  by_size zero last known lines le =
      by_piece last known lines (piece_from known last (at_start v) lines) refl (λ t after r. absurd (omega (arith, le, shorter known last (at_start v) lines (Derived t) after r)))
  by_size (suc size) last known lines le =
      by_piece last known lines (piece_from known last (at_start v) lines) refl
      (λ t after r. by_size size last (with_theorem known t) after (omega (arith, le, shorter known last (at_start v) lines (Derived t) after r)))

  -- ---- the whole

  judged_after : (last : ℕ) (lines : Rest) → (j : Judgement) × IsJudged v last lines j
  judged_after last lines =
      let r = by_size (length lines) last [] lines (omega arith) in
      (r.0, record { theorems = r.1; known = r.2; rest = r.3; passes = r.4; closes = r.5 })

by_version : (o : Option Version) (lines : Rest) → (j : Judgement) × JudgedAfterHead o lines j
by_version None lines = (Garbled 1, refl)
by_version (Some v) lines = judged_after v (2 + length lines) lines

by_lines : (lines : Rest) → (j : Judgement) × JudgesLines lines j
by_lines [] = (Garbled 1, refl)
by_lines (Err f ∷ lines) = (Garbled 1, refl)
by_lines (Ok l ∷ lines) = by_version (version_of l) lines

pub each_text_is_judged : EachTextIsJudged
each_text_is_judged text = by_lines (lines_of_text text)
