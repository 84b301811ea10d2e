-- The theorems passed so far.
use Rattle.std.proofs.Common.{◌≡◌, ℕ, ◌+◌, List, [], ◌∷◌, ◌++◌, length, Result, Ok, Err, refl, sym, ap, subst, ◌∙◌}
use Rattle.std.specs.Prelude.{IsTrue, IfOk, Option, Some, None}
use Rattle.std.specs.List.{list_all}
use Rattle.e_text.specs.Lines.{LineView, Ahead}
use Rattle.e_clause.specs.declared.cert.Version.{Version}
use Rattle.e_theorem.specs.Statements.{as_view}
use Rattle.e_deriv.specs.Fitting.{is_small_statement}
use Rattle.e_names.specs.TitledStatements.{TitledStatement, stated_by}
use Rattle.e_book.specs.TheoremViews.{TheoremView}
use Rattle.e_book.specs.Grammar.{last_line, Rest}
use Rattle.e_book.proofs.fit_theorems.Fitting.{one_more_stated}
use Rattle.e_read.specs.Text.{at_start, piece_from}
use Rattle.e_judgement.specs.declared.judgement.Judgement.{Judgement}
use Rattle.e_judgement.specs.declared.judgement.Judgement.TheVariants.{Garbled}
use Rattle.e_judgement.specs.Steps.{IsHeadFound, version_at}
use Rattle.e_judgement.specs.Judged.{with_theorem, ReadsNext, IsCertified, Passes, Closes, IsJudged, version_of, JudgedAfterHead, JudgesLines, lines_of_text, JudgesText}

module _ (v : Version) where
  pub record History (last : ℕ) (lines : Rest) (known : List TitledStatement) (rest : Rest) : Type 0 where
    pub theorems : List TheoremView
    pub passes : Passes v last [] lines theorems known rest

  -- one more theorem passes
  pub passes_more : (last : ℕ) (known : List TitledStatement) (lines : Rest) (ts : List TheoremView) (now : List TitledStatement) (rest : Rest) (t : TheoremView) (after : Rest)
      → Passes v last known lines ts now rest → ReadsNext v last now rest t after → IsCertified now t
      → Passes v last known lines (ts ++ t ∷ []) (with_theorem now t) after
  passes_more last known lines [] now rest t after r h c = (
    after,
    subst (λ (k : List TitledStatement). ReadsNext v last k lines t after) (sym r.0) (ap (piece_from now last (at_start v)) r.1 ∙ h),
    subst (λ (k : List TitledStatement). IsCertified k t) (sym r.0) c,
    (ap (λ (k : List TitledStatement). with_theorem k t) r.0, refl),
  )
  passes_more last known lines (u ∷ us) now rest t after r h c =
      (r.0, r.1, r.2, passes_more last (with_theorem known u) r.0 us now rest t after r.3 h c)

  pub begins : (last : ℕ) (lines : Rest) → History last lines [] lines
  begins last lines = record { theorems = []; passes = (refl, refl) }

  pub goes_on : (last : ℕ) (lines : Rest) (known : List TitledStatement) (rest : Rest) (t : TheoremView) (after : Rest)
      → History last lines known rest → ReadsNext v last known rest t after → IsCertified known t → History last lines (with_theorem known t) after
  goes_on last lines known rest t after h r c =
      record { theorems = h.theorems ++ t ∷ []; passes = passes_more last [] lines h.theorems known rest t after h.passes r c }

  pub closes_so : (last : ℕ) (lines : Rest) (known : List TitledStatement) (rest : Rest) (j : Judgement) → History last lines known rest → Closes v last known rest j → IsJudged v last lines j
  closes_so last lines known rest j h c = record { theorems = h.theorems; known = known; rest = rest; passes = h.passes; closes = c }

  -- a theorem is read so of the text's lines
  pub reads_on : (known : List TitledStatement) (now last : ℕ) (rest : Rest) (t : TheoremView) (after : Rest) → now ≡ last → ReadsNext v now known rest t after → ReadsNext v last known rest t after
  reads_on known now last rest t after e h = subst (λ (k : ℕ). ReadsNext v k known rest t after) e h

  -- and so do they end
  pub closes_at : (known : List TitledStatement) (now last : ℕ) (rest : Rest) (j : Judgement) → now ≡ last → Closes v now known rest j → Closes v last known rest j
  closes_at known now last rest j e h = subst (λ (k : ℕ). Closes v k known rest j) e h

-- ---- the first line

head_judged : (lines : Rest) (l : LineView) (v : Version) (after : Ahead) (j : Judgement) → lines ≡ Ok l ∷ after.lines → after.line ≡ 2 → version_of l ≡ Some v → IsJudged v (last_line after) after.lines j → JudgesLines lines j
head_judged lines l v after j e n h k =
    subst (λ (x : Rest). JudgesLines x j) (sym e)
    (subst (λ (o : Option Version). JudgedAfterHead o after.lines j) (sym h) (subst (λ (m : ℕ). IsJudged v (m + length after.lines) after.lines j) n k))

text_judged : (text : List ℕ) (lines : Rest) (j : Judgement) → lines ≡ lines_of_text text → JudgesLines lines j → JudgesText text j
text_judged text lines j e h = subst (λ (x : Rest). JudgesLines x j) e h

-- the first line says the version
pub begins_so : (lines : Rest) (l : LineView) (after : Ahead) (found : Option Version) → lines ≡ Ok l ∷ after.lines → after.line ≡ 2 → found ≡ version_of l → IsHeadFound lines after found
begins_so lines l after found e n h = record { head = h ∙ sym (ap version_at e); taken = λ v t. (l, e, n) }

-- or there is none
pub begins_not : (lines : Rest) (after : Ahead) → version_at lines ≡ None → IsHeadFound lines after None
begins_not lines after h = record { head = sym h; taken = λ v t. absurd (none_is v t) } where
  none_is : (v : Version) → let x : Option Version = None in x ≡ Some v → ⊥
  none_is v t = absurd cc

-- without a head line the text is garbled at line 1
headless : (lines : Rest) → version_at lines ≡ None → JudgesLines lines (Garbled 1)
headless [] h = refl
headless (Err f ∷ lines) h = refl
headless (Ok l ∷ lines) h = subst (λ (o : Option Version). JudgedAfterHead o lines (Garbled 1)) (sym h) refl

pub not_begun : (text : List ℕ) (lines : Rest) (after : Ahead) (found : Option Version) → lines ≡ lines_of_text text → IsHeadFound lines after found → found ≡ None → JudgesText text (Garbled 1)
not_begun text lines after found is h e = text_judged text lines (Garbled 1) is (headless lines (sym h.head ∙ e))

-- where the text begins with its head line, the theorems decide, where memory lasts
pub begins_then : {E : Type 0} (text : List ℕ) (lines : Rest) (after : Ahead) (found : Option Version) (v : Version) (r : Result Judgement E) → lines ≡ lines_of_text text → IsHeadFound lines after found → found ≡ Some v
    → IfOk r (λ j. IsJudged v (last_line after) after.lines j) → IfOk r (λ j. JudgesText text j)
begins_then text lines after found v (Ok j) is h e k =
    let t = h.taken v e in
    text_judged text lines j is (head_judged lines t.0 v after j t.1 t.2 (sym (ap version_at t.1) ∙ sym h.head ∙ e) k)
begins_then text lines after found v (Err x) is h e k = tt

-- each known theorem is a statement, and so is one more
pub small_more : (known : List TitledStatement) (t : TheoremView) → IsTrue (list_all is_small_statement (stated_by known)) → IsTrue (is_small_statement (as_view t.statement)) → IsTrue (list_all is_small_statement (stated_by (with_theorem known t)))
small_more known t h k = one_more_stated known t.title t.statement h k
