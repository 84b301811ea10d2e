-- The lines of blocks are read as their theorems, one after another.
use Rattle.std.proofs.Common.{◌≡◌, ℕ, ◌+◌, Bool, true, false, cond, List, [], ◌∷◌, ◌++◌, length, Result, Ok, Err, inl, inr, refl, sym, ap, subst, ◌∙◌, arith, append_assoc, length-append}
use Rattle.std.specs.List.{list_all}
use Rattle.std.proofs.lemmas.Bool.{and_from}
use Rattle.e_text.specs.Lines.{numbered_lines}
use Rattle.e_theorem.specs.Statements.{as_view}
use Rattle.e_deriv.specs.Script.{Script}
use Rattle.e_deriv.specs.PlacedSteps.{PlacedStep, first_failure}
use Rattle.e_deriv.specs.Certified.{is_certified, derivation_steps, verdict}
use Rattle.e_names.specs.TitledStatements.{TitledStatement, titled_statement, stated_by}
use Rattle.e_book.specs.TheoremViews.{TheoremView}
use Rattle.e_book.specs.Grammar.{Rest}
use Rattle.e_line.proofs.base.Bound.{same_bytes}
use Rattle.e_read.specs.Text.{Last, at_start, piece_from, last_line_of}
use Rattle.e_spell.specs.Spelling.{spelled_lines}
use Rattle.e_roundtrip.specs.Spelled.{ShowsEnded}
use Rattle.e_roundtrip.proofs.Texts.SpelledIsRead.{spelled_is_read}
use Rattle.e_judgement.specs.declared.judgement.Judgement.{Judgement}
use Rattle.e_judgement.specs.declared.judgement.Judgement.TheVariants.{Verified}
use Rattle.e_judgement.specs.Judged.{with_theorem, ReadsNext, Passes, EndsThere, Closes, IsJudged}
use Rattle.e_judgement.proofs.OneJudgement.{certified_no_failure}
use Rattle.e_roundtrip.specs.Written.{AllCanBeSpelled, AllCanBeVerified, judged_after, judgement_of, entry_with}
use Rattle.e_roundtrip.proofs.Lengths.BlockRooms.{lines_of_blocks}
use Rattle.e_clause.specs.declared.cert.Version.{Version}

-- ---- lines after one another

-- the lines of a list show its front, and what is left has numbers of its own
abbrev pub Shown : ℕ → List (List ℕ) → List (List ℕ) → Type 0
Shown k xs ys = (m : ℕ) × ShowsEnded (numbered_lines k (xs ++ ys)) xs (numbered_lines m ys)

-- each list of lines is such a front
pub shown_front : (k : ℕ) (xs ys : List (List ℕ)) → Shown k xs ys
shown_front k [] ys = (k, refl)
shown_front k (x ∷ xs) ys = let more = shown_front (k + 1) xs ys in (more.0, (refl, refl, more.1))

-- ---- verdicts

abbrev fails_at : ℕ → Result ℕ ℕ
fails_at n = Err n

-- where no line fails, all pass
all_pass : (p : PlacedStep → Bool) (xs : List PlacedStep) (n m : ℕ) → first_failure p xs n ≡ Ok m → list_all p xs ≡ true
all_pass p [] n m e = refl
all_pass p (x ∷ xs) n m e = by (p x) refl (all_pass p xs (n + 1) m) e
  where
    by : (b : Bool) → p x ≡ b → (first_failure p xs (n + 1) ≡ Ok m → list_all p xs ≡ true) → cond b (first_failure p xs (n + 1)) (fails_at n) ≡ Ok m → list_all p (x ∷ xs) ≡ true
    by true is more f = and_from (p x) (list_all p xs) is (more f)
    by false is more f = absurd cc

module _ (v : Version) where
  -- ---- the last line

  -- the last line comes where as many theorems are known as it says
  pub last_read : (last : ℕ) (known : List TitledStatement) (k : ℕ) → piece_from known last (at_start v) (numbered_lines k (last_line_of (length known) ∷ [])) ≡ Ok (Last, [])
  unfolding piece_from
  last_read last known k = rw (same_bytes (last_line_of (length known))) refl

  ends : (last : ℕ) (known : List TitledStatement) (k : ℕ) → EndsThere v last known (numbered_lines k (last_line_of (length known) ∷ [])) (Verified (length known))
  ends last known k = ([], last_read last known k, refl)

  -- ---- the theorems, one after another

  -- these lines are judged so where this is known
  record JudgedFrom (last : ℕ) (known : List TitledStatement) (lines : Rest) (j : Judgement) : Type 0 where
    theorems : List TheoremView
    now : List TitledStatement
    rest : Rest
    passes : Passes v last known lines theorems now rest
    closes : Closes v last now rest j

  after_verdict : (last : ℕ) (known : List TitledStatement) (p : TheoremView × Script) (lines after : Rest) (j : Judgement) → ReadsNext v last known lines (entry_with p) after → JudgedFrom last (with_theorem known p.0) after j
      → (a : Result ℕ ℕ) → verdict (stated_by known) (as_view p.0.statement) p.1 ≡ a → JudgedFrom last known lines (judged_after p.0.title a j)
  after_verdict last known p lines after j reads more (Ok n) e = record {
    theorems = entry_with p ∷ more.theorems;
    now = more.now;
    rest = more.rest;
    passes = (after, reads, all_pass (is_certified (stated_by known)) (derivation_steps (stated_by known) (as_view p.0.statement) p.1) 1 n e, more.passes);
    closes = more.closes;
  }
  after_verdict last known p lines after j reads more (Err step) e = record {
    theorems = [];
    now = known;
    rest = lines;
    passes = (refl, refl);
    closes = inr (inr (entry_with p, after, step, reads, e, refl));
  }

  -- the lines of the blocks, and the last line, which says how many are known after them
  judged_from : (last : ℕ) (known : List TitledStatement) (k n : ℕ) (ps : List (TheoremView × Script)) → AllCanBeSpelled v known ps → length known + length ps ≡ n
      → JudgedFrom last known (numbered_lines k (lines_of_blocks known ps ++ last_line_of n ∷ [])) (judgement_of known ps)
  judged_from last known k n [] h e =
      let count : length known ≡ n = omega (arith, e) in
      record {
        theorems = [];
        now = known;
        rest = numbered_lines k (last_line_of n ∷ []);
        passes = (refl, refl);
        closes = inl (subst (λ (x : ℕ). EndsThere v last known (numbered_lines k (last_line_of x ∷ [])) (Verified (length known))) count (ends last known k));
      }
  judged_from last known k n (p ∷ ps) h e =
      let own = spelled_lines known p.0 p.1 in
      let next = with_theorem known p.0 in
      let later = lines_of_blocks next ps ++ last_line_of n ∷ [] in
      let front = shown_front k own later in
      let reads = spelled_is_read v known last p.0 p.1 (numbered_lines k (own ++ later)) (numbered_lines front.0 later) h.0 front.1 in
      let more = judged_from last next front.0 n ps h.1 (omega (arith, e, length-append known (titled_statement p.0.title p.0.statement ∷ []))) in
      subst (λ (ls : List (List ℕ)). JudgedFrom last known (numbered_lines k ls) (judgement_of known (p ∷ ps))) (sym (append_assoc own (lines_of_blocks next ps) (last_line_of n ∷ [])))
      (after_verdict last known p (numbered_lines k (own ++ later)) (numbered_lines front.0 later) (judgement_of next ps) reads more (verdict (stated_by known) (as_view p.0.statement) p.1) refl)

  -- ---- the whole

  -- the lines of blocks and the last line are judged as the verdicts say
  pub judged : (last k : ℕ) (ps : List (TheoremView × Script)) → AllCanBeSpelled v [] ps → IsJudged v last (numbered_lines k (lines_of_blocks [] ps ++ last_line_of (length ps) ∷ [])) (judgement_of [] ps)
  judged last k ps h =
      let j = judged_from last [] k (length ps) ps h (omega arith) in
      record { theorems = j.theorems; known = j.now; rest = j.rest; passes = j.passes; closes = j.closes }

  -- ---- certified derivations

  pub all_spelled : (known : List TitledStatement) (ps : List (TheoremView × Script)) → AllCanBeVerified v known ps → AllCanBeSpelled v known ps
  all_spelled known [] h = tt
  all_spelled known (p ∷ ps) h = (h.0.spelled, all_spelled (with_theorem known p.0) ps h.1)

  -- where all are certified they are judged verified
  pub all_verified : (known : List TitledStatement) (ps : List (TheoremView × Script)) → AllCanBeVerified v known ps → judgement_of known ps ≡ Verified (length known + length ps)
  all_verified known [] h = let n : length known ≡ length known + 0 = omega arith in ap (λ (k : ℕ). Verified k) n
  all_verified known (p ∷ ps) h =
      let next = with_theorem known p.0 in
      let n : length next + length ps ≡ length known + length (p ∷ ps) = omega (arith, length-append known (titled_statement p.0.title p.0.statement ∷ [])) in
      passes (verdict (stated_by known) (as_view p.0.statement) p.1) refl ∙ all_verified next ps h.1 ∙ ap (λ (k : ℕ). Verified k) n
    where
      passes : (a : Result ℕ ℕ) → verdict (stated_by known) (as_view p.0.statement) p.1 ≡ a → judged_after p.0.title a (judgement_of (with_theorem known p.0) ps) ≡ judgement_of (with_theorem known p.0) ps
      passes (Ok m) e = refl
      passes (Err step) e = absurd (certified_no_failure known (entry_with p) step h.0.certified e)
