-- What is written of derivations is judged as their verdicts say, and verified where all are certified.
use Rattle.std.proofs.Common.{◌≡◌, ℕ, ◌+◌, ◌≤◌, List, [], ◌∷◌, ◌++◌, length, refl, sym, ap, subst, ◌∙◌, arith, append_assoc, length-append}
use Rattle.std.specs.Prelude.{codes, decimal, Option, Some}
use Rattle.e_text.specs.declared.line.LineEnd.TheVariants.{Lf}
use Rattle.e_clause.specs.declared.cert.Version.{Version}
use Rattle.e_clause.specs.declared.cert.Version.TheVariants.{One, Two}
use Rattle.std.proofs.lemmas.List.{append-nil}
use Rattle.e_text.specs.Lines.{Bounds, Spot, AreShort, lf_text, numbered_lines}
use Rattle.e_text.proofs.WrittenLines.{lines_of-lf_text}
use Rattle.e_deriv.specs.Script.{Script}
use Rattle.e_names.specs.TitledStatements.{TitledStatement, titled_statement}
use Rattle.e_book.specs.TheoremViews.{TheoremView}
use Rattle.e_line.specs.Limits.{most_theorems}
use Rattle.e_book.specs.Canonical.{text_of}
use Rattle.e_read.specs.Text.{last_line_of}
use Rattle.e_spell.specs.Spelling.{spelled_lines}
use Rattle.e_judgement.specs.declared.judgement.Judgement.TheVariants.{Verified}
use Rattle.e_judgement.specs.Judged.{with_theorem, head_of, version_of, JudgedAfterHead, JudgesLines, JudgesText, lines_of_text}
use Rattle.e_roundtrip.specs.Written.{AllCanBeSpelled, judgement_of, spelled_blocks, version_line, derivation_text, accepted_blocks_line}
use Rattle.e_roundtrip.specs.Laws.{WrittenIsJudged, WrittenIsVerified}
use Rattle.e_roundtrip.proofs.Lengths.Rooms.{IsShortLine, short_number, short_append, room_none, room_word, room_line}
use Rattle.e_roundtrip.proofs.Lengths.BlockRooms.{lines_of_blocks, short_blocks}
use Rattle.e_roundtrip.proofs.Texts.Assembly.{judged, all_spelled, all_verified}

-- ---- the bytes as lines

-- the text of lines, in the words of e_text
text_of_is : (lines : List (List ℕ)) → text_of lines ≡ lf_text lines
text_of_is [] = refl
text_of_is (line ∷ lines) = append_assoc line (10 ∷ []) (text_of lines) ∙ ap (λ (t : List ℕ). line ++ 10 ∷ t) (text_of_is lines)

-- lines after lines
lf_text_append : (xs ys : List (List ℕ)) → lf_text (xs ++ ys) ≡ lf_text xs ++ lf_text ys
lf_text_append [] ys = refl
lf_text_append (x ∷ xs) ys = ap (λ (t : List ℕ). x ++ 10 ∷ t) (lf_text_append xs ys) ∙ sym (append_assoc x (10 ∷ lf_text xs) (lf_text ys))

-- the blocks are lines
blocks_are_lines : (known : List TitledStatement) (ps : List (TheoremView × Script)) → spelled_blocks known ps ≡ lf_text (lines_of_blocks known ps)
blocks_are_lines known [] = refl
blocks_are_lines known (p ∷ ps) =
    let own = spelled_lines known p.0 p.1 in
    let next = with_theorem known p.0 in
    ap (λ (t : List ℕ). t ++ spelled_blocks next ps) (text_of_is own) ∙ ap (λ (t : List ℕ). lf_text own ++ t) (blocks_are_lines next ps) ∙ sym (lf_text_append own (lines_of_blocks next ps))

-- so is the last line
pub last_is_line : (n : ℕ) → accepted_blocks_line n ≡ lf_text (last_line_of n ∷ [])
last_is_line n = ap (λ (t : List ℕ). codes "accepted " ++ t) (ap (λ (t : List ℕ). t ++ 10 ∷ []) (sym (append-nil (decimal n))))

-- the head line is short, and says its version
short_head : (v : Version) → IsShortLine (head_of v)
short_head One = (refl, omega arith)
short_head Two = (refl, omega arith)

pub says : (v : Version) → version_of (record { number = 1; bytes = head_of v; end = Lf }) ≡ Some v
says One = refl
says Two = refl

module _ (v : Version) where
  -- all lines of the text
  abbrev pub all_lines : List (TheoremView × Script) → List (List ℕ)
  all_lines ps = head_of v ∷ (lines_of_blocks [] ps ++ last_line_of (length ps) ∷ [])

  -- the text is these lines
  written_is : (ps : List (TheoremView × Script)) → derivation_text v ps ≡ lf_text (all_lines ps)
  written_is ps =
      ap (λ (t : List ℕ). version_line v ++ t)
      (ap (λ (t : List ℕ). t ++ accepted_blocks_line (length ps)) (blocks_are_lines [] ps) ∙ ap (λ (t : List ℕ). lf_text (lines_of_blocks [] ps) ++ t) (last_is_line (length ps))
      ∙ sym (lf_text_append (lines_of_blocks [] ps) (last_line_of (length ps) ∷ [])))
      ∙ append_assoc (head_of v) (10 ∷ []) (lf_text (lines_of_blocks [] ps ++ last_line_of (length ps) ∷ []))

  -- ---- the whole

  -- the lines are judged so
  judged_lines : (ps : List (TheoremView × Script)) → AllCanBeSpelled v [] ps → JudgesLines (numbered_lines 1 (all_lines ps)) (judgement_of [] ps)
  judged_lines ps h = subst (λ (o : Option Version). JudgedAfterHead o (numbered_lines 2 (lines_of_blocks [] ps ++ last_line_of (length ps) ∷ [])) (judgement_of [] ps)) (sym (says v)) (judged v _ 2 ps h)

  -- a text has few theorems
  few_theorems : (known : List TitledStatement) (ps : List (TheoremView × Script)) → AllCanBeSpelled v known ps → length known ≤ most_theorems → length known + length ps ≤ most_theorems
  few_theorems known [] h le = omega (arith, le)
  few_theorems known (p ∷ ps) h le =
      let n = length-append known (titled_statement p.0.title p.0.statement ∷ []) in
      omega (arith, few_theorems (with_theorem known p.0) ps h.1 (omega (arith, n, h.0.plain.few_theorems)), n)

  -- the last line is short
  short_last : (n : ℕ) → n ≤ most_theorems → IsShortLine (last_line_of n)
  short_last n le = room_line 13 _ (omega arith) (room_word 8 4 (codes "accepted") _ refl (room_word 3 0 (decimal n) [] (short_number 3 n (omega arith) (omega (arith, le)) (omega (arith, le))) room_none))

  -- so is each line
  all_short : (ps : List (TheoremView × Script)) → AllCanBeSpelled v [] ps → AreShort 262144 (all_lines ps)
  all_short ps h =
      (short_head v, short_append (lines_of_blocks [] ps) (last_line_of (length ps) ∷ []) (short_blocks v [] ps tt h) (short_last (length ps) (omega (arith, few_theorems [] ps h (omega arith))), tt))

  -- what is written is read as its lines
  pub lines_written : (ps : List (TheoremView × Script)) → AllCanBeSpelled v [] ps → lines_of_text (derivation_text v ps) ≡ numbered_lines 1 (all_lines ps)
  lines_written ps h =
      let w : Bounds = record { longest = 262144; most = length (lf_text (all_lines ps)) } in
      let at : Spot = record { line = 1; before = 0 } in
      ap lines_of_text (written_is ps) ∙ lines_of-lf_text w at (all_lines ps) (all_short ps h) (omega arith)

-- and these are judged so
pub written_is_judged : WrittenIsJudged
written_is_judged v ps h = subst (λ ls. JudgesLines ls (judgement_of [] ps)) (sym (lines_written v ps h)) (judged_lines v ps h)

pub written_is_verified : WrittenIsVerified
written_is_verified v ps h =
    let known : List TitledStatement = [] in
    let n : length known + length ps ≡ length ps = omega arith in
    subst (JudgesText (derivation_text v ps)) (all_verified v [] ps h ∙ ap (λ (k : ℕ). Verified k) n) (written_is_judged v ps (all_spelled v [] ps h))
