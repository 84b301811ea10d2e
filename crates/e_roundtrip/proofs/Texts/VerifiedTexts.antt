-- A text that is judged verified spells proofs.
use Rattle.std.proofs.Common.{◌≡◌, ℕ, suc, ◌+◌, Bool, true, false, cond, inl, inr, List, [], ◌∷◌, ◌++◌, length, map, Ok, Err, refl, sym, ap, subst, ◌∙◌, arith, append_assoc, length-append}
use Rattle.std.specs.Prelude.{Option, Some, None}
use Rattle.std.specs.Str.{bytes_eq}
use Rattle.std.proofs.lemmas.Bool.{and_parts}
use Rattle.std.proofs.lemmas.Slice.Eq.{bytes_eq-Decides}
use Rattle.e_text.specs.Lines.{LineView, HaveNoFault, end_bytes, text_of_lines}
use Rattle.e_text.specs.declared.line.LineEnd.{LineEnd}
use Rattle.e_text.specs.declared.line.LineEnd.TheVariants as ends
use Rattle.e_text.proofs.WrittenLines.{text_of_lines-lines_of}
use Rattle.e_clause.specs.declared.cert.Version.{Version}
use Rattle.e_clause.specs.declared.cert.Version.TheVariants.{One, Two}
use Rattle.e_theorem.specs.Statements.{as_view}
use Rattle.e_deriv.specs.Script.{Script}
use Rattle.e_deriv.proofs.Agreement.{proof_of_certified}
use Rattle.e_names.specs.TitledStatements.{TitledStatement, titled_statement, stated_by}
use Rattle.e_book.specs.TheoremViews.{TheoremView}
use Rattle.e_book.specs.Grammar.{Rest}
use Rattle.e_read.specs.Text.{is_lf_end, last_line_of}
use Rattle.e_spell.specs.Spelling.{spelling, spelled_lines}
use Rattle.e_roundtrip.specs.Spelled.{ShowsEnded}
use Rattle.e_roundtrip.proofs.Texts.ReadIsSpelled.{read_is_spelled_so, read_is_formed_so}
use Rattle.e_roundtrip.proofs.Texts.ShownText.{read_text_is_spelled}
use Rattle.e_judgement.specs.declared.judgement.Judgement.TheVariants.{Verified, Bad, Garbled}
use Rattle.e_judgement.specs.Judged.{with_theorem, Passes, number_of_line, JudgedAfter, Closes, IsJudged, head_of, is_head, version_of, JudgedAfterHead, JudgesLines, lines_of_text}
use Rattle.e_roundtrip.specs.Written.{AllCanBeSpelled, AllProved, SpellsProofs, spelled_blocks, version_line, accepted_blocks_line}
use Rattle.e_roundtrip.specs.Laws.{VerifiedIsWritten}
use Rattle.e_roundtrip.proofs.Texts.WrittenIsVerified.{last_is_line}
use Rattle.e_roundtrip.proofs.Texts.LastLine.{last_shown}

-- ---- judgements

not_garbled : (n k : ℕ) → Verified n ≡ Garbled k → ⊥
not_garbled n k e = absurd cc

not_bad : (n k : ℕ) (title : List ℕ) → Verified n ≡ Bad title k → ⊥
not_bad n k title e = absurd cc

same_number : (n m : ℕ) → Verified n ≡ Verified m → n ≡ m
same_number n m e = cc

-- a text is verified where nothing stands after its last line
after : (m n : ℕ) (rest : Rest) → Verified n ≡ JudgedAfter m rest → (m ≡ n) × (rest ≡ [])
after m n [] e = (sym (same_number n m e), refl)
after m n (x ∷ xs) e = absurd (not_garbled n (number_of_line x) e)

module _ (v : Version) where
  -- and its last line says how many theorems are known
  closed_so : (last : ℕ) (known : List TitledStatement) (lines : Rest) (n : ℕ) → Closes v last known lines (Verified n) → (length known ≡ n) × ShowsEnded lines (last_line_of (length known) ∷ []) []
  closed_so last known lines n (inl c) =
      let b = after (length known) n c.0 c.2 in
      (b.0, subst (λ (r : Rest). ShowsEnded lines (last_line_of (length known) ∷ []) r) b.1 (last_shown v known last lines c.0 c.1))
  closed_so last known lines n (inr (inl c)) = absurd (not_garbled n c.0 c.2)
  closed_so last known lines n (inr (inr c)) = absurd (not_bad n c.2 c.0.title c.5)

  -- ---- the theorems

  -- each with its derivation
  abbrev pairs : List TheoremView → List (TheoremView × Script)
  pairs ts = map (λ t. (t, t.script)) ts

  length-pairs : (ts : List TheoremView) → length (pairs ts) ≡ length ts
  length-pairs [] = refl
  length-pairs (t ∷ ts) = ap suc (length-pairs ts)

  -- one more is known after each
  known_grows : (last : ℕ) (known : List TitledStatement) (lines : Rest) (ts : List TheoremView) (now : List TitledStatement) (rest : Rest) → Passes v last known lines ts now rest → length now ≡ length known + length ts
  known_grows last known lines [] now rest p = omega (arith, ap length p.0)
  known_grows last known lines (t ∷ ts) now rest p =
      omega (arith, known_grows last (with_theorem known t) p.0 ts now rest p.3, length-append known (titled_statement t.title t.statement ∷ []))

  -- what is certified is proved
  all_proved : (last : ℕ) (known : List TitledStatement) (lines : Rest) (ts : List TheoremView) (now : List TitledStatement) (rest : Rest) → Passes v last known lines ts now rest → AllProved known (pairs ts)
  all_proved last known lines [] now rest p = tt
  all_proved last known lines (t ∷ ts) now rest p =
      (proof_of_certified (stated_by known) (as_view t.statement) t.script p.2, all_proved last (with_theorem known t) p.0 ts now rest p.3)

  -- and what is read can be spelled
  all_spelled : (last : ℕ) (known : List TitledStatement) (lines : Rest) (ts : List TheoremView) (now : List TitledStatement) (rest : Rest) → Passes v last known lines ts now rest → AllCanBeSpelled v known (pairs ts)
  all_spelled last known lines [] now rest p = tt
  all_spelled last known lines (t ∷ ts) now rest p = (read_is_formed_so v known last t lines p.0 p.1, all_spelled last (with_theorem known t) p.0 ts now rest p.3)

  -- their lines have no fault
  good_shown : (lines rest : Rest) (texts : List (List ℕ)) → ShowsEnded lines texts rest → HaveNoFault rest → HaveNoFault lines
  good_shown lines rest [] s g = subst HaveNoFault (sym s) g
  good_shown [] rest (x ∷ texts) s g = absurd s
  good_shown (Err f ∷ lines) rest (x ∷ texts) s g = absurd s
  good_shown (Ok l ∷ lines) rest (x ∷ texts) s g = good_shown lines rest texts s.2 g

  good_passed : (last : ℕ) (known : List TitledStatement) (lines : Rest) (ts : List TheoremView) (now : List TitledStatement) (rest : Rest) → Passes v last known lines ts now rest → HaveNoFault rest → HaveNoFault lines
  good_passed last known lines [] now rest p g = subst HaveNoFault (sym p.1) g
  good_passed last known lines (t ∷ ts) now rest p g =
      good_shown lines p.0 (spelled_lines known t t.script) (read_is_spelled_so v known last t lines p.0 p.1) (good_passed last (with_theorem known t) p.0 ts now rest p.3 g)

  -- their bytes are their blocks
  blocks_text : (last : ℕ) (known : List TitledStatement) (lines : Rest) (ts : List TheoremView) (now : List TitledStatement) (rest : Rest) → Passes v last known lines ts now rest
      → text_of_lines lines ≡ spelled_blocks known (pairs ts) ++ text_of_lines rest
  blocks_text last known lines [] now rest p = ap text_of_lines p.1
  blocks_text last known lines (t ∷ ts) now rest p =
      let own = spelling known t t.script in
      let next = with_theorem known t in
      read_text_is_spelled v known last t lines p.0 p.1 ∙ ap (λ (x : List ℕ). own ++ x) (blocks_text last next p.0 ts now rest p.3)
      ∙ sym (append_assoc own (spelled_blocks next (pairs ts)) (text_of_lines rest))

  -- ---- the first line and the last

  last_text : (lines : Rest) (w : List ℕ) → ShowsEnded lines (w ∷ []) [] → text_of_lines lines ≡ w ++ 10 ∷ []
  last_text [] w s = absurd s
  last_text (Err f ∷ lines) w s = absurd s
  last_text (Ok l ∷ lines) w s =
      ap (λ (b : List ℕ). b ++ (end_bytes l.end ++ text_of_lines lines)) s.0 ∙ ap (λ (e : LineEnd). w ++ (end_bytes e ++ text_of_lines lines)) s.1
      ∙ ap (λ (ls : Rest). w ++ 10 ∷ text_of_lines ls) s.2

  is_lf : (end : LineEnd) → is_lf_end end ≡ true → end ≡ ends.Lf
  is_lf ends.Lf e = refl
  is_lf ends.CrLf e = absurd cc
  is_lf ends.TextEnd e = absurd cc

  head_text : (l : LineView) (lines : Rest) → is_head v l ≡ true → text_of_lines (Ok l ∷ lines) ≡ version_line v ++ text_of_lines lines
  head_text l lines h =
      let p = and_parts (is_lf_end l.end) (bytes_eq l.bytes (head_of v)) h in
      ap (λ (b : List ℕ). b ++ (end_bytes l.end ++ text_of_lines lines)) ((bytes_eq-Decides l.bytes (head_of v)).0 p.1)
      ∙ ap (λ (e : LineEnd). head_of v ++ (end_bytes e ++ text_of_lines lines)) (is_lf l.end p.0) ∙ sym (append_assoc (head_of v) (10 ∷ []) (text_of_lines lines))

  -- ---- the whole

  whole : (text : List ℕ) (n : ℕ) (l : LineView) (lines : Rest) → lines_of_text text ≡ Ok l ∷ lines → is_head v l ≡ true → IsJudged v (2 + length lines) lines (Verified n) → SpellsProofs n text
  whole text n l lines e h j =
      let ts = j.theorems in
      let last = 2 + length lines in
      let c = closed_so last j.known j.rest n j.closes in
      let count : length (pairs ts) ≡ length j.known = omega (arith, length-pairs ts, known_grows last [] lines ts j.known j.rest j.passes) in
      let good : HaveNoFault lines = good_passed last [] lines ts j.known j.rest j.passes (good_shown j.rest [] (last_line_of (length j.known) ∷ []) c.1 tt) in
      let read : text_of_lines (lines_of_text text) ≡ text =
      text_of_lines-lines_of (record { longest = 262144; most = length text }) (record { line = 1; before = 0 }) text (subst HaveNoFault (sym e) good) in
      let end : text_of_lines j.rest ≡ accepted_blocks_line (length (pairs ts)) =
      last_text j.rest (last_line_of (length j.known)) c.1 ∙ sym (last_is_line (length j.known)) ∙ ap accepted_blocks_line (sym count) in
      record {
        version = v;
        theorems = pairs ts;
        count = count ∙ c.0;
        spelled = all_spelled last [] lines ts j.known j.rest j.passes;
        proved = all_proved last [] lines ts j.known j.rest j.passes;
        bytes = sym read ∙ ap text_of_lines e ∙ head_text l lines h ∙ ap (λ (x : List ℕ). version_line v ++ x) (blocks_text last [] lines ts j.known j.rest j.passes)
            ∙ ap (λ (x : List ℕ). version_line v ++ (spelled_blocks [] (pairs ts) ++ x)) end;
      }

-- the line says the version
said : (l : LineView) (v : Version) → version_of l ≡ Some v → is_head v l ≡ true
said l v e = by (is_head One l) (is_head Two l) refl refl e
  where
    some : Version → Option Version
    some x = Some x

    inside : (x y : Version) → some x ≡ some y → x ≡ y
    inside x y h = cc

    none : some v ≡ None → ⊥
    none h = absurd cc

    by : (a b : Bool) → is_head One l ≡ a → is_head Two l ≡ b → cond a (Some One) (cond b (Some Two) None) ≡ Some v → is_head v l ≡ true
    by true b h k f = subst (λ (x : Version). is_head x l ≡ true) (inside One v f) h
    by false true h k f = subst (λ (x : Version). is_head x l ≡ true) (inside Two v f) k
    by false false h k f = absurd (none (sym f))

by_version : (text : List ℕ) (n : ℕ) (l : LineView) (lines : Rest) → lines_of_text text ≡ Ok l ∷ lines → (o : Option Version) → version_of l ≡ o → JudgedAfterHead o lines (Verified n) → SpellsProofs n text
by_version text n l lines e None is h = absurd (not_garbled n 1 h)
by_version text n l lines e (Some v) is h = whole v text n l lines e (said l v is) h

by_lines : (text : List ℕ) (n : ℕ) (lines : Rest) → lines_of_text text ≡ lines → JudgesLines lines (Verified n) → SpellsProofs n text
by_lines text n [] e h = absurd (not_garbled n 1 h)
by_lines text n (Err f ∷ lines) e h = absurd (not_garbled n 1 h)
by_lines text n (Ok l ∷ lines) e h = by_version text n l lines e (version_of l) refl h

-- what is judged verified is written so
pub verified_is_written : VerifiedIsWritten
verified_is_written text n h = by_lines text n (lines_of_text text) refl h
