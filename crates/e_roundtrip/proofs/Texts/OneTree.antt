-- A text spells at most one list of theorems with derivations.
use Rattle.std.proofs.Common.{◌≡◌, ℕ, ◌+◌, List, [], ◌∷◌, ◌++◌, length, map, Result, Ok, Err, refl, sym, ap, subst, ◌∙◌, arith, append_assoc, length-append}
use Rattle.std.specs.Prelude.{Option, Some}
use Rattle.e_text.specs.Lines.{LineView, numbered_lines}
use Rattle.e_text.specs.declared.line.LineEnd.TheVariants.{Lf}
use Rattle.e_text.specs.declared.line.LineFault.{LineFault}
use Rattle.e_clause.specs.declared.cert.Version.{Version}
use Rattle.e_deriv.specs.Script.{Script}
use Rattle.e_names.specs.TitledStatements.{TitledStatement, titled_statement}
use Rattle.e_book.specs.TheoremViews.{TheoremView}
use Rattle.e_book.specs.Grammar.{Rest}
use Rattle.e_read.specs.Text.{TextPiece, Derived, Last, at_start, last_line_of, piece_from}
use Rattle.e_spell.specs.Spelling.{spelled_lines}
use Rattle.e_judgement.specs.Judged.{with_theorem, head_of, version_of, lines_of_text}
use Rattle.e_roundtrip.specs.Spelled.{ShowsEnded}
use Rattle.e_roundtrip.specs.Written.{AllCanBeSpelled, derivation_text, entry_with}
use Rattle.e_roundtrip.specs.Laws.{OneTreeForOneText}
use Rattle.e_roundtrip.proofs.Lengths.BlockRooms.{lines_of_blocks}
use Rattle.e_roundtrip.proofs.Texts.Assembly.{shown_front, last_read}
use Rattle.e_roundtrip.proofs.Texts.SpelledIsRead.{spelled_is_read}
use Rattle.e_roundtrip.proofs.Texts.WrittenIsVerified.{says, all_lines, lines_written}

-- ---- what is read is one

abbrev Answer : Type 0
Answer = TextPiece × Rest

abbrev derived : TheoremView → Rest → Result Answer ℕ
derived t rest = Ok (Derived t, rest)

abbrev last_there : Rest → Result Answer ℕ
last_there rest = Ok (Last, rest)

abbrev answered : Answer → Result Answer ℕ
answered x = Ok x

answer_is : (x y : Answer) → answered x ≡ answered y → x ≡ y
answer_is x y e = cc

theorem_is : (t u : TheoremView) → Derived t ≡ Derived u → t ≡ u
theorem_is t u e = cc

one_theorem : (t u : TheoremView) (a b : Rest) → derived t a ≡ derived u b → (t ≡ u) × (a ≡ b)
one_theorem t u a b e =
    let p = answer_is (Derived t, a) (Derived u, b) e in
    (theorem_is t u (ap (λ (x : Answer). x.0) p), ap (λ (x : Answer). x.1) p)

no_last : (t : TheoremView) → Derived t ≡ Last → ⊥
no_last t e = absurd cc

not_both : (t : TheoremView) (a b : Rest) → derived t a ≡ last_there b → ⊥
not_both t a b e = no_last t (ap (λ (x : Answer). x.0) (answer_is (Derived t, a) (Last, b) e))

-- ---- the lines of theorems

module _ (v : Version) (last : ℕ) where
  -- the lines are those of these theorems, one after another, and then the last line comes
  abbrev AreLines : List TitledStatement → List (TheoremView × Script) → Rest → Type 0
  AreLines known [] lines = (rest : Rest) × (piece_from known last (at_start v) lines ≡ last_there rest)
  AreLines known (p ∷ ps) lines = (after : Rest) × ShowsEnded lines (spelled_lines known p.0 p.1) after × AreLines (with_theorem known p.0) ps after

  next_known : (known : List TitledStatement) (p q : TheoremView × Script) → entry_with p ≡ entry_with q → with_theorem known p.0 ≡ with_theorem known q.0
  next_known known p q e = ap (λ (t : TheoremView). with_theorem known t) e

  -- they are so of one list
  one_tree : (known : List TitledStatement) (ps qs : List (TheoremView × Script)) (lines : Rest) → AllCanBeSpelled v known ps → AllCanBeSpelled v known qs → AreLines known ps lines → AreLines known qs lines
      → map entry_with ps ≡ map entry_with qs
  one_tree known [] [] lines h k a b = refl
  one_tree known [] (q ∷ qs) lines h k a b = absurd (not_both (entry_with q) b.0 a.0 (sym (spelled_is_read v known last q.0 q.1 lines b.0 k.0 b.1) ∙ a.1))
  one_tree known (p ∷ ps) [] lines h k a b = absurd (not_both (entry_with p) a.0 b.0 (sym (spelled_is_read v known last p.0 p.1 lines a.0 h.0 a.1) ∙ b.1))
  one_tree known (p ∷ ps) (q ∷ qs) lines h k a b =
      let e = one_theorem (entry_with p) (entry_with q) a.0 b.0 (sym (spelled_is_read v known last p.0 p.1 lines a.0 h.0 a.1) ∙ spelled_is_read v known last q.0 q.1 lines b.0 k.0 b.1) in
      let same : with_theorem known q.0 ≡ with_theorem known p.0 = sym (next_known known p q e.0) in
      let k' : AllCanBeSpelled v (with_theorem known p.0) qs = subst (λ (x : List TitledStatement). AllCanBeSpelled v x qs) same k.1 in
      let b' : AreLines (with_theorem known p.0) qs b.0 = subst (λ (x : List TitledStatement). AreLines x qs b.0) same b.2 in
      let b'' : AreLines (with_theorem known p.0) qs a.0 = subst (λ (r : Rest). AreLines (with_theorem known p.0) qs r) (sym e.1) b' in
      ap (λ (ts : List TheoremView). entry_with p ∷ ts) (one_tree (with_theorem known p.0) ps qs a.0 h.1 k' a.2 b'') ∙ ap (λ (t : TheoremView). t ∷ map entry_with qs) e.0

  -- the lines of blocks and the last line are so of their theorems
  are_lines : (known : List TitledStatement) (k n : ℕ) (ps : List (TheoremView × Script)) → length known + length ps ≡ n → AreLines known ps (numbered_lines k (lines_of_blocks known ps ++ last_line_of n ∷ []))
  are_lines known k n [] e =
      let count : length known ≡ n = omega (arith, e) in
      let lines : ℕ → Rest = λ x. numbered_lines k (last_line_of x ∷ []) in
      ([], subst (λ (x : ℕ). piece_from known last (at_start v) (lines x) ≡ last_there []) count (last_read v last known k))
  are_lines known k n (p ∷ ps) e =
      let own = spelled_lines known p.0 p.1 in
      let next = with_theorem known p.0 in
      let later = lines_of_blocks next ps ++ last_line_of n ∷ [] in
      let front = shown_front k own later in
      let more = are_lines next front.0 n ps (omega (arith, e, length-append known (titled_statement p.0.title p.0.statement ∷ []))) in
      subst (λ (ls : List (List ℕ)). AreLines known (p ∷ ps) (numbered_lines k ls)) (sym (append_assoc own (lines_of_blocks next ps) (last_line_of n ∷ []))) (numbered_lines front.0 later, front.1, more)

-- ---- the lines of one text

abbrev good_line : LineView → Result LineView LineFault
good_line l = Ok l

line_is : (k l : LineView) → good_line k ≡ good_line l → k ≡ l
line_is k l e = cc

first_is : (x y : Result LineView LineFault) (xs ys : Rest) → x ∷ xs ≡ y ∷ ys → (x ≡ y) × (xs ≡ ys)
first_is x y xs ys e = (cc, cc)

abbrev some_version : Version → Option Version
some_version v = Some v

version_is : (v w : Version) → some_version v ≡ some_version w → v ≡ w
version_is v w e = cc

head_line : Version → LineView
head_line v = record { number = 1; bytes = head_of v; end = Lf }

-- after the head line
abbrev lines_after : List (TheoremView × Script) → Rest
lines_after ps = numbered_lines 2 (lines_of_blocks [] ps ++ last_line_of (length ps) ∷ [])

one_head : (v w : Version) → head_line v ≡ head_line w → v ≡ w
unfolding head_line
one_head v w e = version_is v w (sym (says v) ∙ ap version_of e ∙ says w)

of_one_version : (v : Version) (ps qs : List (TheoremView × Script)) → AllCanBeSpelled v [] ps → AllCanBeSpelled v [] qs → lines_after ps ≡ lines_after qs → map entry_with ps ≡ map entry_with qs
of_one_version v ps qs h k e =
    one_tree v 0 [] ps qs (lines_after ps) h k (are_lines v 0 [] 2 (length ps) ps (omega arith)) (subst (λ (ls : Rest). AreLines v 0 [] qs ls) (sym e) (are_lines v 0 [] 2 (length qs) qs (omega arith)))

-- a text spells one list
pub one_tree_for_one_text : OneTreeForOneText
unfolding head_line
one_tree_for_one_text v w ps qs h k e =
    let lines : numbered_lines 1 (all_lines v ps) ≡ numbered_lines 1 (all_lines w qs) = sym (lines_written v ps h) ∙ ap lines_of_text e ∙ lines_written w qs k in
    let both = first_is (good_line (head_line v)) (good_line (head_line w)) (lines_after ps) (lines_after qs) lines in
    let version : v ≡ w = one_head v w (line_is (head_line v) (head_line w) both.0) in
    (version, of_one_version v ps qs h (subst (λ (x : Version). AllCanBeSpelled x [] qs) (sym version) k) both.1)
