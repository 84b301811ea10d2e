-- The garbled line of a text is the first that has no form at its place, and whatever follows it is nothing to it.
use Rattle.std.proofs.Common.{◌≡◌, ℕ, Bool, true, false, inl, inr, List, [], ◌∷◌, ◌++◌, Option, Some, None, Result, Ok, Err, refl, sym, ap, ◌∙◌}
use Rattle.std.specs.Prelude.{◌⊎◌}
use Rattle.e_text.specs.Lines.{LineView, line_of_fault}
use Rattle.e_text.specs.declared.line.LineFault.{LineFault}
use Rattle.e_clause.specs.declared.cert.Version.{Version}
use Rattle.e_names.specs.TitledStatements.{TitledStatement}
use Rattle.e_book.specs.TheoremViews.{TheoremView}
use Rattle.e_read.specs.declared.reading.BlockParser.{BlockParser}
use Rattle.e_read.specs.Laws.{GarblesAt, EndsTooSoon}
use Rattle.e_read.specs.Text.{Derived, Last, garbled_at}
use Rattle.e_read.specs.inner.Machine.{at_start, parser_after_line, finished_theorem, is_end, piece_from}
use Rattle.e_read.specs.Text as text
use Rattle.e_read.proofs.TextTied.{text_read}
use Rattle.e_read.proofs.Bridge.{Answer}
use Rattle.e_read.proofs.Pieces.{piece_none, piece_fault, piece_last, piece_garbled, piece_ended, piece_next}

abbrev Rest : Type 0
Rest = List (Result LineView LineFault)

abbrev wrong : ℕ → Result Answer ℕ
wrong n = Err n

-- the first garbled line from what has come of a block on, and the end of lines that are too few
record From (known : List TitledStatement) (r : BlockParser) (lines : Rest) (n : ℕ) : Type 0 where
  front : Rest
  line : Result LineView LineFault
  rest : Rest
  all : lines ≡ front ++ line ∷ rest
  before : (last : ℕ) → piece_from known last r front ≡ wrong last
  there : (last : ℕ) (other : Rest) → piece_from known last r (front ++ line ∷ other) ≡ wrong n

abbrev TooSoon : List TitledStatement → BlockParser → Rest → ℕ → ℕ → Type 0
TooSoon known r lines last n = ((end : ℕ) → piece_from known end r lines ≡ wrong end) × (n ≡ last)

same_number : (a b : ℕ) → wrong a ≡ wrong b → a ≡ b
same_number a b e = cc

-- the first line is garbled
at_once : (known : List TitledStatement) (r : BlockParser) (line : Result LineView LineFault) (rest : Rest) (n : ℕ) → ((last : ℕ) (other : Rest) → piece_from known last r (line ∷ other) ≡ wrong n) → From known r (line ∷ rest) n
at_once known r line rest n h = record { front = []; line = line; rest = rest; all = refl; before = λ last. piece_none known last r; there = h }

-- one more line before the front
longer : (known : List TitledStatement) (last : ℕ) (r next : BlockParser) (l : LineView) (ls : Rest) (n : ℕ) → ((end : ℕ) (other : Rest) → piece_from known end r (Ok l ∷ other) ≡ piece_from known end next other)
    → From known next ls n ⊎ TooSoon known next ls last n → From known r (Ok l ∷ ls) n ⊎ TooSoon known r (Ok l ∷ ls) last n
longer known last r next l ls n on (inl b) = inl (record {
  front = Ok l ∷ b.front;
  line = b.line;
  rest = b.rest;
  all = ap (λ (x : Rest). Ok l ∷ x) b.all;
  before = λ end. on end b.front ∙ b.before end;
  there = λ end other. on end (b.front ++ b.line ∷ other) ∙ b.there end other;
})
longer known last r next l ls n on (inr t) = inr ((λ end. on end ls ∙ t.0 end), t.1)

not_read : (known : List TitledStatement) (last : ℕ) (r : BlockParser) (l : LineView) (ls : Rest) (n : ℕ) (p : Answer) → piece_from known last r (Ok l ∷ ls) ≡ Ok p → piece_from known last r (Ok l ∷ ls) ≡ wrong n → ⊥
not_read known last r l ls n p e h = no_answer p n (sym e ∙ h)
  where
    read : Answer → Result Answer ℕ
    read p = Ok p

    no_answer : (p : Answer) (n : ℕ) → read p ≡ wrong n → ⊥
    no_answer p n k = absurd cc

-- what a line makes of a block: no form, the end of a theorem, or more, of which this is known
by_line : (known : List TitledStatement) (last : ℕ) (r : BlockParser) (l : LineView) (ls : Rest) (n : ℕ) → ((next : BlockParser) → piece_from known last next ls ≡ wrong n → From known next ls n ⊎ TooSoon known next ls last n)
    → piece_from known last r (Ok l ∷ ls) ≡ wrong n → From known r (Ok l ∷ ls) n ⊎ TooSoon known r (Ok l ∷ ls) last n
by_line known last r l ls n more e = by_end (is_end known r.parser l) refl
  where
    by_finish : (next : BlockParser) (t : Option TheoremView) → is_end known r.parser l ≡ false → garbled_at l.number (parser_after_line known r l) ≡ Ok next → finished_theorem next.parser next.kept ≡ t → From known r (Ok l ∷ ls) n ⊎ TooSoon known r (Ok l ∷ ls) last n
    by_finish next (Some t) unended read is = absurd (not_read known last r l ls n (Derived t, ls) (piece_ended known last r next l ls t unended read is) e)
    by_finish next None unended read is =
        let on : (end : ℕ) (other : Rest) → piece_from known end r (Ok l ∷ other) ≡ piece_from known end next other = λ end other. piece_next known end r next l other unended read is in
        longer known last r next l ls n on (more next (sym (on last ls) ∙ e))

    by_read : (q : Result BlockParser ℕ) → is_end known r.parser l ≡ false → garbled_at l.number (parser_after_line known r l) ≡ q → From known r (Ok l ∷ ls) n ⊎ TooSoon known r (Ok l ∷ ls) last n
    by_read (Ok next) unended read = by_finish next (finished_theorem next.parser next.kept) unended read refl
    by_read (Err m) unended read =
        let is : m ≡ n = same_number m n (sym (piece_garbled known last r l ls m unended read) ∙ e) in
        inl (at_once known r (Ok l) ls n (λ end other. piece_garbled known end r l other m unended read ∙ ap wrong is))

    by_end : (b : Bool) → is_end known r.parser l ≡ b → From known r (Ok l ∷ ls) n ⊎ TooSoon known r (Ok l ∷ ls) last n
    by_end true is = absurd (not_read known last r l ls n (Last, ls) (piece_last known last r l ls is) e)
    by_end false unended = by_read (garbled_at l.number (parser_after_line known r l)) unended refl

first_from : (known : List TitledStatement) (last : ℕ) (r : BlockParser) (lines : Rest) (n : ℕ) → piece_from known last r lines ≡ wrong n → From known r lines n ⊎ TooSoon known r lines last n
first_from known last r [] n e = inr ((λ end. piece_none known end r), same_number n last (sym e ∙ piece_none known last r))
first_from known last r (Err f ∷ ls) n e =
    let is : line_of_fault f ≡ n = same_number (line_of_fault f) n (sym (piece_fault known last r f ls) ∙ e) in
    inl (at_once known r (Err f) ls n (λ end other. piece_fault known end r f other ∙ ap wrong is))
first_from known last r (Ok l ∷ ls) n e = by_line known last r l ls n (λ next h. first_from known last next ls n h) e

-- the same in the words of the law
to_law : (v : Version) (known : List TitledStatement) (last : ℕ) (lines : Rest) (n : ℕ) → From known (at_start v) lines n ⊎ TooSoon known (at_start v) lines last n → GarblesAt v known lines n ⊎ (EndsTooSoon v known lines × (n ≡ last))
to_law v known last lines n (inl b) = inl (record {
  front = b.front;
  line = b.line;
  rest = b.rest;
  all = b.all;
  before = λ end. sym (text_read v known end b.front) ∙ b.before end;
  there = λ end other. sym (text_read v known end (b.front ++ b.line ∷ other)) ∙ b.there end other;
})
to_law v known last lines n (inr t) = inr ((λ end. sym (text_read v known end lines) ∙ t.0 end), t.1)

pub garbled_first : (v : Version) (known : List TitledStatement) (last : ℕ) (lines : Rest) (n : ℕ) → text.piece_from known last (text.at_start v) lines ≡ wrong n → GarblesAt v known lines n ⊎ (EndsTooSoon v known lines × (n ≡ last))
garbled_first v known last lines n e = to_law v known last lines n (first_from known last (at_start v) lines n (text_read v known last lines ∙ e))
