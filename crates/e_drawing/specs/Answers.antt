-- What is written of a figure text.
use Rattle.std.specs.Prelude.{◌≡◌, ℕ, List, [], ◌∷◌, ◌++◌, flat_map, length, Result, Ok, Err, codes}
use Rattle.std.specs.Prelude.{decimal, if◌then◌else◌}
use Rattle.e_literal.specs.declared.literal.Lit.{Lit}
use Rattle.e_deriv.specs.declared.names.Names.{Names}
use Rattle.e_text.specs.Tokens.{with_spaces}
use Rattle.e_line.specs.declared.fault.BookFault.{BookFault}
use Rattle.e_line.specs.Canonical.{lit_words}
use Rattle.e_names.specs.Canonical.{raw_of}
use Rattle.e_book.specs.Grammar.{BookFails}
use Rattle.e_line.specs.Reading.{◌>>=◌}
use Rattle.e_figure.specs.Figure.{FigureView}
use Rattle.e_figure.specs.Truth.{is_true}
use Rattle.e_figure.specs.Cite.{is_refuted}
use Rattle.e_drawing.specs.declared.plan.Plan.{Plan}
use Rattle.e_drawing.specs.declared.drawing.Drawing.{Drawing}
use Rattle.e_drawing.specs.Texts.{plan_of}

-- a word, what holds of a literal, and the literal
abbrev pub answer_line : List ℕ → List ℕ → Names → Lit → List ℕ
answer_line word holds ns l = word ++ (holds ++ (with_spaces (lit_words (raw_of ns l)) ++ 10 ∷ []))

-- whether a given literal is true
abbrev pub given_word : FigureView → Lit → List ℕ
given_word d l = if is_true d l then codes "true" else codes "false"

-- whether a shown literal is true, is refuted where all given ones are true, or is only not true
abbrev pub shown_word : FigureView → List Lit → Lit → List ℕ
shown_word d given l =
    if is_true d l then codes "true" else
    if is_refuted d given l then codes "refuted" else codes "false"

abbrev pub given_line : Plan → Lit → List ℕ
given_line p l = answer_line (codes "given ") (given_word p.figure l) p.names l

abbrev pub shown_line : Plan → Lit → List ℕ
shown_line p l = answer_line (codes "show ") (shown_word p.figure p.given l) p.names l

-- the line with the number of shown literals
abbrev pub figure_line : ℕ → List ℕ
figure_line n = codes "figure" ++ ((32 ∷ decimal n) ++ 10 ∷ [])

-- a line for each given literal, then for each shown one, and the last line
abbrev pub answer_text : Plan → List ℕ
answer_text p =
    flat_map (given_line p) p.given
    ++ (flat_map (shown_line p) p.shown ++ figure_line (length p.shown))

-- what is written of a text with the number of its shown literals, or its first fault
abbrev pub drawn_of : List ℕ → Result (ℕ × List ℕ) BookFault
drawn_of text = plan_of text >>= λ p. Ok (length p.shown, answer_text p)

-- what was answered is that, unless memory ran out
abbrev pub Draws : List ℕ → Result Drawing BookFault → Type 0
Draws text (Ok d) = drawn_of text ≡ Ok (d.shown, d.bytes.items)
Draws text (Err f) = BookFails f (drawn_of text)
