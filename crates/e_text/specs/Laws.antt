-- What holds of lines, tokens, names and numerals, whatever the code does.
use Rattle.std.specs.Prelude.{◌≡◌, ℕ, ◌+◌, ◌-◌, ◌^◌, ◌<◌, ◌≤◌, List, ◌++◌, length, take, Some}
use Rattle.std.specs.Prelude.{decimal}
use Rattle.e_text.specs.Lines.{Bounds, Spot, HaveNoFault, AreShort, lines_of, text_of_lines}
use Rattle.e_text.specs.Lines.{lf_text, numbered_lines, IsClosed, then_more, spot_after}
use Rattle.e_text.specs.Tokens.{AreTokens, tokens_of, joined_words}
use Rattle.e_text.specs.Numerals.{number_of}

-- where no line has a fault, the lines with their ends, put together, are the text
abbrev pub LinesMakeTheText : Type 0
LinesMakeTheText =
    (w : Bounds) (at : Spot) (text : List ℕ) → HaveNoFault (lines_of w at text)
    → text_of_lines (lines_of w at text) ≡ text

-- lines of allowed bytes, within the bounds, that are written with a line feed after each are read
-- as these lines
abbrev pub WrittenLinesAreRead : Type 0
WrittenLinesAreRead =
    (w : Bounds) (at : Spot) (lines : List (List ℕ)) → AreShort w.longest lines
    → at.before + length (lf_text lines) ≤ w.most
    → lines_of w at (lf_text lines) ≡ numbered_lines at.line lines

-- the lines of a text are known from its bytes up to one after the last that counts
abbrev pub OneByteMoreIsEnough : Type 0
OneByteMoreIsEnough =
    (w : Bounds) (at : Spot) (text : List ℕ) → at.before ≤ w.most
    → lines_of w at (take (w.most + 1 - at.before) text) ≡ lines_of w at text

-- The lines of a text whose front is closed are those of the front and, where none of these has a
-- fault, those of the rest: so they are known before the rest is.
abbrev pub FrontsAreRead : Type 0
FrontsAreRead = (w : Bounds) (at : Spot) (front more : List ℕ) → IsClosed front
    → lines_of w at (front ++ more)
    ≡ then_more (lines_of w at front) (lines_of w (spot_after w at front) more)

-- a text has no more lines than bytes
abbrev pub NoMoreLinesThanBytes : Type 0
NoMoreLinesThanBytes =
    (w : Bounds) (at : Spot) (text : List ℕ) → length (lines_of w at text) ≤ length text

-- the tokens of a line hold no blank, and each has bytes
abbrev pub TokensHoldNoBlank : Type 0
TokensHoldNoBlank = (line : List ℕ) → AreTokens (tokens_of line)

-- words with one space between two are read as these words
abbrev pub JoinedWordsAreRead : Type 0
JoinedWordsAreRead =
    (words : List (List ℕ)) → AreTokens words → tokens_of (joined_words words) ≡ words

-- a number below 2 ^ 128 that is printed is read as itself
abbrev pub PrintedNumbersAreRead : Type 0
PrintedNumbersAreRead = (n : ℕ) → n < 2 ^ 128 → number_of (decimal n) ≡ Some n
