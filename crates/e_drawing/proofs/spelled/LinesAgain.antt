-- The words of a line of a figure are read as that line.
use Rattle.std.proofs.Common.{◌≡◌, ℕ, ◌≤◌, ◌&&◌, true, false, leb, List, [], ◌∷◌, Ok, refl}
use Rattle.std.specs.Prelude.{decimal}
use Rattle.std.specs.Fmt.{signed_decimal}
use Rattle.std.proofs.lemmas.Bool.{leb-true, and_parts}
use Rattle.e_text.specs.Names.{is_name}
use Rattle.e_text.specs.Tokens.{tokens_of, joined_words, AreTokens}
use Rattle.e_text.proofs.TokenWords.{tokens_of-joined, is_token-name}
use Rattle.e_figure.specs.declared.figure.Point.{Point}
use Rattle.e_figure.specs.declared.figure.Straight.{Straight}
use Rattle.e_figure.specs.declared.figure.Round.{Round}
use Rattle.e_figure.specs.Figure.{has_direction, has_inside, is_small_number, is_small_point, is_small_line, is_small_circle}
use Rattle.e_line.specs.declared.literal.RawLit.{RawLit}
use Rattle.e_line.specs.Canonical.{lits_words}
use Rattle.e_line.specs.Reading.{first_word, first_name, no_word_left}
use Rattle.e_line.specs.Literals.{is_diagram_raw, diagram_lits_of}
use Rattle.e_line.proofs.read_again.NamesAgain.{named}
use Rattle.e_line.proofs.read_again.LitsAgain.{LitNamed, lits_again, lits_tokens}
use Rattle.e_book.specs.Grammar.{is_skipped}
use Rattle.e_drawing.specs.declared.raw.RawLine.{RawLine}
use Rattle.e_drawing.specs.declared.raw.RawLine.TheVariants as raw
use Rattle.e_drawing.specs.Lines.{plan_point_of, straight_of, round_of, plan_line_named, plan_line_of}
use Rattle.e_drawing.specs.Spelled.{plan_line_words}
use Rattle.e_drawing.proofs.spelled.NumbersAgain.{next_coordinate, next_square, coordinate_token, square_token}

-- one literal of diagrams
abbrev pub LitDrawn : List RawLit → Type 0
LitDrawn [] = ⊥
LitDrawn (l ∷ []) = LitNamed l × (is_diagram_raw l.atom ≡ true)
LitDrawn (l ∷ m ∷ ls) = ⊥

-- what is known of the lines of a canonical text
abbrev pub LineDrawn : RawLine → Type 0
LineDrawn (raw.Point name a) = (is_name name ≡ true) × (is_small_point a ≡ true)
LineDrawn (raw.Line name l) = (is_name name ≡ true) × (is_small_line l ≡ true) × (has_direction l ≡ true)
LineDrawn (raw.Circle name c) = (is_name name ≡ true) × (is_small_circle c ≡ true) × (has_inside c ≡ true)
LineDrawn (raw.Given ls) = LitDrawn ls
LineDrawn (raw.Show ls) = LitDrawn ls
LineDrawn line = Unit {0}

-- ---- numbers, one by one

pub point_parts : (a : Point) → is_small_point a ≡ true → (is_small_number a.x ≡ true) × (is_small_number a.y ≡ true)
point_parts a h = and_parts (is_small_number a.x) (is_small_number a.y) h

pub line_parts : (l : Straight) → is_small_line l ≡ true → (is_small_number l.x ≡ true) × (is_small_number l.y ≡ true) × (is_small_number l.dx ≡ true) × (is_small_number l.dy ≡ true)
line_parts l h =
    let p = and_parts (is_small_number l.x) (is_small_number l.y && (is_small_number l.dx && is_small_number l.dy)) h in
    let q = and_parts (is_small_number l.y) (is_small_number l.dx && is_small_number l.dy) p.1 in
    let r = and_parts (is_small_number l.dx) (is_small_number l.dy) q.1 in
    (p.0, q.0, r.0, r.1)

pub circle_parts : (c : Round) → is_small_circle c ≡ true → (is_small_number c.x ≡ true) × (is_small_number c.y ≡ true) × (c.square ≤ 1000000000000)
circle_parts c h =
    let p = and_parts (is_small_number c.x) (is_small_number c.y && leb c.square 1000000000000) h in
    let q = and_parts (is_small_number c.y) (leb c.square 1000000000000) p.1 in
    (p.0, q.0, leb-true c.square 1000000000000 q.1)

-- ---- lines are read again

point_again : (name : List ℕ) (a : Point) → is_name name ≡ true → is_small_point a ≡ true → plan_point_of (name ∷ signed_decimal a.x ∷ signed_decimal a.y ∷ []) ≡ Ok (raw.Point name a)
unfolding plan_point_of first_name first_word no_word_left
point_again name a n h =
    let p = point_parts a h in
    rw (named name n, next_coordinate a.x (signed_decimal a.y ∷ []) p.0, next_coordinate a.y [] p.1) refl

straight_again : (name : List ℕ) (l : Straight) → is_name name ≡ true → is_small_line l ≡ true → has_direction l ≡ true
    → straight_of (name ∷ signed_decimal l.x ∷ signed_decimal l.y ∷ signed_decimal l.dx ∷ signed_decimal l.dy ∷ []) ≡ Ok (raw.Line name l)
unfolding straight_of first_name first_word no_word_left
straight_again name l n h d =
    let p = line_parts l h in
    rw (
      named name n,
      next_coordinate l.x (signed_decimal l.y ∷ signed_decimal l.dx ∷ signed_decimal l.dy ∷ []) p.0,
      next_coordinate l.y (signed_decimal l.dx ∷ signed_decimal l.dy ∷ []) p.1,
      next_coordinate l.dx (signed_decimal l.dy ∷ []) p.2,
      next_coordinate l.dy [] p.3,
      d,
    ) refl

round_again : (name : List ℕ) (c : Round) → is_name name ≡ true → is_small_circle c ≡ true → has_inside c ≡ true → round_of (name ∷ signed_decimal c.x ∷ signed_decimal c.y ∷ decimal c.square ∷ []) ≡ Ok (raw.Circle name c)
unfolding round_of first_name first_word no_word_left
round_again name c n h i =
    let p = circle_parts c h in
    rw (named name n, next_coordinate c.x (signed_decimal c.y ∷ decimal c.square ∷ []) p.0, next_coordinate c.y (decimal c.square ∷ []) p.1, next_square c.square [] p.2, i) refl

diagram_again : (l : RawLit) → LitNamed l → is_diagram_raw l.atom ≡ true → diagram_lits_of (lits_words (l ∷ [])) ≡ Ok (l ∷ [])
unfolding diagram_lits_of
diagram_again l h d = rw (lits_again (l ∷ []) (h, tt), d) refl

pub line_again : (f : RawLine) → LineDrawn f → plan_line_of (plan_line_words f) ≡ Ok f
unfolding plan_line_of plan_line_named no_word_left
line_again raw.Figure h = refl
line_again (raw.Point name a) h = point_again name a h.0 h.1
line_again (raw.Line name l) h = straight_again name l h.0 h.1 h.2
line_again (raw.Circle name c) h = round_again name c h.0 h.1 h.2
line_again (raw.Given []) h = absurd h
line_again (raw.Given (l ∷ [])) h = rw (diagram_again l h.0 h.1) refl
line_again (raw.Given (l ∷ m ∷ ls)) h = absurd h
line_again (raw.Show []) h = absurd h
line_again (raw.Show (l ∷ [])) h = rw (diagram_again l h.0 h.1) refl
line_again (raw.Show (l ∷ m ∷ ls)) h = absurd h
line_again raw.End h = refl

-- ---- and their words cut from their bytes

line_tokens : (f : RawLine) → LineDrawn f → AreTokens (plan_line_words f)
line_tokens raw.Figure h = (refl, tt)
line_tokens (raw.Point name a) h = let p = point_parts a h.1 in (refl, (is_token-name name h.0, (coordinate_token a.x p.0, (coordinate_token a.y p.1, tt))))
line_tokens (raw.Line name l) h =
    let p = line_parts l h.1 in
    (refl, (is_token-name name h.0, (coordinate_token l.x p.0, (coordinate_token l.y p.1, (coordinate_token l.dx p.2, (coordinate_token l.dy p.3, tt))))))
line_tokens (raw.Circle name c) h =
    let p = circle_parts c h.1 in
    (refl, (is_token-name name h.0, (coordinate_token c.x p.0, (coordinate_token c.y p.1, (square_token c.square p.2, tt)))))
line_tokens (raw.Given []) h = absurd h
line_tokens (raw.Given (l ∷ [])) h = (refl, lits_tokens (l ∷ []) (h.0, tt))
line_tokens (raw.Given (l ∷ m ∷ ls)) h = absurd h
line_tokens (raw.Show []) h = absurd h
line_tokens (raw.Show (l ∷ [])) h = (refl, lits_tokens (l ∷ []) (h.0, tt))
line_tokens (raw.Show (l ∷ m ∷ ls)) h = absurd h
line_tokens raw.End h = (refl, tt)

pub words_again : (f : RawLine) → LineDrawn f → tokens_of (joined_words (plan_line_words f)) ≡ plan_line_words f
words_again f h = tokens_of-joined (plan_line_words f) (line_tokens f h)

pub not_skipped : (f : RawLine) → is_skipped (plan_line_words f) ≡ false
not_skipped raw.Figure = refl
not_skipped (raw.Point name a) = refl
not_skipped (raw.Line name l) = refl
not_skipped (raw.Circle name c) = refl
not_skipped (raw.Given ls) = refl
not_skipped (raw.Show ls) = refl
not_skipped raw.End = refl
