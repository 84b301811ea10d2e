-- The canonical text of a figure with its literals.
use Rattle.std.specs.Prelude.{◌≡◌, ℕ, ◌≤◌, ◌<◌, Bool, true, ◌&&◌, List, [], ◌∷◌, ◌++◌, map, length}
use Rattle.std.specs.Prelude.{Ok, codes, decimal}
use Rattle.std.specs.Fmt.{signed_decimal}
use Rattle.std.specs.List.{list_all}
use Rattle.e_text.specs.Lines.{lf_text}
use Rattle.e_text.specs.Tokens.{joined_words}
use Rattle.e_literal.specs.declared.literal.Lit.{Lit}
use Rattle.e_literal.specs.Literal.{all_in_scope}
use Rattle.e_deriv.specs.declared.names.Names.{Names}
use Rattle.e_figure.specs.Figure.{FigureView, is_bounded, is_figure}
use Rattle.e_line.specs.Canonical.{lits_words}
use Rattle.e_line.specs.Names.{AreNames}
use Rattle.e_names.specs.Canonical.{raw_of}
use Rattle.e_names.specs.Fits.{NamesDiffer, is_diagram_lit}
use Rattle.e_names.specs.Scope.{scope_of_names}
use Rattle.e_drawing.specs.declared.plan.Place.TheVariants.{Done}
use Rattle.e_drawing.specs.declared.plan.Plan.{Plan}
use Rattle.e_drawing.specs.declared.raw.RawLine.{RawLine}
use Rattle.e_drawing.specs.declared.raw.RawLine.TheVariants as raw
use Rattle.e_drawing.specs.Plans.{FitsPlan}
use Rattle.e_drawing.specs.Texts.{plan_of}

-- ---- the words of a line: a name with its numbers in decimal, or literals

abbrev pub plan_line_words : RawLine → List (List ℕ)
plan_line_words raw.Figure = codes "figure" ∷ []
plan_line_words (raw.Point name a) =
    codes "point" ∷ name ∷ signed_decimal a.x ∷ signed_decimal a.y ∷ []
plan_line_words (raw.Line name l) =
    codes "line" ∷ name ∷ signed_decimal l.x ∷ signed_decimal l.y
    ∷ signed_decimal l.dx ∷ signed_decimal l.dy ∷ []
plan_line_words (raw.Circle name c) =
    codes "circle" ∷ name ∷ signed_decimal c.x ∷ signed_decimal c.y ∷ decimal c.square ∷ []
plan_line_words (raw.Given ls) = codes "given" ∷ lits_words ls
plan_line_words (raw.Show ls) = codes "show" ∷ lits_words ls
plan_line_words raw.End = codes "end" ∷ []

-- ---- the lines of a figure

-- a line for each object, with its name
abbrev pub named_lines : {A : Type 0} → (List ℕ → A → RawLine) → List (List ℕ) → List A
    → List RawLine
named_lines line (name ∷ names) (object ∷ objects) =
    line name object ∷ named_lines line names objects
named_lines line names objects = []

-- points, then lines, then circles
abbrev pub object_lines : Names → FigureView → List RawLine
object_lines ns d =
    named_lines raw.Point ns.points d.points
    ++ (named_lines raw.Line ns.lines d.lines ++ named_lines raw.Circle ns.circles d.circles)

-- a line for each literal
abbrev pub given_lines : Names → List Lit → List RawLine
given_lines ns ls = map (λ l. raw.Given (raw_of ns l ∷ [])) ls

abbrev pub shown_lines : Names → List Lit → List RawLine
shown_lines ns ls = map (λ l. raw.Show (raw_of ns l ∷ [])) ls

-- the objects, what is given, what is shown
abbrev pub lines_of_plan : Plan → List RawLine
lines_of_plan p =
    raw.Figure
    ∷ (object_lines p.names p.figure
    ++ (given_lines p.names p.given ++ (shown_lines p.names p.shown ++ raw.End ∷ [])))

-- its bytes: one space between two words, and a line feed after each line
abbrev pub text_of_plan : Plan → List ℕ
text_of_plan p = lf_text (map (λ line. joined_words (plan_line_words line)) (lines_of_plan p))

-- ---- which figures have a canonical text

-- a literal of diagrams over the objects that have these names
abbrev pub is_literal_of : Names → Lit → Bool
is_literal_of ns l = all_in_scope (scope_of_names ns) l && is_diagram_lit l

pub record HasCanonicalText (p : Plan) : Type 0 where
  -- each object has a name, and there are not too many
  pub fits : FitsPlan p
  pub point_names : AreNames p.names.points
  pub line_names : AreNames p.names.lines
  pub circle_names : AreNames p.names.circles
  pub names_differ : NamesDiffer p.names
  -- numbers are in their bounds, lines have a direction, and circles an inside
  pub bounded : is_bounded p.figure ≡ true
  pub figure : is_figure p.figure ≡ true
  pub given : list_all (is_literal_of p.names) p.given ≡ true
  pub shown : list_all (is_literal_of p.names) p.shown ≡ true
  pub some_shown : 0 < length p.shown
  -- its last line has come
  pub done : p.place ≡ Done
  -- the limit of bytes
  pub few_bytes : length (text_of_plan p) ≤ 4194304

-- the canonical text of each such figure is read as that figure, with its names and literals
abbrev pub CanonicalFigureIsRead : Type 0
CanonicalFigureIsRead = (p : Plan) → HasCanonicalText p → plan_of (text_of_plan p) ≡ Ok p
