-- The lines of blocks are short.
use Rattle.std.proofs.Common.{ℕ, List, [], ◌∷◌, ◌++◌, map, arith}
use Rattle.e_text.specs.Lines.{AreShort}
use Rattle.e_literal.specs.Use.{scope_of}
use Rattle.e_clause.specs.declared.cert.Version.{Version}
use Rattle.e_theorem.specs.Statements.{as_view}
use Rattle.e_deriv.specs.Script.{Script, bare_script}
use Rattle.e_deriv.specs.Goal.{goal_of_statement, facts_of_statement}
use Rattle.e_names.specs.TitledStatements.{TitledStatement}
use Rattle.e_book.specs.TheoremViews.{TheoremView}
use Rattle.e_line.specs.Canonical.{line_of}
use Rattle.e_names.specs.Canonical.{end_raw_line}
use Rattle.e_book.specs.Canonical.{head_raw_lines, names_of_proof}
use Rattle.e_names.proofs.resolution.Lookups.{in_order}
use Rattle.e_book.proofs.canonical.CanonicalRead.{started, begins}
use Rattle.e_spell.specs.Spelling.{script_lines, spelled_lines}
use Rattle.e_roundtrip.specs.Spelled.{CanBeSpelled}
use Rattle.e_roundtrip.proofs.Texts.SpelledIsRead.{stood}
use Rattle.e_judgement.specs.Judged.{with_theorem}
use Rattle.e_roundtrip.specs.Written.{AllCanBeSpelled}
use Rattle.e_roundtrip.proofs.Lengths.Rooms.{short_append}
use Rattle.e_roundtrip.proofs.Lengths.RawLineRooms.{short_end}
use Rattle.e_roundtrip.proofs.Lengths.HeadRooms.{IsFew, few_objects, length_next, short_head}
use Rattle.e_roundtrip.proofs.Lengths.ScriptRooms.{AllFew, short_script}

-- the lines of one block
short_block : (v : Version) (known : List TitledStatement) (t : TheoremView) (d : Script) → AllFew known → CanBeSpelled v known t d → AreShort 262144 (spelled_lines known t d)
short_block v known t d k c =
    let h = c.plain in
    let st = as_view t.statement in
    let o = in_order t.names h.point_names h.line_names h.circle_names h.fits.differ in
    let few = few_objects known (record t { script = bare_script d }) h in
    let script = script_lines known (names_of_proof t) d in
    let last = line_of end_raw_line ∷ [] in
    short_append (map line_of (head_raw_lines t)) (script ++ last) (short_head known (record t { script = bare_script d }) h) (short_append script last
    (short_script known (started t) (begins t) d (facts_of_statement st) (goal_of_statement st) k (omega (arith, few, length_next (scope_of st) st.made)) (stood v known t d c o)) (short_end, tt))

-- one more statement with few objects
one_more : (known : List TitledStatement) (t : TheoremView) → AllFew known → IsFew t.statement → AllFew (with_theorem known t)
one_more [] t k few = (few, tt)
one_more (h ∷ known) t k few = (k.0, one_more known t k.1 few)

-- the lines of blocks, one after the other
abbrev pub lines_of_blocks : List TitledStatement → List (TheoremView × Script) → List (List ℕ)
lines_of_blocks known [] = []
lines_of_blocks known (p ∷ ps) = spelled_lines known p.0 p.1 ++ lines_of_blocks (with_theorem known p.0) ps

-- the lines of all blocks
pub short_blocks : (v : Version) (known : List TitledStatement) (ps : List (TheoremView × Script)) → AllFew known → AllCanBeSpelled v known ps → AreShort 262144 (lines_of_blocks known ps)
short_blocks v known [] k h = tt
short_blocks v known (p ∷ ps) k h =
    let few = few_objects known (record p.0 { script = bare_script p.1 }) h.0.plain in
    short_append (spelled_lines known p.0 p.1) (lines_of_blocks (with_theorem known p.0) ps) (short_block v known p.0 p.1 k h.0) (short_blocks v (with_theorem known p.0) ps (one_more known p.0 k few) h.1)
