-- What holds between reading, spelling and verifying, whatever the code does.
use Rattle.std.specs.Prelude.{◌≡◌, ℕ, ◌+◌, IsTrue, List, [], ◌∷◌, ◌++◌, length, map, Some, Result}
use Rattle.std.specs.Prelude.{Ok}
use Rattle.std.specs.List.{list_all}
use Rattle.e_text.specs.Lines.{LineView, text_of_lines}
use Rattle.e_text.specs.declared.line.LineFault.{LineFault}
use Rattle.e_literal.specs.declared.object.Obj.{Obj}
use Rattle.e_literal.specs.declared.literal.Lit.{Lit}
use Rattle.e_literal.specs.Use.{StatementView}
use Rattle.e_clause.specs.declared.cert.Version.{Version}
use Rattle.e_clause.specs.declared.cert.Version.TheVariants.{One}
use Rattle.e_theorem.specs.declared.notion.Notion.{Notion}
use Rattle.e_theorem.specs.Notions.{literals_of_notion}
use Rattle.e_theorem.specs.Statements.{as_view}
use Rattle.e_deriv.specs.Script.{Script, bare_script}
use Rattle.e_deriv.specs.Parts.{filled_by}
use Rattle.e_deriv.specs.Certified.{Certified}
use Rattle.e_deriv.specs.Fitting.{is_small_statement}
use Rattle.e_deriv.specs.Versions.{has_certs_of}
use Rattle.e_deriv.specs.Written.{is_written_well}
use Rattle.e_line.specs.Names.{AreNames}
use Rattle.e_line.specs.declared.items.RawAs.{RawAs}
use Rattle.e_line.specs.declared.items.RawItem.TheVariants.{As}
use Rattle.e_line.specs.declared.items.ListHead.{ListHead}
use Rattle.e_line.specs.declared.items.ListHead.TheVariants.{Given, Show}
use Rattle.e_names.specs.declared.known.Known.{Known}
use Rattle.e_names.specs.Fits.{NamesDiffer}
use Rattle.e_names.specs.Scope.{scope_of_names, objects_of_sorts}
use Rattle.e_names.specs.Titled.{are_notions, notion_of}
use Rattle.e_names.specs.TitledStatements.{TitledStatement, stated_by}
use Rattle.e_book.specs.Open.{Head, Stating}
use Rattle.e_book.specs.Definitions.{PartialItem, InTheorem, after_listed_line}
use Rattle.e_book.specs.TheoremViews.{TheoremView}
use Rattle.e_book.specs.HasSpelling.{HasSpelling}
use Rattle.e_trim.specs.Trimmed.{trimmed_script}
use Rattle.e_read.specs.Text.{Derived, at_start, piece_from}
use Rattle.e_spell.specs.Spelling.{spelled_lines, spelling}
use Rattle.e_judgement.specs.declared.judgement.Judgement.TheVariants.{Verified, Garbled}
use Rattle.e_judgement.specs.Judged.{JudgesText}
use Rattle.e_roundtrip.specs.Formed.{Formed}
use Rattle.e_roundtrip.specs.Spelled.{ShowsEnded, CanBeSpelled}
use Rattle.e_roundtrip.specs.Written.{AllCanBeSpelled, AllCanBeVerified, SpellsProofs, judgement_of}
use Rattle.e_roundtrip.specs.Written.{derivation_text, entry_with}

-- ---- what is written out is what is meant

-- a head with these literals at the end of what a line gives or shows
abbrev pub with_listed : ListHead → List Lit → Head → Head
with_listed Given ls h =
    record h { statement = record h.statement { given = h.statement.given ++ ls } }
with_listed Show ls h =
    record h { statement = record h.statement { shown = h.statement.shown ++ ls } }
with_listed line ls h = h

-- The literals that an item means are written out in its line, and the line is read: so it adds to
-- the statement what its notion gives of the objects that it names, all of it, and nothing else.
abbrev pub ItemsAddWhatTheyMean : Type 0
ItemsAddWhatTheyMean =
    (known : Known) (h : Head) (n : ℕ) (line : ListHead) (raw : RawAs) (notion : Notion)
    (args : List Obj) (c : PartialItem) → AreNames h.names.points → AreNames h.names.lines
    → AreNames h.names.circles → NamesDiffer h.names → IsTrue (are_notions known.notions)
    → notion_of known.notions raw.title ≡ Some notion
    → objects_of_sorts h.names notion.declared raw.args ≡ Ok args
    → after_listed_line known (InTheorem (Stating h) n) line (As raw ∷ []) ≡ Ok c →
    let ls = literals_of_notion notion args (scope_of_names h.names)
    in c ≡ InTheorem (Stating (with_listed line ls h)) (n + length ls)

-- ---- what is read is spelled so

-- what is read in a version as a theorem with its derivation is spelled so: the lines are exactly
-- those of its one spelling
abbrev pub ReadIsSpelled : Type 0
ReadIsSpelled =
    (v : Version) (known : List TitledStatement) (last : ℕ) (t : TheoremView)
    (lines rest : List (Result LineView LineFault))
    → piece_from known last (at_start v) lines ≡ Ok (Derived t, rest)
    → ShowsEnded lines (spelled_lines known t t.script) rest

-- so their bytes are its one text: no other text is read as the same theorem with the same
-- derivation
abbrev pub ReadTextIsSpelled : Type 0
ReadTextIsSpelled =
    (v : Version) (known : List TitledStatement) (last : ℕ) (t : TheoremView)
    (lines rest : List (Result LineView LineFault))
    → piece_from known last (at_start v) lines ≡ Ok (Derived t, rest)
    → text_of_lines lines ≡ spelling known t t.script ++ text_of_lines rest

-- and the derivation can be spelled, whether its certificates certify or not: so what can be
-- spelled is what can be read
abbrev pub ReadCanBeSpelled : Type 0
ReadCanBeSpelled =
    (v : Version) (known : List TitledStatement) (last : ℕ) (t : TheoremView)
    (lines rest : List (Result LineView LineFault))
    → piece_from known last (at_start v) lines ≡ Ok (Derived t, rest)
    → CanBeSpelled v known t t.script

-- ---- what is spelled is read

-- a derivation that is certified, and whose certificates name literals that are well formed, is
-- formed
abbrev pub CertifiedIsFormed : Type 0
CertifiedIsFormed =
    (before : List StatementView) (t : StatementView) (d : Script) → Certified before t d
    → IsTrue (is_written_well d) → Formed before t d

-- the lines of a derivation's one spelling, whatever follows them, are read as the theorem with
-- that derivation
abbrev pub SpelledIsRead : Type 0
SpelledIsRead =
    (v : Version) (known : List TitledStatement) (last : ℕ) (t : TheoremView) (d : Script)
    (lines rest : List (Result LineView LineFault)) → CanBeSpelled v known t d
    → ShowsEnded lines (spelled_lines known t d) rest
    → piece_from known last (at_start v) lines ≡ Ok (Derived (record t { script = d }), rest)

-- a theorem that can be spelled still can when its blanks are filled: when its script is that of a
-- certified derivation without the certificates, which differs from its own only in the arguments
-- at the lines that use earlier theorems
abbrev pub FilledHasSpelling : Type 0
FilledHasSpelling =
    (known : List TitledStatement) (t : TheoremView) (d : Script) → HasSpelling known t
    → bare_script d ≡ filled_by (bare_script t.script) d
    → Certified (stated_by known) (as_view t.statement) d
    → HasSpelling known (record t { script = bare_script d })

-- and so it still can when the idle steps of a certified derivation of the first version are left
-- out
abbrev pub TrimmedHasSpelling : Type 0
TrimmedHasSpelling =
    (known : List TitledStatement) (t : TheoremView)
    → IsTrue (list_all is_small_statement (stated_by known))
    → HasSpelling known (record t { script = bare_script t.script }) → IsTrue (has_certs_of One t.script)
    → Certified (stated_by known) (as_view t.statement) t.script → HasSpelling known
    (record t {
      script = bare_script (trimmed_script (stated_by known) (as_view t.statement) t.script);
    })

-- ---- what is written is judged

-- what is written of derivations that can be spelled is a derivation text that is judged as their
-- verdicts say: verified, or bad at the first step that is not certified, and never garbled,
-- however long it is
abbrev pub WrittenIsJudged : Type 0
WrittenIsJudged =
    (v : Version) (ps : List (TheoremView × Script)) → AllCanBeSpelled v [] ps
    → JudgesText (derivation_text v ps) (judgement_of [] ps)

-- what is written of certified derivations is a derivation text that is judged verified, with their
-- number
abbrev pub WrittenIsVerified : Type 0
WrittenIsVerified =
    (v : Version) (ps : List (TheoremView × Script)) → AllCanBeVerified v [] ps
    → JudgesText (derivation_text v ps) (Verified (length ps))

-- and a text that is judged verified is so written: it spells proofs, and nothing else
abbrev pub VerifiedIsWritten : Type 0
VerifiedIsWritten = (text : List ℕ) (n : ℕ) → JudgesText text (Verified n) → SpellsProofs n text

-- ---- one text, one tree

-- a text spells at most one list of theorems with their derivations, and is of one version
abbrev pub OneTreeForOneText : Type 0
OneTreeForOneText =
    (v w : Version) (ps qs : List (TheoremView × Script)) → AllCanBeSpelled v [] ps
    → AllCanBeSpelled w [] qs → derivation_text v ps ≡ derivation_text w qs
    → (v ≡ w) × (map entry_with ps ≡ map entry_with qs)

-- a text in which a line is malformed at its place spells no proofs
abbrev pub GarbledSpellsNothing : Type 0
GarbledSpellsNothing =
    (text : List ℕ) (n line : ℕ) → JudgesText text (Garbled line) → SpellsProofs n text → ⊥
