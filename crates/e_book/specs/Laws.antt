-- What holds of the grammar, whatever the code does.
use Rattle.std.specs.Prelude.{◌≡◌, ℕ, false, IsTrue, List, [], ◌∷◌, ◌++◌, map, Some, None, Result}
use Rattle.std.specs.Prelude.{Ok, Err}
use Rattle.e_text.specs.Lines.{LineView}
use Rattle.e_text.specs.declared.line.LineFault.{LineFault}
use Rattle.e_literal.specs.declared.literal.Lit.{Lit}
use Rattle.e_literal.specs.Literal.{all_in_scope}
use Rattle.e_literal.specs.WellFormed.{is_well_formed}
use Rattle.e_deriv.specs.declared.names.Names.{Names}
use Rattle.e_line.specs.declared.fault.BookFault.{BookFault}
use Rattle.e_names.specs.declared.known.Known.{Known}
use Rattle.e_names.specs.Titled.{Titled, defines, are_notions}
use Rattle.e_book.specs.TheoremViews.{TheoremView}
use Rattle.e_book.specs.Definitions.{OfTheorem, OfNotion, item_from, IsWellFormedItem}
use Rattle.e_book.specs.FirstFault.{BreaksAt, IsFirst}
use Rattle.e_names.specs.Scope.{scope_of_names, lit_in}
use Rattle.e_names.specs.Fits.{NamesDiffer}
use Rattle.e_names.specs.Canonical.{raw_of}
use Rattle.e_line.specs.Canonical.{line_of}
use Rattle.e_book.specs.Canonical.{raw_lines_of}
use Rattle.e_line.specs.Names.{AreNames}
use Rattle.e_book.specs.HasSpelling.{HasSpelling}

-- the next lines begin with these texts, whatever their numbers and ends, and the rest follows
abbrev pub Shows : List (Result LineView LineFault) → List (List ℕ)
    → List (Result LineView LineFault) → Type 0
Shows lines [] rest = lines ≡ rest
Shows [] (text ∷ texts) rest = ⊥
Shows (Err f ∷ lines) (text ∷ texts) rest = ⊥
Shows (Ok l ∷ lines) (text ∷ texts) rest = (l.bytes ≡ text) × Shows lines texts rest

-- a theorem that has a spelling, and no definition's title, is read from its canonical lines, and
-- the lines after them are left
abbrev pub CanonicalLinesAreRead : Type 0
CanonicalLinesAreRead =
    (known : Known) (last : ℕ) (t : TheoremView) (lines rest : List (Result LineView LineFault))
    → IsTrue (are_notions known.notions) → HasSpelling known.theorems t
    → defines known.notions t.title ≡ false
    → Shows lines (map line_of (raw_lines_of known.theorems t)) rest
    → item_from known last None lines ≡ Ok (Some (OfTheorem t, rest))

-- and a theorem that is read, from whatever lines, has a spelling
abbrev pub ReadTheoremsHaveASpelling : Type 0
ReadTheoremsHaveASpelling =
    (known : Known) (last : ℕ) (t : TheoremView) (lines rest : List (Result LineView LineFault))
    → IsTrue (are_notions known.notions)
    → item_from known last None lines ≡ Ok (Some (OfTheorem t, rest)) → HasSpelling known.theorems t

-- a definition that is read has a title that nothing has, means something, and speaks of its
-- declared objects alone
abbrev pub ReadDefinitionsAreNotions : Type 0
ReadDefinitionsAreNotions =
    (known : Known) (last : ℕ) (n : Titled) (lines rest : List (Result LineView LineFault))
    → IsTrue (are_notions known.notions)
    → item_from known last None lines ≡ Ok (Some (OfNotion n, rest))
    → IsWellFormedItem known (OfNotion n)

-- Literals that are written out, with the names of their objects, are read as they were: so an item
-- means the literals of its notion, with its objects for the declared ones.
abbrev pub LiteralsAreReadAsNamed : Type 0
LiteralsAreReadAsNamed =
    (ns : Names) (l : Lit) → AreNames ns.points → AreNames ns.lines → AreNames ns.circles
    → NamesDiffer ns → IsTrue (all_in_scope (scope_of_names ns) l) → IsTrue (is_well_formed l)
    → lit_in ns (raw_of ns l) ≡ Ok l

-- a fault is the first: all lines before it are taken, or all lines are, and they end inside a
-- theorem or a definition
abbrev pub FaultIsFirst : Type 0
FaultIsFirst =
    (known : Known) (last : ℕ) (lines : List (Result LineView LineFault)) (fault : BookFault)
    → item_from known last None lines ≡ Err fault
    → IsFirst known last None lines fault

-- and a fault depends on the lines up to it alone: it is that fault whatever follows it
abbrev pub FaultIsOfTheFront : Type 0
FaultIsOfTheFront =
    (known : Known) (lines : List (Result LineView LineFault)) (fault : BookFault)
    (b : BreaksAt known None lines fault) (last : ℕ) (other : List (Result LineView LineFault))
    → item_from known last None (b.front ++ b.line ∷ other) ≡ Err fault
