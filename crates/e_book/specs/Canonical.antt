-- The canonical spelling: the raw lines of each theorem, in order.
use Rattle.std.specs.Prelude.{ℕ, List, [], ◌∷◌, ◌++◌, map, if◌then◌else◌}
use Rattle.std.specs.List.{flat_map}
use Rattle.e_literal.specs.declared.object.Sort.{Sort}
use Rattle.e_literal.specs.declared.object.Obj.{Obj}
use Rattle.e_literal.specs.Scopes.{same_sort, nothing, next_objects}
use Rattle.e_literal.specs.Use.{scope_of}
use Rattle.e_construct.specs.Construct.{sorts_made}
use Rattle.e_construct.specs.Superposing as superposing
use Rattle.e_theorem.specs.declared.statement.Statement.{Statement}
use Rattle.e_theorem.specs.Statements.{as_view}
use Rattle.e_deriv.specs.declared.names.Names.{Names}
use Rattle.e_deriv.specs.Naming.{with_new_names, declared_names}
use Rattle.e_deriv.specs.Script.{Script, Cite, Hence, Make, Apply, Claim, Superposed, Qed}
use Rattle.e_deriv.specs.Script.{Contradiction, Cases}
use Rattle.e_line.specs.declared.raw_line.RawLine.{RawLine}
use Rattle.e_line.specs.declared.raw_line.RawLine.TheVariants as rawlines
use Rattle.e_names.specs.TitledStatements.{TitledStatement, theorem_of}
use Rattle.e_book.specs.TheoremViews.{TheoremView}
use Rattle.e_names.specs.Canonical.{name_of_object, given_raw_line, show_raw_line, by_raw_line}
use Rattle.e_names.specs.Canonical.{hence_raw_line, let_raw_line, apply_raw_line, claim_raw_line}
use Rattle.e_names.specs.Canonical.{superpose_raw_line, cases_raw_line, else_raw_line, qed_raw_line}
use Rattle.e_names.specs.Canonical.{contradiction_raw_line, end_raw_line}

-- ---- literals

-- names of objects of one sort, for one line
pub record Group : Type 0 where
  pub sort : Sort
  pub names : List (List ℕ)

abbrev pub group : Sort → List (List ℕ) → Group
group sort names = record { sort = sort; names = names }

-- one more object before the groups of the next ones: in the first group where it is of that sort
abbrev pub grouped_before : Sort → List ℕ → List Group → List Group
grouped_before sort name [] = group sort (name ∷ []) ∷ []
grouped_before sort name (g ∷ gs) =
    if same_sort sort g.sort then group g.sort (name ∷ g.names) ∷ gs else
    group sort (name ∷ []) ∷ g ∷ gs

-- objects in order, neighbours of one sort in one group
abbrev pub sort_groups : Names → List Obj → List Group
sort_groups ns [] = []
sort_groups ns (o ∷ os) = grouped_before o.sort (name_of_object ns o) (sort_groups ns os)

abbrev pub declare_raw_line : Group → RawLine
declare_raw_line g = rawlines.Declare g.sort g.names

abbrev pub made_raw_line : Group → RawLine
made_raw_line g = rawlines.Made g.sort g.names

-- the declared objects of a statement, in order
abbrev pub declared_objects : Statement → List Obj
declared_objects t = next_objects nothing t.declared

-- its made objects, which take the next numbers
abbrev pub made_objects : Statement → List Obj
made_objects t = next_objects (scope_of (as_view t)) t.made

-- what is given: one raw line for each group of declared objects, and one for each given literal
abbrev pub given_raw_lines : Names → Statement → List RawLine
given_raw_lines ns t =
    map declare_raw_line (sort_groups ns (declared_objects t)) ++ map (given_raw_line ns) t.given

-- what is shown: one raw line for each group of made objects, and one for each shown literal
abbrev pub shown_raw_lines : Names → Statement → List RawLine
shown_raw_lines ns t =
    map made_raw_line (sort_groups ns (made_objects t)) ++ map (show_raw_line ns) t.shown

-- from the title to the word proof
abbrev pub head_raw_lines : TheoremView → List RawLine
head_raw_lines t =
    rawlines.Theorem t.title
    ∷ (given_raw_lines t.names t.statement
    ++ (shown_raw_lines t.names t.statement ++ rawlines.Proof ∷ []))

-- the raw lines of a script, where these names are in scope before the first: those of new objects
-- come into scope after the line that makes them, and those of an inner block are gone after it
unfoldable pub script_raw_lines : List TitledStatement → Names → Script → List RawLine
script_raw_lines known ns (Cite by rest) = by_raw_line ns by ∷ script_raw_lines known ns rest
script_raw_lines known ns (Hence lit cert rest) =
    hence_raw_line ns lit ∷ script_raw_lines known ns rest
script_raw_lines known ns (Make construction names certs rest) =
    let_raw_line ns construction names
    ∷ script_raw_lines known (with_new_names ns (sorts_made construction) names) rest
script_raw_lines known ns (Apply theorem args names certs rest) =
    apply_raw_line known ns theorem args names
    ∷ script_raw_lines known (with_new_names ns (theorem_of known theorem).made names) rest
script_raw_lines known ns (Claim shown inner rest) =
    claim_raw_line ns shown ∷ (script_raw_lines known ns inner ++ script_raw_lines known ns rest)
script_raw_lines known ns (Superposed superposition names shown certs inner rest) =
    superpose_raw_line ns superposition names shown ∷ (script_raw_lines known
    (with_new_names ns superposing.sorts_copied names) inner ++ script_raw_lines known ns rest)
script_raw_lines known ns (Qed objects certs) = qed_raw_line ns objects ∷ []
script_raw_lines known ns (Contradiction against) = contradiction_raw_line ∷ []
script_raw_lines known ns (Cases lit first second) =
    cases_raw_line ns lit
    ∷ (script_raw_lines known ns first ++ else_raw_line ∷ script_raw_lines known ns second)

-- the names that a theorem's proof begins with: those of the declared objects
abbrev pub names_of_proof : TheoremView → Names
names_of_proof t = declared_names (as_view t.statement) t.names

-- the raw lines of a theorem after those that are known, in order
abbrev pub raw_lines_of : List TitledStatement → TheoremView → List RawLine
raw_lines_of known t =
    head_raw_lines t ++ (script_raw_lines known (names_of_proof t) t.script ++ end_raw_line ∷ [])

-- lines, each ended by a line feed
abbrev pub text_of : List (List ℕ) → List ℕ
text_of lines = flat_map (λ line. line ++ 10 ∷ []) lines
