-- The raw line of each step, with the names of its objects.
use Rattle.std.specs.Prelude.{ℕ, Bool, true, false, Option, Some, None, List, [], ◌∷◌, map, codes}
use Rattle.std.specs.Prelude.{slice_index_or}
use Rattle.std.specs.Option.{option_map_or}
use Rattle.e_literal.specs.declared.object.Obj.{Obj}
use Rattle.e_literal.specs.declared.object.Term.{Term}
use Rattle.e_literal.specs.declared.object.Term.TheVariants as terms
use Rattle.e_literal.specs.declared.object.Mono.{Mono}
use Rattle.e_literal.specs.declared.literal.Atom.{Atom}
use Rattle.e_literal.specs.declared.literal.Atom.TheVariants as atoms
use Rattle.e_literal.specs.declared.literal.Lit.{Lit}
use Rattle.e_clause.specs.declared.cert.By.{By}
use Rattle.e_clause.specs.Instance.{name_of_rule}
use Rattle.e_construct.specs.declared.construction.Construction.{Construction}
use Rattle.e_construct.specs.declared.superpose.Superpose.{Superpose}
use Rattle.e_deriv.specs.declared.names.Names.{Names}
use Rattle.e_deriv.specs.Naming.{names_of_sort}
use Rattle.e_line.specs.declared.sum.RawTerm.{RawTerm}
use Rattle.e_line.specs.declared.sum.RawTerm.TheVariants as rawterms
use Rattle.e_line.specs.declared.sum.RawMono.{RawMono}
use Rattle.e_line.specs.declared.literal.RawLit.{RawLit}
use Rattle.e_line.specs.declared.literal.RawAtom.{RawAtom}
use Rattle.e_line.specs.declared.literal.RawAtom.TheVariants as raw
use Rattle.e_line.specs.declared.raw_line.RawLine.{RawLine}
use Rattle.e_line.specs.declared.raw_line.RawLine.TheVariants as rawlines
use Rattle.e_names.specs.TitledStatements.{TitledStatement, title_at}

-- ---- literals

-- what is written for an object without a name: no object that is in scope is one
abbrev pub missing_name : List ℕ
missing_name = codes "nameless"

-- the name of an object
abbrev pub name_at : List (List ℕ) → ℕ → List ℕ
name_at names i = slice_index_or names i missing_name

abbrev pub name_of_object : Names → Obj → List ℕ
name_of_object ns o = name_at (names_of_sort ns o.sort) o.num

abbrev pub raw_term : Names → Term → RawTerm
raw_term ns (terms.Seg a b) = rawterms.Seg (name_at ns.points a) (name_at ns.points b)
raw_term ns (terms.Ang a b c) =
    rawterms.Ang (name_at ns.points a) (name_at ns.points b) (name_at ns.points c)
raw_term ns (terms.Area a b c) =
    rawterms.Area (name_at ns.points a) (name_at ns.points b) (name_at ns.points c)
raw_term ns terms.Right = rawterms.Right

abbrev pub raw_mono : Names → Mono → RawMono
raw_mono ns m = record { coeff = m.coeff; term = raw_term ns m.term }

abbrev pub raw_sum : Names → List Mono → List RawMono
raw_sum ns ms = map (raw_mono ns) ms

-- an atom with the names of its objects
abbrev pub raw_atom : Names → Atom → RawAtom
raw_atom ns (atoms.On a l) = raw.On (name_at ns.points a) (name_at ns.lines l)
raw_atom ns (atoms.OnC a c) = raw.On (name_at ns.points a) (name_at ns.circles c)
raw_atom ns (atoms.Inside a c) = raw.Inside (name_at ns.points a) (name_at ns.circles c)
raw_atom ns (atoms.Center a c) = raw.Center (name_at ns.points a) (name_at ns.circles c)
raw_atom ns (atoms.Between a b c) =
    raw.Between (name_at ns.points a) (name_at ns.points b) (name_at ns.points c)
raw_atom ns (atoms.Same a b l) =
    raw.Same (name_at ns.points a) (name_at ns.points b) (name_at ns.lines l)
raw_atom ns (atoms.MeetLL l m) = raw.Meets (name_at ns.lines l) (name_at ns.lines m)
raw_atom ns (atoms.MeetLC l c) = raw.Meets (name_at ns.lines l) (name_at ns.circles c)
raw_atom ns (atoms.MeetCC c d) = raw.Meets (name_at ns.circles c) (name_at ns.circles d)
raw_atom ns (atoms.EqP a b) = raw.Equal (name_at ns.points a) (name_at ns.points b)
raw_atom ns (atoms.EqL l m) = raw.Equal (name_at ns.lines l) (name_at ns.lines m)
raw_atom ns (atoms.EqC c d) = raw.Equal (name_at ns.circles c) (name_at ns.circles d)
raw_atom ns (atoms.MagEq x y) = raw.SumsEqual (raw_sum ns x) (raw_sum ns y)
raw_atom ns (atoms.MagLt x y) = raw.SumsLess (raw_sum ns x) (raw_sum ns y)

-- the negation of X < Y is written Y <= X
abbrev pub raw_signed : Names → Bool → Atom → RawLit
raw_signed ns true (atoms.MagLt x y) =
    record { neg = false; atom = raw.SumsAtMost (raw_sum ns y) (raw_sum ns x) }
raw_signed ns neg a = record { neg = neg; atom = raw_atom ns a }

abbrev pub raw_of : Names → Lit → RawLit
raw_of ns l = raw_signed ns l.neg l.atom

-- the name of a rule
abbrev pub rule_name : ℕ → List ℕ
rule_name rule = option_map_or (λ n. n) (name_of_rule rule) []

abbrev pub given_raw_line : Names → Lit → RawLine
given_raw_line ns l = rawlines.Given (raw_of ns l ∷ [])

abbrev pub show_raw_line : Names → Lit → RawLine
show_raw_line ns l = rawlines.Show (raw_of ns l ∷ [])

abbrev pub by_raw_line : Names → By → RawLine
by_raw_line ns b = rawlines.By (rule_name b.rule) (map (name_of_object ns) b.args) (raw_of ns b.lit)

abbrev pub hence_raw_line : Names → Lit → RawLine
hence_raw_line ns l = rawlines.Hence (raw_of ns l)

-- the raw line of a construction, with names for the objects that it makes. Its words are those of
-- other shapes too where these have the same line: the sorts of the arguments tell them apart.
abbrev pub let_raw_line : Names → Construction → List (List ℕ) → RawLine
let_raw_line ns construction names =
    rawlines.Let (record {
      shapes = construction.shape ∷ [];
      new = names;
      args = map (name_of_object ns) construction.args;
      avoid = map (name_of_object ns) construction.avoid;
    })

-- what is given for a declared object of an earlier theorem: the name of an object, or a blank
abbrev pub argument_name : Names → Option Obj → Option (List ℕ)
argument_name ns None = None
argument_name ns (Some o) = Some (name_of_object ns o)

-- the raw line that uses the theorem at a place, by its title
abbrev pub apply_raw_line : List TitledStatement → Names → ℕ → List (Option Obj)
    → List (List ℕ) → RawLine
apply_raw_line known ns theorem args names =
    rawlines.Apply
    (record { title = title_at known theorem; args = map (argument_name ns) args; new = names })

abbrev pub claim_raw_line : Names → List Lit → RawLine
claim_raw_line ns shown = rawlines.Claim (map (raw_of ns) shown)

-- the names of a superposition's points and lines, in the order of its line
abbrev pub placed_names : Names → Superpose → List (List ℕ)
placed_names ns superposition =
    point 0 ∷ point 1 ∷ point 2 ∷ line 0 ∷ point 3 ∷ point 4 ∷ point 5 ∷ line 1 ∷ []
  where
    point : ℕ → List ℕ
    point i = name_at ns.points (slice_index_or superposition.points i 0)

    line : ℕ → List ℕ
    line i = name_at ns.lines (slice_index_or superposition.lines i 0)

-- the names before it are those of the objects and of the literals
abbrev pub superpose_raw_line : Names → Superpose → List (List ℕ) → List Lit → RawLine
superpose_raw_line ns superposition names shown =
    rawlines.Superpose
    (record { args = placed_names ns superposition; new = names; shown = map (raw_of ns) shown })

abbrev pub cases_raw_line : Names → Lit → RawLine
cases_raw_line ns lit = rawlines.Cases (raw_of ns lit)

abbrev pub else_raw_line : RawLine
else_raw_line = rawlines.Else

abbrev pub qed_raw_line : Names → List Obj → RawLine
qed_raw_line ns objects = rawlines.Qed (map (name_of_object ns) objects)

abbrev pub contradiction_raw_line : RawLine
contradiction_raw_line = rawlines.Contradiction

abbrev pub end_raw_line : RawLine
end_raw_line = rawlines.End
