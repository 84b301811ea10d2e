-- The names of rules are short, and rules have few variables.
use Rattle.std.proofs.Common.{◌≡◌, ℕ, zero, suc, ◌+◌, ◌≤◌, Bool, true, false, cond, leb, eqb, List, [], ◌∷◌, length, map, Option, Some, None, is_some, refl, sym, ap, ◌∙◌, arith}
use Rattle.std.specs.Prelude.{slice_get, option_and_then}
use Rattle.std.specs.Option.{option_map, option_map_or}
use Rattle.std.specs.List.{list_all}
use Rattle.std.proofs.lemmas.Bool.{leb-true, eqb-true, and_parts}
use Rattle.e_literal.specs.declared.object.Obj.{Obj}
use Rattle.e_literal.specs.declared.literal.Lit.{Lit}
use Rattle.e_clause.specs.Rows.{Row}
use Rattle.e_clause.specs.Table.{table}
use Rattle.e_clause.specs.Table.Incidence.{incidence}
use Rattle.e_clause.specs.Table.Sides.{sides}
use Rattle.e_clause.specs.Table.Circles.{circles}
use Rattle.e_clause.specs.Table.Equality.{equality}
use Rattle.e_clause.specs.Table.Lengths.{lengths}
use Rattle.e_clause.specs.Table.Angles.{angles}
use Rattle.e_clause.specs.Instance.{arguments_fit, lit_at, clause_of, instance_of_row, Inst}
use Rattle.e_names.specs.Canonical.{rule_name}
use Rattle.e_names.proofs.resolution.RuleNames.{title_again, rule_name_is}
use Rattle.e_roundtrip.proofs.Lengths.Rooms.{is_short, short_title}

-- ---- names

short_by : (n : ℕ) (o : Option Row) → slice_get table n ≡ o → is_short 24 (rule_name n) ≡ true
short_by n None at = ap (λ (o : Option Row). is_short 24 (option_map_or (λ x. x) (option_map (λ y. y.name) o) [])) at
short_by n (Some r) at = ap (is_short 24) (rule_name_is n r at) ∙ short_title r.name (title_again n r at)

-- the name of a rule, or no word past the last
pub short_rule : (n : ℕ) → is_short 24 (rule_name n) ≡ true
short_rule n = short_by n (slice_get table n) refl

-- ---- variables

-- at most 16 variables
abbrev has_few : Row → Bool
has_few r = leb (r.points + r.lines + r.circles) 16

-- each row of the table has few
all_few : list_all has_few table ≡ true
unfolding table incidence sides circles equality lengths angles
all_few = refl

few_in : (rows : List Row) (n : ℕ) (r : Row) → list_all has_few rows ≡ true → slice_get rows n ≡ Some r → has_few r ≡ true
few_in [] n r h at = absurd cc
few_in (x ∷ rows) zero r h at = let same : x ≡ r = cc in ap has_few (sym same) ∙ (and_parts (has_few x) (list_all has_few rows) h).0
few_in (x ∷ rows) (suc n) r h at = few_in rows n r (and_parts (has_few x) (list_all has_few rows) h).1 at

fitted : (b : Bool) (x lits : List Lit) → cond b (Some x) None ≡ Some lits → b ≡ true
fitted true x lits h = refl
fitted false x lits h = absurd cc

few_by : (o : Option Row) (args : List Obj) (lits : List Lit) → ((r : Row) → o ≡ Some r → has_few r ≡ true) → option_and_then (λ r. instance_of_row r args) o ≡ Some lits → length args ≤ 16
few_by None args lits h e = absurd cc
few_by (Some r) args lits h e =
    let fit = fitted (arguments_fit r args) (map (lit_at r args) (clause_of r)) lits e in
    let n = eqb-true (length args) (r.points + r.lines + r.circles) (and_parts (eqb (length args) (r.points + r.lines + r.circles)) _ fit).0 in
    omega (arith, n, leb-true (r.points + r.lines + r.circles) 16 (h r refl))

-- an instance has few arguments
pub few_arguments : (rule : ℕ) (args : List Obj) (lits : List Lit) → Inst rule args ≡ Some lits → length args ≤ 16
unfolding Inst
few_arguments rule args lits h = few_by (slice_get table rule) args lits (λ r at. few_in table rule r all_few at) h

some_of : {A : Type 0} (o : Option A) → is_some o ≡ true → (x : A) × (o ≡ Some x)
some_of None h = absurd cc
some_of (Some x) h = (x, refl)

-- so has a rule that is cited
pub few_cited : (rule : ℕ) (args : List Obj) → is_some (Inst rule args) ≡ true → length args ≤ 16
few_cited rule args h = let i = some_of (Inst rule args) h in few_arguments rule args i.0 i.1
