-- The words of a citation in scope are read as that citation.
use Rattle.std.proofs.Common.{◌≡◌, ℕ, zero, suc, ◌+◌, Bool, true, false, cond, eqb, List, [], ◌∷◌, ◌++◌, length, take, drop, map, Option, Some, None, Ok, refl, ap, ◌∙◌, append_assoc}
use Rattle.std.specs.Prelude.{slice_get, is_some, option_and_then}
use Rattle.std.specs.Option.{option_map}
use Rattle.std.specs.List.{list_all}
use Rattle.std.proofs.lemmas.List.{length-map, drop-drop, take-append-drop}
use Rattle.std.proofs.lemmas.Bool.{and_parts}
use Rattle.e_text.specs.Names.{is_title}
use Rattle.e_literal.specs.declared.object.Sort.TheVariants.{Point, Line, Circle}
use Rattle.e_literal.specs.declared.object.Obj.{Obj}
use Rattle.e_literal.specs.declared.literal.Lit.{Lit}
use Rattle.e_literal.specs.Literal.{is_in_scope, all_in_scope}
use Rattle.e_clause.specs.declared.rule.Sig.{Sig}
use Rattle.e_clause.specs.declared.cert.By.{By}
use Rattle.e_clause.specs.Rows.{Row}
use Rattle.e_clause.specs.Table.{table}
use Rattle.e_clause.specs.Instance.{all_of, arguments_fit, Inst, instance_of_row, number_of_rule}
use Rattle.e_clause.specs.Sigs.{sig_of}
use Rattle.e_clause.proofs.Names.{found_by_name}
use Rattle.e_clause.specs.RuleKinds.{is_diagram_rule}
use Rattle.e_deriv.specs.declared.names.Names.{Names}
use Rattle.e_deriv.specs.Steps.{is_citation}
use Rattle.e_names.specs.Scope.{objects_as, args_in, by_in, known_rule, variables_of, scope_of_names}
use Rattle.e_names.specs.Canonical.{name_of_object, raw_of, rule_name, by_raw_line}
use Rattle.e_names.specs.Fits.{is_diagram_lit}
use Rattle.e_line.proofs.read_again.Respelled.{GoodForm}
use Rattle.e_names.proofs.resolution.Lookups.{InOrder, objects_again, objects_named}
use Rattle.e_names.proofs.resolution.LitLookups.{lit_number_again, lit_named, diagram_is_well_formed, diagram_is_raw}
use Rattle.e_names.proofs.resolution.RuleNames.{title_again, rule_name_is}

take_map : {A B : Type 0} (f : A → B) (n : ℕ) (xs : List A) → take n (map f xs) ≡ map f (take n xs)
take_map f zero xs = refl
take_map f (suc n) [] = refl
take_map {A} {B} f (suc n) (x ∷ xs) = ap (λ (l : List B). f x ∷ l) (take_map f n xs)

pub drop_map : {A B : Type 0} (f : A → B) (n : ℕ) (xs : List A) → drop n (map f xs) ≡ map f (drop n xs)
drop_map f zero xs = refl
drop_map f (suc n) [] = refl
drop_map f (suc n) (x ∷ xs) = drop_map f n xs

all_take : {A : Type 0} (p : A → Bool) (n : ℕ) (xs : List A) → list_all p xs ≡ true → list_all p (take n xs) ≡ true
all_take p zero xs h = refl
all_take p (suc n) [] h = refl
all_take p (suc n) (x ∷ xs) h = let b = and_parts (p x) (list_all p xs) h in rw (b.0, all_take p n xs b.1) refl

all_drop : {A : Type 0} (p : A → Bool) (n : ℕ) (xs : List A) → list_all p xs ≡ true → list_all p (drop n xs) ≡ true
all_drop p zero xs h = h
all_drop p (suc n) [] h = refl
all_drop p (suc n) (x ∷ xs) h = all_drop p n xs (and_parts (p x) (list_all p xs) h).1

-- what fits a row
record FitsRow (r : Row) (args : List Obj) : Type 0 where
  count : eqb (length args) (r.points + r.lines + r.circles) ≡ true
  points : all_of Point (take r.points args) ≡ true
  lines : all_of Line (take r.lines (drop r.points args)) ≡ true
  circles : all_of Circle (drop r.lines (drop r.points args)) ≡ true

fits_row : (r : Row) (args : List Obj) → arguments_fit r args ≡ true → FitsRow r args
fits_row r args h =
    let a = and_parts _ _ h in
    let b = and_parts _ _ a.1 in
    let c = and_parts _ _ b.1 in
    let same : drop r.lines (drop r.points args) ≡ drop (r.points + r.lines) args = drop-drop r.lines r.points args in
    record { count = a.0; points = b.0; lines = c.0; circles = ap (λ (l : List Obj). all_of Circle l) same ∙ c.1 }

fitted : (b : Bool) (x : List Lit) → is_some (cond b (Some x) None) ≡ true → b ≡ true
fitted true x h = refl
fitted false x h = absurd cc

row_of : (o : Option Row) (args : List Obj) → is_some (option_and_then (λ r. instance_of_row r args) o) ≡ true → (r : Row) × (o ≡ Some r) × FitsRow r args
row_of None args h = absurd cc
row_of (Some r) args h = (r, refl, fits_row r args (fitted (arguments_fit r args) _ h))

row_at : (rule : ℕ) (args : List Obj) → is_some (Inst rule args) ≡ true → (r : Row) × (slice_get table rule ≡ Some r) × FitsRow r args
unfolding Inst
row_at rule args h = row_of (slice_get table rule) args h

abbrev pub sig_of_row : Row → Sig
sig_of_row r = record { points = r.points; lines = r.lines; circles = r.circles }

args_again : (ns : Names) (r : Row) (args : List Obj) → InOrder ns → FitsRow r args → list_all (is_in_scope (scope_of_names ns)) args ≡ true → args_in ns (sig_of_row r) (map (name_of_object ns) args) ≡ Ok args
unfolding args_in
args_again ns r args s f h =
    let name = name_of_object ns in
    let within = is_in_scope (scope_of_names ns) in
    let rest = drop r.points args in
    let rest-is = drop_map name r.points args in
    let ps : objects_as ns Point (take r.points (map name args)) ≡ Ok (take r.points args) =
    ap (objects_as ns Point) (take_map name r.points args) ∙ objects_again ns Point (take r.points args) s (all_take within r.points args h) f.points in
    let ls : objects_as ns Line (take r.lines (drop r.points (map name args))) ≡ Ok (take r.lines rest) =
    ap (λ (l : List (List ℕ)). objects_as ns Line (take r.lines l)) rest-is ∙ ap (objects_as ns Line) (take_map name r.lines rest)
    ∙ objects_again ns Line (take r.lines rest) s (all_take within r.lines rest (all_drop within r.points args h)) f.lines in
    let cs : objects_as ns Circle (drop r.lines (drop r.points (map name args))) ≡ Ok (drop r.lines rest) =
    ap (λ (l : List (List ℕ)). objects_as ns Circle (drop r.lines l)) rest-is ∙ ap (objects_as ns Circle) (drop_map name r.lines rest)
    ∙ objects_again ns Circle (drop r.lines rest) s (all_drop within r.lines rest (all_drop within r.points args h)) f.circles in
    let whole : take r.points args ++ take r.lines rest ++ drop r.lines rest ≡ args =
    append_assoc (take r.points args) (take r.lines rest) (drop r.lines rest) ∙ ap (λ (l : List Obj). take r.points args ++ l) (take-append-drop r.lines rest) ∙ take-append-drop r.points args in
    rw (ps, ls, cs) (ap (λ (l : List Obj). Ok l) whole)

-- what a citation in scope is known to be
record Cited (ns : Names) (b : By) : Type 0 where
  diagram : is_diagram_rule b.rule ≡ true
  within : list_all (is_in_scope (scope_of_names ns)) b.args ≡ true
  lit : all_in_scope (scope_of_names ns) b.lit ≡ true
  row : Row
  at : slice_get table b.rule ≡ Some row
  fitting : FitsRow row b.args

cited : (ns : Names) (b : By) → is_citation (scope_of_names ns) b ≡ true → Cited ns b
cited ns b h =
    let p = and_parts _ _ h in
    let q = and_parts _ _ p.1 in
    let r = and_parts _ _ q.1 in
    let row = row_at b.rule b.args r.1 in
    record { diagram = p.0; within = q.0; lit = r.0; row = row.0; at = row.1; fitting = row.2 }

rule_again : (ns : Names) (b : By) (c : Cited ns b) → known_rule (number_of_rule (rule_name b.rule)) ≡ Ok b.rule
rule_again ns b c =
    ap (λ (w : List ℕ). known_rule (number_of_rule w)) (rule_name_is b.rule c.row c.at) ∙ ap known_rule (found_by_name b.rule c.row c.at) ∙ rw c.diagram refl

sig_again : (ns : Names) (b : By) (c : Cited ns b) → variables_of (sig_of b.rule) ≡ Ok (sig_of_row c.row)
sig_again ns b c = ap (λ (o : Option Row). variables_of (option_map (λ r. sig_of_row r) o)) c.at

pub by_number_again : (ns : Names) (b : By) → InOrder ns → is_citation (scope_of_names ns) b ≡ true → is_diagram_lit b.lit ≡ true
    → by_in ns (rule_name b.rule) (map (name_of_object ns) b.args) (raw_of ns b.lit) ≡ Ok b
unfolding by_in
by_number_again ns b s h d =
    let c = cited ns b h in
    let count : eqb (length (map (name_of_object ns) b.args)) (c.row.points + c.row.lines + c.row.circles) ≡ true = ap (λ n. eqb n (c.row.points + c.row.lines + c.row.circles)) (length-map b.args (name_of_object ns)) ∙ c.fitting.count in
    rw (rule_again ns b c, sig_again ns b c, count, args_again ns c.row b.args s c.fitting c.within, lit_number_again ns b.lit s c.lit (diagram_is_well_formed b.lit d)) refl

pub by_good : (ns : Names) (b : By) → InOrder ns → is_citation (scope_of_names ns) b ≡ true → is_diagram_lit b.lit ≡ true → GoodForm (by_raw_line ns b)
by_good ns b s h d =
    let c = cited ns b h in
    (ap is_title (rule_name_is b.rule c.row c.at) ∙ title_again b.rule c.row c.at, objects_named ns b.args s c.within, lit_named ns b.lit s c.lit (diagram_is_well_formed b.lit d), diagram_is_raw ns b.lit d)
