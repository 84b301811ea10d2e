-- The line of a transfer is read as its rule and its arguments.
use Rattle.std.proofs.Common.{◌≡◌, ℕ, zero, suc, ◌+◌, Bool, true, false, cond, eqb, List, [], ◌∷◌, ◌++◌, length, take, drop, map, Option, Some, None, Ok, refl, ap, ◌∙◌, append_assoc}
use Rattle.std.specs.Prelude.{slice_get, option_and_then}
use Rattle.std.specs.Option.{option_map}
use Rattle.std.specs.List.{list_all, AllByRecursion}
use Rattle.std.proofs.lemmas.List.{length-map, drop-drop, take-append-drop, take-map}
use Rattle.std.proofs.lemmas.Bool.{and_parts}
use Rattle.e_names.proofs.resolution.Cited.{drop_map, sig_of_row}
use Rattle.e_text.specs.Names.{is_title}
use Rattle.e_literal.specs.declared.object.Sort.TheVariants.{Point, Line, Circle}
use Rattle.e_literal.specs.declared.object.Obj.{Obj}
use Rattle.e_literal.specs.declared.literal.Lit.{Lit}
use Rattle.e_literal.specs.Literal.{is_in_scope}
use Rattle.e_literal.specs.Facts.{others}
use Rattle.e_clause.specs.declared.cert.Part.{Part}
use Rattle.e_clause.specs.declared.cert.TransferCert.{TransferCert}
use Rattle.e_clause.specs.Rows.{Row}
use Rattle.e_clause.specs.Table.{table}
use Rattle.e_clause.specs.Instance.{all_of, arguments_fit, lit_at, clause_of, Inst, instance_of_row, number_of_rule}
use Rattle.e_clause.specs.Sigs.{sig_of}
use Rattle.e_clause.specs.RuleKinds.{is_transfer}
use Rattle.e_clause.proofs.Names.{found_by_name}
use Rattle.e_deriv.specs.declared.names.Names.{Names}
use Rattle.e_names.specs.Scope.{scope_of_names, objects_as, args_in, variables_of}
use Rattle.e_names.specs.Canonical.{name_of_object, rule_name}
use Rattle.e_names.proofs.resolution.Lookups.{InOrder, objects_again}
use Rattle.e_names.proofs.resolution.RuleNames.{title_again, rule_name_is}
use Rattle.e_cert.specs.declared.owed.OpenTransfer.{OpenTransfer}
use Rattle.e_cert.specs.Owed.{transfer_at, open_transfer_in}
use Rattle.e_cert.specs.Rows.{transfer_rule}
use Rattle.e_roundtrip.proofs.Certificates.Feeding.{GoodPart}

-- ---- the row of the rule

-- what an instance is known to be
record OfRow (rule : ℕ) (args : List Obj) : Type 0 where
  row : Row
  at : slice_get table rule ≡ Some row
  fitting : arguments_fit row args ≡ true

fitted : (b : Bool) (x : List Lit) (lits : List Lit) → cond b (Some x) None ≡ Some lits → b ≡ true
fitted true x lits h = refl
fitted false x lits h = absurd cc

row_among : (o : Option Row) (args : List Obj) (lits : List Lit) → option_and_then (λ r. instance_of_row r args) o ≡ Some lits → (r : Row) × (o ≡ Some r) × (arguments_fit r args ≡ true)
row_among None args lits h = absurd cc
row_among (Some r) args lits h = (r, refl, fitted (arguments_fit r args) (map (lit_at r args) (clause_of r)) lits h)

of_row : (rule : ℕ) (args : List Obj) (lits : List Lit) → Inst rule args ≡ Some lits → OfRow rule args
unfolding Inst
of_row rule args lits h = let r = row_among (slice_get table rule) args lits h in record { row = r.0; at = r.1; fitting = r.2 }

pub rule_titled : (rule : ℕ) (args : List Obj) (lits : List Lit) → Inst rule args ≡ Some lits → is_title (rule_name rule) ≡ true
rule_titled rule args lits h = let r = of_row rule args lits h in ap is_title (rule_name_is rule r.row r.at) ∙ title_again rule r.row r.at

-- ---- arguments

-- what holds of all holds of the first of them, and of those after
all_cut : {A : Type 0} (p : A → Bool) (n : ℕ) (xs : List A) → list_all p xs ≡ true → (list_all p (take n xs) ≡ true) × (list_all p (drop n xs) ≡ true)
all_cut p zero xs h = (refl, h)
all_cut p (suc n) [] h = (refl, refl)
all_cut p (suc n) (x ∷ xs) h =
    let b = and_parts (p x) (list_all p xs) h in
    let c = all_cut p n xs b.1 in
    (rw (b.0, c.0) refl, c.1)

-- how many arguments fit, and what they are read as
record Arguments (ns : Names) (r : Row) (args : List Obj) : Type 0 where
  count : eqb (length (map (name_of_object ns) args)) (r.points + r.lines + r.circles) ≡ true
  read : args_in ns (sig_of_row r) (map (name_of_object ns) args) ≡ Ok args

arguments_read : (ns : Names) (r : Row) (args : List Obj) → InOrder ns → arguments_fit r args ≡ true → list_all (is_in_scope (scope_of_names ns)) args ≡ true → Arguments ns r args
unfolding args_in
arguments_read ns r args o h w =
    let name = name_of_object ns in
    let within = is_in_scope (scope_of_names ns) in
    let after = drop r.points args in
    let a = and_parts (eqb (length args) (r.points + r.lines + r.circles)) _ h in
    let b = and_parts (all_of Point (take r.points args)) _ a.1 in
    let c = and_parts (all_of Line (take r.lines after)) _ b.1 in
    let first = all_cut within r.points args w in
    let second = all_cut within r.lines after first.1 in
    let after-is = drop_map name r.points args in
    let last : drop r.lines after ≡ drop (r.points + r.lines) args = drop-drop r.lines r.points args in
    let ps : objects_as ns Point (take r.points (map name args)) ≡ Ok (take r.points args) = ap (objects_as ns Point) (take-map name r.points args) ∙ objects_again ns Point (take r.points args) o first.0 b.0 in
    let ls : objects_as ns Line (take r.lines (drop r.points (map name args))) ≡ Ok (take r.lines after) =
    ap (λ (l : List (List ℕ)). objects_as ns Line (take r.lines l)) after-is ∙ ap (objects_as ns Line) (take-map name r.lines after) ∙ objects_again ns Line (take r.lines after) o second.0 c.0 in
    let cs : objects_as ns Circle (drop r.lines (drop r.points (map name args))) ≡ Ok (drop r.lines after) =
    ap (λ (l : List (List ℕ)). objects_as ns Circle (drop r.lines l)) after-is ∙ ap (objects_as ns Circle) (drop_map name r.lines after)
    ∙ objects_again ns Circle (drop r.lines after) o second.1 (ap (all_of Circle) last ∙ c.1) in
    let whole : take r.points args ++ take r.lines after ++ drop r.lines after ≡ args =
    append_assoc (take r.points args) (take r.lines after) (drop r.lines after) ∙ ap (λ (l : List Obj). take r.points args ++ l) (take-append-drop r.lines after) ∙ take-append-drop r.points args in
    record {
      count = ap (λ n. eqb n (r.points + r.lines + r.circles)) (length-map args name) ∙ a.0;
      read = rw (ps, ls, cs) (ap (λ (l : List Obj). Ok l) whole);
    }

-- ---- the line

-- a transfer with a part for each other literal of its instance
pub record GoodTransfer (ns : Names) (l : Lit) (t : TransferCert) : Type 0 where
  pub rule : is_transfer t.rule ≡ true
  pub lits : List Lit
  pub instance : Inst t.rule t.args ≡ Some lits
  pub count : length t.parts ≡ length (others lits l)
  pub args : list_all (is_in_scope (scope_of_names ns)) t.args ≡ true
  pub parts : AllByRecursion (GoodPart ns) t.parts

-- a transfer with these of its parts
abbrev pub part_way : ℕ → List Obj → List Part → ℕ → OpenTransfer
part_way rule args done n = record { rule = rule; args = args; parts = done; owed = n }

pub transfer_again : (ns : Names) (l : Lit) (t : TransferCert) → InOrder ns → GoodTransfer ns l t
    → open_transfer_in ns l (rule_name t.rule) (map (name_of_object ns) t.args) ≡ Ok (part_way t.rule t.args [] (length t.parts))
unfolding open_transfer_in transfer_at
transfer_again ns l t o g =
    let r = of_row t.rule t.args g.lits g.instance in
    let a = arguments_read ns r.row t.args o r.fitting g.args in
    let rule : transfer_rule (number_of_rule (rule_name t.rule)) ≡ Ok t.rule =
    ap (λ (w : List ℕ). transfer_rule (number_of_rule w)) (rule_name_is t.rule r.row r.at) ∙ ap transfer_rule (found_by_name t.rule r.row r.at) ∙ rw g.rule refl in
    let sig : variables_of (sig_of t.rule) ≡ Ok (sig_of_row r.row) = ap (λ (x : Option Row). variables_of (option_map (λ r. sig_of_row r) x)) r.at in
    rw (rule, sig, a.count, a.read, g.instance, g.count) refl
