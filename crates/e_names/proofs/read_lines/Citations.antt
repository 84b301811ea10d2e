-- What a citation that is read is known to be.
use Rattle.std.proofs.Common.{◌≡◌, ℕ, ◌+◌, Bool, true, false, cond, eqb, ◌&&◌, List, ◌++◌, length, take, drop, Option, Some, None, Ok, Err, refl, sym, ap, subst, ◌∙◌, arith, append_assoc, length-append}
use Rattle.std.specs.Prelude.{is_some, slice_get, option_and_then}
use Rattle.std.specs.Option.{option_map}
use Rattle.std.specs.List.{list_all}
use Rattle.std.proofs.Math.Seq.{take-append_seam, drop-append_seam}
use Rattle.std.proofs.lemmas.List.Folds.{list_all-append}
use Rattle.std.proofs.lemmas.List.{length-take-le, length-drop}
use Rattle.std.proofs.lemmas.Bool.{eqb-true, eq-eqb}
use Rattle.e_literal.specs.declared.object.Sort.{Sort}
use Rattle.e_literal.specs.declared.object.Sort.TheVariants.{Point, Line, Circle}
use Rattle.e_literal.specs.declared.object.Obj.{Obj}
use Rattle.e_literal.specs.Literal.{obj, is_in_scope}
use Rattle.e_literal.specs.Scopes.{same_sort}
use Rattle.e_literal.proofs.Sorts.{same_sort_self}
use Rattle.e_clause.specs.declared.rule.Sig.{Sig}
use Rattle.e_clause.specs.declared.cert.By.{By}
use Rattle.e_clause.specs.Rows.{Row}
use Rattle.e_clause.specs.Table.{table}
use Rattle.e_clause.specs.Instance.{all_of, arguments_fit, Inst, instance_of_row, number_of_rule}
use Rattle.e_clause.specs.Sigs.{sig_of}
use Rattle.e_clause.specs.RuleKinds.{is_diagram_rule}
use Rattle.e_deriv.specs.declared.names.Names.{Names}
use Rattle.e_deriv.specs.Steps.{is_citation}
use Rattle.e_line.specs.declared.fault.FaultKind.TheVariants.{UnknownName}
use Rattle.e_line.specs.declared.literal.RawLit.{RawLit}
use Rattle.e_line.specs.Reading.{◌>>=◌}
use Rattle.e_names.specs.Scope.{number_of_name, object_as, objects_as, args_in, by_in, known_rule, variables_of, right_count, lit_in, scope_of_names}
use Rattle.e_line.proofs.base.Bound.{bind_ok, ok_is, read_ok, each_length}
use Rattle.e_names.proofs.read_lines.InScope.{number_in_scope, lit_in_scope, each_all}

pub object_scope : (ns : Names) (sort : Sort) (name : List ℕ) (o : Obj) → object_as ns sort name ≡ Ok o → is_in_scope (scope_of_names ns) o ≡ true
unfolding object_as
object_scope ns sort name o e =
    let n = bind_ok (number_of_name ns sort name) (λ n. read_ok (obj sort n)) o e in
    subst (λ (x : Obj). is_in_scope (scope_of_names ns) x ≡ true) (ok_is (obj sort n.0) o n.2) (number_in_scope ns sort name n.0 n.1)

pub object_sort : (ns : Names) (sort : Sort) (name : List ℕ) (o : Obj) → object_as ns sort name ≡ Ok o → same_sort o.sort sort ≡ true
unfolding object_as
object_sort ns sort name o e =
    let n = bind_ok (number_of_name ns sort name) (λ n. read_ok (obj sort n)) o e in
    subst (λ (x : Obj). same_sort x.sort sort ≡ true) (ok_is (obj sort n.0) o n.2) (same_sort_self sort)

-- three parts of these lengths, one after the other
abbrev pub Parts : ℕ → ℕ → ℕ → List Obj → Type 0
Parts p l c args =
    (eqb (length args) (p + l + c) && (all_of Point (take p args) && (all_of Line (take l (drop p args)) && all_of Circle (drop (p + l) args)))) ≡ true

parts : (ps ls cs : List Obj) → all_of Point ps ≡ true → all_of Line ls ≡ true → all_of Circle cs ≡ true → Parts (length ps) (length ls) (length cs) (ps ++ ls ++ cs)
parts ps ls cs hp hl hc =
    let whole : (ps ++ ls) ++ cs ≡ ps ++ (ls ++ cs) = append_assoc ps ls cs in
    let n : eqb (length (ps ++ ls ++ cs)) (length ps + length ls + length cs) ≡ true = eq-eqb _ _ (length-append (ps ++ ls) cs ∙ ap (λ k. k + length cs) (length-append ps ls)) in
    let a : take (length ps) (ps ++ ls ++ cs) ≡ ps = ap (λ (l : List Obj). take (length ps) l) whole ∙ take-append_seam ps (ls ++ cs) in
    let b : drop (length ps) (ps ++ ls ++ cs) ≡ ls ++ cs = ap (λ (l : List Obj). drop (length ps) l) whole ∙ drop-append_seam ps (ls ++ cs) in
    let c : drop (length ps + length ls) (ps ++ ls ++ cs) ≡ cs = ap (λ k. drop k (ps ++ ls ++ cs)) (sym (length-append ps ls)) ∙ drop-append_seam (ps ++ ls) cs in
    rw (n, a, b, c, take-append_seam ls cs, hp, hl, hc) refl

parts_of : (p l c : ℕ) (ps ls cs : List Obj) → length ps ≡ p → length ls ≡ l → length cs ≡ c → Parts (length ps) (length ls) (length cs) (ps ++ ls ++ cs) → Parts p l c (ps ++ ls ++ cs)
parts_of p l c ps ls cs np nl nc h =
    subst (λ (x : ℕ). Parts x l c (ps ++ ls ++ cs)) np
    (subst (λ (x : ℕ). Parts (length ps) x c (ps ++ ls ++ cs)) nl (subst (λ (x : ℕ). Parts (length ps) (length ls) x (ps ++ ls ++ cs)) nc h))

pub record GoodArgs (ns : Names) (s : Sig) (args : List Obj) : Type 0 where
  pub within : list_all (is_in_scope (scope_of_names ns)) args ≡ true
  pub sorts : Parts s.points s.lines s.circles args

pub good_args : (ns : Names) (s : Sig) (names : List (List ℕ)) (args : List Obj) → length names ≡ s.points + s.lines + s.circles → args_in ns s names ≡ Ok args → GoodArgs ns s args
unfolding args_in
good_args ns s names args n e =
    let p = take s.points names in
    let l = take s.lines (drop s.points names) in
    let c = drop s.lines (drop s.points names) in
    let a = bind_ok (objects_as ns Point p) (λ ps. objects_as ns Line l >>= λ ls. objects_as ns Circle c >>= λ cs. read_ok (ps ++ ls ++ cs)) args e in
    let b = bind_ok (objects_as ns Line l) (λ ls. objects_as ns Circle c >>= λ cs. read_ok (a.0 ++ ls ++ cs)) args a.2 in
    let d = bind_ok (objects_as ns Circle c) (λ cs. read_ok (a.0 ++ b.0 ++ cs)) args b.2 in
    let within = is_in_scope (scope_of_names ns) in
    let wp = each_all (object_as ns Point) within (object_scope ns Point) p a.0 a.1 in
    let wl = each_all (object_as ns Line) within (object_scope ns Line) l b.0 b.1 in
    let wc = each_all (object_as ns Circle) within (object_scope ns Circle) c d.0 d.1 in
    let sp = each_all (object_as ns Point) (λ o. same_sort o.sort Point) (object_sort ns Point) p a.0 a.1 in
    let sl = each_all (object_as ns Line) (λ o. same_sort o.sort Line) (object_sort ns Line) l b.0 b.1 in
    let sc = each_all (object_as ns Circle) (λ o. same_sort o.sort Circle) (object_sort ns Circle) c d.0 d.1 in
    let np : length a.0 ≡ s.points = each_length (object_as ns Point) p a.0 a.1 ∙ length-take-le s.points names (omega (arith, n)) in
    let nl : length b.0 ≡ s.lines = each_length (object_as ns Line) l b.0 b.1 ∙ length-take-le s.lines (drop s.points names) (omega (arith, n, length-drop s.points names)) in
    let nc : length d.0 ≡ s.circles = each_length (object_as ns Circle) c d.0 d.1 ∙ omega (arith, n, length-drop s.points names, length-drop s.lines (drop s.points names)) in
    let here = parts_of s.points s.lines s.circles a.0 b.0 d.0 np nl nc (parts a.0 b.0 d.0 sp sl sc) in
    let all : list_all within (a.0 ++ b.0 ++ d.0) ≡ true = rw (list_all-append within (a.0 ++ b.0) d.0, list_all-append within a.0 b.0, wp, wl, wc) refl in
    subst (λ (x : List Obj). GoodArgs ns s x) (ok_is (a.0 ++ b.0 ++ d.0) args d.2) (record { within = all; sorts = here })

-- a row whose variables the arguments fit has an instance
has_instance : (o : Option Row) (s : Sig) (args : List Obj) → option_map (λ r. record { points = r.points; lines = r.lines; circles = r.circles }) o ≡ Some s → Parts s.points s.lines s.circles args
    → is_some (option_and_then (λ r. instance_of_row r args) o) ≡ true
has_instance None s args e h = absurd cc
has_instance (Some r) s args e h =
    let sig : Sig = record { points = r.points; lines = r.lines; circles = r.circles } in
    let is : Some sig ≡ Some s = e in
    let f : arguments_fit r args ≡ true = subst (λ (t : Sig). Parts t.points t.lines t.circles args) (sym (some_sig sig s is)) h in
    rw f refl where
      some_sig : (x y : Sig) → Some x ≡ Some y → x ≡ y
      some_sig x y e = cc

guarded : (b : Bool) (x r : ℕ) → cond b (read_ok x) (Err UnknownName) ≡ Ok r → (b ≡ true) × (x ≡ r)
guarded true x r e = (refl, ok_is x r e)
guarded false x r e = absurd cc

rule_is : (o : Option ℕ) (r : ℕ) → known_rule o ≡ Ok r → is_diagram_rule r ≡ true
rule_is None r e = absurd cc
rule_is (Some x) r e = let g = guarded (is_diagram_rule x) x r e in subst (λ (k : ℕ). is_diagram_rule k ≡ true) g.1 g.0

variables_are : (o : Option Sig) (s : Sig) → variables_of o ≡ Ok s → o ≡ Some s
variables_are None s e = absurd cc
variables_are (Some x) s e = ap (λ (y : Sig). Some y) (ok_is x s e)

pub counted : (b : Bool) (u : Unit {0}) → right_count b ≡ Ok u → b ≡ true
counted true u e = refl
counted false u e = absurd cc

pub by_fits : (ns : Names) (rule : List ℕ) (names : List (List ℕ)) (lit : RawLit) (b : By) → by_in ns rule names lit ≡ Ok b → is_citation (scope_of_names ns) b ≡ true
unfolding by_in Inst
by_fits ns rule names lit b e =
    let count : Sig → ℕ = λ s. s.points + s.lines + s.circles in
    let r = bind_ok (known_rule (number_of_rule rule)) (λ r. variables_of (sig_of r) >>= λ s. right_count (eqb (length names) (s.points + s.lines + s.circles)) >>= λ right. args_in ns s names >>= λ args. lit_in ns lit >>= λ l. read_ok (record { rule = r; args = args; lit = l })) b e in
    let s = bind_ok (variables_of (sig_of r.0)) (λ s. right_count (eqb (length names) (s.points + s.lines + s.circles)) >>= λ right. args_in ns s names >>= λ args. lit_in ns lit >>= λ l. read_ok (record { rule = r.0; args = args; lit = l })) b r.2 in
    let t = bind_ok (right_count (eqb (length names) (s.0.points + s.0.lines + s.0.circles))) (λ right. args_in ns s.0 names >>= λ args. lit_in ns lit >>= λ l. read_ok (record { rule = r.0; args = args; lit = l })) b s.2 in
    let a = bind_ok (args_in ns s.0 names) (λ args. lit_in ns lit >>= λ l. read_ok (record { rule = r.0; args = args; lit = l })) b t.2 in
    let l = bind_ok (lit_in ns lit) (λ l. read_ok (record { rule = r.0; args = a.0; lit = l })) b a.2 in
    let n = eqb-true (length names) (s.0.points + s.0.lines + s.0.circles) (counted _ t.0 t.1) in
    let g = good_args ns s.0 names a.0 n a.1 in
    let inst = has_instance (slice_get table r.0) s.0 a.0 (variables_are (sig_of r.0) s.0 s.1) g.sorts in
    subst (λ (x : By). is_citation (scope_of_names ns) x ≡ true) (ok_is (record { rule = r.0; args = a.0; lit = l.0 }) b l.2)
    (rw (rule_is (number_of_rule rule) r.0 r.1, g.within, lit_in_scope ns lit l.0 l.1, inst) refl)
