-- A kept line is certified after the kept steps alone.
use Rattle.std.proofs.Common.{◌≡◌, ◌≤◌, List, [], ◌∷◌, ◌++◌, map, refl, sym, ap, ◌∙◌, subst, arith, Bool, true, false, ◌&&◌, not, true≢false, inl, inr, ◌⊎◌, Option, Some, None}
use Rattle.std.specs.Prelude.{is_some}
use Rattle.std.specs.Option.{option_map_or}
use Rattle.std.specs.List.{list_all, list_any}
use Rattle.std.proofs.lemmas.Bool.{and_parts, and_from, cases_lt, ltb-true, lt-ltb}
use Rattle.std.proofs.lemmas.List.{append_assoc}
use Rattle.e_literal.specs.declared.object.Obj.{Obj}
use Rattle.e_literal.specs.declared.object.Scope.{Scope}
use Rattle.e_literal.specs.declared.object.Sort.{Sort}
use Rattle.e_literal.specs.declared.literal.Lit.{Lit}
use Rattle.e_literal.specs.Literal.{negation, count_of, is_in_scope, all_in_scope}
use Rattle.e_literal.specs.Scopes.{with_sorts, next_objects}
use Rattle.e_literal.specs.Facts.{has, has_all, others, with_facts}
use Rattle.e_literal.specs.Rename.{same_obj}
use Rattle.e_literal.proofs.Sorts.{same_obj_self}
use Rattle.e_construct.proofs.Moving.{grows}
use Rattle.e_literal.specs.Use.{StatementView, scope_of, is_statement}
use Rattle.e_clause.specs.declared.cert.By.{By}
use Rattle.e_clause.specs.Instance.{Inst}
use Rattle.e_clause.specs.RuleKinds.{is_diagram_rule}
use Rattle.e_clause.specs.Citing.{is_citation, instance_gives, is_cited}
use Rattle.e_deriv.specs.Goal.{Goal, goal_of, goal_of_statement}
use Rattle.e_trim.specs.Looked.{Wants, of_citation}
use Rattle.e_trim.specs.Trimmed.{supplies, is_needed, obj_at, lit_among_kept, by_at, declared_of}
use Rattle.e_trim.proofs.renumbering.FormsOfSteps.{next_in}
use Rattle.e_trim.proofs.renumbering.Members.{In, in_left, in_right, in_either, any_in, of_filter}
use Rattle.e_trim.proofs.renumbering.Counting.{Bound, scope_kept, bound_more, bound_wide, next_above}
use Rattle.e_trim.proofs.renumbering.LitsAt.{AllKept, OverLit, OverLits, scope_over, objects_scope, has_at, others_at, negations_at}
use Rattle.e_trim.proofs.kept_certificates.Staying.{Stays, still_has, joins_all, dropped_all, comes, lit_stays, over_more}
use Rattle.e_trim.proofs.kept_certificates.TermsStay.{Covered}
use Rattle.e_trim.proofs.renumbering.InstancesAt.{inst_at, inst_over}

map_or_is : {X : Type 0} (f : X → Bool) (o : Option X) → option_map_or f o false ≡ true → (x : X) × (o ≡ Some x) × (f x ≡ true)
map_or_is f None e = absurd (true≢false (sym e))
map_or_is f (Some x) e = (x, refl, e)

-- ---- citations

-- each of the literals is looked up, and was a fact: it is one still
all_still : (kept : List Obj) (facts now looked ls : List Lit) → Stays kept facts now looked → OverLits kept ls → ((l : Lit) → In l ls → has looked l ≡ true) → has_all facts ls ≡ true → has_all now (map (lit_among_kept kept) ls) ≡ true
all_still kept facts now looked [] st o up h = refl
all_still kept facts now looked (l ∷ ls) st o up h =
    let p = and_parts (has facts l) (has_all facts ls) h in
    and_from (has now (lit_among_kept kept l)) (has_all now (map (lit_among_kept kept) ls)) (still_has kept facts now looked l st (up l (inl refl)) (o l (inl refl)) p.0)
    (all_still kept facts now looked ls st (λ m i. o m (inr i)) (λ m i. up m (inr i)) p.1)

negated_over : (kept : List Obj) (ls : List Lit) → OverLits kept ls → OverLits kept (map negation ls)
negated_over kept [] o m i = absurd i
negated_over kept (l ∷ ls) o m (inl e) = subst (OverLit kept) e (o l (inl refl))
negated_over kept (l ∷ ls) o m (inr i) = negated_over kept ls (λ x j. o x (inr j)) m i

pub citation_fits : (kept : List Obj) (s : Scope) (by : By) → is_citation s by ≡ true → AllKept kept by.args → OverLit kept by.lit → is_citation (scope_kept kept) (by_at kept by) ≡ true
citation_fits kept s by h k o =
    let p = and_parts (is_diagram_rule by.rule) (list_all (is_in_scope s) by.args && (all_in_scope s by.lit && is_some (Inst by.rule by.args))) h in
    let q = and_parts (list_all (is_in_scope s) by.args) (all_in_scope s by.lit && is_some (Inst by.rule by.args)) p.1 in
    let r = and_parts (all_in_scope s by.lit) (is_some (Inst by.rule by.args)) q.1 in
    let i = there (Inst by.rule by.args) r.1 in
    and_from (is_diagram_rule by.rule) (list_all (is_in_scope (scope_kept kept)) (map (obj_at kept) by.args) && (all_in_scope (scope_kept kept) (lit_among_kept kept by.lit) && is_some (Inst by.rule (map (obj_at kept) by.args)))) p.0
    (and_from (list_all (is_in_scope (scope_kept kept)) (map (obj_at kept) by.args)) (all_in_scope (scope_kept kept) (lit_among_kept kept by.lit) && is_some (Inst by.rule (map (obj_at kept) by.args))) (objects_scope kept by.args k)
    (and_from (all_in_scope (scope_kept kept) (lit_among_kept kept by.lit)) (is_some (Inst by.rule (map (obj_at kept) by.args))) (scope_over kept by.lit o)
    (ap is_some (inst_at kept by.rule by.args i.0 k i.1))))
  where
    there : (x : Option (List Lit)) → is_some x ≡ true → (ls : List Lit) × (x ≡ Some ls)
    there None e = absurd (true≢false (sym e))
    there (Some ls) e = (ls, refl)

pub cited_still : (kept : List Obj) (facts now looked : List Lit) (by : By) → Stays kept facts now looked → AllKept kept by.args → OverLit kept by.lit → Covered kept looked (of_citation by) → is_cited facts by ≡ true → is_cited now (by_at kept by) ≡ true
cited_still kept facts now looked by st k o c h =
    let a = map_or_is (instance_gives facts by.lit) (Inst by.rule by.args) h in
    let lits = a.0 in
    let p = and_parts (has lits by.lit) (has_all facts (map negation (others lits by.lit))) a.2 in
    let over = inst_over kept by.rule by.args lits k a.1 in
    let rest = others lits by.lit in
    let rest_over : OverLits kept rest = λ m i. over m (of_filter (λ (x : Lit). not (Rattle.e_literal.specs.Same.same_lit x by.lit)) m lits i).0 in
    let up : (l : Lit) → In l (map negation rest) → has looked l ≡ true
    = λ l i. c.lits l (subst (λ x. In l (option_map_or (λ ls. map negation (others ls by.lit)) x [])) (sym a.1) i) in
    let lits' = map (lit_among_kept kept) lits in
    let moved : map negation (others lits' (lit_among_kept kept by.lit)) ≡ map (lit_among_kept kept) (map negation rest) = ap (map negation) (others_at kept lits by.lit over o) ∙ negations_at kept rest in
    ap (λ x. option_map_or (instance_gives now (lit_among_kept kept by.lit)) x false) (inst_at kept by.rule by.args lits k a.1)
    ∙ and_from (has lits' (lit_among_kept kept by.lit)) (has_all now (map negation (others lits' (lit_among_kept kept by.lit)))) (has_at kept lits by.lit over o ∙ p.0)
    (ap (has_all now) moved ∙ all_still kept facts now looked (map negation rest) st (negated_over kept rest rest_over) up p.1)

-- ---- the goal of a block, before and now

-- that of a claim or a superposition, over the kept objects
pub record ShownGoes (kept : List Obj) (goal now : Goal) : Type 0 where
  pub shown : List Lit
  pub before : goal ≡ goal_of shown
  pub after : now ≡ goal_of (map (lit_among_kept kept) shown)
  pub over : OverLits kept shown

-- or that of the statement, whose declared objects are the first kept ones
pub record StatementGoes (kept : List Obj) (s : Scope) (goal now : Goal) : Type 0 where
  pub statement : StatementView
  pub before : goal ≡ goal_of_statement statement
  pub after : now ≡ goal_of_statement statement
  pub more : List Obj
  pub first : kept ≡ declared_of statement ++ more
  pub above : (o : Obj) → In o more → count_of (scope_of statement) o.sort ≤ o.num
  pub wide : (x : Sort) → count_of (scope_of statement) x ≤ count_of s x
  pub good : is_statement statement ≡ true

abbrev pub GoalGoes : List Obj → Scope → Goal → Goal → Type 0
GoalGoes kept s goal now = ShownGoes kept goal now ⊎ StatementGoes kept s goal now

-- ---- what holds before a script and before what is left of it

pub record Ready (kept : List Obj) (s : Scope) (facts now : List Lit) (goal goal' : Goal) (w : Wants) : Type 0 where
  pub stays : Stays kept facts now w.lits
  pub needed : (o : Obj) → In o w.objects → is_in_scope s o ≡ true → In o kept
  pub bound : Bound s kept
  pub goes : GoalGoes kept s goal goal'

-- ---- more objects

-- the goal goes on where objects come that are kept
pub goal_grows : (kept : List Obj) (s : Scope) (xs : List Sort) (goal now : Goal) → Bound s kept → GoalGoes kept s goal now → GoalGoes (kept ++ next_objects s xs) (with_sorts s xs) goal now
goal_grows kept s xs goal now b (inl g) =
    inl (record { shown = g.shown; before = g.before; after = g.after ∙ ap goal_of (old_lits kept s xs g.shown b g.over); over = λ l i. over_more kept (next_objects s xs) l (g.over l i) })
  where
    old_lits : (kept : List Obj) (s : Scope) (xs : List Sort) (ls : List Lit) → Bound s kept → OverLits kept ls → map (lit_among_kept kept) ls ≡ map (lit_among_kept (kept ++ next_objects s xs)) ls
    old_lits kept s xs [] b o = refl
    old_lits kept s xs (l ∷ ls) b o =
        ap (λ x. x ∷ map (lit_among_kept kept) ls) (sym (lit_stays kept s xs l b (o l (inl refl)))) ∙ ap (λ ys. lit_among_kept (kept ++ next_objects s xs) l ∷ ys) (old_lits kept s xs ls b (λ m i. o m (inr i)))
goal_grows kept s xs goal now b (inr g) = inr (record {
  statement = g.statement;
  before = g.before;
  after = g.after;
  more = g.more ++ next_objects s xs;
  first = ap (λ ks. ks ++ next_objects s xs) g.first ∙ append_assoc (declared_of g.statement) g.more (next_objects s xs);
  above = λ o i. elim (in_either o g.more (next_objects s xs) i) [
    | inl j ↦ g.above o j
    | inr j ↦ (let a = next_above s xs o j in let w = g.wide o.sort in omega (arith, a, w))
  ];
  wide = λ x. (let w = g.wide x in let c = grows s xs x in omega (arith, w, c));
  good = g.good;
})

-- and where objects come that are not
pub goal_widens : (kept : List Obj) (s : Scope) (xs : List Sort) (goal now : Goal) → GoalGoes kept s goal now → GoalGoes kept (with_sorts s xs) goal now
goal_widens kept s xs goal now (inl g) = inl g
goal_widens kept s xs goal now (inr g) = inr (record {
  statement = g.statement;
  before = g.before;
  after = g.after;
  more = g.more;
  first = g.first;
  above = g.above;
  wide = λ x. (let w = g.wide x in let c = grows s xs x in omega (arith, w, c));
  good = g.good;
})

-- a kept step that makes objects: what it gives joins on both sides, over the new objects too
pub made_ready : (kept : List Obj) (s : Scope) (xs : List Sort) (facts now ls : List Lit) (goal goal' : Goal) (w : Wants) → OverLits (kept ++ next_objects s xs) ls → Ready kept s facts now goal goal' w
    → Ready (kept ++ next_objects s xs) (with_sorts s xs) (with_facts facts ls) (with_facts now (map (lit_among_kept (kept ++ next_objects s xs)) ls)) goal goal' w
made_ready kept s xs facts now ls goal goal' w o r = record {
  stays = joins_all (kept ++ next_objects s xs) facts now w.lits ls o (comes kept s xs facts now w.lits r.bound r.stays);
  needed = λ x i h. elim (cases_lt x.num (count_of s x.sort)) [
    | inl l ↦ in_left x kept (next_objects s xs) (r.needed x i (lt-ltb x.num (count_of s x.sort) l))
    | inr l ↦ in_right x kept (next_objects s xs) (next_in s xs x l (ltb-true x.num (count_of (with_sorts s xs) x.sort) h))
  ];
  bound = bound_more s kept xs r.bound;
  goes = goal_grows kept s xs goal goal' r.bound r.goes;
}

-- a dropped step: none of its objects is needed, and none of its literals looked up
pub unmade_ready : (kept : List Obj) (s : Scope) (xs : List Sort) (facts now ls : List Lit) (goal goal' : Goal) (w : Wants) → list_any (supplies facts w) ls ≡ false → list_any (is_needed w) (next_objects s xs) ≡ false
    → Ready kept s facts now goal goal' w → Ready kept (with_sorts s xs) (with_facts facts ls) now goal goal' w
unmade_ready kept s xs facts now ls goal goal' w e n r = record {
  stays = dropped_all kept facts now w ls e r.stays;
  needed = λ x i h. elim (cases_lt x.num (count_of s x.sort)) [
    | inl l ↦ r.needed x i (lt-ltb x.num (count_of s x.sort) l)
    | inr l ↦ absurd (true≢false (sym (any_in (is_needed w) x (next_objects s xs) (next_in s xs x l (ltb-true x.num (count_of (with_sorts s xs) x.sort) h)) (any_in (same_obj x) x w.objects i (same_obj_self x))) ∙ n))
  ];
  bound = bound_wide s kept xs r.bound;
  goes = goal_widens kept s xs goal goal' r.goes;
}
