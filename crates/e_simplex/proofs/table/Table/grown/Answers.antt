use Rattle.std.proofs.Common.{rules, ◌≡◌, ◌+◌, ◌++◌, ◌∷◌, [], refl, length, ap, sym, ◌∙◌, subst}
use Rattle.std.proofs.lemmas.List.{append-nil, append_assoc, map-id}
use Rattle.std.proofs.lemmas.Iterator.Consumers.{YieldsList-end}
use Rattle.std.proofs.lemmas.Iterator.Adapters.{YieldsList-from_vec}
use Rattle.std.proofs.lemmas.Result.{IfOk-weaker}
use Rattle.e_simplex.specs.Constraints.{FixedTo}
use Rattle.e_simplex.specs.Solved.{IsBegunTable, columns_of, constraints_of}
use Rattle.e_simplex.proofs.outcomes.Further.{fixed_push}
use Rattle.e_simplex.proofs.outcomes.Solving.{begun_more, begun_here, fit_here, outcome_of}
use Rattle.e_simplex.proofs.table.Table.grown.Goals as goal

pub loop-constraint-init : goal.loop-constraint-init
loop-constraint-init c =
    let s = c.args.self in
    let e : constraints_of c.args.self ≡ constraints_of c.args.self ++ [] = sym (append-nil (constraints_of s)) in
    record {
      constraints = e;
      fixed = subst (λ v. FixedTo (columns_of s + length v) v (columns_of s) s.fixed.items) e c.requires.solved.fix;
      basis = refl;
      columns = refl;
      entries = refl;
      det = refl;
    }

pub loop-constraint-preserved : goal.loop-constraint-preserved
loop-constraint-preserved c =
    let s = c.args.self in
    let x = c.in-Some.constraint in
    let old = c.loop-constraint.table in
    let h = c.loop-constraint.invariant in
    let joined : constraints_of c.args.self ++ c.loop-constraint.yielded ++ c.in-Some.constraint ∷ [] ≡ constraints_of c.args.self ++ (c.loop-constraint.yielded ++ c.in-Some.constraint ∷ [])
    = append_assoc (constraints_of s) c.loop-constraint.yielded (x ∷ []) in
    record {
      constraints = c.in_ok-push-2.ensures.items ∙ ap (λ v. v ++ c.in-Some.constraint ∷ []) h.constraints ∙ joined;
      fixed = subst (λ v. FixedTo (columns_of s + length v) v (columns_of s) c.push.new.self.items) joined
          (subst (FixedTo (columns_of s + length (constraints_of s ++ c.loop-constraint.yielded ++ x ∷ [])) (constraints_of s ++ c.loop-constraint.yielded ++ x ∷ []) (columns_of s))
          (sym (c.in_ok-push.ensures.items ∙ ap (λ b. c.loop-constraint.table.fixed.items ++ b ∷ []) c.is_zero.ensures))
          (fixed_push (columns_of s) (constraints_of s ++ c.loop-constraint.yielded) x old.fixed.items c.requires.fit.some h.fixed));
      basis = h.basis;
      columns = h.columns;
      entries = h.entries;
      det = h.det;
    }

pub outcome-requires-clause-fit : goal.outcome-requires-clause-fit
outcome-requires-clause-fit c =
    let s = c.args.self in
    let t = c.loop-constraint.table in
    let h = c.loop-constraint.invariant in
    let ended = YieldsList-end (YieldsList-from_vec {s = c.into_iter-constraint-iterator.result} c.args.more.items (search rules) (search rules)) c.loop-constraint.yielded c.loop-constraint.constraint-iterator c.loop-constraint.yielded_by c.next.result c.next.new.self c.in-None.is c.next.ensures.steps in
    let done : c.loop-constraint.yielded ≡ c.args.more.items = sym (map-id c.loop-constraint.yielded) ∙ ended.0 in
    let b : IsBegunTable (columns_of c.args.self) (constraints_of c.args.self ++ c.args.more.items) c.loop-constraint.table
    = begun_more s t c.args.more.items c.requires.solved (h.constraints ∙ ap (λ v. constraints_of c.args.self ++ v) done)
    (subst (λ v. FixedTo (columns_of s + length (constraints_of s ++ v)) (constraints_of s ++ v) (columns_of s) t.fixed.items) done h.fixed) h.basis h.columns h.entries h.det in
    fit_here _ _ t b c.requires.fit

pub outcome-requires-clause-begun : goal.outcome-requires-clause-begun
outcome-requires-clause-begun c =
    let s = c.args.self in
    let t = c.loop-constraint.table in
    let h = c.loop-constraint.invariant in
    let ended = YieldsList-end (YieldsList-from_vec {s = c.into_iter-constraint-iterator.result} c.args.more.items (search rules) (search rules)) c.loop-constraint.yielded c.loop-constraint.constraint-iterator c.loop-constraint.yielded_by c.next.result c.next.new.self c.in-None.is c.next.ensures.steps in
    let done : c.loop-constraint.yielded ≡ c.args.more.items = sym (map-id c.loop-constraint.yielded) ∙ ended.0 in
    let b : IsBegunTable (columns_of c.args.self) (constraints_of c.args.self ++ c.args.more.items) c.loop-constraint.table
    = begun_more s t c.args.more.items c.requires.solved (h.constraints ∙ ap (λ v. constraints_of c.args.self ++ v) done)
    (subst (λ v. FixedTo (columns_of s + length (constraints_of s ++ v)) (constraints_of s ++ v) (columns_of s) t.fixed.items) done h.fixed) h.basis h.columns h.entries h.det in
    begun_here _ _ t b

pub returns : goal.returns
returns c =
    let s = c.args.self in
    let t = c.loop-constraint.table in
    let h = c.loop-constraint.invariant in
    let ended = YieldsList-end (YieldsList-from_vec {s = c.into_iter-constraint-iterator.result} c.args.more.items (search rules) (search rules)) c.loop-constraint.yielded c.loop-constraint.constraint-iterator c.loop-constraint.yielded_by c.next.result c.next.new.self c.in-None.is c.next.ensures.steps in
    let done : c.loop-constraint.yielded ≡ c.args.more.items = sym (map-id c.loop-constraint.yielded) ∙ ended.0 in
    let b : IsBegunTable (columns_of c.args.self) (constraints_of c.args.self ++ c.args.more.items) c.loop-constraint.table
    = begun_more s t c.args.more.items c.requires.solved (h.constraints ∙ ap (λ v. constraints_of c.args.self ++ v) done)
    (subst (λ v. FixedTo (columns_of s + length (constraints_of s ++ v)) (constraints_of s ++ v) (columns_of s) t.fixed.items) done h.fixed) h.basis h.columns h.entries h.det in
    IfOk-weaker c.outcome.result _ _ (λ o g. outcome_of _ _ t o b g) c.outcome.ensures
