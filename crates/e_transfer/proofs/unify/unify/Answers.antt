use Rattle.std.proofs.Common.{rules, ◌≡◌, ◌+◌, List, length, subst, ap, sym, ◌∙◌, get_or}
use Rattle.e_transfer.specs.declared.equations.Equation.TheVariants as equation
use Rattle.e_transfer.specs.declared.unify.Binding.{Binding}
use Rattle.e_transfer.specs.inner.Bindings.{TakesIn}
use Rattle.e_transfer.proofs.Unification.{none_agree, more_agree, whole, AgreeSoFar}
use Rattle.e_transfer.proofs.unify.unify.Goals as goal

pub returns-then-not-take_in : goal.returns-then-not-take_in
returns-then-not-take_in c =
    let takes = subst (λ (l : List Binding). TakesIn l c.take_in.new.bindings (get_or c.args.equations.now c.loop-b.b-index (equation.Is 0 0)) c.take_in.result) c.deref_mut.ensures.value c.take_in.ensures in
    none_agree c.args.equations.now c.loop-b.b-index (equation.Is 0 0) c.loop-b.bindings.items c.take_in.new.bindings c.take_in.result c.loop-b-test.true takes c.loop-b.invariant.agree c.if-not-take_in.true

pub loop-b-preserved : goal.loop-b-preserved
loop-b-preserved c =
    let takes = subst (λ (l : List Binding). TakesIn l c.take_in.new.bindings (get_or c.args.equations.now c.loop-b.b-index (equation.Is 0 0)) c.take_in.result) c.deref_mut.ensures.value c.take_in.ensures in
    let many : c.loop-b.bindings.len ≡ length c.loop-b.bindings.items = search rules in
    let kept : length c.take_in.new.bindings ≡ length c.loop-b.bindings.items = search rules in
    let is = whole c.loop-b.bindings.len c.take_in.new.bindings c.loop-b.bindings.items many kept in
    record {
      all = ap length is ∙ kept ∙ c.loop-b.invariant.all;
      agree = subst (λ (l : List Binding). AgreeSoFar c.args.equations.now (c.loop-b.b-index + 1) l) (sym is)
          (more_agree c.args.equations.now c.loop-b.b-index (equation.Is 0 0) c.loop-b.bindings.items c.take_in.new.bindings c.take_in.result c.loop-b-test.true takes c.loop-b.invariant.agree);
    }
