use Rattle.std.proofs.Common.{◌≡◌, subst, arith, get_or}
use Rattle.std.specs.Prelude.{slice_get, Some}
use Rattle.e_transfer.proofs.Choices.{none_span}
use Rattle.e_licence.specs.inner.BlankChoices.{images_of_choice, IsRefusedAt}
use Rattle.e_licence.specs.inner.Rows.{IsPair, choosing_of}
use Rattle.e_licence.proofs.FailingRows.{row_more, row_excludes, span_there}
use Rattle.e_licence.proofs.blanks.Blanks.row_fails.Goals as goal

pub loop-num-preserved : goal.loop-num-preserved
loop-num-preserved c =
    let s = c.args.self.now in
    let b = s.context.now in (
      row_more (choosing_of s) s.statement.now.declared c.args.lit.now c.args.pair.first c.args.pair.value c.args.pair.last c.loop-num.num c.in_ok-choice.choice.items s.declares
          (subst (λ ns. IsPair ns c.args.pair.first c.args.pair.value c.args.pair.last c.loop-num.num c.in_ok-choice.choice.items) c.requires.spans c.in_ok-choice.ensures)
          (subst (λ xs. IsRefusedAt b (images_of_choice b.scope s.declared.items s.pattern.now xs) c.args.lit.now) c.deref.ensures.value (c.in_ok-fails_with.ensures.refused c.if-not-branch.false))
          c.loop-num.invariant.0,
      c.in_ok-fails_with.ensures.memory,
    )

pub returns-clause-none : goal.returns-clause-none
returns-clause-none c = λ yes there.
    let span = get_or c.args.spans.now c.args.pair.last none_span in
    row_excludes (choosing_of c.args.self.now) c.args.lit.now c.args.pair.first c.args.pair.value c.args.pair.last c.loop-num.num span there
    (subst (λ ns. slice_get ns c.args.pair.last ≡ Some span) c.requires.spans (span_there c.args.spans.now c.args.pair.last c.requires.last))
    (let e = c.loop-num-test.false in omega (arith, e)) c.loop-num.invariant.0
