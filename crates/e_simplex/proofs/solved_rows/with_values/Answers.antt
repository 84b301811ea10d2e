use Rattle.std.proofs.Common.{◌++◌, [], ◌∙◌, ap, arith, sym, subst, length, false}
use Rattle.std.proofs.lemmas.List.{append-nil}
use Rattle.e_fraction.specs.Views.{views_of_rows}
use Rattle.e_simplex.specs.Answer.{AreValuesOf}
use Rattle.e_simplex.specs.Naming.{AllNamed, named_constraints}
use Rattle.e_simplex.specs.Solved.{IsSolved, columns_of}
use Rattle.e_simplex.proofs.solved_rows.with_values.Goals as goal

pub verdict_of_solved-requires-clause-named : goal.verdict_of_solved-requires-clause-named
verdict_of_solved-requires-clause-named c =
    subst (λ v. AllNamed v (views_of_rows (c.deref.result.now ++ []))) (sym c.deref-2.ensures.value)
    (subst (λ v. AllNamed c.args.terms.items (views_of_rows v)) (sym (append-nil c.deref.result.now ∙ c.deref.ensures.value)) c.requires.named)

pub verdict_of_solved-requires-clause-room : goal.verdict_of_solved-requires-clause-room
verdict_of_solved-requires-clause-room c = omega (arith, c.requires.room, ap length c.deref-2.ensures.value)

pub verdict_of_solved-requires-clause-solved : goal.verdict_of_solved-requires-clause-solved
verdict_of_solved-requires-clause-solved c =
    subst (λ v. IsSolved (columns_of c.args.solved) (named_constraints false v (views_of_rows (c.deref.result.now ++ []))) c.args.solved) (sym c.deref-2.ensures.value)
    (subst (λ v. IsSolved (columns_of c.args.solved) (named_constraints false c.args.terms.items (views_of_rows v)) c.args.solved) (sym (append-nil c.deref.result.now ∙ c.deref.ensures.value)) c.requires.solved)

pub invariant_of-result : goal.invariant_of-result
invariant_of-result c =
    let h = rw c.in-Ok-Holds.field-0-is at c.in-Ok-Holds.ensures in
    record {
      table = record { once = c.requires.once; named = c.requires.named; solved = c.requires.solved };
      satisfied = subst (λ v. AreValuesOf (views_of_rows v) c.in-Ok-Holds.values) (append-nil c.deref.result.now ∙ c.deref.ensures.value) h;
    }
