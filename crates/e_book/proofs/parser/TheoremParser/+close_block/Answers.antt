use Rattle.std.proofs.Common.{Option, Ok, subst}
use Rattle.std.proofs.lemmas.Result.{err_from_is_err_and}
use Rattle.e_book.specs.declared.parser.TheoremParser.{TheoremParser}
use Rattle.e_book.specs.declared.steps.CloseLine.{CloseLine}
use Rattle.e_book.specs.Steps.{ClosesInside}
use Rattle.e_book.proofs.grammar.Interrupted.{top_stops, top_goes_on, top_fails}
use Rattle.e_book.proofs.parser.TheoremParser.+close_block.Goals as goal

pub returns-in_err-close_inside-clause-value : goal.returns-in_err-close_inside-clause-value
returns-in_err-close_inside-clause-value t c =
    let p = err_from_is_err_and c.from_residual.result c.from_residual.ensures.1 in
    rw (p.1, p.2) (top_fails c.args.self.now c.close_inside.new.self c.in-Some.outer c.pop.new.self c.args.close c.in_err-close_inside.field-0.0 c.in-Some.ensures c.in_err-close_inside.ensures.value)

pub returns-in-None-clause-value : goal.returns-in-None-clause-value
returns-in-None-clause-value t c =
    let popped : TheoremParser = record c.args.self.now { blocks = c.pop.new.self } in
    top_stops c.args.self.now c.close_inside.new.self c.in-Some.outer c.pop.new.self c.args.close c.in-Some.ensures
    (subst (λ (r : Option CloseLine). ClosesInside popped c.in-Some.outer c.args.close (Ok r) c.close_inside.new.self) c.in-None.is c.in_ok-close_inside.ensures.value)

pub returns-in-Some-2-clause-value : goal.returns-in-Some-2-clause-value
returns-in-Some-2-clause-value t c =
    let popped : TheoremParser = record c.args.self.now { blocks = c.pop.new.self } in
    top_goes_on c.args.self.now c.close_inside.new.self c.close_block.new.self c.in-Some.outer c.pop.new.self c.args.close c.in-Some-2.next c.close_block.result c.in-Some.ensures
    (subst (λ (r : Option CloseLine). ClosesInside popped c.in-Some.outer c.args.close (Ok r) c.close_inside.new.self) c.in-Some-2.is c.in_ok-close_inside.ensures.value) c.close_block.ensures.value
