use Rattle.std.proofs.Common.{Result, subst, arith}
use Rattle.e_book.specs.declared.parser.TheoremParser.{TheoremParser}
use Rattle.e_line.specs.declared.fault.FaultKind.{FaultKind}
use Rattle.e_line.specs.Reading.{Moves}
use Rattle.e_book.proofs.grammar.Copies.{superposed_is}
use Rattle.e_book.proofs.parser.TheoremParser.on_superpose.Goals as goal

pub returns-clause-value : goal.returns-clause-value
returns-clause-value c =
    let d = c.args.self.now in
    let raw = c.args.raw.now in
    let superposition = c.in_ok-superposition.field-0.superposition in
    let shown = c.in_ok-superposition.field-0.shown in
    let is = superposed_is d raw superposition shown tt c.in_ok-superposition.ensures (grind arith) in
    subst (λ (r : Result TheoremParser FaultKind). Moves c.begin_copies-begun.result c.begin_copies-begun.new.self r) (grind (arith, is)) c.begin_copies-begun.ensures.value
