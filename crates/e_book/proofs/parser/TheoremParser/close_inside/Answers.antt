use Rattle.std.proofs.Common.{refl, []}
use Rattle.std.proofs.lemmas.Result.{err_from_is_err_and}
use Rattle.e_deriv.specs.PlainStep.{Claimed, Copied}
use Rattle.e_book.specs.declared.blocks.BlockKind.TheVariants as kind
use Rattle.e_book.proofs.grammar.Interrupted.{back_around, resumed_fails}
use Rattle.e_book.proofs.parser.TheoremParser.close_inside.Goals as goal

pub returns-in_err-end_claim-in-Claim-clause-value :
    goal.returns-in_err-end_claim-in-Claim-clause-value
returns-in_err-end_claim-in-Claim-clause-value c =
    let p = err_from_is_err_and c.from_residual.result c.from_residual.ensures.1 in
    let block = c.in-Ok.inner in
    let shown = c.in-Claim.shown in
    let made = c.in-Ok.ensures in
    let bad = c.in_err-end_claim-in-Claim.ensures in
    let back = back_around c.args.self.now c.take_block.new.self c.put_back.new.self c.args.outer c.replace.new.dest made.taken c.replace.ensures.after c.put_back.ensures in
    rw (p.1, p.2) (resumed_fails c.args.self.now c.put_back.new.self c.end_claim.new.self c.args.outer c.args.close shown (Claimed shown block) block (kind.Claim shown)
    c.in_err-end_claim-in-Claim.field-0.0 c.in-Claim.is back made.closed (λ again. refl) bad.value)

pub returns-in_err-end_superposition-in-Superpose-clause-value :
    goal.returns-in_err-end_superposition-in-Superpose-clause-value
returns-in_err-end_superposition-in-Superpose-clause-value c =
    let p = err_from_is_err_and c.from_residual-in_err-end_superposition-in-Superpose.result c.from_residual-in_err-end_superposition-in-Superpose.ensures.1 in
    let block = c.in-Ok.inner in
    let superposition = c.in-Superpose.superposition in
    let names = c.in-Superpose.names in
    let shown = c.in-Superpose.shown in
    let made = c.in-Ok.ensures in
    let bad = (c.in_err-end_superposition-in-Superpose).ensures in
    let back = back_around c.args.self.now c.take_block.new.self c.put_back-in-Superpose.new.self c.args.outer c.replace.new.dest made.taken c.replace.ensures.after c.put_back-in-Superpose.ensures in
    rw (p.1, p.2) (resumed_fails c.args.self.now c.put_back-in-Superpose.new.self c.end_superposition.new.self c.args.outer c.args.close shown (Copied superposition names shown [] block) block (kind.Superpose superposition names shown)
    (c.in_err-end_superposition-in-Superpose).field-0.0 c.in-Superpose.is back made.closed (λ again. refl) bad.value)
