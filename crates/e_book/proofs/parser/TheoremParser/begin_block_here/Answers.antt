use Rattle.std.proofs.Common.{◌≡◌, subst}
use Rattle.std.specs.Prelude.{OnOk}
use Rattle.e_deriv.specs.declared.names.Names.{Names}
use Rattle.e_book.specs.Steps.{inside_block}
use Rattle.e_book.proofs.parser.TheoremParser.begin_block_here.Goals as goal

pub returns-in-Ok-clause-value : goal.returns-in-Ok-clause-value
returns-in-Ok-clause-value c =
    subst (λ (names : Names). OnOk c.begin_block.result (c.begin_block.new.self ≡ record (inside_block c.args.self.now c.args.kind c.args.given) { lines = c.args.self.now.lines; in_scope = names })) c.in-Ok.ensures c.begin_block.ensures.value
