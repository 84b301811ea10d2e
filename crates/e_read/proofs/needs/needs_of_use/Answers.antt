use Rattle.std.proofs.Common.{ap, length, arith}
use Rattle.e_literal.specs.Use.{StatementView}
use Rattle.e_names.specs.TitledStatements.{stated_by}
use Rattle.e_read.proofs.Rooms.{few_at}
use Rattle.e_read.proofs.needs.needs_of_use.Goals as goal

pub needs_in-requires-clause-few : goal.needs_in-requires-clause-few
needs_in-requires-clause-few c =
    let f = few_at (stated_by c.args.known.now) c.in_ok-used.used.theorem c.requires.known in
    omega (arith, f, ap (λ (t : StatementView). length t.declared) c.statement-statement.ensures, ap (λ (t : StatementView). length t.made) c.statement-statement.ensures)
