use Rattle.std.proofs.Common.{◌++◌}
use Rattle.e_fraction.specs.Views.{views_of_rows}
use Rattle.std.proofs.Common.{subst, sym}
use Rattle.e_simplex.specs.Answer.{Refutes}
use Rattle.e_simplex.proofs.verdicts.Assigning.{none_one}
use Rattle.e_simplex.proofs.verdicts.Refuting.{refutes_one}
use Rattle.e_simplex.proofs.decision.refuted_once.Goals as goal

pub returns : goal.returns
returns c =
    let w = c.requires.weights in
    record {
      refutes = subst (Refutes (views_of_rows (c.args.rows.now ++ c.args.more.now))) (sym c.in_ok-multipliers.ensures) (refutes_one w.terms (views_of_rows (c.args.rows.now ++ c.args.more.now)) c.args.weights.now w.once w.named w.absurd);
      none = λ s. none_one w.terms (views_of_rows (c.args.rows.now ++ c.args.more.now)) w.named s c.args.weights.now w.absurd;
    }
