use Rattle.std.proofs.Common.{◌∙◌, ◌≤◌, sym, subst}
use Rattle.e_run.specs.declared.command.Command.{Command}
use Rattle.e_run.specs.Runs.{HasProofs, Runs, IsDue, TakesOf}
use Rattle.e_run.specs.Words.{OfCount, OfStep}
use Rattle.e_commands.proofs.outcomes.Completeness.{answers, answers_usage}
use Rattle.e_commands.proofs.answers.Trials.{answers_trial, tried_count}
use Rattle.e_commands.proofs.answers.VerifierAnswers.{answers_text}
use Rattle.e_commands.proofs.answers.DrawerAnswers.{answers_figure}
use Rattle.e_commands.proofs.answers.SuggesterAnswers.{answers_suggest}
use Rattle.e_commands.proofs.written_texts.RewrittenTexts.{answers_rewrite}
use Rattle.e_run.proofs.SpelledProofs.{wrote_proofs, read_proofs, rewritten_proofs}
use Rattle.e_run.proofs.runner.run.Goals as goal

pub returns-in-Check-clause-proofs : goal.returns-in-Check-clause-proofs
returns-in-Check-clause-proofs g c =
    let left = g.S.Source.left c.args.source.now in
    let old = g.K.Sink.written c.args.sink.now in
    let new = g.K.Sink.written c.check.new.sink in
    subst (λ (k : Command). HasProofs k left old new c.check.result) (sym c.in-Check.is ∙ c.command_of.ensures.value) (wrote_proofs left old new c.check.result c.check.ensures.checks)

pub returns-in-Check-clause-runs : goal.returns-in-Check-clause-runs
returns-in-Check-clause-runs g c =
    let left = g.S.Source.left c.args.source.now in
    let old = g.K.Sink.written c.args.sink.now in
    let new = g.K.Sink.written c.check.new.sink in
    subst (λ (k : Command). Runs k left old new c.check.result) (sym c.in-Check.is ∙ c.command_of.ensures.value) c.check.ensures.checks

pub returns-in-Check-clause-due : goal.returns-in-Check-clause-due
returns-in-Check-clause-due g c =
    let left = g.S.Source.left c.args.source.now in
    let old = g.K.Sink.written c.args.sink.now in
    let new = g.K.Sink.written c.check.new.sink in
    subst (λ (k : Command). IsDue k left c.check.result) (sym c.in-Check.is ∙ c.command_of.ensures.value) (answers left old new c.check.result c.check.ensures.checks)

pub returns-in-Check-clause-taken : goal.returns-in-Check-clause-taken
returns-in-Check-clause-taken g c =
    let left = g.S.Source.left c.args.source.now in
    let after = g.S.Source.left c.check.new.source in
    let old = g.K.Sink.written c.args.sink.now in
    let new = g.K.Sink.written c.check.new.sink in
    subst (λ (k : Command). TakesOf k left after old new c.check.result) (sym c.in-Check.is ∙ c.command_of.ensures.value)
    (record { took = c.check.ensures.took; handled = c.check.ensures.handled; end = c.check.ensures.end })

pub returns-in-Verify-clause-proofs : goal.returns-in-Verify-clause-proofs
returns-in-Verify-clause-proofs g c =
    let left = g.S.Source.left c.args.source.now in
    let old = g.K.Sink.written c.args.sink.now in
    let new = g.K.Sink.written c.verify.new.sink in
    subst (λ (k : Command). HasProofs k left old new c.verify.result) (sym c.in-Verify.is ∙ c.command_of.ensures.value) (read_proofs left old new c.verify.result c.verify.ensures.verifies)

pub returns-in-Verify-clause-runs : goal.returns-in-Verify-clause-runs
returns-in-Verify-clause-runs g c =
    let left = g.S.Source.left c.args.source.now in
    let old = g.K.Sink.written c.args.sink.now in
    let new = g.K.Sink.written c.verify.new.sink in
    subst (λ (k : Command). Runs k left old new c.verify.result) (sym c.in-Verify.is ∙ c.command_of.ensures.value) c.verify.ensures.verifies

pub returns-in-Verify-clause-due : goal.returns-in-Verify-clause-due
returns-in-Verify-clause-due g c =
    let left = g.S.Source.left c.args.source.now in
    let old = g.K.Sink.written c.args.sink.now in
    let new = g.K.Sink.written c.verify.new.sink in
    subst (λ (k : Command). IsDue k left c.verify.result) (sym c.in-Verify.is ∙ c.command_of.ensures.value) (answers_text left old new c.verify.result c.verify.ensures.verifies)

pub returns-in-Verify-clause-taken : goal.returns-in-Verify-clause-taken
returns-in-Verify-clause-taken g c =
    let left = g.S.Source.left c.args.source.now in
    let after = g.S.Source.left c.verify.new.source in
    let old = g.K.Sink.written c.args.sink.now in
    let new = g.K.Sink.written c.verify.new.sink in
    subst (λ (k : Command). TakesOf k left after old new c.verify.result) (sym c.in-Verify.is ∙ c.command_of.ensures.value) c.verify.ensures.end

pub returns-in-Figure-clause-proofs : goal.returns-in-Figure-clause-proofs
returns-in-Figure-clause-proofs g c =
    let left = g.S.Source.left c.args.source.now in
    let old = g.K.Sink.written c.args.sink.now in
    let new = g.K.Sink.written c.figure.new.sink in
    subst (λ (k : Command). HasProofs k left old new c.figure.result) (sym c.in-Figure.is ∙ c.command_of.ensures.value) tt

pub returns-in-Figure-clause-runs : goal.returns-in-Figure-clause-runs
returns-in-Figure-clause-runs g c =
    let left = g.S.Source.left c.args.source.now in
    let old = g.K.Sink.written c.args.sink.now in
    let new = g.K.Sink.written c.figure.new.sink in
    subst (λ (k : Command). Runs k left old new c.figure.result) (sym c.in-Figure.is ∙ c.command_of.ensures.value) c.figure.ensures.draws

pub returns-in-Figure-clause-due : goal.returns-in-Figure-clause-due
returns-in-Figure-clause-due g c =
    let left = g.S.Source.left c.args.source.now in
    let old = g.K.Sink.written c.args.sink.now in
    let new = g.K.Sink.written c.figure.new.sink in
    subst (λ (k : Command). IsDue k left c.figure.result) (sym c.in-Figure.is ∙ c.command_of.ensures.value) (answers_figure left old new c.figure.result c.figure.ensures.draws)

pub returns-in-Figure-clause-taken : goal.returns-in-Figure-clause-taken
returns-in-Figure-clause-taken g c =
    let left = g.S.Source.left c.args.source.now in
    let after = g.S.Source.left c.figure.new.source in
    let old = g.K.Sink.written c.args.sink.now in
    let new = g.K.Sink.written c.figure.new.sink in
    subst (λ (k : Command). TakesOf k left after old new c.figure.result) (sym c.in-Figure.is ∙ c.command_of.ensures.value) c.figure.ensures.end

pub returns-in-Rewrite-clause-proofs : goal.returns-in-Rewrite-clause-proofs
returns-in-Rewrite-clause-proofs g c =
    let left = g.S.Source.left c.args.source.now in
    let old = g.K.Sink.written c.args.sink.now in
    let new = g.K.Sink.written c.rewrite.new.sink in
    subst (λ (k : Command). HasProofs k left old new c.rewrite.result) (sym c.in-Rewrite.is ∙ c.command_of.ensures.value) (rewritten_proofs c.in-Rewrite.job left old new c.rewrite.result c.rewrite.ensures.rewrites)

pub returns-in-Rewrite-clause-runs : goal.returns-in-Rewrite-clause-runs
returns-in-Rewrite-clause-runs g c =
    let left = g.S.Source.left c.args.source.now in
    let old = g.K.Sink.written c.args.sink.now in
    let new = g.K.Sink.written c.rewrite.new.sink in
    subst (λ (k : Command). Runs k left old new c.rewrite.result) (sym c.in-Rewrite.is ∙ c.command_of.ensures.value) c.rewrite.ensures.rewrites

pub returns-in-Rewrite-clause-due : goal.returns-in-Rewrite-clause-due
returns-in-Rewrite-clause-due g c =
    let left = g.S.Source.left c.args.source.now in
    let old = g.K.Sink.written c.args.sink.now in
    let new = g.K.Sink.written c.rewrite.new.sink in
    subst (λ (k : Command). IsDue k left c.rewrite.result) (sym c.in-Rewrite.is ∙ c.command_of.ensures.value) (answers_rewrite c.in-Rewrite.job left old new c.rewrite.result c.rewrite.ensures.rewrites)

pub returns-in-Rewrite-clause-taken : goal.returns-in-Rewrite-clause-taken
returns-in-Rewrite-clause-taken g c =
    let left = g.S.Source.left c.args.source.now in
    let after = g.S.Source.left c.rewrite.new.source in
    let old = g.K.Sink.written c.args.sink.now in
    let new = g.K.Sink.written c.rewrite.new.sink in
    subst (λ (k : Command). TakesOf k left after old new c.rewrite.result) (sym c.in-Rewrite.is ∙ c.command_of.ensures.value) c.rewrite.ensures.end

pub returns-in-Make-clause-proofs : goal.returns-in-Make-clause-proofs
returns-in-Make-clause-proofs g c =
    let left = g.S.Source.left c.args.source.now in
    let old = g.K.Sink.written c.args.sink.now in
    let new = g.K.Sink.written c.make.new.sink in
    subst (λ (k : Command). HasProofs k left old new c.make.result) (sym c.in-Make.is ∙ c.command_of.ensures.value) tt

pub returns-in-Make-clause-runs : goal.returns-in-Make-clause-runs
returns-in-Make-clause-runs g c =
    let left = g.S.Source.left c.args.source.now in
    let old = g.K.Sink.written c.args.sink.now in
    let new = g.K.Sink.written c.make.new.sink in
    subst (λ (k : Command). Runs k left old new c.make.result) (sym c.in-Make.is ∙ c.command_of.ensures.value) c.make.ensures.makes

pub returns-in-Make-clause-due : goal.returns-in-Make-clause-due
returns-in-Make-clause-due g c =
    let left = g.S.Source.left c.args.source.now in
    subst (λ (k : Command). IsDue k left c.make.result) (sym c.in-Make.is ∙ c.command_of.ensures.value) tt

pub returns-in-Make-clause-taken : goal.returns-in-Make-clause-taken
returns-in-Make-clause-taken g c =
    let left = g.S.Source.left c.args.source.now in
    let old = g.K.Sink.written c.args.sink.now in
    let new = g.K.Sink.written c.make.new.sink in
    subst (λ (k : Command). TakesOf k left left old new c.make.result) (sym c.in-Make.is ∙ c.command_of.ensures.value) tt

pub returns-in-Trial-clause-proofs : goal.returns-in-Trial-clause-proofs
returns-in-Trial-clause-proofs g c =
    let left = g.S.Source.left c.args.source.now in
    let old = g.K.Sink.written c.args.sink.now in
    let new = g.K.Sink.written c.trial.new.sink in
    subst (λ (k : Command). HasProofs k left old new c.trial.result) (sym c.in-Trial.is ∙ c.command_of.ensures.value) tt

pub returns-in-Trial-clause-runs : goal.returns-in-Trial-clause-runs
returns-in-Trial-clause-runs g c =
    let left = g.S.Source.left c.args.source.now in
    let old = g.K.Sink.written c.args.sink.now in
    let new = g.K.Sink.written c.trial.new.sink in
    let few = subst (λ (k : Command). OfCount (λ n. n ≤ 500) k) c.in-Trial.is c.command_of.ensures.few in
    subst (λ (k : Command). Runs k left old new c.trial.result) (sym c.in-Trial.is ∙ c.command_of.ensures.value)
    (c.trial.ensures.tries, tried_count c.in-Trial.theorems old new c.trial.result few c.trial.ensures.tries)

pub returns-in-Trial-clause-due : goal.returns-in-Trial-clause-due
returns-in-Trial-clause-due g c =
    let left = g.S.Source.left c.args.source.now in
    let old = g.K.Sink.written c.args.sink.now in
    let new = g.K.Sink.written c.trial.new.sink in
    subst (λ (k : Command). IsDue k left c.trial.result) (sym c.in-Trial.is ∙ c.command_of.ensures.value) (answers_trial c.in-Trial.theorems old new c.trial.result c.trial.ensures.tries)

pub returns-in-Trial-clause-taken : goal.returns-in-Trial-clause-taken
returns-in-Trial-clause-taken g c =
    let left = g.S.Source.left c.args.source.now in
    let old = g.K.Sink.written c.args.sink.now in
    let new = g.K.Sink.written c.trial.new.sink in
    subst (λ (k : Command). TakesOf k left left old new c.trial.result) (sym c.in-Trial.is ∙ c.command_of.ensures.value) tt

pub suggest-requires : goal.suggest-requires
suggest-requires g c = subst (λ (k : Command). OfStep (λ n. 1 ≤ n) k) c.in-Suggest.is c.command_of.ensures.first

pub returns-in-Suggest-clause-proofs : goal.returns-in-Suggest-clause-proofs
returns-in-Suggest-clause-proofs g c =
    let left = g.S.Source.left c.args.source.now in
    let old = g.K.Sink.written c.args.sink.now in
    let new = g.K.Sink.written c.suggest.new.sink in
    subst (λ (k : Command). HasProofs k left old new c.suggest.result) (sym c.in-Suggest.is ∙ c.command_of.ensures.value) tt

pub returns-in-Suggest-clause-runs : goal.returns-in-Suggest-clause-runs
returns-in-Suggest-clause-runs g c =
    let left = g.S.Source.left c.args.source.now in
    let old = g.K.Sink.written c.args.sink.now in
    let new = g.K.Sink.written c.suggest.new.sink in
    subst (λ (k : Command). Runs k left old new c.suggest.result) (sym c.in-Suggest.is ∙ c.command_of.ensures.value) c.suggest.ensures.suggests

pub returns-in-Suggest-clause-due : goal.returns-in-Suggest-clause-due
returns-in-Suggest-clause-due g c =
    let left = g.S.Source.left c.args.source.now in
    let old = g.K.Sink.written c.args.sink.now in
    let new = g.K.Sink.written c.suggest.new.sink in
    subst (λ (k : Command). IsDue k left c.suggest.result) (sym c.in-Suggest.is ∙ c.command_of.ensures.value) (answers_suggest c.in-Suggest.title c.in-Suggest.step left old new c.suggest.result c.suggest.ensures.suggests)

pub returns-in-Suggest-clause-taken : goal.returns-in-Suggest-clause-taken
returns-in-Suggest-clause-taken g c =
    let left = g.S.Source.left c.args.source.now in
    let after = g.S.Source.left c.suggest.new.source in
    let old = g.K.Sink.written c.args.sink.now in
    let new = g.K.Sink.written c.suggest.new.sink in
    subst (λ (k : Command). TakesOf k left after old new c.suggest.result) (sym c.in-Suggest.is ∙ c.command_of.ensures.value) tt

pub returns-in-Unknown-clause-proofs : goal.returns-in-Unknown-clause-proofs
returns-in-Unknown-clause-proofs g c =
    let left = g.S.Source.left c.args.source.now in
    let old = g.K.Sink.written c.args.sink.now in
    let new = g.K.Sink.written c.close.new.sink in
    subst (λ (k : Command). HasProofs k left old new c.close.result) (sym c.in-Unknown.is ∙ c.command_of.ensures.value) tt

pub returns-in-Unknown-clause-runs : goal.returns-in-Unknown-clause-runs
returns-in-Unknown-clause-runs g c =
    let left = g.S.Source.left c.args.source.now in
    let old = g.K.Sink.written c.args.sink.now in
    let new = g.K.Sink.written c.close.new.sink in
    subst (λ (k : Command). Runs k left old new c.close.result) (sym c.in-Unknown.is ∙ c.command_of.ensures.value) (answers_usage old new c.close.result c.close.ensures.closes)

pub returns-in-Unknown-clause-due : goal.returns-in-Unknown-clause-due
returns-in-Unknown-clause-due g c =
    let left = g.S.Source.left c.args.source.now in
    subst (λ (k : Command). IsDue k left c.close.result) (sym c.in-Unknown.is ∙ c.command_of.ensures.value) tt

pub returns-in-Unknown-clause-taken : goal.returns-in-Unknown-clause-taken
returns-in-Unknown-clause-taken g c =
    let left = g.S.Source.left c.args.source.now in
    let old = g.K.Sink.written c.args.sink.now in
    let new = g.K.Sink.written c.close.new.sink in
    subst (λ (k : Command). TakesOf k left left old new c.close.result) (sym c.in-Unknown.is ∙ c.command_of.ensures.value) tt
