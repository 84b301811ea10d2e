use Rattle.std.proofs.Common.{◌∙◌, List, ap, sym}
use Rattle.e_deriv.specs.Script.{script_of}
use Rattle.e_book.specs.TheoremViews.{entry_of}
use Rattle.e_names.specs.TitledStatements.{TitledStatement}
use Rattle.e_commands.proofs.answers.SuggesterAnswers.{titled_passes, stopped_passes, licensed_passes}
use Rattle.e_commands.proofs.suggester.pass_theorem.Goals as goal

pub returns-then-has_title : goal.returns-then-has_title
returns-then-has_title c =
    titled_passes c.args.known.now c.args.known.now c.args.title c.args.step (entry_of c.args.theorem) c.in_ok-answer.field-0 (sym c.has_title.ensures ∙ c.if-has_title.true) c.in_ok-answer.ensures

pub prove-requires : goal.prove-requires
prove-requires c = rw c.statements.ensures c.requires.fitting

pub returns-in-Err : goal.returns-in-Err
returns-in-Err c =
    stopped_passes c.args.known.now c.args.known.now c.args.title c.args.step (entry_of c.args.theorem) c.in-Err.stop c.in_ok-answer-in-Err.field-0 (sym c.has_title.ensures ∙ c.if-has_title.false)
    (rw c.statements.ensures at c.in-Err.ensures.stop) (rw c.statements.ensures at c.in-Err.ensures.names) c.in_ok-answer-in-Err.ensures

pub keep-requires : goal.keep-requires
keep-requires c = c.requires.good.0.fits.new

pub returns : goal.returns
returns c =
    licensed_passes c.args.known.now (record c.args.known.now { theorems = c.keep.new.known }) c.args.title c.args.step (entry_of c.args.theorem) (sym c.has_title.ensures ∙ c.if-has_title.false)
    (record { filled = script_of c.in-Ok.derivation; licensed = rw c.statements.ensures at c.in-Ok.ensures.licensed }) c.requires.states (ap (λ (ts : List TitledStatement). record c.args.known.now { theorems = ts }) c.in_ok-keep.ensures)
