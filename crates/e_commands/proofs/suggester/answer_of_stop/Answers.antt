use Rattle.std.proofs.Common.{◌∙◌, sym}
use Rattle.e_commands.proofs.answers.SuggesterAnswers.{stop_answered, is_stop}
use Rattle.e_commands.proofs.suggester.answer_of_stop.Goals as goal

pub spell_stop-requires : goal.spell_stop-requires
spell_stop-requires c = is_stop c.args.stop (sym c.is_out_of_memory.ensures ∙ c.if-is_out_of_memory.false)

pub returns-in-Ok : goal.returns-in-Ok
returns-in-Ok c = stop_answered c.args.title c.args.stop _ c.in-Ok.line.items (is_stop c.args.stop (sym c.is_out_of_memory.ensures ∙ c.if-is_out_of_memory.false)) c.stop_answer.ensures c.in-Ok.ensures
