use Rattle.std.proofs.Common.{sym, ap, ◌∙◌}
use Rattle.e_text.specs.Lines.{Ahead}
use Rattle.e_commands.proofs.written_texts.VerifiedAgain.{read_for}
use Rattle.e_commands.proofs.written_texts.RewrittenTexts.{not_begun, head_then}
use Rattle.e_commands.proofs.rewriter.rewrite_blocks.Goals as goal

pub begins-requires : goal.begins-requires
begins-requires g c = ap (λ (a : Ahead). a.line) c.new-lines.ensures

pub rewrite_theorems-judged-requires-clause-version : goal.rewrite_theorems-judged-requires-clause-version
rewrite_theorems-judged-requires-clause-version g c = read_for c.args.job c.begins.result c.in-Some.version (sym c.read_as.ensures ∙ c.in-Some.is)

pub returns-in_default-clause-wrote : goal.returns-in_default-clause-wrote
returns-in_default-clause-wrote g c =
    not_begun c.args.job c.args.text.now c.new-lines.result.lines c.begins.new.lines c.begins.result (g.K.Sink.written c.args.sink.now) (ap (λ (a : Ahead). a.lines) c.new-lines.ensures) c.begins.ensures (sym c.read_as.ensures ∙ c.in_default.is)

pub returns-clause-wrote : goal.returns-clause-wrote
returns-clause-wrote g c =
    head_then c.args.job c.args.text.now c.new-lines.result.lines c.begins.new.lines c.begins.result c.in-Some.version (g.K.Sink.written c.args.sink.now) (g.K.Sink.written c.rewrite_theorems-judged.new.sink) c.rewrite_theorems-judged.result
    (ap (λ (a : Ahead). a.lines) c.new-lines.ensures) c.begins.ensures (sym c.read_as.ensures ∙ c.in-Some.is) c.rewrite_theorems-judged.ensures.wrote
