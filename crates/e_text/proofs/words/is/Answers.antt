use Rattle.e_text.proofs.Alike.{not_alike}
use Rattle.e_text.proofs.words.is.Goals as goal

pub returns-then-not-end_alike : goal.returns-then-not-end_alike
returns-then-not-end_alike c = not_alike c.args.token.now c.args.word.now c.end_alike.result c.end_alike.ensures c.if-not-end_alike.true
