use Rattle.e_judgement.proofs.OneJudgement.{one_judgement}
use Rattle.e_judgement.proofs.laws.texts_have_one_judgement.Goals as goal

pub returns : goal.returns
returns c = one_judgement
