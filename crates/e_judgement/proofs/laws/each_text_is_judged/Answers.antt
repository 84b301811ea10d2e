use Rattle.e_judgement.proofs.EachText.{each_text_is_judged}
use Rattle.e_judgement.proofs.laws.each_text_is_judged.Goals as goal

pub returns : goal.returns
returns c = each_text_is_judged
