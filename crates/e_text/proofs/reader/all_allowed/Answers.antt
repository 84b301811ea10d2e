use Rattle.std.proofs.Common.{true, ◌&&◌, ◌∙◌, rules, tests}
use Rattle.std.proofs.lemmas.Iterator.{YieldsList-from_slice}
use Rattle.std.proofs.lemmas.Iterator.Consumers.{fold_from_yields_List}
use Rattle.e_text.specs.Lines.{is_allowed}
use Rattle.e_text.proofs.Scans.{fold_all}
use Rattle.e_text.proofs.reader.all_allowed.Goals as goal

pub returns : goal.returns
returns c =
    let folded = fold_from_yields_List _ (λ all b. all && is_allowed b) true c.fold.result c.fold.ensures.ran (YieldsList-from_slice c.args.bytes.now cc) (λ a x b q k. search (rules, tests)) in
    folded ∙ fold_all is_allowed true c.args.bytes.now
