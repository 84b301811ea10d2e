use Rattle.std.proofs.Common.{◌≡◌, ◌∙◌, ℕ, ap}
use Rattle.e_judgement.specs.declared.judgement.Judgement.{Judgement}
use Rattle.e_judgement.specs.declared.judgement.Judgement.TheVariants.{Verified}
use Rattle.e_judgement.proofs.OneJudgement.{one_judgement}
use Rattle.e_commands.specs.LastLines.{tried_line}
use Rattle.e_commands.specs.declared.status.Status.TheVariants as status
use Rattle.e_commands.proofs.trier.answer_of_accepted.Goals as goal

same_number : (j : Judgement) (n m : ℕ) → j ≡ Verified n → j ≡ Verified m → n ≡ m
same_number j n m a b = cc

pub unreachable-requires : goal.unreachable-requires
unreachable-requires c = c.in_default.not-Verified c.args.theorems (one_judgement c.args.text.now c.in_ok-theorems.field-0 (Verified c.args.theorems) c.in_ok-theorems.ensures c.requires.verified)

pub returns : goal.returns
returns c =
    let same = same_number c.in_ok-theorems.field-0 c.in-Verified.theorems c.args.theorems c.in-Verified.is
    (one_judgement c.args.text.now c.in_ok-theorems.field-0 (Verified c.args.theorems) c.in_ok-theorems.ensures c.requires.verified) in
    (ap (λ (n : ℕ). status.Tried n c.args.steps) same, c.in_ok-line.ensures ∙ ap (λ (n : ℕ). tried_line n c.args.steps) same)
