use Rattle.std.proofs.Common.{◌-◌, length, sym, ap, ◌∙◌}
use Rattle.std.specs.Prelude.{option_copied}
use Rattle.e_licence.proofs.HeldStates.{metric_facts_at}
use Rattle.e_licence.proofs.solving.metric_facts_outside.Goals as goal

pub returns-in-Some : goal.returns-in-Some
returns-in-Some c =
    let held = c.args.held.now in
    metric_facts_at held (length held - 1) c.in-Some.last.now c.copy_or_new.result (sym c.last.ensures.value ∙ ap option_copied c.in-Some.is) c.copy_or_new.ensures

pub returns-in-None : goal.returns-in-None
returns-in-None c facts high h = c.new.ensures facts
