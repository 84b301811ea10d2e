use Rattle.e_spell.proofs.StopTexts.{unlicensed_parts, written}
use Rattle.e_spell.proofs.stops.spell_unlicensed.Goals as goal

pub returns : goal.returns
returns c =
    written _ _ _ c.new-out.ensures.items c.in_ok-put_place.ensures c.in_ok-put_wanted.ensures c.in_ok-put_values_of.ensures
    (unlicensed_parts c.args.title c.args.step c.args.wanted.now c.args.values.now c.args.names.now)
