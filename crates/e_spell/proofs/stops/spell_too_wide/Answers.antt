use Rattle.e_spell.proofs.StopTexts.{too_wide_parts, written}
use Rattle.e_spell.proofs.stops.spell_too_wide.Goals as goal

pub returns : goal.returns
returns c =
    written _ _ _ c.new-out.ensures.items c.in_ok-put_place.ensures c.in_ok-put_wanted.ensures c.in_ok-put_width.ensures
    (too_wide_parts c.args.title c.args.step c.args.wanted.now c.args.width c.args.names.now)
