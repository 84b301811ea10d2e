use Rattle.e_deriv.specs.Script.{script_of}
use Rattle.e_book.specs.TheoremViews.{entry_of}
use Rattle.e_spell.proofs.PartsOfSpelling.{parts_in_turn}
use Rattle.e_spell.proofs.writer.spell.Goals as goal

pub returns : goal.returns
returns c =
    parts_in_turn c.args.known.now (entry_of c.args.theorem.now) (script_of c.args.deriv.now) _ _ _ _ _ _
    c.in_ok-out.ensures.items c.in_ok-declared.ensures.text c.in_ok-declared.ensures.declared c.in_ok-names.ensures c.in_ok-put.ensures c.in_ok-put_line.ensures.ok
