use Rattle.std.proofs.Common.{◌+◌, ◌-◌, take, drop, sym, ◌∙◌, arith}
use Rattle.e_line.specs.Reading.{texts}
use Rattle.e_line.specs.Literals.{is_semicolon}
use Rattle.e_line.specs.Items.{has_item}
use Rattle.e_line.proofs.base.Loops.{parts_from}
use Rattle.e_line.proofs.read_again.Texts.{length-texts, part_of}
use Rattle.e_line.proofs.base.ItemLoops.{found_here, none_here, none_left}
use Rattle.e_line.proofs.items.has_item.Goals as goal

pub returns-then-begins_item : goal.returns-then-begins_item
returns-then-begins_item c =
    let words = c.args.words.now in
    let at = c.loop-at.at in
    let n = c.first_index_of.result in
    found_here (texts (take (at + n - at) (drop at words))) (parts_from is_semicolon (at + n + 1) (texts words)) (parts_from is_semicolon at (texts words)) (has_item (texts words))
    (part_of words at n c.loop-at-test.true c.first_index_of.ensures.place) (sym c.begins_item.ensures ∙ c.if-begins_item.true) c.loop-at.invariant.none

pub loop-at-preserved : goal.loop-at-preserved
loop-at-preserved c =
    let words = c.args.words.now in
    let at = c.loop-at.at in
    let n = c.first_index_of.result in
    record {
      none = none_here (texts (take (at + n - at) (drop at words))) (parts_from is_semicolon (at + n + 1) (texts words)) (parts_from is_semicolon at (texts words)) (has_item (texts words))
          (part_of words at n c.loop-at-test.true c.first_index_of.ensures.place) (sym c.begins_item.ensures ∙ c.if-begins_item.false) c.loop-at.invariant.none;
      within = omega (arith, c.first_index_of.ensures.within);
    }

pub returns : goal.returns
returns c = none_left c.loop-at.at (texts c.args.words.now) (omega (arith, c.loop-at-test.false, length-texts c.args.words.now)) c.loop-at.invariant.none
