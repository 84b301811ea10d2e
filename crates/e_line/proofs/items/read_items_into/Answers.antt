use Rattle.std.proofs.Common.{◌+◌, ◌-◌, take, drop, arith}
use Rattle.std.proofs.lemmas.Result.{err_from_is_err_and}
use Rattle.e_line.specs.Reading.{texts, with_front}
use Rattle.e_line.specs.Literals.{is_semicolon}
use Rattle.e_line.specs.Items.{item_of, items_of}
use Rattle.e_line.proofs.base.Loops.{goes_on, fails, parts_from}
use Rattle.e_line.proofs.read_again.Texts.{part_of}
use Rattle.e_line.proofs.items.read_items_into.Goals as goal

pub returns-in_err-item : goal.returns-in_err-item
returns-in_err-item c =
    let p = err_from_is_err_and c.from_residual.result c.from_residual.ensures.1 in
    let words = c.args.words.now in
    let at = c.loop-at.at in
    let n = c.first_index_of.result in
    rw (p.1, p.2) (fails item_of c.loop-at.items (texts (take (at + n - at) (drop at words))) (parts_from is_semicolon (at + n + 1) (texts words)) (parts_from is_semicolon at (texts words)) c.in_err-item.field-0.0 (with_front c.args.items.now (items_of (texts words)))
    (part_of words at n c.loop-at-test.true c.first_index_of.ensures.place) c.in_err-item.ensures c.loop-at.invariant.read)

pub loop-at-preserved : goal.loop-at-preserved
loop-at-preserved c =
    let words = c.args.words.now in
    let at = c.loop-at.at in
    let n = c.first_index_of.result in
    rw c.in_ok-push.ensures.ok (record {
      read = goes_on item_of c.loop-at.items (texts (take (at + n - at) (drop at words))) (parts_from is_semicolon (at + n + 1) (texts words)) (parts_from is_semicolon at (texts words)) c.in_ok-item.item (with_front c.args.items.now (items_of (texts words)))
          (part_of words at n c.loop-at-test.true c.first_index_of.ensures.place) c.in_ok-item.ensures c.loop-at.invariant.read;
      within = omega (arith, c.first_index_of.ensures.within);
    })
