use Rattle.std.proofs.Common.{◌+◌, ◌-◌, take, drop, arith}
use Rattle.std.proofs.lemmas.Result.{err_from_is_err_and}
use Rattle.e_line.specs.Reading.{texts, with_front}
use Rattle.e_line.specs.Literals.{is_semicolon, lit_of, lits_of}
use Rattle.e_line.proofs.base.Loops.{goes_on, fails, parts_from}
use Rattle.e_line.proofs.read_again.Texts.{part_of}
use Rattle.e_line.proofs.literal.read_lits_into.Goals as goal

pub returns-in_err-lit : goal.returns-in_err-lit
returns-in_err-lit c =
    let p = err_from_is_err_and c.from_residual.result c.from_residual.ensures.1 in
    let words = c.args.words.now in
    let at = c.loop-at.at in
    let n = c.first_index_of.result in
    rw (p.1, p.2) (fails lit_of c.loop-at.lits (texts (take (at + n - at) (drop at words))) (parts_from is_semicolon (at + n + 1) (texts words)) (parts_from is_semicolon at (texts words)) c.in_err-lit.field-0.0 (with_front c.args.lits.now (lits_of (texts words)))
    (part_of words at n c.loop-at-test.true c.first_index_of.ensures.place) c.in_err-lit.ensures c.loop-at.invariant.read)

pub loop-at-preserved : goal.loop-at-preserved
loop-at-preserved c =
    let words = c.args.words.now in
    let at = c.loop-at.at in
    let n = c.first_index_of.result in
    rw c.in_ok-push.ensures.ok (record {
      read = goes_on lit_of c.loop-at.lits (texts (take (at + n - at) (drop at words))) (parts_from is_semicolon (at + n + 1) (texts words)) (parts_from is_semicolon at (texts words)) c.in_ok-lit.lit (with_front c.args.lits.now (lits_of (texts words)))
          (part_of words at n c.loop-at-test.true c.first_index_of.ensures.place) c.in_ok-lit.ensures c.loop-at.invariant.read;
      within = omega (arith, c.first_index_of.ensures.within);
    })
