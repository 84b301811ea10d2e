use Rattle.std.proofs.Common.{◌+◌, ◌-◌, take, drop, arith}
use Rattle.std.specs.Prelude.{codes}
use Rattle.std.specs.List.{slice_split}
use Rattle.std.proofs.lemmas.Result.{err_from_is_err_and}
use Rattle.e_line.specs.Reading.{texts, with_front, each}
use Rattle.e_line.specs.Sums.{is_plus, mono_of}
use Rattle.e_line.proofs.base.Loops.{goes_on, fails, parts_from}
use Rattle.e_line.proofs.read_again.Texts.{part_at}
use Rattle.e_line.proofs.sum.read_monos_into.Goals as goal

pub returns-in_err-coeff : goal.returns-in_err-coeff
returns-in_err-coeff c =
    let p = err_from_is_err_and c.from_residual.result c.from_residual.ensures.1 in
    let words = c.args.words.now in
    let at = c.loop-at.at in
    let n = c.first_index_of.result in
    rw (p.1, p.2) (fails mono_of c.loop-at.monos (texts (take (at + n - at) (drop at words))) (parts_from is_plus (at + n + 1) (texts words)) (parts_from is_plus at (texts words)) c.in_err-coeff.field-0.0 (with_front c.args.monos.now (each mono_of (slice_split is_plus (texts words))))
    (part_at (codes "+") words at n c.loop-at-test.true c.first_index_of.ensures.place) c.in_err-coeff.ensures c.loop-at.invariant.read)

pub loop-at-preserved : goal.loop-at-preserved
loop-at-preserved c =
    let words = c.args.words.now in
    let at = c.loop-at.at in
    let n = c.first_index_of.result in
    rw c.in_ok-push.ensures.ok (record {
      read = goes_on mono_of c.loop-at.monos (texts (take (at + n - at) (drop at words))) (parts_from is_plus (at + n + 1) (texts words)) (parts_from is_plus at (texts words)) c.in_ok-coeff.field-0 (with_front c.args.monos.now (each mono_of (slice_split is_plus (texts words))))
          (part_at (codes "+") words at n c.loop-at-test.true c.first_index_of.ensures.place) c.in_ok-coeff.ensures c.loop-at.invariant.read;
      within = omega (arith, c.first_index_of.ensures.within);
    })
