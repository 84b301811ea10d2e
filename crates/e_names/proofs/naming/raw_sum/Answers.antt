use Rattle.std.proofs.Common.{◌+◌, map, drop, get_or}
use Rattle.e_literal.specs.declared.object.Term.TheVariants.{Seg}
use Rattle.e_literal.specs.declared.object.Mono.{Mono}
use Rattle.e_names.specs.Canonical.{raw_mono}
use Rattle.e_line.proofs.base.Loops.{rest_at}
use Rattle.e_names.proofs.literals.NamesPut.{put_more}
use Rattle.e_names.proofs.naming.raw_sum.Goals as goal

pub loop-mono-preserved : goal.loop-mono-preserved
loop-mono-preserved c =
    let ms = c.args.monos.now in
    let i = c.loop-mono.mono-index in
    let none : Mono = record { coeff = 0; term = Seg 0 0 } in
    rw (c.in_ok-push.ensures.ok, c.raw_term-term.ensures)
    (put_more (raw_mono c.args.names.now) c.loop-mono.sum (map (raw_mono c.args.names.now) ms) (drop i ms) (drop (i + 1) ms) (get_or ms i none) (rest_at ms i none c.loop-mono-test.true) c.loop-mono.invariant)
