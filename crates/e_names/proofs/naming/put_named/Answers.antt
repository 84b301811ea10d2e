use Rattle.std.proofs.Common.{◌+◌, ◌++◌, map, drop, get_or}
use Rattle.e_names.specs.Canonical.{raw_of}
use Rattle.e_line.proofs.base.Loops.{rest_at}
use Rattle.e_names.proofs.literals.NamesPut.{put_more}
use Rattle.e_names.proofs.naming.put_named.Goals as goal

pub loop-lit-preserved : goal.loop-lit-preserved
loop-lit-preserved c =
    let lits = c.args.lits.now in
    let names = c.args.names.now in
    let i = c.loop-lit.lit-index in
    rw (c.in_ok-push.ensures.ok, c.in_ok-raw.ensures, c.lit-item.is)
    (put_more (raw_of names) c.loop-lit.raws (c.args.raws.now ++ map (raw_of names) lits) (drop i lits) (drop (i + 1) lits) (get_or lits i c.lit-item.result) (rest_at lits i c.lit-item.result c.loop-lit-test.true) c.loop-lit.invariant)
