use Rattle.e_clause.specs.Views.{row_of}
use Rattle.e_transfer.proofs.SearchedPlaces.{argument_added}
use Rattle.e_transfer.proofs.numbers.arguments.Goals as goal

pub loop-v-preserved : goal.loop-v-preserved
loop-v-preserved c =
    argument_added (row_of c.args.row.now) c.args.part.now c.args.positions.now c.loop-v.v c.loop-v.args.items c.push.new.self.items c.sort_of.result c.number.result c.loop-v-test.true
    c.in_ok-push.ensures.items c.sort_of.ensures c.number.ensures c.loop-v.invariant
