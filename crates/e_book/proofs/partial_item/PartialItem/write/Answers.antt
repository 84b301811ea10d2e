use Rattle.std.proofs.lemmas.Result.{err_from_is_err_and}
use Rattle.e_book.proofs.canonical.OutWritten.{few_there, out_is, out_fails}
use Rattle.e_book.proofs.partial_item.PartialItem.write.Goals as goal

pub put_items-requires-clause-names : goal.put_items-requires-clause-names
put_items-requires-clause-names c = few_there c.args.self.now.parser c.names_there-names.result.now c.requires.partial_item.parser c.names_there-names.ensures

pub returns-in_err-count-clause-value : goal.returns-in_err-count-clause-value
returns-in_err-count-clause-value c =
    let p = err_from_is_err_and c.from_residual-in_err-count.result c.from_residual-in_err-count.ensures.1 in
    rw (p.1, p.2) (out_fails c.args.known.now.notions c.args.self.now.parser c.args.line.now c.args.items.now c.names_there-names.result.now c.in_err-count.field-0.0 c.in_ok-check_head.ensures c.names_there-names.ensures c.in_err-count.ensures.value)

pub returns-clause-value : goal.returns-clause-value
returns-clause-value c =
    out_is c.args.known.now.notions c.args.self.now.parser c.args.line.now c.args.items.now c.names_there-names.result.now c.empty-raws.result c.put_items.new.raws c.in_ok-count.count c.in_ok-raw_line.raw_line c.in_ok-check_head.ensures c.names_there-names.ensures
    c.empty-raws.ensures c.in_ok-count.ensures.value c.in_ok-raw_line.ensures
