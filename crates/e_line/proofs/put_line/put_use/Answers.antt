use Rattle.std.proofs.Common.{◌++◌, map}
use Rattle.e_line.specs.Canonical.{argument_word, made_words}
use Rattle.e_line.proofs.read_again.Spaced.{after, word_after}
use Rattle.e_line.proofs.put_line.put_use.Goals as goal

pub returns : goal.returns
returns c =
    let a = c.args.out.now.items in
    let b = c.put.new.out.items in
    let args = map argument_word c.args.args.now in
    let made = made_words c.args.new.now in
    word_after a b c.put_made.new.out.items c.args.title.now (args ++ made) c.in_ok-put.ensures.ok (after b c.put_arguments.new.out.items c.put_made.new.out.items args made c.in_ok-put_arguments.ensures c.in_ok-put_made.ensures)
