use Rattle.std.proofs.Common.{[], ◌∷◌, ◌++◌}
use Rattle.e_line.specs.Canonical.{lit_words}
use Rattle.e_line.proofs.read_again.Spaced.{after, word_after}
use Rattle.e_line.proofs.put_line.put_citation.Goals as goal

pub returns : goal.returns
returns c =
    let a = c.args.out.now.items in
    let b = c.put.new.out.items in
    let n = c.put_names.new.out.items in
    let end = c.put_literal.new.out.items in
    let said = lit_words c.args.lit.now in
    word_after a b end c.args.rule.now (c.args.names.now ++ (58 ∷ []) ∷ said) c.in_ok-put.ensures.ok
    (after b n end c.args.names.now ((58 ∷ []) ∷ said) c.in_ok-put_names.ensures.ok (word_after n c.put-2.new.out.items end (58 ∷ []) said c.in_ok-put-2.ensures.ok c.in_ok-put_literal.ensures))
