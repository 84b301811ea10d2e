use Rattle.std.proofs.Common.{[], ◌∷◌, ◌++◌, map}
use Rattle.e_line.specs.Canonical.{lit_words}
use Rattle.e_line.proofs.read_again.Spaced.{after, word_after}
use Rattle.e_names.specs.Canonical.{rule_name, name_of_object, raw_of}
use Rattle.e_spell.proofs.steps.put_cited.Goals as goal

pub returns : goal.returns
returns c =
    let a = c.args.out.now.items in
    let b = c.put_rule.new.out.items in
    let n = c.put_objects.new.out.items in
    let end = c.put_literal.new.out.items in
    let ns = c.args.names.now in
    let said = lit_words (raw_of ns c.args.lit.now) in
    let named = map (name_of_object ns) c.args.args.now in
    word_after a b end (rule_name c.args.rule) (named ++ (58 ∷ []) ∷ said) c.in_ok-put_rule.ensures
    (after b n end named ((58 ∷ []) ∷ said) c.in_ok-put_objects.ensures (word_after n c.put.new.out.items end (58 ∷ []) said c.in_ok-put.ensures.ok c.in_ok-put_literal.ensures))
