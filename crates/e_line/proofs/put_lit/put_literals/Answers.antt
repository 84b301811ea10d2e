use Rattle.std.proofs.Common.{◌++◌, List, ap, ◌∙◌}
use Rattle.std.proofs.lemmas.List.{take_rest}
use Rattle.e_text.specs.Tokens.{with_spaces}
use Rattle.e_line.specs.declared.literal.RawLit.{RawLit}
use Rattle.e_line.specs.Canonical.{more_words}
use Rattle.e_line.proofs.read_again.Spaced.{first_after}
use Rattle.e_line.proofs.put_lit.put_literals.Goals as goal

pub returns-in_ok-put_more_literals-in-len1-up : goal.returns-in_ok-put_more_literals-in-len1-up
returns-in_ok-put_more_literals-in-len1-up c =
    let b = c.put_literal.new.out.items in
    let rest = ap (λ (ls : List RawLit). b ++ with_spaces (more_words ls)) (take_rest c.args.lits.now 1) in
    first_after c.args.out.now.items b c.put_more_literals.new.out.items c.args.lits.now c.first-item.result c.in-len1-up.len_at_least c.first-item.is c.in_ok-put_literal-in-len1-up.ensures
    (c.in_ok-put_more_literals-in-len1-up.ensures ∙ rest)
