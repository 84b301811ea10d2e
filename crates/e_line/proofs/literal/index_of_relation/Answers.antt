use Rattle.std.proofs.Common.{[], length, sym, ap, ◌∙◌, arith, below_more}
use Rattle.std.proofs.lemmas.List.Sums.{position_or_len_is}
use Rattle.e_line.specs.Reading.{texts}
use Rattle.e_line.specs.Literals.{is_relation}
use Rattle.e_line.proofs.read_again.Texts.{text_at, length-texts}
use Rattle.e_line.proofs.literal.index_of_relation.Goals as goal

pub returns-then-is_relation-clause-place : goal.returns-then-is_relation-clause-place
returns-then-is_relation-clause-place c =
    let words = c.args.words.now in
    let here = ap is_relation (sym (text_at words c.loop-i.i (record { ref_ptr = (0, 0); now = [] }))) in
    sym (position_or_len_is is_relation (texts words) c.loop-i.i [] (omega (arith, length-texts words)) c.loop-i.invariant (λ lt. here ∙ sym c.is_relation.ensures ∙ c.if-is_relation.true))

pub loop-i-preserved : goal.loop-i-preserved
loop-i-preserved c =
    let words = c.args.words.now in
    let here = ap is_relation (sym (text_at words c.loop-i.i (record { ref_ptr = (0, 0); now = [] }))) in
    below_more _ _ c.loop-i.invariant (here ∙ sym c.is_relation.ensures ∙ c.if-is_relation.false)

pub returns-clause-place : goal.returns-clause-place
returns-clause-place c =
    let words = c.args.words.now in
    sym (position_or_len_is is_relation (texts words) (length words) [] (omega (arith, length-texts words)) (λ k lt. c.loop-i.invariant k (omega arith)) (λ lt. absurd (omega (arith, length-texts words))))
