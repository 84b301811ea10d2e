use Rattle.std.proofs.Common.{List, sym, ap, subst, ◌∙◌}
use Rattle.e_text.specs.Lines.{view_of_line}
use Rattle.e_line.specs.Reading.{Fails}
use Rattle.e_book.specs.Grammar.{is_skipped}
use Rattle.e_book.specs.inner.Machine.{partial_after}
use Rattle.e_book.proofs.parsers.ReadingOn.{takes_skipped, takes_words, takes_fault}
use Rattle.e_book.proofs.reading.Reading.take.Goals as goal

pub returns-then-is_skipped-clause-takes : goal.returns-then-is_skipped-clause-takes
returns-then-is_skipped-clause-takes c =
    takes_skipped c.args.known.now c.args.self.now.partial_item (view_of_line c.args.line.now) (ap is_skipped (sym c.requires.words) ∙ sym c.is_skipped.ensures ∙ c.if-is_skipped.true)

pub returns-in-Ok-clause-takes : goal.returns-in-Ok-clause-takes
returns-in-Ok-clause-takes c =
    takes_words c.args.known.now c.args.self.now.partial_item c.take_words.new.partial_item (view_of_line c.args.line.now) c.has_ended.result (ap is_skipped (sym c.requires.words) ∙ sym c.is_skipped.ensures ∙ c.if-is_skipped.false)
    (ap (partial_after c.args.known.now c.args.self.now.partial_item) (sym c.requires.words) ∙ c.in-Ok.ensures.value) c.has_ended.ensures
