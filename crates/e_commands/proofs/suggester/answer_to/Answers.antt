use Rattle.std.proofs.Common.{◌≡◌, ℕ, ◌+◌, ◌∙◌, length, arith, refl, sym, ap, subst, Option, None, Ok, Some}
use Rattle.e_names.specs.declared.known.Known.{Known}
use Rattle.e_book.specs.Definitions.{item_from, view_of}
use Rattle.e_book.specs.Grammar.{last_line, BookFails}
use Rattle.e_commands.specs.declared.output.Answer.{Answer}
use Rattle.e_commands.specs.Outcome.{end_line_number}
use Rattle.e_commands.specs.inner.Suggesting.{IsOnWay, PassesTitles}
use Rattle.e_commands.proofs.answers.SuggesterAnswers.{way_start, no_step_here, faulty_here}
use Rattle.e_commands.proofs.suggester.answer_to.Goals as goal

pub loop-item-init : goal.loop-item-init
loop-item-init c =
    record { way = subst (λ (k : Known). IsOnWay c.args.lines.now.lines c.args.title k c.args.lines.now.lines) (sym c.requires.none) (way_start c.args.lines.now.lines c.args.title); last = refl }

pub next_item-requires-clause-lines : goal.next_item-requires-clause-lines
next_item-requires-clause-lines c = omega (arith, c.loop-item.invariant.last, c.requires.first, c.requires.few)

pub next_item-requires-clause-theorems : goal.next_item-requires-clause-theorems
next_item-requires-clause-theorems c = c.loop-item.invariant.way.small

pub next_item-requires-clause-notions : goal.next_item-requires-clause-notions
next_item-requires-clause-notions c = c.loop-item.invariant.way.notions

pub returns-in-Ok-None : goal.returns-in-Ok-None
returns-in-Ok-None c =
    let last : last_line c.loop-item.lines ≡ end_line_number c.args.lines.now.lines = c.loop-item.invariant.last ∙ ap (λ (n : ℕ). n + length c.args.lines.now.lines) c.requires.first in
    no_step_here c.answer_with.result c.args.lines.now.lines c.args.title c.args.step c.loop-item.known c.loop-item.lines.lines c.loop-item.invariant.way
    (subst (λ (n : ℕ). item_from c.loop-item.known n None c.loop-item.lines.lines ≡ Ok None) last (rw c.in-Ok-None.field-0-is at c.in-Ok-None.ensures.read)) c.answer_with.ensures

pub returns-in-Err : goal.returns-in-Err
returns-in-Err c =
    let last : last_line c.loop-item.lines ≡ end_line_number c.args.lines.now.lines = c.loop-item.invariant.last ∙ ap (λ (n : ℕ). n + length c.args.lines.now.lines) c.requires.first in
    faulty_here c.answer_of_fault.result c.args.lines.now.lines c.args.title c.args.step c.loop-item.known c.loop-item.lines.lines c.in-Err.at c.loop-item.invariant.way
    (subst (λ (n : ℕ). BookFails c.in-Err.at (item_from c.loop-item.known n None c.loop-item.lines.lines)) last c.in-Err.ensures.read) c.answer_of_fault.ensures

pub pass_item-requires-clause-small : goal.pass_item-requires-clause-small
pass_item-requires-clause-small c = c.loop-item.invariant.way.small

pub pass_item-requires-clause-good : goal.pass_item-requires-clause-good
pass_item-requires-clause-good c = rw c.in-Ok-Some.field-0-is at c.in-Ok-Some.ensures.good

pub pass_item-requires-clause-fitting : goal.pass_item-requires-clause-fitting
pass_item-requires-clause-fitting c = rw c.in-Ok-Some.field-0-is at c.in-Ok-Some.ensures.fitting

pub returns-in-Some : goal.returns-in-Some
returns-in-Some c =
    let last : last_line c.loop-item.lines ≡ end_line_number c.args.lines.now.lines = c.loop-item.invariant.last ∙ ap (λ (n : ℕ). n + length c.args.lines.now.lines) c.requires.first in
    subst (λ (o : Option Answer). PassesTitles c.args.lines.now.lines c.args.title c.args.step c.pass_item.new.known c.next_item.new.lines.lines o) c.in-Some.is
    (c.in_ok-pass_item.ensures c.args.lines.now.lines c.loop-item.lines.lines c.next_item.new.lines.lines c.loop-item.invariant.way
    (subst (λ (n : ℕ). item_from c.loop-item.known n None c.loop-item.lines.lines ≡ Ok (Some (view_of c.in-Ok-Some.item, c.next_item.new.lines.lines))) last (rw c.in-Ok-Some.field-0-is at c.in-Ok-Some.ensures.read)))

pub loop-item-preserved : goal.loop-item-preserved
loop-item-preserved c =
    let last : last_line c.loop-item.lines ≡ end_line_number c.args.lines.now.lines = c.loop-item.invariant.last ∙ ap (λ (n : ℕ). n + length c.args.lines.now.lines) c.requires.first in
    record {
      way = subst (λ (o : Option Answer). PassesTitles c.args.lines.now.lines c.args.title c.args.step c.pass_item.new.known c.next_item.new.lines.lines o) c.in-None.is
          (c.in_ok-pass_item.ensures c.args.lines.now.lines c.loop-item.lines.lines c.next_item.new.lines.lines c.loop-item.invariant.way
          (subst (λ (n : ℕ). item_from c.loop-item.known n None c.loop-item.lines.lines ≡ Ok (Some (view_of c.in-Ok-Some.item, c.next_item.new.lines.lines))) last (rw c.in-Ok-Some.field-0-is at c.in-Ok-Some.ensures.read)));
      last = c.in-Ok-Some.ensures.last ∙ c.loop-item.invariant.last;
    }
