use Rattle.std.proofs.Common.{[], ◌∷◌, length, length-append, ap, arith}
use Rattle.e_names.specs.TitledStatements.{titled_statement}
use Rattle.e_book.specs.TheoremViews.{entry_of}
use Rattle.e_book.proofs.fit_theorems.Fitting.{fitting, small_statement, one_more_stated}
use Rattle.e_book.proofs.parsers.ReadingOn.{begun_first}
use Rattle.e_commands.specs.Answers.{Derived}
use Rattle.e_commands.proofs.progress.History.{goes_on, breaks_off, breaks_inside, stopped, spelled_as, front_spelled_as}
use Rattle.e_commands.proofs.progress.TakenBooks.{stop_none}
use Rattle.e_commands.proofs.book.Book.handle.Goals as goal

pub block-requires-clause-fitting : goal.block-requires-clause-fitting
block-requires-clause-fitting g c = fitting c.args.self.now.known.theorems (entry_of c.args.theorem) c.requires.book.small c.requires.spelled.fits

pub block-requires-clause-good : goal.block-requires-clause-good
block-requires-clause-good g c = c.requires.spelled.fits.good_script

pub keep-requires : goal.keep-requires
keep-requires g c = c.requires.spelled.fits.new

pub returns-in-Err-clause-handles : goal.returns-in-Err-clause-handles
returns-in-Err-clause-handles g c =
    λ lines rest after before h read.
    stopped lines before (g.K.Sink.written c.args.sink.now) c.args.self.now.known rest after after c.args.self.now.steps (entry_of c.args.theorem) c.in-Err.stop c.args.self.now c.result_of_stop.result c.result_of_stop.ensures h read c.in-Err.ensures.stop c.in-Err.ensures.names

pub returns-in-Err-clause-book : goal.returns-in-Err-clause-book
returns-in-Err-clause-book g c = stop_none c.args.theorem.title c.in-Err.stop c.result_of_stop.result _ c.result_of_stop.ensures

pub returns-in-Err-clause-begins : goal.returns-in-Err-clause-begins
returns-in-Err-clause-begins g c = stop_none c.args.theorem.title c.in-Err.stop c.result_of_stop.result _ c.result_of_stop.ensures

pub returns-in_default-clause-handles : goal.returns-in_default-clause-handles
returns-in_default-clause-handles g c =
    λ lines rest after before h read.
    let made = c.in-Ok.ensures.block in
    let d : Derived = record { theorem = entry_of c.args.theorem; derivation = made.derivation } in
    breaks_inside lines before (g.K.Sink.written c.args.sink.now) (g.K.Sink.written c.write_all.new.sink) c.args.self.now.known rest after c.args.self.now.steps d h read made.sound
    (front_spelled_as (g.K.Sink.written c.args.sink.now) (g.K.Sink.written c.write_all.new.sink) c.deref.result.now c.in-Ok.block.items c.args.self.now.known.theorems d c.deref.ensures.value made.spells c.in_default.ensures.prefix)

pub returns-in_default-keep-clause-handles : goal.returns-in_default-keep-clause-handles
returns-in_default-keep-clause-handles g c =
    λ lines rest after before h read.
    let made = c.in-Ok.ensures.block in
    let d : Derived = record { theorem = entry_of c.args.theorem; derivation = made.derivation } in
    breaks_off lines before (g.K.Sink.written c.write_all.new.sink) _ after _
    (goes_on lines before (g.K.Sink.written c.args.sink.now) (g.K.Sink.written c.write_all.new.sink) c.args.self.now.known rest after c.args.self.now.steps d h read made.sound
    (spelled_as (g.K.Sink.written c.args.sink.now) (g.K.Sink.written c.write_all.new.sink) c.deref.result.now c.in-Ok.block.items c.args.self.now.known.theorems d c.deref.ensures.value made.spells c.in-Ok-write_all.ensures.ok))

pub returns-clause-handles : goal.returns-clause-handles
returns-clause-handles g c =
    λ lines rest after before h read.
    let made = c.in-Ok.ensures.block in
    let d : Derived = record { theorem = entry_of c.args.theorem; derivation = made.derivation } in
    rw (c.in-Ok-keep.ensures, c.size-count.ensures) (goes_on lines before (g.K.Sink.written c.args.sink.now) (g.K.Sink.written c.write_all.new.sink) c.args.self.now.known rest after c.args.self.now.steps d h read made.sound
    (spelled_as (g.K.Sink.written c.args.sink.now) (g.K.Sink.written c.write_all.new.sink) c.deref.result.now c.in-Ok.block.items c.args.self.now.known.theorems d c.deref.ensures.value made.spells c.in-Ok-write_all.ensures.ok))

pub returns-clause-book : goal.returns-clause-book
returns-clause-book g c =
    let b = c.requires.book in
    let t = entry_of c.args.theorem in
    let s = c.requires.spelled in
    record {
      small = rw c.in-Ok-keep.ensures (one_more_stated c.args.self.now.known.theorems t.title t.statement b.small (small_statement c.args.self.now.known.theorems t s.fits));
      notions = b.notions;
      count = omega (arith, ap length c.in-Ok-keep.ensures, length-append c.args.self.now.known.theorems (titled_statement c.args.theorem.title c.args.theorem.statement ∷ []), b.count);
      most = omega (arith, s.few_theorems, b.count);
      steps = omega (arith, b.steps, s.fits.steps, c.size-count.ensures);
      partial_item = rw c.requires.begins tt;
      begun = rw c.requires.begins (begun_first (record c.args.self.now.known { theorems = c.keep.new.known }));
    }

pub returns-clause-begins : goal.returns-clause-begins
returns-clause-begins g c = c.requires.begins
