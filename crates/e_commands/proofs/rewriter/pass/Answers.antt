use Rattle.std.proofs.Common.{inl, inr, subst, ◌∙◌, List, ℕ}
use Rattle.e_io.specs.Bytes.{Grew, GrewByFront}
use Rattle.e_io.proofs.Growth.{grown-nothing}
use Rattle.e_commands.proofs.rewriter.pass.Goals as goal

pub block_of-requires-clause-verifiable : goal.block_of-requires-clause-verifiable
block_of-requires-clause-verifiable g c = c.requires.verifiable

pub block_of-requires-clause-certified : goal.block_of-requires-clause-certified
block_of-requires-clause-certified g c = c.requires.certified

pub block_of-requires-clause-version : goal.block_of-requires-clause-version
block_of-requires-clause-version g c = c.requires.version

pub keep-requires : goal.keep-requires
keep-requires g c = c.requires.new

-- memory gave out before the block
pub returns-in_default-clause-broke : goal.returns-in_default-clause-broke
returns-in_default-clause-broke g c = inl (grown-nothing (g.K.Sink.written c.args.sink.now))

-- the sink gave out inside it
pub returns-in_default-write_all-clause-broke : goal.returns-in_default-write_all-clause-broke
returns-in_default-write_all-clause-broke g c =
    subst (λ (b : List ℕ). GrewByFront (g.K.Sink.written c.args.sink.now) (g.K.Sink.written c.write_all.new.sink) b) (c.deref.ensures.value ∙ c.in-Ok.ensures.block) c.in_default-write_all.ensures.prefix

-- memory gave out after it
pub returns-in_default-keep-clause-broke : goal.returns-in_default-keep-clause-broke
returns-in_default-keep-clause-broke g c =
    inr (subst (λ (b : List ℕ). Grew (g.K.Sink.written c.args.sink.now) (g.K.Sink.written c.write_all.new.sink) b) (c.deref.ensures.value ∙ c.in-Ok.ensures.block) c.in-Ok-write_all.ensures.ok)

pub returns-clause-passed : goal.returns-clause-passed
returns-clause-passed g c = record {
  known_now = c.in-Ok-keep.ensures;
  second = c.in-Ok.ensures.version;
  grew = subst (λ (b : List ℕ). Grew (g.K.Sink.written c.args.sink.now) (g.K.Sink.written c.write_all.new.sink) b) (c.deref.ensures.value ∙ c.in-Ok.ensures.block) c.in-Ok-write_all.ensures.ok;
}
