use Rattle.std.proofs.Common.{ap, sym, ◌∙◌}
use Rattle.std.specs.Option.{option_copied}
use Rattle.e_verify.proofs.checking.FormedFacts.{formed_at}
use Rattle.e_verify.proofs.rows.row_at.Goals as goal

pub row_of-requires : goal.row_of-requires
row_of-requires c = formed_at c.args.facts.now c.args.place c.in-Some.lit.now c.requires (sym c.get.ensures ∙ ap option_copied c.in-Some.is)
