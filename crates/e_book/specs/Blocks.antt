-- The blocks of a proof that are open while its lines come.
use Rattle.std.specs.Prelude.{◌≡◌, Bool, true, false, List, [], ◌∷◌, Option, Some, None}
use Rattle.std.specs.Prelude.{if◌then◌else◌}
use Rattle.std.specs.List.{list_any}
use Rattle.e_literal.specs.declared.object.Sort.{Sort}
use Rattle.e_book.specs.declared.blocks.OpenBlock.{OpenBlock}
use Rattle.e_book.specs.declared.blocks.BlockKind.{BlockKind}
use Rattle.e_book.specs.declared.blocks.BlockKind.TheVariants as kind

-- a claim and a superposition have goals of their own, without made objects; a block of a split has
-- that of the block that the split closes
abbrev pub is_claim : BlockKind → Bool
is_claim (kind.Claim shown) = true
is_claim (kind.Superpose superposition names shown) = true
is_claim (kind.First lit) = false
is_claim (kind.Second lit first) = false

abbrev pub has_claim : List OpenBlock → Bool
has_claim blocks = list_any (λ o. is_claim o.kind) blocks

-- the made objects of the goal of a block inside these
abbrev pub made_in : List OpenBlock → List Sort → List Sort
made_in blocks made = if has_claim blocks then [] else made

-- the innermost is taken out
abbrev pub TopIs : List OpenBlock → Option OpenBlock → List OpenBlock → Type 0
TopIs old None new = (old ≡ []) × (new ≡ [])
TopIs old (Some o) new = old ≡ o ∷ new
