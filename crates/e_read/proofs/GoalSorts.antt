-- The objects after qed have the sorts of the made ones.
use Rattle.std.proofs.Common.{◌≡◌, ℕ, Bool, true, false, List, [], ◌∷◌, map, Option, Some, None, Ok, refl, ap, ◌∙◌}
use Rattle.std.specs.Prelude.{◌||◌}
use Rattle.e_literal.specs.declared.literal.Lit.{Lit}
use Rattle.e_literal.specs.declared.object.Sort.{Sort}
use Rattle.e_literal.specs.declared.object.Obj.{Obj}
use Rattle.e_literal.proofs.Sorts.{sorts_of_objects}
use Rattle.e_deriv.specs.declared.names.Names.{Names}
use Rattle.e_book.specs.declared.blocks.OpenBlock.{OpenBlock}
use Rattle.e_book.specs.declared.blocks.BlockKind.{BlockKind}
use Rattle.e_book.specs.declared.blocks.BlockKind.TheVariants as kind
use Rattle.e_book.specs.Blocks.{is_claim, has_claim, made_in}
use Rattle.e_names.specs.Scope.{scope_of_names, qed_in}
use Rattle.e_names.proofs.read_lines.Building.{qed_fits}
use Rattle.e_read.specs.inner.Needs.{shown_inside, shown_around}

pub qed_sorts : (ns : Names) (sorts : List Sort) (names : List (List ℕ)) (os : List Obj) → qed_in ns sorts names ≡ Ok os → map (λ (o : Obj). o.sort) os ≡ sorts
qed_sorts ns sorts names os e = sorts_of_objects (scope_of_names ns) sorts os (qed_fits ns sorts names os e)

abbrev claims : Option (List Lit) → Bool
claims None = false
claims (Some shown) = true

-- the open block has a goal of its own where it is in a claim or a superposition
claims_is : (blocks : List OpenBlock) → has_claim blocks ≡ claims (shown_around blocks)
claims_is [] = refl
claims_is (o ∷ os) = inside o.kind (has_claim os) (shown_around os) (claims_is os)
  where
    inside : (what : BlockKind) (b : Bool) (around : Option (List Lit)) → b ≡ claims around → (is_claim what || b) ≡ claims (shown_inside what around)
    inside (kind.Claim shown) b around e = refl
    inside (kind.Superpose superposition names shown) b around e = refl
    inside (kind.First lit) b around e = e
    inside (kind.Second lit first) b around e = e

-- so nothing is made in a claim or a superposition
pub none_made : (blocks : List OpenBlock) (made : List Sort) (shown : List Lit) → shown_around blocks ≡ Some shown → made_in blocks made ≡ []
none_made blocks made shown e = let h : has_claim blocks ≡ true = claims_is blocks ∙ ap claims e in rw h refl

-- and else what the theorem makes
pub all_made : (blocks : List OpenBlock) (made : List Sort) → shown_around blocks ≡ None → made_in blocks made ≡ made
all_made blocks made e = let h : has_claim blocks ≡ false = claims_is blocks ∙ ap claims e in rw h refl
