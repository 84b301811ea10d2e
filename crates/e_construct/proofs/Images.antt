-- The objects for variables.
use Rattle.std.proofs.Common.{◌≡◌, ◌⊎◌, List, [], ◌∷◌, ◌++◌, map, inl, inr, refl, ap, ◌∙◌, None, true, false, cond}
use Rattle.e_literal.specs.declared.object.Obj.{Obj}
use Rattle.e_literal.specs.Rename.{image_in, pairs_of, with_images}
use Rattle.e_literal.specs.Scopes.{same_sort}
use Rattle.e_literal.specs.declared.literal.Lit.{Lit}
use Rattle.e_construct.specs.Shapes.{ShapeRow}
use Rattle.e_construct.specs.Construct.{of_sort, needs_of_avoided, argument, needs_of_row}
use Rattle.e_literal.specs.declared.object.Sort.{Sort}
use Rattle.e_literal.proofs.WithImages.{image_in_first, image_in_second}
use Rattle.std.proofs.lemmas.List.{append-nil}
use Rattle.std.proofs.lemmas.Grind.{common_steps}

-- an object of the sort stays, another does not
pub of_sort_yes : (s : Sort) (o : Obj) (os : List Obj) → same_sort s o.sort ≡ true → of_sort s (o ∷ os) ≡ o ∷ of_sort s os
of_sort_yes s o os h = ap (λ b. cond b (o ∷ of_sort s os) (of_sort s os)) h

pub of_sort_no : (s : Sort) (o : Obj) (os : List Obj) → same_sort s o.sort ≡ false → of_sort s (o ∷ os) ≡ of_sort s os
of_sort_no s o os h = ap (λ b. cond b (o ∷ of_sort s os) (of_sort s os)) h

pub ruleset choosing = (common_steps, of_sort_yes, of_sort_no)

pub ruleset namings = (common_steps, image_in_first, image_in_second)

pub ruleset joining = (common_steps, append-nil)

-- without variables or without objects nothing has an image
pub no_image : (ls os : List Obj) (o : Obj) → (ls ≡ []) ⊎ (os ≡ []) → image_in (pairs_of ls os) o ≡ None
no_image [] os o e = refl
no_image (l ∷ ls) [] o e = refl
no_image (l ∷ ls) (x ∷ os) o (inl e) = absurd cc
no_image (l ∷ ls) (x ∷ os) o (inr e) = absurd cc

-- the needs of a row, where they are written one part after the other
pub needs_of : (r : ShapeRow) (args avoid : List Obj) (start first last : List Lit) → start ≡ [] →
    first ≡ start ++ map (with_images (image_in (pairs_of r.args args ++ []))) r.needs →
    last ≡ first ++ needs_of_avoided r.avoids (argument r args) avoid → last ≡ needs_of_row r args avoid
needs_of r args avoid start first last n e k =
    k ∙ ap (λ xs. xs ++ needs_of_avoided r.avoids (argument r args) avoid)
    (e ∙ ap (λ xs. xs ++ map (with_images (image_in (pairs_of r.args args ++ []))) r.needs) n
    ∙ ap (λ xs. map (with_images (image_in xs)) r.needs) (append-nil (pairs_of r.args args)))
