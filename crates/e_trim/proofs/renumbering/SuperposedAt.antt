-- A superposition over the kept objects, number by number.
use Rattle.std.proofs.Common.{◌≡◌, ℕ, List, [], ◌∷◌, length, get_or, refl}
use Rattle.e_literal.specs.declared.object.Obj.{Obj}
use Rattle.e_literal.specs.declared.object.Sort.TheVariants.{Point, Line as ALine}
use Rattle.e_construct.specs.declared.superpose.Superpose.{Superpose}
use Rattle.e_literal.specs.Literal.{obj}
use Rattle.e_construct.specs.Superposing as superposing
use Rattle.e_construct.proofs.Superposing.{of_eight, at}
use Rattle.e_trim.specs.Trimmed.{kept_before, superpose_at}

abbrev pub numbered : List Obj → List ℕ → List ℕ → Superpose
numbered kept xs ys = record {
  points =
      kept_before kept Point (get_or xs 0 0)
      ∷ kept_before kept Point (get_or xs 1 0)
      ∷ kept_before kept Point (get_or xs 2 0)
      ∷ kept_before kept Point (get_or xs 3 0)
      ∷ kept_before kept Point (get_or xs 4 0)
      ∷ kept_before kept Point (get_or xs 5 0) ∷ [];
  lines = kept_before kept ALine (get_or ys 0 0) ∷ kept_before kept ALine (get_or ys 1 0) ∷ [];
}

pub numbered_is : (kept : List Obj) (x : Superpose) → length x.points ≡ 6 → length x.lines ≡ 2 → numbered kept x.points x.lines ≡ superpose_at kept x
numbered_is kept x e f =
    of_eight (λ xs ys. numbered kept xs ys ≡ superpose_at kept (at xs ys)) (λ a b c d g h k l. refl) x.points x.lines e f

abbrev pub objects_at : List ℕ → List ℕ → List Obj
objects_at xs ys =
    obj Point (get_or xs 0 0) ∷ obj Point (get_or xs 1 0) ∷ obj Point (get_or xs 2 0) ∷ obj Point (get_or xs 3 0) ∷ obj Point (get_or xs 4 0) ∷ obj Point (get_or xs 5 0)
    ∷ obj ALine (get_or ys 0 0) ∷ obj ALine (get_or ys 1 0) ∷ []

-- its objects, one by one
pub objects_are : (x : Superpose) → length x.points ≡ 6 → length x.lines ≡ 2 → objects_at x.points x.lines ≡ superposing.objects_of x
objects_are x e f = of_eight (λ xs ys. objects_at xs ys ≡ superposing.objects_of (at xs ys)) (λ a b c d g h k l. refl) x.points x.lines e f
