-- The objects of a construction and of a close, read one after another.
use Rattle.std.proofs.Common.{◌≡◌, ℕ, Bool, true, false, List, [], ◌∷◌, ◌++◌, inl, inr, Result, Ok, Err, refl, sym, ap, ◌∙◌}
use Rattle.std.specs.Prelude.{◌⊎◌}
use Rattle.std.specs.List.{list_any}
use Rattle.e_literal.specs.declared.object.Sort.{Sort}
use Rattle.e_literal.specs.declared.object.Obj.{Obj}
use Rattle.e_construct.specs.declared.construction.Shape.{Shape}
use Rattle.e_construct.specs.Lines.{takes}
use Rattle.e_deriv.specs.declared.names.Names.{Names}
use Rattle.e_deriv.specs.Naming.{with_new_names}
use Rattle.e_line.specs.declared.fault.FaultKind.{FaultKind}
use Rattle.e_line.specs.declared.fault.FaultKind.TheVariants.{WrongSort}
use Rattle.e_line.specs.Reading.{◌>>=◌}
use Rattle.e_names.specs.Scope.{used_object, right_sort, arguments_in, objects_of_sorts}

-- whether one of the shapes takes the objects as its first arguments
abbrev pub one_takes : List Shape → List Obj → Bool
one_takes shapes found = list_any (λ s. takes s found) shapes

-- what is read after an object
abbrev after : Names → List Shape → List Obj → List (List ℕ) → Obj → Bool → Result (List Obj) FaultKind
after ns shapes found names o b = right_sort b >>= λ right. arguments_in ns shapes (found ++ o ∷ []) names

one_more : (ns : Names) (shapes : List Shape) (found : List Obj) (name : List ℕ) (names : List (List ℕ)) (o : Obj) → used_object ns name ≡ Ok o
    → arguments_in ns shapes found (name ∷ names) ≡ after ns shapes found names o (one_takes shapes (found ++ o ∷ []))
one_more ns shapes found name names o u = ap (λ (r : Result Obj FaultKind). r >>= λ x. after ns shapes found names x (one_takes shapes (found ++ x ∷ []))) u

-- an object that one of the shapes takes
pub argument_taken : (ns : Names) (shapes : List Shape) (found : List Obj) (all : List (List ℕ)) (name : List ℕ) (names : List (List ℕ)) (o : Obj) (total : Result (List Obj) FaultKind) → all ≡ name ∷ names → used_object ns name ≡ Ok o
    → one_takes shapes (found ++ o ∷ []) ≡ true → arguments_in ns shapes found all ≡ total → arguments_in ns shapes (found ++ o ∷ []) names ≡ total
argument_taken ns shapes found all name names o total is u t so_far =
    sym (ap (after ns shapes found names o) t) ∙ sym (one_more ns shapes found name names o u) ∙ ap (arguments_in ns shapes found) (sym is) ∙ so_far

-- and one that none takes
pub argument_refused : (ns : Names) (shapes : List Shape) (found : List Obj) (all : List (List ℕ)) (name : List ℕ) (names : List (List ℕ)) (o : Obj) (total : Result (List Obj) FaultKind) → all ≡ name ∷ names → used_object ns name ≡ Ok o
    → one_takes shapes (found ++ o ∷ []) ≡ false → arguments_in ns shapes found all ≡ total → total ≡ Err WrongSort
argument_refused ns shapes found all name names o total is u t so_far =
    sym so_far ∙ ap (arguments_in ns shapes found) is ∙ one_more ns shapes found name names o u ∙ ap (after ns shapes found names o) t

-- no name is left, or no sort
pub none_named : (ns : Names) (sorts : List Sort) (names : List (List ℕ)) → (sorts ≡ []) ⊎ (names ≡ []) → with_new_names ns sorts names ≡ ns
none_named ns [] names e = refl
none_named ns (s ∷ sorts) [] e = refl
none_named ns (s ∷ sorts) (n ∷ names) (inl e) = absurd cc
none_named ns (s ∷ sorts) (n ∷ names) (inr e) = absurd cc

pub none_of_sorts : (ns : Names) (sorts : List Sort) (names : List (List ℕ)) → (sorts ≡ []) ⊎ (names ≡ []) → objects_of_sorts ns sorts names ≡ Ok []
none_of_sorts ns [] names e = refl
none_of_sorts ns (s ∷ sorts) [] e = refl
none_of_sorts ns (s ∷ sorts) (n ∷ names) (inl e) = absurd cc
none_of_sorts ns (s ∷ sorts) (n ∷ names) (inr e) = absurd cc
