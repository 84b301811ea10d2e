-- The objects of a sum are those of its terms.
use Rattle.std.proofs.Common.{◌≡◌, Bool, ◌&&◌, List, [], ◌∷◌, refl, sym, ap, ◌∙◌}
use Rattle.std.specs.List.{list_all}
use Rattle.std.proofs.lemmas.List.Folds.{list_all-append}
use Rattle.e_literal.specs.declared.object.Obj.{Obj}
use Rattle.e_literal.specs.declared.object.Mono.{Mono}
use Rattle.e_literal.specs.Literal.{objects_of_term, objects_of_sum}

-- a test of all objects, term by term
pub all_by_term : (p : Obj → Bool) (ms : List Mono) → list_all (λ (m : Mono). list_all p (objects_of_term m.term)) ms ≡ list_all p (objects_of_sum ms)
all_by_term p [] = refl
all_by_term p (m ∷ ms) =
    ap (λ b. list_all p (objects_of_term m.term) && b) (all_by_term p ms) ∙ sym (list_all-append p (objects_of_term m.term) (objects_of_sum ms))
