-- A loop that looks for an item, part by part.
use Rattle.std.proofs.Common.{◌≡◌, ℕ, ◌<◌, Bool, true, false, List, ◌∷◌, length, refl, sym, ap, ◌∙◌}
use Rattle.std.specs.List.{list_any}
use Rattle.std.proofs.lemmas.Bool.{lt-leb}
use Rattle.e_line.specs.Literals.{is_semicolon}
use Rattle.e_line.specs.Items.{begins_item, has_item}
use Rattle.e_line.proofs.base.Loops.{parts_from}

pub found_here : (part : List (List ℕ)) (rest all : List (List (List ℕ))) (total : Bool) → all ≡ part ∷ rest → begins_item part ≡ true → list_any begins_item all ≡ total → true ≡ total
found_here part rest all total is here so_far =
    let first : list_any begins_item (part ∷ rest) ≡ true = rw here refl in
    sym first ∙ ap (λ (l : List (List (List ℕ))). list_any begins_item l) (sym is) ∙ so_far

pub none_here : (part : List (List ℕ)) (rest all : List (List (List ℕ))) (total : Bool) → all ≡ part ∷ rest → begins_item part ≡ false → list_any begins_item all ≡ total → list_any begins_item rest ≡ total
none_here part rest all total is none so_far =
    let later : list_any begins_item (part ∷ rest) ≡ list_any begins_item rest = rw none refl in
    sym later ∙ ap (λ (l : List (List (List ℕ))). list_any begins_item l) (sym is) ∙ so_far

pub none_left : (at : ℕ) (words : List (List ℕ)) → length words < at → list_any begins_item (parts_from is_semicolon at words) ≡ has_item words → false ≡ has_item words
none_left at words past so_far = rw (lt-leb _ _ past) at so_far
