-- The images of a notion's objects, and what it says of them.
use Rattle.std.proofs.Common.{◌≡◌, ℕ, List, length, take, map, min, true, Result, Ok, Err, sym, ap, ◌∙◌, arith}
use Rattle.std.specs.Prelude.{IfOk}
use Rattle.std.proofs.lemmas.List.{append-nil, take-map, take_min, take_all, length-map}
use Rattle.e_literal.specs.declared.object.Obj.{Obj}
use Rattle.e_literal.specs.declared.object.Scope.{Scope}
use Rattle.e_literal.specs.declared.literal.Lit.{Lit}
use Rattle.e_literal.specs.declared.map.Entry.{Entry}
use Rattle.e_literal.specs.Scopes.{nothing, next_objects}
use Rattle.e_literal.specs.Rename.{image_in, pairs_of, with_images}
use Rattle.e_literal.specs.Use.{image_in_use, are_arguments}
use Rattle.e_theorem.specs.declared.application.UseFault.{UseFault}
use Rattle.e_theorem.specs.declared.notion.Notion.{Notion}
use Rattle.e_theorem.specs.Notions.{as_stated, literals_of_notion}
use Rattle.e_theorem.proofs.Imaging.{one_sort, imaged_by, at_images}

pub one_sort_declared : (x : List Obj) (n : Notion) (args : List Obj) (s : Scope) → x ≡ next_objects nothing n.declared → are_arguments (as_stated n) s args ≡ true
    → map (λ (o : Obj). o.sort) x ≡ map (λ (o : Obj). o.sort) args
one_sort_declared x n args s is fit = one_sort x args (as_stated n) args s (is ∙ sym (append-nil (next_objects nothing n.declared))) (sym (append-nil args)) fit

pub imaged_declared : (m : List Entry) (x : List Obj) (n : Notion) (args : List Obj) (s : Scope) → m ≡ pairs_of x args → x ≡ next_objects nothing n.declared → are_arguments (as_stated n) s args ≡ true
    → (o : Obj) → image_in m o ≡ image_in_use (as_stated n) args s o
imaged_declared m x n args s pairs is fit o =
    imaged_by m x args (as_stated n) args s pairs (is ∙ sym (append-nil (next_objects nothing n.declared))) (sym (append-nil args)) fit o

-- the first literals with these images
pub first_expanded : (r front : List Lit) (m : List Entry) (n : Notion) (args : List Obj) (s : Scope) (k most : ℕ) → r ≡ map (with_images (image_in m)) front → front ≡ take k n.means → k ≡ min most (length n.means)
    → ((o : Obj) → image_in m o ≡ image_in_use (as_stated n) args s o) → r ≡ take most (literals_of_notion n args s)
first_expanded r front m n args s k most is part count images =
    at_images r m front (as_stated n) args s (take most n.means) is (part ∙ ap (λ (i : ℕ). take i n.means) count ∙ take_min most n.means) images
    ∙ sym (take-map (with_images (image_in_use (as_stated n) args s)) most n.means)

-- all of them
pub all_expanded : (n : Notion) (args : List Obj) (s : Scope) (r : List Lit) (count : ℕ) → count ≡ length n.means → r ≡ take count (literals_of_notion n args s) → r ≡ literals_of_notion n args s
all_expanded n args s r count is h =
    h ∙ take_all count (literals_of_notion n args s) (omega (arith, is, length-map n.means (with_images (image_in_use (as_stated n) args s))))

pub whole_expanded : (n : Notion) (args : List Obj) (s : Scope) (r : Result (List Lit) UseFault) (count : ℕ) → count ≡ length n.means → IfOk r (λ ls. ls ≡ take count (literals_of_notion n args s)) → IfOk r (λ ls. ls ≡ literals_of_notion n args s)
whole_expanded n args s (Ok ls) count is h = all_expanded n args s ls count is h
whole_expanded n args s (Err fault) count is h = tt
