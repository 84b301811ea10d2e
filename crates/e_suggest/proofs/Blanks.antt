-- Blanks alone are a pattern of the statement.
use Rattle.std.proofs.Common.{◌≡◌, ℕ, List, [], ◌∷◌, map, length, replicate, refl, ap, ◌∙◌, subst, true, Option, None, Result}
use Rattle.std.specs.Prelude.{IfOk}
use Rattle.e_literal.specs.declared.object.Obj.{Obj}
use Rattle.e_literal.specs.declared.object.Scope.{Scope}
use Rattle.e_literal.specs.declared.object.Sort.{Sort}
use Rattle.e_literal.specs.Use.{StatementView}
use Rattle.e_theorem.specs.Pattern.{are_entries, is_pattern}
use Rattle.e_licence.specs.Contexts.{Basis}
use Rattle.e_licence.specs.ChoicesInOrder.{FirstAre}
use Rattle.e_licence.specs.declared.choices.FirstChoices.{FirstChoices}
use Rattle.e_suggest.specs.Suggestions.{blanks, SuggestedIs}

abbrev blank : Option Obj
blank = None

blank_entries : (s : Scope) (sorts : List Sort) → are_entries s sorts (map (λ (x : Sort). blank) sorts) ≡ true
blank_entries s [] = refl
blank_entries s (sort ∷ sorts) = blank_entries s sorts

so_many : (sorts : List Sort) → replicate (length sorts) blank ≡ map (λ (x : Sort). blank) sorts
so_many [] = refl
so_many (sort ∷ sorts) = ap (λ (xs : List (Option Obj)). blank ∷ xs) (so_many sorts)

pub blanks_are : (t : StatementView) (pattern : List (Option Obj)) (n : ℕ) → n ≡ length t.declared → pattern ≡ replicate n blank → pattern ≡ blanks t
blanks_are t pattern n many is = is ∙ ap (λ k. replicate k blank) many ∙ so_many t.declared

pub blank_pattern : (t : StatementView) (s : Scope) (pattern : List (Option Obj)) (n : ℕ) → n ≡ length t.declared → pattern ≡ replicate n blank → is_pattern t s pattern ≡ true
blank_pattern t s pattern n many is = ap (are_entries s t.declared) (blanks_are t pattern n many is) ∙ blank_entries s t.declared

-- the answer of the search is that of the blanks
pub suggested_is : {E : Type 0} (t : StatementView) (b : Basis) (pattern : List (Option Obj)) (most : ℕ) (r : Result FirstChoices E) → pattern ≡ blanks t → IfOk r (FirstAre t b pattern most)
    → IfOk r (SuggestedIs t b most)
suggested_is t b pattern most r is h = subst (λ (p : List (Option Obj)). IfOk r (FirstAre t b p most)) is h
