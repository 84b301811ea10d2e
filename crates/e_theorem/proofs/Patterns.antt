-- Entries of a pattern, one by one.
use Rattle.std.proofs.Common.{◌≡◌, ◌≤◌, List, [], ◌∷◌, length, refl, arith, false, Option}
use Rattle.std.proofs.lemmas.Grind.{common_steps}
use Rattle.e_literal.specs.declared.object.Obj.{Obj}
use Rattle.e_literal.specs.declared.object.Scope.{Scope}
use Rattle.e_literal.specs.declared.object.Sort.{Sort}
use Rattle.e_theorem.specs.Pattern.{are_entries}

pub no_sorts : (s : Scope) (sorts : List Sort) (entries : List (Option Obj)) → length sorts ≡ 0 → 1 ≤ length entries → are_entries s sorts entries ≡ false
no_sorts s [] [] h k = absurd (omega (arith, k))
no_sorts s [] (e ∷ entries) h k = refl
no_sorts s (sort ∷ sorts) entries h k = absurd (omega (arith, h))

pub no_entries : (s : Scope) (sorts : List Sort) (entries : List (Option Obj)) → 1 ≤ length sorts → length entries ≡ 0 → are_entries s sorts entries ≡ false
no_entries s [] entries h k = absurd (omega (arith, h))
no_entries s (sort ∷ sorts) [] h k = refl
no_entries s (sort ∷ sorts) (e ∷ entries) h k = absurd (omega (arith, k))

pub ruleset entries = (common_steps, no_sorts, no_entries)
