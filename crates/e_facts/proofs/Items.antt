-- The facts, gone over as a slice.
use Rattle.std.proofs.Common.{◌≡◌, ℕ, ◌-◌, ◌<◌, ◌≤◌, List, length, take, drop, get_or, refl, ap, ◌∙◌, subst, arith, Some}
use Rattle.std.specs.Prelude.{slice_get}
use Rattle.std.proofs.lemmas.List.{take_all, length-drop}
use Rattle.std.proofs.lemmas.Option.{slice_get_read}
use Rattle.e_literal.specs.declared.literal.Lit.{Lit}

-- the one at a place
pub fact_at : (seen facts : List Lit) (i : ℕ) (fact : Lit) → seen ≡ facts → i < length seen → fact ≡ get_or seen i fact → slice_get facts i ≡ Some fact
fact_at seen facts i fact same less is = subst (λ ls. slice_get ls i ≡ Some fact) same (slice_get_read seen (length seen) i fact refl less is)

-- after the last, all were there
pub all_taken : (seen facts : List Lit) (i : ℕ) → seen ≡ facts → length seen ≤ i → take i facts ≡ facts
all_taken seen facts i same most = take_all i facts (subst (λ ls. length ls ≤ i) same most)

-- those from a place on
pub rest_is : (seen facts : List Lit) (from : ℕ) → seen ≡ facts → take (length seen - from) (drop from seen) ≡ drop from facts
rest_is seen facts from same = take_all (length seen - from) (drop from seen) (omega (arith, length-drop from seen)) ∙ ap (drop from) same
