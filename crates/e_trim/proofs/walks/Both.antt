-- What is wanted, one after another.
use Rattle.std.proofs.Common.{◌≡◌, ℕ, List, [], ◌∷◌, ◌++◌, map, refl, sym, ap, ◌∙◌, Bool, true, false, cond, Option, Some, None}
use Rattle.std.proofs.lemmas.List.{append_assoc, append-nil}
use Rattle.std.proofs.lemmas.Grind.{common_steps}
use Rattle.e_literal.specs.declared.literal.Lit.{Lit}
use Rattle.e_trim.specs.Looked.{Wants, no_wants, both, of_certs}
use Rattle.e_trim.specs.inner.Wanted.{of_negated}

pub both-none : (w : Wants) → both w no_wants ≡ w
both-none w = let a = append-nil w.lits in let b = append-nil w.objects in rw (a, b) refl

pub none-both : (w : Wants) → both no_wants w ≡ w
none-both w = refl

pub both-assoc : (u v w : Wants) → both (both u v) w ≡ both u (both v w)
both-assoc u v w = let a = append_assoc u.lits v.lits w.lits in let b = append_assoc u.objects v.objects w.objects in rw (a, b) refl

pub ruleset joining = (common_steps, both-none, both-assoc, append_assoc, append-nil)

-- without a literal or a certificate nothing is wanted
pub no_certs : (facts ls : List Lit) → of_certs facts ls [] ≡ no_wants
no_certs facts [] = refl
no_certs facts (l ∷ ls) = refl

pub no_parts : (facts ls : List Lit) → of_negated facts ls [] ≡ no_wants
no_parts facts [] = refl
no_parts facts (l ∷ ls) = refl

pub ruleset paired = (common_steps, both-none, both-assoc, no_certs, no_parts)
