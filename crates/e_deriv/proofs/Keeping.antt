-- Facts that stay while others come.
use Rattle.std.proofs.Common.{◌≡◌, ◌≤◌, List, [], ◌∷◌, ◌++◌, length, refl, sym, ap, ◌∙◌, Bool, true, false, arith}
use Rattle.std.specs.Prelude.{take, if◌then◌else◌}
use Rattle.std.proofs.lemmas.List.{length-take}
use Rattle.e_literal.specs.declared.literal.Lit.{Lit}
use Rattle.e_literal.specs.Facts.{has, with_fact, with_facts}

pub all_stay : (facts : List Lit) → take (length facts) facts ≡ facts
all_stay [] = refl
all_stay (l ∷ facts) = ap (λ ls. l ∷ ls) (all_stay facts)

stay_before : (facts : List Lit) (l : Lit) → take (length facts) (facts ++ l ∷ []) ≡ facts
stay_before [] l = refl
stay_before (k ∷ facts) l = ap (λ ls. k ∷ ls) (stay_before facts l)

pub stay_joined : (facts : List Lit) (l : Lit) → take (length facts) (with_fact facts l) ≡ facts
unfolding with_fact
stay_joined facts l = by (has facts l)
  where
    by : (b : Bool) → take (length facts) (if b then facts else facts ++ l ∷ []) ≡ facts
    by true = all_stay facts
    by false = stay_before facts l

same_first : (x y : Lit) (xs ys : List Lit) → x ∷ xs ≡ y ∷ ys → x ≡ y
same_first x y xs ys e = cc

same_after : (x y : Lit) (xs ys : List Lit) → x ∷ xs ≡ y ∷ ys → xs ≡ ys
same_after x y xs ys e = cc

nothing : (x : Lit) (xs : List Lit) → [] ≡ x ∷ xs → ⊥
nothing x xs e = cc

-- what stays while what stays stays
pub stay_on : (a b c : List Lit) → take (length a) b ≡ a → take (length b) c ≡ b → take (length a) c ≡ a
stay_on [] b c h k = refl
stay_on (x ∷ a) [] c h k = absurd (nothing x a h)
stay_on (x ∷ a) (y ∷ b) [] h k = absurd (nothing y b k)
stay_on (x ∷ a) (y ∷ b) (z ∷ c) h k =
    let first = same_first z y (take (length b) c) b k ∙ same_first y x (take (length a) b) a h in
    let rest = stay_on a b c (same_after y x (take (length a) b) a h) (same_after z y (take (length b) c) b k) in
    ap (λ l. l ∷ take (length a) c) first ∙ ap (λ ls. x ∷ ls) rest

pub stay_all : (facts ls : List Lit) → take (length facts) (with_facts facts ls) ≡ facts
stay_all facts [] = all_stay facts
stay_all facts (l ∷ ls) = stay_on facts (with_fact facts l) (with_facts (with_fact facts l) ls) (stay_joined facts l) (stay_all (with_fact facts l) ls)

pub no_fewer : (a b : List Lit) → take (length a) b ≡ a → length a ≤ length b
no_fewer a b h = let e = sym (length-take (length a) b) ∙ ap (λ xs. length xs) h in omega (arith, e)
