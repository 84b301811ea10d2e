-- The patterns of a row, by their places in the clause.
use Rattle.std.proofs.Common.{◌≡◌, ℕ, zero, suc, ◌-◌, ◌<◌, ◌≤◌, List, [], ◌∷◌, ◌++◌, refl, ap, ◌∙◌, arith, get_or, length, map, Some, true, false}
use Rattle.std.specs.Prelude.{slice_get}
use Rattle.e_literal.specs.declared.literal.Lit.{Lit}
use Rattle.e_literal.specs.Literal.{negation}
use Rattle.e_clause.specs.declared.pattern.Pattern.{Pattern}
use Rattle.e_clause.specs.Views.{lit_of_pattern}
use Rattle.e_transfer.specs.GivenGoals.{signed_literal}

-- the literals of the clause with these premises and conclusions
abbrev pub clause : List Pattern → List Pattern → List Lit
clause ps cs = map negation (map lit_of_pattern ps) ++ map lit_of_pattern cs

pub premise_at : (ps cs : List Pattern) (at : ℕ) (d : Pattern) → at < length ps → slice_get (clause ps cs) at ≡ Some (signed_literal true (get_or ps at d))
premise_at [] cs at d less = absurd (omega (arith, less))
premise_at (p ∷ ps) cs zero d less = refl
premise_at (p ∷ ps) cs (suc at) d less = premise_at ps cs at d (omega (arith, less))

literal_at : (cs : List Pattern) (at : ℕ) (d : Pattern) → at < length (map lit_of_pattern cs) → slice_get (map lit_of_pattern cs) at ≡ Some (lit_of_pattern (get_or cs at d))
literal_at [] at d less = absurd (omega (arith, less))
literal_at (c ∷ cs) zero d less = refl
literal_at (c ∷ cs) (suc at) d less = literal_at cs at d (omega (arith, less))

pub conclusion_at : (ps cs : List Pattern) (at : ℕ) (d : Pattern) → length ps ≤ at → at < length (clause ps cs)
    → slice_get (clause ps cs) at ≡ Some (signed_literal false (get_or cs (at - length ps) d))
conclusion_at [] cs at d over less =
    let e : at ≡ at - 0 = omega arith in literal_at cs at d less ∙ ap (λ k. Some (lit_of_pattern (get_or cs k d))) e
conclusion_at (p ∷ ps) cs zero d over less = absurd (omega (arith, over))
conclusion_at (p ∷ ps) cs (suc at) d over less =
    let e : at - length ps ≡ suc at - suc (length ps) = omega arith in
    conclusion_at ps cs at d (omega (arith, over)) (omega (arith, less)) ∙ ap (λ k. Some (lit_of_pattern (get_or cs k d))) e
