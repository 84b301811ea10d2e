-- What parts want, by the literals that they certify.
use Rattle.std.specs.Prelude.{ℕ, List, [], ◌∷◌, map}
use Rattle.std.specs.Option.{option_map_or}
use Rattle.e_literal.specs.declared.object.Obj.{Obj}
use Rattle.e_literal.specs.declared.literal.Lit.{Lit}
use Rattle.e_literal.specs.Facts.{others}
use Rattle.e_literal.specs.Literal.{negation}
use Rattle.e_clause.specs.declared.cert.Part.{Part}
use Rattle.e_clause.specs.Instance.{Inst}
use Rattle.e_trim.specs.Looked.{Wants, no_wants, both, of_part}

-- the negations of the others of the literal in the instance
abbrev pub negations_of_others : ℕ → List Obj → Lit → List Lit
negations_of_others rule args l =
    option_map_or (λ lits. map negation (others lits l)) (Inst rule args) []

-- the parts are for these literals
abbrev pub of_negated : List Lit → List Lit → List Part → Wants
of_negated facts (l ∷ ls) (p ∷ ps) = both (of_part facts l p) (of_negated facts ls ps)
of_negated facts _ _ = no_wants
