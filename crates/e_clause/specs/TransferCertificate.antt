-- What a transfer certificate certifies.
use Rattle.std.specs.Prelude.{List, [], ◌∷◌, Bool, true, false, ◌&&◌}
use Rattle.std.specs.Option.{option_map_or}
use Rattle.std.specs.List.{list_all}
use Rattle.e_literal.specs.declared.object.Scope.{Scope}
use Rattle.e_literal.specs.declared.literal.Lit.{Lit}
use Rattle.e_literal.specs.Literal.{negation, is_in_scope}
use Rattle.e_literal.specs.Facts.{has, others}
use Rattle.e_clause.specs.declared.cert.Part.{Part}
use Rattle.e_clause.specs.declared.cert.TransferCert.{TransferCert}
use Rattle.e_clause.specs.Instance.{Inst}
use Rattle.e_clause.specs.RuleKinds.{is_transfer}
use Rattle.e_clause.specs.PartCertificate.{part_certifies, part_in}

-- one part for the negation of each of the literals, in order
abbrev pub parts_certify : List Lit → List Lit → List Part → Bool
parts_certify facts [] [] = true
parts_certify facts (l ∷ ls) (p ∷ ps) =
    part_certifies facts (negation l) p && parts_certify facts ls ps
parts_certify facts _ _ = false

-- the literal is one of the instance, and the parts are for the others
abbrev pub instance_certifies : List Lit → Lit → List Part → List Lit → Bool
instance_certifies facts l parts lits = has lits l && parts_certify facts (others lits l) parts

-- the instance of a transfer clause gives the literal
abbrev pub transfer_certifies : List Lit → Lit → TransferCert → Bool
transfer_certifies facts l t =
    is_transfer t.rule
    && option_map_or (instance_certifies facts l t.parts) (Inst t.rule t.args) false

-- the arguments are in the scope before the step
abbrev pub are_args_in : Scope → TransferCert → Bool
are_args_in s t = list_all (is_in_scope s) t.args

-- the objects that it names, the arguments and those of its parts, are in the scope before the step
abbrev pub transfer_in : Scope → TransferCert → Bool
transfer_in s t = are_args_in s t && list_all (part_in s) t.parts
