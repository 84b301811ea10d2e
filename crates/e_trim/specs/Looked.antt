-- What a step looks up among the facts, and which objects it names.
--
-- A literal is looked up by itself and not by its place: that a member of the facts is looked up
-- means that one the same is among the literals that are looked up, since no two members are the
-- same.
use Rattle.std.specs.Prelude.{List, [], ◌∷◌, ◌++◌, map, flat_map, Bool, false, ◌||◌, if◌then◌else◌}
use Rattle.std.specs.Prelude.{ℤ, Option, Some, None}
use Rattle.std.specs.Option.{option_map_or}
use Rattle.std.specs.List.{list_any}
use Rattle.e_literal.specs.declared.object.Obj.{Obj}
use Rattle.e_literal.specs.declared.object.Term.{Term}
use Rattle.e_literal.specs.declared.object.Term.TheVariants.{Seg}
use Rattle.e_literal.specs.declared.literal.Lit.{Lit}
use Rattle.e_literal.specs.Literal.{negation, objects_of_term, objects_of_atom}
use Rattle.e_literal.specs.Same.{term_eq, same_lit}
use Rattle.e_literal.specs.Facts.{others, are_equal_points}
use Rattle.e_literal.specs.Use.{StatementView}
use Rattle.e_construct.specs.Superposing as superposing
use Rattle.e_clause.specs.declared.cert.By.{By}
use Rattle.e_clause.specs.declared.cert.Cert.{Cert}
use Rattle.e_clause.specs.declared.cert.Cert.TheVariants.{Plain, Transfer}
use Rattle.e_clause.specs.declared.cert.Part.{Part}
use Rattle.e_clause.specs.declared.cert.Part.TheVariants.{Fact as FactPart, Metric}
use Rattle.e_clause.specs.declared.cert.Part.TheVariants.{FactAt as FactPartAt}
use Rattle.e_clause.specs.declared.cert.TransferCert.{TransferCert}
use Rattle.e_clause.specs.declared.cert.Against.{Against}
use Rattle.e_clause.specs.declared.cert.Against.TheVariants.{Clash, Metric as MetricAgainst}
use Rattle.e_clause.specs.declared.cert.RowName.{RowName}
use Rattle.e_clause.specs.declared.cert.RowName.TheVariants.{Fact, Pos, Top, Least}
use Rattle.e_clause.specs.declared.cert.Sums.{Sums}
use Rattle.e_clause.specs.declared.cert.Sums.TheVariants.{One, Two}
use Rattle.e_clause.specs.Assignment.{terms_of_wanted, lit_has_term}
use Rattle.e_clause.specs.Instance.{Inst}
use Rattle.e_deriv.specs.Script.{Script, Cite, Hence, Make, Apply, Claim, Superposed, Qed}
use Rattle.e_deriv.specs.Script.{Contradiction, Cases}
use Rattle.e_deriv.specs.Parts.{args_of}
use Rattle.e_deriv.specs.PlacedSteps.{PlacedStep}
use Rattle.e_deriv.specs.Steps.{needs}
use Rattle.e_deriv.specs.Certified.{certs_of}

-- literals that are looked up among the facts, and objects that are needed
pub record Wants : Type 0 where
  pub lits : List Lit
  pub objects : List Obj

abbrev pub no_wants : Wants
no_wants = record { lits = []; objects = [] }

-- of both
abbrev pub both : Wants → Wants → Wants
both v w = record { lits = v.lits ++ w.lits; objects = v.objects ++ w.objects }

abbrev pub of_all : {X : Type 0} → (X → Wants) → List X → Wants
of_all f [] = no_wants
of_all f (x ∷ xs) = both (f x) (of_all f xs)

abbrev pub wanted_lits : List Lit → Wants
wanted_lits ls = record { lits = ls; objects = [] }

abbrev pub wanted_objects : List Obj → Wants
wanted_objects os = record { lits = []; objects = os }

abbrev pub objects_of_lits : List Lit → List Obj
objects_of_lits ls = flat_map (λ l. objects_of_atom l.atom) ls

-- the literal is looked up, and its objects are named
abbrev pub of_lit : Lit → Wants
of_lit l = record { lits = l ∷ []; objects = objects_of_atom l.atom }

-- ---- rows

-- the first of the facts that is so, if there is one
abbrev pub first_that : (Lit → Bool) → List Lit → List Lit
first_that p [] = []
first_that p (f ∷ facts) = if p f then f ∷ [] else first_that p facts

-- the literal says that the ends of the segment differ, in one order or the other
abbrev pub parts_ends : Term → Lit → Bool
parts_ends (Seg a b) l =
    same_lit l (negation (are_equal_points a b)) || same_lit l (negation (are_equal_points b a))
parts_ends _ l = false

-- the term of a row: the first fact that has it, unless the certified literal has it
abbrev pub of_term : List Lit → Option Lit → Term → Wants
of_term facts wanted t = record {
  lits = if list_any (term_eq t) (terms_of_wanted wanted) then [] else
      first_that (lit_has_term t) facts;
  objects = objects_of_term t;
}

abbrev pub of_row : List Lit → Option Lit → RowName → Wants
of_row facts wanted (Fact l) = of_lit l
of_row facts wanted (Pos t) =
    both (wanted_lits (first_that (parts_ends t) facts)) (of_term facts wanted t)
of_row facts wanted (Top t) = of_term facts wanted t
of_row facts wanted (Least t) = of_term facts wanted t
of_row facts wanted _ = no_wants

abbrev pub of_sum : List Lit → Option Lit → List (ℤ × RowName) → Wants
of_sum facts wanted xs = of_all (λ x. of_row facts wanted x.1) xs

abbrev pub of_sums : List Lit → Option Lit → Sums → Wants
of_sums facts wanted (One sum) = of_sum facts wanted sum
of_sums facts wanted (Two differs above below) =
    both (of_row facts wanted differs)
    (both (of_sum facts wanted above) (of_sum facts wanted below))

-- ---- certificates

-- of the literal that the part certifies
abbrev pub of_part : List Lit → Lit → Part → Wants
of_part facts l FactPart = wanted_lits (l ∷ [])
of_part facts l (Metric m) = of_sums facts (Some l) m.sums
of_part facts l (FactPartAt k) = no_wants

-- the parts are for the negations of these literals
abbrev pub of_parts : List Lit → List Lit → List Part → Wants
of_parts facts (l ∷ ls) (p ∷ ps) = both (of_part facts (negation l) p) (of_parts facts ls ps)
of_parts facts _ _ = no_wants

abbrev pub of_transfer : List Lit → Lit → TransferCert → Wants
of_transfer facts l t =
    both (wanted_objects t.args) (option_map_or (λ lits. of_parts facts (others lits l) t.parts)
    (Inst t.rule t.args) no_wants)

abbrev pub of_cert : List Lit → Lit → Cert → Wants
of_cert facts l (Plain p) = of_part facts l p
of_cert facts l (Transfer t) = of_transfer facts l t

abbrev pub of_certs : List Lit → List Lit → List Cert → Wants
of_certs facts (l ∷ ls) (c ∷ cs) = both (of_cert facts l c) (of_certs facts ls cs)
of_certs facts _ _ = no_wants

abbrev pub of_against : List Lit → Against → Wants
of_against facts (Clash l) = both (of_lit l) (of_lit (negation l))
of_against facts (MetricAgainst m) = of_sums facts None m.sums

-- ---- steps

-- a citation looks up the negation of each other literal of the instance
abbrev pub of_citation : By → Wants
of_citation by =
    wanted_lits
    (option_map_or (λ lits. map negation (others lits by.lit)) (Inst by.rule by.args) [])

-- beside its certificates for what it needs; a contradiction has a certificate of its own
abbrev pub of_beside : Script → List Lit → Wants
of_beside (Cite by rest) facts = of_citation by
of_beside (Contradiction (Some against)) facts = of_against facts against
of_beside _ facts = no_wants

-- the objects that the step names
abbrev pub named_on : Script → List Obj
named_on (Cite by rest) = by.args ++ objects_of_atom by.lit.atom
named_on (Hence lit cert rest) = objects_of_atom lit.atom
named_on (Make construction names certs rest) = construction.args ++ construction.avoid
named_on (Apply theorem args names certs rest) = args_of (Apply theorem args names certs rest)
named_on (Claim shown inner rest) = objects_of_lits shown
named_on (Superposed superposition names shown certs inner rest) =
    superposing.objects_of superposition ++ objects_of_lits shown
named_on (Qed objects certs) = objects
named_on (Contradiction against) = []
named_on (Cases lit first second) = objects_of_atom lit.atom

-- what the step looks up, blocks inside of it left aside, and the objects that it and its
-- certificates name
abbrev pub of_step : List StatementView → PlacedStep → Wants
of_step before x =
    both (wanted_objects (named_on x.here))
    (both (of_certs x.facts (needs before x) (certs_of x.here)) (of_beside x.here x.facts))
