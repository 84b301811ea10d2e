-- A derivation whose certificates cite facts by literals, with the places of these facts for the
-- literals.
use Rattle.std.specs.Prelude.{ℕ, List, [], ◌∷◌, map, Bool, true, false, not, ◌&&◌, ◌||◌}
use Rattle.std.specs.Prelude.{if◌then◌else◌, ℤ, neg_ℤ, Option, Some, None, slice_get, unwrap_or}
use Rattle.std.specs.List.{list_all, position_or_len}
use Rattle.std.specs.Option.{option_map}
use Rattle.e_literal.specs.declared.object.Mono.{Mono}
use Rattle.e_literal.specs.declared.object.Scope.{Scope}
use Rattle.e_literal.specs.declared.literal.Lit.{Lit}
use Rattle.e_literal.specs.declared.literal.Atom.{Atom}
use Rattle.e_literal.specs.declared.literal.Atom.TheVariants.{MagEq}
use Rattle.e_literal.specs.Literal.{negation}
use Rattle.e_literal.specs.Same.{same_lit, agree_at}
use Rattle.e_literal.specs.Facts.{with_fact, with_facts, others}
use Rattle.e_literal.specs.Rows.{is_degenerate}
use Rattle.e_literal.specs.Scopes.{with_sorts}
use Rattle.e_literal.specs.Use.{StatementView, gives_of_use, scope_of}
use Rattle.e_clause.specs.declared.cert.RowName.{RowName}
use Rattle.e_clause.specs.declared.cert.RowName.TheVariants.{Fact, Above, Below, FactAt}
use Rattle.e_clause.specs.declared.cert.Sums.{Sums}
use Rattle.e_clause.specs.declared.cert.Sums.TheVariants.{One, Two}
use Rattle.e_clause.specs.declared.cert.Part.{Part}
use Rattle.e_clause.specs.declared.cert.Part.TheVariants.{Fact as FactPart, Metric}
use Rattle.e_clause.specs.declared.cert.Part.TheVariants.{FactAt as FactPartAt}
use Rattle.e_clause.specs.declared.cert.TransferCert.{TransferCert}
use Rattle.e_clause.specs.declared.cert.Cert.{Cert}
use Rattle.e_clause.specs.declared.cert.Cert.TheVariants.{Plain, Transfer}
use Rattle.e_clause.specs.declared.cert.Against.{Against}
use Rattle.e_clause.specs.declared.cert.Against.TheVariants.{Clash, Metric as MetricAgainst}
use Rattle.e_clause.specs.Instance.{Inst}
use Rattle.e_construct.specs.Construct.{sorts_made, gives_of_construction}
use Rattle.e_construct.specs.Superposing as superposing
use Rattle.e_deriv.specs.Script.{Script, Cite, Hence, Make, Apply, Claim, Superposed, Qed}
use Rattle.e_deriv.specs.Script.{Contradiction, Cases}
use Rattle.e_deriv.specs.Goal.{Goal, goal_of, goal_of_statement, facts_of_statement}
use Rattle.e_deriv.specs.PlacedSteps.{placed_step, theorem_at}
use Rattle.e_deriv.specs.Parts.{args_of}
use Rattle.e_deriv.specs.Steps.{needs}

-- ---- places

-- the place of the fact that is the same as the literal, counted from 0
abbrev pub place_of_same : List Lit → Lit → ℕ
place_of_same facts l = position_or_len (λ f. same_lit f l) facts

-- x - y and z - w have one coefficient at each of these terms, where a term that is 0 in itself
-- does not count
abbrev pub have_one_form_at : List Mono → List Mono → List Mono → List Mono → List Mono → Bool
have_one_form_at x y z w ms = list_all (λ m. is_degenerate m.term || agree_at x y z w m.term) ms

-- the rows of x - y and z - w have one form
abbrev pub have_one_form : List Mono → List Mono → List Mono → List Mono → Bool
have_one_form x y z w =
    have_one_form_at x y z w x
    && (have_one_form_at x y z w y && (have_one_form_at x y z w z && have_one_form_at x y z w w))

-- two equations that are the same have opposite rows
abbrev pub have_opposite_rows : Atom → Atom → Bool
have_opposite_rows (MagEq x y) (MagEq z w) = not (have_one_form x y z w)
have_opposite_rows _ _ = false

-- the row of the literal is opposite to that of the fact that is the same
abbrev pub has_opposite_row : List Lit → Lit → Bool
has_opposite_row facts l =
    have_opposite_rows l.atom (unwrap_or (slice_get facts (place_of_same facts l)) l).atom

-- ---- sums

abbrev pub name_with_place : List Lit → RowName → RowName
name_with_place facts (Fact l) = FactAt (place_of_same facts l)
name_with_place facts name = name

-- the name says a literal whose row is opposite to its fact's
abbrev pub turns : List Lit → RowName → Bool
turns facts (Fact l) = has_opposite_row facts l
turns facts name = false

-- where the rows are opposite, the multiplier changes its sign
abbrev pub row_with_place : List Lit → ℤ × RowName → ℤ × RowName
row_with_place facts x = (if turns facts x.1 then neg_ℤ x.0 else x.0, name_with_place facts x.1)

abbrev pub sum_with_places : List Lit → List (ℤ × RowName) → List (ℤ × RowName)
sum_with_places facts xs = map (row_with_place facts) xs

-- what is more than 0 is less than 0 when it changes its sign
abbrev pub opposite_side : RowName → RowName
opposite_side Above = Below
opposite_side Below = Above
opposite_side name = name

abbrev pub sides_swapped : List (ℤ × RowName) → List (ℤ × RowName)
sides_swapped xs = map (λ x. (x.0, opposite_side x.1)) xs

-- where the rows that say that their forms are not 0 are opposite, the two sums change places
abbrev pub two_placed : Bool → RowName → List (ℤ × RowName) → List (ℤ × RowName) → Sums
two_placed true differs above below = Two differs (sides_swapped below) (sides_swapped above)
two_placed false differs above below = Two differs above below

abbrev pub sums_with_places : List Lit → Sums → Sums
sums_with_places facts (One sum) = One (sum_with_places facts sum)
sums_with_places facts (Two differs above below) =
    two_placed (turns facts differs) (name_with_place facts differs) (sum_with_places facts above)
    (sum_with_places facts below)

-- ---- certificates

abbrev pub part_with_places : List Lit → Lit → Part → Part
part_with_places facts l FactPart = FactPartAt (place_of_same facts l)
part_with_places facts l (Metric m) = Metric (record { sums = sums_with_places facts m.sums })
part_with_places facts l (FactPartAt k) = FactPartAt k

-- one part for each of these literals, in order
abbrev pub parts_with_places : List Lit → List Lit → List Part → List Part
parts_with_places facts (l ∷ ls) (p ∷ ps) =
    part_with_places facts l p ∷ parts_with_places facts ls ps
parts_with_places facts _ _ = []

-- the parts of a transfer with these literals
abbrev pub placed_for : List Lit → Lit → List Part → Option (List Lit) → List Part
placed_for facts l ps (Some lits) = parts_with_places facts (map negation (others lits l)) ps
placed_for facts l ps None = []

abbrev pub transfer_with_places : List Lit → Lit → TransferCert → TransferCert
transfer_with_places facts l t =
    record t { parts = placed_for facts l t.parts (Inst t.rule t.args) }

abbrev pub cert_with_places : List Lit → Lit → Cert → Cert
cert_with_places facts l (Plain p) = Plain (part_with_places facts l p)
cert_with_places facts l (Transfer t) = Transfer (transfer_with_places facts l t)

-- one certificate for each of these literals, in order
abbrev pub certs_with_places : List Lit → List Lit → List Cert → List Cert
certs_with_places facts (l ∷ ls) (c ∷ cs) =
    cert_with_places facts l c ∷ certs_with_places facts ls cs
certs_with_places facts _ _ = []

abbrev pub against_with_places : List Lit → Against → Against
against_with_places facts (Clash l) = Clash l
against_with_places facts (MetricAgainst m) =
    MetricAgainst (record { sums = sums_with_places facts m.sums })

-- ---- derivations

-- the literals that the first step of the script needs
abbrev pub needs_of : List StatementView → Script → Scope → List Lit → Goal → List Lit
needs_of before d s facts goal = needs before (placed_step d d s facts goal)

-- The script where certificates have the places of facts, each among the facts before its own step;
-- what holds before each step is as in its steps.
unfoldable pub with_places : List StatementView → Script → Scope → List Lit → Goal → Script
with_places before (Cite by rest) s facts goal =
    Cite by (with_places before rest s (with_fact facts by.lit) goal)
with_places before (Hence lit cert rest) s facts goal =
    Hence lit (option_map (cert_with_places facts lit) cert)
    (with_places before rest s (with_fact facts lit) goal)
with_places before (Make construction names certs rest) s facts goal =
    Make construction names
    (certs_with_places facts
    (needs_of before (Make construction names certs rest) s facts goal) certs)
    (with_places before rest (with_sorts s (sorts_made construction))
    (with_facts facts (gives_of_construction construction s)) goal)
with_places before (Apply theorem args names certs rest) s facts goal =
    Apply theorem args names (certs_with_places facts
    (needs_of before (Apply theorem args names certs rest) s facts goal) certs)
    (with_places before rest (with_sorts s (theorem_at before theorem).made)
    (with_facts facts (gives_of_use (theorem_at before theorem)
    (args_of (Apply theorem args names certs rest)) s)) goal)
with_places before (Claim shown inner rest) s facts goal =
    Claim shown (with_places before inner s facts (goal_of shown))
    (with_places before rest s (with_facts facts shown) goal)
with_places before (Superposed superposition names shown certs inner rest) s facts goal =
    Superposed superposition names shown
    (certs_with_places facts (superposing.needs_of_superposition superposition) certs)
    (with_places before inner (with_sorts s superposing.sorts_copied)
    (with_facts facts (superposing.gives_of_superposition superposition s)) (goal_of shown))
    (with_places before rest s (with_facts facts shown) goal)
with_places before (Qed objects certs) s facts goal =
    Qed objects (certs_with_places facts (needs_of before (Qed objects certs) s facts goal) certs)
with_places before (Contradiction against) s facts goal =
    Contradiction (option_map (against_with_places facts) against)
with_places before (Cases lit first second) s facts goal =
    Cases lit (with_places before first s (with_fact facts lit) goal)
    (with_places before second s (with_fact facts (negation lit)) goal)

-- the derivation of a statement, where certificates have the places of facts
abbrev pub derivation_with_places : List StatementView → StatementView → Script → Script
derivation_with_places before t d =
    with_places before d (scope_of t) (facts_of_statement t) (goal_of_statement t)
