-- The rows of a system of well-formed facts name no literals but facts, and so well-formed ones.
use Rattle.std.proofs.Common.{◌≡◌, List, [], ◌∷◌, map, refl, ap, ◌∙◌, cond, Bool, true, false, Option}
use Rattle.std.specs.List.{list_all}
use Rattle.e_literal.specs.declared.object.Kind.{Kind}
use Rattle.e_literal.specs.declared.object.Kind.TheVariants.{Segment, Angle, Area as AreaKind}
use Rattle.e_literal.specs.declared.object.Term.{Term}
use Rattle.e_literal.specs.declared.object.Term.TheVariants.{Seg, Ang, Area, Right}
use Rattle.e_literal.specs.declared.literal.Lit.{Lit}
use Rattle.e_literal.specs.Facts.{are_apart}
use Rattle.e_literal.specs.WellFormed.{is_well_formed}
use Rattle.e_literal.proofs.Booleans.{and_left, and_right}
use Rattle.e_clause.specs.declared.cert.RowName.{RowName}
use Rattle.e_clause.specs.declared.cert.RowName.TheVariants.{Fact, Goal, Pos}
use Rattle.e_clause.specs.declared.cert.Sums.{Sums}
use Rattle.e_clause.specs.declared.cert.Sums.TheVariants.{One as OneSum, Two as TwoSums}
use Rattle.e_clause.specs.System.{NamedRow, named_row, against_goal, rows_of_term, rows_of_kind, pos_row, system}
use Rattle.e_clause.proofs.Named.{Each, EachLit, each_literal, each_system}
use Rattle.e_fraction.specs.declared.row.Row.{Row as GivenRow}
use Rattle.e_simplex.specs.declared.decision.Absurdity.{Absurdity}
use Rattle.e_metric.specs.inner.Certificate.{certificate_sums}
use Rattle.e_clause.specs.declared.cert.Version.TheVariants as version
use Rattle.e_clause.specs.Versions.{is_name_of, are_sums_of}
use Rattle.e_metric.proofs.sums.RowNames.{each_of, each_name, sums_have}
use Rattle.e_metric.specs.RowOrder.{AreReordered}
use Rattle.e_metric.proofs.rows.RowOrder.{each_reordered}

abbrev IsNameOfOne : NamedRow → Type 0
IsNameOfOne n = is_name_of version.One n.name ≡ true

each_known : (ls : List Lit) → list_all is_well_formed ls ≡ true → EachLit (λ l. is_well_formed l ≡ true) ls
each_known [] h = tt
each_known (l ∷ ls) h = (and_left (is_well_formed l) (list_all is_well_formed ls) h, each_known ls (and_right (is_well_formed l) (list_all is_well_formed ls) h))

each_any : (ls : List Lit) → EachLit (λ l. Unit {0}) ls
each_any [] = tt
each_any (l ∷ ls) = (tt, each_any ls)

term_good : (facts : List Lit) (t : Term) → Each IsNameOfOne (rows_of_term facts t)
term_good facts (Seg a b) = by (are_apart facts a b)
  where
    by : (c : Bool) → Each IsNameOfOne (cond c (named_row (Pos (Seg a b)) (pos_row (Seg a b)) ∷ []) [])
    by true = (refl, tt)
    by false = tt
term_good facts (Ang a b c) = (refl, tt)
term_good facts (Area a b c) = tt
term_good facts Right = tt

kind_good : (which : Kind) → Each IsNameOfOne (rows_of_kind which)
kind_good Segment = tt
kind_good Angle = (refl, tt)
kind_good AreaKind = tt

system_good : (which : Kind) (facts : List Lit) (wanted : Option Lit) → list_all is_well_formed facts ≡ true → Each IsNameOfOne (system which facts wanted)
system_good which facts wanted good = each_system IsNameOfOne which facts wanted
    (each_literal IsNameOfOne (λ l. is_well_formed l ≡ true) which Fact facts (each_known facts good) (λ l r h of e. h))
    (each_literal IsNameOfOne (λ l. Unit {0}) which (λ l. Goal) (against_goal wanted) (each_any (against_goal wanted)) (λ l r h of e. refl))
    (λ t a. term_good facts t)
    (kind_good which)

no_literal : (ts : List Term) → list_all (λ (t : Term). true) ts ≡ true
no_literal [] = refl
no_literal (t ∷ ts) = no_literal ts

one_of : (s : Sums) → are_sums_of version.One s ≡ each_of (is_name_of version.One) s
one_of (OneSum sum) = refl
one_of (TwoSums differs above below) = refl

-- the sums of a system of well-formed facts, in some order
pub written_well : (which : Kind) (facts : List Lit) (wanted : Option Lit) (ns : List NamedRow) (order : AreReordered ns (system which facts wanted)) (names : List RowName) (gs : List GivenRow) (ts : List Term) (a : Absurdity)
    → names ≡ map (λ (n : NamedRow). n.name) ns → list_all is_well_formed facts ≡ true → are_sums_of version.One (certificate_sums names gs ts a) ≡ true
written_well which facts wanted ns order names gs ts a e good =
    one_of (certificate_sums names gs ts a)
    ∙ sums_have (is_name_of version.One) names gs ts a (record { goal = refl; above = refl; below = refl })
    (ap (list_all (is_name_of version.One)) e ∙ each_name (is_name_of version.One) ns (each_reordered ns (system which facts wanted) order IsNameOfOne (system_good which facts wanted good)))
    (no_literal ts)
