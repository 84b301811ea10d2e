-- The literals of an instance are well formed.
use Rattle.std.proofs.Common.{◌≡◌, ℕ, zero, suc, List, [], ◌∷◌, map, refl, sym, ap, subst, ◌∙◌, Bool, true, false, ◌&&◌, Option, Some, None}
use Rattle.std.specs.Prelude.{slice_get, option_and_then, if◌then◌else◌, not}
use Rattle.std.specs.List.{list_all}
use Rattle.std.proofs.lemmas.Option.{same_Some}
use Rattle.e_literal.specs.declared.object.Sort.{Sort}
use Rattle.e_literal.specs.declared.object.Sort.TheVariants.{Point, Line, Circle}
use Rattle.e_literal.specs.declared.object.Obj.{Obj}
use Rattle.e_literal.specs.declared.literal.Lit.{Lit}
use Rattle.e_literal.specs.Literal.{obj, negation}
use Rattle.e_literal.specs.Facts.{others}
use Rattle.e_literal.specs.Same.{same_lit}
use Rattle.e_literal.specs.WellFormed.{is_well_formed}
use Rattle.e_literal.proofs.WithImages.{renamed_well_formed}
use Rattle.e_literal.proofs.Booleans.{and_left, and_right}
use Rattle.e_clause.specs.Rows.{Row}
use Rattle.e_clause.specs.Table.{table}
use Rattle.e_clause.specs.Table.Incidence.{incidence}
use Rattle.e_clause.specs.Table.Sides.{sides}
use Rattle.e_clause.specs.Table.Circles.{circles}
use Rattle.e_clause.specs.Table.Equality.{equality}
use Rattle.e_clause.specs.Table.Lengths.{lengths}
use Rattle.e_clause.specs.Table.Angles.{angles}
use Rattle.e_clause.specs.Instance.{Inst, instance_of_row, arguments_fit, number, line_arg, circle_arg, lit_at, clause_of}

abbrev all_formed : List Lit → Bool
all_formed ls = list_all is_well_formed ls

rows_formed : list_all (λ r. all_formed (clause_of r)) table ≡ true
unfolding table incidence sides circles equality lengths angles
rows_formed = refl

at_place : (f : Row → Bool) (rs : List Row) (k : ℕ) (r : Row) → list_all f rs ≡ true → slice_get rs k ≡ Some r → f r ≡ true
at_place f [] k r h e = absurd (none_some e)
  where
    none_some : None ≡ Some r → ⊥
    none_some e = cc
at_place f (x ∷ rs) zero r h e = ap f (sym (same_Some x r e)) ∙ and_left (f x) (list_all f rs) h
at_place f (x ∷ rs) (suc k) r h e = at_place f rs k r (and_right (f x) (list_all f rs) h) e

-- the object with the number of the argument for a variable
chosen : Row → List Obj → Obj → Option Obj
chosen r args o = Some (obj o.sort (by o.sort o.num))
  where
    by : Sort → ℕ → ℕ
    by Point n = number args n
    by Line n = line_arg r args n
    by Circle n = circle_arg r args n

one_formed : (r : Row) (args : List Obj) (l : Lit) → is_well_formed (lit_at r args l) ≡ is_well_formed l
unfolding chosen
one_formed r args l = renamed_well_formed (chosen r args) l

row_formed : (r : Row) (args : List Obj) (ls : List Lit) → all_formed ls ≡ true → all_formed (map (lit_at r args) ls) ≡ true
row_formed r args [] h = refl
row_formed r args (l ∷ ls) h =
    ap (λ b. b && all_formed (map (lit_at r args) ls)) (one_formed r args l ∙ and_left (is_well_formed l) (all_formed ls) h) ∙ row_formed r args ls (and_right (is_well_formed l) (all_formed ls) h)

pub instance_formed : (rule : ℕ) (args : List Obj) (lits : List Lit) → Inst rule args ≡ Some lits → all_formed lits ≡ true
unfolding Inst
instance_formed rule args lits e = by (slice_get table rule) refl e
  where
    inside : (r : Row) → all_formed (clause_of r) ≡ true → (b : Bool) → (if b then Some (map (lit_at r args) (clause_of r)) else None) ≡ Some lits → all_formed lits ≡ true
    inside r h true e = subst (λ ls. all_formed ls ≡ true) (same_Some _ _ e) (row_formed r args (clause_of r) h)
    inside r h false e = absurd (none_some e)
      where
        none_some : None ≡ Some lits → ⊥
        none_some e = cc

    by : (o : Option Row) → slice_get table rule ≡ o → option_and_then (λ r. instance_of_row r args) o ≡ Some lits → all_formed lits ≡ true
    by None at e = absurd (none_some e)
      where
        none_some : None ≡ Some lits → ⊥
        none_some e = cc
    by (Some r) at e = inside r (at_place (λ r. all_formed (clause_of r)) table rule r rows_formed at) (arguments_fit r args) e

pub needs_formed : (ls : List Lit) (l : Lit) → all_formed ls ≡ true → all_formed (map negation (others ls l)) ≡ true
needs_formed [] l h = refl
needs_formed (m ∷ ls) l h = by (same_lit m l) (needs_formed ls l (and_right (is_well_formed m) (all_formed ls) h))
  where
    by : (b : Bool) → all_formed (map negation (others ls l)) ≡ true → all_formed (map negation (if not b then m ∷ others ls l else others ls l)) ≡ true
    by true later = later
    by false later = ap (λ c. c && all_formed (map negation (others ls l))) (and_left (is_well_formed m) (all_formed ls) h) ∙ later
