-- Angles and segments that values list: another one may have any value.
use Rattle.std.specs.Prelude.{◌≡◌, ◌≢◌, ℕ, ◌+◌, ◌*◌, List, [], ◌∷◌, ◌++◌, Bool, true, false, ◌&&◌, ◌==◌, Some, ◌⊎◌}
use Rattle.std.specs.Prelude.{flat_map, nat_le, slice_get, if◌then◌else◌}
use Rattle.std.specs.List.{list_all, list_any}
use Rattle.e_literal.specs.declared.literal.Atom.TheVariants.{MagEq}
use Rattle.e_literal.specs.declared.literal.Lit.{Lit}
use Rattle.e_literal.specs.declared.object.Mono.{Mono}
use Rattle.e_literal.specs.declared.object.Term.{Term}
use Rattle.e_literal.specs.declared.object.Term.TheVariants.{Seg, Ang, Right}
use Rattle.e_literal.specs.Rename.{term_at}
use Rattle.e_clause.specs.Instance.{number, clause_of}
use Rattle.e_clause.specs.Metric.{MetricConsequence}
use Rattle.e_clause.specs.Rows.{Row}
use Rattle.e_clause.specs.Views.{row_of}
use Rattle.e_transfer.specs.declared.models.Filling.TheVariants.{Each}
use Rattle.e_transfer.specs.declared.numbers.Numbers.{Numbers}
use Rattle.e_transfer.specs.Marks.{lit_mark, mark_number}
use Rattle.e_transfer.specs.Models.{value_by}
use Rattle.e_transfer.specs.inner.Candidates.{variables_of_term, numbers_by}
use Rattle.e_transfer.specs.inner.PartsOfChoices.{chosen_arguments}

-- the points of an angle, and of a segment, in both orders
abbrev pub angle_points : Term → List (ℕ × ℕ × ℕ)
angle_points (Ang a b c) = (a, b, c) ∷ (c, b, a) ∷ []
angle_points _ = []

abbrev pub segment_points : Term → List (ℕ × ℕ × ℕ)
segment_points (Seg a b) = (a, b, 0) ∷ (b, a, 0) ∷ []
segment_points _ = []

-- of a segment that is 0
abbrev pub zero_points : Term × ℕ → List (ℕ × ℕ × ℕ)
zero_points p = if p.1 == 0 then segment_points p.0 else []

abbrev pub angles_of : List (Term × ℕ) → List (ℕ × ℕ × ℕ)
angles_of values = flat_map (λ p. angle_points p.0) values

abbrev pub segments_of : List (Term × ℕ) → List (ℕ × ℕ × ℕ)
segments_of values = flat_map (λ p. segment_points p.0) values

abbrev pub zero_segments_of : List (Term × ℕ) → List (ℕ × ℕ × ℕ)
zero_segments_of values = flat_map zero_points values

-- no angle that is listed is above two right ones
abbrev pub is_angle_below : ℕ → Term → ℕ → Bool
is_angle_below most (Ang a b c) n = nat_le n most
is_angle_below most _ n = true

abbrev pub are_angles_within : List (Term × ℕ) → Bool
are_angles_within values =
    list_all (λ p. is_angle_below (2 * value_by (Each 0) values Right) p.0 p.1) values

-- the number of a variable, where these numbers come next
abbrev pub later_number : Numbers → List ℕ → ℕ → ℕ
later_number n rest v =
    number (chosen_arguments (row_of n.row.now) n.positions.now (n.part.now ++ rest)) v

-- it follows that the two differ, where these numbers come next
abbrev pub Differ : List Lit → Numbers → List ℕ → ℕ → Term → Term → Type 0
Differ facts n rest coeff t other = MetricConsequence facts (record {
  neg = true;
  atom = MagEq (record { coeff = coeff; term = term_at (later_number n rest) t } ∷ [])
      (record { coeff = coeff; term = term_at (later_number n rest) other } ∷ []);
})

-- it does not, whatever numbers come next
abbrev pub NeverDiffer : List Lit → Numbers → Term → Term → Type 0
NeverDiffer facts n t other = (coeff : ℕ) (rest : List ℕ) → Differ facts n rest coeff t other → ⊥

-- nor where a number comes next that is marked false
abbrev pub NeverDifferUnseen : List Lit → Numbers → Term → Term → List Bool → Type 0
NeverDifferUnseen facts n t other seen = (next : ℕ) → slice_get seen next ≡ Some false
    → (coeff : ℕ) (rest : List ℕ) → Differ facts n (next ∷ rest) coeff t other → ⊥

-- the points of a term, where these numbers come next
abbrev pub later_points : Numbers → List ℕ → Term → ℕ × ℕ × ℕ
later_points n rest t = numbers_by (later_number n rest) (variables_of_term t)

abbrev pub are_same_points : ℕ × ℕ × ℕ → ℕ × ℕ × ℕ → Bool
are_same_points t u = t.0 == u.0 && (t.1 == u.1 && t.2 == u.2)

-- the points are none of these
abbrev pub IsUnlisted : List (ℕ × ℕ × ℕ) → Numbers → List ℕ → Term → Type 0
IsUnlisted points n rest t = list_any (are_same_points (later_points n rest t)) points ≡ false

-- those of one of the two are none of these, whatever numbers come next
abbrev pub IsOneUnlisted : List (ℕ × ℕ × ℕ) → Numbers → Term → Term → Type 0
IsOneUnlisted points n t other = ((rest : List ℕ) → IsUnlisted points n rest t)
    ⊎ ((rest : List ℕ) → IsUnlisted points n rest other)

-- nor are the first two one
abbrev pub IsApart : List (ℕ × ℕ × ℕ) → Numbers → List ℕ → Term → Type 0
IsApart points n rest t =
    IsUnlisted points n rest t × ((later_points n rest t).0 ≢ (later_points n rest t).1)

-- where a number comes next that is marked false
abbrev pub AreSeenPoints : List (ℕ × ℕ × ℕ) → Numbers → Term → List Bool → Type 0
AreSeenPoints points n t seen = (next : ℕ) → slice_get seen next ≡ Some false → (rest : List ℕ)
    → IsUnlisted points n (next ∷ rest) t

abbrev pub AreSeenZero : List (ℕ × ℕ × ℕ) → Numbers → Term → List Bool → Type 0
AreSeenZero points n t seen = (next : ℕ) → slice_get seen next ≡ Some false → (rest : List ℕ)
    → IsApart points n (next ∷ rest) t

-- of one of the two
abbrev pub AreSeenAngles : List (ℕ × ℕ × ℕ) → Numbers → Term → Term → List Bool → Type 0
AreSeenAngles points n t other seen = (next : ℕ) → slice_get seen next ≡ Some false
    → (rest : List ℕ)
    → IsUnlisted points n (next ∷ rest) t ⊎ IsUnlisted points n (next ∷ rest) other

-- and neither is 0
abbrev pub AreSeenSegments : List (ℕ × ℕ × ℕ) → List (ℕ × ℕ × ℕ) → Numbers → Term → Term
    → List Bool → Type 0
AreSeenSegments points zeros n t other seen = (next : ℕ) → slice_get seen next ≡ Some false
    → (rest : List ℕ)
    → (IsUnlisted points n (next ∷ rest) t ⊎ IsUnlisted points n (next ∷ rest) other)
    × IsApart zeros n (next ∷ rest) t × IsApart zeros n (next ∷ rest) other

-- the clause says at a place, which is not the goal's, of two terms alone that they are equal, and
-- the goal does not
abbrev pub AreEqualAt : Row → ℕ → ℕ → Lit → Term × Term → Type 0
AreEqualAt r at place goal both = (coeff : ℕ) × (slice_get (clause_of r) at ≡ Some (record {
  neg = false;
  atom = MagEq (record { coeff = coeff; term = both.0 } ∷ [])
      (record { coeff = coeff; term = both.1 } ∷ []);
})) × ((at == place) ≡ false) × (lit_mark goal ≢ mark_number 12 false)
