-- The keys by which diagram literals are looked up, and the places of metric ones with their
-- fingerprints.
use Rattle.std.specs.Prelude.{◌≡◌, ℕ, ◌+◌, List, [], ◌∷◌, Bool, false, Option, Some, None, ◌==◌, ◌&&◌, ◌*◌, if◌then◌else◌}
use Rattle.std.specs.Prelude.{slice_get}
use Rattle.std.specs.Option.{option_map, option_map_or}
use Rattle.e_literal.specs.declared.literal.Lit.{Lit}
use Rattle.e_literal.specs.declared.literal.Atom.{Atom}
use Rattle.e_literal.specs.declared.literal.Atom.TheVariants.{On, OnC, Inside, Center, Between}
use Rattle.e_literal.specs.declared.literal.Atom.TheVariants.{Same, MeetLL, MeetLC, MeetCC, EqP}
use Rattle.e_literal.specs.declared.literal.Atom.TheVariants.{EqL, EqC, MagEq, MagLt}
use Rattle.e_facts.specs.declared.key.Key.{Key}
use Rattle.e_facts.specs.declared.key.Relation.{Relation}
use Rattle.e_facts.specs.declared.key.Relation.TheVariants as relation
use Rattle.e_facts.specs.declared.facts.Place.{Place}
use Rattle.e_literal.specs.Same.{same_lit}
use Rattle.e_facts.specs.Facts.{AreApart}
use Rattle.e_facts.specs.inner.Fingerprint.{fingerprint}

-- the relation and the numbers of a diagram atom, with 0 for the third of two
abbrev pub parts_of_atom : Atom → Option (Relation × ℕ × ℕ × ℕ)
parts_of_atom (On a l) = Some (relation.OnLine, a, l, 0)
parts_of_atom (OnC a c) = Some (relation.OnCircle, a, c, 0)
parts_of_atom (Inside a c) = Some (relation.Inside, a, c, 0)
parts_of_atom (Center a c) = Some (relation.Center, a, c, 0)
parts_of_atom (Between a b c) = Some (relation.Between, a, b, c)
parts_of_atom (Same a b l) = Some (relation.SameSide, a, b, l)
parts_of_atom (MeetLL l m) = Some (relation.LinesMeet, l, m, 0)
parts_of_atom (MeetLC l c) = Some (relation.LineMeetsCircle, l, c, 0)
parts_of_atom (MeetCC c d) = Some (relation.CirclesMeet, c, d, 0)
parts_of_atom (EqP a b) = Some (relation.PointsEqual, a, b, 0)
parts_of_atom (EqL l m) = Some (relation.LinesEqual, l, m, 0)
parts_of_atom (EqC c d) = Some (relation.CirclesEqual, c, d, 0)
parts_of_atom (MagEq x y) = None
parts_of_atom (MagLt x y) = None

abbrev pub number_of_relation : Relation → ℕ
number_of_relation relation.OnLine = 0
number_of_relation relation.OnCircle = 1
number_of_relation relation.Inside = 2
number_of_relation relation.Center = 3
number_of_relation relation.Between = 4
number_of_relation relation.SameSide = 5
number_of_relation relation.LinesMeet = 6
number_of_relation relation.LineMeetsCircle = 7
number_of_relation relation.CirclesMeet = 8
number_of_relation relation.PointsEqual = 9
number_of_relation relation.LinesEqual = 10
number_of_relation relation.CirclesEqual = 11

-- the relation, the sign and the numbers of a key as one number
abbrev pub number_of_key : Key → ℕ
number_of_key k =
    32 * (k.first + 65536 * k.second + 4294967296 * k.third) + number_of_relation k.relation
    + (if k.negated then 0 else 12)

-- the key of a diagram literal, and none of a metric one
abbrev pub key_of_lit : Lit → Option Key
key_of_lit l =
    option_map
    (λ p. record { negated = l.neg; relation = p.0; first = p.1; second = p.2; third = p.3 })
    (parts_of_atom l.atom)

abbrev pub with_key : Option Key → List Key → List Key
with_key None ks = ks
with_key (Some k) ks = k ∷ ks

-- the keys of the diagram literals of a list, in order
abbrev pub keys_of : List Lit → List Key
keys_of [] = []
keys_of (l ∷ ls) = with_key (key_of_lit l) (keys_of ls)

abbrev pub with_place : Option Key → Place → List Place → List Place
with_place None p ps = p ∷ ps
with_place (Some k) p ps = ps

abbrev pub place_of : ℕ → Lit → Place
place_of n l = record { index = n; fingerprint = fingerprint l.atom }

-- the places of the metric literals of a list whose first place is n
abbrev pub metric_places : ℕ → List Lit → List Place
metric_places n [] = []
metric_places n (l ∷ ls) = with_place (key_of_lit l) (place_of n l) (metric_places (n + 1) ls)

-- the list has no two the same, and the table and the places are those of the list
pub record IsKept (lits : List Lit) (keys : List Key) (places : List Place) : Type 0 where
  pub apart : AreApart lits
  pub keyed : keys ≡ keys_of lits
  pub placed : places ≡ metric_places 0 lits

-- the literal that stands there is the same
abbrev pub same_in : List Lit → Lit → ℕ → Bool
same_in ls l n = option_map_or (λ f. same_lit f l) (slice_get ls n) false

-- the literal at the place has the fingerprint and is the same
abbrev pub same_at : List Lit → Lit → Place → Bool
same_at ls l p = (p.fingerprint == fingerprint l.atom) && same_in ls l p.index
