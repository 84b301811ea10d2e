-- What a literal over a rule's variables says, as signs of polynomials in the coordinates of what stands for the variables.
use Rattle.std.proofs.Common.{ℕ, zero, suc, List, [], ◌∷◌, ◌++◌, Bool, true, false, ◌&&◌, cond}
use Rattle.e_literal.specs.declared.literal.Atom.{Atom}
use Rattle.e_literal.specs.declared.literal.Atom.TheVariants.{On, OnC, Inside, Center, Between, Same, MeetLL, MeetLC, MeetCC, EqP, EqL, EqC, MagEq, MagLt}
use Rattle.e_literal.specs.declared.literal.Lit.{Lit}
use Rattle.e_clause.specs.Rows.{Row}
use Rattle.e_clause.specs.Instance.{clause_of}
use Rattle.e_plane.proofs.Ring.{◌⊕◌, ◌⊖◌, ◌⊗◌}
use Rattle.e_plane.proofs.Cone.{Fact, zero_is, positive, not_negative, unless}
use Rattle.e_plane.proofs.Steps.{Refutation, leads}
use Rattle.e_plane.proofs.Symbols.{minus, fst, snd, cross, dot, size, way, to, from_center, centers, side, base_side, area, gap, line_gap, meet_gap}

-- where the atom is true
abbrev pub when_true : Atom → List Fact
when_true (On a L) = zero_is (side a L) ∷ []
when_true (OnC a A) = zero_is (gap a A) ∷ []
when_true (Inside a A) = positive (gap a A) ∷ []
when_true (Center a A) = zero_is (fst (from_center A a)) ∷ zero_is (snd (from_center A a)) ∷ []
when_true (Between a b c) = zero_is (cross (to a b) (to a c)) ∷ positive (minus (dot (to b a) (to b c))) ∷ []
when_true (Same a b L) = positive (side a L ⊗ side b L) ∷ []
when_true (MeetLL L M) = positive (cross (way L) (way M) ⊗ cross (way L) (way M)) ∷ []
when_true (MeetLC L A) = positive (line_gap L A) ∷ []
when_true (MeetCC A B) = positive (meet_gap A B) ∷ []
when_true (EqP a b) = zero_is (fst (to a b)) ∷ zero_is (snd (to a b)) ∷ []
when_true (EqL L M) = zero_is (cross (way L) (way M)) ∷ zero_is (base_side M L) ∷ []
when_true (EqC A B) = zero_is (fst (centers A B)) ∷ zero_is (snd (centers A B)) ∷ zero_is (area B ⊖ area A) ∷ []
when_true (MagEq x y) = []
when_true (MagLt x y) = []

-- where it is not
abbrev pub when_false : Atom → List Fact
when_false (On a L) = positive (side a L ⊗ side a L) ∷ []
when_false (OnC a A) = positive (gap a A ⊗ gap a A) ∷ []
when_false (Inside a A) = not_negative (minus (gap a A)) ∷ []
when_false (Center a A) = positive (size (from_center A a)) ∷ []
when_false (Between a b c) = unless (cross (to a b) (to a c)) (dot (to b a) (to b c)) ∷ []
when_false (Same a b L) = not_negative (minus (side a L ⊗ side b L)) ∷ []
when_false (MeetLL L M) = zero_is (cross (way L) (way M)) ∷ []
when_false (MeetLC L A) = not_negative (minus (line_gap L A)) ∷ []
when_false (MeetCC A B) = not_negative (minus (meet_gap A B)) ∷ []
when_false (EqP a b) = positive (size (to a b)) ∷ []
when_false (EqL L M) = positive (cross (way L) (way M) ⊗ cross (way L) (way M) ⊕ base_side M L ⊗ base_side M L) ∷ []
when_false (EqC A B) = positive (size (centers A B) ⊕ (area B ⊖ area A) ⊗ (area B ⊖ area A)) ∷ []
when_false (MagEq x y) = []
when_false (MagLt x y) = []

-- where no literal of these is true
abbrev pub none_true : List Lit → List Fact
none_true [] = []
none_true (l ∷ ls) = cond l.neg (when_true l.atom) (when_false l.atom) ++ none_true ls

-- a line has a direction, and a circle an inside: of this many, from this number on
abbrev pub directions : ℕ → ℕ → List Fact
directions k zero = []
directions k (suc n) = positive (size (way k)) ∷ directions (suc k) n

abbrev pub insides : ℕ → ℕ → List Fact
insides k zero = []
insides k (suc n) = positive (area k) ∷ insides (suc k) n

abbrev pub row_facts : Row → List Fact
row_facts r = none_true (clause_of r) ++ (directions 0 r.lines ++ insides 0 r.circles)

-- a refutation for each row
abbrev pub all_refuted : List Row → List Refutation → Bool
all_refuted [] ps = true
all_refuted (r ∷ rs) [] = false
all_refuted (r ∷ rs) (p ∷ ps) = leads (row_facts r) p.steps p.last && all_refuted rs ps
