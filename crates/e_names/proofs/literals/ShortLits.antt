-- A literal that is well formed is within the limits, as it is spelled.
use Rattle.std.proofs.Common.{◌≡◌, ◌+◌, Bool, true, false, leb, List, [], ◌∷◌, ◌++◌, length, map, Ok, refl, ◌∙◌, arith, length-append}
use Rattle.std.specs.List.{list_all}
use Rattle.std.proofs.lemmas.Bool.{le-leb, and_parts}
use Rattle.std.proofs.lemmas.List.{length-map}
use Rattle.std.proofs.lemmas.List.Folds.{list_all-append}
use Rattle.std.proofs.lemmas.List.Sums.{sum_by-append}
use Rattle.e_literal.specs.declared.object.Kind.{Kind as Magnitude}
use Rattle.e_literal.specs.declared.object.Mono.{Mono}
use Rattle.e_literal.specs.declared.literal.Atom.{Atom}
use Rattle.e_literal.specs.declared.literal.Atom.TheVariants as atoms
use Rattle.e_literal.specs.declared.literal.Lit.{Lit}
use Rattle.e_literal.specs.Literal.{kind_of_term, kind_of_sums}
use Rattle.e_literal.specs.WellFormed.{same_kind, is_bounded_coefficient, is_well_formed_atom, is_well_formed}
use Rattle.e_deriv.specs.declared.names.Names.{Names}
use Rattle.e_line.specs.declared.sum.RawMono.{RawMono}
use Rattle.e_line.specs.Limits.{most_monomials, most_coefficient, monomials, count_monomials}
use Rattle.e_line.specs.Literals.{monos_of}
use Rattle.e_line.specs.LineLimits.{have_few_monomials, have_low_coefficients, count_raw_monomials, check_literal_limits}
use Rattle.e_names.specs.Canonical.{raw_mono, raw_sum, raw_signed, raw_of}
use Rattle.e_names.proofs.literals.ComparedSums.{is_bounded_mono, AreBounded, GoodSums, good_sums, turned}

abbrev is_small : List RawMono → Bool
is_small ms = list_all (λ m. leb m.coeff most_coefficient) ms

small_sum : (ns : Names) (k : Magnitude) (ms : List Mono) → AreBounded k ms → is_small (raw_sum ns ms) ≡ true
small_sum ns k [] g = refl
small_sum ns k (m ∷ ms) g =
    let p = and_parts (is_bounded_mono k m) (list_all (is_bounded_mono k) ms) g in
    let q = and_parts (same_kind (kind_of_term m.term) k) (is_bounded_coefficient m.coeff) p.0 in
    let c = and_parts (leb 1 m.coeff) (leb m.coeff most_coefficient) q.1 in
    rw (c.1, small_sum ns k ms p.1) refl

-- a literal's monomials as they are spelled
record Short (ms : List RawMono) : Type 0 where
  short : leb (length ms) most_monomials ≡ true
  small : is_small ms ≡ true

short_sums : (ns : Names) (k : Magnitude) (x y : List Mono) → GoodSums k x y → Short (raw_sum ns x ++ raw_sum ns y)
short_sums ns k x y g = record {
  short = le-leb _ _ (omega (arith, g.short, length-append (raw_sum ns x) (raw_sum ns y), length-map x (raw_mono ns), length-map y (raw_mono ns)));
  small = list_all-append (λ m. leb m.coeff most_coefficient) (raw_sum ns x) (raw_sum ns y) ∙ rw (small_sum ns k x g.left, small_sum ns k y g.right) refl;
}

short_none : Short []
short_none = record { short = refl; small = refl }

short_lit : (ns : Names) (neg : Bool) (a : Atom) → is_well_formed_atom a ≡ true → Short (monos_of (raw_signed ns neg a).atom)
short_lit ns true (atoms.MagEq x y) h = short_sums ns (kind_of_sums x y) x y (good_sums x y h)
short_lit ns false (atoms.MagEq x y) h = short_sums ns (kind_of_sums x y) x y (good_sums x y h)
short_lit ns true (atoms.MagLt x y) h = short_sums ns (kind_of_sums x y) y x (turned (kind_of_sums x y) x y (good_sums x y h))
short_lit ns false (atoms.MagLt x y) h = short_sums ns (kind_of_sums x y) x y (good_sums x y h)
short_lit ns true a h = short_none
short_lit ns false a h = short_none

pub few_again : (ns : Names) (l : Lit) → is_well_formed l ≡ true → check_literal_limits (raw_of ns l ∷ []) ≡ Ok tt
unfolding check_literal_limits
few_again ns l h = let s = short_lit ns l.neg l.atom h in rw (s.short, s.small) refl

short_lits : (ns : Names) (ls : List Lit) → list_all is_well_formed ls ≡ true → have_few_monomials (map (raw_of ns) ls) ≡ true
short_lits ns [] h = refl
short_lits ns (l ∷ ls) h =
    let p = and_parts (is_well_formed l) (list_all is_well_formed ls) h in
    let s = short_lit ns l.neg l.atom p.0 in
    rw (s.short, short_lits ns ls p.1) refl

small_lits : (ns : Names) (ls : List Lit) → list_all is_well_formed ls ≡ true → have_low_coefficients (map (raw_of ns) ls) ≡ true
small_lits ns [] h = refl
small_lits ns (l ∷ ls) h =
    let p = and_parts (is_well_formed l) (list_all is_well_formed ls) h in
    let s = short_lit ns l.neg l.atom p.0 in
    rw (s.small, small_lits ns ls p.1) refl

pub all_few_again : (ns : Names) (ls : List Lit) → list_all is_well_formed ls ≡ true → check_literal_limits (map (raw_of ns) ls) ≡ Ok tt
unfolding check_literal_limits
all_few_again ns ls h = rw (short_lits ns ls h, small_lits ns ls h) refl

same_count : (ns : Names) (x y : List Mono) → length (raw_sum ns x ++ raw_sum ns y) ≡ length (x ++ y)
same_count ns x y = omega (arith, length-append (raw_sum ns x) (raw_sum ns y), length-append x y, length-map x (raw_mono ns), length-map y (raw_mono ns))

turned_count : (ns : Names) (x y : List Mono) → length (raw_sum ns y ++ raw_sum ns x) ≡ length (x ++ y)
turned_count ns x y = omega (arith, length-append (raw_sum ns y) (raw_sum ns x), length-append x y, length-map x (raw_mono ns), length-map y (raw_mono ns))

signed_count : (ns : Names) (neg : Bool) (a : Atom) → length (monos_of (raw_signed ns neg a).atom) ≡ monomials a
signed_count ns true (atoms.MagEq x y) = same_count ns x y
signed_count ns false (atoms.MagEq x y) = same_count ns x y
signed_count ns true (atoms.MagLt x y) = turned_count ns x y
signed_count ns false (atoms.MagLt x y) = same_count ns x y
signed_count ns true a = refl
signed_count ns false a = refl

-- one literal has as many monomials as its spelling
pub count_again : (ns : Names) (l : Lit) → count_raw_monomials (raw_of ns l ∷ []) ≡ monomials l.atom
count_again ns l = let n = signed_count ns l.neg l.atom in omega (arith, n)

pub count_more : (ls : List Lit) (l : Lit) → count_monomials (ls ++ l ∷ []) ≡ count_monomials ls + monomials l.atom
count_more ls l = sum_by-append (λ (m : Lit). monomials m.atom) ls (l ∷ []) ∙ omega arith

pub count_first : (l : Lit) (ls : List Lit) → count_monomials (l ∷ ls) ≡ monomials l.atom + count_monomials ls
count_first l ls = sum_by-append (λ (m : Lit). monomials m.atom) (l ∷ []) ls ∙ omega arith
