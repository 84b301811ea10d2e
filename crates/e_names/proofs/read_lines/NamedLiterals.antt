-- What spelling says of a literal that is written with the names of its objects.
use Rattle.std.proofs.Common.{◌≡◌, ℕ, ◌≤◌, Bool, true, false, leb, ◌&&◌, ◌+◌, List, [], ◌∷◌, ◌++◌, length, length-append, Ok, refl, sym, subst, ◌∙◌, arith}
use Rattle.std.specs.Prelude.{◌==◌}
use Rattle.std.specs.List.{list_all}
use Rattle.std.proofs.lemmas.Bool.Decides.{nat_tests}
use Rattle.std.proofs.lemmas.List.Folds.{list_all-append}
use Rattle.std.proofs.lemmas.Bool.{and_parts, leb-true}
use Rattle.std.proofs.lemmas.List.{length-map}
use Rattle.e_literal.specs.declared.object.Kind.{Kind as Magnitude}
use Rattle.e_literal.specs.declared.object.Mono.{Mono}
use Rattle.e_literal.specs.declared.literal.Atom.{Atom}
use Rattle.e_literal.specs.declared.literal.Atom.TheVariants as atoms
use Rattle.e_literal.specs.declared.literal.Lit.{Lit}
use Rattle.e_literal.specs.Literal.{kind_of_term, kind_of_sums}
use Rattle.e_literal.specs.WellFormed.{same_kind, is_bounded_coefficient, are_well_formed_sums, is_well_formed_atom, is_well_formed}
use Rattle.e_deriv.specs.declared.names.Names.{Names}
use Rattle.e_line.specs.declared.sum.RawMono.{RawMono}
use Rattle.e_line.specs.declared.literal.RawLit.{RawLit}
use Rattle.e_line.specs.declared.literal.RawAtom.{RawAtom}
use Rattle.e_line.specs.declared.literal.RawAtom.TheVariants as raw
use Rattle.e_line.specs.Reading.{◌>>=◌, each}
use Rattle.e_names.specs.Scope.{first_kind, mono_in, sums_in, atom_in, negated_in, lit_in}
use Rattle.e_names.specs.Canonical.{raw_mono, raw_sum, raw_signed, raw_of}
use Rattle.e_line.proofs.base.Bound.{bind_ok, ok_is, read_ok, each_length}
use Rattle.e_names.proofs.read_lines.InScope.{mono_read, sums_read}
use Rattle.e_line.proofs.read_lines.SumsOfLiterals.{SumSaid, SidesSaid, AtomSaid}
use Rattle.e_names.proofs.read_lines.LiteralsOfRawLines.{Plain, atom_plain}

-- ---- a literal that was read

sum_again : (ns : Names) (k : Magnitude) (rs : List RawMono) (ms : List Mono) → each (mono_in ns k) rs ≡ Ok ms → SumSaid rs → SumSaid (raw_sum ns ms)
sum_again ns k [] ms e said = subst (λ (l : List Mono). SumSaid (raw_sum ns l)) (ok_is [] ms e) tt
sum_again ns k (r ∷ rs) ms e said =
    let a = bind_ok (mono_in ns k r) (λ m. each (mono_in ns k) rs >>= λ zs. read_ok (m ∷ zs)) ms e in
    let b = bind_ok (each (mono_in ns k) rs) (λ zs. read_ok (a.0 ∷ zs)) ms a.2 in
    subst (λ (l : List Mono). SumSaid (raw_sum ns l)) (ok_is (a.0 ∷ b.0) ms b.2)
    (subst (λ (n : ℕ). 1 ≤ n) (mono_read ns k r a.0 a.1).coeff said.0, sum_again ns k rs b.0 b.1 said.1)

same_some : (a b c d : ℕ) → a ≡ c → b ≡ d → (c == 0 && d == 0) ≡ false → (a == 0 && b == 0) ≡ false
same_some a b c d e f h = rw (e, f) h

sides_again : (ns : Names) (x y : List RawMono) (p : List Mono × List Mono) → sums_in ns x y ≡ Ok p → SidesSaid x y → SidesSaid (raw_sum ns p.0) (raw_sum ns p.1)
sides_again ns x y p e said =
    let k = first_kind x y in
    let r = sums_read ns x y p e in
    record {
      left = sum_again ns k x p.0 r.left said.left;
      right = sum_again ns k y p.1 r.right said.right;
      some = same_some (length (raw_sum ns p.0)) (length (raw_sum ns p.1)) (length x) (length y) (length-map p.0 _ ∙ each_length (mono_in ns k) x p.0 r.left) (length-map p.1 _ ∙ each_length (mono_in ns k) y p.1 r.right) said.some;
    }

turned_some : (a b : Bool) → (a && b) ≡ false → (b && a) ≡ false
turned_some true b h = rw h refl
turned_some false true h = refl
turned_some false false h = refl

turned : (x y : List RawMono) → SidesSaid x y → SidesSaid y x
turned x y s = record { left = s.right; right = s.left; some = turned_some (length x == 0) (length y == 0) s.some }

-- a diagram literal says nothing of sums
plain_said : (ns : Names) (neg : Bool) (a : Atom) → Plain a → AtomSaid (raw_signed ns neg a).atom
plain_said ns true (atoms.MagEq x y) h = absurd cc
plain_said ns true (atoms.MagLt x y) h = absurd cc
plain_said ns false (atoms.MagEq x y) h = absurd cc
plain_said ns false (atoms.MagLt x y) h = absurd cc
plain_said ns true a h = tt
plain_said ns false a h = tt

equal_said : (ns : Names) (neg : Bool) (x y : List Mono) → SidesSaid (raw_sum ns x) (raw_sum ns y) → AtomSaid (raw_signed ns neg (atoms.MagEq x y)).atom
equal_said ns true x y h = h
equal_said ns false x y h = h

less_said : (ns : Names) (neg : Bool) (x y : List Mono) → SidesSaid (raw_sum ns x) (raw_sum ns y) → AtomSaid (raw_signed ns neg (atoms.MagLt x y)).atom
less_said ns true x y h = turned (raw_sum ns x) (raw_sum ns y) h
less_said ns false x y h = h

said_as : (ns : Names) (neg : Bool) (x a : Atom) → read_ok x ≡ Ok a → AtomSaid (raw_signed ns neg x).atom → AtomSaid (raw_signed ns neg a).atom
said_as ns neg x a e h = subst (λ (y : Atom). AtomSaid (raw_signed ns neg y).atom) (ok_is x a e) h

atom_again : (ns : Names) (neg : Bool) (r : RawAtom) (a : Atom) → atom_in ns r ≡ Ok a → AtomSaid r → AtomSaid (raw_signed ns neg a).atom
unfolding atom_in
atom_again ns neg (raw.SumsEqual x y) a e said =
    let p = bind_ok (sums_in ns x y) (λ p. read_ok (atoms.MagEq p.0 p.1)) a e in
    said_as ns neg (atoms.MagEq p.0.0 p.0.1) a p.2 (equal_said ns neg p.0.0 p.0.1 (sides_again ns x y p.0 p.1 said))
atom_again ns neg (raw.SumsLess x y) a e said =
    let p = bind_ok (sums_in ns x y) (λ p. read_ok (atoms.MagLt p.0 p.1)) a e in
    said_as ns neg (atoms.MagLt p.0.0 p.0.1) a p.2 (less_said ns neg p.0.0 p.0.1 (sides_again ns x y p.0 p.1 said))
atom_again ns neg (raw.SumsAtMost x y) a e said =
    let p = bind_ok (sums_in ns x y) (λ p. read_ok (atoms.MagLt p.1 p.0)) a e in
    said_as ns neg (atoms.MagLt p.0.1 p.0.0) a p.2 (less_said ns neg p.0.1 p.0.0 (turned (raw_sum ns p.0.0) (raw_sum ns p.0.1) (sides_again ns x y p.0 p.1 said)))
atom_again ns neg r a e said = plain_said ns neg a (atom_plain ns r a refl e)

pub lit_said_again : (ns : Names) (r : RawLit) (l : Lit) → lit_in ns r ≡ Ok l → AtomSaid r.atom → AtomSaid (raw_of ns l).atom
unfolding lit_in
lit_said_again ns r l e said =
    let lit : Atom → Lit = λ a. record { neg = negated_in r.atom r.neg; atom = a } in
    let a = bind_ok (atom_in ns r.atom) (λ a. read_ok (lit a)) l e in
    subst (λ (x : Lit). AtomSaid (raw_of ns x).atom) (ok_is (lit a.0) l a.2) (atom_again ns (negated_in r.atom r.neg) r.atom a.0 a.1 said)

-- ---- a literal that is well formed

coefficients_said : (ns : Names) (p : Mono → Bool) → ((m : Mono) → p m ≡ true → 1 ≤ m.coeff) → (ms : List Mono) → list_all p ms ≡ true → SumSaid (raw_sum ns ms)
coefficients_said ns p h [] e = tt
coefficients_said ns p h (m ∷ ms) e = let a = and_parts (p m) (list_all p ms) e in (h m a.0, coefficients_said ns p h ms a.1)

abbrev fits_kind : Magnitude → Mono → Bool
fits_kind k m = same_kind (kind_of_term m.term) k && is_bounded_coefficient m.coeff

at_least_one : (k : Magnitude) (m : Mono) → fits_kind k m ≡ true → 1 ≤ m.coeff
at_least_one k m e =
    let c = (and_parts (same_kind (kind_of_term m.term) k) (is_bounded_coefficient m.coeff) e).1 in
    leb-true 1 m.coeff (and_parts (leb 1 m.coeff) (leb m.coeff 1000000) c).0

some_of : (a b : ℕ) → 1 ≤ a + b → (a == 0 && b == 0) ≡ false
some_of a b h = grind (arith, nat_tests)

good_sides : (ns : Names) (x y : List Mono) → are_well_formed_sums x y ≡ true → SidesSaid (raw_sum ns x) (raw_sum ns y)
good_sides ns x y e =
    let k = kind_of_sums x y in
    let ms = x ++ y in
    let p = and_parts (leb 1 (length ms)) (leb (length ms) 32 && list_all (fits_kind k) ms) e in
    let q = (and_parts (leb (length ms) 32) (list_all (fits_kind k) ms) p.1).1 in
    let parts = and_parts (list_all (fits_kind k) x) (list_all (fits_kind k) y) (sym (list_all-append (fits_kind k) x y) ∙ q) in
    record {
      left = coefficients_said ns (fits_kind k) (at_least_one k) x parts.0;
      right = coefficients_said ns (fits_kind k) (at_least_one k) y parts.1;
      some = some_of (length (raw_sum ns x)) (length (raw_sum ns y)) (omega (arith, leb-true 1 (length ms) p.0, length-append x y, length-map x (raw_mono ns), length-map y (raw_mono ns)));
    }

good_atom_said : (ns : Names) (neg : Bool) (a : Atom) → is_well_formed_atom a ≡ true → AtomSaid (raw_signed ns neg a).atom
good_atom_said ns neg (atoms.MagEq x y) e = equal_said ns neg x y (good_sides ns x y e)
good_atom_said ns neg (atoms.MagLt x y) e = less_said ns neg x y (good_sides ns x y e)
good_atom_said ns neg a e = plain_said ns neg a refl

pub good_said : (ns : Names) (l : Lit) → is_well_formed l ≡ true → AtomSaid (raw_of ns l).atom
good_said ns l h = good_atom_said ns l.neg l.atom h
