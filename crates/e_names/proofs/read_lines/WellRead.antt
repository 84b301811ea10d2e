-- A literal that is read within the limits is well formed.
use Rattle.std.proofs.Common.{◌≡◌, ℕ, ◌+◌, ◌≤◌, Bool, true, false, leb, ◌&&◌, List, [], ◌∷◌, ◌++◌, length, Ok, refl, sym, ap, subst, ◌∙◌, arith, length-append}
use Rattle.std.specs.Prelude.{◌==◌}
use Rattle.std.specs.List.{list_all}
use Rattle.std.proofs.lemmas.Bool.{leb-true, le-leb, and_parts}
use Rattle.std.proofs.lemmas.Bool.Decides.{nat_tests}
use Rattle.std.proofs.lemmas.List.Folds.{list_all-append}
use Rattle.std.proofs.lemmas.List.Sums.{sum_by-append}
use Rattle.e_literal.specs.declared.object.Sort.TheVariants.{Point}
use Rattle.e_literal.specs.declared.object.Kind.{Kind as Magnitude}
use Rattle.e_literal.specs.declared.object.Term.{Term}
use Rattle.e_literal.specs.declared.object.Term.TheVariants as terms
use Rattle.e_literal.specs.declared.object.Mono.{Mono}
use Rattle.e_literal.specs.declared.literal.Atom.{Atom}
use Rattle.e_literal.specs.declared.literal.Atom.TheVariants as atoms
use Rattle.e_literal.specs.declared.literal.Lit.{Lit}
use Rattle.e_literal.specs.Literal.{kind_of_term}
use Rattle.e_literal.specs.WellFormed.{same_kind, is_well_formed_atom, is_well_formed}
use Rattle.e_deriv.specs.declared.names.Names.{Names}
use Rattle.e_line.specs.declared.sum.RawTerm.{RawTerm}
use Rattle.e_line.specs.declared.sum.RawTerm.TheVariants as rawterms
use Rattle.e_line.specs.declared.sum.RawMono.{RawMono}
use Rattle.e_line.specs.declared.literal.RawLit.{RawLit}
use Rattle.e_line.specs.declared.literal.RawAtom.{RawAtom}
use Rattle.e_line.specs.declared.literal.RawAtom.TheVariants as raw
use Rattle.e_line.specs.Limits.{most_monomials, most_coefficient, monomials, count_monomials}
use Rattle.e_line.specs.Reading.{◌>>=◌, each}
use Rattle.e_line.specs.Literals.{monos_of}
use Rattle.e_names.specs.Scope.{number_of_name, term_in, kind_of_raw, first_kind, mono_in, sums_in, atom_in, negated_in, lit_in, lits_in}
use Rattle.e_line.specs.LineLimits.{have_few_monomials, have_low_coefficients, count_raw_monomials}
use Rattle.e_names.specs.Fits.{is_diagram_atom}
use Rattle.e_line.proofs.base.Bound.{bind_ok, ok_is, read_ok, each_length}
use Rattle.e_names.proofs.read_lines.InScope.{mono_read, sums_read}
use Rattle.e_line.proofs.read_lines.SumsOfLiterals.{SumSaid, SidesSaid, AtomSaid, LitsSaid}
use Rattle.e_names.proofs.literals.ComparedSums.{is_bounded_mono, AreBounded, GoodSums, sums_good, turned}
use Rattle.e_names.proofs.read_lines.LiteralsOfRawLines.{atom_plain}
use Rattle.e_names.proofs.literals.ShortLits.{count_first}
use Rattle.e_names.proofs.literals.Diagrams.{good_diagram}

abbrev is_small : List RawMono → Bool
is_small ms = list_all (λ m. leb m.coeff most_coefficient) ms

to_kind : (x t : Term) (k : Magnitude) → kind_of_term x ≡ k → read_ok x ≡ Ok t → kind_of_term t ≡ k
to_kind x t k h e = subst (λ (y : Term). kind_of_term y ≡ k) (ok_is x t e) h

term_kind : (ns : Names) (r : RawTerm) (t : Term) → term_in ns r ≡ Ok t → kind_of_term t ≡ kind_of_raw r
unfolding term_in
term_kind ns (rawterms.Seg x y) t e =
    let p = bind_ok (number_of_name ns Point x) (λ p. number_of_name ns Point y >>= λ q. read_ok (terms.Seg p q)) t e in
    let q = bind_ok (number_of_name ns Point y) (λ q. read_ok (terms.Seg p.0 q)) t p.2 in
    to_kind (terms.Seg p.0 q.0) t (kind_of_raw (rawterms.Seg x y)) refl q.2
term_kind ns (rawterms.Ang x y z) t e =
    let p = bind_ok (number_of_name ns Point x) (λ p. number_of_name ns Point y >>= λ q. number_of_name ns Point z >>= λ r. read_ok (terms.Ang p q r)) t e in
    let q = bind_ok (number_of_name ns Point y) (λ q. number_of_name ns Point z >>= λ r. read_ok (terms.Ang p.0 q r)) t p.2 in
    let r = bind_ok (number_of_name ns Point z) (λ r. read_ok (terms.Ang p.0 q.0 r)) t q.2 in
    to_kind (terms.Ang p.0 q.0 r.0) t (kind_of_raw (rawterms.Ang x y z)) refl r.2
term_kind ns (rawterms.Area x y z) t e =
    let p = bind_ok (number_of_name ns Point x) (λ p. number_of_name ns Point y >>= λ q. number_of_name ns Point z >>= λ r. read_ok (terms.Area p q r)) t e in
    let q = bind_ok (number_of_name ns Point y) (λ q. number_of_name ns Point z >>= λ r. read_ok (terms.Area p.0 q r)) t p.2 in
    let r = bind_ok (number_of_name ns Point z) (λ r. read_ok (terms.Area p.0 q.0 r)) t q.2 in
    to_kind (terms.Area p.0 q.0 r.0) t (kind_of_raw (rawterms.Area x y z)) refl r.2
term_kind ns rawterms.Right t e = to_kind terms.Right t (kind_of_raw rawterms.Right) refl e

good_mono : (ns : Names) (k : Magnitude) (r : RawMono) (m : Mono) → mono_in ns k r ≡ Ok m → 1 ≤ r.coeff → leb r.coeff most_coefficient ≡ true → is_bounded_mono k m ≡ true
good_mono ns k r m e some small =
    let is = mono_read ns k r m e in
    let kind : same_kind (kind_of_term m.term) k ≡ true = ap (λ (z : Magnitude). same_kind z k) (term_kind ns r.term m.term is.term) ∙ is.kind in
    let least : leb 1 m.coeff ≡ true = le-leb _ _ (subst (λ (n : ℕ). 1 ≤ n) is.coeff some) in
    let most : leb m.coeff most_coefficient ≡ true = subst (λ (n : ℕ). leb n most_coefficient ≡ true) is.coeff small in
    rw (kind, least, most) refl

good_sum : (ns : Names) (k : Magnitude) (rs : List RawMono) (ms : List Mono) → each (mono_in ns k) rs ≡ Ok ms → SumSaid rs → is_small rs ≡ true → AreBounded k ms
good_sum ns k [] ms e said small = subst (AreBounded k) (ok_is [] ms e) refl
good_sum ns k (r ∷ rs) ms e said small =
    let a = bind_ok (mono_in ns k r) (λ m. each (mono_in ns k) rs >>= λ zs. read_ok (m ∷ zs)) ms e in
    let b = bind_ok (each (mono_in ns k) rs) (λ zs. read_ok (a.0 ∷ zs)) ms a.2 in
    let s = and_parts (leb r.coeff most_coefficient) (is_small rs) small in
    subst (AreBounded k) (ok_is (a.0 ∷ b.0) ms b.2) (rw (good_mono ns k r a.0 a.1 said.0 s.0, good_sum ns k rs b.0 b.1 said.1 s.1) refl)

some_by : (m n : ℕ) → (m == 0 && n == 0) ≡ false → 1 ≤ m + n
some_by m n h = grind (arith, nat_tests)

good_sides : (ns : Names) (x y : List RawMono) (p : List Mono × List Mono) → sums_in ns x y ≡ Ok p → SidesSaid x y → leb (length (x ++ y)) most_monomials ≡ true → is_small (x ++ y) ≡ true
    → GoodSums (first_kind x y) p.0 p.1
good_sides ns x y p e said short small =
    let k = first_kind x y in
    let r = sums_read ns x y p e in
    let parts = and_parts (is_small x) (is_small y) (sym (list_all-append (λ m. leb m.coeff most_coefficient) x y) ∙ small) in
    let a = each_length (mono_in ns k) x p.0 r.left in
    let b = each_length (mono_in ns k) y p.1 r.right in
    let some = some_by (length x) (length y) said.some in
    let few = leb-true (length (x ++ y)) most_monomials short in
    record {
      left = good_sum ns k x p.0 r.left said.left parts.0;
      right = good_sum ns k y p.1 r.right said.right parts.1;
      some = omega (arith, a, b, some);
      short = omega (arith, a, b, few, length-append x y);
    }

to : (x a : Atom) → is_well_formed_atom x ≡ true → read_ok x ≡ Ok a → is_well_formed_atom a ≡ true
to x a h e = subst (λ (y : Atom). is_well_formed_atom y ≡ true) (ok_is x a e) h

good_atom : (ns : Names) (r : RawAtom) (a : Atom) → atom_in ns r ≡ Ok a → AtomSaid r → leb (length (monos_of r)) most_monomials ≡ true → is_small (monos_of r) ≡ true → is_well_formed_atom a ≡ true
unfolding atom_in
good_atom ns (raw.SumsEqual x y) a e said short small =
    let p = bind_ok (sums_in ns x y) (λ p. read_ok (atoms.MagEq p.0 p.1)) a e in
    to (atoms.MagEq p.0.0 p.0.1) a (sums_good (first_kind x y) p.0.0 p.0.1 (good_sides ns x y p.0 p.1 said short small)) p.2
good_atom ns (raw.SumsLess x y) a e said short small =
    let p = bind_ok (sums_in ns x y) (λ p. read_ok (atoms.MagLt p.0 p.1)) a e in
    to (atoms.MagLt p.0.0 p.0.1) a (sums_good (first_kind x y) p.0.0 p.0.1 (good_sides ns x y p.0 p.1 said short small)) p.2
good_atom ns (raw.SumsAtMost x y) a e said short small =
    let p = bind_ok (sums_in ns x y) (λ p. read_ok (atoms.MagLt p.1 p.0)) a e in
    let k = first_kind x y in
    to (atoms.MagLt p.0.1 p.0.0) a (sums_good k p.0.1 p.0.0 (turned k p.0.0 p.0.1 (good_sides ns x y p.0 p.1 said short small))) p.2
good_atom ns r a e said short small = good_diagram a (atom_plain ns r a refl e)

abbrev lit : Bool → Atom → Lit
lit neg a = record { neg = neg; atom = a }

good_lit : (ns : Names) (r : RawLit) (l : Lit) → lit_in ns r ≡ Ok l → AtomSaid r.atom → leb (length (monos_of r.atom)) most_monomials ≡ true → is_small (monos_of r.atom) ≡ true → is_well_formed l ≡ true
unfolding lit_in
good_lit ns r l e said short small =
    let a = bind_ok (atom_in ns r.atom) (λ a. read_ok (lit (negated_in r.atom r.neg) a)) l e in
    subst (λ (x : Lit). is_well_formed x ≡ true) (ok_is (lit (negated_in r.atom r.neg) a.0) l a.2) (good_atom ns r.atom a.0 a.1 said short small)

pub good_lits : (ns : Names) (raws : List RawLit) (ls : List Lit) → lits_in ns raws ≡ Ok ls → LitsSaid raws → have_few_monomials raws ≡ true → have_low_coefficients raws ≡ true → list_all is_well_formed ls ≡ true
good_lits ns [] ls e said short small = subst (λ (x : List Lit). list_all is_well_formed x ≡ true) (ok_is [] ls e) refl
good_lits ns (r ∷ raws) ls e said short small =
    let a = bind_ok (lit_in ns r) (λ l. lits_in ns raws >>= λ zs. read_ok (l ∷ zs)) ls e in
    let b = bind_ok (lits_in ns raws) (λ zs. read_ok (a.0 ∷ zs)) ls a.2 in
    let s = and_parts (leb (length (monos_of r.atom)) most_monomials) (have_few_monomials raws) short in
    let t = and_parts (is_small (monos_of r.atom)) (have_low_coefficients raws) small in
    subst (λ (x : List Lit). list_all is_well_formed x ≡ true) (ok_is (a.0 ∷ b.0) ls b.2)
    (rw (good_lit ns r a.0 a.1 said.0 s.0 t.0, good_lits ns raws b.0 b.1 said.1 s.1 t.1) refl)

-- ---- how many monomials are read

to_count : (x a : Atom) (n : ℕ) → monomials x ≡ n → read_ok x ≡ Ok a → monomials a ≡ n
to_count x a n h e = subst (λ (y : Atom). monomials y ≡ n) (ok_is x a e) h

sides_count : (ns : Names) (x y : List RawMono) (p : List Mono × List Mono) → sums_in ns x y ≡ Ok p → (length p.0 ≡ length x) × (length p.1 ≡ length y)
sides_count ns x y p e =
    let r = sums_read ns x y p e in
    (each_length (mono_in ns (first_kind x y)) x p.0 r.left, each_length (mono_in ns (first_kind x y)) y p.1 r.right)

pub no_monomials : (a : Atom) → is_diagram_atom a ≡ true → monomials a ≡ 0
no_monomials (atoms.MagEq x y) h = absurd cc
no_monomials (atoms.MagLt x y) h = absurd cc
no_monomials a h = refl

atom_count : (ns : Names) (r : RawAtom) (a : Atom) → atom_in ns r ≡ Ok a → monomials a ≡ length (monos_of r)
unfolding atom_in
atom_count ns (raw.SumsEqual x y) a e =
    let p = bind_ok (sums_in ns x y) (λ p. read_ok (atoms.MagEq p.0 p.1)) a e in
    let n = sides_count ns x y p.0 p.1 in
    to_count (atoms.MagEq p.0.0 p.0.1) a (length (x ++ y)) (omega (arith, n.0, n.1, length-append p.0.0 p.0.1, length-append x y)) p.2
atom_count ns (raw.SumsLess x y) a e =
    let p = bind_ok (sums_in ns x y) (λ p. read_ok (atoms.MagLt p.0 p.1)) a e in
    let n = sides_count ns x y p.0 p.1 in
    to_count (atoms.MagLt p.0.0 p.0.1) a (length (x ++ y)) (omega (arith, n.0, n.1, length-append p.0.0 p.0.1, length-append x y)) p.2
atom_count ns (raw.SumsAtMost x y) a e =
    let p = bind_ok (sums_in ns x y) (λ p. read_ok (atoms.MagLt p.1 p.0)) a e in
    let n = sides_count ns x y p.0 p.1 in
    to_count (atoms.MagLt p.0.1 p.0.0) a (length (x ++ y)) (omega (arith, n.0, n.1, length-append p.0.1 p.0.0, length-append x y)) p.2
atom_count ns r a e = no_monomials a (atom_plain ns r a refl e)

pub lit_count : (ns : Names) (r : RawLit) (l : Lit) → lit_in ns r ≡ Ok l → monomials l.atom ≡ length (monos_of r.atom)
unfolding lit_in
lit_count ns r l e =
    let a = bind_ok (atom_in ns r.atom) (λ a. read_ok (lit (negated_in r.atom r.neg) a)) l e in
    subst (λ (x : Lit). monomials x.atom ≡ length (monos_of r.atom)) (ok_is (lit (negated_in r.atom r.neg) a.0) l a.2) (atom_count ns r.atom a.0 a.1)

raws_first : (r : RawLit) (raws : List RawLit) → count_raw_monomials (r ∷ raws) ≡ length (monos_of r.atom) + count_raw_monomials raws
raws_first r raws = sum_by-append (λ (m : RawLit). length (monos_of m.atom)) (r ∷ []) raws ∙ omega arith

pub lits_count : (ns : Names) (raws : List RawLit) (ls : List Lit) → lits_in ns raws ≡ Ok ls → count_monomials ls ≡ count_raw_monomials raws
lits_count ns [] ls e = subst (λ (x : List Lit). count_monomials x ≡ 0) (ok_is [] ls e) refl
lits_count ns (r ∷ raws) ls e =
    let a = bind_ok (lit_in ns r) (λ l. lits_in ns raws >>= λ zs. read_ok (l ∷ zs)) ls e in
    let b = bind_ok (lits_in ns raws) (λ zs. read_ok (a.0 ∷ zs)) ls a.2 in
    let n = lit_count ns r a.0 a.1 in
    let m = lits_count ns raws b.0 b.1 in
    subst (λ (x : List Lit). count_monomials x ≡ count_raw_monomials (r ∷ raws)) (ok_is (a.0 ∷ b.0) ls b.2) (omega (arith, count_first a.0 b.0, raws_first r raws, n, m))
