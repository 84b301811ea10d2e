-- A literal that is read is spelled with the names that it was read with.
use Rattle.std.proofs.Common.{◌≡◌, ℕ, Bool, true, false, cond, not, ◌&&◌, List, [], ◌∷◌, map, Result, Ok, Err, refl, sym, ap, subst, ◌∙◌}
use Rattle.std.proofs.lemmas.Bool.{and_parts}
use Rattle.e_literal.specs.declared.object.Sort.{Sort}
use Rattle.e_literal.specs.declared.object.Sort.TheVariants.{Point, Line, Circle}
use Rattle.e_literal.specs.declared.object.Obj.{Obj}
use Rattle.e_literal.specs.declared.object.Kind.{Kind as Magnitude}
use Rattle.e_literal.specs.declared.object.Term.{Term}
use Rattle.e_literal.specs.declared.object.Term.TheVariants as terms
use Rattle.e_literal.specs.declared.object.Mono.{Mono}
use Rattle.e_literal.specs.declared.literal.Atom.{Atom}
use Rattle.e_literal.specs.declared.literal.Atom.TheVariants as atoms
use Rattle.e_literal.specs.declared.literal.Lit.{Lit}
use Rattle.e_literal.specs.Literal.{obj}
use Rattle.e_literal.specs.WellFormed.{same_kind}
use Rattle.e_deriv.specs.declared.names.Names.{Names}
use Rattle.e_line.specs.declared.fault.FaultKind.{FaultKind}
use Rattle.e_line.specs.declared.fault.FaultKind.TheVariants.{WrongSort}
use Rattle.e_line.specs.declared.sum.RawTerm.{RawTerm}
use Rattle.e_line.specs.declared.sum.RawTerm.TheVariants as rawterms
use Rattle.e_line.specs.declared.sum.RawMono.{RawMono}
use Rattle.e_line.specs.declared.literal.RawLit.{RawLit}
use Rattle.e_line.specs.declared.literal.RawAtom.{RawAtom}
use Rattle.e_line.specs.declared.literal.RawAtom.TheVariants as raw
use Rattle.e_line.specs.Reading.{◌>>=◌, each}
use Rattle.e_line.specs.Literals.{lit_with_neg, is_diagram_raw}
use Rattle.e_names.specs.Scope.{used_object, number_of_name, on_sort, line_meets, meets_from, equal_at, term_in, kind_of_raw, first_kind, mono_in, sums_in, atom_in, negated_in, lit_in, lits_in}
use Rattle.e_names.specs.Canonical.{name_at, name_of_object, raw_term, raw_mono, raw_sum, raw_atom, raw_signed, raw_of}
use Rattle.e_line.proofs.base.Bound.{bind_ok, ok_is, read_ok}
use Rattle.e_line.specs.CanonicalLines.{is_less, is_canonical_lit, are_canonical_lits}
use Rattle.e_roundtrip.proofs.OneLine.NamesSpelled.{Keeps, used_named, number_named}
use Rattle.e_roundtrip.proofs.OneLine.LitsRead.{is_at_most, Signed, AllSigned}

-- what each of a list was read from
pub each_back : {X Y : Type 0} (f : X → Result Y FaultKind) (g : Y → X) → ((x : X) (y : Y) → f x ≡ Ok y → g y ≡ x) → (xs : List X) (ys : List Y) → each f xs ≡ Ok ys → map g ys ≡ xs
each_back f g h [] ys e = ap (map g) (sym (ok_is [] ys e))
each_back f g h (x ∷ xs) ys e =
    let a = bind_ok (f x) (λ y. each f xs >>= λ ys. read_ok (y ∷ ys)) ys e in
    let b = bind_ok (each f xs) (λ ys. read_ok (a.0 ∷ ys)) ys a.2 in
    ap (map g) (sym (ok_is (a.0 ∷ b.0) ys b.2)) ∙ rw (h x a.0 a.1, each_back f g h xs b.0 b.1) refl

-- ---- sums

to_term : (more : Names) (x t : Term) (r : RawTerm) → raw_term more x ≡ r → read_ok x ≡ Ok t → raw_term more t ≡ r
to_term more x t r h e = subst (λ (y : Term). raw_term more y ≡ r) (ok_is x t e) h

pub term_named : (ns more : Names) (r : RawTerm) (t : Term) → Keeps ns more → term_in ns r ≡ Ok t → raw_term more t ≡ r
unfolding term_in
term_named ns more (rawterms.Seg x y) t k e =
    let a = bind_ok (number_of_name ns Point x) (λ a. number_of_name ns Point y >>= λ b. read_ok (terms.Seg a b)) t e in
    let b = bind_ok (number_of_name ns Point y) (λ b. read_ok (terms.Seg a.0 b)) t a.2 in
    to_term more (terms.Seg a.0 b.0) t (rawterms.Seg x y) (rw (number_named ns more Point x a.0 k a.1, number_named ns more Point y b.0 k b.1) refl) b.2
term_named ns more (rawterms.Ang x y z) t k e =
    let a = bind_ok (number_of_name ns Point x) (λ a. number_of_name ns Point y >>= λ b. number_of_name ns Point z >>= λ c. read_ok (terms.Ang a b c)) t e in
    let b = bind_ok (number_of_name ns Point y) (λ b. number_of_name ns Point z >>= λ c. read_ok (terms.Ang a.0 b c)) t a.2 in
    let c = bind_ok (number_of_name ns Point z) (λ c. read_ok (terms.Ang a.0 b.0 c)) t b.2 in
    to_term more (terms.Ang a.0 b.0 c.0) t (rawterms.Ang x y z) (rw (number_named ns more Point x a.0 k a.1, number_named ns more Point y b.0 k b.1, number_named ns more Point z c.0 k c.1) refl) c.2
term_named ns more (rawterms.Area x y z) t k e =
    let a = bind_ok (number_of_name ns Point x) (λ a. number_of_name ns Point y >>= λ b. number_of_name ns Point z >>= λ c. read_ok (terms.Area a b c)) t e in
    let b = bind_ok (number_of_name ns Point y) (λ b. number_of_name ns Point z >>= λ c. read_ok (terms.Area a.0 b c)) t a.2 in
    let c = bind_ok (number_of_name ns Point z) (λ c. read_ok (terms.Area a.0 b.0 c)) t b.2 in
    to_term more (terms.Area a.0 b.0 c.0) t (rawterms.Area x y z) (rw (number_named ns more Point x a.0 k a.1, number_named ns more Point y b.0 k b.1, number_named ns more Point z c.0 k c.1) refl) c.2
term_named ns more rawterms.Right t k e = to_term more terms.Right t rawterms.Right refl e

passed : {A : Type 0} (b : Bool) (x : Result A FaultKind) (y : A) → cond b x (Err WrongSort) ≡ Ok y → x ≡ Ok y
passed true x y e = e
passed false x y e = absurd cc

abbrev mono : ℕ → Term → Mono
mono n t = record { coeff = n; term = t }

mono_named : (ns more : Names) (kind : Magnitude) → Keeps ns more → (r : RawMono) (m : Mono) → mono_in ns kind r ≡ Ok m → raw_mono more m ≡ r
unfolding mono_in
mono_named ns more kind k r m e =
    let p = passed (same_kind (kind_of_raw r.term) kind) (term_in ns r.term >>= λ t. read_ok (mono r.coeff t)) m e in
    let t = bind_ok (term_in ns r.term) (λ t. read_ok (mono r.coeff t)) m p in
    ap (raw_mono more) (sym (ok_is (mono r.coeff t.0) m t.2)) ∙ ap (λ (x : RawTerm). record r { term = x }) (term_named ns more r.term t.0 k t.1)

-- two sums
record SumsNamed (more : Names) (x y : List RawMono) (p : List Mono × List Mono) : Type 0 where
  left : raw_sum more p.0 ≡ x
  right : raw_sum more p.1 ≡ y

abbrev sums : List Mono → List Mono → List Mono × List Mono
sums x y = (x, y)

sums_named : (ns more : Names) (x y : List RawMono) (p : List Mono × List Mono) → Keeps ns more → sums_in ns x y ≡ Ok p → SumsNamed more x y p
unfolding sums_in
sums_named ns more x y p k e =
    let kind = first_kind x y in
    let a = bind_ok (each (mono_in ns kind) x) (λ a. each (mono_in ns kind) y >>= λ b. read_ok (sums a b)) p e in
    let b = bind_ok (each (mono_in ns kind) y) (λ b. read_ok (sums a.0 b)) p a.2 in
    subst (λ (q : List Mono × List Mono). SumsNamed more x y q) (ok_is (sums a.0 b.0) p b.2)
    (record { left = each_back (mono_in ns kind) (raw_mono more) (mono_named ns more kind k) x a.0 a.1; right = each_back (mono_in ns kind) (raw_mono more) (mono_named ns more kind k) y b.0 b.1 })

-- ---- atoms, with their signs

-- the atom with its sign is spelled as it was read
abbrev Spells : Names → Bool → RawAtom → Atom → Type 0
Spells more neg r a = raw_signed more (negated_in r neg) a ≡ lit_with_neg neg r

to : (more : Names) (neg : Bool) (r : RawAtom) (x a : Atom) → Spells more neg r x → read_ok x ≡ Ok a → Spells more neg r a
to more neg r x a h e = subst (λ (y : Atom). Spells more neg r y) (ok_is x a e) h

abbrev is_less_atom : Atom → Bool
is_less_atom (atoms.MagLt x y) = true
is_less_atom a = false

plainly : (more : Names) (neg : Bool) (a : Atom) → is_less_atom a ≡ false → raw_signed more neg a ≡ lit_with_neg neg (raw_atom more a)
plainly more false a h = refl
plainly more true (atoms.MagLt x y) h = absurd cc
plainly more true a h = refl

-- an atom that is no comparison
other : (more : Names) (neg : Bool) (r : RawAtom) (x a : Atom) → is_less_atom x ≡ false → is_at_most r ≡ false → raw_atom more x ≡ r → read_ok x ≡ Ok a → Spells more neg r a
other more neg r x a hx hr h e = to more neg r x a (same_sign r hr (plainly more neg x hx ∙ ap (lit_with_neg neg) h)) e
  where
    same_sign : (r : RawAtom) → is_at_most r ≡ false → raw_signed more neg x ≡ lit_with_neg neg r → Spells more neg r x
    same_sign (raw.SumsAtMost x y) hr h = absurd cc
    same_sign r hr h = h

on_named : (more : Names) (neg : Bool) (p : ℕ) (o : Obj) (x y : List ℕ) (a : Atom) → name_at more.points p ≡ x → name_of_object more o ≡ y → on_sort p o.sort o.num ≡ Ok a → Spells more neg (raw.On x y) a
on_named more neg p o x y a hx hy e = by_sort o.sort o.num hy e
  where
    by_sort : (t : Sort) (m : ℕ) → name_of_object more (obj t m) ≡ y → on_sort p t m ≡ Ok a → Spells more neg (raw.On x y) a
    by_sort Point m h e = absurd cc
    by_sort Line m h e = other more neg (raw.On x y) (atoms.On p m) a refl refl (rw (hx, h) refl) e
    by_sort Circle m h e = other more neg (raw.On x y) (atoms.OnC p m) a refl refl (rw (hx, h) refl) e

line_named : (more : Names) (neg : Bool) (l : ℕ) (t : Sort) (m : ℕ) (x y : List ℕ) (a : Atom) → name_at more.lines l ≡ x → name_of_object more (obj t m) ≡ y → line_meets l t m ≡ Ok a → Spells more neg (raw.Meets x y) a
line_named more neg l Point m x y a hx hy e = absurd cc
line_named more neg l Line m x y a hx hy e = other more neg (raw.Meets x y) (atoms.MeetLL l m) a refl refl (rw (hx, hy) refl) e
line_named more neg l Circle m x y a hx hy e = other more neg (raw.Meets x y) (atoms.MeetLC l m) a refl refl (rw (hx, hy) refl) e

meets_named : (ns more : Names) (neg : Bool) (t : Sort) (n : ℕ) (x y : List ℕ) (a : Atom) → Keeps ns more → name_of_object more (obj t n) ≡ x → meets_from ns t n y ≡ Ok a → Spells more neg (raw.Meets x y) a
meets_named ns more neg Point n x y a k h e = absurd cc
meets_named ns more neg Line n x y a k h e =
    let o = bind_ok (used_object ns y) (λ o. line_meets n o.sort o.num) a e in
    line_named more neg n o.0.sort o.0.num x y a h (used_named ns more y o.0 k o.1) o.2
meets_named ns more neg Circle n x y a k h e =
    let c = bind_ok (number_of_name ns Circle y) (λ c. read_ok (atoms.MeetCC n c)) a e in
    other more neg (raw.Meets x y) (atoms.MeetCC n c.0) a refl refl (rw (h, number_named ns more Circle y c.0 k c.1) refl) c.2

equal_named : (more : Names) (neg : Bool) (t : Sort) (m n : ℕ) (x y : List ℕ) (a : Atom) → name_of_object more (obj t m) ≡ x → name_of_object more (obj t n) ≡ y → read_ok (equal_at t m n) ≡ Ok a → Spells more neg (raw.Equal x y) a
equal_named more neg Point m n x y a hx hy e = other more neg (raw.Equal x y) (atoms.EqP m n) a refl refl (rw (hx, hy) refl) e
equal_named more neg Line m n x y a hx hy e = other more neg (raw.Equal x y) (atoms.EqL m n) a refl refl (rw (hx, hy) refl) e
equal_named more neg Circle m n x y a hx hy e = other more neg (raw.Equal x y) (atoms.EqC m n) a refl refl (rw (hx, hy) refl) e

-- a sign that may be written: a negation stands before neither < nor <=
abbrev may_stand : Bool → RawAtom → Bool
may_stand neg r = not (neg && is_less r) && not (neg && is_at_most r)

atom_named : (ns more : Names) (neg : Bool) (r : RawAtom) (a : Atom) → Keeps ns more → may_stand neg r ≡ true → atom_in ns r ≡ Ok a → Spells more neg r a
unfolding atom_in
atom_named ns more neg (raw.On x y) a k d e =
    let p = bind_ok (number_of_name ns Point x) (λ p. used_object ns y >>= λ o. on_sort p o.sort o.num) a e in
    let o = bind_ok (used_object ns y) (λ o. on_sort p.0 o.sort o.num) a p.2 in
    on_named more neg p.0 o.0 x y a (number_named ns more Point x p.0 k p.1) (used_named ns more y o.0 k o.1) o.2
atom_named ns more neg (raw.Inside x y) a k d e =
    let p = bind_ok (number_of_name ns Point x) (λ p. number_of_name ns Circle y >>= λ c. read_ok (atoms.Inside p c)) a e in
    let c = bind_ok (number_of_name ns Circle y) (λ c. read_ok (atoms.Inside p.0 c)) a p.2 in
    other more neg (raw.Inside x y) (atoms.Inside p.0 c.0) a refl refl (rw (number_named ns more Point x p.0 k p.1, number_named ns more Circle y c.0 k c.1) refl) c.2
atom_named ns more neg (raw.Center x y) a k d e =
    let p = bind_ok (number_of_name ns Point x) (λ p. number_of_name ns Circle y >>= λ c. read_ok (atoms.Center p c)) a e in
    let c = bind_ok (number_of_name ns Circle y) (λ c. read_ok (atoms.Center p.0 c)) a p.2 in
    other more neg (raw.Center x y) (atoms.Center p.0 c.0) a refl refl (rw (number_named ns more Point x p.0 k p.1, number_named ns more Circle y c.0 k c.1) refl) c.2
atom_named ns more neg (raw.Between x y z) a k d e =
    let p = bind_ok (number_of_name ns Point x) (λ p. number_of_name ns Point y >>= λ q. number_of_name ns Point z >>= λ r. read_ok (atoms.Between p q r)) a e in
    let q = bind_ok (number_of_name ns Point y) (λ q. number_of_name ns Point z >>= λ r. read_ok (atoms.Between p.0 q r)) a p.2 in
    let r = bind_ok (number_of_name ns Point z) (λ r. read_ok (atoms.Between p.0 q.0 r)) a q.2 in
    other more neg (raw.Between x y z) (atoms.Between p.0 q.0 r.0) a refl refl
    (rw (number_named ns more Point x p.0 k p.1, number_named ns more Point y q.0 k q.1, number_named ns more Point z r.0 k r.1) refl) r.2
atom_named ns more neg (raw.Same x y z) a k d e =
    let p = bind_ok (number_of_name ns Point x) (λ p. number_of_name ns Point y >>= λ q. number_of_name ns Line z >>= λ r. read_ok (atoms.Same p q r)) a e in
    let q = bind_ok (number_of_name ns Point y) (λ q. number_of_name ns Line z >>= λ r. read_ok (atoms.Same p.0 q r)) a p.2 in
    let r = bind_ok (number_of_name ns Line z) (λ r. read_ok (atoms.Same p.0 q.0 r)) a q.2 in
    other more neg (raw.Same x y z) (atoms.Same p.0 q.0 r.0) a refl refl
    (rw (number_named ns more Point x p.0 k p.1, number_named ns more Point y q.0 k q.1, number_named ns more Line z r.0 k r.1) refl) r.2
atom_named ns more neg (raw.Meets x y) a k d e =
    let o = bind_ok (used_object ns x) (λ o. meets_from ns o.sort o.num y) a e in
    meets_named ns more neg o.0.sort o.0.num x y a k (used_named ns more x o.0 k o.1) o.2
atom_named ns more neg (raw.Equal x y) a k d e =
    let o = bind_ok (used_object ns x) (λ o. number_of_name ns o.sort y >>= λ n. read_ok (equal_at o.sort o.num n)) a e in
    let n = bind_ok (number_of_name ns o.0.sort y) (λ n. read_ok (equal_at o.0.sort o.0.num n)) a o.2 in
    equal_named more neg o.0.sort o.0.num n.0 x y a (used_named ns more x o.0 k o.1) (number_named ns more o.0.sort y n.0 k n.1) n.2
atom_named ns more neg (raw.SumsEqual x y) a k d e =
    let p = bind_ok (sums_in ns x y) (λ p. read_ok (atoms.MagEq p.0 p.1)) a e in
    let s = sums_named ns more x y p.0 k p.1 in
    other more neg (raw.SumsEqual x y) (atoms.MagEq p.0.0 p.0.1) a refl refl (rw (s.left, s.right) refl) p.2
atom_named ns more true (raw.SumsLess x y) a k d e = absurd cc
atom_named ns more false (raw.SumsLess x y) a k d e =
    let p = bind_ok (sums_in ns x y) (λ p. read_ok (atoms.MagLt p.0 p.1)) a e in
    let s = sums_named ns more x y p.0 k p.1 in
    to more false (raw.SumsLess x y) (atoms.MagLt p.0.0 p.0.1) a (rw (s.left, s.right) refl) p.2
atom_named ns more true (raw.SumsAtMost x y) a k d e = absurd cc
atom_named ns more false (raw.SumsAtMost x y) a k d e =
    let p = bind_ok (sums_in ns x y) (λ p. read_ok (atoms.MagLt p.1 p.0)) a e in
    let s = sums_named ns more x y p.0 k p.1 in
    to more false (raw.SumsAtMost x y) (atoms.MagLt p.0.1 p.0.0) a (rw (s.left, s.right) refl) p.2

-- ---- literals

-- a negation stands before neither < nor <=
abbrev pub Canonical : RawLit → Type 0
Canonical r = may_stand r.neg r.atom ≡ true

pub canonical : (r : RawLit) → is_canonical_lit r ≡ true → Signed r → Canonical r
canonical r d s = rw (d, s) refl

diagram_stands : (neg : Bool) (r : RawAtom) → is_diagram_raw r ≡ true → may_stand neg r ≡ true
diagram_stands neg (raw.SumsEqual x y) d = absurd cc
diagram_stands neg (raw.SumsLess x y) d = absurd cc
diagram_stands neg (raw.SumsAtMost x y) d = absurd cc
diagram_stands true r d = refl
diagram_stands false r d = refl

-- a literal of diagrams compares no sums
pub diagram_canonical : (r : RawLit) → is_diagram_raw r.atom ≡ true → Canonical r
diagram_canonical r d = diagram_stands r.neg r.atom d

abbrev lit : Bool → Atom → Lit
lit neg a = record { neg = neg; atom = a }

-- a literal that is read
pub lit_named : (ns more : Names) (r : RawLit) (l : Lit) → Keeps ns more → Canonical r → lit_in ns r ≡ Ok l → raw_of more l ≡ r
unfolding lit_in
lit_named ns more r l k d e =
    let a = bind_ok (atom_in ns r.atom) (λ a. read_ok (lit (negated_in r.atom r.neg) a)) l e in
    ap (raw_of more) (sym (ok_is (lit (negated_in r.atom r.neg) a.0) l a.2)) ∙ atom_named ns more r.neg r.atom a.0 k d a.1

-- several literals
pub lits_named : (ns more : Names) (rs : List RawLit) (ls : List Lit) → Keeps ns more → are_canonical_lits rs ≡ true → AllSigned rs → lits_in ns rs ≡ Ok ls → map (raw_of more) ls ≡ rs
lits_named ns more [] ls k d s e = ap (map (raw_of more)) (sym (ok_is [] ls e))
lits_named ns more (r ∷ rs) ls k d s e =
    let q = and_parts (is_canonical_lit r) (are_canonical_lits rs) d in
    let a = bind_ok (lit_in ns r) (λ y. each (lit_in ns) rs >>= λ ys. read_ok (y ∷ ys)) ls e in
    let b = bind_ok (each (lit_in ns) rs) (λ ys. read_ok (a.0 ∷ ys)) ls a.2 in
    ap (map (raw_of more)) (sym (ok_is (a.0 ∷ b.0) ls b.2)) ∙ rw (lit_named ns more r a.0 k (canonical r q.0 s.0) a.1, lits_named ns more rs b.0 k q.1 s.1 b.1) refl
