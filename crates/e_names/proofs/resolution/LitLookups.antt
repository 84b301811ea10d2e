-- A literal with the names of its objects is read as that literal.
use Rattle.std.proofs.Common.{◌≡◌, ℕ, ◌+◌, ◌≤◌, Bool, true, false, leb, ◌&&◌, List, [], ◌∷◌, length, Ok, refl, sym, ap, ◌∙◌, arith}
use Rattle.std.specs.Prelude.{◌==◌}
use Rattle.std.specs.List.{list_all}
use Rattle.std.proofs.lemmas.Bool.{leb-true, and_parts}
use Rattle.std.proofs.lemmas.Bool.Decides.{nat_tests}
use Rattle.std.proofs.lemmas.List.{length-map}
use Rattle.std.proofs.lemmas.List.Folds.{list_all-append}
use Rattle.e_literal.specs.declared.object.Sort.TheVariants.{Point, Line, Circle}
use Rattle.e_literal.specs.declared.object.Obj.{Obj}
use Rattle.e_literal.specs.declared.object.Kind.{Kind as Magnitude}
use Rattle.e_literal.specs.declared.object.Term.{Term}
use Rattle.e_literal.specs.declared.object.Term.TheVariants as terms
use Rattle.e_literal.specs.declared.object.Mono.{Mono}
use Rattle.e_literal.specs.declared.literal.Atom.{Atom}
use Rattle.e_literal.specs.declared.literal.Atom.TheVariants as atoms
use Rattle.e_literal.specs.declared.literal.Lit.{Lit}
use Rattle.e_literal.specs.Literal.{obj, is_in_scope, kind_of_term, kind_of_sums, objects_of_term, objects_of_sum, objects_of_atom, all_in_scope}
use Rattle.e_literal.specs.WellFormed.{same_kind, is_bounded_coefficient, is_well_formed_atom, is_well_formed}
use Rattle.e_deriv.specs.declared.names.Names.{Names}
use Rattle.e_line.specs.declared.literal.RawAtom.TheVariants as raw
use Rattle.e_line.specs.Literals.{is_diagram_raw}
use Rattle.e_line.specs.Limits.{most_coefficient}
use Rattle.e_line.specs.Reading.{each}
use Rattle.e_names.specs.Scope.{scope_of_names, term_in, kind_of_raw, first_kind, mono_in, sums_in, atom_in, lit_in}
use Rattle.e_names.specs.Canonical.{raw_term, raw_mono, raw_sum, raw_atom, raw_signed, raw_of}
use Rattle.e_names.specs.Fits.{is_diagram_atom, is_diagram_lit}
use Rattle.e_line.proofs.read_again.SumsAgain.{TermNamed, SumNamed}
use Rattle.e_line.proofs.read_again.LitsAgain.{SidesNamed, AtomNamed, LitNamed}
use Rattle.e_names.proofs.literals.ComparedSums.{is_bounded_mono, AreBounded, GoodSums, good_sums, kind_is, turned}
use Rattle.e_names.proofs.resolution.Lookups.{InOrder, Within, used_again, number_again, named_at}
use Rattle.e_names.proofs.literals.Diagrams.{good_diagram}

-- ---- objects of a literal

abbrev AtomWithin : Names → Atom → Type 0
AtomWithin ns a = list_all (is_in_scope (scope_of_names ns)) (objects_of_atom a) ≡ true

pub two : (ns : Names) (a b : Obj) → list_all (is_in_scope (scope_of_names ns)) (a ∷ b ∷ []) ≡ true → Within ns a.sort a.num × Within ns b.sort b.num
two ns a b h =
    let s = scope_of_names ns in
    let p = and_parts (is_in_scope s a) (is_in_scope s b && true) h in
    (p.0, (and_parts (is_in_scope s b) true p.1).0)

pub three : (ns : Names) (a b c : Obj) → list_all (is_in_scope (scope_of_names ns)) (a ∷ b ∷ c ∷ []) ≡ true → Within ns a.sort a.num × Within ns b.sort b.num × Within ns c.sort c.num
three ns a b c h =
    let s = scope_of_names ns in
    let p = and_parts (is_in_scope s a) (is_in_scope s b && (is_in_scope s c && true)) h in
    let q = two ns b c p.1 in
    (p.0, q.0, q.1)

-- ---- sums

abbrev pub TermWithin : Names → Term → Type 0
TermWithin ns t = list_all (is_in_scope (scope_of_names ns)) (objects_of_term t) ≡ true

abbrev SumWithin : Names → List Mono → Type 0
SumWithin ns ms = list_all (is_in_scope (scope_of_names ns)) (objects_of_sum ms) ≡ true

term_number_again : (ns : Names) (t : Term) → InOrder ns → TermWithin ns t → term_in ns (raw_term ns t) ≡ Ok t
unfolding term_in
term_number_again ns (terms.Seg a b) s h = let t = two ns (obj Point a) (obj Point b) h in rw (number_again ns Point a s t.0, number_again ns Point b s t.1) refl
term_number_again ns (terms.Ang a b c) s h = let t = three ns (obj Point a) (obj Point b) (obj Point c) h in rw (number_again ns Point a s t.0, number_again ns Point b s t.1, number_again ns Point c s t.2) refl
term_number_again ns (terms.Area a b c) s h = let t = three ns (obj Point a) (obj Point b) (obj Point c) h in rw (number_again ns Point a s t.0, number_again ns Point b s t.1, number_again ns Point c s t.2) refl
term_number_again ns terms.Right s h = refl

term_named : (ns : Names) (t : Term) → InOrder ns → TermWithin ns t → TermNamed (raw_term ns t)
term_named ns (terms.Seg a b) s h = let t = two ns (obj Point a) (obj Point b) h in (named_at ns Point a s t.0, named_at ns Point b s t.1)
term_named ns (terms.Ang a b c) s h = let t = three ns (obj Point a) (obj Point b) (obj Point c) h in (named_at ns Point a s t.0, named_at ns Point b s t.1, named_at ns Point c s t.2)
term_named ns (terms.Area a b c) s h = let t = three ns (obj Point a) (obj Point b) (obj Point c) h in (named_at ns Point a s t.0, named_at ns Point b s t.1, named_at ns Point c s t.2)
term_named ns terms.Right s h = tt

pub raw_kind : (ns : Names) (t : Term) → kind_of_raw (raw_term ns t) ≡ kind_of_term t
raw_kind ns (terms.Seg a b) = refl
raw_kind ns (terms.Ang a b c) = refl
raw_kind ns (terms.Area a b c) = refl
raw_kind ns terms.Right = refl

first_raw_kind : (ns : Names) (x y : List Mono) → first_kind (raw_sum ns x) (raw_sum ns y) ≡ kind_of_sums x y
first_raw_kind ns (m ∷ xs) y = raw_kind ns m.term
first_raw_kind ns [] (m ∷ ys) = raw_kind ns m.term
first_raw_kind ns [] [] = refl

-- the first monomial and the others
record First (ns : Names) (k : Magnitude) (m : Mono) (ms : List Mono) : Type 0 where
  kind : same_kind (kind_of_term m.term) k ≡ true
  coeff : is_bounded_coefficient m.coeff ≡ true
  good : AreBounded k ms
  here : TermWithin ns m.term
  within : SumWithin ns ms

first_of : (ns : Names) (k : Magnitude) (m : Mono) (ms : List Mono) → AreBounded k (m ∷ ms) → SumWithin ns (m ∷ ms) → First ns k m ms
first_of ns k m ms g w =
    let s = scope_of_names ns in
    let p = and_parts (is_bounded_mono k m) (list_all (is_bounded_mono k) ms) g in
    let q = and_parts (same_kind (kind_of_term m.term) k) (is_bounded_coefficient m.coeff) p.0 in
    let r = and_parts (list_all (is_in_scope s) (objects_of_term m.term)) (list_all (is_in_scope s) (objects_of_sum ms)) (sym (list_all-append (is_in_scope s) (objects_of_term m.term) (objects_of_sum ms)) ∙ w) in
    record { kind = q.0; coeff = q.1; good = p.1; here = r.0; within = r.1 }

mono_number_again : (ns : Names) (k : Magnitude) (m : Mono) → InOrder ns → same_kind (kind_of_term m.term) k ≡ true → TermWithin ns m.term → mono_in ns k (raw_mono ns m) ≡ Ok m
unfolding mono_in
mono_number_again ns k m o s h =
    let kind : same_kind (kind_of_raw (raw_term ns m.term)) k ≡ true = ap (λ (z : Magnitude). same_kind z k) (raw_kind ns m.term) ∙ s in
    rw (kind, term_number_again ns m.term o h) refl

sum_number_again : (ns : Names) (k : Magnitude) (ms : List Mono) → InOrder ns → AreBounded k ms → SumWithin ns ms → each (mono_in ns k) (raw_sum ns ms) ≡ Ok ms
sum_number_again ns k [] o g w = refl
sum_number_again ns k (m ∷ ms) o g w =
    let f = first_of ns k m ms g w in rw (mono_number_again ns k m o f.kind f.here, sum_number_again ns k ms o f.good f.within) refl

sum_named : (ns : Names) (k : Magnitude) (ms : List Mono) → InOrder ns → AreBounded k ms → SumWithin ns ms → SumNamed (raw_sum ns ms)
sum_named ns k [] o g w = tt
sum_named ns k (m ∷ ms) o g w =
    let f = first_of ns k m ms g w in
    let c = and_parts (leb 1 m.coeff) (leb m.coeff most_coefficient) f.coeff in
    (record { term = term_named ns m.term o f.here; some = leb-true 1 m.coeff c.0; small = leb-true m.coeff most_coefficient c.1 }, sum_named ns k ms o f.good f.within)

sums_number_again : (ns : Names) (k : Magnitude) (x y : List Mono) → InOrder ns → GoodSums k x y → SumWithin ns x → SumWithin ns y → sums_in ns (raw_sum ns x) (raw_sum ns y) ≡ Ok (x, y)
unfolding sums_in
sums_number_again ns k x y o g wx wy =
    let is : first_kind (raw_sum ns x) (raw_sum ns y) ≡ k = first_raw_kind ns x y ∙ kind_is k x y g in
    rw (is, sum_number_again ns k x o g.left wx, sum_number_again ns k y o g.right wy) refl

none_by : (m n : ℕ) → 1 ≤ m + n → (m == 0 && n == 0) ≡ false
none_by m n h = grind (arith, nat_tests)

sides_named : (ns : Names) (k : Magnitude) (x y : List Mono) → InOrder ns → GoodSums k x y → SumWithin ns x → SumWithin ns y → SidesNamed (raw_sum ns x) (raw_sum ns y)
sides_named ns k x y o g wx wy = record {
  left = sum_named ns k x o g.left wx;
  right = sum_named ns k y o g.right wy;
  some = none_by (length (raw_sum ns x)) (length (raw_sum ns y)) (omega (arith, g.some, length-map x (raw_mono ns), length-map y (raw_mono ns)));
}

sides_within : (ns : Names) (x y : List Mono) → AtomWithin ns (atoms.MagEq x y) → SumWithin ns x × SumWithin ns y
sides_within ns x y h =
    let s = scope_of_names ns in
    and_parts (list_all (is_in_scope s) (objects_of_sum x)) (list_all (is_in_scope s) (objects_of_sum y)) (sym (list_all-append (is_in_scope s) (objects_of_sum x) (objects_of_sum y)) ∙ h)

-- ---- literals

atom_number_again : (ns : Names) (a : Atom) → InOrder ns → AtomWithin ns a → is_well_formed_atom a ≡ true → atom_in ns (raw_atom ns a) ≡ Ok a
unfolding atom_in
atom_number_again ns (atoms.On a l) s h d = let t = two ns (obj Point a) (obj Line l) h in rw (number_again ns Point a s t.0, used_again ns Line l s t.1) refl
atom_number_again ns (atoms.OnC a c) s h d = let t = two ns (obj Point a) (obj Circle c) h in rw (number_again ns Point a s t.0, used_again ns Circle c s t.1) refl
atom_number_again ns (atoms.Inside a c) s h d = let t = two ns (obj Point a) (obj Circle c) h in rw (number_again ns Point a s t.0, number_again ns Circle c s t.1) refl
atom_number_again ns (atoms.Center a c) s h d = let t = two ns (obj Point a) (obj Circle c) h in rw (number_again ns Point a s t.0, number_again ns Circle c s t.1) refl
atom_number_again ns (atoms.Between a b c) s h d = let t = three ns (obj Point a) (obj Point b) (obj Point c) h in rw (number_again ns Point a s t.0, number_again ns Point b s t.1, number_again ns Point c s t.2) refl
atom_number_again ns (atoms.Same a b l) s h d = let t = three ns (obj Point a) (obj Point b) (obj Line l) h in rw (number_again ns Point a s t.0, number_again ns Point b s t.1, number_again ns Line l s t.2) refl
atom_number_again ns (atoms.MeetLL l m) s h d = let t = two ns (obj Line l) (obj Line m) h in rw (used_again ns Line l s t.0, used_again ns Line m s t.1) refl
atom_number_again ns (atoms.MeetLC l c) s h d = let t = two ns (obj Line l) (obj Circle c) h in rw (used_again ns Line l s t.0, used_again ns Circle c s t.1) refl
atom_number_again ns (atoms.MeetCC c e) s h d = let t = two ns (obj Circle c) (obj Circle e) h in rw (used_again ns Circle c s t.0, number_again ns Circle e s t.1) refl
atom_number_again ns (atoms.EqP a b) s h d = let t = two ns (obj Point a) (obj Point b) h in rw (used_again ns Point a s t.0, number_again ns Point b s t.1) refl
atom_number_again ns (atoms.EqL l m) s h d = let t = two ns (obj Line l) (obj Line m) h in rw (used_again ns Line l s t.0, number_again ns Line m s t.1) refl
atom_number_again ns (atoms.EqC c e) s h d = let t = two ns (obj Circle c) (obj Circle e) h in rw (used_again ns Circle c s t.0, number_again ns Circle e s t.1) refl
atom_number_again ns (atoms.MagEq x y) s h d = let w = sides_within ns x y h in rw (sums_number_again ns (kind_of_sums x y) x y s (good_sums x y d) w.0 w.1) refl
atom_number_again ns (atoms.MagLt x y) s h d = let w = sides_within ns x y h in rw (sums_number_again ns (kind_of_sums x y) x y s (good_sums x y d) w.0 w.1) refl

abbrev lit : Bool → Atom → Lit
lit neg a = record { neg = neg; atom = a }

at_most_again : (ns : Names) (k : Magnitude) (x y : List Mono) → InOrder ns → GoodSums k y x → SumWithin ns y → SumWithin ns x
    → lit_in ns (record { neg = false; atom = raw.SumsAtMost (raw_sum ns y) (raw_sum ns x) }) ≡ Ok (lit true (atoms.MagLt x y))
unfolding lit_in atom_in
at_most_again ns k x y s g wy wx = rw (sums_number_again ns k y x s g wy wx) refl

plain_number_again : (ns : Names) (neg : Bool) (a : Atom) → InOrder ns → AtomWithin ns a → is_well_formed_atom a ≡ true → lit_in ns (raw_signed ns neg a) ≡ Ok (lit neg a)
unfolding lit_in
plain_number_again ns false (atoms.On a l) s h d = rw (atom_number_again ns (atoms.On a l) s h d) refl
plain_number_again ns true (atoms.On a l) s h d = rw (atom_number_again ns (atoms.On a l) s h d) refl
plain_number_again ns false (atoms.OnC a c) s h d = rw (atom_number_again ns (atoms.OnC a c) s h d) refl
plain_number_again ns true (atoms.OnC a c) s h d = rw (atom_number_again ns (atoms.OnC a c) s h d) refl
plain_number_again ns false (atoms.Inside a c) s h d = rw (atom_number_again ns (atoms.Inside a c) s h d) refl
plain_number_again ns true (atoms.Inside a c) s h d = rw (atom_number_again ns (atoms.Inside a c) s h d) refl
plain_number_again ns false (atoms.Center a c) s h d = rw (atom_number_again ns (atoms.Center a c) s h d) refl
plain_number_again ns true (atoms.Center a c) s h d = rw (atom_number_again ns (atoms.Center a c) s h d) refl
plain_number_again ns false (atoms.Between a b c) s h d = rw (atom_number_again ns (atoms.Between a b c) s h d) refl
plain_number_again ns true (atoms.Between a b c) s h d = rw (atom_number_again ns (atoms.Between a b c) s h d) refl
plain_number_again ns false (atoms.Same a b l) s h d = rw (atom_number_again ns (atoms.Same a b l) s h d) refl
plain_number_again ns true (atoms.Same a b l) s h d = rw (atom_number_again ns (atoms.Same a b l) s h d) refl
plain_number_again ns false (atoms.MeetLL l m) s h d = rw (atom_number_again ns (atoms.MeetLL l m) s h d) refl
plain_number_again ns true (atoms.MeetLL l m) s h d = rw (atom_number_again ns (atoms.MeetLL l m) s h d) refl
plain_number_again ns false (atoms.MeetLC l c) s h d = rw (atom_number_again ns (atoms.MeetLC l c) s h d) refl
plain_number_again ns true (atoms.MeetLC l c) s h d = rw (atom_number_again ns (atoms.MeetLC l c) s h d) refl
plain_number_again ns false (atoms.MeetCC c e) s h d = rw (atom_number_again ns (atoms.MeetCC c e) s h d) refl
plain_number_again ns true (atoms.MeetCC c e) s h d = rw (atom_number_again ns (atoms.MeetCC c e) s h d) refl
plain_number_again ns false (atoms.EqP a b) s h d = rw (atom_number_again ns (atoms.EqP a b) s h d) refl
plain_number_again ns true (atoms.EqP a b) s h d = rw (atom_number_again ns (atoms.EqP a b) s h d) refl
plain_number_again ns false (atoms.EqL l m) s h d = rw (atom_number_again ns (atoms.EqL l m) s h d) refl
plain_number_again ns true (atoms.EqL l m) s h d = rw (atom_number_again ns (atoms.EqL l m) s h d) refl
plain_number_again ns false (atoms.EqC c e) s h d = rw (atom_number_again ns (atoms.EqC c e) s h d) refl
plain_number_again ns true (atoms.EqC c e) s h d = rw (atom_number_again ns (atoms.EqC c e) s h d) refl
plain_number_again ns false (atoms.MagEq x y) s h d = rw (atom_number_again ns (atoms.MagEq x y) s h d) refl
plain_number_again ns true (atoms.MagEq x y) s h d = rw (atom_number_again ns (atoms.MagEq x y) s h d) refl
plain_number_again ns false (atoms.MagLt x y) s h d = rw (atom_number_again ns (atoms.MagLt x y) s h d) refl
plain_number_again ns true (atoms.MagLt x y) s h d =
    let k = kind_of_sums x y in
    let w = sides_within ns x y h in
    at_most_again ns k x y s (turned k x y (good_sums x y d)) w.1 w.0

pub lit_number_again : (ns : Names) (l : Lit) → InOrder ns → all_in_scope (scope_of_names ns) l ≡ true → is_well_formed l ≡ true → lit_in ns (raw_of ns l) ≡ Ok l
lit_number_again ns l s h d = plain_number_again ns l.neg l.atom s h d

atom_named : (ns : Names) (a : Atom) → InOrder ns → AtomWithin ns a → is_well_formed_atom a ≡ true → AtomNamed (raw_atom ns a)
atom_named ns (atoms.On a l) s h d = let t = two ns (obj Point a) (obj Line l) h in (named_at ns Point a s t.0, named_at ns Line l s t.1)
atom_named ns (atoms.OnC a c) s h d = let t = two ns (obj Point a) (obj Circle c) h in (named_at ns Point a s t.0, named_at ns Circle c s t.1)
atom_named ns (atoms.Inside a c) s h d = let t = two ns (obj Point a) (obj Circle c) h in (named_at ns Point a s t.0, named_at ns Circle c s t.1)
atom_named ns (atoms.Center a c) s h d = let t = two ns (obj Point a) (obj Circle c) h in (named_at ns Point a s t.0, named_at ns Circle c s t.1)
atom_named ns (atoms.Between a b c) s h d = let t = three ns (obj Point a) (obj Point b) (obj Point c) h in (named_at ns Point a s t.0, named_at ns Point b s t.1, named_at ns Point c s t.2)
atom_named ns (atoms.Same a b l) s h d = let t = three ns (obj Point a) (obj Point b) (obj Line l) h in (named_at ns Point a s t.0, named_at ns Point b s t.1, named_at ns Line l s t.2)
atom_named ns (atoms.MeetLL l m) s h d = let t = two ns (obj Line l) (obj Line m) h in (named_at ns Line l s t.0, named_at ns Line m s t.1)
atom_named ns (atoms.MeetLC l c) s h d = let t = two ns (obj Line l) (obj Circle c) h in (named_at ns Line l s t.0, named_at ns Circle c s t.1)
atom_named ns (atoms.MeetCC c e) s h d = let t = two ns (obj Circle c) (obj Circle e) h in (named_at ns Circle c s t.0, named_at ns Circle e s t.1)
atom_named ns (atoms.EqP a b) s h d = let t = two ns (obj Point a) (obj Point b) h in (named_at ns Point a s t.0, named_at ns Point b s t.1)
atom_named ns (atoms.EqL l m) s h d = let t = two ns (obj Line l) (obj Line m) h in (named_at ns Line l s t.0, named_at ns Line m s t.1)
atom_named ns (atoms.EqC c e) s h d = let t = two ns (obj Circle c) (obj Circle e) h in (named_at ns Circle c s t.0, named_at ns Circle e s t.1)
atom_named ns (atoms.MagEq x y) s h d = let w = sides_within ns x y h in sides_named ns (kind_of_sums x y) x y s (good_sums x y d) w.0 w.1
atom_named ns (atoms.MagLt x y) s h d = let w = sides_within ns x y h in sides_named ns (kind_of_sums x y) x y s (good_sums x y d) w.0 w.1

signed_named : (ns : Names) (neg : Bool) (a : Atom) → InOrder ns → AtomWithin ns a → is_well_formed_atom a ≡ true → LitNamed (raw_signed ns neg a)
signed_named ns false (atoms.On a l) s h d = record { atom = atom_named ns (atoms.On a l) s h d; sign = tt }
signed_named ns true (atoms.On a l) s h d = record { atom = atom_named ns (atoms.On a l) s h d; sign = tt }
signed_named ns false (atoms.OnC a c) s h d = record { atom = atom_named ns (atoms.OnC a c) s h d; sign = tt }
signed_named ns true (atoms.OnC a c) s h d = record { atom = atom_named ns (atoms.OnC a c) s h d; sign = tt }
signed_named ns false (atoms.Inside a c) s h d = record { atom = atom_named ns (atoms.Inside a c) s h d; sign = tt }
signed_named ns true (atoms.Inside a c) s h d = record { atom = atom_named ns (atoms.Inside a c) s h d; sign = tt }
signed_named ns false (atoms.Center a c) s h d = record { atom = atom_named ns (atoms.Center a c) s h d; sign = tt }
signed_named ns true (atoms.Center a c) s h d = record { atom = atom_named ns (atoms.Center a c) s h d; sign = tt }
signed_named ns false (atoms.Between a b c) s h d = record { atom = atom_named ns (atoms.Between a b c) s h d; sign = tt }
signed_named ns true (atoms.Between a b c) s h d = record { atom = atom_named ns (atoms.Between a b c) s h d; sign = tt }
signed_named ns false (atoms.Same a b l) s h d = record { atom = atom_named ns (atoms.Same a b l) s h d; sign = tt }
signed_named ns true (atoms.Same a b l) s h d = record { atom = atom_named ns (atoms.Same a b l) s h d; sign = tt }
signed_named ns false (atoms.MeetLL l m) s h d = record { atom = atom_named ns (atoms.MeetLL l m) s h d; sign = tt }
signed_named ns true (atoms.MeetLL l m) s h d = record { atom = atom_named ns (atoms.MeetLL l m) s h d; sign = tt }
signed_named ns false (atoms.MeetLC l c) s h d = record { atom = atom_named ns (atoms.MeetLC l c) s h d; sign = tt }
signed_named ns true (atoms.MeetLC l c) s h d = record { atom = atom_named ns (atoms.MeetLC l c) s h d; sign = tt }
signed_named ns false (atoms.MeetCC c e) s h d = record { atom = atom_named ns (atoms.MeetCC c e) s h d; sign = tt }
signed_named ns true (atoms.MeetCC c e) s h d = record { atom = atom_named ns (atoms.MeetCC c e) s h d; sign = tt }
signed_named ns false (atoms.EqP a b) s h d = record { atom = atom_named ns (atoms.EqP a b) s h d; sign = tt }
signed_named ns true (atoms.EqP a b) s h d = record { atom = atom_named ns (atoms.EqP a b) s h d; sign = tt }
signed_named ns false (atoms.EqL l m) s h d = record { atom = atom_named ns (atoms.EqL l m) s h d; sign = tt }
signed_named ns true (atoms.EqL l m) s h d = record { atom = atom_named ns (atoms.EqL l m) s h d; sign = tt }
signed_named ns false (atoms.EqC c e) s h d = record { atom = atom_named ns (atoms.EqC c e) s h d; sign = tt }
signed_named ns true (atoms.EqC c e) s h d = record { atom = atom_named ns (atoms.EqC c e) s h d; sign = tt }
signed_named ns false (atoms.MagEq x y) s h d = record { atom = atom_named ns (atoms.MagEq x y) s h d; sign = tt }
signed_named ns true (atoms.MagEq x y) s h d = record { atom = atom_named ns (atoms.MagEq x y) s h d; sign = tt }
signed_named ns false (atoms.MagLt x y) s h d = record { atom = atom_named ns (atoms.MagLt x y) s h d; sign = tt }
signed_named ns true (atoms.MagLt x y) s h d =
    let k = kind_of_sums x y in
    let w = sides_within ns x y h in
    record { atom = sides_named ns k y x s (turned k x y (good_sums x y d)) w.1 w.0; sign = tt }

pub lit_named : (ns : Names) (l : Lit) → InOrder ns → all_in_scope (scope_of_names ns) l ≡ true → is_well_formed l ≡ true → LitNamed (raw_of ns l)
lit_named ns l s h d = signed_named ns l.neg l.atom s h d

-- ---- literals of diagrams and of equal objects

pub diagram_is_well_formed : (l : Lit) → is_diagram_lit l ≡ true → is_well_formed l ≡ true
diagram_is_well_formed l h = good_diagram l.atom h

raw_diagram : (ns : Names) (neg : Bool) (a : Atom) → is_diagram_atom a ≡ true → is_diagram_raw (raw_signed ns neg a).atom ≡ true
raw_diagram ns neg (atoms.MagEq x y) h = absurd cc
raw_diagram ns neg (atoms.MagLt x y) h = absurd cc
raw_diagram ns true a h = refl
raw_diagram ns false a h = refl

pub diagram_is_raw : (ns : Names) (l : Lit) → is_diagram_lit l ≡ true → is_diagram_raw (raw_of ns l).atom ≡ true
diagram_is_raw ns l h = raw_diagram ns l.neg l.atom h
