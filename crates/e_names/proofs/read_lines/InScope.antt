-- What a name resolves to is in scope.
use Rattle.std.proofs.Common.{◌≡◌, ℕ, Bool, true, false, cond, ltb, ◌++◌, List, [], ◌∷◌, length, Option, Some, None, Result, Ok, Err, refl, ap, subst, ◌∙◌}
use Rattle.std.specs.List.{position, list_all}
use Rattle.std.specs.Str.{bytes_eq}
use Rattle.std.proofs.lemmas.Bool.{lt-ltb}
use Rattle.std.proofs.lemmas.List.Folds.{list_all-append}
use Rattle.std.proofs.lemmas.List.Quantifiers.{position-Some}
use Rattle.std.proofs.lemmas.Option.{same_Some}
use Rattle.e_literal.specs.declared.object.Sort.{Sort}
use Rattle.e_literal.specs.declared.object.Sort.TheVariants.{Point, Line, Circle}
use Rattle.e_literal.specs.declared.object.Obj.{Obj}
use Rattle.e_literal.specs.declared.object.Scope.{Scope}
use Rattle.e_literal.specs.declared.object.Kind.{Kind as Magnitude}
use Rattle.e_literal.specs.declared.object.Term.{Term}
use Rattle.e_literal.specs.declared.object.Term.TheVariants as terms
use Rattle.e_literal.specs.declared.object.Mono.{Mono}
use Rattle.e_literal.specs.declared.literal.Atom.{Atom}
use Rattle.e_literal.specs.declared.literal.Atom.TheVariants as atoms
use Rattle.e_literal.specs.declared.literal.Lit.{Lit}
use Rattle.e_literal.specs.Literal.{obj, count_of, is_in_scope, objects_of_term, objects_of_sum, objects_of_atom, all_in_scope}
use Rattle.e_literal.specs.WellFormed.{same_kind}
use Rattle.e_deriv.specs.declared.names.Names.{Names}
use Rattle.e_line.specs.declared.fault.FaultKind.{FaultKind}
use Rattle.e_line.specs.declared.fault.FaultKind.TheVariants.{WrongSort}
use Rattle.e_line.specs.declared.sum.RawTerm.{RawTerm}
use Rattle.e_line.specs.declared.sum.RawTerm.TheVariants as rawterms
use Rattle.e_line.specs.declared.sum.RawMono.{RawMono}
use Rattle.e_line.specs.declared.literal.RawLit.{RawLit}
use Rattle.e_line.specs.declared.literal.RawAtom.{RawAtom}
use Rattle.e_line.specs.declared.literal.RawAtom.TheVariants as raw
use Rattle.e_line.specs.Reading.{◌>>=◌, each}
use Rattle.e_names.specs.Scope.{object_at, or_else, object_in, object_of, known_object, used_object, number_of_sort, number_of_name, on_sort, line_meets, meets_from, equal_at, term_in, kind_of_raw, first_kind, mono_in, sums_in, atom_in, negated_in, lit_in, scope_of_names}
use Rattle.e_line.proofs.base.Bound.{ok_is, read_ok, bind_ok}

abbrev pub Within : Scope → Sort → ℕ → Type 0
Within s sort n = ltb n (count_of s sort) ≡ true

abbrev pub AtomWithin : Scope → Atom → Type 0
AtomWithin s a = list_all (is_in_scope s) (objects_of_atom a) ≡ true

found : (names : List (List ℕ)) (name : List ℕ) (i : ℕ) → position (λ n. bytes_eq n name) names ≡ Some i → ltb i (length names) ≡ true
found names name i e = lt-ltb i (length names) (position-Some (λ n. bytes_eq n name) names i [] e).0

at_found : (s : Scope) (sort : Sort) (p : Option ℕ) (o : Obj) → ((i : ℕ) → p ≡ Some i → Within s sort i) → object_at sort p ≡ Some o → Within s o.sort o.num
at_found s sort None o h e = absurd cc
at_found s sort (Some i) o h e = subst (λ (x : Obj). Within s x.sort x.num) (same_Some (obj sort i) o e) (h i refl)

in_found : (ns : Names) (sort : Sort) (name : List ℕ) (o : Obj) → object_in ns sort name ≡ Some o → Within (scope_of_names ns) o.sort o.num
in_found ns Point name o e = at_found (scope_of_names ns) Point (position (λ n. bytes_eq n name) ns.points) o (λ i h. found ns.points name i h) e
in_found ns Line name o e = at_found (scope_of_names ns) Line (position (λ n. bytes_eq n name) ns.lines) o (λ i h. found ns.lines name i h) e
in_found ns Circle name o e = at_found (scope_of_names ns) Circle (position (λ n. bytes_eq n name) ns.circles) o (λ i h. found ns.circles name i h) e

either_found : (s : Scope) (a b : Option Obj) (o : Obj) → (a ≡ Some o → Within s o.sort o.num) → (b ≡ Some o → Within s o.sort o.num) → or_else a b ≡ Some o → Within s o.sort o.num
either_found s (Some x) b o ha hb e = ha e
either_found s None b o ha hb e = hb e

pub known_is : (x : Option Obj) (o : Obj) → known_object x ≡ Ok o → x ≡ Some o
known_is None o e = absurd cc
known_is (Some x) o e = ap (λ (y : Obj). Some y) (ok_is x o e)

pub used_in_scope : (ns : Names) (name : List ℕ) (o : Obj) → used_object ns name ≡ Ok o → Within (scope_of_names ns) o.sort o.num
used_in_scope ns name o e =
    let s = scope_of_names ns in
    let p = object_in ns Point name in
    let l = object_in ns Line name in
    let c = object_in ns Circle name in
    either_found s p (or_else l c) o (in_found ns Point name o) (either_found s l c o (in_found ns Line name o) (in_found ns Circle name o)) (known_is (object_of ns name) o e)

of_sort : (s : Scope) (t sort : Sort) (m n : ℕ) → Within s t m → number_of_sort sort (obj t m) ≡ Ok n → Within s sort n
of_sort s Point Point m n h e = subst (λ (k : ℕ). Within s Point k) (ok_is m n e) h
of_sort s Line Line m n h e = subst (λ (k : ℕ). Within s Line k) (ok_is m n e) h
of_sort s Circle Circle m n h e = subst (λ (k : ℕ). Within s Circle k) (ok_is m n e) h
of_sort s t sort m n h e = absurd cc

pub number_in_scope : (ns : Names) (sort : Sort) (name : List ℕ) (n : ℕ) → number_of_name ns sort name ≡ Ok n → Within (scope_of_names ns) sort n
unfolding number_of_name
number_in_scope ns sort name n e =
    let a = bind_ok (used_object ns name) (λ o. number_of_sort sort o) n e in
    of_sort (scope_of_names ns) a.0.sort sort a.0.num n (used_in_scope ns name a.0 a.1) a.2

two : (s : Scope) (a b : Obj) → Within s a.sort a.num → Within s b.sort b.num → list_all (is_in_scope s) (a ∷ b ∷ []) ≡ true
two s a b ha hb = rw (ha, hb) refl

three : (s : Scope) (a b c : Obj) → Within s a.sort a.num → Within s b.sort b.num → Within s c.sort c.num → list_all (is_in_scope s) (a ∷ b ∷ c ∷ []) ≡ true
three s a b c ha hb hc = rw (ha, hb, hc) refl

to : (s : Scope) (x a : Atom) → AtomWithin s x → read_ok x ≡ Ok a → AtomWithin s a
to s x a h e = subst (λ (y : Atom). AtomWithin s y) (ok_is x a e) h

on_within : (s : Scope) (p : ℕ) (t : Sort) (m : ℕ) (a : Atom) → Within s Point p → Within s t m → on_sort p t m ≡ Ok a → AtomWithin s a
on_within s p Point m a hp hm e = absurd cc
on_within s p Line m a hp hm e = to s (atoms.On p m) a (two s (obj Point p) (obj Line m) hp hm) e
on_within s p Circle m a hp hm e = to s (atoms.OnC p m) a (two s (obj Point p) (obj Circle m) hp hm) e

line_within : (s : Scope) (l : ℕ) (t : Sort) (m : ℕ) (a : Atom) → Within s Line l → Within s t m → line_meets l t m ≡ Ok a → AtomWithin s a
line_within s l Point m a hl hm e = absurd cc
line_within s l Line m a hl hm e = to s (atoms.MeetLL l m) a (two s (obj Line l) (obj Line m) hl hm) e
line_within s l Circle m a hl hm e = to s (atoms.MeetLC l m) a (two s (obj Line l) (obj Circle m) hl hm) e

meets_within : (ns : Names) (t : Sort) (n : ℕ) (y : List ℕ) (a : Atom) → Within (scope_of_names ns) t n → meets_from ns t n y ≡ Ok a → AtomWithin (scope_of_names ns) a
meets_within ns Point n y a h e = absurd cc
meets_within ns Line n y a h e =
    let o = bind_ok (used_object ns y) (λ o. line_meets n o.sort o.num) a e in
    line_within (scope_of_names ns) n o.0.sort o.0.num a h (used_in_scope ns y o.0 o.1) o.2
meets_within ns Circle n y a h e =
    let k = bind_ok (number_of_name ns Circle y) (λ k. read_ok (atoms.MeetCC n k)) a e in
    to (scope_of_names ns) (atoms.MeetCC n k.0) a (two (scope_of_names ns) (obj Circle n) (obj Circle k.0) h (number_in_scope ns Circle y k.0 k.1)) k.2

equal_within : (s : Scope) (t : Sort) (m n : ℕ) → Within s t m → Within s t n → AtomWithin s (equal_at t m n)
equal_within s Point m n hm hn = two s (obj Point m) (obj Point n) hm hn
equal_within s Line m n hm hn = two s (obj Line m) (obj Line n) hm hn
equal_within s Circle m n hm hn = two s (obj Circle m) (obj Circle n) hm hn

-- ---- sums

abbrev pub SumWithin : Scope → List Mono → Type 0
SumWithin s ms = list_all (is_in_scope s) (objects_of_sum ms) ≡ true

abbrev pub TermWithin : Scope → Term → Type 0
TermWithin s t = list_all (is_in_scope s) (objects_of_term t) ≡ true

to_term : (s : Scope) (x t : Term) → TermWithin s x → read_ok x ≡ Ok t → TermWithin s t
to_term s x t h e = subst (λ (y : Term). TermWithin s y) (ok_is x t e) h

pub term_in_scope : (ns : Names) (r : RawTerm) (t : Term) → term_in ns r ≡ Ok t → TermWithin (scope_of_names ns) t
unfolding term_in
term_in_scope ns (rawterms.Seg x y) t e =
    let p = bind_ok (number_of_name ns Point x) (λ p. number_of_name ns Point y >>= λ q. read_ok (terms.Seg p q)) t e in
    let q = bind_ok (number_of_name ns Point y) (λ q. read_ok (terms.Seg p.0 q)) t p.2 in
    to_term (scope_of_names ns) (terms.Seg p.0 q.0) t (two (scope_of_names ns) (obj Point p.0) (obj Point q.0) (number_in_scope ns Point x p.0 p.1) (number_in_scope ns Point y q.0 q.1)) q.2
term_in_scope ns (rawterms.Ang x y z) t e =
    let p = bind_ok (number_of_name ns Point x) (λ p. number_of_name ns Point y >>= λ q. number_of_name ns Point z >>= λ r. read_ok (terms.Ang p q r)) t e in
    let q = bind_ok (number_of_name ns Point y) (λ q. number_of_name ns Point z >>= λ r. read_ok (terms.Ang p.0 q r)) t p.2 in
    let r = bind_ok (number_of_name ns Point z) (λ r. read_ok (terms.Ang p.0 q.0 r)) t q.2 in
    to_term (scope_of_names ns) (terms.Ang p.0 q.0 r.0) t
    (three (scope_of_names ns) (obj Point p.0) (obj Point q.0) (obj Point r.0) (number_in_scope ns Point x p.0 p.1) (number_in_scope ns Point y q.0 q.1) (number_in_scope ns Point z r.0 r.1)) r.2
term_in_scope ns (rawterms.Area x y z) t e =
    let p = bind_ok (number_of_name ns Point x) (λ p. number_of_name ns Point y >>= λ q. number_of_name ns Point z >>= λ r. read_ok (terms.Area p q r)) t e in
    let q = bind_ok (number_of_name ns Point y) (λ q. number_of_name ns Point z >>= λ r. read_ok (terms.Area p.0 q r)) t p.2 in
    let r = bind_ok (number_of_name ns Point z) (λ r. read_ok (terms.Area p.0 q.0 r)) t q.2 in
    to_term (scope_of_names ns) (terms.Area p.0 q.0 r.0) t
    (three (scope_of_names ns) (obj Point p.0) (obj Point q.0) (obj Point r.0) (number_in_scope ns Point x p.0 p.1) (number_in_scope ns Point y q.0 q.1) (number_in_scope ns Point z r.0 r.1)) r.2
term_in_scope ns rawterms.Right t e = to_term (scope_of_names ns) terms.Right t refl e

right_kind : (b : Bool) (r : Result Mono FaultKind) (m : Mono) → cond b r (Err WrongSort) ≡ Ok m → (b ≡ true) × (r ≡ Ok m)
right_kind true r m e = (refl, e)
right_kind false r m e = absurd cc

-- what a monomial is that is read
pub record MonoRead (ns : Names) (k : Magnitude) (r : RawMono) (m : Mono) : Type 0 where
  pub kind : same_kind (kind_of_raw r.term) k ≡ true
  pub term : term_in ns r.term ≡ Ok m.term
  pub coeff : r.coeff ≡ m.coeff

abbrev mono : ℕ → Term → Mono
mono n t = record { coeff = n; term = t }

pub mono_read : (ns : Names) (k : Magnitude) (r : RawMono) (m : Mono) → mono_in ns k r ≡ Ok m → MonoRead ns k r m
unfolding mono_in
mono_read ns k r m e =
    let p = right_kind (same_kind (kind_of_raw r.term) k) (term_in ns r.term >>= λ t. read_ok (mono r.coeff t)) m e in
    let t = bind_ok (term_in ns r.term) (λ t. read_ok (mono r.coeff t)) m p.1 in
    let is : mono r.coeff t.0 ≡ m = ok_is (mono r.coeff t.0) m t.2 in
    record { kind = p.0; term = t.1 ∙ ap (λ (x : Mono). read_ok x.term) is; coeff = ap (λ (x : Mono). x.coeff) is }

sum_in_scope : (ns : Names) (k : Magnitude) (rs : List RawMono) (ms : List Mono) → each (mono_in ns k) rs ≡ Ok ms → SumWithin (scope_of_names ns) ms
sum_in_scope ns k [] ms e = subst (SumWithin (scope_of_names ns)) (ok_is [] ms e) refl
sum_in_scope ns k (r ∷ rs) ms e =
    let s = scope_of_names ns in
    let a = bind_ok (mono_in ns k r) (λ m. each (mono_in ns k) rs >>= λ zs. read_ok (m ∷ zs)) ms e in
    let b = bind_ok (each (mono_in ns k) rs) (λ zs. read_ok (a.0 ∷ zs)) ms a.2 in
    let here = term_in_scope ns r.term a.0.term (mono_read ns k r a.0 a.1).term in
    subst (SumWithin s) (ok_is (a.0 ∷ b.0) ms b.2)
    (list_all-append (is_in_scope s) (objects_of_term a.0.term) (objects_of_sum b.0) ∙ rw (here, sum_in_scope ns k rs b.0 b.1) refl)

abbrev pub both_sums : List Mono → List Mono → List Mono × List Mono
both_sums a b = (a, b)

-- both sums, each with the kind of the first term
pub record SumsRead (ns : Names) (x y : List RawMono) (p : List Mono × List Mono) : Type 0 where
  pub left : each (mono_in ns (first_kind x y)) x ≡ Ok p.0
  pub right : each (mono_in ns (first_kind x y)) y ≡ Ok p.1

pub sums_read : (ns : Names) (x y : List RawMono) (p : List Mono × List Mono) → sums_in ns x y ≡ Ok p → SumsRead ns x y p
unfolding sums_in
sums_read ns x y p e =
    let k = first_kind x y in
    let a = bind_ok (each (mono_in ns k) x) (λ a. each (mono_in ns k) y >>= λ b. read_ok (both_sums a b)) p e in
    let b = bind_ok (each (mono_in ns k) y) (λ b. read_ok (both_sums a.0 b)) p a.2 in
    let is : both_sums a.0 b.0 ≡ p = ok_is (both_sums a.0 b.0) p b.2 in
    record { left = a.1 ∙ ap (λ (q : List Mono × List Mono). read_ok q.0) is; right = b.1 ∙ ap (λ (q : List Mono × List Mono). read_ok q.1) is }

sides_within : (s : Scope) (x y : List Mono) → SumWithin s x → SumWithin s y → list_all (is_in_scope s) (objects_of_sum x ++ objects_of_sum y) ≡ true
sides_within s x y hx hy = list_all-append (is_in_scope s) (objects_of_sum x) (objects_of_sum y) ∙ rw (hx, hy) refl

sums_within : (ns : Names) (x y : List RawMono) (p : List Mono × List Mono) → sums_in ns x y ≡ Ok p → SumWithin (scope_of_names ns) p.0 × SumWithin (scope_of_names ns) p.1
sums_within ns x y p e =
    let r = sums_read ns x y p e in
    (sum_in_scope ns (first_kind x y) x p.0 r.left, sum_in_scope ns (first_kind x y) y p.1 r.right)

-- ---- literals

pub atom_in_scope : (ns : Names) (r : RawAtom) (a : Atom) → atom_in ns r ≡ Ok a → AtomWithin (scope_of_names ns) a
unfolding atom_in
atom_in_scope ns (raw.On x y) a e =
    let p = bind_ok (number_of_name ns Point x) (λ p. used_object ns y >>= λ o. on_sort p o.sort o.num) a e in
    let o = bind_ok (used_object ns y) (λ o. on_sort p.0 o.sort o.num) a p.2 in
    on_within (scope_of_names ns) p.0 o.0.sort o.0.num a (number_in_scope ns Point x p.0 p.1) (used_in_scope ns y o.0 o.1) o.2
atom_in_scope ns (raw.Inside x y) a e =
    let p = bind_ok (number_of_name ns Point x) (λ p. number_of_name ns Circle y >>= λ c. read_ok (atoms.Inside p c)) a e in
    let c = bind_ok (number_of_name ns Circle y) (λ c. read_ok (atoms.Inside p.0 c)) a p.2 in
    to (scope_of_names ns) (atoms.Inside p.0 c.0) a (two (scope_of_names ns) (obj Point p.0) (obj Circle c.0) (number_in_scope ns Point x p.0 p.1) (number_in_scope ns Circle y c.0 c.1)) c.2
atom_in_scope ns (raw.Center x y) a e =
    let p = bind_ok (number_of_name ns Point x) (λ p. number_of_name ns Circle y >>= λ c. read_ok (atoms.Center p c)) a e in
    let c = bind_ok (number_of_name ns Circle y) (λ c. read_ok (atoms.Center p.0 c)) a p.2 in
    to (scope_of_names ns) (atoms.Center p.0 c.0) a (two (scope_of_names ns) (obj Point p.0) (obj Circle c.0) (number_in_scope ns Point x p.0 p.1) (number_in_scope ns Circle y c.0 c.1)) c.2
atom_in_scope ns (raw.Between x y z) a e =
    let p = bind_ok (number_of_name ns Point x) (λ p. number_of_name ns Point y >>= λ q. number_of_name ns Point z >>= λ r. read_ok (atoms.Between p q r)) a e in
    let q = bind_ok (number_of_name ns Point y) (λ q. number_of_name ns Point z >>= λ r. read_ok (atoms.Between p.0 q r)) a p.2 in
    let r = bind_ok (number_of_name ns Point z) (λ r. read_ok (atoms.Between p.0 q.0 r)) a q.2 in
    to (scope_of_names ns) (atoms.Between p.0 q.0 r.0) a
    (three (scope_of_names ns) (obj Point p.0) (obj Point q.0) (obj Point r.0) (number_in_scope ns Point x p.0 p.1) (number_in_scope ns Point y q.0 q.1) (number_in_scope ns Point z r.0 r.1)) r.2
atom_in_scope ns (raw.Same x y z) a e =
    let p = bind_ok (number_of_name ns Point x) (λ p. number_of_name ns Point y >>= λ q. number_of_name ns Line z >>= λ r. read_ok (atoms.Same p q r)) a e in
    let q = bind_ok (number_of_name ns Point y) (λ q. number_of_name ns Line z >>= λ r. read_ok (atoms.Same p.0 q r)) a p.2 in
    let r = bind_ok (number_of_name ns Line z) (λ r. read_ok (atoms.Same p.0 q.0 r)) a q.2 in
    to (scope_of_names ns) (atoms.Same p.0 q.0 r.0) a
    (three (scope_of_names ns) (obj Point p.0) (obj Point q.0) (obj Line r.0) (number_in_scope ns Point x p.0 p.1) (number_in_scope ns Point y q.0 q.1) (number_in_scope ns Line z r.0 r.1)) r.2
atom_in_scope ns (raw.Meets x y) a e =
    let o = bind_ok (used_object ns x) (λ o. meets_from ns o.sort o.num y) a e in
    meets_within ns o.0.sort o.0.num y a (used_in_scope ns x o.0 o.1) o.2
atom_in_scope ns (raw.Equal x y) a e =
    let o = bind_ok (used_object ns x) (λ o. number_of_name ns o.sort y >>= λ n. read_ok (equal_at o.sort o.num n)) a e in
    let n = bind_ok (number_of_name ns o.0.sort y) (λ n. read_ok (equal_at o.0.sort o.0.num n)) a o.2 in
    to (scope_of_names ns) (equal_at o.0.sort o.0.num n.0) a
    (equal_within (scope_of_names ns) o.0.sort o.0.num n.0 (used_in_scope ns x o.0 o.1) (number_in_scope ns o.0.sort y n.0 n.1)) n.2
atom_in_scope ns (raw.SumsEqual x y) a e =
    let p = bind_ok (sums_in ns x y) (λ p. read_ok (atoms.MagEq p.0 p.1)) a e in
    let w = sums_within ns x y p.0 p.1 in
    to (scope_of_names ns) (atoms.MagEq p.0.0 p.0.1) a (sides_within (scope_of_names ns) p.0.0 p.0.1 w.0 w.1) p.2
atom_in_scope ns (raw.SumsLess x y) a e =
    let p = bind_ok (sums_in ns x y) (λ p. read_ok (atoms.MagLt p.0 p.1)) a e in
    let w = sums_within ns x y p.0 p.1 in
    to (scope_of_names ns) (atoms.MagLt p.0.0 p.0.1) a (sides_within (scope_of_names ns) p.0.0 p.0.1 w.0 w.1) p.2
atom_in_scope ns (raw.SumsAtMost x y) a e =
    let p = bind_ok (sums_in ns x y) (λ p. read_ok (atoms.MagLt p.1 p.0)) a e in
    let w = sums_within ns x y p.0 p.1 in
    to (scope_of_names ns) (atoms.MagLt p.0.1 p.0.0) a (sides_within (scope_of_names ns) p.0.1 p.0.0 w.1 w.0) p.2

pub lit_in_scope : (ns : Names) (r : RawLit) (l : Lit) → lit_in ns r ≡ Ok l → all_in_scope (scope_of_names ns) l ≡ true
unfolding lit_in
lit_in_scope ns r l e =
    let a = bind_ok (atom_in ns r.atom) (λ a. read_ok (record { neg = negated_in r.atom r.neg; atom = a })) l e in
    subst (λ (x : Lit). all_in_scope (scope_of_names ns) x ≡ true) (ok_is (record { neg = negated_in r.atom r.neg; atom = a.0 }) l a.2) (atom_in_scope ns r.atom a.0 a.1)

-- what holds of each that is read holds of all
pub each_all : {X Y : Type 0} (f : X → Result Y FaultKind) (p : Y → Bool) → ((x : X) (y : Y) → f x ≡ Ok y → p y ≡ true) → (xs : List X) (ys : List Y) → each f xs ≡ Ok ys → list_all p ys ≡ true
each_all {X} {Y} f p h [] ys e = subst (λ (l : List Y). list_all p l ≡ true) (ok_is [] ys e) refl
each_all {X} {Y} f p h (x ∷ xs) ys e =
    let a = bind_ok (f x) (λ y. each f xs >>= λ zs. read_ok (y ∷ zs)) ys e in
    let b = bind_ok (each f xs) (λ zs. read_ok (a.0 ∷ zs)) ys a.2 in
    subst (λ (l : List Y). list_all p l ≡ true) (ok_is (a.0 ∷ b.0) ys b.2) (rw (h x a.0 a.1, each_all f p h xs b.0 b.1) refl)
