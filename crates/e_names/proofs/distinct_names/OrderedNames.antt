-- Names stay in order where some are left out and where new ones come into scope.
use Rattle.std.proofs.Common.{◌≡◌, ℕ, zero, suc, Bool, true, false, not, ◌&&◌, List, [], ◌∷◌, ◌++◌, take, Ok, refl, sym, ap, ap₂, ◌∙◌}
use Rattle.std.specs.List.{list_all}
use Rattle.std.proofs.lemmas.Bool.{not-true, ltb-true, and_parts}
use Rattle.std.proofs.lemmas.List.{get_or-take}
use Rattle.std.proofs.lemmas.List.Folds.{list_all-append}
use Rattle.e_text.specs.Names.{is_name}
use Rattle.e_literal.specs.declared.object.Sort.{Sort}
use Rattle.e_literal.specs.declared.object.Sort.TheVariants.{Point, Line, Circle}
use Rattle.e_literal.specs.declared.object.Scope.{Scope}
use Rattle.e_literal.specs.declared.object.Obj.{Obj}
use Rattle.e_literal.specs.declared.object.Term.{Term}
use Rattle.e_literal.specs.declared.object.Term.TheVariants as terms
use Rattle.e_literal.specs.declared.object.Mono.{Mono}
use Rattle.e_literal.specs.declared.literal.Atom.{Atom}
use Rattle.e_literal.specs.declared.literal.Atom.TheVariants as atoms
use Rattle.e_literal.specs.declared.literal.Lit.{Lit}
use Rattle.e_literal.specs.Literal.{obj, is_in_scope, objects_of_term, objects_of_sum, objects_of_atom, all_in_scope}
use Rattle.e_deriv.specs.declared.names.Names.{Names}
use Rattle.e_deriv.specs.Naming.{names_of_sort, with_new_names, first_names}
use Rattle.e_line.specs.declared.sum.RawTerm.{RawTerm}
use Rattle.e_line.specs.declared.sum.RawTerm.TheVariants as rawterms
use Rattle.e_line.specs.declared.sum.RawMono.{RawMono}
use Rattle.e_line.specs.declared.literal.RawAtom.{RawAtom}
use Rattle.e_line.specs.declared.literal.RawAtom.TheVariants as raw
use Rattle.e_names.specs.Scope.{is_among_names, is_taken, fresh}
use Rattle.e_names.specs.Fits.{are_distinct}
use Rattle.e_names.specs.Canonical.{missing_name, name_at, raw_term, raw_sum, raw_atom, raw_signed, raw_of}
use Rattle.e_line.specs.Names.{AreNames}
use Rattle.e_names.proofs.distinct_names.Differ.{Apart, Apart-sym, has_not_in_front}
use Rattle.e_names.proofs.distinct_names.Distinct.{distinct_last, untaken, passed}
use Rattle.e_names.proofs.resolution.Lookups.{InOrder, ordered}
use Rattle.e_names.proofs.distinct_names.NewNames.{Free, plus, same_fresh}

-- ---- fewer names

front_names : (n : ℕ) (xs : List (List ℕ)) → AreNames xs → AreNames (take n xs)
front_names zero xs h = tt
front_names (suc n) [] h = tt
front_names (suc n) (x ∷ xs) h = (h.0, front_names n xs h.1)

front_distinct : (n : ℕ) (xs : List (List ℕ)) → are_distinct xs ≡ true → are_distinct (take n xs) ≡ true
front_distinct zero xs h = refl
front_distinct (suc n) [] h = refl
front_distinct (suc n) (x ∷ xs) h =
    let p = and_parts (not (is_among_names xs x)) (are_distinct xs) h in
    rw (has_not_in_front xs n x (not-true (is_among_names xs x) p.0), front_distinct n xs p.1) refl

front_apart : (m n : ℕ) (others names : List (List ℕ)) → Apart others names → Apart (take m others) (take n names)
front_apart m zero others names h = tt
front_apart m (suc n) others [] h = tt
front_apart m (suc n) others (x ∷ names) h = (has_not_in_front others m x h.0, front_apart m n others names h.1)

pub first_in_order : (s : Scope) (ns : Names) → InOrder ns → InOrder (first_names s ns)
first_in_order s ns o =
    ordered (first_names s ns) (front_names s.points ns.points o.point_names) (front_names s.lines ns.lines o.line_names) (front_names s.circles ns.circles o.circle_names)
    (front_distinct s.points ns.points o.points) (front_distinct s.lines ns.lines o.lines) (front_distinct s.circles ns.circles o.circles)
    (front_apart s.points s.lines ns.points ns.lines o.no_point_line) (front_apart s.points s.circles ns.points ns.circles o.no_point_circle) (front_apart s.lines s.circles ns.lines ns.circles o.no_line_circle)

-- ---- new names

push_names : (xs : List (List ℕ)) (n : List ℕ) → AreNames xs → is_name n ≡ true → AreNames (xs ++ n ∷ [])
push_names [] n h k = (k, tt)
push_names (x ∷ xs) n h k = (h.0, push_names xs n h.1 k)

push_apart : (others names : List (List ℕ)) (n : List ℕ) → Apart others names → is_among_names others n ≡ false → Apart others (names ++ n ∷ [])
push_apart others [] n h k = (k, tt)
push_apart others (m ∷ names) n h k = (h.0, push_apart others names n h.1 k)

apart_push : (others names : List (List ℕ)) (n : List ℕ) → Apart names others → is_among_names names n ≡ false → Apart (others ++ n ∷ []) names
apart_push others names n h k = Apart-sym names (others ++ n ∷ []) (push_apart names others n h k)

pub plus_in_order : (ns : Names) (sort : Sort) (n : List ℕ) → InOrder ns → is_name n ≡ true → Free ns n → InOrder (plus ns sort n)
plus_in_order ns Point n o h f =
    ordered (plus ns Point n) (push_names ns.points n o.point_names h) o.line_names o.circle_names (distinct_last ns.points n o.points f.0) o.lines o.circles
    (apart_push ns.points ns.lines n o.no_line_point f.1) (apart_push ns.points ns.circles n o.no_circle_point f.2) o.no_line_circle
plus_in_order ns Line n o h f =
    ordered (plus ns Line n) o.point_names (push_names ns.lines n o.line_names h) o.circle_names o.points (distinct_last ns.lines n o.lines f.1) o.circles
    (push_apart ns.points ns.lines n o.no_point_line f.0) o.no_point_circle (apart_push ns.lines ns.circles n o.no_circle_line f.2)
plus_in_order ns Circle n o h f =
    ordered (plus ns Circle n) o.point_names o.line_names (push_names ns.circles n o.circle_names h) o.points o.lines (distinct_last ns.circles n o.circles f.2)
    o.no_point_line (push_apart ns.points ns.circles n o.no_point_circle f.0) (push_apart ns.lines ns.circles n o.no_line_circle f.1)

pub named_in_order : (ns : Names) (sorts : List Sort) (names : List (List ℕ)) → InOrder ns → AreNames names → fresh ns [] names ≡ Ok tt → InOrder (with_new_names ns sorts names)
named_in_order ns [] names o h e = o
named_in_order ns (sort ∷ sorts) [] o h e = o
named_in_order ns (sort ∷ sorts) (n ∷ names) o h e =
    let p = passed (is_taken ns [] n) (fresh ns (n ∷ []) names) tt e in
    let t = untaken ns [] n p.0 in
    named_in_order (plus ns sort n) sorts names (plus_in_order ns sort n o h.0 (t.points, t.lines, t.circles)) h.1 (sym (same_fresh ns sort n [] names) ∙ p.1)

-- ---- the names of the first objects

two : (s : Scope) (a b : Obj) → list_all (is_in_scope s) (a ∷ b ∷ []) ≡ true → (is_in_scope s a ≡ true) × (is_in_scope s b ≡ true)
two s a b h =
    let p = and_parts (is_in_scope s a) (is_in_scope s b && true) h in
    (p.0, (and_parts (is_in_scope s b) true p.1).0)

three : (s : Scope) (a b c : Obj) → list_all (is_in_scope s) (a ∷ b ∷ c ∷ []) ≡ true → (is_in_scope s a ≡ true) × (is_in_scope s b ≡ true) × (is_in_scope s c ≡ true)
three s a b c h =
    let p = and_parts (is_in_scope s a) (is_in_scope s b && (is_in_scope s c && true)) h in
    let q = two s b c p.1 in
    (p.0, q.0, q.1)

in_front : (s : Scope) (ns : Names) (sort : Sort) (i : ℕ) → is_in_scope s (obj sort i) ≡ true → name_at (names_of_sort (first_names s ns) sort) i ≡ name_at (names_of_sort ns sort) i
in_front s ns Point i h = get_or-take s.points ns.points i missing_name (ltb-true i s.points h)
in_front s ns Line i h = get_or-take s.lines ns.lines i missing_name (ltb-true i s.lines h)
in_front s ns Circle i h = get_or-take s.circles ns.circles i missing_name (ltb-true i s.circles h)

-- ---- sums over the first objects

point_of_first : (s : Scope) (ns : Names) (a : ℕ) → is_in_scope s (obj Point a) ≡ true → name_at (take s.points ns.points) a ≡ name_at ns.points a
point_of_first s ns a h = in_front s ns Point a h

term_of_first : (s : Scope) (ns : Names) (t : Term) → list_all (is_in_scope s) (objects_of_term t) ≡ true → raw_term (first_names s ns) t ≡ raw_term ns t
term_of_first s ns (terms.Seg a b) h = let t = two s (obj Point a) (obj Point b) h in ap₂ rawterms.Seg (point_of_first s ns a t.0) (point_of_first s ns b t.1)
term_of_first s ns (terms.Ang a b c) h =
    let t = three s (obj Point a) (obj Point b) (obj Point c) h in
    let n = take s.points ns.points in
    ap (λ (x : List ℕ). rawterms.Ang x (name_at n b) (name_at n c)) (point_of_first s ns a t.0)
    ∙ ap (λ (x : List ℕ). rawterms.Ang (name_at ns.points a) x (name_at n c)) (point_of_first s ns b t.1) ∙ ap (rawterms.Ang (name_at ns.points a) (name_at ns.points b)) (point_of_first s ns c t.2)
term_of_first s ns (terms.Area a b c) h =
    let t = three s (obj Point a) (obj Point b) (obj Point c) h in
    let n = take s.points ns.points in
    ap (λ (x : List ℕ). rawterms.Area x (name_at n b) (name_at n c)) (point_of_first s ns a t.0)
    ∙ ap (λ (x : List ℕ). rawterms.Area (name_at ns.points a) x (name_at n c)) (point_of_first s ns b t.1) ∙ ap (rawterms.Area (name_at ns.points a) (name_at ns.points b)) (point_of_first s ns c t.2)
term_of_first s ns terms.Right h = refl

sum_of_first : (s : Scope) (ns : Names) (ms : List Mono) → list_all (is_in_scope s) (objects_of_sum ms) ≡ true → raw_sum (first_names s ns) ms ≡ raw_sum ns ms
sum_of_first s ns [] h = refl
sum_of_first s ns (m ∷ ms) h =
    let p = and_parts (list_all (is_in_scope s) (objects_of_term m.term)) (list_all (is_in_scope s) (objects_of_sum ms)) (sym (list_all-append (is_in_scope s) (objects_of_term m.term) (objects_of_sum ms)) ∙ h) in
    ap₂ (λ (t : RawTerm) (rs : List RawMono). record { coeff = m.coeff; term = t } ∷ rs) (term_of_first s ns m.term p.0) (sum_of_first s ns ms p.1)

sides : (s : Scope) (x y : List Mono) → list_all (is_in_scope s) (objects_of_sum x ++ objects_of_sum y) ≡ true
    → (list_all (is_in_scope s) (objects_of_sum x) ≡ true) × (list_all (is_in_scope s) (objects_of_sum y) ≡ true)
sides s x y h = and_parts (list_all (is_in_scope s) (objects_of_sum x)) (list_all (is_in_scope s) (objects_of_sum y)) (sym (list_all-append (is_in_scope s) (objects_of_sum x) (objects_of_sum y)) ∙ h)

-- ---- literals over the first objects

atom_of_first : (s : Scope) (ns : Names) (a : Atom) → list_all (is_in_scope s) (objects_of_atom a) ≡ true → raw_atom (first_names s ns) a ≡ raw_atom ns a
atom_of_first s ns (atoms.On a l) h = let t = two s (obj Point a) (obj Line l) h in rw (in_front s ns Point a t.0, in_front s ns Line l t.1) refl
atom_of_first s ns (atoms.OnC a c) h = let t = two s (obj Point a) (obj Circle c) h in rw (in_front s ns Point a t.0, in_front s ns Circle c t.1) refl
atom_of_first s ns (atoms.Inside a c) h = let t = two s (obj Point a) (obj Circle c) h in rw (in_front s ns Point a t.0, in_front s ns Circle c t.1) refl
atom_of_first s ns (atoms.Center a c) h = let t = two s (obj Point a) (obj Circle c) h in rw (in_front s ns Point a t.0, in_front s ns Circle c t.1) refl
atom_of_first s ns (atoms.Between a b c) h =
    let t = three s (obj Point a) (obj Point b) (obj Point c) h in
    ap (λ (x : List ℕ). raw.Between x (name_at (take s.points ns.points) b) (name_at (take s.points ns.points) c)) (in_front s ns Point a t.0)
    ∙ ap (λ (x : List ℕ). raw.Between (name_at ns.points a) x (name_at (take s.points ns.points) c)) (in_front s ns Point b t.1) ∙ ap (raw.Between (name_at ns.points a) (name_at ns.points b)) (in_front s ns Point c t.2)
atom_of_first s ns (atoms.Same a b l) h =
    let t = three s (obj Point a) (obj Point b) (obj Line l) h in
    ap (λ (x : List ℕ). raw.Same x (name_at (take s.points ns.points) b) (name_at (take s.lines ns.lines) l)) (in_front s ns Point a t.0)
    ∙ ap (λ (x : List ℕ). raw.Same (name_at ns.points a) x (name_at (take s.lines ns.lines) l)) (in_front s ns Point b t.1) ∙ ap (raw.Same (name_at ns.points a) (name_at ns.points b)) (in_front s ns Line l t.2)
atom_of_first s ns (atoms.MeetLL l m) h = let t = two s (obj Line l) (obj Line m) h in ap (λ (x : List ℕ). raw.Meets x (name_at (take s.lines ns.lines) m)) (in_front s ns Line l t.0) ∙ ap (raw.Meets (name_at ns.lines l)) (in_front s ns Line m t.1)
atom_of_first s ns (atoms.MeetLC l c) h = let t = two s (obj Line l) (obj Circle c) h in ap (λ (x : List ℕ). raw.Meets x (name_at (take s.circles ns.circles) c)) (in_front s ns Line l t.0) ∙ ap (raw.Meets (name_at ns.lines l)) (in_front s ns Circle c t.1)
atom_of_first s ns (atoms.MeetCC c e) h = let t = two s (obj Circle c) (obj Circle e) h in ap (λ (x : List ℕ). raw.Meets x (name_at (take s.circles ns.circles) e)) (in_front s ns Circle c t.0) ∙ ap (raw.Meets (name_at ns.circles c)) (in_front s ns Circle e t.1)
atom_of_first s ns (atoms.EqP a b) h = let t = two s (obj Point a) (obj Point b) h in ap (λ (x : List ℕ). raw.Equal x (name_at (take s.points ns.points) b)) (in_front s ns Point a t.0) ∙ ap (raw.Equal (name_at ns.points a)) (in_front s ns Point b t.1)
atom_of_first s ns (atoms.EqL l m) h = let t = two s (obj Line l) (obj Line m) h in ap (λ (x : List ℕ). raw.Equal x (name_at (take s.lines ns.lines) m)) (in_front s ns Line l t.0) ∙ ap (raw.Equal (name_at ns.lines l)) (in_front s ns Line m t.1)
atom_of_first s ns (atoms.EqC c e) h = let t = two s (obj Circle c) (obj Circle e) h in ap (λ (x : List ℕ). raw.Equal x (name_at (take s.circles ns.circles) e)) (in_front s ns Circle c t.0) ∙ ap (raw.Equal (name_at ns.circles c)) (in_front s ns Circle e t.1)
atom_of_first s ns (atoms.MagEq x y) h = let p = sides s x y h in ap₂ raw.SumsEqual (sum_of_first s ns x p.0) (sum_of_first s ns y p.1)
atom_of_first s ns (atoms.MagLt x y) h = let p = sides s x y h in ap₂ raw.SumsLess (sum_of_first s ns x p.0) (sum_of_first s ns y p.1)

signed_of_first : (s : Scope) (ns : Names) (neg : Bool) (a : Atom) → list_all (is_in_scope s) (objects_of_atom a) ≡ true → raw_signed (first_names s ns) neg a ≡ raw_signed ns neg a
signed_of_first s ns true (atoms.MagLt x y) h =
    let p = sides s x y h in ap₂ (λ u v. record { neg = false; atom = raw.SumsAtMost u v }) (sum_of_first s ns y p.1) (sum_of_first s ns x p.0)
signed_of_first s ns false a h = ap (λ (r : RawAtom). record { neg = false; atom = r }) (atom_of_first s ns a h)
signed_of_first s ns true a h = ap (λ (r : RawAtom). record { neg = true; atom = r }) (atom_of_first s ns a h)

-- a literal over the first objects is spelled with their names alone
pub lit_of_first : (s : Scope) (ns : Names) (l : Lit) → all_in_scope s l ≡ true → raw_of (first_names s ns) l ≡ raw_of ns l
lit_of_first s ns l h = signed_of_first s ns l.neg l.atom h
