-- Literals over the kept objects: they are the same where they were, and among facts.
use Rattle.std.proofs.Common.{◌≡◌, ℕ, List, [], ◌∷◌, ◌++◌, map, refl, sym, ap, ◌∙◌, Bool, true, false, ◌&&◌, ◌||◌, not, cond, eqb, inl, inr}
use Rattle.std.proofs.lemmas.Bool.{and_from}
use Rattle.std.specs.List.{list_all}
use Rattle.e_literal.specs.declared.object.Obj.{Obj}
use Rattle.e_literal.specs.declared.object.Mono.{Mono}
use Rattle.e_literal.specs.declared.object.Term.{Term}
use Rattle.e_literal.specs.declared.object.Term.TheVariants.{Seg, Ang, Area, Right}
use Rattle.e_literal.specs.declared.object.Sort.{Sort}
use Rattle.e_literal.specs.declared.object.Sort.TheVariants.{Point, Line, Circle}
use Rattle.e_literal.specs.declared.literal.Atom.{Atom}
use Rattle.e_literal.specs.declared.literal.Atom.TheVariants.{On, OnC, Inside, Center, Between, Same, MeetLL, MeetLC, MeetCC, EqP, EqL, EqC, MagEq, MagLt}
use Rattle.e_literal.specs.declared.literal.Lit.{Lit}
use Rattle.e_literal.specs.Literal.{obj, negation, is_in_scope, all_in_scope, objects_of_term, objects_of_sum, objects_of_atom}
use Rattle.e_literal.specs.Rename.{term_at, mono_at, atom_at}
use Rattle.e_literal.specs.Same.{same_atom, same_neg, same_lit, agree}
use Rattle.e_literal.specs.Facts.{has, others}
use Rattle.e_literal.proofs.WithImages.{is_moved_in, renamed_scope}
use Rattle.e_literal.proofs.Agreeing.{same_lit_self}
use Rattle.e_literal.proofs.NormalLiterals.{normals_are_same}
use Rattle.e_trim.specs.Trimmed.{kept_before, obj_at, image_among_kept, lit_among_kept}
use Rattle.e_trim.proofs.renumbering.Members.{In, in_left, in_right, in_either, any_in, in_any, in_all}
use Rattle.e_trim.proofs.renumbering.Counting.{OfSort, same_number, keeps, scope_kept, in_scope_kept}
use Rattle.e_trim.proofs.renumbering.TermsAt.{Over}
use Rattle.e_trim.proofs.renumbering.SumsAgree.{OverSum, agree_stays}

-- ---- over the kept objects

-- all of the objects are kept
abbrev pub AllKept : List Obj → List Obj → Type 0
AllKept kept os = (o : Obj) → In o os → In o kept

-- the objects of the literal are
abbrev pub OverLit : List Obj → Lit → Type 0
OverLit kept l = AllKept kept (objects_of_atom l.atom)

abbrev pub OverLits : List Obj → List Lit → Type 0
OverLits kept ls = (l : Lit) → In l ls → OverLit kept l

left_kept : (kept xs ys : List Obj) → AllKept kept (xs ++ ys) → AllKept kept xs
left_kept kept xs ys h o i = h o (in_left o xs ys i)

right_kept : (kept xs ys : List Obj) → AllKept kept (xs ++ ys) → AllKept kept ys
right_kept kept xs ys h o i = h o (in_right o xs ys i)

pub over_term : (kept : List Obj) (t : Term) → AllKept kept (objects_of_term t) → Over (OfSort kept Point) t
over_term kept (Seg a b) h = (h (obj Point a) (inl refl), h (obj Point b) (inr (inl refl)))
over_term kept (Ang a b c) h = (h (obj Point a) (inl refl), h (obj Point b) (inr (inl refl)), h (obj Point c) (inr (inr (inl refl))))
over_term kept (Area a b c) h = (h (obj Point a) (inl refl), h (obj Point b) (inr (inl refl)), h (obj Point c) (inr (inr (inl refl))))
over_term kept Right h = tt

pub over_sum : (kept : List Obj) (ms : List Mono) → AllKept kept (objects_of_sum ms) → OverSum (OfSort kept Point) ms
over_sum kept [] h = tt
over_sum kept (m ∷ ms) h =
    (over_term kept m.term (left_kept kept (objects_of_term m.term) (objects_of_sum ms) h), over_sum kept ms (right_kept kept (objects_of_term m.term) (objects_of_sum ms) h))

-- a literal over kept objects is in scope of them
pub scope_over : (kept : List Obj) (l : Lit) → OverLit kept l → all_in_scope (scope_kept kept) (lit_among_kept kept l) ≡ true
scope_over kept l h =
    renamed_scope (scope_kept kept) (image_among_kept kept) l ∙ in_all (is_moved_in (scope_kept kept) (image_among_kept kept)) (objects_of_atom l.atom) (λ o i. in_scope_kept kept o (h o i))

pub term_scope : (kept : List Obj) (t : Term) → AllKept kept (objects_of_term t) → list_all (is_in_scope (scope_kept kept)) (objects_of_term (term_at (kept_before kept Point) t)) ≡ true
term_scope kept t h = moved t ∙ in_all (is_moved_in (scope_kept kept) (image_among_kept kept)) (objects_of_term t) (λ o i. in_scope_kept kept o (h o i))
  where
    moved : (t : Term) → list_all (is_in_scope (scope_kept kept)) (objects_of_term (term_at (kept_before kept Point) t)) ≡ list_all (is_moved_in (scope_kept kept) (image_among_kept kept)) (objects_of_term t)
    moved (Seg a b) = refl
    moved (Ang a b c) = refl
    moved (Area a b c) = refl
    moved Right = refl

pub objects_scope : (kept os : List Obj) → AllKept kept os → list_all (is_in_scope (scope_kept kept)) (map (obj_at kept) os) ≡ true
objects_scope kept [] h = refl
objects_scope kept (o ∷ os) h =
    and_from (is_in_scope (scope_kept kept) (obj_at kept o)) (list_all (is_in_scope (scope_kept kept)) (map (obj_at kept) os))
    (in_scope_kept kept o (h o (inl refl))) (objects_scope kept os (λ k i. h k (inr i)))

pub lits_scope : (kept : List Obj) (ls : List Lit) → OverLits kept ls → list_all (all_in_scope (scope_kept kept)) (map (lit_among_kept kept) ls) ≡ true
lits_scope kept [] h = refl
lits_scope kept (l ∷ ls) h =
    and_from (all_in_scope (scope_kept kept) (lit_among_kept kept l)) (list_all (all_in_scope (scope_kept kept)) (map (lit_among_kept kept) ls))
    (scope_over kept l (h l (inl refl))) (lits_scope kept ls (λ k i. h k (inr i)))

-- ---- the same

two_at : (kept : List Obj) (x y : Sort) (a b c d : ℕ) → In (obj x a) kept → In (obj y b) kept → In (obj x c) kept → In (obj y d) kept
    → (eqb (kept_before kept x a) (kept_before kept x c) && eqb (kept_before kept y b) (kept_before kept y d)) ≡ (eqb a c && eqb b d)
two_at kept x y a b c d ha hb hc hd =
    ap (λ t. t && eqb (kept_before kept y b) (kept_before kept y d)) (same_number kept x a c ha hc) ∙ ap (λ t. eqb a c && t) (same_number kept y b d hb hd)

three_at : (kept : List Obj) (x y z : Sort) (a b c d e f : ℕ) → In (obj x a) kept → In (obj y b) kept → In (obj z c) kept → In (obj x d) kept → In (obj y e) kept → In (obj z f) kept
    → (eqb (kept_before kept x a) (kept_before kept x d) && (eqb (kept_before kept y b) (kept_before kept y e) && eqb (kept_before kept z c) (kept_before kept z f))) ≡ (eqb a d && (eqb b e && eqb c f))
three_at kept x y z a b c d e f ha hb hc hd he hf =
    ap (λ t. t && (eqb (kept_before kept y b) (kept_before kept y e) && eqb (kept_before kept z c) (kept_before kept z f))) (same_number kept x a d ha hd)
    ∙ ap (λ t. eqb a d && t) (two_at kept y z b c e f hb hc he hf)

agree_at : (kept : List Obj) (x y z w : List Mono) → AllKept kept (objects_of_sum x ++ objects_of_sum y) → AllKept kept (objects_of_sum z ++ objects_of_sum w)
    → agree (map (mono_at (kept_before kept Point)) x) (map (mono_at (kept_before kept Point)) y) (map (mono_at (kept_before kept Point)) z) (map (mono_at (kept_before kept Point)) w) ≡ agree x y z w
agree_at kept x y z w h k =
    agree_stays (kept_before kept Point) (OfSort kept Point) (keeps kept) x y z w
    (over_sum kept x (left_kept kept (objects_of_sum x) (objects_of_sum y) h)) (over_sum kept y (right_kept kept (objects_of_sum x) (objects_of_sum y) h))
    (over_sum kept z (left_kept kept (objects_of_sum z) (objects_of_sum w) k)) (over_sum kept w (right_kept kept (objects_of_sum z) (objects_of_sum w) k))

turned_kept : (kept : List Obj) (x y : List Mono) → AllKept kept (objects_of_sum x ++ objects_of_sum y) → AllKept kept (objects_of_sum y ++ objects_of_sum x)
turned_kept kept x y h o i = elim (in_either o (objects_of_sum y) (objects_of_sum x) i) [
  | inl j ↦ h o (in_right o (objects_of_sum x) (objects_of_sum y) j)
  | inr j ↦ h o (in_left o (objects_of_sum x) (objects_of_sum y) j)
]

abbrev at : List Obj → Atom → Atom
at kept a = atom_at (kept_before kept Point) (kept_before kept Line) (kept_before kept Circle) a

atoms_at : (kept : List Obj) (a b : Atom) → AllKept kept (objects_of_atom a) → AllKept kept (objects_of_atom b) → same_atom (at kept a) (at kept b) ≡ same_atom a b
atoms_at kept (On a l) (On b m) h k = two_at kept Point Line a l b m (h (obj Point a) (inl refl)) (h (obj Line l) (inr (inl refl))) (k (obj Point b) (inl refl)) (k (obj Line m) (inr (inl refl)))
atoms_at kept (OnC a c) (OnC b d) h k = two_at kept Point Circle a c b d (h (obj Point a) (inl refl)) (h (obj Circle c) (inr (inl refl))) (k (obj Point b) (inl refl)) (k (obj Circle d) (inr (inl refl)))
atoms_at kept (Inside a c) (Inside b d) h k = two_at kept Point Circle a c b d (h (obj Point a) (inl refl)) (h (obj Circle c) (inr (inl refl))) (k (obj Point b) (inl refl)) (k (obj Circle d) (inr (inl refl)))
atoms_at kept (Center a c) (Center b d) h k = two_at kept Point Circle a c b d (h (obj Point a) (inl refl)) (h (obj Circle c) (inr (inl refl))) (k (obj Point b) (inl refl)) (k (obj Circle d) (inr (inl refl)))
atoms_at kept (Between a b c) (Between d e f) h k =
    three_at kept Point Point Point a b c d e f (h (obj Point a) (inl refl)) (h (obj Point b) (inr (inl refl))) (h (obj Point c) (inr (inr (inl refl)))) (k (obj Point d) (inl refl)) (k (obj Point e) (inr (inl refl))) (k (obj Point f) (inr (inr (inl refl))))
atoms_at kept (Same a b l) (Same d e m) h k =
    three_at kept Point Point Line a b l d e m (h (obj Point a) (inl refl)) (h (obj Point b) (inr (inl refl))) (h (obj Line l) (inr (inr (inl refl)))) (k (obj Point d) (inl refl)) (k (obj Point e) (inr (inl refl))) (k (obj Line m) (inr (inr (inl refl))))
atoms_at kept (MeetLL l m) (MeetLL p q) h k = two_at kept Line Line l m p q (h (obj Line l) (inl refl)) (h (obj Line m) (inr (inl refl))) (k (obj Line p) (inl refl)) (k (obj Line q) (inr (inl refl)))
atoms_at kept (MeetLC l c) (MeetLC m d) h k = two_at kept Line Circle l c m d (h (obj Line l) (inl refl)) (h (obj Circle c) (inr (inl refl))) (k (obj Line m) (inl refl)) (k (obj Circle d) (inr (inl refl)))
atoms_at kept (MeetCC c d) (MeetCC e f) h k = two_at kept Circle Circle c d e f (h (obj Circle c) (inl refl)) (h (obj Circle d) (inr (inl refl))) (k (obj Circle e) (inl refl)) (k (obj Circle f) (inr (inl refl)))
atoms_at kept (EqP a b) (EqP c d) h k = two_at kept Point Point a b c d (h (obj Point a) (inl refl)) (h (obj Point b) (inr (inl refl))) (k (obj Point c) (inl refl)) (k (obj Point d) (inr (inl refl)))
atoms_at kept (EqL l m) (EqL p q) h k = two_at kept Line Line l m p q (h (obj Line l) (inl refl)) (h (obj Line m) (inr (inl refl))) (k (obj Line p) (inl refl)) (k (obj Line q) (inr (inl refl)))
atoms_at kept (EqC c d) (EqC e f) h k = two_at kept Circle Circle c d e f (h (obj Circle c) (inl refl)) (h (obj Circle d) (inr (inl refl))) (k (obj Circle e) (inl refl)) (k (obj Circle f) (inr (inl refl)))
atoms_at kept (MagEq x y) (MagEq z w) h k = let p = agree_at kept x y z w h k in let q = agree_at kept x y w z h (turned_kept kept z w k) in rw (p, q) refl
atoms_at kept (MagLt x y) (MagLt z w) h k = agree_at kept x y z w h k
atoms_at kept a b h k = refl

-- literals over kept objects are the same where they were
pub same_at : (kept : List Obj) (x y : Lit) → OverLit kept x → OverLit kept y → same_lit (lit_among_kept kept x) (lit_among_kept kept y) ≡ same_lit x y
same_at kept x y h k = ap (λ b. same_neg x.neg y.neg && b) (atoms_at kept x.atom y.atom h k)

pub same_turned : (x y : Lit) → same_lit x y ≡ true → same_lit y x ≡ true
same_turned x y h = (normals_are_same y x).0 (sym ((normals_are_same x y).1 h))

pub same_along : (x y z : Lit) → same_lit x y ≡ true → same_lit y z ≡ true → same_lit x z ≡ true
same_along x y z h k = (normals_are_same x z).0 ((normals_are_same x y).1 h ∙ (normals_are_same y z).1 k)

-- ---- among facts

pub has_in : (facts : List Lit) (l : Lit) → has facts l ≡ true → (m : Lit) × In m facts × (same_lit m l ≡ true)
has_in facts l h = in_any (λ m. same_lit m l) facts h

pub in_has : (facts : List Lit) (m l : Lit) → In m facts → same_lit m l ≡ true → has facts l ≡ true
in_has facts m l i e = any_in (λ f. same_lit f l) m facts i e

pub in_has_own : (facts : List Lit) (m : Lit) → In m facts → has facts m ≡ true
in_has_own facts m i = in_has facts m m i (same_lit_self m)

pub has_same : (facts : List Lit) (m l : Lit) → has facts m ≡ true → same_lit m l ≡ true → has facts l ≡ true
has_same facts m l h e = let r = has_in facts m h in in_has facts r.0 l r.1 (same_along r.0 m l r.2 e)

-- among literals over kept objects
pub has_at : (kept : List Obj) (ls : List Lit) (l : Lit) → OverLits kept ls → OverLit kept l → has (map (lit_among_kept kept) ls) (lit_among_kept kept l) ≡ has ls l
has_at kept [] l h k = refl
has_at kept (m ∷ ls) l h k =
    ap (λ b. b || has (map (lit_among_kept kept) ls) (lit_among_kept kept l)) (same_at kept m l (h m (inl refl)) k)
    ∙ ap (λ b. same_lit m l || b) (has_at kept ls l (λ x i. h x (inr i)) k)

others_step : (kept : List Obj) (b : Bool) (m : Lit) (ms ns : List Lit) → ns ≡ map (lit_among_kept kept) ms → cond b (lit_among_kept kept m ∷ ns) ns ≡ map (lit_among_kept kept) (cond b (m ∷ ms) ms)
others_step kept true m ms ns e = ap (λ xs. lit_among_kept kept m ∷ xs) e
others_step kept false m ms ns e = e

pub others_at : (kept : List Obj) (ls : List Lit) (l : Lit) → OverLits kept ls → OverLit kept l → others (map (lit_among_kept kept) ls) (lit_among_kept kept l) ≡ map (lit_among_kept kept) (others ls l)
others_at kept [] l h k = refl
others_at kept (m ∷ ls) l h k =
    ap (λ b. cond (not b) (lit_among_kept kept m ∷ others (map (lit_among_kept kept) ls) (lit_among_kept kept l)) (others (map (lit_among_kept kept) ls) (lit_among_kept kept l))) (same_at kept m l (h m (inl refl)) k)
    ∙ others_step kept (not (same_lit m l)) m (others ls l) (others (map (lit_among_kept kept) ls) (lit_among_kept kept l)) (others_at kept ls l (λ x i. h x (inr i)) k)

pub negations_at : (kept : List Obj) (ls : List Lit) → map negation (map (lit_among_kept kept) ls) ≡ map (lit_among_kept kept) (map negation ls)
negations_at kept [] = refl
negations_at kept (l ∷ ls) = ap (λ xs. lit_among_kept kept (negation l) ∷ xs) (negations_at kept ls)
