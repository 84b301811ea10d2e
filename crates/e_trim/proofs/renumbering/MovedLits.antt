-- Literals by the numbers that their objects take.
use Rattle.std.proofs.Common.{◌≡◌, ℕ, List, [], ◌∷◌, ◌++◌, map, refl, sym, ap, ◌∙◌, subst, inl, inr}
use Rattle.std.proofs.lemmas.List.{map-append}
use Rattle.e_literal.specs.declared.object.Obj.{Obj}
use Rattle.e_literal.specs.declared.object.Mono.{Mono}
use Rattle.e_literal.specs.declared.object.Term.{Term}
use Rattle.e_literal.specs.declared.object.Term.TheVariants.{Seg, Ang, Area, Right}
use Rattle.e_literal.specs.declared.object.Sort.{Sort}
use Rattle.e_literal.specs.declared.object.Sort.TheVariants.{Point, Line, Circle}
use Rattle.e_literal.specs.declared.literal.Atom.{Atom}
use Rattle.e_literal.specs.declared.literal.Atom.TheVariants.{On, OnC, Inside, Center, Between, Same, MeetLL, MeetLC, MeetCC, EqP, EqL, EqC, MagEq, MagLt}
use Rattle.e_literal.specs.declared.literal.Lit.{Lit}
use Rattle.e_literal.specs.Literal.{obj, objects_of_term, objects_of_sum, objects_of_atom}
use Rattle.e_literal.specs.Rename.{term_at, mono_at, atom_at}
use Rattle.e_trim.specs.Trimmed.{kept_before, lit_among_kept}
use Rattle.e_trim.proofs.renumbering.Members.{In, in_left, in_right}

-- the number that takes the place of one of a sort
abbrev pub Numbers : Type 0
Numbers = Sort → ℕ → ℕ

abbrev pub atom_by : Numbers → Atom → Atom
atom_by f a = atom_at (f Point) (f Line) (f Circle) a

-- these objects take the same numbers
abbrev pub Agree : Numbers → Numbers → List Obj → Type 0
Agree f g os = (o : Obj) → In o os → f o.sort o.num ≡ g o.sort o.num

left_agree : (f g : Numbers) (xs ys : List Obj) → Agree f g (xs ++ ys) → Agree f g xs
left_agree f g xs ys h o i = h o (in_left o xs ys i)

right_agree : (f g : Numbers) (xs ys : List Obj) → Agree f g (xs ++ ys) → Agree f g ys
right_agree f g xs ys h o i = h o (in_right o xs ys i)

pub same_term : (f g : Numbers) (t : Term) → Agree f g (objects_of_term t) → term_at (f Point) t ≡ term_at (g Point) t
same_term f g (Seg a b) h = let x = h (obj Point a) (inl refl) in let y = h (obj Point b) (inr (inl refl)) in rw (x, y) refl
same_term f g (Ang a b c) h = let x = h (obj Point a) (inl refl) in let y = h (obj Point b) (inr (inl refl)) in let z = h (obj Point c) (inr (inr (inl refl))) in rw (x, y, z) refl
same_term f g (Area a b c) h = let x = h (obj Point a) (inl refl) in let y = h (obj Point b) (inr (inl refl)) in let z = h (obj Point c) (inr (inr (inl refl))) in rw (x, y, z) refl
same_term f g Right h = refl

same_sum : (f g : Numbers) (ms : List Mono) → Agree f g (objects_of_sum ms) → map (mono_at (f Point)) ms ≡ map (mono_at (g Point)) ms
same_sum f g [] h = refl
same_sum f g (m ∷ ms) h =
    ap (λ t. record { coeff = m.coeff; term = t } ∷ map (mono_at (f Point)) ms) (same_term f g m.term (left_agree f g (objects_of_term m.term) (objects_of_sum ms) h))
    ∙ ap (λ xs. mono_at (g Point) m ∷ xs) (same_sum f g ms (right_agree f g (objects_of_term m.term) (objects_of_sum ms) h))

two : (f g : Numbers) (x y : Sort) (a b : ℕ) (form : ℕ → ℕ → Atom) → f x a ≡ g x a → f y b ≡ g y b → form (f x a) (f y b) ≡ form (g x a) (g y b)
two f g x y a b form e k = ap (λ n. form n (f y b)) e ∙ ap (form (g x a)) k

pub same_atom_by : (f g : Numbers) (a : Atom) → Agree f g (objects_of_atom a) → atom_by f a ≡ atom_by g a
same_atom_by f g (On a l) h = two f g Point Line a l On (h (obj Point a) (inl refl)) (h (obj Line l) (inr (inl refl)))
same_atom_by f g (OnC a c) h = two f g Point Circle a c OnC (h (obj Point a) (inl refl)) (h (obj Circle c) (inr (inl refl)))
same_atom_by f g (Inside a c) h = two f g Point Circle a c Inside (h (obj Point a) (inl refl)) (h (obj Circle c) (inr (inl refl)))
same_atom_by f g (Center a c) h = two f g Point Circle a c Center (h (obj Point a) (inl refl)) (h (obj Circle c) (inr (inl refl)))
same_atom_by f g (Between a b c) h =
    ap (λ n. Between n (f Point b) (f Point c)) (h (obj Point a) (inl refl)) ∙ two f g Point Point b c (Between (g Point a)) (h (obj Point b) (inr (inl refl))) (h (obj Point c) (inr (inr (inl refl))))
same_atom_by f g (Same a b l) h =
    ap (λ n. Same n (f Point b) (f Line l)) (h (obj Point a) (inl refl)) ∙ two f g Point Line b l (Same (g Point a)) (h (obj Point b) (inr (inl refl))) (h (obj Line l) (inr (inr (inl refl))))
same_atom_by f g (MeetLL l m) h = two f g Line Line l m MeetLL (h (obj Line l) (inl refl)) (h (obj Line m) (inr (inl refl)))
same_atom_by f g (MeetLC l c) h = two f g Line Circle l c MeetLC (h (obj Line l) (inl refl)) (h (obj Circle c) (inr (inl refl)))
same_atom_by f g (MeetCC c d) h = two f g Circle Circle c d MeetCC (h (obj Circle c) (inl refl)) (h (obj Circle d) (inr (inl refl)))
same_atom_by f g (EqP a b) h = two f g Point Point a b EqP (h (obj Point a) (inl refl)) (h (obj Point b) (inr (inl refl)))
same_atom_by f g (EqL l m) h = two f g Line Line l m EqL (h (obj Line l) (inl refl)) (h (obj Line m) (inr (inl refl)))
same_atom_by f g (EqC c d) h = two f g Circle Circle c d EqC (h (obj Circle c) (inl refl)) (h (obj Circle d) (inr (inl refl)))
same_atom_by f g (MagEq x y) h =
    ap (λ n. MagEq n (map (mono_at (f Point)) y)) (same_sum f g x (left_agree f g (objects_of_sum x) (objects_of_sum y) h))
    ∙ ap (MagEq (map (mono_at (g Point)) x)) (same_sum f g y (right_agree f g (objects_of_sum x) (objects_of_sum y) h))
same_atom_by f g (MagLt x y) h =
    ap (λ n. MagLt n (map (mono_at (f Point)) y)) (same_sum f g x (left_agree f g (objects_of_sum x) (objects_of_sum y) h))
    ∙ ap (MagLt (map (mono_at (g Point)) x)) (same_sum f g y (right_agree f g (objects_of_sum x) (objects_of_sum y) h))

-- with the same numbers a literal is the same
pub with_numbers : (kept more : List Obj) (l : Lit) → Agree (kept_before more) (kept_before kept) (objects_of_atom l.atom) → lit_among_kept more l ≡ lit_among_kept kept l
with_numbers kept more l h = ap (λ a. record { neg = l.neg; atom = a }) (same_atom_by (kept_before more) (kept_before kept) l.atom h)

-- ---- numbers after numbers

abbrev pub after : Numbers → Numbers → Numbers
after g f sort n = g sort (f sort n)

term_after : (g f : Numbers) (t : Term) → term_at (g Point) (term_at (f Point) t) ≡ term_at (after g f Point) t
term_after g f (Seg a b) = refl
term_after g f (Ang a b c) = refl
term_after g f (Area a b c) = refl
term_after g f Right = refl

sum_after : (g f : Numbers) (ms : List Mono) → map (mono_at (g Point)) (map (mono_at (f Point)) ms) ≡ map (mono_at (after g f Point)) ms
sum_after g f [] = refl
sum_after g f (m ∷ ms) =
    ap (λ t. record { coeff = m.coeff; term = t } ∷ map (mono_at (g Point)) (map (mono_at (f Point)) ms)) (term_after g f m.term)
    ∙ ap (λ xs. mono_at (after g f Point) m ∷ xs) (sum_after g f ms)

pub atom_after : (g f : Numbers) (a : Atom) → atom_by g (atom_by f a) ≡ atom_by (after g f) a
atom_after g f (MagEq x y) = ap (λ n. MagEq n (map (mono_at (g Point)) (map (mono_at (f Point)) y))) (sum_after g f x) ∙ ap (MagEq (map (mono_at (after g f Point)) x)) (sum_after g f y)
atom_after g f (MagLt x y) = ap (λ n. MagLt n (map (mono_at (g Point)) (map (mono_at (f Point)) y))) (sum_after g f x) ∙ ap (MagLt (map (mono_at (after g f Point)) x)) (sum_after g f y)
atom_after g f a = refl

-- a literal by some numbers, over the kept objects, is the literal by others, where these are the new numbers of those
pub moved_atom : (kept : List Obj) (f g : Numbers) (a : Atom) → Agree g (after (kept_before kept) f) (objects_of_atom a) → atom_by g a ≡ atom_by (kept_before kept) (atom_by f a)
moved_atom kept f g a h = same_atom_by g (after (kept_before kept) f) a h ∙ sym (atom_after (kept_before kept) f a)

-- ---- the objects of a literal by some numbers

abbrev pub obj_by : Numbers → Obj → Obj
obj_by f o = obj o.sort (f o.sort o.num)

term_objects : (f : Numbers) (t : Term) → objects_of_term (term_at (f Point) t) ≡ map (obj_by f) (objects_of_term t)
term_objects f (Seg a b) = refl
term_objects f (Ang a b c) = refl
term_objects f (Area a b c) = refl
term_objects f Right = refl

sum_objects : (f : Numbers) (ms : List Mono) → objects_of_sum (map (mono_at (f Point)) ms) ≡ map (obj_by f) (objects_of_sum ms)
sum_objects f [] = refl
sum_objects f (m ∷ ms) =
    ap (λ os. os ++ objects_of_sum (map (mono_at (f Point)) ms)) (term_objects f m.term)
    ∙ ap (λ os. map (obj_by f) (objects_of_term m.term) ++ os) (sum_objects f ms) ∙ sym (map-append (obj_by f) (objects_of_term m.term) (objects_of_sum ms))

sums_objects : (f : Numbers) (x y : List Mono) → objects_of_sum (map (mono_at (f Point)) x) ++ objects_of_sum (map (mono_at (f Point)) y) ≡ map (obj_by f) (objects_of_sum x ++ objects_of_sum y)
sums_objects f x y =
    ap (λ os. os ++ objects_of_sum (map (mono_at (f Point)) y)) (sum_objects f x) ∙ ap (λ os. map (obj_by f) (objects_of_sum x) ++ os) (sum_objects f y)
    ∙ sym (map-append (obj_by f) (objects_of_sum x) (objects_of_sum y))

pub objects_by : (f : Numbers) (a : Atom) → objects_of_atom (atom_by f a) ≡ map (obj_by f) (objects_of_atom a)
objects_by f (MagEq x y) = sums_objects f x y
objects_by f (MagLt x y) = sums_objects f x y
objects_by f a = refl

map_back : (f : Numbers) (x : Obj) (os : List Obj) → In x (map (obj_by f) os) → (o : Obj) × In o os × (obj_by f o ≡ x)
map_back f x [] i = absurd i
map_back f x (o ∷ os) (inl e) = (o, inl refl, e)
map_back f x (o ∷ os) (inr i) = let r = map_back f x os i in (r.0, inr r.1, r.2)

-- an object of it is the image of one of the literal's
pub object_from : (f : Numbers) (a : Atom) (x : Obj) → In x (objects_of_atom (atom_by f a)) → (o : Obj) × In o (objects_of_atom a) × (obj_by f o ≡ x)
object_from f a x i = map_back f x (objects_of_atom a) (subst (λ os. In x os) (objects_by f a) i)

-- ---- own numbers

own_term : (t : Term) → term_at (λ n. n) t ≡ t
own_term (Seg a b) = refl
own_term (Ang a b c) = refl
own_term (Area a b c) = refl
own_term Right = refl

own_sum : (ms : List Mono) → map (mono_at (λ n. n)) ms ≡ ms
own_sum [] = refl
own_sum (m ∷ ms) = ap (λ t. record { coeff = m.coeff; term = t } ∷ map (mono_at (λ n. n)) ms) (own_term m.term) ∙ ap (λ xs. m ∷ xs) (own_sum ms)

pub own_atom : (a : Atom) → atom_by (λ sort n. n) a ≡ a
own_atom (MagEq x y) = ap (λ n. MagEq n (map (mono_at (λ k. k)) y)) (own_sum x) ∙ ap (MagEq x) (own_sum y)
own_atom (MagLt x y) = ap (λ n. MagLt n (map (mono_at (λ k. k)) y)) (own_sum x) ∙ ap (MagLt x) (own_sum y)
own_atom a = refl
