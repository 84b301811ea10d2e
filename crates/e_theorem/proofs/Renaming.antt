-- Literals with the images of their objects: which are equal, in scope, and well formed.
use Rattle.std.proofs.Common.{◌≡◌, ℕ, Bool, true, ◌&&◌, List, [], ◌∷◌, ◌++◌, map, Option, refl, ap, ◌∙◌}
use Rattle.std.specs.List.{list_all}
use Rattle.e_literal.specs.declared.object.Sort.TheVariants.{Point, Line, Circle}
use Rattle.e_literal.specs.declared.object.Obj.{Obj}
use Rattle.e_literal.specs.declared.object.Term.{Term}
use Rattle.e_literal.specs.declared.object.Term.TheVariants as terms
use Rattle.e_literal.specs.declared.object.Mono.{Mono}
use Rattle.e_literal.specs.declared.literal.Atom.{Atom}
use Rattle.e_literal.specs.declared.literal.Atom.TheVariants as atoms
use Rattle.e_literal.specs.declared.literal.Lit.{Lit}
use Rattle.e_literal.specs.Literal.{obj, objects_of_term, objects_of_sum, objects_of_atom}
use Rattle.e_literal.specs.Rename.{term_at, mono_at, atom_at, number_at, with_images}
use Rattle.e_literal.proofs.Booleans.{and_left, and_right, all_left, all_right}

-- an object has the same image by both
abbrev pub Same : (Obj → Option Obj) → (Obj → Option Obj) → Obj → Type 0
Same f g o = number_at f o.sort o.num ≡ number_at g o.sort o.num

-- ---- equal literals

same_two : (p : Obj → Bool) (a b : Obj) (make : ℕ → ℕ → Atom) (x y x' y' : ℕ) → (p a ≡ true → x ≡ x') → (p b ≡ true → y ≡ y')
    → (p a && (p b && true)) ≡ true → make x y ≡ make x' y'
same_two p a b make x y x' y' h k both =
    let first = h (and_left (p a) _ both) in
    let second = k (and_left (p b) true (and_right (p a) _ both)) in
    cc

same_three : (p : Obj → Bool) (a b c : Obj) (make : ℕ → ℕ → ℕ → Atom) (x y z x' y' z' : ℕ) → (p a ≡ true → x ≡ x') → (p b ≡ true → y ≡ y') → (p c ≡ true → z ≡ z')
    → (p a && (p b && (p c && true))) ≡ true → make x y z ≡ make x' y' z'
same_three p a b c make x y z x' y' z' h k l all =
    let first = h (and_left (p a) _ all) in
    let rest = and_right (p a) _ all in
    let second = k (and_left (p b) _ rest) in
    let third = l (and_left (p c) true (and_right (p b) _ rest)) in
    cc

same_term : (f g : Obj → Option Obj) (p : Obj → Bool) → ((o : Obj) → p o ≡ true → Same f g o) → (t : Term) → list_all p (objects_of_term t) ≡ true
    → term_at (number_at f Point) t ≡ term_at (number_at g Point) t
same_term f g p h (terms.Seg x y) k =
    let first = h (obj Point x) (and_left (p (obj Point x)) _ k) in
    let second = h (obj Point y) (and_left (p (obj Point y)) true (and_right (p (obj Point x)) _ k)) in
    cc
same_term f g p h (terms.Ang x y z) k =
    let rest = and_right (p (obj Point x)) _ k in
    let first = h (obj Point x) (and_left (p (obj Point x)) _ k) in
    let second = h (obj Point y) (and_left (p (obj Point y)) _ rest) in
    let third = h (obj Point z) (and_left (p (obj Point z)) true (and_right (p (obj Point y)) _ rest)) in
    cc
same_term f g p h (terms.Area x y z) k =
    let rest = and_right (p (obj Point x)) _ k in
    let first = h (obj Point x) (and_left (p (obj Point x)) _ k) in
    let second = h (obj Point y) (and_left (p (obj Point y)) _ rest) in
    let third = h (obj Point z) (and_left (p (obj Point z)) true (and_right (p (obj Point y)) _ rest)) in
    cc
same_term f g p h terms.Right k = refl

same_sum : (f g : Obj → Option Obj) (p : Obj → Bool) → ((o : Obj) → p o ≡ true → Same f g o) → (ms : List Mono) → list_all p (objects_of_sum ms) ≡ true
    → map (mono_at (number_at f Point)) ms ≡ map (mono_at (number_at g Point)) ms
same_sum f g p h [] k = refl
same_sum f g p h (m ∷ ms) k =
    let first = same_term f g p h m.term (all_left p (objects_of_term m.term) (objects_of_sum ms) k) in
    let rest = same_sum f g p h ms (all_right p (objects_of_term m.term) (objects_of_sum ms) k) in
    ap (λ t. record { coeff = m.coeff; term = t } ∷ map (mono_at (number_at f Point)) ms) first
    ∙ ap (λ xs. record { coeff = m.coeff; term = term_at (number_at g Point) m.term } ∷ xs) rest

same_sums : (f g : Obj → Option Obj) (p : Obj → Bool) → ((o : Obj) → p o ≡ true → Same f g o) → (make : List Mono → List Mono → Atom) (x y : List Mono)
    → list_all p (objects_of_sum x ++ objects_of_sum y) ≡ true
    → make (map (mono_at (number_at f Point)) x) (map (mono_at (number_at f Point)) y) ≡ make (map (mono_at (number_at g Point)) x) (map (mono_at (number_at g Point)) y)
same_sums f g p h make x y k =
    let first = same_sum f g p h x (all_left p (objects_of_sum x) (objects_of_sum y) k) in
    let second = same_sum f g p h y (all_right p (objects_of_sum x) (objects_of_sum y) k) in
    ap (λ l. make l (map (mono_at (number_at f Point)) y)) first ∙ ap (λ l. make (map (mono_at (number_at g Point)) x) l) second

same_atom : (f g : Obj → Option Obj) (p : Obj → Bool) → ((o : Obj) → p o ≡ true → Same f g o) → (a : Atom) → list_all p (objects_of_atom a) ≡ true
    → atom_at (number_at f Point) (number_at f Line) (number_at f Circle) a ≡ atom_at (number_at g Point) (number_at g Line) (number_at g Circle) a
same_atom f g p h (atoms.On x y) k = same_two p (obj Point x) (obj Line y) (λ m n. atoms.On m n) _ _ _ _ (h (obj Point x)) (h (obj Line y)) k
same_atom f g p h (atoms.OnC x y) k = same_two p (obj Point x) (obj Circle y) (λ m n. atoms.OnC m n) _ _ _ _ (h (obj Point x)) (h (obj Circle y)) k
same_atom f g p h (atoms.Inside x y) k = same_two p (obj Point x) (obj Circle y) (λ m n. atoms.Inside m n) _ _ _ _ (h (obj Point x)) (h (obj Circle y)) k
same_atom f g p h (atoms.Center x y) k = same_two p (obj Point x) (obj Circle y) (λ m n. atoms.Center m n) _ _ _ _ (h (obj Point x)) (h (obj Circle y)) k
same_atom f g p h (atoms.MeetLL x y) k = same_two p (obj Line x) (obj Line y) (λ m n. atoms.MeetLL m n) _ _ _ _ (h (obj Line x)) (h (obj Line y)) k
same_atom f g p h (atoms.MeetLC x y) k = same_two p (obj Line x) (obj Circle y) (λ m n. atoms.MeetLC m n) _ _ _ _ (h (obj Line x)) (h (obj Circle y)) k
same_atom f g p h (atoms.MeetCC x y) k = same_two p (obj Circle x) (obj Circle y) (λ m n. atoms.MeetCC m n) _ _ _ _ (h (obj Circle x)) (h (obj Circle y)) k
same_atom f g p h (atoms.EqP x y) k = same_two p (obj Point x) (obj Point y) (λ m n. atoms.EqP m n) _ _ _ _ (h (obj Point x)) (h (obj Point y)) k
same_atom f g p h (atoms.EqL x y) k = same_two p (obj Line x) (obj Line y) (λ m n. atoms.EqL m n) _ _ _ _ (h (obj Line x)) (h (obj Line y)) k
same_atom f g p h (atoms.EqC x y) k = same_two p (obj Circle x) (obj Circle y) (λ m n. atoms.EqC m n) _ _ _ _ (h (obj Circle x)) (h (obj Circle y)) k
same_atom f g p h (atoms.Between x y z) k = same_three p (obj Point x) (obj Point y) (obj Point z) (λ m n l. atoms.Between m n l) _ _ _ _ _ _ (h (obj Point x)) (h (obj Point y)) (h (obj Point z)) k
same_atom f g p h (atoms.Same x y z) k = same_three p (obj Point x) (obj Point y) (obj Line z) (λ m n l. atoms.Same m n l) _ _ _ _ _ _ (h (obj Point x)) (h (obj Point y)) (h (obj Line z)) k
same_atom f g p h (atoms.MagEq x y) k = same_sums f g p h (λ l m. atoms.MagEq l m) x y k
same_atom f g p h (atoms.MagLt x y) k = same_sums f g p h (λ l m. atoms.MagLt l m) x y k

-- where each object of the literal has the same image by both, it becomes the same literal
pub same_renamed : (f g : Obj → Option Obj) (p : Obj → Bool) → ((o : Obj) → p o ≡ true → Same f g o) → (l : Lit) → list_all p (objects_of_atom l.atom) ≡ true → with_images f l ≡ with_images g l
same_renamed f g p h l k = ap (λ a. record { neg = l.neg; atom = a }) (same_atom f g p h l.atom k)
