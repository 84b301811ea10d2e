-- The normal forms of two literals are equal exactly where the literals are the same.
use Rattle.std.proofs.Common.{◌≡◌, ℕ, ◌↔◌, refl, sym, ap, subst, ◌∙◌, Bool, true, ◌&&◌, ◌||◌, IsTrue, true≢false, eqb-true}
use Rattle.std.specs.Prelude.{◌==◌}
use Rattle.e_literal.specs.declared.literal.Lit.{Lit}
use Rattle.e_literal.specs.declared.literal.Atom.{Atom}
use Rattle.e_literal.specs.declared.literal.Atom.TheVariants.{On, OnC, Inside, Center, Between, Same, MeetLL, MeetLC, MeetCC, EqP, EqL, EqC, MagEq, MagLt}
use Rattle.e_literal.specs.Same.{agree, same_neg, same_atom, same_lit}
use Rattle.e_literal.specs.NormalForm.{NormalAtom, Diagram, Equation, Inequality, normal_sum, normal_up_to_sign, normal_atom, normal_form}
use Rattle.e_literal.proofs.Agreeing.{equal_of_agree, agree_of_equal, same_atom_self}
use Rattle.e_literal.proofs.NormalForms.{form_of_equal, equal_of_form, agree_up_to_sign, up_to_sign_of_agree}
use Rattle.e_literal.proofs.Booleans.{and_left, and_right, same_neg_is, same_neg_self, eqb_self}

pub two_itself : (a b : ℕ) → (a == a && b == b) ≡ true
two_itself a b = rw (eqb_self a, eqb_self b) refl

pub three_itself : (a b c : ℕ) → (a == a && (b == b && c == c)) ≡ true
three_itself a b c = rw (eqb_self a, eqb_self b, eqb_self c) refl

same_of_diagram : (a b : Atom) → Diagram a ≡ Diagram b → same_atom a b ≡ true
same_of_diagram a b e = let is : a ≡ b = cc in subst (λ (c : Atom). same_atom a c ≡ true) is (same_atom_self a)

same_of_normal : (a b : Atom) → normal_atom a ≡ normal_atom b → same_atom a b ≡ true
same_of_normal (MagEq x y) (MagEq z w) e = let f : normal_up_to_sign x y ≡ normal_up_to_sign z w = cc in agree_up_to_sign x y z w f
same_of_normal (MagLt x y) (MagLt z w) e = let f : normal_sum x y ≡ normal_sum z w = cc in agree_of_equal x y z w (equal_of_form x y z w f)
same_of_normal (MagEq x y) b e = cc
same_of_normal (MagLt x y) b e = cc
same_of_normal a (MagEq z w) e = cc
same_of_normal a (MagLt z w) e = cc
same_of_normal a b e = same_of_diagram a b e

pub two_are : (a b c d : ℕ) → (a == c && b == d) ≡ true → (a ≡ c) × (b ≡ d)
two_are a b c d h = (eqb-true a c (and_left _ _ h), eqb-true b d (and_right _ _ h))

pub three_are : (a b c d e f : ℕ) → (a == d && (b == e && c == f)) ≡ true → (a ≡ d) × (b ≡ e) × (c ≡ f)
three_are a b c d e f h = (eqb-true a d (and_left _ _ h), eqb-true b e (and_left _ _ (and_right _ _ h)), eqb-true c f (and_right _ _ (and_right _ _ h)))

normal_of_same : (a b : Atom) → same_atom a b ≡ true → normal_atom a ≡ normal_atom b
normal_of_same (On a b) (On c d) h = let e = two_are a b c d h in cc
normal_of_same (OnC a b) (OnC c d) h = let e = two_are a b c d h in cc
normal_of_same (Inside a b) (Inside c d) h = let e = two_are a b c d h in cc
normal_of_same (Center a b) (Center c d) h = let e = two_are a b c d h in cc
normal_of_same (Between a b c) (Between d e f) h = let k = three_are a b c d e f h in cc
normal_of_same (Same a b c) (Same d e f) h = let k = three_are a b c d e f h in cc
normal_of_same (MeetLL a b) (MeetLL c d) h = let e = two_are a b c d h in cc
normal_of_same (MeetLC a b) (MeetLC c d) h = let e = two_are a b c d h in cc
normal_of_same (MeetCC a b) (MeetCC c d) h = let e = two_are a b c d h in cc
normal_of_same (EqP a b) (EqP c d) h = let e = two_are a b c d h in cc
normal_of_same (EqL a b) (EqL c d) h = let e = two_are a b c d h in cc
normal_of_same (EqC a b) (EqC c d) h = let e = two_are a b c d h in cc
normal_of_same (MagEq x y) (MagEq z w) h = ap Equation (up_to_sign_of_agree x y z w h)
normal_of_same (MagLt x y) (MagLt z w) h = ap Inequality (form_of_equal x y z w (equal_of_agree x y z w h))
normal_of_same a b h = absurd (true≢false (sym h))

pub normals_are_same : (a b : Lit) → (normal_form a ≡ normal_form b) ↔ IsTrue (same_lit a b)
normals_are_same a b = (
  λ e. let n : same_neg a.neg b.neg ≡ true = subst (λ (s : Bool). same_neg a.neg s ≡ true) (ap (λ f. f.neg) e) (same_neg_self a.neg) in
      let k : same_atom a.atom b.atom ≡ true = same_of_normal a.atom b.atom (ap (λ f. f.atom) e) in
      rw (n, k) refl,
  λ h. let n = same_neg_is a.neg b.neg (and_left _ _ h) in
      let k = normal_of_same a.atom b.atom (and_right _ _ h) in cc,
)
