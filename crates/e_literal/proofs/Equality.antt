-- `==` of normal forms says whether they are equal.
use Rattle.std.proofs.Common.{◌≡◌, ℕ, ◌↔◌, refl, sym, ap, ◌∙◌, Bool, true, false, ◌&&◌, IsTrue, true≢false, List}
use Rattle.std.specs.Prelude.{ℤ, ◌==◌}
use Rattle.std.specs.Bool.{Decides, one_answer}
use mathlib.Core.Bool.{beq}
use Rattle.std.specs.Ordering.{int_eq}
use Rattle.std.specs.BTreeMap.{BTreeMap}
use Rattle.std.specs.Cmp.Lexicographic.{pointwise}
use Rattle.std.proofs.lemmas.Bool.Decides.{Decides-int_eq}
use Rattle.std.proofs.lemmas.Map.Lookups.{btree_map_eq-Decides}
use Rattle.e_literal.specs.declared.literal.Lit.{Lit}
use Rattle.e_literal.specs.declared.object.Term.{Term}
use Rattle.e_literal.specs.declared.object.Term.TheVariants.{Seg, Ang, Area, Right}
use Rattle.e_literal.specs.declared.normals.Normal.{Normal}
use Rattle.e_literal.specs.declared.normals.NormalAtom.{NormalAtom as Kept}
use Rattle.e_literal.specs.declared.normals.NormalAtom.TheVariants.{On, OnC, Inside, Center, Between, Same, MeetLL, MeetLC, MeetCC, EqP, EqL, EqC, MagEq, MagLt}
use Rattle.e_literal.specs.contracts.object.TermPartialEq.TheImpl.{eq-value as term_test}
use Rattle.e_literal.specs.contracts.normals.NormalAtomPartialEq.TheImpl.{eq-value as atom_test}
use Rattle.e_literal.specs.contracts.normals.NormalPartialEq.TheImpl.{eq-value as test}
use Rattle.e_literal.specs.Same.{term_eq, same_lit}
use Rattle.e_literal.specs.NormalForm.{NormalAtom, Diagram, Equation, Inequality, normal_form}
use Rattle.e_literal.specs.Normal.{normal_atom_of, form_of}
use Rattle.e_literal.proofs.Terms.{term_eq_is, term_eq_same}
use Rattle.e_literal.proofs.NormalLiterals.{two_are, three_are, two_itself, three_itself, normals_are_same}
use Rattle.e_literal.proofs.Booleans.{and_left, and_right}

-- ---- terms

term_test_is : (s t : Term) → term_test.it s t ≡ term_eq s t
term_test_is (Seg a b) (Seg c d) = refl
term_test_is (Ang a b c) (Ang d e f) = refl
term_test_is (Area a b c) (Area d e f) = refl
term_test_is Right Right = refl
term_test_is s t = refl

term_decides : (s t : Term) → Decides (term_test.it s t) (s ≡ t)
term_decides s t = (
  λ h. term_eq_is s t (sym (term_test_is s t) ∙ h),
  λ e. term_test_is s t ∙ ap (term_eq s) (sym e) ∙ term_eq_same s,
)

forms_decide : (m n : BTreeMap Term ℤ) → Decides (pointwise (λ p q. term_test.it p.0 q.0 && int_eq p.1 q.1) m.entries n.entries) (m.entries ≡ n.entries)
forms_decide m n = btree_map_eq-Decides term_decides Decides-int_eq m n _ refl

-- ---- atoms

atom_is : (a b : Kept) → atom_test.it a b ≡ true → normal_atom_of a ≡ normal_atom_of b
atom_is (On a b) (On c d) h = let e = two_are a b c d h in cc
atom_is (OnC a b) (OnC c d) h = let e = two_are a b c d h in cc
atom_is (Inside a b) (Inside c d) h = let e = two_are a b c d h in cc
atom_is (Center a b) (Center c d) h = let e = two_are a b c d h in cc
atom_is (Between a b c) (Between d e f) h = let k = three_are a b c d e f h in cc
atom_is (Same a b c) (Same d e f) h = let k = three_are a b c d e f h in cc
atom_is (MeetLL a b) (MeetLL c d) h = let e = two_are a b c d h in cc
atom_is (MeetLC a b) (MeetLC c d) h = let e = two_are a b c d h in cc
atom_is (MeetCC a b) (MeetCC c d) h = let e = two_are a b c d h in cc
atom_is (EqP a b) (EqP c d) h = let e = two_are a b c d h in cc
atom_is (EqL a b) (EqL c d) h = let e = two_are a b c d h in cc
atom_is (EqC a b) (EqC c d) h = let e = two_are a b c d h in cc
atom_is (MagEq m) (MagEq n) h = ap Equation ((forms_decide m n).0 h)
atom_is (MagLt m) (MagLt n) h = ap Inequality ((forms_decide m n).0 h)
atom_is a b h = absurd (true≢false (sym h))

two_of : (a b c d : ℕ) → a ≡ c → b ≡ d → (a == c && b == d) ≡ true
two_of a b c d e f = ap (λ n. a == n && b == d) (sym e) ∙ ap (λ n. a == a && b == n) (sym f) ∙ two_itself a b

three_of : (a b c d e f : ℕ) → a ≡ d → b ≡ e → c ≡ f → (a == d && (b == e && c == f)) ≡ true
three_of a b c d e f p q r =
    ap (λ n. a == n && (b == e && c == f)) (sym p) ∙ ap (λ n. a == a && (b == n && c == f)) (sym q) ∙ ap (λ n. a == a && (b == b && c == n)) (sym r) ∙ three_itself a b c

of_atom : (a b : Kept) → normal_atom_of a ≡ normal_atom_of b → atom_test.it a b ≡ true
of_atom (On a b) (On c d) e = let p : a ≡ c = cc in let q : b ≡ d = cc in two_of a b c d p q
of_atom (OnC a b) (OnC c d) e = let p : a ≡ c = cc in let q : b ≡ d = cc in two_of a b c d p q
of_atom (Inside a b) (Inside c d) e = let p : a ≡ c = cc in let q : b ≡ d = cc in two_of a b c d p q
of_atom (Center a b) (Center c d) e = let p : a ≡ c = cc in let q : b ≡ d = cc in two_of a b c d p q
of_atom (Between a b c) (Between d e f) z = let p : a ≡ d = cc in let q : b ≡ e = cc in let r : c ≡ f = cc in three_of a b c d e f p q r
of_atom (Same a b c) (Same d e f) z = let p : a ≡ d = cc in let q : b ≡ e = cc in let r : c ≡ f = cc in three_of a b c d e f p q r
of_atom (MeetLL a b) (MeetLL c d) e = let p : a ≡ c = cc in let q : b ≡ d = cc in two_of a b c d p q
of_atom (MeetLC a b) (MeetLC c d) e = let p : a ≡ c = cc in let q : b ≡ d = cc in two_of a b c d p q
of_atom (MeetCC a b) (MeetCC c d) e = let p : a ≡ c = cc in let q : b ≡ d = cc in two_of a b c d p q
of_atom (EqP a b) (EqP c d) e = let p : a ≡ c = cc in let q : b ≡ d = cc in two_of a b c d p q
of_atom (EqL a b) (EqL c d) e = let p : a ≡ c = cc in let q : b ≡ d = cc in two_of a b c d p q
of_atom (EqC a b) (EqC c d) e = let p : a ≡ c = cc in let q : b ≡ d = cc in two_of a b c d p q
of_atom (MagEq m) (MagEq n) e = let f : m.entries ≡ n.entries = cc in (forms_decide m n).1 f
of_atom (MagLt m) (MagLt n) e = let f : m.entries ≡ n.entries = cc in (forms_decide m n).1 f
of_atom a b e = cc

-- ---- normal forms

beq_is : (a b : Bool) → beq a b ≡ true → a ≡ b
beq_is true true h = refl
beq_is true false h = sym h
beq_is false true h = h
beq_is false false h = refl

beq_itself : (a : Bool) → beq a a ≡ true
beq_itself true = refl
beq_itself false = refl

normal_is : (m n : Normal) → test.it m n ≡ true → form_of m ≡ form_of n
normal_is m n h =
    let s = beq_is m.negated n.negated (and_left _ _ h) in
    let a = atom_is m.atom n.atom (and_right _ _ h) in cc

of_normal : (m n : Normal) → form_of m ≡ form_of n → test.it m n ≡ true
of_normal m n e =
    let s = ap (beq m.negated) (sym (ap (λ f. f.neg) e)) ∙ beq_itself m.negated in
    let a = of_atom m.atom n.atom (ap (λ f. f.atom) e) in
    ap (λ b. b && atom_test.it m.atom n.atom) s ∙ a

pub normals_decide : (m n : Normal) (r : Bool) → r ≡ test.it m n → IsTrue r ↔ (form_of m ≡ form_of n)
normals_decide m n r e = (λ h. normal_is m n (sym e ∙ h), λ f. e ∙ of_normal m n f)

pub normals_tell : (m n : Normal) (r : Bool) → r ≡ test.it m n → (a b : Lit) → form_of m ≡ normal_form a → form_of n ≡ normal_form b → r ≡ same_lit a b
normals_tell m n r e a b f g =
    let law = normals_are_same a b in
    one_answer r (same_lit a b) (normals_decide m n r e) (λ h. f ∙ law.1 h ∙ sym g, λ k. law.0 (sym f ∙ k ∙ g))
