-- Sums that are written alike.
use Rattle.std.proofs.Common.{◌≡◌, refl, sym, ap, ◌∙◌, List, [], ◌∷◌, Bool, true, false, true≢false, eqb-true}
use Rattle.std.specs.Prelude.{◌==◌, ◌&&◌}
use Rattle.std.specs.Cmp.Lexicographic.{pointwise}
use Rattle.e_literal.specs.declared.object.Mono.{Mono}
use Rattle.e_literal.specs.declared.object.Term.{Term}
use Rattle.e_literal.specs.declared.object.Term.TheVariants.{Seg, Ang, Area, Right}
use Rattle.e_literal.specs.contracts.object.MonoPartialEq.TheImpl.{eq-value as test}
use Rattle.e_literal.specs.contracts.object.TermPartialEq.TheImpl.{eq-value as term_test}
use Rattle.e_literal.specs.Same.{term_eq}
use Rattle.e_literal.proofs.Terms.{term_eq_is}
use Rattle.e_literal.proofs.Booleans.{and_left, and_right}

term_test_is : (s t : Term) → term_test.it s t ≡ term_eq s t
term_test_is (Seg a b) (Seg c d) = refl
term_test_is (Ang a b c) (Ang d e f) = refl
term_test_is (Area a b c) (Area d e f) = refl
term_test_is Right Right = refl
term_test_is s t = refl

mono_is : (m n : Mono) → test.it m n ≡ true → m ≡ n
mono_is m n h =
    let c : m.coeff ≡ n.coeff = eqb-true m.coeff n.coeff (and_left (m.coeff == n.coeff) (term_test.it m.term n.term) h) in
    let t : m.term ≡ n.term = term_eq_is m.term n.term (sym (term_test_is m.term n.term) ∙ and_right (m.coeff == n.coeff) (term_test.it m.term n.term) h) in
    λ i. record { coeff = c i; term = t i }

pub alike : (x y : List Mono) → pointwise test.it x y ≡ true → x ≡ y
alike [] [] h = refl
alike [] (n ∷ y) h = absurd (true≢false (sym h))
alike (m ∷ x) [] h = absurd (true≢false (sym h))
alike (m ∷ x) (n ∷ y) h =
    let e : m ≡ n = mono_is m n (and_left (test.it m n) (pointwise test.it x y) h) in
    let f : x ≡ y = alike x y (and_right (test.it m n) (pointwise test.it x y) h) in
    cc
