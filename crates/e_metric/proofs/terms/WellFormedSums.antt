-- Sums that are well formed, part by part.
use Rattle.std.proofs.Common.{◌≡◌, ℕ, ◌+◌, List, [], ◌∷◌, ◌++◌, length, ap, ap₂, ◌∙◌, Bool, true, ◌&&◌, take, Some, length-append}
use Rattle.std.specs.Prelude.{nat_le, slice_get}
use Rattle.std.specs.List.{list_all}
use Rattle.std.proofs.lemmas.List.Folds.{list_all-append}
use Rattle.e_literal.specs.declared.object.Kind.{Kind}
use Rattle.e_literal.specs.declared.object.Mono.{Mono}
use Rattle.e_literal.specs.declared.literal.Lit.{Lit}
use Rattle.e_literal.specs.Literal.{kind_of_term, kind_of_sums}
use Rattle.e_literal.specs.WellFormed.{same_kind, is_bounded_coefficient, are_well_formed_sums}
use Rattle.e_clause.specs.Assignment.{terms_of_atom, terms_of_lits}
use Rattle.e_metric.proofs.rows.Forms.{none_more}
use Rattle.e_metric.proofs.terms.FirstTerms.{take_one, lits_append}

abbrev good_of : Kind → Mono → Bool
good_of which m = same_kind (kind_of_term m.term) which && is_bounded_coefficient m.coeff

pub parts : (x y : List Mono) → are_well_formed_sums x y ≡ (nat_le 1 (length x + length y) && (nat_le (length x + length y) 32
    && (list_all (λ m. same_kind (kind_of_term m.term) (kind_of_sums x y) && is_bounded_coefficient m.coeff) x && list_all (λ m. same_kind (kind_of_term m.term) (kind_of_sums x y) && is_bounded_coefficient m.coeff) y)))
parts x y =
    ap₂ {A = ℕ} {B = Bool} (λ n b. nat_le 1 n && (nat_le n 32 && b)) (length-append x y) (list_all-append (good_of (kind_of_sums x y)) x y)

-- one fact more
pub monomials_more : (facts : List Lit) (i : ℕ) (l : Lit) → slice_get facts i ≡ Some l
    → length (terms_of_lits (take (i + 1) facts)) ≡ length (terms_of_lits (take i facts)) + length (terms_of_atom l.atom)
monomials_more facts i l h =
    ap (λ ls. length (terms_of_lits ls)) (take_one facts i l h)
    ∙ ap (λ ts. length ts) (lits_append (take i facts) (l ∷ []))
    ∙ length-append (terms_of_lits (take i facts)) (terms_of_atom l.atom ++ [])
    ∙ ap (λ ts. length (terms_of_lits (take i facts)) + length ts) (none_more (terms_of_atom l.atom))

-- ---- a test of each

pub all_more : (p : Lit → Bool) (ls : List Lit) (i : ℕ) (l : Lit) → slice_get ls i ≡ Some l → list_all p (take i ls) ≡ true → p l ≡ true → list_all p (take (i + 1) ls) ≡ true
all_more p ls i l h k e =
    ap (list_all p) (take_one ls i l h)
    ∙ list_all-append p (take i ls) (l ∷ [])
    ∙ ap₂ {A = Bool} {B = Bool} (λ a b. a && (b && true)) k e
