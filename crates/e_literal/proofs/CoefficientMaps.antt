-- What the program keeps of a normal form, against the definitions.
use Rattle.std.proofs.Common.{◌≡◌, ℕ, List, [], ◌∷◌, refl, sym, ap, ◌∙◌, Bool, true, false, cond, to_z, of_z, SFits}
use mir.Syntax.{w128}
use Rattle.std.proofs.lemmas.Int.{to_z-of_z}
use Rattle.std.proofs.lemmas.Bool.Decides.{Decides-int_eq}
use Rattle.std.specs.Bool.{Decides}
use Rattle.std.specs.Prelude.{ℤ, pos}
use Rattle.std.specs.declared.cmp.Ordering.{Ordering}
use Rattle.std.specs.declared.cmp.Ordering.TheVariants.{Less, Equal, Greater}
use Rattle.std.specs.Ordering.{nat_cmp, int_cmp, ordering_then, ord_min, is_lt, int_eq}
use Rattle.std.specs.Cmp.Lexicographic.{slice_cmp}
use Rattle.std.specs.BTreeMap.{BTreeMap, insert_entry}
use Rattle.std.specs.FinMap.{put}
use Rattle.e_literal.specs.declared.object.Term.{Term}
use Rattle.e_literal.specs.declared.object.Term.TheVariants.{Seg, Ang, Area, Right}
use Rattle.e_literal.specs.contracts.object.TermOrd.TheImpl.{cmp-value}
use Rattle.e_literal.specs.NormalForm.{term_cmp, Coefficients, form_cmp}
use Rattle.e_literal.specs.inner.Joining.{put_unless_zero}

then_equal : (r : Ordering) → ordering_then r Equal ≡ r
then_equal Less = refl
then_equal Equal = refl
then_equal Greater = refl

-- the derived order of terms
pub same_order : (s t : Term) → cmp-value.it s t ≡ term_cmp s t
same_order (Seg a b) (Seg c d) = ap (ordering_then (nat_cmp a c)) (sym (then_equal (nat_cmp b d)))
same_order (Ang a b c) (Ang d e f) = ap (λ r. ordering_then (nat_cmp a d) (ordering_then (nat_cmp b e) r)) (sym (then_equal (nat_cmp c f)))
same_order (Area a b c) (Area d e f) = ap (λ r. ordering_then (nat_cmp a d) (ordering_then (nat_cmp b e) r)) (sym (then_equal (nat_cmp c f)))
same_order Right Right = refl
same_order s t = refl

order_is : cmp-value.it ≡ term_cmp
order_is i s t = same_order s t i

-- an entry is put in its place
put_by : (form : Coefficients) (e : Term × ℤ) (k : Term) (v : ℤ) (r : Ordering) → term_cmp k e.0 ≡ r → insert_entry term_cmp form k v ≡ put term_cmp k v form
    → insert_entry term_cmp (e ∷ form) k v ≡ put term_cmp k v (e ∷ form)
put_by form e k v Less is later = rw is refl
put_by form e k v Equal is later = rw is refl
put_by form e k v Greater is later = rw is (ap (λ f. e ∷ f) later)

insert_entry-put : (form : Coefficients) (k : Term) (v : ℤ) → insert_entry term_cmp form k v ≡ put term_cmp k v form
insert_entry-put [] k v = refl
insert_entry-put (e ∷ form) k v = put_by form e k v (term_cmp k e.0) refl (insert_entry-put form k v)

pub put_is : (form : Coefficients) (k : Term) (v : ℤ) → insert_entry cmp-value.it form k v ≡ put term_cmp k v form
put_is form k v = ap (λ (R : Term → Term → Ordering). insert_entry R form k v) order_is ∙ insert_entry-put form k v

pub lesser_is : (m n : BTreeMap Term ℤ) → (ord_min (λ a b. slice_cmp (λ p q. ordering_then (cmp-value.it p.0 q.0) (int_cmp p.1 q.1)) a.entries b.entries) m n).entries ≡ ord_min form_cmp m.entries n.entries
lesser_is m n = by _ ∙ ap (λ (R : Term → Term → Ordering). cond (is_lt (slice_cmp (λ (p q : Term × ℤ). ordering_then (R p.0 q.0) (int_cmp p.1 q.1)) n.entries m.entries)) n.entries m.entries) order_is
  where
    by : (b : Bool) → (cond b n m).entries ≡ cond b n.entries m.entries
    by true = refl
    by false = refl

not_zero : (v : ℤ) → (of_z w128 v ≡ 0 → ⊥) → int_eq v (pos 0) ≡ false
not_zero v h = by (int_eq v (pos 0)) (Decides-int_eq v (pos 0))
  where
    by : (b : Bool) → Decides b (v ≡ pos 0) → b ≡ false
    by true d = absurd (h (ap (of_z w128) (d.0 refl)))
    by false d = refl

-- a term whose coefficient is not 0 is put in its place
pub put_nonzero : (form new : Coefficients) (s t : Term) (v w : ℤ) → SFits w128 v → s ≡ t → v ≡ w → (of_z w128 v ≡ 0 → ⊥)
    → new ≡ insert_entry cmp-value.it form s (to_z w128 (of_z w128 v)) → new ≡ put_unless_zero form t w
put_nonzero form new s t v w fits e f h is =
    is ∙ ap (insert_entry cmp-value.it form s) (to_z-of_z w128 v fits) ∙ put_is form s v ∙ ap (λ b. cond b form (put term_cmp s v form)) (sym (not_zero v h))
    ∙ ap (put_unless_zero form s) f ∙ ap (λ k. put_unless_zero form k w) e
