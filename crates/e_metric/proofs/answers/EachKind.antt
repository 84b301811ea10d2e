-- What holds of one kind and of the other two holds of each kind.
use Rattle.std.proofs.Common.{◌≡◌, refl, sym, subst, false}
use Rattle.e_literal.specs.declared.object.Kind.{Kind}
use Rattle.e_literal.specs.declared.object.Kind.TheVariants.{Segment, Angle, Area}
use Rattle.e_literal.specs.WellFormed.{same_kind}
use Rattle.e_metric.specs.inner.ByKind.{in_kind_order, at_kind, other_two}
use Rattle.e_metric.specs.declared.by_kind.ByKind.{ByKind}

pub each_kind : {T : Type 0} (P : Kind → T → Type 0) (which : Kind) (own first second : T) → P which own → P (other_two which).0 first → P (other_two which).1 second → (k : Kind) → P k (at_kind (in_kind_order which own first second) k)
each_kind P Segment own first second h f s Segment = h
each_kind P Segment own first second h f s Angle = f
each_kind P Segment own first second h f s Area = s
each_kind P Angle own first second h f s Segment = f
each_kind P Angle own first second h f s Angle = h
each_kind P Angle own first second h f s Area = s
each_kind P Area own first second h f s Segment = f
each_kind P Area own first second h f s Angle = s
each_kind P Area own first second h f s Area = h

-- and of what the code arranged
pub each_arranged : {T : Type 0} (P : Kind → T → Type 0) (which : Kind) (kinds : Kind × Kind) (b : ByKind T) (own first second : T) → kinds ≡ other_two which → b ≡ in_kind_order which own first second
    → P which own → P kinds.0 first → P kinds.1 second → (k : Kind) → P k (at_kind b k)
each_arranged P which kinds b own first second is at h f s k =
    subst (λ c. P k (at_kind c k)) (sym at) (each_kind P which own first second h (subst (λ (q : Kind × Kind). P q.0 first) is f) (subst (λ (q : Kind × Kind). P q.1 second) is s) k)

pub first_differs : (which : Kind) → same_kind (other_two which).0 which ≡ false
first_differs Segment = refl
first_differs Angle = refl
first_differs Area = refl

pub second_differs : (which : Kind) → same_kind (other_two which).1 which ≡ false
second_differs Segment = refl
second_differs Angle = refl
second_differs Area = refl
