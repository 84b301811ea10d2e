-- Equations taken in one by one.
use Rattle.std.proofs.Common.{◌≡◌, ℕ, zero, suc, List, [], ◌∷◌, refl, sym, ap, ◌∙◌, arith, Bool, true, false, true≢false, get_or, length, take, drop, ◌++◌, append-nil, ◌<◌, ◌+◌}
use Rattle.std.proofs.lemmas.List.{take_all, drop_all}
use Rattle.std.proofs.lemmas.List.Folds.{list_all_more}
use Rattle.std.proofs.lemmas.Bool.{and_from}
use Rattle.e_literal.proofs.Booleans.{and_left, and_right}
use Rattle.e_transfer.specs.declared.equations.Equation.{Equation}
use Rattle.e_transfer.specs.declared.unify.Binding.{Binding}
use Rattle.e_transfer.specs.inner.Equations.{agrees, all_agree}
use Rattle.e_transfer.specs.inner.Bindings.{BindingsAgree, TakesIn}

-- ---- the equations so far

all_taken : (f : ℕ → ℕ) (bs : List Equation) (i : ℕ) → all_agree f bs ≡ true → all_agree f (take i bs) ≡ true
all_taken f [] zero h = refl
all_taken f [] (suc i) h = refl
all_taken f (b ∷ bs) zero h = refl
all_taken f (b ∷ bs) (suc i) h = and_from (agrees f b) (all_agree f (take i bs)) (and_left (agrees f b) (all_agree f bs) h) (all_taken f bs i (and_right (agrees f b) (all_agree f bs) h))

one_taken : (f : ℕ → ℕ) (bs : List Equation) (i : ℕ) (d : Equation) → i < length bs → all_agree f (take (i + 1) bs) ≡ true
    → (all_agree f (take i bs) ≡ true) × (agrees f (get_or bs i d) ≡ true)
one_taken f bs i d less h =
    let e = sym (list_all_more (agrees f) bs i d less) ∙ h in
    (and_left (all_agree f (take i bs)) (agrees f (get_or bs i d)) e, and_right (all_agree f (take i bs)) (agrees f (get_or bs i d)) e)

-- a vector whose slice was written
pub whole : {X : Type 0} (n : ℕ) (new old : List X) → n ≡ length old → length new ≡ length old → take n (new ++ drop (length new) old) ≡ new
whole n new old e k =
    let all : drop (length new) old ≡ [] = drop_all (length new) old (omega (arith, k)) in
    ap (λ l. take n (new ++ l)) all ∙ ap (take n) (append-nil new) ∙ take_all n new (omega (arith, e, k))

abbrev pub AgreeSoFar : List Equation → ℕ → List Binding → Type 0
AgreeSoFar bs i ts = (f : ℕ → ℕ) → all_agree f (take i bs) ≡ true → BindingsAgree f ts

-- one more equation
pub more_agree : (bs : List Equation) (i : ℕ) (d : Equation) (old new : List Binding) (r : Bool) → i < length bs → TakesIn old new (get_or bs i d) r
    → AgreeSoFar bs i old → AgreeSoFar bs (i + 1) new
more_agree bs i d old new r less takes before f h = let both = one_taken f bs i d less h in (takes f (before f both.0) both.1).1

pub none_agree : (bs : List Equation) (i : ℕ) (d : Equation) (old new : List Binding) (r : Bool) → i < length bs → TakesIn old new (get_or bs i d) r
    → AgreeSoFar bs i old → r ≡ false → (f : ℕ → ℕ) → all_agree f bs ≡ true → ⊥
none_agree bs i d old new r less takes before fails f h =
    let both = one_taken f bs i d less (all_taken f bs (i + 1) h) in true≢false (sym (takes f (before f both.0) both.1).0 ∙ fails)
