-- One number after another.
use Rattle.std.proofs.Common.{◌≡◌, ℕ, suc, ◌+◌, ◌-◌, ◌<◌, ◌≤◌, List, [], ◌∷◌, ◌++◌, flat_map, refl, sym, ap, ◌∙◌, arith, append_assoc}
use Rattle.std.proofs.lemmas.List.{append-nil}
use Rattle.e_generate.specs.Generated.{numbers}

pub one_by_one : (i e : ℕ) → i < e → numbers i (e - i) ≡ i ∷ numbers (i + 1) (e - (i + 1))
one_by_one i e less =
    let one : e - i ≡ suc (e - (i + 1)) = omega (arith, less) in
    rw one refl

-- what is written of each, one further
pub one_more : (f : ℕ → List ℕ) (i e : ℕ) (out next : List ℕ) {whole : List ℕ} → i < e → next ≡ out ++ f i → out ++ flat_map f (numbers i (e - i)) ≡ whole
    → next ++ flat_map f (numbers (i + 1) (e - (i + 1))) ≡ whole
one_more f i e out next less is so_far =
    rw is (append_assoc out (f i) (flat_map f (numbers (i + 1) (e - (i + 1)))))
    ∙ (ap (λ (ns : List ℕ). out ++ flat_map f ns) (sym (one_by_one i e less)) ∙ so_far)

-- nothing is left after the last
pub none_left : (f : ℕ → List ℕ) (i e : ℕ) (out : List ℕ) → e ≤ i → out ++ flat_map f (numbers i (e - i)) ≡ out
none_left f i e out past =
    let none : e - i ≡ 0 = omega (arith, past) in
    rw none (append-nil out)
