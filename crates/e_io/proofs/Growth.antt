-- What was written grows piece by piece.
use Rattle.std.proofs.Common.{◌≡◌, ℕ, ◌+◌, ◌-◌, ◌≤◌, List, [], ◌++◌, length, take, drop, Option, Some, None, refl, sym, ap, subst, ◌∙◌, arith, append_assoc, length-append, length-drop, take-add}
use Rattle.std.proofs.Math.Seq.{take-append-add}
use Rattle.std.proofs.lemmas.List.{take_all, append-nil}
use Rattle.e_io.specs.Bytes.{Grew, GrewByFront}

-- nothing written
pub grown-nothing : (a : Option (List ℕ)) → Grew a a []
grown-nothing None = refl
grown-nothing (Some old) = ap (λ (l : List ℕ). Some l) (sym (append-nil old))

-- one text after another
pub grown : (a b c : Option (List ℕ)) (xs ys : List ℕ) → Grew a b xs → Grew b c ys → Grew a c (xs ++ ys)
grown None b c xs ys p q = subst (λ (x : Option (List ℕ)). Grew x c ys) p q
grown (Some old) b c xs ys p q = let r = subst (λ (x : Option (List ℕ)). Grew x c ys) p q in r ∙ ap (λ (l : List ℕ). Some l) (append_assoc old xs ys)

-- a text, and a front of the next
pub grown-front : (a b c : Option (List ℕ)) (xs ys : List ℕ) → Grew a b xs → GrewByFront b c ys → GrewByFront a c (xs ++ ys)
grown-front a b c xs ys p q =
    let n = q.0 in
    let lt = q.1 in
    let e : xs ++ take n ys ≡ take (length xs + n) (xs ++ ys) = sym (take-append-add xs ys n) in
    (length xs + n, omega (arith, length-append xs ys), subst (λ (l : List ℕ). Grew a c l) e (grown a b c xs (take n ys) p q.2))

-- one piece more of a text
pub grown-piece : (a b c : Option (List ℕ)) (bytes : List ℕ) (at n : ℕ) → at ≤ length bytes → Grew a b (take at bytes) → Grew b c (take n (take (length bytes - at) (drop at bytes))) → Grew a c (take (at + n) bytes)
grown-piece a b c bytes at n le p q =
    let whole : take (length bytes - at) (drop at bytes) ≡ drop at bytes = take_all _ _ (omega (arith, length-drop at bytes)) in
    let e : take at bytes ++ take n (take (length bytes - at) (drop at bytes)) ≡ take (at + n) bytes = ap (λ (l : List ℕ). take at bytes ++ take n l) whole ∙ sym (take-add at n bytes) in
    subst (λ (l : List ℕ). Grew a c l) e (grown a b c (take at bytes) (take n (take (length bytes - at) (drop at bytes))) p q)
