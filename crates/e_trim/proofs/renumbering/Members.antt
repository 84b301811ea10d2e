-- Members of lists, by recursion.
use Rattle.std.proofs.Common.{◌≡◌, List, [], ◌∷◌, ◌++◌, map, flat_map, subst, filter, refl, sym, ap, ◌∙◌, Bool, true, false, cond, true≢false, inl, inr, ◌⊎◌}
use Rattle.std.proofs.lemmas.Bool.{or_left, or_right, or_cases, and_parts, and_from}
use Rattle.std.specs.List.{list_all, list_any}

abbrev pub In : {X : Type 0} → X → List X → Type 0
In x [] = ⊥
In x (y ∷ ys) = (y ≡ x) ⊎ In x ys

pub in_left : {X : Type 0} (x : X) (xs ys : List X) → In x xs → In x (xs ++ ys)
in_left x [] ys h = absurd h
in_left x (y ∷ xs) ys (inl e) = inl e
in_left x (y ∷ xs) ys (inr h) = inr (in_left x xs ys h)

pub in_right : {X : Type 0} (x : X) (xs ys : List X) → In x ys → In x (xs ++ ys)
in_right x [] ys h = h
in_right x (y ∷ xs) ys h = inr (in_right x xs ys h)

pub in_either : {X : Type 0} (x : X) (xs ys : List X) → In x (xs ++ ys) → In x xs ⊎ In x ys
in_either x [] ys h = inr h
in_either x (y ∷ xs) ys (inl e) = inl (inl e)
in_either x (y ∷ xs) ys (inr h) = elim (in_either x xs ys h) [
  | inl k ↦ inl (inr k)
  | inr k ↦ inr k
]

filtered_first : {X : Type 0} (b : Bool) (x y : X) (ys : List X) → b ≡ true → y ≡ x → In x (cond b (y ∷ ys) ys)
filtered_first true x y ys t e = inl e
filtered_first false x y ys t e = absurd (true≢false (sym t))

filtered_rest : {X : Type 0} (b : Bool) (x y : X) (ys : List X) → In x ys → In x (cond b (y ∷ ys) ys)
filtered_rest true x y ys h = inr h
filtered_rest false x y ys h = h

pub in_filter : {X : Type 0} (p : X → Bool) (x : X) (xs : List X) → p x ≡ true → In x xs → In x (filter p xs)
in_filter p x [] t h = absurd h
in_filter p x (y ∷ xs) t (inl e) = filtered_first (p y) x y (filter p xs) (ap p e ∙ t) e
in_filter p x (y ∷ xs) t (inr h) = filtered_rest (p y) x y (filter p xs) (in_filter p x xs t h)

pub any_in : {X : Type 0} (p : X → Bool) (x : X) (xs : List X) → In x xs → p x ≡ true → list_any p xs ≡ true
any_in p x [] h t = absurd h
any_in p x (y ∷ xs) (inl e) t = or_left (p y) (list_any p xs) (ap p e ∙ t)
any_in p x (y ∷ xs) (inr h) t = or_right (p y) (list_any p xs) (any_in p x xs h t)

pub in_any : {X : Type 0} (p : X → Bool) (xs : List X) → list_any p xs ≡ true → (x : X) × In x xs × (p x ≡ true)
in_any p [] h = absurd (true≢false (sym h))
in_any p (y ∷ xs) h = elim (or_cases (p y) (list_any p xs) h) [
  | inl e ↦ (y, inl refl, e)
  | inr k ↦ let r = in_any p xs k in (r.0, inr r.1, r.2)
]

-- of a list of lists
pub in_flat : {X Y : Type 0} (f : X → List Y) (x : X) (y : Y) (xs : List X) → In x xs → In y (f x) → In y (flat_map f xs)
in_flat f x y [] h k = absurd h
in_flat f x y (z ∷ zs) (inl e) k = in_left y (f z) (flat_map f zs) (subst (λ w. In y (f w)) (sym e) k)
in_flat f x y (z ∷ zs) (inr h) k = in_right y (f z) (flat_map f zs) (in_flat f x y zs h k)

pub in_map : {X Y : Type 0} (f : X → Y) (x : X) (xs : List X) → In x xs → In (f x) (map f xs)
in_map f x [] h = absurd h
in_map f x (y ∷ ys) (inl e) = inl (ap f e)
in_map f x (y ∷ ys) (inr h) = inr (in_map f x ys h)

pub all_in : {X : Type 0} (p : X → Bool) (xs : List X) (x : X) → list_all p xs ≡ true → In x xs → p x ≡ true
all_in p [] x h i = absurd i
all_in p (y ∷ ys) x h (inl e) = let q = and_parts (p y) (list_all p ys) h in sym (ap p e) ∙ q.0
all_in p (y ∷ ys) x h (inr i) = let q = and_parts (p y) (list_all p ys) h in all_in p ys x q.1 i

pub in_all : {X : Type 0} (p : X → Bool) (xs : List X) → ((x : X) → In x xs → p x ≡ true) → list_all p xs ≡ true
in_all p [] h = refl
in_all p (y ∷ ys) h = and_from (p y) (list_all p ys) (h y (inl refl)) (in_all p ys (λ x i. h x (inr i)))

pub of_filter : {X : Type 0} (p : X → Bool) (x : X) (xs : List X) → In x (filter p xs) → In x xs × (p x ≡ true)
of_filter p x [] h = absurd h
of_filter p x (y ∷ ys) h = by (p y) refl (of_filter p x ys) h
  where
    by : (b : Bool) → p y ≡ b → (In x (filter p ys) → In x ys × (p x ≡ true)) → In x (cond b (y ∷ filter p ys) (filter p ys)) → In x (y ∷ ys) × (p x ≡ true)
    by true e more (inl f) = (inl f, sym (ap p f) ∙ e)
    by true e more (inr i) = let r = more i in (inr r.0, r.1)
    by false e more i = let r = more i in (inr r.0, r.1)
