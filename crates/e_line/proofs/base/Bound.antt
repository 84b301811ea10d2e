-- A result that goes on, and names that differ.
use Rattle.std.proofs.Common.{◌≡◌, ℕ, Bool, true, false, List, [], ◌∷◌, length, Result, Ok, Err, refl, sym, ap, ◌∙◌, arith}
use Rattle.std.specs.Str.{bytes_eq}
use Rattle.e_line.specs.declared.fault.FaultKind.{FaultKind}
use Rattle.e_line.specs.Reading.{◌>>=◌, each}
use Rattle.std.proofs.lemmas.Slice.Eq.{bytes_eq-Decides}
use Rattle.e_text.specs.Names.{is_name}

pub bind_ok : {F A B : Type 0} (r : Result A F) (f : A → Result B F) (y : B) → (r >>= f) ≡ Ok y → (x : A) × (r ≡ Ok x) × (f x ≡ Ok y)
bind_ok (Ok x) f y e = (x, refl, e)
bind_ok (Err d) f y e = absurd cc

abbrev pub read_ok : {A : Type 0} → A → Result A FaultKind
read_ok x = Ok x

pub ok_is : {A : Type 0} (x y : A) → read_ok x ≡ read_ok y → x ≡ y
ok_is x y e = cc

pub each_length : {X Y : Type 0} (f : X → Result Y FaultKind) (xs : List X) (ys : List Y) → each f xs ≡ Ok ys → length ys ≡ length xs
each_length {X} {Y} f [] ys e = ap length (sym (ok_is [] ys e))
each_length {X} {Y} f (x ∷ xs) ys e =
    let a = bind_ok (f x) (λ y. each f xs >>= λ zs. read_ok (y ∷ zs)) ys e in
    let b = bind_ok (each f xs) (λ zs. read_ok (a.0 ∷ zs)) ys a.2 in
    let n = each_length f xs b.0 b.1 in
    sym (ap length (ok_is (a.0 ∷ b.0) ys b.2)) ∙ omega (arith, n)

pub same_bytes : (w : List ℕ) → bytes_eq w w ≡ true
same_bytes w = (bytes_eq-Decides w w).1 refl

-- ---- names differ from other words

differs_by : (t : Bool) (w c : List ℕ) → bytes_eq w c ≡ t → is_name w ≡ true → is_name c ≡ false → t ≡ false
differs_by false w c e h n = refl
differs_by true w c e h n =
    let s : w ≡ c = (bytes_eq-Decides w c).0 e in
    sym h ∙ ap is_name s ∙ n

-- a name is no other word
pub name_differs : (w c : List ℕ) → is_name w ≡ true → is_name c ≡ false → bytes_eq w c ≡ false
name_differs w c h n = differs_by (bytes_eq w c) w c refl h n
