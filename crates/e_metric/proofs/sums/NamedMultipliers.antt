-- Names with their multipliers, one by one.
use Rattle.std.proofs.Common.{◌≡◌, ℕ, ◌+◌, ◌<◌, List, [], ◌∷◌, ◌++◌, length, get_or, drop, refl, sym, ap, ◌∙◌, cond, Bool, true, false, append_assoc, ap₂, Option, Some, None}
use Rattle.std.proofs.lemmas.List.{drop_more, length-set}
use Rattle.std.specs.Prelude.{ℤ, pos}
use Rattle.std.proofs.lemmas.Bool.Decides.{Decides-int_eq}
use Rattle.std.specs.Borrow.{Bor}
use Rattle.std.specs.Ordering.{int_eq}
use Rattle.e_clause.specs.declared.cert.RowName.{RowName}
use Rattle.e_metric.specs.inner.Certificate.{named_multipliers, renamed_at}

not_zero : (m : ℤ) → ¬ (m ≡ pos 0) → int_eq m (pos 0) ≡ false
not_zero m n = by (int_eq m (pos 0)) refl
  where
    by : (b : Bool) → int_eq m (pos 0) ≡ b → int_eq m (pos 0) ≡ false
    by true e = absurd (n ((Decides-int_eq m (pos 0)).0 e))
    by false e = e

pub length_renamed : (ns : List RowName) (o : Option (ℕ × Bor RowName)) → length (renamed_at ns o) ≡ length ns
length_renamed ns None = refl
length_renamed ns (Some p) = length-set ns p.0 p.1.now

-- the front of both lists, from a place on
at_front : (ns : List RowName) (ms : List ℤ) (i : ℕ) (d : RowName) → i < length ns → i < length ms
    → named_multipliers (drop i ns) (drop i ms)
    ≡ cond (int_eq (get_or ms i (pos 0)) (pos 0)) (named_multipliers (drop (i + 1) ns) (drop (i + 1) ms)) ((get_or ms i (pos 0), get_or ns i d) ∷ named_multipliers (drop (i + 1) ns) (drop (i + 1) ms))
at_front ns ms i d l k = ap₂ {A = List RowName} {B = List ℤ} named_multipliers (drop_more ns i d l) (drop_more ms i (pos 0) k)

pub passed : (ns : List RowName) (ms : List ℤ) (i : ℕ) (sum all : List (ℤ × RowName)) (d : RowName) → i < length ns → i < length ms → get_or ms i (pos 0) ≡ pos 0
    → sum ++ named_multipliers (drop i ns) (drop i ms) ≡ all → sum ++ named_multipliers (drop (i + 1) ns) (drop (i + 1) ms) ≡ all
passed ns ms i sum all d l k e h =
    (let rest = named_multipliers (drop (i + 1) ns) (drop (i + 1) ms) in
    ap (λ r. sum ++ r) (sym (at_front ns ms i d l k ∙ ap (λ z. cond (int_eq z (pos 0)) rest ((get_or ms i (pos 0), get_or ns i d) ∷ rest)) e)) ∙ h)

pub put : (ns : List RowName) (ms : List ℤ) (i : ℕ) (sum all : List (ℤ × RowName)) (d n : RowName) → i < length ns → i < length ms → ¬ (get_or ms i (pos 0) ≡ pos 0) → n ≡ get_or ns i d
    → sum ++ named_multipliers (drop i ns) (drop i ms) ≡ all → (sum ++ (get_or ms i (pos 0), n) ∷ []) ++ named_multipliers (drop (i + 1) ns) (drop (i + 1) ms) ≡ all
put ns ms i sum all d n l k e s h =
    (let rest = named_multipliers (drop (i + 1) ns) (drop (i + 1) ms) in
    ap (λ m. (sum ++ (get_or ms i (pos 0), m) ∷ []) ++ rest) s ∙ append_assoc sum ((get_or ms i (pos 0), get_or ns i d) ∷ []) rest
    ∙ ap (λ r. sum ++ r) (sym (at_front ns ms i d l k ∙ ap (λ b. cond b rest ((get_or ms i (pos 0), get_or ns i d) ∷ rest)) (not_zero (get_or ms i (pos 0)) e))) ∙ h)
