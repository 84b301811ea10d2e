-- What a loop has read, and what it still reads.
use Rattle.std.proofs.Common.{◌≡◌, ℕ, ◌+◌, ◌<◌, ◌≤◌, ◌-◌, Bool, true, false, leb, inl, inr, arith, take, not, length-drop, List, [], ◌∷◌, ◌++◌, length, drop, get_or, Result, Ok, Err, refl, sym, ap, ◌∙◌, append_assoc, add-one}
use Rattle.std.specs.Prelude.{nat_le, if◌then◌else◌}
use Rattle.std.specs.List.{slice_split, position_or_len}
use Rattle.std.proofs.lemmas.Bool.{cases_lt, le-leb, lt-leb, not-true}
use Rattle.std.proofs.lemmas.List.{drop-drop, take_all, append-nil}
use Rattle.std.proofs.lemmas.List.Elements.{All-from_get_or}
use Rattle.std.proofs.lemmas.List.Splits.{slice_split_first, slice_split_none}
use Rattle.std.proofs.lemmas.List.Sums.{prefix_len_passes}
use Rattle.std.proofs.Math.Seq.{drop-cons}
use Rattle.e_line.specs.declared.fault.FaultKind.{FaultKind}
use Rattle.e_line.specs.declared.fault.LineError.{LineError}
use Rattle.e_line.specs.declared.fault.LineError.TheVariants as line_errors
use Rattle.e_line.specs.Reading.{◌>>=◌, Fails, each, with_front}

regroup : {Y : Type 0} (front : List Y) (y : Y) (read : Result (List Y) FaultKind) → with_front front (read >>= λ ys. Ok (y ∷ ys)) ≡ with_front (front ++ y ∷ []) read
regroup {Y} front y (Ok ys) = ap (λ (l : List Y). Ok l) (simp append_assoc)
regroup front y (Err e) = refl

-- reading after nothing is reading
pub from_none : {X : Type 0} (read : Result (List X) FaultKind) → with_front [] read ≡ read
from_none (Ok xs) = refl
from_none (Err e) = refl

-- one more is read
pub goes_on : {X Y : Type 0} (f : X → Result Y FaultKind) (front : List Y) (x : X) (xs all : List X) (y : Y) (total : Result (List Y) FaultKind)
    → all ≡ x ∷ xs → f x ≡ Ok y → with_front front (each f all) ≡ total → with_front (front ++ y ∷ []) (each f xs) ≡ total
goes_on {X} {Y} f front x xs all y total is ok so_far =
    let one : with_front front (each f (x ∷ xs)) ≡ with_front (front ++ y ∷ []) (each f xs) = rw ok (regroup front y (each f xs)) in
    sym one ∙ ap (λ (l : List X). with_front front (each f l)) (sym is) ∙ so_far

-- one fails
pub fails : {X Y : Type 0} (f : X → Result Y FaultKind) (front : List Y) (x : X) (xs all : List X) (e : LineError) (total : Result (List Y) FaultKind)
    → all ≡ x ∷ xs → Fails e (f x) → with_front front (each f all) ≡ total → Fails e total
fails f front x xs all line_errors.NoMemory total is err so_far = tt
fails {X} f front x xs all (line_errors.Fault k) total is err so_far =
    let one : with_front front (each f (x ∷ xs)) ≡ Err k = rw err refl in
    sym so_far ∙ ap (λ (l : List X). with_front front (each f l)) is ∙ one

-- none is left
pub is_done : {X Y : Type 0} (f : X → Result Y FaultKind) (front : List Y) (all : List X) (total : Result (List Y) FaultKind) → all ≡ [] → with_front front (each f all) ≡ total → total ≡ Ok front
is_done {X} {Y} f front all total is so_far =
    sym so_far ∙ ap (λ (l : List X). with_front front (each f l)) is ∙ ap (λ (l : List Y). Ok l) (append-nil front)

-- the rest of a list at a place
pub rest_at : {X : Type 0} (xs : List X) (i : ℕ) (d : X) → i < length xs → drop i xs ≡ get_or xs i d ∷ drop (i + 1) xs
rest_at xs i d lt = rw add-one (drop-cons xs i d lt)

-- the parts after a place
abbrev pub parts_from : {X : Type 0} → (X → Bool) → ℕ → List X → List (List X)
parts_from p at xs = if nat_le at (length xs) then slice_split p (drop at xs) else []

-- the first part, and the parts after the place at which it ends
pub parts_at : {X : Type 0} (p : X → Bool) (xs : List X) (d : X) (at end : ℕ) → at ≤ length xs → end ≡ at + position_or_len p (drop at xs)
    → parts_from p at xs ≡ take (end - at) (drop at xs) ∷ parts_from p (end + 1) xs
parts_at p xs d at end le end-is =
    let rest = drop at xs in
    let n = position_or_len p rest in
    let here : leb at (length xs) ≡ true = le-leb _ _ le in
    let width : end - at ≡ n = omega arith in
    elim (cases_lt n (length rest)) [
      | inl lt ↦
          let there : leb (end + 1) (length xs) ≡ true = le-leb _ _ (omega (arith, length-drop at xs)) in
          let tail : drop (n + 1) rest ≡ drop (end + 1) xs = drop-drop (n + 1) at xs ∙ ap (λ k. drop k xs) (omega arith) in
          rw (here, there, width, slice_split_first p rest d lt, tail) refl
      | inr ge ↦
          let there : leb (end + 1) (length xs) ≡ false = lt-leb _ _ (omega (arith, length-drop at xs)) in
          let none : slice_split p rest ≡ rest ∷ [] = slice_split_none p rest (All-from_get_or (λ x. p x ≡ false) rest d (λ i lt. not-true (p (get_or rest i d)) (prefix_len_passes (λ x. not (p x)) rest i d (omega arith)))) in
          rw (here, there, width, none, take_all n rest ge) refl
    ]
