-- What a source gave so far, and what it still has.
use Rattle.std.proofs.Common.{◌≡◌, ℕ, ◌≤◌, List, [], ◌++◌, length, Option, Some, None, Result, Ok, Err, refl, sym, ap, subst, ◌∙◌, arith, append_assoc, take, drop}
use Rattle.std.proofs.lemmas.List.{append-nil, take_all, take-append-drop}
use Rattle.std.proofs.Math.Seq.{take-append_seam}
use Rattle.e_io.specs.Bytes.{ReadsBytes}
use Rattle.e_commands.specs.Input.{IsTextOf, IsAtEnd}
use Rattle.e_commands.specs.Answers.{IsAllOf}
use Rattle.e_commands.specs.Taken.{Taken, TookFew}

abbrev pub TakenSoFar : Option (List ℕ) → Option (List ℕ) → List ℕ → Type 0
TakenSoFar None now read = now ≡ None
TakenSoFar (Some text) now read = (rest : List ℕ) × (now ≡ Some rest) × (text ≡ read ++ rest)

-- the source was at its end
pub taken_all : (E : Type 0) (most : ℕ) (a b c : Option (List ℕ)) (text to : List ℕ) (r : Result ℕ E) → r ≡ Ok 0 → length text ≤ most → TakenSoFar a b text → ReadsBytes {E = E} b c r to → IsTextOf most a text
taken_all E most None b c text to r e few h k = tt
taken_all E most (Some all) b c text to r e few h k =
    let s = subst (λ (x : Option (List ℕ)). ReadsBytes {E = E} x c (Ok 0) to) h.1 (subst (λ (x : Result ℕ E). ReadsBytes {E = E} b c x to) e k) in
    let whole : all ≡ text = h.2 ∙ ap (λ (l : List ℕ). text ++ l) (s.3.0 refl) ∙ append-nil text in
    sym (ap (λ (l : List ℕ). take most l) whole ∙ take_all most text few)

pub at_end : (E : Type 0) (a b c : Option (List ℕ)) (text to : List ℕ) → TakenSoFar a b text → ReadsBytes {E = E} b c (Ok 0) to → IsAtEnd c
at_end E None b c text to h r =
    let s : c ≡ None = subst (λ (x : Option (List ℕ)). ReadsBytes {E = E} x c (Ok 0) to) h r in
    subst IsAtEnd (sym s) tt
at_end E (Some all) b c text to h r =
    let s = subst (λ (x : Option (List ℕ)). ReadsBytes {E = E} x c (Ok 0) to) h.1 r in
    subst IsAtEnd (sym s.2) (s.3.0 refl)

-- the source gave as many bytes as are wanted
pub taken_enough : (most : ℕ) (a b : Option (List ℕ)) (text : List ℕ) → length text ≡ most → TakenSoFar a b text → IsTextOf most a text
taken_enough most None b text e h = tt
taken_enough most (Some all) b text e h =
    sym (ap (λ (l : List ℕ). take most l) h.2 ∙ ap (λ (n : ℕ). take n (text ++ h.0)) (sym e) ∙ take-append_seam text h.0)

-- before the first call
pub taken_at_start : (a : Option (List ℕ)) → TakenSoFar a a []
taken_at_start None = refl
taken_at_start (Some all) = (all, refl, refl)

-- ---- what comes of one more call

-- it gave more
pub taken_more : (E : Type 0) (a b c : Option (List ℕ)) (text to : List ℕ) (n : ℕ) → TakenSoFar a b text → ReadsBytes {E = E} b c (Ok n) to → TakenSoFar a c (text ++ take n to)
taken_more E None b c text to n h r = subst (λ (x : Option (List ℕ)). ReadsBytes {E = E} x c (Ok n) to) h r
taken_more E (Some all) b c text to n h r =
    let s = subst (λ (x : Option (List ℕ)). ReadsBytes {E = E} x c (Ok n) to) h.1 r in (
      drop n h.0,
      s.2,
      h.2 ∙ ap (λ (l : List ℕ). text ++ l) (sym (take-append-drop n h.0)) ∙ sym (append_assoc text (take n h.0) (drop n h.0)) ∙ ap (λ (l : List ℕ). (text ++ l) ++ drop n h.0) (sym s.1),
    )

-- it gave nothing
pub taken_nothing : (E : Type 0) (a b c : Option (List ℕ)) (text to : List ℕ) → TakenSoFar a b text → ReadsBytes {E = E} b c (Ok 0) to → TakenSoFar a c text
taken_nothing E a b c text to h r = subst (λ (l : List ℕ). TakenSoFar a c l) (append-nil text) (taken_more E a b c text to 0 h r)

-- it failed
pub taken_then_failed : (E : Type 0) (a b c : Option (List ℕ)) (text to : List ℕ) (e : E) → TakenSoFar a b text → ReadsBytes {E = E} b c (Err e) to → TakenSoFar a c text
taken_then_failed E None b c text to e h r = subst (λ (x : Option (List ℕ)). ReadsBytes {E = E} x c (Err e) to) h r
taken_then_failed E (Some all) b c text to e h r = (h.0, subst (λ (x : Option (List ℕ)). ReadsBytes {E = E} x c (Err e) to) h.1 r, h.2)

-- ---- what holds of it

-- of what was taken
pub taken_of : (a b : Option (List ℕ)) (text : List ℕ) (P : List ℕ → Type 0) → TakenSoFar a b text → P text → Taken a b P
taken_of None b text P h p = tt
taken_of (Some all) b text P h p = subst (λ (x : Option (List ℕ)). Taken (Some all) x P) (sym h.1) (text, h.2, p)

pub taken_map : (a b : Option (List ℕ)) (P Q : List ℕ → Type 0) → ((text : List ℕ) → P text → Q text) → Taken a b P → Taken a b Q
taken_map None b P Q f h = tt
taken_map (Some all) None P Q f h = absurd h
taken_map (Some all) (Some left) P Q f h = (h.0, h.1, f h.0 h.2)

pub took_none : (a : Option (List ℕ)) → TookFew a a
took_none None = tt
took_none (Some all) = ([], refl, omega arith)

-- of all bytes, where it holds whatever comes
pub all_of : (a b : Option (List ℕ)) (read : List ℕ) (P : List ℕ → Type 0) → TakenSoFar a b read → ((left : List ℕ) → P (read ++ left)) → (text : List ℕ) × IsAllOf a text × P text
all_of None b read P h p = (read ++ [], tt, p [])
all_of (Some all) b read P h p = (all, refl, subst P (sym h.2) (p h.0))
