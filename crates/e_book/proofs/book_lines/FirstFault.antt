-- The first fault of lines is that of a front, and whatever follows it is nothing to it.
use Rattle.std.proofs.Common.{◌≡◌, ℕ, Bool, true, false, cond, inl, inr, [], ◌∷◌, ◌++◌, Option, Some, None, Result, Ok, Err, refl, sym, ap, subst}
use Rattle.std.specs.Prelude.{◌⊎◌}
use Rattle.e_text.specs.Tokens.{tokens_of}
use Rattle.e_text.specs.Lines.{LineView}
use Rattle.e_text.specs.declared.line.LineFault.{LineFault}
use Rattle.e_line.specs.declared.fault.FaultKind.{FaultKind}
use Rattle.e_line.specs.declared.fault.BookFault.{BookFault}
use Rattle.e_line.specs.declared.fault.BookFault.TheVariants as faults
use Rattle.e_line.specs.Reading.{◌>>=◌}
use Rattle.e_names.specs.declared.known.Known.{Known}
use Rattle.e_book.specs.Grammar.{is_skipped, Rest}
use Rattle.e_book.specs.Definitions.{BookItem, PartialItem, Answer, item_ended, whole_or, at_end, put_there, item_after_words, item_from}
use Rattle.e_book.specs.FirstFault.{Leaves, IsFaulty, BreaksAt, IsFirst}

abbrev wrong : BookFault → Answer
wrong fault = Err fault

-- what is so in either case of a test
in_case : (b : Bool) (x y z : Answer) → (b ≡ true → x ≡ z) → (b ≡ false → y ≡ z) → cond b x y ≡ z
in_case true x y z t f = t refl
in_case false x y z t f = f refl

by_case : (b : Bool) (x y z : Answer) (P : Type 0) → cond b x y ≡ z → (b ≡ true → x ≡ z → P) → (b ≡ false → y ≡ z → P) → P
by_case true x y z P e t f = t refl e
by_case false x y z P e t f = f refl e

-- what follows a line
abbrev after : Known → ℕ → Rest → PartialItem → Answer
after known last lines n = whole_or (item_ended n) lines (item_from known last (Some n) lines)

pub front_fault : (known : Known) (o left : Option PartialItem) (front : Rest) (line : Result LineView LineFault) (fault : BookFault) → Leaves known o front left → IsFaulty known left line fault
    → (last : ℕ) (other : Rest) → item_from known last o (front ++ line ∷ other) ≡ wrong fault
front_fault known o left [] (Err f) fault e q last other = ap (λ (x : BookFault). wrong x) q
front_fault known o left [] (Ok l) fault e q last other =
    let p : IsFaulty known o (Ok l) fault = subst (λ (s : Option PartialItem). IsFaulty known s (Ok l) fault) (sym e) q in
    rw (p.0, p.1) refl
front_fault known o left (Err f ∷ ls) line fault h q last other = absurd h
front_fault known o left (Ok l ∷ ls) line fault h q last other =
    in_case (is_skipped (tokens_of l.bytes)) (item_from known last o (ls ++ line ∷ other))
    (put_there l.number (item_after_words known o (tokens_of l.bytes)) >>= λ n. after known last (ls ++ line ∷ other) n) (wrong fault)
    (λ t. front_fault known o left ls line fault (h.0 t) q last other)
    (λ f. let s = h.1 f in rw (s.1, s.2) (front_fault known (Some s.0) left ls line fault s.3 q last other))

-- one more line before the front
longer : (known : Known) (last : ℕ) (o m : Option PartialItem) (l : LineView) (ls : Rest) (fault : BookFault)
    → ((front : Rest) (left : Option PartialItem) → Leaves known m front left → Leaves known o (Ok l ∷ front) left) → IsFirst known last m ls fault → IsFirst known last o (Ok l ∷ ls) fault
longer known last o m l ls fault more (inl b) =
    inl (record { front = Ok l ∷ b.front; line = b.line; rest = b.rest; all = ap (λ (x : Rest). Ok l ∷ x) b.all; left = b.left; taken = more b.front b.left b.taken; faulty = b.faulty })
longer known last o m l ls fault more (inr e) = inr (e.0, more ls (Some e.0) e.1, e.2)

unended : (last : ℕ) (o : Option PartialItem) (fault : BookFault) → at_end last o ≡ wrong fault → (n : PartialItem) × (o ≡ Some n) × (faults.Unended last ≡ fault)
unended last None fault e = absurd cc
unended last (Some n) fault e = (n, refl, cc)

abbrev read_partial : PartialItem → Result PartialItem FaultKind
read_partial n = Ok n

unfinished : (known : Known) (last : ℕ) (n : PartialItem) (ls : Rest) (fault : BookFault) (t : Option BookItem) → item_ended n ≡ t → whole_or t ls (item_from known last (Some n) ls) ≡ wrong fault
    → (item_ended n ≡ None) × (item_from known last (Some n) ls ≡ wrong fault)
unfinished known last n ls fault None is e = (is, e)
unfinished known last n ls fault (Some t) is e = absurd cc

-- what a line made of it, where it ends in a fault
went : (known : Known) (last : ℕ) (l : LineView) (ls : Rest) (r : Result PartialItem FaultKind) (fault : BookFault) → (put_there l.number r >>= λ n. after known last ls n) ≡ wrong fault
    → (put_there l.number r ≡ Err fault) ⊎ ((n : PartialItem) × (r ≡ read_partial n) × (item_ended n ≡ None) × (item_from known last (Some n) ls ≡ wrong fault))
went known last l ls (Err k) fault e = inl cc
went known last l ls (Ok n) fault e = let u = unfinished known last n ls fault (item_ended n) refl e in inr (n, refl, u.0, u.1)

pub first_fault : (known : Known) (last : ℕ) (o : Option PartialItem) (lines : Rest) (fault : BookFault) → item_from known last o lines ≡ wrong fault → IsFirst known last o lines fault
first_fault known last o [] fault e = let u = unended last o fault e in inr (u.0, u.1, u.2)
first_fault known last o (Err f ∷ ls) fault e = inl (record { front = []; line = Err f; rest = ls; all = refl; left = o; taken = refl; faulty = cc })
first_fault known last o (Ok l ∷ ls) fault e =
    by_case (is_skipped (tokens_of l.bytes)) (item_from known last o ls)
    (put_there l.number (item_after_words known o (tokens_of l.bytes)) >>= λ n. after known last ls n) (wrong fault) (IsFirst known last o (Ok l ∷ ls) fault) e
    (λ t h. longer known last o o l ls fault (λ front left k. ((λ u. k), (λ f. absurd cc))) (first_fault known last o ls fault h))
    (λ f h. elim (went known last l ls (item_after_words known o (tokens_of l.bytes)) fault h) [
      | inl x ↦ inl (record { front = []; line = Ok l; rest = ls; all = refl; left = o; taken = refl; faulty = (f, x) })
      | inr x ↦ longer known last o (Some x.0) l ls fault (λ front left k. ((λ t. absurd cc), (λ g. (x.0, x.1, x.2, k)))) (first_fault known last (Some x.0) ls fault x.3)
    ])

-- ---- from the first line on

pub fault_is_first : (known : Known) (last : ℕ) (lines : Rest) (fault : BookFault) → item_from known last None lines ≡ wrong fault → IsFirst known last None lines fault
fault_is_first known last lines fault e = first_fault known last None lines fault e

pub fault_of_front : (known : Known) (lines : Rest) (fault : BookFault) (b : BreaksAt known None lines fault) (last : ℕ) (other : Rest) → item_from known last None (b.front ++ b.line ∷ other) ≡ wrong fault
fault_of_front known lines fault b last other = front_fault known None b.left b.front b.line fault b.taken b.faulty last other
