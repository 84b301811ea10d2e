-- What the spelling of a literal says of its sign: not stands before no <=.
use Rattle.std.proofs.Common.{◌≡◌, ℕ, Bool, true, false, cond, ◌&&◌, List, [], ◌∷◌, take, drop, Option, Some, None, Result, Ok, Err, refl, ap, subst, ◌∙◌}
use Rattle.std.specs.Prelude.{codes}
use Rattle.std.specs.List.{slice_split, position_or_len, AllByRecursion}
use Rattle.std.specs.Str.{bytes_eq}
use Rattle.std.proofs.lemmas.Option.{same_Some}
use Rattle.e_line.specs.declared.fault.FaultKind.{FaultKind}
use Rattle.e_line.specs.declared.fault.FaultKind.TheVariants.{Malformed}
use Rattle.e_line.specs.declared.sum.RawMono.{RawMono}
use Rattle.e_line.specs.declared.literal.RawLit.{RawLit}
use Rattle.e_line.specs.declared.literal.RawAtom.{RawAtom}
use Rattle.e_line.specs.declared.literal.RawAtom.TheVariants as raw
use Rattle.e_line.specs.Reading.{◌>>=◌, or_malformed}
use Rattle.e_line.specs.Literals.{relation_of, is_relation, single_name, sums_of, equal_sides, sides_of, negation_of, relation_first, lit_of_sides, lit_with_neg, lit_of, is_semicolon, lits_of}
use Rattle.e_line.proofs.base.Bound.{bind_ok, ok_is, read_ok}
use Rattle.e_line.proofs.read_lines.LitsByWord.{OfEachRelation, lit_by_word}
use Rattle.e_line.proofs.read_lines.SumsOfLiterals.{each_said}

abbrev pub is_at_most : RawAtom → Bool
is_at_most (raw.SumsAtMost x y) = true
is_at_most a = false

-- no <= is negated
abbrev pub Signed : RawLit → Type 0
Signed l = (l.neg && is_at_most l.atom) ≡ false

abbrev pub AllSigned : List RawLit → Type 0
AllSigned ls = AllByRecursion Signed ls

abbrev OtherSign : RawAtom → Type 0
OtherSign a = is_at_most a ≡ false

to : (x a : RawAtom) → OtherSign x → read_ok x ≡ Ok a → OtherSign a
to x a h e = subst OtherSign (ok_is x a e) h

from_sums : (f : List RawMono → List RawMono → RawAtom) → ((x y : List RawMono) → OtherSign (f x y)) → (left right : List (List ℕ)) (a : RawAtom)
    → (sums_of left right >>= λ p. read_ok (f p.0 p.1)) ≡ Ok a → OtherSign a
from_sums f h left right a e =
    let p = bind_ok (sums_of left right) (λ p. read_ok (f p.0 p.1)) a e in
    to (f p.0.0 p.0.1) a (h p.0.0 p.0.1) p.2

equal_other : (x y : Option (List ℕ)) (left right : List (List ℕ)) (a : RawAtom) → equal_sides x y (sums_of left right) ≡ Ok a → OtherSign a
equal_other (Some x) (Some y) left right a e = to (raw.Equal x y) a refl e
equal_other (Some x) None left right a e = from_sums raw.SumsEqual (λ x y. refl) left right a e
equal_other None y left right a e = from_sums raw.SumsEqual (λ x y. refl) left right a e

-- no literal of two sides
unsigned : (a : RawAtom) (neg : Bool) → OtherSign a → (neg && is_at_most a) ≡ false
unsigned a true h = h
unsigned a false h = refl

by_sign : {S : Type 0} (P : S → Type 0) (a b c d : Bool) (equal differ less at_most s : S) → P equal → P differ → P less → P at_most
    → cond a (Some equal) (cond b (Some differ) (cond c (Some less) (cond d (Some at_most) None))) ≡ Some s → P s
by_sign P true b c d equal differ less at_most s pe pd pl pa e = subst P (same_Some equal s e) pe
by_sign P false true c d equal differ less at_most s pe pd pl pa e = subst P (same_Some differ s e) pd
by_sign P false false true d equal differ less at_most s pe pd pl pa e = subst P (same_Some less s e) pl
by_sign P false false false true equal differ less at_most s pe pd pl pa e = subst P (same_Some at_most s e) pa
by_sign P false false false false equal differ less at_most s pe pd pl pa e = absurd cc

sign_found : {S : Type 0} (o : Option S) (s : S) → or_malformed o ≡ Ok s → o ≡ Some s
sign_found None s e = absurd cc
sign_found (Some x) s e = ap Some (ok_is x s e)

-- the answer at <=
abbrev negation_at_most : Bool → Result Bool FaultKind
negation_at_most true = Err Malformed
negation_at_most false = Ok false

at_most_signed : (negated neg : Bool) (a : RawAtom) → negation_at_most negated ≡ Ok neg → (neg && is_at_most a) ≡ false
at_most_signed true neg a n = absurd cc
at_most_signed false neg a n = subst (λ (b : Bool). (b && is_at_most a) ≡ false) (ok_is false neg n) refl

abbrev pair : {A B : Type 0} → A → B → A × B
pair a b = (a, b)

-- two sides after the sign that a word is
sides_signed : (negated : Bool) (left rest : List (List ℕ)) (l : RawLit) → (relation_first rest >>= λ s. negation_of negated s.0 >>= λ neg. sides_of s.0 left s.1 >>= λ a. read_ok (lit_with_neg neg a)) ≡ Ok l → Signed l
unfolding sides_of
sides_signed negated left [] l e = absurd cc
sides_signed negated left (w ∷ ws) l e =
    let s = bind_ok (relation_first (w ∷ ws)) (λ s. negation_of negated s.0 >>= λ neg. sides_of s.0 left s.1 >>= λ a. read_ok (lit_with_neg neg a)) l e in
    let t = bind_ok (or_malformed (relation_of w)) (λ s. read_ok (pair s ws)) s.0 s.1 in
    let neg = bind_ok (negation_of negated s.0.0) (λ neg. sides_of s.0.0 left s.0.1 >>= λ a. read_ok (lit_with_neg neg a)) l s.2 in
    let a = bind_ok (sides_of s.0.0 left s.0.1) (λ a. read_ok (lit_with_neg neg.0 a)) l neg.2 in
    let is = ok_is (pair t.0 ws) s.0 t.2 in
    let holds = by_sign (λ sign. (neg : Bool) (a : RawAtom) → negation_of negated sign ≡ Ok neg → sides_of sign left ws ≡ Ok a → (neg && is_at_most a) ≡ false)
    (bytes_eq w (codes "=")) (bytes_eq w (codes "!=")) (bytes_eq w (codes "<")) (bytes_eq w (codes "<=")) _ _ _ _ t.0
    (λ neg a n k. unsigned a neg (equal_other (single_name left) (single_name ws) left ws a k))
    (λ neg a n k. unsigned a neg (equal_other (single_name left) (single_name ws) left ws a k))
    (λ neg a n k. unsigned a neg (from_sums raw.SumsLess (λ x y. refl) left ws a k))
    (λ neg a n k. at_most_signed negated neg a n)
    (sign_found (relation_of w) t.0 t.1) in
    subst Signed (ok_is (lit_with_neg neg.0 a.0) l a.2)
    (holds neg.0 a.0 (ap (λ q. negation_of negated q.0) is ∙ neg.1) (ap (λ q. sides_of q.0 left q.1) is ∙ a.1))

compared_signed : (negated : Bool) (ws : List (List ℕ)) (l : RawLit) → lit_of_sides negated ws ≡ Ok l → Signed l
unfolding lit_of_sides
compared_signed negated ws l e = let n = position_or_len is_relation ws in sides_signed negated (take n ws) (drop n ws) l e

-- ---- literals

each_signed : OfEachRelation Signed
each_signed = record {
  of_on = λ negated x y. unsigned (raw.On x y) negated refl;
  of_inside = λ negated x y. unsigned (raw.Inside x y) negated refl;
  of_center = λ negated x y. unsigned (raw.Center x y) negated refl;
  of_between = λ negated x y z. unsigned (raw.Between x y z) negated refl;
  of_same_side = λ negated x y z. unsigned (raw.Same x y z) negated refl;
  of_meets = λ negated x y. unsigned (raw.Meets x y) negated refl;
  of_compared = compared_signed;
}

pub lit_signed : (ws : List (List ℕ)) (l : RawLit) → lit_of ws ≡ Ok l → Signed l
lit_signed = lit_by_word Signed each_signed

pub lits_signed : (ws : List (List ℕ)) (ls : List RawLit) → lits_of ws ≡ Ok ls → AllSigned ls
lits_signed ws ls e = each_said lit_of Signed lit_signed (slice_split is_semicolon ws) ls e
