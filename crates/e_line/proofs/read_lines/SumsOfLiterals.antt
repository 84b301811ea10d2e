-- What the spelling of literals says of their sums.
use Rattle.std.proofs.Common.{◌≡◌, ℕ, ◌+◌, ◌-◌, ◌≤◌, Bool, true, false, cond, eqb, leb, ltb, ◌&&◌, ◌||◌, List, [], ◌∷◌, length, take, drop, Option, Some, None, Result, Ok, Err, ◌≢◌, true≢false, refl, sym, ap, subst, ◌∙◌, arith}
use Rattle.std.specs.Prelude.{codes, ◌==◌}
use Rattle.std.specs.List.{slice_split, position_or_len, list_all, AllByRecursion}
use Rattle.std.specs.Str.{bytes_eq}
use Rattle.std.proofs.lemmas.Bool.{leb-true, ltb-true, and_parts, eqb-false, ne_eqb}
use Rattle.std.proofs.lemmas.Bool.Decides.{nat_tests}
use Rattle.e_text.specs.Names.{is_digit}
use Rattle.e_text.specs.Numerals.{is_numeral, value_from}
use Rattle.e_text.proofs.Values.{value_le}
use Rattle.e_line.specs.declared.fault.FaultKind.{FaultKind}
use Rattle.e_line.specs.declared.fault.FaultKind.TheVariants.{Malformed}
use Rattle.e_line.specs.declared.sum.RawTerm.{RawTerm}
use Rattle.e_line.specs.declared.sum.RawMono.{RawMono}
use Rattle.e_line.specs.declared.literal.Relation.{Relation}
use Rattle.e_line.specs.declared.literal.Relation.TheVariants as signs
use Rattle.e_line.specs.declared.literal.RawLit.{RawLit}
use Rattle.e_line.specs.declared.literal.RawAtom.{RawAtom}
use Rattle.e_line.specs.declared.literal.RawAtom.TheVariants as raw
use Rattle.e_line.specs.Reading.{◌>>=◌, each}
use Rattle.e_line.specs.Sums.{term_named, term_of, coefficient_of, counted_term, mono_of, is_plus, is_zero, sum_of}
use Rattle.e_line.specs.Literals.{is_relation, single_name, sums_of, equal_sides, sides_of, negation_of, relation_first, lit_of_sides, lit_with_neg, lit_of, is_diagram_raw, diagram_lit_of, is_semicolon, lits_of}
use Rattle.e_line.proofs.base.Bound.{bind_ok, ok_is, read_ok}
use Rattle.e_line.proofs.base.Choices.{passed}
use Rattle.e_line.proofs.read_lines.LitsByWord.{OfEachRelation, lit_by_word}

-- ---- what is said

-- no coefficient is 0
abbrev pub SumSaid : List RawMono → Type 0
SumSaid ms = AllByRecursion (λ m. 1 ≤ m.coeff) ms

-- and one of the sums has a term
pub record SidesSaid (x y : List RawMono) : Type 0 where
  pub left : SumSaid x
  pub right : SumSaid y
  pub some : (length x == 0 && length y == 0) ≡ false

abbrev pub AtomSaid : RawAtom → Type 0
AtomSaid (raw.SumsEqual x y) = SidesSaid x y
AtomSaid (raw.SumsLess x y) = SidesSaid x y
AtomSaid (raw.SumsAtMost x y) = SidesSaid x y
AtomSaid a = Unit {0}

abbrev pub LitsSaid : List RawLit → Type 0
LitsSaid raws = AllByRecursion (λ r. AtomSaid r.atom) raws

-- ---- numerals

same_digit : (c : ℕ) → c ≡ 48 → bytes_eq (c ∷ []) (codes "0") ≡ true
same_digit c e = ap (λ k. bytes_eq (k ∷ []) (codes "0")) e

digit_by : (t : Bool) (b : ℕ) → (b == 48) ≡ t → is_digit b ≡ true → bytes_eq (b ∷ []) (codes "0") ≡ false → 1 ≤ b - 48
digit_by true b e d n = let is : b ≡ 48 = grind (arith, nat_tests) in absurd (true≢false (sym (same_digit b is) ∙ n))
digit_by false b e d n =
    let le = leb-true 48 b (and_parts (leb 48 b) (leb b 57) d).0 in
    let differs : b ≢ 48 = eqb-false b 48 e in omega arith

second : (t u : Bool) → (t || u) ≡ true → t ≡ false → u ≡ true
second true u h e = absurd (true≢false e)
second false u h e = h

numeral_some : (w : List ℕ) → is_numeral w ≡ true → bytes_eq w (codes "0") ≡ false → 1 ≤ value_from 0 w
numeral_some [] h n = absurd cc
numeral_some (b ∷ []) h n =
    let p = and_parts (list_all is_digit (b ∷ [])) (eqb 0 0 || ltb 48 b) h in
    let d = digit_by (b == 48) b refl (and_parts (is_digit b) true p.0).0 n in omega (arith, d)
numeral_some (b ∷ c ∷ cs) h n =
    let p = and_parts (list_all is_digit (b ∷ c ∷ cs)) (eqb (length (c ∷ cs)) 0 || ltb 48 b) h in
    let some : eqb (length (c ∷ cs)) 0 ≡ false = ne_eqb (length (c ∷ cs)) 0 (λ e. omega (arith, e)) in
    let big = ltb-true 48 b (second (eqb (length (c ∷ cs)) 0) (ltb 48 b) p.1 some) in
    let g = value_le (0 + (b - 48)) (c ∷ cs) in omega (arith, big, g)

-- ---- sums

not_malformed : {X : Type 0} (b : Bool) (x : Result X FaultKind) (v : X) → cond b (Err Malformed) x ≡ Ok v → (b ≡ false) × (x ≡ Ok v)
not_malformed true x v e = absurd cc
not_malformed false x v e = (refl, e)

abbrev mono : ℕ → RawTerm → RawMono
mono n t = record { coeff = n; term = t }

counted_said : (w : List ℕ) (ws : List (List ℕ)) (m : RawMono) → is_numeral w ≡ true → counted_term w ws ≡ Ok m → 1 ≤ m.coeff
unfolding counted_term
counted_said w ws m h e =
    let p = not_malformed (bytes_eq w (codes "0")) (term_of ws >>= λ t. read_ok (mono (coefficient_of w) t)) m e in
    let t = bind_ok (term_of ws) (λ t. read_ok (mono (coefficient_of w) t)) m p.1 in
    let v = numeral_some w h p.0 in
    let c : coefficient_of w ≡ m.coeff = ap (λ (x : RawMono). x.coeff) (ok_is (mono (coefficient_of w) t.0) m t.2) in
    omega (arith, v, c)

mono_said : (ws : List (List ℕ)) (m : RawMono) → mono_of ws ≡ Ok m → 1 ≤ m.coeff
unfolding mono_of
mono_said [] m e = absurd cc
mono_said (w ∷ ws) m e = by (is_numeral w) refl e
  where
    by : (b : Bool) → is_numeral w ≡ b → cond b (counted_term w ws) (term_named w ws >>= λ t. read_ok (mono 1 t)) ≡ Ok m → 1 ≤ m.coeff
    by true h k = counted_said w ws m h k
    by false h k =
        let t = bind_ok (term_named w ws) (λ t. read_ok (mono 1 t)) m k in
        let c : 1 ≡ m.coeff = ap (λ (x : RawMono). x.coeff) (ok_is (mono 1 t.0) m t.2) in omega (arith, c)

-- what holds of each that is read holds of all
pub each_said : {X Y : Type 0} (f : X → Result Y FaultKind) (P : Y → Type 0) → ((x : X) (y : Y) → f x ≡ Ok y → P y) → (xs : List X) (ys : List Y) → each f xs ≡ Ok ys → AllByRecursion P ys
each_said {X} {Y} f P h [] ys e = subst (λ (l : List Y). AllByRecursion P l) (ok_is [] ys e) tt
each_said {X} {Y} f P h (x ∷ xs) ys e =
    let a = bind_ok (f x) (λ y. each f xs >>= λ zs. read_ok (y ∷ zs)) ys e in
    let b = bind_ok (each f xs) (λ zs. read_ok (a.0 ∷ zs)) ys a.2 in
    subst (λ (l : List Y). AllByRecursion P l) (ok_is (a.0 ∷ b.0) ys b.2) (h x a.0 a.1, each_said f P h xs b.0 b.1)

sum_said : (ws : List (List ℕ)) (ms : List RawMono) → sum_of ws ≡ Ok ms → SumSaid ms
unfolding sum_of
sum_said ws ms e = by (is_zero ws) e
  where
    by : (b : Bool) → cond b (read_ok []) (each mono_of (slice_split is_plus ws)) ≡ Ok ms → SumSaid ms
    by true k = subst SumSaid (ok_is [] ms k) tt
    by false k = each_said mono_of (λ m. 1 ≤ m.coeff) mono_said (slice_split is_plus ws) ms k

abbrev sums : List RawMono → List RawMono → List RawMono × List RawMono
sums x y = (x, y)

sums_said : (left right : List (List ℕ)) (p : List RawMono × List RawMono) → sums_of left right ≡ Ok p → SidesSaid p.0 p.1
unfolding sums_of
sums_said left right p e =
    let then : List RawMono → List RawMono → Result (List RawMono × List RawMono) FaultKind = λ x y. cond (length x == 0 && length y == 0) (Err Malformed) (read_ok (sums x y)) in
    let x = bind_ok (sum_of left) (λ x. sum_of right >>= λ y. then x y) p e in
    let y = bind_ok (sum_of right) (λ y. then x.0 y) p x.2 in
    let n = not_malformed (length x.0 == 0 && length y.0 == 0) (read_ok (sums x.0 y.0)) p y.2 in
    subst (λ (q : List RawMono × List RawMono). SidesSaid q.0 q.1) (ok_is (sums x.0 y.0) p n.1)
    (record { left = sum_said left x.0 x.1; right = sum_said right y.0 y.1; some = n.0 })

-- ---- comparisons

to : (x a : RawAtom) → AtomSaid x → read_ok x ≡ Ok a → AtomSaid a
to x a h e = subst AtomSaid (ok_is x a e) h

from_sums : (f : List RawMono → List RawMono → RawAtom) → ((x y : List RawMono) → SidesSaid x y → AtomSaid (f x y)) → (left right : List (List ℕ)) (a : RawAtom)
    → (sums_of left right >>= λ p. read_ok (f p.0 p.1)) ≡ Ok a → AtomSaid a
from_sums f h left right a e =
    let p = bind_ok (sums_of left right) (λ p. read_ok (f p.0 p.1)) a e in
    to (f p.0.0 p.0.1) a (h p.0.0 p.0.1 (sums_said left right p.0 p.1)) p.2

equal_said : (x y : Option (List ℕ)) (left right : List (List ℕ)) (a : RawAtom) → equal_sides x y (sums_of left right) ≡ Ok a → AtomSaid a
equal_said (Some x) (Some y) left right a e = to (raw.Equal x y) a tt e
equal_said (Some x) None left right a e = from_sums raw.SumsEqual (λ x y h. h) left right a e
equal_said None y left right a e = from_sums raw.SumsEqual (λ x y h. h) left right a e

sides_said : (s : Relation) (left right : List (List ℕ)) (a : RawAtom) → sides_of s left right ≡ Ok a → AtomSaid a
unfolding sides_of
sides_said signs.Equal left right a e = equal_said (single_name left) (single_name right) left right a e
sides_said signs.Differ left right a e = equal_said (single_name left) (single_name right) left right a e
sides_said signs.Less left right a e = from_sums raw.SumsLess (λ x y h. h) left right a e
sides_said signs.AtMost left right a e = from_sums raw.SumsAtMost (λ x y h. h) left right a e

abbrev LitSaid : RawLit → Type 0
LitSaid l = AtomSaid l.atom

compared_said : (negated : Bool) (ws : List (List ℕ)) (l : RawLit) → lit_of_sides negated ws ≡ Ok l → LitSaid l
unfolding lit_of_sides
compared_said negated ws l e =
    let n = position_or_len is_relation ws in
    let s = bind_ok (relation_first (drop n ws)) (λ s. negation_of negated s.0 >>= λ neg. sides_of s.0 (take n ws) s.1 >>= λ a. read_ok (lit_with_neg neg a)) l e in
    let neg = bind_ok (negation_of negated s.0.0) (λ neg. sides_of s.0.0 (take n ws) s.0.1 >>= λ a. read_ok (lit_with_neg neg a)) l s.2 in
    let a = bind_ok (sides_of s.0.0 (take n ws) s.0.1) (λ a. read_ok (lit_with_neg neg.0 a)) l neg.2 in
    subst LitSaid (ok_is (lit_with_neg neg.0 a.0) l a.2) (sides_said s.0.0 (take n ws) s.0.1 a.0 a.1)

-- ---- literals

said : OfEachRelation LitSaid
said = record {
  of_on = λ negated x y. tt;
  of_inside = λ negated x y. tt;
  of_center = λ negated x y. tt;
  of_between = λ negated x y z. tt;
  of_same_side = λ negated x y z. tt;
  of_meets = λ negated x y. tt;
  of_compared = compared_said;
}

pub lit_said : (ws : List (List ℕ)) (l : RawLit) → lit_of ws ≡ Ok l → AtomSaid l.atom
lit_said = lit_by_word LitSaid said

pub lits_said : (ws : List (List ℕ)) (ls : List RawLit) → lits_of ws ≡ Ok ls → LitsSaid ls
lits_said ws ls e = each_said lit_of (λ l. AtomSaid l.atom) lit_said (slice_split is_semicolon ws) ls e

pub diagram_said : (ws : List (List ℕ)) (l : RawLit) → diagram_lit_of ws ≡ Ok l → is_diagram_raw l.atom ≡ true
unfolding diagram_lit_of
diagram_said ws l e =
    let x = bind_ok (lit_of ws) (λ x. cond (is_diagram_raw x.atom) (read_ok x) (Err Malformed)) l e in
    let d = passed (is_diagram_raw x.0.atom) (read_ok x.0) l x.2 in
    subst (λ (y : RawLit). is_diagram_raw y.atom ≡ true) (ok_is x.0 l d.1) d.0
