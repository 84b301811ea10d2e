-- The numbers of the facts, by their marks.
use Rattle.std.proofs.Common.{◌≡◌, ◌≢◌, ℕ, ◌+◌, ◌*◌, ◌<◌, List, [], ◌∷◌, ◌++◌, refl, sym, ap, ◌∙◌, subst, arith, eqb-true, eq-eqb, get_or, get_or-set_same, get_or-set_other, set, take, length, length-append, length-set, append-nil, append_assoc, inl, inr, Bool, true, false, cond, ◌&&◌, ◌||◌, ◌==◌, Option, Some}
use Rattle.std.specs.Prelude.{slice_get}
use Rattle.std.specs.List.{list_any}
use Rattle.std.proofs.lemmas.Bool.{cases_lt, cases_eq}
use Rattle.std.proofs.lemmas.List.{get_or_append_left}
use Rattle.e_literal.specs.declared.literal.Atom.{Atom}
use Rattle.e_literal.specs.declared.literal.Atom.TheVariants.{On, OnC, Inside, Center, Between, Same, MeetLL, MeetLC, MeetCC, EqP, EqL, EqC, MagEq, MagLt}
use Rattle.e_literal.specs.declared.literal.Lit.{Lit}
use Rattle.e_metric.proofs.terms.FirstTerms.{take_one}
use Rattle.e_transfer.specs.Marks.{lit_mark, mark_number, relation_number}
use Rattle.e_transfer.specs.Listings.{numbers_of_atom, numbers_if, numbers_with, HasNumbersOf, IsListing}
use Rattle.e_transfer.specs.inner.BoundFacts.{fits, may_be_among}

abbrev Lists : Type 0
Lists = List (List (ℕ × ℕ × ℕ))

last_one : (xs : Lists) (x : List (ℕ × ℕ × ℕ)) → get_or (xs ++ x ∷ []) (length xs) [] ≡ x
last_one [] x = refl
last_one (y ∷ xs) x = last_one xs x

-- one more list
pub pushed_long : (xs new : Lists) (x : List (ℕ × ℕ × ℕ)) (n : ℕ) → new ≡ xs ++ x ∷ [] → length xs ≡ n → length new ≡ n + 1
pushed_long xs new x n is many = let e = ap length is in let k = length-append xs (x ∷ []) in omega (arith, e, k, many)

pub pushed_at : (g : ℕ → List (ℕ × ℕ × ℕ)) (xs new : Lists) (x : List (ℕ × ℕ × ℕ)) (n : ℕ) → new ≡ xs ++ x ∷ [] → length xs ≡ n → ((m : ℕ) → m < n → get_or xs m [] ≡ g m) → x ≡ g n
    → (m : ℕ) → m < n + 1 → get_or new m [] ≡ g m
pushed_at g xs new x n is many all here m less = elim (cases_lt m n) [
  | inl below ↦ ap (λ l. get_or l m []) is ∙ get_or_append_left xs (x ∷ []) [] m (omega (arith, many, below)) ∙ all m below
  | inr over ↦
      let at : m ≡ length xs = omega (arith, less, over, many) in
      let same : n ≡ m = omega (arith, less, over) in
      ap (λ l. get_or l m []) is ∙ ap (λ k. get_or (xs ++ x ∷ []) k []) at ∙ last_one xs x ∙ here ∙ ap g same
]

numbers_append : (mark : ℕ) (facts more : List Lit) → numbers_with mark (facts ++ more) ≡ numbers_with mark facts ++ numbers_with mark more
numbers_append mark [] more = refl
numbers_append mark (f ∷ fs) more = ap (λ ns. numbers_if mark f ++ ns) (numbers_append mark fs more) ∙ sym (append_assoc (numbers_if mark f) (numbers_with mark fs) (numbers_with mark more))

if_same : (mark : ℕ) (l : Lit) → mark ≡ lit_mark l → numbers_if mark l ≡ numbers_of_atom l.atom ∷ []
if_same mark l is = ap (λ b. cond b (numbers_of_atom l.atom ∷ []) []) (eq-eqb (lit_mark l) mark (sym is))

if_other : (mark : ℕ) (l : Lit) → mark ≢ lit_mark l → numbers_if mark l ≡ []
if_other mark l other = by (lit_mark l == mark) refl
  where
    by : (b : Bool) → (lit_mark l == mark) ≡ b → cond b (numbers_of_atom l.atom ∷ []) [] ≡ []
    by true is = absurd (other (sym (eqb-true (lit_mark l) mark is)))
    by false is = refl

pub still_long : (old new : Lists) (fact : Lit) → HasNumbersOf old fact new → length new ≡ length old
still_long old new fact adds = ap length adds ∙ length-set old (lit_mark fact) (get_or old (lit_mark fact) [] ++ numbers_of_atom fact.atom ∷ [])

low_relation : (a : Atom) → relation_number a < 14
low_relation (On x y) = omega arith
low_relation (OnC x y) = omega arith
low_relation (Inside x y) = omega arith
low_relation (Center x y) = omega arith
low_relation (Between x y z) = omega arith
low_relation (Same x y z) = omega arith
low_relation (MeetLL x y) = omega arith
low_relation (MeetLC x y) = omega arith
low_relation (MeetCC x y) = omega arith
low_relation (EqP x y) = omega arith
low_relation (EqL x y) = omega arith
low_relation (EqC x y) = omega arith
low_relation (MagEq x y) = omega arith
low_relation (MagLt x y) = omega arith

low_mark : (a : ℕ) (b : Bool) → a < 14 → mark_number a b < 28
low_mark a false less = let r : 2 * a + 0 < 28 = omega (arith, less) in r
low_mark a true less = let r : 2 * a + 1 < 28 = omega (arith, less) in r

pub of_low_mark : (l : Lit) → lit_mark l < 28
of_low_mark l = low_mark (relation_number l.atom) l.neg (low_relation l.atom)

-- one fact more is listed
pub one_more_listed : (facts : List Lit) (old new : Lists) (i : ℕ) (fact : Lit) → slice_get facts i ≡ Some fact → lit_mark fact < 28 → IsListing (take i facts) old → HasNumbersOf old fact new
    → IsListing (take (i + 1) facts) new
one_more_listed facts old new i fact here low before adds =
    let k = lit_mark fact in
    let x = numbers_of_atom fact.atom in
    let v = get_or old k [] ++ x ∷ [] in
    let first = take i facts in
    let long = before.long in
    let grown : (m : ℕ) → numbers_with m (take (i + 1) facts) ≡ numbers_with m first ++ numbers_if m fact = λ m.
    ap (numbers_with m) (take_one facts i fact here) ∙ numbers_append m first (fact ∷ []) ∙ ap (λ ns. numbers_with m first ++ ns) (append-nil (numbers_if m fact)) in
    record {
      long = ap length adds ∙ length-set old k v ∙ long;
      at = λ m less. ap (λ (l : Lists). get_or l m []) adds ∙ elim (cases_eq m k) [
        | inl same ↦
            ap (λ n. get_or (set old k v) n []) same ∙ get_or-set_same old k v [] (omega (arith, low, long))
            ∙ ap (λ ns. ns ++ x ∷ []) (before.at k low ∙ ap (λ n. numbers_with n first) (sym same)) ∙ ap (λ ns. numbers_with m first ++ ns) (sym (if_same m fact same)) ∙ sym (grown m)
        | inr other ↦
            get_or-set_other old k m v [] other ∙ before.at m less ∙ sym (ap (λ ns. numbers_with m first ++ ns) (if_other m fact other) ∙ append-nil (numbers_with m first)) ∙ sym (grown m)
      ];
    }

-- some of a mark fit where a fact with the mark does
pub some_fit : (mark : ℕ) (known : Option ℕ × Option ℕ × Option ℕ) (facts : List Lit) → list_any (fits known) (numbers_with mark facts) ≡ may_be_among mark known facts
some_fit mark known [] = refl
some_fit mark known (f ∷ fs) = by (lit_mark f == mark) (some_fit mark known fs)
  where
    by : (b : Bool) → list_any (fits known) (numbers_with mark fs) ≡ may_be_among mark known fs
        → list_any (fits known) (cond b (numbers_of_atom f.atom ∷ []) [] ++ numbers_with mark fs) ≡ ((b && fits known (numbers_of_atom f.atom)) || may_be_among mark known fs)
    by true later = ap (λ c. fits known (numbers_of_atom f.atom) || c) later
    by false later = later
