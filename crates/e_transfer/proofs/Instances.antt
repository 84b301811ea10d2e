-- Instances of a rule, by the first numbers of a choice.
use Rattle.std.proofs.Common.{◌≡◌, ℕ, zero, suc, ◌+◌, ◌<◌, ◌≤◌, List, [], ◌∷◌, ◌++◌, refl, sym, ap, ◌∙◌, subst, arith, Bool, true, false, cond, get_or, length, map, inl, inr, Some, None}
use Rattle.std.specs.Prelude.{slice_get, option_and_then, max}
use Rattle.std.proofs.lemmas.Bool.{cases_lt}
use Rattle.std.proofs.lemmas.List.{map-append, get_or_append_left}
use Rattle.std.proofs.lemmas.Option.{same_Some, none-some}
use Rattle.e_literal.specs.declared.object.Obj.{Obj}
use Rattle.e_literal.specs.declared.object.Mono.{Mono}
use Rattle.e_literal.specs.declared.object.Term.{Term}
use Rattle.e_literal.specs.declared.object.Term.TheVariants.{Seg, Ang, Area, Right}
use Rattle.e_literal.specs.declared.literal.Lit.{Lit}
use Rattle.e_literal.specs.declared.literal.Atom.{Atom}
use Rattle.e_literal.specs.declared.literal.Atom.TheVariants.{On, OnC, Inside, Center, Between, Same, MeetLL, MeetLC, MeetCC, EqP, EqL, EqC, MagEq, MagLt}
use Rattle.e_literal.specs.Literal.{negation}
use Rattle.e_literal.specs.Rename.{term_at, mono_at, atom_at}
use Rattle.e_clause.specs.Rows.{Row}
use Rattle.e_clause.specs.Table.{table}
use Rattle.e_clause.specs.Instance.{Inst, instance_of_row, arguments_fit, number, lit_at, clause_of}
use Rattle.e_transfer.specs.inner.Equations.{line_variable, circle_variable}
use Rattle.e_clause.specs.Views.{row_of}
use Rattle.e_transfer.specs.declared.numbers.Numbers.{Numbers}
use Rattle.e_transfer.specs.inner.PartsOfChoices.{arguments_by, arguments_from, chosen_arguments, term_last, sum_last, atom_last, ready_at_of}

-- ---- the literals of an instance

by_fit : (b : Bool) (xs lits : List Lit) → cond b (Some xs) None ≡ Some lits → (b ≡ true) × (lits ≡ xs)
by_fit true xs lits e = (refl, sym (same_Some xs lits e))
by_fit false xs lits e = absurd (none-some lits e)

-- an instance has arguments of the row's sorts, and its literals are those of the clause
pub of_instance : (rule : ℕ) (args : List Obj) (r : Row) (lits : List Lit) → slice_get table rule ≡ Some r → Inst rule args ≡ Some lits
    → (arguments_fit r args ≡ true) × (lits ≡ map (lit_at r args) (clause_of r))
unfolding Inst
of_instance rule args r lits at h =
    by_fit (arguments_fit r args) (map (lit_at r args) (clause_of r)) lits (sym (ap (option_and_then (λ x. instance_of_row x args)) at) ∙ h)

map_at : {X Y : Type 0} (h : X → Y) (xs : List X) (j : ℕ) (y : Y) → slice_get (map h xs) j ≡ Some y → (x : X) × (slice_get xs j ≡ Some x) × (y ≡ h x)
map_at h [] j y e = absurd (none-some y e)
map_at h (x ∷ xs) zero y e = (x, refl, sym (same_Some (h x) y e))
map_at h (x ∷ xs) (suc j) y e = map_at h xs j y e

pub at_map : {X Y : Type 0} (h : X → Y) (xs : List X) (j : ℕ) (x : X) → slice_get xs j ≡ Some x → slice_get (map h xs) j ≡ Some (h x)
at_map h [] j x e = absurd (none-some x e)
at_map h (y ∷ ys) zero x e = ap (λ z. Some (h z)) (same_Some y x e)
at_map h (y ∷ ys) (suc j) x e = at_map h ys j x e

-- ---- the numbers of the arguments

pub chosen : (r : Row) (c : List ℕ) (k : ℕ) (positions : List ℕ) (v : ℕ) → v < length positions → number (arguments_from r c k positions) v ≡ get_or c (get_or positions v 0) 0
chosen r c k [] v less = absurd (omega (arith, less))
chosen r c k (p ∷ positions) zero less = refl
chosen r c k (p ∷ positions) (suc v) less = chosen r c (k + 1) positions v (omega (arith, less))

pub unchosen : (r : Row) (c : List ℕ) (k : ℕ) (positions : List ℕ) (v : ℕ) → length positions ≤ v → number (arguments_from r c k positions) v ≡ 0
unchosen r c k [] v over = refl
unchosen r c k (p ∷ positions) zero over = absurd (omega (arith, over))
unchosen r c k (p ∷ positions) (suc v) over = unchosen r c (k + 1) positions v (omega (arith, over))

-- the arguments where the places are those of a plan
pub arguments_at : (n : Numbers) (positions : List ℕ) → n.positions.now ≡ positions → arguments_by n ≡ chosen_arguments (row_of n.row.now) positions n.part.now
arguments_at n positions is = ap (λ ps. chosen_arguments (row_of n.row.now) ps n.part.now) is

-- a number that is chosen stays
pub number_kept : (r : Row) (positions part rest : List ℕ) (v : ℕ) → get_or positions v 0 < length part
    → number (chosen_arguments r positions (part ++ rest)) v ≡ number (chosen_arguments r positions part) v
number_kept r positions part rest v less = elim (cases_lt v (length positions)) [
  | inl here ↦ chosen r (part ++ rest) 0 positions v here ∙ get_or_append_left part rest 0 (get_or positions v 0) less ∙ sym (chosen r part 0 positions v here)
  | inr over ↦ unchosen r (part ++ rest) 0 positions v over ∙ sym (unchosen r part 0 positions v over)
]

-- ---- a literal is known where the last of its variables is chosen

-- the two readings agree on the variables whose places are below n
abbrev pub AgreeBelow : List ℕ → ℕ → (ℕ → ℕ) → (ℕ → ℕ) → Type 0
AgreeBelow positions n f g = (v : ℕ) → get_or positions v 0 < n → f v ≡ g v

two_below : (a b n : ℕ) → max a b < n → (a < n) × (b < n)
two_below a b n less = (omega (arith, less), omega (arith, less))

agree_on_two : (positions : List ℕ) (n : ℕ) (f g : ℕ → ℕ) → AgreeBelow positions n f g → (v w : ℕ) → max (get_or positions v 0) (get_or positions w 0) < n
    → (f v ≡ g v) × (f w ≡ g w)
agree_on_two positions n f g same v w less =
    let b = two_below (get_or positions v 0) (get_or positions w 0) n less in (same v b.0, same w b.1)

agree_on_three : (positions : List ℕ) (n : ℕ) (f g : ℕ → ℕ) → AgreeBelow positions n f g → (v w u : ℕ)
    → max (max (get_or positions v 0) (get_or positions w 0)) (get_or positions u 0) < n → (f v ≡ g v) × (f w ≡ g w) × (f u ≡ g u)
agree_on_three positions n f g same v w u less =
    let b = two_below (max (get_or positions v 0) (get_or positions w 0)) (get_or positions u 0) n less in
    let c = two_below (get_or positions v 0) (get_or positions w 0) n b.0 in
    (same v c.0, same w c.1, same u b.1)

pub term_kept : (positions : List ℕ) (n : ℕ) (f g : ℕ → ℕ) → AgreeBelow positions n f g → (t : Term) → term_last positions t < n → term_at f t ≡ term_at g t
term_kept positions n f g same (Seg x y) less = let e = agree_on_two positions n f g same x y less in let p = e.0 in let q = e.1 in cc
term_kept positions n f g same (Ang x y z) less = let e = agree_on_three positions n f g same x y z less in let p = e.0 in let q = e.1 in let s = e.2 in cc
term_kept positions n f g same (Area x y z) less = let e = agree_on_three positions n f g same x y z less in let p = e.0 in let q = e.1 in let s = e.2 in cc
term_kept positions n f g same Right less = refl

sum_kept : (positions : List ℕ) (n : ℕ) (f g : ℕ → ℕ) → AgreeBelow positions n f g → (x : List Mono) → sum_last positions x < n → map (mono_at f) x ≡ map (mono_at g) x
sum_kept positions n f g same [] less = refl
sum_kept positions n f g same (m ∷ ms) less =
    let b = two_below (term_last positions m.term) (sum_last positions ms) n less in
    let p = term_kept positions n f g same m.term b.0 in
    let here : mono_at f m ≡ mono_at g m = ap (λ t. record { coeff = m.coeff; term = t }) p in
    let rest = sum_kept positions n f g same ms b.1 in
    ap (λ z. z ∷ map (mono_at f) ms) here ∙ ap (λ zs. mono_at g m ∷ zs) rest

-- the atom of a row under a reading of its variables
abbrev pub read : Row → (ℕ → ℕ) → Atom → Atom
read r f a = atom_at f (λ k. f (line_variable r k)) (λ k. f (circle_variable r k)) a

atom_kept : (r : Row) (positions : List ℕ) (n : ℕ) (f g : ℕ → ℕ) → AgreeBelow positions n f g → (a : Atom) → atom_last r positions a < n → read r f a ≡ read r g a
atom_kept r positions n f g same (On x l) less = let e = agree_on_two positions n f g same x (line_variable r l) less in let p = e.0 in let q = e.1 in cc
atom_kept r positions n f g same (OnC x c) less = let e = agree_on_two positions n f g same x (circle_variable r c) less in let p = e.0 in let q = e.1 in cc
atom_kept r positions n f g same (Inside x c) less = let e = agree_on_two positions n f g same x (circle_variable r c) less in let p = e.0 in let q = e.1 in cc
atom_kept r positions n f g same (Center x c) less = let e = agree_on_two positions n f g same x (circle_variable r c) less in let p = e.0 in let q = e.1 in cc
atom_kept r positions n f g same (Between x y z) less = let e = agree_on_three positions n f g same x y z less in let p = e.0 in let q = e.1 in let s = e.2 in cc
atom_kept r positions n f g same (Same x y l) less = let e = agree_on_three positions n f g same x y (line_variable r l) less in let p = e.0 in let q = e.1 in let s = e.2 in cc
atom_kept r positions n f g same (MeetLL l m) less = let e = agree_on_two positions n f g same (line_variable r l) (line_variable r m) less in let p = e.0 in let q = e.1 in cc
atom_kept r positions n f g same (MeetLC l c) less = let e = agree_on_two positions n f g same (line_variable r l) (circle_variable r c) less in let p = e.0 in let q = e.1 in cc
atom_kept r positions n f g same (MeetCC c d) less = let e = agree_on_two positions n f g same (circle_variable r c) (circle_variable r d) less in let p = e.0 in let q = e.1 in cc
atom_kept r positions n f g same (EqP x y) less = let e = agree_on_two positions n f g same x y less in let p = e.0 in let q = e.1 in cc
atom_kept r positions n f g same (EqL l m) less = let e = agree_on_two positions n f g same (line_variable r l) (line_variable r m) less in let p = e.0 in let q = e.1 in cc
atom_kept r positions n f g same (EqC c d) less = let e = agree_on_two positions n f g same (circle_variable r c) (circle_variable r d) less in let p = e.0 in let q = e.1 in cc
atom_kept r positions n f g same (MagEq x y) less =
    let b = two_below (sum_last positions x) (sum_last positions y) n less in
    let p = sum_kept positions n f g same x b.0 in let q = sum_kept positions n f g same y b.1 in cc
atom_kept r positions n f g same (MagLt x y) less =
    let b = two_below (sum_last positions x) (sum_last positions y) n less in
    let p = sum_kept positions n f g same x b.0 in let q = sum_kept positions n f g same y b.1 in cc

lit_kept : (r : Row) (positions part rest : List ℕ) (l : Lit) → atom_last r positions l.atom < length part
    → lit_at r (chosen_arguments r positions (part ++ rest)) l ≡ lit_at r (chosen_arguments r positions part) l
lit_kept r positions part rest l less =
    ap (λ a. record { neg = l.neg; atom = a })
    (atom_kept r positions (length part) (number (chosen_arguments r positions (part ++ rest))) (number (chosen_arguments r positions part)) (number_kept r positions part rest) l.atom less)

-- ---- the last places of the literals of the clause

abbrev last_of : Row → List ℕ → Lit → ℕ
last_of r positions l = atom_last r positions l.atom

ready_at_negated : (r : Row) (positions : List ℕ) (ls : List Lit) → map (last_of r positions) ls ≡ map (last_of r positions) (map negation ls)
ready_at_negated r positions [] = refl
ready_at_negated r positions (l ∷ ls) = ap (λ ns. last_of r positions l ∷ ns) (ready_at_negated r positions ls)

ready_at_are : (r : Row) (positions : List ℕ) → ready_at_of r positions ≡ map (last_of r positions) (clause_of r)
ready_at_are r positions =
    ap (λ ns. ns ++ map (last_of r positions) r.conclusions) (ready_at_negated r positions r.premises)
    ∙ sym (map-append (last_of r positions) (map negation r.premises) r.conclusions)

last_at : (r : Row) (positions : List ℕ) (j last : ℕ) (l : Lit) → slice_get (ready_at_of r positions) j ≡ Some last → slice_get (clause_of r) j ≡ Some l → last ≡ last_of r positions l
last_at r positions j last l h k =
    let e : Some last ≡ Some (last_of r positions l) = sym h ∙ ap (λ ns. slice_get ns j) (ready_at_are r positions) ∙ at_map (last_of r positions) (clause_of r) j l k in
    same_Some last (last_of r positions l) e

-- a literal whose last variable is chosen stays the same
pub literal_kept : (r : Row) (positions part rest : List ℕ) (j last : ℕ) (lit : Lit) → slice_get (ready_at_of r positions) j ≡ Some last → last < length part
    → slice_get (map (lit_at r (chosen_arguments r positions part)) (clause_of r)) j ≡ Some lit
    → slice_get (map (lit_at r (chosen_arguments r positions (part ++ rest))) (clause_of r)) j ≡ Some lit
literal_kept r positions part rest j last lit at less here =
    let found = map_at (lit_at r (chosen_arguments r positions part)) (clause_of r) j lit here in
    let l = found.0 in
    let below : last_of r positions l < length part = subst (λ n. n < length part) (last_at r positions j last l at found.1) less in
    at_map (lit_at r (chosen_arguments r positions (part ++ rest))) (clause_of r) j l found.1
    ∙ ap Some (lit_kept r positions part rest l below ∙ sym found.2)

-- ---- a whole choice

kept_from : (r : Row) (part rest : List ℕ) (k : ℕ) (positions : List ℕ) → ((i : ℕ) → i < length positions → get_or positions i 0 < length part)
    → arguments_from r (part ++ rest) k positions ≡ arguments_from r part k positions
kept_from r part rest k [] below = refl
kept_from r part rest k (p ∷ positions) below =
    let here = get_or_append_left part rest 0 p (below 0 (omega arith)) in
    let later = kept_from r part rest (k + 1) positions (λ i less. below (suc i) (omega (arith, less))) in
    cc

-- where all variables are chosen the arguments stay the same
pub arguments_kept : (r : Row) (positions part rest : List ℕ) → ((i : ℕ) → i < length positions → get_or positions i 0 < length part)
    → chosen_arguments r positions (part ++ rest) ≡ chosen_arguments r positions part
arguments_kept r positions part rest below = kept_from r part rest 0 positions below
