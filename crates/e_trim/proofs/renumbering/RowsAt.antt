-- The rows of a certificate over the kept objects, after the kept steps alone.
use Rattle.std.proofs.Common.{◌≡◌, ℕ, List, [], ◌∷◌, ◌++◌, map, filter, refl, sym, ap, ◌∙◌, subst, Bool, true, false, not, cond, ℤ, Option, Some}
use Rattle.std.proofs.lemmas.List.{map-append}
use Rattle.e_literal.specs.declared.object.Obj.{Obj}
use Rattle.e_literal.specs.declared.object.Mono.{Mono}
use Rattle.e_literal.specs.declared.object.Term.{Term}
use Rattle.e_literal.specs.declared.object.Sort.TheVariants.{Point, Line, Circle}
use Rattle.e_literal.specs.declared.literal.Atom.{Atom}
use Rattle.e_literal.specs.declared.literal.Atom.TheVariants.{MagEq, MagLt}
use Rattle.e_literal.specs.declared.literal.Lit.{Lit}
use Rattle.e_literal.specs.Literal.{objects_of_sum, objects_of_atom}
use Rattle.e_literal.specs.Rename.{term_at, mono_at, atom_at}
use Rattle.e_literal.specs.Same.{canonical}
use Rattle.e_literal.specs.Facts.{is_metric}
use Rattle.e_literal.specs.Rows.{Row, Sense, Zero, AtLeast, More, Not, Summands, times, is_degenerate, normal_summands, row, plus, minus, negative, row_of_atom, row_of_lit}
use Rattle.e_trim.specs.Trimmed.{kept_before, lit_among_kept}
use Rattle.e_trim.proofs.renumbering.Members.{in_left, in_right}
use Rattle.e_trim.proofs.renumbering.Counting.{OfSort, keeps}
use Rattle.e_trim.proofs.renumbering.TermsAt.{Over, canonical_over}
use Rattle.e_trim.proofs.renumbering.SumsAgree.{OverSum}
use Rattle.e_trim.proofs.renumbering.FormsAt.{form_at, OverForm, row_at, plus_at, minus_at, normal_stays}
use Rattle.e_trim.proofs.renumbering.LitsAt.{AllKept, OverLit, over_sum}

-- the row over the kept points
abbrev pub moved : List Obj → Row → Row
moved kept r = row_at (kept_before kept Point) (OfSort kept Point) (keeps kept) r

abbrev pub OverRow : List Obj → Row → Type 0
OverRow kept r = OverForm (OfSort kept Point) r.form

-- a row that may be used is, over the kept points, the row that may be used then
abbrev pub Moves : List Obj → Option Row → Option Row → Type 0
Moves kept r now = (x : Row) → r ≡ Some x → (now ≡ Some (moved kept x)) × OverRow kept x

-- ---- forms

over_both : (K : ℕ → Type 0) (xs ys : Summands) → OverForm K xs → OverForm K ys → OverForm K (xs ++ ys)
over_both K [] ys h k = k
over_both K (x ∷ xs) ys h k = (h.0, over_both K xs ys h.1 k)

over_plus : (K : ℕ → Type 0) (ms : List Mono) → OverSum K ms → OverForm K (plus ms)
over_plus K [] h = tt
over_plus K (m ∷ ms) h = (h.0, over_plus K ms h.1)

over_minus : (K : ℕ → Type 0) (ms : List Mono) → OverSum K ms → OverForm K (minus ms)
over_minus K [] h = tt
over_minus K (m ∷ ms) h = (h.0, over_minus K ms h.1)

pub over_negative : (K : ℕ → Type 0) (form : Summands) → OverForm K form → OverForm K (negative form)
over_negative K [] h = tt
over_negative K (q ∷ form) h = (h.0, over_negative K form h.1)

over_step : (K : ℕ → Type 0) (b : Bool) (q : ℤ × Term) (form : Summands) → Over K q.1 → OverForm K (map (λ (r : ℤ × Term). times r.0 (canonical r.1)) (filter (λ (r : ℤ × Term). not (is_degenerate r.1)) form))
    → OverForm K (map (λ (r : ℤ × Term). times r.0 (canonical r.1)) (cond b (q ∷ filter (λ (r : ℤ × Term). not (is_degenerate r.1)) form) (filter (λ (r : ℤ × Term). not (is_degenerate r.1)) form)))
over_step K true q form h k = (canonical_over K q.1 h, k)
over_step K false q form h k = k

pub over_normal : (K : ℕ → Type 0) (form : Summands) → OverForm K form → OverForm K (normal_summands form)
over_normal K [] h = tt
over_normal K (q ∷ form) h = over_step K (not (is_degenerate q.1)) q form h.0 (over_normal K form h.1)

pub row_moves : (kept : List Obj) (sense : Sense) (form : Summands) → OverForm (OfSort kept Point) form → row sense (form_at (kept_before kept Point) form) ≡ moved kept (row sense form)
row_moves kept sense form h = ap (λ f. record { sense = sense; form = f }) (normal_stays (kept_before kept Point) (OfSort kept Point) (keeps kept) form h)

difference_at : (p : ℕ → ℕ) (x y : List Mono) → plus (map (mono_at p) x) ++ minus (map (mono_at p) y) ≡ form_at p (plus x ++ minus y)
difference_at p x y =
    ap (λ f. f ++ minus (map (mono_at p) y)) (plus_at p x) ∙ ap (λ f. form_at p (plus x) ++ f) (minus_at p y) ∙ sym (map-append (λ (q : ℤ × Term). times q.0 (term_at p q.1)) (plus x) (minus y))

over_difference : (kept : List Obj) (x y : List Mono) → AllKept kept (objects_of_sum x) → AllKept kept (objects_of_sum y) → OverForm (OfSort kept Point) (plus x ++ minus y)
over_difference kept x y h k =
    over_both (OfSort kept Point) (plus x) (minus y) (over_plus (OfSort kept Point) x (over_sum kept x h)) (over_minus (OfSort kept Point) y (over_sum kept y k))

difference_moves : (kept : List Obj) (sense : Sense) (x y : List Mono) → AllKept kept (objects_of_sum x) → AllKept kept (objects_of_sum y)
    → row sense (plus (map (mono_at (kept_before kept Point)) x) ++ minus (map (mono_at (kept_before kept Point)) y)) ≡ moved kept (row sense (plus x ++ minus y))
difference_moves kept sense x y h k = ap (row sense) (difference_at (kept_before kept Point) x y) ∙ row_moves kept sense (plus x ++ minus y) (over_difference kept x y h k)

-- ---- the row of a literal

some_is : {X : Type 0} (x y : X) → Some x ≡ Some y → x ≡ y
some_is x y e = cc

one_row : (kept : List Obj) (sense : Sense) (x y : List Mono) (r : Row) → AllKept kept (objects_of_sum x) → AllKept kept (objects_of_sum y) → Some (row sense (plus x ++ minus y)) ≡ Some r
    → (Some (row sense (plus (map (mono_at (kept_before kept Point)) x) ++ minus (map (mono_at (kept_before kept Point)) y))) ≡ Some (moved kept r)) × OverRow kept r
one_row kept sense x y r h k e =
    let is = some_is (row sense (plus x ++ minus y)) r e in (
      ap Some (difference_moves kept sense x y h k ∙ ap (moved kept) is),
      subst (OverRow kept) is (over_normal (OfSort kept Point) (plus x ++ minus y) (over_difference kept x y h k)),
    )

atom_moves : (kept : List Obj) (a : Atom) (neg : Bool) → AllKept kept (objects_of_atom a)
    → Moves kept (row_of_atom a neg) (row_of_atom (atom_at (kept_before kept Point) (kept_before kept Line) (kept_before kept Circle) a) neg)
atom_moves kept (MagEq x y) neg h r e = one_row kept (cond neg Not Zero) x y r (λ o i. h o (in_left o (objects_of_sum x) (objects_of_sum y) i)) (λ o i. h o (in_right o (objects_of_sum x) (objects_of_sum y) i)) e
atom_moves kept (MagLt x y) true h r e = one_row kept AtLeast x y r (λ o i. h o (in_left o (objects_of_sum x) (objects_of_sum y) i)) (λ o i. h o (in_right o (objects_of_sum x) (objects_of_sum y) i)) e
atom_moves kept (MagLt x y) false h r e = one_row kept More y x r (λ o i. h o (in_right o (objects_of_sum x) (objects_of_sum y) i)) (λ o i. h o (in_left o (objects_of_sum x) (objects_of_sum y) i)) e
atom_moves kept a neg h r e = absurd cc

pub lit_moves : (kept : List Obj) (l : Lit) → OverLit kept l → Moves kept (row_of_lit l) (row_of_lit (lit_among_kept kept l))
lit_moves kept l h = atom_moves kept l.atom l.neg h

-- a literal compares magnitudes where it did
pub metric_at_is : (kept : List Obj) (l : Lit) → is_metric (lit_among_kept kept l) ≡ is_metric l
metric_at_is kept l = by l.atom
  where
    by : (a : Atom) → is_metric (record { neg = l.neg; atom = atom_at (kept_before kept Point) (kept_before kept Line) (kept_before kept Circle) a }) ≡ is_metric (record { neg = l.neg; atom = a })
    by (MagEq x y) = refl
    by (MagLt x y) = refl
    by a = refl
