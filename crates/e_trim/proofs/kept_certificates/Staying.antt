-- What of the facts is there after the kept steps alone.
use Rattle.std.proofs.Common.{◌≡◌, List, [], ◌∷◌, ◌++◌, map, filter, refl, sym, ap, ◌∙◌, subst, arith, Bool, true, false, ◌&&◌, not, cond, true≢false, inl, inr, ◌⊎◌}
use Rattle.std.proofs.lemmas.Bool.{or_parts, false_from_ne_true, cases_Bool}
use Rattle.std.specs.List.{list_any}
use Rattle.e_literal.specs.declared.object.Obj.{Obj}
use Rattle.e_literal.specs.declared.object.Scope.{Scope}
use Rattle.e_literal.specs.declared.object.Sort.{Sort}
use Rattle.e_literal.specs.declared.literal.Lit.{Lit}
use Rattle.e_literal.specs.Literal.{count_of}
use Rattle.e_literal.specs.Scopes.{next_objects}
use Rattle.e_literal.specs.Same.{same_lit}
use Rattle.e_literal.specs.Facts.{has, with_fact, with_facts}
use Rattle.e_trim.specs.Looked.{Wants}
use Rattle.e_trim.specs.Trimmed.{lit_among_kept, supplies, wants_outside}
use Rattle.e_trim.proofs.renumbering.Members.{In, in_left, in_right, in_either, in_filter}
use Rattle.e_trim.proofs.renumbering.Counting.{Bound, number_stays, next_above}
use Rattle.e_trim.proofs.renumbering.MovedLits.{with_numbers}
use Rattle.e_trim.proofs.renumbering.LitsAt.{OverLit, OverLits, same_at, same_turned, has_in, in_has, in_has_own, has_same}

-- ---- one literal joins

pub in_joined : (facts : List Lit) (l m : Lit) → In m facts → In m (with_fact facts l)
unfolding with_fact
in_joined facts l m i = by (has facts l)
  where
    by : (b : Bool) → In m (cond b facts (facts ++ l ∷ []))
    by true = i
    by false = in_left m facts (l ∷ []) i

pub new_joined : (facts : List Lit) (l : Lit) → has facts l ≡ false → In l (with_fact facts l)
unfolding with_fact
new_joined facts l h = by (has facts l) h
  where
    by : (b : Bool) → b ≡ false → In l (cond b facts (facts ++ l ∷ []))
    by true e = absurd (true≢false e)
    by false e = in_right l facts (l ∷ []) (inl refl)

pub joined_either : (facts : List Lit) (l m : Lit) → In m (with_fact facts l) → In m facts ⊎ ((l ≡ m) × (has facts l ≡ false))
unfolding with_fact
joined_either facts l m i = by (has facts l) refl i
  where
    last : In m (facts ++ l ∷ []) → has facts l ≡ false → In m facts ⊎ ((l ≡ m) × (has facts l ≡ false))
    last h e = elim (in_either m facts (l ∷ []) h) [
      | inl k ↦ inl k
      | inr k ↦ elim k [
        | inl f ↦ inr (f, e)
        | inr f ↦ absurd f
      ]
    ]

    by : (b : Bool) → has facts l ≡ b → In m (cond b facts (facts ++ l ∷ [])) → In m facts ⊎ ((l ≡ m) × (has facts l ≡ false))
    by true e h = inl h
    by false e h = last h e

pub has_more : (facts : List Lit) (l m : Lit) → has facts m ≡ true → has (with_fact facts l) m ≡ true
has_more facts l m h = let r = has_in facts m h in in_has (with_fact facts l) r.0 m (in_joined facts l r.0 r.1) r.2

pub has_new : (facts : List Lit) (l : Lit) → has (with_fact facts l) l ≡ true
has_new facts l = elim (cases_Bool (has facts l)) [
  | inl e ↦ has_more facts l l e
  | inr e ↦ in_has_own (with_fact facts l) l (new_joined facts l e)
]

-- ---- what stays

-- the facts that are looked up are there as they are written, over the kept objects, and none is there that was none before
pub record Stays (kept : List Obj) (facts now looked : List Lit) : Type 0 where
  pub there : (m : Lit) → In m facts → has looked m ≡ true → In (lit_among_kept kept m) now × OverLit kept m
  pub only : (n : Lit) → In n now → (m : Lit) × (lit_among_kept kept m ≡ n) × (has facts m ≡ true) × OverLit kept m

-- what is looked up and had is still had
pub still_has : (kept : List Obj) (facts now looked : List Lit) (l : Lit) → Stays kept facts now looked → has looked l ≡ true → OverLit kept l → has facts l ≡ true → has now (lit_among_kept kept l) ≡ true
still_has kept facts now looked l st i o h =
    let r = has_in facts l h in
    let t = st.there r.0 r.1 (has_same looked l r.0 i (same_turned r.0 l r.2)) in
    in_has now (lit_among_kept kept r.0) (lit_among_kept kept l) t.0 (same_at kept r.0 l t.1 o ∙ r.2)

pub had_before : (kept : List Obj) (facts now looked : List Lit) (l : Lit) → Stays kept facts now looked → OverLit kept l → has now (lit_among_kept kept l) ≡ true → has facts l ≡ true
had_before kept facts now looked l st o h =
    let r = has_in now (lit_among_kept kept l) h in
    let t = st.only r.0 r.1 in
    has_same facts t.0 l t.2 (sym (same_at kept t.0 l t.3 o) ∙ ap (λ n. same_lit n (lit_among_kept kept l)) t.1 ∙ r.2)

abbrev pub Within : List Lit → List Lit → Type 0
Within looked more = (m : Lit) → has looked m ≡ true → has more m ≡ true

-- fewer are looked up
pub fewer : (kept : List Obj) (facts now looked less : List Lit) → Within less looked → Stays kept facts now looked → Stays kept facts now less
fewer kept facts now looked less w st = record { there = λ m i h. st.there m i (w m h); only = st.only }

-- a step is kept
pub joins : (kept : List Obj) (facts now looked : List Lit) (l : Lit) → OverLit kept l → Stays kept facts now looked → Stays kept (with_fact facts l) (with_fact now (lit_among_kept kept l)) looked
joins kept facts now looked l o st = record { there = there'; only = only' }
  where
    new : has facts l ≡ false → has now (lit_among_kept kept l) ≡ false
    new e = false_from_ne_true (has now (lit_among_kept kept l)) (λ t. true≢false (sym (had_before kept facts now looked l st o t) ∙ e))

    there' : (m : Lit) → In m (with_fact facts l) → has looked m ≡ true → In (lit_among_kept kept m) (with_fact now (lit_among_kept kept l)) × OverLit kept m
    there' m i h = elim (joined_either facts l m i) [
      | inl k ↦ let t = st.there m k h in (in_joined now (lit_among_kept kept l) (lit_among_kept kept m) t.0, t.1)
      | inr k ↦ (subst (λ x. In (lit_among_kept kept x) (with_fact now (lit_among_kept kept l))) k.0 (new_joined now (lit_among_kept kept l) (new k.1)), subst (OverLit kept) k.0 o)
    ]

    only' : (n : Lit) → In n (with_fact now (lit_among_kept kept l)) → (m : Lit) × (lit_among_kept kept m ≡ n) × (has (with_fact facts l) m ≡ true) × OverLit kept m
    only' n i = elim (joined_either now (lit_among_kept kept l) n i) [
      | inl k ↦ let t = st.only n k in (t.0, t.1, has_more facts l t.0 t.2, t.3)
      | inr k ↦ (l, k.0, has_new facts l, o)
    ]

pub joins_all : (kept : List Obj) (facts now looked ls : List Lit) → OverLits kept ls → Stays kept facts now looked → Stays kept (with_facts facts ls) (with_facts now (map (lit_among_kept kept) ls)) looked
joins_all kept facts now looked [] o st = st
joins_all kept facts now looked (l ∷ ls) o st =
    joins_all kept (with_fact facts l) (with_fact now (lit_among_kept kept l)) looked ls (λ x i. o x (inr i)) (joins kept facts now looked l (o l (inl refl)) st)

-- a literal of a dropped step joins
pub dropped : (kept : List Obj) (facts now looked : List Lit) (l : Lit) → (has facts l ≡ false → has looked l ≡ false) → Stays kept facts now looked → Stays kept (with_fact facts l) now looked
dropped kept facts now looked l none st = record { there = there'; only = only' }
  where
    there' : (m : Lit) → In m (with_fact facts l) → has looked m ≡ true → In (lit_among_kept kept m) now × OverLit kept m
    there' m i h = elim (joined_either facts l m i) [
      | inl k ↦ st.there m k h
      | inr k ↦ absurd (true≢false (sym h ∙ sym (ap (has looked) k.0) ∙ none k.1))
    ]

    only' : (n : Lit) → In n now → (m : Lit) × (lit_among_kept kept m ≡ n) × (has (with_fact facts l) m ≡ true) × OverLit kept m
    only' n i = let t = st.only n i in (t.0, t.1, has_more facts l t.0 t.2, t.3)

no_supply : (facts : List Lit) (w : Wants) (l : Lit) → supplies facts w l ≡ false → has facts l ≡ false → has w.lits l ≡ false
no_supply facts w l h e = by (has facts l) (has w.lits l) h e
  where
    by : (x y : Bool) → (not x && y) ≡ false → x ≡ false → y ≡ false
    by true y k f = absurd (true≢false f)
    by false y k f = k

-- the literals of a step that supplies none join
pub dropped_all : (kept : List Obj) (facts now : List Lit) (w : Wants) (ls : List Lit) → list_any (supplies facts w) ls ≡ false → Stays kept facts now w.lits → Stays kept (with_facts facts ls) now w.lits
dropped_all kept facts now w [] e st = st
dropped_all kept facts now w (l ∷ ls) e st =
    let p = or_parts (supplies facts w l) (list_any (supplies facts w) ls) e in
    dropped_all kept (with_fact facts l) now w ls (none_later facts w l ls p.1) (dropped kept facts now w.lits l (no_supply facts w l p.0) st)
  where
    and_no : (b : Bool) → (b && false) ≡ false
    and_no true = refl
    and_no false = refl

    -- what is a fact already supplies no more
    less : (facts : List Lit) (w : Wants) (l m : Lit) → supplies facts w m ≡ false → supplies (with_fact facts l) w m ≡ false
    less facts w l m h = elim (cases_Bool (has facts m)) [
      | inl t ↦ ap (λ b. not b && has w.lits m) (has_more facts l m t)
      | inr f ↦ let none = no_supply facts w m h f in ap (λ b. not (has (with_fact facts l) m) && b) none ∙ and_no (not (has (with_fact facts l) m))
    ]

    none_later : (facts : List Lit) (w : Wants) (l : Lit) (ms : List Lit) → list_any (supplies facts w) ms ≡ false → list_any (supplies (with_fact facts l) w) ms ≡ false
    none_later facts w l [] h = refl
    none_later facts w l (m ∷ ms) h =
        let q = or_parts (supplies facts w m) (list_any (supplies facts w) ms) h in
        let a = less facts w l m q.0 in
        let b = none_later facts w l ms q.1 in
        rw (a, b) refl

-- ---- objects come

pub lit_stays : (kept : List Obj) (s : Scope) (sorts : List Sort) (l : Lit) → Bound s kept → OverLit kept l → lit_among_kept (kept ++ next_objects s sorts) l ≡ lit_among_kept kept l
lit_stays kept s sorts l bound o =
    with_numbers kept (kept ++ next_objects s sorts) l (λ x i.
    number_stays kept (next_objects s sorts) x.sort x.num (λ k j e.
    let above = next_above s sorts k j in
    let here = bound x (o x i) in
    let same = ap (count_of s) e in
    omega (arith, above, here, same)))

pub over_more : (kept js : List Obj) (l : Lit) → OverLit kept l → OverLit (kept ++ js) l
over_more kept js l o x i = in_left x kept js (o x i)

-- new kept objects change no literal over the old ones
pub comes : (kept : List Obj) (s : Scope) (sorts : List Sort) (facts now looked : List Lit) → Bound s kept → Stays kept facts now looked → Stays (kept ++ next_objects s sorts) facts now looked
comes kept s sorts facts now looked bound st = record {
  there = λ m i h. let t = st.there m i h in (subst (λ n. In n now) (sym (lit_stays kept s sorts m bound t.1)) t.0, over_more kept (next_objects s sorts) m t.1);
  only = λ n i. let t = st.only n i in (t.0, lit_stays kept s sorts t.0 bound t.3 ∙ t.1, t.2, over_more kept (next_objects s sorts) t.0 t.3);
}

-- ---- what an inner block looks up of the facts before it is looked up outside of it

pub inside_stays : (kept : List Obj) (s : Scope) (facts now : List Lit) (w : Wants) → Stays kept facts now (wants_outside s facts w).lits → Stays kept facts now w.lits
inside_stays kept s facts now w st = record { there = there'; only = st.only }
  where
    there' : (m : Lit) → In m facts → has w.lits m ≡ true → In (lit_among_kept kept m) now × OverLit kept m
    there' m i h =
        let x = has_in w.lits m h in
        let known = in_has facts m x.0 i (same_turned x.0 m x.2) in
        st.there m i (in_has (filter (has facts) w.lits) x.0 m (in_filter (has facts) x.0 w.lits known x.1) x.2)
