-- The table and the places stay those of the list.
use Rattle.std.proofs.Common.{◌≡◌, ℕ, suc, ◌-◌, ◌<◌, List, [], ◌∷◌, ◌++◌, take, length, false, Option, Some, None, get_or, ap, sym, true≢false, ◌∙◌, subst, arith, length-append, append-nil}
use Rattle.std.specs.List.{list_any}
use Rattle.std.specs.Prelude.{IsSome, ◌↔◌, option_to_list}
use Rattle.std.proofs.Math.Seq.{take-append_seam, take-suc, take-length}
use Rattle.e_literal.specs.declared.literal.Lit.{Lit}
use Rattle.e_literal.specs.Facts.{has}
use Rattle.indexmap.specs.IndexSet.{insert_key}
use Rattle.e_facts.specs.declared.key.Key.{Key}
use Rattle.e_facts.specs.declared.facts.Place.{Place}
use Rattle.e_facts.specs.contracts.key.KeyPartialEq.TheImpl.{eq-value}
use Rattle.e_facts.specs.Facts.{AreApart}
use Rattle.e_facts.specs.inner.Key.{key_of_lit, with_key, keys_of, with_place, place_of, metric_places, IsKept}
use Rattle.e_facts.proofs.Apart.{apart_push, apart_take}
use Rattle.e_facts.proofs.Keys.{has_by_key, keys_of-push, metric_places-push}

pub kept_push_diagram : (ls : List Lit) (l : Lit) (keys : List Key) (places : List Place) (k : Key) → IsKept ls keys places → has ls l ≡ false → key_of_lit l ≡ Some k
    → IsKept (ls ++ l ∷ []) (insert_key eq-value.it keys k) places
kept_push_diagram ls l keys places k kept new e =
    let absent : list_any (eq-value.it k) keys ≡ false = ap (list_any (eq-value.it k)) kept.keyed ∙ has_by_key ls l k e ∙ new in
    let keyed : keys ++ k ∷ [] ≡ keys_of (ls ++ l ∷ []) = ap (λ ks. ks ++ k ∷ []) kept.keyed ∙ sym (keys_of-push ls l ∙ ap (λ o. keys_of ls ++ with_key o []) e) in
    let placed : metric_places 0 (ls ++ l ∷ []) ≡ metric_places 0 ls = metric_places-push ls l ∙ ap (λ o. metric_places 0 ls ++ with_place o (place_of (length ls) l) []) e ∙ append-nil (metric_places 0 ls) in
    record {
      apart = apart_push ls l kept.apart new;
      keyed = rw absent keyed;
      placed = kept.placed ∙ sym placed;
    }

pub kept_push_metric : (ls : List Lit) (l : Lit) (keys : List Key) (places : List Place) (n : ℕ) → IsKept ls keys places → has ls l ≡ false → key_of_lit l ≡ None → n ≡ length ls
    → IsKept (ls ++ l ∷ []) keys (places ++ place_of n l ∷ [])
kept_push_metric ls l keys places n kept new e at =
    let keyed : keys_of (ls ++ l ∷ []) ≡ keys_of ls = keys_of-push ls l ∙ ap (λ o. keys_of ls ++ with_key o []) e ∙ append-nil (keys_of ls) in
    let placed : metric_places 0 (ls ++ l ∷ []) ≡ metric_places 0 ls ++ place_of (length ls) l ∷ [] = metric_places-push ls l ∙ ap (λ o. metric_places 0 ls ++ with_place o (place_of (length ls) l) []) e in
    record {
      apart = apart_push ls l kept.apart new;
      keyed = kept.keyed ∙ sym keyed;
      placed = ap (λ ps. ps ++ place_of n l ∷ []) kept.placed ∙ ap (λ m. metric_places 0 ls ++ place_of m l ∷ []) at ∙ sym placed;
    }

-- all but the last of a list
all_but_last : {A : Type 0} (xs : List A) (x : A) → take (length (xs ++ x ∷ []) - 1) (xs ++ x ∷ []) ≡ xs
all_but_last xs x =
    let e : length (xs ++ x ∷ []) - 1 ≡ length xs = omega (arith, length-append xs (x ∷ [])) in
    rw e (take-append_seam xs (x ∷ []))

apart_front : (ls : List Lit) (l : Lit) → AreApart (ls ++ l ∷ []) → AreApart ls
apart_front ls l h = subst AreApart (all_but_last ls l) (apart_take (length (ls ++ l ∷ []) - 1) (ls ++ l ∷ []) h)

-- what is left of a list after its last
popped : {A : Type 0} (all rest base : List A) (r : Option A) (x : A) → all ≡ base ++ x ∷ [] → all ≡ rest ++ option_to_list r → IsSome r → rest ≡ base
popped all rest base None x cut out some = absurd (true≢false (sym some))
popped all rest base (Some y) x cut out some =
    sym (all_but_last rest y) ∙ ap (λ xs. take (length xs - 1) xs) (sym out ∙ cut) ∙ all_but_last base x

some_of : {A : Type 0} (all base : List A) (r : Option A) (x : A) → all ≡ base ++ x ∷ [] → (IsSome r ↔ (0 < length all)) → IsSome r
some_of all base r x cut h = h.1 (omega (arith, ap length cut, length-append base (x ∷ [])))

-- the list of all but the last and the last
cut_last : (all : List Lit) (n : ℕ) (l : Lit) → suc n ≡ length all → l ≡ get_or all n l → all ≡ take n all ++ l ∷ []
cut_last all n l e at =
    sym (take-length all) ∙ ap (λ k. take k all) (sym e) ∙ take-suc all n l (omega arith) ∙ ap (λ m. take n all ++ m ∷ []) (sym at)

pub kept_pop_diagram : (all : List Lit) (n : ℕ) (l : Lit) (keys rest : List Key) (places : List Place) (k : Key) (r : Option Key) → IsKept all keys places
    → suc n ≡ length all → l ≡ get_or all n l → key_of_lit l ≡ Some k → keys ≡ rest ++ option_to_list r → (IsSome r ↔ (0 < length keys))
    → IsKept (take n all) rest places
kept_pop_diagram all n l keys rest places k r kept count at e out found =
    let ls = take n all in
    let cut : all ≡ ls ++ l ∷ [] = cut_last all n l count at in
    let keyed : keys ≡ keys_of ls ++ k ∷ [] = kept.keyed ∙ ap keys_of cut ∙ keys_of-push ls l ∙ ap (λ o. keys_of ls ++ with_key o []) e in
    let placed : metric_places 0 (ls ++ l ∷ []) ≡ metric_places 0 ls = metric_places-push ls l ∙ ap (λ o. metric_places 0 ls ++ with_place o (place_of (length ls) l) []) e ∙ append-nil (metric_places 0 ls) in
    record {
      apart = apart_front ls l (subst AreApart cut kept.apart);
      keyed = popped keys rest (keys_of ls) r k keyed out (some_of keys (keys_of ls) r k keyed found);
      placed = kept.placed ∙ ap (metric_places 0) cut ∙ placed;
    }

pub kept_pop_metric : (all : List Lit) (n : ℕ) (l : Lit) (keys : List Key) (places rest : List Place) (r : Option Place) → IsKept all keys places
    → suc n ≡ length all → l ≡ get_or all n l → key_of_lit l ≡ None → places ≡ rest ++ option_to_list r → (IsSome r ↔ (0 < length places))
    → IsKept (take n all) keys rest
kept_pop_metric all n l keys places rest r kept count at e out found =
    let ls = take n all in
    let cut : all ≡ ls ++ l ∷ [] = cut_last all n l count at in
    let keyed : keys_of (ls ++ l ∷ []) ≡ keys_of ls = keys_of-push ls l ∙ ap (λ o. keys_of ls ++ with_key o []) e ∙ append-nil (keys_of ls) in
    let placed : places ≡ metric_places 0 ls ++ place_of (length ls) l ∷ [] = kept.placed ∙ ap (metric_places 0) cut ∙ metric_places-push ls l ∙ ap (λ o. metric_places 0 ls ++ with_place o (place_of (length ls) l) []) e in
    record {
      apart = apart_front ls l (subst AreApart cut kept.apart);
      keyed = kept.keyed ∙ ap keys_of cut ∙ keyed;
      placed = popped places rest (metric_places 0 ls) r (place_of (length ls) l) placed out (some_of places (metric_places 0 ls) r (place_of (length ls) l) placed found);
    }
