-- A diagram literal is looked up by its key, and a metric one is compared with the metric facts.
use Rattle.std.proofs.Common.{◌≡◌, ℕ, ◌+◌, List, [], ◌∷◌, ◌++◌, Bool, false, true, ◌&&◌, ◌||◌, ◌==◌, Option, Some, None, refl, ap, ◌∙◌, subst, length, slice_get, append_assoc, arith, length-append}
use Rattle.std.specs.List.{list_any}
use Rattle.std.proofs.lemmas.Bool.Decides.{nat_tests}
use Rattle.std.proofs.Math.Bool.{and_comm}
use Rattle.std.specs.Option.{option_map_or}
use mathlib.Core.Bool.{beq}
use Rattle.e_literal.specs.declared.literal.Lit.{Lit}
use Rattle.e_literal.specs.declared.literal.Atom.{Atom}
use Rattle.e_literal.specs.declared.literal.Atom.TheVariants.{On, OnC, Inside, Center, Between, Same, MeetLL, MeetLC, MeetCC, EqP, EqL, EqC, MagEq, MagLt}
use Rattle.e_literal.specs.Same.{same_neg, same_atom, same_lit}
use Rattle.e_literal.specs.Facts.{has}
use Rattle.e_facts.specs.declared.key.Key.{Key}
use Rattle.e_facts.specs.contracts.key.KeyPartialEq.TheImpl.{eq-value}
use Rattle.e_facts.specs.declared.facts.Place.{Place}
use Rattle.e_facts.specs.inner.Fingerprint.{fingerprint}
use Rattle.e_facts.specs.inner.Key.{key_of_lit, with_key, keys_of, with_place, place_of, metric_places, same_at}
use Rattle.e_facts.proofs.Fingerprints.{same_by_number}

-- a diagram literal is the same as another exactly where its key is equal, and as no metric one
abbrev Agree : Option Key → Option Key → Bool → Type 0
Agree (Some k) (Some q) b = b ≡ eq-value.it k q
Agree (Some k) None b = b ≡ false
Agree None (Some q) b = b ≡ false
Agree None None b = Unit {0}

nowhere : (n m : Bool) → same_neg n m && false ≡ false
nowhere true true = refl
nowhere true false = refl
nowhere false true = refl
nowhere false false = refl

-- equal signs, stated in both ways
signs : (n m : Bool) → same_neg n m ≡ beq m n
signs true true = refl
signs true false = refl
signs false true = refl
signs false false = refl

unlike : (n m : Bool) → same_neg n m && false ≡ beq m n && false
unlike n m = ap (λ b. b && false) (signs n m)

turned : (a b : ℕ) → (a == b) ≡ (b == a)
turned a b = grind (arith, nat_tests)

two : (n m : Bool) (a b c d : ℕ) → same_neg n m && (a == c && b == d) ≡ beq m n && (c == a && (d == b && true))
two n m a b c d = rw (signs n m, turned a c, turned b d, and_comm (d == b) true) refl

three : (n m : Bool) (a b c d e f : ℕ) → same_neg n m && (a == d && (b == e && c == f)) ≡ beq m n && (d == a && (e == b && f == c))
three n m a b c d e f = rw (signs n m, turned a d, turned b e, turned c f) refl

agree : (n m : Bool) (a b : Atom) → Agree (key_of_lit (record { neg = m; atom = b })) (key_of_lit (record { neg = n; atom = a })) (same_neg n m && same_atom a b)
agree n m (On a b) (On c d) = two n m a b c d
agree n m (OnC a b) (OnC c d) = two n m a b c d
agree n m (Inside a b) (Inside c d) = two n m a b c d
agree n m (Center a b) (Center c d) = two n m a b c d
agree n m (Between a b c) (Between d e f) = three n m a b c d e f
agree n m (Same a b c) (Same d e f) = three n m a b c d e f
agree n m (MeetLL a b) (MeetLL c d) = two n m a b c d
agree n m (MeetLC a b) (MeetLC c d) = two n m a b c d
agree n m (MeetCC a b) (MeetCC c d) = two n m a b c d
agree n m (EqP a b) (EqP c d) = two n m a b c d
agree n m (EqL a b) (EqL c d) = two n m a b c d
agree n m (EqC a b) (EqC c d) = two n m a b c d
agree n m (MagEq x y) (MagEq z w) = tt
agree n m (MagEq x y) (MagLt z w) = tt
agree n m (MagLt x y) (MagEq z w) = tt
agree n m (MagLt x y) (MagLt z w) = tt
agree n m (MagEq x y) b = nowhere n m
agree n m (MagLt x y) b = nowhere n m
agree n m a (MagEq z w) = nowhere n m
agree n m a (MagLt z w) = nowhere n m
agree n m a b = unlike n m

agree_lits : (f l : Lit) → Agree (key_of_lit l) (key_of_lit f) (same_lit f l)
agree_lits f l = agree f.neg l.neg f.atom l.atom

-- a diagram literal is among the facts exactly where its key is among theirs
put_key : (k : Key) (o : Option Key) (b : Bool) (ks : List Key) (r : Bool) → Agree (Some k) o b → list_any (eq-value.it k) ks ≡ r
    → list_any (eq-value.it k) (with_key o ks) ≡ (b || r)
put_key k None b ks r h e = rw (h, e) refl
put_key k (Some q) b ks r h e = rw (h, e) refl

pub has_by_key : (ls : List Lit) (l : Lit) (k : Key) → key_of_lit l ≡ Some k → list_any (eq-value.it k) (keys_of ls) ≡ has ls l
has_by_key [] l k e = refl
has_by_key (f ∷ ls) l k e =
    put_key k (key_of_lit f) (same_lit f l) (keys_of ls) (has ls l) (subst (λ o. Agree o (key_of_lit f) (same_lit f l)) e (agree_lits f l)) (has_by_key ls l k e)

-- a metric literal is among the facts exactly where one at a metric place is the same
put_place : (test : Place → Bool) (o : Option Key) (b : Bool) (p : Place) (ps : List Place) (r : Bool) → Agree None o b → test p ≡ b → list_any test ps ≡ r
    → list_any test (with_place o p ps) ≡ (b || r)
put_place test None b p ps r h here e = rw (here, e) refl
put_place test (Some q) b p ps r h here e = rw (h, e) refl

pub found_at : (before ls : List Lit) (f : Lit) → slice_get (before ++ f ∷ ls) (length before) ≡ Some f
found_at [] ls f = refl
found_at (x ∷ before) ls f = found_at before ls f

has_at_places : (before ls : List Lit) (l : Lit) → key_of_lit l ≡ None
    → list_any (same_at (before ++ ls) l) (metric_places (length before) ls) ≡ has ls l
has_at_places before [] l e = refl
has_at_places before (f ∷ ls) l e =
    put_place (same_at (before ++ f ∷ ls) l) (key_of_lit f) (same_lit f l) (place_of (length before) f) (metric_places (length before + 1) ls) (has ls l)
    (subst (λ o. Agree o (key_of_lit f) (same_lit f l)) e (agree_lits f l))
    (ap (λ o. (fingerprint f.atom == fingerprint l.atom) && option_map_or (λ g. same_lit g l) o false) (found_at before ls f) ∙ same_by_number f l)
    (subst (λ n. list_any (same_at (before ++ f ∷ ls) l) (metric_places n ls) ≡ has ls l) (length-append before (f ∷ []))
    (subst (λ all. list_any (same_at all l) (metric_places (length (before ++ f ∷ [])) ls) ≡ has ls l) (append_assoc before (f ∷ []) ls)
    (has_at_places (before ++ f ∷ []) ls l e)))

pub has_by_places : (ls : List Lit) (l : Lit) → key_of_lit l ≡ None → list_any (same_at ls l) (metric_places 0 ls) ≡ has ls l
has_by_places ls l e = has_at_places [] ls l e

-- a literal put last puts its key or its place last
last_key : (o : Option Key) (p : Option Key) (ks : List Key) → with_key o (ks ++ with_key p []) ≡ with_key o ks ++ with_key p []
last_key None p ks = refl
last_key (Some k) p ks = refl

pub keys_of-push : (ls : List Lit) (l : Lit) → keys_of (ls ++ l ∷ []) ≡ keys_of ls ++ with_key (key_of_lit l) []
keys_of-push [] l = refl
keys_of-push (f ∷ ls) l = ap (with_key (key_of_lit f)) (keys_of-push ls l) ∙ last_key (key_of_lit f) (key_of_lit l) (keys_of ls)

last_place : (o p : Option Key) (q r : Place) (ps : List Place) → with_place o q (ps ++ with_place p r []) ≡ with_place o q ps ++ with_place p r []
last_place None p q r ps = refl
last_place (Some k) p q r ps = refl

metric_places-last : (n : ℕ) (ls : List Lit) (l : Lit) (m : ℕ) → n + length ls ≡ m → metric_places n (ls ++ l ∷ []) ≡ metric_places n ls ++ with_place (key_of_lit l) (place_of m l) []
metric_places-last n [] l m e = ap (λ k. with_place (key_of_lit l) (place_of k l) []) (omega arith)
metric_places-last n (f ∷ ls) l m e =
    ap (with_place (key_of_lit f) (place_of n f)) (metric_places-last (n + 1) ls l m (omega arith))
    ∙ last_place (key_of_lit f) (key_of_lit l) (place_of n f) (place_of m l) (metric_places (n + 1) ls)

pub metric_places-push : (ls : List Lit) (l : Lit) → metric_places 0 (ls ++ l ∷ []) ≡ metric_places 0 ls ++ with_place (key_of_lit l) (place_of (length ls) l) []
metric_places-push ls l = metric_places-last 0 ls l (length ls) (omega arith)
