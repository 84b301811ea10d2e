-- A literal whose objects are known by the first numbers of a choice stays what it is.
use Rattle.std.proofs.Common.{◌≡◌, ℕ, zero, suc, ◌+◌, ◌-◌, ◌<◌, List, [], ◌∷◌, ◌++◌, map, length, drop, get_or, refl, sym, ap, ◌∙◌, subst, arith, Bool, true, false, cond, not, ltb, eqb, inl, inr, Option, Some, None, Result, Ok, Err, append_assoc, append-nil}
use Rattle.std.specs.Prelude.{IfOk, Contains, slice_index_or}
use Rattle.std.specs.Prelude.{length as length_of}
use Rattle.std.specs.Option.{option_map_or}
use Rattle.std.proofs.lemmas.Bool.{ltb-true}
use Rattle.std.proofs.lemmas.List.{drop_more}
use Rattle.e_literal.specs.declared.object.Obj.{Obj}
use Rattle.e_literal.specs.declared.object.Scope.{Scope}
use Rattle.e_literal.specs.declared.object.Sort.{Sort}
use Rattle.e_literal.specs.declared.literal.Lit.{Lit}
use Rattle.e_literal.specs.declared.map.Entry.{Entry}
use Rattle.e_literal.specs.Literal.{obj, count_of, all_in_scope}
use Rattle.e_literal.specs.WellFormed.{is_well_formed}
use Rattle.e_literal.specs.Rename.{same_obj, image_in, pairs_of, with_images}
use Rattle.e_literal.specs.Scopes.{same_sort, nothing, with_one, next_objects}
use Rattle.e_clause.specs.Allowed.{Allowed, AllAllowed}
use Rattle.e_clause.specs.LimitedFacts.{is_well_formed_in, are_well_formed_in}
use Rattle.e_theorem.proofs.Renaming.{same_renamed}
use Rattle.e_transfer.specs.declared.walk.Span.{Span}
use Rattle.e_transfer.specs.Choice.{FitsSpans, EachKept}
use Rattle.e_transfer.specs.Verdicts.{VerdictIs}
use Rattle.e_literal.proofs.WithImages.{is_moved_in, renamed_scope}
use Rattle.e_literal.proofs.Sorts.{same_sort_is}
use Rattle.e_literal.proofs.Booleans.{and_left, and_right, eqb_self}
use Rattle.e_transfer.specs.declared.walk.Verdict.{Verdict}
use Rattle.e_transfer.specs.declared.walk.Verdict.TheVariants as verdict
use Rattle.e_licence.specs.Contexts.{Basis}
use Rattle.e_licence.specs.Verdicts.{JudgedIs}
use Rattle.e_licence.specs.inner.BlankChoices.{filled_arguments, spans_of, images_of_choice, AllBound, IsKeptChoice, IsWanted, IsRefusedAt, SomeIsWideAt, KnownIs, OneIs, AllIs}

-- ---- one object

abbrev pub number_of : Option Obj → ℕ → ℕ
number_of v n = option_map_or (λ (x : Obj). x.num) v n

pub step : (f : Bool) (x y : Obj) (v w : Option Obj) (n k : ℕ) → (f ≡ true → ltb x.num k ≡ true → x.num ≡ y.num) → (ltb (number_of v n) k ≡ true → number_of v n ≡ number_of w n)
    → ltb (number_of (cond f (Some x) v) n) k ≡ true → number_of (cond f (Some x) v) n ≡ number_of (cond f (Some y) w) n
step true x y v w n k here rest h = here refl h
step false x y v w n k here rest h = rest h

pub not_in_scope : (s : Scope) (sort : Sort) (o : Obj) (num : ℕ) (y : ℕ) → same_obj (obj sort num) o ≡ true → ltb (count_of s sort) (count_of s o.sort) ≡ true → count_of s sort ≡ y
not_in_scope s sort o num y is less =
    let e = ap (count_of s) (same_sort_is sort o.sort (and_left (same_sort sort o.sort) _ is)) in
    let k = ltb-true (count_of s sort) (count_of s o.sort) less in
    absurd (omega (arith, e, k))

-- the image of an object that is known stays
bound_stays : (s m b : Scope) (sorts : List Sort) (entries : List (Option Obj)) (part rest : List ℕ) (o : Obj)
    → ltb (number_of (image_in (images_of_choice s (next_objects b sorts) entries part) o) o.num) (count_of s o.sort) ≡ true
    → number_of (image_in (images_of_choice s (next_objects b sorts) entries part) o) o.num ≡ number_of (image_in (pairs_of (next_objects b sorts) (filled_arguments m (next_objects b sorts) entries (part ++ rest))) o) o.num
bound_stays s m b [] entries part rest o h = refl
bound_stays s m b (sort ∷ sorts) [] part rest o h = refl
bound_stays s m b (sort ∷ sorts) (Some p ∷ entries) part rest o h =
    step (same_obj (obj sort (count_of b sort)) o) p p _ _ o.num (count_of s o.sort) (λ is less. refl) (bound_stays s m (with_one b sort) sorts entries part rest o) h
bound_stays s m b (sort ∷ sorts) (None ∷ entries) (v ∷ part) rest o h =
    step (same_obj (obj sort (count_of b sort)) o) (obj sort v) (obj sort v) _ _ o.num (count_of s o.sort) (λ is less. refl) (bound_stays s m (with_one b sort) sorts entries part rest o) h
bound_stays s m b (sort ∷ sorts) (None ∷ entries) [] [] o h =
    step (same_obj (obj sort (count_of b sort)) o) (obj sort (count_of s sort)) (obj sort (count_of m sort)) _ _ o.num (count_of s o.sort)
    (λ is less. not_in_scope s sort o (count_of b sort) (count_of m sort) is less) (bound_stays s m (with_one b sort) sorts entries [] [] o) h
bound_stays s m b (sort ∷ sorts) (None ∷ entries) [] (v ∷ rest) o h =
    step (same_obj (obj sort (count_of b sort)) o) (obj sort (count_of s sort)) (obj sort v) _ _ o.num (count_of s o.sort)
    (λ is less. not_in_scope s sort o (count_of b sort) v is less) (bound_stays s m (with_one b sort) sorts entries [] rest o) h

-- ---- one literal

abbrev pub at : List Entry → Lit → Lit
at es l = with_images (image_in es) l

pub stays : (s m : Scope) (sorts : List Sort) (entries : List (Option Obj)) (part rest : List ℕ) (l : Lit)
    → is_well_formed_in s (at (images_of_choice s (next_objects nothing sorts) entries part) l) ≡ true
    → at (images_of_choice s (next_objects nothing sorts) entries part) l ≡ at (pairs_of (next_objects nothing sorts) (filled_arguments m (next_objects nothing sorts) entries (part ++ rest))) l
stays s m sorts entries part rest l good =
    let f = image_in (images_of_choice s (next_objects nothing sorts) entries part) in
    let g = image_in (pairs_of (next_objects nothing sorts) (filled_arguments m (next_objects nothing sorts) entries (part ++ rest))) in
    same_renamed f g (is_moved_in s f) (λ o h. bound_stays s m nothing sorts entries part rest o h) l
    (sym (renamed_scope s f l) ∙ and_left (all_in_scope s (with_images f l)) (is_well_formed (with_images f l)) good)

-- ---- the literals of a list

-- the last of the parts of a choice is the whole of it
last_kept : (kept : List ℕ → Type 0) (part c : List ℕ) → EachKept kept part c → kept (part ++ c)
last_kept kept part [] each = subst (λ x. kept x) (sym (append-nil part)) each
last_kept kept part (v ∷ c) (here, each) = subst (λ x. kept x) (append_assoc part (v ∷ []) c) (last_kept kept (part ++ v ∷ []) c each)

fits_length : (spans : List Span) (c : List ℕ) → FitsSpans spans c → length c ≡ length spans
fits_length [] [] fits = refl
fits_length [] (v ∷ c) fits = absurd fits
fits_length (n ∷ ns) [] fits = absurd fits
fits_length (n ∷ ns) (v ∷ c) (low, high, fits) = ap suc (fits_length ns c fits)

-- where each part of a whole choice is kept, each of its literals is allowed
pub all_bound : (b : Basis) (os : List Obj) (entries : List (Option Obj)) (given : List Lit) (c : List ℕ) → FitsSpans (spans_of b.scope os entries) c
    → EachKept (IsKeptChoice b os entries given) [] c → AllBound b (images_of_choice b.scope os entries c) given
all_bound b os entries given c fits each = last_kept (IsKeptChoice b os entries given) [] c each (fits_length (spans_of b.scope os entries) c fits)

-- and where all objects are in scope, each literal is
pub allowed_all : (b : Basis) (es : List Entry) (ls : List Lit) → AllBound b es ls → are_well_formed_in b.scope (map (at es) ls) ≡ true → AllAllowed b.scope b.facts (map (at es) ls)
allowed_all b es [] bound good = tt
allowed_all b es (l ∷ ls) (here, rest) good =
    (here (and_left (is_well_formed_in b.scope (at es l)) _ good), allowed_all b es ls rest (and_right (is_well_formed_in b.scope (at es l)) _ good))

-- ---- a literal that is refused, or too wide

pub allowed_at : (scope : Scope) (facts : List Lit) (f : Lit → Lit) (ls : List Lit) (l : Lit) (k : ℕ) → k < length ls → slice_index_or ls k l ≡ l → AllAllowed scope facts (map f ls) → Allowed scope facts (f l)
allowed_at scope facts f [] l k less is all = absurd (omega (arith, less))
allowed_at scope facts f (x ∷ ls) l zero less is (here, rest) = subst (λ y. Allowed scope facts (f y)) is here
allowed_at scope facts f (x ∷ ls) l (suc k) less is (here, rest) = allowed_at scope facts f ls l k (omega (arith, less)) is rest

pub refused : (b : Basis) (sorts : List Sort) (entries : List (Option Obj)) (given : List Lit) (part rest : List ℕ) (l : Lit) → Contains given l
    → IsRefusedAt b (images_of_choice b.scope (next_objects nothing sorts) entries part) l → IsWanted b (next_objects nothing sorts) entries given (part ++ rest) → ⊥
refused b sorts entries given part rest l (k, less, is) r wanted =
    r.not_allowed (subst (λ x. Allowed b.scope b.facts x) (sym (stays b.scope b.scope sorts entries part rest l r.good))
    (allowed_at b.scope b.facts (at (images_of_choice b.scope (next_objects nothing sorts) entries (part ++ rest))) given l k less is wanted.1))

contains_map : (f : Lit → Lit) (ls : List Lit) (l : Lit) (k : ℕ) → k < length ls → slice_index_or ls k l ≡ l → (k < length (map f ls)) × (slice_index_or (map f ls) k (f l) ≡ f l)
contains_map f [] l k less is = absurd (omega (arith, less))
contains_map f (x ∷ ls) l zero less is = (omega arith, ap f is)
contains_map f (x ∷ ls) l (suc k) less is = let rest = contains_map f ls l k (omega (arith, less)) is in (let a = rest.0 in omega (arith, a), rest.1)

pub contains_at : (f : Lit → Lit) (ls : List Lit) (l : Lit) → Contains ls l → Contains (map f ls) (f l)
contains_at f ls l (k, less, is) = let h = contains_map f ls l k less is in (k, h.0, h.1)

-- ---- the literals one after the other

-- where those from here on are allowed, all are
abbrev pub Left : Basis → List Entry → List Lit → ℕ → Type 0
Left b now ls i = AllBound b now (drop i ls) → AllBound b now ls

-- one that is allowed
pub kept_more : (b : Basis) (now : List Entry) (ls : List Lit) (i : ℕ) (d l : Lit) (o : Verdict (Unit {0})) (p : Unit {0}) → i < length ls
    → l ≡ get_or ls i d → o ≡ verdict.Yes p → OneIs b now l o → Left b now ls i → Left b now ls (i + 1)
kept_more b now ls i d l o p less is keep claim left rest =
    left (subst (λ x. AllBound b now x) (sym (drop_more ls i d less))
    (subst (λ x. is_well_formed_in b.scope (at now x) ≡ true → Allowed b.scope b.facts (at now x)) is (subst (λ x. OneIs b now l x) keep claim), rest))

-- ---- what is answered where the objects are in scope

pub known : (b : Basis) (image : Lit) (v : Verdict (Unit {0})) → is_well_formed_in b.scope image ≡ true → JudgedIs b image v → KnownIs b image v
known b image (verdict.Yes p) good judged = λ is. judged
known b image verdict.No good judged = record { good = good; not_allowed = judged }
known b image (verdict.TooWide w) good judged = record { good = good; is_wide = judged }

-- ---- the verdict on the first numbers of a choice

abbrev pub KeptAt : Basis → List Obj → List (Option Obj) → List Lit → List ℕ → Type 0
KeptAt b os entries given part = IsKeptChoice b os entries given part

abbrev pub ShownAt : List ℕ → Unit {0} → Type 0
ShownAt part p = Unit {0}

abbrev pub WideAt : Basis → List Obj → List (Option Obj) → List Lit → List ℕ → ℕ → Type 0
WideAt b os entries given part w = SomeIsWideAt b (images_of_choice b.scope os entries part) given w

-- of all, or of some where the part is no whole choice
verdict_by : (b : Basis) (sorts : List Sort) (entries : List (Option Obj)) (given : List Lit) (part : List ℕ) (all : Bool) (v : Verdict (Unit {0}))
    → (length part ≡ length (spans_of b.scope (next_objects nothing sorts) entries) → all ≡ true) → AllIs b (images_of_choice b.scope (next_objects nothing sorts) entries part) all given v
    → VerdictIs (KeptAt b (next_objects nothing sorts) entries given) ShownAt (WideAt b (next_objects nothing sorts) entries given) (IsWanted b (next_objects nothing sorts) entries given) part v
verdict_by b sorts entries given part all (verdict.Yes p) whole claim = (λ long. claim (whole long), tt)
verdict_by b sorts entries given part all verdict.No whole claim = λ rest wanted. refused b sorts entries given part rest claim.lit claim.is_one claim.is_refused wanted
verdict_by b sorts entries given part all (verdict.TooWide w) whole claim = claim

verdict_is : (b : Basis) (os : List Obj) (sorts : List Sort) (entries : List (Option Obj)) (given : List Lit) (part : List ℕ) (es : List Entry) (all : Bool)
    (v : Verdict (Unit {0})) → os ≡ next_objects nothing sorts → es ≡ images_of_choice b.scope os entries part → (length part ≡ length (spans_of b.scope os entries) → all ≡ true) → AllIs b es all given v
    → VerdictIs (KeptAt b os entries given) ShownAt (WideAt b os entries given) (IsWanted b os entries given) part v
verdict_is b os sorts entries given part es all v are bound whole claim =
    subst (λ x. VerdictIs (KeptAt b x entries given) ShownAt (WideAt b x entries given) (IsWanted b x entries given) part v) (sym are)
    (verdict_by b sorts entries given part all v (λ long. whole (long ∙ sym (ap (λ x. length (spans_of b.scope x entries)) are)))
    (subst (λ x. AllIs b x all given v) (bound ∙ ap (λ x. images_of_choice b.scope x entries part) are) claim))

-- what is answered at a whole choice, or at no whole one
pub if_verdict : {E : Type 0} (r : Result (Verdict (Unit {0})) E) (b : Basis) (os : List Obj) (sorts : List Sort) (entries : List (Option Obj)) (given : List Lit) (part : List ℕ) (es : List Entry) (length whole : ℕ)
    → os ≡ next_objects nothing sorts → es ≡ images_of_choice b.scope os entries part → length ≡ length_of part → whole ≡ length_of (spans_of b.scope os entries) → IfOk r (AllIs b es (eqb length whole) given)
    → IfOk r (VerdictIs (KeptAt b os entries given) ShownAt (WideAt b os entries given) (IsWanted b os entries given) part)
if_verdict (Ok v) b os sorts entries given part es length whole are bound long full claim =
    verdict_is b os sorts entries given part es (eqb length whole) v are bound (λ is. ap (λ n. eqb n whole) (long ∙ is ∙ sym full) ∙ eqb_self whole) claim
if_verdict (Err e) b os sorts entries given part es length whole are bound long full claim = claim

-- one literal is refused
pub none_wanted : (b : Basis) (os : List Obj) (sorts : List Sort) (entries : List (Option Obj)) (given : List Lit) (part : List ℕ) (es : List Entry) (o : Verdict (Unit {0}))
    → os ≡ next_objects nothing sorts → es ≡ images_of_choice b.scope os entries part → o ≡ verdict.No → AllIs b es false given o
    → (rest : List ℕ) → IsWanted b os entries given (part ++ rest) → ⊥
none_wanted b os sorts entries given part es o are bound refuse claim =
    verdict_is b os sorts entries given part es true verdict.No are bound (λ long. refl) (subst (λ x. AllIs b es false given x) refuse claim)
