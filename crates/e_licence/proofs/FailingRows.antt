-- A number of one blank is passed over where a literal of two blanks fails with each of the other.
use Rattle.std.proofs.Common.{◌≡◌, ℕ, zero, suc, ◌+◌, ◌<◌, ◌≤◌, List, [], ◌∷◌, ◌++◌, length, refl, sym, ap, ◌∙◌, subst, arith, Bool, true, ltb, get_or, ◌⊎◌, inl, inr, Option, Some, None}
use Rattle.std.specs.Prelude.{slice_get, Contains}
use Rattle.std.proofs.lemmas.Bool.{ltb-true, cases_lt}
use Rattle.std.proofs.lemmas.Option.{same_Some, none-some}
use Rattle.e_literal.specs.declared.object.Obj.{Obj}
use Rattle.e_literal.specs.declared.object.Scope.{Scope}
use Rattle.e_literal.specs.declared.object.Sort.{Sort}
use Rattle.e_literal.specs.declared.literal.Lit.{Lit}
use Rattle.e_literal.specs.Literal.{obj, count_of, all_in_scope}
use Rattle.e_literal.specs.WellFormed.{is_well_formed}
use Rattle.e_literal.specs.Rename.{same_obj, image_in, with_images}
use Rattle.e_literal.specs.Scopes.{same_sort, nothing, with_one, next_objects}
use Rattle.e_literal.proofs.WithImages.{is_moved_in, renamed_scope}
use Rattle.e_literal.proofs.Sorts.{same_sort_is}
use Rattle.e_literal.proofs.Booleans.{and_left}
use Rattle.e_clause.specs.Allowed.{Allowed}
use Rattle.e_clause.specs.LimitedFacts.{is_well_formed_in}
use Rattle.e_theorem.proofs.Renaming.{same_renamed}
use Rattle.e_transfer.specs.declared.walk.Span.{Span}
use Rattle.e_transfer.specs.Choice.{FitsSpans}
use Rattle.e_transfer.proofs.Choices.{none_span}
use Rattle.e_licence.specs.inner.BlankChoices.{images_of_choice, spans_of, IsWanted, IsRefusedAt}
use Rattle.e_licence.specs.inner.Rows.{IsOut, AgreesWith, IsPair, Choosing, lit_with, spans_with, RowFails, NoneHas, AreMarked, AreExcluded}
use Rattle.e_licence.proofs.KnownLiterals.{number_of, step, not_in_scope, at, allowed_at}

-- ---- a literal stays what it is where the numbers agree or are out of scope

same_number : (spans : List Span) (n : Span) (v u : ℕ) (d : List ℕ) → (slice_get (u ∷ d) 0 ≡ Some v) ⊎ IsOut (n ∷ spans) 0 v → v < n.to → v ≡ u
same_number spans n v u d (inl is) less = sym (same_Some u v is)
same_number spans n v u d (inr out) less =
    let same = ap (λ (s : Span). s.to) (same_Some n out.span out.is_there) in
    let far = out.out in
    absurd (omega (arith, less, same, far))

none_left : (spans : List Span) (n : Span) (v : ℕ) → (slice_get [] 0 ≡ Some v) ⊎ IsOut (n ∷ spans) 0 v → v < n.to → ⊥
none_left spans n v (inl is) less = none-some v is
none_left spans n v (inr out) less =
    let same = ap (λ (s : Span). s.to) (same_Some n out.span out.is_there) in
    let far = out.out in
    omega (arith, less, same, far)

later : (spans : List Span) (n : Span) (v u : ℕ) (c d : List ℕ) → AgreesWith (n ∷ spans) (v ∷ c) (u ∷ d) → AgreesWith spans c d
later spans n v u c d agrees i x is =
    elim (agrees (suc i) x is) [
      | inl same ↦ inl same
      | inr out ↦ inr (record { span = out.span; is_there = out.is_there; out = out.out })
    ]

later_none : (spans : List Span) (n : Span) (v : ℕ) (c : List ℕ) → AgreesWith (n ∷ spans) (v ∷ c) [] → AgreesWith spans c []
later_none spans n v c agrees i x is =
    elim (agrees (suc i) x is) [
      | inl same ↦ absurd (none-some x same)
      | inr out ↦ inr (record { span = out.span; is_there = out.is_there; out = out.out })
    ]

nothing_agrees : (spans : List Span) (d : List ℕ) → AgreesWith spans [] d
nothing_agrees spans d i x is = absurd (none-some x is)

bound_agrees : (s b : Scope) (sorts : List Sort) (entries : List (Option Obj)) (c d : List ℕ) (o : Obj) → AgreesWith (spans_of s (next_objects b sorts) entries) c d
    → ltb (number_of (image_in (images_of_choice s (next_objects b sorts) entries c) o) o.num) (count_of s o.sort) ≡ true
    → number_of (image_in (images_of_choice s (next_objects b sorts) entries c) o) o.num ≡ number_of (image_in (images_of_choice s (next_objects b sorts) entries d) o) o.num
bound_agrees s b [] entries c d o agrees h = refl
bound_agrees s b (sort ∷ sorts) [] c d o agrees h = refl
bound_agrees s b (sort ∷ sorts) (Some p ∷ entries) c d o agrees h =
    step (same_obj (obj sort (count_of b sort)) o) p p _ _ o.num (count_of s o.sort) (λ is less. refl) (bound_agrees s (with_one b sort) sorts entries c d o agrees) h
bound_agrees s b (sort ∷ sorts) (None ∷ entries) (v ∷ c) (u ∷ d) o agrees h =
    step (same_obj (obj sort (count_of b sort)) o) (obj sort v) (obj sort u) _ _ o.num (count_of s o.sort)
    (λ is less. same_number (spans_of s (next_objects (with_one b sort) sorts) entries) (record { from = 0; to = count_of s sort }) v u d (agrees 0 v refl) (in_span s sort o v is less))
    (bound_agrees s (with_one b sort) sorts entries c d o (later (spans_of s (next_objects (with_one b sort) sorts) entries) (record { from = 0; to = count_of s sort }) v u c d agrees)) h
  where
    in_span : (s : Scope) (sort : Sort) (o : Obj) (v : ℕ) → same_obj (obj sort (count_of b sort)) o ≡ true → ltb v (count_of s o.sort) ≡ true → v < count_of s sort
    in_span s sort o v is less =
        let e = ap (count_of s) (same_sort_is sort o.sort (and_left (same_sort sort o.sort) _ is)) in
        let k = ltb-true v (count_of s o.sort) less in
        omega (arith, e, k)
bound_agrees s b (sort ∷ sorts) (None ∷ entries) (v ∷ c) [] o agrees h =
    step (same_obj (obj sort (count_of b sort)) o) (obj sort v) (obj sort (count_of s sort)) _ _ o.num (count_of s o.sort)
    (λ is less. absurd (none_left (spans_of s (next_objects (with_one b sort) sorts) entries) (record { from = 0; to = count_of s sort }) v (agrees 0 v refl) (in_span s sort o v is less)))
    (bound_agrees s (with_one b sort) sorts entries c [] o (later_none (spans_of s (next_objects (with_one b sort) sorts) entries) (record { from = 0; to = count_of s sort }) v c agrees)) h
  where
    in_span : (s : Scope) (sort : Sort) (o : Obj) (v : ℕ) → same_obj (obj sort (count_of b sort)) o ≡ true → ltb v (count_of s o.sort) ≡ true → v < count_of s sort
    in_span s sort o v is less =
        let e = ap (count_of s) (same_sort_is sort o.sort (and_left (same_sort sort o.sort) _ is)) in
        let k = ltb-true v (count_of s o.sort) less in
        omega (arith, e, k)
bound_agrees s b (sort ∷ sorts) (None ∷ entries) [] [] o agrees h = refl
bound_agrees s b (sort ∷ sorts) (None ∷ entries) [] (u ∷ d) o agrees h =
    step (same_obj (obj sort (count_of b sort)) o) (obj sort (count_of s sort)) (obj sort u) _ _ o.num (count_of s o.sort)
    (λ is less. not_in_scope s sort o (count_of b sort) u is less)
    (bound_agrees s (with_one b sort) sorts entries [] d o (nothing_agrees (spans_of s (next_objects (with_one b sort) sorts) entries) d)) h

agrees_at : (s : Scope) (sorts : List Sort) (entries : List (Option Obj)) (c d : List ℕ) (l : Lit) → AgreesWith (spans_of s (next_objects nothing sorts) entries) c d
    → is_well_formed_in s (at (images_of_choice s (next_objects nothing sorts) entries c) l) ≡ true
    → at (images_of_choice s (next_objects nothing sorts) entries c) l ≡ at (images_of_choice s (next_objects nothing sorts) entries d) l
agrees_at s sorts entries c d l agrees good =
    let f = image_in (images_of_choice s (next_objects nothing sorts) entries c) in
    let g = image_in (images_of_choice s (next_objects nothing sorts) entries d) in
    same_renamed f g (is_moved_in s f) (λ o h. bound_agrees s nothing sorts entries c d o agrees h) l
    (sym (renamed_scope s f l) ∙ and_left (all_in_scope s (with_images f l)) (is_well_formed (with_images f l)) good)

-- ---- two numbers

pair_agrees : (spans : List Span) (first value last num : ℕ) (c d : List ℕ) → IsPair spans first value last num c → slice_get d first ≡ Some value → slice_get d last ≡ Some num → AgreesWith spans c d
pair_agrees spans first value last num c d pair at_first at_last i x is =
    elim (pair i x is) [
      | inl here ↦ inl (ap (λ k. slice_get d k) here.0 ∙ at_first ∙ ap (λ k. Some k) (sym here.1))
      | inr (inl there) ↦ inl (ap (λ k. slice_get d k) there.0 ∙ at_last ∙ ap (λ k. Some k) (sym there.1))
      | inr (inr out) ↦ inr out
    ]

-- what is refused with the two is not allowed with any choice that has them
pair_fails : (g : Choosing) (sorts : List Sort) (l : Lit) (first value last num : ℕ) (c d : List ℕ) → g.objects ≡ next_objects nothing sorts → IsPair (spans_with g) first value last num c
    → IsRefusedAt g.basis (images_of_choice g.basis.scope g.objects g.entries c) l → slice_get d first ≡ Some value → slice_get d last ≡ Some num
    → Allowed g.basis.scope g.basis.facts (lit_with g d l) → ⊥
pair_fails g sorts l first value last num c d are pair refused at_first at_last allowed =
    let s = g.basis.scope in
    let agrees = subst (λ os. AgreesWith (spans_of s os g.entries) c d) are (pair_agrees (spans_with g) first value last num c d pair at_first at_last) in
    let good = subst (λ os. is_well_formed_in s (at (images_of_choice s os g.entries c) l) ≡ true) are refused.good in
    let same : lit_with g c l ≡ lit_with g d l =
    ap (λ os. at (images_of_choice s os g.entries c) l) are ∙ agrees_at s sorts g.entries c d l agrees good ∙ sym (ap (λ os. at (images_of_choice s os g.entries d) l) are) in
    refused.not_allowed (subst (Allowed s g.basis.facts) (sym same) allowed)

-- ---- a row

pub row_more : (g : Choosing) (sorts : List Sort) (l : Lit) (first value last num : ℕ) (c : List ℕ) → g.objects ≡ next_objects nothing sorts → IsPair (spans_with g) first value last num c
    → IsRefusedAt g.basis (images_of_choice g.basis.scope g.objects g.entries c) l → RowFails g l first value last num → RowFails g l first value last (num + 1)
row_more g sorts l first value last num c are pair refused row d m fits at_first at_last less allowed =
    elim (cases_lt m num) [
      | inl lower ↦ row d m fits at_first at_last lower allowed
      | inr upper ↦
          let same : m ≡ num = omega (arith, less, upper) in
          pair_fails g sorts l first value last num c d are pair refused at_first (at_last ∙ ap (λ k. Some k) same) allowed
    ]

in_span_of : (spans : List Span) (d : List ℕ) (last : ℕ) (n : Span) → FitsSpans spans d → slice_get spans last ≡ Some n → (m : ℕ) × (slice_get d last ≡ Some m) × (m < n.to)
in_span_of [] d last n fits is = absurd (none-some n is)
in_span_of (span ∷ spans) [] last n fits is = absurd fits
in_span_of (span ∷ spans) (v ∷ d) zero n (low, high, fits) is = (v, refl, subst (λ (s : Span). v < s.to) (same_Some span n is) high)
in_span_of (span ∷ spans) (v ∷ d) (suc last) n (low, high, fits) is = in_span_of spans d last n fits is

-- a whole row fails, so no wanted choice has the number
pub row_excludes : (g : Choosing) (l : Lit) (first value last below : ℕ) (n : Span) → Contains g.given l → slice_get (spans_with g) last ≡ Some n → n.to ≤ below → RowFails g l first value last below
    → NoneHas g first value
row_excludes g l first value last below n (k, less, is) there most row d (fits, allowed) at_first =
    let m = in_span_of (spans_with g) d last n fits there in
    let under = m.2 in
    row d m.0 fits at_first m.1 (omega (arith, under, most))
    (allowed_at g.basis.scope g.basis.facts (at (images_of_choice g.basis.scope g.objects g.entries d)) g.given l k less is allowed)

-- ---- the tables of marks

one_more : {X : Type 0} (P : ℕ → X → Type 0) (xs : List X) (x : X) → ((i : ℕ) (y : X) → slice_get xs i ≡ Some y → P i y) → P (length xs) x → (i : ℕ) (y : X) → slice_get (xs ++ x ∷ []) i ≡ Some y → P i y
one_more P [] x each here zero y is = subst (P 0) (same_Some x y is) here
one_more P [] x each here (suc i) y is = absurd (none-some y is)
one_more P (z ∷ xs) x each here zero y is = each 0 y is
one_more P (z ∷ xs) x each here (suc i) y is =
    one_more (λ k. P (suc k)) xs x (λ k w e. each (suc k) w e) here i y is

pub span_there : (spans : List Span) (i : ℕ) → i < length spans → slice_get spans i ≡ Some (get_or spans i none_span)
span_there [] i less = absurd (omega (arith, less))
span_there (n ∷ ns) zero less = refl
span_there (n ∷ ns) (suc i) less = span_there ns i (omega (arith, less))

pub pair_more : (spans : List Span) (first value last num : ℕ) (c new : List ℕ) (i x : ℕ) → i < length spans → new ≡ c ++ x ∷ [] → length c ≡ i
    → ((i ≡ first) × (x ≡ value)) ⊎ (((i ≡ last) × (x ≡ num)) ⊎ (x ≡ (get_or spans i none_span).to)) → IsPair spans first value last num c → IsPair spans first value last num new
pair_more spans first value last num c new i x less is long one pair k y at_k =
    one_more (λ j z. ((j ≡ first) × (z ≡ value)) ⊎ (((j ≡ last) × (z ≡ num)) ⊎ IsOut spans j z)) c x pair
    (subst (λ j. ((j ≡ first) × (x ≡ value)) ⊎ (((j ≡ last) × (x ≡ num)) ⊎ IsOut spans j x)) (sym long) (here one)) k y (sym (ap (λ xs. slice_get xs k) is) ∙ at_k)
  where
    here : ((i ≡ first) × (x ≡ value)) ⊎ (((i ≡ last) × (x ≡ num)) ⊎ (x ≡ (get_or spans i none_span).to)) → ((i ≡ first) × (x ≡ value)) ⊎ (((i ≡ last) × (x ≡ num)) ⊎ IsOut spans i x)
    here (inl both) = inl both
    here (inr (inl both)) = inr (inl both)
    here (inr (inr far)) = inr (inr (record { span = get_or spans i none_span; is_there = span_there spans i less; out = omega (arith, far) }))

pub long_more : (c new : List ℕ) (x i : ℕ) → new ≡ c ++ x ∷ [] → length c ≡ i → length new ≡ i + 1
long_more c new x i is long = ap length is ∙ one_longer c x ∙ ap (λ n. n + 1) long
  where
    one_longer : (c : List ℕ) (x : ℕ) → length (c ++ x ∷ []) ≡ length c + 1
    one_longer [] x = refl
    one_longer (y ∷ c) x = omega (arith, one_longer c x)

pub pair_none : (spans : List Span) (first value last num : ℕ) (c : List ℕ) → c ≡ [] → IsPair spans first value last num c
pair_none spans first value last num c is i x at_i = absurd (none-some x (sym (ap (λ xs. slice_get xs i) is) ∙ at_i))

pub marks_none : (g : Choosing) (place : ℕ) (marks : List Bool) → marks ≡ [] → AreMarked g place marks
marks_none g place marks is value at_value = absurd (none-some true (sym (ap (λ xs. slice_get xs value) is) ∙ at_value))

pub marks_more : (g : Choosing) (place value : ℕ) (marks new : List Bool) (mark : Bool) → new ≡ marks ++ mark ∷ [] → length marks ≡ value → (mark ≡ true → NoneHas g place value) → AreMarked g place marks → AreMarked g place new
marks_more g place value marks new mark is long none marked v at_v =
    one_more (λ j y. y ≡ true → NoneHas g place j) marks mark (λ j y here yes. marked j (here ∙ ap (λ b. Some b) yes))
    (subst (λ j. mark ≡ true → NoneHas g place j) (sym long) none) v true (sym (ap (λ xs. slice_get xs v) is) ∙ at_v) refl

pub table_none : (g : Choosing) (table : List (List Bool)) → table ≡ [] → AreExcluded g table
table_none g table is place marks at_place = absurd (none-some marks (sym (ap (λ xs. slice_get xs place) is) ∙ at_place))

pub table_more : (g : Choosing) (place : ℕ) (table new : List (List Bool)) (marks : List Bool) → new ≡ table ++ marks ∷ [] → length table ≡ place → AreMarked g place marks → AreExcluded g table → AreExcluded g new
table_more g place table new marks is long marked excluded p ms at_p =
    one_more (λ j ys. AreMarked g j ys) table marks excluded (subst (λ j. AreMarked g j marks) (sym long) marked) p ms (sym (ap (λ xs. slice_get xs p) is) ∙ at_p)

-- ---- the last number of a part

last_at : (part rest : List ℕ) (i x : ℕ) → slice_get part i ≡ Some x → slice_get (part ++ rest) i ≡ Some x
last_at [] rest i x is = absurd (none-some x is)
last_at (v ∷ part) rest zero x is = is
last_at (v ∷ part) rest (suc i) x is = last_at part rest i x is

pub none_begins : (g : Choosing) (part : List ℕ) (place value : ℕ) → slice_get part place ≡ Some value → NoneHas g place value → (rest : List ℕ) → IsWanted g.basis g.objects g.entries g.given (part ++ rest) → ⊥
none_begins g part place value is none rest wanted = none (part ++ rest) wanted (last_at part rest place value is)
