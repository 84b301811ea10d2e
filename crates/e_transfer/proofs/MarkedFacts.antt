-- What the marks of facts, and values with which all areas are 0, show of the literals of a clause.
use Rattle.std.proofs.Common.{◌≡◌, ◌≢◌, ℕ, zero, suc, ◌+◌, ◌*◌, ◌<◌, ◌≤◌, List, [], ◌∷◌, ◌++◌, refl, sym, ap, ◌∙◌, subst, arith, Bool, true, false, cond, not, ◌&&◌, ◌||◌, true≢false, eqb, eqb-true, get_or, get_or-set_same, get_or-set_other, set, length, map, take, ◌⊎◌, inl, inr, Some}
use Rattle.std.specs.Prelude.{slice_get, MatchBool, is_some}
use Rattle.std.proofs.lemmas.Bool.{and_from, or_cases, cases_eq, cases_Bool}
use Rattle.std.proofs.lemmas.Option.{same_Some}
use Rattle.std.proofs.lemmas.List.{take_all}
use Rattle.std.proofs.lemmas.List.Folds.{list_all-append}
use Rattle.e_literal.specs.declared.literal.Atom.{Atom}
use Rattle.e_literal.specs.declared.literal.Atom.TheVariants.{On, OnC, Inside, Center, Between, Same, MeetLL, MeetLC, MeetCC, EqP, EqL, EqC, MagEq, MagLt}
use Rattle.e_literal.specs.declared.literal.Lit.{Lit}
use Rattle.e_literal.specs.declared.object.Mono.{Mono}
use Rattle.e_literal.specs.declared.object.Scope.{Scope}
use Rattle.e_literal.specs.declared.object.Term.{Term}
use Rattle.e_literal.specs.declared.object.Term.TheVariants.{Area}
use Rattle.e_literal.specs.Facts.{has, is_metric}
use Rattle.e_literal.specs.Literal.{negation, kind_of_atom}
use Rattle.e_literal.specs.Rename.{term_at, mono_at, atom_at}
use Rattle.e_literal.specs.Rows.{is_degenerate}
use Rattle.e_literal.specs.Same.{same_neg, same_atom, same_lit}
use Rattle.e_literal.specs.Truth.{value_of}
use Rattle.e_literal.proofs.Booleans.{and_left, and_right, same_neg_is}
use Rattle.std.specs.Option.{option_map_or}
use Rattle.e_clause.specs.Instance.{number, line_arg, circle_arg, lit_at, clause_of}
use Rattle.e_clause.specs.Metric.{MetricConsequence}
use Rattle.e_clause.specs.Rows.{Row}
use Rattle.e_clause.specs.Table.{table}
use Rattle.e_clause.proofs.Following.{metric_fact}
use Rattle.e_metric.proofs.terms.WellFormedSums.{all_more}
use Rattle.e_transfer.specs.declared.models.Filling.TheVariants.{Flat}
use Rattle.e_transfer.specs.declared.query.Strength.{Strength}
use Rattle.e_transfer.specs.declared.query.Strength.TheVariants as strength
use Rattle.e_transfer.specs.GivenGoals.{Suffices, IsFittingLiteral, NoneAt}
use Rattle.e_transfer.specs.Marks.{relation_number, mark_number, lit_mark, is_marked, are_marked, is_area_term, all_are_areas, is_strict_on_areas, NoneSuffices, NoneHolds}
use Rattle.e_transfer.specs.Models.{value_when_canonical, value_by, fits_term, fits_terms, is_model}
use Rattle.e_transfer.proofs.Instances.{of_instance, at_map}
use Rattle.e_transfer.proofs.ModelValues.{refuted}
use Rattle.e_transfer.proofs.Needs.{diagram_holds, fitting}

-- ---- relations

-- other objects leave the relation
pub relation_at : (p q c : ℕ → ℕ) (a : Atom) → relation_number (atom_at p q c a) ≡ relation_number a
relation_at p q c (On x y) = refl
relation_at p q c (OnC x y) = refl
relation_at p q c (Inside x y) = refl
relation_at p q c (Center x y) = refl
relation_at p q c (Between x y z) = refl
relation_at p q c (Same x y z) = refl
relation_at p q c (MeetLL x y) = refl
relation_at p q c (MeetLC x y) = refl
relation_at p q c (MeetCC x y) = refl
relation_at p q c (EqP x y) = refl
relation_at p q c (EqL x y) = refl
relation_at p q c (EqC x y) = refl
relation_at p q c (MagEq x y) = refl
relation_at p q c (MagLt x y) = refl

relation_alike : (a b : Atom) → same_atom a b ≡ true → relation_number a ≡ relation_number b
relation_alike (On a b) (On c d) h = refl
relation_alike (OnC a b) (OnC c d) h = refl
relation_alike (Inside a b) (Inside c d) h = refl
relation_alike (Center a b) (Center c d) h = refl
relation_alike (Between a b c) (Between d e f) h = refl
relation_alike (Same a b c) (Same d e f) h = refl
relation_alike (MeetLL a b) (MeetLL c d) h = refl
relation_alike (MeetLC a b) (MeetLC c d) h = refl
relation_alike (MeetCC a b) (MeetCC c d) h = refl
relation_alike (EqP a b) (EqP c d) h = refl
relation_alike (EqL a b) (EqL c d) h = refl
relation_alike (EqC a b) (EqC c d) h = refl
relation_alike (MagEq x y) (MagEq z w) h = refl
relation_alike (MagLt x y) (MagLt z w) h = refl
relation_alike a b h = absurd (true≢false (sym h))

-- literals that are the same have one mark
pub mark_alike : (a b : Lit) → same_lit a b ≡ true → lit_mark a ≡ lit_mark b
mark_alike a b h =
    let sign : a.neg ≡ b.neg = same_neg_is a.neg b.neg (and_left (same_neg a.neg b.neg) (same_atom a.atom b.atom) h) in
    let one : relation_number a.atom ≡ relation_number b.atom = relation_alike a.atom b.atom (and_right (same_neg a.neg b.neg) (same_atom a.atom b.atom) h) in
    ap (λ (r : ℕ). mark_number r a.neg) one ∙ ap (mark_number (relation_number b.atom)) sign

-- ---- marks

-- a fact is marked
marked_fact : (marks : List Bool) (facts : List Lit) (l : Lit) → are_marked marks facts ≡ true → has facts l ≡ true → is_marked marks l ≡ true
marked_fact marks [] l all h = absurd (true≢false (sym h))
marked_fact marks (f ∷ fs) l all h = elim (or_cases (same_lit f l) (has fs l) h) [
  | inl same ↦ ap (λ k. get_or marks k false) (sym (mark_alike f l same)) ∙ and_left (is_marked marks f) (are_marked marks fs) all
  | inr later ↦ marked_fact marks fs l (and_right (is_marked marks f) (are_marked marks fs) all) later
]

pub set_keeps : (marks : List Bool) (k n : ℕ) → k < length marks → get_or marks n false ≡ true → get_or (set marks k true) n false ≡ true
set_keeps marks k n less h = elim (cases_eq n k) [
  | inl same ↦ ap (λ i. get_or (set marks k true) i false) same ∙ get_or-set_same marks k true false less
  | inr other ↦ get_or-set_other marks k n true false other ∙ h
]

all_kept : (marks : List Bool) (k : ℕ) (ls : List Lit) → k < length marks → are_marked marks ls ≡ true → are_marked (set marks k true) ls ≡ true
all_kept marks k [] less all = refl
all_kept marks k (l ∷ ls) less all =
    and_from (is_marked (set marks k true) l) (are_marked (set marks k true) ls)
    (set_keeps marks k (lit_mark l) less (and_left (is_marked marks l) (are_marked marks ls) all))
    (all_kept marks k ls less (and_right (is_marked marks l) (are_marked marks ls) all))

-- one fact more is marked
pub one_more_marked : (facts : List Lit) (marks new : List Bool) (i k : ℕ) (fact : Lit) → k < length marks → new ≡ set marks k true → k ≡ lit_mark fact
    → slice_get facts i ≡ Some fact → are_marked marks (take i facts) ≡ true → are_marked new (take (i + 1) facts) ≡ true
one_more_marked facts marks new i k fact less is at here all =
    let kept : are_marked new (take i facts) ≡ true = ap (λ (ms : List Bool). are_marked ms (take i facts)) is ∙ all_kept marks k (take i facts) less all in
    let marked : is_marked new fact ≡ true = ap (λ (ms : List Bool). is_marked ms fact) is ∙ (ap (λ n. get_or (set marks k true) n false) (sym at) ∙ get_or-set_same marks k true false less) in
    all_more (is_marked new) facts i fact here kept marked

pub all_marked : (facts : List Lit) (marks : List Bool) (n : ℕ) → length facts ≤ n → are_marked marks (take n facts) ≡ true → are_marked marks facts ≡ true
all_marked facts marks n most each = sym (ap (are_marked marks) (take_all n facts most)) ∙ each

-- ---- what does not suffice

of_diagram : (a : Atom) → relation_number a < 12 → is_some (kind_of_atom a) ≡ false
of_diagram (On x y) less = refl
of_diagram (OnC x y) less = refl
of_diagram (Inside x y) less = refl
of_diagram (Center x y) less = refl
of_diagram (Between x y z) less = refl
of_diagram (Same x y z) less = refl
of_diagram (MeetLL x y) less = refl
of_diagram (MeetLC x y) less = refl
of_diagram (MeetCC x y) less = refl
of_diagram (EqP x y) less = refl
of_diagram (EqL x y) less = refl
of_diagram (EqC x y) less = refl
of_diagram (MagEq x y) less = absurd (omega (arith, less))
of_diagram (MagLt x y) less = absurd (omega (arith, less))

pub fact_of : (m : Strength) (facts : List Lit) (l : Lit) → (m ≡ strength.Facts) ⊎ (relation_number l.atom < 12) → Suffices m facts l → has facts l ≡ true
fact_of m facts l (inl is) enough = subst (λ (k : Strength). Suffices k facts l) is enough
fact_of m facts l (inr low) enough = sym (ap (λ b. b || has facts l) (of_diagram l.atom low)) ∙ diagram_holds m facts l enough

-- what has to be a fact, and has no mark
pub none_unmarked : (m : Strength) (facts : List Lit) (marks : List Bool) (neg : Bool) (a : Atom) → (m ≡ strength.Facts) ⊎ (relation_number a < 12) → are_marked marks facts ≡ true
    → get_or marks (mark_number (relation_number a) neg) false ≡ false → NoneSuffices m facts (record { neg = neg; atom = a })
none_unmarked m facts marks neg a asked all unmarked = λ p q c enough.
    let l : Lit = record { neg = neg; atom = atom_at p q c a } in
    let same : relation_number l.atom ≡ relation_number a = relation_at p q c a in
    let as_asked : (m ≡ strength.Facts) ⊎ (relation_number l.atom < 12) = elim asked [
      | inl is ↦ inl is
      | inr low ↦ inr (omega (arith, low, same))
    ] in
    let marked = marked_fact marks facts l all (fact_of m facts l as_asked enough) in
    true≢false (sym marked ∙ (ap (λ r. get_or marks (mark_number r neg) false) same ∙ unmarked))

-- ---- where all areas are 0

no_value : (b : Bool) → ◌≡◌ {A = ℕ} (cond b 0 0) 0
no_value true = refl
no_value false = refl

zero_term : (vs : List (Term × ℕ)) (t : Term) → is_area_term t ≡ true → value_by Flat vs t ≡ 0
zero_term vs (Area a b c) h = no_value (is_degenerate (Area a b c))
zero_term vs t h = absurd (true≢false (sym h))

zero_sum : (vs : List (Term × ℕ)) (x : List Mono) → all_are_areas x ≡ true → value_of (value_by Flat vs) x ≡ 0
zero_sum vs [] h = refl
zero_sum vs (m ∷ ms) h =
    let here = zero_term vs m.term (and_left (is_area_term m.term) (all_are_areas ms) h) in
    let rest = zero_sum vs ms (and_right (is_area_term m.term) (all_are_areas ms) h) in
    ap (λ v. m.coeff * v + value_of (value_by Flat vs) ms) here ∙ (ap (λ v. m.coeff * 0 + v) rest ∙ omega arith)

pub fits_area : (facts : List Lit) (v : Term → ℕ) (t : Term) → is_area_term t ≡ true → fits_term facts v t ≡ true
fits_area facts v (Area a b c) h = refl
fits_area facts v t h = absurd (true≢false (sym h))

fits_sum : (facts : List Lit) (v : Term → ℕ) (x : List Mono) → all_are_areas x ≡ true → fits_terms facts v (map (λ m. m.term) x) ≡ true
fits_sum facts v [] h = refl
fits_sum facts v (m ∷ ms) h =
    and_from (fits_term facts v m.term) (fits_terms facts v (map (λ n. n.term) ms)) (fits_area facts v m.term (and_left (is_area_term m.term) (all_are_areas ms) h))
    (fits_sum facts v ms (and_right (is_area_term m.term) (all_are_areas ms) h))

fits_sums : (facts : List Lit) (v : Term → ℕ) (x y : List Mono) → all_are_areas x ≡ true → all_are_areas y ≡ true → fits_terms facts v (map (λ m. m.term) (x ++ y)) ≡ true
fits_sums facts v x y h k = fits_sum facts v (x ++ y) (list_all-append (λ (m : Mono). is_area_term m.term) x y ∙ and_from (all_are_areas x) (all_are_areas y) h k)

-- a literal that says that areas differ, or that one is less, does not follow
flat_fails : (facts : List Lit) (vs : List (Term × ℕ)) (neg : Bool) (a : Atom) → is_model facts (value_by Flat vs) ≡ true → is_strict_on_areas neg a ≡ true
    → MetricConsequence facts (record { neg = neg; atom = a }) → ⊥
flat_fails facts vs true (MagEq x y) model strict follows =
    let h = and_left (all_are_areas x) (all_are_areas y) strict in
    let k = and_right (all_are_areas x) (all_are_areas y) strict in
    refuted facts (record { neg = true; atom = MagEq x y }) (value_when_canonical Flat vs) model (fits_sums facts (value_by Flat vs) x y h k)
    (rw (zero_sum vs x h, zero_sum vs y k) refl) follows
flat_fails facts vs false (MagLt x y) model strict follows =
    let h = and_left (all_are_areas x) (all_are_areas y) strict in
    let k = and_right (all_are_areas x) (all_are_areas y) strict in
    refuted facts (record { neg = false; atom = MagLt x y }) (value_when_canonical Flat vs) model (fits_sums facts (value_by Flat vs) x y h k)
    (rw (zero_sum vs x h, zero_sum vs y k) refl) follows
flat_fails facts vs neg a model strict follows = absurd (true≢false (sym strict))

pub area_at : (p : ℕ → ℕ) (t : Term) → is_area_term t ≡ true → is_area_term (term_at p t) ≡ true
area_at p (Area a b c) h = refl
area_at p t h = absurd (true≢false (sym h))

areas_at : (p : ℕ → ℕ) (x : List Mono) → all_are_areas x ≡ true → all_are_areas (map (mono_at p) x) ≡ true
areas_at p [] h = refl
areas_at p (m ∷ ms) h =
    and_from (is_area_term (term_at p m.term)) (all_are_areas (map (mono_at p) ms)) (area_at p m.term (and_left (is_area_term m.term) (all_are_areas ms) h))
    (areas_at p ms (and_right (is_area_term m.term) (all_are_areas ms) h))

both_at : (p : ℕ → ℕ) (x y : List Mono) → (all_are_areas x && all_are_areas y) ≡ true → (all_are_areas (map (mono_at p) x) && all_are_areas (map (mono_at p) y)) ≡ true
both_at p x y h =
    and_from (all_are_areas (map (mono_at p) x)) (all_are_areas (map (mono_at p) y)) (areas_at p x (and_left (all_are_areas x) (all_are_areas y) h))
    (areas_at p y (and_right (all_are_areas x) (all_are_areas y) h))

strict_at : (p q c : ℕ → ℕ) (neg : Bool) (a : Atom) → is_strict_on_areas neg a ≡ true → is_strict_on_areas neg (atom_at p q c a) ≡ true
strict_at p q c true (MagEq x y) h = both_at p x y h
strict_at p q c false (MagLt x y) h = both_at p x y h
strict_at p q c neg a h = absurd (true≢false (sym h))

strict_is_metric : (neg : Bool) (a : Atom) → is_strict_on_areas neg a ≡ true → is_some (kind_of_atom a) ≡ true
strict_is_metric true (MagEq x y) h = refl
strict_is_metric false (MagLt x y) h = refl
strict_is_metric neg a h = absurd (true≢false (sym h))

by_kind : (b : Bool) (facts : List Lit) (l : Lit) → b ≡ true → MatchBool b (MetricConsequence facts l) (has facts l ≡ true) → MetricConsequence facts l
by_kind true facts l e holds = holds
by_kind false facts l e holds = absurd (true≢false (sym e))

-- a metric literal that suffices follows
pub sufficient_follows : (m : Strength) (facts : List Lit) (l : Lit) → is_metric l ≡ true → Suffices m facts l → MetricConsequence facts l
sufficient_follows strength.Facts facts l metric enough = metric_fact facts l metric enough
sufficient_follows strength.Sums facts l metric enough = by_kind (is_metric l) facts l metric enough
sufficient_follows strength.NarrowSums facts l metric (inl fact) = metric_fact facts l metric fact
sufficient_follows strength.NarrowSums facts l metric (inr (follows, narrow)) = follows

pub none_flat : (m : Strength) (facts : List Lit) (vs : List (Term × ℕ)) (neg : Bool) (a : Atom) → is_model facts (value_by Flat vs) ≡ true → is_strict_on_areas neg a ≡ true
    → NoneSuffices m facts (record { neg = neg; atom = a })
none_flat m facts vs neg a model strict = λ p q c enough.
    let so = strict_at p q c neg a strict in
    flat_fails facts vs neg (atom_at p q c a) model so
    (sufficient_follows m facts (record { neg = neg; atom = atom_at p q c a }) (strict_is_metric neg (atom_at p q c a) so) enough)

-- ---- places of a clause

-- where the literal at the place has not the goal's mark, and none that negates it suffices
pub none_holds : (m : Strength) (facts : List Lit) (goal : Lit) (r : Row) (at : ℕ) (neg : Bool) (a : Atom) → slice_get (clause_of r) at ≡ Some (record { neg = neg; atom = a })
    → mark_number (relation_number a) neg ≢ lit_mark goal → NoneSuffices m facts (record { neg = not neg; atom = a }) → NoneHolds m facts goal r at
none_holds m facts goal r at neg a here unlike none = λ l is args fits.
    let e : record { neg = neg; atom = a } ≡ l = same_Some (record { neg = neg; atom = a }) l (sym here ∙ is) in
    let p = number args in
    let q = line_arg r args in
    let c = circle_arg r args in
    elim (subst (λ (k : Lit). IsFittingLiteral m facts goal false (lit_at r args k)) (sym e) fits) [
      | inl same ↦ unlike (ap (λ n. mark_number n neg) (sym (relation_at p q c a)) ∙ mark_alike (record { neg = neg; atom = atom_at p q c a }) goal same)
      | inr enough ↦ none p q c enough
    ]

pub unequal : (a b : ℕ) → a ≢ b → eqb a b ≡ false
unequal a b apart = elim (cases_Bool (eqb a b)) [
  | inl e ↦ absurd (apart (eqb-true a b e))
  | inr n ↦ n
]

pub some_at : (ls : List Lit) (at : ℕ) → at < length ls → (l : Lit) × (slice_get ls at ≡ Some l)
some_at [] at less = absurd (omega (arith, less))
some_at (l ∷ ls) zero less = (l, refl)
some_at (l ∷ ls) (suc at) less = some_at ls at (omega (arith, less))

turned : (a c : ℕ) (b d : Bool) → mark_number a b ≡ mark_number c d → mark_number a (not b) ≡ mark_number c (not d)
turned a c false false same = let e : 2 * a + 0 ≡ 2 * c + 0 = same in let f : 2 * a + 1 ≡ 2 * c + 1 = omega (arith, e) in f
turned a c true true same = let e : 2 * a + 1 ≡ 2 * c + 1 = same in let f : 2 * a + 0 ≡ 2 * c + 0 = omega (arith, e) in f
turned a c false true same = let e : 2 * a + 0 ≡ 2 * c + 1 = same in absurd (omega (arith, e))
turned a c true false same = let e : 2 * a + 1 ≡ 2 * c + 0 = same in absurd (omega (arith, e))

of_low_mark : (a : ℕ) (b : Bool) → mark_number a b < 24 → a < 12
of_low_mark a false low = let e : 2 * a + 0 < 24 = low in omega (arith, e)
of_low_mark a true low = let e : 2 * a + 1 < 24 = low in omega (arith, e)

-- the same, by the mark of the negation: what has to be a fact, and has no mark
pub none_lacking_at : (m : Strength) (facts : List Lit) (marks : List Bool) (goal : Lit) (r : Row) (at needed : ℕ) (k : Lit) → slice_get (clause_of r) at ≡ Some k → needed ≡ lit_mark (negation k)
    → needed ≢ lit_mark (negation goal) → (m ≡ strength.Facts) ⊎ (needed < 24) → are_marked marks facts ≡ true → get_or marks needed false ≡ false → NoneHolds m facts goal r at
none_lacking_at m facts marks goal r at needed k here is unlike asked all unmarked =
    let number = relation_number k.atom in
    let as_asked : (m ≡ strength.Facts) ⊎ (number < 12) = elim asked [
      | inl e ↦ inl e
      | inr low ↦ inr (of_low_mark number (not k.neg) (subst (λ n. n < 24) is low))
    ] in
    none_holds m facts goal r at k.neg k.atom here (λ e. unlike (is ∙ turned number (relation_number goal.atom) k.neg goal.neg e))
    (none_unmarked m facts marks (not k.neg) k.atom as_asked all (ap (λ n. get_or marks n false) (sym is) ∙ unmarked))

-- or a literal of sums whose negation does not suffice
pub none_followed_at : (m : Strength) (facts : List Lit) (goal : Lit) (r : Row) (at goal_mark relation : ℕ) (neg : Bool) (k j : Lit) → slice_get (clause_of r) at ≡ Some k
    → relation ≡ relation_number k.atom → neg ≡ k.neg → mark_number relation neg ≢ goal_mark → goal_mark ≡ lit_mark goal → slice_get (clause_of r) at ≡ Some j → NoneSuffices m facts (negation j)
    → NoneHolds m facts goal r at
none_followed_at m facts goal r at goal_mark relation neg k j here is sign unlike of_goal there none =
    none_holds m facts goal r at k.neg k.atom here (λ e. unlike (ap (λ n. mark_number n neg) is ∙ ap (mark_number (relation_number k.atom)) sign ∙ e ∙ sym of_goal))
    (subst (λ (l : Lit). NoneSuffices m facts (negation l)) (same_Some j k (sym there ∙ here)) none)

-- a literal that is the goal at its place fits as well elsewhere
pub fits_elsewhere : (m : Strength) (facts : List Lit) (goal l : Lit) (b : Bool) → IsFittingLiteral m facts goal b l → IsFittingLiteral m facts goal false l
fits_elsewhere m facts goal l true fits = inl fits
fits_elsewhere m facts goal l false fits = fits

-- then no instance has the goal
pub none_elsewhere : (m : Strength) (scope : Scope) (facts : List Lit) (goal : Lit) (rule place at : ℕ) (r : Row) → slice_get table rule ≡ Some r → at < length (clause_of r) → NoneHolds m facts goal r at
    → NoneAt m scope facts goal rule place
none_elsewhere m scope facts goal rule place at r of_table less none args gives =
    let some = some_at (clause_of r) at less in
    let l = some.0 in
    let here = some.1 in
    let of = of_instance rule args r gives.lits of_table gives.instance in
    let is : slice_get gives.lits at ≡ Some (lit_at r args l) = ap (λ (ls : List Lit). slice_get ls at) of.1 ∙ at_map (lit_at r args) (clause_of r) at l here in
    none l here args (fits_elsewhere m facts goal (lit_at r args l) (eqb at place) (fitting m facts gives.lits goal (lit_at r args l) place at gives.here gives.suffice is))

-- nor at this one, where its literal has not the goal's mark
pub none_here : (m : Strength) (scope : Scope) (facts : List Lit) (goal : Lit) (rule place : ℕ) (r : Row) (neg : Bool) (a : Atom) → slice_get table rule ≡ Some r
    → slice_get (clause_of r) place ≡ Some (record { neg = neg; atom = a }) → mark_number (relation_number a) neg ≢ lit_mark goal → NoneAt m scope facts goal rule place
none_here m scope facts goal rule place r neg a of_table here unlike args gives =
    let l : Lit = record { neg = neg; atom = a } in
    let of = of_instance rule args r gives.lits of_table gives.instance in
    let is : slice_get gives.lits place ≡ Some (lit_at r args l) = ap (λ (ls : List Lit). slice_get ls place) of.1 ∙ at_map (lit_at r args) (clause_of r) place l here in
    let same : same_lit (lit_at r args l) goal ≡ true = sym (ap (λ o. option_map_or (λ x. same_lit x goal) o false) is) ∙ gives.here in
    unlike (ap (λ n. mark_number n neg) (sym (relation_at (number args) (line_arg r args) (circle_arg r args) a)) ∙ mark_alike (lit_at r args l) goal same)
