-- An area that no fact names may be of any size.
use Rattle.std.proofs.Common.{◌≡◌, ◌≢◌, ℕ, zero, suc, ◌+◌, ◌*◌, ◌<◌, ◌≤◌, List, [], ◌∷◌, ◌++◌, refl, sym, ap, ◌∙◌, subst, arith, Bool, true, false, cond, not, ◌&&◌, ◌||◌, true≢false, eqb, eq-eqb, get_or, length, map, take, inl, inr, Option, Some, None}
use Rattle.std.specs.Prelude.{slice_get, IfSome}
use Rattle.std.specs.List.{list_any}
use Rattle.std.proofs.lemmas.Bool.{and_from, or_cases, or_left, or_right, cases_Bool}
use Rattle.std.proofs.lemmas.List.{take_all, map-append}
use Rattle.std.proofs.lemmas.List.Folds.{list_all-append}
use Rattle.e_literal.specs.declared.literal.Atom.TheVariants.{MagEq}
use Rattle.e_literal.specs.declared.literal.Lit.{Lit}
use Rattle.e_literal.specs.declared.object.Mono.{Mono}
use Rattle.e_literal.specs.declared.object.Scope.{Scope}
use Rattle.e_literal.specs.declared.object.Term.{Term}
use Rattle.e_literal.specs.declared.object.Term.TheVariants.{Seg, Ang, Area, Right}
use Rattle.e_literal.specs.Rename.{term_at}
use Rattle.e_literal.specs.Rows.{is_degenerate}
use Rattle.e_literal.specs.Same.{canonical, term_eq}
use Rattle.e_literal.specs.Truth.{all_hold}
use Rattle.e_literal.proofs.Booleans.{and_left, and_right}
use Rattle.e_literal.proofs.Terms.{term_eq_is, equal_terms, among_first, among_rest}
use Rattle.e_clause.specs.Assignment.{terms_of_atom, terms_of_lits}
use Rattle.e_clause.specs.Instance.{number, lit_at, clause_of}
use Rattle.e_clause.specs.Rows.{Row}
use Rattle.e_clause.specs.Table.{table}
use Rattle.e_clause.proofs.Spread.{Agree, all_hold_agrees, all_among}
use Rattle.e_metric.proofs.terms.FirstTerms.{take_one, lits_append}
use Rattle.e_transfer.specs.declared.models.Filling.{Filling}
use Rattle.e_transfer.specs.declared.plan.Plan.{Plan}
use Rattle.e_transfer.specs.declared.query.Strength.{Strength}
use Rattle.e_transfer.specs.Areas.{is_among_areas, are_listed, name_areas_of, ListsAlso, IsFree}
use Rattle.e_transfer.specs.GivenGoals.{IsFittingLiteral}
use Rattle.e_transfer.specs.Marks.{mark_number, lit_mark, is_area_term}
use Rattle.e_transfer.specs.Models.{value_in_list, is_flattened, value_when_canonical, value_by, fits_term, fits_terms, is_model}
use Rattle.e_clause.specs.Metric.{MetricConsequence}
use Rattle.e_clause.specs.Views.{row_of}
use Rattle.e_transfer.specs.declared.numbers.Numbers.{Numbers}
use Rattle.e_transfer.specs.inner.ListedTerms.{later_number, Differ, NeverDiffer, NeverDifferUnseen}
use Rattle.e_transfer.specs.Verdicts.{Excludes}
use Rattle.e_transfer.specs.inner.PartsOfChoices.{arguments_by, chosen_arguments, term_last}
use Rattle.e_transfer.specs.inner.SearchedPlaces.{Wanted, NoneFrom}
use Rattle.e_transfer.proofs.Instances.{of_instance, at_map, number_kept, term_kept}
use Rattle.e_transfer.proofs.MarkedFacts.{mark_alike, sufficient_follows, fits_area, area_at}
use Rattle.e_transfer.proofs.ModelValues.{refuted}
use Rattle.e_transfer.proofs.Needs.{fitting}
use Rattle.e_transfer.proofs.SearchedPlaces.{with_row}

-- ---- another value for one area

-- the values with one more in front
abbrev pub with_one : Term → ℕ → List (Term × ℕ) → List (Term × ℕ)
with_one t x vs = (canonical t, x) ∷ vs

elsewhere : (filling : Filling) (t s : Term) (x : ℕ) (vs : List (Term × ℕ)) → term_eq (canonical s) (canonical t) ≡ false
    → value_by filling (with_one t x vs) s ≡ value_by filling vs s
elsewhere filling t s x vs differs =
    ap (λ b. cond (is_degenerate s) 0 (cond (is_flattened filling (canonical s)) 0 (cond b x (value_in_list filling vs (canonical s))))) differs

not_listed : (t s : Term) (areas : List Term) → is_among_areas areas t ≡ false → is_among_areas areas s ≡ true → term_eq (canonical s) (canonical t) ≡ false
not_listed t s areas free listed = elim (cases_Bool (term_eq (canonical s) (canonical t))) [
  | inl e ↦ absurd (true≢false (sym listed ∙ (ap (λ (k : Term). list_any (λ a. term_eq k a) areas) (term_eq_is (canonical s) (canonical t) e) ∙ free)))
  | inr n ↦ n
]

-- a term that is no area is another one
other_kind : (t s : Term) → is_area_term t ≡ true → is_area_term s ≡ false → term_eq (canonical s) (canonical t) ≡ false
other_kind (Area a b c) (Seg d e) h k = refl
other_kind (Area a b c) (Ang d e f) h k = refl
other_kind (Area a b c) (Area d e f) h k = absurd (true≢false k)
other_kind (Area a b c) Right h k = refl
other_kind t s h k = absurd (true≢false (sym h))

by_area : (b : Bool) (t s : Term) (areas : List Term) → is_area_term s ≡ b → is_area_term t ≡ true → is_among_areas areas t ≡ false → (not b || is_among_areas areas s) ≡ true
    → term_eq (canonical s) (canonical t) ≡ false
by_area true t s areas e area free listed = not_listed t s areas free listed
by_area false t s areas e area free listed = other_kind t s area e

-- the terms of the facts keep their values
facts_agree : (filling : Filling) (facts : List Lit) (areas : List Term) (t : Term) (x : ℕ) (vs : List (Term × ℕ)) → is_area_term t ≡ true → is_among_areas areas t ≡ false
    → name_areas_of areas facts ≡ true → Agree (terms_of_lits facts) (value_by filling vs) (value_by filling (with_one t x vs))
facts_agree filling facts areas t x vs area free named = λ s among.
    let listed = all_among (λ u. not (is_area_term u) || is_among_areas areas u) (terms_of_lits facts) s named among in
    sym (elsewhere filling t s x vs (by_area (is_area_term s) t s areas refl area free listed))

right_agrees : (filling : Filling) (t : Term) (x : ℕ) (vs : List (Term × ℕ)) → is_area_term t ≡ true → value_by filling vs Right ≡ value_by filling (with_one t x vs) Right
right_agrees filling t x vs area = sym (elsewhere filling t Right x vs (other_kind t Right area refl))

fits_alike : (facts : List Lit) (v u : Term → ℕ) (t : Term) → v Right ≡ u Right → v t ≡ u t → fits_term facts v t ≡ fits_term facts u t
fits_alike facts v u (Seg a b) r e = rw e refl
fits_alike facts v u (Ang a b c) r e = rw (e, r) refl
fits_alike facts v u (Area a b c) r e = refl
fits_alike facts v u Right r e = rw e refl

all_fit_alike : (facts : List Lit) (v u : Term → ℕ) (ts : List Term) → v Right ≡ u Right → Agree ts v u → fits_terms facts v ts ≡ true → fits_terms facts u ts ≡ true
all_fit_alike facts v u [] r agree fit = refl
all_fit_alike facts v u (t ∷ ts) r agree fit =
    and_from (fits_term facts u t) (fits_terms facts u ts)
    (sym (fits_alike facts v u t r (agree t (among_first t ts))) ∙ and_left (fits_term facts v t) (fits_terms facts v ts) fit)
    (all_fit_alike facts v u ts r (λ s a. agree s (among_rest t ts s a)) (and_right (fits_term facts v t) (fits_terms facts v ts) fit))

-- values that agree with those of a model on the facts are those of a model
pub model_alike : (facts : List Lit) (v u : Term → ℕ) → v Right ≡ u Right → Agree (terms_of_lits facts) v u → is_model facts v ≡ true → is_model facts u ≡ true
model_alike facts v u r agree model =
    let rest = and_right (fits_term facts v Right) (fits_terms facts v (terms_of_lits facts) && all_hold v facts) model in
    and_from (fits_term facts u Right) (fits_terms facts u (terms_of_lits facts) && all_hold u facts)
    (sym (fits_alike facts v u Right r r) ∙ and_left (fits_term facts v Right) (fits_terms facts v (terms_of_lits facts) && all_hold v facts) model)
    (and_from (fits_terms facts u (terms_of_lits facts)) (all_hold u facts)
    (all_fit_alike facts v u (terms_of_lits facts) r agree (and_left (fits_terms facts v (terms_of_lits facts)) (all_hold v facts) rest))
    (sym (all_hold_agrees facts v u agree) ∙ and_right (fits_terms facts v (terms_of_lits facts)) (all_hold v facts) rest))

-- so they are those of a model with any value for the area
still_model : (filling : Filling) (facts : List Lit) (areas : List Term) (t : Term) (x : ℕ) (vs : List (Term × ℕ)) → is_area_term t ≡ true → is_among_areas areas t ≡ false
    → name_areas_of areas facts ≡ true → is_model facts (value_by filling vs) ≡ true → is_model facts (value_by filling (with_one t x vs)) ≡ true
still_model filling facts areas t x vs area free named model =
    model_alike facts (value_by filling vs) (value_by filling (with_one t x vs)) (right_agrees filling t x vs area) (facts_agree filling facts areas t x vs area free named) model

-- ---- two areas that need not differ

-- the area has the value that it was given, and the other has it too
own_value : (filling : Filling) (t : Term) (x : ℕ) (vs : List (Term × ℕ)) → is_flattened filling (canonical t) ≡ false → is_degenerate t ≡ false
    → value_by filling (with_one t x vs) t ≡ x
own_value filling t x vs unflat whole =
    ap (λ b. cond b 0 (cond (is_flattened filling (canonical t)) 0 (cond (term_eq (canonical t) (canonical t)) x (value_in_list filling vs (canonical t))))) whole
    ∙ (ap (λ b. cond b 0 (cond (term_eq (canonical t) (canonical t)) x (value_in_list filling vs (canonical t)))) unflat
    ∙ ap (λ b. cond b x (value_in_list filling vs (canonical t))) (equal_terms (canonical t) (canonical t) refl))

both_values : (b c : Bool) (x y : ℕ) → c ≡ false → cond b 0 (cond c 0 (cond true (cond b 0 (cond c 0 y)) x)) ≡ cond b 0 (cond c 0 y)
both_values true c x y e = refl
both_values false true x y e = absurd (true≢false e)
both_values false false x y e = refl

other_value : (filling : Filling) (t s : Term) (vs : List (Term × ℕ)) → is_flattened filling (canonical s) ≡ false
    → value_by filling (with_one t (value_by filling vs s) vs) s ≡ value_by filling vs s
other_value filling t s vs unflat = elim (cases_Bool (term_eq (canonical s) (canonical t))) [
  | inl e ↦
      ap (λ b. cond (is_degenerate s) 0 (cond (is_flattened filling (canonical s)) 0 (cond b (value_by filling vs s) (value_in_list filling vs (canonical s))))) e
      ∙ both_values (is_degenerate s) (is_flattened filling (canonical s)) (value_in_list filling vs (canonical s)) (value_in_list filling vs (canonical s)) unflat
  | inr n ↦ elsewhere filling t s (value_by filling vs s) vs n
]

pub equal_fails : (c a b : ℕ) → a ≡ b → not (eqb (c * a + 0) (c * b + 0)) ≡ false
equal_fails c a b e = ap not (eq-eqb (c * a + 0) (c * b + 0) (ap (λ n. c * n + 0) e))

pub is_free_area : (filling : Filling) (facts : List Lit) (areas : List Term) (t : Term) (vs : List (Term × ℕ)) → ((s : Term) → is_flattened filling s ≡ false) → is_area_term t ≡ true
    → is_degenerate t ≡ false → is_among_areas areas t ≡ false → name_areas_of areas facts ≡ true → is_model facts (value_by filling vs) ≡ true → IsFree facts t
is_free_area filling facts areas t vs unflat area whole free named model = λ coeff other second follows.
    let x = value_by filling vs other in
    let u = value_by filling (with_one t x vs) in
    refuted facts (record { neg = true; atom = MagEq (record { coeff = coeff; term = t } ∷ []) (record { coeff = coeff; term = other } ∷ []) })
    (value_when_canonical filling (with_one t x vs)) (still_model filling facts areas t x vs area free named model)
    (and_from (fits_term facts u t) (fits_term facts u other && true) (fits_area facts u t area) (and_from (fits_term facts u other) true (fits_area facts u other second) refl))
    (equal_fails coeff (u t) (u other) (own_value filling t x vs (unflat (canonical t)) whole ∙ sym (other_value filling t other vs (unflat (canonical other)))))
    follows

-- ---- a part of a choice

-- so such an area, which is known, never differs from another
pub free_never_differ : (facts : List Lit) (n : Numbers) (t other : Term) → is_area_term other ≡ true → term_last n.positions.now t < length n.part.now
    → IsFree facts (term_at (number (arguments_by n)) t) → NeverDiffer facts n t other
free_never_differ facts n t other second less free coeff rest follows =
    let one : term_at (later_number n rest) t ≡ term_at (number (arguments_by n)) t =
    term_kept n.positions.now (length n.part.now) (later_number n rest) (number (arguments_by n))
    (λ v below. number_kept (row_of n.row.now) n.positions.now n.part.now rest v below) t less in
    subst (IsFree facts) (sym one) free coeff (term_at (later_number n rest) other) (area_at (later_number n rest) other second) follows

-- a choice is not wanted where the clause says at a place that two terms are equal, and they do not differ
pub unwanted_where_equal : (m : Strength) (scope : Scope) (facts : List Lit) (goal : Lit) (rule place at coeff : ℕ) (plan : Plan) (n : Numbers) (t other : Term) (rest : List ℕ)
    → slice_get table rule ≡ Some (row_of n.row.now) → n.positions.now ≡ plan.positions.items
    → slice_get (clause_of (row_of n.row.now)) at ≡ Some (record { neg = false; atom = MagEq (record { coeff = coeff; term = t } ∷ []) (record { coeff = coeff; term = other } ∷ []) })
    → eqb at place ≡ false → lit_mark goal ≢ mark_number 12 false → (Differ facts n rest coeff t other → ⊥) → Wanted m scope facts goal rule place plan (n.part.now ++ rest) → ⊥
unwanted_where_equal m scope facts goal rule place at coeff plan n t other rest of_table places here apart unlike never wanted =
    let r = row_of n.row.now in
    let with_places = λ (ps : List ℕ). number (chosen_arguments r ps (n.part.now ++ rest)) in
    let all = chosen_arguments r plan.positions.items (n.part.now ++ rest) in
    let both = with_row m scope facts goal rule place plan r (n.part.now ++ rest) of_table wanted in
    let gives = both.1 in
    let of = of_instance rule all r gives.lits of_table gives.instance in
    let l : Lit = record { neg = false; atom = MagEq (record { coeff = coeff; term = t } ∷ []) (record { coeff = coeff; term = other } ∷ []) } in
    let is : slice_get gives.lits at ≡ Some (lit_at r all l) = ap (λ (ls : List Lit). slice_get ls at) of.1 ∙ at_map (lit_at r all) (clause_of r) at l here in
    let fits = subst (λ (b : Bool). IsFittingLiteral m facts goal b (lit_at r all l)) apart (fitting m facts gives.lits goal (lit_at r all l) place at gives.here gives.suffice is) in
    elim fits [
      | inl same ↦ unlike (sym (mark_alike (lit_at r all l) goal same))
      | inr enough ↦
          never
          (subst (λ (ps : List ℕ). MetricConsequence facts (record { neg = true; atom = MagEq (record { coeff = coeff; term = term_at (with_places ps) t } ∷ []) (record { coeff = coeff; term = term_at (with_places ps) other } ∷ []) })) (sym places)
          (sufficient_follows m facts (record { neg = true; atom = MagEq (record { coeff = coeff; term = term_at (number all) t } ∷ []) (record { coeff = coeff; term = term_at (number all) other } ∷ []) }) refl enough))
    ]

-- so none is that begins so, where they never differ
pub none_where_equal : (m : Strength) (scope : Scope) (facts : List Lit) (goal : Lit) (rule place at coeff : ℕ) (plan : Plan) (n : Numbers) (t other : Term)
    → slice_get table rule ≡ Some (row_of n.row.now) → n.positions.now ≡ plan.positions.items
    → slice_get (clause_of (row_of n.row.now)) at ≡ Some (record { neg = false; atom = MagEq (record { coeff = coeff; term = t } ∷ []) (record { coeff = coeff; term = other } ∷ []) })
    → eqb at place ≡ false → lit_mark goal ≢ mark_number 12 false → NeverDiffer facts n t other → NoneFrom m scope facts goal rule place plan n.part.now
none_where_equal m scope facts goal rule place at coeff plan n t other of_table places here apart unlike never = λ rest.
    unwanted_where_equal m scope facts goal rule place at coeff plan n t other rest of_table places here apart unlike (never coeff rest)

-- nor one that goes on with a number that is marked false, where they do not differ with such a one
pub excluded_where_equal : (m : Strength) (scope : Scope) (facts : List Lit) (goal : Lit) (rule place at coeff : ℕ) (plan : Plan) (n : Numbers) (t other : Term) (seen : Option (List Bool))
    → slice_get table rule ≡ Some (row_of n.row.now) → n.positions.now ≡ plan.positions.items
    → slice_get (clause_of (row_of n.row.now)) at ≡ Some (record { neg = false; atom = MagEq (record { coeff = coeff; term = t } ∷ []) (record { coeff = coeff; term = other } ∷ []) })
    → eqb at place ≡ false → lit_mark goal ≢ mark_number 12 false → IfSome seen (NeverDifferUnseen facts n t other) → Excludes (Wanted m scope facts goal rule place plan) n.part.now seen
excluded_where_equal m scope facts goal rule place at coeff plan n t other None of_table places here apart unlike never = λ next out. absurd out
excluded_where_equal m scope facts goal rule place at coeff plan n t other (Some seen) of_table places here apart unlike never = λ next out rest.
    unwanted_where_equal m scope facts goal rule place at coeff plan n t other (next ∷ rest) of_table places here apart unlike (never next out coeff rest)

-- ---- which areas the facts name

listed_more : (areas : List Term) (a t : Term) → is_among_areas areas t ≡ true → is_among_areas (areas ++ a ∷ []) t ≡ true
listed_more [] a t h = absurd (true≢false (sym h))
listed_more (b ∷ bs) a t h = elim (or_cases (term_eq (canonical t) b) (is_among_areas bs t) h) [
  | inl e ↦ or_left (term_eq (canonical t) b) (is_among_areas (bs ++ a ∷ []) t) e
  | inr later ↦ or_right (term_eq (canonical t) b) (is_among_areas (bs ++ a ∷ []) t) (listed_more bs a t later)
]

listed_last : (areas : List Term) (t : Term) → is_among_areas (areas ++ canonical t ∷ []) t ≡ true
listed_last [] t = or_left (term_eq (canonical t) (canonical t)) false (equal_terms (canonical t) (canonical t) refl)
listed_last (b ∷ bs) t = or_right (term_eq (canonical t) b) (is_among_areas (bs ++ canonical t ∷ []) t) (listed_last bs t)

by_kind : (b c d : Bool) → (c ≡ true → d ≡ true) → (not b || c) ≡ true → (not b || d) ≡ true
by_kind true c d h e = h e
by_kind false c d h e = refl

all_listed_more : (areas : List Term) (a : Term) (ts : List Term) → are_listed areas ts ≡ true → are_listed (areas ++ a ∷ []) ts ≡ true
all_listed_more areas a [] h = refl
all_listed_more areas a (t ∷ ts) h =
    let here = not (is_area_term t) || is_among_areas areas t in
    and_from (not (is_area_term t) || is_among_areas (areas ++ a ∷ []) t) (are_listed (areas ++ a ∷ []) ts)
    (by_kind (is_area_term t) (is_among_areas areas t) (is_among_areas (areas ++ a ∷ []) t) (listed_more areas a t) (and_left here (are_listed areas ts) h))
    (all_listed_more areas a ts (and_right here (are_listed areas ts) h))

-- one more is listed
pub also_pushed : (areas new : List Term) (t : Term) → new ≡ areas ++ canonical t ∷ [] → ListsAlso (t ∷ []) areas new
also_pushed areas new t is = record {
  keeps = λ ss h. ap (λ (ts : List Term). are_listed ts ss) is ∙ all_listed_more areas (canonical t) ss h;
  lists = and_from (not (is_area_term t) || is_among_areas new t) true (or_right (not (is_area_term t)) (is_among_areas new t) (ap (λ (ts : List Term). is_among_areas ts t) is ∙ listed_last areas t)) refl;
}

pub also_unlike : (areas : List Term) (t : Term) → is_area_term t ≡ false → ListsAlso (t ∷ []) areas areas
also_unlike areas t unlike = record {
  keeps = λ ss h. h;
  lists = and_from (not (is_area_term t) || is_among_areas areas t) true (or_left (not (is_area_term t)) (is_among_areas areas t) (ap not unlike)) refl;
}

pub also_none : (areas : List Term) → ListsAlso [] areas areas
also_none areas = record { keeps = λ ss h. h; lists = refl }

pub also_both : (ts us : List Term) (old mid new : List Term) → ListsAlso ts old mid → ListsAlso us mid new → ListsAlso (ts ++ us) old new
also_both ts us old mid new a b = record {
  keeps = λ ss h. b.keeps ss (a.keeps ss h);
  lists = list_all-append (λ t. not (is_area_term t) || is_among_areas new t) ts us ∙ and_from (are_listed new ts) (are_listed new us) (b.keeps ts a.lists) b.lists;
}

one_taken : (sum : List Mono) (i : ℕ) (d : Mono) → i < length sum → take (suc i) sum ≡ take i sum ++ get_or sum i d ∷ []
one_taken [] i d less = absurd (omega (arith, less))
one_taken (m ∷ ms) zero d less = refl
one_taken (m ∷ ms) (suc i) d less = ap (λ ns. m ∷ ns) (one_taken ms i d (omega (arith, less)))

-- term by term
pub also_next_term : (sum : List Mono) (i : ℕ) (m : Mono) (old mid new : List Term) → i < length sum → m ≡ get_or sum i m
    → ListsAlso (map (λ n. n.term) (take i sum)) old mid → ListsAlso (m.term ∷ []) mid new → ListsAlso (map (λ n. n.term) (take (i + 1) sum)) old new
also_next_term sum i m old mid new less is before here =
    let more : suc i ≡ i + 1 = omega arith in
    let taken : take (i + 1) sum ≡ take i sum ++ m ∷ [] =
    ap (λ k. take k sum) (sym more) ∙ one_taken sum i m less ∙ ap (λ n. take i sum ++ n ∷ []) (sym is) in
    subst (λ (ts : List Term). ListsAlso ts old new) (sym (ap (map (λ (n : Mono). n.term)) taken ∙ map-append (λ (n : Mono). n.term) (take i sum) (m ∷ [])))
    (also_both (map (λ (n : Mono). n.term) (take i sum)) (m.term ∷ []) old mid new before here)

pub also_whole_sum : (sum : List Mono) (i : ℕ) (old new : List Term) → length sum ≤ i → ListsAlso (map (λ n. n.term) (take i sum)) old new
    → ListsAlso (map (λ n. n.term) sum) old new
also_whole_sum sum i old new most lists = subst (λ (ms : List Mono). ListsAlso (map (λ n. n.term) ms) old new) (take_all i sum most) lists

pub also_sums : (x y : List Mono) (old mid new : List Term) → ListsAlso (map (λ n. n.term) x) old mid → ListsAlso (map (λ n. n.term) y) mid new
    → ListsAlso (map (λ n. n.term) (x ++ y)) old new
also_sums x y old mid new a b =
    subst (λ (ts : List Term). ListsAlso ts old new) (sym (map-append (λ (n : Mono). n.term) x y))
    (also_both (map (λ (n : Mono). n.term) x) (map (λ (n : Mono). n.term) y) old mid new a b)

-- fact by fact
pub also_next_fact : (facts : List Lit) (i : ℕ) (fact : Lit) (old mid new : List Term) → slice_get facts i ≡ Some fact → ListsAlso (terms_of_lits (take i facts)) old mid
    → ListsAlso (terms_of_atom fact.atom) mid new → ListsAlso (terms_of_lits (take (i + 1) facts)) old new
also_next_fact facts i fact old mid new is before here =
    subst (λ (ts : List Term). ListsAlso ts old new) (sym (ap terms_of_lits (take_one facts i fact is) ∙ lits_append (take i facts) (fact ∷ [])))
    (also_both (terms_of_lits (take i facts)) (terms_of_atom fact.atom ++ []) old mid new before (also_both (terms_of_atom fact.atom) [] mid new new here (also_none new)))

pub all_facts_listed : (facts : List Lit) (i : ℕ) (areas : List Term) → length facts ≤ i → ListsAlso (terms_of_lits (take i facts)) [] areas → name_areas_of areas facts ≡ true
all_facts_listed facts i areas most lists = ap (λ ls. are_listed areas (terms_of_lits ls)) (sym (take_all i facts most)) ∙ lists.lists
