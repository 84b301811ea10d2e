-- What an instance needs: which literals hold, which parts are good, and what is wide.
use Rattle.std.proofs.Common.{◌≡◌, ℕ, zero, suc, ◌<◌, ◌≤◌, List, [], ◌∷◌, refl, sym, ap, ◌∙◌, subst, arith, Bool, true, false, cond, not, ◌||◌, true≢false, eqb, get_or, length, map, take, ◌+◌, ◌++◌, ◌⊎◌, inl, inr, Some, leb-true, eqb-true}
use Rattle.std.specs.Prelude.{slice_get, filter, All, Contains, MatchBool}
use Rattle.std.specs.Option.{option_map_or}
use Rattle.std.specs.List.{list_all, AllZip}
use Rattle.std.proofs.lemmas.List.Elements.{All-head, All-tail, Contains-get_or}
use Rattle.std.proofs.lemmas.Bool.{and_from, or_left, or_right, or_cases}
use Rattle.std.proofs.lemmas.Option.{same_Some, none-some}
use Rattle.std.proofs.lemmas.List.{map-append}
use Rattle.e_literal.specs.declared.object.Obj.{Obj}
use Rattle.e_literal.specs.declared.object.Scope.{Scope}
use Rattle.e_literal.specs.declared.literal.Lit.{Lit}
use Rattle.e_literal.specs.Literal.{negation, is_in_scope, all_in_scope}
use Rattle.e_literal.specs.WellFormed.{is_well_formed}
use Rattle.e_clause.specs.Assignment.{terms_of_lits}
use Rattle.e_clause.specs.LimitedFacts.{is_well_formed_in, are_well_formed_in, are_few, are_limited_facts}
use Rattle.e_literal.specs.Same.{same_lit}
use Rattle.e_literal.specs.Facts.{has, has_all, others, is_metric}
use Rattle.e_literal.proofs.Booleans.{and_left, and_right}
use Rattle.e_clause.specs.declared.cert.Part.{Part}
use Rattle.e_clause.specs.declared.cert.TransferCert.{TransferCert}
use Rattle.e_clause.specs.Instance.{Inst}
use Rattle.e_clause.specs.Metric.{MetricConsequence}
use Rattle.e_clause.specs.RuleKinds.{is_transfer}
use Rattle.e_clause.specs.PartCertificate.{part_certifies, part_in}
use Rattle.e_clause.specs.TransferCertificate.{parts_certify, instance_certifies}
use Rattle.e_clause.specs.Wide.{IsMetricSystem}
use Rattle.e_metric.specs.MetricAnswers.{IsConsequence, IsMetricCertificate}
use Rattle.e_clause.specs.declared.cert.Version.TheVariants as version
use Rattle.e_clause.specs.Versions.{is_part_of}
use Rattle.e_metric.specs.declared.consequence.Consequence.{Consequence}
use Rattle.e_metric.specs.declared.consequence.Consequence.TheVariants as consequence
use Rattle.e_clause.specs.declared.cert.MetricCert.{MetricCert}
use Rattle.e_transfer.specs.declared.query.Strength.{Strength}
use Rattle.e_transfer.specs.declared.query.Strength.TheVariants as strength
use Rattle.e_transfer.specs.declared.walk.Verdict.{Verdict}
use Rattle.e_transfer.specs.declared.walk.Verdict.TheVariants as verdict
use Rattle.e_transfer.specs.GivenGoals.{PartIs, PartsAre, needs_beside, Suffices, is_at, GivesGoal, IsFittingLiteral, IsWideNeed, IsCertifyingPart, AreCertifyingParts, all_diagrams_hold, IsCertifyingTransfer, IsWideTransfer}

-- ---- the literal at a place

of_head : (P : Lit → Type 0) (p : Lit → Bool) (x l : Lit) (xs : List Lit) (b : Bool) → All P (map negation (cond b (x ∷ filter p xs) (filter p xs)))
    → x ≡ l → b ≡ true → P (negation l)
of_head P p x l xs true all is passes = subst (λ y. P (negation y)) is (All-head P (negation x) (map negation (filter p xs)) all)
of_head P p x l xs false all is passes = absurd (true≢false (sym passes))

of_tail : (P : Lit → Type 0) (p : Lit → Bool) (x : Lit) (xs : List Lit) (b : Bool) → All P (map negation (cond b (x ∷ filter p xs) (filter p xs)))
    → All P (map negation (filter p xs))
of_tail P p x xs true all = All-tail P (negation x) (map negation (filter p xs)) all
of_tail P p x xs false all = all

-- what holds of the negations of those that pass holds of that of the literal at the place
each_negation : (P : Lit → Type 0) (p : Lit → Bool) (ls : List Lit) (j : ℕ) (l : Lit) → All P (map negation (filter p ls)) → slice_get ls j ≡ Some l → p l ≡ true
    → P (negation l)
each_negation P p [] j l all at passes = absurd (none-some l at)
each_negation P p (x ∷ xs) zero l all at passes =
    let e = same_Some x l at in of_head P p x l xs (p x) all e (ap p e ∙ passes)
each_negation P p (x ∷ xs) (suc j) l all at passes = each_negation P p xs j l (of_tail P p x xs (p x) all) at passes

at_goal : (ls : List Lit) (place j : ℕ) (goal l : Lit) → is_at ls place goal ≡ true → slice_get ls j ≡ Some l → j ≡ place → same_lit l goal ≡ true
at_goal ls place j goal l here at is =
    let e : slice_get ls place ≡ Some l = ap (slice_get ls) (sym is) ∙ at in
    sym (ap (λ o. option_map_or (λ m. same_lit m goal) o false) e) ∙ here

elsewhere : (m : Strength) (facts ls : List Lit) (goal l : Lit) (j : ℕ) → All (Suffices m facts) (needs_beside ls goal) → slice_get ls j ≡ Some l
    → (b : Bool) → same_lit l goal ≡ b → (same_lit l goal ≡ true) ⊎ Suffices m facts (negation l)
elsewhere m facts ls goal l j all at true e = inl e
elsewhere m facts ls goal l j all at false e = inr (each_negation (Suffices m facts) (λ k. not (same_lit k goal)) ls j l all at (ap not e))

-- each literal of an instance that gives the goal is what it has to be
fitting_by : (m : Strength) (facts ls : List Lit) (goal l : Lit) (place j : ℕ) → is_at ls place goal ≡ true → All (Suffices m facts) (needs_beside ls goal)
    → slice_get ls j ≡ Some l → (b : Bool) → eqb j place ≡ b → IsFittingLiteral m facts goal b l
fitting_by m facts ls goal l place j here all at true e = at_goal ls place j goal l here at (eqb-true j place e)
fitting_by m facts ls goal l place j here all at false e = elsewhere m facts ls goal l j all at (same_lit l goal) refl

pub fitting : (m : Strength) (facts ls : List Lit) (goal l : Lit) (place j : ℕ) → is_at ls place goal ≡ true → All (Suffices m facts) (needs_beside ls goal)
    → slice_get ls j ≡ Some l → IsFittingLiteral m facts goal (eqb j place) l
fitting m facts ls goal l place j here all at = fitting_by m facts ls goal l place j here all at (eqb j place) refl

-- the literal at a place is one of the instance
pub one_at : (ls : List Lit) (place : ℕ) (goal : Lit) → is_at ls place goal ≡ true → has ls goal ≡ true
one_at [] place goal here = here
one_at (l ∷ ls) zero goal here = or_left (same_lit l goal) (has ls goal) here
one_at (l ∷ ls) (suc place) goal here = or_right (same_lit l goal) (has ls goal) (one_at ls place goal here)

-- and one of the instance is at some place
pub some_place : (ls : List Lit) (goal : Lit) → has ls goal ≡ true → (place : ℕ) × (is_at ls place goal ≡ true)
some_place [] goal one = absurd (true≢false (sym one))
some_place (l ∷ ls) goal one = elim (or_cases (same_lit l goal) (has ls goal) one) [
  | inl here ↦ (0, here)
  | inr later ↦ (let p = some_place ls goal later in (suc p.0, p.1))
]

pub place_below : (ls : List Lit) (place : ℕ) (goal : Lit) → is_at ls place goal ≡ true → place < length ls
place_below [] place goal here = absurd (true≢false (sym here))
place_below (l ∷ ls) zero goal here = omega arith
place_below (l ∷ ls) (suc place) goal here = let e = place_below ls place goal here in omega (arith, e)

-- ---- diagram literals

by_kind : (b : Bool) (facts : List Lit) (l : Lit) → MatchBool b (MetricConsequence facts l) (has facts l ≡ true) → (b || has facts l) ≡ true
by_kind true facts l holds = refl
by_kind false facts l holds = holds

pub diagram_holds : (m : Strength) (facts : List Lit) (l : Lit) → Suffices m facts l → (is_metric l || has facts l) ≡ true
diagram_holds strength.Facts facts l enough = or_right (is_metric l) (has facts l) enough
diagram_holds strength.Sums facts l enough = by_kind (is_metric l) facts l enough
diagram_holds strength.NarrowSums facts l enough = elim enough [
  | inl fact ↦ or_right (is_metric l) (has facts l) fact
  | inr (follows, narrow) ↦ or_left (is_metric l) (has facts l) follows.is_metric
]

pub diagrams_of : (m : Strength) (facts ls : List Lit) → All (Suffices m facts) ls → all_diagrams_hold facts ls ≡ true
diagrams_of m facts [] all = refl
diagrams_of m facts (l ∷ ls) all =
    and_from (is_metric l || has facts l) (all_diagrams_hold facts ls) (diagram_holds m facts l (All-head (Suffices m facts) l ls all))
    (diagrams_of m facts ls (All-tail (Suffices m facts) l ls all))

with_diagram : (b : Bool) (facts : List Lit) (l : Lit) (rest : List Lit) → (b || has facts (negation l)) ≡ true → has_all facts (map negation rest) ≡ true
    → has_all facts (map negation (cond (not b) (l ∷ rest) rest)) ≡ true
with_diagram true facts l rest holds all = all
with_diagram false facts l rest holds all = and_from (has facts (negation l)) (has_all facts (map negation rest)) holds all

diagrams_among : (facts ls : List Lit) → all_diagrams_hold facts (map negation ls) ≡ true
    → has_all facts (map negation (filter (λ l. not (is_metric l)) ls)) ≡ true
diagrams_among facts [] all = refl
diagrams_among facts (l ∷ ls) all =
    let a = is_metric (negation l) || has facts (negation l) in
    let b = all_diagrams_hold facts (map negation ls) in
    with_diagram (is_metric l) facts l (filter (λ k. not (is_metric k)) ls) (and_left a b all) (diagrams_among facts ls (and_right a b all))

-- ---- a wide need

negated_at : (ls : List Lit) (k : ℕ) (need : Lit) → k < length (map negation ls) → get_or (map negation ls) k need ≡ need
    → (other : Lit) × Contains ls other × (negation other ≡ need)
negated_at [] k need less is = absurd (omega (arith, less))
negated_at (l ∷ ls) zero need less is = (l, (0, omega arith, refl), is)
negated_at (l ∷ ls) (suc k) need less is =
    let found = negated_at ls k need (omega (arith, less)) is in
    let at = found.1 in
    (found.0, (suc at.0, (let below = at.1 in omega (arith, below)), at.2), found.2)

pub wide_transfer : (scope : Scope) (facts lits : List Lit) (goal : Lit) (rule w : ℕ) (args : List Obj) → is_transfer rule ≡ true → list_all (is_in_scope scope) args ≡ true
    → Inst rule args ≡ Some lits → has lits goal ≡ true → all_diagrams_hold facts (needs_beside lits goal) ≡ true → IsWideNeed facts (needs_beside lits goal) w
    → IsWideTransfer scope facts goal w
wide_transfer scope facts lits goal rule w args transfer over instance one hold wide =
    let at = wide.is_one in
    let found = negated_at (others lits goal) at.0 wide.need at.1 at.2 in
    record {
      rows = wide.too_wide.rows;
      is_system = record {
        lits = lits;
        of = record { rule = rule; is_transfer = transfer; args = args; over_scope = over; instance = instance; is_one = one };
        diagram = diagrams_among facts (others lits goal) hold;
        other = found.0;
        is_other = found.1;
        is_system = subst (λ n. IsMetricSystem facts n wide.too_wide.rows) (sym found.2) (record { is_metric = wide.is_metric; is_one = wide.too_wide.is_one });
      };
      has_width = wide.too_wide.has_width;
    }

-- ---- good parts

parts_good : (scope : Scope) (facts ls : List Lit) (ps : List Part) → AreCertifyingParts scope facts (map negation ls) ps
    → (parts_certify facts ls ps ≡ true) × (list_all (part_in scope) ps ≡ true) × (list_all (is_part_of version.One) ps ≡ true)
parts_good scope facts [] [] good = (refl, refl, refl)
parts_good scope facts [] (p ∷ ps) good = absurd good
parts_good scope facts (l ∷ ls) [] good = absurd good
parts_good scope facts (l ∷ ls) (p ∷ ps) good =
    let here = good.0 in
    let rest = parts_good scope facts ls ps good.1 in (
      and_from (part_certifies facts (negation l) p) (parts_certify facts ls ps) here.certifies rest.0,
      and_from (part_in scope p) (list_all (part_in scope) ps) here.over rest.1,
      and_from (is_part_of version.One p) (list_all (is_part_of version.One) ps) here.written rest.2,
    )

pub good_cert : (scope : Scope) (facts lits : List Lit) (goal : Lit) (cert : TransferCert) → is_transfer cert.rule ≡ true → list_all (is_in_scope scope) cert.args ≡ true
    → Inst cert.rule cert.args ≡ Some lits → has lits goal ≡ true → AreCertifyingParts scope facts (needs_beside lits goal) cert.parts → IsCertifyingTransfer scope facts goal cert
good_cert scope facts lits goal cert transfer over instance one good =
    let parts = parts_good scope facts (others lits goal) cert.parts good in
    record {
      over = and_from (list_all (is_in_scope scope) cert.args) (list_all (part_in scope) cert.parts) over parts.1;
      certifies = and_from (is_transfer cert.rule) (option_map_or (instance_certifies facts goal cert.parts) (Inst cert.rule cert.args) false) transfer
          (ap (λ o. option_map_or (instance_certifies facts goal cert.parts) o false) instance
          ∙ and_from (has lits goal) (parts_certify facts (others lits goal) cert.parts) one parts.0);
      written = parts.2;
    }

-- ---- refusals of one instance

pub same_lits : (rule : ℕ) (args : List Obj) (a b : List Lit) → Inst rule args ≡ Some a → Inst rule args ≡ Some b → a ≡ b
same_lits rule args a b h k = same_Some a b (sym h ∙ k)

pub refused_not_one : (m : Strength) (scope : Scope) (facts : List Lit) (goal : Lit) (rule : ℕ) (args : List Obj) (lits : List Lit) → Inst rule args ≡ Some lits
    → has lits goal ≡ false → (place : ℕ) → GivesGoal m scope facts goal rule place args → ⊥
refused_not_one m scope facts goal rule args lits instance not_one place gives =
    true≢false (sym (one_at gives.lits place goal gives.here) ∙ ap (λ ls. has ls goal) (same_lits rule args gives.lits lits gives.instance instance) ∙ not_one)

pub refused_diagram : (m : Strength) (scope : Scope) (facts : List Lit) (goal : Lit) (rule : ℕ) (args : List Obj) (lits : List Lit) → Inst rule args ≡ Some lits
    → all_diagrams_hold facts (needs_beside lits goal) ≡ false → (place : ℕ) → GivesGoal m scope facts goal rule place args → ⊥
refused_diagram m scope facts goal rule args lits instance fails place gives =
    true≢false (sym (diagrams_of m facts (needs_beside gives.lits goal) gives.suffice)
    ∙ ap (λ ls. all_diagrams_hold facts (needs_beside ls goal)) (same_lits rule args gives.lits lits gives.instance instance) ∙ fails)

-- ---- the needs, literal by literal

with_rest : (b : Bool) (x : Lit) (xs ys zs : List Lit) → zs ≡ xs ++ ys → cond b (x ∷ zs) zs ≡ cond b (x ∷ xs) xs ++ ys
with_rest true x xs ys zs is = ap (λ ls. x ∷ ls) is
with_rest false x xs ys zs is = is

filter_joined : (p : Lit → Bool) (xs ys : List Lit) → filter p (xs ++ ys) ≡ filter p xs ++ filter p ys
filter_joined p [] ys = refl
filter_joined p (x ∷ xs) ys = with_rest (p x) x (filter p xs) (filter p ys) (filter p (xs ++ ys)) (filter_joined p xs ys)

pub needs_joined : (xs ys : List Lit) (goal : Lit) → needs_beside (xs ++ ys) goal ≡ needs_beside xs goal ++ needs_beside ys goal
needs_joined xs ys goal =
    let p = λ (l : Lit). not (same_lit l goal) in
    ap (map negation) (filter_joined p xs ys) ∙ map-append negation (filter p xs) (filter p ys)

one_part_more : (R : Lit → Part → Type 0) (xs : List Lit) (ps : List Part) (i : ℕ) (d : Lit) (p : Part) → i < length xs → AllZip R (take i xs) ps → R (get_or xs i d) p
    → AllZip R (take (suc i) xs) (ps ++ p ∷ [])
one_part_more R [] ps i d p less all here = absurd (omega (arith, less))
one_part_more R (x ∷ xs) [] zero d p less all here = (here, tt)
one_part_more R (x ∷ xs) (q ∷ ps) zero d p less all here = absurd all
one_part_more R (x ∷ xs) [] (suc i) d p less all here = absurd all
one_part_more R (x ∷ xs) (q ∷ ps) (suc i) d p less all here = (all.0, one_part_more R xs ps i d p (omega (arith, less)) all.1 here)

pub map_id : (xs : List Lit) → map (λ x. x) xs ≡ xs
map_id [] = refl
map_id (x ∷ xs) = ap (λ ys. x ∷ ys) (map_id xs)

-- one part more
pub one_more_part : (R : Lit → Part → Type 0) (xs : List Lit) (ps : List Part) (i : ℕ) (d : Lit) (p : Part) → i < length xs → AllZip R (take i xs) ps → R (get_or xs i d) p
    → AllZip R (take (i + 1) xs) (ps ++ p ∷ [])
one_more_part R xs ps i d p less all here =
    let e : suc i ≡ i + 1 = omega arith in subst (λ (n : ℕ). AllZip R (take n xs) (ps ++ p ∷ [])) e (one_part_more R xs ps i d p less all here)

-- ---- good facts

pub facts_few : (s : Scope) (facts : List Lit) → are_limited_facts s facts ≡ true → length (terms_of_lits facts) ≤ 1100
facts_few s facts h = leb-true (length (terms_of_lits facts)) 1100 (and_right (are_well_formed_in s facts) (are_few facts) h)

pub facts_well : (scope : Scope) (facts : List Lit) → are_well_formed_in scope facts ≡ true → list_all is_well_formed facts ≡ true
facts_well scope [] good = refl
facts_well scope (l ∷ ls) good =
    let here = and_left (is_well_formed_in scope l) (are_well_formed_in scope ls) good in
    and_from (is_well_formed l) (list_all is_well_formed ls) (and_right (all_in_scope scope l) (is_well_formed l) here) (facts_well scope ls (and_right (is_well_formed_in scope l) (are_well_formed_in scope ls) good))

pub facts_over : (scope : Scope) (facts : List Lit) → are_well_formed_in scope facts ≡ true → list_all (all_in_scope scope) facts ≡ true
facts_over scope [] good = refl
facts_over scope (l ∷ ls) good =
    let here = and_left (is_well_formed_in scope l) (are_well_formed_in scope ls) good in
    and_from (all_in_scope scope l) (list_all (all_in_scope scope) ls) (and_left (all_in_scope scope l) (is_well_formed l) here) (facts_over scope ls (and_right (is_well_formed_in scope l) (are_well_formed_in scope ls) good))

-- ---- parts, one by one

at_item : (m : Strength) (scope : Scope) (facts ls : List Lit) (i : ℕ) (d : Lit) (v u : Verdict Part) → d ≡ get_or ls i d → v ≡ u → PartIs m scope facts d v
    → PartIs m scope facts (get_or ls i d) u
at_item m scope facts ls i d v u is same claim =
    subst (λ (l : Lit). PartIs m scope facts l u) is (subst (λ (x : Verdict Part). PartIs m scope facts d x) same claim)

pub part_added : (m : Strength) (scope : Scope) (facts ls : List Lit) (ps new : List Part) (i : ℕ) (d : Lit) (v : Verdict Part) (p : Part) → i < length ls → d ≡ get_or ls i d
    → v ≡ verdict.Yes p → PartIs m scope facts d v → new ≡ ps ++ p ∷ [] → AreCertifyingParts scope facts (take i ls) ps → AreCertifyingParts scope facts (take (i + 1) ls) new
part_added m scope facts ls ps new i d v p less is same claim pushed all =
    subst (λ (qs : List Part). AreCertifyingParts scope facts (take (i + 1) ls) qs) (sym pushed)
    (one_more_part (IsCertifyingPart scope facts) ls ps i d p less all (at_item m scope facts ls i d v (verdict.Yes p) is same claim))

pub part_refused : (m : Strength) (scope : Scope) (facts ls : List Lit) (i : ℕ) (d : Lit) (v : Verdict Part) → i < length ls → d ≡ get_or ls i d → v ≡ verdict.No
    → PartIs m scope facts d v → All (Suffices m facts) ls → ⊥
part_refused m scope facts ls i d v less is same claim all = at_item m scope facts ls i d v verdict.No is same claim (all i d less)

pub part_stopped : (m : Strength) (scope : Scope) (facts ls : List Lit) (i : ℕ) (d : Lit) (v : Verdict Part) (w : ℕ) → i < length ls → d ≡ get_or ls i d → v ≡ verdict.TooWide w
    → PartIs m scope facts d v → (m ≡ strength.Sums) × IsWideNeed facts ls w
part_stopped m scope facts ls i d v w less is same claim =
    let wide = at_item m scope facts ls i d v (verdict.TooWide w) is same claim in
    (wide.0, record { need = get_or ls i d; is_one = Contains-get_or ls i d less; is_metric = wide.1; too_wide = wide.2 })

parts_at : (m : Strength) (scope : Scope) (facts ls ms : List Lit) (v u : Verdict (List Part)) → ms ≡ ls → v ≡ u → PartsAre m scope facts ms v → PartsAre m scope facts ls u
parts_at m scope facts ls ms v u is same claim =
    subst (λ (l : List Lit). PartsAre m scope facts l u) is (subst (λ (x : Verdict (List Part)). PartsAre m scope facts ms x) same claim)

pub parts_kept : (m : Strength) (scope : Scope) (facts ls ms : List Lit) (v : Verdict (List Part)) (ps : List Part) → ms ≡ ls → v ≡ verdict.Yes ps → PartsAre m scope facts ms v
    → AreCertifyingParts scope facts ls ps
parts_kept m scope facts ls ms v ps is same claim = parts_at m scope facts ls ms v (verdict.Yes ps) is same claim

pub parts_stopped : (m : Strength) (scope : Scope) (facts ls ms : List Lit) (v : Verdict (List Part)) (w : ℕ) → ms ≡ ls → v ≡ verdict.TooWide w → PartsAre m scope facts ms v
    → (m ≡ strength.Sums) × IsWideNeed facts ls w
parts_stopped m scope facts ls ms v w is same claim = parts_at m scope facts ls ms v (verdict.TooWide w) is same claim

-- ---- the answer on a metric literal

pub answer_yes : (facts : List Lit) (l : Lit) (v : Consequence) (cert : MetricCert) → v ≡ consequence.Yes cert → IsConsequence facts l v → IsMetricCertificate facts (Some l) cert
answer_yes facts l v cert is claim = subst (IsConsequence facts l) is claim
