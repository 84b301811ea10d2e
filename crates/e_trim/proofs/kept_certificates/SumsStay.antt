-- Sums refute after the kept steps alone what they refuted.
use Rattle.std.proofs.Common.{◌≡◌, List, [], ◌∷◌, map, length, refl, sym, ap, ◌∙◌, subst, Bool, true, false, ◌&&◌, cond, true≢false, inl, ℤ, Option, Some, None}
use Rattle.std.specs.Prelude.{pos, negsuc, option_and_then}
use Rattle.std.specs.Option.{option_map, option_map_or}
use Rattle.std.specs.List.{list_all}
use Rattle.std.proofs.lemmas.Bool.{and_parts, and_from}
use Rattle.std.proofs.lemmas.List.{length-map}
use Rattle.e_literal.specs.declared.object.Obj.{Obj}
use Rattle.e_literal.specs.declared.object.Term.{Term}
use Rattle.e_literal.specs.declared.object.Term.TheVariants.{Seg, Ang, Right}
use Rattle.e_literal.specs.declared.object.Sort.TheVariants.{Point}
use Rattle.e_literal.specs.declared.literal.Lit.{Lit}
use Rattle.e_literal.specs.Literal.{negation, objects_of_term}
use Rattle.e_literal.specs.Rename.{term_at}
use Rattle.e_literal.specs.Facts.{has, are_apart}
use Rattle.e_literal.specs.Rows.{Row, Sense, Zero, AtLeast, More, Not, times, negative, row_of_lit}
use Rattle.e_literal.specs.Absurd.{Weighed, is_absurd}
use Rattle.e_clause.specs.declared.cert.RowName.{RowName}
use Rattle.e_clause.specs.declared.cert.RowName.TheVariants.{Fact, Goal, Pos, Top, Right as RightRow, Least, Above, Below, FactAt}
use Rattle.e_clause.specs.declared.cert.Sums.{Sums}
use Rattle.e_clause.specs.declared.cert.Sums.TheVariants.{One, Two}
use Rattle.e_clause.specs.declared.cert.Version.TheVariants as version
use Rattle.e_clause.specs.Versions.{is_name_of, is_sum_of, are_sums_of}
use Rattle.e_clause.specs.System.{pos_row, top_row, right_row, least_row}
use Rattle.e_clause.specs.Sum.{RowScope, is_step_term, fact_row, goal_row, says_differ, unless_not, row_named, weighed_rows, is_nonzero_bounded, is_limited_sum, refutes}
use Rattle.e_clause.specs.MetricCertificate.{differing_of, differing_row, above_row, below_row, both_refute, sums_refute}
use Rattle.e_trim.specs.Looked.{Wants, both, wanted_lits, first_that, parts_ends, of_term, of_row, of_sum, of_sums}
use Rattle.e_trim.specs.Trimmed as trimmed
use Rattle.e_trim.specs.Trimmed.{kept_before, lit_among_kept, sum_at, sums_at}
use Rattle.e_trim.proofs.renumbering.Members.{in_left, in_right}
use Rattle.e_trim.proofs.renumbering.Counting.{OfSort, keeps}
use Rattle.e_trim.proofs.renumbering.FormsAt.{OverForm, OverRows, weighed_at, negative_at}
use Rattle.e_trim.proofs.renumbering.AbsurdSums.{absurd_stays}
use Rattle.e_trim.proofs.renumbering.RowsAt.{moved, OverRow, Moves, over_negative, over_normal, row_moves, lit_moves}
use Rattle.e_trim.proofs.renumbering.LitsAt.{AllKept, OverLit, over_term}
use Rattle.e_trim.proofs.kept_certificates.Staying.{Stays, still_has}
use Rattle.e_trim.proofs.kept_certificates.TermsStay.{Covered, wanted_at, stands, term_stays, apart_stays}

some_is : {X : Type 0} (x y : X) → Some x ≡ Some y → x ≡ y
some_is x y e = cc

none_some : {X P : Type 0} (x : X) → None ≡ Some x → P
none_some x e = absurd cc

-- what the first of two wants covers
pub cover_left : (kept : List Obj) (looked : List Lit) (v w : Wants) → Covered kept looked (both v w) → Covered kept looked v
cover_left kept looked v w c = record { lits = λ l i. c.lits l (in_left l v.lits w.lits i); objects = λ o i. c.objects o (in_left o v.objects w.objects i) }

pub cover_right : (kept : List Obj) (looked : List Lit) (v w : Wants) → Covered kept looked (both v w) → Covered kept looked w
cover_right kept looked v w c = record { lits = λ l i. c.lits l (in_right l v.lits w.lits i); objects = λ o i. c.objects o (in_right o v.objects w.objects i) }

-- ---- one row

-- what the names of rows are read at, before and now
pub record Placed (kept : List Obj) (looked : List Lit) (p now : RowScope) : Type 0 where
  pub stays : Stays kept p.facts now.facts looked
  pub wanted : now.wanted ≡ wanted_at kept p.wanted
  pub goal : (l : Lit) → p.wanted ≡ Some l → OverLit kept l
  pub above : Moves kept p.above now.above
  pub below : Moves kept p.below now.below

says_step : (b : Bool) (x y : Row) → cond b None (Some x) ≡ Some y → (b ≡ false) × (x ≡ y)
says_step true x y e = none_some y e
says_step false x y e = (refl, some_is x y e)

-- a row that says that its form is not 0 takes part in no sum by itself, before or now
unless_moves : (kept : List Obj) (r now : Option Row) → Moves kept r now → Moves kept (unless_not r) (unless_not now)
unless_moves kept None now h x e = none_some x e
unless_moves kept (Some r) now h x e =
    let s = says_step (says_differ r.sense) r x e in
    let m = h r refl in (
      ap unless_not m.0 ∙ ap (λ b. cond b None (Some (moved kept r))) s.0 ∙ ap (λ y. Some (moved kept y)) s.1,
      subst (OverRow kept) s.1 m.1,
    )

if_some : (b : Bool) (o : Option Row) (x : Row) → cond b o None ≡ Some x → (b ≡ true) × (o ≡ Some x)
if_some true o x e = (refl, e)
if_some false o x e = none_some x e

fact_moves : (kept : List Obj) (facts now looked : List Lit) (l : Lit) → Stays kept facts now looked → has looked l ≡ true → OverLit kept l → Moves kept (fact_row facts l) (fact_row now (lit_among_kept kept l))
fact_moves kept facts now looked l st up o x e =
    let s = if_some (has facts l) (row_of_lit l) x e in
    let m = lit_moves kept l o x s.1 in
    (ap (λ b. cond b (row_of_lit (lit_among_kept kept l)) None) (still_has kept facts now looked l st up o s.0) ∙ m.0, m.1)

goal_moves : (kept : List Obj) (wanted : Option Lit) → ((l : Lit) → wanted ≡ Some l → OverLit kept l) → Moves kept (goal_row wanted) (goal_row (wanted_at kept wanted))
goal_moves kept None h x e = none_some x e
goal_moves kept (Some l) h x e = lit_moves kept (negation l) (h l refl) x e

-- the row of one term
term_row : (kept : List Obj) (sense : Sense) (t : Term) (n : ℤ) → AllKept kept (objects_of_term t) → Rattle.e_literal.specs.Rows.row sense (times n (term_at (kept_before kept Point) t) ∷ []) ≡ moved kept (Rattle.e_literal.specs.Rows.row sense (times n t ∷ []))
term_row kept sense t n o = row_moves kept sense (times n t ∷ []) (over_term kept t o, tt)

over_term_row : (kept : List Obj) (t : Term) (n : ℤ) → AllKept kept (objects_of_term t) → OverForm (OfSort kept Point) (Rattle.e_literal.specs.Rows.normal_summands (times n t ∷ []))
over_term_row kept t n o = over_normal (OfSort kept Point) (times n t ∷ []) (over_term kept t o, tt)

least_moves : (kept : List Obj) (looked : List Lit) (p now : RowScope) (t : Term) → Placed kept looked p now → Covered kept looked (of_term p.facts p.wanted t) → Moves kept (row_named p (Least t)) (row_named now (Least (term_at (kept_before kept Point) t)))
least_moves kept looked p now t pl c x e =
    let s = if_some (is_step_term p t) (Some (least_row t)) x e in
    let here = subst (λ w. stands now.facts w (term_at (kept_before kept Point) t) ≡ true) (sym pl.wanted) (term_stays kept p.facts now.facts looked p.wanted t pl.stays c s.0) in
    let is = some_is (least_row t) x s.1 in (
      ap (λ b. cond b (Some (least_row (term_at (kept_before kept Point) t))) None) here ∙ ap Some (term_row kept AtLeast t (pos 1) c.objects ∙ ap (moved kept) is),
      subst (OverRow kept) is (over_term_row kept t (pos 1) c.objects),
    )

-- two right angles less the angle
top_row_moves : (kept : List Obj) (t : Term) → AllKept kept (objects_of_term t) → top_row (term_at (kept_before kept Point) t) ≡ moved kept (top_row t)
top_row_moves kept t o = row_moves kept AtLeast (times (pos 2) Right ∷ times (negsuc 0) t ∷ []) (tt, (over_term kept t o, tt))

over_top_row : (kept : List Obj) (t : Term) → AllKept kept (objects_of_term t) → OverRow kept (top_row t)
over_top_row kept t o = over_normal (OfSort kept Point) (times (pos 2) Right ∷ times (negsuc 0) t ∷ []) (tt, (over_term kept t o, tt))

top_moves : (kept : List Obj) (looked : List Lit) (p now : RowScope) (t : Term) → Placed kept looked p now → Covered kept looked (of_term p.facts p.wanted t) → Moves kept (row_named p (Top t)) (row_named now (Top (term_at (kept_before kept Point) t)))
top_moves kept looked p now (Ang a b d) pl c x e =
    let t = Ang a b d in
    let s = if_some (is_step_term p t) (Some (top_row t)) x e in
    let here = subst (λ w. stands now.facts w (term_at (kept_before kept Point) t) ≡ true) (sym pl.wanted) (term_stays kept p.facts now.facts looked p.wanted t pl.stays c s.0) in
    let is = some_is (top_row t) x s.1 in (
      ap (λ b. cond b (Some (top_row (term_at (kept_before kept Point) t))) None) here ∙ ap Some (top_row_moves kept t c.objects ∙ ap (moved kept) is),
      subst (OverRow kept) is (over_top_row kept t c.objects),
    )
top_moves kept looked p now t pl c x e = none_some x e

pos_moves : (kept : List Obj) (looked : List Lit) (p now : RowScope) (t : Term) → Placed kept looked p now → Covered kept looked (both (wanted_lits (first_that (parts_ends t) p.facts)) (of_term p.facts p.wanted t))
    → Moves kept (row_named p (Pos t)) (row_named now (Pos (term_at (kept_before kept Point) t)))
pos_moves kept looked p now (Seg a b) pl c x e =
    let t = Seg a b in
    let own = cover_right kept looked (wanted_lits (first_that (parts_ends t) p.facts)) (of_term p.facts p.wanted t) c in
    let parted = cover_left kept looked (wanted_lits (first_that (parts_ends t) p.facts)) (of_term p.facts p.wanted t) c in
    let s = if_some (is_step_term p t && are_apart p.facts a b) (Some (pos_row t)) x e in
    let q = and_parts (is_step_term p t) (are_apart p.facts a b) s.0 in
    let here = subst (λ w. stands now.facts w (term_at (kept_before kept Point) t) ≡ true) (sym pl.wanted) (term_stays kept p.facts now.facts looked p.wanted t pl.stays own q.0) in
    let apart = apart_stays kept p.facts now.facts looked a b pl.stays parted.lits own.objects q.1 in
    let is = some_is (pos_row t) x s.1 in (
      ap (λ b. cond b (Some (pos_row (term_at (kept_before kept Point) t))) None) (and_from (is_step_term now (term_at (kept_before kept Point) t)) (are_apart now.facts (kept_before kept Point a) (kept_before kept Point b)) here apart)
          ∙ ap Some (term_row kept More t (pos 1) own.objects ∙ ap (moved kept) is),
      subst (OverRow kept) is (over_term_row kept t (pos 1) own.objects),
    )
pos_moves kept looked p now t pl c x e = none_some x e

-- a row that may be used may be used still
pub name_moves : (kept : List Obj) (looked : List Lit) (p now : RowScope) (name : RowName) → is_name_of version.One name ≡ true → Placed kept looked p now → Covered kept looked (of_row p.facts p.wanted name) → Moves kept (row_named p name) (row_named now (trimmed.row_name_among_kept kept name))
name_moves kept looked p now (Fact l) v pl c = unless_moves kept (fact_row p.facts l) (fact_row now.facts (lit_among_kept kept l)) (fact_moves kept p.facts now.facts looked l pl.stays (c.lits l (inl refl)) c.objects)
name_moves kept looked p now Goal v pl c =
    unless_moves kept (goal_row p.wanted) (goal_row now.wanted) (subst (λ w. Moves kept (goal_row p.wanted) (goal_row w)) (sym pl.wanted) (goal_moves kept p.wanted pl.goal))
name_moves kept looked p now (Pos t) v pl c = pos_moves kept looked p now t pl c
name_moves kept looked p now (Top t) v pl c = top_moves kept looked p now t pl c
name_moves kept looked p now RightRow v pl c = λ x e. let is = some_is right_row x e in (ap (λ r. Some (moved kept r)) is, subst (OverRow kept) is (tt, tt))
name_moves kept looked p now (Least t) v pl c = least_moves kept looked p now t pl c
name_moves kept looked p now Above v pl c = pl.above
name_moves kept looked p now Below v pl c = pl.below
name_moves kept looked p now (FactAt k) v pl c = absurd (true≢false (sym v))

-- ---- a sum

abbrev weigh : List Obj → List Weighed → List Weighed
weigh kept ws = map (weighed_at (kept_before kept Point) (OfSort kept Point) (keeps kept)) ws

abbrev OverAll : List Obj → List Weighed → Type 0
OverAll kept ws = OverRows (kept_before kept Point) (OfSort kept Point) (keeps kept) ws

and_then_is : {X Y : Type 0} (f : X → Option Y) (o : Option X) (y : Y) → option_and_then f o ≡ Some y → (x : X) × (o ≡ Some x) × (f x ≡ Some y)
and_then_is f None y e = none_some y e
and_then_is f (Some x) y e = (x, refl, e)

map_is : {X Y : Type 0} (f : X → Y) (o : Option X) (y : Y) → option_map f o ≡ Some y → (x : X) × (o ≡ Some x) × (f x ≡ y)
map_is f None y e = none_some y e
map_is f (Some x) y e = (x, refl, some_is (f x) y e)

rows_move : (kept : List Obj) (looked : List Lit) (p now : RowScope) (xs : List (ℤ × RowName)) → is_sum_of version.One xs ≡ true → Placed kept looked p now → Covered kept looked (of_sum p.facts p.wanted xs)
    → (ws : List Weighed) → weighed_rows p xs ≡ Some ws → (weighed_rows now (sum_at kept xs) ≡ Some (weigh kept ws)) × OverAll kept ws
rows_move kept looked p now [] v pl c ws e = let is = some_is [] ws e in (ap (λ v. Some (weigh kept v)) is, subst (OverAll kept) is tt)
rows_move kept looked p now (x ∷ xs) v pl c ws e =
    let one = and_parts (is_name_of version.One x.1) (is_sum_of version.One xs) v in
    let head = cover_left kept looked (of_row p.facts p.wanted x.1) (of_sum p.facts p.wanted xs) c in
    let tail = cover_right kept looked (of_row p.facts p.wanted x.1) (of_sum p.facts p.wanted xs) c in
    let a = and_then_is (λ r. option_map (λ rs. record { multiplier = x.0; row = r } ∷ rs) (weighed_rows p xs)) (row_named p x.1) ws e in
    let b = map_is (λ (rs : List Weighed). record { multiplier = x.0; row = a.0 } ∷ rs) (weighed_rows p xs) ws a.2 in
    let m = name_moves kept looked p now x.1 one.0 pl head a.0 a.1 in
    let n = rows_move kept looked p now xs one.1 pl tail b.0 b.1 in (
      ap (λ o. option_and_then (λ r. option_map (λ rs. record { multiplier = x.0; row = r } ∷ rs) (weighed_rows now (sum_at kept xs))) o) m.0
          ∙ ap (λ o. option_map (λ rs. record { multiplier = x.0; row = moved kept a.0 } ∷ rs) o) n.0 ∙ ap (λ v. Some (weigh kept v)) b.2,
      subst (OverAll kept) b.2 (m.1, n.1),
    )

good_multipliers : (kept : List Obj) (xs : List (ℤ × RowName)) → list_all (λ (x : ℤ × RowName). is_nonzero_bounded x.0) (sum_at kept xs) ≡ list_all (λ (x : ℤ × RowName). is_nonzero_bounded x.0) xs
good_multipliers kept [] = refl
good_multipliers kept (x ∷ xs) = ap (λ b. is_nonzero_bounded x.0 && b) (good_multipliers kept xs)

abbrev moved_row : List Obj → ℤ × RowName → ℤ × RowName
moved_row kept x = (x.0, trimmed.row_name_among_kept kept x.1)

pub size_stays : (kept : List Obj) (xs : List (ℤ × RowName)) → is_limited_sum (sum_at kept xs) ≡ is_limited_sum xs
size_stays kept xs =
    let n : length (sum_at kept xs) ≡ length xs = length-map xs (moved_row kept) in
    let m = good_multipliers kept xs in
    rw (n, m) refl

map_or_is : {X : Type 0} (f : X → Bool) (o : Option X) → option_map_or f o false ≡ true → (x : X) × (o ≡ Some x) × (f x ≡ true)
map_or_is f None e = absurd (true≢false (sym e))
map_or_is f (Some x) e = (x, refl, e)

pub refutes_still : (kept : List Obj) (looked : List Lit) (p now : RowScope) (xs : List (ℤ × RowName)) → is_sum_of version.One xs ≡ true → Placed kept looked p now → Covered kept looked (of_sum p.facts p.wanted xs)
    → refutes p xs ≡ true → refutes now (sum_at kept xs) ≡ true
refutes_still kept looked p now xs v pl c h =
    let q = and_parts (is_limited_sum xs) (option_map_or is_absurd (weighed_rows p xs) false) h in
    let a = map_or_is is_absurd (weighed_rows p xs) q.1 in
    let m = rows_move kept looked p now xs v pl c a.0 a.1 in
    and_from (is_limited_sum (sum_at kept xs)) (option_map_or is_absurd (weighed_rows now (sum_at kept xs)) false) (size_stays kept xs ∙ q.0)
    (ap (λ o. option_map_or is_absurd o false) m.0 ∙ absurd_stays (kept_before kept Point) (OfSort kept Point) (keeps kept) a.0 m.1 ∙ a.2)

-- ---- two sums

no_row : (kept : List Obj) → Moves kept None None
no_row kept x e = none_some x e

differs_step : (b : Bool) (r x : Row) → cond b (Some r) None ≡ Some x → (b ≡ true) × (r ≡ x)
differs_step true r x e = (refl, some_is r x e)
differs_step false r x e = none_some x e

differing_of_moves : (kept : List Obj) (facts now looked : List Lit) (wanted : Option Lit) (name : RowName) → is_name_of version.One name ≡ true → Stays kept facts now looked → ((l : Lit) → wanted ≡ Some l → OverLit kept l)
    → Covered kept looked (of_row facts wanted name) → Moves kept (differing_of facts wanted name) (differing_of now (wanted_at kept wanted) (trimmed.row_name_among_kept kept name))
differing_of_moves kept facts now looked wanted (Fact l) v st g c = fact_moves kept facts now looked l st (c.lits l (inl refl)) c.objects
differing_of_moves kept facts now looked wanted Goal v st g c = goal_moves kept wanted g
differing_of_moves kept facts now looked wanted (FactAt k) v st g c = absurd (true≢false (sym v))
differing_of_moves kept facts now looked wanted name v st g c = λ x e. none_some x e

differing_moves : (kept : List Obj) (facts now looked : List Lit) (wanted : Option Lit) (name : RowName) → is_name_of version.One name ≡ true → Stays kept facts now looked → ((l : Lit) → wanted ≡ Some l → OverLit kept l)
    → Covered kept looked (of_row facts wanted name) → Moves kept (differing_row facts wanted name) (differing_row now (wanted_at kept wanted) (trimmed.row_name_among_kept kept name))
differing_moves kept facts now looked wanted name v st g c x e =
    let a = and_then_is (λ (r : Row). cond (says_differ r.sense) (Some r) None) (differing_of facts wanted name) x e in
    let s = differs_step (says_differ a.0.sense) a.0 x a.2 in
    let m = differing_of_moves kept facts now looked wanted name v st g c a.0 a.1 in (
      ap (λ o. option_and_then (λ (r : Row). cond (says_differ r.sense) (Some r) None) o) m.0 ∙ ap (λ b. cond b (Some (moved kept a.0)) None) s.0 ∙ ap (λ r. Some (moved kept r)) s.1,
      subst (OverRow kept) s.1 m.1,
    )

above_moves : (kept : List Obj) (r : Row) → OverRow kept r → Moves kept (Some (above_row r)) (Some (above_row (moved kept r)))
above_moves kept r o x e = let is = some_is (above_row r) x e in (ap (λ y. Some (moved kept y)) is, subst (OverRow kept) is o)

below_moves : (kept : List Obj) (r : Row) → OverRow kept r → Moves kept (Some (below_row r)) (Some (below_row (moved kept r)))
below_moves kept r o x e =
    let is = some_is (below_row r) x e in (
      ap (λ f. Some (record { sense = More; form = f })) (negative_at (kept_before kept Point) r.form) ∙ ap (λ y. Some (moved kept y)) is,
      subst (OverRow kept) is (over_negative (OfSort kept Point) r.form o),
    )

abbrev place : List Lit → Option Lit → Option Row → Option Row → RowScope
place facts wanted above below = record { facts = facts; wanted = wanted; above = above; below = below }

-- ---- the sums of a certificate

pub sums_stay : (kept : List Obj) (facts now looked : List Lit) (wanted : Option Lit) (sums : Sums) → are_sums_of version.One sums ≡ true → Stays kept facts now looked → ((l : Lit) → wanted ≡ Some l → OverLit kept l)
    → Covered kept looked (of_sums facts wanted sums) → sums_refute facts wanted sums ≡ true → sums_refute now (wanted_at kept wanted) (sums_at kept sums) ≡ true
sums_stay kept facts now looked wanted (One sum) v st g c h =
    refutes_still kept looked (place facts wanted None None) (place now (wanted_at kept wanted) None None) sum v
    (record { stays = st; wanted = refl; goal = g; above = no_row kept; below = no_row kept }) c h
sums_stay kept facts now looked wanted (Two differs first second) v st g c h =
    let named = and_parts (is_name_of version.One differs) (is_sum_of version.One first && is_sum_of version.One second) v in
    let summed = and_parts (is_sum_of version.One first) (is_sum_of version.One second) named.1 in
    let own = cover_left kept looked (of_row facts wanted differs) (both (of_sum facts wanted first) (of_sum facts wanted second)) c in
    let sums = cover_right kept looked (of_row facts wanted differs) (both (of_sum facts wanted first) (of_sum facts wanted second)) c in
    let one = cover_left kept looked (of_sum facts wanted first) (of_sum facts wanted second) sums in
    let other = cover_right kept looked (of_sum facts wanted first) (of_sum facts wanted second) sums in
    let a = map_or_is (λ r. both_refute facts wanted r first second) (differing_row facts wanted differs) h in
    let m = differing_moves kept facts now looked wanted differs named.0 st g own a.0 a.1 in
    let r = a.0 in
    let p = place facts wanted (Some (above_row r)) None in
    let q = place facts wanted None (Some (below_row r)) in
    let p' = place now (wanted_at kept wanted) (Some (above_row (moved kept r))) None in
    let q' = place now (wanted_at kept wanted) None (Some (below_row (moved kept r))) in
    let b = and_parts (refutes p first) (refutes q second) a.2 in
    ap (λ o. option_map_or (λ x. both_refute now (wanted_at kept wanted) x (sum_at kept first) (sum_at kept second)) o false) m.0
    ∙ and_from (refutes p' (sum_at kept first)) (refutes q' (sum_at kept second))
    (refutes_still kept looked p p' first summed.0 (record { stays = st; wanted = refl; goal = g; above = above_moves kept r m.1; below = no_row kept }) one b.0)
    (refutes_still kept looked q q' second summed.1 (record { stays = st; wanted = refl; goal = g; above = no_row kept; below = below_moves kept r m.1 }) other b.1)
