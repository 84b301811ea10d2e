-- The goal of a block, and its close, after the kept steps alone.
use Rattle.std.proofs.Common.{◌≡◌, ℕ, ◌+◌, ◌<◌, ◌≤◌, List, [], ◌∷◌, ◌++◌, map, refl, sym, ap, ◌∙◌, subst, arith, true, ◌&&◌, ltb, true≢false, inl, inr, ◌⊎◌, Option, Some, None}
use Rattle.std.specs.Prelude.{is_some}
use Rattle.std.specs.Option.{option_map, option_map_or}
use Rattle.std.specs.List.{list_all}
use Rattle.std.proofs.lemmas.Bool.{and_parts, and_from, cases_lt, cases_Bool, ltb-true}
use Rattle.std.proofs.lemmas.List.{append-nil}
use Rattle.e_literal.specs.declared.object.Obj.{Obj}
use Rattle.e_literal.specs.declared.object.Scope.{Scope}
use Rattle.e_literal.specs.declared.object.Sort.{Sort}
use Rattle.e_literal.specs.declared.literal.Lit.{Lit}
use Rattle.e_literal.specs.Literal.{obj, count_of, is_in_scope, all_in_scope, objects_of_atom}
use Rattle.e_literal.specs.Scopes.{same_sort, nothing, with_one, with_sorts, next_objects, are_of_sorts}
use Rattle.e_literal.specs.Rename.{with_images, number_at, image_in, pairs_of}
use Rattle.e_literal.specs.WellFormed.{is_well_formed}
use Rattle.e_literal.specs.Use.{StatementView, scope_of, is_statement}
use Rattle.e_literal.proofs.GrownScopes.{counts_nothing}
use Rattle.e_theorem.proofs.Imaging.{counted_here, counted_other}
use Rattle.e_clause.specs.declared.cert.Cert.{Cert}
use Rattle.e_clause.specs.declared.cert.Version.TheVariants as version
use Rattle.e_clause.specs.Versions.{is_cert_of}
use Rattle.e_clause.specs.Certify.{certify_all}
use Rattle.e_deriv.specs.Script.{Qed}
use Rattle.e_deriv.specs.Goal.{Goal, goal_of, goal_of_statement, are_for, goal_with}
use Rattle.e_deriv.specs.PlacedSteps.{placed_steps}
use Rattle.e_deriv.specs.Certified.{is_certified}
use Rattle.e_trim.specs.Looked.{no_wants, both, wanted_objects, of_step, of_certs}
use Rattle.e_trim.specs.Trimmed.{is_lesser_of_sort, kept_before, obj_at, lit_among_kept, cert_at, as_step, wants, trimmed_from, declared_of}
use Rattle.e_trim.proofs.renumbering.Members.{In, in_left, all_in}
use Rattle.e_trim.proofs.renumbering.Counting.{scope_kept, is_one, is_none, none_less, number_stays, next_above, less_from, not_less}
use Rattle.e_trim.proofs.renumbering.MovedLits.{atom_by, own_atom, moved_atom, same_atom_by, object_from}
use Rattle.e_trim.proofs.renumbering.LitsAt.{AllKept, OverLit, OverLits}
use Rattle.e_trim.proofs.renumbering.Pairs.{sorts, image_at, image_sort, number_moves}
use Rattle.e_trim.proofs.renumbering.FormsOfSteps.{of_sorts_at, sorts_are, var_image, image_member, unmoved, next_member, next_in}
use Rattle.e_trim.proofs.kept_certificates.SumsStay.{cover_left, cover_right}
use Rattle.e_trim.proofs.kept_certificates.CertsStay.{certs_stay}
use Rattle.e_trim.proofs.kept_certificates.CertScopes.{AllIn, both_in, certs_scope}
use Rattle.e_trim.proofs.kept_certificates.LinesStay.{GoalGoes}
use Rattle.e_trim.proofs.kept_scripts.TrimmedScripts.{Goes, covered}

-- ---- declared objects keep their numbers

own_number : (b : Scope) (xs : List Sort) (sort : Sort) (n : ℕ) → count_of b sort ≤ n → n ≤ count_of (with_sorts b xs) sort → kept_before (next_objects b xs) sort n + count_of b sort ≡ n
own_number b [] sort n h k = omega (arith, h, k)
own_number b (x ∷ xs) sort n h k = elim (cases_Bool (same_sort x sort)) [
  | inr f ↦
      let same = counted_other b x sort f in
      let no = is_none (same_sort x sort && ltb (count_of b x) n) (ap (λ c. c && ltb (count_of b x) n) f) in
      let more = own_number (with_one b x) xs sort n (omega (arith, same, h)) k in
      omega (arith, no, more, same)
  | inl t ↦ elim (cases_lt (count_of b sort) n) [
    | inl l ↦
        let same = counted_here b x sort t in
        let e = Rattle.e_literal.proofs.Sorts.same_sort_is x sort t in
        let c = ap (λ s. count_of b s) e in
        let yes = is_one (is_lesser_of_sort (obj x (count_of b x)) sort n) (less_from (obj x (count_of b x)) sort n e (omega (arith, c, l))) in
        let more = own_number (with_one b x) xs sort n (omega (arith, same, l)) k in
        omega (arith, yes, more, same)
    | inr l ↦
        let same = counted_here b x sort t in
        let e = Rattle.e_literal.proofs.Sorts.same_sort_is x sort t in
        let c = ap (λ s. count_of b s) e in
        let no = is_none (is_lesser_of_sort (obj x (count_of b x)) sort n) (not_less (obj x (count_of b x)) sort n (λ f. omega (arith, c, l, h))) in
        let none = none_less (next_objects (with_one b x) xs) sort n (λ o i f. (let a = next_above (with_one b x) xs o i in let g = ap (λ s. count_of (with_one b x) s) f in omega (arith, a, g, same, l))) in
        omega (arith, no, none, h, l)
  ]
]

-- also where more objects are kept after them
pub declared_number : (t : StatementView) (more : List Obj) (o : Obj) → ((k : Obj) → In k more → count_of (scope_of t) k.sort ≤ k.num) → o.num < count_of (scope_of t) o.sort → kept_before (declared_of t ++ more) o.sort o.num ≡ o.num
declared_number t more o above h =
    let stays = number_stays (declared_of t) more o.sort o.num (λ k i e. (let a = above k i in let c = ap (λ s. count_of (scope_of t) s) e in omega (arith, a, c, h))) in
    let own = own_number nothing t.declared o.sort o.num (omega (arith, counts_nothing o.sort)) (omega (arith, h)) in
    let none = counts_nothing o.sort in
    omega (arith, stays, own, none)

-- with its own numbers a literal is itself
unmoved_lit : (l : Lit) → record { neg = l.neg; atom = atom_by (λ sort n. n) l.atom } ≡ l
unmoved_lit l = ap (λ a. record { neg = l.neg; atom = a }) (own_atom l.atom)

-- a literal over the declared objects stays
pub own_lit : (t : StatementView) (l : Lit) → all_in_scope (scope_of t) l ≡ true → lit_among_kept (declared_of t) l ≡ l
own_lit t l h =
    ap (λ a. record { neg = l.neg; atom = a })
    (same_atom_by (kept_before (declared_of t)) (λ sort n. n) l.atom (λ o i. ap (λ ks. kept_before ks o.sort o.num) (sym (append-nil (declared_of t)))
    ∙ declared_number t [] o (λ k j. absurd j) (ltb-true o.num (count_of (scope_of t) o.sort) (all_in (is_in_scope (scope_of t)) (objects_of_atom l.atom) o h i))))
    ∙ unmoved_lit l

-- ---- the goal

abbrev Holds : List Obj → Scope → List Obj → Goal → Goal → Type 0
Holds kept s os goal now = are_for goal s os ≡ true → AllKept kept os
    → (are_for now (scope_kept kept) (map (obj_at kept) os) ≡ true) × (goal_with now (map (obj_at kept) os) ≡ map (lit_among_kept kept) (goal_with goal os)) × OverLits kept (goal_with goal os)

shown_holds : (kept : List Obj) (s : Scope) (os : List Obj) (shown : List Lit) → OverLits kept shown → Holds kept s os (goal_of shown) (goal_of (map (lit_among_kept kept) shown))
shown_holds kept s [] shown o h k = (refl, unmoved (map (lit_among_kept kept) shown) ∙ ap (map (lit_among_kept kept)) (sym (unmoved shown)), subst (OverLits kept) (sym (unmoved shown)) o)
shown_holds kept s (x ∷ os) shown o h k = absurd (true≢false (sym h))

-- the object is made, or declared
made_or_declared : (t : StatementView) (os : List Obj) (o : Obj) → sorts (next_objects (scope_of t) t.made) ≡ sorts os → is_in_scope (with_sorts (scope_of t) t.made) o ≡ true
    → ((y : Obj) × (image_in (pairs_of (next_objects (scope_of t) t.made) os) o ≡ Some y)) ⊎ ((image_in (pairs_of (next_objects (scope_of t) t.made) os) o ≡ None) × (o.num < count_of (scope_of t) o.sort))
made_or_declared t os o z h = by (image_in (pairs_of (next_objects (scope_of t) t.made) os) o) refl
  where
    by : (x : Option Obj) → image_in (pairs_of (next_objects (scope_of t) t.made) os) o ≡ x
        → ((y : Obj) × (image_in (pairs_of (next_objects (scope_of t) t.made) os) o ≡ Some y)) ⊎ ((image_in (pairs_of (next_objects (scope_of t) t.made) os) o ≡ None) × (o.num < count_of (scope_of t) o.sort))
    by (Some y) e = inl (y, e)
    by None e = inr (
      e,
      elim (cases_lt o.num (count_of (scope_of t) o.sort)) [
        | inl l ↦ l
        | inr l ↦ absurd (true≢false (sym (var_image (next_objects (scope_of t) t.made) os o z (next_member (scope_of t) t.made o l (ltb-true o.num (count_of (with_sorts (scope_of t) t.made) o.sort) h))) ∙ ap is_some e))
      ],
    )

number_goes : (kept : List Obj) (t : StatementView) (more os : List Obj) (o : Obj) → kept ≡ declared_of t ++ more → ((k : Obj) → In k more → count_of (scope_of t) k.sort ≤ k.num) → sorts (next_objects (scope_of t) t.made) ≡ sorts os
    → is_in_scope (with_sorts (scope_of t) t.made) o ≡ true
    → number_at (image_in (pairs_of (next_objects (scope_of t) t.made) (map (obj_at kept) os))) o.sort o.num ≡ kept_before kept o.sort (number_at (image_in (pairs_of (next_objects (scope_of t) t.made) os)) o.sort o.num)
number_goes kept t more os o first above z h = elim (made_or_declared t os o z h) [
  | inl y ↦ number_moves kept (next_objects (scope_of t) t.made) os o z (ap is_some y.1)
  | inr d ↦
      ap (λ x. option_map_or (λ (y : Obj). y.num) x o.num) (image_at kept (next_objects (scope_of t) t.made) os o ∙ ap (option_map (obj_at kept)) d.0)
      ∙ sym (ap (λ ks. kept_before ks o.sort o.num) first ∙ declared_number t more o above d.1)
      ∙ ap (kept_before kept o.sort) (sym (ap (λ x. option_map_or (λ (y : Obj). y.num) x o.num) d.0))
]

shown_move : (kept : List Obj) (t : StatementView) (more os : List Obj) (ls : List Lit) → kept ≡ declared_of t ++ more → ((k : Obj) → In k more → count_of (scope_of t) k.sort ≤ k.num) → sorts (next_objects (scope_of t) t.made) ≡ sorts os
    → list_all (λ (l : Lit). is_well_formed l && all_in_scope (with_sorts (scope_of t) t.made) l) ls ≡ true
    → map (with_images (image_in (pairs_of (next_objects (scope_of t) t.made) (map (obj_at kept) os)))) ls ≡ map (lit_among_kept kept) (map (with_images (image_in (pairs_of (next_objects (scope_of t) t.made) os))) ls)
shown_move kept t more os [] first above z h = refl
shown_move kept t more os (l ∷ ls) first above z h =
    let made = next_objects (scope_of t) t.made in
    let p = and_parts (is_well_formed l && all_in_scope (with_sorts (scope_of t) t.made) l) (list_all (λ (x : Lit). is_well_formed x && all_in_scope (with_sorts (scope_of t) t.made) x) ls) h in
    let q = and_parts (is_well_formed l) (all_in_scope (with_sorts (scope_of t) t.made) l) p.0 in
    let one = ap (λ a. record { neg = l.neg; atom = a }) (moved_atom kept (number_at (image_in (pairs_of made os))) (number_at (image_in (pairs_of made (map (obj_at kept) os)))) l.atom
    (λ o i. number_goes kept t more os o first above z (all_in (is_in_scope (with_sorts (scope_of t) t.made)) (objects_of_atom l.atom) o q.1 i))) in
    ap (λ x. x ∷ map (with_images (image_in (pairs_of made (map (obj_at kept) os)))) ls) one ∙ ap (λ xs. lit_among_kept kept (with_images (image_in (pairs_of made os)) l) ∷ xs) (shown_move kept t more os ls first above z p.1)

shown_over : (kept : List Obj) (t : StatementView) (more os : List Obj) (ls : List Lit) → kept ≡ declared_of t ++ more → AllKept kept os → sorts (next_objects (scope_of t) t.made) ≡ sorts os
    → list_all (λ (l : Lit). is_well_formed l && all_in_scope (with_sorts (scope_of t) t.made) l) ls ≡ true → OverLits kept (map (with_images (image_in (pairs_of (next_objects (scope_of t) t.made) os))) ls)
shown_over kept t more os [] first k z h m i = absurd i
shown_over kept t more os (l ∷ ls) first k z h m (inr i) =
    let p = and_parts (is_well_formed l && all_in_scope (with_sorts (scope_of t) t.made) l) (list_all (λ (x : Lit). is_well_formed x && all_in_scope (with_sorts (scope_of t) t.made) x) ls) h in
    shown_over kept t more os ls first k z p.1 m i
shown_over kept t more os (l ∷ ls) first k z h m (inl e) = subst (OverLit kept) e one
  where
    made : List Obj
    made = next_objects (scope_of t) t.made

    scoped : all_in_scope (with_sorts (scope_of t) t.made) l ≡ true
    scoped =
        let p = and_parts (is_well_formed l && all_in_scope (with_sorts (scope_of t) t.made) l) (list_all (λ (x : Lit). is_well_formed x && all_in_scope (with_sorts (scope_of t) t.made) x) ls) h in
        (and_parts (is_well_formed l) (all_in_scope (with_sorts (scope_of t) t.made) l) p.0).1

    one : OverLit kept (with_images (image_in (pairs_of made os)) l)
    one x i =
        let o = object_from (number_at (image_in (pairs_of made os))) l.atom x i in
        elim (made_or_declared t os o.0 z (all_in (is_in_scope (with_sorts (scope_of t) t.made)) (objects_of_atom l.atom) o.0 scoped o.1)) [
          | inl y ↦
              let sort = image_sort made os o.0 y.0 z y.1 in
              let num = ap (λ w. option_map_or (λ (v : Obj). v.num) w o.0.num) y.1 in
              let is : y.0 ≡ x = ap (λ s. obj s y.0.num) sort ∙ ap (obj o.0.sort) (sym num) ∙ o.2 in
              k x (subst (λ w. In w os) is (image_member made os o.0 y.0 y.1))
          | inr d ↦
              let num = ap (λ w. option_map_or (λ (v : Obj). v.num) w o.0.num) d.0 in
              let is : o.0 ≡ x = ap (obj o.0.sort) (sym num) ∙ o.2 in
              subst (λ ks. In x ks) (sym first) (in_left x (declared_of t) more (subst (λ w. In w (declared_of t)) is (next_in nothing t.declared o.0 (omega (arith, counts_nothing o.0.sort)) d.1)))
        ]

statement_holds : (kept : List Obj) (s : Scope) (os : List Obj) (t : StatementView) (more : List Obj) → kept ≡ declared_of t ++ more → ((k : Obj) → In k more → count_of (scope_of t) k.sort ≤ k.num) → is_statement t ≡ true
    → Holds kept s os (goal_of_statement t) (goal_of_statement t)
statement_holds kept s os t more first above good h k =
    let made = next_objects (scope_of t) t.made in
    let z = sorts_are s (sorts made) os h in
    let shown = (and_parts (list_all (λ (l : Lit). is_well_formed l && all_in_scope (scope_of t) l) t.given) (list_all (λ (l : Lit). is_well_formed l && all_in_scope (with_sorts (scope_of t) t.made) l) t.shown) good).1 in
    (of_sorts_at kept s (sorts made) os h k, shown_move kept t more os t.shown first above z shown, shown_over kept t more os t.shown first k z shown)

pub goal_holds : (kept : List Obj) (s : Scope) (os : List Obj) (goal now : Goal) → GoalGoes kept s goal now → Holds kept s os goal now
goal_holds kept s os goal now (inl g) =
    subst (λ x. Holds kept s os x now) (sym g.before) (subst (λ y. Holds kept s os (goal_of g.shown) y) (sym g.after) (shown_holds kept s os g.shown g.over))
goal_holds kept s os goal now (inr g) =
    subst (λ x. Holds kept s os x now) (sym g.before) (subst (λ y. Holds kept s os (goal_of_statement g.statement) y) (sym g.after) (statement_holds kept s os g.statement g.more g.first g.above g.good))

-- ---- qed

pub objects_in : (s : Scope) (xs : List Sort) (os : List Obj) → are_of_sorts s xs os ≡ true → AllIn s os
objects_in s [] [] e o i = absurd i
objects_in s [] (x ∷ os) e o i = absurd cc
objects_in s (x ∷ xs) [] e o i = absurd i
objects_in s (x ∷ xs) (y ∷ os) e o (inl f) =
    let p = and_parts (same_sort x y.sort) (is_in_scope s y && are_of_sorts s xs os) e in subst (λ z. is_in_scope s z ≡ true) f (and_parts (is_in_scope s y) (are_of_sorts s xs os) p.1).0
objects_in s (x ∷ xs) (y ∷ os) e o (inr i) =
    let p = and_parts (same_sort x y.sort) (is_in_scope s y && are_of_sorts s xs os) e in objects_in s xs os (and_parts (is_in_scope s y) (are_of_sorts s xs os) p.1).1 o i

pub qed_goes : (before : List StatementView) (kept : List Obj) (s : Scope) (facts : List Lit) (goal : Goal) (os : List Obj) (certs : List Cert) → list_all (is_cert_of version.One) certs ≡ true → is_certified before (as_step (Qed os certs) s facts goal) ≡ true
    → Goes before kept s facts goal (wants before (Qed os certs) s facts goal) (trimmed_from before kept (Qed os certs) s facts goal)
unfolding wants trimmed_from placed_steps
qed_goes before kept s facts goal os certs v h now goal' r =
    let own = of_step before (as_step (Qed os certs) s facts goal) in
    let looked = of_certs facts (goal_with goal os) certs in
    let p = and_parts (are_for goal s os) (certify_all s facts (goal_with goal os) certs && true) h in
    let q = and_parts (certify_all s facts (goal_with goal os) certs) true p.1 in
    let scopes = both_in s os (looked.objects ++ []) (objects_in s (sorts goal.made) os p.0) (both_in s looked.objects [] (certs_scope s facts facts (goal_with goal os) certs q.0) (λ o i. absurd i)) in
    let c = covered kept s facts now goal goal' own r scopes in
    let objects = (cover_left kept own.lits (wanted_objects os) (both looked no_wants) c).objects in
    let own_certs = cover_left kept own.lits looked no_wants (cover_right kept own.lits (wanted_objects os) (both looked no_wants) c) in
    let g = goal_holds kept s os goal goal' r.goes p.0 objects in
    let done = certs_stay kept s facts now own.lits (goal_with goal os) certs v r.stays g.2 own_certs q.0 in
    and_from (is_certified before (as_step (Qed (map (obj_at kept) os) (map (cert_at kept) certs)) (scope_kept kept) now goal')) true
    (and_from (are_for goal' (scope_kept kept) (map (obj_at kept) os)) _ g.0
    (and_from _ true (ap (λ ls. certify_all (scope_kept kept) now ls (map (cert_at kept) certs)) g.1 ∙ done) refl)) refl
