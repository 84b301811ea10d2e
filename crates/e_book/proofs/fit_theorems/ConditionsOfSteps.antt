-- What is read can be judged: at each line the facts and what the line needs are in scope and well formed, and the terms of
-- the facts are few.
use Rattle.std.proofs.Common.{◌≡◌, ℕ, zero, suc, ◌+◌, ◌≤◌, Bool, true, false, cond, leb, ltb, ◌&&◌, List, [], ◌∷◌, ◌++◌, length, map, Option, refl, sym, ap, subst, ◌∙◌, arith, length-append}
use Rattle.std.specs.Prelude.{is_some}
use Rattle.std.specs.List.{list_all}
use Rattle.std.proofs.lemmas.Bool.{le-leb, leb-true, lt-ltb, ltb-true, and_parts}
use Rattle.std.proofs.lemmas.List.{length-map}
use Rattle.std.proofs.lemmas.List.Concat.{flat_map-append}
use Rattle.std.proofs.lemmas.List.Folds.{list_all-append}
use Rattle.e_literal.specs.declared.object.Sort.{Sort}
use Rattle.e_literal.specs.declared.object.Sort.TheVariants as kinds
use Rattle.e_literal.specs.declared.object.Obj.{Obj}
use Rattle.e_literal.specs.declared.object.Scope.{Scope}
use Rattle.e_literal.specs.declared.object.Term.{Term}
use Rattle.e_literal.specs.declared.object.Mono.{Mono}
use Rattle.e_literal.specs.declared.literal.Atom.{Atom}
use Rattle.e_literal.specs.declared.literal.Atom.TheVariants as atoms
use Rattle.e_literal.specs.declared.literal.Lit.{Lit}
use Rattle.e_literal.specs.Literal.{negation, is_in_scope, objects_of_atom, all_in_scope}
use Rattle.e_literal.specs.Scopes.{with_sorts, next_objects, are_of_sorts}
use Rattle.e_literal.specs.WellFormed.{is_well_formed}
use Rattle.e_literal.specs.Facts.{has, with_fact, with_facts}
use Rattle.e_literal.specs.Rename.{mono_at, atom_at, number_at, with_images, image_in, pairs_of}
use Rattle.e_literal.specs.Use.{StatementView, is_statement, are_arguments, image_in_use, gives_of_use}
use Rattle.e_literal.proofs.WithImages.{is_moved_in}
use Rattle.e_literal.proofs.GrownScopes.{sorts_next}
use Rattle.e_literal.proofs.Booleans.{all_both}
use Rattle.e_clause.specs.declared.cert.By.{By}
use Rattle.e_clause.specs.Instance.{Inst}
use Rattle.e_clause.specs.RuleKinds.{is_diagram_rule}
use Rattle.e_clause.specs.Assignment.{terms_of_atom, terms_of_lits}
use Rattle.e_clause.specs.LimitedFacts.{is_well_formed_in, are_well_formed_in, are_limited_facts}
use Rattle.e_construct.specs.Construct.{sorts_made, gives_of_construction, fits_construction}
use Rattle.e_construct.specs.Superposing as superposing
use Rattle.e_construct.proofs.Moving.{is_plain, moved_lit, Within, in_more, every, grows}
use Rattle.e_construct.proofs.Given.{needs_good, gives_good, gives_plain, superposition_needs_good, superposition_gives}
use Rattle.e_theorem.specs.Pattern.{is_pattern}
use Rattle.e_theorem.specs.Choice.{fills, is_choice}
use Rattle.e_theorem.proofs.Uses.{needs_good as needs_of_use_good, gives_good as gives_of_use_good}
use Rattle.e_deriv.specs.Script.{Script, Cite, Hence, Make, Apply, Claim, Superposed, Qed, Contradiction, Cases}
use Rattle.e_deriv.specs.Parts.{rest_of, inner_of, args_of}
use Rattle.e_deriv.specs.Goal.{Goal, are_for, goal_with}
use Rattle.e_deriv.specs.PlacedSteps.{PlacedStep, placed_steps, theorem_at}
use Rattle.e_deriv.specs.Steps.{are_over, is_citation}
use Rattle.e_deriv.specs.Fitting.{LitsFit}
use Rattle.e_line.specs.Limits.{most_monomials_of_facts, monomials, count_monomials}
use Rattle.e_names.specs.Fits.{is_diagram_lit}
use Rattle.e_book.specs.Fits.{has_well_formed_literals, few_terms}
use Rattle.e_book.proofs.fit_theorems.FittingScripts.{line_fits}
use Rattle.e_names.proofs.literals.ShortLits.{count_first}
use Rattle.e_names.proofs.resolution.LitLookups.{diagram_is_well_formed}
use Rattle.e_names.proofs.read_lines.WellRead.{no_monomials}
use Rattle.e_book.proofs.fit_theorems.Renaming.{renamed_good, made_moved}

-- ---- facts

abbrev pub count_terms : List Lit → ℕ
count_terms ls = length (terms_of_lits ls)

-- facts that are in scope and well formed, with at most this many terms
pub record GoodFacts (s : Scope) (facts : List Lit) (n : ℕ) : Type 0 where
  pub good : are_well_formed_in s facts ≡ true
  pub few : count_terms facts ≤ n

atom_terms : (a : Atom) → length (terms_of_atom a) ≡ monomials a
atom_terms (atoms.MagEq x y) = length-map (x ++ y) (λ (m : Mono). m.term)
atom_terms (atoms.MagLt x y) = length-map (x ++ y) (λ (m : Mono). m.term)
atom_terms a = refl

one_more : (facts : List Lit) (l : Lit) → count_terms (facts ++ l ∷ []) ≡ count_terms facts + monomials l.atom
one_more facts l =
    let terms : Lit → List Term = λ (m : Lit). terms_of_atom m.atom in
    let e : count_terms (facts ++ l ∷ []) ≡ length (terms_of_lits facts ++ (terms_of_atom l.atom ++ [])) = ap (λ (ts : List Term). length ts) (flat_map-append terms facts (l ∷ [])) in
    omega (arith, e, length-append (terms_of_lits facts) (terms_of_atom l.atom ++ []), length-append (terms_of_atom l.atom) [], atom_terms l.atom)

either : (s : Scope) (facts : List Lit) (l : Lit) (n : ℕ) (b : Bool) → GoodFacts s facts n → is_well_formed_in s l ≡ true → GoodFacts s (cond b facts (facts ++ l ∷ [])) (n + monomials l.atom)
either s facts l n true g h = record { good = g.good; few = omega (arith, g.few) }
either s facts l n false g h = record { good = all_both (is_well_formed_in s) facts (l ∷ []) g.good (rw h refl); few = omega (arith, g.few, one_more facts l) }

good_joined : (s : Scope) (facts : List Lit) (l : Lit) (n : ℕ) → GoodFacts s facts n → is_well_formed_in s l ≡ true → GoodFacts s (with_fact facts l) (n + monomials l.atom)
unfolding with_fact
good_joined s facts l n g h = either s facts l n (has facts l) g h

pub all_joined : (s : Scope) (facts ls : List Lit) (n : ℕ) → GoodFacts s facts n → are_well_formed_in s ls ≡ true → GoodFacts s (with_facts facts ls) (n + count_monomials ls)
all_joined s facts [] n g h = record { good = g.good; few = omega (arith, g.few) }
all_joined s facts (l ∷ ls) n g h =
    let p = and_parts (is_well_formed_in s l) (are_well_formed_in s ls) h in
    let r = all_joined s (with_fact facts l) ls (n + monomials l.atom) (good_joined s facts l n g p.0) p.1 in
    record { good = r.good; few = omega (arith, r.few, count_first l ls) }

-- ---- literals

plain_monomials : (n : Bool) (a : Atom) → is_plain (record { neg = n; atom = a }) ≡ true → monomials a ≡ 0
plain_monomials n (atoms.MagEq x y) h = absurd cc
plain_monomials n (atoms.MagLt x y) h = absurd cc
plain_monomials n a h = refl

pub plain_count : (ls : List Lit) → list_all is_plain ls ≡ true → count_monomials ls ≡ 0
plain_count [] h = refl
plain_count (l ∷ ls) h =
    let p = and_parts (is_plain l) (list_all is_plain ls) h in
    omega (arith, count_first l ls, plain_monomials l.neg l.atom p.0, plain_count ls p.1)

pub two_good : (s : Scope) (ls : List Lit) → list_all (all_in_scope s) ls ≡ true → list_all is_well_formed ls ≡ true → are_well_formed_in s ls ≡ true
two_good s [] h k = refl
two_good s (l ∷ ls) h k =
    let p = and_parts (all_in_scope s l) (list_all (all_in_scope s) ls) h in
    let q = and_parts (is_well_formed l) (list_all is_well_formed ls) k in
    rw (p.0, q.0, two_good s ls p.1 q.1) refl

-- in a larger scope
good_more : (s t : Scope) → Within s t → (ls : List Lit) → are_well_formed_in s ls ≡ true → are_well_formed_in t ls ≡ true
good_more s t w ls h = every (is_well_formed_in s) (is_well_formed_in t) one ls h
  where
    one : (l : Lit) → is_well_formed_in s l ≡ true → is_well_formed_in t l ≡ true
    one l k =
        let p = and_parts (all_in_scope s l) (is_well_formed l) k in
        rw (every (is_in_scope s) (is_in_scope t) (in_more s t w) (objects_of_atom l.atom) p.0, p.1) refl

-- ---- the goal

-- the goal of a statement with these made objects, whose literals are over all its objects
pub record GoodGoal (before : Scope) (sorts : List Sort) (shown : List Lit) : Type 0 where
  pub within : list_all (all_in_scope (with_sorts before sorts)) shown ≡ true
  pub good : list_all is_well_formed shown ≡ true

abbrev pub goal_for : Scope → List Sort → List Lit → Goal
goal_for before sorts shown = record { made = next_objects before sorts; shown = shown }

good_goal : (before s : Scope) (sorts : List Sort) (os : List Obj) (shown : List Lit) → Within before s → are_of_sorts s sorts os ≡ true → list_all (all_in_scope (with_sorts before sorts)) shown ≡ true → list_all is_well_formed shown ≡ true
    → are_well_formed_in s (goal_with (goal_for before sorts shown) os) ≡ true
good_goal before s sorts os [] w f h k = refl
good_goal before s sorts os (l ∷ shown) w f h k =
    let p = and_parts (all_in_scope (with_sorts before sorts) l) (list_all (all_in_scope (with_sorts before sorts)) shown) h in
    let q = and_parts (is_well_formed l) (list_all is_well_formed shown) k in
    let image = image_in (pairs_of (next_objects before sorts) os) in
    let here = moved_lit s image l (every (is_in_scope (with_sorts before sorts)) (is_moved_in s image) (λ o i. made_moved before s sorts os o f i (in_more before s w o)) (objects_of_atom l.atom) p.0) in
    rw (here, renamed_good image l q.0, good_goal before s sorts os shown w f p.1 q.1) refl

-- ---- earlier theorems

-- each of the earlier theorems is a statement
stated_at : (bs : List StatementView) (k : ℕ) → list_all is_statement bs ≡ true → ltb k (length bs) ≡ true → is_statement (theorem_at bs k) ≡ true
stated_at [] k h lt = let less = ltb-true k 0 lt in absurd (omega (arith, less))
stated_at (b ∷ bs) zero h lt = (and_parts (is_statement b) (list_all is_statement bs) h).0
stated_at (b ∷ bs) (suc k) h lt = let less = ltb-true (suc k) (length (b ∷ bs)) lt in stated_at bs k (and_parts (is_statement b) (list_all is_statement bs) h).1 (lt-ltb k (length bs) (omega (arith, less)))

moved_monomials : (p l c : ℕ → ℕ) (a : Atom) → monomials (atom_at p l c a) ≡ monomials a
moved_monomials p l c (atoms.MagEq x y) = omega (arith, length-append x y, length-append (map (mono_at p) x) (map (mono_at p) y), length-map x (mono_at p), length-map y (mono_at p))
moved_monomials p l c (atoms.MagLt x y) = omega (arith, length-append x y, length-append (map (mono_at p) x) (map (mono_at p) y), length-map x (mono_at p), length-map y (mono_at p))
moved_monomials p l c a = refl

-- literals have as many monomials with other objects
moved_count : (image : Obj → Option Obj) (ls : List Lit) → count_monomials (map (with_images image) ls) ≡ count_monomials ls
moved_count image [] = refl
moved_count image (l ∷ ls) =
    omega (arith, count_first l ls, count_first (with_images image l) (map (with_images image) ls), moved_count image ls, moved_monomials (number_at image kinds.Point) (number_at image kinds.Line) (number_at image kinds.Circle) l.atom)

-- ---- lines

facts_fit : (s : Scope) (facts : List Lit) (n : ℕ) → GoodFacts s facts n → n ≤ most_monomials_of_facts → are_limited_facts s facts ≡ true
facts_fit s facts n g le =
    let few : leb (count_terms facts) 1100 ≡ true = le-leb _ _ (omega (arith, g.few, le)) in
    rw (g.good, few) refl

one_good : (s : Scope) (l : Lit) → is_well_formed_in s l ≡ true → are_well_formed_in s (l ∷ []) ≡ true
one_good s l h = rw h refl

cited_in_scope : (s : Scope) (by : By) → is_citation s by ≡ true → all_in_scope s by.lit ≡ true
cited_in_scope s by h =
    let p = and_parts (is_diagram_rule by.rule) (list_all (is_in_scope s) by.args && (all_in_scope s by.lit && is_some (Inst by.rule by.args))) h in
    let q = and_parts (list_all (is_in_scope s) by.args) (all_in_scope s by.lit && is_some (Inst by.rule by.args)) p.1 in
    (and_parts (all_in_scope s by.lit) (is_some (Inst by.rule by.args)) q.1).0

-- the lines of two parts of a script
parted : (p : PlacedStep → Bool) (xs ys : List PlacedStep) → list_all p (xs ++ ys) ≡ true → (list_all p xs ≡ true) × (list_all p ys ≡ true)
parted p xs ys h = and_parts (list_all p xs) (list_all p ys) (sym (list_all-append p xs ys) ∙ h)

both_parts : (bs : List StatementView) (xs ys : List PlacedStep) → LitsFit bs xs → LitsFit bs ys → LitsFit bs (xs ++ ys)
both_parts bs [] ys h k = k
both_parts bs (x ∷ xs) ys h k = (h.0, λ f. let r = h.1 f in (r.0, both_parts bs xs ys r.1 k))

-- a test of a number, and another
room : (n : ℕ) (b : Bool) → (leb n most_monomials_of_facts && b) ≡ true → (n ≤ most_monomials_of_facts) × (b ≡ true)
room n b h = let p = and_parts (leb n most_monomials_of_facts) b h in (leb-true n most_monomials_of_facts p.0, p.1)

-- what a line gives that uses an earlier theorem
good_gifts : (bs : List StatementView) (k : ℕ) (s : Scope) (args : List Obj) (facts : List Lit) (n : ℕ) → list_all is_statement bs ≡ true → ltb k (length bs) ≡ true → are_arguments (theorem_at bs k) s args ≡ true → GoodFacts s facts n
    → GoodFacts (with_sorts s (theorem_at bs k).made) (with_facts facts (gives_of_use (theorem_at bs k) args s)) (n + count_monomials (theorem_at bs k).shown)
good_gifts bs k s args facts n states lt fit g =
    let t = theorem_at bs k in
    let u = with_sorts s t.made in
    let given = gives_of_use t args s in
    let start : GoodFacts u facts n = record { good = good_more s u (grows s t.made) facts g.good; few = g.few } in
    let next = all_joined u facts given n start (gives_of_use_good t args s (stated_at bs k states lt) fit) in
    record { good = next.good; few = omega (arith, next.few, moved_count (image_in_use t args s) t.shown) }

-- Where the forms of the lines fit, the literals do, whatever the blanks are filled with. The forms are those of the script with
-- other fillings and other facts, which do not matter to them.
pub lines_good : (bs : List StatementView) → list_all is_statement bs ≡ true → (before : Scope) (sorts : List Sort) (shown : List Lit) → GoodGoal before sorts shown → (script g f : Script) (s : Scope) (other facts : List Lit) (n : ℕ)
    → GoodFacts s facts n → Within before s → n ≤ most_monomials_of_facts → few_terms bs n s script ≡ true → has_well_formed_literals script ≡ true
    → list_all (line_fits bs) (placed_steps bs script g s other (goal_for before sorts shown)) ≡ true → LitsFit bs (placed_steps bs script f s facts (goal_for before sorts shown))
unfolding placed_steps has_well_formed_literals few_terms
lines_good bs states before sorts shown goal (Cite by rest) g f s other facts n good w le few h fit =
    let p = and_parts (is_citation s by) (list_all (line_fits bs) (placed_steps bs rest (rest_of g) s (with_fact other by.lit) (goal_for before sorts shown))) fit in
    let q = and_parts (is_diagram_lit by.lit) (has_well_formed_literals rest) h in
    let lit : is_well_formed_in s by.lit ≡ true = rw (cited_in_scope s by p.0, diagram_is_well_formed by.lit q.0) refl in
    let next = good_joined s facts by.lit n good lit in
    let same : GoodFacts s (with_fact facts by.lit) n = record { good = next.good; few = omega (arith, next.few, no_monomials by.lit.atom q.0) } in
    (facts_fit s facts n good le, λ is. (refl, lines_good bs states before sorts shown goal rest (rest_of g) (rest_of f) s (with_fact other by.lit) (with_fact facts by.lit) n same w le few q.1 p.1))
lines_good bs states before sorts shown goal (Hence lit cert rest) g f s other facts n good w le few h fit =
    let m = n + monomials lit.atom in
    let p = and_parts (all_in_scope s lit) (list_all (line_fits bs) (placed_steps bs rest (rest_of g) s (with_fact other lit) (goal_for before sorts shown))) fit in
    let q = and_parts (is_well_formed lit) (has_well_formed_literals rest) h in
    let r = room m (few_terms bs m s rest) few in
    let here : is_well_formed_in s lit ≡ true = rw (p.0, q.0) refl in (
      facts_fit s facts n good le,
      λ is. (
        one_good s lit here,
        lines_good bs states before sorts shown goal rest (rest_of g) (rest_of f) s (with_fact other lit) (with_fact facts lit) m (good_joined s facts lit n good here) w r.0 r.1 q.1 p.1,
      ),
    )
lines_good bs states before sorts shown goal (Make construction names certs rest) g f s other facts n good w le few h fit =
    let t = with_sorts s (sorts_made construction) in
    let more = with_facts facts (gives_of_construction construction s) in
    let p = and_parts (fits_construction construction s) (list_all (line_fits bs) (placed_steps bs rest (rest_of g) t (with_facts other (gives_of_construction construction s)) (goal_for before sorts shown))) fit in
    let larger : Within s t = grows s (sorts_made construction) in
    let start : GoodFacts t facts n = record { good = good_more s t larger facts good.good; few = good.few } in
    let next = all_joined t facts (gives_of_construction construction s) n start (gives_good construction s p.0) in
    let same : GoodFacts t more n = record { good = next.good; few = omega (arith, next.few, plain_count (gives_of_construction construction s) (gives_plain construction s p.0)) } in (
      facts_fit s facts n good le,
      λ is. (
        needs_good construction s p.0,
        lines_good bs states before sorts shown goal rest (rest_of g) (rest_of f) t (with_facts other (gives_of_construction construction s)) more n same (λ sort. omega (arith, w sort, larger sort)) le few h p.1,
      ),
    )
lines_good bs states before sorts shown goal (Apply theorem pattern names certs rest) g f s other facts n good w le few h fit =
    let t = theorem_at bs theorem in
    let u = with_sorts s t.made in
    let m = n + count_monomials t.shown in
    let p = and_parts (ltb theorem (length bs) && is_pattern t s pattern) (list_all (line_fits bs) (placed_steps bs rest (rest_of g) u (with_facts other (gives_of_use t (args_of g) s)) (goal_for before sorts shown))) fit in
    let earlier : ltb theorem (length bs) ≡ true = (and_parts (ltb theorem (length bs)) (is_pattern t s pattern) p.0).0 in
    let r = room m (few_terms bs m u rest) few in
    let larger : Within s u = grows s t.made in
    let chosen : (ltb theorem (length bs) && is_choice t s pattern (args_of f)) ≡ true → are_arguments t s (args_of f) ≡ true = λ is.
    (and_parts (fills pattern (args_of f)) (are_arguments t s (args_of f)) (and_parts (ltb theorem (length bs)) (is_choice t s pattern (args_of f)) is).1).1 in (
      facts_fit s facts n good le,
      λ is. (
        needs_of_use_good t (args_of f) s (stated_at bs theorem states earlier) (chosen is),
        lines_good bs states before sorts shown goal rest (rest_of g) (rest_of f) u (with_facts other (gives_of_use t (args_of g) s)) (with_facts facts (gives_of_use t (args_of f) s)) m
            (good_gifts bs theorem s (args_of f) facts n states earlier (chosen is) good) (λ sort. omega (arith, w sort, larger sort)) r.0 r.1 h p.1,
      ),
    )
lines_good bs states before sorts shown goal (Claim claimed inner rest) g f s other facts n good w le few h fit =
    let m = n + count_monomials claimed in
    let inside = placed_steps bs inner (inner_of g) s other (goal_for s [] claimed) in
    let after = placed_steps bs rest (rest_of g) s (with_facts other claimed) (goal_for before sorts shown) in
    let p = and_parts (are_over s claimed) (list_all (line_fits bs) (inside ++ after)) fit in
    let q = parted (line_fits bs) inside after p.1 in
    let l = and_parts (list_all is_well_formed claimed) (has_well_formed_literals inner && has_well_formed_literals rest) h in
    let k = and_parts (has_well_formed_literals inner) (has_well_formed_literals rest) l.1 in
    let r = and_parts (few_terms bs n s inner) (leb m most_monomials_of_facts && few_terms bs m s rest) few in
    let v = room m (few_terms bs m s rest) r.1 in
    let next = all_joined s facts claimed n good (two_good s claimed p.0 l.0) in
    let own : GoodGoal s [] claimed = record { within = p.0; good = l.0 } in (
      facts_fit s facts n good le,
      λ is. (
        refl,
        both_parts bs (placed_steps bs inner (inner_of f) s facts (goal_for s [] claimed)) (placed_steps bs rest (rest_of f) s (with_facts facts claimed) (goal_for before sorts shown))
            (lines_good bs states s [] claimed own inner (inner_of g) (inner_of f) s other facts n good (λ sort. omega arith) le r.0 k.0 q.0)
            (lines_good bs states before sorts shown goal rest (rest_of g) (rest_of f) s (with_facts other claimed) (with_facts facts claimed) m next w v.0 v.1 k.1 q.1),
      ),
    )
lines_good bs states before sorts shown goal (Superposed superposition names copied certs inner rest) g f s other facts n good w le few h fit =
    let t = with_sorts s superposing.sorts_copied in
    let given = superposing.gives_of_superposition superposition s in
    let i = n + count_monomials given in
    let m = n + count_monomials copied in
    let inside = placed_steps bs inner (inner_of g) t (with_facts other given) (goal_for s [] copied) in
    let after = placed_steps bs rest (rest_of g) s (with_facts other copied) (goal_for before sorts shown) in
    let p = and_parts (superposing.fits_superposition superposition s && are_over s copied) (list_all (line_fits bs) (inside ++ after)) fit in
    let o = and_parts (superposing.fits_superposition superposition s) (are_over s copied) p.0 in
    let q = parted (line_fits bs) inside after p.1 in
    let l = and_parts (list_all is_well_formed copied) (has_well_formed_literals inner && has_well_formed_literals rest) h in
    let k = and_parts (has_well_formed_literals inner) (has_well_formed_literals rest) l.1 in
    let a = room i (few_terms bs i t inner && (leb m most_monomials_of_facts && few_terms bs m s rest)) few in
    let r = and_parts (few_terms bs i t inner) (leb m most_monomials_of_facts && few_terms bs m s rest) a.1 in
    let v = room m (few_terms bs m s rest) r.1 in
    let larger : Within s t = grows s superposing.sorts_copied in
    let start : GoodFacts t facts n = record { good = good_more s t larger facts good.good; few = good.few } in
    let first = all_joined t facts given n start (superposition_gives superposition s o.0) in
    let next = all_joined s facts copied n good (two_good s copied o.1 l.0) in
    let own : GoodGoal s [] copied = record { within = o.1; good = l.0 } in (
      facts_fit s facts n good le,
      λ is. (
        superposition_needs_good superposition s o.0,
        both_parts bs (placed_steps bs inner (inner_of f) t (with_facts facts given) (goal_for s [] copied)) (placed_steps bs rest (rest_of f) s (with_facts facts copied) (goal_for before sorts shown))
            (lines_good bs states s [] copied own inner (inner_of g) (inner_of f) t (with_facts other given) (with_facts facts given) i first larger a.0 r.0 k.0 q.0)
            (lines_good bs states before sorts shown goal rest (rest_of g) (rest_of f) s (with_facts other copied) (with_facts facts copied) m next w v.0 v.1 k.1 q.1),
      ),
    )
lines_good bs states before sorts shown goal (Qed objects certs) g f s other facts n good w le few h fit =
    let p = and_parts (are_for (goal_for before sorts shown) s objects) true fit in
    let of_sorts : are_of_sorts s sorts objects ≡ true = subst (λ (xs : List Sort). are_of_sorts s xs objects ≡ true) (sorts_next before sorts) p.0 in
    (facts_fit s facts n good le, λ is. (good_goal before s sorts objects shown w of_sorts goal.within goal.good, tt))
lines_good bs states before sorts shown goal (Contradiction against) g f s other facts n good w le few h fit = (facts_fit s facts n good le, λ is. (refl, tt))
lines_good bs states before sorts shown goal (Cases lit first second) g f s other facts n good w le few h fit =
    let m = n + monomials lit.atom in
    let one = placed_steps bs first (inner_of g) s (with_fact other lit) (goal_for before sorts shown) in
    let two = placed_steps bs second (rest_of g) s (with_fact other (negation lit)) (goal_for before sorts shown) in
    let p = and_parts (all_in_scope s lit) (list_all (line_fits bs) (one ++ two)) fit in
    let q = parted (line_fits bs) one two p.1 in
    let l = and_parts (is_well_formed lit) (has_well_formed_literals first && has_well_formed_literals second) h in
    let k = and_parts (has_well_formed_literals first) (has_well_formed_literals second) l.1 in
    let a = room m (few_terms bs m s first && few_terms bs m s second) few in
    let r = and_parts (few_terms bs m s first) (few_terms bs m s second) a.1 in
    let here : is_well_formed_in s lit ≡ true = rw (p.0, l.0) refl in (
      facts_fit s facts n good le,
      λ is. (
        refl,
        both_parts bs (placed_steps bs first (inner_of f) s (with_fact facts lit) (goal_for before sorts shown)) (placed_steps bs second (rest_of f) s (with_fact facts (negation lit)) (goal_for before sorts shown))
            (lines_good bs states before sorts shown goal first (inner_of g) (inner_of f) s (with_fact other lit) (with_fact facts lit) m (good_joined s facts lit n good here) w a.0 r.0 k.0 q.0)
            (lines_good bs states before sorts shown goal second (rest_of g) (rest_of f) s (with_fact other (negation lit)) (with_fact facts (negation lit)) m (good_joined s facts (negation lit) n good here) w a.0 r.1 k.1 q.1),
      ),
    )
