-- What holds before a line, the first line that is not licensed, and what it lacks, are one; and where each line is licensed there
-- is no such line.
use Rattle.std.proofs.Common.{◌≡◌, ℕ, zero, suc, ◌+◌, ◌<◌, List, [], ◌∷◌, ◌++◌, length, refl, sym, ap, ◌∙◌, subst, true≢false, Some, inl, inr, ◌⊎◌, length-append}
use Rattle.std.specs.Prelude.{take, slice_get}
use Rattle.std.proofs.Common.{arith}
use Rattle.std.proofs.lemmas.Option.{same_Some, none-some}
use Rattle.e_literal.specs.declared.literal.Lit.{Lit}
use Rattle.e_literal.specs.declared.object.Obj.{Obj}
use Rattle.e_literal.specs.declared.object.Scope.{Scope}
use Rattle.e_literal.specs.Literal.{negation}
use Rattle.e_literal.specs.Facts.{with_fact, with_facts}
use Rattle.e_literal.specs.Scopes.{with_sorts}
use Rattle.e_literal.specs.Use.{StatementView, are_arguments, needs_of_use, gives_of_use, scope_of}
use Rattle.e_literal.proofs.Booleans.{and_left, and_right}
use Rattle.e_clause.specs.Allowed.{Allowed, AllAllowed}
use Rattle.e_construct.specs.Construct.{sorts_made, gives_of_construction}
use Rattle.e_construct.specs.Superposing as superposing
use Rattle.e_theorem.specs.Choice.{fills, is_choice}
use Rattle.e_deriv.specs.declared.stop.Wanted.{Wanted}
use Rattle.e_deriv.specs.declared.stop.Wanted.TheVariants.{Literal, Match, Contradiction as AContradiction}
use Rattle.e_deriv.specs.Script.{Script, Cite, Hence, Make, Apply, Claim, Superposed, Qed, Contradiction, Cases, size}
use Rattle.e_deriv.specs.Parts.{rest_of, inner_of, args_of, args_written}
use Rattle.e_deriv.specs.Goal.{Goal, goal_of, facts_of_statement, goal_of_statement}
use Rattle.e_deriv.specs.PlacedSteps.{PlacedStep, placed_step, placed_steps, theorem_at, proof_steps}
use Rattle.e_deriv.specs.Steps.{fits, needs_at}
use Rattle.e_deriv.specs.Licensed.{Licensed, AllLicensed, IsFirstNotAllowed, Lacks, IsContext, IsFirstUnlicensed}
use Rattle.e_deriv.specs.Laws.{SamePlace}
use Rattle.e_deriv.proofs.Choices.{only_choice, least_is_one}

-- ---- lists of literals

allowed_at : (s : Scope) (facts earlier : List Lit) (l : Lit) (later : List Lit) → AllAllowed s facts (earlier ++ l ∷ later) → Allowed s facts l
allowed_at s facts [] l later h = h.0
allowed_at s facts (e ∷ es) l later h = allowed_at s facts es l later h.1

-- where each literal is allowed none is the first that is not
pub none_not_allowed : (s : Scope) (facts ls : List Lit) (l : Lit) → AllAllowed s facts ls → ¬ IsFirstNotAllowed s facts ls l
none_not_allowed s facts ls l h first = first.not_allowed (allowed_at s facts first.earlier l first.later (subst (AllAllowed s facts) first.split h))

head_same : {A : Type 0} (x y : A) (xs ys : List A) → x ∷ xs ≡ y ∷ ys → x ≡ y
head_same x y xs ys e = cc

tail_same : {A : Type 0} (x y : A) (xs ys : List A) → x ∷ xs ≡ y ∷ ys → xs ≡ ys
tail_same x y xs ys e = cc

-- the first literal that is not allowed is one, where the list is split in two ways
same_split : (s : Scope) (facts earlier : List Lit) (l : Lit) (later earlier' : List Lit) (l' : Lit) (later' : List Lit) →
    AllAllowed s facts earlier → ¬ Allowed s facts l → AllAllowed s facts earlier' → ¬ Allowed s facts l' →
    earlier ++ l ∷ later ≡ earlier' ++ l' ∷ later' → l ≡ l'
same_split s facts [] l later [] l' later' a n a' n' e = head_same l l' later later' e
same_split s facts [] l later (x ∷ xs) l' later' a n a' n' e =
    absurd (n (subst (Allowed s facts) (sym (head_same l x later (xs ++ l' ∷ later') e)) a'.0))
same_split s facts (x ∷ xs) l later [] l' later' a n a' n' e =
    absurd (n' (subst (Allowed s facts) (head_same x l' (xs ++ l ∷ later) later' e) a.0))
same_split s facts (x ∷ xs) l later (y ∷ ys) l' later' a n a' n' e =
    same_split s facts xs l later ys l' later' a.1 n a'.1 n' (tail_same x y (xs ++ l ∷ later) (ys ++ l' ∷ later') e)

one_not_allowed : (s : Scope) (facts ls : List Lit) (l l' : Lit) → IsFirstNotAllowed s facts ls l → IsFirstNotAllowed s facts ls l' → l ≡ l'
one_not_allowed s facts ls l l' a b =
    same_split s facts a.earlier l a.later b.earlier l' b.later a.allowed a.not_allowed b.allowed b.not_allowed (sym a.split ∙ b.split)

-- ---- one line

abbrev at_place : Script → Scope → List Lit → Goal → List Obj → PlacedStep
at_place here s facts goal args = record { scope = s; facts = facts; goal = goal; here = here; args = args }

lacks_nothing : (before : List StatementView) (here : Script) (s : Scope) (facts : List Lit) (goal : Goal) (args : List Obj) (w : Wanted) →
    Licensed before (at_place here s facts goal args) → ¬ Lacks before (at_place here s facts goal args) here w
lacks_nothing before (Cite by rest) s facts goal args (Literal l) h k = true≢false (sym h.others ∙ k.0)
lacks_nothing before (Hence lit cert rest) s facts goal args (Literal l) h k = none_not_allowed s facts (needs_at before (Hence lit cert rest) s goal args) l h.allowed k
lacks_nothing before (Make construction names certs rest) s facts goal args (Literal l) h k = none_not_allowed s facts (needs_at before (Make construction names certs rest) s goal args) l h.allowed k
lacks_nothing before (Apply theorem pattern names certs rest) s facts goal args (Literal l) h k =
    let t = theorem_at before theorem in
    let same : args ≡ args_written pattern = only_choice pattern args k.0 (and_left (fills pattern args) (are_arguments t s args) (and_right _ (is_choice t s pattern args) h.fits)) in
    none_not_allowed s facts (needs_of_use t (args_written pattern) s) l (subst (λ xs. AllAllowed s facts (needs_of_use t xs s)) same h.allowed) k.1
lacks_nothing before (Apply theorem pattern names certs rest) s facts goal args Match h k = k.1 args h.others.good
lacks_nothing before (Superposed superposition names shown certs inner rest) s facts goal args (Literal l) h k =
    none_not_allowed s facts (needs_at before (Superposed superposition names shown certs inner rest) s goal args) l h.allowed k
lacks_nothing before (Qed objects certs) s facts goal args (Literal l) h k = none_not_allowed s facts (needs_at before (Qed objects certs) s goal args) l h.allowed k
lacks_nothing before (Contradiction against) s facts goal args AContradiction h k = k h.others
lacks_nothing before here s facts goal args w h k = k

-- what a line lacks does not look at how its blanks are filled
lacks_again : (before : List StatementView) (here : Script) (s : Scope) (facts : List Lit) (goal : Goal) (a b : List Obj) (w : Wanted) →
    Lacks before (at_place here s facts goal a) here w → Lacks before (at_place here s facts goal b) here w
lacks_again before (Cite by rest) s facts goal a b (Literal l) k = k
lacks_again before (Hence lit cert rest) s facts goal a b (Literal l) k = k
lacks_again before (Make construction names certs rest) s facts goal a b (Literal l) k = k
lacks_again before (Apply theorem pattern names certs rest) s facts goal a b (Literal l) k = k
lacks_again before (Apply theorem pattern names certs rest) s facts goal a b Match k = k
lacks_again before (Superposed superposition names shown certs inner rest) s facts goal a b (Literal l) k = k
lacks_again before (Qed objects certs) s facts goal a b (Literal l) k = k
lacks_again before (Contradiction against) s facts goal a b AContradiction k = k
lacks_again before here s facts goal a b w k = absurd k

lacks_same : (before : List StatementView) (here : Script) (s : Scope) (facts : List Lit) (goal : Goal) (args : List Obj) (v w : Wanted) →
    Lacks before (at_place here s facts goal args) here v → Lacks before (at_place here s facts goal args) here w → v ≡ w
lacks_same before (Cite by rest) s facts goal args (Literal l) (Literal l') h k = ap Literal (h.1 ∙ sym k.1)
lacks_same before (Hence lit cert rest) s facts goal args (Literal l) (Literal l') h k = ap Literal (one_not_allowed s facts (needs_at before (Hence lit cert rest) s goal []) l l' h k)
lacks_same before (Make construction names certs rest) s facts goal args (Literal l) (Literal l') h k = ap Literal (one_not_allowed s facts (needs_at before (Make construction names certs rest) s goal []) l l' h k)
lacks_same before (Apply theorem pattern names certs rest) s facts goal args (Literal l) (Literal l') h k =
    ap Literal (one_not_allowed s facts (needs_of_use (theorem_at before theorem) (args_written pattern) s) l l' h.1 k.1)
lacks_same before (Apply theorem pattern names certs rest) s facts goal args Match Match h k = refl
lacks_same before (Apply theorem pattern names certs rest) s facts goal args (Literal l) Match h k = absurd (true≢false (sym h.0 ∙ k.0))
lacks_same before (Apply theorem pattern names certs rest) s facts goal args Match (Literal l) h k = absurd (true≢false (sym k.0 ∙ h.0))
lacks_same before (Superposed superposition names shown certs inner rest) s facts goal args (Literal l) (Literal l') h k =
    ap Literal (one_not_allowed s facts (needs_at before (Superposed superposition names shown certs inner rest) s goal []) l l' h k)
lacks_same before (Qed objects certs) s facts goal args (Literal l) (Literal l') h k = ap Literal (one_not_allowed s facts (needs_at before (Qed objects certs) s goal []) l l' h k)
lacks_same before (Contradiction against) s facts goal args AContradiction AContradiction h k = refl
lacks_same before (Contradiction against) s facts goal args (Literal l) w h k = absurd h
lacks_same before (Contradiction against) s facts goal args Match w h k = absurd h
lacks_same before (Contradiction against) s facts goal args w (Literal l) h k = absurd k
lacks_same before (Contradiction against) s facts goal args w Match h k = absurd k
lacks_same before here s facts goal args v AContradiction h k = absurd k
lacks_same before here s facts goal args AContradiction w h k = absurd h
lacks_same before here s facts goal args v Match h k = absurd k
lacks_same before here s facts goal args Match w h k = absurd h
lacks_same before here s facts goal args v w h k = absurd h

-- at one place a line lacks one thing, and nothing where it is licensed
place_is : (x y : PlacedStep) → SamePlace x y → x ≡ at_place y.here y.scope y.facts y.goal x.args
place_is x y e =
    ap (λ h. at_place h x.scope x.facts x.goal x.args) e.here ∙ ap (λ s. at_place y.here s x.facts x.goal x.args) e.scope
    ∙ ap (λ f. at_place y.here y.scope f x.goal x.args) e.facts ∙ ap (λ g. at_place y.here y.scope y.facts g x.args) e.goal

lacks_moved : (before : List StatementView) (x y : PlacedStep) (w : Wanted) → SamePlace x y → Lacks before x x.here w → Lacks before y y.here w
lacks_moved before x y w e k =
    lacks_again before y.here y.scope y.facts y.goal x.args y.args w (subst (λ z. Lacks before z z.here w) (place_is x y e) k)

pub lacks_not : (before : List StatementView) (x y : PlacedStep) (w : Wanted) → SamePlace x y → Lacks before x x.here w → Licensed before y → ⊥
lacks_not before x y w e k h = lacks_nothing before y.here y.scope y.facts y.goal y.args w h (lacks_moved before x y w e k)

lacks_one : (before : List StatementView) (x y : PlacedStep) (v w : Wanted) → SamePlace x y → Lacks before x x.here v → Lacks before y y.here w → v ≡ w
lacks_one before x y v w e h k = lacks_same before y.here y.scope y.facts y.goal y.args v w (lacks_moved before x y v e h) k

-- ---- lists of lines

-- the line at a place, where all lines before it are licensed
pub record Stands (before : List StatementView) (xs : List PlacedStep) (p : ℕ) (x : PlacedStep) : Type 0 where
  pub at : slice_get xs p ≡ Some x
  pub earlier : AllLicensed before (take p xs)

-- in two lists that begin alike
first_place : (before : List StatementView) (a b : PlacedStep) (xs ys : List PlacedStep) (x y : PlacedStep) → SamePlace a b → Stands before (a ∷ xs) zero x → Stands before (b ∷ ys) zero y → SamePlace x y
first_place before a b xs ys x y e p q =
    subst (λ z. SamePlace z y) (same_Some a x p.at) (subst (λ z. SamePlace a z) (same_Some b y q.at) e)

stands_after : (before : List StatementView) (a : PlacedStep) (xs : List PlacedStep) (p : ℕ) (x : PlacedStep) → Stands before (a ∷ xs) (suc p) x → Stands before xs p x
stands_after before a xs p x h = record { at = h.at; earlier = h.earlier.1 }

-- a line of two lists one after the other stands in the first or in the second, and so in two such pairs of the same lengths
record Both (before : List StatementView) (xs xs' : List PlacedStep) (p : ℕ) (x y : PlacedStep) : Type 0 where
  one : Stands before xs p x
  other : Stands before xs' p y

record Further (before : List StatementView) (ys ys' : List PlacedStep) (x y : PlacedStep) : Type 0 where
  place : ℕ
  one : Stands before ys place x
  other : Stands before ys' place y

parted : (before : List StatementView) (xs xs' ys ys' : List PlacedStep) (p : ℕ) (x y : PlacedStep) → length xs ≡ length xs' →
    Stands before (xs ++ ys) p x → Stands before (xs' ++ ys') p y → Both before xs xs' p x y ⊎ Further before ys ys' x y
parted before [] [] ys ys' p x y n h k = inr (record { place = p; one = h; other = k })
parted before [] (b ∷ xs') ys ys' p x y n h k = absurd (omega (arith, n))
parted before (a ∷ xs) [] ys ys' p x y n h k = absurd (omega (arith, n))
parted before (a ∷ xs) (b ∷ xs') ys ys' zero x y n h k = inl (record { one = record { at = h.at; earlier = tt }; other = record { at = k.at; earlier = tt } })
parted before (a ∷ xs) (b ∷ xs') ys ys' (suc p) x y n h k =
    elim (parted before xs xs' ys ys' p x y (omega (arith, n)) (stands_after before a (xs ++ ys) p x h) (stands_after before b (xs' ++ ys') p y k)) [
      | inl r ↦ inl (record {
        one = record { at = r.one.at; earlier = (h.earlier.0, r.one.earlier) };
        other = record { at = r.other.at; earlier = (k.earlier.0, r.other.earlier) };
      })
      | inr r ↦ inr r
    ]

pub lines_length : (before : List StatementView) (d f : Script) (s : Scope) (facts : List Lit) (goal : Goal) → length (placed_steps before d f s facts goal) ≡ size d
unfolding placed_steps size
lines_length before (Cite by rest) f s facts goal = let h = lines_length before rest (rest_of f) s (with_fact facts by.lit) goal in omega (arith, h)
lines_length before (Hence lit cert rest) f s facts goal = let h = lines_length before rest (rest_of f) s (with_fact facts lit) goal in omega (arith, h)
lines_length before (Make construction names certs rest) f s facts goal =
    let h = lines_length before rest (rest_of f) (with_sorts s (sorts_made construction)) (with_facts facts (gives_of_construction construction s)) goal in omega (arith, h)
lines_length before (Apply theorem args names certs rest) f s facts goal =
    let h = lines_length before rest (rest_of f) (with_sorts s (theorem_at before theorem).made) (with_facts facts (gives_of_use (theorem_at before theorem) (args_of f) s)) goal in omega (arith, h)
lines_length before (Claim shown inner rest) f s facts goal =
    let one = placed_steps before inner (inner_of f) s facts (goal_of shown) in
    let other = placed_steps before rest (rest_of f) s (with_facts facts shown) goal in
    let h = lines_length before inner (inner_of f) s facts (goal_of shown) in
    let k = lines_length before rest (rest_of f) s (with_facts facts shown) goal in
    omega (arith, h, k, length-append one other)
lines_length before (Superposed superposition names shown certs inner rest) f s facts goal =
    let one = placed_steps before inner (inner_of f) (with_sorts s superposing.sorts_copied) (with_facts facts (superposing.gives_of_superposition superposition s)) (goal_of shown) in
    let other = placed_steps before rest (rest_of f) s (with_facts facts shown) goal in
    let h = lines_length before inner (inner_of f) (with_sorts s superposing.sorts_copied) (with_facts facts (superposing.gives_of_superposition superposition s)) (goal_of shown) in
    let k = lines_length before rest (rest_of f) s (with_facts facts shown) goal in
    omega (arith, h, k, length-append one other)
lines_length before (Qed objects certs) f s facts goal = refl
lines_length before (Contradiction against) f s facts goal = refl
lines_length before (Cases lit first second) f s facts goal =
    let one = placed_steps before first (inner_of f) s (with_fact facts lit) goal in
    let other = placed_steps before second (rest_of f) s (with_fact facts (negation lit)) goal in
    let h = lines_length before first (inner_of f) s (with_fact facts lit) goal in
    let k = lines_length before second (rest_of f) s (with_fact facts (negation lit)) goal in
    omega (arith, h, k, length-append one other)

pub same_length : (before : List StatementView) (d f f' : Script) (s : Scope) (facts : List Lit) (goal : Goal) → length (placed_steps before d f s facts goal) ≡ length (placed_steps before d f' s facts goal)
same_length before d f f' s facts goal = lines_length before d f s facts goal ∙ sym (lines_length before d f' s facts goal)

-- ---- one context

alike : (here f f' : Script) (s : Scope) (facts : List Lit) (goal : Goal) → SamePlace (placed_step here f s facts goal) (placed_step here f' s facts goal)
alike here f f' s facts goal = record { scope = refl; facts = refl; goal = refl; here = refl }

nothing_after : (before : List StatementView) (a : PlacedStep) (p : ℕ) (x : PlacedStep) → Stands before (a ∷ []) (suc p) x → ⊥
nothing_after before a p x h = none-some x h.at

same_context : (before : List StatementView) (d f f' : Script) (s : Scope) (facts : List Lit) (goal : Goal) (p : ℕ) (x y : PlacedStep) →
    Stands before (placed_steps before d f s facts goal) p x → Stands before (placed_steps before d f' s facts goal) p y → SamePlace x y
unfolding placed_steps
same_context before (Cite by rest) f f' s facts goal zero x y h k =
    first_place before _ _ (placed_steps before rest (rest_of f) s (with_fact facts by.lit) goal) (placed_steps before rest (rest_of f') s (with_fact facts by.lit) goal) x y (alike (Cite by rest) f f' s facts goal) h k
same_context before (Cite by rest) f f' s facts goal (suc p) x y h k =
    same_context before rest (rest_of f) (rest_of f') s (with_fact facts by.lit) goal p x y (stands_after before _ _ p x h) (stands_after before _ _ p y k)
same_context before (Hence lit cert rest) f f' s facts goal zero x y h k =
    first_place before _ _ (placed_steps before rest (rest_of f) s (with_fact facts lit) goal) (placed_steps before rest (rest_of f') s (with_fact facts lit) goal) x y (alike (Hence lit cert rest) f f' s facts goal) h k
same_context before (Hence lit cert rest) f f' s facts goal (suc p) x y h k =
    same_context before rest (rest_of f) (rest_of f') s (with_fact facts lit) goal p x y (stands_after before _ _ p x h) (stands_after before _ _ p y k)
same_context before (Make construction names certs rest) f f' s facts goal zero x y h k =
    let after = with_facts facts (gives_of_construction construction s) in
    first_place before _ _ (placed_steps before rest (rest_of f) (with_sorts s (sorts_made construction)) after goal) (placed_steps before rest (rest_of f') (with_sorts s (sorts_made construction)) after goal) x y (alike (Make construction names certs rest) f f' s facts goal) h k
same_context before (Make construction names certs rest) f f' s facts goal (suc p) x y h k =
    same_context before rest (rest_of f) (rest_of f') (with_sorts s (sorts_made construction)) (with_facts facts (gives_of_construction construction s)) goal p x y (stands_after before _ _ p x h) (stands_after before _ _ p y k)
same_context before (Apply theorem pattern names certs rest) f f' s facts goal zero x y h k =
    let t = theorem_at before theorem in
    first_place before _ _ (placed_steps before rest (rest_of f) (with_sorts s t.made) (with_facts facts (gives_of_use t (args_of f) s)) goal)
    (placed_steps before rest (rest_of f') (with_sorts s t.made) (with_facts facts (gives_of_use t (args_of f') s)) goal) x y (alike (Apply theorem pattern names certs rest) f f' s facts goal) h k
same_context before (Apply theorem pattern names certs rest) f f' s facts goal (suc p) x y h k =
    let t = theorem_at before theorem in
    let e : args_of f' ≡ args_of f = least_is_one t s facts pattern (args_of f') (args_of f) k.earlier.0.others h.earlier.0.others in
    let below = stands_after before _ (placed_steps before rest (rest_of f') (with_sorts s t.made) (with_facts facts (gives_of_use t (args_of f') s)) goal) p y k in
    same_context before rest (rest_of f) (rest_of f') (with_sorts s t.made) (with_facts facts (gives_of_use t (args_of f) s)) goal p x y (stands_after before _ _ p x h)
    (subst (λ xs. Stands before (placed_steps before rest (rest_of f') (with_sorts s t.made) (with_facts facts (gives_of_use t xs s)) goal) p y) e below)
same_context before (Claim shown inner rest) f f' s facts goal zero x y h k =
    first_place before _ _ (placed_steps before inner (inner_of f) s facts (goal_of shown) ++ placed_steps before rest (rest_of f) s (with_facts facts shown) goal)
    (placed_steps before inner (inner_of f') s facts (goal_of shown) ++ placed_steps before rest (rest_of f') s (with_facts facts shown) goal) x y (alike (Claim shown inner rest) f f' s facts goal) h k
same_context before (Claim shown inner rest) f f' s facts goal (suc p) x y h k =
    let one = placed_steps before inner (inner_of f) s facts (goal_of shown) in
    let one' = placed_steps before inner (inner_of f') s facts (goal_of shown) in
    let other = placed_steps before rest (rest_of f) s (with_facts facts shown) goal in
    let other' = placed_steps before rest (rest_of f') s (with_facts facts shown) goal in
    elim (parted before one one' other other' p x y (same_length before inner (inner_of f) (inner_of f') s facts (goal_of shown)) (stands_after before _ _ p x h) (stands_after before _ _ p y k)) [
      | inl r ↦ same_context before inner (inner_of f) (inner_of f') s facts (goal_of shown) p x y r.one r.other
      | inr r ↦ same_context before rest (rest_of f) (rest_of f') s (with_facts facts shown) goal r.place x y r.one r.other
    ]
same_context before (Superposed superposition names shown certs inner rest) f f' s facts goal zero x y h k =
    let g = with_sorts s superposing.sorts_copied in
    let given = with_facts facts (superposing.gives_of_superposition superposition s) in
    first_place before _ _ (placed_steps before inner (inner_of f) g given (goal_of shown) ++ placed_steps before rest (rest_of f) s (with_facts facts shown) goal)
    (placed_steps before inner (inner_of f') g given (goal_of shown) ++ placed_steps before rest (rest_of f') s (with_facts facts shown) goal) x y (alike (Superposed superposition names shown certs inner rest) f f' s facts goal) h k
same_context before (Superposed superposition names shown certs inner rest) f f' s facts goal (suc p) x y h k =
    let g = with_sorts s superposing.sorts_copied in
    let given = with_facts facts (superposing.gives_of_superposition superposition s) in
    let one = placed_steps before inner (inner_of f) g given (goal_of shown) in
    let one' = placed_steps before inner (inner_of f') g given (goal_of shown) in
    let other = placed_steps before rest (rest_of f) s (with_facts facts shown) goal in
    let other' = placed_steps before rest (rest_of f') s (with_facts facts shown) goal in
    elim (parted before one one' other other' p x y (same_length before inner (inner_of f) (inner_of f') g given (goal_of shown)) (stands_after before _ _ p x h) (stands_after before _ _ p y k)) [
      | inl r ↦ same_context before inner (inner_of f) (inner_of f') g given (goal_of shown) p x y r.one r.other
      | inr r ↦ same_context before rest (rest_of f) (rest_of f') s (with_facts facts shown) goal r.place x y r.one r.other
    ]
same_context before (Qed objects certs) f f' s facts goal zero x y h k = first_place before _ _ [] [] x y (alike (Qed objects certs) f f' s facts goal) h k
same_context before (Qed objects certs) f f' s facts goal (suc p) x y h k = absurd (nothing_after before _ p x h)
same_context before (Contradiction against) f f' s facts goal zero x y h k = first_place before _ _ [] [] x y (alike (Contradiction against) f f' s facts goal) h k
same_context before (Contradiction against) f f' s facts goal (suc p) x y h k = absurd (nothing_after before _ p x h)
same_context before (Cases lit first second) f f' s facts goal zero x y h k =
    first_place before _ _ (placed_steps before first (inner_of f) s (with_fact facts lit) goal ++ placed_steps before second (rest_of f) s (with_fact facts (negation lit)) goal)
    (placed_steps before first (inner_of f') s (with_fact facts lit) goal ++ placed_steps before second (rest_of f') s (with_fact facts (negation lit)) goal) x y (alike (Cases lit first second) f f' s facts goal) h k
same_context before (Cases lit first second) f f' s facts goal (suc p) x y h k =
    let one = placed_steps before first (inner_of f) s (with_fact facts lit) goal in
    let one' = placed_steps before first (inner_of f') s (with_fact facts lit) goal in
    let other = placed_steps before second (rest_of f) s (with_fact facts (negation lit)) goal in
    let other' = placed_steps before second (rest_of f') s (with_fact facts (negation lit)) goal in
    elim (parted before one one' other other' p x y (same_length before first (inner_of f) (inner_of f') s (with_fact facts lit) goal) (stands_after before _ _ p x h) (stands_after before _ _ p y k)) [
      | inl r ↦ same_context before first (inner_of f) (inner_of f') s (with_fact facts lit) goal p x y r.one r.other
      | inr r ↦ same_context before second (rest_of f) (rest_of f') s (with_fact facts (negation lit)) goal r.place x y r.one r.other
    ]

-- ---- lists in which lines are licensed

-- an earlier line is licensed
pub record Earlier (before : List StatementView) (xs : List PlacedStep) (p : ℕ) : Type 0 where
  pub step : PlacedStep
  pub stands : Stands before xs p step
  pub licensed : Licensed before step

pub earlier_line : (before : List StatementView) (xs : List PlacedStep) (p q : ℕ) (y : PlacedStep) → p < q → Stands before xs q y → Earlier before xs p
earlier_line before [] p q y lt h = absurd (none-some y h.at)
earlier_line before (a ∷ xs) p zero y lt h = absurd (omega (arith, lt))
earlier_line before (a ∷ xs) zero (suc q) y lt h = record { step = a; stands = record { at = refl; earlier = tt }; licensed = h.earlier.0 }
earlier_line before (a ∷ xs) (suc p) (suc q) y lt h =
    let e = earlier_line before xs p q y (omega (arith, lt)) (stands_after before a xs q y h) in
    record { step = e.step; stands = record { at = e.stands.at; earlier = (h.earlier.0, e.stands.earlier) }; licensed = e.licensed }

-- in a list of licensed lines each is
pub licensed_line : (before : List StatementView) (xs ys : List PlacedStep) (p : ℕ) (y : PlacedStep) → length xs ≡ length ys → AllLicensed before xs → slice_get ys p ≡ Some y → Earlier before xs p
licensed_line before [] [] p y n h e = absurd (none-some y e)
licensed_line before [] (b ∷ ys) p y n h e = absurd (omega (arith, n))
licensed_line before (a ∷ xs) [] p y n h e = absurd (omega (arith, n))
licensed_line before (a ∷ xs) (b ∷ ys) zero y n h e = record { step = a; stands = record { at = refl; earlier = tt }; licensed = h.0 }
licensed_line before (a ∷ xs) (b ∷ ys) (suc p) y n h e =
    let r = licensed_line before xs ys p y (omega (arith, n)) h.1 e in
    record { step = r.step; stands = record { at = r.stands.at; earlier = (h.0, r.stands.earlier) }; licensed = r.licensed }

-- ---- the laws

same_suc : (p q : ℕ) → suc p ≡ suc q → p ≡ q
same_suc p q e = omega (arith, e)

abbrev of_context : (before : List StatementView) (t : StatementView) (script : Script) (n : ℕ) (x : PlacedStep) (c : IsContext before t script n x) → Stands before (proof_steps before t script c.filled) c.place x
of_context before t script n x c = record { at = c.at; earlier = c.earlier }

pub one_context : (before : List StatementView) (t : StatementView) (script : Script) (n : ℕ) (x y : PlacedStep) → IsContext before t script n x → IsContext before t script n y → SamePlace x y
one_context before t script n x y a b =
    let e = same_suc a.place b.place (sym a.number ∙ b.number) in
    same_context before script a.filled b.filled (scope_of t) (facts_of_statement t) (goal_of_statement t) a.place x y (of_context before t script n x a)
    (subst (λ p. Stands before (proof_steps before t script b.filled) p y) (sym e) (of_context before t script n y b))

pub no_stop_of_licensed : (before : List StatementView) (t : StatementView) (script f : Script) (n : ℕ) (w : Wanted) → AllLicensed before (proof_steps before t script f) → ¬ IsFirstUnlicensed before t script n w
no_stop_of_licensed before t script f n w h stop =
    let c = stop.context in
    let s = scope_of t in
    let facts = facts_of_statement t in
    let goal = goal_of_statement t in
    let e = licensed_line before (proof_steps before t script f) (proof_steps before t script c.filled) c.place stop.step (same_length before script f c.filled s facts goal) h c.at in
    lacks_not before stop.step e.step w (same_context before script c.filled f s facts goal c.place stop.step e.step (of_context before t script n stop.step c) e.stands) stop.lacks e.licensed

-- no line before the first that is not licensed lacks anything
no_earlier : (before : List StatementView) (t : StatementView) (script : Script) (n m : ℕ) (v w : Wanted) (a : IsFirstUnlicensed before t script n v) (b : IsFirstUnlicensed before t script m w) → a.context.place < b.context.place → ⊥
no_earlier before t script n m v w a b lt =
    let e = earlier_line before (proof_steps before t script b.context.filled) a.context.place b.context.place b.step lt (of_context before t script m b.step b.context) in
    lacks_not before a.step e.step v (same_context before script a.context.filled b.context.filled (scope_of t) (facts_of_statement t) (goal_of_statement t) a.context.place a.step e.step (of_context before t script n a.step a.context) e.stands) a.lacks e.licensed

pub order : (p q : ℕ) → (p < q) ⊎ ((q < p) ⊎ (p ≡ q))
order zero zero = inr (inr refl)
order zero (suc q) = inl (omega arith)
order (suc p) zero = inr (inl (omega arith))
order (suc p) (suc q) = elim (order p q) [
  | inl h ↦ inl (omega (arith, h))
  | inr h ↦ elim h [
    | inl k ↦ inr (inl (omega (arith, k)))
    | inr k ↦ inr (inr (ap suc k))
  ]
]

same_place : (before : List StatementView) (t : StatementView) (script : Script) (n m : ℕ) (v w : Wanted) (a : IsFirstUnlicensed before t script n v) (b : IsFirstUnlicensed before t script m w) → a.context.place ≡ b.context.place
same_place before t script n m v w a b = elim (order a.context.place b.context.place) [
  | inl h ↦ absurd (no_earlier before t script n m v w a b h)
  | inr h ↦ elim h [
    | inl k ↦ absurd (no_earlier before t script m n w v b a k)
    | inr k ↦ k
  ]
]

pub one_stop : (before : List StatementView) (t : StatementView) (script : Script) (n m : ℕ) (v w : Wanted) →
    IsFirstUnlicensed before t script n v → IsFirstUnlicensed before t script m w → (n ≡ m) × (v ≡ w)
one_stop before t script n m v w a b =
    let e = a.context.number ∙ ap suc (same_place before t script n m v w a b) ∙ sym b.context.number in
    (e, lacks_one before a.step b.step v w (one_context before t script m a.step b.step (subst (λ k. IsContext before t script k a.step) e a.context) b.context) a.lacks b.lacks)
