-- What has to be a fact, and by what is known of the variables is none.
use Rattle.std.proofs.Common.{◌≡◌, ◌≢◌, ℕ, ◌+◌, ◌<◌, List, [], ◌∷◌, refl, sym, ap, ◌∙◌, subst, arith, Bool, true, false, not, cond, ◌&&◌, ◌||◌, true≢false, eqb, eqb-true, eq-eqb, length, ◌⊎◌, inl, inr, Some, None, Option}
use Rattle.std.specs.Prelude.{slice_get}
use Rattle.std.specs.List.{list_any}
use Rattle.std.proofs.lemmas.Bool.{and_from, or_cases, or_left, or_right}
use Rattle.std.proofs.lemmas.Option.{same_Some}
use Rattle.e_literal.specs.declared.literal.Atom.{Atom}
use Rattle.e_literal.specs.declared.literal.Atom.TheVariants.{On, OnC, Inside, Center, Between, Same, MeetLL, MeetLC, MeetCC, EqP, EqL, EqC, MagEq, MagLt}
use Rattle.e_literal.specs.declared.literal.Lit.{Lit}
use Rattle.e_literal.specs.declared.object.Obj.{Obj}
use Rattle.e_literal.specs.declared.object.Scope.{Scope}
use Rattle.e_literal.specs.Facts.{has}
use Rattle.e_literal.specs.Rename.{atom_at}
use Rattle.e_literal.specs.Same.{same_neg, same_atom, same_lit}
use Rattle.e_literal.proofs.Booleans.{and_left, and_right, eqb_self}
use Rattle.e_clause.specs.Instance.{number, line_arg, circle_arg, lit_at, clause_of}
use Rattle.e_clause.specs.Rows.{Row}
use Rattle.e_clause.specs.Table.{table}
use Rattle.e_transfer.specs.declared.equations.Equation.{Equation}
use Rattle.e_transfer.specs.declared.equations.Equation.TheVariants as equation
use Rattle.e_transfer.specs.declared.query.Strength.{Strength}
use Rattle.e_transfer.specs.GivenGoals.{Suffices, IsFittingLiteral, NoneWithEquations}
use Rattle.e_transfer.specs.Marks.{relation_number, mark_number, lit_mark}
use Rattle.e_transfer.specs.inner.Equations.{agrees, all_agree, line_variable, circle_variable}
use Rattle.e_transfer.specs.inner.BoundFacts.{known_of, known_of_atom, fits, may_be_among, NoneHoldsWith}
use Rattle.e_transfer.specs.inner.Angles.{may_be}
use Rattle.e_transfer.specs.Listings.{numbers_of_atom}
use Rattle.e_transfer.proofs.Instances.{of_instance, at_map}
use Rattle.e_transfer.proofs.MarkedFacts.{relation_at, mark_alike, fact_of, some_at, fits_elsewhere}
use Rattle.e_transfer.proofs.Needs.{fitting}

-- what is known of a variable is its number
known_so : (f : ℕ → ℕ) (es : List Equation) (v n : ℕ) → n ≡ f v → all_agree f es ≡ true → may_be (known_of es v) n ≡ true
known_so f [] v n is so = refl
known_so f (equation.Same w u ∷ es) v n is so = known_so f es v n is (and_right (agrees f (equation.Same w u)) (all_agree f es) so)
known_so f (equation.Is w m ∷ es) v n is so = by (eqb w v) refl (known_so f es v n is (and_right (agrees f (equation.Is w m)) (all_agree f es) so))
  where
    by : (b : Bool) → eqb w v ≡ b → may_be (known_of es v) n ≡ true → may_be (cond b (Some m) (known_of es v)) n ≡ true
    by false at later = later
    by true at later =
        let here : m ≡ n = sym (eqb-true (f w) m (and_left (agrees f (equation.Is w m)) (all_agree f es) so)) ∙ (ap f (eqb-true w v at) ∙ sym is) in
        ap (eqb m) (sym here) ∙ eqb_self m

-- two numbers that are those of variables, and three
two_fit : (f : ℕ → ℕ) (es : List Equation) (v w a b : ℕ) → all_agree f es ≡ true → (eqb a (f v) && eqb b (f w)) ≡ true → fits (known_of es v, known_of es w, None) (a, b, 0) ≡ true
two_fit f es v w a b so same =
    and_from (may_be (known_of es v) a) (may_be (known_of es w) b && true) (known_so f es v a (eqb-true a (f v) (and_left (eqb a (f v)) (eqb b (f w)) same)) so)
    (and_from (may_be (known_of es w) b) true (known_so f es w b (eqb-true b (f w) (and_right (eqb a (f v)) (eqb b (f w)) same)) so) refl)

three_fit : (f : ℕ → ℕ) (es : List Equation) (v w u a b c : ℕ) → all_agree f es ≡ true → (eqb a (f v) && (eqb b (f w) && eqb c (f u))) ≡ true
    → fits (known_of es v, known_of es w, known_of es u) (a, b, c) ≡ true
three_fit f es v w u a b c so same =
    let rest = and_right (eqb a (f v)) (eqb b (f w) && eqb c (f u)) same in
    and_from (may_be (known_of es v) a) (may_be (known_of es w) b && may_be (known_of es u) c)
    (known_so f es v a (eqb-true a (f v) (and_left (eqb a (f v)) (eqb b (f w) && eqb c (f u)) same)) so)
    (and_from (may_be (known_of es w) b) (may_be (known_of es u) c) (known_so f es w b (eqb-true b (f w) (and_left (eqb b (f w)) (eqb c (f u)) rest)) so)
    (known_so f es u c (eqb-true c (f u) (and_right (eqb b (f w)) (eqb c (f u)) rest)) so))

atom_fits : (r : Row) (es : List Equation) (args : List Obj) (a b : Atom) → relation_number a < 12 → all_agree (number args) es ≡ true
    → same_atom b (atom_at (number args) (line_arg r args) (circle_arg r args) a) ≡ true → fits (known_of_atom r es a) (numbers_of_atom b) ≡ true
atom_fits r es args (On x l) (On a b) low so same = two_fit (number args) es x (line_variable r l) a b so same
atom_fits r es args (OnC x c) (OnC a b) low so same = two_fit (number args) es x (circle_variable r c) a b so same
atom_fits r es args (Inside x c) (Inside a b) low so same = two_fit (number args) es x (circle_variable r c) a b so same
atom_fits r es args (Center x c) (Center a b) low so same = two_fit (number args) es x (circle_variable r c) a b so same
atom_fits r es args (Between x y z) (Between a b c) low so same = three_fit (number args) es x y z a b c so same
atom_fits r es args (Same x y l) (Same a b c) low so same = three_fit (number args) es x y (line_variable r l) a b c so same
atom_fits r es args (MeetLL l m) (MeetLL a b) low so same = two_fit (number args) es (line_variable r l) (line_variable r m) a b so same
atom_fits r es args (MeetLC l c) (MeetLC a b) low so same = two_fit (number args) es (line_variable r l) (circle_variable r c) a b so same
atom_fits r es args (MeetCC c d) (MeetCC a b) low so same = two_fit (number args) es (circle_variable r c) (circle_variable r d) a b so same
atom_fits r es args (EqP x y) (EqP a b) low so same = two_fit (number args) es x y a b so same
atom_fits r es args (EqL l m) (EqL a b) low so same = two_fit (number args) es (line_variable r l) (line_variable r m) a b so same
atom_fits r es args (EqC c d) (EqC a b) low so same = two_fit (number args) es (circle_variable r c) (circle_variable r d) a b so same
atom_fits r es args (MagEq x y) b low so same = absurd (omega (arith, low))
atom_fits r es args (MagLt x y) b low so same = absurd (omega (arith, low))
atom_fits r es args a b low so same = absurd (true≢false (sym same))

-- a fact that is the literal may be it
fact_fits : (r : Row) (es : List Equation) (args : List Obj) (neg : Bool) (a : Atom) (facts : List Lit) → relation_number a < 12 → all_agree (number args) es ≡ true
    → has facts (record { neg = neg; atom = atom_at (number args) (line_arg r args) (circle_arg r args) a }) ≡ true
    → may_be_among (mark_number (relation_number a) neg) (known_of_atom r es a) facts ≡ true
fact_fits r es args neg a [] low so there = there
fact_fits r es args neg a (f ∷ fs) low so there =
    let l : Lit = record { neg = neg; atom = atom_at (number args) (line_arg r args) (circle_arg r args) a } in
    let mark = mark_number (relation_number a) neg in
    let known = known_of_atom r es a in
    let here = eqb (lit_mark f) mark && fits known (numbers_of_atom f.atom) in
    elim (or_cases (same_lit f l) (has fs l) there) [
      | inl same ↦ or_left here (may_be_among mark known fs)
          (and_from (eqb (lit_mark f) mark) (fits known (numbers_of_atom f.atom))
          (eq-eqb (lit_mark f) mark (mark_alike f l same ∙ ap (λ k. mark_number k neg) (relation_at (number args) (line_arg r args) (circle_arg r args) a)))
          (atom_fits r es args a f.atom low so (and_right (same_neg f.neg neg) (same_atom f.atom l.atom) same)))
      | inr later ↦ or_right here (may_be_among mark known fs) (fact_fits r es args neg a fs low so later)
    ]

-- where the literal at the place has not the goal's mark, and no fact may negate it
pub none_holds_with : (m : Strength) (facts : List Lit) (goal : Lit) (r : Row) (es : List Equation) (at : ℕ) (k : Lit) → slice_get (clause_of r) at ≡ Some k
    → relation_number k.atom < 12 → lit_mark k ≢ lit_mark goal → may_be_among (mark_number (relation_number k.atom) (not k.neg)) (known_of_atom r es k.atom) facts ≡ false
    → NoneHoldsWith m facts goal r es at
none_holds_with m facts goal r es at k here low unlike none = λ l is args so fits.
    let e : k ≡ l = same_Some k l (sym here ∙ is) in
    let p = number args in
    let q = line_arg r args in
    let c = circle_arg r args in
    let still : relation_number (atom_at p q c k.atom) ≡ relation_number k.atom = relation_at p q c k.atom in
    elim (subst (λ (j : Lit). IsFittingLiteral m facts goal false (lit_at r args j)) (sym e) fits) [
      | inl same ↦ unlike (ap (λ n. mark_number n k.neg) (sym still) ∙ mark_alike (record { neg = k.neg; atom = atom_at p q c k.atom }) goal same)
      | inr enough ↦ true≢false
          (sym (fact_fits r es args (not k.neg) k.atom facts low so (fact_of m facts (record { neg = not k.neg; atom = atom_at p q c k.atom }) (inr (omega (arith, low, still))) enough)) ∙ none)
    ]

pub none_may_be : (m : Strength) (facts : List Lit) (goal : Lit) (r : Row) (es : List Equation) (at goal_mark relation mark : ℕ) (neg : Bool) (k j : Lit) (known : Option ℕ × Option ℕ × Option ℕ)
    → slice_get (clause_of r) at ≡ Some k → relation ≡ relation_number k.atom → neg ≡ k.neg → slice_get (clause_of r) at ≡ Some j → known ≡ known_of_atom r es j.atom → relation < 12
    → mark_number relation neg ≢ goal_mark → goal_mark ≡ lit_mark goal → mark ≡ mark_number relation (not neg) → may_be_among mark known facts ≡ false → NoneHoldsWith m facts goal r es at
none_may_be m facts goal r es at goal_mark relation mark neg k j known here is sign there seen low unlike of_goal marked none =
    let number = relation_number k.atom in
    let one : mark_number relation neg ≡ lit_mark k = ap (λ n. mark_number n neg) is ∙ ap (mark_number number) sign in
    let turned : mark ≡ mark_number number (not k.neg) = marked ∙ ap (λ n. mark_number n (not neg)) is ∙ ap (λ b. mark_number number (not b)) sign in
    let so : known ≡ known_of_atom r es k.atom = seen ∙ ap (λ (l : Lit). known_of_atom r es l.atom) (same_Some j k (sym there ∙ here)) in
    none_holds_with m facts goal r es at k here (omega (arith, low, is)) (λ e. unlike (one ∙ e ∙ sym of_goal))
    (sym (ap (λ n. may_be_among n known facts) turned ∙ ap (λ o. may_be_among (mark_number number (not k.neg)) o facts) so) ∙ none)

-- then no instance whose variables are so has the goal
pub none_elsewhere_with : (m : Strength) (scope : Scope) (facts : List Lit) (goal : Lit) (rule place at : ℕ) (r : Row) (es : List Equation) → slice_get table rule ≡ Some r
    → at < length (clause_of r) → NoneHoldsWith m facts goal r es at → NoneWithEquations m scope facts goal rule place es
none_elsewhere_with m scope facts goal rule place at r es of_table less none args so gives =
    let some = some_at (clause_of r) at less in
    let l = some.0 in
    let here = some.1 in
    let of = of_instance rule args r gives.lits of_table gives.instance in
    let is : slice_get gives.lits at ≡ Some (lit_at r args l) = ap (λ (ls : List Lit). slice_get ls at) of.1 ∙ at_map (lit_at r args) (clause_of r) at l here in
    none l here args so (fits_elsewhere m facts goal (lit_at r args l) (eqb at place) (fitting m facts gives.lits goal (lit_at r args l) place at gives.here gives.suffice is))
