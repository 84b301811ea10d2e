-- The step lines of a block: the parser makes of them what the grammar says.
use Rattle.std.proofs.Common.{◌≡◌, ℕ, ◌+◌, ◌≤◌, Bool, true, false, eqb, List, [], ◌∷◌, ◌++◌, length, Option, Some, None, Result, Ok, Err, refl, ap, subst, arith}
use Rattle.std.specs.Prelude.{filter, is_none}
use Rattle.std.proofs.lemmas.Bool.{eqb-true}
use Rattle.e_literal.specs.declared.object.Sort.{Sort}
use Rattle.e_literal.specs.declared.object.Obj.{Obj}
use Rattle.e_literal.specs.declared.literal.Lit.{Lit}
use Rattle.e_construct.specs.declared.construction.Construction.{Construction}
use Rattle.e_construct.specs.declared.superpose.Superpose.{Superpose}
use Rattle.e_construct.specs.Construct.{sorts_made, gives_of_construction}
use Rattle.e_construct.specs.Superposing as superposing
use Rattle.e_construct.proofs.Given.{gives_plain}
use Rattle.e_deriv.specs.declared.names.Names.{Names}
use Rattle.e_deriv.specs.Naming.{with_new_names}
use Rattle.e_deriv.specs.PlainStep.{PlainStep, Cited, Inferred, Made, Applied}
use Rattle.e_line.specs.declared.fault.FaultKind.{FaultKind}
use Rattle.e_line.specs.declared.fault.What.TheVariants as limits
use Rattle.e_line.specs.declared.literal.RawLit.{RawLit}
use Rattle.e_line.specs.declared.literal.RawAtom.{RawAtom}
use Rattle.e_line.specs.declared.literal.RawAtom.TheVariants as rawatoms
use Rattle.e_line.specs.declared.lets.RawLet.{RawLet}
use Rattle.e_line.specs.declared.superposes.RawSuperpose.{RawSuperpose}
use Rattle.e_line.specs.declared.applies.RawApply.{RawApply}
use Rattle.e_book.specs.declared.blocks.BlockKind.{BlockKind}
use Rattle.e_book.specs.declared.blocks.BlockKind.TheVariants as kind
use Rattle.e_line.specs.declared.raw_line.RawLine.{RawLine}
use Rattle.e_line.specs.declared.raw_line.RawLine.TheVariants as rawlines
use Rattle.e_book.specs.declared.parser.TheoremParser.{TheoremParser}
use Rattle.e_book.specs.declared.parser.Section.TheVariants as places
use Rattle.e_line.specs.Reading.{◌>>=◌}
use Rattle.e_names.specs.TitledStatements.{TitledStatement, place_in, theorem_of}
use Rattle.e_line.specs.Limits.{most_steps, most_depth, most_facts, most_monomials_of_facts, most_blanks, within, monomials, count_monomials}
use Rattle.e_line.specs.Literals.{is_diagram_raw}
use Rattle.e_names.specs.Scope.{scope_of_names, right_count, object_as, fresh, lit_in, lits_in, by_in, let_in}
use Rattle.e_names.specs.Superposes.{superpose_in}
use Rattle.e_names.specs.Applies.{count_blanks, known_place, entry_in, entries_in, apply_in}
use Rattle.e_line.specs.LineLimits.{have_few_monomials, have_low_coefficients, count_raw_monomials, check_literal_limits}
use Rattle.e_book.specs.LineLimits.{FewNamed, few_objects}
use Rattle.e_book.specs.Steps.{begun_with, begun_terms, terms_after_raw, terms_after, with_terms, with_step, after_let, with_use, after_apply, outer_of, inside_block, inside_if_room, after_claim, after_superpose, after_cases, after_by, after_hence}
use Rattle.e_book.specs.Open.{Open, Proving, ByClaim, BySuperposition, ByCase}
use Rattle.e_book.specs.Counts.{lines_of_step, lines_first, literals_on, blanks_on}
use Rattle.e_book.specs.Grammar.{one_more_step, inner_block, goes_on}
use Rattle.e_line.proofs.base.Bound.{bind_ok, ok_is, read_ok}
use Rattle.e_names.proofs.literals.ShortLits.{count_first}
use Rattle.e_names.proofs.read_lines.WellRead.{no_monomials}
use Rattle.e_book.proofs.parsers.KeptSums.{one_count}
use Rattle.e_book.proofs.fit_theorems.ConditionsOfSteps.{plain_count}
use Rattle.e_names.proofs.read_lines.LiteralsOfRawLines.{by_plain}
use Rattle.e_names.proofs.read_lines.Building.{let_fits}
use Rattle.e_book.proofs.grammar.ParserState.{opener_of, around_of, head_of, Counted, context_in, OuterTied, BlockOf, Alike, tied_there}
use Rattle.e_book.proofs.grammar.LimitTests.{blank_tests, literal_tests, fact_tests, depth_tests, step_tests, all_tests, kept, then_limits, test, test_in, pass_le, pass_objects, test_objects, test_monos, pass_literals, pass_terms, pass_rest, both}
use Rattle.e_book.proofs.grammar.BlockCounts.{lines_more, counted_more, counted_with, block_limits, step_block}

-- ---- one more step

abbrev with_put : TheoremParser → PlainStep → ℕ → TheoremParser
with_put x s g = record x { lines = x.lines + 1; steps = x.steps ++ s ∷ []; facts = x.facts + g }

step_alike : (known : List TitledStatement) (x : TheoremParser) (s : PlainStep) (g : ℕ) (n : Open) (raws : List RawLit) (depth m b : ℕ) → depth ≤ most_depth
    → (x.lines + 1 ≤ most_steps → x.facts + g ≤ most_facts → Alike known (read_ok (with_put x s g)) (kept (literal_tests raws m b) n))
    → Alike known (with_step x s g) (kept (step_tests raws (x.lines + 1) depth (x.facts + g) m b) n)
unfolding with_step
step_alike known x s g n raws depth m b deep h =
    let y : Result TheoremParser FaultKind = read_ok (with_put x s g) in
    let facts : Result TheoremParser FaultKind = within (x.facts + g) most_facts limits.Facts >>= λ none. y in
    test known facts n (x.lines + 1) most_steps limits.Steps (depth_tests raws depth (x.facts + g) m b)
    (λ a. pass_le known facts n depth most_depth limits.Depth (fact_tests raws (x.facts + g) m b) deep
    (test known y n (x.facts + g) most_facts limits.Facts (literal_tests raws m b) (λ c. h a c)))

-- the same, where more is read after it
step_then : (known : List TitledStatement) (x : TheoremParser) (s : PlainStep) (g : ℕ) (r : TheoremParser → Result TheoremParser FaultKind) (n : Open) (raws : List RawLit) (depth m b : ℕ) → depth ≤ most_depth
    → (x.lines + 1 ≤ most_steps → x.facts + g ≤ most_facts → Alike known (r (with_put x s g)) (kept (literal_tests raws m b) n))
    → Alike known (with_step x s g >>= r) (kept (step_tests raws (x.lines + 1) depth (x.facts + g) m b) n)
unfolding with_step
step_then known x s g r n raws depth m b deep h =
    let y : Result TheoremParser FaultKind = read_ok (with_put x s g) in
    let facts : Result TheoremParser FaultKind = within (x.facts + g) most_facts limits.Facts >>= λ none. y in
    test_in known facts r n (x.lines + 1) most_steps limits.Steps (depth_tests raws depth (x.facts + g) m b)
    (λ a. pass_le known (facts >>= r) n depth most_depth limits.Depth (fact_tests raws (x.facts + g) m b) deep
    (test_in known y r n (x.facts + g) most_facts limits.Facts (literal_tests raws m b) (λ c. h a c)))

-- the limits of literals that become facts
pub terms_alike : (known : List TitledStatement) (y : TheoremParser) (raws : List RawLit) (n : Open) → (y.terms + count_raw_monomials raws ≤ most_monomials_of_facts → Alike known (read_ok (record y { terms = y.terms + count_raw_monomials raws })) (read_ok n))
    → Alike known (with_terms y raws) (kept (literal_tests raws (y.terms + count_raw_monomials raws) 0) n)
unfolding with_terms
terms_alike known y raws n h =
    let sum = y.terms + count_raw_monomials raws in
    let then : ℕ → Result TheoremParser FaultKind = λ k. read_ok (record y { terms = k }) in
    test_monos known (terms_after_raw y.terms raws >>= then) n raws sum 0
    (test_in known (read_ok sum) then n sum most_monomials_of_facts limits.Terms (blank_tests 0)
    (λ w. pass_le known (then sum) n 0 most_blanks limits.Blanks [] (omega arith) (h w)))

-- the parser with one more step is what the lines have said
step_ends : (known : List TitledStatement) (d : TheoremParser) (s : PlainStep) (ns : Names) (facts terms : ℕ) → BlockOf known d → d.section ≡ places.Proving → FewNamed d.names → lines_of_step s ≡ 1
    → Counted ns facts terms (context_in known (head_of d) d.blocks (d.steps ++ s ∷ [])) → FewNamed ns → d.lines + 1 ≤ most_steps → facts ≤ most_facts → terms ≤ most_monomials_of_facts
    → Alike known (read_ok (record d { in_scope = ns; lines = d.lines + 1; steps = d.steps ++ s ∷ []; facts = facts; terms = terms })) (read_ok (Proving (head_of d) (around_of d.blocks) (d.steps ++ s ∷ [])))
step_ends known d s ns facts terms t at names one c few short k m =
    let e : TheoremParser = record d { in_scope = ns; lines = d.lines + 1; steps = d.steps ++ s ∷ []; facts = facts; terms = terms } in
    tied_there known e (Proving (head_of d) (around_of d.blocks) (d.steps ++ s ∷ [])) places.Proving at names (step_block known d s ns facts terms t one c few short k m) refl

-- the limits after one more step, by its counts
step_limits : (known : List TitledStatement) (d : TheoremParser) (r : Result TheoremParser FaultKind) (s : PlainStep) (f : RawLine) (ns : Names) (facts terms : ℕ) → BlockOf known d → lines_of_step s ≡ 1
    → Counted ns facts terms (context_in known (head_of d) d.blocks (d.steps ++ s ∷ []))
    → Alike known r (kept (all_tests (literals_on f) ns (d.lines + 1) (length d.blocks + 1) facts terms (blanks_on f)) (Proving (head_of d) (around_of d.blocks) (d.steps ++ s ∷ [])))
    → Alike known r (then_limits known f (Proving (head_of d) (around_of d.blocks) (d.steps ++ s ∷ [])))
step_limits known d r s f ns facts terms t one c a =
    block_limits known r (head_of d) d.blocks (d.steps ++ s ∷ []) f ns (d.lines + 1) (length d.blocks + 1) facts terms c (omega (arith, t.lines, one, lines_more d.steps s)) refl a

-- ---- citations

short_diagram : (neg : Bool) (a : RawAtom) → is_diagram_raw a ≡ true → (have_few_monomials (record { neg = neg; atom = a } ∷ []) ≡ true) × (have_low_coefficients (record { neg = neg; atom = a } ∷ []) ≡ true)
short_diagram neg (rawatoms.SumsEqual x y) h = absurd cc
short_diagram neg (rawatoms.SumsLess x y) h = absurd cc
short_diagram neg (rawatoms.SumsAtMost x y) h = absurd cc
short_diagram neg a h = (refl, refl)

pub by_alike : (known : List TitledStatement) (d : TheoremParser) (rule : List ℕ) (names : List (List ℕ)) (l : RawLit) → BlockOf known d → d.section ≡ places.Proving → FewNamed d.names → is_diagram_raw l.atom ≡ true
    → Alike known (after_by d rule names l) (goes_on known d.in_scope (head_of d) (around_of d.blocks) d.steps (rawlines.By rule names l) >>= then_limits known (rawlines.By rule names l))
by_alike known d rule names l t at few plain =
    let f = rawlines.By rule names l in
    both known (by_in d.in_scope rule names l) (λ b. with_step d (Cited b) 1) (λ b. one_more_step (head_of d) (around_of d.blocks) d.steps (Cited b)) (then_limits known f)
    (λ b e.
    let s = Cited b in
    let n = Proving (head_of d) (around_of d.blocks) (d.steps ++ s ∷ []) in
    let none : monomials b.lit.atom ≡ 0 = no_monomials b.lit.atom (by_plain d.in_scope rule names l b plain e) in
    let sum : d.terms + count_monomials (b.lit ∷ []) ≡ d.terms = omega (arith, none, count_first b.lit []) in
    let c = counted_more known (head_of d) d.blocks d.steps s d.in_scope d.in_scope d.facts (d.facts + 1) d.terms d.terms t.counted refl refl sum in
    let short = short_diagram l.neg l.atom plain in
    step_limits known d (with_step d s 1) s f d.in_scope (d.facts + 1) d.terms t refl c
    (pass_objects known (with_step d s 1) n (l ∷ []) d.in_scope (d.lines + 1) (length d.blocks + 1) (d.facts + 1) d.terms 0 t.few
    (step_alike known d s 1 n (l ∷ []) (length d.blocks + 1) d.terms 0 t.shallow
    (λ a k. pass_rest known (read_ok (with_put d s 1)) n (l ∷ []) d.terms 0 short.0 short.1 t.few_terms (omega arith)
    (step_ends known d s d.in_scope (d.facts + 1) d.terms t at few refl c t.few a k t.few_terms)))))

-- ---- literals that are to be allowed

pub hence_alike : (known : List TitledStatement) (d : TheoremParser) (r : RawLit) → BlockOf known d → d.section ≡ places.Proving → FewNamed d.names
    → Alike known (after_hence d r) (goes_on known d.in_scope (head_of d) (around_of d.blocks) d.steps (rawlines.Hence r) >>= then_limits known (rawlines.Hence r))
hence_alike known d r t at few =
    let f = rawlines.Hence r in
    both known (lit_in d.in_scope r) (λ l. with_step d (Inferred l None) 1 >>= λ e. with_terms e (r ∷ [])) (λ l. one_more_step (head_of d) (around_of d.blocks) d.steps (Inferred l None)) (then_limits known f)
    (λ l e.
    let s = Inferred l None in
    let n = Proving (head_of d) (around_of d.blocks) (d.steps ++ s ∷ []) in
    let m = d.terms + count_raw_monomials (r ∷ []) in
    let sum : d.terms + count_monomials (l ∷ []) ≡ m = omega (arith, one_count d.in_scope r l e, count_first l []) in
    let c = counted_more known (head_of d) d.blocks d.steps s d.in_scope d.in_scope d.facts (d.facts + 1) d.terms m t.counted refl refl sum in
    let then : TheoremParser → Result TheoremParser FaultKind = λ x. with_terms x (r ∷ []) in
    step_limits known d (with_step d s 1 >>= then) s f d.in_scope (d.facts + 1) m t refl c
    (pass_objects known (with_step d s 1 >>= then) n (r ∷ []) d.in_scope (d.lines + 1) (length d.blocks + 1) (d.facts + 1) m 0 t.few
    (step_then known d s 1 then n (r ∷ []) (length d.blocks + 1) m 0 t.shallow
    (λ a k. terms_alike known (with_put d s 1) (r ∷ []) n (λ w. step_ends known d s d.in_scope (d.facts + 1) m t at few refl c t.few a k w)))))

-- ---- constructions

made_alike : (known : List TitledStatement) (d : TheoremParser) (raw : RawLet) (construction : Construction) → BlockOf known d → d.section ≡ places.Proving → FewNamed d.names → let_in d.in_scope raw ≡ Ok construction
    → Alike known (few_objects (with_new_names d.in_scope (sorts_made construction) raw.new) >>= λ few. with_step (record d { in_scope = with_new_names d.in_scope (sorts_made construction) raw.new }) (Made construction raw.new []) (length (gives_of_construction construction (scope_of_names d.in_scope))))
    (then_limits known (rawlines.Let raw) (Proving (head_of d) (around_of d.blocks) (d.steps ++ Made construction raw.new [] ∷ [])))
made_alike known d raw construction t at few e =
    let s = Made construction raw.new [] in
    let n = Proving (head_of d) (around_of d.blocks) (d.steps ++ s ∷ []) in
    let after = with_new_names d.in_scope (sorts_made construction) raw.new in
    let given = gives_of_construction construction (scope_of_names d.in_scope) in
    let x : TheoremParser = record d { in_scope = after } in
    let next : Result TheoremParser FaultKind = with_step x s (length given) in
    let none = plain_count given (gives_plain construction (scope_of_names d.in_scope) (let_fits d.in_scope raw construction e).fits) in
    let sum : d.terms + count_monomials given ≡ d.terms = omega (arith, none) in
    let c = counted_more known (head_of d) d.blocks d.steps s d.in_scope after d.facts (d.facts + length given) d.terms d.terms t.counted refl refl sum in
    step_limits known d (few_objects after >>= λ few. next) s (rawlines.Let raw) after (d.facts + length given) d.terms t refl c
    (test_objects known next n [] after (d.lines + 1) (length d.blocks + 1) (d.facts + length given) d.terms 0
    (λ objects. step_alike known x s (length given) n [] (length d.blocks + 1) d.terms 0 t.shallow
    (λ a k. pass_rest known (read_ok (with_put x s (length given))) n [] d.terms 0 refl refl t.few_terms (omega arith)
    (step_ends known d s after (d.facts + length given) d.terms t at few refl c objects a k t.few_terms))))

pub let_alike : (known : List TitledStatement) (d : TheoremParser) (raw : RawLet) → BlockOf known d → d.section ≡ places.Proving → FewNamed d.names
    → Alike known (after_let d raw) (goes_on known d.in_scope (head_of d) (around_of d.blocks) d.steps (rawlines.Let raw) >>= then_limits known (rawlines.Let raw))
unfolding after_let
let_alike known d raw t at few =
    both known (let_in d.in_scope raw)
    (λ construction. few_objects (with_new_names d.in_scope (sorts_made construction) raw.new) >>= λ few. with_step (record d { in_scope = with_new_names d.in_scope (sorts_made construction) raw.new }) (Made construction raw.new []) (length (gives_of_construction construction (scope_of_names d.in_scope))))
    (λ construction. one_more_step (head_of d) (around_of d.blocks) d.steps (Made construction raw.new [])) (then_limits known (rawlines.Let raw))
    (λ construction e. made_alike known d raw construction t at few e)

-- ---- uses of earlier theorems

-- as many blanks as on the line
abbrev read_entry : Option Obj → Result (Option Obj) FaultKind
read_entry o = Ok o

blanks_first : (ns : Names) (sort : Sort) (a : Option (List ℕ)) (o : Option Obj) (args : List (Option (List ℕ))) (os : List (Option Obj)) → entry_in ns sort a ≡ Ok o → length (filter is_none os) ≡ length (filter is_none args)
    → length (filter is_none (o ∷ os)) ≡ length (filter is_none (a ∷ args))
blanks_first ns sort None None args os e h = omega (arith, h)
blanks_first ns sort (Some a) (Some o) args os e h = h
blanks_first ns sort None (Some o) args os e h = absurd cc
blanks_first ns sort (Some a) None args os e h = absurd (no_blank (object_as ns sort a) e)
  where
    no_blank : (r : Result Obj FaultKind) → (r >>= λ o. read_entry (Some o)) ≡ read_entry None → ⊥
    no_blank (Ok o) k = absurd cc
    no_blank (Err f) k = absurd cc

counted_right : (b : Bool) (u : Unit {0}) → right_count b ≡ Ok u → b ≡ true
counted_right true u e = refl
counted_right false u e = absurd cc

blanks_read : (ns : Names) (sorts : List Sort) (args : List (Option (List ℕ))) (os : List (Option Obj)) → length args ≡ length sorts → entries_in ns sorts args ≡ Ok os → count_blanks os ≡ length (filter is_none args)
blanks_read ns [] [] os n e = subst (λ (x : List (Option Obj)). count_blanks x ≡ 0) (ok_is [] os e) refl
blanks_read ns [] (a ∷ args) os n e = absurd (omega (arith, n))
blanks_read ns (sort ∷ sorts) [] os n e = absurd (omega (arith, n))
blanks_read ns (sort ∷ sorts) (a ∷ args) os n e =
    let o = bind_ok (entry_in ns sort a) (λ o. entries_in ns sorts args >>= λ os. read_ok (o ∷ os)) os e in
    let rest = bind_ok (entries_in ns sorts args) (λ os. read_ok (o.0 ∷ os)) os o.2 in
    subst (λ (x : List (Option Obj)). count_blanks x ≡ length (filter is_none (a ∷ args))) (ok_is (o.0 ∷ rest.0) os rest.2)
    (blanks_first ns sort a o.0 args rest.0 o.1 (blanks_read ns sorts args rest.0 (omega (arith, n)) rest.1))

-- the line's arguments, one for each declared object
blanks_applied : (known : List TitledStatement) (ns : Names) (raw : RawApply) (a : ℕ × List (Option Obj)) → apply_in known ns raw ≡ Ok a → count_blanks a.1 ≡ blanks_on (rawlines.Apply raw)
unfolding apply_in
blanks_applied known ns raw a e =
    let made_of : ℕ → List (Option Obj) → ℕ × List (Option Obj) = λ k args. (k, args) in
    let k = bind_ok (known_place (place_in known raw.title))
    (λ k. right_count (eqb (length raw.args) (length (theorem_of known k).declared)) >>= λ some. right_count (eqb (length raw.new) (length (theorem_of known k).made)) >>= λ more.
    entries_in ns (theorem_of known k).declared raw.args >>= λ args. fresh ns [] raw.new >>= λ free. read_ok (made_of k args)) a e in
    let t = theorem_of known k.0 in
    let some = bind_ok (right_count (eqb (length raw.args) (length t.declared)))
    (λ some. right_count (eqb (length raw.new) (length t.made)) >>= λ more. entries_in ns t.declared raw.args >>= λ args. fresh ns [] raw.new >>= λ free. read_ok (made_of k.0 args)) a k.2 in
    let more = bind_ok (right_count (eqb (length raw.new) (length t.made))) (λ more. entries_in ns t.declared raw.args >>= λ args. fresh ns [] raw.new >>= λ free. read_ok (made_of k.0 args)) a some.2 in
    let args = bind_ok (entries_in ns t.declared raw.args) (λ args. fresh ns [] raw.new >>= λ free. read_ok (made_of k.0 args)) a more.2 in
    let free = bind_ok (fresh ns [] raw.new) (λ free. read_ok (made_of k.0 args.0)) a args.2 in
    let count = eqb-true (length raw.args) (length t.declared) (counted_right (eqb (length raw.args) (length t.declared)) some.0 some.1) in
    let is : args.0 ≡ a.1 = ap (λ (p : ℕ × List (Option Obj)). p.1) (ok_is (made_of k.0 args.0) a free.2) in
    subst (λ (os : List (Option Obj)). count_blanks os ≡ blanks_on (rawlines.Apply raw)) is (blanks_read ns t.declared raw.args args.0 count args.1)

use_alike : (known : List TitledStatement) (d : TheoremParser) (raw : RawApply) (theorem : ℕ) (args : List (Option Obj)) → BlockOf known d → d.section ≡ places.Proving → FewNamed d.names → count_blanks args ≡ blanks_on (rawlines.Apply raw)
    → Alike known (with_use d (theorem_of known theorem) theorem args raw.new) (then_limits known (rawlines.Apply raw) (Proving (head_of d) (around_of d.blocks) (d.steps ++ Applied theorem args raw.new [] ∷ [])))
unfolding with_use
use_alike known d raw theorem args t at few blanks =
    let s = Applied theorem args raw.new [] in
    let n = Proving (head_of d) (around_of d.blocks) (d.steps ++ s ∷ []) in
    let shown = (theorem_of known theorem).shown in
    let after = with_new_names d.in_scope (theorem_of known theorem).made raw.new in
    let m = d.terms + count_monomials shown in
    let k = d.facts + length shown in
    let x : TheoremParser = record d { in_scope = after } in
    let y : TheoremParser = with_put x s (length shown) in
    let last : TheoremParser → ℕ → Result TheoremParser FaultKind = λ v n. within (count_blanks args) most_blanks limits.Blanks >>= λ written. read_ok (record v { terms = n }) in
    let then : TheoremParser → Result TheoremParser FaultKind = λ v. terms_after v.terms shown >>= λ n. last v n in
    let next : Result TheoremParser FaultKind = with_step x s (length shown) >>= then in
    let c = counted_more known (head_of d) d.blocks d.steps s d.in_scope after d.facts k d.terms m t.counted refl refl refl in
    step_limits known d (few_objects after >>= λ few. next) s (rawlines.Apply raw) after k m t refl c
    (subst (λ (b : ℕ). Alike known (few_objects after >>= λ few. next) (kept (all_tests [] after (d.lines + 1) (length d.blocks + 1) k m b) n)) blanks
    (test_objects known next n [] after (d.lines + 1) (length d.blocks + 1) k m (count_blanks args)
    (λ objects. step_then known x s (length shown) then n [] (length d.blocks + 1) m (count_blanks args) t.shallow
    (λ a w. pass_literals known (then y) n [] m (count_blanks args) refl refl
    (test_in known (read_ok m) (last y) n m most_monomials_of_facts limits.Terms (blank_tests (count_blanks args))
    (λ z. test known (read_ok (record y { terms = m })) n (count_blanks args) most_blanks limits.Blanks []
    (λ u. step_ends known d s after k m t at few refl c objects a w z)))))))

pub apply_alike : (known : List TitledStatement) (d : TheoremParser) (raw : RawApply) → BlockOf known d → d.section ≡ places.Proving → FewNamed d.names
    → Alike known (after_apply known d raw) (goes_on known d.in_scope (head_of d) (around_of d.blocks) d.steps (rawlines.Apply raw) >>= then_limits known (rawlines.Apply raw))
unfolding after_apply
apply_alike known d raw t at few =
    both known (apply_in known d.in_scope raw) (λ a. with_use d (theorem_of known a.0) a.0 a.1 raw.new) (λ a. one_more_step (head_of d) (around_of d.blocks) d.steps (Applied a.0 a.1 raw.new [])) (then_limits known (rawlines.Apply raw))
    (λ a e. use_alike known d raw a.0 a.1 t at few (blanks_applied known d.in_scope raw a e))

-- ---- inner blocks

inner_then : (known : List TitledStatement) (d : TheoremParser) (op : BlockKind) (g : ℕ) (r : TheoremParser → Result TheoremParser FaultKind) (n : Open) (raws : List RawLit) (m b : ℕ)
    → (d.lines + 1 ≤ most_steps → length d.blocks + 2 ≤ most_depth → d.facts + g ≤ most_facts → Alike known (r (inside_block d op g)) (kept (literal_tests raws m b) n))
    → Alike known (inside_if_room d op g >>= r) (kept (step_tests raws (d.lines + 1) (length d.blocks + 2) (d.facts + g) m b) n)
unfolding inside_if_room
inner_then known d op g r n raws m b h =
    let y : Result TheoremParser FaultKind = read_ok (inside_block d op g) in
    let facts : Result TheoremParser FaultKind = within (d.facts + g) most_facts limits.Facts >>= λ none. y in
    let deep : Result TheoremParser FaultKind = within (length d.blocks + 2) most_depth limits.Depth >>= λ shallow. facts in
    test_in known deep r n (d.lines + 1) most_steps limits.Steps (depth_tests raws (length d.blocks + 2) (d.facts + g) m b)
    (λ a. test_in known facts r n (length d.blocks + 2) most_depth limits.Depth (fact_tests raws (d.facts + g) m b)
    (λ k. test_in known y r n (d.facts + g) most_facts limits.Facts (literal_tests raws m b) (λ w. h a k w)))

-- the limits of an inner block, by its counts
inner_limits : (known : List TitledStatement) (d : TheoremParser) (r : Result TheoremParser FaultKind) (op : BlockKind) (f : RawLine) (ns : Names) (facts terms : ℕ) → BlockOf known d → lines_first (opener_of op) ≡ 0
    → Counted ns facts terms (context_in known (head_of d) (outer_of d op ∷ d.blocks) [])
    → Alike known r (kept (all_tests (literals_on f) ns (d.lines + 1) (length d.blocks + 2) facts terms (blanks_on f)) (Proving (head_of d) (around_of (outer_of d op ∷ d.blocks)) []))
    → Alike known r (then_limits known f (Proving (head_of d) (around_of (outer_of d op ∷ d.blocks)) []))
inner_limits known d r op f ns facts terms t none c a =
    block_limits known r (head_of d) (outer_of d op ∷ d.blocks) [] f ns (d.lines + 1) (length d.blocks + 2) facts terms c (omega (arith, t.lines, none)) (omega arith) a

-- the parser with an inner block is what the lines have said
inner_ends : (known : List TitledStatement) (d : TheoremParser) (op : BlockKind) (ns : Names) (facts terms : ℕ) → BlockOf known d → d.section ≡ places.Proving → FewNamed d.names → lines_first (opener_of op) ≡ 0
    → d.facts + begun_with op ≤ most_facts → d.terms + begun_terms op ≤ most_monomials_of_facts
    → Counted ns facts terms (context_in known (head_of d) (outer_of d op ∷ d.blocks) []) → FewNamed ns → d.lines + 1 ≤ most_steps → length d.blocks + 2 ≤ most_depth → facts ≤ most_facts → terms ≤ most_monomials_of_facts
    → Alike known (read_ok (record d { lines = d.lines + 1; blocks = outer_of d op ∷ d.blocks; steps = []; in_scope = ns; facts = facts; terms = terms })) (read_ok (Proving (head_of d) (around_of (outer_of d op ∷ d.blocks)) []))
inner_ends known d op ns facts terms t at names none room sums c few short deep k m =
    let e : TheoremParser = record d { lines = d.lines + 1; blocks = outer_of d op ∷ d.blocks; steps = []; in_scope = ns; facts = facts; terms = terms } in
    let outer : OuterTied known (head_of d) d.blocks (outer_of d op) = record { counted = t.counted; few = record { in_scope = t.few; facts = room; terms = sums } } in
    let block : BlockOf known e = record {
      counted = c;
      few = few;
      few_facts = k;
      few_terms = m;
      lines = omega (arith, t.lines, none);
      short = short;
      blocks = (outer, t.blocks);
      shallow = omega (arith, deep);
    } in
    tied_there known e (Proving (head_of d) (around_of (outer_of d op ∷ d.blocks)) []) places.Proving at names block refl

pub claim_alike : (known : List TitledStatement) (d : TheoremParser) (raws : List RawLit) → BlockOf known d → d.section ≡ places.Proving → FewNamed d.names
    → Alike known (after_claim d raws) (goes_on known d.in_scope (head_of d) (around_of d.blocks) d.steps (rawlines.Claim raws) >>= then_limits known (rawlines.Claim raws))
unfolding after_claim
claim_alike known d raws t at few =
    let f = rawlines.Claim raws in
    both known (lits_in d.in_scope raws) (λ ls. inside_if_room d (kind.Claim ls) 0 >>= λ e. check_literal_limits raws >>= λ few. read_ok e) (λ ls. inner_block (head_of d) (around_of d.blocks) d.steps (ByClaim ls)) (then_limits known f)
    (λ ls e.
    let op = kind.Claim ls in
    let n = Proving (head_of d) (around_of (outer_of d op ∷ d.blocks)) [] in
    let then : TheoremParser → Result TheoremParser FaultKind = λ x. check_literal_limits raws >>= λ few. read_ok x in
    let next : Result TheoremParser FaultKind = inside_if_room d op 0 >>= then in
    let c : Counted d.in_scope (d.facts + 0) d.terms (context_in known (head_of d) (outer_of d op ∷ d.blocks) []) = record { names = t.counted.names; facts = omega (arith, t.counted.facts); terms = t.counted.terms } in
    inner_limits known d next op f d.in_scope (d.facts + 0) d.terms t refl c
    (pass_objects known next n raws d.in_scope (d.lines + 1) (length d.blocks + 2) (d.facts + 0) d.terms 0 t.few
    (inner_then known d op 0 then n raws d.terms 0
    (λ a k w. test_monos known (read_ok (inside_block d op 0)) n raws d.terms 0
    (pass_terms known (read_ok (inside_block d op 0)) n d.terms 0 t.few_terms (omega arith)
    (inner_ends known d op d.in_scope (d.facts + 0) d.terms t at few refl (omega (arith, t.few_facts)) (omega (arith, t.few_terms)) c t.few a k w t.few_terms))))))

copies_alike : (known : List TitledStatement) (d : TheoremParser) (raw : RawSuperpose) (superposition : Superpose) (shown : List Lit) → BlockOf known d → d.section ≡ places.Proving → FewNamed d.names
    → Alike known
    (few_objects (with_new_names d.in_scope superposing.sorts_copied raw.new) >>= λ objects. inside_if_room d (kind.Superpose superposition raw.new shown) (length (superposing.gives_of_superposition superposition (scope_of_names d.in_scope))) >>= λ e. check_literal_limits raw.shown >>= λ few.
    terms_after e.terms (superposing.gives_of_superposition superposition (scope_of_names d.in_scope)) >>= λ n. read_ok (record e { in_scope = with_new_names d.in_scope superposing.sorts_copied raw.new; terms = n }))
    (then_limits known (rawlines.Superpose raw) (Proving (head_of d) (around_of (outer_of d (kind.Superpose superposition raw.new shown) ∷ d.blocks)) []))
copies_alike known d raw superposition shown t at few =
    let op = kind.Superpose superposition raw.new shown in
    let n = Proving (head_of d) (around_of (outer_of d op ∷ d.blocks)) [] in
    let given = superposing.gives_of_superposition superposition (scope_of_names d.in_scope) in
    let after = with_new_names d.in_scope superposing.sorts_copied raw.new in
    let at_block = context_in known (head_of d) d.blocks d.steps in
    let k = d.facts + length given in
    let m = d.terms + count_monomials given in
    let y : TheoremParser = inside_block d op (length given) in
    let last : TheoremParser → ℕ → Result TheoremParser FaultKind = λ x n. read_ok (record x { in_scope = after; terms = n }) in
    let then : TheoremParser → Result TheoremParser FaultKind = λ x. check_literal_limits raw.shown >>= λ few. terms_after x.terms given >>= λ n. last x n in
    let next : Result TheoremParser FaultKind = inside_if_room d op (length given) >>= then in
    let renamed : Counted after k m (record { names = with_new_names d.in_scope superposing.sorts_copied raw.new; facts = at_block.facts ++ given }) =
    counted_with at_block d.in_scope after after given d.facts k d.terms m t.counted refl refl refl in
    let c : Counted after k m (context_in known (head_of d) (outer_of d op ∷ d.blocks) []) =
    subst (λ (ns : Names). Counted after k m (record { names = with_new_names ns superposing.sorts_copied raw.new; facts = at_block.facts ++ superposing.gives_of_superposition superposition (scope_of_names ns) })) t.counted.names renamed in
    inner_limits known d (few_objects after >>= λ objects. next) op (rawlines.Superpose raw) after k m t refl c
    (test_objects known next n raw.shown after (d.lines + 1) (length d.blocks + 2) k m 0
    (λ objects. inner_then known d op (length given) then n raw.shown m 0
    (λ a deep w. test_monos known (terms_after y.terms given >>= λ n. last y n) n raw.shown m 0
    (test_in known (read_ok m) (last y) n m most_monomials_of_facts limits.Terms (blank_tests 0)
    (λ z. pass_le known (last y m) n 0 most_blanks limits.Blanks [] (omega arith)
    (inner_ends known d op after k m t at few refl (omega (arith, t.few_facts)) (omega (arith, t.few_terms)) c objects a deep w z))))))

pub superpose_alike : (known : List TitledStatement) (d : TheoremParser) (raw : RawSuperpose) → BlockOf known d → d.section ≡ places.Proving → FewNamed d.names
    → Alike known (after_superpose d raw) (goes_on known d.in_scope (head_of d) (around_of d.blocks) d.steps (rawlines.Superpose raw) >>= then_limits known (rawlines.Superpose raw))
unfolding after_superpose
superpose_alike known d raw t at few =
    both known (superpose_in d.in_scope raw)
    (λ p. few_objects (with_new_names d.in_scope superposing.sorts_copied raw.new) >>= λ objects. inside_if_room d (kind.Superpose p.0 raw.new p.1) (length (superposing.gives_of_superposition p.0 (scope_of_names d.in_scope))) >>= λ e. check_literal_limits raw.shown >>= λ few.
    terms_after e.terms (superposing.gives_of_superposition p.0 (scope_of_names d.in_scope)) >>= λ n. read_ok (record e { in_scope = with_new_names d.in_scope superposing.sorts_copied raw.new; terms = n }))
    (λ p. inner_block (head_of d) (around_of d.blocks) d.steps (BySuperposition p.0 raw.new p.1)) (then_limits known (rawlines.Superpose raw))
    (λ p e. copies_alike known d raw p.0 p.1 t at few)

pub cases_alike : (known : List TitledStatement) (d : TheoremParser) (r : RawLit) → BlockOf known d → d.section ≡ places.Proving → FewNamed d.names
    → Alike known (after_cases d r) (goes_on known d.in_scope (head_of d) (around_of d.blocks) d.steps (rawlines.Cases r) >>= then_limits known (rawlines.Cases r))
unfolding after_cases
cases_alike known d r t at few =
    let f = rawlines.Cases r in
    both known (lit_in d.in_scope r) (λ l. inside_if_room d (kind.First l) 1 >>= λ e. with_terms e (r ∷ [])) (λ l. inner_block (head_of d) (around_of d.blocks) d.steps (ByCase l)) (then_limits known f)
    (λ l e.
    let op = kind.First l in
    let n = Proving (head_of d) (around_of (outer_of d op ∷ d.blocks)) [] in
    let at_block = context_in known (head_of d) d.blocks d.steps in
    let m = d.terms + count_raw_monomials (r ∷ []) in
    let count : count_raw_monomials (r ∷ []) ≡ monomials l.atom = one_count d.in_scope r l e in
    let sum : d.terms + count_monomials (l ∷ []) ≡ m = omega (arith, count, count_first l []) in
    let c : Counted d.in_scope (d.facts + 1) m (context_in known (head_of d) (outer_of d op ∷ d.blocks) []) =
    counted_with at_block d.in_scope d.in_scope at_block.names (l ∷ []) d.facts (d.facts + 1) d.terms m t.counted t.counted.names refl sum in
    let then : TheoremParser → Result TheoremParser FaultKind = λ x. with_terms x (r ∷ []) in
    let next : Result TheoremParser FaultKind = inside_if_room d op 1 >>= then in
    inner_limits known d next op f d.in_scope (d.facts + 1) m t refl c
    (pass_objects known next n (r ∷ []) d.in_scope (d.lines + 1) (length d.blocks + 2) (d.facts + 1) m 0 t.few
    (inner_then known d op 1 then n (r ∷ []) m 0
    (λ a k w. terms_alike known (inside_block d op 1) (r ∷ []) n
    (λ z. inner_ends known d op d.in_scope (d.facts + 1) m t at few refl w (omega (arith, z, count)) c t.few a k w z)))))
