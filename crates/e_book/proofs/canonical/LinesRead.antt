-- Each line of a proof is read from its canonical spelling.
use Rattle.std.proofs.Common.{◌≡◌, ℕ, ◌+◌, ◌≤◌, false, true, eqb, ltb, ◌&&◌, List, [], ◌∷◌, ◌++◌, length, map, Option, None, Ok, refl, sym, ap, subst, ◌∙◌, arith}
use Rattle.std.proofs.lemmas.Bool.{le-ltb, eq-eqb, and_parts}
use Rattle.std.proofs.lemmas.List.{length-map}
use Rattle.e_literal.specs.declared.object.Sort.{Sort}
use Rattle.e_literal.specs.declared.object.Obj.{Obj}
use Rattle.e_literal.specs.declared.literal.Lit.{Lit}
use Rattle.e_literal.specs.Literal.{is_in_scope}
use Rattle.e_literal.specs.Scopes.{same_sort, are_of_sorts}
use Rattle.e_clause.specs.declared.cert.By.{By}
use Rattle.e_construct.specs.declared.construction.Construction.{Construction}
use Rattle.e_construct.specs.declared.superpose.Superpose.{Superpose}
use Rattle.e_construct.specs.Construct.{sorts_made, gives_of_construction}
use Rattle.e_construct.specs.Superposing as superposing
use Rattle.e_literal.specs.Use.{StatementView}
use Rattle.e_literal.proofs.Sorts.{same_sort_is}
use Rattle.e_deriv.specs.declared.names.Names.{Names}
use Rattle.e_deriv.specs.Naming.{with_new_names}
use Rattle.e_deriv.specs.PlainStep.{PlainStep, Cited, Inferred, Made, Applied, Claimed, Copied, all_before}
use Rattle.e_deriv.specs.Script.{Script}
use Rattle.e_deriv.specs.Steps.{is_citation}
use Rattle.e_book.specs.declared.blocks.OpenBlock.{OpenBlock}
use Rattle.e_book.specs.declared.blocks.BlockKind.{BlockKind}
use Rattle.e_book.specs.declared.blocks.BlockKind.TheVariants as kind
use Rattle.e_book.specs.declared.steps.CloseLine.{CloseLine}
use Rattle.e_book.specs.declared.steps.CloseLine.TheVariants as closes
use Rattle.e_book.specs.declared.parser.Section.TheVariants.{Proving, Splitting}
use Rattle.e_book.specs.declared.parser.TheoremParser.{TheoremParser}
use Rattle.e_line.specs.Limits.{most_steps, most_depth, most_facts, most_monomials_of_facts, most_blanks, monomials, count_monomials}
use Rattle.e_book.specs.Blocks.{made_in}
use Rattle.e_names.specs.TitledStatements.{TitledStatement, theorem_of}
use Rattle.e_names.specs.Applies.{count_blanks}
use Rattle.e_names.specs.Scope.{scope_of_names, object_as, objects_of_sorts, qed_in}
use Rattle.e_line.specs.LineLimits.{count_raw_monomials}
use Rattle.e_book.specs.LineLimits.{few_objects}
use Rattle.e_book.specs.Steps.{with_step, with_terms, after_let, with_use, after_apply, inside_if_room, after_claim, after_superpose, after_cases, counted_from, after_inner_block, parser_after_close, after_close_line, after_line, step}
use Rattle.e_book.specs.ParserViews.{script_of_close}
use Rattle.e_names.specs.Fits.{is_diagram_lit}
use Rattle.e_names.specs.Canonical.{raw_of, name_of_object, by_raw_line, hence_raw_line, let_raw_line, apply_raw_line, claim_raw_line, superpose_raw_line, cases_raw_line, else_raw_line, qed_raw_line, contradiction_raw_line}
use Rattle.e_line.proofs.read_again.Respelled.{as_read}
use Rattle.e_names.proofs.resolution.Lookups.{InOrder, object_again}
use Rattle.e_names.proofs.resolution.LitLookups.{lit_number_again}
use Rattle.e_names.proofs.literals.ShortLits.{few_again, all_few_again, count_again}
use Rattle.e_names.proofs.literals.PlainLits.{Plain, PlainLit, lits_number_again}
use Rattle.e_names.proofs.resolution.Cited.{by_number_again}
use Rattle.e_names.proofs.read_lines.Building.{GoodLet}
use Rattle.e_names.proofs.resolution.Built.{of_sorts_length, let_number_again}
use Rattle.e_names.proofs.resolution.Superposed.{GoodSuperpose, superpose_number_again}
use Rattle.e_names.proofs.resolution.Applied.{GoodApply, apply_number_again}

-- where a line of a proof stands: the open block, and the blocks around it
pub record Inside : Type 0 where
  pub blocks : List OpenBlock
  pub in_scope : Names
  pub steps : List PlainStep
  pub lines : ℕ
  pub facts : ℕ
  pub terms : ℕ

-- a parser in its proof, there
abbrev pub proving : TheoremParser → Inside → TheoremParser
proving d i = record d { in_scope = i.in_scope; steps = i.steps; lines = i.lines; facts = i.facts; terms = i.terms; blocks = i.blocks; section = Proving }

-- and after the first block of a split
abbrev pub splitting : TheoremParser → Inside → TheoremParser
splitting d i = record (proving d i) { section = Splitting }

-- after one more step, with this many more facts
abbrev pub after_step : Inside → PlainStep → ℕ → Inside
after_step i s facts = record i { steps = i.steps ++ s ∷ []; lines = i.lines + 1; facts = i.facts + facts }

-- the open block, which an inner one interrupts
abbrev pub outer : Inside → BlockKind → OpenBlock
outer i o = record { steps = i.steps; in_scope = i.in_scope; facts = i.facts; terms = i.terms; kind = o }

-- in an inner block, which begins with this many more facts
abbrev pub deep : Inside → BlockKind → ℕ → Inside
deep i o facts = record i { blocks = outer i o ∷ i.blocks; steps = []; lines = i.lines + 1; facts = i.facts + facts }

-- with this many more monomials
abbrev pub written : Inside → ℕ → Inside
written i terms = record i { terms = i.terms + terms }

-- after a use of an earlier theorem, whose made objects have these names
abbrev pub applied_after : Inside → StatementView → ℕ → List (Option Obj) → List (List ℕ) → Inside
applied_after i t theorem args names =
    record (written (after_step i (Applied theorem args names []) (length t.shown)) (count_monomials t.shown)) { in_scope = with_new_names i.in_scope t.made names }

-- in the block of a superposition
abbrev pub copied : Inside → Superpose → List (List ℕ) → List Lit → Inside
copied i superposition names shown =
    let given = superposing.gives_of_superposition superposition (scope_of_names i.in_scope) in
    record (written (deep i (kind.Superpose superposition names shown) (length given)) (count_monomials given)) { in_scope = with_new_names i.in_scope superposing.sorts_copied names }

-- after an inner block that shows these literals, whose last line has this number
abbrev pub resume : Inside → ℕ → PlainStep → List Lit → Inside
resume i lines s shown = record i { steps = i.steps ++ s ∷ []; lines = lines; facts = i.facts + length shown; terms = i.terms + count_monomials shown }

-- in the second block of a split
abbrev pub second : Inside → ℕ → Lit → Script → Inside
second i lines lit first =
    record i { blocks = outer i (kind.Second lit first) ∷ i.blocks; steps = []; lines = lines; facts = i.facts + 1; terms = i.terms + monomials lit.atom }

-- ---- lines of the open block

pub step_cite : (known : List TitledStatement) (d : TheoremParser) (i : Inside) (b : By) → InOrder i.in_scope → is_citation (scope_of_names i.in_scope) b ≡ true → is_diagram_lit b.lit ≡ true → i.lines + 1 ≤ most_steps → i.facts + 1 ≤ most_facts
    → step known (proving d i) (by_raw_line i.in_scope b) ≡ Ok (proving d (after_step i (Cited b) 1))
unfolding step after_line with_step
step_cite known d i b o h p few most =
    let room : ltb most_steps (i.lines + 1) ≡ false = le-ltb _ _ few in
    let place : ltb most_facts (i.facts + 1) ≡ false = le-ltb _ _ most in
    rw (by_number_again i.in_scope b o h p, room, place) refl

pub step_hence : (known : List TitledStatement) (d : TheoremParser) (i : Inside) (l : Lit) → InOrder i.in_scope → PlainLit i.in_scope l → i.lines + 1 ≤ most_steps → i.facts + 1 ≤ most_facts → i.terms + monomials l.atom ≤ most_monomials_of_facts
    → step known (proving d i) (hence_raw_line i.in_scope l) ≡ Ok (proving d (written (after_step i (Inferred l None) 1) (monomials l.atom)))
unfolding step after_line with_step with_terms
step_hence known d i l o p few most short =
    let room : ltb most_steps (i.lines + 1) ≡ false = le-ltb _ _ few in
    let place : ltb most_facts (i.facts + 1) ≡ false = le-ltb _ _ most in
    let more : ltb most_monomials_of_facts (i.terms + count_raw_monomials (raw_of i.in_scope l ∷ [])) ≡ false = le-ltb _ _ (omega (arith, short, count_again i.in_scope l)) in
    rw (lit_number_again i.in_scope l o p.within p.good, room, place, few_again i.in_scope l p.good, more) (ap (λ (n : ℕ). Ok (proving d (written (after_step i (Inferred l None) 1) n))) (count_again i.in_scope l))

pub step_let : (known : List TitledStatement) (d : TheoremParser) (i : Inside) (construction : Construction) (names : List (List ℕ)) → InOrder i.in_scope → GoodLet i.in_scope construction names → few_objects (with_new_names i.in_scope (sorts_made construction) names) ≡ Ok tt
    → i.lines + 1 ≤ most_steps → i.facts + length (gives_of_construction construction (scope_of_names i.in_scope)) ≤ most_facts
    → step known (proving d i) (as_read (let_raw_line i.in_scope construction names))
    ≡ Ok (proving d (record (after_step i (Made construction names []) (length (gives_of_construction construction (scope_of_names i.in_scope)))) { in_scope = with_new_names i.in_scope (sorts_made construction) names }))
unfolding step after_line after_let with_step
step_let known d i construction names o h fit few most =
    let room : ltb most_steps (i.lines + 1) ≡ false = le-ltb _ _ few in
    let place : ltb most_facts (i.facts + length (gives_of_construction construction (scope_of_names i.in_scope))) ≡ false = le-ltb _ _ most in
    rw (let_number_again i.in_scope construction names o h, fit, room, place) refl

pub step_apply : (known : List TitledStatement) (d : TheoremParser) (i : Inside) (theorem : ℕ) (args : List (Option Obj)) (names : List (List ℕ)) → InOrder i.in_scope → GoodApply known i.in_scope theorem args names
    → few_objects (with_new_names i.in_scope (theorem_of known theorem).made names) ≡ Ok tt → i.lines + 1 ≤ most_steps → i.facts + length (theorem_of known theorem).shown ≤ most_facts
    → i.terms + count_monomials (theorem_of known theorem).shown ≤ most_monomials_of_facts → count_blanks args ≤ most_blanks
    → step known (proving d i) (apply_raw_line known i.in_scope theorem args names) ≡ Ok (proving d (applied_after i (theorem_of known theorem) theorem args names))
unfolding step after_line after_apply with_use with_step
step_apply known d i theorem args names o g fit few most short written =
    let t = theorem_of known theorem in
    let room : ltb most_steps (i.lines + 1) ≡ false = le-ltb _ _ few in
    let place : ltb most_facts (i.facts + length t.shown) ≡ false = le-ltb _ _ most in
    let more : ltb most_monomials_of_facts (i.terms + count_monomials t.shown) ≡ false = le-ltb _ _ short in
    let blanks : ltb most_blanks (count_blanks args) ≡ false = le-ltb _ _ written in
    rw (apply_number_again known i.in_scope theorem args names o g, fit, room, place, more, blanks) refl

-- ---- lines that begin an inner block

deeper_again : (d : TheoremParser) (i : Inside) (o : BlockKind) (given : ℕ) → i.lines + 1 ≤ most_steps → length i.blocks + 2 ≤ most_depth → i.facts + given ≤ most_facts
    → inside_if_room (proving d i) o given ≡ Ok (proving d (deep i o given))
unfolding inside_if_room
deeper_again d i o given few shallow most =
    let room : ltb most_steps (i.lines + 1) ≡ false = le-ltb _ _ few in
    let deep : ltb most_depth (length i.blocks + 2) ≡ false = le-ltb _ _ shallow in
    let place : ltb most_facts (i.facts + given) ≡ false = le-ltb _ _ most in
    rw (room, deep, place) refl

pub step_claim : (known : List TitledStatement) (d : TheoremParser) (i : Inside) (shown : List Lit) → InOrder i.in_scope → Plain i.in_scope shown → i.lines + 1 ≤ most_steps → length i.blocks + 2 ≤ most_depth → i.facts + 0 ≤ most_facts
    → step known (proving d i) (claim_raw_line i.in_scope shown) ≡ Ok (proving d (deep i (kind.Claim shown) 0))
unfolding step after_line after_claim
step_claim known d i shown o p few shallow most =
    rw (lits_number_again i.in_scope shown o p, deeper_again d i (kind.Claim shown) 0 few shallow most, all_few_again i.in_scope shown p.good) refl

pub step_superpose : (known : List TitledStatement) (d : TheoremParser) (i : Inside) (superposition : Superpose) (names : List (List ℕ)) (shown : List Lit) → GoodSuperpose i.in_scope superposition names shown → few_objects (with_new_names i.in_scope superposing.sorts_copied names) ≡ Ok tt
    → i.lines + 1 ≤ most_steps → length i.blocks + 2 ≤ most_depth
    → i.facts + length (superposing.gives_of_superposition superposition (scope_of_names i.in_scope)) ≤ most_facts → i.terms + count_monomials (superposing.gives_of_superposition superposition (scope_of_names i.in_scope)) ≤ most_monomials_of_facts
    → step known (proving d i) (superpose_raw_line i.in_scope superposition names shown)
    ≡ Ok (proving d (copied i superposition names shown))
unfolding step after_line after_superpose
step_superpose known d i superposition names shown g fit few shallow most short =
    let given = superposing.gives_of_superposition superposition (scope_of_names i.in_scope) in
    let more : ltb most_monomials_of_facts (i.terms + count_monomials given) ≡ false = le-ltb _ _ short in
    rw (superpose_number_again i.in_scope superposition names shown g, fit, deeper_again d i (kind.Superpose superposition names shown) (length given) few shallow most, all_few_again i.in_scope shown g.plain.good, more) refl

pub step_cases : (known : List TitledStatement) (d : TheoremParser) (i : Inside) (l : Lit) → InOrder i.in_scope → PlainLit i.in_scope l → i.lines + 1 ≤ most_steps → length i.blocks + 2 ≤ most_depth → i.facts + 1 ≤ most_facts → i.terms + monomials l.atom ≤ most_monomials_of_facts
    → step known (proving d i) (cases_raw_line i.in_scope l) ≡ Ok (proving d (written (deep i (kind.First l) 1) (monomials l.atom)))
unfolding step after_line after_cases with_terms
step_cases known d i l o p few shallow most short =
    let more : ltb most_monomials_of_facts (i.terms + count_raw_monomials (raw_of i.in_scope l ∷ [])) ≡ false = le-ltb _ _ (omega (arith, short, count_again i.in_scope l)) in
    rw (lit_number_again i.in_scope l o p.within p.good, deeper_again d i (kind.First l) 1 few shallow most, few_again i.in_scope l p.good, more)
    (ap (λ (n : ℕ). Ok (proving d (written (deep i (kind.First l) 1) n))) (count_again i.in_scope l))

pub step_else : (known : List TitledStatement) (d : TheoremParser) (i : Inside) → step known (splitting d i) else_raw_line ≡ Ok (proving d i)
unfolding step after_line
step_else known d i = refl

-- ---- lines that close a block

pub objects_read : (ns : Names) (sorts : List Sort) (os : List Obj) → InOrder ns → are_of_sorts (scope_of_names ns) sorts os ≡ true → objects_of_sorts ns sorts (map (name_of_object ns) os) ≡ Ok os
objects_read ns [] [] o h = refl
objects_read ns [] (x ∷ os) o h = absurd cc
objects_read ns (sort ∷ sorts) [] o h = absurd cc
objects_read ns (sort ∷ sorts) (x ∷ os) o h =
    let p = and_parts (same_sort sort x.sort) (is_in_scope (scope_of_names ns) x && are_of_sorts (scope_of_names ns) sorts os) h in
    let q = and_parts (is_in_scope (scope_of_names ns) x) (are_of_sorts (scope_of_names ns) sorts os) p.1 in
    let one : object_as ns sort (name_of_object ns x) ≡ Ok x = subst (λ (t : Sort). object_as ns t (name_of_object ns x) ≡ Ok x) (sym (same_sort_is sort x.sort p.0)) (object_again ns x o q.0) in
    rw (one, objects_read ns sorts os o q.1) refl

qed_read : (ns : Names) (sorts : List Sort) (os : List Obj) → InOrder ns → are_of_sorts (scope_of_names ns) sorts os ≡ true → qed_in ns sorts (map (name_of_object ns) os) ≡ Ok os
unfolding qed_in
qed_read ns sorts os o h =
    let count : eqb (length (map (name_of_object ns) os)) (length sorts) ≡ true = eq-eqb _ _ (length-map os (name_of_object ns) ∙ of_sorts_length (scope_of_names ns) sorts os h) in
    rw count (objects_read ns sorts os o h)

pub step_qed : (known : List TitledStatement) (d : TheoremParser) (i : Inside) (os : List Obj) → InOrder i.in_scope → are_of_sorts (scope_of_names i.in_scope) (made_in i.blocks d.made) os ≡ true → i.lines + 1 ≤ most_steps
    → step known (proving d i) (qed_raw_line i.in_scope os) ≡ parser_after_close (proving d (record i { lines = i.lines + 1 })) i.blocks i.steps (closes.Qed os)
unfolding step after_line after_close_line
step_qed known d i os o h few =
    let room : ltb most_steps (i.lines + 1) ≡ false = le-ltb _ _ few in
    rw (qed_read i.in_scope (made_in i.blocks d.made) os o h, room) refl

pub step_contradiction : (known : List TitledStatement) (d : TheoremParser) (i : Inside) → i.lines + 1 ≤ most_steps → step known (proving d i) contradiction_raw_line ≡ parser_after_close (proving d (record i { lines = i.lines + 1 })) i.blocks i.steps closes.Contradiction
unfolding step after_line after_close_line
step_contradiction known d i few =
    let room : ltb most_steps (i.lines + 1) ≡ false = le-ltb _ _ few in
    rw room refl

-- ---- what comes after a block that is closed

-- the close of a block with these steps
abbrev pub Closes : List PlainStep → CloseLine → Script → Type 0
Closes steps close inner = all_before steps (script_of_close close) ≡ inner

resumed_again : (d : TheoremParser) (i last : Inside) (o : BlockKind) (s : PlainStep) (shown : List Lit) → i.facts + length shown ≤ most_facts → i.terms + count_monomials shown ≤ most_monomials_of_facts
    → after_inner_block (proving d last) (outer i o) i.blocks shown s ≡ Ok (proving d (resume i last.lines s shown))
unfolding after_inner_block counted_from
resumed_again d i last o s shown most short =
    let place : ltb most_facts (i.facts + length shown) ≡ false = le-ltb _ _ most in
    let more : ltb most_monomials_of_facts (i.terms + count_monomials shown) ≡ false = le-ltb _ _ short in
    rw (place, more) refl

pub claim_closed : (d : TheoremParser) (i last : Inside) (shown : List Lit) (steps : List PlainStep) (close : CloseLine) (inner : Script) → Closes steps close inner → i.facts + length shown ≤ most_facts → i.terms + count_monomials shown ≤ most_monomials_of_facts
    → parser_after_close (proving d last) (outer i (kind.Claim shown) ∷ i.blocks) steps close ≡ Ok (proving d (resume i last.lines (Claimed shown inner) shown))
unfolding parser_after_close
claim_closed d i last shown steps close inner e most short =
    ap (λ (x : Script). after_inner_block (proving d last) (outer i (kind.Claim shown)) i.blocks shown (Claimed shown x)) e ∙ resumed_again d i last (kind.Claim shown) (Claimed shown inner) shown most short

pub superpose_closed : (d : TheoremParser) (i last : Inside) (superposition : Superpose) (names : List (List ℕ)) (shown : List Lit) (steps : List PlainStep) (close : CloseLine) (inner : Script) → Closes steps close inner
    → i.facts + length shown ≤ most_facts → i.terms + count_monomials shown ≤ most_monomials_of_facts
    → parser_after_close (proving d last) (outer i (kind.Superpose superposition names shown) ∷ i.blocks) steps close ≡ Ok (proving d (resume i last.lines (Copied superposition names shown [] inner) shown))
unfolding parser_after_close
superpose_closed d i last superposition names shown steps close inner e most short =
    let o = kind.Superpose superposition names shown in
    ap (λ (x : Script). after_inner_block (proving d last) (outer i o) i.blocks shown (Copied superposition names shown [] x)) e ∙ resumed_again d i last o (Copied superposition names shown [] inner) shown most short

pub first_closed : (d : TheoremParser) (i last : Inside) (lit : Lit) (steps : List PlainStep) (close : CloseLine) (inner : Script) → Closes steps close inner
    → parser_after_close (proving d last) (outer i (kind.First lit) ∷ i.blocks) steps close ≡ Ok (splitting d (second i last.lines lit inner))
unfolding parser_after_close
first_closed d i last lit steps close inner e = ap (λ (x : Script). Ok (splitting d (second i last.lines lit x))) e

pub second_closed : (d : TheoremParser) (i last : Inside) (lit : Lit) (first : Script) (steps : List PlainStep) (close : CloseLine) (inner : Script) → Closes steps close inner
    → parser_after_close (proving d last) (outer i (kind.Second lit first) ∷ i.blocks) steps close ≡ parser_after_close (proving d last) i.blocks i.steps (closes.Cases lit first inner)
unfolding parser_after_close
second_closed d i last lit first steps close inner e = ap (λ (x : Script). parser_after_close (proving d last) i.blocks i.steps (closes.Cases lit first x)) e
