-- No more objects are made than have names.
use Rattle.std.proofs.Common.{◌≡◌, ℕ, ◌+◌, ◌≤◌, List, [], ◌∷◌, ◌++◌, length, replicate, Option, None, Result, Ok, Err, refl, sym, subst, arith, length-append}
use Rattle.std.proofs.lemmas.List.{length-replicate}
use Rattle.e_literal.specs.declared.object.Sort.{Sort}
use Rattle.e_literal.specs.declared.object.Sort.TheVariants.{Point, Line, Circle}
use Rattle.e_literal.specs.declared.object.Obj.{Obj}
use Rattle.e_literal.specs.declared.literal.Lit.{Lit}
use Rattle.e_literal.specs.Use.{StatementView}
use Rattle.e_construct.specs.Construct.{sorts_made, gives_of_construction}
use Rattle.e_construct.specs.Superposing as superposing
use Rattle.e_deriv.specs.declared.names.Names.{Names}
use Rattle.e_deriv.specs.PlainStep.{PlainStep, Cited, Inferred, Made, Applied, Claimed, Copied, all_before}
use Rattle.e_deriv.specs.Script.{Script}
use Rattle.e_deriv.specs.Naming.{names_of_sort, with_names, with_new_names}
use Rattle.e_line.specs.declared.fault.FaultKind.{FaultKind}
use Rattle.e_line.specs.declared.fault.What.TheVariants as limits
use Rattle.e_line.specs.declared.literal.RawLit.{RawLit}
use Rattle.e_line.specs.declared.lets.RawLet.{RawLet}
use Rattle.e_line.specs.declared.superposes.RawSuperpose.{RawSuperpose}
use Rattle.e_line.specs.declared.applies.RawApply.{RawApply}
use Rattle.e_book.specs.declared.blocks.OpenBlock.{OpenBlock}
use Rattle.e_book.specs.declared.blocks.BlockKind.{BlockKind}
use Rattle.e_book.specs.declared.blocks.BlockKind.TheVariants as kind
use Rattle.e_line.specs.declared.raw_line.RawLine.{RawLine}
use Rattle.e_line.specs.declared.raw_line.RawLine.TheVariants as rawlines
use Rattle.e_book.specs.declared.steps.CloseLine.{CloseLine}
use Rattle.e_book.specs.declared.steps.CloseLine.TheVariants as closes
use Rattle.e_book.specs.declared.parser.Section.TheVariants.{Giving, Making, Proving, Done}
use Rattle.e_book.specs.declared.parser.TheoremParser.{TheoremParser}
use Rattle.e_line.specs.Reading.{◌>>=◌, with_front}
use Rattle.e_line.specs.Limits.{most_theorems, most_of, most_steps, most_depth, most_facts, most_blanks, what_of, within}
use Rattle.e_names.specs.TitledStatements.{TitledStatement, is_known, theorem_of}
use Rattle.e_book.specs.ParserViews.{script_of_close}
use Rattle.e_book.specs.Blocks.{made_in}
use Rattle.e_names.specs.Superposes.{superpose_in}
use Rattle.e_names.specs.Applies.{count_blanks, apply_in}
use Rattle.e_names.specs.Scope.{scope_of_names, fresh, lit_in, lits_in, by_in, let_in, qed_in}
use Rattle.e_line.specs.LineLimits.{check_literal_limits}
use Rattle.e_book.specs.LineLimits.{few_objects}
use Rattle.e_book.specs.Steps.{with_declared, terms_after_raw, terms_after, with_step, with_terms, after_let, with_use, after_apply, inside_if_room, after_claim, after_superpose, after_cases, counted_from, after_inner_block, closed_inside, parser_after_close, after_close_line, after_given, after_show, after_proof, after_by, after_hence, after_qed, after_made, after_declare, after_line, step, begin, with_title, line_may_come, count_names}
use Rattle.e_book.proofs.parsers.Answered.{passes, untaken}
use Rattle.e_line.proofs.base.Bound.{bind_ok, ok_is, read_ok}

-- ---- lines that declare and make nothing leave the names and the made objects as they are

abbrev Same : Names → List Sort → Result TheoremParser FaultKind → Type 0
Same names made (Ok e) = (e.names ≡ names) × (e.made ≡ made)
Same names made (Err k) = Unit {0}

-- after what says nothing of the parser
from : {A : Type 0} (d : TheoremParser) (r : Result A FaultKind) (f : A → Result TheoremParser FaultKind) → ((a : A) → Same d.names d.made (f a)) → Same d.names d.made (r >>= f)
from d (Ok x) f h = h x
from d (Err k) f h = tt

-- after what leaves them
then : (d : TheoremParser) (r : Result TheoremParser FaultKind) (f : TheoremParser → Result TheoremParser FaultKind) → Same d.names d.made r → ((e : TheoremParser) → Same e.names e.made (f e)) → Same d.names d.made (r >>= f)
then d (Ok e) f s h = subst (λ (ns : Names). Same ns d.made (f e)) s.0 (subst (λ (ms : List Sort). Same e.names ms (f e)) s.1 (h e))
then d (Err k) f s h = tt

by_step : (d : TheoremParser) (s : PlainStep) (n : ℕ) → Same d.names d.made (with_step d s n)
unfolding with_step
by_step d s n = from d (within (d.lines + 1) most_steps limits.Steps) _ (λ few. from d (within (d.facts + n) most_facts limits.Facts) _ (λ none. (refl, refl)))

by_terms : (d : TheoremParser) (raws : List RawLit) → Same d.names d.made (with_terms d raws)
unfolding with_terms
by_terms d raws = from d (check_literal_limits raws) _ (λ few. from d (terms_after_raw d.terms raws) _ (λ n. (refl, refl)))

by_block : (d : TheoremParser) (what : BlockKind) (n : ℕ) → Same d.names d.made (inside_if_room d what n)
unfolding inside_if_room
by_block d what n =
    from d (within (d.lines + 1) most_steps limits.Steps) _ (λ few. from d (within (length d.blocks + 2) most_depth limits.Depth) _ (λ shallow. from d (within (d.facts + n) most_facts limits.Facts) _ (λ none. (refl, refl))))

by_count : (d : TheoremParser) (facts terms : ℕ) (shown : List Lit) → Same d.names d.made (counted_from d facts terms shown)
unfolding counted_from
by_count d facts terms shown = from d (within (facts + length shown) most_facts limits.Facts) _ (λ few. from d (terms_after terms shown) _ (λ n. (refl, refl)))

by_resume : (d : TheoremParser) (o : OpenBlock) (os : List OpenBlock) (shown : List Lit) (s : PlainStep) → Same d.names d.made (after_inner_block d o os shown s)
unfolding after_inner_block
by_resume d o os shown s = then d (counted_from d o.facts o.terms shown) _ (by_count d o.facts o.terms shown) (λ e. (refl, refl))

by_inside : (d : TheoremParser) (o : OpenBlock) (os : List OpenBlock) (inner : Script) (close : CloseLine → Result TheoremParser FaultKind) (what : BlockKind) → ((c : CloseLine) → Same d.names d.made (close c)) → Same d.names d.made (closed_inside d o os inner close what)
by_inside d o os inner close (kind.Claim shown) h = by_resume d o os shown (Claimed shown inner)
by_inside d o os inner close (kind.Superpose superposition names shown) h = by_resume d o os shown (Copied superposition names shown [] inner)
by_inside d o os inner close (kind.First lit) h = (refl, refl)
by_inside d o os inner close (kind.Second lit first) h = h (closes.Cases lit first inner)

by_close : (d : TheoremParser) (os : List OpenBlock) (steps : List PlainStep) (close : CloseLine) → Same d.names d.made (parser_after_close d os steps close)
unfolding parser_after_close
by_close d [] steps close = (refl, refl)
by_close d (o ∷ os) steps close = by_inside d o os (all_before steps (script_of_close close)) (λ c. parser_after_close d os o.steps c) o.kind (λ c. by_close d os o.steps c)

by_shut : (d : TheoremParser) (close : CloseLine) → Same d.names d.made (after_close_line d close)
unfolding after_close_line
by_shut d close = from d (within (d.lines + 1) most_steps limits.Steps) _ (λ few. by_close (record d { lines = d.lines + 1 }) d.blocks d.steps close)

by_use : (d : TheoremParser) (t : StatementView) (theorem : ℕ) (args : List (Option Obj)) (new : List (List ℕ)) → Same d.names d.made (with_use d t theorem args new)
unfolding with_use
by_use d t theorem args new =
    let after = with_new_names d.in_scope t.made new in
    let x : TheoremParser = record d { in_scope = after } in
    let s : PlainStep = Applied theorem args new [] in
    from d (few_objects after) _ (λ few. then d (with_step x s (length t.shown)) _ (by_step x s (length t.shown))
    (λ e. from e (terms_after e.terms t.shown) _ (λ n. from e (within (count_blanks args) most_blanks limits.Blanks) _ (λ written. (refl, refl)))))

by_given : (d : TheoremParser) (raws : List RawLit) → Same d.names d.made (after_given d raws)
by_given d raws =
    from d (with_front d.given (lits_in d.names raws)) _ (λ ls. from d (within (d.facts + length raws) most_facts limits.Facts) _ (λ few. by_terms (record d { given = ls; facts = d.facts + length raws; section = Giving }) raws))

by_shown : (d : TheoremParser) (raws : List RawLit) → Same d.names d.made (after_show d raws)
by_shown d raws = from d (with_front d.shown (lits_in d.names raws)) _ (λ ls. from d (check_literal_limits raws) _ (λ few. (refl, refl)))

by_citation : (d : TheoremParser) (r : List ℕ) (ns : List (List ℕ)) (l : RawLit) → Same d.names d.made (after_by d r ns l)
by_citation d r ns l = from d (by_in d.in_scope r ns l) _ (λ b. by_step d (Cited b) 1)

by_hence : (d : TheoremParser) (raw : RawLit) → Same d.names d.made (after_hence d raw)
by_hence d raw = from d (lit_in d.in_scope raw) _ (λ l. then d (with_step d (Inferred l None) 1) _ (by_step d (Inferred l None) 1) (λ e. by_terms e (raw ∷ [])))

by_let : (d : TheoremParser) (raw : RawLet) → Same d.names d.made (after_let d raw)
unfolding after_let
by_let d raw =
    from d (let_in d.in_scope raw) _ (λ construction. from d (few_objects (with_new_names d.in_scope (sorts_made construction) raw.new)) _
    (λ few. by_step (record d { in_scope = with_new_names d.in_scope (sorts_made construction) raw.new }) (Made construction raw.new []) (length (gives_of_construction construction (scope_of_names d.in_scope)))))

by_apply : (known : List TitledStatement) (d : TheoremParser) (raw : RawApply) → Same d.names d.made (after_apply known d raw)
unfolding after_apply
by_apply known d raw = from d (apply_in known d.in_scope raw) _ (λ a. by_use d (theorem_of known a.0) a.0 a.1 raw.new)

by_qed : (d : TheoremParser) (ns : List (List ℕ)) → Same d.names d.made (after_qed d ns)
by_qed d ns = from d (qed_in d.in_scope (made_in d.blocks d.made) ns) _ (λ objects. by_shut d (closes.Qed objects))

by_claim : (d : TheoremParser) (raws : List RawLit) → Same d.names d.made (after_claim d raws)
unfolding after_claim
by_claim d raws = from d (lits_in d.in_scope raws) _ (λ ls. then d (inside_if_room d (kind.Claim ls) 0) _ (by_block d (kind.Claim ls) 0) (λ e. from e (check_literal_limits raws) _ (λ few. (refl, refl))))

by_superpose : (d : TheoremParser) (raw : RawSuperpose) → Same d.names d.made (after_superpose d raw)
unfolding after_superpose
by_superpose d raw =
    from d (superpose_in d.in_scope raw) _ (λ p. from d (few_objects (with_new_names d.in_scope superposing.sorts_copied raw.new)) _
    (λ objects. then d (inside_if_room d (kind.Superpose p.0 raw.new p.1) (length (superposing.gives_of_superposition p.0 (scope_of_names d.in_scope)))) _
    (by_block d (kind.Superpose p.0 raw.new p.1) (length (superposing.gives_of_superposition p.0 (scope_of_names d.in_scope))))
    (λ e. from e (check_literal_limits raw.shown) _ (λ few. from e (terms_after e.terms (superposing.gives_of_superposition p.0 (scope_of_names d.in_scope))) _ (λ n. (refl, refl))))))

by_split : (d : TheoremParser) (raw : RawLit) → Same d.names d.made (after_cases d raw)
unfolding after_cases
by_split d raw = from d (lit_in d.in_scope raw) _ (λ l. then d (inside_if_room d (kind.First l) 1) _ (by_block d (kind.First l) 1) (λ e. by_terms e (raw ∷ [])))

-- ---- no more objects are made than have names

abbrev Few : TheoremParser → Type 0
Few d = length d.made ≤ count_names d.names

same_few : (d e : TheoremParser) (r : Result TheoremParser FaultKind) → Same d.names d.made r → Few d → r ≡ Ok e → Few e
same_few d e r s f h =
    let p : Same d.names d.made (read_ok e) = subst (λ (x : Result TheoremParser FaultKind). Same d.names d.made x) h s in
    subst (λ (ns : Names). length e.made ≤ count_names ns) (sym p.0) (subst (λ (ms : List Sort). length ms ≤ count_names d.names) (sym p.1) f)

count_grown : (ns : Names) (sort : Sort) (new : List (List ℕ)) → count_names (with_names ns sort (names_of_sort ns sort ++ new)) ≡ count_names ns + length new
count_grown ns Point new = omega (arith, length-append ns.points new)
count_grown ns Line new = omega (arith, length-append ns.lines new)
count_grown ns Circle new = omega (arith, length-append ns.circles new)

names_grown : (ns now : Names) (sort : Sort) (new : List (List ℕ)) → with_declared ns sort new ≡ Ok now → count_names now ≡ count_names ns + length new
unfolding with_declared
names_grown ns now sort new h =
    let next : Names = with_names ns sort (names_of_sort ns sort ++ new) in
    let f = bind_ok (fresh ns [] new) (λ free. within (length (names_of_sort ns sort) + length new) (most_of sort) (what_of sort) >>= λ few. read_ok next) now h in
    let w = bind_ok (within (length (names_of_sort ns sort) + length new) (most_of sort) (what_of sort)) (λ few. read_ok next) now f.2 in
    subst (λ (m : Names). count_names m ≡ count_names ns + length new) (ok_is next now w.2) (count_grown ns sort new)

few_declared : (d e : TheoremParser) (sort : Sort) (ns : List (List ℕ)) → Few d → after_declare d sort ns ≡ Ok e → Few e
few_declared d e sort ns f h =
    let next : Names → TheoremParser = λ names. record d { names = names; declared = d.declared ++ replicate (length ns) sort } in
    let n = bind_ok (with_declared d.names sort ns) (λ names. read_ok (next names)) e h in
    subst (λ (y : TheoremParser). Few y) (ok_is (next n.0) e n.2) (omega (arith, f, names_grown d.names n.0 sort ns n.1))

few_made : (d e : TheoremParser) (sort : Sort) (ns : List (List ℕ)) → Few d → after_made d sort ns ≡ Ok e → Few e
few_made d e sort ns f h =
    let next : Names → TheoremParser = λ names. record d { names = names; made = d.made ++ replicate (length ns) sort; section = Making } in
    let n = bind_ok (with_declared d.names sort ns) (λ names. read_ok (next names)) e h in
    subst (λ (y : TheoremParser). Few y) (ok_is (next n.0) e n.2)
    (omega (arith, f, names_grown d.names n.0 sort ns n.1, length-append d.made (replicate (length ns) sort), length-replicate (length ns) sort))

few_stepped : (known : List TitledStatement) (d e : TheoremParser) (f : RawLine) → Few d → after_line known d f ≡ Ok e → Few e
unfolding after_line
few_stepped known d e (rawlines.Theorem t) few h = absurd cc
few_stepped known d e (rawlines.Declare sort ns) few h = few_declared d e sort ns few h
few_stepped known d e (rawlines.Given raws) few h = same_few d e (after_given d raws) (by_given d raws) few h
few_stepped known d e (rawlines.Made sort ns) few h = few_made d e sort ns few h
few_stepped known d e (rawlines.Show raws) few h = same_few d e (after_show d raws) (by_shown d raws) few h
few_stepped known d e rawlines.Proof few h = same_few d e (after_proof d) (refl, refl) few h
few_stepped known d e (rawlines.By r ns l) few h = same_few d e (after_by d r ns l) (by_citation d r ns l) few h
few_stepped known d e (rawlines.Hence raw) few h = same_few d e (after_hence d raw) (by_hence d raw) few h
few_stepped known d e (rawlines.Let raw) few h = same_few d e (after_let d raw) (by_let d raw) few h
few_stepped known d e (rawlines.Apply raw) few h = same_few d e (after_apply known d raw) (by_apply known d raw) few h
few_stepped known d e (rawlines.Qed ns) few h = same_few d e (after_qed d ns) (by_qed d ns) few h
few_stepped known d e rawlines.Contradiction few h = same_few d e (after_close_line d closes.Contradiction) (by_shut d closes.Contradiction) few h
few_stepped known d e (rawlines.Claim raws) few h = same_few d e (after_claim d raws) (by_claim d raws) few h
few_stepped known d e (rawlines.Superpose raw) few h = same_few d e (after_superpose d raw) (by_superpose d raw) few h
few_stepped known d e (rawlines.Cases raw) few h = same_few d e (after_cases d raw) (by_split d raw) few h
few_stepped known d e rawlines.Else few h = same_few d e (read_ok (record d { section = Proving })) (refl, refl) few h
few_stepped known d e rawlines.End few h = same_few d e (read_ok (record d { section = Done })) (refl, refl) few h

-- after a line
pub few_after : (known : List TitledStatement) (d e : TheoremParser) (f : RawLine) → step known d f ≡ Ok e → length d.made ≤ count_names d.names → length e.made ≤ count_names e.names
unfolding step
few_after known d e f h few = few_stepped known d e f few (passes (line_may_come d.section f) (after_line known d f) e h).1

-- after the first line
pub few_begun : (known : List TitledStatement) (e : TheoremParser) (f : RawLine) → begin known f ≡ Ok e → length e.made ≤ count_names e.names
unfolding begin
few_begun known e (rawlines.Theorem t) h =
    let n = untaken (is_known known t) (within (length known + 1) most_theorems limits.Theorems >>= λ few. read_ok (with_title t)) e h in
    let w = bind_ok (within (length known + 1) most_theorems limits.Theorems) (λ few. read_ok (with_title t)) e n.1 in
    subst (λ (y : TheoremParser). Few y) (ok_is (with_title t) e w.2) (omega arith)
few_begun known e f h = absurd cc
