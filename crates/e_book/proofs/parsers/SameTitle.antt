-- The title of a parser stays what it is.
use Rattle.std.proofs.Common.{◌≡◌, ℕ, ◌+◌, List, [], ◌∷◌, length, Option, None, Result, Ok, Err, refl, sym, ap, subst}
use Rattle.e_literal.specs.declared.object.Sort.{Sort}
use Rattle.e_literal.specs.declared.object.Obj.{Obj}
use Rattle.e_literal.specs.declared.literal.Lit.{Lit}
use Rattle.e_literal.specs.Use.{StatementView}
use Rattle.e_construct.specs.Construct.{sorts_made, gives_of_construction}
use Rattle.e_construct.specs.Superposing as superposing
use Rattle.e_deriv.specs.PlainStep.{PlainStep, Cited, Inferred, Made, Applied, Claimed, Copied, all_before}
use Rattle.e_deriv.specs.Script.{Script}
use Rattle.e_deriv.specs.Naming.{with_new_names}
use Rattle.e_line.specs.declared.fault.FaultKind.{FaultKind}
use Rattle.e_line.specs.declared.fault.What.TheVariants as limits
use Rattle.e_line.specs.declared.literal.RawLit.{RawLit}
use Rattle.e_line.specs.declared.lets.RawLet.{RawLet}
use Rattle.e_line.specs.declared.superposes.RawSuperpose.{RawSuperpose}
use Rattle.e_line.specs.declared.applies.RawApply.{RawApply}
use Rattle.e_book.specs.declared.blocks.OpenBlock.{OpenBlock}
use Rattle.e_book.specs.declared.blocks.BlockKind.{BlockKind}
use Rattle.e_book.specs.declared.blocks.BlockKind.TheVariants as kind
use Rattle.e_line.specs.declared.raw_line.RawLine.{RawLine}
use Rattle.e_line.specs.declared.raw_line.RawLine.TheVariants as rawlines
use Rattle.e_book.specs.declared.steps.CloseLine.{CloseLine}
use Rattle.e_book.specs.declared.steps.CloseLine.TheVariants as closes
use Rattle.e_book.specs.declared.parser.Section.TheVariants.{Giving}
use Rattle.e_book.specs.declared.parser.TheoremParser.{TheoremParser}
use Rattle.e_line.specs.Reading.{◌>>=◌, with_front}
use Rattle.e_line.specs.Limits.{most_theorems, most_steps, most_depth, most_facts, most_blanks, within}
use Rattle.e_names.specs.TitledStatements.{TitledStatement, is_known, theorem_of}
use Rattle.e_book.specs.ParserViews.{script_of_close}
use Rattle.e_book.specs.Blocks.{made_in}
use Rattle.e_names.specs.Superposes.{superpose_in}
use Rattle.e_names.specs.Applies.{count_blanks, apply_in}
use Rattle.e_names.specs.Scope.{scope_of_names, lit_in, lits_in, by_in, let_in, qed_in}
use Rattle.e_line.specs.LineLimits.{check_literal_limits}
use Rattle.e_book.specs.LineLimits.{few_objects}
use Rattle.e_book.specs.Steps.{with_declared, terms_after_raw, terms_after, with_step, with_terms, after_let, with_use, after_apply, inside_if_room, after_claim, after_superpose, after_cases, counted_from, after_inner_block, closed_inside, parser_after_close, after_close_line, after_given, after_show, after_by, after_hence, after_qed, after_made, after_declare, after_line, step, begin, with_title, line_may_come}
use Rattle.e_book.proofs.parsers.Answered.{passes, untaken}
use Rattle.e_line.proofs.base.Bound.{bind_ok, ok_is, read_ok}

abbrev Same : List ℕ → Result TheoremParser FaultKind → Type 0
Same title (Ok e) = e.title ≡ title
Same title (Err k) = Unit {0}

-- after what says nothing of the parser
from : {A : Type 0} (d : TheoremParser) (r : Result A FaultKind) (f : A → Result TheoremParser FaultKind) → ((a : A) → Same d.title (f a)) → Same d.title (r >>= f)
from d (Ok x) f h = h x
from d (Err k) f h = tt

-- after what leaves them
then : (d : TheoremParser) (r : Result TheoremParser FaultKind) (f : TheoremParser → Result TheoremParser FaultKind) → Same d.title r → ((e : TheoremParser) → Same e.title (f e)) → Same d.title (r >>= f)
then d (Ok e) f s h = subst (λ (t : List ℕ). Same t (f e)) s (h e)
then d (Err k) f s h = tt

by_step : (d : TheoremParser) (s : PlainStep) (n : ℕ) → Same d.title (with_step d s n)
unfolding with_step
by_step d s n = from d (within (d.lines + 1) most_steps limits.Steps) _ (λ few. from d (within (d.facts + n) most_facts limits.Facts) _ (λ none. refl))

by_terms : (d : TheoremParser) (raws : List RawLit) → Same d.title (with_terms d raws)
unfolding with_terms
by_terms d raws = from d (check_literal_limits raws) _ (λ few. from d (terms_after_raw d.terms raws) _ (λ n. refl))

by_block : (d : TheoremParser) (what : BlockKind) (n : ℕ) → Same d.title (inside_if_room d what n)
unfolding inside_if_room
by_block d what n =
    from d (within (d.lines + 1) most_steps limits.Steps) _ (λ few. from d (within (length d.blocks + 2) most_depth limits.Depth) _ (λ shallow. from d (within (d.facts + n) most_facts limits.Facts) _ (λ none. refl)))

by_count : (d : TheoremParser) (facts terms : ℕ) (shown : List Lit) → Same d.title (counted_from d facts terms shown)
unfolding counted_from
by_count d facts terms shown = from d (within (facts + length shown) most_facts limits.Facts) _ (λ few. from d (terms_after terms shown) _ (λ n. refl))

by_resume : (d : TheoremParser) (o : OpenBlock) (os : List OpenBlock) (shown : List Lit) (s : PlainStep) → Same d.title (after_inner_block d o os shown s)
unfolding after_inner_block
by_resume d o os shown s = then d (counted_from d o.facts o.terms shown) _ (by_count d o.facts o.terms shown) (λ e. refl)

by_inside : (d : TheoremParser) (o : OpenBlock) (os : List OpenBlock) (inner : Script) (close : CloseLine → Result TheoremParser FaultKind) (what : BlockKind) → ((c : CloseLine) → Same d.title (close c)) → Same d.title (closed_inside d o os inner close what)
by_inside d o os inner close (kind.Claim shown) h = by_resume d o os shown (Claimed shown inner)
by_inside d o os inner close (kind.Superpose superposition names shown) h = by_resume d o os shown (Copied superposition names shown [] inner)
by_inside d o os inner close (kind.First lit) h = refl
by_inside d o os inner close (kind.Second lit first) h = h (closes.Cases lit first inner)

by_close : (d : TheoremParser) (os : List OpenBlock) (steps : List PlainStep) (close : CloseLine) → Same d.title (parser_after_close d os steps close)
unfolding parser_after_close
by_close d [] steps close = refl
by_close d (o ∷ os) steps close = by_inside d o os (all_before steps (script_of_close close)) (λ c. parser_after_close d os o.steps c) o.kind (λ c. by_close d os o.steps c)

by_shut : (d : TheoremParser) (close : CloseLine) → Same d.title (after_close_line d close)
unfolding after_close_line
by_shut d close = from d (within (d.lines + 1) most_steps limits.Steps) _ (λ few. by_close (record d { lines = d.lines + 1 }) d.blocks d.steps close)

by_use : (d : TheoremParser) (t : StatementView) (theorem : ℕ) (args : List (Option Obj)) (new : List (List ℕ)) → Same d.title (with_use d t theorem args new)
unfolding with_use
by_use d t theorem args new =
    let after = with_new_names d.in_scope t.made new in
    let x : TheoremParser = record d { in_scope = after } in
    let s : PlainStep = Applied theorem args new [] in
    from d (few_objects after) _ (λ few. then d (with_step x s (length t.shown)) _ (by_step x s (length t.shown))
    (λ e. from e (terms_after e.terms t.shown) _ (λ n. from e (within (count_blanks args) most_blanks limits.Blanks) _ (λ written. refl))))

by_given : (d : TheoremParser) (raws : List RawLit) → Same d.title (after_given d raws)
by_given d raws =
    from d (with_front d.given (lits_in d.names raws)) _ (λ ls. from d (within (d.facts + length raws) most_facts limits.Facts) _ (λ few. by_terms (record d { given = ls; facts = d.facts + length raws; section = Giving }) raws))

by_shown : (d : TheoremParser) (raws : List RawLit) → Same d.title (after_show d raws)
by_shown d raws = from d (with_front d.shown (lits_in d.names raws)) _ (λ ls. from d (check_literal_limits raws) _ (λ few. refl))

by_citation : (d : TheoremParser) (r : List ℕ) (ns : List (List ℕ)) (l : RawLit) → Same d.title (after_by d r ns l)
by_citation d r ns l = from d (by_in d.in_scope r ns l) _ (λ b. by_step d (Cited b) 1)

by_hence : (d : TheoremParser) (raw : RawLit) → Same d.title (after_hence d raw)
by_hence d raw = from d (lit_in d.in_scope raw) _ (λ l. then d (with_step d (Inferred l None) 1) _ (by_step d (Inferred l None) 1) (λ e. by_terms e (raw ∷ [])))

by_let : (d : TheoremParser) (raw : RawLet) → Same d.title (after_let d raw)
unfolding after_let
by_let d raw =
    from d (let_in d.in_scope raw) _ (λ construction. from d (few_objects (with_new_names d.in_scope (sorts_made construction) raw.new)) _
    (λ few. by_step (record d { in_scope = with_new_names d.in_scope (sorts_made construction) raw.new }) (Made construction raw.new []) (length (gives_of_construction construction (scope_of_names d.in_scope)))))

by_apply : (known : List TitledStatement) (d : TheoremParser) (raw : RawApply) → Same d.title (after_apply known d raw)
unfolding after_apply
by_apply known d raw = from d (apply_in known d.in_scope raw) _ (λ a. by_use d (theorem_of known a.0) a.0 a.1 raw.new)

by_qed : (d : TheoremParser) (ns : List (List ℕ)) → Same d.title (after_qed d ns)
by_qed d ns = from d (qed_in d.in_scope (made_in d.blocks d.made) ns) _ (λ objects. by_shut d (closes.Qed objects))

by_claim : (d : TheoremParser) (raws : List RawLit) → Same d.title (after_claim d raws)
unfolding after_claim
by_claim d raws = from d (lits_in d.in_scope raws) _ (λ ls. then d (inside_if_room d (kind.Claim ls) 0) _ (by_block d (kind.Claim ls) 0) (λ e. from e (check_literal_limits raws) _ (λ few. refl)))

by_superpose : (d : TheoremParser) (raw : RawSuperpose) → Same d.title (after_superpose d raw)
unfolding after_superpose
by_superpose d raw =
    from d (superpose_in d.in_scope raw) _ (λ p. from d (few_objects (with_new_names d.in_scope superposing.sorts_copied raw.new)) _
    (λ objects. then d (inside_if_room d (kind.Superpose p.0 raw.new p.1) (length (superposing.gives_of_superposition p.0 (scope_of_names d.in_scope)))) _
    (by_block d (kind.Superpose p.0 raw.new p.1) (length (superposing.gives_of_superposition p.0 (scope_of_names d.in_scope))))
    (λ e. from e (check_literal_limits raw.shown) _ (λ few. from e (terms_after e.terms (superposing.gives_of_superposition p.0 (scope_of_names d.in_scope))) _ (λ n. refl)))))

by_split : (d : TheoremParser) (raw : RawLit) → Same d.title (after_cases d raw)
unfolding after_cases
by_split d raw = from d (lit_in d.in_scope raw) _ (λ l. then d (inside_if_room d (kind.First l) 1) _ (by_block d (kind.First l) 1) (λ e. by_terms e (raw ∷ [])))

by_declared : (d : TheoremParser) (sort : Sort) (ns : List (List ℕ)) → Same d.title (after_declare d sort ns)
by_declared d sort ns = from d (with_declared d.names sort ns) _ (λ names. refl)

by_made : (d : TheoremParser) (sort : Sort) (ns : List (List ℕ)) → Same d.title (after_made d sort ns)
by_made d sort ns = from d (with_declared d.names sort ns) _ (λ names. refl)

-- ---- after a line

by_form : (known : List TitledStatement) (d : TheoremParser) (f : RawLine) → Same d.title (after_line known d f)
unfolding after_line
by_form known d (rawlines.Theorem t) = tt
by_form known d (rawlines.Declare sort ns) = by_declared d sort ns
by_form known d (rawlines.Given raws) = by_given d raws
by_form known d (rawlines.Made sort ns) = by_made d sort ns
by_form known d (rawlines.Show raws) = by_shown d raws
by_form known d rawlines.Proof = refl
by_form known d (rawlines.By r ns l) = by_citation d r ns l
by_form known d (rawlines.Hence raw) = by_hence d raw
by_form known d (rawlines.Let raw) = by_let d raw
by_form known d (rawlines.Apply raw) = by_apply known d raw
by_form known d (rawlines.Qed ns) = by_qed d ns
by_form known d rawlines.Contradiction = by_shut d closes.Contradiction
by_form known d (rawlines.Claim raws) = by_claim d raws
by_form known d (rawlines.Superpose raw) = by_superpose d raw
by_form known d (rawlines.Cases raw) = by_split d raw
by_form known d rawlines.Else = refl
by_form known d rawlines.End = refl

pub same_title : (known : List TitledStatement) (d e : TheoremParser) (f : RawLine) → step known d f ≡ Ok e → e.title ≡ d.title
unfolding step
same_title known d e f h =
    let p = passes (line_may_come d.section f) (after_line known d f) e h in
    subst (λ (r : Result TheoremParser FaultKind). Same d.title r) p.1 (by_form known d f)

-- ---- the title of what begins

pub title_begun : (known : List TitledStatement) (t : List ℕ) (e : TheoremParser) → begin known (rawlines.Theorem t) ≡ Ok e → e.title ≡ t
unfolding begin
title_begun known t e h =
    let n = untaken (is_known known t) (within (length known + 1) most_theorems limits.Theorems >>= λ few. read_ok (with_title t)) e h in
    let w = bind_ok (within (length known + 1) most_theorems limits.Theorems) (λ few. read_ok (with_title t)) e n.1 in
    ap (λ (d : TheoremParser). d.title) (sym (ok_is (with_title t) e w.2))
