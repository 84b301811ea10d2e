-- Each line keeps what is known of a parser, and so of the theorem that is read.
use Rattle.std.proofs.Common.{◌≡◌, ℕ, zero, suc, ◌+◌, ◌≤◌, Bool, true, false, cond, inl, inr, List, [], ◌∷◌, ◌++◌, length, replicate, Option, Some, None, Result, Ok, Err, refl, sym, ap, subst, ◌∙◌, arith, length-append}
use Rattle.std.specs.List.{list_all}
use Rattle.e_literal.specs.declared.object.Sort.{Sort}
use Rattle.e_literal.specs.declared.object.Sort.TheVariants.{Point, Line, Circle}
use Rattle.e_literal.specs.declared.object.Scope.{Scope}
use Rattle.e_literal.specs.declared.literal.Lit.{Lit}
use Rattle.e_literal.specs.Literal.{all_in_scope}
use Rattle.e_literal.specs.Scopes.{nothing, with_one, with_sorts}
use Rattle.e_literal.specs.WellFormed.{is_well_formed}
use Rattle.e_literal.specs.Use.{scope_of}
use Rattle.e_literal.proofs.GrownScopes.{grown-append, sorts_next}
use Rattle.e_literal.proofs.Booleans.{all_both}
use Rattle.e_text.specs.Tokens.{tokens_of}
use Rattle.e_text.specs.Lines.{LineView}
use Rattle.e_text.specs.declared.line.LineFault.{LineFault}
use Rattle.e_theorem.specs.Statements.{as_view}
use Rattle.e_deriv.specs.declared.names.Names.{Names}
use Rattle.e_deriv.specs.PlainStep.{PlainStep, all_before}
use Rattle.e_deriv.specs.Goal.{goal_of_statement, facts_of_statement}
use Rattle.e_deriv.specs.PlacedSteps.{placed_steps}
use Rattle.e_deriv.specs.Naming.{names_of_sort, with_names}
use Rattle.e_line.specs.declared.fault.BookFault.{BookFault}
use Rattle.e_line.specs.declared.fault.What.TheVariants as limits
use Rattle.e_line.specs.declared.literal.RawLit.{RawLit}
use Rattle.e_line.specs.declared.lets.RawLet.{RawLet}
use Rattle.e_line.specs.declared.superposes.RawSuperpose.{RawSuperpose}
use Rattle.e_line.specs.declared.applies.RawApply.{RawApply}
use Rattle.e_book.specs.declared.blocks.OpenBlock.{OpenBlock}
use Rattle.e_line.specs.declared.raw_line.RawLine.{RawLine}
use Rattle.e_line.specs.declared.raw_line.RawLine.TheVariants as rawlines
use Rattle.e_book.specs.declared.parser.Section.{Section}
use Rattle.e_book.specs.declared.parser.Section.TheVariants.{Declaring, Giving, Making, Showing, Proving, Splitting, Closed, Done}
use Rattle.e_book.specs.declared.parser.TheoremParser.{TheoremParser}
use Rattle.e_line.specs.Reading.{◌>>=◌, with_front}
use Rattle.e_line.specs.Limits.{most_theorems, most_of, most_facts, what_of, within, count_monomials}
use Rattle.e_names.specs.TitledStatements.{TitledStatement, is_known, stated_by}
use Rattle.e_names.specs.Scope.{scope_of_names, fresh, lit_in, lits_in}
use Rattle.e_line.specs.RawLines.{raw_line_of}
use Rattle.e_line.specs.LineLimits.{count_raw_monomials, check_literal_limits}
use Rattle.e_book.specs.LineLimits.{FewNamed}
use Rattle.e_book.specs.Steps.{with_terms, line_may_come, with_declared, after_line, step, begin, with_title}
use Rattle.e_book.specs.ParserViews.{script_of_close, entry_of_parser, statement_of_parser}
use Rattle.e_book.specs.TheoremViews.{TheoremView}
use Rattle.e_names.specs.Fits.{NamesDiffer}
use Rattle.e_book.specs.Fits.{few_facts, few_terms, Fits}
use Rattle.e_book.specs.Grammar.{is_skipped, put_at}
use Rattle.e_book.specs.Book.{line_step, is_last, is_done, read_from}
use Rattle.e_book.proofs.parsers.Answered.{within_ok, passes, untaken, put_ok, answered, pair, first_is, skip_or, Answer}
use Rattle.e_line.proofs.base.Bound.{bind_ok, ok_is, read_ok, each_length}
use Rattle.e_names.proofs.read_lines.LiteralsOfRawLines.{Said, form_said}
use Rattle.e_names.proofs.read_lines.WellRead.{good_lits, lits_count}
use Rattle.e_names.proofs.literals.FewSums.{few_ok}
use Rattle.e_book.proofs.parsers.KeptSums.{terms_added, monomials-append}
use Rattle.e_names.proofs.distinct_names.Distinct.{still_differ}
use Rattle.e_names.proofs.read_lines.Building.{declared_scope}
use Rattle.e_book.proofs.fit_theorems.FittingScripts.{Spot, spot, line_fits}
use Rattle.e_book.proofs.parsers.OpenBlocks.{Open, open_first}
use Rattle.e_book.proofs.parsers.ParserFits.{HeadOf, start, NoProof, NoProofOf, OpenOf, ShutOf, Body, Good}
use Rattle.e_book.proofs.parsers.KeptBlocks.{lits_within, keeps_by, keeps_hence, keeps_let, keeps_apply, keeps_claim, keeps_superpose, keeps_cases, keeps_else, keeps_qed, keeps_contradiction}

abbrev more : Scope → Sort → ℕ → Scope
more s Point n = record { points = s.points + n; lines = s.lines; circles = s.circles }
more s Line n = record { points = s.points; lines = s.lines + n; circles = s.circles }
more s Circle n = record { points = s.points; lines = s.lines; circles = s.circles + n }

grown-replicate : (s : Scope) (sort : Sort) (n : ℕ) → with_sorts s (replicate n sort) ≡ more s sort n
grown-replicate s Point zero = ap (λ k. record { points = k; lines = s.lines; circles = s.circles }) (omega arith)
grown-replicate s Line zero = ap (λ k. record { points = s.points; lines = k; circles = s.circles }) (omega arith)
grown-replicate s Circle zero = ap (λ k. record { points = s.points; lines = s.lines; circles = k }) (omega arith)
grown-replicate s Point (suc n) = grown-replicate (with_one s Point) Point n ∙ ap (λ k. record { points = k; lines = s.lines; circles = s.circles }) (omega arith)
grown-replicate s Line (suc n) = grown-replicate (with_one s Line) Line n ∙ ap (λ k. record { points = s.points; lines = k; circles = s.circles }) (omega arith)
grown-replicate s Circle (suc n) = grown-replicate (with_one s Circle) Circle n ∙ ap (λ k. record { points = s.points; lines = s.lines; circles = k }) (omega arith)

more_names : (ns : Names) (sort : Sort) (new : List (List ℕ)) → more (scope_of_names ns) sort (length new) ≡ scope_of_names (with_names ns sort (names_of_sort ns sort ++ new))
more_names ns Point new = ap (λ k. record { points = k; lines = length ns.lines; circles = length ns.circles }) (sym (length-append ns.points new))
more_names ns Line new = ap (λ k. record { points = length ns.points; lines = k; circles = length ns.circles }) (sym (length-append ns.lines new))
more_names ns Circle new = ap (λ k. record { points = length ns.points; lines = length ns.lines; circles = k }) (sym (length-append ns.circles new))

pub few_named : (ns : Names) (sort : Sort) (new : List (List ℕ)) → FewNamed ns → length (names_of_sort ns sort) + length new ≤ most_of sort → FewNamed (with_names ns sort (names_of_sort ns sort ++ new))
few_named ns Point new f le = record { points = omega (arith, le, length-append ns.points new); lines = f.lines; circles = f.circles }
few_named ns Line new f le = record { points = f.points; lines = omega (arith, le, length-append ns.lines new); circles = f.circles }
few_named ns Circle new f le = record { points = f.points; lines = f.lines; circles = omega (arith, le, length-append ns.circles new) }

nothing_at : {X : Type 0} (p : X → Bool) (xs : List X) → xs ≡ [] → list_all p xs ≡ true
nothing_at {X} p xs e = subst (λ (l : List X). list_all p l ≡ true) (sym e) refl

-- ---- the statement

-- where objects may be declared
declaring : (known : List TitledStatement) (p : Section) (d : TheoremParser) (sort : Sort) (ns : List (List ℕ)) → line_may_come p (rawlines.Declare sort ns) ≡ true → Body known p d → (p ≡ Declaring) × (d.given ≡ []) × (d.made ≡ []) × (d.shown ≡ []) × NoProofOf d
declaring known Declaring d sort ns a b = (refl, b.0, b.1, b.2, b.3)
declaring known p d sort ns a b = absurd cc

-- where literals may be given
giving : (known : List TitledStatement) (p : Section) (d : TheoremParser) (raws : List RawLit) → line_may_come p (rawlines.Given raws) ≡ true → Body known p d → (d.made ≡ []) × (d.shown ≡ []) × NoProofOf d
giving known Declaring d raws a b = (b.1, b.2, b.3)
giving known Giving d raws a b = b
giving known p d raws a b = absurd cc

-- where objects may be made
making : (known : List TitledStatement) (p : Section) (d : TheoremParser) (sort : Sort) (ns : List (List ℕ)) → line_may_come p (rawlines.Made sort ns) ≡ true → Body known p d → (d.shown ≡ []) × NoProofOf d
making known Declaring d sort ns a b = (b.2, b.3)
making known Giving d sort ns a b = (b.1, b.2)
making known Making d sort ns a b = b
making known p d sort ns a b = absurd cc

-- where literals may be shown
showing : (known : List TitledStatement) (p : Section) (d : TheoremParser) (raws : List RawLit) → line_may_come p (rawlines.Show raws) ≡ true → Body known p d → NoProofOf d
showing known Declaring d raws a b = b.3
showing known Giving d raws a b = b.2
showing known Making d raws a b = b.1
showing known Showing d raws a b = b
showing known p d raws a b = absurd cc

-- where the proof may begin
beginning : (known : List TitledStatement) (p : Section) (d : TheoremParser) → line_may_come p rawlines.Proof ≡ true → Body known p d → NoProofOf d
beginning known Showing d a b = b
beginning known p d a b = absurd cc

-- more objects of a sort
record Grown (ns : Names) (sort : Sort) (new : List (List ℕ)) (now : Names) : Type 0 where
  is : with_names ns sort (names_of_sort ns sort ++ new) ≡ now
  few : FewNamed (with_names ns sort (names_of_sort ns sort ++ new))
  differ : NamesDiffer (with_names ns sort (names_of_sort ns sort ++ new))

grows : (ns : Names) (sort : Sort) (new : List (List ℕ)) (now : Names) → FewNamed ns → NamesDiffer ns → with_declared ns sort new ≡ Ok now → Grown ns sort new now
unfolding with_declared
grows ns sort new now few differ h =
    let next : Names = with_names ns sort (names_of_sort ns sort ++ new) in
    let f = bind_ok (fresh ns [] new) (λ free. within (length (names_of_sort ns sort) + length new) (most_of sort) (what_of sort) >>= λ few. read_ok next) now h in
    let w = bind_ok (within (length (names_of_sort ns sort) + length new) (most_of sort) (what_of sort)) (λ few. read_ok next) now f.2 in
    record { is = ok_is next now w.2; few = few_named ns sort new few (within_ok _ _ _ w.0 w.1); differ = still_differ ns sort new f.0 differ f.1 }

keeps_declare : (known : List TitledStatement) (d e : TheoremParser) (sort : Sort) (ns : List (List ℕ)) → Good known d → line_may_come d.section (rawlines.Declare sort ns) ≡ true → after_line known d (rawlines.Declare sort ns) ≡ Ok e → Good known e
unfolding after_line
keeps_declare known d e sort ns good a h =
    let g = good.head in
    let now : Names = with_names d.names sort (names_of_sort d.names sort ++ ns) in
    let more_sorts = replicate (length ns) sort in
    let x : TheoremParser = record d { names = now; declared = d.declared ++ more_sorts } in
    let n = bind_ok (with_declared d.names sort ns) (λ names. read_ok (record d { names = names; declared = d.declared ++ more_sorts })) e h in
    let w = grows d.names sort ns n.0 g.few g.differ n.1 in
    let at = declaring known d.section d sort ns a good.body in
    let none : (s : Scope) → with_sorts s d.made ≡ s = λ s. ap (with_sorts s) at.2 in
    let was : with_sorts nothing d.declared ≡ scope_of_names d.names = sym (none (with_sorts nothing d.declared)) ∙ g.scope in
    let x-is : x ≡ e = ap (λ (m : Names). record d { names = m; declared = d.declared ++ more_sorts }) w.is ∙ ok_is (record d { names = n.0; declared = d.declared ++ more_sorts }) e n.2 in
    let head : HeadOf known x = record {
      new = g.new;
      scope = none (with_sorts nothing (d.declared ++ more_sorts)) ∙ grown-append nothing d.declared more_sorts ∙ ap (λ (s : Scope). with_sorts s more_sorts) was ∙ grown-replicate (scope_of_names d.names) sort (length ns) ∙ more_names d.names sort ns;
      differ = w.differ;
      few = w.few;
      given = nothing_at (all_in_scope (with_sorts nothing (d.declared ++ more_sorts))) d.given at.1;
      shown = nothing_at (all_in_scope (scope_of_names now)) d.shown at.3;
      good_given = g.good_given;
      good_shown = g.good_shown;
      few_given = g.few_given;
      few_terms = g.few_terms;
    } in
    subst (λ (y : TheoremParser). Good known y) x-is (record { head = head; body = subst (λ (p : Section). Body known p x) (sym at.0) (at.1, at.2, at.3, at.4) })

keeps_given : (known : List TitledStatement) (d e : TheoremParser) (raws : List RawLit) → Good known d → line_may_come d.section (rawlines.Given raws) ≡ true → Said (rawlines.Given raws) → after_line known d (rawlines.Given raws) ≡ Ok e → Good known e
unfolding after_line
keeps_given known d e raws good a said h =
    let g = good.head in
    let count = d.facts + length raws in
    let then : List Lit → TheoremParser = λ ls. record d { given = ls; facts = count; section = Giving } in
    let all = bind_ok (with_front d.given (lits_in d.names raws)) (λ ls. within count most_facts limits.Facts >>= λ few. with_terms (then ls) raws) e h in
    let ls = bind_ok (lits_in d.names raws) (λ xs. read_ok (d.given ++ xs)) all.0 all.1 in
    let w = bind_ok (within count most_facts limits.Facts) (λ few. with_terms (then all.0) raws) e all.2 in
    let le = within_ok _ _ _ w.0 w.1 in
    let n = each_length (lit_in d.names) raws ls.0 ls.1 in
    let m = lits_count d.names raws ls.0 ls.1 in
    let at = giving known d.section d raws a good.body in
    let was : scope_of_names d.names ≡ with_sorts nothing d.declared = sym g.scope ∙ ap (with_sorts (with_sorts nothing d.declared)) at.0 in
    let gs = d.given ++ ls.0 in
    let t = terms_added (then gs) e raws (ap (λ (l : List Lit). with_terms (then l) raws) (ok_is gs all.0 ls.2) ∙ w.2) in
    let x : TheoremParser = record (then gs) { terms = d.terms + count_raw_monomials raws } in
    let none : NoProofOf d = at.2 in
    let facts : count ≡ length gs = omega (arith, none.facts, n, length-append d.given ls.0) in
    let terms : d.terms + count_raw_monomials raws ≡ count_monomials gs = omega (arith, none.terms, m, monomials-append d.given ls.0) in
    let head : HeadOf known x = record {
      new = g.new;
      scope = g.scope;
      differ = g.differ;
      few = g.few;
      given = all_both (all_in_scope (with_sorts nothing d.declared)) d.given ls.0 g.given (subst (λ (s : Scope). list_all (all_in_scope s) ls.0 ≡ true) was (lits_within d.names raws ls.0 ls.1));
      shown = g.shown;
      good_given = all_both is_well_formed d.given ls.0 g.good_given (good_lits d.names raws ls.0 ls.1 said t.few.short t.few.small);
      good_shown = g.good_shown;
      few_given = omega (arith, facts, le);
      few_terms = omega (arith, terms, t.within);
    } in
    let none_now : NoProofOf x = record { steps = none.steps; blocks = none.blocks; lines = none.lines; facts = facts; terms = terms } in
    subst (λ (y : TheoremParser). Good known y) t.is (record { head = head; body = (at.0, at.1, none_now) })

keeps_made : (known : List TitledStatement) (d e : TheoremParser) (sort : Sort) (ns : List (List ℕ)) → Good known d → line_may_come d.section (rawlines.Made sort ns) ≡ true → after_line known d (rawlines.Made sort ns) ≡ Ok e → Good known e
unfolding after_line
keeps_made known d e sort ns good a h =
    let g = good.head in
    let now : Names = with_names d.names sort (names_of_sort d.names sort ++ ns) in
    let more_sorts = replicate (length ns) sort in
    let x : TheoremParser = record d { names = now; made = d.made ++ more_sorts; section = Making } in
    let n = bind_ok (with_declared d.names sort ns) (λ names. read_ok (record d { names = names; made = d.made ++ more_sorts; section = Making })) e h in
    let w = grows d.names sort ns n.0 g.few g.differ n.1 in
    let at = making known d.section d sort ns a good.body in
    let x-is : x ≡ e = ap (λ (m : Names). record d { names = m; made = d.made ++ more_sorts; section = Making }) w.is ∙ ok_is (record d { names = n.0; made = d.made ++ more_sorts; section = Making }) e n.2 in
    let head : HeadOf known x = record {
      new = g.new;
      scope = grown-append (with_sorts nothing d.declared) d.made more_sorts ∙ ap (λ (s : Scope). with_sorts s more_sorts) g.scope ∙ grown-replicate (scope_of_names d.names) sort (length ns) ∙ more_names d.names sort ns;
      differ = w.differ;
      few = w.few;
      given = g.given;
      shown = nothing_at (all_in_scope (scope_of_names now)) d.shown at.0;
      good_given = g.good_given;
      good_shown = g.good_shown;
      few_given = g.few_given;
      few_terms = g.few_terms;
    } in
    subst (λ (y : TheoremParser). Good known y) x-is (record { head = head; body = at })

keeps_shown : (known : List TitledStatement) (d e : TheoremParser) (raws : List RawLit) → Good known d → line_may_come d.section (rawlines.Show raws) ≡ true → Said (rawlines.Show raws) → after_line known d (rawlines.Show raws) ≡ Ok e → Good known e
unfolding after_line
keeps_shown known d e raws good a said h =
    let g = good.head in
    let then : List Lit → TheoremParser = λ ls. record d { shown = ls; section = Showing } in
    let all = bind_ok (with_front d.shown (lits_in d.names raws)) (λ ls. check_literal_limits raws >>= λ few. read_ok (then ls)) e h in
    let ls = bind_ok (lits_in d.names raws) (λ xs. read_ok (d.shown ++ xs)) all.0 all.1 in
    let f = bind_ok (check_literal_limits raws) (λ few. read_ok (then all.0)) e all.2 in
    let few = few_ok raws f.0 f.1 in
    let x : TheoremParser = then (d.shown ++ ls.0) in
    let x-is : x ≡ e = ap then (ok_is (d.shown ++ ls.0) all.0 ls.2) ∙ ok_is (then all.0) e f.2 in
    let head : HeadOf known x = record {
      new = g.new;
      scope = g.scope;
      differ = g.differ;
      few = g.few;
      given = g.given;
      shown = all_both (all_in_scope (scope_of_names d.names)) d.shown ls.0 g.shown (lits_within d.names raws ls.0 ls.1);
      good_given = g.good_given;
      good_shown = all_both is_well_formed d.shown ls.0 g.good_shown (good_lits d.names raws ls.0 ls.1 said.1 few.short few.small);
      few_given = g.few_given;
      few_terms = g.few_terms;
    } in
    subst (λ (y : TheoremParser). Good known y) x-is (record { head = head; body = showing known d.section d raws a good.body })

-- no line of the proof has come, and its first may
first_line : (at : Spot) (made : List Sort) (gs : List Lit) (os : List OpenBlock) (ss : List PlainStep) (n facts terms : ℕ) → at.facts ≡ length gs → at.terms ≡ count_monomials gs → NoProof gs ss os n facts terms
    → Open at made os ss (spot at.before at.names facts terms) n
first_line at made gs os ss n facts terms f t none =
    subst (λ (l : List OpenBlock). Open at made l ss (spot at.before at.names facts terms) n) (sym none.blocks)
    (subst (λ (l : List PlainStep). Open at made [] l (spot at.before at.names facts terms) n) (sym none.steps)
    (subst (λ (k : ℕ). Open at made [] [] (spot at.before at.names facts terms) k) (sym none.lines)
    (subst (λ (k : ℕ). Open at made [] [] (spot at.before at.names k terms) 0) (f ∙ sym none.facts)
    (subst (λ (k : ℕ). Open at made [] [] (spot at.before at.names at.facts k) 0) (t ∙ sym none.terms) (open_first at made)))))

keeps_proof : (known : List TitledStatement) (d e : TheoremParser) → Good known d → line_may_come d.section rawlines.Proof ≡ true → after_line known d rawlines.Proof ≡ Ok e → Good known e
unfolding after_line
keeps_proof known d e g a h =
    let x : TheoremParser = record d { in_scope = (start known d).names; section = Proving } in
    let open_now : OpenOf known x = first_line (start known d) d.made d.given d.blocks d.steps d.lines d.facts d.terms refl refl (beginning known d.section d a g.body) in
    subst (λ (y : TheoremParser). Good known y) (ok_is x e h) (record { head = g.head; body = open_now })

-- ---- the proof

proving_by : (p : Section) (r : List ℕ) (ns : List (List ℕ)) (l : RawLit) → line_may_come p (rawlines.By r ns l) ≡ true → p ≡ Proving
proving_by Proving r ns l a = refl
proving_by p r ns l a = absurd cc

proving_hence : (p : Section) (l : RawLit) → line_may_come p (rawlines.Hence l) ≡ true → p ≡ Proving
proving_hence Proving l a = refl
proving_hence p l a = absurd cc

proving_let : (p : Section) (l : RawLet) → line_may_come p (rawlines.Let l) ≡ true → p ≡ Proving
proving_let Proving l a = refl
proving_let p l a = absurd cc

proving_apply : (p : Section) (a : RawApply) → line_may_come p (rawlines.Apply a) ≡ true → p ≡ Proving
proving_apply Proving a h = refl
proving_apply p a h = absurd cc

proving_qed : (p : Section) (ns : List (List ℕ)) → line_may_come p (rawlines.Qed ns) ≡ true → p ≡ Proving
proving_qed Proving ns a = refl
proving_qed p ns a = absurd cc

proving_contradiction : (p : Section) → line_may_come p rawlines.Contradiction ≡ true → p ≡ Proving
proving_contradiction Proving a = refl
proving_contradiction p a = absurd cc

proving_claim : (p : Section) (ls : List RawLit) → line_may_come p (rawlines.Claim ls) ≡ true → p ≡ Proving
proving_claim Proving ls a = refl
proving_claim p ls a = absurd cc

proving_superpose : (p : Section) (s : RawSuperpose) → line_may_come p (rawlines.Superpose s) ≡ true → p ≡ Proving
proving_superpose Proving s a = refl
proving_superpose p s a = absurd cc

proving_cases : (p : Section) (l : RawLit) → line_may_come p (rawlines.Cases l) ≡ true → p ≡ Proving
proving_cases Proving l a = refl
proving_cases p l a = absurd cc

splitting : (p : Section) → line_may_come p rawlines.Else ≡ true → p ≡ Splitting
splitting Splitting a = refl
splitting p a = absurd cc

-- a closed proof
closed : (known : List TitledStatement) (p : Section) (d : TheoremParser) → line_may_come p rawlines.End ≡ true → Body known p d → ShutOf known d
closed known Closed d a b = b
closed known p d a b = absurd cc

keeps_end : (known : List TitledStatement) (d e : TheoremParser) → Good known d → line_may_come d.section rawlines.End ≡ true → after_line known d rawlines.End ≡ Ok e → Good known e
unfolding after_line
keeps_end known d e g a h = subst (λ (y : TheoremParser). Good known y) (ok_is (record d { section = Done }) e h) (record { head = g.head; body = closed known d.section d a g.body })

-- ---- all lines

pub no_title : (known : List TitledStatement) (d e : TheoremParser) (t : List ℕ) → after_line known d (rawlines.Theorem t) ≡ Ok e → ⊥
unfolding after_line
no_title known d e t h = absurd cc

keeps_stepped : (known : List TitledStatement) (d e : TheoremParser) (f : RawLine) → Good known d → line_may_come d.section f ≡ true → Said f → after_line known d f ≡ Ok e → Good known e
keeps_stepped known d e (rawlines.Theorem t) g a s h = absurd (no_title known d e t h)
keeps_stepped known d e (rawlines.Declare sort ns) g a s h = keeps_declare known d e sort ns g a h
keeps_stepped known d e (rawlines.Given raws) g a s h = keeps_given known d e raws g a s h
keeps_stepped known d e (rawlines.Made sort ns) g a s h = keeps_made known d e sort ns g a h
keeps_stepped known d e (rawlines.Show raws) g a s h = keeps_shown known d e raws g a s h
keeps_stepped known d e rawlines.Proof g a s h = keeps_proof known d e g a h
keeps_stepped known d e (rawlines.By r ns l) g a s h = keeps_by known d e r ns l g (proving_by d.section r ns l a) s h
keeps_stepped known d e (rawlines.Hence l) g a s h = keeps_hence known d e l g (proving_hence d.section l a) s h
keeps_stepped known d e (rawlines.Let l) g a s h = keeps_let known d e l g (proving_let d.section l a) h
keeps_stepped known d e (rawlines.Apply x) g a s h = keeps_apply known d e x g (proving_apply d.section x a) h
keeps_stepped known d e (rawlines.Qed ns) g a s h = keeps_qed known d e ns g (proving_qed d.section ns a) h
keeps_stepped known d e rawlines.Contradiction g a s h = keeps_contradiction known d e g (proving_contradiction d.section a) h
keeps_stepped known d e (rawlines.Claim ls) g a s h = keeps_claim known d e ls g (proving_claim d.section ls a) s h
keeps_stepped known d e (rawlines.Superpose x) g a s h = keeps_superpose known d e x g (proving_superpose d.section x a) s h
keeps_stepped known d e (rawlines.Cases l) g a s h = keeps_cases known d e l g (proving_cases d.section l a) s h
keeps_stepped known d e rawlines.Else g a s h = keeps_else known d e g (splitting d.section a) h
keeps_stepped known d e rawlines.End g a s h = keeps_end known d e g a h

pub keeps : (known : List TitledStatement) (d e : TheoremParser) (f : RawLine) → Good known d → Said f → step known d f ≡ Ok e → Good known e
unfolding step
keeps known d e f g said h = let p = passes (line_may_come d.section f) (after_line known d f) e h in keeps_stepped known d e f g p.0 said p.1

pub good_begun : (known : List TitledStatement) (t : List ℕ) → is_known known t ≡ false → Good known (with_title t)
good_begun known t n =
    let head : HeadOf known (with_title t) = record {
      new = n;
      scope = refl;
      differ = record { points = refl; lines = refl; circles = refl; points_lines = refl; points_circles = refl; lines_circles = refl };
      few = record { points = omega arith; lines = omega arith; circles = omega arith };
      given = refl;
      shown = refl;
      good_given = refl;
      good_shown = refl;
      few_given = omega arith;
      few_terms = omega arith;
    } in
    let none : NoProofOf (with_title t) = record { steps = refl; blocks = refl; lines = refl; facts = refl; terms = refl } in
    record { head = head; body = (refl, refl, refl, none) }

pub keeps_begin : (known : List TitledStatement) (f : RawLine) (e : TheoremParser) → begin known f ≡ Ok e → Good known e
unfolding begin
keeps_begin known (rawlines.Theorem t) e h =
    let n = untaken (is_known known t) (within (length known + 1) most_theorems limits.Theorems >>= λ few. read_ok (with_title t)) e h in
    let w = bind_ok (within (length known + 1) most_theorems limits.Theorems) (λ few. read_ok (with_title t)) e n.1 in
    subst (λ (y : TheoremParser). Good known y) (ok_is (with_title t) e w.2) (good_begun known t n.0)
keeps_begin known f e h = absurd cc

abbrev GoodSoFar : List TitledStatement → Option TheoremParser → Type 0
GoodSoFar known None = Unit {0}
GoodSoFar known (Some d) = Good known d

keeps_line : (known : List TitledStatement) (parser : Option TheoremParser) (words : List (List ℕ)) (e : TheoremParser) → GoodSoFar known parser → line_step known parser words ≡ Ok e → Good known e
unfolding line_step
keeps_line known None words e g h = let f = bind_ok (raw_line_of words) (λ f. begin known f) e h in keeps_begin known f.0 e f.2
keeps_line known (Some d) words e g h = let f = bind_ok (raw_line_of words) (λ f. step known d f) e h in keeps known d e f.0 g (form_said words f.0 f.1) f.2

-- a theorem whose last line has come
last_shut : (known : List TitledStatement) (p : Section) (d : TheoremParser) → is_last p ≡ true → Body known p d → ShutOf known d
last_shut known Done d a b = b
last_shut known p d a b = absurd cc

pub fits_read : (known : List TitledStatement) (d : TheoremParser) → Good known d → is_done d ≡ true → Fits known (entry_of_parser d)
fits_read known d good a =
    let g = good.head in
    let t = as_view (statement_of_parser d) in
    let script = all_before d.steps (script_of_close d.close) in
    let before = stated_by known in
    let s = last_shut known d.section d a good.body in
    let here : scope_of_names (start known d).names ≡ scope_of t = declared_scope t d.names g.scope in
    record {
      new = g.new;
      scope = g.scope;
      differ = g.differ;
      points = g.few.points;
      lines = g.few.lines;
      circles = g.few.circles;
      given = g.given;
      shown = g.shown;
      good_given = g.good_given;
      good_shown = g.good_shown;
      good_script = s.fits.literals;
      script = subst (λ (z : Scope). list_all (line_fits before) (placed_steps before script script z (facts_of_statement t) (goal_of_statement t)) ≡ true) here (s.fits.forms script (facts_of_statement t) (goal_of_statement t) (sorts_next (scope_of t) d.made));
      new_names = s.fits.new_names;
      steps = s.short;
      depth = omega (arith, s.fits.shallow);
      given_facts = g.few_given;
      given_terms = g.few_terms;
      facts = subst (λ (z : Scope). few_facts before (length d.given) z script ≡ true) here s.fits.facts;
      terms = subst (λ (z : Scope). few_terms before (count_monomials d.given) z script ≡ true) here s.fits.terms;
      blanks = s.fits.blanks;
    }

-- a theorem that is read fits
pub reading_fits : (known : List TitledStatement) (last : ℕ) (parser : Option TheoremParser) (lines rest : List (Result LineView LineFault)) (t : TheoremView) → GoodSoFar known parser → read_from known last parser lines ≡ answered (pair t rest) → Fits known t
reading_fits known last None [] rest t g e = absurd cc
reading_fits known last (Some d) [] rest t g e = absurd cc
reading_fits known last parser (Err f ∷ lines) rest t g e = absurd cc
reading_fits known last parser (Ok line ∷ lines) rest t g e =
    let words = tokens_of line.bytes in
    let next : Result TheoremParser BookFault = put_at line.number (line_step known parser words) in
    let then : TheoremParser → Result Answer BookFault = λ d. cond (is_done d) (answered (pair (entry_of_parser d) lines)) (read_from known last (Some d) lines) in
    elim (skip_or (is_skipped words) (read_from known last parser lines) (next >>= then) (answered (pair t rest)) e) [
      | inl s ↦ reading_fits known last parser lines rest t g s.1
      | inr s ↦
          let d = bind_ok next then (pair t rest) s.1 in
          let good = keeps_line known parser words d.0 g (put_ok line.number (line_step known parser words) d.0 d.1) in
          elim (skip_or (is_done d.0) (answered (pair (entry_of_parser d.0) lines)) (read_from known last (Some d.0) lines) (answered (pair t rest)) d.2) [
            | inl q ↦ subst (λ (x : TheoremView). Fits known x) (first_is (entry_of_parser d.0) t lines rest q.1) (fits_read known d.0 good q.0)
            | inr q ↦ reading_fits known last (Some d.0) lines rest t good q.1
          ]
    ]
