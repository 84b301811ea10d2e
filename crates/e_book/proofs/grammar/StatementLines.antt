-- The lines of a statement: the parser makes of them what the grammar says.
use Rattle.std.proofs.Common.{◌≡◌, ℕ, zero, suc, ◌+◌, ◌≤◌, ◌<◌, Bool, true, false, cond, leb, not, List, [], ◌∷◌, ◌++◌, length, take, replicate, Result, Ok, Err, refl, sym, ap, subst, ◌∙◌, arith, length-append}
use Rattle.std.proofs.lemmas.Bool.{and_from, and_left, and_right, and_parts}
use Rattle.e_literal.specs.declared.object.Sort.{Sort}
use Rattle.e_literal.specs.declared.object.Sort.TheVariants as sorts
use Rattle.e_literal.specs.declared.literal.Lit.{Lit}
use Rattle.e_literal.specs.Use.{scope_of}
use Rattle.e_theorem.specs.Statements.{as_view}
use Rattle.e_deriv.specs.declared.names.Names.{Names}
use Rattle.e_deriv.specs.PlainStep.{PlainStep}
use Rattle.e_deriv.specs.Naming.{names_of_sort, declared_names}
use Rattle.e_line.specs.declared.fault.FaultKind.{FaultKind}
use Rattle.e_line.specs.declared.fault.FaultKind.TheVariants.{Malformed}
use Rattle.e_line.specs.declared.fault.What.TheVariants as limits
use Rattle.e_line.specs.declared.literal.RawLit.{RawLit}
use Rattle.e_book.specs.declared.blocks.OpenBlock.{OpenBlock}
use Rattle.e_line.specs.declared.raw_line.RawLine.TheVariants as rawlines
use Rattle.e_book.specs.declared.parser.TheoremParser.{TheoremParser}
use Rattle.e_book.specs.declared.parser.Section.{Section}
use Rattle.e_book.specs.declared.parser.Section.TheVariants as places
use Rattle.e_line.specs.Reading.{◌>>=◌}
use Rattle.e_names.specs.TitledStatements.{TitledStatement}
use Rattle.e_line.specs.Limits.{most_of, most_steps, most_depth, most_facts, most_monomials_of_facts, what_of, within, count_monomials}
use Rattle.e_names.specs.Scope.{fresh, lit_in, lits_in}
use Rattle.e_line.specs.LineLimits.{count_raw_monomials, check_literal_limits}
use Rattle.e_book.specs.LineLimits.{FewNamed}
use Rattle.e_book.specs.Steps.{line_may_come, with_declared, with_terms, after_declare, after_given, after_made, after_show, after_proof}
use Rattle.e_book.specs.ParserViews.{statement_of_parser}
use Rattle.e_book.specs.Open.{Open, Stating, Proving}
use Rattle.e_book.specs.Counts.{LineContext}
use Rattle.e_book.specs.Grammar.{is_empty, none_made, none_given, with_new, states}
use Rattle.e_line.proofs.base.Bound.{read_ok, each_length}
use Rattle.e_names.proofs.read_lines.WellRead.{lits_count}
use Rattle.e_book.proofs.parsers.KeptSums.{monomials-append}
use Rattle.e_book.proofs.parsers.ParserInvariants.{few_named}
use Rattle.e_book.proofs.grammar.ParserState.{around_of, head_of, Counted, context_in, BlockTied, UnprovedOf, Stands, Alike, tied_there}
use Rattle.e_book.proofs.grammar.LimitTests.{line_tests, circle_tests, step_tests, depth_tests, fact_tests, literal_tests, all_tests, kept, then_limits, test, test_in, pass_le, pass_objects, test_monos, pass_terms, pass_later, pass_all, both_in, in_place, by_counts}
use Rattle.e_book.proofs.grammar.BlockCounts.{block_limits}
use Rattle.e_book.proofs.grammar.BlockLines.{terms_alike}

abbrev read_open : Open → Result Open FaultKind
read_open n = Ok n

-- ---- lists that are not empty

some_after : {A : Type 0} (xs ys : List A) → 0 < length ys → is_empty (xs ++ ys) ≡ false
some_after {A} [] [] h = absurd (omega (arith, h))
some_after {A} [] (y ∷ ys) h = refl
some_after {A} (x ∷ xs) ys h = refl

some_times : {A : Type 0} (n : ℕ) (x : A) → 0 < n → 0 < length (replicate n x)
some_times {A} zero x h = absurd (omega (arith, h))
some_times {A} (suc n) x h = omega arith

take_short : {A : Type 0} (n : ℕ) (xs : List A) → length (take n xs) ≤ length xs
take_short {A} zero [] = omega arith
take_short {A} zero (x ∷ xs) = omega arith
take_short {A} (suc n) [] = omega arith
take_short {A} (suc n) (x ∷ xs) = let h = take_short n xs in omega (arith, h)

-- ---- places of a statement

abbrev pub IsStating : Section → Type 0
IsStating places.Proving = ⊥
IsStating places.Splitting = ⊥
IsStating places.Closed = ⊥
IsStating places.Done = ⊥
IsStating place = Unit {0}

may_declare : (p : Section) (d : TheoremParser) (sort : Sort) (new : List (List ℕ)) → IsStating p → Stands p d → line_may_come p (rawlines.Declare sort new) ≡ none_given (statement_of_parser d)
may_declare places.Declaring d sort new st s = sym (and_from (is_empty d.given) (none_made (statement_of_parser d)) s.0 (and_from (is_empty d.made) (is_empty d.shown) s.1 s.2))
may_declare places.Giving d sort new st s = sym (and_left (is_empty d.given) (none_made (statement_of_parser d)) s.0)
may_declare places.Making d sort new st s = sym (and_right (is_empty d.given) (none_made (statement_of_parser d)) (and_left (is_empty d.made) (is_empty d.shown) s.0))
may_declare places.Showing d sort new st s = sym (and_right (is_empty d.given) (none_made (statement_of_parser d)) (and_right (is_empty d.made) (is_empty d.shown) s))
may_declare p d sort new st s = absurd st

pub may_give : (p : Section) (d : TheoremParser) (raws : List RawLit) → IsStating p → Stands p d → line_may_come p (rawlines.Given raws) ≡ none_made (statement_of_parser d)
may_give places.Declaring d raws st s = sym (and_from (is_empty d.made) (is_empty d.shown) s.1 s.2)
may_give places.Giving d raws st s = sym (and_from (is_empty d.made) (is_empty d.shown) s.1 s.2)
may_give places.Making d raws st s = sym (and_left (is_empty d.made) (is_empty d.shown) s.0)
may_give places.Showing d raws st s = sym (and_right (is_empty d.made) (is_empty d.shown) s)
may_give p d raws st s = absurd st

may_make : (p : Section) (d : TheoremParser) (sort : Sort) (new : List (List ℕ)) → IsStating p → Stands p d → line_may_come p (rawlines.Made sort new) ≡ is_empty d.shown
may_make places.Declaring d sort new st s = sym s.2
may_make places.Giving d sort new st s = sym s.2
may_make places.Making d sort new st s = sym s.1
may_make places.Showing d sort new st s = sym s
may_make p d sort new st s = absurd st

may_show : (p : Section) (raws : List RawLit) → IsStating p → line_may_come p (rawlines.Show raws) ≡ true
may_show places.Declaring raws st = refl
may_show places.Giving raws st = refl
may_show places.Making raws st = refl
may_show places.Showing raws st = refl
may_show p raws st = absurd st

may_prove : (p : Section) (d : TheoremParser) → IsStating p → Stands p d → line_may_come p rawlines.Proof ≡ not (is_empty d.shown)
may_prove places.Declaring d st s = sym (ap not s.2)
may_prove places.Giving d st s = sym (ap not s.2)
may_prove places.Making d st s = sym (ap not s.1)
may_prove places.Showing d st s = sym (ap not s)
may_prove p d st s = absurd st

-- where objects may be declared nothing else stands
declaring : (p : Section) (sort : Sort) (new : List (List ℕ)) → line_may_come p (rawlines.Declare sort new) ≡ true → p ≡ places.Declaring
declaring places.Declaring sort new a = refl
declaring p sort new a = absurd cc

-- a line that may come
may_come : (known : List TitledStatement) (b : Bool) (x : Result TheoremParser FaultKind) (y : Result Open FaultKind) → b ≡ true → Alike known x y → Alike known (cond b x (Err Malformed)) y
may_come known true x y e h = h
may_come known false x y e h = absurd cc

-- the line that begins the proof, which comes where something is shown
begins_proof : (known : List TitledStatement) (b c : Bool) (x : Result TheoremParser FaultKind) (y : Result Open FaultKind) (k : Open → Result Open FaultKind) → b ≡ not c → Alike known x (y >>= k) → Alike known (cond b x (Err Malformed)) (cond c (Err Malformed) y >>= k)
begins_proof known true false x y k e h = h
begins_proof known false true x y k e h = refl
begins_proof known b c x y k e h = absurd cc

-- ---- new objects of a sort

new_alike : (known : List TitledStatement) (ns : Names) (sort : Sort) (new : List (List ℕ)) (r : Names → Result TheoremParser FaultKind) (n : Open) (s d k m : ℕ) → FewNamed ns
    → (FewNamed (with_new ns sort new) → Alike known (r (with_new ns sort new)) (kept (step_tests [] s d k m 0) n))
    → Alike known ((within (length (names_of_sort ns sort) + length new) (most_of sort) (what_of sort) >>= λ few. read_ok (with_new ns sort new)) >>= r) (kept (all_tests [] (with_new ns sort new) s d k m 0) n)
new_alike known ns sorts.Point new r n s d k m few h =
    let now = with_new ns sorts.Point new in
    let q : Result TheoremParser FaultKind = (within (length ns.points + length new) (most_of sorts.Point) limits.Points >>= λ few. read_ok now) >>= r in
    subst (λ (a : ℕ). Alike known q (kept ((leb a (most_of sorts.Point), limits.Points) ∷ line_tests [] now s d k m 0) n)) (sym (length-append ns.points new))
    (test_in known (read_ok now) r n (length ns.points + length new) (most_of sorts.Point) limits.Points (line_tests [] now s d k m 0)
    (λ w. pass_le known (r now) n (length ns.lines) (most_of sorts.Line) limits.Lines (circle_tests [] now s d k m 0) few.lines
    (pass_le known (r now) n (length ns.circles) (most_of sorts.Circle) limits.Circles (step_tests [] s d k m 0) few.circles (h (few_named ns sorts.Point new few w)))))
new_alike known ns sorts.Line new r n s d k m few h =
    let now = with_new ns sorts.Line new in
    let q : Result TheoremParser FaultKind = (within (length ns.lines + length new) (most_of sorts.Line) limits.Lines >>= λ few. read_ok now) >>= r in
    pass_le known q n (length ns.points) (most_of sorts.Point) limits.Points (line_tests [] now s d k m 0) few.points
    (subst (λ (a : ℕ). Alike known q (kept ((leb a (most_of sorts.Line), limits.Lines) ∷ circle_tests [] now s d k m 0) n)) (sym (length-append ns.lines new))
    (test_in known (read_ok now) r n (length ns.lines + length new) (most_of sorts.Line) limits.Lines (circle_tests [] now s d k m 0)
    (λ w. pass_le known (r now) n (length ns.circles) (most_of sorts.Circle) limits.Circles (step_tests [] s d k m 0) few.circles (h (few_named ns sorts.Line new few w)))))
new_alike known ns sorts.Circle new r n s d k m few h =
    let now = with_new ns sorts.Circle new in
    let q : Result TheoremParser FaultKind = (within (length ns.circles + length new) (most_of sorts.Circle) limits.Circles >>= λ few. read_ok now) >>= r in
    pass_le known q n (length ns.points) (most_of sorts.Point) limits.Points (line_tests [] now s d k m 0) few.points
    (pass_le known q n (length ns.lines) (most_of sorts.Line) limits.Lines (circle_tests [] now s d k m 0) few.lines
    (subst (λ (a : ℕ). Alike known q (kept ((leb a (most_of sorts.Circle), limits.Circles) ∷ step_tests [] s d k m 0) n)) (sym (length-append ns.circles new))
    (test_in known (read_ok now) r n (length ns.circles + length new) (most_of sorts.Circle) limits.Circles (step_tests [] s d k m 0)
    (λ w. h (few_named ns sorts.Circle new few w)))))

-- the given literals are within the limits
record FewGiven (d : TheoremParser) : Type 0 where
  facts : length d.given ≤ most_facts
  terms : count_monomials d.given ≤ most_monomials_of_facts

few_given : (d : TheoremParser) → UnprovedOf d → FewGiven d
few_given d u = record { facts = omega (arith, u.facts, u.few_facts); terms = omega (arith, u.terms, u.few_terms) }

pub declare_alike : (known : List TitledStatement) (p : Section) (d : TheoremParser) (sort : Sort) (new : List (List ℕ)) → IsStating p → d.section ≡ p → Stands p d → UnprovedOf d → FewNamed d.names
    → Alike known (cond (line_may_come p (rawlines.Declare sort new)) (after_declare d sort new) (Err Malformed)) (states (head_of d) (rawlines.Declare sort new) >>= then_limits known (rawlines.Declare sort new))
unfolding with_declared
declare_alike known p d sort new st at s u few =
    let f = rawlines.Declare sort new in
    let now = with_new d.names sort new in
    let e : TheoremParser = record d { names = now; declared = d.declared ++ replicate (length new) sort } in
    let n = Stating (head_of e) in
    let r : Names → Result TheoremParser FaultKind = λ names. read_ok (record d { names = names; declared = d.declared ++ replicate (length new) sort }) in
    let fits : Result Names FaultKind = within (length (names_of_sort d.names sort) + length new) (most_of sort) (what_of sort) >>= λ few. read_ok now in
    let g = few_given d u in
    in_place known (line_may_come p f) (none_given (statement_of_parser d)) (after_declare d sort new) (fresh d.names [] new >>= λ free. read_open n) (then_limits known f) (may_declare p d sort new st s)
    (λ may. both_in known (fresh d.names [] new) (λ free. fits) r (λ free. read_open n) (then_limits known f)
    (λ free q. new_alike known d.names sort new r n 0 0 (length d.given) (count_monomials d.given) few
    (λ some. pass_later known (read_ok e) n 0 0 (length d.given) (count_monomials d.given) (omega arith) (omega arith) g.facts g.terms
    (let is : p ≡ places.Declaring = declaring p sort new may in
    tied_there known e n places.Declaring (at ∙ is) some (subst (λ (x : Section). Stands x d) is s, u) refl))))

pub make_alike : (known : List TitledStatement) (p : Section) (d : TheoremParser) (sort : Sort) (new : List (List ℕ)) → IsStating p → Stands p d → UnprovedOf d → FewNamed d.names → 0 < length new
    → Alike known (cond (line_may_come p (rawlines.Made sort new)) (after_made d sort new) (Err Malformed)) (states (head_of d) (rawlines.Made sort new) >>= then_limits known (rawlines.Made sort new))
unfolding with_declared
make_alike known p d sort new st s u few some_new =
    let f = rawlines.Made sort new in
    let now = with_new d.names sort new in
    let e : TheoremParser = record d { names = now; made = d.made ++ replicate (length new) sort; section = places.Making } in
    let n = Stating (head_of e) in
    let r : Names → Result TheoremParser FaultKind = λ names. read_ok (record d { names = names; made = d.made ++ replicate (length new) sort; section = places.Making }) in
    let fits : Result Names FaultKind = within (length (names_of_sort d.names sort) + length new) (most_of sort) (what_of sort) >>= λ few. read_ok now in
    let g = few_given d u in
    in_place known (line_may_come p f) (is_empty d.shown) (after_made d sort new) (fresh d.names [] new >>= λ free. read_open n) (then_limits known f) (may_make p d sort new st s)
    (λ may. both_in known (fresh d.names [] new) (λ free. fits) r (λ free. read_open n) (then_limits known f)
    (λ free q. new_alike known d.names sort new r n 0 0 (length d.given) (count_monomials d.given) few
    (λ some. pass_later known (read_ok e) n 0 0 (length d.given) (count_monomials d.given) (omega arith) (omega arith) g.facts g.terms
    (let stands : Stands places.Making e = (some_after d.made (replicate (length new) sort) (some_times (length new) sort some_new), sym (may_make p d sort new st s) ∙ may) in
    tied_there known e n places.Making refl some (stands, u) refl))))

-- ---- given literals

given_alike : (known : List TitledStatement) (d : TheoremParser) (raws : List RawLit) (ls : List Lit) → UnprovedOf d → FewNamed d.names → 0 < length raws → none_made (statement_of_parser d) ≡ true → lits_in d.names raws ≡ Ok ls
    → Alike known (within (d.facts + length raws) most_facts limits.Facts >>= λ few. with_terms (record d { given = d.given ++ ls; facts = d.facts + length raws; section = places.Giving }) raws)
    (then_limits known (rawlines.Given raws) (Stating (head_of (record d { given = d.given ++ ls }))))
given_alike known d raws ls u few some none e =
    let f = rawlines.Given raws in
    let facts = d.facts + length raws in
    let terms = d.terms + count_raw_monomials raws in
    let y : TheoremParser = record d { given = d.given ++ ls; facts = facts; section = places.Giving } in
    let n = Stating (head_of y) in
    let x : TheoremParser = record y { terms = terms } in
    let next : Result TheoremParser FaultKind = with_terms y raws in
    let count : length ls ≡ length raws = each_length (lit_in d.names) raws ls e in
    let sum : count_monomials ls ≡ count_raw_monomials raws = lits_count d.names raws ls e in
    let k : facts ≡ length (d.given ++ ls) = omega (arith, u.facts, count, length-append d.given ls) in
    let m : terms ≡ count_monomials (d.given ++ ls) = omega (arith, u.terms, sum, monomials-append d.given ls) in
    let at : LineContext = record { names = d.names; facts = d.given ++ ls } in
    let c : Counted d.names facts terms at = record { names = refl; facts = k; terms = m } in
    let empty = and_parts (is_empty d.made) (is_empty d.shown) none in
    let r : Result TheoremParser FaultKind = within facts most_facts limits.Facts >>= λ few. next in
    by_counts known r n f at d.names 0 0 0 0 facts terms c refl refl
    (pass_objects known r n raws d.names 0 0 facts terms 0 few
    (pass_le known r n 0 most_steps limits.Steps (depth_tests raws 0 facts terms 0) (omega arith)
    (pass_le known r n 0 most_depth limits.Depth (fact_tests raws facts terms 0) (omega arith)
    (test known next n facts most_facts limits.Facts (literal_tests raws terms 0)
    (λ w. terms_alike known y raws n
    (λ z.
    let stands : Stands places.Giving x = (some_after d.given ls (omega (arith, some, count)), empty.0, empty.1) in
    let unproved : UnprovedOf x = record { steps = u.steps; blocks = u.blocks; lines = u.lines; facts = k; terms = m; few_facts = w; few_terms = z } in
    tied_there known x n places.Giving refl few (stands, unproved) refl))))))

pub give_alike : (known : List TitledStatement) (p : Section) (d : TheoremParser) (raws : List RawLit) → IsStating p → Stands p d → UnprovedOf d → FewNamed d.names → 0 < length raws
    → Alike known (cond (line_may_come p (rawlines.Given raws)) (after_given d raws) (Err Malformed)) (states (head_of d) (rawlines.Given raws) >>= then_limits known (rawlines.Given raws))
give_alike known p d raws st s u few some =
    let f = rawlines.Given raws in
    let said : List Lit → Result Open FaultKind = λ ls. read_open (Stating (head_of (record d { given = d.given ++ ls }))) in
    let next : List Lit → Result TheoremParser FaultKind = λ ls. within (d.facts + length raws) most_facts limits.Facts >>= λ few. with_terms (record d { given = ls; facts = d.facts + length raws; section = places.Giving }) raws in
    in_place known (line_may_come p f) (none_made (statement_of_parser d)) (after_given d raws) (lits_in d.names raws >>= said) (then_limits known f) (may_give p d raws st s)
    (λ may. both_in known (lits_in d.names raws) (λ ls. read_ok (d.given ++ ls)) next said (then_limits known f)
    (λ ls e. given_alike known d raws ls u few some (sym (may_give p d raws st s) ∙ may) e))

-- ---- shown literals

pub show_alike : (known : List TitledStatement) (p : Section) (d : TheoremParser) (raws : List RawLit) → IsStating p → UnprovedOf d → FewNamed d.names → 0 < length raws
    → Alike known (cond (line_may_come p (rawlines.Show raws)) (after_show d raws) (Err Malformed)) (states (head_of d) (rawlines.Show raws) >>= then_limits known (rawlines.Show raws))
show_alike known p d raws st u few some =
    let f = rawlines.Show raws in
    let said : List Lit → Result Open FaultKind = λ ls. read_open (Stating (head_of (record d { shown = d.shown ++ ls }))) in
    let next : List Lit → Result TheoremParser FaultKind = λ ls. check_literal_limits raws >>= λ few. read_ok (record d { shown = ls; section = places.Showing }) in
    let g = few_given d u in
    let k = length d.given in
    let m = count_monomials d.given in
    may_come known (line_may_come p f) (after_show d raws) (states (head_of d) f >>= then_limits known f) (may_show p raws st)
    (both_in known (lits_in d.names raws) (λ ls. read_ok (d.shown ++ ls)) next said (then_limits known f)
    (λ ls e.
    let x : TheoremParser = record d { shown = d.shown ++ ls; section = places.Showing } in
    let n = Stating (head_of x) in
    let r : Result TheoremParser FaultKind = check_literal_limits raws >>= λ few. read_ok x in
    let count : length ls ≡ length raws = each_length (lit_in d.names) raws ls e in
    let stands : Stands places.Showing x = some_after d.shown ls (omega (arith, some, count)) in
    pass_objects known r n raws d.names 0 0 k m 0 few
    (pass_le known r n 0 most_steps limits.Steps (depth_tests raws 0 k m 0) (omega arith)
    (pass_le known r n 0 most_depth limits.Depth (fact_tests raws k m 0) (omega arith)
    (pass_le known r n k most_facts limits.Facts (literal_tests raws m 0) g.facts
    (test_monos known (read_ok x) n raws m 0
    (pass_terms known (read_ok x) n m 0 g.terms (omega arith) (tied_there known x n places.Showing refl few (stands, u) refl))))))))

-- ---- the proof begins

few_declared : (d : TheoremParser) → FewNamed d.names → FewNamed (declared_names (as_view (statement_of_parser d)) d.names)
few_declared d few =
    let s = scope_of (as_view (statement_of_parser d)) in
    record {
      points = omega (arith, few.points, take_short s.points d.names.points);
      lines = omega (arith, few.lines, take_short s.lines d.names.lines);
      circles = omega (arith, few.circles, take_short s.circles d.names.circles);
    }

proof_block : (known : List TitledStatement) (d : TheoremParser) (ns : Names) → UnprovedOf d → FewNamed ns → ns ≡ declared_names (as_view (statement_of_parser d)) d.names → BlockTied known (head_of d) d.blocks d.steps ns d.lines d.facts d.terms
proof_block known d ns u few is =
    let first : BlockTied known (head_of d) [] [] ns 0 d.facts d.terms = record {
      counted = record { names = is; facts = u.facts; terms = u.terms };
      few = few;
      few_facts = u.few_facts;
      few_terms = u.few_terms;
      lines = refl;
      short = omega arith;
      blocks = tt;
      shallow = omega arith;
    } in
    subst (λ (os : List OpenBlock). BlockTied known (head_of d) os d.steps ns d.lines d.facts d.terms) (sym u.blocks)
    (subst (λ (ss : List PlainStep). BlockTied known (head_of d) [] ss ns d.lines d.facts d.terms) (sym u.steps)
    (subst (λ (n : ℕ). BlockTied known (head_of d) [] [] ns n d.facts d.terms) (sym u.lines) first))

pub proof_alike : (known : List TitledStatement) (p : Section) (d : TheoremParser) → IsStating p → Stands p d → UnprovedOf d → FewNamed d.names
    → Alike known (cond (line_may_come p rawlines.Proof) (after_proof d) (Err Malformed)) (states (head_of d) rawlines.Proof >>= then_limits known rawlines.Proof)
proof_alike known p d st s u few =
    let f = rawlines.Proof in
    let ns = declared_names (as_view (statement_of_parser d)) d.names in
    let n = Proving (head_of d) [] [] in
    let e : TheoremParser = record d { in_scope = ns; section = places.Proving } in
    let some = few_declared d few in
    let c : Counted ns d.facts d.terms (context_in known (head_of d) [] []) = record { names = refl; facts = u.facts; terms = u.terms } in
    let is : Proving (head_of d) (around_of d.blocks) d.steps ≡ n =
    ap (λ (os : List OpenBlock). Proving (head_of d) (around_of os) d.steps) u.blocks ∙ ap (λ (ss : List PlainStep). Proving (head_of d) [] ss) u.steps in
    begins_proof known (line_may_come p f) (is_empty d.shown) (after_proof d) (read_open n) (then_limits known f) (may_prove p d st s)
    (block_limits known (read_ok e) (head_of d) [] [] f ns 0 1 d.facts d.terms c refl refl
    (pass_all known (read_ok e) n ns 0 1 d.facts d.terms some (omega arith) (omega arith) u.few_facts u.few_terms
    (tied_there known e n places.Proving refl few (proof_block known d ns u some refl) is)))
