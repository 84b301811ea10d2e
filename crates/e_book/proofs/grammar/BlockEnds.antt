-- The lines that close blocks, `else` and `end`: the parser makes of them what the grammar says.
use Rattle.std.proofs.Common.{◌≡◌, ℕ, ◌+◌, ◌≤◌, List, [], ◌∷◌, ◌++◌, length, Result, Ok, refl, sym, ap, subst, arith}
use Rattle.e_literal.specs.declared.object.Sort.{Sort}
use Rattle.e_literal.specs.declared.object.Obj.{Obj}
use Rattle.e_literal.specs.declared.literal.Lit.{Lit}
use Rattle.e_literal.specs.Literal.{negation}
use Rattle.e_deriv.specs.declared.names.Names.{Names}
use Rattle.e_deriv.specs.Script.{Script, Qed, Cases, size}
use Rattle.e_deriv.specs.PlainStep.{PlainStep, Claimed, Copied, all_before}
use Rattle.e_line.specs.declared.fault.FaultKind.{FaultKind}
use Rattle.e_line.specs.declared.fault.What.TheVariants as limits
use Rattle.e_line.specs.declared.literal.RawLit.{RawLit}
use Rattle.e_book.specs.declared.blocks.OpenBlock.{OpenBlock}
use Rattle.e_book.specs.declared.blocks.BlockKind.{BlockKind}
use Rattle.e_book.specs.declared.blocks.BlockKind.TheVariants as kind
use Rattle.e_line.specs.declared.raw_line.RawLine.{RawLine}
use Rattle.e_line.specs.declared.raw_line.RawLine.TheVariants as rawlines
use Rattle.e_book.specs.declared.steps.CloseLine.{CloseLine}
use Rattle.e_book.specs.declared.steps.CloseLine.TheVariants as closes
use Rattle.e_book.specs.declared.parser.TheoremParser.{TheoremParser}
use Rattle.e_book.specs.declared.parser.Section.TheVariants as places
use Rattle.e_line.specs.Reading.{◌>>=◌}
use Rattle.e_names.specs.TitledStatements.{TitledStatement}
use Rattle.e_line.specs.Limits.{most_steps, most_depth, most_facts, most_monomials_of_facts, most_blanks, within, monomials, count_monomials}
use Rattle.e_book.specs.Blocks.{made_in}
use Rattle.e_names.specs.Scope.{scope_of_names, qed_in}
use Rattle.e_book.specs.LineLimits.{FewNamed}
use Rattle.e_book.specs.Steps.{begun_with, begun_terms, terms_after, counted_from, after_inner_block, closed_inside, parser_after_close, after_close_line, after_qed}
use Rattle.e_book.specs.ParserViews.{entry_of_parser, script_of_close}
use Rattle.e_book.specs.Open.{Open, Proving, Splitting, Proved, Ended, after_inner_close, after_close}
use Rattle.e_book.specs.Counts.{names_after_plain_step, given_by, lines_first, count_lines, lines_around, literals_on, blanks_on}
use Rattle.e_book.specs.Grammar.{goes_on}
use Rattle.e_line.proofs.base.Bound.{read_ok}
use Rattle.e_names.proofs.literals.ShortLits.{count_first}
use Rattle.e_book.proofs.parsers.KeptBlocks.{size_split, one_line}
use Rattle.e_book.proofs.grammar.ParserState.{opener_of, around_of, head_of, Counted, context_in, OuterTied, BlocksTied, BlockTied, BlockOf, Alike, tied_there}
use Rattle.e_book.proofs.grammar.LimitTests.{blank_tests, literal_tests, fact_tests, depth_tests, all_tests, kept, then_limits, test, test_in, test_within, pass_le, pass_objects, pass_literals, pass_rest, pass_all, both, by_counts}
use Rattle.e_book.proofs.grammar.BlockCounts.{lines_more, size_counted, goal_made, counted_more, counted_with, block_limits}

-- nothing is written on the line that has limits of its own
pub record Silent (f : RawLine) : Type 0 where
  pub literals : literals_on f ≡ []
  pub blanks : blanks_on f ≡ 0

silent_tests : (known : List TitledStatement) (r : Result TheoremParser FaultKind) (n : Open) (f : RawLine) (ns : Names) (s d k m : ℕ) → Silent f → Alike known r (kept (all_tests [] ns s d k m 0) n) → Alike known r (kept (all_tests (literals_on f) ns s d k m (blanks_on f)) n)
silent_tests known r n f ns s d k m silent a =
    subst (λ (raws : List RawLit). Alike known r (kept (all_tests raws ns s d k m (blanks_on f)) n)) (sym silent.literals)
    (subst (λ (b : ℕ). Alike known r (kept (all_tests [] ns s d k m b) n)) (sym silent.blanks) a)

-- ---- a block inside another is closed

resumed_alike : (known : List TitledStatement) (d : TheoremParser) (k : ℕ) (o : OpenBlock) (os : List OpenBlock) (shown : List Lit) (s : PlainStep) (f : RawLine) → Silent f → d.section ≡ places.Proving → FewNamed d.names
    → Counted o.in_scope o.facts o.terms (context_in known (head_of d) os o.steps) → FewNamed o.in_scope → BlocksTied known (head_of d) os → length os + 1 ≤ most_depth
    → k ≡ count_lines (o.steps ++ s ∷ []) + lines_around (around_of os) → names_after_plain_step known o.in_scope s ≡ o.in_scope → given_by known (scope_of_names o.in_scope) s ≡ shown
    → Alike known (within k most_steps limits.Steps >>= λ few. after_inner_block (record d { lines = k }) o os shown s) (then_limits known f (Proving (head_of d) (around_of os) (o.steps ++ s ∷ [])))
unfolding after_inner_block counted_from
resumed_alike known d k o os shown s f silent at names counted few blocks deep lines same gives =
    let h = head_of d in
    let n = Proving h (around_of os) (o.steps ++ s ∷ []) in
    let facts = o.facts + length shown in
    let terms = o.terms + count_monomials shown in
    let x : TheoremParser = record d { lines = k } in
    let y : ℕ → Result TheoremParser FaultKind = λ t. read_ok (record x { facts = facts; terms = t }) in
    let z : TheoremParser → Result TheoremParser FaultKind = λ e. read_ok (record e { steps = o.steps ++ s ∷ []; in_scope = o.in_scope; blocks = os }) in
    let after : Result TheoremParser FaultKind = terms_after o.terms shown >>= y in
    let last : Result TheoremParser FaultKind = (within facts most_facts limits.Facts >>= λ few. after) >>= z in
    let e : TheoremParser = record d { lines = k; facts = facts; terms = terms; steps = o.steps ++ s ∷ []; in_scope = o.in_scope; blocks = os } in
    let c : Counted o.in_scope facts terms (context_in known h os (o.steps ++ s ∷ [])) =
    counted_more known h os o.steps s o.in_scope o.in_scope o.facts facts o.terms terms counted same (ap (λ (ls : List Lit). o.facts + length ls) gives) (ap (λ (ls : List Lit). o.terms + count_monomials ls) gives) in
    block_limits known (within k most_steps limits.Steps >>= λ few. last) h os (o.steps ++ s ∷ []) f o.in_scope k (length os + 1) facts terms c lines refl
    (silent_tests known (within k most_steps limits.Steps >>= λ few. last) n f o.in_scope k (length os + 1) facts terms silent
    (pass_objects known (within k most_steps limits.Steps >>= λ few. last) n [] o.in_scope k (length os + 1) facts terms 0 few
    (test known last n k most_steps limits.Steps (depth_tests [] (length os + 1) facts terms 0)
    (λ a. pass_le known last n (length os + 1) most_depth limits.Depth (fact_tests [] facts terms 0) deep
    (test_in known after z n facts most_facts limits.Facts (literal_tests [] terms 0)
    (λ b. pass_literals known (after >>= z) n [] terms 0 refl refl
    (test_within known (read_ok terms) y z n terms most_monomials_of_facts limits.Terms (blank_tests 0)
    (λ w. pass_le known (read_ok e) n 0 most_blanks limits.Blanks [] (omega arith)
    (let block : BlockTied known h os (o.steps ++ s ∷ []) o.in_scope k facts terms = record {
      counted = c;
      few = few;
      few_facts = b;
      few_terms = w;
      lines = lines;
      short = a;
      blocks = blocks;
      shallow = deep;
    } in
    tied_there known e n places.Proving at names block refl)))))))))

-- the first block of a split
first_alike : (known : List TitledStatement) (d : TheoremParser) (k : ℕ) (o : OpenBlock) (os : List OpenBlock) (lit : Lit) (inner : Script) (f : RawLine) → Silent f → FewNamed d.names
    → Counted o.in_scope o.facts o.terms (context_in known (head_of d) os o.steps) → FewNamed o.in_scope → o.facts + 1 ≤ most_facts → o.terms + monomials lit.atom ≤ most_monomials_of_facts
    → BlocksTied known (head_of d) os → length os + 2 ≤ most_depth → k ≡ size inner + (count_lines o.steps + (1 + 0) + lines_around (around_of os))
    → Alike known
    (within k most_steps limits.Steps >>= λ few. closed_inside (record d { lines = k }) o os inner (λ c. read_ok d) (kind.First lit))
    (then_limits known f (after_inner_close (head_of d) (around_of os) o.steps inner (λ c. Proved (head_of d) c) (opener_of (kind.First lit))))
first_alike known d k o os lit inner f silent names counted few room sums blocks deep lines =
    let h = head_of d in
    let o2 : OpenBlock = record o { kind = kind.Second lit inner } in
    let n = Splitting h (around_of (o2 ∷ os)) in
    let at_block = context_in known h os o.steps in
    let facts = o.facts + 1 in
    let terms = o.terms + monomials lit.atom in
    let e : TheoremParser = record d { lines = k; steps = []; in_scope = o.in_scope; facts = facts; terms = terms; blocks = o2 ∷ os; section = places.Splitting } in
    let one : count_monomials (negation lit ∷ []) ≡ monomials lit.atom + 0 = count_first (negation lit) [] in
    let c : Counted o.in_scope facts terms (context_in known h (o2 ∷ os) []) =
    counted_with at_block o.in_scope o.in_scope at_block.names (negation lit ∷ []) o.facts facts o.terms terms counted counted.names refl (omega (arith, one)) in
    let count : k ≡ lines_around (around_of (o2 ∷ os)) = omega (arith, lines) in
    by_counts known (within k most_steps limits.Steps >>= λ few. read_ok e) n f (context_in known h (o2 ∷ os) []) o.in_scope k 0 (lines_around (around_of (o2 ∷ os))) 0 facts terms c count refl
    (silent_tests known (within k most_steps limits.Steps >>= λ few. read_ok e) n f o.in_scope k 0 facts terms silent
    (pass_objects known (within k most_steps limits.Steps >>= λ few. read_ok e) n [] o.in_scope k 0 facts terms 0 few
    (test known (read_ok e) n k most_steps limits.Steps (depth_tests [] 0 facts terms 0)
    (λ a. pass_le known (read_ok e) n 0 most_depth limits.Depth (fact_tests [] facts terms 0) (omega arith)
    (pass_le known (read_ok e) n facts most_facts limits.Facts (literal_tests [] terms 0) room
    (pass_rest known (read_ok e) n [] terms 0 refl refl sums (omega arith)
    (let outer : OuterTied known h os o2 = record { counted = counted; few = record { in_scope = few; facts = omega (arith, room); terms = omega (arith, sums) } } in
    let block : BlockOf known e = record {
      counted = c;
      few = few;
      few_facts = room;
      few_terms = sums;
      lines = omega (arith, count);
      short = a;
      blocks = (outer, blocks);
      shallow = omega (arith, deep);
    } in
    tied_there known e n places.Splitting refl names (refl, block) refl)))))))

-- a block inside another, where closing the block around it is alike
inside_alike : (known : List TitledStatement) (d : TheoremParser) (k : ℕ) (o : OpenBlock) (os : List OpenBlock) (inner : Script) (again : CloseLine → Result TheoremParser FaultKind) (after : Script → Open) (f : RawLine) (op : BlockKind) → Silent f → d.section ≡ places.Proving → FewNamed d.names
    → Counted o.in_scope o.facts o.terms (context_in known (head_of d) os o.steps) → FewNamed o.in_scope → o.facts + begun_with op ≤ most_facts → o.terms + begun_terms op ≤ most_monomials_of_facts
    → BlocksTied known (head_of d) os → length os + 2 ≤ most_depth → k ≡ size inner + (count_lines o.steps + (1 + lines_first (opener_of op)) + lines_around (around_of os))
    → ((c : CloseLine) → k ≡ size (all_before o.steps (script_of_close c)) + lines_around (around_of os) → Alike known (within k most_steps limits.Steps >>= λ few. again c) (then_limits known f (after (script_of_close c))))
    → Alike known (within k most_steps limits.Steps >>= λ few. closed_inside (record d { lines = k }) o os inner again op) (then_limits known f (after_inner_close (head_of d) (around_of os) o.steps inner after (opener_of op)))
inside_alike known d k o os inner again after f (kind.Claim shown) silent at names counted few room sums blocks deep lines next =
    let s = Claimed shown inner in
    resumed_alike known d k o os shown s f silent at names counted few blocks (omega (arith, deep)) (omega (arith, lines, lines_more o.steps s)) refl refl
inside_alike known d k o os inner again after f (kind.Superpose superposition made shown) silent at names counted few room sums blocks deep lines next =
    let s = Copied superposition made shown [] inner in
    resumed_alike known d k o os shown s f silent at names counted few blocks (omega (arith, deep)) (omega (arith, lines, lines_more o.steps s)) refl refl
inside_alike known d k o os inner again after f (kind.First lit) silent at names counted few room sums blocks deep lines next =
    first_alike known d k o os lit inner f silent names counted few room sums blocks deep lines
inside_alike known d k o os inner again after f (kind.Second lit first) silent at names counted few room sums blocks deep lines next =
    next (closes.Cases lit first inner) (omega (arith, lines, size_counted o.steps (Cases lit first inner), size_split lit first inner))

-- ---- the open block is closed

closed_alike : (known : List TitledStatement) (d : TheoremParser) (k : ℕ) (os : List OpenBlock) (ss : List PlainStep) (close : CloseLine) (f : RawLine) → Silent f → d.section ≡ places.Proving → FewNamed d.names → BlocksTied known (head_of d) os
    → k ≡ size (all_before ss (script_of_close close)) + lines_around (around_of os) → length os + 1 ≤ most_depth
    → Alike known (within k most_steps limits.Steps >>= λ few. parser_after_close (record d { lines = k }) os ss close) (then_limits known f (after_close (head_of d) (around_of os) ss (script_of_close close)))
unfolding parser_after_close after_close
closed_alike known d k [] ss close f silent at names blocks lines deep =
    let script = all_before ss (script_of_close close) in
    let n = Proved (head_of d) script in
    let e : TheoremParser = record d { lines = k; steps = ss; blocks = []; close = close; section = places.Closed } in
    let count : k ≡ size script = omega (arith, lines) in
    by_counts known (within k most_steps limits.Steps >>= λ few. read_ok e) n f (record { names = d.names; facts = [] }) d.names k 0 (size script) 0 0 0 (record { names = refl; facts = refl; terms = refl }) count refl
    (silent_tests known (within k most_steps limits.Steps >>= λ few. read_ok e) n f d.names k 0 0 0 silent
    (pass_objects known (within k most_steps limits.Steps >>= λ few. read_ok e) n [] d.names k 0 0 0 0 names
    (test known (read_ok e) n k most_steps limits.Steps (depth_tests [] 0 0 0 0)
    (λ a. pass_le known (read_ok e) n 0 most_depth limits.Depth (fact_tests [] 0 0 0) (omega arith)
    (pass_le known (read_ok e) n 0 most_facts limits.Facts (literal_tests [] 0 0) (omega arith)
    (pass_rest known (read_ok e) n [] 0 0 refl refl (omega arith) (omega arith)
    (tied_there known e n places.Closed refl names (omega (arith, a, count)) refl)))))))
closed_alike known d k (o ∷ os) ss close f silent at names blocks lines deep =
    inside_alike known d k o os (all_before ss (script_of_close close)) (λ c. parser_after_close (record d { lines = k }) os o.steps c) (λ c. after_close (head_of d) (around_of os) o.steps c) f o.kind silent at names
    blocks.0.counted blocks.0.few.in_scope blocks.0.few.facts blocks.0.few.terms blocks.1 (omega (arith, deep)) (omega (arith, lines))
    (λ c count. closed_alike known d k os o.steps c f silent at names blocks.1 count (omega (arith, deep)))

shut_alike : (known : List TitledStatement) (d : TheoremParser) (close : CloseLine) (f : RawLine) → Silent f → BlockOf known d → d.section ≡ places.Proving → FewNamed d.names → size (script_of_close close) ≡ 1
    → Alike known (after_close_line d close) (then_limits known f (after_close (head_of d) (around_of d.blocks) d.steps (script_of_close close)))
unfolding after_close_line
shut_alike known d close f silent t at names one =
    closed_alike known d (d.lines + 1) d.blocks d.steps close f silent at names t.blocks (omega (arith, t.lines, one, size_counted d.steps (script_of_close close))) t.shallow

abbrev read_open : Open → Result Open FaultKind
read_open n = Ok n

pub qed_alike : (known : List TitledStatement) (d : TheoremParser) (names : List (List ℕ)) → BlockOf known d → d.section ≡ places.Proving → FewNamed d.names
    → Alike known (after_qed d names) (goes_on known d.in_scope (head_of d) (around_of d.blocks) d.steps (rawlines.Qed names) >>= then_limits known (rawlines.Qed names))
qed_alike known d names t at few =
    let f = rawlines.Qed names in
    let then : List Obj → Result Open FaultKind = λ objects. read_open (after_close (head_of d) (around_of d.blocks) d.steps (Qed objects [])) in
    subst (λ (sorts : List Sort). Alike known (after_qed d names) ((qed_in d.in_scope sorts names >>= then) >>= then_limits known f)) (sym (goal_made d.blocks d.made))
    (both known (qed_in d.in_scope (made_in d.blocks d.made) names) (λ objects. after_close_line d (closes.Qed objects)) then (then_limits known f)
    (λ objects e. shut_alike known d (closes.Qed objects) f (record { literals = refl; blanks = refl }) t at few (one_line objects)))

pub contradiction_alike : (known : List TitledStatement) (d : TheoremParser) → BlockOf known d → d.section ≡ places.Proving → FewNamed d.names
    → Alike known (after_close_line d closes.Contradiction) (goes_on known d.in_scope (head_of d) (around_of d.blocks) d.steps rawlines.Contradiction >>= then_limits known rawlines.Contradiction)
unfolding size
contradiction_alike known d t at few = shut_alike known d closes.Contradiction rawlines.Contradiction (record { literals = refl; blanks = refl }) t at few refl

-- ---- after a first block, and after the proof

pub else_alike : (known : List TitledStatement) (d : TheoremParser) → d.steps ≡ [] → BlockOf known d → FewNamed d.names
    → Alike known (read_ok (record d { section = places.Proving })) (then_limits known rawlines.Else (Proving (head_of d) (around_of d.blocks) []))
else_alike known d none t names =
    let n = Proving (head_of d) (around_of d.blocks) [] in
    let e : TheoremParser = record d { section = places.Proving } in
    let b : BlockTied known (head_of d) d.blocks [] d.in_scope d.lines d.facts d.terms = subst (λ (ss : List PlainStep). BlockTied known (head_of d) d.blocks ss d.in_scope d.lines d.facts d.terms) none t in
    block_limits known (read_ok e) (head_of d) d.blocks [] rawlines.Else d.in_scope d.lines (length d.blocks + 1) d.facts d.terms b.counted b.lines refl
    (pass_all known (read_ok e) n d.in_scope d.lines (length d.blocks + 1) d.facts d.terms t.few t.short t.shallow t.few_facts t.few_terms
    (tied_there known e n places.Proving refl names t (ap (λ (ss : List PlainStep). Proving (head_of d) (around_of d.blocks) ss) none)))

pub end_alike : (known : List TitledStatement) (d : TheoremParser) → FewNamed d.names → size (all_before d.steps (script_of_close d.close)) ≤ most_steps
    → Alike known (read_ok (record d { section = places.Done })) (then_limits known rawlines.End (Ended (entry_of_parser d)))
end_alike known d names short =
    let e : TheoremParser = record d { section = places.Done } in
    let script = all_before d.steps (script_of_close d.close) in
    pass_all known (read_ok e) (Ended (entry_of_parser d)) d.names (size script) 0 0 0 names short (omega arith) (omega arith) (omega arith)
    (tied_there known e (Ended (entry_of_parser d)) places.Done refl names short refl)
