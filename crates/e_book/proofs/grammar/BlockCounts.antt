-- What one more line of a block adds to its counts, in the words of what has been said.
use Rattle.std.proofs.Common.{◌≡◌, ℕ, ◌+◌, ◌≤◌, Bool, cond, ◌||◌, List, [], ◌∷◌, ◌++◌, length, Result, refl, sym, ap, subst, ◌∙◌, arith, length-append}
use Rattle.e_literal.specs.declared.object.Sort.{Sort}
use Rattle.e_literal.specs.declared.literal.Lit.{Lit}
use Rattle.e_deriv.specs.declared.names.Names.{Names}
use Rattle.e_deriv.specs.Script.{Script, size}
use Rattle.e_deriv.specs.PlainStep.{PlainStep, Cited, Inferred, Made, Applied, Claimed, Copied, all_before}
use Rattle.e_line.specs.declared.fault.FaultKind.{FaultKind}
use Rattle.e_book.specs.declared.blocks.OpenBlock.{OpenBlock}
use Rattle.e_book.specs.declared.blocks.BlockKind.{BlockKind}
use Rattle.e_book.specs.declared.blocks.BlockKind.TheVariants as kind
use Rattle.e_line.specs.declared.raw_line.RawLine.{RawLine}
use Rattle.e_book.specs.declared.parser.TheoremParser.{TheoremParser}
use Rattle.e_names.specs.TitledStatements.{TitledStatement}
use Rattle.e_line.specs.Limits.{most_steps, most_facts, most_monomials_of_facts, count_monomials}
use Rattle.e_names.specs.Scope.{scope_of_names}
use Rattle.e_book.specs.Blocks.{is_claim, has_claim, made_in}
use Rattle.e_book.specs.LineLimits.{FewNamed}
use Rattle.e_book.specs.Open.{Head, Proving, has_goal, made_inside}
use Rattle.e_book.specs.Counts.{LineContext, names_after_plain_step, given_by, after_step, after_steps, first_context, lines_of_step, count_lines, lines_around, literals_on, blanks_on}
use Rattle.e_book.proofs.parsers.KeptSums.{monomials-append}
use Rattle.e_book.proofs.grammar.ParserState.{opener_of, around_of, head_of, Counted, context_in, BlockTied, BlockOf, Alike}
use Rattle.e_book.proofs.grammar.LimitTests.{all_tests, kept, then_limits, by_counts}

-- ---- lists of steps

pub after_more : (known : List TitledStatement) (at : LineContext) (ss : List PlainStep) (s : PlainStep) → after_steps known at (ss ++ s ∷ []) ≡ after_step known (after_steps known at ss) s
after_more known at [] s = refl
after_more known at (x ∷ ss) s = after_more known (after_step known at x) ss s

pub lines_more : (ss : List PlainStep) (s : PlainStep) → count_lines (ss ++ s ∷ []) ≡ count_lines ss + lines_of_step s
lines_more [] s = omega arith
lines_more (x ∷ ss) s = let h = lines_more ss s in omega (arith, h)

pub size_counted : (ss : List PlainStep) (rest : Script) → size (all_before ss rest) ≡ count_lines ss + size rest
unfolding size
size_counted [] rest = omega arith
size_counted (Cited by ∷ ss) rest = let h = size_counted ss rest in omega (arith, h)
size_counted (Inferred lit cert ∷ ss) rest = let h = size_counted ss rest in omega (arith, h)
size_counted (Made construction names certs ∷ ss) rest = let h = size_counted ss rest in omega (arith, h)
size_counted (Applied theorem args names certs ∷ ss) rest = let h = size_counted ss rest in omega (arith, h)
size_counted (Claimed shown inner ∷ ss) rest = let h = size_counted ss rest in omega (arith, h)
size_counted (Copied superposition names shown certs inner ∷ ss) rest = let h = size_counted ss rest in omega (arith, h)

pub around_length : (os : List OpenBlock) → length (around_of os) ≡ length os
around_length [] = refl
around_length (o ∷ os) = let h = around_length os in omega (arith, h)

-- the made objects of the goal of a block inside
goal_by : (op : BlockKind) (b : Bool) (x made : List Sort) → x ≡ cond b [] made → cond (has_goal (opener_of op)) [] x ≡ cond (is_claim op || b) [] made
goal_by (kind.Claim shown) b x made e = refl
goal_by (kind.Superpose superposition names shown) b x made e = refl
goal_by (kind.First lit) b x made e = e
goal_by (kind.Second lit first) b x made e = e

pub goal_made : (os : List OpenBlock) (made : List Sort) → made_inside (around_of os) made ≡ made_in os made
goal_made [] made = refl
goal_made (o ∷ os) made = goal_by o.kind (has_claim os) (made_inside (around_of os) made) made (goal_made os made)

-- ---- the counts after a step

next_counted : (known : List TitledStatement) (at : LineContext) (s : PlainStep) (ns ms : Names) (facts more terms sum : ℕ) → Counted ns facts terms at → names_after_plain_step known ns s ≡ ms
    → facts + length (given_by known (scope_of_names ns) s) ≡ more → terms + count_monomials (given_by known (scope_of_names ns) s) ≡ sum → Counted ms more sum (after_step known at s)
next_counted known at s ns ms facts more terms sum c e f t =
    let same : given_by known (scope_of_names ns) s ≡ given_by known (scope_of_names at.names) s = ap (λ (x : Names). given_by known (scope_of_names x) s) c.names in
    let n : length (given_by known (scope_of_names ns) s) ≡ length (given_by known (scope_of_names at.names) s) = ap (λ (ls : List Lit). length ls) same in
    let m : count_monomials (given_by known (scope_of_names ns) s) ≡ count_monomials (given_by known (scope_of_names at.names) s) = ap (λ (ls : List Lit). count_monomials ls) same in
    record {
      names = sym e ∙ ap (λ (x : Names). names_after_plain_step known x s) c.names;
      facts = omega (arith, c.facts, f, n, length-append at.facts (given_by known (scope_of_names at.names) s));
      terms = omega (arith, c.terms, t, m, monomials-append at.facts (given_by known (scope_of_names at.names) s));
    }

pub counted_more : (known : List TitledStatement) (h : Head) (os : List OpenBlock) (ss : List PlainStep) (s : PlainStep) (ns ms : Names) (facts more terms sum : ℕ) → Counted ns facts terms (context_in known h os ss) → names_after_plain_step known ns s ≡ ms
    → facts + length (given_by known (scope_of_names ns) s) ≡ more → terms + count_monomials (given_by known (scope_of_names ns) s) ≡ sum → Counted ms more sum (context_in known h os (ss ++ s ∷ []))
counted_more known h os ss s ns ms facts more terms sum c e f t =
    subst (λ (at : LineContext). Counted ms more sum at) (sym (after_more known (first_context known h (around_of os)) ss s))
    (next_counted known (context_in known h os ss) s ns ms facts more terms sum c e f t)

-- the same place with more facts and other names
pub counted_with : (at : LineContext) (ns ms there : Names) (ls : List Lit) (facts more terms sum : ℕ) → Counted ns facts terms at → ms ≡ there → facts + length ls ≡ more → terms + count_monomials ls ≡ sum
    → Counted ms more sum (record { names = there; facts = at.facts ++ ls })
counted_with at ns ms there ls facts more terms sum c e f t = record {
  names = e;
  facts = omega (arith, c.facts, f, length-append at.facts ls);
  terms = omega (arith, c.terms, t, monomials-append at.facts ls);
}

-- ---- the limits of a block, by its counts

pub block_limits : (known : List TitledStatement) (r : Result TheoremParser FaultKind) (h : Head) (os : List OpenBlock) (ss : List PlainStep) (f : RawLine) (ns : Names) (lines depth facts terms : ℕ) → Counted ns facts terms (context_in known h os ss)
    → lines ≡ count_lines ss + lines_around (around_of os) → depth ≡ length os + 1
    → Alike known r (kept (all_tests (literals_on f) ns lines depth facts terms (blanks_on f)) (Proving h (around_of os) ss))
    → Alike known r (then_limits known f (Proving h (around_of os) ss))
block_limits known r h os ss f ns lines depth facts terms c e d a =
    by_counts known r (Proving h (around_of os) ss) f (context_in known h os ss) ns lines depth (count_lines ss + lines_around (around_of os)) (length (around_of os) + 1) facts terms c e
    (let n = around_length os in omega (arith, d, n)) a

-- the block with one more step, within the limits
pub step_block : (known : List TitledStatement) (d : TheoremParser) (s : PlainStep) (ns : Names) (facts terms : ℕ) → BlockOf known d → lines_of_step s ≡ 1 → Counted ns facts terms (context_in known (head_of d) d.blocks (d.steps ++ s ∷ []))
    → FewNamed ns → d.lines + 1 ≤ most_steps → facts ≤ most_facts → terms ≤ most_monomials_of_facts → BlockTied known (head_of d) d.blocks (d.steps ++ s ∷ []) ns (d.lines + 1) facts terms
step_block known d s ns facts terms t one c few short k m = record {
  counted = c;
  few = few;
  few_facts = k;
  few_terms = m;
  lines = omega (arith, t.lines, one, lines_more d.steps s);
  short = short;
  blocks = t.blocks;
  shallow = t.shallow;
}
