-- The blocks of a proof that are open while its lines come: what is known of them, and what each line makes of it.
use Rattle.std.proofs.Common.{◌≡◌, ℕ, ◌+◌, ◌≤◌, List, [], ◌∷◌, ◌++◌, length, refl, sym, ap, subst, arith}
use Rattle.e_literal.specs.declared.object.Sort.{Sort}
use Rattle.e_literal.specs.Use.{StatementView}
use Rattle.e_deriv.specs.Script.{Script, size}
use Rattle.e_deriv.specs.PlainStep.{PlainStep, Cited, Inferred, Made, Applied, Claimed, Copied, before, all_before}
use Rattle.e_book.specs.declared.blocks.OpenBlock.{OpenBlock}
use Rattle.e_book.specs.declared.blocks.BlockKind.{BlockKind}
use Rattle.e_book.specs.declared.blocks.BlockKind.TheVariants as kind
use Rattle.e_line.specs.Limits.{most_depth}
use Rattle.e_book.specs.Blocks.{made_in}
use Rattle.e_book.proofs.fit_theorems.FittingScripts.{Spot, spot, with_copies, with_lit, ScriptFits, ShownFit, CopyFits, SplitFits}

-- Steps of a block from here to there: what fits after them makes a script that fits.
abbrev pub StepsFit : Spot → List Sort → ℕ → List PlainStep → Spot → Type 0
StepsFit from sorts level ss to = (rest : Script) → ScriptFits to sorts level rest → ScriptFits from sorts level (all_before ss rest)

-- where the first line of an inner block stands
abbrev pub begun_by : Spot → BlockKind → Spot
begun_by at (kind.Claim shown) = at
begun_by at (kind.Superpose superposition names shown) = with_copies at superposition names
begun_by at (kind.First lit) = with_lit at lit
begun_by at (kind.Second lit first) = with_lit at lit

-- what began an inner block fits where it stands, and so does a first block that is closed
abbrev pub KindFits : Spot → List Sort → ℕ → BlockKind → Type 0
KindFits at sorts level (kind.Claim shown) = ShownFit at shown
KindFits at sorts level (kind.Superpose superposition names shown) = CopyFits at superposition names × ShownFit at shown
KindFits at sorts level (kind.First lit) = SplitFits at lit
KindFits at sorts level (kind.Second lit first) = SplitFits at lit × ScriptFits (with_lit at lit) sorts (level + 1) first

-- where a block is interrupted
abbrev pub spot_of : List StatementView → OpenBlock → Spot
spot_of before o = spot before o.in_scope o.facts o.terms

-- where the first line of the block inside these stands
abbrev pub first_spot : Spot → List OpenBlock → Spot
first_spot start [] = start
first_spot start (o ∷ os) = begun_by (spot_of start.before o) o.kind

-- inside how many blocks it is
abbrev pub level : List OpenBlock → ℕ
level [] = 0
level (o ∷ os) = level os + 1

pub record OuterFits (start : Spot) (sorts : List Sort) (os : List OpenBlock) (o : OpenBlock) : Type 0 where
  pub steps : StepsFit (first_spot start os) (made_in os sorts) (level os) o.steps (spot_of start.before o)
  pub kind : KindFits (spot_of start.before o) (made_in os sorts) (level os) o.kind

abbrev pub BlocksFit : Spot → List Sort → List OpenBlock → Type 0
BlocksFit start sorts [] = Unit {0}
BlocksFit start sorts (o ∷ os) = OuterFits start sorts os o × BlocksFit start sorts os

-- the lines of a step
abbrev pub lines_of : PlainStep → ℕ
lines_of (Cited by) = 1
lines_of (Inferred lit cert) = 1
lines_of (Made construction names certs) = 1
lines_of (Applied theorem args names certs) = 1
lines_of (Claimed shown inner) = 1 + size inner
lines_of (Copied superposition names shown certs inner) = 1 + size inner

abbrev pub count_lines : List PlainStep → ℕ
count_lines [] = 0
count_lines (s ∷ ss) = lines_of s + count_lines ss

-- the lines of a first block that is closed
abbrev pub lines_first : BlockKind → ℕ
lines_first (kind.Claim shown) = 0
lines_first (kind.Superpose superposition names shown) = 0
lines_first (kind.First lit) = 0
lines_first (kind.Second lit first) = size first

-- the lines of the blocks that are interrupted, with those that began the inner ones
abbrev pub lines_around : List OpenBlock → ℕ
lines_around [] = 0
lines_around (o ∷ os) = 1 + lines_first o.kind + count_lines o.steps + lines_around os

-- the open block, up to a line that stands here, with the blocks around it
pub record Open (start : Spot) (sorts : List Sort) (os : List OpenBlock) (ss : List PlainStep) (here : Spot) (n : ℕ) : Type 0 where
  pub steps : StepsFit (first_spot start os) (made_in os sorts) (level os) ss here
  pub blocks : BlocksFit start sorts os
  pub lines : n ≡ count_lines ss + lines_around os
  pub shallow : level os + 1 ≤ most_depth

-- ---- lists of steps

pub level_is : (os : List OpenBlock) → level os ≡ length os
level_is [] = refl
level_is (o ∷ os) = let h = level_is os in omega (arith, h)

all_more : (ss : List PlainStep) (s : PlainStep) (rest : Script) → all_before (ss ++ s ∷ []) rest ≡ all_before ss (before s rest)
all_more [] s rest = refl
all_more (x ∷ ss) s rest = ap (before x) (all_more ss s rest)

count_more : (ss : List PlainStep) (s : PlainStep) → count_lines (ss ++ s ∷ []) ≡ count_lines ss + lines_of s
count_more [] s = omega arith
count_more (x ∷ ss) s = let h = count_more ss s in omega (arith, h)

pub size_is : (ss : List PlainStep) (rest : Script) → size (all_before ss rest) ≡ count_lines ss + size rest
unfolding size
size_is [] rest = omega arith
size_is (Cited by ∷ ss) rest = let h = size_is ss rest in omega (arith, h)
size_is (Inferred lit cert ∷ ss) rest = let h = size_is ss rest in omega (arith, h)
size_is (Made construction names certs ∷ ss) rest = let h = size_is ss rest in omega (arith, h)
size_is (Applied theorem args names certs ∷ ss) rest = let h = size_is ss rest in omega (arith, h)
size_is (Claimed shown inner ∷ ss) rest = let h = size_is ss rest in omega (arith, h)
size_is (Copied superposition names shown certs inner ∷ ss) rest = let h = size_is ss rest in omega (arith, h)

pub steps_more : (from mid to : Spot) (sorts : List Sort) (k : ℕ) (ss : List PlainStep) (s : PlainStep) → StepsFit from sorts k ss mid
    → ((rest : Script) → ScriptFits to sorts k rest → ScriptFits mid sorts k (before s rest)) → StepsFit from sorts k (ss ++ s ∷ []) to
steps_more from mid to sorts k ss s h one rest fit = subst (λ (x : Script). ScriptFits from sorts k x) (sym (all_more ss s rest)) (h (before s rest) (one rest fit))

-- ---- lines

-- no line has come
pub open_first : (start : Spot) (sorts : List Sort) → Open start sorts [] [] start 0
open_first start sorts = record { steps = λ rest fit. fit; blocks = tt; lines = refl; shallow = omega arith }

-- one more step
pub open_more : (start : Spot) (sorts : List Sort) (os : List OpenBlock) (ss : List PlainStep) (here to : Spot) (n : ℕ) (s : PlainStep) → Open start sorts os ss here n → lines_of s ≡ 1
    → ((rest : Script) → ScriptFits to (made_in os sorts) (level os) rest → ScriptFits here (made_in os sorts) (level os) (before s rest)) → Open start sorts os (ss ++ s ∷ []) to (n + 1)
open_more start sorts os ss here to n s o one fit = record {
  steps = steps_more (first_spot start os) here to (made_in os sorts) (level os) ss s o.steps fit;
  blocks = o.blocks;
  lines = omega (arith, o.lines, one, count_more ss s);
  shallow = o.shallow;
}

-- an inner block begins
pub open_inner : (start : Spot) (sorts : List Sort) (os : List OpenBlock) (o : OpenBlock) (n : ℕ) → Open start sorts os o.steps (spot_of start.before o) n → KindFits (spot_of start.before o) (made_in os sorts) (level os) o.kind
    → lines_first o.kind ≡ 0 → level os + 2 ≤ most_depth → Open start sorts (o ∷ os) [] (begun_by (spot_of start.before o) o.kind) (n + 1)
open_inner start sorts os o n open_ fit none deep = record {
  steps = λ rest r. r;
  blocks = (record { steps = open_.steps; kind = fit }, open_.blocks);
  lines = omega (arith, open_.lines, none);
  shallow = omega (arith, deep);
}

-- an inner block is closed, and is a step of the block around it
pub open_again : (start : Spot) (sorts : List Sort) (os : List OpenBlock) (o : OpenBlock) (to : Spot) (n : ℕ) (s : PlainStep) → StepsFit (first_spot start os) (made_in os sorts) (level os) o.steps (spot_of start.before o) → BlocksFit start sorts os
    → level os + 1 ≤ most_depth
    → n ≡ lines_of s + count_lines o.steps + lines_around os
    → ((rest : Script) → ScriptFits to (made_in os sorts) (level os) rest → ScriptFits (spot_of start.before o) (made_in os sorts) (level os) (before s rest)) → Open start sorts os (o.steps ++ s ∷ []) to n
open_again start sorts os o to n s f around deep count fit = record {
  steps = steps_more (first_spot start os) (spot_of start.before o) to (made_in os sorts) (level os) o.steps s f fit;
  blocks = around;
  lines = omega (arith, count, count_more o.steps s);
  shallow = deep;
}
