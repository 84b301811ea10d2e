-- Each line of a proof keeps what is known of a parser.
use Rattle.std.proofs.Common.{◌≡◌, ℕ, ◌+◌, ◌≤◌, true, cond, ◌||◌, List, [], ◌∷◌, ◌++◌, length, Option, None, Result, Ok, refl, sym, ap, subst, ◌∙◌, arith}
use Rattle.std.specs.List.{list_all}
use Rattle.std.proofs.lemmas.Bool.{and_parts}
use Rattle.e_literal.specs.declared.object.Sort.{Sort}
use Rattle.e_literal.specs.declared.object.Obj.{Obj}
use Rattle.e_literal.specs.declared.literal.Lit.{Lit}
use Rattle.e_literal.specs.Literal.{all_in_scope}
use Rattle.e_literal.specs.WellFormed.{is_well_formed}
use Rattle.e_construct.specs.declared.construction.Construction.{Construction}
use Rattle.e_construct.specs.declared.superpose.Superpose.{Superpose}
use Rattle.e_construct.specs.Construct.{sorts_made, gives_of_construction}
use Rattle.e_construct.specs.Superposing as superposing
use Rattle.e_deriv.specs.declared.names.Names.{Names}
use Rattle.e_deriv.specs.Script.{Script, Cases, size}
use Rattle.e_deriv.specs.PlainStep.{PlainStep, Cited, Inferred, Made, Applied, Claimed, Copied, all_before}
use Rattle.e_deriv.specs.Naming.{with_new_names}
use Rattle.e_line.specs.declared.fault.FaultKind.{FaultKind}
use Rattle.e_line.specs.declared.fault.What.TheVariants as limits
use Rattle.e_line.specs.declared.literal.RawLit.{RawLit}
use Rattle.e_line.specs.declared.lets.RawLet.{RawLet}
use Rattle.e_line.specs.declared.superposes.RawSuperpose.{RawSuperpose}
use Rattle.e_line.specs.declared.applies.RawApply.{RawApply}
use Rattle.e_book.specs.declared.blocks.OpenBlock.{OpenBlock}
use Rattle.e_book.specs.declared.blocks.BlockKind.{BlockKind}
use Rattle.e_book.specs.declared.blocks.BlockKind.TheVariants as kind
use Rattle.e_line.specs.declared.raw_line.RawLine.TheVariants as rawlines
use Rattle.e_book.specs.declared.steps.CloseLine.{CloseLine}
use Rattle.e_book.specs.declared.steps.CloseLine.TheVariants as closes
use Rattle.e_book.specs.declared.parser.Section.{Section}
use Rattle.e_book.specs.declared.parser.Section.TheVariants.{Proving, Splitting, Closed}
use Rattle.e_book.specs.declared.parser.TheoremParser.{TheoremParser}
use Rattle.e_line.specs.Reading.{◌>>=◌}
use Rattle.e_line.specs.Limits.{most_steps, most_depth, most_facts, most_monomials_of_facts, most_blanks, within, monomials, count_monomials}
use Rattle.e_names.specs.TitledStatements.{TitledStatement, stated_by, theorem_of}
use Rattle.e_book.specs.Blocks.{is_claim, has_claim, made_in}
use Rattle.e_names.specs.Scope.{scope_of_names, lit_in, lits_in, by_in, let_in, qed_in}
use Rattle.e_names.specs.Superposes.{superpose_in}
use Rattle.e_names.specs.Applies.{count_blanks, apply_in}
use Rattle.e_line.specs.LineLimits.{count_raw_monomials, check_literal_limits}
use Rattle.e_book.specs.LineLimits.{few_objects}
use Rattle.e_book.specs.Steps.{terms_after, with_terms, with_step, after_let, with_use, after_apply, outer_of, inside_if_room, after_claim, after_superpose, after_cases, counted_from, after_inner_block, closed_inside, parser_after_close, after_close_line, after_line}
use Rattle.e_book.specs.ParserViews.{script_of_close}
use Rattle.e_book.proofs.parsers.Answered.{within_ok}
use Rattle.e_line.proofs.base.Bound.{bind_ok, ok_is, read_ok}
use Rattle.e_names.proofs.read_lines.InScope.{lit_in_scope, each_all}
use Rattle.e_line.proofs.read_lines.SumsOfLiterals.{LitsSaid}
use Rattle.e_names.proofs.read_lines.LiteralsOfRawLines.{Said, by_plain}
use Rattle.e_names.proofs.read_lines.WellRead.{good_lits}
use Rattle.e_names.proofs.literals.FewSums.{FewMonos, few_ok, one_lit}
use Rattle.e_book.proofs.parsers.KeptSums.{terms_added, terms_within, one_count}
use Rattle.e_names.proofs.read_lines.Citations.{by_fits}
use Rattle.e_names.proofs.read_lines.Building.{let_fits, superpose_fits, qed_fits}
use Rattle.e_names.proofs.read_lines.Uses.{GoodUse, earlier, use_fits}
use Rattle.e_book.proofs.fit_theorems.FittingScripts.{Spot, spot, with_lit, ScriptFits, ShownFit, CopyFits, UseFits, SplitFits, fits_cited, fits_inferred, fits_made, fits_applied, fits_claimed, fits_copied, fits_qed, fits_contradiction, fits_split}
use Rattle.e_book.proofs.parsers.OpenBlocks.{StepsFit, begun_by, KindFits, spot_of, first_spot, level, OuterFits, BlocksFit, count_lines, lines_first, lines_around, Open, level_is, size_is, open_more, open_inner, open_again}
use Rattle.e_book.proofs.parsers.ParserFits.{HeadOf, start, OpenOf, Body, Good}

-- ---- the place

open_at : (known : List TitledStatement) (d : TheoremParser) → d.section ≡ Proving → Body known d.section d → OpenOf known d
open_at known d at b = subst (λ (p : Section). Body known p d) at b

still_open : (known : List TitledStatement) (x : TheoremParser) → x.section ≡ Proving → OpenOf known x → Body known x.section x
still_open known x at o = subst (λ (p : Section). Body known p x) (sym at) o

abbrev here : List TitledStatement → TheoremParser → Spot
here known d = spot (stated_by known) d.in_scope d.facts d.terms

-- ---- literals that are read

pub lits_within : (ns : Names) (raws : List RawLit) (ls : List Lit) → lits_in ns raws ≡ Ok ls → list_all (all_in_scope (scope_of_names ns)) ls ≡ true
lits_within ns raws ls e = each_all (lit_in ns) (all_in_scope (scope_of_names ns)) (lit_in_scope ns) raws ls e

shown_fit : (known : List TitledStatement) (d : TheoremParser) (raws : List RawLit) (ls : List Lit) → lits_in d.in_scope raws ≡ Ok ls → LitsSaid raws → FewMonos raws → ShownFit (here known d) ls
shown_fit known d raws ls e said few = record { over = lits_within d.in_scope raws ls e; good = good_lits d.in_scope raws ls e said few.short few.small }

good_one : (ns : Names) (r : RawLit) (l : Lit) → lit_in ns r ≡ Ok l → Said (rawlines.Hence r) → FewMonos (r ∷ []) → is_well_formed l ≡ true
good_one ns r l e said few = (and_parts (is_well_formed l) true (good_lits ns (r ∷ []) (l ∷ []) (one_lit ns r l e) (said, tt) few.short few.small)).0

-- ---- steps

-- what one more step leaves
record Stepped (x e : TheoremParser) (s : PlainStep) (n : ℕ) : Type 0 where
  few : x.lines + 1 ≤ most_steps
  facts : x.facts + n ≤ most_facts
  is : record x { lines = x.lines + 1; steps = x.steps ++ s ∷ []; facts = x.facts + n } ≡ e

step_taken : (x e : TheoremParser) (s : PlainStep) (n : ℕ) → with_step x s n ≡ Ok e → Stepped x e s n
unfolding with_step
step_taken x e s n h =
    let y : TheoremParser = record x { lines = x.lines + 1; steps = x.steps ++ s ∷ []; facts = x.facts + n } in
    let a = bind_ok (within (x.lines + 1) most_steps limits.Steps) (λ few. within (x.facts + n) most_facts limits.Facts >>= λ none. read_ok y) e h in
    let b = bind_ok (within (x.facts + n) most_facts limits.Facts) (λ none. read_ok y) e a.2 in
    record { few = within_ok _ _ _ a.0 a.1; facts = within_ok _ _ _ b.0 b.1; is = ok_is y e b.2 }

pub keeps_by : (known : List TitledStatement) (d e : TheoremParser) (r : List ℕ) (ns : List (List ℕ)) (l : RawLit) → Good known d → d.section ≡ Proving → Said (rawlines.By r ns l) → after_line known d (rawlines.By r ns l) ≡ Ok e → Good known e
unfolding after_line
keeps_by known d e r ns l g at said h =
    let b = bind_ok (by_in d.in_scope r ns l) (λ b. with_step d (Cited b) 1) e h in
    let s = step_taken d e (Cited b.0) 1 b.2 in
    let x : TheoremParser = record d { lines = d.lines + 1; steps = d.steps ++ Cited b.0 ∷ []; facts = d.facts + 1 } in
    let o = open_more (start known d) d.made d.blocks d.steps (here known d) (here known x) d.lines (Cited b.0) (open_at known d at g.body) refl
    (λ rest fit. fits_cited (here known d) (made_in d.blocks d.made) (level d.blocks) b.0 rest (by_fits d.in_scope r ns l b.0 b.1) (by_plain d.in_scope r ns l b.0 said b.1) s.facts fit) in
    subst (λ (y : TheoremParser). Good known y) s.is (record { head = g.head; body = still_open known x at o })

pub keeps_hence : (known : List TitledStatement) (d e : TheoremParser) (r : RawLit) → Good known d → d.section ≡ Proving → Said (rawlines.Hence r) → after_line known d (rawlines.Hence r) ≡ Ok e → Good known e
unfolding after_line
keeps_hence known d e r g at said h =
    let l = bind_ok (lit_in d.in_scope r) (λ l. with_step d (Inferred l None) 1 >>= λ x. with_terms x (r ∷ [])) e h in
    let x = bind_ok (with_step d (Inferred l.0 None) 1) (λ x. with_terms x (r ∷ [])) e l.2 in
    let s = step_taken d x.0 (Inferred l.0 None) 1 x.1 in
    let y : TheoremParser = record d { lines = d.lines + 1; steps = d.steps ++ Inferred l.0 None ∷ []; facts = d.facts + 1 } in
    let t = terms_added y e (r ∷ []) (ap (λ (z : TheoremParser). with_terms z (r ∷ [])) s.is ∙ x.2) in
    let z : TheoremParser = record y { terms = d.terms + count_raw_monomials (r ∷ []) } in
    let n = one_count d.in_scope r l.0 l.1 in
    let same : here known z ≡ with_lit (here known d) l.0 = ap (λ (k : ℕ). spot (stated_by known) d.in_scope (d.facts + 1) (d.terms + k)) n in
    let o = open_more (start known d) d.made d.blocks d.steps (here known d) (here known z) d.lines (Inferred l.0 None) (open_at known d at g.body) refl
    (λ rest fit. fits_inferred (here known d) (made_in d.blocks d.made) (level d.blocks) l.0 rest (lit_in_scope d.in_scope r l.0 l.1) (good_one d.in_scope r l.0 l.1 said t.few) s.facts (omega (arith, t.within, n))
    (subst (λ (at : Spot). ScriptFits at (made_in d.blocks d.made) (level d.blocks) rest) same fit)) in
    subst (λ (y : TheoremParser). Good known y) t.is (record { head = g.head; body = still_open known z at o })

keeps_built : (known : List TitledStatement) (d e : TheoremParser) (l : RawLet) → Good known d → d.section ≡ Proving → after_let d l ≡ Ok e → Good known e
unfolding after_let
keeps_built known d e l g at h =
    let s = scope_of_names d.in_scope in
    let after : Construction → Names = λ f. with_new_names d.in_scope (sorts_made f) l.new in
    let then : Construction → Result TheoremParser FaultKind = λ f. with_step (record d { in_scope = after f }) (Made f l.new []) (length (gives_of_construction f s)) in
    let f = bind_ok (let_in d.in_scope l) (λ f. few_objects (after f) >>= λ few. then f) e h in
    let w = bind_ok (few_objects (after f.0)) (λ few. then f.0) e f.2 in
    let t = step_taken (record d { in_scope = after f.0 }) e (Made f.0 l.new []) (length (gives_of_construction f.0 s)) w.2 in
    let x : TheoremParser = record d { in_scope = after f.0; lines = d.lines + 1; steps = d.steps ++ Made f.0 l.new [] ∷ []; facts = d.facts + length (gives_of_construction f.0 s) } in
    let o = open_more (start known d) d.made d.blocks d.steps (here known d) (here known x) d.lines (Made f.0 l.new []) (open_at known d at g.body) refl
    (λ rest fit. fits_made (here known d) (made_in d.blocks d.made) (level d.blocks) f.0 l.new [] rest (let_fits d.in_scope l f.0 f.1) w.1 t.facts fit) in
    subst (λ (y : TheoremParser). Good known y) t.is (record { head = g.head; body = still_open known x at o })

pub keeps_let : (known : List TitledStatement) (d e : TheoremParser) (l : RawLet) → Good known d → d.section ≡ Proving → after_line known d (rawlines.Let l) ≡ Ok e → Good known e
unfolding after_line
keeps_let known d e l g at h = keeps_built known d e l g at h

keeps_used : (known : List TitledStatement) (d e : TheoremParser) (raw : RawApply) (theorem : ℕ) (args : List (Option Obj)) → Good known d → d.section ≡ Proving → GoodUse known d.in_scope raw theorem args
    → with_use d (theorem_of known theorem) theorem args raw.new ≡ Ok e → Good known e
unfolding with_use
keeps_used known d e raw theorem args g at u h =
    let t = theorem_of known theorem in
    let after = with_new_names d.in_scope t.made raw.new in
    let s = Applied theorem args raw.new [] in
    let x : TheoremParser = record d { in_scope = after } in
    let y : TheoremParser = record x { lines = d.lines + 1; steps = d.steps ++ s ∷ []; facts = d.facts + length t.shown } in
    let then : TheoremParser → ℕ → TheoremParser = λ v n. record v { terms = n } in
    let last : TheoremParser → ℕ → Result TheoremParser FaultKind = λ v n. within (count_blanks args) most_blanks limits.Blanks >>= λ written. read_ok (then v n) in
    let b = bind_ok (few_objects after) (λ few. with_step x s (length t.shown) >>= λ v. terms_after v.terms t.shown >>= λ n. last v n) e h in
    let v = bind_ok (with_step x s (length t.shown)) (λ v. terms_after v.terms t.shown >>= λ n. last v n) e b.2 in
    let n = bind_ok (terms_after v.0.terms t.shown) (λ n. last v.0 n) e v.2 in
    let w = bind_ok (within (count_blanks args) most_blanks limits.Blanks) (λ written. read_ok (then v.0 n.0)) e n.2 in
    let k = step_taken x v.0 s (length t.shown) v.1 in
    let m = terms_within d.terms n.0 t.shown (ap (λ (z : TheoremParser). terms_after z.terms t.shown) k.is ∙ n.1) in
    let z : TheoremParser = then y (d.terms + count_monomials t.shown) in
    let z-is : z ≡ e = ap (then y) m.1 ∙ ap (λ (v : TheoremParser). then v n.0) k.is ∙ ok_is (then v.0 n.0) e w.2 in
    let fit : UseFits (here known d) theorem args raw.new = record {
      earlier = earlier known d.in_scope raw theorem args u;
      entries = u.entries;
      free = u.free;
      count = u.count;
      objects = b.1;
      facts = k.facts;
      terms = m.0;
      blanks = within_ok _ _ _ w.0 w.1;
    } in
    let o = open_more (start known d) d.made d.blocks d.steps (here known d) (here known z) d.lines s (open_at known d at g.body) refl
    (λ rest f. fits_applied (here known d) (made_in d.blocks d.made) (level d.blocks) theorem args raw.new [] rest fit f) in
    subst (λ (y : TheoremParser). Good known y) z-is (record { head = g.head; body = still_open known z at o })

keeps_applied : (known : List TitledStatement) (d e : TheoremParser) (raw : RawApply) → Good known d → d.section ≡ Proving → after_apply known d raw ≡ Ok e → Good known e
unfolding after_apply
keeps_applied known d e raw g at h =
    let a = bind_ok (apply_in known d.in_scope raw) (λ a. with_use d (theorem_of known a.0) a.0 a.1 raw.new) e h in
    keeps_used known d e raw a.0.0 a.0.1 g at (use_fits known d.in_scope raw a.0 a.1) a.2

pub keeps_apply : (known : List TitledStatement) (d e : TheoremParser) (raw : RawApply) → Good known d → d.section ≡ Proving → after_line known d (rawlines.Apply raw) ≡ Ok e → Good known e
unfolding after_line
keeps_apply known d e raw g at h = keeps_applied known d e raw g at h

-- ---- an inner block begins

record Deeper (d e : TheoremParser) (op : BlockKind) (n : ℕ) : Type 0 where
  deep : level d.blocks + 2 ≤ most_depth
  facts : d.facts + n ≤ most_facts
  is : record d { lines = d.lines + 1; blocks = outer_of d op ∷ d.blocks; steps = []; facts = d.facts + n } ≡ e

goes_deeper : (d e : TheoremParser) (op : BlockKind) (n : ℕ) → inside_if_room d op n ≡ Ok e → Deeper d e op n
unfolding inside_if_room
goes_deeper d e op n h =
    let y : TheoremParser = record d { lines = d.lines + 1; blocks = outer_of d op ∷ d.blocks; steps = []; facts = d.facts + n } in
    let a = bind_ok (within (d.lines + 1) most_steps limits.Steps) (λ few. within (length d.blocks + 2) most_depth limits.Depth >>= λ shallow. within (d.facts + n) most_facts limits.Facts >>= λ none. read_ok y) e h in
    let b = bind_ok (within (length d.blocks + 2) most_depth limits.Depth) (λ shallow. within (d.facts + n) most_facts limits.Facts >>= λ none. read_ok y) e a.2 in
    let c = bind_ok (within (d.facts + n) most_facts limits.Facts) (λ none. read_ok y) e b.2 in
    let deep = within_ok _ _ _ b.0 b.1 in
    record { deep = omega (arith, deep, level_is d.blocks); facts = within_ok _ _ _ c.0 c.1; is = ok_is y e c.2 }

-- the block inside, up to its first line
opens : (known : List TitledStatement) (d : TheoremParser) (op : BlockKind) (to : Spot) → OpenOf known d → KindFits (here known d) (made_in d.blocks d.made) (level d.blocks) op → lines_first op ≡ 0 → level d.blocks + 2 ≤ most_depth → begun_by (here known d) op ≡ to
    → Open (start known d) d.made (outer_of d op ∷ d.blocks) [] to (d.lines + 1)
opens known d op to o fit none deep is =
    subst (λ (at : Spot). Open (start known d) d.made (outer_of d op ∷ d.blocks) [] at (d.lines + 1)) is
    (open_inner (start known d) d.made d.blocks (outer_of d op) d.lines o fit none deep)

keeps_claimed : (known : List TitledStatement) (d e : TheoremParser) (raws : List RawLit) → Good known d → d.section ≡ Proving → LitsSaid raws → after_claim d raws ≡ Ok e → Good known e
unfolding after_claim
keeps_claimed known d e raws g at said h =
    let ls = bind_ok (lits_in d.in_scope raws) (λ ls. inside_if_room d (kind.Claim ls) 0 >>= λ x. check_literal_limits raws >>= λ few. read_ok x) e h in
    let op = kind.Claim ls.0 in
    let x = bind_ok (inside_if_room d op 0) (λ x. check_literal_limits raws >>= λ few. read_ok x) e ls.2 in
    let f = bind_ok (check_literal_limits raws) (λ few. read_ok x.0) e x.2 in
    let w = goes_deeper d x.0 op 0 x.1 in
    let y : TheoremParser = record d { lines = d.lines + 1; blocks = outer_of d op ∷ d.blocks; steps = []; facts = d.facts + 0 } in
    let same : here known d ≡ here known y = ap (λ (n : ℕ). spot (stated_by known) d.in_scope n d.terms) (omega arith) in
    let o = opens known d op (here known y) (open_at known d at g.body) (shown_fit known d raws ls.0 ls.1 said (few_ok raws f.0 f.1)) refl w.deep same in
    subst (λ (z : TheoremParser). Good known z) (w.is ∙ ok_is x.0 e f.2) (record { head = g.head; body = still_open known y at o })

pub keeps_claim : (known : List TitledStatement) (d e : TheoremParser) (raws : List RawLit) → Good known d → d.section ≡ Proving → Said (rawlines.Claim raws) → after_line known d (rawlines.Claim raws) ≡ Ok e → Good known e
unfolding after_line
keeps_claim known d e raws g at said h = keeps_claimed known d e raws g at said.1 h

keeps_superposed : (known : List TitledStatement) (d e : TheoremParser) (raw : RawSuperpose) → Good known d → d.section ≡ Proving → Said (rawlines.Superpose raw) → after_superpose d raw ≡ Ok e → Good known e
unfolding after_superpose
keeps_superposed known d e raw g at said h =
    let given : Superpose → List Lit = λ form. superposing.gives_of_superposition form (scope_of_names d.in_scope) in
    let after = with_new_names d.in_scope superposing.sorts_copied raw.new in
    let then : TheoremParser → ℕ → Result TheoremParser FaultKind = λ x n. read_ok (record x { in_scope = after; terms = n }) in
    let p = bind_ok (superpose_in d.in_scope raw) (λ p. few_objects after >>= λ objects. inside_if_room d (kind.Superpose p.0 raw.new p.1) (length (given p.0)) >>= λ x. check_literal_limits raw.shown >>= λ few. terms_after x.terms (given p.0) >>= λ n. then x n) e h in
    let form = p.0.0 in
    let op = kind.Superpose form raw.new p.0.1 in
    let b = bind_ok (few_objects after) (λ objects. inside_if_room d op (length (given form)) >>= λ x. check_literal_limits raw.shown >>= λ few. terms_after x.terms (given form) >>= λ n. then x n) e p.2 in
    let x = bind_ok (inside_if_room d op (length (given form))) (λ x. check_literal_limits raw.shown >>= λ few. terms_after x.terms (given form) >>= λ n. then x n) e b.2 in
    let f = bind_ok (check_literal_limits raw.shown) (λ few. terms_after x.0.terms (given form) >>= λ n. then x.0 n) e x.2 in
    let n = bind_ok (terms_after x.0.terms (given form)) (λ n. then x.0 n) e f.2 in
    let w = goes_deeper d x.0 op (length (given form)) x.1 in
    let y : TheoremParser = record d { lines = d.lines + 1; blocks = outer_of d op ∷ d.blocks; steps = []; facts = d.facts + length (given form) } in
    let t = terms_within d.terms n.0 (given form) (ap (λ (z : TheoremParser). terms_after z.terms (given form)) w.is ∙ n.1) in
    let z : TheoremParser = record y { in_scope = after; terms = d.terms + count_monomials (given form) } in
    let z-is : z ≡ e = ap (λ (k : ℕ). record y { in_scope = after; terms = k }) t.1 ∙ ap (λ (v : TheoremParser). record v { in_scope = after; terms = n.0 }) w.is ∙ ok_is (record x.0 { in_scope = after; terms = n.0 }) e n.2 in
    let c = superpose_fits d.in_scope raw p.0 p.1 in
    let copy : CopyFits (here known d) form raw.new = record { fits = c.fits; free = c.free; count = said.1; objects = b.1; facts = w.facts; terms = t.0 } in
    let o = opens known d op (here known z) (open_at known d at g.body) (copy, shown_fit known d raw.shown p.0.1 c.lits said.3 (few_ok raw.shown f.0 f.1)) refl w.deep refl in
    subst (λ (v : TheoremParser). Good known v) z-is (record { head = g.head; body = still_open known z at o })

pub keeps_superpose : (known : List TitledStatement) (d e : TheoremParser) (raw : RawSuperpose) → Good known d → d.section ≡ Proving → Said (rawlines.Superpose raw) → after_line known d (rawlines.Superpose raw) ≡ Ok e → Good known e
unfolding after_line
keeps_superpose known d e raw g at said h = keeps_superposed known d e raw g at said h

keeps_split : (known : List TitledStatement) (d e : TheoremParser) (r : RawLit) → Good known d → d.section ≡ Proving → Said (rawlines.Cases r) → after_cases d r ≡ Ok e → Good known e
unfolding after_cases
keeps_split known d e r g at said h =
    let l = bind_ok (lit_in d.in_scope r) (λ l. inside_if_room d (kind.First l) 1 >>= λ x. with_terms x (r ∷ [])) e h in
    let op = kind.First l.0 in
    let x = bind_ok (inside_if_room d op 1) (λ x. with_terms x (r ∷ [])) e l.2 in
    let w = goes_deeper d x.0 op 1 x.1 in
    let y : TheoremParser = record d { lines = d.lines + 1; blocks = outer_of d op ∷ d.blocks; steps = []; facts = d.facts + 1 } in
    let t = terms_added y e (r ∷ []) (ap (λ (z : TheoremParser). with_terms z (r ∷ [])) w.is ∙ x.2) in
    let z : TheoremParser = record y { terms = d.terms + count_raw_monomials (r ∷ []) } in
    let n = one_count d.in_scope r l.0 l.1 in
    let same : with_lit (here known d) l.0 ≡ here known z = ap (λ (k : ℕ). spot (stated_by known) d.in_scope (d.facts + 1) (d.terms + k)) (sym n) in
    let fit : SplitFits (here known d) l.0 = record { over = lit_in_scope d.in_scope r l.0 l.1; good = good_one d.in_scope r l.0 l.1 said t.few; facts = w.facts; terms = omega (arith, t.within, n) } in
    let o = opens known d op (here known z) (open_at known d at g.body) fit refl w.deep same in
    subst (λ (y : TheoremParser). Good known y) t.is (record { head = g.head; body = still_open known z at o })

pub keeps_cases : (known : List TitledStatement) (d e : TheoremParser) (r : RawLit) → Good known d → d.section ≡ Proving → Said (rawlines.Cases r) → after_line known d (rawlines.Cases r) ≡ Ok e → Good known e
unfolding after_line
keeps_cases known d e r g at said h = keeps_split known d e r g at said h

pub keeps_else : (known : List TitledStatement) (d e : TheoremParser) → Good known d → d.section ≡ Splitting → after_line known d rawlines.Else ≡ Ok e → Good known e
unfolding after_line
keeps_else known d e g at h =
    subst (λ (y : TheoremParser). Good known y) (ok_is (record d { section = Proving }) e h) (record { head = g.head; body = subst (λ (p : Section). Body known p d) at g.body })

-- ---- a block is closed

record Resumed (d e : TheoremParser) (o : OpenBlock) (os : List OpenBlock) (shown : List Lit) (s : PlainStep) : Type 0 where
  facts : o.facts + length shown ≤ most_facts
  terms : o.terms + count_monomials shown ≤ most_monomials_of_facts
  is : record d { facts = o.facts + length shown; terms = o.terms + count_monomials shown; steps = o.steps ++ s ∷ []; in_scope = o.in_scope; blocks = os } ≡ e

goes_on : (d e : TheoremParser) (o : OpenBlock) (os : List OpenBlock) (shown : List Lit) (s : PlainStep) → after_inner_block d o os shown s ≡ Ok e → Resumed d e o os shown s
unfolding after_inner_block counted_from
goes_on d e o os shown s h =
    let n = o.facts + length shown in
    let then : TheoremParser → TheoremParser = λ x. record x { steps = o.steps ++ s ∷ []; in_scope = o.in_scope; blocks = os } in
    let counted : ℕ → TheoremParser = λ t. record d { facts = n; terms = t } in
    let x = bind_ok (counted_from d o.facts o.terms shown) (λ x. read_ok (then x)) e h in
    let f = bind_ok (within n most_facts limits.Facts) (λ few. terms_after o.terms shown >>= λ t. read_ok (counted t)) x.0 x.1 in
    let t = bind_ok (terms_after o.terms shown) (λ t. read_ok (counted t)) x.0 f.2 in
    let w = terms_within o.terms t.0 shown t.1 in
    record { facts = within_ok _ _ _ f.0 f.1; terms = w.0; is = ap (λ (k : ℕ). then (counted k)) w.1 ∙ ap then (ok_is (counted t.0) x.0 t.2) ∙ ok_is (then x.0) e x.2 }

-- the made objects of the goal of a block inside
abbrev made_inside : BlockKind → List OpenBlock → List Sort → List Sort
made_inside op os sorts = cond (is_claim op || has_claim os) [] sorts

pub size_split : (lit : Lit) (first second : Script) → size (Cases lit first second) ≡ 1 + size first + size second
unfolding size
size_split lit first second = refl

-- an inner block is closed; what closing the block around it leaves is good
closes_inside : (known : List TitledStatement) (d e : TheoremParser) (o : OpenBlock) (os : List OpenBlock) (inner : Script) (again : CloseLine → Result TheoremParser FaultKind) (op : BlockKind) → HeadOf known d → d.section ≡ Proving
    → StepsFit (first_spot (start known d) os) (made_in os d.made) (level os) o.steps (spot_of (stated_by known) o) → KindFits (spot_of (stated_by known) o) (made_in os d.made) (level os) op → BlocksFit (start known d) d.made os
    → ScriptFits (begun_by (spot_of (stated_by known) o) op) (made_inside op os d.made) (level os + 1) inner → d.lines ≡ size inner + (1 + lines_first op + count_lines o.steps + lines_around os) → level os + 1 + 1 ≤ most_depth
    → ((c : CloseLine) → ScriptFits (first_spot (start known d) os) (made_in os d.made) (level os) (all_before o.steps (script_of_close c)) → d.lines ≡ size (all_before o.steps (script_of_close c)) + lines_around os
    → again c ≡ Ok e → Good known e)
    → closed_inside d o os inner again op ≡ Ok e → Good known e
closes_inside known d e o os inner again (kind.Claim shown) head at steps shows around fit n deep next h =
    let s = Claimed shown inner in
    let r = goes_on d e o os shown s h in
    let x : TheoremParser = record d { facts = o.facts + length shown; terms = o.terms + count_monomials shown; steps = o.steps ++ s ∷ []; in_scope = o.in_scope; blocks = os } in
    let b = open_again (start known d) d.made os o (here known x) d.lines s steps around (omega (arith, deep)) (omega (arith, n))
    (λ rest f. fits_claimed (spot_of (stated_by known) o) (made_in os d.made) (level os) shown inner rest shows fit r.facts r.terms f) in
    subst (λ (y : TheoremParser). Good known y) r.is (record { head = head; body = still_open known x at b })
closes_inside known d e o os inner again (kind.Superpose superposition names shown) head at steps copies around fit n deep next h =
    let s = Copied superposition names shown [] inner in
    let r = goes_on d e o os shown s h in
    let x : TheoremParser = record d { facts = o.facts + length shown; terms = o.terms + count_monomials shown; steps = o.steps ++ s ∷ []; in_scope = o.in_scope; blocks = os } in
    let b = open_again (start known d) d.made os o (here known x) d.lines s steps around (omega (arith, deep)) (omega (arith, n))
    (λ rest f. fits_copied (spot_of (stated_by known) o) (made_in os d.made) (level os) superposition names shown [] inner rest copies.0 copies.1 fit r.facts r.terms f) in
    subst (λ (y : TheoremParser). Good known y) r.is (record { head = head; body = still_open known x at b })
closes_inside known d e o os inner again (kind.First lit) head at steps splits around fit n deep next h =
    let o2 : OpenBlock = record o { kind = kind.Second lit inner } in
    let x : TheoremParser = record d { steps = []; in_scope = o.in_scope; facts = o.facts + 1; terms = o.terms + monomials lit.atom; blocks = o2 ∷ os; section = Splitting } in
    let f : OuterFits (start known d) d.made os o2 = record { steps = steps; kind = (splits, fit) } in
    let b : OpenOf known x = record { steps = λ rest r. r; blocks = (f, around); lines = omega (arith, n); shallow = deep } in
    subst (λ (y : TheoremParser). Good known y) (ok_is x e h) (record { head = head; body = b })
closes_inside known d e o os inner again (kind.Second lit first) head at steps splits around fit n deep next h =
    let close = closes.Cases lit first inner in
    let whole = steps (Cases lit first inner) (fits_split (spot_of (stated_by known) o) (made_in os d.made) (level os) lit first inner splits.0 splits.1 fit) in
    next close whole (omega (arith, n, size_is o.steps (Cases lit first inner), size_split lit first inner)) h

-- a block is closed, and with it those blocks around it that end with a split
closes_block : (known : List TitledStatement) (d e : TheoremParser) (os : List OpenBlock) (ss : List PlainStep) (close : CloseLine) → HeadOf known d → d.section ≡ Proving → BlocksFit (start known d) d.made os
    → ScriptFits (first_spot (start known d) os) (made_in os d.made) (level os) (all_before ss (script_of_close close)) → d.lines ≡ size (all_before ss (script_of_close close)) + lines_around os → d.lines ≤ most_steps
    → level os + 1 ≤ most_depth → parser_after_close d os ss close ≡ Ok e → Good known e
unfolding parser_after_close
closes_block known d e [] ss close head at around fit n few deep h =
    let x : TheoremParser = record d { steps = ss; blocks = []; close = close; section = Closed } in
    subst (λ (y : TheoremParser). Good known y) (ok_is x e h) (record { head = head; body = record { fits = fit; short = omega (arith, n, few) } })
closes_block known d e (o ∷ os) ss close head at around fit n few deep h =
    closes_inside known d e o os (all_before ss (script_of_close close)) (λ c. parser_after_close d os o.steps c) o.kind head at around.0.steps around.0.kind around.1 fit n deep
    (λ c f k again. closes_block known d e os o.steps c head at around.1 f k few (omega (arith, deep)) again) h

keeps_shut : (known : List TitledStatement) (d e : TheoremParser) (close : CloseLine) → Good known d → d.section ≡ Proving → ScriptFits (here known d) (made_in d.blocks d.made) (level d.blocks) (script_of_close close) → size (script_of_close close) ≡ 1
    → after_close_line d close ≡ Ok e → Good known e
unfolding after_close_line
keeps_shut known d e close g at fit one h =
    let x : TheoremParser = record d { lines = d.lines + 1 } in
    let w = bind_ok (within (d.lines + 1) most_steps limits.Steps) (λ few. parser_after_close x d.blocks d.steps close) e h in
    let o = open_at known d at g.body in
    closes_block known x e d.blocks d.steps close g.head at o.blocks (o.steps (script_of_close close) fit) (omega (arith, o.lines, one, size_is d.steps (script_of_close close))) (within_ok _ _ _ w.0 w.1) o.shallow w.2

pub one_line : (os : List Obj) → size (script_of_close (closes.Qed os)) ≡ 1
unfolding size
one_line os = refl

pub keeps_qed : (known : List TitledStatement) (d e : TheoremParser) (ns : List (List ℕ)) → Good known d → d.section ≡ Proving → after_line known d (rawlines.Qed ns) ≡ Ok e → Good known e
unfolding after_line
keeps_qed known d e ns g at h =
    let sorts = made_in d.blocks d.made in
    let os = bind_ok (qed_in d.in_scope sorts ns) (λ os. after_close_line d (closes.Qed os)) e h in
    let o = open_at known d at g.body in
    keeps_shut known d e (closes.Qed os.0) g at (fits_qed (here known d) sorts (level d.blocks) os.0 (qed_fits d.in_scope sorts ns os.0 os.1) o.shallow) (one_line os.0) os.2

pub keeps_contradiction : (known : List TitledStatement) (d e : TheoremParser) → Good known d → d.section ≡ Proving → after_line known d rawlines.Contradiction ≡ Ok e → Good known e
unfolding after_line size
keeps_contradiction known d e g at h =
    let o = open_at known d at g.body in
    keeps_shut known d e closes.Contradiction g at (fits_contradiction (here known d) (made_in d.blocks d.made) (level d.blocks) o.shallow) refl h
