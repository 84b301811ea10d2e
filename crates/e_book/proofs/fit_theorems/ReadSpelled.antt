-- A theorem that is read has a spelling.
use Rattle.std.proofs.Common.{◌≡◌, ℕ, ◌+◌, ◌<◌, Bool, true, false, cond, ltb, ◌&&◌, inl, inr, List, [], ◌∷◌, ◌++◌, length, replicate, Option, Some, None, Result, Ok, Err, refl, sym, ap, subst, ◌∙◌, arith, length-append}
use Rattle.std.specs.List.{list_all}
use Rattle.std.proofs.lemmas.Bool.{lt-ltb, and_parts, and_from}
use Rattle.e_text.specs.Tokens.{tokens_of}
use Rattle.e_text.specs.Lines.{LineView}
use Rattle.e_text.specs.Names.{is_name, is_title}
use Rattle.e_text.specs.declared.line.LineFault.{LineFault}
use Rattle.e_literal.specs.declared.object.Sort.{Sort}
use Rattle.e_literal.specs.declared.object.Sort.TheVariants.{Point, Line, Circle}
use Rattle.e_literal.specs.declared.object.Obj.{Obj}
use Rattle.e_literal.specs.declared.literal.Lit.{Lit}
use Rattle.e_literal.proofs.Booleans.{eqb_self, all_both}
use Rattle.e_construct.specs.declared.construction.Construction.{Construction}
use Rattle.e_construct.specs.declared.superpose.Superpose.{Superpose}
use Rattle.e_construct.specs.Construct.{sorts_made, gives_of_construction}
use Rattle.e_construct.specs.Superposing as superposing
use Rattle.e_theorem.specs.Statements.{as_view}
use Rattle.e_deriv.specs.declared.names.Names.{Names}
use Rattle.e_deriv.specs.PlainStep.{PlainStep, Cited, Inferred, Made, Applied, Claimed, Copied, all_before}
use Rattle.e_deriv.specs.Naming.{names_of_sort, with_names, with_new_names, declared_names}
use Rattle.e_deriv.specs.Script.{Script}
use Rattle.e_line.specs.declared.fault.FaultKind.{FaultKind}
use Rattle.e_line.specs.declared.fault.BookFault.{BookFault}
use Rattle.e_line.specs.declared.fault.What.TheVariants as limits
use Rattle.e_line.specs.declared.literal.RawLit.{RawLit}
use Rattle.e_line.specs.declared.lets.RawLet.{RawLet}
use Rattle.e_line.specs.declared.superposes.RawSuperpose.{RawSuperpose}
use Rattle.e_line.specs.declared.applies.RawApply.{RawApply}
use Rattle.e_book.specs.declared.blocks.OpenBlock.{OpenBlock}
use Rattle.e_book.specs.declared.blocks.BlockKind.{BlockKind}
use Rattle.e_book.specs.declared.blocks.BlockKind.TheVariants as kind
use Rattle.e_line.specs.declared.raw_line.RawLine.{RawLine}
use Rattle.e_line.specs.declared.raw_line.RawLine.TheVariants as rawlines
use Rattle.e_book.specs.declared.steps.CloseLine.{CloseLine}
use Rattle.e_book.specs.declared.steps.CloseLine.TheVariants as closes
use Rattle.e_book.specs.declared.parser.Section.{Section}
use Rattle.e_book.specs.declared.parser.Section.TheVariants.{Declaring, Giving, Making, Showing, Proving, Splitting, Closed, Done}
use Rattle.e_book.specs.declared.parser.TheoremParser.{TheoremParser}
use Rattle.e_line.specs.Reading.{◌>>=◌, with_front}
use Rattle.e_line.specs.Limits.{most_theorems, most_of, most_steps, most_depth, most_facts, most_blanks, what_of, within, monomials}
use Rattle.e_book.specs.Blocks.{made_in}
use Rattle.e_names.specs.Superposes.{placed_in, superpose_in}
use Rattle.e_names.specs.TitledStatements.{TitledStatement, is_known, theorem_of, title_at, place_in}
use Rattle.e_names.specs.Scope.{scope_of_names, fresh, lit_in, lits_in, by_in, let_in, qed_in}
use Rattle.e_names.specs.Applies.{count_blanks, apply_in}
use Rattle.e_line.specs.RawLines.{raw_line_of}
use Rattle.e_line.specs.LineLimits.{count_raw_monomials, check_literal_limits}
use Rattle.e_book.specs.LineLimits.{few_objects}
use Rattle.e_book.specs.Steps.{terms_after, with_terms, line_may_come, with_declared, with_step, after_let, with_use, after_apply, inside_block, inside_if_room, after_claim, after_superpose, after_cases, counted_from, after_inner_block, closed_inside, parser_after_close, after_close_line, after_line, step, begin, with_title}
use Rattle.e_book.specs.ParserViews.{script_of_close, statement_of_parser, entry_of_parser}
use Rattle.e_book.specs.TheoremViews.{TheoremView}
use Rattle.e_book.specs.Grammar.{is_skipped, put_at}
use Rattle.e_book.specs.Book.{line_step, is_last, is_done, read_from}
use Rattle.e_book.specs.Fits.{Fits}
use Rattle.e_line.specs.Names.{AreNames}
use Rattle.e_names.specs.NamedByTitle.{is_found_at, is_named_by_title}
use Rattle.e_book.specs.HasSpelling.{HasSpelling, is_plain, names_theorems}
use Rattle.e_book.proofs.parsers.Answered.{within_ok, passes, untaken, put_ok, answered, pair, first_is, skip_or, Answer}
use Rattle.e_line.proofs.base.Bound.{bind_ok, ok_is, read_ok, each_length}
use Rattle.e_book.proofs.parsers.ParserFits.{Good}
use Rattle.e_book.proofs.parsers.ParserInvariants.{reading_fits, fits_read, no_title}
use Rattle.e_names.proofs.read_lines.LiteralsOfRawLines.{Said, form_said}
use Rattle.e_book.proofs.parsers.KeptSums.{terms_added}
use Rattle.e_names.proofs.read_lines.Uses.{GoodUse, use_fits, found_title}

-- ---- names

join_all : (xs ys : List (List ℕ)) → AreNames xs → AreNames ys → AreNames (xs ++ ys)
join_all [] ys h k = k
join_all (x ∷ xs) ys h k = (h.0, join_all xs ys h.1 k)

record Naming (ns : Names) : Type 0 where
  point_names : AreNames ns.points
  line_names : AreNames ns.lines
  circle_names : AreNames ns.circles

naming_more : (ns : Names) (sort : Sort) (new : List (List ℕ)) → Naming ns → AreNames new → Naming (with_names ns sort (names_of_sort ns sort ++ new))
naming_more ns Point new g h = record { point_names = join_all ns.points new g.point_names h; line_names = g.line_names; circle_names = g.circle_names }
naming_more ns Line new g h = record { point_names = g.point_names; line_names = join_all ns.lines new g.line_names h; circle_names = g.circle_names }
naming_more ns Circle new g h = record { point_names = g.point_names; line_names = g.line_names; circle_names = join_all ns.circles new g.circle_names h }

-- ---- blocks that lines can spell

-- the script has no certificate and so on, and the theorems that it uses can be named by their titles
abbrev is_said : List TitledStatement → Script → Bool
is_said known x = is_plain x && names_theorems known x

abbrev is_plain_step : List TitledStatement → PlainStep → Bool
is_plain_step known (Cited by) = true
is_plain_step known (Inferred lit None) = true
is_plain_step known (Inferred lit (Some cert)) = false
is_plain_step known (Made construction names []) = list_all is_name names
is_plain_step known (Made construction names (c ∷ cs)) = false
is_plain_step known (Applied theorem args names []) = list_all is_name names && is_named_by_title known theorem
is_plain_step known (Applied theorem args names (c ∷ cs)) = false
is_plain_step known (Claimed shown inner) = ltb 0 (length shown) && is_said known inner
is_plain_step known (Copied superposition names shown [] inner) = list_all is_name names && (ltb 0 (length shown) && is_said known inner)
is_plain_step known (Copied superposition names shown (c ∷ cs) inner) = false

abbrev is_plain_close : List TitledStatement → CloseLine → Bool
is_plain_close known (closes.Qed objects) = true
is_plain_close known closes.Contradiction = true
is_plain_close known (closes.Cases lit first second) = is_said known first && is_said known second

abbrev is_plain_kind : List TitledStatement → BlockKind → Bool
is_plain_kind known (kind.Claim shown) = ltb 0 (length shown)
is_plain_kind known (kind.Superpose superposition names shown) = list_all is_name names && ltb 0 (length shown)
is_plain_kind known (kind.First lit) = true
is_plain_kind known (kind.Second lit first) = is_said known first

abbrev is_plain_outer : List TitledStatement → OpenBlock → Bool
is_plain_outer known o = list_all (is_plain_step known) o.steps && is_plain_kind known o.kind

record PlainBlocks (known : List TitledStatement) (steps : List PlainStep) (blocks : List OpenBlock) (close : CloseLine) : Type 0 where
  inside : list_all (is_plain_step known) steps ≡ true
  around : list_all (is_plain_outer known) blocks ≡ true
  shut : is_plain_close known close ≡ true

one_more : (known : List TitledStatement) (ss : List PlainStep) (s : PlainStep) → list_all (is_plain_step known) ss ≡ true → is_plain_step known s ≡ true → list_all (is_plain_step known) (ss ++ s ∷ []) ≡ true
one_more known ss s h p = all_both (is_plain_step known) ss (s ∷ []) h (rw p refl)

-- what is said of a script, in two parts
Sayable : List TitledStatement → Script → Type 0
Sayable known x = (is_plain x ≡ true) × (names_theorems known x ≡ true)

plain_close : (known : List TitledStatement) (close : CloseLine) → is_plain_close known close ≡ true → Sayable known (script_of_close close)
unfolding Sayable is_plain names_theorems
plain_close known (closes.Qed os) h = (refl, refl)
plain_close known closes.Contradiction h = (refl, refl)
plain_close known (closes.Cases lit first second) h =
    let p = and_parts (is_said known first) (is_said known second) h in
    let a = and_parts (is_plain first) (names_theorems known first) p.0 in
    let b = and_parts (is_plain second) (names_theorems known second) p.1 in
    (rw (a.0, b.0) refl, rw (a.1, b.1) refl)

plain_steps : (known : List TitledStatement) (ss : List PlainStep) (close : CloseLine) → list_all (is_plain_step known) ss ≡ true → is_plain_close known close ≡ true → Sayable known (all_before ss (script_of_close close))
unfolding Sayable is_plain names_theorems
plain_steps known [] close h k = plain_close known close k
plain_steps known (Cited by ∷ ss) close h k = plain_steps known ss close h k
plain_steps known (Inferred lit None ∷ ss) close h k = plain_steps known ss close h k
plain_steps known (Inferred lit (Some cert) ∷ ss) close h k = absurd cc
plain_steps known (Made construction names [] ∷ ss) close h k =
    let p = and_parts (list_all is_name names) (list_all (is_plain_step known) ss) h in
    let r = plain_steps known ss close p.1 k in
    (rw (p.0, r.0) refl, r.1)
plain_steps known (Made construction names (c ∷ cs) ∷ ss) close h k = absurd cc
plain_steps known (Applied theorem args names [] ∷ ss) close h k =
    let p = and_parts (list_all is_name names && is_named_by_title known theorem) (list_all (is_plain_step known) ss) h in
    let q = and_parts (list_all is_name names) (is_named_by_title known theorem) p.0 in
    let r = plain_steps known ss close p.1 k in
    (and_from _ _ q.0 r.0, and_from _ _ q.1 r.1)
plain_steps known (Applied theorem args names (c ∷ cs) ∷ ss) close h k = absurd cc
plain_steps known (Claimed shown inner ∷ ss) close h k =
    let p = and_parts (ltb 0 (length shown) && is_said known inner) (list_all (is_plain_step known) ss) h in
    let q = and_parts (ltb 0 (length shown)) (is_said known inner) p.0 in
    let i = and_parts (is_plain inner) (names_theorems known inner) q.1 in
    let r = plain_steps known ss close p.1 k in
    (and_from _ _ q.0 (and_from _ _ i.0 r.0), and_from _ _ i.1 r.1)
plain_steps known (Copied superposition names shown [] inner ∷ ss) close h k =
    let p = and_parts (list_all is_name names && (ltb 0 (length shown) && is_said known inner)) (list_all (is_plain_step known) ss) h in
    let n = and_parts (list_all is_name names) (ltb 0 (length shown) && is_said known inner) p.0 in
    let q = and_parts (ltb 0 (length shown)) (is_said known inner) n.1 in
    let i = and_parts (is_plain inner) (names_theorems known inner) q.1 in
    let r = plain_steps known ss close p.1 k in
    (and_from _ _ n.0 (and_from _ _ q.0 (and_from _ _ i.0 r.0)), and_from _ _ i.1 r.1)
plain_steps known (Copied superposition names shown (c ∷ cs) inner ∷ ss) close h k = absurd cc

plain_script : (known : List TitledStatement) (ss : List PlainStep) (close : CloseLine) → list_all (is_plain_step known) ss ≡ true → is_plain_close known close ≡ true → is_said known (all_before ss (script_of_close close)) ≡ true
unfolding Sayable
plain_script known ss close h k = let r = plain_steps known ss close h k in and_from _ _ r.0 r.1

-- ---- what each line keeps

-- from the first show line on there is a shown literal
abbrev SomeShown : Section → List Lit → Type 0
SomeShown Declaring shown = Unit {0}
SomeShown Giving shown = Unit {0}
SomeShown Making shown = Unit {0}
SomeShown Showing shown = 0 < length shown
SomeShown Proving shown = 0 < length shown
SomeShown Splitting shown = 0 < length shown
SomeShown Closed shown = 0 < length shown
SomeShown Done shown = 0 < length shown

pub record Spelled (known : List TitledStatement) (d : TheoremParser) : Type 0 where
  few : length known < most_theorems
  title : is_title d.title ≡ true
  naming : Naming d.names
  some : SomeShown d.section d.shown
  blocks : PlainBlocks known d.steps d.blocks d.close

declared_is : (ns : Names) (sort : Sort) (new : List (List ℕ)) (names : Names) → with_declared ns sort new ≡ Ok names → with_names ns sort (names_of_sort ns sort ++ new) ≡ names
unfolding with_declared
declared_is ns sort new names e =
    let now : Names = with_names ns sort (names_of_sort ns sort ++ new) in
    let f = bind_ok (fresh ns [] new) (λ free. within (length (names_of_sort ns sort) + length new) (most_of sort) (what_of sort) >>= λ few. read_ok now) names e in
    let w = bind_ok (within (length (names_of_sort ns sort) + length new) (most_of sort) (what_of sort)) (λ few. read_ok now) names f.2 in
    ok_is now names w.2

spelled_declare : (known : List TitledStatement) (d e : TheoremParser) (sort : Sort) (ns : List (List ℕ)) → Spelled known d → AreNames ns → after_line known d (rawlines.Declare sort ns) ≡ Ok e → Spelled known e
unfolding after_line
spelled_declare known d e sort ns g said h =
    let then : Names → TheoremParser = λ names. record d { names = names; declared = d.declared ++ replicate (length ns) sort } in
    let n = bind_ok (with_declared d.names sort ns) (λ names. read_ok (then names)) e h in
    let now = declared_is d.names sort ns n.0 n.1 in
    subst (λ (y : TheoremParser). Spelled known y) (ap then now ∙ ok_is (then n.0) e n.2)
    (record { few = g.few; title = g.title; naming = naming_more d.names sort ns g.naming said; some = g.some; blocks = g.blocks })

-- with another count of monomials
counted : (known : List TitledStatement) (d : TheoremParser) (n : ℕ) → Spelled known d → Spelled known (record d { terms = n })
counted known d n g = record { few = g.few; title = g.title; naming = g.naming; some = g.some; blocks = g.blocks }

spelled_terms : (known : List TitledStatement) (d e : TheoremParser) (raws : List RawLit) → Spelled known d → with_terms d raws ≡ Ok e → Spelled known e
spelled_terms known d e raws g h = let t = terms_added d e raws h in subst (λ (y : TheoremParser). Spelled known y) t.is (counted known d (d.terms + count_raw_monomials raws) g)

spelled_given : (known : List TitledStatement) (d e : TheoremParser) (raws : List RawLit) → Spelled known d → after_line known d (rawlines.Given raws) ≡ Ok e → Spelled known e
unfolding after_line
spelled_given known d e raws g h =
    let then : List Lit → TheoremParser = λ ls. record d { given = ls; facts = d.facts + length raws; section = Giving } in
    let all = bind_ok (with_front d.given (lits_in d.names raws)) (λ ls. within (d.facts + length raws) most_facts limits.Facts >>= λ few. with_terms (then ls) raws) e h in
    let w = bind_ok (within (d.facts + length raws) most_facts limits.Facts) (λ few. with_terms (then all.0) raws) e all.2 in
    spelled_terms known (then all.0) e raws (record { few = g.few; title = g.title; naming = g.naming; some = tt; blocks = g.blocks }) w.2

spelled_made : (known : List TitledStatement) (d e : TheoremParser) (sort : Sort) (ns : List (List ℕ)) → Spelled known d → AreNames ns → after_line known d (rawlines.Made sort ns) ≡ Ok e → Spelled known e
unfolding after_line
spelled_made known d e sort ns g said h =
    let then : Names → TheoremParser = λ names. record d { names = names; made = d.made ++ replicate (length ns) sort; section = Making } in
    let n = bind_ok (with_declared d.names sort ns) (λ names. read_ok (then names)) e h in
    let now = declared_is d.names sort ns n.0 n.1 in
    subst (λ (y : TheoremParser). Spelled known y) (ap then now ∙ ok_is (then n.0) e n.2)
    (record { few = g.few; title = g.title; naming = naming_more d.names sort ns g.naming said; some = tt; blocks = g.blocks })

spelled_shown : (known : List TitledStatement) (d e : TheoremParser) (raws : List RawLit) → Spelled known d → 0 < length raws → after_line known d (rawlines.Show raws) ≡ Ok e → Spelled known e
unfolding after_line
spelled_shown known d e raws g said h =
    let then : List Lit → TheoremParser = λ ls. record d { shown = ls; section = Showing } in
    let all = bind_ok (with_front d.shown (lits_in d.names raws)) (λ ls. check_literal_limits raws >>= λ few. read_ok (then ls)) e h in
    let ls = bind_ok (lits_in d.names raws) (λ xs. read_ok (d.shown ++ xs)) all.0 all.1 in
    let f = bind_ok (check_literal_limits raws) (λ few. read_ok (then all.0)) e all.2 in
    let n = each_length (lit_in d.names) raws ls.0 ls.1 in
    let x-is : then (d.shown ++ ls.0) ≡ e = ap then (ok_is (d.shown ++ ls.0) all.0 ls.2) ∙ ok_is (then all.0) e f.2 in
    subst (λ (y : TheoremParser). Spelled known y) x-is (record { few = g.few; title = g.title; naming = g.naming; some = omega (arith, n, said, length-append d.shown ls.0); blocks = g.blocks })

-- with other names in scope, and with other counts, at a place after the show lines
moved : (known : List TitledStatement) (d : TheoremParser) (p : Section) (in_scope : Names) (lines facts terms : ℕ) → Spelled known d → SomeShown p d.shown
    → Spelled known (record d { in_scope = in_scope; lines = lines; facts = facts; terms = terms; section = p })
moved known d p in_scope lines facts terms g some = record { few = g.few; title = g.title; naming = g.naming; some = some; blocks = g.blocks }

spelled_step : (known : List TitledStatement) (d e : TheoremParser) (s : PlainStep) (n : ℕ) → Spelled known d → is_plain_step known s ≡ true → with_step d s n ≡ Ok e → Spelled known e
unfolding with_step
spelled_step known d e s n g p h =
    let x : TheoremParser = record d { lines = d.lines + 1; steps = d.steps ++ s ∷ []; facts = d.facts + n } in
    let a = bind_ok (within (d.lines + 1) most_steps limits.Steps) (λ few. within (d.facts + n) most_facts limits.Facts >>= λ none. read_ok x) e h in
    let b = bind_ok (within (d.facts + n) most_facts limits.Facts) (λ none. read_ok x) e a.2 in
    subst (λ (y : TheoremParser). Spelled known y) (ok_is x e b.2)
    (record { few = g.few; title = g.title; naming = g.naming; some = g.some; blocks = record { inside = one_more known d.steps s g.blocks.inside p; around = g.blocks.around; shut = g.blocks.shut } })

spelled_by : (known : List TitledStatement) (d e : TheoremParser) (r : List ℕ) (ns : List (List ℕ)) (l : RawLit) → Spelled known d → after_line known d (rawlines.By r ns l) ≡ Ok e → Spelled known e
unfolding after_line
spelled_by known d e r ns l g h =
    let b = bind_ok (by_in d.in_scope r ns l) (λ b. with_step d (Cited b) 1) e h in
    spelled_step known d e (Cited b.0) 1 g refl b.2

spelled_hence : (known : List TitledStatement) (d e : TheoremParser) (l : RawLit) → Spelled known d → after_line known d (rawlines.Hence l) ≡ Ok e → Spelled known e
unfolding after_line
spelled_hence known d e l g h =
    let m = bind_ok (lit_in d.in_scope l) (λ m. with_step d (Inferred m None) 1 >>= λ x. with_terms x (l ∷ [])) e h in
    let x = bind_ok (with_step d (Inferred m.0 None) 1) (λ x. with_terms x (l ∷ [])) e m.2 in
    spelled_terms known x.0 e (l ∷ []) (spelled_step known d x.0 (Inferred m.0 None) 1 g refl x.1) x.2

names_listed : (ns : List (List ℕ)) → AreNames ns → list_all is_name ns ≡ true
names_listed [] h = refl
names_listed (n ∷ ns) h = rw (h.0, names_listed ns h.1) refl

spelled_built : (known : List TitledStatement) (d e : TheoremParser) (l : RawLet) → Spelled known d → AreNames l.new → after_let d l ≡ Ok e → Spelled known e
unfolding after_let
spelled_built known d e l g said h =
    let after : Construction → Names = λ construction. with_new_names d.in_scope (sorts_made construction) l.new in
    let then : Construction → Result TheoremParser FaultKind = λ construction. with_step (record d { in_scope = after construction }) (Made construction l.new []) (length (gives_of_construction construction (scope_of_names d.in_scope))) in
    let f = bind_ok (let_in d.in_scope l) (λ construction. few_objects (after construction) >>= λ few. then construction) e h in
    let w = bind_ok (few_objects (after f.0)) (λ few. then f.0) e f.2 in
    spelled_step known (record d { in_scope = after f.0 }) e (Made f.0 l.new []) (length (gives_of_construction f.0 (scope_of_names d.in_scope))) (moved known d d.section (after f.0) d.lines d.facts d.terms g g.some) (names_listed l.new said) w.2

spelled_let : (known : List TitledStatement) (d e : TheoremParser) (l : RawLet) → Spelled known d → AreNames l.new → after_line known d (rawlines.Let l) ≡ Ok e → Spelled known e
unfolding after_line
spelled_let known d e l g said h = spelled_built known d e l g said h

-- the theorem that is used can be named by its title
by_title : (known : List TitledStatement) (ns : Names) (raw : RawApply) (theorem : ℕ) (args : List (Option Obj)) → GoodUse known ns raw theorem args → is_title raw.title ≡ true → is_named_by_title known theorem ≡ true
by_title known ns raw theorem args u h =
    let t = found_title known raw.title theorem u.place in
    let named_so : is_title (title_at known theorem) ≡ true = subst (λ (x : List ℕ). is_title x ≡ true) (sym t) h in
    let there : place_in known (title_at known theorem) ≡ Some theorem = ap (place_in known) t ∙ u.place in
    let here : is_found_at theorem (place_in known (title_at known theorem)) ≡ true = ap (is_found_at theorem) there ∙ eqb_self theorem in
    and_from _ _ named_so here

spelled_used : (known : List TitledStatement) (d e : TheoremParser) (raw : RawApply) (theorem : ℕ) (args : List (Option Obj)) → Spelled known d → AreNames raw.new → is_named_by_title known theorem ≡ true
    → with_use d (theorem_of known theorem) theorem args raw.new ≡ Ok e → Spelled known e
unfolding with_use
spelled_used known d e raw theorem args g names title h =
    let t = theorem_of known theorem in
    let after = with_new_names d.in_scope t.made raw.new in
    let s = Applied theorem args raw.new [] in
    let x : TheoremParser = record d { in_scope = after } in
    let then : TheoremParser → ℕ → TheoremParser = λ v n. record v { terms = n } in
    let last : TheoremParser → ℕ → Result TheoremParser FaultKind = λ v n. within (count_blanks args) most_blanks limits.Blanks >>= λ written. read_ok (then v n) in
    let b = bind_ok (few_objects after) (λ few. with_step x s (length t.shown) >>= λ v. terms_after v.terms t.shown >>= λ n. last v n) e h in
    let v = bind_ok (with_step x s (length t.shown)) (λ v. terms_after v.terms t.shown >>= λ n. last v n) e b.2 in
    let n = bind_ok (terms_after v.0.terms t.shown) (λ n. last v.0 n) e v.2 in
    let w = bind_ok (within (count_blanks args) most_blanks limits.Blanks) (λ written. read_ok (then v.0 n.0)) e n.2 in
    let y = spelled_step known x v.0 s (length t.shown) (moved known d d.section after d.lines d.facts d.terms g g.some) (and_from _ _ (names_listed raw.new names) title) v.1 in
    subst (λ (y : TheoremParser). Spelled known y) (ok_is (then v.0 n.0) e w.2) (counted known v.0 n.0 y)

spelled_applied : (known : List TitledStatement) (d e : TheoremParser) (raw : RawApply) → Spelled known d → (is_title raw.title ≡ true) × AreNames raw.new → after_apply known d raw ≡ Ok e → Spelled known e
unfolding after_apply
spelled_applied known d e raw g said h =
    let a = bind_ok (apply_in known d.in_scope raw) (λ a. with_use d (theorem_of known a.0) a.0 a.1 raw.new) e h in
    spelled_used known d e raw a.0.0 a.0.1 g said.1 (by_title known d.in_scope raw a.0.0 a.0.1 (use_fits known d.in_scope raw a.0 a.1) said.0) a.2

spelled_apply : (known : List TitledStatement) (d e : TheoremParser) (raw : RawApply) → Spelled known d → (is_title raw.title ≡ true) × AreNames raw.new → after_line known d (rawlines.Apply raw) ≡ Ok e → Spelled known e
unfolding after_line
spelled_apply known d e raw g said h = spelled_applied known d e raw g said h

at_proof : (p : Section) (shown : List Lit) → line_may_come p rawlines.Proof ≡ true → SomeShown p shown → 0 < length shown
at_proof Showing shown a s = s
at_proof p shown a s = absurd cc

at_else : (p : Section) (shown : List Lit) → line_may_come p rawlines.Else ≡ true → SomeShown p shown → 0 < length shown
at_else Splitting shown a s = s
at_else p shown a s = absurd cc

at_qed : (p : Section) (shown : List Lit) (ns : List (List ℕ)) → line_may_come p (rawlines.Qed ns) ≡ true → SomeShown p shown → 0 < length shown
at_qed Proving shown ns a s = s
at_qed p shown ns a s = absurd cc

at_contradiction : (p : Section) (shown : List Lit) → line_may_come p rawlines.Contradiction ≡ true → SomeShown p shown → 0 < length shown
at_contradiction Proving shown a s = s
at_contradiction p shown a s = absurd cc

at_close : (p : Section) (shown : List Lit) → line_may_come p rawlines.End ≡ true → SomeShown p shown → 0 < length shown
at_close Closed shown a s = s
at_close p shown a s = absurd cc

spelled_proof : (known : List TitledStatement) (d e : TheoremParser) → Spelled known d → line_may_come d.section rawlines.Proof ≡ true → after_line known d rawlines.Proof ≡ Ok e → Spelled known e
unfolding after_line
spelled_proof known d e g a h =
    let names = declared_names (as_view (statement_of_parser d)) d.names in
    subst (λ (y : TheoremParser). Spelled known y) (ok_is (record d { in_scope = names; section = Proving }) e h) (moved known d Proving names d.lines d.facts d.terms g (at_proof d.section d.shown a g.some))

-- ---- blocks inside blocks

spelled_deeper : (known : List TitledStatement) (d e : TheoremParser) (o : BlockKind) (n : ℕ) → Spelled known d → is_plain_kind known o ≡ true → inside_if_room d o n ≡ Ok e → Spelled known e
unfolding inside_if_room
spelled_deeper known d e o n g p h =
    let x : TheoremParser = inside_block d o n in
    let a = bind_ok (within (d.lines + 1) most_steps limits.Steps) (λ few. within (length d.blocks + 2) most_depth limits.Depth >>= λ shallow. within (d.facts + n) most_facts limits.Facts >>= λ none. read_ok x) e h in
    let b = bind_ok (within (length d.blocks + 2) most_depth limits.Depth) (λ shallow. within (d.facts + n) most_facts limits.Facts >>= λ none. read_ok x) e a.2 in
    let c = bind_ok (within (d.facts + n) most_facts limits.Facts) (λ none. read_ok x) e b.2 in
    subst (λ (y : TheoremParser). Spelled known y) (ok_is x e c.2)
    (record { few = g.few; title = g.title; naming = g.naming; some = g.some; blocks = record { inside = refl; around = rw (g.blocks.inside, p, g.blocks.around) refl; shut = g.blocks.shut } })

spelled_claim : (known : List TitledStatement) (d e : TheoremParser) (raws : List RawLit) → Spelled known d → 0 < length raws → after_line known d (rawlines.Claim raws) ≡ Ok e → Spelled known e
unfolding after_line after_claim
spelled_claim known d e raws g said h =
    let ls = bind_ok (lits_in d.in_scope raws) (λ ls. inside_if_room d (kind.Claim ls) 0 >>= λ x. check_literal_limits raws >>= λ few. read_ok x) e h in
    let x = bind_ok (inside_if_room d (kind.Claim ls.0) 0) (λ x. check_literal_limits raws >>= λ few. read_ok x) e ls.2 in
    let f = bind_ok (check_literal_limits raws) (λ few. read_ok x.0) e x.2 in
    let n = each_length (lit_in d.in_scope) raws ls.0 ls.1 in
    let some : ltb 0 (length ls.0) ≡ true = lt-ltb _ _ (omega (arith, n, said)) in
    subst (λ (y : TheoremParser). Spelled known y) (ok_is x.0 e f.2) (spelled_deeper known d x.0 (kind.Claim ls.0) 0 g some x.1)

abbrev pair_of : Superpose → List Lit → Superpose × List Lit
pair_of form ls = (form, ls)

-- what a superposition shows has as many literals as are written
shown_length : (ns : Names) (raw : RawSuperpose) (p : Superpose × List Lit) → superpose_in ns raw ≡ Ok p → length p.1 ≡ length raw.shown
unfolding superpose_in
shown_length ns raw p e =
    let f = bind_ok (placed_in ns raw.args) (λ superposition. fresh ns [] raw.new >>= λ free. lits_in ns raw.shown >>= λ ls. read_ok (pair_of superposition ls)) p e in
    let w = bind_ok (fresh ns [] raw.new) (λ free. lits_in ns raw.shown >>= λ ls. read_ok (pair_of f.0 ls)) p f.2 in
    let l = bind_ok (lits_in ns raw.shown) (λ ls. read_ok (pair_of f.0 ls)) p w.2 in
    subst (λ (x : Superpose × List Lit). length x.1 ≡ length raw.shown) (ok_is (pair_of f.0 l.0) p l.2) (each_length (lit_in ns) raw.shown l.0 l.1)

spelled_superpose : (known : List TitledStatement) (d e : TheoremParser) (raw : RawSuperpose) → Spelled known d → AreNames raw.new → 0 < length raw.shown → after_line known d (rawlines.Superpose raw) ≡ Ok e → Spelled known e
unfolding after_line after_superpose
spelled_superpose known d e raw g names said h =
    let after = with_new_names d.in_scope superposing.sorts_copied raw.new in
    let gives : Superpose × List Lit → List Lit = λ p. superposing.gives_of_superposition p.0 (scope_of_names d.in_scope) in
    let then : TheoremParser → ℕ → TheoremParser = λ x n. record x { in_scope = after; terms = n } in
    let p = bind_ok (superpose_in d.in_scope raw) (λ p. few_objects after >>= λ objects. inside_if_room d (kind.Superpose p.0 raw.new p.1) (length (gives p)) >>= λ x. check_literal_limits raw.shown >>= λ few. terms_after x.terms (gives p) >>= λ n. read_ok (then x n)) e h in
    let given = gives p.0 in
    let o = kind.Superpose p.0.0 raw.new p.0.1 in
    let w = bind_ok (few_objects after) (λ objects. inside_if_room d o (length given) >>= λ x. check_literal_limits raw.shown >>= λ few. terms_after x.terms given >>= λ n. read_ok (then x n)) e p.2 in
    let x = bind_ok (inside_if_room d o (length given)) (λ x. check_literal_limits raw.shown >>= λ few. terms_after x.terms given >>= λ n. read_ok (then x n)) e w.2 in
    let f = bind_ok (check_literal_limits raw.shown) (λ few. terms_after x.0.terms given >>= λ n. read_ok (then x.0 n)) e x.2 in
    let n = bind_ok (terms_after x.0.terms given) (λ n. read_ok (then x.0 n)) e f.2 in
    let some : ltb 0 (length p.0.1) ≡ true = lt-ltb _ _ (omega (arith, shown_length d.in_scope raw p.0 p.1, said)) in
    let deep = spelled_deeper known d x.0 o (length given) g (rw (names_listed raw.new names, some) refl) x.1 in
    subst (λ (y : TheoremParser). Spelled known y) (ok_is (then x.0 n.0) e n.2) (moved known x.0 x.0.section after x.0.lines x.0.facts n.0 deep deep.some)

spelled_split : (known : List TitledStatement) (d e : TheoremParser) (raw : RawLit) → Spelled known d → after_line known d (rawlines.Cases raw) ≡ Ok e → Spelled known e
unfolding after_line after_cases
spelled_split known d e raw g h =
    let l = bind_ok (lit_in d.in_scope raw) (λ l. inside_if_room d (kind.First l) 1 >>= λ x. with_terms x (raw ∷ [])) e h in
    let x = bind_ok (inside_if_room d (kind.First l.0) 1) (λ x. with_terms x (raw ∷ [])) e l.2 in
    spelled_terms known x.0 e (raw ∷ []) (spelled_deeper known d x.0 (kind.First l.0) 1 g refl x.1) x.2

spelled_else : (known : List TitledStatement) (d e : TheoremParser) → Spelled known d → line_may_come d.section rawlines.Else ≡ true → after_line known d rawlines.Else ≡ Ok e → Spelled known e
unfolding after_line
spelled_else known d e g a h =
    subst (λ (y : TheoremParser). Spelled known y) (ok_is (record d { section = Proving }) e h) (moved known d Proving d.in_scope d.lines d.facts d.terms g (at_else d.section d.shown a g.some))

-- ---- closes

-- what does not change where a block is closed
record HeadSpelled (known : List TitledStatement) (d : TheoremParser) : Type 0 where
  few : length known < most_theorems
  title : is_title d.title ≡ true
  naming : Naming d.names
  some : 0 < length d.shown
  here : SomeShown d.section d.shown
  shut : is_plain_close known d.close ≡ true

spelled_resumed : (known : List TitledStatement) (d e : TheoremParser) (o : OpenBlock) (os : List OpenBlock) (shown : List Lit) (s : PlainStep) → HeadSpelled known d → list_all (is_plain_step known) o.steps ≡ true → list_all (is_plain_outer known) os ≡ true → is_plain_step known s ≡ true
    → after_inner_block d o os shown s ≡ Ok e → Spelled known e
unfolding after_inner_block counted_from
spelled_resumed known d e o os shown s g inside around p h =
    let count : ℕ → TheoremParser = λ n. record d { facts = o.facts + length shown; terms = n } in
    let then : TheoremParser → TheoremParser = λ x. record x { steps = o.steps ++ s ∷ []; in_scope = o.in_scope; blocks = os } in
    let counting = within (o.facts + length shown) most_facts limits.Facts >>= λ few. terms_after o.terms shown >>= λ n. read_ok (count n) in
    let x = bind_ok counting (λ x. read_ok (then x)) e h in
    let f = bind_ok (within (o.facts + length shown) most_facts limits.Facts) (λ few. terms_after o.terms shown >>= λ n. read_ok (count n)) x.0 x.1 in
    let n = bind_ok (terms_after o.terms shown) (λ n. read_ok (count n)) x.0 f.2 in
    subst (λ (y : TheoremParser). Spelled known y) (ap then (ok_is (count n.0) x.0 n.2) ∙ ok_is (then x.0) e x.2)
    (record { few = g.few; title = g.title; naming = g.naming; some = g.here; blocks = record { inside = one_more known o.steps s inside p; around = around; shut = g.shut } })

abbrev shut_last : TheoremParser → List PlainStep → CloseLine → TheoremParser
shut_last d steps close = record d { steps = steps; blocks = []; close = close; section = Closed }

-- after the first block of a split
abbrev at_second : TheoremParser → OpenBlock → List OpenBlock → Lit → Script → TheoremParser
at_second d o os lit inner =
    record d { steps = []; in_scope = o.in_scope; facts = o.facts + 1; terms = o.terms + monomials lit.atom; blocks = record o { kind = kind.Second lit inner } ∷ os; section = Splitting }

-- a block is closed inside one that was interrupted; the second block of a split closes that one again
spelled_inside : (known : List TitledStatement) (d e : TheoremParser) (o : OpenBlock) (os : List OpenBlock) (inner : Script) (by : BlockKind) → HeadSpelled known d → list_all (is_plain_step known) o.steps ≡ true → is_plain_kind known by ≡ true → list_all (is_plain_outer known) os ≡ true
    → is_said known inner ≡ true → ((close : CloseLine) → is_plain_close known close ≡ true → parser_after_close d os o.steps close ≡ Ok e → Spelled known e)
    → closed_inside d o os inner (λ c. parser_after_close d os o.steps c) by ≡ Ok e → Spelled known e
spelled_inside known d e o os inner (kind.Claim shown) g inside p around q again h = spelled_resumed known d e o os shown (Claimed shown inner) g inside around (rw (p, q) refl) h
spelled_inside known d e o os inner (kind.Superpose superposition names shown) g inside p around q again h =
    let n = and_parts (list_all is_name names) (ltb 0 (length shown)) p in
    spelled_resumed known d e o os shown (Copied superposition names shown [] inner) g inside around (rw (n.0, n.1, q) refl) h
spelled_inside known d e o os inner (kind.First lit) g inside p around q again h =
    subst (λ (y : TheoremParser). Spelled known y) (ok_is (at_second d o os lit inner) e h)
    (record { few = g.few; title = g.title; naming = g.naming; some = g.some; blocks = record { inside = refl; around = rw (inside, q, around) refl; shut = g.shut } })
spelled_inside known d e o os inner (kind.Second lit first) g inside p around q again h = again (closes.Cases lit first inner) (rw (p, q) refl) h

spelled_closed : (known : List TitledStatement) (d e : TheoremParser) (os : List OpenBlock) (ss : List PlainStep) (close : CloseLine) → HeadSpelled known d → list_all (is_plain_outer known) os ≡ true → list_all (is_plain_step known) ss ≡ true → is_plain_close known close ≡ true
    → parser_after_close d os ss close ≡ Ok e → Spelled known e
unfolding parser_after_close
spelled_closed known d e [] ss close g around inside k h =
    subst (λ (y : TheoremParser). Spelled known y) (ok_is (shut_last d ss close) e h)
    (record { few = g.few; title = g.title; naming = g.naming; some = g.some; blocks = record { inside = inside; around = refl; shut = k } })
spelled_closed known d e (o ∷ os) ss close g around inside k h =
    let p = and_parts (is_plain_outer known o) (list_all (is_plain_outer known) os) around in
    let q = and_parts (list_all (is_plain_step known) o.steps) (is_plain_kind known o.kind) p.0 in
    spelled_inside known d e o os (all_before ss (script_of_close close)) o.kind g q.0 q.1 p.1 (plain_script known ss close inside k) (λ c kc hc. spelled_closed known d e os o.steps c g p.1 q.0 kc hc) h

spelled_shut : (known : List TitledStatement) (d e : TheoremParser) (close : CloseLine) → Spelled known d → 0 < length d.shown → is_plain_close known close ≡ true → after_close_line d close ≡ Ok e → Spelled known e
unfolding after_close_line
spelled_shut known d e close g some k h =
    let x : TheoremParser = record d { lines = d.lines + 1 } in
    let w = bind_ok (within (d.lines + 1) most_steps limits.Steps) (λ few. parser_after_close x d.blocks d.steps close) e h in
    spelled_closed known x e d.blocks d.steps close (record { few = g.few; title = g.title; naming = g.naming; some = some; here = g.some; shut = g.blocks.shut }) g.blocks.around g.blocks.inside k w.2

spelled_qed : (known : List TitledStatement) (d e : TheoremParser) (ns : List (List ℕ)) → Spelled known d → line_may_come d.section (rawlines.Qed ns) ≡ true → after_line known d (rawlines.Qed ns) ≡ Ok e → Spelled known e
unfolding after_line
spelled_qed known d e ns g a h =
    let os = bind_ok (qed_in d.in_scope (made_in d.blocks d.made) ns) (λ os. after_close_line d (closes.Qed os)) e h in
    spelled_shut known d e (closes.Qed os.0) g (at_qed d.section d.shown ns a g.some) refl os.2

spelled_contradiction : (known : List TitledStatement) (d e : TheoremParser) → Spelled known d → line_may_come d.section rawlines.Contradiction ≡ true → after_line known d rawlines.Contradiction ≡ Ok e → Spelled known e
unfolding after_line
spelled_contradiction known d e g a h = spelled_shut known d e closes.Contradiction g (at_contradiction d.section d.shown a g.some) refl h

spelled_end : (known : List TitledStatement) (d e : TheoremParser) → Spelled known d → line_may_come d.section rawlines.End ≡ true → after_line known d rawlines.End ≡ Ok e → Spelled known e
unfolding after_line
spelled_end known d e g a h = subst (λ (y : TheoremParser). Spelled known y) (ok_is (record d { section = Done }) e h) (moved known d Done d.in_scope d.lines d.facts d.terms g (at_close d.section d.shown a g.some))

spelled_stepped : (known : List TitledStatement) (d e : TheoremParser) (f : RawLine) → Spelled known d → Said f → line_may_come d.section f ≡ true → after_line known d f ≡ Ok e → Spelled known e
spelled_stepped known d e (rawlines.Theorem t) g s a h = absurd (no_title known d e t h)
spelled_stepped known d e (rawlines.Declare sort ns) g s a h = spelled_declare known d e sort ns g s h
spelled_stepped known d e (rawlines.Given raws) g s a h = spelled_given known d e raws g h
spelled_stepped known d e (rawlines.Made sort ns) g s a h = spelled_made known d e sort ns g s h
spelled_stepped known d e (rawlines.Show raws) g s a h = spelled_shown known d e raws g s.0 h
spelled_stepped known d e rawlines.Proof g s a h = spelled_proof known d e g a h
spelled_stepped known d e (rawlines.By r ns l) g s a h = spelled_by known d e r ns l g h
spelled_stepped known d e (rawlines.Hence l) g s a h = spelled_hence known d e l g h
spelled_stepped known d e (rawlines.Let l) g s a h = spelled_let known d e l g s h
spelled_stepped known d e (rawlines.Apply raw) g s a h = spelled_apply known d e raw g s h
spelled_stepped known d e (rawlines.Qed ns) g s a h = spelled_qed known d e ns g a h
spelled_stepped known d e rawlines.Contradiction g s a h = spelled_contradiction known d e g a h
spelled_stepped known d e (rawlines.Claim raws) g s a h = spelled_claim known d e raws g s.0 h
spelled_stepped known d e (rawlines.Superpose raw) g s a h = spelled_superpose known d e raw g s.0 s.2 h
spelled_stepped known d e (rawlines.Cases raw) g s a h = spelled_split known d e raw g h
spelled_stepped known d e rawlines.Else g s a h = spelled_else known d e g a h
spelled_stepped known d e rawlines.End g s a h = spelled_end known d e g a h

pub spelled_next : (known : List TitledStatement) (d e : TheoremParser) (f : RawLine) → Spelled known d → Said f → step known d f ≡ Ok e → Spelled known e
unfolding step
spelled_next known d e f g s h = let p = passes (line_may_come d.section f) (after_line known d f) e h in spelled_stepped known d e f g s p.0 p.1

-- ---- the first line

no_names : Naming (record { points = []; lines = []; circles = [] })
no_names = record { point_names = tt; line_names = tt; circle_names = tt }

pub spelled_begin : (known : List TitledStatement) (f : RawLine) (e : TheoremParser) → Said f → begin known f ≡ Ok e → Spelled known e
unfolding begin
spelled_begin known (rawlines.Theorem t) e s h =
    let n = untaken (is_known known t) (within (length known + 1) most_theorems limits.Theorems >>= λ few. read_ok (with_title t)) e h in
    let w = bind_ok (within (length known + 1) most_theorems limits.Theorems) (λ few. read_ok (with_title t)) e n.1 in
    let few = within_ok (length known + 1) most_theorems limits.Theorems w.0 w.1 in
    subst (λ (y : TheoremParser). Spelled known y) (ok_is (with_title t) e w.2) (record { few = omega (arith, few); title = s; naming = no_names; some = tt; blocks = record { inside = refl; around = refl; shut = refl } })
spelled_begin known f e s h = absurd cc

-- ---- the whole

abbrev SpelledSoFar : List TitledStatement → Option TheoremParser → Type 0
SpelledSoFar known None = Unit {0}
SpelledSoFar known (Some d) = Spelled known d

spelled_line : (known : List TitledStatement) (parser : Option TheoremParser) (words : List (List ℕ)) (e : TheoremParser) → SpelledSoFar known parser → line_step known parser words ≡ Ok e → Spelled known e
unfolding line_step
spelled_line known None words e g h = let f = bind_ok (raw_line_of words) (λ f. begin known f) e h in spelled_begin known f.0 e (form_said words f.0 f.1) f.2
spelled_line known (Some d) words e g h = let f = bind_ok (raw_line_of words) (λ f. step known d f) e h in spelled_next known d e f.0 g (form_said words f.0 f.1) f.2

-- what is known of a theorem beside that it fits
pub record Named (known : List TitledStatement) (t : TheoremView) : Type 0 where
  few : length known < most_theorems
  title : is_title t.title ≡ true
  naming : Naming t.names
  some : 0 < length t.statement.shown
  said : is_said known t.script ≡ true

at_last : (p : Section) (shown : List Lit) → is_last p ≡ true → SomeShown p shown → 0 < length shown
at_last Done shown a s = s
at_last p shown a s = absurd cc

pub all_named : (known : List TitledStatement) (d : TheoremParser) → Spelled known d → is_done d ≡ true → Named known (entry_of_parser d)
all_named known d g a = record { few = g.few; title = g.title; naming = g.naming; some = at_last d.section d.shown a g.some; said = plain_script known d.steps d.close g.blocks.inside g.blocks.shut }

reading_names : (known : List TitledStatement) (last : ℕ) (parser : Option TheoremParser) (lines rest : List (Result LineView LineFault)) (t : TheoremView) → SpelledSoFar known parser → read_from known last parser lines ≡ answered (pair t rest) → Named known t
reading_names known last None [] rest t g e = absurd cc
reading_names known last (Some d) [] rest t g e = absurd cc
reading_names known last parser (Err f ∷ lines) rest t g e = absurd cc
reading_names known last parser (Ok line ∷ lines) rest t g e =
    let words = tokens_of line.bytes in
    let next : Result TheoremParser BookFault = put_at line.number (line_step known parser words) in
    let then : TheoremParser → Result Answer BookFault = λ d. cond (is_done d) (answered (pair (entry_of_parser d) lines)) (read_from known last (Some d) lines) in
    elim (skip_or (is_skipped words) (read_from known last parser lines) (next >>= then) (answered (pair t rest)) e) [
      | inl s ↦ reading_names known last parser lines rest t g s.1
      | inr s ↦
          let d = bind_ok next then (pair t rest) s.1 in
          let good = spelled_line known parser words d.0 g (put_ok line.number (line_step known parser words) d.0 d.1) in
          elim (skip_or (is_done d.0) (answered (pair (entry_of_parser d.0) lines)) (read_from known last (Some d.0) lines) (answered (pair t rest)) d.2) [
            | inl q ↦ subst (λ (x : TheoremView). Named known x) (first_is (entry_of_parser d.0) t lines rest q.1) (all_named known d.0 good q.0)
            | inr q ↦ reading_names known last (Some d.0) lines rest t good q.1
          ]
    ]

has_spelling : (known : List TitledStatement) (t : TheoremView) → Fits known t → Named known t → HasSpelling known t
has_spelling known t f n =
    let s = and_parts (is_plain t.script) (names_theorems known t.script) n.said in
    record {
      fits = f;
      few_theorems = n.few;
      title = n.title;
      point_names = n.naming.point_names;
      line_names = n.naming.line_names;
      circle_names = n.naming.circle_names;
      some_shown = n.some;
      script = s.0;
      theorems = s.1;
    }

-- a parser whose last line has come
pub done_spelled : (known : List TitledStatement) (d : TheoremParser) → Good known d → Spelled known d → is_done d ≡ true → HasSpelling known (entry_of_parser d)
done_spelled known d good g a = has_spelling known (entry_of_parser d) (fits_read known d good a) (all_named known d g a)

pub read_is_spelled : (known : List TitledStatement) (last : ℕ) (t : TheoremView) (lines rest : List (Result LineView LineFault)) → read_from known last None lines ≡ Ok (Some (t, rest)) → HasSpelling known t
read_is_spelled known last t lines rest e = has_spelling known t (reading_fits known last None lines rest t tt e) (reading_names known last None lines rest t tt e)
