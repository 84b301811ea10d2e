-- Each line of a proof adds itself to what was said.
use Rattle.std.proofs.Common.{◌≡◌, ℕ, ◌+◌, Bool, true, cond, ltb, ◌||◌, List, [], ◌∷◌, ◌++◌, length, map, Option, Some, None, Result, Ok, refl, sym, ap, subst, ◌∙◌, append_assoc}
use Rattle.std.specs.Option.{option_to_list}
use Rattle.std.proofs.lemmas.List.{append-nil}
use Rattle.std.proofs.lemmas.Bool.{and_from}
use Rattle.e_literal.specs.declared.object.Sort.{Sort}
use Rattle.e_literal.specs.declared.literal.Lit.{Lit}
use Rattle.e_literal.specs.declared.object.Obj.{Obj}
use Rattle.e_literal.specs.Scopes.{are_of_sorts}
use Rattle.e_literal.specs.Use.{StatementView, scope_of, are_arguments}
use Rattle.e_literal.proofs.GrownScopes.{sorts_next}
use Rattle.e_construct.specs.declared.construction.Construction.{Construction}
use Rattle.e_construct.specs.declared.superpose.Superpose.{Superpose}
use Rattle.e_construct.specs.Construct.{sorts_made, gives_of_construction, needs_of_construction}
use Rattle.e_construct.specs.Superposing as superposing
use Rattle.e_clause.specs.declared.cert.Cert.{Cert}
use Rattle.e_clause.specs.declared.cert.Against.{Against as Contradicts}
use Rattle.e_theorem.specs.Statements.{as_view}
use Rattle.e_theorem.specs.Choice.{fills, is_choice}
use Rattle.e_deriv.specs.declared.names.Names.{Names}
use Rattle.e_deriv.specs.Naming.{with_new_names}
use Rattle.e_deriv.specs.Goal.{Goal, goal_with}
use Rattle.e_deriv.specs.Parts.{args_written}
use Rattle.e_deriv.specs.PlainStep.{PlainStep, Cited, Inferred, Made, Applied}
use Rattle.e_line.specs.declared.fault.FaultKind.{FaultKind}
use Rattle.e_line.specs.declared.fault.What.TheVariants as limits
use Rattle.e_line.specs.declared.literal.RawLit.{RawLit}
use Rattle.e_line.specs.declared.lets.RawLet.{RawLet}
use Rattle.e_line.specs.declared.applies.RawApply.{RawApply}
use Rattle.e_line.specs.declared.superposes.RawSuperpose.{RawSuperpose}
use Rattle.e_line.specs.declared.raw_line.RawLine.{RawLine}
use Rattle.e_line.specs.declared.raw_line.RawLine.TheVariants as rawlines
use Rattle.e_book.specs.declared.blocks.OpenBlock.{OpenBlock}
use Rattle.e_book.specs.declared.blocks.BlockKind.{BlockKind}
use Rattle.e_book.specs.declared.blocks.BlockKind.TheVariants as kind
use Rattle.e_book.specs.declared.steps.CloseLine.TheVariants as closes
use Rattle.e_book.specs.declared.parser.Section.{Section}
use Rattle.e_book.specs.declared.parser.Section.TheVariants.{Proving, Splitting}
use Rattle.e_book.specs.declared.parser.TheoremParser.{TheoremParser}
use Rattle.e_line.specs.Reading.{◌>>=◌}
use Rattle.e_line.specs.Limits.{within, most_steps, most_depth, most_facts, most_blanks}
use Rattle.e_names.specs.TitledStatements.{TitledStatement, stated_by, theorem_of}
use Rattle.e_book.specs.ParserViews.{statement_of_parser, script_of_close}
use Rattle.e_book.specs.Blocks.{is_claim, has_claim, made_in}
use Rattle.e_names.specs.Scope.{scope_of_names, lit_in, lits_in, by_in, let_in, qed_in}
use Rattle.e_names.specs.Superposes.{superpose_in}
use Rattle.e_names.specs.Applies.{count_blanks, apply_in}
use Rattle.e_book.specs.Book.{is_last}
use Rattle.e_line.specs.LineLimits.{check_literal_limits}
use Rattle.e_book.specs.LineLimits.{few_objects}
use Rattle.e_book.specs.Steps.{with_step, terms_after_raw, terms_after, with_terms, after_let, with_use, after_apply, outer_of, inside_block, inside_if_room, after_claim, after_superpose, after_cases, after_close_line, after_line}
use Rattle.e_line.specs.Canonical.{line_of}
use Rattle.e_names.specs.Canonical.{by_raw_line, hence_raw_line, let_raw_line, apply_raw_line, claim_raw_line, superpose_raw_line, cases_raw_line, qed_raw_line, contradiction_raw_line}
use Rattle.e_line.proofs.base.Bound.{bind_ok, ok_is, read_ok}
use Rattle.e_names.proofs.read_lines.InScope.{lit_in_scope}
use Rattle.e_names.proofs.read_lines.Citations.{by_fits}
use Rattle.e_names.proofs.read_lines.Building.{let_fits, superpose_fits, qed_fits}
use Rattle.e_names.proofs.read_lines.Uses.{earlier, use_fits}
use Rattle.e_book.proofs.parsers.KeptBlocks.{lits_within}
use Rattle.e_cert.specs.declared.owed.Obligation.{Obligation}
use Rattle.e_cert.specs.declared.owed.Obligation.TheVariants as due
use Rattle.e_cert.specs.declared.kept.StepCerts.{StepCerts}
use Rattle.e_cert.specs.declared.kept.StepCerts.TheVariants as kept
use Rattle.e_line.specs.CanonicalLines.{is_canonical_lit, are_canonical_lits}
use Rattle.e_read.specs.Owing.{needs_in}
use Rattle.e_read.specs.inner.Needs.{shown_inside, shown_around, goal_or, open_goal, one_each, needs_of_raw_apply, needs_at_qed, due_of}
use Rattle.e_spell.specs.Certificates.{certs_lines, contradiction_lines}
use Rattle.e_roundtrip.specs.Formed.{certs_formed, against_formed}
use Rattle.e_roundtrip.proofs.Certificates.FormsOfOwedCertificates.{KeptIsFormed}
use Rattle.e_roundtrip.proofs.Formed.FormedLines.{MadeFormed, UseFormed, CopyFormed, fills_written, needed_read}
use Rattle.e_roundtrip.proofs.OneLine.LitsRead.{Signed, AllSigned}
use Rattle.e_roundtrip.proofs.OneLine.LinePieces.{OneLine}
use Rattle.e_roundtrip.proofs.OneLine.RawLinesRead.{Read}
use Rattle.e_roundtrip.proofs.OneLine.RawLinesSpelled.{hence_spelled, cases_spelled, claim_spelled, by_spelled, let_spelled, apply_spelled, superpose_spelled, qed_spelled}
use Rattle.e_roundtrip.proofs.Certificates.OwedSpelled.{kept_text, due_at_first}
use Rattle.e_roundtrip.proofs.Blocks.SpelledSteps.{steps_as, script_as, cited_said, inferred_said, made_said, applied_said, qed_said, contradiction_said}
use Rattle.e_roundtrip.proofs.Blocks.SpelledBlocks.{Start, goal_inside, Opening, BlocksSaid, BodySaid, Goes, start_of, head_of, blocks_more, blocks_open, shut_goes}

-- ---- what a line leaves

-- whatever is kept for a line of the proof that has the form of what it owes, its lines and that are said after those before it
abbrev pub Takes : List TitledStatement → TheoremParser → TheoremParser → RawLine → Obligation → List StepCerts → List (List ℕ) → Type 0
Takes known d e f owes ks ls = (k : Option StepCerts) → KeptIsFormed (scope_of_names d.in_scope) (due_at_first owes) k → Goes known d e (ks ++ option_to_list k) ((ls ++ line_of f ∷ []) ++ kept_text d.in_scope k)

pub goes_as : (known : List TitledStatement) (d e : TheoremParser) (ks js : List StepCerts) (ls ms : List (List ℕ)) → ks ≡ js → ls ≡ ms → Goes known d e ks ls → Goes known d e js ms
goes_as known d e ks js ls ms p q g = subst (λ (l : List (List ℕ)). Goes known d e js l) q (subst (λ (k : List StepCerts). Goes known d e k ls) p g)

-- a line that owes nothing
pub owing_nothing : (known : List TitledStatement) (d e : TheoremParser) (f : RawLine) (ks : List StepCerts) (ls : List (List ℕ)) → Goes known d e ks (ls ++ line_of f ∷ []) → Takes known d e f due.Nothing ks ls
owing_nothing known d e f ks ls g None a = goes_as known d e ks (ks ++ []) (ls ++ line_of f ∷ []) ((ls ++ line_of f ∷ []) ++ []) (sym (append-nil ks)) (sym (append-nil (ls ++ line_of f ∷ []))) g
owing_nothing known d e f ks ls g (Some k) a = absurd a

-- one that owes certificates of literals
owing_certs : (known : List TitledStatement) (d e : TheoremParser) (f : RawLine) (wanted : List Lit) (ks : List StepCerts) (ls : List (List ℕ))
    → ((cs : List Cert) → certs_formed (scope_of_names d.in_scope) wanted cs ≡ true → Goes known d e (ks ++ kept.Certs cs ∷ []) (ls ++ line_of f ∷ certs_lines d.in_scope cs)) → Takes known d e f (one_each wanted) ks ls
owing_certs known d e f wanted ks ls g None a = absurd a
owing_certs known d e f wanted ks ls g (Some (kept.Against x)) a = absurd a
owing_certs known d e f wanted ks ls g (Some (kept.Certs cs)) a =
    goes_as known d e (ks ++ kept.Certs cs ∷ []) (ks ++ kept.Certs cs ∷ []) (ls ++ line_of f ∷ certs_lines d.in_scope cs) ((ls ++ line_of f ∷ []) ++ certs_lines d.in_scope cs) refl (sym (append_assoc ls (line_of f ∷ []) (certs_lines d.in_scope cs))) (g cs a)

-- one that owes a certificate of a contradiction
owing_against : (known : List TitledStatement) (d e : TheoremParser) (f : RawLine) (ks : List StepCerts) (ls : List (List ℕ)) → ((a : Contradicts) → against_formed (scope_of_names d.in_scope) a ≡ true → Goes known d e (ks ++ kept.Against a ∷ []) (ls ++ line_of f ∷ contradiction_lines d.in_scope (Some a)))
    → Takes known d e f (due.Contradiction None) ks ls
owing_against known d e f ks ls g None a = absurd a
owing_against known d e f ks ls g (Some (kept.Certs cs)) a = absurd a
owing_against known d e f ks ls g (Some (kept.Against x)) a =
    goes_as known d e (ks ++ kept.Against x ∷ []) (ks ++ kept.Against x ∷ []) (ls ++ line_of f ∷ contradiction_lines d.in_scope (Some x)) ((ls ++ line_of f ∷ []) ++ contradiction_lines d.in_scope (Some x)) refl
    (sym (append_assoc ls (line_of f ∷ []) (contradiction_lines d.in_scope (Some x)))) (g x a)

-- the proof goes on at its place
goes_on : (known : List TitledStatement) (d x : TheoremParser) (ks : List StepCerts) (ls : List (List ℕ)) → head_of x ≡ head_of d → x.section ≡ Proving → BlocksSaid known (start_of x) x.blocks x.steps ks x.in_scope ls → Goes known d x ks ls
goes_on known d x ks ls h p b = record { head = h; body = subst (λ (q : Section). BodySaid known q x ks ls) (sym p) b; unfinished = ap is_last p }

-- ---- counts say nothing

abbrev with_one_step : TheoremParser → PlainStep → ℕ → TheoremParser
with_one_step x s given = record x { lines = x.lines + 1; steps = x.steps ++ s ∷ []; facts = x.facts + given }

step_goes : (known : List TitledStatement) (d x e : TheoremParser) (s : PlainStep) (n : ℕ) (ks : List StepCerts) (ls : List (List ℕ)) → head_of x ≡ head_of d → x.section ≡ Proving → BlocksSaid known (start_of x) x.blocks (x.steps ++ s ∷ []) ks x.in_scope ls
    → with_step x s n ≡ Ok e → Goes known d e ks ls
unfolding with_step
step_goes known d x e s n ks ls h p b w =
    let few = bind_ok (within (x.lines + 1) most_steps limits.Steps) (λ few. within (x.facts + n) most_facts limits.Facts >>= λ none. read_ok (with_one_step x s n)) e w in
    let none = bind_ok (within (x.facts + n) most_facts limits.Facts) (λ none. read_ok (with_one_step x s n)) e few.2 in
    subst (λ (y : TheoremParser). Goes known d y ks ls) (ok_is (with_one_step x s n) e none.2) (goes_on known d (with_one_step x s n) ks ls h p b)

abbrev with_count : TheoremParser → ℕ → TheoremParser
with_count x n = record x { terms = n }

counts_go : (known : List TitledStatement) (d x e : TheoremParser) (n : ℕ) (ks : List StepCerts) (ls : List (List ℕ)) → Goes known d x ks ls → with_count x n ≡ e → Goes known d e ks ls
counts_go known d x e n ks ls g is = subst (λ (y : TheoremParser). Goes known d y ks ls) is (record { head = g.head; body = g.body; unfinished = g.unfinished })

terms_go : (known : List TitledStatement) (d x e : TheoremParser) (raws : List RawLit) (ks : List StepCerts) (ls : List (List ℕ)) → Goes known d x ks ls → with_terms x raws ≡ Ok e → Goes known d e ks ls
unfolding with_terms
terms_go known d x e raws ks ls g w =
    let few = bind_ok (check_literal_limits raws) (λ few. terms_after_raw x.terms raws >>= λ n. read_ok (with_count x n)) e w in
    let n = bind_ok (terms_after_raw x.terms raws) (λ n. read_ok (with_count x n)) e few.2 in
    counts_go known d x e n.0 ks ls g (ok_is (with_count x n.0) e n.2)

-- ---- steps

pub takes_by : (known : List TitledStatement) (d e : TheoremParser) (r : List ℕ) (ns : List (List ℕ)) (l : RawLit) (owes : Obligation) (ks : List StepCerts) (ls : List (List ℕ)) → d.section ≡ Proving → BodySaid known Proving d ks ls → Read (rawlines.By r ns l)
    → due_of known d (rawlines.By r ns l) ≡ Ok owes → after_line known d (rawlines.By r ns l) ≡ Ok e → Takes known d e (rawlines.By r ns l) owes ks ls
unfolding after_line due_of
takes_by known d e r ns l owes ks ls p b s o h =
    let by = bind_ok (by_in d.in_scope r ns l) (λ b. with_step d (Cited b) 1) e h in
    let line = ap (λ (f : RawLine). line_of f ∷ []) (by_spelled d.in_scope r ns l by.0 s by.1) in
    let said = steps_as known d.in_scope (Cited by.0 ∷ []) [] [] d.in_scope (line_of (by_raw_line d.in_scope by.0) ∷ []) (line_of (rawlines.By r ns l) ∷ []) refl line (cited_said known d.in_scope by.0 (by_fits d.in_scope r ns l by.0 by.1)) in
    let blocks = blocks_more known (start_of d) d.blocks d.steps (Cited by.0 ∷ []) ks [] d.in_scope d.in_scope ls (line_of (rawlines.By r ns l) ∷ []) b said in
    let goes = step_goes known d d e (Cited by.0) 1 (ks ++ []) (ls ++ line_of (rawlines.By r ns l) ∷ []) refl p blocks by.2 in
    subst (λ (x : Obligation). Takes known d e (rawlines.By r ns l) x ks ls) (ok_is due.Nothing owes o)
    (owing_nothing known d e (rawlines.By r ns l) ks ls (goes_as known d e (ks ++ []) ks (ls ++ line_of (rawlines.By r ns l) ∷ []) (ls ++ line_of (rawlines.By r ns l) ∷ []) (append-nil ks) refl goes))

pub takes_hence : (known : List TitledStatement) (d e : TheoremParser) (r : RawLit) (owes : Obligation) (ks : List StepCerts) (ls : List (List ℕ)) → d.section ≡ Proving → BodySaid known Proving d ks ls → is_canonical_lit r ≡ true → Signed r
    → due_of known d (rawlines.Hence r) ≡ Ok owes → after_line known d (rawlines.Hence r) ≡ Ok e → Takes known d e (rawlines.Hence r) owes ks ls
unfolding after_line due_of
takes_hence known d e r owes ks ls p b dir s o h =
    let ns = d.in_scope in
    let l = bind_ok (lit_in ns r) (λ l. with_step d (Inferred l None) 1 >>= λ x. with_terms x (r ∷ [])) e h in
    let x = bind_ok (with_step d (Inferred l.0 None) 1) (λ x. with_terms x (r ∷ [])) e l.2 in
    let w = bind_ok (lit_in ns r) (λ l. read_ok (one_each (l ∷ []))) owes o in
    let line = hence_spelled ns r l.0 dir s l.1 in
    subst (λ (y : Obligation). Takes known d e (rawlines.Hence r) y ks ls) (ok_is (one_each (w.0 ∷ [])) owes w.2)
    (owing_certs known d e (rawlines.Hence r) (w.0 ∷ []) ks ls (λ cs c.
    let formed = subst (λ (y : Lit). certs_formed (scope_of_names ns) (y ∷ []) cs ≡ true) (ok_is w.0 l.0 (sym w.1 ∙ l.1)) c in
    let said = steps_as known ns (Inferred l.0 None ∷ []) (kept.Certs cs ∷ []) (kept.Certs cs ∷ []) ns (line_of (hence_raw_line ns l.0) ∷ certs_lines ns cs) (line_of (rawlines.Hence r) ∷ certs_lines ns cs) refl
    (ap (λ (f : RawLine). line_of f ∷ certs_lines ns cs) line) (inferred_said known ns l.0 cs (lit_in_scope ns r l.0 l.1) formed) in
    let blocks = blocks_more known (start_of d) d.blocks d.steps (Inferred l.0 None ∷ []) ks (kept.Certs cs ∷ []) ns ns ls (line_of (rawlines.Hence r) ∷ certs_lines ns cs) b said in
    terms_go known d x.0 e (r ∷ []) (ks ++ kept.Certs cs ∷ []) (ls ++ line_of (rawlines.Hence r) ∷ certs_lines ns cs)
    (step_goes known d d x.0 (Inferred l.0 None) 1 (ks ++ kept.Certs cs ∷ []) (ls ++ line_of (rawlines.Hence r) ∷ certs_lines ns cs) refl p blocks x.1) x.2))

abbrev at_names : TheoremParser → Names → TheoremParser
at_names d ns = record d { in_scope = ns }

built_goes : (known : List TitledStatement) (d e : TheoremParser) (l : RawLet) (read : Construction) (cs : List Cert) (ks : List StepCerts) (ls : List (List ℕ)) → let_in d.in_scope l ≡ Ok read → certs_formed (scope_of_names d.in_scope) (needs_of_construction read) cs ≡ true → d.section ≡ Proving → BodySaid known Proving d ks ls → OneLine l → after_let d l ≡ Ok e
    → Goes known d e (ks ++ kept.Certs cs ∷ []) (ls ++ line_of (rawlines.Let l) ∷ certs_lines d.in_scope cs)
unfolding after_let
built_goes known d e l read cs ks ls r c p b s h =
    let ns = d.in_scope in
    let after : Construction → Names = λ form. with_new_names ns (sorts_made form) l.new in
    let build : Construction → Result TheoremParser FaultKind = λ form. with_step (at_names d (after form)) (Made form l.new []) (length (gives_of_construction form (scope_of_names ns))) in
    let form = bind_ok (let_in ns l) (λ form. few_objects (after form) >>= λ few. build form) e h in
    let few = bind_ok (few_objects (after form.0)) (λ few. build form.0) e form.2 in
    let good = let_fits ns l form.0 form.1 in
    let formed : MadeFormed ns form.0 l.new cs =
    record { fits = good.fits; count = good.count; certs = subst (λ (x : Construction). certs_formed (scope_of_names ns) (needs_of_construction x) cs ≡ true) (ok_is read form.0 (sym r ∙ form.1)) c } in
    let lines = line_of (rawlines.Let l) ∷ certs_lines ns cs in
    let said = steps_as known ns (Made form.0 l.new [] ∷ []) (kept.Certs cs ∷ []) (kept.Certs cs ∷ []) (after form.0) (line_of (let_raw_line ns form.0 l.new) ∷ certs_lines ns cs) lines refl
    (ap (λ (x : List ℕ). x ∷ certs_lines ns cs) (let_spelled ns l form.0 s form.1)) (made_said known ns form.0 l.new cs formed) in
    let blocks = blocks_more known (start_of d) d.blocks d.steps (Made form.0 l.new [] ∷ []) ks (kept.Certs cs ∷ []) ns (after form.0) ls lines b said in
    step_goes known d (at_names d (after form.0)) e (Made form.0 l.new []) (length (gives_of_construction form.0 (scope_of_names ns))) (ks ++ kept.Certs cs ∷ []) (ls ++ lines) refl p blocks few.2

pub takes_let : (known : List TitledStatement) (d e : TheoremParser) (l : RawLet) (owes : Obligation) (ks : List StepCerts) (ls : List (List ℕ)) → d.section ≡ Proving → BodySaid known Proving d ks ls → OneLine l
    → due_of known d (rawlines.Let l) ≡ Ok owes → after_line known d (rawlines.Let l) ≡ Ok e → Takes known d e (rawlines.Let l) owes ks ls
unfolding after_line due_of
takes_let known d e l owes ks ls p b s o h =
    let w = bind_ok (let_in d.in_scope l) (λ construction. read_ok (one_each (needs_of_construction construction))) owes o in
    subst (λ (y : Obligation). Takes known d e (rawlines.Let l) y ks ls) (ok_is (one_each (needs_of_construction w.0)) owes w.2)
    (owing_certs known d e (rawlines.Let l) (needs_of_construction w.0) ks ls (λ cs c. built_goes known d e l w.0 cs ks ls w.1 c p b s h))

used_goes : (known : List TitledStatement) (d e : TheoremParser) (t : StatementView) (theorem : ℕ) (args : List (Option Obj)) (new : List (List ℕ)) (js : List StepCerts) (ls : List (List ℕ)) → d.section ≡ Proving
    → BlocksSaid known (start_of d) d.blocks (d.steps ++ Applied theorem args new [] ∷ []) js (with_new_names d.in_scope t.made new) ls → with_use d t theorem args new ≡ Ok e → Goes known d e js ls
unfolding with_use
used_goes known d e t theorem args new js ls p b h =
    let after = with_new_names d.in_scope t.made new in
    let x : TheoremParser = at_names d after in
    let count : TheoremParser → Result TheoremParser FaultKind = λ y. terms_after y.terms t.shown >>= λ n. within (count_blanks args) most_blanks limits.Blanks >>= λ written. read_ok (with_count y n) in
    let few = bind_ok (few_objects after) (λ few. with_step x (Applied theorem args new []) (length t.shown) >>= count) e h in
    let y = bind_ok (with_step x (Applied theorem args new []) (length t.shown)) count e few.2 in
    let n = bind_ok (terms_after y.0.terms t.shown) (λ n. within (count_blanks args) most_blanks limits.Blanks >>= λ written. read_ok (with_count y.0 n)) e y.2 in
    let w = bind_ok (within (count_blanks args) most_blanks limits.Blanks) (λ written. read_ok (with_count y.0 n.0)) e n.2 in
    counts_go known d y.0 e n.0 js ls (step_goes known d x y.0 (Applied theorem args new []) (length t.shown) js ls refl p b y.1) (ok_is (with_count y.0 n.0) e w.2)

applied_goes : (known : List TitledStatement) (d e : TheoremParser) (raw : RawApply) (wanted : List Lit) (cs : List Cert) (ks : List StepCerts) (ls : List (List ℕ)) → needs_of_raw_apply known d raw ≡ Ok wanted → certs_formed (scope_of_names d.in_scope) wanted cs ≡ true → d.section ≡ Proving → BodySaid known Proving d ks ls → after_apply known d raw ≡ Ok e
    → Goes known d e (ks ++ kept.Certs cs ∷ []) (ls ++ line_of (rawlines.Apply raw) ∷ certs_lines d.in_scope cs)
unfolding after_apply needs_of_raw_apply
applied_goes known d e raw wanted cs ks ls u c p b h =
    let ns = d.in_scope in
    let a = bind_ok (apply_in known ns raw) (λ a. with_use d (theorem_of known a.0) a.0 a.1 raw.new) e h in
    let s = scope_of_names ns in
    let t = theorem_of known a.0.0 in
    let entries = a.0.1 in
    let of_theorem : ℕ × List (Option Obj) → Result (List Lit) FaultKind = λ x. needs_in s (theorem_of known x.0) x.1 in
    let owes = bind_ok (apply_in known ns raw) of_theorem wanted u in
    let need = needed_read s t entries wanted (subst (λ (x : ℕ × List (Option Obj)). of_theorem x ≡ Ok wanted) (ok_is owes.0 a.0 (sym owes.1 ∙ a.1)) owes.2) in
    let good = use_fits known ns raw a.0 a.1 in
    let formed : UseFormed known ns a.0.0 entries raw.new cs = record {
      fits = and_from (ltb a.0.0 (length (stated_by known))) (is_choice t s entries (args_written entries)) (earlier known ns raw a.0.0 entries good) (and_from (fills entries (args_written entries)) (are_arguments t s (args_written entries)) (fills_written entries need.full) need.fit);
      full = need.full;
      count = good.count;
      certs = subst (λ (l : List Lit). certs_formed s l cs ≡ true) (sym need.lits) c;
    } in
    let after = with_new_names ns t.made raw.new in
    let lines = line_of (rawlines.Apply raw) ∷ certs_lines ns cs in
    let said = steps_as known ns (Applied a.0.0 a.0.1 raw.new [] ∷ []) (kept.Certs cs ∷ []) (kept.Certs cs ∷ []) after (line_of (apply_raw_line known ns a.0.0 a.0.1 raw.new) ∷ certs_lines ns cs) lines refl
    (ap (λ (f : RawLine). line_of f ∷ certs_lines ns cs) (apply_spelled known ns raw a.0 a.1)) (applied_said known ns a.0.0 a.0.1 raw.new cs formed) in
    used_goes known d e (theorem_of known a.0.0) a.0.0 a.0.1 raw.new (ks ++ kept.Certs cs ∷ []) (ls ++ lines) p
    (blocks_more known (start_of d) d.blocks d.steps (Applied a.0.0 a.0.1 raw.new [] ∷ []) ks (kept.Certs cs ∷ []) ns after ls lines b said) a.2

pub takes_apply : (known : List TitledStatement) (d e : TheoremParser) (raw : RawApply) (owes : Obligation) (ks : List StepCerts) (ls : List (List ℕ)) → d.section ≡ Proving → BodySaid known Proving d ks ls
    → due_of known d (rawlines.Apply raw) ≡ Ok owes → after_line known d (rawlines.Apply raw) ≡ Ok e → Takes known d e (rawlines.Apply raw) owes ks ls
unfolding after_line due_of
takes_apply known d e raw owes ks ls p b o h =
    let w = bind_ok (needs_of_raw_apply known d raw) (λ ls. read_ok (one_each ls)) owes o in
    subst (λ (y : Obligation). Takes known d e (rawlines.Apply raw) y ks ls) (ok_is (one_each w.0) owes w.2)
    (owing_certs known d e (rawlines.Apply raw) w.0 ks ls (λ cs c. applied_goes known d e raw w.0 cs ks ls w.1 c p b h))

-- ---- inner blocks

deeper_is : (d e : TheoremParser) (op : BlockKind) (n : ℕ) → inside_if_room d op n ≡ Ok e → inside_block d op n ≡ e
unfolding inside_if_room
deeper_is d e op n h =
    let few = bind_ok (within (d.lines + 1) most_steps limits.Steps) (λ few. within (length d.blocks + 2) most_depth limits.Depth >>= λ shallow. within (d.facts + n) most_facts limits.Facts >>= λ none. read_ok (inside_block d op n)) e h in
    let shallow = bind_ok (within (length d.blocks + 2) most_depth limits.Depth) (λ shallow. within (d.facts + n) most_facts limits.Facts >>= λ none. read_ok (inside_block d op n)) e few.2 in
    let none = bind_ok (within (d.facts + n) most_facts limits.Facts) (λ none. read_ok (inside_block d op n)) e shallow.2 in
    ok_is (inside_block d op n) e none.2

-- an inner block begins with these names
abbrev inner_at : TheoremParser → BlockKind → ℕ → Names → ℕ → TheoremParser
inner_at d op n ns terms = record (inside_block d op n) { in_scope = ns; terms = terms }

inner_goes : (known : List TitledStatement) (d : TheoremParser) (op : BlockKind) (n : ℕ) (start : Names) (terms : ℕ) (ks js : List StepCerts) (ls ms : List (List ℕ)) → d.section ≡ Proving → BodySaid known Proving d ks ls → Opening known (goal_inside (start_of d) d.blocks) d.in_scope op js start ms
    → Goes known d (inner_at d op n start terms) (ks ++ js) (ls ++ ms)
inner_goes known d op n start terms ks js ls ms p b o =
    goes_on known d (inner_at d op n start terms) (ks ++ js) (ls ++ ms) refl p (blocks_open known (start_of d) d.blocks (outer_of d op) ks js start ls ms b o)

claimed_goes : (known : List TitledStatement) (d e : TheoremParser) (raws : List RawLit) (ks : List StepCerts) (ls : List (List ℕ)) → d.section ≡ Proving → BodySaid known Proving d ks ls → are_canonical_lits raws ≡ true → AllSigned raws → after_claim d raws ≡ Ok e
    → Goes known d e ks (ls ++ line_of (rawlines.Claim raws) ∷ [])
unfolding after_claim
claimed_goes known d e raws ks ls p b dir s h =
    let shown = bind_ok (lits_in d.in_scope raws) (λ shown. inside_if_room d (kind.Claim shown) 0 >>= λ x. check_literal_limits raws >>= λ few. read_ok x) e h in
    let x = bind_ok (inside_if_room d (kind.Claim shown.0) 0) (λ x. check_literal_limits raws >>= λ few. read_ok x) e shown.2 in
    let few = bind_ok (check_literal_limits raws) (λ few. read_ok x.0) e x.2 in
    let line = ap (λ (f : RawLine). line_of f ∷ []) (claim_spelled d.in_scope raws shown.0 dir s shown.1) in
    let goes = inner_goes known d (kind.Claim shown.0) 0 d.in_scope d.terms ks [] ls (line_of (claim_raw_line d.in_scope shown.0) ∷ []) p b (refl, refl, refl, lits_within d.in_scope raws shown.0 shown.1) in
    subst (λ (y : TheoremParser). Goes known d y ks (ls ++ line_of (rawlines.Claim raws) ∷ [])) (deeper_is d x.0 (kind.Claim shown.0) 0 x.1 ∙ ok_is x.0 e few.2)
    (goes_as known d (inside_block d (kind.Claim shown.0) 0) (ks ++ []) ks (ls ++ line_of (claim_raw_line d.in_scope shown.0) ∷ []) (ls ++ line_of (rawlines.Claim raws) ∷ []) (append-nil ks) (ap (λ (l : List (List ℕ)). ls ++ l) line) goes)

pub takes_claim : (known : List TitledStatement) (d e : TheoremParser) (raws : List RawLit) (owes : Obligation) (ks : List StepCerts) (ls : List (List ℕ)) → d.section ≡ Proving → BodySaid known Proving d ks ls → are_canonical_lits raws ≡ true → AllSigned raws
    → due_of known d (rawlines.Claim raws) ≡ Ok owes → after_line known d (rawlines.Claim raws) ≡ Ok e → Takes known d e (rawlines.Claim raws) owes ks ls
unfolding after_line due_of
takes_claim known d e raws owes ks ls p b dir s o h =
    subst (λ (y : Obligation). Takes known d e (rawlines.Claim raws) y ks ls) (ok_is due.Nothing owes o) (owing_nothing known d e (rawlines.Claim raws) ks ls (claimed_goes known d e raws ks ls p b dir s h))

superposed_goes : (known : List TitledStatement) (d e : TheoremParser) (raw : RawSuperpose) (read : Superpose × List Lit) (cs : List Cert) (ks : List StepCerts) (ls : List (List ℕ)) → superpose_in d.in_scope raw ≡ Ok read
    → certs_formed (scope_of_names d.in_scope) (superposing.needs_of_superposition read.0) cs ≡ true → length raw.new ≡ 2 → d.section ≡ Proving → BodySaid known Proving d ks ls → are_canonical_lits raw.shown ≡ true → AllSigned raw.shown
    → after_superpose d raw ≡ Ok e → Goes known d e (ks ++ kept.Certs cs ∷ []) (ls ++ line_of (rawlines.Superpose raw) ∷ certs_lines d.in_scope cs)
unfolding after_superpose
superposed_goes known d e raw read cs ks ls r c two p b dir s h =
    let ns = d.in_scope in
    let after = with_new_names ns superposing.sorts_copied raw.new in
    let given : Superpose → List Lit = λ superposition. superposing.gives_of_superposition superposition (scope_of_names ns) in
    let at_end : TheoremParser → ℕ → TheoremParser = λ x n. record x { in_scope = after; terms = n } in
    let rest : Superpose × List Lit → Result TheoremParser FaultKind = λ q. few_objects after >>= λ objects. inside_if_room d (kind.Superpose q.0 raw.new q.1) (length (given q.0)) >>= λ x. check_literal_limits raw.shown >>= λ few. terms_after x.terms (given q.0) >>= λ n. read_ok (at_end x n) in
    let q = bind_ok (superpose_in ns raw) rest e h in
    let good = superpose_fits ns raw q.0 q.1 in
    let formed : CopyFormed ns q.0.0 raw.new q.0.1 cs = record {
      fits = good.fits;
      over = lits_within ns raw.shown q.0.1 good.lits;
      count = two;
      certs = subst (λ (x : Superpose × List Lit). certs_formed (scope_of_names ns) (superposing.needs_of_superposition x.0) cs ≡ true) (ok_is read q.0 (sym r ∙ q.1)) c;
    } in
    let op = kind.Superpose q.0.0 raw.new q.0.1 in
    let o = bind_ok (few_objects after) (λ objects. inside_if_room d op (length (given q.0.0)) >>= λ x. check_literal_limits raw.shown >>= λ few. terms_after x.terms (given q.0.0) >>= λ n. read_ok (at_end x n)) e q.2 in
    let x = bind_ok (inside_if_room d op (length (given q.0.0))) (λ x. check_literal_limits raw.shown >>= λ few. terms_after x.terms (given q.0.0) >>= λ n. read_ok (at_end x n)) e o.2 in
    let few = bind_ok (check_literal_limits raw.shown) (λ few. terms_after x.0.terms (given q.0.0) >>= λ n. read_ok (at_end x.0 n)) e x.2 in
    let n = bind_ok (terms_after x.0.terms (given q.0.0)) (λ n. read_ok (at_end x.0 n)) e few.2 in
    let line = ap (λ (f : RawLine). line_of f ∷ certs_lines ns cs) (superpose_spelled ns raw q.0 dir s q.1) in
    let lines = line_of (superpose_raw_line ns q.0.0 raw.new q.0.1) ∷ certs_lines ns cs in
    let goes = inner_goes known d op (length (given q.0.0)) after n.0 ks (kept.Certs cs ∷ []) ls lines p b (cs, refl, refl, refl, formed) in
    subst (λ (y : TheoremParser). Goes known d y (ks ++ kept.Certs cs ∷ []) (ls ++ line_of (rawlines.Superpose raw) ∷ certs_lines ns cs))
    (ap (λ (y : TheoremParser). at_end y n.0) (deeper_is d x.0 op (length (given q.0.0)) x.1) ∙ ok_is (at_end x.0 n.0) e n.2)
    (goes_as known d (inner_at d op (length (given q.0.0)) after n.0) (ks ++ kept.Certs cs ∷ []) (ks ++ kept.Certs cs ∷ []) (ls ++ lines) (ls ++ line_of (rawlines.Superpose raw) ∷ certs_lines ns cs) refl (ap (λ (l : List (List ℕ)). ls ++ l) line) goes)

pub takes_superpose : (known : List TitledStatement) (d e : TheoremParser) (raw : RawSuperpose) (owes : Obligation) (ks : List StepCerts) (ls : List (List ℕ)) → length raw.new ≡ 2 → d.section ≡ Proving → BodySaid known Proving d ks ls → are_canonical_lits raw.shown ≡ true → AllSigned raw.shown
    → due_of known d (rawlines.Superpose raw) ≡ Ok owes → after_line known d (rawlines.Superpose raw) ≡ Ok e → Takes known d e (rawlines.Superpose raw) owes ks ls
unfolding after_line due_of
takes_superpose known d e raw owes ks ls two p b dir s o h =
    let w = bind_ok (superpose_in d.in_scope raw) (λ q. read_ok (one_each (superposing.needs_of_superposition q.0))) owes o in
    subst (λ (y : Obligation). Takes known d e (rawlines.Superpose raw) y ks ls) (ok_is (one_each (superposing.needs_of_superposition w.0.0)) owes w.2)
    (owing_certs known d e (rawlines.Superpose raw) (superposing.needs_of_superposition w.0.0) ks ls (λ cs c. superposed_goes known d e raw w.0 cs ks ls w.1 c two p b dir s h))

split_goes : (known : List TitledStatement) (d e : TheoremParser) (r : RawLit) (ks : List StepCerts) (ls : List (List ℕ)) → d.section ≡ Proving → BodySaid known Proving d ks ls → is_canonical_lit r ≡ true → Signed r → after_cases d r ≡ Ok e
    → Goes known d e ks (ls ++ line_of (rawlines.Cases r) ∷ [])
unfolding after_cases
split_goes known d e r ks ls p b dir s h =
    let l = bind_ok (lit_in d.in_scope r) (λ l. inside_if_room d (kind.First l) 1 >>= λ x. with_terms x (r ∷ [])) e h in
    let x = bind_ok (inside_if_room d (kind.First l.0) 1) (λ x. with_terms x (r ∷ [])) e l.2 in
    let line = ap (λ (f : RawLine). line_of f ∷ []) (cases_spelled d.in_scope r l.0 dir s l.1) in
    let goes = inner_goes known d (kind.First l.0) 1 d.in_scope d.terms ks [] ls (line_of (cases_raw_line d.in_scope l.0) ∷ []) p b (refl, refl, refl, lit_in_scope d.in_scope r l.0 l.1) in
    terms_go known d x.0 e (r ∷ []) ks (ls ++ line_of (rawlines.Cases r) ∷ [])
    (subst (λ (y : TheoremParser). Goes known d y ks (ls ++ line_of (rawlines.Cases r) ∷ [])) (deeper_is d x.0 (kind.First l.0) 1 x.1)
    (goes_as known d (inside_block d (kind.First l.0) 1) (ks ++ []) ks (ls ++ line_of (cases_raw_line d.in_scope l.0) ∷ []) (ls ++ line_of (rawlines.Cases r) ∷ []) (append-nil ks) (ap (λ (l : List (List ℕ)). ls ++ l) line) goes)) x.2

pub takes_cases : (known : List TitledStatement) (d e : TheoremParser) (r : RawLit) (owes : Obligation) (ks : List StepCerts) (ls : List (List ℕ)) → d.section ≡ Proving → BodySaid known Proving d ks ls → is_canonical_lit r ≡ true → Signed r
    → due_of known d (rawlines.Cases r) ≡ Ok owes → after_line known d (rawlines.Cases r) ≡ Ok e → Takes known d e (rawlines.Cases r) owes ks ls
unfolding after_line due_of
takes_cases known d e r owes ks ls p b dir s o h =
    subst (λ (y : Obligation). Takes known d e (rawlines.Cases r) y ks ls) (ok_is due.Nothing owes o) (owing_nothing known d e (rawlines.Cases r) ks ls (split_goes known d e r ks ls p b dir s h))

abbrev at_place : TheoremParser → Section → TheoremParser
at_place d p = record d { section = p }

-- the second block of a split begins
pub takes_else : (known : List TitledStatement) (d e : TheoremParser) (owes : Obligation) (ks : List StepCerts) (ls : List (List ℕ)) → BodySaid known Splitting d ks ls → due_of known d rawlines.Else ≡ Ok owes → after_line known d rawlines.Else ≡ Ok e → Takes known d e rawlines.Else owes ks ls
unfolding after_line due_of
takes_else known d e owes ks ls b o h =
    subst (λ (y : Obligation). Takes known d e rawlines.Else y ks ls) (ok_is due.Nothing owes o)
    (owing_nothing known d e rawlines.Else ks ls (subst (λ (y : TheoremParser). Goes known d y ks (ls ++ line_of rawlines.Else ∷ [])) (ok_is (at_place d Proving) e h) (record { head = refl; body = b; unfinished = refl })))

-- ---- closes

abbrev sorts_of : List Obj → List Sort
sorts_of os = map (λ (o : Obj). o.sort) os

sorts_by : (op : BlockKind) (around : Option (List Lit)) (goal : Goal) (made : List Sort) (b : Bool) → sorts_of (goal_or around goal).made ≡ cond b [] made → sorts_of (goal_or (shown_inside op around) goal).made ≡ cond (is_claim op || b) [] made
sorts_by (kind.Claim shown) around goal made b e = refl
sorts_by (kind.Superpose superposition names shown) around goal made b e = refl
sorts_by (kind.First lit) around goal made b e = e
sorts_by (kind.Second lit first) around goal made b e = e

-- the made objects of the goal of the block inside these have the sorts that a qed is read for
goal_sorts : (first : Start) (os : List OpenBlock) (made : List Sort) → sorts_of first.goal.made ≡ made → sorts_of (goal_inside first os).made ≡ made_in os made
goal_sorts first [] made e = e
goal_sorts first (o ∷ os) made e = sorts_by o.kind (shown_around os) first.goal made (has_claim os) (goal_sorts first os made e)

pub takes_qed : (known : List TitledStatement) (d e : TheoremParser) (ns : List (List ℕ)) (owes : Obligation) (ks : List StepCerts) (ls : List (List ℕ)) → d.section ≡ Proving → BodySaid known Proving d ks ls
    → due_of known d (rawlines.Qed ns) ≡ Ok owes → after_line known d (rawlines.Qed ns) ≡ Ok e → Takes known d e (rawlines.Qed ns) owes ks ls
unfolding after_line due_of needs_at_qed
takes_qed known d e ns owes ks ls p b o h =
    let sorts = made_in d.blocks d.made in
    let os = bind_ok (qed_in d.in_scope sorts ns) (λ os. after_close_line d (closes.Qed os)) e h in
    let w = bind_ok (needs_at_qed d ns) (λ ls. read_ok (one_each ls)) owes o in
    let goal = open_goal d in
    let s = scope_of_names d.in_scope in
    let x = bind_ok (qed_in d.in_scope sorts ns) (λ objects. read_ok (goal_with goal objects)) w.0 w.1 in
    let owed : w.0 ≡ goal_with goal os.0 = sym (ok_is (goal_with goal x.0) w.0 x.2) ∙ ap (goal_with goal) (ok_is x.0 os.0 (sym x.1 ∙ os.1)) in
    let fit = subst (λ (l : List Sort). are_of_sorts s l os.0 ≡ true) (sym (goal_sorts (start_of d) d.blocks d.made (sorts_next (scope_of (as_view (statement_of_parser d))) d.made))) (qed_fits d.in_scope sorts ns os.0 os.1) in
    let line = qed_spelled d.in_scope sorts ns os.0 os.1 in
    subst (λ (y : Obligation). Takes known d e (rawlines.Qed ns) y ks ls) (ok_is (one_each w.0) owes w.2)
    (owing_certs known d e (rawlines.Qed ns) w.0 ks ls (λ cs c.
    let formed = subst (λ (l : List Lit). certs_formed s l cs ≡ true) owed c in
    let said = script_as known d.in_scope goal (script_of_close (closes.Qed os.0)) (kept.Certs cs ∷ []) (kept.Certs cs ∷ []) (line_of (qed_raw_line d.in_scope os.0) ∷ certs_lines d.in_scope cs) (line_of (rawlines.Qed ns) ∷ certs_lines d.in_scope cs) refl
    (ap (λ (f : RawLine). line_of f ∷ certs_lines d.in_scope cs) line) (qed_said known d.in_scope goal os.0 cs fit formed) in
    shut_goes known d e (closes.Qed os.0) ks (kept.Certs cs ∷ []) ls (line_of (rawlines.Qed ns) ∷ certs_lines d.in_scope cs) p b said os.2))

pub takes_contradiction : (known : List TitledStatement) (d e : TheoremParser) (owes : Obligation) (ks : List StepCerts) (ls : List (List ℕ)) → d.section ≡ Proving → BodySaid known Proving d ks ls
    → due_of known d rawlines.Contradiction ≡ Ok owes → after_line known d rawlines.Contradiction ≡ Ok e → Takes known d e rawlines.Contradiction owes ks ls
unfolding after_line due_of
takes_contradiction known d e owes ks ls p b o h =
    subst (λ (y : Obligation). Takes known d e rawlines.Contradiction y ks ls) (ok_is (due.Contradiction None) owes o)
    (owing_against known d e rawlines.Contradiction ks ls (λ a c.
    shut_goes known d e closes.Contradiction ks (kept.Against a ∷ []) ls (line_of contradiction_raw_line ∷ contradiction_lines d.in_scope (Some a)) p b (contradiction_said known d.in_scope (open_goal d) a c) h))
