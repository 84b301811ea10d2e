-- The lines of a derivation are short.
use Rattle.std.proofs.Common.{◌≡◌, ℕ, zero, suc, ◌+◌, ◌≤◌, true, leb, ◌&&◌, List, [], ◌∷◌, ◌++◌, length, map, Option, Some, None, is_some, refl, ap, arith}
use Rattle.std.specs.List.{list_all, AllByRecursion}
use Rattle.std.proofs.lemmas.Bool.{leb-true, and_parts}
use Rattle.std.proofs.lemmas.List.{length-map}
use Rattle.e_text.specs.Lines.{AreShort}
use Rattle.e_text.specs.Names.{is_title}
use Rattle.e_literal.specs.declared.object.Sort.{Sort}
use Rattle.e_literal.specs.declared.object.Obj.{Obj}
use Rattle.e_literal.specs.declared.literal.Lit.{Lit}
use Rattle.e_literal.specs.Literal.{negation, is_in_scope, all_in_scope}
use Rattle.e_literal.specs.WellFormed.{is_well_formed}
use Rattle.e_literal.specs.Scopes.{with_sorts}
use Rattle.e_literal.specs.Facts.{with_fact, with_facts}
use Rattle.e_literal.specs.Rename.{same_obj}
use Rattle.e_literal.specs.Use.{StatementView, are_arguments, gives_of_use, needs_of_use}
use Rattle.e_clause.specs.declared.cert.Against.{Against}
use Rattle.e_clause.specs.declared.cert.By.{By}
use Rattle.e_clause.specs.declared.cert.Cert.{Cert}
use Rattle.e_clause.specs.Instance.{Inst}
use Rattle.e_clause.specs.RuleKinds.{is_diagram_rule}
use Rattle.e_construct.specs.declared.construction.Construction.{Construction}
use Rattle.e_construct.specs.declared.superpose.Superpose.{Superpose}
use Rattle.e_construct.specs.Construct.{sorts_made, gives_of_construction, needs_of_construction}
use Rattle.e_construct.specs.Superposing as superposing
use Rattle.e_theorem.specs.Choice.{fills, is_choice}
use Rattle.e_deriv.specs.PlainStep.{Cited, Claimed, Copied}
use Rattle.e_deriv.specs.Script.{Script, Cite, Hence, Make, Apply, Claim, Superposed, Qed, Contradiction, Cases, size, bare_script}
use Rattle.e_deriv.specs.Goal.{Goal, goal_of, goal_with}
use Rattle.e_deriv.specs.PlacedSteps.{placed_step, placed_steps}
use Rattle.e_deriv.specs.Naming.{with_new_names}
use Rattle.e_deriv.specs.Parts.{args_written as written_args}
use Rattle.e_roundtrip.specs.Formed.{is_formed}
use Rattle.e_book.specs.declared.blocks.BlockKind.TheVariants as kind
use Rattle.e_book.specs.declared.parser.TheoremParser.{TheoremParser}
use Rattle.e_line.specs.Limits.{most_facts}
use Rattle.e_names.specs.TitledStatements.{TitledStatement, stated_by, theorem_of, title_at}
use Rattle.e_names.specs.Scope.{scope_of_names}
use Rattle.e_names.specs.Fits.{is_diagram_lit}
use Rattle.e_book.specs.Fits.{few_facts, has_well_formed_literals, NewNamesFit}
use Rattle.e_line.specs.Canonical.{line_of}
use Rattle.e_names.specs.Canonical.{else_raw_line}
use Rattle.e_names.specs.NamedByTitle.{is_named_by_title}
use Rattle.e_book.specs.HasSpelling.{is_plain, names_theorems}
use Rattle.e_names.proofs.resolution.LitLookups.{diagram_is_well_formed}
use Rattle.e_names.proofs.resolution.Built.{of_sorts_length}
use Rattle.e_book.proofs.canonical.LinesRead.{Inside, after_step, deep, copied, resume, second, applied_after}
use Rattle.e_spell.specs.Certificates.{certs_lines}
use Rattle.e_spell.specs.Spelling.{script_lines}
use Rattle.e_roundtrip.proofs.Certificates.SpellableCertificates.{good_certs, good_against}
use Rattle.e_book.proofs.canonical.ScriptRead.{list_names, inferred, constructed, apply_parts, claim_parts, copy_parts, opens, cases_parts}
use Rattle.e_roundtrip.proofs.Formed.PlacedScripts.{Stood, first_of, one_formed}
use Rattle.e_roundtrip.proofs.Blocks.ScriptAlong.{cite_next, hence_next, make_next, apply_next, claim_inside, claim_next, copy_formed, copy_inside, copy_next, cases_one, cases_two, no_hence, no_contradiction}
use Rattle.e_roundtrip.proofs.Lengths.Rooms.{short_append}
use Rattle.e_roundtrip.proofs.Lengths.RuleRooms.{few_cited}
use Rattle.e_roundtrip.proofs.Lengths.CertRooms.{short_certs, short_against}
use Rattle.e_roundtrip.proofs.Lengths.RawLineRooms.{short_by, short_hence, avoided_give, short_let, short_apply, short_claim, short_superpose, short_qed, short_contradiction, short_cases, short_else}
use Rattle.e_roundtrip.proofs.Lengths.HeadRooms.{IsFew}

-- ---- what is known

-- each statement has few objects
abbrev pub AllFew : List TitledStatement → Type 0
AllFew known = AllByRecursion (λ h. IsFew h.statement) known

-- a theorem has few objects
record FewAt (t : StatementView) : Type 0 where
  declared : length t.declared ≤ 80
  made : length t.made ≤ 80

-- each theorem that is known, or is past the last, has few objects
few_at : (known : List TitledStatement) (k : ℕ) → AllFew known → FewAt (theorem_of known k)
few_at [] k h = record { declared = omega arith; made = omega arith }
few_at (x ∷ known) zero h = record { declared = omega (arith, h.0); made = omega (arith, h.0) }
few_at (x ∷ known) (suc k) h = few_at known k h.1

-- ---- lines

-- the lines of a script where these names are in scope
abbrev AreShortLines : List TitledStatement → Inside → Script → Type 0
AreShortLines known i script = AreShort 262144 (script_lines known i.in_scope script)

-- a choice has an object for each entry
as_many : (xs : List (Option Obj)) (os : List Obj) → fills xs os ≡ true → length xs ≡ length os
as_many [] [] h = refl
as_many [] (o ∷ os) h = absurd cc
as_many (None ∷ xs) [] h = absurd cc
as_many (Some x ∷ xs) [] h = absurd cc
as_many (None ∷ xs) (o ∷ os) h = ap suc (as_many xs os h)
as_many (Some x ∷ xs) (o ∷ os) h = ap suc (as_many xs os (and_parts (same_obj x o) (fills xs os) h).1)

-- a citation
cite_short : (known : List TitledStatement) (d : TheoremParser) (i : Inside) (b : By) (rest : Script) (given : List Lit) (goal : Goal) → Stood known d i (Cite b rest) given goal → AreShortLines known i rest → AreShortLines known i (Cite b rest)
unfolding bare_script script_lines placed_steps has_well_formed_literals
cite_short known d i b rest given goal s more =
    let before = stated_by known in
    let sc = scope_of_names i.in_scope in
    let here = placed_step (Cite b rest) (Cite b rest) sc given goal in
    let one = one_formed before here (first_of (is_formed before) here (placed_steps before rest rest sc (with_fact given b.lit) goal) s.formed).0 in
    let p = and_parts (is_diagram_rule b.rule) (list_all (is_in_scope sc) b.args && (all_in_scope sc b.lit && is_some (Inst b.rule b.args))) one.fitting in
    let q = and_parts (list_all (is_in_scope sc) b.args) (all_in_scope sc b.lit && is_some (Inst b.rule b.args)) p.1 in
    let r = and_parts (all_in_scope sc b.lit) (is_some (Inst b.rule b.args)) q.1 in
    let good = (and_parts (is_diagram_lit b.lit) (has_well_formed_literals (bare_script rest)) s.ready.good).0 in
    (short_by i.in_scope b s.ready.order (diagram_is_well_formed b.lit good) (few_cited b.rule b.args r.1), more)

-- an inference with its certificate
hence_short : (known : List TitledStatement) (d : TheoremParser) (i : Inside) (l : Lit) (c : Cert) (rest : Script) (given : List Lit) (goal : Goal) → Stood known d i (Hence l (Some c) rest) given goal → AreShortLines known i rest → AreShortLines known i (Hence l (Some c) rest)
unfolding bare_script script_lines placed_steps has_well_formed_literals
hence_short known d i l c rest given goal s more =
    let before = stated_by known in
    let ns = i.in_scope in
    let sc = scope_of_names ns in
    let here = placed_step (Hence l (Some c) rest) (Hence l (Some c) rest) sc given goal in
    let one = one_formed before here (first_of (is_formed before) here (placed_steps before rest rest sc (with_fact given l) goal) s.formed).0 in
    let good = (and_parts (is_well_formed l) (has_well_formed_literals (bare_script rest)) s.ready.good).0 in
    let certs = short_certs ns (l ∷ []) (c ∷ []) s.ready.order (good_certs ns (l ∷ []) (c ∷ []) one.certs) in
    (short_hence ns l s.ready.order good, short_append (certs_lines ns (c ∷ [])) (script_lines known ns rest) certs more)

-- a construction: what it avoids is bounded by the facts that it gives
make_short : (known : List TitledStatement) (d : TheoremParser) (i : Inside) (construction : Construction) (names : List (List ℕ)) (certs : List Cert) (rest : Script) (given : List Lit) (goal : Goal) → Stood known d i (Make construction names certs rest) given goal
    → AreShortLines known (constructed i construction names) rest → AreShortLines known i (Make construction names certs rest)
unfolding bare_script script_lines placed_steps is_plain few_facts
make_short known d i construction names certs rest given goal s more =
    let before = stated_by known in
    let r = s.ready in
    let ns = i.in_scope in
    let sc = scope_of_names ns in
    let n = i.facts + length (gives_of_construction construction sc) in
    let here = placed_step (Make construction names certs rest) (Make construction names certs rest) sc given goal in
    let one = one_formed before here (first_of (is_formed before) here (placed_steps before rest rest (with_sorts sc (sorts_made construction)) (with_facts given (gives_of_construction construction sc)) goal) s.formed).0 in
    let most = leb-true _ _ (and_parts (leb n most_facts) (few_facts before n (with_sorts sc (sorts_made construction)) (bare_script rest)) r.facts).0 in
    let words = list_names names (and_parts (list_all _ names) (is_plain (bare_script rest)) r.plain).0 in
    let own = short_certs ns (needs_of_construction construction) certs r.order (good_certs ns (needs_of_construction construction) certs one.certs) in
    (short_let ns construction names r.order words (omega (arith, most, avoided_give construction sc)), short_append (certs_lines ns certs) (script_lines known (with_new_names ns (sorts_made construction) names) rest) own more)

-- the use of an earlier theorem
apply_short : (known : List TitledStatement) (d : TheoremParser) (i : Inside) (theorem : ℕ) (args : List (Option Obj)) (names : List (List ℕ)) (certs : List Cert) (rest : Script) (given : List Lit) (goal : Goal) → AllFew known
    → Stood known d i (Apply theorem args names certs rest) given goal → AreShortLines known (applied_after i (theorem_of known theorem) theorem args names) rest → AreShortLines known i (Apply theorem args names certs rest)
unfolding bare_script script_lines placed_steps NewNamesFit names_theorems
apply_short known d i theorem args names certs rest given goal k s more =
    let before = stated_by known in
    let r = s.ready in
    let ns = i.in_scope in
    let sc = scope_of_names ns in
    let t = theorem_of known theorem in
    let p = apply_parts known d i theorem args names (bare_script rest) given goal r in
    let here = placed_step (Apply theorem args names certs rest) (Apply theorem args names certs rest) sc given goal in
    let one = one_formed before here (first_of (is_formed before) here (placed_steps before rest rest (with_sorts sc t.made) (with_facts given (gives_of_use t (written_args args) sc)) goal) s.formed).0 in
    let choice = (and_parts _ (is_choice t sc args (written_args args)) one.fitting).1 in
    let fit = and_parts (fills args (written_args args)) (are_arguments t sc (written_args args)) choice in
    let count = of_sorts_length sc t.declared (written_args args) fit.1 in
    let few = few_at known theorem k in
    let title = (and_parts (is_title (title_at known theorem)) _ (and_parts (is_named_by_title known theorem) (names_theorems known (bare_script rest)) r.theorems).0).0 in
    let wanted = needs_of_use t (written_args args) sc in
    let own = short_certs ns wanted certs r.order (good_certs ns wanted certs one.certs) in (
      short_apply known ns theorem args names r.order title p.named (omega (arith, as_many args (written_args args) fit.0, count, few.declared)) (omega (arith, r.new_names.1, few.made)),
      short_append (certs_lines ns certs) (script_lines known (with_new_names ns t.made names) rest) own more,
    )

-- a claim
claim_short : (known : List TitledStatement) (d : TheoremParser) (i : Inside) (shown : List Lit) (inner rest : Script) (given : List Lit) (goal : Goal) → Stood known d i (Claim shown inner rest) given goal
    → AreShortLines known i inner → AreShortLines known i rest → AreShortLines known i (Claim shown inner rest)
unfolding bare_script script_lines
claim_short known d i shown inner rest given goal s inside more =
    let ns = i.in_scope in
    let p = claim_parts known d i shown (bare_script inner) (bare_script rest) given goal s.ready in
    (short_claim ns shown s.ready.order p.plain.good (omega (arith, p.facts)) (omega (arith, p.terms)), short_append (script_lines known ns inner) (script_lines known ns rest) inside more)

-- a superposition
copy_short : (known : List TitledStatement) (d : TheoremParser) (i : Inside) (superposition : Superpose) (names : List (List ℕ)) (shown : List Lit) (certs : List Cert) (inner rest : Script) (given : List Lit) (goal : Goal)
    → Stood known d i (Superposed superposition names shown certs inner rest) given goal → AreShortLines known (copied i superposition names shown) inner → AreShortLines known i rest → AreShortLines known i (Superposed superposition names shown certs inner rest)
unfolding bare_script script_lines
copy_short known d i superposition names shown certs inner rest given goal s inside more =
    let ns = i.in_scope in
    let p = copy_parts known d i superposition names shown (bare_script inner) (bare_script rest) given goal s.ready in
    let wanted = superposing.needs_of_superposition superposition in
    let c = (copy_formed known d i superposition names shown certs inner rest given goal s).2 in
    let own = short_certs ns wanted certs s.ready.order (good_certs ns wanted certs c) in
    let first = script_lines known (with_new_names ns superposing.sorts_copied names) inner in
    let last = script_lines known ns rest in (
      short_superpose ns superposition names shown s.ready.order p.good.named p.good.plain.good (omega (arith, p.facts)) (omega (arith, p.terms)),
      short_append (certs_lines ns certs) (first ++ last) own (short_append first last inside more),
    )

-- the close line that shows the goal
qed_short : (known : List TitledStatement) (d : TheoremParser) (i : Inside) (os : List Obj) (certs : List Cert) (given : List Lit) (goal : Goal) → Stood known d i (Qed os certs) given goal → length goal.made ≤ 80 → AreShortLines known i (Qed os certs)
unfolding script_lines placed_steps
qed_short known d i os certs given goal s few =
    let before = stated_by known in
    let r = s.ready in
    let ns = i.in_scope in
    let sc = scope_of_names ns in
    let here = placed_step (Qed os certs) (Qed os certs) sc given goal in
    let one = one_formed before here (first_of (is_formed before) here [] s.formed).0 in
    let sorts : List Sort = map (λ o. o.sort) goal.made in
    let count = of_sorts_length sc sorts os one.fitting in
    let wanted = goal_with goal os in
    (short_qed ns os r.order (omega (arith, few, count, length-map goal.made (λ o. o.sort))), short_certs ns wanted certs r.order (good_certs ns wanted certs one.certs))

-- a contradiction
contradiction_short : (known : List TitledStatement) (d : TheoremParser) (i : Inside) (a : Against) (given : List Lit) (goal : Goal) → Stood known d i (Contradiction (Some a)) given goal → AreShortLines known i (Contradiction (Some a))
unfolding script_lines placed_steps
contradiction_short known d i a given goal s =
    let before = stated_by known in
    let ns = i.in_scope in
    let here = placed_step (Contradiction (Some a)) (Contradiction (Some a)) (scope_of_names ns) given goal in
    let one = one_formed before here (first_of (is_formed before) here [] s.formed).0 in
    (short_contradiction, short_against ns a s.ready.order (good_against ns a one.beside))

-- a split
cases_short : (known : List TitledStatement) (d : TheoremParser) (i : Inside) (l : Lit) (one two : Script) (given : List Lit) (goal : Goal) → Stood known d i (Cases l one two) given goal → AreShortLines known i one → AreShortLines known i two
    → AreShortLines known i (Cases l one two)
unfolding bare_script script_lines
cases_short known d i l one two given goal s first second =
    let ns = i.in_scope in
    let p = cases_parts known d i l (bare_script one) (bare_script two) given goal s.ready in
    (short_cases ns l s.ready.order p.plain.good, short_append (script_lines known ns one) (line_of else_raw_line ∷ script_lines known ns two) first (short_else, second))

-- ---- all lines

-- each line of a script that stands there, and of its certificates
pub short_script : (known : List TitledStatement) (d : TheoremParser) (i : Inside) (script : Script) (given : List Lit) (goal : Goal) → AllFew known → length goal.made ≤ 80 → Stood known d i script given goal → AreShortLines known i script
short_script known d i (Cite b rest) given goal k m s =
    cite_short known d i b rest given goal s (short_script known d (after_step i (Cited b) 1) rest (with_fact given b.lit) goal k m (cite_next known d i b rest given goal s))
short_script known d i (Hence l None rest) given goal k m s = absurd (no_hence known d i l rest given goal s)
short_script known d i (Hence l (Some c) rest) given goal k m s =
    hence_short known d i l c rest given goal s (short_script known d (inferred i l) rest (with_fact given l) goal k m (hence_next known d i l c rest given goal s))
short_script known d i (Make construction names certs rest) given goal k m s =
    make_short known d i construction names certs rest given goal s
    (short_script known d (constructed i construction names) rest (with_facts given (gives_of_construction construction (scope_of_names i.in_scope))) goal k m (make_next known d i construction names certs rest given goal s))
short_script known d i (Apply theorem args names certs rest) given goal k m s =
    let t = theorem_of known theorem in
    apply_short known d i theorem args names certs rest given goal k s
    (short_script known d (applied_after i t theorem args names) rest (with_facts given (gives_of_use t (written_args args) (scope_of_names i.in_scope))) goal k m (apply_next known d i theorem args names certs rest given goal s))
short_script known d i (Claim shown inner rest) given goal k m s =
    let n = i.lines + 1 + size (bare_script inner) in
    claim_short known d i shown inner rest given goal s
    (short_script known d (deep i (kind.Claim shown) 0) inner given (goal_of shown) k (omega arith) (claim_inside known d i shown inner rest given goal s))
    (short_script known d (resume i n (Claimed shown (bare_script inner)) shown) rest (with_facts given shown) goal k m (claim_next known d i n shown inner rest given goal refl s))
short_script known d i (Superposed superposition names shown certs inner rest) given goal k m s =
    let n = i.lines + 1 + size (bare_script inner) in
    copy_short known d i superposition names shown certs inner rest given goal s
    (short_script known d (copied i superposition names shown) inner (with_facts given (superposing.gives_of_superposition superposition (scope_of_names i.in_scope))) (goal_of shown) k (omega arith) (copy_inside known d i superposition names shown certs inner rest given goal s))
    (short_script known d (resume i n (Copied superposition names shown [] (bare_script inner)) shown) rest (with_facts given shown) goal k m (copy_next known d i n superposition names shown certs inner rest given goal refl s))
short_script known d i (Qed os certs) given goal k m s = qed_short known d i os certs given goal s m
short_script known d i (Contradiction None) given goal k m s = absurd (no_contradiction known d i given goal s)
short_script known d i (Contradiction (Some a)) given goal k m s = contradiction_short known d i a given goal s
short_script known d i (Cases l one two) given goal k m s =
    let n = i.lines + 1 + size (bare_script one) in
    cases_short known d i l one two given goal s
    (short_script known d (opens i l) one (with_fact given l) goal k m (cases_one known d i l one two given goal s))
    (short_script known d (second i n l (bare_script one)) two (with_fact given (negation l)) goal k m (cases_two known d i n l one two given goal refl s))
