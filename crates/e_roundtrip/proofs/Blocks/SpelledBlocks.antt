-- The blocks of a proof that are open, and the lines that came of them.
use Rattle.std.proofs.Common.{◌≡◌, ℕ, ◌+◌, true, false, List, [], ◌∷◌, ◌++◌, length, None, Result, Ok, refl, sym, ap, subst, ◌∙◌, append_assoc}
use Rattle.std.proofs.lemmas.List.{append-nil}
use Rattle.e_literal.specs.declared.literal.Lit.{Lit}
use Rattle.e_literal.specs.Literal.{all_in_scope}
use Rattle.e_construct.specs.declared.superpose.Superpose.{Superpose}
use Rattle.e_construct.specs.Superposing as superposing
use Rattle.e_clause.specs.declared.cert.Cert.{Cert}
use Rattle.e_theorem.specs.Statements.{as_view}
use Rattle.e_deriv.specs.declared.names.Names.{Names}
use Rattle.e_deriv.specs.Naming.{with_new_names, declared_names}
use Rattle.e_deriv.specs.Script.{Script, Contradiction}
use Rattle.e_deriv.specs.Goal.{Goal, goal_of, goal_of_statement}
use Rattle.e_deriv.specs.Steps.{are_over}
use Rattle.e_deriv.specs.PlainStep.{PlainStep, Claimed, Copied, all_before}
use Rattle.e_line.specs.declared.fault.FaultKind.{FaultKind}
use Rattle.e_line.specs.declared.fault.What.TheVariants as limits
use Rattle.e_book.specs.declared.blocks.OpenBlock.{OpenBlock}
use Rattle.e_book.specs.declared.blocks.BlockKind.{BlockKind}
use Rattle.e_book.specs.declared.blocks.BlockKind.TheVariants as kind
use Rattle.e_book.specs.declared.steps.CloseLine.{CloseLine}
use Rattle.e_book.specs.declared.steps.CloseLine.TheVariants as closes
use Rattle.e_book.specs.declared.parser.Section.{Section}
use Rattle.e_book.specs.declared.parser.Section.TheVariants.{Proving, Splitting, Closed, Done}
use Rattle.e_book.specs.declared.parser.TheoremParser.{TheoremParser}
use Rattle.e_line.specs.Reading.{◌>>=◌}
use Rattle.e_line.specs.Limits.{within, most_steps, most_facts, monomials}
use Rattle.e_names.specs.Scope.{scope_of_names}
use Rattle.e_names.specs.TitledStatements.{TitledStatement}
use Rattle.e_book.specs.ParserViews.{statement_of_parser, script_of_close}
use Rattle.e_book.specs.TheoremViews.{TheoremView}
use Rattle.e_book.specs.Book.{is_last}
use Rattle.e_book.specs.Steps.{terms_after, counted_from, after_inner_block, closed_inside, parser_after_close, after_close_line}
use Rattle.e_line.specs.Canonical.{line_of}
use Rattle.e_names.specs.Canonical.{claim_raw_line, superpose_raw_line, cases_raw_line, else_raw_line, end_raw_line}
use Rattle.e_line.proofs.base.Bound.{bind_ok, ok_is, read_ok}
use Rattle.e_cert.specs.declared.kept.StepCerts.{StepCerts}
use Rattle.e_cert.specs.declared.kept.StepCerts.TheVariants.{Certs}
use Rattle.e_read.specs.inner.Needs.{shown_inside, shown_around, goal_or}
use Rattle.e_spell.specs.Certificates.{certs_lines}
use Rattle.e_roundtrip.proofs.Formed.FormedLines.{CopyFormed}
use Rattle.e_roundtrip.proofs.Blocks.SpelledSteps.{StepsSaid, ScriptSaid, no_steps, steps_as, script_as, steps_more, steps_closed, claimed_said, copied_said, cases_said}

-- ---- open blocks

-- the lines that open an inner block, the certificates among them, and the names that the block begins with, where the block around
-- it has this goal; and those lines have their form
abbrev pub Opening : List TitledStatement → Goal → Names → BlockKind → List StepCerts → Names → List (List ℕ) → Type 0
Opening known goal ns (kind.Claim shown) ks start ls = (ks ≡ []) × (start ≡ ns) × (ls ≡ line_of (claim_raw_line ns shown) ∷ []) × (are_over (scope_of_names ns) shown ≡ true)
Opening known goal ns (kind.Superpose superposition names shown) ks start ls =
    (cs : List Cert) × (ks ≡ Certs cs ∷ []) × (start ≡ with_new_names ns superposing.sorts_copied names) × (ls ≡ line_of (superpose_raw_line ns superposition names shown) ∷ certs_lines ns cs) × CopyFormed ns superposition names shown cs
Opening known goal ns (kind.First lit) ks start ls = (ks ≡ []) × (start ≡ ns) × (ls ≡ line_of (cases_raw_line ns lit) ∷ []) × (all_in_scope (scope_of_names ns) lit ≡ true)
Opening known goal ns (kind.Second lit first) ks start ls =
    (ms : List (List ℕ)) × ScriptSaid known ns goal first ks ms × (start ≡ ns) × (ls ≡ line_of (cases_raw_line ns lit) ∷ (ms ++ line_of else_raw_line ∷ [])) × (all_in_scope (scope_of_names ns) lit ≡ true)

-- the names that a proof begins with, and its goal
pub record Start : Type 0 where
  pub names : Names
  pub goal : Goal

-- the goal of the block inside these
abbrev pub goal_inside : Start → List OpenBlock → Goal
goal_inside first os = goal_or (shown_around os) first.goal

-- a block inside another: what is said of that one, what opens the block, and its steps
pub record Nested (Around : List StepCerts → List (List ℕ) → Type 0) (known : List TitledStatement) (goal : Goal) (o : OpenBlock) (steps : List PlainStep) (ks : List StepCerts) (ns : Names) (ls : List (List ℕ)) : Type 0 where
  pub kept_around : List StepCerts
  pub kept_opening : List StepCerts
  pub kept_inside : List StepCerts
  pub start : Names
  pub lines_around : List (List ℕ)
  pub lines_opening : List (List ℕ)
  pub lines_inside : List (List ℕ)
  pub around : Around kept_around lines_around
  pub opening : Opening known goal o.in_scope o.kind kept_opening start lines_opening
  pub inside : StepsSaid known start steps kept_inside ns lines_inside
  pub kept : ks ≡ kept_around ++ (kept_opening ++ kept_inside)
  pub lines : ls ≡ lines_around ++ (lines_opening ++ lines_inside)

-- these certificates are kept for the steps so far of the open block and of those around it, and these lines spell them, where the
-- proof begins so
abbrev pub BlocksSaid : List TitledStatement → Start → List OpenBlock → List PlainStep → List StepCerts → Names → List (List ℕ) → Type 0
BlocksSaid known first [] steps ks ns ls = StepsSaid known first.names steps ks ns ls
BlocksSaid known first (o ∷ os) steps ks ns ls = Nested (λ k l. BlocksSaid known first os o.steps k o.in_scope l) known (goal_inside first os) o steps ks ns ls

three : {X : Type 0} (a b c d : List X) → (a ++ (b ++ c)) ++ d ≡ a ++ (b ++ (c ++ d))
three a b c d = append_assoc a (b ++ c) d ∙ ap (λ l. a ++ l) (append_assoc b c d)

-- the same certificates and lines
pub blocks_as : (known : List TitledStatement) (first : Start) (os : List OpenBlock) (steps : List PlainStep) (ks js : List StepCerts) (ns : Names) (ls ms : List (List ℕ)) → ks ≡ js → ls ≡ ms → BlocksSaid known first os steps ks ns ls → BlocksSaid known first os steps js ns ms
blocks_as known first os steps ks js ns ls ms p q s =
    subst (λ (l : List (List ℕ)). BlocksSaid known first os steps js ns l) q (subst (λ (k : List StepCerts). BlocksSaid known first os steps k ns ls) p s)

-- more steps of the open block
pub blocks_more : (known : List TitledStatement) (first : Start) (os : List OpenBlock) (xs ys : List PlainStep) (ks js : List StepCerts) (mid after : Names) (ls ms : List (List ℕ)) → BlocksSaid known first os xs ks mid ls → StepsSaid known mid ys js after ms
    → BlocksSaid known first os (xs ++ ys) (ks ++ js) after (ls ++ ms)
blocks_more known first [] xs ys ks js mid after ls ms a b = steps_more known first.names mid after xs ys ks js ls ms a b
blocks_more known first (o ∷ os) xs ys ks js mid after ls ms a b =
    record {
      kept_around = a.kept_around;
      kept_opening = a.kept_opening;
      kept_inside = a.kept_inside ++ js;
      start = a.start;
      lines_around = a.lines_around;
      lines_opening = a.lines_opening;
      lines_inside = a.lines_inside ++ ms;
      around = a.around;
      opening = a.opening;
      inside = steps_more known a.start mid after xs ys a.kept_inside js a.lines_inside ms a.inside b;
      kept = ap (λ (k : List StepCerts). k ++ js) a.kept ∙ three a.kept_around a.kept_opening a.kept_inside js;
      lines = ap (λ (l : List (List ℕ)). l ++ ms) a.lines ∙ three a.lines_around a.lines_opening a.lines_inside ms;
    }

-- a block inside the open one
pub blocks_open : (known : List TitledStatement) (first : Start) (os : List OpenBlock) (o : OpenBlock) (ks js : List StepCerts) (start : Names) (ls ms : List (List ℕ)) → BlocksSaid known first os o.steps ks o.in_scope ls → Opening known (goal_inside first os) o.in_scope o.kind js start ms
    → BlocksSaid known first (o ∷ os) [] (ks ++ js) start (ls ++ ms)
blocks_open known first os o ks js start ls ms a b =
    record {
      kept_around = ks;
      kept_opening = js;
      kept_inside = [];
      start = start;
      lines_around = ls;
      lines_opening = ms;
      lines_inside = [];
      around = a;
      opening = b;
      inside = no_steps known start;
      kept = ap (λ (k : List StepCerts). ks ++ k) (sym (append-nil js));
      lines = ap (λ (l : List (List ℕ)). ls ++ l) (sym (append-nil ms));
    }

-- ---- what is said of a proof at a place

abbrev pub start_of : TheoremParser → Start
start_of d = let t = as_view (statement_of_parser d) in record { names = declared_names t d.names; goal = goal_of_statement t }

-- at the place of else its line belongs to what is said
abbrev BodyAt : List TitledStatement → Section → Start → List OpenBlock → List PlainStep → Names → CloseLine → List StepCerts → List (List ℕ) → Type 0
BodyAt known Proving first os steps ns close ks ls = BlocksSaid known first os steps ks ns ls
BodyAt known Splitting first os steps ns close ks ls = BlocksSaid known first os steps ks ns (ls ++ line_of else_raw_line ∷ [])
BodyAt known Closed first os steps ns close ks ls = ScriptSaid known first.names first.goal (all_before steps (script_of_close close)) ks ls
BodyAt known Done first os steps ns close ks ls = (ms : List (List ℕ)) × ScriptSaid known first.names first.goal (all_before steps (script_of_close close)) ks ms × (ls ≡ ms ++ line_of end_raw_line ∷ [])
BodyAt known p first os steps ns close ks ls = ⊥

abbrev pub BodySaid : List TitledStatement → Section → TheoremParser → List StepCerts → List (List ℕ) → Type 0
BodySaid known p d ks ls = BodyAt known p (start_of d) d.blocks d.steps d.in_scope d.close ks ls

-- the title, the names and the statement
abbrev pub head_of : TheoremParser → TheoremView
head_of d = record { title = d.title; names = d.names; statement = statement_of_parser d; script = Contradiction None }

-- what a line of the proof leaves: the head as it was, and a body; it is not the last line
pub record Goes (known : List TitledStatement) (d e : TheoremParser) (ks : List StepCerts) (ls : List (List ℕ)) : Type 0 where
  pub head : head_of e ≡ head_of d
  pub body : BodySaid known e.section e ks ls
  pub unfinished : is_last e.section ≡ false

-- ---- blocks are closed

-- a claim or a superposition is a step of the block around it
claim_ends : (known : List TitledStatement) (goal : Goal) (ns start : Names) (shown : List Lit) (inner : Script) (js ks : List StepCerts) (ls ms : List (List ℕ)) → Opening known goal ns (kind.Claim shown) js start ls → ScriptSaid known start (goal_of shown) inner ks ms
    → StepsSaid known ns (Claimed shown inner ∷ []) (js ++ ks) ns (ls ++ ms)
claim_ends known goal ns start shown inner js ks ls ms o s =
    steps_as known ns (Claimed shown inner ∷ []) ks (js ++ ks) ns (line_of (claim_raw_line ns shown) ∷ ms) (ls ++ ms)
    (ap (λ (k : List StepCerts). k ++ ks) (sym o.0)) (ap (λ (l : List (List ℕ)). l ++ ms) (sym o.2))
    (claimed_said known ns shown inner ks ms o.3 (subst (λ (n : Names). ScriptSaid known n (goal_of shown) inner ks ms) o.1 s))

copy_ends : (known : List TitledStatement) (goal : Goal) (ns start : Names) (superposition : Superpose) (names : List (List ℕ)) (shown : List Lit) (inner : Script) (js ks : List StepCerts) (ls ms : List (List ℕ)) → Opening known goal ns (kind.Superpose superposition names shown) js start ls
    → ScriptSaid known start (goal_of shown) inner ks ms → StepsSaid known ns (Copied superposition names shown [] inner ∷ []) (js ++ ks) ns (ls ++ ms)
copy_ends known goal ns start superposition names shown inner js ks ls ms o s =
    steps_as known ns (Copied superposition names shown [] inner ∷ []) (Certs o.0 ∷ ks) (js ++ ks) ns (line_of (superpose_raw_line ns superposition names shown) ∷ (certs_lines ns o.0 ++ ms)) (ls ++ ms)
    (ap (λ (k : List StepCerts). k ++ ks) (sym o.1)) (ap (λ (l : List (List ℕ)). l ++ ms) (sym o.3))
    (copied_said known ns superposition names shown o.0 inner ks ms o.4 (subst (λ (n : Names). ScriptSaid known n (goal_of shown) inner ks ms) o.2 s))

-- after the first block of a split the second one begins
first_ends : (known : List TitledStatement) (goal : Goal) (ns start : Names) (lit : Lit) (inner : Script) (js ks : List StepCerts) (ls ms : List (List ℕ)) → Opening known goal ns (kind.First lit) js start ls → ScriptSaid known start goal inner ks ms
    → Opening known goal ns (kind.Second lit inner) (js ++ ks) ns ((ls ++ ms) ++ line_of else_raw_line ∷ [])
first_ends known goal ns start lit inner js ks ls ms o s =
    (ms, script_as known ns goal inner ks (js ++ ks) ms ms (ap (λ (k : List StepCerts). k ++ ks) (sym o.0)) refl (subst (λ (n : Names). ScriptSaid known n goal inner ks ms) o.1 s), refl, ap (λ (l : List (List ℕ)). (l ++ ms) ++ line_of else_raw_line ∷ []) o.2, o.3)

-- after the second one the split is a close
second_ends : (known : List TitledStatement) (goal : Goal) (ns start : Names) (lit : Lit) (first inner : Script) (js ks : List StepCerts) (ls ms : List (List ℕ)) → Opening known goal ns (kind.Second lit first) js start ls → ScriptSaid known start goal inner ks ms
    → ScriptSaid known ns goal (script_of_close (closes.Cases lit first inner)) (js ++ ks) (ls ++ ms)
second_ends known goal ns start lit first inner js ks ls ms o s =
    let line = line_of (cases_raw_line ns lit) in
    script_as known ns goal (script_of_close (closes.Cases lit first inner)) (js ++ ks) (js ++ ks) (line ∷ (o.0 ++ line_of else_raw_line ∷ ms)) (ls ++ ms) refl
    (sym (ap (λ (l : List (List ℕ)). l ++ ms) o.3 ∙ ap (λ (l : List (List ℕ)). line ∷ l) (append_assoc o.0 (line_of else_raw_line ∷ []) ms)))
    (cases_said known ns goal lit first inner js ks o.0 ms o.4 o.1 (subst (λ (n : Names). ScriptSaid known n goal inner ks ms) o.2 s))

abbrev counted : TheoremParser → ℕ → ℕ → TheoremParser
counted d facts terms = record d { facts = facts; terms = terms }

abbrev resumed_at : TheoremParser → OpenBlock → List OpenBlock → PlainStep → TheoremParser
resumed_at d o os s = record d { steps = o.steps ++ s ∷ []; in_scope = o.in_scope; blocks = os }

-- the block around goes on with a step
resumes : (known : List TitledStatement) (d e : TheoremParser) (o : OpenBlock) (os : List OpenBlock) (shown : List Lit) (s : PlainStep) (ks : List StepCerts) (ls : List (List ℕ)) → d.section ≡ Proving
    → BlocksSaid known (start_of d) os (o.steps ++ s ∷ []) ks o.in_scope ls → after_inner_block d o os shown s ≡ Ok e → Goes known d e ks ls
unfolding after_inner_block counted_from
resumes known d e o os shown s ks ls p b h =
    let x = bind_ok (counted_from d o.facts o.terms shown) (λ x. read_ok (resumed_at x o os s)) e h in
    let few = bind_ok (within (o.facts + length shown) most_facts limits.Facts) (λ few. terms_after o.terms shown >>= λ n. read_ok (counted d (o.facts + length shown) n)) x.0 x.1 in
    let n = bind_ok (terms_after o.terms shown) (λ n. read_ok (counted d (o.facts + length shown) n)) x.0 few.2 in
    let is : resumed_at (counted d (o.facts + length shown) n.0) o os s ≡ e = ap (λ (y : TheoremParser). resumed_at y o os s) (ok_is (counted d (o.facts + length shown) n.0) x.0 n.2) ∙ ok_is (resumed_at x.0 o os s) e x.2 in
    subst (λ (y : TheoremParser). Goes known d y ks ls) is
    (record { head = refl; body = subst (λ (q : Section). BodySaid known q (resumed_at (counted d (o.facts + length shown) n.0) o os s) ks ls) (sym p) b; unfinished = ap is_last p })

-- after the first block of a split
abbrev at_second : TheoremParser → OpenBlock → List OpenBlock → Lit → Script → TheoremParser
at_second d o os lit inner =
    record d { steps = []; in_scope = o.in_scope; facts = o.facts + 1; terms = o.terms + monomials lit.atom; blocks = record o { kind = kind.Second lit inner } ∷ os; section = Splitting }

-- one block is closed, and what the close of the block around it would leave
inside_ends : (known : List TitledStatement) (d e : TheoremParser) (o : OpenBlock) (os : List OpenBlock) (inner : Script) (by : BlockKind) (again : CloseLine → Result TheoremParser FaultKind) (ka ko ki : List StepCerts) (start : Names) (la lo li : List (List ℕ)) → d.section ≡ Proving
    → BlocksSaid known (start_of d) os o.steps ka o.in_scope la → Opening known (goal_inside (start_of d) os) o.in_scope by ko start lo → ScriptSaid known start (goal_or (shown_inside by (shown_around os)) (start_of d).goal) inner ki li
    → ((close : CloseLine) → ScriptSaid known o.in_scope (goal_inside (start_of d) os) (script_of_close close) (ko ++ ki) (lo ++ li) → again close ≡ Ok e → Goes known d e (ka ++ (ko ++ ki)) (la ++ (lo ++ li)))
    → closed_inside d o os inner again by ≡ Ok e → Goes known d e (ka ++ (ko ++ ki)) (la ++ (lo ++ li))
inside_ends known d e o os inner (kind.Claim shown) again ka ko ki start la lo li p a b s more h =
    resumes known d e o os shown (Claimed shown inner) (ka ++ (ko ++ ki)) (la ++ (lo ++ li)) p
    (blocks_more known (start_of d) os o.steps (Claimed shown inner ∷ []) ka (ko ++ ki) o.in_scope o.in_scope la (lo ++ li) a (claim_ends known (goal_inside (start_of d) os) o.in_scope start shown inner ko ki lo li b s)) h
inside_ends known d e o os inner (kind.Superpose superposition names shown) again ka ko ki start la lo li p a b s more h =
    resumes known d e o os shown (Copied superposition names shown [] inner) (ka ++ (ko ++ ki)) (la ++ (lo ++ li)) p
    (blocks_more known (start_of d) os o.steps (Copied superposition names shown [] inner ∷ []) ka (ko ++ ki) o.in_scope o.in_scope la (lo ++ li) a (copy_ends known (goal_inside (start_of d) os) o.in_scope start superposition names shown inner ko ki lo li b s)) h
inside_ends known d e o os inner (kind.First lit) again ka ko ki start la lo li p a b s more h =
    let o' : OpenBlock = record o { kind = kind.Second lit inner } in
    let else_line = line_of else_raw_line ∷ [] in
    let blocks = blocks_open known (start_of d) os o' ka (ko ++ ki) o.in_scope la ((lo ++ li) ++ else_line) a (first_ends known (goal_inside (start_of d) os) o.in_scope start lit inner ko ki lo li b s) in
    subst (λ (y : TheoremParser). Goes known d y (ka ++ (ko ++ ki)) (la ++ (lo ++ li))) (ok_is (at_second d o os lit inner) e h)
    (record { head = refl; body = blocks_as known (start_of d) (o' ∷ os) [] (ka ++ (ko ++ ki)) (ka ++ (ko ++ ki)) o.in_scope (la ++ ((lo ++ li) ++ else_line)) ((la ++ (lo ++ li)) ++ else_line) refl (sym (append_assoc la (lo ++ li) else_line)) blocks; unfinished = refl })
inside_ends known d e o os inner (kind.Second lit first) again ka ko ki start la lo li p a b s more h =
    more (closes.Cases lit first inner) (second_ends known (goal_inside (start_of d) os) o.in_scope start lit first inner ko ki lo li b s) h

abbrev shut_last : TheoremParser → List PlainStep → CloseLine → TheoremParser
shut_last d ss close = record d { steps = ss; blocks = []; close = close; section = Closed }

-- the block with these steps inside these blocks is closed
closed_goes : (known : List TitledStatement) (d e : TheoremParser) (os : List OpenBlock) (ss : List PlainStep) (close : CloseLine) (ks kc : List StepCerts) (ns : Names) (ls lc : List (List ℕ)) → d.section ≡ Proving
    → BlocksSaid known (start_of d) os ss ks ns ls → ScriptSaid known ns (goal_inside (start_of d) os) (script_of_close close) kc lc → parser_after_close d os ss close ≡ Ok e → Goes known d e (ks ++ kc) (ls ++ lc)
unfolding parser_after_close
closed_goes known d e [] ss close ks kc ns ls lc p a s h =
    subst (λ (y : TheoremParser). Goes known d y (ks ++ kc) (ls ++ lc)) (ok_is (shut_last d ss close) e h)
    (record { head = refl; body = steps_closed known (start_of d).names ns (start_of d).goal ss (script_of_close close) ks kc ls lc a s; unfinished = refl })
closed_goes known d e (o ∷ os) ss close ks kc ns ls lc p a s h =
    let inner = steps_closed known a.start ns (goal_inside (start_of d) (o ∷ os)) ss (script_of_close close) a.kept_inside kc a.lines_inside lc a.inside s in
    let goes = inside_ends known d e o os (all_before ss (script_of_close close)) o.kind (λ c. parser_after_close d os o.steps c) a.kept_around a.kept_opening (a.kept_inside ++ kc) a.start a.lines_around a.lines_opening (a.lines_inside ++ lc) p a.around a.opening inner
    (λ c sc hc. closed_goes known d e os o.steps c a.kept_around (a.kept_opening ++ (a.kept_inside ++ kc)) o.in_scope a.lines_around (a.lines_opening ++ (a.lines_inside ++ lc)) p a.around sc hc) h in
    let kept : a.kept_around ++ (a.kept_opening ++ (a.kept_inside ++ kc)) ≡ ks ++ kc = sym (ap (λ (k : List StepCerts). k ++ kc) a.kept ∙ three a.kept_around a.kept_opening a.kept_inside kc) in
    let lines : a.lines_around ++ (a.lines_opening ++ (a.lines_inside ++ lc)) ≡ ls ++ lc = sym (ap (λ (l : List (List ℕ)). l ++ lc) a.lines ∙ three a.lines_around a.lines_opening a.lines_inside lc) in
    subst (λ (l : List (List ℕ)). Goes known d e (ks ++ kc) l) lines (subst (λ (k : List StepCerts). Goes known d e k (a.lines_around ++ (a.lines_opening ++ (a.lines_inside ++ lc)))) kept goes)

-- a close line
pub shut_goes : (known : List TitledStatement) (d e : TheoremParser) (close : CloseLine) (ks kc : List StepCerts) (ls lc : List (List ℕ)) → d.section ≡ Proving → BodySaid known Proving d ks ls → ScriptSaid known d.in_scope (goal_inside (start_of d) d.blocks) (script_of_close close) kc lc
    → after_close_line d close ≡ Ok e → Goes known d e (ks ++ kc) (ls ++ lc)
unfolding after_close_line
shut_goes known d e close ks kc ls lc p a s h =
    let x : TheoremParser = record d { lines = d.lines + 1 } in
    let w = bind_ok (within (d.lines + 1) most_steps limits.Steps) (λ few. parser_after_close x d.blocks d.steps close) e h in
    let g = closed_goes known x e d.blocks d.steps close ks kc d.in_scope ls lc p a s w.2 in
    record { head = g.head; body = g.body; unfinished = g.unfinished }
