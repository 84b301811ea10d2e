-- Each line of a head adds itself to what was said.
use Rattle.std.proofs.Common.{◌≡◌, ℕ, ◌+◌, ◌<◌, true, not, eqb, List, [], ◌∷◌, ◌++◌, length, map, Ok, refl, sym, ap, subst, ◌∙◌, arith, append_assoc}
use Rattle.std.specs.Prelude.{replicate}
use Rattle.std.proofs.lemmas.Bool.{eqb-true, not-true, and_parts}
use Rattle.std.proofs.lemmas.List.{append-nil, map-append}
use Rattle.e_literal.specs.declared.object.Sort.{Sort}
use Rattle.e_literal.specs.declared.literal.Lit.{Lit}
use Rattle.e_deriv.specs.declared.names.Names.{Names}
use Rattle.e_deriv.specs.Naming.{names_of_sort}
use Rattle.e_deriv.specs.PlainStep.{PlainStep}
use Rattle.e_line.specs.declared.fault.What.TheVariants as limits
use Rattle.e_line.specs.declared.literal.RawLit.{RawLit}
use Rattle.e_line.specs.declared.raw_line.RawLine.{RawLine}
use Rattle.e_line.specs.declared.raw_line.RawLine.TheVariants as rawlines
use Rattle.e_book.specs.declared.blocks.OpenBlock.{OpenBlock}
use Rattle.e_book.specs.declared.parser.Section.{Section}
use Rattle.e_book.specs.declared.parser.Section.TheVariants.{Declaring, Giving, Making, Showing, Proving, Splitting, Closed, Done}
use Rattle.e_book.specs.declared.parser.TheoremParser.{TheoremParser}
use Rattle.e_line.specs.Reading.{◌>>=◌, with_front}
use Rattle.e_line.specs.Limits.{most_of, what_of, within, most_facts, most_theorems}
use Rattle.e_names.specs.TitledStatements.{TitledStatement, is_known}
use Rattle.e_names.specs.Scope.{fresh, lit_in, lits_in}
use Rattle.e_line.specs.LineLimits.{check_literal_limits}
use Rattle.e_book.specs.Steps.{line_may_come, with_declared, terms_after_raw, with_terms, after_line, with_title, begin}
use Rattle.e_line.specs.Canonical.{line_of}
use Rattle.e_names.specs.Canonical.{given_raw_line, show_raw_line}
use Rattle.e_book.specs.Canonical.{head_raw_lines, given_raw_lines, shown_raw_lines}
use Rattle.e_book.specs.ParserViews.{statement_of_parser}
use Rattle.e_book.proofs.parsers.Answered.{untaken}
use Rattle.e_line.proofs.base.Bound.{bind_ok, ok_is, read_ok}
use Rattle.e_cert.specs.declared.kept.StepCerts.{StepCerts}
use Rattle.e_line.specs.CanonicalLines.{is_canonical_lit, are_canonical_lits}
use Rattle.e_read.specs.Owing.{ends_with}
use Rattle.e_roundtrip.proofs.OneLine.NamesSpelled.{Keeps, keeps_all}
use Rattle.e_roundtrip.proofs.OneLine.LitsRead.{AllSigned}
use Rattle.e_roundtrip.proofs.OneLine.LitsSpelled.{canonical, lit_named}
use Rattle.e_roundtrip.proofs.Heads.SpelledHeads.{HeadSaid, title_said, declared_said, given_said, made_said, shown_said}
use Rattle.e_roundtrip.proofs.Blocks.SpelledSteps.{no_steps}
use Rattle.e_roundtrip.proofs.Blocks.SpelledBlocks.{Start, BlocksSaid, BodySaid, start_of, head_of}
use Rattle.e_roundtrip.proofs.OneLine.Groups.{with_more}

-- ---- what is said of a theorem at a place

-- what has not come yet
abbrev Empties : Section → List Lit → List Sort → List Lit → Type 0
Empties Declaring given made shown = (given ≡ []) × (made ≡ []) × (shown ≡ [])
Empties Giving given made shown = (made ≡ []) × (shown ≡ [])
Empties Making given made shown = shown ≡ []
Empties p given made shown = Unit {0}

-- a head without a proof
pub record InHead (p : Section) (d : TheoremParser) (ks : List StepCerts) (ls : List (List ℕ)) : Type 0 where
  pub said : List RawLine
  pub head : HeadSaid d.names d.title d.declared d.given d.made d.shown said
  pub lines : ls ≡ map line_of said
  pub kept : ks ≡ []
  pub steps : d.steps ≡ []
  pub blocks : d.blocks ≡ []
  pub empty : Empties p d.given d.made d.shown

-- a head, and a proof after it
pub record InProof (known : List TitledStatement) (p : Section) (d : TheoremParser) (ks : List StepCerts) (ls : List (List ℕ)) : Type 0 where
  pub said : List (List ℕ)
  pub lines : ls ≡ map line_of (head_raw_lines (head_of d)) ++ said
  pub body : BodySaid known p d ks said

-- these certificates are kept for the lines so far, and with them these lines spell what the parser holds
abbrev pub ParserSaid : List TitledStatement → Section → TheoremParser → List StepCerts → List (List ℕ) → Type 0
ParserSaid known Declaring d ks ls = InHead Declaring d ks ls
ParserSaid known Giving d ks ls = InHead Giving d ks ls
ParserSaid known Making d ks ls = InHead Making d ks ls
ParserSaid known Showing d ks ls = InHead Showing d ks ls
ParserSaid known Proving d ks ls = InProof known Proving d ks ls
ParserSaid known Splitting d ks ls = InProof known Splitting d ks ls
ParserSaid known Closed d ks ls = InProof known Closed d ks ls
ParserSaid known Done d ks ls = InProof known Done d ks ls

-- a line that owes nothing is said
abbrev pub Puts : List TitledStatement → TheoremParser → RawLine → List StepCerts → List (List ℕ) → Type 0
Puts known e f ks ls = ParserSaid known e.section e ks (ls ++ line_of f ∷ [])

one_line : (said : List RawLine) (f : RawLine) (ls : List (List ℕ)) → ls ≡ map line_of said → ls ++ line_of f ∷ [] ≡ map line_of (said ++ f ∷ [])
one_line said f ls e = ap (λ (l : List (List ℕ)). l ++ line_of f ∷ []) e ∙ sym (map-append line_of said (f ∷ []))

-- ---- where the lines of a head may come

at_declared : (known : List TitledStatement) (p : Section) (d : TheoremParser) (ks : List StepCerts) (ls : List (List ℕ)) (sort : Sort) (ns : List (List ℕ)) → line_may_come p (rawlines.Declare sort ns) ≡ true → ParserSaid known p d ks ls → (p ≡ Declaring) × InHead Declaring d ks ls
at_declared known Declaring d ks ls sort ns a h = (refl, h)
at_declared known p d ks ls sort ns a h = absurd cc

at_given : (known : List TitledStatement) (p : Section) (d : TheoremParser) (ks : List StepCerts) (ls : List (List ℕ)) (raws : List RawLit) → line_may_come p (rawlines.Given raws) ≡ true → ParserSaid known p d ks ls → InHead Giving d ks ls
at_given known Declaring d ks ls raws a h = record { said = h.said; head = h.head; lines = h.lines; kept = h.kept; steps = h.steps; blocks = h.blocks; empty = (h.empty.1, h.empty.2) }
at_given known Giving d ks ls raws a h = h
at_given known p d ks ls raws a h = absurd cc

at_made : (known : List TitledStatement) (p : Section) (d : TheoremParser) (ks : List StepCerts) (ls : List (List ℕ)) (sort : Sort) (ns : List (List ℕ)) → line_may_come p (rawlines.Made sort ns) ≡ true → ParserSaid known p d ks ls → InHead Making d ks ls
at_made known Declaring d ks ls sort ns a h = record { said = h.said; head = h.head; lines = h.lines; kept = h.kept; steps = h.steps; blocks = h.blocks; empty = h.empty.2 }
at_made known Giving d ks ls sort ns a h = record { said = h.said; head = h.head; lines = h.lines; kept = h.kept; steps = h.steps; blocks = h.blocks; empty = h.empty.1 }
at_made known Making d ks ls sort ns a h = h
at_made known p d ks ls sort ns a h = absurd cc

at_shown : (known : List TitledStatement) (p : Section) (d : TheoremParser) (ks : List StepCerts) (ls : List (List ℕ)) (raws : List RawLit) → line_may_come p (rawlines.Show raws) ≡ true → ParserSaid known p d ks ls → InHead Showing d ks ls
at_shown known Declaring d ks ls raws a h = record { said = h.said; head = h.head; lines = h.lines; kept = h.kept; steps = h.steps; blocks = h.blocks; empty = tt }
at_shown known Giving d ks ls raws a h = record { said = h.said; head = h.head; lines = h.lines; kept = h.kept; steps = h.steps; blocks = h.blocks; empty = tt }
at_shown known Making d ks ls raws a h = record { said = h.said; head = h.head; lines = h.lines; kept = h.kept; steps = h.steps; blocks = h.blocks; empty = tt }
at_shown known Showing d ks ls raws a h = h
at_shown known p d ks ls raws a h = absurd cc

at_proof : (known : List TitledStatement) (p : Section) (d : TheoremParser) (ks : List StepCerts) (ls : List (List ℕ)) → line_may_come p rawlines.Proof ≡ true → ParserSaid known p d ks ls → InHead Showing d ks ls
at_proof known Showing d ks ls a h = h
at_proof known p d ks ls a h = absurd cc

-- ---- objects

names_are : (ns : Names) (sort : Sort) (new : List (List ℕ)) (now : Names) → with_declared ns sort new ≡ Ok now → with_more ns sort new ≡ now
unfolding with_declared
names_are ns sort new now e =
    let f = bind_ok (fresh ns [] new) (λ free. within (length (names_of_sort ns sort) + length new) (most_of sort) (what_of sort) >>= λ few. read_ok (with_more ns sort new)) now e in
    let w = bind_ok (within (length (names_of_sort ns sort) + length new) (most_of sort) (what_of sort)) (λ few. read_ok (with_more ns sort new)) now f.2 in
    ok_is (with_more ns sort new) now w.2

abbrev declaring : TheoremParser → Names → Sort → List (List ℕ) → TheoremParser
declaring d ns sort new = record d { names = ns; declared = d.declared ++ replicate (length new) sort }

pub puts_declared : (known : List TitledStatement) (d e : TheoremParser) (sort : Sort) (new : List (List ℕ)) (ks : List StepCerts) (ls : List (List ℕ)) → line_may_come d.section (rawlines.Declare sort new) ≡ true → ParserSaid known d.section d ks ls → 0 < length new
    → not (ends_with d.declared sort) ≡ true → after_line known d (rawlines.Declare sort new) ≡ Ok e → Puts known e (rawlines.Declare sort new) ks ls
unfolding after_line
puts_declared known d e sort new ks ls a g lt apart h =
    let at = at_declared known d.section d ks ls sort new a g in
    let i = at.1 in
    let n = bind_ok (with_declared d.names sort new) (λ ns. read_ok (declaring d ns sort new)) e h in
    let x : TheoremParser = declaring d (with_more d.names sort new) sort new in
    let is : x ≡ e = ap (λ (ns : Names). declaring d ns sort new) (names_are d.names sort new n.0 n.1) ∙ ok_is (declaring d n.0 sort new) e n.2 in
    let head : InHead Declaring x ks (ls ++ line_of (rawlines.Declare sort new) ∷ []) = record {
      said = i.said ++ rawlines.Declare sort new ∷ [];
      head = declared_said d.names d.title d.declared d.given d.made d.shown i.said sort new i.empty.0 i.empty.1 i.empty.2 (not-true (ends_with d.declared sort) apart) lt i.head;
      lines = one_line i.said (rawlines.Declare sort new) ls i.lines;
      kept = i.kept;
      steps = i.steps;
      blocks = i.blocks;
      empty = i.empty;
    } in
    subst (λ (y : TheoremParser). Puts known y (rawlines.Declare sort new) ks ls) is (subst (λ (p : Section). ParserSaid known p x ks (ls ++ line_of (rawlines.Declare sort new) ∷ [])) (sym at.0) head)

abbrev making : TheoremParser → Names → Sort → List (List ℕ) → TheoremParser
making d ns sort new = record d { names = ns; made = d.made ++ replicate (length new) sort; section = Making }

pub puts_made : (known : List TitledStatement) (d e : TheoremParser) (sort : Sort) (new : List (List ℕ)) (ks : List StepCerts) (ls : List (List ℕ)) → line_may_come d.section (rawlines.Made sort new) ≡ true → ParserSaid known d.section d ks ls → 0 < length new
    → not (ends_with d.made sort) ≡ true → after_line known d (rawlines.Made sort new) ≡ Ok e → Puts known e (rawlines.Made sort new) ks ls
unfolding after_line
puts_made known d e sort new ks ls a g lt apart h =
    let i = at_made known d.section d ks ls sort new a g in
    let n = bind_ok (with_declared d.names sort new) (λ ns. read_ok (making d ns sort new)) e h in
    let x : TheoremParser = making d (with_more d.names sort new) sort new in
    let is : x ≡ e = ap (λ (ns : Names). making d ns sort new) (names_are d.names sort new n.0 n.1) ∙ ok_is (making d n.0 sort new) e n.2 in
    let head : InHead Making x ks (ls ++ line_of (rawlines.Made sort new) ∷ []) = record {
      said = i.said ++ rawlines.Made sort new ∷ [];
      head = made_said d.names d.title d.declared d.given d.made d.shown i.said sort new i.empty (not-true (ends_with d.made sort) apart) lt i.head;
      lines = one_line i.said (rawlines.Made sort new) ls i.lines;
      kept = i.kept;
      steps = i.steps;
      blocks = i.blocks;
      empty = i.empty;
    } in
    subst (λ (y : TheoremParser). Puts known y (rawlines.Made sort new) ks ls) is head

-- ---- literals

-- the one literal of a line
record OneLit (ns : Names) (front : List Lit) (raws : List RawLit) (all : List Lit) : Type 0 where
  raw : RawLit
  lit : Lit
  raws_are : raws ≡ raw ∷ []
  all_are : all ≡ front ++ lit ∷ []
  named : (more : Names) → Keeps ns more → given_raw_line more lit ≡ rawlines.Given raws
  shown : (more : Names) → Keeps ns more → show_raw_line more lit ≡ rawlines.Show raws

one_lit : (ns : Names) (front : List Lit) (raws : List RawLit) (all : List Lit) → (eqb (length raws) 1) ≡ true → are_canonical_lits raws ≡ true → AllSigned raws → with_front front (lits_in ns raws) ≡ Ok all → OneLit ns front raws all
one_lit ns front [] all n d s e = absurd cc
one_lit ns front (r ∷ q ∷ raws) all n d s e = let k : length (r ∷ q ∷ raws) ≡ 1 = eqb-true (length (r ∷ q ∷ raws)) 1 n in absurd (omega (arith, k))
one_lit ns front (r ∷ []) all n d s e =
    let x = bind_ok (lits_in ns (r ∷ [])) (λ xs. read_ok (front ++ xs)) all e in
    let l = bind_ok (lit_in ns r) (λ l. read_ok (l ∷ [])) x.0 x.1 in
    let named : (more : Names) → Keeps ns more → _ = λ more k. lit_named ns more r l.0 k (canonical r (and_parts (is_canonical_lit r) true d).0 s.0) l.1 in
    record {
      raw = r;
      lit = l.0;
      raws_are = refl;
      all_are = sym (ok_is (front ++ x.0) all x.2) ∙ ap (λ (xs : List Lit). front ++ xs) (sym (ok_is (l.0 ∷ []) x.0 l.2));
      named = λ more k. ap (λ (y : RawLit). rawlines.Given (y ∷ [])) (named more k);
      shown = λ more k. ap (λ (y : RawLit). rawlines.Show (y ∷ [])) (named more k);
    }

abbrev giving : TheoremParser → List Lit → ℕ → TheoremParser
giving d ls n = record d { given = ls; facts = d.facts + n; section = Giving }

abbrev with_count : TheoremParser → ℕ → TheoremParser
with_count x n = record x { terms = n }

terms_are : (x e : TheoremParser) (raws : List RawLit) → with_terms x raws ≡ Ok e → (n : ℕ) × (with_count x n ≡ e)
unfolding with_terms
terms_are x e raws w =
    let few = bind_ok (check_literal_limits raws) (λ few. terms_after_raw x.terms raws >>= λ n. read_ok (with_count x n)) e w in
    let n = bind_ok (terms_after_raw x.terms raws) (λ n. read_ok (with_count x n)) e few.2 in
    (n.0, ok_is (with_count x n.0) e n.2)

pub puts_given : (known : List TitledStatement) (d e : TheoremParser) (raws : List RawLit) (ks : List StepCerts) (ls : List (List ℕ)) → line_may_come d.section (rawlines.Given raws) ≡ true → ParserSaid known d.section d ks ls → (eqb (length raws) 1) ≡ true
    → are_canonical_lits raws ≡ true → AllSigned raws → after_line known d (rawlines.Given raws) ≡ Ok e → Puts known e (rawlines.Given raws) ks ls
unfolding after_line
puts_given known d e raws ks ls a g one dir s h =
    let i = at_given known d.section d ks ls raws a g in
    let all = bind_ok (with_front d.given (lits_in d.names raws)) (λ ls. within (d.facts + length raws) most_facts limits.Facts >>= λ few. with_terms (giving d ls (length raws)) raws) e h in
    let few = bind_ok (within (d.facts + length raws) most_facts limits.Facts) (λ few. with_terms (giving d all.0 (length raws)) raws) e all.2 in
    let t = terms_are (giving d all.0 (length raws)) e raws few.2 in
    let o = one_lit d.names d.given raws all.0 one dir s all.1 in
    let x : TheoremParser = with_count (giving d (d.given ++ o.lit ∷ []) (length raws)) t.0 in
    let is : x ≡ e = ap (λ (l : List Lit). with_count (giving d l (length raws)) t.0) (sym o.all_are) ∙ t.1 in
    let head : InHead Giving x ks (ls ++ line_of (rawlines.Given raws) ∷ []) = record {
      said = i.said ++ rawlines.Given raws ∷ [];
      head = given_said d.names d.title d.declared d.given d.made d.shown i.said o.lit (rawlines.Given raws) i.empty.0 i.empty.1 o.named i.head;
      lines = one_line i.said (rawlines.Given raws) ls i.lines;
      kept = i.kept;
      steps = i.steps;
      blocks = i.blocks;
      empty = i.empty;
    } in
    subst (λ (y : TheoremParser). Puts known y (rawlines.Given raws) ks ls) is head

abbrev showing : TheoremParser → List Lit → TheoremParser
showing d ls = record d { shown = ls; section = Showing }

pub puts_shown : (known : List TitledStatement) (d e : TheoremParser) (raws : List RawLit) (ks : List StepCerts) (ls : List (List ℕ)) → line_may_come d.section (rawlines.Show raws) ≡ true → ParserSaid known d.section d ks ls → (eqb (length raws) 1) ≡ true
    → are_canonical_lits raws ≡ true → AllSigned raws → after_line known d (rawlines.Show raws) ≡ Ok e → Puts known e (rawlines.Show raws) ks ls
unfolding after_line
puts_shown known d e raws ks ls a g one dir s h =
    let i = at_shown known d.section d ks ls raws a g in
    let all = bind_ok (with_front d.shown (lits_in d.names raws)) (λ ls. check_literal_limits raws >>= λ few. read_ok (showing d ls)) e h in
    let few = bind_ok (check_literal_limits raws) (λ few. read_ok (showing d all.0)) e all.2 in
    let o = one_lit d.names d.shown raws all.0 one dir s all.1 in
    let x : TheoremParser = showing d (d.shown ++ o.lit ∷ []) in
    let is : x ≡ e = ap (λ (l : List Lit). showing d l) (sym o.all_are) ∙ ok_is (showing d all.0) e few.2 in
    let head : InHead Showing x ks (ls ++ line_of (rawlines.Show raws) ∷ []) = record {
      said = i.said ++ rawlines.Show raws ∷ [];
      head = shown_said d.names d.title d.declared d.given d.made d.shown i.said o.lit (rawlines.Show raws) o.shown i.head;
      lines = one_line i.said (rawlines.Show raws) ls i.lines;
      kept = i.kept;
      steps = i.steps;
      blocks = i.blocks;
      empty = tt;
    } in
    subst (λ (y : TheoremParser). Puts known y (rawlines.Show raws) ks ls) is head

-- ---- the proof begins

none_said : (known : List TitledStatement) (first : Start) (os : List OpenBlock) (ss : List PlainStep) (ks : List StepCerts) → os ≡ [] → ss ≡ [] → ks ≡ [] → BlocksSaid known first os ss ks first.names []
none_said known first os ss ks o s k =
    subst (λ (x : List OpenBlock). BlocksSaid known first x ss ks first.names []) (sym o)
    (subst (λ (x : List PlainStep). BlocksSaid known first [] x ks first.names []) (sym s) (subst (λ (x : List StepCerts). BlocksSaid known first [] [] x first.names []) (sym k) (no_steps known first.names)))

abbrev proving : TheoremParser → TheoremParser
proving d = record d { in_scope = (start_of d).names; section = Proving }

pub puts_proof : (known : List TitledStatement) (d e : TheoremParser) (ks : List StepCerts) (ls : List (List ℕ)) → line_may_come d.section rawlines.Proof ≡ true → ParserSaid known d.section d ks ls → after_line known d rawlines.Proof ≡ Ok e → Puts known e rawlines.Proof ks ls
unfolding after_line
puts_proof known d e ks ls a g h =
    let i = at_proof known d.section d ks ls a g in
    let title = rawlines.Theorem d.title in
    let given = given_raw_lines d.names (statement_of_parser d) in
    let shown = shown_raw_lines d.names (statement_of_parser d) in
    let whole : head_raw_lines (head_of d) ≡ i.said ++ rawlines.Proof ∷ [] =
    ap (λ (l : List RawLine). title ∷ l) (sym (append_assoc given shown (rawlines.Proof ∷ []))) ∙ ap (λ (l : List RawLine). l ++ rawlines.Proof ∷ []) (i.head.forms d.names (keeps_all d.names)) in
    subst (λ (y : TheoremParser). Puts known y rawlines.Proof ks ls) (ok_is (proving d) e h)
    (record {
      said = [];
      lines = one_line i.said rawlines.Proof ls i.lines ∙ ap (map line_of) (sym whole) ∙ sym (append-nil (map line_of (head_raw_lines (head_of d))));
      body = none_said known (start_of d) d.blocks d.steps ks i.blocks i.steps i.kept;
    })

-- ---- the first line

pub puts_begun : (known : List TitledStatement) (e : TheoremParser) (f : RawLine) → begin known f ≡ Ok e → Puts known e f [] []
unfolding begin
puts_begun known e (rawlines.Theorem t) h =
    let n = untaken (is_known known t) (within (length known + 1) most_theorems limits.Theorems >>= λ few. read_ok (with_title t)) e h in
    let w = bind_ok (within (length known + 1) most_theorems limits.Theorems) (λ few. read_ok (with_title t)) e n.1 in
    subst (λ (y : TheoremParser). Puts known y (rawlines.Theorem t) [] []) (ok_is (with_title t) e w.2)
    (record {
      said = rawlines.Theorem t ∷ [];
      head = title_said (with_title t).names t refl;
      lines = refl;
      kept = refl;
      steps = refl;
      blocks = refl;
      empty = (refl, refl, refl);
    })
puts_begun known e f h = absurd cc
