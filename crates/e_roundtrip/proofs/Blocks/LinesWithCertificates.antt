-- Each line of a theorem adds itself to what was said, and what it owes is said after it.
use Rattle.std.proofs.Common.{◌≡◌, ℕ, pos, true, false, eqb, List, [], ◌∷◌, ◌++◌, length, map, Option, Some, None, Ok, refl, sym, ap, subst, ◌∙◌, arith, append_assoc}
use Rattle.std.specs.Option.{option_to_list}
use Rattle.std.proofs.lemmas.List.{append-nil}
use Rattle.std.proofs.lemmas.Bool.{and_parts}
use Rattle.e_literal.specs.declared.object.Scope.{Scope}
use Rattle.e_literal.specs.declared.literal.Lit.{Lit}
use Rattle.e_construct.specs.Construct.{needs_of_construction}
use Rattle.e_construct.specs.Superposing as superposing
use Rattle.e_deriv.specs.declared.names.Names.{Names}
use Rattle.e_line.specs.declared.literal.RawLit.{RawLit}
use Rattle.e_line.specs.declared.lets.RawLet.{RawLet}
use Rattle.e_line.specs.declared.applies.RawApply.{RawApply}
use Rattle.e_line.specs.declared.superposes.RawSuperpose.{RawSuperpose}
use Rattle.e_line.specs.declared.raw_line.RawLine.{RawLine}
use Rattle.e_line.specs.declared.raw_line.RawLine.TheVariants as rawlines
use Rattle.e_book.specs.declared.parser.Section.{Section}
use Rattle.e_book.specs.declared.parser.Section.TheVariants.{Declaring, Giving, Making, Showing, Proving, Splitting, Closed, Done}
use Rattle.e_book.specs.declared.parser.TheoremParser.{TheoremParser}
use Rattle.e_names.specs.TitledStatements.{TitledStatement}
use Rattle.e_book.specs.TheoremViews.{TheoremView}
use Rattle.e_clause.specs.declared.cert.Sums.TheVariants.{One}
use Rattle.e_clause.specs.declared.cert.RowName.TheVariants.{Goal}
use Rattle.e_clause.specs.declared.cert.Part.TheVariants.{Fact as FactPart}
use Rattle.e_clause.specs.declared.cert.Cert.{Cert}
use Rattle.e_clause.specs.declared.cert.Cert.TheVariants.{Plain}
use Rattle.e_clause.specs.declared.cert.Against.TheVariants as against
use Rattle.e_names.specs.Scope.{scope_of_names, lit_in, let_in}
use Rattle.e_names.specs.Superposes.{superpose_in}
use Rattle.e_book.specs.Book.{is_last}
use Rattle.e_book.specs.Steps.{line_may_come, after_line, step}
use Rattle.e_line.specs.Canonical.{line_of}
use Rattle.e_book.specs.Canonical.{head_raw_lines}
use Rattle.e_book.proofs.parsers.Answered.{passes}
use Rattle.e_line.proofs.base.Bound.{bind_ok, ok_is, read_ok}
use Rattle.e_book.proofs.parsers.ParserInvariants.{no_title}
use Rattle.e_cert.specs.declared.owed.Obligation.{Obligation}
use Rattle.e_cert.specs.declared.owed.Obligation.TheVariants as due
use Rattle.e_cert.specs.declared.kept.StepCerts.{StepCerts}
use Rattle.e_cert.specs.declared.kept.StepCerts.TheVariants as kept
use Rattle.e_line.specs.CanonicalLines.{are_canonical_lits, is_canonical_form}
use Rattle.e_read.specs.inner.Strict.{is_apart}
use Rattle.e_read.specs.inner.Needs.{one_each, needs_of_raw_apply, needs_at_qed, due_of}
use Rattle.e_roundtrip.specs.Formed.{certs_formed}
use Rattle.e_roundtrip.proofs.Certificates.FormsOfOwedCertificates.{DueFormed, KeptIsFormed}
use Rattle.e_roundtrip.proofs.OneLine.RawLinesRead.{Read}
use Rattle.e_roundtrip.proofs.Certificates.OwedSpelled.{owed_text, kept_text, due_at_first, FitsDue}
use Rattle.e_roundtrip.proofs.Blocks.SpelledBlocks.{BodySaid, head_of}
use Rattle.e_roundtrip.proofs.Blocks.LinesOfProofs.{Takes, takes_by, takes_hence, takes_let, takes_apply, takes_claim, takes_superpose, takes_cases, takes_else, takes_qed, takes_contradiction}
use Rattle.e_roundtrip.proofs.Heads.HeadTaken.{InProof, ParserSaid, Puts, puts_declared, puts_made, puts_given, puts_shown, puts_proof}

-- ---- what a line leaves

-- whatever is kept for it that has the form of what it owes, it and that are said; and the last line owes nothing
pub record Leaves (known : List TitledStatement) (d e : TheoremParser) (f : RawLine) (owes : Obligation) (ks : List StepCerts) (ls : List (List ℕ)) : Type 0 where
  pub said : (k : Option StepCerts) → KeptIsFormed (scope_of_names d.in_scope) (due_at_first owes) k → ParserSaid known e.section e (ks ++ option_to_list k) ((ls ++ line_of f ∷ []) ++ kept_text d.in_scope k)
  pub last : is_last e.section ≡ true → owes ≡ due.Nothing

-- a line that owes nothing
pub nothing_left : (known : List TitledStatement) (d e : TheoremParser) (f : RawLine) (ks : List StepCerts) (ls : List (List ℕ)) → Puts known e f ks ls → Leaves known d e f due.Nothing ks ls
nothing_left known d e f ks ls h = record { said = λ k a. by_kept k a; last = λ l. refl } where
  by_kept : (k : Option StepCerts) → KeptIsFormed (scope_of_names d.in_scope) due.Nothing k → ParserSaid known e.section e (ks ++ option_to_list k) ((ls ++ line_of f ∷ []) ++ kept_text d.in_scope k)
  by_kept None a =
      subst (λ (l : List (List ℕ)). ParserSaid known e.section e (ks ++ []) l) (sym (append-nil (ls ++ line_of f ∷ [])))
      (subst (λ (k : List StepCerts). ParserSaid known e.section e k (ls ++ line_of f ∷ [])) (sym (append-nil ks)) h)
  by_kept (Some k) a = absurd a

-- the line of a head owes nothing
pub head_left : (known : List TitledStatement) (d e : TheoremParser) (f : RawLine) (owes : Obligation) (ks : List StepCerts) (ls : List (List ℕ)) → read_ok due.Nothing ≡ Ok owes → Puts known e f ks ls → Leaves known d e f owes ks ls
head_left known d e f owes ks ls o h = subst (λ (x : Obligation). Leaves known d e f x ks ls) (ok_is due.Nothing owes o) (nothing_left known d e f ks ls h)

in_proof : (known : List TitledStatement) (p : Section) (e : TheoremParser) (ks : List StepCerts) (ls said : List (List ℕ)) → ls ≡ map line_of (head_raw_lines (head_of e)) ++ said → BodySaid known p e ks said → ParserSaid known p e ks ls
in_proof known Declaring e ks ls said h b = absurd b
in_proof known Giving e ks ls said h b = absurd b
in_proof known Making e ks ls said h b = absurd b
in_proof known Showing e ks ls said h b = absurd b
in_proof known Proving e ks ls said h b = record { said = said; lines = h; body = b }
in_proof known Splitting e ks ls said h b = record { said = said; lines = h; body = b }
in_proof known Closed e ks ls said h b = record { said = said; lines = h; body = b }
in_proof known Done e ks ls said h b = record { said = said; lines = h; body = b }

after_head : (head said line more : List (List ℕ)) → ((head ++ said) ++ line) ++ more ≡ head ++ ((said ++ line) ++ more)
after_head head said line more = ap (λ (l : List (List ℕ)). l ++ more) (append_assoc head said line) ∙ append_assoc head (said ++ line) more

-- something can be kept for whatever is owed
abbrev by_facts : List Lit → List Cert
by_facts ls = map (λ (l : Lit). Plain FactPart) ls

facts_formed : (s : Scope) (ls : List Lit) → certs_formed s ls (by_facts ls) ≡ true
facts_formed s [] = refl
facts_formed s (l ∷ ls) = facts_formed s ls

some_answer : (s : Scope) (owes : Obligation) → (k : Option StepCerts) × KeptIsFormed s (due_at_first owes) k
some_answer s due.Nothing = (None, tt)
some_answer s (due.Literals wanted cs t) = (Some (kept.Certs (by_facts wanted)), facts_formed s wanted)
some_answer s (due.Contradiction a) = (Some (kept.Against (against.Metric (record { sums = One ((pos 1, Goal) ∷ []) }))), refl)

-- the line of a proof
proof_left : (known : List TitledStatement) (d e : TheoremParser) (f : RawLine) (owes : Obligation) (p : Section) (ks : List StepCerts) (ls : List (List ℕ)) (i : InProof known p d ks ls) → Takes known d e f owes ks i.said → Leaves known d e f owes ks ls
proof_left known d e f owes p ks ls i t =
    let one = some_answer (scope_of_names d.in_scope) owes in
    record {
      said = λ k a.
          let g = t k a in
          let head = map line_of (head_raw_lines (head_of d)) in
          let text = kept_text d.in_scope k in
          in_proof known e.section e (ks ++ option_to_list k) ((ls ++ line_of f ∷ []) ++ text) ((i.said ++ line_of f ∷ []) ++ text)
          (ap (λ (l : List (List ℕ)). (l ++ line_of f ∷ []) ++ text) i.lines ∙ after_head head i.said (line_of f ∷ []) text
          ∙ ap (λ (x : TheoremView). map line_of (head_raw_lines x) ++ ((i.said ++ line_of f ∷ []) ++ text)) (sym g.head)) g.body;
      last = λ l. absurd (no_last (sym (t one.0 one.1).unfinished ∙ l));
    }
  where
    no_last : false ≡ true → ⊥
    no_last e = absurd cc

-- ---- where the lines of a proof may come

abbrev Inside : List TitledStatement → Section → TheoremParser → List StepCerts → List (List ℕ) → Type 0
Inside known p d ks ls = (p ≡ Proving) × InProof known Proving d ks ls

at_by : (known : List TitledStatement) (p : Section) (d : TheoremParser) (ks : List StepCerts) (ls : List (List ℕ)) (r : List ℕ) (ns : List (List ℕ)) (l : RawLit) → line_may_come p (rawlines.By r ns l) ≡ true → ParserSaid known p d ks ls → Inside known p d ks ls
at_by known Proving d ks ls r ns l a h = (refl, h)
at_by known p d ks ls r ns l a h = absurd cc

at_hence : (known : List TitledStatement) (p : Section) (d : TheoremParser) (ks : List StepCerts) (ls : List (List ℕ)) (l : RawLit) → line_may_come p (rawlines.Hence l) ≡ true → ParserSaid known p d ks ls → Inside known p d ks ls
at_hence known Proving d ks ls l a h = (refl, h)
at_hence known p d ks ls l a h = absurd cc

at_let : (known : List TitledStatement) (p : Section) (d : TheoremParser) (ks : List StepCerts) (ls : List (List ℕ)) (l : RawLet) → line_may_come p (rawlines.Let l) ≡ true → ParserSaid known p d ks ls → Inside known p d ks ls
at_let known Proving d ks ls l a h = (refl, h)
at_let known p d ks ls l a h = absurd cc

at_apply : (known : List TitledStatement) (p : Section) (d : TheoremParser) (ks : List StepCerts) (ls : List (List ℕ)) (raw : RawApply) → line_may_come p (rawlines.Apply raw) ≡ true → ParserSaid known p d ks ls → Inside known p d ks ls
at_apply known Proving d ks ls raw a h = (refl, h)
at_apply known p d ks ls raw a h = absurd cc

at_claim : (known : List TitledStatement) (p : Section) (d : TheoremParser) (ks : List StepCerts) (ls : List (List ℕ)) (raws : List RawLit) → line_may_come p (rawlines.Claim raws) ≡ true → ParserSaid known p d ks ls → Inside known p d ks ls
at_claim known Proving d ks ls raws a h = (refl, h)
at_claim known p d ks ls raws a h = absurd cc

at_superpose : (known : List TitledStatement) (p : Section) (d : TheoremParser) (ks : List StepCerts) (ls : List (List ℕ)) (raw : RawSuperpose) → line_may_come p (rawlines.Superpose raw) ≡ true → ParserSaid known p d ks ls → Inside known p d ks ls
at_superpose known Proving d ks ls raw a h = (refl, h)
at_superpose known p d ks ls raw a h = absurd cc

at_cases : (known : List TitledStatement) (p : Section) (d : TheoremParser) (ks : List StepCerts) (ls : List (List ℕ)) (l : RawLit) → line_may_come p (rawlines.Cases l) ≡ true → ParserSaid known p d ks ls → Inside known p d ks ls
at_cases known Proving d ks ls l a h = (refl, h)
at_cases known p d ks ls l a h = absurd cc

at_qed : (known : List TitledStatement) (p : Section) (d : TheoremParser) (ks : List StepCerts) (ls : List (List ℕ)) (ns : List (List ℕ)) → line_may_come p (rawlines.Qed ns) ≡ true → ParserSaid known p d ks ls → Inside known p d ks ls
at_qed known Proving d ks ls ns a h = (refl, h)
at_qed known p d ks ls ns a h = absurd cc

at_contradiction : (known : List TitledStatement) (p : Section) (d : TheoremParser) (ks : List StepCerts) (ls : List (List ℕ)) → line_may_come p rawlines.Contradiction ≡ true → ParserSaid known p d ks ls → Inside known p d ks ls
at_contradiction known Proving d ks ls a h = (refl, h)
at_contradiction known p d ks ls a h = absurd cc

at_else : (known : List TitledStatement) (p : Section) (d : TheoremParser) (ks : List StepCerts) (ls : List (List ℕ)) → line_may_come p rawlines.Else ≡ true → ParserSaid known p d ks ls → InProof known Splitting d ks ls
at_else known Splitting d ks ls a h = h
at_else known p d ks ls a h = absurd cc

at_end : (known : List TitledStatement) (p : Section) (d : TheoremParser) (ks : List StepCerts) (ls : List (List ℕ)) → line_may_come p rawlines.End ≡ true → ParserSaid known p d ks ls → InProof known Closed d ks ls
at_end known Closed d ks ls a h = h
at_end known p d ks ls a h = absurd cc

-- ---- every line

abbrev at_place : TheoremParser → Section → TheoremParser
at_place d p = record d { section = p }

-- the last line of a theorem
puts_end : (known : List TitledStatement) (d e : TheoremParser) (ks : List StepCerts) (ls : List (List ℕ)) → InProof known Closed d ks ls → after_line known d rawlines.End ≡ Ok e → Puts known e rawlines.End ks ls
unfolding after_line
puts_end known d e ks ls i h =
    subst (λ (y : TheoremParser). Puts known y rawlines.End ks ls) (ok_is (at_place d Done) e h)
    (record {
      said = i.said ++ line_of rawlines.End ∷ [];
      lines = ap (λ (l : List (List ℕ)). l ++ line_of rawlines.End ∷ []) i.lines ∙ append_assoc (map line_of (head_raw_lines (head_of d))) i.said (line_of rawlines.End ∷ []);
      body = (i.said, i.body, refl);
    })

pub line_left : (known : List TitledStatement) (d e : TheoremParser) (f : RawLine) (owes : Obligation) (ks : List StepCerts) (ls : List (List ℕ)) → ParserSaid known d.section d ks ls → Read f → is_canonical_form f ≡ true → is_apart d f ≡ true
    → due_of known d f ≡ Ok owes → line_may_come d.section f ≡ true → after_line known d f ≡ Ok e → Leaves known d e f owes ks ls
unfolding due_of
line_left known d e (rawlines.Theorem t) owes ks ls g r s n o a h = absurd (no_title known d e t h)
line_left known d e (rawlines.Declare sort ns) owes ks ls g r s n o a h = head_left known d e (rawlines.Declare sort ns) owes ks ls o (puts_declared known d e sort ns ks ls a g r n h)
line_left known d e (rawlines.Given raws) owes ks ls g r s n o a h =
    let b = and_parts (eqb (length raws) 1) (are_canonical_lits raws) s in
    head_left known d e (rawlines.Given raws) owes ks ls o (puts_given known d e raws ks ls a g b.0 b.1 r h)
line_left known d e (rawlines.Made sort ns) owes ks ls g r s n o a h = head_left known d e (rawlines.Made sort ns) owes ks ls o (puts_made known d e sort ns ks ls a g r n h)
line_left known d e (rawlines.Show raws) owes ks ls g r s n o a h =
    let b = and_parts (eqb (length raws) 1) (are_canonical_lits raws) s in
    head_left known d e (rawlines.Show raws) owes ks ls o (puts_shown known d e raws ks ls a g b.0 b.1 r h)
line_left known d e rawlines.Proof owes ks ls g r s n o a h = head_left known d e rawlines.Proof owes ks ls o (puts_proof known d e ks ls a g h)
line_left known d e (rawlines.By rule ns l) owes ks ls g r s n o a h =
    let i = at_by known d.section d ks ls rule ns l a g in
    proof_left known d e (rawlines.By rule ns l) owes Proving ks ls i.1 (takes_by known d e rule ns l owes ks i.1.said i.0 i.1.body r o h)
line_left known d e (rawlines.Hence l) owes ks ls g r s n o a h =
    let i = at_hence known d.section d ks ls l a g in
    proof_left known d e (rawlines.Hence l) owes Proving ks ls i.1 (takes_hence known d e l owes ks i.1.said i.0 i.1.body s r o h)
line_left known d e (rawlines.Let l) owes ks ls g r s n o a h =
    let i = at_let known d.section d ks ls l a g in
    proof_left known d e (rawlines.Let l) owes Proving ks ls i.1 (takes_let known d e l owes ks i.1.said i.0 i.1.body r o h)
line_left known d e (rawlines.Apply raw) owes ks ls g r s n o a h =
    let i = at_apply known d.section d ks ls raw a g in
    proof_left known d e (rawlines.Apply raw) owes Proving ks ls i.1 (takes_apply known d e raw owes ks i.1.said i.0 i.1.body o h)
line_left known d e (rawlines.Qed ns) owes ks ls g r s n o a h =
    let i = at_qed known d.section d ks ls ns a g in
    proof_left known d e (rawlines.Qed ns) owes Proving ks ls i.1 (takes_qed known d e ns owes ks i.1.said i.0 i.1.body o h)
line_left known d e rawlines.Contradiction owes ks ls g r s n o a h =
    let i = at_contradiction known d.section d ks ls a g in
    proof_left known d e rawlines.Contradiction owes Proving ks ls i.1 (takes_contradiction known d e owes ks i.1.said i.0 i.1.body o h)
line_left known d e (rawlines.Claim raws) owes ks ls g r s n o a h =
    let i = at_claim known d.section d ks ls raws a g in
    proof_left known d e (rawlines.Claim raws) owes Proving ks ls i.1 (takes_claim known d e raws owes ks i.1.said i.0 i.1.body s r o h)
line_left known d e (rawlines.Superpose raw) owes ks ls g r s n o a h =
    let i = at_superpose known d.section d ks ls raw a g in
    proof_left known d e (rawlines.Superpose raw) owes Proving ks ls i.1 (takes_superpose known d e raw owes ks i.1.said r.1 i.0 i.1.body s r.0 o h)
line_left known d e (rawlines.Cases l) owes ks ls g r s n o a h =
    let i = at_cases known d.section d ks ls l a g in
    proof_left known d e (rawlines.Cases l) owes Proving ks ls i.1 (takes_cases known d e l owes ks i.1.said i.0 i.1.body s r o h)
line_left known d e rawlines.Else owes ks ls g r s n o a h =
    let i = at_else known d.section d ks ls a g in
    proof_left known d e rawlines.Else owes Splitting ks ls i (takes_else known d e owes ks i.said i.body o h)
line_left known d e rawlines.End owes ks ls g r s n o a h = head_left known d e rawlines.End owes ks ls o (puts_end known d e ks ls (at_end known d.section d ks ls a g) h)

-- a line at its place
pub step_left : (known : List TitledStatement) (d e : TheoremParser) (f : RawLine) (owes : Obligation) (ks : List StepCerts) (ls : List (List ℕ)) → ParserSaid known d.section d ks ls → Read f → is_canonical_form f ≡ true → is_apart d f ≡ true
    → due_of known d f ≡ Ok owes → step known d f ≡ Ok e → Leaves known d e f owes ks ls
unfolding step
step_left known d e f owes ks ls g r s n o h = let p = passes (line_may_come d.section f) (after_line known d f) e h in line_left known d e f owes ks ls g r s n o p.0 p.1

-- ---- what a line owes at first

-- no line of a certificate has come
pub record AtFirst (ns : Names) (owes : Obligation) : Type 0 where
  pub none : owed_text (record { names = ns; due = owes; sums = None }) ≡ []
  pub fits : FitsDue owes
  pub formed : DueFormed (scope_of_names ns) owes

nothing_at_first : (ns : Names) (owes : Obligation) → read_ok due.Nothing ≡ Ok owes → AtFirst ns owes
nothing_at_first ns owes o = subst (λ (x : Obligation). AtFirst ns x) (ok_is due.Nothing owes o) (record { none = refl; fits = tt; formed = tt })

each_at_first : (ns : Names) (wanted : List Lit) (owes : Obligation) → read_ok (one_each wanted) ≡ Ok owes → AtFirst ns owes
each_at_first ns wanted owes o = subst (λ (x : Obligation). AtFirst ns x) (ok_is (one_each wanted) owes o) (record { none = refl; fits = omega arith; formed = refl })

pub due_at_start : (known : List TitledStatement) (d : TheoremParser) (f : RawLine) (owes : Obligation) (ns : Names) → due_of known d f ≡ Ok owes → AtFirst ns owes
unfolding due_of
due_at_start known d (rawlines.Hence raw) owes ns o = let w = bind_ok (lit_in d.in_scope raw) (λ l. read_ok (one_each (l ∷ []))) owes o in each_at_first ns (w.0 ∷ []) owes w.2
due_at_start known d (rawlines.Let raw) owes ns o = let w = bind_ok (let_in d.in_scope raw) (λ construction. read_ok (one_each (needs_of_construction construction))) owes o in each_at_first ns (needs_of_construction w.0) owes w.2
due_at_start known d (rawlines.Apply raw) owes ns o = let w = bind_ok (needs_of_raw_apply known d raw) (λ ls. read_ok (one_each ls)) owes o in each_at_first ns w.0 owes w.2
due_at_start known d (rawlines.Superpose raw) owes ns o =
    let w = bind_ok (superpose_in d.in_scope raw) (λ p. read_ok (one_each (superposing.needs_of_superposition p.0))) owes o in each_at_first ns (superposing.needs_of_superposition w.0.0) owes w.2
due_at_start known d (rawlines.Qed names) owes ns o = let w = bind_ok (needs_at_qed d names) (λ ls. read_ok (one_each ls)) owes o in each_at_first ns w.0 owes w.2
due_at_start known d rawlines.Contradiction owes ns o = subst (λ (x : Obligation). AtFirst ns x) (ok_is (due.Contradiction None) owes o) (record { none = refl; fits = tt; formed = tt })
due_at_start known d f owes ns o = nothing_at_first ns owes o
