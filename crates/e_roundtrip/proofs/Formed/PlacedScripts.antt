-- Where a script with its certificates stands, and what leads after its lines.
use Rattle.std.proofs.Common.{◌≡◌, ℕ, ◌+◌, Bool, true, false, ◌&&◌, List, ◌∷◌, ◌++◌, map, Option, Ok, sym, ◌∙◌}
use Rattle.std.specs.Option.{option_to_list}
use Rattle.std.specs.List.{list_all}
use Rattle.std.proofs.lemmas.List.Folds.{list_all-append}
use Rattle.std.proofs.lemmas.Bool.{and_parts}
use Rattle.e_text.specs.Tokens.{joined_words}
use Rattle.e_literal.specs.declared.literal.Lit.{Lit}
use Rattle.e_literal.specs.Use.{StatementView}
use Rattle.e_clause.specs.Certify.{certify_all}
use Rattle.e_deriv.specs.Script.{Script, size, bare_script}
use Rattle.e_deriv.specs.Goal.{Goal}
use Rattle.e_deriv.specs.PlacedSteps.{PlacedStep, placed_steps}
use Rattle.e_deriv.specs.Steps.{fits, needs}
use Rattle.e_deriv.specs.Certified.{certs_of, other_checks, is_certified}
use Rattle.e_line.specs.declared.raw_line.RawLine.{RawLine}
use Rattle.e_book.specs.declared.parser.TheoremParser.{TheoremParser}
use Rattle.e_names.specs.TitledStatements.{TitledStatement, stated_by}
use Rattle.e_names.specs.Scope.{scope_of_names}
use Rattle.e_book.specs.Steps.{parser_after_close, step}
use Rattle.e_book.specs.Book.{is_done}
use Rattle.e_line.specs.Canonical.{line_of}
use Rattle.e_line.proofs.read_again.Respelled.{GoodForm, as_read}
use Rattle.e_book.proofs.canonical.LinesRead.{Inside, proving}
use Rattle.e_book.proofs.canonical.ScriptParts.{steps_of, close_of}
use Rattle.e_book.proofs.canonical.ScriptRead.{Ready}
use Rattle.e_cert.specs.declared.owed.Obligation.{Obligation}
use Rattle.e_cert.specs.declared.kept.StepCerts.{StepCerts}
use Rattle.e_line.specs.CanonicalLines.{is_canonical_form}
use Rattle.e_read.specs.inner.Strict.{is_apart}
use Rattle.e_read.specs.inner.Needs.{open_goal, due_of}
use Rattle.e_spell.specs.Spelling.{script_lines}
use Rattle.e_roundtrip.specs.Formed.{certs_formed, formed_beside, is_formed}
use Rattle.e_roundtrip.proofs.Blocks.FilledBack.{kepts}
use Rattle.e_roundtrip.proofs.Certificates.CertsPut.{Keeps}
use Rattle.e_roundtrip.proofs.Blocks.LinesTaken.{Along, along_append, step_along}

-- ---- where its first line comes

-- its plain script is ready, the goal is that of the open block, and the certificates of each line have their form
pub record Stood (known : List TitledStatement) (d : TheoremParser) (i : Inside) (script : Script) (given : List Lit) (goal : Goal) : Type 0 where
  pub ready : Ready known d i (bare_script script) given goal
  pub goal_is : open_goal (proving d i) ≡ goal
  pub formed : list_all (is_formed (stated_by known)) (placed_steps (stated_by known) script script (scope_of_names i.in_scope) given goal) ≡ true

pub first_of : {A : Type 0} (p : A → Bool) (x : A) (xs : List A) → list_all p (x ∷ xs) ≡ true → (p x ≡ true) × (list_all p xs ≡ true)
first_of p x xs h = and_parts (p x) (list_all p xs) h

pub both_of : {A : Type 0} (p : A → Bool) (xs ys : List A) → list_all p (xs ++ ys) ≡ true → (list_all p xs ≡ true) × (list_all p ys ≡ true)
both_of p xs ys h = and_parts (list_all p xs) (list_all p ys) (sym (list_all-append p xs ys) ∙ h)

-- what is known of one line
pub record OneCertified (before : List StatementView) (x : PlacedStep) : Type 0 where
  pub fitting : fits before x ≡ true
  pub certs : certify_all x.scope x.facts (needs before x) (certs_of x.here) ≡ true
  pub beside : other_checks x.here x.scope x.facts ≡ true

pub one_certified : (before : List StatementView) (x : PlacedStep) → is_certified before x ≡ true → OneCertified before x
one_certified before x h =
    let a = and_parts (fits before x) (certify_all x.scope x.facts (needs before x) (certs_of x.here) && other_checks x.here x.scope x.facts) h in
    let b = and_parts (certify_all x.scope x.facts (needs before x) (certs_of x.here)) (other_checks x.here x.scope x.facts) a.1 in
    record { fitting = a.0; certs = b.0; beside = b.1 }

-- what is known of the form of one line
pub record OneFormed (before : List StatementView) (x : PlacedStep) : Type 0 where
  pub fitting : fits before x ≡ true
  pub certs : certs_formed x.scope (needs before x) (certs_of x.here) ≡ true
  pub beside : formed_beside x.here x.scope ≡ true

pub one_formed : (before : List StatementView) (x : PlacedStep) → is_formed before x ≡ true → OneFormed before x
one_formed before x h =
    let a = and_parts (fits before x) (certs_formed x.scope (needs before x) (certs_of x.here) && formed_beside x.here x.scope) h in
    let b = and_parts (certs_formed x.scope (needs before x) (certs_of x.here)) (formed_beside x.here x.scope) a.1 in
    record { fitting = a.0; certs = b.0; beside = b.1 }

-- ---- what its lines lead to

-- its lines with their certificates are taken, up to the line that closes its block, and what closing the block leaves
pub record Spelled (known : List TitledStatement) (d : TheoremParser) (i : Inside) (script : Script) : Type 0 where
  pub last : Inside
  pub lines : last.lines ≡ i.lines + size (bare_script script)
  pub along : (e : TheoremParser) → parser_after_close (proving d last) i.blocks (i.steps ++ steps_of (bare_script script)) (close_of (bare_script script)) ≡ Ok e → is_done e ≡ false
      → Along known (proving d i) (script_lines known i.in_scope script) e (kepts script)

-- ---- one line

-- a line of the script that is taken where this parser has come, with its certificates
pub record Goes (known : List TitledStatement) (d e : TheoremParser) (f : RawLine) (owed : Obligation) (certs : List (List (List ℕ))) (k : Option StepCerts) : Type 0 where
  pub good : GoodForm f
  pub strict : is_canonical_form (as_read f) ≡ true
  pub apart : is_apart d (as_read f) ≡ true
  pub owes : due_of known d (as_read f) ≡ Ok owed
  pub steps : step known d (as_read f) ≡ Ok e
  pub going : is_done e ≡ false
  pub keeps : Keeps d.in_scope owed certs k

pub goes_along : (known : List TitledStatement) (d e : TheoremParser) (f : RawLine) (owed : Obligation) (certs : List (List (List ℕ))) (k : Option StepCerts) → Goes known d e f owed certs k → Along known d (line_of f ∷ map joined_words certs) e (option_to_list k)
goes_along known d e f owed certs k g = step_along known d e f owed certs k g.good g.strict g.apart g.owes g.steps g.going g.keeps

-- and more lines after it
pub then_along : (known : List TitledStatement) (d e last : TheoremParser) (f : RawLine) (owed : Obligation) (certs : List (List (List ℕ))) (k : Option StepCerts) (more : List (List ℕ)) (ks : List StepCerts) → Goes known d e f owed certs k → Along known e more last ks
    → Along known d (line_of f ∷ (map joined_words certs ++ more)) last (option_to_list k ++ ks)
then_along known d e last f owed certs k more ks g rest = along_append known d e last (line_of f ∷ map joined_words certs) more (option_to_list k) ks (goes_along known d e f owed certs k g) rest
