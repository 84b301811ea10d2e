-- Steps and scripts with the certificates of their lines, and the lines that spell them.
use Rattle.std.proofs.Common.{◌≡◌, ℕ, ◌≤◌, true, List, [], ◌∷◌, ◌++◌, length, Option, Some, None, refl, sym, ap, subst, ◌∙◌, arith, append_assoc}
use Rattle.std.specs.Option.{option_to_list}
use Rattle.e_literal.specs.declared.object.Obj.{Obj}
use Rattle.e_literal.specs.declared.literal.Lit.{Lit}
use Rattle.e_literal.specs.Literal.{all_in_scope}
use Rattle.e_construct.specs.declared.construction.Construction.{Construction}
use Rattle.e_construct.specs.declared.superpose.Superpose.{Superpose}
use Rattle.e_construct.specs.Construct.{sorts_made}
use Rattle.e_construct.specs.Superposing as superposing
use Rattle.e_clause.specs.declared.cert.By.{By}
use Rattle.e_clause.specs.declared.cert.Cert.{Cert}
use Rattle.e_clause.specs.declared.cert.Against.{Against as Contradicts}
use Rattle.e_deriv.specs.declared.names.Names.{Names}
use Rattle.e_deriv.specs.Naming.{with_new_names}
use Rattle.e_deriv.specs.Script.{Script, Qed, Contradiction, Cases}
use Rattle.e_deriv.specs.Goal.{Goal, goal_of, are_for, goal_with}
use Rattle.e_deriv.specs.Steps.{are_over, is_citation}
use Rattle.e_deriv.specs.PlainStep.{PlainStep, Cited, Inferred, Made, Applied, Claimed, Copied, before, all_before}
use Rattle.e_names.specs.Scope.{scope_of_names}
use Rattle.e_names.specs.TitledStatements.{TitledStatement, theorem_of}
use Rattle.e_line.specs.Canonical.{line_of}
use Rattle.e_names.specs.Canonical.{by_raw_line, hence_raw_line, let_raw_line, apply_raw_line, claim_raw_line, superpose_raw_line, cases_raw_line, else_raw_line, qed_raw_line, contradiction_raw_line}
use Rattle.e_cert.specs.declared.kept.StepCerts.{StepCerts}
use Rattle.e_cert.specs.declared.kept.StepCerts.TheVariants.{Certs, Against}
use Rattle.e_cert.specs.Certificates.{first_cert}
use Rattle.e_read.specs.Filled.{script_with_certs}
use Rattle.e_spell.specs.Certificates.{certs_lines, contradiction_lines}
use Rattle.e_spell.specs.Spelling.{script_lines}
use Rattle.e_roundtrip.specs.Formed.{certs_formed, against_formed}
use Rattle.e_roundtrip.proofs.Formed.FormedLines.{FormedHere, MadeFormed, UseFormed, CopyFormed, cited_formed, one_each_formed, inferred_formed, made_formed, applied_formed, claimed_formed, copied_formed, qed_formed, contradiction_formed, cases_formed}

-- ---- steps and scripts

-- With these certificates at them the steps are spelled by these lines, whatever comes after them, and the names are those in scope
-- then; and where what comes after them has its form, all has.
pub record StepsSaid (known : List TitledStatement) (ns : Names) (steps : List PlainStep) (ks : List StepCerts) (after : Names) (lines : List (List ℕ)) : Type 0 where
  pub spelled : (rest : Script) (more : List StepCerts) → script_lines known ns (script_with_certs (all_before steps rest) (ks ++ more)).0 ≡ lines ++ script_lines known after (script_with_certs rest more).0
  pub left : (rest : Script) (more : List StepCerts) → (script_with_certs (all_before steps rest) (ks ++ more)).1 ≡ (script_with_certs rest more).1
  pub formed : (goal : Goal) (rest : Script) (more : List StepCerts) → FormedHere known after goal (script_with_certs rest more).0 → FormedHere known ns goal (script_with_certs (all_before steps rest) (ks ++ more)).0

-- the same of a script of a block with this goal
pub record ScriptSaid (known : List TitledStatement) (ns : Names) (goal : Goal) (script : Script) (ks : List StepCerts) (lines : List (List ℕ)) : Type 0 where
  pub spelled : (more : List StepCerts) → script_lines known ns (script_with_certs script (ks ++ more)).0 ≡ lines
  pub left : (more : List StepCerts) → (script_with_certs script (ks ++ more)).1 ≡ more
  pub formed : (more : List StepCerts) → FormedHere known ns goal (script_with_certs script (ks ++ more)).0

pub no_steps : (known : List TitledStatement) (ns : Names) → StepsSaid known ns [] [] ns []
no_steps known ns = record { spelled = λ rest more. refl; left = λ rest more. refl; formed = λ goal rest more h. h }

-- the same certificates and lines
pub steps_as : (known : List TitledStatement) (ns : Names) (steps : List PlainStep) (ks js : List StepCerts) (after : Names) (ls ms : List (List ℕ)) → ks ≡ js → ls ≡ ms → StepsSaid known ns steps ks after ls → StepsSaid known ns steps js after ms
steps_as known ns steps ks js after ls ms p q s = subst (λ (l : List (List ℕ)). StepsSaid known ns steps js after l) q (subst (λ (k : List StepCerts). StepsSaid known ns steps k after ls) p s)

pub script_as : (known : List TitledStatement) (ns : Names) (goal : Goal) (script : Script) (ks js : List StepCerts) (ls ms : List (List ℕ)) → ks ≡ js → ls ≡ ms → ScriptSaid known ns goal script ks ls → ScriptSaid known ns goal script js ms
script_as known ns goal script ks js ls ms p q s = subst (λ (l : List (List ℕ)). ScriptSaid known ns goal script js l) q (subst (λ (k : List StepCerts). ScriptSaid known ns goal script k ls) p s)

all_before_append : (xs ys : List PlainStep) (rest : Script) → all_before (xs ++ ys) rest ≡ all_before xs (all_before ys rest)
all_before_append [] ys rest = refl
all_before_append (x ∷ xs) ys rest = ap (before x) (all_before_append xs ys rest)

-- more steps
pub steps_more : (known : List TitledStatement) (ns mid after : Names) (xs ys : List PlainStep) (ks js : List StepCerts) (ls ms : List (List ℕ)) → StepsSaid known ns xs ks mid ls → StepsSaid known mid ys js after ms
    → StepsSaid known ns (xs ++ ys) (ks ++ js) after (ls ++ ms)
steps_more known ns mid after xs ys ks js ls ms a b =
    record {
      spelled = λ rest more.
          ap (λ (s : Script). script_lines known ns (script_with_certs s ((ks ++ js) ++ more)).0) (all_before_append xs ys rest) ∙ ap (λ (k : List StepCerts). script_lines known ns (script_with_certs (all_before xs (all_before ys rest)) k).0) (append_assoc ks js more)
          ∙ a.spelled (all_before ys rest) (js ++ more) ∙ ap (λ (l : List (List ℕ)). ls ++ l) (b.spelled rest more) ∙ sym (append_assoc ls ms (script_lines known after (script_with_certs rest more).0));
      left = λ rest more.
          ap (λ (s : Script). (script_with_certs s ((ks ++ js) ++ more)).1) (all_before_append xs ys rest) ∙ ap (λ (k : List StepCerts). (script_with_certs (all_before xs (all_before ys rest)) k).1) (append_assoc ks js more)
          ∙ a.left (all_before ys rest) (js ++ more) ∙ b.left rest more;
      formed = λ goal rest more h.
          subst (λ (s : Script). FormedHere known ns goal (script_with_certs s ((ks ++ js) ++ more)).0) (sym (all_before_append xs ys rest))
          (subst (λ (k : List StepCerts). FormedHere known ns goal (script_with_certs (all_before xs (all_before ys rest)) k).0) (sym (append_assoc ks js more)) (a.formed goal (all_before ys rest) (js ++ more) (b.formed goal rest more h)));
    }

-- steps, and a close after them
pub steps_closed : (known : List TitledStatement) (ns mid : Names) (goal : Goal) (xs : List PlainStep) (close : Script) (ks js : List StepCerts) (ls ms : List (List ℕ)) → StepsSaid known ns xs ks mid ls → ScriptSaid known mid goal close js ms
    → ScriptSaid known ns goal (all_before xs close) (ks ++ js) (ls ++ ms)
steps_closed known ns mid goal xs close ks js ls ms a b =
    record {
      spelled = λ more.
          ap (λ (k : List StepCerts). script_lines known ns (script_with_certs (all_before xs close) k).0) (append_assoc ks js more) ∙ a.spelled close (js ++ more) ∙ ap (λ (l : List (List ℕ)). ls ++ l) (b.spelled more);
      left = λ more. ap (λ (k : List StepCerts). (script_with_certs (all_before xs close) k).1) (append_assoc ks js more) ∙ a.left close (js ++ more) ∙ b.left more;
      formed = λ more. subst (λ (k : List StepCerts). FormedHere known ns goal (script_with_certs (all_before xs close) k).0) (sym (append_assoc ks js more)) (a.formed goal close (js ++ more) (b.formed more));
    }

-- ---- each step

pub cited_said : (known : List TitledStatement) (ns : Names) (by : By) → is_citation (scope_of_names ns) by ≡ true → StepsSaid known ns (Cited by ∷ []) [] ns (line_of (by_raw_line ns by) ∷ [])
unfolding script_with_certs script_lines
cited_said known ns by w = record { spelled = λ rest more. refl; left = λ rest more. refl; formed = λ goal rest more h. cited_formed known ns goal by (script_with_certs rest more).0 w h }

one_cert : (cs : List Cert) → length cs ≤ 1 → option_to_list (first_cert cs) ≡ cs
one_cert [] le = refl
one_cert (c ∷ []) le = refl
one_cert (c ∷ d ∷ cs) le = absurd (omega (arith, le))

pub inferred_said : (known : List TitledStatement) (ns : Names) (lit : Lit) (cs : List Cert) → all_in_scope (scope_of_names ns) lit ≡ true → certs_formed (scope_of_names ns) (lit ∷ []) cs ≡ true
    → StepsSaid known ns (Inferred lit None ∷ []) (Certs cs ∷ []) ns (line_of (hence_raw_line ns lit) ∷ certs_lines ns cs)
unfolding script_with_certs script_lines
inferred_said known ns lit cs w c =
    record {
      spelled = λ rest more. ap (λ (l : List Cert). line_of (hence_raw_line ns lit) ∷ (certs_lines ns l ++ script_lines known ns (script_with_certs rest more).0)) (one_cert cs (one_each_formed (scope_of_names ns) lit cs c));
      left = λ rest more. refl;
      formed = λ goal rest more h. inferred_formed known ns goal lit cs (script_with_certs rest more).0 w c h;
    }

pub made_said : (known : List TitledStatement) (ns : Names) (construction : Construction) (names : List (List ℕ)) (cs : List Cert) → MadeFormed ns construction names cs
    → StepsSaid known ns (Made construction names [] ∷ []) (Certs cs ∷ []) (with_new_names ns (sorts_made construction) names) (line_of (let_raw_line ns construction names) ∷ certs_lines ns cs)
unfolding script_with_certs script_lines
made_said known ns construction names cs m = record { spelled = λ rest more. refl; left = λ rest more. refl; formed = λ goal rest more h. made_formed known ns goal construction names cs (script_with_certs rest more).0 m h }

pub applied_said : (known : List TitledStatement) (ns : Names) (theorem : ℕ) (args : List (Option Obj)) (names : List (List ℕ)) (cs : List Cert) → UseFormed known ns theorem args names cs
    → StepsSaid known ns (Applied theorem args names [] ∷ []) (Certs cs ∷ []) (with_new_names ns (theorem_of known theorem).made names) (line_of (apply_raw_line known ns theorem args names) ∷ certs_lines ns cs)
unfolding script_with_certs script_lines
applied_said known ns theorem args names cs u = record { spelled = λ rest more. refl; left = λ rest more. refl; formed = λ goal rest more h. applied_formed known ns goal theorem args names cs (script_with_certs rest more).0 u h }

-- two blocks, one after the other
two_blocks : (known : List TitledStatement) (ns : Names) (rest : Script) (a b : List (List ℕ)) (js ks : List StepCerts) → a ≡ b → js ≡ ks → a ++ script_lines known ns (script_with_certs rest js).0 ≡ b ++ script_lines known ns (script_with_certs rest ks).0
two_blocks known ns rest a b js ks p q = ap (λ (l : List (List ℕ)). l ++ script_lines known ns (script_with_certs rest js).0) p ∙ ap (λ (k : List StepCerts). b ++ script_lines known ns (script_with_certs rest k).0) q

pub claimed_said : (known : List TitledStatement) (ns : Names) (shown : List Lit) (inner : Script) (ks : List StepCerts) (ls : List (List ℕ)) → are_over (scope_of_names ns) shown ≡ true → ScriptSaid known ns (goal_of shown) inner ks ls
    → StepsSaid known ns (Claimed shown inner ∷ []) ks ns (line_of (claim_raw_line ns shown) ∷ ls)
unfolding script_with_certs script_lines
claimed_said known ns shown inner ks ls w s =
    record {
      spelled = λ rest more. ap (λ (l : List (List ℕ)). line_of (claim_raw_line ns shown) ∷ l) (two_blocks known ns rest (script_lines known ns (script_with_certs inner (ks ++ more)).0) ls (script_with_certs inner (ks ++ more)).1 more (s.spelled more) (s.left more));
      left = λ rest more. ap (λ (k : List StepCerts). (script_with_certs rest k).1) (s.left more);
      formed = λ goal rest more h.
          claimed_formed known ns goal shown (script_with_certs inner (ks ++ more)).0 (script_with_certs rest (script_with_certs inner (ks ++ more)).1).0 w (s.formed more)
          (subst (λ (k : List StepCerts). FormedHere known ns goal (script_with_certs rest k).0) (sym (s.left more)) h);
    }

pub copied_said : (known : List TitledStatement) (ns : Names) (superposition : Superpose) (names : List (List ℕ)) (shown : List Lit) (cs : List Cert) (inner : Script) (ks : List StepCerts) (ls : List (List ℕ)) → CopyFormed ns superposition names shown cs → ScriptSaid known (with_new_names ns superposing.sorts_copied names) (goal_of shown) inner ks ls
    → StepsSaid known ns (Copied superposition names shown [] inner ∷ []) (Certs cs ∷ ks) ns (line_of (superpose_raw_line ns superposition names shown) ∷ (certs_lines ns cs ++ ls))
unfolding script_with_certs script_lines
copied_said known ns superposition names shown cs inner ks ls c s =
    let start = with_new_names ns superposing.sorts_copied names in
    record {
      spelled = λ rest more.
          ap (λ (l : List (List ℕ)). line_of (superpose_raw_line ns superposition names shown) ∷ (certs_lines ns cs ++ l))
          (two_blocks known ns rest (script_lines known start (script_with_certs inner (ks ++ more)).0) ls (script_with_certs inner (ks ++ more)).1 more (s.spelled more) (s.left more))
          ∙ ap (λ (l : List (List ℕ)). line_of (superpose_raw_line ns superposition names shown) ∷ l) (sym (append_assoc (certs_lines ns cs) ls (script_lines known ns (script_with_certs rest more).0)));
      left = λ rest more. ap (λ (k : List StepCerts). (script_with_certs rest k).1) (s.left more);
      formed = λ goal rest more h.
          copied_formed known ns goal superposition names shown cs (script_with_certs inner (ks ++ more)).0 (script_with_certs rest (script_with_certs inner (ks ++ more)).1).0 c (s.formed more)
          (subst (λ (k : List StepCerts). FormedHere known ns goal (script_with_certs rest k).0) (sym (s.left more)) h);
    }

-- ---- each close

pub qed_said : (known : List TitledStatement) (ns : Names) (goal : Goal) (objects : List Obj) (cs : List Cert) → are_for goal (scope_of_names ns) objects ≡ true → certs_formed (scope_of_names ns) (goal_with goal objects) cs ≡ true
    → ScriptSaid known ns goal (Qed objects []) (Certs cs ∷ []) (line_of (qed_raw_line ns objects) ∷ certs_lines ns cs)
unfolding script_with_certs script_lines
qed_said known ns goal objects cs w c = record { spelled = λ more. refl; left = λ more. refl; formed = λ more. qed_formed known ns goal objects cs w c }

pub contradiction_said : (known : List TitledStatement) (ns : Names) (goal : Goal) (a : Contradicts) → against_formed (scope_of_names ns) a ≡ true → ScriptSaid known ns goal (Contradiction None) (Against a ∷ []) (line_of contradiction_raw_line ∷ contradiction_lines ns (Some a))
unfolding script_with_certs script_lines
contradiction_said known ns goal a c = record { spelled = λ more. refl; left = λ more. refl; formed = λ more. contradiction_formed known ns goal a c }

pub cases_said : (known : List TitledStatement) (ns : Names) (goal : Goal) (lit : Lit) (first second : Script) (js ks : List StepCerts) (ls ms : List (List ℕ)) → all_in_scope (scope_of_names ns) lit ≡ true
    → ScriptSaid known ns goal first js ls → ScriptSaid known ns goal second ks ms → ScriptSaid known ns goal (Cases lit first second) (js ++ ks) (line_of (cases_raw_line ns lit) ∷ (ls ++ line_of else_raw_line ∷ ms))
unfolding script_with_certs script_lines
cases_said known ns goal lit first second js ks ls ms w a b =
    let later : (more : List StepCerts) → (script_with_certs first ((js ++ ks) ++ more)).1 ≡ ks ++ more = λ more. ap (λ (k : List StepCerts). (script_with_certs first k).1) (append_assoc js ks more) ∙ a.left (ks ++ more) in
    record {
      spelled = λ more.
          ap (λ (l : List (List ℕ)). line_of (cases_raw_line ns lit) ∷ (l ++ line_of else_raw_line ∷ script_lines known ns (script_with_certs second (script_with_certs first ((js ++ ks) ++ more)).1).0))
          (ap (λ (k : List StepCerts). script_lines known ns (script_with_certs first k).0) (append_assoc js ks more) ∙ a.spelled (ks ++ more))
          ∙ ap (λ (l : List (List ℕ)). line_of (cases_raw_line ns lit) ∷ (ls ++ line_of else_raw_line ∷ l)) (ap (λ (k : List StepCerts). script_lines known ns (script_with_certs second k).0) (later more) ∙ b.spelled more);
      left = λ more. ap (λ (k : List StepCerts). (script_with_certs second k).1) (later more) ∙ b.left more;
      formed = λ more.
          cases_formed known ns goal lit (script_with_certs first ((js ++ ks) ++ more)).0 (script_with_certs second (script_with_certs first ((js ++ ks) ++ more)).1).0 w
          (subst (λ (k : List StepCerts). FormedHere known ns goal (script_with_certs first k).0) (sym (append_assoc js ks more)) (a.formed (ks ++ more)))
          (subst (λ (k : List StepCerts). FormedHere known ns goal (script_with_certs second k).0) (sym (later more)) (b.formed more));
    }
