-- The texts of the parts make the spelling.
use Rattle.std.proofs.Common.{◌≡◌, ℕ, List, [], ◌∷◌, ◌++◌, map, refl, sym, ap, ◌∙◌, append_assoc}
use Rattle.std.specs.Prelude.{codes}
use Rattle.std.proofs.lemmas.List.{append-nil}
use Rattle.e_literal.specs.declared.literal.Lit.{Lit}
use Rattle.e_literal.specs.declared.object.Scope.{Scope}
use Rattle.e_literal.specs.Use.{scope_of}
use Rattle.e_deriv.specs.declared.names.Names.{Names}
use Rattle.e_deriv.specs.Naming.{first_names}
use Rattle.e_deriv.specs.Script.{Script}
use Rattle.e_theorem.specs.declared.statement.Statement.{Statement}
use Rattle.e_theorem.specs.Statements.{as_view}
use Rattle.e_line.specs.declared.raw_line.RawLine.{RawLine}
use Rattle.e_line.specs.declared.raw_line.RawLine.TheVariants as rawlines
use Rattle.e_names.specs.TitledStatements.{TitledStatement}
use Rattle.e_book.specs.TheoremViews.{TheoremView}
use Rattle.e_text.specs.Tokens.{with_spaces}
use Rattle.e_line.specs.Canonical.{line_of, lit_words}
use Rattle.e_names.specs.Canonical.{raw_of, given_raw_line, show_raw_line, end_raw_line}
use Rattle.e_book.specs.Canonical.{sort_groups, declare_raw_line, made_raw_line, declared_objects, made_objects, given_raw_lines, shown_raw_lines, head_raw_lines, names_of_proof, text_of}
use Rattle.e_spell.specs.declared.declarations.Role.TheVariants.{Declared, Made}
use Rattle.e_spell.specs.Spelling.{script_lines, spelling}
use Rattle.e_spell.specs.inner.Parts.{raw_line_text, lits_text, script_text, proof_text, objects_text, title_text, statement_text, head_text, theorem_text}
use Rattle.e_spell.proofs.ScriptTexts.{of_lines}
use Rattle.e_spell.proofs.Declared.{text, declared_text, made_text}

of_forms : (fs gs : List RawLine) → text (fs ++ gs) ≡ text fs ++ text gs
of_forms [] gs = refl
of_forms (f ∷ fs) gs = ap (λ (t : List ℕ). (line_of f ++ 10 ∷ []) ++ t) (of_forms fs gs) ∙ sym (append_assoc (line_of f ++ 10 ∷ []) (text fs) (text gs))

one_literal : (word : List ℕ) (words : List (List ℕ)) → (word ++ with_spaces (words ++ [])) ++ 10 ∷ [] ≡ word ++ (with_spaces words ++ 10 ∷ [])
one_literal word words = rw (append-nil words) (append_assoc word (with_spaces words) (10 ∷ []))

given_text : (ns : Names) (ls : List Lit) → lits_text (codes "given") ns ls ≡ text (map (given_raw_line ns) ls)
given_text ns [] = refl
given_text ns (l ∷ ls) =
    ap (λ (t : List ℕ). t ++ lits_text (codes "given") ns ls) (sym (one_literal (codes "given") (lit_words (raw_of ns l)))) ∙ ap (λ (t : List ℕ). (line_of (given_raw_line ns l) ++ 10 ∷ []) ++ t) (given_text ns ls)

show_text : (ns : Names) (ls : List Lit) → lits_text (codes "show") ns ls ≡ text (map (show_raw_line ns) ls)
show_text ns [] = refl
show_text ns (l ∷ ls) =
    ap (λ (t : List ℕ). t ++ lits_text (codes "show") ns ls) (sym (one_literal (codes "show") (lit_words (raw_of ns l)))) ∙ ap (λ (t : List ℕ). (line_of (show_raw_line ns l) ++ 10 ∷ []) ++ t) (show_text ns ls)

title_line : (title : List ℕ) → title_text title ≡ line_of (rawlines.Theorem title) ++ 10 ∷ []
title_line title = rw (append-nil title) (sym (append_assoc (codes "theorem") (32 ∷ title) (10 ∷ [])))

-- what is given, and what is shown
of_given : (ns : Names) (t : Statement) → objects_text Declared ns (declared_objects t) ++ lits_text (codes "given") ns t.given ≡ text (given_raw_lines ns t)
of_given ns t =
    ap (λ (x : List ℕ). x ++ lits_text (codes "given") ns t.given) (declared_text ns (declared_objects t)) ∙ ap (λ (x : List ℕ). text (map declare_raw_line (sort_groups ns (declared_objects t))) ++ x) (given_text ns t.given)
    ∙ sym (of_forms (map declare_raw_line (sort_groups ns (declared_objects t))) (map (given_raw_line ns) t.given))

of_shown : (ns : Names) (t : Statement) → objects_text Made ns (made_objects t) ++ lits_text (codes "show") ns t.shown ≡ text (shown_raw_lines ns t)
of_shown ns t =
    ap (λ (x : List ℕ). x ++ lits_text (codes "show") ns t.shown) (made_text ns (made_objects t)) ∙ ap (λ (x : List ℕ). text (map made_raw_line (sort_groups ns (made_objects t))) ++ x) (show_text ns t.shown)
    ∙ sym (of_forms (map made_raw_line (sort_groups ns (made_objects t))) (map (show_raw_line ns) t.shown))

of_statement : (ns : Names) (t : Statement) → statement_text ns t ++ (codes "proof" ++ 10 ∷ []) ≡ text (given_raw_lines ns t ++ (shown_raw_lines ns t ++ rawlines.Proof ∷ []))
of_statement ns t =
    let given = objects_text Declared ns (declared_objects t) in
    let lits = lits_text (codes "given") ns t.given in
    let shown = objects_text Made ns (made_objects t) ++ lits_text (codes "show") ns t.shown in
    let end = codes "proof" ++ 10 ∷ [] in
    ap (λ (x : List ℕ). x ++ end) (sym (append_assoc given lits shown)) ∙ append_assoc (given ++ lits) shown end ∙ ap (λ (x : List ℕ). x ++ (shown ++ end)) (of_given ns t)
    ∙ ap (λ (x : List ℕ). text (given_raw_lines ns t) ++ (x ++ end)) (of_shown ns t) ∙ ap (λ (x : List ℕ). text (given_raw_lines ns t) ++ x) (sym (of_forms (shown_raw_lines ns t) (rawlines.Proof ∷ [])))
    ∙ sym (of_forms (given_raw_lines ns t) (shown_raw_lines ns t ++ rawlines.Proof ∷ []))

of_head : (t : TheoremView) → head_text t.title t.names t.statement ≡ text (head_raw_lines t)
of_head t =
    ap (λ (x : List ℕ). x ++ (statement_text t.names t.statement ++ (codes "proof" ++ 10 ∷ []))) (title_line t.title)
    ∙ ap (λ (x : List ℕ). (line_of (rawlines.Theorem t.title) ++ 10 ∷ []) ++ x) (of_statement t.names t.statement)

of_proof : (known : List TitledStatement) (ns : Names) (d : Script) → proof_text known ns d ≡ text_of (script_lines known ns d ++ line_of end_raw_line ∷ [])
unfolding script_text
of_proof known ns d = sym (of_lines (script_lines known ns d) (line_of end_raw_line ∷ []))

pub spelled_parts : (known : List TitledStatement) (t : TheoremView) (d : Script) → theorem_text known t d ≡ spelling known t d
spelled_parts known t d =
    ap (λ (x : List ℕ). x ++ proof_text known (names_of_proof t) d) (of_head t) ∙ ap (λ (x : List ℕ). text (head_raw_lines t) ++ x) (of_proof known (names_of_proof t) d)
    ∙ sym (of_lines (map line_of (head_raw_lines t)) (script_lines known (names_of_proof t) d ++ line_of end_raw_line ∷ []))

-- the parts as they are written one after another
pub parts_in_turn : (known : List TitledStatement) (t : TheoremView) (d : Script) (scope : Scope) (ns : Names) (none head block all : List ℕ)
    → none ≡ [] → head ≡ none ++ head_text t.title t.names t.statement → scope ≡ scope_of (as_view t.statement) → ns ≡ first_names scope t.names
    → block ≡ head ++ script_text known ns d → all ≡ block ++ raw_line_text end_raw_line → all ≡ spelling known t d
parts_in_turn known t d scope ns none head block all en eh es em eb ea =
    let is_head : head ≡ head_text t.title t.names t.statement = eh ∙ ap (λ (x : List ℕ). x ++ head_text t.title t.names t.statement) en in
    let are_names : ns ≡ names_of_proof t = em ∙ ap (λ (s : Scope). first_names s t.names) es in
    let is_block : block ≡ head_text t.title t.names t.statement ++ script_text known (names_of_proof t) d =
    eb ∙ ap (λ (x : List ℕ). x ++ script_text known ns d) is_head ∙ ap (λ (n : Names). head_text t.title t.names t.statement ++ script_text known n d) are_names in
    ea ∙ ap (λ (x : List ℕ). x ++ raw_line_text end_raw_line) is_block
    ∙ append_assoc (head_text t.title t.names t.statement) (script_text known (names_of_proof t) d) (raw_line_text end_raw_line) ∙ spelled_parts known t d
