-- What the lines of a script owe, as they are spelled.
use Rattle.std.proofs.Common.{◌≡◌, ℕ, true, eqb, List, [], ◌∷◌, length, map, Option, Some, None, is_some, Ok, refl, ap, ◌∙◌}
use Rattle.std.specs.List.{list_all}
use Rattle.std.proofs.lemmas.Bool.{eq-eqb}
use Rattle.std.proofs.lemmas.List.{length-map}
use Rattle.e_book.proofs.canonical.LinesRead.{objects_read}
use Rattle.e_literal.specs.declared.object.Obj.{Obj}
use Rattle.e_literal.specs.declared.object.Scope.{Scope}
use Rattle.e_literal.specs.declared.literal.Lit.{Lit}
use Rattle.e_literal.specs.Scopes.{are_of_sorts}
use Rattle.e_literal.specs.Use.{StatementView, are_arguments, needs_of_use}
use Rattle.e_construct.specs.declared.construction.Construction.{Construction}
use Rattle.e_construct.specs.declared.superpose.Superpose.{Superpose}
use Rattle.e_construct.specs.Construct.{needs_of_construction}
use Rattle.e_construct.specs.Superposing as superposing
use Rattle.e_deriv.specs.declared.names.Names.{Names}
use Rattle.e_deriv.specs.Goal.{Goal, goal_with}
use Rattle.e_deriv.specs.Parts.{args_written, has_no_blank}
use Rattle.e_book.specs.declared.parser.TheoremParser.{TheoremParser}
use Rattle.e_line.specs.Reading.{each, or_malformed}
use Rattle.e_names.specs.TitledStatements.{TitledStatement, theorem_of}
use Rattle.e_book.specs.Blocks.{made_in}
use Rattle.e_names.specs.Scope.{scope_of_names, qed_in}
use Rattle.e_names.specs.Canonical.{raw_of, name_of_object, argument_name, hence_raw_line, let_raw_line, apply_raw_line, superpose_raw_line, qed_raw_line}
use Rattle.e_line.proofs.read_again.Respelled.{as_read}
use Rattle.e_names.proofs.resolution.Lookups.{InOrder}
use Rattle.e_names.proofs.resolution.LitLookups.{lit_number_again}
use Rattle.e_names.proofs.literals.PlainLits.{PlainLit}
use Rattle.e_names.proofs.read_lines.Building.{GoodLet}
use Rattle.e_names.proofs.resolution.Built.{of_sorts_length, let_number_again}
use Rattle.e_names.proofs.resolution.Superposed.{GoodSuperpose, superpose_number_again}
use Rattle.e_names.proofs.resolution.Applied.{GoodApply, apply_number_again}
use Rattle.e_line.specs.CanonicalLines.{are_canonical_lits}
use Rattle.e_read.specs.Owing.{needs_in}
use Rattle.e_read.specs.inner.Needs.{open_goal, one_each, needs_of_raw_apply as needs_of_line, needs_at_qed, due_of}
use Rattle.e_roundtrip.proofs.Certificates.RowsAgain.{lit_direct}

-- ---- what is written directly

pub all_direct : (ns : Names) (ls : List Lit) → are_canonical_lits (map (raw_of ns) ls) ≡ true
all_direct ns [] = refl
all_direct ns (l ∷ ls) = rw (lit_direct ns l, all_direct ns ls) refl

pub all_written : (ns : Names) (args : List (Option Obj)) → has_no_blank args ≡ true → list_all is_some (map (argument_name ns) args) ≡ true
all_written ns [] h = refl
all_written ns (None ∷ args) h = absurd cc
all_written ns (Some o ∷ args) h = all_written ns args h

-- ---- what is due

pub hence_due : (known : List TitledStatement) (d : TheoremParser) (l : Lit) → InOrder d.in_scope → PlainLit d.in_scope l → due_of known d (hence_raw_line d.in_scope l) ≡ Ok (one_each (l ∷ []))
unfolding due_of
hence_due known d l o p = rw (lit_number_again d.in_scope l o p.within p.good) refl

pub let_due : (known : List TitledStatement) (d : TheoremParser) (construction : Construction) (names : List (List ℕ)) → InOrder d.in_scope → GoodLet d.in_scope construction names → due_of known d (as_read (let_raw_line d.in_scope construction names)) ≡ Ok (one_each (needs_of_construction construction))
unfolding due_of
let_due known d construction names o g = rw (let_number_again d.in_scope construction names o g) refl

each_written : (args : List (Option Obj)) → has_no_blank args ≡ true → each or_malformed args ≡ Ok (args_written args)
each_written [] h = refl
each_written (None ∷ args) h = absurd cc
each_written (Some o ∷ args) h = rw (each_written args h) refl

needed : (s : Scope) (t : StatementView) (args : List (Option Obj)) → has_no_blank args ≡ true → are_arguments t s (args_written args) ≡ true → needs_in s t args ≡ Ok (needs_of_use t (args_written args) s)
needed s t args h fit = rw (each_written args h, fit) refl

pub apply_due : (known : List TitledStatement) (d : TheoremParser) (theorem : ℕ) (args : List (Option Obj)) (names : List (List ℕ)) → InOrder d.in_scope → GoodApply known d.in_scope theorem args names → has_no_blank args ≡ true
    → are_arguments (theorem_of known theorem) (scope_of_names d.in_scope) (args_written args) ≡ true
    → due_of known d (apply_raw_line known d.in_scope theorem args names) ≡ Ok (one_each (needs_of_use (theorem_of known theorem) (args_written args) (scope_of_names d.in_scope)))
unfolding due_of needs_of_line
apply_due known d theorem args names o g full fit = rw (apply_number_again known d.in_scope theorem args names o g, needed (scope_of_names d.in_scope) (theorem_of known theorem) args full fit) refl

pub superpose_due : (known : List TitledStatement) (d : TheoremParser) (superposition : Superpose) (names : List (List ℕ)) (shown : List Lit) → GoodSuperpose d.in_scope superposition names shown
    → due_of known d (superpose_raw_line d.in_scope superposition names shown) ≡ Ok (one_each (superposing.needs_of_superposition superposition))
unfolding due_of
superpose_due known d superposition names shown g = rw (superpose_number_again d.in_scope superposition names shown g) refl

pub qed_due : (known : List TitledStatement) (d : TheoremParser) (goal : Goal) (os : List Obj) → InOrder d.in_scope → are_of_sorts (scope_of_names d.in_scope) (made_in d.blocks d.made) os ≡ true → open_goal d ≡ goal
    → due_of known d (qed_raw_line d.in_scope os) ≡ Ok (one_each (goal_with goal os))
unfolding due_of needs_at_qed qed_in
qed_due known d goal os o h is =
    let ns = d.in_scope in
    let sorts = made_in d.blocks d.made in
    let count : eqb (length (map (name_of_object ns) os)) (length sorts) ≡ true = eq-eqb _ _ (length-map os (name_of_object ns) ∙ of_sorts_length (scope_of_names ns) sorts os h) in
    rw (count, objects_read ns sorts os o h) (ap (λ (g : Goal). Ok (one_each (goal_with g os))) is)
