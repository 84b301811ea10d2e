-- What holds before a step, and where an inner block is entered.
use Rattle.std.specs.Prelude.{List, length, take}
use Rattle.e_literal.specs.declared.literal.Lit.{Lit}
use Rattle.e_literal.specs.Facts.{with_facts}
use Rattle.e_literal.specs.Scopes.{with_sorts}
use Rattle.e_literal.specs.Use.{StatementView, scope_of}
use Rattle.e_construct.specs.declared.construction.Construction.{Construction}
use Rattle.e_construct.specs.Construct.{sorts_made, gives_of_construction}
use Rattle.e_construct.specs.declared.superpose.Superpose.{Superpose}
use Rattle.e_construct.specs.Superposing as superposing
use Rattle.e_deriv.specs.Goal.{facts_of_statement}
use Rattle.e_verify.specs.declared.step_state.StepState.{StepState}
use Rattle.e_verify.specs.declared.step_state.Checkpoint.{Checkpoint}

-- before the first step of a statement's proof
abbrev pub state_at_start : StatementView → StepState
state_at_start t = record { scope = scope_of t; facts = facts_of_statement t }

-- with these facts in the place of its own
abbrev pub state_with_facts : List Lit → StepState → StepState
state_with_facts facts x = record x { facts = facts }

-- after a construction
abbrev pub state_after_make : Construction → StepState → StepState
state_after_make construction x =
    record {
      scope = with_sorts x.scope (sorts_made construction);
      facts = with_facts x.facts (gives_of_construction construction x.scope);
    }

-- after a use of a statement that gives these literals
abbrev pub state_after_use : StatementView → List Lit → StepState → StepState
state_after_use t gives x =
    record { scope = with_sorts x.scope t.made; facts = with_facts x.facts gives }

-- what the block of a superposition begins with
abbrev pub state_after_superposed : Superpose → StepState → StepState
state_after_superposed superposition x =
    record {
      scope = with_sorts x.scope superposing.sorts_copied;
      facts = with_facts x.facts (superposing.gives_of_superposition superposition x.scope);
    }

abbrev pub checkpoint_of_state : StepState → Checkpoint
checkpoint_of_state x = record { scope = x.scope; facts = length x.facts }

-- where a block was entered
abbrev pub state_restored : Checkpoint → StepState → StepState
state_restored outer x = record { scope = outer.scope; facts = take outer.facts x.facts }
