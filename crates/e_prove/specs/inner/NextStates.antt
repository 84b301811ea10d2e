-- What holds before a step, and after it.
use Rattle.std.specs.Prelude.{◌≡◌, ℕ, ◌+◌, ◌<◌, ◌^◌, List, [], ◌∷◌, ◌++◌, IsTrue}
use Rattle.e_literal.specs.declared.object.Obj.{Obj}
use Rattle.e_literal.specs.declared.object.Scope.{Scope}
use Rattle.e_literal.specs.declared.literal.Lit.{Lit}
use Rattle.e_literal.specs.Facts.{with_fact, with_facts}
use Rattle.e_literal.specs.Scopes.{with_sorts}
use Rattle.e_literal.specs.Use.{StatementView, scope_of, gives_of_use}
use Rattle.e_clause.specs.LimitedFacts.{are_limited_facts}
use Rattle.e_construct.specs.declared.construction.Construction.{Construction}
use Rattle.e_construct.specs.Construct.{sorts_made, gives_of_construction}
use Rattle.e_construct.specs.declared.superpose.Superpose.{Superpose}
use Rattle.e_construct.specs.Superposing as superposing
use Rattle.e_deriv.specs.declared.names.Names.{Names}
use Rattle.e_deriv.specs.Goal.{facts_of_statement}
use Rattle.e_deriv.specs.Naming.{with_new_names, declared_names}
use Rattle.e_licence.specs.Contexts.{State, state_of}
use Rattle.e_prove.specs.declared.state_before.StateBefore.{StateBefore}

-- before the first step of the proof of statement `t`, where `names` are those of its declared and
-- made objects
abbrev pub start_with_names : StatementView → Names → StateBefore
start_with_names t names =
    record {
      context = record { scope = scope_of t; facts = facts_of_statement t; held = [] };
      names = declared_names t names;
    }

-- after a step that gives one literal
abbrev pub after_literal : Lit → StateBefore → StateBefore
after_literal l x = record x { context = record x.context { facts = with_fact x.context.facts l } }

-- after a construction, whose new objects have `names`
abbrev pub after_make : Construction → List (List ℕ) → StateBefore → StateBefore
after_make construction names x =
    record {
      context = record x.context {
        scope = with_sorts x.context.scope (sorts_made construction);
        facts = with_facts x.context.facts (gives_of_construction construction x.context.scope);
      };
      names = with_new_names x.names (sorts_made construction) names;
    }

-- after an application of statement `t` at `args`, whose new objects have `names`
abbrev pub after_apply : StatementView → List Obj → List (List ℕ) → StateBefore → StateBefore
after_apply t args names x =
    record {
      context = record x.context {
        scope = with_sorts x.context.scope t.made;
        facts = with_facts x.context.facts (gives_of_use t args x.context.scope);
      };
      names = with_new_names x.names t.made names;
    }

-- after a superposition, whose copied points have `names`: what its block begins with
abbrev pub after_superposed : Superpose → List (List ℕ) → StateBefore → StateBefore
after_superposed superposition names x =
    record {
      context = record x.context {
        scope = with_sorts x.context.scope superposing.sorts_copied;
        facts = with_facts x.context.facts
            (superposing.gives_of_superposition superposition x.context.scope);
      };
      names = with_new_names x.names superposing.sorts_copied names;
    }

-- after an inner block that shows the literals `shown`
abbrev pub after_block : List Lit → StateBefore → StateBefore
after_block shown x =
    record x { context = record x.context { facts = with_facts x.context.facts shown } }

-- state `x` with `held` for the states outside of the open blocks, the innermost last
abbrev pub with_held : List State → StateBefore → StateBefore
with_held held x = record x { context = record x.context { held = held } }

-- where a block inside begins: the present state is the innermost outside of the open blocks
abbrev pub entered_at : StateBefore → StateBefore
entered_at x = with_held (x.context.held ++ state_of x.context ∷ []) x

-- `after` is the innermost of the states outside of the open blocks of `x`, with `names`; the other
-- states are those outside of it
abbrev pub IsOutsideAgain : Names → StateBefore → StateBefore → Type 0
IsOutsideAgain names x after =
    (before : List State) (last : State) → x.context.held ≡ before ++ last ∷ [] →
    after ≡ record {
      context = record { scope = last.scope; facts = last.facts; held = before };
      names = names;
    }

-- the same, where the literals `shown` are facts besides
abbrev pub IsOutsideWith : Names → List Lit → StateBefore → StateBefore → Type 0
IsOutsideWith names shown x after =
    (before : List State) (last : State) → x.context.held ≡ before ++ last ∷ [] →
    after ≡ record {
      context = record { scope = last.scope; facts = with_facts last.facts shown; held = before };
      names = names;
    }

-- the literals `shown` may join the facts of the innermost state outside of the open blocks of `x`
abbrev pub CanJoinLast : List Lit → StateBefore → Type 0
CanJoinLast shown x =
    (before : List State) (last : State) → x.context.held ≡ before ++ last ∷ []
    → IsTrue (are_limited_facts last.scope (with_facts last.facts shown))

-- in scope `s` two objects more of each sort have numbers of 16 bits
pub record HasRoomForMore (s : Scope) : Type 0 where
  pub points : s.points + 2 < 2 ^ 16
  pub lines : s.lines + 2 < 2 ^ 16
  pub circles : s.circles + 2 < 2 ^ 16
