use Rattle.std.proofs.Common.{◌≡◌, ◌∙◌, ap, sym, true, false, List, Some}
use Rattle.std.specs.List.{list_all}
use Rattle.e_literal.specs.declared.literal.Lit.{Lit}
use Rattle.e_literal.specs.declared.object.Obj.{Obj}
use Rattle.e_literal.specs.Facts.{has}
use Rattle.e_literal.specs.Literal.{is_in_scope, all_in_scope}
use Rattle.e_literal.specs.WellFormed.{is_well_formed}
use Rattle.e_clause.specs.Instance.{Inst}
use Rattle.e_transfer.specs.GivenGoals.{all_diagrams_hold, needs_beside}
use Rattle.e_transfer.proofs.Needs.{wide_transfer, good_cert, refused_not_one, refused_diagram, parts_kept, parts_stopped}
use Rattle.e_transfer.proofs.WellFormedNeeds.{good_needs}
use Rattle.e_transfer.proofs.instance_check.check_instance.Goals as goal

pub returns-then-not-has_goal : goal.returns-then-not-has_goal
returns-then-not-has_goal c =
    let s = c.args.query.now in
    let instance : Inst c.args.rule c.args.args ≡ Some c.in-Ok.lits.items = ap (λ (os : List Obj). Inst c.args.rule os) (sym c.items-2.ensures) ∙ c.in-Ok.ensures.ok in
    let not_one : has c.in-Ok.lits.items s.goal.now ≡ false =
    ap (λ (ls : List Lit). has ls s.goal.now) (sym c.deref.ensures.value) ∙ sym c.has_goal.ensures ∙ c.if-not-has_goal.true in
    refused_not_one s.strength s.scope s.facts.now s.goal.now c.args.rule c.args.args c.in-Ok.lits.items instance not_one

pub returns-then-not-diagrams_hold : goal.returns-then-not-diagrams_hold
returns-then-not-diagrams_hold c =
    let s = c.args.query.now in
    let instance : Inst c.args.rule c.args.args ≡ Some c.in-Ok.lits.items = ap (λ (os : List Obj). Inst c.args.rule os) (sym c.items-2.ensures) ∙ c.in-Ok.ensures.ok in
    let fails : all_diagrams_hold s.facts.now (needs_beside c.in-Ok.lits.items s.goal.now) ≡ false =
    ap (λ (ls : List Lit). all_diagrams_hold s.facts.now ls) (sym (c.deref-2.ensures.value ∙ c.in_ok-needs.ensures)) ∙ sym c.diagrams_hold.ensures ∙ c.if-not-diagrams_hold.true in
    refused_diagram s.strength s.scope s.facts.now s.goal.now c.args.rule c.args.args c.in-Ok.lits.items instance fails

pub parts_of-requires-clause-well_formed : goal.parts_of-requires-clause-well_formed
parts_of-requires-clause-well_formed c =
    let s = c.args.query.now in
    let instance : Inst c.args.rule c.args.args ≡ Some c.in-Ok.lits.items = ap (λ (os : List Obj). Inst c.args.rule os) (sym c.items-2.ensures) ∙ c.in-Ok.ensures.ok in
    let over : list_all (is_in_scope s.scope) c.args.args ≡ true =
    ap (λ (os : List Obj). list_all (is_in_scope s.scope) os) (sym c.items.ensures) ∙ sym c.are_in_scope.ensures ∙ c.if-not-are_in_scope.false in
    let good = good_needs c.args.rule s.scope c.args.args c.in-Ok.lits.items s.goal.now c.requires instance over in
    ap (λ (ls : List Lit). list_all is_well_formed ls) (c.deref-3.ensures.value ∙ c.in_ok-needs.ensures) ∙ good.well

pub parts_of-requires-clause-in_scope : goal.parts_of-requires-clause-in_scope
parts_of-requires-clause-in_scope c =
    let s = c.args.query.now in
    let instance : Inst c.args.rule c.args.args ≡ Some c.in-Ok.lits.items = ap (λ (os : List Obj). Inst c.args.rule os) (sym c.items-2.ensures) ∙ c.in-Ok.ensures.ok in
    let over : list_all (is_in_scope s.scope) c.args.args ≡ true =
    ap (λ (os : List Obj). list_all (is_in_scope s.scope) os) (sym c.items.ensures) ∙ sym c.are_in_scope.ensures ∙ c.if-not-are_in_scope.false in
    let good = good_needs c.args.rule s.scope c.args.args c.in-Ok.lits.items s.goal.now c.requires instance over in
    ap (λ (ls : List Lit). list_all (all_in_scope s.scope) ls) (c.deref-3.ensures.value ∙ c.in_ok-needs.ensures) ∙ good.over

pub returns-in-Yes : goal.returns-in-Yes
returns-in-Yes c =
    let s = c.args.query.now in
    let instance : Inst c.args.rule c.args.args ≡ Some c.in-Ok.lits.items = ap (λ (os : List Obj). Inst c.args.rule os) (sym c.items-2.ensures) ∙ c.in-Ok.ensures.ok in
    let over : list_all (is_in_scope s.scope) c.args.args ≡ true =
    ap (λ (os : List Obj). list_all (is_in_scope s.scope) os) (sym c.items.ensures) ∙ sym c.are_in_scope.ensures ∙ c.if-not-are_in_scope.false in
    let one : has c.in-Ok.lits.items s.goal.now ≡ true =
    ap (λ (ls : List Lit). has ls s.goal.now) (sym c.deref.ensures.value) ∙ sym c.has_goal.ensures ∙ c.if-not-has_goal.false in
    good_cert s.scope s.facts.now c.in-Ok.lits.items s.goal.now (record { rule = c.args.rule; args = c.args.args; parts = c.in-Yes.parts }) c.requires over instance one
    (parts_kept s.strength s.scope s.facts.now (needs_beside c.in-Ok.lits.items s.goal.now) c.deref-3.result.now c.in_ok-parts.field-0 c.in-Yes.parts
    (c.deref-3.ensures.value ∙ c.in_ok-needs.ensures) c.in-Yes.is c.in_ok-parts.ensures)

pub returns-in-TooWide : goal.returns-in-TooWide
returns-in-TooWide c =
    let s = c.args.query.now in
    let instance : Inst c.args.rule c.args.args ≡ Some c.in-Ok.lits.items = ap (λ (os : List Obj). Inst c.args.rule os) (sym c.items-2.ensures) ∙ c.in-Ok.ensures.ok in
    let over : list_all (is_in_scope s.scope) c.args.args ≡ true =
    ap (λ (os : List Obj). list_all (is_in_scope s.scope) os) (sym c.items.ensures) ∙ sym c.are_in_scope.ensures ∙ c.if-not-are_in_scope.false in
    let one : has c.in-Ok.lits.items s.goal.now ≡ true =
    ap (λ (ls : List Lit). has ls s.goal.now) (sym c.deref.ensures.value) ∙ sym c.has_goal.ensures ∙ c.if-not-has_goal.false in
    let hold : all_diagrams_hold s.facts.now (needs_beside c.in-Ok.lits.items s.goal.now) ≡ true =
    ap (λ (ls : List Lit). all_diagrams_hold s.facts.now ls) (sym (c.deref-2.ensures.value ∙ c.in_ok-needs.ensures)) ∙ sym c.diagrams_hold.ensures ∙ c.if-not-diagrams_hold.false in
    let stopped = parts_stopped s.strength s.scope s.facts.now (needs_beside c.in-Ok.lits.items s.goal.now) c.deref-3.result.now c.in_ok-parts.field-0 c.in-TooWide.width
    (c.deref-3.ensures.value ∙ c.in_ok-needs.ensures) c.in-TooWide.is c.in_ok-parts.ensures in
    (stopped.0, wide_transfer s.scope s.facts.now c.in-Ok.lits.items s.goal.now c.args.rule c.in-TooWide.width c.args.args c.requires over instance one hold stopped.1)
