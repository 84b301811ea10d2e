use Rattle.std.proofs.Common.{◌≡◌, ◌∙◌, [], ◌∷◌, ◌++◌, Bool, true, false, not, true≢false, refl, sym, ap, length, arith}
use Rattle.std.proofs.Math.Seq.{take-append_seam}
use Rattle.std.specs.List.{list_any}
use Rattle.e_literal.specs.Facts.{has}
use Rattle.e_facts.specs.contracts.key.KeyPartialEq.TheImpl.{eq-value}
use Rattle.e_facts.proofs.Keys.{has_by_key}
use Rattle.e_facts.proofs.TablesOfFacts.{kept_push_diagram}
use Rattle.e_facts.proofs.Joining.{joined_present, joined_new}
use Rattle.e_facts.proofs.facts.Facts.add_diagram.Goals as goal

not_in : (b r : Bool) → r ≡ not b → r ≡ true → b ≡ false
not_in true r e h = absurd (true≢false (sym h ∙ e))
not_in false r e h = refl

is_in : (b r : Bool) → r ≡ not b → r ≡ false → b ≡ true
is_in true r e h = refl
is_in false r e h = absurd (true≢false (sym e ∙ h))

pub invariant_of-self-in-Ok-true : goal.invariant_of-self-in-Ok-true
invariant_of-self-in-Ok-true c =
    let absent : list_any (eq-value.it c.args.key) c.self.inside.keys.keys ≡ false = not_in _ _ c.in-Ok-true.ensures.added c.in-Ok-true.field-0-test in
    let new : has c.self.inside.lits.items c.args.lit ≡ false
    = sym (ap (list_any (eq-value.it c.args.key)) c.self.invariant.keyed ∙ has_by_key c.self.inside.lits.items c.args.lit c.args.key c.requires) ∙ absent in
    rw (c.in_ok-push.ensures.items, c.in-Ok-true.ensures.keys)
    (kept_push_diagram c.self.inside.lits.items c.args.lit c.self.inside.keys.keys c.self.inside.places.items c.args.key c.self.invariant new c.requires)

pub returns-in-Ok-true-clause-added : goal.returns-in-Ok-true-clause-added
returns-in-Ok-true-clause-added c =
    let absent : list_any (eq-value.it c.args.key) c.self.inside.keys.keys ≡ false = not_in _ _ c.in-Ok-true.ensures.added c.in-Ok-true.field-0-test in (
      sym (ap (list_any (eq-value.it c.args.key)) c.self.invariant.keyed ∙ has_by_key c.self.inside.lits.items c.args.lit c.args.key c.requires ∙ ap (λ ls. has ls c.args.lit) c.self.view_is) ∙ absent,
      c.in_ok-push.ensures.items ∙ ap (λ ls. ls ++ c.args.lit ∷ []) c.self.view_is,
    )

pub returns-in-Ok-true-clause-joined : goal.returns-in-Ok-true-clause-joined
returns-in-Ok-true-clause-joined c =
    let absent : list_any (eq-value.it c.args.key) c.self.inside.keys.keys ≡ false = not_in _ _ c.in-Ok-true.ensures.added c.in-Ok-true.field-0-test in
    let new : has c.args.self.now c.args.lit ≡ false
    = sym (ap (list_any (eq-value.it c.args.key)) c.self.invariant.keyed ∙ has_by_key c.self.inside.lits.items c.args.lit c.args.key c.requires ∙ ap (λ ls. has ls c.args.lit) c.self.view_is) ∙ absent in
    c.in_ok-push.ensures.items ∙ ap (λ ls. ls ++ c.args.lit ∷ []) c.self.view_is ∙ sym (joined_new c.args.self.now c.args.lit new)

pub returns-in-Ok-false-clause-added : goal.returns-in-Ok-false-clause-added
returns-in-Ok-false-clause-added c =
    let there : list_any (eq-value.it c.args.key) c.self.inside.keys.keys ≡ true = is_in _ _ c.in-Ok-false.ensures.added c.in-Ok-false.field-0-test in
    let n : c.len-count.result ≡ length c.self.inside.lits.items = omega arith in (
      sym (ap (list_any (eq-value.it c.args.key)) c.self.invariant.keyed ∙ has_by_key c.self.inside.lits.items c.args.lit c.args.key c.requires ∙ ap (λ ls. has ls c.args.lit) c.self.view_is) ∙ there,
      rw (c.truncate.ensures.items, c.in_ok-push.ensures.items, n) (take-append_seam c.self.inside.lits.items (c.args.lit ∷ []) ∙ c.self.view_is),
    )

pub returns-in-Ok-false-clause-joined : goal.returns-in-Ok-false-clause-joined
returns-in-Ok-false-clause-joined c =
    let there : list_any (eq-value.it c.args.key) c.self.inside.keys.keys ≡ true = is_in _ _ c.in-Ok-false.ensures.added c.in-Ok-false.field-0-test in
    let old : has c.args.self.now c.args.lit ≡ true
    = sym (ap (list_any (eq-value.it c.args.key)) c.self.invariant.keyed ∙ has_by_key c.self.inside.lits.items c.args.lit c.args.key c.requires ∙ ap (λ ls. has ls c.args.lit) c.self.view_is) ∙ there in
    let n : c.len-count.result ≡ length c.self.inside.lits.items = omega arith in
    let same : c.truncate.new.self.items ≡ c.args.self.now
    = rw (c.truncate.ensures.items, c.in_ok-push.ensures.items, n) (take-append_seam c.self.inside.lits.items (c.args.lit ∷ []) ∙ c.self.view_is) in
    same ∙ sym (joined_present c.args.self.now c.args.lit old)
