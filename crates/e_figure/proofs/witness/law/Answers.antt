-- After the loop no literal of the instance would be true.
use Rattle.std.proofs.Common.{◌≡◌, ◌≤◌, true, true≢false, take, take_all, length, ap, sym, ◌∙◌, Some, arith}
use Rattle.std.specs.List.{list_any}
use Rattle.e_clause.specs.Instance.{Inst}
use Rattle.e_figure.specs.Truth.{is_true}
use Rattle.e_figure.proofs.TrueRows.{every_instance}
use Rattle.e_figure.proofs.witness.law.Goals as goal

pub unreachable-requires : goal.unreachable-requires
unreachable-requires c =
    let lits = c.deref-lit-items.result.now in
    let d = c.args.figure.now in
    let i : Inst c.args.rule c.args.args.now ≡ Some lits = c.in_ok-lits.ensures.ok ∙ ap Some (sym c.deref-lit-items.ensures.value) in
    let t : list_any (is_true d) lits ≡ true = every_instance d c.args.rule c.args.args.now lits c.lines_and_circles_are_proper.ensures c.requires i in
    let e : length lits ≤ c.loop-k.k = c.loop-k-test.false in
    let a : take c.loop-k.k lits ≡ lits = grind (arith, take_all) in
    true≢false (sym t ∙ ap (list_any (is_true d)) (sym a) ∙ c.loop-k.invariant)
