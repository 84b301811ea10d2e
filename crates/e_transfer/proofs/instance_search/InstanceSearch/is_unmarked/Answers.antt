use Rattle.std.proofs.Common.{◌≡◌, ap, sym, ◌∙◌, get_or, false}
use Rattle.std.specs.Prelude.{slice_get, Some}
use Rattle.std.proofs.lemmas.Bool.{not-true}
use Rattle.e_literal.specs.declared.literal.Lit.{Lit}
use Rattle.e_clause.specs.Instance.{clause_of, lit_at}
use Rattle.e_clause.specs.Views.{atom_of, row_of}
use Rattle.e_transfer.specs.inner.PartsOfChoices.{arguments_by}
use Rattle.e_transfer.specs.SumMarks.{sum_mark}
use Rattle.e_transfer.proofs.Instances.{at_map}
use Rattle.e_transfer.proofs.MarkedSums.{unmarked_unfit}
use Rattle.e_transfer.proofs.instance_search.InstanceSearch.is_unmarked.Goals as goal

pub returns-in-Some : goal.returns-in-Some
returns-in-Some c = λ e.
    let s = c.args.self.now.query in
    let n = c.args.numbers.now in
    let r = row_of n.row.now in
    let is = c.asks_facts.ensures c.if-not-asks_facts.false in
    let l : Lit = record { neg = c.parts-neg.result.1; atom = atom_of c.parts-neg.result.0.now } in
    let here : slice_get (clause_of r) c.args.j ≡ Some l = c.pattern_at-negated.ensures ∙ ap (λ (k : Lit). Some k) c.parts-neg.ensures in
    let lit : Lit = lit_at r (arguments_by n) l in
    let none : get_or s.sum_marks (sum_mark lit.atom) false ≡ false = ap (λ k. get_or s.sum_marks k false) (sym c.in-Some.ensures.is) ∙ not-true (get_or s.sum_marks c.in-Some.mark false) e in (
      lit,
      at_map (lit_at r (arguments_by n)) (clause_of r) c.args.j l here,
      unmarked_unfit s.strength s.facts.now s.goal.now s.sum_marks lit is (s.sum_marked is).0 (s.sum_marked is).1 none,
    )
