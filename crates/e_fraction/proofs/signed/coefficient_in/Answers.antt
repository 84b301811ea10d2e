-- The first summand with the term has its coefficient, since no term comes twice.
use Rattle.std.proofs.Common.{◌≡◌, true, to_z-of_z, SFits, rules, sym, ap, ◌∙◌, get_or, take, length, pos, arith}
use Rattle.std.specs.List.{list_any}
use mir.Syntax.{w64}
use Rattle.e_literal.specs.declared.object.Term.TheVariants.{Seg}
use Rattle.e_literal.specs.Same.{term_eq}
use Rattle.e_fraction.proofs.Sums.{coefficient_at, none_in_all}
use Rattle.e_fraction.proofs.signed.coefficient_in.Goals as goal

pub returns-then-eq : goal.returns-then-eq
returns-then-eq c =
    let f : SFits w64 (get_or c.args.summands.now c.loop-p.p-index (pos 0, Seg 0 0)).0 = search rules in
    let e : term_eq (get_or c.args.summands.now c.loop-p.p-index (pos 0, Seg 0 0)).1 c.args.term ≡ true = search rules in
    simp to_z-of_z (sym (coefficient_at c.args.summands.now c.args.term c.loop-p.p-index (pos 0, Seg 0 0) c.loop-p-test.true c.loop-p.invariant e c.requires))

pub returns : goal.returns
returns c =
    let e : length c.args.summands.now ≡ c.loop-p.p-index = omega arith in
    sym (none_in_all c.args.summands.now c.args.term (ap (λ n. list_any (λ q. term_eq q.1 c.args.term) (take n c.args.summands.now)) e ∙ c.loop-p.invariant))
