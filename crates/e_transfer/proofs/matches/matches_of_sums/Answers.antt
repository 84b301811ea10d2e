use Rattle.std.proofs.Common.{◌≡◌, ◌∙◌, ◌<◌, List, map, sym, subst, get_or, length, arith}
use Rattle.std.proofs.lemmas.Result.{IfOk-weaker}
use Rattle.e_literal.specs.declared.object.Term.TheVariants.{Seg}
use Rattle.e_transfer.specs.declared.equations.Equation.{Equation}
use Rattle.e_transfer.specs.inner.Equations.{equations_of_points}
use Rattle.e_transfer.specs.inner.Matches.{AgreeAlso, CoverSums, cancelling_matches, match_product}
use Rattle.e_transfer.proofs.GoalMatches.{sums_cancel, points_match, sums_match_both, left_at, nothing_left}
use Rattle.e_transfer.proofs.matches.matches_of_sums.Goals as goal

pub returns-in-empty : goal.returns-in-empty
returns-in-empty c z w left =
    let x = c.args.x.now in let y = c.args.y.now in
    let all = left.1 (nothing_left c.args.terms.now c.in-empty.len_below) in
    IfOk-weaker c.cancellations.result (λ v. v.items ≡ cancelling_matches x y) (λ v. CoverSums x y z w v.items)
    (λ v e. subst (λ (l : List (List Equation)). CoverSums x y z w l) (sym e) (sums_cancel x y z w all.0 all.1)) c.cancellations.ensures

pub returns-in_ok-points-in-len1 : goal.returns-in_ok-points-in-len1
returns-in_ok-points-in-len1 c z w left =
    let x = c.args.x.now in let y = c.args.y.now in
    let t = get_or c.args.terms.now 0 (Seg 0 0) in
    let less : 0 < length c.args.terms.now = omega (arith, c.in-len1.len_at_least) in
    let points = c.deref.result.now in
    let covered = points_match x y z w t points (left_at z w c.args.terms.now 0 (Seg 0 0) left.0 less) (c.deref.ensures.value ∙ c.in_ok-points-in-len1.ensures) in
    IfOk-weaker c.matches_of_points.result (λ v. v.items ≡ map equations_of_points points) (λ v. CoverSums x y z w v.items)
    (λ v e. subst (λ (l : List (List Equation)). CoverSums x y z w l) (sym e) covered) c.matches_of_points.ensures

pub returns-in_ok-other-in-len2-up : goal.returns-in_ok-other-in-len2-up
returns-in_ok-other-in-len2-up c z w left =
    let x = c.args.x.now in let y = c.args.y.now in
    let t = get_or c.args.terms.now 0 (Seg 0 0) in
    let u = get_or c.args.terms.now 1 (Seg 0 0) in
    let first : 0 < length c.args.terms.now = omega (arith, c.in-len2-up.len_at_least) in
    let second : 1 < length c.args.terms.now = omega (arith, c.in-len2-up.len_at_least) in
    let one = c.deref-in-len2-up.result.now in
    let other = c.deref-in-len2-up-2.result.now in
    let a = points_match x y z w t one (left_at z w c.args.terms.now 0 (Seg 0 0) left.0 first) (c.deref-in-len2-up.ensures.value ∙ c.in_ok-one-in-len2-up.ensures) in
    let b = points_match x y z w u other (left_at z w c.args.terms.now 1 (Seg 0 0) left.0 second) (c.deref-in-len2-up-2.ensures.value ∙ c.in_ok-other-in-len2-up.ensures) in
    IfOk-weaker c.product.result (λ v. AgreeAlso (match_product (map equations_of_points one) (map equations_of_points other)) v.items) (λ v. CoverSums x y z w v.items)
    (λ v also f e. also f (sums_match_both x y z w (map equations_of_points one) (map equations_of_points other) a b f e)) c.product.ensures
