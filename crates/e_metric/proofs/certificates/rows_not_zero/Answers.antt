use Rattle.std.proofs.Common.{◌+◌, ◌++◌, ◌∷◌, [], ◌<◌, ◌∙◌, length, get_or, drop, ap, sym, pos, arith, rules, ℤ, List, SFits, of_z, to_z, to_z-of_z, Vec, Global}
use mir.Syntax.{w128}
use Rattle.e_clause.specs.declared.cert.RowName.{RowName}
use Rattle.e_clause.specs.declared.cert.RowName.TheVariants.{Goal}
use Rattle.e_metric.specs.inner.Certificate.{renamed_at, named_multipliers}
use Rattle.e_metric.proofs.sums.NamedMultipliers.{length_renamed, passed, put}
use Rattle.e_metric.proofs.certificates.rows_not_zero.Goals as goal
use Rattle.e_metric.proofs.certificates.rows_not_zero.Goals.{then-multiplier-ne0+in_ok-name_at+in_ok-push, else-multiplier-ne0}

pub loop-i-preserved : goal.loop-i-preserved
loop-i-preserved c =
    let ns : List RowName = renamed_at c.args.names.now c.args.renamed in
    let ms = c.args.multipliers.now in
    let i = c.loop-i.i in
    let here : i < length ns = omega (arith, c.loop-i-test.true, c.requires, length_renamed c.args.names.now c.args.renamed) in
    let fits : SFits w128 (get_or ms i (pos 0)) = search rules in
    elim c.if-multiplier-ne0.branch [
      | then-multiplier-ne0+in_ok-name_at+in_ok-push w ↦
          let n : RowName = w.in_ok-name_at.field-0 in
          ap (λ (v : Vec (ℤ × RowName) Global). v.items ++ named_multipliers (drop (i + 1) ns) (drop (i + 1) ms)) w.sum-is
          ∙ ap (λ xs. xs ++ named_multipliers (drop (i + 1) ns) (drop (i + 1) ms)) w.in_ok-push.ensures.items
          ∙ ap (λ z. (c.loop-i.sum.items ++ (z, n) ∷ []) ++ named_multipliers (drop (i + 1) ns) (drop (i + 1) ms)) (to_z-of_z fits)
          ∙ put ns ms i c.loop-i.sum.items (named_multipliers ns ms) Goal n here c.loop-i-test.true (λ e. w.if-multiplier-ne0.true (ap (of_z w128) e)) w.in_ok-name_at.ensures c.loop-i.invariant
      | else-multiplier-ne0 w ↦
          ap (λ (v : Vec (ℤ × RowName) Global). v.items ++ named_multipliers (drop (i + 1) ns) (drop (i + 1) ms)) w.sum-is
          ∙ passed ns ms i c.loop-i.sum.items (named_multipliers ns ms) Goal here c.loop-i-test.true (sym (to_z-of_z fits) ∙ ap (to_z w128) w.if-multiplier-ne0.false) c.loop-i.invariant
    ]
