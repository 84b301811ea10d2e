use Rattle.std.proofs.Common.{◌∷◌, ◌++◌, [], List, get_or, ℤ, SFits, to_z-of_z, rules, take, map, sym, ap, ap₂, ◌∙◌}
use Rattle.std.proofs.lemmas.List.{take_more, map-append}
use mir.Syntax.{w128}
use Rattle.e_clause.specs.declared.cert.RowName.{RowName}
use Rattle.e_places.specs.Numbered.{row_with_place}
use Rattle.e_places.proofs.places.placed_sum.Goals as goal

pub loop-row-preserved : goal.loop-row-preserved
loop-row-preserved c =
    let m : SFits w128 c.row-item.result.0 = search rules in
    let placed = simp to_z-of_z at c.in-Ok.ensures in
    let xs = c.args.sum.now in
    let i = c.loop-row.row-index in
    let put = row_with_place c.args.facts.now in
    c.in_ok-push-in-Ok.ensures.items ∙ ap₂ {A = List (ℤ × RowName)} {B = ℤ × RowName} (λ ds d. ds ++ d ∷ []) c.loop-row.invariant (placed ∙ ap put c.row-item.is)
    ∙ sym (map-append put (take i xs) (get_or xs i c.row-item.result ∷ [])) ∙ ap (map put) (sym (take_more xs i c.row-item.result c.loop-row-test.true))
