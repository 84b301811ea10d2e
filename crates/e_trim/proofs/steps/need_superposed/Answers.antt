use Rattle.std.proofs.Common.{rules, ◌≡◌, ◌∙◌, [], ◌∷◌, length, ap, arith}
use Rattle.e_trim.specs.Looked.{both, wanted_objects}
use Rattle.e_trim.proofs.kept_scripts.StepParts.{and_so}
use Rattle.e_trim.proofs.renumbering.SuperposedAt.{objects_at, objects_are}
use Rattle.e_trim.proofs.steps.need_superposed.Goals as goal

pub returns : goal.returns
returns c =
    let e : length c.args.superposition.now.points ≡ 6 = omega arith in
    let f : length c.args.superposition.now.lines ≡ 2 = omega arith in
    let g
    : (c.point.result ∷ c.point-2.result ∷ c.point-3.result ∷ c.point-4.result ∷ c.point-5.result ∷ c.point-6.result ∷ c.line.result ∷ c.line-2.result ∷ []) ≡ objects_at c.args.superposition.now.points c.args.superposition.now.lines
    = search rules in
    and_so c.need_all.result (λ h. h ∙ ap (λ os. both c.args.out.now (wanted_objects os)) (g ∙ objects_are c.args.superposition.now e f)) c.need_all.ensures
