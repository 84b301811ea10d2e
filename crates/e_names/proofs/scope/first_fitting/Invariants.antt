use Rattle.std.proofs.Common.{◌≡◌, drop}
use Rattle.e_names.specs.Scope.{first_fitting}
use Rattle.e_names.proofs.scope.first_fitting.Given as goal

abbrev pub invariant-loop-shape : goal.invariant-loop-shape
invariant-loop-shape l = record {
  args : l.construction.args ≡ l.fn.args;
  avoid : l.construction.avoid ≡ l.fn.avoid;
  rest : first_fitting l.scope l.fn.args l.fn.avoid (drop l.shape-index l.shapes) ≡ first_fitting l.scope l.fn.args l.fn.avoid l.shapes;
}
