-- No literal so far is true.
use Rattle.std.proofs.Common.{◌≡◌, false, take}
use Rattle.std.specs.List.{list_any}
use Rattle.e_figure.specs.Truth.{is_true}
use Rattle.e_figure.proofs.witness.law.Given as goal

abbrev pub invariant-loop-k : goal.invariant-loop-k
invariant-loop-k l = list_any (is_true l.figure) (take l.k l.lit-items) ≡ false
