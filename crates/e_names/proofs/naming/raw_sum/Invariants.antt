use Rattle.std.proofs.Common.{◌≡◌, ◌++◌, map, drop}
use Rattle.e_names.specs.Canonical.{raw_mono}
use Rattle.e_names.proofs.naming.raw_sum.Given as goal

abbrev pub invariant-loop-mono : goal.invariant-loop-mono
invariant-loop-mono l = l.sum ++ map (raw_mono l.names) (drop l.mono-index l.monos) ≡ map (raw_mono l.names) l.monos
