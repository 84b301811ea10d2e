use Rattle.std.proofs.Common.{◌≡◌, drop}
use Rattle.e_line.specs.Reading.{with_front, each}
use Rattle.e_names.specs.Scope.{mono_in}
use Rattle.e_names.proofs.terms.sum_in.Given as goal

abbrev pub invariant-loop-mono : goal.invariant-loop-mono
invariant-loop-mono l = with_front l.monos.items (each (mono_in l.names l.kind) (drop l.mono-index l.sum)) ≡ each (mono_in l.names l.kind) l.sum
