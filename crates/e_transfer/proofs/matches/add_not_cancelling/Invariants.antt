use Rattle.std.proofs.Common.{◌≡◌, [], take, IsTrue}
use Rattle.e_transfer.specs.inner.Matches.{none_cancels, all_cancel}
use Rattle.e_transfer.proofs.matches.add_not_cancelling.Given as goal

abbrev pub invariant-loop-m : goal.invariant-loop-m
invariant-loop-m l = record {
  hold : IsTrue (none_cancels l.x l.y l.initial.terms.items) → IsTrue (none_cancels l.x l.y l.terms.items);
  empty : l.terms.items ≡ [] → (l.initial.terms.items ≡ []) × IsTrue (all_cancel l.x l.y (take l.m-index l.sum));
}
