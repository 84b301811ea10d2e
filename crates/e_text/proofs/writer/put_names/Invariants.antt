use Rattle.std.proofs.Common.{◌≡◌, ◌≤◌, ◌++◌, drop, length, take}
use Rattle.e_text.specs.Tokens.{with_spaces}
use Rattle.e_text.proofs.writer.put_names.Given as goal

abbrev pub invariant-loop-name : goal.invariant-loop-name
invariant-loop-name l =
    (l.out.items ++ with_spaces (drop l.name-index l.names) ≡ l.initial.out.items ++ with_spaces l.names) × (l.before ≤ length l.out.items) × (take l.before l.out.items ≡ l.initial.out.items)
