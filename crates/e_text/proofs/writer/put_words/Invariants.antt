use Rattle.std.proofs.Common.{◌≡◌, ◌≤◌, ◌++◌, drop, length, map, take}
use Rattle.e_text.specs.Tokens.{with_spaces}
use Rattle.e_text.proofs.writer.put_words.Given as goal

abbrev pub invariant-loop-word : goal.invariant-loop-word
invariant-loop-word l =
    (l.out.items ++ with_spaces (map (λ w. w.now) (drop l.word-index l.words)) ≡ l.initial.out.items ++ with_spaces (map (λ w. w.now) l.words)) × (l.before ≤ length l.out.items) × (take l.before l.out.items ≡ l.initial.out.items)
