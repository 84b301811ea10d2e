use Rattle.std.proofs.Common.{◌≡◌, ◌++◌, drop}
use Rattle.std.specs.Prelude.{flat_map}
use Rattle.e_commands.specs.Rewrites.{title_word}
use Rattle.e_commands.proofs.rewriting.put_titles.Given as goal

abbrev pub invariant-loop-place : goal.invariant-loop-place
invariant-loop-place l = l.out.items ++ flat_map (title_word l.known) (drop l.place-index l.places) ≡ l.initial.out.items ++ flat_map (title_word l.known) l.places
