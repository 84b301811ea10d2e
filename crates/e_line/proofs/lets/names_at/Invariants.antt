use Rattle.std.proofs.Common.{◌≡◌, drop, map}
use Rattle.e_construct.specs.Views.{piece_view}
use Rattle.e_line.specs.Reading.{with_front, texts, names_of}
use Rattle.e_line.specs.Lets.{words_in_slots}
use Rattle.e_line.proofs.lets.names_at.Given as goal

abbrev pub invariant-loop-i : goal.invariant-loop-i
invariant-loop-i l =
    with_front l.names (names_of (words_in_slots l.slot (map piece_view (drop l.i l.pieces)) (drop l.i (texts l.words)))) ≡ names_of (words_in_slots l.slot (map piece_view l.pieces) (texts l.words))
