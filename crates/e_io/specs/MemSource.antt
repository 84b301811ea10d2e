-- A source in memory.
use Rattle.std.specs.Prelude.{ℕ, Bool, ◌==◌, min, List, ◌++◌, length, take, drop, if◌then◌else◌}
use Rattle.std.specs.List.{list_any}
use Rattle.e_io.specs.Bytes.{one_more}

-- the bytes still to come, the numbers of the calls that fail, the most that a call gives,
-- the number of the next call, and how many calls have failed
pub record Supply : Type 0 where
  pub left : List ℕ
  pub fail : List ℕ
  pub piece : ℕ
  pub call : ℕ
  pub faults : ℕ

-- whether the next call fails
abbrev pub fails : Supply → Bool
fails s = list_any (λ n. n == s.call) s.fail

-- how many bytes a call gives that does not fail, by the room of its buffer
abbrev pub bytes_given : Supply → ℕ → ℕ
bytes_given s room = min (min s.piece room) (length s.left)

-- the source after a call
abbrev pub after_read : Supply → ℕ → Supply
after_read s room =
    if fails s
    then record s { call = one_more s.call; faults = one_more s.faults }
    else record s { left = drop (bytes_given s room) s.left; call = one_more s.call }

-- the buffer after a call: what was given is at its front
abbrev pub buffer_after : Supply → List ℕ → List ℕ
buffer_after s to =
    if fails s then to else take (bytes_given s (length to)) s.left ++ drop (bytes_given s (length to)) to
