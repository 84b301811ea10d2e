-- A sink in memory.
use Rattle.std.specs.Prelude.{ℕ, Bool, ◌-◌, ◌||◌, ◌==◌, min, List, ◌++◌, length, take}
use Rattle.std.specs.Prelude.{if◌then◌else◌}
use Rattle.std.specs.List.{list_any}
use Rattle.e_io.specs.Bytes.{one_more}

-- what was written, the most that it holds, the numbers of the calls that fail, the most that a
-- call takes, the number of the next call, and how many calls have failed
pub record Store : Type 0 where
  pub written : List ℕ
  pub room : ℕ
  pub fail : List ℕ
  pub piece : ℕ
  pub call : ℕ
  pub faults : ℕ

-- whether the next call fails
abbrev pub fails : Store → Bool
fails s = list_any (λ n. n == s.call) s.fail || length s.written == s.room

-- how many bytes a call takes that does not fail, by how many are offered
abbrev pub bytes_taken : Store → ℕ → ℕ
bytes_taken s offered = min (min s.piece offered) (s.room - length s.written)

-- the sink after a call
abbrev pub after_write : Store → List ℕ → Store
after_write s from =
    if fails s
    then record s { call = one_more s.call; faults = one_more s.faults }
    else record s {
      written = s.written ++ take (bytes_taken s (length from)) from;
      call = one_more s.call;
    }
