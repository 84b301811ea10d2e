-- An answer to a question that may be left open for one reason.
use Rattle.std.specs.Prelude.{Bool, true, false, Option, Some, None}

-- yes, and it holds; no, and it does not; or there is this reason for no answer
abbrev pub Decides : Type 0 → Type 0 → Option Bool → Type 0
Decides Holds Reason (Some true) = Holds
Decides Holds Reason (Some false) = ¬ Holds
Decides Holds Reason None = Reason
