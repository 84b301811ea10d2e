-- The last lines of each answer.
use Rattle.std.specs.Prelude.{ℕ, List, ◌++◌, Bool, if◌then◌else◌, codes, decimal}
use Rattle.e_line.specs.declared.fault.BookFault.{BookFault}
use Rattle.e_line.specs.declared.fault.BookFault.TheVariants as faults
use Rattle.e_line.specs.declared.fault.What.{What}
use Rattle.e_line.specs.declared.fault.What.TheVariants as limits

abbrev pub what_word : What → List ℕ
what_word limits.Bytes = codes "bytes"
what_word limits.LineBytes = codes "line-bytes"
what_word limits.Theorems = codes "theorems"
what_word limits.Points = codes "points"
what_word limits.Lines = codes "lines"
what_word limits.Circles = codes "circles"
what_word limits.Steps = codes "steps"
what_word limits.Depth = codes "depth"
what_word limits.Facts = codes "facts"
what_word limits.Monomials = codes "monomials"
what_word limits.Coefficient = codes "coefficient"
what_word limits.Terms = codes "terms"
what_word limits.Blanks = codes "blanks"
what_word limits.Notions = codes "notions"
what_word limits.Expanded = codes "expanded"
what_word limits.Number = codes "number"

-- what is wrong with a line
abbrev pub fault_words : BookFault → List ℕ
fault_words (faults.Malformed line) = codes " malformed\n"
fault_words (faults.UnknownName line) = codes " unknown-name\n"
fault_words (faults.NameTaken line) = codes " name-taken\n"
fault_words (faults.WrongSort line) = codes " wrong-sort\n"
fault_words (faults.Limit line what) = codes " limit " ++ (what_word what ++ codes "\n")
fault_words (faults.Unended line) = codes " unended\n"
fault_words faults.NoMemory = codes "\n"

-- the number of the faulty line
abbrev pub faulty_line : BookFault → ℕ
faulty_line (faults.Malformed line) = line
faulty_line (faults.UnknownName line) = line
faulty_line (faults.NameTaken line) = line
faulty_line (faults.WrongSort line) = line
faulty_line (faults.Limit line what) = line
faulty_line (faults.Unended line) = line
faulty_line faults.NoMemory = 0

abbrev pub fault_line : BookFault → List ℕ
fault_line f = codes "fault " ++ (decimal (faulty_line f) ++ fault_words f)

abbrev pub usage_line : List ℕ
usage_line = codes "usage: elements check | verify | make N | trial N | upgrade | figure | trim | uses | suggest TITLE STEP\n"

abbrev pub read_fault_line : List ℕ
read_fault_line = codes "read fault\n"

abbrev pub no_memory_line : List ℕ
no_memory_line = codes "no memory\n"

abbrev pub verified_line : ℕ → List ℕ
verified_line n = codes "verified " ++ (decimal n ++ codes "\n")

-- the number of lines that are suggested; of a thousand whether more are left
abbrev pub suggested_line : ℕ → Bool → List ℕ
suggested_line n more =
    codes "suggest " ++ (decimal n ++ (if more then codes " more\n" else codes "\n"))

abbrev pub no_step_line : List ℕ
no_step_line = codes "no step\n"

-- the theorem and the number of its step
abbrev pub bad_line : List ℕ → ℕ → List ℕ
bad_line title step = codes "bad " ++ (title ++ (codes " " ++ (decimal step ++ codes "\n")))

abbrev pub garbled_line : ℕ → List ℕ
garbled_line line = codes "garbled " ++ (decimal line ++ codes "\n")

-- after the lines of what each of n theorems applies
abbrev pub listed_line : ℕ → List ℕ
listed_line n = codes "listed " ++ (decimal n ++ codes "\n")

abbrev pub text_limit_line : List ℕ
text_limit_line = codes "text limit\n"

abbrev pub tried_line : ℕ → ℕ → List ℕ
tried_line n s =
    codes "trial " ++ (decimal n ++ (codes " theorems " ++ (decimal n
    ++ (codes " steps " ++ (decimal s ++ (codes " verified " ++ (decimal n ++ codes "\n")))))))
