-- The book that make writes: theorems on points in order, each but every sixth by the one before
-- it.
use Rattle.std.specs.Prelude.{ℕ, zero, suc, ◌+◌, ◌-◌, ◌%◌, List, [], ◌∷◌, ◌++◌, nat_lt, flat_map}
use Rattle.std.specs.Prelude.{codes, decimal, if◌then◌else◌}

-- this many numbers, from this one on
abbrev pub numbers : ℕ → ℕ → List ℕ
numbers from zero = []
numbers from (suc n) = from ∷ numbers (from + 1) n

-- ---- words, each after a space

abbrev pub point : ℕ → List ℕ
point i = codes " p" ++ decimal i

abbrev pub segment : ℕ → ℕ → List ℕ
segment i j = codes " seg" ++ (point i ++ point j)

abbrev pub between : ℕ → ℕ → ℕ → List ℕ
between i j k = codes " between" ++ (point i ++ (point j ++ point k))

abbrev pub points_to : ℕ → List ℕ
points_to n = flat_map point (numbers 0 n)

-- ---- the statement, where m is the number of the last point

abbrev pub points_line : ℕ → List ℕ
points_line m = codes "points" ++ (points_to (m + 1) ++ codes "\n")

abbrev pub given_between_line : ℕ → List ℕ
given_between_line i = codes "given" ++ (between i (i + 1) (i + 2) ++ codes "\n")

abbrev pub plus_segment : ℕ → List ℕ
plus_segment i = codes " +" ++ segment i (i + 1)

-- the lengths between neighbours make the whole length
abbrev pub show_sum : ℕ → List ℕ
show_sum m =
    codes "show" ++ (segment 0 1 ++ (flat_map plus_segment (numbers 1 (m - 1))
    ++ (codes " =" ++ (segment 0 m ++ codes "\n"))))

-- and the first is less than it
abbrev pub show_less : ℕ → List ℕ
show_less m = codes "show" ++ (segment 0 1 ++ (codes " <" ++ (segment 0 m ++ codes "\n")))

-- ---- the proof

abbrev pub apply_previous_line : ℕ → ℕ → List ℕ
apply_previous_line k m = codes "apply G" ++ (decimal (k - 1) ++ (points_to m ++ codes "\n"))

-- the theorem before, where it has one point less
abbrev pub line_before : ℕ → ℕ → List ℕ
line_before k m = if nat_lt 3 m then apply_previous_line k m else []

-- three points in order are in order from the other end
abbrev pub turned_line : ℕ → ℕ → ℕ → List ℕ
turned_line i j k =
    codes "by b1a"
    ++ (point i ++ (point j ++ (point k ++ (codes " :" ++ (between k j i ++ codes "\n")))))

-- two runs of three points join
abbrev pub run : ℕ → List ℕ
run i =
    codes "by b5" ++ (point (i + 1)
    ++ (point i ++ (point (i - 1) ++ (codes " p0 :" ++ (between (i + 1) i 0 ++ codes "\n")))))

-- so each point is between the first and the next
abbrev pub cites : ℕ → List ℕ
cites i = turned_line (i - 1) i (i + 1) ++ (run i ++ turned_line (i + 1) i 0)

abbrev pub hence_line : ℕ → List ℕ
hence_line i =
    codes "hence"
    ++ (segment 0 i ++ (plus_segment i ++ (codes " =" ++ (segment 0 (i + 1) ++ codes "\n"))))

-- ---- theorem k

-- the number of its last point: 3 to 8, over and over
abbrev pub last : ℕ → ℕ
last k = 3 + (k - 1) % 6

abbrev pub statement : ℕ → ℕ → List ℕ
statement k m =
    codes "theorem G" ++ (decimal k ++ (codes "\n" ++ (points_line m
    ++ (flat_map given_between_line (numbers 0 (m - 1)) ++ (show_sum m ++ show_less m)))))

abbrev pub proof : ℕ → ℕ → List ℕ
proof k m =
    codes "proof\n" ++ (line_before k m ++ (codes "by b1b p1 p2 p3 : p1 != p2\n"
    ++ (turned_line 0 1 2 ++ (flat_map cites (numbers 2 (m - 2))
    ++ (flat_map hence_line (numbers 1 (m - 1)) ++ codes "qed\nend\n")))))

abbrev pub generated_theorem_text : ℕ → List ℕ
generated_theorem_text k = statement k (last k) ++ proof k (last k)

-- ---- the book of n theorems

abbrev pub generated_text : ℕ → List ℕ
generated_text n = flat_map generated_theorem_text (numbers 1 n)
