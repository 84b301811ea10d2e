-- The two kinds of rules, by their numbers: those of diagrams and equality are the first
-- of the table.
use Rattle.std.specs.Prelude.{ℕ, Bool, ◌&&◌, nat_le, nat_lt}

-- how many rules there are
abbrev pub rule_count : ℕ
rule_count = 105

-- how many of them are of diagrams and equality
abbrev pub diagram_rule_count : ℕ
diagram_rule_count = 76

-- the rule is a clause of diagrams and equality, which a step may cite
abbrev pub is_diagram_rule : ℕ → Bool
is_diagram_rule rule = nat_lt rule diagram_rule_count

-- the rule is a transfer clause, between diagrams and magnitudes
abbrev pub is_transfer : ℕ → Bool
is_transfer rule = nat_le diagram_rule_count rule && nat_lt rule rule_count
