-- Citing a rule: what a citation is, and when it gives its literal.
use Rattle.std.specs.Prelude.{List, map, Bool, false, ◌&&◌, is_some}
use Rattle.std.specs.Option.{option_map_or}
use Rattle.std.specs.List.{list_all}
use Rattle.e_literal.specs.Literal.{negation, is_in_scope, all_in_scope}
use Rattle.e_literal.specs.Facts.{has, has_all, others}
use Rattle.e_literal.specs.declared.object.Scope.{Scope}
use Rattle.e_literal.specs.declared.literal.Lit.{Lit}
use Rattle.e_clause.specs.declared.cert.By.{By}
use Rattle.e_clause.specs.Instance.{Inst}
use Rattle.e_clause.specs.RuleKinds.{is_diagram_rule}

-- the rule is one of diagrams and equality, its arguments have the sorts of its variables, and all
-- objects are in scope
abbrev pub is_citation : Scope → By → Bool
is_citation s by =
    is_diagram_rule by.rule
    && (list_all (is_in_scope s) by.args
    && (all_in_scope s by.lit && is_some (Inst by.rule by.args)))

-- the literal is one of the instance, and the negation of each other is a fact
abbrev pub instance_gives : List Lit → Lit → List Lit → Bool
instance_gives facts l lits = has lits l && has_all facts (map negation (others lits l))

-- the cited instance gives the literal
abbrev pub is_cited : List Lit → By → Bool
is_cited facts by = option_map_or (instance_gives facts by.lit) (Inst by.rule by.args) false
