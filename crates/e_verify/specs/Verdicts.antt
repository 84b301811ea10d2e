-- What a derivation is that can be checked.
use Rattle.std.specs.Prelude.{◌≤◌, List, IsTrue}
use Rattle.std.specs.List.{list_all}
use Rattle.e_literal.specs.Use.{StatementView}
use Rattle.e_deriv.specs.Script.{Script, size}
use Rattle.e_deriv.specs.Certified.{derivation_steps}
use Rattle.e_deriv.specs.Fitting.{is_small, is_small_statement}
use Rattle.e_deriv.specs.Written.{is_written_well}

-- the statements have at most 1,000 objects of each sort; the derivation has at most 1,024 steps,
-- before each of them at most 1,000 objects of each sort are in scope, and its literals are well
-- formed
pub record IsVerifiable (before : List StatementView) (t : StatementView)
    (d : Script) : Type 0 where
  pub statements : IsTrue (list_all is_small_statement before)
  pub statement : IsTrue (is_small_statement t)
  pub short : size d ≤ 1024
  pub scopes : IsTrue (list_all (λ x. is_small x.scope) (derivation_steps before t d))
  pub written : IsTrue (is_written_well d)
