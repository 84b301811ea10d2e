-- What is small has few objects.
use Rattle.std.proofs.Common.{◌≡◌, ◌+◌, ◌≤◌, length, ◌&&◌, true, arith, leb-true, nat_le}
use Rattle.e_literal.specs.declared.object.Scope.{Scope}
use Rattle.e_literal.specs.Scopes.{nothing}
use Rattle.e_literal.specs.Use.{StatementView, scope_of, is_statement}
use Rattle.e_literal.proofs.Booleans.{and_left, and_right}
use Rattle.e_literal.proofs.GrownScopes.{total_grown}
use Rattle.e_deriv.specs.Fitting.{all_objects, is_small, is_small_statement}

-- at most 1,000 objects of each sort
pub record Few (s : Scope) : Type 0 where
  pub points : s.points ≤ 1000
  pub lines : s.lines ≤ 1000
  pub circles : s.circles ≤ 1000

pub few_of_small : (s : Scope) → is_small s ≡ true → Few s
few_of_small s h =
    let lines = nat_le s.lines 1000 in
    let circles = nat_le s.circles 1000 in
    let more = and_right (nat_le s.points 1000) (lines && circles) h in
    record {
      points = leb-true s.points 1000 (and_left (nat_le s.points 1000) (lines && circles) h);
      lines = leb-true s.lines 1000 (and_left lines circles more);
      circles = leb-true s.circles 1000 (and_right lines circles more);
    }

-- a statement has at most 3,000 objects
pub few_objects : (t : StatementView) → is_small_statement t ≡ true → length t.declared + length t.made ≤ 3000
few_objects t h =
    let few = few_of_small (all_objects t) (and_right (is_statement t) (is_small (all_objects t)) h) in
    let declared = total_grown nothing t.declared in
    let all = total_grown (scope_of t) t.made in
    omega (arith, declared, all, few.points, few.lines, few.circles)
