-- Names and statements are few.
use Rattle.std.proofs.Common.{◌≡◌, ℕ, zero, suc, ◌+◌, ◌≤◌, ◌<◌, ◌^◌, true, List, [], ◌∷◌, length, arith}
use Rattle.std.specs.List.{list_all}
use Rattle.std.proofs.lemmas.Bool.{and_parts}
use Rattle.e_literal.specs.Scopes.{nothing, with_sorts}
use Rattle.e_literal.specs.Use.{StatementView}
use Rattle.e_literal.proofs.GrownScopes.{total, total_grown}
use Rattle.e_clause.specs.declared.cert.Version.{Version}
use Rattle.e_deriv.specs.PlacedSteps.{theorem_at}
use Rattle.e_deriv.specs.Fitting.{is_small_statement}
use Rattle.e_deriv.proofs.Smallness.{few_objects}
use Rattle.e_book.specs.declared.parser.TheoremParser.{TheoremParser}
use Rattle.e_read.specs.inner.Machine.{at_start, FitsParser, FitsReading}

-- the objects that are declared and made have numbers
pub made_fits : (d : TheoremParser) → FitsParser d → let s = with_sorts nothing d.declared in
    (s.points + length d.made < 2 ^ 16) × (s.lines + length d.made < 2 ^ 16) × (s.circles + length d.made < 2 ^ 16)
made_fits d f =
    let t = total_grown nothing d.declared in
    let n = f.scope.names in
    let few : total (with_sorts nothing d.declared) + length d.made < 2 ^ 16 = omega (arith, t, f.scope.declared, f.made, n.points, n.lines, n.circles) in
    (omega (arith, few), omega (arith, few), omega (arith, few))

-- no line has come yet
pub start_fits : (v : Version) → FitsReading (at_start v)
start_fits v = record { parser = tt; names = record { points = omega arith; lines = omega arith; circles = omega arith } }

-- so has each of small statements
pub few_at : (before : List StatementView) (k : ℕ) → list_all is_small_statement before ≡ true → length (theorem_at before k).declared + length (theorem_at before k).made ≤ 3000
few_at [] k h = omega arith
few_at (t ∷ before) zero h = few_objects t (and_parts (is_small_statement t) (list_all is_small_statement before) h).0
few_at (t ∷ before) (suc k) h = few_at before k (and_parts (is_small_statement t) (list_all is_small_statement before) h).1
