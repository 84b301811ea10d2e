-- What a theorem that is read is known to be: its objects are in scope, its names are theirs, it is
-- within the limits.
use Rattle.std.specs.Prelude.{◌≡◌, ℕ, ◌+◌, ◌≤◌, List, [], length, nat_le, Bool, true, false, ◌&&◌}
use Rattle.std.specs.Prelude.{IsTrue, Ok}
use Rattle.std.specs.List.{list_all}
use Rattle.e_literal.specs.declared.object.Scope.{Scope}
use Rattle.e_literal.specs.declared.object.Sort.TheVariants.{Point, Line, Circle}
use Rattle.e_literal.specs.Literal.{all_in_scope}
use Rattle.e_literal.specs.WellFormed.{is_well_formed}
use Rattle.e_literal.specs.Scopes.{with_sorts}
use Rattle.e_literal.specs.Use.{StatementView, scope_of}
use Rattle.e_construct.specs.Construct.{sorts_made, gives_of_construction}
use Rattle.e_construct.specs.Superposing as superposing
use Rattle.e_theorem.specs.Statements.{as_view}
use Rattle.e_deriv.specs.declared.names.Names.{Names}
use Rattle.e_deriv.specs.Script.{Script, Cite, Hence, Make, Apply, Claim, Superposed, Qed}
use Rattle.e_deriv.specs.Script.{Contradiction, Cases, size, depth}
use Rattle.e_deriv.specs.PlacedSteps.{theorem_at, proof_steps}
use Rattle.e_deriv.specs.Naming.{with_new_names, declared_names}
use Rattle.e_deriv.specs.Fitting.{all_objects, fits_with_blanks}
use Rattle.e_line.specs.Limits.{most_of, most_steps, most_depth, most_facts}
use Rattle.e_line.specs.Limits.{most_monomials_of_facts}
use Rattle.e_line.specs.Limits.{most_blanks, monomials, count_monomials}
use Rattle.e_names.specs.TitledStatements.{TitledStatement, is_known, stated_by}
use Rattle.e_names.specs.Scope.{scope_of_names, fresh}
use Rattle.e_names.specs.Applies.{count_blanks}
use Rattle.e_book.specs.LineLimits.{few_objects}
use Rattle.e_book.specs.TheoremViews.{TheoremView}
use Rattle.e_names.specs.Fits.{NamesDiffer, is_diagram_lit}

-- at each construction, use of an earlier theorem and superposition none of the new names is in
-- scope and no two are equal, there is one for each new object, and with them not too many objects
-- are in scope
unfoldable pub NewNamesFit : List StatementView → Names → Script → Type 0
NewNamesFit before ns (Cite by rest) = NewNamesFit before ns rest
NewNamesFit before ns (Hence lit cert rest) = NewNamesFit before ns rest
NewNamesFit before ns (Make construction names certs rest) =
    (fresh ns [] names ≡ Ok tt) × (length names ≡ length (sorts_made construction))
    × (few_objects (with_new_names ns (sorts_made construction) names) ≡ Ok tt)
    × NewNamesFit before (with_new_names ns (sorts_made construction) names) rest
NewNamesFit before ns (Apply theorem args names certs rest) =
    (fresh ns [] names ≡ Ok tt) × (length names ≡ length (theorem_at before theorem).made)
    × (few_objects (with_new_names ns (theorem_at before theorem).made names) ≡ Ok tt)
    × NewNamesFit before (with_new_names ns (theorem_at before theorem).made names) rest
NewNamesFit before ns (Claim shown inner rest) =
    NewNamesFit before ns inner × NewNamesFit before ns rest
NewNamesFit before ns (Superposed superposition names shown certs inner rest) =
    (fresh ns [] names ≡ Ok tt) × (length names ≡ length superposing.sorts_copied)
    × (few_objects (with_new_names ns superposing.sorts_copied names) ≡ Ok tt)
    × NewNamesFit before (with_new_names ns superposing.sorts_copied names) inner
    × NewNamesFit before ns rest
NewNamesFit before ns (Qed objects certs) = Unit {0}
NewNamesFit before ns (Contradiction against) = Unit {0}
NewNamesFit before ns (Cases lit first second) =
    NewNamesFit before ns first × NewNamesFit before ns second

-- this many literals are facts before the script, repeats counted, and nowhere in it more than the
-- limit
unfoldable pub few_facts : List StatementView → ℕ → Scope → Script → Bool
few_facts before n s (Cite by rest) = nat_le (n + 1) most_facts && few_facts before (n + 1) s rest
few_facts before n s (Hence lit cert rest) =
    nat_le (n + 1) most_facts && few_facts before (n + 1) s rest
few_facts before n s (Make construction names certs rest) =
    nat_le (n + length (gives_of_construction construction s)) most_facts
    && few_facts before (n + length (gives_of_construction construction s))
    (with_sorts s (sorts_made construction)) rest
few_facts before n s (Apply theorem args names certs rest) =
    nat_le (n + length (theorem_at before theorem).shown) most_facts
    && few_facts before (n + length (theorem_at before theorem).shown)
    (with_sorts s (theorem_at before theorem).made) rest
few_facts before n s (Claim shown inner rest) =
    few_facts before n s inner
    && (nat_le (n + length shown) most_facts && few_facts before (n + length shown) s rest)
few_facts before n s (Superposed superposition names shown certs inner rest) =
    nat_le (n + length (superposing.gives_of_superposition superposition s)) most_facts
    && (few_facts before (n + length (superposing.gives_of_superposition superposition s))
    (with_sorts s superposing.sorts_copied) inner
    && (nat_le (n + length shown) most_facts && few_facts before (n + length shown) s rest))
few_facts before n s (Qed objects certs) = true
few_facts before n s (Contradiction against) = true
few_facts before n s (Cases lit first second) =
    nat_le (n + 1) most_facts
    && (few_facts before (n + 1) s first && few_facts before (n + 1) s second)

-- the literals of a script are well formed, and no citation speaks of magnitudes
unfoldable pub has_well_formed_literals : Script → Bool
has_well_formed_literals (Cite by rest) = is_diagram_lit by.lit && has_well_formed_literals rest
has_well_formed_literals (Hence lit cert rest) = is_well_formed lit && has_well_formed_literals rest
has_well_formed_literals (Make construction names certs rest) = has_well_formed_literals rest
has_well_formed_literals (Apply theorem args names certs rest) = has_well_formed_literals rest
has_well_formed_literals (Claim shown inner rest) =
    list_all is_well_formed shown
    && (has_well_formed_literals inner && has_well_formed_literals rest)
has_well_formed_literals (Superposed superposition names shown certs inner rest) =
    list_all is_well_formed shown
    && (has_well_formed_literals inner && has_well_formed_literals rest)
has_well_formed_literals (Qed objects certs) = true
has_well_formed_literals (Contradiction against) = true
has_well_formed_literals (Cases lit first second) =
    is_well_formed lit && (has_well_formed_literals first && has_well_formed_literals second)

-- the facts before the script have this many monomials, and nowhere in it more than the limit
unfoldable pub few_terms : List StatementView → ℕ → Scope → Script → Bool
few_terms before n s (Cite by rest) = few_terms before n s rest
few_terms before n s (Hence lit cert rest) =
    let m = n + monomials lit.atom in nat_le m most_monomials_of_facts && few_terms before m s rest
few_terms before n s (Make construction names certs rest) =
    few_terms before n (with_sorts s (sorts_made construction)) rest
few_terms before n s (Apply theorem args names certs rest) =
    nat_le (n + count_monomials (theorem_at before theorem).shown) most_monomials_of_facts
    && few_terms before (n + count_monomials (theorem_at before theorem).shown)
    (with_sorts s (theorem_at before theorem).made) rest
few_terms before n s (Claim shown inner rest) =
    few_terms before n s inner && (nat_le (n + count_monomials shown) most_monomials_of_facts
    && few_terms before (n + count_monomials shown) s rest)
few_terms before n s (Superposed superposition names shown certs inner rest) =
    let m = n + count_monomials (superposing.gives_of_superposition superposition s) in
    nat_le m most_monomials_of_facts
    && (few_terms before m (with_sorts s superposing.sorts_copied) inner
    && (nat_le (n + count_monomials shown) most_monomials_of_facts
    && few_terms before (n + count_monomials shown) s rest))
few_terms before n s (Qed objects certs) = true
few_terms before n s (Contradiction against) = true
few_terms before n s (Cases lit first second) =
    let m = n + monomials lit.atom in nat_le m most_monomials_of_facts
    && (few_terms before m s first && few_terms before m s second)

-- no line has more blanks than the limit
unfoldable pub few_blanks : Script → Bool
few_blanks (Cite by rest) = few_blanks rest
few_blanks (Hence lit cert rest) = few_blanks rest
few_blanks (Make construction names certs rest) = few_blanks rest
few_blanks (Apply theorem args names certs rest) =
    nat_le (count_blanks args) most_blanks && few_blanks rest
few_blanks (Claim shown inner rest) = few_blanks inner && few_blanks rest
few_blanks (Superposed superposition names shown certs inner rest) =
    few_blanks inner && few_blanks rest
few_blanks (Qed objects certs) = true
few_blanks (Contradiction against) = true
few_blanks (Cases lit first second) = few_blanks first && few_blanks second

pub record Fits (known : List TitledStatement) (t : TheoremView) : Type 0 where
  -- no earlier theorem has its title
  pub new : is_known known t.title ≡ false
  -- one name for each declared and each made object of the statement
  pub scope : all_objects (as_view t.statement) ≡ scope_of_names t.names
  pub differ : NamesDiffer t.names
  pub points : length t.names.points ≤ most_of Point
  pub lines : length t.names.lines ≤ most_of Line
  pub circles : length t.names.circles ≤ most_of Circle
  -- the given literals are over the declared objects, and the shown ones over these and the made
  -- ones
  pub given : IsTrue (list_all (all_in_scope (scope_of (as_view t.statement))) t.statement.given)
  pub shown : IsTrue (list_all (all_in_scope (scope_of_names t.names)) t.statement.shown)
  -- sums have terms of one kind, not too many, with coefficients that are not too large
  pub good_given : IsTrue (list_all is_well_formed t.statement.given)
  pub good_shown : IsTrue (list_all is_well_formed t.statement.shown)
  pub good_script : IsTrue (has_well_formed_literals t.script)
  -- each step of the script has objects of the right sorts, all in scope where it is, whatever
  -- its blanks are filled with; each theorem that it uses is an earlier one
  pub script : IsTrue (list_all (λ x. fits_with_blanks (stated_by known) x x.here)
      (proof_steps (stated_by known) (as_view t.statement) t.script t.script))
  pub new_names : NewNamesFit (stated_by known)
      (declared_names (as_view t.statement) t.names) t.script
  pub steps : size t.script ≤ most_steps
  pub depth : depth t.script ≤ most_depth
  pub given_facts : length t.statement.given ≤ most_facts
  pub given_terms : count_monomials t.statement.given ≤ most_monomials_of_facts
  pub facts : IsTrue (few_facts (stated_by known) (length t.statement.given)
      (scope_of (as_view t.statement)) t.script)
  pub terms : IsTrue (few_terms (stated_by known) (count_monomials t.statement.given)
      (scope_of (as_view t.statement)) t.script)
  pub blanks : IsTrue (few_blanks t.script)
