-- Facts that are well formed stay so when well-formed literals join them.
use Rattle.std.proofs.Common.{◌≡◌, ℕ, zero, suc, List, [], ◌∷◌, ◌++◌, refl, sym, ap, ◌∙◌, Bool, true, false, ◌&&◌, Some}
use Rattle.std.specs.Prelude.{slice_get, if◌then◌else◌}
use Rattle.std.specs.List.{list_all}
use Rattle.std.proofs.lemmas.Option.{same_Some, none-some}
use Rattle.e_literal.specs.declared.object.Obj.{Obj}
use Rattle.e_literal.specs.declared.object.Scope.{Scope}
use Rattle.e_literal.specs.declared.literal.Lit.{Lit}
use Rattle.e_literal.specs.Literal.{all_in_scope}
use Rattle.e_literal.specs.Facts.{has, with_fact, with_facts}
use Rattle.e_literal.specs.Scopes.{with_sorts}
use Rattle.e_literal.specs.Use.{StatementView, is_statement, are_arguments, gives_of_use}
use Rattle.e_literal.specs.WellFormed.{is_well_formed}
use Rattle.e_literal.proofs.Booleans.{and_left, and_right, all_both}
use Rattle.e_construct.specs.declared.construction.Construction.{Construction}
use Rattle.e_construct.specs.Construct.{fits_construction, sorts_made, gives_of_construction}
use Rattle.e_construct.specs.declared.superpose.Superpose.{Superpose}
use Rattle.e_construct.specs.Superposing as superposing
use Rattle.e_construct.proofs.Given.{gives_good, superposition_gives}
use Rattle.e_theorem.proofs.Uses.{gives_good as use_gives_good}
use Rattle.e_deriv.specs.Fitting.{is_small, is_small_statement, all_objects}

abbrev pub all_formed : List Lit → Bool
all_formed ls = list_all is_well_formed ls

pub joined_formed : (facts : List Lit) (l : Lit) → all_formed facts ≡ true → is_well_formed l ≡ true → all_formed (with_fact facts l) ≡ true
unfolding with_fact
joined_formed facts l h k = by (has facts l)
  where
    by : (b : Bool) → all_formed (if b then facts else facts ++ l ∷ []) ≡ true
    by true = h
    by false = all_both is_well_formed facts (l ∷ []) h (ap (λ b. b && true) k)

pub all_joined_formed : (facts ls : List Lit) → all_formed facts ≡ true → all_formed ls ≡ true → all_formed (with_facts facts ls) ≡ true
all_joined_formed facts [] h k = h
all_joined_formed facts (l ∷ ls) h k =
    all_joined_formed (with_fact facts l) ls (joined_formed facts l h (and_left (is_well_formed l) (all_formed ls) k)) (and_right (is_well_formed l) (all_formed ls) k)

-- the fact at a place is one of them
pub formed_at : (facts : List Lit) (k : ℕ) (l : Lit) → all_formed facts ≡ true → slice_get facts k ≡ Some l → is_well_formed l ≡ true
formed_at [] k l h e = absurd (none-some l e)
formed_at (f ∷ facts) zero l h e = ap is_well_formed (sym (same_Some f l e)) ∙ and_left (is_well_formed f) (all_formed facts) h
formed_at (f ∷ facts) (suc k) l h e = formed_at facts k l (and_right (is_well_formed f) (all_formed facts) h) e

-- ---- what steps make facts

each : (p : Lit → Bool) (ls : List Lit) → list_all (λ l. p l && is_well_formed l) ls ≡ true → all_formed ls ≡ true
each p [] h = refl
each p (l ∷ ls) h =
    ap (λ b. b && all_formed ls) (and_right (p l) (is_well_formed l) (and_left (p l && is_well_formed l) (list_all (λ l. p l && is_well_formed l) ls) h))
    ∙ each p ls (and_right (p l && is_well_formed l) (list_all (λ l. p l && is_well_formed l) ls) h)

pub make_gives_formed : (construction : Construction) (s : Scope) → fits_construction construction s ≡ true → all_formed (gives_of_construction construction s) ≡ true
make_gives_formed construction s h = each (all_in_scope (with_sorts s (sorts_made construction))) (gives_of_construction construction s) (gives_good construction s h)

pub use_gives_formed : (t : StatementView) (args : List Obj) (s : Scope) → is_small_statement t ≡ true → are_arguments t s args ≡ true → all_formed (gives_of_use t args s) ≡ true
use_gives_formed t args s h k =
    each (all_in_scope (with_sorts s t.made)) (gives_of_use t args s) (use_gives_good t args s (and_left (is_statement t) (is_small (all_objects t)) h) k)

pub superposed_gives_formed : (superposition : Superpose) (s : Scope) → superposing.fits_superposition superposition s ≡ true → all_formed (superposing.gives_of_superposition superposition s) ≡ true
superposed_gives_formed superposition s h = each (all_in_scope (with_sorts s superposing.sorts_copied)) (superposing.gives_of_superposition superposition s) (superposition_gives superposition s h)
