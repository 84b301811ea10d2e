-- Literals over the objects in scope that canonical lines can spell, and their spelling.
use Rattle.std.proofs.Common.{◌≡◌, ◌<◌, true, List, [], ◌∷◌, length, map, Ok, refl, arith}
use Rattle.std.specs.List.{list_all, AllByRecursion}
use Rattle.std.proofs.lemmas.Bool.{and_parts}
use Rattle.e_literal.specs.declared.literal.Lit.{Lit}
use Rattle.e_literal.specs.Literal.{all_in_scope}
use Rattle.e_literal.specs.WellFormed.{is_well_formed}
use Rattle.e_deriv.specs.declared.names.Names.{Names}
use Rattle.e_names.specs.Scope.{scope_of_names, lits_in}
use Rattle.e_names.specs.Canonical.{raw_of}
use Rattle.e_names.proofs.resolution.Lookups.{InOrder}
use Rattle.e_line.proofs.read_again.LitsAgain.{LitNamed, LitsNamed}
use Rattle.e_names.proofs.resolution.LitLookups.{lit_number_again, lit_named}

pub record Plain (ns : Names) (ls : List Lit) : Type 0 where
  pub within : list_all (all_in_scope (scope_of_names ns)) ls ≡ true
  pub good : list_all is_well_formed ls ≡ true

pub record PlainLit (ns : Names) (l : Lit) : Type 0 where
  pub within : all_in_scope (scope_of_names ns) l ≡ true
  pub good : is_well_formed l ≡ true

pub plain_first : (ns : Names) (l : Lit) (ls : List Lit) → Plain ns (l ∷ ls) → PlainLit ns l × Plain ns ls
plain_first ns l ls p =
    let a = and_parts (all_in_scope (scope_of_names ns) l) (list_all (all_in_scope (scope_of_names ns)) ls) p.within in
    let b = and_parts (is_well_formed l) (list_all is_well_formed ls) p.good in
    (record { within = a.0; good = b.0 }, record { within = a.1; good = b.1 })

pub lits_number_again : (ns : Names) (ls : List Lit) → InOrder ns → Plain ns ls → lits_in ns (map (raw_of ns) ls) ≡ Ok ls
lits_number_again ns [] o p = refl
lits_number_again ns (l ∷ ls) o p =
    let q = plain_first ns l ls p in
    rw (lit_number_again ns l o q.0.within q.0.good, lits_number_again ns ls o q.1) refl

all_named : (ns : Names) (ls : List Lit) → InOrder ns → Plain ns ls → AllByRecursion LitNamed (map (raw_of ns) ls)
all_named ns [] o p = tt
all_named ns (l ∷ ls) o p = let q = plain_first ns l ls p in (lit_named ns l o q.0.within q.0.good, all_named ns ls o q.1)

pub lits_named : (ns : Names) (ls : List Lit) → InOrder ns → Plain ns ls → 0 < length ls → LitsNamed (map (raw_of ns) ls)
lits_named ns [] o p some = absurd (omega (arith, some))
lits_named ns (l ∷ ls) o p some = all_named ns (l ∷ ls) o p
