-- What it is to license an application of a statement.
use Rattle.std.specs.Prelude.{◌≡◌, List, Option, IsTrue}
use Rattle.std.specs.List.{list_all}
use Rattle.e_literal.specs.declared.object.Obj.{Obj}
use Rattle.e_literal.specs.Facts.{with_facts}
use Rattle.e_literal.specs.Scopes.{with_sorts}
use Rattle.e_literal.specs.Use.{StatementView, needs_of_use, gives_of_use}
use Rattle.e_clause.specs.Certify.{certify_all}
use Rattle.e_clause.specs.LimitedFacts.{are_well_formed_in, are_limited_facts}
use Rattle.e_theorem.specs.Choice.{is_choice, IsLeastChoice}
use Rattle.e_theorem.specs.Pattern.{is_pattern}
use Rattle.e_deriv.specs.Fitting.{is_small, is_small_statement}
use Rattle.e_clause.specs.declared.cert.Version.TheVariants as version
use Rattle.e_clause.specs.Versions.{is_cert_of}
use Rattle.e_licence.specs.Contexts.{Basis}
use Rattle.e_prove.specs.declared.application.Use.{Use}

-- At the arguments `args` the literals that statement `t` needs are in scope and well formed; so
-- are the facts with those that `t` gives, and their terms are few.
pub record LitsFitAt (t : StatementView) (args : List Obj) (x : Basis) : Type 0 where
  pub needs : IsTrue (are_well_formed_in x.scope (needs_of_use t args x.scope))
  pub after : IsTrue
      (are_limited_facts (with_sorts x.scope t.made)
      (with_facts x.facts (gives_of_use t args x.scope)))

-- The arguments `pattern` fit statement `t`, whatever their blanks are filled with, and at each
-- choice for the blanks its literals fit; there are numbers for all objects.
pub record CanApply (t : StatementView) (pattern : List (Option Obj)) (x : Basis) : Type 0 where
  pub fits : IsTrue (is_pattern t x.scope pattern)
  pub statement : IsTrue (is_small_statement t)
  pub scope : IsTrue (is_small x.scope)
  pub lits : (args : List Obj) → IsTrue (is_choice t x.scope pattern args) → LitsFitAt t args x

-- The arguments of `u` are the least good choice for the blanks of `pattern`, each literal that `t`
-- needs there has its certificate, which names literals that are well formed, and `u.gives` are the
-- literals that `t` gives there.
pub record IsUse (t : StatementView) (pattern : List (Option Obj)) (x : Basis)
    (u : Use) : Type 0 where
  pub least : IsLeastChoice t x.scope x.facts pattern u.args
  pub certified : IsTrue (certify_all x.scope x.facts (needs_of_use t u.args x.scope) u.certs.items)
  pub version : IsTrue (list_all (is_cert_of version.One) u.certs.items)
  pub gives : u.gives ≡ gives_of_use t u.args x.scope
