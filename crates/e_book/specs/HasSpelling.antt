-- What a theorem is that canonical lines can spell.
use Rattle.std.specs.Prelude.{◌≡◌, ◌<◌, Bool, true, false, ◌&&◌, List, [], length, nat_lt, None}
use Rattle.std.specs.Prelude.{Some}
use Rattle.std.specs.List.{list_all}
use Rattle.e_text.specs.Names.{is_name, is_title}
use Rattle.e_deriv.specs.Script.{Script, Cite, Hence, Make, Apply, Claim, Superposed, Qed}
use Rattle.e_deriv.specs.Script.{Contradiction, Cases}
use Rattle.e_line.specs.Limits.{most_theorems}
use Rattle.e_names.specs.TitledStatements.{TitledStatement}
use Rattle.e_book.specs.TheoremViews.{TheoremView}
use Rattle.e_book.specs.Fits.{Fits}
use Rattle.e_line.specs.Names.{AreNames}
use Rattle.e_names.specs.NamedByTitle.{is_named_by_title}

-- no line has a certificate, new objects have names, and inner blocks show something
unfoldable pub is_plain : Script → Bool
is_plain (Cite by rest) = is_plain rest
is_plain (Hence lit None rest) = is_plain rest
is_plain (Hence lit (Some cert) rest) = false
is_plain (Make construction names [] rest) = list_all is_name names && is_plain rest
is_plain (Make construction names certs rest) = false
is_plain (Apply theorem args names [] rest) = list_all is_name names && is_plain rest
is_plain (Apply theorem args names certs rest) = false
is_plain (Claim shown inner rest) = nat_lt 0 (length shown) && (is_plain inner && is_plain rest)
is_plain (Superposed superposition names shown [] inner rest) =
    list_all is_name names && (nat_lt 0 (length shown) && (is_plain inner && is_plain rest))
is_plain (Superposed superposition names shown certs inner rest) = false
is_plain (Qed objects []) = true
is_plain (Qed objects certs) = false
is_plain (Contradiction None) = true
is_plain (Contradiction (Some against)) = false
is_plain (Cases lit first second) = is_plain first && is_plain second

-- the earlier theorems that a script uses can be named by their titles
unfoldable pub names_theorems : List TitledStatement → Script → Bool
names_theorems known (Cite by rest) = names_theorems known rest
names_theorems known (Hence lit cert rest) = names_theorems known rest
names_theorems known (Make construction names certs rest) = names_theorems known rest
names_theorems known (Apply theorem args names certs rest) =
    is_named_by_title known theorem && names_theorems known rest
names_theorems known (Claim shown inner rest) =
    names_theorems known inner && names_theorems known rest
names_theorems known (Superposed superposition names shown certs inner rest) =
    names_theorems known inner && names_theorems known rest
names_theorems known (Qed objects certs) = true
names_theorems known (Contradiction against) = true
names_theorems known (Cases lit first second) =
    names_theorems known first && names_theorems known second

pub record HasSpelling (known : List TitledStatement) (t : TheoremView) : Type 0 where
  -- objects in scope, names that differ, fitting arguments at each citation and construction, names
  -- of new objects that are free, and the limits of a theorem
  pub fits : Fits known t
  pub few_theorems : length known < most_theorems
  pub title : is_title t.title ≡ true
  pub point_names : AreNames t.names.points
  pub line_names : AreNames t.names.lines
  pub circle_names : AreNames t.names.circles
  pub some_shown : 0 < length t.statement.shown
  pub script : is_plain t.script ≡ true
  pub theorems : names_theorems known t.script ≡ true
