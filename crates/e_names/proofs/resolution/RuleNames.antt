-- The name of a rule is a title.
use Rattle.std.proofs.Common.{◌≡◌, ℕ, zero, suc, Bool, true, List, [], ◌∷◌, Option, Some, refl, sym, ap, ◌∙◌}
use Rattle.std.specs.Prelude.{slice_get}
use Rattle.std.specs.Option.{option_map, option_map_or}
use Rattle.std.specs.List.{list_all}
use Rattle.std.proofs.lemmas.Bool.{and_parts}
use Rattle.std.proofs.lemmas.Option.{none-some}
use Rattle.e_text.specs.Names.{is_title}
use Rattle.e_clause.specs.Rows.{Row}
use Rattle.e_clause.specs.Table.{table}
use Rattle.e_clause.specs.Table.Incidence.{incidence}
use Rattle.e_clause.specs.Table.Sides.{sides}
use Rattle.e_clause.specs.Table.Circles.{circles}
use Rattle.e_clause.specs.Table.Equality.{equality}
use Rattle.e_clause.specs.Table.Lengths.{lengths}
use Rattle.e_clause.specs.Table.Angles.{angles}
use Rattle.e_names.specs.Canonical.{rule_name}

abbrev has_title : Row → Bool
has_title r = is_title r.name

all_titles : list_all has_title table ≡ true
unfolding table incidence sides circles equality lengths angles
all_titles = refl

some_row : (x r : Row) → Some x ≡ Some r → x ≡ r
some_row x r e = cc

title_in : (rows : List Row) (n : ℕ) (r : Row) → list_all has_title rows ≡ true → slice_get rows n ≡ Some r → is_title r.name ≡ true
title_in [] n r h at = absurd (none-some r at)
title_in (x ∷ rows) zero r h at = ap (λ (y : Row). is_title y.name) (sym (some_row x r at)) ∙ (and_parts (has_title x) (list_all has_title rows) h).0
title_in (x ∷ rows) (suc n) r h at = title_in rows n r (and_parts (has_title x) (list_all has_title rows) h).1 at

pub title_again : (n : ℕ) (r : Row) → slice_get table n ≡ Some r → is_title r.name ≡ true
title_again n r at = title_in table n r all_titles at

-- the name that a canonical line has for a rule
pub rule_name_is : (n : ℕ) (r : Row) → slice_get table n ≡ Some r → rule_name n ≡ r.name
rule_name_is n r at = ap (λ (o : Option Row). option_map_or (λ x. x) (option_map (λ y. y.name) o) []) at
