-- A rule that is read is spelled by the name that it was read by, and its arguments by theirs.
use Rattle.std.proofs.Common.{◌≡◌, ℕ, suc, ◌+◌, Bool, true, false, cond, List, [], ◌∷◌, ◌++◌, map, take, drop, Option, Some, Ok, refl, sym, ap, ◌∙◌, arith, append_assoc}
use Rattle.std.specs.Prelude.{slice_get}
use Rattle.std.specs.Option.{option_map, option_map_or}
use Rattle.std.specs.List.{position_from}
use Rattle.std.specs.Str.{bytes_eq}
use Rattle.std.proofs.lemmas.List.{map-append, take-append-drop}
use Rattle.std.proofs.lemmas.Slice.Eq.{bytes_eq-Decides}
use Rattle.e_literal.specs.declared.object.Sort.{Sort}
use Rattle.e_literal.specs.declared.object.Sort.TheVariants.{Point, Line, Circle}
use Rattle.e_literal.specs.declared.object.Obj.{Obj}
use Rattle.e_clause.specs.declared.rule.Sig.{Sig}
use Rattle.e_clause.specs.Rows.{Row}
use Rattle.e_clause.specs.Table.{table}
use Rattle.e_clause.specs.Instance.{number_of_rule}
use Rattle.e_deriv.specs.declared.names.Names.{Names}
use Rattle.e_line.specs.Reading.{◌>>=◌}
use Rattle.e_names.specs.Scope.{object_as, objects_as, args_in}
use Rattle.e_names.specs.Canonical.{name_of_object, rule_name}
use Rattle.e_line.proofs.base.Bound.{bind_ok, ok_is, read_ok}
use Rattle.e_roundtrip.proofs.OneLine.NamesSpelled.{Keeps, object_named}
use Rattle.e_roundtrip.proofs.OneLine.LitsSpelled.{each_back}

-- ---- rules

abbrev name_at : List Row → ℕ → Option (List ℕ)
name_at rows k = option_map (λ r. r.name) (slice_get rows k)

-- a row that is found by its name
record FoundRow (rows : List Row) (token : List ℕ) (from k : ℕ) : Type 0 where
  place : ℕ
  is : k ≡ from + place
  name : name_at rows place ≡ Some token

some_is : (x y : ℕ) → Some x ≡ Some y → x ≡ y
some_is x y e = cc

found_row : (rows : List Row) (token : List ℕ) (from k : ℕ) → position_from (λ r. bytes_eq r.name token) from rows ≡ Some k → FoundRow rows token from k
found_row [] token from k e = absurd cc
found_row (r ∷ rows) token from k e = by_test (bytes_eq r.name token) (λ h. found_row rows token (from + 1) k h) refl e
  where
    by_test : (b : Bool) → (position_from (λ r. bytes_eq r.name token) (from + 1) rows ≡ Some k → FoundRow rows token (from + 1) k) → bytes_eq r.name token ≡ b → cond b (Some from) (position_from (λ r. bytes_eq r.name token) (from + 1) rows) ≡ Some k → FoundRow (r ∷ rows) token from k
    by_test true more h e =
        let at = some_is from k e in
        record { place = 0; is = omega (arith, at); name = ap (λ (n : List ℕ). Some n) ((bytes_eq-Decides r.name token).0 h) }
    by_test false more h e =
        let f = more e in
        let at = f.is in
        record { place = suc f.place; is = omega (arith, at); name = f.name }

pub rule_named : (title : List ℕ) (r : ℕ) → number_of_rule title ≡ Some r → rule_name r ≡ title
rule_named title r e =
    let f = found_row table title 0 r e in
    let at = f.is in
    let same : r ≡ f.place = omega (arith, at) in
    ap rule_name same ∙ ap (λ (o : Option (List ℕ)). option_map_or (λ n. n) o []) f.name

-- ---- the arguments of a rule

objects_named : (ns more : Names) (sort : Sort) (names : List (List ℕ)) (os : List Obj) → Keeps ns more → objects_as ns sort names ≡ Ok os → map (name_of_object more) os ≡ names
objects_named ns more sort names os k e = each_back (object_as ns sort) (name_of_object more) (λ name o h. object_named ns more sort name o k h) names os e

pub args_named : (ns more : Names) (s : Sig) (names : List (List ℕ)) (os : List Obj) → Keeps ns more → args_in ns s names ≡ Ok os → map (name_of_object more) os ≡ names
unfolding args_in
args_named ns more s names os k e =
    let name = name_of_object more in
    let rest = drop s.points names in
    let p = bind_ok (objects_as ns Point (take s.points names)) (λ ps. objects_as ns Line (take s.lines rest) >>= λ ls. objects_as ns Circle (drop s.lines rest) >>= λ cs. read_ok (ps ++ ls ++ cs)) os e in
    let l = bind_ok (objects_as ns Line (take s.lines rest)) (λ ls. objects_as ns Circle (drop s.lines rest) >>= λ cs. read_ok (p.0 ++ ls ++ cs)) os p.2 in
    let c = bind_ok (objects_as ns Circle (drop s.lines rest)) (λ cs. read_ok (p.0 ++ l.0 ++ cs)) os l.2 in
    let ps = objects_named ns more Point (take s.points names) p.0 k p.1 in
    let ls = objects_named ns more Line (take s.lines rest) l.0 k l.1 in
    let cs = objects_named ns more Circle (drop s.lines rest) c.0 k c.1 in
    ap (map name) (sym (ok_is (p.0 ++ l.0 ++ c.0) os c.2)) ∙ joined p.0 l.0 c.0 names s.points s.lines ps ls cs
  where
    whole : (i j : ℕ) (names : List (List ℕ)) → take i names ++ take j (drop i names) ++ drop j (drop i names) ≡ names
    whole i j names =
        append_assoc (take i names) (take j (drop i names)) (drop j (drop i names)) ∙ ap (λ (l : List (List ℕ)). take i names ++ l) (take-append-drop j (drop i names)) ∙ take-append-drop i names

    joined : (a b c : List Obj) (names : List (List ℕ)) (i j : ℕ) → map (name_of_object more) a ≡ take i names → map (name_of_object more) b ≡ take j (drop i names) → map (name_of_object more) c ≡ drop j (drop i names)
        → map (name_of_object more) (a ++ b ++ c) ≡ names
    joined a b c names i j ea eb ec =
        let name = name_of_object more in
        map-append name (a ++ b) c ∙ ap (λ (l : List (List ℕ)). l ++ map name c) (map-append name a b) ∙ rw (ea, eb, ec) (whole i j names)
