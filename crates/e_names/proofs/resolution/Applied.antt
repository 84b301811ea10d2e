-- The line that uses an earlier theorem, with the names of its objects, is read as that use.
use Rattle.std.proofs.Common.{◌≡◌, ℕ, true, eqb, ◌&&◌, List, [], ◌∷◌, length, map, Option, Some, None, Ok, refl, sym, ap, subst, ◌∙◌, arith}
use Rattle.std.proofs.lemmas.Bool.{eqb-true, eq-eqb, and_parts}
use Rattle.std.proofs.lemmas.List.{length-map}
use Rattle.e_text.specs.Names.{is_title}
use Rattle.e_literal.specs.declared.object.Sort.{Sort}
use Rattle.e_literal.specs.declared.object.Obj.{Obj}
use Rattle.e_literal.specs.declared.object.Scope.{Scope}
use Rattle.e_literal.specs.Literal.{is_in_scope}
use Rattle.e_literal.specs.Scopes.{same_sort}
use Rattle.e_literal.proofs.Sorts.{same_sort_is}
use Rattle.e_theorem.specs.Pattern.{are_entries, is_pattern}
use Rattle.e_deriv.specs.declared.names.Names.{Names}
use Rattle.e_line.specs.declared.applies.RawApply.{RawApply}
use Rattle.e_names.specs.TitledStatements.{TitledStatement, theorem_of, title_at, place_in}
use Rattle.e_names.specs.Scope.{scope_of_names, object_as, fresh}
use Rattle.e_names.specs.Applies.{entries_in, apply_in}
use Rattle.e_names.specs.Canonical.{name_of_object, argument_name}
use Rattle.e_line.specs.Names.{AreNames}
use Rattle.e_names.specs.NamedByTitle.{is_found_at, is_named_by_title}
use Rattle.e_names.proofs.resolution.Lookups.{InOrder, object_again, objects_named}
use Rattle.e_line.proofs.read_again.AppliesAgain.{AreArguments, ApplyNamed}

-- ---- the arguments

entries_again : (ns : Names) (sorts : List Sort) (os : List (Option Obj)) → InOrder ns → are_entries (scope_of_names ns) sorts os ≡ true → entries_in ns sorts (map (argument_name ns) os) ≡ Ok os
entries_again ns [] [] o h = refl
entries_again ns [] (x ∷ os) o h = absurd cc
entries_again ns (sort ∷ sorts) [] o h = absurd cc
entries_again ns (sort ∷ sorts) (None ∷ os) o h = rw (entries_again ns sorts os o h) refl
entries_again ns (sort ∷ sorts) (Some x ∷ os) o h =
    let p = and_parts (same_sort sort x.sort) (is_in_scope (scope_of_names ns) x && are_entries (scope_of_names ns) sorts os) h in
    let q = and_parts (is_in_scope (scope_of_names ns) x) (are_entries (scope_of_names ns) sorts os) p.1 in
    let one : object_as ns sort (name_of_object ns x) ≡ Ok x = subst (λ (t : Sort). object_as ns t (name_of_object ns x) ≡ Ok x) (sym (same_sort_is sort x.sort p.0)) (object_again ns x o q.0) in
    rw (one, entries_again ns sorts os o q.1) refl

entries_length : (s : Scope) (sorts : List Sort) (os : List (Option Obj)) → are_entries s sorts os ≡ true → length os ≡ length sorts
entries_length s [] [] h = refl
entries_length s [] (x ∷ os) h = absurd cc
entries_length s (sort ∷ sorts) [] h = absurd cc
entries_length s (sort ∷ sorts) (None ∷ os) h = let n = entries_length s sorts os h in omega (arith, n)
entries_length s (sort ∷ sorts) (Some x ∷ os) h =
    let p = and_parts (same_sort sort x.sort) (is_in_scope s x && are_entries s sorts os) h in
    let n = entries_length s sorts os (and_parts (is_in_scope s x) (are_entries s sorts os) p.1).1 in
    omega (arith, n)

entries_named : (ns : Names) (sorts : List Sort) (os : List (Option Obj)) → InOrder ns → are_entries (scope_of_names ns) sorts os ≡ true → AreArguments (map (argument_name ns) os)
entries_named ns [] [] o h = tt
entries_named ns [] (x ∷ os) o h = absurd cc
entries_named ns (sort ∷ sorts) [] o h = absurd cc
entries_named ns (sort ∷ sorts) (None ∷ os) o h = entries_named ns sorts os o h
entries_named ns (sort ∷ sorts) (Some x ∷ os) o h =
    let p = and_parts (same_sort sort x.sort) (is_in_scope (scope_of_names ns) x && are_entries (scope_of_names ns) sorts os) h in
    let q = and_parts (is_in_scope (scope_of_names ns) x) (are_entries (scope_of_names ns) sorts os) p.1 in
    let one = objects_named ns (x ∷ []) o (rw q.0 refl) in
    (one.0, entries_named ns sorts os o q.1)

-- ---- the title

found : (k : ℕ) (o : Option ℕ) → is_found_at k o ≡ true → o ≡ Some k
found k None h = absurd cc
found k (Some i) h = ap (λ (n : ℕ). Some n) (eqb-true i k h)

-- ---- the whole

pub record GoodApply (known : List TitledStatement) (ns : Names) (theorem : ℕ) (args : List (Option Obj)) (names : List (List ℕ)) : Type 0 where
  pub title : is_named_by_title known theorem ≡ true
  pub entries : is_pattern (theorem_of known theorem) (scope_of_names ns) args ≡ true
  pub free : fresh ns [] names ≡ Ok tt
  pub count : length names ≡ length (theorem_of known theorem).made

-- the line, as it is written
abbrev pub raw_apply : List TitledStatement → Names → ℕ → List (Option Obj) → List (List ℕ) → RawApply
raw_apply known ns theorem args names = record { title = title_at known theorem; args = map (argument_name ns) args; new = names }

pub apply_number_again : (known : List TitledStatement) (ns : Names) (theorem : ℕ) (args : List (Option Obj)) (names : List (List ℕ)) → InOrder ns → GoodApply known ns theorem args names
    → apply_in known ns (raw_apply known ns theorem args names) ≡ Ok (theorem, args)
unfolding apply_in
apply_number_again known ns theorem args names o g =
    let t = theorem_of known theorem in
    let s = scope_of_names ns in
    let place : place_in known (title_at known theorem) ≡ Some theorem = found theorem (place_in known (title_at known theorem)) (and_parts (is_title (title_at known theorem)) (is_found_at theorem (place_in known (title_at known theorem))) g.title).1 in
    let some : eqb (length (map (argument_name ns) args)) (length t.declared) ≡ true = eq-eqb _ _ (length-map args (argument_name ns) ∙ entries_length s t.declared args g.entries) in
    let more : eqb (length names) (length t.made) ≡ true = eq-eqb _ _ g.count in
    rw (place, some, more, entries_again ns t.declared args o g.entries, g.free) refl

pub apply_named : (known : List TitledStatement) (ns : Names) (theorem : ℕ) (args : List (Option Obj)) (names : List (List ℕ)) → InOrder ns → GoodApply known ns theorem args names → AreNames names
    → ApplyNamed (raw_apply known ns theorem args names)
apply_named known ns theorem args names o g h = record {
  title = (and_parts (is_title (title_at known theorem)) (is_found_at theorem (place_in known (title_at known theorem))) g.title).0;
  args = entries_named ns (theorem_of known theorem).declared args o g.entries;
  new_names = h;
}
