-- What a use of an earlier theorem that is read is known to be.
use Rattle.std.proofs.Common.{◌≡◌, ℕ, ◌<◌, true, eqb, ltb, List, [], ◌∷◌, length, Option, Some, None, Result, Ok, refl, sym, ap, subst, ◌∙◌, arith}
use Rattle.std.specs.Str.{bytes_eq}
use Rattle.std.proofs.lemmas.Bool.{eqb-true, lt-ltb}
use Rattle.std.proofs.lemmas.List.{length-map}
use Rattle.std.proofs.lemmas.Slice.Eq.{bytes_eq-Decides}
use Rattle.std.proofs.lemmas.List.Quantifiers.{position-Some}
use Rattle.e_literal.specs.declared.object.Sort.{Sort}
use Rattle.e_literal.specs.declared.object.Obj.{Obj}
use Rattle.e_theorem.specs.Pattern.{are_entries, is_pattern}
use Rattle.e_theorem.specs.Statements.{as_view}
use Rattle.e_deriv.specs.declared.names.Names.{Names}
use Rattle.e_line.specs.declared.fault.FaultKind.{FaultKind}
use Rattle.e_line.specs.declared.applies.RawApply.{RawApply}
use Rattle.e_line.specs.Reading.{◌>>=◌}
use Rattle.e_names.specs.TitledStatements.{TitledStatement, titles, statements, stated_by, theorem_of, title_at, place_in}
use Rattle.e_names.specs.Scope.{scope_of_names, object_as, fresh, right_count}
use Rattle.e_names.specs.Applies.{known_place, entry_in, entries_in, apply_in}
use Rattle.e_line.proofs.base.Bound.{bind_ok, ok_is, read_ok}
use Rattle.e_names.proofs.read_lines.Citations.{object_scope, object_sort, counted}
use Rattle.e_names.proofs.read_lines.Building.{same_turned}

-- ---- the theorem

place_is : (o : Option ℕ) (k : ℕ) → known_place o ≡ Ok k → o ≡ Some k
place_is None k e = absurd cc
place_is (Some i) k e = ap Some (ok_is i k e)

-- a title that is found stands at a place of the list
pub place_within : (known : List TitledStatement) (title : List ℕ) (k : ℕ) → place_in known title ≡ Some k → k < length (stated_by known)
place_within known title k e =
    let p = position-Some (bytes_eq title) (titles known) k [] e in
    omega (arith, p.0, length-map known (λ (h : TitledStatement). h.title), length-map known (λ (h : TitledStatement). h.statement), length-map (statements known) as_view)

-- and is the title there
pub found_title : (known : List TitledStatement) (title : List ℕ) (k : ℕ) → place_in known title ≡ Some k → title_at known k ≡ title
found_title known title k e =
    let p = position-Some (bytes_eq title) (titles known) k [] e in
    sym ((bytes_eq-Decides title (title_at known k)).0 p.1)

-- ---- the arguments

-- an object of its sort for each declared one, or a blank
entries_fit : (ns : Names) (sorts : List Sort) (names : List (Option (List ℕ))) (os : List (Option Obj)) → length names ≡ length sorts → entries_in ns sorts names ≡ Ok os → are_entries (scope_of_names ns) sorts os ≡ true
entries_fit ns [] [] os n e = subst (λ (l : List (Option Obj)). are_entries (scope_of_names ns) [] l ≡ true) (ok_is [] os e) refl
entries_fit ns [] (name ∷ names) os n e = absurd (omega (arith, n))
entries_fit ns (sort ∷ sorts) [] os n e = absurd (omega (arith, n))
entries_fit ns (sort ∷ sorts) (None ∷ names) os n e =
    let b = bind_ok (entries_in ns sorts names) (λ xs. read_ok (None ∷ xs)) os e in
    subst (λ (l : List (Option Obj)). are_entries (scope_of_names ns) (sort ∷ sorts) l ≡ true) (ok_is (None ∷ b.0) os b.2) (entries_fit ns sorts names b.0 (omega (arith, n)) b.1)
entries_fit ns (sort ∷ sorts) (Some name ∷ names) os n e =
    let a = bind_ok (entry_in ns sort (Some name)) (λ o. entries_in ns sorts names >>= λ xs. read_ok (o ∷ xs)) os e in
    let o = bind_ok (object_as ns sort name) (λ o. read_ok (Some o)) a.0 a.1 in
    let b = bind_ok (entries_in ns sorts names) (λ xs. read_ok (a.0 ∷ xs)) os a.2 in
    subst (λ (l : List (Option Obj)). are_entries (scope_of_names ns) (sort ∷ sorts) l ≡ true) (ap (λ (x : Option Obj). x ∷ b.0) (ok_is (Some o.0) a.0 o.2) ∙ ok_is (a.0 ∷ b.0) os b.2)
    (rw (same_turned o.0.sort sort (object_sort ns sort name o.0 o.1), object_scope ns sort name o.0 o.1, entries_fit ns sorts names b.0 (omega (arith, n)) b.1) refl)

-- ---- the line

-- its title is found, its entries fit, its new names are free, and there is one for each made object
pub record GoodUse (known : List TitledStatement) (ns : Names) (raw : RawApply) (theorem : ℕ) (args : List (Option Obj)) : Type 0 where
  pub place : place_in known raw.title ≡ Some theorem
  pub entries : is_pattern (theorem_of known theorem) (scope_of_names ns) args ≡ true
  pub free : fresh ns [] raw.new ≡ Ok tt
  pub count : length raw.new ≡ length (theorem_of known theorem).made

pub earlier : (known : List TitledStatement) (ns : Names) (raw : RawApply) (theorem : ℕ) (args : List (Option Obj)) → GoodUse known ns raw theorem args → ltb theorem (length (stated_by known)) ≡ true
earlier known ns raw theorem args u = lt-ltb theorem (length (stated_by known)) (place_within known raw.title theorem u.place)

pub use_fits : (known : List TitledStatement) (ns : Names) (raw : RawApply) (p : ℕ × List (Option Obj)) → apply_in known ns raw ≡ Ok p → GoodUse known ns raw p.0 p.1
unfolding apply_in
use_fits known ns raw p e =
    let both_of : ℕ → List (Option Obj) → ℕ × List (Option Obj) = λ k args. (k, args) in
    let last : ℕ → List (Option Obj) → Result (ℕ × List (Option Obj)) FaultKind = λ k args. fresh ns [] raw.new >>= λ free. read_ok (both_of k args) in
    let third : ℕ → Result (ℕ × List (Option Obj)) FaultKind = λ k. entries_in ns (theorem_of known k).declared raw.args >>= λ args. last k args in
    let second : ℕ → Result (ℕ × List (Option Obj)) FaultKind = λ k. right_count (eqb (length raw.new) (length (theorem_of known k).made)) >>= λ more. third k in
    let first : ℕ → Result (ℕ × List (Option Obj)) FaultKind = λ k. right_count (eqb (length raw.args) (length (theorem_of known k).declared)) >>= λ some. second k in
    let k = bind_ok (known_place (place_in known raw.title)) first p e in
    let t = theorem_of known k.0 in
    let a = bind_ok (right_count (eqb (length raw.args) (length t.declared))) (λ some. second k.0) p k.2 in
    let b = bind_ok (right_count (eqb (length raw.new) (length t.made))) (λ more. third k.0) p a.2 in
    let args = bind_ok (entries_in ns t.declared raw.args) (λ args. last k.0 args) p b.2 in
    let f = bind_ok (fresh ns [] raw.new) (λ free. read_ok (both_of k.0 args.0)) p args.2 in
    subst (λ (x : ℕ × List (Option Obj)). GoodUse known ns raw x.0 x.1) (ok_is (both_of k.0 args.0) p f.2) (record {
      place = place_is (place_in known raw.title) k.0 k.1;
      entries = entries_fit ns t.declared raw.args args.0 (eqb-true (length raw.args) (length t.declared) (counted _ a.0 a.1)) args.1;
      free = f.1;
      count = eqb-true (length raw.new) (length t.made) (counted _ b.0 b.1);
    })
