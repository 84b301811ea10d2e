-- New names keep all names apart.
use Rattle.std.proofs.Common.{◌≡◌, ℕ, Bool, true, false, cond, not, ◌||◌, List, [], ◌∷◌, ◌++◌, Result, Ok, Err, refl, sym, ap, subst, ◌∙◌, append_assoc}
use Rattle.std.specs.Str.{bytes_eq}
use Rattle.std.proofs.lemmas.List.{append-nil}
use Rattle.std.proofs.lemmas.List.Folds.{list_all-append, list_any-append}
use Rattle.std.proofs.lemmas.Slice.Eq.{bytes_eq-Decides}
use Rattle.std.proofs.lemmas.Bool.{and_parts, or_parts, not-true}
use Rattle.e_literal.specs.declared.object.Sort.{Sort}
use Rattle.e_literal.specs.declared.object.Sort.TheVariants.{Point, Line, Circle}
use Rattle.e_literal.proofs.Booleans.{same_bool}
use Rattle.e_deriv.specs.declared.names.Names.{Names}
use Rattle.e_line.specs.declared.fault.FaultKind.{FaultKind}
use Rattle.e_line.specs.declared.fault.FaultKind.TheVariants.{NameTaken}
use Rattle.e_names.specs.Scope.{is_among_names, is_taken, fresh, names_of_sort, with_names}
use Rattle.e_names.specs.Fits.{are_distinct, are_disjoint_names, NamesDiffer}

turned : (a b : List ℕ) → bytes_eq a b ≡ true → bytes_eq b a ≡ true
turned a b h = (bytes_eq-Decides b a).1 (sym ((bytes_eq-Decides a b).0 h))

same_turned : (a b : List ℕ) → bytes_eq a b ≡ bytes_eq b a
same_turned a b = same_bool (bytes_eq a b) (bytes_eq b a) (turned a b) (turned b a)

pub distinct_last : (xs : List (List ℕ)) (n : List ℕ) → are_distinct xs ≡ true → is_among_names xs n ≡ false → are_distinct (xs ++ n ∷ []) ≡ true
distinct_last [] n d h = refl
distinct_last (x ∷ xs) n d h =
    let p = and_parts (not (is_among_names xs x)) (are_distinct xs) d in
    let q = or_parts (bytes_eq x n) (is_among_names xs n) h in
    rw (list_any-append (λ m. bytes_eq m x) xs (n ∷ []), not-true (is_among_names xs x) p.0, same_turned n x, q.0, distinct_last xs n p.1 q.1) refl

-- apart from a longer list
apart_first : (x : List ℕ) (xs ys : List (List ℕ)) → are_disjoint_names (x ∷ xs) ys ≡ true → (is_among_names ys x ≡ false) × (are_disjoint_names xs ys ≡ true)
apart_first x xs [] h = (refl, refl)
apart_first x xs (y ∷ ys) h =
    let p = and_parts (not (bytes_eq x y || is_among_names xs y)) (are_disjoint_names (x ∷ xs) ys) h in
    let q = or_parts (bytes_eq x y) (is_among_names xs y) (not-true (bytes_eq x y || is_among_names xs y) p.0) in
    let r = apart_first x xs ys p.1 in
    (rw (same_turned y x, q.0, r.0) refl, rw (q.1, r.1) refl)

apart_turned : (xs ys : List (List ℕ)) → are_disjoint_names xs ys ≡ true → are_disjoint_names ys xs ≡ true
apart_turned [] ys h = refl
apart_turned (x ∷ xs) ys h = let p = apart_first x xs ys h in rw (p.0, apart_turned xs ys p.1) refl

apart_after : (xs zs ys : List (List ℕ)) → are_disjoint_names xs ys ≡ true → are_disjoint_names zs ys ≡ true → are_disjoint_names (xs ++ zs) ys ≡ true
apart_after xs zs [] h k = refl
apart_after xs zs (y ∷ ys) h k =
    let p = and_parts (not (is_among_names xs y)) (are_disjoint_names xs ys) h in
    let q = and_parts (not (is_among_names zs y)) (are_disjoint_names zs ys) k in
    rw (list_any-append (λ m. bytes_eq m y) xs zs, not-true (is_among_names xs y) p.0, not-true (is_among_names zs y) q.0, apart_after xs zs ys p.1 q.1) refl

apart_more : (xs ys zs : List (List ℕ)) → are_disjoint_names xs ys ≡ true → are_disjoint_names xs zs ≡ true → are_disjoint_names xs (ys ++ zs) ≡ true
apart_more xs ys zs h k = list_all-append (λ n. not (is_among_names xs n)) ys zs ∙ rw (h, k) refl

pub record Untaken (ns : Names) (seen : List (List ℕ)) (n : List ℕ) : Type 0 where
  pub points : is_among_names ns.points n ≡ false
  pub lines : is_among_names ns.lines n ≡ false
  pub circles : is_among_names ns.circles n ≡ false
  pub among : is_among_names seen n ≡ false

pub untaken : (ns : Names) (seen : List (List ℕ)) (n : List ℕ) → is_taken ns seen n ≡ false → Untaken ns seen n
untaken ns seen n e =
    let p = or_parts (is_among_names ns.points n) (is_among_names ns.lines n || (is_among_names ns.circles n || is_among_names seen n)) e in
    let q = or_parts (is_among_names ns.lines n) (is_among_names ns.circles n || is_among_names seen n) p.1 in
    let r = or_parts (is_among_names ns.circles n) (is_among_names seen n) q.1 in
    record { points = p.0; lines = q.0; circles = r.0; among = r.1 }

pub passed : (b : Bool) (x : Result (Unit {0}) FaultKind) (u : Unit {0}) → cond b (Err NameTaken) x ≡ Ok u → (b ≡ false) × (x ≡ Ok u)
passed true x u e = absurd cc
passed false x u e = (refl, e)

record Fresh (ns : Names) (new : List (List ℕ)) : Type 0 where
  points : are_disjoint_names ns.points new ≡ true
  lines : are_disjoint_names ns.lines new ≡ true
  circles : are_disjoint_names ns.circles new ≡ true

fresh_apart : (ns : Names) (seen new : List (List ℕ)) (u : Unit {0}) → fresh ns seen new ≡ Ok u → Fresh ns new
fresh_apart ns seen [] u e = record { points = refl; lines = refl; circles = refl }
fresh_apart ns seen (n ∷ new) u e =
    let p = passed (is_taken ns seen n) (fresh ns (seen ++ n ∷ []) new) u e in
    let t = untaken ns seen n p.0 in
    let r = fresh_apart ns (seen ++ n ∷ []) new u p.1 in
    record { points = rw (t.points, r.points) refl; lines = rw (t.lines, r.lines) refl; circles = rw (t.circles, r.circles) refl }

not_after : (old seen : List (List ℕ)) (n : List ℕ) → is_among_names old n ≡ false → is_among_names seen n ≡ false → is_among_names (old ++ seen) n ≡ false
not_after old seen n h k = list_any-append (λ m. bytes_eq m n) old seen ∙ rw (h, k) refl

fresh_distinct : (ns : Names) (old seen new : List (List ℕ)) (u : Unit {0}) → ((s : List (List ℕ)) (n : List ℕ) → Untaken ns s n → is_among_names old n ≡ false) → fresh ns seen new ≡ Ok u
    → are_distinct (old ++ seen) ≡ true → are_distinct (old ++ seen ++ new) ≡ true
fresh_distinct ns old seen [] u f e d = subst (λ (l : List (List ℕ)). are_distinct l ≡ true) (sym (append-nil (old ++ seen))) d
fresh_distinct ns old seen (n ∷ new) u f e d =
    let p = passed (is_taken ns seen n) (fresh ns (seen ++ n ∷ []) new) u e in
    let t = untaken ns seen n p.0 in
    let one : are_distinct (old ++ (seen ++ n ∷ [])) ≡ true = subst (λ (l : List (List ℕ)). are_distinct l ≡ true) (append_assoc old seen (n ∷ [])) (distinct_last (old ++ seen) n d (not_after old seen n (f seen n t) t.among)) in
    let all = fresh_distinct ns old (seen ++ n ∷ []) new u f p.1 one in
    let regrouped : old ++ (seen ++ n ∷ []) ++ new ≡ old ++ seen ++ n ∷ new = ap (λ (l : List (List ℕ)). l ++ new) (sym (append_assoc old seen (n ∷ []))) ∙ append_assoc (old ++ seen) (n ∷ []) new in
    subst (λ (l : List (List ℕ)). are_distinct l ≡ true) regrouped all

-- none is new twice, none is there already
longer : (ns : Names) (old new : List (List ℕ)) (u : Unit {0}) → ((s : List (List ℕ)) (n : List ℕ) → Untaken ns s n → is_among_names old n ≡ false) → fresh ns [] new ≡ Ok u → are_distinct old ≡ true → are_distinct (old ++ new) ≡ true
longer ns old new u f e d =
    let h = fresh_distinct ns old [] new u f e (subst (λ (l : List (List ℕ)). are_distinct l ≡ true) (sym (append-nil old)) d) in
    subst (λ (l : List (List ℕ)). are_distinct (l ++ new) ≡ true) (append-nil old) h

pub still_differ : (ns : Names) (sort : Sort) (new : List (List ℕ)) (u : Unit {0}) → NamesDiffer ns → fresh ns [] new ≡ Ok u → NamesDiffer (with_names ns sort (names_of_sort ns sort ++ new))
still_differ ns Point new u d e =
    let f = fresh_apart ns [] new u e in
    record {
      points = longer ns ns.points new u (λ s n t. t.points) e d.points;
      lines = d.lines;
      circles = d.circles;
      points_lines = apart_after ns.points new ns.lines d.points_lines (apart_turned ns.lines new f.lines);
      points_circles = apart_after ns.points new ns.circles d.points_circles (apart_turned ns.circles new f.circles);
      lines_circles = d.lines_circles;
    }
still_differ ns Line new u d e =
    let f = fresh_apart ns [] new u e in
    record {
      points = d.points;
      lines = longer ns ns.lines new u (λ s n t. t.lines) e d.lines;
      circles = d.circles;
      points_lines = apart_more ns.points ns.lines new d.points_lines f.points;
      points_circles = d.points_circles;
      lines_circles = apart_after ns.lines new ns.circles d.lines_circles (apart_turned ns.circles new f.circles);
    }
still_differ ns Circle new u d e =
    let f = fresh_apart ns [] new u e in
    record {
      points = d.points;
      lines = d.lines;
      circles = longer ns ns.circles new u (λ s n t. t.circles) e d.circles;
      points_lines = d.points_lines;
      points_circles = apart_more ns.points ns.circles new d.points_circles f.points;
      lines_circles = apart_more ns.lines ns.circles new d.lines_circles f.lines;
    }
