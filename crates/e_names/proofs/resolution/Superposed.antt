-- The words of a superposition in scope are read as that superposition.
use Rattle.std.proofs.Common.{◌≡◌, ℕ, ◌<◌, true, List, [], ◌∷◌, ◌++◌, length, map, Ok, refl, sym, ap, ap₂, subst, ◌∙◌}
use Rattle.std.proofs.lemmas.Bool.{and_parts}
use Rattle.e_literal.specs.declared.object.Sort.{Sort}
use Rattle.e_literal.specs.declared.object.Sort.TheVariants.{Point, Line}
use Rattle.e_literal.specs.declared.object.Obj.{Obj}
use Rattle.e_literal.specs.declared.object.Scope.{Scope}
use Rattle.e_literal.specs.declared.literal.Lit.{Lit}
use Rattle.e_literal.specs.Literal.{obj, is_in_scope}
use Rattle.e_literal.specs.Scopes.{are_of_sorts}
use Rattle.e_construct.specs.declared.superpose.Superpose.{Superpose}
use Rattle.e_construct.specs.Superposing.{sorts_copied, fits_superposition}
use Rattle.e_deriv.specs.declared.names.Names.{Names}
use Rattle.e_line.specs.declared.superposes.RawSuperpose.{RawSuperpose}
use Rattle.e_names.specs.Scope.{scope_of_names, fresh}
use Rattle.e_names.specs.Superposes.{superpose, placed_in, superpose_in}
use Rattle.e_names.specs.Canonical.{raw_of, placed_names}
use Rattle.e_line.specs.Names.{AreNames}
use Rattle.e_line.proofs.read_again.SuperposesAgain.{SuperposeNamed}
use Rattle.e_names.proofs.resolution.Lookups.{InOrder, number_again, named_at}
use Rattle.e_names.proofs.literals.PlainLits.{Plain, lits_number_again, lits_named}

-- ---- its points and lines

abbrev objects : List ℕ → List ℕ → List Obj
objects ps ls = map (obj Point) ps ++ map (obj Line) ls

-- the first point of objects of these sorts
record FirstPoint (s : Scope) (sorts : List Sort) (ps ls : List ℕ) : Type 0 where
  n : ℕ
  more : List ℕ
  is : ps ≡ n ∷ more
  within : is_in_scope s (obj Point n) ≡ true
  others : are_of_sorts s sorts (objects more ls) ≡ true

first_point : (s : Scope) (sorts : List Sort) (ps ls : List ℕ) → are_of_sorts s (Point ∷ sorts) (objects ps ls) ≡ true → FirstPoint s sorts ps ls
first_point s sorts [] [] h = absurd cc
first_point s sorts [] (l ∷ ls) h = absurd cc
first_point s sorts (p ∷ ps) ls h =
    let b = and_parts (is_in_scope s (obj Point p)) (are_of_sorts s sorts (objects ps ls)) h in
    record { n = p; more = ps; is = refl; within = b.0; others = b.1 }

-- the two lines, after which there is nothing
record Lines (s : Scope) (ps ls : List ℕ) : Type 0 where
  k : ℕ
  l : ℕ
  no_point : ps ≡ []
  are : ls ≡ k ∷ l ∷ []
  first : is_in_scope s (obj Line k) ≡ true
  second : is_in_scope s (obj Line l) ≡ true

two_lines : (s : Scope) (ps ls : List ℕ) → are_of_sorts s (Line ∷ Line ∷ []) (objects ps ls) ≡ true → Lines s ps ls
two_lines s (p ∷ ps) ls h = absurd cc
two_lines s [] [] h = absurd cc
two_lines s [] (k ∷ []) h = absurd cc (and_parts (is_in_scope s (obj Line k)) (are_of_sorts s (Line ∷ []) (objects [] [])) h).1
two_lines s [] (k ∷ l ∷ []) h =
    let b = and_parts (is_in_scope s (obj Line k)) (are_of_sorts s (Line ∷ []) (objects [] (l ∷ []))) h in
    let c = and_parts (is_in_scope s (obj Line l)) (are_of_sorts s [] (objects [] [])) b.1 in
    record { k = k; l = l; no_point = refl; are = refl; first = b.0; second = c.0 }
two_lines s [] (k ∷ l ∷ m ∷ ls) h =
    let b = and_parts (is_in_scope s (obj Line k)) (are_of_sorts s (Line ∷ []) (objects [] (l ∷ m ∷ ls))) h in
    let c = and_parts (is_in_scope s (obj Line l)) (are_of_sorts s [] (objects [] (m ∷ ls))) b.1 in
    absurd (none c.1)
  where
    none : are_of_sorts s [] (objects [] (m ∷ ls)) ≡ true → ⊥
    none e = absurd cc

-- a superposition that fits, by its points and lines
record Eight (s : Scope) (superposition : Superpose) : Type 0 where
  a : ℕ
  b : ℕ
  c : ℕ
  d : ℕ
  g : ℕ
  h : ℕ
  k : ℕ
  l : ℕ
  is : superpose a b c d g h k l ≡ superposition
  in_a : is_in_scope s (obj Point a) ≡ true
  in_b : is_in_scope s (obj Point b) ≡ true
  in_c : is_in_scope s (obj Point c) ≡ true
  in_d : is_in_scope s (obj Point d) ≡ true
  in_g : is_in_scope s (obj Point g) ≡ true
  in_h : is_in_scope s (obj Point h) ≡ true
  in_k : is_in_scope s (obj Line k) ≡ true
  in_l : is_in_scope s (obj Line l) ≡ true

abbrev whole : List ℕ → List ℕ → Superpose
whole ps ls = record { points = ps; lines = ls }

cons : (n : ℕ) (xs ys : List ℕ) → xs ≡ ys → n ∷ xs ≡ n ∷ ys
cons n xs ys e = ap (λ (zs : List ℕ). n ∷ zs) e

eight : (s : Scope) (superposition : Superpose) → fits_superposition superposition s ≡ true → Eight s superposition
eight s superposition fit =
    let a = first_point s (Point ∷ Point ∷ Point ∷ Point ∷ Point ∷ Line ∷ Line ∷ []) superposition.points superposition.lines fit in
    let b = first_point s (Point ∷ Point ∷ Point ∷ Point ∷ Line ∷ Line ∷ []) a.more superposition.lines a.others in
    let c = first_point s (Point ∷ Point ∷ Point ∷ Line ∷ Line ∷ []) b.more superposition.lines b.others in
    let d = first_point s (Point ∷ Point ∷ Line ∷ Line ∷ []) c.more superposition.lines c.others in
    let g = first_point s (Point ∷ Line ∷ Line ∷ []) d.more superposition.lines d.others in
    let h = first_point s (Line ∷ Line ∷ []) g.more superposition.lines g.others in
    let kl = two_lines s h.more superposition.lines h.others in
    let h-is : g.more ≡ h.n ∷ [] = h.is ∙ cons h.n _ _ kl.no_point in
    let g-is : d.more ≡ g.n ∷ h.n ∷ [] = g.is ∙ cons g.n _ _ h-is in
    let d-is : c.more ≡ d.n ∷ g.n ∷ h.n ∷ [] = d.is ∙ cons d.n _ _ g-is in
    let c-is : b.more ≡ c.n ∷ d.n ∷ g.n ∷ h.n ∷ [] = c.is ∙ cons c.n _ _ d-is in
    let b-is : a.more ≡ b.n ∷ c.n ∷ d.n ∷ g.n ∷ h.n ∷ [] = b.is ∙ cons b.n _ _ c-is in
    let a-is : superposition.points ≡ a.n ∷ b.n ∷ c.n ∷ d.n ∷ g.n ∷ h.n ∷ [] = a.is ∙ cons a.n _ _ b-is in
    record {
      a = a.n;
      b = b.n;
      c = c.n;
      d = d.n;
      g = g.n;
      h = h.n;
      k = kl.k;
      l = kl.l;
      is = ap₂ whole (sym a-is) (sym kl.are);
      in_a = a.within;
      in_b = b.within;
      in_c = c.within;
      in_d = d.within;
      in_g = g.within;
      in_h = h.within;
      in_k = kl.first;
      in_l = kl.second;
    }

-- ---- the line

abbrev pub raw_superpose : Names → Superpose → List (List ℕ) → List Lit → RawSuperpose
raw_superpose ns superposition names shown = record { args = placed_names ns superposition; new = names; shown = map (raw_of ns) shown }

placed_again : (ns : Names) (superposition : Superpose) → InOrder ns → fits_superposition superposition (scope_of_names ns) ≡ true → placed_in ns (placed_names ns superposition) ≡ Ok superposition
unfolding placed_in
placed_again ns superposition o fit =
    let e = eight (scope_of_names ns) superposition fit in
    subst (λ (x : Superpose). placed_in ns (placed_names ns x) ≡ Ok x) e.is
    (rw (
      number_again ns Point e.a o e.in_a,
      number_again ns Point e.b o e.in_b,
      number_again ns Point e.c o e.in_c,
      number_again ns Line e.k o e.in_k,
      number_again ns Point e.d o e.in_d,
      number_again ns Point e.g o e.in_g,
      number_again ns Point e.h o e.in_h,
      number_again ns Line e.l o e.in_l,
    ) refl)

placed_named : (ns : Names) (superposition : Superpose) → InOrder ns → fits_superposition superposition (scope_of_names ns) ≡ true → AreNames (placed_names ns superposition)
placed_named ns superposition o fit =
    let e = eight (scope_of_names ns) superposition fit in
    subst (λ (x : Superpose). AreNames (placed_names ns x)) e.is (
      named_at ns Point e.a o e.in_a,
      (
        named_at ns Point e.b o e.in_b,
        (
          named_at ns Point e.c o e.in_c,
          (
            named_at ns Line e.k o e.in_k,
            (
              named_at ns Point e.d o e.in_d,
              (
                named_at ns Point e.g o e.in_g,
                (
                  named_at ns Point e.h o e.in_h,
                  (named_at ns Line e.l o e.in_l, tt),
                ),
              ),
            ),
          ),
        ),
      ),
    )

-- what is known of a superposition where these names are in scope
pub record GoodSuperpose (ns : Names) (superposition : Superpose) (names : List (List ℕ)) (shown : List Lit) : Type 0 where
  pub order : InOrder ns
  pub fits : fits_superposition superposition (scope_of_names ns) ≡ true
  pub free : fresh ns [] names ≡ Ok tt
  pub named : AreNames names
  pub count : length names ≡ length sorts_copied
  pub plain : Plain ns shown
  pub some : 0 < length shown

pub superpose_number_again : (ns : Names) (superposition : Superpose) (names : List (List ℕ)) (shown : List Lit) → GoodSuperpose ns superposition names shown → superpose_in ns (raw_superpose ns superposition names shown) ≡ Ok (superposition, shown)
unfolding superpose_in
superpose_number_again ns superposition names shown g = rw (placed_again ns superposition g.order g.fits, g.free, lits_number_again ns shown g.order g.plain) refl

pub superpose_named : (ns : Names) (superposition : Superpose) (names : List (List ℕ)) (shown : List Lit) → GoodSuperpose ns superposition names shown → SuperposeNamed (raw_superpose ns superposition names shown)
superpose_named ns superposition names shown g = record {
  new_names = g.named;
  argument_names = placed_named ns superposition g.order g.fits;
  made = g.count;
  arguments = refl;
  shown = lits_named ns shown g.order g.plain g.some;
}
