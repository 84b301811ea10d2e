-- What a construction, a superposition and a close line that are read are known to be.
use Rattle.std.proofs.Common.{◌≡◌, ℕ, Bool, true, false, cond, eqb, ltb, inl, inr, List, [], ◌∷◌, ◌++◌, length, Result, Ok, refl, sym, ap, subst, ◌∙◌, arith, length-append}
use Rattle.std.specs.Prelude.{◌⊎◌}
use Rattle.std.proofs.lemmas.Bool.{eqb-true, and_from}
use Rattle.std.proofs.lemmas.List.{length-take-le}
use Rattle.e_literal.specs.declared.object.Sort.{Sort}
use Rattle.e_literal.specs.declared.object.Sort.TheVariants.{Point, Line, Circle}
use Rattle.e_literal.specs.declared.object.Obj.{Obj}
use Rattle.e_literal.specs.declared.object.Scope.{Scope}
use Rattle.e_literal.specs.declared.literal.Lit.{Lit}
use Rattle.e_literal.specs.Scopes.{same_sort, with_one, with_sorts, are_of_sorts}
use Rattle.e_literal.specs.Use.{StatementView, scope_of}
use Rattle.e_construct.specs.declared.construction.Shape.{Shape}
use Rattle.e_construct.specs.declared.construction.Construction.{Construction}
use Rattle.e_construct.specs.declared.superpose.Superpose.{Superpose}
use Rattle.e_construct.specs.Construct.{fits_construction, sorts_made}
use Rattle.e_construct.specs.Superposing as superposing
pub use Rattle.e_construct.proofs.Moving.{grows}
use Rattle.e_deriv.specs.declared.names.Names.{Names}
use Rattle.e_deriv.specs.Naming.{names_of_sort, with_names, with_new_names, declared_names}
use Rattle.e_deriv.specs.Fitting.{all_objects}
use Rattle.e_line.specs.declared.fault.FaultKind.{FaultKind}
use Rattle.e_line.specs.declared.lets.RawLet.{RawLet}
use Rattle.e_line.specs.declared.superposes.RawSuperpose.{RawSuperpose}
use Rattle.e_line.specs.Reading.{◌>>=◌, each}
use Rattle.e_names.specs.Superposes.{superpose, placed_in, superpose_in}
use Rattle.e_names.specs.Scope.{scope_of_names, used_object, number_of_name, object_as, fresh, right_count, construction, arguments_in, first_fitting, let_in, lits_in, objects_of_sorts, qed_in}
use Rattle.e_line.proofs.base.Bound.{bind_ok, ok_is, read_ok}
use Rattle.e_names.proofs.read_lines.InScope.{number_in_scope}
use Rattle.e_names.proofs.read_lines.Citations.{object_scope, object_sort, counted}

-- ---- a construction that is read

chosen : (b : Bool) (c construction : Construction) (rest : Result Construction FaultKind) → cond b (read_ok c) rest ≡ Ok construction → ((b ≡ true) × (c ≡ construction)) ⊎ (rest ≡ Ok construction)
chosen true c construction rest e = inl (refl, ok_is c construction e)
chosen false c construction rest e = inr e

first_fits : (s : Scope) (args avoid : List Obj) (shapes : List Shape) (construction : Construction) → first_fitting s args avoid shapes ≡ Ok construction → fits_construction construction s ≡ true
first_fits s args avoid [] construction e = absurd cc
first_fits s args avoid (x ∷ shapes) form e =
    let c = construction x args avoid in
    elim (chosen (fits_construction c s) c form (first_fitting s args avoid shapes) e) [
      | inl p ↦ subst (λ (f : Construction). fits_construction f s ≡ true) p.1 p.0
      | inr p ↦ first_fits s args avoid shapes form p
    ]

-- it fits, its new names are free, and there is one for each object that it makes
pub record GoodLet (ns : Names) (construction : Construction) (new : List (List ℕ)) : Type 0 where
  pub fits : fits_construction construction (scope_of_names ns) ≡ true
  pub free : fresh ns [] new ≡ Ok tt
  pub count : length new ≡ length (sorts_made construction)

pub let_fits : (ns : Names) (l : RawLet) (construction : Construction) → let_in ns l ≡ Ok construction → GoodLet ns construction l.new
unfolding let_in
let_fits ns l construction e =
    let s = scope_of_names ns in
    let count : Construction → Result Construction FaultKind = λ f. right_count (eqb (length l.new) (length (sorts_made f))) >>= λ right. read_ok f in
    let a = bind_ok (fresh ns [] l.new) (λ free. arguments_in ns l.shapes [] l.args >>= λ args. each (used_object ns) l.avoid >>= λ avoid. first_fitting s args avoid l.shapes >>= count) construction e in
    let b = bind_ok (arguments_in ns l.shapes [] l.args) (λ args. each (used_object ns) l.avoid >>= λ avoid. first_fitting s args avoid l.shapes >>= count) construction a.2 in
    let c = bind_ok (each (used_object ns) l.avoid) (λ avoid. first_fitting s b.0 avoid l.shapes >>= count) construction b.2 in
    let d = bind_ok (first_fitting s b.0 c.0 l.shapes) count construction c.2 in
    let r = bind_ok (right_count (eqb (length l.new) (length (sorts_made d.0)))) (λ right. read_ok d.0) construction d.2 in
    subst (λ (f : Construction). GoodLet ns f l.new) (ok_is d.0 construction r.2) (record {
      fits = first_fits s b.0 c.0 l.shapes d.0 d.1;
      free = a.1;
      count = eqb-true (length l.new) (length (sorts_made d.0)) (counted _ r.0 r.1);
    })

-- ---- a superposition that is read

-- the points and lines that a superposition places, each after its name
pub record EachAfterName (ns : Names) (a b c k d g h l : List ℕ) (superposition : Superpose) : Type 0 where
  pub na : ℕ
  pub nb : ℕ
  pub nc : ℕ
  pub nk : ℕ
  pub nd : ℕ
  pub ng : ℕ
  pub nh : ℕ
  pub nl : ℕ
  pub a_is : number_of_name ns Point a ≡ Ok na
  pub b_is : number_of_name ns Point b ≡ Ok nb
  pub c_is : number_of_name ns Point c ≡ Ok nc
  pub k_is : number_of_name ns Line k ≡ Ok nk
  pub d_is : number_of_name ns Point d ≡ Ok nd
  pub g_is : number_of_name ns Point g ≡ Ok ng
  pub h_is : number_of_name ns Point h ≡ Ok nh
  pub l_is : number_of_name ns Line l ≡ Ok nl
  pub form_is : superpose na nb nc nd ng nh nk nl ≡ superposition

pub placed_after : (ns : Names) (a b c k d g h l : List ℕ) (superposition : Superpose) → placed_in ns (a ∷ b ∷ c ∷ k ∷ d ∷ g ∷ h ∷ l ∷ []) ≡ Ok superposition → EachAfterName ns a b c k d g h l superposition
unfolding placed_in
placed_after ns a b c k d g h l superposition e =
    let na = bind_ok (number_of_name ns Point a) (λ na. number_of_name ns Point b >>= λ nb. number_of_name ns Point c >>= λ nc. number_of_name ns Line k >>= λ nk. number_of_name ns Point d >>= λ nd. number_of_name ns Point g >>= λ ng. number_of_name ns Point h >>= λ nh. number_of_name ns Line l >>= λ nl. read_ok (superpose na nb nc nd ng nh nk nl)) superposition e in
    let nb = bind_ok (number_of_name ns Point b) (λ nb. number_of_name ns Point c >>= λ nc. number_of_name ns Line k >>= λ nk. number_of_name ns Point d >>= λ nd. number_of_name ns Point g >>= λ ng. number_of_name ns Point h >>= λ nh. number_of_name ns Line l >>= λ nl. read_ok (superpose na.0 nb nc nd ng nh nk nl)) superposition na.2 in
    let nc = bind_ok (number_of_name ns Point c) (λ nc. number_of_name ns Line k >>= λ nk. number_of_name ns Point d >>= λ nd. number_of_name ns Point g >>= λ ng. number_of_name ns Point h >>= λ nh. number_of_name ns Line l >>= λ nl. read_ok (superpose na.0 nb.0 nc nd ng nh nk nl)) superposition nb.2 in
    let nk = bind_ok (number_of_name ns Line k) (λ nk. number_of_name ns Point d >>= λ nd. number_of_name ns Point g >>= λ ng. number_of_name ns Point h >>= λ nh. number_of_name ns Line l >>= λ nl. read_ok (superpose na.0 nb.0 nc.0 nd ng nh nk nl)) superposition nc.2 in
    let nd = bind_ok (number_of_name ns Point d) (λ nd. number_of_name ns Point g >>= λ ng. number_of_name ns Point h >>= λ nh. number_of_name ns Line l >>= λ nl. read_ok (superpose na.0 nb.0 nc.0 nd ng nh nk.0 nl)) superposition nk.2 in
    let ng = bind_ok (number_of_name ns Point g) (λ ng. number_of_name ns Point h >>= λ nh. number_of_name ns Line l >>= λ nl. read_ok (superpose na.0 nb.0 nc.0 nd.0 ng nh nk.0 nl)) superposition nd.2 in
    let nh = bind_ok (number_of_name ns Point h) (λ nh. number_of_name ns Line l >>= λ nl. read_ok (superpose na.0 nb.0 nc.0 nd.0 ng.0 nh nk.0 nl)) superposition ng.2 in
    let nl = bind_ok (number_of_name ns Line l) (λ nl. read_ok (superpose na.0 nb.0 nc.0 nd.0 ng.0 nh.0 nk.0 nl)) superposition nh.2 in
    record {
      na = na.0;
      nb = nb.0;
      nc = nc.0;
      nk = nk.0;
      nd = nd.0;
      ng = ng.0;
      nh = nh.0;
      nl = nl.0;
      a_is = na.1;
      b_is = nb.1;
      c_is = nc.1;
      k_is = nk.1;
      d_is = nd.1;
      g_is = ng.1;
      h_is = nh.1;
      l_is = nl.1;
      form_is = ok_is (superpose na.0 nb.0 nc.0 nd.0 ng.0 nh.0 nk.0 nl.0) superposition nl.2;
    }

placed_fits : (ns : Names) (args : List (List ℕ)) (superposition : Superpose) → placed_in ns args ≡ Ok superposition → superposing.fits_superposition superposition (scope_of_names ns) ≡ true
unfolding placed_in
placed_fits ns (a ∷ b ∷ c ∷ k ∷ d ∷ g ∷ h ∷ l ∷ []) superposition e =
    let p = placed_after ns a b c k d g h l superposition e in
    let point : (name : List ℕ) (n : ℕ) → number_of_name ns Point name ≡ Ok n → ltb n (length ns.points) ≡ true = λ name n i. number_in_scope ns Point name n i in
    let line : (name : List ℕ) (n : ℕ) → number_of_name ns Line name ≡ Ok n → ltb n (length ns.lines) ≡ true = λ name n i. number_in_scope ns Line name n i in
    subst (λ (x : Superpose). superposing.fits_superposition x (scope_of_names ns) ≡ true) p.form_is
    (and_from _ _ (point a p.na p.a_is) (and_from _ _ (point b p.nb p.b_is) (and_from _ _ (point c p.nc p.c_is) (and_from _ _ (point d p.nd p.d_is)
    (and_from _ _ (point g p.ng p.g_is) (and_from _ _ (point h p.nh p.h_is) (and_from _ _ (line k p.nk p.k_is) (and_from _ _ (line l p.nl p.l_is) refl))))))))
placed_fits ns args superposition e = absurd cc

-- it fits, its new names are free, and its literals have the names of objects around it
pub record GoodCopy (ns : Names) (raw : RawSuperpose) (superposition : Superpose) (shown : List Lit) : Type 0 where
  pub fits : superposing.fits_superposition superposition (scope_of_names ns) ≡ true
  pub free : fresh ns [] raw.new ≡ Ok tt
  pub lits : lits_in ns raw.shown ≡ Ok shown

pub superpose_fits : (ns : Names) (raw : RawSuperpose) (p : Superpose × List Lit) → superpose_in ns raw ≡ Ok p → GoodCopy ns raw p.0 p.1
unfolding superpose_in
superpose_fits ns raw p e =
    let both_of : Superpose → List Lit → Superpose × List Lit = λ form ls. (form, ls) in
    let form = bind_ok (placed_in ns raw.args) (λ form. fresh ns [] raw.new >>= λ free. lits_in ns raw.shown >>= λ ls. read_ok (both_of form ls)) p e in
    let free = bind_ok (fresh ns [] raw.new) (λ free. lits_in ns raw.shown >>= λ ls. read_ok (both_of form.0 ls)) p form.2 in
    let ls = bind_ok (lits_in ns raw.shown) (λ ls. read_ok (both_of form.0 ls)) p free.2 in
    subst (λ (x : Superpose × List Lit). GoodCopy ns raw x.0 x.1) (ok_is (both_of form.0 ls.0) p ls.2)
    (record { fits = placed_fits ns raw.args form.0 form.1; free = free.1; lits = ls.1 })

-- ---- a close that is read

pub same_turned : (a b : Sort) → same_sort a b ≡ true → same_sort b a ≡ true
same_turned Point Point e = refl
same_turned Line Line e = refl
same_turned Circle Circle e = refl
same_turned Point Line e = absurd cc
same_turned Point Circle e = absurd cc
same_turned Line Point e = absurd cc
same_turned Line Circle e = absurd cc
same_turned Circle Point e = absurd cc
same_turned Circle Line e = absurd cc

pub of_sorts : (ns : Names) (sorts : List Sort) (names : List (List ℕ)) (os : List Obj) → length names ≡ length sorts → objects_of_sorts ns sorts names ≡ Ok os → are_of_sorts (scope_of_names ns) sorts os ≡ true
of_sorts ns [] [] os n e = subst (λ (l : List Obj). are_of_sorts (scope_of_names ns) [] l ≡ true) (ok_is [] os e) refl
of_sorts ns [] (name ∷ names) os n e = absurd (omega (arith, n))
of_sorts ns (sort ∷ sorts) [] os n e = absurd (omega (arith, n))
of_sorts ns (sort ∷ sorts) (name ∷ names) os n e =
    let a = bind_ok (object_as ns sort name) (λ o. objects_of_sorts ns sorts names >>= λ xs. read_ok (o ∷ xs)) os e in
    let b = bind_ok (objects_of_sorts ns sorts names) (λ xs. read_ok (a.0 ∷ xs)) os a.2 in
    subst (λ (l : List Obj). are_of_sorts (scope_of_names ns) (sort ∷ sorts) l ≡ true) (ok_is (a.0 ∷ b.0) os b.2)
    (rw (same_turned a.0.sort sort (object_sort ns sort name a.0 a.1), object_scope ns sort name a.0 a.1, of_sorts ns sorts names b.0 (omega (arith, n)) b.1) refl)

pub qed_fits : (ns : Names) (sorts : List Sort) (names : List (List ℕ)) (os : List Obj) → qed_in ns sorts names ≡ Ok os → are_of_sorts (scope_of_names ns) sorts os ≡ true
unfolding qed_in
qed_fits ns sorts names os e =
    let r = bind_ok (right_count (eqb (length names) (length sorts))) (λ right. objects_of_sorts ns sorts names) os e in
    of_sorts ns sorts names os (eqb-true (length names) (length sorts) (counted _ r.0 r.1)) r.2

-- ---- names and scopes

one_named : (ns : Names) (sort : Sort) (n : List ℕ) → with_one (scope_of_names ns) sort ≡ scope_of_names (with_names ns sort (names_of_sort ns sort ++ n ∷ []))
one_named ns Point n = ap (λ k. record { points = k; lines = length ns.lines; circles = length ns.circles }) (sym (length-append ns.points (n ∷ [])))
one_named ns Line n = ap (λ k. record { points = length ns.points; lines = k; circles = length ns.circles }) (sym (length-append ns.lines (n ∷ [])))
one_named ns Circle n = ap (λ k. record { points = length ns.points; lines = length ns.lines; circles = k }) (sym (length-append ns.circles (n ∷ [])))

-- with one name for each new object the names grow as the scope does
pub named_scope : (ns : Names) (sorts : List Sort) (names : List (List ℕ)) → length names ≡ length sorts → with_sorts (scope_of_names ns) sorts ≡ scope_of_names (with_new_names ns sorts names)
named_scope ns [] names e = refl
named_scope ns (s ∷ sorts) [] e = absurd (omega (arith, e))
named_scope ns (s ∷ sorts) (n ∷ names) e =
    ap (λ (z : Scope). with_sorts z sorts) (one_named ns s n) ∙ named_scope (with_names ns s (names_of_sort ns s ++ n ∷ [])) sorts names (omega (arith, e))

abbrev the_scope : ℕ → ℕ → ℕ → Scope
the_scope p l c = record { points = p; lines = l; circles = c }

scope_is : (a b c x y z : ℕ) → a ≡ x → b ≡ y → c ≡ z → the_scope a b c ≡ the_scope x y z
scope_is a b c x y z p q r = cc

-- the names of the declared objects are one for each
pub declared_scope : (t : StatementView) (ns : Names) → all_objects t ≡ scope_of_names ns → scope_of_names (declared_names t ns) ≡ scope_of t
declared_scope t ns e =
    let s = scope_of t in
    let p : (all_objects t).points ≡ length ns.points = ap (λ (z : Scope). z.points) e in
    let l : (all_objects t).lines ≡ length ns.lines = ap (λ (z : Scope). z.lines) e in
    let c : (all_objects t).circles ≡ length ns.circles = ap (λ (z : Scope). z.circles) e in
    scope_is _ _ _ _ _ _ (length-take-le s.points ns.points (omega (arith, p, grows s t.made Point)))
    (length-take-le s.lines ns.lines (omega (arith, l, grows s t.made Line))) (length-take-le s.circles ns.circles (omega (arith, c, grows s t.made Circle)))
