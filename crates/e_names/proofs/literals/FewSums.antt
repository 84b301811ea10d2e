-- What is known of literals that are read within their limits.
use Rattle.std.proofs.Common.{◌≡◌, Bool, true, false, List, [], ◌∷◌, Ok, refl}
use Rattle.e_literal.specs.declared.literal.Lit.{Lit}
use Rattle.e_deriv.specs.declared.names.Names.{Names}
use Rattle.e_line.specs.declared.fault.What.{What}
use Rattle.e_line.specs.declared.fault.What.TheVariants as limits
use Rattle.e_line.specs.declared.literal.RawLit.{RawLit}
use Rattle.e_names.specs.Scope.{lit_in, lits_in}
use Rattle.e_line.specs.LineLimits.{have_few_monomials, have_low_coefficients, or_limit, check_literal_limits}
use Rattle.e_line.proofs.base.Bound.{bind_ok}

limited : (b : Bool) (what : What) (u : Unit {0}) → or_limit b what ≡ Ok u → b ≡ true
limited true what u e = refl
limited false what u e = absurd cc

pub record FewMonos (raws : List RawLit) : Type 0 where
  pub short : have_few_monomials raws ≡ true
  pub small : have_low_coefficients raws ≡ true

pub few_ok : (raws : List RawLit) (u : Unit {0}) → check_literal_limits raws ≡ Ok u → FewMonos raws
unfolding check_literal_limits
few_ok raws u e =
    let a = bind_ok (or_limit (have_few_monomials raws) limits.Monomials) (λ short. or_limit (have_low_coefficients raws) limits.Coefficient) u e in
    record { short = limited (have_few_monomials raws) limits.Monomials a.0 a.1; small = limited (have_low_coefficients raws) limits.Coefficient u a.2 }

pub one_lit : (ns : Names) (r : RawLit) (l : Lit) → lit_in ns r ≡ Ok l → lits_in ns (r ∷ []) ≡ Ok (l ∷ [])
one_lit ns r l e = rw e refl
