-- Diagram literals are well formed.
use Rattle.std.proofs.Common.{◌≡◌, refl, true, true≢false, sym}
use Rattle.e_literal.specs.declared.literal.Atom.{Atom}
use Rattle.e_literal.specs.declared.literal.Atom.TheVariants.{MagEq, MagLt}
use Rattle.e_literal.specs.WellFormed.{is_well_formed_atom}
use Rattle.e_names.specs.Fits.{is_diagram_atom}

-- ---- good literals and good certificates

-- a diagram atom has no sums
pub good_diagram : (a : Atom) → is_diagram_atom a ≡ true → is_well_formed_atom a ≡ true
good_diagram (MagEq x y) h = absurd (true≢false (sym h))
good_diagram (MagLt x y) h = absurd (true≢false (sym h))
good_diagram a h = refl
