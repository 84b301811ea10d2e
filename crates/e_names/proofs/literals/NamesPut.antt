-- Literals with the names of their objects.
use Rattle.std.proofs.Common.{◌≡◌, true, List, [], ◌∷◌, ◌++◌, map, refl, sym, ap, ◌∙◌, append_assoc}
use Rattle.e_literal.specs.declared.object.Mono.{Mono}
use Rattle.e_literal.specs.declared.literal.Atom.{Atom}
use Rattle.e_literal.specs.declared.literal.Atom.TheVariants as atoms
use Rattle.e_deriv.specs.declared.names.Names.{Names}
use Rattle.e_line.specs.declared.literal.RawAtom.{RawAtom}
use Rattle.e_line.specs.declared.literal.RawLit.{RawLit}
use Rattle.e_names.specs.Canonical.{raw_atom, raw_signed}

-- ---- one more is put last

pub put_more : {A B : Type 0} (f : A → B) (done whole : List B) (here rest : List A) (x : A) → here ≡ x ∷ rest → done ++ map f here ≡ whole → (done ++ f x ∷ []) ++ map f rest ≡ whole
put_more f done whole here rest x e h = append_assoc done (f x ∷ []) (map f rest) ∙ ap (λ xs. done ++ map f xs) (sym e) ∙ h

-- ---- a negated atom

abbrev pub negated : RawAtom → RawLit
negated r = record { neg = true; atom = r }

-- any but one that says less is negated by its sign
pub signed_so : (ns : Names) (a : Atom) (r : RawAtom) → ((x y : List Mono) → a ≡ atoms.MagLt x y → ⊥) → r ≡ raw_atom ns a → negated r ≡ raw_signed ns true a
signed_so ns (atoms.MagLt x y) r other e = absurd (other x y refl)
signed_so ns a r other e = ap negated e
