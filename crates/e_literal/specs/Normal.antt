-- The normal form that a value of the program is.
use Rattle.std.specs.Prelude.{ℤ}
use Rattle.std.specs.BTreeMap.{BTreeMap}
use Rattle.e_literal.specs.declared.literal.Atom.TheVariants as atom
use Rattle.e_literal.specs.declared.normals.Normal.{Normal}
use Rattle.e_literal.specs.declared.normals.NormalAtom.{NormalAtom as Kept}
use Rattle.e_literal.specs.declared.normals.NormalAtom.TheVariants.{On, OnC, Inside, Center}
use Rattle.e_literal.specs.declared.normals.NormalAtom.TheVariants.{Between, Same, MeetLL, MeetLC}
use Rattle.e_literal.specs.declared.normals.NormalAtom.TheVariants.{MeetCC, EqP, EqL, EqC, MagEq}
use Rattle.e_literal.specs.declared.normals.NormalAtom.TheVariants.{MagLt}
use Rattle.e_literal.specs.NormalForm.{NormalAtom, Diagram, Equation, Inequality, NormalForm}

abbrev pub normal_atom_of : Kept → NormalAtom
normal_atom_of (On a b) = Diagram (atom.On a b)
normal_atom_of (OnC a b) = Diagram (atom.OnC a b)
normal_atom_of (Inside a b) = Diagram (atom.Inside a b)
normal_atom_of (Center a b) = Diagram (atom.Center a b)
normal_atom_of (Between a b c) = Diagram (atom.Between a b c)
normal_atom_of (Same a b c) = Diagram (atom.Same a b c)
normal_atom_of (MeetLL a b) = Diagram (atom.MeetLL a b)
normal_atom_of (MeetLC a b) = Diagram (atom.MeetLC a b)
normal_atom_of (MeetCC a b) = Diagram (atom.MeetCC a b)
normal_atom_of (EqP a b) = Diagram (atom.EqP a b)
normal_atom_of (EqL a b) = Diagram (atom.EqL a b)
normal_atom_of (EqC a b) = Diagram (atom.EqC a b)
normal_atom_of (MagEq m) = Equation m.entries
normal_atom_of (MagLt m) = Inequality m.entries

abbrev pub form_of : Normal → NormalForm
form_of n = record { neg = n.negated; atom = normal_atom_of n.atom }
