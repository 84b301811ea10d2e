-- What the program's table says.
use Rattle.std.specs.Prelude.{◌++◌, map, true, false, Option}
use Rattle.e_literal.specs.declared.object.Obj.{Obj}
use Rattle.e_literal.specs.declared.literal.Lit.{Lit}
use Rattle.e_literal.specs.declared.literal.Atom.{Atom}
use Rattle.e_literal.specs.declared.literal.Atom.TheVariants as atom
use Rattle.e_literal.specs.Rename.{image_in, pairs_of}
use Rattle.e_construct.specs.declared.pattern.Relation.{Relation}
use Rattle.e_construct.specs.declared.pattern.Relation.TheVariants.{On, OnC, Inside, Center}
use Rattle.e_construct.specs.declared.pattern.Relation.TheVariants.{Between, Same, MeetLL, MeetLC}
use Rattle.e_construct.specs.declared.pattern.Relation.TheVariants.{MeetCC, EqP}
use Rattle.e_construct.specs.declared.pattern.Pattern.{Pattern}
use Rattle.e_construct.specs.declared.pattern.Pattern.TheVariants.{Is, Not}
use Rattle.e_construct.specs.declared.pattern.Avoids.{Avoids as CodeAvoids}
use Rattle.e_construct.specs.declared.pattern.Avoids.TheVariants as avoids
use Rattle.e_construct.specs.declared.pattern.Row.{Row}
use Rattle.e_construct.specs.declared.naming.Naming.{Naming}
use Rattle.e_construct.specs.Shapes.{ShapeRow, Avoids, NoObject, AnyObject, AnyApartFrom}

abbrev pub atom_of_relation : Relation → Atom
atom_of_relation (On x y) = atom.On x.num y.num
atom_of_relation (OnC x y) = atom.OnC x.num y.num
atom_of_relation (Inside x y) = atom.Inside x.num y.num
atom_of_relation (Center x y) = atom.Center x.num y.num
atom_of_relation (Between x y z) = atom.Between x.num y.num z.num
atom_of_relation (Same x y z) = atom.Same x.num y.num z.num
atom_of_relation (MeetLL x y) = atom.MeetLL x.num y.num
atom_of_relation (MeetLC x y) = atom.MeetLC x.num y.num
atom_of_relation (MeetCC x y) = atom.MeetCC x.num y.num
atom_of_relation (EqP x y) = atom.EqP x.num y.num

abbrev pub lit_of_shape_pattern : Pattern → Lit
lit_of_shape_pattern (Is r) = record { neg = false; atom = atom_of_relation r }
lit_of_shape_pattern (Not r) = record { neg = true; atom = atom_of_relation r }

abbrev pub avoids_of : CodeAvoids → Avoids
avoids_of avoids.NoObject = NoObject
avoids_of avoids.AnyObject = AnyObject
avoids_of (avoids.AnyApartFrom o) = AnyApartFrom o

abbrev pub shape_row_view : Row → ShapeRow
shape_row_view r =
    record {
      args = r.args.now;
      needs = map lit_of_shape_pattern r.needs.now;
      made = r.made.now;
      gives = map lit_of_shape_pattern r.gives.now;
      avoids = avoids_of r.avoids;
    }

-- the objects for the variables: the arguments, and the new objects
abbrev pub image_of : Naming → Obj → Option Obj
image_of n =
    image_in (pairs_of n.letters.now n.objects.now ++ pairs_of n.new_letters.now n.new_objects.now)
