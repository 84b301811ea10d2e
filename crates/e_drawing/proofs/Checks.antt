-- A worked figure: its canonical lines, and that it is one of those that have them.
use Rattle.std.proofs.Common.{◌≡◌, pos, negsuc, true, false, [], ◌∷◌, map, refl, arith}
use Rattle.std.specs.Prelude.{codes}
use Rattle.std.specs.Fmt.{digits}
use Rattle.e_text.specs.Names.{reserved_words}
use Rattle.e_text.specs.Tokens.{joined_words}
use Rattle.e_literal.specs.declared.literal.Atom.TheVariants as atoms
use Rattle.e_drawing.specs.declared.plan.Place.TheVariants.{Done}
use Rattle.e_drawing.specs.declared.plan.Plan.{Plan}
use Rattle.e_drawing.specs.Spelled.{plan_line_words, lines_of_plan, HasCanonicalText}

-- two points, a line and a circle
abbrev plan : Plan
plan = record {
  names = record { points = codes "a" ∷ codes "b" ∷ []; lines = codes "L" ∷ []; circles = codes "A" ∷ [] };
  figure = record {
    points = record { x = pos 0; y = pos 0 } ∷ record { x = negsuc 1; y = pos 30 } ∷ [];
    lines = record { x = pos 0; y = pos 0; dx = pos 1; dy = negsuc 0 } ∷ [];
    circles = record { x = pos 0; y = pos 0; square = 4 } ∷ [];
  };
  given = record { neg = false; atom = atoms.On 0 0 } ∷ [];
  shown = record { neg = true; atom = atoms.EqP 0 1 } ∷ record { neg = true; atom = atoms.OnC 0 0 } ∷ [];
  place = Done;
}

canonical_lines : map (λ line. joined_words (plan_line_words line)) (lines_of_plan plan)
    ≡ codes "figure" ∷ codes "point a 0 0" ∷ codes "point b -2 30" ∷ codes "line L 0 0 1 -1" ∷ codes "circle A 0 0 4" ∷ codes "given on a L" ∷ codes "show a != b" ∷ codes "show not on a A" ∷ codes "end" ∷ []
unfolding digits
canonical_lines = refl

has_canonical_text : HasCanonicalText plan
unfolding digits reserved_words
has_canonical_text = record {
  fits = record { few = record { points = omega arith; lines = omega arith; circles = omega arith }; named = refl };
  point_names = (refl, (refl, tt));
  line_names = (refl, tt);
  circle_names = (refl, tt);
  names_differ = record { points = refl; lines = refl; circles = refl; points_lines = refl; points_circles = refl; lines_circles = refl };
  bounded = refl;
  figure = refl;
  given = refl;
  shown = refl;
  some_shown = omega arith;
  done = refl;
  few_bytes = omega arith;
}
