-- What each line is known to be.
use Rattle.std.specs.Prelude.{IsTrue}
use Rattle.e_figure.specs.Figure.{has_direction, has_inside}
use Rattle.e_drawing.specs.declared.raw.RawLine.{RawLine}
use Rattle.e_drawing.specs.declared.raw.RawLine.TheVariants as raw

-- a line has a direction, and a circle an inside
abbrev pub IsNondegenerate : RawLine → Type 0
IsNondegenerate (raw.Line name l) = IsTrue (has_direction l)
IsNondegenerate (raw.Circle name c) = IsTrue (has_inside c)
IsNondegenerate _ = Unit {0}
