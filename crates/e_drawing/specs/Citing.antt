-- What a figure refutes is shown by no proof that only cites.
use Rattle.std.specs.Prelude.{◌≡◌, List, false, IsTrue}
use Rattle.e_literal.specs.declared.literal.Lit.{Lit}
use Rattle.e_literal.specs.declared.object.Scope.{Scope}
use Rattle.e_literal.specs.Facts.{has, has_all, with_fact, with_facts}
use Rattle.e_literal.specs.Literal.{negation}
use Rattle.e_deriv.specs.Script.{Script, Cite, Claim, Qed, Contradiction, Cases}
use Rattle.e_figure.specs.Figure.{FigureView, is_figure}
use Rattle.e_figure.specs.Cite.{IsCited, is_refuted}

-- the script shows these literals from the facts by `by`, `claim` and `cases` alone: at each `qed`
-- they are facts, and at each `contradiction` a literal and its negation are
abbrev pub ShowsByCiting : Scope → List Lit → List Lit → Script → Type 0
ShowsByCiting s facts goal (Cite by rest) =
    IsCited s facts by.lit × ShowsByCiting s (with_fact facts by.lit) goal rest
ShowsByCiting s facts goal (Claim shown inner rest) =
    ShowsByCiting s facts shown inner × ShowsByCiting s (with_facts facts shown) goal rest
ShowsByCiting s facts goal (Qed objects certs) = IsTrue (has_all facts goal)
ShowsByCiting s facts goal (Contradiction against) =
    (l : Lit) × IsTrue (has facts l) × IsTrue (has facts (negation l))
ShowsByCiting s facts goal (Cases lit first second) =
    ShowsByCiting s (with_fact facts lit) goal first
    × ShowsByCiting s (with_fact facts (negation lit)) goal second
ShowsByCiting s facts goal script = ⊥

-- what a figure refutes is shown by no such proof from the same facts
abbrev pub RefutedIsNotShown : Type 0
RefutedIsNotShown =
    (d : FigureView) (s : Scope) (facts goal : List Lit) (script : Script) (l : Lit)
    → IsTrue (is_figure d) → IsTrue (is_refuted d facts l) → ShowsByCiting s facts goal script
    → has goal l ≡ false
