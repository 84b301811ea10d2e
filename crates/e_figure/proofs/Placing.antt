-- Which arguments are in the figure's scope.
use Rattle.std.proofs.Common.{◌≡◌, ℕ, List, ap, sym, ◌∙◌, Bool, true, false, is_some}
use Rattle.std.specs.List.{list_all}
use Rattle.std.proofs.lemmas.Bool.{and_right}
use Rattle.e_literal.specs.Literal.{is_in_scope}
use Rattle.e_literal.specs.declared.object.Obj.{Obj}
use Rattle.e_literal.specs.declared.object.Scope.{Scope}
use Rattle.e_clause.specs.Instance.{Inst}
use Rattle.e_figure.specs.Figure.{FigureView, scope_of_figure}
use Rattle.e_figure.specs.Law.{are_in_figure, has_instance}

tested : (s : Scope) (d : FigureView) (args : List Obj) (b : Bool) → s ≡ scope_of_figure d → b ≡ list_all (is_in_scope s) args → b ≡ are_in_figure d args
tested s d args b e t = t ∙ ap (λ x. list_all (is_in_scope x) args) e

pub not_in_figure : (s : Scope) (d : FigureView) (rule : ℕ) (args : List Obj) (b : Bool) → s ≡ scope_of_figure d → b ≡ list_all (is_in_scope s) args
    → b ≡ false → has_instance d rule args ≡ false
not_in_figure s d rule args b e t n = and_right (is_some (Inst rule args)) (are_in_figure d args) (sym (tested s d args b e t) ∙ n)

pub in_figure : (s : Scope) (d : FigureView) (args : List Obj) (b : Bool) → s ≡ scope_of_figure d → b ≡ list_all (is_in_scope s) args
    → b ≡ true → are_in_figure d args ≡ true
in_figure s d args b e t y = sym (tested s d args b e t) ∙ y
