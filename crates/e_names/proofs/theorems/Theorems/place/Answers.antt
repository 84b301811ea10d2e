use Rattle.std.proofs.Common.{◌≡◌, ℕ, List, sym, ap, ◌∙◌}
use Rattle.std.specs.List.{position}
use Rattle.std.specs.Str.{bytes_eq}
use Rattle.e_names.specs.TitledStatements.{TitledStatement, titles}
use Rattle.e_names.proofs.titles.SideBySide.{titles_of}
use Rattle.e_names.proofs.theorems.Theorems.place.Goals as goal

pub returns : goal.returns
returns c =
    let s = c.self.inside in
    let e : titles c.args.self.now ≡ s.titles.keys = ap (λ (h : List TitledStatement). titles h) (sym c.self.view_is) ∙ titles_of s.titles.keys s.statements.items c.self.invariant in
    c.get_index_of.ensures.index ∙ ap (λ (ts : List (List ℕ)). position (bytes_eq c.args.title) ts) (sym e)
