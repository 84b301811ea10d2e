use Rattle.std.proofs.Common.{◌≡◌, ℕ, false, List, [], ◌∷◌, ◌++◌, length, sym, ap, ◌∙◌}
use Rattle.std.specs.List.{list_any}
use Rattle.std.specs.Str.{bytes_eq}
use Rattle.e_names.specs.TitledStatements.{TitledStatement, titled_statement, titles}
use Rattle.e_names.proofs.titles.SideBySide.{titles_of, put_new, one_more_each, append_side_by_side}
use Rattle.e_names.proofs.theorems.Theorems.add.Goals as goal

keys_after : (c : goal.After-unwrap) → c.insert.new.self.keys ≡ c.self.inside.titles.keys ++ c.args.title ∷ []
keys_after c =
    let s = c.self.inside in
    let e : titles c.args.self.now ≡ s.titles.keys = ap (λ (h : List TitledStatement). titles h) (sym c.self.view_is) ∙ titles_of s.titles.keys s.statements.items c.self.invariant in
    let new : list_any (bytes_eq c.args.title) s.titles.keys ≡ false = ap (λ (ts : List (List ℕ)). list_any (bytes_eq c.args.title) ts) (sym e) ∙ c.requires.new in
    let put = rw c.unwrap.ensures at c.insert.ensures.keys in
    put ∙ put_new c.args.title s.titles.keys c.reserve.new.self.keys c.reserve.ensures.keys new

pub invariant_of-self-2 : goal.invariant_of-self-2
invariant_of-self-2 c =
    let s = c.self.inside in
    let pushed = c.in_ok-push.ensures.items in
    ap length (keys_after c) ∙ one_more_each s.titles.keys s.statements.items c.args.title c.args.statement c.self.invariant ∙ ap length (sym pushed)

pub returns-clause-ok : goal.returns-clause-ok
returns-clause-ok c =
    let s = c.self.inside in
    let pushed = c.in_ok-push.ensures.items in
    rw (keys_after c, pushed) (append_side_by_side s.titles.keys s.statements.items c.args.title c.args.statement c.self.invariant ∙ ap (λ (h : List TitledStatement). h ++ titled_statement c.args.title c.args.statement ∷ []) c.self.view_is)
