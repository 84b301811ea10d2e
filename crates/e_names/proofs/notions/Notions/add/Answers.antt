use Rattle.std.proofs.Common.{◌≡◌, ℕ, false, List, [], ◌∷◌, ◌++◌, length, map, sym, ap, ◌∙◌, arith, length-append}
use Rattle.std.specs.List.{list_any}
use Rattle.std.specs.Str.{bytes_eq}
use Rattle.e_names.specs.Titled.{Titled, titled_notion}
use Rattle.e_names.proofs.titles.SideBySide.{put_new}
use Rattle.e_names.proofs.titles.NotionsBeside.{titles_of, append_beside}
use Rattle.e_names.proofs.notions.Notions.add.Goals as goal

keys_after : (c : goal.After-unwrap) → c.insert.new.self.keys ≡ c.self.inside.titles.keys ++ c.args.title ∷ []
keys_after c =
    let s = c.self.inside in
    let e : map (λ (n : Titled). n.title) c.args.self.now ≡ s.titles.keys = ap (λ (h : List Titled). map (λ (n : Titled). n.title) h) (sym c.self.view_is) ∙ titles_of s.titles.keys s.notions.items c.self.invariant in
    let new : list_any (bytes_eq c.args.title) s.titles.keys ≡ false = ap (λ (ts : List (List ℕ)). list_any (bytes_eq c.args.title) ts) (sym e) ∙ c.requires.new in
    let put = rw c.unwrap.ensures at c.insert.ensures.keys in
    put ∙ put_new c.args.title s.titles.keys c.reserve.new.self.keys c.reserve.ensures.keys new

pub invariant_of-self-2 : goal.invariant_of-self-2
invariant_of-self-2 c =
    let s = c.self.inside in
    let pushed = c.in_ok-push.ensures.items in
    ap length (keys_after c) ∙ omega (arith, c.self.invariant, length-append s.titles.keys (c.args.title ∷ []), length-append s.notions.items (c.args.notion ∷ [])) ∙ ap length (sym pushed)

pub returns-clause-ok : goal.returns-clause-ok
returns-clause-ok c =
    let s = c.self.inside in
    let pushed = c.in_ok-push.ensures.items in
    rw (keys_after c, pushed) (append_beside s.titles.keys s.notions.items c.args.title c.args.notion c.self.invariant ∙ ap (λ (h : List Titled). h ++ titled_notion c.args.title c.args.notion ∷ []) c.self.view_is)
