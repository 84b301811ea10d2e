use Rattle.std.proofs.Common.{◌≡◌, ℕ, List, Bor, sym, ap, ◌∙◌, rules, tests}
use Rattle.std.specs.List.{list_any}
use Rattle.std.specs.Str.{bytes_eq}
use Rattle.std.proofs.lemmas.Iterator.{YieldsList-from_slice}
use Rattle.std.proofs.lemmas.Iterator.Search.{any_from_yields_List}
use Rattle.e_text.proofs.ReservedWords.{not_reserved, any_of_map}
use Rattle.e_text.proofs.words.reserved.Goals as goal

pub returns-then-has_small_second : goal.returns-then-has_small_second
returns-then-has_small_second c =
    let is = bytes_eq c.args.token.now in
    let found : c.any.result ≡ list_any (λ (w : Bor (List ℕ)). bytes_eq c.args.token.now w.now) c.words.result.now =
    any_from_yields_List _ _ _ _ c.any.ensures.ran (YieldsList-from_slice c.words.result.now cc) (λ x b q k. search (rules, tests)) in
    found ∙ any_of_map is (λ (w : Bor (List ℕ)). w.now) c.words.result.now ∙ ap (list_any is) c.words.ensures

pub returns-else-has_small_second : goal.returns-else-has_small_second
returns-else-has_small_second c = c.if-has_small_second.false ∙ sym (not_reserved c.args.token.now (sym c.has_small_second.ensures ∙ c.if-has_small_second.false))
