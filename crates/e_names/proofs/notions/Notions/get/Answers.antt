use Rattle.std.proofs.Common.{◌≡◌, ◌<◌, [], Some, length, sym, ap, ◌∙◌, arith}
use Rattle.std.proofs.lemmas.List.Quantifiers.{position-Some}
use Rattle.std.specs.List.{position}
use Rattle.std.specs.Str.{bytes_eq}
use Rattle.e_names.specs.Titled.{notion_of}
use Rattle.e_names.proofs.titles.NotionsBeside.{found, not_found}
use Rattle.e_names.proofs.notions.Notions.get.Goals as goal

pub index-requires : goal.index-requires
index-requires c =
    let s = c.self.inside in
    let at : position (bytes_eq c.args.title) s.titles.keys ≡ Some c.in-Some.place = sym c.get_index_of.ensures.index ∙ c.in-Some.is in
    omega (arith, c.self.invariant, (position-Some (bytes_eq c.args.title) s.titles.keys c.in-Some.place [] at).0)

pub returns-in-Some : goal.returns-in-Some
returns-in-Some c =
    let s = c.self.inside in
    let at : position (bytes_eq c.args.title) s.titles.keys ≡ Some c.in-Some.place = sym c.get_index_of.ensures.index ∙ c.in-Some.is in
    let within : c.in-Some.place < length s.notions.items = omega (arith, c.self.invariant, (position-Some (bytes_eq c.args.title) s.titles.keys c.in-Some.place [] at).0) in
    found s.titles.keys s.notions.items c.args.title c.in-Some.place c.index.result.now c.self.invariant at within c.index.ensures ∙ ap (λ h. notion_of h c.args.title) c.self.view_is

pub returns-in-None : goal.returns-in-None
returns-in-None c =
    let s = c.self.inside in
    not_found s.titles.keys s.notions.items c.args.title (sym c.get_index_of.ensures.index ∙ c.in-None.is) ∙ ap (λ h. notion_of h c.args.title) c.self.view_is
