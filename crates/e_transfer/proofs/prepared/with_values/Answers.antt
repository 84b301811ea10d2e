use Rattle.std.proofs.Common.{◌≡◌, ◌||◌, ◌∙◌, refl, subst, true, true≢false, sym, rules, tests}
use Rattle.std.specs.Prelude.{not}
use Rattle.e_transfer.specs.declared.models.Filling.TheVariants as filling
use Rattle.e_transfer.specs.Models.{is_model, value_by}
use Rattle.e_transfer.specs.inner.ListedTerms.{are_angles_within}
use Rattle.e_transfer.proofs.PreparedFacts.{where_true, listed_model, none_flattened}
use Rattle.e_transfer.proofs.prepared.with_values.Goals as goal
use Rattle.e_transfer.proofs.prepared.with_values.Goals.{then-lists_all, else-lists_all}

pub is_seen-requires : goal.is_seen-requires
is_seen-requires c = λ e.
    subst (λ vs. is_model c.args.facts.now (value_by (filling.Each 1) vs) ≡ true) (sym c.items.ensures)
    (listed_model c.args.facts.now c.args.values (c.requires.listed e) (filling.Each 1) refl (λ t a. refl))

pub is_seen-requires-2 : goal.is_seen-requires-2
is_seen-requires-2 c = λ e.
    subst (λ vs. is_model c.args.facts.now (value_by filling.Spread vs) ≡ true) (sym c.items-2.ensures)
    (listed_model c.args.facts.now c.args.values (c.requires.listed e) filling.Spread refl (λ t a. refl))

pub is_seen-requires-3 : goal.is_seen-requires-3
is_seen-requires-3 c = λ e. elim c.if-lists_all.branch [
  | then-lists_all w ↦ subst (λ vs. is_model c.args.facts.now (value_by filling.Flat vs) ≡ true) (sym c.items-3.ensures)
      (listed_model c.args.facts.now c.args.values (c.requires.listed w.if-lists_all.true) filling.Flat refl
      (none_flattened c.args.facts.now c.args.areas.items (search (rules, tests)) c.requires.named))
  | else-lists_all w ↦ absurd (true≢false (sym e ∙ w.no_areas-is ∙ w.if-lists_all.false))
]

pub returns : goal.returns
returns c =
    let facts = c.args.facts.now in
    let plain = where_true c.is_seen.result (is_model facts (value_by (filling.Each 1) c.items.result.now)) c.is_seen.ensures in
    let spread = where_true c.is_seen-2.result (is_model facts (value_by filling.Spread c.items-2.result.now)) c.is_seen-2.ensures in
    let flat = where_true c.is_seen-3.result (is_model facts (value_by filling.Flat c.items-3.result.now)) c.is_seen-3.ensures in
    record {
      marked = c.marks_of.ensures;
      listed = c.requires.numbers;
      angles = c.requires.angles;
      segments = c.requires.segments;
      zeros = c.requires.zeros;
      within = where_true c.list_all_within.result (are_angles_within c.args.values) (λ e. subst (λ vs. are_angles_within vs ≡ true) c.items-4.ensures (c.list_all_within.ensures.within e));
      named = c.requires.named;
      all = λ n. where_true c.list_all_within.result (is_model facts (value_by (filling.Each n) c.args.values)) (λ e. listed_model facts c.args.values (c.requires.listed (c.list_all_within.ensures.known e)) (filling.Each n) refl (λ t a. refl));
      plain = subst (λ vs. (not c.is_seen.result || is_model facts (value_by (filling.Each 1) vs)) ≡ true) c.items.ensures plain;
      spread = subst (λ vs. (not c.is_seen-2.result || is_model facts (value_by filling.Spread vs)) ≡ true) c.items-2.ensures spread;
      flat = subst (λ vs. (not c.is_seen-3.result || is_model facts (value_by filling.Flat vs)) ≡ true) c.items-3.ensures flat;
    }
