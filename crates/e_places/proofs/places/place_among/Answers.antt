use Rattle.std.proofs.Common.{◌≡◌, ◌<◌, ◌≤◌, ℕ, cond, arith, length, not, sym, ◌∙◌, inl, inr, Option, Some, None, lt-ltb}
use Rattle.std.specs.Prelude.{nat_lt}
use Rattle.std.proofs.lemmas.Bool.{cases_lt}
use Rattle.std.proofs.lemmas.List.Sums.{prefix_len-le-length}
use Rattle.std.proofs.lemmas.Option.{none-some}
use Rattle.e_literal.specs.Same.{same_lit}
use Rattle.e_places.specs.Numbered.{place_of_same}
use Rattle.e_places.proofs.places.place_among.Goals as goal

-- what is not before the end is the end
at_end : (n end : ℕ) → n ≤ end → cond (nat_lt n end) (Some n) None ≡ None → end ≡ n
at_end n end le none = elim (cases_lt n end) [
  | inl before ↦ absurd (none-some n (sym (rw (lt-ltb n end before) at none)))
  | inr past ↦ omega (arith, le, past)
]

pub returns-in-None : goal.returns-in-None
returns-in-None c =
    let facts = c.args.facts.now in
    let l = c.args.lit.now in
    c.len.ensures ∙ at_end (place_of_same facts l) (length facts) (prefix_len-le-length (λ f. not (same_lit f l)) facts) (sym c.place_of.ensures ∙ c.in-None.is)
