use Rattle.std.proofs.Common.{◌≡◌, ◌∙◌, ap, sym, subst, true, ℕ, Some}
use Rattle.e_transfer.specs.inner.Candidates.{is_next, option_at, known_numbers, AreSeen}
use Rattle.e_transfer.proofs.NextNumbers.{Known, points_seen, first_apart, second_apart}
use Rattle.e_transfer.proofs.candidates.seen_zero.Goals as goal
use Rattle.e_transfer.proofs.candidates.seen_zero.Goals.{in-First+in_ok-other-in-First, in-Second+in_ok-other-in-Second}

pub returns : goal.returns
returns c = λ next out rest.
    let n = c.args.numbers.now in
    let s = c.in_ok-place.place in
    let t = c.args.term in
    let points = c.args.points.now in
    let seen = c.seen_numbers-seen.result in
    let vs = c.variables_of_term-variables.ensures in
    let comes = subst (λ (v : Known). is_next n.positions.now n.part.now (option_at s v) ≡ true) vs c.in_ok-place.ensures in
    let known = c.known_numbers-known.ensures ∙ ap (known_numbers n.positions.now n.part.now) vs in
    let both = c.add_seen.ensures next out in (
      points_seen n t s comes points seen (subst (λ (k : Known). AreSeen k s points seen) known c.seen_numbers-seen.ensures) next both.0 rest,
      elim c.match-place.branch [
        | in-First+in_ok-other-in-First w ↦ first_apart n t s comes c.match-place.other next rest w.in-First.is (sym (ap (λ (k : Known). k.1) known) ∙ (w.in_ok-other-in-First.was ∙ ap (λ (x : ℕ). Some x) (sym w.other-is))) both.1
        | in-Second+in_ok-other-in-Second w ↦ second_apart n t s comes c.match-place.other next rest w.in-Second.is (sym (ap (λ (k : Known). k.0) known) ∙ (w.in_ok-other-in-Second.was ∙ ap (λ (x : ℕ). Some x) (sym w.other-is))) both.1
      ],
    )
