use Rattle.std.proofs.Common.{◌≡◌, subst, true}
use Rattle.e_transfer.specs.inner.Candidates.{is_next, option_at, known_numbers, AreSeen}
use Rattle.e_transfer.proofs.NextNumbers.{Known, points_seen}
use Rattle.e_transfer.proofs.candidates.seen_points.Goals as goal

pub returns : goal.returns
returns c =
    let n = c.args.numbers.now in
    let s = c.in_ok-place.place in
    let vs = c.variables_of_term-variables.ensures in
    let points = c.args.points.now in
    let seen = c.seen_numbers.result in
    points_seen n c.args.term s (subst (λ (v : Known). is_next n.positions.now n.part.now (option_at s v) ≡ true) vs c.in_ok-place.ensures) points seen
    (subst (λ (v : Known). AreSeen (known_numbers n.positions.now n.part.now v) s points seen) vs (subst (λ (k : Known). AreSeen k s points seen) c.known_numbers.ensures c.seen_numbers.ensures))
