use Rattle.std.proofs.Common.{ap}
use Rattle.std.specs.Prelude.{option_copied}
use Rattle.e_transfer.specs.declared.models.Filling.TheVariants.{Each}
use Rattle.e_transfer.specs.Models.{is_model, value_by}
use Rattle.e_transfer.specs.inner.ListedTerms.{are_angles_within}
use Rattle.e_transfer.proofs.ListedTerms.{angles_never, segments_never}
use Rattle.e_transfer.proofs.ModelValues.{then}
use Rattle.e_transfer.proofs.instance_search.seen_terms.Goals as goal

pub returns-in-Ang-Ang : goal.returns-in-Ang-Ang
returns-in-Ang-Ang c =
    let facts = c.args.query.now.facts.now in
    let hints = c.in_ok-prepared.prepared.now in
    let is = c.args.query.now.hinted hints (ap option_copied c.in_ok-prepared.was) in
    let all = c.if-not-prepared.false in
    angles_never facts hints.values (λ k. then hints.lists_all (is_model facts (value_by (Each k) hints.values)) (is.all k) all) c.args.numbers.now c.args.term c.args.other c.in-Ang-Ang.field-0-0
    c.in-Ang-Ang.field-1-0 c.in-Ang-Ang.field-2-0 c.in-Ang-Ang.field-0-1 c.in-Ang-Ang.field-1-1 c.in-Ang-Ang.field-2-1 hints.angles.items c.seen_angles.result
    (then hints.lists_all (are_angles_within hints.values) is.within all) c.in-Ang-Ang.is-0 c.in-Ang-Ang.is-1 is.angles c.seen_angles.ensures

pub returns-in-Seg-Seg : goal.returns-in-Seg-Seg
returns-in-Seg-Seg c =
    let facts = c.args.query.now.facts.now in
    let hints = c.in_ok-prepared.prepared.now in
    let is = c.args.query.now.hinted hints (ap option_copied c.in_ok-prepared.was) in
    let all = c.if-not-prepared.false in
    segments_never facts hints.values (λ k. then hints.lists_all (is_model facts (value_by (Each k) hints.values)) (is.all k) all) c.args.numbers.now c.args.term c.args.other c.in-Seg-Seg.field-0-0
    c.in-Seg-Seg.field-1-0 c.in-Seg-Seg.field-0-1 c.in-Seg-Seg.field-1-1 hints.segments.items hints.zero_segments.items c.seen_segments.result c.in-Seg-Seg.is-0 c.in-Seg-Seg.is-1 is.segments is.zeros
    c.seen_segments.ensures
