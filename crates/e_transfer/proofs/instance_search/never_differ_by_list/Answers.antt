use Rattle.std.proofs.Common.{ap}
use Rattle.std.specs.Prelude.{option_copied}
use Rattle.e_transfer.specs.declared.models.Filling.TheVariants.{Each}
use Rattle.e_transfer.specs.Models.{is_model, value_by}
use Rattle.e_transfer.specs.inner.ListedTerms.{are_angles_within}
use Rattle.e_transfer.proofs.ListedTerms.{angles_open}
use Rattle.e_transfer.proofs.ModelValues.{then}
use Rattle.e_transfer.proofs.instance_search.never_differ_by_list.Goals as goal

pub returns-in-Ang-Ang : goal.returns-in-Ang-Ang
returns-in-Ang-Ang c = λ e.
    let facts = c.args.query.now.facts.now in
    let hints = c.in-Some.prepared.now in
    let is = c.args.query.now.hinted hints (ap option_copied c.in-Some.is) in
    let all = c.if-not-prepared.false in
    angles_open facts hints.values (λ k. then hints.lists_all (is_model facts (value_by (Each k) hints.values)) (is.all k) all) c.args.numbers.now c.args.term c.args.other c.in-Ang-Ang.field-0-0
    c.in-Ang-Ang.field-1-0 c.in-Ang-Ang.field-2-0 c.in-Ang-Ang.field-0-1 c.in-Ang-Ang.field-1-1 c.in-Ang-Ang.field-2-1 hints.angles.items (then hints.lists_all (are_angles_within hints.values) is.within all)
    c.in-Ang-Ang.is-0 c.in-Ang-Ang.is-1 is.angles (c.is_one_unlisted.ensures e)
