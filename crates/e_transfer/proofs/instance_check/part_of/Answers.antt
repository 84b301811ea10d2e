use Rattle.std.proofs.Common.{◌∙◌, ap, subst, sym}
use Rattle.std.specs.Prelude.{is_some, Some}
use Rattle.std.proofs.lemmas.Bool.{and_from}
use Rattle.e_literal.specs.Facts.{is_metric}
use Rattle.e_literal.proofs.Booleans.{and_left}
use Rattle.e_clause.specs.LimitedFacts.{are_well_formed_in, are_few}
use Rattle.e_clause.specs.MetricCertificate.{sums_refute}
use Rattle.e_metric.specs.MetricAnswers.{IsConsequence}
use Rattle.e_transfer.proofs.Needs.{facts_over, answer_yes}
use Rattle.e_transfer.proofs.ModelValues.{insufficient}
use Rattle.e_transfer.proofs.instance_check.part_of.Goals as goal

pub returns-in-Yes : goal.returns-in-Yes
returns-in-Yes c =
    let s = c.args.query.now in
    let need = c.args.need.now in
    let yes = answer_yes s.facts.now need _ c.in-Yes.cert c.in-Yes.is c.in_ok-cert.ensures in
    record {
      certifies = and_from (is_metric need) (sums_refute s.facts.now (Some need) c.in-Yes.cert.sums) (ap is_some (sym c.kind.ensures) ∙ c.if-is_none.ensures) yes.refutes;
      over = yes.scoped s.scope (facts_over s.scope s.facts.now (and_left (are_well_formed_in s.scope s.facts.now) (are_few s.facts.now) s.good)) c.requires.in_scope;
      written = yes.written;
    }

pub returns-in-No : goal.returns-in-No
returns-in-No c =
    let s = c.args.query.now in
    insufficient s.strength s.facts.now c.args.need.now (sym c.has.ensures ∙ c.if-has.false) (subst (IsConsequence s.facts.now c.args.need.now) c.in-No.is c.in_ok-cert.ensures)
