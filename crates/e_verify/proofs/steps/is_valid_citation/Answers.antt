use Rattle.std.proofs.Common.{ap, sym, ◌∙◌}
use Rattle.std.specs.Option.{option_map}
use Rattle.std.specs.List.{list_all}
use Rattle.e_literal.specs.Literal.{is_in_scope}
use Rattle.e_literal.specs.Facts.{has, has_all}
use Rattle.e_clause.specs.Instance.{Inst}
use Rattle.e_verify.proofs.checking.CertifiedLines.{cited_is}
use Rattle.e_verify.proofs.steps.is_valid_citation.Goals as goal

pub returns : goal.returns
returns c =
    let by = c.args.by.now in
    let inst = ap (Inst by.rule) (sym c.items-2.ensures) ∙ sym c.in_ok-lits.ensures ∙ ap (option_map (λ v. v.items)) c.in-Some.is in
    c.have_all.ensures ∙ ap (has_all c.args.facts.now) c.deref-2.ensures.value
    ∙ cited_is c.args.scope c.args.facts.now by c.in-Some.lits.items c.in_ok-needs.needs.items (sym c.is_transfer.ensures ∙ c.if-is_transfer.false)
    (ap (list_all (is_in_scope c.args.scope)) (sym c.items.ensures) ∙ sym c.objects_in.ensures ∙ c.if-not-objects_in.false) (sym c.in_scope.ensures ∙ c.if-not-in_scope.false) inst
    (ap (λ ls. has ls by.lit) (sym c.deref.ensures.value) ∙ sym c.is_among.ensures ∙ c.if-not-is_among.false) c.in_ok-needs.ensures
