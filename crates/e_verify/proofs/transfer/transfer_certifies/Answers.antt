use Rattle.std.proofs.Common.{ap, sym, ◌∙◌, map}
use Rattle.std.specs.List.{list_all}
use Rattle.std.specs.Option.{option_map}
use Rattle.e_literal.specs.WellFormed.{is_well_formed}
use Rattle.e_literal.specs.Literal.{negation}
use Rattle.e_literal.specs.Facts.{has}
use Rattle.e_clause.specs.Instance.{Inst}
use Rattle.e_clause.specs.TransferCertificate.{parts_certify, transfer_certifies}
use Rattle.e_verify.proofs.checking.FormedInstances.{instance_formed, needs_formed}
use Rattle.e_verify.proofs.checking.PairedCertificates.{transfer_is, ok_as}
use Rattle.e_verify.proofs.transfer.transfer_certifies.Goals as goal

pub parts_certify_needs-requires-clause-lits : goal.parts_certify_needs-requires-clause-lits
parts_certify_needs-requires-clause-lits c =
    let t = c.args.cert.now in
    let inst = ap (Inst t.rule) (sym c.items.ensures) ∙ sym c.in_ok-lits.ensures ∙ ap (option_map (λ v. v.items)) c.in-Some.is in
    ap (list_all is_well_formed) (c.deref-2.ensures.value ∙ c.in_ok-needs.ensures) ∙ needs_formed c.in-Some.lits.items c.args.lit.now (instance_formed t.rule t.args c.in-Some.lits.items inst)

pub returns : goal.returns
returns c =
    let t = c.args.cert.now in
    let facts = c.args.facts.now in
    let lits = c.in-Some.lits.items in
    let inst = ap (Inst t.rule) (sym c.items.ensures) ∙ sym c.in_ok-lits.ensures ∙ ap (option_map (λ v. v.items)) c.in-Some.is in
    let one = ap (λ ls. has ls c.args.lit.now) (sym c.deref.ensures.value) ∙ sym c.is_among.ensures ∙ c.if-not-is_among.false in
    ok_as c.parts_certify_needs.result (parts_certify facts (map negation c.deref-2.result.now) c.items-2.result.now) (transfer_certifies facts c.args.lit.now t) c.parts_certify_needs.ensures
    (transfer_is facts c.args.lit.now t lits c.deref-2.result.now c.items-2.result.now (sym c.is_transfer.ensures ∙ c.if-not-is_transfer.false) inst one (c.deref-2.ensures.value ∙ c.in_ok-needs.ensures) c.items-2.ensures)
