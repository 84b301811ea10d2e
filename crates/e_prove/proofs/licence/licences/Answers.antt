use Rattle.std.proofs.Common.{◌≡◌, ◌∷◌, [], ◌∙◌, subst, true}
use Rattle.std.proofs.lemmas.Result.{err_from_is_err_and}
use Rattle.e_clause.specs.Certify.{certifies}
use Rattle.e_licence.specs.Contexts.{Basis}
use Rattle.e_prove.specs.inner.StopsOfSteps.{StepStopsAmong}
use Rattle.e_prove.proofs.LicensedLiterals.{certify_next, stops_among}
use Rattle.e_prove.proofs.WrittenCertificates.{certs_more}
use Rattle.e_prove.proofs.licence.licences.Goals as goal

pub returns-in_err-cert-clause-err : goal.returns-in_err-cert-clause-err
returns-in_err-cert-clause-err c =
    let l = c.lit-item.result in
    let stop_reason = c.in_err-cert.field-0.0 in
    let p = err_from_is_err_and c.from_residual.result c.from_residual.ensures.1 in
    rw (p.1, p.2)
    (stops_among c.args.context.now c.args.lits.now c.loop-lit.lit-index c.loop-lit.certs.items l stop_reason
    c.loop-lit-test.true c.lit-item.is c.loop-lit.invariant.certified (subst (λ (b : Basis). StepStopsAmong b (l ∷ []) stop_reason) c.loop-lit.invariant.same c.in_err-cert.ensures.err))

pub returns-in_err-cert-clause-kept : goal.returns-in_err-cert-clause-kept
returns-in_err-cert-clause-kept c = c.in_err-cert.ensures.kept ∙ c.loop-lit.invariant.same

pub returns-in_err-push-clause-kept : goal.returns-in_err-push-clause-kept
returns-in_err-push-clause-kept c = c.in_ok-cert.ensures.kept ∙ c.loop-lit.invariant.same

pub loop-lit-preserved : goal.loop-lit-preserved
loop-lit-preserved c =
    let l = c.lit-item.result in
    let cert = c.in_ok-cert.cert in
    record {
      same = c.in_ok-cert.ensures.kept ∙ c.loop-lit.invariant.same;
      certified =
          rw c.in_ok-push.ensures.items
          (certify_next c.args.context.now c.args.lits.now c.loop-lit.lit-index c.loop-lit.certs.items l cert c.loop-lit-test.true c.lit-item.is c.loop-lit.invariant.certified
          (subst (λ (b : Basis). certifies b.scope b.facts l cert ≡ true) c.loop-lit.invariant.same c.in_ok-cert.ensures.ok));
      version = rw c.in_ok-push.ensures.items (certs_more c.loop-lit.certs.items cert c.loop-lit.invariant.version c.in_ok-cert.ensures.version);
    }
