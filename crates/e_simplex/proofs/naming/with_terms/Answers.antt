use Rattle.std.proofs.Common.{◌≡◌, List, ap, sym, ◌∙◌, subst, length, get_or, ℤ, pos}
use Rattle.e_literal.specs.declared.object.Term.{Term}
use Rattle.e_literal.specs.declared.object.Term.TheVariants.{Seg}
use Rattle.e_simplex.specs.Naming.{place_of, Continues, FormNamed}
use Rattle.e_simplex.proofs.columns.Places.{continues_push, form_all, terms_new, terms_old}
use Rattle.e_simplex.proofs.naming.with_terms.Goals.{then-place-len+in_ok-push, else-place-len}
use Rattle.e_simplex.proofs.naming.with_terms.Goals as goal

pub loop-term-preserved : goal.loop-term-preserved
loop-term-preserved c =
    let d : ℤ × Term = (pos 0, Seg 0 0) in
    let n : c.len.result ≡ length c.loop-term.terms.items = c.len.ensures ∙ c.loop-term.terms.ok.0 in
    let v = ap (λ (v : List Term). place_of v (get_or {A = ℤ × Term} c.summands-form.result.now c.loop-term.term-index (pos 0, Seg 0 0)).1) c.deref.ensures.value in
    elim c.if-place-len.branch [
      | then-place-len+in_ok-push w ↦ (let t = terms_new c.loop-term.terms.items c.if-place-len.terms.items c.summands-form.result.now c.loop-term.term-index (pos 0, Seg 0 0)
          c.loop-term-test.true (ap (λ u. u.items) w.terms-is ∙ w.in_ok-push.ensures.items) (sym v ∙ sym c.place.ensures.value ∙ w.if-place-len.true ∙ n)
          c.loop-term.invariant.once c.loop-term.invariant.form in
          record {
            once = t.0;
            form = t.1;
            continues = subst (Continues c.args.terms.items) (sym (ap (λ u. u.items) w.terms-is ∙ w.in_ok-push.ensures.items))
                (continues_push c.args.terms.items c.loop-term.terms.items (get_or {A = ℤ × Term} c.summands-form.result.now c.loop-term.term-index (pos 0, Seg 0 0)).1 c.loop-term.invariant.continues);
          })
      | else-place-len w ↦ (let t = terms_old c.loop-term.terms.items c.if-place-len.terms.items c.summands-form.result.now c.loop-term.term-index (pos 0, Seg 0 0)
          c.loop-term-test.true (ap (λ u. u.items) w.terms-is) (λ q. w.if-place-len.false (c.place.ensures.value ∙ v ∙ q ∙ sym n))
          c.loop-term.invariant.once c.loop-term.invariant.form in
          record {
            once = t.0;
            form = t.1;
            continues = subst (Continues c.args.terms.items) (sym (ap (λ u. u.items) w.terms-is)) c.loop-term.invariant.continues;
          })
    ]

pub returns-clause-row : goal.returns-clause-row
returns-clause-row c =
    subst (FormNamed c.loop-term.terms.items) c.summands-form.ensures.value (form_all c.loop-term.terms.items c.summands-form.result.now c.loop-term.term-index c.loop-term-test.false c.loop-term.invariant.form)
