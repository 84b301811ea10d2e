use Rattle.std.proofs.Common.{◌≡◌, ℕ, List, [], ◌∷◌, Result, Ok, sym, ap, subst, ◌∙◌}
use Rattle.e_literal.specs.declared.literal.Lit.{Lit}
use Rattle.e_line.specs.declared.fault.FaultKind.{FaultKind}
use Rattle.e_line.specs.declared.fault.LineError.{LineError}
use Rattle.e_line.specs.declared.literal.RawLit.{RawLit}
use Rattle.e_line.specs.Reading.{◌>>=◌, Fails}
use Rattle.e_line.proofs.base.Bound.{read_ok}
use Rattle.e_names.specs.Scope.{lit_in}
use Rattle.e_names.proofs.read_lines.ItemsWritten.{fails_on}
use Rattle.e_book.specs.declared.blocks.BlockKind.TheVariants as kind
use Rattle.e_book.specs.declared.parser.TheoremParser.{TheoremParser}
use Rattle.e_book.specs.Steps.{inside_block, terms_inside, after_cases}
use Rattle.e_book.proofs.grammar.BlockBegins.{begun_with_lit}
use Rattle.e_book.proofs.parser.TheoremParser.on_cases.Goals as goal

split_fails : (d : TheoremParser) (r : RawLit) (l : Lit) (given : List Lit) (raws : List RawLit) (e : LineError) → lit_in d.in_scope r ≡ Ok l → given ≡ l ∷ [] → raws ≡ r ∷ [] → Fails e (terms_inside d given raws) → Fails e (after_cases d r)
split_fails d r l given raws e is g w f =
    let begun : Lit → ℕ → Result TheoremParser FaultKind = λ x n. read_ok (record (inside_block d (kind.First x) 1) { terms = n }) in
    let there : Result Lit FaultKind → Result TheoremParser FaultKind = λ x. x >>= λ y. terms_inside d (y ∷ []) (r ∷ []) >>= begun y in
    let one = subst (λ (x : List Lit). Fails e (terms_inside d x (r ∷ []))) g (subst (λ (x : List RawLit). Fails e (terms_inside d given x)) w f) in
    subst (Fails e) (sym (begun_with_lit d r ∙ ap there is)) (fails_on e (terms_inside d (l ∷ []) (r ∷ [])) (begun l) one)

pub returns-in-Err-clause-value : goal.returns-in-Err-clause-value
returns-in-Err-clause-value c =
    split_fails c.args.self.now c.args.raw.now c.in_ok-lit.lit c.from_ref.result.now c.from_ref-2.result.now c.in-Err.error c.in_ok-lit.ensures c.from_ref.ensures.value c.from_ref-2.ensures.value c.in-Err.ensures.value
