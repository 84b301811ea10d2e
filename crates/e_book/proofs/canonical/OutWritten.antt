-- A line as its items are written out, and the names that it may name.
use Rattle.std.proofs.Common.{◌≡◌, ℕ, List, [], ◌++◌, map, Result, Ok, sym, ap, subst, ◌∙◌, arith}
use Rattle.e_literal.specs.declared.literal.Lit.{Lit}
use Rattle.e_deriv.specs.declared.names.Names.{Names}
use Rattle.e_line.specs.declared.fault.FaultKind.{FaultKind}
use Rattle.e_line.specs.declared.fault.LineError.{LineError}
use Rattle.e_line.specs.declared.literal.RawLit.{RawLit}
use Rattle.e_line.specs.declared.raw_line.RawLine.{RawLine}
use Rattle.e_line.specs.declared.items.RawItem.{RawItem}
use Rattle.e_line.specs.declared.items.ListHead.{ListHead}
use Rattle.e_book.specs.declared.parser.Section.{Section}
use Rattle.e_book.specs.declared.parser.Section.TheVariants as places
use Rattle.e_book.specs.declared.parser.TheoremParser.{TheoremParser}
use Rattle.e_line.specs.Reading.{Fails}
use Rattle.e_names.specs.Titled.{Titled}
use Rattle.e_names.specs.Canonical.{raw_of}
use Rattle.e_book.specs.LineLimits.{FewNamed}
use Rattle.e_names.specs.Scope.{FewNames}
use Rattle.e_book.specs.Steps.{FitsScope}
use Rattle.e_line.specs.Items.{list_raw_line}
use Rattle.e_names.specs.Meanings.{items_in}
use Rattle.e_names.specs.inner.Written.{Writes}
use Rattle.e_book.specs.inner.Machine.{names_at_place, names_there, is_ready, line_written_out}
use Rattle.e_names.proofs.read_lines.ItemsWritten.{fails_on}

enough : (ns : Names) → FewNamed ns → FewNames ns
enough ns f = record { points = omega (arith, f.points); lines = omega (arith, f.lines); circles = omega (arith, f.circles) }

few_at : (p : Section) (ns scope : Names) → FewNamed ns → FewNamed scope → FewNames (names_at_place p ns scope)
few_at places.Proving ns scope f g = enough scope g
few_at places.Declaring ns scope f g = enough ns f
few_at places.Giving ns scope f g = enough ns f
few_at places.Making ns scope f g = enough ns f
few_at places.Showing ns scope f g = enough ns f
few_at places.Splitting ns scope f g = enough ns f
few_at places.Closed ns scope f g = enough ns f
few_at places.Done ns scope f g = enough ns f

pub few_there : (d : TheoremParser) (ns : Names) → FitsScope d → ns ≡ names_there d → FewNames ns
few_there d ns f is = subst FewNames (sym is) (few_at d.section d.names d.in_scope f.names f.in_scope)

abbrev then_out : Names → ListHead → List Lit × ℕ → Result (RawLine × ℕ) FaultKind
then_out ns line p = Ok (list_raw_line line (map (raw_of ns) p.0), p.1)

pub out_is : (notions : List Titled) (d : TheoremParser) (line : ListHead) (is : List RawItem) (ns : Names) (none raws : List RawLit) (n : ℕ) (raw_line : RawLine) → is_ready d line ≡ Ok tt → ns ≡ names_there d → none ≡ []
    → Writes ns (Ok n) none raws (items_in notions ns 0 is) → raw_line ≡ list_raw_line line raws → line_written_out notions d line is ≡ Ok (raw_line, n)
out_is notions d line is ns none raws n raw_line ready at empty w f =
    let read : items_in notions (names_there d) 0 is ≡ Ok (w.0, n) = subst (λ (x : Names). items_in notions x 0 is ≡ Ok (w.0, n)) at w.1 in
    let put : raws ≡ map (raw_of (names_there d)) w.0 = w.2 ∙ ap (λ (x : List RawLit). x ++ map (raw_of ns) w.0) empty ∙ ap (λ (x : Names). map (raw_of x) w.0) at in
    rw (ready, read) (ap (λ (x : List RawLit). Ok (list_raw_line line x, n)) (sym put) ∙ ap (λ (x : RawLine). Ok (x, n)) (sym f))

pub out_fails : (notions : List Titled) (d : TheoremParser) (line : ListHead) (is : List RawItem) (ns : Names) (e : LineError) → is_ready d line ≡ Ok tt → ns ≡ names_there d → Fails e (items_in notions ns 0 is) → Fails e (line_written_out notions d line is)
out_fails notions d line is ns e ready at h =
    let here = subst (λ (x : Names). Fails e (items_in notions x 0 is)) at h in
    rw ready (fails_on e (items_in notions (names_there d) 0 is) (then_out (names_there d) line) here)
