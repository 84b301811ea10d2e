-- A theorem that is read from a derivation text can be checked.
use Rattle.std.proofs.Common.{◌≡◌, ℕ, true, List, Result, sym, ◌∙◌, arith}
use Rattle.std.specs.List.{list_all}
use Rattle.e_text.specs.Lines.{LineView}
use Rattle.e_text.specs.declared.line.LineFault.{LineFault}
use Rattle.e_literal.specs.Use.{scope_of}
use Rattle.e_clause.specs.declared.cert.Version.{Version}
use Rattle.e_theorem.specs.Statements.{as_view}
use Rattle.e_deriv.specs.Script.{bare_script}
use Rattle.e_deriv.specs.Goal.{facts_of_statement, goal_of_statement}
use Rattle.e_deriv.specs.Fitting.{is_small_statement, IsFitting}
use Rattle.e_names.specs.TitledStatements.{TitledStatement, stated_by}
use Rattle.e_book.specs.TheoremViews.{TheoremView}
use Rattle.e_book.specs.HasSpelling.{HasSpelling}
use Rattle.e_book.proofs.fit_theorems.Fitting.{fitting}
use Rattle.e_book.proofs.fit_theorems.WrittenScripts.{erased_literals, written_well}
use Rattle.e_verify.specs.Verdicts.{IsVerifiable}
use Rattle.e_read.specs.Text.{at_start, piece_from, without_certs}
use Rattle.e_read.proofs.Bridge.{derives}
use Rattle.e_read.proofs.ReadCertificates.{good_certs_read}
use Rattle.e_judgement.proofs.WithCertificates.{size_erased, small_with}

pub verifiable : (v : Version) (known : List TitledStatement) (last : ℕ) (lines rest : List (Result LineView LineFault)) (t : TheoremView) → list_all is_small_statement (stated_by known) ≡ true → is_small_statement (as_view t.statement) ≡ true → HasSpelling known (without_certs t)
    → piece_from known last (at_start v) lines ≡ derives t rest → IsVerifiable (stated_by known) (as_view t.statement) t.script
verifiable v known last lines rest t states small spelled e =
    let bs = stated_by known in
    let st = as_view t.statement in
    let fit : IsFitting bs st (bare_script t.script) = fitting known (without_certs t) states spelled.fits in
    record {
      statements = states;
      statement = small;
      short = omega (arith, fit.short, size_erased t.script);
      scopes = small_with bs t.script (bare_script t.script) t.script (scope_of st) (facts_of_statement st) (facts_of_statement st) (goal_of_statement st) (goal_of_statement st) fit.scopes;
      written = written_well t.script (sym (erased_literals t.script) ∙ spelled.fits.good_script) (good_certs_read v known last lines rest t e);
    }
