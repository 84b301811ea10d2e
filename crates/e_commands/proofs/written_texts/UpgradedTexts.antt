-- What `upgrade` writes of a verified text is verified.
use Rattle.std.proofs.Common.{◌≡◌, ℕ, true, List, [], Result, Ok, Err, refl, sym, subst, ◌∙◌}
use Rattle.std.specs.Prelude.{IsTrue, OnOk}
use Rattle.e_clause.specs.declared.cert.Version.{Version}
use Rattle.e_clause.specs.declared.cert.Version.TheVariants.{Two}
use Rattle.e_literal.specs.Use.{scope_of}
use Rattle.e_theorem.specs.Statements.{as_view}
use Rattle.e_deriv.specs.Script.{Script, bare_script}
use Rattle.e_deriv.specs.Goal.{goal_of_statement, facts_of_statement}
use Rattle.e_deriv.specs.Versions.{has_certs_of}
use Rattle.e_deriv.proofs.Versions.{good_of_version}
use Rattle.e_book.specs.Fits.{has_well_formed_literals}
use Rattle.e_names.specs.TitledStatements.{TitledStatement, stated_by}
use Rattle.e_book.specs.TheoremViews.{TheoremView}
use Rattle.e_book.specs.HasSpelling.{HasSpelling}
use Rattle.e_book.proofs.fit_theorems.WrittenScripts.{erased_literals, written_well}
use Rattle.e_book.specs.Grammar.{Rest}
use Rattle.e_places.specs.Numbered.{derivation_with_places}
use Rattle.e_places.proofs.placing.NumberedLines.{numbered_certified, numbered_erased}
use Rattle.e_judgement.specs.declared.judgement.Judgement.TheVariants.{Verified}
use Rattle.e_judgement.specs.Judged.{ReadsNext, IsCertified, lines_of_text}
use Rattle.e_roundtrip.specs.Written.{CanBeVerified, accepted_blocks_line}
use Rattle.e_roundtrip.proofs.Formed.CertifiedFormed.{certified_formed}
use Rattle.e_roundtrip.proofs.Texts.ReadIsSpelled.{read_is_formed_so}
use Rattle.e_commands.specs.declared.rewriting.Job.TheVariants.{Upgrade}
use Rattle.e_commands.specs.Answers.{IsVerifiedText}
use Rattle.e_commands.specs.Rewrites.{rewritten_with, EndsAfter}
use Rattle.e_commands.specs.inner.Rewriting.{AreOfSecond}
use Rattle.e_commands.proofs.written_texts.VerifiedAgain.{verified_again}

abbrev placed : List TitledStatement → TheoremView → Script
placed known t = derivation_with_places (stated_by known) (as_view t.statement) t.script

placed_spelled : (v : Version) (known : List TitledStatement) (last : ℕ) (lines after : Rest) (t : TheoremView) → ReadsNext v last known lines t after → IsCertified known t → IsTrue (has_certs_of Two (placed known t)) → CanBeVerified Two known t (placed known t)
placed_spelled v known last lines after t read certified second =
    let bs = stated_by known in
    let st = as_view t.statement in
    let own = read_is_formed_so v known last t lines after read in
    let same : bare_script (placed known t) ≡ bare_script t.script = numbered_erased bs t.script (scope_of st) (facts_of_statement st) (goal_of_statement st) in
    let plain : HasSpelling known (record t { script = bare_script (placed known t) }) = subst (λ (s : Script). HasSpelling known (record t { script = s })) (sym same) own.plain in
    let still = numbered_certified bs t.script (scope_of st) (facts_of_statement st) (goal_of_statement st) certified in
    let literals : has_well_formed_literals (placed known t) ≡ true = sym (erased_literals (placed known t)) ∙ plain.fits.good_script in
    record {
      spelled = record {
        plain = plain;
        formed = certified_formed bs st (placed known t) still (written_well (placed known t) literals (good_of_version Two (placed known t) second));
        version = second;
      };
      certified = still;
    }

pub upgraded_is_verified : (text : List ℕ) (n : ℕ) (ts : List TheoremView) → EndsAfter Upgrade (lines_of_text text) ts (Verified n) → AreOfSecond Upgrade [] ts → IsVerifiedText n (rewritten_with Upgrade ts (accepted_blocks_line n))
upgraded_is_verified text n ts h second =
    verified_again Upgrade Two placed (λ v taken last known lines after t read c s small. placed_spelled v known last lines after t read c s) (λ known t. refl) refl (λ n. refl) text n ts h second

-- what holds anyway holds where there is an answer
pub holds_on_ok : {A E : Type 0} (r : Result A E) (P : Type 0) → P → OnOk r P
holds_on_ok (Ok x) P h = h
holds_on_ok (Err e) P h = tt
