-- What `trim` writes of a verified text is verified.
use Rattle.std.proofs.Common.{◌≡◌, ℕ, List, [], refl, subst}
use Rattle.std.specs.Prelude.{IsTrue}
use Rattle.std.specs.List.{list_all}
use Rattle.e_clause.specs.declared.cert.Version.{Version}
use Rattle.e_clause.specs.declared.cert.Version.TheVariants.{One}
use Rattle.e_theorem.specs.Statements.{as_view}
use Rattle.e_deriv.specs.Script.{Script}
use Rattle.e_deriv.specs.Fitting.{is_small_statement}
use Rattle.e_names.specs.TitledStatements.{TitledStatement, stated_by}
use Rattle.e_book.specs.TheoremViews.{TheoremView}
use Rattle.e_book.specs.Grammar.{Rest}
use Rattle.e_trim.specs.Trimmed.{trimmed_script}
use Rattle.e_judgement.specs.declared.judgement.Judgement.TheVariants.{Verified}
use Rattle.e_judgement.specs.Judged.{ReadsNext, IsCertified, lines_of_text}
use Rattle.e_roundtrip.specs.Written.{CanBeVerified, accepted_blocks_line}
use Rattle.e_roundtrip.proofs.Trimmed.TrimmedSpelling.{trimmed_can_be_verified}
use Rattle.e_commands.specs.declared.rewriting.Job.TheVariants.{Trim}
use Rattle.e_commands.specs.Answers.{IsVerifiedText}
use Rattle.e_commands.specs.Rewrites.{rewritten_with, EndsAfter}
use Rattle.e_commands.specs.inner.Rewriting.{AreOfSecond}
use Rattle.e_commands.proofs.written_texts.VerifiedAgain.{verified_again}

abbrev left_of : List TitledStatement → TheoremView → Script
left_of known t = trimmed_script (stated_by known) (as_view t.statement) t.script

trimmed_spelled : (v : Version) → v ≡ One → (last : ℕ) (known : List TitledStatement) (lines after : Rest) (t : TheoremView) → ReadsNext v last known lines t after → IsCertified known t → IsTrue (list_all is_small_statement (stated_by known)) → CanBeVerified One known t (left_of known t)
trimmed_spelled v first last known lines after t read c small =
    trimmed_can_be_verified known last t lines after small (subst (λ (x : Version). ReadsNext x last known lines t after) first read) c

pub trimmed_is_verified : (text : List ℕ) (n : ℕ) (ts : List TheoremView) → EndsAfter Trim (lines_of_text text) ts (Verified n) → AreOfSecond Trim [] ts → IsVerifiedText n (rewritten_with Trim ts (accepted_blocks_line n))
trimmed_is_verified text n ts h second =
    verified_again Trim One left_of (λ v first last known lines after t read c s small. trimmed_spelled v first last known lines after t read c small) (λ known t. refl) refl (λ n. refl) text n ts h second
