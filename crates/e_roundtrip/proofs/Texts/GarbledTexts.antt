-- A text that is judged garbled spells no proofs.
use Rattle.std.proofs.Common.{◌≡◌, ℕ, List, [], ◌∷◌, length, Result, Ok, Err, sym, subst}
use Rattle.e_theorem.specs.Statements.{as_view}
use Rattle.e_deriv.specs.Script.{Script}
use Rattle.e_deriv.specs.Certified.{verdict}
use Rattle.e_names.specs.TitledStatements.{TitledStatement, stated_by}
use Rattle.e_book.specs.TheoremViews.{TheoremView}
use Rattle.e_judgement.specs.declared.judgement.Judgement.{Judgement}
use Rattle.e_judgement.specs.declared.judgement.Judgement.TheVariants.{Verified, Bad, Garbled}
use Rattle.e_judgement.specs.Judged.{JudgesText, with_theorem}
use Rattle.e_judgement.proofs.OneJudgement.{one_judgement}
use Rattle.e_roundtrip.specs.Written.{judged_after, judgement_of}
use Rattle.e_roundtrip.specs.Laws.{GarbledSpellsNothing}
use Rattle.e_roundtrip.proofs.Texts.WrittenIsVerified.{written_is_judged}

not_verified : (n k : ℕ) → Verified n ≡ Garbled k → ⊥
not_verified n k e = absurd cc

not_bad : (title : List ℕ) (n k : ℕ) → Bad title n ≡ Garbled k → ⊥
not_bad title n k e = absurd cc

after_verdict : (title : List ℕ) (r : Result ℕ ℕ) (j : Judgement) (k : ℕ) → (j ≡ Garbled k → ⊥) → judged_after title r j ≡ Garbled k → ⊥
after_verdict title (Ok m) j k h e = h e
after_verdict title (Err step) j k h e = not_bad title step k e

-- no theorems that are spelled are judged so
never_garbled : (known : List TitledStatement) (ps : List (TheoremView × Script)) (k : ℕ) → judgement_of known ps ≡ Garbled k → ⊥
never_garbled known [] k e = not_verified (length known) k e
never_garbled known (p ∷ ps) k e =
    after_verdict p.0.title (verdict (stated_by known) (as_view p.0.statement) p.1) (judgement_of (with_theorem known p.0) ps) k (never_garbled (with_theorem known p.0) ps k) e

pub garbled_spells_nothing : GarbledSpellsNothing
garbled_spells_nothing text n k g s =
    let own = judgement_of [] s.theorems in
    never_garbled [] s.theorems k (one_judgement text own (Garbled k) (subst (λ (t : List ℕ). JudgesText t own) (sym s.bytes) (written_is_judged s.version s.theorems s.spelled)) g)
