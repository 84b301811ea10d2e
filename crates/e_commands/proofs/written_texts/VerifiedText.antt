-- What is written of an accepted book is verified.
use Rattle.std.proofs.Common.{◌≡◌, true, ℕ, suc, ◌+◌, List, [], ◌∷◌, ◌++◌, length, map, refl, sym, ap, subst, ◌∙◌, arith, length-append}
use Rattle.e_clause.specs.declared.cert.Version.TheVariants.{One}
use Rattle.e_deriv.specs.Script.{Script}
use Rattle.e_theorem.specs.Statements.{as_view}
use Rattle.e_names.specs.TitledStatements.{TitledStatement, titled_statement, stated_by}
use Rattle.e_names.specs.declared.known.Known.{Known}
use Rattle.e_book.specs.TheoremViews.{TheoremView}
use Rattle.e_book.specs.HasSpelling.{HasSpelling}
use Rattle.e_names.specs.Taken.{nothing_known}
use Rattle.e_names.specs.Titled.{Titled, are_notions}
use Rattle.e_names.proofs.titles.NotionsBeside.{one_more_notion}
use Rattle.e_book.proofs.parsers.ItemsRead.{spelled_grammar, notions_grammar}
use Rattle.e_book.specs.Grammar.{Rest}
use Rattle.e_roundtrip.proofs.Formed.CertifiedFormed.{certified_formed}
use Rattle.e_roundtrip.proofs.Formed.FilledSpelling.{filled_has_spelling}
use Rattle.e_roundtrip.specs.Written as texts
use Rattle.e_roundtrip.specs.Written.{CanBeVerified, AllCanBeVerified, accepted_blocks_line}
use Rattle.e_roundtrip.proofs.Texts.WrittenIsVerified.{written_is_verified}
use Rattle.e_judgement.specs.declared.judgement.Judgement.TheVariants.{Verified}
use Rattle.e_judgement.specs.Judged.{JudgesText, with_theorem}
use Rattle.e_commands.specs.Outcome.{and_theorem, and_notion, Defines, Takes, Begins, end_line_number}
use Rattle.e_commands.specs.Outcome as outcome
use Rattle.e_commands.proofs.progress.History.{defined_same}
use Rattle.e_commands.specs.Answers.{Derived, IsDerived, AllDerived, OutcomeAfter, IsVerifiedText, theorems_of, blocks_of, written_with}

abbrev pairs : List Derived → List (TheoremView × Script)
pairs ds = map (λ d. (d.theorem, d.derivation)) ds

-- a derivation that was found can be spelled, and is certified
found_spelled : (known : List TitledStatement) (d : Derived) → HasSpelling known d.theorem → IsDerived known d → CanBeVerified One known d.theorem d.derivation
found_spelled known d spelled h = record {
  spelled = record {
    plain = filled_has_spelling known d.theorem d.derivation spelled h.own h.certified;
    formed = certified_formed (stated_by known) (as_view d.theorem.statement) d.derivation h.certified h.written;
    version = h.version;
  };
  certified = h.certified;
}

-- definitions that are read are notions
notions_read : (last : ℕ) (known : Known) (lines : Rest) (ns : List Titled) (now : Known) (rest : Rest) → are_notions known.notions ≡ true → Defines last known lines ns now rest → are_notions now.notions ≡ true
notions_read last known lines [] now rest all d = subst (λ (k : Known). are_notions k.notions ≡ true) d.0 all
notions_read last known lines (n ∷ ns) now rest all d =
    notions_read last (and_notion known n) d.0 ns now rest (one_more_notion known.notions n all (notions_grammar known last n lines d.0 all d.1).1) d.2

all_spelled : (last : ℕ) (known : Known) (lines : Rest) (ds : List Derived) (now : Known) (rest : Rest) → are_notions known.notions ≡ true → Takes last known lines (theorems_of ds) now rest → AllDerived known.theorems ds → AllCanBeVerified One known.theorems (pairs ds)
all_spelled last known lines [] now rest all r h = tt
all_spelled last known lines (d ∷ ds) now rest all r h =
    let same = defined_same last known lines r.0 r.1 r.2 in
    let notions = notions_read last known lines r.2.notions r.0 r.1 all r.2.defines in
    let spelled = subst (λ (k : List TitledStatement). HasSpelling k d.theorem) (sym same) (spelled_grammar r.0 last d.theorem r.1 r.3 notions r.4) in
    let later = subst (λ (k : List TitledStatement). AllDerived (with_theorem k d.theorem) ds) same h.1 in (
      found_spelled known.theorems d spelled h.0,
      subst (λ (k : List TitledStatement). AllCanBeVerified One (with_theorem k d.theorem) (pairs ds)) (sym same) (all_spelled last (and_theorem r.0 d.theorem) r.3 ds now rest notions r.6 later),
    )

blocks_same : (known : List TitledStatement) (ds : List Derived) → texts.spelled_blocks known (pairs ds) ≡ blocks_of known ds
blocks_same known [] = refl
blocks_same known (d ∷ ds) = ap (λ (x : List ℕ). Rattle.e_spell.specs.Spelling.spelling known d.theorem d.derivation ++ x) (blocks_same (with_theorem known d.theorem) ds)

-- one more is known after each theorem
pub known_grows : (last : ℕ) (known : Known) (lines : Rest) (ts : List TheoremView) (now : Known) (rest : Rest) → Takes last known lines ts now rest → length now.theorems ≡ length known.theorems + length ts
known_grows last known lines [] now rest r = omega (arith, ap length (defined_same last known lines now rest r))
known_grows last known lines (t ∷ ts) now rest r =
    omega (
      arith,
      ap length (defined_same last known lines r.0 r.1 r.2),
      known_grows last (and_theorem r.0 t) r.3 ts now rest r.6,
      length-append r.0.theorems (titled_statement t.title t.statement ∷ []),
    )

pairs_length : (ds : List Derived) → length (pairs ds) ≡ length (theorems_of ds)
pairs_length [] = refl
pairs_length (d ∷ ds) = ap suc (pairs_length ds)

-- the head line, the blocks and the last line of an accepted book
pub verified_text : (lines : Rest) (n : ℕ) (ds : List Derived) (known : Known) (rest : Rest) → AllDerived [] ds → Begins lines (theorems_of ds) known rest → OutcomeAfter lines (outcome.Accepted n) known rest
    → IsVerifiedText n (written_with ds (accepted_blocks_line n))
verified_text lines n ds known rest sound begins holds =
    let count : length (pairs ds) ≡ n = omega (arith, pairs_length ds, known_grows (end_line_number lines) nothing_known lines (theorems_of ds) known rest begins, holds.1) in
    let same : texts.derivation_text One (pairs ds) ≡ written_with ds (accepted_blocks_line n) =
    ap (λ (b : List ℕ). texts.version_line One ++ (b ++ texts.accepted_blocks_line (length (pairs ds)))) (blocks_same [] ds)
    ∙ ap (λ (k : ℕ). texts.version_line One ++ (blocks_of [] ds ++ texts.accepted_blocks_line k)) count in
    subst (λ (k : ℕ). JudgesText (written_with ds (accepted_blocks_line n)) (Verified k)) count
    (subst (λ (out : List ℕ). JudgesText out (Verified (length (pairs ds)))) same
    (written_is_verified One (pairs ds) (all_spelled (end_line_number lines) nothing_known lines ds known rest refl begins sound)))
