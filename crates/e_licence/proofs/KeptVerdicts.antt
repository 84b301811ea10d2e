-- What is kept of answers on literals, and what it says of a literal that is asked.
use Rattle.std.proofs.Common.{◌≡◌, List, [], ◌∷◌, ◌++◌, sym, ap, ◌∙◌, subst, true, false, ◌||◌, true≢false, ◌⊎◌, inl, inr}
use Rattle.std.proofs.lemmas.Bool.{cases_Bool, or_cases}
use Rattle.std.proofs.lemmas.List.Folds.{list_any-append}
use Rattle.e_literal.specs.declared.literal.Lit.{Lit}
use Rattle.e_literal.specs.Same.{same_lit}
use Rattle.e_literal.specs.Facts.{has, with_fact}
use Rattle.e_facts.proofs.Joining.{joined_present, joined_new}
use Rattle.e_clause.specs.Allowed.{Allowed}
use Rattle.e_transfer.specs.declared.walk.Verdict.{Verdict}
use Rattle.e_transfer.specs.declared.walk.Verdict.TheVariants as verdict
use Rattle.e_licence.specs.Contexts.{Basis}
use Rattle.e_licence.specs.declared.verdicts.Verdicts.{Verdicts}
use Rattle.e_licence.specs.Verdicts.{AreRight, JudgedIs, has_loop}
use Rattle.e_licence.proofs.SameLiterals.{turned, allowed_same}

-- ---- what is said of all of a list still is where one joins it of which it is said

has_last : (facts : List Lit) (l x : Lit) → has (facts ++ l ∷ []) x ≡ true → (has facts x ≡ true) ⊎ (same_lit l x ≡ true)
has_last facts l x h =
    elim (or_cases (has facts x) (same_lit l x || false) (sym (list_any-append (λ f. same_lit f x) facts (l ∷ [])) ∙ h)) [
      | inl there ↦ inl there
      | inr here ↦ elim (or_cases (same_lit l x) false here) [ inl is ↦ inr is | inr none ↦ absurd (true≢false (sym none)) ]
    ]

has_joined : (facts : List Lit) (l x : Lit) → has (with_fact facts l) x ≡ true → (has facts x ≡ true) ⊎ (same_lit l x ≡ true)
has_joined facts l x h =
    elim (cases_Bool (has facts l)) [
      | inl there ↦ inl (sym (ap (λ fs. has fs x) (joined_present facts l there)) ∙ h)
      | inr new ↦ has_last facts l x (sym (ap (λ fs. has fs x) (joined_new facts l new)) ∙ h)
    ]

joins : (P : Lit → Type 0) (old new : List Lit) (l : Lit) → new ≡ with_fact old l → ((x : Lit) → has old x ≡ true → P x) → ((x : Lit) → same_lit l x ≡ true → P x) → (x : Lit) → has new x ≡ true → P x
joins P old new l is all here x h =
    elim (has_joined old l x (sym (ap (λ fs. has fs x) is) ∙ h)) [
      | inl there ↦ all x there
      | inr same ↦ here x same
    ]

-- ---- what is kept

none_has : (facts : List Lit) (l : Lit) → facts ≡ [] → has facts l ≡ true → ⊥
none_has facts l is h = true≢false (sym h ∙ ap (λ fs. has fs l) is)

pub none_kept : (b : Basis) (v : Verdicts) → v.allowed ≡ [] → v.refused ≡ [] → AreRight b v
none_kept b v allowed refused = record {
  allowed = λ l h. absurd (none_has v.allowed l allowed h);
  refused = λ l h. absurd (none_has v.refused l refused h);
}

pub allowed_joins : (b : Basis) (old new : Verdicts) (l : Lit) (o : Verdict (Unit {0})) (p : Unit {0}) → has_loop l.atom ≡ false → new.allowed ≡ with_fact old.allowed l → new.refused ≡ old.refused
    → o ≡ verdict.Yes p → AreRight b old → JudgedIs b l o → AreRight b new
allowed_joins b old new l o p none is rest keep right judged = record {
  allowed = joins (Allowed b.scope b.facts) old.allowed new.allowed l is right.allowed (λ x same. allowed_same b.scope b.facts l x same none (subst (λ v. JudgedIs b l v) keep judged));
  refused = λ x h. right.refused x (sym (ap (λ fs. has fs x) rest) ∙ h);
}

pub refused_joins : (b : Basis) (old new : Verdicts) (l : Lit) (o : Verdict (Unit {0})) → new.refused ≡ with_fact old.refused l → new.allowed ≡ old.allowed
    → o ≡ verdict.No → AreRight b old → JudgedIs b l o → AreRight b new
refused_joins b old new l o is rest refuse right judged = record {
  allowed = λ x h. right.allowed x (sym (ap (λ fs. has fs x) rest) ∙ h);
  refused = joins (λ x. has_loop x.atom ≡ false → ¬ Allowed b.scope b.facts x) old.refused new.refused l is right.refused
      (λ x same none there. subst (λ v. JudgedIs b l v) refuse judged (allowed_same b.scope b.facts x l (turned l x same) none there));
}
