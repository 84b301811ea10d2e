-- What is shown by citing is true where the facts are.
use Rattle.std.proofs.Common.{◌≡◌, Bool, true, false, cond, inl, inr, List, [], ◌∷◌, ◌++◌, refl, sym, ◌∙◌}
use Rattle.std.specs.Prelude.{◌⊎◌, IsTrue, not}
use Rattle.std.specs.List.{list_all}
use Rattle.std.proofs.lemmas.Bool.{and_parts, and_from}
use Rattle.e_literal.specs.declared.literal.Lit.{Lit}
use Rattle.e_literal.specs.declared.object.Scope.{Scope}
use Rattle.e_literal.specs.Facts.{has, has_all, with_fact, with_facts}
use Rattle.e_literal.specs.Literal.{negation}
use Rattle.e_deriv.specs.Script.{Script, Cite, Hence, Make, Apply, Claim, Superposed, Qed, Contradiction, Cases}
use Rattle.e_figure.specs.Figure.{FigureView, is_figure}
use Rattle.e_figure.specs.Truth.{atom_holds, is_true}
use Rattle.e_figure.specs.Cite.{IsCited}
use Rattle.e_figure.proofs.Cite.{cited_true}
use Rattle.e_drawing.specs.Citing.{ShowsByCiting, RefutedIsNotShown}

-- a literal or its negation is true, and not both
turned : (d : FigureView) (l : Lit) → is_true d l ≡ false → is_true d (negation l) ≡ true
turned d l e = by l.neg (atom_holds d l.atom) e
  where
    by : (neg holds : Bool) → cond neg (not holds) holds ≡ false → cond (not neg) (not holds) holds ≡ true
    by true true e = refl
    by true false e = absurd cc
    by false true e = absurd cc
    by false false e = refl

not_both : (d : FigureView) (l : Lit) → is_true d l ≡ true → is_true d (negation l) ≡ true → ⊥
not_both d l e h = by l.neg (atom_holds d l.atom) e h
  where
    by : (neg holds : Bool) → cond neg (not holds) holds ≡ true → cond (not neg) (not holds) holds ≡ true → ⊥
    by true true e h = absurd cc
    by true false e h = absurd cc
    by false true e h = absurd cc
    by false false e h = absurd cc

no_bool : true ≡ false → ⊥
no_bool e = absurd cc

module _ (d : FigureView) (figure : IsTrue (is_figure d)) (s : Scope) where
  -- what is a fact, or cited from the facts
  one : (facts : List Lit) (l : Lit) → list_all (is_true d) facts ≡ true → IsTrue (has facts l) ⊎ IsCited s facts l → is_true d l ≡ true
  one facts l h c = (and_parts (is_true d l) true (cited_true d s facts (l ∷ []) figure h (c, tt))).0

  one_more : (facts : List Lit) (l : Lit) → list_all (is_true d) facts ≡ true → is_true d l ≡ true → list_all (is_true d) (facts ++ l ∷ []) ≡ true
  one_more [] l h e = and_from (is_true d l) true e refl
  one_more (f ∷ facts) l h e =
      let p = and_parts (is_true d f) (list_all (is_true d) facts) h in
      and_from (is_true d f) (list_all (is_true d) (facts ++ l ∷ [])) p.0 (one_more facts l p.1 e)

  joined_true : (facts : List Lit) (l : Lit) → list_all (is_true d) facts ≡ true → is_true d l ≡ true → list_all (is_true d) (with_fact facts l) ≡ true
  unfolding with_fact
  joined_true facts l h e = by (has facts l)
    where
      by : (b : Bool) → list_all (is_true d) (cond b facts (facts ++ l ∷ [])) ≡ true
      by true = h
      by false = one_more facts l h e

  all_joined : (facts ls : List Lit) → list_all (is_true d) facts ≡ true → list_all (is_true d) ls ≡ true → list_all (is_true d) (with_facts facts ls) ≡ true
  all_joined facts [] h e = h
  all_joined facts (l ∷ ls) h e =
      let p = and_parts (is_true d l) (list_all (is_true d) ls) e in
      all_joined (with_fact facts l) ls (joined_true facts l h p.0) p.1

  each_fact : (facts goal : List Lit) → list_all (is_true d) facts ≡ true → has_all facts goal ≡ true → list_all (is_true d) goal ≡ true
  each_fact facts [] h e = refl
  each_fact facts (l ∷ goal) h e =
      let p = and_parts (has facts l) (has_all facts goal) e in
      and_from (is_true d l) (list_all (is_true d) goal) (one facts l h (inl p.0)) (each_fact facts goal h p.1)

  shown_true : (facts goal : List Lit) (script : Script) → list_all (is_true d) facts ≡ true → ShowsByCiting s facts goal script → list_all (is_true d) goal ≡ true
  shown_true facts goal (Cite by rest) h c = shown_true (with_fact facts by.lit) goal rest (joined_true facts by.lit h (one facts by.lit h (inr c.0))) c.1
  shown_true facts goal (Claim shown inner rest) h c = shown_true (with_facts facts shown) goal rest (all_joined facts shown h (shown_true facts shown inner h c.0)) c.1
  shown_true facts goal (Qed objects certs) h c = each_fact facts goal h c
  shown_true facts goal (Contradiction against) h c = absurd (not_both d c.0 (one facts c.0 h (inl c.1)) (one facts (negation c.0) h (inl c.2)))
  shown_true facts goal (Cases lit first second) h c =
      by (is_true d lit) refl (λ e. shown_true (with_fact facts lit) goal first (joined_true facts lit h e) c.0) (λ e. shown_true (with_fact facts (negation lit)) goal second (joined_true facts (negation lit) h (turned d lit e)) c.1)
    where
      by : (b : Bool) → is_true d lit ≡ b → (is_true d lit ≡ true → list_all (is_true d) goal ≡ true) → (is_true d lit ≡ false → list_all (is_true d) goal ≡ true) → list_all (is_true d) goal ≡ true
      by true e first second = first e
      by false e first second = second e
  shown_true facts goal (Hence lit cert rest) h c = absurd c
  shown_true facts goal (Make construction names certs rest) h c = absurd c
  shown_true facts goal (Apply theorem args names certs rest) h c = absurd c
  shown_true facts goal (Superposed superposition names shown certs inner rest) h c = absurd c

pub refuted_is_not_shown : RefutedIsNotShown
refuted_is_not_shown d s facts goal script l figure refuted c = by (has goal l) refl
  where
    p : (list_all (is_true d) facts ≡ true) × (not (is_true d l) ≡ true)
    p = and_parts (list_all (is_true d) facts) (not (is_true d l)) refuted

    untrue : (b : Bool) → is_true d l ≡ b → not b ≡ true → is_true d l ≡ true → ⊥
    untrue true e n t = absurd cc
    untrue false e n t = no_bool (sym t ∙ e)

    by : (b : Bool) → has goal l ≡ b → has goal l ≡ false
    by false e = e
    by true e = absurd (untrue (is_true d l) refl p.1 (one d figure s goal l (shown_true d figure s facts goal script p.0 c) (inl e)))
