-- The lines of a stop, from their parts.
use Rattle.std.proofs.Common.{◌≡◌, ℕ, List, [], ◌∷◌, ◌++◌, map, refl, sym, ap, ◌∙◌, append_assoc}
use Rattle.std.specs.Prelude.{codes, Option, Some, None}
use Rattle.std.specs.Fmt.{decimal}
use Rattle.std.proofs.lemmas.List.{append-nil}
use Rattle.e_text.specs.Tokens.{with_spaces, joined_words}
use Rattle.e_literal.specs.declared.object.Term.{Term}
use Rattle.e_deriv.specs.declared.names.Names.{Names}
use Rattle.e_deriv.specs.declared.stop.Wanted.{Wanted}
use Rattle.e_book.specs.Canonical.{text_of}
use Rattle.e_spell.specs.Spelling.{place_words, value_words, values_words, unlicensed_text, too_wide_text}
use Rattle.e_spell.specs.inner.Parts.{place_line, wanted_line, value_line, values_text, values_of_text, width_line}

place_text : (what title : List ℕ) (step : ℕ) → place_line what title step ≡ joined_words (place_words what title step) ++ 10 ∷ []
place_text what title step = sym (append_assoc what (with_spaces (title ∷ decimal step ∷ [])) (10 ∷ []))

of_values : (ns : Names) (vs : List (Term × ℕ)) → values_text ns vs ≡ text_of (map joined_words (map (value_words ns) vs))
of_values ns [] = refl
of_values ns (v ∷ vs) = ap (λ (t : List ℕ). value_line ns v ++ t) (of_values ns vs)

of_values_of : (ns : Names) (vs : Option (List (Term × ℕ))) → values_of_text ns vs ≡ text_of (map joined_words (values_words ns vs))
of_values_of ns None = refl
of_values_of ns (Some vs) = of_values ns vs

pub unlicensed_parts : (title : List ℕ) (step : ℕ) (wanted : Wanted) (values : Option (List (Term × ℕ))) (ns : Names)
    → place_line (codes "unlicensed") title step ++ (wanted_line ns wanted ++ values_of_text ns values) ≡ unlicensed_text title step wanted values ns
unlicensed_parts title step wanted values ns =
    ap (λ (x : List ℕ). x ++ (wanted_line ns wanted ++ values_of_text ns values)) (place_text (codes "unlicensed") title step)
    ∙ ap (λ (x : List ℕ). (joined_words (place_words (codes "unlicensed") title step) ++ 10 ∷ []) ++ (wanted_line ns wanted ++ x)) (of_values_of ns values)

pub too_wide_parts : (title : List ℕ) (step : ℕ) (wanted : Wanted) (width : ℕ) (ns : Names)
    → place_line (codes "too-wide") title step ++ (wanted_line ns wanted ++ width_line width) ≡ too_wide_text title step wanted width ns
too_wide_parts title step wanted width ns =
    ap (λ (x : List ℕ). x ++ (wanted_line ns wanted ++ width_line width)) (place_text (codes "too-wide") title step)
    ∙ ap (λ (x : List ℕ). (joined_words (place_words (codes "too-wide") title step) ++ 10 ∷ []) ++ (wanted_line ns wanted ++ x)) (sym (append-nil (width_line width)))

-- three parts, one written after the other
pub written : {o o1 o2 o3 : List ℕ} (a b c : List ℕ) {whole : List ℕ} → o ≡ [] → o1 ≡ o ++ a → o2 ≡ o1 ++ b → o3 ≡ o2 ++ c → a ++ (b ++ c) ≡ whole → o3 ≡ whole
written {o} {o1} {o2} {o3} a b c {whole} e e1 e2 e3 h = e3 ∙ rw (e2, e1, e) (append_assoc a b c) ∙ h
