use Rattle.std.proofs.Common.{◌≡◌, ℕ, List, [], ◌∷◌, length, map, string_bytes, Global, refl, arith, rules, nat_lt, true, false}
use Rattle.std.proofs.lemmas.Bool.{ltb-true, ltb-false}
use Rattle.e_run.specs.declared.command.Command.TheVariants.{Unknown}
use Rattle.e_run.specs.Words.{command_of}
use Rattle.e_run.proofs.command.command_of.Goals.{in_default-via-then-words-lt1, in_default-via-else-words-lt1+else-words-lt2+else-words-lt3+else-words-lt4}
use Rattle.e_run.proofs.command.command_of.Goals as goal

no_words : {A : Type 0} (f : A → List ℕ) (words : List A) → nat_lt (length words) 1 ≡ true → Unknown ≡ command_of (map f words)
no_words f [] h = refl
no_words f (a ∷ words) h = let k = ltb-true (length (a ∷ words)) 1 h in absurd (omega (arith, k))

many_words : {A : Type 0} (f : A → List ℕ) (words : List A) → nat_lt (length words) 4 ≡ false → Unknown ≡ command_of (map f words)
many_words f [] h = let k = ltb-false 0 4 h in absurd (omega (arith, k))
many_words f (a ∷ []) h = let k = ltb-false 1 4 h in absurd (omega (arith, k))
many_words f (a ∷ b ∷ []) h = let k = ltb-false 2 4 h in absurd (omega (arith, k))
many_words f (a ∷ b ∷ c ∷ []) h = let k = ltb-false 3 4 h in absurd (omega (arith, k))
many_words f (a ∷ b ∷ c ∷ d ∷ words) h = refl

pub returns-in_default-clause-value : goal.returns-in_default-clause-value
returns-in_default-clause-value c =
    elim c.in_default.branch [
      | in_default-via-then-words-lt1 w ↦ no_words (string_bytes {Z = Global}) c.args.words.now (search rules)
      | in_default-via-else-words-lt1+else-words-lt2+else-words-lt3+else-words-lt4 w ↦ many_words (string_bytes {Z = Global}) c.args.words.now (search rules)
    ]
