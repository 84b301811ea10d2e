-- The words of a use of an earlier theorem are read as that use.
use Rattle.std.proofs.Common.{◌≡◌, ℕ, Bool, true, false, List, [], ◌∷◌, ◌++◌, map, Option, Some, None, Result, Ok, refl, ap, ◌∙◌}
use Rattle.std.specs.Prelude.{codes}
use Rattle.std.proofs.lemmas.List.{append-nil}
use Rattle.e_text.specs.Names.{is_name, is_title, reserved_words}
use Rattle.e_text.specs.Tokens.{AreTokens}
use Rattle.e_text.proofs.TokenWords.{is_token-name, is_token-title}
use Rattle.e_line.specs.declared.fault.FaultKind.{FaultKind}
use Rattle.e_line.specs.declared.applies.RawApply.{RawApply}
use Rattle.e_line.specs.Reading.{◌>>=◌, first_word, first_title, cut_at, names_after}
use Rattle.e_line.specs.Applies.{is_blank_argument, arguments_of, apply_of}
use Rattle.e_line.specs.Canonical.{argument_word, made_words, apply_words}
use Rattle.e_line.specs.Names.{AreNames}
use Rattle.e_line.proofs.base.Bound.{name_differs}
use Rattle.e_line.proofs.read_again.NamesAgain.{Without, named, titled, some_names_again, cut_again, uncut_again}
use Rattle.e_line.proofs.read_again.LetsAgain.{names_tokens, append_tokens}

-- each argument is a name or a blank
abbrev pub AreArguments : List (Option (List ℕ)) → Type 0
AreArguments [] = Unit {0}
AreArguments (None ∷ args) = AreArguments args
AreArguments (Some n ∷ args) = (is_name n ≡ true) × AreArguments args

pub record ApplyNamed (a : RawApply) : Type 0 where
  pub title : is_title a.title ≡ true
  pub args : AreArguments a.args
  pub new_names : AreNames a.new

-- ---- the words are tokens

arguments_tokens : (args : List (Option (List ℕ))) → AreArguments args → AreTokens (map argument_word args)
arguments_tokens [] h = tt
arguments_tokens (None ∷ args) h = (refl, arguments_tokens args h)
arguments_tokens (Some n ∷ args) h = (is_token-name n h.0, arguments_tokens args h.1)

made_tokens : (ns : List (List ℕ)) → AreNames ns → AreTokens (made_words ns)
made_tokens [] h = tt
made_tokens (n ∷ ns) h = (refl, names_tokens (n ∷ ns) h)

pub apply_tokens : (a : RawApply) → ApplyNamed a → AreTokens (apply_words a)
apply_tokens a g = (is_token-title a.title g.title, append_tokens (map argument_word a.args) (made_words a.new) (arguments_tokens a.args g.args) (made_tokens a.new g.new_names))

-- ---- what is read

no_as : is_name (codes "as") ≡ false
unfolding reserved_words
no_as = refl

without_as : (args : List (Option (List ℕ))) → AreArguments args → Without (codes "as") (map argument_word args)
without_as [] h = tt
without_as (None ∷ args) h = (refl, without_as args h)
without_as (Some n ∷ args) h = (name_differs n (codes "as") h.0 no_as, without_as args h.1)

arguments_again : (args : List (Option (List ℕ))) → AreArguments args → arguments_of (map argument_word args) ≡ Ok args
arguments_again [] h = refl
arguments_again (None ∷ args) h = rw (arguments_again args h) refl
arguments_again (Some n ∷ args) h =
    let no_blank : is_blank_argument n ≡ false = name_differs n (codes "_") h.0 refl in
    rw (no_blank, named n h.0, arguments_again args h.1) refl

abbrev raw : List ℕ → List (Option (List ℕ)) → List (List ℕ) → RawApply
raw title args new = record { title = title; args = args; new = new }

abbrev apply_from : List ℕ → List (List ℕ) × List (List ℕ) × Bool → Result RawApply FaultKind
apply_from title parts = arguments_of parts.0 >>= λ args. names_after parts.2 parts.1 >>= λ new. Ok (raw title args new)

titled_first : (title : List ℕ) (ws : List (List ℕ)) → is_title title ≡ true → apply_of (title ∷ ws) ≡ apply_from title (cut_at (codes "as") ws)
unfolding apply_of first_title first_word
titled_first title ws h = rw (titled title h) refl

read_line : (title : List ℕ) (args : List (Option (List ℕ))) (new : List (List ℕ)) → is_title title ≡ true → AreArguments args → AreNames new
    → apply_of (title ∷ (map argument_word args ++ made_words new)) ≡ Ok (raw title args new)
read_line title args [] t a n =
    let front = map argument_word args in
    titled_first title (front ++ []) t ∙ ap (λ (ws : List (List ℕ)). apply_from title (cut_at (codes "as") ws)) (append-nil front)
    ∙ ap (apply_from title) (uncut_again (codes "as") front (without_as args a)) ∙ rw (arguments_again args a) refl
read_line title args (n ∷ ns) t a h =
    let front = map argument_word args in
    titled_first title (front ++ codes "as" ∷ n ∷ ns) t ∙ ap (apply_from title) (cut_again (codes "as") front (n ∷ ns) (without_as args a))
    ∙ rw (arguments_again args a, some_names_again n ns h) refl

pub apply_again : (a : RawApply) → ApplyNamed a → apply_of (apply_words a) ≡ Ok a
apply_again a g = read_line a.title a.args a.new g.title g.args g.new_names
