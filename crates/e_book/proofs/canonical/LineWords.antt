-- The tokens of a canonical line are the words of its form.
use Rattle.std.proofs.Common.{◌≡◌, false, [], ◌∷◌, refl}
use Rattle.std.specs.Prelude.{codes}
use Rattle.e_text.specs.Tokens.{tokens_of, AreTokens}
use Rattle.e_text.proofs.TokenWords.{tokens_of-joined, is_token-title}
use Rattle.e_literal.specs.declared.object.Sort.TheVariants as sorts
use Rattle.e_line.specs.declared.raw_line.RawLine.{RawLine}
use Rattle.e_line.specs.declared.raw_line.RawLine.TheVariants as rawlines
use Rattle.e_line.specs.Canonical.{lit_words, raw_line_words, line_of}
use Rattle.e_book.specs.Grammar.{is_skipped}
use Rattle.e_line.proofs.read_again.LetsAgain.{names_tokens, append_tokens, let_tokens}
use Rattle.e_line.proofs.read_again.LitsAgain.{lit_tokens, lits_tokens}
use Rattle.e_line.proofs.read_again.SuperposesAgain.{superpose_tokens}
use Rattle.e_line.proofs.read_again.AppliesAgain.{apply_tokens}
use Rattle.e_line.proofs.read_again.Respelled.{GoodForm}

-- ---- the words of forms are tokens

form_tokens : (f : RawLine) → GoodForm f → AreTokens (raw_line_words f)
form_tokens (rawlines.Theorem t) h = (refl, (is_token-title t h, tt))
form_tokens (rawlines.Declare sort []) h = absurd h
form_tokens (rawlines.Declare sorts.Point (n ∷ ns)) h = (refl, names_tokens (n ∷ ns) h)
form_tokens (rawlines.Declare sorts.Line (n ∷ ns)) h = (refl, names_tokens (n ∷ ns) h)
form_tokens (rawlines.Declare sorts.Circle (n ∷ ns)) h = (refl, names_tokens (n ∷ ns) h)
form_tokens (rawlines.Given []) h = absurd h
form_tokens (rawlines.Given (l ∷ [])) h = (refl, append_tokens (lit_words l) [] (lit_tokens l h) tt)
form_tokens (rawlines.Given (l ∷ m ∷ ls)) h = absurd h
form_tokens (rawlines.Made sort []) h = absurd h
form_tokens (rawlines.Made sorts.Point (n ∷ ns)) h = (refl, (refl, names_tokens (n ∷ ns) h))
form_tokens (rawlines.Made sorts.Line (n ∷ ns)) h = (refl, (refl, names_tokens (n ∷ ns) h))
form_tokens (rawlines.Made sorts.Circle (n ∷ ns)) h = (refl, (refl, names_tokens (n ∷ ns) h))
form_tokens (rawlines.Show []) h = absurd h
form_tokens (rawlines.Show (l ∷ [])) h = (refl, append_tokens (lit_words l) [] (lit_tokens l h) tt)
form_tokens (rawlines.Show (l ∷ m ∷ ls)) h = absurd h
form_tokens rawlines.Proof h = (refl, tt)
form_tokens (rawlines.By r ns l) h = (refl, (is_token-title r h.0, append_tokens ns (codes ":" ∷ lit_words l) (names_tokens ns h.1) (refl, lit_tokens l h.2)))
form_tokens (rawlines.Hence l) h = (refl, lit_tokens l h)
form_tokens (rawlines.Let l) h = (refl, let_tokens l h)
form_tokens (rawlines.Apply a) h = (refl, apply_tokens a h)
form_tokens (rawlines.Qed ns) h = (refl, names_tokens ns h)
form_tokens rawlines.Contradiction h = (refl, tt)
form_tokens (rawlines.Claim ls) h = (refl, lits_tokens ls h)
form_tokens (rawlines.Superpose s) h = (refl, superpose_tokens s h)
form_tokens (rawlines.Cases l) h = (refl, lit_tokens l h)
form_tokens rawlines.Else h = (refl, tt)
form_tokens rawlines.End h = (refl, tt)

pub words_again : (f : RawLine) → GoodForm f → tokens_of (line_of f) ≡ raw_line_words f
words_again f h = tokens_of-joined (raw_line_words f) (form_tokens f h)

pub not_skipped : (f : RawLine) → is_skipped (raw_line_words f) ≡ false
not_skipped (rawlines.Theorem t) = refl
not_skipped (rawlines.Declare sorts.Point ns) = refl
not_skipped (rawlines.Declare sorts.Line ns) = refl
not_skipped (rawlines.Declare sorts.Circle ns) = refl
not_skipped (rawlines.Given ls) = refl
not_skipped (rawlines.Made sort ns) = refl
not_skipped (rawlines.Show ls) = refl
not_skipped rawlines.Proof = refl
not_skipped (rawlines.By r ns l) = refl
not_skipped (rawlines.Hence l) = refl
not_skipped (rawlines.Let l) = refl
not_skipped (rawlines.Apply a) = refl
not_skipped (rawlines.Qed ns) = refl
not_skipped rawlines.Contradiction = refl
not_skipped (rawlines.Claim ls) = refl
not_skipped (rawlines.Superpose s) = refl
not_skipped (rawlines.Cases l) = refl
not_skipped rawlines.Else = refl
not_skipped rawlines.End = refl
