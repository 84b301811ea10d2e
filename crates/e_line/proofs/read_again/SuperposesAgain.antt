-- The words of a superposition are read as that superposition.
use Rattle.std.proofs.Common.{◌≡◌, ℕ, true, List, ◌++◌, length, drop, Ok, refl, ap, ◌∙◌}
use Rattle.std.proofs.lemmas.List.{take_at, drop_at}
use Rattle.e_text.specs.Names.{reserved_words}
use Rattle.e_text.specs.Tokens.{is_token, AreTokens}
use Rattle.e_text.proofs.TokenWords.{is_token-name}
use Rattle.e_line.specs.declared.superposes.RawSuperpose.{RawSuperpose}
use Rattle.e_line.specs.Superposes.{superpose_pieces, raw_superpose_of, superpose_of}
use Rattle.e_line.specs.Canonical.{filled_pieces, lits_words, superpose_words}
use Rattle.e_line.specs.Names.{AreNames}
use Rattle.e_line.proofs.read_again.NamesAgain.{names_again}
use Rattle.e_line.proofs.read_again.Pieces.{own_words, all_filled, new_again, arguments_again, filled_again, length-filled}
use Rattle.e_line.proofs.read_again.LetsAgain.{own_word_token, append_tokens}
use Rattle.e_line.proofs.read_again.LitsAgain.{LitsNamed, lits_again, lits_tokens}

-- a name at each place, and at least one literal
pub record SuperposeNamed (s : RawSuperpose) : Type 0 where
  pub new_names : AreNames s.new
  pub argument_names : AreNames s.args
  pub made : length s.new ≡ 2
  pub arguments : length s.args ≡ 8
  pub shown : LitsNamed s.shown

abbrev front : RawSuperpose → List (List ℕ)
front s = filled_pieces superpose_pieces s.new s.args

own : own_words superpose_pieces ≡ true
unfolding reserved_words
own = refl

pub superpose_tokens : (s : RawSuperpose) → SuperposeNamed s → AreTokens (superpose_words s)
superpose_tokens s g =
    append_tokens (front s) (lits_words s.shown) (all_filled (λ w. is_token w ≡ true) is_token-name own_word_token superpose_pieces s.new s.args own g.new_names g.argument_names) (lits_tokens s.shown g.shown)

head_again : (s : RawSuperpose) → SuperposeNamed s → raw_superpose_of (front s) (lits_words s.shown) ≡ Ok s
unfolding raw_superpose_of
head_again s g =
    let ps = superpose_pieces in
    rw (filled_again ps s.new s.args g.new_names g.argument_names g.made g.arguments, new_again ps s.new s.args g.made g.arguments, arguments_again ps s.new s.args g.made g.arguments, names_again s.new g.new_names, names_again s.args g.argument_names, lits_again s.shown g.shown) refl

pub superpose_again : (s : RawSuperpose) → SuperposeNamed s → superpose_of (superpose_words s) ≡ Ok s
unfolding superpose_of
superpose_again s g =
    let rest = lits_words s.shown in
    let n : length (front s) ≡ 13 = length-filled superpose_pieces s.new s.args g.made g.arguments in
    ap (λ (ws : List (List ℕ)). raw_superpose_of ws (drop 13 (front s ++ rest))) (take_at (front s) rest 13 n)
    ∙ ap (λ (ws : List (List ℕ)). raw_superpose_of (front s) ws) (drop_at (front s) rest 13 n) ∙ head_again s g

-- after the thirteen words before them
pub lits_after : (s : RawSuperpose) → SuperposeNamed s → drop 13 (superpose_words s) ≡ lits_words s.shown
lits_after s g = drop_at (front s) (lits_words s.shown) 13 (length-filled superpose_pieces s.new s.args g.made g.arguments)
