-- The words of a construction are read as the shapes that have its line, with its names.
use Rattle.std.proofs.Common.{◌≡◌, ℕ, Bool, true, false, not, List, [], ◌∷◌, ◌++◌, Result, Ok, refl, sym, ap, subst, ◌∙◌}
use Rattle.std.specs.Prelude.{codes}
use Rattle.std.specs.Str.{bytes_eq}
use Rattle.std.proofs.lemmas.Bool.{not-true, and_parts}
use Rattle.std.proofs.lemmas.List.{append-nil}
use Rattle.e_text.specs.Names.{is_name, reserved_words}
use Rattle.e_text.specs.Tokens.{is_token, AreTokens}
use Rattle.e_text.proofs.TokenWords.{is_token-name}
use Rattle.e_construct.specs.declared.construction.Shape.{Shape}
use Rattle.e_construct.specs.Lines.{Piece, pieces, may_avoid}
use Rattle.e_line.specs.declared.fault.FaultKind.{FaultKind}
use Rattle.e_line.specs.declared.lets.RawLet.{RawLet}
use Rattle.e_line.specs.Reading.{◌>>=◌, cut_at, names_after}
use Rattle.e_line.specs.Lets.{new_words, argument_words, shapes_of, let_named, let_of}
use Rattle.e_line.specs.Canonical.{filled_pieces, line_pieces, avoid_words, let_words}
use Rattle.e_line.specs.Names.{AreNames}
use Rattle.e_line.proofs.base.Bound.{name_differs}
use Rattle.e_line.proofs.read_again.NamesAgain.{Without, names_again, some_names_again, cut_again, uncut_again}
use Rattle.e_line.proofs.read_again.Pieces.{is_own_word, own_words_of, all_filled, new_again, arguments_again, alike, Filled, shapes_again, avoiding_shapes_again, first_alike}

-- names after the word avoid stand only where a shape may avoid something
abbrev pub may_have : List (List ℕ) → Shape → Bool
may_have [] s = true
may_have (n ∷ ns) s = may_avoid s

-- the line of a shape, with a name at each place
pub record LetNamed (l : RawLet) : Type 0 where
  pub shape : Shape
  pub alone : l.shapes ≡ shape ∷ []
  pub names : Filled shape l.new l.args
  pub avoided : AreNames l.avoid
  pub may : may_have l.avoid shape ≡ true

abbrev raw : List Shape → (new args avoid : List (List ℕ)) → RawLet
raw shapes new args avoid = record { shapes = shapes; new = new; args = args; avoid = avoid }

abbrev all_alike : List Shape → List Shape
all_alike [] = []
all_alike (s ∷ ss) = alike s

-- a line of one shape as it is read: its spelling alone leaves all shapes that have this line
abbrev pub as_read : RawLet → RawLet
as_read l = raw (all_alike l.shapes) l.new l.args l.avoid

-- ---- what the words are

no_avoid : is_name (codes "avoid") ≡ false
unfolding reserved_words
no_avoid = refl

own_word_differs : (w : List ℕ) → is_own_word w ≡ true → bytes_eq w (codes "avoid") ≡ false
own_word_differs w h = not-true (bytes_eq w (codes "avoid")) (and_parts _ _ (and_parts (not (is_name w)) _ h).1).0

pub own_word_token : (w : List ℕ) → is_own_word w ≡ true → is_token w ≡ true
own_word_token w h = (and_parts (not (bytes_eq w (codes "avoid"))) (is_token w) (and_parts (not (is_name w)) _ h).1).1

without_avoid : (s : Shape) (new args : List (List ℕ)) → Filled s new args → Without (codes "avoid") (filled_pieces (pieces s) new args)
without_avoid s new args f =
    all_filled (λ w. bytes_eq w (codes "avoid") ≡ false) (λ n h. name_differs n (codes "avoid") h no_avoid) own_word_differs (pieces s) new args (own_words_of s) f.new_names f.argument_names

filled_tokens : (s : Shape) (new args : List (List ℕ)) → Filled s new args → AreTokens (filled_pieces (pieces s) new args)
filled_tokens s new args f = all_filled (λ w. is_token w ≡ true) is_token-name own_word_token (pieces s) new args (own_words_of s) f.new_names f.argument_names

pub names_tokens : (ns : List (List ℕ)) → AreNames ns → AreTokens ns
names_tokens [] h = tt
names_tokens (n ∷ ns) h = (is_token-name n h.0, names_tokens ns h.1)

pub append_tokens : (xs ys : List (List ℕ)) → AreTokens xs → AreTokens ys → AreTokens (xs ++ ys)
append_tokens [] ys h k = k
append_tokens (x ∷ xs) ys h k = (h.0, append_tokens xs ys h.1 k)

avoid_tokens : (ns : List (List ℕ)) → AreNames ns → AreTokens (avoid_words ns)
avoid_tokens [] h = tt
avoid_tokens (n ∷ ns) h = (refl, names_tokens (n ∷ ns) h)

let_line : (l : RawLet) (g : LetNamed l) → let_words l ≡ filled_pieces (pieces g.shape) l.new l.args ++ avoid_words l.avoid
let_line l g = ap (λ (ss : List Shape). filled_pieces (line_pieces ss) l.new l.args ++ avoid_words l.avoid) g.alone

pub let_tokens : (l : RawLet) → LetNamed l → AreTokens (let_words l)
let_tokens l g =
    subst AreTokens (sym (let_line l g)) (append_tokens (filled_pieces (pieces g.shape) l.new l.args) (avoid_words l.avoid) (filled_tokens g.shape l.new l.args g.names) (avoid_tokens l.avoid g.avoided))

-- ---- what is read

-- names at the places of the first shape
named_by_first : (first : Shape) (more : List Shape) (s : Shape) (new args avoid : List (List ℕ)) → pieces first ≡ pieces s → Filled s new args
    → let_named (first ∷ more) (filled_pieces (pieces s) new args) avoid ≡ Ok (raw (first ∷ more) new args avoid)
unfolding let_named
named_by_first first more s new args avoid e f =
    let news : new_words (pieces first) (filled_pieces (pieces s) new args) ≡ new = ap (λ (ps : List Piece). new_words ps (filled_pieces (pieces s) new args)) e ∙ new_again (pieces s) new args f.made f.arguments in
    let arguments : argument_words (pieces first) (filled_pieces (pieces s) new args) ≡ args = ap (λ (ps : List Piece). argument_words ps (filled_pieces (pieces s) new args)) e ∙ arguments_again (pieces s) new args f.made f.arguments in
    rw (news, arguments, names_again new f.new_names, names_again args f.argument_names) refl

named_by_all : (s : Shape) (new args avoid : List (List ℕ)) → Filled s new args → let_named (alike s) (filled_pieces (pieces s) new args) avoid ≡ Ok (raw (alike s) new args avoid)
named_by_all s new args avoid f =
    let a = first_alike s in
    subst (λ (ss : List Shape). let_named ss (filled_pieces (pieces s) new args) avoid ≡ Ok (raw ss new args avoid)) (sym a.is) (named_by_first a.first a.more s new args avoid a.same f)

abbrev let_from : List (List ℕ) × List (List ℕ) × Bool → Result RawLet FaultKind
let_from parts = names_after parts.2 parts.1 >>= λ avoid. let_named (shapes_of parts.2 parts.0) parts.0 avoid

read_line : (s : Shape) (new args avoid : List (List ℕ)) → Filled s new args → AreNames avoid → may_have avoid s ≡ true
    → let_of (filled_pieces (pieces s) new args ++ avoid_words avoid) ≡ Ok (raw (alike s) new args avoid)
unfolding let_of
read_line s new args [] f h may =
    let front = filled_pieces (pieces s) new args in
    ap (λ (ws : List (List ℕ)). let_from (cut_at (codes "avoid") ws)) (append-nil front) ∙ ap let_from (uncut_again (codes "avoid") front (without_avoid s new args f))
    ∙ ap (λ (ss : List Shape). let_named ss front []) (shapes_again s new args f) ∙ named_by_all s new args [] f
read_line s new args (n ∷ ns) f h may =
    let front = filled_pieces (pieces s) new args in
    ap let_from (cut_again (codes "avoid") front (n ∷ ns) (without_avoid s new args f))
    ∙ ap (λ (r : Result (List (List ℕ)) FaultKind). r >>= λ avoid. let_named (shapes_of true front) front avoid) (some_names_again n ns h)
    ∙ ap (λ (ss : List Shape). let_named ss front (n ∷ ns)) (avoiding_shapes_again s new args f may) ∙ named_by_all s new args (n ∷ ns) f

pub let_again : (l : RawLet) → LetNamed l → let_of (let_words l) ≡ Ok (as_read l)
let_again l g =
    ap let_of (let_line l g) ∙ read_line g.shape l.new l.args l.avoid g.names g.avoided g.may ∙ ap (λ (ss : List Shape). Ok (raw (all_alike ss) l.new l.args l.avoid)) (sym g.alone)
