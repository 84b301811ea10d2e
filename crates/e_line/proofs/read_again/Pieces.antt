-- The words of a line whose pieces are filled with names.
use Rattle.std.proofs.Common.{◌≡◌, ℕ, Bool, true, false, not, ◌&&◌, List, [], ◌∷◌, length, filter, refl, ap, ◌∙◌, arith}
use Rattle.std.specs.Prelude.{codes}
use Rattle.std.specs.List.{AllByRecursion}
use Rattle.std.specs.Str.{bytes_eq}
use Rattle.std.proofs.lemmas.Bool.{not-true, and_parts}
use Rattle.e_text.specs.Names.{is_name, reserved_words}
use Rattle.e_text.specs.Tokens.{is_token}
use Rattle.e_construct.specs.declared.construction.Shape.{Shape}
use Rattle.e_construct.specs.declared.construction.Shape.TheVariants.{Free, OnLine, Within, Beyond, SideOf, Opposite, OnCircle, Inside, Outside, MeetLines, MeetOne, MeetBoth, CirclesOne, CirclesBoth}
use Rattle.e_construct.specs.Shapes.{shape_row}
use Rattle.e_construct.specs.Lines.{Piece, New, Argument, Word, pieces, all_shapes, may_avoid, count_new, count_arguments}
use Rattle.e_line.specs.Lets.{are_words_of, new_words, argument_words, is_line_of, shapes_of}
use Rattle.e_line.specs.Canonical.{filled_pieces}
use Rattle.e_line.specs.Names.{AreNames}
use Rattle.e_line.proofs.base.Bound.{same_bytes, name_differs}

-- ---- the words of pieces

-- a word of its own: no name, and not the word avoid
abbrev pub is_own_word : List ℕ → Bool
is_own_word w = not (is_name w) && (not (bytes_eq w (codes "avoid")) && is_token w)

abbrev pub own_words : List Piece → Bool
own_words [] = true
own_words (New ∷ ps) = own_words ps
own_words (Argument ∷ ps) = own_words ps
own_words (Word w ∷ ps) = is_own_word w && own_words ps

pub own_words_of : (s : Shape) → own_words (pieces s) ≡ true
unfolding pieces reserved_words
own_words_of Free = refl
own_words_of s = refl

-- what holds of names and of words of their own holds of all words of a line
pub all_filled : (P : List ℕ → Type 0) → ((n : List ℕ) → is_name n ≡ true → P n) → ((w : List ℕ) → is_own_word w ≡ true → P w) → (ps : List Piece) (new args : List (List ℕ)) → own_words ps ≡ true → AreNames new → AreNames args
    → AllByRecursion P (filled_pieces ps new args)
all_filled P name word [] new args h hn ha = tt
all_filled P name word (New ∷ ps) [] args h hn ha = all_filled P name word ps [] args h hn ha
all_filled P name word (New ∷ ps) (n ∷ new) args h hn ha = (name n hn.0, all_filled P name word ps new args h hn.1 ha)
all_filled P name word (Argument ∷ ps) new [] h hn ha = all_filled P name word ps new [] h hn ha
all_filled P name word (Argument ∷ ps) new (n ∷ args) h hn ha = (name n ha.0, all_filled P name word ps new args h hn ha.1)
all_filled P name word (Word w ∷ ps) new args h hn ha = let p = and_parts (is_own_word w) (own_words ps) h in (word w p.0, all_filled P name word ps new args p.1 hn ha)

-- ---- the names stand at their places

pub new_again : (ps : List Piece) (new args : List (List ℕ)) → length new ≡ count_new ps → length args ≡ count_arguments ps → new_words ps (filled_pieces ps new args) ≡ new
new_again [] [] args hn ha = refl
new_again [] (n ∷ new) args hn ha = absurd (omega (arith, hn))
new_again (New ∷ ps) [] args hn ha = absurd (omega (arith, hn))
new_again (New ∷ ps) (n ∷ new) args hn ha = ap (λ (l : List (List ℕ)). n ∷ l) (new_again ps new args (omega (arith, hn)) ha)
new_again (Argument ∷ ps) new [] hn ha = absurd (omega (arith, ha))
new_again (Argument ∷ ps) new (n ∷ args) hn ha = new_again ps new args hn (omega (arith, ha))
new_again (Word w ∷ ps) new args hn ha = new_again ps new args hn ha

pub arguments_again : (ps : List Piece) (new args : List (List ℕ)) → length new ≡ count_new ps → length args ≡ count_arguments ps → argument_words ps (filled_pieces ps new args) ≡ args
arguments_again [] new [] hn ha = refl
arguments_again [] new (n ∷ args) hn ha = absurd (omega (arith, ha))
arguments_again (New ∷ ps) [] args hn ha = absurd (omega (arith, hn))
arguments_again (New ∷ ps) (n ∷ new) args hn ha = arguments_again ps new args (omega (arith, hn)) ha
arguments_again (Argument ∷ ps) new [] hn ha = absurd (omega (arith, ha))
arguments_again (Argument ∷ ps) new (n ∷ args) hn ha = ap (λ (l : List (List ℕ)). n ∷ l) (arguments_again ps new args hn (omega (arith, ha)))
arguments_again (Word w ∷ ps) new args hn ha = arguments_again ps new args hn ha

-- the words are those of the pieces, one for each
pub filled_again : (ps : List Piece) (new args : List (List ℕ)) → AreNames new → AreNames args → length new ≡ count_new ps → length args ≡ count_arguments ps → are_words_of ps (filled_pieces ps new args) ≡ true
filled_again [] new args an aa ln la = refl
filled_again (New ∷ ps) [] args an aa ln la = absurd (omega (arith, ln))
filled_again (New ∷ ps) (n ∷ new) args an aa ln la = rw (an.0, filled_again ps new args an.1 aa (omega (arith, ln)) la) refl
filled_again (Argument ∷ ps) new [] an aa ln la = absurd (omega (arith, la))
filled_again (Argument ∷ ps) new (n ∷ args) an aa ln la = rw (aa.0, filled_again ps new args an aa.1 ln (omega (arith, la))) refl
filled_again (Word w ∷ ps) new args an aa ln la = rw (same_bytes w, filled_again ps new args an aa ln la) refl

pub length-filled : (ps : List Piece) (new args : List (List ℕ)) → length new ≡ count_new ps → length args ≡ count_arguments ps → length (filled_pieces ps new args) ≡ length ps
length-filled [] new args ln la = refl
length-filled (New ∷ ps) [] args ln la = absurd (omega (arith, ln))
length-filled (New ∷ ps) (n ∷ new) args ln la = let e = length-filled ps new args (omega (arith, ln)) la in omega (arith, e)
length-filled (Argument ∷ ps) new [] ln la = absurd (omega (arith, la))
length-filled (Argument ∷ ps) new (n ∷ args) ln la = let e = length-filled ps new args ln (omega (arith, la)) in omega (arith, e)
length-filled (Word w ∷ ps) new args ln la = let e = length-filled ps new args ln la in omega (arith, e)

-- ---- which lines have these words

-- a piece that may stand for another one: a name for a name, and a word for itself
abbrev pub like : Piece → Piece → Bool
like (Word v) (Word w) = bytes_eq w v
like (Word v) q = false
like p (Word w) = false
like p q = true

abbrev pub similar : List Piece → List Piece → Bool
similar [] [] = true
similar (p ∷ ps) (q ∷ qs) = like p q && similar ps qs
similar ps qs = false

no_name : (w : List ℕ) → is_own_word w ≡ true → is_name w ≡ false
no_name w h = not-true (is_name w) (and_parts _ _ h).0

no_word : (v n : List ℕ) → is_own_word v ≡ true → is_name n ≡ true → bytes_eq n v ≡ false
no_word v n h hn = name_differs n v hn (no_name v h)

words_of_filled : (ps qs : List Piece) (new args : List (List ℕ)) → own_words ps ≡ true → own_words qs ≡ true → AreNames new → AreNames args → length new ≡ count_new qs → length args ≡ count_arguments qs
    → are_words_of ps (filled_pieces qs new args) ≡ similar ps qs
words_of_filled [] [] new args hp hq an aa ln la = refl
words_of_filled (New ∷ ps) [] new args hp hq an aa ln la = refl
words_of_filled (Argument ∷ ps) [] new args hp hq an aa ln la = refl
words_of_filled (Word v ∷ ps) [] new args hp hq an aa ln la = refl
words_of_filled [] (Word w ∷ qs) new args hp hq an aa ln la = refl
words_of_filled (New ∷ ps) (Word w ∷ qs) new args hp hq an aa ln la = rw (no_name w (and_parts _ _ hq).0) refl
words_of_filled (Argument ∷ ps) (Word w ∷ qs) new args hp hq an aa ln la = rw (no_name w (and_parts _ _ hq).0) refl
words_of_filled (Word v ∷ ps) (Word w ∷ qs) new args hp hq an aa ln la =
    ap (λ b. bytes_eq w v && b) (words_of_filled ps qs new args (and_parts _ _ hp).1 (and_parts _ _ hq).1 an aa ln la)
words_of_filled ps (New ∷ qs) [] args hp hq an aa ln la = absurd (omega (arith, ln))
words_of_filled [] (New ∷ qs) (n ∷ new) args hp hq an aa ln la = refl
words_of_filled (New ∷ ps) (New ∷ qs) (n ∷ new) args hp hq an aa ln la = rw (an.0, words_of_filled ps qs new args hp hq an.1 aa (omega (arith, ln)) la) refl
words_of_filled (Argument ∷ ps) (New ∷ qs) (n ∷ new) args hp hq an aa ln la = rw (an.0, words_of_filled ps qs new args hp hq an.1 aa (omega (arith, ln)) la) refl
words_of_filled (Word v ∷ ps) (New ∷ qs) (n ∷ new) args hp hq an aa ln la = rw (no_word v n (and_parts _ _ hp).0 an.0) refl
words_of_filled ps (Argument ∷ qs) new [] hp hq an aa ln la = absurd (omega (arith, la))
words_of_filled [] (Argument ∷ qs) new (n ∷ args) hp hq an aa ln la = refl
words_of_filled (New ∷ ps) (Argument ∷ qs) new (n ∷ args) hp hq an aa ln la = rw (aa.0, words_of_filled ps qs new args hp hq an aa.1 ln (omega (arith, la))) refl
words_of_filled (Argument ∷ ps) (Argument ∷ qs) new (n ∷ args) hp hq an aa ln la = rw (aa.0, words_of_filled ps qs new args hp hq an aa.1 ln (omega (arith, la))) refl
words_of_filled (Word v ∷ ps) (Argument ∷ qs) new (n ∷ args) hp hq an aa ln la = rw (no_word v n (and_parts _ _ hp).0 aa.0) refl

-- ---- shapes with one line

-- the shapes that have the line of this one, in the order of the table
abbrev pub alike : Shape → List Shape
alike OnLine = OnLine ∷ OnCircle ∷ []
alike OnCircle = OnLine ∷ OnCircle ∷ []
alike MeetLines = MeetLines ∷ MeetOne ∷ CirclesOne ∷ []
alike MeetOne = MeetLines ∷ MeetOne ∷ CirclesOne ∷ []
alike CirclesOne = MeetLines ∷ MeetOne ∷ CirclesOne ∷ []
alike MeetBoth = MeetBoth ∷ CirclesBoth ∷ []
alike CirclesBoth = MeetBoth ∷ CirclesBoth ∷ []
alike s = s ∷ []

alike_plain : (s : Shape) → filter (λ t. similar (pieces t) (pieces s) && true) all_shapes ≡ alike s
unfolding pieces
alike_plain Free = refl
alike_plain s = refl

alike_avoiding : (s : Shape) → may_avoid s ≡ true → filter (λ t. similar (pieces t) (pieces s) && may_avoid t) all_shapes ≡ alike s
unfolding pieces shape_row
alike_avoiding Free h = refl
alike_avoiding OnLine h = refl
alike_avoiding Within h = refl
alike_avoiding Beyond h = refl
alike_avoiding SideOf h = refl
alike_avoiding Opposite h = refl
alike_avoiding OnCircle h = refl
alike_avoiding Inside h = refl
alike_avoiding Outside h = refl
alike_avoiding s h = absurd cc

filter_same : (f g : Shape → Bool) (xs : List Shape) → ((x : Shape) → f x ≡ g x) → filter f xs ≡ filter g xs
filter_same f g [] h = refl
filter_same f g (x ∷ xs) h = rw (h x, filter_same f g xs h) refl

-- the shapes whose line the words of this one's line are
pub record Filled (s : Shape) (new args : List (List ℕ)) : Type 0 where
  pub new_names : AreNames new
  pub argument_names : AreNames args
  pub made : length new ≡ count_new (pieces s)
  pub arguments : length args ≡ count_arguments (pieces s)

pub shapes_again : (s : Shape) (new args : List (List ℕ)) → Filled s new args → shapes_of false (filled_pieces (pieces s) new args) ≡ alike s
unfolding shapes_of
shapes_again s new args f =
    filter_same (is_line_of false (filled_pieces (pieces s) new args)) (λ t. similar (pieces t) (pieces s) && true) all_shapes
    (λ t. ap (λ b. b && true) (words_of_filled (pieces t) (pieces s) new args (own_words_of t) (own_words_of s) f.new_names f.argument_names f.made f.arguments)) ∙ alike_plain s

pub avoiding_shapes_again : (s : Shape) (new args : List (List ℕ)) → Filled s new args → may_avoid s ≡ true → shapes_of true (filled_pieces (pieces s) new args) ≡ alike s
unfolding shapes_of
avoiding_shapes_again s new args f may =
    filter_same (is_line_of true (filled_pieces (pieces s) new args)) (λ t. similar (pieces t) (pieces s) && may_avoid t) all_shapes
    (λ t. ap (λ b. b && may_avoid t) (words_of_filled (pieces t) (pieces s) new args (own_words_of t) (own_words_of s) f.new_names f.argument_names f.made f.arguments)) ∙ alike_avoiding s may

-- the first of them, whose pieces are the same
pub record First (s : Shape) : Type 0 where
  pub first : Shape
  pub more : List Shape
  pub is : alike s ≡ first ∷ more
  pub same : pieces first ≡ pieces s

abbrev itself : (s : Shape) (more : List Shape) → alike s ≡ s ∷ more → First s
itself s more is = record { first = s; more = more; is = is; same = refl }

pub first_alike : (s : Shape) → First s
unfolding pieces
first_alike OnLine = itself OnLine (OnCircle ∷ []) refl
first_alike OnCircle = record { first = OnLine; more = OnCircle ∷ []; is = refl; same = refl }
first_alike MeetLines = itself MeetLines (MeetOne ∷ CirclesOne ∷ []) refl
first_alike MeetOne = record { first = MeetLines; more = MeetOne ∷ CirclesOne ∷ []; is = refl; same = refl }
first_alike CirclesOne = record { first = MeetLines; more = MeetOne ∷ CirclesOne ∷ []; is = refl; same = refl }
first_alike MeetBoth = itself MeetBoth (CirclesBoth ∷ []) refl
first_alike CirclesBoth = record { first = MeetBoth; more = CirclesBoth ∷ []; is = refl; same = refl }
first_alike s = itself s [] refl
