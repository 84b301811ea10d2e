-- The lines of steps and of close lines are short.
use Rattle.std.proofs.Common.{◌≡◌, ℕ, ◌+◌, ◌*◌, ◌≤◌, Bool, true, leb, ◌&&◌, List, [], ◌∷◌, ◌++◌, length, map, Option, Some, None, refl, arith, length-append}
use Rattle.std.specs.Prelude.{codes}
use Rattle.std.specs.List.{list_all, AllByRecursion}
use Rattle.std.proofs.lemmas.Bool.{leb-true, and_parts}
use Rattle.std.proofs.lemmas.List.{length-map}
use Rattle.e_text.specs.Names.{is_title}
use Rattle.e_text.specs.Tokens.{joined_words}
use Rattle.e_literal.specs.declared.object.Obj.{Obj}
use Rattle.e_literal.specs.declared.object.Scope.{Scope}
use Rattle.e_literal.specs.declared.literal.Lit.{Lit}
use Rattle.e_literal.specs.WellFormed.{is_well_formed}
use Rattle.e_literal.specs.Scopes.{next_objects}
use Rattle.e_literal.specs.Rename.{with_images, image_in, pairs_of}
use Rattle.e_clause.specs.declared.cert.By.{By}
use Rattle.e_construct.specs.declared.construction.Shape.{Shape}
use Rattle.e_construct.specs.declared.construction.Shape.TheVariants.{Free, OnLine, Within, Beyond, SideOf, Opposite, OnCircle, Inside, Outside, LineThrough, CircleAt, MeetLines, MeetOne, MeetBoth, MeetWithin, MeetBeyond, CirclesOne, CirclesBoth, CirclesSide, CirclesOpposite}
use Rattle.e_construct.specs.declared.construction.Construction.{Construction}
use Rattle.e_construct.specs.declared.superpose.Superpose.{Superpose}
use Rattle.e_construct.specs.Shapes.{shape_row}
use Rattle.e_construct.specs.Construct.{row_of_construction, sorts_of, made_by_row, gives_of_avoided, gives_of_construction}
use Rattle.e_construct.specs.Lines.{Piece, New, Argument, Word, pieces}
use Rattle.e_deriv.specs.declared.names.Names.{Names}
use Rattle.e_line.specs.Limits.{most_facts, most_monomials_of_facts, count_monomials}
use Rattle.e_line.specs.Superposes.{superpose_pieces}
use Rattle.e_names.specs.TitledStatements.{TitledStatement, title_at}
use Rattle.e_line.specs.Canonical.{filled_pieces, avoid_words, argument_word, made_words, lit_words, lits_words, line_of}
use Rattle.e_names.specs.Canonical.{argument_name, name_at, name_of_object, raw_of, rule_name, placed_names, by_raw_line, hence_raw_line, let_raw_line, apply_raw_line, claim_raw_line, superpose_raw_line, qed_raw_line, contradiction_raw_line, cases_raw_line, else_raw_line, end_raw_line}
use Rattle.e_line.specs.Names.{AreNames}
use Rattle.e_names.proofs.resolution.Lookups.{InOrder}
use Rattle.e_roundtrip.proofs.Lengths.Rooms.{is_short, short_name, short_title, Room, room_none, room_more, room_word, room_append, room_line, IsShortLine}
use Rattle.e_roundtrip.proofs.Lengths.LitRooms.{short_at, short_object, room_objects, room_one, room_lits}
use Rattle.e_roundtrip.proofs.Lengths.RuleRooms.{short_rule}

-- ---- lines of one literal

-- a literal after a word
word_lit : (word : List ℕ) (ns : Names) (l : Lit) → is_short 16 word ≡ true → InOrder ns → is_well_formed l ≡ true → Room 2194 (word ∷ lit_words (raw_of ns l))
word_lit word ns l h o g = room_word 16 2177 word (lit_words (raw_of ns l)) h (room_one ns l o g)

-- an inference
pub short_hence : (ns : Names) (l : Lit) → InOrder ns → is_well_formed l ≡ true → IsShortLine (line_of (hence_raw_line ns l))
short_hence ns l o g = room_line 2194 _ (omega arith) (word_lit (codes "hence") ns l refl o g)

-- a split
pub short_cases : (ns : Names) (l : Lit) → InOrder ns → is_well_formed l ≡ true → IsShortLine (line_of (cases_raw_line ns l))
short_cases ns l o g = room_line 2194 _ (omega arith) (word_lit (codes "cases") ns l refl o g)

-- a citation
pub short_by : (ns : Names) (b : By) → InOrder ns → is_well_formed b.lit ≡ true → length b.args ≤ 16 → IsShortLine (line_of (by_raw_line ns b))
short_by ns b o g few =
    let n = 17 * length b.args in
    let args = map (name_of_object ns) b.args in
    let lit = codes ":" ∷ lit_words (raw_of ns b.lit) in
    room_line (2 + 1 + (24 + 1 + (n + 2194))) _ (omega (arith, few))
    (room_word 2 (24 + 1 + (n + 2194)) (codes "by") _ refl (room_word 24 (n + 2194) (rule_name b.rule) (args ++ lit) (short_rule b.rule)
    (room_append n 2194 args lit (room_objects ns b.args o) (word_lit (codes ":") ns b.lit refl o g))))

-- ---- lines of pieces

-- a piece whose word is short
abbrev is_short_piece : Piece → Bool
is_short_piece New = true
is_short_piece Argument = true
is_short_piece (Word w) = is_short 16 w

-- short words
abbrev pub AllWords : List (List ℕ) → Type 0
AllWords ws = AllByRecursion (λ w. is_short 16 w ≡ true) ws

-- names are short words
words_of_names : (ns : List (List ℕ)) → AreNames ns → AllWords ns
words_of_names [] h = tt
words_of_names (n ∷ ns) h = (short_name n h.0, words_of_names ns h.1)

-- so are the names of objects
words_of_objects : (ns : Names) (os : List Obj) → InOrder ns → AllWords (map (name_of_object ns) os)
words_of_objects ns [] h = tt
words_of_objects ns (o ∷ os) h = (short_object ns o h, words_of_objects ns os h)

-- short words, each with its space
pub room_words : (ws : List (List ℕ)) → AllWords ws → Room (17 * length ws) ws
room_words [] h = room_none
room_words (w ∷ ws) h = room_more (16 + 1 + 17 * length ws) (17 * length (w ∷ ws)) (w ∷ ws) (omega arith) (room_word 16 (17 * length ws) w ws h.0 (room_words ws h.1))

-- one word for a piece
piece_word : (p : Piece) (ps : List Piece) (w : List ℕ) (ws : List (List ℕ)) → is_short 16 w ≡ true → Room (17 * length ps) ws → Room (17 * length (p ∷ ps)) (w ∷ ws)
piece_word p ps w ws h r = room_more (16 + 1 + 17 * length ps) (17 * length (p ∷ ps)) (w ∷ ws) (omega arith) (room_word 16 (17 * length ps) w ws h r)

-- no word for a piece
no_word : (p : Piece) (ps : List Piece) (ws : List (List ℕ)) → Room (17 * length ps) ws → Room (17 * length (p ∷ ps)) ws
no_word p ps ws r = room_more (17 * length ps) (17 * length (p ∷ ps)) ws (omega arith) r

-- at most one word for each piece
room_filled : (ps : List Piece) (new args : List (List ℕ)) → list_all is_short_piece ps ≡ true → AllWords new → AllWords args → Room (17 * length ps) (filled_pieces ps new args)
room_filled [] new args h n a = room_none
room_filled (Word w ∷ ps) new args h n a =
    let p = and_parts (is_short 16 w) (list_all is_short_piece ps) h in
    piece_word (Word w) ps w (filled_pieces ps new args) p.0 (room_filled ps new args p.1 n a)
room_filled (New ∷ ps) (w ∷ new) args h n a = piece_word New ps w (filled_pieces ps new args) n.0 (room_filled ps new args h n.1 a)
room_filled (New ∷ ps) [] args h n a = no_word New ps (filled_pieces ps [] args) (room_filled ps [] args h n a)
room_filled (Argument ∷ ps) new (w ∷ args) h n a = piece_word Argument ps w (filled_pieces ps new args) a.0 (room_filled ps new args h n a.1)
room_filled (Argument ∷ ps) new [] h n a = no_word Argument ps (filled_pieces ps new []) (room_filled ps new [] h n a)

-- ---- constructions

-- at most 16 pieces with short words
abbrev are_short_pieces : List Piece → Bool
are_short_pieces ps = list_all is_short_piece ps && leb (length ps) 16

-- the pieces of each construction are short
short_pieces : (s : Shape) → are_short_pieces (pieces s) ≡ true
unfolding pieces
short_pieces Free = refl
short_pieces OnLine = refl
short_pieces Within = refl
short_pieces Beyond = refl
short_pieces SideOf = refl
short_pieces Opposite = refl
short_pieces OnCircle = refl
short_pieces Inside = refl
short_pieces Outside = refl
short_pieces LineThrough = refl
short_pieces CircleAt = refl
short_pieces MeetLines = refl
short_pieces MeetOne = refl
short_pieces MeetBoth = refl
short_pieces MeetWithin = refl
short_pieces MeetBeyond = refl
short_pieces CirclesOne = refl
short_pieces CirclesBoth = refl
short_pieces CirclesSide = refl
short_pieces CirclesOpposite = refl

-- each construction makes something
makes : (s : Shape) → leb 1 (length (shape_row s).made) ≡ true
unfolding shape_row
makes Free = refl
makes OnLine = refl
makes Within = refl
makes Beyond = refl
makes SideOf = refl
makes Opposite = refl
makes OnCircle = refl
makes Inside = refl
makes Outside = refl
makes LineThrough = refl
makes CircleAt = refl
makes MeetLines = refl
makes MeetOne = refl
makes MeetBoth = refl
makes MeetWithin = refl
makes MeetBeyond = refl
makes CirclesOne = refl
makes CirclesBoth = refl
makes CirclesSide = refl
makes CirclesOpposite = refl

-- one literal for each object that is avoided
one_each : (s : Scope) (made avoid : List Obj) → 1 ≤ length made → length (gives_of_avoided (next_objects s (sorts_of made)) avoid) ≡ length avoid
one_each s [] avoid le = absurd (omega (arith, le))
one_each s (o ∷ os) avoid le = length-map avoid _

-- it gives a literal for each object that it avoids
pub avoided_give : (construction : Construction) (s : Scope) → length construction.avoid ≤ length (gives_of_construction construction s)
avoided_give construction s =
    let r = row_of_construction construction in
    let first : List Lit = map (with_images (image_in (pairs_of r.args construction.args ++ pairs_of r.made (made_by_row r s)))) r.gives in
    let last = gives_of_avoided (made_by_row r s) construction.avoid in
    omega (arith, length-append first last, one_each s r.made construction.avoid (leb-true 1 (length r.made) (makes construction.shape)))

-- the avoided objects after their word
room_avoided : (ns : List (List ℕ)) → AllWords ns → Room (6 + 17 * length ns) (avoid_words ns)
room_avoided [] h = room_more 0 6 [] (omega arith) room_none
room_avoided (n ∷ ns) h = room_word 5 (17 * length (n ∷ ns)) (codes "avoid") (n ∷ ns) refl (room_words (n ∷ ns) h)

-- a construction
pub short_let : (ns : Names) (construction : Construction) (names : List (List ℕ)) → InOrder ns → AreNames names → length construction.avoid ≤ most_facts → IsShortLine (line_of (let_raw_line ns construction names))
short_let ns construction names o h few =
    let avoid = map (name_of_object ns) construction.avoid in
    let args = map (name_of_object ns) construction.args in
    let ps = pieces construction.shape in
    let p = and_parts (list_all is_short_piece ps) (leb (length ps) 16) (short_pieces construction.shape) in
    let n = 17 * length ps in
    let m = 6 + 17 * length avoid in
    room_line (3 + 1 + (n + m)) _ (omega (arith, few, leb-true (length ps) 16 p.1, length-map construction.avoid (name_of_object ns)))
    (room_word 3 (n + m) (codes "let") _ refl (room_append n m (filled_pieces ps names args) (avoid_words avoid)
    (room_filled ps names args p.0 (words_of_names names h) (words_of_objects ns construction.args o)) (room_avoided avoid (words_of_objects ns construction.avoid o))))

-- ---- uses of earlier theorems

-- arguments and blanks
words_of_arguments : (ns : Names) (args : List (Option Obj)) → InOrder ns → AllWords (map argument_word (map (argument_name ns) args))
words_of_arguments ns [] o = tt
words_of_arguments ns (None ∷ args) o = (refl, words_of_arguments ns args o)
words_of_arguments ns (Some x ∷ args) o = (short_object ns x o, words_of_arguments ns args o)

-- the names of made objects after their word
room_made : (ns : List (List ℕ)) → AllWords ns → Room (3 + 17 * length ns) (made_words ns)
room_made [] h = room_more 0 3 [] (omega arith) room_none
room_made (n ∷ ns) h = room_word 2 (17 * length (n ∷ ns)) (codes "as") (n ∷ ns) refl (room_words (n ∷ ns) h)

-- the use of an earlier theorem
pub short_apply : (known : List TitledStatement) (ns : Names) (theorem : ℕ) (args : List (Option Obj)) (names : List (List ℕ)) → InOrder ns → is_title (title_at known theorem) ≡ true → AreNames names → length args ≤ 80 → length names ≤ 80
    → IsShortLine (line_of (apply_raw_line known ns theorem args names))
short_apply known ns theorem args names o t h few less =
    let words = map argument_word (map (argument_name ns) args) in
    let n = 17 * length words in
    let m = 3 + 17 * length names in
    room_line (5 + 1 + (24 + 1 + (n + m))) _ (omega (arith, few, less, length-map (map (argument_name ns) args) argument_word, length-map args (argument_name ns)))
    (room_word 5 (24 + 1 + (n + m)) (codes "apply") _ refl (room_word 24 (n + m) (title_at known theorem) (words ++ made_words names) (short_title (title_at known theorem) t)
    (room_append n m words (made_words names) (room_words words (words_of_arguments ns args o)) (room_made names (words_of_names names h)))))

-- ---- lists of literals

-- a claim
pub short_claim : (ns : Names) (ls : List Lit) → InOrder ns → list_all is_well_formed ls ≡ true → length ls ≤ most_facts → count_monomials ls ≤ most_monomials_of_facts → IsShortLine (line_of (claim_raw_line ns ls))
short_claim ns ls o g few less =
    let n = 67 * length ls + 66 * count_monomials ls in
    room_line (5 + 1 + n) _ (omega (arith, few, less)) (room_word 5 n (codes "claim") (lits_words (map (raw_of ns) ls)) refl (room_lits ns ls o g))

-- the points and lines of a superposition
words_of_placed : (ns : Names) (superposition : Superpose) → InOrder ns → AllWords (placed_names ns superposition)
words_of_placed ns superposition o = (point _, (point _, (point _, (line _, (point _, (point _, (point _, (line _, tt))))))))
  where
    point : (i : ℕ) → is_short 16 (name_at ns.points i) ≡ true
    point i = short_at ns.points i o.point_names

    line : (i : ℕ) → is_short 16 (name_at ns.lines i) ≡ true
    line i = short_at ns.lines i o.line_names

-- a superposition
pub short_superpose : (ns : Names) (superposition : Superpose) (names : List (List ℕ)) (ls : List Lit) → InOrder ns → AreNames names → list_all is_well_formed ls ≡ true → length ls ≤ most_facts → count_monomials ls ≤ most_monomials_of_facts
    → IsShortLine (line_of (superpose_raw_line ns superposition names ls))
short_superpose ns superposition names ls o h g few less =
    let n = 67 * length ls + 66 * count_monomials ls in
    let m = 17 * length superpose_pieces in
    room_line (9 + 1 + (m + n)) _ (omega (arith, few, less))
    (room_word 9 (m + n) (codes "superpose") _ refl (room_append m n (filled_pieces superpose_pieces names (placed_names ns superposition)) (lits_words (map (raw_of ns) ls))
    (room_filled superpose_pieces names (placed_names ns superposition) refl (words_of_names names h) (words_of_placed ns superposition o)) (room_lits ns ls o g)))

-- ---- close lines

-- the close line that shows the goal
pub short_qed : (ns : Names) (os : List Obj) → InOrder ns → length os ≤ 80 → IsShortLine (line_of (qed_raw_line ns os))
short_qed ns os o few =
    let n = 17 * length os in
    room_line (3 + 1 + n) _ (omega (arith, few)) (room_word 3 n (codes "qed") (map (name_of_object ns) os) refl (room_objects ns os o))

-- a line of one word
one_word : (w : List ℕ) → is_short 16 w ≡ true → IsShortLine (joined_words (w ∷ []))
one_word w h = room_line 17 (w ∷ []) (omega arith) (room_word 16 0 w [] h room_none)

pub short_contradiction : IsShortLine (line_of contradiction_raw_line)
short_contradiction = one_word (codes "contradiction") refl

pub short_else : IsShortLine (line_of else_raw_line)
short_else = one_word (codes "else") refl

pub short_end : IsShortLine (line_of end_raw_line)
short_end = one_word (codes "end") refl
