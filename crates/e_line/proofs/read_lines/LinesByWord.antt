-- What spelling says of the lines of a book.
use Rattle.std.proofs.Common.{◌≡◌, ℕ, ◌<◌, Bool, true, cond, ◌&&◌, List, [], ◌∷◌, length, take, drop, Result, Ok, subst, ◌∙◌, arith}
use Rattle.std.specs.Prelude.{codes}
use Rattle.std.specs.List.{slice_split}
use Rattle.std.specs.Str.{bytes_eq}
use Rattle.std.proofs.lemmas.List.Splits.{length-slice_split}
use Rattle.e_text.specs.Names.{is_title, name_of}
use Rattle.e_line.specs.declared.fault.FaultKind.{FaultKind}
use Rattle.e_line.specs.declared.items.RawItem.{RawItem}
use Rattle.e_line.specs.declared.items.RawItem.TheVariants.{Literal, As}
use Rattle.e_line.specs.declared.items.ListHead.{ListHead}
use Rattle.e_line.specs.declared.items.ListHead.TheVariants as list_heads
use Rattle.e_line.specs.declared.items.BookLine.{BookLine}
use Rattle.e_line.specs.declared.items.BookLine.TheVariants.{Plain, Define, Listed}
use Rattle.e_line.specs.Reading.{◌>>=◌, or_malformed, each, first_title, no_word_left, names_of}
use Rattle.e_line.specs.Literals.{is_semicolon, lit_of}
use Rattle.e_line.specs.Lets.{are_words_of, new_words, argument_words}
use Rattle.e_line.specs.Superposes.{superpose_pieces}
use Rattle.e_line.specs.RawLines.{raw_line_named, raw_line_of}
use Rattle.e_line.specs.Names.{AreNames}
use Rattle.e_line.specs.Items.{is_as, as_of, item_of, items_of, has_item, define_of, placing_of, line_with_items, line_named, book_line_of}
use Rattle.e_line.proofs.base.Bound.{bind_ok, ok_is, read_ok, each_length}
use Rattle.e_line.proofs.base.Choices.{either, passed, of_reading}
use Rattle.e_line.proofs.read_lines.SumsOfLiterals.{lit_said}
use Rattle.e_line.proofs.read_lines.TitlesOfWords.{title_said, names_said, new_count}
use Rattle.e_line.proofs.read_lines.ItemsOfWords.{ItemSaid, ItemsSaid}

-- the new names of a superposition are two names
abbrev pub ListHeadSaid : ListHead → Type 0
ListHeadSaid (list_heads.Superpose args new) = AreNames new × (length new ≡ 2)
ListHeadSaid line = Unit {0}

abbrev pub LineSaid : List (List ℕ) → BookLine → Type 0
LineSaid words (Plain f) = raw_line_of words ≡ Ok f
LineSaid words (Define t) = is_title t ≡ true
LineSaid words (Listed line is) = ListHeadSaid line × (0 < length is) × ItemsSaid is

-- ---- items

item_by : (b : Bool) (w : List ℕ) (ws : List (List ℕ)) (i : RawItem) → cond b (as_of ws >>= λ a. read_ok (As a)) (lit_of (w ∷ ws) >>= λ l. read_ok (Literal l)) ≡ Ok i → ItemSaid i
item_by b w ws i e =
    either ItemSaid b (as_of ws >>= λ a. read_ok (As a)) (lit_of (w ∷ ws) >>= λ l. read_ok (Literal l)) i e
    (of_reading ItemSaid (as_of ws) (λ a. As a) i (λ a k. tt))
    (of_reading ItemSaid (lit_of (w ∷ ws)) (λ l. Literal l) i (λ l k. lit_said (w ∷ ws) l k))

item_said : (ws : List (List ℕ)) (i : RawItem) → item_of ws ≡ Ok i → ItemSaid i
unfolding item_of
item_said [] i e = absurd cc
item_said (w ∷ ws) i e = item_by (is_as w) w ws i e

each_said : (parts : List (List (List ℕ))) (is : List RawItem) → each item_of parts ≡ Ok is → ItemsSaid is
each_said [] is e = subst ItemsSaid (ok_is [] is e) tt
each_said (p ∷ ps) is e =
    let a = bind_ok (item_of p) (λ i. each item_of ps >>= λ js. read_ok (i ∷ js)) is e in
    let b = bind_ok (each item_of ps) (λ js. read_ok (a.0 ∷ js)) is a.2 in
    subst ItemsSaid (ok_is (a.0 ∷ b.0) is b.2) (item_said p a.0 a.1, each_said ps b.0 b.1)

items_said : (ws : List (List ℕ)) (is : List RawItem) → items_of ws ≡ Ok is → (0 < length is) × ItemsSaid is
items_said ws is e =
    let n = each_length item_of (slice_split is_semicolon ws) is e in
    (omega (arith, n, length-slice_split is_semicolon ws), each_said (slice_split is_semicolon ws) is e)

-- ---- lines

listed_said : (words : List (List ℕ)) (line : ListHead) (ws : List (List ℕ)) (l : BookLine) → ListHeadSaid line → line_with_items line ws ≡ Ok l → LineSaid words l
unfolding line_with_items
listed_said words line ws l h e = of_reading (LineSaid words) (items_of ws) (λ is. Listed line is) l (λ is k. (h, (items_said ws is k).0, (items_said ws is k).1)) e

define_said : (words ws : List (List ℕ)) (l : BookLine) → define_of ws ≡ Ok l → LineSaid words l
unfolding define_of
define_said words ws l e =
    let t = bind_ok (first_title ws) (λ t. no_word_left t.1 >>= λ none. read_ok (Define t.0)) l e in
    of_reading (LineSaid words) (no_word_left t.0.1) (λ none. Define t.0.0) l (λ none k. title_said ws t.0 t.1) t.2

placing_said : (head : List (List ℕ)) (line : ListHead) → placing_of head ≡ Ok line → ListHeadSaid line
unfolding placing_of
placing_said head line e =
    let news = new_words superpose_pieces head in
    let arguments = argument_words superpose_pieces head in
    let b = passed (are_words_of superpose_pieces head) (names_of news >>= λ new. names_of arguments >>= λ args. read_ok (list_heads.Superpose args new)) line e in
    let n = bind_ok (names_of news) (λ new. names_of arguments >>= λ args. read_ok (list_heads.Superpose args new)) line b.1 in
    let count : length n.0 ≡ 2 = each_length (λ w. or_malformed (name_of w)) news n.0 n.1 ∙ new_count superpose_pieces head b.0 in
    of_reading ListHeadSaid (names_of arguments) (λ args. list_heads.Superpose args n.0) line (λ args k. (names_said news n.0 n.1, count)) n.2

plain_said : (w : List ℕ) (ws : List (List ℕ)) (l : BookLine) → (raw_line_named w ws >>= λ f. read_ok (Plain f)) ≡ Ok l → LineSaid (w ∷ ws) l
unfolding raw_line_of
plain_said w ws l e = of_reading (LineSaid (w ∷ ws)) (raw_line_named w ws) (λ f. Plain f) l (λ f k. k) e

named_said : (w : List ℕ) (ws : List (List ℕ)) (l : BookLine) → line_named w ws ≡ Ok l → LineSaid (w ∷ ws) l
unfolding line_named
named_said w ws l e =
    let P : BookLine → Type 0 = LineSaid (w ∷ ws) in
    let r5 : Result BookLine FaultKind = raw_line_named w ws >>= λ f. read_ok (Plain f) in
    let placed : Result BookLine FaultKind = placing_of (take 13 ws) >>= λ line. line_with_items line (drop 13 ws) in
    let b4 = bytes_eq w (codes "superpose") && has_item (drop 13 ws) in
    let r4 : Result BookLine FaultKind = cond b4 placed r5 in
    let b3 = bytes_eq w (codes "claim") && has_item ws in
    let r3 : Result BookLine FaultKind = cond b3 (line_with_items list_heads.Claim ws) r4 in
    let b2 = bytes_eq w (codes "show") && has_item ws in
    let r2 : Result BookLine FaultKind = cond b2 (line_with_items list_heads.Show ws) r3 in
    let b1 = bytes_eq w (codes "given") && has_item ws in
    let r1 : Result BookLine FaultKind = cond b1 (line_with_items list_heads.Given ws) r2 in
    either P (bytes_eq w (codes "define")) (define_of ws) r1 l e (define_said (w ∷ ws) ws l) (λ e1.
    either P b1 (line_with_items list_heads.Given ws) r2 l e1 (listed_said (w ∷ ws) list_heads.Given ws l tt) (λ e2.
    either P b2 (line_with_items list_heads.Show ws) r3 l e2 (listed_said (w ∷ ws) list_heads.Show ws l tt) (λ e3.
    either P b3 (line_with_items list_heads.Claim ws) r4 l e3 (listed_said (w ∷ ws) list_heads.Claim ws l tt) (λ e4.
    either P b4 placed r5 l e4
    (λ k. let a = bind_ok (placing_of (take 13 ws)) (λ line. line_with_items line (drop 13 ws)) l k in listed_said (w ∷ ws) a.0 (drop 13 ws) l (placing_said (take 13 ws) a.0 a.1) a.2)
    (plain_said w ws l)))))

pub line_read_as : (words : List (List ℕ)) (l : BookLine) → book_line_of words ≡ Ok l → LineSaid words l
unfolding book_line_of
line_read_as [] l e = absurd cc
line_read_as (w ∷ ws) l e = named_said w ws l e
