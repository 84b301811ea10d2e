-- A book that is accepted has as many theorems as lines that begin with the word theorem, whatever definitions it has.
use Rattle.std.proofs.Common.{◌≡◌, ℕ, ◌+◌, Bool, true, false, cond, ◌&&◌, List, [], ◌∷◌, length, take, drop, Option, Some, None, Result, Ok, Err, refl, sym, ap, subst, ◌∙◌, arith}
use Rattle.std.specs.Prelude.{codes, nat_le}
use Rattle.std.specs.Option.{option_map}
use Rattle.std.specs.Str.{bytes_eq}
use Rattle.std.proofs.lemmas.Bool.{eqb-true}
use Rattle.std.proofs.lemmas.Slice.Eq.{bytes_eq-Decides}
use Rattle.e_text.specs.Tokens.{tokens_of}
use Rattle.e_literal.specs.declared.object.Sort.{Sort}
use Rattle.e_literal.specs.declared.object.Sort.TheVariants.{Point, Line, Circle}
use Rattle.e_line.specs.declared.fault.FaultKind.{FaultKind}
use Rattle.e_line.specs.declared.fault.FaultKind.TheVariants.{Malformed, NameTaken}
use Rattle.e_line.specs.declared.fault.BookFault.{BookFault}
use Rattle.e_line.specs.declared.raw_line.RawLine.{RawLine}
use Rattle.e_line.specs.declared.raw_line.RawLine.TheVariants as rawlines
use Rattle.e_line.specs.declared.fault.What.TheVariants as limits
use Rattle.e_line.specs.declared.items.RawItem.{RawItem}
use Rattle.e_line.specs.declared.items.ListHead.{ListHead}
use Rattle.e_line.specs.declared.items.ListHead.TheVariants as list_heads
use Rattle.e_line.specs.declared.items.BookLine.{BookLine}
use Rattle.e_line.specs.declared.items.BookLine.TheVariants.{Plain, Define, Listed}
use Rattle.e_names.specs.declared.known.Known.{Known}
use Rattle.e_line.specs.Reading.{◌>>=◌, first_word, first_title, no_word_left, cut_at, names_of, some_names}
use Rattle.e_line.specs.Literals.{lit_of, diagram_lit_of, lits_of}
use Rattle.e_line.specs.Superposes.{superpose_of}
use Rattle.e_line.specs.Lets.{let_of}
use Rattle.e_line.specs.Applies.{apply_of}
use Rattle.e_line.specs.RawLines.{declare_of, sort_of, made_of, by_of, theorem_line_of, bare_line, raw_line_named}
use Rattle.e_names.specs.TitledStatements.{TitledStatement}
use Rattle.e_book.specs.TheoremViews.{TheoremView}
use Rattle.e_names.specs.Taken.{nothing_known, is_taken}
use Rattle.e_names.specs.Titled.{Titled}
use Rattle.e_line.specs.Limits.{most_notions, most_expanded}
use Rattle.e_line.specs.Items.{has_item, items_of, define_of, placing_of, line_with_items, line_named, book_line_of, is_show}
use Rattle.e_book.specs.Open.{Open, Head, Stating, Proving, Splitting, Proved, Ended}
use Rattle.e_book.specs.Counts.{all_kept, limits_kept}
use Rattle.e_book.specs.Grammar.{begins, empty_head, is_empty, next, line_after, theorem_ended, is_skipped, put_at, Rest}
use Rattle.e_book.specs.Definitions.{BookItem, OfTheorem, OfNotion, PartialItem, InTheorem, InDefinition, Defined, has_notion_title, after_first_line, says_more, still_defined, notion_of_head, ends_definition, plain_line, written_out, with_more_literals, after_listed_line, next_line, item_after_words, item_ended, whole_or, item_from}
use Rattle.e_line.proofs.base.Bound.{bind_ok, ok_is, read_ok}
use Rattle.e_line.proofs.base.Choices.{either, passed, of_reading}
use Rattle.e_names.proofs.titles.FreshTitles.{was_free}
use Rattle.e_commands.specs.Outcome.{and_theorem, and_notion, Defines, Takes, Accepted, IsOutcome, end_line_number}
use Rattle.e_commands.proofs.outcomes.AcceptedBooks.{at_end_found, by_found, by_none, by_skip}
use Rattle.e_commands.proofs.written_texts.VerifiedText.{known_grows}

-- the words of a line with a title
abbrev pub has_title : List (List ℕ) → Bool
has_title [] = false
has_title (w ∷ ws) = bytes_eq w (codes "theorem")

abbrev pub one_if : Bool → ℕ
one_if true = 1
one_if false = 0

-- how many lines have one, up to the first with a fault
abbrev pub titles : Rest → ℕ
titles [] = 0
titles (Err f ∷ lines) = 0
titles (Ok l ∷ lines) = one_if (has_title (tokens_of l.bytes)) + titles lines

-- this line has one
abbrev is_title_line : BookLine → Bool
is_title_line (Plain (rawlines.Theorem t)) = true
is_title_line l = false

abbrev partial_ok : PartialItem → Result PartialItem FaultKind
partial_ok c = Ok c

abbrev open_ok : Open → Result Open FaultKind
open_ok o = Ok o

abbrev refusal_of : FaultKind → Result PartialItem FaultKind
refusal_of k = Err k

-- ---- no other word begins a line with a title

abbrev IsNoTitle : Result RawLine FaultKind → Type 0
IsNoTitle (Ok (rawlines.Theorem t)) = ⊥
IsNoTitle r = Unit {0}

chosen : (b : Bool) (x y : Result RawLine FaultKind) → IsNoTitle x → IsNoTitle y → IsNoTitle (cond b x y)
chosen true x y h k = h
chosen false x y h k = k

second : (b : Bool) (x y : Result RawLine FaultKind) → b ≡ false → IsNoTitle y → IsNoTitle (cond b x y)
second true x y e k = absurd cc
second false x y e k = k

read_on : {A : Type 0} (r : Result A FaultKind) (f : A → Result RawLine FaultKind) → ((x : A) → IsNoTitle (f x)) → IsNoTitle (r >>= f)
read_on (Ok x) f h = h x
read_on (Err k) f h = tt

declared : (sort : Sort) (ws : List (List ℕ)) → IsNoTitle (declare_of sort ws)
unfolding declare_of
declared sort ws = read_on (some_names ws) (λ ns. read_ok (rawlines.Declare sort ns)) (λ ns. tt)

made : (ws : List (List ℕ)) → IsNoTitle (made_of ws)
unfolding made_of
made ws =
    read_on (first_word ws) (λ w. sort_of w.0 >>= λ sort. some_names w.1 >>= λ ns. read_ok (rawlines.Made sort ns))
    (λ w. read_on (sort_of w.0) (λ sort. some_names w.1 >>= λ ns. read_ok (rawlines.Made sort ns))
    (λ sort. read_on (some_names w.1) (λ ns. read_ok (rawlines.Made sort ns)) (λ ns. tt)))

cited : (ws : List (List ℕ)) → IsNoTitle (by_of ws)
unfolding by_of
cited ws =
    let rest : List ℕ × List (List ℕ) → Result RawLine FaultKind = λ r. cond (cut_at (codes ":") r.1).2 (names_of (cut_at (codes ":") r.1).0 >>= λ ns. diagram_lit_of (cut_at (codes ":") r.1).1 >>= λ l. read_ok (rawlines.By r.0 ns l)) (Err Malformed) in
    read_on (first_title ws) rest
    (λ r.
    let parts = cut_at (codes ":") r.1 in
    chosen parts.2 (names_of parts.0 >>= λ ns. diagram_lit_of parts.1 >>= λ l. read_ok (rawlines.By r.0 ns l)) (Err Malformed)
    (read_on (names_of parts.0) (λ ns. diagram_lit_of parts.1 >>= λ l. read_ok (rawlines.By r.0 ns l)) (λ ns. read_on (diagram_lit_of parts.1) (λ l. read_ok (rawlines.By r.0 ns l)) (λ l. tt)))
    tt)

alone : (ws : List (List ℕ)) (raw_line : RawLine) → IsNoTitle (Ok raw_line) → IsNoTitle (bare_line ws raw_line)
unfolding bare_line
alone ws raw_line h = read_on (no_word_left ws) (λ none. read_ok raw_line) (λ none. h)

no_title : (w : List ℕ) (ws : List (List ℕ)) → bytes_eq w (codes "theorem") ≡ false → IsNoTitle (raw_line_named w ws)
unfolding raw_line_named
no_title w ws e =
    let r20 : Result RawLine FaultKind = Err Malformed in
    let r19 : Result RawLine FaultKind = cond (bytes_eq w (codes "end")) (bare_line ws rawlines.End) r20 in
    let r18 : Result RawLine FaultKind = cond (bytes_eq w (codes "else")) (bare_line ws rawlines.Else) r19 in
    let r17 : Result RawLine FaultKind = cond (bytes_eq w (codes "cases")) (lit_of ws >>= λ l. read_ok (rawlines.Cases l)) r18 in
    let r16 : Result RawLine FaultKind = cond (bytes_eq w (codes "superpose")) (superpose_of ws >>= λ s. read_ok (rawlines.Superpose s)) r17 in
    let r15 : Result RawLine FaultKind = cond (bytes_eq w (codes "claim")) (lits_of ws >>= λ ls. read_ok (rawlines.Claim ls)) r16 in
    let r14 : Result RawLine FaultKind = cond (bytes_eq w (codes "contradiction")) (bare_line ws rawlines.Contradiction) r15 in
    let r13 : Result RawLine FaultKind = cond (bytes_eq w (codes "qed")) (names_of ws >>= λ ns. read_ok (rawlines.Qed ns)) r14 in
    let r12 : Result RawLine FaultKind = cond (bytes_eq w (codes "apply")) (apply_of ws >>= λ a. read_ok (rawlines.Apply a)) r13 in
    let r11 : Result RawLine FaultKind = cond (bytes_eq w (codes "let")) (let_of ws >>= λ l. read_ok (rawlines.Let l)) r12 in
    let r10 : Result RawLine FaultKind = cond (bytes_eq w (codes "hence")) (lit_of ws >>= λ l. read_ok (rawlines.Hence l)) r11 in
    let r9 : Result RawLine FaultKind = cond (bytes_eq w (codes "by")) (by_of ws) r10 in
    let r8 : Result RawLine FaultKind = cond (bytes_eq w (codes "proof")) (bare_line ws rawlines.Proof) r9 in
    let r7 : Result RawLine FaultKind = cond (bytes_eq w (codes "show")) (lits_of ws >>= λ ls. read_ok (rawlines.Show ls)) r8 in
    let r6 : Result RawLine FaultKind = cond (bytes_eq w (codes "made")) (made_of ws) r7 in
    let r5 : Result RawLine FaultKind = cond (bytes_eq w (codes "given")) (lits_of ws >>= λ ls. read_ok (rawlines.Given ls)) r6 in
    let r4 : Result RawLine FaultKind = cond (bytes_eq w (codes "circles")) (declare_of Circle ws) r5 in
    let r3 : Result RawLine FaultKind = cond (bytes_eq w (codes "lines")) (declare_of Line ws) r4 in
    let r2 : Result RawLine FaultKind = cond (bytes_eq w (codes "points")) (declare_of Point ws) r3 in
    second (bytes_eq w (codes "theorem")) (theorem_line_of ws) r2 e
    (chosen (bytes_eq w (codes "points")) (declare_of Point ws) r3 (declared Point ws)
    (chosen (bytes_eq w (codes "lines")) (declare_of Line ws) r4 (declared Line ws)
    (chosen (bytes_eq w (codes "circles")) (declare_of Circle ws) r5 (declared Circle ws)
    (chosen (bytes_eq w (codes "given")) (lits_of ws >>= λ ls. read_ok (rawlines.Given ls)) r6 (read_on (lits_of ws) (λ ls. read_ok (rawlines.Given ls)) (λ ls. tt))
    (chosen (bytes_eq w (codes "made")) (made_of ws) r7 (made ws)
    (chosen (bytes_eq w (codes "show")) (lits_of ws >>= λ ls. read_ok (rawlines.Show ls)) r8 (read_on (lits_of ws) (λ ls. read_ok (rawlines.Show ls)) (λ ls. tt))
    (chosen (bytes_eq w (codes "proof")) (bare_line ws rawlines.Proof) r9 (alone ws rawlines.Proof tt)
    (chosen (bytes_eq w (codes "by")) (by_of ws) r10 (cited ws)
    (chosen (bytes_eq w (codes "hence")) (lit_of ws >>= λ l. read_ok (rawlines.Hence l)) r11 (read_on (lit_of ws) (λ l. read_ok (rawlines.Hence l)) (λ l. tt))
    (chosen (bytes_eq w (codes "let")) (let_of ws >>= λ l. read_ok (rawlines.Let l)) r12 (read_on (let_of ws) (λ l. read_ok (rawlines.Let l)) (λ l. tt))
    (chosen (bytes_eq w (codes "apply")) (apply_of ws >>= λ a. read_ok (rawlines.Apply a)) r13 (read_on (apply_of ws) (λ a. read_ok (rawlines.Apply a)) (λ a. tt))
    (chosen (bytes_eq w (codes "qed")) (names_of ws >>= λ ns. read_ok (rawlines.Qed ns)) r14 (read_on (names_of ws) (λ ns. read_ok (rawlines.Qed ns)) (λ ns. tt))
    (chosen (bytes_eq w (codes "contradiction")) (bare_line ws rawlines.Contradiction) r15 (alone ws rawlines.Contradiction tt)
    (chosen (bytes_eq w (codes "claim")) (lits_of ws >>= λ ls. read_ok (rawlines.Claim ls)) r16 (read_on (lits_of ws) (λ ls. read_ok (rawlines.Claim ls)) (λ ls. tt))
    (chosen (bytes_eq w (codes "superpose")) (superpose_of ws >>= λ s. read_ok (rawlines.Superpose s)) r17 (read_on (superpose_of ws) (λ s. read_ok (rawlines.Superpose s)) (λ s. tt))
    (chosen (bytes_eq w (codes "cases")) (lit_of ws >>= λ l. read_ok (rawlines.Cases l)) r18 (read_on (lit_of ws) (λ l. read_ok (rawlines.Cases l)) (λ l. tt))
    (chosen (bytes_eq w (codes "else")) (bare_line ws rawlines.Else) r19 (alone ws rawlines.Else tt)
    (chosen (bytes_eq w (codes "end")) (bare_line ws rawlines.End) r20 (alone ws rawlines.End tt) tt))))))))))))))))))

-- ---- what a line says of its title

not_title : (f : RawLine) → IsNoTitle (Ok f) → is_title_line (Plain f) ≡ false
not_title (rawlines.Theorem t) h = absurd h
not_title f h = refl

listed_none : (line : ListHead) (ws : List (List ℕ)) (l : BookLine) → line_with_items line ws ≡ Ok l → is_title_line l ≡ false
unfolding line_with_items
listed_none line ws l e = of_reading (λ m. is_title_line m ≡ false) (items_of ws) (λ is. Listed line is) l (λ is k. refl) e

define_none : (ws : List (List ℕ)) (l : BookLine) → define_of ws ≡ Ok l → is_title_line l ≡ false
unfolding define_of
define_none ws l e =
    let t = bind_ok (first_title ws) (λ t. no_word_left t.1 >>= λ none. read_ok (Define t.0)) l e in
    of_reading (λ m. is_title_line m ≡ false) (no_word_left t.0.1) (λ none. Define t.0.0) l (λ none k. refl) t.2

plain_none : (w : List ℕ) (ws : List (List ℕ)) (l : BookLine) → bytes_eq w (codes "theorem") ≡ false → (raw_line_named w ws >>= λ f. read_ok (Plain f)) ≡ Ok l → is_title_line l ≡ false
plain_none w ws l is e =
    of_reading (λ m. is_title_line m ≡ false) (raw_line_named w ws) (λ f. Plain f) l (λ f k. not_title f (subst IsNoTitle k (no_title w ws is))) e

line_none : (w : List ℕ) (ws : List (List ℕ)) (l : BookLine) → bytes_eq w (codes "theorem") ≡ false → line_named w ws ≡ Ok l → is_title_line l ≡ false
unfolding line_named
line_none w ws l is e =
    let P : BookLine → Type 0 = λ m. is_title_line m ≡ false in
    let r5 : Result BookLine FaultKind = raw_line_named w ws >>= λ f. read_ok (Plain f) in
    let placed : Result BookLine FaultKind = placing_of (take 13 ws) >>= λ line. line_with_items line (drop 13 ws) in
    let b4 = bytes_eq w (codes "superpose") && has_item (drop 13 ws) in
    let r4 : Result BookLine FaultKind = cond b4 placed r5 in
    let b3 = bytes_eq w (codes "claim") && has_item ws in
    let r3 : Result BookLine FaultKind = cond b3 (line_with_items list_heads.Claim ws) r4 in
    let b2 = bytes_eq w (codes "show") && has_item ws in
    let r2 : Result BookLine FaultKind = cond b2 (line_with_items list_heads.Show ws) r3 in
    let b1 = bytes_eq w (codes "given") && has_item ws in
    let r1 : Result BookLine FaultKind = cond b1 (line_with_items list_heads.Given ws) r2 in
    either P (bytes_eq w (codes "define")) (define_of ws) r1 l e (define_none ws l) (λ e1.
    either P b1 (line_with_items list_heads.Given ws) r2 l e1 (listed_none list_heads.Given ws l) (λ e2.
    either P b2 (line_with_items list_heads.Show ws) r3 l e2 (listed_none list_heads.Show ws l) (λ e3.
    either P b3 (line_with_items list_heads.Claim ws) r4 l e3 (listed_none list_heads.Claim ws l) (λ e4.
    either P b4 placed r5 l e4
    (λ k. let a = bind_ok (placing_of (take 13 ws)) (λ line. line_with_items line (drop 13 ws)) l k in listed_none a.0 (drop 13 ws) l a.2)
    (plain_none w ws l is)))))

theorem_read : (ws : List (List ℕ)) (f : RawLine) → theorem_line_of ws ≡ Ok f → is_title_line (Plain f) ≡ true
unfolding theorem_line_of
theorem_read ws f e =
    let t = bind_ok (first_title ws) (λ t. no_word_left t.1 >>= λ none. read_ok (rawlines.Theorem t.0)) f e in
    of_reading (λ g. is_title_line (Plain g) ≡ true) (no_word_left t.0.1) (λ none. rawlines.Theorem t.0.0) f (λ none k. refl) t.2

theorem_line : (w : List ℕ) (ws : List (List ℕ)) → bytes_eq w (codes "theorem") ≡ true → line_named w ws ≡ (theorem_line_of ws >>= λ f. read_ok (Plain f))
unfolding line_named raw_line_named
theorem_line w ws is =
    subst (λ (x : List ℕ). line_named x ws ≡ (theorem_line_of ws >>= λ f. read_ok (Plain f))) (sym ((bytes_eq-Decides w (codes "theorem")).0 is)) refl

line_by : (w : List ℕ) (ws : List (List ℕ)) (l : BookLine) (b : Bool) → bytes_eq w (codes "theorem") ≡ b → line_named w ws ≡ Ok l → b ≡ is_title_line l
line_by w ws l true is e =
    of_reading (λ m. true ≡ is_title_line m) (theorem_line_of ws) (λ f. Plain f) l (λ f k. sym (theorem_read ws f k)) (sym (theorem_line w ws is) ∙ e)
line_by w ws l false is e = sym (line_none w ws l is e)

-- by its first word alone
line_title : (words : List (List ℕ)) (l : BookLine) → book_line_of words ≡ Ok l → has_title words ≡ is_title_line l
unfolding book_line_of
line_title [] l e = absurd cc
line_title (w ∷ ws) l e = line_by w ws l (bytes_eq w (codes "theorem")) refl e

-- ---- a line with a title begins a theorem, and each other goes on

-- a theorem comes, not a definition
abbrev says_theorem : PartialItem → Bool
says_theorem (InTheorem o n) = true
says_theorem (InDefinition h n) = false
says_theorem (Defined t) = false

abbrev is_theorem : BookItem → Bool
is_theorem (OfTheorem t) = true
is_theorem (OfNotion n) = false

theorem_begun : (known : Known) (b : Bool) (f : RawLine) (c : PartialItem) → cond b (refusal_of NameTaken) (begins known.theorems f >>= λ o. partial_ok (InTheorem o 0)) ≡ Ok c → says_theorem c ≡ true
theorem_begun known true f c e = absurd cc
theorem_begun known false f c e = of_reading (λ d. says_theorem d ≡ true) (begins known.theorems f) (λ o. InTheorem o 0) c (λ o k. refl) e

definition_begun : (known : Known) (b : Bool) (t : List ℕ) (r : Result (Unit {0}) FaultKind) (c : PartialItem) → cond b (refusal_of NameTaken) (r >>= λ kept. partial_ok (InDefinition (empty_head t) 0)) ≡ Ok c → says_theorem c ≡ false
definition_begun known true t r c e = absurd cc
definition_begun known false t r c e = of_reading (λ d. says_theorem d ≡ false) r (λ kept. InDefinition (empty_head t) 0) c (λ kept k. refl) e

no_theorem_begun : (known : List TitledStatement) (f : RawLine) (o : Open) → is_title_line (Plain f) ≡ false → begins known f ≡ Ok o → ⊥
no_theorem_begun known (rawlines.Theorem t) o h e = absurd cc
no_theorem_begun known f o h e = absurd cc

plain_begun : (known : Known) (f : RawLine) (c : PartialItem) (b : Bool) → is_title_line (Plain f) ≡ b → after_first_line known (Plain f) ≡ Ok c → b ≡ says_theorem c
plain_begun known f c true is e = sym (theorem_begun known (has_notion_title known.notions f) f c e)
plain_begun known f c false is e =
    let free = was_free (has_notion_title known.notions f) (begins known.theorems f >>= λ o. partial_ok (InTheorem o 0)) c e in
    let o = bind_ok (begins known.theorems f) (λ o. partial_ok (InTheorem o 0)) c free.1 in
    absurd (no_theorem_begun known.theorems f o.0 is o.1)

first_kind : (known : Known) (l : BookLine) (c : PartialItem) → after_first_line known l ≡ Ok c → is_title_line l ≡ says_theorem c
first_kind known (Plain f) c e = plain_begun known f c (is_title_line (Plain f)) refl e
first_kind known (Define t) c e =
    sym (definition_begun known (is_taken known t) t (all_kept ((nat_le (length known.notions + 1) most_notions, limits.Notions) ∷ [])) c e)
first_kind known (Listed line is) c e = absurd cc

-- what comes goes on as what it is
counted_kind : (n : ℕ) (b c : PartialItem) → with_more_literals n b ≡ Ok c → says_theorem b ≡ says_theorem c
counted_kind n (InTheorem o m) c e =
    of_reading (λ d. true ≡ says_theorem d) (all_kept ((nat_le (m + n) most_expanded, limits.Expanded) ∷ [])) (λ kept. InTheorem o (m + n)) c (λ kept k. refl) e
counted_kind n (InDefinition h m) c e =
    of_reading (λ d. false ≡ says_theorem d) (all_kept ((nat_le (m + n) most_expanded, limits.Expanded) ∷ [])) (λ kept. InDefinition h (m + n)) c (λ kept k. refl) e
counted_kind n (Defined t) c e = absurd cc

still_kind : (n : ℕ) (o : Open) (c : PartialItem) → still_defined n o ≡ Ok c → says_theorem c ≡ false
still_kind n (Stating h) c e = ap says_theorem (sym (ok_is (InDefinition h n) c e))
still_kind n o c e = absurd cc

ended_kind : (h : Head) (f : RawLine) (c : PartialItem) → ends_definition h f ≡ Ok c → says_theorem c ≡ false
ended_kind h rawlines.End c e = either (λ d. says_theorem d ≡ false) (is_empty h.statement.shown) (refusal_of Malformed) (partial_ok (Defined (notion_of_head h))) c e (λ k. absurd cc) (λ k. ap says_theorem (sym (ok_is (Defined (notion_of_head h)) c k)))
ended_kind h f c e = absurd cc

plain_kind : (known : Known) (b : PartialItem) (f : RawLine) (c : PartialItem) → plain_line known b f ≡ Ok c → says_theorem b ≡ says_theorem c
plain_kind known (InTheorem o n) f c e = of_reading (λ d. true ≡ says_theorem d) (line_after known.theorems (Some o) f) (λ m. InTheorem m n) c (λ m k. refl) e
plain_kind known (InDefinition h n) f c e =
    let more : Result PartialItem FaultKind = line_after known.theorems (Some (Stating h)) f >>= λ o. still_defined n o in
    sym (either (λ d. says_theorem d ≡ false) (says_more f) more (ends_definition h f) c e
    (λ k. let o = bind_ok (line_after known.theorems (Some (Stating h)) f) (λ o. still_defined n o) c k in still_kind n o.0 c o.2)
    (ended_kind h f c))
plain_kind known (Defined t) f c e = absurd cc

then_counted : (known : Known) (b : PartialItem) (w : RawLine × ℕ) (c : PartialItem) → (plain_line known b w.0 >>= λ d. with_more_literals w.1 d) ≡ Ok c → says_theorem b ≡ says_theorem c
then_counted known b w c e =
    let d = bind_ok (plain_line known b w.0) (λ d. with_more_literals w.1 d) c e in
    plain_kind known b w.0 d.0 d.1 ∙ counted_kind w.1 d.0 c d.2

listed_kind : (known : Known) (b : PartialItem) (line : ListHead) (is : List RawItem) (c : PartialItem) → after_listed_line known b line is ≡ Ok c → says_theorem b ≡ says_theorem c
listed_kind known (InTheorem o n) line is c e =
    let w = bind_ok (written_out known o line is) (λ w. plain_line known (InTheorem o n) w.0 >>= λ d. with_more_literals w.1 d) c e in
    then_counted known (InTheorem o n) w.0 c w.2
listed_kind known (InDefinition h n) line is c e =
    let p = passed (is_show line) (written_out known (Stating h) line is >>= λ w. plain_line known (InDefinition h n) w.0 >>= λ d. with_more_literals w.1 d) c e in
    let w = bind_ok (written_out known (Stating h) line is) (λ w. plain_line known (InDefinition h n) w.0 >>= λ d. with_more_literals w.1 d) c p.1 in
    then_counted known (InDefinition h n) w.0 c w.2
listed_kind known (Defined t) line is c e = absurd cc

no_next : (known : List TitledStatement) (o : Open) (t : List ℕ) (m : Open) → next known o (rawlines.Theorem t) ≡ Ok m → ⊥
no_next known (Stating h) t m e = absurd cc
no_next known (Proving h around steps) t m e = absurd cc
no_next known (Splitting h around) t m e = absurd cc
no_next known (Proved h script) t m e = absurd cc
no_next known (Ended e) t m k = absurd cc

no_title_inside : (known : Known) (b : PartialItem) (t : List ℕ) (c : PartialItem) → plain_line known b (rawlines.Theorem t) ≡ Ok c → ⊥
no_title_inside known (InTheorem o n) t c e =
    let m = bind_ok (line_after known.theorems (Some o) (rawlines.Theorem t)) (λ m. partial_ok (InTheorem m n)) c e in
    let a = bind_ok (next known.theorems o (rawlines.Theorem t)) (λ m. all_kept (limits_kept known.theorems (rawlines.Theorem t) m) >>= λ kept. open_ok m) m.0 m.1 in
    no_next known.theorems o t a.0 a.1
no_title_inside known (InDefinition h n) t c e = absurd cc
no_title_inside known (Defined s) t c e = absurd cc

plain_later : (known : Known) (b : PartialItem) (f : RawLine) (c : PartialItem) → plain_line known b f ≡ Ok c → is_title_line (Plain f) ≡ false
plain_later known b (rawlines.Theorem t) c e = absurd (no_title_inside known b t c e)
plain_later known b f c e = refl

later_kind : (known : Known) (b : PartialItem) (l : BookLine) (c : PartialItem) → next_line known b l ≡ Ok c → (is_title_line l ≡ false) × (says_theorem b ≡ says_theorem c)
later_kind known b (Plain f) c e = (plain_later known b f c e, plain_kind known b f c e)
later_kind known b (Define t) c e = absurd cc
later_kind known b (Listed line is) c e = (refl, listed_kind known b line is c e)

-- a line that says nothing has none
skipped_title : (words : List (List ℕ)) → is_skipped words ≡ true → has_title words ≡ false
skipped_title [] e = refl
skipped_title ([] ∷ ws) e = absurd cc
skipped_title ((b ∷ bs) ∷ ws) e = subst (λ (x : ℕ). bytes_eq (x ∷ bs) (codes "theorem") ≡ false) (sym (eqb-true b 35 e)) refl

-- ---- the lines of a theorem or a definition

abbrev Answer : Type 0
Answer = Result (Option (BookItem × Rest)) BookFault

abbrev found : BookItem → Rest → Answer
found i rest = Ok (Some (i, rest))

abbrev none_left : Answer
none_left = Ok None

-- how many titles come up to the end of this, by what has come of it; and it is what has come
abbrev begun : Option PartialItem → BookItem → ℕ
begun None i = one_if (is_theorem i)
begun (Some c) i = 0

abbrev IsOf : Option PartialItem → BookItem → Type 0
IsOf None i = Unit {0}
IsOf (Some c) i = says_theorem c ≡ is_theorem i

-- what a line says of what comes next: it has a title where a theorem begins, and is of what has come
line_begun : (known : Known) (s : Option PartialItem) (words : List (List ℕ)) (c : PartialItem) (i : BookItem) → item_after_words known s words ≡ Ok c → says_theorem c ≡ is_theorem i → (one_if (has_title words) ≡ begun s i) × IsOf s i
line_begun known None words c i e k =
    let l = bind_ok (book_line_of words) (λ l. after_first_line known l) c e in
    (ap one_if (line_title words l.0 l.1 ∙ first_kind known l.0 c l.2 ∙ k), tt)
line_begun known (Some b) words c i e k =
    let l = bind_ok (book_line_of words) (λ l. next_line known b l) c e in
    let p = later_kind known b l.0 c l.2 in
    (ap one_if (line_title words l.0 l.1 ∙ p.0), p.1 ∙ k)

put_is : (n : ℕ) (r : Result PartialItem FaultKind) (c : PartialItem) → put_at n r ≡ Ok c → r ≡ Ok c
put_is n (Ok x) c e = cc
put_is n (Err k) c e = absurd cc

ended_theorem : (o : Option TheoremView) (i : BookItem) → option_map OfTheorem o ≡ Some i → true ≡ is_theorem i
ended_theorem None i e = absurd cc
ended_theorem (Some t) i e = let j : OfTheorem t ≡ i = cc in ap is_theorem j

whole_kind : (c : PartialItem) (i : BookItem) → item_ended c ≡ Some i → says_theorem c ≡ is_theorem i
whole_kind (InTheorem o n) i e = ended_theorem (theorem_ended o) i e
whole_kind (InDefinition h n) i e = absurd cc
whole_kind (Defined t) i e = let j : OfNotion t ≡ i = cc in ap is_theorem j

-- the count up to the end, and the lines after it
pub record Counts (s : Option PartialItem) (lines : Rest) (i : BookItem) (rest : Rest) : Type 0 where
  pub count : titles lines ≡ begun s i + titles rest
  pub same : IsOf s i

count_found : (known : Known) (last : ℕ) (s : Option PartialItem) (lines : Rest) (i : BookItem) (rest : Rest) → item_from known last s lines ≡ found i rest → Counts s lines i rest
count_found known last s [] i rest h = absurd (at_end_found last s i rest h)
count_found known last s (Err f ∷ lines) i rest h = absurd cc
count_found known last s (Ok l ∷ lines) i rest h =
    let words = tokens_of l.bytes in
    let all : titles (Ok l ∷ lines) ≡ one_if (has_title words) + titles lines = refl in
    by_skip (Counts s (Ok l ∷ lines) i rest) (is_skipped words) (item_from known last s lines) (put_at l.number (item_after_words known s words) >>= λ c. whole_or (item_ended c) lines (item_from known last (Some c) lines)) (found i rest) h
    (λ skip e.
    let none : one_if (has_title words) ≡ 0 = ap one_if (skipped_title words skip) in
    let more = count_found known last s lines i rest e in
    record { count = omega (arith, all, none, more.count); same = more.same })
    (λ q.
    let a = bind_ok (put_at l.number (item_after_words known s words)) (λ c. whole_or (item_ended c) lines (item_from known last (Some c) lines)) (Some (i, rest)) q in
    let said = put_is l.number (item_after_words known s words) a.0 a.1 in
    by_found (Counts s (Ok l ∷ lines) i rest) (item_ended a.0) i lines rest (item_from known last (Some a.0) lines) a.2
    (λ ends e.
    let b = line_begun known s words a.0 i said (whole_kind a.0 i ends) in
    record { count = omega (arith, all, b.0, ap titles e); same = b.1 })
    (λ e.
    let more = count_found known last (Some a.0) lines i rest e in
    let later : titles lines ≡ 0 + titles rest = more.count in
    let b = line_begun known s words a.0 i said more.same in
    record { count = omega (arith, all, b.0, later); same = b.1 }))

-- the lines do not end inside a theorem or a definition
never_none : (known : Known) (last : ℕ) (c : PartialItem) (lines : Rest) → item_from known last (Some c) lines ≡ none_left → ⊥
never_none known last c [] h = absurd cc
never_none known last c (Err f ∷ lines) h = absurd cc
never_none known last c (Ok l ∷ lines) h =
    let words = tokens_of l.bytes in
    by_skip ⊥ (is_skipped words) (item_from known last (Some c) lines) (put_at l.number (item_after_words known (Some c) words) >>= λ d. whole_or (item_ended d) lines (item_from known last (Some d) lines)) none_left h
    (λ skip e. never_none known last c lines e)
    (λ q.
    let a = bind_ok (put_at l.number (item_after_words known (Some c) words)) (λ d. whole_or (item_ended d) lines (item_from known last (Some d) lines)) None q in
    by_none ⊥ (item_ended a.0) lines (item_from known last (Some a.0) lines) a.2 (λ e. never_none known last a.0 lines e))

-- and where none is read any more, no line has a title
count_end : (known : Known) (last : ℕ) (lines : Rest) → item_from known last None lines ≡ none_left → titles lines ≡ 0
count_end known last [] h = refl
count_end known last (Err f ∷ lines) h = absurd cc
count_end known last (Ok l ∷ lines) h =
    let words = tokens_of l.bytes in
    let all : titles (Ok l ∷ lines) ≡ one_if (has_title words) + titles lines = refl in
    by_skip (titles (Ok l ∷ lines) ≡ 0) (is_skipped words) (item_from known last None lines) (put_at l.number (item_after_words known None words) >>= λ c. whole_or (item_ended c) lines (item_from known last (Some c) lines)) none_left h
    (λ skip e.
    let none : one_if (has_title words) ≡ 0 = ap one_if (skipped_title words skip) in
    omega (arith, all, none, count_end known last lines e))
    (λ q.
    let a = bind_ok (put_at l.number (item_after_words known None words)) (λ c. whole_or (item_ended c) lines (item_from known last (Some c) lines)) None q in
    absurd (by_none ⊥ (item_ended a.0) lines (item_from known last (Some a.0) lines) a.2 (λ e. never_none known last a.0 lines e)))

-- ---- the whole

-- definitions have none
count_defined : (last : ℕ) (known : Known) (lines : Rest) (ns : List Titled) (now : Known) (rest : Rest) → Defines last known lines ns now rest → titles lines ≡ titles rest
count_defined last known lines [] now rest d = ap titles d.1
count_defined last known lines (n ∷ ns) now rest d =
    let none : titles lines ≡ 0 + titles d.0 = (count_found known last None lines (OfNotion n) d.0 d.1).count in
    omega (arith, none, count_defined last (and_notion known n) d.0 ns now rest d.2)

count_taken : (last : ℕ) (known : Known) (lines : Rest) (ts : List TheoremView) (now : Known) (rest : Rest) → Takes last known lines ts now rest → titles lines ≡ length ts + titles rest
count_taken last known lines [] now rest h = omega (arith, count_defined last known lines h.notions now rest h.defines)
count_taken last known lines (t ∷ ts) now rest h =
    let before = count_defined last known lines h.2.notions h.0 h.1 h.2.defines in
    let one : titles h.1 ≡ 1 + titles h.3 = (count_found h.0 last None h.1 (OfTheorem t) h.3 h.4).count in
    omega (arith, before, one, count_taken last (and_theorem h.0 t) h.3 ts now rest h.6)

-- an accepted book has as many titles as theorems
pub accepted_titles : (lines : Rest) (ts : List TheoremView) (n : ℕ) → IsOutcome lines ts (Accepted n) → titles lines ≡ n
accepted_titles lines ts n h =
    omega (
      arith,
      count_taken (end_line_number lines) nothing_known lines ts h.known h.rest h.begins,
      count_end h.known (end_line_number lines) h.rest h.ends.0,
      known_grows (end_line_number lines) nothing_known lines ts h.known h.rest h.begins,
      h.ends.1,
    )
