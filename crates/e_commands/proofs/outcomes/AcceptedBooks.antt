-- A book that is accepted has no line with a fault, and so no byte past its limit.
use Rattle.std.proofs.Common.{◌≡◌, ℕ, zero, suc, ◌+◌, ◌<◌, ◌≤◌, Bool, true, false, cond, ltb, List, [], ◌∷◌, ◌++◌, length, take, drop, replicate, inl, inr, Option, Some, None, Result, Ok, Err, refl, sym, ap, subst, arith, length-append, length-drop, length-take-le}
use Rattle.std.specs.List.{position_or_len}
use Rattle.std.proofs.lemmas.List.{length-replicate}
use Rattle.std.proofs.lemmas.Bool.{lt-ltb, cases_lt}
use Rattle.e_text.specs.declared.line.LineEnd.{LineEnd}
use Rattle.e_text.specs.declared.line.LineEnd.TheVariants.{TextEnd}
use Rattle.e_text.specs.declared.line.LineFault.{LineFault}
use Rattle.e_text.specs.Tokens.{tokens_of}
use Rattle.e_text.specs.Lines.{is_lf, Bounds, Spot, LineView, HaveNoFault, line_or_fault, line_before_lf, split_line_end, lines_of}
use Rattle.e_text.proofs.FirstLine.{then_lines}
use Rattle.e_text.proofs.LinesOfTexts.{lines_of-closed, lines_of-open, next_spot}
use Rattle.e_line.specs.declared.fault.BookFault.{BookFault}
use Rattle.e_names.specs.declared.known.Known.{Known}
use Rattle.e_line.specs.Reading.{◌>>=◌}
use Rattle.e_book.specs.TheoremViews.{TheoremView}
use Rattle.e_book.specs.Grammar.{is_skipped, put_at, Rest}
use Rattle.e_names.specs.Taken.{nothing_known}
use Rattle.e_names.specs.Titled.{Titled}
use Rattle.e_book.specs.Definitions.{BookItem, OfTheorem, OfNotion, PartialItem, item_after_words, item_ended, whole_or, at_end, item_from}
use Rattle.e_line.proofs.base.Bound.{bind_ok}
use Rattle.e_commands.specs.Outcome.{and_theorem, and_notion, Defines, Takes, Accepted, IsOutcome, end_line_number, lines_of_book}
use Rattle.e_commands.specs.declared.blocks.BookResult.{BookResult}
use Rattle.e_commands.specs.declared.blocks.BookResult.TheVariants.{All, Stopped, Faulty}
use Rattle.e_commands.specs.Answers.{theorems_of}
use Rattle.e_commands.specs.inner.BookResults.{BookResultIs, IsAll}

abbrev Answer : Type 0
Answer = Result (Option (BookItem × Rest)) BookFault

abbrev found : BookItem → Rest → Answer
found i rest = Ok (Some (i, rest))

abbrev none_left : Answer
none_left = Ok None

abbrev pair : BookItem → Rest → BookItem × Rest
pair i rest = (i, rest)

pub same_found : (i j : BookItem) (xs ys : Rest) → found i xs ≡ found j ys → pair i xs ≡ pair j ys
same_found i j xs ys e = cc

pub at_end_found : (last : ℕ) (s : Option PartialItem) (i : BookItem) (rest : Rest) → at_end last s ≡ found i rest → ⊥
at_end_found last None i rest e = cc
at_end_found last (Some c) i rest e = cc

-- where something is read, it ends here, or it goes on
pub by_found : (P : Type 0) (o : Option BookItem) (i : BookItem) (lines rest : Rest) (r : Answer) → whole_or o lines r ≡ found i rest → (o ≡ Some i → lines ≡ rest → P) → (r ≡ found i rest → P) → P
by_found P None i lines rest r h ends more = more h
by_found P (Some j) i lines rest r h ends more =
    let e = same_found j i lines rest h in
    ends (ap (λ (p : BookItem × Rest). Some p.0) e) (ap (λ (p : BookItem × Rest). p.1) e)

-- where none is read, it goes on
pub by_none : (P : Type 0) (o : Option BookItem) (lines : Rest) (r : Answer) → whole_or o lines r ≡ none_left → (r ≡ none_left → P) → P
by_none P None lines r h more = more h
by_none P (Some j) lines r h more = absurd cc

pub by_skip : (P : Type 0) (b : Bool) (r q a : Answer) → cond b r q ≡ a → (b ≡ true → r ≡ a → P) → (q ≡ a → P) → P
by_skip P true r q a h skipped read = skipped refl h
by_skip P false r q a h skipped read = read h

-- where something is read, the lines are good if those after it are
good_before : (known : Known) (last : ℕ) (s : Option PartialItem) (lines : Rest) (i : BookItem) (rest : Rest) → item_from known last s lines ≡ found i rest → HaveNoFault rest → HaveNoFault lines
good_before known last s [] i rest h good = absurd (at_end_found last s i rest h)
good_before known last s (Err f ∷ lines) i rest h good = absurd cc
good_before known last s (Ok l ∷ lines) i rest h good =
    let words = tokens_of l.bytes in
    by_skip (HaveNoFault lines) (is_skipped words) (item_from known last s lines) (put_at l.number (item_after_words known s words) >>= λ c. whole_or (item_ended c) lines (item_from known last (Some c) lines)) (found i rest) h
    (λ skip e. good_before known last s lines i rest e good)
    (λ q. let a = bind_ok (put_at l.number (item_after_words known s words)) (λ c. whole_or (item_ended c) lines (item_from known last (Some c) lines)) (Some (i, rest)) q in
    by_found (HaveNoFault lines) (item_ended a.0) i lines rest (item_from known last (Some a.0) lines) a.2 (λ ends e. subst HaveNoFault (sym e) good) (λ e. good_before known last (Some a.0) lines i rest e good))

-- where none is read any more, all lines are good
good_at_end : (known : Known) (last : ℕ) (s : Option PartialItem) (lines : Rest) → item_from known last s lines ≡ none_left → HaveNoFault lines
good_at_end known last s [] h = tt
good_at_end known last s (Err f ∷ lines) h = absurd cc
good_at_end known last s (Ok l ∷ lines) h =
    let words = tokens_of l.bytes in
    by_skip (HaveNoFault lines) (is_skipped words) (item_from known last s lines) (put_at l.number (item_after_words known s words) >>= λ c. whole_or (item_ended c) lines (item_from known last (Some c) lines)) none_left h
    (λ skip e. good_at_end known last s lines e)
    (λ q. let a = bind_ok (put_at l.number (item_after_words known s words)) (λ c. whole_or (item_ended c) lines (item_from known last (Some c) lines)) None q in
    by_none (HaveNoFault lines) (item_ended a.0) lines (item_from known last (Some a.0) lines) a.2 (λ e. good_at_end known last (Some a.0) lines e))

good_defined : (last : ℕ) (known : Known) (lines : Rest) (ns : List Titled) (now : Known) (rest : Rest) → Defines last known lines ns now rest → HaveNoFault rest → HaveNoFault lines
good_defined last known lines [] now rest d good = subst HaveNoFault (sym d.1) good
good_defined last known lines (n ∷ ns) now rest d good =
    good_before known last None lines (OfNotion n) d.0 d.1 (good_defined last (and_notion known n) d.0 ns now rest d.2 good)

good_taken : (last : ℕ) (known : Known) (lines : Rest) (ts : List TheoremView) (now : Known) (rest : Rest) → Takes last known lines ts now rest → HaveNoFault rest → HaveNoFault lines
good_taken last known lines [] now rest h good = good_defined last known lines h.notions now rest h.defines good
good_taken last known lines (t ∷ ts) now rest h good =
    good_defined last known lines h.2.notions h.0 h.1 h.2.defines
    (good_before h.0 last None h.1 (OfTheorem t) h.3 h.4 (good_taken last (and_theorem h.0 t) h.3 ts now rest h.6 good))

pub good_accepted : (lines : Rest) (ts : List TheoremView) (n : ℕ) → IsOutcome lines ts (Accepted n) → HaveNoFault lines
good_accepted lines ts n h = good_taken _ nothing_known lines ts h.known h.rest h.begins (good_at_end h.known (end_line_number lines) None h.rest h.ends.0)

-- ---- a text without a faulty line is short enough

not_passed : (w : Bounds) (at : Spot) (bytes : List ℕ) (end : LineEnd) (later : ℕ) (rest : Rest) → w.most < later → HaveNoFault (then_lines (line_or_fault w at bytes end later) rest) → ⊥
not_passed w at bytes end later rest far good =
    let test : ltb w.most later ≡ true = lt-ltb _ _ far in
    rw test at good

not_passed_alone : (w : Bounds) (at : Spot) (bytes : List ℕ) (end : LineEnd) (later : ℕ) → w.most < later → HaveNoFault (line_or_fault w at bytes end later ∷ []) → ⊥
not_passed_alone w at bytes end later far good =
    let test : ltb w.most later ≡ true = lt-ltb _ _ far in
    rw test at good

pub good_rest : (r : Result LineView LineFault) (rest : Rest) → HaveNoFault (then_lines r rest) → HaveNoFault rest
good_rest (Ok l) rest h = h
good_rest (Err f) rest h = absurd h

pub short_by_size : (size : ℕ) (w : Bounds) (at : Spot) (text : List ℕ) → length text ≤ size → at.before ≤ w.most → HaveNoFault (lines_of w at text) → at.before + length text ≤ w.most
short_by_size zero w at [] le within good = omega arith
short_by_size zero w at (b ∷ bs) le within good = absurd (omega arith)
short_by_size (suc size) w at [] le within good = omega arith
short_by_size (suc size) w at (b ∷ bs) le within good =
    let text : List ℕ = b ∷ bs in
    let n = position_or_len is_lf text in
    elim (cases_lt n (length text)) [
      | inl lt ↦
          let part = take n text in
          let len : length part ≡ n = length-take-le n text (omega arith) in
          let after = drop (n + 1) text in
          let split = subst HaveNoFault (lines_of-closed w at text lt) good in
          elim (cases_lt w.most (at.before + length part + 1)) [
            | inl far ↦ absurd (not_passed w at (split_line_end part []).0 (split_line_end part []).1 (at.before + length part + 1) (lines_of w (next_spot at (length part)) after) far split)
            | inr near ↦
                let more = short_by_size size w (next_spot at (length part)) after (omega (arith, length-drop (n + 1) text)) near (good_rest (line_before_lf w at part) (lines_of w (next_spot at (length part)) after) split) in
                omega (arith, more, length-drop (n + 1) text)
          ]
      | inr le' ↦
          elim (cases_lt w.most (at.before + length text)) [
            | inl far ↦ absurd (not_passed_alone w at text TextEnd (at.before + length text) far (subst HaveNoFault (lines_of-open w at text (omega arith) le') good))
            | inr near ↦ near
          ]
    ]

-- an accepted book has at most as many bytes as a book may have
pub accepted_is_short : (text : List ℕ) (ts : List TheoremView) (n : ℕ) → IsOutcome (lines_of_book text) ts (Accepted n) → length text ≤ 4194304
accepted_is_short text ts n h =
    omega (arith, short_by_size (length text) (record { longest = 1600; most = 4194304 }) (record { line = 1; before = 0 }) text (omega arith) (omega arith) (good_accepted (lines_of_book text) ts n h))

-- the same, by how its blocks end
pub all_is_short : (old new : Option (List ℕ)) (text : List ℕ) (book_result : BookResult) → IsAll book_result → BookResultIs (lines_of_book text) old new book_result → length text ≤ 4194304
all_is_short old new text (All n s) a h =
    accepted_is_short text (theorems_of h.0.derived) n (record { known = h.0.known; rest = h.0.rest; begins = h.0.begins; ends = h.0.holds })
all_is_short old new text (Stopped title stop) a h = absurd a
all_is_short old new text (Faulty f) a h = absurd a

too_long : (old new : Option (List ℕ)) (read left : List ℕ) (book_result : BookResult) → 4194304 < length left → IsAll book_result → BookResultIs (lines_of_book (read ++ left)) old new book_result → ⊥
too_long old new read left book_result long a h = absurd (omega (arith, long, all_is_short old new (read ++ left) book_result a h, length-append read left))

-- as many bytes as one likes
long_text : (n : ℕ) → (left : List ℕ) × (length left ≡ n)
long_text n = (replicate n 0, length-replicate n 0)

-- so of no front of a book all theorems are taken, whatever comes after it
pub never_all : (old new : Option (List ℕ)) (read : List ℕ) (book_result : BookResult) → ((left : List ℕ) → BookResultIs (lines_of_book (read ++ left)) old new book_result) → IsAll book_result → ⊥
never_all old new read book_result h a =
    let left = long_text 4194305 in
    too_long old new read left.0 book_result (omega (arith, left.1)) a (h left.0)
