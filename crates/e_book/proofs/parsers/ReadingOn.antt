-- Reading on from what has come of a theorem or of a definition, line by line, whatever lines come.
use Rattle.std.proofs.Common.{◌≡◌, ℕ, Bool, true, false, cond, List, [], ◌∷◌, ◌++◌, Option, Some, None, Result, Ok, Err, refl, sym, ap, subst, ◌∙◌, append_assoc}
use Rattle.std.specs.Prelude.{IfOk, OnOk, IfSome, OnSome}
use Rattle.std.proofs.lemmas.List.{append-nil}
use Rattle.e_text.specs.Tokens.{tokens_of}
use Rattle.e_text.specs.Lines.{LineView, HaveNoFault}
use Rattle.e_text.specs.declared.line.LineFault.{LineFault}
use Rattle.e_line.specs.declared.fault.FaultKind.{FaultKind}
use Rattle.e_line.specs.declared.fault.FaultKind.TheVariants as kinds
use Rattle.e_line.specs.declared.fault.LineError.{LineError}
use Rattle.e_line.specs.declared.fault.LineError.TheVariants as line_errors
use Rattle.e_line.specs.declared.fault.BookFault.{BookFault}
use Rattle.e_line.specs.declared.fault.BookFault.TheVariants as faults
use Rattle.e_book.specs.declared.partial_item.PartialItem.{PartialItem}
use Rattle.e_book.specs.declared.item.Item.{Item}
use Rattle.e_line.specs.Faults.{error_at, book_fault_of}
use Rattle.e_line.specs.Reading.{Fails, ◌>>=◌}
use Rattle.e_names.specs.declared.known.Known.{Known}
use Rattle.e_names.specs.Titled.{are_notions}
use Rattle.e_book.specs.Grammar.{is_skipped, put_at, BookFails}
use Rattle.e_book.specs.Definitions.{BookItem, HasWellFormedView, view_of}
use Rattle.e_book.specs.inner.Machine.{line_step, is_done, partial_after, FitsPartial, item_of_partial, at_end, item_from, IsBegun, IsEnded, has_ended, TakesLine, ReadsOn, end_of}
use Rattle.e_book.proofs.parsers.PartialInvariants.{read_is_well_formed}

abbrev Rest : Type 0
Rest = List (Result LineView LineFault)

abbrev Answer : Type 0
Answer = Option (BookItem × Rest)

abbrev answered : Answer → Result Answer BookFault
answered x = Ok x

abbrev pair : BookItem → Rest → Answer
pair i rest = Some (i, rest)

abbrev some_partial : PartialItem → Result (Option PartialItem) FaultKind
some_partial c = Ok (Some c)

abbrev no_partial : Result (Option PartialItem) FaultKind
no_partial = Ok None

-- ---- one line, unfolded

on_true : {A : Type 0} (b : Bool) (x y : A) → b ≡ true → cond b x y ≡ x
on_true true x y h = refl
on_true false x y h = absurd cc

on_false : {A : Type 0} (b : Bool) (x y : A) → b ≡ false → cond b x y ≡ y
on_false true x y h = absurd cc
on_false false x y h = refl

-- what its words make of what has come
abbrev put : Option PartialItem → LineView → Known → Result PartialItem BookFault
put old l known = put_at l.number (line_step known old (tokens_of l.bytes))

-- what follows
abbrev then_on : Known → ℕ → Rest → PartialItem → Result Answer BookFault
then_on known last more d = cond (is_done d) (answered (pair (item_of_partial d) more)) (item_from known last (Some d) more)

skipped : (known : Known) (last : ℕ) (old : Option PartialItem) (l : LineView) (more : Rest) → is_skipped (tokens_of l.bytes) ≡ true → item_from known last old (Ok l ∷ more) ≡ item_from known last old more
skipped known last old l more h =
    on_true (is_skipped (tokens_of l.bytes)) (item_from known last old more) (put old l known >>= (λ d. then_on known last more d)) h

worded : (known : Known) (last : ℕ) (old : Option PartialItem) (l : LineView) (more : Rest) → is_skipped (tokens_of l.bytes) ≡ false → item_from known last old (Ok l ∷ more) ≡ (put old l known >>= (λ d. then_on known last more d))
worded known last old l more h =
    on_false (is_skipped (tokens_of l.bytes)) (item_from known last old more) (put old l known >>= (λ d. then_on known last more d)) h

-- the words made this parser
worded_as : (known : Known) (last : ℕ) (old : Option PartialItem) (l : LineView) (more : Rest) (d : PartialItem) → is_skipped (tokens_of l.bytes) ≡ false → line_step known old (tokens_of l.bytes) ≡ Ok d → item_from known last old (Ok l ∷ more) ≡ then_on known last more d
worded_as known last old l more d h e =
    worded known last old l more h ∙ ap (λ (r : Result PartialItem FaultKind). put_at l.number r >>= (λ x. then_on known last more x)) e

-- ---- faults

-- a fault that is the answer
pub book_fails : (f : BookFault) (q : Result Answer BookFault) → q ≡ Err f → BookFails f q
book_fails faults.NoMemory q h = tt
book_fails (faults.Malformed line) q h = h
book_fails (faults.UnknownName line) q h = h
book_fails (faults.NameTaken line) q h = h
book_fails (faults.WrongSort line) q h = h
book_fails (faults.Limit line what) q h = h
book_fails (faults.Unended line) q h = h

-- an error, at its line
fails_at : (n : ℕ) (error : LineError) (r : Result PartialItem FaultKind) → Fails error r → BookFails (error_at n error) (put_at n r)
fails_at n line_errors.NoMemory r h = tt
fails_at n (line_errors.Fault kinds.Malformed) r h = ap (λ (x : Result PartialItem FaultKind). put_at n x) h
fails_at n (line_errors.Fault kinds.UnknownName) r h = ap (λ (x : Result PartialItem FaultKind). put_at n x) h
fails_at n (line_errors.Fault kinds.NameTaken) r h = ap (λ (x : Result PartialItem FaultKind). put_at n x) h
fails_at n (line_errors.Fault kinds.WrongSort) r h = ap (λ (x : Result PartialItem FaultKind). put_at n x) h
fails_at n (line_errors.Fault (kinds.Limit what)) r h = ap (λ (x : Result PartialItem FaultKind). put_at n x) h
fails_at n (line_errors.Fault kinds.Unended) r h = ap (λ (x : Result PartialItem FaultKind). put_at n x) h

-- what fails is not gone on with
fails_on : (f : BookFault) (q : Result PartialItem BookFault) (then : PartialItem → Result Answer BookFault) → BookFails f q → BookFails f (q >>= then)
fails_on faults.NoMemory q then h = tt
fails_on (faults.Malformed line) q then h = ap (λ (r : Result PartialItem BookFault). r >>= then) h
fails_on (faults.UnknownName line) q then h = ap (λ (r : Result PartialItem BookFault). r >>= then) h
fails_on (faults.NameTaken line) q then h = ap (λ (r : Result PartialItem BookFault). r >>= then) h
fails_on (faults.WrongSort line) q then h = ap (λ (r : Result PartialItem BookFault). r >>= then) h
fails_on (faults.Limit line what) q then h = ap (λ (r : Result PartialItem BookFault). r >>= then) h
fails_on (faults.Unended line) q then h = ap (λ (r : Result PartialItem BookFault). r >>= then) h

-- ---- what has come after a line

from_some : (r : Result PartialItem FaultKind) (c : PartialItem) → (r >>= λ d. some_partial d) ≡ some_partial c → r ≡ Ok c
from_some (Ok d) c e = cc
from_some (Err k) c e = absurd cc

from_none : (r : Result PartialItem FaultKind) → (r >>= λ d. some_partial d) ≡ no_partial → ⊥
from_none (Ok d) e = absurd cc
from_none (Err k) e = absurd cc

fails_before : (error : LineError) (r : Result PartialItem FaultKind) → Fails error (r >>= λ d. some_partial d) → Fails error r
fails_before line_errors.NoMemory r h = tt
fails_before (line_errors.Fault f) (Ok d) h = absurd cc
fails_before (line_errors.Fault f) (Err k) h = cc

-- ---- what a line makes of what has come

pub takes_skipped : (known : Known) (old : Option PartialItem) (l : LineView) → is_skipped (tokens_of l.bytes) ≡ true → TakesLine known old l (Ok false) old
takes_skipped known old l h = λ last more. skipped known last old l more h

-- it goes on, or ends
pub takes_words : (known : Known) (old mid : Option PartialItem) (l : LineView) (ended : Bool) → is_skipped (tokens_of l.bytes) ≡ false → partial_after known old (tokens_of l.bytes) ≡ Ok mid → ended ≡ has_ended mid → TakesLine known old l (Ok ended) mid
takes_words known old None l ended h e w = absurd (from_none (line_step known old (tokens_of l.bytes)) e)
takes_words known old (Some c) l false h e w =
    λ last more. worded_as known last old l more c h (from_some (line_step known old (tokens_of l.bytes)) c e) ∙ on_false (is_done c) (answered (pair (item_of_partial c) more)) (item_from known last (Some c) more) (sym w)
takes_words known old (Some c) l true h e w = (
  sym w,
  λ last more. worded_as known last old l more c h (from_some (line_step known old (tokens_of l.bytes)) c e) ∙ on_true (is_done c) (answered (pair (item_of_partial c) more)) (item_from known last (Some c) more) (sym w),
)

-- it fails
pub takes_fault : (known : Known) (old new : Option PartialItem) (l : LineView) (error : LineError) → is_skipped (tokens_of l.bytes) ≡ false → Fails error (partial_after known old (tokens_of l.bytes)) → TakesLine known old l (Err (error_at l.number error)) new
takes_fault known old new l error h w =
    let r = line_step known old (tokens_of l.bytes) in
    let f = error_at l.number error in
    λ last more. subst (λ (q : Result Answer BookFault). BookFails f q) (sym (worded known last old l more h)) (fails_on f (put old l known) (λ d. then_on known last more d) (fails_at l.number error r (fails_before error r w)))

pub fits_on : (known : Known) (mid new : Option PartialItem) (i : Option Item) → IsEnded mid i new → IfSome mid (FitsPartial known) → IfSome new (FitsPartial known)
fits_on known None new i h f = subst (λ (c : Option PartialItem). IfSome c (FitsPartial known)) (sym h.1) tt
fits_on known (Some c) new None h f = subst (λ (c : Option PartialItem). IfSome c (FitsPartial known)) (sym h.1) f
fits_on known (Some c) new (Some i) h f = subst (λ (c : Option PartialItem). IfSome c (FitsPartial known)) (sym h.2) tt

-- ---- line after line

-- to read on through these lines is to read on through those
abbrev pub Alike : Known → Option PartialItem → Rest → Option PartialItem → Rest → Type 0
Alike known old lines new left = (last : ℕ) (more : Rest) → item_from known last old (lines ++ more) ≡ item_from known last new (left ++ more)

-- through the first of what is left
through : (known : Known) (old mid : Option PartialItem) (lines here left : Rest) (l : LineView) → here ≡ Ok l ∷ left → Alike known old lines mid here
    → (last : ℕ) (more : Rest) → item_from known last old (lines ++ more) ≡ item_from known last mid (Ok l ∷ (left ++ more))
through known old mid lines here left l e h last more = h last more ∙ ap (λ (ls : Rest). item_from known last mid (ls ++ more)) e

pub alike_more : (known : Known) (old mid new : Option PartialItem) (lines here left : Rest) (l : LineView) → here ≡ Ok l ∷ left → Alike known old lines mid here → TakesLine known mid l (Ok false) new → Alike known old lines new left
alike_more known old mid new lines here left l e h t = λ last more. through known old mid lines here left l e h last more ∙ t last (left ++ more)

pub good_more : (lines here left : Rest) (l : LineView) → here ≡ Ok l ∷ left → (HaveNoFault here → HaveNoFault lines) → HaveNoFault left → HaveNoFault lines
good_more lines here left l e good g = good (subst HaveNoFault (sym e) g)

-- the last line of it: what they make is taken out
both : (b : Bool) → b ≡ true → b ≡ false → ⊥
both true h k = absurd cc
both false h k = absurd cc

pub ends_item : (known : Known) (old mid done new : Option PartialItem) (lines here left : Rest) (l : LineView) (o : Option Item) → here ≡ Ok l ∷ left → Alike known old lines mid here → (HaveNoFault here → HaveNoFault lines) → TakesLine known mid l (Ok true) done → IsEnded done o new
    → ReadsOn known old lines (Ok o) new left
ends_item known old mid None new lines here left l o e h good taken ended = absurd taken
ends_item known old mid (Some c) new lines here left l None e h good taken ended = absurd (both (is_done c) taken.0 ended.0)
ends_item known old mid (Some c) new lines here left l (Some t) e h good taken ended = (
  ended.2,
  good_more lines here left l e good,
  λ last more. through known old mid lines here left l e h last more ∙ taken.1 last (left ++ more) ∙ ap (λ (i : BookItem). answered (pair i (left ++ more))) (sym ended.1),
)

pub fails_at_line : (known : Known) (old mid new other : Option PartialItem) (lines here left any : Rest) (l : LineView) (f : BookFault) → here ≡ Ok l ∷ left → Alike known old lines mid here → TakesLine known mid l (Err f) new → ReadsOn known old lines (Err f) other any
fails_at_line known old mid new other lines here left any l f e h taken =
    λ last more. subst (λ (q : Result Answer BookFault). BookFails f q) (sym (through known old mid lines here left l e h last more)) (taken last (left ++ more))

pub fails_in_line : (known : Known) (old mid other : Option PartialItem) (lines here any : Rest) (f : LineFault) → here ≡ Err f ∷ [] → Alike known old lines mid here → ReadsOn known old lines (Err (book_fault_of f)) other any
fails_in_line known old mid other lines here any f e h =
    λ last more. book_fails (book_fault_of f) (item_from known last old (lines ++ more)) (h last more ∙ ap (λ (ls : Rest). item_from known last mid (ls ++ more)) e)

pub all_taken : (known : Known) (old new : Option PartialItem) (lines here left : Rest) → here ≡ [] → left ≡ [] → Alike known old lines new here → (HaveNoFault here → HaveNoFault lines) → ReadsOn known old lines (Ok None) new left
all_taken known old new lines here left e none h good =
    (none, good (subst HaveNoFault (sym e) tt), λ last more. h last more ∙ ap (λ (ls : Rest). item_from known last new (ls ++ more)) e)

-- what is so whatever is taken out
pub on_some : {P : Type 0} (o : Option Item) → P → OnSome o P
on_some None p = tt
on_some (Some i) p = p

-- ---- what is read so was read from its first line on

pub begun_first : (known : Known) → IsBegun known None
begun_first known = record { front = []; reads = λ last more. refl }

pub begun_after : (known : Known) (old new : Option PartialItem) (lines left : Rest) (r : Result (Option Item) BookFault) → IsBegun known old → ReadsOn known old lines r new left → OnOk r (IsBegun known new)
begun_after known old new lines left (Ok None) b h = record {
  front = b.front ++ lines;
  reads = λ last more. ap (λ (ls : Rest). item_from known last None ls) (append_assoc b.front lines more) ∙ b.reads last (lines ++ more) ∙ h.2 last more;
}
begun_after known old new lines left (Ok (Some t)) b h = subst (λ (d : Option PartialItem). IsBegun known d) (sym h.0) (begun_first known)
begun_after known old new lines left (Err f) b h = tt

pub good_after : (known : Known) (old new : Option PartialItem) (lines left : Rest) (r : Result (Option Item) BookFault) → are_notions known.notions ≡ true → IsBegun known old → ReadsOn known old lines r new left
    → IfOk r (λ o. IfSome o (HasWellFormedView known))
good_after known old new lines left (Ok None) all b h = tt
good_after known old new lines left (Ok (Some i)) all b h = read_is_well_formed known 0 (view_of i) (b.front ++ (lines ++ [])) (left ++ []) all (b.reads 0 (lines ++ []) ∙ h.2 0 [])
good_after known old new lines left (Err f) all b h = tt

-- ---- where no lines come after these

-- before the first line
pub from_nothing : (known : Known) (old new : Option PartialItem) (lines left : Rest) (o p : Option Item) → old ≡ None → o ≡ p → ReadsOn known old lines (Ok o) new left → ReadsOn known None lines (Ok p) new left
from_nothing known old new lines left o p e is h =
    subst (λ (q : Option Item). ReadsOn known None lines (Ok q) new left) is (subst (λ (d : Option PartialItem). ReadsOn known d lines (Ok o) new left) e h)

pub whole_item : (known : Known) (last : ℕ) (lines left : Rest) (new : Option PartialItem) (t : Item) → ReadsOn known None lines (Ok (Some t)) new left → item_from known last None lines ≡ answered (pair (view_of t) left)
whole_item known last lines left new t h =
    ap (λ (ls : Rest). item_from known last None ls) (sym (append-nil lines)) ∙ h.2 last [] ∙ ap (λ (ls : Rest). answered (pair (view_of t) ls)) (append-nil left)

pub whole_fault : (known : Known) (last : ℕ) (lines left : Rest) (new : Option PartialItem) (f : BookFault) → ReadsOn known None lines (Err f) new left → BookFails f (item_from known last None lines)
whole_fault known last lines left new f h = subst (λ (ls : Rest). BookFails f (item_from known last None ls)) (append-nil lines) (h last [])

-- then what has come decides
pub ended_at : (known : Known) (last : ℕ) (old new : Option PartialItem) (lines left : Rest) → ReadsOn known old lines (Ok None) new left → item_from known last old lines ≡ at_end last new
ended_at known last old new lines left h = ap (λ (ls : Rest). item_from known last old ls) (sym (append-nil lines)) ∙ h.2 last []

pub end_none : (line last : ℕ) (d : Option PartialItem) (u : Unit {0}) → end_of line d ≡ Ok u → at_end last d ≡ Ok None
end_none line last None u e = refl
end_none line last (Some d) u e = absurd cc

pub end_inside : (line last : ℕ) (d : Option PartialItem) (f : BookFault) → line ≡ last → end_of line d ≡ Err f → at_end last d ≡ Err f
end_inside line last None f is e = absurd cc
end_inside line last (Some d) f is e =
    ap (λ (n : ℕ). unended n) (sym is) ∙ same (faults.Unended line) f e
  where
    unended : ℕ → Result Answer BookFault
    unended n = Err (faults.Unended n)

    same : (a b : BookFault) → let x : Result (Unit {0}) BookFault = Err a in x ≡ Err b → let y : Result Answer BookFault = Err a in y ≡ Err b
    same a b h = cc
