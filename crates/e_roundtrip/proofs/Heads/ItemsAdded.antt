-- An item of a statement adds what its notion gives.
use Rattle.std.proofs.Common.{◌≡◌, ℕ, zero, suc, ◌+◌, ◌-◌, ◌<◌, ◌≤◌, Bool, true, false, leb, eqb, List, [], ◌∷◌, ◌++◌, length, map, take, Some, Result, Ok, refl, sym, ap, subst, ◌∙◌, arith, append-nil}
use Rattle.std.proofs.lemmas.Bool.{leb-true}
use Rattle.e_literal.specs.declared.object.Obj.{Obj}
use Rattle.e_literal.specs.declared.literal.Lit.{Lit}
use Rattle.e_theorem.specs.declared.notion.Notion.{Notion}
use Rattle.e_theorem.specs.Notions.{literals_of_notion}
use Rattle.e_deriv.specs.declared.names.Names.{Names}
use Rattle.e_line.specs.declared.fault.FaultKind.{FaultKind}
use Rattle.e_line.specs.declared.fault.What.{What}
use Rattle.e_line.specs.declared.fault.What.TheVariants as limits
use Rattle.e_line.specs.declared.literal.RawLit.{RawLit}
use Rattle.e_line.specs.declared.raw_line.RawLine.{RawLine}
use Rattle.e_line.specs.declared.raw_line.RawLine.TheVariants as rawlines
use Rattle.e_line.specs.declared.items.RawAs.{RawAs}
use Rattle.e_line.specs.declared.items.RawItem.TheVariants.{As}
use Rattle.e_line.specs.declared.items.ListHead.{ListHead}
use Rattle.e_line.specs.declared.items.ListHead.TheVariants.{Given, Show, Claim, Superpose}
use Rattle.e_line.specs.Items.{list_raw_line}
use Rattle.e_line.specs.Limits.{most_expanded}
use Rattle.e_line.specs.Reading.{◌>>=◌}
use Rattle.e_line.proofs.base.Bound.{bind_ok, ok_is, read_ok}
use Rattle.e_names.specs.declared.known.Known.{Known}
use Rattle.e_names.specs.Canonical.{raw_of}
use Rattle.e_names.specs.Meanings.{known_notion, meant_in, item_in, items_in}
use Rattle.e_names.specs.Scope.{scope_of_names, right_count, objects_of_sorts, lits_in}
use Rattle.e_names.specs.Titled.{Titled, are_notions, notion_of}
use Rattle.e_names.specs.TitledStatements.{TitledStatement}
use Rattle.e_names.proofs.literals.PlainLits.{Plain, lits_number_again}
use Rattle.e_names.proofs.read_lines.ItemsWritten.{meant, meant_good, within, well_formed}
use Rattle.e_names.proofs.resolution.Lookups.{InOrder, in_order}
use Rattle.e_book.specs.Open.{Head, Open, Stating}
use Rattle.e_book.specs.Counts.{all_kept, limits_kept}
use Rattle.e_book.specs.Definitions.{PartialItem, InTheorem, written_out, plain_line, with_more_literals}
use Rattle.e_book.specs.Grammar.{next, line_after, states, at_its_place, none_made}
use Rattle.e_roundtrip.specs.Laws.{with_listed, ItemsAddWhatTheyMean}

-- ---- what the item means

meant_as : (notions : List Titled) (ns : Names) (most : ℕ) (raw : RawAs) (notion : Notion) (args : List Obj) (ls : List Lit) → notion_of notions raw.title ≡ Some notion → objects_of_sorts ns notion.declared raw.args ≡ Ok args
    → meant_in notions ns most raw ≡ Ok ls → ls ≡ take most (literals_of_notion notion args (scope_of_names ns))
unfolding meant_in
meant_as notions ns most raw notion args ls there read e =
    let then : Notion → List Obj → Result (List Lit) FaultKind = λ n args. read_ok (take most (literals_of_notion n args (scope_of_names ns))) in
    let n = bind_ok (known_notion (notion_of notions raw.title)) (λ n. right_count (eqb (length raw.args) (length n.declared)) >>= λ right. objects_of_sorts ns n.declared raw.args >>= λ args. then n args) ls e in
    let r = bind_ok (right_count (eqb (length raw.args) (length n.0.declared))) (λ right. objects_of_sorts ns n.0.declared raw.args >>= λ args. then n.0 args) ls n.2 in
    let a = bind_ok (objects_of_sorts ns n.0.declared raw.args) (λ args. then n.0 args) ls r.2 in
    let same : notion ≡ n.0 = ok_is notion n.0 (sym (ap known_notion there) ∙ n.1) in
    let so : args ≡ a.0 = ok_is args a.0 (sym read ∙ ap (λ (m : Notion). objects_of_sorts ns m.declared raw.args) same ∙ a.1) in
    sym (ok_is (take most (literals_of_notion n.0 a.0 (scope_of_names ns))) ls a.2) ∙ ap (λ (os : List Obj). take most (literals_of_notion n.0 os (scope_of_names ns))) (sym so)
    ∙ ap (λ (m : Notion). take most (literals_of_notion m args (scope_of_names ns))) (sym same)

-- a front that is shorter than it may be is the whole
uncut : {X : Type 0} (m : ℕ) (xs : List X) → length (take m xs) < m → take m xs ≡ xs
uncut zero xs less = absurd (omega (arith, less))
uncut (suc m) [] less = refl
uncut (suc m) (x ∷ xs) less = ap (λ zs. x ∷ zs) (uncut m xs (omega (arith, less)))

-- ---- the line with the literals written out

kept_true : (b : Bool) (w : What) (u : Unit {0}) → all_kept ((b, w) ∷ []) ≡ Ok u → b ≡ true
kept_true true w u e = refl
kept_true false w u e = absurd cc

placed : (b : Bool) (q : Result Open FaultKind) (o : Open) → at_its_place b q ≡ Ok o → q ≡ Ok o
placed true q o e = e
placed false q o e = absurd cc

line_is : (known : List TitledStatement) (o m : Open) (f : RawLine) → line_after known (Some o) f ≡ Ok m → next known o f ≡ Ok m
line_is known o m f e =
    let a = bind_ok (next known o f) (λ n. all_kept (limits_kept known f n) >>= λ kept. read_ok n) m e in
    let b = bind_ok (all_kept (limits_kept known f a.0)) (λ kept. read_ok a.0) m a.2 in
    a.1 ∙ b.2

given_is : (h : Head) (raws : List RawLit) (ls : List Lit) (o : Open) → lits_in h.names raws ≡ Ok ls → states h (rawlines.Given raws) ≡ Ok o → Stating (with_listed Given ls h) ≡ o
given_is h raws ls o read e =
    let then : List Lit → Result Open FaultKind = λ ls. read_ok (Stating (with_listed Given ls h)) in
    let a = bind_ok (lits_in h.names raws) then o (placed (none_made h.statement) (lits_in h.names raws >>= then) o e) in
    ap (λ (xs : List Lit). Stating (with_listed Given xs h)) (ok_is ls a.0 (sym read ∙ a.1)) ∙ ok_is (Stating (with_listed Given a.0 h)) o a.2

show_is : (h : Head) (raws : List RawLit) (ls : List Lit) (o : Open) → lits_in h.names raws ≡ Ok ls → states h (rawlines.Show raws) ≡ Ok o → Stating (with_listed Show ls h) ≡ o
show_is h raws ls o read e =
    let a = bind_ok (lits_in h.names raws) (λ ls. read_ok (Stating (with_listed Show ls h))) o e in
    ap (λ (xs : List Lit). Stating (with_listed Show xs h)) (ok_is ls a.0 (sym read ∙ a.1)) ∙ ok_is (Stating (with_listed Show a.0 h)) o a.2

listed_is : (h : Head) (line : ListHead) (raws : List RawLit) (ls : List Lit) (o : Open) → lits_in h.names raws ≡ Ok ls → states h (list_raw_line line raws) ≡ Ok o → Stating (with_listed line ls h) ≡ o
listed_is h Given raws ls o read e = given_is h raws ls o read e
listed_is h Show raws ls o read e = show_is h raws ls o read e
listed_is h Claim raws ls o read e = absurd cc
listed_is h (Superpose args new) raws ls o read e = absurd cc

record IsCounted (o : Open) (n : ℕ) (c : PartialItem) : Type 0 where
  is : InTheorem o n ≡ c
  few : n ≤ most_expanded

counted_is : (k : ℕ) (o : Open) (n : ℕ) (c : PartialItem) → with_more_literals k (InTheorem o n) ≡ Ok c → IsCounted o (n + k) c
counted_is k o n c e =
    let a = bind_ok (all_kept ((leb (n + k) most_expanded, limits.Expanded) ∷ [])) (λ kept. read_ok (InTheorem o (n + k))) c e in
    record { is = ok_is (InTheorem o (n + k)) c a.2; few = leb-true (n + k) most_expanded (kept_true (leb (n + k) most_expanded) limits.Expanded a.0 a.1) }

-- the line is taken: then the literals are there
taken_is : (known : Known) (h : Head) (n k : ℕ) (line : ListHead) (raws : List RawLit) (ls : List Lit) (c : PartialItem) → lits_in h.names raws ≡ Ok ls
    → (plain_line known (InTheorem (Stating h) n) (list_raw_line line raws) >>= λ c. with_more_literals k c) ≡ Ok c → IsCounted (Stating (with_listed line ls h)) (n + k) c
taken_is known h n k line raws ls c read e =
    let f = list_raw_line line raws in
    let p = bind_ok (plain_line known (InTheorem (Stating h) n) f) (λ c. with_more_literals k c) c e in
    let m = bind_ok (line_after known.theorems (Some (Stating h)) f) (λ m. read_ok (InTheorem m n)) p.0 p.1 in
    let o : Stating (with_listed line ls h) ≡ m.0 = listed_is h line raws ls m.0 read (line_is known.theorems (Stating h) m.0 f m.1) in
    let at : InTheorem (Stating (with_listed line ls h)) n ≡ p.0 = ap (λ (x : Open). InTheorem x n) o ∙ ok_is (InTheorem m.0 n) p.0 m.2 in
    counted_is k (Stating (with_listed line ls h)) n c (ap (with_more_literals k) at ∙ p.2)

-- ---- the whole

abbrev pair : List Lit → ℕ → List Lit × ℕ
pair ls n = (ls, n)

abbrev out : Names → ListHead → List Lit × ℕ → RawLine × ℕ
out ns line p = (list_raw_line line (map (raw_of ns) p.0), p.1)

-- the literals of one item, with their number
record OneItem (notions : List Titled) (ns : Names) (raw : RawAs) (p : List Lit × ℕ) : Type 0 where
  lits : List Lit
  meant : meant_in notions ns (most_expanded + 1 - 0) raw ≡ Ok lits
  is : pair lits (0 + length lits) ≡ p

one_item : (notions : List Titled) (ns : Names) (raw : RawAs) (p : List Lit × ℕ) → items_in notions ns 0 (As raw ∷ []) ≡ Ok p → OneItem notions ns raw p
one_item notions ns raw p e =
    let one = bind_ok (item_in notions ns 0 (As raw)) (λ q. items_in notions ns q.1 [] >>= λ r. read_ok (pair (q.0 ++ r.0) r.1)) p e in
    let m = bind_ok (meant_in notions ns (most_expanded + 1 - 0) raw) (λ ls. read_ok (pair ls (0 + length ls))) one.0 one.1 in
    record {
      lits = m.0;
      meant = m.1;
      is =
          ap (λ (ls : List Lit). pair ls (0 + length m.0)) (sym (append-nil m.0)) ∙ ap (λ (q : List Lit × ℕ). pair (q.0 ++ []) q.1) (ok_is (pair m.0 (0 + length m.0)) one.0 m.2)
          ∙ ok_is (pair (one.0.0 ++ []) one.0.1) p one.2;
    }

-- the line with these literals written out is taken
added : (known : Known) (h : Head) (n : ℕ) (line : ListHead) (raw : RawAs) (notion : Notion) (args : List Obj) (c : PartialItem) (ls : List Lit) → InOrder h.names → are_notions known.notions ≡ true → notion_of known.notions raw.title ≡ Some notion
    → objects_of_sorts h.names notion.declared raw.args ≡ Ok args → meant_in known.notions h.names (most_expanded + 1 - 0) raw ≡ Ok ls
    → (plain_line known (InTheorem (Stating h) n) (list_raw_line line (map (raw_of h.names) ls)) >>= λ d. with_more_literals (0 + length ls) d) ≡ Ok c →
    let given = literals_of_notion notion args (scope_of_names h.names) in c ≡ InTheorem (Stating (with_listed line given h)) (n + length given)
added known h n line raw notion args c ls order all there read m e =
    let most = most_expanded + 1 - 0 in
    let given = literals_of_notion notion args (scope_of_names h.names) in
    let good = meant_good known.notions h.names most raw ls (meant known.notions h.names most raw ls all m) in
    let plain : Plain h.names ls = record { within = within (scope_of_names h.names) ls good; good = well_formed (scope_of_names h.names) ls good } in
    let taken = taken_is known h n (0 + length ls) line (map (raw_of h.names) ls) ls c (lits_number_again h.names ls order plain) e in
    let front : ls ≡ take most given = meant_as known.notions h.names most raw notion args ls there read m in
    let full : ls ≡ given = front ∙ uncut most given (omega (arith, ap (λ (xs : List Lit). length xs) front, taken.few)) in
    let count : 0 + length ls ≡ length ls = omega (arith) in
    sym taken.is ∙ ap (λ (k : ℕ). InTheorem (Stating (with_listed line ls h)) (n + k)) count ∙ ap (λ (xs : List Lit). InTheorem (Stating (with_listed line xs h)) (n + length xs)) full

pub items_add : ItemsAddWhatTheyMean
items_add known h n line raw notion args c hp hl hc d all there read e =
    let ns = h.names in
    let written = bind_ok (written_out known (Stating h) line (As raw ∷ [])) (λ w. plain_line known (InTheorem (Stating h) n) w.0 >>= λ c. with_more_literals w.1 c) c e in
    let may = bind_ok (next known.theorems (Stating h) (list_raw_line line [])) (λ there. items_in known.notions ns 0 (As raw ∷ []) >>= λ p. read_ok (out ns line p)) written.0 written.1 in
    let its = bind_ok (items_in known.notions ns 0 (As raw ∷ [])) (λ p. read_ok (out ns line p)) written.0 may.2 in
    let one = one_item known.notions ns raw its.0 its.1 in
    let is : out ns line (pair one.lits (0 + length one.lits)) ≡ written.0 = ap (out ns line) one.is ∙ ok_is (out ns line its.0) written.0 its.2 in
    added known h n line raw notion args c one.lits (in_order ns hp hl hc d) all there read one.meant
    (subst (λ (w : RawLine × ℕ). (plain_line known (InTheorem (Stating h) n) w.0 >>= λ c. with_more_literals w.1 c) ≡ Ok c) (sym is) written.2)
