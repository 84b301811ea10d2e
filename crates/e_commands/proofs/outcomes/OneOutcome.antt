-- A book has one outcome.
use Rattle.std.proofs.Common.{◌≡◌, ℕ, ◌-◌, List, [], ◌∷◌, Option, Some, None, Result, Ok, Err, sym, ap, subst, ◌∙◌}
use Rattle.std.specs.Prelude.{slice_get}
use Rattle.e_theorem.specs.Statements.{as_view}
use Rattle.e_deriv.specs.declared.stop.Wanted.{Wanted}
use Rattle.e_deriv.specs.declared.names.Names.{Names}
use Rattle.e_deriv.specs.Naming.{names_of_steps, declared_names}
use Rattle.e_deriv.proofs.Stops.{one_stop, no_stop_of_licensed}
use Rattle.e_line.specs.declared.fault.BookFault.{BookFault}
use Rattle.e_names.specs.TitledStatements.{TitledStatement, stated_by}
use Rattle.e_book.specs.TheoremViews.{TheoremView}
use Rattle.e_names.specs.declared.known.Known.{Known}
use Rattle.e_names.specs.Taken.{nothing_known}
use Rattle.e_names.specs.Titled.{Titled}
use Rattle.e_book.specs.Definitions.{BookItem, OfTheorem, OfNotion, item_from}
use Rattle.e_book.specs.Grammar.{Rest}
use Rattle.e_commands.specs.Outcome.{and_theorem, and_notion, IsLicensed, Defines, AreDefined, Takes, BookOutcome, Accepted, Unlicensed, Faulty, StopsAt, OutcomeAt, IsOutcome, end_line_number}
use Rattle.e_commands.proofs.outcomes.AcceptedBooks.{same_found}

-- what reading gives
abbrev pub Answer : Type 0
Answer = Result (Option (BookItem × Rest)) BookFault

abbrev pub found : BookItem → Rest → Answer
found i rest = Ok (Some (i, rest))

abbrev pub none_left : Answer
none_left = Ok None

abbrev pub faulty : BookFault → Answer
faulty f = Err f

pub found_not_none : (i : BookItem) (xs : Rest) → found i xs ≡ none_left → ⊥
found_not_none i xs e = cc

pub found_not_faulty : (i : BookItem) (xs : Rest) (f : BookFault) → found i xs ≡ faulty f → ⊥
found_not_faulty i xs f e = cc

pub none_not_faulty : (f : BookFault) → none_left ≡ faulty f → ⊥
none_not_faulty f e = cc

pub same_faulty : (f g : BookFault) → faulty f ≡ faulty g → f ≡ g
same_faulty f g e = cc

same_some : (x y : Names) → Some x ≡ Some y → x ≡ y
same_some x y e = cc

-- two stops of one theorem are one
pub one_stop_at : (known : List TitledStatement) (t : TheoremView) (p q : List ℕ) (n m : ℕ) (v w : Wanted) (x y : Names) → StopsAt known t p n v x → StopsAt known t q m w y → Unlicensed p n v x ≡ Unlicensed q m w y
one_stop_at known t p q n m v w x y h k =
    let s = one_stop (stated_by known) (as_view t.statement) t.script n m v w h.first k.first in
    let e : p ≡ q = sym h.titled ∙ k.titled in
    let names = names_of_steps (stated_by known) (declared_names (as_view t.statement) t.names) t.script in
    let f : x ≡ y = same_some x y (h.named ∙ ap (λ (i : ℕ). slice_get names (i - 1)) s.0 ∙ sym k.named) in
    ap (λ (l : List ℕ). Unlicensed l n v x) e ∙ ap (λ (i : ℕ). Unlicensed q i v x) s.0 ∙ ap (λ (z : Wanted). Unlicensed q m z x) s.1 ∙ ap (λ (z : Names). Unlicensed q m w z) f

pub stop_of_same : (known : List TitledStatement) (t u : TheoremView) (title : List ℕ) (step : ℕ) (wanted : Wanted) (names : Names) → t ≡ u → StopsAt known t title step wanted names → StopsAt known u title step wanted names
stop_of_same known t u title step wanted names e h = subst (λ (x : TheoremView). StopsAt known x title step wanted names) e h

same_theorem : (t u : TheoremView) → OfTheorem t ≡ OfTheorem u → t ≡ u
same_theorem t u e = cc

same_notion : (n m : Titled) → OfNotion n ≡ OfNotion m → n ≡ m
same_notion n m e = cc

not_both : (t : TheoremView) (n : Titled) → OfTheorem t ≡ OfNotion n → ⊥
not_both t n e = cc

same_item : (i j : BookItem) (xs ys : Rest) → found i xs ≡ found j ys → i ≡ j
same_item i j xs ys e = ap (λ (p : BookItem × Rest). p.0) (same_found i j xs ys e)

pub same_rest : (i j : BookItem) (xs ys : Rest) → found i xs ≡ found j ys → xs ≡ ys
same_rest i j xs ys e = ap (λ (p : BookItem × Rest). p.1) (same_found i j xs ys e)

pub same_first : (t u : TheoremView) (xs ys : Rest) → found (OfTheorem t) xs ≡ found (OfTheorem u) ys → t ≡ u
same_first t u xs ys e = same_theorem t u (same_item (OfTheorem t) (OfTheorem u) xs ys e)

-- with the same known, the same lines end in one way
one_end : (last : ℕ) (known : Known) (lines : Rest) (a b : BookOutcome) → OutcomeAt last known lines a → OutcomeAt last known lines b → a ≡ b
one_end last known lines (Accepted n) (Accepted m) h k = ap Accepted (sym h.1 ∙ k.1)
one_end last known lines (Accepted n) (Unlicensed p i v x) h k = absurd (found_not_none (OfTheorem k.0) k.1 (sym k.2 ∙ h.0))
one_end last known lines (Accepted n) (Faulty f) h k = absurd (none_not_faulty f (sym h.0 ∙ k))
one_end last known lines (Unlicensed p i v x) (Accepted n) h k = absurd (found_not_none (OfTheorem h.0) h.1 (sym h.2 ∙ k.0))
one_end last known lines (Unlicensed p i v x) (Unlicensed q j w y) h k =
    one_stop_at known.theorems h.0 p q i j v w x y h.3 (stop_of_same known.theorems k.0 h.0 q j w y (same_first k.0 h.0 k.1 h.1 (sym k.2 ∙ h.2)) k.3)
one_end last known lines (Unlicensed p i v x) (Faulty f) h k = absurd (found_not_faulty (OfTheorem h.0) h.1 f (sym h.2 ∙ k))
one_end last known lines (Faulty f) (Accepted n) h k = absurd (none_not_faulty f (sym k.0 ∙ h))
one_end last known lines (Faulty f) (Unlicensed q j w y) h k = absurd (found_not_faulty (OfTheorem k.0) k.1 f (sym k.2 ∙ h))
one_end last known lines (Faulty f) (Faulty g) h k = ap Faulty (same_faulty f g (sym h ∙ k))

-- where the next theorem is licensed the lines do not end
no_end : (last : ℕ) (known : Known) (lines after : Rest) (u : TheoremView) (a : BookOutcome) → item_from known last None lines ≡ found (OfTheorem u) after → IsLicensed known.theorems u → OutcomeAt last known lines a → ⊥
no_end last known lines after u (Accepted n) r l h = found_not_none (OfTheorem u) after (sym r ∙ h.0)
no_end last known lines after u (Unlicensed p i v x) r l h =
    no_stop_of_licensed (stated_by known.theorems) (as_view u.statement) u.script l.filled i v l.licensed (stop_of_same known.theorems h.0 u p i v x (same_first h.0 u h.1 after (sym h.2 ∙ r)) h.3).first
no_end last known lines after u (Faulty f) r l h = found_not_faulty (OfTheorem u) after f (sym r ∙ h)

-- ---- definitions between theorems

-- no definition is read here
abbrev pub NoNotion : ℕ → Known → Rest → Type 0
NoNotion last known lines = (n : Titled) (after : Rest) → item_from known last None lines ≡ found (OfNotion n) after → ⊥

pub theorem_here : (last : ℕ) (known : Known) (lines : Rest) (t : TheoremView) (rest : Rest) → item_from known last None lines ≡ found (OfTheorem t) rest → NoNotion last known lines
theorem_here last known lines t rest h = λ n after e. not_both t n (same_item (OfTheorem t) (OfNotion n) rest after (sym h ∙ e))

end_here : (last : ℕ) (known : Known) (lines : Rest) (a : BookOutcome) → OutcomeAt last known lines a → NoNotion last known lines
end_here last known lines (Accepted n) h = λ m after e. found_not_none (OfNotion m) after (sym e ∙ h.0)
end_here last known lines (Unlicensed p i v x) h = theorem_here last known lines h.0 h.1 h.2
end_here last known lines (Faulty f) h = λ m after e. found_not_faulty (OfNotion m) after f (sym e ∙ h)

none_there : (last : ℕ) (known now : Known) (lines rest : Rest) → known ≡ now → lines ≡ rest → NoNotion last now rest → NoNotion last known lines
none_there last known now lines rest e f h =
    subst (λ (k : Known). NoNotion last k lines) (sym e) (subst (λ (l : Rest). NoNotion last now l) (sym f) h)

defines_at : (last : ℕ) (known : Known) (n m : Titled) (xs ys : Rest) (ms : List Titled) (now : Known) (rest : Rest) → m ≡ n → ys ≡ xs → Defines last (and_notion known m) ys ms now rest → Defines last (and_notion known n) xs ms now rest
defines_at last known n m xs ys ms now rest e f h =
    subst (λ (l : Rest). Defines last (and_notion known n) l ms now rest) f
    (subst (λ (x : Titled). Defines last (and_notion known x) ys ms now rest) e h)

-- all definitions that come are read: then two ways to read them end in one spot
same_spot : (last : ℕ) (known : Known) (lines : Rest) (ns ms : List Titled) (k1 k2 : Known) (r1 r2 : Rest)
    → Defines last known lines ns k1 r1 → Defines last known lines ms k2 r2 → NoNotion last k1 r1 → NoNotion last k2 r2 → (k1 ≡ k2) × (r1 ≡ r2)
same_spot last known lines [] [] k1 k2 r1 r2 d e no1 no2 = (sym d.0 ∙ e.0, sym d.1 ∙ e.1)
same_spot last known lines [] (m ∷ ms) k1 k2 r1 r2 d e no1 no2 = absurd (none_there last known k1 lines r1 d.0 d.1 no1 m e.0 e.1)
same_spot last known lines (n ∷ ns) [] k1 k2 r1 r2 d e no1 no2 = absurd (none_there last known k2 lines r2 e.0 e.1 no2 n d.0 d.1)
same_spot last known lines (n ∷ ns) (m ∷ ms) k1 k2 r1 r2 d e no1 no2 =
    let both = sym e.1 ∙ d.1 in
    same_spot last (and_notion known n) d.0 ns ms k1 k2 r1 r2 d.2
    (defines_at last known n m d.0 e.0 ms k2 r2 (same_notion m n (same_item (OfNotion m) (OfNotion n) e.0 d.0 both)) (same_rest (OfNotion m) (OfNotion n) e.0 d.0 both) e.2) no1 no2

pub spot_of : (last : ℕ) (known : Known) (lines : Rest) (k1 k2 : Known) (r1 r2 : Rest)
    → AreDefined last known lines k1 r1 → AreDefined last known lines k2 r2 → NoNotion last k1 r1 → NoNotion last k2 r2 → (k1 ≡ k2) × (r1 ≡ r2)
spot_of last known lines k1 k2 r1 r2 d e no1 no2 = same_spot last known lines d.notions e.notions k1 k2 r1 r2 d.defines e.defines no1 no2

ends_at : (last : ℕ) (known now : Known) (lines rest : Rest) (a : BookOutcome) → known ≡ now → lines ≡ rest → OutcomeAt last now rest a → OutcomeAt last known lines a
ends_at last known now lines rest a e f h =
    subst (λ (k : Known). OutcomeAt last k lines a) (sym e) (subst (λ (l : Rest). OutcomeAt last now l a) (sym f) h)

pub takes_at : (last : ℕ) (known other now : Known) (lines after rest : Rest) (ts : List TheoremView) (t u : TheoremView) → other ≡ known → u ≡ t → after ≡ lines
    → Takes last (and_theorem other u) after ts now rest → Takes last (and_theorem known t) lines ts now rest
takes_at last known other now lines after rest ts t u d e f h =
    subst (λ (k : Known). Takes last (and_theorem k t) lines ts now rest) d
    (subst (λ (l : Rest). Takes last (and_theorem other t) l ts now rest) f
    (subst (λ (x : TheoremView). Takes last (and_theorem other x) after ts now rest) e h))

-- ---- the whole

-- where one way ends before a theorem, no other way has one there
ends_before : (last : ℕ) (known : Known) (lines : Rest) (k1 here : Known) (r1 before after : Rest) (u : TheoremView) (a : BookOutcome)
    → AreDefined last known lines k1 r1 → OutcomeAt last k1 r1 a → AreDefined last known lines here before → item_from here last None before ≡ found (OfTheorem u) after → IsLicensed here.theorems u → ⊥
ends_before last known lines k1 here r1 before after u a p h d read l =
    let spot = spot_of last known lines here k1 before r1 d p (theorem_here last here before u after read) (end_here last k1 r1 a h) in
    no_end last here before after u a read l (ends_at last here k1 before r1 a spot.0 spot.1 h)

-- the same lines have one outcome
pub one_outcome : (last : ℕ) (known : Known) (lines : Rest) (ts us : List TheoremView) (k1 k2 : Known) (r1 r2 : Rest) (a b : BookOutcome)
    → Takes last known lines ts k1 r1 → Takes last known lines us k2 r2 → OutcomeAt last k1 r1 a → OutcomeAt last k2 r2 b → a ≡ b
one_outcome last known lines [] [] k1 k2 r1 r2 a b p q h k =
    let spot = spot_of last known lines k1 k2 r1 r2 p q (end_here last k1 r1 a h) (end_here last k2 r2 b k) in
    one_end last k1 r1 a b h (ends_at last k1 k2 r1 r2 b spot.0 spot.1 k)
one_outcome last known lines [] (u ∷ us) k1 k2 r1 r2 a b p q h k =
    absurd (ends_before last known lines k1 q.0 r1 q.1 q.3 u a p h q.2 q.4 q.5)
one_outcome last known lines (t ∷ ts) [] k1 k2 r1 r2 a b p q h k =
    absurd (ends_before last known lines k2 p.0 r2 p.1 p.3 t b q k p.2 p.4 p.5)
one_outcome last known lines (t ∷ ts) (u ∷ us) k1 k2 r1 r2 a b p q h k =
    let spot = spot_of last known lines p.0 q.0 p.1 q.1 p.2 q.2 (theorem_here last p.0 p.1 t p.3 p.4) (theorem_here last q.0 q.1 u q.3 q.4) in
    let there : item_from p.0 last None p.1 ≡ item_from q.0 last None q.1 = ap (λ (x : Known). item_from x last None p.1) spot.0 ∙ ap (λ (l : Rest). item_from q.0 last None l) spot.1 in
    let e = sym q.4 ∙ sym there ∙ p.4 in
    one_outcome last (and_theorem p.0 t) p.3 ts us k1 k2 r1 r2 a b p.6
    (takes_at last p.0 q.0 k2 p.3 q.3 r2 us t u (sym spot.0) (same_first u t q.3 p.3 e) (same_rest (OfTheorem u) (OfTheorem t) q.3 p.3 e) q.6) h k

pub outcome_is_one : (lines : Rest) (ts us : List TheoremView) (a b : BookOutcome) → IsOutcome lines ts a → IsOutcome lines us b → a ≡ b
outcome_is_one lines ts us a b p q =
    one_outcome (end_line_number lines) nothing_known lines ts us p.known q.known p.rest q.rest a b p.begins q.begins p.ends q.ends
