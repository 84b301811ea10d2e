-- The theorems taken so far, with their derivations and what was written.
use Rattle.std.proofs.Common.{◌≡◌, ℕ, ◌+◌, ◌-◌, ◌≤◌, List, [], ◌∷◌, ◌++◌, length, Option, Some, None, Result, Ok, refl, sym, ap, subst, ◌∙◌, arith, append_assoc, length-append, take}
use Rattle.std.proofs.lemmas.List.{append-nil}
use Rattle.std.proofs.Math.Seq.{take-append-add}
use Rattle.e_io.specs.Bytes.{Grew, GrewByFront}
use Rattle.e_io.proofs.Growth.{grown, grown-nothing}
use Rattle.e_theorem.specs.Statements.{as_view}
use Rattle.e_names.specs.TitledStatements.{TitledStatement, stated_by}
use Rattle.e_book.specs.TheoremViews.{TheoremView}
use Rattle.e_names.specs.declared.known.Known.{Known}
use Rattle.e_names.specs.Taken.{nothing_known}
use Rattle.e_names.specs.Titled.{Titled}
use Rattle.e_book.specs.Definitions.{OfTheorem, OfNotion, item_from}
use Rattle.e_book.specs.Grammar.{Rest}
use Rattle.e_deriv.specs.Script.{size}
use Rattle.e_deriv.specs.Naming.{names_of_steps, declared_names}
use Rattle.std.specs.Prelude.{slice_get}
use Rattle.e_commands.specs.Outcome.{and_theorem, and_notion, IsLicensed, Defines, AreDefined, Takes, Begins, end_line_number}
use Rattle.e_commands.specs.Outcome as outcome
use Rattle.e_spell.specs.Spelling.{spelling}
use Rattle.e_commands.specs.Answers.{Derived, IsDerived, AllDerived, OutcomeAfter, Refuses, Widens, theorems_of, steps_of, blocks_of}
use Rattle.e_commands.specs.inner.BookResults.{BlocksUpTo, BookResultIs, BreaksOff, BreaksInside, result_of_stop}
use Rattle.e_commands.specs.inner.Progress.{History, Handles}
use Rattle.e_commands.specs.declared.book.Book.{Book}
use Rattle.e_commands.specs.declared.blocks.BookResult.{BookResult}
use Rattle.e_commands.specs.declared.blocks.BookResult.TheVariants.{All}
use Rattle.e_commands.specs.declared.output.Failure.{Failure}
use Rattle.e_deriv.specs.declared.stop.Stop.{Stop}
use Rattle.e_deriv.specs.declared.stop.Stop.TheVariants as stops
use Rattle.e_prove.specs.Stops.{StopIs, HasNames}
use Rattle.e_deriv.specs.declared.stop.Wanted.{Wanted}
use Rattle.e_deriv.specs.declared.names.Names.{Names}
use Rattle.e_deriv.specs.Refused.{IsRefused, IsTooWideAt}
use Rattle.e_literal.specs.declared.object.Term.{Term}
use Rattle.e_judgement.specs.Judged.{with_theorem}

-- ---- definitions

-- they leave the theorems as they are
same_theorems : (last : ℕ) (known : Known) (lines : Rest) (ns : List Titled) (now : Known) (rest : Rest) → Defines last known lines ns now rest → known.theorems ≡ now.theorems
same_theorems last known lines [] now rest d = ap (λ (k : Known). k.theorems) d.0
same_theorems last known lines (n ∷ ns) now rest d = same_theorems last (and_notion known n) d.0 ns now rest d.2

pub defined_same : (last : ℕ) (known : Known) (lines : Rest) (now : Known) (rest : Rest) → AreDefined last known lines now rest → known.theorems ≡ now.theorems
defined_same last known lines now rest d = same_theorems last known lines d.notions now rest d.defines

none_defined : (last : ℕ) (known : Known) (lines : Rest) → AreDefined last known lines known lines
none_defined last known lines = record { notions = []; defines = (refl, refl) }

one_defined : (last : ℕ) (known : Known) (lines : Rest) (ns : List Titled) (now : Known) (rest : Rest) (n : Titled) (after : Rest) → Defines last known lines ns now rest → item_from now last None rest ≡ Ok (Some (OfNotion n, after))
    → Defines last known lines (ns ++ n ∷ []) (and_notion now n) after
one_defined last known lines [] now rest n after d h = (
  after,
  subst (λ (k : Known). item_from k last None lines ≡ Ok (Some (OfNotion n, after))) (sym d.0) (ap (item_from now last None) d.1 ∙ h),
  (ap (λ (k : Known). and_notion k n) d.0, refl),
)
one_defined last known lines (m ∷ ms) now rest n after d h = (d.0, d.1, one_defined last (and_notion known m) d.0 ms now rest n after d.2 h)

-- one more definition is taken
pub takes_notion : (last : ℕ) (known : Known) (lines : Rest) (ts : List TheoremView) (now : Known) (rest : Rest) (n : Titled) (after : Rest)
    → Takes last known lines ts now rest → item_from now last None rest ≡ Ok (Some (OfNotion n, after)) → Takes last known lines ts (and_notion now n) after
takes_notion last known lines [] now rest n after r h = record { notions = r.notions ++ n ∷ []; defines = one_defined last known lines r.notions now rest n after r.defines h }
takes_notion last known lines (u ∷ us) now rest n after r h =
    (r.0, r.1, r.2, r.3, r.4, r.5, takes_notion last (and_theorem r.0 u) r.3 us now rest n after r.6 h)

-- ---- theorems

-- one more theorem is taken
pub takes_more : (last : ℕ) (known : Known) (lines : Rest) (ts : List TheoremView) (now : Known) (rest : Rest) (t : TheoremView) (after : Rest)
    → Takes last known lines ts now rest → item_from now last None rest ≡ Ok (Some (OfTheorem t, after)) → IsLicensed now.theorems t
    → Takes last known lines (ts ++ t ∷ []) (and_theorem now t) after
takes_more last known lines [] now rest t after r h l = (now, rest, r, after, h, l, none_defined last (and_theorem now t) after)
takes_more last known lines (u ∷ us) now rest t after r h l =
    (r.0, r.1, r.2, r.3, r.4, r.5, takes_more last (and_theorem r.0 u) r.3 us now rest t after r.6 h l)

-- one more derivation, by what is known after the others
all_more : (last : ℕ) (known : Known) (lines : Rest) (ds : List Derived) (now : Known) (rest : Rest) (d : Derived)
    → Takes last known lines (theorems_of ds) now rest → AllDerived known.theorems ds → IsDerived now.theorems d → AllDerived known.theorems (ds ++ d ∷ [])
all_more last known lines [] now rest d r h k = (subst (λ (x : List TitledStatement). IsDerived x d) (sym (defined_same last known lines now rest r)) k, tt)
all_more last known lines (e ∷ es) now rest d r h k =
    let same = defined_same last known lines r.0 r.1 r.2 in
    let later = subst (λ (x : List TitledStatement). AllDerived (with_theorem x e.theorem) es) same h.1 in
    (h.0, subst (λ (x : List TitledStatement). AllDerived (with_theorem x e.theorem) (es ++ d ∷ [])) (sym same) (all_more last (and_theorem r.0 e.theorem) r.3 es now rest d r.6 later k))

theorems_more : (ds : List Derived) (d : Derived) → theorems_of (ds ++ d ∷ []) ≡ theorems_of ds ++ d.theorem ∷ []
theorems_more [] d = refl
theorems_more (e ∷ es) d = ap (λ (ts : List TheoremView). e.theorem ∷ ts) (theorems_more es d)

steps_more : (ds : List Derived) (d : Derived) → steps_of (ds ++ d ∷ []) ≡ steps_of ds + size d.theorem.script
steps_more [] d = refl
steps_more (e ∷ es) d = omega (arith, steps_more es d)

-- the block of a derivation
abbrev block_of : List TitledStatement → Derived → List ℕ
block_of known d = spelling known d.theorem d.derivation

blocks_more : (last : ℕ) (known : Known) (lines : Rest) (ds : List Derived) (now : Known) (rest : Rest) (d : Derived)
    → Takes last known lines (theorems_of ds) now rest → blocks_of known.theorems (ds ++ d ∷ []) ≡ blocks_of known.theorems ds ++ block_of now.theorems d
blocks_more last known lines [] now rest d r = append-nil (block_of known.theorems d) ∙ ap (λ (k : List TitledStatement). block_of k d) (defined_same last known lines now rest r)
blocks_more last known lines (e ∷ es) now rest d r =
    let same = defined_same last known lines r.0 r.1 r.2 in
    let here = block_of known.theorems e in
    let later = with_theorem r.0.theorems e.theorem in
    let moved = λ (ds : List Derived). ap (λ (k : List TitledStatement). blocks_of (with_theorem k e.theorem) ds) same in
    ap (λ (x : List ℕ). here ++ x) (moved (es ++ d ∷ []) ∙ blocks_more last (and_theorem r.0 e.theorem) r.3 es now rest d r.6)
    ∙ sym (append_assoc here (blocks_of later es) (block_of now.theorems d))
    ∙ ap (λ (x : List ℕ). (here ++ x) ++ block_of now.theorems d) (sym (moved es))

-- a theorem with a derivation has each of its lines licensed
licensed : (known : List TitledStatement) (d : Derived) → IsDerived known d → IsLicensed known d.theorem
licensed known d h = record { filled = d.derivation; licensed = h.licensed }

pub begins : (lines : Rest) (old : Option (List ℕ)) → History lines old nothing_known lines old 0
begins lines old = record { derived = []; sound = tt; begins = none_defined (end_line_number lines) nothing_known lines; grew = grown-nothing old; steps_are = refl }

begins_more : (lines : Rest) (ds : List Derived) (known : Known) (rest after : Rest) (d : Derived)
    → Begins lines (theorems_of ds) known rest → item_from known (end_line_number lines) None rest ≡ Ok (Some (OfTheorem d.theorem, after)) → IsDerived known.theorems d
    → Begins lines (theorems_of (ds ++ d ∷ [])) (and_theorem known d.theorem) after
begins_more lines ds known rest after d b h k =
    subst (λ (ts : List TheoremView). Begins lines ts (and_theorem known d.theorem) after) (sym (theorems_more ds d))
    (takes_more (end_line_number lines) nothing_known lines (theorems_of ds) known rest d.theorem after b h (licensed known.theorems d k))

-- the block of the next theorem was written
pub goes_on : (lines : Rest) (old new newer : Option (List ℕ)) (known : Known) (rest after : Rest) (steps : ℕ) (d : Derived)
    → History lines old known rest new steps → item_from known (end_line_number lines) None rest ≡ Ok (Some (OfTheorem d.theorem, after)) → IsDerived known.theorems d → Grew new newer (block_of known.theorems d)
    → History lines old (and_theorem known d.theorem) after newer (steps + size d.theorem.script)
goes_on lines old new newer known rest after steps d h read k w =
    let last = end_line_number lines in
    record {
      derived = h.derived ++ d ∷ [];
      sound = all_more last nothing_known lines h.derived known rest d h.begins h.sound k;
      begins = begins_more lines h.derived known rest after d h.begins read k;
      grew = subst (λ (b : List ℕ). Grew old newer b) (sym (blocks_more last nothing_known lines h.derived known rest d h.begins)) (grown old new newer (blocks_of [] h.derived) (block_of known.theorems d) h.grew w);
      steps_are = omega (arith, h.steps_are, steps_more h.derived d);
    }

-- a definition is taken: nothing is written
pub notion_taken : (lines : Rest) (old new : Option (List ℕ)) (known : Known) (rest after : Rest) (steps : ℕ) (n : Titled)
    → History lines old known rest new steps → item_from known (end_line_number lines) None rest ≡ Ok (Some (OfNotion n, after)) → History lines old (and_notion known n) after new steps
notion_taken lines old new known rest after steps n h read = record {
  derived = h.derived;
  sound = h.sound;
  begins = takes_notion (end_line_number lines) nothing_known lines (theorems_of h.derived) known rest n after h.begins read;
  grew = h.grew;
  steps_are = h.steps_are;
}

-- this holds after what was written
pub ends_with : (lines : Rest) (old new : Option (List ℕ)) (known : Known) (rest : Rest) (steps : ℕ) (Holds : Known → Rest → Type 0)
    → History lines old known rest new steps → Holds known rest → BlocksUpTo lines old new Holds
ends_with lines old new known rest steps Holds h e =
    record { derived = h.derived; sound = h.sound; known = known; rest = rest; begins = h.begins; holds = e; grew = h.grew }

-- nothing comes after the last theorem
pub ends_counted : (lines : Rest) (old new : Option (List ℕ)) (known : Known) (rest : Rest) (steps n : ℕ)
    → History lines old known rest new steps → OutcomeAfter lines (outcome.Accepted n) known rest → BookResultIs lines old new (All n steps)
unfolding ends_with
ends_counted lines old new known rest steps n h e = (ends_with lines old new known rest steps (OutcomeAfter lines (outcome.Accepted n)) h e, h.steps_are)

pub breaks_off : (lines : Rest) (old new : Option (List ℕ)) (known : Known) (rest : Rest) (steps : ℕ) → History lines old known rest new steps → BreaksOff lines old new
breaks_off lines old new known rest steps h =
    record { derived = h.derived; sound = h.sound; front = record { known = known; rest = rest; begins = h.begins }; grew = h.grew }

front_more : (a b c : Option (List ℕ)) (xs ys : List ℕ) → Grew a b xs → GrewByFront b c ys → (n : ℕ) × (n ≤ length (xs ++ ys)) × Grew a c (take n (xs ++ ys))
front_more a b c xs ys p q =
    (length xs + q.0, omega (arith, length-append xs ys, q.1), subst (λ (l : List ℕ). Grew a c l) (sym (take-append-add xs ys q.0)) (grown a b c xs (take q.0 ys) p q.2))

-- a front of the block of the next theorem was written
pub breaks_inside : (lines : Rest) (old new newer : Option (List ℕ)) (known : Known) (rest after : Rest) (steps : ℕ) (d : Derived)
    → History lines old known rest new steps → item_from known (end_line_number lines) None rest ≡ Ok (Some (OfTheorem d.theorem, after)) → IsDerived known.theorems d → GrewByFront new newer (block_of known.theorems d)
    → BreaksInside lines old newer
breaks_inside lines old new newer known rest after steps d h read k w =
    let last = end_line_number lines in
    let f = front_more old new newer (blocks_of [] h.derived) (block_of known.theorems d) h.grew w in
    let blocks = sym (blocks_more last nothing_known lines h.derived known rest d h.begins) in
    record {
      derived = h.derived ++ d ∷ [];
      sound = all_more last nothing_known lines h.derived known rest d h.begins h.sound k;
      front = record { known = and_theorem known d.theorem; rest = after; begins = begins_more lines h.derived known rest after d h.begins read k };
      count = f.0;
      short = subst (λ (b : List ℕ). f.0 ≤ length b) blocks f.1;
      grew = subst (λ (b : List ℕ). Grew old newer (take f.0 b)) blocks f.2;
    }

-- the next theorem is refused
pub stops_with : (lines : Rest) (old new : Option (List ℕ)) (known : Known) (rest after : Rest) (steps : ℕ) (t : TheoremView) (step : ℕ) (wanted : Wanted) (values : Option (List (Term × ℕ))) (names : Names)
    → History lines old known rest new steps → item_from known (end_line_number lines) None rest ≡ Ok (Some (OfTheorem t, after))
    → IsRefused (stated_by known.theorems) (as_view t.statement) t.script step wanted values
    → Some names ≡ slice_get (names_of_steps (stated_by known.theorems) (declared_names (as_view t.statement) t.names) t.script) (step - 1)
    → BlocksUpTo lines old new (Refuses lines t.title step wanted values names)
stops_with lines old new known rest after steps t step wanted values names h read refused named =
    ends_with lines old new known rest steps (Refuses lines t.title step wanted values names) h (t, after, read, record { titled = refl; refused = refused; named = named })

-- a line of the next theorem is too wide
pub widens_with : (lines : Rest) (old new : Option (List ℕ)) (known : Known) (rest after : Rest) (steps : ℕ) (t : TheoremView) (step : ℕ) (wanted : Wanted) (width : ℕ) (names : Names)
    → History lines old known rest new steps → item_from known (end_line_number lines) None rest ≡ Ok (Some (OfTheorem t, after))
    → IsTooWideAt (stated_by known.theorems) (as_view t.statement) t.script step wanted width
    → Some names ≡ slice_get (names_of_steps (stated_by known.theorems) (declared_names (as_view t.statement) t.names) t.script) (step - 1)
    → BlocksUpTo lines old new (Widens lines t.title step wanted width names)
widens_with lines old new known rest after steps t step wanted width names h read too_wide named =
    ends_with lines old new known rest steps (Widens lines t.title step wanted width names) h (t, after, read, record { titled = refl; too_wide = too_wide; named = named })

-- the bytes that were written are the block of this derivation
pub spelled_as : (old new : Option (List ℕ)) (xs ys : List ℕ) (known : List TitledStatement) (d : Derived) → xs ≡ ys → ys ≡ block_of known d → Grew old new xs → Grew old new (block_of known d)
spelled_as old new xs ys known d e f g = subst (λ (l : List ℕ). Grew old new l) (e ∙ f) g

pub front_spelled_as : (old new : Option (List ℕ)) (xs ys : List ℕ) (known : List TitledStatement) (d : Derived) → xs ≡ ys → ys ≡ block_of known d → GrewByFront old new xs → GrewByFront old new (block_of known d)
front_spelled_as old new xs ys known d e f g = subst (λ (l : List ℕ). GrewByFront old new l) (e ∙ f) g

-- the next theorem stops, or memory ran out
pub stopped : (lines : Rest) (old new : Option (List ℕ)) (known : Known) (rest after any : Rest) (steps : ℕ) (t : TheoremView) (stop : Stop) (b : Book) (r : Result (Option BookResult) Failure)
    → r ≡ result_of_stop t.title stop → History lines old known rest new steps → item_from known (end_line_number lines) None rest ≡ Ok (Some (OfTheorem t, after))
    → StopIs (stated_by known.theorems) (as_view t.statement) t.script stop → HasNames (stated_by known.theorems) (as_view t.statement) t.names t.script stop → Handles lines old any r b new
stopped lines old new known rest after any steps t (stops.Unlicensed step wanted values names) b r e h read s k =
    subst (λ (x : Result (Option BookResult) Failure). Handles lines old any x b new) (sym e) (stops_with lines old new known rest after steps t step wanted values names h read s k)
stopped lines old new known rest after any steps t (stops.TooWide step wanted width names) b r e h read s k =
    subst (λ (x : Result (Option BookResult) Failure). Handles lines old any x b new) (sym e) (widens_with lines old new known rest after steps t step wanted width names h read s k)
stopped lines old new known rest after any steps t stops.NoMemory b r e h read s k =
    subst (λ (x : Result (Option BookResult) Failure). Handles lines old any x b new) (sym e) (breaks_off lines old new known rest steps h)
