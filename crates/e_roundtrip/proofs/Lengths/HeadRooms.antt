-- The lines of a statement are short.
use Rattle.std.proofs.Common.{◌≡◌, ℕ, suc, ◌+◌, ◌*◌, ◌≤◌, Bool, true, false, cond, List, [], ◌∷◌, ◌++◌, length, map, refl, ap, arith}
use Rattle.std.specs.Prelude.{codes}
use Rattle.std.specs.List.{list_all, AllByRecursion}
use Rattle.std.proofs.lemmas.Bool.{and_parts}
use Rattle.e_text.specs.Lines.{AreShort}
use Rattle.e_literal.specs.declared.object.Sort.{Sort}
use Rattle.e_literal.specs.declared.object.Sort.TheVariants as sorts
use Rattle.e_literal.specs.declared.object.Obj.{Obj}
use Rattle.e_literal.specs.declared.object.Scope.{Scope}
use Rattle.e_literal.specs.declared.literal.Lit.{Lit}
use Rattle.e_literal.specs.WellFormed.{is_well_formed}
use Rattle.e_literal.specs.Scopes.{same_sort, nothing, with_one, next_objects}
use Rattle.e_literal.specs.Use.{scope_of}
use Rattle.e_literal.proofs.GrownScopes.{total_grown}
use Rattle.e_theorem.specs.declared.statement.Statement.{Statement}
use Rattle.e_theorem.specs.Statements.{as_view}
use Rattle.e_deriv.specs.declared.names.Names.{Names}
use Rattle.e_line.specs.declared.raw_line.RawLine.{RawLine}
use Rattle.e_line.specs.declared.raw_line.RawLine.TheVariants as rawlines
use Rattle.e_names.specs.TitledStatements.{TitledStatement}
use Rattle.e_book.specs.TheoremViews.{TheoremView}
use Rattle.e_line.specs.Canonical.{lit_words, sort_word, line_of}
use Rattle.e_names.specs.Canonical.{raw_of, name_of_object, given_raw_line, show_raw_line}
use Rattle.e_book.specs.Canonical.{Group, group, grouped_before, sort_groups, declare_raw_line, made_raw_line, declared_objects, made_objects, given_raw_lines, shown_raw_lines, head_raw_lines}
use Rattle.e_book.specs.HasSpelling.{HasSpelling}
use Rattle.e_names.proofs.resolution.Lookups.{InOrder, in_order}
use Rattle.e_roundtrip.proofs.Lengths.Rooms.{is_short, short_title, Room, room_none, room_word, room_append, room_line, IsShortLine}
use Rattle.e_roundtrip.proofs.Lengths.LitRooms.{short_object, room_one}
use Rattle.e_roundtrip.proofs.Lengths.RawLineRooms.{AllWords, room_words}

-- ---- how many objects

abbrev total : Scope → ℕ
total s = s.points + s.lines + s.circles

-- one object for each sort
pub length_next : (s : Scope) (sorts : List Sort) → length (next_objects s sorts) ≡ length sorts
length_next s [] = refl
length_next s (sort ∷ sorts) = ap suc (length_next (with_one s sort) sorts)

-- a statement with few objects
abbrev pub IsFew : Statement → Type 0
IsFew t = length t.declared + length t.made ≤ 80

-- a theorem with a spelling has few objects
pub few_objects : (known : List TitledStatement) (t : TheoremView) → HasSpelling known t → IsFew t.statement
few_objects known t h =
    let s = scope_of (as_view t.statement) in
    let inner : total s ≡ length t.statement.declared = omega (arith, total_grown nothing t.statement.declared) in
    omega (arith, inner, total_grown s t.statement.made, ap total h.fits.scope, h.fits.points, h.fits.lines, h.fits.circles)

-- ---- groups of names

-- a group of at most this many short names
record IsGroup (n : ℕ) (g : Group) : Type 0 where
  words : AllWords g.names
  few : length g.names ≤ n

abbrev AreGroups : ℕ → List Group → Type 0
AreGroups n gs = AllByRecursion (IsGroup n) gs

-- with room for one more
wider : (n : ℕ) (gs : List Group) → AreGroups n gs → AreGroups (suc n) gs
wider n [] h = tt
wider n (g ∷ gs) h = (record { words = h.0.words; few = omega (arith, h.0.few) }, wider n gs h.1)

-- one more name goes into the first group, or before it
put_by : (b : Bool) (n : ℕ) (sort : Sort) (name : List ℕ) (g : Group) (gs : List Group) → is_short 16 name ≡ true → AreGroups n (g ∷ gs) → AreGroups (suc n) (cond b (group g.sort (name ∷ g.names) ∷ gs) (group sort (name ∷ []) ∷ g ∷ gs))
put_by true n sort name g gs e h = (record { words = (e, h.0.words); few = omega (arith, h.0.few) }, wider n gs h.1)
put_by false n sort name g gs e h = (record { words = (e, tt); few = omega arith }, wider n (g ∷ gs) h)

put : (n : ℕ) (sort : Sort) (name : List ℕ) (gs : List Group) → is_short 16 name ≡ true → AreGroups n gs → AreGroups (suc n) (grouped_before sort name gs)
put n sort name [] e h = (record { words = (e, tt); few = omega arith }, tt)
put n sort name (g ∷ gs) e h = put_by (same_sort sort g.sort) n sort name g gs e h

-- the groups of objects
groups_of : (ns : Names) (os : List Obj) → InOrder ns → AreGroups (length os) (sort_groups ns os)
groups_of ns [] o = tt
groups_of ns (x ∷ os) o = put (length os) x.sort (name_of_object ns x) (sort_groups ns os) (short_object ns x o) (groups_of ns os o)

-- the word of a sort
short_sort : (s : Sort) → is_short 16 (sort_word s) ≡ true
short_sort sorts.Point = refl
short_sort sorts.Line = refl
short_sort sorts.Circle = refl

-- ---- lines

-- a line of declared objects
short_declare : (n : ℕ) (g : Group) → n ≤ 80 → IsGroup n g → IsShortLine (line_of (declare_raw_line g))
short_declare n g le h =
    let k = 17 * length g.names in
    room_line (16 + 1 + k) _ (omega (arith, le, h.few)) (room_word 16 k (sort_word g.sort) g.names (short_sort g.sort) (room_words g.names h.words))

-- a line of made objects
short_made : (n : ℕ) (g : Group) → n ≤ 80 → IsGroup n g → IsShortLine (line_of (made_raw_line g))
short_made n g le h =
    let k = 17 * length g.names in
    room_line (4 + 1 + (16 + 1 + k)) _ (omega (arith, le, h.few)) (room_word 4 (16 + 1 + k) (codes "made") _ refl (room_word 16 k (sort_word g.sort) g.names (short_sort g.sort) (room_words g.names h.words)))

-- a line of one literal
lit_line : (word : List ℕ) (ns : Names) (l : Lit) → is_short 16 word ≡ true → InOrder ns → is_well_formed l ≡ true → Room 2194 (word ∷ (lit_words (raw_of ns l) ++ []))
lit_line word ns l e o g = room_word 16 2177 word _ e (room_append 2177 0 (lit_words (raw_of ns l)) [] (room_one ns l o g) room_none)

-- the lines of these forms
abbrev AreShortForms : List RawLine → Type 0
AreShortForms fs = AreShort 262144 (map line_of fs)

-- forms after forms
forms_append : (fs gs : List RawLine) → AreShortForms fs → AreShortForms gs → AreShortForms (fs ++ gs)
forms_append [] gs h k = k
forms_append (f ∷ fs) gs h k = (h.0, forms_append fs gs h.1 k)

-- all lines of declared objects
all_declare : (n : ℕ) (gs : List Group) → n ≤ 80 → AreGroups n gs → AreShortForms (map declare_raw_line gs)
all_declare n [] le h = tt
all_declare n (g ∷ gs) le h = (short_declare n g le h.0, all_declare n gs le h.1)

-- all lines of made objects
all_made : (n : ℕ) (gs : List Group) → n ≤ 80 → AreGroups n gs → AreShortForms (map made_raw_line gs)
all_made n [] le h = tt
all_made n (g ∷ gs) le h = (short_made n g le h.0, all_made n gs le h.1)

-- all lines of given literals
all_given : (ns : Names) (ls : List Lit) → InOrder ns → list_all is_well_formed ls ≡ true → AreShortForms (map (given_raw_line ns) ls)
all_given ns [] o g = tt
all_given ns (l ∷ ls) o g =
    let p = and_parts (is_well_formed l) (list_all is_well_formed ls) g in
    (room_line 2194 _ (omega arith) (lit_line (codes "given") ns l refl o p.0), all_given ns ls o p.1)

-- all lines of shown literals
all_shown : (ns : Names) (ls : List Lit) → InOrder ns → list_all is_well_formed ls ≡ true → AreShortForms (map (show_raw_line ns) ls)
all_shown ns [] o g = tt
all_shown ns (l ∷ ls) o g =
    let p = and_parts (is_well_formed l) (list_all is_well_formed ls) g in
    (room_line 2194 _ (omega arith) (lit_line (codes "show") ns l refl o p.0), all_shown ns ls o p.1)

-- ---- the whole

-- the lines from the title to the word proof
pub short_head : (known : List TitledStatement) (t : TheoremView) → HasSpelling known t → AreShort 262144 (map line_of (head_raw_lines t))
short_head known t h =
    let ns = t.names in
    let st = t.statement in
    let o = in_order ns h.point_names h.line_names h.circle_names h.fits.differ in
    let few = few_objects known t h in
    let declared = declared_objects st in
    let made = made_objects st in
    let proof : List RawLine = rawlines.Proof ∷ [] in
    let given = forms_append (map declare_raw_line (sort_groups ns declared)) (map (given_raw_line ns) st.given)
    (all_declare (length declared) (sort_groups ns declared) (omega (arith, few, length_next nothing st.declared)) (groups_of ns declared o)) (all_given ns st.given o h.fits.good_given) in
    let shown = forms_append (map made_raw_line (sort_groups ns made)) (map (show_raw_line ns) st.shown)
    (all_made (length made) (sort_groups ns made) (omega (arith, few, length_next (scope_of (as_view st)) st.made)) (groups_of ns made o)) (all_shown ns st.shown o h.fits.good_shown) in
    let last : AreShortForms proof = (room_line 6 _ (omega arith) (room_word 5 0 (codes "proof") [] refl room_none), tt) in (
      room_line 33 _ (omega arith) (room_word 7 25 (codes "theorem") _ refl (room_word 24 0 t.title [] (short_title t.title h.title) room_none)),
      forms_append (given_raw_lines ns st) (shown_raw_lines ns st ++ proof) given (forms_append (shown_raw_lines ns st) proof shown last),
    )
