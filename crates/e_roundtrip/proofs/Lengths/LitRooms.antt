-- How many bytes literals take on a line.
use Rattle.std.proofs.Common.{◌≡◌, ℕ, zero, suc, ◌+◌, ◌*◌, ◌≤◌, Bool, true, false, cond, leb, eqb, List, [], ◌∷◌, ◌++◌, length, map, refl, arith, length-append}
use Rattle.std.specs.Prelude.{codes, decimal}
use Rattle.std.specs.List.{list_all}
use Rattle.std.proofs.lemmas.Bool.{leb-true, and_parts}
use Rattle.e_literal.specs.declared.object.Sort.{Sort}
use Rattle.e_literal.specs.declared.object.Sort.TheVariants as sorts
use Rattle.e_literal.specs.declared.object.Obj.{Obj}
use Rattle.e_literal.specs.declared.object.Kind.{Kind as Magnitude}
use Rattle.e_literal.specs.declared.object.Term.{Term}
use Rattle.e_literal.specs.declared.object.Term.TheVariants as terms
use Rattle.e_literal.specs.declared.object.Mono.{Mono}
use Rattle.e_literal.specs.declared.literal.Atom.{Atom}
use Rattle.e_literal.specs.declared.literal.Atom.TheVariants as atoms
use Rattle.e_literal.specs.declared.literal.Lit.{Lit}
use Rattle.e_literal.specs.Literal.{kind_of_term, kind_of_sums}
use Rattle.e_literal.specs.WellFormed.{same_kind, is_bounded_coefficient, is_well_formed_atom, is_well_formed}
use Rattle.e_deriv.specs.declared.names.Names.{Names}
use Rattle.e_deriv.specs.Naming.{names_of_sort}
use Rattle.e_line.specs.Limits.{monomials, count_monomials}
use Rattle.e_line.specs.Canonical.{term_words, coefficient_words, mono_words, more_monos, sum_words, sums_words, atom_words, lit_words, more_words, lits_words}
use Rattle.e_names.specs.Canonical.{name_at, name_of_object, raw_term, raw_mono, raw_sum, raw_atom, raw_signed, raw_of}
use Rattle.e_line.specs.Names.{AreNames}
use Rattle.e_names.proofs.resolution.Lookups.{InOrder}
use Rattle.e_names.proofs.literals.ComparedSums.{is_bounded_mono, AreBounded, good_sums}
use Rattle.e_names.proofs.literals.ShortLits.{count_first}
use Rattle.e_roundtrip.proofs.Lengths.Rooms.{is_short, short_name, short_number, Room, room_none, room_more, room_word, room_append}

-- ---- names of objects

-- the name at a place, or the word for an object without one
pub short_at : (names : List (List ℕ)) (i : ℕ) → AreNames names → is_short 16 (name_at names i) ≡ true
short_at [] i h = refl
short_at (n ∷ names) zero h = short_name n h.0
short_at (n ∷ names) (suc i) h = short_at names i h.1

-- the name of an object
pub short_object : (ns : Names) (o : Obj) → InOrder ns → is_short 16 (name_of_object ns o) ≡ true
short_object ns o h = by_sort o.sort
  where
    by_sort : (s : Sort) → is_short 16 (name_at (names_of_sort ns s) o.num) ≡ true
    by_sort sorts.Point = short_at ns.points o.num h.point_names
    by_sort sorts.Line = short_at ns.lines o.num h.line_names
    by_sort sorts.Circle = short_at ns.circles o.num h.circle_names

-- the names of objects
pub room_objects : (ns : Names) (os : List Obj) → InOrder ns → Room (17 * length os) (map (name_of_object ns) os)
room_objects ns [] h = room_none
room_objects ns (o ∷ os) h =
    room_more (16 + 1 + 17 * length os) (17 * length (o ∷ os)) (name_of_object ns o ∷ map (name_of_object ns) os) (omega arith)
    (room_word 16 (17 * length os) (name_of_object ns o) (map (name_of_object ns) os) (short_object ns o h) (room_objects ns os h))

-- ---- words by their number

-- one, two or three words of at most 16 bytes
one : (w : List ℕ) → is_short 16 w ≡ true → Room 17 (w ∷ [])
one w h = room_word 16 0 w [] h room_none

two : (v w : List ℕ) → is_short 16 v ≡ true → is_short 16 w ≡ true → Room 34 (v ∷ w ∷ [])
two v w g h = room_word 16 17 v (w ∷ []) g (one w h)

three : (u v w : List ℕ) → is_short 16 u ≡ true → is_short 16 v ≡ true → is_short 16 w ≡ true → Room 51 (u ∷ v ∷ w ∷ [])
three u v w f g h = room_word 16 34 u (v ∷ w ∷ []) f (two v w g h)

-- ---- sums

-- a term
pub room_term : (ns : Names) (t : Term) → InOrder ns → Room 56 (term_words (raw_term ns t))
room_term ns (terms.Seg a b) h =
    let p = short_at ns.points in
    room_more 38 56 _ (omega arith) (room_word 3 34 (codes "seg") _ refl (two _ _ (p a h.point_names) (p b h.point_names)))
room_term ns (terms.Ang a b c) h =
    let p = short_at ns.points in
    room_more 55 56 _ (omega arith) (room_word 3 51 (codes "ang") _ refl (three _ _ _ (p a h.point_names) (p b h.point_names) (p c h.point_names)))
room_term ns (terms.Area a b c) h =
    let p = short_at ns.points in
    room_word 4 51 (codes "area") _ refl (three _ _ _ (p a h.point_names) (p b h.point_names) (p c h.point_names))
room_term ns terms.Right h = room_more 6 56 _ (omega arith) (room_word 5 0 (codes "right") [] refl room_none)

-- a coefficient, at most 1,000,000
coefficient_by : (b : Bool) (n : ℕ) → is_bounded_coefficient n ≡ true → Room 8 (cond b [] (decimal n ∷ []))
coefficient_by true n h = room_more 0 8 [] (omega arith) room_none
coefficient_by false n h =
    let le = leb-true n 1000000 (and_parts (leb 1 n) (leb n 1000000) h).1 in
    room_word 7 0 (decimal n) [] (short_number 7 n (omega arith) (omega (arith, le)) (omega (arith, le))) room_none

good_coefficient : (k : Magnitude) (m : Mono) → is_bounded_mono k m ≡ true → is_bounded_coefficient m.coeff ≡ true
good_coefficient k m g = (and_parts (same_kind (kind_of_term m.term) k) (is_bounded_coefficient m.coeff) g).1

-- a monomial
room_mono : (ns : Names) (k : Magnitude) (m : Mono) → InOrder ns → is_bounded_mono k m ≡ true → Room 64 (mono_words (raw_mono ns m))
room_mono ns k m h g = room_append 8 56 (coefficient_words m.coeff) (term_words (raw_term ns m.term)) (coefficient_by (eqb m.coeff 1) m.coeff (good_coefficient k m g)) (room_term ns m.term h)

-- monomials, each after a plus
room_monos : (ns : Names) (k : Magnitude) (ms : List Mono) → InOrder ns → AreBounded k ms → Room (66 * length ms) (more_monos (raw_sum ns ms))
room_monos ns k [] h g = room_none
room_monos ns k (m ∷ ms) h g =
    let p = and_parts (is_bounded_mono k m) (list_all (is_bounded_mono k) ms) g in
    let n = 66 * length ms in
    room_more (1 + 1 + (64 + n)) (66 * length (m ∷ ms)) (more_monos (raw_sum ns (m ∷ ms))) (omega arith)
    (room_word 1 (64 + n) (codes "+") _ refl (room_append 64 n (mono_words (raw_mono ns m)) (more_monos (raw_sum ns ms)) (room_mono ns k m h p.0) (room_monos ns k ms h p.1)))

-- a sum
room_sum : (ns : Names) (k : Magnitude) (ms : List Mono) → InOrder ns → AreBounded k ms → Room (2 + 66 * length ms) (sum_words (raw_sum ns ms))
room_sum ns k [] h g = room_word 1 0 (codes "0") [] refl room_none
room_sum ns k (m ∷ ms) h g =
    let p = and_parts (is_bounded_mono k m) (list_all (is_bounded_mono k) ms) g in
    let n = 66 * length ms in
    room_more (64 + n) (2 + 66 * length (m ∷ ms)) (sum_words (raw_sum ns (m ∷ ms))) (omega arith)
    (room_append 64 n (mono_words (raw_mono ns m)) (more_monos (raw_sum ns ms)) (room_mono ns k m h p.0) (room_monos ns k ms h p.1))

-- two sums with a sign between them
room_sums : (ns : Names) (k : Magnitude) (x y : List Mono) (sign : List ℕ) → InOrder ns → is_short 2 sign ≡ true → AreBounded k x → AreBounded k y → Room (7 + 66 * (length x + length y)) (sums_words (raw_sum ns x) sign (raw_sum ns y))
room_sums ns k x y sign h s g f =
    let n = 66 * length y in
    room_more (2 + 66 * length x + (2 + 1 + (2 + n))) (7 + 66 * (length x + length y)) _ (omega arith)
    (room_append (2 + 66 * length x) (2 + 1 + (2 + n)) (sum_words (raw_sum ns x)) (sign ∷ sum_words (raw_sum ns y)) (room_sum ns k x h g) (room_word 2 (2 + n) sign _ s (room_sum ns k y h f)))

-- ---- literals

-- two names with a sign between them
short_sign : (v sign w : List ℕ) → is_short 16 v ≡ true → is_short 2 sign ≡ true → is_short 16 w ≡ true → Room 61 (v ∷ sign ∷ w ∷ [])
short_sign v sign w f g h = room_more 37 61 _ (omega arith) (room_word 16 20 v (sign ∷ w ∷ []) f (room_word 2 17 sign (w ∷ []) g (one w h)))

-- two or three names after a word
after_two : (word v w : List ℕ) → is_short 9 word ≡ true → is_short 16 v ≡ true → is_short 16 w ≡ true → Room 61 (word ∷ v ∷ w ∷ [])
after_two word v w f g h = room_more 44 61 _ (omega arith) (room_word 9 34 word (v ∷ w ∷ []) f (two v w g h))

after_three : (word u v w : List ℕ) → is_short 9 word ≡ true → is_short 16 u ≡ true → is_short 16 v ≡ true → is_short 16 w ≡ true → Room 61 (word ∷ u ∷ v ∷ w ∷ [])
after_three word u v w e f g h = room_word 9 51 word (u ∷ v ∷ w ∷ []) e (three u v w f g h)

-- a comparison of sums, with at most this many bytes beside its monomials
compared : (ns : Names) (x y : List Mono) (sign : List ℕ) → InOrder ns → is_short 2 sign ≡ true → is_well_formed_atom (atoms.MagEq x y) ≡ true → Room (61 + 66 * length (x ++ y)) (sums_words (raw_sum ns x) sign (raw_sum ns y))
compared ns x y sign h s good =
    let g = good_sums x y good in
    room_more (7 + 66 * (length x + length y)) (61 + 66 * length (x ++ y)) _ (omega (arith, length-append x y)) (room_sums ns (kind_of_sums x y) x y sign h s g.left g.right)

-- the same with the sums turned
turned : (ns : Names) (x y : List Mono) (sign : List ℕ) → InOrder ns → is_short 2 sign ≡ true → is_well_formed_atom (atoms.MagEq x y) ≡ true → Room (61 + 66 * length (x ++ y)) (sums_words (raw_sum ns y) sign (raw_sum ns x))
turned ns x y sign h s good =
    let g = good_sums x y good in
    room_more (7 + 66 * (length y + length x)) (61 + 66 * length (x ++ y)) _ (omega (arith, length-append x y)) (room_sums ns (kind_of_sums x y) y x sign h s g.right g.left)

-- an atom
room_atom : (ns : Names) (a : Atom) → InOrder ns → is_well_formed_atom a ≡ true → Room (61 + 66 * monomials a) (atom_words (raw_atom ns a))
room_atom ns (atoms.On a l) h g = after_two (codes "on") _ _ refl (short_at ns.points a h.point_names) (short_at ns.lines l h.line_names)
room_atom ns (atoms.OnC a c) h g = after_two (codes "on") _ _ refl (short_at ns.points a h.point_names) (short_at ns.circles c h.circle_names)
room_atom ns (atoms.Inside a c) h g = after_two (codes "inside") _ _ refl (short_at ns.points a h.point_names) (short_at ns.circles c h.circle_names)
room_atom ns (atoms.Center a c) h g = after_two (codes "center") _ _ refl (short_at ns.points a h.point_names) (short_at ns.circles c h.circle_names)
room_atom ns (atoms.Between a b c) h g =
    after_three (codes "between") _ _ _ refl (short_at ns.points a h.point_names) (short_at ns.points b h.point_names) (short_at ns.points c h.point_names)
room_atom ns (atoms.Same a b l) h g =
    after_three (codes "same-side") _ _ _ refl (short_at ns.points a h.point_names) (short_at ns.points b h.point_names) (short_at ns.lines l h.line_names)
room_atom ns (atoms.MeetLL l m) h g = after_two (codes "meets") _ _ refl (short_at ns.lines l h.line_names) (short_at ns.lines m h.line_names)
room_atom ns (atoms.MeetLC l c) h g = after_two (codes "meets") _ _ refl (short_at ns.lines l h.line_names) (short_at ns.circles c h.circle_names)
room_atom ns (atoms.MeetCC c d) h g = after_two (codes "meets") _ _ refl (short_at ns.circles c h.circle_names) (short_at ns.circles d h.circle_names)
room_atom ns (atoms.EqP a b) h g = short_sign _ (codes "=") _ (short_at ns.points a h.point_names) refl (short_at ns.points b h.point_names)
room_atom ns (atoms.EqL l m) h g = short_sign _ (codes "=") _ (short_at ns.lines l h.line_names) refl (short_at ns.lines m h.line_names)
room_atom ns (atoms.EqC c d) h g = short_sign _ (codes "=") _ (short_at ns.circles c h.circle_names) refl (short_at ns.circles d h.circle_names)
room_atom ns (atoms.MagEq x y) h g = compared ns x y (codes "=") h refl g
room_atom ns (atoms.MagLt x y) h g = compared ns x y (codes "<") h refl g

-- after the word not, or without it
with_not : (n : ℕ) (ws : List (List ℕ)) → Room (61 + 66 * n) ws → Room (65 + 66 * n) (codes "not" ∷ ws)
with_not n ws r = room_more (3 + 1 + (61 + 66 * n)) (65 + 66 * n) _ (omega arith) (room_word 3 (61 + 66 * n) (codes "not") ws refl r)

without_not : (n : ℕ) (ws : List (List ℕ)) → Room (61 + 66 * n) ws → Room (65 + 66 * n) ws
without_not n ws r = room_more (61 + 66 * n) (65 + 66 * n) ws (omega arith) r

-- an atom or its negation
room_signed : (ns : Names) (neg : Bool) (a : Atom) → InOrder ns → is_well_formed_atom a ≡ true → Room (65 + 66 * monomials a) (lit_words (raw_signed ns neg a))
room_signed ns false a h g = without_not (monomials a) (atom_words (raw_atom ns a)) (room_atom ns a h g)
room_signed ns true (atoms.EqP a b) h g = without_not 0 _ (short_sign _ (codes "!=") _ (short_at ns.points a h.point_names) refl (short_at ns.points b h.point_names))
room_signed ns true (atoms.EqL l m) h g = without_not 0 _ (short_sign _ (codes "!=") _ (short_at ns.lines l h.line_names) refl (short_at ns.lines m h.line_names))
room_signed ns true (atoms.EqC c d) h g = without_not 0 _ (short_sign _ (codes "!=") _ (short_at ns.circles c h.circle_names) refl (short_at ns.circles d h.circle_names))
room_signed ns true (atoms.MagEq x y) h g = without_not (length (x ++ y)) _ (compared ns x y (codes "!=") h refl g)
room_signed ns true (atoms.MagLt x y) h g = without_not (length (x ++ y)) _ (turned ns x y (codes "<=") h refl g)
room_signed ns true (atoms.On a l) h g = with_not 0 _ (room_atom ns (atoms.On a l) h g)
room_signed ns true (atoms.OnC a c) h g = with_not 0 _ (room_atom ns (atoms.OnC a c) h g)
room_signed ns true (atoms.Inside a c) h g = with_not 0 _ (room_atom ns (atoms.Inside a c) h g)
room_signed ns true (atoms.Center a c) h g = with_not 0 _ (room_atom ns (atoms.Center a c) h g)
room_signed ns true (atoms.Between a b c) h g = with_not 0 _ (room_atom ns (atoms.Between a b c) h g)
room_signed ns true (atoms.Same a b l) h g = with_not 0 _ (room_atom ns (atoms.Same a b l) h g)
room_signed ns true (atoms.MeetLL l m) h g = with_not 0 _ (room_atom ns (atoms.MeetLL l m) h g)
room_signed ns true (atoms.MeetLC l c) h g = with_not 0 _ (room_atom ns (atoms.MeetLC l c) h g)
room_signed ns true (atoms.MeetCC c d) h g = with_not 0 _ (room_atom ns (atoms.MeetCC c d) h g)

-- a literal has at most 65 bytes beside its monomials, and 66 for each
pub room_lit : (ns : Names) (l : Lit) → InOrder ns → is_well_formed l ≡ true → Room (65 + 66 * monomials l.atom) (lit_words (raw_of ns l))
room_lit ns l h g = room_signed ns l.neg l.atom h g

-- there are at most 32
few_monomials : (a : Atom) → is_well_formed_atom a ≡ true → monomials a ≤ 32
few_monomials (atoms.MagEq x y) g = omega (arith, (good_sums x y g).short, length-append x y)
few_monomials (atoms.MagLt x y) g = omega (arith, (good_sums x y g).short, length-append x y)
few_monomials a g = omega arith

-- a well-formed literal
pub room_one : (ns : Names) (l : Lit) → InOrder ns → is_well_formed l ≡ true → Room 2177 (lit_words (raw_of ns l))
room_one ns l h g = room_more (65 + 66 * monomials l.atom) 2177 _ (omega (arith, few_monomials l.atom g)) (room_lit ns l h g)

-- ---- lists of literals

-- literals, each after a semicolon
more_room : (ns : Names) (ls : List Lit) → InOrder ns → list_all is_well_formed ls ≡ true → Room (67 * length ls + 66 * count_monomials ls) (more_words (map (raw_of ns) ls))
more_room ns [] h g = room_none
more_room ns (l ∷ ls) h g =
    let p = and_parts (is_well_formed l) (list_all is_well_formed ls) g in
    let n = 67 * length ls + 66 * count_monomials ls in
    let m = 65 + 66 * monomials l.atom in
    room_more (1 + 1 + (m + n)) (67 * length (l ∷ ls) + 66 * count_monomials (l ∷ ls)) _ (omega (arith, count_first l ls))
    (room_word 1 (m + n) (codes ";") _ refl (room_append m n (lit_words (raw_of ns l)) (more_words (map (raw_of ns) ls)) (room_lit ns l h p.0) (more_room ns ls h p.1)))

-- literals with a semicolon between two
pub room_lits : (ns : Names) (ls : List Lit) → InOrder ns → list_all is_well_formed ls ≡ true → Room (67 * length ls + 66 * count_monomials ls) (lits_words (map (raw_of ns) ls))
room_lits ns [] h g = room_none
room_lits ns (l ∷ ls) h g =
    let p = and_parts (is_well_formed l) (list_all is_well_formed ls) g in
    let n = 67 * length ls + 66 * count_monomials ls in
    let m = 65 + 66 * monomials l.atom in
    room_more (m + n) (67 * length (l ∷ ls) + 66 * count_monomials (l ∷ ls)) _ (omega (arith, count_first l ls))
    (room_append m n (lit_words (raw_of ns l)) (more_words (map (raw_of ns) ls)) (room_lit ns l h p.0) (more_room ns ls h p.1))
