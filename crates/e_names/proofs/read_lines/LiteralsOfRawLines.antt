-- What the forms of lines are known to be, and the literals that their names resolve to.
use Rattle.std.proofs.Common.{◌≡◌, ℕ, ◌+◌, ◌<◌, Bool, true, false, eqb, List, [], ◌∷◌, length, take, drop, Option, Result, Ok, refl, subst, ◌∙◌, arith}
use Rattle.std.specs.Prelude.{codes}
use Rattle.std.specs.List.{slice_split}
use Rattle.std.proofs.lemmas.List.Splits.{length-slice_split}
use Rattle.e_text.specs.Names.{is_title, name_of}
use Rattle.e_literal.specs.declared.object.Sort.{Sort}
use Rattle.e_literal.specs.declared.object.Sort.TheVariants.{Point, Line, Circle}
use Rattle.e_literal.specs.declared.literal.Atom.{Atom}
use Rattle.e_literal.specs.declared.literal.Atom.TheVariants as atoms
use Rattle.e_literal.specs.declared.literal.Lit.{Lit}
use Rattle.e_clause.specs.declared.cert.By.{By}
use Rattle.e_clause.specs.Instance.{number_of_rule}
use Rattle.e_clause.specs.Sigs.{sig_of}
use Rattle.e_construct.specs.declared.construction.Shape.{Shape}
use Rattle.e_construct.specs.Lines.{pieces}
use Rattle.e_deriv.specs.declared.names.Names.{Names}
use Rattle.e_line.specs.declared.fault.FaultKind.{FaultKind}
use Rattle.e_line.specs.declared.literal.RawLit.{RawLit}
use Rattle.e_line.specs.declared.literal.RawAtom.{RawAtom}
use Rattle.e_line.specs.declared.literal.RawAtom.TheVariants as raw
use Rattle.e_line.specs.declared.lets.RawLet.{RawLet}
use Rattle.e_line.specs.declared.superposes.RawSuperpose.{RawSuperpose}
use Rattle.e_line.specs.declared.raw_line.RawLine.{RawLine}
use Rattle.e_line.specs.declared.raw_line.RawLine.TheVariants as rawlines
use Rattle.e_line.specs.Reading.{◌>>=◌, or_malformed, first_title, cut_at, names_of, not_empty, some_names, names_after}
use Rattle.e_line.specs.Literals.{lit_of, is_diagram_raw, is_semicolon, lits_of}
use Rattle.e_line.specs.Superposes.{superpose_pieces, raw_superpose_of, superpose_of}
use Rattle.e_line.specs.Lets.{are_words_of, new_words, argument_words, shapes_of, let_named, let_of}
use Rattle.e_line.specs.declared.applies.RawApply.{RawApply}
use Rattle.e_line.specs.Applies.{arguments_of, apply_of}
use Rattle.e_line.specs.RawLines.{raw_line_of}
use Rattle.e_names.specs.Scope.{used_object, number_of_name, on_sort, line_meets, meets_from, equal_at, atom_in, negated_in, lit_in, args_in, by_in, known_rule, variables_of, right_count}
use Rattle.e_names.specs.Fits.{is_diagram_atom, is_diagram_lit}
use Rattle.e_line.specs.Names.{AreNames}
use Rattle.e_line.proofs.base.Bound.{bind_ok, ok_is, read_ok, each_length}
use Rattle.e_line.proofs.base.Choices.{passed}
use Rattle.e_line.proofs.read_lines.RawLinesByWord.{OfEachForm, form_by_word}
use Rattle.e_line.proofs.read_lines.SumsOfLiterals.{AtomSaid, LitsSaid, lit_said, lits_said, diagram_said}
use Rattle.e_line.proofs.read_lines.TitlesOfWords.{new_count, names_said, title_said}

-- ---- forms

-- what spelling alone says of a form
abbrev pub Said : RawLine → Type 0
Said (rawlines.Theorem t) = is_title t ≡ true
Said (rawlines.Declare sort ns) = AreNames ns
Said (rawlines.Made sort ns) = AreNames ns
Said (rawlines.Let l) = AreNames l.new
Said (rawlines.Apply a) = (is_title a.title ≡ true) × AreNames a.new
Said (rawlines.Given raws) = LitsSaid raws
Said (rawlines.Show raws) = (0 < length raws) × LitsSaid raws
Said (rawlines.By r ns l) = is_diagram_raw l.atom ≡ true
Said (rawlines.Hence l) = AtomSaid l.atom
Said (rawlines.Claim raws) = (0 < length raws) × LitsSaid raws
Said (rawlines.Superpose s) = AreNames s.new × (length s.new ≡ 2) × (0 < length s.shown) × LitsSaid s.shown
Said (rawlines.Cases l) = AtomSaid l.atom
Said f = Unit {0}

not_empty_said : (ns ms : List (List ℕ)) → AreNames ns → not_empty ns ≡ Ok ms → AreNames ms
not_empty_said [] ms h e = absurd cc
not_empty_said (n ∷ ns) ms h e = subst AreNames (ok_is (n ∷ ns) ms e) h

some_names_said : (ws ns : List (List ℕ)) → some_names ws ≡ Ok ns → AreNames ns
unfolding some_names
some_names_said ws ns e =
    let a = bind_ok (names_of ws) (λ ns. not_empty ns) ns e in
    not_empty_said a.0 ns (names_said ws a.0 a.1) a.2

let_named_said : (shapes : List Shape) (words avoid : List (List ℕ)) (l : RawLet) → let_named shapes words avoid ≡ Ok l → AreNames l.new
unfolding let_named
let_named_said [] words avoid l e = absurd cc
let_named_said (s ∷ ss) words avoid l e =
    let made : List (List ℕ) → List (List ℕ) → RawLet = λ new args. record { shapes = s ∷ ss; new = new; args = args; avoid = avoid } in
    let a = bind_ok (names_of (new_words (pieces s) words)) (λ new. names_of (argument_words (pieces s) words) >>= λ args. read_ok (made new args)) l e in
    let b = bind_ok (names_of (argument_words (pieces s) words)) (λ args. read_ok (made a.0 args)) l a.2 in
    subst (λ (x : RawLet). AreNames x.new) (ok_is (made a.0 b.0) l b.2) (names_said (new_words (pieces s) words) a.0 a.1)

let_said : (ws : List (List ℕ)) (l : RawLet) → let_of ws ≡ Ok l → AreNames l.new
unfolding let_of
let_said ws l e =
    let parts = cut_at (codes "avoid") ws in
    let rest : List (List ℕ) → Result RawLet FaultKind = λ avoid. let_named (shapes_of parts.2 parts.0) parts.0 avoid in
    let b = bind_ok (names_after parts.2 parts.1) rest l e in
    let_named_said (shapes_of parts.2 parts.0) parts.0 b.0 l b.2

after_as_said : (b : Bool) (ws ns : List (List ℕ)) → names_after b ws ≡ Ok ns → AreNames ns
after_as_said false ws ns e = subst AreNames (ok_is [] ns e) tt
after_as_said true ws ns e = some_names_said ws ns e

apply_said : (ws : List (List ℕ)) (a : RawApply) → apply_of ws ≡ Ok a → (is_title a.title ≡ true) × AreNames a.new
unfolding apply_of
apply_said ws a e =
    let made : List ℕ → List (Option (List ℕ)) → List (List ℕ) → RawApply = λ t args new. record { title = t; args = args; new = new } in
    let rest : List ℕ × List (List ℕ) → Result RawApply FaultKind = λ t. arguments_of (cut_at (codes "as") t.1).0 >>= λ args. names_after (cut_at (codes "as") t.1).2 (cut_at (codes "as") t.1).1 >>= λ new. read_ok (made t.0 args new) in
    let t = bind_ok (first_title ws) rest a e in
    let parts = cut_at (codes "as") t.0.1 in
    let args = bind_ok (arguments_of parts.0) (λ args. names_after parts.2 parts.1 >>= λ new. read_ok (made t.0.0 args new)) a t.2 in
    let new = bind_ok (names_after parts.2 parts.1) (λ new. read_ok (made t.0.0 args.0 new)) a args.2 in
    subst (λ (x : RawApply). (is_title x.title ≡ true) × AreNames x.new) (ok_is (made t.0.0 args.0 new.0) a new.2)
    (title_said ws t.0 t.1, after_as_said parts.2 parts.1 new.0 new.1)

pub some_lits_said : (ws : List (List ℕ)) (ls : List RawLit) → lits_of ws ≡ Ok ls → (0 < length ls) × LitsSaid ls
some_lits_said ws ls e =
    let n = each_length lit_of (slice_split is_semicolon ws) ls e in
    (omega (arith, n, length-slice_split is_semicolon ws), lits_said ws ls e)

head_said : (head rest : List (List ℕ)) (s : RawSuperpose) → raw_superpose_of head rest ≡ Ok s → Said (rawlines.Superpose s)
unfolding raw_superpose_of
head_said head rest s e =
    let made : List (List ℕ) → List (List ℕ) → List RawLit → RawSuperpose = λ new args ls. record { args = args; new = new; shown = ls } in
    let news = new_words superpose_pieces head in
    let arguments = argument_words superpose_pieces head in
    let b = passed (are_words_of superpose_pieces head) (names_of news >>= λ new. names_of arguments >>= λ args. lits_of rest >>= λ ls. read_ok (made new args ls)) s e in
    let n = bind_ok (names_of news) (λ new. names_of arguments >>= λ args. lits_of rest >>= λ ls. read_ok (made new args ls)) s b.1 in
    let a = bind_ok (names_of arguments) (λ args. lits_of rest >>= λ ls. read_ok (made n.0 args ls)) s n.2 in
    let l = bind_ok (lits_of rest) (λ ls. read_ok (made n.0 a.0 ls)) s a.2 in
    let count : length n.0 ≡ 2 = each_length (λ w. or_malformed (name_of w)) news n.0 n.1 ∙ new_count superpose_pieces head b.0 in
    let shown = some_lits_said rest l.0 l.1 in
    subst (λ (x : RawSuperpose). Said (rawlines.Superpose x)) (ok_is (made n.0 a.0 l.0) s l.2) (names_said news n.0 n.1, count, shown.0, shown.1)

pub superpose_said : (ws : List (List ℕ)) (s : RawSuperpose) → superpose_of ws ≡ Ok s → Said (rawlines.Superpose s)
unfolding superpose_of
superpose_said ws s e = head_said (take 13 ws) (drop 13 ws) s e

said : OfEachForm Said
said = record {
  of_theorem = title_said;
  of_declare = λ sort. some_names_said;
  of_made = λ sort. some_names_said;
  of_given = lits_said;
  of_show = some_lits_said;
  of_claim = some_lits_said;
  of_by = λ rule names. diagram_said;
  of_hence = lit_said;
  of_cases = lit_said;
  of_let = let_said;
  of_apply = apply_said;
  of_superpose = superpose_said;
  of_qed = λ names. tt;
  of_proof = tt;
  of_contradiction = tt;
  of_else = tt;
  of_end = tt;
}

pub form_said : (words : List (List ℕ)) (f : RawLine) → raw_line_of words ≡ Ok f → Said f
form_said = form_by_word Said said

-- ---- literals

abbrev pub Plain : Atom → Type 0
Plain a = is_diagram_atom a ≡ true

to : (x a : Atom) → Plain x → read_ok x ≡ Ok a → Plain a
to x a h e = subst Plain (ok_is x a e) h

on_plain : (p : ℕ) (t : Sort) (m : ℕ) (a : Atom) → on_sort p t m ≡ Ok a → Plain a
on_plain p Point m a e = absurd cc
on_plain p Line m a e = to (atoms.On p m) a refl e
on_plain p Circle m a e = to (atoms.OnC p m) a refl e

line_plain : (l : ℕ) (t : Sort) (m : ℕ) (a : Atom) → line_meets l t m ≡ Ok a → Plain a
line_plain l Point m a e = absurd cc
line_plain l Line m a e = to (atoms.MeetLL l m) a refl e
line_plain l Circle m a e = to (atoms.MeetLC l m) a refl e

meets_plain : (ns : Names) (t : Sort) (n : ℕ) (y : List ℕ) (a : Atom) → meets_from ns t n y ≡ Ok a → Plain a
meets_plain ns Point n y a e = absurd cc
meets_plain ns Line n y a e = let o = bind_ok (used_object ns y) (λ o. line_meets n o.sort o.num) a e in line_plain n o.0.sort o.0.num a o.2
meets_plain ns Circle n y a e = let k = bind_ok (number_of_name ns Circle y) (λ k. read_ok (atoms.MeetCC n k)) a e in to (atoms.MeetCC n k.0) a refl k.2

equal_plain : (t : Sort) (m n : ℕ) → Plain (equal_at t m n)
equal_plain Point m n = refl
equal_plain Line m n = refl
equal_plain Circle m n = refl

pub atom_plain : (ns : Names) (r : RawAtom) (a : Atom) → is_diagram_raw r ≡ true → atom_in ns r ≡ Ok a → Plain a
unfolding atom_in
atom_plain ns (raw.On x y) a d e =
    let p = bind_ok (number_of_name ns Point x) (λ p. used_object ns y >>= λ o. on_sort p o.sort o.num) a e in
    let o = bind_ok (used_object ns y) (λ o. on_sort p.0 o.sort o.num) a p.2 in
    on_plain p.0 o.0.sort o.0.num a o.2
atom_plain ns (raw.Inside x y) a d e =
    let p = bind_ok (number_of_name ns Point x) (λ p. number_of_name ns Circle y >>= λ c. read_ok (atoms.Inside p c)) a e in
    let c = bind_ok (number_of_name ns Circle y) (λ c. read_ok (atoms.Inside p.0 c)) a p.2 in
    to (atoms.Inside p.0 c.0) a refl c.2
atom_plain ns (raw.Center x y) a d e =
    let p = bind_ok (number_of_name ns Point x) (λ p. number_of_name ns Circle y >>= λ c. read_ok (atoms.Center p c)) a e in
    let c = bind_ok (number_of_name ns Circle y) (λ c. read_ok (atoms.Center p.0 c)) a p.2 in
    to (atoms.Center p.0 c.0) a refl c.2
atom_plain ns (raw.Between x y z) a d e =
    let p = bind_ok (number_of_name ns Point x) (λ p. number_of_name ns Point y >>= λ q. number_of_name ns Point z >>= λ r. read_ok (atoms.Between p q r)) a e in
    let q = bind_ok (number_of_name ns Point y) (λ q. number_of_name ns Point z >>= λ r. read_ok (atoms.Between p.0 q r)) a p.2 in
    let r = bind_ok (number_of_name ns Point z) (λ r. read_ok (atoms.Between p.0 q.0 r)) a q.2 in
    to (atoms.Between p.0 q.0 r.0) a refl r.2
atom_plain ns (raw.Same x y z) a d e =
    let p = bind_ok (number_of_name ns Point x) (λ p. number_of_name ns Point y >>= λ q. number_of_name ns Line z >>= λ r. read_ok (atoms.Same p q r)) a e in
    let q = bind_ok (number_of_name ns Point y) (λ q. number_of_name ns Line z >>= λ r. read_ok (atoms.Same p.0 q r)) a p.2 in
    let r = bind_ok (number_of_name ns Line z) (λ r. read_ok (atoms.Same p.0 q.0 r)) a q.2 in
    to (atoms.Same p.0 q.0 r.0) a refl r.2
atom_plain ns (raw.Meets x y) a d e =
    let o = bind_ok (used_object ns x) (λ o. meets_from ns o.sort o.num y) a e in
    meets_plain ns o.0.sort o.0.num y a o.2
atom_plain ns (raw.Equal x y) a d e =
    let o = bind_ok (used_object ns x) (λ o. number_of_name ns o.sort y >>= λ n. read_ok (equal_at o.sort o.num n)) a e in
    let n = bind_ok (number_of_name ns o.0.sort y) (λ n. read_ok (equal_at o.0.sort o.0.num n)) a o.2 in
    to (equal_at o.0.sort o.0.num n.0) a (equal_plain o.0.sort o.0.num n.0) n.2
atom_plain ns (raw.SumsEqual x y) a d e = absurd cc
atom_plain ns (raw.SumsLess x y) a d e = absurd cc
atom_plain ns (raw.SumsAtMost x y) a d e = absurd cc

pub lit_plain : (ns : Names) (r : RawLit) (l : Lit) → is_diagram_raw r.atom ≡ true → lit_in ns r ≡ Ok l → is_diagram_lit l ≡ true
unfolding lit_in
lit_plain ns r l d e =
    let a = bind_ok (atom_in ns r.atom) (λ a. read_ok (record { neg = negated_in r.atom r.neg; atom = a })) l e in
    subst (λ (x : Lit). is_diagram_lit x ≡ true) (ok_is (record { neg = negated_in r.atom r.neg; atom = a.0 }) l a.2) (atom_plain ns r.atom a.0 d a.1)

pub by_plain : (ns : Names) (rule : List ℕ) (names : List (List ℕ)) (lit : RawLit) (b : By) → is_diagram_raw lit.atom ≡ true → by_in ns rule names lit ≡ Ok b → is_diagram_lit b.lit ≡ true
unfolding by_in
by_plain ns rule names lit b d e =
    let r = bind_ok (known_rule (number_of_rule rule)) (λ r. variables_of (sig_of r) >>= λ s. right_count (eqb (length names) (s.points + s.lines + s.circles)) >>= λ right. args_in ns s names >>= λ args. lit_in ns lit >>= λ l. read_ok (record { rule = r; args = args; lit = l })) b e in
    let s = bind_ok (variables_of (sig_of r.0)) (λ s. right_count (eqb (length names) (s.points + s.lines + s.circles)) >>= λ right. args_in ns s names >>= λ args. lit_in ns lit >>= λ l. read_ok (record { rule = r.0; args = args; lit = l })) b r.2 in
    let t = bind_ok (right_count (eqb (length names) (s.0.points + s.0.lines + s.0.circles))) (λ right. args_in ns s.0 names >>= λ args. lit_in ns lit >>= λ l. read_ok (record { rule = r.0; args = args; lit = l })) b s.2 in
    let a = bind_ok (args_in ns s.0 names) (λ args. lit_in ns lit >>= λ l. read_ok (record { rule = r.0; args = args; lit = l })) b t.2 in
    let l = bind_ok (lit_in ns lit) (λ l. read_ok (record { rule = r.0; args = a.0; lit = l })) b a.2 in
    subst (λ (x : By). is_diagram_lit x.lit ≡ true) (ok_is (record { rule = r.0; args = a.0; lit = l.0 }) b l.2) (lit_plain ns lit l.0 d l.1)
