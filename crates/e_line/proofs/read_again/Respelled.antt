-- The words of a form are read as that form, and a line of them has these words.
use Rattle.std.proofs.Common.{◌≡◌, ℕ, Bool, true, cond, List, [], ◌∷◌, ◌++◌, Result, Ok, Err, refl, ap, ◌∙◌}
use Rattle.std.specs.Prelude.{codes}
use Rattle.e_text.specs.Names.{is_title}
use Rattle.e_literal.specs.declared.object.Sort.{Sort}
use Rattle.e_literal.specs.declared.object.Sort.TheVariants as sorts
use Rattle.e_line.specs.declared.fault.FaultKind.{FaultKind}
use Rattle.e_line.specs.declared.fault.FaultKind.TheVariants.{Malformed}
use Rattle.e_line.specs.declared.literal.RawLit.{RawLit}
use Rattle.e_line.specs.declared.raw_line.RawLine.{RawLine}
use Rattle.e_line.specs.declared.raw_line.RawLine.TheVariants as rawlines
use Rattle.e_line.specs.Reading.{◌>>=◌, first_word, first_title, no_word_left, cut_at, names_of}
use Rattle.e_line.specs.Literals.{is_diagram_raw, diagram_lit_of}
use Rattle.e_line.specs.RawLines.{declare_of, sort_of, made_of, by_of, theorem_line_of, bare_line, raw_line_named, raw_line_of}
use Rattle.e_line.specs.Canonical.{lit_words, sort_word, raw_line_words}
use Rattle.e_line.specs.Names.{AreNames}
use Rattle.e_line.proofs.base.Bound.{name_differs}
use Rattle.e_line.proofs.read_again.NamesAgain.{Without, titled, names_again, some_names_again, cut_again}
use Rattle.e_line.proofs.read_again.LitsAgain.{LitNamed, LitsNamed, lit_again, diagram_again, lits_again}
use Rattle.e_line.proofs.read_again.LetsAgain.{LetNamed, as_read as let_as_read, let_again}
use Rattle.e_line.proofs.read_again.SuperposesAgain.{SuperposeNamed, superpose_again}
use Rattle.e_line.proofs.read_again.AppliesAgain.{ApplyNamed, apply_again}

-- ---- forms

-- the forms of canonical lines, with names where names stand
abbrev pub GoodForm : RawLine → Type 0
GoodForm (rawlines.Theorem t) = is_title t ≡ true
GoodForm (rawlines.Declare sort []) = ⊥
GoodForm (rawlines.Declare sort (n ∷ ns)) = AreNames (n ∷ ns)
GoodForm (rawlines.Given []) = ⊥
GoodForm (rawlines.Given (l ∷ [])) = LitNamed l
GoodForm (rawlines.Given (l ∷ m ∷ ls)) = ⊥
GoodForm (rawlines.Made sort []) = ⊥
GoodForm (rawlines.Made sort (n ∷ ns)) = AreNames (n ∷ ns)
GoodForm (rawlines.Show []) = ⊥
GoodForm (rawlines.Show (l ∷ [])) = LitNamed l
GoodForm (rawlines.Show (l ∷ m ∷ ls)) = ⊥
GoodForm (rawlines.By r ns l) = (is_title r ≡ true) × AreNames ns × LitNamed l × (is_diagram_raw l.atom ≡ true)
GoodForm (rawlines.Hence l) = LitNamed l
GoodForm (rawlines.Let l) = LetNamed l
GoodForm (rawlines.Apply a) = ApplyNamed a
GoodForm (rawlines.Qed ns) = AreNames ns
GoodForm (rawlines.Claim ls) = LitsNamed ls
GoodForm (rawlines.Superpose s) = SuperposeNamed s
GoodForm (rawlines.Cases l) = LitNamed l
GoodForm f = Unit {0}

-- a form as its words are read
abbrev pub as_read : RawLine → RawLine
as_read (rawlines.Let l) = rawlines.Let (let_as_read l)
as_read f = f

declare_again : (sort : Sort) (n : List ℕ) (ns : List (List ℕ)) → AreNames (n ∷ ns) → declare_of sort (n ∷ ns) ≡ Ok (rawlines.Declare sort (n ∷ ns))
unfolding declare_of
declare_again sort n ns h = rw (some_names_again n ns h) refl

-- no name is a colon
no_colon : (ns : List (List ℕ)) → AreNames ns → Without (codes ":") ns
no_colon [] h = tt
no_colon (n ∷ ns) h = (name_differs n (codes ":") h.0 refl, no_colon ns h.1)

made_again : (sort : Sort) (n : List ℕ) (ns : List (List ℕ)) → AreNames (n ∷ ns) → made_of (sort_word sort ∷ n ∷ ns) ≡ Ok (rawlines.Made sort (n ∷ ns))
unfolding made_of sort_of first_word
made_again sorts.Point n ns h = rw (some_names_again n ns h) refl
made_again sorts.Line n ns h = rw (some_names_again n ns h) refl
made_again sorts.Circle n ns h = rw (some_names_again n ns h) refl

abbrev by_rest : List ℕ → List (List ℕ) × List (List ℕ) × Bool → Result RawLine FaultKind
by_rest r parts = cond parts.2 (names_of parts.0 >>= λ ns. diagram_lit_of parts.1 >>= λ l. Ok (rawlines.By r ns l)) (Err Malformed)

by_again : (r : List ℕ) (ns : List (List ℕ)) (l : RawLit) → is_title r ≡ true → AreNames ns → LitNamed l → is_diagram_raw l.atom ≡ true → by_of (r ∷ (ns ++ codes ":" ∷ lit_words l)) ≡ Ok (rawlines.By r ns l)
unfolding by_of first_title first_word
by_again r ns l hr hns hl hd =
    let all = ns ++ codes ":" ∷ lit_words l in
    let one : by_of (r ∷ all) ≡ by_rest r (cut_at (codes ":") all) = rw (titled r hr) refl in
    one ∙ ap (by_rest r) (cut_again (codes ":") ns (lit_words l) (no_colon ns hns)) ∙ rw (names_again ns hns, diagram_again l hl hd) refl

pub form_again : (f : RawLine) → GoodForm f → raw_line_of (raw_line_words f) ≡ Ok (as_read f)
unfolding raw_line_of raw_line_named theorem_line_of bare_line first_title first_word no_word_left
form_again (rawlines.Theorem t) h = rw (titled t h) refl
form_again (rawlines.Declare sort []) h = absurd h
form_again (rawlines.Declare sorts.Point (n ∷ ns)) h = declare_again sorts.Point n ns h
form_again (rawlines.Declare sorts.Line (n ∷ ns)) h = declare_again sorts.Line n ns h
form_again (rawlines.Declare sorts.Circle (n ∷ ns)) h = declare_again sorts.Circle n ns h
form_again (rawlines.Given []) h = absurd h
form_again (rawlines.Given (l ∷ [])) h = rw (lits_again (l ∷ []) (h, tt)) refl
form_again (rawlines.Given (l ∷ m ∷ ls)) h = absurd h
form_again (rawlines.Made sort []) h = absurd h
form_again (rawlines.Made sort (n ∷ ns)) h = rw (made_again sort n ns h) refl
form_again (rawlines.Show []) h = absurd h
form_again (rawlines.Show (l ∷ [])) h = rw (lits_again (l ∷ []) (h, tt)) refl
form_again (rawlines.Show (l ∷ m ∷ ls)) h = absurd h
form_again rawlines.Proof h = refl
form_again (rawlines.By r ns l) h = by_again r ns l h.0 h.1 h.2 h.3
form_again (rawlines.Hence l) h = rw (lit_again l h) refl
form_again (rawlines.Let l) h = rw (let_again l h) refl
form_again (rawlines.Apply a) h = rw (apply_again a h) refl
form_again (rawlines.Qed ns) h = rw (names_again ns h) refl
form_again rawlines.Contradiction h = refl
form_again (rawlines.Claim ls) h = rw (lits_again ls h) refl
form_again (rawlines.Superpose s) h = rw (superpose_again s h) refl
form_again (rawlines.Cases l) h = rw (lit_again l h) refl
form_again rawlines.Else h = refl
form_again rawlines.End h = refl
