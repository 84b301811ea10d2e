-- What the spelling of a line says of its form.
use Rattle.std.proofs.Common.{◌≡◌, ℕ, ◌<◌, true, List, [], ◌∷◌, length, take, drop, Ok, subst, arith}
use Rattle.e_line.specs.declared.literal.RawLit.{RawLit}
use Rattle.e_line.specs.declared.superposes.RawSuperpose.{RawSuperpose}
use Rattle.e_line.specs.declared.raw_line.RawLine.{RawLine}
use Rattle.e_line.specs.declared.raw_line.RawLine.TheVariants as rawlines
use Rattle.e_line.specs.Reading.{◌>>=◌, names_of, not_empty, some_names}
use Rattle.e_line.specs.Literals.{is_diagram_raw, lits_of}
use Rattle.e_line.specs.Superposes.{superpose_pieces, raw_superpose_of, superpose_of}
use Rattle.e_line.specs.Lets.{are_words_of, new_words, argument_words}
use Rattle.e_line.specs.RawLines.{raw_line_of}
use Rattle.e_line.proofs.base.Bound.{bind_ok, ok_is, read_ok}
use Rattle.e_line.proofs.base.Choices.{passed}
use Rattle.e_line.proofs.read_lines.RawLinesByWord.{OfEachForm, form_by_word}
use Rattle.e_line.proofs.read_lines.SumsOfLiterals.{diagram_said}
use Rattle.e_names.proofs.read_lines.LiteralsOfRawLines.{superpose_said}
use Rattle.e_roundtrip.proofs.OneLine.LitsRead.{Signed, AllSigned, lit_signed, lits_signed}
use Rattle.e_roundtrip.proofs.OneLine.LinePieces.{OneLine, let_line}

-- lines of objects have names, no <= is negated, a citation compares no sums, a construction has one line, and a superposition two new
-- names
abbrev pub Read : RawLine → Type 0
Read (rawlines.Declare sort ns) = 0 < length ns
Read (rawlines.Made sort ns) = 0 < length ns
Read (rawlines.Given raws) = AllSigned raws
Read (rawlines.Show raws) = AllSigned raws
Read (rawlines.By r ns l) = is_diagram_raw l.atom ≡ true
Read (rawlines.Hence l) = Signed l
Read (rawlines.Let l) = OneLine l
Read (rawlines.Claim raws) = AllSigned raws
Read (rawlines.Superpose s) = AllSigned s.shown × (length s.new ≡ 2)
Read (rawlines.Cases l) = Signed l
Read f = Unit {0}

some_are : (ns ms : List (List ℕ)) → not_empty ns ≡ Ok ms → 0 < length ms
some_are [] ms e = absurd cc
some_are (n ∷ ns) ms e = subst (λ (l : List (List ℕ)). 0 < length l) (ok_is (n ∷ ns) ms e) (omega arith)

some_named : (ws ns : List (List ℕ)) → some_names ws ≡ Ok ns → 0 < length ns
unfolding some_names
some_named ws ns e = let a = bind_ok (names_of ws) (λ ns. not_empty ns) ns e in some_are a.0 ns a.2

head_read : (head rest : List (List ℕ)) (s : RawSuperpose) → raw_superpose_of head rest ≡ Ok s → AllSigned s.shown
unfolding raw_superpose_of
head_read head rest s e =
    let made : List (List ℕ) → List (List ℕ) → List RawLit → RawSuperpose = λ new args ls. record { args = args; new = new; shown = ls } in
    let news = new_words superpose_pieces head in
    let arguments = argument_words superpose_pieces head in
    let b = passed (are_words_of superpose_pieces head) (names_of news >>= λ new. names_of arguments >>= λ args. lits_of rest >>= λ ls. read_ok (made new args ls)) s e in
    let n = bind_ok (names_of news) (λ new. names_of arguments >>= λ args. lits_of rest >>= λ ls. read_ok (made new args ls)) s b.1 in
    let a = bind_ok (names_of arguments) (λ args. lits_of rest >>= λ ls. read_ok (made n.0 args ls)) s n.2 in
    let l = bind_ok (lits_of rest) (λ ls. read_ok (made n.0 a.0 ls)) s a.2 in
    subst (λ (x : RawSuperpose). AllSigned x.shown) (ok_is (made n.0 a.0 l.0) s l.2) (lits_signed rest l.0 l.1)

superpose_read : (ws : List (List ℕ)) (s : RawSuperpose) → superpose_of ws ≡ Ok s → Read (rawlines.Superpose s)
unfolding superpose_of
superpose_read ws s e = (head_read (take 13 ws) (drop 13 ws) s e, (superpose_said ws s e).1)

each_read : OfEachForm Read
each_read = record {
  of_theorem = λ ws t e. tt;
  of_declare = λ sort. some_named;
  of_made = λ sort. some_named;
  of_given = lits_signed;
  of_show = lits_signed;
  of_claim = lits_signed;
  of_by = λ rule names. diagram_said;
  of_hence = lit_signed;
  of_cases = lit_signed;
  of_let = let_line;
  of_apply = λ ws a e. tt;
  of_superpose = superpose_read;
  of_qed = λ names. tt;
  of_proof = tt;
  of_contradiction = tt;
  of_else = tt;
  of_end = tt;
}

pub form_facts : (words : List (List ℕ)) (f : RawLine) → raw_line_of words ≡ Ok f → Read f
form_facts = form_by_word Read each_read
