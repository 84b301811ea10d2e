-- A theorem that is read from a derivation text is read, without its certificates, from the other lines as from a book.
use Rattle.std.proofs.Common.{◌≡◌, ℕ, Bool, true, false, cond, inl, inr, List, [], ◌∷◌, ◌++◌, Option, Some, None, Result, Ok, Err, refl, sym, ap, subst, ◌∙◌}
use Rattle.std.specs.Prelude.{◌⊎◌, filter}
use Rattle.e_text.specs.Tokens.{tokens_of}
use Rattle.e_text.specs.Lines.{LineView}
use Rattle.e_text.specs.declared.line.LineFault.{LineFault}
use Rattle.e_line.specs.declared.fault.FaultKind.{FaultKind}
use Rattle.e_book.specs.declared.parser.TheoremParser.{TheoremParser}
use Rattle.e_line.specs.Reading.{◌>>=◌}
use Rattle.e_names.specs.TitledStatements.{TitledStatement}
use Rattle.e_book.specs.ParserViews.{entry_of_parser}
use Rattle.e_book.specs.TheoremViews.{TheoremView}
use Rattle.e_book.specs.Grammar.{is_skipped}
use Rattle.e_book.specs.Book.{line_step, is_done, read_from}
use Rattle.e_line.proofs.base.Bound.{bind_ok}
use Rattle.e_cert.specs.declared.kept.StepCerts.{StepCerts}
use Rattle.e_read.specs.declared.reading.BlockParser.{BlockParser}
use Rattle.e_read.specs.Filled.{script_with_certs}
use Rattle.e_read.specs.Laws.{begins_with_bar, is_of_theorem}
use Rattle.e_read.specs.Text.{TextPiece, Derived, Last, garbled_at}
use Rattle.e_read.specs.inner.Machine.{parser_after_line, theorem_with_certs, is_finished, finished_theorem, or_on, is_end, piece_from}
use Rattle.e_read.proofs.TakenLines.{Stepped, line_taken, form_read, not_skipped, book_line, either}

abbrev pub Answer : Type 0
Answer = TextPiece × List (Result LineView LineFault)

abbrev pub derives : TheoremView → List (Result LineView LineFault) → Result Answer ℕ
derives t rest = Ok (Derived t, rest)

abbrev pub with_certs : TheoremView → List StepCerts → TheoremView
with_certs t kept = record t { script = (script_with_certs t.script kept).0 }

-- the theorem as the lines without certificates are read
pub record Plainly (known : List TitledStatement) (last : ℕ) (parser : Option TheoremParser) (t : TheoremView) (lines rest : List (Result LineView LineFault)) : Type 0 where
  pub front : List (Result LineView LineFault)
  pub all : lines ≡ front ++ rest
  pub entry : TheoremView
  pub kept : List StepCerts
  pub read : read_from known last parser (filter is_of_theorem front ++ rest) ≡ Ok (Some (entry, rest))
  pub same : t ≡ with_certs entry kept

-- a line of a certificate says nothing of the theorem, and any other line does
certificate_left : (l : LineView) (front : List (Result LineView LineFault)) → begins_with_bar (tokens_of l.bytes) ≡ true → filter is_of_theorem (Ok l ∷ front) ≡ filter is_of_theorem front
certificate_left l front h = rw h refl

line_kept : (l : LineView) (front : List (Result LineView LineFault)) → begins_with_bar (tokens_of l.bytes) ≡ false → filter is_of_theorem (Ok l ∷ front) ≡ Ok l ∷ filter is_of_theorem front
line_kept l front h = rw h refl

pub no_last : (lines rest : List (Result LineView LineFault)) (t : TheoremView) → let end : Result Answer ℕ = Ok (Last, lines) in end ≡ derives t rest → ⊥
no_last lines rest t e = subst IsLast e tt where
  IsLast : Result Answer ℕ → Type 0
  IsLast (Ok (Last, ls)) = Unit {0}
  IsLast (Ok (Derived u, ls)) = ⊥
  IsLast (Err n) = ⊥

pub garbled_ok : {A : Type 0} (n : ℕ) (r : Result A FaultKind) (x : A) → garbled_at n r ≡ Ok x → r ≡ Ok x
garbled_ok n (Ok y) x e = cc
garbled_ok n (Err k) x e = absurd cc

pub derived_is : (t u : TheoremView) (lines rest : List (Result LineView LineFault)) → derives t lines ≡ derives u rest → (t ≡ u) × (lines ≡ rest)
derived_is t u lines rest e = (ap (λ (a : Answer). entry_in t a) (inside _ _ e), ap (λ (a : Answer). a.1) (inside _ _ e)) where
  entry_in : TheoremView → Answer → TheoremView
  entry_in t (Derived u, ls) = u
  entry_in t (Last, ls) = t

  inside : (a b : Answer) → let x : Result Answer ℕ = Ok a in x ≡ Ok b → a ≡ b
  inside a b e = cc

-- how it goes on after a line that is taken
pub goes_on : (t : Option TheoremView) (lines rest : List (Result LineView LineFault)) (more : Result Answer ℕ) (u : TheoremView) → or_on t lines more ≡ derives u rest
    → ((x : TheoremView) × (t ≡ Some x) × (derives x lines ≡ derives u rest)) ⊎ ((t ≡ None) × (more ≡ derives u rest))
goes_on None lines rest more u e = inr (refl, e)
goes_on (Some x) lines rest more u e = inl (x, refl, e)

pub unfinished : (parser : Option TheoremParser) (kept : List StepCerts) (x : TheoremView) → is_finished parser ≡ false → finished_theorem parser kept ≡ Some x → ⊥
unfinished None kept x h e = absurd cc
unfinished (Some d) kept x h e = by_test (is_done d) (theorem_with_certs d kept) h e
  where
    by_test : (b : Bool) (y : TheoremView) → b ≡ false → cond b (Some y) None ≡ Some x → ⊥
    by_test true y h e = absurd cc
    by_test false y h e = absurd cc

pub still : (parser : Option TheoremParser) (kept : List StepCerts) → finished_theorem parser kept ≡ None → is_finished parser ≡ false
still None kept e = refl
still (Some d) kept e = open_still (is_done d) (theorem_with_certs d kept) e
  where
    open_still : (b : Bool) (x : TheoremView) → let none : Option TheoremView = None in cond b (Some x) None ≡ none → b ≡ false
    open_still true x h = absurd cc
    open_still false x h = refl

pub closed_is : (d : TheoremParser) (kept : List StepCerts) (x : TheoremView) → finished_theorem (Some d) kept ≡ Some x → (is_done d ≡ true) × (theorem_with_certs d kept ≡ x)
closed_is d kept x e = by_test (is_done d) (theorem_with_certs d kept) e
  where
    by_test : (b : Bool) (y : TheoremView) → cond b (Some y) None ≡ Some x → (b ≡ true) × (y ≡ x)
    by_test true y h = (refl, cc)
    by_test false y h = absurd cc

-- a line of a book that is read at the front
line_read : (known : List TitledStatement) (last : ℕ) (parser : Option TheoremParser) (l : LineView) (d : TheoremParser) (after : List (Result LineView LineFault)) → is_skipped (tokens_of l.bytes) ≡ false → line_step known parser (tokens_of l.bytes) ≡ Ok d
    → read_from known last parser (Ok l ∷ after) ≡ cond (is_done d) (Ok (Some (entry_of_parser d, after))) (read_from known last (Some d) after)
line_read known last parser l d after s e = rw (s, e) refl

pub plainly : (known : List TitledStatement) (last : ℕ) (r : BlockParser) (lines rest : List (Result LineView LineFault)) (t : TheoremView) → is_finished r.parser ≡ false → piece_from known last r lines ≡ derives t rest → Plainly known last r.parser t lines rest
unfolding piece_from
plainly known last r [] rest t unended e = absurd cc
plainly known last r (Err f ∷ lines) rest t unended e = absurd cc
plainly known last r (Ok l ∷ lines) rest t unended e =
    let next : Result BlockParser ℕ = garbled_at l.number (parser_after_line known r l) in
    let then : BlockParser → Result Answer ℕ = λ x. or_on (finished_theorem x.parser x.kept) lines (piece_from known last x lines) in
    elim (either (is_end known r.parser l) (Ok (Last, lines)) (next >>= then) (derives t rest) e) [
      | inl p ↦ absurd (no_last lines rest t p.1)
      | inr p ↦
          let x = bind_ok next then (Derived t, rest) p.1 in
          let took = garbled_ok l.number (parser_after_line known r l) x.0 x.1 in
          let goes = goes_on (finished_theorem x.0.parser x.0.kept) lines rest (piece_from known last x.0 lines) t x.2 in
          elim (line_taken known r x.0 l took) [
            | inl c ↦
                let same = c.2.parser in
                let unended_next : is_finished x.0.parser ≡ false = ap is_finished same ∙ unended in
                elim goes [
                  | inl q ↦ absurd (unfinished x.0.parser x.0.kept q.0 unended_next q.1)
                  | inr q ↦ without known last r.parser x.0.parser l lines rest t same c.1 (plainly known last x.0 lines rest t unended_next q.1)
                ]
            | inr s ↦ step_plainly known last r x.0 l lines rest t s.0 s.1 goes (λ h more. plainly known last x.0 lines rest t h more)
          ]
    ]
  where
    without : (known : List TitledStatement) (last : ℕ) (old new : Option TheoremParser) (l : LineView) (lines rest : List (Result LineView LineFault)) (t : TheoremView) → new ≡ old → begins_with_bar (tokens_of l.bytes) ≡ true
        → Plainly known last new t lines rest → Plainly known last old t (Ok l ∷ lines) rest
    without known last old new l lines rest t same bar p = record {
      front = Ok l ∷ p.front;
      all = ap (λ (ls : List (Result LineView LineFault)). Ok l ∷ ls) p.all;
      entry = p.entry;
      kept = p.kept;
      read = ap (λ (ls : List (Result LineView LineFault)). read_from known last old (ls ++ rest)) (certificate_left l p.front bar) ∙ ap (λ (o : Option TheoremParser). read_from known last o (filter is_of_theorem p.front ++ rest)) (sym same) ∙ p.read;
      same = p.same;
    }

    step_plainly : (known : List TitledStatement) (last : ℕ) (r next : BlockParser) (l : LineView) (lines rest : List (Result LineView LineFault)) (t : TheoremView) → begins_with_bar (tokens_of l.bytes) ≡ false → Stepped known r next l.bytes
        → ((x : TheoremView) × (finished_theorem next.parser next.kept ≡ Some x) × (derives x lines ≡ derives t rest)) ⊎ ((finished_theorem next.parser next.kept ≡ None) × (piece_from known last next lines ≡ derives t rest))
        → (is_finished next.parser ≡ false → piece_from known last next lines ≡ derives t rest → Plainly known last next.parser t lines rest)
        → Plainly known last r.parser t (Ok l ∷ lines) rest
    step_plainly known last r next l lines rest t bar s goes more =
        let d = s.parser in
        let form = form_read l.bytes s.raw_line s.spelled in
        let said = not_skipped (tokens_of l.bytes) s.raw_line form.0 in
        let step = book_line known r.parser s.raw_line d s.owed (tokens_of l.bytes) form.0 s.gone in
        let parser_is : next.parser ≡ Some d = ap (λ (x : BlockParser). x.parser) s.next_is in
        elim goes [
          | inl q ↦
              let c = closed_is d next.kept q.0 (sym (ap (λ (o : Option TheoremParser). finished_theorem o next.kept) parser_is) ∙ q.1) in
              let both = derived_is q.0 t lines rest q.2 in
              record {
                front = Ok l ∷ [];
                all = ap (λ (ls : List (Result LineView LineFault)). Ok l ∷ ls) both.1;
                entry = entry_of_parser d;
                kept = next.kept;
                read = ap (λ (ls : List (Result LineView LineFault)). read_from known last r.parser (ls ++ rest)) (line_kept l [] bar) ∙ line_read known last r.parser l d rest said step ∙ rw c.0 refl;
                same = sym both.0 ∙ sym c.1;
              }
          | inr q ↦
              let h = still next.parser next.kept q.0 in
              let p = more h q.1 in
              let not_done : is_done d ≡ false = sym (ap is_finished parser_is) ∙ h in
              record {
                front = Ok l ∷ p.front;
                all = ap (λ (ls : List (Result LineView LineFault)). Ok l ∷ ls) p.all;
                entry = p.entry;
                kept = p.kept;
                read = ap (λ (ls : List (Result LineView LineFault)). read_from known last r.parser (ls ++ rest)) (line_kept l p.front bar) ∙ line_read known last r.parser l d (filter is_of_theorem p.front ++ rest) said step
                    ∙ rw not_done (sym (ap (λ (o : Option TheoremParser). read_from known last o (filter is_of_theorem p.front ++ rest)) parser_is) ∙ p.read);
                same = p.same;
              }
        ]
