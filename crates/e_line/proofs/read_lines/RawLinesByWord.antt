-- Forms by the word their line begins with: what holds of the forms of each kind holds of every form that is read.
use Rattle.std.proofs.Common.{◌≡◌, ℕ, cond, List, [], ◌∷◌, Result, Ok, Err}
use Rattle.std.specs.Prelude.{codes}
use Rattle.std.specs.Str.{bytes_eq}
use Rattle.e_literal.specs.declared.object.Sort.{Sort}
use Rattle.e_literal.specs.declared.object.Sort.TheVariants.{Point, Line, Circle}
use Rattle.e_line.specs.declared.fault.FaultKind.{FaultKind}
use Rattle.e_line.specs.declared.fault.FaultKind.TheVariants.{Malformed}
use Rattle.e_line.specs.declared.literal.RawLit.{RawLit}
use Rattle.e_line.specs.declared.lets.RawLet.{RawLet}
use Rattle.e_line.specs.declared.superposes.RawSuperpose.{RawSuperpose}
use Rattle.e_line.specs.declared.applies.RawApply.{RawApply}
use Rattle.e_line.specs.declared.raw_line.RawLine.{RawLine}
use Rattle.e_line.specs.declared.raw_line.RawLine.TheVariants as rawlines
use Rattle.e_line.specs.Reading.{◌>>=◌, first_word, first_title, no_word_left, cut_at, names_of, some_names}
use Rattle.e_line.specs.Literals.{lit_of, diagram_lit_of, lits_of}
use Rattle.e_line.specs.Superposes.{superpose_of}
use Rattle.e_line.specs.Lets.{let_of}
use Rattle.e_line.specs.Applies.{apply_of}
use Rattle.e_line.specs.RawLines.{declare_of, sort_of, made_of, by_of, theorem_line_of, bare_line, raw_line_named, raw_line_of}
use Rattle.e_line.proofs.base.Bound.{bind_ok, read_ok}
use Rattle.e_line.proofs.base.Choices.{either, passed, of_reading}

-- what holds of the forms of each kind, by what their words are read as
pub record OfEachForm (P : RawLine → Type 0) : Type 0 where
  pub of_theorem : (ws : List (List ℕ)) (t : List ℕ × List (List ℕ)) → first_title ws ≡ Ok t → P (rawlines.Theorem t.0)
  pub of_declare : (sort : Sort) (ws ns : List (List ℕ)) → some_names ws ≡ Ok ns → P (rawlines.Declare sort ns)
  pub of_made : (sort : Sort) (ws ns : List (List ℕ)) → some_names ws ≡ Ok ns → P (rawlines.Made sort ns)
  pub of_given : (ws : List (List ℕ)) (ls : List RawLit) → lits_of ws ≡ Ok ls → P (rawlines.Given ls)
  pub of_show : (ws : List (List ℕ)) (ls : List RawLit) → lits_of ws ≡ Ok ls → P (rawlines.Show ls)
  pub of_claim : (ws : List (List ℕ)) (ls : List RawLit) → lits_of ws ≡ Ok ls → P (rawlines.Claim ls)
  pub of_by : (rule : List ℕ) (names ws : List (List ℕ)) (l : RawLit) → diagram_lit_of ws ≡ Ok l → P (rawlines.By rule names l)
  pub of_hence : (ws : List (List ℕ)) (l : RawLit) → lit_of ws ≡ Ok l → P (rawlines.Hence l)
  pub of_cases : (ws : List (List ℕ)) (l : RawLit) → lit_of ws ≡ Ok l → P (rawlines.Cases l)
  pub of_let : (ws : List (List ℕ)) (l : RawLet) → let_of ws ≡ Ok l → P (rawlines.Let l)
  pub of_apply : (ws : List (List ℕ)) (a : RawApply) → apply_of ws ≡ Ok a → P (rawlines.Apply a)
  pub of_superpose : (ws : List (List ℕ)) (s : RawSuperpose) → superpose_of ws ≡ Ok s → P (rawlines.Superpose s)
  pub of_qed : (names : List (List ℕ)) → P (rawlines.Qed names)
  pub of_proof : P rawlines.Proof
  pub of_contradiction : P rawlines.Contradiction
  pub of_else : P rawlines.Else
  pub of_end : P rawlines.End

theorem_by_word : (P : RawLine → Type 0) → OfEachForm P → (ws : List (List ℕ)) (f : RawLine) → theorem_line_of ws ≡ Ok f → P f
unfolding theorem_line_of
theorem_by_word P h ws f e =
    let a = bind_ok (first_title ws) (λ t. no_word_left t.1 >>= λ none. read_ok (rawlines.Theorem t.0)) f e in
    of_reading P (no_word_left a.0.1) (λ none. rawlines.Theorem a.0.0) f (λ none k. h.of_theorem ws a.0 a.1) a.2

declare_by_word : (P : RawLine → Type 0) → OfEachForm P → (sort : Sort) (ws : List (List ℕ)) (f : RawLine) → declare_of sort ws ≡ Ok f → P f
unfolding declare_of
declare_by_word P h sort ws f e = of_reading P (some_names ws) (λ ns. rawlines.Declare sort ns) f (h.of_declare sort ws) e

made_by_word : (P : RawLine → Type 0) → OfEachForm P → (ws : List (List ℕ)) (f : RawLine) → made_of ws ≡ Ok f → P f
unfolding made_of
made_by_word P h ws f e =
    let w = bind_ok (first_word ws) (λ w. sort_of w.0 >>= λ sort. some_names w.1 >>= λ ns. read_ok (rawlines.Made sort ns)) f e in
    let s = bind_ok (sort_of w.0.0) (λ sort. some_names w.0.1 >>= λ ns. read_ok (rawlines.Made sort ns)) f w.2 in
    of_reading P (some_names w.0.1) (λ ns. rawlines.Made s.0 ns) f (h.of_made s.0 w.0.1) s.2

by_by_word : (P : RawLine → Type 0) → OfEachForm P → (ws : List (List ℕ)) (f : RawLine) → by_of ws ≡ Ok f → P f
unfolding by_of
by_by_word P h ws f e =
    let rest : List ℕ × List (List ℕ) → Result RawLine FaultKind = λ r. cond (cut_at (codes ":") r.1).2 (names_of (cut_at (codes ":") r.1).0 >>= λ ns. diagram_lit_of (cut_at (codes ":") r.1).1 >>= λ l. read_ok (rawlines.By r.0 ns l)) (Err Malformed) in
    let a = bind_ok (first_title ws) rest f e in
    let parts = cut_at (codes ":") a.0.1 in
    let b = passed parts.2 (names_of parts.0 >>= λ ns. diagram_lit_of parts.1 >>= λ l. read_ok (rawlines.By a.0.0 ns l)) f a.2 in
    let c = bind_ok (names_of parts.0) (λ ns. diagram_lit_of parts.1 >>= λ l. read_ok (rawlines.By a.0.0 ns l)) f b.1 in
    of_reading P (diagram_lit_of parts.1) (λ l. rawlines.By a.0.0 c.0 l) f (h.of_by a.0.0 c.0 parts.1) c.2

bare_by_word : (P : RawLine → Type 0) (ws : List (List ℕ)) (g f : RawLine) → P g → bare_line ws g ≡ Ok f → P f
unfolding bare_line
bare_by_word P ws g f h e = of_reading P (no_word_left ws) (λ none. g) f (λ none k. h) e

no_form : (P : RawLine → Type 0) (f : RawLine) → Err Malformed ≡ read_ok f → P f
no_form P f e = absurd cc

named_by_word : (P : RawLine → Type 0) → OfEachForm P → (w : List ℕ) (ws : List (List ℕ)) (f : RawLine) → raw_line_named w ws ≡ Ok f → P f
unfolding raw_line_named
named_by_word P h w ws f e =
    let r20 : Result RawLine FaultKind = Err Malformed in
    let r19 : Result RawLine FaultKind = cond (bytes_eq w (codes "end")) (bare_line ws rawlines.End) r20 in
    let r18 : Result RawLine FaultKind = cond (bytes_eq w (codes "else")) (bare_line ws rawlines.Else) r19 in
    let r17 : Result RawLine FaultKind = cond (bytes_eq w (codes "cases")) (lit_of ws >>= λ l. read_ok (rawlines.Cases l)) r18 in
    let r16 : Result RawLine FaultKind = cond (bytes_eq w (codes "superpose")) (superpose_of ws >>= λ s. read_ok (rawlines.Superpose s)) r17 in
    let r15 : Result RawLine FaultKind = cond (bytes_eq w (codes "claim")) (lits_of ws >>= λ ls. read_ok (rawlines.Claim ls)) r16 in
    let r14 : Result RawLine FaultKind = cond (bytes_eq w (codes "contradiction")) (bare_line ws rawlines.Contradiction) r15 in
    let r13 : Result RawLine FaultKind = cond (bytes_eq w (codes "qed")) (names_of ws >>= λ ns. read_ok (rawlines.Qed ns)) r14 in
    let r12 : Result RawLine FaultKind = cond (bytes_eq w (codes "apply")) (apply_of ws >>= λ a. read_ok (rawlines.Apply a)) r13 in
    let r11 : Result RawLine FaultKind = cond (bytes_eq w (codes "let")) (let_of ws >>= λ l. read_ok (rawlines.Let l)) r12 in
    let r10 : Result RawLine FaultKind = cond (bytes_eq w (codes "hence")) (lit_of ws >>= λ l. read_ok (rawlines.Hence l)) r11 in
    let r9 : Result RawLine FaultKind = cond (bytes_eq w (codes "by")) (by_of ws) r10 in
    let r8 : Result RawLine FaultKind = cond (bytes_eq w (codes "proof")) (bare_line ws rawlines.Proof) r9 in
    let r7 : Result RawLine FaultKind = cond (bytes_eq w (codes "show")) (lits_of ws >>= λ ls. read_ok (rawlines.Show ls)) r8 in
    let r6 : Result RawLine FaultKind = cond (bytes_eq w (codes "made")) (made_of ws) r7 in
    let r5 : Result RawLine FaultKind = cond (bytes_eq w (codes "given")) (lits_of ws >>= λ ls. read_ok (rawlines.Given ls)) r6 in
    let r4 : Result RawLine FaultKind = cond (bytes_eq w (codes "circles")) (declare_of Circle ws) r5 in
    let r3 : Result RawLine FaultKind = cond (bytes_eq w (codes "lines")) (declare_of Line ws) r4 in
    let r2 : Result RawLine FaultKind = cond (bytes_eq w (codes "points")) (declare_of Point ws) r3 in
    either P (bytes_eq w (codes "theorem")) (theorem_line_of ws) r2 f e (theorem_by_word P h ws f) (λ e1.
    either P (bytes_eq w (codes "points")) (declare_of Point ws) r3 f e1 (declare_by_word P h Point ws f) (λ e2.
    either P (bytes_eq w (codes "lines")) (declare_of Line ws) r4 f e2 (declare_by_word P h Line ws f) (λ e3.
    either P (bytes_eq w (codes "circles")) (declare_of Circle ws) r5 f e3 (declare_by_word P h Circle ws f) (λ e4.
    either P (bytes_eq w (codes "given")) (lits_of ws >>= λ ls. read_ok (rawlines.Given ls)) r6 f e4 (of_reading P (lits_of ws) (λ ls. rawlines.Given ls) f (h.of_given ws)) (λ e5.
    either P (bytes_eq w (codes "made")) (made_of ws) r7 f e5 (made_by_word P h ws f) (λ e6.
    either P (bytes_eq w (codes "show")) (lits_of ws >>= λ ls. read_ok (rawlines.Show ls)) r8 f e6 (of_reading P (lits_of ws) (λ ls. rawlines.Show ls) f (h.of_show ws)) (λ e7.
    either P (bytes_eq w (codes "proof")) (bare_line ws rawlines.Proof) r9 f e7 (bare_by_word P ws rawlines.Proof f h.of_proof) (λ e8.
    either P (bytes_eq w (codes "by")) (by_of ws) r10 f e8 (by_by_word P h ws f) (λ e9.
    either P (bytes_eq w (codes "hence")) (lit_of ws >>= λ l. read_ok (rawlines.Hence l)) r11 f e9 (of_reading P (lit_of ws) (λ l. rawlines.Hence l) f (h.of_hence ws)) (λ e10.
    either P (bytes_eq w (codes "let")) (let_of ws >>= λ l. read_ok (rawlines.Let l)) r12 f e10 (of_reading P (let_of ws) (λ l. rawlines.Let l) f (h.of_let ws)) (λ e11.
    either P (bytes_eq w (codes "apply")) (apply_of ws >>= λ a. read_ok (rawlines.Apply a)) r13 f e11 (of_reading P (apply_of ws) (λ a. rawlines.Apply a) f (h.of_apply ws)) (λ e12.
    either P (bytes_eq w (codes "qed")) (names_of ws >>= λ ns. read_ok (rawlines.Qed ns)) r14 f e12 (of_reading P (names_of ws) (λ ns. rawlines.Qed ns) f (λ ns k. h.of_qed ns)) (λ e13.
    either P (bytes_eq w (codes "contradiction")) (bare_line ws rawlines.Contradiction) r15 f e13 (bare_by_word P ws rawlines.Contradiction f h.of_contradiction) (λ e14.
    either P (bytes_eq w (codes "claim")) (lits_of ws >>= λ ls. read_ok (rawlines.Claim ls)) r16 f e14 (of_reading P (lits_of ws) (λ ls. rawlines.Claim ls) f (h.of_claim ws)) (λ e15.
    either P (bytes_eq w (codes "superpose")) (superpose_of ws >>= λ s. read_ok (rawlines.Superpose s)) r17 f e15 (of_reading P (superpose_of ws) (λ s. rawlines.Superpose s) f (h.of_superpose ws)) (λ e16.
    either P (bytes_eq w (codes "cases")) (lit_of ws >>= λ l. read_ok (rawlines.Cases l)) r18 f e16 (of_reading P (lit_of ws) (λ l. rawlines.Cases l) f (h.of_cases ws)) (λ e17.
    either P (bytes_eq w (codes "else")) (bare_line ws rawlines.Else) r19 f e17 (bare_by_word P ws rawlines.Else f h.of_else) (λ e18.
    either P (bytes_eq w (codes "end")) (bare_line ws rawlines.End) r20 f e18 (bare_by_word P ws rawlines.End f h.of_end) (no_form P f)))))))))))))))))))

-- a form that is read is of one of the kinds
pub form_by_word : (P : RawLine → Type 0) → OfEachForm P → (words : List (List ℕ)) (f : RawLine) → raw_line_of words ≡ Ok f → P f
unfolding raw_line_of
form_by_word P h [] f e = absurd cc
form_by_word P h (w ∷ ws) f e = named_by_word P h w ws f e
