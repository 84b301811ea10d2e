-- Limits that the parser asks one by one, and the grammar in one list.
use Rattle.std.proofs.Common.{◌≡◌, ℕ, ◌≤◌, arith, Bool, true, false, cond, ltb, leb, inl, inr, List, [], ◌∷◌, length, Result, Ok, Err, refl, sym, ap, subst, ◌∙◌}
use Rattle.std.proofs.lemmas.Bool.{cases_lt, lt-ltb, le-ltb, lt-leb, le-leb}
use Rattle.e_literal.specs.declared.object.Sort.TheVariants as sorts
use Rattle.e_deriv.specs.declared.names.Names.{Names}
use Rattle.e_line.specs.declared.fault.FaultKind.{FaultKind}
use Rattle.e_line.specs.declared.fault.FaultKind.TheVariants.{Malformed, Limit}
use Rattle.e_line.specs.declared.fault.What.{What}
use Rattle.e_line.specs.declared.fault.What.TheVariants as limits
use Rattle.e_line.specs.declared.literal.RawLit.{RawLit}
use Rattle.e_line.specs.declared.raw_line.RawLine.{RawLine}
use Rattle.e_book.specs.declared.parser.TheoremParser.{TheoremParser}
use Rattle.e_line.specs.Reading.{◌>>=◌}
use Rattle.e_names.specs.TitledStatements.{TitledStatement}
use Rattle.e_line.specs.Limits.{most_of, most_steps, most_depth, most_facts, most_monomials_of_facts, most_blanks, within}
use Rattle.e_line.specs.LineLimits.{have_few_monomials, have_low_coefficients, or_limit, check_literal_limits}
use Rattle.e_book.specs.LineLimits.{few_objects, FewNamed}
use Rattle.e_book.specs.Open.{Open}
use Rattle.e_book.specs.Counts.{LineContext, literals_on, blanks_on, limits_at, limits_kept, all_kept}
use Rattle.e_book.specs.Grammar.{at_its_place}
use Rattle.e_line.proofs.base.Bound.{read_ok}
use Rattle.e_book.proofs.grammar.ParserState.{Counted, Alike}

-- ---- the list of limits, by numbers

abbrev pub Tests : Type 0
Tests = List (Bool × What)

abbrev pub blank_tests : ℕ → Tests
blank_tests b = (leb b most_blanks, limits.Blanks) ∷ []

abbrev pub term_tests : (m b : ℕ) → Tests
term_tests m b = (leb m most_monomials_of_facts, limits.Terms) ∷ blank_tests b

abbrev pub literal_tests : List RawLit → (m b : ℕ) → Tests
literal_tests raws m b = (have_few_monomials raws, limits.Monomials) ∷ (have_low_coefficients raws, limits.Coefficient) ∷ term_tests m b

abbrev pub fact_tests : List RawLit → (k m b : ℕ) → Tests
fact_tests raws k m b = (leb k most_facts, limits.Facts) ∷ literal_tests raws m b

abbrev pub depth_tests : List RawLit → (d k m b : ℕ) → Tests
depth_tests raws d k m b = (leb d most_depth, limits.Depth) ∷ fact_tests raws k m b

abbrev pub step_tests : List RawLit → (s d k m b : ℕ) → Tests
step_tests raws s d k m b = (leb s most_steps, limits.Steps) ∷ depth_tests raws d k m b

abbrev pub circle_tests : List RawLit → Names → (s d k m b : ℕ) → Tests
circle_tests raws ns s d k m b = (leb (length ns.circles) (most_of sorts.Circle), limits.Circles) ∷ step_tests raws s d k m b

abbrev pub line_tests : List RawLit → Names → (s d k m b : ℕ) → Tests
line_tests raws ns s d k m b = (leb (length ns.lines) (most_of sorts.Line), limits.Lines) ∷ circle_tests raws ns s d k m b

abbrev pub all_tests : List RawLit → Names → (s d k m b : ℕ) → Tests
all_tests raws ns s d k m b = (leb (length ns.points) (most_of sorts.Point), limits.Points) ∷ line_tests raws ns s d k m b

-- the tests of a place are those of its counts
pub tests_are : (f : RawLine) (at : LineContext) (ns : Names) (a b s d k m : ℕ) → Counted ns k m at → a ≡ s → b ≡ d → all_tests (literals_on f) ns a b k m (blanks_on f) ≡ limits_at f at s d
tests_are f at ns a b s d k m c e h =
    let raws = literals_on f in
    let n = blanks_on f in
    ap (λ (x : Names). all_tests raws x a b k m n) c.names ∙ ap (λ (x : ℕ). all_tests raws at.names x b k m n) e ∙ ap (λ (x : ℕ). all_tests raws at.names s x k m n) h
    ∙ ap (λ (x : ℕ). all_tests raws at.names s d x m n) c.facts ∙ ap (λ (x : ℕ). all_tests raws at.names s d (length at.facts) x n) c.terms

-- ---- one test on both sides

-- what stands after a line, where these tests hold
abbrev pub kept : Tests → Open → Result Open FaultKind
kept ps n = all_kept ps >>= λ few. read_ok n

abbrev pub then_limits : List TitledStatement → RawLine → Open → Result Open FaultKind
then_limits known f n = kept (limits_kept known f n) n

pub by_test : (P : Bool → Bool → Type 0) (a most : ℕ) → P true false → (a ≤ most → P false true) → P (ltb most a) (leb a most)
by_test P a most over under =
    elim (cases_lt most a) [
      | inl lt ↦ subst (λ (o : Bool). P o (leb a most)) (sym (lt-ltb most a lt)) (subst (λ (f : Bool). P true f) (sym (lt-leb a most lt)) over)
      | inr le ↦ subst (λ (o : Bool). P o (leb a most)) (sym (le-ltb most a le)) (subst (λ (f : Bool). P false f) (sym (le-leb a most le)) (under le))
    ]

abbrev limited : Bool → What → Result (Unit {0}) FaultKind
limited over what = cond over (Err (Limit what)) (read_ok tt)

-- a limit that both ask
pub test : (known : List TitledStatement) (r : Result TheoremParser FaultKind) (n : Open) (a most : ℕ) (what : What) (ps : Tests) → (a ≤ most → Alike known r (kept ps n)) → Alike known (within a most what >>= λ few. r) (kept ((leb a most, what) ∷ ps) n)
test known r n a most what ps h =
    by_test (λ (o f : Bool). Alike known (limited o what >>= λ few. r) (kept ((f, what) ∷ ps) n)) a most refl h

-- the same, where more is read after it
pub test_in : {A : Type 0} (known : List TitledStatement) (q : Result A FaultKind) (r : A → Result TheoremParser FaultKind) (n : Open) (a most : ℕ) (what : What) (ps : Tests) → (a ≤ most → Alike known (q >>= r) (kept ps n))
    → Alike known ((within a most what >>= λ few. q) >>= r) (kept ((leb a most, what) ∷ ps) n)
test_in {A} known q r n a most what ps h =
    by_test (λ (o f : Bool). Alike known ((limited o what >>= λ few. q) >>= r) (kept ((f, what) ∷ ps) n)) a most refl h

pub test_within : {A B : Type 0} (known : List TitledStatement) (q : Result A FaultKind) (g : A → Result B FaultKind) (r : B → Result TheoremParser FaultKind) (n : Open) (a most : ℕ) (what : What) (ps : Tests)
    → (a ≤ most → Alike known ((q >>= g) >>= r) (kept ps n)) → Alike known (((within a most what >>= λ few. q) >>= g) >>= r) (kept ((leb a most, what) ∷ ps) n)
test_within {A} {B} known q g r n a most what ps h =
    by_test (λ (o f : Bool). Alike known (((limited o what >>= λ few. q) >>= g) >>= r) (kept ((f, what) ∷ ps) n)) a most refl h

-- a limit that the parser knows to be kept
pub pass : (known : List TitledStatement) (r : Result TheoremParser FaultKind) (n : Open) (b : Bool) (what : What) (ps : Tests) → b ≡ true → Alike known r (kept ps n) → Alike known r (kept ((b, what) ∷ ps) n)
pass known r n true what ps e h = h
pass known r n false what ps e h = absurd cc

pub pass_le : (known : List TitledStatement) (r : Result TheoremParser FaultKind) (n : Open) (a most : ℕ) (what : What) (ps : Tests) → a ≤ most → Alike known r (kept ps n) → Alike known r (kept ((leb a most, what) ∷ ps) n)
pass_le known r n a most what ps le h = pass known r n (leb a most) what ps (le-leb a most le) h

-- ---- groups of tests

pub pass_objects : (known : List TitledStatement) (r : Result TheoremParser FaultKind) (n : Open) (raws : List RawLit) (ns : Names) (s d k m b : ℕ) → FewNamed ns → Alike known r (kept (step_tests raws s d k m b) n)
    → Alike known r (kept (all_tests raws ns s d k m b) n)
pass_objects known r n raws ns s d k m b few h =
    pass_le known r n (length ns.points) (most_of sorts.Point) limits.Points (line_tests raws ns s d k m b) few.points
    (pass_le known r n (length ns.lines) (most_of sorts.Line) limits.Lines (circle_tests raws ns s d k m b) few.lines
    (pass_le known r n (length ns.circles) (most_of sorts.Circle) limits.Circles (step_tests raws s d k m b) few.circles h))

pub test_objects : (known : List TitledStatement) (r : Result TheoremParser FaultKind) (n : Open) (raws : List RawLit) (ns : Names) (s d k m b : ℕ) → (FewNamed ns → Alike known r (kept (step_tests raws s d k m b) n))
    → Alike known (few_objects ns >>= λ few. r) (kept (all_tests raws ns s d k m b) n)
unfolding few_objects
test_objects known r n raws ns s d k m b h =
    let points = within (length ns.points) (most_of sorts.Point) limits.Points in
    let lines = within (length ns.lines) (most_of sorts.Line) limits.Lines in
    let circles = within (length ns.circles) (most_of sorts.Circle) limits.Circles in
    test_in known (lines >>= λ few. circles) (λ few. r) n (length ns.points) (most_of sorts.Point) limits.Points (line_tests raws ns s d k m b)
    (λ p. test_in known circles (λ few. r) n (length ns.lines) (most_of sorts.Line) limits.Lines (circle_tests raws ns s d k m b)
    (λ l. test known r n (length ns.circles) (most_of sorts.Circle) limits.Circles (step_tests raws s d k m b)
    (λ c. h (record { points = p; lines = l; circles = c }))))

monos_by : (known : List TitledStatement) (r : Result TheoremParser FaultKind) (n : Open) (short small : Bool) (ps : Tests) → Alike known r (kept ps n)
    → Alike known ((or_limit short limits.Monomials >>= λ few. or_limit small limits.Coefficient) >>= λ few. r) (kept ((short, limits.Monomials) ∷ (small, limits.Coefficient) ∷ ps) n)
monos_by known r n true true ps h = h
monos_by known r n true false ps h = refl
monos_by known r n false small ps h = refl

-- the limits of literals that are written
pub test_monos : (known : List TitledStatement) (r : Result TheoremParser FaultKind) (n : Open) (raws : List RawLit) (m b : ℕ) → Alike known r (kept (term_tests m b) n)
    → Alike known (check_literal_limits raws >>= λ few. r) (kept (literal_tests raws m b) n)
unfolding check_literal_limits
test_monos known r n raws m b h = monos_by known r n (have_few_monomials raws) (have_low_coefficients raws) (term_tests m b) h

-- a line without literals of magnitudes
pub pass_literals : (known : List TitledStatement) (r : Result TheoremParser FaultKind) (n : Open) (raws : List RawLit) (m b : ℕ) → have_few_monomials raws ≡ true → have_low_coefficients raws ≡ true → Alike known r (kept (term_tests m b) n)
    → Alike known r (kept (literal_tests raws m b) n)
pass_literals known r n raws m b short small h =
    pass known r n (have_few_monomials raws) limits.Monomials ((have_low_coefficients raws, limits.Coefficient) ∷ term_tests m b) short
    (pass known r n (have_low_coefficients raws) limits.Coefficient (term_tests m b) small h)

-- the last two
pub pass_terms : (known : List TitledStatement) (r : Result TheoremParser FaultKind) (n : Open) (m b : ℕ) → m ≤ most_monomials_of_facts → b ≤ most_blanks → Alike known r (read_ok n) → Alike known r (kept (term_tests m b) n)
pass_terms known r n m b few blanks h =
    pass_le known r n m most_monomials_of_facts limits.Terms (blank_tests b) few (pass_le known r n b most_blanks limits.Blanks [] blanks h)

-- those after the limit of facts, on a line without literals of magnitudes
pub pass_rest : (known : List TitledStatement) (r : Result TheoremParser FaultKind) (n : Open) (raws : List RawLit) (m b : ℕ) → have_few_monomials raws ≡ true → have_low_coefficients raws ≡ true → m ≤ most_monomials_of_facts → b ≤ most_blanks → Alike known r (read_ok n)
    → Alike known r (kept (literal_tests raws m b) n)
pass_rest known r n raws m b short small few blanks h = pass_literals known r n raws m b short small (pass_terms known r n m b few blanks h)

-- those after the limits of objects, on a line that nothing can be wrong with
pub pass_later : (known : List TitledStatement) (r : Result TheoremParser FaultKind) (n : Open) (s d k m : ℕ) → s ≤ most_steps → d ≤ most_depth → k ≤ most_facts → m ≤ most_monomials_of_facts → Alike known r (read_ok n) → Alike known r (kept (step_tests [] s d k m 0) n)
pass_later known r n s d k m steps depth facts terms h =
    pass_le known r n s most_steps limits.Steps (depth_tests [] d k m 0) steps
    (pass_le known r n d most_depth limits.Depth (fact_tests [] k m 0) depth
    (pass_le known r n k most_facts limits.Facts (literal_tests [] m 0) facts
    (pass_rest known r n [] m 0 refl refl terms (omega arith) h)))

-- all of them
pub pass_all : (known : List TitledStatement) (r : Result TheoremParser FaultKind) (n : Open) (ns : Names) (s d k m : ℕ) → FewNamed ns → s ≤ most_steps → d ≤ most_depth → k ≤ most_facts → m ≤ most_monomials_of_facts → Alike known r (read_ok n)
    → Alike known r (kept (all_tests [] ns s d k m 0) n)
pass_all known r n ns s d k m few steps depth facts terms h = pass_objects known r n [] ns s d k m 0 few (pass_later known r n s d k m steps depth facts terms h)

-- ---- names that both look up, and places

-- what is read first is read alike
pub both : {A : Type 0} (known : List TitledStatement) (r : Result A FaultKind) (f : A → Result TheoremParser FaultKind) (g : A → Result Open FaultKind) (k : Open → Result Open FaultKind) → ((x : A) → r ≡ Ok x → Alike known (f x) (g x >>= k))
    → Alike known (r >>= f) ((r >>= g) >>= k)
both {A} known (Ok x) f g k h = h x refl
both {A} known (Err e) f g k h = refl

-- the same, where the parser reads it in a part of its own
pub both_in : {A B : Type 0} (known : List TitledStatement) (r : Result A FaultKind) (p : A → Result B FaultKind) (f : B → Result TheoremParser FaultKind) (g : A → Result Open FaultKind) (k : Open → Result Open FaultKind)
    → ((x : A) → r ≡ Ok x → Alike known (p x >>= f) (g x >>= k)) → Alike known ((r >>= p) >>= f) ((r >>= g) >>= k)
both_in {A} {B} known (Ok x) p f g k h = h x refl
both_in {A} {B} known (Err e) p f g k h = refl

-- the same, where nothing is asked after it
pub both_read : {A : Type 0} (known : List TitledStatement) (r : Result A FaultKind) (f : A → Result TheoremParser FaultKind) (g : A → Result Open FaultKind) → ((x : A) → r ≡ Ok x → Alike known (f x) (g x)) → Alike known (r >>= f) (r >>= g)
both_read {A} known (Ok x) f g h = h x refl
both_read {A} known (Err e) f g h = refl

-- a line that may come, or may not
pub in_place : (known : List TitledStatement) (b c : Bool) (x : Result TheoremParser FaultKind) (y : Result Open FaultKind) (k : Open → Result Open FaultKind) → b ≡ c → (b ≡ true → Alike known x (y >>= k)) → Alike known (cond b x (Err Malformed)) (at_its_place c y >>= k)
in_place known true true x y k e h = h refl
in_place known false false x y k e h = refl
in_place known b c x y k e h = absurd cc

-- the tests at a place, by its counts
pub by_counts : (known : List TitledStatement) (r : Result TheoremParser FaultKind) (n : Open) (f : RawLine) (at : LineContext) (ns : Names) (a b s d k m : ℕ) → Counted ns k m at → a ≡ s → b ≡ d
    → Alike known r (kept (all_tests (literals_on f) ns a b k m (blanks_on f)) n) → Alike known r (kept (limits_at f at s d) n)
by_counts known r n f at ns a b s d k m c e h = subst (λ (ps : Tests). Alike known r (kept ps n)) (tests_are f at ns a b s d k m c e h)
