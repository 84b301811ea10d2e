-- The spelling of a line of a certificate is read as that line.
use Rattle.std.proofs.Common.{◌≡◌, ℕ, zero, suc, ◌≤◌, ◌<◌, ◌^◌, ℤ, pos, negsuc, Bool, true, false, not, ◌||◌, ltb, leb, eqb, List, [], ◌∷◌, ◌++◌, length, Ok, refl, sym, ap, subst, ◌∙◌, arith, rules, tests}
use Rattle.std.specs.Prelude.{codes, unsigned_abs}
use Rattle.std.specs.Fmt.{decimal, signed_decimal}
use Rattle.std.specs.Ordering.{int_eq}
use Rattle.std.specs.Str.{bytes_eq}
use Rattle.std.specs.List.{list_all}
use Rattle.std.proofs.lemmas.Bool.{leb-true, ltb-true, lt-ltb, le-leb, ne_eqb, not-true, and_parts}
use Rattle.e_text.specs.Names.{is_digit, is_title}
use Rattle.e_text.specs.Numerals.{is_numeral}
use Rattle.e_text.specs.Tokens.{is_blank, has_bytes, is_token, tokens_of, AreTokens}
use Rattle.e_text.proofs.NumeralWords.{is_numeral-decimal, number_of-decimal, is_token-numeral}
use Rattle.e_text.proofs.TokenWords.{tokens_of-joined, is_token-title}
use Rattle.e_clause.specs.Sum.{is_nonzero_bounded}
use Rattle.e_line.specs.declared.sum.RawMono.{RawMono}
use Rattle.e_line.specs.declared.sum.RawTerm.{RawTerm}
use Rattle.e_line.specs.declared.sum.RawTerm.TheVariants as rawterms
use Rattle.e_line.specs.declared.literal.RawAtom.{RawAtom}
use Rattle.e_line.specs.declared.literal.RawAtom.TheVariants as raw
use Rattle.e_line.specs.declared.literal.RawLit.{RawLit}
use Rattle.e_line.specs.Canonical.{term_words, coefficient_words, mono_words, more_monos, sum_words, sums_words, words_with_neg, lit_words}
use Rattle.e_line.specs.Reading.{◌>>=◌, first_title, first_word, no_word_left}
use Rattle.e_line.specs.Literals.{lit_of, is_diagram_raw}
use Rattle.e_line.specs.Names.{AreNames}
use Rattle.e_line.proofs.base.Bound.{same_bytes}
use Rattle.e_line.proofs.read_again.NamesAgain.{titled, names_again}
use Rattle.e_line.proofs.read_again.SumsAgain.{TermNamed, term_again, term_tokens}
use Rattle.e_line.proofs.read_again.LitsAgain.{LitNamed, lit_again, diagram_again, lit_tokens}
use Rattle.e_line.proofs.read_again.LetsAgain.{names_tokens}
use Rattle.e_cert.specs.declared.cert_line.RawRow.{RawRow}
use Rattle.e_cert.specs.declared.cert_line.RawRow.TheVariants as rows
use Rattle.e_cert.specs.declared.cert_line.CertLine.{CertLine}
use Rattle.e_cert.specs.declared.cert_line.CertLine.TheVariants as certlines
use Rattle.e_cert.specs.CertLines.{size_of, multiplier_of, place_of_digits, fact_row_of, fact_cert_line_of, raw_row_named, raw_row_of, may_differ, differs_of, transfer_of, row_cert_line_of, cert_line_named, cert_line_of, raw_row_words, cert_line_words, cert_line_text}
use Rattle.e_line.specs.CanonicalLines.{is_canonical_lit}
use Rattle.e_cert.specs.CanonicalCertLines.{is_canonical_row, is_canonical_cert_line, canonical_cert_line}

-- ---- what is known of the lines of certificates

-- names where names stand
abbrev pub RowNamed : RawRow → Type 0
RowNamed (rows.Fact l) = LitNamed l × (is_canonical_lit l ≡ true)
RowNamed (rows.Pos t) = TermNamed t
RowNamed (rows.Top t) = TermNamed t
RowNamed (rows.Least t) = TermNamed t
RowNamed (rows.FactAt k) = ltb k (2 ^ 32) ≡ true
RowNamed row = Unit {0}

abbrev pub CertLineNamed : CertLine → Type 0
CertLineNamed (certlines.Transfer rule ns) = (is_title rule ≡ true) × AreNames ns
CertLineNamed (certlines.Clash l) = LitNamed l × (is_diagram_raw l.atom ≡ true)
CertLineNamed (certlines.Differs r) = RowNamed r × (may_differ r ≡ true)
CertLineNamed (certlines.Row m r) = (is_nonzero_bounded m ≡ true) × RowNamed r
CertLineNamed (certlines.FactAt k) = ltb k (2 ^ 32) ≡ true
CertLineNamed cert_line = Unit {0}

-- ---- multipliers

digits : (b : ℕ) (bs : List ℕ) → is_numeral (b ∷ bs) ≡ true → is_digit b ≡ true
digits b bs h = (and_parts (is_digit b) (list_all is_digit bs) (and_parts (list_all is_digit (b ∷ bs)) (eqb (length bs) 0 || ltb 48 b) h).0).0

not_minus : (b : ℕ) → is_digit b ≡ true → eqb b 45 ≡ false
not_minus b h = search (rules, tests)

-- no sign stands before a numeral
unsigned : (ds : List ℕ) → is_numeral ds ≡ true → multiplier_of ds ≡ size_of ds
unsigned [] h = absurd cc
unsigned (b ∷ bs) h = rw (not_minus b (digits b bs h)) refl

small : (n : ℕ) → n ≤ 2 ^ 80 → n < 10 ^ 64
small n h = omega (arith, h)

sized_again : (n : ℕ) → 0 < n → n ≤ 2 ^ 80 → size_of (decimal n) ≡ Ok (pos n)
sized_again n some few =
    let a : ltb 0 n ≡ true = lt-ltb _ _ some in
    let b : leb n (2 ^ 80) ≡ true = le-leb _ _ few in
    rw (number_of-decimal n (omega (arith, few)), a, b) refl

-- a multiplier by its size
record Sized (m : ℤ) : Type 0 where
  some : int_eq m (pos 0) ≡ false
  few : unsigned_abs m ≤ 2 ^ 80

sized : (m : ℤ) → is_nonzero_bounded m ≡ true → Sized m
sized m h =
    let p = and_parts (not (int_eq m (pos 0))) (leb (unsigned_abs m) (2 ^ 80)) h in
    record { some = not-true (int_eq m (pos 0)) p.0; few = leb-true _ _ p.1 }

not_none : (n : ℕ) → int_eq (pos n) (pos 0) ≡ false → 0 < n
not_none zero h = absurd cc
not_none (suc n) h = omega arith

pub multiplier_again : (m : ℤ) → is_nonzero_bounded m ≡ true → multiplier_of (signed_decimal m) ≡ Ok m
multiplier_again (pos n) h =
    let s = sized (pos n) h in
    unsigned (decimal n) (is_numeral-decimal n (small n s.few)) ∙ sized_again n (not_none n s.some) s.few
multiplier_again (negsuc n) h =
    let s = sized (negsuc n) h in
    rw (sized_again (suc n) (omega arith) s.few) refl

-- a multiplier is no word
no_letter : (b c : ℕ) → is_digit b ≡ true → 97 ≤ c → eqb b c ≡ false
no_letter b c h k = search (rules, tests)

number_apart : (ds : List ℕ) (c : ℕ) (cs : List ℕ) → is_numeral ds ≡ true → 97 ≤ c → bytes_eq ds (c ∷ cs) ≡ false
number_apart [] c cs h k = absurd cc
number_apart (b ∷ bs) c cs h k = rw (no_letter b c (digits b bs h) k) refl

word_apart : (m : ℤ) (c : ℕ) (cs : List ℕ) → is_nonzero_bounded m ≡ true → 97 ≤ c → bytes_eq (signed_decimal m) (c ∷ cs) ≡ false
word_apart (pos n) c cs h k = number_apart (decimal n) c cs (is_numeral-decimal n (small n (sized (pos n) h).few)) k
word_apart (negsuc n) c cs h k = let e : eqb 45 c ≡ false = ne_eqb 45 c (λ e. absurd (omega (arith, e, k))) in rw e refl

-- ---- places

place_again : (k : ℕ) → ltb k (2 ^ 32) ≡ true → place_of_digits (decimal k) ≡ Ok k
place_again k h = let few = ltb-true k (2 ^ 32) h in rw (number_of-decimal k (omega (arith, few)), h) refl

place_token : (k : ℕ) → ltb k (2 ^ 32) ≡ true → is_token (decimal k) ≡ true
place_token k h = let few = ltb-true k (2 ^ 32) h in is_token-numeral (decimal k) (is_numeral-decimal k (omega (arith, few)))

-- ---- a literal has more than one word

-- there is a word
record Some (ws : List (List ℕ)) : Type 0 where
  first : List ℕ
  rest : List (List ℕ)
  are : ws ≡ first ∷ rest

some_left : (xs ys : List (List ℕ)) → Some xs → Some (xs ++ ys)
some_left xs ys s = record { first = s.first; rest = s.rest ++ ys; are = ap (λ (ws : List (List ℕ)). ws ++ ys) s.are }

some_right : (xs ys : List (List ℕ)) → Some ys → Some (xs ++ ys)
some_right [] ys s = s
some_right (x ∷ xs) ys s = record { first = x; rest = xs ++ ys; are = refl }

term_some : (t : RawTerm) → Some (term_words t)
term_some (rawterms.Seg x y) = record { first = _; rest = _; are = refl }
term_some (rawterms.Ang x y z) = record { first = _; rest = _; are = refl }
term_some (rawterms.Area x y z) = record { first = _; rest = _; are = refl }
term_some rawterms.Right = record { first = _; rest = _; are = refl }

sum_some : (ms : List RawMono) → Some (sum_words ms)
sum_some [] = record { first = _; rest = _; are = refl }
sum_some (m ∷ ms) = some_left (mono_words m) (more_monos ms) (some_right (coefficient_words m.coeff) (term_words m.term) (term_some m.term))

-- there are two
record TwoWords (ws : List (List ℕ)) : Type 0 where
  first : List ℕ
  second : List ℕ
  rest : List (List ℕ)
  are : ws ≡ first ∷ second ∷ rest

then_two : (rest : List (List ℕ)) (x sign : List ℕ) (ys : List (List ℕ)) → TwoWords (x ∷ (rest ++ sign ∷ ys))
then_two [] x sign ys = record { first = x; second = sign; rest = ys; are = refl }
then_two (y ∷ rest) x sign ys = record { first = x; second = y; rest = rest ++ sign ∷ ys; are = refl }

sums_two : (x : List RawMono) (sign : List ℕ) (y : List RawMono) → TwoWords (sums_words x sign y)
sums_two x sign y =
    let s = sum_some x in
    subst (λ (ws : List (List ℕ)). TwoWords (ws ++ sign ∷ sum_words y)) (sym s.are) (then_two s.rest s.first sign (sum_words y))

atom_two : (neg : Bool) (a : RawAtom) → TwoWords (words_with_neg neg a)
atom_two true (raw.SumsEqual x y) = sums_two x (codes "!=") y
atom_two false (raw.SumsEqual x y) = sums_two x (codes "=") y
atom_two false (raw.SumsLess x y) = sums_two x (codes "<") y
atom_two false (raw.SumsAtMost x y) = sums_two x (codes "<=") y
atom_two true (raw.SumsLess x y) =
    let t = sums_two x (codes "<") y in record { first = codes "not"; second = t.first; rest = t.second ∷ t.rest; are = ap (λ (ws : List (List ℕ)). codes "not" ∷ ws) t.are }
atom_two true (raw.SumsAtMost x y) =
    let t = sums_two x (codes "<=") y in record { first = codes "not"; second = t.first; rest = t.second ∷ t.rest; are = ap (λ (ws : List (List ℕ)). codes "not" ∷ ws) t.are }
atom_two true (raw.On x y) = record { first = _; second = _; rest = _; are = refl }
atom_two false (raw.On x y) = record { first = _; second = _; rest = _; are = refl }
atom_two true (raw.Inside x y) = record { first = _; second = _; rest = _; are = refl }
atom_two false (raw.Inside x y) = record { first = _; second = _; rest = _; are = refl }
atom_two true (raw.Center x y) = record { first = _; second = _; rest = _; are = refl }
atom_two false (raw.Center x y) = record { first = _; second = _; rest = _; are = refl }
atom_two true (raw.Between x y z) = record { first = _; second = _; rest = _; are = refl }
atom_two false (raw.Between x y z) = record { first = _; second = _; rest = _; are = refl }
atom_two true (raw.Same x y z) = record { first = _; second = _; rest = _; are = refl }
atom_two false (raw.Same x y z) = record { first = _; second = _; rest = _; are = refl }
atom_two true (raw.Meets x y) = record { first = _; second = _; rest = _; are = refl }
atom_two false (raw.Meets x y) = record { first = _; second = _; rest = _; are = refl }
atom_two true (raw.Equal x y) = record { first = _; second = _; rest = _; are = refl }
atom_two false (raw.Equal x y) = record { first = _; second = _; rest = _; are = refl }

-- so the row of a fact with a literal is no row with a place
two_at : (a b : List ℕ) (rest : List (List ℕ)) → fact_row_of (a ∷ b ∷ rest) ≡ (lit_of (a ∷ b ∷ rest) >>= λ l. Ok (rows.Fact l))
unfolding fact_row_of
two_at a b rest = let some : eqb (length (b ∷ rest)) 0 ≡ false = ne_eqb _ _ (λ e. absurd (omega (arith, e))) in rw some refl

two_read : (ws : List (List ℕ)) → TwoWords ws → fact_row_of ws ≡ (lit_of ws >>= λ l. Ok (rows.Fact l))
two_read ws t = subst (λ (x : List (List ℕ)). fact_row_of x ≡ (lit_of x >>= λ l. Ok (rows.Fact l))) (sym t.are) (two_at t.first t.second t.rest)

fact_again : (l : RawLit) → LitNamed l → fact_row_of (lit_words l) ≡ Ok (rows.Fact l)
fact_again l h = two_read (lit_words l) (atom_two l.neg l.atom) ∙ rw (lit_again l h) refl

-- ---- the words of a line of a certificate

place_row_again : (k : ℕ) → ltb k (2 ^ 32) ≡ true → fact_row_of (decimal k ∷ []) ≡ Ok (rows.FactAt k)
unfolding fact_row_of
place_row_again k h = rw (place_again k h) refl

row_again : (r : RawRow) → RowNamed r → raw_row_of (raw_row_words r) ≡ Ok r
unfolding raw_row_of raw_row_named no_word_left
row_again (rows.Fact l) h = fact_again l h.0
row_again (rows.FactAt k) h = place_row_again k h
row_again rows.Goal h = refl
row_again (rows.Pos t) h = rw (term_again t h) refl
row_again (rows.Top t) h = rw (term_again t h) refl
row_again rows.Right h = refl
row_again (rows.Least t) h = rw (term_again t h) refl
row_again rows.Above h = refl
row_again rows.Below h = refl

pub cert_line_again : (m : CertLine) → CertLineNamed m → cert_line_of (cert_line_words m) ≡ Ok m
unfolding cert_line_of cert_line_named fact_cert_line_of transfer_of differs_of row_cert_line_of first_title first_word no_word_left
cert_line_again certlines.Fact h = refl
cert_line_again (certlines.FactAt k) h = rw (place_again k h) refl
cert_line_again certlines.Metric h = refl
cert_line_again (certlines.Transfer rule ns) h = rw (titled rule h.0, names_again ns h.1) refl
cert_line_again (certlines.Clash l) h = rw (diagram_again l h.0 h.1) refl
cert_line_again certlines.Sum h = refl
cert_line_again (certlines.Differs r) h = rw (row_again r h.0, h.1) refl
cert_line_again (certlines.Row m r) h =
    let apart : (c : ℕ) (cs : List ℕ) → 97 ≤ c → bytes_eq (signed_decimal m) (c ∷ cs) ≡ false = λ c cs k. word_apart m c cs h.0 k in
    let a : bytes_eq (signed_decimal m) (codes "fact") ≡ false = apart _ _ (omega arith) in
    let b : bytes_eq (signed_decimal m) (codes "metric") ≡ false = apart _ _ (omega arith) in
    let c : bytes_eq (signed_decimal m) (codes "transfer") ≡ false = apart _ _ (omega arith) in
    let d : bytes_eq (signed_decimal m) (codes "clash") ≡ false = apart _ _ (omega arith) in
    let e : bytes_eq (signed_decimal m) (codes "sum") ≡ false = apart _ _ (omega arith) in
    let f : bytes_eq (signed_decimal m) (codes "differs") ≡ false = apart _ _ (omega arith) in
    rw (a, b, c, d, e, f, multiplier_again m h.0, row_again r h.1) refl

-- ---- these words are tokens

row_tokens : (r : RawRow) → RowNamed r → AreTokens (raw_row_words r)
row_tokens (rows.Fact l) h = (refl, lit_tokens l h.0)
row_tokens rows.Goal h = (refl, tt)
row_tokens (rows.Pos t) h = (refl, term_tokens t h)
row_tokens (rows.Top t) h = (refl, term_tokens t h)
row_tokens rows.Right h = (refl, tt)
row_tokens (rows.Least t) h = (refl, term_tokens t h)
row_tokens rows.Above h = (refl, tt)
row_tokens rows.Below h = (refl, tt)
row_tokens (rows.FactAt k) h = (refl, (place_token k h, tt))

abbrev unbroken : List ℕ → Bool
unbroken w = list_all (λ b. not (is_blank b)) w

multiplier_token : (m : ℤ) → is_nonzero_bounded m ≡ true → is_token (signed_decimal m) ≡ true
multiplier_token (pos n) h = is_token-numeral (decimal n) (is_numeral-decimal n (small n (sized (pos n) h).few))
multiplier_token (negsuc n) h =
    let t = is_token-numeral (decimal (suc n)) (is_numeral-decimal (suc n) (small (suc n) (sized (negsuc n) h).few)) in
    let u : unbroken (decimal (suc n)) ≡ true = (and_parts (has_bytes (decimal (suc n))) (unbroken (decimal (suc n))) t).1 in
    let s : eqb (length (45 ∷ decimal (suc n))) 0 ≡ false = ne_eqb _ _ (λ e. absurd (omega (arith, e))) in
    rw (s, u) refl

cert_line_tokens : (m : CertLine) → CertLineNamed m → AreTokens (cert_line_words m)
cert_line_tokens certlines.Fact h = (refl, tt)
cert_line_tokens certlines.Metric h = (refl, tt)
cert_line_tokens (certlines.FactAt k) h = (refl, (place_token k h, tt))
cert_line_tokens (certlines.Transfer rule ns) h = (refl, (is_token-title rule h.0, names_tokens ns h.1))
cert_line_tokens (certlines.Clash l) h = (refl, lit_tokens l h.0)
cert_line_tokens certlines.Sum h = (refl, tt)
cert_line_tokens (certlines.Differs r) h = (refl, row_tokens r h.0)
cert_line_tokens (certlines.Row m r) h = (multiplier_token m h.0, row_tokens r h.1)

-- the words of its line
pub cert_line_tokens_again : (m : CertLine) → CertLineNamed m → tokens_of (cert_line_text m) ≡ codes "|" ∷ cert_line_words m
cert_line_tokens_again m h = tokens_of-joined (codes "|" ∷ cert_line_words m) (refl, cert_line_tokens m h)

-- ---- the line is spelled as its form is

strict_row : (r : RawRow) → RowNamed r → is_canonical_row r ≡ true
strict_row (rows.Fact l) h = h.1
strict_row rows.Goal h = refl
strict_row (rows.Pos t) h = refl
strict_row (rows.Top t) h = refl
strict_row rows.Right h = refl
strict_row (rows.Least t) h = refl
strict_row rows.Above h = refl
strict_row rows.Below h = refl
strict_row (rows.FactAt k) h = refl

strict : (m : CertLine) → CertLineNamed m → is_canonical_cert_line m ≡ true
strict certlines.Fact h = refl
strict certlines.Metric h = refl
strict (certlines.FactAt k) h = refl
strict (certlines.Transfer rule ns) h = refl
strict (certlines.Clash l) h = refl
strict certlines.Sum h = refl
strict (certlines.Differs r) h = strict_row r h.0
strict (certlines.Row m r) h = strict_row r h.1

pub strict_cert_line_again : (m : CertLine) → CertLineNamed m → canonical_cert_line (cert_line_text m) (cert_line_words m) ≡ Ok m
unfolding canonical_cert_line
strict_cert_line_again m h = rw (cert_line_again m h, strict m h, same_bytes (cert_line_text m)) refl
