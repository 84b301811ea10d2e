-- What begins a block inside another, by its limits.
use Rattle.std.proofs.Common.{◌≡◌, ℕ, ◌+◌, ◌≤◌, List, [], ◌∷◌, length, Result, Ok, Err, refl, sym, ap, ◌∙◌, arith}
use Rattle.e_literal.specs.declared.literal.Lit.{Lit}
use Rattle.e_deriv.specs.declared.names.Names.{Names}
use Rattle.e_line.specs.declared.fault.FaultKind.{FaultKind}
use Rattle.e_line.specs.declared.fault.What.TheVariants as limits
use Rattle.e_line.specs.declared.literal.RawLit.{RawLit}
use Rattle.e_line.specs.Limits.{most_steps, most_depth, most_facts, most_monomials_of_facts, monomials, count_monomials, within}
use Rattle.e_line.specs.LineLimits.{count_raw_monomials, check_literal_limits}
use Rattle.e_line.specs.Reading.{◌>>=◌}
use Rattle.e_names.specs.Scope.{lit_in}
use Rattle.e_book.specs.declared.blocks.BlockKind.{BlockKind}
use Rattle.e_book.specs.declared.blocks.BlockKind.TheVariants as kind
use Rattle.e_book.specs.declared.parser.TheoremParser.{TheoremParser}
use Rattle.e_book.specs.Steps.{terms_after, terms_after_raw, with_terms, inside_block, room_inside, terms_inside, inside_if_room, after_copies, after_cases}
use Rattle.e_book.proofs.parsers.Answered.{within_ok}
use Rattle.e_line.proofs.base.Bound.{bind_ok, read_ok, ok_is}
use Rattle.e_names.proofs.read_lines.WellRead.{lit_count}

begun_as : (a b c m : Result (Unit {0}) FaultKind) (d : TheoremParser) (t : TheoremParser → Result ℕ FaultKind) (x : TheoremParser → ℕ → TheoremParser)
    → ((a >>= λ u. b >>= λ v. c >>= λ w. read_ok d) >>= λ e. m >>= λ s. t e >>= λ n. read_ok (x e n)) ≡ (((a >>= λ u. b >>= λ v. c) >>= λ r. m >>= λ s. t d) >>= λ n. read_ok (x d n))
begun_as (Ok u) (Ok v) (Ok w) (Ok s) d t x = refl
begun_as (Ok u) (Ok v) (Ok w) (Err e) d t x = refl
begun_as (Ok u) (Ok v) (Err e) m d t x = refl
begun_as (Ok u) (Err e) c m d t x = refl
begun_as (Err e) b c m d t x = refl

pub begun_with_copies : (d : TheoremParser) (what : BlockKind) (after : Names) (given : List Lit) (raws : List RawLit)
    → after_copies d what after given raws ≡ (terms_inside d given raws >>= λ n. read_ok (record (inside_block d what (length given)) { in_scope = after; terms = n }))
unfolding after_copies inside_if_room room_inside terms_inside
begun_with_copies d what after given raws =
    begun_as (within (d.lines + 1) most_steps limits.Steps) (within (length d.blocks + 2) most_depth limits.Depth) (within (d.facts + length given) most_facts limits.Facts) (check_literal_limits raws)
    (inside_block d what (length given)) (λ e. terms_after e.terms given) (λ e n. record e { in_scope = after; terms = n })

-- ---- a split

one_count : (ns : Names) (r : RawLit) (l : Lit) → lit_in ns r ≡ Ok l → count_raw_monomials (r ∷ []) ≡ count_monomials (l ∷ [])
one_count ns r l e = omega (arith, lit_count ns r l e)

terms_alike : (n m k : ℕ) → m ≡ k → (within (n + m) most_monomials_of_facts limits.Terms >>= λ few. read_ok (n + m)) ≡ (within (n + k) most_monomials_of_facts limits.Terms >>= λ few. read_ok (n + k))
terms_alike n m k e = rw e refl

with_lit : (d : TheoremParser) (r : RawLit) (x : Result Lit FaultKind) → lit_in d.in_scope r ≡ x
    → (x >>= λ l. inside_if_room d (kind.First l) 1 >>= λ e. with_terms e (r ∷ [])) ≡ (x >>= λ l. terms_inside d (l ∷ []) (r ∷ []) >>= λ n. read_ok (record (inside_block d (kind.First l) 1) { terms = n }))
unfolding inside_if_room with_terms room_inside terms_inside
with_lit d r (Ok l) e =
    let x : TheoremParser = inside_block d (kind.First l) 1 in
    let room = within (d.lines + 1) most_steps limits.Steps >>= λ u. within (length d.blocks + 2) most_depth limits.Depth >>= λ v. within (d.facts + 1) most_facts limits.Facts in
    begun_as (within (d.lines + 1) most_steps limits.Steps) (within (length d.blocks + 2) most_depth limits.Depth) (within (d.facts + 1) most_facts limits.Facts) (check_literal_limits (r ∷ []))
    x (λ y. terms_after_raw y.terms (r ∷ [])) (λ y n. record y { terms = n })
    ∙ ap (λ (t : Result ℕ FaultKind). (room >>= λ u. check_literal_limits (r ∷ []) >>= λ s. t) >>= λ n. read_ok (record x { terms = n })) (terms_alike d.terms (count_raw_monomials (r ∷ [])) (count_monomials (l ∷ [])) (one_count d.in_scope r l e))
with_lit d r (Err f) e = refl

pub begun_with_lit : (d : TheoremParser) (r : RawLit) → after_cases d r ≡ (lit_in d.in_scope r >>= λ l. terms_inside d (l ∷ []) (r ∷ []) >>= λ n. read_ok (record (inside_block d (kind.First l) 1) { terms = n }))
unfolding after_cases
begun_with_lit d r = with_lit d r (lit_in d.in_scope r) refl

-- ---- how many monomials are facts inside

sum_inside : (d : TheoremParser) (given : List Lit) (raws : List RawLit) (n : ℕ) → terms_inside d given raws ≡ Ok n → (n ≡ d.terms + count_monomials given) × (n ≤ most_monomials_of_facts)
unfolding terms_inside
sum_inside d given raws n e =
    let total = d.terms + count_monomials given in
    let room = bind_ok (room_inside d (length given)) (λ u. check_literal_limits raws >>= λ s. terms_after d.terms given) n e in
    let few = bind_ok (check_literal_limits raws) (λ s. terms_after d.terms given) n room.2 in
    let sum = bind_ok (within total most_monomials_of_facts limits.Terms) (λ few. read_ok total) n few.2 in
    let is : n ≡ total = sym (ok_is total n sum.2) in
    (is, omega (arith, is, within_ok total most_monomials_of_facts limits.Terms sum.0 sum.1))

pub few_inside : (d : TheoremParser) (given : List Lit) (raws : List RawLit) (n : ℕ) → terms_inside d given raws ≡ Ok n → n ≤ most_monomials_of_facts
few_inside d given raws n e = (sum_inside d given raws n e).1

pub split_few : (d : TheoremParser) (l : Lit) (raws : List RawLit) (n : ℕ) → terms_inside d (l ∷ []) raws ≡ Ok n → d.terms + monomials l.atom ≤ most_monomials_of_facts
split_few d l raws n e = let s = sum_inside d (l ∷ []) raws n e in omega (arith, s.0, s.1)
