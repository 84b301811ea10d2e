-- What is known of literals that are read within the limits of sums.
use Rattle.std.proofs.Common.{◌≡◌, ℕ, ◌+◌, ◌≤◌, List, [], ◌∷◌, ◌++◌, Ok, ap, ◌∙◌, arith}
use Rattle.std.proofs.lemmas.List.Sums.{sum_by-append}
use Rattle.e_literal.specs.declared.literal.Lit.{Lit}
use Rattle.e_deriv.specs.declared.names.Names.{Names}
use Rattle.e_line.specs.declared.fault.What.TheVariants as limits
use Rattle.e_line.specs.declared.literal.RawLit.{RawLit}
use Rattle.e_book.specs.declared.parser.TheoremParser.{TheoremParser}
use Rattle.e_line.specs.Reading.{◌>>=◌}
use Rattle.e_line.specs.Limits.{most_monomials_of_facts, within, monomials, count_monomials}
use Rattle.e_names.specs.Scope.{lit_in}
use Rattle.e_line.specs.LineLimits.{count_raw_monomials, check_literal_limits}
use Rattle.e_book.specs.Steps.{terms_after_raw, terms_after, with_terms}
use Rattle.e_book.proofs.parsers.Answered.{within_ok}
use Rattle.e_line.proofs.base.Bound.{bind_ok, ok_is, read_ok}
use Rattle.e_names.proofs.literals.ShortLits.{count_first}
use Rattle.e_names.proofs.read_lines.WellRead.{lits_count}
use Rattle.e_names.proofs.literals.FewSums.{one_lit, few_ok, FewMonos}

-- what with_terms adds
pub record TermsAdded (d e : TheoremParser) (raws : List RawLit) : Type 0 where
  pub few : FewMonos raws
  pub within : d.terms + count_raw_monomials raws ≤ most_monomials_of_facts
  pub is : record d { terms = d.terms + count_raw_monomials raws } ≡ e

pub terms_added : (d e : TheoremParser) (raws : List RawLit) → with_terms d raws ≡ Ok e → TermsAdded d e raws
unfolding with_terms
terms_added d e raws h =
    let n = d.terms + count_raw_monomials raws in
    let then : ℕ → TheoremParser = λ n. record d { terms = n } in
    let f = bind_ok (check_literal_limits raws) (λ few. terms_after_raw d.terms raws >>= λ n. read_ok (then n)) e h in
    let t = bind_ok (terms_after_raw d.terms raws) (λ n. read_ok (then n)) e f.2 in
    let w = bind_ok (within n most_monomials_of_facts limits.Terms) (λ few. read_ok n) t.0 t.1 in
    record { few = few_ok raws f.0 f.1; within = within_ok n most_monomials_of_facts limits.Terms w.0 w.1; is = ap then (ok_is n t.0 w.2) ∙ ok_is (then t.0) e t.2 }

-- what stands after more monomials
pub terms_within : (n m : ℕ) (ls : List Lit) → terms_after n ls ≡ Ok m → (n + count_monomials ls ≤ most_monomials_of_facts) × (n + count_monomials ls ≡ m)
terms_within n m ls h =
    let k = n + count_monomials ls in
    let w = bind_ok (within k most_monomials_of_facts limits.Terms) (λ few. read_ok k) m h in
    (within_ok k most_monomials_of_facts limits.Terms w.0 w.1, ok_is k m w.2)

-- one literal is read with its monomials
pub one_count : (ns : Names) (r : RawLit) (l : Lit) → lit_in ns r ≡ Ok l → count_raw_monomials (r ∷ []) ≡ monomials l.atom
one_count ns r l e =
    let n : count_monomials (l ∷ []) ≡ count_raw_monomials (r ∷ []) = lits_count ns (r ∷ []) (l ∷ []) (one_lit ns r l e) in
    omega (arith, n, count_first l [])

pub monomials-append : (xs ys : List Lit) → count_monomials (xs ++ ys) ≡ count_monomials xs + count_monomials ys
monomials-append xs ys = sum_by-append (λ (m : Lit). monomials m.atom) xs ys
