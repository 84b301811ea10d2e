use Rattle.std.proofs.Common.{◌≡◌, ◌+◌, ◌≤◌, drop}
use Rattle.e_line.specs.Limits.{most_monomials_of_facts}
use Rattle.e_line.specs.LineLimits.{count_raw_monomials}
use Rattle.e_book.proofs.limits.terms_with.Given as goal

abbrev pub invariant-loop-lit : goal.invariant-loop-lit
invariant-loop-lit l = record {
  count : l.terms + count_raw_monomials (drop l.lit-index l.lits) ≡ l.before + count_raw_monomials l.lits;
  within : l.terms ≤ most_monomials_of_facts;
}
