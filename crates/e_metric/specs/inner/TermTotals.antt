-- What is kept for each term while rows are added up.
use Rattle.std.specs.Prelude.{List, ℤ, pos, unwrap_or}
use Rattle.std.specs.Ordering.{is_eq}
use Rattle.std.specs.Map.{lookup}
use Rattle.e_literal.specs.declared.object.Term.{Term}
use Rattle.e_literal.specs.contracts.object.TermOrd.TheImpl as order_impl

-- the number that is kept for the term, 0 where there is none
abbrev pub kept_total : List (Term × ℤ) → Term → ℤ
kept_total entries t =
    unwrap_or (lookup (λ k. is_eq ((order_impl.cmp-value).it t k)) entries) (pos 0)
