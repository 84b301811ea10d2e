-- Titles and statements side by side.
use Rattle.std.proofs.Common.{◌≡◌, ℕ, zero, suc, ◌<◌, false, cond, List, [], ◌∷◌, ◌++◌, length, get_or, length-append, refl, sym, ap, subst, ◌∙◌, arith}
use Rattle.std.specs.List.{list_any}
use Rattle.std.specs.Str.{bytes_eq}
use Rattle.e_theorem.specs.declared.statement.Statement.{Statement}
use Rattle.e_theorem.specs.Statements.{as_view, as_views}
use Rattle.e_deriv.specs.PlacedSteps.{theorem_at}
use Rattle.e_names.specs.TitledStatements.{TitledStatement, titled_statement, side_by_side, titles, statements, theorem_of}

pub titles_of : (ts : List (List ℕ)) (ss : List Statement) → length ts ≡ length ss → titles (side_by_side ts ss) ≡ ts
titles_of [] ss e = refl
titles_of (t ∷ ts) [] e = absurd (omega (arith, e))
titles_of (t ∷ ts) (s ∷ ss) e = ap (λ (l : List (List ℕ)). t ∷ l) (titles_of ts ss (omega (arith, e)))

pub statements_of : (ts : List (List ℕ)) (ss : List Statement) → length ts ≡ length ss → statements (side_by_side ts ss) ≡ ss
statements_of [] [] e = refl
statements_of [] (s ∷ ss) e = absurd (omega (arith, e))
statements_of (t ∷ ts) [] e = absurd (omega (arith, e))
statements_of (t ∷ ts) (s ∷ ss) e = ap (λ (l : List Statement). s ∷ l) (statements_of ts ss (omega (arith, e)))

pub length_side_by_side : (ts : List (List ℕ)) (ss : List Statement) → length ts ≡ length ss → length (side_by_side ts ss) ≡ length ss
length_side_by_side [] [] e = refl
length_side_by_side [] (s ∷ ss) e = absurd (omega (arith, e))
length_side_by_side (t ∷ ts) [] e = absurd (omega (arith, e))
length_side_by_side (t ∷ ts) (s ∷ ss) e = ap suc (length_side_by_side ts ss (omega (arith, e)))

-- what the statement at a place says
pub statement_at : (ts : List (List ℕ)) (ss : List Statement) (k : ℕ) (s : Statement) → length ts ≡ length ss → k < length ss → s ≡ get_or ss k s → as_view s ≡ theorem_of (side_by_side ts ss) k
statement_at ts ss k s e lt h = said ss k lt h ∙ ap (λ (l : List Statement). theorem_at (as_views l) k) (sym (statements_of ts ss e))
  where
    said : (ss : List Statement) (k : ℕ) → k < length ss → s ≡ get_or ss k s → as_view s ≡ theorem_at (as_views ss) k
    said [] k lt h = absurd (omega (arith, lt))
    said (x ∷ ss) zero lt h = ap as_view h
    said (x ∷ ss) (suc k) lt h = said ss k (omega (arith, lt)) h

-- one more of each
pub append_side_by_side : (ts : List (List ℕ)) (ss : List Statement) (t : List ℕ) (s : Statement) → length ts ≡ length ss
    → side_by_side (ts ++ t ∷ []) (ss ++ s ∷ []) ≡ side_by_side ts ss ++ titled_statement t s ∷ []
append_side_by_side [] [] t s e = refl
append_side_by_side [] (s' ∷ ss) t s e = absurd (omega (arith, e))
append_side_by_side (t' ∷ ts) [] t s e = absurd (omega (arith, e))
append_side_by_side (t' ∷ ts) (s' ∷ ss) t s e = ap (λ (l : List TitledStatement). titled_statement t' s' ∷ l) (append_side_by_side ts ss t s (omega (arith, e)))

-- a title that is new is put last
pub put_new : (t : List ℕ) (before now : List (List ℕ)) → now ≡ before → list_any (bytes_eq t) before ≡ false → cond (list_any (bytes_eq t) now) now (now ++ t ∷ []) ≡ before ++ t ∷ []
put_new t before now e n = subst (λ (l : List (List ℕ)). cond (list_any (bytes_eq t) l) l (l ++ t ∷ []) ≡ before ++ t ∷ []) (sym e) (rw n refl)

pub one_more_each : (ts : List (List ℕ)) (ss : List Statement) (t : List ℕ) (s : Statement) → length ts ≡ length ss → length (ts ++ t ∷ []) ≡ length (ss ++ s ∷ [])
one_more_each ts ss t s e = omega (arith, e, length-append ts (t ∷ []), length-append ss (s ∷ []))
