-- What is known where reading goes on: which test was passed, and what the answer was.
use Rattle.std.proofs.Common.{◌≡◌, ℕ, ◌≤◌, Bool, true, false, cond, ltb, inl, inr, List, Option, Some, None, Result, Ok, Err, refl, ap, arith}
use Rattle.std.specs.Prelude.{◌⊎◌}
use Rattle.std.proofs.lemmas.Bool.{cases_lt, lt-ltb}
use Rattle.e_text.specs.Lines.{LineView}
use Rattle.e_text.specs.declared.line.LineFault.{LineFault}
use Rattle.e_line.specs.declared.fault.FaultKind.{FaultKind}
use Rattle.e_line.specs.declared.fault.FaultKind.TheVariants.{Malformed, NameTaken, Limit}
use Rattle.e_line.specs.declared.fault.BookFault.{BookFault}
use Rattle.e_line.specs.declared.fault.What.{What}
use Rattle.e_book.specs.declared.parser.TheoremParser.{TheoremParser}
use Rattle.e_line.specs.Limits.{within}
use Rattle.e_book.specs.TheoremViews.{TheoremView}
use Rattle.e_book.specs.Grammar.{put_at}
use Rattle.e_line.proofs.base.Bound.{read_ok}

refused : (b : Bool) (what : What) (u : Unit {0}) → b ≡ true → cond b (Err (Limit what)) (read_ok tt) ≡ Ok u → ⊥
refused true what u t e = absurd cc
refused false what u t e = absurd cc

pub within_ok : (n most : ℕ) (what : What) (u : Unit {0}) → within n most what ≡ Ok u → n ≤ most
within_ok n most what u e =
    elim (cases_lt most n) [
      | inl lt ↦ absurd (refused (ltb most n) what u (lt-ltb most n lt) e)
      | inr ge ↦ omega (arith, ge)
    ]

-- ---- a test that was passed

pub passes : (b : Bool) (x : Result TheoremParser FaultKind) (y : TheoremParser) → cond b x (Err Malformed) ≡ Ok y → (b ≡ true) × (x ≡ Ok y)
passes true x y e = (refl, e)
passes false x y e = absurd cc

pub untaken : (b : Bool) (x : Result TheoremParser FaultKind) (y : TheoremParser) → cond b (Err NameTaken) x ≡ Ok y → (b ≡ false) × (x ≡ Ok y)
untaken true x y e = absurd cc
untaken false x y e = (refl, e)

-- ---- an answer

pub put_ok : (n : ℕ) (r : Result TheoremParser FaultKind) (d : TheoremParser) → put_at n r ≡ Ok d → r ≡ Ok d
put_ok n (Ok x) d e = cc
put_ok n (Err k) d e = absurd cc

abbrev pub Answer : Type 0
Answer = Option (TheoremView × List (Result LineView LineFault))

abbrev pub answered : Answer → Result Answer BookFault
answered x = Ok x

abbrev pub pair : TheoremView → List (Result LineView LineFault) → Answer
pair t rest = Some (t, rest)

pub first_is : (t u : TheoremView) (ts us : List (Result LineView LineFault)) → answered (pair t ts) ≡ answered (pair u us) → t ≡ u
first_is t u ts us e = ap (λ (a : Answer). entry_in t a) (answer_is (pair t ts) (pair u us) e) where
  entry_in : TheoremView → Answer → TheoremView
  entry_in t None = t
  entry_in t (Some p) = p.0

  answer_is : (a b : Answer) → answered a ≡ answered b → a ≡ b
  answer_is a b e = cc

pub skip_or : (b : Bool) (x y z : Result Answer BookFault) → cond b x y ≡ z → ((b ≡ true) × (x ≡ z)) ⊎ ((b ≡ false) × (y ≡ z))
skip_or true x y z e = inl (refl, e)
skip_or false x y z e = inr (refl, e)
