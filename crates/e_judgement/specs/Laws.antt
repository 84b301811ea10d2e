-- A derivation text has a judgement, and one alone.
use Rattle.std.specs.Prelude.{◌≡◌, ℕ, List}
use Rattle.e_judgement.specs.declared.judgement.Judgement.{Judgement}
use Rattle.e_judgement.specs.Judged.{JudgesText}

-- no text is verified and refused, or refused in two ways
abbrev pub TextsHaveOneJudgement : Type 0
TextsHaveOneJudgement =
    (text : List ℕ) (a b : Judgement) → JudgesText text a → JudgesText text b → a ≡ b

-- each text is verified, bad or garbled
abbrev pub EachTextIsJudged : Type 0
EachTextIsJudged = (text : List ℕ) → (j : Judgement) × JudgesText text j
