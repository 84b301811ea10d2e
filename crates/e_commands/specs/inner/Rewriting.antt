-- What is written of a derivation text, theorem by theorem, before the last line.
use Rattle.std.specs.Prelude.{◌≡◌, ◌⊎◌, false, ℕ, List, [], ◌∷◌, IsTrue, Result, Ok, Err, Option}
use Rattle.e_io.specs.Bytes.{Grew, GrewByFront}
use Rattle.e_clause.specs.declared.cert.Version.{Version}
use Rattle.e_clause.specs.declared.cert.Version.TheVariants.{One, Two}
use Rattle.e_theorem.specs.Statements.{as_view}
use Rattle.e_deriv.specs.Script.{Script}
use Rattle.e_deriv.specs.Versions.{has_certs_of}
use Rattle.e_names.specs.TitledStatements.{TitledStatement, stated_by, is_known}
use Rattle.e_book.specs.TheoremViews.{TheoremView}
use Rattle.e_book.specs.Grammar.{Rest}
use Rattle.e_places.specs.Numbered.{derivation_with_places}
use Rattle.e_verify.specs.Verdicts.{IsVerifiable}
use Rattle.e_judgement.specs.declared.judgement.Judgement.{Judgement}
use Rattle.e_judgement.specs.Judged.{with_theorem, IsCertified, Passes, Closes, lines_of_text}
use Rattle.e_commands.specs.declared.rewriting.Job.{Job}
use Rattle.e_commands.specs.declared.rewriting.Job.TheVariants.{Upgrade, Trim, Uses}
use Rattle.e_commands.specs.declared.output.Failure.{Failure}
use Rattle.e_commands.specs.declared.output.Failure.TheVariants.{NoMemory, ReadFault, WriteFault}
use Rattle.e_commands.specs.declared.status.Status.{Status}
use Rattle.e_commands.specs.declared.status.Status.TheVariants as status
use Rattle.e_commands.specs.LastLines.{no_memory_line}
use Rattle.e_commands.specs.Wrote.{ClosesWith}
use Rattle.e_commands.specs.Rewrites.{block_of, rewritten_blocks, AreFirstTheorems, EndsAfter}
use Rattle.e_commands.specs.Rewrites.{end_line_of_job, answer_of}

-- ---- a theorem

-- `trim` reads the first version alone
abbrev pub IsReadFor : Job → Version → Type 0
IsReadFor Upgrade v = Unit {0}
IsReadFor Trim v = v ≡ One
IsReadFor Uses v = Unit {0}

-- so what it trims is of that version
abbrev pub HasVersionFor : Job → Script → Type 0
HasVersionFor Upgrade d = Unit {0}
HasVersionFor Trim d = IsTrue (has_certs_of One d)
HasVersionFor Uses d = Unit {0}

-- a theorem that was read and is certified
pub record IsVerified (job : Job) (known : List TitledStatement) (t : TheoremView) : Type 0 where
  pub verifiable : IsVerifiable (stated_by known) (as_view t.statement) t.script
  pub certified : IsCertified known t
  pub version : HasVersionFor job t.script
  pub new : is_known known t.title ≡ false

-- what `upgrade` writes is of the second version
abbrev pub IsOfSecond : Job → List TitledStatement → TheoremView → Type 0
IsOfSecond Upgrade known t =
    IsTrue
    (has_certs_of Two (derivation_with_places (stated_by known) (as_view t.statement) t.script))
IsOfSecond Trim known t = Unit {0}
IsOfSecond Uses known t = Unit {0}

abbrev pub AreOfSecond : Job → List TitledStatement → List TheoremView → Type 0
AreOfSecond job known [] = Unit {0}
AreOfSecond job known (t ∷ ts) = IsOfSecond job known t × AreOfSecond job (with_theorem known t) ts

-- what is due of the theorem was written, and it is known
pub record Passed (job : Job) (known : List TitledStatement) (t : TheoremView)
    (now : List TitledStatement) (old new : Option (List ℕ)) : Type 0 where
  pub known_now : now ≡ with_theorem known t
  pub second : IsOfSecond job known t
  pub grew : Grew old new (block_of job known t)

-- where memory ran out nothing was written, or all of it, and where the sink failed a prefix
abbrev pub Broke : Job → List TitledStatement → TheoremView → Option (List ℕ)
    → Option (List ℕ) → Failure → Type 0
Broke job known t old new NoMemory = Grew old new [] ⊎ Grew old new (block_of job known t)
Broke job known t old new WriteFault = GrewByFront old new (block_of job known t)
Broke job known t old new ReadFault = ⊥

-- ---- theorems one after another

-- what is due of some such theorems was written
abbrev pub WroteOf : Job → (List TheoremView → Type 0) → Option (List ℕ) → Option (List ℕ) → Type 0
WroteOf job Are old new =
    (ts : List TheoremView) × Are ts × Grew old new (rewritten_blocks job [] ts)

-- some first bytes of it were written, and not all
abbrev pub WroteFrontOf : Job → (List TheoremView → Type 0) → Option (List ℕ)
    → Option (List ℕ) → Type 0
WroteFrontOf job Are old new =
    (ts : List TheoremView) × Are ts × GrewByFront old new (rewritten_blocks job [] ts)

-- what was written with a result: where the lines end so, what is due of the theorems before their
-- end, else of some first ones
abbrev pub WroteTheorems : Job → (List TheoremView → Judgement → Type 0)
    → (List TheoremView → Type 0) → Option (List ℕ) → Option (List ℕ)
    → Result Judgement Failure → Type 0
WroteTheorems job End Are old new (Ok j) =
    WroteOf job (λ ts. End ts j × AreOfSecond job [] ts) old new
WroteTheorems job End Are old new (Err NoMemory) = WroteOf job Are old new
WroteTheorems job End Are old new (Err WriteFault) = WroteFrontOf job Are old new
WroteTheorems job End Are old new (Err ReadFault) = ⊥

-- these theorems come first in lines after a head
abbrev pub ComeFirst : Version → ℕ → Rest → List TheoremView → Type 0
ComeFirst v last lines ts =
    (known : List TitledStatement) × (rest : Rest) × Passes v last [] lines ts known rest

-- and then the lines end so
abbrev pub ComeAll : Version → ℕ → Rest → List TheoremView → Judgement → Type 0
ComeAll v last lines ts j =
    (known : List TitledStatement) × (rest : Rest) × Passes v last [] lines ts known rest
    × Closes v last known rest j

-- of lines after a head
abbrev pub TheoremsWritten : Job → Version → ℕ → Rest → Option (List ℕ) → Option (List ℕ)
    → Result Judgement Failure → Type 0
TheoremsWritten job v last lines old new result =
    WroteTheorems job (ComeAll v last lines) (ComeFirst v last lines) old new result

-- of a text
abbrev pub BlocksWritten : Job → List ℕ → Option (List ℕ) → Option (List ℕ)
    → Result Judgement Failure → Type 0
BlocksWritten job text old new result =
    WroteTheorems job (EndsAfter job (lines_of_text text))
    (AreFirstTheorems job (lines_of_text text)) old new result

-- theorems that are certified one after another, and what is due of them was written; these lines
-- are left
pub record Progress (job : Job) (v : Version) (last : ℕ) (lines : Rest) (old new : Option (List ℕ))
    (known : List TitledStatement) (rest : Rest) : Type 0 where
  pub theorems : List TheoremView
  pub passes : Passes v last [] lines theorems known rest
  pub second : AreOfSecond job [] theorems
  pub grew : Grew old new (rewritten_blocks job [] theorems)

-- the run closes with the last line of the judgement, or with that of out of memory
abbrev pub IsReported : Job → Option (List ℕ) → Option (List ℕ) → Judgement → Status → Type 0
IsReported job old new j result =
    ClosesWith old new (end_line_of_job job j) (answer_of job j) result
    ⊎ ClosesWith old new no_memory_line status.NoMemory result
