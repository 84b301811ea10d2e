-- What the commands answer that write something of each theorem of a derivation text as soon as it
-- is verified, and what they write.
use Rattle.std.specs.Prelude.{◌≡◌, ◌⊎◌, ℕ, ◌+◌, ◌<◌, ◌≤◌, ◌^◌, List, [], ◌∷◌, ◌++◌, length}
use Rattle.std.specs.Prelude.{flat_map, codes, Ok, Err, Option, Some, None}
use Rattle.e_clause.specs.declared.cert.Version.{Version}
use Rattle.e_clause.specs.declared.cert.Version.TheVariants.{One, Two}
use Rattle.e_theorem.specs.Statements.{as_view}
use Rattle.e_names.specs.TitledStatements.{TitledStatement, stated_by, title_at}
use Rattle.e_book.specs.TheoremViews.{TheoremView}
use Rattle.e_book.specs.Grammar.{Rest}
use Rattle.e_spell.specs.Spelling.{spelling}
use Rattle.e_places.specs.Numbered.{derivation_with_places}
use Rattle.e_trim.specs.Trimmed.{trimmed_script}
use Rattle.e_trim.specs.Applied.{applied_by}
use Rattle.e_judgement.specs.declared.judgement.Judgement.{Judgement}
use Rattle.e_judgement.specs.declared.judgement.Judgement.TheVariants as judgements
use Rattle.e_judgement.specs.Judged.{with_theorem, Passes, Closes, version_of, JudgedAfterHead}
use Rattle.e_judgement.specs.Judged.{lines_of_text}
use Rattle.e_commands.specs.declared.rewriting.Job.{Job}
use Rattle.e_commands.specs.declared.rewriting.Job.TheVariants.{Upgrade, Trim, Uses}
use Rattle.e_commands.specs.declared.status.Status.{Status}
use Rattle.e_commands.specs.declared.status.Status.TheVariants as status
use Rattle.e_commands.specs.LastLines.{listed_line, bad_line, garbled_line, text_limit_line}
use Rattle.e_commands.specs.LastLines.{read_fault_line, no_memory_line}
use Rattle.e_commands.specs.Answers.{IsVerifiedText, IsFailure}
use Rattle.e_roundtrip.specs.Written.{accepted_blocks_line, version_line}

-- ---- what is written of a theorem

-- its block, where the derivation cites facts by their places
abbrev pub upgraded_block : List TitledStatement → TheoremView → List ℕ
upgraded_block known t =
    spelling known t (derivation_with_places (stated_by known) (as_view t.statement) t.script)

-- its block, where the derivation has no step that nothing needs
abbrev pub trimmed_block : List TitledStatement → TheoremView → List ℕ
trimmed_block known t = spelling known t (trimmed_script (stated_by known) (as_view t.statement) t.script)

-- its line: its title, and those of the theorems that its derivation applies, each after a space
abbrev pub title_word : List TitledStatement → ℕ → List ℕ
title_word known k = 32 ∷ title_at known k

abbrev pub uses_line : List TitledStatement → TheoremView → List ℕ
uses_line known t =
    codes "uses " ++ (t.title ++ (flat_map (title_word known) (applied_by t.script) ++ 10 ∷ []))

abbrev pub block_of : Job → List TitledStatement → TheoremView → List ℕ
block_of Upgrade known t = upgraded_block known t
block_of Trim known t = trimmed_block known t
block_of Uses known t = uses_line known t

-- of theorems, each where those before it are known
abbrev pub rewritten_blocks : Job → List TitledStatement → List TheoremView → List ℕ
rewritten_blocks job known [] = []
rewritten_blocks job known (t ∷ ts) =
    block_of job known t ++ rewritten_blocks job (with_theorem known t) ts

-- ---- what comes before and after

-- the line that comes before anything is read
abbrev pub head_of_job : Job → List ℕ
head_of_job Upgrade = version_line Two
head_of_job Trim = version_line One
head_of_job Uses = []

-- the last line of a text that is verified
abbrev pub verified_end : Job → ℕ → List ℕ
verified_end Upgrade n = accepted_blocks_line n
verified_end Trim n = accepted_blocks_line n
verified_end Uses n = listed_line n

abbrev pub end_line_of_job : Job → Judgement → List ℕ
end_line_of_job job (judgements.Verified n) = verified_end job n
end_line_of_job job (judgements.Bad title step) = bad_line title step
end_line_of_job job (judgements.Garbled line) = garbled_line line

abbrev pub verified_answer : Job → ℕ → Status
verified_answer Upgrade n = status.Upgraded n
verified_answer Trim n = status.Trimmed n
verified_answer Uses n = status.Listed n

abbrev pub answer_of : Job → Judgement → Status
answer_of job (judgements.Verified n) = verified_answer job n
answer_of job (judgements.Bad title step) = status.Bad title step
answer_of job (judgements.Garbled line) = status.Garbled line

-- the head, what is written of the theorems, and the last line
abbrev pub rewritten_with : Job → List TheoremView → List ℕ → List ℕ
rewritten_with job ts last = head_of_job job ++ (rewritten_blocks job [] ts ++ last)

-- ---- the theorems of a text

-- `trim` takes texts of the first version alone
abbrev pub only_first : Option Version → Option Version
only_first None = None
only_first (Some One) = Some One
only_first (Some Two) = None

-- the version in which the command reads a text whose head says this
abbrev pub read_as : Job → Option Version → Option Version
read_as Upgrade head = head
read_as Trim head = only_first head
read_as Uses head = head

-- these theorems come first in lines after the head of this version, each certified by those before
-- it; then this is known, and these lines are left
abbrev pub BeginsCertified : Version → Rest → List TheoremView
    → List TitledStatement → Rest → Type 0
BeginsCertified v lines ts known rest = Passes v (2 + length lines) [] lines ts known rest

-- some of the first theorems after a head that is read in this version, or not at all
abbrev pub AreFirstAfterHead : Option Version → Rest → List TheoremView → Type 0
AreFirstAfterHead None lines ts = ts ≡ []
AreFirstAfterHead (Some v) lines ts =
    (known : List TitledStatement) × (rest : Rest) × BeginsCertified v lines ts known rest

-- some theorems of a text, the first ones; without a head line that the command takes it has none
abbrev pub AreFirstTheorems : Job → Rest → List TheoremView → Type 0
AreFirstTheorems job [] ts = ts ≡ []
AreFirstTheorems job (Err f ∷ lines) ts = ts ≡ []
AreFirstTheorems job (Ok l ∷ lines) ts = AreFirstAfterHead (read_as job (version_of l)) lines ts

-- all theorems after such a head before the place where the lines end so
abbrev pub EndsAfterHead : Option Version → Rest → List TheoremView → Judgement → Type 0
EndsAfterHead None lines ts j = (ts ≡ []) × (j ≡ judgements.Garbled 1)
EndsAfterHead (Some v) lines ts j =
    (known : List TitledStatement) × (rest : Rest) × BeginsCertified v lines ts known rest
    × Closes v (2 + length lines) known rest j

-- all theorems of a text before the place where it ends so; without a head line that the command
-- takes it is garbled at line 1
abbrev pub EndsAfter : Job → Rest → List TheoremView → Judgement → Type 0
EndsAfter job [] ts j = (ts ≡ []) × (j ≡ judgements.Garbled 1)
EndsAfter job (Err f ∷ lines) ts j = (ts ≡ []) × (j ≡ judgements.Garbled 1)
EndsAfter job (Ok l ∷ lines) ts j = EndsAfterHead (read_as job (version_of l)) lines ts j

-- ---- what is due

-- theorems of the text, all before the place where it ends so, what is written of them, and the
-- last line
pub record RewroteUpTo (job : Job) (text : List ℕ) (j : Judgement) (out : List ℕ) : Type 0 where
  pub theorems : List TheoremView
  pub ends : EndsAfter job (lines_of_text text) theorems j
  pub bytes : out ≡ rewritten_with job theorems (end_line_of_job job j)

-- some of the first theorems of the text, what is written of them, and the last line
pub record RewroteSome (job : Job) (text : List ℕ) (last out : List ℕ) : Type 0 where
  pub theorems : List TheoremView
  pub first : AreFirstTheorems job (lines_of_text text) theorems
  pub bytes : out ≡ rewritten_with job theorems last

-- What is due with each answer. A text that is upgraded, trimmed or listed, each by its command, is
-- verified; what is written of one that is upgraded or trimmed is verified itself. Before the last
-- line comes what is written of all theorems before the place where the text ends. A fault of the
-- source comes before anything is judged.
abbrev pub RewriteAnswer : Job → List ℕ → Status → List ℕ → Type 0
RewriteAnswer job text (status.Upgraded n) out =
    (job ≡ Upgrade) × RewroteUpTo job text (judgements.Verified n) out × IsVerifiedText n out
RewriteAnswer job text (status.Trimmed n) out =
    (job ≡ Trim) × RewroteUpTo job text (judgements.Verified n) out × IsVerifiedText n out
RewriteAnswer job text (status.Listed n) out =
    (job ≡ Uses) × RewroteUpTo job text (judgements.Verified n) out
RewriteAnswer job text (status.Bad title step) out =
    RewroteUpTo job text (judgements.Bad title step) out
RewriteAnswer job text (status.Garbled line) out =
    RewroteUpTo job text (judgements.Garbled line) out
RewriteAnswer job text status.TextLimit out =
    (2 ^ 60 < length text) × (out ≡ head_of_job job ++ text_limit_line)
RewriteAnswer job text status.ReadFault out = out ≡ head_of_job job ++ read_fault_line
RewriteAnswer job text status.NoMemory out = RewroteSome job text no_memory_line out
RewriteAnswer job text _ out = ⊥

-- the lines have this judgement for the command, for which a text of a version that it does not
-- take is garbled at line 1
abbrev pub JudgesLinesFor : Job → Rest → Judgement → Type 0
JudgesLinesFor job [] j = j ≡ judgements.Garbled 1
JudgesLinesFor job (Err f ∷ lines) j = j ≡ judgements.Garbled 1
JudgesLinesFor job (Ok l ∷ lines) j = JudgedAfterHead (read_as job (version_of l)) lines j

-- and so has the text
abbrev pub JudgesFor : Job → List ℕ → Judgement → Type 0
JudgesFor job text j = JudgesLinesFor job (lines_of_text text) j

-- where a source exposes its bytes, and they are a text that has this judgement for the command,
-- the answer is that, or the run failed
abbrev pub AnswersRewrite : Job → Option (List ℕ) → Status → Type 0
AnswersRewrite job left answer =
    (text : List ℕ) (j : Judgement) → left ≡ Some text → length text ≤ 2 ^ 60 → JudgesFor job text j
    → (answer ≡ answer_of job j) ⊎ IsFailure answer

abbrev pub IsRewritten : Status → Type 0
IsRewritten (status.Upgraded n) = Unit {0}
IsRewritten (status.Trimmed n) = Unit {0}
IsRewritten (status.Listed n) = Unit {0}
IsRewritten _ = ⊥
