-- What is written of a derivation text, theorem by theorem, and with its last line.
use Rattle.std.proofs.Common.{◌≡◌, ◌⊎◌, inl, inr, ℕ, ◌+◌, ◌≤◌, ◌^◌, List, [], ◌∷◌, ◌++◌, length, take, Option, Some, None, Result, Ok, Err, true, refl, sym, ap, subst, ◌∙◌, arith, append_assoc, length-append}
use Rattle.std.specs.Prelude.{IfOk}
use Rattle.std.proofs.lemmas.List.{append-nil}
use Rattle.std.proofs.Math.Seq.{take-append-add, take-append-le}
use Rattle.e_io.specs.Bytes.{Grew, GrewByFront}
use Rattle.e_io.proofs.Growth.{grown, grown-nothing}
use Rattle.e_text.specs.Lines.{Ahead}
use Rattle.e_clause.specs.declared.cert.Version.{Version}
use Rattle.e_clause.specs.declared.cert.Version.TheVariants.{One}
use Rattle.e_theorem.specs.Statements.{as_view}
use Rattle.e_deriv.specs.Script.{Script}
use Rattle.e_names.specs.TitledStatements.{TitledStatement, stated_by}
use Rattle.e_book.specs.TheoremViews.{TheoremView}
use Rattle.e_book.specs.Grammar.{last_line as last_of, Rest}
use Rattle.e_deriv.specs.Versions.{has_certs_of}
use Rattle.e_trim.specs.Trimmable.{IsTrimmable}
use Rattle.e_verify.specs.Verdicts.{IsVerifiable}
use Rattle.e_judgement.specs.declared.judgement.Judgement.{Judgement}
use Rattle.e_judgement.specs.declared.judgement.Judgement.TheVariants as judgements
use Rattle.e_judgement.specs.Judged.{with_theorem, ReadsNext, IsCertified, Passes, Closes, JudgedAfterHead, version_of, lines_of_text}
use Rattle.e_judgement.specs.Steps.{IsNextCertified, version_at, IsHeadFound as Starts}
use Rattle.e_judgement.proofs.Passing.{passes_more}
use Rattle.e_judgement.proofs.OneJudgement.{one_after_head}
use Rattle.e_commands.specs.declared.rewriting.Job.{Job}
use Rattle.e_commands.specs.declared.rewriting.Job.TheVariants.{Upgrade, Trim, Uses}
use Rattle.e_commands.specs.declared.status.Status.{Status}
use Rattle.e_commands.specs.declared.status.Status.TheVariants as status
use Rattle.e_commands.specs.LastLines.{no_memory_line, read_fault_line}
use Rattle.e_commands.specs.Answers.{IsReadFault, IsWriteFault, IsFailure, WroteOfText}
use Rattle.e_commands.specs.Rewrites.{head_of_job, block_of, rewritten_blocks, end_line_of_job, verified_answer, answer_of, rewritten_with, read_as, AreFirstAfterHead, AreFirstTheorems, EndsAfterHead, EndsAfter, RewriteAnswer, JudgesLinesFor, JudgesFor, AnswersRewrite, IsRewritten}
use Rattle.e_commands.specs.Wrote.{ClosesWith, Wrote}
use Rattle.e_commands.specs.declared.output.Answer.{Answer}
use Rattle.e_commands.specs.declared.output.Failure.{Failure}
use Rattle.e_commands.specs.inner.Finished.{Finishes, HasReadFault, IsOrNoMemory}
use Rattle.e_commands.proofs.answers.Finished.{finished_as}
use Rattle.e_commands.proofs.answers.VerifierAnswers.{any_of}
use Rattle.e_commands.specs.declared.output.Failure.TheVariants as errors
use Rattle.e_commands.specs.inner.Rewriting.{HasVersionFor, IsReadFor, IsVerified, IsOfSecond, AreOfSecond, Broke, WroteOf, WroteFrontOf, WroteTheorems, ComeFirst, ComeAll, TheoremsWritten, BlocksWritten, Progress, IsReported}
use Rattle.e_commands.proofs.written_texts.VerifiedAgain.{head_is}
use Rattle.e_commands.proofs.written_texts.UpgradedTexts.{upgraded_is_verified}
use Rattle.e_commands.proofs.written_texts.TrimmedTexts.{trimmed_is_verified}

-- ---- a theorem

version_for : (job : Job) (v : Version) (d : Script) → IsReadFor job v → has_certs_of v d ≡ true → HasVersionFor job d
version_for Upgrade v d first h = tt
version_for Trim v d first h = subst (λ (x : Version). has_certs_of x d ≡ true) first h
version_for Uses v d first h = tt

-- what comes next of a text that the command reads can be written again
pub is_verified : (job : Job) (v : Version) (known : List TitledStatement) (last : ℕ) (lines : Rest) (t : TheoremView) (after : Rest) → IsReadFor job v → IsNextCertified v known last lines t after → IsVerified job known t
is_verified job v known last lines t after first n = record { verifiable = n.verifiable; certified = n.certified; version = version_for job v t.script first n.version; new = n.spelled.fits.new }

-- and trimmed, where it is of the first version
pub trimmable : (known : List TitledStatement) (t : TheoremView) → IsVerifiable (stated_by known) (as_view t.statement) t.script → IsCertified known t → has_certs_of One t.script ≡ true → IsTrimmable (stated_by known) (as_view t.statement) t.script
trimmable known t v c first = record { statements = v.statements; statement = v.statement; short = v.short; scopes = v.scopes; version = first; certified = c }

-- ---- one theorem more

module _ (job : Job) (v : Version) (last : ℕ) where
  blocks_more : (known : List TitledStatement) (lines : Rest) (ts : List TheoremView) (now : List TitledStatement) (rest : Rest) (t : TheoremView)
      → Passes v last known lines ts now rest → rewritten_blocks job known (ts ++ t ∷ []) ≡ rewritten_blocks job known ts ++ block_of job now t
  blocks_more known lines [] now rest t r = append-nil (block_of job known t) ∙ ap (λ (k : List TitledStatement). block_of job k t) r.0
  blocks_more known lines (u ∷ us) now rest t r =
      let later = with_theorem known u in
      ap (λ (x : List ℕ). block_of job known u ++ x) (blocks_more later r.0 us now rest t r.3) ∙ sym (append_assoc (block_of job known u) (rewritten_blocks job later us) (block_of job now t))

  second_more : (known : List TitledStatement) (lines : Rest) (ts : List TheoremView) (now : List TitledStatement) (rest : Rest) (t : TheoremView)
      → Passes v last known lines ts now rest → AreOfSecond job known ts → IsOfSecond job now t → AreOfSecond job known (ts ++ t ∷ [])
  second_more known lines [] now rest t r h k = (subst (λ (x : List TitledStatement). IsOfSecond job x t) (sym r.0) k, tt)
  second_more known lines (u ∷ us) now rest t r h k = (h.0, second_more (with_theorem known u) r.0 us now rest t r.3 h.1 k)

  -- nothing is written before the first
  pub begins : (lines : Rest) (old : Option (List ℕ)) → Progress job v last lines old old [] lines
  begins lines old = record { theorems = []; passes = (refl, refl); second = tt; grew = grown-nothing old }

  -- what is due of the next one was written
  pub goes_on : (lines : Rest) (old new newer : Option (List ℕ)) (known : List TitledStatement) (rest : Rest) (t : TheoremView) (after : Rest)
      → Progress job v last lines old new known rest → ReadsNext v last known rest t after → IsCertified known t → IsOfSecond job known t
      → Grew new newer (block_of job known t) → Progress job v last lines old newer (with_theorem known t) after
  goes_on lines old new newer known rest t after h r c k w = record {
    theorems = h.theorems ++ t ∷ [];
    passes = passes_more v last [] lines h.theorems known rest t after h.passes r c;
    second = second_more [] lines h.theorems known rest t h.passes h.second k;
    grew = subst (λ (b : List ℕ). Grew old newer b) (sym (blocks_more [] lines h.theorems known rest t h.passes)) (grown old new newer (rewritten_blocks job [] h.theorems) (block_of job known t) h.grew w);
  }

  -- the theorems so far are some first ones
  pub breaks_off : (lines : Rest) (old new : Option (List ℕ)) (known : List TitledStatement) (rest : Rest) → Progress job v last lines old new known rest → WroteOf job (ComeFirst v last lines) old new
  breaks_off lines old new known rest h = (h.theorems, (known, rest, h.passes), h.grew)

  -- a front of what is due of the next one was written
  breaks_inside : (lines : Rest) (old new newer : Option (List ℕ)) (known : List TitledStatement) (rest : Rest) (t : TheoremView) (after : Rest)
      → Progress job v last lines old new known rest → ReadsNext v last known rest t after → IsCertified known t → GrewByFront new newer (block_of job known t) → WroteFrontOf job (ComeFirst v last lines) old newer
  breaks_inside lines old new newer known rest t after h r c w =
      let blocks = rewritten_blocks job [] h.theorems in
      let same = blocks_more [] lines h.theorems known rest t h.passes in (
        h.theorems ++ t ∷ [],
        (with_theorem known t, after, passes_more v last [] lines h.theorems known rest t after h.passes r c),
        subst (λ (b : List ℕ). GrewByFront old newer b) (sym same) (
          length blocks + w.0,
          omega (arith, w.1, length-append blocks (block_of job known t)),
          subst (λ (l : List ℕ). Grew old newer l) (sym (take-append-add blocks (block_of job known t) w.0)) (grown old new newer blocks (take w.0 (block_of job known t)) h.grew w.2),
        ),
      )

  -- the next one was not passed
  pub breaks_at : (lines : Rest) (old new newer : Option (List ℕ)) (known : List TitledStatement) (rest : Rest) (t : TheoremView) (after : Rest) (e : Failure)
      → Progress job v last lines old new known rest → ReadsNext v last known rest t after → IsCertified known t → Broke job known t new newer e → TheoremsWritten job v last lines old newer (Err e)
  breaks_at lines old new newer known rest t after errors.NoMemory h r c (inl w) =
      (h.theorems, (known, rest, h.passes), subst (λ (b : List ℕ). Grew old newer b) (append-nil (rewritten_blocks job [] h.theorems)) (grown old new newer (rewritten_blocks job [] h.theorems) [] h.grew w))
  breaks_at lines old new newer known rest t after errors.NoMemory h r c (inr w) = (
    h.theorems ++ t ∷ [],
    (with_theorem known t, after, passes_more v last [] lines h.theorems known rest t after h.passes r c),
    subst (λ (b : List ℕ). Grew old newer b) (sym (blocks_more [] lines h.theorems known rest t h.passes)) (grown old new newer (rewritten_blocks job [] h.theorems) (block_of job known t) h.grew w),
  )
  breaks_at lines old new newer known rest t after errors.WriteFault h r c w = breaks_inside lines old new newer known rest t after h r c w
  breaks_at lines old new newer known rest t after errors.ReadFault h r c w = absurd w

  -- the lines end so, and what is due of the theorems was written
  pub ends_so : (lines : Rest) (old new : Option (List ℕ)) (known : List TitledStatement) (rest : Rest) (j : Judgement) → Progress job v last lines old new known rest → Closes v last known rest j → TheoremsWritten job v last lines old new (Ok j)
  ends_so lines old new known rest j h c = (h.theorems, ((known, rest, h.passes, c), h.second), h.grew)

-- ---- the first line

wrote_as : (job : Job) (End End' : List TheoremView → Judgement → Type 0) (Are Are' : List TheoremView → Type 0) (old new : Option (List ℕ)) (r : Result Judgement Failure)
    → ((ts : List TheoremView) (j : Judgement) → End ts j → End' ts j) → ((ts : List TheoremView) → Are ts → Are' ts) → WroteTheorems job End Are old new r → WroteTheorems job End' Are' old new r
wrote_as job End End' Are Are' old new (Ok j) f g h = (h.0, (f h.0 j h.1.0, h.1.1), h.2)
wrote_as job End End' Are Are' old new (Err errors.NoMemory) f g h = (h.0, g h.0 h.1, h.2)
wrote_as job End End' Are Are' old new (Err errors.WriteFault) f g h = (h.0, g h.0 h.1, h.2)
wrote_as job End End' Are Are' old new (Err errors.ReadFault) f g h = h

-- after a head line that the command takes, what was written of the theorems was written of the text
pub head_then : (job : Job) (text : List ℕ) (lines : Rest) (after : Ahead) (head : Option Version) (v : Version) (old new : Option (List ℕ)) (r : Result Judgement Failure)
    → lines ≡ lines_of_text text → Starts lines after head → read_as job head ≡ Some v → TheoremsWritten job v (last_of after) after.lines old new r → BlocksWritten job text old new r
head_then job text lines after head v old new r is starts e k =
    let t = starts.taken v (head_is job head v e) in
    let at : lines_of_text text ≡ Ok t.0 ∷ after.lines = sym is ∙ t.1 in
    let says : version_of t.0 ≡ head = sym (ap version_at t.1) ∙ sym starts.head in
    let here : read_as job (version_of t.0) ≡ Some v = ap (read_as job) says ∙ e in
    wrote_as job (ComeAll v (last_of after) after.lines) (EndsAfter job (lines_of_text text)) (ComeFirst v (last_of after) after.lines) (AreFirstTheorems job (lines_of_text text)) old new r
    (λ ts j w. subst (λ (x : Rest). EndsAfter job x ts j) (sym at) (subst (λ (o : Option Version). EndsAfterHead o after.lines ts j) (sym here) (all_at t.2 ts j w)))
    (λ ts w. subst (λ (x : Rest). AreFirstTheorems job x ts) (sym at) (subst (λ (o : Option Version). AreFirstAfterHead o after.lines ts) (sym here) (first_at t.2 ts w)))
    k
  where
    all_at : after.line ≡ 2 → (ts : List TheoremView) (j : Judgement) → ComeAll v (last_of after) after.lines ts j → ComeAll v (2 + length after.lines) after.lines ts j
    all_at n ts j w = subst (λ (k : ℕ). ComeAll v (k + length after.lines) after.lines ts j) n w

    first_at : after.line ≡ 2 → (ts : List TheoremView) → ComeFirst v (last_of after) after.lines ts → ComeFirst v (2 + length after.lines) after.lines ts
    first_at n ts w = subst (λ (k : ℕ). ComeFirst v (k + length after.lines) after.lines ts) n w

-- without one it is garbled at once
headless : (job : Job) (lines : Rest) → read_as job (version_at lines) ≡ None → EndsAfter job lines [] (judgements.Garbled 1)
headless job [] h = (refl, refl)
headless job (Err f ∷ lines) h = (refl, refl)
headless job (Ok l ∷ lines) h = subst (λ (o : Option Version). EndsAfterHead o lines [] (judgements.Garbled 1)) (sym h) (refl, refl)

pub not_begun : (job : Job) (text : List ℕ) (lines : Rest) (after : Ahead) (head : Option Version) (old : Option (List ℕ))
    → lines ≡ lines_of_text text → Starts lines after head → read_as job head ≡ None → BlocksWritten job text old old (Ok (judgements.Garbled 1))
not_begun job text lines after head old is starts e =
    ([], (subst (λ (x : Rest). EndsAfter job x [] (judgements.Garbled 1)) is (headless job lines (ap (read_as job) (sym starts.head) ∙ e)), tt), grown-nothing old)

-- ---- some first theorems of a text

-- no theorem comes before any text
none_first : (job : Job) (text : List ℕ) → AreFirstTheorems job (lines_of_text text) []
none_first job text = by (lines_of_text text)
  where
    after : (o : Option Version) (lines : Rest) → AreFirstAfterHead o lines []
    after None lines = refl
    after (Some v) lines = ([], lines, (refl, refl))

    by : (lines : Rest) → AreFirstTheorems job lines []
    by [] = refl
    by (Err f ∷ lines) = refl
    by (Ok l ∷ lines) = after (read_as job (version_of l)) lines

-- those before its end are
first_of_all : (job : Job) (text : List ℕ) (ts : List TheoremView) (j : Judgement) → EndsAfter job (lines_of_text text) ts j → AreFirstTheorems job (lines_of_text text) ts
first_of_all job text ts j h = by (lines_of_text text) h
  where
    after : (o : Option Version) (lines : Rest) → EndsAfterHead o lines ts j → AreFirstAfterHead o lines ts
    after None lines k = k.0
    after (Some v) lines k = (k.0, k.1, k.2)

    by : (lines : Rest) → EndsAfter job lines ts j → AreFirstTheorems job lines ts
    by [] k = k.0
    by (Err f ∷ lines) k = k.0
    by (Ok l ∷ lines) k = after (read_as job (version_of l)) lines k

-- ---- with the last line

grew_all : (job : Job) (old s0 s1 s2 : Option (List ℕ)) (ts : List TheoremView) (last : List ℕ) → Grew old s0 (head_of_job job) → Grew s0 s1 (rewritten_blocks job [] ts) → Grew s1 s2 last → Grew old s2 (rewritten_with job ts last)
grew_all job old s0 s1 s2 ts last h b l = grown old s0 s2 (head_of_job job) (rewritten_blocks job [] ts ++ last) h (grown s0 s1 s2 (rewritten_blocks job [] ts) last b l)

grew_front : (job : Job) (old s0 s1 s2 : Option (List ℕ)) (ts : List TheoremView) (last : List ℕ) → Grew old s0 (head_of_job job) → Grew s0 s1 (rewritten_blocks job [] ts) → GrewByFront s1 s2 last → GrewByFront old s2 (rewritten_with job ts last)
grew_front job old s0 s1 s2 ts last h b l =
    let n = l.0 in
    let blocks = rewritten_blocks job [] ts in
    let size : length (rewritten_with job ts last) ≡ length (head_of_job job) + (length blocks + length last) = length-append (head_of_job job) (blocks ++ last) ∙ ap (λ (k : ℕ). length (head_of_job job) + k) (length-append blocks last) in (
      length (head_of_job job) + (length blocks + n),
      omega (arith, l.1, size),
      subst (λ (x : List ℕ). Grew old s2 x)
          (sym (take-append-add (head_of_job job) (blocks ++ last) (length blocks + n) ∙ ap (λ (x : List ℕ). head_of_job job ++ x) (take-append-add blocks last n)))
          (grown old s0 s2 (head_of_job job) (blocks ++ take n last) h (grown s0 s1 s2 blocks (take n last) b l.2)),
    )

-- the answer is right, by what its bytes are
closed : (job : Job) (text : List ℕ) (old s0 s1 s2 : Option (List ℕ)) (ts : List TheoremView) (last : List ℕ) (answer result : Status)
    → RewriteAnswer job text answer (rewritten_with job ts last) → Grew old s0 (head_of_job job) → Grew s0 s1 (rewritten_blocks job [] ts) → ClosesWith s1 s2 last answer result → Wrote (RewriteAnswer job text) old s2 result
closed job text old s0 s1 s2 ts last answer result due h b (inl c) =
    subst (Wrote (RewriteAnswer job text) old s2) (sym c.0) (inl (record { out = rewritten_with job ts last; due = due; grew = grew_all job old s0 s1 s2 ts last h b c.1 }))
closed job text old s0 s1 s2 ts last answer result due h b (inr c) =
    inr (c.0, record { answer = answer; out = rewritten_with job ts last; due = due; grew = grew_front job old s0 s1 s2 ts last h b c.1 })

-- a front of what is due of the theorems was written
pub closed_inside : (job : Job) (text : List ℕ) (old s0 s1 : Option (List ℕ)) → Grew old s0 (head_of_job job) → WroteFrontOf job (AreFirstTheorems job (lines_of_text text)) s0 s1 → Wrote (RewriteAnswer job text) old s1 status.WriteFault
closed_inside job text old s0 s1 h e =
    let ts = e.0 in
    let blocks = rewritten_blocks job [] ts in
    let n = e.2.0 in
    let size : length (rewritten_with job ts no_memory_line) ≡ length (head_of_job job) + (length blocks + length no_memory_line) =
    length-append (head_of_job job) (blocks ++ no_memory_line) ∙ ap (λ (k : ℕ). length (head_of_job job) + k) (length-append blocks no_memory_line) in
    inr (
      refl,
      record {
        answer = status.NoMemory;
        out = rewritten_with job ts no_memory_line;
        due = record { theorems = ts; first = e.1; bytes = refl };
        grew = (
          length (head_of_job job) + n,
          omega (arith, e.2.1, size),
          subst (λ (x : List ℕ). Grew old s1 x)
              (sym (take-append-add (head_of_job job) (blocks ++ no_memory_line) n ∙ ap (λ (x : List ℕ). head_of_job job ++ x) (take-append-le n blocks no_memory_line (omega (arith, e.2.1)))))
              (grown old s0 s1 (head_of_job job) (take n blocks) h e.2.2),
        );
      },
    )

-- a front of the head was written
pub closed_head : (job : Job) (text : List ℕ) (old new : Option (List ℕ)) → GrewByFront old new (head_of_job job) → Wrote (RewriteAnswer job text) old new status.WriteFault
closed_head job text old new w =
    let size : length (rewritten_with job [] no_memory_line) ≡ length (head_of_job job) + length no_memory_line = length-append (head_of_job job) no_memory_line in
    inr (
      refl,
      record {
        answer = status.NoMemory;
        out = rewritten_with job [] no_memory_line;
        due = record { theorems = []; first = none_first job text; bytes = refl };
        grew = (w.0, omega (arith, w.1, size), subst (λ (x : List ℕ). Grew old new x) (sym (take-append-le w.0 (head_of_job job) no_memory_line (omega (arith, w.1)))) w.2);
      },
    )

-- nothing of the theorems was written before these last lines
pub closed_first : (job : Job) (text : List ℕ) (old s0 s1 : Option (List ℕ)) (last : List ℕ) (answer result : Status) → RewriteAnswer job text answer (head_of_job job ++ last) → Grew old s0 (head_of_job job) → ClosesWith s0 s1 last answer result
    → Wrote (RewriteAnswer job text) old s1 result
closed_first job text old s0 s1 last answer result due h c = closed job text old s0 s0 s1 [] last answer result due h (grown-nothing s0) c

pub closed_memory : (job : Job) (text : List ℕ) (old s0 s1 s2 : Option (List ℕ)) (result : Status) → Grew old s0 (head_of_job job) → WroteOf job (AreFirstTheorems job (lines_of_text text)) s0 s1 → ClosesWith s1 s2 no_memory_line status.NoMemory result
    → Wrote (RewriteAnswer job text) old s2 result
closed_memory job text old s0 s1 s2 result h e c = closed job text old s0 s1 s2 e.0 no_memory_line status.NoMemory result (record { theorems = e.0; first = e.1; bytes = refl }) h e.2 c

-- nothing of the text was passed when memory gave out
pub no_theorem : (job : Job) (text : List ℕ) → RewriteAnswer job text status.NoMemory (head_of_job job ++ no_memory_line)
no_theorem job text = record { theorems = []; first = none_first job text; bytes = refl }

-- ---- a judgement closes

due_end : (job : Job) (text : List ℕ) (j : Judgement) (ts : List TheoremView) → EndsAfter job (lines_of_text text) ts j → AreOfSecond job [] ts → RewriteAnswer job text (answer_of job j) (rewritten_with job ts (end_line_of_job job j))
due_end Upgrade text (judgements.Verified n) ts e s = (refl, record { theorems = ts; ends = e; bytes = refl }, upgraded_is_verified text n ts e s)
due_end Trim text (judgements.Verified n) ts e s = (refl, record { theorems = ts; ends = e; bytes = refl }, trimmed_is_verified text n ts e s)
due_end Uses text (judgements.Verified n) ts e s = (refl, record { theorems = ts; ends = e; bytes = refl })
due_end job text (judgements.Bad title step) ts e s = record { theorems = ts; ends = e; bytes = refl }
due_end job text (judgements.Garbled line) ts e s = record { theorems = ts; ends = e; bytes = refl }

-- the last line of a judgement, or that of want of memory
pub closed_judgement : (job : Job) (text : List ℕ) (old s0 s1 s2 : Option (List ℕ)) (j : Judgement) (result : Status) → Grew old s0 (head_of_job job) → BlocksWritten job text s0 s1 (Ok j) → IsReported job s1 s2 j result → Wrote (RewriteAnswer job text) old s2 result
closed_judgement job text old s0 s1 s2 j result h e (inl c) = closed job text old s0 s1 s2 e.0 (end_line_of_job job j) (answer_of job j) result (due_end job text j e.0 e.1.0 e.1.1) h e.2 c
closed_judgement job text old s0 s1 s2 j result h e (inr c) = closed_memory job text old s0 s1 s2 result h (e.0, first_of_all job text e.0 j e.1.0, e.2) c

-- ---- what the calls gave

-- the answer of a judgement, with its line
abbrev pub IsAnswerOf : {E : Type 0} → Job → Result Answer E → Judgement → Type 0
IsAnswerOf job r j = IfOk r (λ a. (a.status ≡ answer_of job j) × (a.line.items ≡ end_line_of_job job j))

pub reported : {E : Type 0} (job : Job) (old new : Option (List ℕ)) (r : Result Answer E) (answer : Result Answer Failure) (j : Judgement) (result : Status) → IsAnswerOf job r j → IsOrNoMemory r answer → Finishes old new answer result → IsReported job old new j result
reported job old new (Ok a) answer j result is or c =
    inl (subst (λ (l : List ℕ). ClosesWith old new l (answer_of job j) result) is.1 (subst (λ (x : Status). ClosesWith old new a.line.items x result) is.0 (subst (λ (x : Result Answer Failure). Finishes old new x result) or c)))
reported job old new (Err e) answer j result is or c = inr (subst (λ (x : Result Answer Failure). Finishes old new x result) or c)

-- no judgement is answered by a fault of the source or of the sink
no_fault : (job : Job) (j : Judgement) → (IsReadFault (answer_of job j) → ⊥) × (IsWriteFault (answer_of job j) → ⊥)
no_fault Upgrade (judgements.Verified n) = (λ h. h, λ h. h)
no_fault Trim (judgements.Verified n) = (λ h. h, λ h. h)
no_fault Uses (judgements.Verified n) = (λ h. h, λ h. h)
no_fault job (judgements.Bad title step) = (λ h. h, λ h. h)
no_fault job (judgements.Garbled line) = (λ h. h, λ h. h)

pub judgement_unread : {E : Type 0} (job : Job) (r : Result Answer E) (j : Judgement) → IsAnswerOf job r j → IfOk r (λ a. IsReadFault a.status → ⊥)
judgement_unread job (Ok a) j is = λ h. (no_fault job j).0 (subst IsReadFault is.0 h)
judgement_unread job (Err e) j is = tt

pub judgement_writes : {E : Type 0} (job : Job) (r : Result Answer E) (j : Judgement) → IsAnswerOf job r j → IfOk r (λ a. IsWriteFault a.status → ⊥)
judgement_writes job (Ok a) j is = λ h. (no_fault job j).1 (subst IsWriteFault is.0 h)
judgement_writes job (Err e) j is = tt

-- no text was read
pub unread : (job : Job) (left old s0 s1 : Option (List ℕ)) (f : Failure) (result : Status) → (f ≡ errors.WriteFault → ⊥) → Grew old s0 (head_of_job job) → Finishes s0 s1 (Err f) result → WroteOfText (RewriteAnswer job) left old s1 result
unread job left old s0 s1 errors.NoMemory result w h c = any_of left (λ text. Wrote (RewriteAnswer job text) old s1 result) (λ text. closed_first job text old s0 s1 no_memory_line status.NoMemory result (no_theorem job text) h c)
unread job left old s0 s1 errors.ReadFault result w h c = any_of left (λ text. Wrote (RewriteAnswer job text) old s1 result) (λ text. closed_first job text old s0 s1 read_fault_line status.ReadFault result refl h c)
unread job left old s0 s1 errors.WriteFault result w h c = absurd (w refl)

-- the blocks break off
pub broken_off : (job : Job) (text : List ℕ) (old s0 s1 s2 : Option (List ℕ)) (f : Failure) (result : Status) → Grew old s0 (head_of_job job) → BlocksWritten job text s0 s1 (Err f) → Finishes s1 s2 (Err f) result → Wrote (RewriteAnswer job text) old s2 result
broken_off job text old s0 s1 s2 errors.NoMemory result h e c = closed_memory job text old s0 s1 s2 result h e c
broken_off job text old s0 s1 s2 errors.ReadFault result h e c = absurd e
broken_off job text old s0 s1 s2 errors.WriteFault result h e c =
    subst (λ (x : Status). Wrote (RewriteAnswer job text) old s2 x) (sym c.0) (subst (λ (s : Option (List ℕ)). Wrote (RewriteAnswer job text) old s status.WriteFault) (sym c.1) (closed_inside job text old s0 s1 h e))

pub never_read : (job : Job) (text : List ℕ) (s0 s1 : Option (List ℕ)) (f : Failure) → BlocksWritten job text s0 s1 (Err f) → HasReadFault (Err f) → ⊥
never_read job text s0 s1 errors.NoMemory e h = h
never_read job text s0 s1 errors.ReadFault e h = e
never_read job text s0 s1 errors.WriteFault e h = h

pub failed_rewritten : (old new : Option (List ℕ)) (f : Failure) (result : Status) → Finishes old new (Err f) result → IsRewritten result → ⊥
failed_rewritten old new f result c a = finished_as IsRewritten ⊥ old new (Err f) result (λ n. n) (λ n. n) (λ n. n) tt c a

-- ---- which answer is due

judged_for : (job : Job) (text : List ℕ) (ts : List TheoremView) (j : Judgement) → EndsAfter job (lines_of_text text) ts j → JudgesFor job text j
judged_for job text ts j h = by (lines_of_text text) h
  where
    after : (o : Option Version) (lines : Rest) → EndsAfterHead o lines ts j → JudgedAfterHead o lines j
    after None lines k = k.1
    after (Some v) lines k = record { theorems = ts; known = k.0; rest = k.1; passes = k.2; closes = k.3 }

    by : (lines : Rest) → EndsAfter job lines ts j → JudgesLinesFor job lines j
    by [] k = k.1
    by (Err f ∷ lines) k = k.1
    by (Ok l ∷ lines) k = after (read_as job (version_of l)) lines k

-- the text has one judgement for the command
one_for : (job : Job) (text : List ℕ) (a b : Judgement) → JudgesFor job text a → JudgesFor job text b → a ≡ b
one_for job text a b h k = by (lines_of_text text) h k
  where
    by : (lines : Rest) → JudgesLinesFor job lines a → JudgesLinesFor job lines b → a ≡ b
    by [] h k = h ∙ sym k
    by (Err f ∷ lines) h k = h ∙ sym k
    by (Ok l ∷ lines) h k = one_after_head (read_as job (version_of l)) lines a b h k

-- where the answer is that of a judgement that the text has for the command, it is that of its judgement
same_end : (job : Job) (text : List ℕ) (ts : List TheoremView) (a j : Judgement) → EndsAfter job (lines_of_text text) ts a → JudgesFor job text j → answer_of job a ≡ answer_of job j
same_end job text ts a j e h = ap (answer_of job) (one_for job text a j (judged_for job text ts a e) h)

due_judged : (job : Job) (text : List ℕ) (j : Judgement) (answer : Status) (out : List ℕ) → length text ≤ 2 ^ 60 → JudgesFor job text j → RewriteAnswer job text answer out → (answer ≡ answer_of job j) ⊎ IsFailure answer
due_judged job text j (status.Upgraded n) out few h t = inl (sym (ap (λ (x : Job). verified_answer x n) t.0) ∙ same_end job text t.1.theorems (judgements.Verified n) j t.1.ends h)
due_judged job text j (status.Trimmed n) out few h t = inl (sym (ap (λ (x : Job). verified_answer x n) t.0) ∙ same_end job text t.1.theorems (judgements.Verified n) j t.1.ends h)
due_judged job text j (status.Listed n) out few h t = inl (sym (ap (λ (x : Job). verified_answer x n) t.0) ∙ same_end job text t.1.theorems (judgements.Verified n) j t.1.ends h)
due_judged job text j (status.Bad title step) out few h t = inl (same_end job text t.theorems (judgements.Bad title step) j t.ends h)
due_judged job text j (status.Garbled line) out few h t = inl (same_end job text t.theorems (judgements.Garbled line) j t.ends h)
due_judged job text j status.TextLimit out few h t = absurd (omega (arith, few, t.0))
due_judged job text j status.ReadFault out few h t = inr tt
due_judged job text j status.NoMemory out few h t = inr tt
due_judged job text j answer out few h t = absurd t

answered : (job : Job) (text : List ℕ) (j : Judgement) (old new : Option (List ℕ)) (answer : Status) → length text ≤ 2 ^ 60 → JudgesFor job text j → Wrote (RewriteAnswer job text) old new answer → (answer ≡ answer_of job j) ⊎ IsFailure answer
answered job text j old new answer few h (inl w) = due_judged job text j answer w.out few h w.due
answered job text j old new answer few h (inr w) = inr (subst IsFailure (sym w.0) tt)

pub answers_rewrite : (job : Job) (left old new : Option (List ℕ)) (answer : Status) → WroteOfText (RewriteAnswer job) left old new answer → AnswersRewrite job left answer
answers_rewrite job left old new answer c text j is_answer few h =
    let all = subst (λ (l : Option (List ℕ)). WroteOfText (RewriteAnswer job) l old new answer) is_answer c in
    answered job text j old new answer few h (subst (λ (t : List ℕ). Wrote (RewriteAnswer job t) old new answer) all.1 all.2)
