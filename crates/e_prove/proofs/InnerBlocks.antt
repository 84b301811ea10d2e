-- Claims, superpositions and splits, whose blocks are licensed.
use Rattle.std.proofs.Common.{◌≡◌, ℕ, ◌+◌, List, [], ◌++◌, refl, ap₂, subst, Bool, true, arith}
use Rattle.std.specs.Prelude.{IsTrue}
use Rattle.std.specs.List.{list_all}
use Rattle.std.proofs.lemmas.Bool.{and_from}
use Rattle.e_literal.specs.declared.literal.Lit.{Lit}
use Rattle.e_literal.specs.Literal.{negation, all_in_scope}
use Rattle.e_literal.specs.Facts.{with_fact, with_facts}
use Rattle.e_literal.specs.Scopes.{with_sorts}
use Rattle.e_literal.specs.Use.{StatementView}
use Rattle.e_literal.proofs.Booleans.{and_left, and_right, all_left, all_right}
use Rattle.e_clause.specs.declared.cert.Cert.{Cert}
use Rattle.e_clause.specs.Certify.{certify_all}
use Rattle.e_clause.specs.LimitedFacts.{are_well_formed_in}
use Rattle.e_clause.proofs.Sound.{all_allowed_of_certified}
use Rattle.e_clause.specs.declared.cert.Version.TheVariants as version
use Rattle.e_clause.specs.Versions.{is_cert_of}
use Rattle.e_construct.specs.declared.superpose.Superpose.{Superpose}
use Rattle.e_construct.specs.Superposing as superposing
use Rattle.e_deriv.specs.declared.names.Names.{Names}
use Rattle.e_deriv.specs.declared.stop.Stop.{Stop}
use Rattle.e_deriv.specs.Script.{Script, Claim, Superposed, Cases, size, bare_script}
use Rattle.e_deriv.specs.Goal.{Goal, goal_of}
use Rattle.e_deriv.specs.PlacedSteps.{PlacedStep, placed_steps}
use Rattle.e_deriv.specs.Steps.{are_over}
use Rattle.e_deriv.specs.Naming.{with_new_names, names_of_steps}
use Rattle.e_deriv.specs.Licensed.{Licensed}
use Rattle.e_deriv.specs.Certified.{is_certified}
use Rattle.e_deriv.specs.Parts.{filled_by}
use Rattle.e_deriv.specs.Fitting.{is_small}
use Rattle.e_deriv.proofs.Agreement.{both_licensed}
use Rattle.e_deriv.proofs.Stops.{lines_length}
use Rattle.e_prove.specs.declared.stop_reason.StopReason.{StopReason}
use Rattle.e_prove.specs.declared.stop_reason.StopReason.TheVariants as stop_reason
use Rattle.e_deriv.specs.declared.stop.Wanted.TheVariants.{Literal, Match, Contradiction}
use Rattle.e_prove.specs.declared.state_before.StateBefore.{StateBefore}
use Rattle.e_prove.specs.inner.NextStates.{after_literal, after_superposed, after_block}
use Rattle.e_prove.specs.inner.StopsOfSteps.{StepStopsAt, StepStopsAmong}
use Rattle.e_prove.specs.inner.LicensedSteps.{step_from_basis, fits_here}
use Rattle.e_prove.specs.inner.PassedSteps.{IsReadyFor, IsDerivedFrom, Arrival, IsReachedIn, ReachesWithin, StopsWithin, IsPassed}
use Rattle.e_prove.proofs.StopsInLists.{reached_after, reached_left, reached_right, stops_by, names_length, all_both, lits_first, lits_second}
use Rattle.e_deriv.specs.Versions.{has_certs_of}

-- few objects are in scope before the step
abbrev few_before : PlacedStep → Bool
few_before y = is_small y.scope

-- ---- a claim

-- what the steps of a claim say of its block and of what comes after it
pub record ClaimReady (before : List StatementView) (shown : List Lit) (inner : Script) (x : StateBefore) : Type 0 where
  pub over : are_over x.context.scope shown ≡ true
  pub block : IsReadyFor before inner x (goal_of shown)

pub claim_ready : (before : List StatementView) (shown : List Lit) (inner rest : Script) (x : StateBefore) (goal : Goal) → IsReadyFor before (Claim shown inner rest) x goal → ClaimReady before shown inner x
unfolding placed_steps
claim_ready before shown inner rest x goal r =
    let s = x.context.scope in
    let facts = x.context.facts in
    let y = step_from_basis (Claim shown inner rest) (Claim shown inner rest) x.context goal in
    let one = placed_steps before inner inner s facts (goal_of shown) in
    let other = placed_steps before rest rest s (with_facts facts shown) goal in
    let over = and_left (fits_here before y) (list_all (fits_here before) (one ++ other)) r.forms in
    record {
      over = over;
      block = record {
        forms = all_left (fits_here before) one other (and_right (fits_here before y) (list_all (fits_here before) (one ++ other)) r.forms);
        lits = λ w. lits_first before (placed_steps before inner w s facts (goal_of shown)) other ((r.lits (Claim shown w rest)).1 over).1;
        scopes = all_left few_before one other (and_right (few_before y) (list_all few_before (one ++ other)) r.scopes);
        statements = r.statements;
      };
    }

pub claim_rest : (before : List StatementView) (shown : List Lit) (inner derived rest : Script) (x : StateBefore) (goal : Goal) → IsDerivedFrom before inner x (goal_of shown) derived → IsReadyFor before (Claim shown inner rest) x goal →
    IsReadyFor before rest (after_block shown x) goal
unfolding placed_steps
claim_rest before shown inner derived rest x goal d r =
    let s = x.context.scope in
    let facts = x.context.facts in
    let y = step_from_basis (Claim shown inner rest) (Claim shown inner rest) x.context goal in
    let one = placed_steps before inner inner s facts (goal_of shown) in
    let other = placed_steps before rest rest s (with_facts facts shown) goal in
    let over = and_left (fits_here before y) (list_all (fits_here before) (one ++ other)) r.forms in
    record {
      forms = all_right (fits_here before) one other (and_right (fits_here before y) (list_all (fits_here before) (one ++ other)) r.forms);
      lits = λ w. lits_second before (placed_steps before inner derived s facts (goal_of shown)) (placed_steps before rest w s (with_facts facts shown) goal) d.licensed ((r.lits (Claim shown derived w)).1 over).1;
      scopes = all_right few_before one other (and_right (few_before y) (list_all few_before (one ++ other)) r.scopes);
      statements = r.statements;
    }

claim_derives : (before : List StatementView) (shown : List Lit) (inner derived rest more : Script) (x : StateBefore) (goal : Goal) → are_over x.context.scope shown ≡ true → IsDerivedFrom before inner x (goal_of shown) derived →
    IsDerivedFrom before rest (after_block shown x) goal more → IsDerivedFrom before (Claim shown inner rest) x goal (Claim shown derived more)
unfolding placed_steps bare_script filled_by has_certs_of
claim_derives before shown inner derived rest more x goal over d m =
    let s = x.context.scope in
    let facts = x.context.facts in
    record {
      licensed = (
        record { fits = over; allowed = tt; others = tt },
        both_licensed before (placed_steps before inner derived s facts (goal_of shown)) (placed_steps before rest more s (with_facts facts shown) goal) d.licensed m.licensed,
      );
      certified =
          and_from _ _ (and_from _ _ over refl)
          (all_both (is_certified before) (placed_steps before derived derived s facts (goal_of shown)) (placed_steps before more more s (with_facts facts shown) goal) d.certified m.certified);
      erased = ap₂ (Claim shown) d.erased m.erased;
      version = and_from _ _ d.version m.version;
    }

-- what is found in its block
pub claim_reaches : (before : List StatementView) (shown : List Lit) (inner rest : Script) (x : StateBefore) (goal : Goal) (n : ℕ) (a : Arrival) (i : ℕ) (seen : Names) → are_over x.context.scope shown ≡ true →
    ReachesWithin before inner x (goal_of shown) (n + 1) a i seen → ReachesWithin before (Claim shown inner rest) x goal n a i seen
unfolding placed_steps names_of_steps
claim_reaches before shown inner rest x goal n a i seen over k =
    let s = x.context.scope in
    let facts = x.context.facts in
    let one = placed_steps before inner k.filled s facts (goal_of shown) in
    let other = placed_steps before rest rest s (with_facts facts shown) goal in
    let ns = names_of_steps before x.names inner in
    let ms = names_of_steps before x.names rest in
    record {
      filled = Claim shown k.filled rest;
      reached =
          reached_after before (step_from_basis (Claim shown inner rest) (Claim shown k.filled rest) x.context goal) (one ++ other) x.names (ns ++ ms) n a i seen (record { fits = over; allowed = tt; others = tt })
          (reached_left before one other ns ms (n + 1) a i seen k.reached);
    }

pub claim_stops : (before : List StatementView) (shown : List Lit) (inner rest : Script) (x : StateBefore) (goal : Goal) (n : ℕ) (stop : Stop) → are_over x.context.scope shown ≡ true →
    StopsWithin before inner x (goal_of shown) (n + 1) stop → StopsWithin before (Claim shown inner rest) x goal n stop
claim_stops before shown inner rest x goal n stop over k =
    stops_by before inner (Claim shown inner rest) x x (goal_of shown) goal (n + 1) n stop (λ a i seen h. claim_reaches before shown inner rest x goal n a i seen over h) k

-- and after it
pub claim_reaches_later : (before : List StatementView) (shown : List Lit) (inner derived rest : Script) (x : StateBefore) (goal : Goal) (n next : ℕ) (a : Arrival) (i : ℕ) (seen : Names) → are_over x.context.scope shown ≡ true →
    IsDerivedFrom before inner x (goal_of shown) derived → next ≡ n + 1 + size inner → ReachesWithin before rest (after_block shown x) goal next a i seen → ReachesWithin before (Claim shown inner rest) x goal n a i seen
unfolding placed_steps names_of_steps
claim_reaches_later before shown inner derived rest x goal n next a i seen over d count k =
    let s = x.context.scope in
    let facts = x.context.facts in
    let one = placed_steps before inner derived s facts (goal_of shown) in
    let other = placed_steps before rest k.filled s (with_facts facts shown) goal in
    let ns = names_of_steps before x.names inner in
    let ms = names_of_steps before x.names rest in
    record {
      filled = Claim shown derived k.filled;
      reached =
          reached_after before (step_from_basis (Claim shown inner rest) (Claim shown derived k.filled) x.context goal) (one ++ other) x.names (ns ++ ms) n a i seen (record { fits = over; allowed = tt; others = tt })
          (reached_right before one other ns ms (size inner) (n + 1) a i seen (lines_length before inner derived s facts (goal_of shown)) (names_length before x.names inner) d.licensed
          (subst (λ m. IsReachedIn before other ms m a i seen) count k.reached));
    }

claim_later : (before : List StatementView) (shown : List Lit) (inner derived rest : Script) (x : StateBefore) (goal : Goal) (n next : ℕ) (stop : Stop) → are_over x.context.scope shown ≡ true →
    IsDerivedFrom before inner x (goal_of shown) derived → next ≡ n + 1 + size inner → StopsWithin before rest (after_block shown x) goal next stop → StopsWithin before (Claim shown inner rest) x goal n stop
claim_later before shown inner derived rest x goal n next stop over d count k =
    stops_by before rest (Claim shown inner rest) (after_block shown x) x goal goal next n stop (λ a i seen h. claim_reaches_later before shown inner derived rest x goal n next a i seen over d count h) k

pub claim_size : (shown : List Lit) (inner rest : Script) → size (Claim shown inner rest) ≡ 1 + size inner + size rest
unfolding size
claim_size shown inner rest = refl

pub passed_claim : (before : List StatementView) (shown : List Lit) (inner derived : Script) (x : StateBefore) (n next : ℕ) → are_over x.context.scope shown ≡ true → IsDerivedFrom before inner x (goal_of shown) derived →
    next ≡ n + 1 + size inner → IsPassed before (Claim shown inner) x n (Claim shown derived) (after_block shown x) next
passed_claim before shown inner derived x n next over d count =
    record {
      ready = λ rest goal r. claim_rest before shown inner derived rest x goal d r;
      derives = λ rest more goal r m. claim_derives before shown inner derived rest more x goal over d m;
      stops = λ rest goal stop r k. claim_later before shown inner derived rest x goal n next stop over d count k;
      reaches = λ rest goal a i seen r k. claim_reaches_later before shown inner derived rest x goal n next a i seen over d count k;
      number = λ rest. let e = claim_size shown inner rest in omega (arith, e, count);
      kept = refl;
    }

-- ---- a superposition

-- what its steps say of it, of its block and of what comes after it
pub record SuperposedReady (before : List StatementView) (superposition : Superpose) (names : List (List ℕ)) (shown : List Lit) (inner : Script) (x : StateBefore) : Type 0 where
  pub fits : superposing.fits_superposition superposition x.context.scope ≡ true
  pub over : are_over x.context.scope shown ≡ true
  pub needs : are_well_formed_in x.context.scope (superposing.needs_of_superposition superposition) ≡ true
  pub block : IsReadyFor before inner (after_superposed superposition names x) (goal_of shown)
  pub scope : is_small x.context.scope ≡ true

pub superposed_ready : (before : List StatementView) (superposition : Superpose) (names : List (List ℕ)) (shown : List Lit) (certs : List Cert) (inner rest : Script) (x : StateBefore) (goal : Goal) →
    IsReadyFor before (Superposed superposition names shown certs inner rest) x goal → SuperposedReady before superposition names shown inner x
unfolding placed_steps
superposed_ready before superposition names shown certs inner rest x goal r =
    let s = x.context.scope in
    let facts = x.context.facts in
    let here = Superposed superposition names shown certs inner rest in
    let y = step_from_basis here here x.context goal in
    let t = with_sorts s superposing.sorts_copied in
    let given = with_facts facts (superposing.gives_of_superposition superposition s) in
    let one = placed_steps before inner inner t given (goal_of shown) in
    let other = placed_steps before rest rest s (with_facts facts shown) goal in
    let fits_with_blanks = and_left (fits_here before y) (list_all (fits_here before) (one ++ other)) r.forms in
    record {
      fits = and_left (superposing.fits_superposition superposition s) (are_over s shown) fits_with_blanks;
      over = and_right (superposing.fits_superposition superposition s) (are_over s shown) fits_with_blanks;
      needs = ((r.lits here).1 fits_with_blanks).0;
      block = record {
        forms = all_left (fits_here before) one other (and_right (fits_here before y) (list_all (fits_here before) (one ++ other)) r.forms);
        lits = λ w. lits_first before (placed_steps before inner w t given (goal_of shown)) other ((r.lits (Superposed superposition names shown certs w rest)).1 fits_with_blanks).1;
        scopes = all_left few_before one other (and_right (few_before y) (list_all few_before (one ++ other)) r.scopes);
        statements = r.statements;
      };
      scope = and_left (few_before y) (list_all few_before (one ++ other)) r.scopes;
    }

pub superposed_rest : (before : List StatementView) (superposition : Superpose) (names : List (List ℕ)) (shown : List Lit) (certs : List Cert) (inner derived rest : Script) (x : StateBefore) (goal : Goal) →
    IsDerivedFrom before inner (after_superposed superposition names x) (goal_of shown) derived → IsReadyFor before (Superposed superposition names shown certs inner rest) x goal → IsReadyFor before rest (after_block shown x) goal
unfolding placed_steps
superposed_rest before superposition names shown certs inner derived rest x goal d r =
    let s = x.context.scope in
    let facts = x.context.facts in
    let here = Superposed superposition names shown certs inner rest in
    let y = step_from_basis here here x.context goal in
    let t = with_sorts s superposing.sorts_copied in
    let given = with_facts facts (superposing.gives_of_superposition superposition s) in
    let one = placed_steps before inner inner t given (goal_of shown) in
    let other = placed_steps before rest rest s (with_facts facts shown) goal in
    let fits_with_blanks = and_left (fits_here before y) (list_all (fits_here before) (one ++ other)) r.forms in
    record {
      forms = all_right (fits_here before) one other (and_right (fits_here before y) (list_all (fits_here before) (one ++ other)) r.forms);
      lits = λ w.
          lits_second before (placed_steps before inner derived t given (goal_of shown)) (placed_steps before rest w s (with_facts facts shown) goal) d.licensed
          ((r.lits (Superposed superposition names shown certs derived w)).1 fits_with_blanks).1;
      scopes = all_right few_before one other (and_right (few_before y) (list_all few_before (one ++ other)) r.scopes);
      statements = r.statements;
    }

-- it is certified where its needs are, by certificates that name literals that are well formed
abbrev pub Certifies : Superpose → StateBefore → List Cert → Type 0
Certifies superposition x certs = IsTrue (certify_all x.context.scope x.context.facts (superposing.needs_of_superposition superposition) certs) × IsTrue (list_all (is_cert_of version.One) certs)

superposed_licensed : (before : List StatementView) (superposition : Superpose) (names : List (List ℕ)) (shown : List Lit) (written certs : List Cert) (inner rest f : Script) (x : StateBefore) (goal : Goal) →
    superposing.fits_superposition superposition x.context.scope ≡ true → are_over x.context.scope shown ≡ true → Certifies superposition x certs →
    Licensed before (step_from_basis (Superposed superposition names shown written inner rest) f x.context goal)
superposed_licensed before superposition names shown written certs inner rest f x goal fit over c =
    record { fits = and_from _ _ fit over; allowed = all_allowed_of_certified x.context.scope x.context.facts (superposing.needs_of_superposition superposition) certs c.0; others = tt }

superposed_derives : (before : List StatementView) (superposition : Superpose) (names : List (List ℕ)) (shown : List Lit) (written certs : List Cert) (inner derived rest more : Script) (x : StateBefore) (goal : Goal) →
    superposing.fits_superposition superposition x.context.scope ≡ true → are_over x.context.scope shown ≡ true → Certifies superposition x certs → IsDerivedFrom before inner (after_superposed superposition names x) (goal_of shown) derived →
    IsDerivedFrom before rest (after_block shown x) goal more → IsDerivedFrom before (Superposed superposition names shown written inner rest) x goal (Superposed superposition names shown certs derived more)
unfolding placed_steps bare_script filled_by has_certs_of
superposed_derives before superposition names shown written certs inner derived rest more x goal fit over c d m =
    let s = x.context.scope in
    let facts = x.context.facts in
    let t = with_sorts s superposing.sorts_copied in
    let given = with_facts facts (superposing.gives_of_superposition superposition s) in
    record {
      licensed = (
        superposed_licensed before superposition names shown written certs inner rest (Superposed superposition names shown certs derived more) x goal fit over c,
        both_licensed before (placed_steps before inner derived t given (goal_of shown)) (placed_steps before rest more s (with_facts facts shown) goal) d.licensed m.licensed,
      );
      certified =
          and_from _ _ (and_from _ _ (and_from _ _ fit over) (and_from _ _ c.0 refl))
          (all_both (is_certified before) (placed_steps before derived derived t given (goal_of shown)) (placed_steps before more more s (with_facts facts shown) goal) d.certified m.certified);
      erased = ap₂ (Superposed superposition names shown []) d.erased m.erased;
      version = and_from _ _ c.1 (and_from _ _ d.version m.version);
    }

-- what is found in its block, and after it
pub superposed_reaches : (before : List StatementView) (superposition : Superpose) (names : List (List ℕ)) (shown : List Lit) (written certs : List Cert) (inner rest : Script) (x : StateBefore) (goal : Goal) (n : ℕ) (a : Arrival) (i : ℕ) (seen : Names) →
    superposing.fits_superposition superposition x.context.scope ≡ true → are_over x.context.scope shown ≡ true → Certifies superposition x certs →
    ReachesWithin before inner (after_superposed superposition names x) (goal_of shown) (n + 1) a i seen → ReachesWithin before (Superposed superposition names shown written inner rest) x goal n a i seen
unfolding placed_steps names_of_steps
superposed_reaches before superposition names shown written certs inner rest x goal n a i seen fit over c k =
    let s = x.context.scope in
    let facts = x.context.facts in
    let t = with_sorts s superposing.sorts_copied in
    let given = with_facts facts (superposing.gives_of_superposition superposition s) in
    let one = placed_steps before inner k.filled t given (goal_of shown) in
    let other = placed_steps before rest rest s (with_facts facts shown) goal in
    let ns = names_of_steps before (with_new_names x.names superposing.sorts_copied names) inner in
    let ms = names_of_steps before x.names rest in
    let f = Superposed superposition names shown certs k.filled rest in
    record {
      filled = f;
      reached =
          reached_after before (step_from_basis (Superposed superposition names shown written inner rest) f x.context goal) (one ++ other) x.names (ns ++ ms) n a i seen
          (superposed_licensed before superposition names shown written certs inner rest f x goal fit over c) (reached_left before one other ns ms (n + 1) a i seen k.reached);
    }

pub superposed_stops : (before : List StatementView) (superposition : Superpose) (names : List (List ℕ)) (shown : List Lit) (written certs : List Cert) (inner rest : Script) (x : StateBefore) (goal : Goal) (n : ℕ) (stop : Stop) →
    superposing.fits_superposition superposition x.context.scope ≡ true → are_over x.context.scope shown ≡ true → Certifies superposition x certs →
    StopsWithin before inner (after_superposed superposition names x) (goal_of shown) (n + 1) stop → StopsWithin before (Superposed superposition names shown written inner rest) x goal n stop
superposed_stops before superposition names shown written certs inner rest x goal n stop fit over c k =
    stops_by before inner (Superposed superposition names shown written inner rest) (after_superposed superposition names x) x (goal_of shown) goal (n + 1) n stop (λ a i seen h. superposed_reaches before superposition names shown written certs inner rest x goal n a i seen fit over c h) k

pub superposed_reaches_later : (before : List StatementView) (superposition : Superpose) (names : List (List ℕ)) (shown : List Lit) (written certs : List Cert) (inner derived rest : Script) (x : StateBefore) (goal : Goal) (n next : ℕ) (a : Arrival) (i : ℕ) (seen : Names) →
    superposing.fits_superposition superposition x.context.scope ≡ true → are_over x.context.scope shown ≡ true → Certifies superposition x certs → IsDerivedFrom before inner (after_superposed superposition names x) (goal_of shown) derived →
    next ≡ n + 1 + size inner → ReachesWithin before rest (after_block shown x) goal next a i seen → ReachesWithin before (Superposed superposition names shown written inner rest) x goal n a i seen
unfolding placed_steps names_of_steps
superposed_reaches_later before superposition names shown written certs inner derived rest x goal n next a i seen fit over c d count k =
    let s = x.context.scope in
    let facts = x.context.facts in
    let t = with_sorts s superposing.sorts_copied in
    let given = with_facts facts (superposing.gives_of_superposition superposition s) in
    let one = placed_steps before inner derived t given (goal_of shown) in
    let other = placed_steps before rest k.filled s (with_facts facts shown) goal in
    let inside = with_new_names x.names superposing.sorts_copied names in
    let ns = names_of_steps before inside inner in
    let ms = names_of_steps before x.names rest in
    let f = Superposed superposition names shown certs derived k.filled in
    record {
      filled = f;
      reached =
          reached_after before (step_from_basis (Superposed superposition names shown written inner rest) f x.context goal) (one ++ other) x.names (ns ++ ms) n a i seen
          (superposed_licensed before superposition names shown written certs inner rest f x goal fit over c)
          (reached_right before one other ns ms (size inner) (n + 1) a i seen (lines_length before inner derived t given (goal_of shown)) (names_length before inside inner) d.licensed
          (subst (λ m. IsReachedIn before other ms m a i seen) count k.reached));
    }

superposed_later : (before : List StatementView) (superposition : Superpose) (names : List (List ℕ)) (shown : List Lit) (written certs : List Cert) (inner derived rest : Script) (x : StateBefore) (goal : Goal) (n next : ℕ) (stop : Stop) →
    superposing.fits_superposition superposition x.context.scope ≡ true → are_over x.context.scope shown ≡ true → Certifies superposition x certs → IsDerivedFrom before inner (after_superposed superposition names x) (goal_of shown) derived →
    next ≡ n + 1 + size inner → StopsWithin before rest (after_block shown x) goal next stop → StopsWithin before (Superposed superposition names shown written inner rest) x goal n stop
superposed_later before superposition names shown written certs inner derived rest x goal n next stop fit over c d count k =
    stops_by before rest (Superposed superposition names shown written inner rest) (after_block shown x) x goal goal next n stop (λ a i seen h. superposed_reaches_later before superposition names shown written certs inner derived rest x goal n next a i seen fit over c d count h) k

pub superposed_size : (superposition : Superpose) (names : List (List ℕ)) (shown : List Lit) (certs : List Cert) (inner rest : Script) → size (Superposed superposition names shown certs inner rest) ≡ 1 + size inner + size rest
unfolding size
superposed_size superposition names shown certs inner rest = refl

pub passed_superposed : (before : List StatementView) (superposition : Superpose) (names : List (List ℕ)) (shown : List Lit) (written certs : List Cert) (inner derived : Script) (x : StateBefore) (n next : ℕ) →
    superposing.fits_superposition superposition x.context.scope ≡ true → are_over x.context.scope shown ≡ true → Certifies superposition x certs → IsDerivedFrom before inner (after_superposed superposition names x) (goal_of shown) derived →
    next ≡ n + 1 + size inner → IsPassed before (Superposed superposition names shown written inner) x n (Superposed superposition names shown certs derived) (after_block shown x) next
passed_superposed before superposition names shown written certs inner derived x n next fit over c d count =
    record {
      ready = λ rest goal r. superposed_rest before superposition names shown written inner derived rest x goal d r;
      derives = λ rest more goal r m. superposed_derives before superposition names shown written certs inner derived rest more x goal fit over c d m;
      stops = λ rest goal stop r k. superposed_later before superposition names shown written certs inner derived rest x goal n next stop fit over c d count k;
      reaches = λ rest goal a i seen r k. superposed_reaches_later before superposition names shown written certs inner derived rest x goal n next a i seen fit over c d count k;
      number = λ rest. let e = superposed_size superposition names shown written inner rest in omega (arith, e, count);
      kept = refl;
    }

-- what stops at its needs
pub superposed_step_stops : (before : List StatementView) (superposition : Superpose) (names : List (List ℕ)) (shown : List Lit) (written : List Cert) (inner rest f : Script) (x : StateBefore) (goal : Goal) (h : StopReason) → StepStopsAmong x.context (superposing.needs_of_superposition superposition) h →
    StepStopsAt before (step_from_basis (Superposed superposition names shown written inner rest) f x.context goal) h
superposed_step_stops before superposition names shown written inner rest f x goal (stop_reason.Lacks (Literal l) values) k = k
superposed_step_stops before superposition names shown written inner rest f x goal (stop_reason.Lacks Match values) k = absurd k
superposed_step_stops before superposition names shown written inner rest f x goal (stop_reason.Lacks Contradiction values) k = absurd k
superposed_step_stops before superposition names shown written inner rest f x goal (stop_reason.TooWide (Literal l) width) k = k
superposed_step_stops before superposition names shown written inner rest f x goal (stop_reason.TooWide Match width) k = absurd k
superposed_step_stops before superposition names shown written inner rest f x goal (stop_reason.TooWide Contradiction width) k = absurd k
superposed_step_stops before superposition names shown written inner rest f x goal stop_reason.NoMemory k = tt

-- ---- a split

pub record SplitReady (before : List StatementView) (lit : Lit) (first : Script) (x : StateBefore) (goal : Goal) : Type 0 where
  pub over : all_in_scope x.context.scope lit ≡ true
  pub one : IsReadyFor before first (after_literal lit x) goal

pub split_ready : (before : List StatementView) (lit : Lit) (first second : Script) (x : StateBefore) (goal : Goal) → IsReadyFor before (Cases lit first second) x goal → SplitReady before lit first x goal
unfolding placed_steps
split_ready before lit first second x goal r =
    let s = x.context.scope in
    let facts = x.context.facts in
    let y = step_from_basis (Cases lit first second) (Cases lit first second) x.context goal in
    let one = placed_steps before first first s (with_fact facts lit) goal in
    let other = placed_steps before second second s (with_fact facts (negation lit)) goal in
    let over = and_left (fits_here before y) (list_all (fits_here before) (one ++ other)) r.forms in
    record {
      over = over;
      one = record {
        forms = all_left (fits_here before) one other (and_right (fits_here before y) (list_all (fits_here before) (one ++ other)) r.forms);
        lits = λ w. lits_first before (placed_steps before first w s (with_fact facts lit) goal) other ((r.lits (Cases lit w second)).1 over).1;
        scopes = all_left few_before one other (and_right (few_before y) (list_all few_before (one ++ other)) r.scopes);
        statements = r.statements;
      };
    }

-- the second block, where the first is derived
pub split_other : (before : List StatementView) (lit : Lit) (first second derived : Script) (x : StateBefore) (goal : Goal) → IsDerivedFrom before first (after_literal lit x) goal derived → IsReadyFor before (Cases lit first second) x goal →
    IsReadyFor before second (after_literal (negation lit) x) goal
unfolding placed_steps
split_other before lit first second derived x goal d r =
    let s = x.context.scope in
    let facts = x.context.facts in
    let y = step_from_basis (Cases lit first second) (Cases lit first second) x.context goal in
    let one = placed_steps before first first s (with_fact facts lit) goal in
    let other = placed_steps before second second s (with_fact facts (negation lit)) goal in
    let over = and_left (fits_here before y) (list_all (fits_here before) (one ++ other)) r.forms in
    record {
      forms = all_right (fits_here before) one other (and_right (fits_here before y) (list_all (fits_here before) (one ++ other)) r.forms);
      lits = λ w. lits_second before (placed_steps before first derived s (with_fact facts lit) goal) (placed_steps before second w s (with_fact facts (negation lit)) goal) d.licensed ((r.lits (Cases lit derived w)).1 over).1;
      scopes = all_right few_before one other (and_right (few_before y) (list_all few_before (one ++ other)) r.scopes);
      statements = r.statements;
    }

pub split_derives : (before : List StatementView) (lit : Lit) (first second one other : Script) (x : StateBefore) (goal : Goal) → all_in_scope x.context.scope lit ≡ true → IsDerivedFrom before first (after_literal lit x) goal one →
    IsDerivedFrom before second (after_literal (negation lit) x) goal other → IsDerivedFrom before (Cases lit first second) x goal (Cases lit one other)
unfolding placed_steps bare_script filled_by has_certs_of
split_derives before lit first second one other x goal over d e =
    let s = x.context.scope in
    let facts = x.context.facts in
    record {
      licensed = (
        record { fits = over; allowed = tt; others = tt },
        both_licensed before (placed_steps before first one s (with_fact facts lit) goal) (placed_steps before second other s (with_fact facts (negation lit)) goal) d.licensed e.licensed,
      );
      certified =
          and_from _ _ (and_from _ _ over refl)
          (all_both (is_certified before) (placed_steps before one one s (with_fact facts lit) goal) (placed_steps before other other s (with_fact facts (negation lit)) goal) d.certified e.certified);
      erased = ap₂ (Cases lit) d.erased e.erased;
      version = and_from _ _ d.version e.version;
    }

-- what is found in the first block
pub split_reaches_first : (before : List StatementView) (lit : Lit) (first second : Script) (x : StateBefore) (goal : Goal) (n : ℕ) (a : Arrival) (i : ℕ) (seen : Names) → all_in_scope x.context.scope lit ≡ true →
    ReachesWithin before first (after_literal lit x) goal (n + 1) a i seen → ReachesWithin before (Cases lit first second) x goal n a i seen
unfolding placed_steps names_of_steps
split_reaches_first before lit first second x goal n a i seen over k =
    let s = x.context.scope in
    let facts = x.context.facts in
    let one = placed_steps before first k.filled s (with_fact facts lit) goal in
    let other = placed_steps before second second s (with_fact facts (negation lit)) goal in
    let ns = names_of_steps before x.names first in
    let ms = names_of_steps before x.names second in
    let f = Cases lit k.filled second in
    record {
      filled = f;
      reached =
          reached_after before (step_from_basis (Cases lit first second) f x.context goal) (one ++ other) x.names (ns ++ ms) n a i seen (record { fits = over; allowed = tt; others = tt })
          (reached_left before one other ns ms (n + 1) a i seen k.reached);
    }

pub split_first : (before : List StatementView) (lit : Lit) (first second : Script) (x : StateBefore) (goal : Goal) (n : ℕ) (stop : Stop) → all_in_scope x.context.scope lit ≡ true →
    StopsWithin before first (after_literal lit x) goal (n + 1) stop → StopsWithin before (Cases lit first second) x goal n stop
split_first before lit first second x goal n stop over k =
    stops_by before first (Cases lit first second) (after_literal lit x) x goal goal (n + 1) n stop (λ a i seen h. split_reaches_first before lit first second x goal n a i seen over h) k

-- and in the second, where the first is derived
pub split_reaches_second : (before : List StatementView) (lit : Lit) (first second derived : Script) (x : StateBefore) (goal : Goal) (n next : ℕ) (a : Arrival) (i : ℕ) (seen : Names) → all_in_scope x.context.scope lit ≡ true →
    IsDerivedFrom before first (after_literal lit x) goal derived → next ≡ n + 1 + size first → ReachesWithin before second (after_literal (negation lit) x) goal next a i seen →
    ReachesWithin before (Cases lit first second) x goal n a i seen
unfolding placed_steps names_of_steps
split_reaches_second before lit first second derived x goal n next a i seen over d count k =
    let s = x.context.scope in
    let facts = x.context.facts in
    let one = placed_steps before first derived s (with_fact facts lit) goal in
    let other = placed_steps before second k.filled s (with_fact facts (negation lit)) goal in
    let ns = names_of_steps before x.names first in
    let ms = names_of_steps before x.names second in
    let f = Cases lit derived k.filled in
    record {
      filled = f;
      reached =
          reached_after before (step_from_basis (Cases lit first second) f x.context goal) (one ++ other) x.names (ns ++ ms) n a i seen (record { fits = over; allowed = tt; others = tt })
          (reached_right before one other ns ms (size first) (n + 1) a i seen (lines_length before first derived s (with_fact facts lit) goal) (names_length before x.names first) d.licensed
          (subst (λ m. IsReachedIn before other ms m a i seen) count k.reached));
    }

pub split_second : (before : List StatementView) (lit : Lit) (first second derived : Script) (x : StateBefore) (goal : Goal) (n next : ℕ) (stop : Stop) → all_in_scope x.context.scope lit ≡ true →
    IsDerivedFrom before first (after_literal lit x) goal derived → next ≡ n + 1 + size first → StopsWithin before second (after_literal (negation lit) x) goal next stop →
    StopsWithin before (Cases lit first second) x goal n stop
split_second before lit first second derived x goal n next stop over d count k =
    stops_by before second (Cases lit first second) (after_literal (negation lit) x) x goal goal next n stop (λ a i seen h. split_reaches_second before lit first second derived x goal n next a i seen over d count h) k
