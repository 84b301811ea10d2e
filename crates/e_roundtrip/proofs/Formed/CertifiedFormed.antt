-- What is certified has the form that lines can have.
use Rattle.std.proofs.Common.{◌≡◌, ℤ, true, false, not, ◌&&◌, List, [], ◌∷◌, ◌++◌, length, Option, Some, None, Bool, refl, sym, subst, arith}
use Rattle.std.specs.Option.{option_map_or}
use Rattle.std.specs.List.{list_all}
use Rattle.std.proofs.lemmas.Bool.{and_parts, and_from, eq-eqb}
use Rattle.e_literal.specs.declared.literal.Lit.{Lit}
use Rattle.e_literal.specs.declared.object.Scope.{Scope}
use Rattle.e_literal.specs.Literal.{all_in_scope, negation}
use Rattle.e_literal.specs.Facts.{is_metric, has, others, with_fact, with_facts}
use Rattle.e_literal.specs.Rows.{Row}
use Rattle.e_literal.specs.Scopes.{with_sorts}
use Rattle.e_literal.specs.Use.{StatementView, scope_of, gives_of_use}
use Rattle.e_literal.proofs.Booleans.{all_both}
use Rattle.e_clause.specs.declared.cert.RowName.{RowName}
use Rattle.e_clause.specs.declared.cert.RowName.TheVariants as rownames
use Rattle.e_clause.specs.declared.cert.Sums.{Sums}
use Rattle.e_clause.specs.declared.cert.Sums.TheVariants.{One, Two}
use Rattle.e_clause.specs.declared.cert.Part.{Part}
use Rattle.e_clause.specs.declared.cert.Part.TheVariants as parts
use Rattle.e_clause.specs.declared.cert.Cert.{Cert}
use Rattle.e_clause.specs.declared.cert.Cert.TheVariants.{Plain, Transfer}
use Rattle.e_clause.specs.declared.cert.Against.{Against}
use Rattle.e_clause.specs.declared.cert.Against.TheVariants as against
use Rattle.e_clause.specs.Instance.{Inst}
use Rattle.e_clause.specs.RuleKinds.{is_transfer}
use Rattle.e_clause.specs.Sum.{RowScope, is_limited_sum, refutes}
use Rattle.e_clause.specs.MetricCertificate.{differing_row, both_refute, above_row, below_row, sums_refute, row_name_in, sum_in, are_sums_in}
use Rattle.e_clause.specs.PartCertificate.{part_certifies, part_in}
use Rattle.e_clause.specs.TransferCertificate.{parts_certify, instance_certifies, transfer_certifies, are_args_in, transfer_in}
use Rattle.e_clause.specs.Certify.{certifies, certify_all, against_holds, certifies_against}
use Rattle.e_clause.specs.Written.{is_writable_name, is_writable_sum, are_writable_sums, is_writable_part, is_writable_cert, is_writable_against}
use Rattle.e_clause.proofs.Refuted.{found}
use Rattle.e_construct.specs.Construct.{sorts_made, gives_of_construction}
use Rattle.e_construct.specs.Superposing as superposing
use Rattle.e_deriv.specs.Script.{Script, Cite, Hence, Make, Apply, Claim, Superposed, Qed, Contradiction, Cases}
use Rattle.e_deriv.specs.Goal.{Goal, goal_of, goal_of_statement, facts_of_statement}
use Rattle.e_deriv.specs.PlacedSteps.{PlacedStep, placed_step, placed_steps, theorem_at}
use Rattle.e_deriv.specs.Parts.{args_written}
use Rattle.e_deriv.specs.Steps.{fits, needs}
use Rattle.e_deriv.specs.Certified.{Certified, certs_of, is_certified}
use Rattle.e_deriv.specs.Written.{is_written_well}
use Rattle.e_verify.proofs.checking.PassedLines.{cite_written, hence_written, make_written, apply_written, claim_written, superposed_written, qed_written, contradiction_written, cases_written}
use Rattle.e_roundtrip.specs.Formed.{Formed, sum_formed, names_difference, difference_formed, sums_formed, part_formed, has_parts, cert_formed, certs_formed, against_formed, formed_beside, is_formed}
use Rattle.e_roundtrip.proofs.Formed.PlacedScripts.{OneCertified, first_of, both_of, one_certified}

-- ---- sums

sized : (p : RowScope) (xs : List (ℤ × RowName)) → refutes p xs ≡ true → is_limited_sum xs ≡ true
sized p xs h = (and_parts (is_limited_sum xs) _ h).0

sum_is : (s : Scope) (xs : List (ℤ × RowName)) → sum_in s xs ≡ true → is_writable_sum xs ≡ true → is_limited_sum xs ≡ true → sum_formed s xs ≡ true
sum_is s xs w g h = and_from (is_limited_sum xs) (sum_in s xs && is_writable_sum xs) h (and_from (sum_in s xs) (is_writable_sum xs) w g)

-- a row that says that its form is not 0 is the goal's or a fact's
difference : (facts : List Lit) (wanted : Option Lit) (differs : RowName) (r : Row) → differing_row facts wanted differs ≡ Some r → names_difference differs ≡ true
difference facts wanted (rownames.Fact l) r e = refl
difference facts wanted rownames.Goal r e = refl
difference facts wanted (rownames.Pos t) r e = absurd cc
difference facts wanted (rownames.Top t) r e = absurd cc
difference facts wanted rownames.Right r e = absurd cc
difference facts wanted (rownames.Least t) r e = absurd cc
difference facts wanted rownames.Above r e = absurd cc
difference facts wanted rownames.Below r e = absurd cc
difference facts wanted (rownames.FactAt k) r e = refl

sums_are : (s : Scope) (facts : List Lit) (wanted : Option Lit) (x : Sums) → are_sums_in s x ≡ true → are_writable_sums x ≡ true → sums_refute facts wanted x ≡ true → sums_formed s x ≡ true
sums_are s facts wanted (One xs) w g h = sum_is s xs w g (sized (record { facts = facts; wanted = wanted; above = None; below = None }) xs h)
sums_are s facts wanted (Two differs above below) w g h =
    let a = and_parts (row_name_in s differs) (sum_in s above && sum_in s below) w in
    let aa = and_parts (sum_in s above) (sum_in s below) a.1 in
    let b = and_parts (is_writable_name differs) (is_writable_sum above && is_writable_sum below) g in
    let bb = and_parts (is_writable_sum above) (is_writable_sum below) b.1 in
    let r = found (λ (r : Row). both_refute facts wanted r above below) (differing_row facts wanted differs) h in
    let p : RowScope = record { facts = facts; wanted = wanted; above = Some (above_row r.0); below = None } in
    let q : RowScope = record { facts = facts; wanted = wanted; above = None; below = Some (below_row r.0) } in
    let c = and_parts (refutes p above) (refutes q below) r.2 in
    and_from (difference_formed s differs) (sum_formed s above && sum_formed s below)
    (and_from (names_difference differs) (row_name_in s differs && is_writable_name differs) (difference facts wanted differs r.0 r.1) (and_from (row_name_in s differs) (is_writable_name differs) a.0 b.0))
    (and_from (sum_formed s above) (sum_formed s below) (sum_is s above aa.0 bb.0 (sized p above c.0)) (sum_is s below aa.1 bb.1 (sized q below c.1)))

-- ---- certificates

part_is : (s : Scope) (facts : List Lit) (l : Lit) (p : Part) → part_in s p ≡ true → is_writable_part p ≡ true → part_certifies facts l p ≡ true → part_formed s p ≡ true
part_is s facts l parts.Fact w g h = refl
part_is s facts l (parts.FactAt k) w g h = g
part_is s facts l (parts.Metric m) w g h = sums_are s facts (Some l) m.sums w g (and_parts (is_metric l) (sums_refute facts (Some l) m.sums) h).1

-- one part for each literal
record PartsFormed (s : Scope) (ls : List Lit) (ps : List Part) : Type 0 where
  count : length ps ≡ length ls
  each : list_all (part_formed s) ps ≡ true

parts_are : (s : Scope) (facts ls : List Lit) (ps : List Part) → list_all (part_in s) ps ≡ true → list_all is_writable_part ps ≡ true → parts_certify facts ls ps ≡ true → PartsFormed s ls ps
parts_are s facts [] [] w g h = record { count = refl; each = refl }
parts_are s facts [] (p ∷ ps) w g h = absurd cc
parts_are s facts (l ∷ ls) [] w g h = absurd cc
parts_are s facts (l ∷ ls) (p ∷ ps) w g h =
    let a = and_parts (part_in s p) (list_all (part_in s) ps) w in
    let b = and_parts (is_writable_part p) (list_all is_writable_part ps) g in
    let c = and_parts (part_certifies facts (negation l) p) (parts_certify facts ls ps) h in
    let more = parts_are s facts ls ps a.1 b.1 c.1 in
    record { count = omega (arith, more.count); each = and_from (part_formed s p) (list_all (part_formed s) ps) (part_is s facts (negation l) p a.0 b.0 c.0) more.each }

-- the instance that is there has what one has that is found
pub on_found : {A : Type 0} (p : A → Bool) (o : Option A) (x : A) → o ≡ Some x → p x ≡ true → option_map_or p o false ≡ true
on_found {A} p o x e h = subst (λ (q : Option A). option_map_or p q false ≡ true) (sym e) h

cert_is : (s : Scope) (facts : List Lit) (l : Lit) (c : Cert) → certifies s facts l c ≡ true → is_writable_cert c ≡ true → cert_formed s l c ≡ true
cert_is s facts l (Plain p) h g =
    let a = and_parts (part_in s p) (part_certifies facts l p) h in
    part_is s facts l p a.0 g a.1
cert_is s facts l (Transfer t) h g =
    let a = and_parts (transfer_in s t) (transfer_certifies facts l t) h in
    let w = and_parts (are_args_in s t) (list_all (part_in s) t.parts) a.0 in
    let b = and_parts (is_transfer t.rule) (option_map_or (instance_certifies facts l t.parts) (Inst t.rule t.args) false) a.1 in
    let i = found (instance_certifies facts l t.parts) (Inst t.rule t.args) b.1 in
    let c = and_parts (has i.0 l) (parts_certify facts (others i.0 l) t.parts) i.2 in
    let ps = parts_are s facts (others i.0 l) t.parts w.1 g c.1 in
    let instance = option_map_or (has_parts l t.parts) (Inst t.rule t.args) false in
    and_from (is_transfer t.rule) (instance && (are_args_in s t && list_all (part_formed s) t.parts)) b.0
    (and_from instance (are_args_in s t && list_all (part_formed s) t.parts) (on_found (has_parts l t.parts) (Inst t.rule t.args) i.0 i.1 (eq-eqb (length t.parts) (length (others i.0 l)) ps.count))
    (and_from (are_args_in s t) (list_all (part_formed s) t.parts) w.0 ps.each))

certs_are : (s : Scope) (facts ls : List Lit) (cs : List Cert) → certify_all s facts ls cs ≡ true → list_all is_writable_cert cs ≡ true → certs_formed s ls cs ≡ true
certs_are s facts [] [] h g = refl
certs_are s facts [] (c ∷ cs) h g = absurd cc
certs_are s facts (l ∷ ls) [] h g = absurd cc
certs_are s facts (l ∷ ls) (c ∷ cs) h g =
    let a = and_parts (certifies s facts l c) (certify_all s facts ls cs) h in
    let b = and_parts (is_writable_cert c) (list_all is_writable_cert cs) g in
    and_from (cert_formed s l c) (certs_formed s ls cs) (cert_is s facts l c a.0 b.0) (certs_are s facts ls cs a.1 b.1)

against_is : (s : Scope) (facts : List Lit) (a : Against) → certifies_against s facts a ≡ true → is_writable_against a ≡ true → against_formed s a ≡ true
against_is s facts (against.Clash l) h g =
    let a = and_parts (all_in_scope s l) (against_holds facts (against.Clash l)) h in
    and_from (all_in_scope s l) (not (is_metric l)) a.0 (and_parts (not (is_metric l)) _ a.1).0
against_is s facts (against.Metric m) h g =
    let a = and_parts (are_sums_in s m.sums) (sums_refute facts None m.sums) h in
    sums_are s facts None m.sums a.0 g a.1

-- ---- lines

-- a line, where its certificates name literals that are well formed, and what stands beside has its form
line_is : (before : List StatementView) (x : PlacedStep) (one : OneCertified before x) → list_all is_writable_cert (certs_of x.here) ≡ true → formed_beside x.here x.scope ≡ true → is_formed before x ≡ true
line_is before x one g b =
    and_from (fits before x) (certs_formed x.scope (needs before x) (certs_of x.here) && formed_beside x.here x.scope) one.fitting
    (and_from (certs_formed x.scope (needs before x) (certs_of x.here)) (formed_beside x.here x.scope) (certs_are x.scope x.facts (needs before x) (certs_of x.here) one.certs g) b)

-- the first line, and those after it
pub then_lines : (before : List StatementView) (x : PlacedStep) (xs : List PlacedStep) → is_formed before x ≡ true → list_all (is_formed before) xs ≡ true → list_all (is_formed before) (x ∷ xs) ≡ true
then_lines before x xs h k = and_from (is_formed before x) (list_all (is_formed before) xs) h k

formed_lines : (before : List StatementView) (d : Script) (s : Scope) (facts : List Lit) (goal : Goal) → list_all (is_certified before) (placed_steps before d d s facts goal) ≡ true → is_written_well d ≡ true
    → list_all (is_formed before) (placed_steps before d d s facts goal) ≡ true
unfolding placed_steps
formed_lines before (Cite by rest) s facts goal h w =
    let x = placed_step (Cite by rest) (Cite by rest) s facts goal in
    let after = placed_steps before rest rest s (with_fact facts by.lit) goal in
    let p = first_of (is_certified before) x after h in
    then_lines before x after (line_is before x (one_certified before x p.0) refl refl) (formed_lines before rest s (with_fact facts by.lit) goal p.1 (cite_written by rest w).1)
formed_lines before (Hence lit None rest) s facts goal h w =
    let x = placed_step (Hence lit None rest) (Hence lit None rest) s facts goal in
    let after = placed_steps before rest rest s (with_fact facts lit) goal in
    let p = first_of (is_certified before) x after h in
    then_lines before x after (line_is before x (one_certified before x p.0) refl refl) (formed_lines before rest s (with_fact facts lit) goal p.1 (hence_written lit None rest w).2)
formed_lines before (Hence lit (Some c) rest) s facts goal h w =
    let x = placed_step (Hence lit (Some c) rest) (Hence lit (Some c) rest) s facts goal in
    let after = placed_steps before rest rest s (with_fact facts lit) goal in
    let p = first_of (is_certified before) x after h in
    let g = hence_written lit (Some c) rest w in
    then_lines before x after (line_is before x (one_certified before x p.0) (rw g.1 refl) refl) (formed_lines before rest s (with_fact facts lit) goal p.1 g.2)
formed_lines before (Make construction names certs rest) s facts goal h w =
    let x = placed_step (Make construction names certs rest) (Make construction names certs rest) s facts goal in
    let after = placed_steps before rest rest (with_sorts s (sorts_made construction)) (with_facts facts (gives_of_construction construction s)) goal in
    let p = first_of (is_certified before) x after h in
    let g = make_written construction names certs rest w in
    then_lines before x after (line_is before x (one_certified before x p.0) g.0 refl) (formed_lines before rest (with_sorts s (sorts_made construction)) (with_facts facts (gives_of_construction construction s)) goal p.1 g.1)
formed_lines before (Apply theorem args names certs rest) s facts goal h w =
    let x = placed_step (Apply theorem args names certs rest) (Apply theorem args names certs rest) s facts goal in
    let t = theorem_at before theorem in
    let more = with_facts facts (gives_of_use t (args_written args) s) in
    let after = placed_steps before rest rest (with_sorts s t.made) more goal in
    let p = first_of (is_certified before) x after h in
    let g = apply_written theorem args names certs rest w in
    let one = one_certified before x p.0 in
    then_lines before x after (line_is before x one g.0 one.beside) (formed_lines before rest (with_sorts s t.made) more goal p.1 g.1)
formed_lines before (Claim shown inner rest) s facts goal h w =
    let x = placed_step (Claim shown inner rest) (Claim shown inner rest) s facts goal in
    let inside = placed_steps before inner inner s facts (goal_of shown) in
    let after = placed_steps before rest rest s (with_facts facts shown) goal in
    let p = first_of (is_certified before) x (inside ++ after) h in
    let q = both_of (is_certified before) inside after p.1 in
    let g = claim_written shown inner rest w in
    then_lines before x (inside ++ after) (line_is before x (one_certified before x p.0) refl refl)
    (all_both (is_formed before) inside after (formed_lines before inner s facts (goal_of shown) q.0 g.1) (formed_lines before rest s (with_facts facts shown) goal q.1 g.2))
formed_lines before (Superposed superposition names shown certs inner rest) s facts goal h w =
    let x = placed_step (Superposed superposition names shown certs inner rest) (Superposed superposition names shown certs inner rest) s facts goal in
    let given = with_facts facts (superposing.gives_of_superposition superposition s) in
    let inside = placed_steps before inner inner (with_sorts s superposing.sorts_copied) given (goal_of shown) in
    let after = placed_steps before rest rest s (with_facts facts shown) goal in
    let p = first_of (is_certified before) x (inside ++ after) h in
    let q = both_of (is_certified before) inside after p.1 in
    let g = superposed_written superposition names shown certs inner rest w in
    then_lines before x (inside ++ after) (line_is before x (one_certified before x p.0) g.1 refl)
    (all_both (is_formed before) inside after (formed_lines before inner (with_sorts s superposing.sorts_copied) given (goal_of shown) q.0 g.2) (formed_lines before rest s (with_facts facts shown) goal q.1 g.3))
formed_lines before (Qed objects certs) s facts goal h w =
    let x = placed_step (Qed objects certs) (Qed objects certs) s facts goal in
    let p = first_of (is_certified before) x [] h in
    then_lines before x [] (line_is before x (one_certified before x p.0) (qed_written objects certs w) refl) refl
formed_lines before (Contradiction None) s facts goal h w =
    let x = placed_step (Contradiction None) (Contradiction None) s facts goal in
    let p = first_of (is_certified before) x [] h in
    then_lines before x [] (line_is before x (one_certified before x p.0) refl (one_certified before x p.0).beside) refl
formed_lines before (Contradiction (Some a)) s facts goal h w =
    let x = placed_step (Contradiction (Some a)) (Contradiction (Some a)) s facts goal in
    let p = first_of (is_certified before) x [] h in
    let one = one_certified before x p.0 in
    then_lines before x [] (line_is before x one refl (against_is s facts a one.beside (contradiction_written (Some a) w))) refl
formed_lines before (Cases lit first second) s facts goal h w =
    let x = placed_step (Cases lit first second) (Cases lit first second) s facts goal in
    let one = placed_steps before first first s (with_fact facts lit) goal in
    let other = placed_steps before second second s (with_fact facts (negation lit)) goal in
    let p = first_of (is_certified before) x (one ++ other) h in
    let q = both_of (is_certified before) one other p.1 in
    let g = cases_written lit first second w in
    then_lines before x (one ++ other) (line_is before x (one_certified before x p.0) refl refl)
    (all_both (is_formed before) one other (formed_lines before first s (with_fact facts lit) goal q.0 g.1) (formed_lines before second s (with_fact facts (negation lit)) goal q.1 g.2))

pub certified_formed : (before : List StatementView) (t : StatementView) (d : Script) → Certified before t d → is_written_well d ≡ true → Formed before t d
certified_formed before t d c w = formed_lines before d (scope_of t) (facts_of_statement t) (goal_of_statement t) c w
