-- What a script with its blanks filled has of the script: all but the arguments.
use Rattle.std.proofs.Common.{◌≡◌, ℕ, ◌+◌, Bool, true, leb, ◌&&◌, List, [], ◌∷◌, length, Some, None, refl, ap}
use Rattle.std.specs.List.{list_all}
use Rattle.std.proofs.lemmas.Bool.{and_from}
use Rattle.e_text.specs.Names.{is_name}
use Rattle.e_literal.specs.declared.object.Obj.{Obj}
use Rattle.e_literal.specs.declared.object.Scope.{Scope}
use Rattle.e_literal.specs.Scopes.{with_sorts}
use Rattle.e_literal.specs.Use.{StatementView}
use Rattle.e_construct.specs.Construct.{sorts_made, gives_of_construction}
use Rattle.e_construct.specs.Superposing as superposing
use Rattle.e_deriv.specs.declared.names.Names.{Names}
use Rattle.e_deriv.specs.Naming.{with_new_names}
use Rattle.e_deriv.specs.Script.{Script, Cite, Hence, Make, Apply, Claim, Superposed, Qed, Contradiction, Cases, size, depth}
use Rattle.e_deriv.specs.PlacedSteps.{theorem_at}
use Rattle.e_deriv.specs.Parts.{rest_of, inner_of, args_of, filled_in, filled_by}
use Rattle.e_line.specs.Limits.{most_facts, most_monomials_of_facts, most_blanks, monomials, count_monomials}
use Rattle.e_names.specs.Applies.{count_blanks}
use Rattle.e_names.specs.TitledStatements.{TitledStatement}
use Rattle.e_book.specs.Fits.{NewNamesFit, few_facts, few_terms, few_blanks}
use Rattle.e_names.specs.NamedByTitle.{is_named_by_title}
use Rattle.e_book.specs.HasSpelling.{is_plain, names_theorems}

-- ---- two tests, each as good as another

pub both_same : (a b c d : Bool) → a ≡ b → c ≡ d → (a && c) ≡ (b && d)
both_same a b c d e f = rw (e, f) refl

then_same : (a b c : Bool) → b ≡ c → (a && b) ≡ (a && c)
then_same a b c e = ap (λ (x : Bool). a && x) e

-- ---- lines, and blocks inside

pub filled_size : (s f : Script) → size (filled_by s f) ≡ size s
unfolding size filled_by
filled_size (Cite by rest) f = ap (λ n. 1 + n) (filled_size rest (rest_of f))
filled_size (Hence lit cert rest) f = ap (λ n. 1 + n) (filled_size rest (rest_of f))
filled_size (Make construction names certs rest) f = ap (λ n. 1 + n) (filled_size rest (rest_of f))
filled_size (Apply theorem args names certs rest) f = ap (λ n. 1 + n) (filled_size rest (rest_of f))
filled_size (Claim shown inner rest) f = rw (filled_size inner (inner_of f), filled_size rest (rest_of f)) refl
filled_size (Superposed superposition names shown certs inner rest) f = rw (filled_size inner (inner_of f), filled_size rest (rest_of f)) refl
filled_size (Qed objects certs) f = refl
filled_size (Contradiction against) f = refl
filled_size (Cases lit first second) f = rw (filled_size first (inner_of f), filled_size second (rest_of f)) refl

pub filled_depth : (s f : Script) → depth (filled_by s f) ≡ depth s
unfolding depth filled_by
filled_depth (Cite by rest) f = filled_depth rest (rest_of f)
filled_depth (Hence lit cert rest) f = filled_depth rest (rest_of f)
filled_depth (Make construction names certs rest) f = filled_depth rest (rest_of f)
filled_depth (Apply theorem args names certs rest) f = filled_depth rest (rest_of f)
filled_depth (Claim shown inner rest) f = rw (filled_depth inner (inner_of f), filled_depth rest (rest_of f)) refl
filled_depth (Superposed superposition names shown certs inner rest) f = rw (filled_depth inner (inner_of f), filled_depth rest (rest_of f)) refl
filled_depth (Qed objects certs) f = refl
filled_depth (Contradiction against) f = refl
filled_depth (Cases lit first second) f = rw (filled_depth first (inner_of f), filled_depth second (rest_of f)) refl

-- ---- facts and their monomials

pub filled_facts : (before : List StatementView) (n : ℕ) (sc : Scope) (s f : Script) → few_facts before n sc (filled_by s f) ≡ few_facts before n sc s
unfolding few_facts filled_by
filled_facts before n sc (Cite by rest) f = then_same (leb (n + 1) most_facts) _ _ (filled_facts before (n + 1) sc rest (rest_of f))
filled_facts before n sc (Hence lit cert rest) f = then_same (leb (n + 1) most_facts) _ _ (filled_facts before (n + 1) sc rest (rest_of f))
filled_facts before n sc (Make construction names certs rest) f =
    let more = n + length (gives_of_construction construction sc) in
    then_same (leb more most_facts) _ _ (filled_facts before more (with_sorts sc (sorts_made construction)) rest (rest_of f))
filled_facts before n sc (Apply theorem args names certs rest) f =
    let more = n + length (theorem_at before theorem).shown in
    then_same (leb more most_facts) _ _ (filled_facts before more (with_sorts sc (theorem_at before theorem).made) rest (rest_of f))
filled_facts before n sc (Claim shown inner rest) f =
    let more = n + length shown in
    both_same _ _ _ _ (filled_facts before n sc inner (inner_of f)) (then_same (leb more most_facts) _ _ (filled_facts before more sc rest (rest_of f)))
filled_facts before n sc (Superposed superposition names shown certs inner rest) f =
    let given = n + length (superposing.gives_of_superposition superposition sc) in
    let more = n + length shown in
    then_same (leb given most_facts) _ _
    (both_same _ _ _ _ (filled_facts before given (with_sorts sc superposing.sorts_copied) inner (inner_of f)) (then_same (leb more most_facts) _ _ (filled_facts before more sc rest (rest_of f))))
filled_facts before n sc (Qed objects certs) f = refl
filled_facts before n sc (Contradiction against) f = refl
filled_facts before n sc (Cases lit first second) f =
    then_same (leb (n + 1) most_facts) _ _ (both_same _ _ _ _ (filled_facts before (n + 1) sc first (inner_of f)) (filled_facts before (n + 1) sc second (rest_of f)))

pub filled_terms : (before : List StatementView) (n : ℕ) (sc : Scope) (s f : Script) → few_terms before n sc (filled_by s f) ≡ few_terms before n sc s
unfolding few_terms filled_by
filled_terms before n sc (Cite by rest) f = filled_terms before n sc rest (rest_of f)
filled_terms before n sc (Hence lit cert rest) f =
    let more = n + monomials lit.atom in
    then_same (leb more most_monomials_of_facts) _ _ (filled_terms before more sc rest (rest_of f))
filled_terms before n sc (Make construction names certs rest) f = filled_terms before n (with_sorts sc (sorts_made construction)) rest (rest_of f)
filled_terms before n sc (Apply theorem args names certs rest) f =
    let more = n + count_monomials (theorem_at before theorem).shown in
    then_same (leb more most_monomials_of_facts) _ _ (filled_terms before more (with_sorts sc (theorem_at before theorem).made) rest (rest_of f))
filled_terms before n sc (Claim shown inner rest) f =
    let more = n + count_monomials shown in
    both_same _ _ _ _ (filled_terms before n sc inner (inner_of f)) (then_same (leb more most_monomials_of_facts) _ _ (filled_terms before more sc rest (rest_of f)))
filled_terms before n sc (Superposed superposition names shown certs inner rest) f =
    let given = n + count_monomials (superposing.gives_of_superposition superposition sc) in
    let more = n + count_monomials shown in
    then_same (leb given most_monomials_of_facts) _ _
    (both_same _ _ _ _ (filled_terms before given (with_sorts sc superposing.sorts_copied) inner (inner_of f)) (then_same (leb more most_monomials_of_facts) _ _ (filled_terms before more sc rest (rest_of f))))
filled_terms before n sc (Qed objects certs) f = refl
filled_terms before n sc (Contradiction against) f = refl
filled_terms before n sc (Cases lit first second) f =
    let more = n + monomials lit.atom in
    then_same (leb more most_monomials_of_facts) _ _ (both_same _ _ _ _ (filled_terms before more sc first (inner_of f)) (filled_terms before more sc second (rest_of f)))

-- ---- names

pub filled_new_names : (before : List StatementView) (ns : Names) (s f : Script) → NewNamesFit before ns s → NewNamesFit before ns (filled_by s f)
unfolding NewNamesFit filled_by
filled_new_names before ns (Cite by rest) f h = filled_new_names before ns rest (rest_of f) h
filled_new_names before ns (Hence lit cert rest) f h = filled_new_names before ns rest (rest_of f) h
filled_new_names before ns (Make construction names certs rest) f h = (h.0, h.1, h.2, filled_new_names before (with_new_names ns (sorts_made construction) names) rest (rest_of f) h.3)
filled_new_names before ns (Apply theorem args names certs rest) f h =
    (h.0, h.1, h.2, filled_new_names before (with_new_names ns (theorem_at before theorem).made names) rest (rest_of f) h.3)
filled_new_names before ns (Claim shown inner rest) f h =
    (filled_new_names before ns inner (inner_of f) h.0, filled_new_names before ns rest (rest_of f) h.1)
filled_new_names before ns (Superposed superposition names shown certs inner rest) f h =
    (h.0, h.1, h.2, filled_new_names before (with_new_names ns superposing.sorts_copied names) inner (inner_of f) h.3, filled_new_names before ns rest (rest_of f) h.4)
filled_new_names before ns (Qed objects certs) f h = h
filled_new_names before ns (Contradiction against) f h = h
filled_new_names before ns (Cases lit first second) f h =
    (filled_new_names before ns first (inner_of f) h.0, filled_new_names before ns second (rest_of f) h.1)

pub filled_theorems : (known : List TitledStatement) (s f : Script) → names_theorems known (filled_by s f) ≡ names_theorems known s
unfolding names_theorems filled_by
filled_theorems known (Cite by rest) f = filled_theorems known rest (rest_of f)
filled_theorems known (Hence lit cert rest) f = filled_theorems known rest (rest_of f)
filled_theorems known (Make construction names certs rest) f = filled_theorems known rest (rest_of f)
filled_theorems known (Apply theorem args names certs rest) f = then_same (is_named_by_title known theorem) _ _ (filled_theorems known rest (rest_of f))
filled_theorems known (Claim shown inner rest) f = both_same _ _ _ _ (filled_theorems known inner (inner_of f)) (filled_theorems known rest (rest_of f))
filled_theorems known (Superposed superposition names shown certs inner rest) f =
    both_same _ _ _ _ (filled_theorems known inner (inner_of f)) (filled_theorems known rest (rest_of f))
filled_theorems known (Qed objects certs) f = refl
filled_theorems known (Contradiction against) f = refl
filled_theorems known (Cases lit first second) f = both_same _ _ _ _ (filled_theorems known first (inner_of f)) (filled_theorems known second (rest_of f))

-- ---- certificates

pub filled_plain : (s f : Script) → is_plain (filled_by s f) ≡ is_plain s
unfolding is_plain filled_by
filled_plain (Cite by rest) f = filled_plain rest (rest_of f)
filled_plain (Hence lit None rest) f = filled_plain rest (rest_of f)
filled_plain (Hence lit (Some cert) rest) f = refl
filled_plain (Make construction names [] rest) f = then_same (list_all is_name names) _ _ (filled_plain rest (rest_of f))
filled_plain (Make construction names (c ∷ certs) rest) f = refl
filled_plain (Apply theorem args names [] rest) f = then_same (list_all is_name names) _ _ (filled_plain rest (rest_of f))
filled_plain (Apply theorem args names (c ∷ certs) rest) f = refl
filled_plain (Claim shown inner rest) f =
    then_same _ _ _ (both_same _ _ _ _ (filled_plain inner (inner_of f)) (filled_plain rest (rest_of f)))
filled_plain (Superposed superposition names shown [] inner rest) f =
    then_same (list_all is_name names) _ _ (then_same _ _ _ (both_same _ _ _ _ (filled_plain inner (inner_of f)) (filled_plain rest (rest_of f))))
filled_plain (Superposed superposition names shown (c ∷ certs) inner rest) f = refl
filled_plain (Qed objects []) f = refl
filled_plain (Qed objects (c ∷ certs)) f = refl
filled_plain (Contradiction None) f = refl
filled_plain (Contradiction (Some against)) f = refl
filled_plain (Cases lit first second) f = both_same _ _ _ _ (filled_plain first (inner_of f)) (filled_plain second (rest_of f))

-- ---- blanks

no_blanks : (args : List Obj) → count_blanks (filled_in args) ≡ 0
no_blanks [] = refl
no_blanks (o ∷ os) = no_blanks os

within_blanks : (args : List Obj) → leb (count_blanks (filled_in args)) most_blanks ≡ true
within_blanks args = ap (λ n. leb n most_blanks) (no_blanks args)

pub filled_blanks : (s f : Script) → few_blanks (filled_by s f) ≡ true
unfolding few_blanks filled_by
filled_blanks (Cite by rest) f = filled_blanks rest (rest_of f)
filled_blanks (Hence lit cert rest) f = filled_blanks rest (rest_of f)
filled_blanks (Make construction names certs rest) f = filled_blanks rest (rest_of f)
filled_blanks (Apply theorem args names certs rest) f = and_from _ _ (within_blanks (args_of f)) (filled_blanks rest (rest_of f))
filled_blanks (Claim shown inner rest) f = and_from _ _ (filled_blanks inner (inner_of f)) (filled_blanks rest (rest_of f))
filled_blanks (Superposed superposition names shown certs inner rest) f = and_from _ _ (filled_blanks inner (inner_of f)) (filled_blanks rest (rest_of f))
filled_blanks (Qed objects certs) f = refl
filled_blanks (Contradiction against) f = refl
filled_blanks (Cases lit first second) f = and_from _ _ (filled_blanks first (inner_of f)) (filled_blanks second (rest_of f))
