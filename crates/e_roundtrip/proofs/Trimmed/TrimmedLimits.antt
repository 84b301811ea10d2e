-- What is left of a script is within the limits: its literals, facts and monomials, blanks and depth.
use Rattle.std.proofs.Common.{◌≡◌, ℕ, suc, ◌+◌, ◌≤◌, List, [], ◌∷◌, ◌++◌, map, length, refl, sym, ap, ◌∙◌, arith, true, ◌&&◌, leb, Option, Some, None, length-append}
use Rattle.std.specs.List.{list_all}
use Rattle.std.proofs.lemmas.Bool.{and_parts, and_from, leb-true, le-leb}
use Rattle.std.proofs.lemmas.List.{length-map, map-append}
use Rattle.e_literal.specs.declared.object.Sort.{Sort}
use Rattle.e_literal.specs.declared.object.Sort.TheVariants.{Point, Line, Circle}
use Rattle.e_literal.specs.declared.object.Obj.{Obj}
use Rattle.e_literal.specs.declared.object.Scope.{Scope}
use Rattle.e_literal.specs.declared.literal.Lit.{Lit}
use Rattle.e_literal.specs.declared.literal.Atom.{Atom}
use Rattle.e_literal.specs.declared.literal.Atom.TheVariants as atoms
use Rattle.e_literal.specs.Literal.{negation}
use Rattle.e_literal.specs.Rename.{atom_at, mono_at, number_at}
use Rattle.e_literal.specs.Facts.{with_fact, with_facts}
use Rattle.e_literal.specs.Scopes.{with_sorts, next_objects}
use Rattle.e_literal.specs.Use.{StatementView}
use Rattle.e_literal.specs.WellFormed.{is_well_formed}
use Rattle.e_literal.proofs.WithImages.{renamed_well_formed}
use Rattle.e_construct.specs.declared.construction.Construction.{Construction}
use Rattle.e_construct.specs.Construct.{sorts_made, gives_of_construction, gives_of_avoided}
use Rattle.e_construct.specs.Superposing as superposing
use Rattle.e_deriv.specs.Script.{Script, Cite, Hence, Make, Apply, Claim, Superposed, Qed, Contradiction, Cases, bare_script, depth}
use Rattle.e_deriv.specs.Goal.{Goal, goal_of}
use Rattle.e_deriv.specs.PlacedSteps.{theorem_at}
use Rattle.e_line.specs.Limits.{most_facts, most_monomials_of_facts, most_blanks, monomials, count_monomials}
use Rattle.e_names.specs.Applies.{count_blanks}
use Rattle.e_names.specs.Fits.{is_diagram_atom, is_diagram_lit}
use Rattle.e_book.specs.Fits.{has_well_formed_literals, few_facts, few_terms, few_blanks}
use Rattle.e_names.proofs.literals.ShortLits.{count_first}
use Rattle.e_roundtrip.proofs.Formed.Filled.{both_same}
use Rattle.e_trim.proofs.kept_scripts.VersionStays.{either}
use Rattle.e_trim.specs.Trimmed.{obj_at, image_among_kept, lit_among_kept, construction_among_kept, superpose_at, args_at, joins_at, is_kept, wants, trimmed_from}

-- ---- tests

-- where less is counted it is still few
still_few : (m n most : ℕ) → m ≤ n → leb n most ≡ true → leb m most ≡ true
still_few m n most le h = le-leb m most (omega (arith, le, leb-true n most h))

-- ---- what is counted over the kept objects

diagram_stays : (p l c : ℕ → ℕ) (a : Atom) → is_diagram_atom (atom_at p l c a) ≡ is_diagram_atom a
diagram_stays p l c (atoms.MagEq x y) = refl
diagram_stays p l c (atoms.MagLt x y) = refl
diagram_stays p l c a = refl

monos_stay : (p l c : ℕ → ℕ) (a : Atom) → monomials (atom_at p l c a) ≡ monomials a
monos_stay p l c (atoms.MagEq x y) = ap length (sym (map-append (mono_at p) x y)) ∙ length-map (x ++ y) (mono_at p)
monos_stay p l c (atoms.MagLt x y) = ap length (sym (map-append (mono_at p) x y)) ∙ length-map (x ++ y) (mono_at p)
monos_stay p l c a = refl

lit_monos : (kept : List Obj) (l : Lit) → monomials (lit_among_kept kept l).atom ≡ monomials l.atom
lit_monos kept l = monos_stay (number_at (image_among_kept kept) Point) (number_at (image_among_kept kept) Line) (number_at (image_among_kept kept) Circle) l.atom

lit_diagram : (kept : List Obj) (l : Lit) → is_diagram_lit (lit_among_kept kept l) ≡ is_diagram_lit l
lit_diagram kept l = diagram_stays (number_at (image_among_kept kept) Point) (number_at (image_among_kept kept) Line) (number_at (image_among_kept kept) Circle) l.atom

lits_monos : (kept : List Obj) (ls : List Lit) → count_monomials (map (lit_among_kept kept) ls) ≡ count_monomials ls
lits_monos kept [] = refl
lits_monos kept (l ∷ ls) = omega (arith, count_first (lit_among_kept kept l) (map (lit_among_kept kept) ls), count_first l ls, lit_monos kept l, lits_monos kept ls)

well_stay : (kept : List Obj) (ls : List Lit) → list_all is_well_formed (map (lit_among_kept kept) ls) ≡ list_all is_well_formed ls
well_stay kept [] = refl
well_stay kept (l ∷ ls) = both_same _ _ _ _ (renamed_well_formed (image_among_kept kept) l) (well_stay kept ls)

same_sum : (a b c d : List Lit) → length a ≡ length c → length b ≡ length d → length (a ++ b) ≡ length (c ++ d)
same_sum a b c d e f = omega (arith, length-append a b, length-append c d, e, f)

avoided_count : (xs : List Sort) (s z : Scope) (os ps : List Obj) → length os ≡ length ps → length (gives_of_avoided (next_objects s xs) os) ≡ length (gives_of_avoided (next_objects z xs) ps)
avoided_count [] s z os ps e = refl
avoided_count (x ∷ xs) s z os ps e = length-map os _ ∙ e ∙ sym (length-map ps _)

-- a construction gives as many literals
gives_count : (kept : List Obj) (construction : Construction) (s z : Scope) → length (gives_of_construction (construction_among_kept kept construction) s) ≡ length (gives_of_construction construction z)
gives_count kept construction s z =
    same_sum _ _ _ _ (length-map _ _ ∙ sym (length-map _ _)) (avoided_count (sorts_made construction) s z (map (obj_at kept) construction.avoid) construction.avoid (length-map construction.avoid (obj_at kept)))

blanks_stay : (kept : List Obj) (args : List (Option Obj)) → count_blanks (args_at kept args) ≡ count_blanks args
blanks_stay kept [] = refl
blanks_stay kept (None ∷ args) = ap suc (blanks_stay kept args)
blanks_stay kept (Some o ∷ args) = blanks_stay kept args

-- ---- literals

pub literals_left : (before : List StatementView) (d : Script) (kept : List Obj) (s : Scope) (facts : List Lit) (goal : Goal) → has_well_formed_literals d ≡ true → has_well_formed_literals (bare_script (trimmed_from before kept d s facts goal)) ≡ true
unfolding trimmed_from bare_script has_well_formed_literals
literals_left before (Cite by rest) kept s facts goal h =
    let p = and_parts _ (has_well_formed_literals rest) h in
    let r = literals_left before rest kept s (with_fact facts by.lit) goal p.1 in
    either (λ x. has_well_formed_literals (bare_script x)) (is_kept before (Cite by rest) s facts (wants before rest s (with_fact facts by.lit) goal)) _ _ (and_from _ _ (lit_diagram kept by.lit ∙ p.0) r) r
literals_left before (Hence lit cert rest) kept s facts goal h =
    let p = and_parts (is_well_formed lit) (has_well_formed_literals rest) h in
    let r = literals_left before rest kept s (with_fact facts lit) goal p.1 in
    either (λ x. has_well_formed_literals (bare_script x)) (is_kept before (Hence lit cert rest) s facts (wants before rest s (with_fact facts lit) goal)) _ _ (and_from _ _ (renamed_well_formed (image_among_kept kept) lit ∙ p.0) r) r
literals_left before (Make construction names certs rest) kept s facts goal h =
    let after = with_facts facts (gives_of_construction construction s) in
    either (λ x. has_well_formed_literals (bare_script x)) (is_kept before (Make construction names certs rest) s facts (wants before rest (with_sorts s (sorts_made construction)) after goal)) _ _
    (literals_left before rest (kept ++ next_objects s (sorts_made construction)) (with_sorts s (sorts_made construction)) after goal h)
    (literals_left before rest kept (with_sorts s (sorts_made construction)) after goal h)
literals_left before (Apply theorem args names certs rest) kept s facts goal h =
    let here = Apply theorem args names certs rest in
    let new = (theorem_at before theorem).made in
    let after = with_facts facts (joins_at before here s) in
    either (λ x. has_well_formed_literals (bare_script x)) (is_kept before here s facts (wants before rest (with_sorts s new) after goal)) _ _
    (literals_left before rest (kept ++ next_objects s new) (with_sorts s new) after goal h)
    (literals_left before rest kept (with_sorts s new) after goal h)
literals_left before (Claim shown inner rest) kept s facts goal h =
    let p = and_parts (list_all is_well_formed shown) (has_well_formed_literals inner && has_well_formed_literals rest) h in
    let q = and_parts (has_well_formed_literals inner) (has_well_formed_literals rest) p.1 in
    let r = literals_left before rest kept s (with_facts facts shown) goal q.1 in
    either (λ x. has_well_formed_literals (bare_script x)) (is_kept before (Claim shown inner rest) s facts (wants before rest s (with_facts facts shown) goal)) _ _
    (and_from _ _ (well_stay kept shown ∙ p.0) (and_from _ _ (literals_left before inner kept s facts (goal_of shown) q.0) r)) r
literals_left before (Superposed superposition names shown certs inner rest) kept s facts goal h =
    let p = and_parts (list_all is_well_formed shown) (has_well_formed_literals inner && has_well_formed_literals rest) h in
    let q = and_parts (has_well_formed_literals inner) (has_well_formed_literals rest) p.1 in
    let r = literals_left before rest kept s (with_facts facts shown) goal q.1 in
    let kind = with_facts facts (superposing.gives_of_superposition superposition s) in
    either (λ x. has_well_formed_literals (bare_script x)) (is_kept before (Superposed superposition names shown certs inner rest) s facts (wants before rest s (with_facts facts shown) goal)) _ _
    (and_from _ _ (well_stay kept shown ∙ p.0) (and_from _ _ (literals_left before inner (kept ++ next_objects s superposing.sorts_copied) (with_sorts s superposing.sorts_copied) kind (goal_of shown) q.0) r)) r
literals_left before (Qed objects certs) kept s facts goal h = refl
literals_left before (Contradiction against) kept s facts goal h = refl
literals_left before (Cases lit first second) kept s facts goal h =
    let p = and_parts (is_well_formed lit) (has_well_formed_literals first && has_well_formed_literals second) h in
    let q = and_parts (has_well_formed_literals first) (has_well_formed_literals second) p.1 in
    and_from _ _ (renamed_well_formed (image_among_kept kept) lit ∙ p.0)
    (and_from _ _ (literals_left before first kept s (with_fact facts lit) goal q.0) (literals_left before second kept s (with_fact facts (negation lit)) goal q.1))

-- ---- facts: no more literals are facts before a line

pub facts_left : (before : List StatementView) (d : Script) (kept : List Obj) (s : Scope) (facts : List Lit) (goal : Goal) (m n : ℕ) (y z : Scope) → m ≤ n
    → few_facts before n z (bare_script d) ≡ true → few_facts before m y (bare_script (trimmed_from before kept d s facts goal)) ≡ true
unfolding trimmed_from bare_script few_facts
facts_left before (Cite by rest) kept s facts goal m n y z le h =
    let p = and_parts (leb (n + 1) most_facts) (few_facts before (n + 1) z (bare_script rest)) h in
    either (λ x. few_facts before m y (bare_script x)) (is_kept before (Cite by rest) s facts (wants before rest s (with_fact facts by.lit) goal)) _ _
    (and_from _ _ (still_few (m + 1) (n + 1) most_facts (omega (arith, le)) p.0) (facts_left before rest kept s (with_fact facts by.lit) goal (m + 1) (n + 1) y z (omega (arith, le)) p.1))
    (facts_left before rest kept s (with_fact facts by.lit) goal m (n + 1) y z (omega (arith, le)) p.1)
facts_left before (Hence lit cert rest) kept s facts goal m n y z le h =
    let p = and_parts (leb (n + 1) most_facts) (few_facts before (n + 1) z (bare_script rest)) h in
    either (λ x. few_facts before m y (bare_script x)) (is_kept before (Hence lit cert rest) s facts (wants before rest s (with_fact facts lit) goal)) _ _
    (and_from _ _ (still_few (m + 1) (n + 1) most_facts (omega (arith, le)) p.0) (facts_left before rest kept s (with_fact facts lit) goal (m + 1) (n + 1) y z (omega (arith, le)) p.1))
    (facts_left before rest kept s (with_fact facts lit) goal m (n + 1) y z (omega (arith, le)) p.1)
facts_left before (Make construction names certs rest) kept s facts goal m n y z le h =
    let after = with_facts facts (gives_of_construction construction s) in
    let wide = with_sorts s (sorts_made construction) in
    let many = n + length (gives_of_construction construction z) in
    let few = m + length (gives_of_construction (construction_among_kept kept construction) y) in
    let e = gives_count kept construction y z in
    let p = and_parts (leb many most_facts) (few_facts before many (with_sorts z (sorts_made construction)) (bare_script rest)) h in
    either (λ x. few_facts before m y (bare_script x)) (is_kept before (Make construction names certs rest) s facts (wants before rest wide after goal)) _ _
    (and_from _ _ (still_few few many most_facts (omega (arith, le, e)) p.0) (facts_left before rest (kept ++ next_objects s (sorts_made construction)) wide after goal few many (with_sorts y (sorts_made construction)) (with_sorts z (sorts_made construction)) (omega (arith, le, e)) p.1))
    (facts_left before rest kept wide after goal m many y (with_sorts z (sorts_made construction)) (omega (arith, le)) p.1)
facts_left before (Apply theorem args names certs rest) kept s facts goal m n y z le h =
    let here = Apply theorem args names certs rest in
    let t = theorem_at before theorem in
    let after = with_facts facts (joins_at before here s) in
    let wide = with_sorts s t.made in
    let many = n + length t.shown in
    let p = and_parts (leb many most_facts) (few_facts before many (with_sorts z t.made) (bare_script rest)) h in
    either (λ x. few_facts before m y (bare_script x)) (is_kept before here s facts (wants before rest wide after goal)) _ _
    (and_from _ _ (still_few (m + length t.shown) many most_facts (omega (arith, le)) p.0) (facts_left before rest (kept ++ next_objects s t.made) wide after goal (m + length t.shown) many (with_sorts y t.made) (with_sorts z t.made) (omega (arith, le)) p.1))
    (facts_left before rest kept wide after goal m many y (with_sorts z t.made) (omega (arith, le)) p.1)
facts_left before (Claim shown inner rest) kept s facts goal m n y z le h =
    let many = n + length shown in
    let few = m + length (map (lit_among_kept kept) shown) in
    let e = length-map shown (lit_among_kept kept) in
    let p = and_parts (few_facts before n z (bare_script inner)) (leb many most_facts && few_facts before many z (bare_script rest)) h in
    let q = and_parts (leb many most_facts) (few_facts before many z (bare_script rest)) p.1 in
    either (λ x. few_facts before m y (bare_script x)) (is_kept before (Claim shown inner rest) s facts (wants before rest s (with_facts facts shown) goal)) _ _
    (and_from _ _ (facts_left before inner kept s facts (goal_of shown) m n y z le p.0)
    (and_from _ _ (still_few few many most_facts (omega (arith, le, e)) q.0) (facts_left before rest kept s (with_facts facts shown) goal few many y z (omega (arith, le, e)) q.1)))
    (facts_left before rest kept s (with_facts facts shown) goal m many y z (omega (arith, le)) q.1)
facts_left before (Superposed superposition names shown certs inner rest) kept s facts goal m n y z le h =
    let kind = with_facts facts (superposing.gives_of_superposition superposition s) in
    let given = n + length (superposing.gives_of_superposition superposition z) in
    let less = m + length (superposing.gives_of_superposition (superpose_at kept superposition) y) in
    let same : length (superposing.gives_of_superposition (superpose_at kept superposition) y) ≡ length (superposing.gives_of_superposition superposition z) = refl in
    let many = n + length shown in
    let few = m + length (map (lit_among_kept kept) shown) in
    let e = length-map shown (lit_among_kept kept) in
    let o = and_parts (leb given most_facts) (few_facts before given (with_sorts z superposing.sorts_copied) (bare_script inner) && (leb many most_facts && few_facts before many z (bare_script rest))) h in
    let p = and_parts (few_facts before given (with_sorts z superposing.sorts_copied) (bare_script inner)) (leb many most_facts && few_facts before many z (bare_script rest)) o.1 in
    let q = and_parts (leb many most_facts) (few_facts before many z (bare_script rest)) p.1 in
    either (λ x. few_facts before m y (bare_script x)) (is_kept before (Superposed superposition names shown certs inner rest) s facts (wants before rest s (with_facts facts shown) goal)) _ _
    (and_from _ _ (still_few less given most_facts (omega (arith, le, same)) o.0)
    (and_from _ _
    (facts_left before inner (kept ++ next_objects s superposing.sorts_copied) (with_sorts s superposing.sorts_copied) kind (goal_of shown) less given (with_sorts y superposing.sorts_copied) (with_sorts z superposing.sorts_copied) (omega (arith, le, same)) p.0)
    (and_from _ _ (still_few few many most_facts (omega (arith, le, e)) q.0) (facts_left before rest kept s (with_facts facts shown) goal few many y z (omega (arith, le, e)) q.1))))
    (facts_left before rest kept s (with_facts facts shown) goal m many y z (omega (arith, le)) q.1)
facts_left before (Qed objects certs) kept s facts goal m n y z le h = refl
facts_left before (Contradiction against) kept s facts goal m n y z le h = refl
facts_left before (Cases lit first second) kept s facts goal m n y z le h =
    let p = and_parts (leb (n + 1) most_facts) (few_facts before (n + 1) z (bare_script first) && few_facts before (n + 1) z (bare_script second)) h in
    let q = and_parts (few_facts before (n + 1) z (bare_script first)) (few_facts before (n + 1) z (bare_script second)) p.1 in
    and_from _ _ (still_few (m + 1) (n + 1) most_facts (omega (arith, le)) p.0)
    (and_from _ _ (facts_left before first kept s (with_fact facts lit) goal (m + 1) (n + 1) y z (omega (arith, le)) q.0)
    (facts_left before second kept s (with_fact facts (negation lit)) goal (m + 1) (n + 1) y z (omega (arith, le)) q.1))

-- ---- and they have no more monomials

pub terms_left : (before : List StatementView) (d : Script) (kept : List Obj) (s : Scope) (facts : List Lit) (goal : Goal) (m n : ℕ) (y z : Scope) → m ≤ n
    → few_terms before n z (bare_script d) ≡ true → few_terms before m y (bare_script (trimmed_from before kept d s facts goal)) ≡ true
unfolding trimmed_from bare_script few_terms
terms_left before (Cite by rest) kept s facts goal m n y z le h =
    let r = terms_left before rest kept s (with_fact facts by.lit) goal m n y z le h in
    either (λ x. few_terms before m y (bare_script x)) (is_kept before (Cite by rest) s facts (wants before rest s (with_fact facts by.lit) goal)) _ _ r r
terms_left before (Hence lit cert rest) kept s facts goal m n y z le h =
    let many = n + monomials lit.atom in
    let few = m + monomials (lit_among_kept kept lit).atom in
    let e = lit_monos kept lit in
    let p = and_parts (leb many most_monomials_of_facts) (few_terms before many z (bare_script rest)) h in
    either (λ x. few_terms before m y (bare_script x)) (is_kept before (Hence lit cert rest) s facts (wants before rest s (with_fact facts lit) goal)) _ _
    (and_from _ _ (still_few few many most_monomials_of_facts (omega (arith, le, e)) p.0) (terms_left before rest kept s (with_fact facts lit) goal few many y z (omega (arith, le, e)) p.1))
    (terms_left before rest kept s (with_fact facts lit) goal m many y z (omega (arith, le)) p.1)
terms_left before (Make construction names certs rest) kept s facts goal m n y z le h =
    let after = with_facts facts (gives_of_construction construction s) in
    let wide = with_sorts s (sorts_made construction) in
    either (λ x. few_terms before m y (bare_script x)) (is_kept before (Make construction names certs rest) s facts (wants before rest wide after goal)) _ _
    (terms_left before rest (kept ++ next_objects s (sorts_made construction)) wide after goal m n (with_sorts y (sorts_made construction)) (with_sorts z (sorts_made construction)) le h)
    (terms_left before rest kept wide after goal m n y (with_sorts z (sorts_made construction)) le h)
terms_left before (Apply theorem args names certs rest) kept s facts goal m n y z le h =
    let here = Apply theorem args names certs rest in
    let t = theorem_at before theorem in
    let after = with_facts facts (joins_at before here s) in
    let wide = with_sorts s t.made in
    let many = n + count_monomials t.shown in
    let few = m + count_monomials t.shown in
    let p = and_parts (leb many most_monomials_of_facts) (few_terms before many (with_sorts z t.made) (bare_script rest)) h in
    either (λ x. few_terms before m y (bare_script x)) (is_kept before here s facts (wants before rest wide after goal)) _ _
    (and_from _ _ (still_few few many most_monomials_of_facts (omega (arith, le)) p.0) (terms_left before rest (kept ++ next_objects s t.made) wide after goal few many (with_sorts y t.made) (with_sorts z t.made) (omega (arith, le)) p.1))
    (terms_left before rest kept wide after goal m many y (with_sorts z t.made) (omega (arith, le)) p.1)
terms_left before (Claim shown inner rest) kept s facts goal m n y z le h =
    let many = n + count_monomials shown in
    let few = m + count_monomials (map (lit_among_kept kept) shown) in
    let e = lits_monos kept shown in
    let p = and_parts (few_terms before n z (bare_script inner)) (leb many most_monomials_of_facts && few_terms before many z (bare_script rest)) h in
    let q = and_parts (leb many most_monomials_of_facts) (few_terms before many z (bare_script rest)) p.1 in
    either (λ x. few_terms before m y (bare_script x)) (is_kept before (Claim shown inner rest) s facts (wants before rest s (with_facts facts shown) goal)) _ _
    (and_from _ _ (terms_left before inner kept s facts (goal_of shown) m n y z le p.0)
    (and_from _ _ (still_few few many most_monomials_of_facts (omega (arith, le, e)) q.0) (terms_left before rest kept s (with_facts facts shown) goal few many y z (omega (arith, le, e)) q.1)))
    (terms_left before rest kept s (with_facts facts shown) goal m many y z (omega (arith, le)) q.1)
terms_left before (Superposed superposition names shown certs inner rest) kept s facts goal m n y z le h =
    let kind = with_facts facts (superposing.gives_of_superposition superposition s) in
    let given = n + count_monomials (superposing.gives_of_superposition superposition z) in
    let less = m + count_monomials (superposing.gives_of_superposition (superpose_at kept superposition) y) in
    let same : count_monomials (superposing.gives_of_superposition (superpose_at kept superposition) y) ≡ count_monomials (superposing.gives_of_superposition superposition z) = refl in
    let many = n + count_monomials shown in
    let few = m + count_monomials (map (lit_among_kept kept) shown) in
    let e = lits_monos kept shown in
    let o = and_parts (leb given most_monomials_of_facts) (few_terms before given (with_sorts z superposing.sorts_copied) (bare_script inner) && (leb many most_monomials_of_facts && few_terms before many z (bare_script rest))) h in
    let p = and_parts (few_terms before given (with_sorts z superposing.sorts_copied) (bare_script inner)) (leb many most_monomials_of_facts && few_terms before many z (bare_script rest)) o.1 in
    let q = and_parts (leb many most_monomials_of_facts) (few_terms before many z (bare_script rest)) p.1 in
    either (λ x. few_terms before m y (bare_script x)) (is_kept before (Superposed superposition names shown certs inner rest) s facts (wants before rest s (with_facts facts shown) goal)) _ _
    (and_from _ _ (still_few less given most_monomials_of_facts (omega (arith, le, same)) o.0)
    (and_from _ _
    (terms_left before inner (kept ++ next_objects s superposing.sorts_copied) (with_sorts s superposing.sorts_copied) kind (goal_of shown) less given (with_sorts y superposing.sorts_copied) (with_sorts z superposing.sorts_copied) (omega (arith, le, same)) p.0)
    (and_from _ _ (still_few few many most_monomials_of_facts (omega (arith, le, e)) q.0) (terms_left before rest kept s (with_facts facts shown) goal few many y z (omega (arith, le, e)) q.1))))
    (terms_left before rest kept s (with_facts facts shown) goal m many y z (omega (arith, le)) q.1)
terms_left before (Qed objects certs) kept s facts goal m n y z le h = refl
terms_left before (Contradiction against) kept s facts goal m n y z le h = refl
terms_left before (Cases lit first second) kept s facts goal m n y z le h =
    let many = n + monomials lit.atom in
    let few = m + monomials (lit_among_kept kept lit).atom in
    let e = lit_monos kept lit in
    let p = and_parts (leb many most_monomials_of_facts) (few_terms before many z (bare_script first) && few_terms before many z (bare_script second)) h in
    let q = and_parts (few_terms before many z (bare_script first)) (few_terms before many z (bare_script second)) p.1 in
    and_from _ _ (still_few few many most_monomials_of_facts (omega (arith, le, e)) p.0)
    (and_from _ _ (terms_left before first kept s (with_fact facts lit) goal few many y z (omega (arith, le, e)) q.0)
    (terms_left before second kept s (with_fact facts (negation lit)) goal few many y z (omega (arith, le, e)) q.1))

-- ---- blanks

pub blanks_left : (before : List StatementView) (d : Script) (kept : List Obj) (s : Scope) (facts : List Lit) (goal : Goal) → few_blanks (bare_script d) ≡ true → few_blanks (bare_script (trimmed_from before kept d s facts goal)) ≡ true
unfolding trimmed_from bare_script few_blanks
blanks_left before (Cite by rest) kept s facts goal h =
    let r = blanks_left before rest kept s (with_fact facts by.lit) goal h in
    either (λ x. few_blanks (bare_script x)) (is_kept before (Cite by rest) s facts (wants before rest s (with_fact facts by.lit) goal)) _ _ r r
blanks_left before (Hence lit cert rest) kept s facts goal h =
    let r = blanks_left before rest kept s (with_fact facts lit) goal h in
    either (λ x. few_blanks (bare_script x)) (is_kept before (Hence lit cert rest) s facts (wants before rest s (with_fact facts lit) goal)) _ _ r r
blanks_left before (Make construction names certs rest) kept s facts goal h =
    let after = with_facts facts (gives_of_construction construction s) in
    either (λ x. few_blanks (bare_script x)) (is_kept before (Make construction names certs rest) s facts (wants before rest (with_sorts s (sorts_made construction)) after goal)) _ _
    (blanks_left before rest (kept ++ next_objects s (sorts_made construction)) (with_sorts s (sorts_made construction)) after goal h)
    (blanks_left before rest kept (with_sorts s (sorts_made construction)) after goal h)
blanks_left before (Apply theorem args names certs rest) kept s facts goal h =
    let here = Apply theorem args names certs rest in
    let new = (theorem_at before theorem).made in
    let after = with_facts facts (joins_at before here s) in
    let p = and_parts (leb (count_blanks args) most_blanks) (few_blanks (bare_script rest)) h in
    either (λ x. few_blanks (bare_script x)) (is_kept before here s facts (wants before rest (with_sorts s new) after goal)) _ _
    (and_from _ _ (ap (λ (k : ℕ). leb k most_blanks) (blanks_stay kept args) ∙ p.0) (blanks_left before rest (kept ++ next_objects s new) (with_sorts s new) after goal p.1))
    (blanks_left before rest kept (with_sorts s new) after goal p.1)
blanks_left before (Claim shown inner rest) kept s facts goal h =
    let q = and_parts (few_blanks (bare_script inner)) (few_blanks (bare_script rest)) h in
    let r = blanks_left before rest kept s (with_facts facts shown) goal q.1 in
    either (λ x. few_blanks (bare_script x)) (is_kept before (Claim shown inner rest) s facts (wants before rest s (with_facts facts shown) goal)) _ _ (and_from _ _ (blanks_left before inner kept s facts (goal_of shown) q.0) r) r
blanks_left before (Superposed superposition names shown certs inner rest) kept s facts goal h =
    let q = and_parts (few_blanks (bare_script inner)) (few_blanks (bare_script rest)) h in
    let r = blanks_left before rest kept s (with_facts facts shown) goal q.1 in
    let kind = with_facts facts (superposing.gives_of_superposition superposition s) in
    either (λ x. few_blanks (bare_script x)) (is_kept before (Superposed superposition names shown certs inner rest) s facts (wants before rest s (with_facts facts shown) goal)) _ _
    (and_from _ _ (blanks_left before inner (kept ++ next_objects s superposing.sorts_copied) (with_sorts s superposing.sorts_copied) kind (goal_of shown) q.0) r) r
blanks_left before (Qed objects certs) kept s facts goal h = refl
blanks_left before (Contradiction against) kept s facts goal h = refl
blanks_left before (Cases lit first second) kept s facts goal h =
    let q = and_parts (few_blanks (bare_script first)) (few_blanks (bare_script second)) h in
    and_from _ _ (blanks_left before first kept s (with_fact facts lit) goal q.0) (blanks_left before second kept s (with_fact facts (negation lit)) goal q.1)

-- ---- without certificates a script is as deep

pub depth_erased : (d : Script) → depth (bare_script d) ≡ depth d
unfolding depth bare_script
depth_erased (Cite by rest) = depth_erased rest
depth_erased (Hence lit cert rest) = depth_erased rest
depth_erased (Make construction names certs rest) = depth_erased rest
depth_erased (Apply theorem args names certs rest) = depth_erased rest
depth_erased (Claim shown inner rest) = rw (depth_erased inner, depth_erased rest) refl
depth_erased (Superposed superposition names shown certs inner rest) = rw (depth_erased inner, depth_erased rest) refl
depth_erased (Qed objects certs) = refl
depth_erased (Contradiction against) = refl
depth_erased (Cases lit first second) = rw (depth_erased first, depth_erased second) refl
