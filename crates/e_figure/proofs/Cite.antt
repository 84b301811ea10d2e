-- What is cited from true facts is true: else no literal of the instance would be.
use Rattle.std.proofs.Common.{◌≡◌, ℕ, ◌<◌, List, [], ◌∷◌, ◌++◌, map, refl, sym, ap, ◌∙◌, Bool, true, false, not, cond, ◌&&◌, ◌||◌, true≢false, inl, inr, Option, Some, None, is_some, ltb-true}
use Rattle.std.specs.Prelude.{IsTrue}
use Rattle.std.specs.Option.{option_map_or}
use Rattle.std.specs.List.{list_any, list_all}
use Rattle.std.proofs.lemmas.Bool.{cases_Bool, and_parts, and_from, or_from, not-true}
use Rattle.e_literal.specs.declared.literal.Lit.{Lit}
use Rattle.e_literal.specs.declared.literal.Atom.{Atom}
use Rattle.e_literal.specs.declared.literal.Atom.TheVariants.{On, OnC, Inside, Center, Between, Same, MeetLL, MeetLC, MeetCC, EqP, EqL, EqC, MagEq, MagLt}
use Rattle.e_literal.specs.declared.object.Mono.{Mono}
use Rattle.e_literal.specs.declared.object.Scope.{Scope}
use Rattle.e_literal.specs.declared.object.Obj.{Obj}
use Rattle.e_literal.specs.Literal.{negation, is_in_scope, all_in_scope}
use Rattle.e_literal.specs.Same.{same_neg, same_atom, same_lit}
use Rattle.e_literal.specs.Facts.{has, has_all, others}
use Rattle.e_literal.proofs.Booleans.{and_left, and_right, same_neg_is}
use Rattle.e_clause.specs.Instance.{Inst}
use Rattle.e_clause.specs.RuleKinds.{is_diagram_rule}
use Rattle.e_clause.specs.Citing.{instance_gives}
use Rattle.e_clause.proofs.Clashing.{atom_is}
use Rattle.e_figure.specs.Figure.{FigureView, is_figure}
use Rattle.e_figure.specs.Truth.{is_true, atom_holds}
use Rattle.e_figure.specs.Cite.{IsCited, CitedIsTrue, IsUncited}
use Rattle.e_figure.proofs.TrueRows.{every_instance}

-- ---- the same literals have the same truth

not_equal : (d : FigureView) (a : Atom) (x y : List Mono) → same_atom a (MagEq x y) ≡ true → atom_holds d a ≡ false
not_equal d (MagEq z w) x y h = refl
not_equal d (MagLt z w) x y h = refl
not_equal d a x y h = absurd (true≢false (sym h))

not_below : (d : FigureView) (a : Atom) (x y : List Mono) → same_atom a (MagLt x y) ≡ true → atom_holds d a ≡ false
not_below d (MagEq z w) x y h = refl
not_below d (MagLt z w) x y h = refl
not_below d a x y h = absurd (true≢false (sym h))

same_atoms_agree : (d : FigureView) (a b : Atom) → same_atom a b ≡ true → atom_holds d a ≡ atom_holds d b
same_atoms_agree d a (MagEq x y) h = not_equal d a x y h
same_atoms_agree d a (MagLt x y) h = not_below d a x y h
same_atoms_agree d a (On x y) h = ap (atom_holds d) (atom_is a (On x y) refl h)
same_atoms_agree d a (OnC x y) h = ap (atom_holds d) (atom_is a (OnC x y) refl h)
same_atoms_agree d a (Inside x y) h = ap (atom_holds d) (atom_is a (Inside x y) refl h)
same_atoms_agree d a (Center x y) h = ap (atom_holds d) (atom_is a (Center x y) refl h)
same_atoms_agree d a (Between x y z) h = ap (atom_holds d) (atom_is a (Between x y z) refl h)
same_atoms_agree d a (Same x y z) h = ap (atom_holds d) (atom_is a (Same x y z) refl h)
same_atoms_agree d a (MeetLL x y) h = ap (atom_holds d) (atom_is a (MeetLL x y) refl h)
same_atoms_agree d a (MeetLC x y) h = ap (atom_holds d) (atom_is a (MeetLC x y) refl h)
same_atoms_agree d a (MeetCC x y) h = ap (atom_holds d) (atom_is a (MeetCC x y) refl h)
same_atoms_agree d a (EqP x y) h = ap (atom_holds d) (atom_is a (EqP x y) refl h)
same_atoms_agree d a (EqL x y) h = ap (atom_holds d) (atom_is a (EqL x y) refl h)
same_atoms_agree d a (EqC x y) h = ap (atom_holds d) (atom_is a (EqC x y) refl h)

same_truth : (d : FigureView) (f l : Lit) → same_lit f l ≡ true → is_true d f ≡ is_true d l
same_truth d f l e =
    ap (λ n. cond n (not (atom_holds d f.atom)) (atom_holds d f.atom)) (same_neg_is f.neg l.neg (and_left (same_neg f.neg l.neg) (same_atom f.atom l.atom) e))
    ∙ ap (λ b. cond l.neg (not b) b) (same_atoms_agree d f.atom l.atom (and_right (same_neg f.neg l.neg) (same_atom f.atom l.atom) e))

-- ---- facts

not_first : (a b : Bool) → a ≡ false → (a || b) ≡ true → b ≡ true
not_first true b e h = absurd (true≢false e)
not_first false b e h = h

found_true : (d : FigureView) (facts : List Lit) (l : Lit) → list_all (is_true d) facts ≡ true → has facts l ≡ true → is_true d l ≡ true
found_true d [] l t h = absurd (true≢false (sym h))
found_true d (f ∷ fs) l t h =
    let parts = and_parts (is_true d f) (list_all (is_true d) fs) t in
    elim (cases_Bool (same_lit f l)) [
      | inl y ↦ sym (same_truth d f l y) ∙ parts.0
      | inr n ↦ found_true d fs l parts.1 (not_first (same_lit f l) (has fs l) n h)
    ]

negated : (d : FigureView) (l : Lit) → is_true d (negation l) ≡ true → is_true d l ≡ false
negated d l e = by l.neg (atom_holds d l.atom) e
  where
    by : (n b : Bool) → cond (not n) (not b) b ≡ true → cond n (not b) b ≡ false
    by true true e = refl
    by true false e = absurd (true≢false (sym e))
    by false true e = absurd (true≢false (sym e))
    by false false e = refl

-- where the literal is not true and the negations of the others are facts, none of the instance is true
none_of : (d : FigureView) (facts : List Lit) (l : Lit) → is_true d l ≡ false → list_all (is_true d) facts ≡ true
    → (lits : List Lit) → has_all facts (map negation (others lits l)) ≡ true → list_any (is_true d) lits ≡ false
none_of d facts l n t [] h = refl
none_of d facts l n t (x ∷ xs) h = by (same_lit x l) refl (none_of d facts l n t xs) h
  where
    by : (b : Bool) → same_lit x l ≡ b → (has_all facts (map negation (others xs l)) ≡ true → list_any (is_true d) xs ≡ false)
        → has_all facts (map negation (cond (not b) (x ∷ others xs l) (others xs l))) ≡ true → (is_true d x || list_any (is_true d) xs) ≡ false
    by true e ih h = or_from (is_true d x) (list_any (is_true d) xs) (same_truth d x l e ∙ n) (ih h)
    by false e ih h =
        let parts = and_parts (has facts (negation x)) (has_all facts (map negation (others xs l))) h in
        or_from (is_true d x) (list_any (is_true d) xs) (negated d x (found_true d facts (negation x) t parts.0)) (ih parts.1)

-- an instance that gives the literal
given_by : (d : FigureView) (facts : List Lit) (rule : ℕ) (args : List Obj) (l : Lit) (o : Option (List Lit)) → IsTrue (is_figure d) → list_all (is_true d) facts ≡ true → rule < 76
    → Inst rule args ≡ o → option_map_or (instance_gives facts l) o false ≡ true → is_true d l ≡ true
given_by d facts rule args l None g t r e h = absurd (true≢false (sym h))
given_by d facts rule args l (Some lits) g t r e h =
    elim (cases_Bool (is_true d l)) [
      | inl y ↦ y
      | inr n ↦ absurd (true≢false (sym (every_instance d rule args lits g r e)
          ∙ none_of d facts l n t lits (and_parts (has lits l) (has_all facts (map negation (others lits l))) h).1))
    ]

one_cited : (d : FigureView) (scope : Scope) (facts : List Lit) (l : Lit) → IsTrue (is_figure d) → list_all (is_true d) facts ≡ true → IsCited scope facts l → is_true d l ≡ true
one_cited d scope facts l g t c =
    let parts = and_parts (is_diagram_rule c.by.rule) (list_all (is_in_scope scope) c.by.args && (all_in_scope scope c.by.lit && is_some (Inst c.by.rule c.by.args))) c.citation in
    ap (is_true d) (sym c.lit) ∙ given_by d facts c.by.rule c.by.args c.by.lit (Inst c.by.rule c.by.args) g t (ltb-true c.by.rule 76 parts.0) refl c.cited

all_and : (d : FigureView) (facts : List Lit) (l : Lit) → list_all (is_true d) facts ≡ true → is_true d l ≡ true → list_all (is_true d) (facts ++ l ∷ []) ≡ true
all_and d [] l t h = and_from (is_true d l) true h refl
all_and d (f ∷ fs) l t h =
    let parts = and_parts (is_true d f) (list_all (is_true d) fs) t in
    and_from (is_true d f) (list_all (is_true d) (fs ++ l ∷ [])) parts.0 (all_and d fs l parts.1 h)

-- what is cited from true facts is true
pub cited_true : CitedIsTrue
cited_true d scope facts [] g t c = refl
cited_true d scope facts (l ∷ ls) g t c =
    let here : is_true d l ≡ true = elim c.0 [ inl h ↦ found_true d facts l t h | inr q ↦ one_cited d scope facts l g t q ] in
    and_from (is_true d l) (list_all (is_true d) ls) here (cited_true d scope (facts ++ l ∷ []) ls g (all_and d facts l t here) c.1)

-- a literal that is not true is not cited from true facts
pub refuted_is_uncited : (d : FigureView) (scope : Scope) (facts : List Lit) (l : Lit) → IsTrue (is_figure d)
    → (list_all (is_true d) facts && not (is_true d l)) ≡ true → IsUncited scope facts l
refuted_is_uncited d scope facts l g e ls c =
    let parts = and_parts (list_all (is_true d) facts) (not (is_true d l)) e in
    elim (cases_Bool (has ls l)) [
      | inl y ↦ absurd (true≢false (sym (found_true d ls l (cited_true d scope facts ls g parts.0 c) y) ∙ not-true (is_true d l) parts.1))
      | inr n ↦ n
    ]
