-- What certificates and lines look up, as the code gathers it.
use Rattle.std.proofs.Common.{◌≡◌, ℕ, zero, suc, ◌+◌, List, [], ◌∷◌, ◌++◌, map, drop, length, add-one, refl, sym, ap, ◌∙◌, Bool, true, false, cond, Option, Some, None}
use Rattle.std.specs.Prelude.{slice_get}
use Rattle.std.specs.Option.{option_map_or}
use Rattle.std.proofs.lemmas.Option.{none-some, same_Some}
use Rattle.std.proofs.lemmas.Grind.{common_steps}
use Rattle.e_literal.specs.declared.object.Obj.{Obj}
use Rattle.e_literal.specs.declared.literal.Lit.{Lit}
use Rattle.e_literal.specs.Literal.{negation}
use Rattle.e_literal.specs.Facts.{others}
use Rattle.e_clause.specs.declared.cert.Part.{Part}
use Rattle.e_clause.specs.Instance.{Inst}
use Rattle.e_trim.specs.Looked.{Wants, no_wants, both, wanted_objects, first_that, of_part, of_parts}
use Rattle.e_trim.specs.inner.Wanted.{negations_of_others, of_negated}
use Rattle.e_trim.proofs.walks.Both.{both-none, both-assoc}

-- ---- the first fact that is so

-- the one at this place is so
pub first_yes : (p : Lit → Bool) (facts : List Lit) (i : ℕ) (f : Lit) → slice_get facts i ≡ Some f → p f ≡ true → first_that p (drop i facts) ≡ f ∷ []
first_yes p [] i f e h = absurd (none-some f e)
first_yes p (g ∷ facts) zero f e h =
    let is = same_Some g f e in
    ap (λ b. cond b (g ∷ []) (first_that p facts)) (ap p is ∙ h) ∙ ap (λ x. x ∷ []) is
first_yes p (g ∷ facts) (suc i) f e h = first_yes p facts i f e h

-- it is not
pub first_later : (p : Lit → Bool) (facts : List Lit) (i : ℕ) (f : Lit) → slice_get facts i ≡ Some f → p f ≡ false → first_that p (drop (suc i) facts) ≡ first_that p (drop i facts)
first_later p [] i f e h = absurd (none-some f e)
first_later p (g ∷ facts) zero f e h = sym (ap (λ b. cond b (g ∷ []) (first_that p facts)) (ap p (same_Some g f e) ∙ h))
first_later p (g ∷ facts) (suc i) f e h = first_later p facts i f e h

pub first_no : (p : Lit → Bool) (facts : List Lit) (i : ℕ) (f : Lit) → slice_get facts i ≡ Some f → p f ≡ false → first_that p (drop (i + 1) facts) ≡ first_that p (drop i facts)
first_no p facts i f e h = ap (λ n. first_that p (drop n facts)) (add-one i) ∙ first_later p facts i f e h

-- none is left
pub first_none : (p : Lit → Bool) (facts : List Lit) → first_that p (drop (length facts) facts) ≡ []
first_none p [] = refl
first_none p (g ∷ facts) = first_none p facts

-- ---- parts

pub negated_parts : (facts ls : List Lit) (ps : List Part) → of_negated facts (map negation ls) ps ≡ of_parts facts ls ps
negated_parts facts [] [] = refl
negated_parts facts [] (p ∷ ps) = refl
negated_parts facts (l ∷ ls) [] = refl
negated_parts facts (l ∷ ls) (p ∷ ps) = ap (both (of_part facts (negation l) p)) (negated_parts facts ls ps)

-- the parts of a transfer
pub transfer_parts : (facts : List Lit) (rule : ℕ) (args : List Obj) (l : Lit) (ps : List Part) → of_negated facts (negations_of_others rule args l) ps ≡ option_map_or (λ lits. of_parts facts (others lits l) ps) (Inst rule args) no_wants
transfer_parts facts rule args l ps = by (Inst rule args)
  where
    none : (ps : List Part) → of_negated facts [] ps ≡ no_wants
    none [] = refl
    none (p ∷ ps) = refl

    by : (o : Option (List Lit)) → of_negated facts (option_map_or (λ lits. map negation (others lits l)) o []) ps ≡ option_map_or (λ lits. of_parts facts (others lits l) ps) o no_wants
    by None = none ps
    by (Some lits) = negated_parts facts (others lits l) ps

pub ruleset transferring = (common_steps, both-none, both-assoc, transfer_parts)

-- ---- lines

pub need_two : (u : Wants) (xs ys : List Obj) → both (both u (wanted_objects xs)) (wanted_objects ys) ≡ both u (wanted_objects (xs ++ ys))
need_two u xs ys = both-assoc u (wanted_objects xs) (wanted_objects ys)

pub line_needs : (u : Wants) (xs : List Obj) → both u (wanted_objects xs) ≡ both u (both (wanted_objects xs) (both no_wants no_wants))
line_needs u xs = ap (both u) (sym (both-none (wanted_objects xs)))

pub line_certs : (u : Wants) (xs : List Obj) (w : Wants) → both (both u (wanted_objects xs)) w ≡ both u (both (wanted_objects xs) (both w no_wants))
line_certs u xs w = both-assoc u (wanted_objects xs) w ∙ ap (λ v. both u (both (wanted_objects xs) v)) (sym (both-none w))

pub line_cites : (u : Wants) (xs : List Obj) (w : Wants) → both (both u (wanted_objects xs)) w ≡ both u (both (wanted_objects xs) (both no_wants w))
line_cites u xs w = both-assoc u (wanted_objects xs) w

-- with nothing inside of it
pub line_alone : (u w : Wants) → both u w ≡ both u (both w no_wants)
line_alone u w = ap (both u) (sym (both-none w))
