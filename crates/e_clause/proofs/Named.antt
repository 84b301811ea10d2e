-- The rows of a metric system: each is the one that its name names, and has no term but those of
-- the system.
use Rattle.std.proofs.Common.{◌≡◌, ℕ, ◌+◌, List, [], ◌∷◌, ◌++◌, refl, sym, ap, ap₂, ◌∙◌, subst, Option, Some, None, Bool, true, false, cond, ◌||◌, true≢false, ◌⊎◌, inl, inr}
use Rattle.std.specs.Prelude.{flat_map, option_and_then}
use Rattle.std.specs.Option.{option_map}
use Rattle.std.specs.List.{cons_option}
use Rattle.std.proofs.lemmas.List.{map-append}
use Rattle.std.proofs.lemmas.Bool.{and_from, or_right, or_cases}
use Rattle.std.proofs.lemmas.Option.{same_Some, none-some}
use lib.IntN.{ℤ, pos, negsuc, ◌-ℤ◌}
use Rattle.e_literal.specs.declared.object.Kind.{Kind}
use Rattle.e_literal.specs.declared.object.Kind.TheVariants.{Segment, Angle, Area as AreaKind}
use Rattle.e_literal.specs.declared.object.Mono.{Mono}
use Rattle.e_literal.specs.declared.object.Term.{Term}
use Rattle.e_literal.specs.declared.object.Term.TheVariants.{Seg, Ang, Area, Right}
use Rattle.e_literal.specs.declared.literal.Lit.{Lit}
use Rattle.e_literal.specs.Literal.{negation}
use Rattle.e_literal.specs.Same.{canonical, term_eq, one_term, coeff_of, same_lit}
use Rattle.e_literal.specs.Width.{is_among}
use Rattle.e_literal.specs.Facts.{has, are_apart}
use Rattle.e_literal.specs.Rows.{Row, Zero, AtLeast, More, Not, coefficient, times, normal_summands, plus, minus, row, row_of_atom, row_of_lit, has_term, first_terms}
use Rattle.e_literal.proofs.Terms.{term_eq_is, term_eq_turned, among_first, among_rest}
use Rattle.e_literal.proofs.Agreeing.{same_lit_self}
use Rattle.e_literal.proofs.Valued.{IsMagEq, IsMagLt, IsDiagram, split, is_normal, normal_coefficient, normal_none}
use Rattle.e_literal.proofs.Booleans.{or_not_left, or_not_right}
use Rattle.e_clause.specs.declared.cert.RowName.{RowName}
use Rattle.e_clause.specs.declared.cert.RowName.TheVariants.{Fact, Goal, Pos}
use Rattle.e_clause.specs.Assignment.{terms_of_atom, terms_of_lits, terms_of_step}
use Rattle.e_clause.specs.Sum.{RowScope, is_step_term, fact_row, goal_row, says_differ, unless_not, row_named}
use Rattle.e_clause.specs.MetricCertificate.{differing_row}
use Rattle.e_clause.specs.System.{NamedRow, named_row, is_of_kind, of_kind, against_goal, rows_named, pos_row, top_row, rows_of_term, rows_of_kind, system}
use Rattle.e_clause.proofs.Spread.{terms_of_sum}
use Rattle.e_clause.proofs.Solved.{terms_of_system, system_among, first_among}

-- ---- properties of each row

abbrev pub Each : (NamedRow → Type 0) → List NamedRow → Type 0
Each P [] = Unit {0}
Each P (n ∷ ns) = P n × Each P ns

pub each-append : (P : NamedRow → Type 0) (ns ms : List NamedRow) → Each P ns → Each P ms → Each P (ns ++ ms)
each-append P [] ms h g = g
each-append P (n ∷ ns) ms h g = (h.0, each-append P ns ms h.1 g)

each-flat_map : (P : NamedRow → Type 0) (f : Term → List NamedRow) (ts : List Term) → ((t : Term) → is_among ts t ≡ true → Each P (f t)) → Each P (flat_map f ts)
each-flat_map P f [] h = tt
each-flat_map P f (t ∷ ts) h = each-append P (f t) (flat_map f ts) (h t (among_first t ts)) (each-flat_map P f ts (λ s a. h s (among_rest t ts s a)))

abbrev pub EachLit : (Lit → Type 0) → List Lit → Type 0
EachLit Q [] = Unit {0}
EachLit Q (l ∷ ls) = Q l × EachLit Q ls

-- the row of each literal of a kind
pub each_literal : (P : NamedRow → Type 0) (Q : Lit → Type 0) (which : Kind) (name : Lit → RowName) (ls : List Lit) → EachLit Q ls
    → ((l : Lit) (r : Row) → Q l → is_of_kind which l ≡ true → row_of_lit l ≡ Some r → P (named_row (name l) r)) → Each P (rows_named name (of_kind which ls))
each_literal P Q which name [] h f = tt
each_literal P Q which name (l ∷ ls) h f = by (is_of_kind which l) refl (each_literal P Q which name ls h.1 f)
  where
    rest : List Lit
    rest = of_kind which ls

    one : (o : Option Row) → row_of_lit l ≡ o → is_of_kind which l ≡ true → Each P (rows_named name rest) → Each P (cons_option (option_map (named_row (name l)) o) (rows_named name rest))
    one None e k ih = ih
    one (Some r) e k ih = (f l r h.0 k e, ih)

    by : (b : Bool) → is_of_kind which l ≡ b → Each P (rows_named name rest) → Each P (rows_named name (cons_option (cond b (Some l) None) rest))
    by true k ih = one (row_of_lit l) refl k ih
    by false k ih = ih

-- each row of a system, from its parts
pub each_system : (P : NamedRow → Type 0) (which : Kind) (facts : List Lit) (wanted : Option Lit) → Each P (rows_named Fact (of_kind which facts))
    → Each P (rows_named (λ l. Goal) (of_kind which (against_goal wanted)))
    → ((t : Term) → is_among (terms_of_system which facts wanted) t ≡ true → Each P (rows_of_term facts t)) → Each P (rows_of_kind which) → Each P (system which facts wanted)
each_system P which facts wanted a b c d =
    let terms = first_terms [] (terms_of_system which facts wanted) in
    let later = flat_map (rows_of_term facts) terms ++ rows_of_kind which in
    each-append P (rows_named Fact (of_kind which facts)) (rows_named (λ l. Goal) (of_kind which (against_goal wanted)) ++ later) a
    (each-append P (rows_named (λ l. Goal) (of_kind which (against_goal wanted))) later b
    (each-append P (flat_map (rows_of_term facts) terms) (rows_of_kind which)
    (each-flat_map P (rows_of_term facts) terms (λ t k. c t (first_among [] (terms_of_system which facts wanted) t k))) d))

-- ---- names

-- the name means the row, where a row may be used by its name; and one that says that its form is not 0 may differ
pub record IsNamed (p : RowScope) (n : NamedRow) : Type 0 where
  pub by_name : row_named p n.name ≡ unless_not (Some n.row)
  pub differs : says_differ n.row.sense ≡ true → differing_row p.facts p.wanted n.name ≡ Some n.row

has_more : (facts : List Lit) (x : Lit) (ls : List Lit) → EachLit (λ l. has facts l ≡ true) ls → EachLit (λ l. has (x ∷ facts) l ≡ true) ls
has_more facts x [] h = tt
has_more facts x (l ∷ ls) h = (or_right (same_lit x l) (has facts l) h.0, has_more facts x ls h.1)

-- each fact is among the facts
pub has_own : (facts : List Lit) → EachLit (λ l. has facts l ≡ true) facts
has_own [] = tt
has_own (f ∷ facts) = (ap (λ b. b || has facts f) (same_lit_self f), has_more facts f facts (has_own facts))

says_so : (r : Row) → says_differ r.sense ≡ true → option_and_then (λ (x : Row). cond (says_differ x.sense) (Some x) None) (Some r) ≡ Some r
says_so r e = ap (λ b. cond b (Some r) None) e

module _ (p : RowScope) where
  fact_named : (l : Lit) (r : Row) → has p.facts l ≡ true → row_of_lit l ≡ Some r → IsNamed p (named_row (Fact l) r)
  fact_named l r h e =
      let k : fact_row p.facts l ≡ Some r = ap (λ b. cond b (row_of_lit l) None) h ∙ e in
      record { by_name = ap unless_not k; differs = λ s. ap (option_and_then (λ (x : Row). cond (says_differ x.sense) (Some x) None)) k ∙ says_so r s }

  goal_named : (which : Kind) → Each (IsNamed p) (rows_named (λ l. Goal) (of_kind which (against_goal p.wanted)))
  goal_named which = by p.wanted refl
    where
      row_is : (l m : Lit) (r : Row) → p.wanted ≡ Some l → m ≡ negation l → row_of_lit m ≡ Some r → goal_row p.wanted ≡ Some r
      row_is l m r e k h = ap goal_row e ∙ sym (ap row_of_lit k) ∙ h

      by : (o : Option Lit) → p.wanted ≡ o → Each (IsNamed p) (rows_named (λ l. Goal) (of_kind which (against_goal o)))
      by None e = tt
      by (Some l) e = each_literal (IsNamed p) (λ m. m ≡ negation l) which (λ m. Goal) (negation l ∷ []) (refl, tt) (λ m r k of h. record {
        by_name = ap unless_not (row_is l m r e k h);
        differs = λ s. ap (option_and_then (λ (x : Row). cond (says_differ x.sense) (Some x) None)) (row_is l m r e k h) ∙ says_so r s;
      })

  term_named : (t : Term) → is_among (terms_of_step p.facts p.wanted) t ≡ true → Each (IsNamed p) (rows_of_term p.facts t)
  term_named (Seg a b) h = by (are_apart p.facts a b) refl
    where
      by : (c : Bool) → are_apart p.facts a b ≡ c → Each (IsNamed p) (cond c (named_row (Pos (Seg a b)) (pos_row (Seg a b)) ∷ []) [])
      by true e = (record { by_name = ap (λ c. cond c (Some (pos_row (Seg a b))) None) (and_from (is_step_term p (Seg a b)) (are_apart p.facts a b) h e); differs = λ s. absurd (true≢false (sym s)) }, tt)
      by false e = tt
  term_named (Ang a b c) h = (record { by_name = ap (λ k. cond k (Some (top_row (Ang a b c))) None) h; differs = λ s. absurd (true≢false (sym s)) }, tt)
  term_named (Area a b c) h = tt
  term_named Right h = tt

  kind_named : (which : Kind) → Each (IsNamed p) (rows_of_kind which)
  kind_named Segment = tt
  kind_named Angle = (record { by_name = refl; differs = λ s. absurd (true≢false (sym s)) }, tt)
  kind_named AreaKind = tt

  -- the rows of a system are those that their names name
  pub system_named : (which : Kind) → Each (IsNamed p) (system which p.facts p.wanted)
  system_named which =
      each_system (IsNamed p) which p.facts p.wanted
      (each_literal (IsNamed p) (λ l. has p.facts l ≡ true) which Fact p.facts (has_own p.facts) (λ l r h of e. fact_named l r h e))
      (goal_named which)
      (λ t a. term_named t (system_among which p.facts p.wanted t a))
      (kind_named which)

-- ---- terms

-- the row has no such term
abbrev pub HasNot : Term → NamedRow → Type 0
HasNot u n = coefficient n.row.form u ≡ pos 0

sum_none : (ms : List Mono) (u : Term) → has_term (terms_of_sum ms) u ≡ false → coeff_of ms u ≡ 0
sum_none [] u h = refl
sum_none (m ∷ ms) u h =
    ap₂ {A = Bool} {B = ℕ} (λ b n. cond b m.coeff 0 + n)
    (term_eq_turned (canonical m.term) (canonical u) ∙ or_not_left (one_term u m.term) (has_term (terms_of_sum ms) u) h)
    (sum_none ms u (or_not_right (one_term u m.term) (has_term (terms_of_sum ms) u) h))

none_left : (xs ys : List Term) (u : Term) → has_term (xs ++ ys) u ≡ false → has_term xs u ≡ false
none_left [] ys u h = refl
none_left (x ∷ xs) ys u h =
    ap₂ {A = Bool} {B = Bool} (λ a b. a || b) (or_not_left (one_term u x) (has_term (xs ++ ys) u) h) (none_left xs ys u (or_not_right (one_term u x) (has_term (xs ++ ys) u) h))

none_right : (xs ys : List Term) (u : Term) → has_term (xs ++ ys) u ≡ false → has_term ys u ≡ false
none_right [] ys u h = h
none_right (x ∷ xs) ys u h = none_right xs ys u (or_not_right (one_term u x) (has_term (xs ++ ys) u) h)

-- the term is not normal, or none of these is one term with it
abbrev pub Misses : List Term → Term → Type 0
Misses ts u = (is_normal u ≡ false) ⊎ (has_term ts u ≡ false)

sums_miss : (x y : List Mono) (u : Term) → Misses (terms_of_sum (x ++ y)) u → coefficient (normal_summands (plus x ++ minus y)) u ≡ pos 0
sums_miss x y u (inl n) = normal_coefficient x y u ∙ ap (λ b. cond b (pos (coeff_of x u) -ℤ pos (coeff_of y u)) (pos 0)) n
sums_miss x y u (inr n) =
    let k = subst (λ ts. has_term ts u ≡ false) (map-append (λ (m : Mono). m.term) x y) n in
    normal_coefficient x y u
    ∙ ap₂ {A = ℕ} {B = ℕ} (λ a b. cond (is_normal u) (pos a -ℤ pos b) (pos 0)) (sum_none x u (none_left (terms_of_sum x) (terms_of_sum y) u k)) (sum_none y u (none_right (terms_of_sum x) (terms_of_sum y) u k))
    ∙ none (is_normal u)
  where
    none : (b : Bool) → cond b (pos 0) (pos 0) ≡ pos 0
    none true = refl
    none false = refl

turned_miss : (x y : List Mono) (u : Term) → Misses (terms_of_sum (x ++ y)) u → Misses (terms_of_sum (y ++ x)) u
turned_miss x y u (inl n) = inl n
turned_miss x y u (inr n) =
    let k = subst (λ ts. has_term ts u ≡ false) (map-append (λ (m : Mono). m.term) x y) n in
    inr (subst (λ ts. has_term ts u ≡ false) (sym (map-append (λ (m : Mono). m.term) y x))
    (none_both (terms_of_sum y) (terms_of_sum x) u (none_right (terms_of_sum x) (terms_of_sum y) u k) (none_left (terms_of_sum x) (terms_of_sum y) u k)))
  where
    none_both : (xs ys : List Term) (u : Term) → has_term xs u ≡ false → has_term ys u ≡ false → has_term (xs ++ ys) u ≡ false
    none_both [] ys u h g = g
    none_both (t ∷ ts) ys u h g =
        ap₂ {A = Bool} {B = Bool} (λ a b. a || b) (or_not_left (one_term u t) (has_term ts u) h) (none_both ts ys u (or_not_right (one_term u t) (has_term ts u) h) g)

-- the row of a literal has no terms but the literal's
literal_misses : (l : Lit) (r : Row) (u : Term) → row_of_lit l ≡ Some r → Misses (terms_of_atom l.atom) u → coefficient r.form u ≡ pos 0
literal_misses l r u e h = by l.neg e (split l.atom)
  where
    taken : (s : Row) → Some s ≡ Some r → coefficient s.form u ≡ pos 0 → coefficient r.form u ≡ pos 0
    taken s k g = ap (λ (x : Row). coefficient x.form u) (sym (same_Some s r k)) ∙ g

    by : (neg : Bool) → row_of_atom l.atom neg ≡ Some r → (IsMagEq l.atom ⊎ IsMagLt l.atom) ⊎ IsDiagram l.atom → coefficient r.form u ≡ pos 0
    by neg k (inl (inl p)) =
        taken (row (cond neg Not Zero) (plus p.0 ++ minus p.1)) (sym (ap (λ a. row_of_atom a neg) p.2) ∙ k)
        (sums_miss p.0 p.1 u (subst (λ a. Misses (terms_of_atom a) u) p.2 h))
    by true k (inl (inr p)) =
        taken (row AtLeast (plus p.0 ++ minus p.1)) (sym (ap (λ a. row_of_atom a true) p.2) ∙ k)
        (sums_miss p.0 p.1 u (subst (λ a. Misses (terms_of_atom a) u) p.2 h))
    by false k (inl (inr p)) =
        taken (row More (plus p.1 ++ minus p.0)) (sym (ap (λ a. row_of_atom a false) p.2) ∙ k)
        (sums_miss p.1 p.0 u (turned_miss p.0 p.1 u (subst (λ a. Misses (terms_of_atom a) u) p.2 h)))
    by neg k (inr d) = absurd (none-some r (sym (d.no_row neg) ∙ k))

each_misses : (which : Kind) (ls : List Lit) (u : Term) → Misses (terms_of_lits (of_kind which ls)) u → EachLit (λ l. is_of_kind which l ≡ true → Misses (terms_of_atom l.atom) u) ls
each_misses which [] u h = tt
each_misses which (l ∷ ls) u h = by (is_of_kind which l) refl h (λ k. each_misses which ls u k)
  where
    rest : List Lit
    rest = of_kind which ls

    here : Misses (terms_of_atom l.atom ++ terms_of_lits rest) u → Misses (terms_of_atom l.atom) u
    here (inl n) = inl n
    here (inr n) = inr (none_left (terms_of_atom l.atom) (terms_of_lits rest) u n)

    later : Misses (terms_of_atom l.atom ++ terms_of_lits rest) u → Misses (terms_of_lits rest) u
    later (inl n) = inl n
    later (inr n) = inr (none_right (terms_of_atom l.atom) (terms_of_lits rest) u n)

    by : (b : Bool) → is_of_kind which l ≡ b → Misses (terms_of_lits (cons_option (cond b (Some l) None) rest)) u
        → (Misses (terms_of_lits rest) u → EachLit (λ m. is_of_kind which m ≡ true → Misses (terms_of_atom m.atom) u) ls)
        → EachLit (λ m. is_of_kind which m ≡ true → Misses (terms_of_atom m.atom) u) (l ∷ ls)
    by true e k ih = (λ of. here k, ih (later k))
    by false e k ih = (λ of. absurd (true≢false (sym of ∙ e)), ih k)

-- a term of the list is not one term with one that the list misses
misses_at : (ts : List Term) (t u : Term) → is_among ts t ≡ true → Misses ts u → (is_normal u ≡ false) ⊎ (one_term t u ≡ false)
misses_at ts t u a (inl n) = inl n
misses_at [] t u a (inr n) = absurd (true≢false (sym a))
misses_at (s ∷ ss) t u a (inr n) = elim (or_cases (term_eq t s) (is_among ss t) a) [
  | inl e ↦ inr (ap (λ x. one_term x u) (term_eq_is t s e) ∙ term_eq_turned (canonical s) (canonical u) ∙ or_not_left (one_term u s) (has_term ss u) n)
  | inr b ↦ misses_at ss t u b (inr (or_not_right (one_term u s) (has_term ss u) n))
]

one_misses : (n : ℤ) (t u : Term) → (is_normal u ≡ false) ⊎ (one_term t u ≡ false) → coefficient (normal_summands (times n t ∷ [])) u ≡ pos 0
one_misses n t u (inl k) = normal_none (times n t ∷ []) u (inl k)
one_misses n t u (inr k) = normal_none (times n t ∷ []) u (inr (ap (λ b. b || false) k))

two_miss : (n m : ℤ) (s t u : Term) → (is_normal u ≡ false) ⊎ (one_term s u ≡ false) → (is_normal u ≡ false) ⊎ (one_term t u ≡ false)
    → coefficient (normal_summands (times n s ∷ (times m t ∷ []))) u ≡ pos 0
two_miss n m s t u (inl k) h = normal_none (times n s ∷ (times m t ∷ [])) u (inl k)
two_miss n m s t u (inr k) (inl h) = normal_none (times n s ∷ (times m t ∷ [])) u (inl h)
two_miss n m s t u (inr k) (inr h) = normal_none (times n s ∷ (times m t ∷ [])) u (inr (ap₂ {A = Bool} {B = Bool} (λ a b. a || (b || false)) k h))

-- a system has no terms but right and those of its literals
pub system_misses : (which : Kind) (facts : List Lit) (wanted : Option Lit) (u : Term) → Misses (Right ∷ terms_of_system which facts wanted) u → Each (HasNot u) (system which facts wanted)
system_misses which facts wanted u h =
    each_system (HasNot u) which facts wanted
    (each_literal (HasNot u) (λ l. is_of_kind which l ≡ true → Misses (terms_of_atom l.atom) u) which Fact facts (each_misses which facts u (of_facts h)) (λ l r k of e. literal_misses l r u e (k of)))
    (each_literal (HasNot u) (λ l. is_of_kind which l ≡ true → Misses (terms_of_atom l.atom) u) which (λ l. Goal) (against_goal wanted) (each_misses which (against_goal wanted) u (of_goal h))
    (λ l r k of e. literal_misses l r u e (k of)))
    of_term
    (of_which which)
  where
    known : List Term
    known = terms_of_lits (of_kind which facts)

    negated : List Term
    negated = terms_of_lits (of_kind which (against_goal wanted))

    of_facts : Misses (Right ∷ (known ++ negated)) u → Misses known u
    of_facts (inl n) = inl n
    of_facts (inr n) = inr (none_left known negated u (or_not_right (one_term u Right) (has_term (known ++ negated) u) n))

    of_goal : Misses (Right ∷ (known ++ negated)) u → Misses negated u
    of_goal (inl n) = inl n
    of_goal (inr n) = inr (none_right known negated u (or_not_right (one_term u Right) (has_term (known ++ negated) u) n))

    of_term : (t : Term) → is_among (terms_of_system which facts wanted) t ≡ true → Each (HasNot u) (rows_of_term facts t)
    of_term (Seg a b) k = by (are_apart facts a b)
      where
        by : (c : Bool) → Each (HasNot u) (cond c (named_row (Pos (Seg a b)) (pos_row (Seg a b)) ∷ []) [])
        by true = (one_misses (pos 1) (Seg a b) u (misses_at (Right ∷ terms_of_system which facts wanted) (Seg a b) u (among_rest Right (terms_of_system which facts wanted) (Seg a b) k) h), tt)
        by false = tt
    of_term (Ang a b c) k = (
      two_miss (pos 2) (negsuc 0) Right (Ang a b c) u
          (misses_at (Right ∷ terms_of_system which facts wanted) Right u (among_first Right (terms_of_system which facts wanted)) h)
          (misses_at (Right ∷ terms_of_system which facts wanted) (Ang a b c) u (among_rest Right (terms_of_system which facts wanted) (Ang a b c) k) h),
      tt,
    )
    of_term (Area a b c) k = tt
    of_term Right k = tt

    of_which : (k : Kind) → Each (HasNot u) (rows_of_kind k)
    of_which Segment = tt
    of_which Angle = (one_misses (pos 1) Right u (misses_at (Right ∷ terms_of_system which facts wanted) Right u (among_first Right (terms_of_system which facts wanted)) h), tt)
    of_which AreaKind = tt
