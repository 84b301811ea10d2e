-- What is suggested theorem by theorem: the first applications, in order.
use Rattle.std.proofs.Common.{◌≡◌, ◌⊎◌, ℕ, zero, suc, ◌+◌, ◌-◌, ◌<◌, ◌≤◌, List, [], ◌∷◌, ◌++◌, map, length, refl, sym, ap, ap₂, ◌∙◌, subst, arith, Bool, true, false, true≢false, eqb, ltb, ◌&&◌, inl, inr, Some, length-append}
use Rattle.std.specs.Prelude.{Contains, slice_get}
use Rattle.std.specs.List.{list_all}
use Rattle.std.proofs.lemmas.Bool.{and_from, or_left, or_right, lt-ltb, cases_lt}
use Rattle.std.proofs.lemmas.Grind.{flat_map-append}
use Rattle.std.proofs.lemmas.List.{length-map, map-append}
use Rattle.std.proofs.lemmas.List.Elements.{Contains-append_left, Contains-append_right, Contains-append_cases}
use Rattle.std.proofs.lemmas.Option.{none-some, same_Some, slice_get_within}
use Rattle.e_literal.specs.declared.object.Obj.{Obj}
use Rattle.e_literal.specs.declared.object.Scope.{Scope}
use Rattle.e_literal.specs.declared.literal.Lit.{Lit}
use Rattle.e_literal.specs.Use.{StatementView, is_statement}
use Rattle.e_literal.proofs.Booleans.{and_left, and_right, all_both, eqb_self}
use Rattle.e_theorem.specs.Choice.{is_below, IsAllowedChoice}
use Rattle.e_theorem.specs.Statements.{as_view}
use Rattle.e_deriv.specs.declared.names.Names.{Names}
use Rattle.e_deriv.specs.Fitting.{is_small_statement}
use Rattle.e_licence.specs.ChoicesInOrder.{is_ascending, is_above}
use Rattle.e_names.specs.TitledStatements.{TitledStatement, titles, stated_by, theorem_of}
use Rattle.e_book.specs.Canonical.{text_of}
use Rattle.e_suggest.specs.Suggestions.{AreFirstChoices, SomeArgsAreTooWide, blanks}
use Rattle.e_commands.specs.declared.suggestions.Listed.{Listed}
use Rattle.e_commands.specs.declared.suggestions.Listed.TheVariants as listed
use Rattle.e_commands.specs.SuggesterAnswers.{apply_line, line_of, Application, MayApply, precedes, is_in_order, is_later}
use Rattle.e_commands.specs.inner.Suggesting.{apply_lines, AreChosen, IsListedOne, SomeIsTooWide, IsListed, AreListedTo}

-- ---- elements of lists

pub contains_none : {X : Type 0} (x : X) → Contains [] x → ⊥
contains_none x h = omega (arith, h.1)

pub contains_first : {X : Type 0} (c : X) (cs : List X) → Contains (c ∷ cs) c
contains_first c cs = (0, omega arith, refl)

pub contains_more : {X : Type 0} (x c : X) (cs : List X) → Contains cs x → Contains (c ∷ cs) x
contains_more x c cs h = (suc h.0, omega (arith, h.1), h.2)

pub contains_cases : {X : Type 0} (x c : X) (cs : List X) → Contains (c ∷ cs) x → (c ≡ x) ⊎ Contains cs x
contains_cases x c cs (zero, less, is) = inl is
contains_cases x c cs (suc k, less, is) = inr (k, omega (arith, less), is)

contains_map : {X Y : Type 0} (f : X → Y) (xs : List X) (x : X) → Contains xs x → Contains (map f xs) (f x)
contains_map f [] x h = absurd (contains_none x h)
contains_map f (y ∷ ys) x h =
    elim (contains_cases x y ys h) [
      | inl is ↦ (0, omega arith, ap f is)
      | inr later ↦ contains_more (f x) (f y) (map f ys) (contains_map f ys x later)
    ]

of_map : {X Y : Type 0} (f : X → Y) (xs : List X) (z : Y) → Contains (map f xs) z → (x : X) × Contains xs x × (f x ≡ z)
of_map f [] z h = absurd (contains_none z h)
of_map f (x ∷ xs) z h =
    elim (contains_cases z (f x) (map f xs) h) [
      | inl is ↦ (x, contains_first x xs, is)
      | inr later ↦ let there = of_map f xs z later in (there.0, contains_more there.0 x xs there.1, there.2)
    ]

all_of : {X : Type 0} (p : X → Bool) (xs : List X) → ((x : X) → Contains xs x → p x ≡ true) → list_all p xs ≡ true
all_of p [] h = refl
all_of p (x ∷ xs) h = and_from (p x) (list_all p xs) (h x (contains_first x xs)) (all_of p xs (λ y there. h y (contains_more y x xs there)))

-- ---- the order of applications

-- the theorem at a place, with arguments
abbrev own : ℕ → TitledStatement → List Obj → Application
own k h args = record { place = k; theorem = h; args = args }

earlier_precedes : (a b : Application) → a.place < b.place → precedes a b ≡ true
earlier_precedes a b less = or_left (ltb a.place b.place) _ (lt-ltb a.place b.place less)

below_precedes : (k : ℕ) (h : TitledStatement) (c d : List Obj) → is_below c d ≡ true → precedes (own k h c) (own k h d) ≡ true
below_precedes k h c d less = or_right (ltb k k) (eqb k k && is_below c d) (and_from (eqb k k) (is_below c d) (eqb_self k) less)

own_before : (k : ℕ) (h : TitledStatement) (c : List Obj) (cs : List (List Obj)) → list_all (is_below c) cs ≡ true → list_all (precedes (own k h c)) (map (own k h) cs) ≡ true
own_before k h c [] e = refl
own_before k h c (d ∷ cs) e =
    and_from (precedes (own k h c) (own k h d)) _ (below_precedes k h c d (and_left (is_below c d) (list_all (is_below c) cs) e)) (own_before k h c cs (and_right (is_below c d) (list_all (is_below c) cs) e))

own_later : (k : ℕ) (h : TitledStatement) (c : List Obj) (cs : List (List Obj)) → is_above cs c ≡ true → is_later (map (own k h) cs) (own k h c) ≡ true
own_later k h c [] e = refl
own_later k h c (d ∷ cs) e =
    and_from (precedes (own k h d) (own k h c)) _ (below_precedes k h d c (and_left (is_below d c) (is_above cs c) e)) (own_later k h c cs (and_right (is_below d c) (is_above cs c) e))

own_in_order : (k : ℕ) (h : TitledStatement) (cs : List (List Obj)) → is_ascending cs ≡ true → is_in_order (map (own k h) cs) ≡ true
own_in_order k h [] e = refl
own_in_order k h (c ∷ cs) e =
    and_from (list_all (precedes (own k h c)) (map (own k h) cs)) _ (own_before k h c cs (and_left (list_all (is_below c) cs) (is_ascending cs) e)) (own_in_order k h cs (and_right (list_all (is_below c) cs) (is_ascending cs) e))

both_in_order : (xs ys : List Application) → is_in_order xs ≡ true → is_in_order ys ≡ true → ((x y : Application) → Contains xs x → Contains ys y → precedes x y ≡ true) → is_in_order (xs ++ ys) ≡ true
both_in_order [] ys e f less = f
both_in_order (x ∷ xs) ys e f less =
    and_from (list_all (precedes x) (xs ++ ys)) _
    (all_both (precedes x) xs ys (and_left (list_all (precedes x) xs) (is_in_order xs) e) (all_of (precedes x) ys (λ y there. less x y (contains_first x xs) there)))
    (both_in_order xs ys (and_right (list_all (precedes x) xs) (is_in_order xs) e) f (λ z y here there. less z y (contains_more z x xs here) there))

-- ---- the lines of applications

text_both : (xs ys : List (List ℕ)) → text_of (xs ++ ys) ≡ text_of xs ++ text_of ys
text_both xs ys = flat_map-append (λ (line : List ℕ). line ++ 10 ∷ []) xs ys

own_lines : (names : Names) (k : ℕ) (h : TitledStatement) (cs : List (List Obj)) → map (line_of names) (map (own k h) cs) ≡ apply_lines h.title names cs
own_lines names k h [] = refl
own_lines names k h (c ∷ cs) = ap (λ ls. apply_line h.title names c ∷ ls) (own_lines names k h cs)

lines_both : (names : Names) (k : ℕ) (h : TitledStatement) (xs : List Application) (cs : List (List Obj)) → text_of (map (line_of names) (xs ++ map (own k h) cs)) ≡ text_of (map (line_of names) xs) ++ text_of (apply_lines h.title names cs)
lines_both names k h xs cs =
    ap text_of (map-append (line_of names) xs (map (own k h) cs)) ∙ text_both (map (line_of names) xs) (map (line_of names) (map (own k h) cs))
    ∙ ap (λ (ls : List (List ℕ)). text_of (map (line_of names) xs) ++ text_of ls) (own_lines names k h cs)

-- ---- one theorem

pub record IsHeadedAt (known : List TitledStatement) (k : ℕ) (title : List ℕ) (t : StatementView) : Type 0 where
  pub headed : TitledStatement
  pub here : Some headed ≡ slice_get known k
  pub titled : headed.title ≡ title
  pub states : as_view headed.statement ≡ t
  pub is_one : Contains known headed

pub headed_at : (known : List TitledStatement) (k : ℕ) (title : List ℕ) (t : StatementView) → slice_get (titles known) k ≡ Some title → t ≡ theorem_of known k → IsHeadedAt known k title t
headed_at [] k title t e f = absurd (none-some title e)
headed_at (h ∷ hs) zero title t e f = record { headed = h; here = refl; titled = same_Some h.title title e; states = sym f; is_one = (0, omega arith, refl) }
headed_at (h ∷ hs) (suc k) title t e f =
    let r = headed_at hs k title t e f in
    record { headed = r.headed; here = r.here; titled = r.titled; states = r.states; is_one = (suc r.is_one.0, omega (arith, r.is_one.1), r.is_one.2) }

pub statement_at : (known : List TitledStatement) (k : ℕ) (title : List ℕ) (t : StatementView) → list_all is_small_statement (stated_by known) ≡ true → slice_get (titles known) k ≡ Some title → t ≡ theorem_of known k → is_statement t ≡ true
statement_at [] k title t small e f = absurd (none-some title e)
statement_at (h ∷ hs) zero title t small e f =
    ap is_statement f ∙ and_left (is_statement (as_view h.statement)) _ (and_left (is_small_statement (as_view h.statement)) _ small)
statement_at (h ∷ hs) (suc k) title t small e f = statement_at hs k title t (and_right (is_small_statement (as_view h.statement)) _ small) e f

-- what may be applied at a place is the theorem there, at a choice for it
record IsOwn (scope : Scope) (facts : List Lit) (k : ℕ) (h : TitledStatement) (a : Application) : Type 0 where
  few : length h.statement.declared ≤ 6
  good : IsAllowedChoice (as_view h.statement) scope facts (blanks (as_view h.statement)) a.args
  is : own k h a.args ≡ a

is_own : (scope : Scope) (facts : List Lit) (known : List TitledStatement) (k : ℕ) (h : TitledStatement) (a : Application) → Some h ≡ slice_get known k → MayApply scope facts known a → a.place ≡ k → IsOwn scope facts k h a
is_own scope facts known k h a here m there =
    let same : a.theorem ≡ h = same_Some a.theorem h (m.is_known ∙ ap (slice_get known) there ∙ sym here) in
    record {
      few = subst (λ (x : TitledStatement). length x.statement.declared ≤ 6) same m.is_asked_for;
      good = subst (λ (x : TitledStatement). IsAllowedChoice (as_view x.statement) scope facts (blanks (as_view x.statement)) a.args) same m.good;
      is = ap₂ (λ (p : ℕ) (x : TitledStatement). own p x a.args) (sym there) (sym same);
    }

choices_good : (scope : Scope) (facts : List Lit) (known : List TitledStatement) (k : ℕ) (h : TitledStatement) (left : ℕ) (cs : List (List Obj)) → Some h ≡ slice_get known k → AreChosen (as_view h.statement) scope facts left cs false
    → (c : List Obj) → Contains cs c → MayApply scope facts known (own k h c)
choices_good scope facts known k h left cs here (inl (many, none, complete)) c there = absurd (contains_none c (subst (λ (xs : List (List Obj)). Contains xs c) none there))
choices_good scope facts known k h left cs here (inr (few, first)) c there = record { is_known = here; is_asked_for = few; good = first.good c there }

choices_ascend : (t : StatementView) (scope : Scope) (facts : List Lit) (left : ℕ) (cs : List (List Obj)) → AreChosen t scope facts left cs false → is_ascending cs ≡ true
choices_ascend t scope facts left cs (inl (many, none, complete)) = ap is_ascending none
choices_ascend t scope facts left cs (inr (few, first)) = first.ascending

choices_all : (scope : Scope) (facts : List Lit) (k : ℕ) (h : TitledStatement) (left : ℕ) (cs : List (List Obj)) (a : Application) → AreChosen (as_view h.statement) scope facts left cs false → IsOwn scope facts k h a → Contains (map (own k h) cs) a
choices_all scope facts k h left cs a (inl (many, none, complete)) o = absurd (let few = o.few in omega (arith, many, few))
choices_all scope facts k h left cs a (inr (few, first)) o =
    elim (first.none_missing a.args o.good) [
      | inl there ↦ subst (λ (b : Application). Contains (map (own k h) cs) b) o.is (contains_map (own k h) cs a.args there)
      | inr both ↦ absurd (true≢false (sym both.0))
    ]

-- ---- theorem after theorem

pub listed_start : (names : Names) (scope : Scope) (facts : List Lit) (known : List TitledStatement) (out : List ℕ) → out ≡ [] → AreListedTo names scope facts known 0 out 0
listed_start names scope facts known out none =
    record { applications = []; bytes = none; counted = refl; few = omega arith; good = λ a there. absurd (contains_none a there); in_order = refl; all = λ a m less. absurd (omega (arith, less)) }

-- to those before a place these of the place are added
added_good : (scope : Scope) (facts : List Lit) (known : List TitledStatement) (k : ℕ) (h : TitledStatement) (xs : List Application) (cs : List (List Obj)) → ((a : Application) → Contains xs a → MayApply scope facts known a × (a.place < k))
    → ((c : List Obj) → Contains cs c → MayApply scope facts known (own k h c)) → (a : Application) → Contains (xs ++ map (own k h) cs) a → MayApply scope facts known a × (a.place < k + 1)
added_good scope facts known k h xs cs good goods a there =
    elim (Contains-append_cases xs (map (own k h) cs) a there) [
      | inl old ↦ let g = good a old in (g.0, omega (arith, g.1))
      | inr new ↦ let c = of_map (own k h) cs a new in subst (λ (b : Application). MayApply scope facts known b × (b.place < k + 1)) c.2 (goods c.0 c.1, omega arith)
    ]

added_in_order : (scope : Scope) (facts : List Lit) (known : List TitledStatement) (k : ℕ) (h : TitledStatement) (xs : List Application) (cs : List (List Obj)) → ((a : Application) → Contains xs a → MayApply scope facts known a × (a.place < k))
    → is_in_order xs ≡ true → is_ascending cs ≡ true → is_in_order (xs ++ map (own k h) cs) ≡ true
added_in_order scope facts known k h xs cs good e f =
    both_in_order xs (map (own k h) cs) e (own_in_order k h cs f)
    (λ x y here there. let c = of_map (own k h) cs y there in subst (λ (b : Application). precedes x b ≡ true) c.2 (earlier_precedes x (own k h c.0) (good x here).1))

pub listed_more : (names : Names) (scope : Scope) (facts : List Lit) (known : List TitledStatement) (k : ℕ) (title : List ℕ) (t : StatementView) (old new : List ℕ) (count n : ℕ) (l : Listed) → IsHeadedAt known k title t
    → AreListedTo names scope facts known k old count → l ≡ listed.Found n false → IsListedOne names scope facts title t (1000 - count) old new l → AreListedTo names scope facts known (k + 1) new (count + n)
listed_more names scope facts known k title t old new count n l at s is one = more (subst (λ (x : Listed). IsListedOne names scope facts title t (1000 - count) old new x) is one)
  where
    h : TitledStatement
    h = at.headed

    more : IsListedOne names scope facts title t (1000 - count) old new (listed.Found n false) → AreListedTo names scope facts known (k + 1) new (count + n)
    more (cs, bytes, many, few, all) =
        let own_all : AreChosen (as_view h.statement) scope facts (1000 - count) cs false = subst (λ (u : StatementView). AreChosen u scope facts (1000 - count) cs false) (sym at.states) all in
        record {
          applications = s.applications ++ map (own k h) cs;
          bytes = bytes ∙ ap₂ (λ (x : List ℕ) (p : List ℕ). x ++ text_of (apply_lines p names cs)) s.bytes (sym at.titled) ∙ sym (lines_both names k h s.applications cs);
          counted = omega (arith, s.counted, many, length-append s.applications (map (own k h) cs), length-map cs (own k h));
          few = omega (arith, s.few, few);
          good = added_good scope facts known k h s.applications cs s.good (choices_good scope facts known k h (1000 - count) cs at.here own_all);
          in_order = added_in_order scope facts known k h s.applications cs s.good s.in_order (choices_ascend (as_view h.statement) scope facts (1000 - count) cs own_all);
          all = λ a m less.
              elim (cases_lt a.place k) [
                | inl before ↦ Contains-append_left s.applications (map (own k h) cs) a (s.all a m before)
                | inr rest ↦
                    Contains-append_right s.applications (map (own k h) cs) a
                    (choices_all scope facts k h (1000 - count) cs a own_all (is_own scope facts known k h a at.here m (omega (arith, less, rest))))
              ];
        }

pub listed_full : (names : Names) (scope : Scope) (facts : List Lit) (known : List TitledStatement) (k : ℕ) (title : List ℕ) (t : StatementView) (old new : List ℕ) (count n : ℕ) (l : Listed) → IsHeadedAt known k title t
    → AreListedTo names scope facts known k old count → l ≡ listed.Found n true → IsListedOne names scope facts title t (1000 - count) old new l → IsListed names scope facts known new (listed.Found (count + n) true)
listed_full names scope facts known k title t old new count n l at s is one = full (subst (λ (x : Listed). IsListedOne names scope facts title t (1000 - count) old new x) is one)
  where
    h : TitledStatement
    h = at.headed

    full : IsListedOne names scope facts title t (1000 - count) old new (listed.Found n true) → IsListed names scope facts known new (listed.Found (count + n) true)
    full (cs, bytes, many, few, inl (none, nothing, complete)) = absurd (true≢false complete)
    full (cs, bytes, many, few, inr (fits, some)) =
        let first : AreFirstChoices (as_view h.statement) scope facts (1000 - count) cs true = subst (λ (u : StatementView). AreFirstChoices u scope facts (1000 - count) cs true) (sym at.states) some in
        let asked : length h.statement.declared ≤ 6 = subst (λ (u : StatementView). length u.declared ≤ 6) (sym at.states) fits in
        let mine = map (own k h) cs in
        let long = length-append s.applications mine in
        let same = length-map cs (own k h) in
        let good = added_good scope facts known k h s.applications cs s.good (λ c there. record { is_known = at.here; is_asked_for = asked; good = first.good c there }) in
        -- after all of these comes what is above the choices
        let later : (c : List Obj) → is_above cs c ≡ true → is_later (s.applications ++ mine) (own k h c) ≡ true =
        λ c above. all_both (λ b. precedes b (own k h c)) s.applications mine (all_of (λ b. precedes b (own k h c)) s.applications (λ b there. earlier_precedes b (own k h c) (s.good b there).1)) (own_later k h c cs above) in
        let next = first.next refl in
        record {
          applications = s.applications ++ mine;
          bytes = bytes ∙ ap₂ (λ (x : List ℕ) (p : List ℕ). x ++ text_of (apply_lines p names cs)) s.bytes (sym at.titled) ∙ sym (lines_both names k h s.applications cs);
          count = omega (arith, s.counted, many, long, same);
          first = record {
            good = λ a there. (good a there).0;
            in_order = added_in_order scope facts known k h s.applications cs s.good s.in_order first.ascending;
            few = omega (arith, s.counted, s.few, first.few, long, same);
            none_missing = λ a m.
                elim (cases_lt a.place k) [
                  | inl before ↦ inl (Contains-append_left s.applications mine a (s.all a m before))
                  | inr rest ↦
                      elim (cases_lt k a.place) [
                        | inl after ↦ inr (refl, all_of (λ b. precedes b a) (s.applications ++ mine) (λ b there. earlier_precedes b a (let g = (good b there).1 in omega (arith, g, after))))
                        | inr here ↦
                            let o = is_own scope facts known k h a at.here m (omega (arith, rest, here)) in
                            elim (first.none_missing a.args o.good) [
                              | inl there ↦ inl (Contains-append_right s.applications mine a (subst (λ (b : Application). Contains mine b) o.is (contains_map (own k h) cs a.args there)))
                              | inr both ↦ inr (refl, subst (λ (b : Application). is_later (s.applications ++ mine) b ≡ true) o.is (later a.args both.1))
                            ]
                      ]
                ];
            others = λ yes. (omega (arith, s.counted, s.few, next.0, long, same), (own k h next.1.args, record { is_known = at.here; is_asked_for = asked; good = next.1.good }, later next.1.args next.1.above));
          };
        }

pub listed_wide : (names : Names) (scope : Scope) (facts : List Lit) (known : List TitledStatement) (k : ℕ) (title : List ℕ) (t : StatementView) (left w : ℕ) (old new : List ℕ) (l : Listed) → IsHeadedAt known k title t → l ≡ listed.TooWide w
    → IsListedOne names scope facts title t left old new l → SomeIsTooWide scope facts known w
listed_wide names scope facts known k title t left w old new l at is one =
    let wide = subst (λ (x : Listed). IsListedOne names scope facts title t left old new x) is one in
    record {
      theorem = at.headed;
      is_one = at.is_one;
      is_asked_for = subst (λ (u : StatementView). length u.declared ≤ 6) (sym at.states) wide.0;
      too_wide = subst (λ (u : StatementView). SomeArgsAreTooWide u scope facts w) (sym at.states) wide.1;
    }

pub listed_all : (names : Names) (scope : Scope) (facts : List Lit) (known : List TitledStatement) (k : ℕ) (out : List ℕ) (count : ℕ) → length known ≤ k → AreListedTo names scope facts known k out count → IsListed names scope facts known out (listed.Found count false)
listed_all names scope facts known k out count past s =
    record {
      applications = s.applications;
      bytes = s.bytes;
      count = s.counted;
      first = record {
        good = λ a there. (s.good a there).0;
        in_order = s.in_order;
        few = omega (arith, s.counted, s.few);
        none_missing = λ a m. inl (s.all a m (let less = slice_get_within known a.place a.theorem (sym m.is_known) in omega (arith, less, past)));
        others = λ yes. absurd (true≢false (sym yes));
      };
    }
