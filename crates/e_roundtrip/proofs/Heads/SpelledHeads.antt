-- The head of a theorem is spelled by the lines that were read of it.
use Rattle.std.proofs.Common.{◌≡◌, ℕ, ◌<◌, false, List, [], ◌∷◌, ◌++◌, length, map, refl, sym, ap, ◌∙◌, append_assoc}
use Rattle.std.specs.Prelude.{replicate}
use Rattle.std.proofs.lemmas.List.{append-nil, map-append}
use Rattle.e_literal.specs.declared.object.Sort.{Sort}
use Rattle.e_literal.specs.declared.literal.Lit.{Lit}
use Rattle.e_literal.specs.Literal.{count_of}
use Rattle.e_literal.specs.declared.object.Scope.{Scope}
use Rattle.e_literal.specs.Scopes.{nothing, with_sorts, next_objects}
use Rattle.e_literal.proofs.GrownScopes.{grown-append}
use Rattle.e_deriv.specs.declared.names.Names.{Names}
use Rattle.e_deriv.specs.Naming.{names_of_sort, with_names}
use Rattle.e_line.specs.declared.raw_line.RawLine.{RawLine}
use Rattle.e_line.specs.declared.raw_line.RawLine.TheVariants as rawlines
use Rattle.e_names.specs.Scope.{scope_of_names}
use Rattle.e_names.specs.Canonical.{given_raw_line, show_raw_line}
use Rattle.e_book.specs.Canonical.{group, sort_groups, declare_raw_line, made_raw_line}
use Rattle.e_read.specs.Owing.{ends_with}
use Rattle.e_roundtrip.proofs.OneLine.NamesSpelled.{Keeps}
use Rattle.e_roundtrip.proofs.OneLine.Groups.{more_groups, count_is, scope_more, keeps_before, keeps_new}

-- ---- the forms of a head

abbrev declared_part : Names → List Sort → List RawLine
declared_part ns declared = map declare_raw_line (sort_groups ns (next_objects nothing declared))

abbrev given_part : Names → List Lit → List RawLine
given_part ns ls = map (given_raw_line ns) ls

abbrev made_part : Names → List Sort → List Sort → List RawLine
made_part ns declared made = map made_raw_line (sort_groups ns (next_objects (with_sorts nothing declared) made))

abbrev shown_part : Names → List Lit → List RawLine
shown_part ns ls = map (show_raw_line ns) ls

-- up to the word proof
abbrev pub head_parts : Names → List ℕ → List Sort → List Lit → List Sort → List Lit → List RawLine
head_parts ns title declared given made shown =
    rawlines.Theorem title ∷ ((declared_part ns declared ++ given_part ns given) ++ (made_part ns declared made ++ shown_part ns shown))

-- the lines that came are those of the head so far, whatever names are added
pub record HeadSaid (ns : Names) (title : List ℕ) (declared : List Sort) (given : List Lit) (made : List Sort) (shown : List Lit) (said : List RawLine) : Type 0 where
  pub scope : scope_of_names ns ≡ with_sorts (with_sorts nothing declared) made
  pub forms : (more : Names) → Keeps ns more → head_parts more title declared given made shown ≡ said

-- ---- one more line

at_declared : (t x : RawLine) (a : List RawLine) → t ∷ (((a ++ x ∷ []) ++ []) ++ []) ≡ (t ∷ ((a ++ []) ++ [])) ++ x ∷ []
at_declared t x a =
    ap (λ (l : List RawLine). t ∷ l) (append-nil ((a ++ x ∷ []) ++ []) ∙ append-nil (a ++ x ∷ []) ∙ ap (λ (l : List RawLine). l ++ x ∷ []) (sym (append-nil (a ++ []) ∙ append-nil a)))

at_given : (t x : RawLine) (a b : List RawLine) → t ∷ ((a ++ (b ++ x ∷ [])) ++ []) ≡ (t ∷ ((a ++ b) ++ [])) ++ x ∷ []
at_given t x a b = ap (λ (l : List RawLine). t ∷ l) (append-nil (a ++ (b ++ x ∷ [])) ∙ sym (append_assoc a b (x ∷ [])) ∙ ap (λ (l : List RawLine). l ++ x ∷ []) (sym (append-nil (a ++ b))))

at_made : (t x : RawLine) (a b : List RawLine) → t ∷ (a ++ ((b ++ x ∷ []) ++ [])) ≡ (t ∷ (a ++ (b ++ []))) ++ x ∷ []
at_made t x a b =
    ap (λ (l : List RawLine). t ∷ (a ++ l)) (append-nil (b ++ x ∷ []) ∙ ap (λ (l : List RawLine). l ++ x ∷ []) (sym (append-nil b))) ∙ ap (λ (l : List RawLine). t ∷ l) (sym (append_assoc a (b ++ []) (x ∷ [])))

at_shown : (t x : RawLine) (a b c : List RawLine) → t ∷ (a ++ (b ++ (c ++ x ∷ []))) ≡ (t ∷ (a ++ (b ++ c))) ++ x ∷ []
at_shown t x a b c = ap (λ (l : List RawLine). t ∷ l) (ap (λ (l : List RawLine). a ++ l) (sym (append_assoc b c (x ∷ []))) ∙ sym (append_assoc a (b ++ c) (x ∷ [])))

-- where nothing stands after the declared objects
bare_head : (ns : Names) (title : List ℕ) (declared : List Sort) (given : List Lit) (made : List Sort) (shown : List Lit) → given ≡ [] → made ≡ [] → shown ≡ []
    → head_parts ns title declared given made shown ≡ head_parts ns title declared [] [] []
bare_head ns title declared given made shown g m s = rw (g, m, s) refl

no_goal : (ns : Names) (title : List ℕ) (declared : List Sort) (given : List Lit) (made : List Sort) (shown : List Lit) → made ≡ [] → shown ≡ []
    → head_parts ns title declared given made shown ≡ head_parts ns title declared given [] []
no_goal ns title declared given made shown m s = rw (m, s) refl

none_shown : (ns : Names) (title : List ℕ) (declared : List Sort) (given : List Lit) (made : List Sort) (shown : List Lit) → shown ≡ []
    → head_parts ns title declared given made shown ≡ head_parts ns title declared given made []
none_shown ns title declared given made shown s = rw s refl

-- the first line
pub title_said : (ns : Names) (title : List ℕ) → scope_of_names ns ≡ nothing → HeadSaid ns title [] [] [] [] (rawlines.Theorem title ∷ [])
title_said ns title e = record { scope = e; forms = λ more k. refl }

-- how many names there are of a sort
count_said : (ns : Names) (s : Scope) (sort : Sort) → scope_of_names ns ≡ s → count_of s sort ≡ length (names_of_sort ns sort)
count_said ns s sort e = ap (λ (x : Scope). count_of x sort) (sym e) ∙ count_is ns sort

-- declared objects
pub declared_said : (ns : Names) (title : List ℕ) (declared : List Sort) (given : List Lit) (made : List Sort) (shown : List Lit) (said : List RawLine) (sort : Sort) (new : List (List ℕ))
    → given ≡ [] → made ≡ [] → shown ≡ [] → ends_with declared sort ≡ false → 0 < length new → HeadSaid ns title declared given made shown said
    → HeadSaid (with_names ns sort (names_of_sort ns sort ++ new)) title (declared ++ replicate (length new) sort) given made shown (said ++ rawlines.Declare sort new ∷ [])
declared_said ns title declared given made shown said sort new g m s h lt a =
    let xs = replicate (length new) sort in
    let now = with_names ns sort (names_of_sort ns sort ++ new) in
    let scope : scope_of_names ns ≡ with_sorts nothing declared = a.scope ∙ ap (with_sorts (with_sorts nothing declared)) m in
    let line : (more : Names) → Keeps now more → head_parts more title (declared ++ xs) given made shown ≡ said ++ rawlines.Declare sort new ∷ [] = λ more k.
    let part : declared_part more (declared ++ xs) ≡ declared_part more declared ++ rawlines.Declare sort new ∷ [] =
    ap (map declare_raw_line) (more_groups more nothing declared sort (names_of_sort ns sort) new h lt (count_said ns (with_sorts nothing declared) sort scope) (keeps_new ns more sort new k)) ∙ map-append declare_raw_line (sort_groups more (next_objects nothing declared)) (group sort new ∷ []) in
    bare_head more title (declared ++ xs) given made shown g m s ∙ ap (λ (l : List RawLine). rawlines.Theorem title ∷ ((l ++ []) ++ [])) part ∙ at_declared (rawlines.Theorem title) (rawlines.Declare sort new) (declared_part more declared)
    ∙ ap (λ (l : List RawLine). l ++ rawlines.Declare sort new ∷ []) (sym (bare_head more title declared given made shown g m s) ∙ a.forms more (keeps_before ns more sort new k)) in
    record {
      scope = scope_more ns sort new ∙ ap (λ (x : Scope). with_sorts x xs) scope ∙ sym (grown-append nothing declared xs) ∙ ap (with_sorts (with_sorts nothing (declared ++ xs))) (sym m);
      forms = line;
    }

-- a given literal
pub given_said : (ns : Names) (title : List ℕ) (declared : List Sort) (given : List Lit) (made : List Sort) (shown : List Lit) (said : List RawLine) (l : Lit) (line : RawLine)
    → made ≡ [] → shown ≡ [] → ((more : Names) → Keeps ns more → given_raw_line more l ≡ line) → HeadSaid ns title declared given made shown said → HeadSaid ns title declared (given ++ l ∷ []) made shown (said ++ line ∷ [])
given_said ns title declared given made shown said l line m s named a =
    record {
      scope = a.scope;
      forms = λ more k.
          no_goal more title declared (given ++ l ∷ []) made shown m s ∙ ap (λ (x : List RawLine). rawlines.Theorem title ∷ ((declared_part more declared ++ x) ++ [])) (map-append (given_raw_line more) given (l ∷ []))
          ∙ at_given (rawlines.Theorem title) (given_raw_line more l) (declared_part more declared) (given_part more given)
          ∙ ap (λ (x : RawLine). head_parts more title declared given [] [] ++ x ∷ []) (named more k)
          ∙ ap (λ (x : List RawLine). x ++ line ∷ []) (sym (no_goal more title declared given made shown m s) ∙ a.forms more k);
    }

-- made objects
pub made_said : (ns : Names) (title : List ℕ) (declared : List Sort) (given : List Lit) (made : List Sort) (shown : List Lit) (said : List RawLine) (sort : Sort) (new : List (List ℕ))
    → shown ≡ [] → ends_with made sort ≡ false → 0 < length new → HeadSaid ns title declared given made shown said
    → HeadSaid (with_names ns sort (names_of_sort ns sort ++ new)) title declared given (made ++ replicate (length new) sort) shown (said ++ rawlines.Made sort new ∷ [])
made_said ns title declared given made shown said sort new s h lt a =
    let xs = replicate (length new) sort in
    let from = with_sorts nothing declared in
    let now = with_names ns sort (names_of_sort ns sort ++ new) in
    let line : (more : Names) → Keeps now more → head_parts more title declared given (made ++ xs) shown ≡ said ++ rawlines.Made sort new ∷ [] = λ more k.
    let front = declared_part more declared ++ given_part more given in
    let part : made_part more declared (made ++ xs) ≡ made_part more declared made ++ rawlines.Made sort new ∷ [] =
    ap (map made_raw_line) (more_groups more from made sort (names_of_sort ns sort) new h lt (count_said ns (with_sorts from made) sort a.scope) (keeps_new ns more sort new k)) ∙ map-append made_raw_line (sort_groups more (next_objects from made)) (group sort new ∷ []) in
    none_shown more title declared given (made ++ xs) shown s ∙ ap (λ (l : List RawLine). rawlines.Theorem title ∷ (front ++ (l ++ []))) part ∙ at_made (rawlines.Theorem title) (rawlines.Made sort new) front (made_part more declared made)
    ∙ ap (λ (l : List RawLine). l ++ rawlines.Made sort new ∷ []) (sym (none_shown more title declared given made shown s) ∙ a.forms more (keeps_before ns more sort new k)) in
    record {
      scope = scope_more ns sort new ∙ ap (λ (x : Scope). with_sorts x xs) a.scope ∙ sym (grown-append from made xs);
      forms = line;
    }

-- a shown literal
pub shown_said : (ns : Names) (title : List ℕ) (declared : List Sort) (given : List Lit) (made : List Sort) (shown : List Lit) (said : List RawLine) (l : Lit) (line : RawLine)
    → ((more : Names) → Keeps ns more → show_raw_line more l ≡ line) → HeadSaid ns title declared given made shown said → HeadSaid ns title declared given made (shown ++ l ∷ []) (said ++ line ∷ [])
shown_said ns title declared given made shown said l line named a =
    record {
      scope = a.scope;
      forms = λ more k.
          let front = declared_part more declared ++ given_part more given in
          ap (λ (x : List RawLine). rawlines.Theorem title ∷ (front ++ (made_part more declared made ++ x))) (map-append (show_raw_line more) shown (l ∷ []))
          ∙ at_shown (rawlines.Theorem title) (show_raw_line more l) front (made_part more declared made) (shown_part more shown)
          ∙ ap (λ (x : RawLine). head_parts more title declared given made shown ++ x ∷ []) (named more k)
          ∙ ap (λ (x : List RawLine). x ++ line ∷ []) (a.forms more k);
    }
