-- The lines of objects, one object at a time.
use Rattle.std.proofs.Common.{◌≡◌, ℕ, Bool, true, false, List, [], ◌∷◌, ◌++◌, map, refl, sym, ap, ◌∙◌, append_assoc}
use Rattle.std.specs.Prelude.{Some, if◌then◌else◌}
use Rattle.std.specs.List.{flat_map}
use Rattle.e_text.specs.Tokens.{with_spaces}
use Rattle.e_literal.specs.declared.object.Sort.{Sort}
use Rattle.e_literal.specs.declared.object.Obj.{Obj}
use Rattle.e_literal.specs.Scopes.{same_sort}
use Rattle.e_literal.proofs.Sorts.{same_sort_is}
use Rattle.e_deriv.specs.declared.names.Names.{Names}
use Rattle.e_line.specs.declared.raw_line.RawLine.{RawLine}
use Rattle.e_line.specs.Canonical.{line_of}
use Rattle.e_names.specs.Canonical.{name_of_object}
use Rattle.e_book.specs.Canonical.{Group, group, grouped_before, sort_groups, declare_raw_line, made_raw_line, text_of}
use Rattle.e_spell.specs.declared.declarations.Role.{Role}
use Rattle.e_spell.specs.declared.declarations.Role.TheVariants.{Declared, Made}
use Rattle.e_spell.specs.inner.Parts.{role_words, before_name, objects_rest, objects_text}

-- the text of forms
abbrev pub text : List RawLine → List ℕ
text fs = text_of (map line_of fs)

abbrev group_text : Role → Group → List ℕ
group_text role g = role_words role g.sort ++ (with_spaces g.names ++ 10 ∷ [])

abbrev groups_text : Role → List Group → List ℕ
groups_text role gs = flat_map (group_text role) gs

-- what follows the name of an object of this sort
abbrev rest_after : Role → Sort → List Group → List ℕ
rest_after role t [] = 10 ∷ []
rest_after role t (g ∷ gs) = if same_sort t g.sort then with_spaces g.names ++ (10 ∷ groups_text role gs) else 10 ∷ groups_text role (g ∷ gs)

-- an object alone in its group, and one before others of its sort
group_of_one : (words name rest : List ℕ) → (words ++ (32 ∷ (name ++ []) ++ 10 ∷ [])) ++ rest ≡ (words ++ 32 ∷ name) ++ (10 ∷ rest)
group_of_one words name rest = simp append_assoc

group_of_more : (words name names rest : List ℕ) → (words ++ (32 ∷ (name ++ names) ++ 10 ∷ [])) ++ rest ≡ (words ++ 32 ∷ name) ++ (names ++ (10 ∷ rest))
group_of_more words name names rest = simp append_assoc

-- the first object of a line
before_by : (b : Bool) (role : Role) (u : Sort) (name : List ℕ) (g : Group) (gs : List Group) → same_sort u g.sort ≡ b
    → groups_text role (if b then group g.sort (name ∷ g.names) ∷ gs else group u (name ∷ []) ∷ g ∷ gs)
    ≡ (role_words role u ++ 32 ∷ name) ++ (if b then with_spaces g.names ++ (10 ∷ groups_text role gs) else 10 ∷ groups_text role (g ∷ gs))
before_by true role u name g gs e =
    ap (λ (s : Sort). groups_text role (group s (name ∷ g.names) ∷ gs)) (sym (same_sort_is u g.sort e)) ∙ group_of_more (role_words role u) name (with_spaces g.names) (groups_text role gs)
before_by false role u name g gs e = group_of_one (role_words role u) name (groups_text role (g ∷ gs))

before : (role : Role) (u : Sort) (name : List ℕ) (gs : List Group) → groups_text role (grouped_before u name gs) ≡ (role_words role u ++ 32 ∷ name) ++ rest_after role u gs
before role u name [] = group_of_one (role_words role u) name []
before role u name (g ∷ gs) = before_by (same_sort u g.sort) role u name g gs refl

either : (b : Bool) (x y other : List ℕ) → x ≡ y → (if b then x else other) ≡ (if b then y else other)
either b x y other e = ap (λ (z : List ℕ). if b then z else other) e

cut : (b : Bool) (w name rest : List ℕ) → ((if b then [] else 10 ∷ w) ++ 32 ∷ name) ++ rest ≡ (if b then 32 ∷ (name ++ rest) else 10 ∷ ((w ++ 32 ∷ name) ++ rest))
cut true w name rest = refl
cut false w name rest = refl

-- the group of an object, and what stands in it after the object
record First (role : Role) (u : Sort) (name : List ℕ) (gs : List Group) : Type 0 where
  names : List (List ℕ)
  rest : List Group
  is : grouped_before u name gs ≡ group u (name ∷ names) ∷ rest
  after : rest_after role u gs ≡ with_spaces names ++ (10 ∷ groups_text role rest)

first_by : (b : Bool) (role : Role) (u : Sort) (name : List ℕ) (g : Group) (gs : List Group) → same_sort u g.sort ≡ b → First role u name (g ∷ gs)
first_by true role u name g gs e = record {
  names = g.names;
  rest = gs;
  is = rw e (ap (λ (s : Sort). group s (name ∷ g.names) ∷ gs) (sym (same_sort_is u g.sort e)));
  after = rw e refl;
}
first_by false role u name g gs e = record { names = []; rest = g ∷ gs; is = rw e refl; after = rw e refl }

first : (role : Role) (u : Sort) (name : List ℕ) (gs : List Group) → First role u name gs
first role u name [] = record { names = []; rest = []; is = refl; after = refl }
first role u name (g ∷ gs) = first_by (same_sort u g.sort) role u name g gs refl

-- an object after another one
after : (role : Role) (t u : Sort) (name : List ℕ) (gs : List Group) → rest_after role t (grouped_before u name gs) ≡ (before_name role (Some t) u ++ 32 ∷ name) ++ rest_after role u gs
after role t u name gs =
    let f = first role u name gs in
    let line = groups_text role (group u (name ∷ f.names) ∷ f.rest) in
    let here = 32 ∷ (name ++ rest_after role u gs) in
    let same : 32 ∷ ((name ++ with_spaces f.names) ++ (10 ∷ groups_text role f.rest)) ≡ here = ap (λ (x : List ℕ). 32 ∷ x) (append_assoc name (with_spaces f.names) (10 ∷ groups_text role f.rest) ∙ sym (ap (λ (x : List ℕ). name ++ x) f.after)) in
    let own : line ≡ (role_words role u ++ 32 ∷ name) ++ rest_after role u gs = sym (ap (groups_text role) f.is) ∙ before role u name gs in
    ap (rest_after role t) f.is ∙ either (same_sort t u) (32 ∷ ((name ++ with_spaces f.names) ++ (10 ∷ groups_text role f.rest))) here (10 ∷ line) same
    ∙ ap (λ (x : List ℕ). if same_sort t u then here else 10 ∷ x) own ∙ sym (cut (same_sort t u) (role_words role u) name (rest_after role u gs))

rest_text : (role : Role) (ns : Names) (t : Sort) (os : List Obj) → objects_rest role ns (Some t) os ≡ rest_after role t (sort_groups ns os)
rest_text role ns t [] = refl
rest_text role ns t (o ∷ os) =
    ap (λ (x : List ℕ). (before_name role (Some t) o.sort ++ 32 ∷ name_of_object ns o) ++ x) (rest_text role ns o.sort os) ∙ sym (after role t o.sort (name_of_object ns o) (sort_groups ns os))

groups_of : (role : Role) (ns : Names) (os : List Obj) → objects_text role ns os ≡ groups_text role (sort_groups ns os)
groups_of role ns [] = refl
groups_of role ns (o ∷ os) =
    ap (λ (x : List ℕ). (role_words role o.sort ++ 32 ∷ name_of_object ns o) ++ x) (rest_text role ns o.sort os) ∙ sym (before role o.sort (name_of_object ns o) (sort_groups ns os))

declared_groups : (gs : List Group) → groups_text Declared gs ≡ text (map declare_raw_line gs)
declared_groups [] = refl
declared_groups (g ∷ gs) = ap (λ (x : List ℕ). group_text Declared g ++ x) (declared_groups gs) ∙ ap (λ (x : List ℕ). x ++ text (map declare_raw_line gs)) (sym (append_assoc (role_words Declared g.sort) (with_spaces g.names) (10 ∷ [])))

made_groups : (gs : List Group) → groups_text Made gs ≡ text (map made_raw_line gs)
made_groups [] = refl
made_groups (g ∷ gs) = ap (λ (x : List ℕ). group_text Made g ++ x) (made_groups gs) ∙ ap (λ (x : List ℕ). x ++ text (map made_raw_line gs)) (sym (append_assoc (role_words Made g.sort) (with_spaces g.names) (10 ∷ [])))

pub declared_text : (ns : Names) (os : List Obj) → objects_text Declared ns os ≡ text (map declare_raw_line (sort_groups ns os))
declared_text ns os = groups_of Declared ns os ∙ declared_groups (sort_groups ns os)

pub made_text : (ns : Names) (os : List Obj) → objects_text Made ns os ≡ text (map made_raw_line (sort_groups ns os))
made_text ns os = groups_of Made ns os ∙ made_groups (sort_groups ns os)
