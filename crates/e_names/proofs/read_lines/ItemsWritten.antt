-- What items stand for: in scope, said as spelling says it, at least one literal; and written out item by item.
use Rattle.std.proofs.Common.{◌≡◌, ℕ, zero, suc, ◌+◌, ◌-◌, ◌<◌, ◌≤◌, Bool, true, false, true≢false, cond, eqb, ◌^◌, List, [], ◌∷◌, ◌++◌, length, map, take, Option, Some, None, Result, Ok, refl, sym, ap, subst, ◌∙◌, arith, length-append}
use Rattle.std.specs.Prelude.{IsFalse}
use Rattle.std.specs.List.{list_all}
use Rattle.std.specs.Str.{bytes_eq}
use Rattle.std.proofs.lemmas.Bool.{and_parts, eqb-true, ltb-true}
use Rattle.std.proofs.lemmas.List.{map-append, length-map, length-take}
use Rattle.e_literal.specs.declared.object.Sort.{Sort}
use Rattle.e_literal.specs.declared.object.Obj.{Obj}
use Rattle.e_literal.specs.declared.object.Scope.{Scope}
use Rattle.e_literal.specs.declared.literal.Lit.{Lit}
use Rattle.e_literal.specs.Literal.{all_in_scope}
use Rattle.e_literal.specs.WellFormed.{is_well_formed}
use Rattle.e_literal.specs.Scopes.{are_of_sorts}
use Rattle.e_literal.specs.Rename.{with_images}
use Rattle.e_literal.specs.Use.{is_statement, are_arguments, image_in_use}
use Rattle.e_clause.specs.LimitedFacts.{is_well_formed_in, are_well_formed_in}
use Rattle.e_theorem.specs.declared.notion.Notion.{Notion}
use Rattle.e_theorem.specs.Notions.{as_stated, literals_of_notion, means_something}
use Rattle.e_theorem.proofs.Uses.{gives_good}
use Rattle.e_deriv.specs.declared.names.Names.{Names}
use Rattle.e_deriv.specs.Fitting.{is_small, is_small_statement, all_objects}
use Rattle.e_deriv.proofs.Smallness.{few_objects}
use Rattle.e_line.specs.declared.fault.FaultKind.{FaultKind}
use Rattle.e_line.specs.declared.fault.LineError.{LineError}
use Rattle.e_line.specs.declared.fault.LineError.TheVariants as line_errors
use Rattle.e_line.specs.declared.literal.RawLit.{RawLit}
use Rattle.e_line.specs.declared.items.RawAs.{RawAs}
use Rattle.e_line.specs.declared.items.RawItem.{RawItem}
use Rattle.e_line.specs.declared.items.RawItem.TheVariants.{Literal, As}
use Rattle.e_line.specs.Reading.{◌>>=◌, Fails}
use Rattle.e_line.specs.Limits.{most_expanded}
use Rattle.e_names.specs.Scope.{scope_of_names, right_count, objects_of_sorts, lit_in}
use Rattle.e_names.specs.Canonical.{raw_of}
use Rattle.e_names.specs.Titled.{Titled, notion_of, is_notion, are_notions}
use Rattle.e_names.specs.Meanings.{known_notion, meant_in, item_in, items_in}
use Rattle.e_line.proofs.base.Bound.{bind_ok, ok_is, read_ok}
use Rattle.e_names.proofs.read_lines.Citations.{counted}
use Rattle.e_names.proofs.read_lines.Building.{of_sorts}
use Rattle.e_line.proofs.read_lines.SumsOfLiterals.{LitsSaid}
use Rattle.e_names.proofs.read_lines.NamedLiterals.{lit_said_again, good_said}
use Rattle.e_line.proofs.read_lines.ItemsOfWords.{ItemsSaid, ItemSaid}

-- ---- the notion of a title

notion_at : (notions : List Titled) (title : List ℕ) (n : Notion) → are_notions notions ≡ true → notion_of notions title ≡ Some n → is_notion n ≡ true
notion_at [] title n all e = absurd cc
notion_at (m ∷ ns) title n all e = by (bytes_eq title m.title) (λ h. notion_at ns title n parts.1 h) e where
  parts : (is_notion m.notion ≡ true) × (are_notions ns ≡ true)
  parts = and_parts (is_notion m.notion) (are_notions ns) all

  by : (b : Bool) → (notion_of ns title ≡ Some n → is_notion n ≡ true) → cond b (Some m.notion) (notion_of ns title) ≡ Some n → is_notion n ≡ true
  by true after h = subst (λ (x : Notion). is_notion x ≡ true) (let is : m.notion ≡ n = cc in is) parts.0
  by false after h = after h

known_is : (o : Option Notion) (n : Notion) → known_notion o ≡ Ok n → o ≡ Some n
known_is None n e = absurd cc
known_is (Some m) n e = cc

-- ---- a notion of arguments

-- what is known of an item that is a notion
pub record Meant (notions : List Titled) (ns : Names) (most : ℕ) (raw : RawAs) (ls : List Lit) : Type 0 where
  pub notion : Notion
  pub is_one : is_notion notion ≡ true
  pub args : List Obj
  pub fit : are_arguments (as_stated notion) (scope_of_names ns) args ≡ true
  pub are : ls ≡ take most (literals_of_notion notion args (scope_of_names ns))

pub meant : (notions : List Titled) (ns : Names) (most : ℕ) (raw : RawAs) (ls : List Lit) → are_notions notions ≡ true → meant_in notions ns most raw ≡ Ok ls → Meant notions ns most raw ls
unfolding meant_in
meant notions ns most raw ls all e =
    let then : Notion → List Obj → Result (List Lit) FaultKind = λ n args. read_ok (take most (literals_of_notion n args (scope_of_names ns))) in
    let n = bind_ok (known_notion (notion_of notions raw.title)) (λ n. right_count (eqb (length raw.args) (length n.declared)) >>= λ right. objects_of_sorts ns n.declared raw.args >>= λ args. then n args) ls e in
    let r = bind_ok (right_count (eqb (length raw.args) (length n.0.declared))) (λ right. objects_of_sorts ns n.0.declared raw.args >>= λ args. then n.0 args) ls n.2 in
    let a = bind_ok (objects_of_sorts ns n.0.declared raw.args) (λ args. then n.0 args) ls r.2 in
    record {
      notion = n.0;
      is_one = notion_at notions raw.title n.0 all (known_is (notion_of notions raw.title) n.0 n.1);
      args = a.0;
      fit = of_sorts ns n.0.declared raw.args a.0 (eqb-true (length raw.args) (length n.0.declared) (counted _ r.0 r.1)) a.1;
      are = sym (ok_is (take most (literals_of_notion n.0 a.0 (scope_of_names ns))) ls a.2);
    }

statement_of : (n : Notion) → is_notion n ≡ true → is_statement (as_stated n) ≡ true
statement_of n h = (and_parts (is_statement (as_stated n)) (is_small (all_objects (as_stated n))) (and_parts (means_something n) (is_small_statement (as_stated n)) h).1).0

-- numbers of 16 bits are enough for its objects
pub notion_few : (notions : List Titled) (title : List ℕ) (n : Notion) → are_notions notions ≡ true → known_notion (notion_of notions title) ≡ Ok n → length n.declared < 2 ^ 16
notion_few notions title n all e =
    let one = notion_at notions title n all (known_is (notion_of notions title) n e) in
    omega (arith, few_objects (as_stated n) (and_parts (means_something n) (is_small_statement (as_stated n)) one).1)

-- the objects of its names fit
pub args_fit : (ns : Names) (n : Notion) (names words : List (List ℕ)) (sorts : List Sort) (os args : List Obj) (s : Scope) → words ≡ names → sorts ≡ n.declared → args ≡ os → s ≡ scope_of_names ns → length names ≡ length n.declared
    → objects_of_sorts ns sorts words ≡ Ok os → IsFalse (are_arguments (as_stated n) s args) → ⊥
args_fit ns n names words sorts os args s named declared at here count e misfit =
    let read : objects_of_sorts ns n.declared names ≡ Ok os = ap (λ (x : List Sort). objects_of_sorts ns x names) (sym declared) ∙ ap (λ (x : List (List ℕ)). objects_of_sorts ns sorts x) (sym named) ∙ e in
    let same : are_of_sorts s n.declared args ≡ are_of_sorts (scope_of_names ns) n.declared os = ap (λ (x : List Obj). are_of_sorts s n.declared x) at ∙ ap (λ (x : Scope). are_of_sorts x n.declared os) here in
    true≢false (sym (same ∙ of_sorts ns n.declared names os count read) ∙ misfit)

-- its literals are in scope and well formed
expanded_good : (n : Notion) (args : List Obj) (s : Scope) → is_notion n ≡ true → are_arguments (as_stated n) s args ≡ true → are_well_formed_in s (literals_of_notion n args s) ≡ true
expanded_good n args s h fit = gives_good (as_stated n) args s (statement_of n h) fit

taken_good : (s : Scope) (k : ℕ) (ls : List Lit) → are_well_formed_in s ls ≡ true → are_well_formed_in s (take k ls) ≡ true
taken_good s zero ls h = refl
taken_good s (suc k) [] h = refl
taken_good s (suc k) (l ∷ ls) h = let p = and_parts (is_well_formed_in s l) (are_well_formed_in s ls) h in rw (p.0, taken_good s k ls p.1) refl

pub within : (s : Scope) (ls : List Lit) → are_well_formed_in s ls ≡ true → list_all (all_in_scope s) ls ≡ true
within s [] h = refl
within s (l ∷ ls) h = let p = and_parts (is_well_formed_in s l) (are_well_formed_in s ls) h in rw ((and_parts (all_in_scope s l) (is_well_formed l) p.0).0, within s ls p.1) refl

pub well_formed : (s : Scope) (ls : List Lit) → are_well_formed_in s ls ≡ true → list_all is_well_formed ls ≡ true
well_formed s [] h = refl
well_formed s (l ∷ ls) h = let p = and_parts (is_well_formed_in s l) (are_well_formed_in s ls) h in rw ((and_parts (all_in_scope s l) (is_well_formed l) p.0).1, well_formed s ls p.1) refl

pub meant_good : (notions : List Titled) (ns : Names) (most : ℕ) (raw : RawAs) (ls : List Lit) → Meant notions ns most raw ls → are_well_formed_in (scope_of_names ns) ls ≡ true
meant_good notions ns most raw ls m =
    let s = scope_of_names ns in
    subst (λ (x : List Lit). are_well_formed_in s x ≡ true) (sym m.are) (taken_good s most (literals_of_notion m.notion m.args s) (expanded_good m.notion m.args s m.is_one m.fit))

-- the first of what a notion says of arguments that fit it
pub first_within : (n : Notion) (args : List Obj) (s : Scope) (most : ℕ) (ls : List Lit) → is_notion n ≡ true → are_arguments (as_stated n) s args ≡ true → ls ≡ take most (literals_of_notion n args s) → list_all (all_in_scope s) ls ≡ true
first_within n args s most ls one fit are =
    within s ls (subst (λ (x : List Lit). are_well_formed_in s x ≡ true) (sym are) (taken_good s most (literals_of_notion n args s) (expanded_good n args s one fit)))

pub first_count : (n : Notion) (args : List Obj) (s : Scope) (most : ℕ) (ls : List Lit) → ls ≡ take most (literals_of_notion n args s) → length ls ≤ most
first_count n args s most ls are = omega (arith, ap (λ (x : List Lit). length x) are, length-take most (literals_of_notion n args s))

pub is_known_one : (notions : List Titled) (title : List ℕ) (n : Notion) → are_notions notions ≡ true → known_notion (notion_of notions title) ≡ Ok n → is_notion n ≡ true
is_known_one notions title n all e = notion_at notions title n all (known_is (notion_of notions title) n e)

-- where there is room it stands for something
meant_some : (notions : List Titled) (ns : Names) (most : ℕ) (raw : RawAs) (ls : List Lit) → 0 < most → Meant notions ns most raw ls → 0 < length ls
meant_some notions ns most raw ls room m =
    let some = ltb-true 0 (length m.notion.means) (and_parts (means_something m.notion) (is_small_statement (as_stated m.notion)) m.is_one).0 in
    omega (arith, room, some, ap (λ (x : List Lit). length x) m.are, length-take most (literals_of_notion m.notion m.args (scope_of_names ns)), length-map m.notion.means (with_images (image_in_use (as_stated m.notion) m.args (scope_of_names ns))))

-- ---- literals with names

abbrev pub named : Names → List Lit → List RawLit
named ns ls = map (raw_of ns) ls

good_named : (ns : Names) (ls : List Lit) → list_all is_well_formed ls ≡ true → LitsSaid (named ns ls)
good_named ns [] h = tt
good_named ns (l ∷ ls) h = let p = and_parts (is_well_formed l) (list_all is_well_formed ls) h in (good_said ns l p.0, good_named ns ls p.1)

both_said : (xs ys : List RawLit) → LitsSaid xs → LitsSaid ys → LitsSaid (xs ++ ys)
both_said [] ys h k = k
both_said (x ∷ xs) ys h k = (h.0, both_said xs ys h.1 k)

-- ---- items

abbrev pair : List Lit → ℕ → List Lit × ℕ
pair ls n = (ls, n)

item_said : (notions : List Titled) (ns : Names) (n : ℕ) (item : RawItem) (p : List Lit × ℕ) → are_notions notions ≡ true → ItemSaid item → item_in notions ns n item ≡ Ok p → LitsSaid (named ns p.0)
item_said notions ns n (Literal raw) p all said e =
    let l = bind_ok (lit_in ns raw) (λ l. read_ok (pair (l ∷ []) n)) p e in
    subst (λ (q : List Lit × ℕ). LitsSaid (named ns q.0)) (ok_is (pair (l.0 ∷ []) n) p l.2) (lit_said_again ns raw l.0 l.1 said, tt)
item_said notions ns n (As raw) p all said e =
    let ls = bind_ok (meant_in notions ns (most_expanded + 1 - n) raw) (λ ls. read_ok (pair ls (n + length ls))) p e in
    subst (λ (q : List Lit × ℕ). LitsSaid (named ns q.0)) (ok_is (pair ls.0 (n + length ls.0)) p ls.2)
    (good_named ns ls.0 (well_formed (scope_of_names ns) ls.0 (meant_good notions ns (most_expanded + 1 - n) raw ls.0 (meant notions ns (most_expanded + 1 - n) raw ls.0 all ls.1))))

pub items_said : (notions : List Titled) (ns : Names) (n : ℕ) (is : List RawItem) (p : List Lit × ℕ) → are_notions notions ≡ true → ItemsSaid is → items_in notions ns n is ≡ Ok p → LitsSaid (named ns p.0)
items_said notions ns n [] p all said e = subst (λ (q : List Lit × ℕ). LitsSaid (named ns q.0)) (ok_is (pair [] n) p e) tt
items_said notions ns n (item ∷ is) p all said e =
    let a = bind_ok (item_in notions ns n item) (λ a. items_in notions ns a.1 is >>= λ b. read_ok (pair (a.0 ++ b.0) b.1)) p e in
    let b = bind_ok (items_in notions ns a.0.1 is) (λ b. read_ok (pair (a.0.0 ++ b.0) b.1)) p a.2 in
    subst (λ (q : List Lit × ℕ). LitsSaid (named ns q.0)) (ok_is (pair (a.0.0 ++ b.0.0) b.0.1) p b.2)
    (subst LitsSaid (sym (map-append (raw_of ns) a.0.0 b.0.0)) (both_said (named ns a.0.0) (named ns b.0.0) (item_said notions ns n item a.0 all said.0 a.1) (items_said notions ns a.0.1 is b.0 all said.1 b.1)))

item_some : (notions : List Titled) (ns : Names) (item : RawItem) (p : List Lit × ℕ) → are_notions notions ≡ true → item_in notions ns 0 item ≡ Ok p → 0 < length p.0
item_some notions ns (Literal raw) p all e =
    let l = bind_ok (lit_in ns raw) (λ l. read_ok (pair (l ∷ []) 0)) p e in
    subst (λ (q : List Lit × ℕ). 0 < length q.0) (ok_is (pair (l.0 ∷ []) 0) p l.2) (omega arith)
item_some notions ns (As raw) p all e =
    let room = most_expanded + 1 - 0 in
    let ls = bind_ok (meant_in notions ns room raw) (λ ls. read_ok (pair ls (0 + length ls))) p e in
    subst (λ (q : List Lit × ℕ). 0 < length q.0) (ok_is (pair ls.0 (0 + length ls.0)) p ls.2) (meant_some notions ns room raw ls.0 (omega arith) (meant notions ns room raw ls.0 all ls.1))

-- one item or more stand for one literal or more
pub items_some : (notions : List Titled) (ns : Names) (is : List RawItem) (p : List Lit × ℕ) → are_notions notions ≡ true → 0 < length is → items_in notions ns 0 is ≡ Ok p → 0 < length (named ns p.0)
items_some notions ns [] p all some e = absurd (omega (arith, some))
items_some notions ns (item ∷ is) p all some e =
    let a = bind_ok (item_in notions ns 0 item) (λ a. items_in notions ns a.1 is >>= λ b. read_ok (pair (a.0 ++ b.0) b.1)) p e in
    let b = bind_ok (items_in notions ns a.0.1 is) (λ b. read_ok (pair (a.0.0 ++ b.0) b.1)) p a.2 in
    subst (λ (q : List Lit × ℕ). 0 < length (named ns q.0)) (ok_is (pair (a.0.0 ++ b.0.0) b.0.1) p b.2)
    (omega (arith, item_some notions ns item a.0 all a.1, length-append a.0.0 b.0.0, length-map (a.0.0 ++ b.0.0) (raw_of ns)))

-- what fails is not gone on with
pub fails_on : {A B : Type 0} (e : LineError) (r : Result A FaultKind) (f : A → Result B FaultKind) → Fails e r → Fails e (r >>= f)
fails_on line_errors.NoMemory r f h = tt
fails_on {A} (line_errors.Fault k) r f h = ap (λ (x : Result A FaultKind). x >>= f) h
