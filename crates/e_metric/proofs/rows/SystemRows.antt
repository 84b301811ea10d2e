-- Lists of named rows that grow.
use Rattle.std.proofs.Common.{◌≡◌, ℕ, zero, suc, ◌+◌, List, [], ◌∷◌, ◌++◌, take, refl, sym, ap, ◌∙◌, subst, Bool, true, cond, Option, Some, None, append_assoc}
use Rattle.std.specs.Prelude.{flat_map, slice_get}
use Rattle.std.specs.Option.{option_map}
use Rattle.std.specs.List.{cons_option, list_all}
use Rattle.std.proofs.lemmas.List.Elements.{filter_map-append}
use Rattle.e_literal.specs.declared.object.Kind.{Kind}
use Rattle.e_literal.specs.declared.object.Kind.TheVariants.{Angle}
use Rattle.e_literal.specs.declared.object.Term.{Term}
use Rattle.e_literal.specs.declared.object.Term.TheVariants.{Seg, Ang, Right}
use Rattle.e_literal.specs.declared.literal.Lit.{Lit}
use Rattle.e_literal.specs.Facts.{are_apart}
use Rattle.e_literal.specs.Rows.{Row, row_of_lit}
use Rattle.e_literal.proofs.Booleans.{and_left, and_right}
use Rattle.e_clause.specs.declared.cert.RowName.{RowName}
use Rattle.e_clause.specs.declared.cert.RowName.TheVariants.{Fact, Goal, Pos, Top, Right as RightRow}
use Rattle.e_clause.specs.System.{NamedRow, named_row, is_of_kind, of_kind, against_goal, system, rows_named, rows_of_term, rows_of_kind, pos_row, top_row, right_row}
use Rattle.e_fraction.specs.declared.row.Row.{Row as GivenRow}
use Rattle.e_metric.specs.AgreeingRows.{IsRow, IsRowOrNone, IsLimited, IsLimitedOrNone, AreRows, AllLimited, GrowBy}
use Rattle.e_metric.specs.ListedTerms.{distinct_terms}
use Rattle.e_metric.proofs.terms.FirstTerms.{kind_one, kind_more}

-- ---- growing

rows_push : (rs : List NamedRow) (ps : List (RowName × GivenRow)) (r : NamedRow) (n : RowName) (g : GivenRow) → AreRows rs ps → n ≡ r.name → IsRow g r.row → AreRows (rs ++ r ∷ []) (ps ++ (n, g) ∷ [])
rows_push [] [] r n g h e k = (e, k, tt)
rows_push [] (p ∷ ps) r n g h e k = absurd h
rows_push (q ∷ qs) [] r n g h e k = absurd h
rows_push (q ∷ qs) (p ∷ ps) r n g h e k = (h.0, h.1, rows_push qs ps r n g h.2 e k)

limited_push : (ps : List (RowName × GivenRow)) (n : RowName) (g : GivenRow) → AllLimited ps → IsLimited g → AllLimited (ps ++ (n, g) ∷ [])
limited_push [] n g h k = (k, tt)
limited_push (p ∷ ps) n g h k = (h.0, limited_push ps n g h.1 k)

-- one row more
pub grow_one : (r : NamedRow) (old new : List (RowName × GivenRow)) (n : RowName) (g : GivenRow) → n ≡ r.name → IsRow g r.row → IsLimited g → new ≡ old ++ (n, g) ∷ [] → GrowBy (r ∷ []) old new
grow_one r old new n g e k l is = record {
  rows = λ rs h. subst (AreRows (rs ++ r ∷ [])) (sym is) (rows_push rs old r n g h e k);
  limited = λ h. subst AllLimited (sym is) (limited_push old n g h l);
}

pub grow_more : (a b : List NamedRow) (x y z : List (RowName × GivenRow)) → GrowBy a x y → GrowBy b y z → GrowBy (a ++ b) x z
grow_more a b x y z h k = record {
  rows = λ rs m. subst (λ qs. AreRows qs z) (append_assoc rs a b) (k.rows (rs ++ a) (h.rows rs m));
  limited = λ m. k.limited (h.limited m);
}

-- two lists of rows, from nothing
pub rows_of_two : (a b : List NamedRow) (start first last : List (RowName × GivenRow)) → start ≡ [] → GrowBy a start first → GrowBy b first last → AreRows (a ++ b) last
rows_of_two a b start first last e h k = (grow_more a b start first last h k).rows [] (subst (AreRows []) (sym e) tt)

-- ---- rows of literals

row_there : (o : Option Row) (given : Option GivenRow) (g : GivenRow) → given ≡ Some g → IsRowOrNone o given → (r : Row) × (o ≡ Some r) × IsRow g r
row_there o None g e h = absurd (cc)
row_there (Some r) (Some k) g e h = (r, refl, subst (λ x. IsRow x r) (let s : k ≡ g = cc in s) h)
row_there None (Some k) g e h = absurd h

limited_there : (given : Option GivenRow) (g : GivenRow) → given ≡ Some g → IsLimitedOrNone given → IsLimited g
limited_there None g e h = absurd (cc)
limited_there (Some k) g e h = subst IsLimited (let s : k ≡ g = cc in s) h

one_named : (name : Lit → RowName) (l : Lit) (r : Row) → row_of_lit l ≡ Some r → rows_named name (l ∷ []) ≡ named_row (name l) r ∷ []
one_named name l r e = ap (λ o. cons_option (option_map (named_row (name l)) o) []) e

-- the row of a literal of the kind
pub literal_grows : (which : Kind) (name : Lit → RowName) (l : Lit) (old new : List (RowName × GivenRow)) (n : RowName) (given : Option GivenRow) (g : GivenRow)
    → is_of_kind which l ≡ true → n ≡ name l → given ≡ Some g → IsRowOrNone (row_of_lit l) given → IsLimitedOrNone given → new ≡ old ++ (n, g) ∷ []
    → GrowBy (rows_named name (of_kind which (l ∷ []))) old new
literal_grows which name l old new n given g k e s h m is =
    let w = row_there (row_of_lit l) given g s h in
    subst (λ rs. GrowBy rs old new)
    (sym (ap (rows_named name) (kind_one which l ∙ ap (λ b. cond b (l ∷ []) []) k) ∙ one_named name l w.0 w.1))
    (grow_one (named_row (name l) w.0) old new n g e w.2 (limited_there given g s m) is)

-- ---- rows of terms

pub segment_grows : (facts : List Lit) (t : Term) (a b : ℕ) (old new : List (RowName × GivenRow)) (g : GivenRow) → t ≡ Seg a b → are_apart facts a b ≡ true → IsRow g (pos_row (Seg a b)) → IsLimited g
    → new ≡ old ++ (Pos (Seg a b), g) ∷ [] → GrowBy (rows_of_term facts t) old new
segment_grows facts t a b old new g e k h l is =
    subst (λ rs. GrowBy rs old new)
    (sym (ap (rows_of_term facts) e ∙ ap (λ x. cond x (named_row (Pos (Seg a b)) (pos_row (Seg a b)) ∷ []) []) k))
    (grow_one (named_row (Pos (Seg a b)) (pos_row (Seg a b))) old new (Pos (Seg a b)) g refl h l is)

pub angle_grows : (facts : List Lit) (t : Term) (a b c : ℕ) (old new : List (RowName × GivenRow)) (g : GivenRow) → t ≡ Ang a b c → IsRow g (top_row (Ang a b c)) → IsLimited g
    → new ≡ old ++ (Top (Ang a b c), g) ∷ [] → GrowBy (rows_of_term facts t) old new
angle_grows facts t a b c old new g e h l is =
    subst (λ rs. GrowBy rs old new) (sym (ap (rows_of_term facts) e))
    (grow_one (named_row (Top (Ang a b c)) (top_row (Ang a b c))) old new (Top (Ang a b c)) g refl h l is)

pub right_grows : (which : Kind) (old new : List (RowName × GivenRow)) (g : GivenRow) → which ≡ Angle → IsRow g (pos_row Right) → IsLimited g → new ≡ old ++ (RightRow, g) ∷ [] → GrowBy (rows_of_kind which) old new
right_grows which old new g e h l is = subst (λ rs. GrowBy rs old new) (sym (ap rows_of_kind e)) (grow_one (named_row RightRow right_row) old new RightRow g refl h l is)

-- ---- one more of a list

pub all_at : {X : Type 0} (p : X → Bool) (xs : List X) (i : ℕ) (x : X) → list_all p xs ≡ true → slice_get xs i ≡ Some x → p x ≡ true
all_at p [] i x h e = absurd (cc)
all_at p (y ∷ ys) zero x h e = (let s : y ≡ x = cc in ap p (sym s) ∙ and_left (p y) (list_all p ys) h)
all_at p (y ∷ ys) (suc i) x h e = all_at p ys i x (and_right (p y) (list_all p ys) h) e

pub facts_grow : (which : Kind) (name : Lit → RowName) (facts : List Lit) (i : ℕ) (l : Lit) (x y z : List (RowName × GivenRow)) → slice_get facts i ≡ Some l
    → GrowBy (rows_named name (of_kind which (take i facts))) x y → GrowBy (rows_named name (of_kind which (l ∷ []))) y z
    → GrowBy (rows_named name (of_kind which (take (i + 1) facts))) x z
facts_grow which name facts i l x y z e h k =
    subst (λ rs. GrowBy rs x z)
    (sym (ap (rows_named name) (kind_more which facts i l e) ∙ filter_map-append (λ f. option_map (named_row (name f)) (row_of_lit f)) (of_kind which (take i facts)) (of_kind which (l ∷ []))))
    (grow_more (rows_named name (of_kind which (take i facts))) (rows_named name (of_kind which (l ∷ []))) x y z h k)

pub flat_append : (f : Term → List NamedRow) (xs ys : List Term) → flat_map f (xs ++ ys) ≡ flat_map f xs ++ flat_map f ys
flat_append f [] ys = refl
flat_append f (x ∷ xs) ys = ap (λ zs. f x ++ zs) (flat_append f xs ys) ∙ sym (append_assoc (f x) (flat_map f xs) (flat_map f ys))

-- ---- the whole system

pub all_rows : (which : Kind) (facts : List Lit) (goal : Option Lit) (terms : List Term) (start first second third last : List (RowName × GivenRow)) → start ≡ [] → terms ≡ distinct_terms which facts goal
    → GrowBy (rows_named (λ l. Fact l) (of_kind which facts)) start first → GrowBy (rows_named (λ l. Goal) (of_kind which (against_goal goal))) first second
    → GrowBy (flat_map (rows_of_term facts) terms) second third → GrowBy (rows_of_kind which) third last → AreRows (system which facts goal) last
all_rows which facts goal terms start first second third last e t a b c d =
    let known = rows_named (λ l. Fact l) (of_kind which facts) in
    let negated_at = rows_named (λ l. Goal) (of_kind which (against_goal goal)) in
    let of_terms = flat_map (rows_of_term facts) (distinct_terms which facts goal) in
    let whole = grow_more known (negated_at ++ (of_terms ++ rows_of_kind which)) start first last a
    (grow_more negated_at (of_terms ++ rows_of_kind which) first second last b
    (grow_more of_terms (rows_of_kind which) second third last (subst (λ ts. GrowBy (flat_map (rows_of_term facts) ts) second third) t c) d)) in
    whole.rows [] (subst (AreRows []) (sym e) tt)
