-- Words with one space between two are cut into the same words; tokens, names and titles are such words.
use Rattle.std.proofs.Common.{◌≡◌, ℕ, Bool, true, false, cond, eqb, leb, not, ◌&&◌, List, [], ◌∷◌, ◌++◌, length, filter, All, refl, ap, ◌∙◌, rules, tests}
use Rattle.std.specs.List.{slice_split, onto_first, list_all, AllByRecursion}
use Rattle.std.specs.Str.{bytes_eq}
use Rattle.std.proofs.lemmas.Bool.{not-true, eqb-true, and_parts}
use Rattle.std.proofs.lemmas.List.{append-nil}
use Rattle.std.proofs.lemmas.List.Elements.{All-from_recursion}
use Rattle.std.proofs.lemmas.List.Splits.{slice_split_none, slice_split_at}
use Rattle.e_text.specs.Tokens.{is_blank, has_bytes, tokens_of, is_token, AreTokens, with_spaces, joined_words}
use Rattle.e_text.specs.Names.{is_letter, is_name_byte, is_title_byte, is_reserved, is_name, is_title}

no_blank : (w : List ℕ) → list_all (λ b. not (is_blank b)) w ≡ true → AllByRecursion (λ b. is_blank b ≡ false) w
no_blank [] e = tt
no_blank (b ∷ bs) e = let p = and_parts (not (is_blank b)) (list_all (λ b. not (is_blank b)) bs) e in (not-true (is_blank b) p.0, no_blank bs p.1)

all_no_blank : (w : List ℕ) → is_token w ≡ true → All (λ b. is_blank b ≡ false) w
all_no_blank w e = All-from_recursion (λ b. is_blank b ≡ false) w (no_blank w (and_parts _ _ e).1)

first_kept : (w : List ℕ) (ws : List (List ℕ)) → is_token w ≡ true → filter has_bytes (w ∷ ws) ≡ w ∷ filter has_bytes ws
first_kept w ws e = let h : has_bytes w ≡ true = (and_parts _ _ e).0 in rw h refl

pub tokens_of-spaced : (w : List ℕ) (ws : List (List ℕ)) → is_token w ≡ true → AreTokens ws → tokens_of (w ++ with_spaces ws) ≡ w ∷ ws
tokens_of-spaced w [] e es = ap tokens_of (append-nil w) ∙ ap (filter has_bytes) (slice_split_none is_blank w (all_no_blank w e)) ∙ first_kept w [] e
tokens_of-spaced w (v ∷ vs) e es =
    ap (filter has_bytes) (slice_split_at is_blank w 32 (v ++ with_spaces vs) (all_no_blank w e) refl) ∙ first_kept w (slice_split is_blank (v ++ with_spaces vs)) e ∙ ap (λ xs. w ∷ xs) (tokens_of-spaced v vs es.0 es.1)

-- the tokens of joined words are these words
pub tokens_of-joined : (ws : List (List ℕ)) → AreTokens ws → tokens_of (joined_words ws) ≡ ws
tokens_of-joined [] es = refl
tokens_of-joined (w ∷ ws) es = tokens_of-spaced w ws es.0 es.1

-- ---- what tokens are

-- whether no blank stands in a part
abbrev unbroken : List ℕ → Bool
unbroken part = list_all (λ b. not (is_blank b)) part

abbrev AreUnbroken : List (List ℕ) → Type 0
AreUnbroken parts = AllByRecursion (λ part. unbroken part ≡ true) parts

onto : (b : ℕ) (parts : List (List ℕ)) → is_blank b ≡ false → AreUnbroken parts → AreUnbroken (onto_first b parts)
onto b [] e h = (rw e refl, tt)
onto b (part ∷ parts) e h = (rw (e, h.0) refl, h.1)

parts_by : (t : Bool) (b : ℕ) (parts : List (List ℕ)) → is_blank b ≡ t → AreUnbroken parts → AreUnbroken (cond t ([] ∷ parts) (onto_first b parts))
parts_by true b parts e h = (refl, h)
parts_by false b parts e h = onto b parts e h

parts_have_no_blank : (line : List ℕ) → AreUnbroken (slice_split is_blank line)
parts_have_no_blank [] = (refl, tt)
parts_have_no_blank (b ∷ bs) = parts_by (is_blank b) b (slice_split is_blank bs) refl (parts_have_no_blank bs)

kept_by : (t : Bool) (part : List ℕ) (rest : List (List ℕ)) → has_bytes part ≡ t → unbroken part ≡ true → AreTokens rest → AreTokens (cond t (part ∷ rest) rest)
kept_by true part rest e u h = (rw (e, u) refl, h)
kept_by false part rest e u h = h

kept : (parts : List (List ℕ)) → AreUnbroken parts → AreTokens (filter has_bytes parts)
kept [] h = tt
kept (part ∷ parts) h = kept_by (has_bytes part) part (filter has_bytes parts) refl h.0 (kept parts h.1)

-- no token holds a blank, and each has bytes
pub AreTokens-tokens_of : (line : List ℕ) → AreTokens (tokens_of line)
AreTokens-tokens_of line = kept (slice_split is_blank line) (parts_have_no_blank line)

-- ---- names and titles

name_byte_is_no_blank : (b : ℕ) → is_name_byte b ≡ true → not (is_blank b) ≡ true
name_byte_is_no_blank b e = search (rules, tests)

title_byte_is_no_blank : (b : ℕ) → is_title_byte b ≡ true → not (is_blank b) ≡ true
title_byte_is_no_blank b e = search (rules, tests)

name_bytes : (w : List ℕ) → list_all is_name_byte w ≡ true → list_all (λ b. not (is_blank b)) w ≡ true
name_bytes [] e = refl
name_bytes (b ∷ bs) e = let p = and_parts (is_name_byte b) (list_all is_name_byte bs) e in rw (name_byte_is_no_blank b p.0, name_bytes bs p.1) refl

title_bytes : (w : List ℕ) → list_all is_title_byte w ≡ true → list_all (λ b. not (is_blank b)) w ≡ true
title_bytes [] e = refl
title_bytes (b ∷ bs) e = let p = and_parts (is_title_byte b) (list_all is_title_byte bs) e in rw (title_byte_is_no_blank b p.0, title_bytes bs p.1) refl

pub some_bytes : (b : ℕ) (bs : List ℕ) → list_all (λ b. not (is_blank b)) (b ∷ bs) ≡ true → is_token (b ∷ bs) ≡ true
some_bytes b bs e = let h : eqb (length (b ∷ bs)) 0 ≡ false = search (rules, tests) in rw (h, e) refl

pub is_token-name : (w : List ℕ) → is_name w ≡ true → is_token w ≡ true
is_token-name [] e = absurd cc
is_token-name (b ∷ bs) e =
    let p = and_parts (is_letter b) (leb (length (b ∷ bs)) 16 && (list_all is_name_byte (b ∷ bs) && not (is_reserved (b ∷ bs)))) e in
    let q = and_parts (leb (length (b ∷ bs)) 16) (list_all is_name_byte (b ∷ bs) && not (is_reserved (b ∷ bs))) p.1 in
    let r = and_parts (list_all is_name_byte (b ∷ bs)) (not (is_reserved (b ∷ bs))) q.1 in
    some_bytes b bs (name_bytes (b ∷ bs) r.0)

pub is_token-title : (w : List ℕ) → is_title w ≡ true → is_token w ≡ true
is_token-title [] e = absurd cc
is_token-title (b ∷ bs) e =
    let p = and_parts (is_letter b) (leb (length (b ∷ bs)) 24 && list_all is_title_byte (b ∷ bs)) e in
    let q = and_parts (leb (length (b ∷ bs)) 24) (list_all is_title_byte (b ∷ bs)) p.1 in
    some_bytes b bs (title_bytes (b ∷ bs) q.1)

-- a name is no reserved word
pub is_reserved-name : (w : List ℕ) → is_name w ≡ true → is_reserved w ≡ false
is_reserved-name [] e = absurd cc
is_reserved-name (b ∷ bs) e =
    let p = and_parts (is_letter b) (leb (length (b ∷ bs)) 16 && (list_all is_name_byte (b ∷ bs) && not (is_reserved (b ∷ bs)))) e in
    let q = and_parts (leb (length (b ∷ bs)) 16) (list_all is_name_byte (b ∷ bs) && not (is_reserved (b ∷ bs))) p.1 in
    not-true (is_reserved (b ∷ bs)) (and_parts (list_all is_name_byte (b ∷ bs)) (not (is_reserved (b ∷ bs))) q.1).1

by_test : (t : Bool) (b mark : ℕ) (bs : List ℕ) → eqb b mark ≡ t → is_letter b ≡ true → is_letter mark ≡ false → bytes_eq (b ∷ bs) (mark ∷ []) ≡ false
by_test true b mark bs e letter other = let s = ap is_letter (eqb-true b mark e) in absurd cc
by_test false b mark bs e letter other = rw e refl

-- a name is not a mark, as `;` or `=`
pub name_is_not : (w : List ℕ) (mark : ℕ) → is_letter mark ≡ false → is_name w ≡ true → bytes_eq w (mark ∷ []) ≡ false
name_is_not [] mark other e = absurd cc
name_is_not (b ∷ bs) mark other e =
    let p = and_parts (is_letter b) (leb (length (b ∷ bs)) 16 && (list_all is_name_byte (b ∷ bs) && not (is_reserved (b ∷ bs)))) e in
    by_test (eqb b mark) b mark bs refl p.0 other
