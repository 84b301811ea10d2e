-- Titles and notions side by side.
use Rattle.std.proofs.Common.{◌≡◌, ℕ, suc, ◌+◌, ◌<◌, Bool, true, false, cond, ltb, List, [], ◌∷◌, ◌++◌, length, map, get_or, Some, None, refl, sym, ap, ◌∙◌, arith}
use Rattle.std.specs.List.{position, position_or_len}
use Rattle.std.specs.Str.{bytes_eq}
use Rattle.std.proofs.lemmas.Bool.{and_parts, and_from, ltb-false, le-ltb}
use Rattle.e_theorem.specs.declared.notion.Notion.{Notion}
use Rattle.e_names.specs.Titled.{Titled, titled_notion, side_by_side, notion_of, is_notion, are_notions}

pub titles_of : (ts : List (List ℕ)) (ns : List Notion) → length ts ≡ length ns → map (λ (n : Titled). n.title) (side_by_side ts ns) ≡ ts
titles_of [] ns e = refl
titles_of (t ∷ ts) [] e = absurd (omega (arith, e))
titles_of (t ∷ ts) (n ∷ ns) e = ap (λ (l : List (List ℕ)). t ∷ l) (titles_of ts ns (omega (arith, e)))

pub length_beside : (ts : List (List ℕ)) (ns : List Notion) → length ts ≡ length ns → length (side_by_side ts ns) ≡ length ns
length_beside [] [] e = refl
length_beside [] (n ∷ ns) e = absurd (omega (arith, e))
length_beside (t ∷ ts) [] e = absurd (omega (arith, e))
length_beside (t ∷ ts) (n ∷ ns) e = ap suc (length_beside ts ns (omega (arith, e)))

-- one more of each
pub append_beside : (ts : List (List ℕ)) (ns : List Notion) (t : List ℕ) (n : Notion) → length ts ≡ length ns
    → side_by_side (ts ++ t ∷ []) (ns ++ n ∷ []) ≡ side_by_side ts ns ++ titled_notion t n ∷ []
append_beside [] [] t n e = refl
append_beside [] (m ∷ ns) t n e = absurd (omega (arith, e))
append_beside (u ∷ ts) [] t n e = absurd (omega (arith, e))
append_beside (u ∷ ts) (m ∷ ns) t n e = ap (λ (l : List Titled). titled_notion u m ∷ l) (append_beside ts ns t n (omega (arith, e)))

-- ---- the notion with a title, by its place

-- the place of the first title that is this one, after another
abbrev place : List (List ℕ) → List ℕ → ℕ
place ts t = position_or_len (bytes_eq t) ts

none_is : {A : Type 0} (b : Bool) (k : A) → cond b (Some k) None ≡ None → b ≡ false
none_is true k e = absurd cc
none_is false k e = refl

some_is : (b : Bool) (k j : ℕ) → cond b (Some k) None ≡ Some j → (b ≡ true) × (k ≡ j)
some_is true k j e = (refl, cc)
some_is false k j e = absurd cc

there : (ts : List (List ℕ)) (ns : List Notion) (t : List ℕ) (k : ℕ) (n : Notion) → length ts ≡ length ns → place ts t ≡ k → k < length ts → n ≡ get_or ns k n → notion_of (side_by_side ts ns) t ≡ Some n
there [] ns t k n e at lt is = absurd (omega (arith, lt))
there (u ∷ ts) [] t k n e at lt is = absurd (omega (arith, e))
there (u ∷ ts) (m ∷ ns) t k n e at lt is =
    by_test (bytes_eq t u) refl (λ j. there ts ns t j n (omega (arith, e)))
  where
    by_test : (b : Bool) → bytes_eq t u ≡ b → ((j : ℕ) → place ts t ≡ j → j < length ts → n ≡ get_or ns j n → notion_of (side_by_side ts ns) t ≡ Some n) → cond b (Some m) (notion_of (side_by_side ts ns) t) ≡ Some n
    by_test true h more =
        let first : k ≡ 0 = sym at ∙ rw h refl in
        ap (λ (x : Notion). Some x) (sym (is ∙ ap (λ (i : ℕ). get_or (m ∷ ns) i n) first))
    by_test false h more =
        let step : k ≡ 1 + place ts t = sym at ∙ rw h refl in
        let later : k ≡ suc (place ts t) = omega (arith, step) in
        more (place ts t) refl (omega (arith, lt, later)) (is ∙ ap (λ (i : ℕ). get_or (m ∷ ns) i n) later)

nowhere : (ts : List (List ℕ)) (ns : List Notion) (t : List ℕ) → ltb (place ts t) (length ts) ≡ false → notion_of (side_by_side ts ns) t ≡ None
nowhere [] ns t h = refl
nowhere (u ∷ ts) [] t h = refl
nowhere (u ∷ ts) (m ∷ ns) t h =
    by_test (bytes_eq t u) refl (nowhere ts ns t)
  where
    by_test : (b : Bool) → bytes_eq t u ≡ b → (ltb (place ts t) (length ts) ≡ false → notion_of (side_by_side ts ns) t ≡ None) → cond b (Some m) (notion_of (side_by_side ts ns) t) ≡ None
    by_test true e more =
        let first : place (u ∷ ts) t ≡ 0 = rw e refl in
        absurd (omega (arith, ltb-false (place (u ∷ ts) t) (length (u ∷ ts)) h, first))
    by_test false e more =
        let later : place (u ∷ ts) t ≡ 1 + place ts t = rw e refl in
        more (le-ltb (place ts t) (length ts) (omega (arith, ltb-false (place (u ∷ ts) t) (length (u ∷ ts)) h, later)))

pub found : (ts : List (List ℕ)) (ns : List Notion) (t : List ℕ) (k : ℕ) (n : Notion) → length ts ≡ length ns → position (bytes_eq t) ts ≡ Some k → k < length ns → n ≡ get_or ns k n → Some n ≡ notion_of (side_by_side ts ns) t
found ts ns t k n e at lt is =
    let p = some_is (ltb (place ts t) (length ts)) (place ts t) k at in
    sym (there ts ns t k n e p.1 (omega (arith, e, lt)) is)

pub not_found : (ts : List (List ℕ)) (ns : List Notion) (t : List ℕ) → position (bytes_eq t) ts ≡ None → None ≡ notion_of (side_by_side ts ns) t
not_found ts ns t at = sym (nowhere ts ns t (none_is (ltb (place ts t) (length ts)) (place ts t) at))

-- one more notion is one
pub one_more_notion : (notions : List Titled) (n : Titled) → are_notions notions ≡ true → is_notion n.notion ≡ true → are_notions (notions ++ n ∷ []) ≡ true
one_more_notion [] n h k = and_from _ _ k refl
one_more_notion (m ∷ ms) n h k =
    let p = and_parts (is_notion m.notion) (are_notions ms) h in
    and_from _ _ p.0 (one_more_notion ms n p.1 k)
