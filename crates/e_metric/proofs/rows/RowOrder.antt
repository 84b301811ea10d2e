-- Rows in another order: they have the same solutions, and minors of the same sizes.
use Rattle.std.proofs.Common.{◌≡◌, ℕ, suc, List, [], ◌∷◌, ◌++◌, map, length, get_or, refl, sym, ap, ap₂, ◌∙◌, subst, arith, inl, inr, append_assoc}
use Rattle.std.specs.Prelude.{unsigned_abs}
use Rattle.std.proofs.Common.{length-append}
use Rattle.std.proofs.lemmas.List.{map-append}
use lib.IntN.{ℤ, neg_ℤ}
use Rattle.e_literal.specs.Rows.{Row}
use Rattle.e_literal.specs.Minor.{determinant, Column, Constants, SignedRow, entry, IsWide, IsPart}
use Rattle.e_literal.proofs.Arith.{sums}
use Rattle.e_clause.specs.System.{NamedRow}
use Rattle.e_clause.proofs.Named.{Each, each-append}
use Rattle.e_metric.specs.RowOrder.{IsOne, AreReordered}
use Rattle.e_metric.proofs.rows.Forms.{none_more}
use Rattle.e_fraction.specs.Det.{det}
use Rattle.e_fraction.proofs.Expand.{expand_twice}
use Rattle.e_fraction.proofs.Named.{numbered, det_named}
use Rattle.e_fraction.proofs.Moved.{UpToSign, up_to_sign-cons, up_to_sign-append, same_size, join_parts, numbered_append}

abbrev row_of : NamedRow → Row
row_of n = n.row

at_one : (P : NamedRow → Type 0) (n : NamedRow) (ns : List NamedRow) → IsOne n ns → Each P ns → P n
at_one P n [] h e = absurd h
at_one P n (m ∷ ms) (inl q) e = subst P (sym q) e.0
at_one P n (m ∷ ms) (inr q) e = at_one P n ms q e.1

each_in : (P : NamedRow → Type 0) (ns : List NamedRow) → ((n : NamedRow) → IsOne n ns → P n) → Each P ns
each_in P [] f = tt
each_in P (n ∷ ns) f = (f n (inl refl), each_in P ns (λ m q. f m (inr q)))

of_each : (ns ms : List NamedRow) → ((P : NamedRow → Type 0) → Each P ms → Each P ns) → (n : NamedRow) → IsOne n ns → IsOne n ms
of_each ns ms f n h = at_one (λ m. IsOne m ms) n ns h (f (λ m. IsOne m ms) (each_in (λ m. IsOne m ms) ms (λ m q. q)))

pub each_reordered : (ns ms : List NamedRow) → AreReordered ns ms → (P : NamedRow → Type 0) → Each P ms → Each P ns
each_reordered ns ms h P e = each_in P ns (λ n q. at_one P n ms (h.there n q) e)

pub back_reordered : (ns ms : List NamedRow) → AreReordered ns ms → (P : NamedRow → Type 0) → Each P ns → Each P ms
back_reordered ns ms h P e = each_in P ms (λ n q. at_one P n ns (h.back n q) e)

pub wide_reordered : (ns ms : List NamedRow) → AreReordered ns ms → IsWide (map row_of ns) → IsWide (map row_of ms)
wide_reordered ns ms h w = subst (λ v. IsWide (map row_of v)) (none_more ms) (h.wide [] (subst (λ v. IsWide (map row_of v)) (sym (none_more ns)) w))

pub same_order : (ns : List NamedRow) → AreReordered ns ns
same_order ns = record { there = λ n h. h; back = λ n h. h; wide = λ more h. h; many = refl }

pub one_order : (ns ms os : List NamedRow) → AreReordered ns ms → AreReordered ms os → AreReordered ns os
one_order ns ms os h k = record {
  there = λ n q. k.there n (h.there n q);
  back = λ n q. h.back n (k.back n q);
  wide = λ more w. k.wide more (h.wide more w);
  many = h.many ∙ k.many;
}

-- ---- determinants

up_to_signs : (ps qs rs : List (ℕ → ℤ)) → UpToSign ps qs → UpToSign qs rs → UpToSign ps rs
up_to_signs ps qs rs (inl h) (inl k) = inl (λ cs. h cs ∙ k cs)
up_to_signs ps qs rs (inl h) (inr k) = inr (λ cs. h cs ∙ k cs)
up_to_signs ps qs rs (inr h) (inl k) = inr (λ cs. h cs ∙ ap neg_ℤ (k cs))
up_to_signs ps qs rs (inr h) (inr k) = inl (λ cs. omega (arith, sums, h cs, k cs))

two_rows : (r s : ℕ → ℤ) (qs : List (ℕ → ℤ)) → UpToSign (r ∷ s ∷ qs) (s ∷ r ∷ qs)
two_rows r s qs = inr (λ cs. omega (arith, sums, expand_twice r s (det qs) cs))

-- a row is put after some
one_after : (r : ℕ → ℤ) (xs ys : List (ℕ → ℤ)) → UpToSign (r ∷ (xs ++ ys)) (xs ++ r ∷ ys)
one_after r [] ys = inl (λ cs. refl)
one_after r (x ∷ xs) ys =
    up_to_signs (r ∷ x ∷ (xs ++ ys)) (x ∷ r ∷ (xs ++ ys)) (x ∷ (xs ++ r ∷ ys))
    (two_rows r x (xs ++ ys)) (up_to_sign-cons x (r ∷ (xs ++ ys)) (xs ++ r ∷ ys) (one_after r xs ys))

blocks_swapped : (xs ys zs : List (ℕ → ℤ)) → UpToSign (xs ++ (ys ++ zs)) (ys ++ (xs ++ zs))
blocks_swapped [] ys zs = inl (λ cs. refl)
blocks_swapped (x ∷ xs) ys zs =
    up_to_signs (x ∷ (xs ++ (ys ++ zs))) (x ∷ (ys ++ (xs ++ zs))) (ys ++ x ∷ (xs ++ zs))
    (up_to_sign-cons x (xs ++ (ys ++ zs)) (ys ++ (xs ++ zs)) (blocks_swapped xs ys zs)) (one_after x ys (xs ++ zs))

-- ---- the same over terms

-- the places in a list of columns
abbrev places : ℕ → List Column → List ℕ
places k [] = []
places k (c ∷ cs) = k ∷ places (suc k) cs

abbrev column_at : List Column → ℕ → Column
column_at cs n = get_or cs n Constants

get_after : (ds : List Column) (c : Column) (cs : List Column) → get_or (ds ++ c ∷ cs) (length ds) Constants ≡ c
get_after [] c cs = refl
get_after (d ∷ ds) c cs = get_after ds c cs

append_one : (ds : List Column) (c : Column) (cs : List Column) → (ds ++ c ∷ []) ++ cs ≡ ds ++ c ∷ cs
append_one [] c cs = refl
append_one (d ∷ ds) c cs = ap (λ xs. d ∷ xs) (append_one ds c cs)

places_after : (ds cs : List Column) → map (column_at (ds ++ cs)) (places (length ds) cs) ≡ cs
places_after ds [] = refl
places_after ds (c ∷ cs) =
    ap₂ {A = Column} {B = List Column} (λ x xs. x ∷ xs) (get_after ds c cs)
    (ap₂ {A = List Column} {B = ℕ} (λ es n. map (column_at es) (places n cs)) (sym (append_one ds c cs)) (sym more) ∙ places_after (ds ++ c ∷ []) cs)
  where
    more : length (ds ++ c ∷ []) ≡ suc (length ds)
    more = omega (arith, length-append ds (c ∷ []))

module _ (columns : List Column) where
  abbrev name : ℕ → Column
  name = column_at columns

  abbrev lines : List SignedRow → List (ℕ → ℤ)
  lines ss = numbered name (map entry ss)

  lines_append : (xs ys : List SignedRow) → lines (xs ++ ys) ≡ lines xs ++ lines ys
  lines_append xs ys = ap (numbered name) (map-append entry xs ys) ∙ numbered_append name (map entry xs) (map entry ys)

  determinant_is : (ss : List SignedRow) → det (lines ss) (places 0 columns) ≡ determinant (map entry ss) columns
  determinant_is ss = det_named name (map entry ss) (places 0 columns) ∙ ap (determinant (map entry ss)) (places_after [] columns)

  four_lines : (as' bs cs ds : List SignedRow) → lines (as' ++ (bs ++ (cs ++ ds))) ≡ lines as' ++ (lines bs ++ (lines cs ++ lines ds))
  four_lines as' bs cs ds =
      lines_append as' (bs ++ (cs ++ ds))
      ∙ ap (λ v. lines as' ++ v) (lines_append bs (cs ++ ds) ∙ ap (λ v. lines bs ++ v) (lines_append cs ds))

  sizes_are : (as' bs cs ds : List SignedRow)
      → unsigned_abs (determinant (map entry (as' ++ (bs ++ (cs ++ ds)))) columns) ≡ unsigned_abs (determinant (map entry (as' ++ (cs ++ (bs ++ ds)))) columns)
  sizes_are as' bs cs ds =
      ap unsigned_abs (sym (determinant_is (as' ++ (bs ++ (cs ++ ds)))) ∙ ap (λ v. det v (places 0 columns)) (four_lines as' bs cs ds))
      ∙ same_size (lines as' ++ (lines bs ++ (lines cs ++ lines ds))) (lines as' ++ (lines cs ++ (lines bs ++ lines ds))) (places 0 columns)
      (up_to_sign-append (lines as') (lines bs ++ (lines cs ++ lines ds)) (lines cs ++ (lines bs ++ lines ds)) (blocks_swapped (lines bs) (lines cs) (lines ds)))
      ∙ ap unsigned_abs (ap (λ v. det v (places 0 columns)) (sym (four_lines as' cs bs ds)) ∙ determinant_is (as' ++ (cs ++ (bs ++ ds))))

-- ---- parts

abbrev given : SignedRow → Row
given s = s.row

record Split (chosen : List SignedRow) (xs zs : List Row) : Type 0 where
  left : List SignedRow
  right : List SignedRow
  joined : chosen ≡ left ++ right
  left_part : IsPart (map given left) xs
  right_part : IsPart (map given right) zs

split_part : (cs : List SignedRow) (xs zs : List Row) → IsPart (map given cs) (xs ++ zs) → Split cs xs zs
split_part cs [] zs h = record { left = []; right = cs; joined = refl; left_part = refl; right_part = h }
split_part cs (x ∷ xs) zs (inl h) = (let s = split_part cs xs zs h in
    record { left = s.left; right = s.right; joined = s.joined; left_part = inl s.left_part; right_part = s.right_part })
split_part [] (x ∷ xs) zs (inr (qs, e, h)) = absurd (cc)
split_part (c ∷ cs) (x ∷ xs) zs (inr (qs, e, h)) =
    (let first : c.row ≡ x = cc in
    let rest : map given cs ≡ qs = cc in
    let s = split_part cs xs zs (subst (λ v. IsPart v (xs ++ zs)) (sym rest) h) in
    record {
      left = c ∷ s.left;
      right = s.right;
      joined = ap (λ v. c ∷ v) s.joined;
      left_part = inr (map given s.left, ap (λ r. r ∷ map given s.left) first, s.left_part);
      right_part = s.right_part;
    })

join_chosen : (ls rs : List SignedRow) (xs zs : List Row) → IsPart (map given ls) xs → IsPart (map given rs) zs → IsPart (map given (ls ++ rs)) (xs ++ zs)
join_chosen ls rs xs zs h k = subst (λ v. IsPart v (xs ++ zs)) (sym (map-append given ls rs)) (join_parts (map given ls) (map given rs) xs zs h k)

wide_blocks : (xs ys zs ws : List Row) → IsWide (xs ++ (ys ++ (zs ++ ws))) → IsWide (xs ++ (zs ++ (ys ++ ws)))
wide_blocks xs ys zs ws h =
    (let s = split_part h.chosen xs (ys ++ (zs ++ ws)) h.is_part in
    let t = split_part s.right ys (zs ++ ws) s.right_part in
    let u = split_part t.right zs ws t.right_part in
    let is : h.chosen ≡ s.left ++ (t.left ++ (u.left ++ u.right)) = s.joined ∙ ap (λ v. s.left ++ v) (t.joined ∙ ap (λ v. t.left ++ v) u.joined) in
    let new = s.left ++ (u.left ++ (t.left ++ u.right)) in
    record {
      chosen = new;
      is_part = join_chosen s.left (u.left ++ (t.left ++ u.right)) xs (zs ++ (ys ++ ws)) s.left_part
          (join_chosen u.left (t.left ++ u.right) zs (ys ++ ws) u.left_part (join_chosen t.left u.right ys ws t.left_part u.right_part));
      columns = h.columns;
      square = omega (
        arith,
        h.square,
        ap (λ (v : List SignedRow). length v) is,
        length-append s.left (t.left ++ (u.left ++ u.right)),
        length-append t.left (u.left ++ u.right),
        length-append u.left u.right,
        length-append s.left (u.left ++ (t.left ++ u.right)),
        length-append u.left (t.left ++ u.right),
        length-append t.left u.right,
      );
      is_large = omega (
        arith,
        h.is_large,
        ap (λ v. unsigned_abs (determinant (map entry v) h.columns)) is,
        sizes_are h.columns s.left t.left u.left u.right,
      );
    })

-- ---- named rows

each_left : (P : NamedRow → Type 0) (xs ys : List NamedRow) → Each P (xs ++ ys) → Each P xs
each_left P [] ys h = tt
each_left P (x ∷ xs) ys h = (h.0, each_left P xs ys h.1)

each_right : (P : NamedRow → Type 0) (xs ys : List NamedRow) → Each P (xs ++ ys) → Each P ys
each_right P [] ys h = h
each_right P (x ∷ xs) ys h = each_right P xs ys h.1

each_blocks : (P : NamedRow → Type 0) (xs ys zs ws : List NamedRow) → Each P (xs ++ (ys ++ (zs ++ ws))) → Each P (xs ++ (zs ++ (ys ++ ws)))
each_blocks P xs ys zs ws h =
    let first = each_left P xs (ys ++ (zs ++ ws)) h in
    let later = each_right P xs (ys ++ (zs ++ ws)) h in
    let second = each_left P ys (zs ++ ws) later in
    let rest = each_right P ys (zs ++ ws) later in
    each-append P xs (zs ++ (ys ++ ws)) first
    (each-append P zs (ys ++ ws) (each_left P zs ws rest) (each-append P ys ws second (each_right P zs ws rest)))

rows_of_four : (xs ys zs ws : List NamedRow) → map row_of (xs ++ (ys ++ (zs ++ ws))) ≡ map row_of xs ++ (map row_of ys ++ (map row_of zs ++ map row_of ws))
rows_of_four xs ys zs ws =
    map-append row_of xs (ys ++ (zs ++ ws))
    ∙ ap (λ v. map row_of xs ++ v) (map-append row_of ys (zs ++ ws) ∙ ap (λ v. map row_of ys ++ v) (map-append row_of zs ws))

tail_in : (xs ys zs ws more : List NamedRow) → (xs ++ (ys ++ (zs ++ ws))) ++ more ≡ xs ++ (ys ++ (zs ++ (ws ++ more)))
tail_in xs ys zs ws more =
    append_assoc xs (ys ++ (zs ++ ws)) more ∙ ap (λ v. xs ++ v) (append_assoc ys (zs ++ ws) more ∙ ap (λ v. ys ++ v) (append_assoc zs ws more))

-- two neighbouring blocks change places
pub blocks : (xs ys zs ws : List NamedRow) → AreReordered (xs ++ (ys ++ (zs ++ ws))) (xs ++ (zs ++ (ys ++ ws)))
blocks xs ys zs ws = record {
  there = of_each (xs ++ (ys ++ (zs ++ ws))) (xs ++ (zs ++ (ys ++ ws))) (λ P h. each_blocks P xs zs ys ws h);
  back = of_each (xs ++ (zs ++ (ys ++ ws))) (xs ++ (ys ++ (zs ++ ws))) (λ P h. each_blocks P xs ys zs ws h);
  wide = λ more h. subst (λ v. IsWide (map row_of v)) (sym (tail_in xs zs ys ws more)) (subst IsWide (sym (rows_of_four xs zs ys (ws ++ more)))
      (wide_blocks (map row_of xs) (map row_of ys) (map row_of zs) (map row_of (ws ++ more)) (subst IsWide (rows_of_four xs ys zs (ws ++ more)) (subst (λ v. IsWide (map row_of v)) (tail_in xs ys zs ws more) h))));
  many = omega (
    arith,
    length-append xs (ys ++ (zs ++ ws)),
    length-append ys (zs ++ ws),
    length-append zs ws,
    length-append xs (zs ++ (ys ++ ws)),
    length-append zs (ys ++ ws),
    length-append ys ws,
  );
}

-- five blocks, of which the last two come each after another
pub two_after : (a t r g n : List NamedRow) → AreReordered ((a ++ (t ++ r)) ++ (g ++ n)) ((a ++ g) ++ ((t ++ n) ++ r))
two_after a t r g n =
    let first : (a ++ (t ++ r)) ++ (g ++ n) ≡ a ++ ((t ++ r) ++ (g ++ n)) = append_assoc a (t ++ r) (g ++ n) in
    let second : a ++ (g ++ ((t ++ r) ++ n)) ≡ (a ++ (g ++ t)) ++ (r ++ (n ++ [])) =
    ap (λ v. a ++ (g ++ v)) (append_assoc t r n) ∙ ap (λ v. a ++ v) (sym (append_assoc g t (r ++ n))) ∙ sym (append_assoc a (g ++ t) (r ++ n))
    ∙ ap (λ v. (a ++ (g ++ t)) ++ (r ++ v)) (sym (none_more n)) in
    let third : (a ++ (g ++ t)) ++ (n ++ (r ++ [])) ≡ (a ++ g) ++ ((t ++ n) ++ r) =
    ap (λ v. (a ++ (g ++ t)) ++ (n ++ v)) (none_more r) ∙ append_assoc a (g ++ t) (n ++ r) ∙ ap (λ v. a ++ v) (append_assoc g t (n ++ r) ∙ ap (λ v. g ++ v) (sym (append_assoc t n r)))
    ∙ sym (append_assoc a g ((t ++ n) ++ r)) in
    subst (λ v. AreReordered v ((a ++ g) ++ ((t ++ n) ++ r))) (sym first)
    (one_order (a ++ ((t ++ r) ++ (g ++ n))) (a ++ (g ++ ((t ++ r) ++ n))) ((a ++ g) ++ ((t ++ n) ++ r)) (blocks a (t ++ r) g n)
    (subst (λ v. AreReordered v ((a ++ g) ++ ((t ++ n) ++ r))) (sym second)
    (subst (AreReordered ((a ++ (g ++ t)) ++ (r ++ (n ++ [])))) third (blocks (a ++ (g ++ t)) r n []))))

-- more rows after
pub reordered_more : (ns ms more : List NamedRow) → AreReordered ns ms → AreReordered (ns ++ more) (ms ++ more)
reordered_more ns ms more h = record {
  there = of_each (ns ++ more) (ms ++ more) (λ P e. each-append P ns more (each_reordered ns ms h P (each_left P ms more e)) (each_right P ms more e));
  back = of_each (ms ++ more) (ns ++ more) (λ P e. each-append P ms more (back_reordered ns ms h P (each_left P ns more e)) (each_right P ns more e));
  wide = λ rest w. subst (λ v. IsWide (map row_of v)) (sym (append_assoc ms more rest)) (h.wide (more ++ rest) (subst (λ v. IsWide (map row_of v)) (append_assoc ns more rest) w));
  many = omega (arith, h.many, length-append ns more, length-append ms more);
}
