-- A superposition, written out at its points and lines.
use Rattle.std.proofs.Common.{◌≡◌, ℕ, List, [], ◌∷◌, refl, ap, sym, ◌∙◌, Bool, true, false, length, arith}
use Rattle.std.specs.Prelude.{◌&&◌, nat_lt, ◌+◌, ◌++◌}
use Rattle.std.proofs.Math.ListN.{get_or}
use Rattle.std.specs.List.{list_all}
use Rattle.e_literal.specs.declared.object.Scope.{Scope}
use Rattle.e_literal.specs.declared.object.Term.TheVariants.{Seg, Ang}
use Rattle.e_literal.specs.declared.literal.Lit.{Lit}
use Rattle.e_literal.specs.declared.literal.Atom.TheVariants.{On, Between, Same, EqP}
use Rattle.e_construct.specs.declared.superpose.Superpose.{Superpose}
use Rattle.e_construct.specs.Shapes.{is, isnt}
use Rattle.e_construct.specs.Superposing.{equal, fits_superposition, needs_of_superposition, gives_of_superposition}

-- ---- six points and two lines

-- what holds of every list of six holds where the length is 6
pub of_six : (P : List ℕ → Type 0) → ((a b c d g h : ℕ) → P (a ∷ b ∷ c ∷ d ∷ g ∷ h ∷ [])) → (xs : List ℕ) → length xs ≡ 6 → P xs
of_six P f [] e = absurd (omega (arith, e))
of_six P f (a ∷ []) e = absurd (omega (arith, e))
of_six P f (a ∷ b ∷ []) e = absurd (omega (arith, e))
of_six P f (a ∷ b ∷ c ∷ []) e = absurd (omega (arith, e))
of_six P f (a ∷ b ∷ c ∷ d ∷ []) e = absurd (omega (arith, e))
of_six P f (a ∷ b ∷ c ∷ d ∷ g ∷ []) e = absurd (omega (arith, e))
of_six P f (a ∷ b ∷ c ∷ d ∷ g ∷ h ∷ []) e = f a b c d g h
of_six P f (a ∷ b ∷ c ∷ d ∷ g ∷ h ∷ i ∷ xs) e = absurd (omega (arith, e))

pub of_two : (P : List ℕ → Type 0) → ((k l : ℕ) → P (k ∷ l ∷ [])) → (ys : List ℕ) → length ys ≡ 2 → P ys
of_two P f [] e = absurd (omega (arith, e))
of_two P f (k ∷ []) e = absurd (omega (arith, e))
of_two P f (k ∷ l ∷ []) e = f k l
of_two P f (k ∷ l ∷ m ∷ ys) e = absurd (omega (arith, e))

abbrev pub at : List ℕ → List ℕ → Superpose
at xs ys = record { points = xs; lines = ys }

-- what holds at six points and two lines holds of every superposition
pub of_eight : (P : List ℕ → List ℕ → Type 0) →
    ((a b c d g h k l : ℕ) → P (a ∷ b ∷ c ∷ d ∷ g ∷ h ∷ []) (k ∷ l ∷ [])) →
    (xs ys : List ℕ) → length xs ≡ 6 → length ys ≡ 2 → P xs ys
of_eight P f xs ys e k =
    of_six (λ zs. P zs ys) (λ a b c d g h. of_two (P (a ∷ b ∷ c ∷ d ∷ g ∷ h ∷ [])) (f a b c d g h) ys k) xs e

-- ---- what fits

-- seven tests, in two groups
grouped : (a b c d g h k : Bool) → (a && (b && (c && (d && (g && (h && true)))))) && k ≡ a && (b && (c && (d && (g && (h && k)))))
grouped false b c d g h k = refl
grouped true false c d g h k = refl
grouped true true false d g h k = refl
grouped true true true false g h k = refl
grouped true true true true false h k = refl
grouped true true true true true false k = refl
grouped true true true true true true k = refl

abbrev pub are_below : ℕ → List ℕ → Bool
are_below limit ns = list_all (λ n. nat_lt n limit) ns

-- a superposition fits where its points are below the number of points, and its lines below that of lines
pub fits_of : (x : Superpose) (s : Scope) → length x.points ≡ 6 → length x.lines ≡ 2 →
    are_below s.points x.points && are_below s.lines x.lines ≡ fits_superposition x s
fits_of x s e f =
    of_eight (λ xs ys. are_below s.points xs && are_below s.lines ys ≡ fits_superposition (at xs ys) s)
    (λ a b c d g h k l.
    grouped (nat_lt a s.points) (nat_lt b s.points) (nat_lt c s.points) (nat_lt d s.points) (nat_lt g s.points)
    (nat_lt h s.points) (nat_lt k s.lines && (nat_lt l s.lines && true)))
    x.points x.lines e f

-- ---- what is needed and given

abbrev pub needs_at : List ℕ → List ℕ → List Lit
needs_at xs ys =
    isnt (is (EqP (get_or xs 0 0) (get_or xs 1 0)))
    ∷ is (On (get_or xs 0 0) (get_or ys 0 0))
    ∷ is (On (get_or xs 1 0) (get_or ys 0 0))
    ∷ isnt (is (On (get_or xs 2 0) (get_or ys 0 0)))
    ∷ isnt (is (EqP (get_or xs 3 0) (get_or xs 4 0)))
    ∷ is (On (get_or xs 3 0) (get_or ys 1 0))
    ∷ is (On (get_or xs 4 0) (get_or ys 1 0))
    ∷ isnt (is (On (get_or xs 5 0) (get_or ys 1 0))) ∷ []

pub needs_of : (x : Superpose) → length x.points ≡ 6 → length x.lines ≡ 2 → needs_at x.points x.lines ≡ needs_of_superposition x
needs_of x e f =
    of_eight (λ xs ys. needs_at xs ys ≡ needs_of_superposition (at xs ys)) (λ a b c d g h k l. refl) x.points x.lines e f

-- a triangle's sides and angles are those of its copy
abbrev pub copied : (a b c p q r : ℕ) → List Lit
copied a b c p q r =
    equal (Seg a b) (Seg p q) ∷ equal (Seg b c) (Seg q r) ∷ equal (Seg c a) (Seg r p)
    ∷ equal (Ang a b c) (Ang p q r) ∷ equal (Ang b c a) (Ang q r p) ∷ equal (Ang c a b) (Ang r p q) ∷ []

abbrev pub placed : (d g h l p q : ℕ) → List Lit
placed d g h l p q = is (On p l) ∷ isnt (is (Between p d g)) ∷ is (Same q h l) ∷ []

abbrev pub gives_at : List ℕ → List ℕ → (p q : ℕ) → List Lit
gives_at xs ys p q =
    copied (get_or xs 0 0) (get_or xs 1 0) (get_or xs 2 0) (get_or xs 3 0) p q
    ++ placed (get_or xs 3 0) (get_or xs 4 0) (get_or xs 5 0) (get_or ys 1 0) p q

pub gives_of : (x : Superpose) (s : Scope) → length x.points ≡ 6 → length x.lines ≡ 2 →
    gives_at x.points x.lines s.points (s.points + 1) ≡ gives_of_superposition x s
gives_of x s e f =
    of_eight (λ xs ys. gives_at xs ys s.points (s.points + 1) ≡ gives_of_superposition (at xs ys) s) (λ a b c d g h k l. refl) x.points x.lines e f

-- as the program tests it, where the points are below their number and where one is not
pub fits_by_lines : (x : Superpose) (s : Scope) (p l : Bool) → length x.points ≡ 6 → length x.lines ≡ 2 → p ≡ true →
    p ≡ are_below s.points x.points → l ≡ are_below s.lines x.lines → l ≡ fits_superposition x s
fits_by_lines x s p l e f t h k = k ∙ ap (λ b. b && are_below s.lines x.lines) (sym t ∙ h) ∙ fits_of x s e f

pub fits_not : (x : Superpose) (s : Scope) (p : Bool) → length x.points ≡ 6 → length x.lines ≡ 2 → p ≡ false →
    p ≡ are_below s.points x.points → p ≡ fits_superposition x s
fits_not x s p e f t h = t ∙ ap (λ b. b && are_below s.lines x.lines) (sym t ∙ h) ∙ fits_of x s e f
