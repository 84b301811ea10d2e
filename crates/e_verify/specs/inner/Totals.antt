-- What a list of coefficients, each with the key of its term, says of a term. A term may come
-- several times.
use Rattle.std.specs.Prelude.{◌≡◌, ℕ, Bool, List, [], ◌∷◌, ℤ, pos, ◌+ℤ◌, ◌&&◌, nat_eq, nat_lt}
use Rattle.std.specs.Prelude.{IsTrue, if◌then◌else◌}
use Rattle.std.specs.List.{list_all}
use Rattle.std.specs.Ordering.{int_eq}
use Rattle.std.specs.Int.{int_wrap, w128}
use Rattle.e_literal.specs.declared.object.Term.{Term}
use Rattle.e_literal.specs.declared.object.Term.TheVariants.{Seg, Ang, Area, Right}
use Rattle.e_literal.specs.NormalForm.{numbers_of}
use Rattle.e_verify.specs.inner.Fingerprint.{packed_number}

-- the kind and the points of a term as one number
abbrev pub term_key : Term → ℕ
term_key (Seg a b) = packed_number 0 a b 0
term_key (Ang a b c) = packed_number 1 a b c
term_key (Area a b c) = packed_number 2 a b c
term_key Right = packed_number 3 0 0 0

-- the points have numbers below 2^16, as those of the program: such terms have keys of their own
abbrev pub is_narrow : Term → Bool
is_narrow t = list_all (λ n. nat_lt n 65536) (numbers_of t)

-- the key of such a term
abbrev pub IsKey : ℕ → Type 0
IsKey key = (t : Term) × IsTrue (is_narrow t) × (term_key t ≡ key)

-- a coefficient with such a key
abbrev pub IsKeyed : ℕ × ℤ → Type 0
IsKeyed e = IsKey e.0

-- the key is that of the term
abbrev pub is_its_key : Term → ℕ → Bool
is_its_key t key = is_narrow t && nat_eq key (term_key t)

-- the sum of the coefficients of the term
abbrev pub total_at : List (ℕ × ℤ) → Term → ℤ
total_at [] t = pos 0
total_at (e ∷ es) t = (if is_its_key t e.0 then e.1 else pos 0) +ℤ total_at es t

-- The sum of each run of equal keys is 0 modulo 2^128. `key` and `so_far` are the key and the sum
-- of the run under way. In a list sorted by key a run has all that there is of its key.
abbrev pub cancel_in_runs : ℕ → ℤ → List (ℕ × ℤ) → Bool
cancel_in_runs key so_far [] = int_eq so_far (pos 0)
cancel_in_runs key so_far (e ∷ es) =
    if nat_eq e.0 key
    then cancel_in_runs key (int_wrap w128 (so_far +ℤ e.1)) es
    else (int_eq so_far (pos 0) && cancel_in_runs e.0 (int_wrap w128 e.1) es)
