-- The binding of each variable.
use Rattle.std.specs.Prelude.{◌≡◌, ℕ, List, Bool, true, ◌==◌, slice_index_or, length, Option, Some}
use Rattle.std.specs.Prelude.{None, IsTrue}
use Rattle.e_transfer.specs.declared.equations.Equation.{Equation}
use Rattle.e_transfer.specs.declared.unify.Binding.{Binding}
use Rattle.e_transfer.specs.declared.unify.Binding.TheVariants as binding
use Rattle.e_transfer.specs.inner.Equations.{agrees, all_agree}

-- the number of the variable is as the binding says
abbrev pub binding_agrees : (ℕ → ℕ) → ℕ → Binding → Bool
binding_agrees f v binding.Free = true
binding_agrees f v (binding.Is n) = f v == n
binding_agrees f v (binding.As w) = f v == f w

-- the binding of a variable; one that has none is free
abbrev pub binding_at : List Binding → ℕ → Binding
binding_at bindings v = slice_index_or bindings v binding.Free

-- the numbers of all variables are as the bindings say
abbrev pub BindingsAgree : (ℕ → ℕ) → List Binding → Type 0
BindingsAgree f bindings = (v : ℕ) → IsTrue (binding_agrees f v (binding_at bindings v))

-- numbers that agree with the bindings and the equation agree with the new bindings, and are not
-- excluded
abbrev pub TakesIn : List Binding → List Binding → Equation → Bool → Type 0
TakesIn old new b result =
    (f : ℕ → ℕ) → BindingsAgree f old → IsTrue (agrees f b) → IsTrue result × BindingsAgree f new

-- numbers that agree with the equations agree with the bindings, of which there is one for each
-- variable; or no numbers do
abbrev pub BindingsAre : ℕ → List Equation → Option (List Binding) → Type 0
BindingsAre total equations (Some bindings) =
    (length bindings ≡ total)
    × ((f : ℕ → ℕ) → IsTrue (all_agree f equations) → BindingsAgree f bindings)
BindingsAre total equations None = (f : ℕ → ℕ) → IsTrue (all_agree f equations) → ⊥
