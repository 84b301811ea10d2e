-- The line of a superposition.
use Rattle.std.proofs.Common.{◌≡◌, List, Ok, refl}
use Rattle.e_literal.specs.declared.literal.Lit.{Lit}
use Rattle.e_construct.specs.declared.superpose.Superpose.{Superpose}
use Rattle.e_construct.specs.Superposing as superposing
use Rattle.e_deriv.specs.Naming.{with_new_names}
use Rattle.e_book.specs.declared.blocks.BlockKind.TheVariants as kind
use Rattle.e_book.specs.declared.parser.TheoremParser.{TheoremParser}
use Rattle.e_line.specs.declared.superposes.RawSuperpose.{RawSuperpose}
use Rattle.e_names.specs.Scope.{scope_of_names}
use Rattle.e_names.specs.Superposes.{superpose_in}
use Rattle.e_book.specs.LineLimits.{few_objects}
use Rattle.e_book.specs.Steps.{after_copies, after_superpose}

pub superposed_is : (d : TheoremParser) (raw : RawSuperpose) (superposition : Superpose) (shown : List Lit) (u : Unit {0}) → superpose_in d.in_scope raw ≡ Ok (superposition, shown)
    → few_objects (with_new_names d.in_scope superposing.sorts_copied raw.new) ≡ Ok u
    → after_superpose d raw ≡ after_copies d (kind.Superpose superposition raw.new shown) (with_new_names d.in_scope superposing.sorts_copied raw.new) (superposing.gives_of_superposition superposition (scope_of_names d.in_scope)) raw.shown
unfolding after_superpose after_copies
superposed_is d raw superposition shown u placed few = rw (placed, few) refl
