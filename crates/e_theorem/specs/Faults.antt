-- When each fault comes.
use Rattle.std.specs.Prelude.{List, IsFalse}
use Rattle.e_literal.specs.declared.object.Obj.{Obj}
use Rattle.e_literal.specs.declared.object.Scope.{Scope}
use Rattle.e_literal.specs.Use.{StatementView, are_arguments}
use Rattle.e_theorem.specs.declared.application.UseFault.{UseFault}
use Rattle.e_theorem.specs.declared.application.UseFault.TheVariants.{BadArgs, NoMemory}

-- BadArgs only where the arguments do not fit; running out of memory is free
abbrev pub UseFaultIs : StatementView → List Obj → Scope → UseFault → Type 0
UseFaultIs t args s BadArgs = IsFalse (are_arguments t s args)
UseFaultIs t args s NoMemory = Unit {0}
