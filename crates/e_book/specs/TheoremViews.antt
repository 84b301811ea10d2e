-- A theorem of a book as the grammar reads it.
use Rattle.std.specs.Prelude.{ℕ, List}
use Rattle.e_deriv.specs.declared.names.Names.{Names}
use Rattle.e_deriv.specs.Script.{Script, script_of}
use Rattle.e_theorem.specs.declared.statement.Statement.{Statement}
use Rattle.e_book.specs.declared.theorem.Theorem.{Theorem}

pub record TheoremView : Type 0 where
  pub title : List ℕ
  pub names : Names
  pub statement : Statement
  pub script : Script

-- a theorem of the code, without where its steps lie
abbrev pub entry_of : Theorem → TheoremView
entry_of t =
    record { title = t.title; names = t.names; statement = t.statement; script = script_of t.block }
