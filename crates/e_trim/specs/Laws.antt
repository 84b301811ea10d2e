-- What is trimmed of a certified derivation of the first version is certified.
use Rattle.std.specs.Prelude.{List, ◌≤◌, IsTrue}
use Rattle.std.specs.List.{list_all}
use Rattle.e_literal.specs.Use.{StatementView, is_statement}
use Rattle.e_clause.specs.declared.cert.Version.{Version}
use Rattle.e_clause.specs.declared.cert.Version.TheVariants.{One}
use Rattle.e_deriv.specs.Script.{Script, size, depth}
use Rattle.e_deriv.specs.Versions.{has_certs_of}
use Rattle.e_deriv.specs.Certified.{Certified}
use Rattle.e_trim.specs.Trimmed.{trimmed_script}

abbrev pub TrimmedIsCertified : Type 0
TrimmedIsCertified =
    (before : List StatementView) (t : StatementView) (d : Script)
    → IsTrue (list_all is_statement before) → IsTrue (is_statement t) → IsTrue (has_certs_of One d)
    → Certified before t d
    → Certified before t (trimmed_script before t d)

-- it has no more steps, and no more blocks one inside the other
abbrev pub TrimmedIsShorter : Type 0
TrimmedIsShorter =
    (before : List StatementView) (t : StatementView) (d : Script)
    → (size (trimmed_script before t d) ≤ size d) × (depth (trimmed_script before t d) ≤ depth d)

-- it is of the same version
abbrev pub TrimmedKeepsVersion : Type 0
TrimmedKeepsVersion =
    (v : Version) (before : List StatementView) (t : StatementView) (d : Script)
    → IsTrue (has_certs_of v d) → IsTrue (has_certs_of v (trimmed_script before t d))
