use Rattle.std.proofs.Common.{take}
use Rattle.std.specs.Prelude.{◌≡◌, IsTrue}
use Rattle.std.specs.List.{list_all}
use Rattle.e_clause.specs.Certify.{certify_all}
use Rattle.e_clause.specs.declared.cert.Version.TheVariants as version
use Rattle.e_clause.specs.Versions.{is_cert_of}
use Rattle.e_prove.proofs.licence.licences.Given as goal

abbrev pub invariant-loop-lit : goal.invariant-loop-lit
invariant-loop-lit l =
    record {
      same : l.context ≡ l.initial.context;
      certified : IsTrue (certify_all l.initial.context.scope l.initial.context.facts (take l.lit-index l.lits) l.certs.items);
      version : IsTrue (list_all (is_cert_of version.One) l.certs.items);
    }
