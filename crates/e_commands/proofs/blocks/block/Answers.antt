use Rattle.e_theorem.specs.Statements.{as_view}
use Rattle.e_deriv.specs.Certified.{Certified}
use Rattle.e_deriv.specs.Script.{script_of}
use Rattle.e_deriv.proofs.Agreement.{proof_of_certified}
use Rattle.e_names.specs.TitledStatements.{stated_by}
use Rattle.e_commands.proofs.blocks.block.Goals as goal

pub returns-clause-block : goal.returns-clause-block
returns-clause-block c =
    let before = stated_by c.args.known.now in
    let statement = as_view c.args.theorem.now.statement in
    let derivation = script_of c.in_ok-derivation.derivation in
    let certified : Certified before statement derivation = rw c.statements.ensures at c.in_ok-derivation.ensures.certified in
    record {
      derivation = derivation;
      sound = record {
        proves = proof_of_certified before statement derivation certified;
        certified = certified;
        own = c.in_ok-derivation.ensures.script;
        licensed = rw c.statements.ensures at c.in_ok-derivation.ensures.licensed;
        written = c.in_ok-derivation.ensures.written c.requires.good;
        version = c.in_ok-derivation.ensures.version;
      };
      spells = c.in_ok-text.ensures;
    }
