use Rattle.std.proofs.Common.{subst, take, Option}
use Rattle.std.specs.Prelude.{IfSome}
use Rattle.e_metric.specs.declared.kind_system.KindSystem.{KindSystem}
use Rattle.e_metric.specs.SolvedSystems.{IsKindSystem}
use Rattle.e_metric.proofs.answers.CertificatesOfFronts.{absurd_stays}
use Rattle.e_metric.proofs.kind_system.system_of_all_facts.Goals as goal

pub with_further_facts-requires-clause-solved_system : goal.with_further_facts-requires-clause-solved_system
with_further_facts-requires-clause-solved_system c =
    subst (IsKindSystem c.args.which (take c.args.from c.args.facts.now)) c.in-Solved.is
    (subst (λ (o : Option KindSystem). IfSome o (IsKindSystem c.args.which (take c.args.from c.args.facts.now))) c.in-Some.is c.requires.known)

pub returns-in-Absurd : goal.returns-in-Absurd
returns-in-Absurd c =
    absurd_stays c.args.which c.args.facts.now c.args.from c.in-Absurd.cert
    (subst (IsKindSystem c.args.which (take c.args.from c.args.facts.now)) c.in-Absurd.is
    (subst (λ (o : Option KindSystem). IfSome o (IsKindSystem c.args.which (take c.args.from c.args.facts.now))) c.in-Some.is c.requires.known))
