use Rattle.e_verify.proofs.comparing.Fingerprints.{apart_by_number}
use Rattle.e_verify.proofs.facts.Fact.is_same.Goals as goal

pub returns-else-self-fingerprint : goal.returns-else-self-fingerprint
returns-else-self-fingerprint c = apart_by_number _ _ _ _ _ c.self.view_is c.self.invariant c.requires c.if-self-fingerprint.false
