use Rattle.std.proofs.Common.{◌≡◌, ◌++◌, drop}
use Rattle.e_spell.specs.inner.Parts.{certs_text}
use Rattle.e_spell.proofs.certificates.put_certs.Given as goal

abbrev pub invariant-loop-cert : goal.invariant-loop-cert
invariant-loop-cert l = l.out.items ++ certs_text l.names (drop l.cert-index l.certs) ≡ l.initial.out.items ++ certs_text l.names l.certs
