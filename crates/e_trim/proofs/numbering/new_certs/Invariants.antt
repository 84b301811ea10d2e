use Rattle.std.proofs.Common.{◌≡◌, ◌++◌, map, drop}
use Rattle.e_trim.specs.Trimmed.{cert_at}
use Rattle.e_trim.proofs.numbering.new_certs.Given as goal

abbrev pub invariant-loop-cert : goal.invariant-loop-cert
invariant-loop-cert l = l.new.items ++ map (cert_at l.kept) (drop l.cert-index l.certs) ≡ map (cert_at l.kept) l.certs
