use Rattle.std.proofs.Common.{Ok, Err}
use Rattle.e_line.specs.Reading.{texts}
use Rattle.e_read.proofs.SeenAgain.{line_read}
use Rattle.e_read.proofs.reading.BlockParser.take_certificate.Goals as goal

pub returns-in-Err-clause-value : goal.returns-in-Err-clause-value
returns-in-Err-clause-value c = line_read c.args.self.now c.args.line.now (texts c.args.words.now) c.in_ok-cert_line.cert_line (Err c.in-Err.error) c.take_cert_line.new.owed c.in_ok-cert_line.ensures c.in-Err.ensures.value

pub returns-clause-value : goal.returns-clause-value
returns-clause-value c = rw c.put.ensures (line_read c.args.self.now c.args.line.now (texts c.args.words.now) c.in_ok-cert_line.cert_line (Ok c.in_default.field-0) c.take_cert_line.new.owed c.in_ok-cert_line.ensures c.in_default.ensures.value)
