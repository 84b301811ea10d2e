use Rattle.e_read.proofs.SeenAgain.{line_again}
use Rattle.e_read.proofs.reading.BlockParser.take_bytes.Goals as goal

pub returns-in-Some-clause-value : goal.returns-in-Some-clause-value
returns-in-Some-clause-value c = line_again c.args.known.now c.args.self.now c.args.line.now c.in-Some.cert_line.now c.take_cert_line.result c.take_cert_line.new.owed c.in-Some.ensures c.take_cert_line.ensures.value
