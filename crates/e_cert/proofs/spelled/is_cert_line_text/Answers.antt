use Rattle.std.proofs.Common.{◌∙◌, arith}
use Rattle.e_cert.specs.CertLines.{cert_line_words}
use Rattle.e_cert.proofs.ComparedLines.{is_line}
use Rattle.e_cert.proofs.spelled.is_cert_line_text.Goals as goal

pub returns : goal.returns
returns c =
    c.is_spelled.ensures
    ∙ rw (c.compare_words.ensures, c.new-text.ensures) (is_line c.args.line.now (cert_line_words c.args.cert_line.now) (omega arith) (omega (arith, c.if-sign-ne124.false)))
