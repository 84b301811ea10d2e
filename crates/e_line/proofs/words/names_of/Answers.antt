use Rattle.std.proofs.Common.{◌+◌, [], get_or, drop, sym, ap, ◌∙◌, arith}
use Rattle.e_text.specs.Names.{name_of}
use Rattle.e_line.specs.declared.fault.FaultKind.TheVariants.{Malformed}
use Rattle.e_line.specs.declared.fault.LineError.TheVariants.{Fault}
use Rattle.e_line.specs.Reading.{texts, or_malformed, names_of}
use Rattle.e_line.proofs.base.Loops.{goes_on, fails, rest_at}
use Rattle.e_line.proofs.read_again.Texts.{text_at, length-texts}
use Rattle.e_line.proofs.words.names_of.Goals as goal

pub returns-in-None : goal.returns-in-None
returns-in-None c =
    let words = c.args.words.now in
    let i = c.loop-word.word-index in
    let here = sym (text_at words i (record { ref_ptr = (0, 0); now = [] })) in
    fails (λ w. or_malformed (name_of w)) c.loop-word.names (get_or (texts words) i []) (drop (i + 1) (texts words)) (drop i (texts words)) (Fault Malformed) (names_of (texts words)) (rest_at (texts words) i [] (omega (arith, length-texts words)))
    (ap (λ w. or_malformed (name_of w)) here ∙ sym (ap or_malformed c.in-None.ensures)) c.loop-word.invariant

pub loop-word-preserved : goal.loop-word-preserved
loop-word-preserved c =
    let words = c.args.words.now in
    let i = c.loop-word.word-index in
    let here = sym (text_at words i (record { ref_ptr = (0, 0); now = [] })) in
    rw c.in_ok-push-in-Some.ensures.ok (goes_on (λ w. or_malformed (name_of w)) c.loop-word.names (get_or (texts words) i []) (drop (i + 1) (texts words)) (drop i (texts words)) c.in-Some.name (names_of (texts words)) (rest_at (texts words) i [] (omega (arith, length-texts words)))
    (ap (λ w. or_malformed (name_of w)) here ∙ sym (ap or_malformed c.in-Some.ensures)) c.loop-word.invariant)
