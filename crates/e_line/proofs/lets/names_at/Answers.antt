use Rattle.std.proofs.Common.{◌+◌, [], get_or, drop, map, sym, ap, ◌∙◌, arith}
use Rattle.e_construct.specs.Views.{piece_view}
use Rattle.e_text.specs.Names.{name_of}
use Rattle.e_line.specs.declared.fault.FaultKind.TheVariants.{Malformed}
use Rattle.e_line.specs.declared.fault.LineError.TheVariants.{Fault}
use Rattle.e_line.specs.Reading.{texts, or_malformed, names_of}
use Rattle.e_line.specs.Lets.{words_in_slots}
use Rattle.e_line.proofs.base.Loops.{goes_on, fails, is_done}
use Rattle.e_line.proofs.read_again.Texts.{text_at, length-texts}
use Rattle.e_line.proofs.read_again.Placed.{word_taken, word_left, none_left}
use Rattle.e_line.proofs.lets.names_at.Goals as goal

pub loop-i-preserved-then-not-is_slot_at : goal.loop-i-preserved-then-not-is_slot_at
loop-i-preserved-then-not-is_slot_at c =
    let words = texts c.args.words.now in
    let left = word_left c.args.slot c.args.pieces.now words c.loop-i.i (omega (arith, length-texts c.args.words.now)) (sym c.is_slot_at.ensures ∙ c.if-not-is_slot_at.true) in
    rw (← left) c.loop-i.invariant

pub returns-in-None : goal.returns-in-None
returns-in-None c =
    let words = c.args.words.now in
    let i = c.loop-i.i in
    let here = sym (text_at words i (record { ref_ptr = (0, 0); now = [] })) in
    let taken = word_taken c.args.slot c.args.pieces.now (texts words) i (omega (arith, length-texts words)) (sym c.is_slot_at.ensures ∙ c.if-not-is_slot_at.false) in
    fails (λ w. or_malformed (name_of w)) c.loop-i.names (get_or (texts words) i []) (words_in_slots c.args.slot (map piece_view (drop (i + 1) c.args.pieces.now)) (drop (i + 1) (texts words)))
    (words_in_slots c.args.slot (map piece_view (drop i c.args.pieces.now)) (drop i (texts words))) (Fault Malformed) (names_of (words_in_slots c.args.slot (map piece_view c.args.pieces.now) (texts words))) taken
    (ap (λ w. or_malformed (name_of w)) here ∙ sym (ap or_malformed c.in-None.ensures)) c.loop-i.invariant

pub loop-i-preserved : goal.loop-i-preserved
loop-i-preserved c =
    let words = c.args.words.now in
    let i = c.loop-i.i in
    let here = sym (text_at words i (record { ref_ptr = (0, 0); now = [] })) in
    let taken = word_taken c.args.slot c.args.pieces.now (texts words) i (omega (arith, length-texts words)) (sym c.is_slot_at.ensures ∙ c.if-not-is_slot_at.false) in
    rw c.in_ok-push-in-Some.ensures.ok (goes_on (λ w. or_malformed (name_of w)) c.loop-i.names (get_or (texts words) i []) (words_in_slots c.args.slot (map piece_view (drop (i + 1) c.args.pieces.now)) (drop (i + 1) (texts words)))
    (words_in_slots c.args.slot (map piece_view (drop i c.args.pieces.now)) (drop i (texts words))) c.in-Some.name (names_of (words_in_slots c.args.slot (map piece_view c.args.pieces.now) (texts words))) taken
    (ap (λ w. or_malformed (name_of w)) here ∙ sym (ap or_malformed c.in-Some.ensures)) c.loop-i.invariant)

pub returns : goal.returns
returns c =
    let words = c.args.words.now in
    let i = c.loop-i.i in
    is_done (λ w. or_malformed (name_of w)) c.loop-i.names (words_in_slots c.args.slot (map piece_view (drop i c.args.pieces.now)) (drop i (texts words))) (names_of (words_in_slots c.args.slot (map piece_view c.args.pieces.now) (texts words)))
    (none_left c.args.slot c.args.pieces.now (texts words) i (omega (arith, length-texts words))) c.loop-i.invariant
