-- Texts that spell no proofs.
use Rattle.std.proofs.Common.{◌≡◌, ℕ, ◌+◌, List, [], ◌∷◌, length, inl, inr, Err, refl, sym, ap, ◌∙◌, subst, arith}
use Rattle.std.specs.Prelude.{codes}
use Rattle.e_text.specs.Names.{reserved_words}
use Rattle.e_text.specs.Lines.{AreShort, lf_text, numbered_lines}
use Rattle.e_text.proofs.WrittenLines.{lines_of-lf_text}
use Rattle.e_clause.specs.declared.cert.Version.TheVariants.{One}
use Rattle.e_deriv.specs.Script.{size}
use Rattle.e_line.specs.Reading.{first_word, first_title, first_name, no_word_left, some_names, two_names}
use Rattle.e_line.specs.RawLines.{declare_of, sort_of, theorem_line_of, bare_line, raw_line_named, raw_line_of}
use Rattle.e_line.specs.Literals.{sums_of, sides_of, lit_of_sides, lit_by_first_word, lit_after_not, lit_of}
use Rattle.e_line.specs.CanonicalLines.{canonical_line_of}
use Rattle.e_names.specs.Scope.{number_of_name, atom_in, lit_in, qed_in}
use Rattle.e_book.specs.Open.{after_close}
use Rattle.e_read.specs.Owing.{due_in_block}
use Rattle.e_read.specs.Text.{at_start, piece_from}
use Rattle.e_judgement.specs.declared.judgement.Judgement.TheVariants.{Garbled}
use Rattle.e_judgement.specs.Judged.{JudgesLines, lines_of_text}
use Rattle.e_roundtrip.specs.Written.{SpellsProofs}
use Rattle.e_roundtrip.proofs.Texts.GarbledTexts.{garbled_spells_nothing}

-- the lines of a text
lines_are : (lines : List (List ℕ)) → AreShort 262144 lines → lines_of_text (lf_text lines) ≡ numbered_lines 1 lines
lines_are lines short = lines_of-lf_text (record { longest = 262144; most = length (lf_text lines) }) (record { line = 1; before = 0 }) lines short (omega arith)

-- a theorem that shows nothing
abbrev without_show : List (List ℕ)
without_show = codes "theorem T" ∷ codes "proof" ∷ codes "qed" ∷ codes "end" ∷ codes "accepted 1" ∷ []

abbrev shows_nothing : List ℕ
shows_nothing = codes "derivation 1\ntheorem T\nproof\nqed\nend\naccepted 1\n"

is_text : shows_nothing ≡ lf_text (codes "derivation 1" ∷ without_show)
is_text = refl

short_lines : AreShort 262144 (codes "derivation 1" ∷ without_show)
short_lines = ((refl, omega arith), ((refl, omega arith), ((refl, omega arith), ((refl, omega arith), ((refl, omega arith), ((refl, omega arith), tt))))))

too_soon : piece_from [] 7 (at_start One) (numbered_lines 2 without_show) ≡ Err 3
unfolding piece_from canonical_line_of raw_line_of raw_line_named first_word first_title no_word_left theorem_line_of bare_line reserved_words
too_soon = refl

-- a text of which a line of the next block is malformed spells no proofs
spells_nothing : (text : List ℕ) (lines : List (List ℕ)) (line : ℕ) → text ≡ lf_text (codes "derivation 1" ∷ lines) → AreShort 262144 (codes "derivation 1" ∷ lines) → piece_from [] (2 + length (numbered_lines 2 lines)) (at_start One) (numbered_lines 2 lines) ≡ Err line
    → (n : ℕ) → SpellsProofs n text → ⊥
spells_nothing text lines line e short there n s =
    let garbled : JudgesLines (numbered_lines 1 (codes "derivation 1" ∷ lines)) (Garbled line) = record { theorems = []; known = []; rest = numbered_lines 2 lines; passes = (refl, refl); closes = inr (inl (line, there, refl)) } in
    garbled_spells_nothing text n line (subst (λ ls. JudgesLines ls (Garbled line)) (sym (ap lines_of_text e ∙ lines_are (codes "derivation 1" ∷ lines) short)) garbled) s

nothing_shown : (n : ℕ) → SpellsProofs n shows_nothing → ⊥
nothing_shown = spells_nothing shows_nothing without_show 3 is_text short_lines too_soon

-- a theorem without the certificate that its last line owes
abbrev without_certificate : List (List ℕ)
without_certificate = codes "theorem T" ∷ codes "points a b" ∷ codes "show a = b" ∷ codes "proof" ∷ codes "qed" ∷ codes "end" ∷ codes "accepted 1" ∷ []

abbrev certifies_nothing : List ℕ
certifies_nothing = codes "derivation 1\ntheorem T\npoints a b\nshow a = b\nproof\nqed\nend\naccepted 1\n"

is_text_too : certifies_nothing ≡ lf_text (codes "derivation 1" ∷ without_certificate)
is_text_too = refl

short_too : AreShort 262144 (codes "derivation 1" ∷ without_certificate)
short_too = ((refl, omega arith), ((refl, omega arith), ((refl, omega arith), ((refl, omega arith), ((refl, omega arith), ((refl, omega arith), ((refl, omega arith), ((refl, omega arith), tt))))))))

still_owed : piece_from [] 9 (at_start One) (numbered_lines 2 without_certificate) ≡ Err 7
unfolding piece_from canonical_line_of raw_line_of raw_line_named first_word first_title first_name no_word_left theorem_line_of bare_line declare_of sort_of some_names two_names lit_of lit_after_not lit_by_first_word lit_of_sides sums_of sides_of lit_in atom_in number_of_name qed_in due_in_block after_close size reserved_words
still_owed = refl

nothing_certified : (n : ℕ) → SpellsProofs n certifies_nothing → ⊥
nothing_certified = spells_nothing certifies_nothing without_certificate 7 is_text_too short_too still_owed
