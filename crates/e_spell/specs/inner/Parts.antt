-- The texts of the parts of a derivation, as they are written one after the other.
use Rattle.std.specs.Prelude.{ℕ, ℤ, List, [], ◌∷◌, ◌++◌, map, codes, Option, Some, None}
use Rattle.std.specs.Prelude.{if◌then◌else◌}
use Rattle.std.specs.List.{flat_map}
use Rattle.std.specs.Option.{option_to_list}
use Rattle.std.specs.Fmt.{decimal, signed_decimal}
use Rattle.e_literal.specs.declared.object.Sort.{Sort}
use Rattle.e_literal.specs.declared.object.Obj.{Obj}
use Rattle.e_literal.specs.declared.object.Term.{Term}
use Rattle.e_literal.specs.declared.literal.Lit.{Lit}
use Rattle.e_literal.specs.Scopes.{same_sort}
use Rattle.e_construct.specs.declared.superpose.Superpose.{Superpose}
use Rattle.e_construct.specs.Construct.{sorts_made}
use Rattle.e_construct.specs.Superposing as superposing
use Rattle.e_clause.specs.declared.cert.RowName.{RowName}
use Rattle.e_clause.specs.declared.cert.Sums.{Sums}
use Rattle.e_clause.specs.declared.cert.Sums.TheVariants.{One, Two}
use Rattle.e_clause.specs.declared.cert.MetricCert.{MetricCert}
use Rattle.e_clause.specs.declared.cert.Part.{Part}
use Rattle.e_clause.specs.declared.cert.Part.TheVariants.{Fact, Metric, FactAt}
use Rattle.e_clause.specs.declared.cert.TransferCert.{TransferCert}
use Rattle.e_clause.specs.declared.cert.Against.{Against}
use Rattle.e_clause.specs.declared.cert.Against.TheVariants.{Clash, Metric as MetricAgainst}
use Rattle.e_clause.specs.declared.cert.Cert.{Cert}
use Rattle.e_clause.specs.declared.cert.Cert.TheVariants.{Plain, Transfer}
use Rattle.e_deriv.specs.declared.names.Names.{Names}
use Rattle.e_deriv.specs.Naming.{with_new_names}
use Rattle.e_deriv.specs.Script.{Script}
use Rattle.e_deriv.specs.PlainStep.{PlainStep, Cited, Inferred, Made as MadeStep, Applied, Claimed}
use Rattle.e_deriv.specs.PlainStep.{Copied}
use Rattle.e_deriv.specs.declared.stop.Wanted.{Wanted}
use Rattle.e_theorem.specs.declared.statement.Statement.{Statement}
use Rattle.e_line.specs.declared.raw_line.RawLine.{RawLine}
use Rattle.e_names.specs.TitledStatements.{TitledStatement, theorem_of}
use Rattle.e_book.specs.TheoremViews.{TheoremView}
use Rattle.e_text.specs.Tokens.{with_spaces}
use Rattle.e_line.specs.Canonical.{lit_words, sort_word, line_of}
use Rattle.e_names.specs.Canonical.{raw_of, rule_name, name_of_object, by_raw_line, hence_raw_line}
use Rattle.e_names.specs.Canonical.{let_raw_line, apply_raw_line, claim_raw_line}
use Rattle.e_names.specs.Canonical.{superpose_raw_line, cases_raw_line, else_raw_line, qed_raw_line}
use Rattle.e_names.specs.Canonical.{contradiction_raw_line, end_raw_line}
use Rattle.e_book.specs.Canonical.{declared_objects, made_objects, names_of_proof, text_of}
use Rattle.e_spell.specs.declared.declarations.Role.{Role}
use Rattle.e_spell.specs.declared.declarations.Role.TheVariants.{Declared, Made}
use Rattle.e_spell.specs.Certificates.{named_term, row_words}
use Rattle.e_spell.specs.Spelling.{wanted_words, script_lines}

-- a literal after the first word of its line
abbrev pub lit_text : List ℕ → Names → Lit → List ℕ
lit_text word ns l = word ++ (with_spaces (lit_words (raw_of ns l)) ++ 10 ∷ [])

abbrev pub lits_text : List ℕ → Names → List Lit → List ℕ
lits_text word ns ls = flat_map (lit_text word ns) ls

-- a line of these words after the sign `|`
abbrev pub bar_text : List (List ℕ) → List ℕ
bar_text ws = codes "|" ++ (with_spaces ws ++ 10 ∷ [])

abbrev pub row_text : Names → ℤ × RowName → List ℕ
row_text ns r = bar_text (signed_decimal r.0 ∷ row_words ns r.1)

abbrev pub rows_text : Names → List (ℤ × RowName) → List ℕ
rows_text ns rs = flat_map (row_text ns) rs

abbrev pub sum_text : Names → List (ℤ × RowName) → List ℕ
sum_text ns sum = bar_text (codes "sum" ∷ []) ++ rows_text ns sum

abbrev pub differs_text : Names → RowName → List ℕ
differs_text ns row = bar_text (codes "differs" ∷ row_words ns row)

abbrev pub sums_text : Names → Sums → List ℕ
sums_text ns (One sum) = sum_text ns sum
sums_text ns (Two differs above below) =
    differs_text ns differs ++ (sum_text ns above ++ sum_text ns below)

abbrev pub metric_text : Names → MetricCert → List ℕ
metric_text ns m = bar_text (codes "metric" ∷ []) ++ sums_text ns m.sums

-- a fact by its place
abbrev pub place_text : ℕ → List ℕ
place_text k = bar_text (codes "fact" ∷ decimal k ∷ [])

abbrev pub part_text : Names → Part → List ℕ
part_text ns Fact = bar_text (codes "fact" ∷ [])
part_text ns (Metric m) = metric_text ns m
part_text ns (FactAt k) = place_text k

abbrev pub parts_text : Names → List Part → List ℕ
parts_text ns ps = flat_map (part_text ns) ps

-- the line of a transfer: its rule and its arguments
abbrev pub instance_text : Names → ℕ → List Obj → List ℕ
instance_text ns rule args =
    bar_text (codes "transfer" ∷ rule_name rule ∷ map (name_of_object ns) args)

abbrev pub transfer_text : Names → TransferCert → List ℕ
transfer_text ns t = instance_text ns t.rule t.args ++ parts_text ns t.parts

abbrev pub cert_text : Names → Cert → List ℕ
cert_text ns (Plain p) = part_text ns p
cert_text ns (Transfer t) = transfer_text ns t

abbrev pub certs_text : Names → List Cert → List ℕ
certs_text ns cs = flat_map (cert_text ns) cs

abbrev pub against_text : Names → Against → List ℕ
against_text ns (Clash l) = lit_text (codes "| clash") ns l
against_text ns (MetricAgainst m) = metric_text ns m

-- the certificate of a contradiction, where it has one
abbrev pub contradiction_text : Names → Option Against → List ℕ
contradiction_text ns None = []
contradiction_text ns (Some a) = against_text ns a

-- a raw line as it is spelled, with its end
abbrev pub raw_line_text : RawLine → List ℕ
raw_line_text f = line_of f ++ 10 ∷ []

-- the line of a superposition
unfoldable pub superposition_text : Names → Superpose → List (List ℕ) → List Lit → List ℕ
superposition_text ns superposition names shown =
    raw_line_text (superpose_raw_line ns superposition names shown)

-- the lines of a script with its certificates
unfoldable pub script_text : List TitledStatement → Names → Script → List ℕ
script_text known ns d = text_of (script_lines known ns d)

-- a step with its certificates, and the block inside it
abbrev pub step_text : List TitledStatement → Names → PlainStep → List ℕ
step_text known ns (Cited by) = raw_line_text (by_raw_line ns by)
step_text known ns (Inferred lit cert) =
    raw_line_text (hence_raw_line ns lit) ++ certs_text ns (option_to_list cert)
step_text known ns (MadeStep construction names certs) =
    raw_line_text (let_raw_line ns construction names) ++ certs_text ns certs
step_text known ns (Applied theorem args names certs) =
    raw_line_text (apply_raw_line known ns theorem args names) ++ certs_text ns certs
step_text known ns (Claimed shown inner) =
    raw_line_text (claim_raw_line ns shown) ++ script_text known ns inner
step_text known ns (Copied superposition names shown certs inner) =
    superposition_text ns superposition names shown
    ++ (certs_text ns certs ++ script_text known (with_new_names ns superposing.sorts_copied names) inner)

-- the names in scope after a step: those of an inner block are gone
abbrev pub names_after_step : List TitledStatement → Names → PlainStep → Names
names_after_step known ns (Cited by) = ns
names_after_step known ns (Inferred lit cert) = ns
names_after_step known ns (MadeStep construction names certs) =
    with_new_names ns (sorts_made construction) names
names_after_step known ns (Applied theorem args names certs) =
    with_new_names ns (theorem_of known theorem).made names
names_after_step known ns (Claimed shown inner) = ns
names_after_step known ns (Copied superposition names shown certs inner) = ns

-- and after several
abbrev pub names_after : List TitledStatement → Names → List PlainStep → Names
names_after known ns [] = ns
names_after known ns (s ∷ steps) = names_after known (names_after_step known ns s) steps

abbrev pub steps_text : List TitledStatement → Names → List PlainStep → List ℕ
steps_text known ns [] = []
steps_text known ns (s ∷ steps) =
    step_text known ns s ++ steps_text known (names_after_step known ns s) steps

abbrev pub qed_text : Names → List Obj → List Cert → List ℕ
qed_text ns objects cs = raw_line_text (qed_raw_line ns objects) ++ certs_text ns cs

abbrev pub contradicted_text : Names → Option Against → List ℕ
contradicted_text ns against = raw_line_text contradiction_raw_line ++ contradiction_text ns against

-- two blocks after the line of a split
abbrev pub split_text : List TitledStatement → Names → Lit → Script → Script → List ℕ
split_text known ns lit first second =
    raw_line_text (cases_raw_line ns lit)
    ++ (script_text known ns first ++ (raw_line_text else_raw_line ++ script_text known ns second))

abbrev pub proof_text : List TitledStatement → Names → Script → List ℕ
proof_text known ns d = script_text known ns d ++ raw_line_text end_raw_line

-- the first words of a line of objects
abbrev pub role_words : Role → Sort → List ℕ
role_words Declared s = sort_word s
role_words Made s = codes "made" ++ 32 ∷ sort_word s

-- what comes before the name of an object, by the sort of the object before it: nothing on a line
-- of that sort
abbrev pub before_name : Role → Option Sort → Sort → List ℕ
before_name role None s = role_words role s
before_name role (Some t) s = if same_sort t s then [] else 10 ∷ role_words role s

-- the end of the last line, where there is one
abbrev pub last_line_end : Option Sort → List ℕ
last_line_end None = []
last_line_end (Some t) = 10 ∷ []

-- the lines of these objects, after an object of this sort
abbrev pub objects_rest : Role → Names → Option Sort → List Obj → List ℕ
objects_rest role ns last [] = last_line_end last
objects_rest role ns last (o ∷ os) =
    (before_name role last o.sort ++ 32 ∷ name_of_object ns o) ++ objects_rest role ns (Some o.sort) os

abbrev pub objects_text : Role → Names → List Obj → List ℕ
objects_text role ns os = objects_rest role ns None os

abbrev pub title_text : List ℕ → List ℕ
title_text title = codes "theorem" ++ 32 ∷ (title ++ 10 ∷ [])

abbrev pub statement_text : Names → Statement → List ℕ
statement_text ns t =
    objects_text Declared ns (declared_objects t) ++ (lits_text (codes "given") ns t.given
    ++ (objects_text Made ns (made_objects t) ++ lits_text (codes "show") ns t.shown))

abbrev pub head_text : List ℕ → Names → Statement → List ℕ
head_text title ns t = title_text title ++ (statement_text ns t ++ (codes "proof" ++ 10 ∷ []))

-- the spelling in its parts
abbrev pub theorem_text : List TitledStatement → TheoremView → Script → List ℕ
theorem_text known t d =
    head_text t.title t.names t.statement ++ proof_text known (names_of_proof t) d

-- ---- the last lines of a stop

-- what happened at a line of a theorem
abbrev pub place_line : List ℕ → List ℕ → ℕ → List ℕ
place_line what title step = what ++ (with_spaces (title ∷ decimal step ∷ []) ++ 10 ∷ [])

abbrev pub wanted_line : Names → Wanted → List ℕ
wanted_line ns wanted = bar_text (codes "wanted" ∷ wanted_words ns wanted)

abbrev pub value_line : Names → Term × ℕ → List ℕ
value_line ns v = bar_text (codes "value" ∷ (named_term ns v.0 ++ decimal v.1 ∷ []))

abbrev pub values_text : Names → List (Term × ℕ) → List ℕ
values_text ns vs = flat_map (value_line ns) vs

-- where there are values
abbrev pub values_of_text : Names → Option (List (Term × ℕ)) → List ℕ
values_of_text ns None = []
values_of_text ns (Some values) = values_text ns values

abbrev pub width_line : ℕ → List ℕ
width_line width = bar_text (codes "width" ∷ decimal width ∷ [])
