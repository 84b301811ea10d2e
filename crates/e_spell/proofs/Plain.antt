-- The lines of a spelling that are not a certificate's.
use Rattle.std.proofs.Common.{◌≡◌, ℕ, true, List, [], ◌∷◌, ◌++◌, map, refl, sym, ap, ◌∙◌}
use Rattle.std.specs.Prelude.{filter}
use Rattle.std.specs.Option.{option_to_list}
use Rattle.std.proofs.lemmas.List.Elements.{filter-append}
use Rattle.e_literal.specs.declared.object.Sort.TheVariants.{Point, Line, Circle}
use Rattle.e_clause.specs.declared.cert.Cert.{Cert}
use Rattle.e_deriv.specs.declared.names.Names.{Names}
use Rattle.e_construct.specs.Construct.{sorts_made}
use Rattle.e_construct.specs.Superposing as superposing
use Rattle.e_deriv.specs.Naming.{with_new_names}
use Rattle.e_deriv.specs.Script.{Script, Cite, Hence, Make, Apply, Claim, Superposed, Qed, Contradiction, Cases, bare_script}
use Rattle.e_line.specs.declared.raw_line.RawLine.{RawLine}
use Rattle.e_line.specs.declared.raw_line.RawLine.TheVariants as rawlines
use Rattle.e_deriv.specs.Parts.{filled_by}
use Rattle.e_names.specs.TitledStatements.{TitledStatement, theorem_of}
use Rattle.e_book.specs.TheoremViews.{TheoremView}
use Rattle.e_line.specs.Canonical.{line_of}
use Rattle.e_names.specs.Canonical.{by_raw_line, hence_raw_line, let_raw_line, apply_raw_line, claim_raw_line, superpose_raw_line, qed_raw_line, contradiction_raw_line, cases_raw_line, else_raw_line, end_raw_line}
use Rattle.e_book.specs.Canonical.{head_raw_lines, script_raw_lines, names_of_proof, raw_lines_of}
use Rattle.e_spell.specs.Certificates.{certs_lines}
use Rattle.e_spell.specs.Spelling.{script_lines, spelled_lines}
use Rattle.e_spell.specs.Laws.{is_plain_line, filled_entry}
use Rattle.e_spell.proofs.CertLines.{certs_go, contradiction_goes}

form_is_plain : (f : RawLine) → is_plain_line (line_of f) ≡ true
form_is_plain (rawlines.Theorem t) = refl
form_is_plain (rawlines.Declare Point ns) = refl
form_is_plain (rawlines.Declare Line ns) = refl
form_is_plain (rawlines.Declare Circle ns) = refl
form_is_plain (rawlines.Given ls) = refl
form_is_plain (rawlines.Made sort ns) = refl
form_is_plain (rawlines.Show ls) = refl
form_is_plain rawlines.Proof = refl
form_is_plain (rawlines.By r ns l) = refl
form_is_plain (rawlines.Hence l) = refl
form_is_plain (rawlines.Let l) = refl
form_is_plain (rawlines.Apply a) = refl
form_is_plain (rawlines.Qed ns) = refl
form_is_plain rawlines.Contradiction = refl
form_is_plain (rawlines.Claim ls) = refl
form_is_plain (rawlines.Superpose s) = refl
form_is_plain (rawlines.Cases l) = refl
form_is_plain rawlines.Else = refl
form_is_plain rawlines.End = refl

keep : (line : List ℕ) (lines : List (List ℕ)) → is_plain_line line ≡ true → filter is_plain_line (line ∷ lines) ≡ line ∷ filter is_plain_line lines
keep line lines e = rw e refl

forms_stay : (fs : List RawLine) → filter is_plain_line (map line_of fs) ≡ map line_of fs
forms_stay [] = refl
forms_stay (f ∷ fs) = keep (line_of f) (map line_of fs) (form_is_plain f) ∙ ap (λ (x : List (List ℕ)). line_of f ∷ x) (forms_stay fs)

lines_append : (fs gs : List RawLine) → map line_of (fs ++ gs) ≡ map line_of fs ++ map line_of gs
lines_append [] gs = refl
lines_append (f ∷ fs) gs = ap (λ (x : List (List ℕ)). line_of f ∷ x) (lines_append fs gs)

-- lines after certificates
certified_stay : (ns : Names) (cs : List Cert) (lines : List (List ℕ)) → filter is_plain_line (certs_lines ns cs ++ lines) ≡ filter is_plain_line lines
certified_stay ns cs lines = filter-append is_plain_line (certs_lines ns cs) lines ∙ ap (λ (x : List (List ℕ)). x ++ filter is_plain_line lines) (certs_go ns cs)

-- lines of two parts
both_stay : (xs ys : List (List ℕ)) (fs gs : List RawLine) → filter is_plain_line xs ≡ map line_of fs → filter is_plain_line ys ≡ map line_of gs → filter is_plain_line (xs ++ ys) ≡ map line_of (fs ++ gs)
both_stay xs ys fs gs x y =
    filter-append is_plain_line xs ys ∙ ap (λ (l : List (List ℕ)). l ++ filter is_plain_line ys) x ∙ ap (λ (l : List (List ℕ)). map line_of fs ++ l) y ∙ sym (lines_append fs gs)

script_stays : (known : List TitledStatement) (ns : Names) (d : Script) → filter is_plain_line (script_lines known ns d) ≡ map line_of (script_raw_lines known ns (bare_script d))
unfolding script_lines script_raw_lines bare_script
script_stays known ns (Cite by rest) = ap (λ (x : List (List ℕ)). line_of (by_raw_line ns by) ∷ x) (script_stays known ns rest)
script_stays known ns (Hence lit cert rest) =
    ap (λ (x : List (List ℕ)). line_of (hence_raw_line ns lit) ∷ x) (certified_stay ns (option_to_list cert) (script_lines known ns rest) ∙ script_stays known ns rest)
script_stays known ns (Make construction names cs rest) =
    let after = with_new_names ns (sorts_made construction) names in
    ap (λ (x : List (List ℕ)). line_of (let_raw_line ns construction names) ∷ x) (certified_stay ns cs (script_lines known after rest) ∙ script_stays known after rest)
script_stays known ns (Apply theorem args names cs rest) =
    let after = with_new_names ns (theorem_of known theorem).made names in
    ap (λ (x : List (List ℕ)). line_of (apply_raw_line known ns theorem args names) ∷ x) (certified_stay ns cs (script_lines known after rest) ∙ script_stays known after rest)
script_stays known ns (Claim shown inner rest) =
    ap (λ (x : List (List ℕ)). line_of (claim_raw_line ns shown) ∷ x)
    (both_stay (script_lines known ns inner) (script_lines known ns rest) (script_raw_lines known ns (bare_script inner)) (script_raw_lines known ns (bare_script rest)) (script_stays known ns inner) (script_stays known ns rest))
script_stays known ns (Superposed superposition names shown cs inner rest) =
    let inside = with_new_names ns superposing.sorts_copied names in
    ap (λ (x : List (List ℕ)). line_of (superpose_raw_line ns superposition names shown) ∷ x)
    (certified_stay ns cs (script_lines known inside inner ++ script_lines known ns rest)
    ∙ both_stay (script_lines known inside inner) (script_lines known ns rest) (script_raw_lines known inside (bare_script inner)) (script_raw_lines known ns (bare_script rest)) (script_stays known inside inner) (script_stays known ns rest))
script_stays known ns (Qed objects cs) = ap (λ (x : List (List ℕ)). line_of (qed_raw_line ns objects) ∷ x) (certs_go ns cs)
script_stays known ns (Contradiction a) = ap (λ (x : List (List ℕ)). line_of contradiction_raw_line ∷ x) (contradiction_goes ns a)
script_stays known ns (Cases lit first second) =
    ap (λ (x : List (List ℕ)). line_of (cases_raw_line ns lit) ∷ x)
    (both_stay (script_lines known ns first) (line_of else_raw_line ∷ script_lines known ns second) (script_raw_lines known ns (bare_script first)) (else_raw_line ∷ script_raw_lines known ns (bare_script second)) (script_stays known ns first)
    (ap (λ (x : List (List ℕ)). line_of else_raw_line ∷ x) (script_stays known ns second)))

pub plain_lines : (known : List TitledStatement) (t : TheoremView) (d : Script) → bare_script d ≡ filled_by t.script d → filter is_plain_line (spelled_lines known t d) ≡ map line_of (raw_lines_of known (filled_entry t d))
plain_lines known t d e =
    let end = line_of end_raw_line ∷ [] in
    let ns = names_of_proof t in
    let script = filled_by t.script d in
    filter-append is_plain_line (map line_of (head_raw_lines t)) (script_lines known ns d ++ end)
    ∙ ap (λ (x : List (List ℕ)). x ++ filter is_plain_line (script_lines known ns d ++ end)) (forms_stay (head_raw_lines t))
    ∙ ap (λ (x : List (List ℕ)). map line_of (head_raw_lines t) ++ x)
    (filter-append is_plain_line (script_lines known ns d) end ∙ ap (λ (x : List (List ℕ)). x ++ end) (script_stays known ns d ∙ ap (λ (s : Script). map line_of (script_raw_lines known ns s)) e) ∙ sym (lines_append (script_raw_lines known ns script) (end_raw_line ∷ [])))
    ∙ sym (lines_append (head_raw_lines t) (script_raw_lines known ns script ++ end_raw_line ∷ []))
