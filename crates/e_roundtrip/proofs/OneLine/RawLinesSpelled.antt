-- A line of a proof that is read is spelled with the names that it was read with.
use Rattle.std.proofs.Common.{◌≡◌, ℕ, ◌+◌, Bool, true, false, cond, eqb, List, [], ◌∷◌, ◌++◌, length, map, Option, Some, None, Result, Ok, Err, refl, sym, ap, subst, ◌∙◌, arith, append_assoc}
use Rattle.std.specs.List.{list_any}
use Rattle.std.proofs.lemmas.Bool.{eqb-true}
use Rattle.std.proofs.lemmas.List.{map-append}
use Rattle.e_literal.specs.declared.object.Sort.{Sort}
use Rattle.e_literal.specs.declared.object.Sort.TheVariants.{Point, Line}
use Rattle.e_literal.specs.declared.object.Obj.{Obj}
use Rattle.e_literal.specs.declared.object.Scope.{Scope}
use Rattle.e_literal.specs.declared.literal.Lit.{Lit}
use Rattle.e_clause.specs.declared.cert.By.{By}
use Rattle.e_clause.specs.Instance.{number_of_rule}
use Rattle.e_clause.specs.Sigs.{sig_of}
use Rattle.e_clause.specs.RuleKinds.{is_diagram_rule}
use Rattle.e_construct.specs.declared.construction.Shape.{Shape}
use Rattle.e_construct.specs.declared.construction.Construction.{Construction}
use Rattle.e_construct.specs.declared.superpose.Superpose.{Superpose}
use Rattle.e_construct.specs.Construct.{fits_construction, sorts_made}
use Rattle.e_construct.specs.Lines.{Piece, pieces, takes}
use Rattle.e_deriv.specs.declared.names.Names.{Names}
use Rattle.e_line.specs.declared.fault.FaultKind.{FaultKind}
use Rattle.e_line.specs.declared.fault.FaultKind.TheVariants.{UnknownName}
use Rattle.e_line.specs.declared.literal.RawLit.{RawLit}
use Rattle.e_line.specs.declared.lets.RawLet.{RawLet}
use Rattle.e_line.specs.declared.superposes.RawSuperpose.{RawSuperpose}
use Rattle.e_line.specs.declared.applies.RawApply.{RawApply}
use Rattle.e_line.specs.declared.raw_line.RawLine.TheVariants as rawlines
use Rattle.e_line.specs.Reading.{◌>>=◌, each}
use Rattle.e_names.specs.TitledStatements.{TitledStatement, theorem_of, place_in}
use Rattle.e_line.specs.Literals.{is_diagram_raw}
use Rattle.e_names.specs.Superposes.{placed_in, superpose_in}
use Rattle.e_names.specs.Scope.{scope_of_names, used_object, fresh, lit_in, lits_in, object_as, known_rule, variables_of, right_count, args_in, by_in, right_sort, arguments_in, construction, first_fitting, let_in, objects_of_sorts, qed_in}
use Rattle.e_names.specs.Applies.{known_place, entry_in, entries_in, apply_in}
use Rattle.e_names.specs.Canonical.{name_of_object, placed_names, by_raw_line, hence_raw_line, let_raw_line, argument_name, apply_raw_line, claim_raw_line, superpose_raw_line, cases_raw_line, qed_raw_line}
use Rattle.e_line.specs.Canonical.{line_pieces, line_of}
use Rattle.e_names.proofs.read_lines.Citations.{counted}
use Rattle.e_line.proofs.base.Bound.{bind_ok, ok_is, read_ok}
use Rattle.e_names.proofs.read_lines.Building.{placed_after}
use Rattle.e_names.proofs.read_lines.Uses.{found_title}
use Rattle.e_line.specs.CanonicalLines.{is_canonical_lit, are_canonical_lits}
use Rattle.e_roundtrip.proofs.OneLine.NamesSpelled.{keeps_all, used_named, number_named, object_named}
use Rattle.e_roundtrip.proofs.OneLine.LitsRead.{Signed, AllSigned}
use Rattle.e_roundtrip.proofs.OneLine.LitsSpelled.{each_back, canonical, diagram_canonical, lit_named, lits_named}
use Rattle.e_roundtrip.proofs.OneLine.RulesSpelled.{rule_named, args_named}
use Rattle.e_roundtrip.proofs.OneLine.LinePieces.{AllHave, OneLine}

-- ---- literals

pub hence_spelled : (ns : Names) (r : RawLit) (l : Lit) → is_canonical_lit r ≡ true → Signed r → lit_in ns r ≡ Ok l → hence_raw_line ns l ≡ rawlines.Hence r
hence_spelled ns r l d s e = ap (λ (x : RawLit). rawlines.Hence x) (lit_named ns ns r l (keeps_all ns) (canonical r d s) e)

pub cases_spelled : (ns : Names) (r : RawLit) (l : Lit) → is_canonical_lit r ≡ true → Signed r → lit_in ns r ≡ Ok l → cases_raw_line ns l ≡ rawlines.Cases r
cases_spelled ns r l d s e = ap (λ (x : RawLit). rawlines.Cases x) (lit_named ns ns r l (keeps_all ns) (canonical r d s) e)

pub claim_spelled : (ns : Names) (rs : List RawLit) (ls : List Lit) → are_canonical_lits rs ≡ true → AllSigned rs → lits_in ns rs ≡ Ok ls → claim_raw_line ns ls ≡ rawlines.Claim rs
claim_spelled ns rs ls d s e = ap (λ (x : List RawLit). rawlines.Claim x) (lits_named ns ns rs ls (keeps_all ns) d s e)

-- ---- citations

abbrev cited : ℕ → List Obj → Lit → By
cited r args l = record { rule = r; args = args; lit = l }

known_rule_is : (o : Option ℕ) (r : ℕ) → known_rule o ≡ Ok r → o ≡ Some r
known_rule_is None r e = absurd cc
known_rule_is (Some k) r e = by_test (is_diagram_rule k) e
  where
    by_test : (b : Bool) → cond b (read_ok k) (Err UnknownName) ≡ Ok r → Some k ≡ Some r
    by_test true h = ap (λ (n : ℕ). Some n) (ok_is k r h)
    by_test false h = absurd cc

pub by_spelled : (ns : Names) (rule : List ℕ) (names : List (List ℕ)) (r : RawLit) (b : By) → is_diagram_raw r.atom ≡ true → by_in ns rule names r ≡ Ok b → by_raw_line ns b ≡ rawlines.By rule names r
unfolding by_in
by_spelled ns rule names r b d e =
    let k = keeps_all ns in
    let a = bind_ok (known_rule (number_of_rule rule)) (λ r1. variables_of (sig_of r1) >>= λ s. right_count (eqb (length names) (s.points + s.lines + s.circles)) >>= λ right. args_in ns s names >>= λ args. lit_in ns r >>= λ l. read_ok (cited r1 args l)) b e in
    let s = bind_ok (variables_of (sig_of a.0)) (λ s. right_count (eqb (length names) (s.points + s.lines + s.circles)) >>= λ right. args_in ns s names >>= λ args. lit_in ns r >>= λ l. read_ok (cited a.0 args l)) b a.2 in
    let n = bind_ok (right_count (eqb (length names) (s.0.points + s.0.lines + s.0.circles))) (λ right. args_in ns s.0 names >>= λ args. lit_in ns r >>= λ l. read_ok (cited a.0 args l)) b s.2 in
    let os = bind_ok (args_in ns s.0 names) (λ args. lit_in ns r >>= λ l. read_ok (cited a.0 args l)) b n.2 in
    let l = bind_ok (lit_in ns r) (λ l. read_ok (cited a.0 os.0 l)) b os.2 in
    ap (by_raw_line ns) (sym (ok_is (cited a.0 os.0 l.0) b l.2))
    ∙ rw (rule_named rule a.0 (known_rule_is (number_of_rule rule) a.0 a.1), args_named ns ns s.0 names os.0 k os.1, lit_named ns ns r l.0 k (diagram_canonical r d) l.1) refl

-- ---- constructions

-- the arguments stand after those that were found
arguments_named : (ns : Names) (shapes : List Shape) (found : List Obj) (names : List (List ℕ)) (os : List Obj) → arguments_in ns shapes found names ≡ Ok os → map (name_of_object ns) os ≡ map (name_of_object ns) found ++ names
arguments_named ns shapes found [] os e = ap (map (name_of_object ns)) (sym (ok_is found os e)) ∙ sym (append-none (map (name_of_object ns) found))
  where
    append-none : (l : List (List ℕ)) → l ++ [] ≡ l
    append-none [] = refl
    append-none (x ∷ l) = ap (λ (m : List (List ℕ)). x ∷ m) (append-none l)
arguments_named ns shapes found (name ∷ names) os e =
    let a = bind_ok (used_object ns name) (λ o. right_sort (list_any (λ s. takes s (found ++ o ∷ [])) shapes) >>= λ right. arguments_in ns shapes (found ++ o ∷ []) names) os e in
    let b = bind_ok (right_sort (list_any (λ s. takes s (found ++ a.0 ∷ [])) shapes)) (λ right. arguments_in ns shapes (found ++ a.0 ∷ []) names) os a.2 in
    arguments_named ns shapes (found ++ a.0 ∷ []) names os b.2 ∙ ap (λ (l : List (List ℕ)). l ++ names) (map-append (name_of_object ns) found (a.0 ∷ []))
    ∙ append_assoc (map (name_of_object ns) found) (name_of_object ns a.0 ∷ []) names ∙ ap (λ (n : List ℕ). map (name_of_object ns) found ++ n ∷ names) (used_named ns ns name a.0 (keeps_all ns) a.1)

-- the construction has one of the shapes, and these objects
record Chosen (ps : List Piece) (args avoid : List Obj) (construction : Construction) : Type 0 where
  line : pieces construction.shape ≡ ps
  args_are : construction.args ≡ args
  avoid_are : construction.avoid ≡ avoid

chosen : (ps : List Piece) (s : Scope) (args avoid : List Obj) (shapes : List Shape) (construction : Construction) → AllHave ps shapes → first_fitting s args avoid shapes ≡ Ok construction → Chosen ps args avoid construction
chosen ps s args avoid [] construction h e = absurd cc
chosen ps s args avoid (x ∷ shapes) form h e = by_test (fits_construction (construction x args avoid) s) (λ k. chosen ps s args avoid shapes form h.1 k) e
  where
    by_test : (b : Bool) → (first_fitting s args avoid shapes ≡ Ok form → Chosen ps args avoid form) → cond b (read_ok (construction x args avoid)) (first_fitting s args avoid shapes) ≡ Ok form → Chosen ps args avoid form
    by_test true more k = subst (λ (f : Construction). Chosen ps args avoid f) (ok_is (construction x args avoid) form k) (record { line = h.0; args_are = refl; avoid_are = refl })
    by_test false more k = more k

pub let_spelled : (ns : Names) (l : RawLet) (construction : Construction) → OneLine l → let_in ns l ≡ Ok construction → line_of (let_raw_line ns construction l.new) ≡ line_of (rawlines.Let l)
unfolding let_in
let_spelled ns l construction h e =
    let s = scope_of_names ns in
    let count : Construction → Result Construction FaultKind = λ f. right_count (eqb (length l.new) (length (sorts_made f))) >>= λ right. read_ok f in
    let a = bind_ok (fresh ns [] l.new) (λ free. arguments_in ns l.shapes [] l.args >>= λ args. each (used_object ns) l.avoid >>= λ avoid. first_fitting s args avoid l.shapes >>= count) construction e in
    let b = bind_ok (arguments_in ns l.shapes [] l.args) (λ args. each (used_object ns) l.avoid >>= λ avoid. first_fitting s args avoid l.shapes >>= count) construction a.2 in
    let c = bind_ok (each (used_object ns) l.avoid) (λ avoid. first_fitting s b.0 avoid l.shapes >>= count) construction b.2 in
    let d = bind_ok (first_fitting s b.0 c.0 l.shapes) count construction c.2 in
    let r = bind_ok (right_count (eqb (length l.new) (length (sorts_made d.0)))) (λ right. read_ok d.0) construction d.2 in
    let f = chosen (line_pieces l.shapes) s b.0 c.0 l.shapes d.0 h d.1 in
    let args : map (name_of_object ns) d.0.args ≡ l.args = ap (map (name_of_object ns)) f.args_are ∙ arguments_named ns l.shapes [] l.args b.0 b.1 in
    let avoid : map (name_of_object ns) d.0.avoid ≡ l.avoid = ap (map (name_of_object ns)) f.avoid_are ∙ each_back (used_object ns) (name_of_object ns) (λ name o k. used_named ns ns name o (keeps_all ns) k) l.avoid c.0 c.1 in
    ap (λ (x : Construction). line_of (let_raw_line ns x l.new)) (sym (ok_is d.0 construction r.2)) ∙ rw (f.line, args, avoid) refl

-- ---- uses of earlier theorems

entries_named : (ns : Names) (sorts : List Sort) (names : List (Option (List ℕ))) (os : List (Option Obj)) → length names ≡ length sorts → entries_in ns sorts names ≡ Ok os → map (argument_name ns) os ≡ names
entries_named ns [] [] os n e = ap (map (argument_name ns)) (sym (ok_is [] os e))
entries_named ns [] (name ∷ names) os n e = absurd (omega (arith, n))
entries_named ns (sort ∷ sorts) [] os n e = absurd (omega (arith, n))
entries_named ns (sort ∷ sorts) (name ∷ names) os n e =
    let a = bind_ok (entry_in ns sort name) (λ o. entries_in ns sorts names >>= λ xs. read_ok (o ∷ xs)) os e in
    let b = bind_ok (entries_in ns sorts names) (λ xs. read_ok (a.0 ∷ xs)) os a.2 in
    ap (map (argument_name ns)) (sym (ok_is (a.0 ∷ b.0) os b.2)) ∙ rw (one name a.0 a.1, entries_named ns sorts names b.0 (omega (arith, n)) b.1) refl
  where
    one : (name : Option (List ℕ)) (o : Option Obj) → entry_in ns sort name ≡ Ok o → argument_name ns o ≡ name
    one None o e = ap (argument_name ns) (sym (ok_is None o e))
    one (Some x) o e =
        let a = bind_ok (object_as ns sort x) (λ o. read_ok (Some o)) o e in
        ap (argument_name ns) (sym (ok_is (Some a.0) o a.2)) ∙ ap (λ (w : List ℕ). Some w) (object_named ns ns sort x a.0 (keeps_all ns) a.1)

abbrev applied : ℕ → List (Option Obj) → ℕ × List (Option Obj)
applied k args = (k, args)

pub apply_spelled : (known : List TitledStatement) (ns : Names) (raw : RawApply) (p : ℕ × List (Option Obj)) → apply_in known ns raw ≡ Ok p → apply_raw_line known ns p.0 p.1 raw.new ≡ rawlines.Apply raw
unfolding apply_in
apply_spelled known ns raw p e =
    let counts : ℕ → Result (ℕ × List (Option Obj)) FaultKind = λ k. right_count (eqb (length raw.args) (length (theorem_of known k).declared)) >>= λ some. right_count (eqb (length raw.new) (length (theorem_of known k).made)) >>= λ more. entries_in ns (theorem_of known k).declared raw.args >>= λ args. fresh ns [] raw.new >>= λ free. read_ok (applied k args) in
    let k = bind_ok (known_place (place_in known raw.title)) counts p e in
    let t = theorem_of known k.0 in
    let s = bind_ok (right_count (eqb (length raw.args) (length t.declared))) (λ some. right_count (eqb (length raw.new) (length t.made)) >>= λ more. entries_in ns t.declared raw.args >>= λ args. fresh ns [] raw.new >>= λ free. read_ok (applied k.0 args)) p k.2 in
    let m = bind_ok (right_count (eqb (length raw.new) (length t.made))) (λ more. entries_in ns t.declared raw.args >>= λ args. fresh ns [] raw.new >>= λ free. read_ok (applied k.0 args)) p s.2 in
    let os = bind_ok (entries_in ns t.declared raw.args) (λ args. fresh ns [] raw.new >>= λ free. read_ok (applied k.0 args)) p m.2 in
    let f = bind_ok (fresh ns [] raw.new) (λ free. read_ok (applied k.0 os.0)) p os.2 in
    let count : length raw.args ≡ length t.declared = eqb-true (length raw.args) (length t.declared) (counted _ s.0 s.1) in
    ap (λ (q : ℕ × List (Option Obj)). apply_raw_line known ns q.0 q.1 raw.new) (sym (ok_is (applied k.0 os.0) p f.2))
    ∙ rw (found_title known raw.title k.0 (place_is (place_in known raw.title) k.0 k.1), entries_named ns t.declared raw.args os.0 count os.1) refl
  where
    place_is : (o : Option ℕ) (k : ℕ) → known_place o ≡ Ok k → o ≡ Some k
    place_is None k e = absurd cc
    place_is (Some i) k e = ap (λ (n : ℕ). Some n) (ok_is i k e)

-- ---- superpositions

eight : (a b c d e f g h i j k l m n o p : List ℕ) → a ≡ i → b ≡ j → c ≡ k → d ≡ l → e ≡ m → f ≡ n → g ≡ o → h ≡ p → a ∷ b ∷ c ∷ d ∷ e ∷ f ∷ g ∷ h ∷ [] ≡ i ∷ j ∷ k ∷ l ∷ m ∷ n ∷ o ∷ p ∷ []
eight a b c d e f g h i j k l m n o p x1 x2 x3 x4 x5 x6 x7 x8 = cc

placed_named : (ns : Names) (args : List (List ℕ)) (superposition : Superpose) → placed_in ns args ≡ Ok superposition → placed_names ns superposition ≡ args
unfolding placed_in
placed_named ns (a ∷ b ∷ c ∷ k ∷ d ∷ g ∷ h ∷ l ∷ []) superposition e =
    let p = placed_after ns a b c k d g h l superposition e in
    let keeps = keeps_all ns in
    ap (placed_names ns) (sym p.form_is)
    ∙ eight _ _ _ _ _ _ _ _ a b c k d g h l (number_named ns ns Point a p.na keeps p.a_is) (number_named ns ns Point b p.nb keeps p.b_is) (number_named ns ns Point c p.nc keeps p.c_is) (number_named ns ns Line k p.nk keeps p.k_is)
    (number_named ns ns Point d p.nd keeps p.d_is) (number_named ns ns Point g p.ng keeps p.g_is) (number_named ns ns Point h p.nh keeps p.h_is) (number_named ns ns Line l p.nl keeps p.l_is)
placed_named ns args superposition e = absurd cc

pub superpose_spelled : (ns : Names) (raw : RawSuperpose) (p : Superpose × List Lit) → are_canonical_lits raw.shown ≡ true → AllSigned raw.shown → superpose_in ns raw ≡ Ok p → superpose_raw_line ns p.0 raw.new p.1 ≡ rawlines.Superpose raw
unfolding superpose_in
superpose_spelled ns raw p d s e =
    let both_of : Superpose → List Lit → Superpose × List Lit = λ form ls. (form, ls) in
    let form = bind_ok (placed_in ns raw.args) (λ form. fresh ns [] raw.new >>= λ free. lits_in ns raw.shown >>= λ ls. read_ok (both_of form ls)) p e in
    let free = bind_ok (fresh ns [] raw.new) (λ free. lits_in ns raw.shown >>= λ ls. read_ok (both_of form.0 ls)) p form.2 in
    let ls = bind_ok (lits_in ns raw.shown) (λ ls. read_ok (both_of form.0 ls)) p free.2 in
    ap (λ (q : Superpose × List Lit). superpose_raw_line ns q.0 raw.new q.1) (sym (ok_is (both_of form.0 ls.0) p ls.2))
    ∙ rw (placed_named ns raw.args form.0 form.1, lits_named ns ns raw.shown ls.0 (keeps_all ns) d s ls.1) refl

-- ---- closes

of_sorts_named : (ns : Names) (sorts : List Sort) (names : List (List ℕ)) (os : List Obj) → length names ≡ length sorts → objects_of_sorts ns sorts names ≡ Ok os → map (name_of_object ns) os ≡ names
of_sorts_named ns [] [] os n e = ap (map (name_of_object ns)) (sym (ok_is [] os e))
of_sorts_named ns [] (name ∷ names) os n e = absurd (omega (arith, n))
of_sorts_named ns (sort ∷ sorts) [] os n e = absurd (omega (arith, n))
of_sorts_named ns (sort ∷ sorts) (name ∷ names) os n e =
    let a = bind_ok (object_as ns sort name) (λ o. objects_of_sorts ns sorts names >>= λ xs. read_ok (o ∷ xs)) os e in
    let b = bind_ok (objects_of_sorts ns sorts names) (λ xs. read_ok (a.0 ∷ xs)) os a.2 in
    ap (map (name_of_object ns)) (sym (ok_is (a.0 ∷ b.0) os b.2)) ∙ rw (object_named ns ns sort name a.0 (keeps_all ns) a.1, of_sorts_named ns sorts names b.0 (omega (arith, n)) b.1) refl

pub qed_spelled : (ns : Names) (sorts : List Sort) (names : List (List ℕ)) (os : List Obj) → qed_in ns sorts names ≡ Ok os → qed_raw_line ns os ≡ rawlines.Qed names
unfolding qed_in
qed_spelled ns sorts names os e =
    let r = bind_ok (right_count (eqb (length names) (length sorts))) (λ right. objects_of_sorts ns sorts names) os e in
    ap (λ (l : List (List ℕ)). rawlines.Qed l) (of_sorts_named ns sorts names os (eqb-true (length names) (length sorts) (counted _ r.0 r.1)) r.2)
