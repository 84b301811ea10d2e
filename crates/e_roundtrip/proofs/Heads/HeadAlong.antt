-- The lines of a statement are taken in the one spelling of a derivation.
use Rattle.std.proofs.Common.{◌≡◌, ℕ, zero, suc, ◌+◌, Bool, true, false, cond, List, [], ◌∷◌, ◌++◌, length, map, replicate, Option, Some, None, Result, Ok, refl, sym, ap, subst, ◌∙◌, append_assoc}
use Rattle.std.proofs.lemmas.List.{append-nil}
use Rattle.e_literal.specs.declared.object.Sort.{Sort}
use Rattle.e_literal.specs.declared.object.Obj.{Obj}
use Rattle.e_literal.specs.declared.literal.Lit.{Lit}
use Rattle.e_literal.specs.Scopes.{same_sort}
use Rattle.e_deriv.specs.declared.names.Names.{Names}
use Rattle.e_theorem.specs.declared.statement.Statement.{Statement}
use Rattle.e_line.specs.declared.fault.FaultKind.{FaultKind}
use Rattle.e_line.specs.declared.literal.RawLit.{RawLit}
use Rattle.e_line.specs.declared.raw_line.RawLine.{RawLine}
use Rattle.e_line.specs.declared.raw_line.RawLine.TheVariants as rawlines
use Rattle.e_book.specs.declared.parser.TheoremParser.{TheoremParser}
use Rattle.e_book.specs.declared.parser.Section.TheVariants.{Giving, Making, Showing}
use Rattle.e_line.specs.declared.fault.What.TheVariants as limits
use Rattle.e_line.specs.Reading.{◌>>=◌, with_front}
use Rattle.e_line.specs.Limits.{within, most_facts}
use Rattle.e_names.specs.TitledStatements.{TitledStatement}
use Rattle.e_names.specs.Scope.{lits_in}
use Rattle.e_line.specs.LineLimits.{check_literal_limits}
use Rattle.e_book.specs.Steps.{terms_after_raw, with_terms, line_may_come, with_declared, after_declare, after_given, after_made, after_show, after_proof, after_line, step}
use Rattle.e_book.specs.Book.{is_done}
use Rattle.e_line.specs.Canonical.{line_of}
use Rattle.e_names.specs.Canonical.{name_of_object, given_raw_line, show_raw_line}
use Rattle.e_book.specs.Canonical.{Group, group, grouped_before, sort_groups, declare_raw_line, made_raw_line, declared_objects, made_objects, given_raw_lines, shown_raw_lines}
use Rattle.e_line.proofs.read_again.Respelled.{GoodForm, as_read}
use Rattle.e_book.proofs.canonical.Declared.{Runs}
use Rattle.e_line.proofs.base.Bound.{bind_ok, ok_is}
use Rattle.e_line.proofs.base.Choices.{passed}
use Rattle.e_cert.specs.declared.owed.Obligation.TheVariants as due
use Rattle.e_cert.specs.declared.kept.StepCerts.{StepCerts}
use Rattle.e_line.specs.CanonicalLines.{is_canonical_form}
use Rattle.e_read.specs.Owing.{ends_with}
use Rattle.e_read.specs.inner.Strict.{is_apart}
use Rattle.e_read.specs.inner.Needs.{due_of}
use Rattle.e_roundtrip.proofs.Certificates.RowsAgain.{lit_direct}
use Rattle.e_roundtrip.proofs.Certificates.CertsPut.{nothing_kept}
use Rattle.e_roundtrip.proofs.Blocks.LinesTaken.{Stands, Along}
use Rattle.e_roundtrip.proofs.Formed.PlacedScripts.{then_along}

-- ---- the forms of a statement

-- lines of a statement, after objects of these sorts that are declared and made: no line of objects goes on with the sort of the
-- line before
abbrev pub Heads : (declared made : List Sort) → List RawLine → Type 0
Heads ds ms [] = Unit {0}
Heads ds ms (rawlines.Declare sort ns ∷ fs) = (ends_with ds sort ≡ false) × Heads (ds ++ replicate (length ns) sort) ms fs
Heads ds ms (rawlines.Made sort ns ∷ fs) = (ends_with ms sort ≡ false) × Heads ds (ms ++ replicate (length ns) sort) fs
Heads ds ms (rawlines.Given ls ∷ fs) = (is_canonical_form (rawlines.Given ls) ≡ true) × Heads ds ms fs
Heads ds ms (rawlines.Show ls ∷ fs) = (is_canonical_form (rawlines.Show ls) ≡ true) × Heads ds ms fs
Heads ds ms (rawlines.Proof ∷ fs) = Heads ds ms fs
Heads ds ms (f ∷ fs) = ⊥

-- ---- what a line leaves of the sorts that came before

record Sorts (d : TheoremParser) (ds ms : List Sort) : Type 0 where
  declared : d.declared ≡ ds
  made : d.made ≡ ms

same_sorts : (x y : TheoremParser) (ds ms : List Sort) → (let ok : TheoremParser → Result TheoremParser FaultKind = λ d. Ok d in ok x ≡ ok y) → x.declared ≡ ds → x.made ≡ ms → Sorts y ds ms
same_sorts x y ds ms e a b =
    let is : x ≡ y = ok_is x y e in
    record { declared = sym (ap (λ (d : TheoremParser). d.declared) is) ∙ a; made = sym (ap (λ (d : TheoremParser). d.made) is) ∙ b }

declare_sorts : (known : List TitledStatement) (d e : TheoremParser) (sort : Sort) (ns : List (List ℕ)) → step known d (rawlines.Declare sort ns) ≡ Ok e → Sorts e (d.declared ++ replicate (length ns) sort) d.made
unfolding step after_line
declare_sorts known d e sort ns h =
    let p = passed (line_may_come d.section (rawlines.Declare sort ns)) (after_declare d sort ns) e h in
    let with_new : Names → TheoremParser = λ names. record d { names = names; declared = d.declared ++ replicate (length ns) sort } in
    let n = bind_ok (with_declared d.names sort ns) (λ names. Ok (with_new names)) e p.1 in
    same_sorts (with_new n.0) e (d.declared ++ replicate (length ns) sort) d.made n.2 refl refl

made_sorts : (known : List TitledStatement) (d e : TheoremParser) (sort : Sort) (ns : List (List ℕ)) → step known d (rawlines.Made sort ns) ≡ Ok e → Sorts e d.declared (d.made ++ replicate (length ns) sort)
unfolding step after_line
made_sorts known d e sort ns h =
    let p = passed (line_may_come d.section (rawlines.Made sort ns)) (after_made d sort ns) e h in
    let with_new : Names → TheoremParser = λ names. record d { names = names; made = d.made ++ replicate (length ns) sort; section = Making } in
    let n = bind_ok (with_declared d.names sort ns) (λ names. Ok (with_new names)) e p.1 in
    same_sorts (with_new n.0) e d.declared (d.made ++ replicate (length ns) sort) n.2 refl refl

terms_sorts : (d e : TheoremParser) (raws : List RawLit) → with_terms d raws ≡ Ok e → Sorts e d.declared d.made
unfolding with_terms
terms_sorts d e raws h =
    let with_count : ℕ → TheoremParser = λ n. record d { terms = n } in
    let a = bind_ok (check_literal_limits raws) (λ few. terms_after_raw d.terms raws >>= λ n. Ok (with_count n)) e h in
    let b = bind_ok (terms_after_raw d.terms raws) (λ n. Ok (with_count n)) e a.2 in
    same_sorts (with_count b.0) e d.declared d.made b.2 refl refl

given_sorts : (known : List TitledStatement) (d e : TheoremParser) (raws : List RawLit) → step known d (rawlines.Given raws) ≡ Ok e → Sorts e d.declared d.made
unfolding step after_line
given_sorts known d e raws h =
    let p = passed (line_may_come d.section (rawlines.Given raws)) (after_given d raws) e h in
    let with_given : List Lit → TheoremParser = λ ls. record d { given = ls; facts = d.facts + length raws; section = Giving } in
    let a = bind_ok (with_front d.given (lits_in d.names raws)) (λ ls. within (d.facts + length raws) most_facts limits.Facts >>= λ few. with_terms (with_given ls) raws) e p.1 in
    let b = bind_ok (within (d.facts + length raws) most_facts limits.Facts) (λ few. with_terms (with_given a.0) raws) e a.2 in
    terms_sorts (with_given a.0) e raws b.2

show_sorts : (known : List TitledStatement) (d e : TheoremParser) (raws : List RawLit) → step known d (rawlines.Show raws) ≡ Ok e → Sorts e d.declared d.made
unfolding step after_line
show_sorts known d e raws h =
    let p = passed (line_may_come d.section (rawlines.Show raws)) (after_show d raws) e h in
    let with_shown : List Lit → TheoremParser = λ ls. record d { shown = ls; section = Showing } in
    let a = bind_ok (with_front d.shown (lits_in d.names raws)) (λ ls. check_literal_limits raws >>= λ few. Ok (with_shown ls)) e p.1 in
    let b = bind_ok (check_literal_limits raws) (λ few. Ok (with_shown a.0)) e a.2 in
    same_sorts (with_shown a.0) e d.declared d.made b.2 refl refl

proof_sorts : (known : List TitledStatement) (d e : TheoremParser) → step known d rawlines.Proof ≡ Ok e → Sorts e d.declared d.made
unfolding step after_line
proof_sorts known d e h =
    let p = passed (line_may_come d.section rawlines.Proof) (after_proof d) e h in
    same_sorts _ e d.declared d.made p.1 refl refl

-- ---- the lines are taken

plain_along : (known : List TitledStatement) (d e last : TheoremParser) (f : RawLine) (fs : List RawLine) → GoodForm f → is_canonical_form (as_read f) ≡ true → is_apart d (as_read f) ≡ true → due_of known d (as_read f) ≡ Ok due.Nothing → step known d (as_read f) ≡ Ok e
    → is_done e ≡ false → Along known e (map line_of fs) last [] → Along known d (map line_of (f ∷ fs)) last []
plain_along known d e last f fs good strict apart owes steps going rest =
    then_along known d e last f due.Nothing [] None (map line_of fs) [] (record { good = good; strict = strict; apart = apart; owes = owes; steps = steps; going = going; keeps = nothing_kept d.in_scope }) rest

pub parser_is : (x y : TheoremParser) → (let some : TheoremParser → Option TheoremParser = λ d. Some d in some x ≡ some y) → x ≡ y
parser_is x y e = cc

none_along : (known : List TitledStatement) (d : TheoremParser) → Along known d [] d []
none_along known d = λ r ks of s. record { last = r; version = refl; taken = refl; stands = subst (λ (x : List StepCerts). Stands r d x) (sym (append-nil ks)) s }

moved : (ds es ms ns : List Sort) (fs : List RawLine) → ds ≡ es → ms ≡ ns → Heads es ns fs → Heads ds ms fs
moved ds es ms ns fs a b h = subst (λ (x : List Sort). Heads x ms fs) (sym a) (subst (λ (x : List Sort). Heads es x fs) (sym b) h)

pub head_along : (known : List TitledStatement) (d last : TheoremParser) (fs : List RawLine) → Runs known (Some d) fs (Some last) → Heads d.declared d.made fs → Along known d (map line_of fs) last []
unfolding due_of
head_along known d last [] r h = subst (λ (e : TheoremParser). Along known d [] e []) (parser_is d last r) (none_along known d)
head_along known d last (rawlines.Declare sort ns ∷ fs) r h =
    let s = declare_sorts known d r.0 sort ns r.2 in
    plain_along known d r.0 last (rawlines.Declare sort ns) fs r.1 refl (rw h.0 refl) refl r.2 r.3 (head_along known r.0 last fs r.4 (moved r.0.declared (d.declared ++ replicate (length ns) sort) r.0.made d.made fs s.declared s.made h.1))
head_along known d last (rawlines.Made sort ns ∷ fs) r h =
    let s = made_sorts known d r.0 sort ns r.2 in
    plain_along known d r.0 last (rawlines.Made sort ns) fs r.1 refl (rw h.0 refl) refl r.2 r.3 (head_along known r.0 last fs r.4 (moved r.0.declared d.declared r.0.made (d.made ++ replicate (length ns) sort) fs s.declared s.made h.1))
head_along known d last (rawlines.Given ls ∷ fs) r h =
    let s = given_sorts known d r.0 ls r.2 in
    plain_along known d r.0 last (rawlines.Given ls) fs r.1 h.0 refl refl r.2 r.3 (head_along known r.0 last fs r.4 (moved r.0.declared d.declared r.0.made d.made fs s.declared s.made h.1))
head_along known d last (rawlines.Show ls ∷ fs) r h =
    let s = show_sorts known d r.0 ls r.2 in
    plain_along known d r.0 last (rawlines.Show ls) fs r.1 h.0 refl refl r.2 r.3 (head_along known r.0 last fs r.4 (moved r.0.declared d.declared r.0.made d.made fs s.declared s.made h.1))
head_along known d last (rawlines.Proof ∷ fs) r h =
    let s = proof_sorts known d r.0 r.2 in
    plain_along known d r.0 last rawlines.Proof fs r.1 refl refl refl r.2 r.3 (head_along known r.0 last fs r.4 (moved r.0.declared d.declared r.0.made d.made fs s.declared s.made h))
head_along known d last (f ∷ fs) r h = absurd h

-- ---- neighbouring lines of objects are of different sorts

abbrev HasName : List (List ℕ) → Type 0
HasName [] = ⊥
HasName (n ∷ ns) = Unit {0}

-- the next group is of another sort
abbrev ComesAfter : Sort → List Group → Type 0
ComesAfter sort [] = Unit {0}
ComesAfter sort (g ∷ gs) = same_sort sort g.sort ≡ false

-- each group has a name, and two that are neighbours have different sorts
abbrev Differ : List Group → Type 0
Differ [] = Unit {0}
Differ (g ∷ gs) = HasName g.names × ComesAfter g.sort gs × Differ gs

differ_by : (b : Bool) (sort : Sort) (name : List ℕ) (g : Group) (gs : List Group) → same_sort sort g.sort ≡ b → Differ (g ∷ gs) → Differ (cond b (group g.sort (name ∷ g.names) ∷ gs) (group sort (name ∷ []) ∷ g ∷ gs))
differ_by true sort name g gs e h = (tt, h.1, h.2)
differ_by false sort name g gs e h = (tt, e, h)

differ_before : (sort : Sort) (name : List ℕ) (gs : List Group) → Differ gs → Differ (grouped_before sort name gs)
differ_before sort name [] h = (tt, tt, tt)
differ_before sort name (g ∷ gs) h = differ_by (same_sort sort g.sort) sort name g gs refl h

groups_differ : (ns : Names) (os : List Obj) → Differ (sort_groups ns os)
groups_differ ns [] = tt
groups_differ ns (o ∷ os) = differ_before o.sort (name_of_object ns o) (sort_groups ns os) (groups_differ ns os)

-- ---- the last sort

last_after : (xs : List Sort) (y : Sort) (ys : List Sort) (sort : Sort) → ends_with (xs ++ y ∷ ys) sort ≡ ends_with (y ∷ ys) sort
last_after [] y ys sort = refl
last_after (x ∷ []) y ys sort = refl
last_after (x ∷ z ∷ xs) y ys sort = last_after (z ∷ xs) y ys sort

last_of_many : (n : ℕ) (s sort : Sort) → ends_with (s ∷ replicate n s) sort ≡ same_sort s sort
last_of_many zero s sort = refl
last_of_many (suc n) s sort = last_of_many n s sort

last_is : (xs : List Sort) (names : List (List ℕ)) (s sort : Sort) → HasName names → ends_with (xs ++ replicate (length names) s) sort ≡ same_sort s sort
last_is xs [] s sort h = absurd h
last_is xs (n ∷ names) s sort h = last_after xs s (replicate (length names) s) sort ∙ last_of_many (length names) s sort

-- no group goes on with the last sort
abbrev Fresh : List Sort → List Group → Type 0
Fresh ss [] = Unit {0}
Fresh ss (g ∷ gs) = ends_with ss g.sort ≡ false

fresh_after : (ss : List Sort) (names : List (List ℕ)) (sort : Sort) (gs : List Group) → HasName names → ComesAfter sort gs → Fresh (ss ++ replicate (length names) sort) gs
fresh_after ss names sort [] n b = tt
fresh_after ss names sort (g ∷ gs) n b = last_is ss names sort g.sort n ∙ b

declared_heads : (ds ms : List Sort) (gs : List Group) (more : List RawLine) → Fresh ds gs → Differ gs → ((es : List Sort) → Heads es ms more) → Heads ds ms (map declare_raw_line gs ++ more)
declared_heads ds ms [] more f h rest = rest ds
declared_heads ds ms (g ∷ gs) more f h rest = (f, declared_heads (ds ++ replicate (length g.names) g.sort) ms gs more (fresh_after ds g.names g.sort gs h.0 h.1) h.2 rest)

made_heads : (ds ms : List Sort) (gs : List Group) (more : List RawLine) → Fresh ms gs → Differ gs → ((es : List Sort) → Heads ds es more) → Heads ds ms (map made_raw_line gs ++ more)
made_heads ds ms [] more f h rest = rest ms
made_heads ds ms (g ∷ gs) more f h rest = (f, made_heads ds (ms ++ replicate (length g.names) g.sort) gs more (fresh_after ms g.names g.sort gs h.0 h.1) h.2 rest)

-- ---- the whole

given_heads : (ds ms : List Sort) (ns : Names) (ls : List Lit) (more : List RawLine) → Heads ds ms more → Heads ds ms (map (given_raw_line ns) ls ++ more)
given_heads ds ms ns [] more h = h
given_heads ds ms ns (l ∷ ls) more h = (rw (lit_direct ns l) refl, given_heads ds ms ns ls more h)

shown_heads : (ds ms : List Sort) (ns : Names) (ls : List Lit) (more : List RawLine) → Heads ds ms more → Heads ds ms (map (show_raw_line ns) ls ++ more)
shown_heads ds ms ns [] more h = h
shown_heads ds ms ns (l ∷ ls) more h = (rw (lit_direct ns l) refl, shown_heads ds ms ns ls more h)

first_fresh : (gs : List Group) → Fresh [] gs
first_fresh [] = tt
first_fresh (g ∷ gs) = refl

shown_part : (ds : List Sort) (ns : Names) (t : Statement) → Heads ds [] (shown_raw_lines ns t ++ rawlines.Proof ∷ [])
shown_part ds ns t =
    let gs = sort_groups ns (made_objects t) in
    let shown = map (show_raw_line ns) t.shown in
    subst (λ (fs : List RawLine). Heads ds [] fs) (sym (append_assoc (map made_raw_line gs) shown (rawlines.Proof ∷ [])))
    (made_heads ds [] gs (shown ++ rawlines.Proof ∷ []) (first_fresh gs) (groups_differ ns (made_objects t)) (λ ms. shown_heads ds ms ns t.shown (rawlines.Proof ∷ []) tt))

-- all lines of a statement after its title
pub statement_heads : (ns : Names) (t : Statement) → Heads [] [] (given_raw_lines ns t ++ (shown_raw_lines ns t ++ rawlines.Proof ∷ []))
statement_heads ns t =
    let gs = sort_groups ns (declared_objects t) in
    let given = map (given_raw_line ns) t.given in
    let more = shown_raw_lines ns t ++ rawlines.Proof ∷ [] in
    subst (λ (fs : List RawLine). Heads [] [] fs) (sym (append_assoc (map declare_raw_line gs) given more))
    (declared_heads [] [] gs (given ++ more) (first_fresh gs) (groups_differ ns (declared_objects t)) (λ ds. given_heads ds [] ns t.given more (shown_part ds ns t)))
