-- The lines of a statement are read from their canonical spelling.
use Rattle.std.proofs.Common.{◌≡◌, ℕ, ◌+◌, ◌<◌, ◌≤◌, true, false, ltb, List, [], ◌∷◌, ◌++◌, length, map, replicate, Some, None, Result, Ok, refl, sym, ap, ap₂, subst, ◌∙◌, arith, append_assoc, length-append}
use Rattle.std.proofs.lemmas.Bool.{le-ltb}
use Rattle.std.proofs.lemmas.List.{append-nil}
use Rattle.e_text.specs.Names.{is_title}
use Rattle.e_literal.specs.declared.object.Sort.{Sort}
use Rattle.e_literal.specs.declared.literal.Lit.{Lit}
use Rattle.e_deriv.specs.declared.names.Names.{Names}
use Rattle.e_deriv.specs.Naming.{names_of_sort}
use Rattle.e_line.specs.declared.fault.FaultKind.{FaultKind}
use Rattle.e_line.specs.declared.raw_line.RawLine.TheVariants as rawlines
use Rattle.e_book.specs.declared.steps.CloseLine.TheVariants as closes
use Rattle.e_book.specs.declared.parser.Section.{Section}
use Rattle.e_book.specs.declared.parser.Section.TheVariants.{Declaring, Giving, Making, Showing}
use Rattle.e_book.specs.declared.parser.TheoremParser.{TheoremParser}
use Rattle.e_line.specs.Reading.{◌>>=◌}
use Rattle.e_line.specs.Limits.{most_of, most_theorems, most_facts, most_monomials_of_facts, monomials, count_monomials}
use Rattle.e_names.specs.TitledStatements.{TitledStatement, is_known}
use Rattle.e_line.specs.LineLimits.{count_raw_monomials}
use Rattle.e_book.specs.Steps.{with_terms, line_may_come, with_declared, after_line, step, begin, with_title, no_names}
use Rattle.e_book.specs.Book.{is_done}
use Rattle.e_names.specs.Canonical.{raw_of, given_raw_line, show_raw_line}
use Rattle.e_line.specs.Names.{AreNames}
use Rattle.e_line.proofs.read_again.Respelled.{GoodForm}
use Rattle.e_names.proofs.resolution.Lookups.{InOrder}
use Rattle.e_names.proofs.resolution.LitLookups.{lit_number_again, lit_named}
use Rattle.e_names.proofs.literals.PlainLits.{Plain, PlainLit, plain_first}
use Rattle.e_names.proofs.literals.ShortLits.{few_again, count_again, count_more, count_first}
use Rattle.e_names.proofs.distinct_names.NewNames.{Free, plus}
use Rattle.e_book.proofs.canonical.Declared.{Runs, LinesOfNames, declared_one, declared_joined}

-- a parser before the word proof
abbrev pub stating : List ℕ → Names → List Sort → List Lit → List Sort → List Lit → ℕ → ℕ → Section → TheoremParser
stating t ns sorts given made shown facts terms place =
    record { title = t; names = ns; in_scope = no_names; declared = sorts; given = given; made = made; shown = shown; steps = []; lines = 0; facts = facts; terms = terms; blocks = []; close = closes.Qed []; section = place }

-- ---- the title

pub run_title : (known : List TitledStatement) (t : List ℕ) → is_title t ≡ true → is_known known t ≡ false → length known < most_theorems → Runs known None (rawlines.Theorem t ∷ []) (Some (with_title t))
unfolding begin
run_title known t h new few =
    let room : ltb most_theorems (length known + 1) ≡ false = le-ltb _ _ (omega (arith, few)) in
    (with_title t, h, rw (new, room) refl, refl, refl)

-- ---- declared objects

abbrev pub declaring : List ℕ → Names → List Sort → TheoremParser
declaring t ns sorts = stating t ns sorts [] [] [] 0 0 Declaring

declared_names : (sort : Sort) (names : List (List ℕ)) → GoodForm (rawlines.Declare sort names) → AreNames names
declared_names sort [] h = absurd h
declared_names sort (n ∷ ns) h = h

abbrev then_declaring : List ℕ → List Sort → Result Names FaultKind → Result TheoremParser FaultKind
then_declaring t sorts r = r >>= λ ns. Ok (declaring t ns sorts)

one_declared : (known : List TitledStatement) (t : List ℕ) (ns : Names) (sorts : List Sort) (sort : Sort) (name : List ℕ) → Free ns name → length (names_of_sort ns sort) + 1 ≤ most_of sort
    → step known (declaring t ns sorts) (rawlines.Declare sort (name ∷ [])) ≡ Ok (declaring t (plus ns sort name) (sorts ++ sort ∷ []))
unfolding step after_line
one_declared known t ns sorts sort name f few = ap (then_declaring t (sorts ++ sort ∷ [])) (declared_one ns sort name f few)

split_declared : (known : List TitledStatement) (t : List ℕ) (ns : Names) (sorts : List Sort) (sort : Sort) (name : List ℕ) (more : List (List ℕ)) → Free ns name
    → step known (declaring t ns sorts) (rawlines.Declare sort (name ∷ more)) ≡ step known (declaring t (plus ns sort name) (sorts ++ sort ∷ [])) (rawlines.Declare sort more)
unfolding step after_line
split_declared known t ns sorts sort name more f =
    ap (then_declaring t (sorts ++ sort ∷ replicate (length more) sort)) (declared_joined ns sort name more f)
    ∙ ap (λ (l : List Sort). then_declaring t l (with_declared (plus ns sort name) sort more)) (sym (append_assoc sorts (sort ∷ []) (replicate (length more) sort)))

pub declared_lines : (known : List TitledStatement) (t : List ℕ) → LinesOfNames known rawlines.Declare (declaring t)
declared_lines known t = record {
  good = λ sort n more h. h;
  said = declared_names;
  read = λ sort names. refl;
  one = one_declared known t;
  split = split_declared known t;
  going = λ ns sorts. refl;
}

-- ---- given literals

stating_more : (t : List ℕ) (ns : Names) (sorts : List Sort) (given : List Lit) (l : Lit)
    → stating t ns sorts (given ++ l ∷ []) [] [] (length given + 1) (count_monomials given + count_raw_monomials (raw_of ns l ∷ [])) Giving
    ≡ stating t ns sorts (given ++ l ∷ []) [] [] (length (given ++ l ∷ [])) (count_monomials (given ++ l ∷ [])) Giving
stating_more t ns sorts given l =
    ap₂ (λ (m n : ℕ). stating t ns sorts (given ++ l ∷ []) [] [] m n Giving) (sym (length-append given (l ∷ [])))
    (ap (λ (n : ℕ). count_monomials given + n) (count_again ns l) ∙ sym (count_more given l))

step_given : (known : List TitledStatement) (t : List ℕ) (ns : Names) (sorts : List Sort) (given : List Lit) (place : Section) (l : Lit) → InOrder ns → PlainLit ns l → length given + 1 ≤ most_facts → count_monomials given + monomials l.atom ≤ most_monomials_of_facts
    → line_may_come place (given_raw_line ns l) ≡ true
    → step known (stating t ns sorts given [] [] (length given) (count_monomials given) place) (given_raw_line ns l) ≡ Ok (stating t ns sorts (given ++ l ∷ []) [] [] (length (given ++ l ∷ [])) (count_monomials (given ++ l ∷ [])) Giving)
unfolding step after_line with_terms
step_given known t ns sorts given place l o p few short a =
    let room : ltb most_facts (length given + length (raw_of ns l ∷ [])) ≡ false = le-ltb _ _ (omega (arith, few)) in
    let terms : ltb most_monomials_of_facts (count_monomials given + count_raw_monomials (raw_of ns l ∷ [])) ≡ false = le-ltb _ _ (omega (arith, short, count_again ns l)) in
    rw (a, lit_number_again ns l o p.within p.good, room, few_again ns l p.good, terms) (ap (λ (d : TheoremParser). Ok d) (stating_more t ns sorts given l))

abbrev giving : List ℕ → Names → List Sort → List Lit → TheoremParser
giving t ns sorts given = stating t ns sorts given [] [] (length given) (count_monomials given) Giving

run_given : (known : List TitledStatement) (t : List ℕ) (ns : Names) (sorts : List Sort) (given more : List Lit) → InOrder ns → Plain ns more → length given + length more ≤ most_facts → count_monomials given + count_monomials more ≤ most_monomials_of_facts
    → Runs known (Some (giving t ns sorts given)) (map (given_raw_line ns) more) (Some (giving t ns sorts (given ++ more)))
run_given known t ns sorts given [] o p few short = ap (λ (g : List Lit). Some (giving t ns sorts g)) (sym (append-nil given))
run_given known t ns sorts given (l ∷ more) o p few short =
    let q = plain_first ns l more p in (
      giving t ns sorts (given ++ l ∷ []),
      lit_named ns l o q.0.within q.0.good,
      step_given known t ns sorts given Giving l o q.0 (omega (arith, few)) (omega (arith, short, count_first l more)) refl,
      refl,
      subst (λ (g : List Lit). Runs known (Some (giving t ns sorts (given ++ l ∷ []))) (map (given_raw_line ns) more) (Some (giving t ns sorts g))) (append_assoc given (l ∷ []) more)
          (run_given known t ns sorts (given ++ l ∷ []) more o q.1 (omega (arith, few, length-append given (l ∷ []))) (omega (arith, short, count_first l more, count_more given l))),
    )

abbrev after_given : List Lit → Section
after_given [] = Declaring
after_given (l ∷ ls) = Giving

-- a parser after its given lines
abbrev pub given_parser : List ℕ → Names → List Sort → List Lit → TheoremParser
given_parser t ns sorts given = stating t ns sorts given [] [] (length given) (count_monomials given) (after_given given)

pub run_all_given : (known : List TitledStatement) (t : List ℕ) (ns : Names) (sorts : List Sort) (given : List Lit) → InOrder ns → Plain ns given → length given ≤ most_facts → count_monomials given ≤ most_monomials_of_facts
    → Runs known (Some (declaring t ns sorts)) (map (given_raw_line ns) given) (Some (given_parser t ns sorts given))
run_all_given known t ns sorts [] o p few short = refl
run_all_given known t ns sorts (l ∷ more) o p few short =
    let q = plain_first ns l more p in (
      giving t ns sorts (l ∷ []),
      lit_named ns l o q.0.within q.0.good,
      step_given known t ns sorts [] Declaring l o q.0 (omega (arith, few)) (omega (arith, short, count_first l more)) refl,
      refl,
      run_given known t ns sorts (l ∷ []) more o q.1 (omega (arith, few)) (omega (arith, short, count_first l more, count_first l [])),
    )

-- ---- made objects

abbrev after_made : List Lit → List Sort → Section
after_made given [] = after_given given
after_made given (sort ∷ sorts) = Making

-- a parser after its made lines
abbrev pub making : List ℕ → List Sort → List Lit → Names → List Sort → TheoremParser
making t sorts given ns made = stating t ns sorts given made [] (length given) (count_monomials given) (after_made given made)

may_make : (given : List Lit) (made : List Sort) (sort : Sort) (names : List (List ℕ)) → line_may_come (after_made given made) (rawlines.Made sort names) ≡ true
may_make [] [] sort names = refl
may_make (l ∷ given) [] sort names = refl
may_make given (s ∷ made) sort names = refl

some_made : (given : List Lit) (made : List Sort) (sort : Sort) → after_made given (made ++ sort ∷ []) ≡ Making
some_made given [] sort = refl
some_made given (s ∷ made) sort = refl

made_going : (given : List Lit) (made : List Sort) (d : TheoremParser) → is_done (record d { section = after_made given made }) ≡ false
made_going [] [] d = refl
made_going (l ∷ given) [] d = refl
made_going given (s ∷ made) d = refl

abbrev then_making : List ℕ → List Sort → List Lit → List Sort → Result Names FaultKind → Result TheoremParser FaultKind
then_making t sorts given made r = r >>= λ ns. Ok (stating t ns sorts given made [] (length given) (count_monomials given) Making)

one_made : (known : List TitledStatement) (t : List ℕ) (sorts : List Sort) (given : List Lit) (ns : Names) (made : List Sort) (sort : Sort) (name : List ℕ) → Free ns name → length (names_of_sort ns sort) + 1 ≤ most_of sort
    → step known (making t sorts given ns made) (rawlines.Made sort (name ∷ [])) ≡ Ok (making t sorts given (plus ns sort name) (made ++ sort ∷ []))
unfolding step after_line
one_made known t sorts given ns made sort name f few =
    rw (may_make given made sort (name ∷ []))
    (ap (then_making t sorts given (made ++ sort ∷ [])) (declared_one ns sort name f few)
    ∙ ap (λ (p : Section). Ok (stating t (plus ns sort name) sorts given (made ++ sort ∷ []) [] (length given) (count_monomials given) p)) (sym (some_made given made sort)))

split_made : (known : List TitledStatement) (t : List ℕ) (sorts : List Sort) (given : List Lit) (ns : Names) (made : List Sort) (sort : Sort) (name : List ℕ) (more : List (List ℕ)) → Free ns name
    → step known (making t sorts given ns made) (rawlines.Made sort (name ∷ more)) ≡ step known (making t sorts given (plus ns sort name) (made ++ sort ∷ [])) (rawlines.Made sort more)
unfolding step after_line
split_made known t sorts given ns made sort name more f =
    rw (may_make given made sort (name ∷ more), may_make given (made ++ sort ∷ []) sort more)
    (ap (then_making t sorts given (made ++ sort ∷ replicate (length more) sort)) (declared_joined ns sort name more f)
    ∙ ap (λ (l : List Sort). then_making t sorts given l (with_declared (plus ns sort name) sort more)) (sym (append_assoc made (sort ∷ []) (replicate (length more) sort))))

made_names : (sort : Sort) (names : List (List ℕ)) → GoodForm (rawlines.Made sort names) → AreNames names
made_names sort [] h = absurd h
made_names sort (n ∷ ns) h = h

pub made_lines : (known : List TitledStatement) (t : List ℕ) (sorts : List Sort) (given : List Lit) → LinesOfNames known rawlines.Made (making t sorts given)
made_lines known t sorts given = record {
  good = λ sort n more h. h;
  said = made_names;
  read = λ sort names. refl;
  one = one_made known t sorts given;
  split = split_made known t sorts given;
  going = λ ns made. made_going given made (making t sorts given ns made);
}

-- ---- shown literals

-- a parser after its shown lines
abbrev pub showing : List ℕ → Names → List Sort → List Lit → List Sort → List Lit → TheoremParser
showing t ns sorts given made shown = stating t ns sorts given made shown (length given) (count_monomials given) Showing

step_show : (known : List TitledStatement) (t : List ℕ) (ns : Names) (sorts : List Sort) (given : List Lit) (made : List Sort) (shown : List Lit) (place : Section) (l : Lit) → InOrder ns → PlainLit ns l → line_may_come place (show_raw_line ns l) ≡ true
    → step known (stating t ns sorts given made shown (length given) (count_monomials given) place) (show_raw_line ns l) ≡ Ok (showing t ns sorts given made (shown ++ l ∷ []))
unfolding step after_line
step_show known t ns sorts given made shown place l o p a = rw (a, lit_number_again ns l o p.within p.good, few_again ns l p.good) refl

run_shown : (known : List TitledStatement) (t : List ℕ) (ns : Names) (sorts : List Sort) (given : List Lit) (made : List Sort) (shown more : List Lit) → InOrder ns → Plain ns more
    → Runs known (Some (showing t ns sorts given made shown)) (map (show_raw_line ns) more) (Some (showing t ns sorts given made (shown ++ more)))
run_shown known t ns sorts given made shown [] o p = ap (λ (g : List Lit). Some (showing t ns sorts given made g)) (sym (append-nil shown))
run_shown known t ns sorts given made shown (l ∷ more) o p =
    let q = plain_first ns l more p in (
      showing t ns sorts given made (shown ++ l ∷ []),
      lit_named ns l o q.0.within q.0.good,
      step_show known t ns sorts given made shown Showing l o q.0 refl,
      refl,
      subst (λ (g : List Lit). Runs known (Some (showing t ns sorts given made (shown ++ l ∷ []))) (map (show_raw_line ns) more) (Some (showing t ns sorts given made g))) (append_assoc shown (l ∷ []) more)
          (run_shown known t ns sorts given made (shown ++ l ∷ []) more o q.1),
    )

may_show : (ns : Names) (given : List Lit) (made : List Sort) (l : Lit) → line_may_come (after_made given made) (show_raw_line ns l) ≡ true
may_show ns [] [] l = refl
may_show ns (g ∷ given) [] l = refl
may_show ns given (s ∷ made) l = refl

pub run_all_shown : (known : List TitledStatement) (t : List ℕ) (ns : Names) (sorts : List Sort) (given : List Lit) (made : List Sort) (shown : List Lit) → InOrder ns → Plain ns shown → 0 < length shown
    → Runs known (Some (making t sorts given ns made)) (map (show_raw_line ns) shown) (Some (showing t ns sorts given made shown))
run_all_shown known t ns sorts given made [] o p some = absurd (omega (arith, some))
run_all_shown known t ns sorts given made (l ∷ more) o p some =
    let q = plain_first ns l more p in (
      showing t ns sorts given made (l ∷ []),
      lit_named ns l o q.0.within q.0.good,
      step_show known t ns sorts given made [] (after_made given made) l o q.0 (may_show ns given made l),
      refl,
      run_shown known t ns sorts given made (l ∷ []) more o q.1,
    )
