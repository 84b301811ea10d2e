-- What a line owes, by the parser's state and by what has been said.
use Rattle.std.proofs.Common.{◌≡◌, cond, List, [], ◌∷◌, Option, Some, None, Result, Ok, Err, refl, sym, ap, subst}
use Rattle.e_literal.specs.declared.object.Sort.{Sort}
use Rattle.e_literal.specs.declared.object.Obj.{Obj}
use Rattle.e_literal.specs.declared.literal.Lit.{Lit}
use Rattle.e_construct.specs.Construct.{needs_of_construction}
use Rattle.e_construct.specs.Superposing as superposing
use Rattle.e_theorem.specs.Statements.{as_view}
use Rattle.e_deriv.specs.declared.names.Names.{Names}
use Rattle.e_deriv.specs.Goal.{Goal, goal_of_statement, goal_with}
use Rattle.e_line.specs.declared.fault.FaultKind.{FaultKind}
use Rattle.e_line.specs.declared.fault.FaultKind.TheVariants.{Malformed}
use Rattle.e_line.specs.declared.raw_line.RawLine.{RawLine}
use Rattle.e_line.specs.declared.raw_line.RawLine.TheVariants as rawlines
use Rattle.e_line.specs.Reading.{◌>>=◌}
use Rattle.e_names.specs.TitledStatements.{TitledStatement}
use Rattle.e_names.specs.Scope.{lit_in, let_in, qed_in}
use Rattle.e_names.specs.Superposes.{superpose_in}
use Rattle.e_book.specs.declared.blocks.OpenBlock.{OpenBlock}
use Rattle.e_book.specs.declared.blocks.BlockKind.{BlockKind}
use Rattle.e_book.specs.declared.blocks.BlockKind.TheVariants as kind
use Rattle.e_book.specs.declared.parser.TheoremParser.{TheoremParser}
use Rattle.e_book.specs.ParserViews.{statement_of_parser, entry_of_parser}
use Rattle.e_book.specs.Blocks.{made_in}
use Rattle.e_book.specs.Open.{Proving, made_inside}
use Rattle.e_book.specs.Counts.{context_at}
use Rattle.e_book.specs.declared.parser.Section.{Section}
use Rattle.e_book.specs.declared.parser.Section.TheVariants as places
use Rattle.e_book.specs.Steps.{line_may_come, after_line, step}
use Rattle.e_book.specs.Grammar.{theorem_ended}
use Rattle.e_book.specs.Book.{is_last, is_done}
use Rattle.e_book.proofs.grammar.ParserState.{opener_of, around_of, head_of, open_there, open_of, BlockOf, Body, Tied}
use Rattle.e_book.proofs.grammar.BlockCounts.{goal_made}
use Rattle.e_cert.specs.declared.owed.Obligation.{Obligation}
use Rattle.e_cert.specs.declared.owed.Pending.{Pending}
use Rattle.e_cert.specs.Certificates.{Due, Nothing, Certificates, OfContradiction}
use Rattle.e_cert.proofs.Fronts.{obligation_of}
use Rattle.e_read.specs.inner.Needs.{shown_inside, shown_around, goal_or, open_goal, one_each, needs_at_qed, due_of}
use Rattle.e_read.specs.inner.Needs as needs
use Rattle.e_read.specs.inner.Machine.{owed_by}
use Rattle.e_read.specs.inner.Strict as strict
use Rattle.e_read.specs.Owing.{goal_after, goal_inside, due_in_block, due_after, is_apart}
use Rattle.e_read.specs.Owing as owing

goal_by : (k : BlockKind) (o : Option (List Lit)) (g h : Goal) → goal_or o g ≡ h → goal_or (shown_inside k o) g ≡ goal_after (opener_of k) h
goal_by (kind.Claim shown) o g h e = refl
goal_by (kind.Superpose superposition names shown) o g h e = refl
goal_by (kind.First lit) o g h e = e
goal_by (kind.Second lit first) o g h e = e

goal_alike : (os : List OpenBlock) (g : Goal) → goal_or (shown_around os) g ≡ goal_inside (around_of os) g
goal_alike [] g = refl
goal_alike (o ∷ os) g = goal_by o.kind (shown_around os) g (goal_inside (around_of os) g) (goal_alike os g)

abbrev SameDue : Result Obligation FaultKind → Result Due FaultKind → Type 0
SameDue (Ok o) (Ok d) = o ≡ obligation_of d
SameDue (Ok o) (Err k) = ⊥
SameDue (Err j) (Ok d) = ⊥
SameDue (Err j) (Err k) = Unit {0}

same_due : {A : Type 0} (q : Result A FaultKind) (f : A → Obligation) (g : A → Due) → ((x : A) → f x ≡ obligation_of (g x)) → SameDue (q >>= λ x. Ok (f x)) (q >>= λ x. Ok (g x))
same_due (Ok x) f g h = h x
same_due (Err e) f g h = tt

qed_same : (d : TheoremParser) (q r : Result (List Obj) FaultKind) → q ≡ r → SameDue ((q >>= λ objects. Ok (goal_with (open_goal d) objects)) >>= λ ls. Ok (one_each ls))
    (r >>= λ objects. Ok (Certificates (goal_with (goal_inside (around_of d.blocks) (goal_of_statement (as_view (statement_of_parser d)))) objects)))
qed_same d (Ok x) r e = subst (λ (z : Result (List Obj) FaultKind). SameDue (Ok (one_each (goal_with (open_goal d) x))) (z >>= λ objects. Ok (Certificates (goal_with (goal_inside (around_of d.blocks) (goal_of_statement (as_view (statement_of_parser d)))) objects)))) e
    (ap (λ (g : Goal). one_each (goal_with g x)) (goal_alike d.blocks (goal_of_statement (as_view (statement_of_parser d)))))
qed_same d (Err k) r e = subst (λ (z : Result (List Obj) FaultKind). SameDue (Err k) (z >>= λ objects. Ok (Certificates (goal_with (goal_inside (around_of d.blocks) (goal_of_statement (as_view (statement_of_parser d)))) objects)))) e tt

in_block : (known : List TitledStatement) (d : TheoremParser) (f : RawLine) → SameDue (due_of known d f) (due_in_block known d.in_scope (head_of d) (around_of d.blocks) f)
unfolding due_of due_in_block needs_at_qed needs.needs_of_raw_apply owing.needs_of_raw_apply
in_block known d (rawlines.Hence raw) = same_due (lit_in d.in_scope raw) (λ l. one_each (l ∷ [])) (λ l. Certificates (l ∷ [])) (λ l. refl)
in_block known d (rawlines.Let raw) = same_due (let_in d.in_scope raw) (λ c. one_each (needs_of_construction c)) (λ c. Certificates (needs_of_construction c)) (λ c. refl)
in_block known d (rawlines.Apply raw) = same_due (owing.needs_of_raw_apply known d.in_scope raw) one_each Certificates (λ ls. refl)
in_block known d (rawlines.Superpose raw) =
    same_due (superpose_in d.in_scope raw) (λ p. one_each (superposing.needs_of_superposition p.0)) (λ p. Certificates (superposing.needs_of_superposition p.0)) (λ p. refl)
in_block known d (rawlines.Qed names) = qed_same d (qed_in d.in_scope (made_in d.blocks d.made) names) (qed_in d.in_scope (made_inside (around_of d.blocks) d.made) names) (ap (λ (m : List Sort). qed_in d.in_scope m names) (sym (goal_made d.blocks d.made)))
in_block known d rawlines.Contradiction = refl
in_block known d (rawlines.Theorem t) = refl
in_block known d (rawlines.Declare sort ns) = refl
in_block known d (rawlines.Given raws) = refl
in_block known d (rawlines.Made sort ns) = refl
in_block known d (rawlines.Show raws) = refl
in_block known d rawlines.Proof = refl
in_block known d (rawlines.By r ns l) = refl
in_block known d (rawlines.Claim raws) = refl
in_block known d (rawlines.Cases raw) = refl
in_block known d rawlines.Else = refl
in_block known d rawlines.End = refl

-- ---- with the names in scope

abbrev pub pending_for : Names → Due → Pending
pending_for ns d = record { names = ns; due = obligation_of d; sums = None }

-- names are compared where something is owed
abbrev pub SameNames : Due → Names → Names → Type 0
SameNames Nothing n ns = Unit {0}
SameNames (Certificates wanted) n ns = n ≡ ns
SameNames OfContradiction n ns = n ≡ ns

abbrev pub OwedAlike : Result Pending FaultKind → Result Due FaultKind → Names → Type 0
OwedAlike (Ok o) (Ok d) ns = (n : Names) × (o ≡ pending_for n d) × SameNames d n ns
OwedAlike (Ok o) (Err k) ns = ⊥
OwedAlike (Err j) (Ok d) ns = ⊥
OwedAlike (Err j) (Err k) ns = Unit {0}

same_names : (d : Due) (ns : Names) → SameNames d ns ns
same_names Nothing ns = tt
same_names (Certificates wanted) ns = refl
same_names OfContradiction ns = refl

owed_from : (ns : Names) (x : Result Obligation FaultKind) (y : Result Due FaultKind) → SameDue x y → OwedAlike (x >>= λ new. Ok (record { names = ns; due = new; sums = None })) y ns
owed_from ns (Ok o) (Ok d) e = (ns, ap (λ (z : Obligation). record { names = ns; due = z; sums = None }) e, same_names d ns)
owed_from ns (Ok o) (Err k) e = absurd e
owed_from ns (Err j) (Ok d) e = absurd e
owed_from ns (Err j) (Err k) e = tt

owed_in_block : (known : List TitledStatement) (d : TheoremParser) (f : RawLine) → BlockOf known d → OwedAlike (owed_by known d f) (due_after known (open_there d places.Proving) f) (context_at known (open_there d places.Proving)).names
unfolding owed_by
owed_in_block known d f t =
    subst (λ (ns : Names). OwedAlike (due_of known d f >>= λ new. Ok (record { names = d.in_scope; due = new; sums = None })) (due_in_block known ns (head_of d) (around_of d.blocks) f) ns) t.counted.names
    (owed_from d.in_scope (due_of known d f) (due_in_block known d.in_scope (head_of d) (around_of d.blocks) f) (in_block known d f))

-- ---- outside of a block no line owes anything

-- a line that owes certificates
abbrev Owes : RawLine → Type 0
Owes (rawlines.Hence raw) = Unit {0}
Owes (rawlines.Let raw) = Unit {0}
Owes (rawlines.Apply raw) = Unit {0}
Owes (rawlines.Superpose raw) = Unit {0}
Owes (rawlines.Qed names) = Unit {0}
Owes rawlines.Contradiction = Unit {0}
Owes f = ⊥

abbrev IsOutside : Section → Type 0
IsOutside places.Proving = ⊥
IsOutside p = Unit {0}

abbrev Takes : List TitledStatement → Section → TheoremParser → RawLine → TheoremParser → Type 0
Takes known p d f e = cond (line_may_come p f) (after_line known d f) (Err Malformed) ≡ Ok e

-- it does not come there
barred : (known : List TitledStatement) (p : Section) (d : TheoremParser) (f : RawLine) (e : TheoremParser) → IsOutside p → Owes f → Takes known p d f e → ⊥
barred known places.Proving d f e out owes is = absurd out
barred known p d (rawlines.Hence raw) e out owes is = absurd cc
barred known p d (rawlines.Let raw) e out owes is = absurd cc
barred known p d (rawlines.Apply raw) e out owes is = absurd cc
barred known p d (rawlines.Superpose raw) e out owes is = absurd cc
barred known p d (rawlines.Qed names) e out owes is = absurd cc
barred known p d rawlines.Contradiction e out owes is = absurd cc
barred known p d f e out owes is = absurd owes

quiet : (known : List TitledStatement) (d : TheoremParser) (f : RawLine) (ns : Names) → (Owes f → ⊥) → OwedAlike (owed_by known d f) (Ok Nothing) ns
unfolding owed_by due_of
quiet known d (rawlines.Hence raw) ns h = absurd (h tt)
quiet known d (rawlines.Let raw) ns h = absurd (h tt)
quiet known d (rawlines.Apply raw) ns h = absurd (h tt)
quiet known d (rawlines.Superpose raw) ns h = absurd (h tt)
quiet known d (rawlines.Qed names) ns h = absurd (h tt)
quiet known d rawlines.Contradiction ns h = absurd (h tt)
quiet known d f ns h = (d.in_scope, refl, tt)

owed_there : (known : List TitledStatement) (p : Section) (d : TheoremParser) (f : RawLine) (e : TheoremParser) → Body known p d → Takes known p d f e → OwedAlike (owed_by known d f) (due_after known (open_there d p) f) (context_at known (open_there d p)).names
owed_there known places.Proving d f e b is = owed_in_block known d f b
owed_there known places.Declaring d f e b is = quiet known d f (context_at known (open_there d places.Declaring)).names (λ owes. barred known places.Declaring d f e tt owes is)
owed_there known places.Giving d f e b is = quiet known d f (context_at known (open_there d places.Giving)).names (λ owes. barred known places.Giving d f e tt owes is)
owed_there known places.Making d f e b is = quiet known d f (context_at known (open_there d places.Making)).names (λ owes. barred known places.Making d f e tt owes is)
owed_there known places.Showing d f e b is = quiet known d f (context_at known (open_there d places.Showing)).names (λ owes. barred known places.Showing d f e tt owes is)
owed_there known places.Splitting d f e b is = quiet known d f (context_at known (open_there d places.Splitting)).names (λ owes. barred known places.Splitting d f e tt owes is)
owed_there known places.Closed d f e b is = quiet known d f (context_at known (open_there d places.Closed)).names (λ owes. barred known places.Closed d f e tt owes is)
owed_there known places.Done d f e b is = quiet known d f (context_at known (open_there d places.Done)).names (λ owes. barred known places.Done d f e tt owes is)

pub owed_alike : (known : List TitledStatement) (d : TheoremParser) (f : RawLine) (e : TheoremParser) → Tied known d → step known d f ≡ Ok e → OwedAlike (owed_by known d f) (due_after known (open_of d) f) (context_at known (open_of d)).names
unfolding step
owed_alike known d f e t is = owed_there known d.section d f e t.body is

-- ---- neighbouring lines, and the end

apart_there : (known : List TitledStatement) (p : Section) (d : TheoremParser) (f : RawLine) (e : TheoremParser) → Takes known p d f e → strict.is_apart d f ≡ is_apart (open_there d p) f
apart_there known places.Proving d (rawlines.Declare sort new) e is = absurd cc
apart_there known places.Proving d (rawlines.Made sort new) e is = absurd cc
apart_there known places.Proving d f e is = refl
apart_there known places.Splitting d (rawlines.Declare sort new) e is = absurd cc
apart_there known places.Splitting d (rawlines.Made sort new) e is = absurd cc
apart_there known places.Splitting d f e is = refl
apart_there known places.Closed d (rawlines.Declare sort new) e is = absurd cc
apart_there known places.Closed d (rawlines.Made sort new) e is = absurd cc
apart_there known places.Closed d f e is = refl
apart_there known places.Done d (rawlines.Declare sort new) e is = absurd cc
apart_there known places.Done d (rawlines.Made sort new) e is = absurd cc
apart_there known places.Done d f e is = refl
apart_there known p d (rawlines.Declare sort new) e is = refl
apart_there known p d (rawlines.Made sort new) e is = refl
apart_there known p d f e is = refl

pub apart_alike : (known : List TitledStatement) (d : TheoremParser) (f : RawLine) (e : TheoremParser) → step known d f ≡ Ok e → strict.is_apart d f ≡ is_apart (open_of d) f
unfolding step
apart_alike known d f e is = apart_there known d.section d f e is

ended_there : (d : TheoremParser) (p : Section) → theorem_ended (open_there d p) ≡ cond (is_last p) (Some (entry_of_parser d)) None
ended_there d places.Done = refl
ended_there d p = refl

pub ended_alike : (d : TheoremParser) → theorem_ended (open_of d) ≡ cond (is_done d) (Some (entry_of_parser d)) None
ended_alike d = ended_there d d.section
