-- When an instance gives a goal.
use Rattle.std.specs.Prelude.{◌≡◌, ℕ, ◌⊎◌, List, Bool, false, ◌||◌, if◌then◌else◌, IsTrue}
use Rattle.std.specs.Prelude.{MatchBool, Some, slice_get, map, All, Contains}
use Rattle.std.specs.List.{list_all, AllZip}
use Rattle.std.specs.Option.{option_map_or}
use Rattle.e_literal.specs.declared.object.Obj.{Obj}
use Rattle.e_literal.specs.declared.object.Scope.{Scope}
use Rattle.e_literal.specs.declared.literal.Lit.{Lit}
use Rattle.e_literal.specs.Literal.{negation, is_in_scope}
use Rattle.e_literal.specs.Same.{same_lit}
use Rattle.e_literal.specs.Facts.{has, others, is_metric}
use Rattle.e_literal.specs.Rows.{Row}
use Rattle.e_clause.specs.declared.cert.Part.{Part}
use Rattle.e_clause.specs.declared.cert.TransferCert.{TransferCert}
use Rattle.e_clause.specs.declared.pattern.Pattern.{Pattern}
use Rattle.e_clause.specs.Instance.{Inst, number}
use Rattle.e_clause.specs.Metric.{MetricConsequence}
use Rattle.e_clause.specs.RuleKinds.{is_transfer}
use Rattle.e_clause.specs.Transfer.{Stands, TransferOf}
use Rattle.e_clause.specs.Views.{lit_of_pattern}
use Rattle.e_clause.specs.Wide.{IsTransferSystem, HasWidth}
use Rattle.e_clause.specs.PartCertificate.{part_certifies, part_in}
use Rattle.e_clause.specs.TransferCertificate.{transfer_certifies, transfer_in}
use Rattle.e_metric.specs.MetricAnswers.{IsTooWideSystem}
use Rattle.e_clause.specs.declared.cert.Version.TheVariants as version
use Rattle.e_clause.specs.Versions.{is_part_of}
use Rattle.e_transfer.specs.declared.equations.Equation.{Equation}
use Rattle.e_transfer.specs.declared.query.Strength.{Strength}
use Rattle.e_transfer.specs.declared.query.Strength.TheVariants as strength
use Rattle.e_transfer.specs.declared.walk.Verdict.{Verdict}
use Rattle.e_transfer.specs.declared.walk.Verdict.TheVariants as verdict
use Rattle.e_transfer.specs.declared.unify.Binding.{Binding}
use Rattle.e_transfer.specs.inner.Equations.{all_agree}
use Rattle.e_transfer.specs.inner.Bindings.{BindingsAgree}

-- the literal of a pattern, or its negation
abbrev pub signed_literal : Bool → Pattern → Lit
signed_literal negated p = (if negated then negation (lit_of_pattern p) else lit_of_pattern p)

-- what an instance that has the goal needs: the negations of its other literals
abbrev pub needs_beside : List Lit → Lit → List Lit
needs_beside lits goal = map negation (others lits goal)

-- no metric system of the literal is wide, or one that is not wide gives it
abbrev pub IsNarrow : List Lit → Lit → Type 0
IsNarrow facts l = (w : ℕ) → IsTooWideSystem facts (Some l) w → ⊥

-- the literal is a fact, or it is metric and follows from the facts by narrow systems
abbrev pub HoldsNarrowly : List Lit → Lit → Type 0
HoldsNarrowly facts l = IsTrue (has facts l) ⊎ (MetricConsequence facts l × IsNarrow facts l)

-- what a needed literal has to be
abbrev pub Suffices : Strength → List Lit → Lit → Type 0
Suffices strength.Facts facts l = IsTrue (has facts l)
Suffices strength.Sums facts l = Stands facts l
Suffices strength.NarrowSums facts l = HoldsNarrowly facts l

-- the literal at the place is the same as the goal
abbrev pub is_at : List Lit → ℕ → Lit → Bool
is_at lits place goal = option_map_or (λ l. same_lit l goal) (slice_get lits place) false

-- the instance at these arguments over the scope has the goal at the place, and gives it
pub record GivesGoal (m : Strength) (scope : Scope) (facts : List Lit) (goal : Lit) (rule place : ℕ)
    (args : List Obj) : Type 0 where
  pub lits : List Lit
  pub instance : Inst rule args ≡ Some lits
  pub over : IsTrue (list_all (is_in_scope scope) args)
  pub here : IsTrue (is_at lits place goal)
  pub suffice : All (Suffices m facts) (needs_beside lits goal)

-- what each literal of an instance that gives the goal is: the goal, at its place, and elsewhere
-- the goal or one whose negation suffices
abbrev pub IsFittingLiteral : Strength → List Lit → Lit → Bool → Lit → Type 0
IsFittingLiteral m facts goal here l =
    MatchBool here (IsTrue (same_lit l goal))
    (IsTrue (same_lit l goal) ⊎ Suffices m facts (negation l))

-- ---- why a needed literal holds, or that it does not, or that one of its systems is wide

-- one of the literals is metric, and one of its metric systems is wide
pub record IsWideNeed (facts ls : List Lit) (w : ℕ) : Type 0 where
  pub need : Lit
  pub is_one : Contains ls need
  pub is_metric : IsTrue (is_metric need)
  pub too_wide : IsTooWideSystem facts (Some need) w

-- the part certifies the literal, names objects in scope, and literals that are well formed
pub record IsCertifyingPart (scope : Scope) (facts : List Lit) (l : Lit) (p : Part) : Type 0 where
  pub certifies : IsTrue (part_certifies facts l p)
  pub over : IsTrue (part_in scope p)
  pub written : IsTrue (is_part_of version.One p)

abbrev pub PartIs : Strength → Scope → List Lit → Lit → Verdict Part → Type 0
PartIs m scope facts l (verdict.Yes p) = IsCertifyingPart scope facts l p
PartIs m scope facts l verdict.No = Suffices m facts l → ⊥
PartIs m scope facts l (verdict.TooWide w) =
    (m ≡ strength.Sums) × IsTrue (is_metric l) × IsTooWideSystem facts (Some l) w

-- what is answered on a literal with a wide system: where only narrow ones are searched for, that
-- it does not suffice
abbrev pub passed_over : Strength → ℕ → Verdict Part
passed_over strength.Facts w = verdict.No
passed_over strength.Sums w = verdict.TooWide w
passed_over strength.NarrowSums w = verdict.No

-- as many parts as literals, and each certifies its literal
abbrev pub AreCertifyingParts : Scope → List Lit → List Lit → List Part → Type 0
AreCertifyingParts scope facts ls ps = AllZip (IsCertifyingPart scope facts) ls ps

abbrev pub PartsAre : Strength → Scope → List Lit → List Lit → Verdict (List Part) → Type 0
PartsAre m scope facts ls (verdict.Yes ps) = AreCertifyingParts scope facts ls ps
PartsAre m scope facts ls verdict.No = All (Suffices m facts) ls → ⊥
PartsAre m scope facts ls (verdict.TooWide w) = (m ≡ strength.Sums) × IsWideNeed facts ls w

-- the diagram literals are facts
abbrev pub all_diagrams_hold : List Lit → List Lit → Bool
all_diagrams_hold facts ls = list_all (λ l. is_metric l || has facts l) ls

-- ---- whether instances give the goal

-- the certificate certifies the goal, and its parts name literals that are well formed
pub record IsCertifyingTransfer (scope : Scope) (facts : List Lit) (goal : Lit)
    (cert : TransferCert) : Type 0 where
  pub over : IsTrue (transfer_in scope cert)
  pub certifies : IsTrue (transfer_certifies facts goal cert)
  pub written : IsTrue (list_all (is_part_of version.One) cert.parts)

-- a metric system of a literal that an instance needs is wide, and this is its width
pub record IsWideTransfer (scope : Scope) (facts : List Lit) (goal : Lit) (w : ℕ) : Type 0 where
  pub rows : List Row
  pub is_system : IsTransferSystem scope facts goal rows
  pub has_width : HasWidth rows w

-- one instance
abbrev pub InstanceIs : Strength → Scope → List Lit → Lit → ℕ → List Obj
    → Verdict TransferCert → Type 0
InstanceIs m scope facts goal rule args (verdict.Yes cert) =
    IsCertifyingTransfer scope facts goal cert
InstanceIs m scope facts goal rule args verdict.No =
    (place : ℕ) → GivesGoal m scope facts goal rule place args → ⊥
InstanceIs m scope facts goal rule args (verdict.TooWide w) =
    (m ≡ strength.Sums) × IsWideTransfer scope facts goal w

-- ---- many instances

-- none that has the goal at this place of the clause, with variables bound so, gives it
abbrev pub NoneWithBindings : Strength → Scope → List Lit → Lit → ℕ → ℕ → List Binding → Type 0
NoneWithBindings m scope facts goal rule place bindings =
    (args : List Obj) → BindingsAgree (number args) bindings
    → GivesGoal m scope facts goal rule place args → ⊥

-- none that has the goal at this place of the clause, with variables as these equations say, gives
-- it
abbrev pub NoneWithEquations : Strength → Scope → List Lit → Lit → ℕ → ℕ → List Equation → Type 0
NoneWithEquations m scope facts goal rule place equations =
    (args : List Obj) → IsTrue (all_agree (number args) equations)
    → GivesGoal m scope facts goal rule place args → ⊥

-- none that has the goal at this place of the clause gives it
abbrev pub NoneAt : Strength → Scope → List Lit → Lit → ℕ → ℕ → Type 0
NoneAt m scope facts goal rule place =
    (args : List Obj) → GivesGoal m scope facts goal rule place args → ⊥

-- none of the rule gives it
abbrev pub NoneOf : Strength → Scope → List Lit → Lit → ℕ → Type 0
NoneOf m scope facts goal rule = (place : ℕ) → NoneAt m scope facts goal rule place

-- none of a transfer clause gives it
abbrev pub NoneGives : Strength → Scope → List Lit → Lit → Type 0
NoneGives m scope facts goal =
    (rule : ℕ) → IsTrue (is_transfer rule) → NoneOf m scope facts goal rule

-- one that gives the goal; or none of those that are searched for, as `None` says; or one that is
-- too wide
abbrev pub RuleSearchIs : Strength → Scope → List Lit → Lit → Type 0 → Verdict TransferCert → Type 0
RuleSearchIs m scope facts goal None (verdict.Yes cert) = IsCertifyingTransfer scope facts goal cert
RuleSearchIs m scope facts goal None verdict.No = None
RuleSearchIs m scope facts goal None (verdict.TooWide w) =
    (m ≡ strength.Sums) × IsWideTransfer scope facts goal w

-- ---- the answer

-- the negation of each other literal of an instance is a fact, or follows from the facts by narrow
-- systems
pub record NarrowTransfer (scope : Scope) (facts : List Lit) (l : Lit) : Type 0 where
  pub lits : List Lit
  pub of : TransferOf scope l lits
  pub rest : All (HoldsNarrowly facts) (needs_beside lits l)
