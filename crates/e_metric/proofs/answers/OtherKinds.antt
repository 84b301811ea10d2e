-- The answers on literals of other kinds, and of the facts alone.
use Rattle.std.proofs.Common.{◌≡◌, ℕ, List, [], ◌∷◌, ◌++◌, map, sym, ap, ◌∙◌, subst, cond, false, Option, Some, None}
use Rattle.std.specs.Prelude.{flat_map}
use Rattle.std.specs.Option.{option_map_or}
use Rattle.e_literal.specs.declared.object.Kind.{Kind}
use Rattle.e_literal.specs.declared.object.Term.{Term}
use Rattle.e_literal.specs.declared.literal.Lit.{Lit}
use Rattle.e_literal.specs.Literal.{kind_of_atom, negation}
use Rattle.e_literal.specs.Rows.{Row, first_terms}
use Rattle.e_literal.specs.Solution.{Satisfy}
use Rattle.e_literal.specs.WellFormed.{same_kind}
use Rattle.e_clause.specs.declared.cert.MetricCert.{MetricCert}
use Rattle.e_clause.specs.declared.cert.RowName.TheVariants.{Fact, Goal}
use Rattle.e_clause.specs.Assignment.{terms_of_lits}
use Rattle.e_clause.specs.System.{NamedRow, of_kind, against_goal, rows_named, rows_of_term, rows_of_kind, rows_of_system}
use Rattle.e_clause.specs.Wide.{HasWidth}
use Rattle.e_fraction.specs.Views.{views_of_rows}
use Rattle.e_simplex.specs.Answer.{assigned_value, AreValuesOf}
use Rattle.e_metric.specs.declared.consequence.Metric.TheVariants.{Yes, No, TooWide}
use Rattle.e_metric.specs.declared.solved_system.SolvedSystem.{SolvedSystem}
use Rattle.e_metric.specs.declared.kind_system.KindSystem.TheVariants as kind_system
use Rattle.e_metric.specs.SolvedSystems.{IsAnswerAlone}
use Rattle.e_metric.proofs.terms.FirstTerms.{kind_one}
use Rattle.e_metric.proofs.answers.KindAnswers.{satisfied}
use Rattle.e_metric.proofs.answers.CertificatesOfFronts.{certified_wider}

abbrev row_of : NamedRow → Row
row_of n = n.row

-- a literal of another kind leaves the system as it is
same_system : (which : Kind) (facts : List Lit) (wanted : Option Lit) → of_kind which (against_goal wanted) ≡ [] → rows_of_system which facts None ≡ rows_of_system which facts wanted
same_system which facts wanted e =
    ap (λ negated_at. map row_of (rows_named (λ l. Fact l) (of_kind which facts)
    ++ (rows_named (λ l. Goal) negated_at ++ (flat_map (rows_of_term facts) (first_terms [] (terms_of_lits (of_kind which facts) ++ terms_of_lits negated_at)) ++ rows_of_kind which)))) (sym e)

pub solved_alone : (g : SolvedSystem) (values : List (Term × ℕ)) → AreValuesOf (views_of_rows g.solved_rows) values → IsAnswerAlone (kind_system.Solved g) (No values)
solved_alone g values h which facts wanted solved_system e =
    subst (Satisfy (assigned_value values)) (same_system which facts wanted e)
    (satisfied which facts None solved_system.rows.all solved_system.rows.order solved_system.rows.named.pairs solved_system.rows.named.are g.solved_rows solved_system.rows.named.rows_are (assigned_value values) h.satisfy)

pub absurd_alone : (m : MetricCert) → IsAnswerAlone (kind_system.Absurd m) (Yes m)
absurd_alone m which facts wanted h e = certified_wider facts wanted m h

pub wide_alone : (w : ℕ) → IsAnswerAlone (kind_system.TooWide w) (TooWide w)
wide_alone w which facts wanted h e = subst (λ rs. HasWidth rs w) (same_system which facts wanted e) h

-- a literal of one kind is of no other
pub other_kind : (k which : Kind) (l : Lit) → kind_of_atom l.atom ≡ Some which → same_kind k which ≡ false → of_kind k (against_goal (Some l)) ≡ []
other_kind k which l e n =
    kind_one k (negation l) ∙ ap (λ b. cond b (negation l ∷ []) []) (ap (λ o. option_map_or (same_kind k) o false) e ∙ n)
