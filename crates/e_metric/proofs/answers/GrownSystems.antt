-- What is solved of the facts of a kind, from what is solved of those before a place.
use Rattle.std.proofs.Common.{◌≡◌, ℕ, List, [], ◌∷◌, ◌++◌, map, take, drop, length, sym, ap, ap₂, ◌∙◌, subst, refl, None}
use Rattle.std.specs.Prelude.{flat_map}
use Rattle.std.proofs.lemmas.List.{nil_from_length}
use Rattle.e_literal.specs.declared.object.Kind.{Kind}
use Rattle.e_literal.specs.declared.object.Term.{Term}
use Rattle.e_literal.specs.declared.literal.Lit.{Lit}
use Rattle.e_clause.specs.declared.cert.RowName.{RowName}
use Rattle.e_clause.specs.System.{NamedRow, rows_of_term, system}
use Rattle.e_fraction.specs.declared.row.Row.{Row as GivenRow}
use Rattle.e_metric.specs.declared.solved_system.SolvedSystem.{SolvedSystem}
use Rattle.e_metric.specs.AgreeingRows.{AreRows}
use Rattle.e_metric.specs.inner.FurtherRows.{terms_added, rows_added_by_facts, rows_brought_by_facts}
use Rattle.e_metric.specs.SolvedSystems.{AreNamed, AreRowsOf, IsSolvedSystem}
use Rattle.e_metric.specs.ListedTerms.{distinct_terms}
use Rattle.e_metric.specs.RowOrder.{AreReordered}
use Rattle.e_metric.proofs.rows.Forms.{none_more}
use Rattle.e_metric.proofs.rows.RowsOfMoreFacts.{terms_at, same_raised_at, with_joining}
use Rattle.e_metric.proofs.answers.SolvedSystems.{named_append}
use Rattle.e_metric.proofs.rows.RowOrder.{one_order, reordered_more}

-- no row is named by none
pub no_rows : (ns : List NamedRow) (names : List RowName) (rows : List GivenRow) → AreNamed ns names rows → rows ≡ [] → ns ≡ []
no_rows ns names rows h e = by ns h.pairs h.are (sym h.rows_are ∙ e)
  where
    by : (ms : List NamedRow) (ps : List (RowName × GivenRow)) → AreRows ms ps → map (λ (p : RowName × GivenRow). p.1) ps ≡ [] → ms ≡ []
    by [] ps k n = refl
    by (m ∷ ms) [] k n = absurd k
    by (m ∷ ms) (p ∷ ps) k n = absurd (cc)

module _ (which : Kind) (facts : List Lit) (from : ℕ) (g : SolvedSystem) (solved_system : IsSolvedSystem which (take from facts) g)
    (raised : g.raised ≡ length (flat_map (rows_of_term facts) g.terms.items)) where
  abbrev all : List NamedRow
  all = solved_system.rows.all ++ rows_brought_by_facts which facts from

  same_terms : flat_map (rows_of_term facts) (distinct_terms which (take from facts) None) ≡ flat_map (rows_of_term (take from facts)) (distinct_terms which (take from facts) None)
  same_terms =
      same_raised_at which facts from (distinct_terms which (take from facts) None)
      (subst (λ ts. length (flat_map (rows_of_term facts) ts) ≡ length (flat_map (rows_of_term (take from facts)) ts)) solved_system.terms (sym raised ∙ solved_system.raised))

  order : AreReordered all (system which facts None)
  order = one_order all (system which (take from facts) None ++ rows_brought_by_facts which facts from) (system which facts None)
      (reordered_more solved_system.rows.all (system which (take from facts) None) (rows_brought_by_facts which facts from) solved_system.rows.order) (with_joining which facts from same_terms)

  -- the terms that are none of those that are kept
  fresh_is : (fresh : List Term) → fresh ≡ terms_added which g.terms.items (drop from facts) → fresh ≡ terms_added which (distinct_terms which (take from facts) None) (drop from facts)
  fresh_is fresh e = e ∙ ap (λ ts. terms_added which ts (drop from facts)) solved_system.terms

  joined_rows : (fresh : List Term) → fresh ≡ terms_added which g.terms.items (drop from facts) → rows_added_by_facts which facts (drop from facts) fresh ≡ rows_brought_by_facts which facts from
  joined_rows fresh e = ap (rows_added_by_facts which facts (drop from facts)) (fresh_is fresh e)

  pub joined_terms : (fresh : List Term) → fresh ≡ terms_added which g.terms.items (drop from facts) → g.terms.items ++ fresh ≡ distinct_terms which facts None
  joined_terms fresh e = ap₂ {A = List Term} {B = List Term} (λ x y. x ++ y) solved_system.terms (fresh_is fresh e) ∙ sym (terms_at which facts from)

  -- the terms and the rows with their names that the facts from the place on bring
  module _ (fresh : List Term) (names : List RowName) (rows : List GivenRow) (e : fresh ≡ terms_added which g.terms.items (drop from facts)) (named : AreNamed (rows_added_by_facts which facts (drop from facts) fresh) names rows) where
    joining_named : AreNamed (rows_brought_by_facts which facts from) names rows
    joining_named = subst (λ ns. AreNamed ns names rows) (joined_rows fresh e) named

    pub facts_together : AreRowsOf which facts None (g.names.items ++ names) (g.solved_rows ++ rows)
    facts_together = record {
      all = all;
      order = order;
      named = named_append solved_system.rows.all (rows_brought_by_facts which facts from) g.names.items names g.solved_rows rows solved_system.rows.named joining_named;
    }

    -- where they bring nothing, the solved system is that of all
    pub unchanged : length rows ≡ 0 → length fresh ≡ 0 → IsSolvedSystem which facts g
    unchanged none n = record {
      rows = record {
        all = solved_system.rows.all;
        order = subst (λ v. AreReordered v (system which facts None)) (ap (λ v. solved_system.rows.all ++ v) (no_rows (rows_brought_by_facts which facts from) names rows joining_named (nil_from_length rows none)) ∙ none_more solved_system.rows.all) order;
        named = solved_system.rows.named;
      };
      terms = sym (ap (λ v. g.terms.items ++ v) (nil_from_length fresh n) ∙ none_more g.terms.items) ∙ joined_terms fresh e;
      raised = raised;
    }

-- equal parts
pub same_solved : (which : Kind) (facts : List Lit) (g n : SolvedSystem) → n.names.items ≡ g.names.items → n.terms.items ≡ g.terms.items → n.raised ≡ g.raised → n.solved_rows ≡ g.solved_rows → IsSolvedSystem which facts g → IsSolvedSystem which facts n
same_solved which facts g n names terms raised solved_rows h = record {
  rows = subst (λ v. AreRowsOf which facts None v n.solved_rows) (sym names) (subst (AreRowsOf which facts None g.names.items) (sym solved_rows) h.rows);
  terms = terms ∙ h.terms;
  raised = raised ∙ h.raised ∙ ap (λ ts. length (flat_map (rows_of_term facts) ts)) (sym terms);
}
