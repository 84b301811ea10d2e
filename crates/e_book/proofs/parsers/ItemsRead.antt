-- What is known of what is read of a book, as the grammar reads it.
use Rattle.std.proofs.Common.{◌≡◌, ℕ, true, Option, Some, None, Result, Ok, Err, subst, ◌∙◌}
use Rattle.std.specs.Prelude.{IfOk, IfSome}
use Rattle.std.specs.List.{list_all}
use Rattle.e_text.specs.Lines.{Ahead}
use Rattle.e_deriv.specs.Fitting.{is_small_statement}
use Rattle.e_line.specs.declared.fault.BookFault.{BookFault}
use Rattle.e_names.specs.declared.known.Known.{Known}
use Rattle.e_book.specs.declared.item.Item.{Item}
use Rattle.e_book.specs.declared.item.Item.TheVariants as items
use Rattle.e_names.specs.TitledStatements.{stated_by}
use Rattle.e_names.specs.Titled.{Titled, are_notions}
use Rattle.e_book.specs.TheoremViews.{TheoremView, entry_of}
use Rattle.e_book.specs.HasSpelling.{HasSpelling}
use Rattle.e_book.specs.Grammar.{Rest}
use Rattle.e_book.specs.Definitions.{OfTheorem, OfNotion, Answer, view_of, BookReads, IsWellFormedItem, HasWellFormedView, IsFittingItem, item_from}
use Rattle.e_book.specs.inner.Machine as machine
use Rattle.e_book.proofs.fit_theorems.Fitting.{fitting, small_statement}
use Rattle.e_book.proofs.parsers.PartialInvariants.{read_is_well_formed}
use Rattle.e_book.proofs.grammar.PartialTied.{items_read_alike}

pub reads_grammar : (known : Known) (last : ℕ) (lines : Rest) (result : Result (Option Item) BookFault) (new : Ahead) → are_notions known.notions ≡ true → BookReads result new (machine.item_from known last None lines)
    → BookReads result new (item_from known last None lines)
reads_grammar known last lines result new all h = subst (λ (r : Answer). BookReads result new r) (items_read_alike known last lines all) h

pub items_good : (known : Known) (last : ℕ) (lines : Rest) (result : Result (Option Item) BookFault) (new : Ahead) → are_notions known.notions ≡ true → BookReads result new (machine.item_from known last None lines)
    → IfOk result (λ o. IfSome o (HasWellFormedView known))
items_good known last lines (Ok (Some i)) new all h = read_is_well_formed known last (view_of i) lines new.lines all h
items_good known last lines (Ok None) new all h = tt
items_good known last lines (Err f) new all h = tt

item_fits : (known : Known) (i : Item) → list_all is_small_statement (stated_by known.theorems) ≡ true → HasWellFormedView known i → IsFittingItem known i
item_fits known (items.Theorem t) small g = (fitting known.theorems (entry_of t) small g.0.fits, small_statement known.theorems (entry_of t) g.0.fits)
item_fits known (items.Notion title n) small g = tt

pub items_fit : (known : Known) (last : ℕ) (lines : Rest) (result : Result (Option Item) BookFault) (new : Ahead) → list_all is_small_statement (stated_by known.theorems) ≡ true → are_notions known.notions ≡ true
    → BookReads result new (machine.item_from known last None lines) → IfOk result (λ o. IfSome o (IsFittingItem known))
items_fit known last lines (Ok (Some i)) new small all h = item_fits known i small (read_is_well_formed known last (view_of i) lines new.lines all h)
items_fit known last lines (Ok None) new small all h = tt
items_fit known last lines (Err f) new small all h = tt

-- ---- as the grammar reads it

pub spelled_grammar : (known : Known) (last : ℕ) (t : TheoremView) (lines rest : Rest) → are_notions known.notions ≡ true → item_from known last None lines ≡ Ok (Some (OfTheorem t, rest)) → HasSpelling known.theorems t
spelled_grammar known last t lines rest all e = (read_is_well_formed known last (OfTheorem t) lines rest all (items_read_alike known last lines all ∙ e)).0

pub notions_grammar : (known : Known) (last : ℕ) (n : Titled) (lines rest : Rest) → are_notions known.notions ≡ true → item_from known last None lines ≡ Ok (Some (OfNotion n, rest)) → IsWellFormedItem known (OfNotion n)
notions_grammar known last n lines rest all e = read_is_well_formed known last (OfNotion n) lines rest all (items_read_alike known last lines all ∙ e)
