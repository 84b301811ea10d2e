-- A line that ends where no certificate is owed: nothing is kept for it.
use Rattle.std.proofs.Common.{◌≡◌, true, List, ◌++◌, Option, Some, None, Result, Ok, refl, sym, ap, ◌∙◌}
use Rattle.std.specs.Prelude.{is_none}
use Rattle.std.specs.Option.{option_to_list}
use Rattle.std.proofs.lemmas.Bool.{and_parts}
use Rattle.std.proofs.lemmas.List.{append-nil}
use Rattle.e_line.specs.declared.fault.FaultKind.{FaultKind}
use Rattle.e_line.specs.Reading.{◌>>=◌}
use Rattle.e_book.specs.Steps.{no_names}
use Rattle.e_cert.specs.declared.owed.OpenSums.{OpenSums}
use Rattle.e_cert.specs.declared.owed.Obligation.{Obligation}
use Rattle.e_cert.specs.declared.owed.Obligation.TheVariants as due
use Rattle.e_cert.specs.declared.owed.Pending.{Pending}
use Rattle.e_cert.specs.declared.kept.StepCerts.{StepCerts}
use Rattle.e_cert.specs.Owed.{with_sums_ended, kept_of, finish_certs}
use Rattle.e_read.specs.declared.reading.BlockParser.{BlockParser}
use Rattle.e_read.specs.inner.Machine.{owes_nothing, is_nothing, is_settled, finish_line}

nothing_is : (d : Obligation) → is_nothing d ≡ true → d ≡ due.Nothing
nothing_is due.Nothing h = refl
nothing_is d h = absurd cc

none_is : (s : Option OpenSums) → is_none s ≡ true → s ≡ None
none_is None h = refl
none_is (Some s) h = absurd cc

abbrev answered : {A : Type 0} → A → Result A FaultKind
answered x = Ok x

-- without its names
abbrev unnamed : Pending → Pending
unnamed o = record o { names = no_names }

pub settled_owed : (o : Pending) → is_settled o ≡ true → unnamed o ≡ owes_nothing
settled_owed o h =
    let p = and_parts (is_nothing o.due) (is_none o.sums) h in
    ap (λ (d : Obligation). record { names = no_names; due = d; sums = o.sums }) (nothing_is o.due p.0)
    ∙ ap (λ (s : Option OpenSums). record { names = no_names; due = due.Nothing; sums = s }) (none_is o.sums p.1)

no_certs : (o : Pending) → is_settled o ≡ true → finish_certs o ≡ answered None
unfolding finish_certs
no_certs o h =
    let p = and_parts (is_nothing o.due) (is_none o.sums) h in
    ap (λ (x : Result Pending FaultKind). x >>= λ e. kept_of e.due) (ap (with_sums_ended o) (none_is o.sums p.1)) ∙ ap kept_of (nothing_is o.due p.0)

abbrev keeping : BlockParser → Pending → List StepCerts → BlockParser
keeping r o ks = record { version = r.version; parser = r.parser; owed = o; kept = ks }

pub settled_line : (r : BlockParser) → is_settled r.owed ≡ true → finish_line r ≡ answered (record r { owed = unnamed r.owed })
settled_line r h =
    ap (λ (x : Result (Option StepCerts) FaultKind). x >>= λ k. answered (keeping r owes_nothing (r.kept ++ option_to_list k))) (no_certs r.owed h)
    ∙ ap (λ (ks : List StepCerts). answered (keeping r owes_nothing ks)) (append-nil r.kept)
    ∙ ap (λ (o : Pending). answered (keeping r o r.kept)) (sym (settled_owed r.owed h))
