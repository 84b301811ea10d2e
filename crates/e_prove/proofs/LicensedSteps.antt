-- What a step is licensed as.
use Rattle.std.proofs.Common.{◌≡◌, ℕ, List, [], refl, ap, subst, true, Option, Some, None}
use Rattle.std.specs.Prelude.{IsTrue}
use Rattle.std.specs.List.{list_all}
use Rattle.std.proofs.lemmas.Bool.{and_from}
use Rattle.e_literal.specs.declared.literal.Lit.{Lit}
use Rattle.e_literal.specs.Use.{StatementView}
use Rattle.e_construct.specs.declared.construction.Construction.{Construction}
use Rattle.e_construct.specs.Construct.{needs_of_construction}
use Rattle.e_clause.specs.declared.cert.By.{By}
use Rattle.e_clause.specs.declared.cert.Cert.{Cert}
use Rattle.e_clause.specs.Certify.{certifies, certify_all}
use Rattle.e_clause.proofs.Sound.{allowed_of_certified, all_allowed_of_certified}
use Rattle.e_deriv.specs.declared.block.Step.TheVariants.{Cite as CiteStep, Hence as HenceStep, Make as MakeStep}
use Rattle.e_deriv.specs.Script.{Cite, Hence, Make, step_script, bare_script}
use Rattle.e_deriv.specs.Parts.{filled_by}
use Rattle.e_deriv.specs.PlacedSteps.{placed_steps}
use Rattle.e_deriv.specs.Steps.{is_cited}
use Rattle.e_deriv.specs.Naming.{names_of_steps}
use Rattle.e_clause.specs.declared.cert.Version.TheVariants as version
use Rattle.e_clause.specs.Versions.{is_cert_of}
use Rattle.e_prove.specs.declared.state_before.StateBefore.{StateBefore}
use Rattle.e_prove.specs.inner.NextStates.{after_literal, after_make}
use Rattle.e_prove.specs.inner.LicensedSteps.{IsLicensedStep}
use Rattle.e_deriv.specs.Versions.{has_certs_of}

-- ---- a citation

licensed_by : (before : List StatementView) (by : By) (x : StateBefore) → is_cited x.context.facts by ≡ true → IsLicensedStep before (CiteStep by) x (CiteStep by) (after_literal by.lit x)
unfolding placed_steps bare_script filled_by names_of_steps step_script has_certs_of
licensed_by before by x h =
    record {
      licensed = λ rest more goal form. record { fits = form; allowed = tt; others = h };
      certified = λ rest more goal form. and_from _ _ form h;
      erased = λ rest more e. ap (Cite by) e;
      version = λ more k. k;
      next = λ rest more goal. refl;
      derived_next = λ more goal. refl;
      named = λ rest. refl;
      kept = refl;
    }

pub licensed_cite : (before : List StatementView) (by derived : By) (x after : StateBefore) → derived ≡ by → is_cited x.context.facts by ≡ true → after ≡ after_literal by.lit x →
    IsLicensedStep before (CiteStep by) x (CiteStep derived) after
licensed_cite before by derived x after same h gives = rw (same, gives) (licensed_by before by x h)

-- ---- a hence

licensed_by_cert : (before : List StatementView) (lit : Lit) (written : Option Cert) (cert : Cert) (x : StateBefore) → IsTrue (certifies x.context.scope x.context.facts lit cert) → IsTrue (is_cert_of version.One cert) →
    IsLicensedStep before (HenceStep lit written) x (HenceStep lit (Some cert)) (after_literal lit x)
unfolding placed_steps bare_script filled_by names_of_steps step_script has_certs_of
licensed_by_cert before lit written cert x h g =
    record {
      licensed = λ rest more goal form. record { fits = form; allowed = (allowed_of_certified x.context.scope x.context.facts lit cert h, tt); others = tt };
      certified = λ rest more goal form. and_from _ _ form (and_from _ _ (and_from _ _ h refl) refl);
      erased = λ rest more e. ap (Hence lit None) e;
      version = λ more k. and_from _ _ g k;
      next = λ rest more goal. refl;
      derived_next = λ more goal. refl;
      named = λ rest. refl;
      kept = refl;
    }

pub licensed_hence : (before : List StatementView) (lit derived : Lit) (written : Option Cert) (cert : Cert) (x after : StateBefore) → derived ≡ lit →
    IsTrue (certifies x.context.scope x.context.facts lit cert) → IsTrue (is_cert_of version.One cert) → after ≡ after_literal lit x →
    IsLicensedStep before (HenceStep lit written) x (HenceStep derived (Some cert)) after
licensed_hence before lit derived written cert x after same h g gives = rw (same, gives) (licensed_by_cert before lit written cert x h g)

-- ---- a construction

licensed_by_certs : (before : List StatementView) (construction : Construction) (names : List (List ℕ)) (written certs : List Cert) (x : StateBefore) → IsTrue (certify_all x.context.scope x.context.facts (needs_of_construction construction) certs) →
    IsTrue (list_all (is_cert_of version.One) certs) → IsLicensedStep before (MakeStep construction names written) x (MakeStep construction names certs) (after_make construction names x)
unfolding placed_steps bare_script filled_by names_of_steps step_script has_certs_of
licensed_by_certs before construction names written certs x h g =
    record {
      licensed = λ rest more goal fit. record { fits = fit; allowed = all_allowed_of_certified x.context.scope x.context.facts (needs_of_construction construction) certs h; others = tt };
      certified = λ rest more goal fit. and_from _ _ fit (and_from _ _ h refl);
      erased = λ rest more e. ap (Make construction names []) e;
      version = λ more k. and_from _ _ g k;
      next = λ rest more goal. refl;
      derived_next = λ more goal. refl;
      named = λ rest. refl;
      kept = refl;
    }

pub licensed_make : (before : List StatementView) (construction derived : Construction) (names kept : List (List ℕ)) (written certs given : List Cert) (needed : List Lit) (x after : StateBefore) →
    derived ≡ construction → kept ≡ names → given ≡ certs → needed ≡ needs_of_construction construction → IsTrue (certify_all x.context.scope x.context.facts needed certs) → IsTrue (list_all (is_cert_of version.One) certs) → after ≡ after_make construction names x →
    IsLicensedStep before (MakeStep construction names written) x (MakeStep derived kept given) after
licensed_make before construction derived names kept written certs given needed x after same these those all h g gives =
    rw (same, these, those, gives) (licensed_by_certs before construction names written certs x (subst (λ ls. certify_all x.context.scope x.context.facts ls certs ≡ true) all h) g)
