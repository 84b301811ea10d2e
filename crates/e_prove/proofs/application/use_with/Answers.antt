use Rattle.std.proofs.Common.{sym, ap, ◌∙◌}
use Rattle.std.specs.Option.{option_map}
use Rattle.e_theorem.specs.Statements.{as_view}
use Rattle.e_prove.proofs.LicensedLiterals.{err_map}
use Rattle.e_prove.proofs.Applications.{written_is, used_is_written, stops_without, written_fits, written_needs}
use Rattle.e_prove.proofs.application.use_with.Goals as goal

pub use_at-requires-clause-fit : goal.use_at-requires-clause-fit
use_at-requires-clause-fit c =
    let w = written_is c.args.pattern.now c.in-Some.args.items c.new.result (sym (ap (option_map (λ v. v.items)) c.in-Some.is) ∙ c.in_ok-args.ensures) c.new.ensures in
    written_fits (as_view c.args.statement.now) c.args.context.now c.args.pattern.now c.new.result w c.requires

pub use_at-requires-clause-needs : goal.use_at-requires-clause-needs
use_at-requires-clause-needs c =
    let w = written_is c.args.pattern.now c.in-Some.args.items c.new.result (sym (ap (option_map (λ v. v.items)) c.in-Some.is) ∙ c.in_ok-args.ensures) c.new.ensures in
    written_needs (as_view c.args.statement.now) c.args.context.now c.args.pattern.now c.new.result w c.requires

pub returns-in-Some-clause-ok : goal.returns-in-Some-clause-ok
returns-in-Some-clause-ok c =
    let w = written_is c.args.pattern.now c.in-Some.args.items c.new.result (sym (ap (option_map (λ v. v.items)) c.in-Some.is) ∙ c.in_ok-args.ensures) c.new.ensures in
    used_is_written (as_view c.args.statement.now) c.args.pattern.now c.args.context.now c.new.result c.use_at.result w.no_blank c.requires.fits w.is c.use_at.ensures.args c.use_at.ensures.certified c.use_at.ensures.version c.use_at.ensures.gives

pub returns-in-Some-clause-err : goal.returns-in-Some-clause-err
returns-in-Some-clause-err c =
    let w = written_is c.args.pattern.now c.in-Some.args.items c.new.result (sym (ap (option_map (λ v. v.items)) c.in-Some.is) ∙ c.in_ok-args.ensures) c.new.ensures in
    err_map _ _ c.use_at.result (λ h k. stops_without (as_view c.args.statement.now) c.args.context.now c.args.pattern.now c.new.result h w.no_blank w.is k) c.use_at.ensures.err
