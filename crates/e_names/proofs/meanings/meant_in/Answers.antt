use Rattle.std.proofs.Common.{◌≡◌, true, subst, arith}
use Rattle.std.specs.List.{list_all}
use Rattle.e_literal.specs.declared.object.Scope.{Scope}
use Rattle.e_literal.specs.Literal.{all_in_scope}
use Rattle.e_theorem.specs.Notions.{as_stated}
use Rattle.e_theorem.specs.Faults.{UseFaultIs}
use Rattle.e_names.proofs.read_lines.ItemsWritten.{notion_few, is_known_one, first_within, first_count, args_fit}
use Rattle.e_names.proofs.meanings.meant_in.Goals as goal

pub expand_first-requires : goal.expand_first-requires
expand_first-requires c = record { few = notion_few c.args.notions.now c.args.raw.now.title c.in_ok-notion.notion.now c.requires.notions c.in_ok-notion.ensures }

pub unreachable-requires : goal.unreachable-requires
unreachable-requires c =
    args_fit c.args.names.now c.in_ok-notion.notion.now c.args.raw.now.args c.items-2.result.now c.items.result.now c.in_ok-args.args c.items-3.result.now c.scope_of_names.result c.items-2.ensures c.items.ensures c.items-3.ensures
    c.scope_of_names.ensures (omega (arith, c.if-len.false, c.len.ensures, c.len-2.ensures)) c.in_ok-args.ensures
    (subst (UseFaultIs (as_stated c.in_ok-notion.notion.now) c.items-3.result.now c.scope_of_names.result) c.in-Err-BadArgs.field-0-is c.in-Err-BadArgs.ensures.err)

pub returns-in-Ok-clause-within : goal.returns-in-Ok-clause-within
returns-in-Ok-clause-within c =
    let one = is_known_one c.args.notions.now c.args.raw.now.title c.in_ok-notion.notion.now c.requires.notions c.in_ok-notion.ensures in
    subst (λ (s : Scope). list_all (all_in_scope s) c.in-Ok.lits ≡ true) c.scope_of_names.ensures
    (first_within c.in_ok-notion.notion.now c.items-3.result.now c.scope_of_names.result c.args.most c.in-Ok.lits one c.in-Ok.ensures.fit c.in-Ok.ensures.lits)

pub returns-in-Ok-clause-count : goal.returns-in-Ok-clause-count
returns-in-Ok-clause-count c = first_count c.in_ok-notion.notion.now c.items-3.result.now c.scope_of_names.result c.args.most c.in-Ok.lits c.in-Ok.ensures.lits
