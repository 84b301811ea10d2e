use Rattle.e_construct.proofs.Sorts.{names_all_objects}
use Rattle.e_construct.proofs.laws.lines_name_all_objects.Goals as goal

pub returns : goal.returns
returns c = names_all_objects
