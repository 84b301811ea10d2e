use Rattle.e_drawing.proofs.spelled.TextsAgain.{canonical_figure_is_read}
use Rattle.e_drawing.proofs.laws.canonical_figure_is_read.Goals as goal

pub returns : goal.returns
returns c = canonical_figure_is_read
