use Rattle.incumbent_board.proofs.Packing.{standing_back}
use Rattle.incumbent_board.proofs.laws.words_spell_standings.Goals as goal

pub returns : goal.returns
returns c = standing_back
