use Rattle.tree_format.proofs.SameTexts.{same_search_same_texts, same_search_same_gap_text}
use Rattle.tree_format.proofs.laws.same_search_same_texts.Goals as goal

pub returns : goal.returns
returns c = record { plans = same_search_same_texts; gaps = same_search_same_gap_text }
