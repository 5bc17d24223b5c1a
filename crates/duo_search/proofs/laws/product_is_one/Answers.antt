use Rattle.duo_search.proofs.OneProduct.{product_is_one, same_is_product}
use Rattle.duo_search.proofs.laws.product_is_one.Goals as goal

pub returns : goal.returns
returns c = record { one = product_is_one; same = same_is_product }
