use Rattle.std.proofs.Common.{◌≡◌, ℕ, List, [], ◌∷◌, ◌++◌, ◌∙◌, refl, subst, sym, arith}
use Rattle.std.specs.Fmt.{decimal}
use Rattle.search_model.specs.Names.{IsName}
use Rattle.duo_search.specs.Product.{product_name}
use Rattle.duo_search.proofs.PairNames.{name_right, name_text}
use Rattle.duo_search.proofs.names.pair_name.Goals as goal

pub unreachable-requires : goal.unreachable-requires
unreachable-requires c =
    let head : c.push.new.self.items ≡ [] ++ 112 ∷ [] = c.in_ok-push.ensures.items ∙ rw c.new-text.ensures.items refl in
    let one : c.push_u128.new.out.items ≡ c.push.new.self.items ++ decimal c.args.first = c.in_ok-push_u128.ensures.ok ∙ rw c.from.ensures refl in
    let dash : c.push-2.new.self.items ≡ c.push_u128.new.out.items ++ 45 ∷ [] = c.in_ok-push-2.ensures.items in
    let other : c.push_u128-2.new.out.items ≡ c.push-2.new.self.items ++ decimal c.args.second = c.in_ok-push_u128-2.ensures.ok ∙ rw c.from-2.ensures refl in
    let text : c.deref.result.now ≡ product_name c.args.first c.args.second = c.deref.ensures.value ∙ other ∙ rw (dash, one, head) (name_text c.args.first c.args.second) in
    let N : List ℕ → Type 0 = λ name. IsName name in
    c.in-None.ensures.none (subst N (sym text) (name_right c.args.first c.args.second (omega (arith, c.ranges.first.fits)) (omega (arith, c.ranges.second.fits))))
