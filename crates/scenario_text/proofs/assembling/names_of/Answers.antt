use Rattle.std.proofs.Common.{◌≡◌, ◌<◌, length, ℕ, List, [], map, sym, ap, ◌∙◌, arith, subst, slice_index_or, get_or, Vec, Global}
use Rattle.std.proofs.lemmas.List.{get_or-map, length-map}
use Rattle.search_model.specs.Names.{IsName}
use Rattle.scenario_text.proofs.assembling.names_of.Goals as goal

pub name_of-requires : goal.name_of-requires
name_of-requires c =
    let keys = c.args.keys.now.keys in
    let f : Vec ℕ Global → List ℕ = λ n. n.items in
    let i = c.loop-key.key-index in
    let key = c.key-item.result in
    let same = c.as_slice-all.ensures.keys in
    let lt = c.loop-key-test.true in
    let there : i < length keys = rw same at lt in
    let at : get_or (map f keys) i [] ≡ f (get_or keys i key) = get_or-map f keys i key [] there in
    let here : f (get_or keys i key) ≡ c.deref.result.now = ap f (sym (c.key-item.is ∙ ap (λ ks. slice_index_or ks i key) same)) ∙ sym c.deref.ensures.value in
    subst IsName (at ∙ here) (c.requires i [] (omega (arith, there, length-map keys f)))
