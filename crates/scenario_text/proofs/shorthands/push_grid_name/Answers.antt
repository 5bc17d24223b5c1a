use Rattle.std.proofs.Common.{refl, sym, ◌∙◌, arith, ap, map, ◌≡◌, Bool, List, ℕ, ◌++◌, ◌∷◌, [], Vec, Global}
use Rattle.std.specs.List.{range_with_len}
use Rattle.std.specs.Str.{bytes_eq}
use Rattle.std.proofs.lemmas.List.FromFn.{map-range_with_len_more}
use Rattle.search_model.specs.Grids.{grid_name}
use Rattle.scenario_text.proofs.Columns.{inserted_last}
use Rattle.scenario_text.proofs.GridNames.{grid_name-new}
use Rattle.scenario_text.proofs.shorthands.push_grid_name.Goals as goal

pub returns : goal.returns
returns c =
    let bytes : Vec ℕ Global → List ℕ = λ n. n.items in
    let same : Vec ℕ Global → Vec ℕ Global → Bool = λ x y. bytes_eq x.items y.items in
    let before : map bytes c.args.names.now.keys ≡ map (grid_name c.args.cols) (range_with_len 0 c.args.c) = c.requires.before in
    let name : c.in_ok-name.name.items ≡ grid_name c.args.cols c.args.c = c.in_ok-name.ensures in
    let new = grid_name-new c.args.cols c.args.c (omega arith) (omega arith) in
    let more = map-range_with_len_more (grid_name c.args.cols) 0 c.args.c c.args.c (omega arith) in
    let step : map bytes c.insert.new.self.keys ≡ map bytes c.args.names.now.keys ++ c.in_ok-name.name.items ∷ [] =
    ap (map bytes) c.in_ok-insert.ensures.keys ∙ inserted_last same bytes c.args.names.now.keys c.in_ok-name.name (λ k. refl) (rw (name, before) new) in
    step ∙ (rw (before, name) refl) ∙ sym more
