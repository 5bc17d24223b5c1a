use Rattle.std.proofs.Common.{refl, ◌∙◌, ap, map, ◌≡◌, Bool, List, ℕ, ◌++◌, ◌∷◌, [], Vec, Global}
use Rattle.std.specs.Str.{bytes_eq}
use Rattle.scenario_text.proofs.Columns.{inserted_last}
use Rattle.scenario_text.proofs.taking.push_name.Goals as goal

pub returns : goal.returns
returns c =
    let bytes : Vec ℕ Global → List ℕ = λ n. n.items in
    let same : Vec ℕ Global → Vec ℕ Global → Bool = λ x y. bytes_eq x.items y.items in
    let name : c.extend_from_slice.new.self.items ≡ c.args.name.now =
    c.in_ok-extend_from_slice.ensures.items ∙ ap (λ (x : List ℕ). x ++ c.args.name.now) c.new-bytes.ensures.items in
    ap (map bytes) c.in_ok-insert.ensures.keys
    ∙ inserted_last same bytes c.args.names.now.keys c.extend_from_slice.new.self (λ k. refl) (rw name c.requires)
    ∙ ap (λ (x : List ℕ). map bytes c.args.names.now.keys ++ x ∷ []) name
