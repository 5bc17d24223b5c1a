use Rattle.std.proofs.Common.{◌≡◌, ◌≤◌, ◌-◌, ℕ, ◌+◌, ◌∷◌, [], ◌++◌, ◌∙◌, List, map, drop, take, get_or, length, ap, sym, arith}
use Rattle.std.proofs.lemmas.List.{length-map, take_all}
use Rattle.search_model.proofs.Children.{few_moves}
use Rattle.search_workers.proofs.Shared.{few_wait}
use Rattle.search_workers.proofs.children.share_children.Goals as goal

-- the first and the others
first_and_rest : (f : ℕ → List ℕ) (xs : List ℕ) → 1 ≤ length xs → map f xs ≡ f (get_or xs 0 0) ∷ map f (take (length xs - 1) (drop 1 xs))
first_and_rest f [] some = absurd (omega (arith, some))
first_and_rest f (x ∷ xs) some = ap (λ ys. f x ∷ map f ys) (sym (take_all (length (x ∷ xs) - 1) xs (omega arith)))

few_others : (f : ℕ → List ℕ) (xs : List ℕ) → 1 ≤ length xs → length (map f (take (length xs - 1) (drop 1 xs))) + 1 ≡ length xs
few_others f xs some = omega (arith, length-map xs f, ap length (first_and_rest f xs some))

pub push-requires : goal.push-requires
push-requires c =
    let p = c.args.sc.now in
    let q = c.args.prefix.now in
    let child : ℕ → List ℕ = λ d. q ++ d ∷ [] in
    let few = few_moves p q c.recall_sound.ensures c.requires.legal in
    let moves = c.children.ensures in
    let long : length c.children.result.now ≤ 64 = rw moves few in
    let wait = few_wait _ _ _ _ _ c.put_children.ensures.puts in
    let rest = few_others child c.children.result.now c.in-len1-up.len_at_least in
    let most = c.recall_sound.ensures.horizon.1 in
    omega (arith, wait, rest, long, most, c.requires.shorter, c.requires.room)

pub returns-clause-shares : goal.returns-clause-shares
returns-clause-shares c =
    let child : ℕ → List ℕ = λ d. c.args.prefix.now ++ d ∷ [] in
    let moves = c.children.result.now in
    record {
      least = child (get_or moves 0 0);
      others = map child (take (length moves - 1) (drop 1 moves));
      below = c.put_children.new.stack;
      all = ap (map child) (sym c.children.ensures) ∙ first_and_rest child moves c.in-len1-up.len_at_least;
      puts = c.put_children.ensures.puts;
      last = c.push.ensures ∙ ap (λ x. c.put_children.new.stack ++ x ∷ []) c.extended.ensures;
    }
