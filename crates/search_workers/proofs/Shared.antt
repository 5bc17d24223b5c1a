-- Tasks that are put into the own deque, one after the other.
use Rattle.std.proofs.Common.{◌≡◌, ◌≢◌, ℕ, ◌+◌, ◌<◌, ◌≤◌, length-append, List, [], ◌∷◌, ◌++◌, length, refl, ◌∙◌, ap, sym, arith, append_assoc, append-nil}
use Rattle.search_workers.specs.Children.{Puts}

empty_from : (xs : List (List ℕ)) → ¬ (0 < length xs) → xs ≡ []
empty_from [] none = refl
empty_from (x ∷ xs) none = absurd (none (omega arith))

module _ (tasks put waiting put' waiting' : List (List ℕ)) (task : List ℕ) (puts : Puts tasks put waiting put' waiting') where
  -- the deque took a further task: it has handed none back
  pub put_one : (put'' : List (List ℕ)) → length put' ≢ 4096 → put'' ≡ put' ++ task ∷ [] → Puts (tasks ++ task ∷ []) put waiting put'' waiting'
  put_one put'' some more =
      let none : puts.back ≡ [] = empty_from puts.back (λ h. some (puts.full h)) in
      record {
        given = puts.given ++ task ∷ [];
        back = [];
        all = ap (λ xs. xs ++ task ∷ []) (puts.all ∙ ap (λ xs. puts.given ++ xs) none ∙ append-nil puts.given) ∙ sym (append-nil (puts.given ++ task ∷ []));
        added = more ∙ ap (λ xs. xs ++ task ∷ []) puts.added ∙ append_assoc put puts.given (task ∷ []);
        kept = puts.kept ∙ ap (λ xs. waiting ++ xs) none;
        full = λ h. absurd (omega (arith, h));
      }

  -- it handed the task back
  pub back_one : (put'' waiting'' : List (List ℕ)) → length put' ≡ 4096 → put'' ≡ put' → waiting'' ≡ waiting' ++ task ∷ [] → Puts (tasks ++ task ∷ []) put waiting put'' waiting''
  back_one put'' waiting'' full same more = record {
    given = puts.given;
    back = puts.back ++ task ∷ [];
    all = ap (λ xs. xs ++ task ∷ []) puts.all ∙ append_assoc puts.given puts.back (task ∷ []);
    added = same ∙ puts.added;
    kept = more ∙ ap (λ xs. xs ++ task ∷ []) puts.kept ∙ append_assoc waiting puts.back (task ∷ []);
    full = λ _. ap length same ∙ full;
  }

-- no more wait than were to be put
pub few_wait : (tasks put waiting put' waiting' : List (List ℕ)) → Puts tasks put waiting put' waiting' → length waiting' ≤ length waiting + length tasks
few_wait tasks put waiting put' waiting' puts =
    omega (arith, simp length-append at (ap length puts.all), simp length-append at (ap length puts.kept))
