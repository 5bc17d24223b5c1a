use Rattle.std.proofs.Common.{◌≡◌, ℕ, List, [], ◌∷◌, ◌++◌, ◌∙◌, ap, refl, subst}
use Rattle.bound_tree.specs.declared.node.TreeNode.{TreeNode}
use Rattle.bound_tree.specs.Close.{IsClosed}
use Rattle.search_workers.proofs.Standings.{whole_may_stand}
use Rattle.search_workers.proofs.desk.Desk.record_last.Goals as goal

pub keep_better-requires-clause-stands : goal.keep_better-requires-clause-stands
keep_better-requires-clause-stands g c = λ n whole.
    let p = c.args.sc.now in
    let q = c.in-Some.prefix in
    let s = c.args.self.now.incumbent.standing in
    let closed = subst (IsClosed p s q) whole c.close-node.ensures.closed in
    rw c.close-node.ensures.prefix (whole_may_stand p c.args.board.now.first s q n c.recall_sound.ensures c.requires.first closed)

-- the record that was appended is that of the prefix
appended : (before after : List TreeNode) (r : TreeNode) (q : List ℕ) → after ≡ before ++ r ∷ [] → r.prefix ≡ q → after ≡ before ++ record { prefix = q; kind = r.kind } ∷ []
appended before after r q pushed same = let node : List ℕ → TreeNode = λ z. record { prefix = z; kind = r.kind } in pushed ∙ ap (λ (z : List ℕ). before ++ node z ∷ []) same

pub returns-in_default-kind : goal.returns-in_default-kind
returns-in_default-kind g c =
    let q = c.in-Some.prefix in
    let node = c.close-node.result in record {
      records = (
        q,
        node.kind,
        c.in_default-kind.not-Branch,
        record {
          recorded = record {
            waited = c.in-Some.ensures.some;
            records = appended c.args.self.now.records.items c.push.new.self.items node q c.in-Ok.ensures.items c.close-node.ensures.prefix;
          };
          closed = c.close-node.ensures.closed;
          last = rw c.close-node.ensures.prefix at c.keep_better.ensures.standing;
        },
      );
      ticket = refl;
      seat = c.keep_better.ensures.seat;
      looks = c.keep_better.ensures.looks;
      told = c.keep_better.ensures.told;
      tables = c.close-node.ensures.made;
      belief = c.keep_better.ensures.belief;
    }
