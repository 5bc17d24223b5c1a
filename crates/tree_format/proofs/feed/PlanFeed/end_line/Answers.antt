use Rattle.std.proofs.Common.{◌≡◌, ℕ, List, [], ◌∷◌, ◌++◌, Ok, Err, sym, ap, subst, ◌∙◌}
use Rattle.search_model.specs.Problem.{Problem}
use Rattle.tree_format.specs.declared.plan_line.Family.{Family}
use Rattle.tree_format.specs.declared.plan_item.PlanItem.{PlanItem}
use Rattle.tree_format.specs.declared.plan_item.Step.{Step}
use Rattle.tree_format.specs.FeedSteps.{Stand}
use Rattle.tree_format.specs.Feeding.{HasRead, GoesOn}
use Rattle.tree_format.proofs.BytesFed.{line_read, fed_legal}
use Rattle.tree_format.proofs.feed.PlanFeed.end_line.Goals as goal

goes_by : (family : Family) (p : Problem) (fed : List ℕ) (items : List PlanItem) (a b : Step) (s t : Stand) → a ≡ b → s ≡ t → GoesOn family p fed items b t → GoesOn family p fed items a s
goes_by family p fed items a b s t step stand goes = subst (λ (x : Step). GoesOn family p fed items x s) (sym step) (subst (λ (x : Stand). GoesOn family p fed items b x) (sym stand) goes)

pub move_on-requires : goal.move_on-requires
move_on-requires c = c.in-Ok.ensures.numbered c.self.inside.number c.self.invariant

pub returns-in-Ok : goal.returns-in-Ok
returns-in-Ok c = λ family fed items read.
    let p = c.args.sc.now in
    let h = c.recall_sound.ensures in
    let last = c.args.last.now in
    let here = subst (HasRead family p fed items) (sym c.self.view_is) read in
    let goes = line_read family p h fed items _ here last c.judge.new.front (Ok c.in-Ok.said) (λ e. c.requires.due (sym (ap (λ (t : Stand). t.due.stage) c.self.view_is) ∙ e)) c.requires.open (sym c.judge.ensures.said ∙ c.in-Ok.is) in
    goes_by family p (fed ++ (last ++ 10 ∷ [])) items _ _ _ _ c.move_on.ensures.step (c.move_on.ensures.stand (fed_legal family p h fed items _ here)) goes

pub returns-in-Err : goal.returns-in-Err
returns-in-Err c = λ family fed items read.
    let here = subst (HasRead family c.args.sc.now fed items) (sym c.self.view_is) read in
    line_read family c.args.sc.now c.recall_sound.ensures fed items _ here c.args.last.now c.judge.new.front (Err c.in-Err.kind) (λ e. c.requires.due (sym (ap (λ (t : Stand). t.due.stage) c.self.view_is) ∙ e)) c.requires.open (sym c.judge.ensures.said ∙ c.in-Err.is)
