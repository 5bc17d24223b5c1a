use Rattle.std.proofs.Common.{◌≡◌, [], map, sym, ◌∙◌, arith, subst}
use Rattle.std.proofs.lemmas.List.{map-set}
use Rattle.std.proofs.lemmas.List.Elements.{All-get_or, All-set}
use Rattle.crossbeam_deque.specs.Handles.{view, worker_view, worker_deque, stealer_deque, IsPassOf}
use Rattle.steal_pool.specs.Rule.{hand}
use Rattle.steal_pool.specs.Kits.{DequeId}
use Rattle.steal_pool.specs.Pools.{IsOwner}
use Rattle.steal_pool.proofs.Places.{map_read, map_kept, slice_get_map_read}
use Rattle.steal_pool.proofs.Passes.{passes_at-read, with_pass-joined}
use Rattle.steal_pool.proofs.settling.give_one.Goals as goal

pub join_pass-requires : goal.join_pass-requires
join_pass-requires g c =
    let owns = c.args.owns.now.items in
    let read = c.index_mut-own.ensures.value in
    let there = slice_get_map_read (λ w. worker_deque w) owns c.args.at c.index_mut-own.result.now c.requires.room read in
    let same : stealer_deque c.args.victim.thief ≡ worker_deque c.index_mut-own.result.now = cc (there, c.requires.victim) in
    let owner : IsOwner c.index_mut-own.result.now = subst IsOwner (sym read) (All-get_or IsOwner owns c.args.at c.index_mut-own.result.now c.requires.room c.requires.owner) in
    record {
      pass = subst (λ (d : DequeId). IsPassOf d c.args.victim.pass) same c.args.victim.fits;
      owner = owner.port;
      some = omega (arith, c.requires.some, passes_at-read owns c.args.at c.index_mut-own.result.now c.requires.room read);
    }

pub returns-clause-same : goal.returns-clause-same
returns-clause-same g c = map_kept (λ w. worker_deque w) c.args.owns.now.items c.args.at c.index_mut-own.result.now c.join_pass.new.own c.requires.room c.index_mut-own.ensures.value c.join_pass.ensures.same.0.0

pub returns-clause-owner : goal.returns-clause-owner
returns-clause-owner g c =
    let owns = c.args.owns.now.items in
    let owner : IsOwner c.index_mut-own.result.now = subst IsOwner (sym c.index_mut-own.ensures.value) (All-get_or IsOwner owns c.args.at c.index_mut-own.result.now c.requires.room c.requires.owner) in
    let same = c.join_pass.ensures.same.0 in
    All-set IsOwner owns c.args.at c.join_pass.new.own (record { fifo = same.1 ∙ owner.fifo; port = same.2 ∙ owner.port }) c.requires.owner

pub returns-clause-hands : goal.returns-clause-hands
returns-clause-hands g c =
    let owns = c.args.owns.now.items in
    let there = map_read (λ w. worker_view w) owns c.args.at c.index_mut-own.result.now (hand 0 [] []) c.requires.room c.index_mut-own.ensures.value in
    map-set (λ w. worker_view w) owns c.args.at c.join_pass.new.own
    ∙ with_pass-joined (map (λ w. worker_view w) owns) c.args.at (worker_view c.index_mut-own.result.now) (view c.args.victim.pass) (worker_view c.join_pass.new.own) there c.args.victim.one c.args.victim.no_puts c.join_pass.ensures.both
