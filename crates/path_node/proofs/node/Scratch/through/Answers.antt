use Rattle.std.proofs.Common.{◌≡◌, ◌∙◌, ◌+◌, length, refl, ap, arith}
use Rattle.search_model.specs.Tracks.{value_of}
use Rattle.mean_bound.specs.Means.{IsMadeFor as IsMeanFor, IsAlong}
use Rattle.edge_bound.specs.Moves.{HasGains}
use Rattle.path_node.specs.Room.{NodeTables}
use Rattle.path_node.proofs.Throughs.{step_within, through-fits, through_by}
use Rattle.path_node.proofs.node.Scratch.through.Goals as goal

pub gain-requires : goal.gain-requires
gain-requires c =
    let p = c.args.sc.now in
    let room : length c.self.inside.edge.gains ≡ p.positions = rw (ap (λ (s : NodeTables). s.edge) c.self.view_is) c.requires.made.edge.gains in
    omega (arith, step_within p c.args.prefix.now c.args.b c.recall_sound.ensures c.requires.legal c.requires.shorter c.requires.step, room)

pub returns : goal.returns
returns c =
    let p = c.args.sc.now in
    let q = c.args.prefix.now in
    let made : IsMeanFor p c.self.inside.mean = rw (ap (λ (s : NodeTables). s.mean) c.self.view_is) c.requires.made.mean in
    let there : IsAlong q c.self.inside.mean = rw (ap (λ (s : NodeTables). s.mean) c.self.view_is) c.requires.looks.along in
    let filled : HasGains p q (length q + 1) c.self.inside.edge.gains = rw (ap (λ (s : NodeTables). s.edge) c.self.view_is) c.requires.looks.gains in
    let value : c.value.result ≡ value_of p q = c.value.ensures p q (c.onward.ensures p q made there) in
    through_by p q c.self.inside.edge.gains c.args.b c.gain.result c.value.result filled c.requires.step c.gain.ensures ∙ rw value refl

pub overflow_add-result : goal.overflow_add-result
overflow_add-result c =
    let p = c.args.sc.now in
    let q = c.args.prefix.now in
    let fits = through-fits p q c.args.b c.recall_sound.ensures c.requires.legal c.requires.shorter c.requires.step in
    omega (arith, returns c, fits)
