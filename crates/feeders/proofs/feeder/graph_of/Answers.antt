-- `graph_of` meets its contract: the ends are looked up in the rows of the listed buses, and the graph is made of them.
use Rattle.std.proofs.Common.{refl, ◌≡◌, ◌∙◌, min, sym, ap₂, length, length-take, rules}
use Rattle.std.proofs.lemmas.List.{length-map}
use Rattle.graph.specs.Rows.{graph_of}
use Rattle.feeders.specs.FeederRows.{listed_ids, feeder_graph}
use Rattle.feeders.proofs.Resolving.{front_ends}
use Rattle.feeders.proofs.feeder.graph_of.Goals as goal

pub returns : goal.returns
unfolding feeder_graph
returns c =
    let n = c.args.network in
    let buses : length n.buses ≡ 256 = search rules in
    let branches : length n.branches ≡ 512 = search rules in
    let ids = listed_ids n in
    let long : c.min-n.result ≡ length ids = rw (c.min-n.ensures, c.from-bus_count.ensures) (sym (simp (length-map, length-take, buses) refl)) in
    let rows = rw c.from-bus_count.ensures at c.bus_rows-rows.ensures in
    let count : c.min-m.result ≡ min n.branch_count 512 = rw c.from.ensures at c.min-m.ensures in
    let from = c.ends_of-from.ensures (λ b. b.from_bus) (λ b r h. search rules) ids long rows in
    let to = c.ends_of-to.ensures (λ b. b.to_bus) (λ b r h. search rules) ids long rows in
    c.new.ensures
    ∙ ap₂ (graph_of _ _)
    (rw count at from ∙ front_ends (λ b. b.from_bus) ids n.branches n.branch_count branches)
    (rw count at to ∙ front_ends (λ b. b.to_bus) ids n.branches n.branch_count branches)
