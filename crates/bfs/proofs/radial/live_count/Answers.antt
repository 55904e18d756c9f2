-- `live_count` meets its contract: the count along the array is the count of flags, since behind its end they are false.
use Rattle.std.proofs.Common.{arith, rules, ℕ, Bool, cond, take, ◌≤◌}
use Rattle.std.specs.List.{count_by}
use Rattle.std.proofs.lemmas.Grind.{common_steps}
use Rattle.std.proofs.lemmas.List.{length-take-le}
use Rattle.std.proofs.lemmas.List.Sums.{count_by-le-length}
use Rattle.std.proofs.lemmas.Iterator.{YieldsList-from_slice, YieldsList-from_map}
use Rattle.std.proofs.lemmas.Iterator.Consumers.{fits_by_from_yields_list}
use Rattle.bfs.proofs.Counting.{live_within}
use Rattle.bfs.proofs.radial.live_count.Goals as goal
use borrow.Author.Tests.{tests}

pub sum-requires-clause-fits : goal.sum-requires-clause-fits
sum-requires-clause-fits c =
    let one : Bool → ℕ = λ b. cond b 1 0 in
    let front = take c.min-n.result c.args.live.now in
    let few : count_by (λ b. b) front ≤ 512 = omega (arith, count_by-le-length (λ b. b) front, length-take-le c.min-n.result c.args.live.now) in
    fits_by_from_yields_list one front c.map.result _ (YieldsList-from_map _ one (YieldsList-from_slice front (grind (arith, common_steps))) c.map.ensures.closure (λ x r q k. search (rules, tests))) (omega (arith, few))

pub returns : goal.returns
returns c = rw (live_within c.args.live.now c.args.branch_count c.min-n.result c.told-live (omega arith)) (search rules)
