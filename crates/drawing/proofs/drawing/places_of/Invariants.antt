-- `places_of` meets its contract: the buses from `place` on have their places; the step is `one_placed`.
use Rattle.std.proofs.Common.{◌≡◌, take}
use Rattle.drawing.proofs.Placing.{places_from}
use Rattle.drawing.proofs.drawing.places_of.Given as goal

abbrev pub invariant-loop-place : goal.invariant-loop-place
invariant-loop-place l = l.places ≡ places_from (take l.walk.count l.walk.bus) l.place
