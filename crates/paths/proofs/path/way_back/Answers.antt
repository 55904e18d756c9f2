-- `way_back` meets its contract. The invariant: the branches so far, and those that are left, are the whole way back; the step is `one_led`.
use Rattle.std.proofs.Common.{arith, ◌≡◌, ◌<◌}
use Rattle.graph.specs.Walk.{by_of}
use Rattle.paths.proofs.Noting.{way_read}
use Rattle.paths.proofs.Leading.{none_led, one_led, back_at_start, led_enough}
use Rattle.paths.proofs.path.way_back.Goals as goal

pub loop-i-init : goal.loop-i-init
loop-i-init c = record { small = omega arith; led = λ o w. none_led _ o _ _ }

pub returns-then-at-start : goal.returns-then-at-start
returns-then-at-start c o w = back_at_start _ o _ _ (c.loop-i.invariant.led o w) c.loop-i-test.true c.if-at-start.true

pub loop-i-preserved : goal.loop-i-preserved
loop-i-preserved c = record {
  small = omega arith;
  led = λ o w.
      let small : c.loop-i.at < 256 = c.loop-i.invariant.small in
      let k : c.unwrap_or-k.result ≡ by_of c.loop-i.at o = rw (c.unwrap_or-k.ensures, c.from.ensures, w) (way_read o _ small) in
      one_led _ o _ _ (c.loop-i.invariant.led o w) c.loop-i-test.true c.if-at-start.false k c.across-at.ensures;
}

pub returns : goal.returns
returns c o w = led_enough _ o _ _ (c.loop-i.invariant.led o w) (omega arith)
