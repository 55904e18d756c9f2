-- `pair_length` meets its contract: each branch has as many ids as its count says, two at most.
use mathlib.Core.Path.{◌≡◌}
use mathlib.Core.List.{List}
use Prim.Native.Nat.{ℕ, ◌≤◌, min}
use native.Mathlib.Omega.{arith}
use lib.ListN.{length, take, length-take}
use Rattle.printing.specs.Stored.{ids_in}
use Rattle.printing.specs.LineTexts.{length_pair}
use borrow.Author.Rules.{rules}
use Rattle.printing.proofs.writer.pair_length.Goals as goal

-- so many of two ids
moved : (count : ℕ) (ids : List ℕ) → length ids ≡ 2 → {w r : ℕ} → w ≡ count → r ≡ min w 2 → (r ≡ length (take count ids)) × (r ≤ 2)
moved count ids two e f = (omega (arith, length-take count ids), omega arith)

pub returns : goal.returns
returns c =
    let closes = c.args.closes in
    let opens = c.args.opens in
    let closed = moved closes.count closes.ids (search rules) c.from.ensures c.min-closed.ensures in
    let opened = moved opens.count opens.ids (search rules) c.from-2.ensures c.min-opened.ensures in
    (omega (arith, closed.0, opened.0, length_pair (ids_in closes) (ids_in opens)), omega (arith, closed.1, opened.1))
