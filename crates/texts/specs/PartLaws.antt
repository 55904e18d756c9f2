-- Bytes at the front of a slice, and bytes that are written behind them, into the part of the slice that begins there.
use Rattle.std.specs.Prelude.{◌≡◌, refl, List, [], ◌++◌, ℕ, ◌+◌, ◌-◌, ◌≤◌, length, take, drop}
use Rattle.std.proofs.Common.{sym, ap, ◌∙◌, arith, length-append, length-drop}
use borrow.Rule.Slice.PartMut.{put_mid}
use Rattle.numbers.specs.Parts.{part_rest}
use Rattle.slices.specs.Written.{written}
use Rattle.slices.specs.WrittenLaws.{length_written, written_append, written_room}

-- the slice holds these bytes in front of what it held, and the next ones begin at `at`
pub record Begun (bytes out now : List ℕ) (at : ℕ) : Type 0 where
  pub so_far : now ≡ written bytes out
  pub here : at ≡ length bytes

pub nothing_begun : (out : List ℕ) → Begun [] out out 0
nothing_begun out = record { so_far = sym (written_room [] out (omega arith)); here = refl }

module _ {bytes out now : List ℕ} {at : ℕ} (b : Begun bytes out now at) where
  pub same_length : length now ≡ length out
  same_length = ap length b.so_far ∙ length_written bytes out

  -- more bytes have room
  module _ (more : List ℕ) (room : length (bytes ++ more) ≤ length out) where
    pub begins : at + length more ≤ length now
    begins = omega (arith, same_length, b.here, length-append bytes more)

    pub part_room : length more ≤ length (take (length now - at) (drop at now))
    part_room = rw part_rest (omega (arith, begins, length-drop at now))

    pub both_begun : {part : List ℕ} {n : ℕ} → part ≡ written more (take (length now - at) (drop at now)) → n ≡ length more → Begun (bytes ++ more) out (put_mid at (length now - at) now part) (at + n)
    both_begun w e = record {
      so_far = written_append bytes more out at (sym b.here) (omega (arith, b.here, length-append bytes more)) b.so_far w;
      here = omega (arith, b.here, length-append bytes more);
    }
