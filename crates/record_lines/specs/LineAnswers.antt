-- The head and the supply that the code makes of a line, and what it answers as an answer of the definitions.
use Rattle.std.specs.Float.{binary64}
use Rattle.std.specs.Float.Ieee.{of_bits}
use Rattle.network.specs.Limits.{Head}
use Rattle.lines.specs.Hex.{Fields}
use Rattle.record_lines.specs.declared.head.Head as Heads
use Rattle.record_lines.specs.declared.supply.Supply as Supplies
use Rattle.record_lines.specs.Kinds.{head, supply, method_of, supply_from}

-- the head that the code makes
abbrev pub head_of_code : Heads.Head → Head
head_of_code h =
    record { buses = h.buses; branches = h.branches; switches = h.switches; base = h.base_mva; algorithm = h.algorithm; iterations = h.max_iterations }

-- the one that it makes of these fields: `head_from` is what it stands for
abbrev pub head_made : Fields head.widths → Heads.Head
head_made f =
    record {
      buses = f.0;
      branches = f.1.0;
      switches = f.1.1.0;
      base_mva = of_bits binary64 f.1.1.1.0;
      algorithm = method_of f.1.1.1.1.0;
      max_iterations = f.1.1.1.1.1.0;
    }

-- a supply is its bus's id
abbrev pub supply_made : Fields supply.widths → Supplies.Supply
supply_made f = record { 0 = supply_from f }
