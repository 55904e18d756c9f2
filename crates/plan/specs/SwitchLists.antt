-- The values in a list of a fixed size.
use Rattle.std.specs.Prelude.{List, take}
use Rattle.plan.specs.declared.list.SwitchList.{SwitchList}

-- as many as are counted, from the front of the array: what stands behind them is none
abbrev pub listed : {A : Type 0} → SwitchList A → List A
listed l = take l.count l.values
