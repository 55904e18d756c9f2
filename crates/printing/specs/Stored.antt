-- What the code's values stand for: the ids of switches in an array.
use Rattle.std.specs.Prelude.{List, [], ◌∷◌, ℕ, take}
use Rattle.printing.specs.declared.writer.SwitchIds.{SwitchIds}

-- as many as the count says, of those that there are
abbrev pub ids_in : SwitchIds → List ℕ
ids_in w = take w.count w.ids

-- the value without an id. An owned one has two ids, counted or not; what is read behind the end of an array of them (`no_entry`) has none
abbrev pub no_ids : SwitchIds
no_ids = record { count = 0; ids = 0 ∷ 0 ∷ [] }

abbrev pub no_entry : SwitchIds
no_entry = record { count = 0; ids = [] }
