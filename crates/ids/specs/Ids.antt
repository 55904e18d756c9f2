-- Ids in rows, as the code has them: the positions of a list by their ids' buckets. IdLaws shows that an id is found at its first position.
use Rattle.std.specs.Prelude.{cond, List, ℕ, zero, suc, ◌-◌, ◌*◌, ◌/◌, ◌%◌, eqb, ltb, length, get_or, set, replicate}
use Rattle.numbers.specs.UpTo.{up_to}
use Rattle.numbers.specs.Arrays.{array_of}
use Rattle.ids.specs.declared.rows.IdRows.{IdRows}

-- one of 256 buckets
unfoldable pub bucket_of : ℕ → ℕ
bucket_of id = id * 40503 % 65536 / 256

-- 512 ids: those of the list, and 0 behind them
abbrev pub id_array : List ℕ → List ℕ
id_array l = array_of 512 0 l

abbrev pub rows : List ℕ → List ℕ → List ℕ → IdRows
rows ids first next = record { ids = ids; first = first; next = next }

-- a position is put in front of the row of its id's bucket
unfoldable pub put_id : ℕ → IdRows → IdRows
put_id at r =
    let row = bucket_of (get_or r.ids at 0) in
    rows r.ids (set r.first row at) (set r.next at (get_or r.first row 0))

-- no ids yet
abbrev pub no_rows : IdRows
no_rows = rows (replicate 512 0) (replicate 256 512) (replicate 512 512)

-- an id at a position, put in front of its bucket's row
abbrev pub put_at : ℕ → ℕ → IdRows → IdRows
put_at at id r = rows (set r.ids at id) (set r.first (bucket_of id) at) (set r.next at (get_or r.first (bucket_of id) 0))

-- the rows with the last i of n positions, put in from the last on
unfoldable pub rows_from : List ℕ → ℕ → ℕ → IdRows
rows_from ids n i = up_to (λ r j. put_id (n - 1 - j) r) (rows ids (replicate 256 512) (replicate 512 512)) i

abbrev pub rows_of : List ℕ → ℕ → IdRows
rows_of ids n = rows_from ids n n

-- the rows of a list of ids
unfoldable pub id_rows : List ℕ → IdRows
id_rows l = rows_of (id_array l) (length l)

-- the first position from h on, of at most n in its row, that has the id; where none has it, none
unfoldable pub seek : List ℕ → List ℕ → ℕ → ℕ → ℕ → ℕ → ℕ
seek ids next none id zero h = none
seek ids next none id (suc n) h = cond (ltb h 512) (cond (eqb (get_or ids h 0) id) h (seek ids next none id n (get_or next h 0))) none

unfoldable pub position_of : List ℕ → List ℕ → List ℕ → ℕ → ℕ → ℕ
position_of ids first next count id = seek ids next count id count (get_or first (bucket_of id) 0)
