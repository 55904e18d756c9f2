-- A record and its fields are one and the same: what is written of a record is read back where the numbers have room (`made`), and the fields of a line
-- are those of the record read from it where its bytes have a meaning and its float is in its range (`kept`), so that it is no NaN and keeps its bits.
use Rattle.std.specs.Prelude.{◌≡◌, refl, Bool, true, false, not, List, [], ◌∷◌, ℕ, zero, suc, ◌/◌, ◌%◌, ◌^◌, ◌≤◌, ◌<◌, T, eqb, ltb, Float}
use Rattle.std.proofs.Common.{sym, ap, ap₂, ◌∙◌, arith, lit<, ltb-false}
use Rattle.std.proofs.lemmas.Bool.{false≢true}
use Rattle.std.specs.Float.{nan, inf, fin, binary64}
use Rattle.std.specs.Float.Ieee.{le, is_nan, neg, of_bits}
use Rattle.std.specs.Float.Ieee.Bits.{of_bits-to_bits, to_bits-lt, of_bits-fits, to_bits-of_bits}
use Rattle.network.specs.declared.bus.Bus.{Bus}
use Rattle.network.specs.declared.branch.Branch.{Branch}
use Rattle.network.specs.declared.switch.Switch.{Switch}
use Rattle.network.specs.declared.switch.ReconfigAlgorithm.{ReconfigAlgorithm}
use Rattle.network.specs.declared.switch.ReconfigAlgorithm.TheVariants.{BranchExchange, TabuSearch, Exhaustive}
use Rattle.network.specs.Answers.{accepted, Fault, ◌if◌, judge}
use Rattle.numbers.specs.Constants.{thousandth, thousand, million}
use Rattle.numbers.specs.Tests.{both}
use Rattle.network.specs.Limits.{Head, method_byte, in_range, ok_base, ok_load, ok_r}
use Rattle.lines.specs.Hex.{Fields, Fit}
use Rattle.lines.specs.Frames.{Frame}
use Rattle.record_lines.specs.Kinds.{head, bus, branch, switch, supply, method_of, head_from, bus_from, branch_from, switch_from, supply_from, head_bytes, bus_bytes, branch_bytes, switch_bytes, supply_bytes}
use Rattle.frames.specs.Acceptable.{bits_of, status_byte, flags_byte, head_fields, bus_fields, branch_fields, switch_fields, supply_fields, Short, HeadRoom, BusRoom, BranchRoom, SwitchRoom}
use Rattle.lines.specs.JudgeLaws.{judge_passed}
use Rattle.frames.specs.LineLaws.{Sound, head_sound, bus_sound, branch_sound, switch_sound, supply_sound}

-- ---- floats
le_nan : (x : Float) → le x nan ≡ false
unfolding le
le_nan nan = refl
le_nan (inf s) = refl
le_nan (fin s m e) = refl

-- a NaN is in no range
pub no_nan : (low high x : Float) → in_range low high x ≡ true → T (not (is_nan x))
unfolding is_nan
no_nan low high nan e = absurd (false≢true (sym (le_nan low) ∙ (both (le low nan) (le nan high) e).0))
no_nan low high (inf s) e = tt
no_nan low high (fin s m x) e = tt

float_kept : (low high : Float) (n : ℕ) → n < 16 ^ 16 → in_range low high (of_bits binary64 n) ≡ true → bits_of (of_bits binary64 n) ≡ n
float_kept low high n l e = to_bits-of_bits binary64 n l (no_nan low high (of_bits binary64 n) e)

-- ---- bytes
status_made : (b : Bool) → eqb (status_byte b) 1 ≡ b
status_made true = refl
status_made false = refl

status_kept : (n : ℕ) → n ≤ 1 → status_byte (eqb n 1) ≡ n
status_kept zero l = refl
status_kept (suc zero) l = refl
status_kept (suc (suc n)) l = absurd (omega arith)

tie_made : (t o : Bool) → eqb (flags_byte t o % 2) 1 ≡ t
tie_made true true = refl
tie_made true false = refl
tie_made false true = refl
tie_made false false = refl

operable_made : (t o : Bool) → eqb (flags_byte t o / 2 % 2) 1 ≡ o
operable_made true true = refl
operable_made true false = refl
operable_made false true = refl
operable_made false false = refl

flags_kept : (n : ℕ) → n ≤ 3 → flags_byte (eqb (n % 2) 1) (eqb (n / 2 % 2) 1) ≡ n
flags_kept zero l = refl
flags_kept (suc zero) l = refl
flags_kept (suc (suc zero)) l = refl
flags_kept (suc (suc (suc zero))) l = refl
flags_kept (suc (suc (suc (suc n)))) l = absurd (omega arith)

method_made : (a : ReconfigAlgorithm) → method_of (method_byte a) ≡ a
unfolding method_of
method_made BranchExchange = refl
method_made TabuSearch = refl
method_made Exhaustive = refl

method_kept : (n : ℕ) → n ≤ 2 → method_byte (method_of n) ≡ n
unfolding method_of
method_kept zero l = refl
method_kept (suc zero) l = refl
method_kept (suc (suc zero)) l = refl
method_kept (suc (suc (suc n))) l = absurd (omega arith)

-- ---- a kind of record: its frame, its fields both ways, the conditions on its bytes
pub record Kind (A : Type 0) : Type 1 where
  pub frame : Frame
  pub sound : Sound frame
  pub make : Fields frame.widths → A
  pub fields : A → Fields frame.widths
  pub bytes : Fields frame.widths → List Fault
  -- its numbers have room in their digits
  pub Room : A → Type 0
  -- its float is in its range
  pub Ranged : A → Type 0
  pub made : (a : A) → Room a → make (fields a) ≡ a
  pub fit : (a : A) → Room a → Fit frame.widths (fields a)
  pub meant : (a : A) (p : ℕ) → judge (bytes (fields a)) p ≡ accepted tt
  pub room : (f : Fields frame.widths) → Fit frame.widths f → Room (make f)
  pub kept : (f : Fields frame.widths) (p : ℕ) → Fit frame.widths f → judge (bytes f) p ≡ accepted tt → Ranged (make f) → fields (make f) ≡ f

-- ---- the kinds
pub bus_made : (b : Bus) → BusRoom b → bus_from (bus_fields b) ≡ b
bus_made b r = ap (λ (x : Float). record { id = b.id; pd = record { 0 = x } }) (of_bits-to_bits binary64 b.pd.0 r.1)

pub bus_kept : (f : Fields bus.widths) → Fit bus.widths f → ok_load (bus_from f).pd.0 ≡ true → bus_fields (bus_from f) ≡ f
unfolding ok_load
bus_kept f r e = ap (λ (n : ℕ). (f.0, (n, tt))) (float_kept (neg million) million f.1.0 r.1.0 e)

pub bus_meant : (b : Bus) (p : ℕ) → judge (bus_bytes (bus_fields b)) p ≡ accepted tt
unfolding judge
bus_meant b p = refl

abbrev pub bus_kind : Kind Bus
bus_kind = record {
  frame = bus;
  sound = bus_sound;
  make = bus_from;
  fields = bus_fields;
  bytes = bus_bytes;
  Room = BusRoom;
  Ranged = λ b. ok_load b.pd.0 ≡ true;
  made = bus_made;
  fit = λ b r. (r.0, (to_bits-lt binary64 b.pd.0 r.1, tt));
  meant = bus_meant;
  room = λ f r. (r.0, of_bits-fits binary64 f.1.0);
  kept = λ f p r m. bus_kept f r;
}

pub branch_made : (b : Branch) → BranchRoom b → branch_from (branch_fields b) ≡ b
branch_made b r =
    ap₂ (λ (x : Float) (s : Bool). record { from_bus = b.from_bus; to_bus = b.to_bus; r = x; status = s }) (of_bits-to_bits binary64 b.r r.2) (status_made b.status)

pub branch_fit : (b : Branch) → BranchRoom b → Fit branch.widths (branch_fields b)
branch_fit b r = (r.0, (r.1, (to_bits-lt binary64 b.r r.2, (byte b.status, tt))))
  where
    byte : (s : Bool) → status_byte s < 16 ^ 2
    byte true = lit< tt
    byte false = lit< tt

pub branch_meant : (b : Branch) (p : ℕ) → judge (branch_bytes (branch_fields b)) p ≡ accepted tt
unfolding judge
branch_meant b p = go b.status
  where
    go : (s : Bool) → judge ((3 if ltb 1 (status_byte s)) ∷ []) p ≡ accepted tt
    go true = refl
    go false = refl

pub branch_kept : (f : Fields branch.widths) (p : ℕ) → Fit branch.widths f → judge (branch_bytes f) p ≡ accepted tt → ok_r (branch_from f).r ≡ true → branch_fields (branch_from f) ≡ f
unfolding ok_r
branch_kept f p r m e =
    let one = ltb-false 1 f.1.1.1.0 (judge_passed 3 (ltb 1 f.1.1.1.0) [] p m).0 in
    ap₂ (λ (x s : ℕ). (f.0, (f.1.0, (x, (s, tt))))) (float_kept (of_bits binary64 0) thousand f.1.1.0 r.1.1.0 e) (status_kept f.1.1.1.0 one)

abbrev pub branch_kind : Kind Branch
branch_kind = record {
  frame = branch;
  sound = branch_sound;
  make = branch_from;
  fields = branch_fields;
  bytes = branch_bytes;
  Room = BranchRoom;
  Ranged = λ b. ok_r b.r ≡ true;
  made = branch_made;
  fit = branch_fit;
  meant = branch_meant;
  room = λ f r. (r.0, r.1.0, of_bits-fits binary64 f.1.1.0);
  kept = branch_kept;
}

pub switch_made : (s : Switch) → SwitchRoom s → switch_from (switch_fields s) ≡ s
switch_made s r =
    let t = s.normally_open in
    let o = s.can_operate in
    ap₂ (λ (x y : Bool). record { id = s.id; branch_idx = s.branch_idx; normally_open = x; can_operate = y }) (tie_made t o) (operable_made t o)

pub switch_fit : (s : Switch) → SwitchRoom s → Fit switch.widths (switch_fields s)
switch_fit s r = (r.0, (r.1, (byte s.normally_open s.can_operate, tt)))
  where
    byte : (t o : Bool) → flags_byte t o < 16 ^ 2
    byte true true = lit< tt
    byte true false = lit< tt
    byte false true = lit< tt
    byte false false = lit< tt

pub switch_meant : (s : Switch) (p : ℕ) → judge (switch_bytes (switch_fields s)) p ≡ accepted tt
unfolding judge
switch_meant s p = go s.normally_open s.can_operate
  where
    go : (t o : Bool) → judge ((3 if ltb 3 (flags_byte t o)) ∷ []) p ≡ accepted tt
    go true true = refl
    go true false = refl
    go false true = refl
    go false false = refl

pub switch_kept : (f : Fields switch.widths) (p : ℕ) → judge (switch_bytes f) p ≡ accepted tt → switch_fields (switch_from f) ≡ f
switch_kept f p m =
    let three = ltb-false 3 f.1.1.0 (judge_passed 3 (ltb 3 f.1.1.0) [] p m).0 in
    ap (λ (n : ℕ). (f.0, (f.1.0, (n, tt)))) (flags_kept f.1.1.0 three)

abbrev pub switch_kind : Kind Switch
switch_kind = record {
  frame = switch;
  sound = switch_sound;
  make = switch_from;
  fields = switch_fields;
  bytes = switch_bytes;
  Room = SwitchRoom;
  Ranged = λ s. Unit {0};
  made = switch_made;
  fit = switch_fit;
  meant = switch_meant;
  room = λ f r. (r.0, r.1.0);
  kept = λ f p r m e. switch_kept f p m;
}

pub head_made : (h : Head) → HeadRoom h → head_from (head_fields h) ≡ h
head_made h r =
    ap₂ (λ (x : Float) (a : ReconfigAlgorithm). record { buses = h.buses; branches = h.branches; switches = h.switches; base = x; algorithm = a; iterations = h.iterations })
    (of_bits-to_bits binary64 h.base r.3) (method_made h.algorithm)

pub head_fit : (h : Head) → HeadRoom h → Fit head.widths (head_fields h)
head_fit h r = (r.0, (r.1, (r.2, (to_bits-lt binary64 h.base r.3, (byte h.algorithm, (r.4, tt))))))
  where
    byte : (a : ReconfigAlgorithm) → method_byte a < 16 ^ 2
    byte BranchExchange = lit< tt
    byte TabuSearch = lit< tt
    byte Exhaustive = lit< tt

pub head_meant : (h : Head) (p : ℕ) → judge (head_bytes (head_fields h)) p ≡ accepted tt
unfolding judge
head_meant h p = go h.algorithm
  where
    go : (a : ReconfigAlgorithm) → judge ((3 if ltb 2 (method_byte a)) ∷ []) p ≡ accepted tt
    go BranchExchange = refl
    go TabuSearch = refl
    go Exhaustive = refl

pub head_kept : (f : Fields head.widths) (p : ℕ) → Fit head.widths f → judge (head_bytes f) p ≡ accepted tt → ok_base (head_from f).base ≡ true → head_fields (head_from f) ≡ f
unfolding ok_base
head_kept f p r m e =
    let two = ltb-false 2 f.1.1.1.1.0 (judge_passed 3 (ltb 2 f.1.1.1.1.0) [] p m).0 in
    ap₂ (λ (x a : ℕ). (f.0, (f.1.0, (f.1.1.0, (x, (a, (f.1.1.1.1.1.0, tt)))))))
    (float_kept thousandth million f.1.1.1.0 r.1.1.1.0 e) (method_kept f.1.1.1.1.0 two)

abbrev pub head_kind : Kind Head
head_kind = record {
  frame = head;
  sound = head_sound;
  make = head_from;
  fields = head_fields;
  bytes = head_bytes;
  Room = HeadRoom;
  Ranged = λ h. ok_base h.base ≡ true;
  made = head_made;
  fit = head_fit;
  meant = head_meant;
  room = λ f r. (r.0, r.1.0, r.1.1.0, of_bits-fits binary64 f.1.1.1.0, r.1.1.1.1.1.0);
  kept = head_kept;
}

pub supply_meant : (z : ℕ) (p : ℕ) → judge (supply_bytes (supply_fields z)) p ≡ accepted tt
unfolding judge
supply_meant z p = refl

abbrev pub supply_kind : Kind ℕ
supply_kind = record {
  frame = supply;
  sound = supply_sound;
  make = supply_from;
  fields = supply_fields;
  bytes = supply_bytes;
  Room = Short;
  Ranged = λ z. Unit {0};
  made = λ z r. refl;
  fit = λ z r. (r, tt);
  meant = supply_meant;
  room = λ f r. r.0;
  kept = λ f p r m u. refl;
}
