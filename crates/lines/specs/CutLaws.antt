-- A text is its lines, and these are its only ones.
use Rattle.std.specs.Prelude.{◌≡◌, refl, ◌⊎◌, Bool, true, false, cond, not, List, [], ◌∷◌, ◌++◌, ℕ, zero, suc, ◌+◌, ◌/◌, ◌%◌, ◌^◌, ◌<◌, ltb, eqb, length}
use Rattle.std.proofs.Common.{sym, ap, ap₂, subst, ◌∙◌, inl, inr, append-nil, arith, lit<, ne_eqb, eqb-true}
use Rattle.std.proofs.lemmas.Bool.{not-true}
use Rattle.numbers.specs.Tests.{both, clash}
use Rattle.numbers.specs.Every.{every, every_append}
use Rattle.network.specs.Inside.{Each}
use Rattle.lines.specs.Hex.{is_digit, digit, digits, Fields, write_fields}
use Rattle.lines.specs.HexLaws.{digit_no_feed}
use Rattle.lines.specs.Lines.{Line, put, cut}

-- the text of lines
unfoldable pub joined : List Line → List ℕ
joined [] = []
joined (l ∷ ls) = l.chars ++ (cond l.ended (10 ∷ []) [] ++ joined ls)

joined_put : (c : ℕ) (ls : List Line) → joined (put c ls) ≡ c ∷ joined ls
unfolding joined put
joined_put c [] = refl
joined_put c (l ∷ ls) = refl

pub joined_cut : (t : List ℕ) → joined (cut t) ≡ t
unfolding joined cut
joined_cut [] = refl
joined_cut (c ∷ t) = go (eqb c 10) refl (joined_cut t)
  where
    go : (b : Bool) → eqb c 10 ≡ b → joined (cut t) ≡ t → joined (cond b (record { chars = []; ended = true } ∷ cut t) (put c (cut t))) ≡ c ∷ t
    go true e ih = ap₂ {C = List ℕ} (λ x xs. x ∷ xs) (sym (eqb-true c 10 e)) ih
    go false e ih = joined_put c (cut t) ∙ ap (λ xs. c ∷ xs) ih

-- no line feed
abbrev pub no_feed : ℕ → Bool
no_feed c = not (eqb c 10)

-- where the next line of a text ends
pub cut_ended : (cs t : List ℕ) → every no_feed cs ≡ true → cut (cs ++ (10 ∷ t)) ≡ record { chars = cs; ended = true } ∷ cut t
unfolding every cut put
cut_ended [] t e = refl
cut_ended (c ∷ cs) t e =
    let h = both (no_feed c) (every no_feed cs) e in
    rw (not-true (eqb c 10) h.0, cut_ended cs t h.1)

pub cut_unended : (c : ℕ) (cs : List ℕ) → every no_feed (c ∷ cs) ≡ true → cut (c ∷ cs) ≡ record { chars = c ∷ cs; ended = false } ∷ []
unfolding every cut put
cut_unended c [] e = rw (not-true (eqb c 10) (both (no_feed c) true e).0)
cut_unended c (d ∷ cs) e =
    let h = both (no_feed c) (every no_feed (d ∷ cs)) e in
    rw (not-true (eqb c 10) h.0, cut_unended d cs h.1)

-- ---- these are the only lines of a text
-- no character of a line is a line feed; a line is ended, or it is the last and not empty
abbrev pub AreLines : List Line → Type 0
AreLines [] = Unit {0}
AreLines (l ∷ ls) = (every no_feed l.chars ≡ true) × ((l.ended ≡ true) ⊎ ((ls ≡ []) × (0 < length l.chars))) × AreLines ls

put_lines : (c : ℕ) (ls : List Line) → eqb c 10 ≡ false → AreLines ls → AreLines (put c ls)
unfolding put every
put_lines c [] e h = (rw e, inr (refl, lit< tt), tt)
put_lines c (l ∷ ls) e h = (rw e h.0, longer h.1, h.2)
  where
    longer : (l.ended ≡ true) ⊎ ((ls ≡ []) × (0 < length l.chars)) → (l.ended ≡ true) ⊎ ((ls ≡ []) × (0 < suc (length l.chars)))
    longer (inl q) = inl q
    longer (inr (q, k)) = inr (q, omega arith)

-- what a text is cut into are lines
pub cut_lines : (t : List ℕ) → AreLines (cut t)
unfolding cut every
cut_lines [] = tt
cut_lines (c ∷ t) = go (eqb c 10) refl (cut_lines t)
  where
    go : (b : Bool) → eqb c 10 ≡ b → AreLines (cut t) → AreLines (cond b (record { chars = []; ended = true } ∷ cut t) (put c (cut t)))
    go true e h = (refl, inl refl, h)
    go false e h = put_lines c (cut t) e h

-- an unended line that is not empty
cut_last : (cs : List ℕ) → every no_feed cs ≡ true → 0 < length cs → cut cs ≡ record { chars = cs; ended = false } ∷ []
cut_last [] e k = absurd (omega arith)
cut_last (c ∷ cs) e k = cut_unended c cs e

-- and lines that are joined are cut into the same lines
pub cut_joined : (ls : List Line) → AreLines ls → cut (joined ls) ≡ ls
unfolding joined cut
cut_joined [] h = refl
cut_joined (l ∷ ls) h = go l.ended refl h.1 (cut_joined ls h.2)
  where
    go : (b : Bool) → l.ended ≡ b → (l.ended ≡ true) ⊎ ((ls ≡ []) × (0 < length l.chars)) → cut (joined ls) ≡ ls
        → cut (l.chars ++ (cond l.ended (10 ∷ []) [] ++ joined ls)) ≡ l ∷ ls
    go true e o ih = rw e (cut_ended l.chars (joined ls) h.0 ∙ ap (λ (r : List Line). record { chars = l.chars; ended = true } ∷ r) ih)
    go false e (inl q) ih = clash q e
    go false e (inr (q, k)) ih = rw (e, q, append-nil l.chars) (cut_last l.chars h.0 k)

-- an ended first line stands whole at the front of the text, and the other lines are those of what stands behind it
pub first_ended : (t : List ℕ) (l : Line) (ls : List Line) → cut t ≡ l ∷ ls → l.ended ≡ true → (t ≡ l.chars ++ (10 ∷ joined ls)) × (cut (joined ls) ≡ ls)
unfolding joined
first_ended t l ls q e = (
  sym (joined_cut t) ∙ ap joined q ∙ rw e,
  cut_joined ls (subst AreLines q (cut_lines t)).2,
)

-- ---- lines of digits
digits_no_feed : (cs : List ℕ) → every is_digit cs ≡ true → every no_feed cs ≡ true
unfolding every
digits_no_feed [] e = refl
digits_no_feed (c ∷ cs) e =
    let h = both (is_digit c) (every is_digit cs) e in
    rw (digit_no_feed c h.0) (digits_no_feed cs h.1)

-- a line of digits that is ended
pub record DigitLine (l : Line) : Type 0 where
  pub is_ended : l.ended ≡ true
  pub is_digits : every is_digit l.chars ≡ true

pub digit_lines : (ls : List Line) → Each DigitLine ls → AreLines ls
digit_lines [] h = tt
digit_lines (l ∷ ls) h = (digits_no_feed l.chars h.0.is_digits, inl h.0.is_ended, digit_lines ls h.1)

-- ---- no line feed stands in what is written of a number, whatever the number
digit_written_no_feed : (n : ℕ) → no_feed (digit n) ≡ true
unfolding digit
digit_written_no_feed n = go (ltb n 10)
  where
    go : (b : Bool) → no_feed (cond b (48 + n) (55 + n)) ≡ true
    go true = rw (ne_eqb (48 + n) 10 (λ e. omega arith))
    go false = rw (ne_eqb (55 + n) 10 (λ e. omega arith))

pub digits_written_no_feed : (w n : ℕ) → every no_feed (digits w n) ≡ true
unfolding digits every
digits_written_no_feed zero n = refl
digits_written_no_feed (suc w) n = rw (digit_written_no_feed (n / 16 ^ w)) (digits_written_no_feed w (n % 16 ^ w))

pub written_no_feed : (ws : List ℕ) (f : Fields ws) → every no_feed (write_fields ws f) ≡ true
unfolding write_fields every
written_no_feed [] f = refl
written_no_feed (w ∷ ws) f = every_append no_feed (digits w f.0) (write_fields ws f.1) (digits_written_no_feed w f.0) (written_no_feed ws f.1)
