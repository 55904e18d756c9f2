-- What is made of the records so far stands at the front of an array, and behind it what stood there: one record more.
use Rattle.std.proofs.Common.{◌≡◌, ℕ, suc, ◌+◌, ◌<◌, List, [], ◌∷◌, ◌++◌, length, get_or, take, drop, set, sym, ap, ◌∙◌, arith, add-one, drop-cons, length-append, append_assoc}
use Rattle.std.specs.Prelude.{Option, Some, None}
use Rattle.std.specs.List.{filter_map, cons_option}
use Rattle.std.proofs.Math.Seq.{set-append_seam}
use Rattle.std.proofs.lemmas.List.{take_more, append-nil}
use Rattle.std.proofs.lemmas.List.Elements.{filter_map-append}

set_seam : {A : Type 0} (xs : List A) (b : A) (ys : List A) (n : ℕ) (y : A) → length xs ≡ n → set (xs ++ (b ∷ ys)) n y ≡ xs ++ (y ∷ ys)
set_seam xs b ys n y e = rw (← e) (set-append_seam xs b ys y)

module _ {A : Type 0} (make : A → Option A) (listed before : List A) where
  pub record Made (i : ℕ) (left : List A) (n : ℕ) : Type 0 where
    pub held : left ≡ filter_map make (take i listed) ++ drop n before
    pub counted : n ≡ length (filter_map make (take i listed))

  module _ (i : ℕ) (h : i < length listed) (x : A) (e : x ≡ get_or listed i x) {r : Option A} (q : r ≡ make x) where
    more : filter_map make (take (i + 1) listed) ≡ filter_map make (take i listed) ++ cons_option r []
    more = rw (take_more listed i x h, ← e, q) (filter_map-append make (take i listed) (x ∷ []))

    module _ {left : List A} {n : ℕ} (m : Made i left n) where
      pub one_made : {y : A} → r ≡ Some y → n < length before → Made (i + 1) (set left n y) (n + 1)
      one_made {y} s room =
          let here : length (filter_map make (take i listed)) ≡ n = sym m.counted in
          let kept : filter_map make (take (i + 1) listed) ≡ filter_map make (take i listed) ++ (y ∷ []) = more ∙ ap (λ o. filter_map make (take i listed) ++ cons_option o []) s in
          record {
            held = rw (m.held, drop-cons before n y room, kept, add-one) (set_seam (filter_map make (take i listed)) (get_or before n y) (drop (suc n) before) n y here ∙ sym (append_assoc (filter_map make (take i listed)) (y ∷ []) (drop (suc n) before)));
            counted = rw kept (omega (arith, length-append (filter_map make (take i listed)) (y ∷ [])));
          }

      pub none_made : r ≡ None → Made (i + 1) left n
      none_made s = record { held = rw (more, s, append-nil) m.held; counted = rw (more, s, append-nil) m.counted }
