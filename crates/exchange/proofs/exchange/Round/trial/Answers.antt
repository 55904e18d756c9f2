-- `trial` meets its contract: the tie's loop has no section, or the trial is the swap with that section, with its loss.
use Rattle.std.proofs.Common.{◌∙◌, rules}
use Rattle.exchange.proofs.Trials.{has_byte, has_flag, none_found, found_byte, found_flag, swap_found}
use Rattle.exchange.proofs.exchange.Round.trial.Goals as goal

pub offset_bounds-self-i : goal.offset_bounds-self-i
offset_bounds-self-i c = let byte = has_byte _ c.requires.0 _ c.requires.1 in search rules

pub bounds-self-i : goal.bounds-self-i
bounds-self-i c = has_byte _ c.requires.0 _ c.requires.1

pub offset_bounds-self-on : goal.offset_bounds-self-on
offset_bounds-self-on c = let flag = has_flag _ c.requires.0 _ c.requires.1 in search rules

pub bounds-self-on : goal.bounds-self-on
bounds-self-on c = rw c.from-on.ensures (has_flag _ c.requires.0 _ c.requires.1)

pub offset_bounds-self-on-2 : goal.offset_bounds-self-on-2
offset_bounds-self-on-2 c = let flag = has_flag _ c.requires.0 _ c.requires.1 in search rules

pub bounds-self-on-2 : goal.bounds-self-on-2
bounds-self-on-2 c = rw c.from-on.ensures (has_flag _ c.requires.0 _ c.requires.1)

pub try_tie-requires : goal.try_tie-requires
try_tie-requires c = has_flag _ c.requires.0 _ c.requires.1

pub returns-in_err-try_tie : goal.returns-in_err-try_tie
returns-in_err-try_tie c =
    c.from_residual.ensures
    ∙ none_found _ c.requires.0 _ c.requires.1 c.requires.2 _ c.from-on.ensures _ c.makes_live-made_live.ensures _ c.try_tie.ensures c.in_err-try_tie.was

pub bounds-self-section : goal.bounds-self-section
bounds-self-section c =
    found_byte _ c.requires.0 _ c.requires.1 c.requires.2 _ c.from-on.ensures _ c.makes_live-made_live.ensures _ c.try_tie.ensures c.in_ok-try_tie.was
    _ c.from-section.ensures

pub swapped_live-live-requires : goal.swapped_live-live-requires
swapped_live-live-requires c = (
  rw c.from-on.ensures (has_flag _ c.requires.0 _ c.requires.1),
  rw c.from-opened.ensures (found_flag _ c.requires.0 _ c.requires.1 c.requires.2 _ c.from-on.ensures _ c.makes_live-made_live.ensures _ c.try_tie.ensures c.in_ok-try_tie.was
      _ c.from-section.ensures),
)

pub swapped-requires : goal.swapped-requires
swapped-requires c = (
  has_byte _ c.requires.0 _ c.requires.1,
  found_byte _ c.requires.0 _ c.requires.1 c.requires.2 _ c.from-on.ensures _ c.makes_live-made_live.ensures _ c.try_tie.ensures c.in_ok-try_tie.was
      _ c.from-section.ensures,
)

pub returns : goal.returns
returns c =
    swap_found _ c.requires.0 _ c.requires.1 c.requires.2 _ c.from-on.ensures _ c.makes_live-made_live.ensures _ c.try_tie.ensures c.in_ok-try_tie.was
    _ c.from-section.ensures _ c.from-opened.ensures _ c.swapped_live-live.ensures _ c.live_loss.ensures _ c.swapped.ensures
