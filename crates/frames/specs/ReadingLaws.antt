-- What the reader answered says how the text reads.
use Rattle.std.specs.Prelude.{◌≡◌, ℕ, Result, Ok, Err}
use Rattle.std.proofs.Common.{sym, ap, ◌∙◌}
use Rattle.network.specs.declared.error.Refusal.{Refusal}
use Rattle.network.specs.declared.topology.PowerNetwork.{PowerNetwork}
use Rattle.network.specs.Answers.{Answer, accepted, refused, answer_of, valued, number_of, place_of}
use Rattle.network.specs.AnswerLaws.{no_refusal, same_value, refused_so, accepted_so}
use Rattle.network.specs.Records.{Network, records_of, network_of}
use Rattle.network.specs.RecordLaws.{records_of_network}

valued_refused : (a : Answer Network) {n p : ℕ} → valued network_of a ≡ refused n p → a ≡ refused n p
valued_refused (accepted N) e = no_refusal (sym e)
valued_refused (refused m q) e = ap (λ (x : Answer PowerNetwork). valued records_of x) e

valued_accepted : (a : Answer Network) {n : PowerNetwork} → valued network_of a ≡ accepted n → a ≡ accepted (records_of n)
valued_accepted (accepted N) e = ap accepted (sym (records_of_network N) ∙ ap records_of (same_value e))
valued_accepted (refused m q) e = no_refusal e

module _ (a : Answer Network) {v : Result PowerNetwork Refusal} where
  pub read_refused : {r : Refusal} → v ≡ Err r → answer_of v ≡ valued network_of a → a ≡ refused (number_of r) (place_of r)
  read_refused q e = valued_refused a (refused_so q e)

  pub read_accepted : {n : PowerNetwork} → v ≡ Ok n → answer_of v ≡ valued network_of a → a ≡ accepted (records_of n)
  read_accepted q e = valued_accepted a (accepted_so q e)
