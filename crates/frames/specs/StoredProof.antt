-- The claim of a stored text's reading, from the laws of reading and the comparison of both readings.
use Rattle.std.specs.Prelude.{◌≡◌, ◌⊎◌, ◌≢◌, List, ℕ, ◌<◌}
use Rattle.std.proofs.Common.{sym, ap, ◌∙◌, subst, inl, inr}
use Rattle.std.proofs.Math.Bool.{true, false}
use Rattle.network.specs.Answers.{Answer, accepted, refused, ◌and_then◌}
use Rattle.network.specs.AnswerLaws.{no_refusal}
use Rattle.network.specs.Records.{Network, records_of}
use Rattle.network.specs.Inside.{Proper}
use Rattle.own_loops.specs.OwnLoops.{without_own}
use Rattle.own_loops.specs.OwnLoopLaws.{proper_same}
use Rattle.feeders.specs.Supply.{check_stored}
use Rattle.feeders.specs.Supplied.{Supplied}
use Rattle.feeders.specs.SupplyLaws.{stored_inside}
use Rattle.lines.specs.Lines.{cut}
use Rattle.frames.specs.Text.{read_text, read_stored}
use Rattle.frames.specs.Acceptable.{text_of, Writable, Repairable}
use Rattle.frames.specs.Conditions.{judgement_of}
use Rattle.frames.specs.Proof.{claim}
use Rattle.frames.specs.ReadLaws.{read_written, accepted_written}
use Rattle.frames.specs.HandedOver.{typed_writable}
use Rattle.frames.specs.TypedValues.{value_typed}
use Rattle.frames.specs.FirstFault.{first_fault}
use Rattle.frames.specs.LowerNumber.{lowest_wins}
use Rattle.frames.specs.Early.{read_early}
use Rattle.frames.specs.StoredLaws.{Related, alike, own_loop, text_related, stored_never}
use Rattle.frames.specs.StoredClaim.{StoredClaim}

-- ---- the laws of reading, of a stored text
stored_written : (N : Network) → Writable N → read_stored (text_of N) ≡ (check_stored N and_then accepted N)
unfolding read_stored check_stored
stored_written = read_written true

repairable : (t : List ℕ) (N : Network) → read_stored t ≡ accepted N → Repairable t N
unfolding read_stored check_stored
repairable t N e =
    let k = accepted_written true t N e in
    let i = (stored_inside N).0 k.2 in
    record { text = k.0; inside = i.0; supplied = i.1; writable = k.1 }

repairable_read : (t : List ℕ) (N : Network) → Repairable t N → read_stored t ≡ accepted N
unfolding ◌and_then◌
repairable_read t N a = ap read_stored a.text ∙ stored_written N a.writable ∙ ap (λ v. v and_then accepted N) ((stored_inside N).1 (a.inside, a.supplied))

-- ---- accepted texts
new_read : (t : List ℕ) (N : Network) → read_text t ≡ accepted N → read_stored t ≡ accepted N
new_read t N e =
    let a = (claim.accepted_texts t N).0 e in
    let left : Supplied (without_own N) = subst Supplied (sym (proper_same N a.inside a.proper)) a.supplied in
    repairable_read t N (record { text = a.text; inside = a.inside; supplied = left; writable = a.writable })

proper_read : (t : List ℕ) (N : Network) → read_stored t ≡ accepted N → Proper N → read_text t ≡ accepted N
proper_read t N e p =
    let a = repairable t N e in
    (claim.accepted_texts t N).1 (record { text = a.text; inside = a.inside; proper = p; supplied = subst Supplied (proper_same N a.inside p) a.supplied; writable = a.writable })

-- ---- refused texts
-- an answer is refused where its judgement is
of_judgement : {A : Type 0} (x : Answer A) (n p : ℕ) → judgement_of x ≡ refused n p → x ≡ refused n p
unfolding judgement_of ◌and_then◌
of_judgement (accepted a) n p e = no_refusal (sym e)
of_judgement (refused m q) n p e = ap (λ v. v and_then refused 0 0) e

judged : {A : Type 0} {x : Answer A} {n p : ℕ} → x ≡ refused n p → judgement_of x ≡ refused n p
unfolding judgement_of
judged e = ap judgement_of e

module _ (t : List ℕ) where
  related : Related (judgement_of (read_text t)) (judgement_of (read_stored t))
  unfolding read_text read_stored
  related = rw (first_fault false t, first_fault true t) (text_related (cut t))

  refused_before : (n p : ℕ) → read_text t ≡ refused n p → n ≢ 17 → read_stored t ≡ refused n p
  refused_before n p e other = go related
    where
      go : Related (judgement_of (read_text t)) (judgement_of (read_stored t)) → read_stored t ≡ refused n p
      go (alike s) = of_judgement (read_stored t) n p (sym s ∙ judged e)
      go (own_loop q f later) =
          let both : refused n p ≡ refused 17 q = sym (judged e) ∙ f in
          let same : n ≡ 17 = cc in
          absurd (other same)

  refused_after : (n p : ℕ) → read_stored t ≡ refused n p → (read_text t ≡ refused n p) ⊎ ((q : ℕ) × (q < p) × (read_text t ≡ refused 17 q))
  refused_after n p e = go related
    where
      go : Related (judgement_of (read_text t)) (judgement_of (read_stored t)) → (read_text t ≡ refused n p) ⊎ ((q : ℕ) × (q < p) × (read_text t ≡ refused 17 q))
      go (alike s) = inl (of_judgement (read_text t) n p (s ∙ judged e))
      go (own_loop q f later) = inr (q, later n p (judged e), of_judgement (read_text t) 17 q f)

  never_17 : (n p : ℕ) → read_stored t ≡ refused n p → n ≢ 17
  unfolding read_stored
  never_17 n p e = stored_never (cut t) n p (sym (first_fault true t) ∙ judged e)

pub stored_claim : StoredClaim
unfolding read_stored
stored_claim = record {
  read_texts = λ t N. (repairable t N, repairable_read t N);
  new_read = new_read;
  proper_read = proper_read;
  refused_before = refused_before;
  refused_after = refused_after;
  never_17 = never_17;
  first = first_fault true;
  lower = lowest_wins true;
  checked = stored_inside;
  alike = stored_written;
  handed_over = λ n vs h. stored_written (records_of n) (typed_writable n (value_typed n vs h));
  early = read_early true;
}
