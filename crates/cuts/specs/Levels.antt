-- The reply of the listed channels, computed. Assumes nothing.
use Rattle.std.specs.Prelude.{◌≡◌, ℕ, ◌<◌, true, false, cond, List, length, Option, MatchOption, ◌==◌, nat_lt}
use Rattle.std.proofs.Common.{ap, ◌∙◌, arith}
use Rattle.std.proofs.lemmas.Bool.{both_ways, cond-true, cond-false, eq-eqb, ne_eqb, eqb-true, lt-ltb, le-ltb, not-false, not_from_true, not_from_false}
use Rattle.lattice.specs.First.{first}
use Rattle.lattice.specs.declared.condition.Reply.TheVariants.{Holds, Never}
use Rattle.lattice.proofs.First.{first_is}
use Rattle.trace.specs.declared.event.Event.{Event}
use Rattle.cuts.specs.declared.channel.Channel.{Channel}
use Rattle.cuts.specs.Cuts.{beyond}
use Rattle.cuts.specs.Sides.{lift_or}
use Rattle.cuts.specs.Channels.{to_process, from_process, sent, received, channel, Level, Reaches, uneven, lifted_to, levels, channels_reply}
use Rattle.cuts.specs.Tallies.{tally_mono, Rising, Short, lift_is}

pub sent_mono : (es : List Event) (c : Channel) → Rising (sent es c)
sent_mono es c = tally_mono es (to_process c.receiver) c.sender

pub received_mono : (es : List Event) (c : Channel) → Rising (received es c)
received_mono es c = tally_mono es (from_process es c.sender) c.receiver

-- the reply on one channel: the side that is behind is lifted
pub levels_sender : (es : List Event) (c : Channel) (h : ℕ → ℕ) → sent es c (h c.sender) < received es c (h c.receiver)
    → levels es c h ≡ lifted_to es (sent es c) c.sender (h c.sender) (received es c (h c.receiver))
levels_sender es c h lt = cond-true (nat_lt (sent es c (h c.sender)) (received es c (h c.receiver))) _ _ (lt-ltb _ _ lt)

pub levels_receiver : (es : List Event) (c : Channel) (h : ℕ → ℕ) → received es c (h c.receiver) < sent es c (h c.sender)
    → levels es c h ≡ lifted_to es (received es c) c.receiver (h c.receiver) (sent es c (h c.sender))
levels_receiver es c h lt = cond-false (nat_lt (sent es c (h c.sender)) (received es c (h c.receiver))) _ _ (le-ltb _ _ (omega arith))

-- as a search on it answers
pub lifts_sender : (es : List Event) (c : Channel) (h : ℕ → ℕ) (o : Option ℕ) → sent es c (h c.sender) < received es c (h c.receiver)
    → MatchOption o (Short es (sent es c) c.sender (received es c (h c.receiver))) (λ q. Reaches es (sent es c) c.sender (received es c (h c.receiver)) q)
    → levels es c h ≡ lift_or c.sender o
lifts_sender es c h o lt found = levels_sender es c h lt ∙ lift_is es (sent es c) (sent_mono es c) c.sender (received es c (h c.receiver)) (h c.sender) o lt found

pub lifts_receiver : (es : List Event) (c : Channel) (h : ℕ → ℕ) (o : Option ℕ) → received es c (h c.receiver) < sent es c (h c.sender)
    → MatchOption o (Short es (received es c) c.receiver (sent es c (h c.sender))) (λ q. Reaches es (received es c) c.receiver (sent es c (h c.sender)) q)
    → levels es c h ≡ lift_or c.receiver o
lifts_receiver es c h o lt found = levels_receiver es c h lt ∙ lift_is es (received es c) (received_mono es c) c.receiver (sent es c (h c.sender)) (h c.receiver) o lt found

-- the reply on all of them, computed from the first uneven one
module _ (n : ℕ) (es : List Event) (cs : List Channel) (h : ℕ → ℕ) where
  even_at : (k : ℕ) → Level es (channel cs k) h → uneven es cs h k ≡ false
  even_at k l =
      let c = channel cs k in
      not_from_true (sent es c (h c.sender) == received es c (h c.receiver)) (eq-eqb (sent es c (h c.sender)) (received es c (h c.receiver)) l)

  pub level_at : (k : ℕ) → uneven es cs h k ≡ false → Level es (channel cs k) h
  level_at k e =
      let c = channel cs k in
      eqb-true (sent es c (h c.sender)) (received es c (h c.receiver)) (not-false (sent es c (h c.sender) == received es c (h c.receiver)) e)

  pub uneven_at : (k : ℕ) → uneven es cs h k ≡ true → Level es (channel cs k) h → ⊥
  uneven_at k e l = both_ways (uneven es cs h k) (even_at k l) e

  pub reply_beyond : beyond n es h ≡ true → channels_reply n es cs h ≡ Never
  reply_beyond e =
      let k = first (uneven es cs h) 0 (length cs) in
      cond-true (beyond n es h) Never (cond (nat_lt k (length cs)) (levels es (channel cs k) h) Holds) e

  -- all before place k level, and that one not
  pub reply_uneven : (k : ℕ) → beyond n es h ≡ false → k < length cs → ((j : ℕ) → j < k → Level es (channel cs j) h) → (Level es (channel cs k) h → ⊥)
      → channels_reply n es cs h ≡ levels es (channel cs k) h
  reply_uneven k e there before odd =
      let c = channel cs k in
      let is : first (uneven es cs h) 0 (length cs) ≡ k =
      first_is (uneven es cs h) 0 (length cs) k
      (record {
        low = omega arith;
        high = omega arith;
        passes = λ _. not_from_false (sent es c (h c.sender) == received es c (h c.receiver)) (ne_eqb (sent es c (h c.sender)) (received es c (h c.receiver)) odd);
        before = λ j _ lt. even_at j (before j lt);
      }) in
      ap (λ (x : ℕ). cond (beyond n es h) Never (cond (nat_lt x (length cs)) (levels es (channel cs x) h) Holds)) is
      ∙ cond-false (beyond n es h) Never (cond (nat_lt k (length cs)) (levels es c h) Holds) e
      ∙ cond-true (nat_lt k (length cs)) (levels es c h) Holds (lt-ltb k (length cs) there)

  -- all of them level
  pub reply_level : beyond n es h ≡ false → ((k : ℕ) → k < length cs → Level es (channel cs k) h) → channels_reply n es cs h ≡ Holds
  reply_level e all =
      let is : first (uneven es cs h) 0 (length cs) ≡ length cs =
      first_is (uneven es cs h) 0 (length cs) (length cs)
      (record { low = omega arith; high = omega arith; passes = λ lt. absurd (omega arith); before = λ j _ lt. even_at j (all j lt) }) in
      ap (λ (x : ℕ). cond (beyond n es h) Never (cond (nat_lt x (length cs)) (levels es (channel cs x) h) Holds)) is
      ∙ cond-false (beyond n es h) Never (cond (nat_lt (length cs) (length cs)) (levels es (channel cs (length cs)) h) Holds) e
      ∙ cond-false (nat_lt (length cs) (length cs)) (levels es (channel cs (length cs)) h) Holds (le-ltb (length cs) (length cs) (omega arith))
