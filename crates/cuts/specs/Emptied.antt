-- The laws of the listed channels. Assumes nothing.
use Rattle.std.specs.Prelude.{◌≡◌, ℕ, ◌<◌, ◌≤◌, true, false, List, length, Some, None, Option, MatchOption, refl}
use Rattle.std.proofs.Common.{sym, ap, subst, ◌∙◌, ⊎_elim, arith}
use Rattle.std.proofs.lemmas.Bool.{cases_Bool, cases_lt, cases_order}
use Rattle.lattice.specs.First.{first}
use Rattle.lattice.specs.Order.{at, AtMost}
use Rattle.lattice.specs.Laws.{Lawful}
use Rattle.lattice.specs.declared.vector.Vector.{Vector}
use Rattle.lattice.specs.declared.condition.Reply.{Reply}
use Rattle.lattice.specs.declared.condition.Reply.TheVariants.{Holds}
use Rattle.lattice.proofs.First.{first_least}
use Rattle.trace.specs.declared.event.Event.{Event}
use Rattle.cuts.specs.declared.channel.Channel.{Channel}
use Rattle.cuts.specs.Cuts.{Within, beyond}
use Rattle.cuts.specs.Sides.{lift_or}
use Rattle.cuts.specs.Channels.{sent, received, channel, Level, Channels, Reaches, FirstUneven, ChannelsSays, uneven, levels, channels_reply}
use Rattle.cuts.specs.Channels.ChannelsSays.{past, empty, sender_behind, receiver_behind, sender_stuck, receiver_stuck}
use Rattle.cuts.specs.Cutting.{beyond_true, beyond_false, beyond_within, beyond_over}
use Rattle.cuts.specs.Tallies.{Short, reaches_above, reaches_least, reach_or_short}
use Rattle.cuts.specs.Levels.{sent_mono, received_mono, lifts_sender, lifts_receiver, level_at, uneven_at, reply_beyond, reply_uneven, reply_level}
use Rattle.cuts.specs.Views.{View, view_lawful}
use Rattle.cuts.specs.Views.View.{holds, lifts, never}

-- the reply is what the words say
module _ (n : ℕ) (es : List Event) (cs : List Channel) (h : ℕ → ℕ) where
  sender_says : Within n es h → (c : Channel) → FirstUneven es cs h c → sent es c (h c.sender) < received es c (h c.receiver) → (o : Option ℕ)
      → MatchOption o (Short es (sent es c) c.sender (received es c (h c.receiver))) (λ q. Reaches es (sent es c) c.sender (received es c (h c.receiver)) q)
      → ChannelsSays n es cs h (lift_or c.sender o)
  sender_says w c f lt None short = sender_stuck w c f short
  sender_says w c f lt (Some q) r = sender_behind w c f lt q r

  receiver_says : Within n es h → (c : Channel) → FirstUneven es cs h c → received es c (h c.receiver) < sent es c (h c.sender) → (o : Option ℕ)
      → MatchOption o (Short es (received es c) c.receiver (sent es c (h c.sender))) (λ q. Reaches es (received es c) c.receiver (sent es c (h c.sender)) q)
      → ChannelsSays n es cs h (lift_or c.receiver o)
  receiver_says w c f lt None short = receiver_stuck w c f short
  receiver_says w c f lt (Some q) r = receiver_behind w c f lt q r

  uneven_says : Within n es h → (c : Channel) → FirstUneven es cs h c → (Level es c h → ⊥) → ChannelsSays n es cs h (levels es c h)
  uneven_says w c f odd =
      let s = sent es c (h c.sender) in
      let r = received es c (h c.receiver) in
      ⊎_elim
      (λ (e : s ≡ r). absurd (odd e))
      (⊎_elim
      (λ (lt : s < r).
      let found = reach_or_short es (sent es c) (sent_mono es c) c.sender r in
      subst (ChannelsSays n es cs h) (sym (lifts_sender es c h found.0 lt found.1)) (sender_says w c f lt found.0 found.1))
      (λ (lt : r < s).
      let found = reach_or_short es (received es c) (received_mono es c) c.receiver s in
      subst (ChannelsSays n es cs h) (sym (lifts_receiver es c h found.0 lt found.1)) (receiver_says w c f lt found.0 found.1)))
      (cases_order s r)

  pub channels_say : ChannelsSays n es cs h (channels_reply n es cs h)
  channels_say =
      ⊎_elim
      (λ (out : beyond n es h ≡ true).
      let o = beyond_over n es h out in
      subst (ChannelsSays n es cs h) (sym (reply_beyond n es cs h out)) (past o.place o.less o.over))
      (λ (inside : beyond n es h ≡ false).
      let w = beyond_within n es h inside in
      let k = first (uneven es cs h) 0 (length cs) in
      let l = first_least (uneven es cs h) 0 (length cs) (omega arith) in
      let before : (j : ℕ) → j < k → Level es (channel cs j) h = λ j lt. level_at n es cs h j (l.before j (omega arith) lt) in
      ⊎_elim
      (λ (there : k < length cs).
      let odd = uneven_at n es cs h k (l.passes there) in
      subst (ChannelsSays n es cs h) (sym (reply_uneven n es cs h k inside there before odd))
      (uneven_says w (channel cs k) (record { at = k; listed = there; is = refl; uneven = odd; before = before }) odd))
      (λ (end : length cs ≤ k).
      let all : (j : ℕ) → j < length cs → Level es (channel cs j) h = λ j lt. before j (omega arith) in
      subst (ChannelsSays n es cs h) (sym (reply_level n es cs h inside all)) (empty (record { within = w; level = all })))
      (cases_lt k (length cs)))
      (cases_Bool (beyond n es h))

  first_uneven : Within n es h → (c : Channel) → FirstUneven es cs h c → (Level es c h → ⊥) → channels_reply n es cs h ≡ levels es c h
  first_uneven w c f odd =
      reply_uneven n es cs h f.at (beyond_false n es h w) f.listed f.before (λ l. odd (subst (λ (d : Channel). Level es d h) f.is l))
      ∙ ap (λ (d : Channel). levels es d h) f.is

-- channels between processes
module _ (n : ℕ) (es : List Event) (cs : List Channel) (senders : (k : ℕ) → k < length cs → (channel cs k).sender < n) (receivers : (k : ℕ) → k < length cs → (channel cs k).receiver < n) where
  sender_place : (h : ℕ → ℕ) (c : Channel) → FirstUneven es cs h c → c.sender < n
  sender_place h c f = subst (λ (d : Channel). d.sender < n) f.is (senders f.at f.listed)

  receiver_place : (h : ℕ → ℕ) (c : Channel) → FirstUneven es cs h c → c.receiver < n
  receiver_place h c f = subst (λ (d : Channel). d.receiver < n) f.is (receivers f.at f.listed)

  -- the words leave no other
  pub channels_only : (h : ℕ → ℕ) (r : Reply) → ChannelsSays n es cs h r → channels_reply n es cs h ≡ r
  channels_only h r (past i lt over) = reply_beyond n es cs h (beyond_true n es h i lt over)
  channels_only h r (empty e) = reply_level n es cs h (beyond_false n es h e.within) e.level
  channels_only h r (sender_behind w c f lt q least) = first_uneven n es cs h w c f (λ l. omega arith) ∙ lifts_sender es c h (Some q) lt least
  channels_only h r (receiver_behind w c f lt q least) = first_uneven n es cs h w c f (λ l. omega arith) ∙ lifts_receiver es c h (Some q) lt least
  channels_only h r (sender_stuck w c f short) =
      let lt = short (h c.sender) (w c.sender (sender_place h c f)) in
      first_uneven n es cs h w c f (λ l. omega arith) ∙ lifts_sender es c h None lt short
  channels_only h r (receiver_stuck w c f short) =
      let lt = short (h c.receiver) (w c.receiver (receiver_place h c f)) in
      first_uneven n es cs h w c f (λ l. omega arith) ∙ lifts_receiver es c h None lt short

  -- places from n on are free
  module _ (h g : ℕ → ℕ) (same : (i : ℕ) → i < n → h i ≡ g i) where
    within_free : Within n es h → Within n es g
    within_free w i lt = omega (arith, w i lt, same i lt)

    level_free : (c : Channel) → c.sender < n → c.receiver < n → Level es c h → Level es c g
    level_free c s r l = omega (arith, ap (sent es c) (same c.sender s), ap (received es c) (same c.receiver r))

    level_back : (c : Channel) → c.sender < n → c.receiver < n → Level es c g → Level es c h
    level_back c s r l = omega (arith, ap (sent es c) (same c.sender s), ap (received es c) (same c.receiver r))

    uneven_free : (c : Channel) → FirstUneven es cs h c → FirstUneven es cs g c
    uneven_free c f =
        record {
          at = f.at;
          listed = f.listed;
          is = f.is;
          uneven = λ l. f.uneven (level_back c (sender_place h c f) (receiver_place h c f) l);
          before = λ k lt. level_free (channel cs k) (senders k (omega (arith, f.listed))) (receivers k (omega (arith, f.listed))) (f.before k lt);
        }

    says_free : {r : Reply} → ChannelsSays n es cs h r → ChannelsSays n es cs g r
    says_free (past i lt over) = past i lt (omega (arith, same i lt))
    says_free (empty e) = empty (record { within = within_free e.within; level = λ k lt. level_free (channel cs k) (senders k lt) (receivers k lt) (e.level k lt) })
    says_free (sender_behind w c f lt q r) =
        let s = ap (sent es c) (same c.sender (sender_place h c f)) in
        let t = ap (received es c) (same c.receiver (receiver_place h c f)) in
        sender_behind (within_free w) c (uneven_free c f) (omega arith) q (subst (λ (x : ℕ). Reaches es (sent es c) c.sender x q) t r)
    says_free (receiver_behind w c f lt q r) =
        let s = ap (sent es c) (same c.sender (sender_place h c f)) in
        let t = ap (received es c) (same c.receiver (receiver_place h c f)) in
        receiver_behind (within_free w) c (uneven_free c f) (omega arith) q (subst (λ (x : ℕ). Reaches es (received es c) c.receiver x q) s r)
    says_free (sender_stuck w c f short) =
        let t = ap (received es c) (same c.receiver (receiver_place h c f)) in
        sender_stuck (within_free w) c (uneven_free c f) (λ k le. omega (arith, short k le))
    says_free (receiver_stuck w c f short) =
        let s = ap (sent es c) (same c.sender (sender_place h c f)) in
        receiver_stuck (within_free w) c (uneven_free c f) (λ k le. omega (arith, short k le))

    pub channels_free : channels_reply n es cs h ≡ channels_reply n es cs g
    channels_free = sym (channels_only g (channels_reply n es cs h) (says_free (channels_say n es cs h)))

  -- without processes every vector is taken
  pub channels_blank : n ≡ 0 → (h : ℕ → ℕ) → channels_reply n es cs h ≡ Holds
  channels_blank e h =
      channels_only h Holds (empty (record { within = λ i lt. absurd (omega arith); level = λ k lt. absurd (omega (arith, senders k lt)) }))

  -- what the words say is owed
  module _ (few : n ≤ 16) where
    -- where the condition holds at or above v, the side that is behind has at least the greater count
    sender_more : (v w : Vector) (c : Channel) → FirstUneven es cs (at v) c → AtMost v w → Channels n es cs (at w) → received es c (at v c.receiver) ≤ sent es c (at w c.sender)
    sender_more v w c f up k =
        let even = subst (λ (d : Channel). Level es d (at w)) f.is (k.level f.at f.listed) in
        omega (arith, received_mono es c (at v c.receiver) (at w c.receiver) (up c.receiver (omega (arith, receiver_place (at v) c f))))

    receiver_more : (v w : Vector) (c : Channel) → FirstUneven es cs (at v) c → AtMost v w → Channels n es cs (at w) → sent es c (at v c.sender) ≤ received es c (at w c.receiver)
    receiver_more v w c f up k =
        let even = subst (λ (d : Channel). Level es d (at w)) f.is (k.level f.at f.listed) in
        omega (arith, sent_mono es c (at v c.sender) (at w c.sender) (up c.sender (omega (arith, sender_place (at v) c f))))

    view : (v : Vector) {r : Reply} → ChannelsSays n es cs (at v) r → View (λ w. Channels n es cs (at w)) v r
    view v (past i lt over) = never (λ w up k. omega (arith, up i (omega arith), k.within i lt)) refl
    view v (empty e) = holds e refl
    view v (sender_behind w c f lt q r) =
        let received_now = received es c (at v c.receiver) in
        lifts c.sender q (omega (arith, sender_place (at v) c f)) (reaches_above es (sent es c) (sent_mono es c) c.sender received_now (at v c.sender) q lt r)
        (λ u up k. reaches_least es (sent es c) (sent_mono es c) c.sender received_now q (at u c.sender) r (sender_more v u c f up k)) refl
    view v (receiver_behind w c f lt q r) =
        let sent_now = sent es c (at v c.sender) in
        lifts c.receiver q (omega (arith, receiver_place (at v) c f)) (reaches_above es (received es c) (received_mono es c) c.receiver sent_now (at v c.receiver) q lt r)
        (λ u up k. reaches_least es (received es c) (received_mono es c) c.receiver sent_now q (at u c.receiver) r (receiver_more v u c f up k)) refl
    view v (sender_stuck w c f short) =
        never (λ u up k. omega (arith, short (at u c.sender) (k.within c.sender (sender_place (at v) c f)), sender_more v u c f up k)) refl
    view v (receiver_stuck w c f short) =
        never (λ u up k. omega (arith, short (at u c.receiver) (k.within c.receiver (receiver_place (at v) c f)), receiver_more v u c f up k)) refl

    pub channels_lawful : Lawful (λ v. Channels n es cs (at v)) (λ v. channels_reply n es cs (at v))
    channels_lawful = view_lawful (λ v. Channels n es cs (at v)) (λ v. channels_reply n es cs (at v)) (λ v. view v (channels_say n es cs (at v)))
