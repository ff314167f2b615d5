-- Cuts in which listed channels are empty. Assumes nothing.
use Rattle.std.specs.Prelude.{◌≡◌, ℕ, zero, suc, ◌+◌, ◌<◌, ◌≤◌, Bool, false, cond, not, ◌&&◌, leb, List, length, ◌==◌, nat_le, nat_lt, slice_index_or}
use Rattle.lattice.specs.First.{first}
use Rattle.lattice.specs.declared.condition.Reply.{Reply}
use Rattle.lattice.specs.declared.condition.Reply.TheVariants.{Holds, Lift, Never}
use Rattle.trace.specs.declared.event.Event.{Event}
use Rattle.trace.specs.declared.event.Action.{Action}
use Rattle.trace.specs.declared.event.Action.TheVariants.{Local, Send, Receive}
use Rattle.trace.specs.Events.{by, does, total, nth, source}
use Rattle.cuts.specs.declared.channel.Channel.{Channel}
use Rattle.cuts.specs.Cuts.{Within, beyond}

-- whether an action sends to process p
abbrev pub to_process : ℕ → Action → Bool
to_process p Local = false
to_process p (Send to m) = to == p
to_process p (Receive m) = false

-- whether an action receives a message that process p sent
abbrev pub from_process : List Event → ℕ → Action → Bool
from_process es p Local = false
from_process es p (Send to m) = false
from_process es p (Receive m) = nat_lt (source es m) (length es) && by es (source es m) == p

-- how many of the first h events of process i do what is asked
abbrev pub tally : List Event → (Action → Bool) → ℕ → ℕ → ℕ
tally es test i zero = 0
tally es test i (suc h) = tally es test i h + cond (test (does es (nth es i (suc h)))) 1 0

-- the sends to the receiver within the sender's height, and the receives from the sender within the receiver's height
abbrev pub sent : List Event → Channel → ℕ → ℕ
sent es c = tally es (to_process c.receiver) c.sender

abbrev pub received : List Event → Channel → ℕ → ℕ
received es c = tally es (from_process es c.sender) c.receiver

-- the channel at a place of the list
abbrev pub channel : List Channel → ℕ → Channel
channel cs k = slice_index_or cs k (record { sender = 0; receiver = 0 })

abbrev pub Level : List Event → Channel → (ℕ → ℕ) → Type 0
Level es c h = sent es c (h c.sender) ≡ received es c (h c.receiver)

pub record Channels (n : ℕ) (es : List Event) (cs : List Channel) (h : ℕ → ℕ) : Type 0 where
  pub within : Within n es h
  pub level : (k : ℕ) → k < length cs → Level es (channel cs k) h

-- q is the least height of process i at which what is counted reaches the count
pub record Reaches (es : List Event) (counted : ℕ → ℕ) (i count q : ℕ) : Type 0 where
  pub there : q ≤ total es i
  pub enough : count ≤ counted q
  pub least : (k : ℕ) → k < q → counted k < count

-- c is the first listed channel on which the counts are unequal
pub record FirstUneven (es : List Event) (cs : List Channel) (h : ℕ → ℕ) (c : Channel) : Type 0 where
  pub at : ℕ
  pub listed : at < length cs
  pub is : channel cs at ≡ c
  pub uneven : Level es c h → ⊥
  pub before : (k : ℕ) → k < at → Level es (channel cs k) h

-- the reply in words: "never" beyond the events; else, on the first listed channel where the counts are unequal, the side with the smaller
-- count is lifted to the least height at which it reaches the larger, and without such a height the reply is "never"
pub data ChannelsSays (n : ℕ) (es : List Event) (cs : List Channel) (h : ℕ → ℕ) : Reply → Type 0 where
  past : (i : ℕ) → i < n → total es i < h i → ChannelsSays n es cs h Never
  empty : Channels n es cs h → ChannelsSays n es cs h Holds
  sender_behind : Within n es h → (c : Channel) → FirstUneven es cs h c → sent es c (h c.sender) < received es c (h c.receiver) → (q : ℕ)
      → Reaches es (sent es c) c.sender (received es c (h c.receiver)) q → ChannelsSays n es cs h (Lift (c.sender, q))
  receiver_behind : Within n es h → (c : Channel) → FirstUneven es cs h c → received es c (h c.receiver) < sent es c (h c.sender) → (q : ℕ)
      → Reaches es (received es c) c.receiver (sent es c (h c.sender)) q → ChannelsSays n es cs h (Lift (c.receiver, q))
  sender_stuck : Within n es h → (c : Channel) → FirstUneven es cs h c → ((k : ℕ) → k ≤ total es c.sender → sent es c k < received es c (h c.receiver)) → ChannelsSays n es cs h Never
  receiver_stuck : Within n es h → (c : Channel) → FirstUneven es cs h c → ((k : ℕ) → k ≤ total es c.receiver → received es c k < sent es c (h c.sender)) → ChannelsSays n es cs h Never

abbrev pub uneven : List Event → List Channel → (ℕ → ℕ) → ℕ → Bool
uneven es cs h k = let c = channel cs k in not (sent es c (h c.sender) == received es c (h c.receiver))

-- process i, at height from, is lifted to where what is counted reaches the count
abbrev pub lifted_to : List Event → (ℕ → ℕ) → ℕ → ℕ → ℕ → Reply
lifted_to es counted i from count =
    let q = first (λ k. leb count (counted k)) from (total es i + 1) in
    cond (nat_le q (total es i)) (Lift (i, q)) Never

-- the reply on a channel whose counts are unequal
abbrev pub levels : List Event → Channel → (ℕ → ℕ) → Reply
levels es c h =
    let s = sent es c (h c.sender) in
    let r = received es c (h c.receiver) in
    cond (nat_lt s r) (lifted_to es (sent es c) c.sender (h c.sender) r) (lifted_to es (received es c) c.receiver (h c.receiver) s)

-- the reply, computed
abbrev pub channels_reply : ℕ → List Event → List Channel → (ℕ → ℕ) → Reply
channels_reply n es cs h =
    let k = first (uneven es cs h) 0 (length cs) in
    cond (beyond n es h) Never (cond (nat_lt k (length cs)) (levels es (channel cs k) h) Holds)
