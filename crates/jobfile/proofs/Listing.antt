-- Channels, one after another: how one is broken, and what is read of them so far. Assumes nothing.
use Rattle.std.proofs.Common.{◌≡◌, ℕ, ◌-◌, ◌<◌, ◌≤◌, List, ◌∷◌, length, Result, Ok, Err, MatchResult, ap, ◌∙◌, subst₂, arith}
use Rattle.std.specs.List.{AllByRecursion}
use Rattle.refusal.specs.declared.Layer.TheVariants.{Job}
use Rattle.refusal.specs.declared.Refusal.{Refusal}
use Rattle.trace.specs.declared.trace.Trace.{Trace}
use Rattle.cuts.specs.declared.channel.Channel.{Channel}
use Rattle.cuts.specs.declared.fault.JobFault.{JobFault}
use Rattle.cuts.specs.declared.job.TraceJob.{TraceJob}
use Rattle.cuts.specs.Jobs.{processes, listed, Listed, BadChannel, full, no_sender, no_receiver, itself}
use Rattle.wire.specs.declared.reader.Reader.{Reader}
use Rattle.refusal.specs.declared.Rule.TheVariants as rule
use Rattle.refusal.specs.Table.{row}
use Rattle.wire.specs.Parts.{here, after, Each, next}
use Rattle.jobfile.specs.Forms.{channel_bytes, ChannelOk}
use Rattle.jobfile.specs.Table.{Byte, byte_of, IsReceiver, ChannelBroken}
use Rattle.jobfile.specs.Fields.{ChannelRead, ChannelsRead}
use Rattle.jobfile.proofs.Taking.{missing_as, range_at}

-- a receiver that is refused beside a sender that is not is none
bad_receiver : (n : ℕ) (cs : List Channel) (sender receiver : ℕ) {e : JobFault} → length cs < 8 → sender < n → BadChannel n cs sender receiver e → IsReceiver n sender receiver → ⊥
bad_receiver n cs sender receiver room sends (full many) good = omega arith
bad_receiver n cs sender receiver room sends (no_sender less above) good = omega arith
bad_receiver n cs sender receiver room sends (no_receiver less below above) good = omega arith
bad_receiver n cs sender receiver room sends (itself less below same) good = good.1 same

-- a channel is broken in its sender, or behind a good one in its receiver
module _ (n total : ℕ) (s : List ℕ) where
  pub bad_sender_at : (p sender : ℕ) (t : List ℕ) → p ≡ total - length s → sender < 256 → s ≡ sender ∷ t → n ≤ sender → ChannelBroken n total s (row rule.Field p Job)
  bad_sender_at p sender t at fits is above = here (range_at 1 Byte byte_of (λ v. v < n) total s p sender t at fits is (λ below. omega arith))

  module _ (sender : ℕ) (t : List ℕ) (fits : sender < 256) (is : s ≡ sender ∷ t) (sends : sender < n) where
    pub no_receiver_byte : {r : Refusal} (all : ℕ) → all ≡ total → length t < 1 → r ≡ row rule.Missing all Job → ChannelBroken n total s r
    no_receiver_byte all same short at = after sender t (fits, sends) is (missing_as _ _ _ _ _ _ (short, at ∙ ap (λ k. row rule.Missing k Job) same))

    pub bad_receiver_at : (p receiver : ℕ) (u : List ℕ) (cs : List Channel) {e : JobFault} (all : ℕ) → all ≡ total →
        p ≡ all - length t → receiver < 256 → t ≡ receiver ∷ u → length cs < 8 → BadChannel n cs sender receiver e → ChannelBroken n total s (row rule.Field p Job)
    bad_receiver_at p receiver u cs all same at small stands room bad =
        after sender t (fits, sends) is
        (range_at 1 Byte byte_of (IsReceiver n sender) total t p receiver u (omega arith) small stands (bad_receiver n cs sender receiver room sends bad))

-- its sender and receiver were read, and the job took it, or refused it for its receiver
pub channel_added : (before mid left : Reader) (j k : TraceJob) (r : Result (Unit {0}) JobFault) (sender receiver place : ℕ) →
    sender < 256 → before.rest.now ≡ sender ∷ mid.rest.now → mid.total ≡ before.total → sender < processes j →
    receiver < 256 → mid.rest.now ≡ receiver ∷ left.rest.now → left.total ≡ mid.total → place ≡ mid.total - length mid.rest.now →
    length (listed j) < 8 → Listed sender receiver j r k →
    MatchResult r (λ _. ChannelRead before left j k) (λ _. ChannelBroken (processes j) before.total before.rest.now (row rule.Field place Job))
channel_added before mid left j k (Ok u) sender receiver place fits is total sends small stands whole at room good = record {
  channel = record { sender = sender; receiver = receiver };
  ok = (good.0.sends, good.0.receives, good.0.apart);
  took = record { is = is ∙ ap (◌∷◌ sender) stands; total = whole ∙ total };
  list = good.1;
  same = record { trace = good.2; wish = good.3; watch = good.4 };
}
channel_added before mid left j k (Err e) sender receiver place fits is total sends small stands whole at room bad =
    bad_receiver_at (processes j) before.total before.rest.now sender mid.rest.now fits is sends place receiver left.rest.now (listed j) mid.total total at small stands room bad.0

module _ {count : ℕ} {before mid : Reader} {j k : TraceJob} (read : ChannelsRead count before mid j k) where
  counted : processes k ≡ processes j
  counted = ap (λ (t : Trace). t.n) read.same.trace

  -- the next channel is broken
  pub channels_fail : (all : ℕ) {r : Refusal} → count < all → ChannelBroken (processes k) mid.total mid.rest.now r →
      Each all (AllByRecursion (ChannelOk (processes j))) channel_bytes (λ _. ChannelBroken (processes j) before.total) before.rest.now r
  channels_fail all {r} less broken =
      next (listed k) mid.rest.now (omega (arith, read.many)) read.ok read.took.is
      (subst₂ (λ n total. ChannelBroken n total mid.rest.now r) counted read.took.total broken)
