-- Two jobs with the same trace, wish, watch bits and channels are the same. Assumes nothing.
use Rattle.std.proofs.Common.{◌≡◌, ℕ, ◌^◌, ◌<◌, ◌≤◌, length, vec_items, vec_capacity, Vec}
use mathlib.Core.HLevel.{is_prop→PathP}
use denote.Struct.Props.{props}
use Rattle.std.specs.declared.alloc.Global.{Global}
use Rattle.trace.specs.declared.trace.Trace.{Trace}
use Rattle.cuts.specs.declared.channel.Channel.{Channel}
use Rattle.cuts.specs.declared.job.TraceJob.{TraceJob}
use Rattle.cuts.specs.Channels.{channel}

record Facts (t : Trace) (watch : ℕ) (cs : Vec Channel Global) : Type 0 where
  room : 8 ≤ vec_capacity cs
  listed : length (vec_items cs) ≤ 8
  watched : watch < 2 ^ t.n
  senders : (k : ℕ) → k < length (vec_items cs) → (channel (vec_items cs) k).sender < t.n
  receivers : (k : ℕ) → k < length (vec_items cs) → (channel (vec_items cs) k).receiver < t.n
  apart : (k : ℕ) → k < length (vec_items cs) → (channel (vec_items cs) k).receiver ≡ (channel (vec_items cs) k).sender → ⊥

facts_once : (t : Trace) (watch : ℕ) (cs : Vec Channel Global) → IsProp (Facts t watch cs)
facts_once t watch cs x y =
    λ i. record {
      room = (let p : IsProp (8 ≤ vec_capacity cs) = hlevel props in p) x.room y.room i;
      listed = (let p : IsProp (length (vec_items cs) ≤ 8) = hlevel props in p) x.listed y.listed i;
      watched = (let p : IsProp (watch < 2 ^ t.n) = hlevel props in p) x.watched y.watched i;
      senders = (let p : IsProp ((k : ℕ) → k < length (vec_items cs) → (channel (vec_items cs) k).sender < t.n) = hlevel props in p) x.senders y.senders i;
      receivers = (let p : IsProp ((k : ℕ) → k < length (vec_items cs) → (channel (vec_items cs) k).receiver < t.n) = hlevel props in p) x.receivers y.receivers i;
      apart = (let p : IsProp ((k : ℕ) → k < length (vec_items cs) → (channel (vec_items cs) k).receiver ≡ (channel (vec_items cs) k).sender → ⊥) = hlevel props in p) x.apart y.apart i;
    }

abbrev facts : (j : TraceJob) → Facts j.trace j.watch j.channels
facts j = record { room = j.room; listed = j.listed; watched = j.watched; senders = j.senders; receivers = j.receivers; apart = j.apart }

pub same_job : (k j : TraceJob) → k.trace ≡ j.trace → k.wish ≡ j.wish → k.watch ≡ j.watch → k.channels ≡ j.channels → k ≡ j
same_job k j t w b c =
    λ i.
    let f : Facts (t i) (b i) (c i) =
    is_prop→PathP (λ i. Facts (t i) (b i) (c i)) (λ i. facts_once (t i) (b i) (c i)) (facts k) (facts j) i in
    record {
      trace = t i;
      wish = w i;
      watch = b i;
      channels = c i;
      room = f.room;
      listed = f.listed;
      watched = f.watched;
      senders = f.senders;
      receivers = f.receivers;
      apart = f.apart;
    }
