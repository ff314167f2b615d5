-- The body of a trace job, part by part: what was read, and what is broken behind it. Assumes nothing.
use Rattle.std.proofs.Common.{◌≡◌, ℕ, ◌^◌, ◌<◌, ◌≤◌, List, [], ◌∷◌, ◌++◌, length, Ok, Err, vec_items, Result, sym, refl, ap, ◌∙◌, subst, subst₂, append_assoc, arith, MatchResult}
use Rattle.std.specs.List.{flat_map, AllByRecursion}
use Rattle.refusal.specs.declared.Refusal.{Refusal}
use Rattle.payload.specs.declared.wish.Wish.{Wish}
use Rattle.payload.specs.Marks.{width_of}
use Rattle.trace.specs.Growth.{events}
use Rattle.cuts.specs.declared.channel.Channel.{Channel}
use Rattle.cuts.specs.declared.fault.JobFault.{JobFault}
use Rattle.cuts.specs.declared.job.TraceJob.{TraceJob}
use Rattle.cuts.specs.Jobs.{processes, happened, listed, BadStart, too_many, no_bit, Begun}
use Rattle.wire.specs.declared.reader.Reader.{Reader}
use Rattle.wire.specs.Bytes.{word2}
use Rattle.wire.specs.Parts.{Then, after, Each}
use Rattle.jobfile.specs.declared.fault.JobFault.{JobFault as Fault}
use Rattle.jobfile.specs.Forms.{kind_letter, wish_bytes, channel_bytes, event_bytes, trace_bytes, ChannelOk, EventsOk, TraceRules}
use Rattle.jobfile.specs.Table.{WishOf, ChannelBroken, EventBroken, TraceBroken}
use Rattle.jobfile.specs.Fields.{job_row, ChannelsRead, EventsRead, TraceRead}

-- a job that is begun anew, with so many processes and no bit beyond them
pub record Anew (n watch : ℕ) (wish : Wish) (k : TraceJob) : Type 0 where
  pub count : processes k ≡ n
  pub watches : k.watch ≡ watch
  pub wishes : k.wish ≡ wish
  pub channels : listed k ≡ []
  pub events : happened k ≡ []

no_bad_start : {n watch : ℕ} {e : JobFault} → n ≤ 16 → watch < 2 ^ n → BadStart n watch e → ⊥
no_bad_start few bits (too_many more) = omega arith
no_bad_start few bits (no_bit _ beyond) = omega arith

pub anew : (n watch : ℕ) (wish : Wish) (j k : TraceJob) (r : Result (Unit {0}) JobFault) → n ≤ 16 → watch < 2 ^ n → Begun n watch wish j r k → Anew n watch wish k
anew n watch wish j k (Ok _) few bits b = record { count = b.2; watches = b.3; wishes = b.4; channels = b.5; events = b.6 }
anew n watch wish j k (Err e) few bits b = absurd (no_bad_start few bits b.0)

-- these bytes were read from `before` on, and where the rest is broken the body is
pub record SoFar (n : ℕ) (before left : Reader) (front : List ℕ) (Rest : ℕ → List ℕ → Refusal → Type 0) : Type 0 where
  pub is : before.rest.now ≡ front ++ left.rest.now
  pub total : left.total ≡ before.total
  pub breaks : (r : Refusal) → Rest left.total left.rest.now r → TraceBroken n before.total before.rest.now r

pub none_yet : (n : ℕ) (before : Reader) → SoFar n before before [] (TraceBroken n)
none_yet n before = record { is = refl; total = refl; breaks = λ r b. b }

-- how far a body was read, and what is to follow
pub record Progress (n : ℕ) (before : Reader) : Type 1 where
  pub left : Reader
  pub front : List ℕ
  pub Rest : ℕ → List ℕ → Refusal → Type 0
  pub so : SoFar n before left front Rest

-- the bytes of a good value stand where `left` begins, and `end` is what follows them
abbrev pub Stood : {A : Type 0} → (A → Type 0) → (A → List ℕ) → A → Reader → Reader → Type 0
Stood Good bytes a left end = Good a × (left.rest.now ≡ bytes a ++ end.rest.now) × (end.total ≡ left.total)

-- a part was read too
pub one_more : {A : Type 0} {Good : A → Type 0} {bytes : A → List ℕ} {Broken : ℕ → List ℕ → Refusal → Type 0} {After : ℕ → A → List ℕ → Refusal → Type 0}
    {n : ℕ} {before left : Reader} {front : List ℕ} → SoFar n before left front (λ total. Then Good bytes (Broken total) (After total)) → (end : Reader) (a : A) →
    Stood Good bytes a left end → SoFar n before end (front ++ bytes a) (λ total. After total a)
one_more {bytes = bytes} {After = After} {left = left} {front = front} so end a read = record {
  is = so.is ∙ ap (λ z. front ++ z) read.1 ∙ sym (append_assoc front (bytes a) end.rest.now);
  total = read.2 ∙ so.total;
  breaks = λ r b. so.breaks r (after a end.rest.now read.0 read.1 (subst (λ t. After t a end.rest.now r) read.2 b));
}

-- the channels of a job that is begun anew
module _ {n watch count : ℕ} {wish : Wish} {j k : TraceJob} {left end : Reader} (new : Anew n watch wish j) (read : ChannelsRead count left end j k) where
  pub channels_stand : Stood (λ xs. (length xs ≡ count) × AllByRecursion (ChannelOk n) xs) (flat_map channel_bytes) (listed k) left end
  channels_stand = ((read.many, subst (λ m. AllByRecursion (ChannelOk m) (listed k)) new.count read.ok), read.took.is, read.took.total)

  -- nothing else is changed by them
  pub still_none : happened k ≡ []
  still_none = ap events read.same.trace ∙ new.events

  still_count : processes k ≡ n
  still_count = ap (λ t. t.n) read.same.trace ∙ new.count

  still_wish : k.wish ≡ wish
  still_wish = read.same.wish ∙ new.wishes

  still_watch : k.watch ≡ watch
  still_watch = read.same.watch ∙ new.watches

-- a broken one among them
pub channels_break : {n watch : ℕ} {wish : Wish} {j : TraceJob} → Anew n watch wish j → (count total : ℕ) (s : List ℕ) (r : Refusal) →
    Each count (AllByRecursion (ChannelOk (processes j))) channel_bytes (λ _. ChannelBroken (processes j) total) s r → Each count (AllByRecursion (ChannelOk n)) channel_bytes (λ _. ChannelBroken n total) s r
channels_break new count total s r b = subst (λ m. Each count (AllByRecursion (ChannelOk m)) channel_bytes (λ _. ChannelBroken m total) s r) new.count b

-- seven parts in a row, grouped from the left and from the right
regroup : (a b c d e f g t : List ℕ) → (((((a ++ b) ++ c) ++ d) ++ e) ++ f) ++ (g ++ t) ≡ (a ++ (b ++ (c ++ (d ++ (e ++ (f ++ g)))))) ++ t
regroup a b c d e f g t = simp append_assoc

-- a broken one among the events
abbrev EventsBroken : ℕ → Wish → ℕ → ℕ → List ℕ → Refusal → Type 0
EventsBroken n wish many total = Each many (EventsOk n (width_of wish)) (event_bytes (width_of wish)) (EventBroken n (width_of wish) total)

-- the bytes before the events
abbrev front_of : ℕ → ℕ → Wish → ℕ → List Channel → ℕ → List ℕ
front_of letter watch wish count channels many = (((((letter ∷ []) ++ word2 watch) ++ wish_bytes wish) ++ count ∷ []) ++ flat_map channel_bytes channels) ++ word2 many

-- all was read but the events
module _ {n watch count : ℕ} {wish : Wish} {start middle before left : Reader} {j k : TraceJob} (letter many : ℕ) (new : Anew n watch wish j) (channels : ChannelsRead count start middle j k)
    (bits : watch < 2 ^ n) (wished : WishOf letter wish) (few : count ≤ 8) (so : SoFar n before left (front_of letter watch wish count (listed k) many) (λ total. EventsBroken n wish many total)) where
  same_count : processes k ≡ n
  same_count = still_count new channels

  same_wish : k.wish ≡ wish
  same_wish = still_wish new channels

  -- and these are broken
  events_break : (r : Refusal) → EventsBroken (processes k) k.wish many left.total left.rest.now r → TraceBroken n before.total before.rest.now r
  events_break r b = so.breaks r (subst₂ (λ m w. EventsBroken m w many left.total left.rest.now r) same_count same_wish b)

  -- and then these too
  module _ (end : Reader) (l : TraceJob) (read : EventsRead many left end k l) where
    rules : TraceRules n watch wish (listed k) (happened l)
    rules = record {
      bits = bits;
      wished = wished.1;
      few = omega (arith, channels.many);
      between = (channels_stand new channels).0.1;
      happened = subst₂ (λ m w. EventsOk m (width_of w) (happened l)) same_count same_wish read.ok;
    }

    bytes : before.rest.now ≡ trace_bytes watch wish (listed k) (happened l) ++ end.rest.now
    bytes =
        so.is
        ∙ (λ i. front_of (sym wished.0 i) watch wish (sym channels.many i) (listed k) (sym read.many i) ++ read.took.is i)
        ∙ (λ i. front_of (kind_letter wish) watch wish (length (listed k)) (listed k) (length (happened l)) ++ (flat_map (event_bytes (width_of (same_wish i))) (happened l) ++ end.rest.now))
        ∙ regroup (kind_letter wish ∷ []) (word2 watch) (wish_bytes wish) (length (listed k) ∷ []) (flat_map channel_bytes (listed k)) (word2 (length (happened l)))
        (flat_map (event_bytes (width_of wish)) (happened l)) end.rest.now

    watch_is : l.watch ≡ watch
    watch_is = read.same.watch ∙ still_watch new channels

    wish_is : l.wish ≡ wish
    wish_is = read.same.wish ∙ same_wish

    list_is : listed l ≡ listed k
    list_is = ap vec_items read.same.channels

    trace_read : TraceRead n before end l
    trace_read = record {
      count = read.same.processes ∙ same_count;
      rules =
          subst₂ (λ b w. TraceRules n b w (listed l) (happened l)) (sym watch_is) (sym wish_is) (subst (λ cs. TraceRules n watch wish cs (happened l)) (sym list_is) rules);
      took = record {
        is = bytes ∙ (λ i. trace_bytes (sym watch_is i) (sym wish_is i) (sym list_is i) (happened l) ++ end.rest.now);
        total = read.took.total ∙ so.total;
      };
    }

  pub body_ends : (end : Reader) (l : TraceJob) (r : Result (Unit {0}) Fault) →
      MatchResult r (λ _. EventsRead many left end k l) (λ e. EventsBroken (processes k) k.wish many left.total left.rest.now (job_row e)) →
      MatchResult r (λ _. TraceRead n before end l) (λ e. TraceBroken n before.total before.rest.now (job_row e))
  body_ends end l (Ok _) read = trace_read end l read
  body_ends end l (Err e) b = events_break (job_row e) b
