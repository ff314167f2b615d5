-- An event of a job file is read in one way behind those before it. Assumes nothing.
use Rattle.std.proofs.Common.{◌≡◌, ℕ, List, ◌++◌, length, take, sym, refl, ap, ◌∙◌, subst, arith}
use mathlib.Core.HLevel.{is_prop→PathP}
use denote.Struct.Props.{props}
use Rattle.refusal.specs.declared.Refusal.{Refusal}
use Rattle.trace.specs.declared.event.Event.{Event}
use Rattle.trace.specs.declared.event.Action.{Action}
use Rattle.trace.specs.declared.event.Action.TheVariants.{Local, Send, Receive}
use Rattle.trace.specs.Growth.{BreaksMessages, Fits}
use Rattle.cuts.specs.Jobs.{padded}
use Rattle.wire.proofs.OneWay.{OneWay}
use Rattle.wire.proofs.Recorded.{record_one_way}
use Rattle.jobfile.specs.Forms.{record_with, record_of, event_bytes, EventOk}
use Rattle.jobfile.specs.Table.{EventBroken, itself, message}

-- a list has its length in one way only
four_once : (payload : List ℕ) → IsProp (length payload ≡ 4)
four_once payload = hlevel props

pub same_event : (a b : Event) → a.process ≡ b.process → a.action ≡ b.action → a.payload ≡ b.payload → a ≡ b
same_event a b p x y =
    λ i. record {
      process = p i;
      action = x i;
      payload = y i;
      four = is_prop→PathP (λ i. length (y i) ≡ 4) (λ i. four_once (y i)) a.four b.four i;
    }

-- a record tells process, payload and action
pub record_parts : (p q : ℕ) (x y : List ℕ) (a b : Action) → record_with p x a ≡ record_with q y b → (p ≡ q) × (x ≡ y) × (a ≡ b)
record_parts p q x y Local Local e = (cc, cc, refl)
record_parts p q x y Local (Send to m) e = let z : ◌≡◌ {A = ℕ} 0 1 = cc in absurd (omega arith)
record_parts p q x y Local (Receive m) e = let z : ◌≡◌ {A = ℕ} 0 1 = cc in absurd (omega arith)
record_parts p q x y (Send to m) Local e = let z : ◌≡◌ {A = ℕ} 0 1 = cc in absurd (omega arith)
record_parts p q x y (Send to m) (Send for k) e = (cc, cc, cc)
record_parts p q x y (Send to m) (Receive k) e = let z : ◌≡◌ {A = ℕ} 0 1 = cc in absurd (omega arith)
record_parts p q x y (Receive m) Local e = let z : ◌≡◌ {A = ℕ} 0 1 = cc in absurd (omega arith)
record_parts p q x y (Receive m) (Send to k) e = let z : ◌≡◌ {A = ℕ} 0 1 = cc in absurd (omega arith)
record_parts p q x y (Receive m) (Receive k) e = (cc, cc, cc)

module _ (n width : ℕ) where
  -- two events with one record
  pub event_one : (a b : Event) → EventOk n width a → EventOk n width b → record_of width a ≡ record_of width b → a ≡ b
  event_one a b ga gb e =
      let (p, x, act) = record_parts a.process b.process (take width a.payload) (take width b.payload) a.action b.action e in
      same_event a b p act (ga.1 ∙ ap padded x ∙ sym gb.1)

  module _ (total : ℕ) (es : List Event) where
    -- the record of an event, and what follows it
    events_same : {s : List ℕ} (t u : List ℕ) (a b : Event) → EventOk n width a → s ≡ event_bytes width a ++ t → EventOk n width b → s ≡ event_bytes width b ++ u → (a ≡ b) × (t ≡ u)
    events_same t u a b ga ea gb eb =
        let (same, rest) = (record_one_way total n width).one_value ga.0 ea gb.0 eb in
        (event_one a b ga gb same, rest)

    event_not_both : {s : List ℕ} (t : List ℕ) (a : Event) {r : Refusal} → EventOk n width a → Fits n es a → s ≡ event_bytes width a ++ t → EventBroken n width total es s r → ⊥
    event_not_both t a ga fits ea (itself x) = (record_one_way total n width).not_both t ga.0 ea x
    event_not_both t a ga fits ea (message b u eb gb breaks) =
        fits.messages (subst (λ (e : Event). BreaksMessages es e.process e.action) (events_same u t b a gb eb ga ea).0 breaks)

    event_one_refusal : {s : List ℕ} {r q : Refusal} → EventBroken n width total es s r → EventBroken n width total es s q → r ≡ q
    event_one_refusal (itself x) (itself y) = (record_one_way total n width).one_refusal x y
    event_one_refusal (itself x) (message b u eb gb breaks) = absurd ((record_one_way total n width).not_both u gb.0 eb x)
    event_one_refusal (message b u eb gb breaks) (itself x) = absurd ((record_one_way total n width).not_both u gb.0 eb x)
    event_one_refusal (message b u eb gb breaks) (message a t ea ga more) = refl

    pub event_one_way : OneWay (λ e. EventOk n width e × Fits n es e) (event_bytes width) (EventBroken n width total es)
    event_one_way = record {
      one_value = λ {s} {t} {u} {a} {b} ga ea gb eb. events_same t u a b ga.0 ea gb.0 eb;
      not_both = λ t {a} ga ea x. event_not_both t a ga.0 ga.1 ea x;
      one_refusal = λ x y. event_one_refusal x y;
    }
