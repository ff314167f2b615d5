-- What is on one side of a channel, event by event. Assumes nothing.
use Rattle.std.proofs.Common.{◌≡◌, ℕ, ◌<◌, ◌≤◌, Bool, false, ◌&&◌, ◌==◌, eqb, ltb, List, length, refl, sym, ap, ◌∙◌, ⊎_elim, arith}
use lib.ListN.{get_or-eq_default}
use Rattle.std.proofs.lemmas.Bool.{cases_lt, le-ltb, lt-ltb, and_left}
use Rattle.trace.specs.declared.event.Event.{Event}
use Rattle.trace.specs.declared.event.Action.TheVariants.{Local}
use Rattle.trace.specs.Events.{by, does, total, nth, source, Sending}
use Rattle.trace.proofs.Sources.{sender}
use Rattle.cuts.specs.declared.channel.Side.{Side}
use Rattle.cuts.specs.declared.channel.Way.{Way}
use Rattle.cuts.specs.declared.channel.Way.TheVariants.{To, From}
use Rattle.cuts.specs.Sides.{asked, asks, sent_from}
use Rattle.cuts.specs.Cutting.{nth_there, nth_low, nth_high}

-- what nobody sent is from nobody
pub from_nobody : (es : List Event) (m p : ℕ) → ((s : Sending es) → s.message ≡ m → ⊥) → sent_from es m p ≡ false
from_nobody es m p none =
    and_left (ltb (source es m) (length es)) (eqb (by es (source es m)) p)
    (⊎_elim (λ (lt : source es m < length es). absurd (none (sender es m lt) refl)) (le-ltb (source es m) (length es)) (cases_lt (source es m) (length es)))

-- and what somebody sent is from its process
pub from_sender : (es : List Event) (m q e : ℕ) → e < length es → e ≡ source es m → sent_from es m q ≡ (by es e == q)
from_sender es m q e lt is = ap (λ (b : Bool). b && (by es (source es m) == q)) (lt-ltb (source es m) (length es) (omega arith)) ∙ ap (λ (x : ℕ). by es x == q) (sym is)

asked_local : (es : List Event) (w : Way) (p : ℕ) → asked es w p Local ≡ false
asked_local es To p = refl
asked_local es From p = refl

-- where there is no event with this number, nothing is on the side
pub asks_past : (es : List Event) (s : Side) (h : ℕ) → (1 ≤ h → h ≤ total es s.place → ⊥) → asks es s (does es (nth es s.place h)) ≡ false
asks_past es s h none =
    let out : length es ≤ nth es s.place h =
    ⊎_elim
    (λ (lt : nth es s.place h < length es). let y = nth_there es s.place h lt in absurd (none (nth_low es s.place h y) (nth_high es s.place h y)))
    (λ (ge : length es ≤ nth es s.place h). ge)
    (cases_lt (nth es s.place h) (length es)) in
    ap (λ (e : Event). asks es s e.action) (get_or-eq_default es _ out) ∙ asked_local es s.way s.other
