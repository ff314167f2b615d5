-- The tables after one event more. Assumes nothing.
use Rattle.std.proofs.Common.{◌≡◌, ℕ, ◌+◌, ◌-◌, ◌<◌, false, cond, true, false, Bool, List, [], ◌∷◌, ◌++◌, length, get_or, set, Option, sym, refl, ap, ◌∙◌, subst, ⊎_elim, arith}
use Rattle.std.specs.Global.{Vec}
use Rattle.std.proofs.lemmas.List.{length_push, map-set, get_or-map, get_or-set_same, get_or-set_other, get_or_append_left, get_or_push}
use Rattle.std.proofs.lemmas.Bool.{cases_eq, cond-true, cond-false, false_from_ne_true}
use Rattle.trace.specs.declared.event.Event.{Event}
use Rattle.trace.specs.declared.event.Action.{Action}
use Rattle.trace.specs.declared.event.Action.TheVariants.{Local, Send, Receive}
use Rattle.trace.specs.declared.trace.Ends.{Ends}
use Rattle.trace.specs.Events.{most, by, does, number, total, sends, Sending, Receiving}
use Rattle.trace.specs.Rules.{Valid}
use Rattle.trace.specs.Tables.{listed, Indexed, Finds, Tabled, receives, sent_at, received_at}
use Rattle.trace.specs.Growth.{Fits, Within, sent_by}
use Rattle.trace.proofs.Counts.{number_is, number_total}
use Rattle.trace.proofs.Appended.{more, old_by, last_by, old_does, last_does, number_old, number_last, total_here, total_other, where_is}
use Rattle.trace.proofs.Sources.{sends_is, receives_is}
use Rattle.trace.proofs.Grown.{answered, not_sent, not_received}

module _ (n : ℕ) (es : List Event) (ev : Event) where
  -- the list of places of each process, with the place of the event at the end of that of its own
  abbrev pub with_place : List (List ℕ) → List (List ℕ)
  with_place places = set places ev.process (get_or places ev.process [] ++ length es ∷ [])

  place_here : (places : List (List ℕ)) (i : ℕ) → length places ≡ most → ev.process < most → ev.process ≡ i →
      get_or (with_place places) i [] ≡ get_or places i [] ++ length es ∷ []
  place_here places i long own here =
      subst (λ (j : ℕ). get_or (with_place places) j [] ≡ get_or places j [] ++ length es ∷ []) here (get_or-set_same places ev.process _ [] (omega arith))

  place_other : (places : List (List ℕ)) (i : ℕ) → (ev.process ≡ i → ⊥) → get_or (with_place places) i [] ≡ get_or places i []
  place_other places i ne = get_or-set_other places ev.process i _ [] (λ e. ne (sym e))

  counted_more : (places : List (List ℕ)) → length places ≡ most → ev.process < most → ((i : ℕ) → i < most → length (get_or places i []) ≡ total es i) → (i : ℕ) → i < most →
      length (get_or (with_place places) i []) ≡ total (more es ev) i
  counted_more places long own each i h =
      ⊎_elim
      (λ here. ap length (place_here places i long own here) ∙ length_push (get_or places i []) (length es) ∙ ap (λ x. x + 1) (each i h) ∙ sym (total_here es ev i here))
      (λ ne. ap length (place_other places i ne) ∙ each i h ∙ sym (total_other es ev i ne))
      (cases_eq ev.process i)

  indexed_more : Valid n es → (places : List (List ℕ)) → length places ≡ most → ev.process < most → ((i : ℕ) → i < most → length (get_or places i []) ≡ total es i) →
      Indexed es places → Indexed (more es ev) (with_place places)
  indexed_more v places long own each indexed e h =
      ⊎_elim
      (λ lt.
      let i = by es e in
      ap (λ (j : ℕ). get_or (get_or (with_place places) j []) (number (more es ev) e - 1) 0) (old_by es ev e lt)
      ∙ ap (λ (k : ℕ). get_or (get_or (with_place places) i []) (k - 1) 0) (number_old es ev e lt)
      ∙ ⊎_elim
      (λ here.
      let counted = each i (subst (λ (j : ℕ). j < most) here own) in
      ap (λ xs. get_or xs (number es e - 1) 0) (place_here places i long own here)
      ∙ get_or_append_left (get_or places i []) (length es ∷ []) 0 (number es e - 1) (omega (arith, number_total es e lt, number_is es e i refl)))
      (λ ne. ap (λ xs. get_or xs (number es e - 1) 0) (place_other places i ne))
      (cases_eq ev.process i)
      ∙ indexed e lt)
      (λ last.
      let p = ev.process in
      ap (λ (j : ℕ). get_or (get_or (with_place places) j []) (number (more es ev) e - 1) 0) (last_by es ev e last)
      ∙ ap (λ xs. get_or xs (number (more es ev) e - 1) 0) (place_here places p long own refl)
      ∙ get_or_push (get_or places p []) (length es) 0 (number (more es ev) e - 1) (omega (arith, each p own, number_last es ev e last))
      ∙ sym last)
      (where_is es ev e h)

  -- an event that fits sends no message again, and receives none again
  sent_anew : Fits n es ev → (e m : ℕ) → e < length es → sends m (does es e) ≡ true → sends m ev.action ≡ false
  sent_anew fits e m h passes =
      let x = sends_is m (does es e) passes in
      let s : Sending es = record { at = e; within = h; to = x.to; message = m; is = x.is } in
      false_from_ne_true _ (λ again. let y = sends_is m ev.action again in not_sent n es ev fits y.to m y.is s refl)

  received_anew : Fits n es ev → (e m : ℕ) → e < length es → receives m (does es e) ≡ true → receives m ev.action ≡ false
  received_anew fits e m h passes =
      let r : Receiving es = record { at = e; within = h; message = m; is = receives_is m (does es e) passes } in
      false_from_ne_true _ (λ again. not_received n es ev fits m (receives_is m ev.action again) r refl)

  finds_more : (test : ℕ → Action → Bool) (table table' : List ℕ) → ((e m : ℕ) → e < length es → test m (does es e) ≡ true → test m ev.action ≡ false) → Finds test es table →
      ((m : ℕ) → get_or table' m 0 ≡ cond (test m ev.action) (length es) (get_or table m 0)) → Finds test (more es ev) table'
  finds_more test table table' anew known noted e m h passes =
      noted m
      ∙ ⊎_elim
      (λ lt. let was = sym (ap (test m) (old_does es ev e lt)) ∙ passes in cond-false _ _ _ (anew e m lt was) ∙ known e m lt was)
      (λ last. cond-true _ _ _ (sym (ap (test m) (last_does es ev e last)) ∙ passes) ∙ sym last)
      (where_is es ev e h)

  pub tabled_more : (places : List (List ℕ)) (messages messages' : List Ends) → length places ≡ most → ev.process < most → Valid n es → Fits n es ev → Tabled es places messages →
      ((m : ℕ) → get_or (sent_at messages') m 0 ≡ cond (sends m ev.action) (length es) (get_or (sent_at messages) m 0)) →
      ((m : ℕ) → get_or (received_at messages') m 0 ≡ cond (receives m ev.action) (length es) (get_or (received_at messages) m 0)) →
      Tabled (more es ev) (with_place places) messages'
  tabled_more places messages messages' long own v fits t sent received =
      record {
        counted = counted_more places long own t.counted;
        indexed = indexed_more v places long own t.counted t.indexed;
        sent = finds_more sends (sent_at messages) (sent_at messages') (sent_anew fits) t.sent sent;
        received = finds_more receives (received_at messages) (received_at messages') (received_anew fits) t.received received;
      }

  -- and so they are read off what a push leaves
  pub tabled_as : (places : List (List ℕ)) (messages messages' : List Ends) → length places ≡ most → ev.process < most → Valid n es → Fits n es ev → Tabled es places messages →
      (es' : List Event) (places' : List (List ℕ)) (e : ℕ) → e ≡ length es → es' ≡ more es ev → places' ≡ set places ev.process (get_or places ev.process [] ++ e ∷ []) →
      ((m : ℕ) → get_or (sent_at messages') m 0 ≡ cond (sends m ev.action) e (get_or (sent_at messages) m 0)) →
      ((m : ℕ) → get_or (received_at messages') m 0 ≡ cond (receives m ev.action) e (get_or (received_at messages) m 0)) →
      Tabled es' places' messages'
  tabled_as places messages messages' long own v fits t es' places' e at items here sent received =
      subst (λ x. Tabled x places' messages') (sym items)
      (subst (λ x. Tabled (more es ev) x messages') (sym (here ∙ ap (λ (x : ℕ). set places ev.process (get_or places ev.process [] ++ x ∷ [])) at))
      (tabled_more places messages messages' long own v fits t
      (λ m. sent m ∙ ap (λ (x : ℕ). cond (sends m ev.action) x (get_or (sent_at messages) m 0)) at)
      (λ m. received m ∙ ap (λ (x : ℕ). cond (receives m ev.action) x (get_or (received_at messages) m 0)) at)))

-- the lists of places, with one place more in one of them
pub listed_push : (places : List (Vec ℕ)) (p e : ℕ) (v w : Vec ℕ) → p < length places → w.items ≡ (get_or places p v).items ++ e ∷ [] →
    listed (set places p w) ≡ set (listed places) p (get_or (listed places) p [] ++ e ∷ [])
listed_push places p e v w h pushed =
    map-set (λ x. x.items) places p w
    ∙ ap (set (listed places) p) (pushed ∙ ap (λ xs. xs ++ e ∷ []) (sym (get_or-map (λ x. x.items) places p v [] h)))

sent_by_is : (n : ℕ) (es : List Event) (ev : Event) → Fits n es ev → (a : Action) → ev.action ≡ a → Within es (sent_by es a)
sent_by_is n es ev fits Local is = tt
sent_by_is n es ev fits (Send to m) is = tt
sent_by_is n es ev fits (Receive m) is = (answered n es ev fits m is).within

pub sent_within : (n : ℕ) (es : List Event) (ev : Event) → Fits n es ev → (o : Option ℕ) → o ≡ sent_by es ev.action → Within es o
sent_within n es ev fits o is = subst (Within es) (sym is) (sent_by_is n es ev fits ev.action refl)
