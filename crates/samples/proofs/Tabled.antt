-- The small files are refused with their rows. Assumes nothing.
use Rattle.std.proofs.Common.{◌≡◌, ℕ, ◌<◌, ◌≤◌, List, [], ◌∷◌, length, get_or, refl, ap, subst, inl, inr, ⊎_elim, arith, lit<, lit≤}
use Rattle.refusal.specs.declared.Refusal.{Refusal}
use Rattle.gates.specs.Orders.{OrderOf}
use Rattle.payload.specs.declared.wish.Wish.TheVariants.{Code}
use Rattle.trace.specs.declared.event.Event.{Event}
use Rattle.trace.specs.declared.event.Action.TheVariants.{Receive}
use Rattle.trace.specs.Growth.BreaksMessages.{unsent}
use Rattle.trace.proofs.Sources.{valid_none}
use Rattle.wire.specs.Parts.{broken, kept, here, after, next, FieldBroken}
use Rattle.wire.specs.Frames.{largest, IsLetter, headed, Framed, Behind}
use Rattle.wire.specs.Records.{Raw, local, send, receive, record_bytes, no_event}
use Rattle.jobfile.specs.Forms.{Form}
use Rattle.jobfile.specs.Table.{EventBroken, itself, message, TraceBroken, RowBroken, frame, trace, gates, behind}
use Rattle.samples.specs.Rows.{Rows}

-- a good frame, with one process or van
framed : {letter : ℕ} {file body : List ℕ} → IsLetter letter → length file ≤ largest → file ≡ headed (length file) letter 1 body → Framed file letter 1 body
framed lettered short is = record { short = short; is = is; lettered = lettered; some = lit≤ tt; few = lit≤ tt }

-- no bytes are no record
not_empty : (raw : Raw) → [] ≡ record_bytes raw → ⊥
not_empty (local p x) e = omega (arith, ap length e)
not_empty (send p to m x) e = omega (arith, ap length e)
not_empty (receive p m x) e = omega (arith, ap length e)

-- a trace of one process, without channels, whose one event is broken
one_event : {total : ℕ} {t : List ℕ} {r : Refusal} → EventBroken 1 1 total [] t r → TraceBroken 1 total (75 ∷ 0 ∷ 0 ∷ 0 ∷ 0 ∷ 0 ∷ 1 ∷ t) r
one_event {total} {t} x =
    after 75 _ (lit< tt, inl refl) refl
    (after 0 _ (lit< tt, lit< tt) refl
    (after (Code 0) _ ((refl, lit< tt), tt) refl
    (after 0 _ (lit< tt, lit≤ tt) refl
    (after [] _ (refl, tt) refl
    (after 1 t (lit< tt, lit≤ tt) refl
    (next [] t (lit< tt) (valid_none 1, tt) refl x))))))

-- the receive of message 7
abbrev received : Event
received = record { process = 0; action = Receive 7; payload = 0 ∷ 0 ∷ 0 ∷ 0 ∷ []; four = refl }

-- one number, which is 0, is an order
alone : OrderOf 1 (0 ∷ [])
alone = record {
  long = refl;
  whole = record {
    within = λ p h. subst (λ (k : ℕ). get_or (0 ∷ []) k 0 < 1) {x = 0} {y = p} (omega arith) (lit< tt);
    distinct = λ p q h k e. omega arith;
    every = λ x h. (0, lit< tt, omega arith);
  };
}

pub rows_stand : Rows
rows_stand = record {
  too_long = λ file h. frame (broken (λ le. omega arith));
  empty = frame (kept (lit≤ tt) (broken (λ le. omega arith)));
  version = frame (kept (lit≤ tt) (kept (lit≤ tt) (broken (λ e. omega arith))));
  false_length = frame (kept (lit≤ tt) (kept (lit≤ tt) (kept refl (broken (λ e. omega arith)))));
  letter_of_blank = frame (kept (lit≤ tt) (kept (lit≤ tt) (kept refl (kept refl (broken (⊎_elim (λ e. omega arith) (λ e. omega arith)))))));
  no_vans = frame (kept (lit≤ tt) (kept (lit≤ tt) (kept refl (kept refl (kept (inr refl) (broken (λ h. omega (arith, h.0))))))));
  no_kind = trace 1 [] (framed (inl refl) (lit≤ tt) refl) (here (FieldBroken.missing (lit< tt)));
  no_row = gates 1 [] (framed (inr refl) (lit≤ tt) refl) (here (next [] [] (lit< tt) tt refl (RowBroken.missing (lit< tt))));
  other_kind =
      trace 1 (65 ∷ []) (framed (inl refl) (lit≤ tt) refl)
      (here (FieldBroken.range 65 [] (lit< tt) refl (⊎_elim (λ e. omega arith) (λ e. omega arith))));
  no_event =
      trace 1 _ (framed (inl refl) (lit≤ tt) refl)
      (one_event (itself (no_event [] [] refl (λ raw _ e. not_empty raw e))));
  unsent =
      trace 1 _ (framed (inl refl) (lit≤ tt) refl)
      (one_event (message received [] refl ((lit< tt, lit< tt, refl), refl) (unsent (λ s _. omega (arith, s.within)))));
  no_order =
      gates 1 (1 ∷ []) (framed (inr refl) (lit≤ tt) refl)
      (here (next [] (1 ∷ []) (lit< tt) tt refl (RowBroken.no_order (1 ∷ []) [] refl refl (λ o. omega (arith, o.whole.within 0 (lit< tt))))));
  one_behind =
      behind (Form.gates 1 ((0 ∷ []) ∷ []) ((0 ∷ []) ∷ [])) (0 ∷ []) (framed (inr refl) (lit≤ tt) refl)
      ((refl, (alone, tt)), (refl, (alone, tt))) (Behind.behind (lit< tt));
}
