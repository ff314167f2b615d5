-- The sample job is well formed, and its file is the one that is listed. Assumes nothing.
use Rattle.std.proofs.Common.{◌≡◌, ℕ, zero, suc, ◌<◌, true, ltb, List, [], ◌∷◌, get_or, sym, refl, ap, ◌∙◌, arith, lit<, lit≤}
use Rattle.std.specs.List.{AllByRecursion, list_all}
use Rattle.std.proofs.lemmas.Bool.{ltb-true, and_parts}
use Rattle.trace.specs.declared.event.Action.TheVariants.{Send, Receive}
use Rattle.trace.specs.Events.{by, does, Sending, Receiving}
use Rattle.trace.specs.Rules.{Valid}
use Rattle.jobfile.specs.Forms.{encoded, EventOk}
use Rattle.samples.specs.Sample.{happened, sample, Sample}

-- what holds at four places holds below 4
below_four : (P : ℕ → Type 0) → P 0 → P 1 → P 2 → P 3 → (k : ℕ) → k < 4 → P k
below_four P a b c d zero h = a
below_four P a b c d (suc zero) h = b
below_four P a b c d (suc (suc zero)) h = c
below_four P a b c d (suc (suc (suc zero))) h = d
below_four P a b c d (suc (suc (suc (suc k)))) h = absurd (omega arith)

-- the one send, and the one receive
the_send : (s : Sending happened) → (s.at ≡ 0) × (s.to ≡ 1) × (s.message ≡ 7)
the_send s =
    let to = s.to in
    let m = s.message in
    below_four (λ k. does happened k ≡ Send to m → (k ≡ 0) × (to ≡ 1) × (m ≡ 7))
    (λ e. (refl, cc, cc))
    (λ e. cc)
    (λ e. cc)
    (λ e. cc)
    s.at s.within s.is

the_receive : (r : Receiving happened) → (r.at ≡ 2) × (r.message ≡ 7)
the_receive r =
    let m = r.message in
    below_four (λ k. does happened k ≡ Receive m → (k ≡ 2) × (m ≡ 7))
    (λ e. cc)
    (λ e. cc)
    (λ e. (refl, cc))
    (λ e. cc)
    r.at r.within r.is

valid : Valid 2 happened
valid = record {
  few = lit≤ tt;
  process = below_four (λ k. by happened k < 2) (lit< tt) (lit< tt) (lit< tt) (lit< tt);
  receiver = λ s. omega (arith, (the_send s).1);
  other = λ s e. omega (arith, (the_send s).1, ap (by happened) (the_send s).0);
  sent_once = λ s t e. (the_send s).0 ∙ sym (the_send t).0;
  received_once = λ r q e. (the_receive r).0 ∙ sym (the_receive q).0;
  sent_first = λ r. record {
    sending = record { at = 0; within = lit< tt; to = 1; message = 7; is = refl };
    same = sym (the_receive r).1;
    earlier = omega (arith, (the_receive r).0);
    named = sym (ap (by happened) (the_receive r).0);
  };
}

-- each event keeps its own rules
own : AllByRecursion (EventOk 2 1) happened
own = (
  ((lit< tt, lit< tt, λ e. omega arith, lit< tt, refl), refl),
  (
    ((lit< tt, refl), refl),
    (
      ((lit< tt, lit< tt, refl), refl),
      (((lit< tt, refl), refl), tt),
    ),
  ),
)

-- a list of bytes, by a test of each
small_at : (s : List ℕ) → list_all (λ x. ltb x 256) s ≡ true → (k : ℕ) → get_or s k 0 < 256
small_at [] e k = lit< tt
small_at (x ∷ s) e zero = ltb-true x 256 (and_parts (ltb x 256) _ e).0
small_at (x ∷ s) e (suc k) = small_at s (and_parts (ltb x 256) _ e).1 k

pub sample_stands : Sample
sample_stands = record {
  good = record {
    some = lit≤ tt;
    few = lit≤ tt;
    rules = record {
      bits = lit< tt;
      wished = lit< tt;
      few = lit≤ tt;
      between = ((lit< tt, lit< tt, λ e. omega arith), tt);
      happened = (valid, own);
    };
    short = lit≤ tt;
    bytes = small_at (encoded sample) refl;
  };
  file = refl;
}
