-- Placings that agree on every van have the same reply, and without vans every placing is settled. Assumes nothing.
use Rattle.std.specs.Prelude.{◌≡◌, ℕ, ◌<◌}
use Rattle.std.proofs.Common.{sym, subst, arith}
use Rattle.lattice.specs.declared.condition.Reply.{Reply}
use Rattle.gates.specs.Stable.{Sides}
use Rattle.gates.specs.Rivals.{Contested, Free, Settled, Says, never, lift, holds}
use Rattle.gates.specs.Reply.{reply_to}
use Rattle.gates.specs.Rivalry.{Further, contested_further, free_before}
use Rattle.gates.specs.Replies.{says, says_is}

module _ (s : Sides) (h h' : ℕ → ℕ) (agree : (i : ℕ) → i < s.n → h i ≡ h' i) where
  up : Further s h h'
  up j l = omega (arith, agree j l)

  down : Further s h' h
  down j l = omega (arith, agree j l)

  free_same : (i : ℕ) → i < s.n → Free s h i (h i) → Free s h' i (h' i)
  free_same i l f = subst (Free s h' i) (agree i l) (free_before down f)

  says_same : (r : Reply) → Says s h r → Says s h' r
  says_same _ (never i l le) = never i l (omega (arith, agree i l))
  says_same _ (lift placed i q l quiet here nx) =
      let e = agree i l in
      lift (λ k lk. omega (arith, placed k lk, agree k lk)) i q l (λ k lk. free_same k (omega arith) (quiet k lk))
      (subst (Contested s h' i) e (contested_further up here)) (record {
        later = omega (arith, nx.later);
        within = nx.within;
        passed = λ p lo hi. contested_further up (nx.passed p (omega arith) hi);
        free = λ lq. free_before down (nx.free lq);
      })
  says_same _ (holds st) = holds (record { placed = λ k l. omega (arith, st.placed k l, agree k l); quiet = λ k l. free_same k l (st.quiet k l) })

  pub reply_same : reply_to s h ≡ reply_to s h'
  reply_same = sym (says_is s h' (reply_to s h) (says_same (reply_to s h) (says s h)))

pub settled_blank : (s : Sides) (h : ℕ → ℕ) → s.n ≡ 0 → Settled s h
settled_blank s h e = record { placed = λ i l. absurd (omega arith); quiet = λ i l. absurd (omega arith) }
