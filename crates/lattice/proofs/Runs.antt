-- Runs one after the other, and that a list of calls has one result. Assumes nothing.
use Rattle.std.proofs.Common.{◌≡◌, ℕ, ◌+◌, sym, refl, ◌∙◌, subst, add-zero, add_assoc, arith}
use Rattle.lattice.specs.declared.vector.Vector.{Vector}
use Rattle.lattice.specs.declared.condition.Reply.{Reply}
use Rattle.lattice.specs.declared.verdict.Verdict.{Verdict}
use Rattle.lattice.specs.Steps.{IsOpen, Climb, stay, lift, Ends, holds as held, never, above, spent, found, none, searched}
use Rattle.lattice.specs.Runs.{RunsAdd}
use Rattle.lattice.proofs.Verdicts.{open_not_found, open_not_none}

module _ (reply : Vector → Reply) where
  climb_on : {top v u w : Vector} {m k : ℕ} → Climb reply top v m u → Climb reply top u k w → Climb reply top v (m + k) w
  climb_on {top} {v} {u} {m = m} c stay = subst (λ n. Climb reply top v n u) (sym (add-zero m)) c
  climb_on {top} {v} {w = w} {m = m} c (lift {k = k} d r le s) = subst (λ n. Climb reply top v n w) (add_assoc m k 1) (lift (climb_on c d) r le s)

  -- more budget, more lifts before
  ends_on : (m : ℕ) {top w : Vector} {n k : ℕ} {v : Verdict} → Ends reply top n k w v → Ends reply top (m + n) (m + k) w v
  ends_on m (held r) = held r
  ends_on m (never r) = never r
  ends_on m (above r gt) = above r gt
  ends_on m (spent up e) = spent up (omega (arith, e))

  all_used : {top w : Vector} {n k : ℕ} {v : Verdict} → Ends reply top n k w v → IsOpen v → k ≡ n
  all_used (held r) e = absurd (open_not_found e refl)
  all_used (never r) e = absurd (open_not_none e refl)
  all_used (above r gt) e = absurd (open_not_none e refl)
  all_used (spent up s) e = s

pub runs_add : RunsAdd
runs_add reply m n j k b c d (found e) o s = absurd (open_not_found o e)
runs_add reply m n j k b c d (none e) o s = absurd (open_not_none o e)
runs_add reply m n j k b c d (searched e s) o (found f) = absurd (open_not_found o f)
runs_add reply m n j k b c d (searched e s) o (none f) = absurd (open_not_none o f)
runs_add reply m n j k b c d (searched e s) o (searched f t) =
    let used : j ≡ m = all_used reply s.ends o in
    searched e (record {
      climb = climb_on reply s.climb (subst (λ x. Climb reply x c.vector k d.vector) s.ceilings t.climb);
      afforded = omega (arith, s.afforded, t.afforded);
      ends = subst (λ x. Ends reply b.ceilings (m + n) (x + k) d.vector d.verdict) (sym used) (subst (λ x. Ends reply x (m + n) (m + k) d.vector d.verdict) s.ceilings (ends_on reply m t.ends));
      ceilings = t.ceilings ∙ s.ceilings;
      count = omega (arith, s.count, t.count);
    })
