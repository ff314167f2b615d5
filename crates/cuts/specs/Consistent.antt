-- Consistent cuts (Mattern; Chase and Garg): all that happened before an event of the cut is in it. Assumes nothing.
use Rattle.std.specs.Prelude.{ℕ, zero, suc, ◌<◌, ◌≤◌, max, Bool, cond, List, length, ◌==◌, nat_lt}
use Rattle.lattice.specs.First.{first}
use Rattle.lattice.specs.declared.condition.Reply.{Reply}
use Rattle.lattice.specs.declared.condition.Reply.TheVariants.{Holds, Lift, Never}
use Rattle.trace.specs.declared.event.Event.{Event}
use Rattle.trace.specs.Events.{by, total, number}
use Rattle.trace.specs.Before.{Before}
use Rattle.trace.specs.Clocks.{entry}
use Rattle.cuts.specs.Cuts.{Within, beyond, InCut, Last}

-- for each event in the cut, all that happened before it is in the cut
pub record Consistent (n : ℕ) (es : List Event) (h : ℕ → ℕ) : Type 0 where
  pub within : Within n es h
  pub closed : (a b : ℕ) → Before es a b → InCut es h b → InCut es h a

-- place i is not below the entry for it in the clock of any process's last event in the cut
abbrev pub Enough : List Event → (ℕ → ℕ) → ℕ → Type 0
Enough es h i = (e : ℕ) → Last es h e → entry es e i ≤ h i

-- the reply in words: "never" beyond the events; else the lowest place that is below such an entry is lifted to the greatest one
pub data ConsistentSays (n : ℕ) (es : List Event) (h : ℕ → ℕ) : Reply → Type 0 where
  past : (i : ℕ) → i < n → total es i < h i → ConsistentSays n es h Never
  enough : Within n es h → ((i : ℕ) → i < n → Enough es h i) → ConsistentSays n es h Holds
  behind : Within n es h → (i e : ℕ) → i < n → ((k : ℕ) → k < i → Enough es h k) → Last es h e → h i < entry es e i → ((f : ℕ) → Last es h f → entry es f i ≤ entry es e i)
      → ConsistentSays n es h (Lift (i, entry es e i))

-- the greatest entry for process j in the clocks of those of the first k events that are their process's last event in the cut
abbrev pub greatest : List Event → (ℕ → ℕ) → ℕ → ℕ → ℕ
greatest es h j zero = 0
greatest es h j (suc k) = cond (number es k == h (by es k)) (max (greatest es h j k) (entry es k j)) (greatest es h j k)

abbrev pub wanting : List Event → (ℕ → ℕ) → ℕ → Bool
wanting es h j = nat_lt (h j) (greatest es h j (length es))

-- the reply, computed
abbrev pub consistent_reply : ℕ → List Event → (ℕ → ℕ) → Reply
consistent_reply n es h =
    let i = first (wanting es h) 0 n in
    cond (beyond n es h) Never (cond (nat_lt i n) (Lift (i, greatest es h i (length es))) Holds)
