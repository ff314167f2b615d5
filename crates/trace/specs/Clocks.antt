-- Vector clocks by Mattern's rule, event by event in file order, and what a clock is to say. Assumes nothing.
use Rattle.std.specs.Prelude.{◌≡◌, ℕ, zero, suc, ◌<◌, ◌≤◌, max, cond, List, [], ◌∷◌, ◌++◌, length, replicate, ◌==◌, slice_index, slice_index_or, slice_set}
use Rattle.trace.specs.declared.event.Event.{Event}
use Rattle.trace.specs.declared.event.Action.{Action}
use Rattle.trace.specs.declared.event.Action.TheVariants.{Local, Send, Receive}
use Rattle.trace.specs.Events.{most, by, does, number, total, source}
use Rattle.trace.specs.Before.{Past}

abbrev pub zeros : List ℕ
zeros = replicate most 0

-- entry by entry, the greater of the two
abbrev pub merged : List ℕ → List ℕ → List ℕ
merged [] ys = []
merged (x ∷ xs) [] = x ∷ xs
merged (x ∷ xs) (y ∷ ys) = max x y ∷ merged xs ys

-- of clocks cs in file order, that of the last of the first k events that is of process i; zeros if there is none
abbrev pub latest : List Event → List (List ℕ) → ℕ → ℕ → List ℕ
latest es cs i zero = zeros
latest es cs i (suc k) = cond (by es k == i) (slice_index_or cs k zeros) (latest es cs i k)

-- clock c once the action has taken in what it receives: the clock of the sending event
abbrev pub received : List Event → List (List ℕ) → Action → List ℕ → List ℕ
received es cs Local c = c
received es cs (Send to m) c = c
received es cs (Receive m) c = merged c (slice_index_or cs (source es m) zeros)

-- the clock of event e, from the clocks cs of the events before it: that of the event before it in its process,
-- merged with that of the sending event; then the own entry becomes the event's number in its process
abbrev pub next : List Event → List (List ℕ) → ℕ → List ℕ
next es cs e = slice_set (received es cs (does es e) (latest es cs (by es e) e)) (by es e) (number es e)

-- the clocks of the first k events
abbrev pub mattern : List Event → ℕ → List (List ℕ)
mattern es zero = []
mattern es (suc k) = mattern es k ++ next es (mattern es k) k ∷ []

-- the clock of event e, and the entry for process j in it
abbrev pub clock : List Event → ℕ → List ℕ
clock es e = slice_index_or (mattern es (length es)) e zeros

abbrev pub entry : List Event → ℕ → ℕ → ℕ
entry es e j = slice_index (clock es e) j

-- exactly the first c events of process j happened before event e or are it
pub record Knows (es : List Event) (e j c : ℕ) : Type 0 where
  pub there : c ≤ total es j
  pub first : (a : ℕ) → a < length es → by es a ≡ j → number es a ≤ c → Past es a e
  pub only : (a : ℕ) → a < length es → by es a ≡ j → Past es a e → number es a ≤ c
