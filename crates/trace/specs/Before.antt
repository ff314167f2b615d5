-- Which event happened before which (Lamport). Assumes nothing.
use Rattle.std.specs.Prelude.{◌≡◌, ℕ, ◌<◌, ◌⊎◌, List, length}
use Rattle.trace.specs.declared.event.Event.{Event}
use Rattle.trace.specs.Events.{by, Sending, Receiving}

-- event a happened before event b: a is earlier in the same process, or sends the message that b receives, or through a chain of these
pub data Before (es : List Event) : ℕ → ℕ → Type 0 where
  earlier : (a b : ℕ) → a < b → b < length es → by es a ≡ by es b → Before es a b
  message : (s : Sending es) (r : Receiving es) → s.message ≡ r.message → Before es s.at r.at
  chain : (a b c : ℕ) → Before es a b → Before es b c → Before es a c

-- event a happened before event e or is it
abbrev pub Past : List Event → ℕ → ℕ → Type 0
Past es a e = Before es a e ⊎ (a ≡ e)
