-- Events in file order. Assumes nothing.
use Rattle.std.specs.Prelude.{◌≡◌, ℕ, zero, suc, ◌+◌, ◌<◌, Bool, false, cond, ◌&&◌, List, length, replicate, ◌==◌, slice_index_or, refl}
use Rattle.lattice.specs.First.{first}
use Rattle.trace.specs.declared.event.Event.{Event}
use Rattle.trace.specs.declared.event.Action.{Action}
use Rattle.trace.specs.declared.event.Action.TheVariants.{Local, Send, Receive}

-- how many processes there can be, and how many events
abbrev pub most : ℕ
most = 16

abbrev pub longest : ℕ
longest = 1024

-- the event at place e of the file order, counted from 0
abbrev pub event : List Event → ℕ → Event
event es e = slice_index_or es e (record { process = 0; action = Local; payload = replicate 4 0; four = refl })

-- the process that it is of
abbrev pub by : List Event → ℕ → ℕ
by es e = (event es e).process

abbrev pub does : List Event → ℕ → Action
does es e = (event es e).action

-- how many of the first k events are of process i
abbrev pub count : List Event → ℕ → ℕ → ℕ
count es i zero = 0
count es i (suc k) = count es i k + cond (by es k == i) 1 0

-- how many events process i has
abbrev pub total : List Event → ℕ → ℕ
total es i = count es i (length es)

-- the number of event e in its process, counted from 1
abbrev pub number : List Event → ℕ → ℕ
number es e = count es (by es e) (suc e)

-- the place in file order of the h-th event of process i, the number of events if there is none
abbrev pub nth : List Event → ℕ → ℕ → ℕ
nth es i h = first (λ e. (by es e == i) && number es e == h) 0 (length es)

-- an event that sends a message
pub record Sending (es : List Event) : Type 0 where
  pub at : ℕ
  pub within : at < length es
  pub to : ℕ
  pub message : ℕ
  pub is : does es at ≡ Send to message

-- an event that receives a message
pub record Receiving (es : List Event) : Type 0 where
  pub at : ℕ
  pub within : at < length es
  pub message : ℕ
  pub is : does es at ≡ Receive message

-- whether an action sends message m
abbrev pub sends : ℕ → Action → Bool
sends m Local = false
sends m (Send to k) = k == m
sends m (Receive k) = false

-- the place of the event that sends message m, the number of events if there is none
abbrev pub source : List Event → ℕ → ℕ
source es m = first (λ e. sends m (does es e)) 0 (length es)
