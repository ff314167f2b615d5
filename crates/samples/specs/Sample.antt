-- A trace job of two processes, and its file. Assumes nothing.
use Rattle.std.specs.Prelude.{◌≡◌, ℕ, List, [], ◌∷◌, refl}
use Rattle.payload.specs.declared.wish.Wish.TheVariants.{Code}
use Rattle.trace.specs.declared.event.Event.{Event}
use Rattle.trace.specs.declared.event.Action.{Action}
use Rattle.trace.specs.declared.event.Action.TheVariants.{Local, Send, Receive}
use Rattle.jobfile.specs.Forms.{Form, trace, encoded, WellFormed}

-- an event with a code for its payload
abbrev coded : ℕ → Action → ℕ → Event
coded process action code = record { process = process; action = action; payload = code ∷ 0 ∷ 0 ∷ 0 ∷ []; four = refl }

-- 0 sends message 7 to 1, which has an event before it receives the message and one after
abbrev pub happened : List Event
happened = coded 0 (Send 1 7) 5 ∷ coded 1 Local 5 ∷ coded 1 (Receive 7) 2 ∷ coded 1 Local 5 ∷ []

-- both processes are watched, with wish 5, and the channel from 0 to 1 is to be empty
abbrev pub sample : Form
sample = trace 2 3 (Code 5) (record { sender = 0; receiver = 1 } ∷ []) happened

pub record Sample : Type 0 where
  pub good : WellFormed sample
  pub file : encoded sample ≡
      1 ∷ 0 ∷ 0 ∷ 0 ∷ 37 ∷ 84 ∷ 2
      ∷ 75 ∷ 0 ∷ 3 ∷ 5 ∷ 1 ∷ 0 ∷ 1 ∷ 0 ∷ 4
      ∷ 6 ∷ 0 ∷ 83 ∷ 1 ∷ 0 ∷ 7 ∷ 5
      ∷ 3 ∷ 1 ∷ 76 ∷ 5
      ∷ 5 ∷ 1 ∷ 82 ∷ 0 ∷ 7 ∷ 2
      ∷ 3 ∷ 1 ∷ 76 ∷ 5 ∷ []
