-- The rules of a trace of n processes. Assumes nothing.
use Rattle.std.specs.Prelude.{◌≡◌, ℕ, ◌<◌, ◌≤◌, List, length, ◌≢◌}
use Rattle.trace.specs.declared.event.Event.{Event}
use Rattle.trace.specs.Events.{longest, by, Sending, Receiving}

-- event r receives what event s sent to it earlier in the file
pub record SentTo (es : List Event) (r : Receiving es) : Type 0 where
  pub sending : Sending es
  pub same : sending.message ≡ r.message
  pub earlier : sending.at < r.at
  pub named : sending.to ≡ by es r.at

pub record Valid (n : ℕ) (es : List Event) : Type 0 where
  pub few : length es ≤ longest
  -- each event is of one of the processes, and a send names another of them
  pub process : (e : ℕ) → e < length es → by es e < n
  pub receiver : (s : Sending es) → s.to < n
  pub other : (s : Sending es) → s.to ≢ by es s.at
  -- a message number is sent at most once, and received at most once, later in the file, by the receiver named
  pub sent_once : (s t : Sending es) → s.message ≡ t.message → s.at ≡ t.at
  pub received_once : (r q : Receiving es) → r.message ≡ q.message → r.at ≡ q.at
  pub sent_first : (r : Receiving es) → SentTo es r
