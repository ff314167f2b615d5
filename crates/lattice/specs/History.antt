-- Lists of calls that were made on a board, from a new one on. Assumes nothing.
use Rattle.std.specs.Prelude.{◌≡◌, ℕ, ◌+◌, ◌⊎◌, List, [], ◌∷◌, Ok, Err, Result, MatchResult}
use Rattle.refusal.specs.declared.Refusal.{Refusal}
use Rattle.lattice.specs.declared.vector.Vector.{Vector}
use Rattle.lattice.specs.declared.condition.Reply.{Reply}
use Rattle.lattice.specs.declared.board.Board.{Board}
use Rattle.lattice.specs.declared.board.Reading.{Reading}
use Rattle.lattice.specs.declared.verdict.Answer as answer
use Rattle.lattice.specs.declared.verdict.Answer.{Answer}
use Rattle.lattice.specs.declared.call.Call.{Call}
use Rattle.lattice.specs.declared.call.Call.TheVariants.{Floor, Ceiling, Run, Read}
use Rattle.lattice.specs.Refusals.{Accepted, Refused}
use Rattle.lattice.specs.Steps.{Fresh, FloorStep, CeilingStep, RunStep, answer_of, reading}

-- the record of a call: what it was given, what it answered, of a run how many lifts it made, and what a read would answer after it,
-- so that a list shows every reading on its way; `Step` ties it to what happened
pub data Entry : Type 0 where
  floor : (place height : ℕ) → Result (Unit {0}) Refusal → Reading → Entry
  ceiling : (place height : ℕ) → Result (Unit {0}) Refusal → Reading → Entry
  run : (budget : ℕ) → Answer → (lifts : ℕ) → Reading → Entry
  read : Reading → Entry

-- the calls made so far, the latest first
abbrev pub History : Type 0
History = List Entry

abbrev pub asked : Entry → Call
asked (floor p h r s) = Floor p h
asked (ceiling p h r s) = Ceiling p h
asked (run n a k s) = Run n
asked (read s) = Read

-- what a read would answer after the call
abbrev pub after : Entry → Reading
after (floor p h r s) = s
after (ceiling p h r s) = s
after (run n a k s) = s
after (read s) = s

-- a floor of height h was accepted at place p
abbrev pub FloorAccepted : ℕ → ℕ → History → Type 0
FloorAccepted p h [] = ⊥
FloorAccepted p h (floor q g (Ok x) s ∷ l) = ((q ≡ p) × (g ≡ h)) ⊎ FloorAccepted p h l
FloorAccepted p h (floor q g (Err e) s ∷ l) = FloorAccepted p h l
FloorAccepted p h (ceiling q g r s ∷ l) = FloorAccepted p h l
FloorAccepted p h (run n a k s ∷ l) = FloorAccepted p h l
FloorAccepted p h (read s ∷ l) = FloorAccepted p h l

-- a ceiling of height h was accepted at place p
abbrev pub CeilingAccepted : ℕ → ℕ → History → Type 0
CeilingAccepted p h [] = ⊥
CeilingAccepted p h (floor q g r s ∷ l) = CeilingAccepted p h l
CeilingAccepted p h (ceiling q g (Ok x) s ∷ l) = ((q ≡ p) × (g ≡ h)) ⊎ CeilingAccepted p h l
CeilingAccepted p h (ceiling q g (Err e) s ∷ l) = CeilingAccepted p h l
CeilingAccepted p h (run n a k s ∷ l) = CeilingAccepted p h l
CeilingAccepted p h (read s ∷ l) = CeilingAccepted p h l

-- each floor and each ceiling was accepted or refused exactly by the rules
abbrev pub Judged : History → Type 0
Judged [] = Unit {0}
Judged (floor p h r s ∷ l) = MatchResult r (λ _. Accepted p h) (λ e. Refused p h e) × Judged l
Judged (ceiling p h r s ∷ l) = MatchResult r (λ _. Accepted p h) (λ e. Refused p h e) × Judged l
Judged (run n a k s ∷ l) = Judged l
Judged (read s ∷ l) = Judged l

-- the lifts made by all runs
abbrev pub lifts : History → ℕ
lifts [] = 0
lifts (floor p h r s ∷ l) = lifts l
lifts (ceiling p h r s ∷ l) = lifts l
lifts (run n a k s ∷ l) = k + lifts l
lifts (read s ∷ l) = lifts l

abbrev pub if_pending : Answer → ℕ → ℕ
if_pending answer.TheVariants.Pending n = n
if_pending answer.TheVariants.Found n = 0
if_pending answer.TheVariants.None n = 0

-- the budgets of the pending runs together
abbrev pub pending_budgets : History → ℕ
pending_budgets [] = 0
pending_budgets (floor p h r s ∷ l) = pending_budgets l
pending_budgets (ceiling p h r s ∷ l) = pending_budgets l
pending_budgets (run n a k s ∷ l) = if_pending a n + pending_budgets l
pending_budgets (read s ∷ l) = pending_budgets l

-- a call on b leads to c, and is recorded as the entry; a read leaves the board as it is
pub data Step (reply : Vector → Reply) (b : Board) : Call → Entry → Board → Type 0 where
  floored : {p h : ℕ} {c : Board} → Accepted p h → FloorStep p h b c → Step reply b (Floor p h) (floor p h (Ok tt) (reading c)) c
  floor_refused : {p h : ℕ} {e : Refusal} → Refused p h e → Step reply b (Floor p h) (floor p h (Err e) (reading b)) b
  ceiled : {p h : ℕ} {c : Board} → Accepted p h → CeilingStep p h b c → Step reply b (Ceiling p h) (ceiling p h (Ok tt) (reading c)) c
  ceiling_refused : {p h : ℕ} {e : Refusal} → Refused p h e → Step reply b (Ceiling p h) (ceiling p h (Err e) (reading b)) b
  ran : {budget k : ℕ} {c : Board} → RunStep reply budget b k c → Step reply b (Run budget) (run budget (answer_of c.verdict) k (reading c)) c
  answered : Step reply b Read (read (reading b)) b

-- the board that a list of calls leads to, from a new one, where these replies serve it all its life
pub data Reached (reply : Vector → Reply) : History → Board → Type 0 where
  new : {b : Board} → Fresh b → Reached reply [] b
  called : {l : History} {a : Call} {e : Entry} {b c : Board} → Reached reply l b → Step reply b a e c → Reached reply (e ∷ l) c
