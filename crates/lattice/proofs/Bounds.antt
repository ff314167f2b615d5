-- Floors and ceilings of a list of calls, and the solutions within them. Assumes nothing.
use Rattle.std.proofs.Common.{◌≡◌, ℕ, ◌<◌, ◌≤◌, [], ◌∷◌, Ok, Err, sym, ⊎_elim, arith}
use Rattle.refusal.specs.declared.Refusal.{Refusal}
use Rattle.lattice.specs.declared.vector.Vector.{Vector}
use Rattle.lattice.specs.declared.board.Reading.{Reading}
use Rattle.lattice.specs.declared.verdict.Answer.{Answer}
use Rattle.lattice.specs.Limits.{places, highest}
use Rattle.lattice.specs.Order.{at, AtMost}
use Rattle.lattice.specs.Refusals.{Accepted, Refused}
use Rattle.lattice.specs.History.{Entry, History, floor, ceiling, run, read, FloorAccepted, CeilingAccepted, Judged}
use Rattle.lattice.specs.Promises.{CeilingOf, Solution}

accepted_same : {p h q g : ℕ} → (q ≡ p) × (g ≡ h) → Accepted q g → Accepted p h
accepted_same e a = rw (sym e.0, sym e.1) a

-- what was taken for a floor, or for a ceiling, is a place and a height
pub floor_accepted : {p h : ℕ} (l : History) → Judged l → FloorAccepted p h l → Accepted p h
floor_accepted [] j t = absurd t
floor_accepted (floor q g (Ok x) s ∷ l) j t = ⊎_elim (λ e. accepted_same e j.0) (floor_accepted l j.1) t
floor_accepted (floor q g (Err e) s ∷ l) j t = floor_accepted l j.1 t
floor_accepted (ceiling q g r s ∷ l) j t = floor_accepted l j.1 t
floor_accepted (run n a k s ∷ l) j t = floor_accepted l j t
floor_accepted (read s ∷ l) j t = floor_accepted l j t

pub ceiling_accepted : {p h : ℕ} (l : History) → Judged l → CeilingAccepted p h l → Accepted p h
ceiling_accepted [] j t = absurd t
ceiling_accepted (floor q g r s ∷ l) j t = ceiling_accepted l j.1 t
ceiling_accepted (ceiling q g (Ok x) s ∷ l) j t = ⊎_elim (λ e. accepted_same e j.0) (ceiling_accepted l j.1) t
ceiling_accepted (ceiling q g (Err e) s ∷ l) j t = ceiling_accepted l j.1 t
ceiling_accepted (run n a k s ∷ l) j t = ceiling_accepted l j t
ceiling_accepted (read s ∷ l) j t = ceiling_accepted l j t

-- e adds no bound
pub record Neutral (e : Entry) : Type 0 where
  pub floors : (l : History) (p h : ℕ) → FloorAccepted p h (e ∷ l) → FloorAccepted p h l
  pub ceilings : (l : History) (p h : ℕ) → CeilingAccepted p h (e ∷ l) → CeilingAccepted p h l
  pub ceilings_back : (l : History) (p h : ℕ) → CeilingAccepted p h l → CeilingAccepted p h (e ∷ l)
  pub judged : (l : History) → Judged l → Judged (e ∷ l)

pub run_neutral : {n k : ℕ} {a : Answer} {s : Reading} → Neutral (run n a k s)
run_neutral = record { floors = λ l p h t. t; ceilings = λ l p h t. t; ceilings_back = λ l p h t. t; judged = λ l j. j }

pub read_neutral : {s : Reading} → Neutral (read s)
read_neutral = record { floors = λ l p h t. t; ceilings = λ l p h t. t; ceilings_back = λ l p h t. t; judged = λ l j. j }

module _ {p h : ℕ} {e : Refusal} {s : Reading} (bad : Refused p h e) where
  pub floor_neutral : Neutral (floor p h (Err e) s)
  floor_neutral = record { floors = λ l q g t. t; ceilings = λ l q g t. t; ceilings_back = λ l q g t. t; judged = λ l j. (bad, j) }

  pub ceiling_neutral : Neutral (ceiling p h (Err e) s)
  ceiling_neutral = record { floors = λ l q g t. t; ceilings = λ l q g t. t; ceilings_back = λ l q g t. t; judged = λ l j. (bad, j) }

-- the condition holds on w, within every floor accepted; ceilings are left out
pub record Over (holds : Vector → Type 0) (l : History) (w : Vector) : Type 0 where
  pub satisfied : holds w
  pub floors : (p h : ℕ) → FloorAccepted p h l → h ≤ at w p

pub over : {holds : Vector → Type 0} {l : History} {w : Vector} → Solution holds l w → Over holds l w
over s = record { satisfied = s.satisfied; floors = s.floors }

-- a solution is within the ceilings that are in force
pub under : {holds : Vector → Type 0} {l : History} (top w : Vector) → ((p : ℕ) → p < places → CeilingOf l p (at top p)) → Solution holds l w → AtMost w top
under top w tops s i lt = ⊎_elim (λ (e : at top i ≡ highest). omega (arith, w.bounded i lt)) (λ t. s.ceilings i (at top i) t) (tops i lt).given

-- why there is no solution: the condition holds nowhere at or above the vector in hand, or only above one of the ceilings
pub data Shut (holds : Vector → Type 0) (v top : Vector) : Type 0 where
  nowhere : ((w : Vector) → AtMost v w → holds w → ⊥) → Shut holds v top
  past : (p : ℕ) → p < places → ((w : Vector) → AtMost v w → holds w → at top p < at w p) → Shut holds v top

-- it stays so as the vector rises and the ceilings fall
pub shut_more : {holds : Vector → Type 0} {v u top low : Vector} → Shut holds v top → AtMost v u → AtMost low top → Shut holds u low
shut_more (nowhere empty) up down = nowhere (λ w b. empty w (λ i hi. omega (arith, up i hi, b i hi)))
shut_more (past p lt high) up down = past p lt (λ w b s. omega (arith, down p lt, high w (λ i hi. omega (arith, up i hi, b i hi)) s))

pub shut_none : {holds : Vector → Type 0} {v top : Vector} → Shut holds v top → (w : Vector) → AtMost v w → AtMost w top → holds w → ⊥
shut_none (nowhere empty) w up below s = empty w up s
shut_none (past p lt high) w up below s = omega (arith, high w up s, below p lt)
