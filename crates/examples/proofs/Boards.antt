-- Boards written out, and what follows from one list of calls for every such list. Assumes nothing.
use Rattle.std.proofs.Common.{◌≡◌, ℕ, ◌+◌, ◌<◌, ◌≤◌, max, false, not, leb, List, [], ◌∷◌, map, reverse, length, get_or, replicate, sum, sym, refl, ap, ◌∙◌, subst, arith, lit≤}
use mathlib.Core.List.{reverse-reverse}
use Rattle.std.proofs.lemmas.Bool.{leb-true, not-false}
use Rattle.lattice.specs.declared.vector.Vector.{Vector}
use Rattle.lattice.specs.declared.condition.Reply.{Reply}
use Rattle.lattice.specs.declared.board.Board.{Board}
use Rattle.lattice.specs.declared.verdict.Verdict as verdict
use Rattle.lattice.specs.declared.verdict.Verdict.{Verdict}
use Rattle.lattice.specs.declared.call.Call.{Call}
use Rattle.lattice.specs.Limits.{places, highest}
use Rattle.lattice.specs.First.{some}
use Rattle.lattice.specs.Order.{at, With}
use Rattle.lattice.specs.Steps.{IsOpen, answer_of, reading, reopened, FloorStep, Climb, Ends, RunStep, searched}
use Rattle.lattice.specs.History.{History, run, asked, ran, Reached, new, called}
use Rattle.lattice.proofs.First.{none_passes}
use Rattle.lattice.proofs.Once.{one_board}
use Rattle.examples.specs.Outcomes.{Ended, Gives}

-- the test is computed over the whole list
abbrev pub vector : (heights : List ℕ) → length heights ≡ places → some (λ k. not (leb (get_or heights k 0) highest)) places ≡ false → Vector
vector heights e small = record { heights = heights; sized = e; bounded = λ i lt. leb-true _ _ (not-false _ (none_passes (λ k. not (leb (get_or heights k 0) highest)) places small i lt)) }

abbrev pub board : (v ceilings : Vector) → Verdict → (count : ℕ) → count ≤ sum v.heights → Board
board v ceilings verdict count le = record { vector = v; ceilings = ceilings; verdict = verdict; count = count; counted = le }

-- heights x and y at places 0 and 1
abbrev pub two : (x y : ℕ) → some (λ k. not (leb (get_or (x ∷ y ∷ replicate 30 0) k 0) highest)) places ≡ false → Vector
two x y small = vector (x ∷ y ∷ replicate 30 0) refl small

-- the ceilings of a new board, and the board
abbrev pub tops : Vector
tops = vector (replicate places highest) refl refl

abbrev pub fresh : Board
fresh = board (two 0 0 refl) tops verdict.TheVariants.Open 0 (lit≤ tt)

pub started : (reply : Vector → Reply) → Reached reply [] fresh
started reply = new (record { heights = refl; ceilings = refl; verdict = refl; count = refl })

-- a floor that rises, within its ceiling
pub rises : {p h : ℕ} {b c : Board} → With b.vector p (max (at b.vector p) h) c.vector → c.ceilings ≡ b.ceilings → c.count ≡ b.count → at c.vector p ≤ at c.ceilings p → at b.vector p < at c.vector p → c.verdict ≡ reopened b.verdict → FloorStep p h b c
rises vector ceilings count within up verdict = record {
  vector = vector;
  ceilings = ceilings;
  count = count;
  over = λ lt. absurd (omega arith);
  rose = λ _ _. verdict;
  kept = λ _ same. absurd (omega arith);
}

-- a search of k lifts
pub searches : {reply : Vector → Reply} {n k : ℕ} {b c : Board} → IsOpen b.verdict → Climb reply b.ceilings b.vector k c.vector → k ≤ n → Ends reply b.ceilings n k c.vector c.verdict → c.ceilings ≡ b.ceilings → c.count ≡ b.count + k → RunStep reply n b k c
searches before climb afforded ends ceilings count = searched before (record { climb = climb; afforded = afforded; ends = ends; ceilings = ceilings; count = count })

-- a list of calls that was made, with a run at its end, is the only one
module _ {reply : Vector → Reply} {l : History} {b : Board} (n k : ℕ) (c : Board) (r : Reached reply l b) (s : RunStep reply n b k c) where
  pub gives : {calls : List Call} {x y : ℕ} → reverse (map asked (run n (answer_of c.verdict) k (reading c) ∷ l)) ≡ calls → c.vector.heights ≡ x ∷ y ∷ replicate 30 0 → Gives reply calls (answer_of c.verdict) c.count x y
  gives {calls} {x} {y} made heights = record {
    history = run n (answer_of c.verdict) k (reading c) ∷ l;
    board = c;
    reached = called r (ran s);
    made = made;
    always = λ m d t also.
        let mine = map asked (run n (answer_of c.verdict) k (reading c) ∷ l) in
        let same : mine ≡ map asked m = sym (reverse-reverse mine) ∙ ap reverse (made ∙ sym also) ∙ reverse-reverse (map asked m) in
        let one = one_board reply (run n (answer_of c.verdict) k (reading c) ∷ l) m c d (called r (ran s)) t same in
        let so : Ended (answer_of c.verdict) c.count x y (run n (answer_of c.verdict) k (reading c) ∷ l) (reading c) = record { budget = n; lifts = k; earlier = l; latest = refl; counted = refl; heights = heights } in
        subst (λ z. Ended (answer_of c.verdict) c.count x y z (reading d)) one.0 (subst (λ z. Ended (answer_of c.verdict) c.count x y (run n (answer_of c.verdict) k (reading c) ∷ l) (reading z)) one.1 so);
  }
