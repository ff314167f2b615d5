-- Verdicts and answers are told apart. Assumes nothing.
use Rattle.std.proofs.Common.{◌≡◌, ℕ, refl, arith}
use Rattle.lattice.specs.declared.verdict.Verdict as verdict
use Rattle.lattice.specs.declared.verdict.Verdict.{Verdict}
use Rattle.lattice.specs.declared.verdict.Answer as answer
use Rattle.lattice.specs.declared.verdict.Answer.{Answer}
use Rattle.lattice.specs.Steps.{IsOpen, IsFound, IsNone, reopened, answer_of}

pub open_not_found : {v : Verdict} → IsOpen v → IsFound v → ⊥
open_not_found o f = let z : ◌≡◌ {A = ℕ} 0 1 = cc in omega arith

pub open_not_none : {v : Verdict} → IsOpen v → IsNone v → ⊥
open_not_none o n = let z : ◌≡◌ {A = ℕ} 0 1 = cc in omega arith

pub found_not_none : {v : Verdict} → IsFound v → IsNone v → ⊥
found_not_none f n = let z : ◌≡◌ {A = ℕ} 0 1 = cc in omega arith

pub reopened_not_found : (v : Verdict) → IsFound (reopened v) → ⊥
reopened_not_found verdict.TheVariants.Open e = let z : ◌≡◌ {A = ℕ} 0 1 = cc in omega arith
reopened_not_found verdict.TheVariants.Found e = let z : ◌≡◌ {A = ℕ} 0 1 = cc in omega arith
reopened_not_found verdict.TheVariants.None e = let z : ◌≡◌ {A = ℕ} 0 1 = cc in omega arith

pub reopened_none : (v : Verdict) → IsNone (reopened v) → IsNone v
reopened_none verdict.TheVariants.Open e = cc
reopened_none verdict.TheVariants.Found e = cc
reopened_none verdict.TheVariants.None e = refl

-- pending is said of open alone
pub pending_open : (v : Verdict) → answer_of v ≡ answer.TheVariants.Pending → IsOpen v
pending_open verdict.TheVariants.Open e = refl
pending_open verdict.TheVariants.Found e = cc
pending_open verdict.TheVariants.None e = cc
