-- A number that is not gone when its low bits are shifted out reaches the next power of two. Assumes nothing.
use Rattle.std.proofs.Common.{◌≡◌, ℕ, ◌/◌, ◌^◌, ◌≤◌, ⊎_elim, arith}
use Rattle.std.proofs.lemmas.Nat.{div_below, pow_pos}
use Rattle.std.proofs.lemmas.Bool.{cases_lt}

pub shifted_out : (x k : ℕ) → (x / 2 ^ k ≡ 0 → ⊥) → 2 ^ k ≤ x
shifted_out x k some = ⊎_elim (λ below. absurd (some (let b = div_below x (2 ^ k) 1 (pow_pos k) (omega arith) in omega arith))) (λ h. h) (cases_lt x (2 ^ k))
