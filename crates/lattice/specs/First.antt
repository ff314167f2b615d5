-- The least number in a range that passes a test. Assumes nothing.
use Rattle.std.specs.Prelude.{◌≡◌, ℕ, zero, suc, ◌-◌, ◌<◌, ◌≤◌, Bool, true, false, cond, nat_lt}

-- the least of from, from + 1, .. that passes, or the number after the last of `count` numbers
abbrev pub walk : (ℕ → Bool) → ℕ → ℕ → ℕ
walk test zero from = from
walk test (suc count) from = cond (test from) from (walk test count (suc from))

-- the least number from `from` on and below `end` that passes, or `end` (`from`, if that is past it)
abbrev pub first : (ℕ → Bool) → ℕ → ℕ → ℕ
first test from end = walk test (end - from) from

-- what that says, where `from` is not past `end`
pub record Least (test : ℕ → Bool) (from end r : ℕ) : Type 0 where
  pub low : from ≤ r
  pub high : r ≤ end
  pub passes : r < end → test r ≡ true
  pub before : (k : ℕ) → from ≤ k → k < r → test k ≡ false

-- some number below `end` passes
abbrev pub some : (ℕ → Bool) → ℕ → Bool
some test end = nat_lt (first test 0 end) end
