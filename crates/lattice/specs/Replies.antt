-- What a reply says. Assumes nothing.
use Rattle.std.specs.Prelude.{◌≡◌, ℕ}
use Rattle.lattice.specs.declared.condition.Reply.{Reply}
use Rattle.lattice.specs.declared.condition.Reply.TheVariants.{Holds, Lift, Never}

abbrev pub IsHolds : Reply → Type 0
IsHolds r = r ≡ Holds

-- the reply lifts place p to height h
abbrev pub IsLift : Reply → ℕ → ℕ → Type 0
IsLift r p h = r ≡ Lift (p, h)

abbrev pub IsNever : Reply → Type 0
IsNever r = r ≡ Never

-- the reply of a pair: the first member's, unless that is "holds"; then the second's
abbrev pub joined : Reply → Reply → Reply
joined Holds r = r
joined (Lift l) r = Lift l
joined Never r = Never
