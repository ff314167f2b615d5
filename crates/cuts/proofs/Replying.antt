-- What is said of a reply that is "never" beyond the events. Assumes nothing.
use Rattle.std.proofs.Common.{◌≡◌, Bool, true, false, MatchBool, refl, sym, subst}
use Rattle.lattice.specs.declared.condition.Reply.{Reply}
use Rattle.lattice.specs.declared.condition.Reply.TheVariants.{Never}

pub replied : (beyond : Bool) (r : Reply) (Is : Reply → Type 0) {Found : Type 0} → MatchBool beyond (r ≡ Never) Found → (beyond ≡ true → Is Never) → (beyond ≡ false → Found → Is r) → Is r
replied true r Is never past inside = subst Is (sym never) (past refl)
replied false r Is found past inside = inside refl found
