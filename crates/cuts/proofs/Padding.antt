-- A payload's bytes followed by zeros. Assumes nothing.
use Rattle.std.proofs.Common.{◌≡◌, ℕ, ◌<◌, List, length, get_or, arith, rules}
use Rattle.std.proofs.lemmas.List.{places}
use Rattle.cuts.specs.Jobs.{padded}

pub length-padded : (xs : List ℕ) → length (padded xs) ≡ 4
length-padded xs = search (rules, places)

pub get_or-padded : (xs : List ℕ) (k d : ℕ) → k < 4 → get_or (padded xs) k d ≡ get_or xs k 0
get_or-padded xs k d lt = grind (arith, places)
