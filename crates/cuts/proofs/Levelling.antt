-- The lift of the side of a channel that is behind. Assumes nothing.
use Rattle.std.proofs.Common.{◌≡◌, ℕ, ◌+◌, ◌-◌, ◌<◌, List, get_or, ap, ◌∙◌, arith}
use Rattle.lattice.specs.declared.condition.Reply.{Reply}
use Rattle.trace.specs.declared.event.Event.{Event}
use Rattle.cuts.specs.Channels.{lifted_to}

-- process i is at fewer than process k is, and is lifted by what it misses
pub behind : (es : List Event) (counted other : ℕ → ℕ) (i k few many : ℕ) (r : Reply) (xs ys hs : List ℕ) → xs ≡ hs → ys ≡ hs → few ≡ counted (get_or xs i 0) → many ≡ other (get_or ys k 0) → few < many
    → r ≡ lifted_to es counted i (get_or xs i 0) (counted (get_or xs i 0) + (many - few))
    → (counted (get_or hs i 0) < other (get_or hs k 0)) × (r ≡ lifted_to es counted i (get_or hs i 0) (other (get_or hs k 0)))
behind es counted other i k few many r xs ys hs x y own its less is =
    let here : few ≡ counted (get_or hs i 0) = own ∙ ap (λ (zs : List ℕ). counted (get_or zs i 0)) x in
    let there : many ≡ other (get_or hs k 0) = its ∙ ap (λ (zs : List ℕ). other (get_or zs k 0)) y in
    let even : counted (get_or hs i 0) + (many - few) ≡ other (get_or hs k 0) = omega arith in
    (omega arith, is ∙ ap (λ (zs : List ℕ). lifted_to es counted i (get_or zs i 0) (counted (get_or zs i 0) + (many - few))) x ∙ ap (lifted_to es counted i (get_or hs i 0)) even)
