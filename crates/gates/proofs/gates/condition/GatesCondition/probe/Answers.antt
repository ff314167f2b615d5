-- The walk finds the reply in words, and so the computed one. Assumes nothing.
use Rattle.std.proofs.Common.{◌≡◌, ℕ, ◌<◌, ◌∙◌, List, refl, sym, ap, get_or, take, arith, rules}
use Rattle.std.proofs.lemmas.List.{get_or-take}
use Rattle.lattice.specs.declared.vector.Vector.{Vector}
use Rattle.lattice.specs.Order.{at}
use Rattle.gates.specs.Gates.{sides}
use Rattle.gates.specs.Replies.{says_is, says_never, says_lift, says_holds, quiet_more}
use Rattle.gates.proofs.gates.condition.GatesCondition.probe.Goals as goal

-- the height of a van in the walk
present : (n : ℕ) (hs : List ℕ) (v : Vector) (i : ℕ) → i < n → hs ≡ v.heights → get_or (take n hs) i 0 ≡ at v i
present n hs v i inside is = get_or-take n hs i 0 inside ∙ ap (λ (xs : List ℕ). get_or xs i 0) is

pub returns-then-not-placed : goal.returns-then-not-placed
returns-then-not-placed c =
    let s = sides c.args.self.now in
    let h = at c.args.v.now in
    let x = says_never s h (λ placed. search (rules, c.if-not-placed.ensures.1 placed)) in
    record { is = sym (says_is s h _ x); says = x }

pub returns-then-free-present : goal.returns-then-free-present
returns-then-free-present c =
    let s = sides c.args.self.now in
    let h = at c.args.v.now in
    let i = c.loop-i.i in
    let here = present s.n _ c.args.v.now i (search rules) c.heights.ensures in
    let x = says_lift s h (c.if-not-placed.ensures.0 refl) i c.free_position-free.result (search rules) (λ k l. search rules) (omega arith) (search rules) in
    record { is = sym (says_is s h _ x); says = x }

pub loop-i-preserved : goal.loop-i-preserved
loop-i-preserved c =
    let s = sides c.args.self.now in
    let h = at c.args.v.now in
    let i = c.loop-i.i in
    let inside : i < s.n = search rules in
    let here = present s.n _ c.args.v.now i inside c.heights.ensures in
    quiet_more s h i c.free_position-free.result c.loop-i.invariant (c.if-not-placed.ensures.0 refl i inside) (omega arith) c.free_position-free.ensures

pub returns : goal.returns
returns c =
    let s = sides c.args.self.now in
    let h = at c.args.v.now in
    let x = says_holds s h (c.if-not-placed.ensures.0 refl) (λ k l. search rules) in
    record { is = sym (says_is s h _ x); says = x }
