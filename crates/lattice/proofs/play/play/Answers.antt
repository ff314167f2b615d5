use Rattle.std.proofs.Common.{◌≡◌, ℕ, ◌+◌, ◌<◌, List, [], ◌∷◌, ◌++◌, map, reverse, length, get_or, take, sym, refl, ap, ◌∙◌, arith}
use mathlib.Core.List.{reverse-cons}
use Rattle.std.proofs.lemmas.List.{take_more, take_all}
use Rattle.lattice.specs.declared.board.Board.{Board}
use Rattle.lattice.specs.declared.call.Call.{Call}
use Rattle.lattice.specs.declared.condition.Reply.{Reply}
use Rattle.lattice.specs.declared.vector.Vector.{Vector}
use Rattle.lattice.specs.Steps.{reading}
use Rattle.lattice.specs.History.{Entry, History, asked, floor, ceiling, run, read, Reached, new}
use Rattle.lattice.proofs.Promised.{kept, throughout}
use Rattle.lattice.proofs.Told.{told}
use Rattle.lattice.proofs.play.play.Goals as goal
use Rattle.lattice.proofs.play.play.Goals.{in-Floor, in-Ceiling, in-Run, in-Read}

-- some list of just these calls leads to b
abbrev Led : (Vector → Reply) → List Call → Board → Type 0
Led reply calls b = (l : History) × (reverse (map asked l) ≡ calls) × Reached reply l b

-- one more call e, which leads on from any list
module _ {reply : Vector → Reply} {b c : Board} (calls : List Call) (i : ℕ) (d : Call) where
  more : (e : Entry) → i < length calls → get_or calls i d ≡ asked e → ((l : History) → Reached reply l b → Reached reply (e ∷ l) c) → Led reply (take i calls) b → Led reply (take (i + 1) calls) c
  more e lt is on (l, made, r) = (
    e ∷ l,
    reverse-cons (asked e) (map asked l) ∙ ap (λ m. m ++ asked e ∷ []) made ∙ ap (λ x. take i calls ++ x ∷ []) (sym is) ∙ sym (take_more calls i d lt),
    on l r,
  )

pub loop-call-init : goal.loop-call-init
loop-call-init g c = ([], refl, new c.new-board.ensures.fresh)

pub loop-call-preserved : goal.loop-call-preserved
loop-call-preserved g c =
    let laws = (told (g.met.C.Condition.lawful c.args.condition.now)).lawful in
    let lt = c.loop-call-test.true in
    elim c.match-call.branch [
      | in-Floor w ↦ more _ _ _ (floor w.in-Floor.place w.in-Floor.height w.floor.result (reading w.floor.new.self)) lt w.in-Floor.is (λ l r. rw w.board-is (w.floor.ensures.promise _ laws l r).reached) c.loop-call.invariant
      | in-Ceiling w ↦ more _ _ _ (ceiling w.in-Ceiling.place w.in-Ceiling.height w.ceiling.result (reading w.ceiling.new.self)) lt w.in-Ceiling.is (λ l r. rw w.board-is (w.ceiling.ensures.promise _ laws l r).reached) c.loop-call.invariant
      | in-Run w ↦ more _ _ _ (run w.in-Run.budget w.run.result w.run.ensures.lifts (reading w.run.new.self)) lt w.in-Run.is (λ l r. rw w.board-is (w.run.ensures.promise l r).reached) c.loop-call.invariant
      | in-Read w ↦ more _ _ _ (read w.read.result) lt w.in-Read.is (λ l r. rw w.board-is (w.read.ensures.promise _ laws l r).reached) c.loop-call.invariant
    ]

pub returns : goal.returns
returns g c =
    let laws = g.met.C.Condition.lawful c.args.condition.now in
    let inv = c.loop-call.invariant in
    record { history = inv.0; made = inv.1 ∙ take_all c.loop-call.call-index c.args.calls.now (omega arith); kept = kept laws inv.2; throughout = throughout laws inv.2 }
