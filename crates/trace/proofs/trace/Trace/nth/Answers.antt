use Rattle.std.proofs.Common.{◌≡◌, ◌-◌, ◌<◌, [], length, get_or, sym, subst, arith}
use Rattle.std.proofs.lemmas.Bool.{ltb-false}
use Rattle.std.proofs.lemmas.Grind.{common_steps}
use Rattle.trace.specs.Growth.{events, NthAt}
use Rattle.trace.specs.Tables.{listed}
use Rattle.trace.proofs.Tables.{total_none, place_is}
use Rattle.trace.proofs.Traces.{valid, counted}
use Rattle.trace.proofs.trace.Trace.nth.Goals as goal

pub returns-in_err-get : goal.returns-in_err-get
returns-in_err-get c =
    let t = c.args.self.now in
    let past = ltb-false _ _ (sym c.in_err-get.ensures.lookup.0) in
    let none = total_none t.n (events t) (valid t) c.args.process (omega (arith, t.few, t.sized.0)) in
    subst (NthAt t c.args.process c.args.number) (sym c.from_residual-in_err-get.ensures) (λ pos le. omega arith)

pub returns : goal.returns
returns c =
    let t = c.args.self.now in
    let i = c.args.process in
    let h = c.args.number in
    let e = c.in_ok-at.at.now in
    let is : get_or (get_or (listed t.places) i []) (h - 1) 0 ≡ e = grind (arith, common_steps) in
    let below : h - 1 < length (get_or (listed t.places) i []) = grind (arith, common_steps) in
    let pos : 0 < h = omega arith in
    place_is t.n (events t) (listed t.places) t.tables.indexed i h e pos (omega (arith, counted t i)) is
