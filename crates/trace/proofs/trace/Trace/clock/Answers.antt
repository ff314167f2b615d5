use Rattle.std.proofs.Common.{◌≡◌, ◌<◌, ◌≤◌, length, get_or, MatchOption, rules}
use Rattle.trace.proofs.Traces.{clock_found}
use Rattle.trace.proofs.trace.Trace.clock.Goals as goal

pub returns : goal.returns
returns c =
    let t = c.args.self.now in
    let found : MatchOption c.copied.result (length t.clocks.items ≤ c.args.at) (λ k. (c.args.at < length t.clocks.items) × (k ≡ get_or t.clocks.items c.args.at k)) = search rules in
    clock_found t c.args.at c.copied.result found
