use Rattle.std.proofs.Common.{◌≡◌, ◌<◌, length, get_or, MatchOption, rules}
use Rattle.std.proofs.iter.Serving.{serving}
use Rattle.trace.proofs.Traces.{clocks_as_events, latest_found}
use Rattle.trace.proofs.trace.Trace.latest.Goals as goal

pub map_or-requires : goal.map_or-requires
map_or-requires c = let long = clocks_as_events c.args.self.now in grind serving

pub returns : goal.returns
returns c =
    let t = c.args.self.now in
    let found : MatchOption c.nth.result (c.map_or.result ≡ c.zero.result) (λ e. e < length t.clocks.items → c.map_or.result ≡ get_or t.clocks.items e c.map_or.result) =
    search rules in
    latest_found t c.args.process c.total.result c.nth.result c.zero.result c.map_or.result c.total.ensures c.nth.ensures c.zero.ensures found
