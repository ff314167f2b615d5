use Rattle.lattice.specs.Order.{at}
use Rattle.trace.proofs.Known.{clock_knows}
use Rattle.trace.proofs.Traces.{valid}
use Rattle.cuts.specs.Jobs.{processes, happened, listed}
use Rattle.cuts.specs.Closed.{consistent_lawful, consistent_says, consistent_only, consistent_free, consistent_blank}
use Rattle.cuts.specs.Watching.{watched_lawful, watched_says, watched_only, watched_free, watched_blank}
use Rattle.cuts.specs.Emptied.{channels_lawful, channels_say, channels_only, channels_free, channels_blank}
use Rattle.cuts.proofs.job.TraceJob.laws.Goals as goal

pub returns : goal.returns
returns c =
    let j = c.args.self.now in
    let n = processes j in
    let es = happened j in
    let cs = listed j in
    let few = j.trace.few in
    record {
      consistent_lawful = consistent_lawful n es (valid j.trace) few (clock_knows n es (valid j.trace) few);
      watched_lawful = watched_lawful n es j.wish j.watch few;
      channels_lawful = channels_lawful n es cs j.senders j.receivers few;
      consistent_says = λ v. consistent_says n es (at v);
      watched_says = λ v. watched_says n es j.wish j.watch (at v);
      channels_says = λ v. channels_say n es cs (at v);
      consistent_only = λ v r s. consistent_only n es (at v) r s;
      watched_only = λ v r s. watched_only n es j.wish j.watch (at v) r s;
      channels_only = λ v r s. channels_only n es cs j.senders j.receivers (at v) r s;
      consistent_free = λ v w same. consistent_free n es (valid j.trace) (at v) (at w) same;
      watched_free = λ v w same. watched_free n es j.wish j.watch (at v) (at w) same;
      channels_free = λ v w same. channels_free n es cs j.senders j.receivers (at v) (at w) same;
      blank = λ e v. (consistent_blank n es (at v) e, watched_blank n es j.wish j.watch (at v) e, channels_blank n es cs j.senders j.receivers e (at v));
    }
