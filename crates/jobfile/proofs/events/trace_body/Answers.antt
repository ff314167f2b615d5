use Rattle.wire.specs.Parts.{here}
use Rattle.jobfile.proofs.Taking.{err_exit}
use Rattle.jobfile.proofs.Bodies.{Progress, Anew, none_yet, one_more, anew, channels_stand, still_none, channels_break, body_ends}
use Rattle.jobfile.proofs.events.trace_body.Goals as goal
use Rattle.jobfile.proofs.events.trace_body.Goals.{After-channel_count}

-- the job as the channels are read into it
new : (c : After-channel_count) → Anew c.args.frame.n c.in_ok-watch.watch c.in_ok-wish.wish c.begin.new.self
new c = anew c.args.frame.n c.in_ok-watch.watch c.in_ok-wish.wish c.args.job.now c.begin.new.self c.begin.result c.args.frame.few c.in_ok-watch.ensures.0.1 c.begin.ensures

-- what was read before the number of channels
abbrev before_count : (c : After-channel_count) → Progress c.args.frame.n c.args.reader.now
before_count c =
    let a = one_more (none_yet c.args.frame.n c.args.reader.now) c.payload_letter.new.reader _ c.in_ok-kind.ensures in
    let b = one_more a c.watch.new.reader _ c.in_ok-watch.ensures in
    record { left = _; front = _; Rest = _; so = one_more b c.wish.new.reader _ c.in_ok-wish.ensures }

pub returns-in_err-kind : goal.returns-in_err-kind
returns-in_err-kind c =
    err_exit _ _ _ c.from_residual.ensures.1 (here c.in_err-kind.ensures)

pub returns-in_err-watch : goal.returns-in_err-watch
returns-in_err-watch c =
    let a = one_more (none_yet c.args.frame.n c.args.reader.now) c.payload_letter.new.reader _ c.in_ok-kind.ensures in
    err_exit _ _ _ c.from_residual-in_err-watch.ensures.1 (a.breaks _ (here c.in_err-watch.ensures))

pub returns-in_err-wish : goal.returns-in_err-wish
returns-in_err-wish c =
    let a = one_more (none_yet c.args.frame.n c.args.reader.now) c.payload_letter.new.reader _ c.in_ok-kind.ensures in
    let b = one_more a c.watch.new.reader _ c.in_ok-watch.ensures in
    err_exit _ _ _ c.from_residual-in_err-wish.ensures.1 (b.breaks _ (here c.in_err-wish.ensures))

pub returns-in_err-channels : goal.returns-in_err-channels
returns-in_err-channels c =
    err_exit _ _ _ c.from_residual-in_err-channels.ensures.1 ((before_count (goal.at.returns-in_err-channels c).After-channel_count).so.breaks _ (here c.in_err-channels.ensures))

pub channel_list-requires : goal.channel_list-requires
channel_list-requires c = record { job_value = (new (goal.at.channel_list-requires c).After-channel_count).channels; count_bound = c.in_ok-channels.ensures.0.1 }

pub returns-in_err-channel_list : goal.returns-in_err-channel_list
returns-in_err-channel_list c =
    let at = (goal.at.returns-in_err-channel_list c).After-channel_count in
    let e = one_more (before_count at).so c.channel_count.new.reader _ c.in_ok-channels.ensures in
    err_exit _ _ _ c.from_residual-in_err-channel_list.ensures.1 (e.breaks _ (here (channels_break (new at) c.in_ok-channels.channels _ _ _ c.in_err-channel_list.ensures)))

pub returns-in_err-events : goal.returns-in_err-events
returns-in_err-events c =
    let at = (goal.at.returns-in_err-events c).After-channel_count in
    let e = one_more (before_count at).so c.channel_count.new.reader _ c.in_ok-channels.ensures in
    let f = one_more e c.channel_list.new.reader _ (channels_stand (new at) c.in_ok-channel_list.ensures) in
    err_exit _ _ _ c.from_residual-in_err-events.ensures.1 (f.breaks _ (here c.in_err-events.ensures))

pub event_list-requires : goal.event_list-requires
event_list-requires c = record { job_value = still_none (new (goal.at.event_list-requires c).After-channel_count) c.in_ok-channel_list.ensures; count_le_longest = c.in_ok-events.ensures.0.1 }

pub returns : goal.returns
returns c =
    let at = (goal.at.returns c).After-channel_count in
    let e = one_more (before_count at).so c.channel_count.new.reader _ c.in_ok-channels.ensures in
    let f = one_more e c.channel_list.new.reader _ (channels_stand (new at) c.in_ok-channel_list.ensures) in
    let g = one_more f c.event_count.new.reader _ c.in_ok-events.ensures in
    body_ends _ c.in_ok-events.events (new at) c.in_ok-channel_list.ensures c.in_ok-watch.ensures.0.1 c.in_ok-wish.ensures.0.0
    c.in_ok-channels.ensures.0.1 g c.event_list.new.reader c.event_list.new.job c.event_list.result c.event_list.ensures
