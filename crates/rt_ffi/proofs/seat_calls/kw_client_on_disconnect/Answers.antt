use Rattle.std.proofs.Common.{◌≡◌}
use Rattle.rt_foreign.specs.Reading.{at_end_read}
use Rattle.rt_foreign.specs.Status as status
use Rattle.rt_ffi.proofs.TextsRead.{asks_read}
use Rattle.rt_ffi.proofs.seat_calls.kw_client_on_disconnect.Goals as goal

pub returns : goal.returns
returns c =
    asks_read (at_end_read c.args.path.now c.args.tree.now) c.at_end_call.result
    ((c.ask.result ≡ status.closed) × (c.ask.new.given ≡ 0)) c.args.seat c.ask.result c.ask.new.given
    c.args.handle.now.loose.value c.ask.new.handle.loose.value c.at_end_call.ensures.ok
    c.at_end_call.ensures.fault c.ask.ensures
