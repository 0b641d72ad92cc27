use Rattle.std.proofs.Common.{◌≡◌}
use Rattle.rt_foreign.specs.Reading.{cancel_read}
use Rattle.rt_foreign.specs.Status as status
use Rattle.rt_ffi.proofs.TextsRead.{asks_read}
use Rattle.rt_ffi.proofs.seat_calls.kw_client_cancel_disconnect.Goals as goal

pub returns : goal.returns
returns c =
    asks_read (cancel_read c.args.path.now) c.cancel_call.result
    ((c.ask.result ≡ status.closed) × (c.ask.new.given ≡ 0)) c.args.seat c.ask.result c.ask.new.given
    c.args.handle.now.loose.value c.ask.new.handle.loose.value c.cancel_call.ensures.ok
    c.cancel_call.ensures.fault c.ask.ensures
