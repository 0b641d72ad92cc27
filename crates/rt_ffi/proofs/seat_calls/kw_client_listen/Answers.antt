use Rattle.std.proofs.Common.{◌≡◌}
use Rattle.rt_foreign.specs.Reading.{listen_read}
use Rattle.rt_foreign.specs.Status as status
use Rattle.rt_ffi.proofs.TextsRead.{asks_read}
use Rattle.rt_ffi.proofs.seat_calls.kw_client_listen.Goals as goal

pub returns : goal.returns
returns c =
    asks_read (listen_read c.args.path.now c.args.query.now) c.listen_call.result
    ((c.ask.result ≡ status.closed) × (c.ask.new.given ≡ 0)) c.args.seat c.ask.result c.ask.new.given
    c.args.handle.now.loose.value c.ask.new.handle.loose.value c.listen_call.ensures.ok
    c.listen_call.ensures.fault c.ask.ensures
