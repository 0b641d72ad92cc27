use Rattle.std.proofs.Common.{◌≡◌}
use Rattle.rt_foreign.specs.Events.{event_read}
use Rattle.rt_foreign.specs.Status as status
use Rattle.rt_ffi.proofs.TextsRead.{hears_read}
use Rattle.rt_ffi.proofs.client_calls.kw_client_server_message.Goals as goal

pub returns : goal.returns
returns c =
    hears_read (event_read c.args.message.now) c.message_of.result (c.hear.result ≡ status.closed) c.hear.result
    c.args.handle.now.loose.value c.hear.new.handle.loose.value c.message_of.ensures.ok
    c.message_of.ensures.fault c.hear.ensures
