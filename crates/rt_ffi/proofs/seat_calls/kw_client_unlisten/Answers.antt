use Rattle.std.proofs.Common.{◌≡◌, Ok}
use Rattle.rt_world.specs.declared.step.Call.TheVariants as call
use Rattle.rt_foreign.specs.Status as status
use Rattle.rt_ffi.proofs.TextsRead.{unlistens}
use Rattle.rt_ffi.proofs.seat_calls.kw_client_unlisten.Goals as goal

pub returns : goal.returns
returns c =
    unlistens (Ok (call.Unlisten c.args.listener)) (c.ask.result ≡ status.closed) c.args.seat c.ask.result
    c.ask.new.given c.args.handle.now.loose.value c.ask.new.handle.loose.value c.ask.ensures
