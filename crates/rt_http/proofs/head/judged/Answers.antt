use Rattle.rt_http.specs.Handshakes.{key_asked}
use Rattle.rt_http.proofs.Judged.{judged_err}
use Rattle.rt_http.proofs.head.judged.Goals as goal

pub returns-in-Err : goal.returns-in-Err
returns-in-Err c =
    judged_err (key_asked c.args.bytes.now c.args.spans.now c.args.found.now) c.in-Err.why c.refused_for.result
    c.args.found.now.len c.in-Err.ensures c.refused_for.ensures
