use Rattle.rt_http.proofs.Heads.{full_window, whole_window}
use Rattle.rt_http.proofs.head.window.Goals as goal

pub slice_bounds-result-end : goal.slice_bounds-result-end
slice_bounds-result-end c = full_window 16384 c.args.bytes.now c.if-bytes-gt-MAX_HEAD_BYTES.true

pub returns-else-bytes-gt-MAX_HEAD_BYTES : goal.returns-else-bytes-gt-MAX_HEAD_BYTES
returns-else-bytes-gt-MAX_HEAD_BYTES c = whole_window 16384 c.args.bytes.now c.if-bytes-gt-MAX_HEAD_BYTES.false
