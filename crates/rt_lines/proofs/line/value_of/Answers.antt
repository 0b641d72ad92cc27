use Rattle.std.proofs.Common.{rules, inl, refl}
use Rattle.serde_json.specs.View.{view as data_of}
use Rattle.rt_lines.proofs.Bytes.{data_of_bytes-read, data_of_bytes-none}
use Rattle.rt_lines.proofs.line.value_of.Goals as goal

pub returns-in-Ok-clause-ok : goal.returns-in-Ok-clause-ok
returns-in-Ok-clause-ok c =
    data_of_bytes-read c.args.bytes.now c.unmarked.result.now (data_of c.in-Ok.value) c.unmarked.ensures
    c.in-Ok.ensures.ok.0 c.in-Ok.ensures.ok.1

pub returns-in-Err-2-clause-err : goal.returns-in-Err-2-clause-err
returns-in-Err-2-clause-err c = inl (
  refl,
  data_of_bytes-none c.args.bytes.now c.unmarked.result.now c.unmarked.ensures
      (c.in-Err-2.ensures.err (search rules)),
)
