use Rattle.rt_http.specs.Answers.{file_fields, line_bytes, line_end}
use Rattle.rt_http.specs.declared.answer.Status.TheVariants.{Okay}
use Rattle.rt_http.proofs.Puts.{on_ok, three}
use Rattle.rt_http.proofs.answer.put_file_head.Goals as goal

pub returns : goal.returns
returns c =
    on_ok c.put.result
    (λ h. three c.args.out.now.items (line_bytes Okay) (file_fields c.args.kind.now c.args.size c.args.is_kept)
    line_end c.put_line.new.out.items c.put_file_fields.new.out.items c.put.new.out.items c.in_ok-put_line.ensures
    c.in_ok-put_file_fields.ensures h)
    c.put.ensures
