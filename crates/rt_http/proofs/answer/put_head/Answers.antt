use Rattle.std.specs.Prelude.{option_copied}
use Rattle.rt_http.specs.Answers.{allowed, answer_fields, line_bytes, line_end, page_fields}
use Rattle.rt_http.proofs.Puts.{five, on_ok}
use Rattle.rt_http.proofs.answer.put_head.Goals as goal

pub returns : goal.returns
returns c =
    on_ok c.put.result
    (λ h. five c.args.out.now.items (line_bytes c.args.status) (answer_fields c.args.is_kept c.args.size)
    (page_fields (option_copied c.args.page)) (allowed c.args.status) line_end c.put_line.new.out.items
    c.put_fields.new.out.items c.put_page.new.out.items c.put_allowed.new.out.items c.put.new.out.items
    c.in_ok-put_line.ensures c.in_ok-put_fields.ensures c.in_ok-put_page.ensures c.in_ok-put_allowed.ensures h)
    c.put.ensures
