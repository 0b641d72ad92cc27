use Rattle.std.proofs.Common.{◌++◌, ◌∙◌, ap}
use Rattle.std.specs.Prelude.{codes, decimal}
use Rattle.rt_http.specs.Answers.{field_bytes, going_on}
use Rattle.rt_http.proofs.Puts.{five, on_ok}
use Rattle.rt_http.proofs.answer.put_file_fields.Goals as goal

pub returns : goal.returns
returns c =
    on_ok c.put_field-4.result
    (λ h. five c.args.out.now.items (field_bytes (codes "Content-Type", c.args.kind.now))
    (field_bytes (codes "X-Content-Type-Options", codes "nosniff"))
    (field_bytes (codes "Cache-Control", codes "no-cache")) (field_bytes (codes "Content-Length", decimal c.args.size))
    (field_bytes (codes "Connection", going_on c.args.is_kept)) c.put_field.new.out.items c.put_field-2.new.out.items
    c.put_field-3.new.out.items c.put_length.new.out.items c.put_field-4.new.out.items c.in_ok-put_field.ensures
    c.in_ok-put_field-2.ensures c.in_ok-put_field-3.ensures c.in_ok-put_length.ensures
    (h ∙ ap (λ v. c.put_length.new.out.items ++ field_bytes (codes "Connection", v)) c.going_on.ensures))
    c.put_field-4.ensures
