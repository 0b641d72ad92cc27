use Rattle.std.specs.Prelude.{codes}
use Rattle.rt_http.specs.Answers.{field_bytes}
use Rattle.rt_http.proofs.Puts.{four, on_ok}
use Rattle.rt_http.proofs.answer.put_origin_fields.Goals as goal

pub returns : goal.returns
returns c =
    on_ok c.put_field-3.result
    (λ h. four c.args.out.now.items (field_bytes (codes "Access-Control-Allow-Origin", c.args.origin.now))
    (field_bytes (codes "Access-Control-Allow-Methods", codes "GET, HEAD, PUT, PATCH, POST, DELETE"))
    (field_bytes (codes "Access-Control-Allow-Headers", codes "Content-Type"))
    (field_bytes (codes "Vary", codes "Origin")) c.put_value.new.out.items c.put_field.new.out.items
    c.put_field-2.new.out.items c.put_field-3.new.out.items c.in_ok-put_value.ensures c.in_ok-put_field.ensures
    c.in_ok-put_field-2.ensures h)
    c.put_field-3.ensures
