use Rattle.std.proofs.Common.{rules, ◌≡◌, Bool, true, [], Some, None, arith, ap, sym, subst, ◌∙◌}
use Rattle.std.specs.Prelude.{if◌then◌else◌}
use Rattle.std.proofs.lemmas.Grind.{common_steps}
use Rattle.serde_json.specs.Written.{compact_text, WritesValue}
use Rattle.rt_query.specs.Queries.{is_filtered}
use Rattle.rt_wire.specs.QueryData.{query_data}
use Rattle.rt_wire.proofs.Floats.{query_float}
use Rattle.rt_wire.proofs.query.query_text.Goals as goal

pub text_of-requires : goal.text_of-requires
text_of-requires c = c.in_ok-write_query.ensures.put.before ∙ c.in_ok-out.ensures.before

pub returns-clause-text : goal.returns-clause-text
returns-clause-text c =
    let filtered : is_filtered c.args.query.now ≡ true = first_of (search rules, grind (arith, common_steps)) in
    let d = query_data c.args.query.now in
    let writes = subst (λ ts. WritesValue d ts c.write_query.new.out.tokens) c.in_ok-out.ensures.tokens c.in_ok-write_query.ensures.put.value in
    ap Some (c.text_of.ensures.text d writes (query_float c.args.query.now)) ∙ sym (ap (λ (b : Bool). if b then Some (compact_text d) else None) filtered)
