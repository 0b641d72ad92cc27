use Rattle.std.proofs.Common.{◌≡◌, [], ◌∙◌, subst}
use Rattle.serde_json.specs.Written.{WritesValue}
use Rattle.rt_wire.specs.ClientData.{client_data}
use Rattle.rt_wire.proofs.Floats.{client_float}
use Rattle.rt_wire.proofs.ClientBack.{client_depth, client_text}
use Rattle.rt_wire.proofs.client.ClientMessage.text.Goals as goal

pub text_of-requires : goal.text_of-requires
text_of-requires c = c.in_ok-write_message.ensures.put.before ∙ c.in_ok-out.ensures.before

pub returns-clause-text : goal.returns-clause-text
returns-clause-text c =
    let d = client_data c.args.self.now in
    let writes = subst (λ ts. WritesValue d ts c.write_message.new.out.tokens) c.in_ok-out.ensures.tokens c.in_ok-write_message.ensures.put.value in
    c.text_of.ensures.text d writes (client_float c.args.self.now)

pub returns-clause-reads_back : goal.returns-clause-reads_back
returns-clause-reads_back c =
    let d = client_data c.args.self.now in
    let standing = c.in_ok-write_message.ensures.standing in
    let writes = subst (λ ts. WritesValue d ts c.write_message.new.out.tokens) c.in_ok-out.ensures.tokens c.in_ok-write_message.ensures.put.value in
    client_text c.args.self.now _ standing (c.text_of.ensures.reads_back d writes (client_depth c.args.self.now standing))
