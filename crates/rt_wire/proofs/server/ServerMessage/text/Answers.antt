use Rattle.std.proofs.Common.{◌≡◌, [], ◌∙◌, subst}
use Rattle.serde_json.specs.Written.{WritesValue}
use Rattle.rt_wire.specs.ServerData.{server_data}
use Rattle.rt_wire.proofs.ServerBack.{server_float, server_depth, server_text}
use Rattle.rt_wire.proofs.server.ServerMessage.text.Goals as goal

pub text_of-requires : goal.text_of-requires
text_of-requires c = c.in_ok-write_message.ensures.put.before ∙ c.in_ok-out.ensures.before

pub returns-clause-text : goal.returns-clause-text
returns-clause-text c =
    let d = server_data c.args.self.now in
    let writes = subst (λ ts. WritesValue d ts c.write_message.new.out.tokens) c.in_ok-out.ensures.tokens c.in_ok-write_message.ensures.put.value in
    c.text_of.ensures.text d writes (server_float c.args.self.now)

pub returns-clause-reads_back : goal.returns-clause-reads_back
returns-clause-reads_back c =
    let d = server_data c.args.self.now in
    let standing = c.in_ok-write_message.ensures.standing in
    let writes = subst (λ ts. WritesValue d ts c.write_message.new.out.tokens) c.in_ok-out.ensures.tokens c.in_ok-write_message.ensures.put.value in
    server_text c.args.self.now _ standing (c.text_of.ensures.reads_back d writes (server_depth c.args.self.now standing))
