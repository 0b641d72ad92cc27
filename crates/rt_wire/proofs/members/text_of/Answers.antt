use Rattle.std.proofs.Common.{◌≡◌, ◌++◌, IsUtf8, string_bytes, sym, ap, ◌∙◌, subst}
use Rattle.json.specs.Print.{print}
use Rattle.rt_tree.proofs.Writings.{written_text, written_reads}
use Rattle.rt_wire.proofs.members.text_of.Goals as goal

pub string_of-requires : goal.string_of-requires
string_of-requires c = subst IsUtf8 (sym (c.into_inner.ensures.items ∙ ap (λ b. b ++ print c.args.out.tokens) c.requires)) c.into_inner.ensures.utf8

pub returns-clause-text : goal.returns-clause-text
returns-clause-text c =
    let is : string_bytes c.string_of.result ≡ print c.args.out.tokens = c.string_of.ensures ∙ c.into_inner.ensures.items ∙ ap (λ b. b ++ print c.args.out.tokens) c.requires in
    λ d writes none. written_text d c.args.out.tokens _ writes is c.into_inner.ensures.reads_back none

pub returns-clause-reads_back : goal.returns-clause-reads_back
returns-clause-reads_back c =
    let is : string_bytes c.string_of.result ≡ print c.args.out.tokens = c.string_of.ensures ∙ c.into_inner.ensures.items ∙ ap (λ b. b ++ print c.args.out.tokens) c.requires in
    λ d writes shallow. written_reads d c.args.out.tokens _ writes is c.into_inner.ensures.reads_back shallow
