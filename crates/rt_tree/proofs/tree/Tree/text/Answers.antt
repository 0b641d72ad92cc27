use Rattle.std.proofs.Common.{rules, ◌≡◌, ◌++◌, [], Some, IsUtf8, string_bytes, sym, ap, ◌∙◌, subst, arith}
use Rattle.std.specs.Option.{option_map_or}
use Rattle.json.specs.Print.{print}
use Rattle.serde_json.specs.Read.{read}
use Rattle.serde_json.specs.Written.{WritesValue}
use Rattle.rt_tree.specs.laws.Allowed.{shallow_of}
use Rattle.rt_tree.specs.declared.error.TreeError.TheVariants.{NotJson}
use Rattle.rt_tree.specs.Reading.{data_fault}
use Rattle.rt_tree.specs.Writing.{data_of}
use Rattle.rt_tree.proofs.Standing.{data_fault-data_of, tree_of_data-data_of}
use Rattle.rt_tree.proofs.Writings.{has_float-data_of, depth-data_of, written_text, written_reads}
use Rattle.rt_tree.proofs.tree.Tree.text.Goals as goal

pub text_of-requires : goal.text_of-requires
text_of-requires c =
    let old : c.new-out.result.before ≡ [] = search rules in
    let before = c.write_tree.ensures.before ∙ old in
    subst IsUtf8 (sym (c.into_inner.ensures.items ∙ ap (λ b. b ++ print c.write_tree.new.out.tokens) before)) c.into_inner.ensures.utf8

pub returns-clause-text : goal.returns-clause-text
returns-clause-text c =
    let d = data_of c.args.self.now in
    let ts = c.write_tree.new.out.tokens in
    let old : c.new-out.result.before ≡ [] = search rules in
    let is : string_bytes c.text_of.result ≡ print ts = c.text_of.ensures ∙ c.into_inner.ensures.items ∙ ap (λ b. b ++ print ts) (c.write_tree.ensures.before ∙ old) in
    let writes : WritesValue d [] ts = subst (λ us. WritesValue d us ts) c.new-out.ensures.tokens c.in_ok-write_tree.ensures.ok in
    written_text d ts _ writes is c.into_inner.ensures.reads_back (has_float-data_of c.args.self.now)

pub returns-clause-reads_back : goal.returns-clause-reads_back
returns-clause-reads_back c =
    let d = data_of c.args.self.now in
    let ts = c.write_tree.new.out.tokens in
    let old : c.new-out.result.before ≡ [] = search rules in
    let is : string_bytes c.text_of.result ≡ print ts = c.text_of.ensures ∙ c.into_inner.ensures.items ∙ ap (λ b. b ++ print ts) (c.write_tree.ensures.before ∙ old) in
    let writes : WritesValue d [] ts = subst (λ us. WritesValue d us ts) c.new-out.ensures.tokens c.in_ok-write_tree.ensures.ok in
    written_reads d ts _ writes is c.into_inner.ensures.reads_back (omega (arith, depth-data_of c.args.self.now, shallow_of c.args.self.now c.write_tree.ensures.allowed))

pub returns-clause-read_fault : goal.returns-clause-read_fault
returns-clause-read_fault c =
    let d = data_of c.args.self.now in
    let ts = c.write_tree.new.out.tokens in
    let old : c.new-out.result.before ≡ [] = search rules in
    let is : string_bytes c.text_of.result ≡ print ts = c.text_of.ensures ∙ c.into_inner.ensures.items ∙ ap (λ b. b ++ print ts) (c.write_tree.ensures.before ∙ old) in
    let writes : WritesValue d [] ts = subst (λ us. WritesValue d us ts) c.new-out.ensures.tokens c.in_ok-write_tree.ensures.ok in
    let back : read (string_bytes c.text_of.result) ≡ Some d = written_reads d ts _ writes is c.into_inner.ensures.reads_back (omega (arith, depth-data_of c.args.self.now, shallow_of c.args.self.now c.write_tree.ensures.allowed)) in
    ap (λ o. option_map_or data_fault o (Some NotJson)) back ∙ data_fault-data_of c.args.self.now c.write_tree.ensures.allowed

pub returns-clause-same_tree : goal.returns-clause-same_tree
returns-clause-same_tree c = tree_of_data-data_of c.args.self.now c.write_tree.ensures.allowed
