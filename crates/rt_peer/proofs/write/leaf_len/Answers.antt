use Rattle.std.proofs.Common.{◌≡◌, length, w64, ap, sym, ◌∙◌, rules}
use mir.Val.{to_z, of_z}
use Rattle.std.specs.Fmt.{signed_decimal}
use Rattle.serde_json.specs.Written.{compact_text}
use Rattle.rt_tree.specs.Leaf.{number}
use Rattle.rt_tree.specs.LeafRef.{leaf_of_ref}
use Rattle.rt_tree.specs.Writing.{leaf_data}
use Rattle.rt_peer.proofs.TextLengths.{length-number}
use Rattle.rt_peer.proofs.write.leaf_len.Goals as goal

pub returns-in-Number : goal.returns-in-Number
returns-in-Number c =
    let is : number c.in-Number.value ≡ c.args.leaf.now = ap leaf_of_ref (sym c.in-Number.is) ∙ c.value.ensures.value in
    let back : to_z w64 (of_z w64 c.in-Number.value) ≡ c.in-Number.value = search rules in
    c.number_len.ensures ∙ ap (λ z. length (signed_decimal z)) back ∙ sym (length-number c.in-Number.value) ∙ ap (λ l. length (compact_text (leaf_data l))) is
