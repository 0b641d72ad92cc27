use Rattle.std.proofs.Common.{rules, ◌≡◌, ◌∙◌, [], ◌∷◌, ◌++◌, option_map, w64, refl, sym, ap, subst, arith}
use mir.Val.{to_z, of_z}
use Rattle.std.proofs.lemmas.Result.{on_ok_weaker}
use Rattle.json.specs.Json as json
use Rattle.json.specs.Token.{number as digits}
use Rattle.std.specs.Fmt.{signed_decimal}
use Rattle.serde_json.specs.Data as value
use Rattle.serde_json.specs.Written.{WritesValue}
use Rattle.rt_tree.specs.Leaf.{truth, number, text, IsInRange}
use Rattle.rt_tree.specs.LeafRef.{leaf_of_ref}
use Rattle.rt_tree.specs.Writing.{leaf_data}
use Rattle.rt_tree.proofs.Writings.{integer_reads}
use Rattle.rt_tree.proofs.tree.text.write_leaf.Goals as goal

pub returns-in-Truth-clause-ok : goal.returns-in-Truth-clause-ok
returns-in-Truth-clause-ok c =
    let is : truth c.in-Truth.value ≡ c.args.leaf.now = ap leaf_of_ref (sym c.in-Truth.is) ∙ c.value.ensures.value in
    on_ok_weaker c.boolean.result (λ e. subst (λ l. WritesValue (leaf_data l) c.args.out.now.tokens c.boolean.new.self.tokens) is (json.boolean c.in-Truth.value, e, refl, omega arith, refl)) c.boolean.ensures.ok

pub returns-in-Number-clause-ok : goal.returns-in-Number-clause-ok
returns-in-Number-clause-ok c =
    let is : number c.in-Number.value ≡ c.args.leaf.now = ap leaf_of_ref (sym c.in-Number.is) ∙ c.value.ensures.value in
    let reads = integer_reads c.in-Number.value (subst IsInRange (sym is) c.value.ensures.in_range) in
    let back : to_z w64 (of_z w64 c.in-Number.value) ≡ c.in-Number.value = search rules in
    on_ok_weaker c.i64.result (λ e. subst (λ l. WritesValue (leaf_data l) c.args.out.now.tokens c.i64.new.self.tokens) is (json.number (signed_decimal c.in-Number.value), e ∙ ap (λ z. c.args.out.now.tokens ++ digits (signed_decimal z) ∷ []) back, ap (option_map value.number) reads.0, omega arith, ap json.number reads.1)) c.i64.ensures.ok

pub returns-in-Text-clause-ok : goal.returns-in-Text-clause-ok
returns-in-Text-clause-ok c =
    let is : text c.in-Text.value.now ≡ c.args.leaf.now = ap leaf_of_ref (sym c.in-Text.is) ∙ c.value.ensures.value in
    on_ok_weaker c.string.result (λ e. subst (λ l. WritesValue (leaf_data l) c.args.out.now.tokens c.string.new.self.tokens) is (json.string c.in-Text.value.now, e, refl, omega arith, refl)) c.string.ensures.ok
