use Rattle.std.proofs.Common.{◌≡◌, [], ◌∷◌, ◌++◌, Some, string_bytes, string_cmp, refl, sym, ap, ap₂, ◌∙◌, subst, arith, append_assoc, append-nil}
use Rattle.std.proofs.lemmas.Result.{on_ok_weaker}
use Rattle.std.specs.Option.{option_and_then}
use Rattle.std.specs.List.Sorted.{IsStrictlySortedBy}
use Rattle.std.specs.Map.{keys_of}
use Rattle.json.specs.Token.{key}
use Rattle.json.specs.Json as json
use Rattle.json.specs.Tree as text
use Rattle.serde_json.specs.Data.{put, members_depth}
use Rattle.serde_json.specs.Read.{of_members}
use Rattle.serde_json.specs.Written.{members_outline, WritesMembers}
use Rattle.rt_wire.specs.inside.Writing.{lent_members}
use Rattle.rt_wire.proofs.Lent.{Lent, lent_last}
use Rattle.rt_wire.proofs.members.write_trees.Goals as goal

pub loop-name-preserved : goal.loop-name-preserved
loop-name-preserved c =
    let l = c.loop-name in
    let done = l.invariant.1 in
    let t : Lent = (c.in-Some.name.now, c.in-Some.tree.now) in
    let k = string_bytes c.in-Some.name.now in
    let left = c.next.new.self in
    let step : l.name-iterator ≡ t ∷ left = c.in-Some.ensures.steps in
    let all : c.args.trees.now.entries ≡ done ++ t ∷ left = l.invariant.2 ∙ ap (λ ts. done ++ ts) step in
    let last = lent_last done t left (subst (λ ts. IsStrictlySortedBy string_cmp (keys_of ts)) all c.iter-name-items.ensures.ordered) in
    let named : c.key.new.self.tokens ≡ l.out.tokens ++ key k ∷ [] = c.in_ok-key.ensures.ok ∙ ap (λ n. l.out.tokens ++ key n ∷ []) c.as_str.ensures.value in
    let w = c.in_ok-write_tree.ensures.ok in (
      c.write_tree.ensures.before ∙ c.key.ensures.room.0 ∙ l.invariant.0,
      done ++ t ∷ [],
      all ∙ sym (append_assoc done (t ∷ []) left),
      λ ms reads shallow same.
          let tokens : l.out.tokens ++ text.members_tokens (json.member k w.0 ms) ≡ c.write_tree.new.out.tokens ++ text.members_tokens ms =
          sym (ap (λ ts. ts ++ text.members_tokens ms) (w.1 ∙ ap (λ ts. ts ++ text.json_tokens w.0) named) ∙ append_assoc _ (text.json_tokens w.0) _ ∙ append_assoc l.out.tokens (key k ∷ []) _) in
          subst (WritesMembers (lent_members c.args.trees.now.entries) c.args.out.now.tokens) tokens
          (l.invariant.3 (json.member k w.0 ms) (ap (option_and_then (λ d. of_members ms (put k d (lent_members done)))) w.2 ∙ ap (of_members ms) last ∙ reads)
          (omega (arith, w.3, shallow, ap (λ ts. members_depth (lent_members ts)) step))
          (ap₂ (json.member k) w.4 same ∙ ap (λ ts. members_outline (lent_members ts)) (sym step))),
    )

pub returns-clause-ok : goal.returns-clause-ok
returns-clause-ok c =
    let l = c.loop-name in
    let done = l.invariant.1 in
    let all : c.args.trees.now.entries ≡ done = l.invariant.2 ∙ ap (λ ts. done ++ ts) c.in-None.ensures.steps.0 ∙ append-nil done in
    on_ok_weaker c.end_object.result (λ e.
    subst (WritesMembers (lent_members c.args.trees.now.entries) c.args.out.now.tokens) (sym e)
    (l.invariant.3 json.no_members (ap (λ ts. Some (lent_members ts)) (sym all)) (omega arith)
    (ap (λ ts. members_outline (lent_members ts)) (sym c.in-None.ensures.steps.0)))) c.end_object.ensures.ok
