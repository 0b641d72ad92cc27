use Rattle.std.proofs.Common.{◌≡◌, List, take, sym, ap, subst, ◌∙◌}
use Rattle.std.specs.Map.{keys_of}
use Rattle.rt_tree.specs.PathTree.{Key, Path, PathTree}
use Rattle.rt_cache.specs.Brought.{base}
use Rattle.rt_world.specs.Touched.{children_at}
use Rattle.rt_world.specs.Views.{seen_over}
use Rattle.rt_parts.specs.inside.Named.{AreNamedKeys}
use Rattle.rt_parts.specs.inside.Pairs.{HasOwn}
use Rattle.rt_parts.proofs.NamedLaws.{keys_at}
use Rattle.rt_parts.proofs.PushLaws.{taken_all}
use Rattle.rt_parts.proofs.views.named_children.Goals as goal

pub returns-clause-children : goal.returns-clause-children
returns-clause-children c =
    let from : PathTree = seen_over (base c.args.brought.now c.args.query.now) c.args.pending.now c.args.query.now in
    let ks : List Key = c.in_ok-keys.keys.items in
    let items : c.deref-key-items.result.now ≡ ks = c.deref-key-items.ensures.value in
    let all : take c.loop-key.key-index c.deref-key-items.result.now ≡ c.deref-key-items.result.now = taken_all c.loop-key.key-index c.deref-key-items.result.now c.loop-key-test.false in
    let is : c.loop-key.named.items ≡ children_at from ks = c.loop-key.invariant.children ∙ ap (children_at from) (all ∙ items) in
    let keys : keys_of c.loop-key.named.items ≡ ks = ap keys_of is ∙ keys_at from ks in
    let named : AreNamedKeys c.path.result.now c.args.entries.now ks = c.in_ok-keys.ensures in
    record {
      keys = subst (AreNamedKeys c.args.query.now.path c.args.entries.now) (sym keys) (subst (λ (p : Path). AreNamedKeys p c.args.entries.now ks) c.path.ensures named);
      seen = is ∙ ap (children_at from) (sym keys);
    }

pub named_keys-requires : goal.named_keys-requires
named_keys-requires c = subst (HasOwn c.args.entries.now c.args.own.now) (sym c.path.ensures) c.requires
