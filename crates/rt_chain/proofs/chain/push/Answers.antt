use Rattle.std.proofs.Common.{◌≡◌, None, Some, subst, ◌∙◌}
use Rattle.slab.specs.Slab.{Updates, get}
use Rattle.rt_chain.proofs.chain.push.Goals as goal

pub returns : goal.returns
returns g c =
    let slot : c.insert_reserved.result ≡ c.args.slot = c.insert_reserved.ensures.key ∙ c.requires.slot in
    record {
      vacant = subst (λ n. get c.args.nodes.now n ≡ None) slot c.insert_reserved.ensures.was_vacant;
      mid = c.insert_reserved.new.self;
      low = c.join.new.nodes;
      came = subst (λ n. Updates c.args.nodes.now c.insert_reserved.new.self n (Some (record { value = c.args.value; marked = c.args.marked; previous = None; next = None }))) slot c.insert_reserved.ensures.updates;
      linked = c.join.ensures;
      ended = c.join-2.ensures;
    }
