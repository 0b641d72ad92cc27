use Rattle.std.proofs.Common.{◌≡◌, ℕ, Bool, true, false, ◌&&◌, [], ◌∷◌, refl, sym, ap, ◌∙◌, Option, Some, None}
use Rattle.std.specs.List.{list_all}
use Rattle.std.specs.Option.{option_copied, option_map_or}
use Rattle.rt_tree.specs.PathTree.{Path, PathTree}
use Rattle.rt_query.specs.Queries.{Query}
use Rattle.rt_cache.specs.Brought.{is_without_window}
use Rattle.rt_world.specs.declared.step.Step.{Step}
use Rattle.rt_world.specs.World.{World, listen_of}
use Rattle.rt_world.specs.Refusals.{is_stale}
use Rattle.rt_sync.specs.inside.StateView.{world_of}
use Rattle.rt_sync.proofs.state.State.data_is_stale.Goals as goal

and_true : (b : Bool) → (b && true) ≡ b
and_true true = refl
and_true false = refl

-- a push of one tree is stale where its listen is not kept, or it wants a window
one_alone : (w : World) (tag : ℕ) (path : Path) (tree : PathTree)
    → is_stale w (Step.Data tag path tree) ≡ option_map_or (λ q. is_without_window w.brought q (path, tree)) (listen_of w tag) true
one_alone w tag path tree = at (listen_of w tag)
  where
    at : (o : Option Query) → (option_map_or (λ q. list_all (is_without_window w.brought q) ((path, tree) ∷ [])) o true && true)
        ≡ option_map_or (λ q. is_without_window w.brought q (path, tree)) o true
    at None = refl
    at (Some q) = and_true (is_without_window w.brought q (path, tree) && true) ∙ and_true (is_without_window w.brought q (path, tree))

pub returns-in-Some : goal.returns-in-Some
returns-in-Some c = λ tree.
    let w : World = world_of c.args.self.now in
    let q : Query = c.in-Some.query.now in
    c.lacks_window.ensures tree
    ∙ ap (λ (o : Option Query). option_map_or (λ x. is_without_window w.brought x (c.args.path.now, tree)) o true) (sym (ap option_copied c.in-Some.is) ∙ c.listen_of.ensures)
    ∙ sym (one_alone w c.args.tag c.args.path.now tree)
