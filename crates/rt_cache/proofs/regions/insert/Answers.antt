use Rattle.std.proofs.Common.{◌≡◌, ◌∙◌, List, ap, sym, subst, rules}
use lib.Dec.{T}
use Rattle.std.specs.FinMap as map_of
use Rattle.rt_cache.specs.declared.regions.Region.{Region}
use Rattle.std.specs.List.{insert, position_or_len}
use Rattle.std.specs.Ordering.{is_lt}
use Rattle.rt_tree.specs.PathTree.{path_cmp}
use Rattle.rt_cache.specs.inside.Held.{pairs_of}
use Rattle.rt_cache.proofs.Halves.{place_is}
use Rattle.rt_cache.proofs.InPlace.{put_in_place}
use Rattle.rt_cache.proofs.regions.insert.Goals as goal

pub returns-clause-placed : goal.returns-clause-placed
returns-clause-placed c =
    let items : c.insert-in_reserved_room.new.self.items ≡ insert c.args.regions.now.items c.place_of-place.result c.args.region = search rules in
    let place : c.place_of-place.result ≡ position_or_len (λ x. is_lt (path_cmp c.args.region.path x.path)) c.args.regions.now.items =
    place_is c.path.result.now c.deref.result.now c.place_of-place.result
    (subst (λ (rs : List Region). T (map_of.is_sorted path_cmp (pairs_of rs))) (sym c.deref.ensures.value) c.requires.sorted)
    c.place_of-place.ensures.within c.place_of-place.ensures.front c.place_of-place.ensures.behind
    ∙ (λ i. position_or_len (λ (x : Region). is_lt (path_cmp (c.path.ensures i) x.path)) (c.deref.ensures.value i)) in
    ap pairs_of (items ∙ ap (λ n. insert c.args.regions.now.items n c.args.region) place) ∙ put_in_place c.args.region c.args.regions.now.items c.requires.absent
