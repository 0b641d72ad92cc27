-- What a change of cover leaves, told of slices of what there is.
use Rattle.std.proofs.Common.{◌≡◌, ◌∙◌, ℕ, ◌<◌, ◌||◌, length, get_or, ap, sym, subst, not, Bool, [], List, IfOk, Vec, Global}
use Rattle.std.specs.List.{filter, filter_map}
use Rattle.std.specs.declared.result.Result.{Result}
use Rattle.std.specs.declared.result.Result.TheVariants.{Ok}
use Rattle.rt_tree.specs.PathTree.{Path, PathTree}
use Rattle.rt_query.specs.Queries.{Query}
use Rattle.rt_cache.specs.Recover.{reaches, with_regions, EndsForms}
use Rattle.rt_cache.specs.declared.regions.Region.{Region}
use Rattle.rt_cache.specs.declared.by_path.Span.{Span}
use Rattle.rt_cache.specs.declared.windows.Window.{Window}
use Rattle.rt_cache.specs.inside.Cuts.{part_below, IsCut}
use Rattle.rt_cache.specs.inside.Handing.{window_queries, AreThose, AreHanded}
use Rattle.rt_cache.specs.inside.Held.{pairs_of, entries_of, held}
use Rattle.rt_cache.specs.inside.Spans.{have_place, AreInOrder, AreLost}
use Rattle.rt_cache.proofs.Ending.{paired_all}

-- which regions are lost where forms end
pub ended_lost : (ended begun were registered kept : List Query) (old rs : List Region) (spans : List Span) → rs ≡ old
    → EndsForms ended begun were registered kept (pairs_of old) → AreInOrder 0 spans (length rs)
    → ((k : ℕ) (d : Region) → k < length rs → have_place spans k ≡ not (not (reaches ended (get_or rs k d).path) || reaches begun (get_or rs k d).path))
    → AreLost kept old spans
ended_lost ended begun were registered kept old rs spans e h order places = (
  subst (λ (xs : List Region). AreInOrder 0 spans (length xs)) e order,
  λ k d lt.
      ap not (paired_all (λ (r : Path × PathTree). reaches kept r.0 ≡ (not (reaches ended r.0) || reaches begun r.0)) old h.regions k d lt)
      ∙ sym (subst (λ (xs : List Region). (k : ℕ) (d : Region) → k < length xs → have_place spans k ≡ not (not (reaches ended (get_or xs k d).path) || reaches begun (get_or xs k d).path)) e places k d lt),
)

-- the parts
pub parts_of_left : {E : Type 0} (r : Result (Vec Region Global) E) (all : Vec Region Global) (kept listens : List Query) (rs old : List Region) (ss lost : List Span)
    → rs ≡ old → ss ≡ lost → r ≡ Ok all
    → (AreLost kept rs ss → IfOk r (λ parts. pairs_of parts.items ≡ with_regions [] (filter_map (part_below (filter (λ r. not (reaches kept r.0)) (pairs_of rs))) listens)))
    → AreLost kept old lost
    → pairs_of all.items ≡ with_regions [] (filter_map (part_below (filter (λ r. not (reaches kept r.0)) (pairs_of old))) listens)
parts_of_left r all kept listens rs old ss lost e f was told h =
    subst (λ (xs : List Region). pairs_of all.items ≡ with_regions [] (filter_map (part_below (filter (λ r. not (reaches kept r.0)) (pairs_of xs))) listens)) e
    (subst (λ x. IfOk x (λ parts. pairs_of parts.items ≡ with_regions [] (filter_map (part_below (filter (λ r. not (reaches kept r.0)) (pairs_of rs))) listens))) was
    (told (subst (λ (xs : List Region). AreLost kept xs ss) (sym e) (subst (λ (xs : List Span). AreLost kept old xs) (sym f) h))))

-- the windows that are handed on
pub handed_of : {E : Type 0} (r : Result (Vec Window Global) E) (all : Vec Window Global) (registered kept were forms those : List Query) (among : Bool)
    (rs old : List Region) (ss lost : List Span) (ps parts : List Region) (xs ws : List Window)
    → rs ≡ old → ss ≡ lost → ps ≡ parts → xs ≡ ws → r ≡ Ok all
    → (IsCut kept rs ss ps → AreThose registered forms those among (window_queries xs) → IfOk r (λ handed. AreHanded registered kept (held were rs xs) (entries_of handed.items)))
    → IsCut kept old lost parts → AreThose registered forms those among (window_queries ws)
    → AreHanded registered kept (held were old ws) (entries_of all.items)
handed_of r all registered kept were forms those among rs old ss lost ps parts xs ws e f g k was told cut h =
    subst (λ (ys : List Region). AreHanded registered kept (held were ys ws) (entries_of all.items)) e
    (subst (λ (ys : List Window). AreHanded registered kept (held were rs ys) (entries_of all.items)) k
    (subst (λ x. IfOk x (λ handed. AreHanded registered kept (held were rs xs) (entries_of handed.items))) was
    (told (subst (λ (ys : List Region). IsCut kept ys ss ps) (sym e)
    (subst (λ (ys : List Span). IsCut kept old ys ps) (sym f) (subst (λ (ys : List Region). IsCut kept old lost ys) (sym g) cut)))
    (subst (λ (ys : List Window). AreThose registered forms those among (window_queries ys)) (sym k) h))))

-- what a change takes out, told of what there is
pub cut_moved : (kept : List Query) (rs old : List Region) (ss lost : List Span) (ps parts : List Region) → rs ≡ old → ss ≡ lost → ps ≡ parts
    → IsCut kept old lost parts → IsCut kept rs ss ps
cut_moved kept rs old ss lost ps parts e f g cut =
    subst (λ (ys : List Region). IsCut kept ys ss ps) (sym e)
    (subst (λ (ys : List Span). IsCut kept old ys ps) (sym f) (subst (λ (ys : List Region). IsCut kept old lost ys) (sym g) cut))
