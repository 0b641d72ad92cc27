-- The entries of a write that is pending as the last.
use Rattle.std.proofs.Common.{◌≡◌, ℕ, ◌<◌, cond, List, [], ◌∷◌, ◌++◌, ap, ◌∙◌, Option, Some, None}
use Rattle.std.specs.Prelude.{◌==◌}
use Rattle.std.specs.List.{All, find}
use Rattle.std.specs.Option.{option_map}
use Rattle.std.proofs.lemmas.List.Elements.{All-head, All-tail}
use Rattle.rt_tree.specs.Assignments.{Assignment}
use Rattle.rt_writes.specs.Writes.{Write, entries_of}
use Rattle.rt_sync.proofs.TagLaws.{other_number}
use Rattle.rt_sync.proofs.Viewed.{same_number}

-- a write under that number
abbrev pub last : ℕ → List Assignment → Write
last id es = record { id = id; entries = es }

-- found by its number, which is above the others
pub last_entries : (writes : List Write) (id : ℕ) (es : List Assignment) → All (λ (w : Write). w.id < id) writes → entries_of id (writes ++ last id es ∷ []) ≡ Some es
last_entries [] id es low = ap (λ b. option_map (λ (w : Write). w.entries) (cond b (Some (last id es)) None)) (same_number id)
last_entries (w ∷ ws) id es low =
    ap (λ b. option_map (λ (x : Write). x.entries) (cond b (Some w) (find (λ (x : Write). x.id == id) (ws ++ last id es ∷ []))))
    (other_number w.id id (All-head (λ (x : Write). x.id < id) w ws low))
    ∙ last_entries ws id es (All-tail (λ (x : Write). x.id < id) w ws low)

-- what is lent of it
pub lent : (writes all : List Write) (id : ℕ) (es taken : List Assignment) → All (λ (w : Write). w.id < id) writes → all ≡ writes ++ last id es ∷ [] → Some taken ≡ entries_of id all → taken ≡ es
lent writes all id es taken low e f = same (f ∙ ap (entries_of id) e ∙ last_entries writes id es low)
  where
    same : Some taken ≡ Some es → taken ≡ es
    same g = cc

-- none is lacking
pub not_lent : (writes all : List Write) (id : ℕ) (es : List Assignment) → All (λ (w : Write). w.id < id) writes → all ≡ writes ++ last id es ∷ [] → ◌≡◌ {A = Option (List Assignment)} None (entries_of id all) → ⊥
not_lent writes all id es low e f = none (f ∙ ap (entries_of id) e ∙ last_entries writes id es low)
  where
    none : ◌≡◌ {A = Option (List Assignment)} None (Some es) → ⊥
    none g = cc
