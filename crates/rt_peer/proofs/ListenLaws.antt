-- What is kept of listens by path, and what is found by it.
use Rattle.std.proofs.Common.{◌≡◌, ℕ, Bool, true, false, cond, not, ◌||◌, List, [], ◌∷◌, get_or, refl, sym, ap, subst, ◌∙◌}
use mathlib.Core.Bool.{true≢false}
use Rattle.std.specs.List.{All, filter}
use Rattle.std.specs.Ordering.{is_eq}
use Rattle.std.specs.Cmp.{tied_itself}
use Rattle.std.proofs.lemmas.List.Elements.{All-head, All-tail}
use Rattle.rt_tree.specs.PathTree.{Path}
use Rattle.rt_tree.specs.Assignments.{Assignment}
use Rattle.rt_peer.specs.Peers.{Listen, in_place, is_at, is_before}
use Rattle.rt_peer.specs.declared.listens.ListenKey.{ListenKey}
use Rattle.rt_peer.specs.inside.Spots.{owner_cmp, spot_cmp, owners_total, spots_total, owner_of, spot_of, has_spot}
use Rattle.rt_peer.specs.inside.Spots.{AllStand, Stand}
use Rattle.rt_peer.specs.inside.Met.{numbers_of, picked, AreHanded, AreMet, AreSameOver, Met}
use Rattle.rt_peer.proofs.Places.{all-in_place, filter_with}
use Rattle.rt_peer.proofs.FoundLaws.{own_is}
use Rattle.rt_peer.proofs.SpotLaws.{spot_exact}

-- ---- one that is taken out, one that is added

abbrev pub IsSpotAdded : ListenKey → List ListenKey → List ListenKey → Type 0
IsSpotAdded k old new = (q : ListenKey) → has_spot new q ≡ cond (is_eq (spot_cmp k q)) true (has_spot old q)

abbrev pub IsSpotTaken : ListenKey → List ListenKey → List ListenKey → Type 0
IsSpotTaken k old new = (q : ListenKey) → has_spot new q ≡ cond (is_eq (spot_cmp k q)) false (has_spot old q)

pub added_stand : (k : ListenKey) (old new : List ListenKey) → IsSpotAdded k old new → (l : Listen) → Stand old l → Stand new l
added_stand k old new e l h =
    e (spot_of l) ∙ elim (is_eq (spot_cmp k (spot_of l))) as (λ b. cond b true (has_spot old (spot_of l)) ≡ true) [
      | true ↦ refl
      | false ↦ h
    ]

pub added_there : (x : Listen) (old new : List ListenKey) → IsSpotAdded (spot_of x) old new → Stand new x
added_there x old new e =
    e (spot_of x) ∙ ap (λ o. cond (is_eq o) true (has_spot old (spot_of x))) (tied_itself spots_total (spot_of x))

-- whose owner is another, stands elsewhere
elsewhere : (p : Path) (n t : ℕ) (l : Listen) → is_at n t l ≡ false
    → is_eq (spot_cmp (record { path = p; owner = record { connection = n; tag = t } }) (spot_of l)) ≡ false
elsewhere p n t l other =
    let k : ListenKey = record { path = p; owner = record { connection = n; tag = t } } in
    elim (is_eq (spot_cmp k (spot_of l))) as (λ b. is_eq (spot_cmp k (spot_of l)) ≡ b → b ≡ false) [
      | true ↦ λ e.
          let same : k.owner ≡ owner_of l = ap (λ (s : ListenKey). s.owner) (spot_exact k (spot_of l) e) in
          absurd (true≢false (sym (sym (own_is k.owner l) ∙ ap (λ o. is_eq (owner_cmp (owner_of l) o)) same ∙ ap is_eq (tied_itself owners_total (owner_of l))) ∙ other))
      | false ↦ λ e. refl
    ] refl

pub taken_stand : (p : Path) (n t : ℕ) (old new : List ListenKey)
    → IsSpotTaken (record { path = p; owner = record { connection = n; tag = t } }) old new
    → (l : Listen) → is_at n t l ≡ false → Stand old l → Stand new l
taken_stand p n t old new e l other h =
    e (spot_of l) ∙ ap (λ b. cond b false (has_spot old (spot_of l))) (elsewhere p n t l other) ∙ h

-- ---- all that is kept

not_true : (b : Bool) → not b ≡ true → b ≡ false
not_true true e = sym e
not_true false e = refl

pub stand_taken : (n t : ℕ) (ls : List Listen) (old new : List ListenKey)
    → ((l : Listen) → is_at n t l ≡ false → Stand old l → Stand new l) → AllStand old ls
    → AllStand new (filter (λ l. not (is_at n t l)) ls)
stand_taken n t ls old new e all =
    filter_with (λ l. not (is_at n t l)) (Stand old) (Stand new) ls all (λ l f h. e l (not_true (is_at n t l) f) h)

-- ---- what is found

all_at : (P : ListenKey → Type 0) (ks : List ListenKey) (s : ListenKey) → All P ks → has_spot ks s ≡ true → P s
all_at P [] s all h = absurd (true≢false (sym h))
all_at P (k ∷ ks) s all h =
    elim (is_eq (spot_cmp s k)) as (λ b. is_eq (spot_cmp s k) ≡ b → (b || has_spot ks s) ≡ true → P s) [
      | true ↦ λ f g. subst P (sym (spot_exact s k f)) (All-head P k ks all)
      | false ↦ λ f g. all_at P ks s (All-tail P k ks all) g
    ] refl h

pub handed_listens : (es : List Assignment) (spots : List ListenKey) (ls : List Listen) (met : Met)
    → AllStand spots ls → AreMet es es met spots → AreHanded es met ls
handed_listens es spots ls met stand all k d lt =
    all_at (λ s. AreSameOver s.path (picked es (numbers_of met s.owner)) es) spots (spot_of (get_or ls k d)) all (stand k d lt)

-- ---- a listen that is put or taken out

pub none_left : (n t : ℕ) (ls : List Listen) → filter (is_at n t) (filter (λ l. not (is_at n t l)) ls) ≡ []
none_left n t [] = refl
none_left n t (l ∷ ls) =
    elim (is_at n t l) as (λ b. is_at n t l ≡ b
    → filter (is_at n t) (cond (not b) (l ∷ filter (λ m. not (is_at n t m)) ls) (filter (λ m. not (is_at n t m)) ls)) ≡ []) [
      | true ↦ λ e. none_left n t ls
      | false ↦ λ e. ap (λ b. cond b (l ∷ filter (is_at n t) (filter (λ m. not (is_at n t m)) ls))
          (filter (is_at n t) (filter (λ m. not (is_at n t m)) ls))) e ∙ none_left n t ls
    ] refl

-- where a listen is put, and its spot is among them
pub stand_put : (x : Listen) (ls : List Listen) (old new : List ListenKey) → ((l : Listen) → Stand old l → Stand new l)
    → Stand new x → AllStand old ls → AllStand new (in_place is_before x ls)
stand_put x ls old new kept added all =
    all-in_place (Stand new) is_before x ls (λ k d lt. kept (get_or ls k d) (all k d lt)) added

-- and where none is put
pub stand_still : (ls : List Listen) (old new : List ListenKey) → ((l : Listen) → Stand old l → Stand new l)
    → AllStand old ls → AllStand new ls
stand_still ls old new kept all k d lt = kept (get_or ls k d) (all k d lt)
