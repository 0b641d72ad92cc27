-- What a step changes of the pending writes is its entries.
use Rattle.std.proofs.Common.{◌≡◌, ℕ, Bool, true, false, cond, not, ◌||◌, ◌==◌, List, [], ◌∷◌, ◌++◌, refl, sym, ap, subst, ◌∙◌, append-nil, Option, Some, None, ◌<◌, arith}
use Rattle.std.specs.Prelude.{unwrap_or}
use Rattle.std.specs.List.{filter, find, cons_option, fold, list_any, All, AllPairs}
use Rattle.std.specs.Option.{option_map, option_map_or}
use Rattle.std.proofs.lemmas.List.Elements.{All-head, All-tail, filter-append, filter_map-append}
use Rattle.std.proofs.lemmas.List.Folds.{list_any-append}
use Rattle.std.proofs.lemmas.Grind.{flat_map-append}
use Rattle.rt_tree.specs.PathTree.{Path, PathTree}
use Rattle.rt_tree.specs.Assignments.{Assignment, is_at_or_above, do_overlap}
use Rattle.rt_writes.specs.Writes.{Write, assignments, overlaid, overlay, sets_whole}
use Rattle.rt_writes.specs.Writes as writes
use Rattle.rt_writes.specs.laws.TouchLaws.{fold-untouched}
use Rattle.rt_wire.specs.declared.request.Asked.{Asked}
use Rattle.rt_wire.specs.declared.request.Asked.TheVariants.{Now, AtDisconnect}
use Rattle.rt_world.specs.declared.step.Request.{Request}
use Rattle.rt_world.specs.declared.step.Step.{Step}
use Rattle.rt_world.specs.World.{Reason, World, entries_of, pending, write_asked}
use Rattle.rt_world.specs.After.{kind, requests_after}
use Rattle.rt_world.specs.Touched.{entries_settled, entries_asked, entries_pushed, entries_by}
use Rattle.rt_cover.specs.laws.Pairs.{AllPairs-first, AllPairs-rest}
use Rattle.rt_world.proofs.KindLaws.{Requesting, keeping, unseating, asking, settling, orderly}
use Rattle.rt_world.proofs.Listeners.{same_number, other_number, or_false_left, or_false_right}
use Rattle.rt_world.specs.Sound.{IsSound}
use Rattle.rt_world.proofs.WrittenLaws.{pending-unseated}

-- ---- entries that bear on a path

-- the entries at, above or below c
abbrev pub touching : Path → List Assignment → List Assignment
touching c entries = filter (λ a. do_overlap a.0 c) entries

abbrev pub misses : Path → List Assignment → Type 0
misses c entries = list_any (λ (a : Assignment). do_overlap a.0 c) entries ≡ false

none_touch : (c : Path) (entries : List Assignment) → misses c entries → touching c entries ≡ []
none_touch c [] h = refl
none_touch c (a ∷ entries) h =
    ap (λ b. cond b (a ∷ touching c entries) (touching c entries)) (or_false_left (do_overlap a.0 c) (list_any (λ (x : Assignment). do_overlap x.0 c) entries) h)
    ∙ none_touch c entries (or_false_right (do_overlap a.0 c) _ h)

-- only they bear on the overlay
overlay-touching : (c : Path) (entries : List Assignment) (t : PathTree) → fold (overlaid c) t entries ≡ fold (overlaid c) t (touching c entries)
overlay-touching c [] t = refl
overlay-touching c (a ∷ entries) t =
    elim (do_overlap a.0 c) as (λ b. do_overlap a.0 c ≡ b → fold (overlaid c) (overlaid c t a) entries ≡ fold (overlaid c) t (cond b (a ∷ touching c entries) (touching c entries))) [
      | true ↦ λ e. overlay-touching c entries (overlaid c t a)
      | false ↦ λ e. ap (λ x. fold (overlaid c) x entries) (fold-untouched c t (a ∷ []) (λ i. e i || false)) ∙ overlay-touching c entries t
    ] refl

whole-touching : (c : Path) (entries : List Assignment) → list_any (λ (a : Assignment). is_at_or_above a.0 c) entries ≡ list_any (λ (a : Assignment). is_at_or_above a.0 c) (touching c entries)
whole-touching c [] = refl
whole-touching c (a ∷ entries) =
    elim (do_overlap a.0 c) as (λ b. do_overlap a.0 c ≡ b → (is_at_or_above a.0 c || list_any (λ (x : Assignment). is_at_or_above x.0 c) entries)
    ≡ list_any (λ (x : Assignment). is_at_or_above x.0 c) (cond b (a ∷ touching c entries) (touching c entries))) [
      | true ↦ λ e. ap (λ b. is_at_or_above a.0 c || b) (whole-touching c entries)
      | false ↦ λ e. ap (λ b. b || list_any (λ (x : Assignment). is_at_or_above x.0 c) entries) (or_false_left (is_at_or_above a.0 c) (is_at_or_above c a.0) e) ∙ whole-touching c entries
    ] refl

-- writes that bear the same on a path
pub record SameAt (c : Path) (new old : List Write) : Type 0 where
  pub overlaid : (t : PathTree) → overlay c t new ≡ overlay c t old
  pub whole : sets_whole new c ≡ sets_whole old c

same_at : (c : Path) (new old : List Write) → touching c (assignments new) ≡ touching c (assignments old) → SameAt c new old
same_at c new old e = record {
  overlaid = λ t. overlay-touching c (assignments new) t ∙ ap (fold (overlaid c) t) e ∙ sym (overlay-touching c (assignments old) t);
  whole = whole-touching c (assignments new) ∙ ap (list_any (λ (a : Assignment). is_at_or_above a.0 c)) e ∙ sym (whole-touching c (assignments old));
}

-- ---- a step's writes

-- one more request
more : (c : Path) (rs : List Request) (r : Request) → misses c (assignments (pending (r ∷ []))) → touching c (assignments (pending (rs ++ r ∷ []))) ≡ touching c (assignments (pending rs))
more c rs r h =
    ap (λ ws. touching c (assignments ws)) (filter_map-append (λ (x : Request). write_asked x.id x.asked) rs (r ∷ []))
    ∙ ap (touching c) (flat_map-append (λ (v : Write). v.entries) (pending rs) (pending (r ∷ [])))
    ∙ filter-append (λ (a : Assignment). do_overlap a.0 c) (assignments (pending rs)) (assignments (pending (r ∷ [])))
    ∙ ap (λ z. touching c (assignments (pending rs)) ++ z) (none_touch c (assignments (pending (r ∷ []))) h)
    ∙ append-nil (touching c (assignments (pending rs)))

-- the requests that are left once one is settled
less : (c : Path) (id : ℕ) (rs : List Request) → misses c (assignments (filter (λ v. v.id == id) (pending rs)))
    → touching c (assignments (pending (filter (λ r. not (r.id == id)) rs))) ≡ touching c (assignments (pending rs))
less c id [] h = refl
less c id (r ∷ rs) h =
    ap (λ ws. touching c (assignments ws)) (pending_if (not (r.id == id))) ∙ at r.asked h (λ g. less c id rs g)
  where
    test : Assignment → Bool
    test a = do_overlap a.0 c

    left : List Request
    left = filter (λ x. not (x.id == id)) rs

    goes : Option Write → Type 0
    goes o = misses c (assignments (filter (λ v. v.id == id) (cons_option o (pending rs))))
        → (misses c (assignments (filter (λ v. v.id == id) (pending rs))) → touching c (assignments (pending left)) ≡ touching c (assignments (pending rs)))
        → touching c (assignments (cond (not (r.id == id)) (cons_option o (pending left)) (pending left))) ≡ touching c (assignments (cons_option o (pending rs)))

    none : goes None
    none h rec = elim (r.id == id) as (λ b. touching c (assignments (cond (not b) (pending left) (pending left))) ≡ touching c (assignments (pending rs))) [ true ↦ rec h | false ↦ rec h ]

    some : (v : Write) → v.id ≡ r.id → goes (Some v)
    some v e h rec =
        elim (r.id == id) as (λ b. (v.id == id) ≡ b → touching c (assignments (cond (not b) (v ∷ pending left) (pending left))) ≡ touching c (v.entries ++ assignments (pending rs))) [
          | true ↦ λ f.
              let parts : misses c (v.entries ++ assignments (filter (λ x. x.id == id) (pending rs))) = subst (λ b. misses c (assignments (cond b (v ∷ filter (λ x. x.id == id) (pending rs)) (filter (λ x. x.id == id) (pending rs))))) f h in
              let both = sym (list_any-append test v.entries (assignments (filter (λ x. x.id == id) (pending rs)))) ∙ parts in
              rec (or_false_right (list_any test v.entries) _ both)
              ∙ sym (filter-append test v.entries (assignments (pending rs))
              ∙ ap (λ z. z ++ touching c (assignments (pending rs))) (none_touch c v.entries (or_false_left (list_any test v.entries) (list_any test (assignments (filter (λ x. x.id == id) (pending rs)))) both)))
          | false ↦ λ f.
              let rest : misses c (assignments (filter (λ x. x.id == id) (pending rs))) = subst (λ b. misses c (assignments (cond b (v ∷ filter (λ x. x.id == id) (pending rs)) (filter (λ x. x.id == id) (pending rs))))) f h in
              filter-append test v.entries (assignments (pending left)) ∙ ap (λ z. touching c v.entries ++ z) (rec rest) ∙ sym (filter-append test v.entries (assignments (pending rs)))
        ] (ap (λ n. n == id) e)

    at : (x : Asked) → goes (write_asked r.id x)
    at (Now action) = some (record { id = r.id; entries = entries_of action }) refl
    at (AtDisconnect ending) = none

    pending_if : (b : Bool) → pending (cond b (r ∷ left) left) ≡ cond b (cons_option (write_asked r.id r.asked) (pending left)) (pending left)
    pending_if true = refl
    pending_if false = refl

-- of rising numbers at most one is the settled one's, so its entries are those that are found
module _ (id : ℕ) where
  -- above it there is none
  none_above : (rs : List Request) → All (λ (r : Request). id < r.id) rs → filter (λ v. v.id == id) (pending rs) ≡ []
  none_above [] h = refl
  none_above (r ∷ rs) h =
      let rest = none_above rs (All-tail (λ (x : Request). id < x.id) r rs h) in
      let low : id < r.id = All-head (λ (x : Request). id < x.id) r rs h in
      let other : (r.id == id) ≡ false = other_number r.id id (λ e. omega (arith, low, e)) in
      at r.asked rest other
    where
      at : (x : Asked) → filter (λ v. v.id == id) (pending rs) ≡ [] → (r.id == id) ≡ false → filter (λ v. v.id == id) (cons_option (write_asked r.id x) (pending rs)) ≡ []
      at (Now action) rest other = ap (λ b. cond b (record { id = r.id; entries = entries_of action } ∷ filter (λ v. v.id == id) (pending rs)) (filter (λ v. v.id == id) (pending rs))) other ∙ rest
      at (AtDisconnect ending) rest other = rest

  pub found_all : (rs : List Request) → AllPairs (λ (r s : Request). r.id < s.id) rs
      → assignments (filter (λ v. v.id == id) (pending rs)) ≡ unwrap_or (writes.entries_of id (pending rs)) []
  found_all [] h = refl
  found_all (r ∷ rs) h = at r.asked (found_all rs (AllPairs-rest (λ (x y : Request). x.id < y.id) r rs h)) (AllPairs-first (λ (x y : Request). x.id < y.id) r rs h)
    where
      at : (x : Asked) → assignments (filter (λ v. v.id == id) (pending rs)) ≡ unwrap_or (writes.entries_of id (pending rs)) [] → All (λ (y : Request). r.id < y.id) rs
          → assignments (filter (λ v. v.id == id) (cons_option (write_asked r.id x) (pending rs))) ≡ unwrap_or (writes.entries_of id (cons_option (write_asked r.id x) (pending rs))) []
      at (AtDisconnect ending) rest above = rest
      at (Now action) rest above =
          let v : Write = record { id = r.id; entries = entries_of action } in
          let others : List Write = filter (λ v. v.id == id) (pending rs) in
          elim (r.id == id) as (λ b. (r.id == id) ≡ b → assignments (cond b (v ∷ others) others) ≡ unwrap_or (option_map (λ (x : Write). x.entries) (cond b (Some v) (find (λ (x : Write). x.id == id) (pending rs)))) []) [
            | true ↦ λ e.
                let same : r.id ≡ id = same_number r.id id e in
                ap (λ ws. entries_of action ++ assignments ws) (none_above rs (subst (λ n. All (λ (y : Request). n < y.id) rs) same above)) ∙ append-nil (entries_of action)
            | false ↦ λ e. rest
          ] refl

-- of one more request
asked_misses : (c : Path) (n : ℕ) (seat : Option ℕ) (asked : Asked) → misses c (entries_asked asked) → misses c (assignments (pending (record { id = n; seat = seat; asked = asked } ∷ [])))
asked_misses c n seat (Now action) h = subst (misses c) (sym (append-nil (entries_of action))) h
asked_misses c n seat (AtDisconnect ending) h = refl

-- the pending writes bear the same on a path that no entry of the step bears on
writes_alike : (w : World) (s : Step) (c : Path) → IsSound w → misses c (entries_by w s) → touching c (assignments (pending (requests_after w s))) ≡ touching c (assignments (pending w.requests))
writes_alike w s c sound h = at (orderly s).requests
  where
    bear : List Request → List Assignment
    bear rs = touching c (assignments (pending rs))

    entries : Option (ℕ × Option Reason) → Option (ℕ × Asked) → List Assignment
    entries settled asked =
        option_map_or (λ (d : ℕ × Option Reason). entries_settled w d.0) settled (option_map_or (λ (a : ℕ × Asked). entries_asked a.1) asked (entries_pushed (kind s).parts))

    at : Requesting (kind s) → bear (requests_after w s) ≡ bear w.requests
    at (keeping settled asked requests) = ap bear (requests w)
    at (unseating seat settled asked requests) = ap bear (requests w) ∙ ap (λ ws. touching c (assignments ws)) (pending-unseated seat w.requests)
    at (asking a settled asked requests room) =
        let entries_are : entries (kind s).settled (kind s).asked ≡ entries_asked a.1 = λ i. entries (settled i) (asked i) in
        ap bear (requests w)
        ∙ more c w.requests (record { id = w.next_request; seat = Some a.0; asked = a.1 }) (asked_misses c w.next_request (Some a.0) a.1 (subst (misses c) entries_are h))
    at (settling d settled asked requests) =
        let entries_are : entries (kind s).settled (kind s).asked ≡ entries_settled w d.0 = λ i. entries (settled i) (kind s).asked in
        ap bear (requests w) ∙ less c d.0 w.requests (subst (misses c) (entries_are ∙ sym (found_all d.0 w.requests sound.requests)) h)

pub writes_same : (w : World) (s : Step) (c : Path) → IsSound w → misses c (entries_by w s) → SameAt c (pending (requests_after w s)) (pending w.requests)
writes_same w s c sound h = same_at c (pending (requests_after w s)) (pending w.requests) (writes_alike w s c sound h)
