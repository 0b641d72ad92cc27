-- What receipts, cancellations and batches leave of what snapshots show.
use Rattle.std.proofs.Common.{◌≡◌, ℕ, ◌<◌, ◌-◌, suc, Bool, true, false, cond, not, ◌||◌, ◌==◌, List, [], ◌∷◌, ◌++◌, map, length, is_some, refl, sym, ap, ◌∙◌, arith, Option, Some, None}
use Rattle.std.specs.BTreeMap.{insert_entry}
use Rattle.std.specs.List.{filter_map, cons_option, slice_get, All}
use Rattle.std.specs.Option.{option_map, option_map_or, option_and_then}
use Rattle.std.specs.Ordering.{nat_cmp}
use Rattle.std.proofs.lemmas.List.{map-append}
use Rattle.std.proofs.lemmas.List.Elements.{All-filter, All-map, filter-append}
use Rattle.rt_order.specs.declared.index.Index.{Index}
use Rattle.rt_query.specs.Queries.{Query}
use Rattle.rt_query.specs.Select.{Shown, tree_of}
use Rattle.rt_query.specs.laws.Select.{SelectHasKeysOnce}
use Rattle.rt_writes.specs.Writes.{Write}
use Rattle.rt_cache.specs.Brought.{Brought, base}
use Rattle.rt_view.specs.declared.change.Change.{Change}
use Rattle.rt_view.specs.Changes.{changes, last_change, Turns}
use Rattle.rt_view.specs.laws.Changes.{ChangesTurn}
use Rattle.rt_world.specs.declared.step.Request.{Request}
use Rattle.rt_world.specs.World.{Reason, Listener}
use Rattle.rt_world.specs.Views.{is_known, view_of, seen_over}
use Rattle.rt_world.specs.After.{renewed}
use Rattle.rt_world.specs.Answers.{settled_note, batch_note, batch_from}
use Rattle.rt_world.specs.Sound.{Rises}
use Rattle.rt_mail.specs.declared.item.Item.TheVariants as item
use Rattle.rt_mail.specs.Snapshots.{Seen, Known, begun, ended, shows, tree_in, tree_told, with_tree, after_items}
use Rattle.rt_client.specs.Seats.{told_to}
use Rattle.rt_client.specs.laws.Showing.{seen_by}
use Rattle.rt_client.proofs.Batches.{batches}
use Rattle.rt_client.proofs.Ended.{of_seat, without, of_seat-without, drops}
use Rattle.rt_client.proofs.Entries.{Up, Up-map, lookup-above, insert-above, remove-one, changed, changed-number, set-one}
use Rattle.rt_client.proofs.Filters.{filter-map}
use Rattle.rt_client.proofs.Noted.{is_due, settled_told, cancelled_note}
use Rattle.rt_client.proofs.Numbers.{or_false_left, Rises-filter}
use Rattle.rt_client.proofs.Turned.{due, told_one, plays}

-- ---- what is shown of a seat's listeners

abbrev pub seens : ℕ → List Listener → Known
seens seat ls = map seen_by (of_seat seat ls)

pub seens-append : (seat : ℕ) (xs ys : List Listener) → seens seat (xs ++ ys) ≡ seens seat xs ++ seens seat ys
seens-append seat xs ys = ap (map seen_by) (filter-append (λ (l : Listener). l.seat == seat) xs ys) ∙ map-append seen_by (of_seat seat xs) (of_seat seat ys)

-- their numbers rise
Up-listeners : (ls : List Listener) → Rises ls → Up (map seen_by ls)
Up-listeners [] r = tt
Up-listeners (l ∷ ls) r = (All-map (λ (e : ℕ × Seen). l.number < e.0) seen_by ls r.0, Up-listeners ls r.1)

pub Up-seens : (seat : ℕ) (ls : List Listener) → Rises ls → Up (seens seat ls)
Up-seens seat ls r = Up-listeners (of_seat seat ls) (Rises-filter (λ (l : Listener). l.seat == seat) ls r)

pub seens-below : (seat n : ℕ) (ls : List Listener) → All (λ (l : Listener). l.number < n) ls → All (λ (e : ℕ × Seen). e.0 < n) (seens seat ls)
seens-below seat n ls h = All-map (λ (e : ℕ × Seen). e.0 < n) seen_by (of_seat seat ls) (All-filter (λ (l : Listener). l.seat == seat) (λ (l : Listener). l.number < n) ls h)

-- ---- receipts

-- a new listener comes last
pub begun-last : (n : ℕ) (query : Query) (known : Known) → All (λ (e : ℕ × Seen). e.0 < n) known → begun n query known ≡ known ++ (n, record { query = query; value = None }) ∷ []
begun-last n query known h =
    let new : Seen = record { query = query; value = None } in
    ap (λ o. cond (is_some o) known (insert_entry nat_cmp known n new)) (lookup-above n known h)
    ∙ insert-above n new known h

-- one that its own seat ends goes
pub ended-own : (seat n : ℕ) (ls : List Listener) → Rises ls → ended n (seens seat ls) ≡ seens seat (without n ls)
ended-own seat n ls r =
    remove-one n (seens seat ls) (Up-seens seat ls r)
    ∙ filter-map (λ (e : ℕ × Seen). not (e.0 == n)) seen_by (of_seat seat ls)
    ∙ ap (map seen_by) (of_seat-without seat n ls)

-- ---- settlements and cancellations

-- settlements change nothing
pub settled_shows : (seat id : ℕ) (why : Option Reason) (rs : List Request) (known : Known) → after_items known (told_to seat (filter_map (settled_note (id, why)) rs)) ≡ known
settled_shows seat id why [] known = refl
settled_shows seat id why (r ∷ rs) known =
    let rest = told_to seat (filter_map (settled_note (id, why)) rs) in
    ap (after_items known) (settled_told seat id why r (filter_map (settled_note (id, why)) rs))
    ∙ elim (is_due seat id r) as (λ b. after_items known (cond b (item.Settled id why ∷ rest) rest) ≡ known) [
      | true ↦ settled_shows seat id why rs known
      | false ↦ settled_shows seat id why rs known
    ]

-- those of the seat that are cancelled go
pub cancelled_shows : (seat : ℕ) (why : Reason) (xs ls : List Listener) → Rises ls → after_items (map seen_by ls) (told_to seat (map (cancelled_note why) xs)) ≡ map seen_by (drops seat xs ls)
cancelled_shows seat why [] ls r = refl
cancelled_shows seat why (x ∷ xs) ls r =
    let rest = told_to seat (map (cancelled_note why) xs) in
    elim (x.seat == seat) as (λ b. after_items (map seen_by ls) (cons_option (cond b (Some (item.Cancelled x.number why)) None) rest) ≡ map seen_by (drops seat xs (cond b (without x.number ls) ls))) [
      | true ↦
          ap (λ known. after_items known rest) (remove-one x.number (map seen_by ls) (Up-listeners ls r) ∙ filter-map (λ (e : ℕ × Seen). not (e.0 == x.number)) seen_by ls)
          ∙ cancelled_shows seat why xs (without x.number ls) (Rises-filter (λ (l : Listener). not (l.number == x.number)) ls r)
      | false ↦ cancelled_shows seat why xs ls r
    ]

-- ---- batches

-- what changes make of what is known of a listener: it shows the tree that they end with
abbrev pub shown_with : List Change → Seen → Seen
shown_with cs s = option_map_or (λ tree. record s { value = Some tree }) (tree_told cs) s

same_known : (n : ℕ) (known : Known) → known ≡ map (changed n (λ s. s)) known
same_known n [] = refl
same_known n (e ∷ known) = elim (e.0 == n) as (λ b. e ∷ known ≡ cond b (e.0, e.1) e ∷ map (changed n (λ s. s)) known) [
  | true ↦ ap (λ z. e ∷ z) (same_known n known)
  | false ↦ ap (λ z. e ∷ z) (same_known n known)
]

shows-one : (n : ℕ) (cs : List Change) (known : Known) → Up known → shows n cs known ≡ map (told_one shown_with n cs) known
shows-one n cs known u =
    elim (tree_told cs) as (λ o. option_map_or (λ tree. with_tree n tree known) o known ≡ map (changed n (λ s. option_map_or (λ tree. record s { value = Some tree }) o s)) known) [
      | None ↦ same_known n known
      | Some tree ↦ set-one n (λ s. record s { value = Some tree }) known u
    ]

-- the batches that a seat is told are shown
pub batches_shown : (seat : ℕ) (f : Listener → Listener) (ls : List Listener) (known : Known) → Up known → after_items known (told_to seat (batches f ls)) ≡ plays shown_with seat f ls known
batches_shown seat f [] known u = refl
batches_shown seat f (l ∷ ls) known u =
    let rest = batches f ls in
    let h = f l in
    elim (due f l) as (λ cs. after_items known (told_to seat (cons_option (batch_note h cs) rest)) ≡ plays shown_with seat f ls (cond (h.seat == seat) (map (told_one shown_with h.number cs) known) known)) [
      | [] ↦ batches_shown seat f ls known u ∙ ap (plays shown_with seat f ls) (none (h.seat == seat) h.number)
      | c ∷ cs ↦ elim (h.seat == seat) as (λ b. after_items known (cons_option (cond b (Some (item.Batch (record { listener = h.number; changes = c ∷ cs }))) None) (told_to seat rest))
          ≡ plays shown_with seat f ls (cond b (map (told_one shown_with h.number (c ∷ cs)) known) known)) [
            | true ↦
                ap (λ k. after_items k (told_to seat rest)) (shows-one h.number (c ∷ cs) known u)
                ∙ batches_shown seat f ls (map (told_one shown_with h.number (c ∷ cs)) known)
                (Up-map (told_one shown_with h.number (c ∷ cs)) (changed-number h.number (shown_with (c ∷ cs))) known u)
            | false ↦ batches_shown seat f ls known u
          ]
    ]
  where
    none : (b : Bool) (n : ℕ) → known ≡ cond b (map (told_one shown_with n []) known) known
    none true n = same_known n known
    none false n = refl

-- ---- one listener

-- the last change of some, by its place
last_at : (cs : List Change) → slice_get cs (length cs - 1) ≡ last_change cs
last_at [] = refl
last_at (c ∷ []) = refl
last_at (c ∷ d ∷ cs) =
    let place : length (c ∷ d ∷ cs) - 1 ≡ suc (length (d ∷ cs) - 1) = omega arith in
    ap (slice_get (c ∷ d ∷ cs)) place ∙ last_at (d ∷ cs)

some_last : (c : Change) (cs : List Change) → (d : Change) × (last_change (c ∷ cs) ≡ Some d)
some_last c [] = (c, refl)
some_last c (d ∷ cs) = some_last d cs

one_of : {x y : Shown} → Some x ≡ Some y → x ≡ y
one_of e = cc

-- changes that turn one view into another end with the tree of that
turned_shows : (q : Query) (cs : List Change) (old : Option Shown) (new : Shown) → Turns old cs (Some new)
    → shown_with cs (record { query = q; value = option_map tree_of old }) ≡ record { query = q; value = Some (tree_of new) }
turned_shows q [] old new t = ap (λ o. record { query = q; value = option_map tree_of o }) (sym (t.same refl))
turned_shows q (c ∷ cs) old new t =
    let last = some_last c cs in
    let carries = t.last last.0 last.1 in
    let is : new ≡ carries.0 = one_of carries.1 in
    let tree : tree_told (c ∷ cs) ≡ Some (tree_of new) =
    ap (option_and_then tree_in) (last_at (c ∷ cs) ∙ last.1) ∙ ap tree_in carries.2 ∙ ap (λ v. Some (tree_of v)) (sym is) in
    ap (λ o. option_map_or (λ tree. record { query = q; value = Some tree }) o (record { query = q; value = option_map tree_of old })) tree

-- what is known of a listener
abbrev pub value_by : Listener → Seen
value_by l = record { query = l.query; value = option_map tree_of l.view }

-- by the changes of its view it is what is known of it after them
pub value_turned : SelectHasKeysOnce → ChangesTurn → (b : Brought) (ws : List Write) (l : Listener) → (l.is_primed ≡ false → l.view ≡ None)
    → shown_with (due (renewed b ws) l) (value_by l) ≡ value_by (renewed b ws l)
value_turned once turn b ws l blank =
    let seen : Listener = record l { is_primed = true; view = Some (view_of b ws l.query) } in
    elim (l.is_primed || is_known b ws l.query) as (λ k. (l.is_primed || is_known b ws l.query) ≡ k
    → shown_with (batch_from l.view (cond k seen l)) (value_by l) ≡ value_by (cond k seen l)) [
      | true ↦ λ e.
          turned_shows l.query (changes l.query.index l.view (view_of b ws l.query)) l.view (view_of b ws l.query)
          (turn l.query.index l.view (view_of b ws l.query) (once l.query (seen_over (base b l.query) ws l.query)))
      | false ↦ λ e. quiet l.query.index l.view (blank (or_false_left l.is_primed (is_known b ws l.query) e))
    ] refl
  where
    quiet : (index : Index) (o : Option Shown) → o ≡ None
        → shown_with (option_map_or (λ new. changes index o new) o []) (record { query = l.query; value = option_map tree_of o }) ≡ record { query = l.query; value = option_map tree_of o }
    quiet index None e = refl
    quiet index (Some v) e = cc
