-- Which entries meet whose listens, and what a listen is told of its own entries alone.
use Rattle.std.proofs.Common.{◌≡◌, ℕ, suc, ◌<◌, Bool, true, false, cond, ◌||◌, List, [], ◌∷◌, ◌++◌, length, map, take, get_or, append-nil, Option, Some, None, is_some, refl, sym, ap, subst, ◌∙◌, if◌then◌else◌}
use mathlib.Core.Bool.{true≢false}
use Rattle.std.specs.List.{All, filter, list_any, slice_get}
use Rattle.std.specs.List.Sorted.{IsStrictlySortedBy}
use Rattle.std.specs.Map.{keys_of}
use Rattle.std.specs.Option.{option_map_or, unwrap_or}
use Rattle.std.specs.Ordering.{is_eq, ordering_reverse}
use Rattle.std.specs.declared.cmp.Ordering.{Ordering}
use Rattle.std.specs.declared.cmp.Ordering.TheVariants.{Less, Equal, Greater}
use Rattle.std.proofs.Math.Seq.{take-suc}
use Rattle.std.proofs.lemmas.Grind.{flat_map-append}
use Rattle.std.proofs.lemmas.List.Elements.{All-head, All-tail, filter-append}
use Rattle.std.proofs.lemmas.Map.Views.{All-after_first}
use Rattle.std.proofs.lemmas.Option.{slice_get-get_or}
use Rattle.rt_tree.specs.PathTree.{Path, PathTree, put, strip, strip-some, sub}
use Rattle.rt_tree.specs.Parts.{sub-put_above, sub-put_other, sub-put_under}
use Rattle.rt_tree.specs.Assignments.{Assignment, do_overlap, is_at_or_above}
use Rattle.rt_query.specs.Queries.{Query, is_filtered}
use Rattle.rt_wire.specs.declared.server.ServerMessage.TheVariants.{Data}
use Rattle.rt_peer.specs.Peers.{Listen}
use Rattle.rt_peer.specs.Pushes.{is_changed, parts_below, parts_message, push_of, pushes, seen, written}
use Rattle.rt_peer.specs.declared.pushes.Sent.{Sent}
use Rattle.rt_peer.specs.declared.listens.Owner.{Owner}
use Rattle.rt_peer.specs.declared.listens.ListenKey.{ListenKey}
use Rattle.rt_peer.specs.declared.write.Write.{Write}
use Rattle.rt_peer.specs.inside.Met.{at_owner, entry_at, numbers_of, over, picked, AreHanded, AreMet, AreNoted, AreSameOver, IsHanded, IsMadeAt, Met, MeetsSo}
use Rattle.rt_peer.specs.inside.Spots.{has_owner, is_concerned, listen_of, overlaps, owner_cmp, owner_of, owners_total, spot_of}
use Rattle.rt_peer.proofs.FoundLaws.{is_own, own_owner, within}
use Rattle.rt_peer.proofs.Places.{filter_with}
use Rattle.rt_peer.proofs.SpotLaws.{owner_exact}

-- ---- what a write makes of a part goes by the entries over its path

or_first : (b c : Bool) → (b || c) ≡ false → b ≡ false
or_first true c e = e
or_first false c e = refl

or_second : (b c : Bool) → (b || c) ≡ false → c ≡ false
or_second true c e = absurd (true≢false e)
or_second false c e = e

or_either : (a b : Bool) → b ≡ true → (a || b) ≡ true
or_either true b e = refl
or_either false b e = e

is_none : {X : Type 0} (o : Option X) → is_some o ≡ false → o ≡ None
is_none None e = refl
is_none (Some x) e = absurd (true≢false e)

-- of two trees with the same part at p, also once the same is put into both
put_so : (t u : PathTree) (p q : Path) (v : PathTree) → sub t p ≡ sub u p → sub (put t q v) p ≡ sub (put u q v) p
put_so t u p q v same =
    elim (strip p q) as (λ o. strip p q ≡ o → sub (put t q v) p ≡ sub (put u q v) p) [
      | Some r ↦ λ e.
          let is : q ≡ p ++ r = strip-some p q r e in
          ap (λ z. sub (put t z v) p) is ∙ sub-put_under t p r v ∙ ap (λ x. put x r v) same
          ∙ sym (sub-put_under u p r v) ∙ ap (λ z. sub (put u z v) p) (sym is)
      | None ↦ λ e. elim (strip q p) as (λ o. strip q p ≡ o → sub (put t q v) p ≡ sub (put u q v) p) [
        | Some r ↦ λ f.
            let is : p ≡ q ++ r = strip-some q p r f in
            ap (sub (put t q v)) is ∙ sub-put_above t q r v ∙ sym (sub-put_above u q r v) ∙ ap (sub (put u q v)) (sym is)
        | None ↦ λ f. sub-put_other t q p v f e ∙ same ∙ sym (sub-put_other u q p v f e)
      ] refl
    ] refl

written_over : (t u : PathTree) (p : Path) (es : List Assignment) → sub t p ≡ sub u p
    → sub (written t es) p ≡ sub (written u (over p es)) p
written_over t u p [] same = same
written_over t u p (a ∷ es) same =
    elim (do_overlap a.0 p) as (λ b. do_overlap a.0 p ≡ b
    → sub (written (put t a.0 a.1) es) p ≡ sub (written u (cond b (a ∷ over p es) (over p es))) p) [
      | true ↦ λ e. written_over (put t a.0 a.1) (put u a.0 a.1) p es (put_so t u p a.0 a.1 same)
      | false ↦ λ e. written_over (put t a.0 a.1) u p es
          (sub-put_other t a.0 p a.1 (is_none (strip a.0 p) (or_first (is_at_or_above a.0 p) (is_at_or_above p a.0) e))
          (is_none (strip p a.0) (or_second (is_at_or_above a.0 p) (is_at_or_above p a.0) e)) ∙ same)
    ] refl

pub made_by_all : (p : Path) (es : List Assignment) (w : Write) → w.after ≡ written w.before es → IsMadeAt p es w
made_by_all p es w made = ap (λ t. sub t p) made

pub made_by_own : (p : Path) (own es : List Assignment) (w : Write) → AreSameOver p own es
    → w.after ≡ written w.before es → IsMadeAt p own w
made_by_own p own es w same made =
    made_by_all p es w made ∙ written_over w.before w.before p es refl
    ∙ ap (λ xs. sub (written w.before xs) p) (sym same) ∙ sym (written_over w.before w.before p own refl)

-- ---- and so does what a listen is sent

any_over : (p : Path) (es : List Assignment)
    → list_any (λ a. is_at_or_above a.0 p) es ≡ list_any (λ a. is_at_or_above a.0 p) (over p es)
any_over p [] = refl
any_over p (a ∷ es) =
    let up : List Assignment → Bool = list_any (λ (x : Assignment). is_at_or_above x.0 p) in
    elim (is_at_or_above a.0 p) as (λ b. is_at_or_above a.0 p ≡ b
    → (b || up es) ≡ up (cond (b || is_at_or_above p a.0) (a ∷ over p es) (over p es))) [
      | true ↦ λ e. sym (ap (λ b. b || up (over p es)) e)
      | false ↦ λ e. elim (is_at_or_above p a.0) as (λ c. up es ≡ up (cond c (a ∷ over p es) (over p es))) [
        | true ↦ any_over p es ∙ sym (ap (λ b. b || up (over p es)) e)
        | false ↦ any_over p es
      ]
    ] refl

below_over : (p : Path) (es : List Assignment)
    → filter (λ a. is_at_or_above p a.0) (over p es) ≡ filter (λ a. is_at_or_above p a.0) es
below_over p es =
    within (λ (a : Assignment). is_at_or_above p a.0) (λ (a : Assignment). do_overlap a.0 p) es
    (λ k d lt e. or_either (is_at_or_above (get_or es k d).0 p) (is_at_or_above p (get_or es k d).0) e)

push_so : (u : PathTree) (own es : List Assignment) (l : Listen) → AreSameOver l.query.path own es
    → push_of u own l ≡ push_of u es l
push_so u own es l same =
    let p = l.query.path in
    let up : list_any (λ a. is_at_or_above a.0 p) own ≡ list_any (λ a. is_at_or_above a.0 p) es =
    any_over p own ∙ ap (list_any (λ (a : Assignment). is_at_or_above a.0 p)) same ∙ sym (any_over p es) in
    let part : Assignment → Assignment = λ a. (a.0, sub u a.0) in
    let below : parts_below u p own ≡ parts_below u p es = ap (map part)
    (sym (below_over p own) ∙ ap (filter (λ (a : Assignment). is_at_or_above p a.0)) same ∙ below_over p es) in
    λ i. if is_filtered l.query || up i then Data l.tag p (seen l.query u) else parts_message l.tag (below i)

abbrev sent_by : PathTree → List Assignment → Listen → Sent
sent_by u es l = record { to = l.connection; message = push_of u es l }

pub pushes_own : (t u : PathTree) (own es : List Assignment) (l : Listen) → AreSameOver l.query.path own es
    → pushes t u own (l ∷ []) ≡ pushes t u es (l ∷ [])
pushes_own t u own es l same =
    elim (is_changed t u l) as (λ b.
    map (sent_by u own) (cond b (l ∷ []) []) ≡ map (sent_by u es) (cond b (l ∷ []) [])) [
      | true ↦ λ i. record { to = l.connection; message = push_so u own es l same i } ∷ []
      | false ↦ refl
    ]

-- ---- a number is noted

abbrev pub one_if : Bool → ℕ → List ℕ
one_if b n = if b then n ∷ [] else []

pub noted : (k : Owner) (n : ℕ) (now : List ℕ) (old left new : Met) → now ≡ numbers_of old k ++ n ∷ []
    → ((o : Owner) → at_owner left o ≡ (if is_eq (owner_cmp k o) then None else at_owner old o))
    → ((o : Owner) → at_owner new o ≡ cond (is_eq (owner_cmp k o)) (Some now) (at_owner left o))
    → AreNoted (λ o. is_eq (owner_cmp k o)) n old new
noted k n now old left new is less more o =
    ap (λ r. unwrap_or r []) (more o)
    ∙ elim (is_eq (owner_cmp k o)) as (λ b. is_eq (owner_cmp k o) ≡ b
    → unwrap_or (cond b (Some now) (at_owner left o)) [] ≡ numbers_of old o ++ one_if b n) [
      | true ↦ λ e. is ∙ ap (λ x. numbers_of old x ++ n ∷ []) (owner_exact k o e)
      | false ↦ λ e. ap (λ r. unwrap_or r []) (less o ∙ ap (λ b. if b then None else at_owner old o) e)
          ∙ sym (append-nil (numbers_of old o))
    ] refl

reversed : (a : Ordering) → is_eq (ordering_reverse a) ≡ is_eq a
reversed Less = refl
reversed Equal = refl
reversed Greater = refl

swapped : (o p : Owner) → is_eq (owner_cmp o p) ≡ is_eq (owner_cmp p o)
swapped o p = ap is_eq (owners_total.antisymm o p) ∙ reversed (owner_cmp p o)

not_later : (k : Owner) (rest : List Owner) → All (λ r. owner_cmp k r ≡ Less) rest → has_owner rest k ≡ false
not_later k [] h = refl
not_later k (r ∷ rest) h =
    λ i. is_eq (All-head (λ q. owner_cmp k q ≡ Less) r rest h i)
    || not_later k rest (All-tail (λ q. owner_cmp k q ≡ Less) r rest h) i

-- owner by owner, each once
pub each_more : (k : Owner) (rest left : List Owner) (n : ℕ) (old new : Met) → left ≡ k ∷ rest
    → IsStrictlySortedBy owner_cmp left → AreNoted (λ o. is_eq (owner_cmp k o)) n old new → (o : Owner)
    → numbers_of new o ++ one_if (has_owner rest o) n ≡ numbers_of old o ++ one_if (has_owner left o) n
each_more k rest left n old new is rise h o =
    let here : (is_eq (owner_cmp k o) || has_owner rest o) ≡ has_owner left o =
    ap (λ b. b || has_owner rest o) (swapped k o) ∙ ap (λ os. has_owner os o) (sym is) in
    let both : (numbers_of old o ++ one_if (is_eq (owner_cmp k o)) n) ++ one_if (has_owner rest o) n
    ≡ numbers_of old o ++ one_if (is_eq (owner_cmp k o) || has_owner rest o) n =
    elim (is_eq (owner_cmp k o)) as (λ b. is_eq (owner_cmp k o) ≡ b
    → (numbers_of old o ++ one_if b n) ++ one_if (has_owner rest o) n
    ≡ numbers_of old o ++ one_if (b || has_owner rest o) n) [
      | true ↦ λ e.
          let none : has_owner rest o ≡ false = ap (has_owner rest) (sym (owner_exact k o e))
          ∙ not_later k rest (All-after_first owner_cmp k rest (subst (IsStrictlySortedBy owner_cmp) is rise)) in
          ap (λ b. (numbers_of old o ++ n ∷ []) ++ one_if b n) none ∙ append-nil (numbers_of old o ++ n ∷ [])
      | false ↦ λ e. ap (λ ns. ns ++ one_if (has_owner rest o) n) (append-nil (numbers_of old o))
    ] refl in
    ap (λ ns. ns ++ one_if (has_owner rest o) n) (h o) ∙ both ∙ ap (λ b. numbers_of old o ++ one_if b n) here

-- ---- entry by entry

pub met_none : (es : List Assignment) (met : Met) (spots : List ListenKey) → met ≡ [] → AreMet es [] met spots
met_none es met spots none = subst (λ m. AreMet es [] m spots) (sym none) (λ k d lt. refl)

module _ (es : List Assignment) (n : ℕ) (a : Assignment) (inside : n < length es) (is : a ≡ get_or es n a) where
  at_number : slice_get es n ≡ Some a
  at_number = slice_get-get_or es n a inside ∙ ap Some (sym is)

  one_more : (s : ListenKey) (b : Bool) → (overlaps a.0 s ≡ true → b ≡ true)
      → over s.path (picked es (one_if b n)) ≡ over s.path (a ∷ [])
  one_more s true h = ap (λ (o : Option Assignment). over s.path (option_map_or (λ (x : Assignment). x ∷ []) o [] ++ [])) at_number
  one_more s false h =
      elim (do_overlap a.0 s.path) as (λ b. do_overlap a.0 s.path ≡ b → [] ≡ cond b (a ∷ []) []) [
        | true ↦ λ e. absurd (true≢false (sym (h e)))
        | false ↦ λ e. refl
      ] refl

  grown : (s : ListenKey) (old new : Met) → MeetsSo a.0 n old new s
      → AreSameOver s.path (picked es (numbers_of old s.owner)) (take n es)
      → AreSameOver s.path (picked es (numbers_of new s.owner)) (take n es ++ a ∷ [])
  grown s old new m h =
      ap (λ ns. over s.path (picked es ns)) m.1.1
      ∙ ap (over s.path) (flat_map-append (entry_at es) (numbers_of old s.owner) (one_if m.0 n))
      ∙ filter-append (λ (x : Assignment). do_overlap x.0 s.path) (picked es (numbers_of old s.owner)) (picked es (one_if m.0 n))
      ∙ (λ i. h i ++ one_more s m.0 m.1.0 i)
      ∙ sym (filter-append (λ (x : Assignment). do_overlap x.0 s.path) (take n es) (a ∷ []))

  pub met_more : (spots : List ListenKey) (old new : Met) → All (MeetsSo a.0 n old new) spots
      → AreMet es (take n es) old spots → AreMet es (take (suc n) es) new spots
  met_more spots old new more h k d lt =
      let all : take (suc n) es ≡ take n es ++ a ∷ [] = take-suc es n a inside ∙ ap (λ x. take n es ++ x ∷ []) (sym is) in
      subst (λ xs. AreSameOver (get_or spots k d).path (picked es (numbers_of new (get_or spots k d).owner)) xs) (sym all)
      (grown (get_or spots k d) old new (more k d lt) (h k d lt))

-- ---- listens are handed their own

none_over : (test : Assignment → Bool) (es : List Assignment) → filter test es ≡ [] → list_any test es ≡ true → ⊥
none_over test [] none e = true≢false (sym e)
none_over test (a ∷ es) none e =
    elim (test a) as (λ b. cond b (a ∷ filter test es) (filter test es) ≡ [] → (b || list_any test es) ≡ true → ⊥) [
      | true ↦ λ f g. cc
      | false ↦ λ f g. none_over test es f g
    ] none e

has_key : (met : Met) (o : Owner) (ns : List ℕ) → at_owner met o ≡ Some ns → has_owner (keys_of met) o ≡ true
has_key [] o ns e = absurd (true≢false (ap is_some (sym e)))
has_key (e ∷ met) o ns f =
    elim (is_eq (owner_cmp o e.0)) as (λ b. cond b (Some e.1) (at_owner met o) ≡ Some ns
    → (b || has_owner (keys_of met) o) ≡ true) [
      | true ↦ λ g. refl
      | false ↦ λ g. has_key met o ns g
    ] f

handed_key : (es : List Assignment) (met : Met) (l : Listen)
    → AreSameOver l.query.path (picked es (numbers_of met (owner_of l))) es → is_concerned es (spot_of l) ≡ true
    → has_owner (keys_of met) (owner_of l) ≡ true
handed_key es met l same e =
    elim (at_owner met (owner_of l)) as (λ o. at_owner met (owner_of l) ≡ o → has_owner (keys_of met) (owner_of l) ≡ true) [
      | Some ns ↦ λ f. has_key met (owner_of l) ns f
      | None ↦ λ f. absurd (none_over (λ x. do_overlap x.0 l.query.path) es
          (sym same ∙ ap (λ r. over l.query.path (picked es (unwrap_or r []))) f) e)
    ] refl

-- whose listens the entries concern is among the owners
pub handed_keys : (es : List Assignment) (met : Met) (os : List Owner) (ls : List Listen) → os ≡ keys_of met
    → AreHanded es met ls → All (λ l. is_concerned es (spot_of l) ≡ true → has_owner os (owner_of l) ≡ true) ls
handed_keys es met os ls is h k d lt e =
    ap (λ xs. has_owner xs (owner_of (get_or ls k d))) is ∙ handed_key es met (get_or ls k d) (h k d lt) e

-- and each one has the numbers of his own
pub handed_each : (es : List Assignment) (met left : Met) (ls : List Listen) → left ≡ met → AreHanded es met ls
    → All (λ e. at_owner met e.0 ≡ Some e.1) met → All (λ e. IsHanded es e.0 e.1 ls) left
handed_each es met left ls is h found =
    subst (All (λ (e : Owner × List ℕ). IsHanded es e.0 e.1 ls)) (sym is) (λ k d lt i m inside own.
    let e : Owner × List ℕ = get_or met k d in
    let l : Listen = get_or ls i m in
    subst (λ ns. AreSameOver l.query.path (picked es ns) es)
    (ap (numbers_of met) (own_owner e.0 l own) ∙ ap (λ r. unwrap_or r []) (found k d lt)) (h i m inside))

-- so the one listen of an owner is handed its own
pub handed_one : (es : List Assignment) (o : Owner) (q : Query) (numbers : List ℕ) (ls : List Listen)
    → filter (is_own o) ls ≡ listen_of (o, q) ∷ [] → IsHanded es o numbers ls
    → AreSameOver q.path (picked es numbers) es
handed_one es o q numbers ls own h =
    let P : Listen → Type 0 = λ l. AreSameOver l.query.path (picked es numbers) es in
    All-head P (listen_of (o, q)) []
    (subst (All P) own (filter_with (is_own o) (λ l. is_own o l ≡ true → P l) P ls h (λ l e f. f e)))
