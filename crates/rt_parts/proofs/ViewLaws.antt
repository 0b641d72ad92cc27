-- A listener that is renewed, and what its seat is told.
use Rattle.std.proofs.Common.{◌≡◌, ℕ, true, false, cond, not, ◌&&◌, ◌||◌, List, [], refl, sym, ap, subst, ◌∙◌, Option, Some, None, is_some}
use mathlib.Core.Bool.{true≢false}
use Rattle.std.specs.Option.{option_map, option_map_or}
use Rattle.rt_tree.specs.PathTree.{Key, PathTree}
use Rattle.rt_tree.specs.Assignments.{Assignment}
use Rattle.rt_writes.specs.Writes.{Write}
use Rattle.rt_cache.specs.Brought.{Brought, base}
use Rattle.rt_view.specs.Changes.{changes}
use Rattle.rt_view.specs.declared.change.Change.{Change}
use Rattle.rt_view.specs.Views.{View, shown_of, stays_object, touched, with_named}
use Rattle.rt_view.specs.Views.{told as told_of}
use Rattle.rt_view.specs.Views.{renewed as taken}
use Rattle.rt_query.specs.Select.{select}
use Rattle.rt_world.specs.World.{Listener}
use Rattle.rt_world.specs.Views.{is_known, seen_over}
use Rattle.rt_world.specs.After.{renewed}
use Rattle.rt_world.specs.Answers.{batch_note, batch_from}
use Rattle.rt_world.specs.Met.{seeing, told}
use Rattle.rt_world.specs.Touched.{is_covered}
use Rattle.rt_parts.specs.declared.listeners.HeldListener.{HeldListener}
use Rattle.rt_parts.specs.inside.HeldView.{IsHeld, IsViewOf, listener_of, pair_of, shown_in}
use Rattle.rt_parts.specs.inside.Named.{AreNamed}
use Rattle.rt_parts.specs.Refreshed.{FollowsNamed, is_touched, named_children, view_after}
use Rattle.rt_parts.specs.Renewed.{view_anew}
use Rattle.rt_parts.proofs.NamedLaws.{stays_named, touched_named}

-- it sees what is brought, overlaid
pub due : (b : Brought) (ws : List Write) (l : Listener) (t : PathTree) → (l.is_primed || is_known b ws l.query) ≡ true → t ≡ seen_over (base b l.query) ws l.query → seeing t l ≡ renewed b ws l
due b ws l t e s = (λ i. seeing (s i) l) ∙ ap (λ c. cond c (seeing (seen_over (base b l.query) ws l.query) l) l) (sym e)

-- or stays
pub not_due : (b : Brought) (ws : List Write) (l : Listener) → (l.is_primed || is_known b ws l.query) ≡ false → l ≡ renewed b ws l
not_due b ws l e = ap (λ c. cond c (seeing (seen_over (base b l.query) ws l.query) l) l) (sym e)

-- what its seat is told
pub told_due : (b : Brought) (ws : List Write) (l : Listener) (t : PathTree) → (l.is_primed || is_known b ws l.query) ≡ true → t ≡ seen_over (base b l.query) ws l.query
    → batch_note (seeing t l) (changes l.query.index l.view (select l.query t)) ≡ told b ws l
told_due b ws l t e s = ap (λ m. batch_note m (batch_from l.view m)) (due b ws l t e s)

-- nothing, where it has no view
pub told_not : (b : Brought) (ws : List Write) (l : Listener) → (l.is_primed || is_known b ws l.query) ≡ false → l.view ≡ None → told b ws l ≡ None
told_not b ws l e v =
    ap (λ m. batch_note m (batch_from l.view m)) (sym (not_due b ws l e))
    ∙ ap (λ o. batch_note l (option_map_or (λ new. changes l.query.index l.view new) o [])) v

-- ---- a view that is touched

module _ (b : Brought) (ws : List Write) (entries : List Assignment) (l : HeldListener) (named : List (Key × PathTree)) (h : AreNamed entries b ws l.query named) (low : is_covered l.query.path entries ≡ false) where
  abbrev seen : PathTree
  seen = seen_over (base b l.query) ws l.query

  -- the children that the entries name, in their order
  abbrev arrived : List (Key × PathTree)
  arrived = named_children entries b ws l.query

  is_so : (v : View) → stays_object v.tree named ≡ true → is_touched entries b ws l.query v ≡ true
  is_so v object = (λ i. not (low i) && sym (stays_named entries b ws l.query named h v.tree) i) ∙ object

  -- the view itself, where it is touched
  pub touched_after : (o : Option View) → option_map_or (λ (v : View). stays_object v.tree named) o false ≡ true → option_map (λ (v : View). touched v named) o ≡ view_after entries b ws l.query o
  touched_after None e = absurd (true≢false (sym e))
  touched_after (Some v) e =
      ap Some (touched_named entries b ws l.query named h v e ∙ sym (ap (λ t. cond t (touched v arrived) (taken v seen)) (is_so v e)))

  -- and where it is not
  pub anew_after : (o : Option View) → option_map_or (λ (v : View). stays_object v.tree named) o false ≡ false → view_anew b ws l.query o ≡ view_after entries b ws l.query o
  anew_after None e = refl
  anew_after (Some v) e =
      ap Some (sym (ap (λ t. cond t (touched v arrived) (taken v seen)) (λ i. not (low i) && (sym (stays_named entries b ws l.query named h v.tree) ∙ e) i)))

  module _ (stays : option_map_or (λ (v : View). stays_object v.tree named) l.view false ≡ true) (held : IsHeld l) (follow : FollowsNamed entries b ws (pair_of l))
      {count : ℕ} (new : HeldListener) (is : new ≡ record l { view = option_map (λ (v : View). touched v named) l.view; count = count }) where
    object_in : (v : View) → l.view ≡ Some v → stays_object v.tree named ≡ true
    object_in v e = sym (ap (λ o. option_map_or (λ (x : View). stays_object x.tree named) o false) e) ∙ stays

    no_view : {Z : Type 0} → l.view ≡ None → Z
    no_view e = absurd (true≢false (sym stays ∙ ap (λ o. option_map_or (λ (v : View). stays_object v.tree named) o false) e))

    same_tree : (v : View) → l.view ≡ Some v → with_named v.tree named ≡ seen
    same_tree v e =
        let object = object_in v e in
        ap (λ (x : View). x.tree) (touched_named entries b ws l.query named h v object) ∙ follow v e (is_so v object)

    new_is : (v : View) → l.view ≡ Some v → listener_of new ≡ seeing seen (listener_of l)
    new_is v e =
        let own : v.query ≡ l.query = (subst (IsViewOf l.query) e held.view).0 in
        ap listener_of is ∙ (λ i. listener_of (record l { view = option_map (λ (x : View). touched x named) (e i); count = count }))
        ∙ (λ i. record (listener_of l) { is_primed = true; view = Some (select (own i) (same_tree v e i)) })

    -- the listener is renewed
    pub touched_renewed : listener_of new ≡ renewed b ws (listener_of l)
    touched_renewed = at l.view refl
      where
        at : (o : Option View) → l.view ≡ o → listener_of new ≡ renewed b ws (listener_of l)
        at None e = no_view e
        at (Some v) e = new_is v e ∙ due b ws (listener_of l) seen (λ i. is_some (e i) || is_known b ws l.query) refl

    -- and its seat is told so
    pub touched_told : (list : List Change) → ((v : View) → l.view ≡ Some v → list ≡ told_of v (touched v named)) → batch_note (listener_of new) list ≡ told b ws (listener_of l)
    touched_told list listed = at l.view refl
      where
        at : (o : Option View) → l.view ≡ o → batch_note (listener_of new) list ≡ told b ws (listener_of l)
        at None e = no_view e
        at (Some v) e =
            let own : v.query ≡ l.query = (subst (IsViewOf l.query) e held.view).0 in
            let list_is : list ≡ changes l.query.index (shown_in l.view) (select l.query seen) =
            listed v e ∙ (λ i. changes (own i).index (Some (shown_of v)) (select (own i) (same_tree v e i))) ∙ ap (λ o. changes l.query.index (shown_in o) (select l.query seen)) (sym e) in
            (λ i. batch_note (new_is v e i) (list_is i))
            ∙ told_due b ws (listener_of l) seen (λ i. is_some (e i) || is_known b ws l.query) refl
