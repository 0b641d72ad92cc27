-- The machine values of the parts of a box of what is held, and of a `Loose`. Assumes `Logic`.
use Rattle.std.proofs.Common.{◌≡◌, ℕ, List, [], ◌∷◌, ◌++◌, true, Option, Some, None, refl, sym, subst}
use mathlib.Core.Bool.{◌&&◌}
use lib.Dec.{T, lit<}
use seplogic.Ra.Ura.{Ura}
use mir.Syntax.{impl, tnil, dnil}
use mir.Raw.{raw as bare}
use mir.Val.{Val, vptr, vstruct, vcons, vnil, of_list, has_ty, WT}
use base.Logic.{never, fst∗}
use types.Logic.{Logic, sem}
use types.Kit.{Item, Goal, Seq, Step, step, ‵, ◌$◌, move, drop, fsplit, fjoin, fpick, fpack, rewrite, feq_i, feq_l}
use denote.RattleType.{RattleType, Valss}
use denote.Builtin.{RawPtr}
use denote.Memory.{lone}
use denote.RawPtr.{Ptr, block_ptr, null_ptr, ptr_val, in_a_block}
use denote.Steps.{nothing}
use denote.Param.{layout}
use denote.Struct.Struct.{within}
use denote.Struct.Owning.{shape}
use Rattle.std.specs.Prelude.{is_some}
use Rattle.std.specs.contracts.alloc.Global as heap
use Rattle.std.proofs.alloc.Global.TheLaws as heap_laws
use Rattle.std.specs.contracts.impls.GlobalAllocator.TheImpl.{ghosts}
use Rattle.std.specs.declared.alloc.Global.{Global}
use Rattle.std.proofs.alloc.Calls.{Al, handle_tells}
use Rattle.std.proofs.cell.Inside.{Good}
use Rattle.std.specs.Box.Ownership.{box_owns}
use Rattle.std.proofs.ResultValues.{and_tt}
use Rattle.rt_foreign.specs.Boxes.{maybe_box_owns}
use Rattle.rt_foreign.specs.declared.handle.HandleContent.{HandleContent}
use Rattle.rt_foreign.specs.contracts.handle.HandleContent as held
use Rattle.rt_foreign.specs.contracts.handle.BoxParts as parts
use Rattle.rt_foreign.specs.contracts.handle.Loose as loose

abbrev pub both : Val → Val → Val
both v w = vstruct (vcons v (vcons w vnil))

abbrev pub R : RattleType
R = held.the_row

abbrev pub Z : RattleType
Z = heap.the_row

abbrev pub BoxParts : RattleType
BoxParts = parts.the_row R Z ghosts

abbrev pub Loose : RattleType
Loose = loose.the_row

abbrev pub al : Al
al = record { row = Z; laws = heap_laws.the_row_laws; g = ghosts; d = impl [] tnil dnil; drops = impl [] tnil dnil }

pub both_good : (b o : ℕ) (h : Val) → Good (layout Z) h → T (has_ty (layout Z) h && true) × WT (both (vptr b o) h)
both_good b o h fits = (and_tt (has_ty (layout Z) h) fits.0, (tt, (fits.1, tt)))

pub null_good : (h : Val) → Good (layout Z) h → T (has_ty (layout Z) h && true) × WT (both (ptr_val null_ptr) h)
null_good h fits = (and_tt (has_ty (layout Z) h) fits.0, (record { fits = lit< tt }, (fits.1, tt)))

-- what is there, where something is
pub some_of : {A : Type 0} (v : Option A) → is_some v ≡ true → (x : A) × (v ≡ Some x)
some_of None e = absurd (subst T (sym e) tt)
some_of (Some x) e = (x, refl)

module _ {M : Type 1} {𝓤 : Ura M} {𝓛 : Logic 𝓤} {K : Type 0} {Γ : List (Item 𝓤)} {G : Goal 𝓤 𝓛.H} where
  pub parts_out : K → (d : BoxParts.Denot) (vs : List Val)
      → ((b o : ℕ) (h : Val) → d.ptr ≡ block_ptr b o → vs ≡ both (vptr b o) h ∷ [] → Good (layout Z) h → Seq K 𝓛 (‵ (box_owns (ghosts.dealloc_token d.alloc) R (block_ptr b o) d.value) ∷ ‵ (Z.own_val d.alloc (h ∷ [])) ∷ Γ) G)
      → Seq K 𝓛 (‵ (BoxParts.own_val d vs) ∷ Γ) G
  parts_out t d vs k =
      fsplit t $ fpick t (λ vss. fsplit t $ feq_l t (λ ev. fsplit t $ feq_l t (λ ep. fsplit t $ handle_tells al t d.alloc vss.1.0 (λ h ea fits. move t (1 ∷ []) $ drop t $ move t (1 ∷ []) $
      in_a_block t d.ptr (λ p. box_owns (ghosts.dealloc_token d.alloc) R p d.value) (fst∗ 𝓤 (never 𝓤) (sem 𝓛 (ghosts.dealloc_token d.alloc (bare (lone R.mir)) null_ptr))) (λ b o e. k b o h e
      (subst (λ (p : Ptr). vs ≡ vstruct (of_list (ptr_val p ∷ h ∷ [])) ∷ []) e
      (subst (λ (ws : List Val). vs ≡ vstruct (of_list (ptr_val d.ptr ∷ (ws ++ []))) ∷ []) ea (subst (λ (ps : List Val). vs ≡ vstruct (of_list (ps ++ (vss.1.0 ++ []))) ∷ []) ep ev))) fits)))))

  pub parts_in : K → (b o : ℕ) (h : Val) (a : Global) (x : HandleContent)
      → Step K 𝓛 (‵ (BoxParts.own_val (record { ptr = block_ptr b o; alloc = a; value = x }) (both (vptr b o) h ∷ [])) ∷ Γ) G (‵ (box_owns (ghosts.dealloc_token a) R (block_ptr b o) x) ∷ ‵ (Z.own_val a (h ∷ [])) ∷ Γ) G
  parts_in t b o h a x = step (λ s. let v : Val = both (vptr b o) h in
      nothing t $ move t (2 ∷ 0 ∷ []) $ fjoin t $ feq_i t (List Val) (vptr b o ∷ []) (vptr b o ∷ []) refl $ fjoin t $ feq_i t (List Val) (v ∷ []) (v ∷ []) refl $ fjoin t $
      fpack t (Valss (RawPtr ∷ Z ∷ [])) (within (shape (parts.the_type R Z ghosts)) (block_ptr b o, (a, tt)) (v ∷ [])) (vptr b o ∷ [], (h ∷ [], tt)) $ fjoin t $ s)

  pub loose_out : K → (d : Loose.Denot) (x : HandleContent) → d.value ≡ Some x → (vs : List Val)
      → ((b o : ℕ) (h : Val) → d.at ≡ block_ptr b o → vs ≡ both (vptr b o) h ∷ [] → Good (layout Z) h → Seq K 𝓛 (‵ (box_owns (ghosts.dealloc_token d.alloc) R (block_ptr b o) x) ∷ ‵ (Z.own_val d.alloc (h ∷ [])) ∷ Γ) G)
      → Seq K 𝓛 (‵ (Loose.own_val d vs) ∷ Γ) G
  loose_out t d x is vs k =
      fsplit t $ fpick t (λ vss. fsplit t $ feq_l t (λ ev. fsplit t $ feq_l t (λ ep. fsplit t $ handle_tells al t d.alloc vss.1.0 (λ h ea fits. move t (1 ∷ []) $ drop t $ move t (1 ∷ []) $
      rewrite t 0 (λ (v : Option HandleContent). ‵ (maybe_box_owns d.alloc R d.at v)) is refl $
      in_a_block t d.at (λ p. box_owns (ghosts.dealloc_token d.alloc) R p x) (fst∗ 𝓤 (never 𝓤) (sem 𝓛 (ghosts.dealloc_token d.alloc (bare (lone R.mir)) null_ptr))) (λ b o e. k b o h e
      (subst (λ (p : Ptr). vs ≡ vstruct (of_list (ptr_val p ∷ h ∷ [])) ∷ []) e
      (subst (λ (ws : List Val). vs ≡ vstruct (of_list (ptr_val d.at ∷ (ws ++ []))) ∷ []) ea (subst (λ (ps : List Val). vs ≡ vstruct (of_list (ps ++ (vss.1.0 ++ []))) ∷ []) ep ev))) fits)))))

  pub loose_in : K → (b o : ℕ) (h : Val) (a : Global) (x : HandleContent)
      → Step K 𝓛 (‵ (Loose.own_val (record { at = block_ptr b o; alloc = a; value = Some x }) (both (vptr b o) h ∷ [])) ∷ Γ) G (‵ (box_owns (ghosts.dealloc_token a) R (block_ptr b o) x) ∷ ‵ (Z.own_val a (h ∷ [])) ∷ Γ) G
  loose_in t b o h a x = step (λ s. let v : Val = both (vptr b o) h in
      nothing t $ move t (2 ∷ 0 ∷ []) $ fjoin t $ feq_i t (List Val) (vptr b o ∷ []) (vptr b o ∷ []) refl $ fjoin t $ feq_i t (List Val) (v ∷ []) (v ∷ []) refl $ fjoin t $
      fpack t (Valss (RawPtr ∷ Z ∷ [])) (within (shape loose.the_type) (block_ptr b o, (heap.the_field.into a, tt)) (v ∷ [])) (vptr b o ∷ [], (h ∷ [], tt)) $ fjoin t $ s)

  pub none_in : K → (h : Val) (a : Global)
      → Step K 𝓛 (‵ (Loose.own_val (record { at = null_ptr; alloc = a; value = None }) (both (ptr_val null_ptr) h ∷ [])) ∷ Γ) G (‵ (Z.own_val a (h ∷ [])) ∷ Γ) G
  none_in t h a = step (λ s. let v : Val = both (ptr_val null_ptr) h in
      nothing t $ move t (1 ∷ 0 ∷ []) $ fjoin t $ feq_i t (List Val) (ptr_val null_ptr ∷ []) (ptr_val null_ptr ∷ []) refl $ fjoin t $ feq_i t (List Val) (v ∷ []) (v ∷ []) refl $ fjoin t $
      fpack t (Valss (RawPtr ∷ Z ∷ [])) (within (shape loose.the_type) (null_ptr, (heap.the_field.into a, tt)) (v ∷ [])) (ptr_val null_ptr ∷ [], (h ∷ [], tt)) $
      nothing t $ move t (1 ∷ 0 ∷ []) $ fjoin t $ s)
