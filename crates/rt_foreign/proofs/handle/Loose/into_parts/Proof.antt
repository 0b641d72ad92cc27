-- `into_parts` moves the pointer back.
use Rattle.std.proofs.Common.{◌≡◌, List, [], ◌∷◌, ◌++◌, Some, true, refl, sym, subst}
use mir.Val.{Val, vptr}
use base.Logic.{SProp, ent, emp, id⊢}
use base.Fml.{ftrue}
use prog.Wp.{WpFn}
use types.Kit.{‵, raw, ◌⊛◌, ◌$◌, ◌∵◌, !, qed, by, move, keep, split, fsplit, fjoin, suffices, use0}
use types.Run.{stop, fld, of_opd, no_more, and_then, returns, enter}
use types.ByLocal.{alloc_all, pass_all, free_all, look_at, get, get_in, sets}
use types.Part.{agg, sub, whole}
use contract.Monad.{fact, fact_i}
use contract.Running.{tables}
use denote.Exit.{yes}
use denote.RattleType.{owns}
use denote.Signature.{types_at, plain}
use denote.RawPtr.{block_ptr}
use denote.Steps.{nothing, heard}
use denote.Triple.Walked.{Stays, stay_dropped, walk_of, Goes-dropped}
use Rattle.std.specs.Prelude.{is_some}
use Rattle.std.proofs.raw_atomic.Walks.{proved_at, leaves}
use Rattle.rt_foreign.specs.declared.handle.HandleContent.{HandleContent}
use Rattle.rt_foreign.proofs.Handles.{both, both_good, Loose, some_of, loose_out, parts_in}
use Rattle.rt_foreign.specs.contracts.handle.Loose.into_parts as F
use Rattle.rt_foreign.proofs.handle.Loose.into_parts.Statement.{statement}
use Rattle.rt_foreign.proofs.handle.Loose.into_parts.Code as code

pub into_parts_spec : {M : Type 1} → statement M
into_parts_spec 𝓤 𝓛 𝓜 𝓡 wired =
    let H = 𝓛.H in let 𝓣 = tables 𝓤 H 𝓜 𝓡 𝓡.env in let c = F.clauses 𝓛 𝓜.mem 𝓡.returns in let fn = code.function in
    let hs : Stays F.ended.signature.params F.ended.kept = (stay_dropped (plain (λ _. Loose)) yes, tt) in
    proved_at 𝓛 F.ended hs c 𝓜 𝓡 (Goes-dropped 𝓛 0 (plain (λ _. Loose)) yes (λ κs x f. refl), tt) F.Key.name fn (code.unfolded 𝓤 H 𝓜 𝓡 wired) (λ z are.
    let d = z.0.3.0 in let a = d.alloc in let Post : Val → SProp 𝓤 = (walk_of 𝓛 F.ended hs c).post z in let Run : List Val → SProp 𝓤 = λ ws. WpFn 𝓤 H 𝓣.C 𝓣.Λ fn ws Post in
    qed 𝓛 ((‵ ftrue ⊛ ‵ (owns (types_at F.ended.signature.params z.0.0) z.0.3 z.0.4)) ∷ raw (fact 𝓤 (is_some d.value ≡ true)) ∷ []) ∵ move ! (1 ∷ []) $ heard ! (is_some d.value ≡ true) (λ req.
    let s : (x : HandleContent) × (d.value ≡ Some x) = some_of d.value req in let x : HandleContent = s.0 in
    split ! $ move ! (1 ∷ []) $ fsplit ! $ loose_out ! d x s.1 z.0.4.0 (λ b o h e ws fits.
    let w : Val = both (vptr b o) h in let typed = both_good b o h fits in
    suffices ! (Run (w ∷ [])) (subst (λ (us : List Val). ent 𝓤 (Run (w ∷ [])) (Run us)) (sym (λ i. ws i ++ [])) (id⊢ 𝓤 (Run (w ∷ [])))) $
    enter ! 𝓣.C 𝓣.Λ fn (w ∷ []) Post $ alloc_all ! (λ l. pass_all ! refl (typed, tt) $
    sets ! (of_opd ! (get_in ! (fld ! refl (stop !)) (sub ! 0 refl (whole !)))) refl (tt, tt) $ sets ! (of_opd ! (get_in ! (fld ! refl (stop !)) (sub ! 1 refl (whole !)))) refl fits $
    sets ! (of_opd ! (get ! refl)) refl (tt, tt) $ sets ! (agg ! (and_then ! (get ! refl) (and_then ! (get ! refl) (no_more !)))) refl typed $
    parts_in ! b o h a x $ use0 𝓛 (raw (fact 𝓤 (Some x ≡ d.value))) (fact_i 𝓤 (Some x ≡ d.value) (emp 𝓤) (sym s.1)) $ nothing ! $ nothing ! $ fjoin ! $
    returns ! (look_at ! 0 refl) $ free_all ! refl $ keep ! (4 ∷ 0 ∷ 2 ∷ 1 ∷ []) $ by ! (leaves 𝓛 F.ended hs c z w (record { ptr = block_ptr b o; alloc = a; value = x }) (tt, tt) (tt, tt))))))
