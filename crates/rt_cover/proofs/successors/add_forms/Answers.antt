use Rattle.std.proofs.Common.{rules, ◌≡◌, ◌+◌, ◌<◌, ◌||◌, ◌&&◌, ◌++◌, ℕ, Bool, true, false, not, List, length, get_or, Some, sym, ap, subst, ◌∙◌, arith}
use Rattle.std.specs.Prelude.{IfSome}
use Rattle.std.specs.List.{list_any}
use Rattle.std.proofs.lemmas.List.Folds.{list_any-append}
use Rattle.rt_tree.specs.TreeEq.{both_first, both_second}
use Rattle.rt_query.specs.Supply.{does_supply}
use Rattle.rt_cover.specs.Cover.{Tagged}
use Rattle.rt_cover.specs.inside.Widest.{Entry, has_left, is_wider_at, leads, IsAmong}
use Rattle.rt_cover.proofs.AnyLaws.{any_at, any_more}
use Rattle.rt_cover.proofs.TopLaws.{an_entry, none_of_it, told_without}
use Rattle.rt_cover.proofs.WidestLaws.{among_more, among_within}
use Rattle.rt_cover.proofs.successors.add_forms.Goals as goal
use Rattle.rt_cover.proofs.successors.add_forms.Goals.{then-goes_in+in_ok-extend_from_slice, else-goes_in}

pub goes_in-requires-clause-among : goal.goes_in-requires-clause-among
goes_in-requires-clause-among g c =
    let lt : c.loop-place.place < length c.args.entries.now = c.loop-place-test.true in
    among_within c.loop-place.place (length c.args.entries.now) c.loop-place.last (omega (arith, lt)) c.loop-place.invariant.among

pub loop-place-preserved : goal.loop-place-preserved
loop-place-preserved g c =
    let ended = g.E.EndedListeners.ended c.args.ending.now in
    let es : List Entry = c.args.entries.now in
    let ks : List Tagged = c.args.ranges.now in
    let n : ℕ = c.loop-place.place in
    let lt : n < length es = c.loop-place-test.true in
    let old : List ℕ = c.loop-place.numbers.items in
    let supplied : Entry → Bool = λ e. list_any (λ (k : Tagged). does_supply k.form e.0) ks in
    let told : (d : Entry) → c.goes_in.result ≡ (leads ended es d n c.loop-place.last && supplied (get_or es n d)) = c.goes_in.ensures in
    elim c.if-goes_in.branch [
      | then-goes_in+in_ok-extend_from_slice w ↦
          let yes : c.goes_in.result ≡ true = search rules in
          let e : Entry = w.index-entries-place.result in
          let is : e ≡ get_or es n e = search rules in
          let both : (leads ended es e n c.loop-place.last && supplied (get_or es n e)) ≡ true = sym (told e) ∙ yes in
          let here : supplied e ≡ true = ap supplied is ∙ both_second (leads ended es e n c.loop-place.last) (supplied (get_or es n e)) both in
          let now : c.if-goes_in.numbers.items ≡ old ++ e.1 = search rules in
          let last : c.if-goes_in.last ≡ Some n = search rules in
          record {
            told = λ t tops.
                any_more (λ (x : Entry). supplied x && list_any t x.1) (list_any t old) (list_any t c.if-goes_in.numbers.items) _ es n e lt is
                (ap (list_any t) now ∙ list_any-append t old e.1 ∙ ap (λ b. list_any t old || (b && list_any t e.1)) (sym here))
                (c.loop-place.invariant.told t tops);
            among = subst (IsAmong (n + 1)) (sym last) (omega arith);
            left = λ d. subst (λ o. IfSome o (λ k. has_left ended (get_or es k d) ≡ true)) (sym last)
                (both_second (not (is_wider_at es d (get_or es n d).0 c.loop-place.last)) (has_left ended (get_or es n d)) (both_first (leads ended es d n c.loop-place.last) (supplied (get_or es n d)) (sym (told d) ∙ yes)));
          }
      | else-goes_in w ↦
          let no : c.goes_in.result ≡ false = search rules in
          let same : c.if-goes_in.numbers.items ≡ old = search rules in
          let last : c.if-goes_in.last ≡ c.loop-place.last = search rules in
          let d : Entry = an_entry es n lt in
          record {
            told = λ t tops.
                any_at (λ (x : Entry). supplied x && list_any t x.1) (list_any t old) (list_any t c.if-goes_in.numbers.items) _ es n d lt
                (ap (list_any t) same
                ∙ told_without (list_any t old) (leads ended es d n c.loop-place.last) (supplied (get_or es n d)) (list_any t (get_or es n d).1) (sym (told d) ∙ no)
                (λ passed. none_of_it ended es n lt d c.loop-place.last c.loop-place.invariant.among (c.loop-place.invariant.left d) passed t tops))
                (c.loop-place.invariant.told t tops);
            among = subst (IsAmong (n + 1)) (sym last) (among_more n c.loop-place.last c.loop-place.invariant.among);
            left = λ d. subst (λ o. IfSome o (λ k. has_left ended (get_or es k d) ≡ true)) (sym last) (c.loop-place.invariant.left d);
          }
    ]
