use Rattle.std.proofs.Common.{rules, ◌≡◌, ◌<◌, ◌+◌, ◌++◌, ◌∷◌, [], ℕ, List, Option, length, get_or, sym, ap, subst, arith, ◌∙◌}
use Rattle.std.specs.List.{All}
use Rattle.std.proofs.lemmas.List.{length_push}
use Rattle.std.proofs.lemmas.List.Elements.{All-push}
use Rattle.rt_cover.specs.inside.Widest.{Entry, IsAmong, IsWidest}
use Rattle.rt_cover.proofs.WidestLaws.{among_within, none_yet, place_more}
use Rattle.rt_cover.proofs.supply.places_of_widest.Goals as goal

pub loop-place-init : goal.loop-place-init
loop-place-init g c = record {
  len = search rules;
  among = tt;
  widest = none_yet (g.E.EndedListeners.ended c.args.ending.now) c.args.entries.now;
  places = search rules;
  each = λ n o lt. absurd (omega (arith, lt));
}

pub wider_of-widest-requires-clause-among : goal.wider_of-widest-requires-clause-among
wider_of-widest-requires-clause-among g c = c.loop-place.invariant.among

pub wider_of-widest-requires-clause-widest : goal.wider_of-widest-requires-clause-widest
wider_of-widest-requires-clause-widest g c = c.loop-place.invariant.widest

pub loop-place-preserved : goal.loop-place-preserved
loop-place-preserved g c =
    let ended = g.E.EndedListeners.ended c.args.ending.now in
    let es : List Entry = c.args.entries.now in
    let n : ℕ = c.loop-place.place in
    let o : Option ℕ = c.wider_of-widest.result in
    let ps : List (Option ℕ) = c.loop-place.places.items in
    let lt : n < length es = c.loop-place-test.true in
    let items : c.push.new.self.items ≡ ps ++ o ∷ [] = search rules in
    record {
      len = ap length items ∙ length_push ps o ∙ ap (λ k. k + 1) c.loop-place.invariant.len;
      among = c.wider_of-widest.ensures.among;
      widest = c.wider_of-widest.ensures.widest;
      places = subst (All (IsAmong (length es))) (sym items) (All-push (IsAmong (length es)) ps o c.loop-place.invariant.places (among_within (n + 1) (length es) o (omega (arith, lt)) c.wider_of-widest.ensures.among));
      each = λ k x less. subst (λ xs. IsWidest ended es (k + 1) (get_or xs k x)) (sym items) (place_more ended es ps n o c.loop-place.invariant.len c.wider_of-widest.ensures.widest c.loop-place.invariant.each k x less);
    }

pub returns : goal.returns
returns g c =
    let es : List Entry = c.args.entries.now in
    let end : c.loop-place.place ≡ length es = search rules in
    record {
      len = c.loop-place.invariant.len ∙ end;
      among = c.loop-place.invariant.places;
      each = λ n o lt. c.loop-place.invariant.each n o (omega (arith, lt, end));
    }
