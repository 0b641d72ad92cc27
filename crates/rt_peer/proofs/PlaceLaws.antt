-- That listens rise where one is kept among them.
use Rattle.std.proofs.Common.{◌≡◌, ℕ, Bool, true, false, not, nat_lt, ◌==◌, ◌&&◌, ◌||◌, List, refl, sym, arith, slice_index_or}
use Rattle.std.specs.List.{AllPairs, filter}
use Rattle.std.proofs.lemmas.Bool.Decides.{nat_tests}
use Rattle.std.proofs.lemmas.List.Elements.{filter_passes}
use Rattle.std.proofs.lemmas.List.Kept.{AllPairs-filter}
use Rattle.rt_peer.specs.Peers.{Listen, in_place, is_at, is_before}
use Rattle.rt_peer.proofs.Places.{pairs-in_place}

abbrev pub Rise : Listen → Listen → Type 0
Rise l m = is_before l m ≡ true

through : (a b c d e f : ℕ) → (nat_lt a c || a == c && nat_lt b d) ≡ true
    → (nat_lt c e || c == e && nat_lt d f) ≡ true → (nat_lt a e || a == e && nat_lt b f) ≡ true
through a b c d e f h k = grind (arith, nat_tests)

-- what is kept rises
pub rises_kept : (x : Listen) (ls : List Listen) → AllPairs Rise ls
    → AllPairs Rise (in_place is_before x (filter (λ l. not (is_at x.connection x.tag l)) ls))
rises_kept x ls rise =
    let others = filter (λ l. not (is_at x.connection x.tag l)) ls in
    pairs-in_place Rise is_before x others
    (AllPairs-filter Rise (λ l. not (is_at x.connection x.tag l)) ls rise)
    (λ k d lt b. behind_or (slice_index_or others k d) (filter_passes (λ l. not (is_at x.connection x.tag l)) ls k d lt) b)
    (λ m b. b)
    (λ a b before after. through a.connection a.tag x.connection x.tag b.connection b.tag before after)
  where
    not_true : (b : Bool) → not b ≡ true → b ≡ false
    not_true true e = sym e
    not_true false e = refl

    before_other : (a b c d : ℕ) → (nat_lt c a || c == a && nat_lt d b) ≡ false → (a == c && b == d) ≡ false
        → (nat_lt a c || a == c && nat_lt b d) ≡ true
    before_other a b c d h k = grind (arith, nat_tests)

    behind_or : (m : Listen) → not (is_at x.connection x.tag m) ≡ true → is_before x m ≡ false → is_before m x ≡ true
    behind_or m e b = before_other m.connection m.tag x.connection x.tag b (not_true _ e)
