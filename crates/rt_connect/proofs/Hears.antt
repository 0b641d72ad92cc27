-- What is heard of a server, message by message.
use Rattle.std.proofs.Common.{◌≡◌, ℕ, zero, suc, ◌+◌, ◌-◌, ◌<◌, arith, Option, Some, None, refl, sym, subst}
use Rattle.rt_socket.specs.declared.wire.Heard.{Heard}
use Rattle.rt_connect.specs.declared.link.Lost.TheVariants.{Pings}
use Rattle.rt_connect.specs.declared.link.ServerEvent.{ServerEvent}
use Rattle.rt_connect.specs.declared.link.ServerEvent.TheVariants.{Ended}
use Rattle.rt_connect.specs.Hearing.{Hears, HearsAfter, HearsLast, Passes, told_of}

-- so far pings and pongs were passed over, and so many may still come
abbrev pub IsPassing : {W : Type 0} → (W → Heard → W → Type 0) → ℕ → W → ℕ → W → Type 0
IsPassing hears pings old left now = (count : ℕ) × Passes hears count old now × (count + left ≡ pings)

none_yet : (n : ℕ) → 0 + n ≡ n
none_yet n = omega arith

one_fewer : (count left pings : ℕ) → count + left ≡ pings → 0 < left → suc count + (left - 1) ≡ pings
one_fewer count left pings is pos = omega (arith, is, pos)

pub passing_none : {W : Type 0} (hears : W → Heard → W → Type 0) (pings : ℕ) (old : W)
    → IsPassing hears pings old pings old
passing_none hears pings old = (0, refl, none_yet pings)

-- what was given says that
says : {W : Type 0} (hears : W → Heard → W → Type 0) (old new : W) (given : Heard)
    (told heard : Option ServerEvent) → hears old given new → told ≡ told_of given → told ≡ heard
    → Hears hears old heard new
says hears old new given told heard h told_is is =
    record { given = given; comes = h; says = subst (λ x. x ≡ heard) told_is is }

pub passing_more : {W : Type 0} (hears : W → Heard → W → Type 0) (pings left : ℕ) (old now next : W)
    (given : Heard) (told : Option ServerEvent) → IsPassing hears pings old left now → 0 < left
    → hears now given next → told ≡ told_of given → told ≡ None → IsPassing hears pings old (left - 1) next
passing_more hears pings left old now next given told (count, passes, counted) pos h told_is is = (
  suc count,
  (now, passes, says hears now next given told None h told_is is),
  one_fewer count left pings counted pos,
)

last_heard : {W : Type 0} (hears : W → Heard → W → Type 0) (old new : W) (left : ℕ) (heard : ServerEvent)
    → 0 < left → Hears hears old (Some heard) new → HearsLast hears old heard left new
last_heard hears old new zero heard pos h = absurd (omega (arith, pos))
last_heard hears old new (suc left) heard pos h = h

-- that is heard
pub heard_now : {W : Type 0} (hears : W → Heard → W → Type 0) (pings left : ℕ) (old now new : W)
    (given : Heard) (told : Option ServerEvent) (heard : ServerEvent) → IsPassing hears pings old left now → 0 < left
    → hears now given new → told ≡ told_of given → told ≡ Some heard
    → HearsAfter hears pings old heard left new
heard_now hears pings left old now new given told heard (count, passes, counted) pos h told_is is = record {
  count = count;
  mid = now;
  passes = passes;
  counted = counted;
  last = last_heard hears now new left heard pos (says hears now new given told (Some heard) h told_is is);
}

-- as many came as may
pub heard_none : {W : Type 0} (hears : W → Heard → W → Type 0) (pings left : ℕ) (old now : W)
    → IsPassing hears pings old left now → left ≡ 0 → HearsAfter hears pings old (Ended Pings) left now
heard_none hears pings left old now (count, passes, counted) none =
    let here : HearsLast hears now (Ended Pings) 0 now = (refl, refl) in record {
      count = count;
      mid = now;
      passes = passes;
      counted = counted;
      last = subst (λ n. HearsLast hears now (Ended Pings) n now) (sym none) here;
    }
