-- How many bytes what is kept takes.
use Rattle.std.proofs.Common.{◌≡◌, ℕ, ◌+◌, ◌-◌, ◌^◌, ◌≤◌, min, List, [], ◌∷◌, ◌++◌, ap, ◌∙◌, arith}
use Rattle.rt_connect.specs.declared.link.ServerFrame.{ServerFrame}
use Rattle.rt_connect.specs.Ahead.{byte_count, cost_of}

cost_push : (ts : List ServerFrame) (t : ServerFrame) → cost_of (ts ++ t ∷ []) ≡ cost_of ts + byte_count t + 64
cost_push [] t = omega arith
cost_push (u ∷ us) t = let h : cost_of (us ++ t ∷ []) ≡ cost_of us + byte_count t + 64 = cost_push us t in omega (arith, h)

-- one more is kept, within the most
pub kept_cost : (ts us : List ServerFrame) (t : ServerFrame) (cost len sum more : ℕ) → cost ≡ cost_of ts → len ≡ byte_count t
    → sum ≡ min (cost + len) (2 ^ 64 - 1) → more ≡ min (sum + 64) (2 ^ 64 - 1) → more ≤ 268435456
    → us ≡ ts ++ t ∷ [] → more ≡ cost_of us
kept_cost ts us t cost len sum more is size first second most kept =
    let all : cost_of us ≡ cost_of ts + byte_count t + 64 = ap cost_of kept ∙ cost_push ts t in
    omega (arith, is, size, first, second, most, all)
