-- What came of the look for a head.
use Rattle.std.specs.Prelude.{◌≡◌}
use Rattle.rt_http.specs.Incomings.{Incoming, IsHandshake, IsHeadTaken, IsOpen}
use Rattle.rt_http.specs.declared.request.Begun.{Begun}
use Rattle.rt_http.specs.declared.request.Begun.TheVariants as begun

abbrev pub IsBegun : Incoming → Begun → Incoming → Type 0
IsBegun a begun.More b = IsOpen a × (b ≡ a)
IsBegun a begun.Upgrade b = IsHandshake a b
IsBegun a (begun.Head marks) b = IsHeadTaken a marks b
