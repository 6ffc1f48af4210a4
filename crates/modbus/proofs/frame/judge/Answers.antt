-- `modbus::frame::judge` meets its contract: a frame for us has a function. Assumes nothing.
use mathlib.Core.Path.{◌≡◌, sym, ◌∙◌}
use mathlib.Core.Bool.{true}
use mathlib.Core.List.{List}
use Prim.Native.Nat.{ℕ, ◌<◌}
use native.Mathlib.Omega.{arith}
use lib.ListN.{length}
use Rattle.modbus.specs.Frame.{for_us}
use Rattle.modbus.proofs.ForUs.{is_for_us}
use Rattle.modbus.proofs.frame.judge.Goals as goal

long : (s : List ℕ) (station : ℕ) → for_us s station ≡ true → 1 < length s
long s station h = let n = ((is_for_us s station).0 h).least in omega arith

pub bounds-frame-1 : goal.bounds-frame-1
bounds-frame-1 c = long c.args.frame.now c.args.station (sym c.for_us.ensures ∙ c.if-not-for_us.false)
