-- `modbus::reply::value` meets its contract. Assumes nothing.
use mathlib.Core.Path.{refl, sym, ◌∙◌}
use mathlib.Core.List.{List, ◌∷◌}
use Prim.Native.Nat.{ℕ}
use lib.Ieee.{Float}
use Rattle.binary32.specs.Wire.{sent}
use Rattle.integers.proofs.Puts.{joined}
use Rattle.modbus.specs.Frame.{station_of}
use Rattle.modbus.proofs.Replies.{replied}
use Rattle.modbus.proofs.reply.value.Goals as goal

abbrev text : List ℕ → Float → List ℕ
text s x = station_of s ∷ 3 ∷ 4 ∷ sent x

pub returns : goal.returns
returns c =
    let speaks = sym c.is_silent.ensures ∙ c.if-is_silent.false in
    replied c.args.frame.now c.args.reply.now (text c.args.frame.now c.args.x) speaks (joined c.put_three.ensures refl c.put_float.ensures) c.end.ensures
