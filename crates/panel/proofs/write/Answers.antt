-- `panel::write` meets its contract: the count of what is written, at its register. Assumes nothing.
use mathlib.Core.Path.{◌≡◌, sym, ap, ◌∙◌}
use mathlib.Core.Bool.{false}
use Prim.Native.Nat.{ℕ}
use native.Mathlib.Omega.{arith}
use lib.IntN.{ℤ}
use mir.Syntax.{w64}
use mir.Val.{to_z, of_z}
use borrow.Author.Rules.{rules}
use Rattle.integers.proofs.Machine.{held}
use Rattle.figures.specs.Representable.{Representable}
use Rattle.figures.specs.declared.Calibration.{Calibration}
use Rattle.binary32.specs.Received.{counted}
use Rattle.binary32.specs.ForCode.{Computable}
use Rattle.binary32.specs.declared.received.Range.{Range}
use Rattle.register.specs.Register.{range_of}
use Rattle.register.proofs.Registers.{range-computable}
use Rattle.panel.specs.Figure.{cell_with, system_with, filter_with, with_figure, written}
use Rattle.panel.proofs.Places.{counts-written, byte-fits}
use Rattle.panel.specs.ForCode.{Counts}
use Rattle.panel.proofs.Written.{single, Aside, before, between, amid, past, around, aside, in-linearity, in-temperature, nowhere, clx-written, clk-written, ct-written, ctg-written, cto-written}
use Rattle.panel.proofs.write.Goals.{After-count-z}
use Rattle.panel.proofs.write.Goals as goal

of_range : (n : ℕ) {r : Range} → r ≡ range_of n → Computable r
of_range n e = rw e (range-computable n)

-- after the count is taken
module _ (e : After-count-z) where
  abbrev figures : Calibration
  figures = e.args.c.now

  -- the count as the machine holds it
  abbrev count : ℤ
  count = to_z w64 (of_z w64 e.count-z.result)

  of-count : count ≡ counted (range_of e.args.register) e.args.x
  of-count = held e.count-z.type_inv e.count-z.ensures ∙ ap (λ (r : Range). counted r e.args.x) e.range_of.ensures

  counts : Counts e.args.register count
  counts = rw of-count (counts-written e.args.register e.args.x)

  made : {d : Calibration} → d ≡ with_figure e.args.register count figures → d ≡ written figures e.args.register e.args.x
  unfolding written
  made h = h ∙ ap (λ (z : ℤ). with_figure e.args.register z figures) of-count

  -- at the register k, which is in no column
  at : (r : Representable figures) (k : ℕ) → e.args.register ≡ k → Aside k → around figures r k count figures.temperature.points figures.linearity.points ≡ written figures e.args.register e.args.x
  at r k h a = made (aside figures r k count a ∙ ap (λ (n : ℕ). with_figure n count figures) (sym h))

pub count-z-requires : goal.count-z-requires
count-z-requires c = of_range c.args.register c.range_of.ensures

pub overflow_cast-c : goal.overflow_cast-c
overflow_cast-c c = byte-fits _ ((counts (goal.at.overflow_cast-c c).After-count-z).clx_count c.in-50.is)

pub overflow_cast-c-in-110 : goal.overflow_cast-c-in-110
overflow_cast-c-in-110 c = byte-fits _ ((counts (goal.at.overflow_cast-c-in-110 c).After-count-z).ct_count c.in-110.is)

pub returns-in-40 : goal.returns-in-40
unfolding cell_with system_with filter_with
returns-in-40 c = at (goal.at.returns-in-40 c).After-count-z (record { five = search rules; seven = search rules }) 40 c.in-40.is (before (omega arith))

pub returns-in-41 : goal.returns-in-41
unfolding cell_with system_with filter_with
returns-in-41 c = at (goal.at.returns-in-41 c).After-count-z (record { five = search rules; seven = search rules }) 41 c.in-41.is (before (omega arith))

pub returns-in-44 : goal.returns-in-44
unfolding cell_with system_with filter_with
returns-in-44 c = at (goal.at.returns-in-44 c).After-count-z (record { five = search rules; seven = search rules }) 44 c.in-44.is (before (omega arith))

pub returns-in-45 : goal.returns-in-45
unfolding cell_with system_with filter_with
returns-in-45 c = at (goal.at.returns-in-45 c).After-count-z (record { five = search rules; seven = search rules }) 45 c.in-45.is (before (omega arith))

pub returns-in-50 : goal.returns-in-50
unfolding cell_with system_with filter_with
returns-in-50 c = at (goal.at.returns-in-50 c).After-count-z (record { five = search rules; seven = search rules }) 50 c.in-50.is (before (omega arith))

pub returns-in-70 : goal.returns-in-70
unfolding cell_with system_with filter_with
returns-in-70 c = at (goal.at.returns-in-70 c).After-count-z (record { five = search rules; seven = search rules }) 70 c.in-70.is (amid (omega arith) (omega arith))

pub returns-in-71 : goal.returns-in-71
unfolding cell_with system_with filter_with
returns-in-71 c = at (goal.at.returns-in-71 c).After-count-z (record { five = search rules; seven = search rules }) 71 c.in-71.is (amid (omega arith) (omega arith))

pub returns-in-74 : goal.returns-in-74
unfolding cell_with system_with filter_with
returns-in-74 c = at (goal.at.returns-in-74 c).After-count-z (record { five = search rules; seven = search rules }) 74 c.in-74.is (amid (omega arith) (omega arith))

pub returns-in-75 : goal.returns-in-75
unfolding cell_with system_with filter_with
returns-in-75 c = at (goal.at.returns-in-75 c).After-count-z (record { five = search rules; seven = search rules }) 75 c.in-75.is (amid (omega arith) (omega arith))

pub returns-in-92 : goal.returns-in-92
unfolding cell_with system_with filter_with
returns-in-92 c = at (goal.at.returns-in-92 c).After-count-z (record { five = search rules; seven = search rules }) 92 c.in-92.is (amid (omega arith) (omega arith))

pub returns-in-93 : goal.returns-in-93
unfolding cell_with system_with filter_with
returns-in-93 c = at (goal.at.returns-in-93 c).After-count-z (record { five = search rules; seven = search rules }) 93 c.in-93.is (amid (omega arith) (omega arith))

pub returns-in-110 : goal.returns-in-110
unfolding cell_with system_with filter_with
returns-in-110 c = at (goal.at.returns-in-110 c).After-count-z (record { five = search rules; seven = search rules }) 110 c.in-110.is (amid (omega arith) (omega arith))

pub returns-then-register-lt50 : goal.returns-then-register-lt50
returns-then-register-lt50 c =
    let e = (goal.at.returns-then-register-lt50 c).After-count-z in
    let single : single c.args.register ≡ false = search rules in
    made e (nowhere (figures e) (record { five = search rules; seven = search rules }) c.args.register (count e) single (before (omega arith)))

pub returns-then-register-lt61 : goal.returns-then-register-lt61
returns-then-register-lt61 c =
    let e = (goal.at.returns-then-register-lt61 c).After-count-z in
    let single : single c.args.register ≡ false = search rules in
    made e (nowhere (figures e) (record { five = search rules; seven = search rules }) c.args.register (count e) single (between (omega arith) (omega arith)))

pub returns-then-register-lt110 : goal.returns-then-register-lt110
returns-then-register-lt110 c =
    let e = (goal.at.returns-then-register-lt110 c).After-count-z in
    let single : single c.args.register ≡ false = search rules in
    made e (nowhere (figures e) (record { five = search rules; seven = search rules }) c.args.register (count e) single (amid (omega arith) (omega arith)))

pub returns-else-register-lt126 : goal.returns-else-register-lt126
returns-else-register-lt126 c =
    let e = (goal.at.returns-else-register-lt126 c).After-count-z in
    let single : single c.args.register ≡ false = search rules in
    made e (nowhere (figures e) (record { five = search rules; seven = search rules }) c.args.register (count e) single (past (omega arith)))

pub returns-in-51-to-57 : goal.returns-in-51-to-57
returns-in-51-to-57 c =
    let e = (goal.at.returns-in-51-to-57 c).After-count-z in
    let n = c.args.register in
    let r : Representable (figures e) = record { five = search rules; seven = search rules } in
    let single : single n ≡ false = search rules in
    made e (in-linearity (figures e) r n (count e) single (omega arith) (clx-written n (count e) (figures e).linearity.points r.seven (omega arith) (omega arith)))

pub returns-in-61-to-67 : goal.returns-in-61-to-67
returns-in-61-to-67 c =
    let e = (goal.at.returns-in-61-to-67 c).After-count-z in
    let n = c.args.register in
    let r : Representable (figures e) = record { five = search rules; seven = search rules } in
    let single : single n ≡ false = search rules in
    made e (in-linearity (figures e) r n (count e) single (omega arith) (clk-written n (count e) (figures e).linearity.points r.seven (omega arith) (omega arith)))

pub returns-in-111-to-115 : goal.returns-in-111-to-115
returns-in-111-to-115 c =
    let e = (goal.at.returns-in-111-to-115 c).After-count-z in
    let n = c.args.register in
    let r : Representable (figures e) = record { five = search rules; seven = search rules } in
    let single : single n ≡ false = search rules in
    made e (in-temperature (figures e) r n (count e) single (omega arith) (ct-written n (count e) (figures e).temperature.points r.five (omega arith) (omega arith)))

pub returns-in-116-to-120 : goal.returns-in-116-to-120
returns-in-116-to-120 c =
    let e = (goal.at.returns-in-116-to-120 c).After-count-z in
    let n = c.args.register in
    let r : Representable (figures e) = record { five = search rules; seven = search rules } in
    let single : single n ≡ false = search rules in
    made e (in-temperature (figures e) r n (count e) single (omega arith) (ctg-written n (count e) (figures e).temperature.points r.five (omega arith) (omega arith)))

pub returns-in-121-to-125 : goal.returns-in-121-to-125
returns-in-121-to-125 c =
    let e = (goal.at.returns-in-121-to-125 c).After-count-z in
    let n = c.args.register in
    let r : Representable (figures e) = record { five = search rules; seven = search rules } in
    let single : single n ≡ false = search rules in
    made e (in-temperature (figures e) r n (count e) single (omega arith) (cto-written n (count e) (figures e).temperature.points r.five (omega arith) (omega arith)))
