-- Invariant: what is left of the word, on top of what is stored, makes up its bytes. Assumes nothing.
use Prim.Native.Nat.{◌+◌, ◌-◌, suc}
use lib.ListN.{length-set}
use mathlib.Core.Path.{◌≡◌, refl}
use native.Mathlib.Omega.{arith}
use Rattle.integers.proofs.Words.{length-bytes}
use Rattle.integers.proofs.bytes.put_word.Goals as goal

pub loop-i-init : goal.loop-i-init
loop-i-init c =
    let a = c.args in
    let e : a.at + 0 ≡ a.at = omega arith in
    let d : a.count - 0 ≡ a.count = omega arith in
    (rw (e, d), refl, omega arith)

pub loop-i-preserved : goal.loop-i-preserved
loop-i-preserved c =
    let l = c.loop-i in
    let a = c.args in
    let e : a.at + (l.i + 1) ≡ suc (a.at + l.i) = omega arith in
    let d : a.count - l.i ≡ suc (a.count - (l.i + 1)) = omega arith in
    (rw e (rw d at l.invariant.0), simp length-set l.invariant.1, omega arith)

pub returns : goal.returns
returns c =
    let a = c.args in
    let e : a.count - c.loop-i.i ≡ 0 = omega arith in
    record { is = rw e at c.loop-i.invariant.0; next = omega (arith, length-bytes a.count a.word); fits = omega arith }
