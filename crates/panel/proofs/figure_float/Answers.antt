-- `panel::figure_float` meets its contract, by the scale of the register. Assumes nothing.
use mathlib.Core.Path.{◌≡◌, refl, sym, ap, ◌∙◌}
use Prim.Native.Nat.{ℕ, ◌^◌, ◌≤◌}
use native.Mathlib.Nat.{le_trans}
use native.Mathlib.Omega.{arith}
use lib.Dec.{T, le→leb, lt→ltb}
use lib.IntN.{ℤ, pos, negsuc, nat_abs}
use mir.Syntax.{w64}
use mir.Val.{to_z, of_z}
use lib.Ieee.{binary32, of_int, in_float}
use Rattle.integers.specs.Within.{◌within◌}
use Rattle.integers.proofs.Machine.{held}
use Rattle.figures.specs.declared.Calibration.{Calibration}
use Rattle.binary32.specs.Sent.{count_float}
use Rattle.binary32.specs.declared.received.Range.{Range}
use Rattle.register.specs.Register.{range_of}
use Rattle.register.proofs.Registers.{range-computable, whole-range, step_range}
use Rattle.panel.specs.Figure.{figure_at, figure_float}
use Rattle.panel.proofs.figure_float.Goals.{After-range_of}
use Rattle.panel.proofs.figure_float.Goals as goal

in-steps : (c : Calibration) (n : ℕ) {z : ℤ} → (range_of n).shift ≡ 16 → (figure_at c n) within (nat_abs (range_of n).most) → z ≡ figure_at c n → z within 4194304000
in-steps c n k h e = rw e (record { abs = le_trans h.abs (step_range n k) })

in-scale : (c : Calibration) (n : ℕ) {z : ℤ} → (figure_at c n) within (nat_abs (range_of n).most) → z ≡ figure_at c n → z within 17179869184
in-scale c n h e = rw e (record { abs = le_trans h.abs (range-computable n).most_in.abs })

at-scale : (c : Calibration) (n k : ℕ) {z : ℤ} → (range_of n).shift ≡ k → z ≡ figure_at c n → count_float k z ≡ figure_float c n
unfolding figure_float
at-scale c n k e h = rw (sym e, h)

whole_float : (z : ℤ) → of_int binary32 z ≡ count_float 0 z
unfolding of_int count_float
whole_float (pos n) = refl
whole_float (negsuc n) = refl

whole_in : (z : ℤ) → nat_abs z ≤ 65535 → T (in_float binary32 z)
unfolding in_float
whole_in (pos n) h = le→leb n (2 ^ 24) (omega arith)
whole_in (negsuc n) h = lt→ltb n (2 ^ 24) (omega arith)

shift_is : (n k : ℕ) {r : Range} → r ≡ range_of n → r.shift ≡ k → (range_of n).shift ≡ k
shift_is n k e h = rw e at h

-- after both calls: the figure, and the scale
figure-is : (r : After-range_of) → to_z w64 (of_z w64 r.figure_at-figure.result) ≡ figure_at r.args.c.now r.args.register
figure-is r = held r.figure_at-figure.type_inv r.figure_at-figure.ensures

whole-at : (r : After-range_of) → (r.range_of.result.shift ≡ 28 → ⊥) → (r.range_of.result.shift ≡ 16 → ⊥)
    → let n = r.args.register in ((range_of n).shift ≡ 0) × (nat_abs (range_of n).most ≤ 65535)
whole-at r p q =
    let n = r.args.register in
    let is = ap (λ (t : Range). t.shift) r.range_of.ensures in
    whole-range n (λ h. p (is ∙ h)) (λ h. q (is ∙ h))

pub float_of_parts-requires : goal.float_of_parts-requires
float_of_parts-requires c = let r = (goal.at.float_of_parts-requires c).After-range_of in in-scale r.args.c.now r.args.register r.requires (figure-is r)

pub returns-in-28 : goal.returns-in-28
returns-in-28 c =
    let r = (goal.at.returns-in-28 c).After-range_of in
    c.float_of_parts.ensures ∙ at-scale r.args.c.now r.args.register 28 (shift_is r.args.register 28 r.range_of.ensures c.in-28.is) (figure-is r)

pub float_of_steps-requires : goal.float_of_steps-requires
float_of_steps-requires c =
    let r = (goal.at.float_of_steps-requires c).After-range_of in
    in-steps r.args.c.now r.args.register (shift_is r.args.register 16 r.range_of.ensures c.in-16.is) r.requires (figure-is r)

pub returns-in-16 : goal.returns-in-16
returns-in-16 c =
    let r = (goal.at.returns-in-16 c).After-range_of in
    c.float_of_steps.ensures ∙ at-scale r.args.c.now r.args.register 16 (shift_is r.args.register 16 r.range_of.ensures c.in-16.is) (figure-is r)

pub int_to_float-result : goal.int_to_float-result
int_to_float-result c =
    let r = (goal.at.int_to_float-result c).After-range_of in
    let w = whole-at r (λ e. omega (arith, e)) (λ e. omega (arith, e)) in
    rw (figure-is r) (whole_in (figure_at r.args.c.now r.args.register) (le_trans r.requires.abs w.1))

pub returns-in_default : goal.returns-in_default
returns-in_default c =
    let r = (goal.at.returns-in_default c).After-range_of in
    let w = whole-at r (λ e. omega (arith, e)) (λ e. omega (arith, e)) in
    ap (of_int binary32) (figure-is r) ∙ whole_float (figure_at r.args.c.now r.args.register) ∙ at-scale r.args.c.now r.args.register 0 w.0 refl
