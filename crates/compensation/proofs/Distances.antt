-- The distances in their second form, from the numbers of the first: what `Faithful` says is all that is used of them, so that a
-- larger number there is too weak here. Assumes nothing.
use mathlib.Core.Logic.{◌↔◌}
use Prim.Native.Nat.{ℕ}
use native.Mathlib.Omega.{arith}
use lib.IntN.{ℤ, pos, negsuc}
use lib.Signed.{◌<ℤ◌, clash_ℤ}
use Rattle.integers.proofs.Difference.{⟨◌⟩, nat, ◌⊕◌, ◌⊝◌, ◌⊗◌, le!, lt!, lt?, abs-above, abs-below}
use Rattle.integers.proofs.Order.{<-≤}
use Rattle.arithmetic.specs.Fraction.{Fraction, ◌over◌}
use Rattle.compensation.specs.Faithful.{Within, Farther, Above, Below}
use Rattle.compensation.specs.Stat.{Raised}
use Rattle.compensation.specs.Distances.{Between, FarBelow, FarAbove, Judges, AlwaysBetween}
use Rattle.compensation.proofs.Faithful.{faithful}

pub between : {k : ℕ} {x t l : ℤ} → Within k x (t over l) → Between k x (t over l)
between {l = negsuc n} w = absurd w.above.lt
between {k} {x} {t} {l = pos n} w =
    let X = ⟨ x ⟩ ⊗ nat n ⊝ ⟨ t ⟩ in (
      le! ((⟨ x ⟩ ⊝ nat k) ⊗ nat n) ⟨ t ⟩ (omega (arith, abs-above X, w.near)),
      le! ⟨ t ⟩ ((⟨ x ⟩ ⊕ nat k) ⊗ nat n) (omega (arith, abs-below X, w.near)),
    )

-- more than k below or above a limit is farther than k from it, and on that side
module _ (k : ℕ) (x t : ℤ) where
  far_below : (l : ℤ) → pos 0 <ℤ l → FarBelow k x (t over l) → Farther k x (t over l) × Below (t over l) x
  far_below (negsuc n) a h = absurd a.lt
  far_below (pos n) a h =
      let f = lt? ⟨ t ⟩ ((⟨ x ⟩ ⊝ nat k) ⊗ nat n) h in
      (omega (arith, f, abs-above (⟨ x ⟩ ⊗ nat n ⊝ ⟨ t ⟩)), lt! ⟨ t ⟩ (⟨ x ⟩ ⊗ nat n) (omega (arith, f)))

  far_above : (l : ℤ) → pos 0 <ℤ l → FarAbove k x (t over l) → Farther k x (t over l) × Above (t over l) x
  far_above (negsuc n) a h = absurd a.lt
  far_above (pos n) a h =
      let f = lt? ((⟨ x ⟩ ⊕ nat k) ⊗ nat n) ⟨ t ⟩ h in
      (omega (arith, f, abs-below (⟨ x ⟩ ⊗ nat n ⊝ ⟨ t ⟩)), lt! (⟨ x ⟩ ⊗ nat n) ⟨ t ⟩ (omega (arith, f)))

-- a flag of a range's lower end, and one of its upper end
module _ (k bit stat : ℕ) (limit : ℤ) (q : Fraction) (above : pos 0 <ℤ q.low) where
  is_below : FarBelow k limit q → Farther k limit q × Below q limit
  is_below = far_below k limit q.top q.low above

  is-above : FarAbove k limit q → Farther k limit q × Above q limit
  is-above = far_above k limit q.top q.low above

  under-judges : (Farther k limit q → Raised bit stat ↔ Below q limit) → Judges bit stat (FarBelow k limit q) (FarAbove k limit q)
  under-judges right = record { raised = λ b. (right (is_below b).0).1 (is_below b).1; left = λ a r. clash_ℤ (is-above a).1 (<-≤ ((right (is-above a).0).0 r)) }

  over-judges : (Farther k limit q → Raised bit stat ↔ Above q limit) → Judges bit stat (FarAbove k limit q) (FarBelow k limit q)
  over-judges right = record { raised = λ a. (right (is-above a).0).1 (is-above a).1; left = λ b r. clash_ℤ (is_below b).1 (<-≤ ((right (is_below b).0).0 r)) }

pub distances : AlwaysBetween
distances c elec temp integrity ok held =
    let f = faithful c elec temp integrity ok held in
    record {
      craw_between = between f.craw_near;
      cell_between = between f.cell_near;
      sraw_between = between f.sraw_near;
      sys_between = between f.sys_near;
      crawur_judges = under-judges 42 _ _ c.cell.cmin _ f.raw_cell_above f.crawur_right;
      crawor_judges = over-judges 42 _ _ c.cell.cmax _ f.raw_cell_above f.crawor_right;
      sysur_judges = under-judges 416 _ _ c.system.smin _ f.raw_system_above f.sysur_right;
      sysor_judges = over-judges 416 _ _ c.system.smax _ f.raw_system_above f.sysor_right;
    }
